use Rattle.std.proofs.Common.{◌∙◌, ap}
use Rattle.device_outside.specs.Disk.{disk_view}
use Rattle.deck_run.proofs.Opened.{empty_holds, none_spoiled}
use Rattle.deck_run.proofs.open.make_volume.Goals as goal

pub returns-clause-holds : goal.returns-clause-holds
returns-clause-holds c = λ none.
    empty_holds c.args.deck.now c.args.line (disk_view c.in_ok-volume.volume) c.deref.result.now c.deref-2.result.now c.requires
    (ap disk_view (c.in_ok-volume.ensures.volume ∙ none_spoiled _ _ _ none)) (c.deref.ensures.value ∙ c.in_ok-reads.ensures)
    (c.deref-2.ensures.value ∙ c.in_ok-writes.ensures)
