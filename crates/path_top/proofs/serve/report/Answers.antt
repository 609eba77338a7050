use Rattle.path_top.specs.Devices.{all_told}
use Rattle.path_top.proofs.Told.{ran_front, ran_told}
use Rattle.path_top.proofs.serve.report.Goals as goal

pub returns-in-Ok-write_history-clause-told : goal.returns-in-Ok-write_history-clause-told
returns-in-Ok-write_history-clause-told g c =
    ran_told (g.B.VolumeBay.view c.args.bay.now) c.args.deck.now (all_told c.in-Ok.devices.items) c.unused_of.result c.unused_of.ensures
    c.in-Ok.ensures.numbers c.in-Ok.ensures.kept c.in-Ok.ensures.told _ _ (rw c.deref.ensures.value at c.in-Ok-write_history.ensures.text)

pub returns-clause-told : goal.returns-clause-told
returns-clause-told g c =
    ran_front (g.B.VolumeBay.view c.args.bay.now) c.args.deck.now (all_told c.in-Ok.devices.items) c.unused_of.result c.unused_of.ensures
    c.in-Ok.ensures.numbers c.in-Ok.ensures.kept c.in-Ok.ensures.told _ _ (rw c.deref.ensures.value at c.in-Err.ensures.text)
