use Rattle.std.proofs.Common.{List, Option, ◌∙◌, refl, ap}
use Rattle.std.specs.Prelude.{option_map}
use Rattle.plain_defs.specs.declared.journal.Item.{Item}
use Rattle.plain_defs.specs.History.{OpenEntry}
use Rattle.device_core.specs.Kept.{open_of, history_of, waiting_in}
use Rattle.device_core.proofs.Acting.{keeps_roomed}
use Rattle.device_core.proofs.Pasts.{keeps_as}
use Rattle.device_core.proofs.history.Past.reserve_acts.Goals as goal

pub returns-clause-keeps : goal.returns-clause-keeps
returns-clause-keeps c =
    let p = c.args.self.now in
    keeps_as (record p { items = c.reserve.new.self; running = c.reserve_in.new.running }) (history_of p) p.kept p.powered
    (ap (λ (l : List Item). record { items = l; running = option_map open_of c.reserve_in.new.running; waiting = waiting_in p.kept })
    c.in_ok-reserve.ensures.items
    ∙ ap (λ (o : Option OpenEntry). record { items = p.items.items; running = o; waiting = waiting_in p.kept }) c.reserve_in.ensures.open) refl refl
    (keeps_roomed (history_of p) p.kept p.powered p.items.spare c.reserve.new.self.spare c.in_ok-reserve.ensures.room c.requires.keeps)
