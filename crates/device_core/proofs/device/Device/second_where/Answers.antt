use Rattle.std.proofs.Common.{◌∙◌, refl, sym, ap}
use Rattle.std.specs.Prelude.{option_map}
use Rattle.device_outside.proofs.Runs.{ended}
use Rattle.device_defs.specs.Contents.{contents}
use Rattle.device_defs.specs.Events.{second_of}
use Rattle.device_store.specs.State.{half_of}
use Rattle.device_store.proofs.Moves.{from_equal}
use Rattle.device_core.specs.State.{device_of}
use Rattle.device_core.proofs.Parts.{no_part, none_unmapped, some_mapped}
use Rattle.device_core.proofs.device.Device.second_where.Goals as goal

pub second_ready-requires-clause-open : goal.second_ready-requires-clause-open
second_ready-requires-clause-open g c = some_mapped half_of c.args.self.now.store.half (sym c.half_open.ensures ∙ c.if-half_open.true)

pub returns-clause-whole : goal.returns-clause-whole
returns-clause-whole g c = none_unmapped half_of c.args.self.now.store.half (sym c.half_open.ensures ∙ c.if-half_open.false)

pub returns-clause-run : goal.returns-clause-run
returns-clause-run g c =
    let none = none_unmapped half_of c.args.self.now.store.half (sym c.half_open.ensures ∙ c.if-half_open.false) in
    λ e is. from_equal (λ x. second_of contents (device_of c.args.self.now) x) (sym (ap (option_map half_of) none)) refl
    (ended refl (no_part c.first_track.result e is c.first_track.ensures))
