use Rattle.subsystem_core.proofs.Standing.{parts_home, restored_other, stay_plain}
use Rattle.std.proofs.Common.{◌∙◌, refl, sym}
use Rattle.subsystem_core.proofs.Parting.{parts}
use Rattle.subsystem_defs.proofs.Unrefused.{parts_up}
use Rattle.device_core.specs.State.{device_of}
use Rattle.subsystem_core.proofs.subsystem.Subsystem.unpair.Goals as goal

pub restore_lent-requires : goal.restore_lent-requires
restore_lent-requires g c = rw c.device.ensures (rw c.device.ensures at c.requires.size)

pub split_at-requires-clause-here : goal.split_at-requires-clause-here
split_at-requires-clause-here g c = rw c.in-Ok.ensures.numbers c.requires.here

pub split_at-requires-clause-fine : goal.split_at-requires-clause-fine
split_at-requires-clause-fine g c =
    let free = sym c.unpair_fault.ensures ∙ c.in_default.is in
    let x = c.device.result.now in
    rw (restored_other c.args.a x (parts_home x (parts_up (device_of x) free)) c.in-Ok.ensures.restored c.device.ensures) free

pub returns-in-Some-clause-unpaired : goal.returns-in-Some-clause-unpaired
returns-in-Some-clause-unpaired g c =
    rw c.device.ensures (rw (sym c.unpair_fault.ensures ∙ c.in-Some.is) ((λ p. refl), (refl, refl)))

pub returns-clause-unpaired : goal.returns-clause-unpaired
returns-clause-unpaired g c =
    let free = sym c.unpair_fault.ensures ∙ c.in_default.is in
    rw c.device.ensures (rw free (
      (λ p. refl),
      c.split_at.ensures.pool ∙ c.in-Ok.ensures.pool,
      parts c.args.a c.args.volume c.args.self.now.devices.items _ _ c.device.result.now c.device.ensures (parts_up (device_of c.device.result.now) free)
          c.in-Ok.ensures.restored c.split_at.ensures.split,
    ))

pub returns-in-Some-clause-plain : goal.returns-in-Some-clause-plain
returns-in-Some-clause-plain g c = λ told. stay_plain _ _ (λ pasts firsts all. all)

pub returns-in-Err-clause-plain : goal.returns-in-Err-clause-plain
returns-in-Err-clause-plain g c = λ told. stay_plain _ _ (c.in-Err.ensures.stands told)

pub returns-clause-plain : goal.returns-clause-plain
returns-clause-plain g c =
    λ told. stay_plain _ _ (λ pasts firsts all. c.split_at.ensures.stands pasts firsts (c.in-Ok.ensures.stands told pasts firsts all))
