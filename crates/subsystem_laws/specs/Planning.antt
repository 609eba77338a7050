-- A device for which a program more is planned.
use Rattle.std.specs.Prelude.{ℕ, List}
use Rattle.ckd_types.specs.declared.channel.Ccw.{Ccw}
use Rattle.deck_plan.specs.Plans.{with_program}
use Rattle.device_defs.specs.Device.{Device}

-- one path has a program more, behind those that it has, and nothing else changes
abbrev pub with_planned : {F P H : Type 0} → Device F P H → ℕ → List Ccw → Device F P H
with_planned d path program = record d { plans = with_program d.plans path program }
