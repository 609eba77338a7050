use Rattle.std.proofs.Common.{refl, rules}
use Rattle.device_core.proofs.Planned.{plan_excused, plan_sound, plan_stays_lent, plan_stays_plain, still_lent}
use Rattle.device_core.proofs.Promising.{still_excused, still_sound, still_stays_plain}
use Rattle.device_core.proofs.device.Device.plan.Goals as goal

pub returns-then-is_full-clause-sound : goal.returns-then-is_full-clause-sound
returns-then-is_full-clause-sound g c = still_sound c.args.self.now _ refl refl

pub returns-then-is_full-clause-plain : goal.returns-then-is_full-clause-plain
returns-then-is_full-clause-plain g c = still_stays_plain c.args.self.now _ refl refl

pub returns-then-is_full-clause-excused : goal.returns-then-is_full-clause-excused
returns-then-is_full-clause-excused g c = still_excused c.args.self.now _ refl refl

pub returns-then-is_full-clause-lent : goal.returns-then-is_full-clause-lent
returns-then-is_full-clause-lent g c = still_lent c.args.self.now _ refl refl

pub returns-in-Ok-clause-sound : goal.returns-in-Ok-clause-sound
returns-in-Ok-clause-sound g c =
    plan_sound c.args.self.now _ c.plan_next.ensures.store c.args.path (search rules) (search rules) c.args.program c.program_gives.ensures c.in-Ok.ensures.device

pub returns-in-Ok-clause-plain : goal.returns-in-Ok-clause-plain
returns-in-Ok-clause-plain g c =
    plan_stays_plain c.args.self.now _ c.plan_next.ensures.store c.args.path (search rules) (search rules) c.args.program c.program_gives.ensures c.in-Ok.ensures.device

pub returns-in-Ok-clause-excused : goal.returns-in-Ok-clause-excused
returns-in-Ok-clause-excused g c =
    plan_excused c.args.self.now _ c.plan_next.ensures.store c.args.path (search rules) (search rules) c.args.program c.program_gives.ensures c.in-Ok.ensures.device

pub returns-in-Ok-clause-lent : goal.returns-in-Ok-clause-lent
returns-in-Ok-clause-lent g c =
    plan_stays_lent c.args.self.now _ c.plan_next.ensures.store c.args.path (search rules) (search rules) c.args.program c.program_gives.ensures c.in-Ok.ensures.device

pub returns-in-Err-clause-sound : goal.returns-in-Err-clause-sound
returns-in-Err-clause-sound g c = still_sound c.args.self.now _ c.in-Err.ensures.same c.plan_next.ensures.store

pub returns-in-Err-clause-plain : goal.returns-in-Err-clause-plain
returns-in-Err-clause-plain g c = still_stays_plain c.args.self.now _ c.in-Err.ensures.same c.plan_next.ensures.store

pub returns-in-Err-clause-excused : goal.returns-in-Err-clause-excused
returns-in-Err-clause-excused g c = still_excused c.args.self.now _ c.in-Err.ensures.same c.plan_next.ensures.store

pub returns-in-Err-clause-lent : goal.returns-in-Err-clause-lent
returns-in-Err-clause-lent g c = still_lent c.args.self.now _ c.plan_next.ensures.store c.in-Err.ensures.same
