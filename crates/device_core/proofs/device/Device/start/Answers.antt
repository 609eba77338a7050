use Rattle.std.proofs.Common.{◌≤◌, ℕ, refl, subst, sym}
use Rattle.device_core.specs.State.{device_of}
use Rattle.device_core.proofs.Starts.{may_start}
use Rattle.device_core.proofs.Promising.{start_excused, start_sound, start_stays_plain, still_excused, still_sound, still_stays_plain}
use Rattle.device_core.proofs.device.Device.start.Goals as goal

pub start_next-requires-clause-idle : goal.start_next-requires-clause-idle
start_next-requires-clause-idle g c = (may_start (device_of c.args.self.now) c.args.path (sym c.in-None.ensures)).idle

pub start_next-requires-clause-left : goal.start_next-requires-clause-left
start_next-requires-clause-left g c = (may_start (device_of c.args.self.now) c.args.path (sym c.in-None.ensures)).some_left

pub returns-in-Some-clause-sound : goal.returns-in-Some-clause-sound
returns-in-Some-clause-sound g c =
    still_sound c.args.self.now _ refl refl

pub returns-in-Some-clause-plain : goal.returns-in-Some-clause-plain
returns-in-Some-clause-plain g c =
    still_stays_plain c.args.self.now _ refl refl

pub returns-in-Some-clause-excused : goal.returns-in-Some-clause-excused
returns-in-Some-clause-excused g c =
    still_excused c.args.self.now _ refl refl

pub returns-in-Ok-clause-sound : goal.returns-in-Ok-clause-sound
returns-in-Ok-clause-sound g c =
    start_sound c.args.self.now _ c.args.path (subst (λ (n : ℕ). 1 ≤ n) c.get-number.ensures.value c.get-number.ensures.least)
    (subst (λ (n : ℕ). n ≤ 4) c.get-number.ensures.value c.get-number.ensures.most) (sym c.in-None.ensures) c.in-Ok.ensures.started c.start_next.ensures.store

pub returns-in-Ok-clause-plain : goal.returns-in-Ok-clause-plain
returns-in-Ok-clause-plain g c =
    start_stays_plain c.args.self.now _ c.args.path (subst (λ (n : ℕ). 1 ≤ n) c.get-number.ensures.value c.get-number.ensures.least)
    (subst (λ (n : ℕ). n ≤ 4) c.get-number.ensures.value c.get-number.ensures.most) (sym c.in-None.ensures) c.in-Ok.ensures.started c.start_next.ensures.store

pub returns-in-Ok-clause-excused : goal.returns-in-Ok-clause-excused
returns-in-Ok-clause-excused g c =
    start_excused c.args.self.now _ c.args.path (subst (λ (n : ℕ). 1 ≤ n) c.get-number.ensures.value c.get-number.ensures.least)
    (subst (λ (n : ℕ). n ≤ 4) c.get-number.ensures.value c.get-number.ensures.most) (sym c.in-None.ensures) c.in-Ok.ensures.started c.start_next.ensures.store

pub returns-in-Err-clause-sound : goal.returns-in-Err-clause-sound
returns-in-Err-clause-sound g c =
    still_sound c.args.self.now _ c.in-Err.ensures.same c.start_next.ensures.store

pub returns-in-Err-clause-plain : goal.returns-in-Err-clause-plain
returns-in-Err-clause-plain g c =
    still_stays_plain c.args.self.now _ c.in-Err.ensures.same c.start_next.ensures.store

pub returns-in-Err-clause-excused : goal.returns-in-Err-clause-excused
returns-in-Err-clause-excused g c =
    still_excused c.args.self.now _ c.in-Err.ensures.same c.start_next.ensures.store
