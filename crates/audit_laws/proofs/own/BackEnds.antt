-- A SETTLE comes to its end: of at most 2,946 events the last one says that nothing is left to do, or is stopped.
use Rattle.std.proofs.Common.{◌≡◌, ◌≤◌, ◌<◌, ℕ, zero, suc, Bool, true, false, [], ◌∷◌, length, Option, Some, None, is_some, refl, sym, ap, subst, ◌∙◌, arith}
use Rattle.std.specs.Prelude.{if◌then◌else◌, IfSome}
use Rattle.device_outside.specs.Interaction.{Done, and_then}
use Rattle.device_outside.specs.Told as T
use Rattle.device_outside.specs.Told.{Told}
use Rattle.device_defs.specs.declared.answers.Did.{Did}
use Rattle.device_defs.specs.Contents.{by_plain}
use Rattle.device_defs.specs.Events.{background, second}
use Rattle.device_defs.specs.Marks.{MarksDevice}
use Rattle.device_defs.specs.Store as store
use Rattle.device_laws.proofs.BasedEvents.{background_based, second_based}
use Rattle.device_laws.proofs.Had.{Had, had_done, had_then, held}
use Rattle.subsystem_defs.specs.declared.end.EventEnd.{EventEnd}
use Rattle.subsystem_defs.specs.declared.end.EventEnd.TheVariants as ends
use Rattle.subsystem_defs.specs.declared.event.Event.TheVariants as events
use Rattle.subsystem_defs.specs.Deeds as E
use Rattle.subsystem_defs.specs.Deeds.{Asks, back, device_in, end_of, may_end_by, on_device, seconds}
use Rattle.subsystem_defs.specs.Happening as H
use Rattle.subsystem_defs.specs.Happening.{EventHappened, Talk, asks, happens, happens_by, held_with, mounted_behind, told_end, told_to}
use Rattle.subsystem_defs.specs.Lines as L
use Rattle.subsystem_defs.specs.Lines.{Logged, Settle, backs, is_settled, line_logged, logged, most_backs}
use Rattle.subsystem_defs.specs.Subsystem.{Mounted, Subsystem, devices_of, mounted_in}
use Rattle.subsystem_laws.proofs.FoundDevices.{number_found}
use Rattle.subsystem_laws.proofs.GoodMarks.{Good, good_kept}
use Rattle.subsystem_laws.proofs.LendBase.{at, stays_still}
use Rattle.subsystem_laws.proofs.RunLines.{AnyEvent}
use Rattle.subsystem_laws.proofs.Walks.{AreSo, device_so, event_so, hold_answer}
use Rattle.std.specs.Prelude.{IfSome}
use Rattle.audit_laws.specs.Runs.{SettleIsOver, ends_settled}
use Rattle.audit_laws.proofs.own.BackEvents.{background_so, second_lower}
use Rattle.audit_laws.proofs.own.Found.{mounted_too}
use Rattle.audit_laws.proofs.own.Lighter.{Lower, WorkSo}
use Rattle.audit_laws.proofs.own.PieceEvents.{put_found}
use Rattle.audit_laws.proofs.own.RunEnds.{device_there}
use Rattle.audit_laws.proofs.own.Weights.{left, left_most}
use Rattle.audit_laws.proofs.own.DeviceSizes.{Sized}
use Rattle.audit_laws.proofs.own.StillLines.{some_device}
use Rattle.audit_laws.specs.Standing.{HasDevice}

abbrev GoesOn : MarksDevice → MarksDevice → Option EventEnd → Type 0
GoesOn x y a = is_settled (told_end a) ≡ false → Lower x.store y.store

work_goes : (x y : MarksDevice) (a : Option Did) → WorkSo x.store y.store a → GoesOn x y (end_of ends.Back a)
work_goes x y a h = grind arith

module _ (s : Subsystem) (good : AreSo Good s.mounted) (d : ℕ) (x : MarksDevice) (there : device_in (devices_of s) d ≡ Some x) where
  good_x : Good x
  good_x = subst (λ (o : Option MarksDevice). IfSome o Good) there (device_so Good s.mounted d good)

  -- where the device is then, and that less is left to do unless it stops
  record OneLess (h : EventHappened) : Type 0 where
    behind : Mounted
    found : mounted_in h.behind.mounted d ≡ Some behind
    less : is_settled h.end ≡ false → Lower x.store behind.device.store

  asked : {X : Type 0} (talk : Talk X) (f : X → Option EventEnd) → ((t : Told) → (T.hold true talk t).state.store.device ≡ x.store.device) →
      Had (and_then talk (λ y a. Done y (f a))) (λ y a. GoesOn x y a) → (n : ℕ) → n ≡ d →
      OneLess (asks s n (mounted_in s.mounted n) (and_then talk (λ y a. Done y (f a))))
  asked talk f number goes n is =
      let m = mounted_too s.mounted d x there in
      let t = told_to s.pool m.0 in
      let o = held_with s.pool m.0 (and_then talk (λ y a. Done y (f a))) in
      let same = ap (λ (y : MarksDevice). y.store.device) (hold_answer talk f t) ∙ number t ∙ number_found s.mounted d x there in
      let found = put_found s.mounted d m.0 (mounted_behind o) m.1 same in
      subst (λ (i : ℕ). OneLess (asks s i (mounted_in s.mounted i) (and_then talk (λ y a. Done y (f a))))) (sym is)
      (subst (λ (q : Option Mounted). OneLess (asks s d q (and_then talk (λ y a. Done y (f a))))) (sym m.1)
      (record { behind = mounted_behind o; found = found; less = held true goes t }))

  back_by : (h : Option (store.HalfWrite (Unit {0}))) → x.store.half ≡ h →
      OneLess (happens_by s (if is_some h then seconds by_plain x else Asks x (may_end_by ends.Back (background by_plain x))))
  back_by (Some w) is =
      asked (second by_plain x) (λ a. Some (ends.Second a)) (λ t. (at (stays_still (second_based by_plain x)) t).0)
      (had_then (second_lower x good_x w is) (λ y a lower. had_done (λ _. lower))) x.store.device (number_found s.mounted d x there)
  back_by None whole =
      asked (background by_plain x) (end_of ends.Back) (λ t. (at (stays_still (background_based by_plain x)) t).0)
      (had_then (background_so x good_x whole) (λ y a k. had_done (work_goes x y a k))) x.store.device (number_found s.mounted d x there)

  back_less : OneLess (happens s (events.Back d))
  unfolding H.happens E.deed
  back_less = grind (arith, back_by)

pub backs_end : (k : ℕ) (s : Subsystem) → AreSo Good s.mounted → (d : ℕ) (x : MarksDevice) → device_in (devices_of s) d ≡ Some x → left x.store < k →
    ends_settled (backs k d s) ≡ true
unfolding L.backs
backs_end zero s good d x there few = absurd (omega (arith, few))
backs_end (suc k) s good d x there few = by_end (is_settled (happens s (events.Back d)).end) refl
    (λ goes. let h = happens s (events.Back d) in
    let z = back_less s good d x there in
    let less = z.less goes in
    backs_end k h.behind (event_so Good AnyEvent good_kept s good (events.Back d) tt) d z.behind.device (device_there h.behind.mounted d z.behind z.found)
    (omega (arith, few, less)))
  where
    by_end : (b : Bool) → is_settled (happens s (events.Back d)).end ≡ b →
        (is_settled (happens s (events.Back d)).end ≡ false → ends_settled (backs k d (happens s (events.Back d)).behind) ≡ true) →
        ends_settled (logged (Settle d) (happens s (events.Back d)) ∷ (if b then [] else backs k d (happens s (events.Back d)).behind)) ≡ true
    by_end b is more = grind arith

-- of a device of at most 64 cylinders, with at most 64 tracks to stage
pub settle_is_over : (s : Subsystem) → AreSo Good s.mounted → (d : ℕ) (x : MarksDevice) → device_in (devices_of s) d ≡ Some x →
    x.store.cylinders ≤ 64 → length x.store.queue ≤ 64 → SettleIsOver s d
unfolding L.line_logged
settle_is_over s good d x there small queued = backs_end most_backs s good d x there (omega (arith, left_most x.store small queued))

pub settle_over : (s : Subsystem) → AreSo Good s.mounted → AreSo Sized s.mounted → (d : ℕ) → HasDevice s d → SettleIsOver s d
settle_over s good sized d has =
    some_device (device_in (devices_of s) d) has (λ x at.
    let f = subst (λ (o : Option MarksDevice). IfSome o Sized) at (device_so Sized s.mounted d sized) in settle_is_over s good d x at f.cylinders f.short)
