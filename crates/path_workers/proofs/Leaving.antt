-- A device goes back into its turn behind an event.
use Rattle.std.proofs.Common.{◌≡◌, ℕ, List, Option, Some, None, Box, Global, sym, ap, subst}
use Rattle.device_outside.specs.declared.volume.Volume.{Ghosts}
use Rattle.device_defs.specs.Pledge.{seat_counts}
use Rattle.device_turn.specs.Answers.{Entered, MayLeave}
use Rattle.device_turn.specs.Rule.{KeptBy, Still, Without, boxed, counts_in}
use Rattle.device_turn.specs.declared.enter.Enter.TheVariants.{Got}
use Rattle.device_turn.specs.declared.view.View.{View}
use Rattle.device_turn.proofs.Views.{kept_through, still_set}
use Rattle.device_core.specs.declared.device.Device.{Device}
use Rattle.device_core.specs.State.{device_of}
use Rattle.path_workers.specs.Keeping.{KeepsPromise, Moves}
use Rattle.path_workers.specs.declared.promise.Promise.{Promise}
use Rattle.path_workers.proofs.Keeping.{stays_within}

module _ {V : Type 0} {G : Ghosts V} where
  abbrev pub counts_of : Device V G → List ℕ
  counts_of d = seat_counts (device_of d)

  pub may_leave : (seat : ℕ) (me after : View (Option (Promise V G)) × List (ℕ × Option (Box (Device V G) Global))) (before behind : Box (Device V G) Global) →
      Entered (KeptBy (boxed KeepsPromise)) (counts_in counts_of) me after (Got before) →
      after.0.number ≡ seat → Moves seat before.value behind.value → MayLeave (KeptBy (boxed KeepsPromise)) (counts_in counts_of) after.0 behind
  may_leave seat me after before behind e number moves =
      let loaded : after.0.loaded ≡ e.loaded = ap (λ (m : View (Option (Promise V G)) × List (ℕ × Option (Box (Device V G) Global))). m.0.loaded) e.out in
      let apart : Without seat after.0.loaded =
      subst (λ (k : ℕ). Without k after.0.loaded) number (subst (λ (es : List (ℕ × ℕ)). Without after.0.number es) (sym loaded) e.others) in (
        kept_through (boxed KeepsPromise) after.0.pledge before behind (λ p k. stays_within p.most p.made.value before.value behind.value moves.stays k) e.kept.0,
        subst (λ (ws : List ℕ). Still ws after.0.loaded) (sym moves.counts)
            (still_set (counts_of before.value) seat moves.count after.0.loaded apart e.kept.1),
      )

  unboxed : (p : Option (Promise V G)) (b : Box (Device V G) Global) → KeptBy (boxed KeepsPromise) p b → KeptBy KeepsPromise p b.value
  unboxed None b h = h
  unboxed (Some p) b h = h

  -- what was in the turn keeps what was promised
  pub out_kept : (me after : View (Option (Promise V G)) × List (ℕ × Option (Box (Device V G) Global))) (before : Box (Device V G) Global) →
      Entered (KeptBy (boxed KeepsPromise)) (counts_in counts_of) me after (Got before) → KeptBy KeepsPromise me.0.pledge before.value
  out_kept me after before e =
      let same : after.0.pledge ≡ me.0.pledge = ap (λ (m : View (Option (Promise V G)) × List (ℕ × Option (Box (Device V G) Global))). m.0.pledge) e.out in
      subst (λ (p : Option (Promise V G)). KeptBy KeepsPromise p before.value) same (unboxed after.0.pledge before e.kept.0)

  -- and so does what goes back
  pub back_kept : (seat : ℕ) (me after : View (Option (Promise V G)) × List (ℕ × Option (Box (Device V G) Global))) (before behind : Box (Device V G) Global) →
      Entered (KeptBy (boxed KeepsPromise)) (counts_in counts_of) me after (Got before) →
      after.0.number ≡ seat → Moves seat before.value behind.value → KeptBy KeepsPromise me.0.pledge behind.value
  back_kept seat me after before behind e number moves =
      let same : after.0.pledge ≡ me.0.pledge = ap (λ (m : View (Option (Promise V G)) × List (ℕ × Option (Box (Device V G) Global))). m.0.pledge) e.out in
      let kept = (may_leave seat me after before behind e number moves).0 in
      subst (λ (p : Option (Promise V G)). KeptBy KeepsPromise p behind.value) same (unboxed after.0.pledge behind kept)
