-- Some events and one more.
use Rattle.std.proofs.Common.{
  ◌≡◌,
  ◌∙◌,
  ◌<◌,
  ◌++◌,
  ℕ,
  zero,
  suc,
  Bool,
  true,
  false,
  List,
  [],
  ◌∷◌,
  length,
  get_or,
  take,
  drop,
  Some,
  None,
  arith,
  ap,
  refl,
  sym,
  subst,
}
use Rattle.std.specs.Prelude.{◌&&◌}
use Rattle.std.proofs.lemmas.List.{take-append-drop}
use Rattle.subsystem_core.specs.Places.{may_come, may_all_come}
use Rattle.device_outside.specs.declared.volume.Volume.{Ghosts}
use Rattle.subsystem_defs.specs.declared.event.Event.{Event}
use Rattle.subsystem_core.specs.declared.end.EventEnd.{EventEnd}
use Rattle.subsystem_core.specs.declared.subsystem.Subsystem.{Subsystem}
use Rattle.subsystem_core.specs.Comes.{Came}
use Rattle.subsystem_core.specs.Runs.{Runs, over, next, Stops, lacked, behind}

-- the items from one on
pub at_hand : {X : Type 0} (xs : List X) (x : X) (i : ℕ) → i < length xs → x ≡ get_or xs i x → drop i xs ≡ x ∷ drop (suc i) xs
at_hand [] x i within is = absurd (omega arith)
at_hand (y ∷ ys) x zero within is = ap (λ z. z ∷ ys) (sym is)
at_hand (y ∷ ys) x (suc i) within is = at_hand ys x i (omega arith) is

both : (a b : Bool) → (a && b) ≡ true → (a ≡ true) × (b ≡ true)
both true true h = (refl, refl)
both true false h = absurd (cc)
both false b h = absurd (cc)

-- each of events that may all come may come
pub may_come_at : (ns : List ℕ) (es : List Event) (e : Event) (i : ℕ) → i < length es → e ≡ get_or es i e → may_all_come ns es ≡ true → may_come ns e ≡ true
may_come_at ns [] e i within is all = absurd (omega arith)
may_come_at ns (f ∷ fs) e zero within is all = ap (may_come ns) is ∙ (both (may_come ns f) (may_all_come ns fs) all).0
may_come_at ns (f ∷ fs) e (suc i) within is all =
    may_come_at ns fs e i (omega arith) is (both (may_come ns f) (may_all_come ns fs) all).1

module _ {V : Type 0} {G : Ghosts V} where
  pub one_more : {es : List Event} (e : Event) {ends : List EventEnd} (end : EventEnd) {old s new : Subsystem V G} → Runs es old ends s →
      Came e s (Some end) new → Runs (es ++ e ∷ []) old (ends ++ end ∷ []) new
  one_more e end over came = next came over
  one_more e end (next first rest) came = next first (one_more e end rest came)

  pub stops_behind : {es others : List Event} {ends : List EventEnd} {old s new : Subsystem V G} → Runs es old ends s → Stops others s new →
      Stops (es ++ others) old new
  stops_behind over stops = stops
  stops_behind (next {end = end} first rest) stops = behind end first (stops_behind rest stops)

  -- memory was lacking in the event at hand
  pub stops_at : (es : List Event) (e : Event) (i : ℕ) {ends : List EventEnd} {old s new : Subsystem V G} → i < length es → e ≡ get_or es i e →
      Runs (take i es) old ends s → Came e s None new → Stops es old new
  stops_at es e i {ends} {old} {s} {new} within is ran came =
      let rest : drop i es ≡ e ∷ drop (suc i) es = at_hand es e i within is in
      let stops : Stops (take i es ++ drop i es) old new =
      stops_behind ran (subst (λ fs. Stops fs s new) (sym rest) (lacked {es = drop (suc i) es} came)) in
      subst (λ fs. Stops fs old new) (take-append-drop i es) stops
