-- Where something failed more often, more is excused.
use Rattle.std.proofs.Common.{◌≡◌, ◌≤◌, ℕ, Bool, true, false, List, refl, arith, eqb-true, eq-eqb, le_trans}
use Rattle.std.specs.Prelude.{◌==◌, ◌&&◌, ◌||◌, not}
use Rattle.plain_defs.specs.declared.journal.Item.{Item}
use Rattle.plain_defs.specs.Journal.{Plans}
use Rattle.plain_defs.specs.PlainState.{PlainState}
use Rattle.device_defs.specs.declared.counts.Counts.{Counts}
use Rattle.device_defs.specs.Excused.{IsExcused, may_lose}
use Rattle.subsystem_laws.proofs.Excusing.{Worse, all_fewer}

-- nothing failed more often
pub record AtMost (n most : Counts) : Type 0 where
  pub failed : n.failed ≤ most.failed
  pub cache : n.losses.cache ≤ most.losses.cache
  pub store : n.losses.store ≤ most.losses.store
  pub sides : n.losses.sides ≤ most.losses.sides

pub none_less : (x y : ℕ) → x ≤ y → y ≡ 0 → x ≡ 0
none_less x y le none = omega (arith, le, none)

zero_less : (x y : ℕ) → x ≤ y → (y == 0) ≡ true → (x == 0) ≡ true
zero_less x y le none = eq-eqb x 0 (none_less x y le (eqb-true y 0 none))

neither : (b : Bool) → (b && false) ≡ false
neither true = refl
neither false = refl

loses_less : (a b c d x y z w : Bool) → (x ≡ true → a ≡ true) → (y ≡ true → b ≡ true) → (z ≡ true → c ≡ true) → (w ≡ true → d ≡ true) →
    (not x || not y || (not z && not w)) ≡ false → (not a || not b || (not c && not d)) ≡ false
loses_less a b c d true true true w f g h i e = rw (f refl, g refl, h refl) refl
loses_less a b c d true true false true f g h i e = rw (f refl, g refl, i refl) (neither (not c))
loses_less a b c d true true false false f g h i e = absurd (cc)
loses_less a b c d true false z w f g h i e = absurd (cc)
loses_less a b c d false y z w f g h i e = absurd (cc)

module _ (n most : Counts) (le : AtMost n most) where
  may_less : may_lose most ≡ false → may_lose n ≡ false
  may_less e =
      loses_less (n.losses.sides == 0) (n.failed == 0) (n.losses.cache == 0) (n.losses.store == 0) (most.losses.sides == 0) (most.failed == 0)
      (most.losses.cache == 0) (most.losses.store == 0) (zero_less n.losses.sides most.losses.sides le.sides) (zero_less n.failed most.failed le.failed)
      (zero_less n.losses.cache most.losses.cache le.cache) (zero_less n.losses.store most.losses.store le.store) e

  worse : (lost : List Bool) → Worse lost n lost most
  worse lost = record { lost = λ t e. e; failed = le.failed; sides = none_less n.losses.sides most.losses.sides le.sides }

  pub more_excused : (plans : Plans) (empty : PlainState) (journal : List Item) (lost : List Bool) → IsExcused plans empty journal lost n →
      IsExcused plans empty journal lost most
  more_excused plans empty journal lost x = record {
    tracks = λ none. x.tracks (may_less none);
    loose = le_trans x.loose le.cache;
    checks = le_trans (all_fewer lost n lost most (worse lost) plans empty journal) (le_trans x.checks le.failed);
  }
