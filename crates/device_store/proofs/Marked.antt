-- What is known by marks.
use Rattle.std.proofs.Common.{◌≡◌, ◌∙◌, ◌<◌, ℕ, Bool, true, false, List, Option, Some, None, length, refl, sym, ap, inl, inr}
use Rattle.std.specs.Prelude.{is_some, slice_index_or}
use Rattle.std.proofs.lemmas.Bool.{cases_lt, false≢true}
use Rattle.std.proofs.lemmas.List.{get_or_past}

-- an entry has a place
pub has_place : {X : Type 0} (places : List (Option X)) (t : ℕ) → is_some (slice_index_or places t None) ≡ true → t < length places
has_place {X} places t is = elim (cases_lt t (length places)) [
  | inl below ↦ below
  | inr past ↦ absurd (false≢true (sym (ap (λ (x : Option X). is_some x) (get_or_past places t None past)) ∙ is))
]

pub none_some : {X : Type 0} (x : Option X) → is_some x ≡ false → x ≡ None
none_some (Some x) e = absurd cc
none_some None e = refl
