-- The marks of a device's own tracks, where no other track is marked.
use Rattle.std.proofs.Common.{◌≡◌, ℕ, zero, suc, ◌+◌, ◌≤◌, inl, inr, Bool, false, true, List, [], ◌∷◌, take, refl, sym, ap, ◌∙◌, arith}
use Rattle.std.proofs.lemmas.Bool.{cases_lt}
use Rattle.std.proofs.lemmas.List.{get_or-take, get_or_past, length-take}
use Rattle.track_table.specs.Bits.{is_marked, marked_from}

pub front_mark : (marks : List Bool) (n q : ℕ) → ((t : ℕ) → n ≤ t → is_marked marks t ≡ false) → is_marked marks q ≡ is_marked (take n marks) q
front_mark marks n q none = elim (cases_lt q n) [
  | inl front ↦ sym (get_or-take n marks q false front)
  | inr behind ↦ none q behind ∙ sym (get_or_past (take n marks) q false (omega (arith, length-take n marks)))
]

unmarked : (marks : List Bool) (a : ℕ) → ((t : ℕ) → is_marked marks t ≡ false) → marked_from a marks ≡ []
unmarked [] a none = refl
unmarked (m ∷ marks) a none = rw (none 0) (unmarked marks (a + 1) (λ t. none (suc t)))

pub front_listed : (marks : List Bool) (a n : ℕ) → ((t : ℕ) → n ≤ t → is_marked marks t ≡ false) → marked_from a marks ≡ marked_from a (take n marks)
front_listed [] a zero none = refl
front_listed [] a (suc n) none = refl
front_listed (m ∷ marks) a zero none = unmarked (m ∷ marks) a (λ t. none t (omega arith))
front_listed (true ∷ marks) a (suc n) none = ap (λ (xs : List ℕ). a ∷ xs) (front_listed marks (a + 1) n (λ t behind. none (suc t) (omega arith)))
front_listed (false ∷ marks) a (suc n) none = front_listed marks (a + 1) n (λ t behind. none (suc t) (omega arith))
