-- The tracks that are told as lost, and their marks.
use Rattle.std.proofs.Common.{◌≡◌, ◌<◌, ◌≤◌, ◌+◌, ◌∙◌, ◌⊎◌, inl, inr, ℕ, zero, suc, Bool, true, false, List, [], ◌∷◌, length, get_or, refl, sym, ap, arith, eqb-true, eq-eqb, ne_eqb, eq-or-lt_of_le}
use Rattle.std.specs.Prelude.{◌==◌, cond, if◌then◌else◌}
use Rattle.std.specs.List.{range_with_len}
use Rattle.std.proofs.lemmas.List.FromFn.{fill_by_all, get_or-map-range_with_len}
use Rattle.std.proofs.lemmas.List.Sums.{sum_by-cons}
use Rattle.device_defs.specs.Excused.{count_lost}
use Rattle.device_outside.specs.Lists as L
use Rattle.device_outside.specs.Lists.{is_in}
use Rattle.subsystem_defs.specs.Closing.{where_true}
use Rattle.path_top.specs.Excuses.{AreTracks, marks_by}

module _ (p : ℕ → Bool) where
  -- those before the first are not among them
  none_before : (t a n : ℕ) → t < a → is_in t (where_true p (range_with_len a n)) ≡ false
  unfolding L.is_in
  none_before t a zero before = refl
  none_before t a (suc n) before = by_test (p a) (none_before t (a + 1) n (omega (arith, before))) where
    other : (b : Bool) → (t == a) ≡ b → (l : List ℕ) → is_in t l ≡ false → (if b then true else is_in t l) ≡ false
    other true e l more = absurd (let same : t ≡ a = eqb-true t a e in omega (arith, before, same))
    other false e l more = more

    by_test : (b : Bool) → is_in t (where_true p (range_with_len (a + 1) n)) ≡ false →
        is_in t (if b then a ∷ where_true p (range_with_len (a + 1) n) else where_true p (range_with_len (a + 1) n)) ≡ false
    by_test true more = other (t == a) refl (where_true p (range_with_len (a + 1) n)) more
    by_test false more = more

  -- one of the range is among them where it should be
  one_in : (t a n : ℕ) → a ≤ t → t < a + n → is_in t (where_true p (range_with_len a n)) ≡ p t
  unfolding L.is_in
  one_in t a zero least most = absurd (omega (arith, least, most))
  one_in t a (suc n) least most =
      by_place (eq-or-lt_of_le least) (λ (past : a < t). one_in t (a + 1) n (omega (arith, past)) (omega (arith, most)))
    where
      here : (b : Bool) → t ≡ a → p a ≡ b → is_in t (if b then a ∷ where_true p (range_with_len (a + 1) n) else where_true p (range_with_len (a + 1) n)) ≡ b
      here true same is =
          ap (λ (c : Bool). if c then true else is_in t (where_true p (range_with_len (a + 1) n))) (eq-eqb t a same)
      here false same is = none_before t (a + 1) n (omega (arith, same))

      later : (b : Bool) → (t == a) ≡ false → is_in t (where_true p (range_with_len (a + 1) n)) ≡ p t →
          is_in t (if b then a ∷ where_true p (range_with_len (a + 1) n) else where_true p (range_with_len (a + 1) n)) ≡ p t
      later true other more = ap (λ (c : Bool). if c then true else is_in t (where_true p (range_with_len (a + 1) n))) other ∙ more
      later false other more = more

      by_place : (a ≡ t) ⊎ (a < t) → (a < t → is_in t (where_true p (range_with_len (a + 1) n)) ≡ p t) →
          is_in t (where_true p (range_with_len a (suc n))) ≡ p t
      by_place (inl same) more = here (p a) (sym same) refl ∙ ap p same
      by_place (inr past) more = later (p a) (ne_eqb t a (λ (same : t ≡ a). omega (arith, past, same))) (more past)

same_true : (p q : ℕ → Bool) (a n : ℕ) → ((t : ℕ) → a ≤ t → t < a + n → p t ≡ q t) → where_true p (range_with_len a n) ≡ where_true q (range_with_len a n)
same_true p q a zero h = refl
same_true p q a (suc n) h =
    ap (λ (b : Bool). if b then a ∷ where_true p (range_with_len (a + 1) n) else where_true p (range_with_len (a + 1) n))
    (h a (omega arith) (omega arith))
    ∙ ap (λ (l : List ℕ). if q a then a ∷ l else l) (same_true p q (a + 1) n (λ t least most. h t (omega (arith, least)) (omega (arith, most))))

module _ (marks : List Bool) (n : ℕ) (long : length marks ≡ n) where
  abbrev lost : List ℕ
  lost = where_true (λ (t : ℕ). get_or marks t false) (range_with_len 0 n)

  -- where they are those that are marked, their marks are these
  pub marks_are : marks_by n lost ≡ marks
  marks_are =
      sym (fill_by_all (λ (t : ℕ). is_in t lost) marks n false long (λ t within. sym (one_in (λ (k : ℕ). get_or marks k false) t 0 n (omega arith) (omega (arith, within)))))

  pub are_tracks : AreTracks n lost
  are_tracks =
      same_true (λ (t : ℕ). get_or marks t false) (λ (t : ℕ). is_in t lost) 0 n
      (λ t least most. sym (one_in (λ (k : ℕ). get_or marks k false) t 0 n least most))

-- Where no mark is counted no track is lost

pub none_marked : (l : List Bool) → count_lost l ≡ 0 → (t : ℕ) → get_or l t false ≡ false
none_marked [] e t = refl
none_marked (b ∷ l) e t = by_mark b (sym (sum_by-cons (λ (x : Bool). cond x 1 0) b l) ∙ e) (none_marked l) t where
  by_mark : (c : Bool) → cond c 1 0 + count_lost l ≡ 0 → (count_lost l ≡ 0 → (t : ℕ) → get_or l t false ≡ false) → (t : ℕ) →
      get_or (c ∷ l) t false ≡ false
  by_mark true f more t = absurd (omega (arith, f))
  by_mark false f more zero = refl
  by_mark false f more (suc t) = more (omega (arith, f)) t

pub none_true : (p : ℕ → Bool) (a n : ℕ) → ((t : ℕ) → a ≤ t → t < a + n → p t ≡ false) → where_true p (range_with_len a n) ≡ []
none_true p a zero h = refl
none_true p a (suc n) h =
    ap (λ (b : Bool). if b then a ∷ where_true p (range_with_len (a + 1) n) else where_true p (range_with_len (a + 1) n))
    (h a (omega arith) (omega arith))
    ∙ none_true p (a + 1) n (λ t least most. h t (omega (arith, least)) (omega (arith, most)))

-- so no track is told where no mark of those that are is counted
pub none_told : (n : ℕ) (lost : List ℕ) → AreTracks n lost → count_lost (marks_by n lost) ≡ 0 → lost ≡ []
none_told n lost are none =
    are ∙ none_true (λ (t : ℕ). is_in t lost) 0 n
    (λ t least most.
    sym (get_or-map-range_with_len (λ (k : ℕ). is_in k lost) 0 n t t false (omega (arith, most)) (omega arith)) ∙ none_marked (marks_by n lost) none t)
