-- The marks of a device's own tracks, one track more, and how many there are.
use Rattle.std.proofs.Common.{◌≡◌, ◌∙◌, ◌+◌, ◌-◌, ◌<◌, ◌≤◌, ◌==◌, ℕ, zero, suc, inl, inr, Bool, true}
use Rattle.std.proofs.Common.{false, List, take, length, replicate, get_or, refl, sym, ap, arith}
use Rattle.std.specs.Prelude.{if◌then◌else◌}
use Rattle.std.proofs.lemmas.Bool.{cases_eq, cases_lt, eq-eqb, ne_eqb}
use Rattle.std.proofs.lemmas.List.{ext_get_or, get_or-replicate, get_or-take, get_or_past, length-replicate, length-take, length-take-le}
use Rattle.loss_model.proofs.Fronts.{front_mark}
use Rattle.event_notes.proofs.Counted.{count_same, least_front, least_same}
use Rattle.event_notes.proofs.Loosely.{NoneBehind}
use Rattle.track_table.specs.Bits.{is_marked}
use Rattle.track_table.specs.Tracks as tracks
use Rattle.track_table.specs.Tracks.{count_below, least}

pub one_more : (marks changed : List Bool) (n t : ℕ) → t ≡ n → ((q : ℕ) → q < n → is_marked marks q ≡ true) →
    ((q : ℕ) → is_marked changed q ≡ (if q == t then true else is_marked marks q)) → (q : ℕ) → q < n + 1 → is_marked changed q ≡ true
one_more marks changed n t is all each q lt = elim (cases_eq q t) [
  | inl same ↦ each q ∙ rw (eq-eqb q t same) refl
  | inr other ↦ each q ∙ rw (ne_eqb q t other) (all q (omega (arith, lt, other, is)))
]

pub all_marked : (n : ℕ) (marks : List Bool) → n ≤ 65535 → length marks ≡ 65535 → ((q : ℕ) → q < n → is_marked marks q ≡ true) → take n marks ≡ replicate n true
all_marked n marks few size all =
    let short : length (take n marks) ≡ n = length-take-le n marks (omega (arith, few, size)) in
    ext_get_or false (take n marks) (replicate n true) (short ∙ sym (length-replicate n true))
    (λ q lt. let here : q < n = omega (arith, lt, short) in get_or-take n marks q false here ∙ all q here ∙ sym (get_or-replicate n q true false here))

count_front : (n k : ℕ) (f : ℕ → Bool) → ((q : ℕ) → n ≤ q → f q ≡ false) → count_below (n + k) f ≡ count_below n f
unfolding tracks.count_below
count_front n zero f none = let e : n + 0 ≡ n = omega arith in rw e refl
count_front n (suc k) f none =
    let e : n + suc k ≡ suc (n + k) = omega arith in
    rw (e, none (n + k) (omega arith)) (let before = count_front n k f none in omega (arith, before))

pub counted : (marks : List Bool) (n : ℕ) → n ≤ 65535 → length marks ≡ 65535 → NoneBehind marks n →
    count_below (length (take n marks)) (is_marked (take n marks)) ≡ count_below 65535 (is_marked marks)
counted marks n few size none =
    let e : n + (65535 - n) ≡ 65535 = omega (arith, few) in
    ap (λ (m : ℕ). count_below m (is_marked (take n marks))) (length-take-le n marks (omega (arith, few, size)))
    ∙ count_same n _ _ (λ q. sym (front_mark marks n q none))
    ∙ sym (count_front n (65535 - n) (is_marked marks) none)
    ∙ ap (λ (m : ℕ). count_below m (is_marked marks)) e

-- the least of some tracks
pub least_of : (n : ℕ) (marked p : ℕ → Bool) → n ≤ 65535 → ((t : ℕ) → marked t ≡ p t) → ((t : ℕ) → n ≤ t → p t ≡ false) →
    least 65535 marked ≡ least n p
least_of n marked p few each none =
    let e : n + (65535 - n) ≡ 65535 = omega (arith, few) in
    least_same 65535 marked p each ∙ ap (λ (m : ℕ). least m p) (sym e) ∙ least_front n (65535 - n) p none
