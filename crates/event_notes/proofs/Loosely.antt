-- Marks of a device's own tracks, and how many there are.
use Rattle.std.proofs.Common.{◌≡◌, ◌∙◌, ◌+◌, ◌-◌, ◌<◌, ◌≤◌, ◌==◌, ℕ, Bool, false, List, take, length, sym, ap, arith}
use Rattle.std.specs.Prelude.{if◌then◌else◌}
use Rattle.std.proofs.lemmas.Bool.{ne_eqb}
use Rattle.std.proofs.lemmas.List.{length-take-le}
use Rattle.loss_model.proofs.Fronts.{front_mark}
use Rattle.track_table.specs.Bits.{is_marked}
use Rattle.track_table.specs.Tracks.{count_below, least}
use Rattle.event_notes.specs.Loose.{is_loose_in, loose_count}
use Rattle.event_notes.proofs.Counted.{count_same, least_front, least_same}

abbrev pub NoneBehind : List Bool → ℕ → Type 0
NoneBehind marks n = (q : ℕ) → n ≤ q → is_marked marks q ≡ false

pub counted : (marks : List Bool) (n : ℕ) → NoneBehind marks n → loose_count (take n marks) ≡ count_below 65535 (is_marked marks)
counted marks n none = count_same 65535 _ _ (λ q. sym (front_mark marks n q none))

pub least_is : (marks : List Bool) (n : ℕ) → n ≤ 65535 → length marks ≡ 65535 → NoneBehind marks n →
    least (length (take n marks)) (is_loose_in (take n marks)) ≡ least 65535 (is_marked marks)
least_is marks n few all none =
    let e : n + (65535 - n) ≡ 65535 = omega (arith, few) in
    ap (λ (m : ℕ). least m (is_loose_in (take n marks))) (length-take-le n marks (omega (arith, few, all)))
    ∙ least_same n _ _ (λ q. sym (front_mark marks n q none))
    ∙ sym (least_front n (65535 - n) (is_marked marks) none)
    ∙ ap (λ (m : ℕ). least m (is_marked marks)) e

pub none_behind : (marks changed : List Bool) (n t : ℕ) (b : Bool) → t < n → NoneBehind marks n →
    ((q : ℕ) → is_marked changed q ≡ (if q == t then b else is_marked marks q)) → NoneBehind changed n
none_behind marks changed n t b lt none each q le =
    each q ∙ rw (ne_eqb q t (λ (e : q ≡ t). omega (arith, e, le, lt))) (none q le)

pub count_is : (marks : List Bool) (n : ℕ) → NoneBehind marks n → (loose : List Bool) → take n marks ≡ loose →
    count_below 65535 (is_marked marks) ≡ loose_count loose
count_is marks n none loose same = sym (counted marks n none) ∙ ap loose_count same
