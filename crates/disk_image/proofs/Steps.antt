-- The steps to an end mark, one at a time.
use Rattle.std.proofs.Common.{◌≡◌, ℕ, zero, suc, ◌+◌, ◌-◌, ◌<◌, ◌≤◌, Bool, true, false, nat_eq, List, length, drop, Option, Some, None, refl, sym, ap, ◌∙◌, arith}
use Rattle.std.specs.List.{starts_with}
use Rattle.std.proofs.lemmas.Bool.{le-ltb, lt-ltb}
use Rattle.std.proofs.lemmas.List.{drop-drop, length-drop}
use Rattle.ckd_types.specs.Track.{end_mark}
use Rattle.disk_image.specs.File.{end_from, end_in, record_size}

-- a step over a record
pub end_step : (n at : ℕ) (bytes : List ℕ) → 0 < n → 8 ≤ length bytes → starts_with nat_eq bytes end_mark ≡ false
    → end_from (n - 1) (at + record_size bytes) (drop (record_size bytes) bytes) ≡ end_from n at bytes
unfolding end_from
end_step zero at bytes some long other = absurd (omega arith)
end_step (suc n) at bytes some long other = let e : suc n - 1 ≡ n = omega arith in rw (e, le-ltb _ _ long, other) refl

pub end_marked : (n at : ℕ) (bytes : List ℕ) → 0 < n → 8 ≤ length bytes → starts_with nat_eq bytes end_mark ≡ true
    → end_from n at bytes ≡ Some (at + 8)
unfolding end_from
end_marked zero at bytes some long is = absurd (omega arith)
end_marked (suc n) at bytes some long is = rw (le-ltb _ _ long, is) refl

pub end_missing : (n at : ℕ) (bytes : List ℕ) → length bytes < 8 → end_from n at bytes ≡ None
unfolding end_from
end_missing zero at bytes short = refl
end_missing (suc n) at bytes short = rw (lt-ltb _ _ short) refl

pub no_steps : (at : ℕ) (bytes : List ℕ) → end_from 0 at bytes ≡ None
unfolding end_from
no_steps at bytes = refl

-- ---- what a loop over a room finds, where the steps that are left lead to the room's end

pub none_left : (room : List ℕ) (steps at : ℕ) → end_from steps at (drop at room) ≡ end_in room → length room < at + 8 → None ≡ end_in room
none_left room steps at so short = sym (end_missing steps at (drop at room) (omega (arith, short, length-drop at room))) ∙ so

pub no_more : (room : List ℕ) (steps at : ℕ) → end_from steps at (drop at room) ≡ end_in room → steps ≤ 0 → None ≡ end_in room
no_more room steps at so none =
    let zero_is : steps ≡ 0 = omega (arith, none) in
    sym (no_steps at (drop at room)) ∙ ap (λ (n : ℕ). end_from n at (drop at room)) (sym zero_is) ∙ so

pub ends_here : (room : List ℕ) (steps at : ℕ) (rest : List ℕ) (b : Bool) → end_from steps at (drop at room) ≡ end_in room
    → 0 < steps → at + 8 ≤ length room → rest ≡ drop at room → b ≡ starts_with nat_eq rest end_mark → b ≡ true
    → Some (at + 8) ≡ end_in room
ends_here room steps at rest b so some long rest_is test is =
    let marked : starts_with nat_eq (drop at room) end_mark ≡ true = ap (λ (l : List ℕ). starts_with nat_eq l end_mark) (sym rest_is) ∙ sym test ∙ is in
    sym (end_marked steps at (drop at room) some (omega (arith, long, length-drop at room)) marked) ∙ so

pub stepped : (room : List ℕ) (steps at : ℕ) (rest : List ℕ) (b : Bool) (size : ℕ) → end_from steps at (drop at room) ≡ end_in room
    → 0 < steps → at + 8 ≤ length room → rest ≡ drop at room → b ≡ starts_with nat_eq rest end_mark → b ≡ false
    → size ≡ record_size rest
    → end_from (steps - 1) (at + size) (drop (at + size) room) ≡ end_in room
stepped room steps at rest b size so some long rest_is test is size_is =
    let bytes = drop at room in
    let other : starts_with nat_eq bytes end_mark ≡ false = ap (λ (l : List ℕ). starts_with nat_eq l end_mark) (sym rest_is) ∙ sym test ∙ is in
    let same : size ≡ record_size bytes = size_is ∙ ap record_size rest_is in
    ap (λ (l : List ℕ). end_from (steps - 1) (at + size) l) (sym (drop-drop size at room))
    ∙ ap (λ (n : ℕ). end_from (steps - 1) (at + n) (drop n bytes)) same
    ∙ end_step steps at bytes some (omega (arith, long, length-drop at room)) other
    ∙ so
