-- Bytes over those that stand at an offset: what is before and behind them stays.
use Rattle.std.proofs.Common.{◌≡◌, ℕ, ◌+◌, ◌-◌, ◌≤◌, List, ◌++◌, length, take, drop, refl, sym, ap, ◌∙◌, append_assoc, arith}
use Rattle.std.proofs.lemmas.List.{length-append, length-take-le, length-drop, take_at, drop_at, take-append-le, take-take, drop-drop, drop-take}
use Rattle.disk_image.specs.Calls.{patched}

pub patched_before : (all : List ℕ) (at : ℕ) (piece : List ℕ) (p n : ℕ) → p + n ≤ at → at ≤ length all
    → take n (drop p (patched all at piece)) ≡ take n (drop p all)
patched_before all at piece p n before within =
    let rest = piece ++ drop (at + length piece) all in
    let long : p + n ≤ length (take at all) = omega (arith, length-take-le at all within) in
    sym (drop-take p n (take at all ++ rest))
    ∙ ap (drop p) (take-append-le (p + n) (take at all) rest long ∙ take-take (p + n) at all before)
    ∙ drop-take p n all

front_length : (all : List ℕ) (at : ℕ) (piece : List ℕ) → at ≤ length all → length (take at all ++ piece) ≡ at + length piece
front_length all at piece within = omega (arith, length-append (take at all) piece, length-take-le at all within)

pub patched_after : (all : List ℕ) (at : ℕ) (piece : List ℕ) (p : ℕ) → at + length piece ≤ p → at ≤ length all
    → drop p (patched all at piece) ≡ drop p all
patched_after all at piece p after within =
    let end = at + length piece in
    let split : p ≡ end + (p - end) = omega (arith, after) in
    let parts : patched all at piece ≡ (take at all ++ piece) ++ drop end all = sym (append_assoc (take at all) piece (drop end all)) in
    ap (λ (k : ℕ). drop k (patched all at piece)) split
    ∙ sym (drop-drop (p - end) end (patched all at piece))
    ∙ ap (λ (l : List ℕ). drop (p - end) (drop end l)) parts
    ∙ ap (drop (p - end)) (drop_at (take at all ++ piece) (drop end all) end (front_length all at piece within))
    ∙ drop-drop (p - end) end all
    ∙ ap (λ (k : ℕ). drop k all) (sym split)

pub patched_here : (all : List ℕ) (at : ℕ) (piece : List ℕ) → at ≤ length all
    → take (length piece) (drop at (patched all at piece)) ≡ piece
patched_here all at piece within =
    let rest = drop (at + length piece) all in
    ap (take (length piece)) (drop_at (take at all) (piece ++ rest) at (length-take-le at all within))
    ∙ take_at piece rest (length piece) refl

pub patched_length : (all : List ℕ) (at : ℕ) (piece : List ℕ) → at + length piece ≤ length all → length (patched all at piece) ≡ length all
patched_length all at piece within =
    let rest = drop (at + length piece) all in
    omega (
      arith,
      within,
      length-append (take at all) (piece ++ rest),
      length-append piece rest,
      length-take-le at all (omega (arith, within)),
      length-drop (at + length piece) all,
    )
