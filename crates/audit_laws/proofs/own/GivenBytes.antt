-- Lists of bytes, and the bytes that a word gives.
use Rattle.std.proofs.Common.{◌≡◌, ◌<◌, ◌-◌, ℕ, zero, suc, List, [], ◌∷◌, length, arith}
use Rattle.std.specs.Prelude.{All, drop, replicate, slice_index_or, take}
use Rattle.std.proofs.lemmas.List.{length-append, length-replicate, length-take}
use Rattle.std.proofs.lemmas.List.Elements.{All-append, All-cons, All-drop, All-head, All-nil, All-replicate, All-tail, All-take}
use Rattle.hex.specs.Hex.{IsBytes}
use Rattle.ckd_types.specs.declared.channel.Ccw.{Ccw}
use Rattle.ckd_rules.specs.Area.{given_at, given_taken, padded}
use Rattle.plain_defs.specs.Whole.{GivesBytes}

abbrev pub IsByte : ℕ → Type 0
IsByte b = b < 256

pub no_bytes : All IsByte []
no_bytes = All-nil IsByte

-- by each place, and as a list
pub as_bytes : (l : List ℕ) → All IsByte l → IsBytes l
as_bytes [] all i = omega arith
as_bytes (b ∷ l) all zero = All-head IsByte b l all
as_bytes (b ∷ l) all (suc i) = as_bytes l (All-tail IsByte b l all) i

pub are_bytes : (l : List ℕ) → IsBytes l → All IsByte l
are_bytes [] h = no_bytes
are_bytes (b ∷ l) h = All-cons IsByte b l (h 0) (are_bytes l (λ i. h (suc i)))

-- what is in a place of a list, or stands for it
pub at_or : {X : Type 0} (P : X → Type 0) (d : X) → P d → (xs : List X) (i : ℕ) → All P xs → P (slice_index_or xs i d)
at_or P d h [] i all = h
at_or P d h (x ∷ xs) zero all = All-head P x xs all
at_or P d h (x ∷ xs) (suc i) all = at_or P d h xs i (All-tail P x xs all)

pub padded_length : (n : ℕ) (bytes : List ℕ) → length (padded n bytes) ≡ n
padded_length n bytes = grind (arith, length-append, length-take, length-replicate)

pub padded_are : (n : ℕ) (bytes : List ℕ) → All IsByte bytes → All IsByte (padded n bytes)
padded_are n bytes all =
    All-append IsByte (take n bytes) (replicate (n - length bytes) 0) (All-take IsByte n bytes all)
    (All-replicate IsByte (n - length bytes) 0 (omega arith))

pub given_are : (from n : ℕ) (c : Ccw) → GivesBytes c → All IsByte (given_at from n c)
given_are from n c gives = padded_are n (drop from (given_taken c)) (All-drop IsByte from (given_taken c) (All-take IsByte c.count c.given gives))

pub given_length : (from n : ℕ) (c : Ccw) → length (given_at from n c) ≡ n
given_length from n c = padded_length n (drop from (given_taken c))
