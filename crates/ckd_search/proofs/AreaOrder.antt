-- Comparing bytes in two parts, the second against zeros.
use Rattle.std.proofs.Common.{◌≡◌, ℕ, ◌-◌, ◌==◌, ◌&&◌, Bool, true, false, List, [], ◌∷◌, ◌++◌, length, take, drop, min, refl, sym, ap, ◌∙◌, arith, true≢false}
use Rattle.std.proofs.lemmas.Bool.{false≢true}
use Rattle.std.proofs.lemmas.Bool.Decides.{nat_tests}
use Rattle.std.proofs.lemmas.List.{length-take, length-drop, take_min, take_rest, take-append-drop}
use Rattle.std.specs.Prelude.{replicate}
use Rattle.std.specs.List.{list_all}
use Rattle.std.specs.declared.cmp.Ordering.{Ordering}
use Rattle.std.specs.declared.cmp.Ordering.TheVariants.{Less, Equal, Greater}
use Rattle.std.specs.Ordering.{nat_cmp, ordering_then}
use Rattle.std.specs.Cmp.Lexicographic.{slice_cmp}
use Rattle.ckd_types.specs.declared.channel.Ccw.{Ccw}
use Rattle.ckd_rules.specs.Area
use Rattle.ckd_rules.specs.Searches

equal_first : (x : ℕ) → (x == 0) ≡ true → nat_cmp x 0 ≡ Equal
equal_first x h = grind (arith, nat_tests)

greater_first : (x : ℕ) → (x == 0) ≡ false → nat_cmp x 0 ≡ Greater
greater_first x h = grind (arith, nat_tests)

zero_more : (x : ℕ) (b all : Bool) (rest : Ordering) → (x == 0) ≡ b → (b && all) ≡ true → (all ≡ true → Equal ≡ rest) → Equal ≡ ordering_then (nat_cmp x 0) rest
zero_more x true all rest is h more = more h ∙ ap (λ (o : Ordering). ordering_then o rest) (sym (equal_first x is))
zero_more x false all rest is h more = absurd (false≢true h)

other_more : (x : ℕ) (b all : Bool) (rest : Ordering) → (x == 0) ≡ b → (b && all) ≡ false →
    (all ≡ false → Greater ≡ rest) → Greater ≡ ordering_then (nat_cmp x 0) rest
other_more x true all rest is h more = more h ∙ ap (λ (o : Ordering). ordering_then o rest) (sym (equal_first x is))
other_more x false all rest is h more = ap (λ (o : Ordering). ordering_then o rest) (sym (greater_first x is))

pub all_zeros : (xs : List ℕ) → list_all (λ x. x == 0) xs ≡ true → Equal ≡ slice_cmp nat_cmp xs (replicate (length xs) 0)
all_zeros [] h = refl
all_zeros (x ∷ xs) h = zero_more x (x == 0) (list_all (λ y. y == 0) xs) (slice_cmp nat_cmp xs (replicate (length xs) 0)) refl h (all_zeros xs)

pub some_other : (xs : List ℕ) → list_all (λ x. x == 0) xs ≡ false → Greater ≡ slice_cmp nat_cmp xs (replicate (length xs) 0)
some_other [] h = absurd (true≢false h)
some_other (x ∷ xs) h = other_more x (x == 0) (list_all (λ y. y == 0) xs) (slice_cmp nat_cmp xs (replicate (length xs) 0)) refl h (some_other xs)

then_assoc : (a b c : Ordering) → ordering_then a (ordering_then b c) ≡ ordering_then (ordering_then a b) c
then_assoc Less b c = refl
then_assoc Equal b c = refl
then_assoc Greater b c = refl

in_two : (xs ys more others : List ℕ) → length xs ≡ length ys → slice_cmp nat_cmp (xs ++ more) (ys ++ others)
    ≡ ordering_then (slice_cmp nat_cmp xs ys) (slice_cmp nat_cmp more others)
in_two [] [] more others len = refl
in_two [] (y ∷ ys) more others len = absurd (omega arith)
in_two (x ∷ xs) [] more others len = absurd (omega arith)
in_two (x ∷ xs) (y ∷ ys) more others len =
    ap (λ (o : Ordering). ordering_then (nat_cmp x y) o) (in_two xs ys more others (omega arith)) ∙ then_assoc
    (nat_cmp x y) (slice_cmp nat_cmp xs ys) (slice_cmp nat_cmp more others)

-- k bytes are given of the m that are moved
parts : (k m : ℕ) (moved given : List ℕ) → length moved ≡ m → k ≡ min (length given) m
    → ordering_then (slice_cmp nat_cmp (take k moved) (take k given))
    (slice_cmp nat_cmp (drop k moved) (replicate (length (drop k moved)) 0))
    ≡ slice_cmp nat_cmp moved (Area.padded m given)
parts k m moved given len is =
    let short : length (take k moved) ≡ length (take k given) = rw (length-take k moved, length-take k given) (omega arith) in
    let zeros : length (drop k moved) ≡ m - length given = length-drop k moved ∙ omega arith in
    let front : take k given ≡ take m given = ap (λ (i : ℕ). take i given) (omega arith) ∙ take_min m given in
    sym (in_two (take k moved) (take k given) (drop k moved) (replicate (length (drop k moved)) 0) short)
    ∙ ap (λ (l : List ℕ). slice_cmp nat_cmp l (take k given ++ replicate (length (drop k moved)) 0)) (take-append-drop k moved)
    ∙ ap (λ (l : List ℕ). slice_cmp nat_cmp moved (l ++ replicate (length (drop k moved)) 0)) front
    ∙ ap (λ (i : ℕ). slice_cmp nat_cmp moved (take m given ++ replicate i 0)) zeros

pub compared_is : (c : Ccw) (m k : ℕ) (area given : List ℕ) (first second r : Ordering) →
    m ≡ min c.count (length area) → given ≡ Area.given_taken c → k ≡ min (length given) (length (take m area))
    → first ≡ slice_cmp nat_cmp (take k (take m area)) (take k given)
    → second ≡ slice_cmp nat_cmp (take (length (take m area) - k) (drop k (take m area)))
    (replicate (length (take (length (take m area) - k) (drop k (take m area)))) 0)
    → r ≡ ordering_then first second
    → r ≡ Searches.compared c area
compared_is c m k area given first second r m_is given_is k_is first_is second_is r_is =
    let len : length (take m area) ≡ m = length-take m area ∙ omega arith in
    let rest : second ≡ slice_cmp nat_cmp (drop k (take m area)) (replicate (length (drop k (take m area))) 0) =
    second_is ∙ ap (λ (l : List ℕ). slice_cmp nat_cmp l (replicate (length l) 0)) (take_rest (take m area) k) in
    let moved : take m area ≡ take c.count area = ap (λ (i : ℕ). take i area) m_is ∙ take_min c.count area in
    r_is
    ∙ ap (λ (o : Ordering). ordering_then o second) first_is
    ∙ ap (λ (o : Ordering). ordering_then (slice_cmp nat_cmp (take k (take m area)) (take k given)) o) rest
    ∙ parts k m (take m area) given len (k_is ∙ ap (λ (i : ℕ). min (length given) i) len)
    ∙ ap (λ (l : List ℕ). slice_cmp nat_cmp l (Area.padded m given)) moved
    ∙ ap (λ (i : ℕ). slice_cmp nat_cmp (take c.count area) (Area.padded i given)) m_is
    ∙ ap (λ (l : List ℕ). slice_cmp nat_cmp (take c.count area) (Area.padded (min c.count (length area)) l)) given_is
