-- The words that a line is written with say what its words said.
use Rattle.std.proofs.Common.{[], ◌≡◌, ◌≤◌, ◌<◌, ◌^◌, ◌&&◌, ◌∷◌, ℕ, List, Bool, true, false, Option, Some, None, Result, Ok, Err, refl, sym, ap, ◌∙◌, arith}
use Rattle.std.specs.Prelude.{decimal, nat_le, if◌then◌else◌}
use Rattle.std.proofs.lemmas.Bool.{and_parts, leb-true}
use Rattle.ckd_types.specs.declared.geometry.Geometry.{Geometry}
use Rattle.ckd_types.specs.declared.geometry.Geometry.TheVariants.{D3390, D3380}
use Rattle.deck_text.specs.declared.line.DeckWhy.{DeckWhy}
use Rattle.deck_text.specs.declared.line.DeckWhy.TheVariants.{Words, Number}
use Rattle.deck_text.specs.declared.line.DeviceLine.{DeviceLine}
use Rattle.deck_text.specs.Numbers.{word_number, within, number_in, geometry_from, geometry_of}
use Rattle.deck_text.specs.Words.{two_words, three_words}
use Rattle.deck_text.specs.Forms.{needed, then_read, rises, rising, device_line, is_declared, declared, device_of, path_of, path_and_device}
use Rattle.deck_text.specs.Canonical.{geometry_number}
use Rattle.deck_text.proofs.ReadBack.{number_read, decimal_read}

pub record Went {S T : Type 0} (r : Result S DeckWhy) (go : S → Result T DeckWhy) (y : T) : Type 0 where
  pub value : S
  pub first : r ≡ Ok value
  pub second : go value ≡ Ok y

pub went : {S T : Type 0} (r : Result S DeckWhy) (go : S → Result T DeckWhy) (y : T) → then_read r go ≡ Ok y → Went r go y
went (Ok x) go y h = record { value = x; first = refl; second = h }
went (Err why) go y h = absurd (cc)

pub needed_is : {T : Type 0} (why : DeckWhy) (o : Option T) (x : T) → needed why o ≡ Ok x → o ≡ Some x
needed_is why None x h = absurd (cc)
needed_is why (Some y) x h = cc

pub if_ok : {T : Type 0} (b : Bool) (x y : T) (why : DeckWhy) → (if b then Ok x else Err why) ≡ Ok y → x ≡ y
if_ok true x y why h = cc
if_ok false x y why h = absurd (cc)

pub record Ranged (least most n : ℕ) : Type 0 where
  pub low : least ≤ n
  pub high : n ≤ most

within_one : (least most m n : ℕ) (b : Bool) → (nat_le least m && nat_le m most) ≡ b → (if b then Some m else None) ≡ Some n → Ranged least most n
within_one least most m n true is h =
    let p = and_parts (nat_le least m) (nat_le m most) is in
    let e : m ≡ n = cc in
    record { low = omega (arith, leb-true least m p.0); high = omega (arith, leb-true m most p.1) }
within_one least most m n false is h = absurd (cc)

within_is : (least most : ℕ) (o : Option ℕ) (n : ℕ) → within least most o ≡ Some n → Ranged least most n
within_is least most None n h = absurd (cc)
within_is least most (Some m) n h = within_one least most m n (nat_le least m && nat_le m most) refl h

pub number_range : (least most : ℕ) (w : List ℕ) (n : ℕ) → number_in least most w ≡ Some n → Ranged least most n
number_range least most w n h = within_is least most (word_number w) n h

pub number_again : (least most : ℕ) (w : List ℕ) (n : ℕ) → most < 10 ^ 10 → number_in least most w ≡ Some n → number_in least most (decimal n) ≡ Some n
number_again least most w n small h =
    let r = within_is least most (word_number w) n h in number_read least most n r.low r.high small

pub device_again : (devices : List DeviceLine) (w : List ℕ) (d : ℕ) → device_of devices w ≡ Ok d → device_of devices (decimal d) ≡ Ok d
device_again devices w d h =
    let a = went (needed Number (number_in 0 15 w)) (declared devices) d h in
    let e : a.value ≡ d = if_ok (is_declared devices a.value) a.value d Number a.second in
    let n : number_in 0 15 w ≡ Some d = needed_is Number (number_in 0 15 w) a.value a.first ∙ ap Some e in
    ap (λ (o : Option ℕ). then_read (needed Number o) (declared devices)) (number_again 0 15 w d (omega arith) n)
    ∙ ap (declared devices) (sym e)
    ∙ a.second

pub path_again : (w : List ℕ) (p : ℕ) → path_of w ≡ Ok p → path_of (decimal p) ≡ Ok p
path_again w p h = ap (needed Number) (number_again 1 4 w p (omega arith) (needed_is Number (number_in 1 4 w) p h))

pub pair_again : (devices : List DeviceLine) (words : List (List ℕ)) (at : ℕ × ℕ) → path_and_device devices words ≡ Ok at
    → path_and_device devices (decimal at.0 ∷ decimal at.1 ∷ []) ≡ Ok at
pair_again devices words at h =
    let a = went (needed Words (two_words words)) (λ w. then_read (path_of w.0) (λ p. then_read (device_of devices w.1) (λ d. Ok (p, d)))) at h in
    let b = went (path_of a.value.0) (λ p. then_read (device_of devices a.value.1) (λ d. Ok (p, d))) at a.second in
    let c = went (device_of devices a.value.1) (λ d. Ok (b.value, d)) at b.second in
    let e : (b.value, c.value) ≡ at = cc in
    let p : b.value ≡ at.0 = ap (λ (x : ℕ × ℕ). x.0) e in
    let d : c.value ≡ at.1 = ap (λ (x : ℕ × ℕ). x.1) e in
    let pr = path_again a.value.0 at.0 (b.first ∙ ap Ok p) in
    let dr = device_again devices a.value.1 at.1 (c.first ∙ ap Ok d) in
    rw (pr, dr) refl

geometry_again : (g : Geometry) → geometry_of (decimal (geometry_number g)) ≡ Some g
geometry_again D3390 = ap geometry_from (decimal_read 3390 (omega arith))
geometry_again D3380 = ap geometry_from (decimal_read 3380 (omega arith))

pub line_again : (devices : List DeviceLine) (words : List (List ℕ)) (d : DeviceLine) → device_line devices words ≡ Ok d
    → device_line devices (decimal d.number ∷ decimal (geometry_number d.geometry) ∷ decimal d.cylinders ∷ []) ≡ Ok d
line_again devices words d h =
    let go0 =
    λ (w : List ℕ × List ℕ
    × List ℕ). then_read (needed Number (number_in 0 15 w.0))
    (λ n. then_read (needed Number (geometry_of w.1))
    (λ g. then_read (needed Number (number_in 1 64 w.2)) (λ c. rising devices (record { number = n; geometry = g; cylinders = c })))) in
    let a = went (needed Words (three_words words)) go0 d h in
    let b = went (needed Number (number_in 0 15 a.value.0))
    (λ n. then_read (needed Number (geometry_of a.value.1))
    (λ g. then_read (needed Number (number_in 1 64 a.value.2)) (λ c. rising devices (record { number = n; geometry = g; cylinders = c })))) d a.second in
    let e = went (needed Number (geometry_of a.value.1))
    (λ g. then_read (needed Number (number_in 1 64 a.value.2)) (λ c. rising devices (record { number = b.value; geometry = g; cylinders = c }))) d b.second
    in
    let f = went (needed Number (number_in 1 64 a.value.2)) (λ c. rising devices (record { number = b.value; geometry = e.value; cylinders = c })) d e.second in
    let same = if_ok (rises devices b.value) (record { number = b.value; geometry = e.value; cylinders = f.value }) d Number f.second in
    let n : b.value ≡ d.number = ap (λ (x : DeviceLine). x.number) same in
    let c : f.value ≡ d.cylinders = ap (λ (x : DeviceLine). x.cylinders) same in
    let nr = number_again 0 15 a.value.0 d.number (omega arith) (needed_is Number (number_in 0 15 a.value.0) b.value b.first ∙ ap Some n) in
    let cr = number_again 1 64 a.value.2 d.cylinders (omega arith) (needed_is Number (number_in 1 64 a.value.2) f.value f.first ∙ ap Some c) in
    rw (nr, geometry_again d.geometry, cr) (ap (rising devices) (sym same) ∙ f.second)
