-- What a line says is written in words.
use Rattle.std.proofs.Common.{◌≡◌, ◌<◌, ◌^◌, ◌∷◌, [], ℕ, List, Bool, true, false, Result, Ok, refl, arith}
use Rattle.std.specs.Prelude.{decimal}
use Rattle.ckd_types.specs.declared.geometry.Geometry.{Geometry}
use Rattle.ckd_types.specs.declared.geometry.Geometry.TheVariants.{D3390, D3380}
use Rattle.ckd_types.specs.declared.paths.Side.{Side}
use Rattle.ckd_types.specs.declared.paths.Side.TheVariants.{A, B}
use Rattle.deck_plan.specs.declared.event.EventLine.{EventLine}
use Rattle.deck_plan.specs.declared.event.EventLine.TheVariants as events
use Rattle.deck_text.specs.declared.line.DeckWhy.{DeckWhy}
use Rattle.deck_text.specs.declared.line.DeckWhy.TheVariants.{Words, Number}
use Rattle.deck_text.specs.declared.line.DeviceLine.{DeviceLine}
use Rattle.deck_text.specs.declared.line.FaultLine.{FaultLine}
use Rattle.deck_text.specs.Numbers.{number_in, geometry_of}
use Rattle.deck_text.specs.Words.{one_word, two_words, three_words}
use Rattle.deck_text.specs.Forms.{needed, then_read, rises, rising, device_line, is_declared, declared, device_of, path_of, is_write_word, fault_line}
use Rattle.deck_text.specs.Forms.{path_and_device, side_by_word}
use Rattle.deck_text.specs.Events.{device_words, pair_words, side_words, is_volume}
use Rattle.deck_text.specs.Canonical.{geometry_number}
use Rattle.deck_text.proofs.FormsAgain.{went, needed_is, if_ok, number_range}
use Rattle.deck_text.proofs.EventsAgain.{call_word, side_word, behind_of, Again}
use Rattle.deck_text.proofs.CcwAgain.{IsWord, decimal_word}
use Rattle.deck_text.proofs.LineAgain.{AreWords}

number_word : (least most : ℕ) (w : List ℕ) (n : ℕ) → most < 2 ^ 64 → needed Number (number_in least most w) ≡ Ok n → IsWord (decimal n)
number_word least most w n small h =
    let r = number_range least most w n (needed_is Number (number_in least most w) n h) in decimal_word n (omega (arith, r.high))

pub device_word : (devices : List DeviceLine) (w : List ℕ) (d : ℕ) → device_of devices w ≡ Ok d → IsWord (decimal d)
device_word devices w d h =
    let a = went (needed Number (number_in 0 15 w)) (declared devices) d h in
    let e : a.value ≡ d = if_ok (is_declared devices a.value) a.value d Number a.second in
    rw (← e) (number_word 0 15 w a.value (omega arith) a.first)

path_word : (w : List ℕ) (p : ℕ) → path_of w ≡ Ok p → IsWord (decimal p)
path_word w p h = number_word 1 4 w p (omega arith) h

pub path_words : (devices : List DeviceLine) (words : List (List ℕ)) (at : ℕ × ℕ) → path_and_device devices words ≡ Ok at
    → AreWords (decimal at.0 ∷ decimal at.1 ∷ [])
path_words devices words at h =
    let a = went (needed Words (two_words words)) (λ w. then_read (path_of w.0) (λ p. then_read (device_of devices w.1) (λ d. Ok (p, d)))) at h in
    let b = went (path_of a.value.0) (λ p. then_read (device_of devices a.value.1) (λ d. Ok (p, d))) at a.second in
    let c = went (device_of devices a.value.1) (λ d. Ok (b.value, d)) at b.second in
    let same : (b.value, c.value) ≡ at = if_ok true (b.value, c.value) at Number c.second in
    rw (← same) (path_word a.value.0 b.value b.first, (device_word devices a.value.1 c.value c.first, tt))

pub pair_are : (devices : List DeviceLine) (words : List (List ℕ)) (at : ℕ × ℕ) → pair_words devices words ≡ Ok at → AreWords (decimal at.0 ∷ decimal at.1 ∷ [])
pair_are devices words at h =
    let a = went (needed Words (two_words words)) (λ w. then_read (device_of devices w.0) (λ x. then_read (device_of devices w.1) (λ y. Ok (x, y)))) at h in
    let b = went (device_of devices a.value.0) (λ x. then_read (device_of devices a.value.1) (λ y. Ok (x, y))) at a.second in
    let c = went (device_of devices a.value.1) (λ y. Ok (b.value, y)) at b.second in
    let same : (b.value, c.value) ≡ at = if_ok true (b.value, c.value) at Number c.second in
    rw (← same) (device_word devices a.value.0 b.value b.first, (device_word devices a.value.1 c.value c.first, tt))

geometry_word : (g : Geometry) → IsWord (decimal (geometry_number g))
geometry_word D3390 = decimal_word 3390 (omega arith)
geometry_word D3380 = decimal_word 3380 (omega arith)

pub line_are : (devices : List DeviceLine) (words : List (List ℕ)) (d : DeviceLine) → device_line devices words ≡ Ok d
    → AreWords (decimal d.number ∷ decimal (geometry_number d.geometry) ∷ decimal d.cylinders ∷ [])
line_are devices words d h =
    let a = went (needed Words (three_words words))
    (λ w. then_read (needed Number (number_in 0 15 w.0))
    (λ n. then_read (needed Number (geometry_of w.1))
    (λ g. then_read (needed Number (number_in 1 64 w.2)) (λ c. rising devices (record { number = n; geometry = g; cylinders = c }))))) d h in
    let b = went (needed Number (number_in 0 15 a.value.0))
    (λ n. then_read (needed Number (geometry_of a.value.1))
    (λ g. then_read (needed Number (number_in 1 64 a.value.2)) (λ c. rising devices (record { number = n; geometry = g; cylinders = c })))) d a.second in
    let e = went (needed Number (geometry_of a.value.1))
    (λ g. then_read (needed Number (number_in 1 64 a.value.2)) (λ c. rising devices (record { number = b.value; geometry = g; cylinders = c }))) d b.second
    in
    let f = went (needed Number (number_in 1 64 a.value.2)) (λ c. rising devices (record { number = b.value; geometry = e.value; cylinders = c })) d e.second in
    let same = if_ok (rises devices b.value) (record { number = b.value; geometry = e.value; cylinders = f.value }) d Number f.second in
    rw (← same) (
      number_word 0 15 a.value.0 b.value (omega arith) b.first,
      (geometry_word e.value, (number_word 1 64 a.value.2 f.value (omega arith) f.first, tt)),
    )

call_is_word : (write : Bool) → IsWord (call_word write)
unfolding call_word
call_is_word true = record { some = omega arith; letters = refl }
call_is_word false = record { some = omega arith; letters = refl }

pub fault_are : (devices : List DeviceLine) (words : List (List ℕ)) (f : FaultLine) → fault_line devices words ≡ Ok f
    → AreWords (decimal f.device ∷ call_word f.write ∷ decimal f.call ∷ [])
fault_are devices words f h =
    let a = went (needed Words (three_words words))
    (λ w. then_read (needed Words (is_write_word w.1))
    (λ write. then_read (device_of devices w.0)
    (λ d. then_read (needed Number (number_in 1 4294967295 w.2)) (λ n. Ok (record { device = d; write = write; call = n }))))) f h in
    let b = went (needed Words (is_write_word a.value.1))
    (λ write. then_read (device_of devices a.value.0)
    (λ d. then_read (needed Number (number_in 1 4294967295 a.value.2)) (λ n. Ok (record { device = d; write = write; call = n })))) f a.second in
    let c = went (device_of devices a.value.0)
    (λ d. then_read (needed Number (number_in 1 4294967295 a.value.2)) (λ n. Ok (record { device = d; write = b.value; call = n }))) f b.second in
    let e = went (needed Number (number_in 1 4294967295 a.value.2)) (λ n. Ok (record { device = c.value; write = b.value; call = n })) f c.second in
    let same = if_ok true (record { device = c.value; write = b.value; call = e.value }) f Number e.second in
    rw (← same) (device_word devices a.value.0 c.value c.first, (call_is_word b.value, (number_word 1 4294967295 a.value.2 e.value (omega arith) e.first, tt)))

side_is_word : (side : Side) → IsWord (side_word side)
unfolding side_word
side_is_word A = record { some = omega arith; letters = refl }
side_is_word B = record { some = omega arith; letters = refl }

side_are : (devices : List DeviceLine) (device side : List ℕ) (at : ℕ × Side) → side_words devices device side ≡ Ok at → IsWord (decimal at.0)
side_are devices device side at h =
    let a = went (needed Words (side_by_word side)) (λ s. then_read (device_of devices device) (λ d. Ok (d, s))) at h in
    let b = went (device_of devices device) (λ d. Ok (d, a.value)) at a.second in
    let same : (b.value, a.value) ≡ at = if_ok true (b.value, a.value) at Number b.second in
    rw (← same) (device_word devices device b.value b.first)

-- an event of one device
one_are : (make : ℕ → EventLine) (devices : List DeviceLine) (words : List (List ℕ)) (d : ℕ) → ((x : ℕ) → make x ≡ make d → x ≡ d)
    → then_read (device_words devices words) (λ x. Ok (make x)) ≡ Ok (make d) → AreWords (decimal d ∷ [])
one_are make devices words d same h =
    let a = went (device_words devices words) (λ x. Ok (make x)) (make d) h in
    let e : a.value ≡ d = same a.value (if_ok true (make a.value) (make d) Number a.second) in
    let b = went (needed Words (one_word words)) (device_of devices) a.value a.first in
    rw (← e) (device_word devices b.value a.value b.second, tt)

two_are : (make : ℕ → ℕ → EventLine) (r : Result (ℕ × ℕ) DeckWhy) (x y : ℕ) → ((a b : ℕ) → make a b ≡ make x y → (a ≡ x) × (b ≡ y))
    → ((at : ℕ × ℕ) → r ≡ Ok at → AreWords (decimal at.0 ∷ decimal at.1 ∷ []))
    → then_read r (λ at. Ok (make at.0 at.1)) ≡ Ok (make x y) → AreWords (decimal x ∷ decimal y ∷ [])
two_are make r x y same are h =
    let a = went r (λ at. Ok (make at.0 at.1)) (make x y) h in
    let e = same a.value.0 a.value.1 (if_ok true (make a.value.0 a.value.1) (make x y) Number a.second) in
    rw (e.0, e.1) at (are a.value a.first)

sided_are : (make : ℕ → Side → EventLine) (devices : List DeviceLine) (device side : List ℕ) (x : ℕ) (y : Side)
    → ((at : ℕ × Side) → make at.0 at.1 ≡ make x y → at.0 ≡ x)
    → then_read (side_words devices device side) (λ at. Ok (make at.0 at.1)) ≡ Ok (make x y) → IsWord (decimal x)
sided_are make devices device side x y same h =
    let a = went (side_words devices device side) (λ at. Ok (make at.0 at.1)) (make x y) h in
    let e : a.value.0 ≡ x = same a.value (if_ok true (make a.value.0 a.value.1) (make x y) Number a.second) in
    rw e at (side_are devices device side a.value a.first)

pub event_are : (devices : List DeviceLine) (e : EventLine) → Again devices e → AreWords (behind_of e)
unfolding behind_of is_volume
event_are devices (events.Start path device) h =
    two_are events.Start (path_and_device devices (decimal path ∷ decimal device ∷ [])) path device (λ a b e. (cc, cc))
    (path_words devices (decimal path ∷ decimal device ∷ [])) h
event_are devices (events.Step device) h = one_are events.Step devices (decimal device ∷ []) device (λ x e. cc) h
event_are devices (events.Run device) h = one_are events.Run devices (decimal device ∷ []) device (λ x e. cc) h
event_are devices (events.Back device) h = one_are events.Back devices (decimal device ∷ []) device (λ x e. cc) h
event_are devices (events.Settle device) h = one_are events.Settle devices (decimal device ∷ []) device (λ x e. cc) h
event_are devices (events.Reset path device) h =
    two_are events.Reset (path_and_device devices (decimal path ∷ decimal device ∷ [])) path device (λ a b e. (cc, cc))
    (path_words devices (decimal path ∷ decimal device ∷ [])) h
event_are devices events.FailCache h = (record { some = omega arith; letters = refl }, tt)
event_are devices events.FailStore h = (record { some = omega arith; letters = refl }, tt)
event_are devices (events.FailVolume device side) h = (
  record {
    some = omega arith;
    letters =
        refl;
  },
  (sided_are events.FailVolume devices (decimal device) (side_word side) device side (λ at e. cc) h, (side_is_word side, tt)),
)
event_are devices events.RepairCache h = (record { some = omega arith; letters = refl }, tt)
event_are devices events.RepairStore h = (record { some = omega arith; letters = refl }, tt)
event_are devices (events.Replace device side) h =
    (sided_are events.Replace devices (decimal device) (side_word side) device side (λ at e. cc) h, (side_is_word side, tt))
event_are devices (events.Pair first second) h =
    two_are events.Pair (pair_words devices (decimal first ∷ decimal second ∷ [])) first second (λ a b e. (cc, cc))
    (pair_are devices (decimal first ∷ decimal second ∷ [])) h
event_are devices (events.Unpair device) h = one_are events.Unpair devices (decimal device ∷ []) device (λ x e. cc) h
event_are devices (events.Suspend device) h = one_are events.Suspend devices (decimal device ∷ []) device (λ x e. cc) h
event_are devices (events.Resume device) h = one_are events.Resume devices (decimal device ∷ []) device (λ x e. cc) h
event_are devices events.Power h = tt
