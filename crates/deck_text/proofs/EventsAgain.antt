-- The words that a FAULT, a CCW or an event line is written with say what its words said.
use Rattle.std.proofs.Common.{◌≡◌, ◌∷◌, [], ℕ, List, Bool, true, false, Option, Some, None, Ok, Err, refl, ap, ◌∙◌, arith}
use Rattle.std.specs.Prelude.{decimal, codes, if◌then◌else◌}
use Rattle.ckd_types.specs.declared.paths.Side.{Side}
use Rattle.ckd_types.specs.declared.paths.Side.TheVariants.{A, B}
use Rattle.deck_plan.specs.declared.event.EventLine.{EventLine}
use Rattle.deck_plan.specs.declared.event.EventLine.TheVariants as events
use Rattle.deck_text.specs.declared.keyword.EventWord.{EventWord}
use Rattle.deck_text.specs.declared.keyword.EventWord.TheVariants.{Start, Step, Run, Back, Settle, Reset, Fail, Repair}
use Rattle.deck_text.specs.declared.keyword.EventWord.TheVariants.{Replace, Pair, Unpair, Suspend, Resume, Power}
use Rattle.deck_text.specs.declared.keyword.EventPart.{EventPart}
use Rattle.deck_text.specs.declared.keyword.EventPart.TheVariants.{Cache, Store}
use Rattle.deck_text.specs.declared.line.DeckWhy.TheVariants.{Words, Number}
use Rattle.deck_text.specs.declared.line.DeviceLine.{DeviceLine}
use Rattle.deck_text.specs.declared.line.FaultLine.{FaultLine}
use Rattle.deck_text.specs.Numbers.{number_in}
use Rattle.deck_text.specs.Words.{one_word, two_words, three_words}
use Rattle.deck_text.specs.Forms.{needed, then_read, device_of, is_write_word, no_words, side_by_word, fault_line, path_and_device}
use Rattle.deck_text.specs.Events.{device_words, pair_words, side_words, part_word, is_volume, part_words, failed_part, repaired_part, fail_by, event_line}
use Rattle.deck_text.proofs.FormsAgain.{went, needed_is, if_ok, number_again, device_again, pair_again}

unfoldable pub call_word : Bool → List ℕ
call_word true = codes "WRITE"
call_word false = codes "READ"

call_again : (write : Bool) → is_write_word (call_word write) ≡ Some write
unfolding call_word is_write_word
call_again true = refl
call_again false = refl

pub fault_again : (devices : List DeviceLine) (words : List (List ℕ)) (f : FaultLine) → fault_line devices words ≡ Ok f
    → fault_line devices (decimal f.device ∷ call_word f.write ∷ decimal f.call ∷ []) ≡ Ok f
fault_again devices words f h =
    let a = went (needed Words (three_words words))
    (λ w. then_read (needed Words (is_write_word w.1))
    (λ write. then_read (device_of devices w.0)
    (λ d. then_read (needed Number (number_in 1 4294967295 w.2)) (λ n. Ok (record { device = d; write = write; call = n }))))) f h in
    let b = went (needed Words (is_write_word a.value.1))
    (λ write. then_read (device_of devices a.value.0)
    (λ d. then_read (needed Number (number_in 1 4294967295 a.value.2)) (λ n. Ok (record { device = d; write = write; call = n })))) f a.second in
    let c = went (device_of devices a.value.0)
    (λ d. then_read (needed Number (number_in 1 4294967295 a.value.2)) (λ n. Ok (record { device = d; write = b.value; call = n }))) f b.second in
    let e = went (needed Number (number_in 1 4294967295 a.value.2)) (λ n. Ok (record { device = c.value; write = b.value; call = n })) f c.second in
    let same = if_ok true (record { device = c.value; write = b.value; call = e.value }) f Number e.second in
    let d : c.value ≡ f.device = ap (λ (x : FaultLine). x.device) same in
    let n : e.value ≡ f.call = ap (λ (x : FaultLine). x.call) same in
    let dr = device_again devices a.value.0 f.device (c.first ∙ ap Ok d) in
    let nr = number_again 1 4294967295 a.value.2 f.call (omega arith) (needed_is Number (number_in 1 4294967295 a.value.2) e.value e.first ∙ ap Some n) in
    rw (call_again f.write, dr, nr) refl

unfoldable pub side_word : Side → List ℕ
side_word A = codes "A"
side_word B = codes "B"

side_again : (side : Side) → side_by_word (side_word side) ≡ Some side
unfolding side_word side_by_word
side_again A = refl
side_again B = refl

sided_again : (devices : List DeviceLine) (device side : List ℕ) (at : ℕ × Side) → side_words devices device side ≡ Ok at
    → side_words devices (decimal at.0) (side_word at.1) ≡ Ok at
sided_again devices device side at h =
    let a = went (needed Words (side_by_word side)) (λ s. then_read (device_of devices device) (λ d. Ok (d, s))) at h in
    let b = went (device_of devices device) (λ d. Ok (d, a.value)) at a.second in
    let same = if_ok true (b.value, a.value) at Number b.second in
    let dr = device_again devices device at.0 (b.first ∙ ap Ok (ap (λ (x : ℕ × Side). x.0) same)) in
    rw (side_again at.1, dr) refl

one_again : (devices : List DeviceLine) (words : List (List ℕ)) (d : ℕ) → device_words devices words ≡ Ok d → device_words devices (decimal d ∷ []) ≡ Ok d
one_again devices words d h =
    let a = went (needed Words (one_word words)) (device_of devices) d h in device_again devices a.value d a.second

two_again : (devices : List DeviceLine) (words : List (List ℕ)) (at : ℕ × ℕ) → pair_words devices words ≡ Ok at
    → pair_words devices (decimal at.0 ∷ decimal at.1 ∷ []) ≡ Ok at
two_again devices words at h =
    let a = went (needed Words (two_words words)) (λ w. then_read (device_of devices w.0) (λ a. then_read (device_of devices w.1) (λ b. Ok (a, b)))) at h in
    let b = went (device_of devices a.value.0) (λ x. then_read (device_of devices a.value.1) (λ y. Ok (x, y))) at a.second in
    let c = went (device_of devices a.value.1) (λ y. Ok (b.value, y)) at b.second in
    let same = if_ok true (b.value, c.value) at Number c.second in
    let br = device_again devices a.value.0 at.0 (b.first ∙ ap Ok (ap (λ (x : ℕ × ℕ). x.0) same)) in
    let cr = device_again devices a.value.1 at.1 (c.first ∙ ap Ok (ap (λ (x : ℕ × ℕ). x.1) same)) in
    rw (br, cr) refl

-- the first word of an event's line, and the words behind it
abbrev pub word_of : EventLine → EventWord
word_of (events.Start path device) = Start
word_of (events.Step device) = Step
word_of (events.Run device) = Run
word_of (events.Back device) = Back
word_of (events.Settle device) = Settle
word_of (events.Reset path device) = Reset
word_of events.FailCache = Fail
word_of events.FailStore = Fail
word_of (events.FailVolume device side) = Fail
word_of events.RepairCache = Repair
word_of events.RepairStore = Repair
word_of (events.Replace device side) = Replace
word_of (events.Pair first second) = Pair
word_of (events.Unpair device) = Unpair
word_of (events.Suspend device) = Suspend
word_of (events.Resume device) = Resume
word_of events.Power = Power

unfoldable pub behind_of : EventLine → List (List ℕ)
behind_of (events.Start path device) = decimal path ∷ decimal device ∷ []
behind_of (events.Step device) = decimal device ∷ []
behind_of (events.Run device) = decimal device ∷ []
behind_of (events.Back device) = decimal device ∷ []
behind_of (events.Settle device) = decimal device ∷ []
behind_of (events.Reset path device) = decimal path ∷ decimal device ∷ []
behind_of events.FailCache = codes "CACHE" ∷ []
behind_of events.FailStore = codes "STORE" ∷ []
behind_of (events.FailVolume device side) = codes "VOLUME" ∷ decimal device ∷ side_word side ∷ []
behind_of events.RepairCache = codes "CACHE" ∷ []
behind_of events.RepairStore = codes "STORE" ∷ []
behind_of (events.Replace device side) = decimal device ∷ side_word side ∷ []
behind_of (events.Pair first second) = decimal first ∷ decimal second ∷ []
behind_of (events.Unpair device) = decimal device ∷ []
behind_of (events.Suspend device) = decimal device ∷ []
behind_of (events.Resume device) = decimal device ∷ []
behind_of events.Power = []

-- an event's line says the event again
abbrev pub Again : List DeviceLine → EventLine → Type 0
Again devices e = event_line devices (word_of e) (behind_of e) ≡ Ok e

fails_again : (devices : List DeviceLine) (part : EventPart) → Again devices (failed_part part)
unfolding behind_of part_word is_volume
fails_again devices Cache = refl
fails_again devices Store = refl

repairs_again : (devices : List DeviceLine) (part : EventPart) → Again devices (repaired_part part)
unfolding behind_of part_word is_volume
repairs_again devices Cache = refl
repairs_again devices Store = refl

volume_again : (devices : List DeviceLine) (at : ℕ × Side) → side_words devices (decimal at.0) (side_word at.1) ≡ Ok at
    → Again devices (events.FailVolume at.0 at.1)
unfolding behind_of part_word is_volume
volume_again devices at h = ap (λ r. then_read r (λ x. Ok (events.FailVolume x.0 x.1))) h

replaced_again : (devices : List DeviceLine) (at : ℕ × Side) → side_words devices (decimal at.0) (side_word at.1) ≡ Ok at
    → Again devices (events.Replace at.0 at.1)
unfolding behind_of
replaced_again devices at h = ap (λ r. then_read r (λ x. Ok (events.Replace x.0 x.1))) h

-- an event of one device
device_event : (make : ℕ → EventLine) (devices : List DeviceLine) (words : List (List ℕ)) (e : EventLine)
    → ((d : ℕ) → device_words devices (decimal d ∷ []) ≡ Ok d → Again devices (make d)) → then_read (device_words devices words) (λ d. Ok (make d)) ≡ Ok e
    → Again devices e
device_event make devices words e again h =
    let a = went (device_words devices words) (λ d. Ok (make d)) e h in
    let same : make a.value ≡ e = if_ok true (make a.value) e Number a.second in
    rw (← same) (again a.value (one_again devices words a.value a.first))

fail_again : (devices : List DeviceLine) (words : List (List ℕ)) (o : Option (List ℕ × List ℕ × List ℕ)) (e : EventLine) → fail_by o devices words ≡ Ok e
    → Again devices e
fail_again devices words None e h =
    let a = went (part_words words) (λ part. Ok (failed_part part)) e h in
    let same : failed_part a.value ≡ e = if_ok true (failed_part a.value) e Number a.second in
    rw (← same) (fails_again devices a.value)
fail_again devices words (Some w) e h = volume_if (is_volume w.0) h
  where
    volume_if : (b : Bool) → (if b then then_read (side_words devices w.1 w.2) (λ at. Ok (events.FailVolume at.0 at.1)) else Err Words) ≡ Ok e → Again devices e
    volume_if true g =
        let a = went (side_words devices w.1 w.2) (λ at. Ok (events.FailVolume at.0 at.1)) e g in
        let same : events.FailVolume a.value.0 a.value.1 ≡ e = if_ok true (events.FailVolume a.value.0 a.value.1) e Number a.second in
        rw (← same) (volume_again devices a.value (sided_again devices w.1 w.2 a.value a.first))
    volume_if false g = absurd (cc)

pub event_again : (devices : List DeviceLine) (word : EventWord) (words : List (List ℕ)) (e : EventLine) → event_line devices word words ≡ Ok e
    → Again devices e
unfolding behind_of
event_again devices Start words e h =
    let a = went (path_and_device devices words) (λ at. Ok (events.Start at.0 at.1)) e h in
    let same : events.Start a.value.0 a.value.1 ≡ e = if_ok true (events.Start a.value.0 a.value.1) e Number a.second in
    rw (← same) (ap (λ r. then_read r (λ at. Ok (events.Start at.0 at.1))) (pair_again devices words a.value a.first))
event_again devices Step words e h = device_event events.Step devices words e (λ d g. ap (λ r. then_read r (λ x. Ok (events.Step x))) g) h
event_again devices Run words e h = device_event events.Run devices words e (λ d g. ap (λ r. then_read r (λ x. Ok (events.Run x))) g) h
event_again devices Back words e h = device_event events.Back devices words e (λ d g. ap (λ r. then_read r (λ x. Ok (events.Back x))) g) h
event_again devices Settle words e h = device_event events.Settle devices words e (λ d g. ap (λ r. then_read r (λ x. Ok (events.Settle x))) g) h
event_again devices Reset words e h =
    let a = went (path_and_device devices words) (λ at. Ok (events.Reset at.0 at.1)) e h in
    let same : events.Reset a.value.0 a.value.1 ≡ e = if_ok true (events.Reset a.value.0 a.value.1) e Number a.second in
    rw (← same) (ap (λ r. then_read r (λ at. Ok (events.Reset at.0 at.1))) (pair_again devices words a.value a.first))
event_again devices Fail words e h = fail_again devices words (three_words words) e h
event_again devices Repair words e h =
    let a = went (part_words words) (λ part. Ok (repaired_part part)) e h in
    let same : repaired_part a.value ≡ e = if_ok true (repaired_part a.value) e Number a.second in
    rw (← same) (repairs_again devices a.value)
event_again devices Replace words e h =
    let a = went (needed Words (two_words words)) (λ w. then_read (side_words devices w.0 w.1) (λ at. Ok (events.Replace at.0 at.1))) e h in
    let b = went (side_words devices a.value.0 a.value.1) (λ at. Ok (events.Replace at.0 at.1)) e a.second in
    let same : events.Replace b.value.0 b.value.1 ≡ e = if_ok true (events.Replace b.value.0 b.value.1) e Number b.second in
    rw (← same) (replaced_again devices b.value (sided_again devices a.value.0 a.value.1 b.value b.first))
event_again devices Pair words e h =
    let a = went (pair_words devices words) (λ at. Ok (events.Pair at.0 at.1)) e h in
    let same : events.Pair a.value.0 a.value.1 ≡ e = if_ok true (events.Pair a.value.0 a.value.1) e Number a.second in
    rw (← same) (ap (λ r. then_read r (λ at. Ok (events.Pair at.0 at.1))) (two_again devices words a.value a.first))
event_again devices Unpair words e h = device_event events.Unpair devices words e (λ d g. ap (λ r. then_read r (λ x. Ok (events.Unpair x))) g) h
event_again devices Suspend words e h = device_event events.Suspend devices words e (λ d g. ap (λ r. then_read r (λ x. Ok (events.Suspend x))) g) h
event_again devices Resume words e h = device_event events.Resume devices words e (λ d g. ap (λ r. then_read r (λ x. Ok (events.Resume x))) g) h
event_again devices Power words e h =
    let a = went (no_words words) (λ _. Ok events.Power) e h in
    let same : events.Power ≡ e = if_ok true events.Power e Number a.second in
    rw (← same) refl
