-- Every deck that was read can be run: its devices have rising numbers and 1 to 64 cylinders, and the devices that its events name are there.
use Rattle.std.proofs.Common.{◌≡◌, ◌≤◌, ◌==◌, ℕ, Bool, true, false, List, [], ◌∷◌, ◌++◌, Option, Some, None, Ok, Err, refl, sym, ap, subst, ◌∙◌, arith}
use Rattle.std.specs.Prelude.{◌&&◌, ◌||◌, nat_le, nat_lt, if◌then◌else◌}
use Rattle.std.proofs.lemmas.Bool.Decides.{nat_tests}
use Rattle.std.proofs.lemmas.List.Folds.{list_all-append}
use Rattle.ckd_types.specs.declared.paths.Side.{Side}
use Rattle.device_outside.specs.Lists as L
use Rattle.device_outside.specs.Lists.{is_in}
use Rattle.deck_plan.specs.declared.event.EventLine.{EventLine}
use Rattle.deck_plan.specs.declared.event.EventLine.TheVariants as lines
use Rattle.deck_text.specs.declared.keyword.EventPart.{EventPart}
use Rattle.deck_text.specs.declared.keyword.EventPart.TheVariants as parts
use Rattle.deck_text.specs.declared.line.DeckWhy.TheVariants.{Number, Words}
use Rattle.deck_text.specs.declared.line.DeviceLine.{DeviceLine}
use Rattle.deck_text.specs.DeckLines.{DeckLines}
use Rattle.deck_text.specs.Events.{device_words, fail_by, is_volume, pair_words, part_words, failed_part, replace_line, side_words}
use Rattle.deck_text.specs.Forms.{needed, then_read, declared, device_line, device_of, is_declared, path_and_device, path_of, rises, rising, side_by_word}
use Rattle.deck_text.specs.Numbers.{number_in, geometry_of}
use Rattle.deck_text.specs.Parse.{parsed}
use Rattle.deck_text.specs.Words.{one_word, two_words, three_words}
use Rattle.deck_text.proofs.DeckAgain.{AllDevices, Each, EventOk}
use Rattle.deck_text.proofs.DeckAgain as again
use Rattle.deck_text.proofs.EventsAgain.{behind_of}
use Rattle.deck_text.proofs.FormsAgain.{went, needed_is, if_ok, Ranged, number_range}
use Rattle.deck_text.proofs.Reached.{parsed_good}
use Rattle.deck_run.specs.Opening.{are_open, are_open_behind, are_open_lines, is_behind, is_open_device, is_open_line, numbers_in}

-- Devices

record DeviceRanges (before : List DeviceLine) (d : DeviceLine) : Type 0 where
  cylinders : Ranged 1 64 d.cylinders
  rises : rises before d.number ≡ true

if_so : (b : Bool) (x y : DeviceLine) → (if b then Ok x else Err Number) ≡ Ok y → (x ≡ y) × (b ≡ true)
if_so true x y h = (if_ok true x y Number h, refl)
if_so false x y h = absurd (cc)

device_ranges : (before : List DeviceLine) (words : List (List ℕ)) (d : DeviceLine) → device_line before words ≡ Ok d → DeviceRanges before d
device_ranges before words d h =
    let a = went (needed Words (three_words words))
    (λ w. then_read (needed Number (number_in 0 15 w.0))
    (λ n. then_read (needed Number (geometry_of w.1))
    (λ g. then_read (needed Number (number_in 1 64 w.2)) (λ c. rising before (record { number = n; geometry = g; cylinders = c }))))) d h in
    let b = went (needed Number (number_in 0 15 a.value.0))
    (λ n. then_read (needed Number (geometry_of a.value.1))
    (λ g. then_read (needed Number (number_in 1 64 a.value.2)) (λ c. rising before (record { number = n; geometry = g; cylinders = c })))) d a.second in
    let e = went (needed Number (geometry_of a.value.1))
    (λ g. then_read (needed Number (number_in 1 64 a.value.2)) (λ c. rising before (record { number = b.value; geometry = g; cylinders = c }))) d b.second
    in
    let f = went (needed Number (number_in 1 64 a.value.2)) (λ c. rising before (record { number = b.value; geometry = e.value; cylinders = c })) d e.second in
    let same = if_so (rises before b.value) (record { number = b.value; geometry = e.value; cylinders = f.value }) d f.second in
    subst (DeviceRanges before) same.0 (record {
      cylinders = number_range 1 64 a.value.2 f.value (needed_is Number (number_in 1 64 a.value.2) f.value f.first);
      rises = same.1;
    })

-- the last one of these, if there is one, is the one before
abbrev IsLast : List DeviceLine → Option ℕ → Type 0
IsLast before last = (n : ℕ) → rises before n ≡ true → is_behind last n ≡ true

last_part : (a b : Bool) → (a && (b && true)) ≡ true → b ≡ true
last_part true true e = refl
last_part true false e = absurd (cc)
last_part false b e = absurd (cc)

last_more : (before : List DeviceLine) (d : DeviceLine) → IsLast (before ++ d ∷ []) (Some d.number)
last_more before d n up =
    last_part (rises before n) (nat_lt d.number n) (sym (list_all-append (λ (x : DeviceLine). nat_lt x.number n) before (d ∷ [])) ∙ up)

both_so : (b c : Bool) → b ≡ true → c ≡ true → (b && c) ≡ true
both_so true true e f = refl
both_so true false e f = absurd (cc)
both_so false c e f = absurd (cc)

in_range : (n : ℕ) → 1 ≤ n → n ≤ 64 → (nat_le 1 n && nat_le n 64) ≡ true
in_range n least most = both_so (nat_le 1 n) (nat_le n 64) (grind (arith, nat_tests)) (grind (arith, nat_tests))

open_behind : (before ds : List DeviceLine) (last : Option ℕ) → IsLast before last → AllDevices before ds → are_open_behind last ds ≡ true
open_behind before [] last is h = refl
open_behind before (d ∷ ds) last is h =
    let r = device_ranges before (again.device_words d) d h.0.again in
    ap (λ (b : Bool). if b then are_open_behind (Some d.number) ds else false)
    (both_so (is_behind last d.number) (is_open_device d) (is d.number r.rises) (in_range d.cylinders r.cylinders.low r.cylinders.high))
    ∙ open_behind (before ++ d ∷ []) ds (Some d.number) (last_more before d) h.1

pub read_devices : (text : List ℕ) (deck : DeckLines) → parsed text ≡ Ok deck → are_open deck.devices ≡ true
read_devices text deck read = open_behind [] deck.devices None (λ n up. refl) (parsed_good text deck read).devices

-- Devices that are named

by_first : (d m : ℕ) (more rest : Bool) → ((m == d) || more) ≡ true → (more ≡ true → rest ≡ true) → (if d == m then true else rest) ≡ true
by_first d m more rest e next = by_test (m == d) refl e
  where
    same : (m == d) ≡ true → (d == m) ≡ true
    same t = grind (arith, nat_tests)

    if_more : (b : Bool) → rest ≡ true → (if b then true else rest) ≡ true
    if_more true is = refl
    if_more false is = is

    by_test : (b : Bool) → (m == d) ≡ b → (b || more) ≡ true → (if d == m then true else rest) ≡ true
    by_test true is all = ap (λ (b : Bool). if b then true else rest) (same is)
    by_test false is all = if_more (d == m) (next all)

named_in : (ds : List DeviceLine) (d : ℕ) → is_declared ds d ≡ true → is_in d (numbers_in ds) ≡ true
unfolding L.is_in
named_in [] d is = absurd (cc)
named_in (x ∷ ds) d is = by_first d x.number (is_declared ds d) (is_in d (numbers_in ds)) is (named_in ds d)

if_declared : (b : Bool) (x y : ℕ) → (if b then Ok x else Err Number) ≡ Ok y → (x ≡ y) × (b ≡ true)
if_declared true x y h = (if_ok true x y Number h, refl)
if_declared false x y h = absurd (cc)

declared_in : (ds : List DeviceLine) (word : List ℕ) (d : ℕ) → device_of ds word ≡ Ok d → is_in d (numbers_in ds) ≡ true
declared_in ds word d h =
    let a = went (needed Number (number_in 0 15 word)) (declared ds) d h in
    let is = if_declared (is_declared ds a.value) a.value d a.second in
    subst (λ (n : ℕ). is_in n (numbers_in ds) ≡ true) is.0 (named_in ds a.value is.1)

one_in : (ds : List DeviceLine) (words : List (List ℕ)) (d : ℕ) → device_words ds words ≡ Ok d → is_in d (numbers_in ds) ≡ true
one_in ds words d h =
    let a = went (needed Words (one_word words)) (device_of ds) d h in declared_in ds a.value d a.second

path_in : (ds : List DeviceLine) (words : List (List ℕ)) (at : ℕ × ℕ) → path_and_device ds words ≡ Ok at → is_in at.1 (numbers_in ds) ≡ true
path_in ds words at h =
    let a = went (needed Words (two_words words)) (λ w. then_read (path_of w.0) (λ p. then_read (device_of ds w.1) (λ d. Ok (p, d)))) at h in
    let b = went (path_of a.value.0) (λ p. then_read (device_of ds a.value.1) (λ d. Ok (p, d))) at a.second in
    let c = went (device_of ds a.value.1) (λ d. Ok (b.value, d)) at b.second in
    let same : (b.value, c.value) ≡ at = if_ok true (b.value, c.value) at Number c.second in
    subst (λ (x : ℕ × ℕ). is_in x.1 (numbers_in ds) ≡ true) same (declared_in ds a.value.1 c.value c.first)

pair_in : (ds : List DeviceLine) (words : List (List ℕ)) (at : ℕ × ℕ) → pair_words ds words ≡ Ok at →
    (is_in at.0 (numbers_in ds) && is_in at.1 (numbers_in ds)) ≡ true
pair_in ds words at h =
    let a = went (needed Words (two_words words)) (λ w. then_read (device_of ds w.0) (λ x. then_read (device_of ds w.1) (λ y. Ok (x, y)))) at h in
    let b = went (device_of ds a.value.0) (λ x. then_read (device_of ds a.value.1) (λ y. Ok (x, y))) at a.second in
    let c = went (device_of ds a.value.1) (λ y. Ok (b.value, y)) at b.second in
    let same : (b.value, c.value) ≡ at = if_ok true (b.value, c.value) at Number c.second in
    subst (λ (x : ℕ × ℕ). (is_in x.0 (numbers_in ds) && is_in x.1 (numbers_in ds)) ≡ true) same
    (both_so _ _ (declared_in ds a.value.0 b.value b.first) (declared_in ds a.value.1 c.value c.first))

side_in : (ds : List DeviceLine) (device side : List ℕ) (at : ℕ × Side) → side_words ds device side ≡ Ok at → is_in at.0 (numbers_in ds) ≡ true
side_in ds device side at h =
    let a = went (needed Words (side_by_word side)) (λ s. then_read (device_of ds device) (λ d. Ok (d, s))) at h in
    let b = went (device_of ds device) (λ d. Ok (d, a.value)) at a.second in
    let same : (b.value, a.value) ≡ at = if_ok true (b.value, a.value) at Number b.second in
    subst (λ (x : ℕ × Side). is_in x.0 (numbers_in ds) ≡ true) same (declared_in ds device b.value b.first)

-- Event lines. A line is open where what it says is a line that is open

one_line : (ds : List DeviceLine) (make : ℕ → EventLine) (words : List (List ℕ)) (e : EventLine) →
    ((d : ℕ) → is_in d (numbers_in ds) ≡ true → is_open_line (numbers_in ds) (make d) ≡ true) →
    then_read (device_words ds words) (λ d. Ok (make d)) ≡ Ok e → is_open_line (numbers_in ds) e ≡ true
one_line ds make words e opens h =
    let a = went (device_words ds words) (λ d. Ok (make d)) e h in
    let same : make a.value ≡ e = if_ok true (make a.value) e Number a.second in
    subst (λ (x : EventLine). is_open_line (numbers_in ds) x ≡ true) same (opens a.value (one_in ds words a.value a.first))

path_line : (ds : List DeviceLine) (make : ℕ → ℕ → EventLine) (words : List (List ℕ)) (e : EventLine) →
    ((p d : ℕ) → is_in d (numbers_in ds) ≡ true → is_open_line (numbers_in ds) (make p d) ≡ true) →
    then_read (path_and_device ds words) (λ at. Ok (make at.0 at.1)) ≡ Ok e → is_open_line (numbers_in ds) e ≡ true
path_line ds make words e opens h =
    let a = went (path_and_device ds words) (λ at. Ok (make at.0 at.1)) e h in
    let same : make a.value.0 a.value.1 ≡ e = if_ok true (make a.value.0 a.value.1) e Number a.second in
    subst (λ (x : EventLine). is_open_line (numbers_in ds) x ≡ true) same (opens a.value.0 a.value.1 (path_in ds words a.value a.first))

pair_line : (ds : List DeviceLine) (words : List (List ℕ)) (e : EventLine) → then_read (pair_words ds words) (λ at. Ok (lines.Pair at.0 at.1)) ≡ Ok e →
    is_open_line (numbers_in ds) e ≡ true
pair_line ds words e h =
    let a = went (pair_words ds words) (λ at. Ok (lines.Pair at.0 at.1)) e h in
    let same : lines.Pair a.value.0 a.value.1 ≡ e = if_ok true (lines.Pair a.value.0 a.value.1) e Number a.second in
    subst (λ (x : EventLine). is_open_line (numbers_in ds) x ≡ true) same (pair_in ds words a.value a.first)

side_line : (ds : List DeviceLine) (make : ℕ → Side → EventLine) (device side : List ℕ) (e : EventLine) →
    ((d : ℕ) (s : Side) → is_in d (numbers_in ds) ≡ true → is_open_line (numbers_in ds) (make d s) ≡ true) →
    then_read (side_words ds device side) (λ at. Ok (make at.0 at.1)) ≡ Ok e → is_open_line (numbers_in ds) e ≡ true
side_line ds make device side e opens h =
    let a = went (side_words ds device side) (λ at. Ok (make at.0 at.1)) e h in
    let same : make a.value.0 a.value.1 ≡ e = if_ok true (make a.value.0 a.value.1) e Number a.second in
    subst (λ (x : EventLine). is_open_line (numbers_in ds) x ≡ true) same (opens a.value.0 a.value.1 (side_in ds device side a.value a.first))

part_open : (ds : List DeviceLine) (part : EventPart) → is_open_line (numbers_in ds) (failed_part part) ≡ true
part_open ds part = by_part part
  where
    by_part : (p : EventPart) → is_open_line (numbers_in ds) (failed_part p) ≡ true
    by_part parts.Cache = refl
    by_part parts.Store = refl

volume_line : (ds : List DeviceLine) (b : Bool) (device side : List ℕ) (e : EventLine) →
    (if b then then_read (side_words ds device side) (λ at. Ok (lines.FailVolume at.0 at.1)) else Err Words) ≡ Ok e → is_open_line (numbers_in ds) e ≡ true
volume_line ds true device side e h = side_line ds (λ d s. lines.FailVolume d s) device side e (λ d s is. is) h
volume_line ds false device side e h = absurd (cc)

fail_open : (ds : List DeviceLine) (words : List (List ℕ)) (o : Option (List ℕ × List ℕ × List ℕ)) (e : EventLine) → fail_by o ds words ≡ Ok e →
    is_open_line (numbers_in ds) e ≡ true
fail_open ds words None e h =
    let a = went (part_words words) (λ part. Ok (failed_part part)) e h in
    let same : failed_part a.value ≡ e = if_ok true (failed_part a.value) e Number a.second in
    subst (λ (x : EventLine). is_open_line (numbers_in ds) x ≡ true) same (part_open ds a.value)
fail_open ds words (Some w) e h = volume_line ds (is_volume w.0) w.1 w.2 e h

replace_open : (ds : List DeviceLine) (words : List (List ℕ)) (e : EventLine) → replace_line ds words ≡ Ok e → is_open_line (numbers_in ds) e ≡ true
replace_open ds words e h =
    let a = went (needed Words (two_words words)) (λ w. then_read (side_words ds w.0 w.1) (λ at. Ok (lines.Replace at.0 at.1))) e h in
    side_line ds (λ d s. lines.Replace d s) a.value.0 a.value.1 e (λ d s is. is) a.second

line_open : (ds : List DeviceLine) (e : EventLine) → EventOk ds e → is_open_line (numbers_in ds) e ≡ true
line_open ds (lines.Start path d) ok = path_line ds (λ p n. lines.Start p n) (behind_of (lines.Start path d)) (lines.Start path d) (λ p n is. is) ok.again
line_open ds (lines.Step d) ok = one_line ds (λ n. lines.Step n) (behind_of (lines.Step d)) (lines.Step d) (λ n is. is) ok.again
line_open ds (lines.Run d) ok = one_line ds (λ n. lines.Run n) (behind_of (lines.Run d)) (lines.Run d) (λ n is. is) ok.again
line_open ds (lines.Back d) ok = one_line ds (λ n. lines.Back n) (behind_of (lines.Back d)) (lines.Back d) (λ n is. is) ok.again
line_open ds (lines.Settle d) ok = one_line ds (λ n. lines.Settle n) (behind_of (lines.Settle d)) (lines.Settle d) (λ n is. is) ok.again
line_open ds (lines.Reset path d) ok = path_line ds (λ p n. lines.Reset p n) (behind_of (lines.Reset path d)) (lines.Reset path d) (λ p n is. is) ok.again
line_open ds lines.FailCache ok = refl
line_open ds lines.FailStore ok = refl
line_open ds (lines.FailVolume d side) ok =
    let words = behind_of (lines.FailVolume d side) in fail_open ds words (three_words words) (lines.FailVolume d side) ok.again
line_open ds lines.RepairCache ok = refl
line_open ds lines.RepairStore ok = refl
line_open ds (lines.Replace d side) ok = replace_open ds (behind_of (lines.Replace d side)) (lines.Replace d side) ok.again
line_open ds (lines.Pair a b) ok = pair_line ds (behind_of (lines.Pair a b)) (lines.Pair a b) ok.again
line_open ds (lines.Unpair a) ok = one_line ds (λ n. lines.Unpair n) (behind_of (lines.Unpair a)) (lines.Unpair a) (λ n is. is) ok.again
line_open ds (lines.Suspend a) ok = one_line ds (λ n. lines.Suspend n) (behind_of (lines.Suspend a)) (lines.Suspend a) (λ n is. is) ok.again
line_open ds (lines.Resume a) ok = one_line ds (λ n. lines.Resume n) (behind_of (lines.Resume a)) (lines.Resume a) (λ n is. is) ok.again
line_open ds lines.Power ok = refl

lines_open : (ds : List DeviceLine) (es : List EventLine) → Each (EventOk ds) es → are_open_lines (numbers_in ds) es ≡ true
lines_open ds [] h = refl
lines_open ds (e ∷ es) h =
    ap (λ (b : Bool). if b then are_open_lines (numbers_in ds) es else false) (line_open ds e h.0) ∙ lines_open ds es h.1

pub read_lines : (text : List ℕ) (deck : DeckLines) → parsed text ≡ Ok deck → are_open_lines (numbers_in deck.devices) deck.events ≡ true
read_lines text deck read = lines_open deck.devices deck.events (parsed_good text deck read).events
