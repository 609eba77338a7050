-- Every deck that was read has devices of one cylinder at least, and starts programs of one of four paths.
use Rattle.std.proofs.Common.{◌≡◌, ◌≤◌, ◌<◌, ◌==◌, ◌+◌, ℕ, Bool, true, false, List, [], ◌∷◌, ◌++◌, length, Ok, Err, refl, sym, subst, ◌∙◌, arith, eqb-true}
use Rattle.std.specs.Prelude.{All, Result, ◌&&◌, nat_lt, if◌then◌else◌}
use Rattle.std.proofs.lemmas.Bool.{ltb-true}
use Rattle.std.proofs.lemmas.List.Folds.{list_all-append}
use Rattle.device_outside.specs.Lists as L
use Rattle.device_outside.specs.Lists.{is_in}
use Rattle.std.proofs.lemmas.List.Elements.{All-nil, All-cons}
use Rattle.deck_plan.specs.declared.event.EventLine.{EventLine}
use Rattle.deck_plan.specs.declared.event.EventLine.TheVariants as lines
use Rattle.deck_text.specs.declared.line.DeckWhy.{DeckWhy}
use Rattle.deck_text.specs.declared.line.DeckWhy.TheVariants.{Words, Number}
use Rattle.deck_text.specs.declared.line.DeviceLine.{DeviceLine}
use Rattle.deck_text.specs.DeckLines.{DeckLines}
use Rattle.deck_text.specs.Forms.{needed, then_read, device_line, rising, rises, path_and_device, path_of, device_of}
use Rattle.deck_text.specs.Numbers.{number_in, geometry_of}
use Rattle.deck_text.specs.Parse.{parsed}
use Rattle.deck_text.specs.Words.{two_words, three_words}
use Rattle.deck_text.proofs.DeckAgain.{Each, device_words, AllDevices, EventOk}
use Rattle.deck_text.proofs.EventsAgain.{behind_of}
use Rattle.deck_text.proofs.FormsAgain.{went, needed_is, if_ok, Ranged, number_range}
use Rattle.deck_text.proofs.Reached.{parsed_good}
use Rattle.subsystem_defs.specs.Lines.{asked_by}
use Rattle.subsystem_laws.specs.Served.{IsServed, IsServedDeck}
use Rattle.subsystem_laws.specs.Waits.{AreNumbered}

-- what a device's line says of its numbers
record DeviceRanges (before : List DeviceLine) (d : DeviceLine) : Type 0 where
  number : Ranged 0 15 d.number
  cylinders : Ranged 1 64 d.cylinders
  rises : rises before d.number ≡ true

if_so : (b : Bool) (x y : DeviceLine) → (if b then Ok x else Err Number) ≡ Ok y → (x ≡ y) × (b ≡ true)
if_so true x y h = (if_ok true x y Number h, refl)
if_so false x y h = absurd (cc)

device_ranges : (before : List DeviceLine) (words : List (List ℕ)) (d : DeviceLine) → device_line before words ≡ Ok d → DeviceRanges before d
device_ranges before words d h =
    let a = went (needed Words (three_words words))
    (λ w. then_read (needed Number (number_in 0 15 w.0))
    (λ n. then_read (needed Number (geometry_of w.1))
    (λ g. then_read (needed Number (number_in 1 64 w.2)) (λ c. rising before (record { number = n; geometry = g; cylinders = c }))))) d h in
    let b = went (needed Number (number_in 0 15 a.value.0))
    (λ n. then_read (needed Number (geometry_of a.value.1))
    (λ g. then_read (needed Number (number_in 1 64 a.value.2)) (λ c. rising before (record { number = n; geometry = g; cylinders = c })))) d a.second in
    let e = went (needed Number (geometry_of a.value.1))
    (λ g. then_read (needed Number (number_in 1 64 a.value.2)) (λ c. rising before (record { number = b.value; geometry = g; cylinders = c }))) d b.second
    in
    let f = went (needed Number (number_in 1 64 a.value.2)) (λ c. rising before (record { number = b.value; geometry = e.value; cylinders = c })) d e.second in
    let same = if_so (rises before b.value) (record { number = b.value; geometry = e.value; cylinders = f.value }) d f.second in
    subst (DeviceRanges before) same.0 (record {
      number = number_range 0 15 a.value.0 b.value (needed_is Number (number_in 0 15 a.value.0) b.value b.first);
      cylinders = number_range 1 64 a.value.2 f.value (needed_is Number (number_in 1 64 a.value.2) f.value f.first);
      rises = same.1;
    })

devices_served : (before ds : List DeviceLine) → AllDevices before ds → All (λ (d : DeviceLine). 1 ≤ d.cylinders) ds
devices_served before [] h = All-nil (λ (d : DeviceLine). 1 ≤ d.cylinders)
devices_served before (d ∷ ds) h =
    All-cons (λ (x : DeviceLine). 1 ≤ x.cylinders) d ds (device_ranges before (device_words d) d h.0.again).cylinders.low
    (devices_served (before ++ d ∷ []) ds h.1)

devices_small : (before ds : List DeviceLine) → AllDevices before ds → All (λ (d : DeviceLine). d.cylinders ≤ 64) ds
devices_small before [] h = All-nil (λ (d : DeviceLine). d.cylinders ≤ 64)
devices_small before (d ∷ ds) h =
    All-cons (λ (x : DeviceLine). x.cylinders ≤ 64) d ds (device_ranges before (device_words d) d h.0.again).cylinders.high
    (devices_small (before ++ d ∷ []) ds h.1)

-- what is above all of these is none of them
abbrev IsAbove : List DeviceLine → List ℕ → Type 0
IsAbove before seen = (n : ℕ) → rises before n ≡ true → is_in n seen ≡ false

above_more : (before : List DeviceLine) (seen : List ℕ) (d : DeviceLine) → IsAbove before seen → IsAbove (before ++ d ∷ []) (d.number ∷ seen)
unfolding L.is_in
above_more before seen d h n up =
    let both : (rises before n && (nat_lt d.number n && true)) ≡ true = sym (list_all-append (λ (x : DeviceLine). nat_lt x.number n) before (d ∷ [])) ∙ up in
    by_test (n == d.number) refl (parts (rises before n) (nat_lt d.number n) both)
  where
    parts : (a b : Bool) → (a && (b && true)) ≡ true → (a ≡ true) × (b ≡ true)
    parts true true e = (refl, refl)
    parts true false e = absurd (cc)
    parts false b e = absurd (cc)

    by_test : (b : Bool) → (n == d.number) ≡ b → (rises before n ≡ true) × (nat_lt d.number n ≡ true) → (if b then true else is_in n seen) ≡ false
    by_test true test up = absurd (let same : n ≡ d.number = eqb-true n d.number test in let less : d.number < n = ltb-true d.number n up.1 in omega
        (arith, same, less))
    by_test false test up = h n up.0

devices_numbered : (before : List DeviceLine) (seen : List ℕ) (ds : List DeviceLine) → IsAbove before seen → AllDevices before ds → AreNumbered seen ds
devices_numbered before seen [] above h = tt
devices_numbered before seen (d ∷ ds) above h =
    let r = device_ranges before (device_words d) d h.0.again in
    let most = r.number.high in (
      above d.number r.rises,
      omega (arith, most),
      devices_numbered (before ++ d ∷ []) (d.number ∷ seen) ds (above_more before seen d above) h.1,
    )

pub read_numbered : (text : List ℕ) (deck : DeckLines) → parsed text ≡ Ok deck → AreNumbered [] deck.devices
unfolding L.is_in
read_numbered text deck read = devices_numbered [] [] deck.devices (λ n up. refl) (parsed_good text deck read).devices

-- they are at most 16

last_of : (a b : Bool) → (a && (b && true)) ≡ true → b ≡ true
last_of true true e = refl
last_of true false e = absurd (cc)
last_of false b e = absurd (cc)

above_last : (before : List DeviceLine) (d : DeviceLine) (n : ℕ) → rises (before ++ d ∷ []) n ≡ true → d.number + 1 ≤ n
above_last before d n up =
    let last = last_of (rises before n) (nat_lt d.number n) (sym (list_all-append (λ (x : DeviceLine). nat_lt x.number n) before (d ∷ [])) ∙ up) in
    let less : d.number < n = ltb-true d.number n last in
    omega (arith, less)

few_from : (low : ℕ) (before ds : List DeviceLine) → low ≤ 16 → ((n : ℕ) → rises before n ≡ true → low ≤ n) → AllDevices before ds → low + length ds ≤ 16
few_from low before [] most above h = omega (arith, most)
few_from low before (d ∷ ds) most above h =
    let r = device_ranges before (device_words d) d h.0.again in
    let from = above d.number r.rises in
    let high = r.number.high in
    let rest = few_from (d.number + 1) (before ++ d ∷ []) ds (omega (arith, high)) (above_last before d) h.1 in
    omega (arith, from, rest)

pub read_few_devices : (text : List ℕ) (deck : DeckLines) → parsed text ≡ Ok deck → length deck.devices ≤ 16
read_few_devices text deck read =
    let few = few_from 0 [] deck.devices (omega arith) (λ n up. omega arith) (parsed_good text deck read).devices in omega (arith, few)

path_range : (devices : List DeviceLine) (words : List (List ℕ)) (at : ℕ × ℕ) → path_and_device devices words ≡ Ok at → Ranged 1 4 at.0
path_range devices words at h =
    let a = went (needed Words (two_words words)) (λ w. then_read (path_of w.0) (λ p. then_read (device_of devices w.1) (λ d. Ok (p, d)))) at h in
    let b = went (path_of a.value.0) (λ p. then_read (device_of devices a.value.1) (λ d. Ok (p, d))) at a.second in
    let c = went (device_of devices a.value.1) (λ d. Ok (b.value, d)) at b.second in
    let same : (b.value, c.value) ≡ at = if_ok true (b.value, c.value) at Number c.second in
    subst (λ (x : ℕ × ℕ). Ranged 1 4 x.0) same
    (number_range 1 4 a.value.0 b.value (needed_is Number (number_in 1 4 a.value.0) b.value b.first))

start_is : (p q a b : ℕ) → ◌≡◌ {A = Result EventLine DeckWhy} (Ok (lines.Start p a)) (Ok (lines.Start q b)) → p ≡ q
start_is p q a b e = cc

started_range : (devices : List DeviceLine) (words : List (List ℕ)) (path d : ℕ) →
    then_read (path_and_device devices words) (λ at. Ok (lines.Start at.0 at.1)) ≡ Ok (lines.Start path d) → Ranged 1 4 path
started_range devices words path d h =
    let a = went (path_and_device devices words) (λ at. Ok (lines.Start at.0 at.1)) (lines.Start path d) h in
    subst (λ (p : ℕ). Ranged 1 4 p) (start_is a.value.0 path a.value.1 d a.second) (path_range devices words a.value a.first)

line_served : (devices : List DeviceLine) (line : EventLine) → EventOk devices line → IsServed (asked_by line)
line_served devices (lines.Start path d) ok = let r = started_range devices (behind_of (lines.Start path d)) path d ok.again in (r.low, r.high)
line_served devices (lines.Step d) ok = tt
line_served devices (lines.Run d) ok = tt
line_served devices (lines.Back d) ok = tt
line_served devices (lines.Settle d) ok = tt
line_served devices (lines.Reset path d) ok = tt
line_served devices lines.FailCache ok = tt
line_served devices lines.FailStore ok = tt
line_served devices (lines.FailVolume d side) ok = tt
line_served devices lines.RepairCache ok = tt
line_served devices lines.RepairStore ok = tt
line_served devices (lines.Replace d side) ok = tt
line_served devices (lines.Pair a b) ok = tt
line_served devices (lines.Unpair a) ok = tt
line_served devices (lines.Suspend a) ok = tt
line_served devices (lines.Resume a) ok = tt
line_served devices lines.Power ok = tt

lines_served : (devices : List DeviceLine) (es : List EventLine) → Each (EventOk devices) es → All (λ (line : EventLine). IsServed (asked_by line)) es
lines_served devices [] h = All-nil (λ (line : EventLine). IsServed (asked_by line))
lines_served devices (e ∷ es) h =
    All-cons (λ (line : EventLine). IsServed (asked_by line)) e es (line_served devices e h.0) (lines_served devices es h.1)

pub read_served : (text : List ℕ) (deck : DeckLines) → parsed text ≡ Ok deck → IsServedDeck deck
read_served text deck read =
    let good = parsed_good text deck read in
    record { devices = devices_served [] deck.devices good.devices; events = lines_served deck.devices deck.events good.events }

pub read_small : (text : List ℕ) (deck : DeckLines) → parsed text ≡ Ok deck → All (λ (d : DeviceLine). d.cylinders ≤ 64) deck.devices
read_small text deck read = devices_small [] deck.devices (parsed_good text deck read).devices
