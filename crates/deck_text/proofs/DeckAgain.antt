-- The canonical text of a deck is read as the deck.
use Rattle.std.proofs.Common.{[], ◌≡◌, ◌≢◌, ◌≤◌, ◌<◌, ◌∷◌, ◌++◌, ◌+◌, ◌/◌, ◌%◌, ℕ, zero, suc, List, Bool, true, false, length, Option, Some, None, Ok, refl}
use Rattle.std.proofs.Common.{sym, ap, ◌∙◌, arith, append_assoc, length-append}
use Rattle.std.specs.Prelude.{decimal, codes, slice_index, nat_lt, nat_le, ◌&&◌, ◌==◌, if◌then◌else◌}
use Rattle.std.specs.List.{flat_map}
use Rattle.std.proofs.lemmas.Bool.{and_from}
use Rattle.std.proofs.lemmas.Bool.Decides.{nat_tests}
use Rattle.std.proofs.lemmas.List.{append-nil}
use Rattle.hex.specs.Hex.{encode_upper, encode_with, upper_digits, IsBytes}
use Rattle.hex.proofs.HexLemmas.{length-encode_with}
use Rattle.ckd_types.specs.declared.channel.Ccw.{Ccw}
use Rattle.ckd_types.specs.declared.channel.Why.{Why}
use Rattle.ckd_types.specs.declared.paths.Side.TheVariants.{A, B}
use Rattle.ckd_types.specs.Program.{IsProgram, fault_from}
use Rattle.deck_plan.specs.declared.event.EventLine.{EventLine}
use Rattle.deck_plan.specs.declared.event.EventLine.TheVariants as events
use Rattle.deck_text.specs.declared.keyword.DeckKeyword.TheVariants.{Deck, Cache, Store, Device, Fault, Program, Ccw as ChannelWord, End, Events, Event}
use Rattle.deck_text.specs.declared.line.DeviceLine.{DeviceLine}
use Rattle.deck_text.specs.declared.line.FaultLine.{FaultLine}
use Rattle.deck_text.specs.declared.line.PlannedProgram.{PlannedProgram}
use Rattle.deck_text.specs.declared.place.LinePlace.{LinePlace}
use Rattle.deck_text.specs.declared.place.LinePlace.TheVariants as places
use Rattle.deck_text.specs.DeckLines.{DeckLines, no_lines}
use Rattle.deck_text.specs.Lines.{text_lines}
use Rattle.deck_text.specs.Keywords.{keyword_of, head_of, event_word_of}
use Rattle.deck_text.specs.Forms.{is_one, device_line, fault_line, path_and_device}
use Rattle.deck_text.specs.Reading.{State, may_stand, or_refuse, end_program}
use Rattle.deck_text.specs.Parse.{reading_begun, read_lines, parsed}
use Rattle.deck_text.specs.Canonical.{head_text, geometry_number, device_text, call_text, fault_text, program_text, word_text, line_end, ccw_text, end_text}
use Rattle.deck_text.specs.Canonical.{planned_text, events_text, side_text, with_one, with_two, with_side, event_text, from_events, from_programs, from_faults}
use Rattle.deck_text.specs.Canonical.{from_devices, canonical}
use Rattle.deck_text.proofs.ReadBack.{are_letters, number_read}
use Rattle.deck_text.proofs.EventsAgain.{call_word, side_word, word_of, behind_of, Again}
use Rattle.deck_text.proofs.CcwAgain.{IsWord, decimal_word, given_words, ccw_words, CcwFacts, ccw_again}
use Rattle.deck_text.proofs.LineAgain.{AreWords, join, Leads, leads_none, leads_then, leads_line, line_at}

abbrev pub Each : {X : Type 0} → (X → Type 0) → List X → Type 0
Each P [] = Unit {0}
Each P (x ∷ xs) = P x × Each P xs

abbrev pub device_words : DeviceLine → List (List ℕ)
device_words d = decimal d.number ∷ decimal (geometry_number d.geometry) ∷ decimal d.cylinders ∷ []

pub record DeviceOk (before : List DeviceLine) (d : DeviceLine) : Type 0 where
  pub again : device_line before (device_words d) ≡ Ok d
  pub are : AreWords (device_words d)

abbrev pub AllDevices : List DeviceLine → List DeviceLine → Type 0
AllDevices before [] = Unit {0}
AllDevices before (d ∷ ds) = DeviceOk before d × AllDevices (before ++ d ∷ []) ds

abbrev pub fault_words : FaultLine → List (List ℕ)
fault_words f = decimal f.device ∷ call_word f.write ∷ decimal f.call ∷ []

pub record FaultOk (devices : List DeviceLine) (f : FaultLine) : Type 0 where
  pub again : fault_line devices (fault_words f) ≡ Ok f
  pub are : AreWords (fault_words f)

abbrev pub program_words : ℕ → ℕ → List (List ℕ)
program_words path device = decimal path ∷ decimal device ∷ []

pub record ProgramOk (devices : List DeviceLine) (p : PlannedProgram) : Type 0 where
  pub again : path_and_device devices (program_words p.path p.device) ≡ Ok (p.path, p.device)
  pub are : AreWords (program_words p.path p.device)
  pub program : IsProgram p.program
  pub ccws : Each CcwFacts p.program

pub record EventOk (devices : List DeviceLine) (e : EventLine) : Type 0 where
  pub again : Again devices e
  pub are : AreWords (behind_of e)

-- what holds of each deck that a text is
pub record IsDeck (d : DeckLines) : Type 0 where
  pub least : 1 ≤ d.frames
  pub frames : d.frames ≤ 4096
  pub slots : d.slots ≤ 1024
  pub some : 0 < length d.devices
  pub devices : AllDevices [] d.devices
  pub faults : Each (FaultOk d.devices) d.faults
  pub fault_count : length d.faults ≤ 1024
  pub programs : Each (ProgramOk d.devices) d.programs
  pub program_count : length d.programs ≤ 512
  pub events : Each (EventOk d.devices) d.events
  pub event_count : length d.events ≤ 65536

-- a reading between lines, with no program open
abbrev pub outside : LinePlace → DeckLines → State
outside place deck = record { place = place; deck = deck; words = []; lines = [] }

-- DEVICE lines
device_is : (d : DeviceLine) → device_text d ≡ join ((68 ∷ codes "EVICE") ∷ device_words d) ++ 10 ∷ []
unfolding device_text join
device_is d = simp append_assoc

device_key : keyword_of (68 ∷ codes "EVICE") ≡ Some Device
unfolding head_of event_word_of
device_key = refl

abbrev with_devices : ℕ → ℕ → List DeviceLine → DeckLines
with_devices frames slots devices = record { frames = frames; slots = slots; devices = devices; faults = []; programs = []; events = [] }

device_leads : (frames slots : ℕ) (place : LinePlace) (before : List DeviceLine) (d : DeviceLine) → may_stand Device place ≡ true → DeviceOk before d
    → Leads (outside place (with_devices frames slots before)) (device_text d) (outside places.Devices (with_devices frames slots (before ++ d ∷ [])))
device_leads frames slots place before d stands ok =
    leads_line (outside place (with_devices frames slots before)) (outside places.Devices (with_devices frames slots (before ++ d ∷ []))) 68 (codes "EVICE")
    (device_words d) Device (device_text d) (device_is d) (omega arith)
    (record { some = omega arith; letters = refl }, ok.are) device_key stands
    (λ n. ap (λ r. or_refuse n r (λ line. Ok (outside places.Devices (with_devices frames slots (before ++ line ∷ []))))) ok.again)

devices_lead : (frames slots : ℕ) (before ds : List DeviceLine) → AllDevices before ds
    → Leads (outside places.Devices (with_devices frames slots before)) (flat_map device_text ds)
    (outside places.Devices (with_devices frames slots (before ++ ds)))
devices_lead frames slots before [] h = rw append-nil (leads_none (outside places.Devices (with_devices frames slots before)))
devices_lead frames slots before (d ∷ ds) h =
    let more = devices_lead frames slots (before ++ d ∷ []) ds h.1 in
    let all =
    leads_then (outside places.Devices (with_devices frames slots before)) (outside places.Devices (with_devices frames slots (before ++ d ∷ [])))
    (outside places.Devices (with_devices frames slots ((before ++ d ∷ []) ++ ds))) (device_text d) (flat_map device_text ds)
    (device_leads frames slots places.Devices before d refl h.0) more in
    rw append_assoc at all

all_devices_lead : (frames slots : ℕ) (ds : List DeviceLine) → 0 < length ds → AllDevices [] ds
    → Leads (outside places.FirstDevice (with_devices frames slots [])) (flat_map device_text ds) (outside places.Devices (with_devices frames slots ds))
all_devices_lead frames slots [] some h = absurd (omega arith)
all_devices_lead frames slots (d ∷ ds) some h =
    leads_then (outside places.FirstDevice (with_devices frames slots [])) (outside places.Devices (with_devices frames slots (d ∷ [])))
    (outside places.Devices (with_devices frames slots (d ∷ ds))) (device_text d) (flat_map device_text ds)
    (device_leads frames slots places.FirstDevice [] d refl h.0) (devices_lead frames slots (d ∷ []) ds h.1)

-- where PROGRAM and EVENTS may stand
record IsBehind (place : LinePlace) : Type 0 where
  pub program : may_stand Program place ≡ true
  pub events : may_stand Events place ≡ true

-- one of the places behind the devices is reached
record Reaches (s : State) (text : List ℕ) (deck : DeckLines) : Type 0 where
  pub place : LinePlace
  pub behind : IsBehind place
  pub leads : Leads s text (outside place deck)

-- FAULT lines
fault_is : (f : FaultLine) (write : Bool) → f.write ≡ write
    → fault_text f ≡ join ((70 ∷ codes "AULT") ∷ decimal f.device ∷ call_word write ∷ decimal f.call ∷ []) ++ 10 ∷ []
unfolding fault_text join call_text call_word
fault_is f true is = rw is (simp append_assoc)
fault_is f false is = rw is (simp append_assoc)

fault_key : keyword_of (70 ∷ codes "AULT") ≡ Some Fault
unfolding head_of event_word_of
fault_key = refl

fault_leads : (deck : DeckLines) (place : LinePlace) (f : FaultLine) → may_stand Fault place ≡ true → FaultOk deck.devices f → length deck.faults < 1024
    → Leads (outside place deck) (fault_text f) (outside places.Faults (record deck { faults = deck.faults ++ f ∷ [] }))
fault_leads deck place f stands ok room =
    let full : nat_le 1024 (length deck.faults) ≡ false = grind (arith, nat_tests) in
    leads_line (outside place deck) (outside places.Faults (record deck { faults = deck.faults ++ f ∷ [] })) 70 (codes "AULT") (fault_words f) Fault
    (fault_text f) (fault_is f f.write refl) (omega arith)
    (record { some = omega arith; letters = refl }, ok.are) fault_key stands
    (λ n. rw (ok.again, full) refl)

faults_lead : (deck : DeckLines) (place : LinePlace) (fs : List FaultLine) → may_stand Fault place ≡ true → IsBehind place → Each (FaultOk deck.devices) fs
    → length deck.faults + length fs ≤ 1024
    → Reaches (outside place deck) (flat_map fault_text fs) (record deck { faults = deck.faults ++ fs })
faults_lead deck place [] stands behind h few = rw append-nil (record { place = place; behind = behind; leads = leads_none (outside place deck) })
faults_lead deck place (f ∷ fs) stands behind h few =
    let next = record deck { faults = deck.faults ++ f ∷ [] } in
    let more = faults_lead next places.Faults fs refl (record { program = refl; events = refl }) h.1 (omega (arith, length-append deck.faults (f ∷ []))) in
    let all : Reaches (outside place deck) (fault_text f ++ flat_map fault_text fs) (record deck { faults = (deck.faults ++ f ∷ []) ++ fs }) = record {
      place = more.place;
      behind = more.behind;
      leads = leads_then (outside place deck) (outside places.Faults next) (outside more.place (record deck { faults = (deck.faults ++ f ∷ []) ++ fs }))
          (fault_text f) (flat_map fault_text fs) (fault_leads deck place f stands h.0 (omega arith)) more.leads;
    } in
    let same : (deck.faults ++ f ∷ []) ++ fs ≡ deck.faults ++ (f ∷ fs) = append_assoc deck.faults (f ∷ []) fs in
    rw (← same) all

-- upper case digits are letters
upper_letter : (k : ℕ) → k < 16 → (nat_lt 32 (slice_index upper_digits k) && nat_le (slice_index upper_digits k) 126) ≡ true
upper_letter zero h = refl
upper_letter (suc zero) h = refl
upper_letter (suc (suc zero)) h = refl
upper_letter (suc (suc (suc zero))) h = refl
upper_letter (suc (suc (suc (suc zero)))) h = refl
upper_letter (suc (suc (suc (suc (suc zero))))) h = refl
upper_letter (suc (suc (suc (suc (suc (suc zero)))))) h = refl
upper_letter (suc (suc (suc (suc (suc (suc (suc zero))))))) h = refl
upper_letter (suc (suc (suc (suc (suc (suc (suc (suc zero)))))))) h = refl
upper_letter (suc (suc (suc (suc (suc (suc (suc (suc (suc zero))))))))) h = refl
upper_letter (suc (suc (suc (suc (suc (suc (suc (suc (suc (suc zero)))))))))) h = refl
upper_letter (suc (suc (suc (suc (suc (suc (suc (suc (suc (suc (suc zero))))))))))) h = refl
upper_letter (suc (suc (suc (suc (suc (suc (suc (suc (suc (suc (suc (suc zero)))))))))))) h = refl
upper_letter (suc (suc (suc (suc (suc (suc (suc (suc (suc (suc (suc (suc (suc zero))))))))))))) h = refl
upper_letter (suc (suc (suc (suc (suc (suc (suc (suc (suc (suc (suc (suc (suc (suc zero)))))))))))))) h = refl
upper_letter (suc (suc (suc (suc (suc (suc (suc (suc (suc (suc (suc (suc (suc (suc (suc zero))))))))))))))) h = refl
upper_letter (suc (suc (suc (suc (suc (suc (suc (suc (suc (suc (suc (suc (suc (suc (suc (suc (k))))))))))))))))) h = absurd (omega arith)

digits_letters : (bytes : List ℕ) → IsBytes bytes → are_letters (encode_upper bytes) ≡ true
unfolding encode_with
digits_letters [] h = refl
digits_letters (b ∷ bytes) h =
    let small = h 0 in
    let high = upper_letter (b / 16) (omega arith) in
    let low = upper_letter (b % 16) (omega arith) in
    and_from _ _ high (and_from _ _ low (digits_letters bytes (λ i. h (suc i))))

hex_word : (b : ℕ) (bytes : List ℕ) → IsBytes (b ∷ bytes) → IsWord (encode_upper (b ∷ bytes))
hex_word b bytes h = record { some = omega (arith, length-encode_with upper_digits (b ∷ bytes)); letters = digits_letters (b ∷ bytes) h }

one_byte : (b : ℕ) → b < 256 → IsBytes (b ∷ [])
one_byte b h zero = h
one_byte b h (suc i) = omega arith

given_are : (bytes : List ℕ) → IsBytes bytes → AreWords (given_words bytes)
unfolding given_words
given_are [] h = tt
given_are (b ∷ bytes) h = (hex_word b bytes h, tt)

ccw_are : (c : Ccw) → CcwFacts c → AreWords ((67 ∷ codes "CW") ∷ ccw_words c)
unfolding ccw_words
ccw_are c f = (
  record { some = omega arith; letters = refl },
  (
    hex_word c.command [] (one_byte c.command f.command),
    (hex_word c.flags [] (one_byte c.flags f.flags), (decimal_word c.count (omega (arith, f.count)), given_are c.given f.given)),
  ),
)

ccw_is : (c : Ccw) (given : List ℕ) → c.given ≡ given → ccw_text c ≡ join ((67 ∷ codes "CW") ∷ ccw_words c) ++ 10 ∷ []
unfolding word_text line_end join ccw_words given_words encode_with
ccw_is c [] is = rw is refl
ccw_is c (b ∷ bytes) is = rw is (simp append_assoc)

ccw_key : keyword_of (67 ∷ codes "CW") ≡ Some ChannelWord
unfolding head_of event_word_of
ccw_key = refl

-- a reading inside a program
abbrev inside : DeckLines → ℕ → ℕ → List Ccw → List ℕ → State
inside deck path device words lines = record { place = places.Inside path device; deck = deck; words = words; lines = lines }

record Comes (deck : DeckLines) (path device n : ℕ) (words : List Ccw) (lines : List ℕ) (text rest : List ℕ) (all : List Ccw) : Type 0 where
  pub number : ℕ
  pub numbers : List ℕ
  pub leads : read_lines n (inside deck path device words lines) (text_lines (text ++ rest))
      ≡ read_lines number (inside deck path device all numbers) (text_lines rest)

ccw_comes : (deck : DeckLines) (path device n : ℕ) (words : List Ccw) (lines : List ℕ) (c : Ccw) (rest : List ℕ) → CcwFacts c → length words < 256
    → read_lines n (inside deck path device words lines) (text_lines (ccw_text c ++ rest))
    ≡ read_lines (n + 1) (inside deck path device (words ++ c ∷ []) (lines ++ n ∷ [])) (text_lines rest)
ccw_comes deck path device n words lines c rest f room =
    let full : nat_le 256 (length words) ≡ false = grind (arith, nat_tests) in
    line_at n (inside deck path device words lines) (inside deck path device (words ++ c ∷ []) (lines ++ n ∷ [])) 67 (codes "CW") (ccw_words c) ChannelWord
    (ccw_text c) rest (ccw_is c c.given refl) (omega arith)
    (ccw_are c f) ccw_key refl
    (rw (ccw_again c f, full) refl)

ccws_come : (deck : DeckLines) (path device n : ℕ) (words : List Ccw) (lines : List ℕ) (cs : List Ccw) (rest : List ℕ) → Each CcwFacts cs
    → length words + length cs ≤ 256
    → Comes deck path device n words lines (flat_map ccw_text cs) rest (words ++ cs)
ccws_come deck path device n words lines [] rest f few = rw append-nil (record { number = n; numbers = lines; leads = refl })
ccws_come deck path device n words lines (c ∷ cs) rest f few =
    let more = ccws_come deck path device (n + 1) (words ++ c ∷ []) (lines ++ n ∷ []) cs rest f.1 (omega (arith, length-append words (c ∷ []))) in
    let same : (words ++ c ∷ []) ++ cs ≡ words ++ (c ∷ cs) = append_assoc words (c ∷ []) cs in
    record {
      number = more.number;
      numbers = more.numbers;
      leads = ap (λ (l : List ℕ). read_lines n (inside deck path device words lines) (text_lines l)) (append_assoc (ccw_text c) (flat_map ccw_text cs) rest)
          ∙ ccw_comes deck path device n words lines c (flat_map ccw_text cs ++ rest) f.0 (omega arith)
          ∙ more.leads
          ∙ ap (λ (ws : List Ccw). read_lines more.number (inside deck path device ws more.numbers) (text_lines rest)) same;
    }

-- END
end_is : end_text ≡ join ((69 ∷ codes "ND") ∷ []) ++ 10 ∷ []
unfolding end_text join
end_is = refl

end_key : keyword_of (69 ∷ codes "ND") ≡ Some End
unfolding head_of event_word_of
end_key = refl

end_comes : (deck : DeckLines) (path device n : ℕ) (words : List Ccw) (lines rest : List ℕ) → IsProgram words
    → read_lines n (inside deck path device words lines) (text_lines (end_text ++ rest))
    ≡ read_lines (n + 1)
    (outside places.Programs (record deck { programs = deck.programs ++ record { path = path; device = device; program = words } ∷ [] })) (text_lines rest)
end_comes deck path device n words lines rest program =
    line_at n (inside deck path device words lines)
    (outside places.Programs (record deck { programs = deck.programs ++ record { path = path; device = device; program = words } ∷ [] })) 69 (codes "ND") []
    End end_text rest end_is (omega arith)
    (record { some = omega arith; letters = refl }, tt) end_key refl
    (ap (end_program n (inside deck path device words lines) (Some (path, device))) program)

program_is : (path device : ℕ) → program_text path device ≡ join ((80 ∷ codes "ROGRAM") ∷ program_words path device) ++ 10 ∷ []
unfolding program_text join
program_is path device = simp append_assoc

program_key : keyword_of (80 ∷ codes "ROGRAM") ≡ Some Program
unfolding head_of event_word_of
program_key = refl

short_by : (ccws : List Ccw) (a b : Bool) (x y : ℕ × Why) (o : Option (ℕ × Why)) → (nat_lt 256 (length ccws)) ≡ b
    → (if a then Some x else if b then Some y else o) ≡ None → length ccws ≤ 256
short_by ccws true b x y o is h = absurd (cc)
short_by ccws false true x y o is h = absurd (cc)
short_by ccws false false x y o is h = grind (arith, nat_tests)

short : (ccws : List Ccw) → IsProgram ccws → length ccws ≤ 256
short ccws h = short_by ccws (length ccws == 0) (nat_lt 256 (length ccws)) _ _ (fault_from ccws 0 ccws) refl h

planned_leads : (deck : DeckLines) (place : LinePlace) (p : PlannedProgram) → may_stand Program place ≡ true → ProgramOk deck.devices p → length deck.programs < 512
    → Leads (outside place deck) (planned_text p) (outside places.Programs (record deck { programs = deck.programs ++ p ∷ [] }))
planned_leads deck place p stands ok room = λ n rest.
    let full : nat_le 512 (length deck.programs) ≡ false = grind (arith, nat_tests) in
    let first =
    line_at n (outside place deck) (inside deck p.path p.device [] []) 80 (codes "ROGRAM") (program_words p.path p.device) Program
    (program_text p.path p.device) ((flat_map ccw_text p.program ++ end_text) ++ rest) (program_is p.path p.device) (omega arith)
    (record { some = omega arith; letters = refl }, ok.are) program_key stands (rw (ok.again, full) refl) in
    let ccws = ccws_come deck p.path p.device (n + 1) [] [] p.program (end_text ++ rest) ok.ccws (omega (arith, short p.program ok.program)) in
    let last = end_comes deck p.path p.device ccws.number p.program ccws.numbers rest ok.program in (
      ccws.number + 1,
      ap (λ (l : List ℕ). read_lines n (outside place deck) (text_lines l))
          (append_assoc (program_text p.path p.device) (flat_map ccw_text p.program ++ end_text) rest)
          ∙ first
          ∙ ap (λ (l : List ℕ). read_lines (n + 1) (inside deck p.path p.device [] []) (text_lines l)) (append_assoc (flat_map ccw_text p.program) end_text rest)
          ∙ ccws.leads
          ∙ last,
    )

programs_lead : (deck : DeckLines) (place : LinePlace) (ps : List PlannedProgram) → IsBehind place → Each (ProgramOk deck.devices) ps
    → length deck.programs + length ps ≤ 512
    → Reaches (outside place deck) (flat_map planned_text ps) (record deck { programs = deck.programs ++ ps })
programs_lead deck place [] behind h few = rw append-nil (record { place = place; behind = behind; leads = leads_none (outside place deck) })
programs_lead deck place (p ∷ ps) behind h few =
    let next = record deck { programs = deck.programs ++ p ∷ [] } in
    let more = programs_lead next places.Programs ps (record { program = refl; events = refl }) h.1 (omega (arith, length-append deck.programs (p ∷ []))) in
    let all : Reaches (outside place deck) (planned_text p ++ flat_map planned_text ps) (record deck { programs = (deck.programs ++ p ∷ []) ++ ps }) = record {
      place = more.place;
      behind = more.behind;
      leads = leads_then (outside place deck) (outside places.Programs next) (outside more.place (record deck { programs = (deck.programs ++ p ∷ []) ++ ps }))
          (planned_text p) (flat_map planned_text ps) (planned_leads deck place p behind.program h.0 (omega arith)) more.leads;
    } in
    let same : (deck.programs ++ p ∷ []) ++ ps ≡ deck.programs ++ (p ∷ ps) = append_assoc deck.programs (p ∷ []) ps in
    rw (← same) all

not_full : (most n : ℕ) → n < most → nat_le most n ≡ false
not_full most n h = grind (arith, nat_tests)

not_long : (most n : ℕ) → n ≤ most → nat_lt most n ≡ false
not_long most n h = grind (arith, nat_tests)

-- EVENTS and the event lines
events_is : events_text ≡ join ((69 ∷ codes "VENTS") ∷ []) ++ 10 ∷ []
unfolding events_text join
events_is = refl

events_key : keyword_of (69 ∷ codes "VENTS") ≡ Some Events
unfolding head_of event_word_of
events_key = refl

events_start : (deck : DeckLines) (place : LinePlace) → may_stand Events place ≡ true → Leads (outside place deck) events_text (outside places.Events deck)
events_start deck place stands =
    leads_line (outside place deck) (outside places.Events deck) 69 (codes "VENTS") [] Events events_text events_is (omega arith) (
      record {
        some =
            omega arith;
        letters = refl;
      },
      tt,
    ) events_key stands (λ n. refl)

-- the first word of an event's line
record IsNamed (e : EventLine) : Type 0 where
  pub first : ℕ
  pub others : List ℕ
  pub letter : first ≢ 42
  pub word : IsWord (first ∷ others)
  pub key : keyword_of (first ∷ others) ≡ Some (Event (word_of e))
  pub text : event_text e ≡ join ((first ∷ others) ∷ behind_of e) ++ 10 ∷ []

named : (e : EventLine) → IsNamed e
unfolding head_of event_word_of event_text with_one with_two with_side side_text side_word behind_of join
named (events.Start path device) =
    record {
      first = 83;
      others = codes "TART";
      letter = omega arith;
      word = record { some = omega arith; letters = refl };
      key = refl;
      text =
          simp append_assoc;
    }
named (events.Step device) =
    record {
      first = 83;
      others = codes "TEP";
      letter = omega arith;
      word = record { some = omega arith; letters = refl };
      key = refl;
      text =
          simp append_assoc;
    }
named (events.Run device) =
    record { first = 82; others = codes "UN"; letter = omega arith; word = record { some = omega arith; letters = refl }; key = refl; text = simp append_assoc }
named (events.Back device) =
    record {
      first = 66;
      others = codes "ACK";
      letter = omega arith;
      word = record { some = omega arith; letters = refl };
      key = refl;
      text =
          simp append_assoc;
    }
named (events.Settle device) =
    record {
      first = 83;
      others = codes "ETTLE";
      letter = omega arith;
      word = record { some = omega arith; letters = refl };
      key = refl;
      text =
          simp append_assoc;
    }
named (events.Reset path device) =
    record {
      first = 82;
      others = codes "ESET";
      letter = omega arith;
      word = record { some = omega arith; letters = refl };
      key = refl;
      text =
          simp append_assoc;
    }
named events.FailCache =
    record { first = 70; others = codes "AIL"; letter = omega arith; word = record { some = omega arith; letters = refl }; key = refl; text = refl }
named events.FailStore =
    record { first = 70; others = codes "AIL"; letter = omega arith; word = record { some = omega arith; letters = refl }; key = refl; text = refl }
named (events.FailVolume device A) =
    record {
      first = 70;
      others = codes "AIL";
      letter = omega arith;
      word = record { some = omega arith; letters = refl };
      key = refl;
      text =
          simp append_assoc;
    }
named (events.FailVolume device B) =
    record {
      first = 70;
      others = codes "AIL";
      letter = omega arith;
      word = record { some = omega arith; letters = refl };
      key = refl;
      text =
          simp append_assoc;
    }
named events.Power =
    record { first = 80; others = codes "OWER"; letter = omega arith; word = record { some = omega arith; letters = refl }; key = refl; text = refl }
named events.RepairCache =
    record { first = 82; others = codes "EPAIR"; letter = omega arith; word = record { some = omega arith; letters = refl }; key = refl; text = refl }
named events.RepairStore =
    record { first = 82; others = codes "EPAIR"; letter = omega arith; word = record { some = omega arith; letters = refl }; key = refl; text = refl }
named (events.Replace device A) =
    record {
      first = 82;
      others = codes "EPLACE";
      letter = omega arith;
      word = record { some = omega arith; letters = refl };
      key = refl;
      text =
          simp append_assoc;
    }
named (events.Replace device B) =
    record {
      first = 82;
      others = codes "EPLACE";
      letter = omega arith;
      word = record { some = omega arith; letters = refl };
      key = refl;
      text =
          simp append_assoc;
    }
named (events.Pair first second) =
    record {
      first = 80;
      others = codes "AIR";
      letter = omega arith;
      word = record { some = omega arith; letters = refl };
      key = refl;
      text =
          simp append_assoc;
    }
named (events.Unpair device) =
    record {
      first = 85;
      others = codes "NPAIR";
      letter = omega arith;
      word = record { some = omega arith; letters = refl };
      key = refl;
      text =
          simp append_assoc;
    }
named (events.Suspend device) =
    record {
      first = 83;
      others = codes "USPEND";
      letter = omega arith;
      word = record { some = omega arith; letters = refl };
      key = refl;
      text =
          simp append_assoc;
    }
named (events.Resume device) =
    record {
      first = 82;
      others = codes "ESUME";
      letter = omega arith;
      word = record { some = omega arith; letters = refl };
      key = refl;
      text =
          simp append_assoc;
    }

event_leads : (deck : DeckLines) (e : EventLine) → EventOk deck.devices e → length deck.events < 65536
    → Leads (outside places.Events deck) (event_text e) (outside places.Events (record deck { events = deck.events ++ e ∷ [] }))
event_leads deck e ok room =
    let w = named e in
    let full : nat_le 65536 (length deck.events) ≡ false = not_full 65536 (length deck.events) room in
    leads_line (outside places.Events deck) (outside places.Events (record deck { events = deck.events ++ e ∷ [] })) w.first w.others (behind_of e)
    (Event (word_of e)) (event_text e) w.text w.letter (w.word, ok.are) w.key refl
    (λ n. rw (ok.again, full) refl)

events_lead : (deck : DeckLines) (es : List EventLine) → Each (EventOk deck.devices) es → length deck.events + length es ≤ 65536
    → Leads (outside places.Events deck) (flat_map event_text es) (outside places.Events (record deck { events = deck.events ++ es }))
events_lead deck [] h few = rw append-nil (leads_none (outside places.Events deck))
events_lead deck (e ∷ es) h few =
    let next = record deck { events = deck.events ++ e ∷ [] } in
    let more = events_lead next es h.1 (omega (arith, length-append deck.events (e ∷ []))) in
    let all =
    leads_then (outside places.Events deck) (outside places.Events next) (outside places.Events (record deck { events = (deck.events ++ e ∷ []) ++ es }))
    (event_text e) (flat_map event_text es) (event_leads deck e h.0 (omega arith)) more in
    let same : (deck.events ++ e ∷ []) ++ es ≡ deck.events ++ (e ∷ es) = append_assoc deck.events (e ∷ []) es in
    rw (← same) all

-- the first three lines
head_is : (frames slots : ℕ)
    → head_text frames slots ≡ (join ((68 ∷ codes "ECK") ∷ codes "1" ∷ []) ++ 10 ∷ [])
    ++ ((join ((67 ∷ codes "ACHE") ∷ decimal frames ∷ []) ++ 10 ∷ []) ++ (join ((83 ∷ codes "TORE") ∷ decimal slots ∷ []) ++ 10 ∷ []))
unfolding head_text join
head_is frames slots =
    ap (λ (l : List ℕ). codes "DECK 1\nCACHE " ++ l)
    (sym (append_assoc (decimal frames) (10 ∷ []) (join ((83 ∷ codes "TORE") ∷ decimal slots ∷ []) ++ 10 ∷ [])))

deck_key : keyword_of (68 ∷ codes "ECK") ≡ Some Deck
unfolding head_of event_word_of
deck_key = refl

cache_key : keyword_of (67 ∷ codes "ACHE") ≡ Some Cache
unfolding head_of event_word_of
cache_key = refl

store_key : keyword_of (83 ∷ codes "TORE") ≡ Some Store
unfolding head_of event_word_of
store_key = refl

deck_leads : Leads reading_begun (join ((68 ∷ codes "ECK") ∷ codes "1" ∷ []) ++ 10 ∷ []) (outside places.Sizes no_lines)
unfolding is_one
deck_leads =
    leads_line reading_begun (outside places.Sizes no_lines) 68 (codes "ECK") (codes "1" ∷ []) Deck _ refl (omega arith) (
      record {
        some = omega arith;
        letters =
            refl;
      },
      (record { some = omega arith; letters = refl }, tt),
    ) deck_key refl (λ n. refl)

cache_leads : (frames : ℕ) → 1 ≤ frames → frames ≤ 4096
    → Leads (outside places.Sizes no_lines) (join ((67 ∷ codes "ACHE") ∷ decimal frames ∷ []) ++ 10 ∷ [])
    (outside places.Slots (record no_lines { frames = frames }))
cache_leads frames low high =
    leads_line (outside places.Sizes no_lines) (outside places.Slots (record no_lines { frames = frames })) 67 (codes "ACHE") (decimal frames ∷ []) Cache _ refl
    (omega arith) (record { some = omega arith; letters = refl }, (decimal_word frames (omega arith), tt)) cache_key refl
    (λ n. rw (number_read 1 4096 frames low high (omega arith)) refl)

store_leads : (frames slots : ℕ) → slots ≤ 1024
    → Leads (outside places.Slots (record no_lines { frames = frames })) (join ((83 ∷ codes "TORE") ∷ decimal slots ∷ []) ++ 10 ∷ [])
    (outside places.FirstDevice (with_devices frames slots []))
store_leads frames slots high =
    leads_line (outside places.Slots (record no_lines { frames = frames })) (outside places.FirstDevice (with_devices frames slots [])) 83 (codes "TORE")
    (decimal slots ∷ []) Store _ refl (omega arith) (record { some = omega arith; letters = refl }, (decimal_word slots (omega arith), tt)) store_key refl
    (λ n. rw (number_read 0 1024 slots (omega arith) high (omega arith)) refl)

head_leads : (frames slots : ℕ) → 1 ≤ frames → frames ≤ 4096 → slots ≤ 1024
    → Leads reading_begun (head_text frames slots) (outside places.FirstDevice (with_devices frames slots []))
head_leads frames slots low high few =
    rw (head_is frames slots)
    (leads_then reading_begun (outside places.Sizes no_lines) (outside places.FirstDevice (with_devices frames slots []))
    (join ((68 ∷ codes "ECK") ∷ codes "1" ∷ []) ++ 10 ∷ [])
    ((join ((67 ∷ codes "ACHE") ∷ decimal frames ∷ []) ++ 10 ∷ []) ++ (join ((83 ∷ codes "TORE") ∷ decimal slots ∷ []) ++ 10 ∷ [])) deck_leads
    (leads_then (outside places.Sizes no_lines) (outside places.Slots (record no_lines { frames = frames }))
    (outside places.FirstDevice (with_devices frames slots [])) (join ((67 ∷ codes "ACHE") ∷ decimal frames ∷ []) ++ 10 ∷ [])
    (join ((83 ∷ codes "TORE") ∷ decimal slots ∷ []) ++ 10 ∷ []) (cache_leads frames low high) (store_leads frames slots few)))

-- the whole text
deck_reads : (d : DeckLines) → IsDeck d → Leads reading_begun (canonical d) (outside places.Events d)
deck_reads d ok =
    let devices = with_devices d.frames d.slots d.devices in
    let faults = faults_lead devices places.Devices d.faults refl (record { program = refl; events = refl }) ok.faults (omega (arith, ok.fault_count)) in
    let faulted = record devices { faults = d.faults } in
    let programs = programs_lead faulted faults.place d.programs faults.behind ok.programs (omega (arith, ok.program_count)) in
    let programmed = record faulted { programs = d.programs } in
    let first = head_leads d.frames d.slots ok.least ok.frames ok.slots in
    let second = all_devices_lead d.frames d.slots d.devices ok.some ok.devices in
    let fifth = events_start programmed programs.place programs.behind.events in
    let sixth = events_lead programmed d.events ok.events (omega (arith, ok.event_count)) in
    leads_then reading_begun (outside places.FirstDevice (with_devices d.frames d.slots [])) (outside places.Events d) (head_text d.frames d.slots) (from_devices d)
    first
    (leads_then (outside places.FirstDevice (with_devices d.frames d.slots [])) (outside places.Devices devices) (outside places.Events d)
    (flat_map device_text d.devices) (from_faults d) second
    (leads_then (outside places.Devices devices) (outside faults.place faulted) (outside places.Events d) (flat_map fault_text d.faults) (from_programs d)
    faults.leads
    (leads_then (outside faults.place faulted) (outside programs.place programmed) (outside places.Events d) (flat_map planned_text d.programs) (from_events d)
    programs.leads
    (leads_then (outside programs.place programmed) (outside places.Events programmed) (outside places.Events d) events_text (flat_map event_text d.events)
    fifth sixth))))

-- the law for what holds of each deck that a text is
pub reads_again : (d : DeckLines) → IsDeck d → length (canonical d) ≤ 16777216 → parsed (canonical d) ≡ Ok d
reads_again d ok small =
    let long : nat_lt 16777216 (length (canonical d)) ≡ false = not_long 16777216 (length (canonical d)) small in
    let all = deck_reads d ok 1 [] in
    rw long (ap (λ (l : List ℕ). read_lines 1 reading_begun (text_lines l)) (sym (append-nil (canonical d))) ∙ all.1)
