-- What holds along a reading.
use Rattle.std.proofs.Common.{◌≡◌, ◌≤◌, ◌<◌, ◌+◌, ◌∷◌, [], ◌++◌, ℕ, List, Bool, true, false, length, Option, Some, None, Result, Ok, Err, refl, sym, subst}
use Rattle.std.proofs.Common.{arith, append_assoc, length-append}
use Rattle.std.specs.Prelude.{nat_le, nat_lt, if◌then◌else◌}
use Rattle.std.proofs.lemmas.List.{append-nil}
use Rattle.std.proofs.lemmas.Bool.{true≢false}
use Rattle.std.proofs.lemmas.Bool.Decides.{nat_tests}
use Rattle.ckd_types.specs.declared.channel.Ccw.{Ccw}
use Rattle.ckd_types.specs.declared.channel.Why.{Why}
use Rattle.ckd_types.specs.Program.{first_fault}
use Rattle.deck_plan.specs.declared.event.EventLine.{EventLine}
use Rattle.deck_text.specs.declared.keyword.EventWord.{EventWord}
use Rattle.deck_text.specs.declared.keyword.DeckKeyword.{DeckKeyword}
use Rattle.deck_text.specs.declared.keyword.DeckKeyword.TheVariants.{Deck, Cache, Store, Device, Fault, Program, Ccw as ChannelWord, End, Events, Event}
use Rattle.deck_text.specs.declared.line.DeckWhy.{DeckWhy}
use Rattle.deck_text.specs.declared.line.DeckWhy.TheVariants as reasons
use Rattle.deck_text.specs.declared.line.DeckFault.{DeckFault}
use Rattle.deck_text.specs.declared.line.DeckFault.TheVariants.{Refused, Limit}
use Rattle.deck_text.specs.declared.line.Which.TheVariants as limits
use Rattle.deck_text.specs.declared.line.DeviceLine.{DeviceLine}
use Rattle.deck_text.specs.declared.line.FaultLine.{FaultLine}
use Rattle.deck_text.specs.declared.line.PlannedProgram.{PlannedProgram}
use Rattle.deck_text.specs.declared.place.LinePlace.{LinePlace}
use Rattle.deck_text.specs.declared.place.LinePlace.TheVariants as places
use Rattle.deck_text.specs.DeckLines.{DeckLines}
use Rattle.deck_text.specs.Lines.{is_comment, has_bad_byte, text_lines}
use Rattle.deck_text.specs.Words.{one_word, words_of}
use Rattle.deck_text.specs.Numbers.{number_in}
use Rattle.deck_text.specs.Keywords.{keyword_of}
use Rattle.deck_text.specs.Forms.{needed, no_words, deck_line, count_line, device_line, fault_line, path_and_device, ccw_line}
use Rattle.deck_text.specs.Events.{event_line}
use Rattle.deck_text.specs.Reading.{State, may_stand, or_refuse, file_ended, end_program, line_put, put_words, take_words, take_line}
use Rattle.deck_text.specs.Parse.{reading_begun, deck_finished, or_stop, read_lines, parsed}
use Rattle.deck_text.proofs.FormsAgain.{went, needed_is, Ranged, number_range, pair_again, line_again}
use Rattle.deck_text.proofs.EventsAgain.{fault_again, event_again}
use Rattle.deck_text.proofs.CcwAgain.{CcwFacts, ccw_facts}
use Rattle.deck_text.proofs.LineAgain.{AreWords}
use Rattle.deck_text.proofs.Bounds.{path_words, line_are, fault_are, event_are}
use Rattle.deck_text.proofs.DeckAgain.{Each, DeviceOk, AllDevices, FaultOk, program_words, ProgramOk, EventOk, IsDeck}

abbrev FramesAt : LinePlace → ℕ → Type 0
FramesAt places.Front n = Unit {0}
FramesAt places.Sizes n = Unit {0}
FramesAt _ n = (1 ≤ n) × (n ≤ 4096)

abbrev SlotsAt : LinePlace → ℕ → Type 0
SlotsAt places.Front n = Unit {0}
SlotsAt places.Sizes n = Unit {0}
SlotsAt places.Slots n = Unit {0}
SlotsAt _ n = n ≤ 1024

abbrev DevicesAt : LinePlace → List DeviceLine → Type 0
DevicesAt places.Front ds = ds ≡ []
DevicesAt places.Sizes ds = ds ≡ []
DevicesAt places.Slots ds = ds ≡ []
DevicesAt places.FirstDevice ds = ds ≡ []
DevicesAt _ ds = 0 < length ds

record NoOthers (deck : DeckLines) : Type 0 where
  pub faults : deck.faults ≡ []
  pub programs : deck.programs ≡ []
  pub events : deck.events ≡ []

abbrev OthersAt : LinePlace → DeckLines → Type 0
OthersAt places.Front deck = NoOthers deck
OthersAt places.Sizes deck = NoOthers deck
OthersAt places.Slots deck = NoOthers deck
OthersAt places.FirstDevice deck = NoOthers deck
OthersAt places.Devices deck = NoOthers deck
OthersAt _ deck = Unit {0}

record IsOpen (deck : DeckLines) (path device : ℕ) : Type 0 where
  pub again : path_and_device deck.devices (program_words path device) ≡ Ok (path, device)
  pub are : AreWords (program_words path device)
  pub room : length deck.programs < 512

abbrev OpenAt : LinePlace → DeckLines → Type 0
OpenAt (places.Inside path device) deck = IsOpen deck path device
OpenAt _ deck = Unit {0}

record Lists (deck : DeckLines) : Type 0 where
  pub devices : AllDevices [] deck.devices
  pub faults : Each (FaultOk deck.devices) deck.faults
  pub fault_count : length deck.faults ≤ 1024
  pub programs : Each (ProgramOk deck.devices) deck.programs
  pub program_count : length deck.programs ≤ 512
  pub events : Each (EventOk deck.devices) deck.events
  pub event_count : length deck.events ≤ 65536

record Good (place : LinePlace) (deck : DeckLines) (words : List Ccw) : Type 0 where
  pub frames : FramesAt place deck.frames
  pub slots : SlotsAt place deck.slots
  pub devices : DevicesAt place deck.devices
  pub others : OthersAt place deck
  pub opened : OpenAt place deck
  pub lists : Lists deck
  pub facts : Each CcwFacts words

abbrev IsGood : State → Type 0
IsGood s = Good s.place s.deck s.words

abbrev st : LinePlace → DeckLines → List Ccw → List ℕ → State
st place deck words lines = record { place = place; deck = deck; words = words; lines = lines }

record Passed {T : Type 0} (r : Result T DeckWhy) (go : T → Result State DeckFault) (t : State) : Type 0 where
  pub value : T
  pub first : r ≡ Ok value
  pub second : go value ≡ Ok t

passed : {T : Type 0} (n : ℕ) (r : Result T DeckWhy) (go : T → Result State DeckFault) (t : State) → or_refuse n r go ≡ Ok t → Passed r go t
passed n (Ok x) go t h = record { value = x; first = refl; second = h }
passed n (Err why) go t h = absurd (cc)

same_ok : {T : Type 0} (e : DeckFault) (s t : T) → (if true then Ok s else Err e) ≡ Ok t → s ≡ t
same_ok e s t h = cc

ok_is : (s t : State) → (if true then Ok s else Err (Limit limits.Size)) ≡ Ok t → s ≡ t
ok_is s t h = same_ok (Limit limits.Size) s t h

record Room (most n : ℕ) (s t : State) : Type 0 where
  pub room : n < most
  pub same : s ≡ t

-- below a limit
limited : (most n : ℕ) (b : Bool) (e : DeckFault) (s t : State) → nat_le most n ≡ b → (if b then Err e else Ok s) ≡ Ok t → Room most n s t
limited most n true e s t is h = absurd (cc)
limited most n false e s t is h = record { room = grind (arith, nat_tests); same = ok_is s t h }

each_more : {X : Type 0} (P : X → Type 0) (xs : List X) (x : X) → Each P xs → P x → Each P (xs ++ x ∷ [])
each_more P [] x h p = (p, tt)
each_more P (y ∷ xs) x h p = (h.0, each_more P xs x h.1 p)

devices_more : (before ds : List DeviceLine) (d : DeviceLine) → AllDevices before ds → DeviceOk (before ++ ds) d → AllDevices before (ds ++ d ∷ [])
devices_more before [] d h ok = let e = ok in (subst (λ (l : List DeviceLine). DeviceOk l d) (append-nil before) e, tt)
devices_more before (x ∷ ds) d h ok =
    (h.0, devices_more (before ++ x ∷ []) ds d h.1 (subst (λ (l : List DeviceLine). DeviceOk l d) (sym (append_assoc before (x ∷ []) ds)) ok))

no_stand : {X : Type 0} → false ≡ true → X
no_stand h = absurd (true≢false (sym h))

deck_good : (n : ℕ) (place : LinePlace) (deck : DeckLines) (words : List Ccw) (lines : List ℕ) (t : State) (ws : List (List ℕ)) → may_stand Deck place ≡ true
    → Good place deck words → line_put n (st place deck words lines) Deck ws ≡ Ok t → IsGood t
deck_good n places.Front deck words lines t ws stands g h =
    let a = passed n (deck_line ws) (λ one. Ok (st places.Sizes deck words lines)) t h in
    let e = ok_is (st places.Sizes deck words lines) t a.second in
    subst IsGood e (record { frames = tt; slots = tt; devices = g.devices; others = g.others; opened = tt; lists = g.lists; facts = g.facts })
deck_good n _ deck words lines t ws stands g h = no_stand stands

count_range : (least most : ℕ) (ws : List (List ℕ)) (n : ℕ) → count_line least most ws ≡ Ok n → Ranged least most n
count_range least most ws n h =
    let a = went (needed reasons.Words (one_word ws)) (λ w. needed reasons.Number (number_in least most w)) n h in
    number_range least most a.value n (needed_is reasons.Number (number_in least most a.value) n a.second)

-- lists that don't see the sizes
sized : (deck : DeckLines) (frames slots : ℕ) → Lists deck → Lists (record deck { frames = frames; slots = slots })
sized deck frames slots h =
    record {
      devices = h.devices;
      faults = h.faults;
      fault_count = h.fault_count;
      programs = h.programs;
      program_count = h.program_count;
      events =
          h.events;
      event_count = h.event_count;
    }

cache_good : (n : ℕ) (place : LinePlace) (deck : DeckLines) (words : List Ccw) (lines : List ℕ) (t : State) (ws : List (List ℕ)) → may_stand Cache place ≡ true
    → Good place deck words → line_put n (st place deck words lines) Cache ws ≡ Ok t → IsGood t
cache_good n places.Sizes deck words lines t ws stands g h =
    let a = passed n (count_line 1 4096 ws) (λ k. Ok (st places.Slots (record deck { frames = k }) words lines)) t h in
    let e = ok_is (st places.Slots (record deck { frames = a.value }) words lines) t a.second in
    let r = count_range 1 4096 ws a.value a.first in
    let o = g.others in
    subst IsGood e (record {
      frames = (r.low, r.high);
      slots = tt;
      devices = g.devices;
      others =
          record { faults = o.faults; programs = o.programs; events = o.events };
      opened = tt;
      lists = sized deck a.value deck.slots g.lists;
      facts = g.facts;
    })
cache_good n _ deck words lines t ws stands g h = no_stand stands

store_good : (n : ℕ) (place : LinePlace) (deck : DeckLines) (words : List Ccw) (lines : List ℕ) (t : State) (ws : List (List ℕ)) → may_stand Store place ≡ true
    → Good place deck words → line_put n (st place deck words lines) Store ws ≡ Ok t → IsGood t
store_good n places.Slots deck words lines t ws stands g h =
    let a = passed n (count_line 0 1024 ws) (λ k. Ok (st places.FirstDevice (record deck { slots = k }) words lines)) t h in
    let e = ok_is (st places.FirstDevice (record deck { slots = a.value }) words lines) t a.second in
    let r = count_range 0 1024 ws a.value a.first in
    let o = g.others in
    subst IsGood e (record {
      frames = g.frames;
      slots = r.high;
      devices = g.devices;
      others =
          record { faults = o.faults; programs = o.programs; events = o.events };
      opened = tt;
      lists = sized deck deck.frames a.value g.lists;
      facts = g.facts;
    })
store_good n _ deck words lines t ws stands g h = no_stand stands

-- one more device, where there is nothing else yet
device_lists : (deck : DeckLines) (line : DeviceLine) → NoOthers deck → Lists deck → DeviceOk deck.devices line
    → Lists (record deck { devices = deck.devices ++ line ∷ [] })
device_lists deck line o h ok = record {
  devices = devices_more [] deck.devices line h.devices ok;
  faults = subst (λ (l : List FaultLine). Each (FaultOk (deck.devices ++ line ∷ [])) l) (sym o.faults) tt;
  fault_count = h.fault_count;
  programs = subst (λ (l : List PlannedProgram). Each (ProgramOk (deck.devices ++ line ∷ [])) l) (sym o.programs) tt;
  program_count = h.program_count;
  events = subst (λ (l : List EventLine). Each (EventOk (deck.devices ++ line ∷ [])) l) (sym o.events) tt;
  event_count = h.event_count;
}

device_put : (n : ℕ) (place : LinePlace) (deck : DeckLines) (words : List Ccw) (lines : List ℕ) (t : State) (ws : List (List ℕ)) → (1 ≤ deck.frames)
    × (deck.frames ≤ 4096) → deck.slots ≤ 1024 → NoOthers deck → Lists deck → Each CcwFacts words
    → line_put n (st place deck words lines) Device ws ≡ Ok t → IsGood t
device_put n place deck words lines t ws frames slots o lists facts h =
    let a = passed n (device_line deck.devices ws) (λ line. Ok (st places.Devices (record deck { devices = deck.devices ++ line ∷ [] }) words lines)) t h in
    let e = ok_is (st places.Devices (record deck { devices = deck.devices ++ a.value ∷ [] }) words lines) t a.second in
    subst IsGood e (record {
      frames = frames;
      slots = slots;
      devices = omega (arith, length-append deck.devices (a.value ∷ []));
      others = record { faults = o.faults; programs = o.programs; events = o.events };
      opened = tt;
      lists = device_lists deck a.value o lists (record { again = line_again deck.devices ws a.value a.first; are = line_are deck.devices ws a.value a.first });
      facts = facts;
    })

device_good : (n : ℕ) (place : LinePlace) (deck : DeckLines) (words : List Ccw) (lines : List ℕ) (t : State) (ws : List (List ℕ)) → may_stand Device place ≡ true
    → Good place deck words → line_put n (st place deck words lines) Device ws ≡ Ok t → IsGood t
device_good n places.FirstDevice deck words lines t ws stands g h =
    device_put n places.FirstDevice deck words lines t ws g.frames g.slots g.others g.lists g.facts h
device_good n places.Devices deck words lines t ws stands g h = device_put n places.Devices deck words lines t ws g.frames g.slots g.others g.lists g.facts h
device_good n _ deck words lines t ws stands g h = no_stand stands

-- what holds behind the devices
record Behind (deck : DeckLines) (words : List Ccw) : Type 0 where
  pub frames : (1 ≤ deck.frames) × (deck.frames ≤ 4096)
  pub slots : deck.slots ≤ 1024
  pub some : 0 < length deck.devices
  pub lists : Lists deck
  pub facts : Each CcwFacts words

fault_put : (n : ℕ) (place : LinePlace) (deck : DeckLines) (words : List Ccw) (lines : List ℕ) (t : State) (ws : List (List ℕ)) → Behind deck words
    → line_put n (st place deck words lines) Fault ws ≡ Ok t → IsGood t
fault_put n place deck words lines t ws g h =
    let next = λ (line : FaultLine). st places.Faults (record deck { faults = deck.faults ++ line ∷ [] }) words lines in
    let a = passed n (fault_line deck.devices ws) (λ line. if nat_le 1024 (length deck.faults) then Err (Limit limits.Faults) else Ok (next line)) t h in
    let r = limited 1024 (length deck.faults) (nat_le 1024 (length deck.faults)) (Limit limits.Faults) (next a.value) t refl a.second in
    let l = g.lists in
    subst IsGood r.same (record {
      frames = g.frames;
      slots = g.slots;
      devices = g.some;
      others = tt;
      opened = tt;
      lists = record {
        devices = l.devices;
        faults =
            each_more (FaultOk deck.devices) deck.faults a.value l.faults (record {
              again = fault_again deck.devices ws a.value a.first;
              are =
                  fault_are deck.devices ws a.value a.first;
            });
        fault_count = omega (arith, r.room, length-append deck.faults (a.value ∷ []));
        programs = l.programs;
        program_count = l.program_count;
        events = l.events;
        event_count = l.event_count;
      };
      facts = g.facts;
    })

fault_good : (n : ℕ) (place : LinePlace) (deck : DeckLines) (words : List Ccw) (lines : List ℕ) (t : State) (ws : List (List ℕ)) → may_stand Fault place ≡ true
    → Good place deck words → line_put n (st place deck words lines) Fault ws ≡ Ok t → IsGood t
fault_good n places.Devices deck words lines t ws stands g h =
    fault_put n places.Devices deck words lines t ws (record { frames = g.frames; slots = g.slots; some = g.devices; lists = g.lists; facts = g.facts }) h
fault_good n places.Faults deck words lines t ws stands g h =
    fault_put n places.Faults deck words lines t ws (record { frames = g.frames; slots = g.slots; some = g.devices; lists = g.lists; facts = g.facts }) h
fault_good n _ deck words lines t ws stands g h = no_stand stands

program_put : (n : ℕ) (place : LinePlace) (deck : DeckLines) (words : List Ccw) (lines : List ℕ) (t : State) (ws : List (List ℕ)) → Behind deck words
    → line_put n (st place deck words lines) Program ws ≡ Ok t → IsGood t
program_put n place deck words lines t ws g h =
    let next = λ (at : ℕ × ℕ). st (places.Inside at.0 at.1) deck [] [] in
    let a = passed n (path_and_device deck.devices ws) (λ at. if nat_le 512 (length deck.programs) then Err (Limit limits.Programs) else Ok (next at)) t h in
    let r = limited 512 (length deck.programs) (nat_le 512 (length deck.programs)) (Limit limits.Programs) (next a.value) t refl a.second in
    subst IsGood r.same (record {
      frames = g.frames;
      slots = g.slots;
      devices = g.some;
      others = tt;
      opened = record { again = pair_again deck.devices ws a.value a.first; are = path_words deck.devices ws a.value a.first; room = r.room };
      lists = g.lists;
      facts = tt;
    })

program_good : (n : ℕ) (place : LinePlace) (deck : DeckLines) (words : List Ccw) (lines : List ℕ) (t : State) (ws : List (List ℕ)) → may_stand Program place ≡ true
    → Good place deck words → line_put n (st place deck words lines) Program ws ≡ Ok t → IsGood t
program_good n places.Devices deck words lines t ws stands g h =
    program_put n places.Devices deck words lines t ws (record { frames = g.frames; slots = g.slots; some = g.devices; lists = g.lists; facts = g.facts }) h
program_good n places.Faults deck words lines t ws stands g h =
    program_put n places.Faults deck words lines t ws (record { frames = g.frames; slots = g.slots; some = g.devices; lists = g.lists; facts = g.facts }) h
program_good n places.Programs deck words lines t ws stands g h =
    program_put n places.Programs deck words lines t ws (record { frames = g.frames; slots = g.slots; some = g.devices; lists = g.lists; facts = g.facts }) h
program_good n _ deck words lines t ws stands g h = no_stand stands

ccw_good : (n : ℕ) (place : LinePlace) (deck : DeckLines) (words : List Ccw) (lines : List ℕ) (t : State) (ws : List (List ℕ)) → may_stand ChannelWord place ≡ true
    → Good place deck words → line_put n (st place deck words lines) ChannelWord ws ≡ Ok t → IsGood t
ccw_good n (places.Inside path device) deck words lines t ws stands g h =
    let next = λ (ccw : Ccw). st (places.Inside path device) deck (words ++ ccw ∷ []) (lines ++ n ∷ []) in
    let a = passed n (ccw_line ws) (λ ccw. if nat_le 256 (length words) then Err (Refused n reasons.Program) else Ok (next ccw)) t h in
    let r = limited 256 (length words) (nat_le 256 (length words)) (Refused n reasons.Program) (next a.value) t refl a.second in
    subst IsGood r.same (record {
      frames = g.frames;
      slots = g.slots;
      devices = g.devices;
      others = tt;
      opened = g.opened;
      lists = g.lists;
      facts = each_more CcwFacts words a.value g.facts (ccw_facts ws a.value a.first);
    })
ccw_good n _ deck words lines t ws stands g h = no_stand stands

record Ended (n : ℕ) (s : State) (at : ℕ × ℕ) (o : Option (ℕ × Why)) (t : State) : Type 0 where
  pub none : o ≡ None
  pub same : file_ended s at ≡ t

end_is : (n : ℕ) (s t : State) (at : ℕ × ℕ) (o : Option (ℕ × Why)) → end_program n s (Some at) o ≡ Ok t → Ended n s at o t
end_is n s t at (Some fault) h = absurd (cc)
end_is n s t at None h = record { none = refl; same = ok_is (file_ended s at) t h }

end_good : (n : ℕ) (place : LinePlace) (deck : DeckLines) (words : List Ccw) (lines : List ℕ) (t : State) (ws : List (List ℕ)) → may_stand End place ≡ true
    → Good place deck words → line_put n (st place deck words lines) End ws ≡ Ok t → IsGood t
end_good n (places.Inside path device) deck words lines t ws stands g h =
    let s = st (places.Inside path device) deck words lines in
    let a = passed n (no_words ws) (λ none. end_program n s (Some (path, device)) (first_fault words)) t h in
    let r = end_is n s t (path, device) (first_fault words) a.second in
    let l = g.lists in
    let o = g.opened in
    let p : PlannedProgram = record { path = path; device = device; program = words } in
    subst IsGood r.same (record {
      frames = g.frames;
      slots = g.slots;
      devices = g.devices;
      others = tt;
      opened = tt;
      lists = record {
        devices = l.devices;
        faults = l.faults;
        fault_count = l.fault_count;
        programs = each_more (ProgramOk deck.devices) deck.programs p l.programs (record { again = o.again; are = o.are; program = r.none; ccws = g.facts });
        program_count = omega (arith, o.room, length-append deck.programs (p ∷ []));
        events = l.events;
        event_count = l.event_count;
      };
      facts = tt;
    })
end_good n _ deck words lines t ws stands g h = no_stand stands

events_put : (n : ℕ) (place : LinePlace) (deck : DeckLines) (words : List Ccw) (lines : List ℕ) (t : State) (ws : List (List ℕ)) → Behind deck words
    → line_put n (st place deck words lines) Events ws ≡ Ok t → IsGood t
events_put n place deck words lines t ws g h =
    let a = passed n (no_words ws) (λ none. Ok (st places.Events deck words lines)) t h in
    let e = ok_is (st places.Events deck words lines) t a.second in
    subst IsGood e (record { frames = g.frames; slots = g.slots; devices = g.some; others = tt; opened = tt; lists = g.lists; facts = g.facts })

events_good : (n : ℕ) (place : LinePlace) (deck : DeckLines) (words : List Ccw) (lines : List ℕ) (t : State) (ws : List (List ℕ)) → may_stand Events place ≡ true
    → Good place deck words → line_put n (st place deck words lines) Events ws ≡ Ok t → IsGood t
events_good n places.Devices deck words lines t ws stands g h =
    events_put n places.Devices deck words lines t ws (record { frames = g.frames; slots = g.slots; some = g.devices; lists = g.lists; facts = g.facts }) h
events_good n places.Faults deck words lines t ws stands g h =
    events_put n places.Faults deck words lines t ws (record { frames = g.frames; slots = g.slots; some = g.devices; lists = g.lists; facts = g.facts }) h
events_good n places.Programs deck words lines t ws stands g h =
    events_put n places.Programs deck words lines t ws (record { frames = g.frames; slots = g.slots; some = g.devices; lists = g.lists; facts = g.facts }) h
events_good n _ deck words lines t ws stands g h = no_stand stands

event_good : (n : ℕ) (place : LinePlace) (deck : DeckLines) (words : List Ccw) (lines : List ℕ) (t : State) (word : EventWord) (ws : List (List ℕ))
    → may_stand (Event word) place ≡ true → Good place deck words → line_put n (st place deck words lines) (Event word) ws ≡ Ok t → IsGood t
event_good n places.Events deck words lines t word ws stands g h =
    let next = λ (line : EventLine). st places.Events (record deck { events = deck.events ++ line ∷ [] }) words lines in
    let a = passed n (event_line deck.devices word ws) (λ line. if nat_le 65536 (length deck.events) then Err (Limit limits.Events) else Ok (next line)) t h in
    let r = limited 65536 (length deck.events) (nat_le 65536 (length deck.events)) (Limit limits.Events) (next a.value) t refl a.second in
    let l = g.lists in
    let again = event_again deck.devices word ws a.value a.first in
    subst IsGood r.same (record {
      frames = g.frames;
      slots = g.slots;
      devices = g.devices;
      others = tt;
      opened = tt;
      lists = record {
        devices = l.devices;
        faults = l.faults;
        fault_count = l.fault_count;
        programs = l.programs;
        program_count = l.program_count;
        events = each_more (EventOk deck.devices) deck.events a.value l.events (record { again = again; are = event_are deck.devices a.value again });
        event_count = omega (arith, r.room, length-append deck.events (a.value ∷ []));
      };
      facts = g.facts;
    })
event_good n _ deck words lines t word ws stands g h = no_stand stands

put_good : (n : ℕ) (s t : State) (k : DeckKeyword) (ws : List (List ℕ)) → may_stand k s.place ≡ true → IsGood s → line_put n s k ws ≡ Ok t → IsGood t
put_good n s t Deck ws stands g h = deck_good n s.place s.deck s.words s.lines t ws stands g h
put_good n s t Cache ws stands g h = cache_good n s.place s.deck s.words s.lines t ws stands g h
put_good n s t Store ws stands g h = store_good n s.place s.deck s.words s.lines t ws stands g h
put_good n s t Device ws stands g h = device_good n s.place s.deck s.words s.lines t ws stands g h
put_good n s t Fault ws stands g h = fault_good n s.place s.deck s.words s.lines t ws stands g h
put_good n s t Program ws stands g h = program_good n s.place s.deck s.words s.lines t ws stands g h
put_good n s t ChannelWord ws stands g h = ccw_good n s.place s.deck s.words s.lines t ws stands g h
put_good n s t End ws stands g h = end_good n s.place s.deck s.words s.lines t ws stands g h
put_good n s t Events ws stands g h = events_good n s.place s.deck s.words s.lines t ws stands g h
put_good n s t (Event word) ws stands g h = event_good n s.place s.deck s.words s.lines t word ws stands g h

stands_good : (n : ℕ) (s t : State) (k : DeckKeyword) (ws : List (List ℕ)) (b : Bool) → may_stand k s.place ≡ b → IsGood s
    → (if b then line_put n s k ws else Err (Refused n reasons.Order)) ≡ Ok t → IsGood t
stands_good n s t k ws true is g h = put_good n s t k ws is g h
stands_good n s t k ws false is g h = absurd (cc)

words_good : (n : ℕ) (s t : State) (o : Option DeckKeyword) (ws : List (List ℕ)) → IsGood s → put_words n s o ws ≡ Ok t → IsGood t
words_good n s t None ws g h = absurd (cc)
words_good n s t (Some k) ws g h = stands_good n s t k ws (may_stand k s.place) refl g h

bytes_good : (n : ℕ) (s t : State) (b : Bool) (r : Result State DeckFault) (e : DeckFault) → (r ≡ Ok t → IsGood t) → (if b then Err e else r) ≡ Ok t → IsGood t
bytes_good n s t true r e f h = absurd (cc)
bytes_good n s t false r e f h = f h

take_good : (n : ℕ) (line : List ℕ) (s t : State) (ws : List (List ℕ)) → IsGood s → take_words n line s ws ≡ Ok t → IsGood t
take_good n line s t [] g h = subst IsGood (ok_is s t h) g
take_good n line s t (w ∷ ws) g h =
    bytes_good n s t (has_bad_byte line) (put_words n s (keyword_of w) ws) (Refused n reasons.Byte) (λ e. words_good n s t (keyword_of w) ws g e) h

comment_good : (n : ℕ) (line : List ℕ) (s t : State) (b : Bool) → IsGood s → (if b then Ok s else take_words n line s (words_of line)) ≡ Ok t → IsGood t
comment_good n line s t true g h = subst IsGood (ok_is s t h) g
comment_good n line s t false g h = take_good n line s t (words_of line) g h

line_good : (n : ℕ) (line : List ℕ) (s t : State) → IsGood s → take_line n line s ≡ Ok t → IsGood t
line_good n line s t g h = comment_good n line s t (is_comment line) g h

deck_is : (d e : DeckLines) → (if true then Ok d else Err (Limit limits.Size)) ≡ Ok e → d ≡ e
deck_is d e h = same_ok (Limit limits.Size) d e h

last_good : (n : ℕ) (place : LinePlace) (deck d : DeckLines) (words : List Ccw) → Good place deck words → deck_finished n place deck ≡ Ok d → IsDeck d
last_good n places.Events deck d words g h =
    let l = g.lists in
    subst IsDeck (deck_is deck d h) (record {
      least = g.frames.0;
      frames = g.frames.1;
      slots = g.slots;
      some = g.devices;
      devices = l.devices;
      faults = l.faults;
      fault_count = l.fault_count;
      programs = l.programs;
      program_count = l.program_count;
      events = l.events;
      event_count = l.event_count;
    })
last_good n _ deck d words g h = absurd (cc)

next_good : (n : ℕ) (line : List ℕ) (s : State) (d : DeckLines) (go : State → Result DeckLines DeckFault) → ((t : State) → IsGood t → go t ≡ Ok d → IsDeck d)
    → IsGood s → (r : Result State DeckFault) → take_line n line s ≡ r → or_stop r go ≡ Ok d → IsDeck d
next_good n line s d go later g (Ok t) is h = later t (line_good n line s t g is) h
next_good n line s d go later g (Err fault) is h = absurd (cc)

read_good : (n : ℕ) (s : State) (d : DeckLines) (lines : List (List ℕ)) → IsGood s → read_lines n s lines ≡ Ok d → IsDeck d
read_good n s d [] g h = last_good n s.place s.deck d s.words g h
read_good n s d (line ∷ lines) g h =
    next_good n line s d (λ t. read_lines (n + 1) t lines) (λ t gt e. read_good (n + 1) t d lines gt e) g (take_line n line s) refl h

start_good : IsGood reading_begun
start_good = record {
  frames = tt;
  slots = tt;
  devices = refl;
  others = record { faults = refl; programs = refl; events = refl };
  opened = tt;
  lists = record { devices = tt; faults = tt; fault_count = omega arith; programs = tt; program_count = omega arith; events = tt; event_count = omega arith };
  facts = tt;
}

sized_good : (text : List ℕ) (d : DeckLines) (b : Bool) → (if b then Err (Limit limits.Size) else read_lines 1 reading_begun (text_lines text)) ≡ Ok d → IsDeck d
sized_good text d true h = absurd (cc)
sized_good text d false h = read_good 1 reading_begun d (text_lines text) start_good h

-- each deck that a text is
pub parsed_good : (text : List ℕ) (d : DeckLines) → parsed text ≡ Ok d → IsDeck d
parsed_good text d h = sized_good text d (nat_lt 16777216 (length text)) h
