-- Small decks, and what their runs show.
use Rattle.std.proofs.Common.{◌+◌, Bool, Option, Some, None, true, false, ◌≡◌, map, ℕ, zero, suc, List, [], ◌∷◌, ◌++◌}
use Rattle.ckd_types.specs.declared.channel.Ccw.{Ccw}
use Rattle.ckd_types.specs.declared.channel.CommandEnd.{CommandEnd}
use Rattle.ckd_types.specs.declared.channel.Note.{Note}
use Rattle.ckd_types.specs.declared.sense.Sense.{Sense}
use Rattle.ckd_types.specs.declared.geometry.Geometry.TheVariants.{D3390}
use Rattle.ckd_types.specs.declared.paths.Side.{Side}
use Rattle.deck_plan.specs.declared.event.EventLine.{EventLine}
use Rattle.deck_plan.specs.declared.event.EventLine.TheVariants as lines
use Rattle.std.specs.Prelude.{length, not, ◌&&◌, ◌||◌, is_some, slice_index_or}
use Rattle.track_table.specs.Tracks.{least}
use Rattle.device_defs.specs.Contents.{by_plain}
use Rattle.device_defs.specs.Marks.{MarksDevice, MarksStore}
use Rattle.device_defs.specs.Sound.{has_sound_marks}
use Rattle.device_defs.specs.Store.{tracks_of}
use Rattle.deck_text.specs.declared.line.DeviceLine.{DeviceLine}
use Rattle.deck_text.specs.declared.line.FaultLine.{FaultLine}
use Rattle.deck_text.specs.declared.line.PlannedProgram.{PlannedProgram}
use Rattle.deck_text.specs.DeckLines.{DeckLines}
use Rattle.plain_defs.specs.declared.journal.Item.{Item}
use Rattle.device_outside.specs.Pool.{Frame}
use Rattle.device_defs.specs.declared.answers.Did.{Did}
use Rattle.device_defs.specs.declared.answers.Did.TheVariants as dids
use Rattle.device_defs.specs.declared.answers.SecondEnd.{SecondEnd}
use Rattle.device_defs.specs.declared.answers.SecondEnd.TheVariants as seconds
use Rattle.device_defs.specs.declared.answers.StartFault.{StartFault}
use Rattle.device_defs.specs.declared.answers.Stepped.{Stepped}
use Rattle.device_defs.specs.declared.answers.Stepped.TheVariants as stepped
use Rattle.std.specs.List.{range_with_len}
use Rattle.device_defs.proofs.Stand.{read_zero, write_zero, new_data}
use Rattle.device_defs.proofs.Stand as dev
use Rattle.subsystem_defs.specs.declared.end.EventEnd.{EventEnd}
use Rattle.subsystem_defs.specs.declared.end.EventEnd.TheVariants as ends
use Rattle.subsystem_defs.specs.declared.end.OrderFault.{OrderFault}
use Rattle.subsystem_defs.specs.Beside.{Beside, LooseTold, beside}
use Rattle.subsystem_defs.specs.Calm.{is_calm, is_whole}
use Rattle.subsystem_defs.specs.Promised.{are_explained, miss_nothing}
use Rattle.subsystem_defs.specs.Subsystem.{Mounted, devices_of}
use Rattle.subsystem_defs.specs.Closing.{DeviceEnd, RunEnding, HandedOut, ending, handed_out}
use Rattle.subsystem_defs.specs.declared.event.Event.{Event}
use Rattle.subsystem_defs.specs.Decks.{DeckRun, run_asked}
use Rattle.subsystem_defs.specs.Lines.{Asked, Once, Logged, asked_by}

-- What an event shows

pub data Line : Type 0 where
  Started : ℕ → Line
  NotStarted : StartFault → Line
  Running : Line
  End : ℕ → ℕ → ℕ → List ℕ → Line  -- the word, the status, the residual count, the bytes sent
  Half : ℕ → Line
  Finished : ℕ → Line
  Unwritten : ℕ → Line
  Idle : Line
  Back : Did → Line
  Done : Line
  Pending : ℕ → Line
  Refused : OrderFault → Line

-- with its reads and writes
pub record Shown : Type 0 where
  pub line : Line
  pub reads : ℕ
  pub writes : ℕ

abbrev pub shown : Line → ℕ → ℕ → Shown
shown line reads writes = record { line = line; reads = reads; writes = writes }

abbrev pub end_line : CommandEnd → Line
end_line e = End e.index e.status.0 e.residual e.sent

abbrev pub step_line : Stepped → Line
step_line (stepped.Ended e) = end_line e
step_line (stepped.Half t) = Half t

abbrev pub second_line : SecondEnd → Line
second_line (seconds.Ended e) = end_line e
second_line (seconds.Finished t) = Finished t
second_line (seconds.Unwritten t) = Unwritten t

abbrev pub line_of : EventEnd → Line
line_of (ends.Started n) = Started n
line_of (ends.NotStarted f) = NotStarted f
line_of ends.Running = Running
line_of (ends.Stepped s) = step_line s
line_of (ends.Second s) = second_line s
line_of ends.Idle = Idle
line_of (ends.Back did) = Back did
line_of ends.Done = Done
line_of (ends.Pending n) = Pending n
line_of (ends.Refused f) = Refused f

abbrev pub shown_of : Logged → Shown
shown_of t = shown (line_of t.happened.end) t.happened.reads t.happened.writes

abbrev pub shows_of : DeckRun → List Shown
shows_of r = map shown_of r.events

-- Decks

abbrev pub device : ℕ → DeviceLine
device d = record { number = d; geometry = D3390; cylinders = 1 }

abbrev pub program : ℕ → ℕ → List Ccw → PlannedProgram
program path d ccws = record { path = path; device = d; program = ccws }

-- a program of path 1 on device 0
abbrev pub first : List Ccw → PlannedProgram
first ccws = program 1 0 ccws

-- devices, failing calls and programs
abbrev pub deck_with : ℕ → ℕ → List DeviceLine → List FaultLine → List PlannedProgram → DeckLines
deck_with frames slots devices faults programs = record {
  frames = frames;
  slots = slots;
  devices = devices;
  faults = faults;
  programs = programs;
  events = [];
}

-- one device, and programs of path 1
abbrev pub deck : ℕ → ℕ → List (List Ccw) → DeckLines
deck frames slots programs = deck_with frames slots (device 0 ∷ []) [] (map first programs)

-- devices 0 and 1
abbrev pub two : List (List Ccw) → DeckLines
two programs = deck_with 4 2 (device 0 ∷ device 1 ∷ []) [] (map first programs)

-- Events

abbrev pub line : EventLine → List Asked
line e = asked_by e ∷ []

-- the next program of path 1 on device 0
abbrev pub go : List Asked
go = line (lines.Start 1 0) ++ line (lines.Run 0)

abbrev pub settle : List Asked
settle = line (lines.Settle 0)

abbrev pub back : List Asked
back = line (lines.Back 0)

abbrev pub step : List Asked
step = line (lines.Step 0)

abbrev pub power : List Asked
power = line lines.Power

-- an end of the usual kind
abbrev pub fine : ℕ → ℕ → ℕ → Shown
fine word reads writes = shown (End word 0x0c 0 []) reads writes

abbrev pub gives : ℕ → List ℕ → ℕ → ℕ → Shown
gives word bytes reads writes = shown (End word 0x0c 0 bytes) reads writes

abbrev pub quiet : Line → Shown
quiet line = shown line 0 0

-- a program of three words, by the volume calls of its last two
abbrev pub three : ℕ → ℕ → Shown → List Shown
three n reads last = quiet (Started n) ∷ fine 0 0 0 ∷ fine 1 reads 0 ∷ last ∷ []

-- so many ends of the usual kind, from a word on, with so many writes each
unfoldable pub fines : ℕ → ℕ → ℕ → List Shown
fines word zero writes = []
fines word (suc n) writes = fine word 0 writes ∷ fines (word + 1) n writes

unfoldable pub copies : ℕ → List Shown
copies zero = []
copies (suc n) = copies n ++ shown (Back (dids.Copied n)) 1 1 ∷ []

-- every track is copied, and then there is nothing to do
abbrev pub copied : List Shown
copied = copies 15 ++ quiet (Back dids.Nothing) ∷ []

abbrev pub done : List Shown
done = quiet Done ∷ []

-- A deck, what is asked of it, what its run shows, and what is told at the end

pub record Sample : Type 0 where
  pub deck : DeckLines
  pub asked : List Asked
  pub shows : List Shown
  pub devices : List DeviceEnd
  pub frames : List Frame

pub record Report : Type 0 where
  pub shows : List Shown
  pub ending : RunEnding

abbrev pub report_of : DeckRun → Report
report_of r = record { shows = shows_of r; ending = ending r.behind }

abbrev pub report_by : Sample → Report
report_by x = report_of (run_asked x.deck x.asked)

abbrev pub wanted : Sample → Report
wanted x = record { shows = x.shows; ending = record { devices = x.devices; frames = x.frames } }

abbrev pub Show : List Sample → Type 0
Show samples = map report_by samples ≡ map wanted samples

-- so many programs, one after another, which write and read the first track
unfoldable pub goes : ℕ → List (List Ccw)
goes zero = []
goes (suc n) = write_zero 0xc1 0 ∷ read_zero 0xc0 0 ∷ goes n

abbrev pub go_on : List (List Ccw) → List Asked
go_on [] = []
go_on (p ∷ ps) = go ++ go_on ps

-- on a level pair
abbrev pub settled_goes : ℕ → DeckRun
settled_goes n = run_asked (two (goes n)) (line (lines.Pair 0 1) ++ settle ++ go_on (goes n))

-- how many events there were, and the ending
pub record Counts : Type 0 where
  pub events : ℕ
  pub ending : RunEnding

abbrev pub ending_of : DeckRun → Counts
ending_of r = record { events = length r.events; ending = ending r.behind }

-- Beside the events' ends

abbrev pub all_loose : List Beside → List LooseTold
all_loose [] = []
all_loose (b ∷ bs) = b.loose ++ all_loose bs

abbrev pub all_items : List Beside → List Item
all_items [] = []
all_items (b ∷ bs) = b.items ++ all_items bs

-- what was told of data of cache fast write
abbrev pub loose_of : List Logged → List LooseTold
loose_of [] = []
loose_of (x ∷ xs) = all_loose (beside x.happened) ++ loose_of xs

-- what came to the journals
abbrev pub items_of : List Logged → List Item
items_of [] = []
items_of (x ∷ xs) = all_items (beside x.happened) ++ items_of xs

abbrev pub loose_by : Sample → List LooseTold
loose_by x = loose_of (run_asked x.deck x.asked).events

abbrev pub items_by : Sample → List dev.Shown
items_by x = map dev.shown_item (items_of (run_asked x.deck x.asked).events)

-- the commands that ended: their notes, and of each sense the first two bytes and the eighth

abbrev pub ends_in : EventEnd → List CommandEnd
ends_in (ends.Stepped (stepped.Ended e)) = e ∷ []
ends_in (ends.Second (seconds.Ended e)) = e ∷ []
ends_in _ = []

abbrev pub ends_of : List Logged → List CommandEnd
ends_of [] = []
ends_of (x ∷ xs) = ends_in x.happened.end ++ ends_of xs

abbrev pub notes_of : List CommandEnd → List Note
notes_of [] = []
notes_of (e ∷ es) = e.note ∷ notes_of es

abbrev pub sense_in : Option Sense → List (List ℕ)
sense_in (Some sense) = (slice_index_or sense.bytes 0 0 ∷ slice_index_or sense.bytes 1 0 ∷ slice_index_or sense.bytes 7 0 ∷ []) ∷ []
sense_in None = []

abbrev pub senses_of : List CommandEnd → List (List ℕ)
senses_of [] = []
senses_of (e ∷ es) = sense_in e.sense ++ senses_of es

abbrev pub notes_by : Sample → List Note
notes_by x = notes_of (ends_of (run_asked x.deck x.asked).events)

abbrev pub senses_by : Sample → List (List ℕ)
senses_by x = senses_of (ends_of (run_asked x.deck x.asked).events)

-- What is handed out: device, side, calls, and of each track whether its bytes are known

pub record Volume : Type 0 where
  pub device : ℕ
  pub side : Side
  pub reads : ℕ
  pub writes : ℕ
  pub known : List Bool

abbrev pub is_known : Option (List ℕ) → Bool
is_known (Some bytes) = true
is_known None = false

abbrev pub volume_of : HandedOut → Volume
volume_of h = record { device = h.device; side = h.side; reads = h.calls.reads; writes = h.calls.writes; known = map is_known h.tracks }

abbrev pub volume : ℕ → Side → ℕ → ℕ → List Bool → Volume
volume d side reads writes known = record { device = d; side = side; reads = reads; writes = writes; known = known }

abbrev pub volumes_by : Sample → List Volume
volumes_by x = map volume_of (handed_out (run_asked x.deck x.asked).behind)

-- Whether marks are sound behind every event, checks are explained, and the run is calm and misses nothing

abbrev pub has_sound_tracks : MarksStore → Bool
has_sound_tracks s = is_some s.lent || not (is_some (least (tracks_of s) (λ t. not (has_sound_marks by_plain s t))))

abbrev pub have_sound_tracks : List MarksDevice → Bool
have_sound_tracks [] = true
have_sound_tracks (d ∷ ds) = has_sound_tracks d.store && have_sound_tracks ds

abbrev pub are_sound : List Logged → Bool
are_sound [] = true
are_sound (x ∷ xs) = have_sound_tracks (devices_of x.happened.behind) && are_sound xs

pub record Judged : Type 0 where
  pub sound : Bool
  pub explained : Bool
  pub calm : Bool
  pub missed : Bool

abbrev pub judged_run : DeckRun → Judged
judged_run r = record {
  sound = are_sound r.events;
  explained = are_explained r.events;
  calm = is_calm r.events;
  missed = not (miss_nothing r.events);
}

abbrev pub judged : Sample → Judged
judged x = judged_run (run_asked x.deck x.asked)

-- sound and explained
abbrev pub right : Bool → Bool → Judged
right calm missed = record { sound = true; explained = true; calm = calm; missed = missed }

-- whether everything is repaired behind a run
abbrev pub is_whole_behind : DeckLines → List Asked → Bool
is_whole_behind deck asked = is_whole (run_asked deck asked).behind

-- The same events, had a call failed before them

abbrev pub events_of : Sample → List Logged
events_of x = (run_asked x.deck x.asked).events

abbrev pub with_a_fault : Mounted → Mounted
with_a_fault m = record m { device = record m.device { store = record m.device.store { counts = record m.device.store.counts { failed = 1 } } } }

abbrev pub without_cause : Logged → Logged
without_cause x = record x {
  happened = record x.happened { before = record x.happened.before { mounted = map with_a_fault x.happened.before.mounted } };
}

-- A loss anywhere in a write to a pair, and what is read behind it

abbrev pub put_before : {X : Type 0} → ℕ → X → List X → List X
put_before zero x xs = x ∷ xs
put_before (suc n) x [] = x ∷ []
put_before (suc n) x (y ∷ ys) = y ∷ put_before n x ys

abbrev pub write_steps : List Asked
write_steps = line (lines.Start 1 0) ++ step ++ step ++ step ++ step

abbrev pub with_loss : Event → ℕ → DeckRun
with_loss loss n =
    run_asked (two (write_zero 0xc1 0 ∷ read_zero 0xc4 0 ∷ []))
    (line (lines.Pair 0 1) ++ settle ++ put_before n (Once loss) write_steps ++ go)

abbrev pub sent_by : Line → List ℕ
sent_by (End word status residual sent) = sent
sent_by _ = []

abbrev pub last_sent : List Shown → List ℕ
last_sent [] = []
last_sent (x ∷ []) = sent_by x.line
last_sent (x ∷ y ∷ xs) = last_sent (y ∷ xs)

pub record Behind : Type 0 where
  pub read : List ℕ
  pub judged : Judged

abbrev pub behind_loss : Event → ℕ → Behind
behind_loss loss n = let r = with_loss loss n in record { read = last_sent (shows_of r); judged = judged_run r }

-- before each event, and behind the last one
abbrev pub behind_each : Event → List Behind
behind_each loss = map (behind_loss loss) (range_with_len 0 6)

-- the new data are read, and nothing is missed
abbrev pub all_well : Behind
all_well = record { read = new_data; judged = right true false }
