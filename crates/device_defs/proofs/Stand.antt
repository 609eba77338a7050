-- A device of a run that is tried by hand: one event after another, and what each showed.
use Rattle.std.proofs.Common.{◌+◌, ◌==◌, if◌then◌else◌, Bool, ◌≡◌, map, ℕ, zero, suc, true, List, [], ◌∷◌, ◌++◌, Option, Some, None}
use Rattle.std.specs.Prelude.{is_some, replicate, count_by}
use Rattle.ckd_types.specs.declared.channel.Ccw.{Ccw}
use Rattle.ckd_types.specs.declared.channel.CommandEnd.{CommandEnd}
use Rattle.ckd_types.specs.declared.geometry.Geometry.TheVariants.{D3390}
use Rattle.ckd_types.specs.declared.paths.Side.{Side}
use Rattle.ckd_types.specs.declared.record.Record.{Record}
use Rattle.loss_model.specs.declared.Loss.TheVariants as losses
use Rattle.plain_defs.specs.declared.journal.Acted.{Acted}
use Rattle.plain_defs.specs.declared.journal.How.{How}
use Rattle.plain_defs.specs.declared.journal.Item.{Item}
use Rattle.plain_defs.specs.declared.journal.Item.TheVariants as items
use Rattle.plain_defs.specs.Journal.{Plans}
use Rattle.device_outside.specs.Pool.{Frame, Pool, new_pool, cache_failed, store_failed, cache_repaired, store_repaired, power_lost, all_waiting}
use Rattle.device_outside.specs.Told.{Calls, Told, RunOutcome, hold}
use Rattle.device_defs.specs.declared.answers.Did.{Did}
use Rattle.device_defs.specs.declared.answers.Did.TheVariants.{Copied}
use Rattle.device_defs.specs.declared.answers.SecondEnd.{SecondEnd}
use Rattle.device_defs.specs.declared.answers.SecondEnd.TheVariants as seconds
use Rattle.device_defs.specs.declared.answers.StartFault.{StartFault}
use Rattle.device_defs.specs.declared.answers.Stepped.{Stepped}
use Rattle.device_defs.specs.declared.answers.Stepped.TheVariants as steps
use Rattle.device_defs.specs.Command.{command}
use Rattle.device_defs.specs.Contents.{by_plain}
use Rattle.device_defs.specs.Cutting.{reset, power}
use Rattle.device_defs.specs.Events.{second, background, lose}
use Rattle.device_defs.specs.Marks.{MarksStore, MarksDevice, new_device}
use Rattle.device_defs.specs.Orders.{join, split, replace, hold_side as hold_b, resume, restore, lend}
use Rattle.device_defs.specs.Peek.{Peeked, Track, peek}
use Rattle.device_defs.specs.Store.{HalfWrite, stale_at, frame_at, patch_at, is_lost, is_loose}
use Rattle.device_defs.specs.Start.{start_fault, start, next_ordinal}

-- what is marked of a device, and of a track
pub data Mark : Type 0 where
  UpA : Mark
  UpB : Mark
  Held : Mark
  HalfOpen : ℕ → Mark
  Queued : ℕ → Mark
  Waiting : ℕ → Mark  -- so many tracks wait, as the pool was told
  Clean : Mark  -- its frame
  Modified : Mark
  Patched : Mark
  LostTrack : Mark
  LooseTrack : Mark
  StaleA : Mark
  StaleB : Mark

-- reads and writes are the last two numbers of each
pub data Line : Type 0 where
  Started : ℕ → Line
  Refused : StartFault → Line
  End : ℕ → ℕ → List ℕ → ℕ → ℕ → Line  -- the word, the status, the bytes sent
  Half : ℕ → ℕ → ℕ → Line
  Finished : ℕ → ℕ → ℕ → Line
  Unwritten : ℕ → ℕ → ℕ → Line
  Back : Did → ℕ → ℕ → Line
  Seen : List ℕ → ℕ → ℕ → Line  -- the data of record 0, at a look past the channel
  Unseen : Peeked → ℕ → ℕ → Line
  Repaired : Line
  Pending : ℕ → Line
  Marked : List Mark → List (ℕ × List Mark) → Line  -- of the device, and of each track that has any
  Lacking : Line

pub record Stand : Type 0 where
  pub device : MarksDevice
  pub told : Told
  pub lines : List Line

abbrev pub new_calls : List ℕ → List ℕ → Calls
new_calls reads writes = record { reads = 0; writes = 0; plan = record { reads = reads; writes = writes } }

-- a 3390 of one cylinder, with the programs of each path; the failing reads and writes of its volume
abbrev pub stand_with : ℕ → ℕ → List ℕ → List ℕ → Plans → Stand
stand_with frames slots reads writes plans = record {
  device = new_device 0 D3390 1 plans;
  told = record { pool = new_pool frames slots; a = new_calls reads writes; b = new_calls [] []; reads = 0; writes = 0 };
  lines = [];
}

-- with programs of path 1 alone
abbrev pub stand : ℕ → ℕ → List ℕ → List ℕ → List (List Ccw) → Stand
stand frames slots reads writes programs = stand_with frames slots reads writes (programs ∷ [] ∷ [] ∷ [] ∷ [])

abbrev pub shows : Stand → Line → Stand
shows s line = record s { lines = s.lines ++ line ∷ [] }

abbrev pub from_zero : Told → Told
from_zero w = record w { reads = 0; writes = 0 }

abbrev pub end_line : CommandEnd → ℕ → ℕ → Line
end_line e reads writes = End e.index e.status.0 e.sent reads writes

abbrev pub step_line : Option Stepped → Told → Line
step_line (Some (steps.Ended e)) w = end_line e w.reads w.writes
step_line (Some (steps.Half t)) w = Half t w.reads w.writes
step_line None w = Lacking

abbrev pub second_line : SecondEnd → Told → Line
second_line (seconds.Ended e) w = end_line e w.reads w.writes
second_line (seconds.Finished t) w = Finished t w.reads w.writes
second_line (seconds.Unwritten t) w = Unwritten t w.reads w.writes

abbrev pub back_line : Option Did → Told → Line
back_line (Some d) w = Back d w.reads w.writes
back_line None w = Lacking

abbrev pub after_step : Stand → RunOutcome MarksDevice (Option Stepped) → Stand
after_step s o = record { device = o.state; told = o.told; lines = s.lines ++ step_line o.answer o.told ∷ [] }

abbrev pub after_second : Stand → RunOutcome MarksDevice SecondEnd → Stand
after_second s o = record { device = o.state; told = o.told; lines = s.lines ++ second_line o.answer o.told ∷ [] }

abbrev pub after_back : Stand → RunOutcome MarksDevice (Option Did) → Stand
after_back s o = record { device = o.state; told = o.told; lines = s.lines ++ back_line o.answer o.told ∷ [] }

abbrev pub body_of : List Record → List ℕ
body_of [] = []
body_of (r ∷ records) = r.body

abbrev pub look_line : Option Peeked → Told → Line
look_line (Some (Track i)) w = Seen (body_of i.track.records) w.reads w.writes
look_line (Some p) w = Unseen p w.reads w.writes
look_line None w = Lacking

abbrev pub after_look : Stand → RunOutcome MarksDevice (Option Peeked) → Stand
after_look s o = record { device = o.state; told = o.told; lines = s.lines ++ look_line o.answer o.told ∷ [] }

-- an event without a line
abbrev pub after_loss : Stand → RunOutcome MarksDevice (Unit {0}) → Stand
after_loss s o = record s { device = o.state; told = o.told }

abbrev pub starts_by : Stand → ℕ → Option StartFault → Stand
starts_by s path (Some f) = shows s (Refused f)
starts_by s path None = record (shows s (Started (next_ordinal s.device path))) { device = start s.device path }

pub data Event : Type 0 where
  Start : ℕ → Event
  Step : Event
  Second : Event
  Work : Event
  Reset : ℕ → Event
  FailCache : Event
  FailStore : Event
  FailSide : Side → Event
  RepairCache : Event
  RepairStore : Event
  Power : Event
  Join : List ℕ → List ℕ → Event  -- a volume with these failing reads and writes
  Replace : Side → Event
  Suspend : Event
  Resume : Event
  Split : Event  -- side B leaves
  Lend : ℕ → Event
  Restore : Event
  Look : ℕ → Event
  Marks : Event  -- they are looked at
  Note : List ℕ → Event  -- the pool has these notes for the device

abbrev pub with_pool : Stand → Pool → Told
with_pool s p = record (from_zero s.told) { pool = p }

abbrev pub mark_if : Bool → Mark → List Mark
mark_if b mark = if b then mark ∷ [] else []

abbrev pub frame_marks : Option Bool → List Mark
frame_marks None = []
frame_marks (Some modified) = if modified then Modified ∷ [] else Clean ∷ []

abbrev pub marks_at : MarksStore → ℕ → List Mark
marks_at s t =
    frame_marks (frame_at s t) ++ mark_if (is_some (patch_at s t)) Patched ++ mark_if (is_lost s t) LostTrack
    ++ mark_if (is_loose s t) LooseTrack ++ mark_if (stale_at s.a t) StaleA ++ mark_if (stale_at s.b t) StaleB

abbrev pub with_marks : ℕ → List Mark → List (ℕ × List Mark) → List (ℕ × List Mark)
with_marks t [] others = others
with_marks t (m ∷ ms) others = (t, m ∷ ms) ∷ others

-- of the n tracks from t on
unfoldable pub track_marks : ℕ → ℕ → MarksStore → List (ℕ × List Mark)
track_marks zero t s = []
track_marks (suc n) t s = with_marks t (marks_at s t) (track_marks n (t + 1) s)

abbrev pub half_marks : Option (HalfWrite (Unit {0})) → List Mark
half_marks None = []
half_marks (Some h) = HalfOpen h.track ∷ []

abbrev pub device_marks : MarksStore → Pool → List Mark
device_marks s p =
    mark_if s.a.up UpA ++ mark_if s.b.up UpB ++ mark_if s.held Held ++ half_marks s.half ++ map Queued s.queue
    ++ Waiting (all_waiting p) ∷ []

abbrev pub marks_line : MarksStore → Pool → Line
marks_line s p = Marked (device_marks s p) (track_marks 15 0 s)

abbrev pub repair_line : Pool → Line
repair_line p = if all_waiting p == 0 then Repaired else Pending (all_waiting p)

abbrev pub repaired : Stand → Stand
repaired s = shows s (repair_line s.told.pool)

abbrev pub happens : Stand → Event → Stand
happens s (Start path) = starts_by s path (start_fault s.device path)
happens s Step = after_step s (hold true (command by_plain s.device) (from_zero s.told))
happens s Second = after_second s (hold true (second by_plain s.device) (from_zero s.told))
happens s Work = after_back s (hold true (background by_plain s.device) (from_zero s.told))
happens s (Reset path) = after_loss s (hold true (reset by_plain s.device path) (from_zero s.told))
happens s FailCache = after_loss s (hold true (lose by_plain s.device losses.Cache) (with_pool s (cache_failed s.told.pool)))
happens s FailStore = after_loss s (hold true (lose by_plain s.device losses.Store) (with_pool s (store_failed s.told.pool)))
happens s (FailSide side) = after_loss s (hold true (lose by_plain s.device (losses.Side side)) (from_zero s.told))
happens s RepairCache = record (repaired s) { told = record s.told { pool = cache_repaired s.told.pool } }
happens s RepairStore = record (repaired s) { told = record s.told { pool = store_repaired s.told.pool } }
happens s Power = after_loss s (hold true (power by_plain s.device) (with_pool s (power_lost s.told.pool)))
happens s (Join reads writes) = record s { device = join s.device; told = record s.told { b = new_calls reads writes } }
happens s (Replace side) = record s { device = replace s.device side }
happens s Suspend = record s { device = hold_b s.device }
happens s Resume = record s { device = resume s.device }
happens s Split = record s { device = split s.device }
happens s (Lend to) = after_loss s (hold true (lend by_plain s.device to) (from_zero s.told))
happens s Restore = record s { device = restore s.device; told = record s.told { a = new_calls [] [] } }
happens s (Look t) = after_look s (hold true (peek by_plain s.device t) (from_zero s.told))
happens s Marks = shows s (marks_line s.device.store s.told.pool)
happens s (Note tracks) = record s { told = record s.told { pool = record s.told.pool { notes = tracks ∷ replicate 15 [] } } }

unfoldable pub all_happen : Stand → List Event → Stand
all_happen s [] = s
all_happen s (e ∷ es) = all_happen (happens s e) es

-- a program's start and so many of its commands
unfoldable pub steps_of : ℕ → List Event
steps_of zero = []
steps_of (suc n) = Step ∷ steps_of n

abbrev pub go_on : ℕ → ℕ → List Event
go_on path n = Start path ∷ steps_of n

abbrev pub go : ℕ → List Event
go n = go_on 1 n

unfoldable pub works : ℕ → List Event
works zero = []
works (suc n) = Work ∷ works n

-- The programs of the rows

-- define extent with mask and attributes, over the whole device
abbrev pub extent : ℕ → ℕ → Ccw
extent mask attributes = record {
  command = 0x63;
  flags = 0x40;
  count = 16;
  given = mask ∷ attributes ∷ 0x10 ∷ 0 ∷ 0 ∷ 0 ∷ 0 ∷ 0 ∷ 0 ∷ 0 ∷ 0 ∷ 0 ∷ 0 ∷ 0 ∷ 0 ∷ 0x0e ∷ [];
}

-- with this number of cache fast write data
abbrev pub numbered_extent : ℕ → ℕ → ℕ → Ccw
numbered_extent mask attributes number = record {
  command = 0x63;
  flags = 0x40;
  count = 16;
  given = mask ∷ attributes ∷ 0x10 ∷ 0 ∷ 0 ∷ number ∷ 0 ∷ 0 ∷ 0 ∷ 0 ∷ 0 ∷ 0 ∷ 0 ∷ 0 ∷ 0 ∷ 0x0e ∷ [];
}

-- locate record, for so many commands of an operation on track t behind record r
abbrev pub locate : ℕ → ℕ → ℕ → ℕ → Ccw
locate operation n t r = record {
  command = 0x47;
  flags = 0x40;
  count = 16;
  given = operation ∷ 0 ∷ 0 ∷ n ∷ 0 ∷ 0 ∷ 0 ∷ t ∷ 0 ∷ 0 ∷ 0 ∷ t ∷ r ∷ 0 ∷ 0 ∷ 0 ∷ [];
}

-- record 0 of track t is read, with these attributes
abbrev pub read_zero : ℕ → ℕ → List Ccw
read_zero attributes t = extent 0x40 attributes ∷ locate 6 1 t 0 ∷ record { command = 0x06; flags = 0; count = 8; given = [] } ∷ []

abbrev pub new_data : List ℕ
new_data = 0x11 ∷ 0x22 ∷ 0x33 ∷ 0x44 ∷ 0x55 ∷ 0x66 ∷ 0x77 ∷ 0x88 ∷ []

abbrev pub old_data : List ℕ
old_data = replicate 8 0

-- or written, with these flags of the last word and these bytes
abbrev pub write_of : ℕ → ℕ → ℕ → List ℕ → List Ccw
write_of attributes flags t bytes =
    extent 0x80 attributes ∷ locate 1 1 t 0 ∷ record { command = 0x85; flags = flags; count = 8; given = bytes } ∷ []

abbrev pub write_zero : ℕ → ℕ → List Ccw
write_zero attributes t = write_of attributes 0 t new_data

-- the usual ends of the three words of these programs
abbrev pub quiet : ℕ → ℕ → Line
quiet word reads = End word 0x0c [] reads 0

-- record 1 of eight zeros behind record 0 of track t, with these attributes
abbrev pub format_one : ℕ → ℕ → List Ccw
format_one attributes t =
    extent 0xc0 attributes ∷ locate 3 1 t 0
    ∷ record { command = 0x1d; flags = 0; count = 16; given = 0 ∷ 0 ∷ 0 ∷ t ∷ 1 ∷ 0 ∷ 0 ∷ 8 ∷ [] } ∷ []

-- the first record behind the home address of track 0, which is found on track 1
abbrev pub write_onward : ℕ → List Ccw
write_onward attributes =
    extent 0x80 attributes ∷ locate 0x41 1 0 0 ∷ record { command = 0x85; flags = 0; count = 8; given = new_data } ∷ []

-- one word alone
abbrev pub alone : ℕ → ℕ → List ℕ → List Ccw
alone command count given = record { command = command; flags = 0; count = count; given = given } ∷ []

-- some events, and what they show
pub record Run : Type 0 where
  pub on : Stand
  pub events : List Event
  pub shows : List Line

abbrev pub ran : Run → List Line
ran r = (all_happen r.on r.events).lines

abbrev pub shows_of : Run → List Line
shows_of r = r.shows

abbrev pub Show : List Run → Type 0
Show runs = map ran runs ≡ map shows_of runs

abbrev pub waiting_of : Stand → List Event → ℕ
waiting_of s events = all_waiting (all_happen s events).told.pool

abbrev pub acts_in : Item → List Acted
acts_in (items.Program e) = e.acts
acts_in (items.Act act) = record { after = 0; act = act } ∷ []
acts_in _ = []

abbrev pub all_acts : List Item → List Acted
all_acts [] = []
all_acts (x ∷ xs) = acts_in x ++ all_acts xs

abbrev pub acts_of : Stand → List Event → List Acted
acts_of s events = all_acts (all_happen s events).device.history.items

-- what was shown before doesn't count
abbrev pub silent : Stand → Stand
silent s = record s { lines = [] }

-- the same device as a level pair, where these writes of side A and of side B fail
abbrev pub pair : List ℕ → List ℕ → List (List Ccw) → Stand
pair a b programs = silent (all_happen (stand 4 2 [] a programs) (Join [] b ∷ works 15))

-- or these reads of side A
abbrev pub pair_with : List ℕ → List ℕ → List ℕ → List (List Ccw) → Stand
pair_with reads a b programs = silent (all_happen (stand 4 2 reads a programs) (Join [] b ∷ works 15))

abbrev pub count_of : List Bool → ℕ
count_of marks = count_by (λ (x : Bool). x) marks

-- lost tracks, the pool's frames, and how many tracks it was told to wait
pub record Left : Type 0 where
  pub lost : ℕ
  pub frames : List Frame
  pub waiting : ℕ

abbrev pub left_by : Stand → Left
left_by s = record { lost = count_of s.device.store.lost; frames = s.told.pool.frames; waiting = all_waiting s.told.pool }

-- what a journal holds, without ends and acts
pub data Shown : Type 0 where
  Program : ℕ → How → Shown
  ResetOf : ℕ → Shown
  Other : Shown

abbrev pub shown_item : Item → Shown
shown_item (items.Program e) = Program e.path e.how
shown_item (items.Reset path) = ResetOf path
shown_item _ = Other

abbrev pub items_of : Stand → List Event → List Shown
items_of s events = map shown_item (all_happen s events).device.history.items

abbrev pub group_name : List ℕ
group_name = 1 ∷ 2 ∷ 3 ∷ 4 ∷ 5 ∷ 6 ∷ 7 ∷ 8 ∷ 9 ∷ 10 ∷ 11 ∷ []

-- paths 1 and 2 join a group, and path 1 reserves and asks for the group; path 3 takes the device, and frees it
abbrev pub group_plans : Plans
group_plans =
    (alone 0xaf 12 (0x80 ∷ group_name) ∷ alone 0xb4 32 [] ∷ alone 0x34 12 [] ∷ [])
    ∷ (alone 0xaf 12 (0x80 ∷ group_name) ∷ alone 0x03 1 [] ∷ alone 0x03 1 [] ∷ [])
    ∷ (alone 0x14 32 [] ∷ alone 0x94 32 [] ∷ []) ∷ (alone 0x03 1 [] ∷ []) ∷ []

-- record 1 of track 1, past the store
abbrev pub write_one : List Ccw
write_one = extent 0x80 0xc1 ∷ locate 1 1 1 1 ∷ record { command = 0x85; flags = 0; count = 8; given = new_data } ∷ []

unfoldable pub copies : ℕ → List Line
copies zero = []
copies (suc n) = copies n ++ Back (Copied n) 1 1 ∷ []

-- n records of 4,096 zeros behind the first r - 1 records of track 0
unfoldable pub formats_from : ℕ → ℕ → List Ccw
formats_from r zero = []
formats_from r (suc zero) =
    record { command = 0x1d; flags = 0; count = 4104; given = 0 ∷ 0 ∷ 0 ∷ 0 ∷ r ∷ 0 ∷ 0x10 ∷ 0 ∷ [] } ∷ []
formats_from r (suc (suc n)) =
    record { command = 0x1d; flags = 0x40; count = 4104; given = 0 ∷ 0 ∷ 0 ∷ 0 ∷ r ∷ 0 ∷ 0x10 ∷ 0 ∷ [] } ∷ formats_from (r + 1) (suc n)

abbrev pub format_twelve : List Ccw
format_twelve = extent 0xc0 0xc0 ∷ locate 3 12 0 0 ∷ formats_from 1 12

-- record 1 of track 0 is read with a count
abbrev pub read_one : ℕ → List Ccw
read_one count = extent 0x40 0xc0 ∷ locate 6 1 0 1 ∷ record { command = 0x86; flags = 0; count = count; given = [] } ∷ []

-- commands from a word on that end well, send nothing, and make this write each
unfoldable pub quiet_ends : ℕ → ℕ → ℕ → List Line
quiet_ends word zero writes = []
quiet_ends word (suc n) writes = End word 0x0c [] 0 writes ∷ quiet_ends (word + 1) n writes
