-- How many reads and writes of volumes each event of a run makes: those of the table of events, of a step exactly those of its looks and its write,
-- and of work in the background exactly those of what there is to do.
use Rattle.std.specs.Prelude.{◌≡◌, ℕ, zero, suc, ◌+◌, ◌&&◌, ◌||◌, not, Bool, true, false, List, [], ◌∷◌, Option, Some, None, is_some, if◌then◌else◌}
use Rattle.ckd_types.specs.declared.paths.Side.{Side}
use Rattle.ckd_types.specs.Parameters.{is_bypass}
use Rattle.ckd_chain.specs.declared.progress.Progress.{Progress}
use Rattle.ckd_chain.specs.declared.progress.Progress.TheVariants as progresses
use Rattle.ckd_chain.specs.State.{ChainState}
use Rattle.ckd_chain.specs.Steps.{need_of, stepped}
use Rattle.plain_defs.specs.History.{OpenEntry}
use Rattle.device_outside.specs.Pool.{Pool, WantFrame, is_listed, answer}
use Rattle.device_outside.specs.Told.{Told, RunOutcome, calls_of, read_fails, write_fails, hold}
use Rattle.device_defs.specs.declared.answers.Choice.{Choice}
use Rattle.device_defs.specs.declared.answers.Stepped.{Stepped}
use Rattle.device_defs.specs.declared.answers.Stepped.TheVariants as steps
use Rattle.device_defs.specs.declared.usage.Usage.{Usage}
use Rattle.device_defs.specs.Background.{other, copies_to, to_copy, to_recover, to_destage}
use Rattle.device_defs.specs.Choosing.{choose}
use Rattle.device_defs.specs.Command.{has_loss}
use Rattle.device_defs.specs.Contents.{by_plain}
use Rattle.device_defs.specs.Device.{event_begun}
use Rattle.device_defs.specs.Image.{Got, Imaged, Has, NoBytes, BadTrack, level_bytes, image}
use Rattle.device_defs.specs.Marks.{MarksStore, MarksDevice}
use Rattle.device_defs.specs.Outcomes.{usage_of}
use Rattle.device_defs.specs.Owed.{hear}
use Rattle.device_defs.specs.Store.{tracks_of, level_at, takes_b, frame_at, is_lost}
use Rattle.subsystem_defs.specs.declared.end.EventEnd.{EventEnd}
use Rattle.subsystem_defs.specs.declared.end.EventEnd.TheVariants as ends
use Rattle.subsystem_defs.specs.declared.event.Event.TheVariants as events
use Rattle.subsystem_defs.specs.Happening.{EventHappened, told_to}
use Rattle.subsystem_defs.specs.Lines.{Logged}
use Rattle.subsystem_defs.specs.Subsystem.{Mounted, Subsystem, mounted_in}
use Rattle.device_laws.specs.Moved.{choice_writes, sides_writing, second_writing}
use Rattle.subsystem_laws.specs.Transfers.{MovesByTable}
use Rattle.promise_laws.specs.Origins.{event_of}

-- so many reads and so many writes of volumes
pub record Transfers : Type 0 where
  pub reads : ℕ
  pub writes : ℕ

abbrev pub no_transfers : Transfers
no_transfers = record { reads = 0; writes = 0 }

abbrev pub writes_alone : ℕ → Transfers
writes_alone n = record { reads = 0; writes = n }

abbrev pub with_reads : ℕ → Transfers → Transfers
with_reads n x = record { reads = n + x.reads; writes = x.writes }

-- A look at a track, by the store, the pool and the calls that fail as they are then

-- a miss makes one read of side A where the track is level there, and where that fails one of side B if it is level there; else one of side B
abbrev pub missed_reads : MarksStore → ℕ → Told → ℕ
missed_reads s t w =
    if level_at s.a t then (if read_fails w.a && level_at s.b t then 2 else 1)
    else if level_at s.b t then 1 else 0

-- it is a hit where its frame is modified, or is clean and listed by the pool while the mode isn't bypass
abbrev pub is_hit_by : MarksStore → Usage → ℕ → Pool → Option Bool → Bool
is_hit_by s u t pool None = false
is_hit_by s u t pool (Some modified) = modified || (not (is_bypass u.mode) && is_listed pool.frames s.device t)

-- a hit makes none
abbrev pub look_reads : MarksStore → Usage → ℕ → Told → ℕ
look_reads s u t w = if is_hit_by s u t w.pool (frame_at s t) then 0 else missed_reads s t w

-- A write: none where it is chosen to be fast or provisional; one through makes one to each side that takes it, or one to side A alone where it is
-- half done then

-- a command writes this track, with the store, the pool and the calls as they are then
pub record WritePoint : Type 0 where
  pub usage : Usage
  pub track : ℕ
  pub store : MarksStore
  pub told : Told

abbrev pub chosen_at : WritePoint → Choice
chosen_at p = (hold true (choose by_plain p.store p.usage p.track) p.told).answer

abbrev pub write_writes : Bool → Option WritePoint → ℕ
write_writes half (Some p) = choice_writes (sides_writing p.store) (chosen_at p) half
write_writes half None = 0

-- From track to track

-- the reads of a command's looks, and its write
pub record CommandWalk : Type 0 where
  pub reads : ℕ
  pub write : Option WritePoint

abbrev pub no_walk : CommandWalk
no_walk = record { reads = 0; write = None }

abbrev pub write_alone : WritePoint → CommandWalk
write_alone p = record { reads = 0; write = Some p }

abbrev pub with_look : ℕ → CommandWalk → CommandWalk
with_look n x = record { reads = n + x.reads; write = x.write }

-- of a chain that asks for this track, with the store, the pool and the calls as they are then
abbrev pub NextLook : Type 0
NextLook = ChainState → ℕ → MarksStore → Told → CommandWalk

-- behind a look that saw an image the chain asks for the next track, for a write of this one, or for nothing more
abbrev pub went_walk : NextLook → Usage → ℕ → MarksStore → Told → ChainState → Progress → CommandWalk
went_walk next u t s w chain (progresses.Need q) = next chain q s w
went_walk next u t s w chain (progresses.Write q e) = write_alone (record { usage = u; track = t; store = s; told = w })
went_walk next u t s w chain (progresses.Ended e) = no_walk
went_walk next u t s w chain (progresses.Local act) = no_walk

-- and one that saw none is the last
abbrev pub seen_walk : NextLook → ChainState → ℕ → MarksStore → Told → Option Imaged → CommandWalk
seen_walk next chain t s w (Some (Has i)) =
    went_walk next (usage_of chain) t s w (stepped chain (Some i)).chain (stepped chain (Some i)).progress
seen_walk next chain t s w (Some (NoBytes fault)) = no_walk
seen_walk next chain t s w (Some (BadTrack side)) = no_walk
seen_walk next chain t s w None = no_walk

-- what a look left
abbrev pub behind_look : NextLook → ChainState → ℕ → RunOutcome MarksStore (Option Imaged) → CommandWalk
behind_look next chain t o = seen_walk next chain t o.state o.told o.answer

-- a lost track isn't read. At most as many tracks as there are
unfoldable pub walk_tracks : ℕ → ChainState → ℕ → MarksStore → Told → CommandWalk
walk_tracks zero chain t s w = no_walk
walk_tracks (suc n) chain t s w =
    if is_lost s t then no_walk
    else with_look (look_reads s (usage_of chain) t w)
    (behind_look (walk_tracks n) chain t (hold true (image by_plain s (usage_of chain) t) w))

-- A command, once the notices of its event are taken

-- one that looks at no track makes none
abbrev pub looks_walk : ChainState → RunOutcome MarksStore (Unit {0}) → Option ℕ → CommandWalk
looks_walk chain o (Some t) = walk_tracks (tracks_of o.state) chain t o.state o.told
looks_walk chain o None = no_walk

-- nor does one in whose program data of cache fast write were lost
abbrev pub command_walk : MarksDevice → Told → Option OpenEntry → Option ChainState → CommandWalk
command_walk d w (Some entry) (Some chain) =
    if has_loss entry.acts then no_walk
    else looks_walk chain (hold true (hear by_plain 960 (event_begun d).store) w) (need_of chain)
command_walk d w (Some entry) None = no_walk
command_walk d w None chain = no_walk

abbrev pub command_transfers : MarksDevice → Told → Bool → Option OpenEntry → Option ChainState → Transfers
command_transfers d w half entry chain =
    let x = command_walk d w entry chain in record { reads = x.reads; writes = write_writes half x.write }

-- Work in the background, once the notices of its event are taken

-- the first part of a write to the volumes: one write to side A, and where that fails one to side B if it takes it; else one to side B
abbrev pub first_writes : MarksStore → Told → ℕ
first_writes s w =
    if s.a.up then (if write_fails w.a && takes_b s then 2 else 1)
    else if takes_b s then 1 else 0

-- what was read is written, where it is a track
abbrev pub saved_transfers : MarksStore → Told → Option Bool → Transfers
saved_transfers s w (Some is_track) = if is_track then writes_alone (first_writes s w) else no_transfers
saved_transfers s w None = no_transfers

abbrev pub behind_read : RunOutcome MarksStore (Got Bool) → Transfers
behind_read o = saved_transfers o.state o.told o.answer.bytes

-- a track is recovered from its frame, or else is read first
abbrev pub recovery_transfers : MarksStore → Told → ℕ → Option Bool → Transfers
recovery_transfers s w t (Some modified) = writes_alone (first_writes s w)
recovery_transfers s w t None = with_reads (missed_reads s t w) (behind_read (hold true (level_bytes by_plain s t) w))

-- a copy is read from one side, and written to the other unless that read fails
abbrev pub copy_transfers : Told → Option Side → Transfers
copy_transfers w (Some side) = with_reads 1 (if read_fails (calls_of w (other side)) then no_transfers else writes_alone 1)
copy_transfers w None = no_transfers

-- a track is staged where it has no frame, isn't lost and gets one
abbrev pub stage_transfers : MarksStore → Told → ℕ → Transfers
stage_transfers s w t =
    if is_some (frame_at s t) || is_lost s t then no_transfers
    else if answer w.pool (WantFrame s.device t) then with_reads (missed_reads s t w) no_transfers else no_transfers

abbrev pub destage_transfers : MarksStore → Told → Option ℕ → Transfers
destage_transfers s w (Some t) = writes_alone (first_writes s w)
destage_transfers s w None = no_transfers

abbrev pub queue_transfers : MarksStore → Told → List ℕ → Transfers
queue_transfers s w [] = destage_transfers s w (to_destage by_plain s)
queue_transfers s w (t ∷ ts) = stage_transfers s w t

abbrev pub copied_transfers : MarksStore → Told → Option ℕ → Transfers
copied_transfers s w (Some t) = copy_transfers w (copies_to s t)
copied_transfers s w None = queue_transfers s w s.queue

-- the first of these that there is to do
abbrev pub work_transfers : MarksStore → Told → Option ℕ → Transfers
work_transfers s w (Some t) = recovery_transfers s w t (frame_at s t)
work_transfers s w None = copied_transfers s w (to_copy s)

abbrev pub work_of : RunOutcome MarksStore (Unit {0}) → Transfers
work_of o = work_transfers o.state o.told (to_recover by_plain o.state)

-- an open half write goes first there, too
abbrev pub back_of : Pool → Option Mounted → Transfers
back_of pool (Some m) =
    if is_some m.device.store.half then writes_alone (second_writing m.device.store)
    else work_of (hold true (hear by_plain 960 (event_begun m.device).store) (told_to pool m))
back_of pool None = no_transfers

abbrev pub back_transfers : Subsystem → ℕ → Transfers
back_transfers s n = back_of s.pool (mounted_in s.mounted n)

-- A step: the second part of an open half write, to side B where it takes it; else a command of the program that runs

abbrev pub is_half_step : Stepped → Bool
is_half_step (steps.Ended e) = false
is_half_step (steps.Half t) = true

-- its write is half done
abbrev pub is_half_end : EventEnd → Bool
is_half_end (ends.Stepped s) = is_half_step s
is_half_end _ = false

abbrev pub step_of : Pool → EventEnd → Option Mounted → Transfers
step_of pool end (Some m) =
    if is_some m.device.store.half then writes_alone (second_writing m.device.store)
    else command_transfers m.device (told_to pool m) (is_half_end end) m.device.history.running m.device.chain
step_of pool end None = no_transfers

-- of the device of this number
abbrev pub step_transfers : Subsystem → ℕ → EventEnd → Transfers
step_transfers s n end = step_of s.pool end (mounted_in s.mounted n)

-- these numbers are those of the report's IO lines
pub record Makes (x : Transfers) (h : EventHappened) : Type 0 where
  pub reads : h.reads ≡ x.reads
  pub writes : h.writes ≡ x.writes

-- An event of a run makes the transfers of the table of events, and a step and work in the background exactly these
pub record MovesExactly (x : Logged) : Type 0 where
  pub by_table : MovesByTable x
  pub steps : (n : ℕ) → event_of x.asked ≡ Some (events.Step n) → Makes (step_transfers x.happened.before n x.happened.end) x.happened
  pub works : (n : ℕ) → event_of x.asked ≡ Some (events.Back n) → Makes (back_transfers x.happened.before n) x.happened
