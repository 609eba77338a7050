-- How many reads and writes of volumes each event of a device makes, whatever the port, the volumes and the keeper answer.
use Rattle.std.specs.Prelude.{◌≡◌, ◌≢◌, ◌≤◌, ◌+◌, ◌*◌, ℕ, zero, suc, Bool, true, false, Option, Some, None, if◌then◌else◌}
use Rattle.ckd_types.specs.declared.paths.Side.{Side}
use Rattle.ckd_chain.specs.declared.progress.Progress.TheVariants as progresses
use Rattle.ckd_chain.specs.State.{ChainState}
use Rattle.ckd_chain.specs.Steps.{need_of, stepped}
use Rattle.plain_defs.specs.History.{OpenEntry}
use Rattle.track_cache.specs.declared.frames.Frame.{Frame}
use Rattle.track_image.specs.Image.{Image}
use Rattle.device_outside.specs.Volume.{counted}
use Rattle.device_defs.specs.declared.answers.Choice.{Choice}
use Rattle.device_defs.specs.declared.answers.Choice.TheVariants.{Provisional, Fast, Through}
use Rattle.device_defs.specs.declared.answers.Did.{Did}
use Rattle.device_defs.specs.declared.answers.Did.TheVariants.{Nothing, Recovered, Copied, Staged, Skipped, Destaged, Half, Fault, BadBytes}
use Rattle.device_defs.specs.declared.counts.Counts.{Counts}
use Rattle.device_defs.specs.Store.{HalfWrite, Store, tracks_of, takes_b, frame_at}
use Rattle.device_defs.specs.Transfers.{both}
use Rattle.device_laws.specs.Whole.{WholeDevice}

-- What an event moved, by the counts of its device

-- a count behind so many calls
abbrev pub counted_by : ℕ → ℕ → ℕ
counted_by zero count = count
counted_by (suc n) count = counted_by n (counted count)

-- so many reads and writes were counted, and this holds of their numbers
pub record Moved (within : ℕ → ℕ → Type 0) (old new : Counts) : Type 0 where
  pub reads : ℕ
  pub writes : ℕ
  pub is : within reads writes
  pub read_count : new.reads ≡ counted_by reads old.reads
  pub write_count : new.writes ≡ counted_by writes old.writes

-- so many reads and so many writes were counted between these two
pub record Counted (reads writes : ℕ) (old new : Counts) : Type 0 where
  pub read_count : new.reads ≡ counted_by reads old.reads
  pub write_count : new.writes ≡ counted_by writes old.writes

-- The parts of a command, exactly

-- a miss that was given bytes made one read, and one more where a side's read failed before
abbrev pub miss_reads : Option Side → ℕ
miss_reads None = 1
miss_reads (Some side) = 2

-- A write in the cache alone makes none. One through makes one to each of the sides that take it as it begins, whichever fail; where it is half done
-- then, to side A alone, and the second part makes side B's
abbrev pub choice_writes : ℕ → Choice → Bool → ℕ
choice_writes writing Provisional half = 0
choice_writes writing (Fast slot) half = 0
choice_writes writing Through half = if half then 1 else writing

-- The table, of so many reads and so many writes

module _ {F P H : Type 0} where
  -- how many sides are up
  abbrev pub sides_up : Store F P H → ℕ
  sides_up s = both s.a.up s.b.up

  -- how many take what is written
  abbrev pub sides_writing : Store F P H → ℕ
  sides_writing s = both s.a.up (takes_b s)

  abbrev pub half_writing : Store F P H → Option (HalfWrite H) → ℕ
  half_writing s (Some h) = both (takes_b s) false
  half_writing s None = 0

  -- the untried side of a half write that is open, where it takes what is written
  abbrev pub second_writing : Store F P H → ℕ
  second_writing s = half_writing s s.half

-- a start, a reset, an order, and a loss of cache, store, side or power
abbrev pub NoTransfers : ℕ → ℕ → Type 0
NoTransfers reads writes = (reads ≡ 0) × (writes ≡ 0)

-- a command reads each track that it looks at at most once from each side that is up, and writes one at most once to each
pub record CommandTransfers (tracks up : ℕ) (reads writes : ℕ) : Type 0 where
  pub most_reads : reads ≤ tracks * up
  pub most_writes : writes ≤ up

-- a look past the channel
abbrev pub LookTransfers : ℕ → ℕ → ℕ → Type 0
LookTransfers up reads writes = (reads ≤ up) × (writes ≡ 0)

-- the second part of a write
abbrev pub SecondTransfers : ℕ → ℕ → ℕ → Type 0
SecondTransfers writing reads writes = (reads ≡ 0) × (writes ≡ writing)

-- What a device did by itself, where no call failed: a recovery reads the track where it has no frame, and what was read is written unless no side
-- takes what is written
abbrev pub DidTransfers : ℕ → Did → ℕ → ℕ → Type 0
DidTransfers writing Nothing reads writes = (reads ≤ 1) × (writes ≡ 0) × (reads ≡ 1 → writing ≡ 0)
DidTransfers writing (Recovered t) reads writes = (reads ≤ 1) × (writes ≡ 1)
DidTransfers writing (Copied t) reads writes = (reads ≡ 1) × (writes ≡ 1)
DidTransfers writing (Staged t) reads writes = (reads ≡ 1) × (writes ≡ 0)
DidTransfers writing (Skipped t) reads writes = (reads ≡ 0) × (writes ≡ 0)
DidTransfers writing (Destaged t) reads writes = (reads ≡ 0) × (writes ≡ 1)
DidTransfers writing (Half t) reads writes = (reads ≤ 1) × (writes ≡ 1)
DidTransfers writing (Fault side) reads writes = 1 ≤ reads + writes
DidTransfers writing (BadBytes side) reads writes = (reads ≡ 1) × (writes ≡ 0)

abbrev pub did_by : ℕ → Option Did → ℕ → ℕ → Type 0
did_by writing (Some did) reads writes = DidTransfers writing did reads writes
did_by writing None reads writes = Unit {0}

-- each side that is up is read at most once and written at most once
pub record WorkTransfers (up writing : ℕ) (did : Option Did) (reads writes : ℕ) : Type 0 where
  pub most_reads : reads ≤ up
  pub most_writes : writes ≤ up
  pub by_answer : did_by writing did reads writes

-- What each event of a device moved, by what the device has before it

abbrev pub CommandMoves : WholeDevice → WholeDevice → Type 0
CommandMoves d e = Moved (CommandTransfers (tracks_of d.store) (sides_up d.store)) d.store.counts e.store.counts

abbrev pub SecondMoves : WholeDevice → WholeDevice → Type 0
SecondMoves d e = Moved (SecondTransfers (second_writing d.store)) d.store.counts e.store.counts

abbrev pub WorkMoves : WholeDevice → Option Did → WholeDevice → Type 0
WorkMoves d did e = Moved (WorkTransfers (sides_up d.store) (sides_writing d.store) did) d.store.counts e.store.counts

abbrev pub LookMoves : WholeDevice → WholeDevice → Type 0
LookMoves d e = Moved (LookTransfers (sides_up d.store)) d.store.counts e.store.counts

abbrev pub MovesNothing : WholeDevice → WholeDevice → Type 0
MovesNothing d e = Moved NoTransfers d.store.counts e.store.counts

-- A hit reads nothing

-- a command that is given this image of a track asks for no other one
abbrev pub AsksNoMore : ChainState → Image → Type 0
AsksNoMore chain i = (t : ℕ) → (stepped chain (Some i)).progress ≢ progresses.Need t

-- A command that looks at one track, which has a modified frame, reads no volume: the count of reads is as it was
abbrev pub HitReadsNone : WholeDevice → WholeDevice → Type 0
HitReadsNone d e =
    (o : OpenEntry) (chain : ChainState) (t : ℕ) (f : Frame) → d.history.running ≡ Some o → d.chain ≡ Some chain → need_of chain ≡ Some t →
    frame_at d.store t ≡ Some f → f.modified ≡ true → AsksNoMore chain f.image → e.store.counts.reads ≡ d.store.counts.reads
