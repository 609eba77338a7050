-- How many reads and writes of volumes each part of an event may make, whatever the port, the volumes and the keeper answer.
use Rattle.std.specs.Prelude.{◌≤◌, ℕ, ◌+◌, Bool, false, Option, if◌then◌else◌}
use Rattle.track_image.specs.Image.{Image}
use Rattle.device_outside.specs.Interaction.{Interaction, Done, Try, Ask, Read, Write, Tell}
use Rattle.device_outside.specs.Keeper.{ReplyTo}
use Rattle.device_outside.specs.Pool.{AnswerTo}
use Rattle.device_defs.specs.Store.{Store, level_at, takes_b}

-- behind an interaction that this many reads and writes stood before, q holds of all reads and writes
unfoldable pub Moves : {R I S A : Type 0} → (ℕ → ℕ → Type 0) → ℕ → ℕ → Interaction R I S A → Type 0
Moves q reads writes (Done s a) = q reads writes
Moves q reads writes (Try k) = (ok : Bool) → Moves q reads writes (k ok)
Moves q reads writes (Ask call k) = (a : AnswerTo call) → Moves q reads writes (k a)
Moves {R} q reads writes (Read side t k) = (got : Option R) → Moves q (reads + 1) writes (k got)
Moves q reads writes (Write side t r k) = (ok : Bool) → Moves q reads (writes + 1) (k ok)
Moves q reads writes (Tell m k) = (r : ReplyTo m) → Moves q reads writes (k r)

-- the parts of an event that move something
pub data Part : Type 0 where
  Hit : Part  -- a touched track that is lost, or that has a frame that counts
  Miss : ℕ → Part  -- a touched track that is read
  InCache : Part  -- a fast or a provisional write
  FirstPart : Part
  SecondPart : Part
  BothParts : Part  -- in one event
  FramedTrack : Part  -- recovered or destaged
  UnframedTrack : ℕ → Part  -- recovered
  Copy : Part
  Staging : ℕ → Part
  Loss : Part  -- so are a start, a reset and an order: nothing is moved

pub record Range : Type 0 where
  pub least : ℕ
  pub most : ℕ

abbrev pub none : Range
none = record { least = 0; most = 0 }

abbrev pub one : Range
one = record { least = 1; most = 1 }

-- how many of two
abbrev pub both : Bool → Bool → ℕ
both x y = (if x then 1 else 0) + (if y then 1 else 0)

-- one of two, or both where the first call failed
abbrev pub one_or_both : Bool → Bool → Range
one_or_both x y = record { least = if x then 1 else if y then 1 else 0; most = both x y }

module _ {F P H : Type 0} where
  -- of side A, and of side B where A's failed or hasn't the track
  abbrev pub level_reads : Store F P H → ℕ → Range
  level_reads s t = one_or_both (level_at s.a t) (level_at s.b t)

  -- of the sides that are up and not held, B's in the same event only where A's failed
  abbrev pub side_writes : Store F P H → Range
  side_writes s = one_or_both s.a.up (takes_b s)

  -- all of these sides, whichever fail
  abbrev pub all_writes : Store F P H → Range
  all_writes s = record { least = both s.a.up (takes_b s); most = both s.a.up (takes_b s) }

  -- by what a device has as the part begins
  abbrev pub reads_of : Store F P H → Part → Range
  reads_of s Hit = none
  reads_of s (Miss t) = level_reads s t
  reads_of s InCache = none
  reads_of s FirstPart = none
  reads_of s SecondPart = none
  reads_of s BothParts = none
  reads_of s FramedTrack = none
  reads_of s (UnframedTrack t) = level_reads s t
  reads_of s Copy = one
  reads_of s (Staging t) = record { least = 0; most = both (level_at s.a t) (level_at s.b t) }
  reads_of s Loss = none

  -- a track that couldn't be read is not written
  abbrev pub writes_of : Store F P H → Part → Range
  writes_of s Hit = none
  writes_of s (Miss t) = none
  writes_of s InCache = none
  writes_of s FirstPart = side_writes s
  writes_of s SecondPart = record { least = both (takes_b s) false; most = both (takes_b s) false }
  writes_of s BothParts = all_writes s
  writes_of s FramedTrack = record { least = 0; most = both s.a.up (takes_b s) }
  writes_of s (UnframedTrack t) = record { least = 0; most = both s.a.up (takes_b s) }
  writes_of s Copy = record { least = 0; most = 1 }
  writes_of s (Staging t) = none
  writes_of s Loss = none

  pub record Within (s : Store F P H) (part : Part) (reads writes : ℕ) : Type 0 where
    pub least_reads : (reads_of s part).least ≤ reads
    pub most_reads : reads ≤ (reads_of s part).most
    pub least_writes : (writes_of s part).least ≤ writes
    pub most_writes : writes ≤ (writes_of s part).most

  -- an interaction that begins at this store makes the transfers of such a part. A record round it, so that its arguments can be inferred
  pub record Makes {R S A : Type 0} (s : Store F P H) (part : Part) (i : Interaction R Image S A) : Type 0 where
    pub moves : Moves (Within s part) 0 0 i
