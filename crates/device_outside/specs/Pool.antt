-- The pool of frames and slots that the devices share, and what each call of a device answers and makes of it.
use Rattle.std.specs.Prelude.{
  ◌≡◌,
  ℕ,
  ◌==◌,
  ◌&&◌,
  Bool,
  true,
  false,
  List,
  [],
  ◌∷◌,
  ◌++◌,
  length,
  Option,
  Some,
  None,
  if◌then◌else◌,
  nat_lt,
  slice_index_or,
  slice_set,
  is_some,
  sum,
  replicate,
  reverse,
}
use Rattle.std.specs.Option.{option_map_or}
use Rattle.std.specs.Map.{lookup, lookup_entry, remove_entry, set_value}
use Rattle.device_outside.specs.declared.port.SlotGrant.{SlotGrant}
use Rattle.device_outside.specs.declared.port.SlotGrant.TheVariants.{Given, Denied, Down}
use Rattle.device_outside.specs.Lists.{is_in, with_number, less_one}

-- the frame of a track: device and track, and whether it is modified
abbrev pub Frame : Type 0
Frame = (ℕ × ℕ) × Bool

pub record Pool : Type 0 where
  pub frames : List Frame  -- the most recent first
  pub room : ℕ  -- how many frames there may be
  pub notes : List (List ℕ)  -- of each device: the tracks whose frames were taken from it, the oldest note first
  pub waiting : List ℕ  -- of each device: how many of its tracks wait for recovery
  pub slots : ℕ  -- how many slots there are
  pub used : List ℕ  -- the slots in use, in rising order
  pub cache_up : Bool
  pub store_up : Bool

-- what a device asks. The first number is the device's, the second a track's
pub data Call : Type 0 where
  NextNotice : ℕ → Call
  Touch : ℕ → ℕ → Call
  WantFrame : ℕ → ℕ → Call
  SetModified : ℕ → ℕ → Call
  SetClean : ℕ → ℕ → Call
  DropFrame : ℕ → ℕ → Call
  WantSlot : Call
  FreeSlot : ℕ → Call
  TellWaiting : ℕ → ℕ → Call

-- what a call answers
abbrev pub AnswerTo : Call → Type 0
AnswerTo (NextNotice d) = Option ℕ
AnswerTo (Touch d t) = Bool
AnswerTo (WantFrame d t) = Bool
AnswerTo (SetModified d t) = Bool
AnswerTo (SetClean d t) = Unit {0}
AnswerTo (DropFrame d t) = Unit {0}
AnswerTo WantSlot = SlotGrant
AnswerTo (FreeSlot k) = Unit {0}
AnswerTo (TellWaiting d n) = Unit {0}

-- whether a frame is of this track
abbrev pub is_of : ℕ → ℕ → ℕ × ℕ → Bool
is_of d t place = (d == place.0) && (t == place.1)

abbrev pub is_listed : List Frame → ℕ → ℕ → Bool
is_listed fs d t = is_some (lookup (is_of d t) fs)

abbrev pub frame_removed : List Frame → ℕ → ℕ → List Frame
frame_removed fs d t = remove_entry (is_of d t) fs

abbrev pub marked : List Frame → ℕ → ℕ → Bool → List Frame
marked fs d t m = set_value (is_of d t) fs m

-- it comes first, where it is listed
abbrev pub in_front : List Frame → ℕ → ℕ → List Frame
in_front fs d t = option_map_or (λ f. f ∷ frame_removed fs d t) (lookup_entry (is_of d t) fs) fs

-- the first clean frame of a list
abbrev pub first_clean : List Frame → Option (ℕ × ℕ)
first_clean [] = None
first_clean (f ∷ fs) = if f.1 then first_clean fs else Some f.0

-- the least recent clean one
abbrev pub victim : List Frame → Option (ℕ × ℕ)
victim fs = first_clean (reverse fs)

abbrev pub has_room : Pool → Bool
has_room p = nat_lt (length p.frames) p.room

-- whether a track without a frame gets one: while the cache is up, where there is room or a clean frame can go
abbrev pub grants : Pool → Bool
grants p = if p.cache_up then (if has_room p then true else is_some (victim p.frames)) else false

abbrev pub notes_of : Pool → ℕ → List ℕ
notes_of p d = slice_index_or p.notes d []

-- the answer to a call, but for the number of a slot that is given
unfoldable pub answer : Pool → (c : Call) → AnswerTo c
answer p (NextNotice d) = elim (notes_of p d) [ [] ↦ None | t ∷ ts ↦ Some t ]
answer p (Touch d t) = is_listed p.frames d t
answer p (WantFrame d t) = if is_listed p.frames d t then true else grants p
answer p (SetModified d t) = is_listed p.frames d t
answer p (SetClean d t) = tt
answer p (DropFrame d t) = tt
answer p WantSlot = if p.store_up then (if nat_lt (length p.used) p.slots then Given 0 else Denied) else Down
answer p (FreeSlot k) = tt
answer p (TellWaiting d n) = tt

-- an answer without the number of a slot
abbrev pub unnumbered : (c : Call) → AnswerTo c → AnswerTo c
unnumbered WantSlot (Given k) = Given 0
unnumbered c a = a

-- a slot that is given wasn't in use
abbrev pub IsFree : List ℕ → (c : Call) → AnswerTo c → Type 0
IsFree used WantSlot (Given k) = is_in k used ≡ false
IsFree used c a = Unit {0}

-- which slot is given is the pool's choice among those that are free
pub record IsAnswer (p : Pool) (c : Call) (a : AnswerTo c) : Type 0 where
  pub same : unnumbered c a ≡ answer p c
  pub free : IsFree p.used c a

-- one frame fewer, and a note of its track for its device
abbrev pub less_frame : List Frame → Option (ℕ × ℕ) → List Frame
less_frame fs None = fs
less_frame fs (Some f) = frame_removed fs f.0 f.1

abbrev pub noted : List (List ℕ) → Option (ℕ × ℕ) → List (List ℕ)
noted notes None = notes
noted notes (Some f) = slice_set notes f.0 (slice_index_or notes f.0 [] ++ f.1 ∷ [])

-- the frame that goes where a track without one gets one
abbrev pub evicted : Pool → Option (ℕ × ℕ)
evicted p = if has_room p then None else victim p.frames

abbrev pub frames_wanted : Pool → ℕ → ℕ → List Frame
frames_wanted p d t =
    if is_listed p.frames d t then in_front p.frames d t
    else (if grants p then ((d, t), false) ∷ less_frame p.frames (evicted p) else p.frames)

abbrev pub notes_wanted : Pool → ℕ → ℕ → List (List ℕ)
notes_wanted p d t = if is_listed p.frames d t then p.notes else (if grants p then noted p.notes (evicted p) else p.notes)

abbrev pub notes_less : List (List ℕ) → ℕ → List ℕ → List (List ℕ)
notes_less notes d [] = notes
notes_less notes d (t ∷ ts) = slice_set notes d ts

abbrev pub used_more : List ℕ → SlotGrant → List ℕ
used_more used (Given k) = with_number k used
used_more used s = used

-- the pool behind a call with this answer
unfoldable pub after : Pool → (c : Call) → AnswerTo c → Pool
after p (NextNotice d) a = record p { notes = notes_less p.notes d (notes_of p d) }
after p (Touch d t) a = record p { frames = in_front p.frames d t }
after p (WantFrame d t) a = record p { frames = frames_wanted p d t; notes = notes_wanted p d t }
after p (SetModified d t) a = record p { frames = marked p.frames d t true }
after p (SetClean d t) a = record p { frames = marked p.frames d t false }
after p (DropFrame d t) a = record p { frames = frame_removed p.frames d t }
after p WantSlot a = record p { used = used_more p.used a }
after p (FreeSlot k) a = record p { used = less_one k p.used }
after p (TellWaiting d n) a = record p { waiting = slice_set p.waiting d n }

-- a run doesn't tell slots apart: each has the number 0, and only how many are in use counts
abbrev pub counted_slots : Pool → Pool
counted_slots p = record p { used = replicate (length p.used) 0 }

-- a new pool: no frame, no note, nothing in use
abbrev pub new_pool : ℕ → ℕ → Pool
new_pool frames slots = record {
  frames = [];
  room = frames;
  notes = replicate 16 [];
  waiting =
      replicate 16 0;
  slots = slots;
  used = [];
  cache_up = true;
  store_up = true;
}

-- losses and repairs: the cache is lost with its frames, and so are its notes
abbrev pub cache_failed : Pool → Pool
cache_failed p = record p { cache_up = false; frames = []; notes = replicate 16 [] }

abbrev pub store_failed : Pool → Pool
store_failed p = record p { store_up = false }

-- a loss of power takes frames and notes; cache and store stay up or down
abbrev pub power_lost : Pool → Pool
power_lost p = record p { frames = []; notes = replicate 16 [] }

-- a repair waits while a track waits
abbrev pub all_waiting : Pool → ℕ
all_waiting p = sum p.waiting

abbrev pub cache_repaired : Pool → Pool
cache_repaired p = if all_waiting p == 0 then record p { cache_up = true } else p

abbrev pub store_repaired : Pool → Pool
store_repaired p = if all_waiting p == 0 then record p { store_up = true } else p
