-- What an event came to, between the subsystem before and behind it. An answer of None says that memory was lacking.
use Rattle.std.specs.Prelude.{◌≡◌, ℕ, Bool, true, false, List, [], ◌∷◌, Option, Some, None, Result, Ok, Err}
use Rattle.ckd_types.specs.declared.paths.Side.{Side}
use Rattle.nv_store.specs.declared.patches.Stored.{Stored}
use Rattle.track_cache.specs.declared.frames.Frame.{Frame}
use Rattle.track_image.specs.Image.{Image}
use Rattle.device_outside.specs.declared.keep.NoKeep.{NoKeep}
use Rattle.device_outside.specs.declared.volume.Volume.{Ghosts}
use Rattle.device_outside.specs.Interaction.{Interaction}
use Rattle.device_outside.specs.Keeper.{Hearing}
use Rattle.device_outside.specs.Outside.{Ran}
use Rattle.device_outside.specs.Pool.{Pool}
use Rattle.frame_pool.specs.Shared.{Shared, shared_view}
use Rattle.device_defs.specs.Contents.{contents}
use Rattle.device_defs.specs.Orders.{join, lend, replace, restore, split}
use Rattle.device_defs.specs.Start.{start, next_ordinal}
use Rattle.device_store.specs.State.{surely}
use Rattle.device_core.specs.declared.device.Device.{Device}
use Rattle.device_core.specs.State.{DefinedDevice, around, device_of, last_end, other_volume, own_volumes, side_volume, volume_a, volume_b}
use Rattle.subsystem_defs.specs.declared.end.EventEnd as defs
use Rattle.subsystem_defs.specs.declared.end.EventEnd.TheVariants.{Done, Refused}
use Rattle.subsystem_defs.specs.declared.end.OrderFault.{OrderFault}
use Rattle.subsystem_defs.specs.declared.event.Event.{Event}
use Rattle.subsystem_defs.specs.Deeds.{Deed, Ends, Becomes, Asks, Each, Repairs, Lends, deed}
use Rattle.subsystem_defs.specs.Happening.{is_lent_to}
use Rattle.subsystem_defs.specs.Refusals.{replace_fault, unpair_fault}
use Rattle.subsystem_core.specs.declared.end.EventEnd.{EventEnd}
use Rattle.subsystem_core.specs.declared.subsystem.Subsystem.{Subsystem}
use Rattle.subsystem_core.specs.Devices.{devices_of, device_at, put_at, volumes_of}
use Rattle.subsystem_core.specs.Ends.{end_had, where_some, Answers}
use Rattle.subsystem_core.specs.Keepers.{hears_none}

abbrev pub OwnDeed : Type 0
OwnDeed = Deed Frame Stored Image (List ℕ)

abbrev pub Talk : Type 0 → Type 0
Talk A = Interaction (List ℕ) Image DefinedDevice A

abbrev pub with_pool : Shared → Pool → Shared
with_pool s pool = record s { pool = pool }

module _ {V : Type 0} {G : Ghosts V} where
  -- Devices

  -- a device ran this between what the pool tells, its volumes tell and a keeper hears
  abbrev pub AskedKept : {K A : Type 0} → Hearing Image K → (Bool → Type 0) → Talk A → A → Shared → K → Device V G → Device V G → Shared → K → Type 0
  AskedKept hears had talk answer pool keep before behind new kept =
      Ran had hears talk (around (shared_view pool) before keep) (device_of behind) answer (around (shared_view new) behind kept)

  -- the same with a keeper that keeps nothing
  abbrev pub AskedWith : {A : Type 0} → (Bool → Type 0) → Talk A → A → Shared → Device V G → Device V G → Shared → Type 0
  AskedWith had talk answer pool before behind new = (k : NoKeep) → AskedKept hears_none had talk answer pool k before behind new k

  -- one device is another now, which is so to it; all others, and their volumes, are as they were
  pub record Changes (n : ℕ) (how : Device V G → Device V G → Type 0) (old new : List (Device V G)) : Type 0 where
    pub before : Device V G
    pub behind : Device V G
    pub stood : device_at old n ≡ Some before
    pub stands : new ≡ put_at old n behind
    pub is_so : how before behind

  -- it is this device now, on the same volumes
  abbrev pub IsNow : DefinedDevice → Device V G → Device V G → Type 0
  IsNow d before behind = (device_of behind ≡ d) × (own_volumes behind ≡ own_volumes before)

  abbrev pub IsStill : Device V G → Device V G → Type 0
  IsStill before behind = IsNow (device_of before) before behind

  -- the path's next program started, or memory was lacking
  abbrev pub StartsBy : {E : Type 0} → ℕ → Result ℕ E → Device V G → Device V G → Type 0
  StartsBy path (Ok n) before behind = (n ≡ next_ordinal (device_of before) path) × IsNow (start (device_of before) path) before behind
  StartsBy path (Err e) before behind = IsStill before behind

  -- each device in its turn became another, and what they share went on from one to the next
  pub data SweptBy {S : Type 0} (how : S → Device V G → Device V G → S → Type 0) : S → List (Device V G) → List (Device V G) → S → Type 0 where
    over : {pool : S} → SweptBy how pool [] [] pool
    next : {pool behind last : S} {x y : Device V G} {xs ys : List (Device V G)} → how pool x y behind → SweptBy how behind xs ys last →
        SweptBy how pool (x ∷ xs) (y ∷ ys) last

  abbrev pub SweepsOne : (DefinedDevice → Talk (Unit {0})) → Shared → Device V G → Device V G → Shared → Type 0
  SweepsOne f pool before behind new = AskedWith surely (f (device_of before)) tt pool before behind new

  -- each ran this, and the pool went on
  abbrev pub Swept : (DefinedDevice → Talk (Unit {0})) → Shared → List (Device V G) → List (Device V G) → Shared → Type 0
  Swept f = SweptBy (SweepsOne f)

  abbrev pub SweepsKept : {K : Type 0} → Hearing Image K → (DefinedDevice → Talk (Unit {0})) → Shared × K → Device V G → Device V G → Shared × K → Type 0
  SweepsKept hears f old before behind new = AskedKept hears surely (f (device_of before)) tt old.0 old.1 before behind new.0 new.1

  -- the same with a keeper, which went on too
  abbrev pub SweptKept : {K : Type 0} → Hearing Image K → (DefinedDevice → Talk (Unit {0})) → Shared → K → List (Device V G) → List (Device V G) → Shared →
      K → Type 0
  SweptKept hears f pool keep xs ys new kept = SweptBy (SweepsKept hears f) (pool, keep) xs ys (new, kept)

  -- Events

  abbrev pub IsSame : Subsystem V G → Subsystem V G → Type 0
  IsSame old new = (new.pool ≡ old.pool) × (new.devices.items ≡ old.devices.items)

  -- at want of memory the device is what it was
  abbrev pub BecameBy : DefinedDevice → defs.EventEnd → Subsystem V G → Option EventEnd → Subsystem V G → Type 0
  BecameBy d end old (Some a) new =
      Answers (Some a) end × (new.pool ≡ old.pool) × Changes d.store.device (IsNow d) old.devices.items new.devices.items
  BecameBy d end old None new = (new.pool ≡ old.pool) × Changes d.store.device IsStill old.devices.items new.devices.items

  abbrev pub AskedKeptBy : {K : Type 0} → Hearing Image K → Talk (Option defs.EventEnd) → Subsystem V G → K → Option EventEnd → Subsystem V G → K →
      Device V G → Device V G → Type 0
  AskedKeptBy hears talk old keep a new kept before behind =
      AskedKept hears (where_some a) talk (end_had (last_end behind) a) old.pool keep before behind new.pool kept

  abbrev pub AskedBy : Talk (Option defs.EventEnd) → Subsystem V G → Option EventEnd → Subsystem V G → Device V G → Device V G → Type 0
  AskedBy talk old a new before behind = AskedWith (where_some a) talk (end_had (last_end behind) a) old.pool before behind new.pool

  -- the device of that number lends its volume, of which no keeper hears, and it becomes side B of the other
  pub record JoinsKept {K : Type 0} (hears : Hearing Image K) (to from : ℕ) (y : DefinedDevice) (old new : Subsystem V G) : Type 0 where
    pub before : Device V G
    pub behind : Device V G
    pub first : Device V G
    pub second : Device V G
    pub volume : V
    pub stood : device_at old.devices.items from ≡ Some before
    pub asked : (k : K) → Ran surely hears (lend contents y to) (around (shared_view old.pool) before k) (device_of behind) tt
        (record (around (shared_view new.pool) behind k) { a = Some (G.view volume) })
    pub gone : volume_a behind ≡ None
    pub other : device_at (put_at old.devices.items from behind) to ≡ Some first
    pub joined : device_of second ≡ join (device_of first)
    pub a : volume_a second ≡ volume_a first
    pub b : volume_b second ≡ Some volume
    pub stands : new.devices.items ≡ put_at (put_at old.devices.items from behind) to second

  abbrev pub Joins : ℕ → ℕ → DefinedDevice → Subsystem V G → Subsystem V G → Type 0
  Joins = JoinsKept hears_none

  abbrev pub CameBy : OwnDeed → Subsystem V G → Option EventEnd → Subsystem V G → Type 0
  CameBy (Ends end) old a new = Answers a end × IsSame old new
  CameBy (Becomes d end) old a new = BecameBy d end old a new
  CameBy (Asks d talk) old a new = Changes d.store.device (AskedBy talk old a new) old.devices.items new.devices.items
  CameBy (Each pool f) old a new = Answers a Done × Swept f (with_pool old.pool pool) old.devices.items new.devices.items new.pool
  CameBy (Repairs pool) old a new = Answers a Done × (new.pool ≡ with_pool old.pool pool) × (new.devices.items ≡ old.devices.items)
  CameBy (Lends x y) old a new = Answers a Done × Joins x.store.device y.store.device y old new

  -- an event came, with this answer
  abbrev pub Came : Event → Subsystem V G → Option EventEnd → Subsystem V G → Type 0
  Came e old a new = CameBy (deed contents old.pool.pool (devices_of old.devices.items) e) old a new

  -- The same with a keeper. Where no device is asked it hears nothing

  abbrev pub CameKeptBy : {K : Type 0} → Hearing Image K → OwnDeed → Subsystem V G → K → Option EventEnd → Subsystem V G → K → Type 0
  CameKeptBy hears (Asks d talk) old keep a new kept =
      Changes d.store.device (AskedKeptBy hears talk old keep a new kept) old.devices.items new.devices.items
  CameKeptBy hears (Each pool f) old keep a new kept =
      Answers a Done × SweptKept hears f (with_pool old.pool pool) keep old.devices.items new.devices.items new.pool kept
  CameKeptBy hears (Lends x y) old keep a new kept = Answers a Done × JoinsKept hears x.store.device y.store.device y old new × (kept ≡ keep)
  CameKeptBy hears d old keep a new kept = CameBy d old a new × (kept ≡ keep)

  abbrev pub CameKept : {K : Type 0} → Hearing Image K → Event → Subsystem V G → K → Option EventEnd → Subsystem V G → K → Type 0
  CameKept hears e old keep a new kept = CameKeptBy hears (deed contents old.pool.pool (devices_of old.devices.items) e) old keep a new kept

  -- The orders for which a volume is handed in

  abbrev pub IsReplaced : Side → V → Device V G → Device V G → Type 0
  IsReplaced side volume before behind =
      (device_of behind ≡ replace (device_of before) side) × (side_volume behind side ≡ Some volume)
      × (other_volume behind side ≡ other_volume before side)

  -- refused, it drops the volume
  abbrev pub ReplacedBy : ℕ → Side → V → Option OrderFault → Subsystem V G → EventEnd → Subsystem V G → Type 0
  ReplacedBy d side volume (Some fault) old end new = Answers (Some end) (Refused fault) × IsSame old new
  ReplacedBy d side volume None old end new =
      Answers (Some end) Done × (new.pool ≡ old.pool) × Changes d (IsReplaced side volume) old.devices.items new.devices.items

  -- the device of this number is this one, and a side of it got a volume
  abbrev pub Replaced : ℕ → Side → V → Option (Device V G) → Subsystem V G → EventEnd → Subsystem V G → Type 0
  Replaced d side volume (Some x) old end new = ReplacedBy d side volume (replace_fault (device_of x) side) old end new
  Replaced d side volume None old end new = ⊥

  -- each is what it was, on the same volumes
  abbrev pub AreStill : List (Device V G) → List (Device V G) → Type 0
  AreStill old new = (devices_of new ≡ devices_of old) × (volumes_of new ≡ volumes_of old)

  -- side B has left
  pub record IsSplit (before behind : Device V G) : Type 0 where
    pub device : device_of behind ≡ split (device_of before)
    pub a : volume_a behind ≡ volume_a before
    pub b : volume_b behind ≡ None

  -- a device that was lent has this volume, and is empty
  pub record IsRestored (volume : V) (before behind : Device V G) : Type 0 where
    pub device : device_of behind ≡ restore (device_of before)
    pub a : volume_a behind ≡ Some volume
    pub b : volume_b behind ≡ volume_b before

  -- the first device that was lent to this one has the volume; where none was, it is dropped
  pub data Restored (n : ℕ) (volume : V) : List (Device V G) → List (Device V G) → Type 0 where
    none_was_lent : Restored n volume [] []
    this_was_lent : {x y : Device V G} {xs : List (Device V G)} → is_lent_to (device_of x).store.lent n ≡ true → IsRestored volume x y →
        Restored n volume (x ∷ xs) (y ∷ xs)
    another_was_lent : {x : Device V G} {xs ys : List (Device V G)} → is_lent_to (device_of x).store.lent n ≡ false → Restored n volume xs ys →
        Restored n volume (x ∷ xs) (x ∷ ys)

  -- side B leaves the one, and the other has a volume again
  pub record Parts (n : ℕ) (volume : V) (old new : List (Device V G)) : Type 0 where
    pub between : List (Device V G)
    pub split : Changes n IsSplit old between
    pub restored : Restored n volume between new

  abbrev pub UnpairedBy : ℕ → V → Option OrderFault → Subsystem V G → EventEnd → Subsystem V G → Type 0
  UnpairedBy n volume (Some fault) old end new = Answers (Some end) (Refused fault) × IsSame old new
  UnpairedBy n volume None old end new =
      Answers (Some end) Done × (new.pool ≡ old.pool) × Parts n volume old.devices.items new.devices.items

  -- the device of this number is this one, and its pair was taken apart
  abbrev pub Unpaired : ℕ → V → Option (Device V G) → Subsystem V G → EventEnd → Subsystem V G → Type 0
  Unpaired n volume (Some x) old end new = UnpairedBy n volume (unpair_fault (device_of x)) old end new
  Unpaired n volume None old end new = ⊥
