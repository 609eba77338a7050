-- What an event comes to, where the pool is told and memory is had; and the run's events one after another.
use Rattle.std.specs.Prelude.{◌≡◌, ℕ, true, List, [], ◌∷◌, Some, None}
use Rattle.nv_store.specs.declared.patches.Stored.{Stored}
use Rattle.track_cache.specs.declared.frames.Frame.{Frame}
use Rattle.track_image.specs.Image.{Image}
use Rattle.device_outside.specs.Interaction.{Interaction}
use Rattle.device_outside.specs.Keeper.{Hearing}
use Rattle.device_outside.specs.Outside.{PortView, Outside, Ran}
use Rattle.device_outside.specs.Pool.{Pool, counted_slots}
use Rattle.device_defs.specs.Contents.{contents}
use Rattle.device_defs.specs.Orders.{join, lend}
use Rattle.device_laws.specs.Whole.{WholeDevice}
use Rattle.subsystem_defs.specs.declared.end.EventEnd.{EventEnd}
use Rattle.subsystem_defs.specs.declared.end.EventEnd.TheVariants.{Done}
use Rattle.subsystem_defs.specs.declared.event.Event.{Event}
use Rattle.subsystem_defs.specs.Deeds.{Deed, Ends, Becomes, Asks, Each, Repairs, Lends, deed}
use Rattle.subsystem_defs.specs.Happening.{EventHappened, happens}
use Rattle.subsystem_defs.specs.Subsystem.{Subsystem, Mounted}
use Rattle.subsystem_laws.specs.WholeStood.{Stood, devices_at, stood_in, put_at, AreMounted, HaveChains}

abbrev pub OwnDeed : Type 0
OwnDeed = Deed Frame Stored Image (List ℕ)

abbrev pub OwnTalk : Type 0 → Type 0
OwnTalk A = Interaction (List ℕ) Image WholeDevice A

abbrev pub outside_at : {K : Type 0} → PortView → Stood → K → Outside (List ℕ) K
outside_at port x keeper = record { port = port; a = x.a; b = x.b; keeper = keeper }

-- one is another now
pub record Changes (n : ℕ) (how : Stood → Stood → Type 0) (old new : List Stood) : Type 0 where
  pub before : Stood
  pub behind : Stood
  pub stood : stood_in old n ≡ Some before
  pub stands : new ≡ put_at old n behind
  pub is_so : how before behind

-- it is this device, on the same volumes
pub record IsNow (d : WholeDevice) (before behind : Stood) : Type 0 where
  pub device : behind.device ≡ d
  pub a : behind.a ≡ before.a
  pub b : behind.b ≡ before.b

module _ {K : Type 0} (hears : Hearing Image K) where
  -- a device ran this between a port that tells the one pool and one that tells the other, and memory was had
  pub record Asked {A : Type 0} (talk : OwnTalk A) (answer : A) (pool : Pool) (x y : Stood) (new : Pool) : Type 0 where
    pub port : PortView
    pub after : PortView
    pub keeper : K
    pub later : K
    pub pool_before : port.pool ≡ Some pool
    pub pool_behind : after.pool ≡ Some new
    pub ran : Ran (λ ok. ok ≡ true) hears talk (outside_at port x keeper) y.device answer (outside_at after y later)

  -- each in its turn
  pub data Swept (f : WholeDevice → OwnTalk (Unit {0})) : Pool → List Stood → List Stood → Pool → Type 0 where
    all_swept : {pool : Pool} → Swept f pool [] [] pool
    one_swept : {pool behind last : Pool} {x y : Stood} {xs ys : List Stood} → Asked (f x.device) tt pool x y behind → Swept f behind xs ys last →
        Swept f pool (x ∷ xs) (y ∷ ys) last

  -- the one of that number lends its volume, which becomes side B of the other
  pub record Joins (to from : ℕ) (y : WholeDevice) (pool : Pool) (old : List Stood) (new_pool : Pool) (new : List Stood) : Type 0 where
    pub before : Stood
    pub behind : Stood
    pub first : Stood
    pub stood : stood_in old from ≡ Some before
    pub asked : Asked (lend contents y to) tt pool before behind new_pool
    pub other : stood_in (put_at old from (record behind { a = None })) to ≡ Some first
    pub stands : new ≡ put_at (put_at old from (record behind { a = None })) to (record { device = join first.device; a = first.a; b = behind.a })

  abbrev pub CameBy : OwnDeed → Pool → List Stood → EventEnd → Pool → List Stood → Type 0
  CameBy (Ends end) pool old e new_pool new = (e ≡ end) × (new_pool ≡ pool) × (new ≡ old)
  CameBy (Becomes d end) pool old e new_pool new = (e ≡ end) × (new_pool ≡ pool) × Changes d.store.device (IsNow d) old new
  CameBy (Asks d talk) pool old e new_pool new = Changes d.store.device (λ x y. Asked talk (Some e) pool x y new_pool) old new
  CameBy (Each swept f) pool old e new_pool new = (e ≡ Done) × Swept f swept old new new_pool
  CameBy (Repairs repaired) pool old e new_pool new = (e ≡ Done) × (new_pool ≡ repaired) × (new ≡ old)
  CameBy (Lends x y) pool old e new_pool new = (e ≡ Done) × Joins x.store.device y.store.device y pool old new_pool new

  -- an event came, and ended so
  abbrev pub Comes : Event → Pool → List Stood → EventEnd → Pool → List Stood → Type 0
  Comes e pool old end new_pool new = CameBy (deed contents pool (devices_at old) e) pool old end new_pool new

  -- one after another
  pub data Runs : List Event → Pool → List Stood → List EventEnd → Pool → List Stood → Type 0 where
    no_event : {pool : Pool} {xs : List Stood} → Runs [] pool xs [] pool xs
    next_event : {e : Event} {es : List Event} {end : EventEnd} {ends : List EventEnd} {pool between last : Pool} {xs ys zs : List Stood} →
        HaveChains xs → Comes e pool xs end between ys → Runs es between ys ends last zs → Runs (e ∷ es) pool xs (end ∷ ends) last zs

-- the subsystem of a run
abbrev pub subsystem_of : Pool → List Mounted → Subsystem
subsystem_of pool ms = record { pool = counted_slots pool; mounted = ms }

-- what happens in a run is what came: it ends so, and leaves what a run has mounted for what is left
pub record IsWhatCame (o : EventHappened) (end : EventEnd) (pool : Pool) (xs : List Stood) : Type 0 where
  pub ended : o.end ≡ end
  pub left : o.behind.pool ≡ counted_slots pool
  pub mounted : AreMounted pool xs o.behind.mounted

-- A run's events

abbrev pub behind_all : Subsystem → List Event → Subsystem
behind_all s [] = s
behind_all s (e ∷ es) = behind_all (happens s e).behind es

abbrev pub ends_of_all : Subsystem → List Event → List EventEnd
ends_of_all s [] = []
ends_of_all s (e ∷ es) = (happens s e).end ∷ ends_of_all (happens s e).behind es

-- and so it is for them
pub record AreWhatCame (s : Subsystem) (es : List Event) (ends : List EventEnd) (pool : Pool) (xs : List Stood) : Type 0 where
  pub ended : ends_of_all s es ≡ ends
  pub left : (behind_all s es).pool ≡ counted_slots pool
  pub mounted : AreMounted pool xs (behind_all s es).mounted
