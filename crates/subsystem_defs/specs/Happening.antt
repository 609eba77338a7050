-- What happens at an event of a run, where the pool and the calls that fail are told and memory is had.
use Rattle.std.specs.Prelude.{ℕ, ◌==◌, true, Bool, false, List, [], ◌∷◌, Option, Some, None, if◌then◌else◌}
use Rattle.ckd_types.specs.declared.paths.Side.{Side}
use Rattle.track_image.specs.Image.{Image}
use Rattle.device_outside.specs.Interaction.{Interaction}
use Rattle.device_outside.specs.Pool.{Pool}
use Rattle.device_outside.specs.Told.{Calls, Told, RunOutcome, hold}
use Rattle.device_defs.specs.Contents.{by_plain}
use Rattle.device_defs.specs.Marks.{MarksDevice}
use Rattle.device_defs.specs.Orders.{join, split, restore, replace, lend}
use Rattle.subsystem_defs.specs.declared.end.EventEnd.{EventEnd}
use Rattle.subsystem_defs.specs.declared.end.EventEnd.TheVariants as ends
use Rattle.subsystem_defs.specs.declared.end.OrderFault.{OrderFault}
use Rattle.subsystem_defs.specs.declared.event.Event.{Event}
use Rattle.subsystem_defs.specs.Deeds.{Deed, Ends, Becomes, Asks, Each, Repairs, Lends, deed}
use Rattle.subsystem_defs.specs.Refusals.{unpair_fault, replace_fault}
use Rattle.subsystem_defs.specs.Subsystem.{Mounted, Subsystem, devices_of, mounted_in, with_mounted, with_calls}

-- how an event ended, its volume calls, and the subsystem before and behind it
pub record EventHappened : Type 0 where
  pub end : EventEnd
  pub reads : ℕ
  pub writes : ℕ
  pub before : Subsystem
  pub behind : Subsystem

-- without a volume call
abbrev pub quietly : Subsystem → Subsystem → EventEnd → EventHappened
quietly before behind end = record { end = end; reads = 0; writes = 0; before = before; behind = behind }

abbrev pub MarksDeed : Type 0
MarksDeed = Deed Bool (Unit {0}) (Unit {0}) Bool

abbrev pub Talk : Type 0 → Type 0
Talk A = Interaction Bool Image MarksDevice A

-- One device's event

abbrev pub told_to : Pool → Mounted → Told
told_to pool m = record { pool = pool; a = m.a; b = m.b; reads = 0; writes = 0 }

-- with its volumes, and with the pool
abbrev pub held_with : {A : Type 0} → Pool → Mounted → Talk A → RunOutcome MarksDevice A
held_with pool m talk = hold true talk (told_to pool m)

abbrev pub mounted_behind : {A : Type 0} → RunOutcome MarksDevice A → Mounted
mounted_behind o = record { device = o.state; a = o.told.a; b = o.told.b }

abbrev pub behind_outcome : {A : Type 0} → Subsystem → ℕ → RunOutcome MarksDevice A → Subsystem
behind_outcome s n o = record (with_mounted s n (mounted_behind o)) { pool = o.told.pool }

-- memory is had, so the other end never comes
abbrev pub told_end : Option EventEnd → EventEnd
told_end (Some end) = end
told_end None = ends.Idle

abbrev pub with_outcome : Subsystem → ℕ → RunOutcome MarksDevice (Option EventEnd) → EventHappened
with_outcome s n o = record {
  end = told_end o.answer;
  reads = o.told.reads;
  writes = o.told.writes;
  before = s;
  behind = behind_outcome s n o;
}

abbrev pub asks : Subsystem → ℕ → Option Mounted → Talk (Option EventEnd) → EventHappened
asks s n (Some m) talk = with_outcome s n (held_with s.pool m talk)
asks s n None talk = quietly s s ends.Idle

abbrev pub becomes : Subsystem → ℕ → Option Mounted → MarksDevice → Subsystem
becomes s n (Some m) d = with_mounted s n (record m { device = d })
becomes s n None d = s

-- Every device's event, in rising order of numbers. None of these has a volume call

pub record Swept : Type 0 where
  pub pool : Pool
  pub mounted : List Mounted

abbrev pub swept_on : (Pool → Swept) → RunOutcome MarksDevice (Unit {0}) → Swept
swept_on rest o = record { pool = (rest o.told.pool).pool; mounted = mounted_behind o ∷ (rest o.told.pool).mounted }

unfoldable pub sweep : (MarksDevice → Talk (Unit {0})) → List Mounted → Pool → Swept
sweep f [] pool = record { pool = pool; mounted = [] }
sweep f (m ∷ ms) pool = swept_on (sweep f ms) (held_with pool m (f m.device))

abbrev pub swept : Swept → Subsystem
swept x = record { pool = x.pool; mounted = x.mounted }

-- Two devices. The second one's volume goes to side B of the first

abbrev pub joined : Subsystem → ℕ → Calls → Option Mounted → Subsystem
joined s n volume (Some m) = with_mounted s n (record m { device = join m.device; b = volume })
joined s n volume None = s

abbrev pub lent_behind : Subsystem → ℕ → ℕ → RunOutcome MarksDevice (Unit {0}) → Subsystem
lent_behind s a b o = let z = behind_outcome s b o in joined z a o.told.a (mounted_in z.mounted a)

abbrev pub lends : Subsystem → ℕ → ℕ → Option Mounted → Subsystem
lends s a b (Some m) = lent_behind s a b (held_with s.pool m (lend by_plain m.device a))
lends s a b None = s

-- The whole

abbrev pub happens_by : Subsystem → MarksDeed → EventHappened
happens_by s (Ends end) = quietly s s end
happens_by s (Becomes d end) = quietly s (becomes s d.store.device (mounted_in s.mounted d.store.device) d) end
happens_by s (Asks d talk) = asks s d.store.device (mounted_in s.mounted d.store.device) talk
happens_by s (Each pool f) = quietly s (swept (sweep f s.mounted pool)) ends.Done
happens_by s (Repairs pool) = quietly s (record s { pool = pool }) ends.Done
happens_by s (Lends a b) = quietly s (lends s a.store.device b.store.device (mounted_in s.mounted b.store.device)) ends.Done

unfoldable pub happens : Subsystem → Event → EventHappened
happens s e = happens_by s (deed by_plain s.pool (devices_of s) e)

-- The two orders for which a volume is handed in. Refused, they drop it

abbrev pub replaced_by : Subsystem → ℕ → Side → Calls → Mounted → Option OrderFault → EventHappened
replaced_by s d side volume m (Some f) = quietly s s (ends.Refused f)
replaced_by s d side volume m None =
    quietly s (with_mounted s d (with_calls (record m { device = replace m.device side }) side volume)) ends.Done

abbrev pub replaced_at : Subsystem → ℕ → Side → Calls → Option Mounted → EventHappened
replaced_at s d side volume (Some m) = replaced_by s d side volume m (replace_fault m.device side)
replaced_at s d side volume None = quietly s s ends.Done

-- in place of a failed side's volume
unfoldable pub replaced : Subsystem → ℕ → Side → Calls → EventHappened
replaced s d side volume = replaced_at s d side volume (mounted_in s.mounted d)

abbrev pub is_lent_to : Option ℕ → ℕ → Bool
is_lent_to (Some to) a = to == a
is_lent_to None a = false

-- the device that was lent to a gets the volume that is handed in
abbrev pub restored_in : List Mounted → ℕ → Calls → List Mounted
restored_in [] a volume = []
restored_in (m ∷ ms) a volume =
    if is_lent_to m.device.store.lent a then record m { device = restore m.device; a = volume } ∷ ms
    else m ∷ restored_in ms a volume

abbrev pub unpaired_behind : Subsystem → ℕ → Calls → Mounted → Subsystem
unpaired_behind s a volume m =
    let z = with_mounted s a (record m { device = split m.device }) in record z { mounted = restored_in z.mounted a volume }

abbrev pub unpaired_by : Subsystem → ℕ → Calls → Mounted → Option OrderFault → EventHappened
unpaired_by s a volume m (Some f) = quietly s s (ends.Refused f)
unpaired_by s a volume m None = quietly s (unpaired_behind s a volume m) ends.Done

abbrev pub unpaired_at : Subsystem → ℕ → Calls → Option Mounted → EventHappened
unpaired_at s a volume (Some m) = unpaired_by s a volume m (unpair_fault m.device)
unpaired_at s a volume None = quietly s s ends.Done

-- side B leaves the subsystem
unfoldable pub unpaired : Subsystem → ℕ → Calls → EventHappened
unpaired s a volume = unpaired_at s a volume (mounted_in s.mounted a)
