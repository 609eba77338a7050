-- Each event of a run begins where the one before it ended.
use Rattle.std.proofs.Common.{◌≡◌, ℕ, List, Option, Some, None, refl}
use Rattle.ckd_types.specs.declared.paths.Side.{Side}
use Rattle.device_outside.specs.Told.{Calls}
use Rattle.device_defs.specs.Contents.{by_plain}
use Rattle.subsystem_defs.specs.declared.end.OrderFault.{OrderFault}
use Rattle.subsystem_defs.specs.declared.event.Event.{Event}
use Rattle.subsystem_defs.specs.declared.event.Event.TheVariants as events
use Rattle.subsystem_defs.specs.Deeds.{Ends, Becomes, Asks, Each, Repairs, Lends, deed}
use Rattle.subsystem_defs.specs.Happening as H
use Rattle.subsystem_defs.specs.Happening.{
  MarksDeed,
  Talk,
  asks,
  happens_by,
  happens,
  quietly,
  replaced_by,
  replaced_at,
  replaced,
  unpaired_by,
  unpaired_at,
  unpaired,
}
use Rattle.subsystem_defs.specs.declared.end.EventEnd.{EventEnd}
use Rattle.subsystem_defs.specs.Lines.{Asked, Logged, run_lines}
use Rattle.subsystem_defs.specs.Refusals.{replace_fault, unpair_fault}
use Rattle.subsystem_defs.specs.Subsystem.{Mounted, Subsystem, devices_of, mounted_in, unfailing}
use Rattle.subsystem_laws.proofs.RunLines.{AnyEvent, Logs, Goes, lines_keep}

abbrev pub Linked : Subsystem → List Logged → Type 0
Linked s ts = Logs (λ s. Unit {0}) (λ s t. t.happened.before ≡ s) s ts

-- One event

asks_from : (s : Subsystem) (n : ℕ) (o : Option Mounted) (talk : Talk (Option EventEnd)) → (asks s n o talk).before ≡ s
asks_from s n (Some m) talk = refl
asks_from s n None talk = refl

deed_from : (s : Subsystem) (x : MarksDeed) → (happens_by s x).before ≡ s
deed_from s (Ends end) = refl
deed_from s (Becomes d end) = refl
deed_from s (Asks d talk) = asks_from s d.store.device (mounted_in s.mounted d.store.device) talk
deed_from s (Each pool f) = refl
deed_from s (Repairs pool) = refl
deed_from s (Lends a b) = refl

pub event_from : (s : Subsystem) (e : Event) → (happens s e).before ≡ s
unfolding H.happens
event_from s e = deed_from s (deed by_plain s.pool (devices_of s) e)

replaced_from : (s : Subsystem) (d : ℕ) (side : Side) (volume : Calls) (o : Option Mounted) → (replaced_at s d side volume o).before ≡ s
replaced_from s d side volume None = refl
replaced_from s d side volume (Some m) = by_fault (replace_fault m.device side) where
  by_fault : (o : Option OrderFault) → (replaced_by s d side volume m o).before ≡ s
  by_fault (Some fault) = refl
  by_fault None = refl

unpaired_from : (s : Subsystem) (a : ℕ) (volume : Calls) (o : Option Mounted) → (unpaired_at s a volume o).before ≡ s
unpaired_from s a volume None = refl
unpaired_from s a volume (Some m) = by_fault (unpair_fault m.device) where
  by_fault : (o : Option OrderFault) → (unpaired_by s a volume m o).before ≡ s
  by_fault (Some fault) = refl
  by_fault None = refl

-- All lines

links_go : Goes (λ s. Unit {0}) (λ s t. t.happened.before ≡ s) AnyEvent
unfolding H.replaced H.unpaired
links_go = record {
  once = λ s e may q. (tt, event_from s e);
  stepped = λ s d q. (tt, event_from s (events.Step d));
  idle = λ s d q. (tt, refl);
  backed = λ s d q. (tt, event_from s (events.Back d));
  replaces = λ s d side q. (tt, replaced_from s d side unfailing (mounted_in s.mounted d));
  unpairs = λ s a q. (tt, unpaired_from s a unfailing (mounted_in s.mounted a));
}

pub lines_linked : (lines : List Asked) (s : Subsystem) → Linked s (run_lines lines s)
lines_linked lines s = lines_keep (λ s. Unit {0}) (λ s t. t.happened.before ≡ s) links_go lines s tt
