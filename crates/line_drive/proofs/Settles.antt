-- Whether nothing more is done by itself, by how an event ended.
use Rattle.std.proofs.Common.{◌≡◌, ℕ, true, false, Option, Some, None, refl, ap, subst}
use Rattle.device_outside.specs.declared.volume.Volume.{Ghosts}
use Rattle.device_core.specs.State.{step_seen, second_seen}
use Rattle.subsystem_core.specs.declared.end.EventEnd.{EventEnd}
use Rattle.subsystem_core.specs.declared.end.EventEnd.TheVariants as ends
use Rattle.subsystem_core.specs.declared.subsystem.Subsystem.{Subsystem}
use Rattle.subsystem_core.specs.Devices.{numbers_of}
use Rattle.subsystem_core.specs.Ends.{end_seen}
use Rattle.subsystem_core.specs.Places.{may_come}
use Rattle.subsystem_defs.specs.declared.end.EventEnd as defs
use Rattle.subsystem_defs.specs.declared.end.EventEnd.TheVariants as answers
use Rattle.subsystem_defs.specs.declared.event.Event.{Event}
use Rattle.subsystem_defs.specs.declared.event.Event.TheVariants as events
use Rattle.subsystem_defs.specs.Deeds.{end_of}
use Rattle.subsystem_defs.specs.Lines.{is_settled}
use Rattle.deck_run.specs.Seen.{settles}
use Rattle.deck_run.proofs.Events.{has_one}
use Rattle.deck_run.proofs.Seen.{settled_at}
use Rattle.deck_run.proofs.Sweeping.{blank}
use Rattle.line_drive.specs.Ending.{EndsAs}

some_is : {X : Type 0} {x y : X} → Some x ≡ Some y → x ≡ y
some_is e = cc

-- of an end with a part of its own
end_so : {A : Type 0} (f : A → defs.EventEnd) (o : Option A) (end : defs.EventEnd) (q : defs.EventEnd → Type 0) → end_of f o ≡ Some end →
    ((a : A) → q (f a)) → q end
end_so f (Some a) end q is h = subst q (some_is is) (h a)
end_so f None end q is h = absurd (cc)

plainly : (a : EventEnd) (end : defs.EventEnd) → end_seen blank a ≡ Some end → settles a ≡ is_settled end
plainly (ends.Started n) end is = ap (λ (e : defs.EventEnd). is_settled e) (some_is is)
plainly (ends.NotStarted fault) end is = ap (λ (e : defs.EventEnd). is_settled e) (some_is is)
plainly ends.Running end is = ap (λ (e : defs.EventEnd). is_settled e) (some_is is)
plainly (ends.Stepped s) end is = end_so answers.Stepped (step_seen blank s) end (λ (e : defs.EventEnd). false ≡ is_settled e) is (λ a. refl)
plainly (ends.Second s) end is = end_so answers.Second (second_seen blank s) end (λ (e : defs.EventEnd). false ≡ is_settled e) is (λ a. refl)
plainly ends.Idle end is = ap (λ (e : defs.EventEnd). is_settled e) (some_is is)
plainly (ends.Back x) end is = ap (λ (e : defs.EventEnd). is_settled e) (some_is is)
plainly ends.Done end is = ap (λ (e : defs.EventEnd). is_settled e) (some_is is)
plainly (ends.Pending n) end is = ap (λ (e : defs.EventEnd). is_settled e) (some_is is)
plainly (ends.Refused fault) end is = ap (λ (e : defs.EventEnd). is_settled e) (some_is is)

module _ {V : Type 0} {G : Ghosts V} (s : Subsystem V G) (a : EventEnd) (end : defs.EventEnd) where
  at_one : (d : ℕ) → may_come (numbers_of s.devices.items) (events.Step d) ≡ true → EndsAs (events.Step d) s a end → settles a ≡ is_settled end
  at_one d may so =
      let y = has_one s.devices.items d may in settled_at s d a end y.device y.found so

  pub settles_as : (e : Event) → may_come (numbers_of s.devices.items) e ≡ true → EndsAs e s a end → settles a ≡ is_settled end
  settles_as (events.Start path d) may so = at_one d may so
  settles_as (events.Step d) may so = at_one d may so
  settles_as (events.Back d) may so = at_one d may so
  settles_as (events.Reset path d) may so = at_one d may so
  settles_as (events.FailVolume d side) may so = at_one d may so
  settles_as (events.Suspend d) may so = at_one d may so
  settles_as (events.Resume d) may so = at_one d may so
  settles_as events.FailCache may so = plainly a end (so blank)
  settles_as events.FailStore may so = plainly a end (so blank)
  settles_as events.RepairCache may so = plainly a end (so blank)
  settles_as events.RepairStore may so = plainly a end (so blank)
  settles_as events.Power may so = plainly a end (so blank)
  settles_as (events.Pair n m) may so = plainly a end (so blank)
