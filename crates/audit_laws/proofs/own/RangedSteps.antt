-- Each track that a step or a piece of work of a run tells of is in its range.
use Rattle.std.proofs.Common.{arith, ◌≡◌, ◌<◌, Option, refl}
use Rattle.std.specs.Prelude.{IfSome}
use Rattle.ckd_chain.specs.State.{ChainState}
use Rattle.device_defs.specs.declared.answers.Did.{Did}
use Rattle.device_defs.specs.declared.answers.Stepped.{Stepped}
use Rattle.device_defs.specs.Contents.{by_plain}
use Rattle.device_defs.specs.Command.{command}
use Rattle.device_defs.specs.Events.{background, second}
use Rattle.device_defs.specs.Marks.{MarksDevice}
use Rattle.device_defs.specs.Store.{HalfWrite, tracks_of}
use Rattle.device_laws.specs.InOrder.{AreBelow}
use Rattle.device_laws.specs.Standing.{IsWithin}
use Rattle.device_laws.proofs.Had.{had_done, had_then, Had}
use Rattle.device_laws.proofs.Sweeps.{all_queued, half_within}
use Rattle.subsystem_defs.specs.declared.end.EventEnd.{EventEnd}
use Rattle.subsystem_defs.specs.declared.end.EventEnd.TheVariants as ends
use Rattle.subsystem_defs.specs.Deeds.{end_of, ends_by, may_end_by}
use Rattle.subsystem_defs.specs.Happening.{Talk}
use Rattle.subsystem_laws.proofs.GoodMarks.{Good, by_lent, within}
use Rattle.audit_laws.proofs.own.DeviceSizes.{Sized}
use Rattle.audit_laws.proofs.own.RangedWork.{DidIn, MayDidIn, MayStepIn, SecondIn, SteppedIn, WorksOn, background_in, command_in, second_in}

-- A device of a run

module _ (d : MarksDevice) (g : Good d) where
  half_on : (o : Option (HalfWrite (Unit {0}))) → d.store.half ≡ o → IfSome o (λ h. h.track < tracks_of d.store)
  half_on o is = grind (arith, by_lent, half_within)

  queue_on : AreBelow (tracks_of d.store) d.store.queue
  queue_on = grind (arith, by_lent, all_queued)

  chain_on : (o : Option ChainState) → d.chain ≡ o → IfSome o (IsWithin (tracks_of d.store))
  chain_on o is = grind (arith, within)

  pub works_on : Sized d → WorksOn d
  works_on s = record { cylinders = s.cylinders; half = half_on d.store.half refl; queued = queue_on; chain = chain_on d.chain refl }

-- An event

abbrev pub WorkIn : EventEnd → Type 0
WorkIn (ends.Stepped x) = SteppedIn x
WorkIn (ends.Second x) = SecondIn x
WorkIn (ends.Back x) = DidIn x
WorkIn _ = Unit {0}

step_end : (o : Option Stepped) → MayStepIn o → IfSome (end_of ends.Stepped o) WorkIn
step_end o h = grind arith

did_end : (o : Option Did) → MayDidIn o → IfSome (end_of ends.Back o) WorkIn
did_end o h = grind arith

abbrev Tells : Talk (Option EventEnd) → Type 0
Tells talk = Had talk (λ y end. IfSome end WorkIn)

module _ (d : MarksDevice) (w : WorksOn d) where
  pub second_tells : Tells (ends_by ends.Second (second by_plain d))
  second_tells = had_then (second_in d w) (λ z a h. had_done h)

  pub command_tells : Tells (may_end_by ends.Stepped (command by_plain d))
  command_tells = had_then (command_in d w) (λ z a h. had_done (step_end a h))

  pub background_tells : Tells (may_end_by ends.Back (background by_plain d))
  background_tells = had_then (background_in d w) (λ z a h. had_done (did_end a h))
