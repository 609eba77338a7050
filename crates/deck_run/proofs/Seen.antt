-- What an event's end tells by how the subsystem says that it ended is what it tells in the definitions.
use Rattle.std.proofs.Common.{◌≡◌, ◌∙◌, ◌++◌, ℕ, Bool, true, false, List, Option, Some, None, refl, sym, ap, subst}
use Rattle.std.specs.Prelude.{IfSome, IsSome, option_map}
use Rattle.ckd_types.specs.declared.channel.CommandEnd.{CommandEnd}
use Rattle.plain_defs.specs.declared.journal.Item.{Item}
use Rattle.device_outside.specs.declared.volume.Volume.{Ghosts}
use Rattle.device_core.specs.declared.device.Device.{Device}
use Rattle.device_core.specs.declared.history.Stepped.TheVariants as steps
use Rattle.device_core.specs.declared.second.SecondStep.TheVariants as parts
use Rattle.device_core.specs.State.{DefinedDevice, last_end, step_seen, second_seen}
use Rattle.device_defs.specs.declared.answers.SecondEnd.TheVariants as seconds
use Rattle.device_defs.specs.declared.answers.Stepped.TheVariants as stepped
use Rattle.report_text.specs.declared.event.Happened as report
use Rattle.report_text.specs.declared.event.Loosed.{Loosed}
use Rattle.report_text.specs.declared.line.ReportLine.{ReportLine}
use Rattle.run_report.specs.declared.told.RunningProgram.{RunningProgram}
use Rattle.run_report.specs.Answers.{order_answer, start_answer}
use Rattle.run_report.specs.Events.{end_told, work_told}
use Rattle.run_report.specs.OneDevice.{lines_by}
use Rattle.subsystem_core.specs.declared.end.EventEnd.{EventEnd}
use Rattle.subsystem_core.specs.declared.end.EventEnd.TheVariants as ends
use Rattle.subsystem_core.specs.declared.subsystem.Subsystem.{Subsystem}
use Rattle.subsystem_core.specs.Devices.{device_at}
use Rattle.subsystem_core.specs.Ends.{end_seen}
use Rattle.subsystem_defs.specs.declared.end.EventEnd as defs
use Rattle.subsystem_defs.specs.declared.end.EventEnd.TheVariants as answers
use Rattle.subsystem_defs.specs.Beside.{behind_first}
use Rattle.subsystem_defs.specs.Deeds.{end_of}
use Rattle.subsystem_defs.specs.Lines.{is_settled}
use Rattle.deck_run.specs.declared.pass.Passed.{Passed}
use Rattle.deck_run.specs.Loosening.{acts_when}
use Rattle.deck_run.specs.Passing.{lines_passed}
use Rattle.deck_run.specs.Seen.{SeesEnd, ShowsEnd, acts_seen, is_ended, settles, start_end, work_seen}
use Rattle.deck_run.specs.Sweeping.{order_end}

some_is : {X : Type 0} {x y : X} → Some x ≡ Some y → x ≡ y
some_is e = cc

-- of an end with a part of its own
end_so : {A : Type 0} (f : A → defs.EventEnd) (o : Option A) (told : defs.EventEnd) (q : defs.EventEnd → Type 0) → end_of f o ≡ Some told →
    ((a : A) → q (f a)) → q told
end_so f (Some a) told q is h = subst q (some_is is) (h a)
end_so f None told q is h = absurd (cc)

module _ (at : Option CommandEnd) (told : defs.EventEnd) where
  pub acts_are : (quiet : Bool) (a : EventEnd) (d : DefinedDevice) → end_seen at a ≡ Some told → acts_seen quiet a d ≡ acts_when quiet told d
  acts_are quiet (ends.Started n) d is = ap (λ (e : defs.EventEnd). acts_when quiet e d) (some_is is)
  acts_are quiet (ends.NotStarted fault) d is = ap (λ (e : defs.EventEnd). acts_when quiet e d) (some_is is)
  acts_are quiet ends.Running d is = ap (λ (e : defs.EventEnd). acts_when quiet e d) (some_is is)
  acts_are quiet (ends.Stepped s) d is =
      end_so answers.Stepped (step_seen at s) told (λ (e : defs.EventEnd). d.store.acts ≡ acts_when quiet e d) is (λ a. refl)
  acts_are quiet (ends.Second s) d is =
      end_so answers.Second (second_seen at s) told (λ (e : defs.EventEnd). d.store.acts ≡ acts_when quiet e d) is (λ a. refl)
  acts_are quiet ends.Idle d is = ap (λ (e : defs.EventEnd). acts_when quiet e d) (some_is is)
  acts_are quiet (ends.Back x) d is = ap (λ (e : defs.EventEnd). acts_when quiet e d) (some_is is)
  acts_are quiet ends.Done d is = ap (λ (e : defs.EventEnd). acts_when quiet e d) (some_is is)
  acts_are quiet (ends.Pending n) d is = ap (λ (e : defs.EventEnd). acts_when quiet e d) (some_is is)
  acts_are quiet (ends.Refused fault) d is = ap (λ (e : defs.EventEnd). acts_when quiet e d) (some_is is)

  pub start_is : (a : EventEnd) → end_seen at a ≡ Some told → start_answer (start_end a) ≡ start_answer told
  start_is (ends.Started n) is = ap (λ (e : defs.EventEnd). start_answer e) (some_is is)
  start_is (ends.NotStarted fault) is = ap (λ (e : defs.EventEnd). start_answer e) (some_is is)
  start_is ends.Running is = ap (λ (e : defs.EventEnd). start_answer e) (some_is is)
  start_is (ends.Stepped s) is =
      end_so answers.Stepped (step_seen at s) told (λ (e : defs.EventEnd). start_answer answers.Running ≡ start_answer e) is (λ a. refl)
  start_is (ends.Second s) is =
      end_so answers.Second (second_seen at s) told (λ (e : defs.EventEnd). start_answer answers.Running ≡ start_answer e) is (λ a. refl)
  start_is ends.Idle is = ap (λ (e : defs.EventEnd). start_answer e) (some_is is)
  start_is (ends.Back x) is = ap (λ (e : defs.EventEnd). start_answer e) (some_is is)
  start_is ends.Done is = ap (λ (e : defs.EventEnd). start_answer e) (some_is is)
  start_is (ends.Pending n) is = ap (λ (e : defs.EventEnd). start_answer e) (some_is is)
  start_is (ends.Refused fault) is = ap (λ (e : defs.EventEnd). start_answer e) (some_is is)

  pub order_is : (a : EventEnd) → end_seen at a ≡ Some told → order_answer (order_end a) ≡ order_answer told
  order_is (ends.Started n) is = ap (λ (e : defs.EventEnd). order_answer e) (some_is is)
  order_is (ends.NotStarted fault) is = ap (λ (e : defs.EventEnd). order_answer e) (some_is is)
  order_is ends.Running is = ap (λ (e : defs.EventEnd). order_answer e) (some_is is)
  order_is (ends.Stepped s) is =
      end_so answers.Stepped (step_seen at s) told (λ (e : defs.EventEnd). order_answer answers.Done ≡ order_answer e) is (λ a. refl)
  order_is (ends.Second s) is =
      end_so answers.Second (second_seen at s) told (λ (e : defs.EventEnd). order_answer answers.Done ≡ order_answer e) is (λ a. refl)
  order_is ends.Idle is = ap (λ (e : defs.EventEnd). order_answer e) (some_is is)
  order_is (ends.Back x) is = ap (λ (e : defs.EventEnd). order_answer e) (some_is is)
  order_is ends.Done is = ap (λ (e : defs.EventEnd). order_answer e) (some_is is)
  order_is (ends.Pending n) is = ap (λ (e : defs.EventEnd). order_answer e) (some_is is)
  order_is (ends.Refused fault) is = ap (λ (e : defs.EventEnd). order_answer e) (some_is is)

  settles_is : (a : EventEnd) → end_seen at a ≡ Some told → settles a ≡ is_settled told
  settles_is (ends.Started n) is = ap (λ (e : defs.EventEnd). is_settled e) (some_is is)
  settles_is (ends.NotStarted fault) is = ap (λ (e : defs.EventEnd). is_settled e) (some_is is)
  settles_is ends.Running is = ap (λ (e : defs.EventEnd). is_settled e) (some_is is)
  settles_is (ends.Stepped s) is = end_so answers.Stepped (step_seen at s) told (λ (e : defs.EventEnd). false ≡ is_settled e) is (λ a. refl)
  settles_is (ends.Second s) is = end_so answers.Second (second_seen at s) told (λ (e : defs.EventEnd). false ≡ is_settled e) is (λ a. refl)
  settles_is ends.Idle is = ap (λ (e : defs.EventEnd). is_settled e) (some_is is)
  settles_is (ends.Back x) is = ap (λ (e : defs.EventEnd). is_settled e) (some_is is)
  settles_is ends.Done is = ap (λ (e : defs.EventEnd). is_settled e) (some_is is)
  settles_is (ends.Pending n) is = ap (λ (e : defs.EventEnd). is_settled e) (some_is is)
  settles_is (ends.Refused fault) is = ap (λ (e : defs.EventEnd). is_settled e) (some_is is)

  -- work with which a command ended, and other work
  module _ (d : ℕ) (running : Option RunningProgram) (idle : report.Happened) where
    ended_is : (e : CommandEnd) (a : EventEnd) → is_ended a ≡ true → at ≡ Some e → end_seen at a ≡ Some told →
        work_told d running idle told ≡ end_told d running e
    ended_is e (ends.Stepped steps.Ended) ended last is =
        ap (λ (x : defs.EventEnd). work_told d running idle x)
        (sym (some_is (ap (λ (o : Option CommandEnd). end_of answers.Stepped (option_map stepped.Ended o)) (sym last) ∙ is)))
    ended_is e (ends.Second parts.Ended) ended last is =
        ap (λ (x : defs.EventEnd). work_told d running idle x)
        (sym (some_is (ap (λ (o : Option CommandEnd). end_of answers.Second (option_map seconds.Ended o)) (sym last) ∙ is)))
    ended_is e (ends.Stepped (steps.Half t)) ended last is = absurd (cc)
    ended_is e (ends.Second (parts.Finished t)) ended last is = absurd (cc)
    ended_is e (ends.Second (parts.Unwritten t)) ended last is = absurd (cc)
    ended_is e (ends.Started n) ended last is = absurd (cc)
    ended_is e (ends.NotStarted fault) ended last is = absurd (cc)
    ended_is e ends.Running ended last is = absurd (cc)
    ended_is e ends.Idle ended last is = absurd (cc)
    ended_is e (ends.Back x) ended last is = absurd (cc)
    ended_is e ends.Done ended last is = absurd (cc)
    ended_is e (ends.Pending n) ended last is = absurd (cc)
    ended_is e (ends.Refused fault) ended last is = absurd (cc)

    work_is : (a : EventEnd) → is_ended a ≡ false → end_seen at a ≡ Some told → work_told d running idle told ≡ work_seen d running idle a
    work_is (ends.Stepped steps.Ended) ended is = absurd (cc)
    work_is (ends.Second parts.Ended) ended is = absurd (cc)
    work_is (ends.Stepped (steps.Half t)) ended is = ap (λ (x : defs.EventEnd). work_told d running idle x) (sym (some_is is))
    work_is (ends.Second (parts.Finished t)) ended is = ap (λ (x : defs.EventEnd). work_told d running idle x) (sym (some_is is))
    work_is (ends.Second (parts.Unwritten t)) ended is = ap (λ (x : defs.EventEnd). work_told d running idle x) (sym (some_is is))
    work_is (ends.Started n) ended is = ap (λ (x : defs.EventEnd). work_told d running idle x) (sym (some_is is))
    work_is (ends.NotStarted fault) ended is = ap (λ (x : defs.EventEnd). work_told d running idle x) (sym (some_is is))
    work_is ends.Running ended is = ap (λ (x : defs.EventEnd). work_told d running idle x) (sym (some_is is))
    work_is ends.Idle ended is = ap (λ (x : defs.EventEnd). work_told d running idle x) (sym (some_is is))
    work_is (ends.Back x) ended is = ap (λ (x : defs.EventEnd). work_told d running idle x) (sym (some_is is))
    work_is ends.Done ended is = ap (λ (x : defs.EventEnd). work_told d running idle x) (sym (some_is is))
    work_is (ends.Pending n) ended is = ap (λ (x : defs.EventEnd). work_told d running idle x) (sym (some_is is))
    work_is (ends.Refused fault) ended is = ap (λ (x : defs.EventEnd). work_told d running idle x) (sym (some_is is))

-- where a command ended its end stands in the journal
last_some : {B : Type 0} (f : CommandEnd → B) (g : B → defs.EventEnd) (o : Option CommandEnd) → IsSome (end_of g (option_map f o)) → IsSome o
last_some f g (Some e) is = refl
last_some f g None is = absurd (cc)

pub last_stands : (at : Option CommandEnd) (a : EventEnd) → is_ended a ≡ true → IsSome (end_seen at a) → IsSome at
last_stands at (ends.Stepped steps.Ended) ended is = last_some stepped.Ended answers.Stepped at is
last_stands at (ends.Second parts.Ended) ended is = last_some seconds.Ended answers.Second at is
last_stands at (ends.Stepped (steps.Half t)) ended is = absurd (cc)
last_stands at (ends.Second (parts.Finished t)) ended is = absurd (cc)
last_stands at (ends.Second (parts.Unwritten t)) ended is = absurd (cc)
last_stands at (ends.Started n) ended is = absurd (cc)
last_stands at (ends.NotStarted fault) ended is = absurd (cc)
last_stands at ends.Running ended is = absurd (cc)
last_stands at ends.Idle ended is = absurd (cc)
last_stands at (ends.Back x) ended is = absurd (cc)
last_stands at ends.Done ended is = absurd (cc)
last_stands at (ends.Pending n) ended is = absurd (cc)
last_stands at (ends.Refused fault) ended is = absurd (cc)

module _ {V : Type 0} {G : Ghosts V} where
  -- of the device that is read
  pub shows_at : (s : Subsystem V G) (d : ℕ) (a : EventEnd) (y : Device V G) → device_at s.devices.items d ≡ Some y → ShowsEnd s d a →
      IsSome (end_seen (last_end y) a)
  shows_at s d a y at shows = subst (λ (o : Option (Device V G)). IfSome o (λ x. IsSome (end_seen (last_end x) a))) at shows

  pub sees_at : (s : Subsystem V G) (d : ℕ) (a : EventEnd) (told : defs.EventEnd) (y : Device V G) → device_at s.devices.items d ≡ Some y →
      SeesEnd s d a told → end_seen (last_end y) a ≡ Some told
  sees_at s d a told y at sees = subst (λ (o : Option (Device V G)). IfSome o (λ x. end_seen (last_end x) a ≡ Some told)) at sees

  pub settled_at : (s : Subsystem V G) (d : ℕ) (a : EventEnd) (told : defs.EventEnd) (y : Device V G) → device_at s.devices.items d ≡ Some y →
      SeesEnd s d a told → settles a ≡ is_settled told
  settled_at s d a told y at sees = settles_is (last_end y) told a (sees_at s d a told y at sees)

  -- What was recorded of a piece of work

  module _ (y : Device V G) (d : ℕ) (p : Passed) (idle : report.Happened) (told : defs.EventEnd) (items : List Item) (came : items ≡ behind_first p.items
      y.past.items.items) (acts : List Loosed) (noted : acts ≡ p.acts.items) (old new : List ReportLine) (seen : end_seen (last_end y) p.end ≡ Some told) where
    passed_is : (h g : report.Happened) → g ≡ h → new ≡ old ++ lines_by d h acts p.calls.reads p.calls.writes items → new ≡ old ++ lines_passed d y p g
    passed_is h g same is =
        is ∙ ap (λ (l : List Item). old ++ lines_by d h acts p.calls.reads p.calls.writes l) came
        ∙ ap (λ (l : List Loosed). old ++ lines_by d h l p.calls.reads p.calls.writes (behind_first p.items y.past.items.items)) noted
        ∙ ap (λ (x : report.Happened). old ++ lines_passed d y p x) (sym same)

    pub command_tells : (e : CommandEnd) → is_ended p.end ≡ true → last_end y ≡ Some e →
        new ≡ old ++ lines_by d (end_told d p.running e) acts p.calls.reads p.calls.writes items →
        new ≡ old ++ lines_passed d y p (work_told d p.running idle told)
    command_tells e ended last is =
        passed_is (end_told d p.running e) (work_told d p.running idle told) (ended_is (last_end y) told d p.running idle e p.end ended last seen) is

    pub work_tells : (i h : report.Happened) → i ≡ idle → h ≡ work_seen d p.running i p.end → is_ended p.end ≡ false →
        new ≡ old ++ lines_by d h acts p.calls.reads p.calls.writes items → new ≡ old ++ lines_passed d y p (work_told d p.running idle told)
    work_tells i h same did_so ended is =
        passed_is h (work_told d p.running idle told)
        (work_is (last_end y) told d p.running idle p.end ended seen
        ∙ sym (did_so ∙ ap (λ (x : report.Happened). work_seen d p.running x p.end) same)) is
