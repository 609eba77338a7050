-- The lines of a command that ends in a STEP.
use Rattle.std.specs.Prelude.{◌≡◌, ◌⊎◌, ◌++◌, ℕ, Bool, true, false, List, [], ◌∷◌, map, Option, Some, None, if◌then◌else◌}
use Rattle.ckd_types.specs.declared.channel.CommandEnd.{CommandEnd}
use Rattle.ckd_types.specs.declared.sense.Sense.{Sense}
use Rattle.ckd_types.specs.Sense.{data_check_sense, equipment_sense}
use Rattle.deck_plan.specs.declared.event.EventLine.{EventLine}
use Rattle.deck_plan.specs.declared.event.EventLine.TheVariants.{Back, Step}
use Rattle.plain_defs.specs.declared.journal.Act.{Act}
use Rattle.plain_defs.specs.declared.journal.Act.TheVariants.{Loosen, Harden, CfwLost}
use Rattle.plain_defs.specs.History.{History, IsPlain, OpenEntry, checked, ended}
use Rattle.plain_defs.specs.Legal.{AreActs}
use Rattle.device_defs.specs.Command.{is_loss}
use Rattle.device_defs.specs.Device.{all_acted}
use Rattle.report_text.specs.declared.answers.HowOver.{HowOver}
use Rattle.report_text.specs.declared.answers.HowOver.TheVariants as how
use Rattle.report_text.specs.declared.answers.LooseAnswer.TheVariants as loose
use Rattle.report_text.specs.declared.line.ReportLine.{ReportLine}
use Rattle.report_text.specs.declared.line.ReportLine.TheVariants as lines
use Rattle.report_text.specs.declared.event.Happened.TheVariants as did
use Rattle.report_text.specs.Events.{ended_lines, in_order, line_if}
use Rattle.deck_audit.specs.declared.state.Did.{Did}
use Rattle.deck_audit.specs.declared.state.Did.TheVariants.{CheckEnded, Ended}
use Rattle.deck_audit.specs.declared.state.Due.TheVariants.{Behind, Next}
use Rattle.deck_audit.specs.declared.state.HalfWrite.TheVariants.{Closed, OfCommand}
use Rattle.report_text.specs.declared.answers.BackAnswer.{BackAnswer}
use Rattle.deck_audit.specs.declared.state.HalfWrite.{HalfWrite}
use Rattle.deck_audit.specs.Place.{holds, may_back}
use Rattle.deck_audit.specs.Device.{AuditedDevice, check_end, is_next_legal, may_loosen, outline_of, plain_end, state_of, with_device, words_of_open}
use Rattle.deck_audit.specs.History.{back_half, is_legal}
use Rattle.deck_audit.specs.State.{AuditState, settled, worker, worker_number}
use Rattle.audit_laws.specs.Standing.{LeadsBy}

abbrev pub IsCheckSense : Sense → Type 0
IsCheckSense sense = (sense ≡ equipment_sense) ⊎ (sense ≡ data_check_sense)

-- before the step, and behind the lines of its end
abbrev pub before_step : List AuditedDevice → List EventLine → AuditedDevice → AuditState
before_step xs later a = record { devices = xs; events = Step a.number ∷ later; due = Next }

abbrev pub behind_ends : List AuditedDevice → List EventLine → AuditedDevice → Did → AuditState
behind_ends xs later a did = record { devices = with_device xs (record a { half = Closed }); events = Step a.number ∷ later; due = Behind true did }

pub record EndsLead (xs : List AuditedDevice) (later : List EventLine) (a : AuditedDevice) (o : OpenEntry) (p : CommandEnd) : Type 0 where
  pub plainly : LeadsBy (before_step xs later a) (ended_lines o.path a.number o.ordinal p) (behind_ends xs later a (Ended p))
  pub checked : (sense : Sense) → IsCheckSense sense →
      LeadsBy (before_step xs later a) (ended_lines o.path a.number o.ordinal (check_end (words_of_open a o) p.index sense))
      (behind_ends xs later a (CheckEnded (check_end (words_of_open a o) p.index sense)))

-- the end of the plain device, or equipment check or data check in its place. The plain device has equipment check only where a command
-- would look at more tracks than there are
abbrev pub StepEnds : List AuditedDevice → List EventLine → AuditedDevice → OpenEntry → Type 0
StepEnds xs later a o = (p : CommandEnd) → plain_end a o ≡ Some p → (p.sense ≡ Some equipment_sense → ⊥) → EndsLead xs later a o p

-- Where a state leads once nothing is half told: a piece of work of this device may be known to be done only at the next line

pub data Reaches (n : Option ℕ) (s t : AuditState) : Type 0 where
  is_there : s ≡ t → Reaches n s t
  is_waiting : (more : Bool) (did : Did) → s.due ≡ Behind more did → worker_number s ≡ n → holds (worker s) (is_legal did) ≡ true → settled s did ≡ t →
      Reaches n s t

-- All lines of the step: its end, acts of cache fast write by which tracks become firm, volume calls, the program that is over

abbrev pub act_line : ℕ → Act → ReportLine
act_line n (Harden t) = lines.Loose n (loose.Harden t)
act_line n (Loosen t) = lines.Loose n (loose.Loosen t)
act_line n CfwLost = lines.Finish

abbrev pub NoLoss : List Act → Type 0
NoLoss [] = Unit {0}
NoLoss (act ∷ acts) = (is_loss act ≡ false) × NoLoss acts

abbrev pub over_told : AuditedDevice → OpenEntry → HowOver → ReportLine
over_told a o ended = lines.Over o.path a.number o.ordinal ended

abbrev pub over_if : Bool → ReportLine → Option ReportLine
over_if over line = if over then Some line else None

-- the audit's device behind them
abbrev pub acted_to : AuditedDevice → List Act → AuditedDevice
acted_to a acts = record a { history = all_acted a.history acts; half = Closed }

abbrev pub step_done : List AuditedDevice → List EventLine → AuditedDevice → History → AuditState
step_done xs later a h = record { devices = with_device xs (record a { history = h; half = Closed }); events = later; due = Next }

-- the lines of a step with this end
abbrev pub step_lines : AuditedDevice → OpenEntry → CommandEnd → List Act → ℕ → ℕ → Option ReportLine → List ReportLine
step_lines a o e acts reads writes over =
    in_order (did.Ended o.path a.number o.ordinal e) (map (act_line a.number) acts) reads writes (line_if over)

abbrev pub LeadsTowards : AuditState → List ReportLine → AuditState → Type 0
LeadsTowards s ls t = (u : AuditState) × LeadsBy s ls u × Reaches (worker_number s) u t

pub record StepLeads (xs : List AuditedDevice) (later : List EventLine) (a : AuditedDevice) (o : OpenEntry) (p : CommandEnd) (acts : List Act) : Type 0 where
  -- the command may edit its track
  pub plainly : (reads writes : ℕ) → is_next_legal (acted_to a acts) (all_acted a.history acts).running ≡ true →
      LeadsTowards (before_step xs later a) (step_lines a o p acts reads writes (over_if p.over (over_told a o how.Full)))
      (step_done xs later a (ended (all_acted a.history acts) p))
  -- a track becomes loose directly before the command that edits it
  pub loosened : (reads writes : ℕ) (t : ℕ) → may_loosen (acted_to a acts) (all_acted a.history acts).running t ≡ true →
      is_next_legal (acted_to a (acts ++ Loosen t ∷ [])) (all_acted a.history (acts ++ Loosen t ∷ [])).running ≡ true →
      LeadsTowards (before_step xs later a)
      (step_lines a o p (acts ++ Loosen t ∷ []) reads writes (over_if p.over (over_told a o how.Full)))
      (step_done xs later a (ended (all_acted a.history (acts ++ Loosen t ∷ [])) p))
  pub checked : (reads writes : ℕ) (sense : Sense) → IsCheckSense sense →
      LeadsTowards (before_step xs later a)
      (step_lines a o (check_end (words_of_open a o) p.index sense) acts reads writes (Some (over_told a o how.Checked)))
      (step_done xs later a (checked (all_acted a.history acts) (check_end (words_of_open a o) p.index sense)))

-- of a device whose history is a plain device's, where p is the plain device's end
abbrev pub WholeStepLeads : List AuditedDevice → List EventLine → AuditedDevice → OpenEntry → Type 0
WholeStepLeads xs later a o =
    (p : CommandEnd) → plain_end a o ≡ Some p → (p.sense ≡ Some equipment_sense → ⊥) → IsPlain a.plans a.empty a.history →
    (acts : List Act) → NoLoss acts → AreActs (state_of a) None acts → StepLeads xs later a o p acts

-- The first part of a command's write, and work of the background

-- the lines of such a piece of work, told by this line
abbrev pub piece_lines : ReportLine → AuditedDevice → List Act → ℕ → ℕ → List ReportLine
piece_lines line a acts reads writes = in_order (did.First line) (map (act_line a.number) acts) reads writes []

abbrev pub worked_to : List AuditedDevice → List EventLine → AuditedDevice → List Act → HalfWrite → AuditState
worked_to xs later a acts half = record {
  devices = with_device xs (record a { history = all_acted a.history acts; half = half });
  events = later;
  due = Next;
}

abbrev pub HalfLeads : List AuditedDevice → List EventLine → AuditedDevice → OpenEntry → Type 0
HalfLeads xs later a o =
    IsPlain a.plans a.empty a.history → (track : ℕ) (acts : List Act) → NoLoss acts → AreActs (state_of a) None acts → (reads writes : ℕ) →
    LeadsTowards (before_step xs later a)
    (piece_lines (lines.Half o.path a.number track) a acts reads writes) (worked_to xs later a acts OfCommand)

abbrev pub BackLeads : List AuditedDevice → List EventLine → AuditedDevice → Type 0
BackLeads xs later a =
    IsPlain a.plans a.empty a.history → (answer : BackAnswer) → may_back (outline_of a) (lines.Back a.number answer) a.half ≡ true →
    (acts : List Act) → NoLoss acts → AreActs (state_of a) None acts → (reads writes : ℕ) →
    LeadsTowards (record { devices = xs; events = Back a.number ∷ later; due = Next })
    (piece_lines (lines.Back a.number answer) a acts reads writes)
    (worked_to xs later a acts (back_half a answer))
