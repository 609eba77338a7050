-- Index, status, residual, the bytes that are sent, and sense of a command's end are in their ranges, whatever event of a device ends it.
use Rattle.std.proofs.Common.{◌≡◌, ◌<◌, ℕ, List, length, Option, Some, None, refl, sym, ap, subst, ◌∙◌, inl, inr, arith}
use Rattle.std.specs.Prelude.{IfSome}
use Rattle.hex.specs.Hex.{IsBytes}
use Rattle.ckd_types.specs.declared.channel.Ccw.{Ccw}
use Rattle.ckd_types.specs.declared.channel.CommandEnd.{CommandEnd}
use Rattle.ckd_types.specs.declared.sense.Sense.{Sense}
use Rattle.ckd_types.specs.declared.status.UnitStatus.{UnitStatus}
use Rattle.ckd_types.specs.Ccw.{ccw_at}
use Rattle.ckd_types.specs.Fixed.{Fixed}
use Rattle.ckd_rules.specs.declared.ending.Ending.{Ending}
use Rattle.ckd_rules.specs.declared.stance.Stance.{Stance}
use Rattle.ckd_rules.specs.Ending.{Outcome, check}
use Rattle.ckd_rules.specs.Ends.{end_at_word}
use Rattle.plain_defs.specs.Effect.{effect_on}
use Rattle.plain_defs.specs.History.{History, IsPlain, OpenEntry, state_by}
use Rattle.plain_defs.specs.Journal.{program_of, replay}
use Rattle.plain_defs.specs.PlainState.{PlainState}
use Rattle.plain_defs.specs.Program.{Part}
use Rattle.plain_defs.specs.Whole.{GivesBytes}
use Rattle.device_defs.specs.declared.answers.SecondEnd.{SecondEnd}
use Rattle.device_defs.specs.declared.answers.SecondEnd.TheVariants as seconds
use Rattle.device_defs.specs.declared.answers.Stepped.{Stepped}
use Rattle.device_defs.specs.declared.answers.Stepped.TheVariants as stepped
use Rattle.device_defs.specs.Command.{command}
use Rattle.device_defs.specs.Contents.{by_plain}
use Rattle.device_defs.specs.Device.{all_acted}
use Rattle.device_defs.specs.Events.{second}
use Rattle.device_defs.specs.Marks.{MarksDevice}
use Rattle.device_defs.specs.Store as store
use Rattle.device_defs.specs.Store.{Origin, OfBackground, OfCommand, OfCut}
use Rattle.device_laws.proofs.Had.{Had, had_done, had_then}
use Rattle.device_laws.proofs.HistoryTold.{HasEnded, checked_so, ended_so}
use Rattle.device_laws.proofs.PlainStores.{core_of}
use Rattle.device_laws.proofs.PlainTurns.{Follows, IsMid, IsMidOf, some_none}
use Rattle.device_laws.specs.Unharmed.{all_losses}
use Rattle.deck_audit.specs.declared.state.HalfWrite.TheVariants as half
use Rattle.report_reading.specs.Ranges.{AreBytes, IsShort}
use Rattle.deck_audit.specs.Device.{check_end, part_of_open, plain_end, plain_end_at, words_of_open}
use Rattle.run_report.proofs.ActsCome.{all_acts, ended_acts}
use Rattle.subsystem_defs.specs.declared.end.EventEnd.{EventEnd}
use Rattle.subsystem_defs.specs.declared.end.EventEnd.TheVariants as ends
use Rattle.subsystem_defs.specs.Beside.{acts_in}
use Rattle.subsystem_defs.specs.Deeds.{end_of as end_with, ends_by, may_end_by}
use Rattle.subsystem_laws.proofs.PlainRuns.{Plainly}
use Rattle.audit_laws.specs.Standing.{audited}
use Rattle.audit_laws.specs.Steps.{IsCheckSense}
use Rattle.audit_laws.proofs.own.CameOut.{checks_so, ends_plain, ends_so}
use Rattle.audit_laws.proofs.own.GivenBytes.{as_bytes, no_bytes}
use Rattle.audit_laws.proofs.own.KeptBytes.{KeepsBytes, command_sends, empty_keeps, history_keeps}
use Rattle.audit_laws.proofs.own.KeptSenses.{check_sense_in, walk_sense}
use Rattle.audit_laws.proofs.own.Lossless.{none_lost}
use Rattle.audit_laws.proofs.own.Pieces.{CommandSo, SecondSo, command_so, plain_behind, plainly, second_so}
use Rattle.audit_laws.proofs.own.PlannedWords.{GoodWords, part_index}
use Rattle.audit_laws.proofs.own.ResetDevices.{HasParts}
use Rattle.audit_laws.proofs.own.Tidy.{FitsBy, WalkFits, outcome_fits}

pub record EndIn (e : CommandEnd) : Type 0 where
  pub index : IsShort e.index
  pub residual : IsShort e.residual
  pub status : e.status.0 < 256
  pub sent : IsBytes e.sent
  pub sense : IfSome e.sense (λ s. AreBytes 32 s.bytes)

abbrev pub EventIn : EventEnd → Type 0
EventIn (ends.Stepped (stepped.Ended e)) = EndIn e
EventIn (ends.Second (seconds.Ended e)) = EndIn e
EventIn _ = Unit {0}

check_in : (s : UnitStatus) → s ≡ check → s.0 < 256
check_in s is = subst (λ (x : UnitStatus). x.0 < 256) (sym is) (omega arith)

-- By the rules

fits_status : (c : Ccw) (e : Ending) (o : Option Sense) → FitsBy c e o → e.status.0 < 256
fits_status c e o h = grind (arith, check_in)

fits_residual : (c : Ccw) (e : Ending) (o : Option Sense) → c.count < 65536 → FitsBy c e o → e.residual < 65536
fits_residual c e o few h = grind arith

rule_in : (i : ℕ) (f : Fixed) (state : PlainState) (path : ℕ) (s : Stance) (c : Ccw) → i < 65536 → c.count < 65536 → GivesBytes c → KeepsBytes state →
    EndIn (end_at_word i c (effect_on f state path s c).outcome)
rule_in i f state path s c index few gives keeps =
    by_fits (effect_on f state path s c).outcome (command_sends f state path s c gives keeps) (outcome_fits f state path s c) where
      residual_by : (o : Outcome) → WalkFits c o → o.ending.residual < 65536
      residual_by o (inl h) = fits_residual c o.ending o.ending.sense few h
      residual_by o (inr h) = subst (λ (n : ℕ). n < 65536) (sym h.2) few

      status_by : (o : Outcome) → WalkFits c o → o.ending.status.0 < 256
      status_by o (inl h) = fits_status c o.ending o.ending.sense h
      status_by o (inr h) = check_in o.ending.status h.1

      by_fits : (o : Outcome) → IsBytes o.ending.sent → WalkFits c o → EndIn (end_at_word i c o)
      by_fits o sent h = record { index = index; residual = residual_by o h; status = status_by o h; sent = sent; sense = walk_sense c o h }

plain_in : (path : ℕ) (ccws : List Ccw) (p : Part) (next : Option ℕ) (e : CommandEnd) → GoodWords ccws → KeepsBytes p.state →
    ((j : ℕ) → next ≡ Some j → j < 65536) → plain_end_at path ccws p next ≡ Some e → EndIn e
plain_in path ccws p (Some i) e good keeps index is =
    let same : end_at_word i (ccw_at ccws i) (effect_on p.fixed p.state path p.stance (ccw_at ccws i)).outcome ≡ e = cc in
    subst EndIn same (rule_in i p.fixed p.state path p.stance (ccw_at ccws i) (index i refl) (good.counts i) (good.gives i) keeps)
plain_in path ccws p None e good keeps index is = absurd (cc)

check_end_in : (ccws : List Ccw) (i : ℕ) (sense : Sense) → GoodWords ccws → i < 65536 → IsCheckSense sense → EndIn (check_end ccws i sense)
check_end_in ccws i sense good index is = search (arith, as_bytes, no_bytes, check_sense_in)

-- By a device's history

module _ (num : ℕ) (empty : PlainState) (x y : MarksDevice) (f : Follows num empty x) (base : empty ≡ (audited x).empty)
    (g : Follows num empty y) (o : OpenEntry)
    (running : x.history.running ≡ Some o) (kept : all_losses y.history ≡ all_losses x.history) (p : HasParts x y half.Closed)
    (words : (path ordinal : ℕ) → GoodWords (program_of x.plans path ordinal)) where
  plain_here : (now : History) → y.history ≡ now → IsPlain x.plans (audited x).empty now
  plain_here now same = subst (λ (l : History). IsPlain x.plans (audited x).empty l) same (plain_behind num empty x y f base g half.Closed p)

  state_keeps : KeepsBytes (part_of_open (audited x) o).state
  state_keeps =
      subst (λ (r : Option OpenEntry). KeepsBytes (state_by x.plans (replay x.plans (audited x).empty x.history.items) r)) running
      (history_keeps x.plans (λ path ordinal. (words path ordinal).gives) (audited x).empty x.history (plainly num empty x y f base g)
      (empty_keeps x.store.geometry x.store.cylinders))

  plain_here_in : (e : CommandEnd) → plain_end (audited x) o ≡ Some e → EndIn e
  plain_here_in e is =
      plain_in o.path (words_of_open (audited x) o) (part_of_open (audited x) o) (part_of_open (audited x) o).next e (words o.path o.ordinal) state_keeps
      (part_index (program_of x.plans o.path o.ordinal) (words o.path o.ordinal) o.path o.acts (replay x.plans (audited x).empty x.history.items)
      (length o.ends)) is

  ended_in : (e : CommandEnd) (now : History) → HasEnded x.history e now → y.history ≡ now → EndIn e
  ended_in e now (ended_so acts) same =
      plain_here_in e (ends_plain (audited x) o e acts (ends_so (audited x) (plainly num empty x y f base g) o running e acts
      (none_lost x.history y.history acts (ap acts_in same ∙ ended_acts (all_acted x.history acts) e ∙ all_acts acts x.history) kept) (plain_here now same)))
  ended_in e now (checked_so acts) same =
      let so = checks_so (audited x) (plainly num empty x y f base g) acts o running e (plain_here now same) in
      subst EndIn (sym so.is_so)
      (check_end_in (words_of_open (audited x) o) so.plain.index so.sense (words o.path o.ordinal) (plain_here_in so.plain so.is_plain).index so.is_check)

-- By an event of the device

abbrev AnswerIn : Option EventEnd → Type 0
AnswerIn o = IfSome o EventIn

module _ (x : MarksDevice) (p : Plainly x) (words : (path ordinal : ℕ) → GoodWords (program_of x.plans path ordinal)) where
  command_so_in : (o : OpenEntry) → x.history.running ≡ Some o → (y : MarksDevice) (answer : Option Stepped) → CommandSo p.number p.empty x y answer →
      AnswerIn (end_with ends.Stepped answer)
  command_so_in o running y (Some (stepped.Ended e)) c =
      ended_in p.number p.empty x y p.follows p.base c.follows o running c.kept c.left words e y.history c.told refl
  command_so_in o running y answer c = tt

  pub command_in : (o : OpenEntry) → x.history.running ≡ Some o → x.store.half ≡ None →
      Had (may_end_by ends.Stepped (command by_plain x)) (λ y end. IfSome end EventIn)
  command_in o running whole =
      had_then (command_so p.number p.empty x p.follows p.base o running whole) (λ y answer c. had_done (command_so_in o running y answer c))

  second_by : (h : store.HalfWrite (Unit {0})) → x.store.half ≡ Some h → (origin : Origin) → h.origin ≡ origin → (r : Option OpenEntry) →
      x.history.running ≡ r → (y : MarksDevice) (answer : SecondEnd) → SecondSo p.number p.empty x y origin answer → EventIn (ends.Second answer)
  second_by h there origin is (Some o) running y (seconds.Ended e) c =
      ended_in p.number p.empty x y p.follows p.base c.follows o running c.kept c.left.parts words e y.history c.told refl
  second_by h there (OfCommand bypass edit) is None running y (seconds.Ended e) c =
      let mid = subst (λ (o : Origin). IsMidOf (core_of x.store) h.track o x.history.running p.follows.before x.chain) is
      (subst (λ (m : Option (store.HalfWrite (Unit {0}))). IsMid (core_of x.store) m x.history.running p.follows.before x.chain) there p.follows.mid) in
      absurd (some_none x.history.running mid.runs running)
  second_by h there (OfCut bypass) is None running y (seconds.Ended e) c = absurd c.left.told
  second_by h there OfBackground is None running y (seconds.Ended e) c = absurd c.left.told
  second_by h there origin is r running y (seconds.Finished t) c = tt
  second_by h there origin is r running y (seconds.Unwritten t) c = tt

  pub second_in : (h : store.HalfWrite (Unit {0})) → x.store.half ≡ Some h →
      Had (ends_by ends.Second (second by_plain x)) (λ y end. IfSome end EventIn)
  second_in h there =
      had_then (second_so p.number p.empty x p.follows p.base h there)
      (λ y answer c. had_done (second_by h there h.origin refl x.history.running refl y answer c))
