-- A command that comes to its end: the acts behind its END line come before it in the device's past.
use Rattle.std.proofs.Common.{arith, ◌≡◌, ℕ, Option, Some, None, Bool, true, false, not, refl, ap}
use Rattle.std.specs.Prelude.{◌⊎◌, ◌&&◌, ◌==◌, IsSome}
use Rattle.std.proofs.Common.{rules}
use Rattle.std.proofs.lemmas.Bool.{and_parts}
use Rattle.std.proofs.lemmas.Bool.Decides.{nat_tests}
use Rattle.ckd_types.specs.declared.channel.CommandEnd.{CommandEnd}
use Rattle.ckd_types.specs.declared.sense.Sense.{Sense}
use Rattle.ckd_types.specs.Ccw.{ccw_at}
use Rattle.ckd_types.specs.Parameters.{is_provisional}
use Rattle.ckd_types.specs.Sense.{equipment_sense, data_check_sense}
use Rattle.ckd_rules.specs.Ends.{end_at_word}
use Rattle.ckd_rules.specs.Walk.{TrackEdit}
use Rattle.plain_defs.specs.declared.journal.Act.TheVariants.{Harden, Loosen}
use Rattle.plain_defs.specs.Effect.{effect_on}
use Rattle.plain_defs.specs.History.{OpenEntry, acted, acted_in, ended}
use Rattle.plain_defs.specs.Journal.{replay}
use Rattle.plain_defs.specs.Legal.{IsCheck, track_of}
use Rattle.plain_defs.specs.Loose.{is_loose_there}
use Rattle.plain_defs.specs.Program.{Part, with_act}
use Rattle.deck_audit.specs.declared.state.Did.{Did}
use Rattle.deck_audit.specs.declared.state.Did.TheVariants.{Ended, CheckEnded, Halved, Worked}
use Rattle.deck_audit.specs.Device.{AuditedDevice, check_end, is_next_legal, loosens, may_loosen}
use Rattle.deck_audit.specs.Device.{part_of_open, plain_end, state_of, words_of_open}
use Rattle.deck_audit.specs.History.{is_legal}
use Rattle.deck_audit.specs.State.{worked}
use Rattle.device_laws.proofs.DueResets.{acted_due, checked_due, ended_due}
use Rattle.device_laws.proofs.HistoryActs.{loosened_plain}
use Rattle.device_laws.proofs.HistoryEnds.{check_keeps_plain, end_keeps_plain}
use Rattle.device_laws.proofs.OpenProgram.{IsGoing, going_of_open, part_with_act, with_one_act}
use Rattle.audit_laws.proofs.Sound.{IsSound, Sound, hardened_sound, legal_of}

-- its running program's next command ends so on the plain device
pub record Ends (e : CommandEnd) (a : AuditedDevice) : Type 0 where
  pub sound : Sound a
  pub runs : IsSome a.history.running
  pub plain : (o : OpenEntry) → a.history.running ≡ Some o → plain_end a o ≡ Some e

-- with that end its past is sound: a track became loose directly before it
abbrev pub Shut : CommandEnd → AuditedDevice → Type 0
Shut e a = IsSound a.plans a.empty (ended a.history e)

pub record IsNextCheck (e : CommandEnd) (a : AuditedDevice) (o : OpenEntry) : Type 0 where
  pub next : (part_of_open a o).next ≡ Some e.index
  pub check : IsCheck (words_of_open a o) e

-- or with such a check
pub record Checks (e : CommandEnd) (a : AuditedDevice) : Type 0 where
  pub sound : Sound a
  pub plain : (o : OpenEntry) → a.history.running ≡ Some o → IsNextCheck e a o

-- behind a piece of work
abbrev pub EndsOr : Bool → CommandEnd → AuditedDevice → Type 0
EndsOr true e a = Ends e a
EndsOr false e a = Shut e a

abbrev pub DidSo : Bool → Did → AuditedDevice → Type 0
DidSo more (Ended e) a = EndsOr more e a
DidSo more (CheckEnded e) a = Checks e a
DidSo more did a = Sound a

-- The end of the command at hand

module _ (a : AuditedDevice) (e : CommandEnd) (ends : Ends e a) where
  module _ (o : OpenEntry) (running : a.history.running ≡ Some o) where
    pub next_is : (part_of_open a o).next ≡ Some e.index
    next_is = grind arith

    end_is : e ≡ end_at_word e.index (ccw_at (words_of_open a o) e.index)
        (effect_on (part_of_open a o).fixed (part_of_open a o).state o.path (part_of_open a o).stance (ccw_at (words_of_open a o) e.index)).outcome
    end_is = grind (arith, next_is)

    -- it is taken as done
    ends_plain : is_next_legal a a.history.running ≡ true → IsSound a.plans a.empty (ended a.history e)
    ends_plain legal = grind (arith, end_keeps_plain, next_is, end_is, legal_of, ended_due)

    -- a check of it
    pub check_is : (sense : Sense)
        → (◌≡◌ {A = Option Sense} (Some sense) (Some equipment_sense)) ⊎ (◌≡◌ {A = Option Sense} (Some sense) (Some data_check_sense))
        → IsNextCheck (check_end (words_of_open a o) e.index sense) a o
    check_is sense is = grind (arith, next_is)

    -- a track becomes loose with it
    edits_by : (p : Part) (edit : Option TrackEdit) (t : ℕ) → loosens p edit t ≡ true
        → (is_loose_there p.state t ≡ false) × (track_of edit ≡ Some t) × (is_provisional p.stance.extent ≡ true)
    edits_by p None t is = absurd (cc)
    edits_by p (Some x) t is =
        let outer = and_parts ((x.track == t) && is_provisional p.stance.extent) (not (is_loose_there p.state t)) is in
        let inner = and_parts (x.track == t) (is_provisional p.stance.extent) outer.0 in
        (firm (is_loose_there p.state t) outer.1, ap (λ (n : ℕ). Some n) (equal x.track t inner.0), inner.1) where
          firm : (b : Bool) → not b ≡ true → b ≡ false
          firm true is = absurd (cc)
          firm false is = refl

          equal : (n m : ℕ) → (n == m) ≡ true → n ≡ m
          equal n m is = search (nat_tests, rules)

    loosened_by : (t : ℕ) → may_loosen a a.history.running t ≡ true → IsSound a.plans a.empty (ended (acted a.history (Loosen t)) e)
    loosened_by t may = grind (arith, edits_by, loosened_plain, next_is, end_is, ended_due, acted_due)

  pub ended_sound : is_next_legal a a.history.running ≡ true → Sound (worked a (Ended e))
  ended_sound legal = grind (arith, ends_plain)

  shut_by : (running : Option OpenEntry) → a.history.running ≡ running → (t : ℕ) → may_loosen a a.history.running t ≡ true
      → Shut e (record a { history = acted a.history (Loosen t) })
  shut_by (Some o) running t may = loosened_by o running t may
  shut_by None stands t may = grind arith

  pub loosened_sound : (t : ℕ) → may_loosen a a.history.running t ≡ true → Shut e (record a { history = acted a.history (Loosen t) })
  loosened_sound t may = shut_by a.history.running refl t may

module _ (a : AuditedDevice) (e : CommandEnd) (checks : Checks e a) where
  pub checked_sound : Sound (worked a (CheckEnded e))
  checked_sound = grind (arith, check_keeps_plain, checked_due)

-- A piece of work is taken as done

pub worked_sound : (a : AuditedDevice) (more : Bool) (did : Did) → DidSo more did a → is_legal did a ≡ true → Sound (worked a did)
worked_sound a more did so legal = grind (arith, ended_sound, checked_sound)

-- A loose track becomes firm behind it

module _ (a : AuditedDevice) (s : Sound a) (t : ℕ) (o : OpenEntry) (running : a.history.running ≡ Some o) where
  abbrev later : OpenEntry
  later = with_one_act o (Harden t)

  abbrev hardened : AuditedDevice
  hardened = record a { history = record a.history { running = Some (with_one_act o (Harden t)) } }

  pub acted_is : acted a.history (Harden t) ≡ record a.history { running = Some (with_one_act o (Harden t)) }
  acted_is = ap (λ (r : Option OpenEntry). acted_in a.history (Harden t) r) running

  going : IsGoing a.plans (replay a.plans a.empty a.history.items) a.history.items o None
  going = grind (arith, going_of_open)

  pub part_is : part_of_open hardened later ≡ with_act (part_of_open a o) (Harden t)
  part_is = part_with_act a.plans (replay a.plans a.empty a.history.items) a.history.items o going (Harden t)

  end_is_same : plain_end hardened later ≡ plain_end a o
  end_is_same = grind (arith, part_is)

  next_is_same : (part_of_open hardened later).next ≡ (part_of_open a o).next
  next_is_same = ap (λ (p : Part). p.next) part_is

module _ (a : AuditedDevice) (t : ℕ) (loose : is_loose_there (state_of a) t ≡ true) where
  none_ran : (x : OpenEntry) → a.history.running ≡ None → (acted a.history (Harden t)).running ≡ Some x → ⊥
  none_ran x stands is = grind arith

  module _ (e : CommandEnd) (ends : Ends e a) where
    pub ends_hardened : Ends e (record a { history = acted a.history (Harden t) })
    ends_hardened = grind (arith, hardened_sound, none_ran, acted_is, end_is_same)

  pub did_hardened : (did : Did) → DidSo true did a → DidSo true did (record a { history = acted a.history (Harden t) })
  did_hardened (Ended e) so = ends_hardened e so
  did_hardened (CheckEnded e) so = grind (arith, hardened_sound, none_ran, acted_is, next_is_same)
  did_hardened Halved so = hardened_sound a so t loose
  did_hardened (Worked last) so = hardened_sound a so t loose
