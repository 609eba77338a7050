-- What each line makes of a device's past keeps it one that a plain device could have.
use Rattle.std.proofs.Common.{arith, ◌≡◌, ◌≤◌, ℕ, [], List, Option, Some, None, Bool, true, false}
use Rattle.std.proofs.Common.{not, append_assoc}
use Rattle.std.specs.Prelude.{◌⊎◌, ◌||◌}
use Rattle.plain_defs.specs.declared.journal.Act.TheVariants.{Harden, CfwLost}
use Rattle.plain_defs.specs.declared.journal.Item.{Item}
use Rattle.plain_defs.specs.History.{History, OpenEntry, acted, emptied, lost_power, reset_in_history, IsPlain}
use Rattle.plain_defs.specs.Journal.{Plans}
use Rattle.plain_defs.specs.Legal.{MayEdit}
use Rattle.plain_defs.specs.Loose.{is_loose_there}
use Rattle.plain_defs.specs.PlainState.{PlainState}
use Rattle.report_text.specs.declared.answers.StartAnswer.TheVariants as start
use Rattle.deck_audit.specs.Device.{AuditedDevice, edit_of, has_loose, is_next_legal, lent_answer}
use Rattle.deck_audit.specs.Device.{part_of_open, runs, start_answer, state_of}
use Rattle.deck_audit.specs.History.{after_start, cut_open, given_back, runs_lent, without_power}
use Rattle.deck_audit.proofs.StartLaw.{start_plain}
use Rattle.device_laws.proofs.DueResets.{acted_due, emptied_due, lost_power_due, reset_due, started_due}
use Rattle.device_laws.proofs.HistoryActs.{acted_plain}
use Rattle.device_laws.proofs.HistoryCuts.{emptied_plain, idle_power_plain, idle_reset_plain, power_cut_plain, running_reset_plain}
use Rattle.device_laws.proofs.WaitingResets.{AreDue, started-append}
use Rattle.audit_laws.proofs.Devices.{Becomes}

-- a past that a plain device could have, with the resets that wait as they are due
pub record IsSound (plans : Plans) (empty : PlainState) (h : History) : Type 0 where
  pub plain : IsPlain plans empty h
  pub due : AreDue h

abbrev pub Sound : AuditedDevice → Type 0
Sound a = IsSound a.plans a.empty a.history

-- the running program is cut, and the item of the power's loss is still to come
pub record IsDark (plans : Plans) (empty : PlainState) (h : History) : Type 0 where
  pub stands : h.running ≡ None
  pub behind : IsSound plans empty (lost_power h 0)

abbrev pub Darkening : AuditedDevice → Type 0
Darkening a = Sound a ⊎ IsDark a.plans a.empty a.history

abbrev idle_history : List Item → History
idle_history xs = record { items = xs; running = None; waiting = [] }

-- What a test says

pub by_loose : (l provisional : Bool) → (not l || provisional) ≡ true → l ≡ true → provisional ≡ true
by_loose l provisional is loose = grind arith

pub legal_of : (a : AuditedDevice) (o : OpenEntry) → a.history.running ≡ Some o → is_next_legal a a.history.running ≡ true
    → MayEdit (part_of_open a o).state (part_of_open a o).stance (edit_of a o)
legal_of a o running legal = grind (arith, by_loose)

-- START

module _ (a : AuditedDevice) (path n : ℕ) where
  idle_by_loan : (lent : Option ℕ) → lent_answer a path lent ≡ start.Accepted n → a.history.running ≡ None
  idle_by_loan lent is = grind arith

  pub starts_idle : start_answer a path ≡ start.Accepted n → a.history.running ≡ None
  starts_idle is = grind (arith, idle_by_loan)

module _ (a : AuditedDevice) (s : Sound a) where
  pub started_sound : (path : ℕ) → 1 ≤ path → path ≤ 4 → Sound (after_start a path (start_answer a path))
  started_sound path least most = grind (arith, start_plain, started_due, starts_idle)

  -- Acts

  pub hardened_sound : (t : ℕ) → is_loose_there (state_of a) t ≡ true → Sound (record a { history = acted a.history (Harden t) })
  hardened_sound t loose = grind (arith, acted_plain, acted_due)

  pub lost_sound : has_loose a ≡ true → Sound (record a { history = acted a.history CfwLost })
  lost_sound some = grind (arith, acted_plain, acted_due)

  -- Resets

  pub reset_sound : (path : ℕ) → Sound (record a { history = reset_in_history a.history path 0 })
  reset_sound path = grind (arith, idle_reset_plain, running_reset_plain, reset_due a.history s.due path 0)

  module _ (o : OpenEntry) (running : a.history.running ≡ Some o) where
    -- with one command more, which may edit its track
    pub cut_more_sound : (path : ℕ) → is_next_legal a a.history.running ≡ true → Sound (record a { history = reset_in_history a.history path 1 })
    cut_more_sound path legal = search (arith, running_reset_plain, legal_of, reset_due)

    -- A loss of power

    power_follows : (more : ℕ) → lost_power (cut_open a.history o more) 0 ≡ lost_power a.history more
    power_follows more = grind (arith, started-append, append_assoc)

    pub cut_dark : IsDark a.plans a.empty (cut_open a.history o 0)
    cut_dark = search (arith, power_follows, lost_power_due, power_cut_plain)

    pub cut_more_dark : is_next_legal a a.history.running ≡ true → IsDark a.plans a.empty (cut_open a.history o 1)
    cut_more_dark legal = search (arith, power_follows, lost_power_due, power_cut_plain, legal_of)

  dark_plain : (running : Option OpenEntry) → a.history.running ≡ running → IsPlain a.plans a.empty (lost_power a.history 0)
  dark_plain None stands = idle_power_plain a.plans a.empty a.history s.plain stands 0
  dark_plain (Some o) here = power_cut_plain a.plans a.empty a.history s.plain o here 0 tt

  -- A new volume

  emptied_sound : runs a.history.running ≡ false → IsSound a.plans a.empty (emptied a.history)
  emptied_sound is = grind (arith, emptied_plain, emptied_due)

  pub given_sound : (d : ℕ) → runs_lent d a ≡ false → Becomes a (given_back d a) × Sound (given_back d a)
  given_sound d is = grind (arith, emptied_sound)

pub darkened_sound : (a : AuditedDevice) → Darkening a → Sound (without_power a)
darkened_sound a x1 = grind (arith, dark_plain, lost_power_due)

-- a device whose program runs isn't dark yet
pub runs_on : (a : AuditedDevice) (o : OpenEntry) → a.history.running ≡ Some o → Darkening a → Sound a
runs_on a o running x3 = grind arith
