-- Acts of cache fast write are judged by a device that is kept as by the history.
use Rattle.std.proofs.Common.{◌≡◌, ℕ, Option, Some, None, true, false, refl, sym, ap, ◌∙◌}
use Rattle.std.specs.Prelude.{◌&&◌}
use Rattle.ckd_chain.specs.State.{ChainState}
use Rattle.ckd_chain.specs.Steps.{end_with}
use Rattle.plain_defs.specs.declared.journal.Act.{Act}
use Rattle.plain_defs.specs.declared.journal.Act.TheVariants.{Harden, Loosen, CfwLost}
use Rattle.plain_defs.specs.Effect.{Effect}
use Rattle.plain_defs.specs.History.{History, OpenEntry, acted, acted_in}
use Rattle.plain_defs.specs.Loose.{act_done, is_loose_there}
use Rattle.plain_defs.specs.PlainState.{PlainState}
use Rattle.plain_device.specs.Between.{effect_of}
use Rattle.report_text.specs.declared.answers.LooseAnswer.TheVariants as loose
use Rattle.report_text.specs.declared.line.ReportLine.{ReportLine}
use Rattle.report_text.specs.declared.line.ReportLine.TheVariants as lines
use Rattle.deck_audit.specs.declared.kept.Kept.{Kept}
use Rattle.deck_audit.specs.declared.kept.Then.TheVariants.{Wait}
use Rattle.deck_audit.specs.declared.replayed.Running.{Running}
use Rattle.deck_audit.specs.declared.state.Did.{Did}
use Rattle.deck_audit.specs.declared.state.Did.TheVariants.{Ended, CheckEnded, Halved, Worked}
use Rattle.deck_audit.specs.declared.state.Due.{Due}
use Rattle.deck_audit.specs.declared.state.Due.TheVariants.{Behind, Losses, Next}
use Rattle.deck_audit.specs.Device.{AuditedDevice, has_loose, may_loosen, part_of_open, plain_end, state_of, words_of_open}
use Rattle.deck_audit.specs.Follows.{Follows, RunsAs}
use Rattle.deck_audit.specs.History as history
use Rattle.deck_audit.specs.Keeping.{DidSo, Goes, HasPending, IsCounted, IsDue, IsKept, IsQuiet, Judges}
use Rattle.deck_audit.specs.Kept.{act_kept, act_made, act_then, harden_then, loosen_then, loss_kept, loss_then, tells_loss}
use Rattle.deck_audit.specs.Replay as replay
use Rattle.deck_audit.specs.Same.{says}
use Rattle.deck_audit.specs.State.{AuditState}
use Rattle.deck_audit.proofs.Judges.{by_program, judges_if}
use Rattle.deck_audit.proofs.KeptPaths.{act_keeps}
use Rattle.deck_audit.proofs.ReplayedActs.{acted_device, acted_ends, acted_idle, acted_runs, in_history, runs_later, with_act_of}
use Rattle.deck_audit.proofs.ReplayedEnds.{end_is, ends_as, loosens_follows}

-- the end that is had of a chain is that of the plain device
module _ (a : AuditedDevice) (o : OpenEntry) (device : PlainState) (q : Running) (before : ChainState)
    (runs : RunsAs a o device q before) where
  pub plain_before : plain_end a o ≡ Some (end_with before (effect_of device o.path before).outcome)
  plain_before = rw (sym runs.at.next_is ∙ runs.at_word) (ap Some
      (sym (end_is (part_of_open a o) (words_of_open a o) device before o.ends o.path runs.at runs.word runs.at_word)))

-- an act between two commands stays in the program that runs
counts_act : (n : ℕ) (h : History) (act : Act) (entry : Option OpenEntry) → h.running ≡ entry → IsCounted n entry
    → IsCounted n (acted_in h act entry).running
counts_act n h act (Some o) is c = c
counts_act n h act None is c = rw is tt

module _ (k : Kept) (a : AuditedDevice) (act : Act) (i : IsKept k a) where
  kept_by : Follows (replay.acted k.device act) (record a { history = acted a.history act })
      → IsKept (act_kept k act) (record a { history = acted a.history act })
  kept_by follows = record {
    follows = follows;
    keeps = act_keeps k.device a.history i.keeps act;
    counts = counts_act k.ended a.history act a.history.running refl i.counts;
  }

  -- while no command waits
  pub quiet_act : IsQuiet k → IsKept (act_kept k act) (record a { history = acted a.history act })
  quiet_act quiet = kept_by (by_program k.device a i.follows (λ idle. acted_idle k.device a act i.follows idle.entry_is)
      (λ r. acted_runs k.device a r.entry r.run act i.follows r.run_is r.entry_is quiet))

  -- behind a command's end, which it comes before
  module _ (h : HasPending k a)
      (keeps : (path : ℕ) (s : ChainState) → effect_of (act_done k.device.device act) path s ≡ effect_of k.device.device path s) where
    waiting_act : IsKept (act_kept k act) (record a { history = acted a.history act })
    waiting_act = kept_by (acted_ends k.device a h.entry h.run act i.follows h.run_is h.entry_is h.pending h.pending_is keeps)

    plain_after : plain_end (acted_device a h.entry act) (with_act_of h.entry act) ≡ Some h.end
    plain_after =
        let e = ends_as k.device a h.entry h.run h.pending i.follows h.run_is h.pending_is h.entry_is in
        plain_before (acted_device a h.entry act) (with_act_of h.entry act) (act_done k.device.device act) h.run e.before
        (runs_later a h.entry act k.device.device h.run e.before e.runs)
        ∙ ap (λ (x : Effect). Some (end_with e.before x.outcome)) (keeps h.entry.path e.before)
        ∙ sym (plain_before a h.entry k.device.device h.run e.before e.runs) ∙ h.plain

    abbrev pending_after : HasPending (act_kept k act) (record a { history = acted a.history act })
    pending_after = record {
      entry = with_act_of h.entry act;
      run = h.run;
      pending = h.pending;
      entry_is = rw h.entry_is;
      run_is = h.run_is;
      pending_is = h.pending_is;
      end = h.end;
      plain = rw (in_history k.device a h.entry h.run act i.follows h.run_is h.entry_is) plain_after;
    }

pub record Acts (k : Kept) (a : AuditedDevice) (act : Act) (did : Did) : Type 0 where
  pub kept : IsKept (act_kept k act) (record a { history = acted a.history act })
  pub did_so : DidSo did (act_kept k act) (record a { history = acted a.history act })

module _ (k : Kept) (a : AuditedDevice) (act : Act) (i : IsKept k a)
    (keeps : (path : ℕ) (s : ChainState) → effect_of (act_done k.device.device act) path s ≡ effect_of k.device.device path s) where
  pub acts_so : (did : Did) → DidSo did k a → Acts k a act did
  acts_so (Ended e) (h, is) = record { kept = waiting_act k a act i h keeps; did_so = (pending_after k a act i h keeps, is) }
  acts_so (CheckEnded e) (sense, is, h) =
      record { kept = waiting_act k a act i h keeps; did_so = (sense, is, pending_after k a act i h keeps) }
  acts_so Halved quiet = record { kept = quiet_act k a act i quiet; did_so = quiet }
  acts_so (Worked last) quiet = record { kept = quiet_act k a act i quiet; did_so = quiet }

module _ (s : AuditState) (k : Kept) (a : AuditedDevice) (i : IsKept k a) where
  act_goes : (act : Act) (due : Due) → IsKept (act_kept k act) (record a { history = acted a.history act })
      → IsDue due (act_kept k act) (record a { history = acted a.history act })
      → Goes s a (Some (history.act_made s a act due)) (Wait due) (act_kept k act)
  act_goes act due kept here = record {
    after = record a { history = acted a.history act };
    made_is = refl;
    kept = kept;
    due = here;
    number_is = refl;
    plans_are = refl;
  }

  same_loose : (t : ℕ) → is_loose_there k.device.device t ≡ is_loose_there (state_of a) t
  same_loose t = ap (λ (d : PlainState). is_loose_there d t) i.follows.device_is

  -- while no command waits
  pub harden_judged : (t : ℕ) → IsQuiet k → Judges s a (history.harden_made s a t Next) (harden_then k t Next) (act_kept k (Harden t))
  harden_judged t quiet = judges_if s a (history.act_made s a (Harden t) Next) (Wait Next) (act_kept k (Harden t))
      (is_loose_there (state_of a) t) (is_loose_there k.device.device t) (same_loose t)
      (λ is. act_goes (Harden t) Next (quiet_act k a (Harden t) i quiet) quiet)

  harden_behind : (t : ℕ) (did : Did) → DidSo did k a
      → Judges s a (history.harden_made s a t (Behind true did)) (harden_then k t (Behind true did)) (act_kept k (Harden t))
  harden_behind t did so =
      let acts = acts_so k a (Harden t) i (λ path z. refl) did so in
      judges_if s a (history.act_made s a (Harden t) (Behind true did)) (Wait (Behind true did)) (act_kept k (Harden t))
      (is_loose_there (state_of a) t) (is_loose_there k.device.device t) (same_loose t)
      (λ is. act_goes (Harden t) (Behind true did) acts.kept acts.did_so)

  loosen_behind : (t : ℕ) (did : Did) → DidSo did k a
      → Judges s a (history.loosen_made s a t did) (loosen_then k t did) (act_kept k (Loosen t))
  loosen_behind t (Ended e) (h, is) =
      let acts = acts_so k a (Loosen t) i (λ path z. refl) (Ended e) (h, is) in
      judges_if s a (history.act_made s a (Loosen t) (Behind false (Ended e))) (Wait (Behind false (Ended e))) (act_kept k (Loosen t))
      (may_loosen a a.history.running t) (replay.may_loosen k.device t)
      (loosens_follows k.device a h.entry h.run h.pending i.follows h.run_is h.pending_is h.entry_is t)
      (λ may. act_goes (Loosen t) (Behind false (Ended e)) acts.kept acts.did_so)
  loosen_behind t did so = refl

  pub act_judged : (line : ReportLine) (did : Did) → DidSo did k a
      → Judges s a (history.act_of_work s line did a) (act_then k line did) (act_made k line)
  act_judged (lines.Loose d (loose.Harden t)) did so = harden_behind t did so
  act_judged (lines.Loose d (loose.Loosen t)) did so = loosen_behind t did so
  act_judged line did so = refl

  -- all loose tracks go back
  module _ (quiet : IsQuiet k) where
    lost_kept : IsKept (loss_kept k) (record a { history = acted a.history CfwLost })
    lost_kept = rw quiet at (quiet_act k a CfwLost i quiet)

    pub same_tells : (line : ReportLine) → tells_loss k.device line ≡ (has_loose a && says (history.loss_line a) line)
    same_tells line = rw (i.follows.number_is, i.follows.device_is)

    pub loss_judged : (line : ReportLine) → Judges s a (history.loss_made s line a) (loss_then k line) (loss_kept k)
    loss_judged line = judges_if s a (history.act_made s a CfwLost (Losses a.number)) (Wait (Losses k.device.number)) (loss_kept k)
        (has_loose a && says (history.loss_line a) line) (tells_loss k.device line) (same_tells line)
        (λ is. record {
          after = record a { history = acted a.history CfwLost };
          made_is = ap (λ (n : ℕ). Some (history.act_made s a CfwLost (Losses n))) (sym i.follows.number_is);
          kept = lost_kept;
          due = refl;
          number_is = refl;
          plans_are = refl;
        })
