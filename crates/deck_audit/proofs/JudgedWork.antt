-- An END, a HALF and a BACK are judged by a device that is kept as by the history.
use Rattle.std.proofs.Common.{◌≡◌, ℕ, List, [], ◌∷◌, Option, Some, None, Bool, true, false, cond, refl, sym, ap, subst}
use Rattle.ckd_types.specs.declared.channel.CommandEnd.{CommandEnd}
use Rattle.ckd_types.specs.Sense.{equipment_sense}
use Rattle.ckd_chain.specs.Steps.{behind}
use Rattle.plain_defs.specs.History.{OpenEntry}
use Rattle.report_text.specs.declared.answers.BackAnswer.{BackAnswer}
use Rattle.report_text.specs.declared.answers.BackAnswer.TheVariants as back
use Rattle.report_text.specs.declared.line.ReportLine.{ReportLine}
use Rattle.report_text.specs.declared.line.ReportLine.TheVariants as lines
use Rattle.deck_audit.specs.declared.kept.Kept.{Kept}
use Rattle.deck_audit.specs.declared.kept.Then.TheVariants.{Passed, Wait}
use Rattle.deck_audit.specs.declared.state.Did.TheVariants.{Halved, Worked}
use Rattle.deck_audit.specs.declared.state.Due.{Due}
use Rattle.deck_audit.specs.declared.state.Due.TheVariants.{Behind, SenseOf}
use Rattle.deck_audit.specs.declared.state.HalfWrite.{HalfWrite}
use Rattle.deck_audit.specs.declared.state.HalfWrite.TheVariants.{Closed, OfCommand}
use Rattle.deck_audit.specs.Device.{AuditedDevice, check_end, plain_end, words_of_open}
use Rattle.deck_audit.specs.Follows.{RunsAs}
use Rattle.deck_audit.specs.History.{back_half as half_behind, behind_end, changed, end_made, end_made_by, is_last, shows_end, work_made}
use Rattle.deck_audit.specs.Judging.{due_in, end_due}
use Rattle.deck_audit.specs.Keeping.{Goes, HasPending, IsDue, IsKept, IsQuiet, Judges}
use Rattle.deck_audit.specs.Kept.{back_half, end_kept, end_then, end_then_by, wait_if, with_half, work_kept, work_then}
use Rattle.deck_audit.specs.Replay as replay
use Rattle.deck_audit.specs.Replayed.{ReplayedState}
use Rattle.deck_audit.specs.State.{AuditState, passed}
use Rattle.deck_audit.proofs.Judges.{Idle, Runs, by_program}
use Rattle.deck_audit.proofs.JudgingLaw.{end_judged}
use Rattle.deck_audit.proofs.KeptPaths.{keeps_same, next_keeps}
use Rattle.deck_audit.proofs.ReplayedEnds.{end_follows, ended_follows, ended_is, runs_as}
use Rattle.deck_audit.proofs.ReplayedResets.{half_is_followed}

-- with another half write
module _ (k : Kept) (a : AuditedDevice) (i : IsKept k a) (half : HalfWrite) where
  pub half_kept : IsKept (record k { device = with_half k.device half }) (record a { half = half })
  half_kept = record {
    follows = half_is_followed k.device a i.follows half;
    keeps = keeps_same k.device (with_half k.device half) a.history refl refl refl refl i.keeps;
    counts = i.counts;
  }

-- its next command has ended, and the device has nothing of it yet
module _ (k : Kept) (a : AuditedDevice) (i : IsKept k a) (quiet : IsQuiet k) (r : Runs k.device a) where
  pub runs_here : RunsAs a r.entry k.device.device r.run r.run.chain
  runs_here = runs_as k.device a r.entry r.run i.follows r.run_is quiet r.entry_is

  pub next_here : replay.next_end k.device ≡ plain_end a r.entry
  next_here = end_follows k.device a r.entry r.run i.follows r.run_is quiet r.entry_is

  pub ended_kept : IsKept (record k { device = replay.ended_next k.device }) a
  ended_kept = record {
    follows = ended_follows k.device a r.entry r.run i.follows r.run_is quiet r.entry_is;
    keeps = next_keeps k.device a.history i.keeps;
    counts = i.counts;
  }

  abbrev pub has_pending : (e : CommandEnd) → plain_end a r.entry ≡ Some e
      → HasPending (record k { device = replay.ended_next k.device }) a
  has_pending e plain = record {
    entry = r.entry;
    run = record r.run { chain = behind r.run.chain (replay.effect_at k.device r.run).outcome };
    pending = _;
    entry_is = r.entry_is;
    run_is = ap (λ (x : ReplayedState). x.running) (ended_is k.device a r.entry r.run i.follows r.run_is quiet r.entry_is);
    pending_is = ap (λ (x : ReplayedState). x.pending) (ended_is k.device a r.entry r.run i.follows r.run_is quiet r.entry_is);
    end = e;
    plain = plain;
  }

module _ (s : AuditState) (k : Kept) (a : AuditedDevice) (line : ReportLine) (i : IsKept k a) (quiet : IsQuiet k) where
  idle_end : Idle k.device a → Judges s a (end_made s line a a.history.running) (end_then a.plans k line) (end_kept k)
  idle_end idle = rw (idle.run_is, idle.entry_is)

  module _ (r : Runs k.device a) (e : CommandEnd) (plain : plain_end a r.entry ≡ Some e) where
    after : AuditState
    after = changed s (record a { half = Closed })

    abbrev pending_here : HasPending (end_kept k) (record a { half = Closed })
    pending_here = let h = has_pending k a i quiet r e plain in record {
      entry = h.entry;
      run = h.run;
      pending = h.pending;
      entry_is = h.entry_is;
      run_is = h.run_is;
      pending_is = h.pending_is;
      end = e;
      plain = plain;
    }

    goes_to : (made : Option AuditState) (due : Due) → made ≡ Some (record (changed s (record a { half = Closed })) { due = due })
        → IsDue due (end_kept k) (record a { half = Closed }) → Goes s a made (Wait due) (end_kept k)
    goes_to made due made_is here = record {
      after = record a { half = Closed };
      made_is = made_is;
      kept = half_kept (record k { device = replay.ended_next k.device }) a (ended_kept k a i quiet r) Closed;
      due = here;
      number_is = refl;
      plans_are = refl;
    }

    behind_due : (sent : List ℕ) → IsDue (behind_end e sent) (end_kept k) (record a { half = Closed })
    behind_due [] = (pending_here, refl)
    behind_due (b ∷ bytes) = (pending_here, refl)

    by_tests : (b c : Bool) → Judges s a
        (cond b (Some (record (changed s (record a { half = Closed })) { due = SenseOf e }))
        (cond c (Some (record (changed s (record a { half = Closed })) { due = behind_end e e.sent })) None))
        (wait_if (due_in (cond b (Some (record (changed s (record a { half = Closed })) { due = SenseOf e }))
        (cond c (Some (record (changed s (record a { half = Closed })) { due = behind_end e e.sent })) None)))) (end_kept k)
    by_tests true c = goes_to _ (SenseOf e) refl (pending_here, refl)
    by_tests false true = goes_to _ (behind_end e e.sent) refl (behind_due e.sent)
    by_tests false false = refl

    ends_so : Judges s a (end_made_by s line a r.entry (Some e)) (wait_if (due_in (end_made_by s line a r.entry (Some e)))) (end_kept k)
    ends_so = by_tests (shows_end a r.entry line (check_end (words_of_open a r.entry) e.index equipment_sense)) (shows_end a r.entry line e)

    due_is : end_due a.plans (with_half (replay.ended_next k.device) Closed) line e ≡ due_in (end_made_by s line a r.entry (Some e))
    due_is = end_judged s (with_half (replay.ended_next k.device) Closed) a r.entry pending_here.run
        (runs_here k a i quiet r).path_is (runs_here k a i quiet r).ordinal_is
        (half_kept (record k { device = replay.ended_next k.device }) a (ended_kept k a i quiet r) Closed).follows.number_is
        pending_here.run_is line e

    end_here : Judges s a (end_made_by s line a r.entry (Some e)) (end_then_by a.plans k line (Some e)) (end_kept k)
    end_here = rw due_is ends_so

  by_end : (r : Runs k.device a) (end : Option CommandEnd) → plain_end a r.entry ≡ end
      → Judges s a (end_made_by s line a r.entry end) (end_then_by a.plans k line end) (end_kept k)
  by_end r None plain = refl
  by_end r (Some e) plain = end_here r e plain

  runs_end : Runs k.device a → Judges s a (end_made s line a a.history.running) (end_then a.plans k line) (end_kept k)
  runs_end r =
      subst (λ (x : Option OpenEntry). Judges s a (end_made s line a x) (end_then a.plans k line) (end_kept k)) (sym r.entry_is)
      (subst (λ (x : Option CommandEnd). Judges s a (end_made_by s line a r.entry (plain_end a r.entry)) (end_then_by a.plans k line x)
      (end_kept k)) (sym (next_here k a i quiet r)) (by_end r (plain_end a r.entry) refl))

  pub end_is_judged : Judges s a (end_made s line a a.history.running) (end_then a.plans k line) (end_kept k)
  end_is_judged = by_program k.device a i.follows idle_end runs_end

same_half : (half : HalfWrite) (a : AuditedDevice) (answer : BackAnswer) → half ≡ a.half → back_half half answer ≡ half_behind a answer
same_half half a (back.Half t) is = refl
same_half half a (back.Finished t) is = refl
same_half half a (back.Unwritten t) is = refl
same_half half a answer is = is

module _ (s : AuditState) (k : Kept) (a : AuditedDevice) (i : IsKept k a) (quiet : IsQuiet k) (unchanged : changed s a ≡ s) where
  half_goes : (half : HalfWrite) (due : Due) → IsDue due (record k { device = with_half k.device half }) (record a { half = half })
      → Goes s a (Some (record (changed s (record a { half = half })) { due = due })) (Wait due)
      (record k { device = with_half k.device half })
  half_goes half due here = record {
    after = record a { half = half };
    made_is = refl;
    kept = half_kept k a i half;
    due = here;
    number_is = refl;
    plans_are = refl;
  }

  pub same_goes : Goes s a (Some (passed s)) Passed k
  same_goes = record {
    after = a;
    made_is = ap (λ (t : AuditState). Some (passed t)) (sym unchanged);
    kept = i;
    due = quiet;
    number_is = refl;
    plans_are = refl;
  }

  pub work_judged : (line : ReportLine) → Judges s a (work_made s line a) (work_then a.plans k line) (work_kept k line)
  work_judged (lines.End e) = end_is_judged s k a (lines.End e) i quiet
  work_judged (lines.Half path d t) = half_goes OfCommand (Behind true Halved) quiet
  work_judged (lines.Back d answer) =
      subst (λ (x : HalfWrite). Goes s a (Some (record (changed s (record a { half = half_behind a answer }))
      { due = Behind true (Worked (is_last answer)) })) (Wait (Behind true (Worked (is_last answer)))) (record k
      { device = with_half k.device x }))
      (sym (same_half k.device.half a answer i.follows.half_is))
      (half_goes (half_behind a answer) (Behind true (Worked (is_last answer))) quiet)
  work_judged line = same_goes
