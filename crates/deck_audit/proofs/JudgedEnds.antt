-- A piece of work is taken as done by a device that is kept as by the history.
use Rattle.std.proofs.Common.{◌≡◌, ◌∷◌, ◌++◌, [], ℕ, suc, List, length, Option, Some, None, Bool, true, false, cond, refl, arith, sym, ap, subst, ◌∙◌}
use Rattle.std.proofs.lemmas.List.{length-append}
use Rattle.std.proofs.lemmas.Bool.Decides.{nat_tests}
use Rattle.ckd_types.specs.declared.channel.CommandEnd.{CommandEnd}
use Rattle.ckd_types.specs.declared.sense.Sense.{Sense}
use Rattle.plain_defs.specs.History.{checked, ended}
use Rattle.plain_defs.specs.PlainState.{with_sense}
use Rattle.report_text.specs.declared.answers.HowOver.{HowOver}
use Rattle.report_text.specs.declared.answers.HowOver.TheVariants as how
use Rattle.deck_audit.specs.declared.kept.Kept.{Kept}
use Rattle.deck_audit.specs.declared.replayed.Running.{Running}
use Rattle.deck_audit.specs.declared.state.Did.{Did}
use Rattle.deck_audit.specs.declared.state.Did.TheVariants.{Ended, CheckEnded, Halved, Worked}
use Rattle.deck_audit.specs.declared.state.HalfWrite.{HalfWrite}
use Rattle.deck_audit.specs.declared.state.HalfWrite.TheVariants.{Closed, OfCommand, OfBackground}
use Rattle.deck_audit.specs.Device as device
use Rattle.deck_audit.specs.Device.{AuditedDevice}
use Rattle.deck_audit.specs.Keeping.{DidSo, HasPending, IsCounted, IsKept, IsQuiet, counted}
use Rattle.deck_audit.specs.Kept.{checked_kept, ended_kept, ended_over, is_idle, is_idle_by, one_more, over_line, settled_kept, settled_over}
use Rattle.deck_audit.specs.Replay as replay
use Rattle.deck_audit.specs.Replayed.{ReplayedState}
use Rattle.deck_audit.specs.State as state
use Rattle.deck_audit.specs.State.{worked}
use Rattle.deck_audit.proofs.Closing.{ended_so}
use Rattle.deck_audit.proofs.Judges.{by_program}
use Rattle.deck_audit.proofs.KeptPaths.{check_keeps, end_keeps, keeps_same, over_keeps, settled_keeps}
use Rattle.deck_audit.proofs.ReplayedActs.{settled_goes_on}
use Rattle.deck_audit.proofs.ReplayedCloses.{check_follows, over_follows}
use Rattle.deck_audit.proofs.ReplayedEnds.{ends_as}

-- resets that waited leave what a command did alone
pub closed_pending : (r : ReplayedState) → (replay.closed r).pending ≡ r.pending
unfolding replay.closed
closed_pending r = grind arith

one_counted : (n : ℕ) → one_more (counted n) ≡ counted (suc n)
one_counted n = grind (arith, nat_tests)

one_more_end : (n : ℕ) (ends : List CommandEnd) (e : CommandEnd) → n ≡ counted (length ends) → one_more n ≡ counted (length (ends ++ e ∷ []))
one_more_end n ends e is =
    let many : length (ends ++ e ∷ []) ≡ suc (length ends) = omega (arith, length-append ends (e ∷ [])) in
    ap one_more is ∙ one_counted (length ends) ∙ ap counted (sym many)

-- what a piece of work made of a device that is kept, and its OVER line
pub record Settles (k : Kept) (a : AuditedDevice) (did : Did) : Type 0 where
  pub over_is : settled_over k did ≡ state.over_by a did a.history.running
  pub kept : IsKept (settled_kept k did) (worked a did)
  pub quiet : IsQuiet (settled_kept k did)

module _ (k : Kept) (a : AuditedDevice) (i : IsKept k a) (h : HasPending k a) where
  over_is : (how : HowOver) → over_line k.device how ≡ Some (state.over_line a h.entry how)
  over_is how =
      let e = ends_as k.device a h.entry h.run h.pending i.follows h.run_is h.pending_is h.entry_is in
      rw (h.run_is, e.runs.path_is, i.follows.number_is, e.runs.ordinal_is)

  counts_here : IsCounted k.ended (Some h.entry)
  counts_here = rw h.entry_is at i.counts

  quiet_settled : (replay.settled k.device).pending ≡ None
  quiet_settled = rw h.pending_is

  kept_over : h.end.over ≡ true → IsKept (ended_kept k true) (record a { history = ended a.history h.end })
  kept_over over = record {
    follows = over_follows k.device a h.entry h.run h.pending i.follows h.run_is h.pending_is h.entry_is h.end h.plain i.keeps.waits over;
    keeps = over_keeps (replay.settled k.device) a.history h.entry (settled_keeps k.device a.history i.keeps) h.entry_is h.end over;
    counts = rw (ended_so a.history h.entry h.end h.entry_is true over) tt;
  }

  kept_on : h.end.over ≡ false → IsKept (ended_kept k false) (record a { history = ended a.history h.end })
  kept_on on = record {
    follows = settled_goes_on k.device a h.entry h.run h.pending i.follows h.run_is h.pending_is h.entry_is h.end h.plain on;
    keeps = end_keeps (replay.settled k.device) a.history h.entry (settled_keeps k.device a.history i.keeps) h.entry_is h.end on;
    counts = rw (ended_so a.history h.entry h.end h.entry_is false on) (counts_here.0, counts_here.1, one_more_end k.ended h.entry.ends h.end counts_here.2);
  }

  abbrev EndSettles : Bool → Type 0
  EndSettles b = (ended_over k b ≡ cond b (Some (state.over_line a h.entry how.Full)) None)
      × IsKept (ended_kept k b) (record a { history = ended a.history h.end }) × IsQuiet (ended_kept k b)

  by_over : (b : Bool) → h.end.over ≡ b → EndSettles b
  by_over true over = (over_is how.Full, kept_over over, closed_pending (replay.settled k.device) ∙ quiet_settled)
  by_over false on = (refl, kept_on on, quiet_settled)

  pub end_settles : Settles k a (Ended h.end)
  end_settles =
      let all = by_over h.end.over refl in record {
        over_is = rw h.entry_is all.0;
        kept = all.1;
        quiet = all.2;
      }

  module _ (e : CommandEnd) (sense : Sense) (sense_is : e.sense ≡ Some sense) where
    abbrev with_check : ReplayedState
    with_check = record k.device {
      device = record k.device.device { paths = with_sense k.device.device.paths h.run.path (Some sense) };
      pending = None;
    }

    checked_is : replay.checked k.device sense ≡ replay.closed with_check
    checked_is = ap (λ (x : Option Running). replay.checked_with k.device sense x) h.run_is

    kept_checked : IsKept (checked_kept k (Some sense)) (record a { history = checked a.history e })
    kept_checked = record {
      follows = check_follows k.device a h.entry h.run h.pending i.follows h.run_is h.pending_is h.entry_is e sense sense_is i.keeps.waits;
      keeps = rw checked_is
          (check_keeps with_check a.history h.entry (keeps_same k.device with_check a.history refl refl refl refl i.keeps) h.entry_is e);
      counts = rw h.entry_is tt;
    }

    pub check_settles : Settles k a (CheckEnded e)
    check_settles = record {
      over_is = rw h.entry_is (over_is how.Checked);
      kept = subst (λ (x : Option Sense). IsKept (checked_kept k x) (record a { history = checked a.history e })) (sym sense_is) kept_checked;
      quiet = rw sense_is (ap (λ (r : ReplayedState). r.pending) checked_is ∙ closed_pending with_check);
    }

module _ (k : Kept) (a : AuditedDevice) (i : IsKept k a) where
  pub settles : (did : Did) → DidSo did k a → Settles k a did
  settles (Ended e) (h, is) = subst (λ (x : CommandEnd). Settles k a (Ended x)) is (end_settles k a i h)
  settles (CheckEnded e) (sense, is, h) = check_settles k a i h e sense is
  settles Halved quiet = record { over_is = refl; kept = i; quiet = quiet }
  settles (Worked last) quiet = record { over_is = refl; kept = i; quiet = quiet }

  by_half : (half : HalfWrite) → is_idle_by None half ≡ device.is_closed half
  by_half Closed = refl
  by_half OfCommand = refl
  by_half OfBackground = refl

  -- neither runs a program, and the same half write is open
  pub same_idle : is_idle k.device ≡ device.is_idle a
  same_idle = by_program k.device a i.follows
      (λ r. rw (r.run_is, r.entry_is, i.follows.half_is) (by_half a.half))
      (λ r. rw (r.run_is, r.entry_is))
