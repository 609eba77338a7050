-- The cut of a program, by a reset or by a loss of power, is judged by a device that is kept as by the history.
use Rattle.std.proofs.Common.{◌≡◌, ◌<◌, ◌+◌, ℕ, length, Option, Some, None, Bool, true, false, cond, eqb, refl, arith, sym, ap, subst, ◌∙◌, eq-eqb}
use Rattle.std.specs.Prelude.{◌==◌, ◌&&◌}
use Rattle.std.proofs.lemmas.Bool.Decides.{nat_tests}
use Rattle.ckd_types.specs.declared.channel.CommandEnd.{CommandEnd}
use Rattle.ckd_chain.specs.Steps.{end_with}
use Rattle.plain_device.specs.Between.{effect_of}
use Rattle.plain_defs.specs.History.{OpenEntry, cut_by, reset_in_history}
use Rattle.deck_audit.specs.declared.kept.Kept.{Kept}
use Rattle.deck_audit.specs.declared.kept.Then.TheVariants.{Wait}
use Rattle.deck_audit.specs.declared.replayed.Running.{Running}
use Rattle.deck_audit.specs.declared.state.Due.{Due}
use Rattle.deck_audit.specs.declared.state.Due.TheVariants.{Powers, ResetOf}
use Rattle.deck_audit.specs.declared.state.HalfWrite.{HalfWrite}
use Rattle.deck_audit.specs.Device.{AuditedDevice, is_next_legal, plain_end}
use Rattle.deck_audit.specs.Follows.{Follows, KeepsPaths, RunsAs}
use Rattle.deck_audit.specs.History as history
use Rattle.deck_audit.specs.History.{changed, cut_by_power, cut_half, cut_open}
use Rattle.deck_audit.specs.Keeping.{Goes, HasPending, IsCounted, IsDue, IsKept, IsQuiet, Judges, counted}
use Rattle.deck_audit.specs.Kept.{cut_kept_by, cut_then_by, power_kept, power_then, taken, takes, then_if, with_cut_half}
use Rattle.deck_audit.specs.Replay as replay
use Rattle.deck_audit.specs.Replayed.{ReplayedState}
use Rattle.deck_audit.specs.State.{AuditState, then_of}
use Rattle.deck_audit.proofs.Judges.{Runs, by_program}
use Rattle.deck_audit.proofs.JudgedActs.{plain_before}
use Rattle.deck_audit.proofs.JudgedEnds.{closed_pending}
use Rattle.deck_audit.proofs.JudgedWork.{ended_kept, has_pending}
use Rattle.deck_audit.proofs.KeptPaths.{cut_keeps, cut_reset_keeps, keeps_same, settled_keeps}
use Rattle.deck_audit.proofs.ReplayedEnds.{legal_follows, runs_as}
use Rattle.deck_audit.proofs.ReplayedResets.{cut_by_power_follows, cut_follows, cut_more_by_power_follows, cut_more_follows, half_is_followed}

-- the count that stands still tells the same numbers of a line
same_count : (n m c : ℕ) → n < 65536 → c ≡ counted m → eqb n c ≡ eqb n m
same_count n m c small is = grind (arith, nat_tests)

same_more : (n m c : ℕ) → n < 65536 → c ≡ counted m → eqb n (c + 1) ≡ eqb n (m + 1)
same_more n m c small is = grind (arith, nat_tests)

module _ (s : AuditState) (k : Kept) (a : AuditedDevice) (i : IsKept k a) (quiet : IsQuiet k) (r : Runs k.device a) (n : ℕ)
    (small : n < 65536) where
  abbrev o : OpenEntry
  o = r.entry

  counts_here : IsCounted k.ended (Some r.entry)
  counts_here = rw r.entry_is at i.counts

  runs_here : RunsAs a r.entry k.device.device r.run r.run.chain
  runs_here = runs_as k.device a r.entry r.run i.follows r.run_is quiet r.entry_is

  -- the command that takes effect besides those that ended
  abbrev end : CommandEnd
  end = end_with r.run.chain (effect_of k.device.device r.entry.path r.run.chain).outcome

  plain : plain_end a r.entry ≡ Some end
  plain = plain_before a r.entry k.device.device r.run r.run.chain runs_here

  abbrev next : Kept
  next = record k { device = replay.ended_next k.device }

  next_kept : IsKept next a
  next_kept = ended_kept k a i quiet r

  abbrev waits : HasPending next a
  waits = has_pending k a i quiet r end plain

  same_legal : replay.is_legal (replay.ended_next k.device) ≡ is_next_legal a a.history.running
  same_legal = legal_follows next.device a waits.entry waits.run waits.pending next_kept.follows waits.run_is waits.pending_is waits.entry_is

  -- both decide alike, for any way to cut it
  by_tests : (made : ℕ → AuditState) (due : Due) (cuts : ReplayedState → ReplayedState)
      → Goes s a (Some (made 0)) (Wait due) (record k { device = cuts k.device })
      → Goes s a (Some (made 1)) (Wait due) (record k { device = cuts (replay.settled (replay.ended_next k.device)) })
      → (b c d : Bool) → Judges s a (cond b (Some (made 0)) (cond (c && d) (Some (made 1)) None))
      (then_if (cond b true (c && d)) (Wait due))
      (record k { device = cuts (cond b k.device (replay.settled (replay.ended_next k.device))) })
  by_tests made due cuts whole more true c d = whole
  by_tests made due cuts whole more false true true = more
  by_tests made due cuts whole more false true false = refl
  by_tests made due cuts whole more false false d = refl

  cut_by_count : (made : ℕ → AuditState) (due : Due) (cuts : ReplayedState → ReplayedState)
      → Goes s a (Some (made 0)) (Wait due) (record k { device = cuts k.device })
      → Goes s a (Some (made 1)) (Wait due) (record k { device = cuts (replay.settled (replay.ended_next k.device)) })
      → Judges s a (cond (n == length r.entry.ends) (Some (made 0))
      (cond ((n == length r.entry.ends + 1) && is_next_legal a a.history.running) (Some (made 1)) None))
      (then_if (takes k n) (Wait due)) (record k { device = cuts (taken k n) })
  cut_by_count made due cuts whole more = rw (
    same_count n (length r.entry.ends) k.ended small counts_here.2,
    same_more n (length r.entry.ends) k.ended small counts_here.2,
    same_legal,
  )
      (by_tests made due cuts whole more (n == length r.entry.ends) (n == length r.entry.ends + 1) (is_next_legal a a.history.running))

  -- A reset

  in_history : (more : ℕ) → reset_in_history a.history r.entry.path more ≡ cut_by a.history r.entry more
  in_history more = rw (r.entry_is, eq-eqb r.entry.path r.entry.path refl)

  in_replay : (x : ReplayedState) (q : Running) → x.running ≡ Some q → q.path ≡ r.entry.path
      → replay.reset x r.entry.path ≡ replay.closed (replay.reset_on x r.entry.path)
  in_replay x q run_is path_is = rw (run_is, eq-eqb q.path r.entry.path path_is)

  abbrev reset_after : ℕ → AuditedDevice
  reset_after more = record a { history = reset_in_history a.history r.entry.path more; half = cut_half a.half }

  reset_goes : (more : ℕ) (x : ReplayedState) (q : Running) → x.running ≡ Some q → q.path ≡ r.entry.path → x.pending ≡ None → KeepsPaths x a.history
      → Follows (replay.reset x r.entry.path) (record a { history = reset_in_history a.history r.entry.path more })
      → Goes s a (Some (record (changed s (record a { history = reset_in_history a.history r.entry.path more; half = cut_half a.half }))
      { due = ResetOf })) (Wait ResetOf) (record k { device = with_cut_half (replay.reset x r.entry.path) })
  reset_goes more x q run_is path_is none keeps follows = record {
    after = reset_after more;
    made_is = refl;
    kept = record {
      follows = subst (λ (z : HalfWrite). Follows (record (replay.reset x r.entry.path) { half = z }) (reset_after more))
          (ap cut_half (sym follows.half_is))
          (half_is_followed (replay.reset x r.entry.path) (record a { history = reset_in_history a.history r.entry.path more }) follows (cut_half a.half));
      keeps = keeps_same (replay.reset x r.entry.path) (with_cut_half (replay.reset x r.entry.path))
          (reset_in_history a.history r.entry.path more) refl refl refl refl
          (rw (in_replay x q run_is path_is, in_history more)
          (cut_reset_keeps x a.history r.entry keeps r.entry_is more counts_here.0 counts_here.1));
      counts = rw (in_history more) tt;
    };
    due = ap (λ (z : ReplayedState). z.pending) (in_replay x q run_is path_is) ∙ closed_pending (replay.reset_on x r.entry.path) ∙ none;
    number_is = refl;
    plans_are = refl;
  }

  abbrev behind_next : ReplayedState
  behind_next = replay.settled (replay.ended_next k.device)

  behind_run : behind_next.running ≡ Some waits.run
  behind_run = rw waits.pending_is waits.run_is

  behind_quiet : behind_next.pending ≡ None
  behind_quiet = rw waits.pending_is

  behind_keeps : KeepsPaths behind_next a.history
  behind_keeps = settled_keeps (replay.ended_next k.device) a.history next_kept.keeps

  cut_whole : Goes s a (Some (record (changed s (record a { history = reset_in_history a.history r.entry.path 0; half = cut_half a.half }))
      { due = ResetOf })) (Wait ResetOf) (record k { device = with_cut_half (replay.reset k.device r.entry.path) })
  cut_whole = reset_goes 0 k.device r.run r.run_is runs_here.path_is quiet i.keeps
      (cut_follows k.device a r.entry r.run i.follows r.run_is quiet r.entry_is i.keeps.waits)

  cut_more : Goes s a (Some (record (changed s (record a { history = reset_in_history a.history r.entry.path 1; half = cut_half a.half }))
      { due = ResetOf })) (Wait ResetOf) (record k { device = with_cut_half (replay.reset behind_next r.entry.path) })
  cut_more = reset_goes 1 behind_next waits.run behind_run runs_here.path_is behind_quiet behind_keeps
      (cut_more_follows (replay.ended_next k.device) a r.entry waits.run waits.pending next_kept.follows waits.run_is waits.pending_is
      r.entry_is end plain next_kept.keeps.waits)

  reset_cut : Judges s a (history.cut_by s a r.entry n) (then_if (takes k n) (Wait ResetOf))
      (record k { device = with_cut_half (replay.reset (taken k n) r.entry.path) })
  reset_cut = cut_by_count
      (λ (more : ℕ). record (changed s (record a { history = reset_in_history a.history r.entry.path more; half = cut_half a.half })) { due = ResetOf })
      ResetOf (λ (x : ReplayedState). with_cut_half (replay.reset x r.entry.path)) cut_whole cut_more

  -- A loss of power

  power_goes : (more : ℕ) (x : ReplayedState) (due : Due) → IsDue due (record k { device = replay.cut x }) (cut_by_power a r.entry more)
      → KeepsPaths x a.history → Follows (replay.cut x) (cut_by_power a r.entry more)
      → Goes s a (Some (record (changed s (cut_by_power a r.entry more)) { due = due })) (Wait due) (record k { device = replay.cut x })
  power_goes more x due here keeps follows = record {
    after = cut_by_power a r.entry more;
    made_is = refl;
    kept = record { follows = follows; keeps = cut_keeps x a.history r.entry keeps r.entry_is more; counts = tt };
    due = here;
    number_is = refl;
    plans_are = refl;
  }

  power_cut : (m : ℕ) → Judges s a (cond (n == length r.entry.ends) (Some (record (changed s (cut_by_power a r.entry 0)) { due = Powers m }))
      (cond ((n == length r.entry.ends + 1) && is_next_legal a a.history.running)
      (Some (record (changed s (cut_by_power a r.entry 1)) { due = Powers m })) None))
      (then_if (takes k n) (Wait (Powers m))) (power_kept k n)
  power_cut m = cut_by_count (λ (more : ℕ). record (changed s (cut_by_power a r.entry more)) { due = Powers m }) (Powers m) replay.cut
      (power_goes 0 k.device (Powers m) refl i.keeps
      (cut_by_power_follows k.device a r.entry r.run i.follows r.run_is quiet r.entry_is i.keeps.waits))
      (power_goes 1 behind_next (Powers m) refl behind_keeps
      (cut_more_by_power_follows (replay.ended_next k.device) a r.entry waits.run waits.pending next_kept.follows waits.run_is
      waits.pending_is r.entry_is end plain next_kept.keeps.waits))

module _ (s : AuditState) (k : Kept) (a : AuditedDevice) (i : IsKept k a) (quiet : IsQuiet k) (n : ℕ) (small : n < 65536) where
  pub cut_judged : Judges s a (then_of a.history.running (λ o. history.cut_by s a o n))
      (cut_then_by k n ResetOf k.device.running) (cut_kept_by k n k.device.running)
  cut_judged = by_program k.device a i.follows (λ idle. rw (idle.run_is, idle.entry_is))
      (λ r. subst (λ (x : Option Running). Judges s a (then_of a.history.running (λ o. history.cut_by s a o n)) (cut_then_by k n ResetOf x)
      (cut_kept_by k n x)) (sym r.run_is) (subst (λ (x : Option OpenEntry). Judges s a (then_of x (λ o. history.cut_by s a o n))
      (then_if (takes k n) (Wait ResetOf)) (record k { device = with_cut_half (replay.reset (taken k n) r.run.path) })) (sym r.entry_is)
      (rw (runs_here s k a i quiet r n small).path_is (reset_cut s k a i quiet r n small))))

  pub power_judged : Judges s a (then_of a.history.running (history.power_cut s a n))
      (power_then k n (Powers (history.place_of s.devices a.number))) (power_kept k n)
  power_judged = by_program k.device a i.follows (λ idle. rw (idle.run_is, idle.entry_is))
      (λ r. subst (λ (x : Option Running). Judges s a (then_of a.history.running (history.power_cut s a n))
      (cut_then_by k n (Powers (history.place_of s.devices a.number)) x) (power_kept k n)) (sym r.run_is)
      (subst (λ (x : Option OpenEntry). Judges s a (then_of x (history.power_cut s a n))
      (then_if (takes k n) (Wait (Powers (history.place_of s.devices a.number)))) (power_kept k n)) (sym r.entry_is)
      (power_cut s k a i quiet r n small (history.place_of s.devices a.number))))
