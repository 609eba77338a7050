-- What a line makes of all devices of an auditor.
use Rattle.std.proofs.Common.{◌≡◌, ◌<◌, ◌+◌, ◌++◌, ℕ, List, [], ◌∷◌, length, take, drop, Option, None, Bool, true, false, cond, refl, arith, sym, ap}
use Rattle.std.proofs.Common.{subst, ◌∙◌}
use Rattle.std.specs.Prelude.{◌&&◌, ◌||◌, map, slice_index_or, slice_set}
use Rattle.std.specs.List.{list_any}
use Rattle.std.proofs.lemmas.List.{length-append, length-drop, length-map, length-take, get_or_default}
use Rattle.std.proofs.lemmas.List.Edits.{map_over_more}
use Rattle.deck_text.specs.declared.line.PlannedProgram.{PlannedProgram}
use Rattle.plain_defs.specs.History.{History, OpenEntry, emptied, lost_power}
use Rattle.plain_defs.specs.Legal.{is_started}
use Rattle.report_audit.specs.Auditor.{AllKept, IsAt, NoneRuns, dark_kept, lent_runs, taken_back}
use Rattle.deck_audit.specs.declared.kept.Kept.{Kept}
use Rattle.deck_audit.specs.declared.state.Due.TheVariants.{Next}
use Rattle.deck_audit.specs.declared.state.HalfWrite.TheVariants.{Closed}
use Rattle.deck_audit.specs.Device.{AuditedDevice, runs}
use Rattle.deck_audit.specs.History.{given_back, is_lent_to, runs_lent, without_power}
use Rattle.deck_audit.specs.Keeping.{IsCounted}
use Rattle.deck_audit.specs.Replay as replay
use Rattle.deck_audit.specs.Replayed.{ReplayedState}
use Rattle.deck_audit.proofs.Judges.{by_program}
use Rattle.deck_audit.proofs.KeptPaths.{fresh_keeps, power_keeps}
use Rattle.deck_audit.proofs.ReplayedResets.{fresh_follows, power_follows}

-- a loop over the devices that changes each
pub changes_all : (f : Kept → Kept) (xs ys : List Kept) (i : ℕ) (x d : Kept) → i < length xs → ys ≡ map f (take i xs) ++ drop i xs
    → x ≡ f (slice_index_or ys i d) → slice_set ys i x ≡ map f (take (i + 1) xs) ++ drop (i + 1) xs
changes_all f xs ys i x d short so is = grind (arith, length-append, length-map, length-take, length-drop, map_over_more, get_or_default)

-- A loss of power

quiet_dark : (r : ReplayedState) (b : Bool) → r.pending ≡ None → (cond b (replay.dark r) (record r { half = Closed })).pending ≡ None
quiet_dark r b is = grind arith

lost_running : (h : History) → h.running ≡ None → (lost_power h 0).running ≡ None
lost_running h idle = grind arith

module _ (programs : List PlannedProgram) where
  dark_at : (k : Kept) (a : AuditedDevice) → IsAt programs Next k a → a.history.running ≡ None
      → IsAt programs Next (dark_kept k) (without_power a)
  dark_at k a is idle = record {
    kept = record {
      follows = power_follows k.device a is.kept.follows idle (is.kept.keeps.powered_is
          ∙ ap (λ (x : Option OpenEntry). runs x || is_started false a.history.items) idle);
      keeps = power_keeps k.device a.history is.kept.keeps idle;
      counts = subst (λ (x : Option OpenEntry). IsCounted k.ended x) (sym (lost_running a.history idle)) tt;
    };
    plans_are = is.plans_are;
    due_so = quiet_dark k.device k.device.powered is.due_so;
  }

  pub all_dark : (ks : List Kept) (ds : List AuditedDevice) → AllKept programs ks ds → NoneRuns (length ds) ds
      → AllKept programs (map dark_kept ks) (map without_power ds)
  all_dark [] [] all none = tt
  all_dark (k ∷ ks) (a ∷ ds) all none = (dark_at k a all.0 none.0, all_dark ks ds all.1 none.1)
  all_dark ks ds all none = absurd all

-- The end of a loan

not_runs : (x : Option OpenEntry) → runs x ≡ false → x ≡ None
not_runs x is = grind arith

or_first : (x y : Bool) → (x || y) ≡ false → x ≡ false
or_first x y is = grind arith

or_second : (x y : Bool) → (x || y) ≡ false → y ≡ false
or_second x y is = grind arith

module _ (programs : List PlannedProgram) (n : ℕ) where
  pub any_alike : (ks : List Kept) (ds : List AuditedDevice) → AllKept programs ks ds
      → list_any (lent_runs n) ks ≡ list_any (runs_lent n) ds
  any_alike [] [] all = refl
  any_alike (k ∷ ks) (a ∷ ds) all = grind (arith, any_alike ks ds all.1, by_program)
  any_alike ks ds all = absurd all

  back_by : (k : Kept) (a : AuditedDevice) (b : Bool) → IsAt programs Next k a → (b && runs a.history.running) ≡ false
      → IsAt programs Next (cond b (record k { device = replay.given_back k.device }) k)
      (cond b (record a { history = emptied a.history; lent = None }) a)
  back_by k a true is idle = record {
    kept = record {
      follows = fresh_follows k.device a is.kept.follows (not_runs a.history.running idle);
      keeps = fresh_keeps k.device a.history is.kept.keeps;
      counts = is.kept.counts;
    };
    plans_are = is.plans_are;
    due_so = refl;
  }
  back_by k a false is idle = is

  back_at : (k : Kept) (a : AuditedDevice) → IsAt programs Next k a → runs_lent n a ≡ false
      → IsAt programs Next (taken_back n k) (given_back n a)
  back_at k a is idle = grind (arith, back_by k a (is_lent_to n a.lent) is idle)

  pub all_back : (ks : List Kept) (ds : List AuditedDevice) → AllKept programs ks ds → list_any (runs_lent n) ds ≡ false
      → AllKept programs (map (taken_back n) ks) (map (given_back n) ds)
  all_back [] [] all none = tt
  all_back (k ∷ ks) (a ∷ ds) all none = (
    back_at k a all.0 (or_first (runs_lent n a) (list_any (runs_lent n) ds) none),
    all_back ks ds all.1 (or_second (runs_lent n a) (list_any (runs_lent n) ds) none),
  )
  all_back ks ds all none = absurd all
