-- One piece of work in the background on, with the lines that it tells.
use Rattle.std.proofs.Common.{◌≡◌, ◌≤◌, ◌<◌, ◌∙◌, ◌+◌, ◌-◌, ◌++◌, arith, ℕ, suc, Bool, true, false, List, [], ◌∷◌, refl, sym, ap, subst}
use Rattle.std.specs.Prelude.{if◌then◌else◌}
use Rattle.std.proofs.lemmas.List.{append-nil}
use Rattle.device_outside.specs.declared.volume.Volume.{Ghosts}
use Rattle.report_text.specs.declared.answers.BackAnswer.TheVariants.{Nothing}
use Rattle.report_text.specs.declared.event.Happened.TheVariants as did
use Rattle.report_text.specs.declared.line.ReportLine.TheVariants as told_lines
use Rattle.report_text.specs.declared.line.ReportLine.{ReportLine}
use Rattle.run_report.specs.Events.{lines_of, running_in, work_told}
use Rattle.subsystem_core.specs.declared.subsystem.Subsystem.{Subsystem}
use Rattle.subsystem_defs.specs.declared.event.Event.TheVariants as events
use Rattle.subsystem_defs.specs.Happening.{happens}
use Rattle.subsystem_defs.specs.Lines as lines
use Rattle.subsystem_defs.specs.Lines.{Settle, Logged, logged, backs, is_settled, last_behind}
use Rattle.subsystem_defs.specs.Subsystem as runs
use Rattle.subsystem_defs.specs.Subsystem.{devices_of}
use Rattle.deck_run.specs.Going.{BacksLeft, IsRecorded}
use Rattle.deck_run.specs.Recording.{all_lines}
use Rattle.deck_run.specs.Standing.{StandsAs}
use Rattle.deck_run.proofs.Going.{IsOver, further, no_further}
use Rattle.deck_run.proofs.Recorded.{asked_lines}

backs_one : (n d : ℕ) (s : runs.Subsystem) (b : Bool) → b ≡ is_settled (happens s (events.Back d)).end →
    backs (suc n) d s ≡ logged (Settle d) (happens s (events.Back d)) ∷ (if b then [] else backs n d (happens s (events.Back d)).behind)
unfolding lines.backs
backs_one n d s b is =
    ap (λ (x : Bool). logged (Settle d) (happens s (events.Back d)) ∷ (if x then [] else backs n d (happens s (events.Back d)).behind)) (sym is)

backs_none : (d : ℕ) (s : runs.Subsystem) → backs 0 d s ≡ []
unfolding lines.backs
backs_none d s = refl

one_fewer : (k : ℕ) → k < 2946 → 2946 - k ≡ suc (2946 - (k + 1))
one_fewer k within = omega arith

module _ {V : Type 0} {G : Ghosts V} where
  pub backs_begin : (s : Subsystem V G) (told : List ReportLine) (d : ℕ) (run : runs.Subsystem) → StandsAs s run →
      BacksLeft s told d 2946 (last_behind run (backs 2946 d run)) (told ++ all_lines (backs 2946 d run))
  backs_begin s told d run stands = record { now = run; stands = stands; rest = refl; lines = refl }

  module _ (s z : Subsystem V G) (told more : List ReportLine) (d k : ℕ) (last : runs.Subsystem) (all : List ReportLine) (within : k < 2946) where
    pub back_done : ((run : runs.Subsystem) → StandsAs s run → false ≡ is_settled (happens run (events.Back d)).end) →
        IsRecorded s z told more (events.Back d)
        (λ (run : runs.Subsystem). work_told d (running_in (devices_of run) d) (did.First (told_lines.Back d Nothing)) (happens run (events.Back d)).end) →
        BacksLeft s told d (2946 - k) last all → BacksLeft z more d (2946 - (k + 1)) last all
    back_done goes_on done left =
        let n = 2946 - (k + 1) in
        let o = happens left.now (events.Back d) in
        let one : backs (2946 - k) d left.now ≡ logged (Settle d) o ∷ backs n d o.behind =
        ap (λ (m : ℕ). backs m d left.now) (one_fewer k within) ∙ backs_one n d left.now false (goes_on left.now left.stands) in
        record {
          now = o.behind;
          stands = done.stands left.now left.stands;
          rest = ap (λ (ts : List Logged). last_behind left.now ts) (sym one) ∙ left.rest;
          lines = further told more (lines_of (logged (Settle d) o)) (all_lines (backs n d o.behind)) all
              (done.lines left.now left.stands ∙ ap (λ (l : List ReportLine). told ++ l) (sym (asked_lines left.now (events.Back d) (Settle d) tt)))
              (ap (λ (ts : List Logged). told ++ all_lines ts) (sym one) ∙ left.lines);
        }

    pub back_over : ((run : runs.Subsystem) → StandsAs s run → true ≡ is_settled (happens run (events.Back d)).end) →
        IsRecorded s z told more (events.Back d)
        (λ (run : runs.Subsystem). work_told d (running_in (devices_of run) d) (did.First (told_lines.Back d Nothing)) (happens run (events.Back d)).end) →
        BacksLeft s told d (2946 - k) last all → IsOver z more last all
    back_over settled done left =
        let n = 2946 - (k + 1) in
        let o = happens left.now (events.Back d) in
        let one : backs (2946 - k) d left.now ≡ logged (Settle d) o ∷ [] =
        ap (λ (m : ℕ). backs m d left.now) (one_fewer k within) ∙ backs_one n d left.now true (settled left.now left.stands) in
        record {
          stands = subst (StandsAs z) (ap (λ (ts : List Logged). last_behind left.now ts) (sym one) ∙ left.rest) (done.stands left.now left.stands);
          lines = done.lines left.now left.stands ∙ ap (λ (l : List ReportLine). told ++ l) (sym (asked_lines left.now (events.Back d) (Settle d) tt))
              ∙ ap (λ (l : List ReportLine). told ++ l) (sym (append-nil (lines_of (logged (Settle d) o))))
              ∙ ap (λ (ts : List Logged). told ++ all_lines ts) (sym one) ∙ left.lines;
        }

  none_left : (s : Subsystem V G) (told : List ReportLine) (d : ℕ) (last : runs.Subsystem) (all : List ReportLine) → BacksLeft s told d 0 last all →
      IsOver s told last all
  none_left s told d last all left =
      let none = backs_none d left.now in
      record {
        stands = subst (StandsAs s) (ap (λ (ts : List Logged). last_behind left.now ts) (sym none) ∙ left.rest) left.stands;
        lines = no_further told all (backs 0 d left.now) none left.lines;
      }

  pub backs_spent : (s : Subsystem V G) (told : List ReportLine) (d k : ℕ) (last : runs.Subsystem) (all : List ReportLine) → 2946 ≤ k →
      BacksLeft s told d (2946 - k) last all → IsOver s told last all
  backs_spent s told d k last all past left =
      none_left s told d last all
      (subst (λ (n : ℕ). BacksLeft s told d n last all) (let none : 2946 - k ≡ 0 = omega arith in none) left)
