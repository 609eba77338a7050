-- What a chain keeps while a command goes from track to track.
use Rattle.std.proofs.Common.{◌≡◌, ℕ, ◌+◌, Bool, true, false, Option, Some, None, refl, sym, subst, ◌∙◌}
use Rattle.std.specs.Prelude.{◌&&◌, ◌||◌, not, IsSome, if◌then◌else◌}
use Rattle.ckd_types.specs.Ccw.{is_chained}
use Rattle.ckd_types.specs.Program.{target}
use Rattle.ckd_types.specs.Status.{has_unit_check, has_unit_exception, has_status_modifier}
use Rattle.ckd_rules.specs.declared.stance.Stance.{Stance}
use Rattle.ckd_rules.specs.declared.turned.Turned.{Turned}
use Rattle.ckd_rules.specs.declared.turned.Turned.TheVariants as turns
use Rattle.ckd_rules.specs.Ending.{Outcome}
use Rattle.ckd_rules.specs.Ends.{is_plain, at_limit}
use Rattle.ckd_rules.specs.Look.{look_on}
use Rattle.ckd_chain.specs.declared.mark.Stage.{Stage}
use Rattle.ckd_chain.specs.declared.mark.Stage.TheVariants as stages
use Rattle.ckd_chain.specs.declared.progress.Progress.{Progress}
use Rattle.ckd_chain.specs.State.{ChainState}
use Rattle.ckd_chain.specs.Steps.{index_of, word_of, opened_by, chain_opened, stage_by, behind, end_with, held_outcome, step_turned, stepped_by, stepped}
use Rattle.track_image.specs.Image.{Image}
use Rattle.ckd_types.specs.declared.channel.CommandEnd.{CommandEnd}
use Rattle.device_core.specs.Words.{IsReady}
use Rattle.device_core.specs.TrackWalk.{IsAt, Waits, IsSameHand, GoesOn}
use Rattle.device_core.specs.declared.track_walk.Step.{Step}
use Rattle.device_core.specs.declared.track_walk.Step.TheVariants as steps

by_tests : (chained a b c limit : Bool) (k : ℕ) → (not (chained && a && b && c) || limit) ≡ false →
    IsSome (if (not (chained && a && b && c) || limit) then None else (if chained then Some k else None))
by_tests true a b c limit k e =
    subst (λ (x : Bool). IsSome {T = ℕ} (if x then None else Some k)) (sym e) refl
by_tests false a b c limit k e = absurd cc

-- a command that isn't the last of its program leads to a word
pub goes_behind : (s : ChainState) (o : Outcome) → (end_with s o).over ≡ false → IsSome (behind s o).at.next
goes_behind s o e =
    by_tests (is_chained (word_of s)) (not (has_unit_check o.ending.status)) (not (has_unit_exception o.ending.status)) (is_plain o.ending.note)
    (at_limit o.stance) (target s.ccws (index_of s.at.next + (if has_status_modifier o.ending.status then 2 else 1))) e

pub goes_ready : (s : ChainState) (o : Outcome) → (end_with s o).over ≡ false → IsReady (behind s o)
goes_ready s o e = record { running = goes_behind s o e; back = goes_behind s o e }

-- the same of an end and a chain that are these
pub ready_behind : (s z : ChainState) (o : Outcome) (e : CommandEnd) → e ≡ end_with s o → z ≡ behind s o → e.over ≡ false → IsReady z
ready_behind s z o e end_is chain_is over =
    subst (λ (x : ChainState). IsReady x) (sym chain_is) (goes_ready s o (subst (λ (x : CommandEnd). x.over ≡ false) end_is over))

opens : (s : ChainState) (o : Option Stage) → s.stage ≡ o → IsSome o → opened_by s o ≡ s
opens s None e is = absurd cc
opens s (Some stage) e is = refl

pub begun_opened : (s : ChainState) → IsSome s.stage → chain_opened s ≡ s
begun_opened s is = opens s s.stage refl is

-- a command that has begun is at its word, and began at one
pub ready_at : (s : ChainState) → IsSome s.stage → IsSome s.at.next → IsSome s.before.next → IsReady s
ready_at s begun running back = record {
  running = running;
  back = subst (λ (x : ChainState). IsSome x.before.next) (sym (begun_opened s begun)) back;
}

module _ (n : ℕ) where
  by_turned : (s : ChainState) (z : Stance) (turned : Turned) → IsAt n s → Waits n s (step_turned s z turned).chain (step_turned s z turned).progress
  by_turned s z (turns.Ended e) at = record { cylinders_are = at.cylinders_are; goes = goes_ready s (record { stance = z; ending = e }) }
  by_turned s z turns.Onward at =
      (record { running = at.running; begun = at.begun; back = at.back; cylinders_are = at.cylinders_are }, record { again = refl })
  by_turned s z (turns.Edits edit e) at =
      (record { running = at.running; begun = refl; back = at.back; cylinders_are = at.cylinders_are }, record { again = refl }, tt)

  by_stage : (s : ChainState) (i : Image) (stage : Stage) → IsAt n s → Waits n s (stepped_by s (Some i) stage).chain (stepped_by s (Some i) stage).progress
  by_stage s i stages.Over at = record { cylinders_are = at.cylinders_are; goes = goes_ready s (held_outcome s s.held) }
  by_stage s i (stages.Looks look) at =
      let l = look_on i.geometry i.track s.at.stance (word_of s) look in by_turned s l.stance l.turned at
  by_stage s i (stages.Asks act) at = at

  by_begun : (s : ChainState) (i : Image) (o : Option Stage) → IsSome o → IsAt n s →
      Waits n s (stepped_by (opened_by s o) (Some i) (stage_by s o)).chain (stepped_by (opened_by s o) (Some i) (stage_by s o)).progress
  by_begun s i None is at = absurd cc
  by_begun s i (Some stage) is at = by_stage s i stage at

  pub waits_as : (s z : ChainState) (i : Image) (p : Progress) → IsAt n s → p ≡ (stepped s (Some i)).progress → z ≡ (stepped s (Some i)).chain →
      Waits n s z p
  waits_as s z i p at is behind_is =
      subst (λ (x : ChainState). Waits n s x p) (sym behind_is)
      (subst (λ (x : Progress). Waits n s (stepped s (Some i)).chain x) (sym is) (by_begun s i s.stage at.begun at))

  pub goes_from : (s z w : ChainState) → IsSameHand s z → (step : Step) → GoesOn n z w step → GoesOn n s w step
  goes_from s z w same (steps.Over came) goes = goes
  goes_from s z w same (steps.On t) goes = (goes.0, record { again = goes.1.again ∙ same.again }, goes.2)
