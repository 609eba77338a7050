-- What the rules say of a command that looks at tracks, and of one that asks its device.
use Rattle.std.proofs.Common.{◌≡◌, ◌*◌, suc, ℕ, List, Option, Some, None, refl, sym, ap, ◌∙◌}
use Rattle.ckd_types.specs.declared.geometry.Geometry.{Geometry}
use Rattle.ckd_types.specs.declared.record.Track.{Track}
use Rattle.ckd_types.specs.Volume.{track_in}
use Rattle.ckd_chain.specs.declared.mark.Mark.{Mark}
use Rattle.ckd_chain.specs.declared.mark.Stage.{Stage}
use Rattle.ckd_chain.specs.declared.progress.Settled.{Settled}
use Rattle.ckd_chain.specs.Fed.{ended_by, fed, by_rules}
use Rattle.ckd_chain.specs.State.{ChainState}
use Rattle.ckd_chain.specs.Steps.{
  begin_with,
  opening_at,
  stage_for,
  opened_by,
  stage_by,
  track_needed,
  need_of,
  index_of,
  word_of,
  mark_by,
  behind,
  end_with,
  settled_by,
}
use Rattle.ckd_chain.proofs.Feeding.{chain_fed}
use Rattle.ckd_rules.specs.declared.grouping.GroupFault.{GroupFault}
use Rattle.ckd_rules.specs.declared.opening.Opening.{Opening}
use Rattle.ckd_rules.specs.declared.opening.Opening.TheVariants as openings
use Rattle.ckd_rules.specs.declared.order.LocalAct.{LocalAct}
use Rattle.ckd_rules.specs.declared.order.LocalAct.TheVariants as acts
use Rattle.ckd_rules.specs.declared.stance.Stance.{Stance}
use Rattle.ckd_rules.specs.Ending.{Outcome}
use Rattle.ckd_rules.specs.Ends.{goes_to}
use Rattle.ckd_rules.specs.Walk.{walk}
use Rattle.plain_defs.specs.Acts.{act_fault}
use Rattle.plain_defs.specs.Effect.{Effect, acted_by, effect_by, command_effect}
use Rattle.plain_defs.specs.PlainState.{PathsState, with_sense}
use Rattle.plain_device.specs.Acted.{settled_with, settled_act, paths_with, paths_behind}
use Rattle.device_defs.specs.declared.answers.Came.TheVariants.{Ends}
use Rattle.device_defs.specs.Outcomes.{Turn, ends_with, settles}

module _ (chain : ChainState) (fresh : chain.stage ≡ None) (paths : PathsState) (path : ℕ) (u : List Track) where
  abbrev pub eff_of : Effect
  eff_of = command_effect chain.fixed paths (track_in u) path chain.at.stance (word_of chain)

  abbrev pub by_opening : Stance → Opening → Effect
  by_opening z x = effect_by chain.fixed paths (track_in u) path chain.at.stance (word_of chain) z x

  rules_by : (answer : LocalAct → Settled) (k t : ℕ) (v : ChainState) → suc k ≡ chain.fixed.cylinders * 15 → (z : Stance) (x : Opening) →
      track_needed v (stage_for x) ≡ Some t →
      by_rules (suc k) (track_in u) answer chain z x ≡ ended_by chain (by_opening z x).outcome (by_opening z x).edit
  rules_by answer k t v m z (openings.Over e) is = refl
  rules_by answer k t v m z (openings.Looks look) is =
      ap (λ (n : ℕ). let w = walk n chain.fixed.geometry (track_in u) chain.at.stance (word_of chain) look z in ended_by chain w.outcome w.edit) m
  rules_by answer k t v m z (openings.Asks act) is = absurd (cc)

  kept_sense : (t : ℕ) (v : ChainState) (z : Stance) (x : Opening) → track_needed v (stage_for x) ≡ Some t →
      with_sense paths path (by_opening z x).outcome.ending.sense ≡ (by_opening z x).paths
  kept_sense t v z (openings.Over e) is = refl
  kept_sense t v z (openings.Looks look) is = refl
  kept_sense t v z (openings.Asks act) is = absurd (cc)

  pub needs_by : need_of chain ≡ track_needed (begin_with chain (opening_at chain)) (stage_for (opening_at chain).opening)
  needs_by = ap (λ (o : Option Stage). track_needed (opened_by chain o) (stage_by chain o)) fresh

  needs_so : (t : ℕ) → need_of chain ≡ Some t → track_needed (begin_with chain (opening_at chain)) (stage_for (opening_at chain).opening) ≡ Some t
  needs_so t is = sym (ap (λ (o : Option Stage). track_needed (opened_by chain o) (stage_by chain o)) fresh) ∙ is

  pub fed_so : (answer : LocalAct → Settled) (k t : ℕ) → suc k ≡ chain.fixed.cylinders * 15 → need_of chain ≡ Some t →
      fed (suc k) (track_in u) answer chain ≡ ended_by chain eff_of.outcome eff_of.edit
  fed_so answer k t m is = chain_fed (track_in u) answer k chain fresh
      ∙ rules_by answer k t (begin_with chain (opening_at chain)) m (opening_at chain).stance (opening_at chain).opening (needs_so t is)

  pub looking_keeps : (t : ℕ) → need_of chain ≡ Some t → with_sense paths path eff_of.outcome.ending.sense ≡ eff_of.paths
  looking_keeps t is = kept_sense t (begin_with chain (opening_at chain)) (opening_at chain).stance (opening_at chain).opening (needs_so t is)

  -- what it asks

  abbrev begun_at : Stance → Opening → ChainState
  begun_at z x = begin_with chain (record { stance = z; opening = x })

  asked_outcome : (z : Stance) (act : LocalAct) (fault : Option GroupFault) →
      settled_by (begun_at z (openings.Asks act)) (settled_with chain.fixed.geometry paths path act fault)
      ≡ (acted_by chain.fixed paths path chain.at.stance (word_of chain) act fault).outcome
  asked_outcome z act (Some fault) = refl
  asked_outcome z acts.Sense None = refl
  asked_outcome z acts.SenseId None = refl
  asked_outcome z acts.Reserve None = refl
  asked_outcome z acts.Release None = refl
  asked_outcome z acts.Steal None = refl
  asked_outcome z (acts.SetGroup function id) None = refl
  asked_outcome z acts.SenseGroup None = refl

  asked_paths : (act : LocalAct) (fault : Option GroupFault) →
      with_sense (paths_with paths path act fault) path (acted_by chain.fixed paths path chain.at.stance (word_of chain) act fault).outcome.ending.sense
      ≡ (acted_by chain.fixed paths path chain.at.stance (word_of chain) act fault).paths
  asked_paths act (Some fault) = refl
  asked_paths acts.Sense None = refl
  asked_paths acts.SenseId None = refl
  asked_paths acts.Reserve None = refl
  asked_paths acts.Release None = refl
  asked_paths acts.Steal None = refl
  asked_paths (acts.SetGroup function id) None = refl
  asked_paths acts.SenseGroup None = refl

  asked_edit : (act : LocalAct) (fault : Option GroupFault) → (acted_by chain.fixed paths path chain.at.stance (word_of chain) act fault).edit ≡ None
  asked_edit act (Some fault) = refl
  asked_edit act None = refl

  behind_same : (z : Stance) (x : Opening) (o : Outcome) → behind (begun_at z x) o ≡ behind chain o
  behind_same z x o = ap (λ (m : Mark). record chain {
    at = record { stance = o.stance; next = goes_to chain.ccws (index_of chain.at.next) o };
    before = m;
    stage = None;
    held = None;
  }) (sym (ap (mark_by chain) fresh))

  -- the turn of a command that looks at no track, with the paths behind it, is that of its effect
  pub record AnswerIs (e : Effect) (turn : Turn) (after : PathsState) : Type 0 where
    pub turn_is : turn ≡ record { came = Ends (end_with chain e.outcome); chain = behind chain e.outcome }
    pub kept : with_sense after path e.outcome.ending.sense ≡ e.paths
    pub none : e.edit ≡ None

  ends_so : (z : Stance) (x : Opening) (o p : Outcome) → o ≡ p →
      ends_with (behind (begun_at z x) o) (end_with (begun_at z x) o) ≡ record { came = Ends (end_with chain p); chain = behind chain p }
  ends_so z x o p is =
      ap (λ (y : Outcome). ends_with (behind (begun_at z x) y) (end_with (begun_at z x) y)) is
      ∙ ap (λ (c : ChainState). record { came = Ends (end_with chain p); chain = c }) (behind_same z x p)

  pub over_answer : (z : Stance) (e : _) → AnswerIs (by_opening z (openings.Over e))
      (ends_with (behind (begun_at z (openings.Over e)) (record { stance = z; ending = e })) (end_with (begun_at z (openings.Over e))
      (record { stance = z; ending = e })))
      paths
  over_answer z e = record {
    turn_is = ends_so z (openings.Over e) (record { stance = z; ending = e }) (record { stance = z; ending = e }) refl;
    kept =
        refl;
    none = refl;
  }

  pub asked_answer : (z : Stance) (act : LocalAct) (g : Geometry) → chain.fixed.geometry ≡ g →
      AnswerIs (by_opening z (openings.Asks act)) (settles (begun_at z (openings.Asks act)) (settled_act g paths path act)) (paths_behind paths path act)
  asked_answer z act g same = record {
    turn_is = ends_so z (openings.Asks act) (settled_by (begun_at z (openings.Asks act)) (settled_act g paths path act))
        (by_opening z (openings.Asks act)).outcome
        (ap (λ (y : Geometry). settled_by (begun_at z (openings.Asks act)) (settled_act y paths path act)) (sym same)
        ∙ asked_outcome z act (act_fault paths path act));
    kept = asked_paths act (act_fault paths path act);
    none = asked_edit act (act_fault paths path act);
  }
