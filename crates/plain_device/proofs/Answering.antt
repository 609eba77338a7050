-- A command of the plain device that asks it.
use Rattle.std.proofs.Common.{◌≡◌, ◌+◌, ℕ, Some, None, Option, refl, sym, ap, subst, ◌∙◌}
use Rattle.ckd_types.specs.declared.channel.CommandEnd.{CommandEnd}
use Rattle.ckd_chain.specs.declared.mark.Stage.{Stage}
use Rattle.ckd_chain.specs.declared.mark.Stage.TheVariants.{Over, Looks, Asks}
use Rattle.ckd_chain.specs.declared.progress.Progress.{Progress}
use Rattle.ckd_chain.specs.declared.progress.Progress.TheVariants as progresses
use Rattle.ckd_chain.specs.declared.progress.Settled.{Settled}
use Rattle.ckd_chain.specs.State.{ChainState}
use Rattle.ckd_chain.specs.Steps.{word_of, start_of, behind, end_with, stepped, settled_by}
use Rattle.ckd_rules.specs.declared.grouping.GroupFault.{GroupFault}
use Rattle.ckd_rules.specs.declared.order.LocalAct.{LocalAct}
use Rattle.ckd_rules.specs.declared.order.LocalAct.TheVariants as acts
use Rattle.ckd_rules.specs.Ending.{Outcome}
use Rattle.ckd_types.specs.Fixed.{Fixed}
use Rattle.plain_defs.specs.Acts.{act_fault}
use Rattle.plain_defs.specs.Effect.{Effect, acted_by, effect_of_act}
use Rattle.plain_defs.specs.PlainState.{PathsState, PlainState, with_sense}
use Rattle.plain_device.specs.Acted.{settled_with, settled_act, paths_with, paths_behind}
use Rattle.plain_device.specs.declared.done.Done.{Done}
use Rattle.plain_device.specs.Between.{ComesTo, edit_of, fixed_with}
use Rattle.plain_device.specs.Looking.{IsAtAnswer, stage_effect}

abbrev pub at_act : ChainState → LocalAct → ChainState
at_act s act = record s { stage = Some (Asks act) }

-- a step of a command that looks at no track asks what its stage says, and leaves the chain
pub record AsksFor (s : ChainState) (act : LocalAct) (then_chain : ChainState) : Type 0 where
  pub is : s ≡ at_act s act
  pub chain : then_chain ≡ s

pub asks_for : (s : ChainState) (stage : Option Stage) → s.stage ≡ stage → IsAtAnswer stage
    → (progress : Progress) (then_chain : ChainState) (act : LocalAct) → progress ≡ (stepped s None).progress
    → then_chain ≡ (stepped s None).chain
    → progress ≡ progresses.Local act → AsksFor s act then_chain
asks_for s (Some Over) stage_is at progress then_chain act progress_is chain_is is =
    let here : s ≡ record s { stage = Some Over } = ap (λ (x : Option Stage). record s { stage = x }) stage_is in
    absurd (let e : (stepped (record s { stage = Some Over }) None).progress ≡ progresses.Local act =
    sym (progress_is ∙ ap (λ (x : ChainState). (stepped x None).progress) here) ∙ is in cc)
asks_for s (Some (Asks a)) stage_is at progress then_chain act progress_is chain_is is =
    let here : s ≡ at_act s a = ap (λ (x : Option Stage). record s { stage = x }) stage_is in
    let e : (stepped (at_act s a) None).progress ≡ progresses.Local act =
    sym (progress_is ∙ ap (λ (x : ChainState). (stepped x None).progress) here) ∙ is in
    let same : a ≡ act = cc in record {
      is = here ∙ ap (λ (x : LocalAct). at_act s x) same;
      chain = chain_is ∙ ap (λ (x : ChainState). (stepped x None).chain) here ∙ sym here;
    }
asks_for s (Some (Looks look)) stage_is at progress then_chain act progress_is chain_is is = absurd at
asks_for s None stage_is at progress then_chain act progress_is chain_is is = absurd at

module _ (f : Fixed) (paths : PathsState) (path : ℕ) (b : ChainState) where
  outcome_by : (act : LocalAct) (fault : Option GroupFault)
      → settled_by (at_act b act) (settled_with f.geometry paths path act fault)
      ≡ (acted_by f paths path b.before.stance (word_of b) act fault).outcome
  outcome_by act (Some fault) = refl
  outcome_by acts.Sense None = refl
  outcome_by acts.SenseId None = refl
  outcome_by acts.Reserve None = refl
  outcome_by acts.Release None = refl
  outcome_by acts.Steal None = refl
  outcome_by (acts.SetGroup function id) None = refl
  outcome_by acts.SenseGroup None = refl

  paths_by : (act : LocalAct) (fault : Option GroupFault)
      → with_sense (paths_with paths path act fault) path
      (acted_by f paths path b.before.stance (word_of b) act fault).outcome.ending.sense
      ≡ (acted_by f paths path b.before.stance (word_of b) act fault).paths
  paths_by act (Some fault) = refl
  paths_by acts.Sense None = refl
  paths_by acts.SenseId None = refl
  paths_by acts.Reserve None = refl
  paths_by acts.Release None = refl
  paths_by acts.Steal None = refl
  paths_by (acts.SetGroup function id) None = refl
  paths_by acts.SenseGroup None = refl

  edit_by : (act : LocalAct) (fault : Option GroupFault)
      → (acted_by f paths path b.before.stance (word_of b) act fault).edit ≡ None
  edit_by act (Some fault) = refl
  edit_by act None = refl

-- a command that ended so, with what is then kept of the paths
abbrev pub done_by : CommandEnd → PathsState → Done
done_by e paths = record { end = e; edit = None; paths = paths }

module _ (d : PlainState) (path : ℕ) where
  -- what the device's paths make of an act of a chain on it
  abbrev act_effect : ChainState → LocalAct → Effect
  act_effect s act = effect_of_act (fixed_with d s.fixed.number) d.paths path (start_of s).stance (word_of s) act

  star_answered : (b : ChainState) (act : LocalAct) (last : ChainState) (how : Settled) (middle : PathsState)
      (done : Done) (e : CommandEnd) → how ≡ settled_act d.geometry d.paths path act
      → middle ≡ paths_behind d.paths path act
      → e ≡ end_with (at_act b act) (settled_by (at_act b act) how)
      → last ≡ behind (at_act b act) (settled_by (at_act b act) how)
      → done ≡ record { end = e; edit = None; paths = with_sense middle path e.sense }
      → last.at.stance.commands ≡ b.before.stance.commands + 1
      → ComesTo (at_act b act) last done (act_effect (at_act b act) act)
  star_answered b act last how middle done e how_is middle_is end_is last_is done_is counted =
      let f = fixed_with d b.fixed.number in
      let fault = act_fault d.paths path act in
      let made = effect_of_act f d.paths path b.before.stance (word_of b) act in
      let out : settled_by (at_act b act) how ≡ made.outcome =
      ap (λ (x : Settled). settled_by (at_act b act) x) how_is ∙ outcome_by f d.paths path b act fault in
      let ends : e ≡ end_with (at_act b act) made.outcome =
      end_is ∙ ap (λ (o : Outcome). end_with (at_act b act) o) out in record {
        end_is = ap (λ (x : Done). x.end) done_is ∙ ends;
        edit_is = ap (λ (x : Done). edit_of x.edit) done_is ∙ sym (edit_by f d.paths path b act fault);
        paths_is =
            ap (λ (x : Done). x.paths) done_is
            ∙ ap (λ (x : PathsState). with_sense x path e.sense) middle_is
            ∙ ap (λ (x : CommandEnd). with_sense (paths_behind d.paths path act) path x.sense) ends
            ∙ paths_by f d.paths path b act fault;
        chain_is = last_is ∙ ap (λ (o : Outcome). behind (at_act b act) o) out;
        counted = counted;
      }

  pub answered_ends : (s then_chain : ChainState) (act : LocalAct) → AsksFor s act then_chain
      → (last : ChainState) (how : Settled) (middle : PathsState) (done : Done) (e : CommandEnd)
      → how ≡ settled_act d.geometry d.paths path act
      → middle ≡ paths_behind d.paths path act → e ≡ end_with then_chain (settled_by then_chain how)
      → last ≡ behind then_chain (settled_by then_chain how)
      → done ≡ record { end = e; edit = None; paths = with_sense middle path e.sense }
      → last.at.stance.commands ≡ (start_of then_chain).stance.commands + 1
      → ComesTo s last done (stage_effect d path s s.stage)
  answered_ends s then_chain act asks last how middle done e how_is middle_is end_is last_is done_is counted =
      let here : then_chain ≡ at_act s act = asks.chain ∙ asks.is in
      subst (λ (x : ChainState). ComesTo x last done (stage_effect d path x x.stage)) (sym asks.is)
      (star_answered s act last how middle done e how_is middle_is
      (end_is ∙ ap (λ (x : ChainState). end_with x (settled_by x how)) here)
      (last_is ∙ ap (λ (x : ChainState). behind x (settled_by x how)) here) done_is
      (counted ∙ ap (λ (x : ChainState). (start_of x).stance.commands + 1) here))
