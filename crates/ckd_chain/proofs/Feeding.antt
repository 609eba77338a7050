-- A chain that is fed follows the rules.
use Rattle.std.proofs.Common.{◌≡◌, ℕ, zero, suc, Option, Some, None, refl, sym, ap, subst}
use Rattle.ckd_types.specs.declared.record.Track.{Track}
use Rattle.ckd_chain.specs.declared.mark.Stage.{Stage}
use Rattle.ckd_chain.specs.declared.mark.Stage.TheVariants as stages
use Rattle.ckd_chain.specs.declared.progress.Settled.{Settled}
use Rattle.ckd_chain.specs.Fed.{Fed, ended_by, fed_by, fed, fed_image, by_rules, fed_by_rules}
use Rattle.ckd_chain.specs.State.{ChainState}
use Rattle.ckd_chain.specs.Steps.{word_of, begin_with, opening_at, stage_for, track_needed, step_turned, stepped_by}
use Rattle.ckd_rules.specs.declared.opening.Opening.{Opening}
use Rattle.ckd_rules.specs.declared.opening.Opening.TheVariants as openings
use Rattle.ckd_rules.specs.declared.order.LocalAct.{LocalAct}
use Rattle.ckd_rules.specs.declared.order.Look.{Look}
use Rattle.ckd_rules.specs.declared.stance.Stance.{Stance}
use Rattle.ckd_rules.specs.declared.turned.Turned.{Turned}
use Rattle.ckd_rules.specs.declared.turned.Turned.TheVariants as turns
use Rattle.ckd_rules.specs.Look.{look_on}
use Rattle.ckd_rules.specs.Walk.{Walked, walked, walk}

module _ (tracks : ℕ → Track) (answer : LocalAct → Settled) where
  module _ (look : Look) where
    abbrev at_look : ChainState → ChainState
    at_look b = record b { stage = Some (stages.Looks look) }

    abbrev ended_walk : ChainState → Walked → Fed
    ended_walk s w = ended_by s w.outcome w.edit

    abbrev walk_of : ℕ → ChainState → Stance → Walked
    walk_of n b z = walk n b.fixed.geometry tracks b.before.stance (word_of b) look z

    abbrev moved : ChainState → Stance → ChainState
    moved b z = record b { at = record b.at { stance = z } }

    -- what comes of a look, where it goes on as the walk does
    look_by : (n : ℕ) (b : ChainState) (z : Stance) (t : Turned) →
        ((c : ChainState) → fed n tracks answer (at_look c) ≡ ended_walk (at_look c) (walk_of n c c.at.stance))
        → fed_by answer (fed n tracks answer) (step_turned (at_look b) z t).chain (step_turned (at_look b) z t).progress
        ≡ ended_walk (at_look b) (walked b.at.stance.track (walk_of n b) z t)
    look_by n b z (turns.Ended e) rest = refl
    look_by n b z turns.Onward rest = rest (moved b z)
    look_by n b z (turns.Edits edit e) rest = refl

    look_fed : (n : ℕ) (b : ChainState) → fed n tracks answer (at_look b) ≡ ended_walk (at_look b) (walk_of n b b.at.stance)
    unfolding fed walk
    look_fed zero b = refl
    look_fed (suc n) b =
        let l = look_on b.fixed.geometry (tracks b.at.stance.track) b.at.stance (word_of b) look in
        look_by n b l.stance l.turned (look_fed n)

  abbrev unbegun : ChainState → ChainState
  unbegun b = record b { stage = None }

  opening_by : (n : ℕ) (b : ChainState) (z : Stance) (h : Opening)
      → fed_by answer (fed n tracks answer) (stepped_by (begin_with (unbegun b)
      (record { stance = z; opening = h })) (fed_image b.fixed tracks
      (track_needed (begin_with (unbegun b) (record { stance = z; opening = h })) (stage_for h))) (stage_for h)).chain
      (stepped_by (begin_with (unbegun b) (record { stance = z; opening = h }))
      (fed_image b.fixed tracks (track_needed (begin_with (unbegun b) (record { stance = z; opening = h }))
      (stage_for h))) (stage_for h)).progress
      ≡ by_rules (suc n) tracks answer (unbegun b) z h
  unfolding fed walk
  opening_by n b z (openings.Over e) = refl
  opening_by n b z (openings.Looks look) = look_fed look (suc n) (begin_with (unbegun b) (record { stance = z; opening = openings.Looks look }))
  opening_by n b z (openings.Asks act) = refl

  unbegun_fed : (n : ℕ) (b : ChainState) → fed (suc n) tracks answer (unbegun b) ≡ fed_by_rules (suc n) tracks answer (unbegun b)
  unfolding fed
  unbegun_fed n b = let o = opening_at (unbegun b) in opening_by n b o.stance o.opening

  pub chain_fed : (n : ℕ) (s : ChainState) → s.stage ≡ None → fed (suc n) tracks answer s ≡ fed_by_rules (suc n) tracks answer s
  chain_fed n s none =
      let here : s ≡ unbegun s = ap (λ (x : Option Stage). record s { stage = x }) none in
      subst (λ (x : ChainState). fed (suc n) tracks answer x ≡ fed_by_rules (suc n) tracks answer x) (sym here) (unbegun_fed n s)
