-- A command of the plain device that has begun.
use Rattle.std.proofs.Common.{◌≡◌, ℕ, None, Option, sym, ap, subst}
use Rattle.ckd_types.specs.Fixed.{Fixed}
use Rattle.ckd_types.specs.Volume.{track_in}
use Rattle.ckd_chain.specs.declared.mark.Stage.{Stage}
use Rattle.ckd_chain.specs.State.{ChainState}
use Rattle.ckd_chain.specs.Steps.{word_of, chain_opened, begin_with, opening_at}
use Rattle.ckd_rules.specs.declared.opening.Opening.{Opening}
use Rattle.ckd_rules.specs.declared.opening.Opening.TheVariants.{Over, Looks, Asks}
use Rattle.ckd_rules.specs.declared.stance.Stance.{Stance}
use Rattle.plain_defs.specs.Effect.{effect_by}
use Rattle.plain_defs.specs.PlainState.{PlainState}
use Rattle.plain_device.specs.declared.done.Done.{Done}
use Rattle.plain_device.specs.Between.{IsBetween, ComesTo, effect_of, fixed_with}
use Rattle.plain_device.specs.Looking.{stage_effect}

abbrev unbegun : ChainState → ChainState
unbegun s = record s { stage = None }

module _ (d : PlainState) (path : ℕ) (b last : ChainState) (done : Done) where
  abbrev number_of : Fixed
  number_of = fixed_with d b.fixed.number

  by_opening : (z : Stance) (h : Opening)
      → ComesTo (begin_with (unbegun b) (record { stance = z; opening = h })) last done
      (stage_effect d path (begin_with (unbegun b) (record { stance = z; opening = h }))
      (begin_with (unbegun b) (record { stance = z; opening = h })).stage)
      → ComesTo (unbegun b) last done (effect_by number_of d.paths (track_in d.volume) path b.at.stance (word_of b)
      z h)
  by_opening z (Over ending) x = record {
    end_is = x.end_is;
    edit_is = x.edit_is;
    paths_is = x.paths_is;
    chain_is = x.chain_is;
    counted =
        x.counted;
  }
  by_opening z (Looks look) x = record {
    end_is = x.end_is;
    edit_is = x.edit_is;
    paths_is = x.paths_is;
    chain_is = x.chain_is;
    counted =
        x.counted;
  }
  by_opening z (Asks act) x = record {
    end_is = x.end_is;
    edit_is = x.edit_is;
    paths_is = x.paths_is;
    chain_is = x.chain_is;
    counted =
        x.counted;
  }

-- what it comes to once it has begun is what it comes to
pub opened_ends : (d : PlainState) (path : ℕ) (s last : ChainState) (done : Done)
    → IsBetween d s → ComesTo (chain_opened s) last done (stage_effect d path (chain_opened s) (chain_opened s).stage)
    → ComesTo s last done (effect_of d path s)
opened_ends d path s last done between ends =
    let here : s ≡ unbegun s = ap (λ (x : Option Stage). record s { stage = x }) between.stage in
    let o = opening_at s in
    let begun : chain_opened s ≡ begin_with (unbegun s) o = ap (λ (x : ChainState). chain_opened x) here in
    let by : ComesTo (unbegun s) last done (effect_by (fixed_with d s.fixed.number) d.paths (track_in d.volume) path
    s.at.stance (word_of s) o.stance o.opening) =
    by_opening d path s last done o.stance o.opening
    (subst (λ (x : ChainState). ComesTo x last done (stage_effect d path x x.stage)) begun ends)
    in
    subst (λ (f : Fixed). ComesTo s last done (effect_by f d.paths (track_in d.volume) path s.at.stance (word_of s)
    o.stance o.opening)) (sym between.fixed)
    (subst (λ (x : ChainState). ComesTo x last done
    (effect_by (fixed_with d s.fixed.number) d.paths (track_in d.volume) path s.at.stance (word_of s) o.stance
    o.opening)) (sym here) by)
