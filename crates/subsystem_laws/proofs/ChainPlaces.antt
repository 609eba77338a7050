-- A chain stays on its device, whatever its commands do.
use Rattle.std.proofs.Common.{◌≡◌, ◌<◌, ◌*◌, ℕ, List, Option, Some, None, refl, sym, subst, arith}
use Rattle.std.specs.Prelude.{IfSome}
use Rattle.ckd_types.specs.declared.channel.Ccw.{Ccw}
use Rattle.ckd_types.specs.Fixed.{Fixed}
use Rattle.ckd_rules.specs.declared.ending.Ending.{Ending}
use Rattle.ckd_rules.specs.declared.opening.Opening.{Opening}
use Rattle.ckd_rules.specs.declared.opening.Opening.TheVariants as openings
use Rattle.ckd_rules.specs.declared.stance.Stance.{Stance}
use Rattle.ckd_rules.specs.declared.turned.Turned.{Turned}
use Rattle.ckd_rules.specs.declared.turned.Turned.TheVariants as turns
use Rattle.ckd_rules.specs.Ending.{Outcome}
use Rattle.ckd_rules.specs.Look.{look_on}
use Rattle.ckd_chain.specs.declared.mark.Stage.{Stage}
use Rattle.ckd_chain.specs.declared.mark.Stage.TheVariants as stages
use Rattle.ckd_chain.specs.declared.progress.Settled.{Settled}
use Rattle.ckd_chain.specs.declared.progress.Settled.TheVariants as settles
use Rattle.ckd_chain.specs.State.{ChainState}
use Rattle.ckd_chain.specs.Steps.{
  begun_chain,
  word_of,
  opening_at,
  stage_for,
  opened_by,
  chain_opened,
  stage_by,
  stage_of,
  track_needed,
  mark_by,
  start_of,
  behind,
  held_outcome,
  stepped_by,
  stepped,
  step_turned,
  settled_by,
  written_by,
  again_from,
}
use Rattle.track_image.specs.Image.{Image}
use Rattle.device_laws.specs.Standing.{IsWithin}
use Rattle.device_laws.proofs.ChainTracks.{whole_cylinders}
use Rattle.subsystem_laws.proofs.StancePlaces.{On, SeeksOn, look_leaves_on, Opens, opening_is_on}

abbrev StageIsOn : ℕ → Option Stage → Type 0
StageIsOn n (Some (stages.Looks look)) = SeeksOn n look
StageIsOn n (Some stages.Over) = Unit {0}
StageIsOn n (Some (stages.Asks act)) = Unit {0}
StageIsOn n None = Unit {0}

-- it is of a device with so many cylinders, and where it stands is on that, before the command at hand too
pub record ChainIsOn (cylinders : ℕ) (chain : ChainState) : Type 0 where
  pub cylinders_are : chain.fixed.cylinders ≡ cylinders
  pub at : On (cylinders * 15) chain.at.stance
  pub before : On (cylinders * 15) chain.before.stance
  pub stage : StageIsOn (cylinders * 15) chain.stage

module _ (k : ℕ) (some : 0 < k) where
  abbrev n : ℕ
  n = k * 15

  pub begins_on : (ccws : List Ccw) (f : Fixed) → f.cylinders ≡ k → ChainIsOn k (begun_chain ccws f)
  begins_on ccws f same = record {
    cylinders_are = same;
    at = record { track = omega (arith, some); extent = tt };
    before = record { track = omega (arith, some); extent = tt };
    stage = tt;
  }

  opened_as : (z : Stance) (o : Opening) → Opens n z o → On n z × StageIsOn n (Some (stage_for o))
  opened_as z (openings.Over e) f = (f, tt)
  opened_as z (openings.Looks look) f = f
  opened_as z (openings.Asks act) f = (f, tt)

  opened_by_on : (chain : ChainState) (o : Option Stage) → chain.stage ≡ o → ChainIsOn k chain → ChainIsOn k (opened_by chain o)
  opened_by_on chain None is on =
      let o = opening_at chain in
      let f = opened_as o.stance o.opening (opening_is_on chain.fixed chain.at.stance (word_of chain) k on.cylinders_are on.at some) in
      record { cylinders_are = on.cylinders_are; at = f.0; before = on.at; stage = f.1 }
  opened_by_on chain (Some stage) is on = on

  pub opened_on : (chain : ChainState) → ChainIsOn k chain → ChainIsOn k (chain_opened chain)
  opened_on chain on = opened_by_on chain chain.stage refl on

  -- the track that is needed
  needed_below : (u : ChainState) (stage : Stage) (t : ℕ) → u.at.stance.track < n → track_needed u stage ≡ Some t → t < n
  needed_below u (stages.Looks look) t below is = let same : u.at.stance.track ≡ t = cc in omega (arith, same, below)
  needed_below u stages.Over t below is = absurd (cc)
  needed_below u (stages.Asks act) t below is = absurd (cc)

  pub on_is_within : (chain : ChainState) → ChainIsOn k chain → IsWithin n chain
  on_is_within chain on =
      let u = opened_on chain on in
      record {
        needs = λ t e. needed_below (chain_opened chain) (stage_of chain) t u.at.track e;
        used = on.at.extent;
        extent = u.at.extent;
      }

  -- where it ends
  mark_on : (chain : ChainState) (o : Option Stage) → ChainIsOn k chain → On n (mark_by chain o).stance
  mark_on chain None on = on.at
  mark_on chain (Some stage) on = on.before

  start_on : (chain : ChainState) → ChainIsOn k chain → On n (start_of chain).stance
  start_on chain on = mark_on chain chain.stage on

  behind_on : (chain : ChainState) (o : Outcome) → ChainIsOn k chain → On n o.stance → ChainIsOn k (behind chain o)
  behind_on chain o on f = record { cylinders_are = on.cylinders_are; at = f; before = start_on chain on; stage = tt }

  same_place : (s z : Stance) → z.track ≡ s.track → z.extent ≡ s.extent → On n s → On n z
  same_place s z e f on = record {
    track = subst (λ (t : ℕ). t < n) (sym e) on.track;
    extent = subst (λ (x : _). IfSome x (λ e. e.last < n)) (sym f) on.extent;
  }

  held_on : (chain : ChainState) (e : Option Ending) → ChainIsOn k chain → On n (held_outcome chain e).stance
  held_on chain (Some e) on = on.at
  held_on chain None on = same_place (start_of chain).stance (held_outcome chain None).stance refl refl (start_on chain on)

  written_on : (chain : ChainState) (o : Option Stage) → ChainIsOn k chain → On n (written_by chain o).stance
  written_on chain None on = held_on chain chain.held on
  written_on chain (Some stages.Over) on = held_on chain chain.held on
  written_on chain (Some (stages.Looks look)) on = held_on chain chain.held on
  written_on chain (Some (stages.Asks act)) on =
      same_place (start_of chain).stance (written_by chain (Some (stages.Asks act))).stance refl refl (start_on chain on)

  settled_place : (chain : ChainState) (how : Settled) → ChainIsOn k chain → On n (settled_by chain how).stance
  settled_place chain settles.Written on = written_on chain chain.stage on
  settled_place chain settles.Equipment on = same_place (start_of chain).stance (settled_by chain settles.Equipment).stance refl refl (start_on chain on)
  settled_place chain settles.DataCheck on = same_place (start_of chain).stance (settled_by chain settles.DataCheck).stance refl refl (start_on chain on)
  settled_place chain (settles.Sent bytes) on =
      same_place (start_of chain).stance (settled_by chain (settles.Sent bytes)).stance refl refl (start_on chain on)
  settled_place chain settles.BadParameter on =
      same_place (start_of chain).stance (settled_by chain settles.BadParameter).stance refl refl (start_on chain on)

  pub settled_on : (chain : ChainState) (how : Settled) → ChainIsOn k chain → ChainIsOn k (behind chain (settled_by chain how))
  settled_on chain how on = behind_on chain (settled_by chain how) on (settled_place chain how on)

  -- a step
  turned_on : (u : ChainState) (z : Stance) (t : Turned) → ChainIsOn k u → On n z → ChainIsOn k (step_turned u z t).chain
  turned_on u z (turns.Ended e) on f = behind_on u (record { stance = z; ending = e }) on f
  turned_on u z turns.Onward on f = record { cylinders_are = on.cylinders_are; at = f; before = on.before; stage = on.stage }
  turned_on u z (turns.Edits edit e) on f = record { cylinders_are = on.cylinders_are; at = f; before = on.before; stage = tt }

  begun_is : (chain : ChainState) (o : Option Stage) → chain.stage ≡ o → (opened_by chain o).stage ≡ Some (stage_by chain o)
  begun_is chain None e = refl
  begun_is chain (Some stage) e = e

  step_on : (u : ChainState) (image : Option Image) (stage : Stage) → u.stage ≡ Some stage → ChainIsOn k u → ChainIsOn k (stepped_by u image stage).chain
  step_on u image stages.Over is on = behind_on u (held_outcome u u.held) on (held_on u u.held on)
  step_on u (Some i) (stages.Looks look) is on =
      let seek : SeeksOn n look = subst (StageIsOn n) is on.stage in
      let l = look_on i.geometry i.track u.at.stance (word_of u) look in
      turned_on u l.stance l.turned on
      (look_leaves_on n u.at.stance on.at (whole_cylinders k) i.geometry i.track (word_of u) look seek)
  step_on u None (stages.Looks look) is on = on
  step_on u image (stages.Asks act) is on = on

  pub stepped_on : (chain : ChainState) (image : Option Image) → ChainIsOn k chain → ChainIsOn k (stepped chain image).chain
  stepped_on chain image on = step_on (chain_opened chain) image (stage_of chain) (begun_is chain chain.stage refl) (opened_on chain on)

  pub again_on : (chain : ChainState) → ChainIsOn k chain → ChainIsOn k (again_from (chain_opened chain))
  again_on chain on = let u = opened_on chain on in record { cylinders_are = u.cylinders_are; at = u.before; before = u.before; stage = tt }
