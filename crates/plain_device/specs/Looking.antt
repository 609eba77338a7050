-- A command that looks at the tracks of a device.
use Rattle.std.specs.Prelude.{◌≡◌, ℕ, suc, ◌*◌, ◌<◌, None, IsSome, ⊤, Option, Some}
use Rattle.ckd_types.specs.Sense.{equipment_sense}
use Rattle.ckd_types.specs.Volume.{track_in}
use Rattle.ckd_chain.specs.declared.mark.Stage.{Stage}
use Rattle.ckd_chain.specs.declared.mark.Stage.TheVariants.{Over, Looks, Asks}
use Rattle.ckd_chain.specs.State.{ChainState}
use Rattle.ckd_chain.specs.Steps.{word_of, start_of, standing, check_outcome, held_outcome}
use Rattle.ckd_rules.specs.declared.stance.Stance.{Stance}
use Rattle.ckd_rules.specs.Walk.{Walked, untouched, walk}
use Rattle.plain_defs.specs.Effect.{Effect, kept_by, effect_of_act}
use Rattle.plain_defs.specs.PlainState.{PlainState}
use Rattle.plain_device.specs.Between.{ComesTo, IsEditOn, fixed_with}
use Rattle.plain_device.specs.declared.device.Went.{Went}
use Rattle.plain_device.specs.declared.device.Went.TheVariants as goes

abbrev pub IsAtLook : Option Stage → Type 0
IsAtLook (Some (Looks look)) = ⊤
IsAtLook _ = ⊥

-- the command at hand of a chain on the device looks at a track
pub record IsLooking (device : PlainState) (chain : ChainState) : Type 0 where
  pub fixed : chain.fixed ≡ fixed_with device chain.fixed.number
  pub stage : IsAtLook chain.stage
  pub running : IsSome chain.at.next

abbrev pub walk_by : PlainState → ChainState → ℕ → Option Stage → Stance → Walked
walk_by device chain n (Some (Looks look)) s = walk n device.geometry (track_in device.volume) (start_of chain).stance
    (word_of chain) look s
walk_by device chain n _ s = untouched (check_outcome chain equipment_sense)

-- what it comes to, with at most n looks
abbrev pub walk_of : PlainState → ChainState → ℕ → Walked
walk_of device chain n = walk_by device chain n chain.stage chain.at.stance

-- the effect of a command that has begun
abbrev pub stage_effect : PlainState → ℕ → ChainState → Option Stage → Effect
stage_effect device path chain (Some Over) = kept_by device.paths path (untouched (held_outcome chain chain.held))
stage_effect device path chain (Some (Asks act)) = effect_of_act (fixed_with device chain.fixed.number) device.paths path
    (start_of chain).stance (word_of chain) act
stage_effect device path chain _ = kept_by device.paths path (walk_of device chain (device.cylinders * 15))

-- it looks at no track
abbrev pub IsAtAnswer : Option Stage → Type 0
IsAtAnswer (Some (Looks look)) = ⊥
IsAtAnswer None = ⊥
IsAtAnswer _ = ⊤

-- the same outcome and edit
pub record IsSameWalk (v w : Walked) : Type 0 where
  pub outcome : v.outcome ≡ w.outcome
  pub edit : v.edit ≡ w.edit

-- the command goes on to another track
pub record GoesTo (device : PlainState) (chain then_chain : ChainState) (track : ℕ) : Type 0 where
  pub chain_is : then_chain ≡ standing chain then_chain.at.stance
  pub rest : (n : ℕ) → IsSameWalk (walk_of device chain (suc n)) (walk_of device then_chain n)
  pub track_is : track ≡ then_chain.at.stance.track
  pub on_device : track < device.cylinders * 15

abbrev pub IsWent : PlainState → ℕ → ChainState → ChainState → Went → Type 0
IsWent device path chain then_chain (goes.Over done) =
    (n : ℕ) → ComesTo chain then_chain done (kept_by device.paths path (walk_of device chain (suc n)))
IsWent device path chain then_chain (goes.On track) = GoesTo device chain then_chain track

-- its edit may be made
abbrev pub FitsWent : PlainState → Went → Type 0
FitsWent device (goes.Over done) = IsEditOn device done.edit
FitsWent device (goes.On track) = ⊤
