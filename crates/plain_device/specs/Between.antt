-- A running program between two commands, and the end of one.
use Rattle.std.specs.Prelude.{◌≡◌, ◌<◌, ℕ, ◌+◌, ◌*◌, IsSome, Option, None, Some, ⊤}
use Rattle.ckd_types.specs.declared.channel.CommandEnd.{CommandEnd}
use Rattle.ckd_types.specs.Fixed.{Fixed}
use Rattle.ckd_chain.specs.State.{ChainState}
use Rattle.ckd_chain.specs.Steps.{word_of, start_of, behind, end_with}
use Rattle.ckd_types.specs.Volume.{track_in}
use Rattle.ckd_rules.specs.Facts.{Suits}
use Rattle.ckd_rules.specs.Walk.{TrackEdit}
use Rattle.plain_defs.specs.Effect.{Effect, effect_on, behind_effect, edited_volume}
use Rattle.plain_defs.specs.PlainState.{PathsState, PlainState}
use Rattle.plain_device.specs.declared.done.Done.{Done}
use Rattle.plain_device.specs.declared.done.Written.{Written}

-- a device's geometry and cylinders, and the number that it had when a program began
abbrev pub fixed_with : PlainState → ℕ → Fixed
fixed_with device number = record { geometry = device.geometry; cylinders = device.cylinders; number = number }

-- the chain is on the device, and no command of it has begun
pub record IsBetween (device : PlainState) (chain : ChainState) : Type 0 where
  pub fixed : chain.fixed ≡ fixed_with device chain.fixed.number
  pub stage : chain.stage ≡ None
  pub running : IsSome chain.at.next

-- the command at hand ended: its end, and the device and the chain behind it, are those of an effect
pub record EndsBy (device after : PlainState) (chain then_chain : ChainState) (end : CommandEnd) (e : Effect) : Type 0
  where
    pub end_is : end ≡ end_with chain e.outcome
    pub device_is : after ≡ behind_effect device e
    pub chain_is : then_chain ≡ behind chain e.outcome
    pub counted : then_chain.at.stance.commands ≡ (start_of chain).stance.commands + 1

-- a track's edit, which isn't made yet
abbrev pub edit_of : Option Written → Option TrackEdit
edit_of None = None
edit_of (Some w) = Some (record { track = w.track; edit = w.edit })

-- the command at hand came to what an effect says, of which the device has nothing yet
pub record ComesTo (chain then_chain : ChainState) (done : Done) (e : Effect) : Type 0 where
  pub end_is : done.end ≡ end_with chain e.outcome
  pub edit_is : edit_of done.edit ≡ e.edit
  pub paths_is : done.paths ≡ e.paths
  pub chain_is : then_chain ≡ behind chain e.outcome
  pub counted : then_chain.at.stance.commands ≡ (start_of chain).stance.commands + 1

-- the edit may be made on the device
abbrev pub IsEditOn : PlainState → Option Written → Type 0
IsEditOn device None = ⊤
IsEditOn device (Some w) = (w.track < device.cylinders * 15) × Suits device.geometry (track_in device.volume w.track).records w.edit

-- the device with an edit, and what is then kept of the paths
abbrev pub behind_edit : PlainState → Option TrackEdit → PathsState → PlainState
behind_edit device edit paths = record device { volume = edited_volume device.volume edit; paths = paths }

abbrev pub effect_of : PlainState → ℕ → ChainState → Effect
effect_of device path chain = effect_on chain.fixed device path chain.at.stance (word_of chain)

-- it ended as on the plain device
abbrev pub Ends : PlainState → ℕ → PlainState → ChainState → ChainState → CommandEnd → Type 0
Ends device path after chain then_chain end = EndsBy device after chain then_chain end (effect_of device path chain)
