-- A device in the middle of a program.
use Rattle.std.specs.Prelude.{◌≡◌, List, length, None}
use Rattle.ckd_types.specs.declared.channel.Ccw.{Ccw}
use Rattle.ckd_types.specs.declared.channel.CommandEnd.{CommandEnd}
use Rattle.ckd_chain.specs.State.{ChainState}
use Rattle.plain_defs.specs.PlainState.{PlainState}
use Rattle.plain_defs.specs.Program.{Part}
use Rattle.plain_device.specs.Between.{fixed_with}

-- a device and a chain on it are where the part of a program is, with its ends
pub record IsAtPart (p : Part) (ccws : List Ccw) (device : PlainState) (chain : ChainState)
    (ends : List CommandEnd) : Type 0 where
  pub device_is : device ≡ p.state
  pub fixed_is : chain.fixed ≡ p.fixed
  pub stance_is : chain.at.stance ≡ p.stance
  pub next_is : chain.at.next ≡ p.next
  pub ends_are : ends ≡ p.ends
  pub words : chain.ccws ≡ ccws
  pub stage : chain.stage ≡ None
  pub on : chain.fixed ≡ fixed_with device chain.fixed.number
  pub counted : chain.at.stance.commands ≡ length ends
