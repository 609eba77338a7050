-- What a device keeps while a write is half done.
use Rattle.std.specs.Prelude.{Bool, true, false, Option, IsSome, IfSome}
use Rattle.device_core.specs.declared.history.Running.{Running}
use Rattle.device_core.specs.declared.history.Stepped.{Stepped}
use Rattle.device_core.specs.declared.history.Stepped.TheVariants as steps
use Rattle.device_core.specs.TrackWalk.{IsHeld}
use Rattle.device_core.specs.Words.{HasEndRoom}

-- its command waits for the second part of its write, with room for the command's end
pub record IsWaiting (running : Option Running) : Type 0 where
  pub runs : IsSome running
  pub held : IfSome running (λ r. IsHeld r.chain)
  pub ends : IfSome running (λ r. HasEndRoom r.ends)

abbrev pub is_half_step : Stepped → Bool
is_half_step steps.Ended = false
is_half_step (steps.Half t) = true
