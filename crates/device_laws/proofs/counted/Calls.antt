-- What was seen, as the calls of a device cite it.
use Rattle.std.proofs.Common.{ℕ, Bool, List, Option}
use Rattle.track_image.specs.Image.{Image}
use Rattle.device_outside.specs.Keeper.{Hearing}
use Rattle.device_outside.specs.Outside.{Outside, Ran}
use Rattle.device_defs.specs.declared.answers.SecondEnd.{SecondEnd}
use Rattle.device_defs.specs.declared.answers.Stepped.{Stepped}
use Rattle.device_defs.specs.Command.{command}
use Rattle.device_defs.specs.Contents.{contents}
use Rattle.device_defs.specs.Events.{second}
use Rattle.device_laws.specs.Whole.{WholeDevice}
use Rattle.device_laws.specs.Seen.{EndsAsSeen, EndsAsKept}
use Rattle.device_laws.proofs.counted.Commands.{command_came}
use Rattle.device_laws.proofs.counted.Seconds.{second_came}

module _ {K : Type 0} (had : Bool → Type 0) (hears : Hearing Image K) (d : WholeDevice) {e : WholeDevice} {u z : Outside (List ℕ) K} where
  pub ends_as_seen : {a : Option Stepped} → Ran had hears (command contents d) u e a z → EndsAsSeen had hears d u e a z
  ends_as_seen r =
      λ o chain x running at runs is.
      command_came had hears d o chain runs running at (rw (← is) r)

  pub ends_as_kept : {a : SecondEnd} → Ran had hears (second contents d) u e a z → EndsAsKept d e a
  ends_as_kept r = λ o chain h bypass edit half from running at. second_came had hears d o chain h bypass edit half from running at r
