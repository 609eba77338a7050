-- A command whose word gives bytes asks for a path group by eleven bytes, and sends none where it is over before it looks at a track or asks the device.
use Rattle.std.proofs.Common.{Bool, Option, Result, Ok, Err, if◌then◌else◌, arith}
use Rattle.std.specs.Prelude.{IfSome, drop, take}
use Rattle.std.proofs.lemmas.List.{length-drop, length-take}
use Rattle.std.proofs.lemmas.List.Elements.{All-drop, All-take}
use Rattle.ckd_types.specs.declared.channel.Ccw.{Ccw}
use Rattle.ckd_types.specs.declared.command.Command.{Command}
use Rattle.ckd_types.specs.declared.command.Control.{Control}
use Rattle.ckd_types.specs.declared.command.DeviceCommand.{DeviceCommand}
use Rattle.ckd_types.specs.declared.sense.Sense.{Sense}
use Rattle.ckd_types.specs.Commands.{command_of}
use Rattle.ckd_types.specs.Fixed.{Fixed}
use Rattle.ckd_types.specs.Parameters.{given}
use Rattle.ckd_rules.specs.declared.order.CommandOrder.{CommandOrder}
use Rattle.ckd_rules.specs.declared.stance.Stance.{Stance}
use Rattle.ckd_types.specs.declared.command.Command.TheVariants as commands
use Rattle.ckd_rules.specs.declared.order.CommandOrder.TheVariants as orders
use Rattle.ckd_rules.specs.Checks as C
use Rattle.ckd_rules.specs.Checks.{device_act}
use Rattle.ckd_rules.specs.Opening.{opening_with, opening_of}
use Rattle.plain_defs.specs.Whole.{GivesBytes}
use Rattle.report_reading.specs.Ranges.{AreBytes}
use Rattle.audit_laws.proofs.own.GivenBytes.{IsByte, as_bytes, padded_are, padded_length}
use Rattle.audit_laws.proofs.own.NamedGroups.{ActNamed, OpeningIn}

named_bytes : (c : Ccw) → GivesBytes c → AreBytes 11 (take 11 (drop 1 (given 16 c)))
named_bytes c gives =
    grind (arith, padded_length 16 c.given, length-drop 1 (given 16 c), length-take 11 (drop 1 (given 16 c)), as_bytes (take 11 (drop 1 (given 16 c))) (All-take IsByte 11 (drop 1 (given 16 c)) (All-drop IsByte 1 (given 16 c) (padded_are 16 c.given gives))), padded_are 16 c.given gives)

device_named : (c : Ccw) → GivesBytes c → (d : DeviceCommand) → ActNamed (device_act (given 16 c) d)
device_named c gives d = grind (arith, named_bytes)

abbrev OrderIn : CommandOrder → Type 0
OrderIn (orders.Asks act) = ActNamed act
OrderIn _ = Unit {0}

abbrev ResultIn : Result CommandOrder Sense → Type 0
ResultIn (Ok order) = OrderIn order
ResultIn (Err sense) = Unit {0}

either_in : (b : Bool) (x y : Result CommandOrder Sense) → ResultIn x → ResultIn y → ResultIn (if b then x else y)
either_in b x y h k = grind arith

module _ (s : Stance) (c : Ccw) where
  opened_in : (r : Result CommandOrder Sense) → ResultIn r → OpeningIn (opening_with s c r).opening
  opened_in r h = grind arith

module _ (f : Fixed) (s : Stance) (c : Ccw) (gives : GivesBytes c) where
  control_in : (k : Control) → IfSome (C.control_order f s (given 16 c) k) OrderIn
  control_in k = grind arith

  decoded_in : (k : Command) → IfSome (C.decoded_order f s c k) OrderIn
  decoded_in (commands.Control k) = control_in k
  decoded_in (commands.Device d) = device_named c gives d
  decoded_in k = tt

  permitted_in : (k : Command) (o : Option CommandOrder) → IfSome o OrderIn → ResultIn (C.permitted_order s k o)
  permitted_in k o h = grind (arith, either_in)

  order_in : (o : Option Command) → ResultIn (C.order_by f s c o)
  order_in o = grind (arith, either_in, permitted_in, decoded_in)

  pub opening_named : OpeningIn (opening_of f s c).opening
  opening_named = opened_in s c (C.order_of f s c) (order_in (command_of c.command))
