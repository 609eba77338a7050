use Rattle.std.proofs.Common.{◌∙◌, sym}
use Rattle.path_threads.proofs.Holding.{home_rest}
use Rattle.path_threads.proofs.Sparing.{suits_event}
use Rattle.path_threads.proofs.operator.order_event.Goals as goal

pub order_named-requires-clause-suits : goal.order_named-requires-clause-suits
order_named-requires-clause-suits g c =
    suits_event c.args.event.now c.args.places.now c.args.seats.now _ (sym c.device_order.ensures ∙ c.in-Some-device_order.is)

pub returns-in-None : goal.returns-in-None
returns-in-None g c = home_rest _ _ c.requires.home
