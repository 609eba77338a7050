use Rattle.std.proofs.Common.{◌≡◌, take, map}
use Rattle.deck_run.specs.Sweeping.{stock_of}
use Rattle.deck_run.proofs.orders_of_all.stocks_of.Given as goal

-- those so far
abbrev pub invariant-loop-device : goal.invariant-loop-device
invariant-loop-device g l = l.stocks.items ≡ map stock_of (take l.device-index l.devices)
