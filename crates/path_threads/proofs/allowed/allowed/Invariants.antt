use Rattle.std.proofs.Common.{◌≡◌, drop}
use Rattle.path_workers.specs.Keeping.{IsWithin}
use Rattle.path_threads.specs.Allowed.{allowed}
use Rattle.path_threads.proofs.allowed.allowed.Given as goal

abbrev pub invariant-loop-order : goal.invariant-loop-order
invariant-loop-order g l = (allowed l.most l.number (drop l.order-index l.orders) ≡ allowed l.fn.losses l.number l.orders) × IsWithin l.fn.losses l.most
