use Rattle.std.proofs.Common.{length}
use Rattle.path_threads.proofs.operator.+order_at.Given as goal

abbrev pub decreases-order_at : goal.decreases-order_at
decreases-order_at g a = length a.turns.now
