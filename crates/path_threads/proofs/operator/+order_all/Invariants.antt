use Rattle.std.proofs.Common.{length}
use Rattle.path_threads.proofs.operator.+order_all.Given as goal

abbrev pub decreases-order_all : goal.decreases-order_all
decreases-order_all g a = length a.turns.now
