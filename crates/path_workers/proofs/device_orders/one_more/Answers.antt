use Rattle.std.proofs.Common.{arith}
use Rattle.path_workers.proofs.device_orders.one_more.Goals as goal

pub returns-in-Cache-clause-more : goal.returns-in-Cache-clause-more
returns-in-Cache-clause-more c = record { cache = c.counted.ensures.later; store = omega arith; sides = omega arith }

pub returns-in-Store-clause-more : goal.returns-in-Store-clause-more
returns-in-Store-clause-more c = record { cache = omega arith; store = c.counted-in-Store.ensures.later; sides = omega arith }

pub returns-in-Side-clause-more : goal.returns-in-Side-clause-more
returns-in-Side-clause-more c = record { cache = omega arith; store = omega arith; sides = c.counted-in-Side.ensures.later }
