use Rattle.std.proofs.Common.{length}
use Rattle.image_runner.proofs.words.+are_mounts.Given as goal

abbrev pub decreases-are_mounts : goal.decreases-are_mounts
decreases-are_mounts l = length l.words.now
