use Rattle.std.proofs.Common.{ap, length, List, ℕ, ◌∙◌}
use Rattle.std.proofs.lemmas.List.{length-replicate}
use Rattle.disk_image.proofs.Created.{head_put}
use Rattle.disk_image.proofs.creating.create.Goals as goal

pub loop-n-init : goal.loop-n-init
loop-n-init g c = (
  head_put _ _ _ _ _ _ c.requires.empty (c.deref.ensures.value ∙ c.in_ok-head.ensures.head) c.in_ok-write_whole.ensures.bytes,
  ap (λ (l : List ℕ). length l) c.in_ok-room.ensures ∙ length-replicate _ _,
  c.in_ok-write_whole.ensures.cause.later,
)
