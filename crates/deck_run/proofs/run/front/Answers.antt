use Rattle.std.proofs.Common.{◌∙◌, ap, take}
use Rattle.deck_run.proofs.run.front.Goals as goal

pub split_at-requires : goal.split_at-requires
split_at-requires c = rw (c.as_slice.ensures ∙ c.schedule.ensures) c.requires

pub returns : goal.returns
returns c = c.split_at.ensures.front ∙ ap (take c.args.n) (c.as_slice.ensures ∙ c.schedule.ensures)
