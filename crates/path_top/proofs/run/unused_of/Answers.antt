use Rattle.std.proofs.Common.{◌∙◌, ap, arith}
use Rattle.path_top.specs.Pairs.{unused_in}
use Rattle.path_top.proofs.Few.{few_unused}
use Rattle.path_top.proofs.run.unused_of.Goals as goal

pub overflow_cast-result : goal.overflow_cast-result
overflow_cast-result c =
    let few = few_unused c.requires.0 c.args.deck.now c.requires.1 in
    let is = c.unused_in-unused.ensures ∙ ap unused_in (c.as_slice.ensures ∙ c.schedule.ensures) in
    search (arith, few, is)
