use Rattle.std.proofs.Common.{arith, map, sym}
use Rattle.std.proofs.lemmas.List.{length-map}
use Rattle.deck_top.proofs.Words.{two_words}
use Rattle.deck_top.proofs.task.task_of.Goals as goal

pub returns-in_default-2-clause-value : goal.returns-in_default-2-clause-value
returns-in_default-2-clause-value c =
    sym (two_words (map (λ w. w.now) c.args.words.now)
    (omega (arith, c.in_default.len_at_least, c.in_default.len_below, length-map c.args.words.now (λ w. w.now))))
