use Rattle.std.proofs.Common.{◌∙◌, ℕ, Option, ap, sym}
use Rattle.image_runner.specs.Words.{is_for}
use Rattle.image_runner.proofs.Names.{named_behind, named_here}
use Rattle.image_runner.proofs.words.path_for.Goals as goal

pub returns-then-is_for : goal.returns-then-is_for
returns-then-is_for c =
    c.path_in.ensures
    ∙ sym (named_here c.args.words.now c.args.d c.loop-word.word-index _ c.loop-word-test.true
    (sym (c.is_for.ensures ∙ ap (λ (o : Option ℕ). is_for o c.args.d) c.device_in.ensures) ∙ c.if-is_for.true))
    ∙ c.loop-word.invariant

pub loop-word-preserved : goal.loop-word-preserved
loop-word-preserved c =
    sym (named_behind c.args.words.now c.args.d c.loop-word.word-index _ c.loop-word-test.true
    (sym (c.is_for.ensures ∙ ap (λ (o : Option ℕ). is_for o c.args.d) c.device_in.ensures) ∙ c.if-is_for.false))
    ∙ c.loop-word.invariant
