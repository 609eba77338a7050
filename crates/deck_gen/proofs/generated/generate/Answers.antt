use Rattle.std.proofs.Common.{arith}
use Rattle.deck_gen.proofs.Lists.{one_made}
use Rattle.deck_gen.proofs.generated.generate.Goals as goal

pub loop-n-preserved : goal.loop-n-preserved
loop-n-preserved c =
    let more = one_made c.args.seed c.args.programs c.loop-n.n c.loop-n.x c.loop-n.deck (omega (arith, c.loop-n-test.true)) c.loop-n.invariant in
    rw (c.in_ok-push_lines.ensures, c.in_ok-push_program.ensures, c.choice_behind-choice.ensures) more
