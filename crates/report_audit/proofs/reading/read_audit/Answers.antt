use Rattle.std.proofs.Common.{◌++◌, ℕ, List, take, drop, subst, ◌∙◌, arith}
use Rattle.std.proofs.lemmas.Grind.{common_steps}
use Rattle.std.proofs.lemmas.List.{take-append-le}
use Rattle.std.specs.Io.KnownBytes.{Consumes}
use Rattle.report_audit.specs.Progress.{GoesOn}
use Rattle.report_audit.proofs.Whole.{read_done, read_on, read_too_long}
use Rattle.report_audit.proofs.reading.read_audit.Goals as goal

pub returns-then-count-eq0-clause-told : goal.returns-then-count-eq0-clause-told
returns-then-count-eq0-clause-told g c =
    read_done _ _ _ c.loop-size.audit c.loop-size.size _ c.loop-size.invariant.0
    (subst (λ (n : ℕ). Consumes (g.S.Source.left c.loop-size.source) (g.S.Source.left c.read.new.self) (take n c.read.new.into)) c.if-count-eq0.true
    c.in_ok-count.ensures.bytes.0)
    (c.in_ok-count.ensures.bytes.1 c.if-count-eq0.true (grind (arith, common_steps)))
    c.loop-size-test.true
    c.in-Ok.ensures.comes

pub loop-size-preserved : goal.loop-size-preserved
loop-size-preserved g c =
    let next = c.take_piece.new.self in (
      read_on _ _ _ c.loop-size.audit next c.loop-size.size c.in_ok-count.count (take c.in_ok-count.count c.read.new.into) c.loop-size.invariant.0
          c.in_ok-count.ensures.bytes.0 (grind (arith, common_steps))
          (subst (λ (l : List ℕ). (rest : List ℕ) → GoesOn c.loop-size.audit.audit (c.loop-size.audit.line ++ (l ++ rest)) next.audit (next.line ++ rest))
          (take-append-le c.in_ok-count.count c.read.new.into (drop c.min-room.result c.loop-size.buffer) (grind (arith, common_steps)))
          c.in-Ok-take_piece.ensures.follows),
      grind (arith, common_steps),
      grind (arith, common_steps),
      grind (arith, common_steps),
      c.in_ok-count.ensures.calm ∙ c.loop-size.invariant.4,
    )

pub returns-clause-told : goal.returns-clause-told
returns-clause-told g c = read_too_long _ _ c.loop-size.audit c.loop-size.size c.loop-size.invariant.0 c.loop-size-test.false c.loop-size.invariant.2
