use Rattle.std.proofs.Common.{◌≡◌, ◌∷◌, [], ◌∙◌, map, ap, arith, sym}
use Rattle.ckd_outside.proofs.Lines.{puts_stopped}
use Rattle.report_text.specs.declared.line.ReportLine.TheVariants as lines
use Rattle.track_table.specs.Marked.{marked_left}
use Rattle.path_top.proofs.Texts.{begun, lines_done, lines_more, lines_stopped}
use Rattle.path_top.proofs.history.put_lost.Goals as goal

pub loop-t-init : goal.loop-t-init
loop-t-init g c = (
  begun _ _ _ _ (ap (map (lines.Lost c.args.d)) (sym (ap marked_left c.into_iter-t-iterator.ensures.into_iter_gives ∙ c.iter-t-items.ensures))),
  omega arith,
)

pub returns-in_err-put_line-clause-bytes : goal.returns-in_err-put_line-clause-bytes
returns-in_err-put_line-clause-bytes g c =
    let e : marked_left c.loop-t.t-iterator ≡ c.in-Some.t ∷ marked_left c.next.new.self = rw c.in-Some.is at c.next.ensures.steps in
    puts_stopped _ _ _ _ _ _ _ c.from_residual.ensures.1
    (lines_stopped _ _ _ _ _ _ _ _ (lines.Lost c.args.d c.in-Some.t ∷ []) _ c.loop-t.invariant.0 (ap (map (lines.Lost c.args.d)) e)
    c.in_err-put_line.ensures.bytes)

pub loop-t-preserved : goal.loop-t-preserved
loop-t-preserved g c =
    let e : marked_left c.loop-t.t-iterator ≡ c.in-Some.t ∷ marked_left c.next.new.self = rw c.in-Some.is at c.next.ensures.steps in (
      lines_more _ _ _ _ _ _ _ _ (lines.Lost c.args.d c.in-Some.t ∷ []) _ c.loop-t.invariant.0 (ap (map (lines.Lost c.args.d)) e)
          c.in_ok-put_line.ensures.bytes,
      omega (arith, c.loop-t.invariant.1, c.in_ok-put_line.ensures.cause.later),
    )

pub returns-clause-bytes : goal.returns-clause-bytes
returns-clause-bytes g c =
    let e : marked_left c.loop-t.t-iterator ≡ [] = (rw c.in-None.is at c.next.ensures.steps).0 in
    lines_done _ _ _ _ _ _ c.loop-t.invariant.0 (ap (map (lines.Lost c.args.d)) e)
