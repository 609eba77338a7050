use Rattle.std.proofs.Common.{◌∙◌, sym}
use Rattle.deck_run.proofs.Closing.{frames_more, frames_over}
use Rattle.deck_run.proofs.close.record_frames.Goals as goal

pub returns-in-None : goal.returns-in-None
returns-in-None c =
    frames_over c.args.pool.now.pool.frames c.loop-i.i c.args.report.now c.loop-i.report (sym c.in-None.is ∙ c.entry.ensures) c.loop-i.invariant

pub loop-i-preserved : goal.loop-i-preserved
loop-i-preserved c =
    frames_more c.args.pool.now.pool.frames c.loop-i.i c.in-Some.entry c.args.report.now c.loop-i.report c.push.new.self
    (sym c.in-Some.is ∙ c.entry.ensures) c.in_ok-push.ensures.did c.loop-i.invariant
