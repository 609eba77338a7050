use Rattle.std.proofs.Common.{◌∙◌, ◌∷◌, [], Bool, List, ap, length, map, subst}
use Rattle.ckd_outside.specs.Texts.{Puts, Stops}
use Rattle.ckd_outside.proofs.Lines.{puts_stopped}
use Rattle.loss_model.specs.Lost.{lost_tracks}
use Rattle.report_text.specs.declared.answers.DeviceTotals.TheVariants as totals
use Rattle.report_text.specs.declared.line.ReportLine.{ReportLine}
use Rattle.report_text.specs.declared.line.ReportLine.TheVariants as lines
use Rattle.report_text.specs.Ends.{lines_text}
use Rattle.deck_run.specs.Ending.{lost_in}
use Rattle.path_top.proofs.Ended.{losses_are, lost_same}
use Rattle.path_top.proofs.Texts.{lines_longer, lines_then}
use Rattle.path_top.proofs.history.put_losses.Goals as goal

pub returns-in_err-put_line-clause-bytes : goal.returns-in_err-put_line-clause-bytes
returns-in_err-put_line-clause-bytes g c =
    let x = c.args.device.now in
    let d = c.number-d.result in
    let n = c.len-n.result in
    let ts = lost_tracks x.store.lost in
    let count = c.len-n.ensures ∙ ap (λ (l : List Bool). length (lost_tracks l)) c.lost.ensures in
    puts_stopped _ _ _ _ _ _ _ c.from_residual.ensures.1
    (subst (λ (ls : List ReportLine). Stops (g.K.Sink.held c.args.sink.now) c.args.buffer.now (g.K.Sink.held c.put_line.new.sink) c.put_line.new.buffer
    (lines_text ls)) (losses_are d x.store.number n ts (lost_in x) c.number-d.ensures count (lost_same x x.store.lost_of_each))
    (lines_longer _ _ _ _ (lines.Device d (totals.Lost n) ∷ []) (map (lines.Lost d) ts) c.in_err-put_line.ensures.bytes))

pub returns-clause-bytes : goal.returns-clause-bytes
returns-clause-bytes g c =
    let x = c.args.device.now in
    let d = c.number-d.result in
    let n = c.len-n.result in
    let ts = lost_tracks x.store.lost in
    let count = c.len-n.ensures ∙ ap (λ (l : List Bool). length (lost_tracks l)) c.lost.ensures in
    subst (λ (ls : List ReportLine). Puts (g.K.Sink.held c.args.sink.now) c.args.buffer.now (g.K.Sink.held c.put_lost.new.sink) c.put_lost.new.buffer
    c.put_lost.result (lines_text ls)) (losses_are d x.store.number n ts (lost_in x) c.number-d.ensures count (lost_same x x.store.lost_of_each))
    (lines_then _ _ _ _ _ _ _ (lines.Device d (totals.Lost n) ∷ []) (map (lines.Lost d) ts) c.in_ok-put_line.ensures.bytes
    (rw c.lost-2.ensures at c.put_lost.ensures.bytes))
