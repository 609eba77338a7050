use Rattle.std.proofs.Common.{◌∙◌, ◌++◌, ◌∷◌, ℕ, decimal, ap, sym}
use Rattle.report_reading.proofs.EndPieces.{end_stands}
use Rattle.report_reading.proofs.end_ahead.end_ahead.Goals as goal

pub returns : goal.returns
returns c =
    end_stands _ c.args.text.now c.in_ok-text.text.now c.in_ok-path.text.now c.in_ok-device.text.now c.in_ok-ordinal.text.now
    c.in_ok-index.text.now c.in_ok-status.text.now c.in_ok-residual.text.now c.in_ok-text.ensures.cases.0 c.in_ok-text.ensures.cases.1
    (c.in_ok-path.ensures ∙ ap (λ (n : ℕ). decimal n ++ 32 ∷ c.in_ok-path.text.now) (sym c.in_ok-path_of.ensures))
    (c.in_ok-device.ensures ∙ ap (λ (n : ℕ). decimal n ++ 32 ∷ c.in_ok-device.text.now) (sym c.in_ok-device_of.ensures))
    c.in_ok-ordinal.ensures c.in_ok-index.ensures c.in_ok-status.ensures c.in_ok-residual.ensures (sym c.in_ok-note.ensures)
