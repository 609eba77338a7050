use Rattle.std.proofs.Common.{◌≡◌, ◌∙◌, ◌++◌, ℕ, Option, sym, subst}
use Rattle.std.specs.Prelude.{OnOk}
use Rattle.run_report.specs.Closing.{device_lines}
use Rattle.deck_run.specs.Ending.{end_by}
use Rattle.deck_run.proofs.close.record_device.Goals as goal

pub returns-in-Some : goal.returns-in-Some
returns-in-Some g c =
    subst (λ (o : Option ℕ). OnOk c.record_lent.result (c.record_lent.new.report ≡ c.args.report.now ++ device_lines (end_by c.args.device.now o)))
    (sym c.in-Some.is ∙ c.lent_to.ensures) c.record_lent.ensures

pub returns-in-None : goal.returns-in-None
returns-in-None g c =
    subst (λ (o : Option ℕ). OnOk c.record_counted.result (c.record_counted.new.report ≡ c.args.report.now ++ device_lines (end_by c.args.device.now o)))
    (sym c.in-None.is ∙ c.lent_to.ensures) c.record_counted.ensures
