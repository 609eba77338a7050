use Rattle.std.proofs.Common.{List, map, refl, ap, ◌∙◌}
use Rattle.report_audit.specs.Auditor.{kept_outline}
use Rattle.deck_audit.specs.declared.kept.Kept.{Kept}
use Rattle.deck_audit.specs.declared.state.Due.TheVariants.{Next}
use Rattle.report_audit.proofs.NewAudits.{new_audit}
use Rattle.report_audit.proofs.auditor.Auditor.new.Goals as goal

pub returns : goal.returns
returns c = new_audit (record {
  deck = c.args.deck;
  devices = c.in_ok-devices.devices;
  outlines = c.outline_all.new.outlines;
  passed = 0;
  due = Next;
}) c.in_ok-devices.ensures refl refl
    (c.in_ok-outline_all.ensures ∙ ap (λ (l : List Kept). map kept_outline l) c.deref.ensures.value)
