use Rattle.std.proofs.Common.{List, Option, refl, sym, ap, subst, true, map, ◌∙◌}
use Rattle.std.proofs.Common.{rules}
use Rattle.std.proofs.lemmas.List.{places, with_items_is}
use Rattle.std.specs.Vec.{with_items}
use Rattle.report_audit.specs.Auditor.{Makes, dark_kept, kept_outline}
use Rattle.report_audit.specs.declared.auditor.Auditor.{Auditor}
use Rattle.deck_audit.specs.declared.kept.Kept.{Kept}
use Rattle.deck_audit.specs.History.{power_made}
use Rattle.deck_audit.specs.State.{AuditState}
use Rattle.report_audit.proofs.AuditorPlaces.{cut_fits, cut_made, loose_fits, loose_made}
use Rattle.report_audit.proofs.AuditorTasks.{power_done}
use Rattle.report_audit.proofs.auditor.Auditor.power_line.Goals as goal

pub returns-in-Some : goal.returns-in-Some
returns-in-Some c = λ s f quiet none may.
    subst (λ (m : Option AuditState). Makes c.in_ok-good.good c.device_line.new.self m)
    (sym (loose_made s c.args.line.now c.in-Some.d (sym c.in-Some.ensures)))
    (c.in_ok-good.ensures s f (quiet, loose_fits c.args.line.now c.in-Some.d (sym c.in-Some.ensures) c.args.told s.devices none may))

pub returns-in-Some-cut_at : goal.returns-in-Some-cut_at
returns-in-Some-cut_at c = λ s f quiet none may.
    let is = sym c.in-Some-cut_at.ensures in
    subst (λ (m : Option AuditState). Makes c.in_ok-good-2.good c.device_line-in-Some-cut_at.new.self m)
    (sym (cut_made s c.args.line.now _ _ is))
    (c.in_ok-good-2.ensures s f (quiet, cut_fits c.args.line.now _ _ is c.args.told s.devices none may))

pub returns : goal.returns
returns c = λ s f quiet none may. subst (λ (y : Auditor). Makes true y (power_made s c.args.line.now)) (sym c.go_on.ensures)
    (power_done c.args.self.now s f quiet c.args.line.now c.args.told (sym c.loose_at.ensures ∙ c.in_default.is)
    (sym c.cut_at.ensures ∙ c.in_default-cut_at.is) none may
    (record c.args.self.now {
      devices = with_items c.args.self.now.devices c.lose_power.new.devices;
      outlines = c.outline_all.new.outlines;
    }) refl refl
    (with_items_is c.args.self.now.devices c.lose_power.new.devices (search (rules, places))
    ∙ c.lose_power.ensures ∙ ap (λ (l : List Kept). map dark_kept l) c.deref_mut.ensures.value)
    (c.in_ok-outline_all.ensures ∙ ap (λ (l : List Kept). map kept_outline l) c.deref.ensures.value))
