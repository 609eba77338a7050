use Rattle.std.proofs.Common.{Some, sym, ap, subst, ◌∙◌}
use Rattle.std.specs.Prelude.{Result}
use Rattle.deck_audit.specs.declared.status.AuditWhy.{AuditWhy}
use Rattle.report_audit.specs.Auditor.{IsJudged, Makes}
use Rattle.deck_audit.specs.Device.{device_in}
use Rattle.deck_audit.specs.State.{AuditState, over_by, settled_by, then_of}
use Rattle.deck_audit.specs.Place.{first_event}
use Rattle.report_audit.proofs.AuditorBehind.{no_device, none_made, settled_so}
use Rattle.report_audit.proofs.auditor.Auditor.settle_and_judge.Goals as goal

pub returns-then-not-branch : goal.returns-then-not-branch
returns-then-not-branch c = λ s more f due_is worker_is none.
    let event_is = c.event-event.ensures ∙ sym (ap first_event f.events_are) in
    let made = subst (λ b. Makes b c.settle_line.new.self (then_of (device_in s.devices c.args.d)
    (λ a. Some (settled_by s a c.args.did (over_by a c.args.did a.history.running))))) c.if-not-branch.true
    (c.in_ok-settle_line.ensures s more f due_is worker_is event_is) in
    no_device s c.args.line.now more c.args.did due_is c.args.d worker_is none
    (none_made (device_in s.devices c.args.d) (λ a. settled_by s a c.args.did (over_by a c.args.did a.history.running)) made)
    c.idle_fault.result c.idle_fault.ensures

pub returns : goal.returns
returns c = λ s more f due_is worker_is none.
    let event_is = c.event-event.ensures ∙ sym (ap first_event f.events_are) in
    let made = subst (λ b. Makes b c.settle_line.new.self (then_of (device_in s.devices c.args.d)
    (λ a. Some (settled_by s a c.args.did (over_by a c.args.did a.history.running))))) c.if-not-branch.false
    (c.in_ok-settle_line.ensures s more f due_is worker_is event_is) in
    subst (λ (w : Result AuditState AuditWhy). IsJudged c.in_ok-why.why c.settled_line.new.self w)
    (sym (settled_so s c.args.line.now more c.args.did due_is c.args.d worker_is none made.0 made.1 c.is_legal-legal.result
    (λ a device_is. c.is_legal-legal.ensures s more f due_is worker_is a device_is)))
    (c.in_ok-why.ensures made.0 made.2)
