use Rattle.std.proofs.Common.{Bool, sym, subst, ◌∙◌}
use Rattle.report_audit.specs.Auditor.{Makes}
use Rattle.deck_audit.specs.Device.{device_in}
use Rattle.deck_audit.specs.History.{act_of_work}
use Rattle.deck_audit.specs.State.{then_of}
use Rattle.report_audit.proofs.AuditorBehind.{act_bad, act_good, worker_of_left}
use Rattle.report_audit.proofs.auditor.Auditor.behind_line.Goals as goal

pub returns-then-not-is_act_of : goal.returns-then-not-is_act_of
returns-then-not-is_act_of c = λ s f due_is.
    let worker_is = worker_of_left c.args.self.now s f _ f.events_are ∙ sym c.worker.ensures ∙ c.in-Some.is in
    c.in_ok-why.ensures s c.args.more f due_is worker_is (sym c.is_act_of.ensures ∙ c.if-not-is_act_of.true)

pub returns-then-branch : goal.returns-then-branch
returns-then-branch c = λ s f due_is.
    let worker_is = worker_of_left c.args.self.now s f _ f.events_are ∙ sym c.worker.ensures ∙ c.in-Some.is in
    act_good s c.args.line.now c.args.more c.args.did due_is c.in-Some.d worker_is (sym c.is_act_of.ensures ∙ c.if-not-is_act_of.false)
    c.act_line.new.self
    (subst (λ (b : Bool). Makes b c.act_line.new.self (then_of (device_in s.devices c.in-Some.d) (act_of_work s c.args.line.now c.args.did)))
    c.if-branch.true (c.in_ok-act_line.ensures s c.args.more f due_is worker_is))

pub returns-else-branch : goal.returns-else-branch
returns-else-branch c = λ s f due_is.
    let worker_is = worker_of_left c.args.self.now s f _ f.events_are ∙ sym c.worker.ensures ∙ c.in-Some.is in
    act_bad s c.args.line.now c.args.more c.args.did due_is c.in-Some.d worker_is (sym c.is_act_of.ensures ∙ c.if-not-is_act_of.false)
    (subst (λ (b : Bool). Makes b c.act_line.new.self (then_of (device_in s.devices c.in-Some.d) (act_of_work s c.args.line.now c.args.did)))
    c.if-branch.false (c.in_ok-act_line.ensures s c.args.more f due_is worker_is))
