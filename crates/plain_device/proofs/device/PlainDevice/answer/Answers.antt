use Rattle.std.proofs.Common.{refl, ap, ◌∙◌}
use Rattle.ckd_types.specs.declared.geometry.Geometry.{Geometry}
use Rattle.plain_defs.specs.PlainState.{PathsState, PlainState}
use Rattle.plain_device.specs.Acted.{settled_act, paths_behind}
use Rattle.plain_device.proofs.Answering.{AsksFor, asks_for, answered_ends, done_by}
use Rattle.plain_device.proofs.device.PlainDevice.answer.Goals as goal

pub returns-in_ok-how-in-Local-clause-ends : goal.returns-in_ok-how-in-Local-clause-ends
returns-in_ok-how-in-Local-clause-ends c =
    let asks : AsksFor c.args.chain.now c.in-Local.act c.step.new.self =
    asks_for c.args.chain.now c.args.chain.now.stage refl c.requires.answers c.in_ok-end.field-0 c.step.new.self
    c.in-Local.act c.in_ok-end.ensures.progress c.in_ok-end.ensures.chain c.in-Local.is
    in
    answered_ends c.args.self.now c.args.path c.args.chain.now c.step.new.self c.in-Local.act asks
    c.settle-end.new.self c.in_ok-how-in-Local.how c.act.new.self (done_by c.settle-end.result c.keep_sense.new.self)
    c.settle-end.result
    (c.in_ok-how-in-Local.ensures.how
    ∙ ap (λ (g : Geometry). settled_act g c.self.inside.paths c.args.path c.in-Local.act) c.geometry.ensures
    ∙ ap (λ (x : PlainState). settled_act x.geometry x.paths c.args.path c.in-Local.act) c.self.view_is)
    (c.in_ok-how-in-Local.ensures.after ∙ ap (λ (x : PlainState). paths_behind x.paths c.args.path c.in-Local.act)
    c.self.view_is)
    c.settle-end.ensures.end c.settle-end.ensures.chain
    (ap (λ (p : PathsState). done_by c.settle-end.result p) c.keep_sense.ensures) c.settle-end.ensures.counted
