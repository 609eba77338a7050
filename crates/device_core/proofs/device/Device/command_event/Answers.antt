use Rattle.std.proofs.Common.{◌∙◌, refl, ap}
use Rattle.std.specs.Prelude.{is_some}
use Rattle.std.proofs.lemmas.Result.{IfOk-weaker, on_err_weaker}
use Rattle.device_defs.specs.Command.{command_by}
use Rattle.device_defs.specs.Contents.{contents}
use Rattle.device_defs.specs.Owed.{hear, noted_end}
use Rattle.device_store.specs.State.{state_of, outside_of}
use Rattle.device_store.proofs.Moves.{from_equal, weaker}
use Rattle.device_core.specs.State.{device_of}
use Rattle.device_core.proofs.Eventful.{event_run}
use Rattle.device_core.proofs.device.Device.command_event.Goals as goal

pub returns-clause-run : goal.returns-clause-run
returns-clause-run g c =
    let d = device_of c.args.self.now in
    let r = c.command_ready-stepped.result in
    event_run d (λ z. command_by contents z z.history.running z.chain) (device_of c.command_ready-stepped.new.self)
    (record (device_of c.command_ready-stepped.new.self) { store = state_of c.end_event.new.self })
    (weaker r (from_equal (hear contents 960) c.begin_event.ensures.state
    (ap (λ v. outside_of (g.P.Port.view c.args.port.now) g.V.Volume.view v c.args.keep.now) c.begin_event.ensures.leaves.volume) (c.hear.ensures.run c.args.keep.now)))
    c.command_ready-stepped.ensures.run
    (weaker r (from_equal (λ n. noted_end contents n (state_of c.command_ready-stepped.new.self.store)) c.waiting_count-before.ensures refl
    (c.end_event.ensures.run _))) refl

pub returns-clause-half : goal.returns-clause-half
returns-clause-half g c =
    IfOk-weaker c.command_ready-stepped.result _ _ (λ step is. ap is_some c.end_event.ensures.leaves.half ∙ is) c.command_ready-stepped.ensures.half

pub returns-clause-same : goal.returns-clause-same
returns-clause-same g c = on_err_weaker c.command_ready-stepped.result (λ is. c.end_event.ensures.leaves.half ∙ is) c.command_ready-stepped.ensures.same
