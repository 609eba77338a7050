use Rattle.std.proofs.Common.{◌∙◌, ap, sym}
use Rattle.device_store.specs.State.{outside}
use Rattle.device_core.specs.State.{device_of}
use Rattle.path_workers.proofs.Keeping.{none_moves, started_moves}
use Rattle.path_workers.proofs.Visiting.{begins, kept_out, lacks_memory}
use Rattle.path_workers.proofs.events.start_next.Goals as goal

pub returns-in-Some-clause-run : goal.returns-in-Some-clause-run
returns-in-Some-clause-run g c view k =
    let device = c.args.device.now in
    kept_out (device_of device) c.args.visitor.now.path (outside view device.store k) (outside view device.store k) _ c.in-Some.fault
    (sym c.start_fault.ensures ∙ c.in-Some.is)

pub returns-in-Some-clause-moves : goal.returns-in-Some-clause-moves
returns-in-Some-clause-moves g c =
    let visitor = c.args.visitor.now in none_moves c.args.device.now visitor.path visitor.least visitor.most

pub returns-in-Ok-clause-run : goal.returns-in-Ok-clause-run
returns-in-Ok-clause-run g c view k =
    let device = c.args.device.now in
    let behind = c.begin-began.new.device in
    begins (device_of device) c.args.visitor.now.path (outside view device.store k) (outside view behind.store k) _ (device_of behind)
    (sym c.start_fault.ensures ∙ c.in_default.is) c.in-Ok.ensures.started (ap (λ s. outside view s k) c.begin-began.ensures.store)

pub returns-in-Err-clause-run : goal.returns-in-Err-clause-run
returns-in-Err-clause-run g c view k =
    let device = c.args.device.now in
    let behind = c.begin-began.new.device in
    lacks_memory (device_of device) c.args.visitor.now.path (outside view device.store k) (outside view behind.store k) _ (device_of behind)
    (sym c.start_fault.ensures ∙ c.in_default.is) c.in-Err.ensures.same (ap (λ s. outside view s k) c.begin-began.ensures.store)

pub returns-in-Ok-clause-moves : goal.returns-in-Ok-clause-moves
returns-in-Ok-clause-moves g c =
    let visitor = c.args.visitor.now in
    started_moves c.args.device.now c.begin-began.new.device visitor.path visitor.least visitor.most c.in-Ok.ensures.started c.begin-began.ensures.store
    (sym c.start_fault.ensures ∙ c.in_default.is)
