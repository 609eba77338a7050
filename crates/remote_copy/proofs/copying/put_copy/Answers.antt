use Rattle.std.proofs.Common.{Ok, Result, refl, subst}
use Rattle.ckd_outside.specs.declared.faults.Failed.{Failed}
use Rattle.remote_copy.specs.Sending.{IsSent}
use Rattle.remote_copy.proofs.Copied.{set_to}
use Rattle.remote_copy.proofs.copying.put_copy.Goals as goal

pub returns-in-Ok : goal.returns-in-Ok
returns-in-Ok g c = record {
  result = Ok c.in-Ok.field-0;
  put = c.put.new.self;
  is = subst (λ (q : Result (Unit {0}) Failed). IsSent c.args.sender.now c.args.t c.args.image.now.track q c.put.new.self) c.in-Ok.is c.put.ensures;
  answer = refl;
  behind = set_to c.put.new.self c.set_state.new.self c.copied_to.result _ c.set_state.ensures c.copied_to.ensures;
}
