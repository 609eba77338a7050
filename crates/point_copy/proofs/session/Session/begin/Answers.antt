use Rattle.std.proofs.Common.{◌∙◌, ◌*◌, ℕ, ap, inl, inr, refl, sym}
use Rattle.point_copy.specs.Keeping.{nothing_kept}
use Rattle.point_copy.proofs.Begun.{begun_over, fault_over}
use Rattle.point_copy.proofs.session.Session.begin.Goals as goal

pub returns-in-Some-clause-fault : goal.returns-in-Some-clause-fault
returns-in-Some-clause-fault g c = rw c.device-device.ensures (inl (sym c.begin_fault.ensures ∙ c.in-Some.is))

pub returns-in-Some-clause-begun : goal.returns-in-Some-clause-begun
returns-in-Some-clause-begun g c = rw c.device-device.ensures tt

pub returns-in-Some-clause-refused : goal.returns-in-Some-clause-refused
returns-in-Some-clause-refused g c = λ run m stands there.
    inl (fault_over c.args.sub run c.args.d c.device-device.result.now m stands c.device-device.ensures there ∙ sym c.begin_fault.ensures ∙ c.in-Some.is)

pub returns-in-Ok-clause-refused : goal.returns-in-Ok-clause-refused
returns-in-Ok-clause-refused g c = λ run m stands there.
    fault_over c.args.sub run c.args.d c.device-device.result.now m stands c.device-device.ensures there ∙ sym c.begin_fault.ensures ∙ c.in_default.is

pub returns-in-Err-clause-refused : goal.returns-in-Err-clause-refused
returns-in-Err-clause-refused g c = λ run m stands there.
    inr (
      fault_over c.args.sub run c.args.d c.device-device.result.now m stands c.device-device.ensures there ∙ sym c.begin_fault.ensures ∙ c.in_default.is,
      refl,
    )

pub returns-in-Ok-clause-old : goal.returns-in-Ok-clause-old
returns-in-Ok-clause-old g c = λ run stands own.
    begun_over c.args.sub run c.args.d c.device-device.result.now _ stands own c.device-device.ensures
    (sym c.begin_fault.ensures ∙ c.in_default.is) (record {
      sub_is = refl;
      device = refl;
      kept = c.in-Ok.ensures ∙ ap (λ (n : ℕ). nothing_kept c.args.d (n * 15)) c.cylinders.ensures;
      gone = refl;
    })
