use Rattle.std.proofs.Common.{◌∙◌, refl, sym}
use Rattle.point_copy.proofs.Calls.{noted_now, noted_still}
use Rattle.point_copy.proofs.session.Session.note_lent.Goals as goal

pub returns-then-is_some-clause-noted : goal.returns-then-is_some-clause-noted
returns-then-is_some-clause-noted g c = noted_still c.args.self.now (sym c.is_some.ensures ∙ c.if-is_some.true)

pub returns-clause-noted : goal.returns-clause-noted
returns-clause-noted g c = (
  refl,
  noted_now c.args.self.now c.args.self.now.sub.devices.items c.device.result.now c.lent_to-self.result (sym c.is_some.ensures ∙ c.if-is_some.false)
      c.device.ensures c.lent_to-self.ensures,
)
