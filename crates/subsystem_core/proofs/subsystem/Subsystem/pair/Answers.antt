use Rattle.std.proofs.Common.{refl}
use Rattle.device_outside.specs.Keeper.{Heard}
use Rattle.subsystem_core.proofs.Pairing.{pair_done, pair_refused}
use Rattle.subsystem_core.proofs.subsystem.Subsystem.pair.Goals as goal

pub join_lent-requires-clause-fine : goal.join_lent-requires-clause-fine
join_lent-requires-clause-fine g c = rw c.in_default.is at c.pair_fault.ensures

pub returns-in-Some-clause-came : goal.returns-in-Some-clause-came
returns-in-Some-clause-came g c =
    pair_refused (Heard g.K.Keep.hears g.K.Keep.takes) c.args.keep.now c.args.a c.args.b c.args.self.now _ _ _ c.in-Some.fault refl refl
    (rw c.in-Some.is at c.pair_fault.ensures) (refl, refl)

pub returns-clause-came : goal.returns-clause-came
returns-clause-came g c =
    pair_done (Heard g.K.Keep.hears g.K.Keep.takes) c.args.keep.now c.args.a c.args.b c.args.self.now _ _ _ refl refl
    (rw c.in_default.is at c.pair_fault.ensures) c.join_lent.ensures.joined
