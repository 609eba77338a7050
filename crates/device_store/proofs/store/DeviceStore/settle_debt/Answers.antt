use Rattle.std.proofs.Common.{refl}
use Rattle.device_outside.specs.Interaction.{Done, and_then}
use Rattle.device_outside.proofs.Runs.{ended, joined}
use Rattle.device_defs.specs.Contents.{contents}
use Rattle.device_defs.specs.Owed.{dropped_told, freed_told}
use Rattle.device_defs.specs.Store.{no_debt, owed_at, with_owed}
use Rattle.device_store.proofs.Telling.{stays_paid}
use Rattle.device_store.proofs.store.DeviceStore.settle_debt.Goals as goal

pub returns-clause-run : goal.returns-clause-run
returns-clause-run g c =
    λ k. joined (λ z _. and_then (dropped_told contents c.args.t z) (λ y _. and_then (freed_told contents y (owed_at y c.args.t).freed)
    (λ x _. Done (with_owed x c.args.t no_debt) tt))) (c.tell_modified.ensures.run k)
    (joined (λ y _. and_then (freed_told contents y (owed_at y c.args.t).freed) (λ x _. Done (with_owed x c.args.t no_debt) tt)) (c.tell_dropped.ensures.run k)
    (joined (λ x _. Done (with_owed x c.args.t no_debt) tt) (c.tell_freed.ensures.run k) (rw (c.set.ensures, c.no_debt.ensures) (ended refl refl))))

pub returns-clause-paid : goal.returns-clause-paid
returns-clause-paid g c = λ q e. rw (c.set.ensures, c.no_debt.ensures) (stays_paid c.args.self.now.owed c.args.t q e)
