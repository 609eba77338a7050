use Rattle.std.proofs.Common.{◌∙◌, refl, sym, ap, Some}
use Rattle.device_outside.specs.Keeper.{Heard}
use Rattle.device_defs.specs.Contents.{contents}
use Rattle.subsystem_defs.specs.declared.end.EventEnd.TheVariants as answers
use Rattle.subsystem_core.specs.declared.end.EventEnd.TheVariants as ends
use Rattle.subsystem_defs.specs.declared.event.Event.TheVariants as events
use Rattle.subsystem_defs.specs.declared.end.OrderFault.TheVariants.{Up}
use Rattle.subsystem_core.proofs.Coming.{none_wait, repaired, ended, some_wait}
use Rattle.subsystem_core.proofs.Deeds as deeds
use Rattle.subsystem_core.proofs.subsystem.Subsystem.repair_store.Goals as goal

pub returns-then-store_up-clause-came : goal.returns-then-store_up-clause-came
returns-then-store_up-clause-came g c =
    λ k. ended (Heard g.K.Keep.hears g.K.Keep.takes) k c.args.self.now _ (events.RepairStore) (answers.Refused Up) (ends.Refused Up)
    (deeds.store_is_up contents _ _ (sym c.store_up.ensures ∙ c.if-store_up.true)) (λ p. refl) (refl, refl)

pub returns-in-Ok-clause-came : goal.returns-in-Ok-clause-came
returns-in-Ok-clause-came g c =
    λ k. repaired (Heard g.K.Keep.hears g.K.Keep.takes) k c.args.self.now _ (events.RepairStore) _
    (deeds.store_again contents _ _ (sym c.store_up.ensures ∙ c.if-store_up.false) (none_wait _ c.in-Ok.ensures.0)) c.in-Ok.ensures.1 refl

pub returns-in-Err-clause-came : goal.returns-in-Err-clause-came
returns-in-Err-clause-came g c =
    λ k. ended (Heard g.K.Keep.hears g.K.Keep.takes) k c.args.self.now _ (events.RepairStore) _ (ends.Pending c.in-Err.pending.n)
    (deeds.store_waits contents _ _ (sym c.store_up.ensures ∙ c.if-store_up.false) (some_wait _ c.in-Err.pending.n c.in-Err.ensures.0 c.in-Err.ensures.1))
    (λ p. ap (λ m. Some (answers.Pending m)) c.in-Err.ensures.0) (c.in-Err.ensures.2, refl)
