use Rattle.std.proofs.Common.{◌∙◌, refl, sym}
use Rattle.device_defs.specs.Contents.{contents}
use Rattle.subsystem_defs.specs.declared.end.EventEnd.TheVariants as answers
use Rattle.subsystem_core.specs.declared.end.EventEnd.TheVariants as ends
use Rattle.subsystem_defs.specs.declared.event.Event.TheVariants as events
use Rattle.subsystem_defs.specs.declared.end.OrderFault.TheVariants.{Down}
use Rattle.loss_model.specs.declared.Loss.TheVariants as losses
use Rattle.device_outside.specs.Keeper.{Heard}
use Rattle.device_outside.specs.Pool.{store_failed}
use Rattle.device_defs.specs.Events.{lose}
use Rattle.subsystem_core.proofs.Coming.{all_swept, ended}
use Rattle.subsystem_core.proofs.Deeds as deeds
use Rattle.subsystem_core.proofs.subsystem.Subsystem.fail_store.Goals as goal

pub returns-then-not-store_up-clause-came : goal.returns-then-not-store_up-clause-came
returns-then-not-store_up-clause-came g c =
    ended (Heard g.K.Keep.hears g.K.Keep.takes) c.args.keep.now c.args.self.now _ (events.FailStore) (answers.Refused Down) (ends.Refused Down)
    (deeds.store_down contents _ _ (sym c.store_up.ensures ∙ c.if-not-store_up.true)) (λ p. refl) (refl, refl)

pub returns-clause-came : goal.returns-clause-came
returns-clause-came g c =
    all_swept c.args.self.now _ (events.FailStore) (store_failed c.args.self.now.pool.pool) (λ x. lose contents x losses.Store) _
    (deeds.store_lost contents _ _ (sym c.store_up.ensures ∙ c.if-not-store_up.false)) c.fail_store.ensures c.lose_all.ensures.each
