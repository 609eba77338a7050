use Rattle.std.proofs.Common.{◌∙◌, sym, ap, subst}
use Rattle.device_defs.specs.declared.counts.Losses.{Losses}
use Rattle.device_defs.specs.Events.{one_loss_more}
use Rattle.path_workers.specs.Keeping.{IsWithin}
use Rattle.path_workers.proofs.KeptOrders.{lent_away}
use Rattle.path_workers.proofs.device_orders.may_at_home.Goals as goal

pub returns-then-is_lent : goal.returns-then-is_lent
returns-then-is_lent g c may home = absurd (lent_away _ (sym c.is_lent.ensures ∙ c.if-is_lent.true) home)

pub returns : goal.returns
returns g c may home =
    subst (λ (l : Losses). IsWithin l c.args.most) (c.one_more.ensures.is ∙ ap (λ (l : Losses). one_loss_more l c.args.loss) c.losses.ensures) (c.is_within.ensures may)
