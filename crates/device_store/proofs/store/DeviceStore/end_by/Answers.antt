use Rattle.std.proofs.Common.{◌∙◌, ap, sym}
use Rattle.device_defs.specs.Contents.{contents}
use Rattle.device_defs.specs.Losses.{without_patch}
use Rattle.device_store.specs.Looks.{StoreOf}
use Rattle.device_store.proofs.store.DeviceStore.end_by.Goals as goal

pub returns-in-OfBackground-clause-state : goal.returns-in-OfBackground-clause-state
returns-in-OfBackground-clause-state g c = λ s is. rw c.in-OfBackground.is (sym is)

pub returns-in-OfCommand-clause-state : goal.returns-in-OfCommand-clause-state
returns-in-OfCommand-clause-state g c =
    λ s is. rw c.in-OfCommand.is (c.give_up_patch.ensures.state ∙ ap (λ (z : StoreOf). without_patch contents z c.args.half.track) (sym is))

pub returns-clause-state : goal.returns-clause-state
returns-clause-state g c =
    λ s is. rw c.in-OfCut.is (c.give_up_patch-in-OfCut.ensures.state ∙ ap (λ (z : StoreOf). without_patch contents z c.args.half.track) (sym is))
