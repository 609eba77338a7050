use Rattle.std.proofs.Common.{◌∙◌, ap}
use Rattle.device_defs.specs.Contents.{contents}
use Rattle.device_defs.specs.Losses.{without_patch}
use Rattle.device_store.proofs.Orders.{not_both}
use Rattle.device_store.proofs.store.DeviceStore.give_up.Goals as goal

pub returns-clause-state : goal.returns-clause-state
returns-clause-state g c = c.give_up_patch.ensures.state ∙ ap (λ z. without_patch contents z c.args.t) c.give_up_frame.ensures.state

pub give_up_frame-requires : goal.give_up_frame-requires
give_up_frame-requires g c = λ here. absurd (not_both _ c.requires.away here)
