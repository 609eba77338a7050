use Rattle.std.proofs.Common.{◌∙◌, ap}
use Rattle.device_core.specs.State.{device_of}
use Rattle.device_defs.specs.Start.{left}
use Rattle.path_threads.proofs.Setting.{of_four}
use Rattle.path_threads.proofs.places.left_of.Goals as goal

pub returns : goal.returns
returns g c =
    let f = left (device_of c.args.device.now) in
    of_four f _ _ _ _ (c.left.ensures ∙ ap f c.of.ensures) (c.left-2.ensures ∙ ap f c.of-2.ensures) (c.left-3.ensures ∙ ap f c.of-3.ensures)
    (c.left-4.ensures ∙ ap f c.of-4.ensures)
