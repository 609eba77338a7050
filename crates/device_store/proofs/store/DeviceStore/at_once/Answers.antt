use Rattle.std.proofs.Common.{ap, refl, sym}
use Rattle.std.specs.Prelude.{if◌then◌else◌}
use Rattle.device_outside.specs.Interaction.{Done}
use Rattle.device_outside.proofs.Runs.{ended, joined}
use Rattle.device_defs.specs.Contents.{contents}
use Rattle.device_defs.specs.declared.answers.Took.TheVariants.{Unwritten}
use Rattle.device_defs.specs.Editing.{whole}
use Rattle.device_defs.specs.Losses.{settled}
use Rattle.device_defs.specs.Store.{has_level}
use Rattle.device_store.specs.State.{outside_of}
use Rattle.device_store.proofs.Moves.{lands}
use Rattle.device_store.proofs.store.DeviceStore.at_once.Goals as goal

pub returns-then-has_level-clause-run : goal.returns-then-has_level-clause-run
returns-then-has_level-clause-run g c =
    λ e. joined (λ z _. if has_level z c.args.t then whole contents z c.args.t c.args.image e c.args.bypass else Done (settled contents z c.args.t) Unwritten)
    (c.write_second.ensures.run _) (rw (← c.has_level.ensures, c.if-has_level.true) (c.whole.ensures.run e))

pub returns-clause-run : goal.returns-clause-run
returns-clause-run g c =
    λ e. joined (λ z _. if has_level z c.args.t then whole contents z c.args.t c.args.image e c.args.bypass else Done (settled contents z c.args.t) Unwritten)
    (c.write_second.ensures.run _) (rw (← c.has_level.ensures, c.if-has_level.false)
    (lands (ap (λ x. outside_of (g.P.Port.view c.args.port.now) g.V.Volume.view x.volumes c.write_second.new.keep) (sym c.settle.ensures.volume))
    (ended (sym c.settle.ensures.state) refl)))
