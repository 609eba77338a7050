use Rattle.std.proofs.Common.{Some}
use Rattle.device_outside.specs.Interaction.{Done}
use Rattle.device_outside.specs.Outside.{done}
use Rattle.device_outside.proofs.Runs.{joined}
use Rattle.device_defs.specs.Contents.{contents}
use Rattle.device_defs.specs.Editing.{write_chosen}
use Rattle.device_store.proofs.Moves.{weaker}
use Rattle.device_store.proofs.store.DeviceStore.chosen_read.Goals as goal

pub returns-then-is_given-clause-run : goal.returns-then-is_given-clause-run
returns-then-is_given-clause-run g c =
    joined (write_chosen contents c.args.usage.now c.args.first c.args.t c.args.old.now c.args.edit)
    (weaker c.given_read.result (c.choose-choice.ensures.run _))
    (rw (← c.is_given.ensures, c.if-is_given.true) c.given_read.ensures.run)

pub returns-clause-run : goal.returns-clause-run
returns-clause-run g c =
    joined (write_chosen contents c.args.usage.now c.args.first c.args.t c.args.old.now c.args.edit) (c.choose-choice.ensures.run _)
    (rw (← c.is_given.ensures, c.if-is_given.false) (joined (λ z took. Done z (Some took)) (rw c.requires.image at c.write_by.ensures.run) done))

pub write_by-requires-clause-of : goal.write_by-requires-clause-of
write_by-requires-clause-of g c = rw c.requires.image c.requires.of
