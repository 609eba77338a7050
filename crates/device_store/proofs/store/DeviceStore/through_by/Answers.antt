use Rattle.std.proofs.Common.{◌∙◌, refl}
use Rattle.device_outside.specs.Interaction.{Done}
use Rattle.device_outside.specs.Outside.{done}
use Rattle.device_outside.proofs.Runs.{joined}
use Rattle.device_defs.specs.Contents.{contents}
use Rattle.device_defs.specs.declared.answers.Took.TheVariants.{Opened}
use Rattle.device_defs.specs.Writing.{write_opened}
use Rattle.device_store.specs.State.{state_of}
use Rattle.device_store.proofs.Moves.{from_equal}
use Rattle.device_store.proofs.Halved.{none_opened}
use Rattle.device_store.proofs.store.DeviceStore.through_by.Goals as goal

pub returns-in-Unwritten-clause-run : goal.returns-in-Unwritten-clause-run
returns-in-Unwritten-clause-run g c = λ e is. rw c.in-Unwritten.is done

pub returns-in-Whole-clause-run : goal.returns-in-Whole-clause-run
returns-in-Whole-clause-run g c = λ e is. rw c.in-Whole.is (c.whole.ensures.run e)

pub returns-then-not-opens-clause-run : goal.returns-then-not-opens-clause-run
returns-then-not-opens-clause-run g c = λ e is. rw (c.in-Opened.is, c.if-not-opens.true) (c.at_once.ensures.run e)

pub returns-else-not-opens-clause-run : goal.returns-else-not-opens-clause-run
returns-else-not-opens-clause-run g c =
    λ e is. rw (c.in-Opened.is, c.if-not-opens.false) (joined (λ z _. Done z Opened)
    (from_equal (λ o. write_opened contents (state_of c.args.self.now) c.args.half.track c.args.half.image o c.args.was_loose) is refl
    (c.open_half.ensures.run _)) done)

pub returns-then-not-opens-clause-half : goal.returns-then-not-opens-clause-half
returns-then-not-opens-clause-half g c = c.at_once.ensures.leaves.half ∙ c.requires.none ∙ none_opened c.at_once.result c.args.half c.at_once.ensures.ends
