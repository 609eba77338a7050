use Rattle.std.proofs.Common.{refl, sym}
use Rattle.device_outside.specs.Outside.{done}
use Rattle.device_defs.specs.Background.{copy_by}
use Rattle.device_defs.specs.Contents.{contents}
use Rattle.device_store.specs.State.{state_of}
use Rattle.duplex_pair.specs.Sides.{marks_of}
use Rattle.device_store.proofs.Copying.{copied_up}
use Rattle.device_store.proofs.Moves.{from_equal}
use Rattle.device_store.proofs.store.DeviceStore.copy_one.Goals as goal

pub returns-in-None-clause-run : goal.returns-in-None-clause-run
returns-in-None-clause-run g c = λ p. from_equal (copy_by contents (state_of c.args.self.now) c.args.t) c.in-None.ensures refl done

pub returns-in-Some-clause-run : goal.returns-in-Some-clause-run
returns-in-Some-clause-run g c = λ p. from_equal (copy_by contents (state_of c.args.self.now) c.args.t) c.in-Some.ensures refl (c.copy_to.ensures.run p)

pub copy_to-requires-clause-a : goal.copy_to-requires-clause-a
copy_to-requires-clause-a g c =
    let p = c.args.self.now.pair in (copied_up (marks_of p.a) (marks_of p.b) p.held c.args.t c.in-Some.side (sym c.in-Some.ensures)).0

pub copy_to-requires-clause-b : goal.copy_to-requires-clause-b
copy_to-requires-clause-b g c =
    let p = c.args.self.now.pair in (copied_up (marks_of p.a) (marks_of p.b) p.held c.args.t c.in-Some.side (sym c.in-Some.ensures)).1
