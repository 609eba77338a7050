use Rattle.std.proofs.Common.{Some, ap, refl, sym}
use Rattle.device_outside.specs.Outside.{done}
use Rattle.device_outside.proofs.Runs.{tells}
use Rattle.device_defs.specs.Cutting.{is_of_command}
use Rattle.device_store.specs.State.{half_of, origin_of, state_of}
use Rattle.device_store.proofs.Moves.{from_equal}
use Rattle.device_store.proofs.Seconds.{cut_none}
use Rattle.device_store.proofs.store.DeviceStore.cut.Goals as goal

pub returns-in-OfCommand-clause-run : goal.returns-in-OfCommand-clause-run
returns-in-OfCommand-clause-run g c = λ p. rw c.in-OfCommand.is (tells tt c.firm.ensures tt done)

pub returns-in-OfCut-clause-run : goal.returns-in-OfCut-clause-run
returns-in-OfCut-clause-run g c =
    let s = record (state_of c.args.self.now) { half = Some (half_of c.args.half) } in
    λ p. from_equal (λ i. i) (sym (cut_none s (half_of c.args.half) (ap (λ o. is_of_command (origin_of o)) c.in-OfCut.is))) refl done

pub returns-in-OfBackground-clause-run : goal.returns-in-OfBackground-clause-run
returns-in-OfBackground-clause-run g c =
    let s = record (state_of c.args.self.now) { half = Some (half_of c.args.half) } in
    λ p. from_equal (λ i. i) (sym (cut_none s (half_of c.args.half) (ap (λ o. is_of_command (origin_of o)) c.in-OfBackground.is))) refl done
