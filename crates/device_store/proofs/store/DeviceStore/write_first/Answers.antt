use Rattle.std.proofs.Common.{◌∙◌, refl, sym}
use Rattle.device_store.specs.State.{state_of}
use Rattle.device_store.proofs.Moves.{from_equal}
use Rattle.device_store.proofs.Writes.{up_from, written_b}
use Rattle.device_store.proofs.store.DeviceStore.write_first.Goals as goal

pub write_b-requires-clause-up : goal.write_b-requires-clause-up
write_b-requires-clause-up g c = up_from _ _ (sym c.takes_b.ensures ∙ c.if-takes_b.true)

pub returns-then-takes_b-clause-run : goal.returns-then-takes_b-clause-run
returns-then-takes_b-clause-run g c =
    λ p. from_equal (λ i. i) (sym (written_b (state_of c.args.self.now) c.args.t _ c.if-self.false (sym c.takes_b.ensures ∙ c.if-takes_b.true))) refl
    (c.write_b.ensures.run p)

pub returns-clause-run : goal.returns-clause-run
returns-clause-run g c = λ p. c.unheld.ensures.run p _ _
