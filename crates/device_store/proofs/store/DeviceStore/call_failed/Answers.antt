use Rattle.std.proofs.Common.{◌∙◌, refl, sym}
use Rattle.device_outside.specs.Outside.{done}
use Rattle.device_store.specs.State.{state_of}
use Rattle.device_store.proofs.Moves.{from_equal}
use Rattle.device_store.proofs.Settling.{fails_none, fails_pair}
use Rattle.device_store.proofs.store.DeviceStore.call_failed.Goals as goal

pub returns-then-is_paired-clause-run : goal.returns-then-is_paired-clause-run
returns-then-is_paired-clause-run g c =
    λ p. from_equal (λ i. i) (sym (fails_pair (state_of c.args.self.now) c.args.side c.args.writing (sym c.is_paired.ensures ∙ c.if-is_paired.true)))
    refl (c.lose_side.ensures.run p)

pub returns-else-is_paired-clause-run : goal.returns-else-is_paired-clause-run
returns-else-is_paired-clause-run g c =
    λ p. from_equal (λ i. i) (sym (fails_none (state_of c.args.self.now) c.args.side c.args.writing (sym c.is_paired.ensures ∙ c.if-is_paired.false))) refl done
