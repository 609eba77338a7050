use Rattle.std.proofs.Common.{refl, sym, ◌∙◌}
use Rattle.device_outside.specs.Outside.{done}
use Rattle.device_outside.proofs.Runs.{joined}
use Rattle.device_defs.specs.Background.{recovered_bytes}
use Rattle.device_defs.specs.Contents.{contents}
use Rattle.device_store.specs.State.{state_of}
use Rattle.device_store.proofs.Moves.{from_equal, weaker}
use Rattle.device_store.proofs.Writes.{recover_framed, recover_bare}
use Rattle.device_store.proofs.store.DeviceStore.recover.Goals as goal

pub returns-then-has-clause-run : goal.returns-then-has-clause-run
returns-then-has-clause-run g c =
    from_equal (λ i. i) (sym (recover_framed (state_of c.args.self.now) c.args.t _ (sym c.has.ensures ∙ c.if-has.true))) refl
    c.save_frame.ensures.run

pub returns-then-got-clause-run : goal.returns-then-got-clause-run
returns-then-got-clause-run g c =
    from_equal (λ i. i) (sym (recover_bare (state_of c.args.self.now) c.args.t _ (sym c.has.ensures ∙ c.if-has.false))) refl
    (joined (λ z got. recovered_bytes contents c.args.t z got got.bytes) (weaker c.recover_bytes.result (c.level_bytes-got.ensures.run _))
    (rw c.if-got.true c.recover_bytes.ensures.run))

pub returns-clause-run : goal.returns-clause-run
returns-clause-run g c =
    from_equal (λ i. i) (sym (recover_bare (state_of c.args.self.now) c.args.t _ (sym c.has.ensures ∙ c.if-has.false))) refl
    (joined (λ z got. recovered_bytes contents c.args.t z got got.bytes) (c.level_bytes-got.ensures.run _)
    (rw (c.if-got.false, c.did.ensures) done))

pub recover_bytes-requires-clause-here : goal.recover_bytes-requires-clause-here
recover_bytes-requires-clause-here g c = (c.level_bytes-got.ensures.here c.if-got.true).1
