use Rattle.std.proofs.Common.{◌∙◌, refl, ap, sym, Some}
use Rattle.std.specs.Prelude.{is_some, not}
use Rattle.device_defs.specs.Store.{frame_at, has_level}
use Rattle.device_outside.specs.Interaction.{Done}
use Rattle.device_outside.specs.Outside.{done}
use Rattle.device_outside.proofs.Runs.{ended, joined}
use Rattle.device_defs.specs.Memory.{had_by}
use Rattle.device_defs.specs.Peek.{peeked}
use Rattle.device_store.specs.State.{state_of}
use Rattle.device_store.proofs.Moves.{from_equal}
use Rattle.device_store.proofs.Peeking.{copied_run, copied_there, half_there, not_in_half}
use Rattle.device_store.proofs.store.DeviceStore.peek.Goals as goal

pub half_copied-requires : goal.half_copied-requires
half_copied-requires g c =
    let s = state_of c.args.self.now in
    half_there c.args.self.now.half c.args.t (not (is_some (frame_at s c.args.t))) (not (has_level s c.args.t))
    (sym c.is_in_half.ensures ∙ c.if-is_in_half.true)

pub returns-then-has-clause-run : goal.returns-then-has-clause-run
returns-then-has-clause-run g c = rw (← c.has.ensures, c.if-has.true) done

pub returns-then-is_in_half-clause-run : goal.returns-then-is_in_half-clause-run
returns-then-is_in_half-clause-run g c =
    rw (← c.has.ensures, c.if-has.false)
    (copied_run (state_of c.args.self.now) c.args.t c.args.self.now.half c.half_copied.result c.half_copied.ensures
    (sym c.is_in_half.ensures ∙ c.if-is_in_half.true))

pub returns-then-is_in_half-clause-there : goal.returns-then-is_in_half-clause-there
returns-then-is_in_half-clause-there g c = copied_there (state_of c.args.self.now) c.args.t c.args.self.now.half c.half_copied.result c.half_copied.ensures

pub returns-in-Err-clause-run : goal.returns-in-Err-clause-run
returns-in-Err-clause-run g c =
    rw (← c.has.ensures, c.if-has.false)
    (from_equal (λ i. i) (sym (not_in_half (state_of c.args.self.now) c.args.t (state_of c.args.self.now).half
    (sym c.is_in_half.ensures ∙ c.if-is_in_half.false))) refl
    (joined (had_by (λ z i. Done z (Some (peeked i)))) (rw c.peek_usage.ensures at c.in-Err.ensures.run) done))

pub returns-in-Ok-clause-run : goal.returns-in-Ok-clause-run
returns-in-Ok-clause-run g c =
    rw (← c.has.ensures, c.if-has.false)
    (from_equal (λ i. i) (sym (not_in_half (state_of c.args.self.now) c.args.t (state_of c.args.self.now).half
    (sym c.is_in_half.ensures ∙ c.if-is_in_half.false))) refl
    (joined (had_by (λ z i. Done z (Some (peeked i)))) (rw c.peek_usage.ensures at c.in-Ok.ensures.run)
    (ended refl (ap Some (sym (c.peeked.ensures.is (state_of c.image.new.self) c.args.t))))))

pub returns-in-Ok-clause-there : goal.returns-in-Ok-clause-there
returns-in-Ok-clause-there g c = c.peeked.ensures.there (state_of c.image.new.self) c.args.t c.in-Ok.ensures.there
