use Rattle.std.proofs.Common.{◌∙◌, Option, ap, sym}
use Rattle.std.specs.Prelude.{option_map}
use Rattle.device_defs.specs.Contents.{contents}
use Rattle.device_defs.specs.Cutting.{half_lost}
use Rattle.device_store.specs.declared.half.HalfWrite.{HalfWrite}
use Rattle.device_store.specs.State.{half_of, state_of}
use Rattle.device_store.proofs.Halved.{no_half}
use Rattle.device_store.proofs.store.DeviceStore.end_half.Goals as goal

pub returns-then-is_some-clause-state : goal.returns-then-is_some-clause-state
returns-then-is_some-clause-state g c =
    let s = state_of c.args.self.now in
    c.end_by.ensures.state s (sym c.take_half-half.ensures.state)
    ∙ ap (λ (h : Option HalfWrite). half_lost contents s (option_map half_of h)) (sym c.take_half-half.ensures.was)

pub returns-else-is_some-clause-state : goal.returns-else-is_some-clause-state
returns-else-is_some-clause-state g c =
    let s = state_of c.args.self.now in
    ap (λ (h : Option HalfWrite). half_lost contents s (option_map half_of h)) (sym (no_half c.args.self.now.half (sym c.is_some.ensures ∙ c.if-is_some.false)))

pub returns-else-is_some-clause-half : goal.returns-else-is_some-clause-half
returns-else-is_some-clause-half g c = no_half c.args.self.now.half (sym c.is_some.ensures ∙ c.if-is_some.false)
