use Rattle.std.proofs.Common.{◌≡◌, ◌∙◌, false, Option, Some, ap, refl, subst, sym}
use Rattle.std.specs.Prelude.{IfSome, option_map}
use Rattle.device_outside.specs.Outside.{done}
use Rattle.device_defs.specs.Contents.{contents}
use Rattle.device_defs.specs.Cutting.{half_cut, is_of_command}
use Rattle.device_store.specs.declared.half.HalfWrite.{HalfWrite}
use Rattle.device_store.specs.Looks.{StoreOf}
use Rattle.device_store.specs.State.{half_of, origin_of, outside_of, state_of}
use Rattle.device_store.proofs.Halved.{no_half}
use Rattle.device_store.proofs.Moves.{from_equal}
use Rattle.device_store.proofs.store.DeviceStore.cut_half.Goals as goal

pub returns-then-is_some-clause-run : goal.returns-then-is_some-clause-run
returns-then-is_some-clause-run g c =
    let s = state_of c.args.self.now in
    let x = c.take_half-half.result in
    let was : Some x ≡ c.args.self.now.half = sym c.take_half-half.ensures.was in
    let same : record (state_of c.take_half-half.new.self) { half = Some (half_of x) } ≡ s =
    ap (λ (z : StoreOf). record z { half = Some (half_of x) }) c.take_half-half.ensures.state ∙ ap
    (λ (h : Option HalfWrite). record s { half = option_map half_of h }) was
    in
    λ p. from_equal (λ (h : Option HalfWrite). half_cut contents s (option_map half_of h)) was refl
    (from_equal (λ (z : StoreOf). half_cut contents z (Some (half_of x))) same
    (ap (λ v. outside_of p g.V.Volume.view v.volumes c.args.keep.now) c.take_half-half.ensures.volume) (c.cut-half.ensures.run p))

pub returns-else-is_some-clause-run : goal.returns-else-is_some-clause-run
returns-else-is_some-clause-run g c =
    let s = state_of c.args.self.now in
    λ p. from_equal (λ (h : Option HalfWrite). half_cut contents s (option_map half_of h))
    (sym (no_half c.args.self.now.half (sym c.is_some.ensures ∙ c.if-is_some.false))) refl done

pub returns-else-is_some-clause-half : goal.returns-else-is_some-clause-half
returns-else-is_some-clause-half g c =
    subst (λ (h : Option HalfWrite). IfSome h (λ x. is_of_command (origin_of x.origin) ≡ false))
    (sym (no_half c.args.self.now.half (sym c.is_some.ensures ∙ c.if-is_some.false))) tt
