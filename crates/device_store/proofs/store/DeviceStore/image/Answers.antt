use Rattle.std.proofs.Common.{refl, sym, ◌∙◌}
use Rattle.device_outside.specs.Outside.{done}
use Rattle.device_defs.specs.Image.{image}
use Rattle.device_store.specs.State.{state_of}
use Rattle.device_store.proofs.Looks.{image_modified, image_clean, image_none}
use Rattle.device_store.proofs.Moves.{from_equal}
use Rattle.device_store.proofs.Firmly.{unframed_firm}
use Rattle.device_store.proofs.store.DeviceStore.image.Goals as goal

pub returns-then-modified-clause-run : goal.returns-then-modified-clause-run
unfolding image
returns-then-modified-clause-run g c =
    from_equal (λ i. i) (sym (image_modified (state_of c.args.self.now) c.args.usage.now c.args.t _ (sym c.modified.ensures ∙ c.if-modified.true))) refl done

pub returns-then-has-clause-run : goal.returns-then-has-clause-run
unfolding image
returns-then-has-clause-run g c =
    from_equal (λ i. i)
    (sym (image_clean (state_of c.args.self.now) c.args.usage.now c.args.t _ (sym c.modified.ensures ∙ c.if-modified.false)
    (sym c.has.ensures ∙ c.if-has.true)))
    refl c.clean_image.ensures.run

pub returns-clause-run : goal.returns-clause-run
unfolding image
returns-clause-run g c =
    from_equal (λ i. i) (sym (image_none (state_of c.args.self.now) c.args.usage.now c.args.t _ (sym c.has.ensures ∙ c.if-has.false))) refl c.miss.ensures.run

pub clean_image-requires-clause-firm : goal.clean_image-requires-clause-firm
clean_image-requires-clause-firm g c =
    λ here. unframed_firm c.args.self.now.loose.loose c.args.self.now.frames c.args.t _ (c.args.self.now.loose_modified here) refl
    (sym c.modified.ensures ∙ c.if-modified.false)

pub miss-requires-clause-firm : goal.miss-requires-clause-firm
miss-requires-clause-firm g c =
    λ here. unframed_firm c.args.self.now.loose.loose c.args.self.now.frames c.args.t _ (c.args.self.now.loose_modified here) refl
    (sym c.modified.ensures ∙ c.if-modified.false)
