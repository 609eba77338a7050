use Rattle.std.proofs.Common.{◌∙◌, refl, sym, ap}
use Rattle.device_outside.specs.Outside.{done}
use Rattle.device_outside.proofs.Runs.{ended, tells}
use Rattle.device_defs.specs.Losses.{stale_everywhere}
use Rattle.device_store.specs.State.{outside_of}
use Rattle.device_store.proofs.Moves.{lands}
use Rattle.device_store.proofs.store.DeviceStore.firm_first.Goals as goal

pub returns-then-has-clause-run : goal.returns-then-has-clause-run
returns-then-has-clause-run g c =
    λ p. rw (← c.has.ensures, c.if-has.true)
    (lands (ap (λ x. outside_of p g.V.Volume.view x c.firm.new.self) (sym (c.stale_everywhere.ensures.leaves.volume ∙ ap (λ x. x.volumes) c.harden.ensures.volume)))
    (tells tt (rw c.frame_image-image.ensures.image at c.firm.ensures) tt
    (ended (sym (c.stale_everywhere.ensures.state ∙ ap (λ z. stale_everywhere z c.args.t) c.harden.ensures.state)) refl)))

pub returns-clause-run : goal.returns-clause-run
returns-clause-run g c = λ p. rw (← c.has.ensures, c.if-has.false) done

pub returns-then-has-clause-volume : goal.returns-then-has-clause-volume
returns-then-has-clause-volume g c = c.stale_everywhere.ensures.leaves.volume ∙ ap (λ x. x.volumes) c.harden.ensures.volume

pub frame_image-image-requires : goal.frame_image-image-requires
frame_image-image-requires g c = c.requires.kept (sym c.has.ensures ∙ c.if-has.true)
