use Rattle.std.proofs.Common.{◌≡◌, ◌∙◌, ap, refl}
use Rattle.device_outside.proofs.Runs.{joined}
use Rattle.device_defs.specs.Contents.{contents}
use Rattle.device_defs.specs.Cutting.{is_of_command}
use Rattle.device_defs.specs.Second.{half_closed, second_by, second_part}
use Rattle.device_store.specs.declared.half.HalfWrite.{HalfWrite}
use Rattle.device_store.specs.State.{closing, origin_of, outside_of, state_of}
use Rattle.device_store.proofs.Halved.{same_half}
use Rattle.device_store.proofs.Moves.{from_equal}
use Rattle.device_store.proofs.store.DeviceStore.second.Goals as goal

pub returns-clause-track : goal.returns-clause-track
returns-clause-track g c =
    λ h is. ap (λ (x : HalfWrite). x.track) (same_half c.write_half.new.self.half c.take_half-half.result h c.take_half-half.ensures.was
    (c.write_half.ensures.leaves.half ∙ is))

pub returns-clause-command : goal.returns-clause-command
returns-clause-command g c =
    λ h is. c.is_of_command-of_command.ensures
    ∙ ap (λ (x : HalfWrite). is_of_command (origin_of x.origin))
    (same_half c.write_half.new.self.half c.take_half-half.result h c.take_half-half.ensures.was (c.write_half.ensures.leaves.half ∙ is))

pub returns-clause-run : goal.returns-clause-run
unfolding second_part
returns-clause-run g c =
    λ h is.
    let z = state_of c.write_half.new.self in
    let x = c.take_half-half.result in
    let same : x ≡ h = same_half c.write_half.new.self.half x h c.take_half-half.ensures.was (c.write_half.ensures.leaves.half ∙ is) in
    joined (λ y _. second_by contents h.track h.image (origin_of h.origin) y) (c.write_half.ensures.run h _ is)
    (from_equal (λ (y : HalfWrite). closing (half_closed z) y.track y.image (origin_of y.origin)) same refl
    (from_equal (λ y. closing y x.track x.image (origin_of x.origin)) c.take_half-half.ensures.state
    (ap (λ v. outside_of (g.P.Port.view c.args.port.now) g.V.Volume.view v.volumes c.write_half.new.keep) c.take_half-half.ensures.volume)
    c.close_half-done.ensures.run))
