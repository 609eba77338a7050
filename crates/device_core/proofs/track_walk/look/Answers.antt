use Rattle.std.proofs.Common.{◌∙◌, refl, ap, sym, subst, Some}
use Rattle.std.specs.Prelude.{is_some}
use Rattle.device_outside.specs.Outside.{done}
use Rattle.device_outside.proofs.Runs.{ended, joined}
use Rattle.device_defs.specs.Command.{Over, looked}
use Rattle.device_defs.specs.Contents.{contents}
use Rattle.device_defs.specs.Memory.{had_by}
use Rattle.device_store.proofs.Moves.{weaker}
use Rattle.device_store.specs.Looks.{IsThere}
use Rattle.device_store.specs.State.{state_of}
use Rattle.device_core.specs.TrackWalk.{Left}
use Rattle.device_core.proofs.track_walk.look.Goals as goal
use Rattle.device_defs.specs.Command.{look}

pub returns-then-has-clause-run : goal.returns-then-has-clause-run
unfolding look
returns-then-has-clause-run g c = rw (← c.has.ensures, c.if-has.true) (ended refl (ap (λ x. Some (Over x)) (sym c.check.ensures.turn)))

pub returns-in-Err-clause-run : goal.returns-in-Err-clause-run
unfolding look
returns-in-Err-clause-run g c =
    rw (← c.has.ensures, c.if-has.false) (joined (had_by (looked contents c.args.chain.now c.args.first c.args.t))
    (rw c.usage_of-usage.ensures.usage at c.in-Err.ensures.run) done)

pub returns-in-NoBytes-clause-run : goal.returns-in-NoBytes-clause-run
unfolding look
returns-in-NoBytes-clause-run g c =
    rw (← c.has.ensures, c.if-has.false) (joined (had_by (looked contents c.args.chain.now c.args.first c.args.t))
    (rw (c.in-NoBytes.is, c.usage_of-usage.ensures.usage) at c.in-Ok.ensures.run)
    (ended refl (ap (λ x. Some (Over x)) (sym c.check-in-NoBytes.ensures.turn))))

pub returns-in-BadTrack-clause-run : goal.returns-in-BadTrack-clause-run
unfolding look
returns-in-BadTrack-clause-run g c =
    rw (← c.has.ensures, c.if-has.false) (joined (had_by (looked contents c.args.chain.now c.args.first c.args.t))
    (rw (c.in-BadTrack.is, c.usage_of-usage.ensures.usage) at c.in-Ok.ensures.run)
    (ended refl (ap (λ x. Some (Over x)) (sym c.check_data.ensures.turn))))

pub returns-in-Has-clause-run : goal.returns-in-Has-clause-run
unfolding look
returns-in-Has-clause-run g c =
    rw (← c.has.ensures, c.if-has.false) (joined (had_by (looked contents c.args.chain.now c.args.first c.args.t))
    (weaker c.on_image-in-Has.result (rw (c.in-Has.is, c.usage_of-usage.ensures.usage) at c.in-Ok.ensures.run)) c.on_image-in-Has.ensures.run)

pub returns-in-Frame-clause-run : goal.returns-in-Frame-clause-run
unfolding look
returns-in-Frame-clause-run g c =
    rw (← c.has.ensures, c.if-has.false) (joined (had_by (looked contents c.args.chain.now c.args.first c.args.t))
    (weaker c.on_image.result (rw (c.in-Frame.is, c.usage_of-usage.ensures.usage) at c.in-Ok.ensures.run)) c.on_image.ensures.run)

pub on_image-requires-clause-there : goal.on_image-requires-clause-there
on_image-requires-clause-there g c = subst (λ x. IsThere (state_of c.image.new.self) c.args.t x) c.in-Frame.is c.in-Ok.ensures.there

pub on_image-requires-in-Has-clause-there : goal.on_image-requires-in-Has-clause-there
on_image-requires-in-Has-clause-there g c =
    subst (λ x. IsThere (state_of c.image.new.self) c.args.t x) c.in-Has.is c.in-Ok.ensures.there

pub returns-then-has-clause-goes : goal.returns-then-has-clause-goes
returns-then-has-clause-goes g c = subst (λ n. Left n c.check.new.chain c.check.result) c.requires.at.cylinders_are c.check.ensures.left

pub returns-in-NoBytes-clause-goes : goal.returns-in-NoBytes-clause-goes
returns-in-NoBytes-clause-goes g c =
    subst (λ n. Left n c.check-in-NoBytes.new.chain c.check-in-NoBytes.result) c.requires.at.cylinders_are c.check-in-NoBytes.ensures.left

pub returns-in-BadTrack-clause-goes : goal.returns-in-BadTrack-clause-goes
returns-in-BadTrack-clause-goes g c =
    subst (λ n. Left n c.check_data.new.chain c.check_data.result) c.requires.at.cylinders_are c.check_data.ensures.left

pub image-requires-clause-last : goal.image-requires-clause-last
image-requires-clause-last g c =
    let inside = rw c.requires.at.cylinders_are at c.usage_of-usage.ensures.last in inside

pub returns-then-has-clause-half : goal.returns-then-has-clause-half
returns-then-has-clause-half g c = ap is_some c.requires.none ∙ sym c.check.ensures.half

pub returns-in-NoBytes-clause-half : goal.returns-in-NoBytes-clause-half
returns-in-NoBytes-clause-half g c = ap is_some (c.in-Ok.ensures.leaves.half ∙ c.requires.none) ∙ sym c.check-in-NoBytes.ensures.half

pub returns-in-BadTrack-clause-half : goal.returns-in-BadTrack-clause-half
returns-in-BadTrack-clause-half g c = ap is_some (c.in-Ok.ensures.leaves.half ∙ c.requires.none) ∙ sym c.check_data.ensures.half
