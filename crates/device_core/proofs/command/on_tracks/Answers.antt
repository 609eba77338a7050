use Rattle.std.proofs.Common.{◌∙◌, ◌*◌, refl, ap, sym, Some}
use Rattle.ckd_chain.specs.State.{ChainState}
use Rattle.ckd_chain.specs.Steps.{again_from}
use Rattle.device_outside.specs.Outside.{done}
use Rattle.device_outside.proofs.Runs.{ended, joined}
use Rattle.device_defs.specs.Command.{follow, on_tracks}
use Rattle.device_defs.specs.Contents.{contents}
use Rattle.device_defs.specs.Device.{with_store}
use Rattle.device_store.specs.State.{state_of}
use Rattle.device_store.proofs.Moves.{from_equal}
use Rattle.device_core.proofs.Begun.{follow_opened}
use Rattle.device_core.proofs.command.on_tracks.Goals as goal

pub returns-in-Ok-clause-run : goal.returns-in-Ok-clause-run
returns-in-Ok-clause-run g c =
    λ d path z is needs. joined (on_tracks contents d path z) (from_equal (λ i. i)
    (ap (λ (x : ChainState). follow contents (c.args.store.now.cylinders * 15) c.args.t x c.args.t (state_of c.args.store.now)) is
    ∙ follow_opened contents (c.args.store.now.cylinders * 15) c.args.t c.args.t c.args.t (state_of c.args.store.now) z needs) refl c.in-Ok.ensures.run) done

pub returns-in-Err-clause-run : goal.returns-in-Err-clause-run
returns-in-Err-clause-run g c =
    λ d path z is needs. joined (on_tracks contents d path z) (from_equal (λ i. i)
    (ap (λ (x : ChainState). follow contents (c.args.store.now.cylinders * 15) c.args.t x c.args.t (state_of c.args.store.now)) is
    ∙ follow_opened contents (c.args.store.now.cylinders * 15) c.args.t c.args.t c.args.t (state_of c.args.store.now) z needs) refl c.in-Err.ensures.run)
    (ended (ap (λ (x : ChainState). record (with_store d (state_of c.follow.new.store)) { chain = Some x })
    (sym (c.again.ensures ∙ c.in-Err.ensures.hand.again ∙ ap again_from is))) refl)

pub returns-in-Err-clause-again : goal.returns-in-Err-clause-again
returns-in-Err-clause-again g c = c.again.ensures ∙ c.in-Err.ensures.hand.again
