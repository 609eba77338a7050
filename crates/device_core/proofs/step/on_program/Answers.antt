use Rattle.std.proofs.Common.{◌∙◌, refl, sym, ap}
use Rattle.std.specs.List.{list_any}
use Rattle.device_defs.specs.Command.{is_loss}
use Rattle.device_store.specs.State.{state_of}
use Rattle.device_store.proofs.Moves.{from_equal}
use Rattle.device_core.proofs.Losing.{lost_ran, has_lost, by_loss}
use Rattle.device_core.proofs.step.on_program.Goals as goal

pub returns-then-has_loss-clause-run : goal.returns-then-has_loss-clause-run
returns-then-has_loss-clause-run g c =
    λ d store paths. lost_ran d c.args.running.now (state_of c.args.store.now) c.args.paths.now c.check.new.chain c.check.result store paths c.requires.fresh
    (has_lost c.args.running.now.acts.items c.has_loss.result (c.has_loss.ensures ∙ ap (list_any (λ a. is_loss a.act)) c.as_slice.ensures)
    c.if-has_loss.true) c.check.ensures.turn

pub returns-clause-run : goal.returns-clause-run
returns-clause-run g c =
    λ d store paths. from_equal (λ i. i)
    (sym (by_loss d c.args.running.now (has_lost c.args.running.now.acts.items c.has_loss.result
    (c.has_loss.ensures ∙ ap (list_any (λ a. is_loss a.act)) c.as_slice.ensures) c.if-has_loss.false))) refl
    (c.on_running.ensures.run d store paths)
