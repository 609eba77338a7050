use Rattle.subsystem_defs.specs.declared.event.Event.TheVariants as events
use Rattle.subsystem_defs.specs.Lines as lines
use Rattle.deck_run.proofs.Events.{ok_so}
use Rattle.deck_run.proofs.Pairing.{first_so, second_so}
use Rattle.deck_run.proofs.Recorded.{event_goes}
use Rattle.deck_run.proofs.line.do_line.Goals as goal

pub returns-in-Start-clause-goes : goal.returns-in-Start-clause-goes
returns-in-Start-clause-goes g c = rw c.in-Start.is (ok_so c.start.result _ _ (event_goes _ _ _ _ (events.Start c.in-Start.path c.in-Start.d) tt) c.start.ensures.recorded)

pub returns-in-Step-clause-goes : goal.returns-in-Step-clause-goes
returns-in-Step-clause-goes g c = rw c.in-Step.is (ok_so c.step.result _ _ (event_goes _ _ _ _ (events.Step c.in-Step.d) tt) c.step.ensures.recorded)

pub returns-in-Run-clause-goes : goal.returns-in-Run-clause-goes
unfolding lines.line_logged
returns-in-Run-clause-goes g c = rw c.in-Run.is c.finish.ensures.goes

pub returns-in-Back-clause-goes : goal.returns-in-Back-clause-goes
returns-in-Back-clause-goes g c = rw c.in-Back.is (ok_so c.back.result _ _ (event_goes _ _ _ _ (events.Back c.in-Back.d) tt) c.back.ensures.recorded)

pub returns-in-Settle-clause-goes : goal.returns-in-Settle-clause-goes
unfolding lines.line_logged
returns-in-Settle-clause-goes g c = rw c.in-Settle.is c.settle.ensures.goes

pub returns-in-Reset-clause-goes : goal.returns-in-Reset-clause-goes
returns-in-Reset-clause-goes g c = rw c.in-Reset.is (ok_so c.reset.result _ _ (event_goes _ _ _ _ (events.Reset c.in-Reset.path c.in-Reset.d) tt) c.reset.ensures.recorded)

pub returns-in-Replace-clause-goes : goal.returns-in-Replace-clause-goes
returns-in-Replace-clause-goes g c = rw c.in-Replace.is c.replace.ensures.goes

pub returns-in-FailVolume-clause-goes : goal.returns-in-FailVolume-clause-goes
returns-in-FailVolume-clause-goes g c = rw c.in-FailVolume.is (ok_so c.order_one.result _ _ (event_goes _ _ _ _ (events.FailVolume c.in-FailVolume.d c.in-FailVolume.side) tt) c.order_one.ensures.recorded)

pub returns-in-Suspend-clause-goes : goal.returns-in-Suspend-clause-goes
returns-in-Suspend-clause-goes g c = rw c.in-Suspend.is (ok_so c.order_one-in-Suspend.result _ _ (event_goes _ _ _ _ (events.Suspend c.in-Suspend.d) tt) c.order_one-in-Suspend.ensures.recorded)

pub returns-in-Resume-clause-goes : goal.returns-in-Resume-clause-goes
returns-in-Resume-clause-goes g c = rw c.in-Resume.is (ok_so c.order_one-in-Resume.result _ _ (event_goes _ _ _ _ (events.Resume c.in-Resume.d) tt) c.order_one-in-Resume.ensures.recorded)

pub returns-in-FailCache-clause-goes : goal.returns-in-FailCache-clause-goes
returns-in-FailCache-clause-goes g c = rw c.in-FailCache.is c.order_all.ensures.goes

pub returns-in-FailStore-clause-goes : goal.returns-in-FailStore-clause-goes
returns-in-FailStore-clause-goes g c = rw c.in-FailStore.is c.order_all-in-FailStore.ensures.goes

pub returns-in-RepairCache-clause-goes : goal.returns-in-RepairCache-clause-goes
returns-in-RepairCache-clause-goes g c = rw c.in-RepairCache.is c.order_all-in-RepairCache.ensures.goes

pub returns-in-RepairStore-clause-goes : goal.returns-in-RepairStore-clause-goes
returns-in-RepairStore-clause-goes g c = rw c.in-RepairStore.is c.order_all-in-RepairStore.ensures.goes

pub returns-in-Power-clause-goes : goal.returns-in-Power-clause-goes
returns-in-Power-clause-goes g c = rw c.in-Power.is c.order_all-in-Power.ensures.goes

pub pair-requires-clause-a : goal.pair-requires-clause-a
pair-requires-clause-a g c = first_so _ _ (rw c.in-Pair.is at c.requires.here)

pub pair-requires-clause-b : goal.pair-requires-clause-b
pair-requires-clause-b g c = second_so _ _ (rw c.in-Pair.is at c.requires.here)

pub returns-in-Pair-clause-goes : goal.returns-in-Pair-clause-goes
returns-in-Pair-clause-goes g c = rw c.in-Pair.is c.pair.ensures.goes

pub returns-in-Unpair-clause-goes : goal.returns-in-Unpair-clause-goes
returns-in-Unpair-clause-goes g c = rw c.in-Unpair.is c.unpair.ensures.goes
