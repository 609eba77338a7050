use Rattle.subsystem_core.proofs.Hearing.{takes_at}
use Rattle.subsystem_core.proofs.Numbers.{both}
use Rattle.subsystem_core.proofs.subsystem.Subsystem.happen.Goals as goal

pub start-requires : goal.start-requires
start-requires g c = rw c.in-Start.is at c.requires.may

pub step-requires-clause-here : goal.step-requires-clause-here
step-requires-clause-here g c = rw c.in-Step.is at c.requires.may

pub step-requires-clause-takes : goal.step-requires-clause-takes
step-requires-clause-takes g c = takes_at c.args.keep.now c.args.self.now.devices.items c.in-Step.d c.requires.takes

pub back-requires-clause-here : goal.back-requires-clause-here
back-requires-clause-here g c = rw c.in-Back.is at c.requires.may

pub back-requires-clause-takes : goal.back-requires-clause-takes
back-requires-clause-takes g c = takes_at c.args.keep.now c.args.self.now.devices.items c.in-Back.d c.requires.takes

pub reset-requires-clause-here : goal.reset-requires-clause-here
reset-requires-clause-here g c = rw c.in-Reset.is at c.requires.may

pub reset-requires-clause-takes : goal.reset-requires-clause-takes
reset-requires-clause-takes g c = takes_at c.args.keep.now c.args.self.now.devices.items c.in-Reset.d c.requires.takes

pub fail_volume-requires-clause-here : goal.fail_volume-requires-clause-here
fail_volume-requires-clause-here g c = rw c.in-FailVolume.is at c.requires.may

pub fail_volume-requires-clause-takes : goal.fail_volume-requires-clause-takes
fail_volume-requires-clause-takes g c = takes_at c.args.keep.now c.args.self.now.devices.items c.in-FailVolume.d c.requires.takes

pub suspend-requires : goal.suspend-requires
suspend-requires g c = rw c.in-Suspend.is at c.requires.may

pub resume-requires : goal.resume-requires
resume-requires g c = rw c.in-Resume.is at c.requires.may

pub pair-requires-clause-a : goal.pair-requires-clause-a
pair-requires-clause-a g c = (both _ _ (rw c.in-Pair.is at c.requires.may)).0

pub pair-requires-clause-b : goal.pair-requires-clause-b
pair-requires-clause-b g c = (both _ _ (rw c.in-Pair.is at c.requires.may)).1

pub returns-in-Pair-clause-came : goal.returns-in-Pair-clause-came
returns-in-Pair-clause-came g c = rw c.in-Pair.is c.pair.ensures.came

pub returns-in-Start-clause-came : goal.returns-in-Start-clause-came
returns-in-Start-clause-came g c = rw c.in-Start.is (c.start.ensures.came c.args.keep.now)

pub returns-in-Step-clause-came : goal.returns-in-Step-clause-came
returns-in-Step-clause-came g c = rw c.in-Step.is c.step.ensures.came

pub returns-in-Back-clause-came : goal.returns-in-Back-clause-came
returns-in-Back-clause-came g c = rw c.in-Back.is c.back.ensures.came

pub returns-in-Reset-clause-came : goal.returns-in-Reset-clause-came
returns-in-Reset-clause-came g c = rw c.in-Reset.is c.reset.ensures.came

pub returns-in-FailVolume-clause-came : goal.returns-in-FailVolume-clause-came
returns-in-FailVolume-clause-came g c = rw c.in-FailVolume.is c.fail_volume.ensures.came

pub returns-in-Suspend-clause-came : goal.returns-in-Suspend-clause-came
returns-in-Suspend-clause-came g c = rw c.in-Suspend.is (c.suspend.ensures.came c.args.keep.now)

pub returns-in-Resume-clause-came : goal.returns-in-Resume-clause-came
returns-in-Resume-clause-came g c = rw c.in-Resume.is (c.resume.ensures.came c.args.keep.now)

pub returns-in-FailCache-clause-came : goal.returns-in-FailCache-clause-came
returns-in-FailCache-clause-came g c = rw c.in-FailCache.is c.fail_cache.ensures.came

pub returns-in-FailStore-clause-came : goal.returns-in-FailStore-clause-came
returns-in-FailStore-clause-came g c = rw c.in-FailStore.is c.fail_store.ensures.came

pub returns-in-RepairCache-clause-came : goal.returns-in-RepairCache-clause-came
returns-in-RepairCache-clause-came g c = rw c.in-RepairCache.is (c.repair_cache.ensures.came c.args.keep.now)

pub returns-in-RepairStore-clause-came : goal.returns-in-RepairStore-clause-came
returns-in-RepairStore-clause-came g c = rw c.in-RepairStore.is (c.repair_store.ensures.came c.args.keep.now)

pub returns-in-Power-clause-came : goal.returns-in-Power-clause-came
returns-in-Power-clause-came g c = rw c.in-Power.is c.power.ensures.came
