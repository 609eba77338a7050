use Rattle.deck_audit.proofs.JudgedTasks.{task_judged}
use Rattle.deck_audit.proofs.judged.tasks_are_judged.Goals as goal

pub returns : goal.returns
returns c s k a at line i unchanged place task range ready = task_judged s k a at line i unchanged place task range ready
