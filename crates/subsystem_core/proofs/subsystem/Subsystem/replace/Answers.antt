use Rattle.subsystem_core.proofs.Standing.{stay_plain}
use Rattle.subsystem_core.proofs.subsystem.Subsystem.replace.Goals as goal

pub returns-in-Some-clause-plain : goal.returns-in-Some-clause-plain
returns-in-Some-clause-plain g c = λ told. stay_plain _ _ (λ pasts firsts all. all)

pub returns-clause-plain : goal.returns-clause-plain
returns-clause-plain g c = λ told. stay_plain _ _ (c.replace_at.ensures.stands told)
