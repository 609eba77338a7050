use Rattle.subsystem_defs.specs.Decks.{empty_firsts}
use Rattle.subsystem_laws.proofs.GoodMarks.{run_has_good_marks}
use Rattle.subsystem_laws.proofs.causes.run_has_good_marks.Goals as goal

pub returns : goal.returns
returns c = run_has_good_marks empty_firsts
