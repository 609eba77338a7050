use Rattle.subsystem_defs.specs.Decks.{empty_firsts}
use Rattle.subsystem_laws.proofs.GoodMarks.{run_has_good_marks}
use Rattle.subsystem_laws.proofs.NothingChecked.{run_checks_nothing}
use Rattle.subsystem_laws.proofs.ReadDecks.{read_served}
use Rattle.subsystem_laws.proofs.TracksKept.{run_loses_no_track}
use Rattle.subsystem_laws.proofs.causes.read_run_checks_nothing.Goals as goal

pub returns : goal.returns
returns c = record {
  marks = λ text deck read. run_has_good_marks empty_firsts deck (read_served text deck read);
  tracks = λ text deck read. run_loses_no_track empty_firsts deck (read_served text deck read);
  checks = λ text deck read. run_checks_nothing empty_firsts deck (read_served text deck read);
}
