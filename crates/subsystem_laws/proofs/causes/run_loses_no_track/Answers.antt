use Rattle.subsystem_defs.specs.Decks.{empty_firsts}
use Rattle.subsystem_laws.proofs.TracksKept.{run_loses_no_track}
use Rattle.subsystem_laws.proofs.causes.run_loses_no_track.Goals as goal

pub returns : goal.returns
returns c = run_loses_no_track empty_firsts
