use Rattle.device_outside.specs.declared.keep.NoKeep.{NoKeep}
use Rattle.device_store.proofs.Moves.{heard_alone}
use Rattle.subsystem_core.proofs.Hearing.{changed_less, none_takes}
use Rattle.subsystem_core.proofs.subsystem.Subsystem.peek_track.Goals as goal

pub peek_track_with-requires-clause-takes : goal.peek_track_with-requires-clause-takes
peek_track_with-requires-clause-takes g c = none_takes _ _

pub returns-clause-looked : goal.returns-clause-looked
returns-clause-looked g c = changed_less (λ x y so. (so.0, λ (j : NoKeep). heard_alone so.1)) c.peek_track_with.ensures.looked
