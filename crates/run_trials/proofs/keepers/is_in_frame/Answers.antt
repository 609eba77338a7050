use Rattle.std.proofs.Common.{sym, ◌∙◌}
use Rattle.std.proofs.lemmas.Bool.{ltb-true}
use Rattle.run_trials.proofs.keepers.is_in_frame.Goals as goal

pub peek_track-requires-clause-track : goal.peek_track-requires-clause-track
peek_track-requires-clause-track c = rw c.device.ensures (ltb-true _ _ (sym c.has_track.ensures ∙ c.if-has_track.true))
