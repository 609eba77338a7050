use Rattle.std.proofs.Common.{◌∙◌}
use Rattle.volume_texts.specs.Faults.{track_text}
use Rattle.volume_texts.proofs.faults.write_track.Goals as goal

pub returns-clause-bytes : goal.returns-clause-bytes
unfolding track_text
returns-clause-bytes g c = rw (c.from.ensures ∙ c.get.ensures.value, c.from-2.ensures) at c.write_line.ensures.bytes
