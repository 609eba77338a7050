use Rattle.std.proofs.Common.{◌∙◌}
use Rattle.copy_tool.specs.Texts.{track_text}
use Rattle.copy_tool.proofs.unmade.write_track.Goals as goal

pub returns-clause-bytes : goal.returns-clause-bytes
unfolding track_text
returns-clause-bytes g c = rw (c.from.ensures ∙ c.get.ensures.value) at c.write_line.ensures.bytes
