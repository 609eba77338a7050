use Rattle.std.proofs.Common.{◌∙◌}
use Rattle.image_tool.specs.Texts.{track_text}
use Rattle.image_tool.proofs.texts.TrackSpellingSpellingTrackFault.put.Goals as goal

pub returns-clause-bytes : goal.returns-clause-bytes
unfolding track_text
returns-clause-bytes g c = rw (c.from.ensures ∙ c.get.ensures.value) at c.write_pieces.ensures.bytes
