-- What a command does on the track that it looks at.
use Rattle.ckd_types.specs.declared.channel.Ccw.{Ccw}
use Rattle.ckd_types.specs.declared.geometry.Geometry.{Geometry}
use Rattle.ckd_types.specs.declared.record.Track.{Track}
use Rattle.ckd_types.specs.Track.{find_id}
use Rattle.ckd_rules.specs.declared.order.Look.{Look}
use Rattle.ckd_rules.specs.declared.order.Look.TheVariants.{Finds, Searches, Reads, Writes}
use Rattle.ckd_rules.specs.declared.stance.Stance.{Stance}
use Rattle.ckd_rules.specs.Control.{located}
use Rattle.ckd_rules.specs.Looked.{Looked, ends}
use Rattle.ckd_rules.specs.Reads.{read_on}
use Rattle.ckd_rules.specs.Searches.{search_on}
use Rattle.ckd_rules.specs.Writes.{write_on}

abbrev pub look_on : Geometry → Track → Stance → Ccw → Look → Looked
look_on g t s c (Finds d) = ends (located s c d (find_id d.search t.records))
look_on g t s c (Searches x) = search_on t s c x
look_on g t s c (Reads r) = read_on t s c r
look_on g t s c (Writes w) = write_on g t s c w
