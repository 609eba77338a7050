-- Writes of one track.
use Rattle.std.specs.Prelude.{true, false, is_some}
use Rattle.ckd_types.specs.declared.channel.Ccw.{Ccw}
use Rattle.ckd_types.specs.declared.command.Write.{Write}
use Rattle.ckd_types.specs.declared.command.Write.TheVariants.{Data, UpdateData, KeyData, UpdateKeyData, CountKeyData, NextTrack, Zero}
use Rattle.ckd_types.specs.declared.geometry.Geometry.{Geometry}
use Rattle.ckd_types.specs.declared.record.Track.{Track}
use Rattle.ckd_rules.specs.declared.stance.Stance.{Stance}
use Rattle.ckd_rules.specs.declared.stance.After.TheVariants.{Other}
use Rattle.ckd_rules.specs.Looked.{Looked}
use Rattle.ckd_rules.specs.Updates.{update_on}
use Rattle.ckd_rules.specs.Formats.{format_on, format_behind, zero_on}

-- in a domain the writes of data are update writes; a format on the next track stands behind its record 0
abbrev pub write_on : Geometry → Track → Stance → Ccw → Write → Looked
write_on g t s c Data = update_on false (is_some s.domain) t s c
write_on g t s c UpdateData = update_on false true t s c
write_on g t s c KeyData = update_on true (is_some s.domain) t s c
write_on g t s c UpdateKeyData = update_on true true t s c
write_on g t s c CountKeyData = format_on g t s c
write_on g t s c NextTrack = format_behind g t.records Other s c 0
write_on g t s c Zero = zero_on s c
