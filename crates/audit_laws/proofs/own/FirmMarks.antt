-- Where a device's marks are good, a track with a patch isn't loose.
use Rattle.std.proofs.Common.{is_some, arith}
use Rattle.std.proofs.lemmas.List.{get_or_past}
use Rattle.device_defs.specs.Contents.{by_plain}
use Rattle.device_defs.specs.Marks.{MarksDevice, MarksStore}
use Rattle.device_laws.proofs.FailedCall.{IsWell}
use Rattle.device_laws.proofs.TrackMarks as M
use Rattle.device_laws.proofs.TrackMarks.{is_good, marks}
use Rattle.subsystem_laws.proofs.GoodMarks.{Good, by_lent}
use Rattle.audit_laws.proofs.own.LossDevices.{PatchedAreFirm}

well_firm : (s : MarksStore) → IsWell by_plain s → PatchedAreFirm s
unfolding M.track_at
well_firm s w = grind (arith, is_some, get_or_past)

pub firm_of : (d : MarksDevice) → Good d → PatchedAreFirm d.store
firm_of d g = grind (arith, by_lent, well_firm, is_some)
