use Rattle.std.proofs.Common.{◌≡◌, take}
use Rattle.ckd_types.proofs.record.Records.copy.Given as goal

abbrev pub invariant-loop-record : goal.invariant-loop-record
invariant-loop-record l = l.items.items ≡ take l.record-index l.self
