use Rattle.std.proofs.Common.{◌≡◌, take}
use Rattle.nv_store.proofs.patch.copies.Given as goal

abbrev pub invariant-loop-record : goal.invariant-loop-record
invariant-loop-record l = l.made.items ≡ take l.record-index l.records
