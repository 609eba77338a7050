use Rattle.std.proofs.Common.{◌≡◌, ◌<◌, ℕ, false}
use Rattle.device_store.proofs.Behind.{looked_loose}
use Rattle.device_store.proofs.store.DeviceStore.another_loose.Given as goal

abbrev pub invariant-loop-q : goal.invariant-loop-q
invariant-loop-q g l = (k : ℕ) → k < l.q → looked_loose l.self.loose.loose l.from k ≡ false
