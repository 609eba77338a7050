use Rattle.std.proofs.Common.{◌≡◌, ◌<◌, ◌≤◌, ℕ, true}
use Rattle.device_defs.specs.Store.{is_lost}
use Rattle.device_store.specs.State.{state_of}
use Rattle.device_store.proofs.store.DeviceStore.next_not_lost.Given as goal

abbrev pub invariant-loop-n : goal.invariant-loop-n
invariant-loop-n g l = (q : ℕ) → l.fn.from ≤ q → q < l.n → is_lost (state_of l.fn.self) q ≡ true
