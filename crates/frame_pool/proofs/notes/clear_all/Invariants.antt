use Rattle.std.proofs.Common.{◌≡◌, ◌<◌, ℕ, [], length, get_or}
use Rattle.frame_pool.proofs.notes.clear_all.Given as goal

abbrev pub invariant-loop-n : goal.invariant-loop-n
invariant-loop-n l = (length l.devices.items ≡ 16) × ((i : ℕ) → i < l.n → get_or l.devices.items i [] ≡ [])
