use Rattle.std.proofs.Common.{◌<◌, ℕ, []}
use Rattle.std.specs.Prelude.{slice_index_or}
use Rattle.deck_top.proofs.bytes.tracks_hold_bytes.Given as goal

-- so far
abbrev pub invariant-loop-t : goal.invariant-loop-t
invariant-loop-t l = (t i : ℕ) → t < l.t → slice_index_or (slice_index_or l.volume.tracks t []) i 0 < 256
