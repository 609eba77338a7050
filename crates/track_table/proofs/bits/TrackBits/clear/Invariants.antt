use Rattle.std.proofs.Common.{◌≡◌, ℕ, ◌<◌, length, get_or}
use Rattle.track_table.proofs.bits.TrackBits.clear.Given as goal

abbrev pub invariant-loop-k : goal.invariant-loop-k
invariant-loop-k l = record {
  whole : length l.self-inside.words.items ≡ 1024;
  zeros : (k : ℕ) → k < l.k → get_or l.self-inside.words.items k 0 ≡ 0;
}
