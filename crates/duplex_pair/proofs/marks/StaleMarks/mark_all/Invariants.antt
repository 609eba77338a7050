use Rattle.std.proofs.Common.{◌≡◌, ◌<◌, ◌≤◌, ℕ, true, false, length}
use Rattle.track_table.specs.Bits.{is_marked}
use Rattle.duplex_pair.proofs.marks.StaleMarks.mark_all.Given as goal

abbrev pub invariant-loop-t : goal.invariant-loop-t
invariant-loop-t l = record {
  tracks : l.self-inside.tracks ≡ l.initial.self-inside.tracks;
  size : length l.self-inside.marks ≡ 65535;
  front : (q : ℕ) → q < l.t → is_marked l.self-inside.marks q ≡ true;
  behind : (q : ℕ) → l.self-inside.tracks ≤ q → is_marked l.self-inside.marks q ≡ false;
}
