use Rattle.std.proofs.Common.{◌≡◌, ◌∷◌, ◌-◌, ◌≤◌, length, take, drop}
use Rattle.track_image.specs.Packed.{record_from, unpacked}
use Rattle.track_image.specs.Reading.{map_ok, records_at}
use Rattle.track_image.proofs.Loop.{ReadSo}
use Rattle.track_image.proofs.reading.find_records.Given as goal

abbrev pub invariant-records : goal.invariant-records
invariant-records l = record {
  few : l.count ≤ 110;
  all : length l.places ≡ 110;
  read : ReadSo l.geometry l.bytes (take l.count l.places) (unpacked l.bytes (take l.count l.places)) l.at l.spent
      (map_ok (λ others. record_from (drop 5 l.bytes) ∷ others)
      (records_at (length l.bytes) l.geometry 0 21 (drop 21 l.bytes)));
}

abbrev pub decreases-records : goal.decreases-records
decreases-records l = length l.bytes - l.at
