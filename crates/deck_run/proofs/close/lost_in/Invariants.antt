use Rattle.std.proofs.Common.{◌≡◌, ◌++◌, ◌*◌, ◌-◌, ℕ, false}
use Rattle.std.specs.Prelude.{slice_index_or}
use Rattle.std.specs.List.{range_with_len}
use Rattle.subsystem_defs.specs.Closing.{where_true}
use Rattle.deck_run.specs.Ending.{lost_in}
use Rattle.deck_run.proofs.close.lost_in.Given as goal

abbrev pub invariant-loop-t : goal.invariant-loop-t
invariant-loop-t g l =
    (lost_in l.device ≡ l.lost.items ++ where_true (λ (t : ℕ). slice_index_or l.device.store.lost t false) (range_with_len l.t (l.tracks - l.t)))
    × (l.tracks ≡ l.device.store.cylinders * 15)
