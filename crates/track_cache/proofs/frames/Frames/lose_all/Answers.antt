use Rattle.std.proofs.Common.{false, length, ap, sym, ◌∙◌}
use Rattle.std.specs.Prelude.{None}
use Rattle.track_table.proofs.Places.{empty_places}
use Rattle.track_cache.specs.Frames.{is_modified_frame}
use Rattle.track_cache.proofs.frames.Frames.lose_all.Goals as goal

pub invariant_of-self : goal.invariant_of-self
invariant_of-self c = λ t.
    rw (c.clear-2.ensures, c.clear.ensures) (empty_places 65535 t false ∙ sym (ap is_modified_frame (empty_places (length c.self.inside.table) t None)))
