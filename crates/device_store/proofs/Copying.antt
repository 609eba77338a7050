-- Both sides of a track that is to be copied are up.
use Rattle.std.proofs.Common.{◌≡◌, ℕ, Bool, true, false, Some, refl, ap}
use Rattle.std.specs.Prelude.{◌&&◌, is_some}
use Rattle.ckd_types.specs.declared.paths.Side.{Side}
use Rattle.device_defs.specs.Store.{SideMarks}
use Rattle.duplex_pair.specs.Sides.{copies_in}
use Rattle.duplex_pair.proofs.Copies.{none_copied}
use Rattle.device_store.proofs.Orders.{not_both}

both_true : (x y : Bool) → ((x && y) ≡ false → ⊥) → (x ≡ true) × (y ≡ true)
both_true true true off = (refl, refl)
both_true true false off = absurd (off refl)
both_true false y off = absurd (off refl)

pub copied_up : (a b : SideMarks) (held : Bool) (t : ℕ) (side : Side) → copies_in a b held t ≡ Some side → (a.up ≡ true) × (b.up ≡ true)
copied_up a b held t side is = both_true a.up b.up (λ down. not_both (is_some (copies_in a b held t)) (ap is_some is) (none_copied a b held t down))
