-- A store over another pair of sides, as the orders leave them.
use Rattle.std.proofs.Common.{◌≡◌, ◌∙◌, ℕ, Bool, true, false, Option, Some, length, refl, ap, sym}
use Rattle.std.specs.Prelude.{is_some}
use Rattle.std.proofs.lemmas.List.{length-replicate}
use Rattle.ckd_types.specs.declared.paths.Side.{Side}
use Rattle.ckd_types.specs.declared.paths.Side.TheVariants as sides
use Rattle.device_outside.specs.declared.volume.Volume.{Ghosts}
use Rattle.device_defs.specs.Store.{SideMarks, new_side, side_of, with_side}
use Rattle.duplex_pair.specs.declared.pair.DuplexPair.{DuplexPair}
use Rattle.duplex_pair.specs.Sides.{marks_of, other_of, other_state, state_in, volume_of}
use Rattle.device_store.specs.declared.store.DeviceStore.{DeviceStore}
use Rattle.device_store.specs.Looks.{StoreOf}
use Rattle.device_store.specs.State.{state_of, with_pair}

pub not_both : (b : Bool) → b ≡ true → b ≡ false → ⊥
not_both true is none = absurd cc
not_both false is none = absurd cc

module _ {V : Type 0} {G : Ghosts V} (s : StoreOf) (q : DuplexPair V G) {there held : Bool} {lent : Option ℕ} {a b : SideMarks} where
  pub pair_is : is_some q.volumes.b ≡ there → q.lent ≡ lent → q.held ≡ held → marks_of q.a ≡ a → marks_of q.b ≡ b →
      with_pair s q ≡ record s { paired = there; lent = lent; held = held; a = a; b = b }
  pair_is is_there is_lent is_held is_a is_b =
      ap (λ (x : Bool). record (with_pair s q) { paired = x }) is_there
      ∙ ap (λ (x : Option ℕ). record (with_pair s q) { paired = there; lent = x }) is_lent
      ∙ ap (λ (x : Bool). record (with_pair s q) { paired = there; lent = lent; held = x }) is_held
      ∙ ap (λ (x : SideMarks). record (with_pair s q) { paired = there; lent = lent; held = held; a = x }) is_a
      ∙ ap (λ (x : SideMarks). record s { paired = there; lent = lent; held = held; a = a; b = x }) is_b

module _ {V : Type 0} {G : Ghosts V} (x : DeviceStore V G) where
  pub side_is : (side : Side) → state_in x.pair side ≡ side_of (state_of x) side
  side_is sides.A = refl
  side_is sides.B = refl

  pub replaced : (q : DuplexPair V G) (side : Side) (m : SideMarks) (v : V) → volume_of q.volumes side ≡ Some v →
      other_of q.volumes side ≡ other_of x.pair.volumes side → is_some (volume_of x.pair.volumes side) ≡ true →
      (q.held ≡ x.pair.held) × (q.lent ≡ x.pair.lent) → state_in q side ≡ m → other_state q side ≡ other_state x.pair side →
      with_pair (state_of x) q ≡ with_side (state_of x) side m
  replaced q sides.A m v now others there rest is other = pair_is (state_of x) q (ap is_some others) rest.1 rest.0 is other
  replaced q sides.B m v now others there rest is other = pair_is (state_of x) q (ap is_some now ∙ sym there) rest.1 rest.0 other is

-- the sides are as long as they were
pub sized : {V : Type 0} {G : Ghosts V} (p q : DuplexPair V G) (side : Side) (stale : Bool) (n : ℕ) → length p.a.stale ≡ n →
    state_in q side ≡ new_side (length p.a.stale) stale → other_state q side ≡ other_state p side → length q.a.stale ≡ n
sized p q sides.A stale n is marks other = ap (λ (m : SideMarks). length m.stale) marks ∙ length-replicate (length p.a.stale) stale ∙ is
sized p q sides.B stale n is marks other = ap (λ (m : SideMarks). length m.stale) other ∙ is
