-- Reads and writes of one side of a pair.
use Rattle.std.proofs.Common.{◌≡◌, ◌∙◌, ℕ, Bool, true, false, List, refl, sym, ap}
use Rattle.std.specs.Prelude.{◌&&◌, ◌||◌, not, Option, Some, None, is_some, option_map}
use Rattle.ckd_types.specs.declared.paths.Side.{Side}
use Rattle.ckd_types.specs.declared.paths.Side.TheVariants as sides
use Rattle.device_outside.specs.declared.volume.Volume.{Ghosts}
use Rattle.device_outside.specs.Interaction.{Interaction, Read, Write}
use Rattle.device_outside.specs.Keeper.{Hearing}
use Rattle.device_outside.specs.Outside.{Outside, PortView, Ran}
use Rattle.device_outside.specs.Volume.{VolumeView, ReadOf, WriteOf}
use Rattle.device_outside.proofs.Runs.{reads_a, reads_b, writes_a, writes_b}
use Rattle.device_defs.specs.Store.{SideMarks, level_at, stale_at}
use Rattle.duplex_pair.specs.declared.pair.DuplexPair.{DuplexPair}
use Rattle.duplex_pair.specs.declared.pair.SideVolumes.{SideVolumes}
use Rattle.duplex_pair.specs.Sides.{HasSides, marks_of, other_of, state_in, volume_of}
use Rattle.duplex_pair.specs.Volumes.{IsThere, view_in}
use Rattle.device_store.specs.Looks.{StoreOf}
use Rattle.device_store.specs.State.{outside_of, with_pair}
use Rattle.device_store.proofs.Moves.{from_equal}

seen : {V : Type 0} (view : V → VolumeView (List ℕ)) (v : Option V) → IsThere v → option_map view v ≡ Some (view_in view v)
seen view None there = absurd cc
seen view (Some v) there = refl

module _ {V K : Type 0} (view : V → VolumeView (List ℕ)) (x y : SideVolumes V) (port : PortView) (keeper : K) where
  lands_a : y.b ≡ x.b → IsThere y.a → outside_of port view y keeper ≡ record (outside_of port view x keeper) { a = Some (view_in view y.a) }
  lands_a other there =
      ap (λ (a : Option (VolumeView (List ℕ))). record (outside_of port view y keeper) { a = a }) (seen view y.a there)
      ∙ ap (λ (b : Option V). record (outside_of port view x keeper) { a = Some (view_in view y.a); b = option_map view b }) other

  lands_b : y.a ≡ x.a → IsThere y.b → outside_of port view y keeper ≡ record (outside_of port view x keeper) { b = Some (view_in view y.b) }
  lands_b other there =
      ap (λ (b : Option (VolumeView (List ℕ))). record (outside_of port view y keeper) { b = b }) (seen view y.b there)
      ∙ ap (λ (a : Option V). record (outside_of port view x keeper) { b = Some (view_in view y.b); a = option_map view a }) other

module _ {V K I S A : Type 0} {had : Bool → Type 0} {hears : Hearing I K} (view : V → VolumeView (List ℕ)) (x y : SideVolumes V)
    {port : PortView} {keeper : K} {t : ℕ} {s : S} {o : A} {z : Outside (List ℕ) K} where
  pub reads_on_a : {got : Option (List ℕ)} {k : Option (List ℕ) → Interaction (List ℕ) I S A} → IsThere x.a → IsThere y.a → y.b ≡ x.b →
      ReadOf (view_in view x.a) t got (view_in view y.a) → Ran had hears (k got) (outside_of port view y keeper) s o z →
      Ran had hears (Read sides.A t k) (outside_of port view x keeper) s o z
  reads_on_a before there other gives ran = reads_a (seen view x.a before) gives (from_equal (λ i. i) refl (lands_a view x y port keeper other there) ran)

  pub reads_on_b : {got : Option (List ℕ)} {k : Option (List ℕ) → Interaction (List ℕ) I S A} → IsThere x.b → IsThere y.b → y.a ≡ x.a →
      ReadOf (view_in view x.b) t got (view_in view y.b) → Ran had hears (k got) (outside_of port view y keeper) s o z →
      Ran had hears (Read sides.B t k) (outside_of port view x keeper) s o z
  reads_on_b before there other gives ran = reads_b (seen view x.b before) gives (from_equal (λ i. i) refl (lands_b view x y port keeper other there) ran)

  pub writes_on_a : {ok : Bool} {r : List ℕ} {k : Bool → Interaction (List ℕ) I S A} → IsThere x.a → IsThere y.a → y.b ≡ x.b →
      WriteOf (view_in view x.a) t r ok (view_in view y.a) → Ran had hears (k ok) (outside_of port view y keeper) s o z →
      Ran had hears (Write sides.A t r k) (outside_of port view x keeper) s o z
  writes_on_a before there other takes ran = writes_a (seen view x.a before) takes (from_equal (λ i. i) refl (lands_a view x y port keeper other there) ran)

  pub writes_on_b : {ok : Bool} {r : List ℕ} {k : Bool → Interaction (List ℕ) I S A} → IsThere x.b → IsThere y.b → y.a ≡ x.a →
      WriteOf (view_in view x.b) t r ok (view_in view y.b) → Ran had hears (k ok) (outside_of port view y keeper) s o z →
      Ran had hears (Write sides.B t r k) (outside_of port view x keeper) s o z
  writes_on_b before there other takes ran = writes_b (seen view x.b before) takes (from_equal (λ i. i) refl (lands_b view x y port keeper other there) ran)

-- a side of a volume that is lent isn't up

module _ {V : Type 0} {G : Ghosts V} (p : DuplexPair V G) where
  here_by : (lent a b : Bool) → (lent ≡ true → (a ≡ false) × (b ≡ false)) → (a || b) ≡ true → lent ≡ false
  here_by false a b away up = refl
  here_by true true b away up = absurd (down (away refl).0) where
    down : true ≡ false → ⊥
    down e = absurd cc
  here_by true false true away up = absurd (down (away refl).1) where
    down : true ≡ false → ⊥
    down e = absurd cc
  here_by true false false away up = absurd cc

  pub some_here : (p.a.up || p.b.up) ≡ true → is_some p.lent ≡ false
  some_here up = here_by (is_some p.lent) p.a.up p.b.up p.away up

  level_by : (up stale : Bool) → (up && not stale) ≡ true → up ≡ true
  level_by true stale e = refl
  level_by false stale e = absurd cc

  first_up : (a b : Bool) → a ≡ true → (a || b) ≡ true
  first_up true b e = refl
  first_up false b e = absurd cc

  later_up : (a b : Bool) → b ≡ true → (a || b) ≡ true
  later_up true b e = refl
  later_up false b e = e

  -- one on which a track is level is here
  pub level_here : (side : Side) (t : ℕ) → level_at (state_in p side) t ≡ true → is_some p.lent ≡ false
  level_here sides.A t e = some_here (first_up p.a.up p.b.up (level_by p.a.up (stale_at (marks_of p.a) t) e))
  level_here sides.B t e = some_here (later_up p.a.up p.b.up (level_by p.b.up (stale_at (marks_of p.b) t) e))

module _ {V : Type 0} {G : Ghosts V} (s : StoreOf) {p q : DuplexPair V G} (same : HasSides p q) where
  pair_by : is_some q.volumes.b ≡ is_some p.volumes.b → with_pair s q ≡ with_pair s p
  pair_by paired =
      ap (λ (x : Bool). record (with_pair s q) { paired = x }) paired
      ∙ ap (λ (x : Option ℕ). record (with_pair s q) { paired = is_some p.volumes.b; lent = x }) same.lent
      ∙ ap (λ (x : Bool). record (with_pair s q) { paired = is_some p.volumes.b; lent = p.lent; held = x }) same.held
      ∙ ap (λ (x : SideMarks). record (with_pair s q) { paired = is_some p.volumes.b; lent = p.lent; held = p.held; a = x }) same.a
      ∙ ap (λ (x : SideMarks). record (with_pair s p) { b = x }) same.b

  -- the sides are as they were behind a call of side A, and of side B
  pub same_by_a : q.volumes.b ≡ p.volumes.b → with_pair s q ≡ with_pair s p
  same_by_a other = pair_by (ap is_some other)

  pub same_by_b : IsThere p.volumes.b → IsThere q.volumes.b → with_pair s q ≡ with_pair s p
  same_by_b before there = pair_by (there ∙ sym before)

  pub same_by : (side : Side) → other_of q.volumes side ≡ other_of p.volumes side → IsThere (volume_of p.volumes side) → IsThere (volume_of q.volumes side) →
      with_pair s q ≡ with_pair s p
  same_by sides.A other before there = same_by_a other
  same_by sides.B other before there = same_by_b before there

pub up_on : {V : Type 0} {G : Ghosts V} (p : DuplexPair V G) (side : Side) → p.a.up ≡ true → p.b.up ≡ true → (state_in p side).up ≡ true
up_on p sides.A a b = a
up_on p sides.B a b = b

module _ {V K I S A : Type 0} {had : Bool → Type 0} {hears : Hearing I K} (view : V → VolumeView (List ℕ)) (x y : SideVolumes V)
    {port : PortView} {keeper : K} {t : ℕ} {s : S} {o : A} {z : Outside (List ℕ) K} where
  pub reads_on : (side : Side) {got : Option (List ℕ)} {k : Option (List ℕ) → Interaction (List ℕ) I S A} → IsThere (volume_of x side)
      → IsThere (volume_of y side) →
      other_of y side ≡ other_of x side → ReadOf (view_in view (volume_of x side)) t got (view_in view (volume_of y side)) →
      Ran had hears (k got) (outside_of port view y keeper) s o z → Ran had hears (Read side t k) (outside_of port view x keeper) s o z
  reads_on sides.A before there other gives ran = reads_on_a view x y before there other gives ran
  reads_on sides.B before there other gives ran = reads_on_b view x y before there other gives ran

  pub writes_on : (side : Side) {ok : Bool} {r : List ℕ} {k : Bool → Interaction (List ℕ) I S A} → IsThere (volume_of x side) → IsThere (volume_of y side) →
      other_of y side ≡ other_of x side → WriteOf (view_in view (volume_of x side)) t r ok (view_in view (volume_of y side)) →
      Ran had hears (k ok) (outside_of port view y keeper) s o z → Ran had hears (Write side t r k) (outside_of port view x keeper) s o z
  writes_on sides.A before there other takes ran = writes_on_a view x y before there other takes ran
  writes_on sides.B before there other takes ran = writes_on_b view x y before there other takes ran
