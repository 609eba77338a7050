-- The track behind one of the device is one of the device.
use Rattle.std.proofs.Common.{◌≡◌, ◌<◌, ◌≤◌, ◌+◌, ◌%◌, ℕ, Bool, true, false, Option, Some, None, Ok, Err, List, cond, refl, arith, sym, subst}
use Rattle.std.specs.Prelude.{IfSome, nat_eq, nat_le}
use Rattle.std.proofs.lemmas.Bool.Decides.{nat_tests}
use Rattle.ckd_types.specs.declared.parameters.Extent.{Extent}
use Rattle.ckd_types.specs.declared.sense.Sense.{Sense}
use Rattle.ckd_types.specs.declared.geometry.Geometry.{Geometry}
use Rattle.ckd_types.specs.declared.record.Record.{Record}
use Rattle.ckd_rules.specs.declared.stance.Stance.{Stance}
use Rattle.ckd_rules.specs.declared.turned.Turned.{Turned}
use Rattle.ckd_rules.specs.declared.turned.Turned.TheVariants.{Ended, Onward, Edits}
use Rattle.ckd_rules.specs.Facts.{Stands, Stays, Behind, GoesOn, GoesFurther, Turns, LooksOn, TurnsOn}
use Rattle.ckd_rules.specs.Finding.{track_after}

-- a result by a test that is good
goes : (b : Bool) (sense : Sense) (m t : ℕ) → cond b (Err sense) (Ok m) ≡ Ok t → (b ≡ false) × (m ≡ t)
goes true sense m t is = absurd (cc)
goes false sense m t is = (refl, cc)

in_cylinder : (tracks n : ℕ) → tracks % 15 ≡ 0 → n < tracks → nat_eq (n % 15) 14 ≡ false → n + 1 < tracks
in_cylinder tracks n whole on test = grind (arith, nat_tests)

in_extent : (last n : ℕ) → nat_le last n ≡ false → n + 1 ≤ last
in_extent last n test = grind (arith, nat_tests)

pub next_on_device : (tracks : ℕ) (e : Option Extent) (n t : ℕ) → tracks % 15 ≡ 0 → n < tracks →
    IfSome e (λ x. x.last < tracks) → track_after e n ≡ Ok t → (t ≡ n + 1) × (t < tracks)
next_on_device tracks None n t whole on within is =
    let p : (nat_eq (n % 15) 14 ≡ false) × (n + 1 ≡ t) = goes _ _ _ _ is in
    let q : n + 1 < tracks = in_cylinder tracks n whole on p.0 in
    let r : n + 1 ≡ t = p.1 in (omega arith, omega arith)
next_on_device tracks (Some e) n t whole on within is =
    let p : (nat_le e.last n ≡ false) × (n + 1 ≡ t) = goes _ _ _ _ is in
    let q : n + 1 ≤ e.last = in_extent e.last n p.0 in
    let r : n + 1 ≡ t = p.1 in (omega arith, omega (arith, within))

-- a stance that stays on its track is on the device
stays_on : (tracks : ℕ) (old new : Stance) → Stands tracks old → Stays old new → Behind tracks old new
stays_on tracks old new on s = record {
  stands = record {
    track = omega (arith, s.track, on.track);
    extent = subst (λ (x : Option Extent). IfSome x (λ e. e.last < tracks)) (sym s.extent) on.extent;
    left = s.left;
    passes = s.passes;
  };
  commands = s.commands;
}

goes_further : (tracks : ℕ) (old new : Stance) → tracks % 15 ≡ 0 → Stands tracks old → GoesOn old new → GoesFurther tracks old new
goes_further tracks old new whole on g =
    let next = next_on_device tracks old.extent old.track new.track whole on.track on.extent g.next in record {
      next = next.0;
      before = record {
        stands = record {
          track = next.1;
          extent = subst (λ (x : Option Extent). IfSome x (λ e. e.last < tracks)) (sym g.moves.extent) on.extent;
          left = g.moves.left;
          passes = g.moves.passes;
        };
        commands = g.moves.commands;
        moved = g.moves.moved;
      };
    }

-- a turn on one track, on a device of whole cylinders
pub turns_on : (g : Geometry) (tracks : ℕ) (records : List Record) (old new : Stance) (t : Turned) →
    tracks % 15 ≡ 0 → Stands tracks old → Turns g records old new t → TurnsOn g tracks records old new t
turns_on g tracks records old new (Ended e) whole on h = stays_on tracks old new on h
turns_on g tracks records old new Onward whole on h = goes_further tracks old new whole on h
turns_on g tracks records old new (Edits edit e) whole on h = (h.0, stays_on tracks old new on h.1, h.2)

-- a look on one track
pub looks_on : (g : Geometry) (tracks : ℕ) (records : List Record) (old new : Stance) (t : Turned) →
    tracks % 15 ≡ 0 → Stands tracks old → LooksOn old new t → TurnsOn g tracks records old new t
looks_on g tracks records old new (Ended e) whole on h = stays_on tracks old new on h
looks_on g tracks records old new Onward whole on h = goes_further tracks old new whole on h
looks_on g tracks records old new (Edits edit e) whole on h = absurd h
