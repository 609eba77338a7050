-- An order of a device is begun on it.
use Rattle.std.proofs.Common.{◌≡◌, ◌<◌, ◌≤◌, ◌+◌, ◌*◌, ◌%◌, ℕ, Bool, true, false, Option, Some, None, Ok, Err, Result, List, cond, refl, arith, sym, ap, subst}
use Rattle.std.specs.Prelude.{IfSome, IsSome, if◌then◌else◌}
use Rattle.std.proofs.lemmas.Bool.Decides.{nat_tests}
use Rattle.ckd_types.specs.declared.channel.Ccw.{Ccw}
use Rattle.ckd_types.specs.declared.command.Read.{Read}
use Rattle.ckd_types.specs.declared.command.ReadArea.{ReadArea}
use Rattle.ckd_types.specs.declared.command.ReadArea.TheVariants as reads
use Rattle.ckd_types.specs.declared.command.Write.{Write}
use Rattle.ckd_types.specs.declared.command.Write.TheVariants as writes
use Rattle.ckd_types.specs.declared.parameters.Domain.{Domain}
use Rattle.ckd_types.specs.declared.parameters.Operation.{Operation}
use Rattle.ckd_types.specs.declared.parameters.Operation.TheVariants as operations
use Rattle.ckd_types.specs.declared.sense.Sense.{Sense}
use Rattle.ckd_types.specs.Parameters.{is_bad_count, is_orient}
use Rattle.ckd_types.specs.declared.geometry.Geometry.{Geometry}
use Rattle.ckd_types.specs.declared.record.Record.{Record}
use Rattle.ckd_rules.specs.declared.ending.Ending.{Ending}
use Rattle.ckd_rules.specs.declared.opening.Opening.{Opening}
use Rattle.ckd_rules.specs.declared.turned.Turned.TheVariants.{Ended}
use Rattle.ckd_rules.specs.declared.order.Look.{Look}
use Rattle.ckd_rules.specs.declared.order.Look.TheVariants.{Finds, Searches, Reads, Writes}
use Rattle.ckd_rules.specs.declared.order.CommandOrder.{CommandOrder}
use Rattle.ckd_rules.specs.declared.order.CommandOrder.TheVariants.{Nothing, Seeks, Recalibrates, SetsSector, SetsMask, Defines, Locates, Looks, Asks}
use Rattle.ckd_rules.specs.declared.stance.Place.{Place}
use Rattle.ckd_rules.specs.declared.stance.Place.TheVariants.{Index, Home, Count, Key, Body}
use Rattle.ckd_rules.specs.declared.stance.Stance.{Stance}
use Rattle.ckd_rules.specs.Control.{unseen_place, located}
use Rattle.ckd_rules.specs.Facts.{HasRoom, Stands, Behind, Before, IsSought, IsLook, IsOrder, Opens, TurnsOn}
use Rattle.ckd_rules.specs.Finding.{track_after}
use Rattle.ckd_rules.specs.Opening.{Opened, moved, read_from, look_from, locating, begun}
use Rattle.ckd_rules.proofs.NextTrack.{next_on_device}

-- a domain that is opened has commands
counts : (operation : Operation) (n : ℕ) (d : Domain) → is_bad_count operation n ≡ false → IsSome (if is_orient operation then None else Some d) → 0 < n
counts operations.Orient n d good some = grind (arith, nat_tests)
counts operations.WriteData n d good some = grind (arith, nat_tests)
counts operations.Format n d good some = grind (arith, nat_tests)
counts operations.ReadData n d good some = grind (arith, nat_tests)
counts operations.ReadTracks n d good some = grind (arith, nat_tests)
counts operations.Read n d good some = grind (arith, nat_tests)

module _ (tracks : ℕ) (s : Stance) (c : Ccw) (on : Stands tracks s) where
  stays : Before tracks s s
  stays = record { stands = on; commands = refl; moved = refl }

  moves : (look : Look) (r : Result ℕ Sense) → tracks % 15 ≡ 0 → IsLook tracks look →
      track_after s.extent s.track ≡ r → Opens tracks s (moved s c look r).stance (moved s c look r).opening
  moves look (Ok t) whole good is =
      let next : t < tracks = (next_on_device tracks s.extent s.track t whole on.track on.extent is).1 in
      (record { stands = record { track = next; extent = on.extent; left = on.left; passes = on.passes }; commands = refl; moved = refl }, good)
  moves look (Err sense) whole good is = record {
    stands = record {
      track = on.track;
      extent = on.extent;
      left =
          on.left;
      passes = on.passes;
    };
    commands = refl;
  }

  reads_on : (r : Read) (area : ReadArea) (place : Place) → tracks % 15 ≡ 0 →
      Opens tracks s (read_from s c r area place).stance (read_from s c r area place).opening
  reads_on r reads.Home place whole = (stays, tt)
  reads_on r reads.Zero place whole = (stays, tt)
  reads_on r reads.Count place whole = (stays, tt)
  reads_on r reads.Data place whole = (stays, tt)
  reads_on r reads.KeyData place whole = (stays, tt)
  reads_on r reads.CountKeyData place whole = (stays, tt)
  reads_on r reads.Multiple place whole = (stays, tt)
  reads_on r reads.Track Index whole = (stays, tt)
  reads_on r reads.Track Home whole = moves (Reads r) _ whole tt refl
  reads_on r reads.Track (Count i) whole = moves (Reads r) _ whole tt refl
  reads_on r reads.Track (Key i) whole = moves (Reads r) _ whole tt refl
  reads_on r reads.Track (Body i) whole = moves (Reads r) _ whole tt refl

  looks : (look : Look) → tracks % 15 ≡ 0 → IsLook tracks look → Opens tracks s (look_from s c look).stance (look_from s c look).opening
  looks (Finds d) whole good = (stays, good)
  looks (Searches x) whole good = (stays, tt)
  looks (Reads r) whole good = reads_on r r.area s.place whole
  looks (Writes writes.Data) whole good = (stays, tt)
  looks (Writes writes.UpdateData) whole good = (stays, tt)
  looks (Writes writes.KeyData) whole good = (stays, tt)
  looks (Writes writes.UpdateKeyData) whole good = (stays, tt)
  looks (Writes writes.CountKeyData) whole good = (stays, tt)
  looks (Writes writes.NextTrack) whole good = moves (Writes writes.NextTrack) _ whole tt refl
  looks (Writes writes.Zero) whole good = (stays, tt)

  locates : (d : Domain) (place : Option Place) → IsSought tracks d → Opens tracks s (locating s c d place).stance (locating s c d place).opening
  locates d (Some place) good =
      record {
        stands = record {
          track = good.seek;
          extent = on.extent;
          left =
              counts d.operation d.count d good.count;
          passes = omega arith;
        };
        commands = refl;
      }
  locates d None good = (
    record {
      stands = record {
        track = good.seek;
        extent = on.extent;
        left = on.left;
        passes =
            on.passes;
      };
      commands = refl;
      moved = refl;
    },
    good,
  )

  begins : (order : CommandOrder) → 0 < tracks → tracks % 15 ≡ 0 → IsOrder tracks order → Opens tracks s (begun s c order).stance (begun s c order).opening
  begins Nothing some whole good = record { stands = record { track = on.track; extent = on.extent; left = on.left; passes = omega arith }; commands = refl }
  begins (Seeks t) some whole good = record { stands = record { track = good; extent = on.extent; left = on.left; passes = omega arith }; commands = refl }
  begins Recalibrates some whole good = record { stands = record { track = some; extent = on.extent; left = on.left; passes = omega arith }; commands = refl }
  begins SetsSector some whole good = record { stands = record { track = on.track; extent = on.extent; left = on.left; passes = omega arith }; commands = refl }
  begins (SetsMask mask) some whole good = record {
    stands = record {
      track = on.track;
      extent = on.extent;
      left =
          on.left;
      passes = omega arith;
    };
    commands = refl;
  }
  begins (Defines e) some whole good = record { stands = record { track = on.track; extent = good; left = on.left; passes = omega arith }; commands = refl }
  begins (Locates d) some whole good = locates d (unseen_place d.orientation) good
  begins (Looks look) some whole good = looks look whole good
  begins (Asks act) some whole good = stays

pub opens : (tracks : ℕ) (s : Stance) (c : Ccw) (order : CommandOrder) (new : Stance) (how : Opening) → Stands tracks s →
    0 < tracks → tracks % 15 ≡ 0 → IsOrder tracks order
    → new ≡ (begun s c order).stance → how ≡ (begun s c order).opening → Opens tracks s new how
opens tracks s c order new how on some whole good new_is how_is =
    subst (λ (z : Stance). Opens tracks s z how) (sym new_is) (subst
    (λ (h : Opening). Opens tracks s (begun s c order).stance h) (sym how_is)
    (begins tracks s c on order some whole good))

-- a locate record that looked for its record is on the device
pub located_on : (g : Geometry) (tracks : ℕ) (records : List Record) (old new : Stance) (c : Ccw) (d : Domain)
    (found : Option ℕ) (e : Ending) → Stands tracks old → IsSought tracks d
    → new ≡ (located old c d found).stance → TurnsOn g tracks records old new (Ended e)
located_on g tracks records old new c d (Some i) e on good is =
    subst (λ (z : Stance). Behind tracks old z) (sym is) (record {
      stands =
          record {
            track = good.seek;
            extent = on.extent;
            left = counts d.operation d.count d good.count;
            passes =
                omega arith;
          };
      commands = refl;
    })
located_on g tracks records old new c d None e on good is =
    subst (λ (z : Stance). Behind tracks old z) (sym is) (record {
      stands =
          record { track = on.track; extent = on.extent; left = on.left; passes = on.passes };
      commands = refl;
    })
