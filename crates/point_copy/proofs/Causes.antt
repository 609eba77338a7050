-- A session over a run tells that a track is lost exactly where it is.
use Rattle.std.proofs.Common.{◌≡◌, ◌∙◌, ℕ, Bool, true, false, Option, Some, None, refl, sym, ap, arith}
use Rattle.std.specs.Prelude.{nat_le, if◌then◌else◌}
use Rattle.std.proofs.lemmas.Bool.{leb-false, lt-leb}
use Rattle.track_image.specs.Image.{Image}
use Rattle.track_table.specs.Table.{entry_at}
use Rattle.device_defs.specs.Peek as peeks
use Rattle.device_defs.specs.Peek.{Peeked}
use Rattle.device_defs.specs.Store.{tracks_of, is_lost}
use Rattle.subsystem_laws.proofs.looking.Leaves.{lost_is_found, lost_is_lost}
use Rattle.subsystem_defs.specs.Looks.{looked}
use Rattle.subsystem_defs.specs.Subsystem.{Mounted, mounted_in}
use Rattle.point_copy.specs.declared.given.Given.{Given}
use Rattle.point_copy.specs.declared.given.Given.TheVariants as gives
use Rattle.point_copy.specs.Copying.{CopyState, IsDue, given_by, next_given, still_given, track_given, tracks_at}

abbrev Tells : Given → ℕ → Type 0
Tells g t = g ≡ gives.Lost t

-- the look found it lost
look_lost : (next t : ℕ) (p : Peeked) → Tells (given_by next p) t → (p ≡ peeks.Lost) × (t ≡ next)
look_lost next t (peeks.Track i) e = absurd (cc)
look_lost next t peeks.Lost e = (refl, cc)
look_lost next t (peeks.Fault side) e = absurd (cc)
look_lost next t (peeks.BadBytes side) e = absurd (cc)

record IsLooked (c : CopyState) (t : ℕ) : Type 0 where
  below : nat_le (tracks_at (mounted_in c.run.mounted c.kept.device)) c.kept.next ≡ false
  home : c.gone ≡ None
  none : entry_at c.kept.images c.kept.next ≡ None
  found : (looked c.run c.kept.device c.kept.next).found ≡ peeks.Lost
  turn : t ≡ c.kept.next

track_lost : (c : CopyState) (t : ℕ) (o : Option Image) → entry_at c.kept.images c.kept.next ≡ o → c.gone ≡ None →
    nat_le (tracks_at (mounted_in c.run.mounted c.kept.device)) c.kept.next ≡ false → Tells (track_given c o).given t → IsLooked c t
track_lost c t (Some i) is home below e = absurd (cc)
track_lost c t None is home below e =
    let so = look_lost c.kept.next t (looked c.run c.kept.device c.kept.next).found e in
    record { below = below; home = home; none = is; found = so.0; turn = so.1 }

still_lost : (c : CopyState) (t : ℕ) (o : Option ℕ) → c.gone ≡ o →
    nat_le (tracks_at (mounted_in c.run.mounted c.kept.device)) c.kept.next ≡ false → Tells (still_given c o).given t → IsLooked c t
still_lost c t (Some of) is below e = absurd (cc)
still_lost c t None is below e = track_lost c t (entry_at c.kept.images c.kept.next) refl is below e

next_lost : (c : CopyState) (t : ℕ) (b : Bool) → nat_le (tracks_at (mounted_in c.run.mounted c.kept.device)) c.kept.next ≡ b →
    Tells (if b then record { given = gives.Finished; behind = c } else still_given c c.gone).given t → IsLooked c t
next_lost c t true is e = absurd (cc)
next_lost c t false is e = still_lost c t c.gone refl is e

due_by : (c : CopyState) (t : ℕ) (o : Option Mounted) → mounted_in c.run.mounted c.kept.device ≡ o → nat_le (tracks_at o) c.kept.next ≡ false →
    IsLooked c t → IsDue c t (λ m. is_lost m.device.store t ≡ true)
due_by c t None there below l = absurd (omega (arith, leb-false 0 c.kept.next below))
due_by c t (Some m) there below l = record {
  mounted = m;
  there = there;
  turn = l.turn;
  below = omega (arith, l.turn, leb-false (tracks_of m.device.store) c.kept.next below);
  home = l.home;
  none = ap (λ (q : ℕ). entry_at c.kept.images q) l.turn ∙ l.none;
  is_so = ap (λ (q : ℕ). is_lost m.device.store q) l.turn ∙ lost_is_lost c.run c.kept.device c.kept.next m there l.found;
}

pub lost_for_cause : (c : CopyState) (t : ℕ) → (next_given c).given ≡ gives.Lost t → IsDue c t (λ m. is_lost m.device.store t ≡ true)
lost_for_cause c t e =
    let l = next_lost c t (nat_le (tracks_at (mounted_in c.run.mounted c.kept.device)) c.kept.next) refl e in
    due_by c t (mounted_in c.run.mounted c.kept.device) refl l.below l

pub lost_is_told : (c : CopyState) (t : ℕ) → IsDue c t (λ m. is_lost m.device.store t ≡ true) → (next_given c).given ≡ gives.Lost t
lost_is_told c t d =
    let below : nat_le (tracks_at (mounted_in c.run.mounted c.kept.device)) c.kept.next ≡ false =
    ap (λ (o : Option Mounted). nat_le (tracks_at o) c.kept.next) d.there
    ∙ lt-leb (tracks_of d.mounted.device.store) c.kept.next (omega (arith, d.below, d.turn)) in
    let none : entry_at c.kept.images c.kept.next ≡ None = ap (λ (q : ℕ). entry_at c.kept.images q) (sym d.turn) ∙ d.none in
    let found : (looked c.run c.kept.device c.kept.next).found ≡ peeks.Lost =
    lost_is_found c.run c.kept.device c.kept.next d.mounted d.there (ap (λ (q : ℕ). is_lost d.mounted.device.store q) (sym d.turn) ∙ d.is_so) in
    rw (below, d.home, none, found) (ap gives.Lost (sym d.turn))
