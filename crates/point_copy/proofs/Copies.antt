-- What a session over a run still has to give stays old, behind events, orders and looks.
use Rattle.std.proofs.Common.{◌≡◌, ◌∙◌, ◌≤◌, ◌<◌, ◌*◌, ℕ, Bool, true, false, List, [], length, Option, Some, None, refl, sym, ap, subst, arith}
use Rattle.std.specs.Prelude.{nat_le, if◌then◌else◌}
use Rattle.std.proofs.lemmas.Bool.{leb-false}
use Rattle.std.proofs.lemmas.List.{length-set}
use Rattle.ckd_types.specs.declared.geometry.Geometry.{Geometry}
use Rattle.ckd_types.specs.declared.record.Track.{Track}
use Rattle.ckd_types.specs.Volume.{track_in}
use Rattle.track_image.specs.Image.{Image}
use Rattle.track_table.specs.Table.{entry_at}
use Rattle.device_outside.specs.Keeper.{Message}
use Rattle.device_defs.specs.Peek as peeks
use Rattle.device_defs.specs.Peek.{Peeked}
use Rattle.device_defs.specs.Store.{tracks_of, plain_at}
use Rattle.subsystem_defs.specs.Happening.{happens, replaced, unpaired}
use Rattle.subsystem_defs.specs.Looks.{Looked, looked}
use Rattle.subsystem_defs.specs.Subsystem.{Mounted, Subsystem, mounted_in, unfailing}
use Rattle.subsystem_laws.specs.Looking.{IsPlainly, StaysOwn}
use Rattle.subsystem_laws.proofs.looking.Leaves.{look_finds_plain, look_leaves_own}
use Rattle.keeper_laws.specs.Messages.{event_messages, first_named}
use Rattle.keeper_laws.specs.Quiet.{IsQuiet, StaysQuiet, StaysThere}
use Rattle.keeper_laws.proofs.Quiet.{quiet_look, quiet_replaced, quiet_unpaired, told_event, untold_event}
use Rattle.keeper_laws.proofs.There.{there_event, there_replaced, there_unpaired}
use Rattle.line_drive.specs.Driven.{Occurred, Comes, Replaces, Unpairs}
use Rattle.point_copy.specs.declared.given.Given.TheVariants as gives
use Rattle.point_copy.specs.Keeping.{OldView, with_image}
use Rattle.point_copy.specs.Copying.{
  CopyState,
  Giving,
  IsOldGiven,
  IsOldTrack,
  KeepsOld,
  copy_did,
  first_lent,
  given_by,
  lent_at,
  look_given,
  next_given,
  passed,
  passed_by,
  plain_images,
  still_given,
  track_given,
  tracks_at,
  went_on,
}
use Rattle.point_copy.proofs.Keeping.{all_alike, kept_at, kept_elsewhere, or_else}

some_same : {X : Type 0} {x y : X} → Some x ≡ Some y → x ≡ y
some_same e = cc

-- After an event

none_first : (a b : Option ℕ) → first_lent a b ≡ None → (a ≡ None) × (b ≡ None)
none_first None b e = (refl, e)
none_first (Some of) b e = absurd (cc)

-- the track of the plain volume is what it was
plain_same : (m k : Mounted) (t : ℕ) (s : Subsystem) (n : ℕ) → mounted_in s.mounted n ≡ Some k → (q : StaysQuiet m t s n) →
    IsQuiet k t × (plain_images k t ≡ plain_images m t)
plain_same m k t s n there q =
    let same : q.mounted ≡ k = some_same (sym q.there ∙ there) in
    subst (λ (z : Mounted). IsQuiet z t × (plain_images z t ≡ plain_images m t)) same (
      q.quiet,
      ap (λ (g : Geometry). record { geometry = g; track = track_in q.mounted.device.store.plain t }) q.geometry
          ∙ ap (λ (x : Track). record { geometry = m.device.store.geometry; track = x }) q.plain,
    )

-- a quiet track of which something was told has its image kept, and another one is quiet still
pub record Passes (m : Mounted) (d : ℕ) (ms : List (Message Image)) (s : Subsystem) : Type 0 where
  pub untold : (t : ℕ) → m.device.store.lent ≡ None → IsQuiet m t → first_named d t ms ≡ None → StaysQuiet m t s d
  pub told : (t : ℕ) (i : Image) → IsQuiet m t → first_named d t ms ≡ Some i → i ≡ plain_at m.device.store t

track_on : (m k : Mounted) (d : ℕ) (ms : List (Message Image)) (s : Subsystem) (old : ℕ → Image) (t : ℕ) (was named : Option Image) →
    Passes m d ms s → mounted_in s.mounted d ≡ Some k → m.device.store.lent ≡ None → first_named d t ms ≡ named → IsOldTrack m old t was →
    IsOldTrack k old t (or_else was named)
track_on m k d ms s old t (Some i) named p there home is so = so
track_on m k d ms s old t None (Some i) p there home is so = p.told t i so.0 is ∙ so.1
track_on m k d ms s old t None None p there home is so =
    let now = plain_same m k t s d there (p.untold t home so.0 is) in (now.0, now.1 ∙ so.1)

went_keeps : (c : CopyState) (ms : List (Message Image)) (run : Subsystem) (old : ℕ → Image) (keeps : KeepsOld c old) →
    StaysThere keeps.mounted run c.kept.device → Passes keeps.mounted c.kept.device ms run → KeepsOld (went_on c ms run) old
went_keeps c ms run old keeps on p =
    let alike = all_alike c.kept ms in
    let m = keeps.mounted in
    let k = on.mounted in
    record {
      mounted = k;
      there = ap (λ (d : ℕ). mounted_in run.mounted d) alike.device ∙ on.there;
      size = alike.size ∙ keeps.size ∙ ap (λ (n : ℕ). n * 15) (sym on.cylinders);
      tracks = λ stays.
          let both = none_first c.gone (lent_at (mounted_in run.mounted c.kept.device)) stays in
          let was = keeps.tracks both.0 in
          record {
            home = sym (ap lent_at on.there) ∙ both.1;
            each = λ t le lt.
                let from : c.kept.next ≤ t = omega (arith, le, alike.next) in
                let inside : t < length c.kept.images = omega (arith, lt, alike.size) in
                subst (λ (o : Option Image). IsOldTrack k old t o) (sym (kept_at c.kept ms t from inside))
                (track_on m k c.kept.device ms run old t (entry_at c.kept.images t) (first_named c.kept.device t ms) p on.there was.home refl
                (was.each t from inside));
          };
    }

pub did_keeps : (c : CopyState) (o : Occurred) (old : ℕ → Image) → KeepsOld c old → KeepsOld (copy_did c o) old
did_keeps c (Comes e) old keeps =
    let d = c.kept.device in
    let m = keeps.mounted in
    went_keeps c (event_messages c.run e) (happens c.run e).behind old keeps (there_event d m c.run keeps.there e) (record {
      untold = λ t home quiet none. untold_event d t m c.run keeps.there quiet e none;
      told = λ t i quiet is. told_event d t m c.run keeps.there quiet e i is;
    })
did_keeps c (Replaces n side) old keeps =
    let d = c.kept.device in
    let m = keeps.mounted in
    went_keeps c [] (replaced c.run n side unfailing).behind old keeps (there_replaced d m c.run keeps.there n side unfailing) (record {
      untold = λ t home quiet none. quiet_replaced d t m c.run keeps.there quiet n side unfailing;
      told = λ t i quiet is. absurd (cc);
    })
did_keeps c (Unpairs a) old keeps =
    let d = c.kept.device in
    let m = keeps.mounted in
    went_keeps c [] (unpaired c.run a unfailing).behind old keeps (there_unpaired d m c.run keeps.there a unfailing) (record {
      untold = λ t home quiet none. quiet_unpaired d t m c.run keeps.there quiet home a unfailing;
      told = λ t i quiet is. absurd (cc);
    })

-- After a look

pub passed_keeps : (c : CopyState) (old : ℕ → Image) → KeepsOld c old → KeepsOld (record c { kept = passed c.kept }) old
passed_keeps c old keeps = record {
  mounted = keeps.mounted;
  there = keeps.there;
  size = keeps.size;
  tracks = λ stays. record { home = (keeps.tracks stays).home; each = λ t le lt. (keeps.tracks stays).each t (omega (arith, le)) lt };
}

pub taken_keeps : (c : CopyState) (old : ℕ → Image) → KeepsOld c old →
    KeepsOld (record c { kept = passed (with_image c.kept c.kept.next None) }) old
taken_keeps c old keeps = record {
  mounted = keeps.mounted;
  there = keeps.there;
  size = length-set c.kept.images c.kept.next None ∙ keeps.size;
  tracks = λ stays. record {
    home = (keeps.tracks stays).home;
    each = λ t le lt.
        let after : c.kept.next < t = omega (arith, le) in
        subst (λ (o : Option Image). IsOldTrack keeps.mounted old t o) (sym (kept_elsewhere c.kept c.kept.next t None after))
        ((keeps.tracks stays).each t (omega (arith, after)) (omega (arith, lt, length-set c.kept.images c.kept.next None)));
  };
}

module _ (c : CopyState) (old : ℕ → Image) (keeps : KeepsOld c old) (q : ℕ) where
  abbrev l : Looked
  l = looked c.run c.kept.device q

  looked_keeps : KeepsOld (record c { run = l.behind }) old
  looked_keeps =
      let m = keeps.mounted in
      let stays : StaysOwn c.run c.kept.device q m = look_leaves_own c.run c.kept.device q m keeps.there in
      let k = stays.mounted in
      record {
        mounted = k;
        there = stays.there;
        size = keeps.size ∙ ap (λ (n : ℕ). n * 15) (sym stays.own.cylinders);
        tracks = λ gone.
            let was = keeps.tracks gone in
            record {
              home = stays.own.lent ∙ was.home;
              each = λ t le lt. on_by k stays.there t (entry_at c.kept.images t) (was.each t le lt);
            };
      }
    where
      on_by : (k : Mounted) → mounted_in l.behind.mounted c.kept.device ≡ Some k → (t : ℕ) (o : Option Image) → IsOldTrack keeps.mounted old t o →
          IsOldTrack k old t o
      on_by k there t (Some i) so = so
      on_by k there t None so =
          let now = plain_same keeps.mounted k t l.behind c.kept.device there
          (quiet_look c.kept.device t keeps.mounted c.run keeps.there so.0 c.kept.device q) in
          (now.0, now.1 ∙ so.1)

  behind_by : (p : Peeked) → KeepsOld (record c { run = l.behind; kept = passed_by p c.kept }) old
  behind_by (peeks.Track i) = passed_keeps (record c { run = l.behind }) old looked_keeps
  behind_by peeks.Lost = passed_keeps (record c { run = l.behind }) old looked_keeps
  behind_by (peeks.Fault side) = looked_keeps
  behind_by (peeks.BadBytes side) = looked_keeps

pub look_keeps : (c : CopyState) (old : ℕ → Image) → KeepsOld c old → KeepsOld (look_given c (looked c.run c.kept.device c.kept.next)).behind old
look_keeps c old keeps = behind_by c old keeps c.kept.next (looked c.run c.kept.device c.kept.next).found

-- What is given

old_by : (k : OldView) (old : ℕ → Image) (m : Mounted) (p : Peeked) → IsPlainly m k.next p → plain_images m k.next ≡ old k.next →
    IsOldGiven k old (given_by k.next p)
old_by k old m (peeks.Track i) is same = (refl, is ∙ same)
old_by k old m peeks.Lost is same = refl
old_by k old m (peeks.Fault side) is same = tt
old_by k old m (peeks.BadBytes side) is same = tt

-- the next track, of which nothing is kept, is quiet still
pub next_quiet : (c : CopyState) (old : ℕ → Image) (keeps : KeepsOld c old) → c.gone ≡ None → c.kept.next < tracks_of keeps.mounted.device.store →
    entry_at c.kept.images c.kept.next ≡ None → IsQuiet keeps.mounted c.kept.next × (plain_images keeps.mounted c.kept.next ≡ old c.kept.next)
next_quiet c old keeps home lt none =
    subst (λ (o : Option Image). IsOldTrack keeps.mounted old c.kept.next o) none
    ((keeps.tracks home).each c.kept.next (omega arith) (omega (arith, lt, keeps.size)))

pub look_is_old : (c : CopyState) (old : ℕ → Image) (keeps : KeepsOld c old) → c.gone ≡ None → c.kept.next < tracks_of keeps.mounted.device.store →
    entry_at c.kept.images c.kept.next ≡ None → IsOldGiven c.kept old (look_given c (looked c.run c.kept.device c.kept.next)).given
look_is_old c old keeps home lt none =
    let so = next_quiet c old keeps home lt none in
    old_by c.kept old keeps.mounted (looked c.run c.kept.device c.kept.next).found
    (look_finds_plain c.run c.kept.device c.kept.next keeps.mounted keeps.there so.0.half) so.1

pub kept_is_old : (c : CopyState) (old : ℕ → Image) (keeps : KeepsOld c old) (i : Image) → c.gone ≡ None →
    c.kept.next < tracks_of keeps.mounted.device.store → entry_at c.kept.images c.kept.next ≡ Some i → i ≡ old c.kept.next
kept_is_old c old keeps i home lt some =
    subst (λ (o : Option Image). IsOldTrack keeps.mounted old c.kept.next o) some
    ((keeps.tracks home).each c.kept.next (omega arith) (omega (arith, lt, keeps.size)))

-- A call of next

pub record GivesOld (c : CopyState) (old : ℕ → Image) (n : Giving) : Type 0 where
  pub keeps : KeepsOld n.behind old
  pub track : IsOldGiven c.kept old n.given

track_by : (c : CopyState) (old : ℕ → Image) (keeps : KeepsOld c old) (o : Option Image) → c.gone ≡ None →
    c.kept.next < tracks_of keeps.mounted.device.store → entry_at c.kept.images c.kept.next ≡ o → GivesOld c old (track_given c o)
track_by c old keeps (Some i) home lt is = record { keeps = taken_keeps c old keeps; track = (refl, kept_is_old c old keeps i home lt is) }
track_by c old keeps None home lt is = record { keeps = look_keeps c old keeps; track = look_is_old c old keeps home lt is }

still_by : (c : CopyState) (old : ℕ → Image) (keeps : KeepsOld c old) (o : Option ℕ) → c.gone ≡ o →
    c.kept.next < tracks_of keeps.mounted.device.store → GivesOld c old (still_given c o)
still_by c old keeps (Some of) is lt = record { keeps = keeps; track = tt }
still_by c old keeps None is lt = track_by c old keeps (entry_at c.kept.images c.kept.next) is lt refl

next_by : (c : CopyState) (old : ℕ → Image) (keeps : KeepsOld c old) (over : Bool) →
    nat_le (tracks_of keeps.mounted.device.store) c.kept.next ≡ over →
    GivesOld c old (if over then record { given = gives.Finished; behind = c } else still_given c c.gone)
next_by c old keeps true is = record { keeps = keeps; track = tt }
next_by c old keeps false is = still_by c old keeps c.gone refl (leb-false (tracks_of keeps.mounted.device.store) c.kept.next is)

pub next_is_old : (c : CopyState) (old : ℕ → Image) → KeepsOld c old → GivesOld c old (next_given c)
next_is_old c old keeps =
    next_by c old keeps (nat_le (tracks_at (mounted_in c.run.mounted c.kept.device)) c.kept.next)
    (ap (λ (o : Option Mounted). nat_le (tracks_at o) c.kept.next) (sym keeps.there))
