-- Calls of a session, beside those over a run.
use Rattle.std.proofs.Common.{
  ◌≡◌,
  ◌∙◌,
  ◌≤◌,
  ◌<◌,
  ◌*◌,
  ℕ,
  Bool,
  true,
  false,
  List,
  Option,
  Some,
  None,
  is_some,
  Result,
  Ok,
  Err,
  refl,
  sym,
  ap,
  subst,
  arith,
}
use Rattle.std.specs.Prelude.{IfOk, IfSome, OnOk, nat_le}
use Rattle.std.proofs.lemmas.Bool.{le-leb, lt-leb}
use Rattle.track_image.specs.Image.{Image}
use Rattle.track_table.specs.Table.{entry_at}
use Rattle.device_outside.specs.declared.volume.Volume.{Ghosts}
use Rattle.device_outside.specs.Hears.{HeardAll}
use Rattle.device_outside.specs.Keeper.{Heard}
use Rattle.device_core.specs.declared.device.Device.{Device}
use Rattle.device_defs.specs.Peek as peeks
use Rattle.device_defs.specs.Peek.{Peeked}
use Rattle.device_defs.specs.Store.{tracks_of}
use Rattle.subsystem_laws.specs.Looking.{is_written_at}
use Rattle.subsystem_core.specs.declared.subsystem.Subsystem.{Subsystem}
use Rattle.subsystem_core.specs.Devices.{device_at}
use Rattle.subsystem_core.specs.Keepers.{TakesAll}
use Rattle.keeper_laws.specs.Messages.{event_messages}
use Rattle.subsystem_defs.specs.declared.event.Event.{Event}
use Rattle.subsystem_defs.specs.Happening.{happens}
use Rattle.subsystem_defs.specs.Looks.{Looked, looked}
use Rattle.subsystem_defs.specs.Subsystem as runs
use Rattle.subsystem_defs.specs.Subsystem.{Mounted, mounted_in}
use Rattle.deck_run.specs.Owning.{AreOwn}
use Rattle.deck_run.specs.Standing.{StandsAs}
use Rattle.deck_run.proofs.Events.{has_one}
use Rattle.track_looks.specs.Looking.{IsAllowed}
use Rattle.line_drive.specs.Driven.{Occurred, Comes, Replaces, Unpairs}
use Rattle.point_copy.specs.declared.given.Given.{Given}
use Rattle.point_copy.specs.declared.given.Given.TheVariants as gives
use Rattle.point_copy.specs.declared.session.Session.{Session}
use Rattle.point_copy.specs.Keeping.{OldView, heard_all, hears_old, takes_all, with_image}
use Rattle.point_copy.specs.Copying.{
  CopyState,
  Giving,
  IsOldGiven,
  copy_did,
  first_lent,
  given_by,
  lent_at,
  look_given,
  next_given,
  passed,
  passed_by,
  still_given,
  track_given,
  tracks_at,
}
use Rattle.point_copy.specs.Sessions.{GivesAs, IsCopy, Notes}
use Rattle.point_copy.proofs.Begun.{mounted_for}
use Rattle.point_copy.proofs.Copies.{did_keeps, look_is_old, look_keeps, next_is_old, next_quiet}
use Rattle.point_copy.proofs.Images.{did_alike, given_if}
use Rattle.point_copy.proofs.Keeping.{all_heard, nothing_there}

some_same : {X : Type 0} {x y : X} → Some x ≡ Some y → x ≡ y
some_same e = cc

did_gone : (c : CopyState) (o : Occurred) → (copy_did c o).gone ≡ first_lent c.gone (lent_at (mounted_in (copy_did c o).run.mounted c.kept.device))
did_gone c (Comes e) = refl
did_gone c (Replaces d side) = refl
did_gone c (Unpairs a) = refl

passed_device : (p : Peeked) (k : OldView) → (passed_by p k).device ≡ k.device
passed_device (peeks.Track i) k = refl
passed_device peeks.Lost k = refl
passed_device (peeks.Fault side) k = refl
passed_device (peeks.BadBytes side) k = refl

first_some : (gone lent : Option ℕ) → is_some gone ≡ true → gone ≡ first_lent gone lent
first_some (Some of) lent is = refl
first_some None lent is = absurd (cc)

first_none : (gone lent : Option ℕ) → is_some gone ≡ false → lent ≡ first_lent gone lent
first_none None lent is = refl
first_none (Some of) lent is = absurd (cc)

module _ {V : Type 0} {G : Ghosts V} where
  -- the keeper may be told of every track
  pub all_takes : (k : OldView) (ds : List (Device V G)) → TakesAll takes_all k ds
  all_takes k ds i d within = record { all = λ t image below of fits. tt }

  -- Events

  noted_still_by : (s : Session V G) (o : Option (Device V G)) → is_some s.gone ≡ true →
      IfSome o (λ x. s.gone ≡ first_lent s.gone x.store.pair.lent)
  noted_still_by s None is = tt
  noted_still_by s (Some x) is = first_some s.gone x.store.pair.lent is

  -- it was lent before
  pub noted_still : (s : Session V G) → is_some s.gone ≡ true → Notes s s
  noted_still s is = (refl, noted_still_by s (device_at s.sub.devices.items s.device) is)

  -- or it wasn't
  pub noted_now : (s : Session V G) (items : List (Device V G)) (x : Device V G) (gone : Option ℕ) → is_some s.gone ≡ false →
      device_at items s.device ≡ Some x → gone ≡ x.store.pair.lent → IfSome (device_at items s.device) (λ y. gone ≡ first_lent s.gone y.store.pair.lent)
  noted_now s items x gone is at lent =
      subst (λ (o : Option (Device V G)). IfSome o (λ y. gone ≡ first_lent s.gone y.store.pair.lent)) (sym at) (lent ∙ first_none s.gone x.store.pair.lent is)

  noted_gone : (s new : Session V G) (c : CopyState) (run : runs.Subsystem) → s.device ≡ c.kept.device → s.gone ≡ c.gone → StandsAs new.sub run →
      Notes s new → new.gone ≡ first_lent c.gone (lent_at (mounted_in run.mounted c.kept.device))
  noted_gone s new c run device gone stands noted =
      let one = has_one new.sub.devices.items new.device new.here in
      let at : device_at new.sub.devices.items s.device ≡ Some one.device = ap (λ (n : ℕ). device_at new.sub.devices.items n) (sym noted.0) ∙ one.found in
      let k = mounted_for new.sub run s.device one.device stands at in
      let is : new.gone ≡ first_lent s.gone one.device.store.pair.lent =
      subst (λ (o : Option (Device V G)). IfSome o (λ x. new.gone ≡ first_lent s.gone x.store.pair.lent)) at noted.1 in
      is
      ∙ ap (λ (o : Option ℕ). first_lent o one.device.store.pair.lent) gone
      ∙ ap (first_lent c.gone) (sym k.lent ∙ sym (ap lent_at k.there) ∙ ap (λ (n : ℕ). lent_at (mounted_in run.mounted n)) device)

  pub did_copy : (s new : Session V G) (c : CopyState) (o : Occurred) (old : ℕ → Image) → IsCopy s c old → StandsAs new.sub (copy_did c o).run →
      AreOwn new.sub.devices.items → new.kept ≡ (copy_did c o).kept → Notes s new → IsCopy new (copy_did c o) old
  did_copy s new c o old copy stands own kept noted = record {
    stands = stands;
    own = own;
    device = noted.0 ∙ copy.device ∙ sym (did_alike c o).device;
    kept = kept;
    gone = noted_gone s new c (copy_did c o).run copy.device copy.gone stands noted ∙ sym (did_gone c o);
    keeps = did_keeps c o old copy.keeps;
  }

  -- an event that was had
  pub event_copies : {X E : Type 0} (A : X → Type 0) (s new : Session V G) (sub : Subsystem V G) (keep : OldView) (c : CopyState) (e : Event)
      (old : ℕ → Image) (r : Result X E) → IsCopy s c old → OnOk r (AreOwn sub.devices.items) →
      IfOk r (λ end. A end × StandsAs sub (happens c.run e).behind) →
      OnOk r (HeardAll (Heard hears_old takes_all) s.kept (event_messages c.run e) keep) → new.sub ≡ sub → new.kept ≡ keep → Notes s new →
      OnOk r (IsCopy new (copy_did c (Comes e)) old)
  event_copies A s new sub keep c e old (Ok end) copy own happened told is kept noted =
      did_copy s new c (Comes e) old copy (subst (λ (z : Subsystem V G). StandsAs z (happens c.run e).behind) (sym is) happened.1)
      (subst (λ (z : Subsystem V G). AreOwn z.devices.items) (sym is) own)
      (kept ∙ all_heard told ∙ ap (λ (k : OldView). heard_all k (event_messages c.run e)) copy.kept) noted
  event_copies A s new sub keep c e old (Err why) copy own happened told is kept noted = tt

  pub event_ends : {X E : Type 0} (A : Subsystem V G → X → Type 0) (B : Type 0) (new sub : Subsystem V G) (r : Result X E) → new ≡ sub →
      IfOk r (λ end. A sub end × B) → IfOk r (λ end. A new end)
  event_ends A B new sub (Ok end) is happened = subst (λ (z : Subsystem V G). A z end) (sym is) happened.0
  event_ends A B new sub (Err why) is happened = tt

  -- an order that was had
  pub order_copies : {X E : Type 0} (A : X → Type 0) (s new : Session V G) (sub : Subsystem V G) (c : CopyState) (o : Occurred)
      (old : ℕ → Image) (r : Result X E) → IsCopy s c old → OnOk r (AreOwn sub.devices.items) →
      IfOk r (λ end. A end × StandsAs sub (copy_did c o).run) → new.sub ≡ sub → new.kept ≡ s.kept → (copy_did c o).kept ≡ c.kept → Notes s new →
      OnOk r (IsCopy new (copy_did c o) old)
  order_copies A s new sub c o old (Ok end) copy own happened is kept same noted =
      did_copy s new c o old copy (subst (λ (z : Subsystem V G). StandsAs z (copy_did c o).run) (sym is) happened.1)
      (subst (λ (z : Subsystem V G). AreOwn z.devices.items) (sym is) own) (kept ∙ copy.kept ∙ sym same) noted
  order_copies A s new sub c o old (Err why) copy own happened is kept same noted = tt

  -- Looks

  -- the next track is one of the device
  pub inside : (s : Session V G) (c : CopyState) (old : ℕ → Image) (x : Device V G) (copy : IsCopy s c old) → device_at s.sub.devices.items s.device ≡ Some x →
      x.store.cylinders * 15 ≡ tracks_of copy.keeps.mounted.device.store
  inside s c old x copy at =
      let k = mounted_for s.sub c.run s.device x copy.stands at in
      let same : k.mounted ≡ copy.keeps.mounted =
      some_same (sym k.there ∙ ap (λ (n : ℕ). mounted_in c.run.mounted n) copy.device ∙ copy.keeps.there) in
      ap (λ (n : ℕ). n * 15) (sym k.cylinders ∙ ap (λ (m : Mounted). m.device.store.cylinders) same)

  module _ (s : Session V G) (c : CopyState) (old : ℕ → Image) (x : Device V G) (copy : IsCopy s c old)
      (at : device_at s.sub.devices.items s.device ≡ Some x) where
    abbrev tracks : ℕ
    tracks = tracks_of copy.keeps.mounted.device.store

    next_is : s.kept.next ≡ c.kept.next
    next_is = ap (λ (k : OldView). k.next) copy.kept

    tracks_are : tracks_at (mounted_in c.run.mounted c.kept.device) ≡ tracks
    tracks_are = ap tracks_at copy.keeps.there

    over_by : (b : Bool) → nat_le tracks c.kept.next ≡ b → nat_le (tracks_at (mounted_in c.run.mounted c.kept.device)) c.kept.next ≡ b
    over_by b is = ap (λ (n : ℕ). nat_le n c.kept.next) tracks_are ∙ is

    pub finished_gives : x.store.cylinders * 15 ≤ s.kept.next → GivesAs (next_given c) c.kept old gives.Finished s
    finished_gives le =
        let most : tracks ≤ c.kept.next = omega (arith, le, next_is, inside s c old x copy at) in
        let over = over_by true (le-leb tracks c.kept.next most) in
        rw over (record { given = refl; copy = copy; track = tt })

    module _ (lt : s.kept.next < x.store.cylinders * 15) where
      below : c.kept.next < tracks
      below = omega (arith, lt, next_is, inside s c old x copy at)

      still : nat_le (tracks_at (mounted_in c.run.mounted c.kept.device)) c.kept.next ≡ false
      still = over_by false (lt-leb tracks c.kept.next below)

      pub gone_gives : (of : ℕ) → s.gone ≡ Some of → GivesAs (next_given c) c.kept old (gives.Gone of) s
      gone_gives of gone =
          let is : next_given c ≡ still_given c (Some of) =
          ap (λ (b : Bool). given_if b c) still ∙ ap (still_given c) (sym copy.gone ∙ gone) in
          subst (λ (n : Giving). GivesAs n c.kept old (gives.Gone of) s) (sym is) (record { given = refl; copy = copy; track = tt })

      pub as_kept : (i : Image) → s.gone ≡ None → entry_at s.kept.images s.kept.next ≡ Some i → next_given c ≡ track_given c (Some i)
      as_kept i home some =
          let entry : entry_at c.kept.images c.kept.next ≡ Some i =
          ap (λ (k : OldView). entry_at k.images k.next) (sym copy.kept) ∙ some in
          rw (still, sym copy.gone ∙ home, entry) refl

      pub as_looked : s.gone ≡ None → entry_at s.kept.images s.kept.next ≡ None →
          next_given c ≡ look_given c (looked c.run c.kept.device c.kept.next)
      as_looked home none =
          let entry : entry_at c.kept.images c.kept.next ≡ None =
          ap (λ (k : OldView). entry_at k.images k.next) (sym copy.kept) ∙ none in
          rw (still, sym copy.gone ∙ home, entry) refl

      pub kept_gives : (new : Session V G) (t : ℕ) (i : Image) → t ≡ s.kept.next → s.gone ≡ None → entry_at s.kept.images t ≡ Some i → new.sub ≡ s.sub →
          new.device ≡ s.device → new.gone ≡ s.gone → new.kept ≡ passed (with_image s.kept t None) → GivesAs (next_given c) c.kept old (gives.Track t i) new
      kept_gives new t i on home some sub device gone kept =
          let some_on : entry_at s.kept.images s.kept.next ≡ Some i = ap (λ (q : ℕ). entry_at s.kept.images q) (sym on) ∙ some in
          let is : next_given c ≡ track_given c (Some i) = as_kept i home some_on in
          let so = next_is_old c old copy.keeps in
          let given : gives.Track c.kept.next i ≡ gives.Track t i = ap (λ (q : ℕ). gives.Track q i) (sym (on ∙ next_is)) in
          record {
            given = ap (λ (n : Giving). n.given) is ∙ given;
            copy = record {
              stands = subst (λ (z : Subsystem V G). StandsAs z (next_given c).behind.run) (sym sub)
                  (subst (λ (r : runs.Subsystem). StandsAs s.sub r) (sym (ap (λ (n : Giving). n.behind.run) is)) copy.stands);
              own = subst (λ (z : Subsystem V G). AreOwn z.devices.items) (sym sub) copy.own;
              device = device ∙ copy.device ∙ sym (ap (λ (n : Giving). n.behind.kept.device) is);
              kept = kept
                  ∙ ap (λ (q : ℕ). passed (with_image s.kept q None)) on
                  ∙ ap (λ (k : OldView). passed (with_image k k.next None)) copy.kept
                  ∙ sym (ap (λ (n : Giving). n.behind.kept) is);
              gone = gone ∙ copy.gone ∙ sym (ap (λ (n : Giving). n.behind.gone) is);
              keeps = so.keeps;
            };
            track = subst (IsOldGiven c.kept old) (ap (λ (n : Giving). n.given) is ∙ given) so.track;
          }

  -- A look at the next track

  module _ (s : Session V G) (c : CopyState) (old : ℕ → Image) (x : Device V G) (t : ℕ) (copy : IsCopy s c old)
      (at : device_at s.sub.devices.items s.device ≡ Some x) (lt : t < x.store.cylinders * 15) (on : t ≡ s.kept.next) (home : s.gone ≡ None)
      (none : entry_at s.kept.images t ≡ None) where
    abbrev m : Mounted
    m = copy.keeps.mounted

    on_next : t ≡ c.kept.next
    on_next = on ∙ ap (λ (k : OldView). k.next) copy.kept

    here : c.kept.next < tracks_of m.device.store
    here = omega (arith, lt, on_next, inside s c old x copy at)

    nothing : entry_at c.kept.images c.kept.next ≡ None
    nothing = ap (λ (q : ℕ). entry_at c.kept.images q) (sym on_next) ∙ ap (λ (k : OldView). entry_at k.images t) (sym copy.kept) ∙ none

    stays : c.gone ≡ None
    stays = sym copy.gone ∙ home

    pub allowed : IsAllowed c.run s.device t
    allowed =
        subst (λ (o : Option Mounted). IfSome o (λ z. is_written_at z.device.store.half t ≡ false))
        (sym (ap (λ (n : ℕ). mounted_in c.run.mounted n) copy.device ∙ copy.keeps.there))
        (subst (λ (q : ℕ). is_written_at m.device.store.half q ≡ false) (sym on_next) (next_quiet c old copy.keeps stays here nothing).0.half)

    -- what it found is given
    pub look_gives : (new : Session V G) (f : Peeked) → ((looked c.run s.device t).found ≡ f) × StandsAs new.sub (looked c.run s.device t).behind →
        AreOwn new.sub.devices.items → new.device ≡ s.device → new.gone ≡ s.gone → new.kept ≡ passed_by f s.kept →
        GivesAs (look_given c (looked c.run c.kept.device c.kept.next)) c.kept old (given_by t f) new
    look_gives new f so own device gone kept =
        let same : looked c.run s.device t ≡ looked c.run c.kept.device c.kept.next =
        ap (λ (n : ℕ). looked c.run n t) copy.device ∙ ap (looked c.run c.kept.device) on_next in
        let found : (looked c.run c.kept.device c.kept.next).found ≡ f = sym (ap (λ (l : Looked). l.found) same) ∙ so.0 in
        let given : given_by c.kept.next (looked c.run c.kept.device c.kept.next).found ≡ given_by t f =
        ap (given_by c.kept.next) found ∙ ap (λ (q : ℕ). given_by q f) (sym on_next) in
        let passes : passed_by f s.kept ≡ passed_by (looked c.run c.kept.device c.kept.next).found c.kept =
        ap (passed_by f) copy.kept ∙ ap (λ (p : Peeked). passed_by p c.kept) (sym found) in
        record {
          given = given;
          copy = record {
            stands = subst (λ (l : Looked). StandsAs new.sub l.behind) same so.1;
            own = own;
            device = device ∙ copy.device ∙ sym (passed_device (looked c.run c.kept.device c.kept.next).found c.kept);
            kept = kept ∙ passes;
            gone = gone ∙ copy.gone;
            keeps = look_keeps c old copy.keeps;
          };
          track = subst (IsOldGiven c.kept old) given (look_is_old c old copy.keeps stays here nothing);
        }

  pub look_gives_at : (s new : Session V G) (c : CopyState) (old : ℕ → Image) (t : ℕ) (seen f : Peeked) → IsCopy s c old →
      IfSome (device_at s.sub.devices.items s.device) (λ x. t < x.store.cylinders * 15) → t ≡ s.kept.next → s.gone ≡ None →
      entry_at s.kept.images t ≡ None →
      (IsAllowed c.run s.device t → ((looked c.run s.device t).found ≡ seen) × StandsAs new.sub (looked c.run s.device t).behind) → seen ≡ f →
      AreOwn new.sub.devices.items → new.device ≡ s.device → new.gone ≡ s.gone → new.kept ≡ passed_by f s.kept →
      GivesAs (look_given c (looked c.run c.kept.device c.kept.next)) c.kept old (given_by t f) new
  look_gives_at s new c old t seen f copy track on home none happened is own device gone kept =
      let one = has_one s.sub.devices.items s.device s.here in
      let lt : t < one.device.store.cylinders * 15 =
      subst (λ (o : Option (Device V G)). IfSome o (λ x. t < x.store.cylinders * 15)) one.found track in
      let so = happened (allowed s c old one.device t copy one.found lt on home none) in
      look_gives s c old one.device t copy one.found lt on home none new f (so.0 ∙ is, so.1) own device gone kept

  pub same_copy : (s new : Session V G) (c : CopyState) (old : ℕ → Image) → IsCopy s c old → new.sub ≡ s.sub → new.device ≡ s.device →
      new.kept ≡ s.kept → new.gone ≡ s.gone → IsCopy new c old
  same_copy s new c old copy sub device kept gone = record {
    stands = subst (λ (z : Subsystem V G). StandsAs z c.run) (sym sub) copy.stands;
    own = subst (λ (z : Subsystem V G). AreOwn z.devices.items) (sym sub) copy.own;
    device = device ∙ copy.device;
    kept = kept ∙ copy.kept;
    gone = gone ∙ copy.gone;
    keeps = copy.keeps;
  }

  -- what isn't kept isn't taken
  pub taken_copy : (s new : Session V G) (c : CopyState) (old : ℕ → Image) (t : ℕ) → IsCopy s c old → new.sub ≡ s.sub → new.device ≡ s.device →
      new.gone ≡ s.gone → new.kept ≡ with_image s.kept t None → entry_at s.kept.images t ≡ None → IsCopy new c old
  taken_copy s new c old t copy sub device gone kept none =
      same_copy s new c old copy sub device (kept ∙ nothing_there s.kept t none) gone

  pub looked_next : {E : Type 0} (s new : Session V G) (c : CopyState) (old : ℕ → Image) (x : Device V G) (t : ℕ) (r : Result Given E) (copy : IsCopy s c old) →
      device_at s.sub.devices.items s.device ≡ Some x → s.kept.next < x.store.cylinders * 15 → t ≡ s.kept.next → s.gone ≡ None →
      entry_at s.kept.images t ≡ None →
      IfOk r (λ g. GivesAs (look_given c (looked c.run c.kept.device c.kept.next)) c.kept old g new) → IfOk r (λ g. GivesAs (next_given c) c.kept old g new)
  looked_next s new c old x t r copy at lt on home none so =
      let here : entry_at s.kept.images s.kept.next ≡ None = ap (λ (q : ℕ). entry_at s.kept.images q) (sym on) ∙ none in
      subst (λ (n : Giving). IfOk r (λ g. GivesAs n c.kept old g new)) (sym (as_looked s c old x copy at lt home here)) so
