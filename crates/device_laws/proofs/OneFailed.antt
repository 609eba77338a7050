-- The parts of an event of a pair of which both sides have all tracks, where one call of its volumes fails: the other side has all of them then, and
-- no track is lost.
use Rattle.std.proofs.Common.{
  ◌≡◌,
  ◌==◌,
  ◌+◌,
  zero,
  suc,
  ℕ,
  Bool,
  true,
  false,
  List,
  Option,
  Some,
  None,
  is_some,
  set,
  get_or,
  refl,
  sym,
  ap,
  subst,
  ◌∙◌,
  ◌⊎◌,
  inl,
  inr,
}
use Rattle.std.proofs.lemmas.Bool.{cases_eq, eqb-false, ne_eqb}
use Rattle.std.proofs.lemmas.List.{get_or-set_other}
use Rattle.std.specs.Prelude.{if◌then◌else◌, ◌&&◌, ◌||◌, not, length, nat_le, nat_lt}
use Rattle.ckd_types.specs.declared.paths.Side.TheVariants as sides
use Rattle.ckd_types.specs.declared.record.Edit.{Edit}
use Rattle.ckd_types.specs.Parameters.{is_bypass}
use Rattle.track_image.specs.Image.{Image, edited_image}
use Rattle.device_outside.specs.declared.port.SlotGrant.{SlotGrant}
use Rattle.device_outside.specs.declared.port.SlotGrant.TheVariants as grants
use Rattle.device_outside.specs.Interaction.{Interaction, Done, and_then}
use Rattle.device_defs.specs.declared.answers.Choice.{Choice}
use Rattle.device_defs.specs.declared.answers.Choice.TheVariants.{Provisional, Fast, Through}
use Rattle.device_defs.specs.declared.answers.Took.{Took}
use Rattle.device_defs.specs.declared.answers.Took.TheVariants.{Whole, Opened, Unwritten}
use Rattle.device_defs.specs.declared.usage.Usage.{Usage}
use Rattle.device_defs.specs.Choosing as G
use Rattle.device_defs.specs.Choosing.{slot_by, may_be_fast, fast_by, fast_or_through, choose_loose, choose_firm, choose}
use Rattle.device_defs.specs.Contents.{Contents}
use Rattle.device_defs.specs.Editing as E
use Rattle.device_defs.specs.Editing.{
  another_loose,
  whole,
  at_once,
  through_by,
  through,
  write_by,
  written,
  is_given,
  clean_again,
  unchosen,
  write_chosen,
  write,
}
use Rattle.device_defs.specs.Effects.{hardened}
use Rattle.device_defs.specs.Image as I
use Rattle.device_defs.specs.Image.{Got, Imaged, read_counted, read_b, level_bytes, is_sequential, queued, ahead, missed, miss, clean_image, image_by, image}
use Rattle.device_defs.specs.Losses as L
use Rattle.device_defs.specs.Losses.{over, down, by_frame, lost_now, settled, settled_but, side_lost, firm_told, all_firm_told, call_failed}
use Rattle.device_defs.specs.Owed.{is_clean}
use Rattle.device_defs.specs.Store.{
  Origin,
  OfCommand,
  HalfWrite,
  half_is,
  SideMarks,
  Store,
  tracks_of,
  stale_at,
  level_at,
  has_level,
  takes_b,
  frame_at,
  patch_at,
  is_lost,
  is_loose,
  owed_at,
  with_stale,
  with_frame,
}
use Rattle.device_defs.specs.Writing as V
use Rattle.device_defs.specs.Writing.{Wrote, write_counted, taken_a, taken_b, firm_first, failed_a, write_first, write_second, write_opened}
use Rattle.device_laws.proofs.Bools.{or_left, or_right, up_level}
use Rattle.device_laws.proofs.HeldPlaces.{never}
use Rattle.device_laws.proofs.Lucky.{Lucky, lucky_done, lucky_read, lucky_write, lucky_tell, lucky_then, lucky_weaker, lucky_if}
use Rattle.device_laws.proofs.Choices.{choice_fits}
use Rattle.device_laws.proofs.Once.{
  Once,
  once_done,
  once_ask,
  once_read,
  once_write,
  once_tell,
  once_then,
  once_always,
  once_lucky,
  where_none,
  once_quiet,
  once_asks,
  once_if,
  once_tried,
}
use Rattle.device_laws.proofs.QuietParts.{Quiet, quiet_done, quiet_ask, quiet_tell, quiet_if, quiet_then, done_quiet}
use Rattle.device_laws.proofs.Unchecked.{HasBytes, IsTaken, WasTaken, lucky_both, missed_has, whole_taken}
use Rattle.device_laws.proofs.Unlost.{core_of, Steady, steady_on, clear_at}
use Rattle.device_laws.proofs.UnlostParts.{whole_goes}
use Rattle.device_laws.proofs.PoolWalks.{missed_asks}

-- what a store has of its sides, its lost tracks, and its open half write
pub record Sides (H : Type 0) : Type 0 where
  pub a : SideMarks
  pub b : SideMarks
  pub held : Bool
  pub paired : Bool
  pub lost : List Bool
  pub half : Option (HalfWrite H)

abbrev pub sides_of : {F P H : Type 0} → Store F P H → Sides H
sides_of s = record { a = s.a; b = s.b; held = s.held; paired = s.paired; lost = s.lost; half = s.half }

abbrev pub fallen_a : {H : Type 0} → Sides H → Sides H
fallen_a x = record x { a = record x.a { up = false }; held = false }

abbrev pub fallen_b : {H : Type 0} → Sides H → Sides H
fallen_b x = record x { b = record x.b { up = false }; held = false }

-- a track that is being written
abbrev is_one : Option ℕ → ℕ → Bool
is_one None q = false
is_one (Some t) q = q == t

-- a pair, up and not held, both sides of which have each track, but for one that is being written
pub record OnBoth {H : Type 0} (t : Option ℕ) (x : Sides H) : Type 0 where
  pub paired : x.paired ≡ true
  pub up_a : x.a.up ≡ true
  pub up_b : x.b.up ≡ true
  pub free : x.held ≡ false
  pub a : (q : ℕ) → is_one t q ≡ false → stale_at x.a q ≡ false
  pub b : (q : ℕ) → is_one t q ≡ false → stale_at x.b q ≡ false
  pub kept : (q : ℕ) → get_or x.lost q false ≡ false

-- one side A of which has each track
pub record OnSideA {H : Type 0} (x : Sides H) : Type 0 where
  pub paired : x.paired ≡ true
  pub up : x.a.up ≡ true
  pub level : (q : ℕ) → stale_at x.a q ≡ false
  pub kept : (q : ℕ) → get_or x.lost q false ≡ false

stale_other : (l : List Bool) (t q : ℕ) → (q == t) ≡ false → get_or l q false ≡ false → get_or (set l t true) q false ≡ false
stale_other l t q ne e = get_or-set_other l t q true false (eqb-false q t ne) ∙ e

but_one : {H : Type 0} (x : Sides H) (t : ℕ) → OnBoth None x → OnBoth (Some t) x
but_one x t o = record {
  paired = o.paired;
  up_a = o.up_a;
  up_b = o.up_b;
  free = o.free;
  a = λ q ne. o.a q refl;
  b = λ q ne. o.b q refl;
  kept = o.kept;
}

module _ {F P H : Type 0} where
  pub steady_fallen : (x : Sides H) (z : Store F P H) → x.b.up ≡ true → ((q : ℕ) → get_or x.lost q false ≡ false) → sides_of z ≡ fallen_a x →
      Steady (core_of z)
  steady_fallen x z up kept e = record {
    kept = λ q. ap (λ (y : Sides H). get_or y.lost q false) e ∙ kept q;
    takes = or_right z.a.up _ (ap (λ (y : Sides H). y.b.up && not y.held) e ∙ up_level x.b.up false up refl);
    half = λ t open_is up. never z.a.up up (ap (λ (y : Sides H). y.a.up) e);
  }

  pub steady_a : (x : Sides H) (z : Store F P H) (t : Option ℕ) → OnBoth t x → sides_of z ≡ fallen_a x → Steady (core_of z)
  steady_a x z t o e = steady_fallen x z o.up_b o.kept e

  pub steady_b : (x : Sides H) (z : Store F P H) → OnSideA x → sides_of z ≡ fallen_b x → Steady (core_of z)
  steady_b x z o e = record {
    kept = λ q. ap (λ (y : Sides H). get_or y.lost q false) e ∙ o.kept q;
    takes = or_left z.a.up _ (ap (λ (y : Sides H). y.a.up) e ∙ o.up);
    half = λ t open_is up. ap (λ (y : Sides H). stale_at y.a t) e ∙ o.level t;
  }

  sides_if : (x : Sides H) (b : Bool) (s z : Store F P H) → sides_of s ≡ x → sides_of z ≡ x → sides_of (if b then s else z) ≡ x
  sides_if x true s z e f = e
  sides_if x false s z e f = f

  queued_sides : (x : Sides H) (last : Option ℕ) (s : Store F P H) (t : ℕ) → sides_of s ≡ x → sides_of (queued last s t) ≡ x
  queued_sides x None s t e = e
  queued_sides x (Some last) s t e = sides_if x (nat_le t last) _ s (sides_if x (nat_lt (length s.queue) 64) _ s e e) e

  ahead_sides : (x : Sides H) (u : Usage) (s : Store F P H) (t : ℕ) → sides_of s ≡ x → sides_of (ahead u s t) ≡ x
  ahead_sides x u s t e =
      sides_if x (is_sequential u.mode) _ s (queued_sides x u.last (queued u.last s (t + 1)) (t + 2) (queued_sides x u.last s (t + 1) e)) e

  -- a track that is written for the first time since it was loose is stale on both sides
  everywhere_both : (s : Store F P H) (t : ℕ) (b : Bool) → OnBoth None (sides_of s) →
      OnBoth (Some t) (sides_of (if b then with_stale (with_stale s sides.A t true) sides.B t true else with_stale s sides.A t true))
  everywhere_both s t true o = record {
    paired = o.paired;
    up_a = o.up_a;
    up_b = o.up_b;
    free = o.free;
    a = λ q ne. stale_other s.a.stale t q ne (o.a q refl);
    b = λ q ne. stale_other s.b.stale t q ne (o.b q refl);
    kept = o.kept;
  }
  everywhere_both s t false o = record {
    paired = o.paired;
    up_a = o.up_a;
    up_b = o.up_b;
    free = o.free;
    a = λ q ne. stale_other s.a.stale t q ne (o.a q refl);
    b = λ q ne. o.b q refl;
    kept = o.kept;
  }

  -- side A took the track
  took_a : (s : Store F P H) (t : ℕ) (b : Bool) → OnBoth (Some t) (sides_of s) →
      OnSideA (sides_of (if b then with_stale (with_stale s sides.A t false) sides.B t true else with_stale s sides.A t false))
  took_a s t true o = record {
    paired = o.paired;
    up = o.up_a;
    level = λ q. clear_at s.a.stale t q (cases_eq q t) (λ ne. o.a q (ne_eqb q t ne));
    kept = o.kept;
  }
  took_a s t false o = record {
    paired = o.paired;
    up = o.up_a;
    level = λ q. clear_at s.a.stale t q (cases_eq q t) (λ ne. o.a q (ne_eqb q t ne));
    kept = o.kept;
  }

module _ {F P H R : Type 0} (c : Contents F P H R) where
  -- A side falls, and the other one has all tracks

  -- a side has it, or the open half write is of it
  abbrev pub IsSomewhere : Sides H → ℕ → Type 0
  IsSomewhere x q = ((level_at x.a q || level_at x.b q) ≡ true) ⊎ (half_is x.half q ≡ true)

  framed_same : (s : Store F P H) (t : ℕ) (o : Option F) → (half_is s.half t ≡ false → ⊥) → sides_of (by_frame c s t o) ≡ sides_of s
  framed_same s t (Some f) open_is =
      sides_if (sides_of s) (is_loose s t) _ _ refl (sides_if (sides_of s) (c.modified f) _ _ refl refl)
  framed_same s t None open_is = by_half (half_is s.half t) refl where
    by_half : (b : Bool) → half_is s.half t ≡ b → sides_of (if b then s else lost_now c s t) ≡ sides_of s
    by_half true e = refl
    by_half false e = absurd (open_is e)

  settled_at : (s : Store F P H) (t : ℕ) → IsSomewhere (sides_of s) t → (b : Bool) → has_level s t ≡ b →
      sides_of (if b then s else by_frame c s t (frame_at s t)) ≡ sides_of s
  settled_at s t at true e = refl
  settled_at s t (inl level) false e = never (has_level s t) level e
  settled_at s t (inr half) false e = framed_same s t (frame_at s t) (λ none. never (half_is s.half t) half none)

  settled_same : (s : Store F P H) (t : ℕ) → IsSomewhere (sides_of s) t → sides_of (settled c s t) ≡ sides_of s
  unfolding L.settled
  settled_same s t at =
      sides_if (sides_of s) (is_some s.lent) _ _ refl (sides_if (sides_of s) (is_lost s t) _ _ refl (settled_at s t at (has_level s t) refl))

  but_same : (t q : ℕ) (s : Store F P H) (b : Bool) → (q == t) ≡ b → ((q == t) ≡ false → IsSomewhere (sides_of s) q) →
      sides_of (if b then s else settled c s q) ≡ sides_of s
  but_same t q s true e at = refl
  but_same t q s false e at = settled_same s q (at e)

  one_same : (w : Option ℕ) (q : ℕ) (s : Store F P H) → (is_one w q ≡ false → IsSomewhere (sides_of s) q) → sides_of (settled_but c w q s) ≡ sides_of s
  one_same None q s at = settled_same s q (at refl)
  one_same (Some t) q s at = but_same t q s (q == t) refl at

  all_same : (w : Option ℕ) (n : ℕ) (s : Store F P H) → ((q : ℕ) → is_one w q ≡ false → IsSomewhere (sides_of s) q) →
      sides_of (over n (settled_but c w) s) ≡ sides_of s
  unfolding L.over
  all_same w zero s at = refl
  all_same w (suc n) s at =
      let e = all_same w n s at in
      one_same w n (over n (settled_but c w) s) (λ ne. subst (λ (x : Sides H). IsSomewhere x n) (sym e) (at n ne)) ∙ e

  -- where all tracks but the one that is written are on side B, or on side A
  pub lost_a : (s : Store F P H) (w : Option ℕ) → ((q : ℕ) → is_one w q ≡ false → IsSomewhere (fallen_a (sides_of s)) q) →
      sides_of (side_lost c s sides.A w) ≡ fallen_a (sides_of s)
  unfolding L.side_lost
  lost_a s w at = all_same w (tracks_of s) (down s sides.A) at

  pub lost_b : (s : Store F P H) (w : Option ℕ) → OnSideA (sides_of s) → sides_of (side_lost c s sides.B w) ≡ fallen_b (sides_of s)
  unfolding L.side_lost
  lost_b s w o =
      all_same w (tracks_of s) (down s sides.B)
      (λ q _. inl (or_left (level_at s.a q) _ (up_level s.a.up (stale_at s.a q) o.up (o.level q))))

  pub told_sides : (x : Sides H) (n : ℕ) (s : Store F P H) → sides_of s ≡ x → Lucky (λ z (a : Unit {0}). sides_of z ≡ x) (all_firm_told c n s)
  unfolding L.all_firm_told
  told_sides x zero s e = lucky_done e
  told_sides x (suc n) s e =
      lucky_then (λ z _. firm_told c n z) (told_sides x n s e)
      (λ z _ f. lucky_if (owed_at z n).firm (λ _. lucky_tell (λ _. lucky_done f)) (λ _. lucky_done f))

  pub a_falls : (s : Store F P H) (w : Option ℕ) → OnBoth w (sides_of s) →
      Lucky (λ z (a : Unit {0}). sides_of z ≡ fallen_a (sides_of s)) (call_failed c s sides.A w)
  a_falls s w o =
      lucky_if s.paired (λ _. told_sides (fallen_a (sides_of s)) (tracks_of s) (side_lost c s sides.A w)
      (lost_a s w (λ q ne. inl (up_level s.b.up (stale_at s.b q) o.up_b (o.b q ne)))))
      (λ single. never s.paired o.paired single)

  pub b_falls : (s : Store F P H) (w : Option ℕ) → OnSideA (sides_of s) →
      Lucky (λ z (a : Unit {0}). sides_of z ≡ fallen_b (sides_of s)) (call_failed c s sides.B w)
  b_falls s w o =
      lucky_if s.paired (λ _. told_sides (fallen_b (sides_of s)) (tracks_of s) (side_lost c s sides.B w) (lost_b s w o))
      (λ single. never s.paired o.paired single)

  -- The image of a track

  from_b : (s z : Store F P H) (t : ℕ) → OnBoth None (sides_of s) → sides_of z ≡ fallen_a (sides_of s) →
      Lucky (λ y (g : Got R). (is_some g.bytes ≡ true) × (sides_of y ≡ fallen_a (sides_of s))) (read_b c z t (Some sides.A))
  from_b s z t o e =
      lucky_if (level_at z.b t) (λ _. lucky_read (λ r. lucky_done (refl, e)))
      (λ off. never (level_at z.b t) (ap (λ (x : Sides H). level_at x.b t) e ∙ up_level s.b.up (stale_at s.b t) o.up_b (o.b t refl)) off)

  pub level_once : (s : Store F P H) (t : ℕ) → OnBoth None (sides_of s) →
      Once (λ z (g : Got R). (is_some g.bytes ≡ true) × (sides_of z ≡ sides_of s)) (λ z g. (is_some g.bytes ≡ true) × (sides_of z ≡ fallen_a (sides_of s)))
      (level_bytes c s t)
  unfolding I.level_bytes
  level_once s t o =
      once_if (level_at s.a t)
      (λ _. once_read (λ r. once_done (refl, refl))
      (lucky_then (λ z _. read_b c z t (Some sides.A)) (a_falls (read_counted s false) None o) (λ z _ e. from_b s z t o e)))
      (λ off. never (level_at s.a t) (up_level s.a.up (stale_at s.a t) o.up_a (o.a t refl)) off)

  module _ (x : Sides H) where
    abbrev Stills : {A : Type 0} → (Store F P H → A → Type 0) → Interaction R Image (Store F P H) A → Type 0
    Stills q i = Once (λ z _. sides_of z ≡ x) q i

    missed_same : {q : Store F P H → Option Imaged → Type 0} (u : Usage) (t : ℕ) (s : Store F P H) (g : Got R) (o : Option R) → sides_of s ≡ x →
        Stills q (missed c u t s g o)
    missed_same u t s g o e = once_asks (missed_asks c (λ z. sides_of z ≡ x) (λ z r j b is f. f) (λ v z r f. ahead_sides x v z r f) u t s g o e)

  abbrev ImagedSo : Sides H → Store F P H → Option Imaged → Type 0
  ImagedSo x z a = HasBytes a × (sides_of z ≡ x)

  abbrev pub IsImaged : Store F P H → Interaction R Image (Store F P H) (Option Imaged) → Type 0
  IsImaged s i = Once (ImagedSo (sides_of s)) (ImagedSo (fallen_a (sides_of s))) i

  miss_once : (s : Store F P H) (u : Usage) (t : ℕ) → OnBoth None (sides_of s) → IsImaged s (miss c s u t)
  miss_once s u t o =
      once_then (λ z g. missed c u t z g g.bytes) (level_once s t o)
      (λ z g e. once_lucky (missed_has c u t z g g.bytes e.0) (missed_same (sides_of s) u t z g g.bytes e.1))
      (λ z g e. lucky_both (missed_has c u t z g g.bytes e.0)
      (where_none (missed_same (fallen_a (sides_of s)) {q = λ z a. Unit {0}} u t z g g.bytes e.1)))

  clean_once : (s : Store F P H) (u : Usage) (t : ℕ) (f : F) → OnBoth None (sides_of s) → IsImaged s (clean_image c s u t f)
  clean_once s u t f o =
      once_if (is_bypass u.mode) (λ _. miss_once s u t o)
      (λ _. once_ask (λ listed. once_if listed (λ _. once_done (tt, refl)) (λ _. miss_once (with_frame s t None) u t o)))

  image_by_once : (s : Store F P H) (u : Usage) (t : ℕ) (f : Option F) → OnBoth None (sides_of s) → IsImaged s (image_by c s u t f)
  image_by_once s u t None o = miss_once s u t o
  image_by_once s u t (Some f) o = once_if (c.modified f) (λ _. once_done (tt, refl)) (λ _. clean_once s u t f o)

  pub image_once : (s : Store F P H) (u : Usage) (t : ℕ) → OnBoth None (sides_of s) → IsImaged s (image c s u t)
  unfolding I.image
  image_once s u t o = image_by_once s u t (frame_at s t) o

  -- Writes of the volumes

  pub firm_once : {q : Store F P H → Bool → Type 0} (s : Store F P H) (t : ℕ) → OnBoth None (sides_of s) →
      Once (λ z _. OnBoth (Some t) (sides_of z)) q (firm_first c s t)
  firm_once s t o =
      once_if (is_loose s t) (λ _. once_tell (λ _. once_done (everywhere_both (hardened s t) t s.paired o))) (λ _. once_done (but_one (sides_of s) t o))

  b_wrote : (s z : Store F P H) (t : ℕ) → OnBoth (Some t) (sides_of s) → sides_of z ≡ fallen_a (sides_of s) →
      Steady (core_of (taken_b (write_counted z true) t))
  b_wrote s z t o e = let f = steady_a (sides_of s) z (Some t) o e in record { kept = f.kept; takes = f.takes; half = f.half }

  pub first_once : (s : Store F P H) (t : ℕ) (r : R) → OnBoth (Some t) (sides_of s) →
      Once (λ z (w : Wrote). OnSideA (sides_of z)) (λ z w. (w.took ≡ Whole) × Steady (core_of z)) (write_first c s t r)
  unfolding V.write_first
  first_once s t r o =
      once_if s.a.up
      (λ _. once_write (once_done (took_a (write_counted s true) t s.b.up o))
      (lucky_then (λ z _. failed_a c t r (takes_b s) z) (a_falls (write_counted s false) (Some t) o)
      (λ z _ e. lucky_if (takes_b s) (λ _. lucky_write (lucky_done (refl, b_wrote s z t o e)))
      (λ none. never (takes_b s) (up_level s.b.up s.held o.up_b o.free) none))))
      (λ fallen. never s.a.up o.up_a fallen)

  pub second_once : (s : Store F P H) (t : ℕ) (r : R) → OnSideA (sides_of s) →
      Once (λ z (a : Unit {0}). Unit {0}) (λ z a. sides_of z ≡ fallen_b (sides_of s)) (write_second c s t r)
  unfolding V.write_second
  second_once s t r o =
      once_if (takes_b s) (λ _. once_write (once_done tt) (b_falls (write_counted s false) (Some t) o)) (λ _. once_done tt)

  -- side A has the track behind a second part that failed
  pub still_level : (s z : Store F P H) (t : ℕ) → OnSideA (sides_of s) → sides_of z ≡ fallen_b (sides_of s) → has_level z t ≡ true
  still_level s z t o e =
      or_left (level_at z.a t) _ (ap (λ (x : Sides H). level_at x.a t) e ∙ up_level s.a.up (stale_at s.a t) o.up (o.level t))

  -- A command's write

  whole_quiet : (s : Store F P H) (t : ℕ) (i : Image) (e : Edit) (bypass : Bool) → Quiet (whole c s t i e bypass)
  whole_quiet s t i e bypass = quiet_tell (λ _. quiet_then (λ y _. Done y Whole) (done_quiet c _ t i bypass) (λ y _. quiet_done))

  pub opened_quiet : (s : Store F P H) (t : ℕ) (i : Image) (origin : Origin) (was_loose : Bool) → Quiet (write_opened c s t i origin was_loose)
  opened_quiet s t i origin was_loose = quiet_if was_loose (quiet_ask (λ _. quiet_done)) quiet_done

  abbrev TookSo : Store F P H → Took → Type 0
  TookSo z took = IsTaken took × Steady (core_of z)

  abbrev IsWritten : Interaction R Image (Store F P H) Took → Type 0
  IsWritten i = Once (λ z took. Unit {0}) TookSo i

  whole_steady : (s : Store F P H) (t : ℕ) (i : Image) (e : Edit) (bypass : Bool) → Steady (core_of s) → Lucky TookSo (whole c s t i e bypass)
  whole_steady s t i e bypass f =
      lucky_weaker (lucky_both (whole_taken c s t i e bypass) (whole_goes c s t i e bypass)) (λ z took g. (g.0, steady_on (core_of s) (core_of z) g.1 f))

  at_once_once : (s : Store F P H) (t : ℕ) (i : Image) (e : Edit) (bypass : Bool) → OnSideA (sides_of s) → IsWritten (at_once c s t i e bypass)
  at_once_once s t i e bypass o =
      once_then (λ z _. if has_level z t then whole c z t i e bypass else Done (settled c z t) Unwritten) (second_once s t (c.bytes i) o)
      (λ z _ _. once_quiet (quiet_if (has_level z t) (whole_quiet z t i e bypass) quiet_done))
      (λ z _ f. lucky_if (has_level z t) (λ _. whole_steady z t i e bypass (steady_b (sides_of s) z o f))
      (λ none. never (has_level z t) (still_level s z t o f) none))

  by_once : (t : ℕ) (i : Image) (e : Edit) (bypass opens was_loose : Bool) (s : Store F P H) (took : Took) → OnSideA (sides_of s) →
      IsWritten (through_by c t i e bypass opens was_loose s took)
  by_once t i e bypass opens was_loose s Whole o = once_quiet (whole_quiet s t i e bypass)
  by_once t i e bypass opens was_loose s Opened o =
      once_if opens
      (λ _. once_quiet (quiet_then (λ z _. Done z Opened) (opened_quiet s t i (OfCommand bypass e) was_loose) (λ z _. quiet_done)))
      (λ _. at_once_once s t i e bypass o)
  by_once t i e bypass opens was_loose s Unwritten o = once_done tt

  through_once : (s : Store F P H) (t : ℕ) (i : Image) (e : Edit) (bypass opens : Bool) → OnBoth None (sides_of s) → IsWritten (through c s t i e bypass opens)
  unfolding E.through
  through_once s t i e bypass opens o =
      once_then (λ z b. and_first z b) (firm_once {q = λ z a. ⊥} s t o)
      (λ z b f. once_then (λ y w. through_by c t i e bypass opens b y w.took) (first_once z t (c.bytes i) f)
      (λ y w g. by_once t i e bypass opens b y w.took g)
      (λ y w g. subst (λ (took : Took). Lucky TookSo (through_by c t i e bypass opens b y took)) (sym g.0) (whole_steady y t i e bypass g.1)))
      (λ z b f. absurd f)
    where
      and_first : Store F P H → Bool → Interaction R Image (Store F P H) Took
      and_first z b = and_then (write_first c z t (c.bytes i)) (λ y w. through_by c t i e bypass opens b y w.took)

  by_choice : (u : Usage) (first t : ℕ) (i : Image) (e : Edit) (s : Store F P H) (choice : Choice) → OnBoth None (sides_of s) →
      IsWritten (write_by c u first t i e s choice)
  by_choice u first t i e s Provisional o = once_done tt
  by_choice u first t i e s (Fast slot) o = once_tell (λ _. once_done tt)
  by_choice u first t i e s Through o = through_once s t i e (is_bypass u.mode) (not (another_loose s first t)) o

  abbrev HadSo : Store F P H → Option Took → Type 0
  HadSo z took = WasTaken took × Steady (core_of z)

  abbrev pub MayWrite : Interaction R Image (Store F P H) (Option Took) → Type 0
  MayWrite i = Once (λ z took. Unit {0}) HadSo i

  written_once : (s : Store F P H) (u : Usage) (first t : ℕ) (old : Image) (e : Edit) (choice : Choice) → OnBoth None (sides_of s) →
      MayWrite (written c s u first t old e choice)
  written_once s u first t old e choice o =
      once_then (λ z took. Done z (Some took)) (by_choice u first t (edited_image e old) e s choice o) (λ z took _. once_done tt) (λ z took f. lucky_done f)

  again_quiet : (s : Store F P H) (t : ℕ) → Quiet (clean_again c s t)
  again_quiet s t = quiet_if (is_clean c (frame_at s t)) (quiet_ask (λ _. quiet_done)) quiet_done

  unchosen_quiet : (s : Store F P H) (t : ℕ) (choice : Choice) → Quiet (unchosen c s t choice)
  unchosen_quiet s t (Fast (Some slot)) = quiet_ask (λ _. again_quiet s t)
  unchosen_quiet s t (Fast None) = again_quiet s t
  unchosen_quiet s t Provisional = again_quiet s t
  unchosen_quiet s t Through = quiet_done

  chosen_once : (u : Usage) (first t : ℕ) (old : Image) (e : Edit) (s : Store F P H) (choice : Choice) → OnBoth None (sides_of s) →
      MayWrite (write_chosen c u first t old e s choice)
  chosen_once u first t old e s choice o =
      once_if (is_given c s choice)
      (λ _. once_tell (λ ok. once_if ok (λ _. written_once s u first t old e choice o) (λ _. once_quiet (unchosen_quiet s t choice))))
      (λ _. written_once s u first t old e choice o)

  slot_quiet : (s : Store F P H) (t : ℕ) (g : SlotGrant) → Quiet (slot_by c s t g)
  slot_quiet s t (grants.Given slot) = quiet_ask (λ listed. quiet_if listed quiet_done (quiet_ask (λ _. quiet_done)))
  slot_quiet s t grants.Denied = quiet_done
  slot_quiet s t grants.Down = quiet_done

  fast_quiet : (s : Store F P H) (u : Usage) (t : ℕ) → Quiet (fast_or_through c s u t)
  fast_quiet s u t =
      quiet_if (may_be_fast c s u t) (quiet_if (is_some (patch_at s t)) (quiet_ask (λ _. quiet_done)) (quiet_ask (λ g. slot_quiet s t g))) quiet_done

  choose_quiet : (s : Store F P H) (u : Usage) (t : ℕ) → Quiet (choose c s u t)
  unfolding G.choose
  choose_quiet s u t =
      quiet_if (is_loose s t) (quiet_if u.provisional (quiet_ask (λ _. quiet_done)) quiet_done)
      (quiet_if (u.provisional && is_clean c (frame_at s t)) (quiet_ask (λ listed. quiet_if listed quiet_done (fast_quiet s u t))) (fast_quiet s u t))

  pub write_once : (s : Store F P H) (u : Usage) (first t : ℕ) (old : Image) (e : Edit) → OnBoth None (sides_of s) → MayWrite (write c s u first t old e)
  unfolding E.write
  write_once s u first t old e o =
      once_tried s _ tt
      (once_then (write_chosen c u first t old e) (once_always (choice_fits c s u t) (once_quiet {q = λ z a. ⊥} (choose_quiet s u t)))
      (λ z choice k. subst (λ (y : Store F P H). MayWrite (write_chosen c u first t old e y choice)) (sym k.0.same) (chosen_once u first t old e s choice o))
      (λ z choice k. absurd k.1))
