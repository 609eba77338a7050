-- The parts of an event over a run's device, and what each leaves of its plain device's.
use Rattle.std.proofs.Common.{
  ◌≡◌,
  ◌<◌,
  ◌≤◌,
  ◌==◌,
  ◌&&◌,
  zero,
  suc,
  ℕ,
  not,
  Bool,
  true,
  false,
  List,
  Option,
  Some,
  None,
  is_some,
  length,
  refl,
  sym,
  ap,
  subst,
  ◌∙◌,
  arith,
  inl,
  inr,
}
use Rattle.std.specs.Prelude.{◌⊎◌, ⊤, nat_le, if◌then◌else◌}
use Rattle.std.proofs.lemmas.Bool.{cond_both, cases_lt, le-leb}
use Rattle.std.proofs.lemmas.List.{length-set, get_or_past}
use Rattle.ckd_types.specs.declared.geometry.Geometry.{Geometry}
use Rattle.ckd_types.specs.declared.paths.Side.{Side}
use Rattle.ckd_types.specs.declared.paths.Side.TheVariants.{A, B}
use Rattle.ckd_types.specs.declared.record.Edit.{Edit}
use Rattle.ckd_types.specs.declared.record.Track.{Track}
use Rattle.ckd_types.specs.Parameters.{is_bypass}
use Rattle.ckd_types.specs.Volume.{track_in}
use Rattle.plain_defs.specs.PlainState.{PlainState}
use Rattle.track_image.specs.Image.{Image, edited_image}
use Rattle.device_outside.specs.Interaction.{Done}
use Rattle.device_outside.specs.declared.port.SlotGrant.{SlotGrant}
use Rattle.device_outside.specs.declared.port.SlotGrant.TheVariants as grants
use Rattle.device_defs.specs.declared.answers.Choice.{Choice}
use Rattle.device_defs.specs.declared.answers.Choice.TheVariants.{Provisional, Fast, Through}
use Rattle.device_defs.specs.declared.answers.Took.{Took}
use Rattle.device_defs.specs.declared.answers.Took.TheVariants.{Whole, Opened, Unwritten}
use Rattle.device_defs.specs.declared.usage.Usage.{Usage}
use Rattle.device_defs.specs.Choosing as C
use Rattle.device_defs.specs.Choosing.{choose, fast_or_through, slot_by, may_be_fast, fast_written, provisionally_written}
use Rattle.device_defs.specs.Contents.{by_plain}
use Rattle.device_defs.specs.Editing as E
use Rattle.device_defs.specs.Editing.{whole, at_once, through, through_by, written, write_by, write_chosen, write, is_given, another_loose}
use Rattle.device_defs.specs.Effects as F
use Rattle.device_defs.specs.Effects.{with_edit, with_loose_edit, hardened}
use Rattle.device_defs.specs.Image as I
use Rattle.device_defs.specs.Image.{
  Got,
  Imaged,
  Has,
  NoBytes,
  BadTrack,
  level_bytes,
  read_b,
  first_read,
  second_read,
  image,
  image_by,
  miss,
  missed,
  delivered,
  loaded,
  loads,
  granted,
  image_of,
  ahead,
}
use Rattle.device_defs.specs.Losses as L
use Rattle.device_defs.specs.Losses.{
  settled,
  by_frame,
  kept_by_frame,
  hardened_by_loss,
  lost_now,
  gives_up,
  slot_in,
  stale_everywhere,
  owes_modified,
  call_failed,
  all_firm_told,
  side_lost,
  settled_but,
  over,
  down,
}
use Rattle.device_defs.specs.Marks.{MarksStore}
use Rattle.device_defs.specs.Owed.{hear, is_clean, noted_end}
use Rattle.device_defs.specs.Store.{
  Origin,
  OfCommand,
  HalfWrite,
  tracks_of,
  has_level,
  level_at,
  frame_at,
  patch_at,
  is_lost,
  is_loose,
  half_is,
  owed_at,
  takes_b,
  plain_at,
  with_frame,
  with_lost,
  with_stale,
}
use Rattle.device_defs.specs.Writing as W
use Rattle.device_defs.specs.Writing.{
  wrote,
  firm_first,
  unwritten,
  write_first,
  first_a,
  failed_a,
  alone_b,
  write_second,
  write_done,
  taken_a,
  cleaned,
  write_opened,
}
use Rattle.device_laws.proofs.Bools.{not_true}
use Rattle.device_laws.proofs.Had.{Had, had_done, had_try, had_ask, had_read, had_write, had_tell, had_if, had_then}
use Rattle.device_laws.proofs.CacheLost.{none_below}
use Rattle.device_laws.proofs.PlainStores.{
  Core,
  Open,
  core_of,
  loose_at,
  Walks,
  walks_on,
  walks_hardened,
  hardened_core,
  loosened_core,
  edited_core,
  loosely_edited_core,
  with_half,
  put_false,
  put_keeps,
}
use Rattle.device_laws.proofs.PoolWalks.{asks_had, hear_asks, ended_asks, done_asks}
use Rattle.device_laws.proofs.WholeImage.{ahead_only}

-- What leaves the core

pub framed_same : (s : MarksStore) (t : ℕ) (f : Option Bool) → core_of (with_frame s t f) ≡ core_of s
framed_same s t f = ap (λ (n : ℕ). record (core_of s) { frames = n }) (length-set s.frames t f)

pub stale_same : (s : MarksStore) (side : Side) (t : ℕ) (b : Bool) → core_of (with_stale s side t b) ≡ core_of s
stale_same s A t b = refl
stale_same s B t b = refl

ahead_same : (u : Usage) (s : MarksStore) (t : ℕ) → core_of (ahead u s t) ≡ core_of s
ahead_same u s t = ap core_of (ahead_only u s t)

pub patch_same : (s : MarksStore) (t : ℕ) (o : Option ℕ) → core_of (gives_up s t o) ≡ core_of s
patch_same s t None = refl
patch_same s t (Some slot) = refl

pub everywhere_same : (s : MarksStore) (t : ℕ) → core_of (stale_everywhere s t) ≡ core_of s
everywhere_same s t =
    cond_both s.paired (with_stale (with_stale s A t true) B t true) (with_stale s A t true) (λ (z : MarksStore). core_of z ≡ core_of s)
    (λ e. refl) (λ e. refl)

-- The notices, and the end of an event

pub hear_same : (n : ℕ) (s : MarksStore) → Had (hear by_plain n s) (λ y (_ : Unit {0}). core_of y ≡ core_of s)
hear_same n s = asks_had (hear_asks by_plain (λ z. core_of z ≡ core_of s) (λ z t clean e. framed_same z t None ∙ e) n s refl)

pub ended_same : (before : ℕ) (s : MarksStore) → Had (noted_end by_plain before s) (λ y (_ : Unit {0}). core_of y ≡ core_of s)
ended_same before s = asks_had (ended_asks by_plain (λ z. core_of z ≡ core_of s) (λ z t e. e) before s refl)

-- What a loss of a side leaves

pub taken_same : (s : MarksStore) (t : ℕ) → core_of (taken_a s t) ≡ core_of s
taken_same s t =
    cond_both s.b.up (with_stale (with_stale s A t false) B t true) (with_stale s A t false) (λ (z : MarksStore). core_of z ≡ core_of s) (λ _. refl)
    (λ _. refl)

pub down_same : (s : MarksStore) (side : Side) → core_of (down s side) ≡ core_of s
down_same s A = refl
down_same s B = refl

-- whatever a loose track that becomes firm leaves
module _ (P : Core → Type 0) (hard : (c : Core) (t : ℕ) → P c → loose_at c t ≡ true → P (hardened_core c t)) where
  abbrev Holds : MarksStore → Type 0
  Holds s = P (core_of s)

  holds_by : (s z : MarksStore) → core_of z ≡ core_of s → Holds s → Holds z
  holds_by s z e w = subst P (sym e) w

  kept_holds : (s : MarksStore) (t : ℕ) (f : Bool) → Holds s → Holds (kept_by_frame by_plain s t f)
  kept_holds s t f w = cond_both f s (owes_modified (with_frame s t (Some true)) t) Holds (λ _. w)
      (λ _. holds_by s (with_frame s t (Some true)) (framed_same s t (Some true)) w)

  frame_holds : (s : MarksStore) (t : ℕ) (f : Option Bool) → Holds s → Holds (by_frame by_plain s t f)
  frame_holds s t (Some f) w = cond_both (is_loose s t) (hardened_by_loss s t) (kept_by_frame by_plain s t f) Holds (λ is. hard (core_of s) t w is)
      (λ _. kept_holds s t f w)
  frame_holds s t None w =
      cond_both (half_is s.half t) s (lost_now by_plain s t) Holds (λ _. w)
      (λ _. holds_by s (lost_now by_plain s t) (patch_same (with_lost s t) t (slot_in by_plain (patch_at s t))) w)

  pub settled_holds : (s : MarksStore) (t : ℕ) → Holds s → Holds (settled by_plain s t)
  unfolding L.settled
  settled_holds s t w =
      cond_both (is_some s.lent) s (if is_lost s t then s else if has_level s t then s else by_frame by_plain s t (frame_at s t)) Holds (λ _. w)
      (λ _. cond_both (is_lost s t) s (if has_level s t then s else by_frame by_plain s t (frame_at s t)) Holds (λ _. w)
      (λ _. cond_both (has_level s t) s (by_frame by_plain s t (frame_at s t)) Holds (λ _. w) (λ _. frame_holds s t (frame_at s t) w)))

  pub over_holds : (k : ℕ) (f : ℕ → MarksStore → MarksStore) → ((t : ℕ) (z : MarksStore) → Holds z → Holds (f t z)) → (s : MarksStore) → Holds s →
      Holds (over k f s)
  unfolding L.over
  over_holds zero f h s w = w
  over_holds (suc k) f h s w = h k (over k f s) (over_holds k f h s w)

  but_holds : (writing : Option ℕ) (t : ℕ) (z : MarksStore) → Holds z → Holds (settled_but by_plain writing t z)
  but_holds None t z w = settled_holds z t w
  but_holds (Some q) t z w = cond_both (t == q) z (settled by_plain z t) Holds (λ _. w) (λ _. settled_holds z t w)

  pub side_holds : (s : MarksStore) (side : Side) (writing : Option ℕ) → Holds s → Holds (side_lost by_plain s side writing)
  unfolding L.side_lost
  side_holds s side writing w =
      over_holds (tracks_of s) (settled_but by_plain writing) (but_holds writing) (down s side) (holds_by s (down s side) (down_same s side) w)

  pub told_holds : (k : ℕ) (s : MarksStore) → Holds s → Had (all_firm_told by_plain k s) (λ z (_ : Unit {0}). Holds z)
  unfolding L.all_firm_told
  told_holds zero s w = had_done w
  told_holds (suc k) s w =
      had_then (told_holds k s w) (λ z _ v. had_if (owed_at z k).firm (λ _. had_tell (had_done v)) (λ _. had_done v))

  -- a call that fails on a volume that is alone leaves the device
  pub failed_holds : (s : MarksStore) (side : Side) (t : Option ℕ) → Holds s → Had (call_failed by_plain s side t) (λ z (_ : Unit {0}). Holds z)
  failed_holds s side t w =
      had_if s.paired (λ _. told_holds (tracks_of s) (side_lost by_plain s side t) (side_holds s side t w)) (λ _. had_done w)

  second_by : (fault : Option Side) (s : MarksStore) (got : Option Bool) → Holds s → Had (second_read by_plain fault s got) (λ z (_ : Got Bool). Holds z)
  second_by fault s (Some r) w = had_done w
  second_by fault s None w = had_then (failed_holds s B None w) (λ z _ v. had_done v)

  second_holds : (t : ℕ) (s : MarksStore) (fault : Option Side) → Holds s → Had (read_b by_plain s t fault) (λ z (_ : Got Bool). Holds z)
  second_holds t s fault w =
      had_if (level_at s.b t) (λ _. had_read (λ got. second_by fault (I.read_counted s (is_some got)) got w)) (λ _. had_done w)

  first_by : (t : ℕ) (s : MarksStore) (got : Option Bool) → Holds s → Had (first_read by_plain t s got) (λ z (_ : Got Bool). Holds z)
  first_by t s (Some r) w = had_done w
  first_by t s None w = had_then (failed_holds s A None w) (λ z _ v. second_holds t z (Some A) v)

  -- the bytes of a track
  pub bytes_hold : (s : MarksStore) (t : ℕ) → Holds s → Had (level_bytes by_plain s t) (λ z (_ : Got Bool). Holds z)
  unfolding I.level_bytes
  bytes_hold s t w =
      had_if (level_at s.a t) (λ _. had_read (λ got. first_by t (I.read_counted s (is_some got)) got w)) (λ _. second_holds t s None w)

  tried_holds : (t : ℕ) (s : MarksStore) (ok : Bool) → Holds s → Had (W.tried_b by_plain t s ok) (λ z (_ : Unit {0}). Holds z)
  tried_holds t s ok w =
      had_if ok (λ _. had_done (holds_by s (with_stale s B t false) (stale_same s B t false) w)) (λ _. failed_holds s B (Some t) w)

  -- the other part of a write
  pub second_part_holds : (s : MarksStore) (t : ℕ) (r : Bool) → Holds s → Had (write_second by_plain s t r) (λ z (_ : Unit {0}). Holds z)
  unfolding W.write_second
  second_part_holds s t r w = had_if (takes_b s) (λ _. had_write (λ ok. tried_holds t (W.write_counted s ok) ok w)) (λ _. had_done w)

-- Behind a write that is done

pub done_same : (s : MarksStore) (t : ℕ) (i : Image) (bypass : Bool) → Had (write_done by_plain s t i bypass) (λ y (_ : Unit {0}). core_of y ≡ core_of s)
done_same s t i bypass =
    asks_had (done_asks by_plain (λ z. core_of z ≡ core_of s) (λ z q o e. framed_same z q o ∙ e) (λ z q e. e) s t i bypass refl)

abbrev pub opened_half : ℕ → Origin → Option (HalfWrite (Unit {0}))
opened_half t origin = Some (record { track = t; origin = origin; image = tt })

-- a half write is opened
pub opened_core : (s : MarksStore) (t : ℕ) (i : Image) (origin : Origin) (was : Bool) →
    Had (write_opened by_plain s t i origin was) (λ z (_ : Unit {0}). core_of z ≡ with_half (core_of s) (opened_half t origin))
opened_core s t i origin was =
    had_if was
    (λ _. had_ask (λ _. had_done (ap (λ (c : Core). with_half c (opened_half t origin)) (framed_same s t (cleaned by_plain (frame_at s t))))))
    (λ _. had_done refl)

module _ (p : PlainState) (u : List Track) (g : Geometry) (n : ℕ) (m : Open) where
  abbrev pub On : MarksStore → Type 0
  On s = Walks p u g n m (core_of s)

  pub failed_on : (s : MarksStore) (side : Side) (t : Option ℕ) → On s → Had (call_failed by_plain s side t) (λ z (_ : Unit {0}). On z)
  failed_on s side t w = failed_holds (Walks p u g n m) (walks_hardened p u g n m) s side t w

  pub bytes_on : (s : MarksStore) (t : ℕ) → On s → Had (level_bytes by_plain s t) (λ z (_ : Got Bool). On z)
  bytes_on s t w = bytes_hold (Walks p u g n m) (walks_hardened p u g n m) s t w

  pub settled_on : (s : MarksStore) (t : ℕ) → On s → On (settled by_plain s t)
  settled_on s t w = settled_holds (Walks p u g n m) (walks_hardened p u g n m) s t w

  -- The image of a track is that of the plain volume

  abbrev pub plain_image : ℕ → Image
  plain_image t = record { geometry = g; track = track_in u t }

  abbrev pub ImageOf : ℕ → Option Imaged → Type 0
  ImageOf t (Some (Has i)) = i ≡ record { geometry = g; track = track_in u t }
  ImageOf t (Some (NoBytes fault)) = ⊤
  ImageOf t (Some (BadTrack side)) = ⊤
  ImageOf t None = ⊥

  pub record Imaging (t : ℕ) (z : MarksStore) (a : Option Imaged) : Type 0 where
    pub on : On z
    pub image : ImageOf t a

  module _ (t : ℕ) where
    plain_here : (z : MarksStore) → On z → plain_at z t ≡ plain_image t
    plain_here z w =
        ap (λ (x : Geometry). record { geometry = x; track = track_in z.plain t }) w.geometry
        ∙ ap (λ (x : List Track). record { geometry = g; track = track_in x t }) w.plain

    filled_so : (z : MarksStore) (i : Image) → On z → i ≡ plain_image t → Had (granted by_plain z t i true) (λ y a. Imaging t y a)
    filled_so z i w is = had_then {p = λ y _. On y}
        (had_if (is_some (patch_at z t)) (λ _. had_ask (λ _. had_done (walks_on p u g n m (framed_same z t (Some true)) w)))
        (λ _. had_done (walks_on p u g n m (framed_same z t (Some false)) w)))
        (λ y _ v. had_done (record { on = v; image = is }))

    loaded_so : (z : MarksStore) (i : Image) (v : Usage) → On z → i ≡ plain_image t → Had (loaded by_plain z t i v.mode) (λ y a. Imaging t y a)
    loaded_so z i v w is =
        had_if (loads v.mode)
        (λ _. had_try (had_ask (λ given. had_if given (λ _. filled_so z i w is) (λ _. had_done (record { on = w; image = is })))))
        (λ _. had_done (record { on = w; image = is }))

    delivered_so : (z : MarksStore) (v : Usage) (side : Side) (r : Bool) → On z →
        Had (delivered by_plain v t side z (image_of by_plain z t r)) (λ y a. Imaging t y a)
    delivered_so z v side true w = loaded_so (ahead v z t) (plain_at z t) v (walks_on p u g n m (ahead_same v z t) w) (plain_here z w)
    delivered_so z v side false w = had_done (record { on = w; image = tt })

    missed_so : (z : MarksStore) (v : Usage) (k : Got Bool) (b : Option Bool) → On z → Had (missed by_plain v t z k b) (λ y a. Imaging t y a)
    missed_so z v k None w = had_done (record { on = w; image = tt })
    missed_so z v k (Some r) w = had_try (delivered_so z v k.side r w)

    miss_so : (z : MarksStore) (v : Usage) → On z → Had (miss by_plain z v t) (λ y a. Imaging t y a)
    miss_so z v w = had_then (bytes_on z t w) (λ y k x. missed_so y v k k.bytes x)

    by_frame_so : (s : MarksStore) (v : Usage) (f : Option Bool) → On s → Had (image_by by_plain s v t f) (λ y a. Imaging t y a)
    by_frame_so s v None w = miss_so s v w
    by_frame_so s v (Some f) w =
        had_if f (λ _. had_done (record { on = w; image = plain_here s w }))
        (λ _. had_if (is_bypass v.mode) (λ _. miss_so s v w)
        (λ _. had_ask (λ listed. had_if listed (λ _. had_done (record { on = w; image = plain_here s w }))
        (λ _. miss_so (with_frame s t None) v (walks_on p u g n m (framed_same s t None) w)))))

    pub image_so : (s : MarksStore) (v : Usage) → On s → Had (image by_plain s v t) (λ y a. Imaging t y a)
    unfolding I.image
    image_so s v w = by_frame_so s v (frame_at s t) w

  -- Writes

  -- this track is firm, and so are some others
  pub record FirmAt (R : ℕ → Type 0) (t : ℕ) (c : Core) : Type 0 where
    pub on : Walks p u g n m c
    pub firm : loose_at c t ≡ false
    pub others : (q : ℕ) → R q → loose_at c q ≡ false

  module _ (R : ℕ → Type 0) (t : ℕ) where
    abbrev pub Firm : MarksStore → Type 0
    Firm s = FirmAt R t (core_of s)

    pub firm_hardened : (c : Core) (k : ℕ) → FirmAt R t c → loose_at c k ≡ true → FirmAt R t (hardened_core c k)
    firm_hardened c k f is = record {
      on = walks_hardened p u g n m c k f.on is;
      firm = put_keeps c.loose k t f.firm;
      others = λ q r. put_keeps c.loose k q (f.others q r);
    }

    firm_by : (s z : MarksStore) → core_of z ≡ core_of s → Firm s → Firm z
    firm_by s z e f = subst (FirmAt R t) (sym e) f

    firmed : (s : MarksStore) → On s → is_loose s t ≡ true → ((q : ℕ) → R q → is_loose s q ≡ false) → Firm (stale_everywhere (hardened s t) t)
    firmed s w is others = firm_by (hardened s t) (stale_everywhere (hardened s t) t) (everywhere_same (hardened s t) t) (record {
      on = walks_hardened p u g n m (core_of s) t w is;
      firm = put_false s.loose t;
      others = λ q r. put_keeps s.loose t q (others q r);
    })

    pub firm_first_on : (s : MarksStore) → On s → ((q : ℕ) → R q → is_loose s q ≡ false) → Had (firm_first by_plain s t) (λ z (_ : Bool). Firm z)
    firm_first_on s w others =
        had_if (is_loose s t) (λ is. had_tell (had_done (firmed s w is others)))
        (λ is. had_done (record { on = w; firm = is; others = others }))

    pub firm_failed : (s : MarksStore) (side : Side) (o : Option ℕ) → Firm s → Had (call_failed by_plain s side o) (λ z (_ : Unit {0}). Firm z)
    firm_failed s side o f = failed_holds (FirmAt R t) firm_hardened s side o f

    abbrev pub FirstTook : MarksStore → Took → Type 0
    FirstTook z Whole = Firm z
    FirstTook z Opened = Firm z
    FirstTook z Unwritten = On z

    unwritten_on : (s : MarksStore) → On s → On (unwritten by_plain s t)
    unwritten_on s w =
        settled_on (if s.paired then s else with_stale s A t true) t
        (cond_both s.paired s (with_stale s A t true) On (λ _. w) (λ _. walks_on p u g n m (stale_same s A t true) w))

    alone_on : (s : MarksStore) (fault : Option Side) (first : Side) (ok : Bool) → Firm s →
        Had (alone_b by_plain t fault first s ok) (λ z w. FirstTook z w.took)
    alone_on s fault first ok f =
        had_if ok (λ _. had_done (firm_by s (with_stale s B t false) (stale_same s B t false) f))
        (λ _. had_then (firm_failed s B (Some t) f) (λ z _ v. had_done (unwritten_on z v.on)))

    failed_first : (s : MarksStore) (r takes : Bool) → Firm s → Had (failed_a by_plain t r takes s) (λ z w. FirstTook z w.took)
    failed_first s r takes f =
        had_if takes (λ _. had_write (λ ok. alone_on (W.write_counted s ok) (Some A) A ok f)) (λ _. had_done (unwritten_on s f.on))

    first_ok : (s : MarksStore) (r : Bool) (ok : Bool) → Firm s → Had (first_a by_plain t r s ok) (λ z w. FirstTook z w.took)
    first_ok s r true f =
        let v = firm_by s (taken_a s t) (taken_same s t) f in
        had_done (cond_both (takes_b s) Opened Whole (λ (k : Took). FirstTook (taken_a s t) k) (λ _. v) (λ _. v))
    first_ok s r false f = had_then (firm_failed s A (Some t) f) (λ z _ v. failed_first z r (takes_b s) v)

    pub first_on : (s : MarksStore) (r : Bool) → Firm s → Had (write_first by_plain s t r) (λ z w. FirstTook z w.took)
    unfolding W.write_first
    first_on s r f =
        had_if s.a.up (λ _. had_write (λ ok. first_ok (W.write_counted s ok) r ok f))
        (λ _. had_if (takes_b s) (λ _. had_write (λ ok. alone_on (W.write_counted s ok) None B ok f)) (λ _. had_done (settled_on s t f.on)))

    -- the other part
    pub second_on : (s : MarksStore) (r : Bool) → Firm s → Had (write_second by_plain s t r) (λ z (_ : Unit {0}). Firm z)
    second_on s r f = second_part_holds (FirmAt R t) firm_hardened s t r f

  -- A command's write

  -- the edit took effect on a track that was firm or loose, or became loose for it
  pub data IsEdited (provisional : Bool) (t : ℕ) (e : Edit) : Core → Type 0 where
    firmly : (c d : Core) → Walks p u g n m c → loose_at c t ≡ false → d ≡ edited_core c t e → IsEdited provisional t e d
    loosely : (c d : Core) → Walks p u g n m c → loose_at c t ≡ true → provisional ≡ true → d ≡ loosely_edited_core c t e → IsEdited provisional t e d
    loosened : (c d : Core) → Walks p u g n m c → loose_at c t ≡ false → t < length c.loose → provisional ≡ true →
        d ≡ loosely_edited_core (loosened_core c t) t e → IsEdited provisional t e d

  -- the first part of its write is done, and all tracks that it looked at are firm
  pub record HalfSo (first t : ℕ) (e : Edit) (c : Core) : Type 0 where
    pub bypass : Bool
    pub before : Core
    pub is : c ≡ with_half before (opened_half t (OfCommand bypass e))
    pub on : Walks p u g n m before
    pub firm : (q : ℕ) → first ≤ q → q ≤ t → loose_at before q ≡ false

  abbrev pub WroteSo : Bool → ℕ → ℕ → Edit → MarksStore → Option Took → Type 0
  WroteSo provisional first t e z (Some Whole) = IsEdited provisional t e (core_of z)
  WroteSo provisional first t e z (Some Opened) = HalfSo first t e (core_of z)
  WroteSo provisional first t e z (Some Unwritten) = On z
  WroteSo provisional first t e z None = ⊥

  module _ (v : Usage) (first t : ℕ) (e : Edit) where
    abbrev Ends : MarksStore → Took → Type 0
    Ends z took = WroteSo v.provisional first t e z (Some took)

    -- the tracks before this one that it looked at, where the write may take two events
    abbrev Looked : Bool → ℕ → Type 0
    Looked opens q = (opens ≡ true) × ((first ≤ q) × (q < t))

    second_false : (a b : Bool) → (a && b) ≡ false → a ≡ true → b ≡ false
    second_false true b is one = is
    second_false false b is one = absurd (cc)

    others_firm : (s : MarksStore) (q : ℕ) → Looked (not (another_loose s first t)) q → is_loose s q ≡ false
    others_firm s q r =
        second_false (nat_le first q) (is_loose s q)
        (none_below t (λ x. nat_le first x && is_loose s x) (not_true (another_loose s first t) r.0) q r.1.1) (le-leb first q r.1.0)

    looked_firm : (opens : Bool) (c : Core) → FirmAt (Looked opens) t c → opens ≡ true → (q : ℕ) → first ≤ q → q ≤ t → loose_at c q ≡ false
    looked_firm opens c f is q above below = by_place (cases_lt q t) where
      by_place : (q < t) ⊎ (t ≤ q) → loose_at c q ≡ false
      by_place (inl lt) = f.others q (is, (above, lt))
      by_place (inr le) = let same : q ≡ t = omega (arith, below, le) in subst (λ (k : ℕ). loose_at c k ≡ false) (sym same) f.firm

    whole_so : (opens : Bool) (z : MarksStore) (i : Image) (bypass : Bool) → Firm (Looked opens) t z → Had (whole by_plain z t i e bypass) Ends
    whole_so opens z i bypass f =
        had_tell (had_then (done_same (with_edit z t e) t i bypass) (λ y _ same. had_done (firmly (core_of z) (core_of y) f.on f.firm same)))

    at_once_so : (opens : Bool) (z : MarksStore) (i : Image) (bypass : Bool) → Firm (Looked opens) t z → Had (at_once by_plain z t i e bypass) Ends
    at_once_so opens z i bypass f =
        had_then (second_on (Looked opens) t z true f)
        (λ y _ v. had_if (has_level y t) (λ _. whole_so opens y i bypass v) (λ _. had_done (settled_on y t v.on)))

    through_so : (z : MarksStore) (i : Image) (bypass opens was : Bool) (took : Took) → FirstTook (Looked opens) t z took →
        Had (through_by by_plain t i e bypass opens was z took) Ends
    through_so z i bypass opens was Whole f = whole_so opens z i bypass f
    through_so z i bypass opens was Opened f =
        had_if opens
        (λ is. had_then (opened_core z t i (OfCommand bypass e) was)
        (λ y _ same. had_done (record { bypass = bypass; before = core_of z; is = same; on = f.on; firm = looked_firm opens (core_of z) f is })))
        (λ _. at_once_so opens z i bypass f)
    through_so z i bypass opens was Unwritten f = had_done f

    through_on : (s : MarksStore) (i : Image) (bypass : Bool) → On s → Had (through by_plain s t i e bypass (not (another_loose s first t))) Ends
    unfolding E.through
    through_on s i bypass w =
        let opens = not (another_loose s first t) in
        had_then (firm_first_on (Looked (not (another_loose s first t))) t s w (others_firm s))
        (λ z was f. had_then (first_on (Looked (not (another_loose s first t))) t z true f) (λ y wrote h. through_so y i bypass opens was wrote.took h))

    -- what was chosen fits the track
    abbrev Fits : MarksStore → Choice → Type 0
    Fits s Provisional = (v.provisional ≡ true) × ((is_loose s t ≡ true) ⊎ ((is_loose s t ≡ false) × (t < length s.frames)))
    Fits s (Fast slot) = is_loose s t ≡ false
    Fits s Through = ⊤

    abbrev Chosen : MarksStore → MarksStore → Choice → Type 0
    Chosen s z choice = (z ≡ s) × Fits s choice

    slot_fits : (s : MarksStore) (grant : SlotGrant) → is_loose s t ≡ false → Had (slot_by by_plain s t grant) (Chosen s)
    slot_fits s (grants.Given slot) is =
        had_ask (λ listed. had_if listed (λ _. had_done (refl, is)) (λ _. had_ask (λ _. had_done (refl, tt))))
    slot_fits s grants.Denied is = had_done (refl, tt)
    slot_fits s grants.Down is = had_done (refl, tt)

    listed_fits : (s : MarksStore) (listed : Bool) → is_loose s t ≡ false → Had {R = Bool} {I = Image} (Done s (if listed then Fast None else Through))
        (Chosen s)
    listed_fits s true is = had_done (refl, is)
    listed_fits s false is = had_done (refl, tt)

    fast_fits : (s : MarksStore) → is_loose s t ≡ false → Had (fast_or_through by_plain s v t) (Chosen s)
    fast_fits s is =
        had_if (may_be_fast by_plain s v t)
        (λ _. had_if (is_some (patch_at s t)) (λ _. had_ask (λ listed. listed_fits s listed is)) (λ _. had_ask (λ grant. slot_fits s grant is)))
        (λ _. had_done (refl, tt))

    clean_inside : (s : MarksStore) (f : Option Bool) → frame_at s t ≡ f → is_clean by_plain f ≡ true → t < length s.frames
    clean_inside s f is clean = by_place (cases_lt t (length s.frames)) where
      by_place : (t < length s.frames) ⊎ (length s.frames ≤ t) → t < length s.frames
      by_place (inl lt) = lt
      by_place (inr le) =
          let none : f ≡ None = sym is ∙ get_or_past s.frames t None le in
          absurd (let no_frame : false ≡ true = sym (ap (is_clean by_plain) none) ∙ clean in cc)

    both_true : (a b : Bool) → (a && b) ≡ true → (a ≡ true) × (b ≡ true)
    both_true true true e = (refl, refl)
    both_true true false e = absurd (cc)
    both_true false b e = absurd (cc)

    loose_listed : (s : MarksStore) (listed : Bool) → is_loose s t ≡ true → v.provisional ≡ true →
        Had {R = Bool} {I = Image} (Done s (if listed then Provisional else Through)) (Chosen s)
    loose_listed s true is pro = had_done (refl, (pro, inl is))
    loose_listed s false is pro = had_done (refl, tt)

    choose_fits : (s : MarksStore) → Had (choose by_plain s v t) (Chosen s)
    unfolding C.choose
    choose_fits s =
        had_if (is_loose s t)
        (λ is. had_if v.provisional (λ pro. had_ask (λ listed. loose_listed s listed is pro)) (λ _. had_done (refl, tt)))
        (λ is. had_if (v.provisional && is_clean by_plain (frame_at s t))
        (λ both. had_ask (λ listed. had_if listed
        (λ _. let two = both_true v.provisional (is_clean by_plain (frame_at s t)) both in
        had_done (refl, (two.0, inr (is, clean_inside s (frame_at s t) refl two.1))))
        (λ _. fast_fits s is)))
        (λ _. fast_fits s is))

    provisional_so : (s : MarksStore) (i : Image) → On s → v.provisional ≡ true → (is_loose s t ≡ true) ⊎ ((is_loose s t ≡ false) × (t < length s.frames)) →
        IsEdited v.provisional t e (core_of (provisionally_written by_plain s t i e))
    provisional_so s i w pro (inl is) =
        loosely (core_of s) (core_of (provisionally_written by_plain s t i e)) w is pro
        (ap (λ (b : Bool). core_of (with_loose_edit (with_frame (if b then s else F.loosened s t) t (Some true)) t e)) is
        ∙ ap (λ (c : Core). loosely_edited_core c t e) (framed_same s t (Some true)))
    provisional_so s i w pro (inr is) =
        let places = w.places in
        let inside = is.1 in
        loosened (core_of s) (core_of (provisionally_written by_plain s t i e)) w is.0 (omega (arith, places, inside)) pro
        (ap (λ (b : Bool). core_of (with_loose_edit (with_frame (if b then s else F.loosened s t) t (Some true)) t e)) is.0
        ∙ ap (λ (c : Core). loosely_edited_core c t e) (framed_same (F.loosened s t) t (Some true)))

    write_so : (s : MarksStore) (i : Image) (choice : Choice) → On s → Fits s choice → Had (write_by by_plain v first t i e s choice) Ends
    write_so s i Provisional w f = had_done (provisional_so s i w f.0 f.1)
    write_so s i (Fast slot) w f = had_tell (had_done (firmly (core_of s) (core_of (fast_written by_plain s t i e slot)) w f
        (ap (λ (c : Core). edited_core c t e) (framed_same s t (Some true)))))
    write_so s i Through w f = through_on s i (is_bypass v.mode) w

    written_so : (s : MarksStore) (old : Image) (choice : Choice) → On s → Fits s choice →
        Had (written by_plain s v first t old e choice) (λ z a. WroteSo v.provisional first t e z a)
    written_so s old choice w f = had_then (write_so s (edited_image e old) choice w f) (λ z took h. had_done h)

    chosen_so : (s : MarksStore) (old : Image) (choice : Choice) → On s → Fits s choice →
        Had (write_chosen by_plain v first t old e s choice) (λ z a. WroteSo v.provisional first t e z a)
    chosen_so s old choice w f =
        had_if (is_given by_plain s choice) (λ _. had_tell (written_so s old choice w f)) (λ _. written_so s old choice w f)

    pub write_walks : (s : MarksStore) (old : Image) → On s → Had (write by_plain s v first t old e) (λ z a. WroteSo v.provisional first t e z a)
    unfolding E.write
    write_walks s old w =
        had_try (had_then (choose_fits s) (λ z choice f. rw f.0 (chosen_so s old choice w f.1)))
