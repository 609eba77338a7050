-- While the cache isn't lost, each track with a patch has a frame: so it is behind each event in which no call fails.
use Rattle.std.proofs.Common.{◌≡◌, ℕ, Bool, true, false, List, Option, Some, None, is_some, set, get_or, option_map, refl, sym, ap, subst, ◌∙◌, ◌⊎◌, inl, inr}
use Rattle.std.proofs.lemmas.Bool.{cases_eq}
use Rattle.std.specs.Prelude.{if◌then◌else◌, ◌&&◌, ◌||◌, not}
use Rattle.ckd_types.specs.declared.paths.Side.{Side}
use Rattle.ckd_types.specs.declared.paths.Side.TheVariants as sides
use Rattle.ckd_types.specs.declared.record.Edit.{Edit}
use Rattle.loss_model.specs.declared.Loss.{Loss}
use Rattle.loss_model.specs.declared.Loss.TheVariants as losses
use Rattle.track_image.specs.Image.{Image}
use Rattle.device_outside.specs.Interaction.{Interaction}
use Rattle.device_defs.specs.Choosing.{patch_with}
use Rattle.device_defs.specs.Command.{command}
use Rattle.device_defs.specs.Contents.{Contents}
use Rattle.device_defs.specs.Cutting.{reset}
use Rattle.device_defs.specs.Device.{Device}
use Rattle.device_defs.specs.Effects.{loosened, hardened, with_loose_edit}
use Rattle.device_defs.specs.Events.{second, background}
use Rattle.device_defs.specs.Losses.{stale_everywhere}
use Rattle.device_defs.specs.Second.{half_closed}
use Rattle.device_defs.specs.Peek.{peek}
use Rattle.device_defs.specs.Store.{Origin, OfCut, HalfWrite, Store, level_at, has_level, takes_b, frame_at, patch_at, is_loose, half_is, with_stale, with_frame}
use Rattle.device_defs.specs.Writing.{write_counted, cleaned}
use Rattle.device_laws.proofs.Bools.{not_true}
use Rattle.device_laws.proofs.FramesKept.{plates_of, HasFrames, but_one, drop_framed, some_framed, unpatched_framed, but_frame, all_framed, patched_framed, opened_framed, closed_but}
use Rattle.device_laws.proofs.Lucky.{Lucky}
use Rattle.device_laws.proofs.TrackMarks.{IsFaithful}
use Rattle.device_laws.proofs.Unlost.{clear_at}
use Rattle.device_laws.proofs.walks.Within.{lucky, within_lucky, within_weaker, none_fails}
use Rattle.device_laws.proofs.walks.Moves.{
  Kind,
  Shut,
  Half,
  Emptied,
  Losing,
  Empties,
  Stales,
  Closes,
  half_done,
  half_untried,
  half_failed,
  half_emptied,
  IsKept,
  moves_keep,
  IsEnded,
  ends_keep,
}
use Rattle.device_laws.proofs.walks.Events.{reaches_any, command_leads, second_leads, background_leads, peek_leads, reset_leads}

-- Events that give up no frames

mild_kind : (kind : Kind) → (Empties kind → ⊥) → (kind ≡ Shut) ⊎ (kind ≡ Half)
mild_kind Shut mild = inl refl
mild_kind Half mild = inr refl
mild_kind Emptied mild = absurd (mild tt)
mild_kind (Losing loss) mild = absurd (mild tt)

pub half_kind : (kind : Kind) → (Empties kind → ⊥) → (kind ≡ Shut → ⊥) → kind ≡ Half
half_kind kind mild unshut = by_kind (mild_kind kind mild)
  where
    by_kind : (kind ≡ Shut) ⊎ (kind ≡ Half) → kind ≡ Half
    by_kind (inl shut) = absurd (unshut shut)
    by_kind (inr half) = half

pub never_losing : {X : Type 0} (kind : Kind) → (Empties kind → ⊥) → (loss : Loss) → kind ≡ Losing loss → X
never_losing kind mild loss lossy = absurd (mild (subst (λ (x : Kind). Empties x) (sym lossy) tt))

pub never_stale : {X : Type 0} (kind : Kind) → (Empties kind → ⊥) → Stales kind → X
never_stale Shut mild stales = absurd stales
never_stale Half mild stales = absurd stales
never_stale Emptied mild stales = absurd (mild tt)
never_stale (Losing loss) mild stales = absurd (mild tt)

-- A side that has a track has it when it takes another

pub level_still : (up : Bool) (l : List Bool) (t q : ℕ) → (up && not (get_or l q false)) ≡ true → (up && not (get_or (set l t false) q false)) ≡ true
level_still true l t q e = ap not (clear_at l t q (cases_eq q t) (λ ne. not_true (get_or l q false) e))
level_still false l t q e = absurd (cc)

pub or_on : (a x b : Bool) → (a ≡ true → x ≡ true) → (a || b) ≡ true → (x || b) ≡ true
or_on true x b f e = ap (λ (y : Bool). y || b) (f refl)
or_on false true b f e = refl
or_on false false b f e = e

and_on : (a b y : Bool) → (b ≡ true → y ≡ true) → (a || b) ≡ true → (a || y) ≡ true
and_on true b y f e = refl
and_on false b y f e = f e

pub levels_still : {F P H : Type 0} (z : Store F P H) (side : Side) (t q : ℕ) → has_level z q ≡ true → has_level (with_stale z side t false) q ≡ true
levels_still z sides.A t q e = or_on (level_at z.a q) _ (level_at z.b q) (level_still z.a.up z.a.stale t q) e
levels_still z sides.B t q e = and_on (level_at z.a q) (level_at z.b q) _ (level_still z.b.up z.b.stale t q) e

module _ {F P H R : Type 0} (c : Contents F P H R) where
  -- side B is tried for the half write that is open, or a side has its track
  abbrev pub IsTried : Kind → Store F P H → Type 0
  IsTried kind z = kind ≡ Half → (h : HalfWrite H) → z.half ≡ Some h → (takes_b z ≡ true) ⊎ (has_level z h.track ≡ true)

  -- or none is open
  abbrev pub IsOpen : Kind → Store F P H → Type 0
  IsOpen kind z = (kind ≡ Shut → z.half ≡ None) × IsTried kind z

  pub tried_level : (kind : Kind) (z : Store F P H) (side : Side) (t : ℕ) → IsTried kind z → IsTried kind (with_stale z side t false)
  tried_level kind z sides.A t f = λ e h is. leveled h (f e h is)
    where
      leveled : (h : HalfWrite H) → (takes_b z ≡ true) ⊎ (has_level z h.track ≡ true) →
          (takes_b z ≡ true) ⊎ (has_level (with_stale z sides.A t false) h.track ≡ true)
      leveled h (inl takes) = inl takes
      leveled h (inr level) = inr (levels_still z sides.A t h.track level)
  tried_level kind z sides.B t f = λ e h is. leveled h (f e h is)
    where
      leveled : (h : HalfWrite H) → (takes_b z ≡ true) ⊎ (has_level z h.track ≡ true) →
          (takes_b z ≡ true) ⊎ (has_level (with_stale z sides.B t false) h.track ≡ true)
      leveled h (inl takes) = inl takes
      leveled h (inr level) = inr (levels_still z sides.B t h.track level)

  pub level_open : (kind : Kind) (z : Store F P H) (side : Side) (t : ℕ) → IsOpen kind z → IsOpen kind (with_stale z side t false)
  level_open kind z sides.A t f = (f.0, tried_level kind z sides.A t f.1)
  level_open kind z sides.B t f = (f.0, tried_level kind z sides.B t f.1)

  -- why an open half write ends: not untried
  pub not_untried : {X : Type 0} (kind : Kind) (z : Store F P H) (h : HalfWrite H) → kind ≡ Half → IsTried kind z → z.half ≡ Some h →
      has_level z h.track ≡ false → takes_b z ≡ false → X
  not_untried {X} kind z h half f is none off = tried (f half h is)
    where
      tried : (takes_b z ≡ true) ⊎ (has_level z h.track ≡ true) → X
      tried (inl takes) = absurd (let both : true ≡ false = sym takes ∙ off in cc)
      tried (inr level) = absurd (let both : true ≡ false = sym level ∙ none in cc)

  pub closed_open : (kind : Kind) (z : Store F P H) → IsOpen kind (half_closed z)
  closed_open kind z = (λ e. refl, λ e h is. absurd (cc))

  -- a command whose half write it is was cut
  pub tried_cut : (kind : Kind) (z : Store F P H) (h : HalfWrite H) (bypass : Bool) → z.half ≡ Some h → IsTried kind z →
      IsTried kind (record z { half = Some (record h { origin = OfCut bypass }) })
  tried_cut kind z h bypass is f = λ e k same. of_track k same (f e h is)
    where
      of_track : (k : HalfWrite H) → Some (record h { origin = OfCut bypass }) ≡ Some k → (takes_b z ≡ true) ⊎ (has_level z h.track ≡ true) →
          (takes_b z ≡ true) ⊎ (has_level z k.track ≡ true)
      of_track k same x =
          let tracks : Some h.track ≡ Some k.track = ap (option_map (λ (y : HalfWrite H). y.track)) same in
          let at : h.track ≡ k.track = cc in
          subst (λ (q : ℕ). (takes_b z ≡ true) ⊎ (has_level z q ≡ true)) at x

  -- no track is written for the first time while a half write may be open
  pub never_both : {X : Type 0} (kind : Kind) → kind ≡ Shut → kind ≡ Half → X
  never_both kind shut half = absurd (let both : Shut ≡ Half = sym shut ∙ half in cc)

  module _ (faithful : IsFaithful c) where
    abbrev So : Kind → Store F P H → Type 0
    So kind z = HasFrames c (plates_of z) × IsOpen kind z

    marked : (kind : Kind) (z : Store F P H) (t : ℕ) (x b : Bool) → kind ≡ Shut → So kind z →
        So kind (if b then with_stale (with_stale z sides.A t x) sides.B t true else with_stale z sides.A t x)
    marked kind z t x true is f = (f.0, (f.1.0, λ e. never_both kind is e))
    marked kind z t x false is f = (f.0, (f.1.0, λ e. never_both kind is e))

    filled : (z : Store F P H) (t : ℕ) (i : Image) (patched : Bool) → is_some (patch_at z t) ≡ patched → HasFrames c (plates_of z) →
        HasFrames c (plates_of (with_frame z t (Some (c.frame i patched))))
    filled z t i true e f = some_framed c (plates_of z) t (c.frame i true) (inl (faithful.made i true)) f
    filled z t i false e f = some_framed c (plates_of z) t (c.frame i false) (inr e) f

    framed : (z : Store F P H) (t : ℕ) (o : Option F) → patch_at z t ≡ None → HasFrames c (plates_of z) → HasFrames c (plates_of (with_frame z t o))
    framed z t o bare f =
        all_framed c (record (plates_of z) { frames = set z.frames t o }) t (but_frame c (plates_of z) t o (but_one c t (plates_of z) f))
        (ap (λ (p : Option P). is_some p) bare)

    provisional : (kind : Kind) (z : Store F P H) (t : ℕ) (i : Image) (e : Edit) (b : Bool) → So kind z →
        So kind (with_loose_edit (with_frame (if b then z else loosened z t) t (Some (c.frame i true))) t e)
    provisional kind z t i e true f = (some_framed c (plates_of z) t (c.frame i true) (inl (faithful.made i true)) f.0, f.1)
    provisional kind z t i e false f = (some_framed c (plates_of z) t (c.frame i true) (inl (faithful.made i true)) f.0, f.1)

    closing : (kind : Kind) (z : Store F P H) → (Empties kind → ⊥) → Closes lucky kind z → So kind z → So kind (half_closed z)
    closing kind z mild (half_done h is level bare) f = (
      all_framed c (record (plates_of z) { half = None }) h.track (closed_but c (plates_of z) h is f.0)
          (ap (λ (p : Option P). is_some p) bare),
      closed_open kind z,
    )
    closing kind z mild (half_untried unshut h is none off) f = not_untried kind z h (half_kind kind mild unshut) f.1.1 is none off
    closing kind z mild (half_failed why) f = none_fails why
    closing kind z mild (half_emptied may) f = absurd (mild may)

    cut : (z : Store F P H) (h : HalfWrite H) (bypass : Bool) → z.half ≡ Some h → HasFrames c (plates_of z) →
        HasFrames c (record (plates_of z) { half = Some (record h { origin = OfCut bypass }) })
    cut z h bypass is f = record {
      framed = λ q none. f.framed q (ap (λ (o : Option (HalfWrite H)). half_is o q) is ∙ none);
      clean = λ q none. f.clean q (ap (λ (o : Option (HalfWrite H)). half_is o q) is ∙ none);
    }

    frames_kept : (kind : Kind) → (Empties kind → ⊥) → IsKept lucky kind c (λ n z. HasFrames c (plates_of z) × IsOpen kind z)
    frames_kept kind mild = record {
      reads = λ m n z ok is f. f;
      writes = λ m n z ok is f. f;
      falls_reading = λ m n z side pair is f. absurd (cc);
      falls_writing = λ m n z side pair is f. absurd (cc);
      falls = λ n z side lost f. never_losing kind mild (losses.Side side) lost;
      takes = λ n z t is up f. marked kind z t false z.b.up is f;
      levels = λ n z side t f. (level_frames z side t f.0, level_open kind z side t f.1);
      spoils = λ n z t is alone why f. none_fails why;
      stales = λ n z t other away f. never_stale kind mild away;
      firms = λ n z t is loose why f. marked kind (hardened z t) t true z.paired is f;
      firms_taken = λ m n z t is loose up wrote f. let y = stale_everywhere (hardened z t) t in
          marked kind (write_counted y true) t false y.b.up is (marked kind (hardened z t) t true z.paired is f);
      marks = λ n z t g bare is clean f. (some_framed c (plates_of z) t (c.marked g true) (inl (faithful.marked g true)) f.0, f.1);
      hardens = λ n z t bare loose f. f;
      loses = λ n z t bare none half f. f;
      drops = λ n z t clean f. (drop_framed c (plates_of z) t clean f.0, f.1);
      fills = λ n z t i patched is level f. (filled z t i patched is f.0, f.1);
      frames = λ n z t o bare why f. (framed z t o bare f.0, f.1);
      renews = λ n z t i g bare is f. (framed z t (Some (c.frame i (c.modified g))) bare f.0, f.1);
      unframes = λ n z t may f. absurd (mild may);
      patches = λ n z t f. (unpatched_framed c (plates_of z) t f.0, f.1);
      unpatches = λ n z t slot f. (unpatched_framed c (plates_of z) t f.0, f.1);
      queues = λ n z t room f. f;
      dequeues = λ n z ts less f. f;
      edits = λ n z t e f. f;
      goes_fast = λ n z t i e slot there f.
          (patched_framed c (plates_of z) t (c.frame i true) (patch_with c e slot (patch_at z t)) (faithful.made i true) there f.0, f.1);
      goes_provisionally = λ n z t i e is f. provisional kind z t i e (is_loose z t) f;
      goes_back = λ n z may some f. f;
      loses_loose = λ n z lossy some f. f;
      closes = λ n z why f. closing kind z mild why f;
      cuts = λ n z h bypass e is f. (cut z h bypass is f.0, (λ e. absurd (let both : None ≡ Some h = sym (f.1.0 e) ∙ is in cc), tried_cut kind z h bypass is f.1.1));
      notes = λ n z loss lossy f. never_losing kind mild loss lossy;
      pays = λ n z t o f. f;
    }
      where
        level_frames : (z : Store F P H) (side : Side) (t : ℕ) → HasFrames c (plates_of z) → HasFrames c (plates_of (with_stale z side t false))
        level_frames z sides.A t f = f
        level_frames z sides.B t f = f

    opened : (kind : Kind) (z : Store F P H) (t : ℕ) (i : Image) (origin : Origin) (o : Option F) → kind ≡ Shut → So kind z →
        HasFrames c (record (plates_of z) { frames = set z.frames t o; half = Some (record { track = t; origin = origin; image = c.half i }) })
    opened kind z t i origin o is f =
        opened_framed c (record (plates_of z) { frames = set z.frames t o }) (record { track = t; origin = origin; image = c.half i })
        (but_frame c (plates_of z) t o (but_one c t (plates_of z) f.0)) (f.1.0 is)

    frames_ended : (kind : Kind) → IsEnded lucky kind c (λ n z. HasFrames c (plates_of z) × IsOpen kind z) (λ n z. HasFrames c (plates_of z))
    frames_ended kind = record {
      weaker = λ n z f. f.0;
      opens = λ n z t i origin is may firm f.
          opened_framed c (plates_of z) (record { track = t; origin = origin; image = c.half i }) (but_one c t (plates_of z) f.0) (f.1.0 is);
      opens_cleaned = λ n z t i origin is may firm f. opened kind z t i origin (cleaned c (frame_at z t)) is f;
      pays = λ n z t o f. f;
    }

    -- Whole events

    abbrev pub DeviceFrames : {A : Type 0} → Interaction R Image (Device F P H) A → Type 0
    DeviceFrames i = Lucky (λ e a. HasFrames c (plates_of e.store)) i

    shut_open : (d : Device F P H) → d.store.half ≡ None → IsOpen Shut d.store
    shut_open d none = (λ e. none, λ e. absurd (cc))

    pub command_frames : (d : Device F P H) → d.store.half ≡ None → HasFrames c (plates_of d.store) → DeviceFrames (command c d)
    command_frames d none f =
        within_lucky (command_leads lucky c tt d (reaches_any (λ t. tt)) (λ chain t is e. tt) (λ n e. HasFrames c (plates_of e.store)) f
        (λ n e m. ends_keep (frames_kept Shut (λ may. may)) (frames_ended Shut) (f, shut_open d none) m))

    pub background_frames : (d : Device F P H) → d.store.half ≡ None → HasFrames c (plates_of d.store) → DeviceFrames (background c d)
    background_frames d none f =
        within_lucky (within_weaker (background_leads lucky c tt d (λ t ts is. tt))
        (λ n e a m. ends_keep (frames_kept Shut (λ may. may)) (frames_ended Shut) (f, shut_open d none) m))

    pub reset_frames : (d : Device F P H) (path : ℕ) →
        ((h : HalfWrite H) → d.store.half ≡ Some h → (takes_b d.store ≡ true) ⊎ (has_level d.store h.track ≡ true)) →
        HasFrames c (plates_of d.store) → DeviceFrames (reset c d path)
    reset_frames d path tried f =
        within_lucky (within_weaker (reset_leads lucky Half c tt d path)
        (λ n e a m. (moves_keep (frames_kept Half (λ may. may)) (f, (λ e. absurd (cc), λ e. tried)) m).0))

    pub second_event_frames : (d : Device F P H) →
        ((h : HalfWrite H) → d.store.half ≡ Some h → (takes_b d.store ≡ true) ⊎ (has_level d.store h.track ≡ true)) →
        HasFrames c (plates_of d.store) → DeviceFrames (second c d)
    second_event_frames d tried f =
        within_lucky (within_weaker (second_leads lucky c tt d Half (λ e. absurd (cc)))
        (λ n e a m. ends_keep (frames_kept Half (λ may. may)) (frames_ended Half) (f, (λ e. absurd (cc), λ e. tried)) m))

    pub peek_frames : (d : Device F P H) (t : ℕ) →
        ((h : HalfWrite H) → d.store.half ≡ Some h → (takes_b d.store ≡ true) ⊎ (has_level d.store h.track ≡ true)) →
        HasFrames c (plates_of d.store) → DeviceFrames (peek c d t)
    peek_frames d t tried f =
        within_lucky (within_weaker (peek_leads lucky c tt d Half t tt)
        (λ n e a m. ends_keep (frames_kept Half (λ may. may)) (frames_ended Half) (f, (λ e. absurd (cc), λ e. tried)) m))
