-- One walk of writes to the volumes, of the second part of one, and of work in the background, into moves.
use Rattle.std.proofs.Common.{
  [],
  ◌≡◌,
  suc,
  ℕ,
  Bool,
  true,
  false,
  List,
  ◌∷◌,
  Option,
  Some,
  None,
  is_some,
  get_or,
  set,
  refl,
  sym,
  ap,
  subst,
  ◌∙◌,
  arith,
  ◌⊎◌,
  inl,
  inr,
}
use Rattle.std.specs.Prelude.{if◌then◌else◌, ◌||◌, not, length}
use Rattle.ckd_types.specs.declared.paths.Side.{Side}
use Rattle.ckd_types.specs.declared.paths.Side.TheVariants as sides
use Rattle.ckd_types.specs.declared.record.Edit.{Edit}
use Rattle.ckd_types.specs.Parameters.{is_bypass}
use Rattle.track_image.specs.Image.{Image, edited_image}
use Rattle.device_outside.specs.Interaction.{Interaction, Done, and_then}
use Rattle.device_defs.specs.declared.answers.Choice.{Choice}
use Rattle.device_defs.specs.declared.answers.Choice.TheVariants.{Provisional, Fast, Through}
use Rattle.device_defs.specs.declared.answers.Did.{Did}
use Rattle.device_defs.specs.declared.answers.Did.TheVariants.{Recovered, Destaged}
use Rattle.device_defs.specs.declared.answers.Took.{Took}
use Rattle.device_defs.specs.declared.answers.Took.TheVariants.{Whole, Opened, Unwritten}
use Rattle.device_defs.specs.declared.usage.Usage.{Usage}
use Rattle.device_defs.specs.Background as B
use Rattle.device_defs.specs.Background.{
  other,
  did,
  copies_to,
  to_copy,
  to_recover,
  to_destage,
  saved_by,
  saved,
  recovered_image,
  recovered_bytes,
  recover,
  copied,
  copy_read,
  copy_by,
  unfilled,
  staged_image,
  staged_bytes,
  stage,
  destage_first,
  stage_first,
  copy_first,
  recover_first,
  work,
}
use Rattle.device_defs.specs.Choosing.{choose}
use Rattle.device_defs.specs.Contents.{Contents}
use Rattle.device_defs.specs.Editing as E
use Rattle.device_defs.specs.Editing.{
  another_loose,
  whole,
  at_once,
  through_by,
  through,
  write_by,
  written,
  is_given,
  clean_again,
  unchosen,
  write_chosen,
  write,
}
use Rattle.device_defs.specs.Effects.{with_edit, hardened}
use Rattle.device_defs.specs.Image.{Got, read_counted, image_of}
use Rattle.device_defs.specs.Losses.{slot_in, gives_up, settled, stale_everywhere, framed_image}
use Rattle.device_defs.specs.Owed.{is_clean}
use Rattle.device_defs.specs.Second as D
use Rattle.device_defs.specs.Second.{half_image_of, half_closed, finished, second_done, cut_kept, left_by, second_by, second_part}
use Rattle.device_defs.specs.Store.{Origin, OfCommand, OfCut, OfBackground, HalfWrite, Store, level_at, has_level, takes_b, frame_at, patch_at, is_lost, is_loose, with_frame, with_patch, with_stale}
use Rattle.device_defs.specs.Writing as V
use Rattle.device_defs.specs.Writing.{
  Wrote,
  write_counted,
  taken_a,
  taken_b,
  firm_first,
  unwritten,
  alone_b,
  failed_a,
  first_a,
  write_first,
  tried_b,
  write_second,
  slot_freed,
  write_done,
  cleaned,
  write_opened,
}
use Rattle.device_laws.proofs.Bools.{and_left, or_left, or_right, up_level}
use Rattle.device_laws.proofs.Choices.{Fits, Chosen, choice_fits}
use Rattle.device_laws.proofs.HeldPlaces.{none_at}
use Rattle.device_laws.proofs.PoolWalks.{choose_asks}
use Rattle.device_laws.proofs.Unlost.{clear}
use Rattle.device_laws.proofs.walks.Within.{
  Policy,
  MayFail,
  write_fails,
  Inner,
  Within,
  within_done,
  within_try,
  within_ask,
  within_read,
  within_write,
  within_tell,
  within_then,
  within_weaker,
  within_if,
  within_tried,
  within_and_always,
  asks_within,
}
use Rattle.device_laws.proofs.walks.Moves.{
  Kind,
  Shut,
  IsFirm,
  IsPlain,
  IsWritten,
  first_written,
  second_written,
  write_failed,
  Closes,
  half_done,
  half_untried,
  half_failed,
  Moves,
  writes,
  takes,
  levels,
  spoils,
  firms,
  firms_taken,
  frames,
  renews,
  patches,
  unpatches,
  dequeues,
  edits,
  goes_fast,
  goes_provisionally,
  closes,
  MayOpen,
  Goes,
  Comes,
  moved,
  opens,
  opens_cleaned,
}
use Rattle.device_laws.proofs.walks.Shells.{still_wants}
use Rattle.device_laws.proofs.walks.Reads.{
  moves_if,
  settled_moves,
  After,
  read_after,
  write_after,
  failed_goes,
  level_goes,
  filled_goes,
  plain_on,
  none_plain,
}

-- Where a half write may be opened

module _ {F P H : Type 0} where
  opens_by : (z : Store F P H) (t : ℕ) (b : Bool) → z.a.up ≡ true → takes_b z ≡ true →
      MayOpen (if b then with_stale (with_stale z sides.A t false) sides.B t true else with_stale z sides.A t false) t
  opens_by z t true up both = (up, both, clear z.a.stale t)
  opens_by z t false up both = (up, both, clear z.a.stale t)

  may_open : (z : Store F P H) (t : ℕ) → z.a.up ≡ true → (b : Bool) → takes_b z ≡ b → (if b then Opened else Whole) ≡ Opened → MayOpen (taken_a z t) t
  may_open z t up true both e = opens_by z t z.b.up up both
  may_open z t up false both e = absurd (cc)

-- What a write leaves of its track

module _ {F P H : Type 0} where
  level_by : (z : Store F P H) (t : ℕ) (b : Bool) → z.a.up ≡ true →
      has_level (if b then with_stale (with_stale z sides.A t false) sides.B t true else with_stale z sides.A t false) t ≡ true
  level_by z t true up = or_left _ _ (up_level z.a.up (get_or (set z.a.stale t false) t false) up (clear z.a.stale t))
  level_by z t false up = or_left _ _ (up_level z.a.up (get_or (set z.a.stale t false) t false) up (clear z.a.stale t))

  pub level_a : (z : Store F P H) (t : ℕ) → z.a.up ≡ true → has_level (taken_a z t) t ≡ true
  level_a z t up = level_by z t z.b.up up

  pub level_b : (z : Store F P H) (t : ℕ) → z.b.up ≡ true → has_level (taken_b z t) t ≡ true
  level_b z t up = or_right (level_at z.a t) _ (up_level z.b.up (get_or (set z.b.stale t false) t false) up (clear z.b.stale t))

  -- and it stays firm, and side A as it is
  loose_if : (t : ℕ) (b : Bool) (x y : Store F P H) → is_loose x t ≡ false → is_loose y t ≡ false → is_loose (if b then x else y) t ≡ false
  loose_if t true x y e f = e
  loose_if t false x y e f = f

  firm_taken : (z : Store F P H) (t : ℕ) → is_loose z t ≡ false → is_loose (taken_a z t) t ≡ false
  firm_taken z t e = loose_if t z.b.up _ _ e e

  firm_everywhere : (z : Store F P H) (t : ℕ) → is_loose (stale_everywhere (hardened z t) t) t ≡ false
  firm_everywhere z t = loose_if t z.paired _ _ (clear z.loose t) (clear z.loose t)

  up_by : (z : Store F P H) (t : ℕ) (b : Bool) →
      (if b then with_stale (with_stale z sides.A t true) sides.B t true else with_stale z sides.A t true).a.up ≡ z.a.up
  up_by z t true = refl
  up_by z t false = refl

-- a frame of the track that is staged first may be wanted
abbrev pub Stages : {K : Type 0} → Policy K → ℕ → List ℕ → Type 0
Stages w device queue = (t : ℕ) (ts : List ℕ) → queue ≡ t ∷ ts → w.wants device t

module _ {K F P H : Type 0} (w : Policy K) (kind : Kind) where
  still_written : (z : Store F P H) (t : ℕ) → IsWritten w kind z t → IsWritten w kind (with_patch z t None) t
  still_written z t (first_written level firm) = first_written level firm
  still_written z t (second_written unshut level h is same) = second_written unshut level h is same
  still_written z t (write_failed why) = write_failed why

  was_written : (kind ≡ Shut → ⊥) → (z : Store F P H) (h : HalfWrite H) → (z.half ≡ Some h) ⊎ MayFail w → has_level z h.track ≡ true →
      IsWritten w kind z h.track
  was_written unshut z h (inl is) level = second_written unshut level h is refl
  was_written unshut z h (inr why) level = write_failed why

module _ {K F P H R : Type 0} (w : Policy K) (kind : Kind) (c : Contents F P H R) (k : K) (s : Store F P H) where
  -- behind what makes a track firm first
  pub data Firmed (n : K) (t : ℕ) : Store F P H → Type 0 where
    was_firm : {z : Store F P H} → Moves w kind c k s n z → is_loose z t ≡ false → Firmed n t z
    now_firm : {z : Store F P H} → Moves w kind c k s n z → is_loose z t ≡ true → Firmed n t (stale_everywhere (hardened z t) t)

  -- behind the first part of a write: side A took the track where a half write is to be opened
  pub record FirstPart (n : K) (t : ℕ) (z : Store F P H) (took : Took) : Type 0 where
    pub moves : Moves w kind c k s n z
    pub opens_half : took ≡ Opened → MayOpen z t × IsFirm w z t
    pub written : (took ≡ Unwritten → ⊥) → IsWritten w kind z t

  abbrev Writes : K → ℕ → Interaction R Image (Store F P H) Wrote → Type 0
  Writes n t i = Within w (Inner w) (λ m z (v : Wrote). FirstPart m t z v.took) n i

  -- from x behind a second part: side B was tried where that could be, or a call failed
  pub data Tried (x : Store F P H) (t : ℕ) (z : Store F P H) : Type 0 where
    second_failed : MayFail w → Tried x t z
    second_took : z.half ≡ x.half → is_loose z t ≡ is_loose x t → has_level z t ≡ true → Tried x t z
    second_off : z.half ≡ x.half → is_loose z t ≡ is_loose x t → takes_b z ≡ false → Tried x t z

  abbrev pub Seconds : K → Store F P H → ℕ → Interaction R Image (Store F P H) (Unit {0}) → Type 0
  Seconds n x t i = Within w (Inner w) (λ m y _. Moves w kind c k s m y × Tried x t y) n i

  -- from x behind a write that is done: the store but for the half write, which is this one now
  record Rested (n : K) (x : Store F P H) (t : ℕ) (g : Option (HalfWrite H)) (v : Store F P H) : Type 0 where
    z : Store F P H
    moves : Moves w kind c k s n z
    same : v ≡ record z { half = g }
    half : z.half ≡ x.half
    level : has_level z t ≡ has_level x t
    bare : patch_at z t ≡ None

  abbrev Rests : K → Store F P H → ℕ → Option (HalfWrite H) → Interaction R Image (Store F P H) (Unit {0}) → Type 0
  Rests n x t g i = Within w (Inner w) (λ m v _. Rested m x t g v) n i

module _ {K F P H R : Type 0} {w : Policy K} {kind : Kind} {c : Contents F P H R} {k : K} {s : Store F P H} where
  pub goes_comes : {A : Type 0} {n : K} {i : Interaction R Image (Store F P H) A} → Goes w kind c k s n i → Comes w kind c k s n i
  goes_comes x = within_weaker x (λ n z a m. moved m)

  -- A write that is done

  framed_rests : {n : K} (z : Store F P H) (t : ℕ) (g : Option (HalfWrite H)) (f : Option F) (p : Option P) → patch_at z t ≡ p → IsWritten w kind z t →
      Moves w kind c k s n z → Rests w kind c k s n z t g (slot_freed c (record (with_frame z t f) { half = g }) t (slot_in c p))
  framed_rests z t g f None is why m =
      within_done (record { z = with_frame z t f; moves = frames m t f is why; same = refl; half = refl; level = refl; bare = is })
  framed_rests z t g f (Some p) is why m =
      within_ask tt (λ _. within_done (record {
        z = with_frame (with_patch z t None) t f;
        moves = frames (patches m t) t f (none_at z.patches t) (still_written w kind z t why);
        same = refl;
        half = refl;
        level = refl;
        bare = none_at z.patches t;
      }))

  bare_rests : {n : K} (z : Store F P H) (t : ℕ) (g : Option (HalfWrite H)) (p : Option P) → patch_at z t ≡ p → Moves w kind c k s n z →
      Rests w kind c k s n z t g (slot_freed c (record z { half = g }) t (slot_in c p))
  bare_rests z t g None is m = within_done (record { z = z; moves = m; same = refl; half = refl; level = refl; bare = is })
  bare_rests z t g (Some p) is m =
      within_ask tt (λ _. within_done (record {
        z = with_patch z t None;
        moves = patches m t;
        same = refl;
        half = refl;
        level = refl;
        bare = none_at z.patches t;
      }))

  done_rests : {n : K} (z : Store F P H) (t : ℕ) (i : Image) (bypass : Bool) (g : Option (HalfWrite H)) → IsWritten w kind z t → Moves w kind c k s n z →
      Rests w kind c k s n z t g (write_done c (record z { half = g }) t i bypass)
  unfolding V.write_done
  done_rests z t i bypass g why m =
      within_if (is_some (frame_at z t))
      (λ _. within_if bypass (λ _. within_ask tt (λ _. framed_rests z t g None (patch_at z t) refl why m))
      (λ _. within_ask tt (λ _. framed_rests z t g (Some (c.frame i false)) (patch_at z t) refl why m)))
      (λ _. bare_rests z t g (patch_at z t) refl m)

  -- with the half write as it was
  rested_moves : {n : K} (x : Store F P H) (t : ℕ) (v : Store F P H) → Rested w kind c k s n x t x.half v → Moves w kind c k s n v
  rested_moves {n = n} x t v r =
      subst (λ (y : Store F P H). Moves w kind c k s n y)
      (sym (r.same ∙ ap (λ (o : Option (HalfWrite H)). record r.z { half = o }) (sym r.half))) r.moves

  pub done_goes : {n : K} (z : Store F P H) (t : ℕ) (i : Image) (bypass : Bool) → IsWritten w kind z t → Moves w kind c k s n z →
      Goes w kind c k s n (write_done c z t i bypass)
  done_goes z t i bypass why m = within_weaker (done_rests z t i bypass z.half why m) (λ n v _ r. rested_moves z t v r)

  choose_goes : {n : K} (z : Store F P H) (u : Usage) (t : ℕ) → Moves w kind c k s n z →
      Within w (Inner w) (λ m y choice. Moves w kind c k s m y × Chosen c z t y choice) n (choose c z u t)
  choose_goes z u t m = within_and_always (asks_within (choose_asks c (λ y. Moves w kind c k s _ y) z u t m)) (choice_fits c z u t)

  -- What the first part left

  tried_goes : {n : K} (t : ℕ) (z : Store F P H) (ok : Bool) → takes_b z ≡ true → After w kind c k s n ok z →
      Seconds w kind c k s n z t (tried_b c t z ok)
  tried_goes t z true b_takes f = within_done (levels f sides.B t, second_took refl refl (level_b z t (and_left z.b.up (not z.held) b_takes)))
  tried_goes t z false b_takes f = within_weaker (failed_goes z sides.B (Some t) f) (λ n y _ m. (m, second_failed f.0))

  recounted : (z y : Store F P H) (t : ℕ) (ok : Bool) → Tried w kind c k s (write_counted z ok) t y → Tried w kind c k s z t y
  recounted z y t ok (second_failed why) = second_failed why
  recounted z y t ok (second_took half loose level) = second_took half loose level
  recounted z y t ok (second_off half loose off) = second_off half loose off

  pub write_second_goes : {n : K} (z : Store F P H) (t : ℕ) (r : R) → Moves w kind c k s n z → Seconds w kind c k s n z t (write_second c z t r)
  unfolding V.write_second
  write_second_goes z t r m =
      within_if (takes_b z)
      (λ b_takes. within_write (λ ok n is.
      within_weaker (tried_goes t (write_counted z ok) ok b_takes (write_after z ok is m)) (λ n y _ g. (g.0, recounted z y t ok g.1))))
      (λ off. within_done (m, second_off refl refl off))

  opened_comes : {n : K} → kind ≡ Shut → (z : Store F P H) (t : ℕ) (i : Image) (origin : Origin) (was_loose : Bool) → Moves w kind c k s n z → MayOpen z t →
      IsFirm w z t → Comes w kind c k s n (write_opened c z t i origin was_loose)
  opened_comes is_shut z t i origin was_loose m may firm =
      within_if was_loose (λ _. within_ask tt (λ _. within_done (opens_cleaned m t i origin is_shut may firm)))
      (λ _. within_done (opens m t i origin is_shut may firm))

  -- The second part

  module _ (unshut : kind ≡ Shut → ⊥) where
    done_closes : {n : K} (z v : Store F P H) (h : HalfWrite H) → ((z.half ≡ Some h) ⊎ MayFail w) → has_level z h.track ≡ true →
        (r : Rested w kind c k s n z h.track None v) → Closes w kind r.z
    done_closes z v h (inl is) level r = half_done h (r.half ∙ is) (r.level ∙ level) r.bare
    done_closes z v h (inr why) level r = half_failed why

    finished_goes : {n : K} (z : Store F P H) (h : HalfWrite H) (i : Image) (bypass : Bool) → ((z.half ≡ Some h) ⊎ MayFail w) → has_level z h.track ≡ true →
        Moves w kind c k s n z → Goes w kind c k s n (finished c (half_closed z) h.track i bypass)
    finished_goes z h i bypass is level m =
        within_then (λ y _. Done y true) (done_rests z h.track i bypass None (was_written w kind unshut z h is level) m)
        (λ n v _ r. within_done (subst (λ (y : Store F P H). Moves w kind c k s n y) (sym r.same) (closes r.moves (done_closes z v h is level r))))

    second_done_goes : {n : K} (z : Store F P H) (h : HalfWrite H) (i : Image) (origin : Origin) → ((z.half ≡ Some h) ⊎ MayFail w) → has_level z h.track ≡ true →
        Moves w kind c k s n z → Goes w kind c k s n (second_done c (half_closed z) h.track i origin)
    second_done_goes z h i (OfCommand bypass e) is level m =
        within_tell (λ r _. finished_goes (with_edit z h.track e) h i bypass is level (edits m h.track e))
    second_done_goes z h i (OfCut bypass) is level m = finished_goes z h i bypass is level m
    second_done_goes z h i OfBackground is level m = finished_goes z h i false is level m

    renewed_moves : {n : K} (z : Store F P H) (t : ℕ) (i : Image) (f : F) (p : Option P) → frame_at z t ≡ Some f → patch_at z t ≡ p →
        Moves w kind c k s n z →
        Moves w kind c k s n (gives_up (with_frame z t (Some (c.frame i (c.modified f)))) t (slot_in c p))
    renewed_moves z t i f None is bare m = renews m t i f bare is
    renewed_moves z t i f (Some p) is patched m = renews (unpatches m t (c.slot p)) t i f (none_at z.patches t) is

    cut_kept_moves : {n : K} (z : Store F P H) (t : ℕ) (i : Image) (o : Option F) → frame_at z t ≡ o → Moves w kind c k s n z →
        Moves w kind c k s n (cut_kept c z t i o)
    cut_kept_moves z t i None is m = m
    cut_kept_moves z t i (Some f) is m = renewed_moves z t i f (patch_at z t) is refl m

    left_moves : {n : K} (z : Store F P H) (t : ℕ) (i : Image) (origin : Origin) → Moves w kind c k s n z → Moves w kind c k s n (left_by c z t i origin)
    left_moves z t i (OfCommand bypass e) m = m
    left_moves z t i (OfCut bypass) m = cut_kept_moves z t i (frame_at z t) refl m
    left_moves z t i OfBackground m = m

    still_open : (x z : Store F P H) (h : HalfWrite H) → x.half ≡ Some h → Tried w kind c k s x h.track z → ((z.half ≡ Some h) ⊎ MayFail w)
    still_open x z h is (second_failed why) = inr why
    still_open x z h is (second_took half loose level) = inl (half ∙ is)
    still_open x z h is (second_off half loose off) = inl (half ∙ is)

    off_closes : (x z : Store F P H) (h : HalfWrite H) → x.half ≡ Some h → has_level z h.track ≡ false → Tried w kind c k s x h.track z →
        Closes w kind z
    off_closes x z h is none (second_failed why) = half_failed why
    off_closes x z h is none (second_took half loose level) = absurd (let both : true ≡ false = sym level ∙ none in cc)
    off_closes x z h is none (second_off half loose off) = half_untried unshut h (half ∙ is) none off

    second_by_goes : {n : K} (i : Image) (x z : Store F P H) (h : HalfWrite H) → x.half ≡ Some h → Tried w kind c k s x h.track z →
        Moves w kind c k s n z → Goes w kind c k s n (second_by c h.track i h.origin z)
    second_by_goes i x z h is tried m =
        within_if (has_level z h.track) (λ level. second_done_goes z h i h.origin (still_open x z h is tried) level m)
        (λ none. within_done (settled_moves (left_by c (half_closed z) h.track i h.origin) h.track
        (left_moves (half_closed z) h.track i h.origin (closes m (off_closes x z h is none tried)))))

    pub second_part_goes : {n : K} (z : Store F P H) (h : HalfWrite H) → z.half ≡ Some h → Moves w kind c k s n z →
        Goes w kind c k s n (second_part c z h)
    unfolding D.second_part
    second_part_goes z h is m =
        let i = half_image_of c z h in
        within_then (λ y _. second_by c h.track i h.origin y) (write_second_goes z h.track (c.bytes i) m)
        (λ n y _ g. second_by_goes i z y h is g.1 g.0)

  -- Copying and staging

  copied_goes : {n : K} (t : ℕ) (side : Side) (z : Store F P H) (ok : Bool) → After w kind c k s n ok z → Goes w kind c k s n (copied c t side z ok)
  copied_goes t side z true f = within_done (levels f side t)
  copied_goes t side z false f = within_then (λ y _. Done y _) (failed_goes z side None f) (λ n y _ g. within_done g)

  copy_read_goes : {n : K} (t : ℕ) (side : Side) (z : Store F P H) (o : Option R) → After w kind c k s n (is_some o) z →
      Goes w kind c k s n (copy_read c t side z o)
  copy_read_goes t side z None f = within_then (λ y _. Done y _) (failed_goes z (other side) None f) (λ n y _ g. within_done g)
  copy_read_goes t side z (Some r) f = within_write (λ ok n is. copied_goes t side (write_counted z ok) ok (write_after z ok is f))

  copy_goes : {n : K} (z : Store F P H) (t : ℕ) (o : Option Side) → Moves w kind c k s n z → Goes w kind c k s n (copy_by c z t o)
  copy_goes z t None m = within_done m
  copy_goes z t (Some side) m =
      within_read (λ got n is. copy_read_goes t side (read_counted z (is_some got)) got (read_after z (is_some got) is m))

  unfilled_goes : {n : K} (z : Store F P H) (t : ℕ) (d : Option Did) → Moves w kind c k s n z → Goes w kind c k s n (unfilled c z t d)
  unfilled_goes z t d m = within_ask tt (λ _. within_done m)

  staged_image_goes : {n : K} (t : ℕ) (z : Store F P H) (g : Got R) (o : Option Image) → IsPlain w c z t → Moves w kind c k s n z →
      Goes w kind c k s n (staged_image c t z g o)
  staged_image_goes t z g None plain m = unfilled_goes z t _ m
  staged_image_goes t z g (Some i) plain m = within_then (λ y _. Done y _) (filled_goes z t i plain m) (λ n y _ x. within_done x)

  staged_bytes_goes : {n : K} (t : ℕ) (z : Store F P H) (g : Got R) (o : Option R) → IsPlain w c z t →
      Moves w kind c k s n z → Goes w kind c k s n (staged_bytes c t z g o)
  staged_bytes_goes t z g None plain m = unfilled_goes z t _ m
  staged_bytes_goes t z g (Some r) plain m =
      within_try (λ ok _. within_if ok (λ _. staged_image_goes t z g (image_of c z t r) plain m) (λ _. unfilled_goes z t None m))

  stage_goes : {n : K} (z : Store F P H) (t : ℕ) → w.wants s.device t → Moves w kind c k s n z → Goes w kind c k s n (stage c z t)
  stage_goes z t on m =
      within_if (is_some (frame_at z t) || is_lost z t) (λ _. within_done m)
      (λ bare. within_tried z _ m (within_ask (still_wants t on m) (λ given. within_if given
      (λ _. within_then (λ y g. staged_bytes c t y g g.bytes) (level_goes z t m)
      (λ n y g x. staged_bytes_goes t y g g.bytes (plain_on w c z y t (inl (none_plain c (frame_at z t) (is_lost z t) bare)) x.1) x.0))
      (λ _. within_done m))))

  -- Where a loose track may be written, which becomes firm first

  module _ (is_shut : kind ≡ Shut) where
    firm_first_goes : {n : K} (z : Store F P H) (t : ℕ) → Moves w kind c k s n z →
        Within w (Inner w) (λ m y (b : Bool). Firmed w kind c k s m t y) n (firm_first c z t)
    firm_first_goes z t m =
        within_if (is_loose z t) (λ loose. within_tell (λ r _. within_done (now_firm m loose))) (λ firm. within_done (was_firm m firm))

    is_firm : {n : K} {t : ℕ} {y : Store F P H} → Firmed w kind c k s n t y → is_loose y t ≡ false
    is_firm (was_firm m firm) = firm
    is_firm {t = t} (now_firm {z = z} m loose) = firm_everywhere z t

    firmed_moves : {n : K} {t : ℕ} {y : Store F P H} → Firmed w kind c k s n t y → (y.a.up ≡ false) ⊎ MayFail w → Moves w kind c k s n y
    firmed_moves (was_firm m firm) why = m
    firmed_moves {t = t} (now_firm {z = z} m loose) (inl down) = firms m t is_shut loose (inl (sym (up_by (hardened z t) t z.paired) ∙ down))
    firmed_moves {t = t} (now_firm {z = z} m loose) (inr why) = firms m t is_shut loose (inr why)

    taken_moves : {m n : K} {t : ℕ} {y : Store F P H} → Firmed w kind c k s m t y → y.a.up ≡ true → w.wrote m true ≡ Some n →
        Moves w kind c k s n (taken_a (write_counted y true) t)
    taken_moves {t = t} (was_firm m firm) up is = takes (writes m true is) t is_shut up
    taken_moves {t = t} (now_firm {z = z} m loose) up is = firms_taken m t is_shut loose (sym (up_by (hardened z t) t z.paired) ∙ up) is

    unwritten_moves : {n : K} (z : Store F P H) (t : ℕ) → MayFail w → Moves w kind c k s n z → Moves w kind c k s n (unwritten c z t)
    unwritten_moves z t why m =
        settled_moves (if z.paired then z else with_stale z sides.A t true) t (moves_if z.paired z _ (λ _. m) (λ alone. spoils m t is_shut alone why))

    not_written : {n : K} (t : ℕ) (z : Store F P H) → Moves w kind c k s n z → FirstPart w kind c k s n t z Unwritten
    not_written t z m = record { moves = m; opens_half = λ e. absurd (cc); written = λ no. absurd (no refl) }

    -- side B alone: it is up and the track is firm, or a call failed
    alone_goes : {n : K} (t : ℕ) (fault : Option Side) (first : Side) (z : Store F P H) (ok : Bool) → IsWritten w kind (taken_b z t) t →
        After w kind c k s n ok z → Writes w kind c k s n t (alone_b c t fault first z ok)
    alone_goes t fault first z true why f = within_done (record { moves = levels f sides.B t; opens_half = λ e. absurd (cc); written = λ _. why })
    alone_goes t fault first z false why f =
        within_then (λ y _. Done (unwritten c y t) _) (failed_goes z sides.B (Some t) f)
        (λ n y _ g. within_done (not_written t (unwritten c y t) (unwritten_moves y t f.0 g)))

    failed_a_goes : {n : K} (t : ℕ) (r : R) (tries : Bool) (z : Store F P H) → MayFail w → Moves w kind c k s n z →
        Writes w kind c k s n t (failed_a c t r tries z)
    failed_a_goes t r tries z why m =
        within_if tries
        (λ _. within_write (λ ok n is. alone_goes t (Some sides.A) sides.A (write_counted z ok) ok (write_failed why) (write_after z ok is m)))
        (λ _. within_done (not_written t (unwritten c z t) (unwritten_moves z t why m)))

    first_goes : {m n : K} (t : ℕ) (r : R) (y : Store F P H) (ok : Bool) → y.a.up ≡ true → w.wrote m ok ≡ Some n → Firmed w kind c k s m t y →
        Writes w kind c k s n t (first_a c t r (write_counted y ok) ok)
    first_goes t r y true up is f =
        let firm = firm_taken (write_counted y true) t (is_firm f) in
        within_done (record {
          moves = taken_moves f up is;
          opens_half = λ e. (may_open (write_counted y true) t up (takes_b y) refl e, inl firm);
          written = λ _. first_written (level_a (write_counted y true) t up) firm;
        })
    first_goes {m = m} {n = n} t r y false up is f =
        let why = write_fails m n is in
        within_then (λ z _. failed_a c t r (takes_b y) z)
        (failed_goes (write_counted y false) sides.A (Some t) (write_after y false is (firmed_moves f (inr why))))
        (λ n z _ g. failed_a_goes t r (takes_b y) z why g)

    pub write_first_goes : {n : K} (y : Store F P H) (t : ℕ) (r : R) → Firmed w kind c k s n t y → Writes w kind c k s n t (write_first c y t r)
    unfolding V.write_first
    write_first_goes y t r f =
        within_if y.a.up (λ up. within_write (λ ok n is. first_goes t r y ok up is f))
        (λ down. within_if (takes_b y)
        (λ b_takes. within_write (λ ok n is. alone_goes t None sides.B (write_counted y ok) ok
        (first_written (level_b (write_counted y ok) t (and_left y.b.up (not y.held) b_takes)) (is_firm f))
        (write_after y ok is (firmed_moves f (inl down)))))
        (λ _. within_done (not_written t (settled c y t) (settled_moves y t (firmed_moves f (inl down))))))

    whole_goes : {n : K} (z : Store F P H) (t : ℕ) (i : Image) (e : Edit) (bypass : Bool) → IsWritten w kind z t → Moves w kind c k s n z →
        Goes w kind c k s n (whole c z t i e bypass)
    whole_goes z t i e bypass why m =
        within_tell (λ r _. within_then (λ y _. Done y Whole) (done_goes (with_edit z t e) t i bypass (edited why) (edits m t e)) (λ n y _ g. within_done g))
      where
        edited : IsWritten w kind z t → IsWritten w kind (with_edit z t e) t
        edited (first_written level firm) = first_written level firm
        edited (second_written unshut level h is same) = second_written unshut level h is same
        edited (write_failed why) = write_failed why

    once_written : (x z : Store F P H) (t : ℕ) → IsFirm w x t → Tried w kind c k s x t z → has_level z t ≡ true → IsWritten w kind z t
    once_written x z t (inr why) tried level = write_failed why
    once_written x z t (inl firm) (second_failed why) level = write_failed why
    once_written x z t (inl firm) (second_took half loose took) level = first_written level (loose ∙ firm)
    once_written x z t (inl firm) (second_off half loose off) level = first_written level (loose ∙ firm)

    at_once_goes : {n : K} (z : Store F P H) (t : ℕ) (i : Image) (e : Edit) (bypass : Bool) → IsFirm w z t → Moves w kind c k s n z →
        Goes w kind c k s n (at_once c z t i e bypass)
    at_once_goes z t i e bypass firm m =
        within_then (λ y _. if has_level y t then whole c y t i e bypass else Done (settled c y t) Unwritten) (write_second_goes z t (c.bytes i) m)
        (λ n y _ g. within_if (has_level y t) (λ level. whole_goes y t i e bypass (once_written z y t firm g.1 level) g.0)
        (λ _. within_done (settled_moves y t g.0)))

    through_by_comes : {n : K} (t : ℕ) (i : Image) (e : Edit) (bypass halves was_loose : Bool) (z : Store F P H) (took : Took) →
        FirstPart w kind c k s n t z took → Comes w kind c k s n (through_by c t i e bypass halves was_loose z took)
    through_by_comes t i e bypass halves was_loose z Whole f = goes_comes (whole_goes z t i e bypass (f.written (λ e. absurd (cc))) f.moves)
    through_by_comes t i e bypass halves was_loose z Opened f =
        let may = f.opens_half refl in
        within_if halves
        (λ _. within_then (λ y _. Done y Opened) (opened_comes is_shut z t i (OfCommand bypass e) was_loose f.moves may.0 may.1) (λ n y _ g. within_done g))
        (λ _. goes_comes (at_once_goes z t i e bypass may.1 f.moves))
    through_by_comes t i e bypass halves was_loose z Unwritten f = within_done (moved f.moves)

    through_comes : {n : K} (z : Store F P H) (t : ℕ) (i : Image) (e : Edit) (bypass halves : Bool) → Moves w kind c k s n z →
        Comes w kind c k s n (through c z t i e bypass halves)
    unfolding E.through
    through_comes z t i e bypass halves m =
        within_then (λ y was_loose. and_then (write_first c y t (c.bytes i)) (λ x v. through_by c t i e bypass halves was_loose x v.took))
        (firm_first_goes z t m)
        (λ n y was_loose g. within_then (λ x v. through_by c t i e bypass halves was_loose x v.took) (write_first_goes y t (c.bytes i) g)
        (λ n x v h. through_by_comes t i e bypass halves was_loose x v.took h))

    write_by_comes : {n : K} (u : Usage) (first t : ℕ) (i : Image) (e : Edit) (z : Store F P H) (choice : Choice) → Fits c z t choice → Moves w kind c k s n z →
        Comes w kind c k s n (write_by c u first t i e z choice)
    write_by_comes u first t i e z Provisional fit m = within_done (moved (goes_provisionally m t i e is_shut))
    write_by_comes u first t i e z (Fast (Some slot)) fit m = within_tell (λ r _. within_done (moved (goes_fast m t i e (Some slot) fit.1)))
    write_by_comes u first t i e z (Fast None) fit m = within_tell (λ r _. within_done (moved (goes_fast m t i e None fit.1)))
    write_by_comes u first t i e z Through fit m = through_comes z t i e (is_bypass u.mode) (not (another_loose z first t)) m

    written_comes : {n : K} (z : Store F P H) (u : Usage) (first t : ℕ) (old : Image) (e : Edit) (choice : Choice) → Fits c z t choice →
        Moves w kind c k s n z →
        Comes w kind c k s n (written c z u first t old e choice)
    written_comes z u first t old e choice fit m =
        within_then (λ y took. Done y (Some took)) (write_by_comes u first t (edited_image e old) e z choice fit m) (λ n y took g. within_done g)

    again_goes : {n : K} (z : Store F P H) (t : ℕ) → Moves w kind c k s n z → Goes w kind c k s n (clean_again c z t)
    again_goes z t m = within_if (is_clean c (frame_at z t)) (λ _. within_ask tt (λ _. within_done m)) (λ _. within_done m)

    unchosen_goes : {n : K} (z : Store F P H) (t : ℕ) (choice : Choice) → Moves w kind c k s n z → Goes w kind c k s n (unchosen c z t choice)
    unchosen_goes z t (Fast (Some slot)) m = within_ask tt (λ _. again_goes z t m)
    unchosen_goes z t (Fast None) m = again_goes z t m
    unchosen_goes z t Provisional m = again_goes z t m
    unchosen_goes z t Through m = within_done m

    chosen_comes : {n : K} (u : Usage) (first t : ℕ) (old : Image) (e : Edit) (z : Store F P H) (choice : Choice) → Fits c z t choice → Moves w kind c k s n z →
        Comes w kind c k s n (write_chosen c u first t old e z choice)
    chosen_comes u first t old e z choice fit m =
        within_if (is_given c z choice)
        (λ _. within_tell (λ ok _. within_if ok (λ _. written_comes z u first t old e choice fit m) (λ _. goes_comes (unchosen_goes z t choice m))))
        (λ _. written_comes z u first t old e choice fit m)

    pub write_comes : {n : K} (z : Store F P H) (u : Usage) (first t : ℕ) (old : Image) (e : Edit) → Moves w kind c k s n z →
        Comes w kind c k s n (write c z u first t old e)
    unfolding E.write
    write_comes z u first t old e m =
        within_tried z _ (moved m)
        (within_then (write_chosen c u first t old e) (choose_goes z u t m)
        (λ n y choice g. chosen_comes u first t old e y choice (subst (λ (x : Store F P H). Fits c x t choice) (sym g.1.same) g.1.fit) g.0))

    -- By itself

    saved_by_comes : {n : K} (t : ℕ) (i : Image) (d : Did) (fault : Option Side) (was_loose : Bool) (failed : Option Side) (z : Store F P H) (took : Took) →
        FirstPart w kind c k s n t z took → Comes w kind c k s n (saved_by c t i d fault was_loose failed z took)
    saved_by_comes t i d fault was_loose failed z Whole f =
        within_then (λ y _. Done y (did fault (did failed d))) (done_goes z t i false (f.written (λ e. absurd (cc))) f.moves) (λ n y _ g. within_done (moved g))
    saved_by_comes t i d fault was_loose failed z Opened f =
        let may = f.opens_half refl in
        within_then (λ y _. Done y _) (opened_comes is_shut z t i OfBackground was_loose f.moves may.0 may.1) (λ n y _ g. within_done g)
    saved_by_comes t i d fault was_loose failed z Unwritten f = within_done (moved f.moves)

    saved_comes : {n : K} (z : Store F P H) (t : ℕ) (i : Image) (d : Did) (fault : Option Side) → Moves w kind c k s n z →
        Comes w kind c k s n (saved c z t i d fault)
    saved_comes z t i d fault m =
        within_tried z _ (moved m)
        (within_then (λ y e. Done y (Some e))
        (within_then (λ y was_loose. and_then (write_first c y t (c.bytes i)) (λ x v. saved_by c t i d fault was_loose v.fault x v.took))
        (firm_first_goes z t m)
        (λ n y was_loose g. within_then (λ x v. saved_by c t i d fault was_loose v.fault x v.took) (write_first_goes y t (c.bytes i) g)
        (λ n x v h. saved_by_comes t i d fault was_loose v.fault x v.took h)))
        (λ n y e g. within_done g))

    recovered_image_comes : {n : K} (t : ℕ) (z : Store F P H) (g : Got R) (o : Option Image) → Moves w kind c k s n z →
        Comes w kind c k s n (recovered_image c t z g o)
    recovered_image_comes t z g None m = within_done (moved m)
    recovered_image_comes t z g (Some i) m = saved_comes z t i (Recovered t) g.fault m

    pub recovered_bytes_comes : {n : K} (t : ℕ) (z : Store F P H) (g : Got R) (o : Option R) → Moves w kind c k s n z →
        Comes w kind c k s n (recovered_bytes c t z g o)
    recovered_bytes_comes t z g None m = within_done (moved m)
    recovered_bytes_comes t z g (Some r) m = within_tried z _ (moved m) (recovered_image_comes t z g (image_of c z t r) m)

    recover_comes : {n : K} (z : Store F P H) (t : ℕ) (o : Option F) → Moves w kind c k s n z → Comes w kind c k s n (recover c z t o)
    recover_comes z t (Some f) m = saved_comes z t (framed_image c z t (Some f)) (Recovered t) None m
    recover_comes z t None m =
        within_then (λ y g. recovered_bytes c t y g g.bytes) (level_goes z t m) (λ n y g x. recovered_bytes_comes t y g g.bytes x.0)

    destage_comes : {n : K} (z : Store F P H) (o : Option ℕ) → Moves w kind c k s n z → Comes w kind c k s n (destage_first c z o)
    destage_comes z None m = within_done (moved m)
    destage_comes z (Some t) m = saved_comes z t (framed_image c z t (frame_at z t)) (Destaged t) None m

    stage_first_comes : {n : K} (z : Store F P H) (queue : List ℕ) → z.queue ≡ queue → Stages w s.device z.queue → Moves w kind c k s n z →
        Comes w kind c k s n (stage_first c z queue)
    stage_first_comes z [] is on m = destage_comes z (to_destage c z) m
    stage_first_comes z (t ∷ ts) is on m =
        let more : length z.queue ≡ suc (length ts) = ap (λ (l : List ℕ). length l) is in
        goes_comes (stage_goes (record z { queue = ts }) t (on t ts is) (dequeues m ts (omega (arith, more))))

    copy_first_comes : {n : K} (z : Store F P H) (o : Option ℕ) → Stages w s.device z.queue → Moves w kind c k s n z → Comes w kind c k s n (copy_first c z o)
    copy_first_comes z None on m = stage_first_comes z z.queue refl on m
    copy_first_comes z (Some t) on m = goes_comes (copy_goes z t (copies_to z t) m)

    recover_first_comes : {n : K} (z : Store F P H) (o : Option ℕ) → Stages w s.device z.queue → Moves w kind c k s n z → Comes w kind c k s n (recover_first c z o)
    recover_first_comes z None on m = copy_first_comes z (to_copy z) on m
    recover_first_comes z (Some t) on m = recover_comes z t (frame_at z t) m

    pub work_comes : {n : K} (z : Store F P H) → Stages w s.device z.queue → Moves w kind c k s n z → Comes w kind c k s n (work c z)
    unfolding B.work
    work_comes z on m = recover_first_comes z (to_recover c z) on m
