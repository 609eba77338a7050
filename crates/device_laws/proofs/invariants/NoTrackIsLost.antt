-- Where no call fails, no event loses a track, where the marks are good; each side stays as it is; and while side A is up, no track becomes stale there.
use Rattle.std.proofs.Common.{
  [],
  ◌≡◌,
  ◌≢◌,
  ◌<◌,
  ◌≤◌,
  zero,
  suc,
  ℕ,
  Bool,
  true,
  false,
  List,
  ◌∷◌,
  Option,
  Some,
  None,
  is_some,
  length,
  set,
  get_or,
  option_map,
  refl,
  sym,
  ap,
  subst,
  ◌∙◌,
  arith,
  ◌⊎◌,
  inl,
  inr,
}
use Rattle.std.proofs.lemmas.Bool.{cases_eq, cases_lt, eq-eqb, ne_eqb}
use Rattle.std.proofs.lemmas.List.{get_or-set_same, get_or-set_other, length-set}
use Rattle.std.specs.Prelude.{if◌then◌else◌, ◌&&◌, ◌||◌, not}
use Rattle.ckd_chain.specs.State.{ChainState}
use Rattle.ckd_types.specs.declared.paths.Side.{Side}
use Rattle.ckd_types.specs.declared.paths.Side.TheVariants as sides
use Rattle.ckd_types.specs.declared.record.Edit.{Edit}
use Rattle.loss_model.specs.declared.Loss.TheVariants as losses
use Rattle.track_image.specs.Image.{Image}
use Rattle.device_defs.specs.declared.usage.Usage.{Usage}
use Rattle.device_defs.specs.Background.{recovered_bytes}
use Rattle.device_defs.specs.Command.{Went, Over, On, looked, look, follow, command}
use Rattle.device_defs.specs.Contents.{Contents}
use Rattle.device_defs.specs.Device.{Device}
use Rattle.device_defs.specs.Effects.{loosened, hardened, with_loose_edit}
use Rattle.device_defs.specs.Events.{second, background}
use Rattle.device_defs.specs.Image.{Got, Imaged, image}
use Rattle.device_defs.specs.Losses.{stale_everywhere}
use Rattle.device_defs.specs.Memory.{had_by}
use Rattle.device_defs.specs.Owed.{is_modified, noted_begin}
use Rattle.device_defs.specs.Peek.{peek}
use Rattle.device_defs.specs.Second.{half_closed}
use Rattle.device_defs.specs.Store.{HalfWrite, Store, tracks_of, level_at, has_level, frame_at, patch_at, is_lost, is_loose, half_is, with_stale, with_frame, with_lost}
use Rattle.device_defs.specs.Writing.{write_counted, taken_a}
use Rattle.device_laws.specs.Unharmed.{HalfIsTried}
use Rattle.device_laws.proofs.Bools.{or_left, up_level}
use Rattle.device_laws.proofs.FailedCall.{IsWell}
use Rattle.device_laws.proofs.HeldPlaces.{never}
use Rattle.device_laws.proofs.TrackMarks as M
use Rattle.device_laws.proofs.TrackMarks.{marks, is_true, is_good, IsFaithful, frame_mark, track_at}
use Rattle.device_laws.proofs.Unlost.{
  Core,
  core_of,
  Fine,
  Off,
  fine,
  fine_on,
  fine_off,
  off_down,
  taken_a_fine,
  everywhere_off,
  side_fine,
  closed_fine,
  opened_fine,
  cut_fine,
  clear_at,
}
use Rattle.device_laws.proofs.UnlostParts.{Goes, DeviceGoes}
use Rattle.device_laws.proofs.invariants.PatchesHaveFrames.{
  half_kind,
  never_losing,
  never_stale,
  level_still,
  or_on,
  levels_still,
  IsTried,
  tried_level,
  tried_cut,
  not_untried,
  never_both,
}
use Rattle.device_laws.proofs.walks.Within.{lucky, within_lucky, within_weaker, none_fails, MayFail}
use Rattle.device_laws.proofs.walks.Moves.{
  Kind,
  Shut,
  Half,
  Empties,
  IsBare,
  IsPlain,
  IsWritten,
  first_written,
  second_written,
  write_failed,
  Closes,
  half_done,
  half_untried,
  half_failed,
  half_emptied,
  Moves,
  stays,
  Ends,
  IsKept,
  moves_keep,
  IsEnded,
  ends_keep,
}
use Rattle.device_laws.proofs.walks.Reads as W
use Rattle.device_laws.proofs.walks.Reads.{clean_plain}
use Rattle.device_laws.proofs.walks.Writes.{recovered_bytes_comes}
use Rattle.device_laws.proofs.walks.Events.{WentTo, Anywhere, reaches_any, looked_looks, look_looks, follow_comes, command_leads, second_leads, background_leads, peek_leads}

-- Good marks

needs_side : (f : Option Bool) → is_true f ≡ false → (p o v : Bool) → is_good (marks f p false o false v) ≡ true → v ≡ true
needs_side f e p o true good = refl
needs_side None e p o false good = absurd (cc)
needs_side (Some true) e p o false good = absurd (cc)
needs_side (Some false) e p o false good = absurd (cc)

loose_needs : (f : Option Bool) (p l h v : Bool) → is_good (marks f p l true h v) ≡ true → (is_true f ≡ true) × (h ≡ false)
loose_needs None false true h v e = absurd (cc)
loose_needs None true true h v e = absurd (cc)
loose_needs (Some m) p true h v e = absurd (cc)
loose_needs f p false true v e = absurd (cc)
loose_needs (Some true) p false false v e = (refl, refl)
loose_needs None p false false true e = absurd (cc)
loose_needs None p false false false e = absurd (cc)
loose_needs (Some false) false false false true e = absurd (cc)
loose_needs (Some false) true false false true e = absurd (cc)
loose_needs (Some false) false false false false e = absurd (cc)
loose_needs (Some false) true false false false e = absurd (cc)

-- Places

set_past : (l : List Bool) (t : ℕ) (x : Bool) → length l ≤ t → set l t x ≡ l
set_past [] t x le = refl
set_past (y ∷ l) zero x le = absurd (omega (arith, le))
set_past (y ∷ l) (suc t) x le = ap (λ (r : List Bool). y ∷ r) (set_past l t x (omega (arith, le)))

unset : (l : List Bool) (t q : ℕ) → get_or (set l t false) q false ≡ true → get_or l q false ≡ true
unset l t q e = by_place (cases_eq q t)
  where
    by_place : (q ≡ t) ⊎ (q ≢ t) → get_or l q false ≡ true
    by_place (inl is) = absurd (let none = clear_at l t q (inl is) (λ ne. absurd (ne is)) in let both : true ≡ false = sym e ∙ none in cc)
    by_place (inr ne) = sym (get_or-set_other l t q false false ne) ∙ e

off_was : (t : ℕ) (x y z : Core) → Fine x y → Off t y z → ((q : ℕ) → z.half ≡ Some q → x.half ≡ Some q) → Off t x z
off_was t x y z f g was = record {
  lost = g.lost ∙ f.lost;
  up = g.up ∙ f.up;
  takes = g.takes ∙ f.takes;
  level = λ up q ne e. g.level (f.up ∙ up) q ne (f.level up q e);
  opens = λ q e. inl (was q e);
}

-- a side that takes a track has it; side B may have it no more
both_level : {F P H : Type 0} (z : Store F P H) (t q : ℕ) → z.a.up ≡ true → (q ≡ t) ⊎ (q ≢ t) → (q ≢ t → has_level z q ≡ true) →
    has_level (with_stale (with_stale z sides.A t false) sides.B t true) q ≡ true
both_level z t q up (inl is) e = or_left _ _ (up_level z.a.up (get_or (set z.a.stale t false) q false) up (clear_at z.a.stale t q (inl is) (λ ne. absurd (ne is))))
both_level z t q up (inr ne) e =
    or_on (level_at z.a q) _ _ (level_still z.a.up z.a.stale t q)
    (ap (λ (w : Bool). level_at z.a q || (z.b.up && not w)) (get_or-set_other z.b.stale t q true false ne) ∙ e ne)

a_level : {F P H : Type 0} (z : Store F P H) (t q : ℕ) → z.a.up ≡ true → (q ≡ t) ⊎ (q ≢ t) → (q ≢ t → has_level z q ≡ true) →
    has_level (with_stale z sides.A t false) q ≡ true
a_level z t q up (inl is) e = or_left _ _ (up_level z.a.up (get_or (set z.a.stale t false) q false) up (clear_at z.a.stale t q (inl is) (λ ne. absurd (ne is))))
a_level z t q up (inr ne) e = levels_still z sides.A t q (e ne)

module _ {F P H R : Type 0} (c : Contents F P H R) where
  plain_mark : (o : Option F) → is_true (frame_mark c o) ≡ is_modified c o
  plain_mark None = refl
  plain_mark (Some f) = refl

  pub level_of : (s : Store F P H) (t : ℕ) → is_good (track_at c s t) ≡ true → is_lost s t ≡ false → half_is s.half t ≡ false →
      is_true (frame_mark c (frame_at s t)) ≡ false → has_level s t ≡ true
  unfolding M.track_at
  level_of s t good there half clean =
      needs_side (frame_mark c (frame_at s t)) clean (is_some (patch_at s t)) (is_loose s t) (has_level s t)
      (subst (λ (l : Bool). is_good (marks (frame_mark c (frame_at s t)) (is_some (patch_at s t)) l (is_loose s t) false (has_level s t)) ≡ true) there
      (subst (λ (h : Bool). is_good (marks (frame_mark c (frame_at s t)) (is_some (patch_at s t)) (is_lost s t) (is_loose s t) h
      (has_level s t)) ≡ true) half good))

  modified_of : (s : Store F P H) (t : ℕ) → is_good (track_at c s t) ≡ true → is_loose s t ≡ true →
      (is_modified c (frame_at s t) ≡ true) × (half_is s.half t ≡ false)
  unfolding M.track_at
  modified_of s t good loose =
      let f = loose_needs (frame_mark c (frame_at s t)) (is_some (patch_at s t)) (is_lost s t) (half_is s.half t) (has_level s t)
      (subst (λ (b : Bool). is_good (marks (frame_mark c (frame_at s t)) (is_some (patch_at s t)) (is_lost s t) b (half_is s.half t)
      (has_level s t)) ≡ true) loose good) in
      (sym (plain_mark (frame_at s t)) ∙ f.0, f.1)

  -- What is kept of a device with n tracks

  module _ (n : ℕ) where
    -- a track is on a side, unless its frame is modified, a half write of it is open, or it is lost
    abbrev IsThere : Store F P H → Type 0
    IsThere z = (q : ℕ) → q < n → is_lost z q ≡ false → half_is z.half q ≡ false → is_modified c (frame_at z q) ≡ false → has_level z q ≡ true

    abbrev ThereBut : ℕ → Store F P H → Type 0
    ThereBut t z = (q : ℕ) → q ≢ t → q < n → is_lost z q ≡ false → half_is z.half q ≡ false → is_modified c (frame_at z q) ≡ false → has_level z q ≡ true

    -- the frame of a loose track is modified
    abbrev LooseAre : Kind → Store F P H → Type 0
    LooseAre kind z = (q : ℕ) → q < n → is_loose z q ≡ true → (is_modified c (frame_at z q) ≡ true) × (kind ≡ Half → half_is z.half q ≡ false)

    module _ (x : Core) (faithful : IsFaithful c) (sized : length x.lost ≡ n) where
      -- no half write was opened
      abbrev WasHalf : Store F P H → Type 0
      WasHalf z = (q : ℕ) → option_map (λ (h : HalfWrite H). h.track) z.half ≡ Some q → x.half ≡ Some q

      abbrev Rest : Kind → Store F P H → Type 0
      Rest kind z = LooseAre kind z × WasHalf z × (length z.frames ≡ n)

      abbrev So : Kind → Store F P H → Type 0
      So kind z = Fine x (core_of z) × IsTried c kind z × IsThere z × Rest kind z

      -- A side takes a track

      leveled : (kind : Kind) (z : Store F P H) (side : Side) (t : ℕ) → So kind z → So kind (with_stale z side t false)
      leveled kind z sides.A t f = (
        fine_on x (core_of z) (core_of (with_stale z sides.A t false)) f.0 (side_fine z sides.A t),
        tried_level c kind z sides.A t f.1,
        λ q lt there none plain. levels_still z sides.A t q (f.2 q lt there none plain),
        f.3,
      )
      leveled kind z sides.B t f = (
        fine_on x (core_of z) (core_of (with_stale z sides.B t false)) f.0 (side_fine z sides.B t),
        tried_level c kind z sides.B t f.1,
        λ q lt there none plain. levels_still z sides.B t q (f.2 q lt there none plain),
        f.3,
      )

      took : (kind : Kind) (z : Store F P H) (t : ℕ) (b : Bool) → kind ≡ Shut → z.a.up ≡ true →
          Fine x (core_of (if b then with_stale (with_stale z sides.A t false) sides.B t true else with_stale z sides.A t false)) → ThereBut t z →
          Rest kind z → So kind (if b then with_stale (with_stale z sides.A t false) sides.B t true else with_stale z sides.A t false)
      took kind z t true is up f there rest = (
        f,
        λ e. never_both c kind is e,
        λ q lt none_lost none plain. both_level z t q up (cases_eq q t) (λ ne. there q ne lt none_lost none plain),
        rest,
      )
      took kind z t false is up f there rest = (
        f,
        λ e. never_both c kind is e,
        λ q lt none_lost none plain. a_level z t q up (cases_eq q t) (λ ne. there q ne lt none_lost none plain),
        rest,
      )

      -- A loose track becomes firm

      record Firmed (kind : Kind) (t : ℕ) (z : Store F P H) : Type 0 where
        there : ThereBut t z
        rest : Rest kind z
        modified : (q : ℕ) → q < n → q ≡ t → is_modified c (frame_at z q) ≡ true

      loose_there : (kind : Kind) (z : Store F P H) (t : ℕ) → is_loose z t ≡ true → LooseAre kind z → (q : ℕ) → q < n → q ≡ t →
          is_modified c (frame_at z q) ≡ true
      loose_there kind z t loose f q lt is = (f q lt (subst (λ (p : ℕ). is_loose z p ≡ true) (sym is) loose)).0

      firmed_by : (kind : Kind) (z : Store F P H) (t : ℕ) (b : Bool) → is_loose z t ≡ true → So kind z →
          Firmed kind t (if b then with_stale (with_stale (hardened z t) sides.A t true) sides.B t true else with_stale (hardened z t) sides.A t true)
      firmed_by kind z t true loose f = record {
        there = λ q ne lt there none plain.
            ap (λ (w : Bool). (z.a.up && not w) || (z.b.up && not (get_or (set z.b.stale t true) q false))) (get_or-set_other z.a.stale t q true false ne)
            ∙ ap (λ (w : Bool). level_at z.a q || (z.b.up && not w)) (get_or-set_other z.b.stale t q true false ne) ∙ f.2 q lt there none plain;
        rest = (λ q lt is. f.3.0 q lt (unset z.loose t q is), f.3.1, f.3.2);
        modified = loose_there kind z t loose f.3.0;
      }
      firmed_by kind z t false loose f = record {
        there = λ q ne lt there none plain.
            ap (λ (w : Bool). (z.a.up && not w) || level_at z.b q) (get_or-set_other z.a.stale t q true false ne) ∙ f.2 q lt there none plain;
        rest = (λ q lt is. f.3.0 q lt (unset z.loose t q is), f.3.1, f.3.2);
        modified = loose_there kind z t loose f.3.0;
      }

      there_all : (kind : Kind) (z : Store F P H) (t : ℕ) → Firmed kind t z → IsThere z
      there_all kind z t f q lt there none plain = by_place (cases_eq q t)
        where
          by_place : (q ≡ t) ⊎ (q ≢ t) → has_level z q ≡ true
          by_place (inl is) = never (is_modified c (frame_at z q)) (f.modified q lt is) plain
          by_place (inr ne) = f.there q ne lt there none plain

      firmed : (kind : Kind) (z : Store F P H) (t : ℕ) → kind ≡ Shut → is_loose z t ≡ true → (z.a.up ≡ false) ⊎ MayFail lucky → So kind z →
          So kind (stale_everywhere (hardened z t) t)
      firmed kind z t is loose (inl down) f =
          let y = stale_everywhere (hardened z t) t in
          let off = everywhere_off (hardened z t) t in
          let g = firmed_by kind z t z.paired loose f in (
            fine_on x (core_of z) (core_of y) f.0 (off_down t (core_of (hardened z t)) (core_of y) off (off.up ∙ down)),
            λ e. never_both c kind is e,
            there_all kind y t g,
            g.rest,
          )
      firmed kind z t is loose (inr why) f = none_fails why

      firmed_taken : (kind : Kind) (z : Store F P H) (t : ℕ) → kind ≡ Shut → is_loose z t ≡ true → z.a.up ≡ true → So kind z →
          So kind (taken_a (write_counted (stale_everywhere (hardened z t) t) true) t)
      firmed_taken kind z t is loose up f =
          let y = write_counted (stale_everywhere (hardened z t) t) true in
          let off = everywhere_off (hardened z t) t in
          let g = firmed_by kind z t z.paired loose f in
          took kind y t y.b.up is (off.up ∙ up) (taken_a_fine x y t (off_was t x (core_of (hardened z t)) (core_of y) f.0 off g.rest.1)) g.there g.rest

      -- A frame comes, or goes

      placed : (l : List (Option F)) (t : ℕ) (o : Option F) → length l ≡ n → t < n → get_or (set l t o) t None ≡ o
      placed l t o long lt = get_or-set_same l t o None (omega (arith, long, lt))

      framed : (kind : Kind) (z : Store F P H) (t : ℕ) (o : Option F) →
          (t < n → is_lost z t ≡ false → half_is z.half t ≡ false → is_modified c o ≡ false → has_level z t ≡ true) →
          (t < n → is_loose z t ≡ true → is_modified c o ≡ true) → So kind z → So kind (with_frame z t o)
      framed kind z t o here loose_here f = (f.0, f.1, there, (loose, f.3.1, length-set z.frames t o ∙ f.3.2))
        where
          there_by : (q : ℕ) → (q ≡ t) ⊎ (q ≢ t) → q < n → is_lost z q ≡ false → half_is z.half q ≡ false →
              is_modified c (get_or (set z.frames t o) q None) ≡ false → has_level z q ≡ true
          there_by q (inl is) =
              subst (λ (p : ℕ). p < n → is_lost z p ≡ false → half_is z.half p ≡ false → is_modified c (get_or (set z.frames t o) p None) ≡ false →
              has_level z p ≡ true) (sym is)
              (λ lt there none plain. here lt there none (sym (ap (λ (y : Option F). is_modified c y) (placed z.frames t o f.3.2 lt)) ∙ plain))
          there_by q (inr ne) = λ lt there none plain.
              f.2 q lt there none (sym (ap (λ (y : Option F). is_modified c y) (get_or-set_other z.frames t q o None ne)) ∙ plain)

          there : IsThere (with_frame z t o)
          there q = there_by q (cases_eq q t)

          loose_by : (q : ℕ) → (q ≡ t) ⊎ (q ≢ t) → q < n → is_loose z q ≡ true → is_modified c (get_or (set z.frames t o) q None) ≡ true
          loose_by q (inl is) =
              subst (λ (p : ℕ). p < n → is_loose z p ≡ true → is_modified c (get_or (set z.frames t o) p None) ≡ true) (sym is)
              (λ lt is. ap (λ (y : Option F). is_modified c y) (placed z.frames t o f.3.2 lt) ∙ loose_here lt is)
          loose_by q (inr ne) = λ lt is. ap (λ (y : Option F). is_modified c y) (get_or-set_other z.frames t q o None ne) ∙ (f.3.0 q lt is).0

          loose : LooseAre kind (with_frame z t o)
          loose q lt is = (loose_by q (cases_eq q t) lt is, (f.3.0 q lt is).1)

      -- one that is modified
      modified : (kind : Kind) (z : Store F P H) (t : ℕ) (g : F) → c.modified g ≡ true → So kind z → So kind (with_frame z t (Some g))
      modified kind z t g is f = framed kind z t (Some g) (λ lt there none plain. never (c.modified g) is plain) (λ lt loose. is) f

      -- instead of one that isn't
      instead : (kind : Kind) (z : Store F P H) (t : ℕ) (o : Option F) → is_modified c (frame_at z t) ≡ false → So kind z → So kind (with_frame z t o)
      instead kind z t o old f =
          framed kind z t o (λ lt there none plain. f.2 t lt there none old)
          (λ lt loose. never (is_modified c (frame_at z t)) (f.3.0 t lt loose).0 old) f

      filled : (kind : Kind) (z : Store F P H) (t : ℕ) (o : Option F) → IsPlain lucky c z t → So kind z → So kind (with_frame z t o)
      filled kind z t o (inl plain) f = instead kind z t o plain f
      filled kind z t o (inr why) f = none_fails why

      -- of a track that was written
      written : (kind : Kind) (z : Store F P H) (t : ℕ) (o : Option F) → (Empties kind → ⊥) → IsWritten lucky kind z t → So kind z → So kind (with_frame z t o)
      written kind z t o mild (first_written level firm) f =
          framed kind z t o (λ lt there none plain. level) (λ lt loose. never (is_loose z t) loose firm) f
      written kind z t o mild (second_written unshut level h is same) f =
          framed kind z t o (λ lt there none plain. level)
          (λ lt loose. never (half_is z.half t) (ap (λ (y : Option (HalfWrite H)). half_is y t) is ∙ eq-eqb h.track t same)
          ((f.3.0 t lt loose).1 (half_kind kind mild unshut))) f
      written kind z t o mild (write_failed why) f = none_fails why

      renewed : (kind : Kind) (z : Store F P H) (t : ℕ) (i : Image) (g : F) → frame_at z t ≡ Some g → So kind z →
          So kind (with_frame z t (Some (c.frame i (c.modified g))))
      renewed kind z t i g is f =
          let old : is_modified c (frame_at z t) ≡ c.modified g = ap (λ (y : Option F). is_modified c y) is in
          let made = faithful.made i (c.modified g) in
          framed kind z t (Some (c.frame i (c.modified g))) (λ lt there none plain. f.2 t lt there none (old ∙ sym made ∙ plain))
          (λ lt loose. made ∙ sym old ∙ (f.3.0 t lt loose).0) f

      -- a track becomes loose
      loosened_so : (kind : Kind) (z : Store F P H) (t : ℕ) → kind ≡ Shut → (t < n → is_modified c (frame_at z t) ≡ true) → So kind z → So kind (loosened z t)
      loosened_so kind z t is here f = (f.0, f.1, f.2, (λ q lt. by_place q (cases_eq q t) lt, f.3.1, f.3.2))
        where
          by_place : (q : ℕ) → (q ≡ t) ⊎ (q ≢ t) → q < n → get_or (set z.loose t true) q false ≡ true →
              (is_modified c (frame_at z q) ≡ true) × (kind ≡ Half → half_is z.half q ≡ false)
          by_place q (inl same) lt loose =
              (subst (λ (p : ℕ). p < n → is_modified c (frame_at z p) ≡ true) (sym same) here lt, λ e. never_both c kind is e)
          by_place q (inr ne) lt loose = f.3.0 q lt (sym (get_or-set_other z.loose t q true false ne) ∙ loose)

      provisional : (kind : Kind) (z : Store F P H) (t : ℕ) (i : Image) (e : Edit) (b : Bool) → kind ≡ Shut → So kind z →
          So kind (with_loose_edit (with_frame (if b then z else loosened z t) t (Some (c.frame i true))) t e)
      provisional kind z t i e true is f = modified kind z t (c.frame i true) (faithful.made i true) f
      provisional kind z t i e false is f =
          loosened_so kind (with_frame z t (Some (c.frame i true))) t is
          (λ lt. ap (λ (y : Option F). is_modified c y) (placed z.frames t (Some (c.frame i true)) f.3.2 lt) ∙ faithful.made i true)
          (modified kind z t (c.frame i true) (faithful.made i true) f)

      -- A half write ends, or is cut

      closing : (kind : Kind) (z : Store F P H) → (Empties kind → ⊥) → Closes lucky kind z → So kind z → So kind (half_closed z)
      closing kind z mild (half_done h is level bare) f = (
        fine_on x (core_of z) (core_of (half_closed z)) f.0 (closed_fine z),
        λ e k none. absurd (cc),
        λ q lt there none plain. by_place q (cases_eq q h.track) lt there plain,
        (λ q lt loose. ((f.3.0 q lt loose).0, λ e. refl), λ q e. absurd (cc), f.3.2),
      )
        where
          by_place : (q : ℕ) → (q ≡ h.track) ⊎ (q ≢ h.track) → q < n → is_lost z q ≡ false → is_modified c (frame_at z q) ≡ false → has_level z q ≡ true
          by_place q (inl same) lt there plain = subst (λ (p : ℕ). has_level z p ≡ true) (sym same) level
          by_place q (inr ne) lt there plain =
              f.2 q lt there (ap (λ (y : Option (HalfWrite H)). half_is y q) is ∙ ne_eqb h.track q (λ e. ne (sym e))) plain
      closing kind z mild (half_untried unshut h is none off) f = not_untried c kind z h (half_kind kind mild unshut) f.1 is none off
      closing kind z mild (half_failed why) f = none_fails why
      closing kind z mild (half_emptied may) f = absurd (mild may)

      lost_past : (kind : Kind) (z : Store F P H) (t : ℕ) → IsBare z t → frame_at z t ≡ None → half_is z.half t ≡ false → So kind z →
          So kind (with_lost z t)
      lost_past kind z t bare none half f = by_place (cases_lt t n)
        where
          by_place : (t < n) ⊎ (n ≤ t) → So kind (with_lost z t)
          by_place (inl lt) =
              never (has_level z t) (f.2 t lt bare.there half (ap (λ (y : Option F). is_modified c y) none)) bare.none
          by_place (inr le) =
              let long : length z.lost ≡ n = ap (λ (l : List Bool). length l) f.0.lost ∙ sized in
              subst (λ (l : List Bool). So kind (record z { lost = l })) (sym (set_past z.lost t true (omega (arith, long, le)))) f

      kept : (kind : Kind) → (Empties kind → ⊥) → IsKept lucky kind c (λ m z. So kind z)
      kept kind mild = record {
        reads = λ m k z ok is f. f;
        writes = λ m k z ok is f. f;
        falls_reading = λ m k z side pair is f. absurd (cc);
        falls_writing = λ m k z side pair is f. absurd (cc);
        falls = λ m z side lost f. never_losing kind mild (losses.Side side) lost;
        takes = λ m z t is up f.
            took kind z t z.b.up is up (taken_a_fine x z t (fine_off t x (core_of z) f.0)) (λ q ne. f.2 q) f.3;
        levels = λ m z side t f. leveled kind z side t f;
        spoils = λ m z t is alone why f. none_fails why;
        stales = λ m z t other away f. never_stale kind mild away;
        firms = λ m z t is loose why f. firmed kind z t is loose why f;
        firms_taken = λ m k z t is loose up wrote f. firmed_taken kind z t is loose up f;
        marks = λ m z t g bare is clean f. modified kind z t (c.marked g true) (faithful.marked g true) f;
        hardens = λ m z t bare loose f. (f.0, f.1, f.2, (λ q lt is. f.3.0 q lt (unset z.loose t q is), f.3.1, f.3.2));
        loses = λ m z t bare none half f. lost_past kind z t bare none half f;
        drops = λ m z t clean f. instead kind z t None (clean_plain c (frame_at z t) clean) f;
        fills = λ m z t i patched is plain f. filled kind z t (Some (c.frame i patched)) plain f;
        frames = λ m z t o bare why f. written kind z t o mild why f;
        renews = λ m z t i g bare is f. renewed kind z t i g is f;
        unframes = λ m z t may f. absurd (mild may);
        patches = λ m z t f. f;
        unpatches = λ m z t slot f. f;
        queues = λ m z t room f. f;
        dequeues = λ m z ts less f. f;
        edits = λ m z t e f. f;
        goes_fast = λ m z t i e slot there f. modified kind z t (c.frame i true) (faithful.made i true) f;
        goes_provisionally = λ m z t i e is f. provisional kind z t i e (is_loose z t) is f;
        goes_back = λ m z may some f. absurd (mild may);
        loses_loose = λ m z lossy some f. never_losing kind mild losses.Cache lossy;
        closes = λ m z why f. closing kind z mild why f;
        cuts = λ m z h bypass e is f. (
          fine_on x (core_of z) (record (core_of z) { half = Some h.track }) f.0 (cut_fine z h is),
          tried_cut c kind z h bypass is f.1,
          λ q lt there none plain. f.2 q lt there (ap (λ (y : Option (HalfWrite H)). half_is y q) is ∙ none) plain,
          (
            λ q lt loose. ((f.3.0 q lt loose).0, λ k. sym (ap (λ (y : Option (HalfWrite H)). half_is y q) is) ∙ (f.3.0 q lt loose).1 k),
            λ q same. f.3.1 q (ap (option_map (λ (y : HalfWrite H). y.track)) is ∙ same),
            f.3.2,
          ),
        );
        notes = λ m z loss lossy f. never_losing kind mild loss lossy;
        pays = λ m z t o f. f;
      }

      ended : (kind : Kind) → IsEnded lucky kind c (λ m z. So kind z) (λ m z. Fine x (core_of z))
      ended kind = record {
        weaker = λ m z f. f.0;
        opens = λ m z t i origin is may firm f. fine_on x (core_of z) (record (core_of z) { half = Some t }) f.0 (opened_fine z t may);
        opens_cleaned = λ m z t i origin is may firm f. fine_on x (core_of z) (record (core_of z) { half = Some t }) f.0 (opened_fine z t may);
        pays = λ m z t o f. f;
      }

  module _ (faithful : IsFaithful c) where
    long_lost : (s : Store F P H) → IsWell c s → length s.lost ≡ tracks_of s
    long_lost s w = cc (w.sizes.are)

    -- where the marks are good
    begins : (kind : Kind) (s : Store F P H) (w : IsWell c s) → IsTried c kind s → So (tracks_of s) (core_of s) faithful (long_lost s w) kind s
    begins kind s w tried = (
      fine (core_of s),
      tried,
      λ q lt there none plain. level_of s q (w.good q lt) there none (plain_mark (frame_at s q) ∙ plain),
      (λ q lt loose. let f = modified_of s q (w.good q lt) loose in (f.0, λ e. f.1), λ q e. e, cc (w.sizes.are)),
    )

    moves_fine : (s : Store F P H) {m : Unit {0}} {z : Store F P H} → IsWell c s → Moves lucky Shut c tt s m z → Fine (core_of s) (core_of z)
    moves_fine s w m =
        (moves_keep (kept (tracks_of s) (core_of s) faithful (long_lost s w) Shut (λ may. may)) (begins Shut s w (λ e. absurd (cc))) m).0

    -- from y on, which is so
    ends_from : (kind : Kind) → (Empties kind → ⊥) → (s : Store F P H) (w : IsWell c s) (y : Store F P H) {m : Unit {0}} {z : Store F P H} →
        So (tracks_of s) (core_of s) faithful (long_lost s w) kind y → Ends lucky kind c tt y m z → Fine (core_of s) (core_of z)
    ends_from kind mild s w y f m =
        ends_keep (kept (tracks_of s) (core_of s) faithful (long_lost s w) kind mild) (ended (tracks_of s) (core_of s) faithful (long_lost s w) kind) f m

    -- The parts of a command

    pub image_goes : (s : Store F P H) (u : Usage) (t : ℕ) → IsWell c s → Goes s (image c s u t)
    image_goes s u t w = within_lucky (within_weaker (W.image_goes s u t tt stays) (λ n z a m. moves_fine s w m))

    shut_fine : (s : Store F P H) {m : Unit {0}} {z : Store F P H} → IsWell c s → Ends lucky Shut c tt s m z → Fine (core_of s) (core_of z)
    shut_fine s w m = ends_from Shut (λ may. may) s w s (begins Shut s w (λ e. absurd (cc))) m

    went_fine : (s : Store F P H) (m : Unit {0}) (z : Store F P H) (o : Option Went) → IsWell c s → WentTo lucky Shut c tt s Anywhere m z o →
        Fine (core_of s) (core_of z)
    went_fine s m z None w g = shut_fine s w g
    went_fine s m z (Some (Over turn)) w g = shut_fine s w g
    went_fine s m z (Some (On chain q)) w g = moves_fine s w g.0

    pub looked_goes : (chain : ChainState) (first t : ℕ) (s : Store F P H) (o : Option Imaged) → IsWell c s → Goes s (had_by (looked c chain first t) s o)
    looked_goes chain first t s o w = within_lucky (within_weaker (looked_looks refl (reaches_any (λ q. tt)) chain first t s o tt stays) (λ n z a g. went_fine s n z a w g))

    pub look_goes : (chain : ChainState) (first t : ℕ) (s : Store F P H) → IsWell c s → Goes s (look c chain first t s)
    look_goes chain first t s w = within_lucky (within_weaker (look_looks refl (reaches_any (λ q. tt)) chain first t s tt stays) (λ n z a g. went_fine s n z a w g))

    pub follow_goes : (k first : ℕ) (chain : ChainState) (t : ℕ) (s : Store F P H) → IsWell c s → Goes s (follow c k first chain t s)
    follow_goes k first chain t s w = within_lucky (within_weaker (follow_comes refl (reaches_any (λ q. tt)) k first tt chain t s tt stays) (λ n z a g. shut_fine s w g))

    pub recovered_bytes_goes : (t : ℕ) (s : Store F P H) (g : Got R) (o : Option R) → IsWell c s → Goes s (recovered_bytes c t s g o)
    recovered_bytes_goes t s g o w = within_lucky (within_weaker (recovered_bytes_comes refl t s g o stays) (λ n z a m. shut_fine s w m))

    -- Whole events

    pub command_goes : (d : Device F P H) → IsWell c d.store → DeviceGoes c d.store (command c d)
    command_goes d w =
        within_lucky (command_leads lucky c tt d (reaches_any (λ t. tt)) (λ chain t is e. tt) (λ n e. Fine (core_of d.store) (core_of e.store)) (fine (core_of d.store))
        (λ n e m. ends_from Shut (λ may. may) d.store w (noted_begin d.store) (begins Shut d.store w (λ e. absurd (cc))) m))

    pub background_goes : (d : Device F P H) → IsWell c d.store → DeviceGoes c d.store (background c d)
    background_goes d w =
        within_lucky (within_weaker (background_leads lucky c tt d (λ t ts is. tt))
        (λ n e a m. ends_from Shut (λ may. may) d.store w (noted_begin d.store) (begins Shut d.store w (λ e. absurd (cc))) m))

    pub second_event_goes : (d : Device F P H) → IsWell c d.store → HalfIsTried d.store → DeviceGoes c d.store (second c d)
    second_event_goes d w tried =
        within_lucky (within_weaker (second_leads lucky c tt d Half (λ e. absurd (cc)))
        (λ n e a m. ends_from Half (λ may. may) d.store w (noted_begin d.store) (begins Half d.store w (λ e. tried)) m))

    pub peek_goes : (d : Device F P H) (t : ℕ) → IsWell c d.store → HalfIsTried d.store → DeviceGoes c d.store (peek c d t)
    peek_goes d t w tried =
        within_lucky (within_weaker (peek_leads lucky c tt d Half t tt)
        (λ n e a m. ends_from Half (λ may. may) d.store w (noted_begin d.store) (begins Half d.store w (λ e. tried)) m))
