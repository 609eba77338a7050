-- The image of a track, read or held, keeps good marks good whatever is answered, also where volumes don't tell what they hold.
use Rattle.std.proofs.Common.{◌≡◌, ◌<◌, ℕ, Bool, true, false, Option, Some, None, is_some, refl, sym, ap, subst, ◌∙◌}
use Rattle.std.specs.Prelude.{if◌then◌else◌}
use Rattle.ckd_types.specs.declared.paths.Side.{Side}
use Rattle.ckd_types.specs.declared.paths.Side.TheVariants.{A, B}
use Rattle.track_image.specs.Image.{Image}
use Rattle.device_outside.specs.Interaction.{Interaction, Done, Ask}
use Rattle.device_outside.specs.Pool.{SetModified}
use Rattle.device_defs.specs.Contents.{Contents}
use Rattle.device_defs.specs.Image as I
use Rattle.device_defs.specs.Image.{Got, Imaged, Has, NoBytes, got, read_counted, read_side, second_read, read_b, first_read, level_bytes, filled, framed}
use Rattle.device_defs.specs.Store.{Store, tracks_of, level_at, has_level, patch_at, is_loose}
use Rattle.device_laws.proofs.Bools.{or_left, or_right}
use Rattle.device_laws.proofs.Always.{Always, always_done, always_ask, always_read, always_then}
use Rattle.device_laws.proofs.Changes as C
use Rattle.device_laws.proofs.Changes.{Changed, rest_of, changed_frame}
use Rattle.device_laws.proofs.FailedCall.{IsWell, IsSame, Goes, stays, goes_on, goes_same, changed_goes, failed_call_keeps_good}
use Rattle.device_laws.proofs.Soundness.{and_not}
use Rattle.device_laws.proofs.TrackMarks as M
use Rattle.device_laws.proofs.TrackMarks.{TrackMarks, marks, IsFaithful, is_good, frame_mark, track_at}

-- a level track that isn't loose may have a frame, which is modified where a patch is held
filled_by : (f : Option Bool) (p l h : Bool) → is_good (marks f p l false h true) ≡ true → is_good (marks (Some p) p l false h true) ≡ true
filled_by f p true h e = absurd (let n = and_not _ true e in cc)
filled_by f p false true e = refl
filled_by f true false false e = refl
filled_by f false false false e = refl

pub filled_good : (x : TrackMarks) → x.loose ≡ false → x.level ≡ true → is_good x ≡ true → is_good (record x { frame = Some x.patched }) ≡ true
filled_good x firm level good =
    subst (λ (o : Bool). is_good (marks (Some x.patched) x.patched x.lost o x.half x.level) ≡ true) (sym firm)
    (subst (λ (v : Bool). is_good (marks (Some x.patched) x.patched x.lost false x.half v) ≡ true) (sym level)
    (filled_by x.frame x.patched x.lost x.half
    (subst (λ (v : Bool). is_good (marks x.frame x.patched x.lost false x.half v) ≡ true) level
    (subst (λ (o : Bool). is_good (marks x.frame x.patched x.lost o x.half x.level) ≡ true) firm good))))

module _ {F P H R : Type 0} (c : Contents F P H R) (faithful : IsFaithful c) where
  -- behind the reads of a track: bytes come from a side that has it level
  pub record Reads (t : ℕ) (s z : Store F P H) (g : Got R) : Type 0 where
    pub goes : Goes c s z
    pub level : is_some g.bytes ≡ true → has_level z t ≡ true

  counted_same : (s : Store F P H) (ok : Bool) → IsWell c s → IsSame c s (read_counted s ok)
  unfolding M.track_at C.rest_of
  counted_same s ok w = record { sizes = record { are = w.sizes.are }; rest = refl; marks = λ q. refl }

  counted_goes : (s : Store F P H) (ok : Bool) → IsWell c s → Goes c s (read_counted s ok)
  counted_goes s ok w = goes_same c s (read_counted s ok) w (counted_same s ok w)

  b_gave : (s z : Store F P H) (t : ℕ) (fault : Option Side) (bytes : Option R) → Goes c s z → level_at z.b t ≡ true →
      Always (second_read c fault z bytes) (λ y g. Reads t s y g)
  b_gave s z t fault (Some r) f level = always_done (record { goes = f; level = λ e. or_right (level_at z.a t) (level_at z.b t) level })
  b_gave s z t fault None f level =
      always_then (failed_call_keeps_good c faithful z B f.well)
      (λ y _ g. always_done (record { goes = goes_on c s z y f g; level = λ e. absurd (cc) }))

  b_by : (s z : Store F P H) (t : ℕ) (fault : Option Side) (b : Bool) → level_at z.b t ≡ b → Goes c s z →
      Always (if b then read_side c z B t (second_read c fault) else Done z (got B None fault)) (λ y g. Reads t s y g)
  b_by s z t fault true level f =
      always_read (λ bytes. b_gave s (read_counted z (is_some bytes)) t fault bytes
      (goes_on c s z (read_counted z (is_some bytes)) f (counted_goes z (is_some bytes) f.well)) level)
  b_by s z t fault false level f = always_done (record { goes = f; level = λ e. absurd (cc) })

  a_gave : (s z : Store F P H) (t : ℕ) (bytes : Option R) → Goes c s z → level_at z.a t ≡ true →
      Always (first_read c t z bytes) (λ y g. Reads t s y g)
  a_gave s z t (Some r) f level = always_done (record { goes = f; level = λ e. or_left (level_at z.a t) (level_at z.b t) level })
  a_gave s z t None f level =
      always_then (failed_call_keeps_good c faithful z A f.well)
      (λ y _ g. b_by s y t (Some A) (level_at y.b t) refl (goes_on c s z y f g))

  a_by : (s : Store F P H) (t : ℕ) (b : Bool) → level_at s.a t ≡ b → IsWell c s →
      Always (if b then read_side c s A t (first_read c t) else read_b c s t None) (λ y g. Reads t s y g)
  a_by s t true level w =
      always_read (λ bytes. a_gave s (read_counted s (is_some bytes)) t bytes (counted_goes s (is_some bytes) w) level)
  a_by s t false level w = b_by s s t None (level_at s.b t) refl (stays c s w)

  pub level_bytes_keeps_good : (s : Store F P H) (t : ℕ) → IsWell c s → Always (level_bytes c s t) (λ y g. Reads t s y g)
  unfolding I.level_bytes
  level_bytes_keeps_good s t w = a_by s t (level_at s.a t) refl w

  -- an image becomes the frame of a level track that isn't loose
  framed_goes : (s : Store F P H) (t : ℕ) (i : Image) (m : Bool) → is_some (patch_at s t) ≡ m → t < tracks_of s → IsWell c s →
      is_loose s t ≡ false → has_level s t ≡ true → Goes c s (framed c s t i m)
  unfolding M.track_at
  framed_goes s t i m patched lt w firm level =
      let e = changed_frame c s t (Some (c.frame i m)) lt w.sizes in
      let x = track_at c s t in
      let is : c.modified (c.frame i m) ≡ x.patched = faithful.made i m ∙ sym patched in
      changed_goes c s (framed c s t i m) t (record x { frame = Some x.patched }) w
      (record { sizes = e.sizes; rest = e.rest; elsewhere = e.elsewhere; here = e.here ∙ ap (λ (f : Bool). record x { frame = Some f }) is })
      (filled_good x firm level (w.good t lt)) (w.kept t lt) (λ f. f)

  -- behind the loading of a track, which is lost only where it was
  pub record Filled (t : ℕ) (s z : Store F P H) : Type 0 where
    pub goes : Goes c s z
    pub lost : (track_at c z t).lost ≡ (track_at c s t).lost

  framed_filled : (s : Store F P H) (t : ℕ) (i : Image) (m : Bool) → is_some (patch_at s t) ≡ m → t < tracks_of s → IsWell c s →
      is_loose s t ≡ false → has_level s t ≡ true → Filled t s (framed c s t i m)
  framed_filled s t i m patched lt w firm level = record {
    goes = framed_goes s t i m patched lt w firm level;
    lost = ap (λ (x : TrackMarks). x.lost) (changed_frame c s t (Some (c.frame i m)) lt w.sizes).here;
  }

  abbrev filled_if : Store F P H → ℕ → Image → Bool → Interaction R Image (Store F P H) (Unit {0})
  filled_if s t i b =
      if b then Ask (SetModified s.device t) (λ _. Done (framed c s t i true) tt) else Done (framed c s t i false) tt

  by_patch : (s : Store F P H) (t : ℕ) (i : Image) (b : Bool) → is_some (patch_at s t) ≡ b → t < tracks_of s → IsWell c s →
      is_loose s t ≡ false → has_level s t ≡ true →
      Always (filled_if s t i b) (λ z _. Filled t s z)
  by_patch s t i true patched lt w firm level = always_ask (λ _. always_done (framed_filled s t i true patched lt w firm level))
  by_patch s t i false patched lt w firm level = always_done (framed_filled s t i false patched lt w firm level)

  pub filling_keeps_good : (s : Store F P H) (t : ℕ) (i : Image) → t < tracks_of s → IsWell c s → is_loose s t ≡ false → has_level s t ≡ true →
      Always (filled c s t i) (λ z _. Filled t s z)
  filling_keeps_good s t i lt w firm level = by_patch s t i (is_some (patch_at s t)) refl lt w firm level
