-- The image that a command looks at, hit or missed, keeps good marks good whatever is answered.
use Rattle.std.proofs.Common.{◌≡◌, ◌<◌, ◌≤◌, ◌+◌, ℕ, Bool, true, false, List, Option, Some, None, is_some, refl, sym, ap, subst, ◌∙◌, arith}
use Rattle.std.specs.Prelude.{if◌then◌else◌, IfSome, nat_le, nat_lt, length, [], ◌∷◌, ◌++◌}
use Rattle.std.proofs.lemmas.Bool.Decides.{nat_tests}
use Rattle.ckd_types.specs.declared.paths.Side.{Side}
use Rattle.ckd_types.specs.Parameters.{is_bypass}
use Rattle.track_image.specs.Image.{Image}
use Rattle.device_outside.specs.Interaction.{Interaction, Done, Ask}
use Rattle.device_outside.specs.Pool.{Touch, WantFrame}
use Rattle.device_defs.specs.declared.usage.Usage.{Usage}
use Rattle.device_defs.specs.Contents.{Contents}
use Rattle.device_defs.specs.Image as I
use Rattle.device_defs.specs.Image.{
  Got,
  Imaged,
  Has,
  NoBytes,
  BadTrack,
  loads,
  is_sequential,
  queued,
  ahead,
  granted,
  delivered,
  missed,
  miss,
  hit,
  clean_image,
  image_by,
  image,
  image_of,
}
use Rattle.device_defs.specs.Memory.{tried}
use Rattle.device_defs.specs.Store.{Store, tracks_of, has_level, frame_at, is_loose, with_frame}
use Rattle.device_laws.specs.InOrder.{AreBelow}
use Rattle.device_laws.proofs.Always.{Always, always_done, always_try, always_ask, always_then, always_weaker}
use Rattle.device_laws.proofs.Changes as C
use Rattle.device_laws.proofs.Changes.{rest_of, changed_frame}
use Rattle.device_laws.proofs.FailedCall.{IsWell, Goes, stays, goes_on, changed_goes}
use Rattle.device_laws.proofs.Sweeps.{all_queued}
use Rattle.device_laws.proofs.TrackImage.{Reads, level_bytes_keeps_good, filling_keeps_good}
use Rattle.device_laws.proofs.TrackMarks as M
use Rattle.device_laws.proofs.TrackMarks.{TrackMarks, marks, IsFaithful, is_good, frame_mark, track_at}
use Rattle.device_laws.proofs.WriteMarks.{level_is_there, framed_is_there}

-- a good track without a frame, or with a clean one, isn't loose
none_firm : (p l o h v : Bool) → is_good (marks None p l o h v) ≡ true → o ≡ false
none_firm p l false h v e = refl
none_firm true true true h v e = absurd (cc)
none_firm false true true h v e = absurd (cc)
none_firm p false true true v e = absurd (cc)
none_firm p false true false true e = absurd (cc)
none_firm p false true false false e = absurd (cc)

clean_firm : (p l o h v : Bool) → is_good (marks (Some false) p l o h v) ≡ true → o ≡ false
clean_firm p l false h v e = refl
clean_firm p true true h v e = absurd (cc)
clean_firm p false true true v e = absurd (cc)
clean_firm true false true false true e = absurd (cc)
clean_firm false false true false true e = absurd (cc)
clean_firm p false true false false e = absurd (cc)

-- and a clean frame may go
clean_goes : (p l o h v : Bool) → is_good (marks (Some false) p l o h v) ≡ true → is_good (marks None p l o h v) ≡ true
clean_goes p true o h v e = absurd (cc)
clean_goes p false o true v e = e
clean_goes p false false false true e = refl
clean_goes true false true false true e = absurd (cc)
clean_goes false false true false true e = absurd (cc)
clean_goes p false o false false e = absurd (cc)

abbrev with_mark : TrackMarks → Option Bool → TrackMarks
with_mark x f = record x { frame = f }

pub unframed_is_firm : (x : TrackMarks) → x.frame ≡ None → is_good x ≡ true → x.loose ≡ false
unframed_is_firm x e good = none_firm x.patched x.lost x.loose x.half x.level (subst (λ (f : Option Bool). is_good (with_mark x f) ≡ true) e good)

pub clean_is_firm : (x : TrackMarks) → x.frame ≡ Some false → is_good x ≡ true → x.loose ≡ false
clean_is_firm x e good = clean_firm x.patched x.lost x.loose x.half x.level (subst (λ (f : Option Bool). is_good (with_mark x f) ≡ true) e good)

pub clean_may_go : (x : TrackMarks) → x.frame ≡ Some false → is_good x ≡ true → is_good (with_mark x None) ≡ true
clean_may_go x e good = clean_goes x.patched x.lost x.loose x.half x.level (subst (λ (f : Option Bool). is_good (with_mark x f) ≡ true) e good)

module _ {F P H : Type 0} where
  -- staging ahead changes the queue alone
  queued_by : (s : Store F P H) (t : ℕ) (a b : Bool) →
      (if a then (if b then record s { queue = s.queue ++ t ∷ [] } else s) else s)
      ≡ record s { queue = (if a then (if b then record s { queue = s.queue ++ t ∷ [] } else s) else s).queue }
  queued_by s t true true = refl
  queued_by s t true false = refl
  queued_by s t false b = refl

  queued_only : (last : Option ℕ) (s : Store F P H) (t : ℕ) → queued last s t ≡ record s { queue = (queued last s t).queue }
  queued_only None s t = refl
  queued_only (Some last) s t = queued_by s t (nat_le t last) (nat_lt (length s.queue) 64)

  ahead_by : (u : Usage) (s : Store F P H) (t : ℕ) (b : Bool) →
      (if b then queued u.last (queued u.last s (t + 1)) (t + 2) else s)
      ≡ record s { queue = (if b then queued u.last (queued u.last s (t + 1)) (t + 2) else s).queue }
  ahead_by u s t true =
      queued_only u.last (queued u.last s (t + 1)) (t + 2)
      ∙ ap (λ (y : Store F P H). record y { queue = (queued u.last (queued u.last s (t + 1)) (t + 2)).queue }) (queued_only u.last s (t + 1))
  ahead_by u s t false = refl

  pub ahead_only : (u : Usage) (s : Store F P H) (t : ℕ) → ahead u s t ≡ record s { queue = (ahead u s t).queue }
  ahead_only u s t = ahead_by u s t (is_sequential u.mode)

-- a queue of tracks of the device stays one where the last track to stage is one

below_more : (n : ℕ) (ts : List ℕ) (t : ℕ) → AreBelow n ts → t < n → AreBelow n (ts ++ t ∷ [])
below_more n [] t all lt = (lt, tt)
below_more n (x ∷ ts) t all lt = (all.0, below_more n ts t all.1 lt)

abbrev pub Reaches : Usage → ℕ → Type 0
Reaches u n = IfSome u.last (λ l. l < n)

module _ {F P H : Type 0} where
  more_by : (n : ℕ) (s : Store F P H) (t last : ℕ) (a b : Bool) → nat_le t last ≡ a → last < n → AreBelow n s.queue →
      AreBelow n (if a then (if b then record s { queue = s.queue ++ t ∷ [] } else s) else s).queue
  more_by n s t last true true e lt all = let le : t ≤ last = grind (arith, nat_tests) in below_more n s.queue t all (omega arith)
  more_by n s t last true false e lt all = all
  more_by n s t last false b e lt all = all

  queued_below : (n : ℕ) (last : Option ℕ) (s : Store F P H) (t : ℕ) → IfSome last (λ l. l < n) → AreBelow n s.queue → AreBelow n (queued last s t).queue
  queued_below n None s t lt all = all
  queued_below n (Some last) s t lt all = more_by n s t last (nat_le t last) (nat_lt (length s.queue) 64) refl lt all

  ahead_by_last : (n : ℕ) (u : Usage) (s : Store F P H) (t : ℕ) (b : Bool) → Reaches u n → AreBelow n s.queue →
      AreBelow n (if b then queued u.last (queued u.last s (t + 1)) (t + 2) else s).queue
  ahead_by_last n u s t true lt all = queued_below n u.last (queued u.last s (t + 1)) (t + 2) lt (queued_below n u.last s (t + 1) lt all)
  ahead_by_last n u s t false lt all = all

  ahead_below : (n : ℕ) (u : Usage) (s : Store F P H) (t : ℕ) → Reaches u n → AreBelow n s.queue → AreBelow n (ahead u s t).queue
  ahead_below n u s t lt all = ahead_by_last n u s t (is_sequential u.mode) lt all

abbrev pub has_image : Option Imaged → Bool
has_image None = false
has_image (Some (Has i)) = true
has_image (Some (NoBytes fault)) = false
has_image (Some (BadTrack side)) = false

module _ {F P H R : Type 0} (c : Contents F P H R) (faithful : IsFaithful c) where
  -- a level track that isn't loose, behind another store
  pub record Ready (t : ℕ) (s z : Store F P H) : Type 0 where
    pub goes : Goes c s z
    pub below : t < tracks_of z
    pub firm : is_loose z t ≡ false
    pub level : has_level z t ≡ true

  with_queue : (t : ℕ) (s z : Store F P H) (l : List ℕ) → AreBelow (tracks_of z) l → Ready t s z → Ready t s (record z { queue = l })
  unfolding M.track_at C.rest_of
  with_queue t s z l below r = record {
    goes = record {
      well = record {
        sizes = record { are = r.goes.well.sizes.are };
        here = record {
          free = r.goes.well.here.free;
          alone = r.goes.well.here.alone;
          whole = r.goes.well.here.whole;
          within = r.goes.well.here.within;
          queued = below;
        };
        good = r.goes.well.good;
        kept = r.goes.well.kept;
      };
      tracks = r.goes.tracks;
      firm = r.goes.firm;
      half = r.goes.half;
    };
    below = r.below;
    firm = r.firm;
    level = r.level;
  }

  ready_ahead : (u : Usage) (t : ℕ) (s z : Store F P H) → Reaches u (tracks_of s) → Ready t s z → Ready t s (ahead u z t)
  ready_ahead u t s z lt r =
      rw (ahead_only u z t) (with_queue t s z (ahead u z t).queue
      (ahead_below (tracks_of z) u z t (subst (Reaches u) (sym r.goes.tracks) lt) (all_queued z r.goes.well.here)) r)

  -- behind the look at a track, which isn't lost where there is an image
  pub record Looked (t : ℕ) (s z : Store F P H) (a : Option Imaged) : Type 0 where
    pub goes : Goes c s z
    pub there : has_image a ≡ true → (track_at c z t).lost ≡ false

  ready_there : (t : ℕ) (s z : Store F P H) → Ready t s z → (track_at c z t).lost ≡ false
  unfolding M.track_at
  ready_there t s z r = level_is_there (track_at c z t) (r.goes.well.good t r.below) r.level

  granted_by : (t : ℕ) (s z : Store F P H) (i : Image) (given : Bool) → Ready t s z → Always (granted c z t i given) (λ y a. Looked t s y a)
  granted_by t s z i true r =
      always_then (filling_keeps_good c faithful z t i r.below r.goes.well r.firm r.level)
      (λ y _ g. always_done (record { goes = goes_on c s z y r.goes g.goes; there = λ e. g.lost ∙ ready_there t s z r }))
  granted_by t s z i false r = always_done (record { goes = r.goes; there = λ e. ready_there t s z r })

  asked : (t : ℕ) (s z : Store F P H) (i : Image) (ok : Bool) → Ready t s z →
      Always (if ok then Ask (WantFrame z.device t) (granted c z t i) else Done z None) (λ y a. Looked t s y a)
  asked t s z i true r = always_ask (λ given. granted_by t s z i given r)
  asked t s z i false r = always_done (record { goes = r.goes; there = λ e. absurd (cc) })

  abbrev loaded_if : Store F P H → ℕ → Image → Bool → Interaction R Image (Store F P H) (Option Imaged)
  loaded_if z t i b = if b then tried z (Ask (WantFrame z.device t) (granted c z t i)) else Done z (Some (Has i))

  loaded_by : (t : ℕ) (s z : Store F P H) (i : Image) (b : Bool) → Ready t s z → Always (loaded_if z t i b) (λ y a. Looked t s y a)
  loaded_by t s z i true r = always_try (λ ok. asked t s z i ok r)
  loaded_by t s z i false r = always_done (record { goes = r.goes; there = λ e. ready_there t s z r })

  delivered_goes : (u : Usage) (t : ℕ) (side : Side) (s z : Store F P H) (i : Option Image) → Reaches u (tracks_of s) → Ready t s z →
      Always (delivered c u t side z i) (λ y a. Looked t s y a)
  delivered_goes u t side s z None reach r = always_done (record { goes = r.goes; there = λ e. absurd (cc) })
  delivered_goes u t side s z (Some i) reach r = loaded_by t s (ahead u z t) i (loads u.mode) (ready_ahead u t s z reach r)

  had : (u : Usage) (t : ℕ) (side : Side) (s z : Store F P H) (i : Option Image) (ok : Bool) → Reaches u (tracks_of s) → Ready t s z →
      Always (if ok then delivered c u t side z i else Done z None) (λ y a. Looked t s y a)
  had u t side s z i true reach r = delivered_goes u t side s z i reach r
  had u t side s z i false reach r = always_done (record { goes = r.goes; there = λ e. absurd (cc) })

  ready : (t : ℕ) (s z : Store F P H) (g : Got R) (r : R) → t < tracks_of s → is_loose s t ≡ false → g.bytes ≡ Some r →
      Reads c faithful t s z g → Ready t s z
  unfolding M.track_at
  ready t s z g r lt firm e f = record {
    goes = f.goes;
    below = let same = f.goes.tracks in omega arith;
    firm = f.goes.firm t lt firm;
    level = f.level (ap is_some e);
  }

  missed_by : (u : Usage) (t : ℕ) (s z : Store F P H) (g : Got R) (bytes : Option R) → g.bytes ≡ bytes → Reaches u (tracks_of s) →
      t < tracks_of s → is_loose s t ≡ false →
      Reads c faithful t s z g → Always (missed c u t z g bytes) (λ y a. Looked t s y a)
  missed_by u t s z g None e reach lt firm f = always_done (record { goes = f.goes; there = λ e. absurd (cc) })
  missed_by u t s z g (Some r) e reach lt firm f = always_try (λ ok. had u t g.side s z (image_of c z t r) ok reach (ready t s z g r lt firm e f))

  pub miss_keeps_good : (s : Store F P H) (u : Usage) (t : ℕ) → Reaches u (tracks_of s) → t < tracks_of s → IsWell c s → is_loose s t ≡ false →
      Always (miss c s u t) (λ y a. Looked t s y a)
  miss_keeps_good s u t reach lt w firm =
      always_then (level_bytes_keeps_good c faithful s t w) (λ z g f. missed_by u t s z g g.bytes refl reach lt firm f)

  -- a clean frame that the pool doesn't list any more goes
  pub dropped_goes : (s : Store F P H) (t : ℕ) → t < tracks_of s → IsWell c s → (track_at c s t).frame ≡ Some false → Goes c s (with_frame s t None)
  dropped_goes s t lt w clean =
      changed_goes c s (with_frame s t None) t _ w (changed_frame c s t None lt w.sizes) (clean_may_go (track_at c s t) clean (w.good t lt))
      (w.kept t lt) (λ e. e)

  loose_mark : (s : Store F P H) (t : ℕ) → (track_at c s t).loose ≡ false → is_loose s t ≡ false
  unfolding M.track_at
  loose_mark s t e = e

  listed_by : (s : Store F P H) (u : Usage) (t : ℕ) (f : F) (listed : Bool) → Reaches u (tracks_of s) → t < tracks_of s →
      IsWell c s → (track_at c s t).frame ≡ Some false →
      Always (if listed then hit c s t f else miss c (with_frame s t None) u t) (λ y a. Looked t s y a)
  listed_by s u t f true reach lt w clean =
      always_done (record { goes = stays c s w; there = λ e. framed_is_there (track_at c s t) (w.good t lt) (ap is_some clean) })
  listed_by s u t f false reach lt w clean =
      let g = dropped_goes s t lt w clean in
      let firm = g.firm t lt (clean_is_firm (track_at c s t) clean (w.good t lt)) in
      let same = g.tracks in
      always_weaker (miss_keeps_good (with_frame s t None) u t (subst (Reaches u) (sym g.tracks) reach) (omega arith) g.well
      (loose_mark (with_frame s t None) t firm))
      (λ z _ h. record { goes = goes_on c s (with_frame s t None) z g h.goes; there = h.there })

  bypass_by : (s : Store F P H) (u : Usage) (t : ℕ) (f : F) (b : Bool) → Reaches u (tracks_of s) → t < tracks_of s →
      IsWell c s → (track_at c s t).frame ≡ Some false →
      Always (if b then miss c s u t else Ask (Touch s.device t) (λ listed. if listed then hit c s t f else miss c (with_frame s t None) u t))
      (λ y a. Looked t s y a)
  bypass_by s u t f true reach lt w clean = miss_keeps_good s u t reach lt w (loose_mark s t (clean_is_firm (track_at c s t) clean (w.good t lt)))
  bypass_by s u t f false reach lt w clean = always_ask (λ listed. listed_by s u t f listed reach lt w clean)

  frame_is : (s : Store F P H) (t : ℕ) (o : Option F) → frame_at s t ≡ o → (track_at c s t).frame ≡ frame_mark c o
  unfolding M.track_at
  frame_is s t o e = ap (frame_mark c) e

  modified_by : (s : Store F P H) (u : Usage) (t : ℕ) (f : F) (b : Bool) → c.modified f ≡ b → frame_at s t ≡ Some f → Reaches u (tracks_of s) →
      t < tracks_of s → IsWell c s →
      Always (if b then hit c s t f else clean_image c s u t f) (λ y a. Looked t s y a)
  modified_by s u t f true m e reach lt w =
      always_done (record { goes = stays c s w; there = λ k. framed_is_there (track_at c s t) (w.good t lt) (ap is_some (frame_is s t (Some f) e)) })
  modified_by s u t f false m e reach lt w = bypass_by s u t f (is_bypass u.mode) reach lt w (frame_is s t (Some f) e ∙ ap Some m)

  by_frame : (s : Store F P H) (u : Usage) (t : ℕ) (o : Option F) → frame_at s t ≡ o → Reaches u (tracks_of s) → t < tracks_of s → IsWell c s →
      Always (image_by c s u t o) (λ y a. Looked t s y a)
  by_frame s u t None e reach lt w =
      miss_keeps_good s u t reach lt w (loose_mark s t (unframed_is_firm (track_at c s t) (frame_is s t None e) (w.good t lt)))
  by_frame s u t (Some f) e reach lt w = modified_by s u t f (c.modified f) refl e reach lt w

  -- the image of a track
  pub image_keeps_good : (s : Store F P H) (u : Usage) (t : ℕ) → Reaches u (tracks_of s) → t < tracks_of s → IsWell c s →
      Always (image c s u t) (λ y a. Looked t s y a)
  unfolding I.image
  image_keeps_good s u t reach lt w = by_frame s u t (frame_at s t) refl reach lt w
