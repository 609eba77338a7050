-- A track that the background writes to the volumes leaves all right, with its twin on marks: recovery and destaging.
use Rattle.std.proofs.Common.{◌≡◌, ◌<◌, ℕ, Bool, true, false, List, Option, Some, None, is_some, refl, sym, ap, subst, ◌∙◌, arith}
use Rattle.std.specs.Prelude.{option_map}
use Rattle.ckd_types.specs.declared.paths.Side.{Side}
use Rattle.ckd_types.specs.declared.record.Track.{Track}
use Rattle.ckd_types.specs.Track.{track_bytes}
use Rattle.ckd_types.specs.Volume.{track_in}
use Rattle.track_image.specs.Image.{Image}
use Rattle.track_cache.specs.declared.frames.Frame.{Frame}
use Rattle.device_outside.specs.Both.{both_try}
use Rattle.device_outside.specs.Interaction.{Interaction, Done, and_then}
use Rattle.device_defs.specs.declared.answers.Did.{Did}
use Rattle.device_defs.specs.declared.answers.Did.TheVariants.{Nothing, Recovered, Half}
use Rattle.device_defs.specs.declared.answers.Took.{Took}
use Rattle.device_defs.specs.declared.answers.Took.TheVariants.{Whole, Opened, Unwritten}
use Rattle.device_defs.specs.Background.{did, saved_by, saving, saved, recovered_bytes, recover}
use Rattle.device_defs.specs.Contents.{Contents, contents, by_plain}
use Rattle.device_defs.specs.Image.{Got, image_of}
use Rattle.device_defs.specs.Losses.{framed_image}
use Rattle.device_defs.specs.Marks.{marks_of, frame_mark}
use Rattle.device_defs.specs.Sound.{DeviceStore}
use Rattle.device_defs.specs.Store.{OfBackground, Store, tracks_of, frame_at, is_lost, is_loose, half_is}
use Rattle.device_defs.specs.Writing.{Wrote, write_first, write_done, write_opened}
use Rattle.device_laws.specs.Agrees.{Held, image_in, PatchHas}
use Rattle.device_laws.specs.Twin.{Twins}
use Rattle.device_laws.proofs.Sweeps.{is_alone}
use Rattle.device_laws.proofs.TrackContents as T
use Rattle.device_laws.proofs.TrackContents.{contents_at, Keeps}
use Rattle.device_laws.proofs.TrackImage.{level_bytes_keeps_good}
use Rattle.device_laws.proofs.TrackMarks as M
use Rattle.device_laws.proofs.TrackMarks.{track_at, device_is_faithful}
use Rattle.device_laws.proofs.TwinAsks.{Stays, stays_image, stays_off, InOrder, Ordered, keeps_at, SameSize, size_of, size_on}
use Rattle.device_laws.proofs.TwinChanges.{frame_twin}
use Rattle.device_laws.proofs.TwinDone.{Closing, write_done_twin}
use Rattle.device_laws.proofs.TwinImage.{Delivers, bytes_twin, not_lost}
use Rattle.device_laws.proofs.TwinOpened.{Opening, opened_twin, firm_twin}
use Rattle.device_laws.proofs.TwinThrough.{none_off, mark_lost}
use Rattle.device_laws.proofs.TwinWalks.{twin_done, twin_then, twin_always, twin_weaker}
use Rattle.device_laws.proofs.TwinWrites.{Written, First, first_twin}
use Rattle.device_laws.proofs.WholeImage.{unframed_is_firm}
use Rattle.device_laws.proofs.Writes.{is_taken, firm_first_keeps_good}
use Rattle.device_laws.proofs.ContentChanges.{loose_is}

-- the plain volume stays
pub record Works {A : Type 0} (u : List Track) (s : DeviceStore) (v w : List Track) (z : DeviceStore) (a b : A) (k : Held) : Type 0 where
  pub order : Ordered v w z k
  pub same : a ≡ b
  pub plain : v ≡ u
  pub size : SameSize s z

-- t is being written as it is plainly, over the store y that the write began with
module _ (u : List Track) (y : DeviceStore) (j : Held) (t : ℕ) (lt : t < tracks_of y) (firm : is_loose y t ≡ false) (none : y.half ≡ None)
    (own : Keeps y.geometry t (contents_at y j t) (image_in y u t) (image_in y u t)) (d : Did) (fault : Option Side) where
  abbrev i : Image
  i = image_in y u t

  abbrev r : List ℕ
  r = track_bytes (track_in u t)

  abbrev Ends : List Track → List Track → DeviceStore → Did → Did → Held → Type 0
  Ends v w z a b k = Works u y v w z a b k

  module _ (v w : List Track) (z : DeviceStore) (k : Held) (x : Written u y j t r v w z k) where
    below : t < tracks_of z
    below = let same = x.mid.stays.cylinders in omega arith

    firm_now : is_loose z t ≡ false
    firm_now = loose_is z k t ∙ x.mid.sided.loose ∙ sym (loose_is y j t) ∙ firm

    image_is : image_in z v t ≡ image_in y u t
    image_is = stays_image y z v t x.mid.stays ∙ ap (λ (l : List Track). image_in y l t) x.mid.plain

    bytes_is : track_bytes (track_in u t) ≡ track_bytes (track_in v t)
    bytes_is = ap (λ (l : List Track). track_bytes (track_in l t)) (sym x.mid.plain)

    closing : Closing t v w (track_in v t) z k
    closing = record {
      but = x.mid.but;
      told = x.mid.told;
      below = below;
      off = none_off z.half t (x.mid.stays.half ∙ none);
      plain = refl;
      firm = x.mid.but.ground.same t below firm_now;
      home = x.mid.but.ground.plain.homes t below;
      fits = x.mid.but.ground.plain.fits t below;
      a = λ l. x.a l ∙ bytes_is;
      b = λ l. x.b l ∙ bytes_is;
    }

    whole_end : (failed : Option Side) → Twins Ends (and_then (write_done contents z t i false) (λ q _. Done q (did fault (did failed d))))
        (and_then (write_done by_plain (marks_of v w z) t i false) (λ q _. Done q (did fault (did failed d)))) k
    whole_end failed =
        rw (← image_is) (twin_then _ _ (write_done_twin t v w (track_in v t) z k false closing)
        (λ v' w' q _ _ n f. twin_done (record {
          order = f.order;
          same = refl;
          plain = f.plain ∙ x.mid.plain;
          size = size_on (size_of x.mid.stays) (size_of f.stays);
        })))

    opening : Opening t v w i OfBackground z k
    opening = record {
      but = x.mid.but;
      told = x.mid.told;
      below = below;
      none = x.mid.stays.half ∙ none;
      firm = firm_now;
      image = sym image_is;
      a = x.a;
      b = x.b;
      frame = λ f l. own.frame f (sym x.mid.sided.frame ∙ l) ∙ sym image_is;
      patch = rw x.mid.sided.patch (subst (λ (n : Image). PatchHas (contents_at y j t).patch n) (sym image_is) own.patch.0);
      suits = tt;
    }

    half_end : (was_loose : Bool) → Twins Ends (and_then (write_opened contents z t i OfBackground was_loose) (λ q _. Done q (did fault (Half t))))
        (and_then (write_opened by_plain (marks_of v w z) t i OfBackground was_loose) (λ q _. Done q (did fault (Half t)))) k
    half_end was_loose =
        twin_then _ _ (opened_twin t v w i OfBackground z k was_loose opening)
        (λ v' w' q _ _ n f. twin_done (record { order = f.order; same = refl; plain = f.plain ∙ x.mid.plain; size = size_on (size_of x.mid.stays) f.size }))

  by_took : (v w : List Track) (z : DeviceStore) (k : Held) (was_loose : Bool) (took : Took) (failed : Option Side) → v ≡ u → Stays y z →
      (is_taken took ≡ true → Written u y j t r v w z k) → (is_taken took ≡ false → Ordered v w z k) →
      Twins Ends (saved_by contents t i d fault was_loose failed z took) (saved_by by_plain t i d fault was_loose failed (marks_of v w z) took) k
  by_took v w z k was_loose Whole failed plain stays done undone = whole_end v w z k (done refl) failed
  by_took v w z k was_loose Opened failed plain stays done undone = half_end v w z k (done refl) was_loose
  by_took v w z k was_loose Unwritten failed plain stays done undone =
      twin_done (record { order = undone refl; same = refl; plain = plain; size = size_of stays })

-- what is behind the firm track
abbrev saved_then : {F P H R : Type 0} (c : Contents F P H R) → ℕ → Did → Option Side → Image → Store F P H → Bool → Interaction R Image (Store F P H) Did
saved_then c t d fault i z was_loose = and_then (write_first c z t (c.bytes i)) (λ y w. saved_by c t i d fault was_loose w.fault y w.took)

pub saving_twin : (v w : List Track) (s : DeviceStore) (h : Held) (t : ℕ) (d : Did) (fault : Option Side) → t < tracks_of s → is_lost s t ≡ false →
    s.half ≡ None →
    InOrder v w s h →
    Twins (λ v' w' z a b k. Works v s v' w' z a b k) (saving contents s t (image_in s v t) d fault) (saving by_plain (marks_of v w s) t
    (image_in s v t) d fault) h
saving_twin v w s h t d fault lt there none o =
    let off = none_off s.half t none in
    twin_then _ _ (twin_always (firm_twin v w s h t lt off o) (firm_first_keeps_good contents device_is_faithful s t lt o.well))
    (λ v' w' z a b k f.
    let y = f.0 in
    let well = f.1.goes.well in
    let below : t < tracks_of z = let same = y.stays.cylinders in omega arith in
    let off' = stays_off s z t y.stays off in
    let there' : is_lost z t ≡ false = sym (mark_lost z t) ∙ f.1.lost ∙ mark_lost s t ∙ there in
    let same_track : track_in w' t ≡ track_in v' t = y.order.sure.ground.same t below y.firm in
    let own : Keeps z.geometry t (contents_at z k t) (image_in z v' t) (image_in z v' t) =
    subst (λ (l : Track). Keeps z.geometry t (contents_at z k t) (image_in z v' t) (record { geometry = z.geometry; track = l })) same_track
    (keeps_at v' w' z k t y.order.sure below there' off') in
    let alone = is_alone z well.here in
    let image_is : image_in s v t ≡ image_in z v' t = sym (stays_image s z v' t y.stays ∙ ap (λ (l : List Track). image_in s l t) y.plain) in
    subst (λ (q : Bool). Twins (λ v' w' z a b k. Works v s v' w' z a b k) (saved_then contents t d fault (image_in s v t) z a)
    (saved_then by_plain t d fault (image_in s v t) (marks_of v' w' z) q) k) y.same
    (subst (λ (p : Image). Twins (λ v' w' z a b k. Works v s v' w' z a b k) (saved_then contents t d fault p z a)
    (saved_then by_plain t d fault p (marks_of v' w' z) a) k) (sym image_is)
    (twin_weaker
    (twin_then _ _ (first_twin v' z k t (track_bytes (track_in v' t)) below y.firm alone off' own w' y.order)
    (λ v'' w'' x m n l g. by_wrote v' w' z k t d fault below y.firm (y.stays.half ∙ none) own v'' w'' x l a m n g))
    (λ v'' w'' x m n l g. record { order = g.order; same = g.same; plain = g.plain ∙ y.plain; size = size_on (size_of y.stays) g.size }))))
  where
    by_wrote : (v' w' : List Track) (z : DeviceStore) (k : Held) (t : ℕ) (d : Did) (fault : Option Side) (below : t < tracks_of z)
        (firm : is_loose z t ≡ false)
        (none : z.half ≡ None) (own : Keeps z.geometry t (contents_at z k t) (image_in z v' t) (image_in z v' t)) (v'' w'' : List Track)
        (x : DeviceStore) (l : Held)
        (a : Bool) (m n : Wrote) → First v' z k t (track_bytes (track_in v' t)) v'' w'' x m n l →
        Twins (λ v2 w2 q c e i. Works v' z v2 w2 q c e i) (saved_by contents t (image_in z v' t) d fault a m.fault x m.took)
        (saved_by by_plain t (image_in z v' t) d fault a n.fault (marks_of v'' w'' x) n.took) l
    by_wrote v' w' z k t d fault below firm none own v'' w'' x l a m n g =
        rw (← g.fault) (rw (← g.took) (by_took v' z k t below firm none own d fault v'' w'' x l a m.took m.fault g.plain g.stays g.done g.undone))

-- or memory is lacking
pub saved_twin : (v w : List Track) (s : DeviceStore) (h : Held) (t : ℕ) (d : Did) (fault : Option Side) → t < tracks_of s → is_lost s t ≡ false →
    s.half ≡ None →
    InOrder v w s h →
    Twins (λ v' w' z a b k. Works v s v' w' z a b k) (saved contents s t (image_in s v t) d fault) (saved by_plain (marks_of v w s) t
    (image_in s v t) d fault) h
saved_twin v w s h t d fault lt there none o =
    both_try
    (twin_then _ _ (saving_twin v w s h t d fault lt there none o)
    (λ v' w' z a b k f. twin_done (record { order = f.order; same = ap Some f.same; plain = f.plain; size = f.size })))
    (twin_done (record { order = record { sure = o.sure; told = o.told }; same = refl; plain = refl; size = (refl, refl) }))

-- Recovery

-- what a frame has is the plain track
frame_plain : (v w : List Track) (s : DeviceStore) (h : Held) (t : ℕ) (f : Frame) → Ordered v w s h → t < tracks_of s → is_lost s t ≡ false →
    half_is s.half t ≡ false →
    frame_at s t ≡ Some f → f.image ≡ image_in s v t
unfolding T.contents_at
frame_plain v w s h t f o lt there off e = (keeps_at v w s h t o.sure lt there off).frame f e

track_frame : (s : DeviceStore) (t : ℕ) → frame_at s t ≡ None → (track_at contents s t).frame ≡ None
unfolding M.track_at
track_frame s t e = ap (M.frame_mark contents) e

track_loose : (s : DeviceStore) (t : ℕ) → (track_at contents s t).loose ≡ is_loose s t
unfolding M.track_at
track_loose s t = refl

recovered_by : (u : List Track) (y : DeviceStore) (v w : List Track) (s : DeviceStore) (h : Held) (t : ℕ) (g : Got (List ℕ)) (m : Got Bool)
    (r : Option (List ℕ))
    (b : Option Bool) → Delivers w s t r b → g.side ≡ m.side → g.fault ≡ m.fault → t < tracks_of s → (is_some r ≡ true → is_lost s t ≡ false) →
    is_loose s t ≡ false → s.half ≡ None → InOrder v w s h → v ≡ u → Stays y s →
    Twins (λ v' w' z a b k. Works u y v' w' z a b k) (recovered_bytes contents t s g r) (recovered_bytes by_plain t (marks_of v w s) m b) h
recovered_by u y v w s h t g m None None del side fault lt there firm none o plain stays =
    twin_done (record {
      order = record { sure = o.sure; told = o.told };
      same = ap (λ (x : Option Side). Some (did x Nothing)) fault;
      plain = plain;
      size = size_of stays;
    })
recovered_by u y v w s h t g m (Some r) (Some true) del side fault lt there firm none o plain stays =
    let gave : image_of contents s t r ≡ Some (image_in s v t) =
    del.1 ∙ ap (λ (x : Track). Some (record { geometry = s.geometry; track = x })) (o.sure.ground.same t lt firm) in
    both_try (rw gave (rw (← fault) (twin_weaker (saved_twin v w s h t (Recovered t) g.fault lt (there refl) none o)
    (λ v' w' z a b k f. record { order = f.order; same = f.same; plain = f.plain ∙ plain; size = size_on (size_of stays) f.size }))))
    (twin_done (record { order = record { sure = o.sure; told = o.told }; same = refl; plain = plain; size = size_of stays }))
recovered_by u y v w s h t g m (Some r) (Some false) del side fault lt there firm none o plain stays = let e : false ≡ true = del.0 in absurd (cc)
recovered_by u y v w s h t g m None (Some b) del side fault lt there firm none o plain stays = absurd del
recovered_by u y v w s h t g m (Some r) None del side fault lt there firm none o plain stays = absurd del

framed_twin : (v w : List Track) (s : DeviceStore) (h : Held) (t : ℕ) (d : Did) (f : Frame) → frame_at s t ≡ Some f → t < tracks_of s → is_lost s t ≡ false →
    s.half ≡ None → InOrder v w s h →
    Twins (λ v' w' z a b k. Works v s v' w' z a b k) (saved contents s t f.image d None) (saved by_plain (marks_of v w s) t (image_in s v t) d None) h
framed_twin v w s h t d f e lt there none o =
    let is = frame_plain v w s h t f (record { sure = o.sure; told = o.told }) lt there (none_off s.half t none) e in
    rw is (saved_twin v w s h t d None lt there none o)

recover_by : (v w : List Track) (s : DeviceStore) (h : Held) (t : ℕ) (f : Option Frame) → frame_at s t ≡ f → t < tracks_of s → is_lost s t ≡ false →
    s.half ≡ None →
    InOrder v w s h →
    Twins (λ v' w' z a b k. Works v s v' w' z a b k) (recover contents s t f) (recover by_plain (marks_of v w s) t (option_map frame_mark f)) h
recover_by v w s h t (Some f) e lt there none o = framed_twin v w s h t (Recovered t) f e lt there none o
recover_by v w s h t None e lt there none o =
    let off = none_off s.half t none in
    let firm = unframed_is_firm (track_at contents s t) (track_frame s t e) (o.well.good t lt) in
    twin_then _ _ (twin_always (bytes_twin v w s h t o lt off) (level_bytes_keeps_good contents device_is_faithful s t o.well))
    (λ v' w' z g m k x.
    let below : t < tracks_of z = let same = x.1.goes.tracks in omega arith in
    recovered_by v s v' w' z k t g m g.bytes m.bytes x.0.bytes x.0.side x.0.fault below
    (λ l. not_lost z t below x.1.goes.well (x.1.level l)) (sym (track_loose z t) ∙ x.1.goes.firm t lt firm) (x.0.stays.half ∙ none)
    (record { sure = x.0.order.sure; told = x.0.order.told; well = x.1.goes.well }) x.0.plain x.0.stays)

-- of a track that isn't lost, while no half write is open
pub recover_twin : (v w : List Track) (s : DeviceStore) (h : Held) (t : ℕ) → t < tracks_of s → is_lost s t ≡ false → s.half ≡ None → InOrder v w s h →
    Twins (λ v' w' z a b k. Works v s v' w' z a b k) (recover contents s t (frame_at s t)) (recover by_plain (marks_of v w s) t (frame_at
    (marks_of v w s) t)) h
recover_twin v w s h t lt there none o = rw (frame_twin v w s t) (recover_by v w s h t (frame_at s t) refl lt there none o)

destage_by : (v w : List Track) (s : DeviceStore) (h : Held) (t : ℕ) (d : Did) (f : Option Frame) → frame_at s t ≡ f → is_some f ≡ true → t < tracks_of s →
    is_lost s t ≡ false → s.half ≡ None → InOrder v w s h →
    Twins (λ v' w' z a b k. Works v s v' w' z a b k) (saved contents s t (framed_image contents s t f) d None)
    (saved by_plain (marks_of v w s) t (framed_image by_plain (marks_of v w s) t (option_map frame_mark f)) d None) h
destage_by v w s h t d (Some f) e some lt there none o = framed_twin v w s h t d f e lt there none o
destage_by v w s h t d None e some lt there none o = absurd (cc)

-- of one that has a frame
pub destage_twin : (v w : List Track) (s : DeviceStore) (h : Held) (t : ℕ) (d : Did) → is_some (frame_at s t) ≡ true → t < tracks_of s → is_lost s t ≡ false →
    s.half ≡ None → InOrder v w s h →
    Twins (λ v' w' z a b k. Works v s v' w' z a b k) (saved contents s t (framed_image contents s t (frame_at s t)) d None)
    (saved by_plain (marks_of v w s) t (framed_image by_plain (marks_of v w s) t (frame_at (marks_of v w s) t)) d None) h
destage_twin v w s h t d some lt there none o =
    subst (λ (f : Option Bool). Twins (λ v' w' z a b k. Works v s v' w' z a b k) (saved contents s t (framed_image contents s t (frame_at s t)) d None)
    (saved by_plain (marks_of v w s) t (framed_image by_plain (marks_of v w s) t f) d None) h) (sym (frame_twin v w s t))
    (destage_by v w s h t d (frame_at s t) refl some lt there none o)
