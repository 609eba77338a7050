-- A write that goes through to the volumes: its edit is the plain one where it is done, and all is right, with its twin on marks.
use Rattle.std.proofs.Common.{◌≡◌, ◌<◌, ℕ, Bool, true, false, List, Option, Some, None, set, refl, sym, ap, subst, ◌∙◌, arith}
use Rattle.ckd_types.specs.declared.geometry.Geometry.{Geometry}
use Rattle.ckd_types.specs.declared.record.Edit.{Edit}
use Rattle.ckd_types.specs.declared.record.Track.{Track}
use Rattle.ckd_types.specs.Edit.{apply_edit}
use Rattle.ckd_types.specs.Track.{track_bytes}
use Rattle.ckd_types.specs.Volume.{track_in}
use Rattle.ckd_write.proofs.Fitting.{edited_fits}
use Rattle.track_image.specs.Image.{Image, edited_image}
use Rattle.device_outside.specs.Both.{both_tell}
use Rattle.device_outside.specs.Interaction.{Interaction, Done, and_then}
use Rattle.device_outside.proofs.BothRules.{on_test}
use Rattle.device_defs.specs.declared.answers.Took.{Took}
use Rattle.device_defs.specs.declared.answers.Took.TheVariants.{Whole, Opened, Unwritten}
use Rattle.device_defs.specs.Contents.{Contents, contents, by_plain}
use Rattle.device_defs.specs.Editing as E
use Rattle.device_defs.specs.Editing.{whole, at_once, through_by, through}
use Rattle.device_defs.specs.Effects.{with_edit}
use Rattle.device_defs.specs.Losses.{settled}
use Rattle.device_defs.specs.Marks.{marks_of}
use Rattle.device_defs.specs.Sound.{DeviceStore}
use Rattle.device_defs.specs.Store.{OfCommand, HalfWrite, Store, tracks_of, level_at, has_level, is_lost, is_loose, half_is}
use Rattle.device_defs.specs.Writing.{write_first}
use Rattle.device_laws.specs.Agrees.{Held, image_in, PatchHas}
use Rattle.device_laws.specs.PlainWrites.{SuitsTrack, plain_after}
use Rattle.device_laws.specs.Twin.{Twins}
use Rattle.device_laws.proofs.Bools.{neither}
use Rattle.device_laws.proofs.PlainVolumes.{put_here}
use Rattle.device_laws.proofs.Sweeps.{is_alone}
use Rattle.device_laws.proofs.TrackContents as T
use Rattle.device_laws.proofs.TrackContents.{contents_at, Keeps, not_both}
use Rattle.device_laws.proofs.TrackMarks as M
use Rattle.device_laws.proofs.TrackMarks.{track_at, device_is_faithful}
use Rattle.device_laws.proofs.TwinAsks.{Stays, stays_image, stays_off, InOrder, Ordered, keeps_at, SameSize, size_of, size_on}
use Rattle.device_laws.proofs.TwinDone.{Closing, put_right, edit_right, write_done_twin}
use Rattle.device_laws.proofs.TwinOpened.{Opening, opened_twin, firm_twin}
use Rattle.device_laws.proofs.TwinSettled.{AllTold}
use Rattle.device_laws.proofs.TwinWalks.{twin_done, twin_ends, twin_then, twin_always, twin_weaker}
use Rattle.device_laws.proofs.TwinWrites.{Written, first_twin, second_twin, right_mid, keeps_less, settled_end}
use Rattle.device_laws.proofs.Writes.{is_taken, firm_first_keeps_good, write_first_keeps_good}
use Rattle.device_laws.proofs.ContentChanges.{loose_is}

pub record WroteTwin (u : List Track) (s : DeviceStore) (t : ℕ) (e : Edit) (v w : List Track) (z : DeviceStore) (a b : Took) (k : Held) : Type 0 where
  pub order : Ordered v w z k
  pub same : a ≡ b
  pub plain : v ≡ plain_after a u t e
  pub size : SameSize s z

-- t is being written with the image i of the edit, over the store y that the write began with
module _ (u : List Track) (y : DeviceStore) (j : Held) (t : ℕ) (e : Edit) (lt : t < tracks_of y) (firm : is_loose y t ≡ false)
    (alone : y.paired ≡ false → y.b.up ≡ false) (off : half_is y.half t ≡ false) (own : Keeps y.geometry t (contents_at y j t) (image_in y u t)
    (image_in y u t))
    (suits : SuitsTrack y.geometry (track_in u t) e) where
  abbrev i : Image
  i = edited_image e (image_in y u t)

  abbrev r : List ℕ
  r = track_bytes i.track

  abbrev Ends : List Track → List Track → DeviceStore → Took → Took → Held → Type 0
  Ends v w z a b k = WroteTwin u y t e v w z a b k

  told_edit : (z : DeviceStore) (k : Held) → AllTold z k → AllTold (with_edit z t e) k
  unfolding T.contents_at
  told_edit z k told = told

  -- the edit takes effect
  closing : (v w : List Track) (z : DeviceStore) (k : Held) → Written u y j t r v w z k → v ≡ u →
      Closing t (set v t (apply_edit e (track_in v t))) (set w t (apply_edit e (track_in v t))) (apply_edit e (track_in v t)) (with_edit z t e) k
  unfolding T.contents_at
  closing v w z k d plain =
      let m = d.mid in
      let below : t < tracks_of z = let same = m.stays.cylinders in omega arith in
      let n = apply_edit e (track_in v t) in
      let home = m.but.ground.plain.homes t below in
      let fits = edited_fits z.geometry (track_in v t) e (m.but.ground.plain.fits t below)
      (rw m.stays.geometry (rw plain suits.suits)) suits.ranges in
      record {
        but = edit_right t (set v t n) (set w t n) z k e (put_right t v w z k n below m.but home fits);
        told = told_edit z k m.told;
        below = below;
        off = stays_off y z t m.stays off;
        plain = put_here v t n (let long = m.but.ground.plain.tracks in omega arith);
        firm = put_here w t n (let long = m.but.ground.firm.tracks in omega arith);
        home = home;
        fits = fits;
        a = λ l. d.a l ∙ bytes_is v plain;
        b = λ l. d.b l ∙ bytes_is v plain;
      }
    where
      bytes_is : (v : List Track) → v ≡ u → track_bytes (apply_edit e (track_in u t)) ≡ track_bytes (apply_edit e (track_in v t))
      bytes_is v is = ap (λ (l : List Track). track_bytes (apply_edit e (track_in l t))) (sym is)

  image_now : (v w : List Track) (z : DeviceStore) (k : Held) → Written u y j t r v w z k → v ≡ u →
      edited_image e (image_in y u t) ≡ record { geometry = z.geometry; track = apply_edit e (track_in v t) }
  image_now v w z k d plain =
      ap (λ (g : Geometry). record { geometry = g; track = apply_edit e (track_in u t) }) (sym d.mid.stays.geometry)
      ∙ ap (λ (l : List Track). record { geometry = z.geometry; track = apply_edit e (track_in l t) }) (sym plain)

  whole_twin : (v w : List Track) (z : DeviceStore) (k : Held) (bypass : Bool) → Written u y j t r v w z k → v ≡ u →
      Twins Ends (whole contents z t i e bypass) (whole by_plain (marks_of v w z) t i e bypass) k
  whole_twin v w z k bypass d plain =
      let n = apply_edit e (track_in v t) in
      let v' = set v t n in
      let w' = set w t n in
      rw (image_now v w z k d plain) (both_tell (λ _.
      twin_then _ _ (write_done_twin t v' w' n (with_edit z t e) k bypass (closing v w z k d plain))
      (λ v'' w'' x _ _ l f. twin_done (record {
        order = f.order;
        same = refl;
        plain = f.plain ∙ ap (λ (l : List Track). set l t (apply_edit e (track_in l t))) plain;
        size = size_on (size_of d.mid.stays) (size_of f.stays);
      }))))

  levels_off : (z : DeviceStore) (k : Held) → has_level z t ≡ false → ((contents_at z k t).a ≡ false) × ((contents_at z k t).b ≡ false)
  unfolding T.contents_at
  levels_off z k e = neither (level_at z.a t) (level_at z.b t) e

  -- no side has it: it is as it was
  absent_twin : (v w : List Track) (z : DeviceStore) (k : Held) → Written u y j t r v w z k → has_level z t ≡ false →
      Twins Ends (Done (settled contents z t) Unwritten) (Done (settled by_plain (marks_of v w z) t) Unwritten) k
  absent_twin v w z k d none =
      let m = d.mid in
      let levels = levels_off z k none in
      let loose : (contents_at z k t).loose ≡ false = m.sided.loose ∙ sym (loose_is y j t) ∙ firm in
      let sure = right_mid u y j t r lt firm alone off own v w z k z (contents_at z k t) m m.but m.stays refl loose
      (keeps_less u y j t r lt firm alone off own (contents_at z k t) m.sided levels.0 (record {
        b = λ l. absurd (not_both
            (contents_at z k t).b levels.1 l);
      })) in
      let f = settled_end u y j t r lt firm alone off own v w z k sure m.told m.plain m.stays (loose_is z k t ∙ loose) in
      twin_ends f.marks (record { order = f.is.0; same = refl; plain = f.is.1.0; size = size_of f.is.1.1 })

  -- the second part in the same event
  at_once_twin : (v w : List Track) (z : DeviceStore) (k : Held) (bypass : Bool) → Written u y j t r v w z k → (z.paired ≡ false → z.b.up ≡ false) →
      Twins Ends (at_once contents z t i e bypass) (at_once by_plain (marks_of v w z) t i e bypass) k
  at_once_twin v w z k bypass d single =
      twin_then _ _ (second_twin u y j t r lt firm alone v w z k d single)
      (λ v' w' x _ _ l f. on_test (has_level x t)
      (λ _. whole_twin v' w' x l bypass f f.mid.plain)
      (λ none. absent_twin v' w' x l f none))

  -- a half write is opened
  opening : (v w : List Track) (z : DeviceStore) (k : Held) (bypass : Bool) → Written u y j t r v w z k → z.half ≡ None →
      Opening t v w i (OfCommand bypass e) z k
  opening v w z k bypass d none =
      let m = d.mid in
      let image_is : image_in z v t ≡ image_in y u t = stays_image y z v t m.stays ∙ ap (λ (l : List Track). image_in y l t) m.plain in
      record {
        but = m.but;
        told = m.told;
        below = let same = m.stays.cylinders in omega arith;
        none = none;
        firm = loose_is z k t ∙ m.sided.loose ∙ sym (loose_is y j t) ∙ firm;
        image = ap (edited_image e) (sym image_is);
        a = d.a;
        b = d.b;
        frame = λ f l. own.frame f (sym m.sided.frame ∙ l) ∙ sym image_is;
        patch = rw m.sided.patch (subst (λ (n : Image). PatchHas (contents_at y j t).patch n) (sym image_is) own.patch.0);
        suits = subst (λ (n : Image). SuitsTrack n.geometry n.track e) (sym image_is) suits;
      }

  opened_half : (v w : List Track) (z : DeviceStore) (k : Held) (bypass was_loose : Bool) → Written u y j t r v w z k → z.half ≡ None →
      Twins (λ v' w' x a b l. Ends v' w' x a b l)
      (through_by contents t i e bypass true was_loose z Opened) (through_by by_plain t i e bypass true was_loose (marks_of v w z) Opened) k
  opened_half v w z k bypass was_loose d none =
      twin_then _ _ (opened_twin t v w i (OfCommand bypass e) z k was_loose (opening v w z k bypass d none))
      (λ v' w' x _ _ l f. twin_done (record { order = f.order; same = refl; plain = f.plain ∙ d.mid.plain; size = size_on (size_of d.mid.stays) f.size }))

  by_opening : (v w : List Track) (z : DeviceStore) (k : Held) (bypass opens was_loose : Bool) → Written u y j t r v w z k → z.half ≡ None →
      (z.paired ≡ false → z.b.up ≡ false) →
      Twins Ends (through_by contents t i e bypass opens was_loose z Opened) (through_by by_plain t i e bypass opens was_loose (marks_of v w z) Opened) k
  by_opening v w z k bypass true was_loose d none single = opened_half v w z k bypass was_loose d none
  by_opening v w z k bypass false was_loose d none single = at_once_twin v w z k bypass d single

  by_took : (v w : List Track) (z : DeviceStore) (k : Held) (bypass opens was_loose : Bool) (took other : Took) → took ≡ other → v ≡ u → Stays y z →
      (is_taken took ≡ true → Written u y j t r v w z k) → (is_taken took ≡ false → Ordered v w z k) → y.half ≡ None → (z.paired ≡ false → z.b.up ≡ false) →
      Twins Ends (through_by contents t i e bypass opens was_loose z took) (through_by by_plain t i e bypass opens was_loose (marks_of v w z) other) k
  by_took v w z k bypass opens was_loose Whole other same plain stays done undone none single =
      rw (← same) (whole_twin v w z k bypass (done refl) plain)
  by_took v w z k bypass opens was_loose Opened other same plain stays done undone none single =
      rw (← same) (by_opening v w z k bypass opens was_loose (done refl) (stays.half ∙ none) single)
  by_took v w z k bypass opens was_loose Unwritten other same plain stays done undone none single =
      rw (← same) (twin_done (record { order = undone refl; same = refl; plain = plain; size = size_of stays }))

pub none_off : (o : Option (HalfWrite Image)) (t : ℕ) → o ≡ None → half_is o t ≡ false
none_off None t e = refl
none_off (Some h) t e = absurd (cc)

pub mark_lost : (s : DeviceStore) (t : ℕ) → (track_at contents s t).lost ≡ is_lost s t
unfolding M.track_at
mark_lost s t = refl

-- what is behind the firm track
abbrev written_by : {F P H R : Type 0} (c : Contents F P H R) → ℕ → Edit → Bool → Bool → Image → Store F P H → Bool → Interaction R Image (Store F P H) Took
written_by c t e bypass opens p z was_loose = and_then (write_first c z t (c.bytes p)) (λ y w. through_by c t p e bypass opens was_loose y w.took)

-- of a track that isn't lost, while no half write is open, where the edit suits it
pub through_twin : (v w : List Track) (s : DeviceStore) (h : Held) (t : ℕ) (e : Edit) (bypass opens : Bool) → t < tracks_of s → is_lost s t ≡ false →
    s.half ≡ None →
    SuitsTrack s.geometry (track_in v t) e → InOrder v w s h →
    Twins (λ v' w' z a b k. WroteTwin v s t e v' w' z a b k) (through contents s t (edited_image e (image_in s v t)) e bypass opens)
    (through by_plain (marks_of v w s) t (edited_image e (image_in s v t)) e bypass opens) h
unfolding E.through
through_twin v w s h t e bypass opens lt there none suits o =
    let off = none_off s.half t none in
    let i = edited_image e (image_in s v t) in
    twin_then _ _ (twin_always (firm_twin v w s h t lt off o) (firm_first_keeps_good contents device_is_faithful s t lt o.well))
    (λ v' w' z a b k f.
    let y = f.0 in
    let well = f.1.goes.well in
    let below : t < tracks_of z = let same = y.stays.cylinders in omega arith in
    let off' = stays_off s z t y.stays off in
    let there' : is_lost z t ≡ false = sym (mark_lost z t) ∙ f.1.lost ∙ mark_lost s t ∙ there in
    let same_track : track_in w' t ≡ track_in v' t = y.order.sure.ground.same t below y.firm in
    let own : Keeps z.geometry t (contents_at z k t) (image_in z v' t) (image_in z v' t) =
    subst (λ (l : Track). Keeps z.geometry t (contents_at z k t) (image_in z v' t) (record { geometry = z.geometry; track = l })) same_track
    (keeps_at v' w' z k t y.order.sure below there' off') in
    let suits' : SuitsTrack z.geometry (track_in v' t) e =
    rw y.stays.geometry (rw y.plain suits) in
    let alone = is_alone z well.here in
    let image_is : edited_image e (image_in s v t) ≡ edited_image e (image_in z v' t) =
    ap (edited_image e) (sym (stays_image s z v' t y.stays ∙ ap (λ (l : List Track). image_in s l t) y.plain)) in
    subst (λ (q : Bool). Twins (λ v' w' z a b k. WroteTwin v s t e v' w' z a b k) (written_by contents t e bypass opens i z a)
    (written_by by_plain t e bypass opens i (marks_of v' w' z) q) k) y.same
    (subst (λ (p : Image). Twins (λ v' w' z a b k. WroteTwin v s t e v' w' z a b k) (written_by contents t e bypass opens p z a)
    (written_by by_plain t e bypass opens p (marks_of v' w' z) a) k) (sym image_is)
    (twin_weaker
    (twin_then _ _ (twin_always
    (first_twin v' z k t (track_bytes (edited_image e (image_in z v' t)).track) below y.firm alone off' own w' y.order)
    (write_first_keeps_good contents device_is_faithful t z below (f.1.lost ∙ mark_lost s t
    ∙ there) (track_bytes (edited_image e (image_in z v' t)).track) well))
    (λ v'' w'' x m n l g.
    by_took v' z k t e below y.firm alone off' own suits' v'' w'' x l bypass opens a m.took n.took g.0.took g.0.plain g.0.stays g.0.done g.0.undone
    (y.stays.half ∙ none) (is_alone x g.1.goes.well.here)))
    (λ v'' w'' x m n l g. record {
      order = g.order;
      same = g.same;
      plain = g.plain ∙ ap (λ (l : List Track). plain_after m l t e) y.plain;
      size = size_on (size_of y.stays) g.size;
    }))))
