-- One walk of the parts of an event that tell of firm tracks, for what holds of what was told so far and of the store.
use Rattle.std.proofs.Common.{◌≡◌, ◌||◌, ℕ, Bool, true, false, List, [], ◌∷◌, Option, Some, None, is_some, refl, sym, subst}
use Rattle.std.specs.Prelude.{⊤, if◌then◌else◌}
use Rattle.std.proofs.lemmas.Bool.{cond_both}
use Rattle.ckd_types.specs.declared.paths.Side.{Side}
use Rattle.ckd_types.specs.declared.paths.Side.TheVariants.{A, B}
use Rattle.ckd_types.specs.declared.record.Edit.{Edit}
use Rattle.ckd_types.specs.declared.record.Track.{Track}
use Rattle.ckd_types.specs.Parameters.{is_bypass}
use Rattle.ckd_types.specs.Volume.{track_in}
use Rattle.track_image.specs.Image.{Image}
use Rattle.device_outside.specs.Interaction.{Interaction, Done, and_then}
use Rattle.device_defs.specs.declared.answers.Did.{Did}
use Rattle.device_defs.specs.declared.answers.Did.TheVariants as dids
use Rattle.device_defs.specs.declared.answers.Took.{Took}
use Rattle.device_defs.specs.declared.answers.Took.TheVariants.{Whole, Opened, Unwritten}
use Rattle.device_defs.specs.declared.usage.Usage.{Usage}
use Rattle.device_defs.specs.Background as Work
use Rattle.device_defs.specs.Background.{did, other, saved_by, saved, recovered_bytes, recover, copied, copy_read, copy_by, copies_to, staged_bytes, stage, destage_first, to_destage, stage_first, copy_first, to_copy, recover_first, to_recover, work}
use Rattle.device_defs.specs.Contents.{by_plain}
use Rattle.device_defs.specs.Editing as E
use Rattle.device_defs.specs.Editing.{whole, at_once, through, through_by}
use Rattle.device_defs.specs.Effects.{hardened}
use Rattle.device_defs.specs.Image as I
use Rattle.device_defs.specs.Image.{Got, Imaged, Has, NoBytes, BadTrack, level_bytes, read_b, first_read, second_read, filled, image, image_by, miss, missed, loaded, loads, granted, ahead}
use Rattle.device_defs.specs.Losses.{settled, stale_everywhere, call_failed, all_firm_told, side_lost}
use Rattle.device_defs.specs.Marks.{MarksStore}
use Rattle.device_defs.specs.Owed.{hear}
use Rattle.device_defs.specs.Store.{Origin, OfCommand, OfBackground, HalfWrite, tracks_of, level_at, has_level, frame_at, is_lost, is_loose, takes_b, plain_at, with_frame, with_patch, with_stale}
use Rattle.device_defs.specs.Writing as W
use Rattle.device_defs.specs.Writing.{firm_first, unwritten, write_first, first_a, failed_a, alone_b, write_second, write_done, write_opened, taken_a}
use Rattle.device_laws.proofs.PlainStores.{core_of}
use Rattle.device_laws.proofs.PlainWalks.{framed_same}
use Rattle.device_laws.proofs.PoolWalks.{hear_asks, done_asks, filled_asks}
use Rattle.device_laws.proofs.WholeImage.{ahead_only}
use Rattle.keeper_laws.proofs.FirmStores.{framed_track}
use Rattle.keeper_laws.proofs.Firms.{Says, firms_done, firms_try, firms_ask, firms_read, firms_write, firms_told, firms_then, firms_if, asks_firms}

-- On says it of a device's half write, of a track that isn't loose, of what was kept, and of the store
pub record IsSaying {K : Type 0} (named : Type 0) (own : ℕ → Type 0) (tell : K → ℕ → Track → K) (Plain : ℕ → Image → Type 0)
    (On : Option (HalfWrite (Unit {0})) → Option ℕ → K → MarksStore → Type 0) : Type 0 where
  pub owned : (h : Option (HalfWrite (Unit {0}))) (o : Option ℕ) (v : K) (s : MarksStore) → On h o v s → own s.device
  pub same : (h : Option (HalfWrite (Unit {0}))) (o : Option ℕ) (v : K) (s z : MarksStore) → core_of z ≡ core_of s → z.owed ≡ s.owed → On h o v s →
      On h o v z
  pub firm : (h : Option (HalfWrite (Unit {0}))) (q : ℕ) (v : K) (s : MarksStore) → is_loose s q ≡ false → On h None v s → On h (Some q) v s
  pub hardens : (h : Option (HalfWrite (Unit {0}))) (q : ℕ) (v : K) (s : MarksStore) → is_loose s q ≡ true → On h None v s →
      On h (Some q) (tell v q (track_in s.plain q)) (stale_everywhere (hardened s q) q)
  pub settles : (h : Option (HalfWrite (Unit {0}))) (q : ℕ) (v : K) (s : MarksStore) → On h (Some q) v s → On h (Some q) v (settled by_plain s q)
  pub fails : (h : Option (HalfWrite (Unit {0}))) (o : Option ℕ) (v : K) (s : MarksStore) (side : Side) (writing : Option ℕ) → On h o v s →
      Says named own tell (λ u z (_ : Unit {0}). On h o u z) v (all_firm_told by_plain (tracks_of s) (side_lost by_plain s side writing))
  pub pictures : (h : Option (HalfWrite (Unit {0}))) (o : Option ℕ) (v : K) (s : MarksStore) (q : ℕ) → On h o v s → Plain q (plain_at s q)

-- Images: each is the plain one

abbrev pub ImageOf : (ℕ → Image → Type 0) → ℕ → Option Imaged → Type 0
ImageOf Plain q (Some (Has i)) = Plain q i
ImageOf Plain q (Some (NoBytes fault)) = ⊤
ImageOf Plain q (Some (BadTrack side)) = ⊤
ImageOf Plain q None = ⊤

pub record ImagedSo {K : Type 0} (Plain : ℕ → Image → Type 0) (On : K → MarksStore → Type 0) (q : ℕ) (u : K) (z : MarksStore) (a : Option Imaged) : Type 0 where
  pub on : On u z
  pub image : ImageOf Plain q a

module _ {K : Type 0} {named : Type 0} {own : ℕ → Type 0} {tell : K → ℕ → Track → K} {Plain : ℕ → Image → Type 0}
    {On : Option (HalfWrite (Unit {0})) → Option ℕ → K → MarksStore → Type 0} (law : IsSaying named own tell Plain On) where
  module _ (h : Option (HalfWrite (Unit {0}))) (o : Option ℕ) where
    abbrev Is : K → MarksStore → Type 0
    Is v s = On h o v s

    abbrev Goes : {X : Type 0} → K → Interaction Bool Image MarksStore X → Type 0
    Goes v i = Says named own tell (λ u z _. On h o u z) v i

    same_on : {v : K} (s z : MarksStore) → core_of z ≡ core_of s → z.owed ≡ s.owed → Is v s → Is v z
    same_on {v = v} s z e owed x = law.same h o v s z e owed x

    framed : {v : K} (s : MarksStore) (q : ℕ) (f : Option Bool) → Is v s → Is v (with_frame s q f)
    framed s q f x = same_on s (with_frame s q f) (framed_same s q f) refl x

    pub hear_goes : {v : K} (n : ℕ) (s : MarksStore) → Is v s → Goes v (hear by_plain n s)
    hear_goes {v = v} n s x = asks_firms (hear_asks by_plain (Is v) (λ z q clean y. framed z q None y) n s x)

    pub failed_goes : {v : K} (s : MarksStore) (side : Side) (writing : Option ℕ) → Is v s → Goes v (call_failed by_plain s side writing)
    failed_goes {v = v} s side writing x = firms_if s.paired (λ _. law.fails h o v s side writing x) (λ _. firms_done x)

    -- Bytes

    counted_on : {v : K} (s : MarksStore) (ok : Bool) → Is v s → Is v (I.read_counted s ok)
    counted_on s ok x = same_on s (I.read_counted s ok) refl refl x

    second_by : {v : K} (fault : Option Side) (s : MarksStore) (got : Option Bool) → Is v s → Goes v (second_read by_plain fault s got)
    second_by fault s (Some r) x = firms_done x
    second_by fault s None x =
        firms_then (λ z _. Done z (I.got B None (Some (I.first_faulty_side fault B)))) (failed_goes s B None x) (λ u z _ y. firms_done y)

    second_goes : {v : K} (q : ℕ) (s : MarksStore) (fault : Option Side) → Is v s → Goes v (read_b by_plain s q fault)
    second_goes q s fault x =
        firms_if (level_at s.b q)
        (λ _. firms_read (second_by fault (I.read_counted s false) None (counted_on s false x))
        (second_by fault (I.read_counted s true) (Some true) (counted_on s true x)))
        (λ _. firms_done x)

    first_by : {v : K} (q : ℕ) (s : MarksStore) (got : Option Bool) → Is v s → Goes v (first_read by_plain q s got)
    first_by q s (Some r) x = firms_done x
    first_by q s None x = firms_then (λ z _. read_b by_plain z q (Some A)) (failed_goes s A None x) (λ u z _ y. second_goes q z (Some A) y)

    pub bytes_go : {v : K} (s : MarksStore) (q : ℕ) → Is v s → Goes v (level_bytes by_plain s q)
    unfolding I.level_bytes
    bytes_go s q x =
        firms_if (level_at s.a q)
        (λ _. firms_read (first_by q (I.read_counted s false) None (counted_on s false x))
        (first_by q (I.read_counted s true) (Some true) (counted_on s true x)))
        (λ _. second_goes q s None x)

    -- Images

    pub filled_goes : {v : K} (s : MarksStore) (q : ℕ) (i : Image) → Is v s → Goes v (filled by_plain s q i)
    filled_goes {v = v} s q i x = asks_firms (filled_asks by_plain (Is v) (λ z t j patched is y. framed z t (Some patched) y) s q i x)

    module _ (q : ℕ) where
      abbrev Images : K → Interaction Bool Image MarksStore (Option Imaged) → Type 0
      Images v i = Says named own tell (λ u z a. ImagedSo Plain (On h o) q u z a) v i

      plainly : {v : K} (s : MarksStore) → Is v s → Plain q (plain_at s q)
      plainly {v = v} s x = law.pictures h o v s q x

      granted_has : {v : K} (z : MarksStore) (i : Image) (given : Bool) → Is v z → Plain q i → Images v (granted by_plain z q i given)
      granted_has z i given x e =
          firms_if given (λ _. firms_then (λ y _. Done y (Some (Has i))) (filled_goes z q i x) (λ u y _ w. firms_done (record { on = w; image = e })))
          (λ _. firms_done (record { on = x; image = e }))

      loaded_has : {v : K} (z : MarksStore) (i : Image) (usage : Usage) → Is v z → Plain q i → Images v (loaded by_plain z q i usage.mode)
      loaded_has z i usage x e =
          firms_if (loads usage.mode) (λ _. firms_try (firms_ask (λ given. granted_has z i given x e))) (λ _. firms_done (record { on = x; image = e }))

      ahead_on : {v : K} (usage : Usage) (z : MarksStore) → Is v z → Is v (ahead usage z q)
      ahead_on {v = v} usage z x = subst (Is v) (sym (ahead_only usage z q)) (same_on z _ refl refl x)

      missed_has : {v : K} (z : MarksStore) (usage : Usage) (g : Got Bool) (r : Option Bool) → Is v z → Images v (missed by_plain usage q z g r)
      missed_has z usage g None x = firms_done (record { on = x; image = tt })
      missed_has z usage g (Some true) x = firms_try (loaded_has (ahead usage z q) (plain_at z q) usage (ahead_on usage z x) (plainly z x))
      missed_has z usage g (Some false) x = firms_try (firms_done (record { on = x; image = tt }))

      miss_has : {v : K} (z : MarksStore) (usage : Usage) → Is v z → Images v (miss by_plain z usage q)
      miss_has z usage x = firms_then (λ y g. missed by_plain usage q y g g.bytes) (bytes_go z q x) (λ u y g i. missed_has y usage g g.bytes i)

      by_frame : {v : K} (s : MarksStore) (usage : Usage) (f : Option Bool) → Is v s → Images v (image_by by_plain s usage q f)
      by_frame s usage None x = miss_has s usage x
      by_frame s usage (Some f) x =
          firms_if f (λ _. firms_done (record { on = x; image = plainly s x }))
          (λ _. firms_if (is_bypass usage.mode) (λ _. miss_has s usage x)
          (λ _. firms_ask (λ listed. firms_if listed (λ _. firms_done (record { on = x; image = plainly s x }))
          (λ _. miss_has (with_frame s q None) usage (framed s q None x)))))

      pub image_has : {v : K} (s : MarksStore) (usage : Usage) → Is v s → Says named own tell (λ u z a. ImagedSo Plain (On h o) q u z a) v (image by_plain s usage q)
      unfolding I.image
      image_has s usage x = by_frame s usage (frame_at s q) x

    pub done_goes : {v : K} (s : MarksStore) (q : ℕ) (i : Image) (bypass : Bool) → Is v s → Goes v (write_done by_plain s q i bypass)
    done_goes {v = v} s q i bypass x =
        asks_firms (done_asks by_plain (Is v) (λ z t f y. framed z t f y) (λ z t y. same_on z (with_patch z t None) refl refl y) s q i bypass x)

  -- Writes to the volumes, of a track that isn't loose

  module _ (h : Option (HalfWrite (Unit {0}))) (q : ℕ) where
    abbrev Here : K → MarksStore → Type 0
    Here v s = On h (Some q) v s

    abbrev Writes : {X : Type 0} → K → Interaction Bool Image MarksStore X → Type 0
    Writes v i = Says named own tell (λ u z _. On h (Some q) u z) v i

    pub firm_first_goes : {v : K} (s : MarksStore) → On h None v s → Writes v (firm_first by_plain s q)
    firm_first_goes {v = v} s x =
        firms_if (is_loose s q)
        (λ is. firms_told (law.owned h None v s x)
        (subst (λ (t : Track). Says named own tell (λ u z (_ : Bool). On h (Some q) u z) (tell v q t) (Done (stale_everywhere (hardened s q) q) true))
        (sym (framed_track s q (frame_at s q))) (firms_done (law.hardens h q v s is x))))
        (λ off. firms_done (law.firm h q v s off x))

    pub here_settled : {v : K} (s : MarksStore) → Here v s → Here v (settled by_plain s q)
    here_settled {v = v} s x = law.settles h q v s x

    marked : {v : K} (s z : MarksStore) → core_of z ≡ core_of s → z.owed ≡ s.owed → Here v s → Here v z
    marked s z e owed x = same_on h (Some q) s z e owed x

    counted_here : {v : K} (s : MarksStore) (ok : Bool) → Here v s → Here v (W.write_counted s ok)
    counted_here s ok x = marked s (W.write_counted s ok) refl refl x

    unwritten_on : {v : K} (s : MarksStore) → Here v s → Here v (unwritten by_plain s q)
    unwritten_on {v = v} s x =
        here_settled (if s.paired then s else with_stale s A q true)
        (cond_both s.paired s (with_stale s A q true) (Here v) (λ _. x) (λ _. marked s (with_stale s A q true) refl refl x))

    taken_here : {v : K} (s : MarksStore) → Here v s → Here v (with_stale s B q false)
    taken_here s x = marked s (with_stale s B q false) refl refl x

    alone_goes : {v : K} (s : MarksStore) (fault : Option Side) (first : Side) (ok : Bool) → Here v s → Writes v (alone_b by_plain q fault first s ok)
    alone_goes s fault first ok x =
        firms_if ok (λ _. firms_done (taken_here s x))
        (λ _. firms_then (λ z _. Done (unwritten by_plain z q) (W.wrote Unwritten (Some first))) (failed_goes h (Some q) s B (Some q) x)
        (λ u z _ y. firms_done (unwritten_on z y)))

    failed_first : {v : K} (s : MarksStore) (r takes : Bool) → Here v s → Writes v (failed_a by_plain q r takes s)
    failed_first s r takes x =
        firms_if takes (λ _. firms_write (λ ok. alone_goes (W.write_counted s ok) (Some A) A ok (counted_here s ok x))) (λ _. firms_done (unwritten_on s x))

    taken_a_here : {v : K} (s : MarksStore) → Here v s → Here v (taken_a s q)
    taken_a_here {v = v} s x =
        let z = with_stale s A q false in
        cond_both s.b.up (with_stale z B q true) z (Here v) (λ _. marked s (with_stale z B q true) refl refl x) (λ _. marked s z refl refl x)

    first_goes : {v : K} (s : MarksStore) (r ok : Bool) → Here v s → Writes v (first_a by_plain q r s ok)
    first_goes s r ok x =
        firms_if ok (λ _. firms_done (taken_a_here s x))
        (λ _. firms_then (λ z _. failed_a by_plain q r (takes_b s) z) (failed_goes h (Some q) s A (Some q) x) (λ u z _ y. failed_first z r (takes_b s) y))

    pub write_first_goes : {v : K} (s : MarksStore) (r : Bool) → Here v s → Writes v (write_first by_plain s q r)
    unfolding W.write_first
    write_first_goes s r x =
        firms_if s.a.up (λ _. firms_write (λ ok. first_goes (W.write_counted s ok) r ok (counted_here s ok x)))
        (λ _. firms_if (takes_b s) (λ _. firms_write (λ ok. alone_goes (W.write_counted s ok) None B ok (counted_here s ok x)))
        (λ _. firms_done (here_settled s x)))

    tried_goes : {v : K} (s : MarksStore) (ok : Bool) → Here v s → Writes v (W.tried_b by_plain q s ok)
    tried_goes s ok x = firms_if ok (λ _. firms_done (taken_here s x)) (λ _. failed_goes h (Some q) s B (Some q) x)

    pub write_second_goes : {v : K} (s : MarksStore) (r : Bool) → Here v s → Writes v (write_second by_plain s q r)
    unfolding W.write_second
    write_second_goes s r x =
        firms_if (takes_b s) (λ _. firms_write (λ ok. tried_goes (W.write_counted s ok) ok (counted_here s ok x))) (λ _. firms_done x)

  -- A write through, by what the edit, the opening of a half write and a write to no volume say

  module _ (q : ℕ) (e : Edit) (i : Image) (Wrote : K → MarksStore → Took → Type 0)
      (wholly : (v : K) (s : MarksStore) (bypass : Bool) → On None (Some q) v s → Says named own tell (λ u z took. Wrote u z took) v (whole by_plain s q i e bypass))
      (opened : (v : K) (s : MarksStore) (origin : Origin) (was : Bool) → On None (Some q) v s →
      Says named own tell (λ u z (_ : Unit {0}). Wrote u z Opened) v (write_opened by_plain s q i origin was))
      (nowhere : (v : K) (s : MarksStore) → On None (Some q) v s → Wrote v s Unwritten) where
    abbrev Wrotes : K → Interaction Bool Image MarksStore Took → Type 0
    Wrotes v j = Says named own tell (λ u z took. Wrote u z took) v j

    at_once_goes : {v : K} (s : MarksStore) (bypass : Bool) → On None (Some q) v s → Wrotes v (at_once by_plain s q i e bypass)
    at_once_goes s bypass x =
        firms_then (λ z _. if has_level z q then whole by_plain z q i e bypass else Done (settled by_plain z q) Unwritten)
        (write_second_goes None q s true x)
        (λ u z _ y. firms_if (has_level z q) (λ _. wholly u z bypass y) (λ _. firms_done (nowhere u (settled by_plain z q) (here_settled None q z y))))

    took_goes : {v : K} (bypass opens was : Bool) (s : MarksStore) (took : Took) → On None (Some q) v s →
        Wrotes v (through_by by_plain q i e bypass opens was s took)
    took_goes {v = v} bypass opens was s Whole x = wholly v s bypass x
    took_goes {v = v} bypass opens was s Opened x =
        firms_if opens (λ _. firms_then (λ z _. Done z Opened) (opened v s (OfCommand bypass e) was x) (λ u z _ y. firms_done y))
        (λ _. at_once_goes s bypass x)
    took_goes {v = v} bypass opens was s Unwritten x = firms_done (nowhere v s x)

    pub through_goes : {v : K} (s : MarksStore) (bypass opens : Bool) → On None None v s → Wrotes v (through by_plain s q i e bypass opens)
    unfolding E.through
    through_goes s bypass opens x =
        firms_then (λ z was. and_then (write_first by_plain z q true) (λ y r. through_by by_plain q i e bypass opens was y r.took))
        (firm_first_goes None q s x)
        (λ u z was y. firms_then (λ w r. through_by by_plain q i e bypass opens was w r.took) (write_first_goes None q z true y)
        (λ u2 w r g. took_goes bypass opens was w r.took g))

  -- Work in the background, while no half write is open, by what is so behind it

  module _ (Rest : K → MarksStore → Type 0) (rest : (o : Option ℕ) (v : K) (s : MarksStore) → On None o v s → Rest v s)
      (opened : (q : ℕ) (i : Image) (v : K) (s : MarksStore) (was : Bool) → On None (Some q) v s →
      Says named own tell (λ u z (_ : Unit {0}). Rest u z) v (write_opened by_plain s q i OfBackground was)) where
    abbrev Rests : {X : Type 0} → K → Interaction Bool Image MarksStore X → Type 0
    Rests v i = Says named own tell (λ u z _. Rest u z) v i

    abbrev Now : K → MarksStore → Type 0
    Now v s = On None None v s

    rested : {v : K} (s : MarksStore) → Now v s → Rest v s
    rested {v = v} s x = rest None v s x

    saved_rests : {v : K} (q : ℕ) (i : Image) (d : Did) (fault : Option Side) (was : Bool) (failed : Option Side) (s : MarksStore) (took : Took) →
        On None (Some q) v s → Rests v (saved_by by_plain q i d fault was failed s took)
    saved_rests q i d fault was failed s Whole x =
        firms_then (λ z _. Done z (did fault (did failed d))) (done_goes None (Some q) s q i false x) (λ u z _ y. firms_done (rest (Some q) u z y))
    saved_rests {v = v} q i d fault was failed s Opened x =
        firms_then (λ z _. Done z (did fault (dids.Half q))) (opened q i v s was x) (λ u z _ y. firms_done y)
    saved_rests {v = v} q i d fault was failed s Unwritten x = firms_done (rest (Some q) v s x)

    save_rests : {v : K} (s : MarksStore) (q : ℕ) (i : Image) (d : Did) (fault : Option Side) → Now v s → Rests v (saved by_plain s q i d fault)
    save_rests s q i d fault x =
        firms_try (firms_then (λ z e. Done z (Some e))
        (firms_then (λ z was. and_then (write_first by_plain z q true) (λ y r. saved_by by_plain q i d fault was r.fault y r.took))
        (firm_first_goes None q s x)
        (λ u z was y. firms_then (λ w r. saved_by by_plain q i d fault was r.fault w r.took) (write_first_goes None q z true y)
        (λ u2 w r g. saved_rests q i d fault was r.fault w r.took g)))
        (λ u z e y. firms_done y))

    recovered_rests : {v : K} (q : ℕ) (s : MarksStore) (g : Got Bool) (r : Option Bool) → Now v s → Rests v (recovered_bytes by_plain q s g r)
    recovered_rests q s g None x = firms_done (rested s x)
    recovered_rests q s g (Some true) x = firms_try (save_rests s q _ _ g.fault x)
    recovered_rests q s g (Some false) x = firms_try (firms_done (rested s x))

    recover_rests : {v : K} (s : MarksStore) (q : ℕ) (f : Option Bool) → Now v s → Rests v (recover by_plain s q f)
    recover_rests s q (Some f) x = save_rests s q _ _ None x
    recover_rests s q None x =
        firms_then (λ z g. recovered_bytes by_plain q z g g.bytes) (bytes_go None None s q x) (λ u z g y. recovered_rests q z g g.bytes y)

    stopped_rests : {v : K} (s : MarksStore) (side : Side) (d : Option Did) → Now v s → Rests v (and_then (call_failed by_plain s side None) (λ z _. Done z d))
    stopped_rests s side d x = firms_then (λ z _. Done z d) (failed_goes None None s side None x) (λ u z _ y. firms_done (rested z y))

    copied_rests : {v : K} (q : ℕ) (side : Side) (s : MarksStore) (ok : Bool) → Now v s → Rests v (copied by_plain q side s ok)
    copied_rests q A s ok x =
        let z = with_stale s A q false in firms_if ok (λ _. firms_done (rested z (same_on None None s z refl refl x))) (λ _. stopped_rests s A _ x)
    copied_rests q B s ok x =
        let z = with_stale s B q false in firms_if ok (λ _. firms_done (rested z (same_on None None s z refl refl x))) (λ _. stopped_rests s B _ x)

    copy_rests : {v : K} (q : ℕ) (side : Side) (s : MarksStore) (r : Option Bool) → Now v s → Rests v (copy_read by_plain q side s r)
    copy_rests q side s None x = stopped_rests s (other side) _ x
    copy_rests q side s (Some r) x =
        firms_write (λ ok. copied_rests q side (W.write_counted s ok) ok (same_on None None s (W.write_counted s ok) refl refl x))

    copies_rest : {v : K} (s : MarksStore) (q : ℕ) (o : Option Side) → Now v s → Rests v (copy_by by_plain s q o)
    copies_rest s q None x = firms_done (rested s x)
    copies_rest s q (Some side) x =
        firms_read (copy_rests q side (I.read_counted s false) None (counted_on None None s false x))
        (copy_rests q side (I.read_counted s true) (Some true) (counted_on None None s true x))

    staged_rests : {v : K} (q : ℕ) (s : MarksStore) (g : Got Bool) (r : Option Bool) → Now v s → Rests v (staged_bytes by_plain q s g r)
    staged_rests q s g None x = firms_ask (λ _. firms_done (rested s x))
    staged_rests q s g (Some true) x =
        firms_try (firms_then (λ z _. Done z _) (filled_goes None None s q (plain_at s q) x) (λ u z _ y. firms_done (rested z y)))
    staged_rests q s g (Some false) x = firms_try (firms_ask (λ _. firms_done (rested s x)))

    stage_rests : {v : K} (s : MarksStore) (q : ℕ) → Now v s → Rests v (stage by_plain s q)
    stage_rests s q x =
        firms_if (is_some (frame_at s q) || is_lost s q) (λ _. firms_done (rested s x))
        (λ _. firms_try (firms_ask (λ given. firms_if given
        (λ _. firms_then (λ z g. staged_bytes by_plain q z g g.bytes) (bytes_go None None s q x) (λ u z g y. staged_rests q z g g.bytes y))
        (λ _. firms_done (rested s x)))))

    destage_rests : {v : K} (s : MarksStore) (o : Option ℕ) → Now v s → Rests v (destage_first by_plain s o)
    destage_rests s None x = firms_done (rested s x)
    destage_rests s (Some q) x = save_rests s q _ _ None x

    stages_rest : {v : K} (s : MarksStore) (ts : List ℕ) → Now v s → Rests v (stage_first by_plain s ts)
    stages_rest s [] x = destage_rests s (to_destage by_plain s) x
    stages_rest s (q ∷ ts) x = stage_rests (record s { queue = ts }) q (same_on None None s (record s { queue = ts }) refl refl x)

    copy_first_rests : {v : K} (s : MarksStore) (o : Option ℕ) → Now v s → Rests v (copy_first by_plain s o)
    copy_first_rests s None x = stages_rest s s.queue x
    copy_first_rests s (Some q) x = copies_rest s q (copies_to s q) x

    recover_first_rests : {v : K} (s : MarksStore) (o : Option ℕ) → Now v s → Rests v (recover_first by_plain s o)
    recover_first_rests s None x = copy_first_rests s (to_copy s) x
    recover_first_rests s (Some q) x = recover_rests s q (frame_at s q) x

    pub work_rests : {v : K} (s : MarksStore) → Now v s → Rests v (work by_plain s)
    unfolding Work.work
    work_rests s x = recover_first_rests s (to_recover by_plain s) x
