-- A command's write tells its edit, where its track isn't loose then, behind what it notes as firm.
use Rattle.std.proofs.Common.{◌≡◌, ◌<◌, ◌≤◌, ℕ, Bool, true, false, not, List, [], ◌∷◌, ◌++◌, Option, Some, None, length, set, get_or, refl, sym, ap, subst, ◌∙◌, arith, inl, inr}
use Rattle.std.specs.Prelude.{◌⊎◌, ⊤}
use Rattle.std.proofs.lemmas.Bool.{cond_both, cases_lt}
use Rattle.std.proofs.lemmas.List.{length-set, get_or_past, get_or-set_same}
use Rattle.ckd_types.specs.declared.geometry.Geometry.{Geometry}
use Rattle.ckd_types.specs.declared.record.Edit.{Edit}
use Rattle.ckd_types.specs.declared.record.Track.{Track}
use Rattle.ckd_types.specs.Edit.{apply_edit}
use Rattle.ckd_types.specs.Parameters.{is_bypass}
use Rattle.ckd_types.specs.Volume.{track_in}
use Rattle.ckd_rules.specs.Walk.{TrackEdit}
use Rattle.track_image.specs.Image.{Image, edited_image}
use Rattle.device_outside.specs.Interaction.{Interaction, Done}
use Rattle.device_defs.specs.declared.answers.Choice.{Choice}
use Rattle.device_defs.specs.declared.answers.Choice.TheVariants.{Provisional, Fast, Through}
use Rattle.device_defs.specs.declared.answers.Took.{Took}
use Rattle.device_defs.specs.declared.answers.Took.TheVariants.{Whole, Opened, Unwritten}
use Rattle.device_defs.specs.declared.usage.Usage.{Usage}
use Rattle.device_defs.specs.Choosing.{provisionally_written}
use Rattle.device_defs.specs.Contents.{by_plain}
use Rattle.device_defs.specs.Editing as E
use Rattle.device_defs.specs.Editing.{whole, through, written, write_by, write_chosen, write, is_given, another_loose}
use Rattle.device_defs.specs.Effects as F
use Rattle.device_defs.specs.Effects.{with_edit, with_loose_edit}
use Rattle.device_defs.specs.Marks.{MarksStore}
use Rattle.device_defs.specs.Owed.{is_clean}
use Rattle.device_defs.specs.Store.{Origin, HalfWrite, frame_at, is_loose, with_frame}
use Rattle.device_defs.specs.Writing.{write_opened, write_done}
use Rattle.device_laws.proofs.Choices.{Fits, Chosen, choice_fits}
use Rattle.device_laws.proofs.PlainEvents.{had_always}
use Rattle.device_laws.proofs.PlainStores.{Core, core_of, loose_at, HasPlaces}
use Rattle.device_laws.proofs.PlainWalks.{framed_same}
use Rattle.device_laws.proofs.PoolWalks.{choose_asks, done_asks}
use Rattle.firm_laws.specs.FirmWrites.{FirmWrite}
use Rattle.firm_laws.proofs.HistoryWrites.{firmings, firmings_loose, Takes, takes_loose}
use Rattle.keeper_laws.proofs.FirmWalk.{through_goes}
use Rattle.firm_laws.proofs.SaidParts.{saying}
use Rattle.firm_laws.proofs.SaidStores.{On}
use Rattle.keeper_laws.proofs.Firms.{firms_done, firms_try, firms_ask, firms_named, firms_told, firms_then, firms_if, asks_firms}
use Rattle.firm_laws.proofs.Tells.{Tells, tells_both}

module _ (b : List Track) where
  -- what was told is what was noted
  pub record Noted (w : List FirmWrite) (c : Core) : Type 0 where
    pub said : w ≡ firmings b c.acts
    pub takes : Takes c.acts

  -- and then an edit, where its track isn't loose
  pub data Edits (x : TrackEdit) : List FirmWrite → Core → Type 0 where
    firmly : (v w : List FirmWrite) (c : Core) → Noted v c → loose_at c x.track ≡ false →
        w ≡ v ++ (x.track, apply_edit x.edit (track_in b x.track)) ∷ [] → Edits x w c
    loosely : (w : List FirmWrite) (c : Core) → Noted w c → (HasPlaces c → loose_at c x.track ≡ true) → Edits x w c

  pub noted : {h : Option (HalfWrite (Unit {0}))} {o : Option ℕ} {g : Geometry} {w : List FirmWrite} (s : MarksStore) → On h o b g w s → Noted w (core_of s)
  noted s x = record { said = x.said; takes = x.takes }

  pub done_edits : {w : List FirmWrite} (x : TrackEdit) (s : MarksStore) (q : ℕ) (i : Image) (bypass : Bool) → Edits x w (core_of s) →
      Tells (λ u z (_ : Unit {0}). Edits x u (core_of z)) w (write_done by_plain s q i bypass)
  done_edits {w = w} x s q i bypass y =
      asks_firms (done_asks by_plain (λ z. Edits x w (core_of z)) (λ z t f k. subst (Edits x w) (sym (framed_same z t f)) k) (λ z t k. k) s q i bypass y)

  -- the edit of a track that isn't loose takes effect
  pub edited_says : {o : Option ℕ} {h : Option (HalfWrite (Unit {0}))} {g : Geometry} {w : List FirmWrite} (s : MarksStore) (q : ℕ) (e : Edit) (i : Image) →
      i.track ≡ apply_edit e (track_in b q) → is_loose s q ≡ false → On h o b g w s →
      Edits (record { track = q; edit = e }) (w ++ (q, i.track) ∷ []) (core_of (with_edit s q e))
  edited_says {w = w} s q e i image firm x =
      firmly w (w ++ (q, i.track) ∷ []) (core_of (with_edit s q e)) (record { said = x.said; takes = x.takes }) firm
      (ap (λ (t : Track). w ++ (q, t) ∷ []) image)

  -- by what came of a write
  abbrev pub WroteSays : TrackEdit → List FirmWrite → MarksStore → Took → Type 0
  WroteSays x u z Whole = Edits x u (core_of z)
  WroteSays x u z Opened = Noted u (core_of z)
  WroteSays x u z Unwritten = Noted u (core_of z)

  abbrev pub WroteSaysSo : TrackEdit → List FirmWrite → MarksStore → Option Took → Type 0
  WroteSaysSo x u z (Some took) = WroteSays x u z took
  WroteSaysSo x u z None = Noted u (core_of z)

  module _ (g : Geometry) (q : ℕ) where
    abbrev Here : List FirmWrite → MarksStore → Type 0
    Here w s = On None (Some q) b g w s

    pub opened_says : {w : List FirmWrite} (s : MarksStore) (i : Image) (origin : Origin) (was : Bool) → Here w s →
        Tells (λ u z (_ : Unit {0}). Noted u (core_of z)) w (write_opened by_plain s q i origin was)
    opened_says s i origin was x =
        firms_if was
        (λ _. firms_ask (λ _. firms_done (record { said = x.said; takes = x.takes })))
        (λ _. firms_done (record { said = x.said; takes = x.takes }))

    -- the choice fits the track
    abbrev May : MarksStore → Choice → Type 0
    May s Provisional = is_loose s q ≡ false → q < length s.frames
    May s (Fast slot) = is_loose s q ≡ false
    May s Through = ⊤

    module _ (e : Edit) (i : Image) (image : i.track ≡ apply_edit e (track_in b q)) where
      abbrev the : TrackEdit
      the = record { track = q; edit = e }

      abbrev Says : List FirmWrite → Interaction Bool Image MarksStore Took → Type 0
      Says w j = Tells (λ u z took. WroteSays (record { track = q; edit = e }) u z took) w j

      whole_says : {w : List FirmWrite} (s : MarksStore) (bypass : Bool) → Here w s → Says w (whole by_plain s q i e bypass)
      whole_says s bypass x =
          firms_told tt (firms_then (λ y _. Done y Whole)
          (done_edits (record { track = q; edit = e }) (with_edit s q e) q i bypass (edited_says s q e i image x.firm x)) (λ u y _ k. firms_done k))

      through_says : {w : List FirmWrite} (s : MarksStore) (bypass opens : Bool) → On None None b g w s → Says w (through by_plain s q i e bypass opens)
      through_says s bypass opens x =
          through_goes (saying b g) q e i (λ u z took. WroteSays (record { track = q; edit = e }) u z took) (λ u z through_it y. whole_says z through_it y)
          (λ u z origin was y. opened_says z i origin was y) (λ u z y. noted z y) s bypass opens x

      loose_there : (l : List Bool) (n : ℕ) → q < n → n ≡ length (set l q true) → get_or (set l q true) q false ≡ true
      loose_there l n lt same = let many = length-set l q true in get_or-set_same l q true false (omega (arith, lt, same, many))

      provisional_says : {w : List FirmWrite} (s : MarksStore) → May s Provisional → On None None b g w s →
          Edits (record { track = q; edit = e }) w (core_of (provisionally_written by_plain s q i e))
      provisional_says {w = w} s fits x =
          cond_both (is_loose s q) s (F.loosened s q)
          (λ (z : MarksStore). Edits (record { track = q; edit = e }) w (core_of (with_loose_edit (with_frame z q (Some true)) q e)))
          (λ is. loosely w _ (record { said = x.said; takes = x.takes }) (λ places. is))
          (λ off. loosely w _ (record {
            said = x.said ∙ sym (firmings_loose b s.acts q);
            takes = takes_loose s.acts q x.takes;
          }) (λ places. loose_there s.loose (length (set s.frames q (Some true)))
          (let lt = fits off in let many = length-set s.frames q (Some true) in omega (arith, lt, many)) places))

      by_says : {w : List FirmWrite} (v : Usage) (first : ℕ) (s : MarksStore) (choice : Choice) → May s choice → On None None b g w s →
          Says w (write_by by_plain v first q i e s choice)
      by_says v first s Provisional fits x = firms_done (provisional_says s fits x)
      by_says {w = w} v first s (Fast slot) fits x =
          firms_told tt (firms_done (subst (Edits (record { track = q; edit = e }) (w ++ (q, i.track) ∷ []))
          (ap (λ (c : Core). record c {
            plain = set c.plain q (apply_edit e (track_in c.plain q));
            firm = set c.firm q (apply_edit e (track_in c.plain q));
          }) (sym (framed_same s q (Some true))))
          (edited_says s q e i image fits x)))
      by_says v first s Through fits x = through_says s (is_bypass v.mode) (not (another_loose s first q)) x

    -- The choice

    module _ (v : Usage) where
      clean_inside : (s : MarksStore) (f : Option Bool) → frame_at s q ≡ f → is_clean by_plain f ≡ true → q < length s.frames
      clean_inside s f is clean = by_place (cases_lt q (length s.frames)) where
        by_place : (q < length s.frames) ⊎ (length s.frames ≤ q) → q < length s.frames
        by_place (inl lt) = lt
        by_place (inr le) =
            let none : f ≡ None = sym is ∙ get_or_past s.frames q None le in
            absurd (let no_frame : false ≡ true = sym (ap (is_clean by_plain) none) ∙ clean in cc)

      may_fit : (s : MarksStore) (choice : Choice) → Fits by_plain s q choice → May s choice
      may_fit s Provisional (inl is) = λ off. absurd (let no : true ≡ false = sym is ∙ off in cc)
      may_fit s Provisional (inr clean) = λ _. clean_inside s (frame_at s q) refl clean
      may_fit s (Fast (Some slot)) fit = fit.0
      may_fit s (Fast None) fit = fit.0
      may_fit s Through fit = tt

      chosen_may : (s z : MarksStore) (choice : Choice) → Chosen by_plain s q z choice → May z choice
      chosen_may s z choice k = subst (λ (y : MarksStore). May y choice) (sym k.same) (may_fit s choice k.fit)

      module _ (e : Edit) (old : Image) (image : old.track ≡ track_in b q) where
        abbrev SaysSo : List FirmWrite → Interaction Bool Image MarksStore (Option Took) → Type 0
        SaysSo w j = Tells (λ u z a. WroteSaysSo (record { track = q; edit = e }) u z a) w j

        written_says : {w : List FirmWrite} (first : ℕ) (s : MarksStore) (choice : Choice) → May s choice → On None None b g w s →
            SaysSo w (written by_plain s v first q old e choice)
        written_says first s choice may x =
            firms_then (λ z took. Done z (Some took)) (by_says e (edited_image e old) (ap (apply_edit e) image) v first s choice may x)
            (λ u z took y. firms_done y)

        chosen_says : {w : List FirmWrite} (first : ℕ) (s : MarksStore) (choice : Choice) → May s choice → On None None b g w s →
            SaysSo w (write_chosen by_plain v first q old e s choice)
        chosen_says first s choice may x =
            firms_if (is_given by_plain s choice) (λ _. firms_named tt (written_says first s choice may x)) (λ _. written_says first s choice may x)

        pub write_says : {w : List FirmWrite} (first : ℕ) (s : MarksStore) → On None None b g w s → SaysSo w (write by_plain s v first q old e)
        unfolding E.write
        write_says {w = w} first s x =
            firms_try (firms_then {p = λ u z choice. On None None b g u z × Chosen by_plain s q z choice} (write_chosen by_plain v first q old e)
            (tells_both (asks_firms (choose_asks by_plain (λ z. On None None b g w z) s v q x)) (had_always (choice_fits by_plain s v q)))
            (λ u z choice k. chosen_says first z choice (chosen_may s z choice k.1) k.0))
