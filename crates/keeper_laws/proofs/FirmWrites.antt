-- A command's write keeps the firm volume as it was told.
use Rattle.std.proofs.Common.{◌≡◌, ℕ, Bool, true, List, Option, Some, None, refl, sym, ap, subst, set, ◌∙◌}
use Rattle.std.specs.Prelude.{not}
use Rattle.std.proofs.lemmas.Bool.{cond_both}
use Rattle.ckd_types.specs.declared.record.Edit.{Edit}
use Rattle.ckd_types.specs.declared.record.Track.{Track}
use Rattle.ckd_types.specs.Edit.{apply_edit}
use Rattle.ckd_types.specs.Parameters.{is_bypass}
use Rattle.ckd_types.specs.Volume.{track_in}
use Rattle.track_image.specs.Image.{Image, edited_image}
use Rattle.device_outside.specs.Interaction.{Interaction, Done}
use Rattle.device_defs.specs.declared.answers.Choice.{Choice}
use Rattle.device_defs.specs.declared.answers.Choice.TheVariants.{Provisional, Fast, Through}
use Rattle.device_defs.specs.declared.answers.Took.TheVariants.{Whole}
use Rattle.device_defs.specs.declared.usage.Usage.{Usage}
use Rattle.device_defs.specs.Choosing.{provisionally_written, patch_with}
use Rattle.device_defs.specs.Contents.{by_plain}
use Rattle.device_defs.specs.Editing as E
use Rattle.device_defs.specs.Editing.{whole, through, written, write_by, write_chosen, write, is_given, another_loose}
use Rattle.device_defs.specs.Effects as F
use Rattle.device_defs.specs.Effects.{with_edit, with_loose_edit}
use Rattle.device_defs.specs.Marks.{MarksStore}
use Rattle.device_defs.specs.Store.{Origin, HalfWrite, patch_at, is_loose, with_frame, with_patch}
use Rattle.device_defs.specs.Writing.{write_opened}
use Rattle.device_laws.proofs.PoolWalks.{choose_asks}
use Rattle.keeper_laws.proofs.FirmParts.{at_none, said}
use Rattle.keeper_laws.proofs.FirmStores.{NotLoose, half_track, On}
use Rattle.keeper_laws.proofs.FirmWalk.{done_goes, through_goes}
use Rattle.keeper_laws.proofs.Firms.{Firms, firms_done, firms_try, firms_ask, firms_named, firms_told, firms_then, firms_if, asks_firms}

-- the firm volume of the device of number k is this one, no track is owed, and the track of a half write isn't loose
abbrev pub Rest : ℕ → Type 0 → List Track → MarksStore → Type 0
Rest k p v s = On k p s.half (half_track s.half) s.plain v s

module _ (k : ℕ) (p : Type 0) where
  pub rest_from : {h : Option (HalfWrite (Unit {0}))} {b v : List Track} (s : MarksStore) → On k p h (half_track h) b v s → Rest k p v s
  rest_from s x = (
    x.0,
    λ here. let i = x.1 here in (
      i.0,
      i.1,
      refl,
      subst (λ (w : Option (HalfWrite (Unit {0}))). NotLoose (half_track w) s.loose) (sym i.2) i.3,
      i.4,
      refl,
    ),
  )

  pub rest_at : {v : List Track} (h : Option (HalfWrite (Unit {0}))) (s : MarksStore) → s.half ≡ h → Rest k p v s → On k p h (half_track h) s.plain v s
  rest_at h s e x = (
    x.0,
    λ here. let i = x.1 here in (
      i.0,
      i.1,
      e,
      subst (λ (w : Option (HalfWrite (Unit {0}))). NotLoose (half_track w) s.loose) e i.3,
      i.4,
      refl,
    ),
  )

  -- no half write is open, and this track isn't loose
  pub rest_firm : {b v : List Track} (q : ℕ) (s : MarksStore) → On k p None (Some q) b v s → Rest k p v s
  rest_firm {b = b} q s x = rest_from {h = None} {b = b} s (at_none {b = b} (Some q) s x)

  abbrev pub Rests : {X : Type 0} → List Track → Interaction Bool Image MarksStore X → Type 0
  Rests v i = Firms k (λ u z _. Rest k p u z) v i

  -- an edit takes effect, with the image that was told
  pub edited_on : {h : Option (HalfWrite (Unit {0}))} {b v : List Track} (o : Option ℕ) (s : MarksStore) (q : ℕ) (e : Edit) (i : Image) →
      (p → i.track ≡ apply_edit e (track_in b q)) → On k p h o b v s → On k p h o (with_edit s q e).plain (set v q i.track) (with_edit s q e)
  edited_on {v = v} o s q e i image x = (
    x.0,
    λ here. let y = x.1 here in (
      ap (λ (l : List Track). set l q (apply_edit e (track_in s.plain q))) y.0
          ∙ ap (λ (t : Track). set v q t) (ap (λ (l : List Track). apply_edit e (track_in l q)) y.5 ∙ sym (image here)),
      y.1,
      y.2,
      y.3,
      y.4,
      refl,
    ),
  )

  pub opened_rests : {b v : List Track} (s : MarksStore) (q : ℕ) (i : Image) (origin : Origin) (was : Bool) → On k p None (Some q) b v s →
      Rests v (write_opened by_plain s q i origin was)
  opened_rests s q i origin was x =
      firms_if was
      (λ _. firms_ask (λ _. firms_done (x.0, λ here. let y = x.1 here in (y.0, y.1, refl, y.3, y.4, refl))))
      (λ _. firms_done (x.0, λ here. let y = x.1 here in (y.0, y.1, refl, y.3, y.4, refl)))

  module _ (q : ℕ) (b : List Track) (e : Edit) (i : Image) (image : p → i.track ≡ apply_edit e (track_in b q)) where
    abbrev Here : List Track → MarksStore → Type 0
    Here v s = On k p None (Some q) b v s

    whole_rests : {v : List Track} (s : MarksStore) (bypass : Bool) → Here v s → Rests v (whole by_plain s q i e bypass)
    whole_rests {v = v} s bypass x =
        firms_told x.0
        (firms_then (λ y _. Done y Whole)
        (done_goes (said k p (with_edit s q e).plain) None (Some q) (with_edit s q e) q i bypass (edited_on {h = None} {b = b} (Some q) s q e i image x))
        (λ u y _ w. firms_done (rest_firm {b = (with_edit s q e).plain} q y w)))

    through_rests : {v : List Track} (s : MarksStore) (bypass opens : Bool) → On k p None None b v s → Rests v (through by_plain s q i e bypass opens)
    through_rests s bypass opens x =
        through_goes (said k p b) q e i (λ u z took. Rest k p u z) (λ u z through_it y. whole_rests z through_it y)
        (λ u z origin was y. opened_rests {b = b} z q i origin was y) (λ u z y. rest_firm {b = b} q z y) s bypass opens x

    provisional_rest : {v : List Track} (s : MarksStore) → On k p None None b v s → Rest k p v (provisionally_written by_plain s q i e)
    provisional_rest {v = v} s x =
        cond_both (is_loose s q) s (F.loosened s q) (λ (z : MarksStore). Rest k p v (with_loose_edit (with_frame z q (Some true)) q e))
        (λ _. rest_from {h = None} (with_loose_edit (with_frame s q (Some true)) q e) (loosely s x))
        (λ _. rest_from {h = None} (with_loose_edit (with_frame (F.loosened s q) q (Some true)) q e) (loosely (F.loosened s q) (loosened x)))
      where
        loosely : (z : MarksStore) → On k p None None b v z →
            On k p None None (with_loose_edit (with_frame z q (Some true)) q e).plain v (with_loose_edit (with_frame z q (Some true)) q e)
        loosely z y = (y.0, λ here. let j = y.1 here in (j.0, j.1, j.2, tt, j.4, refl))

        loosened : On k p None None b v s → On k p None None b v (F.loosened s q)
        loosened y = (y.0, λ here. let j = y.1 here in (j.0, j.1, j.2, tt, j.4, j.5))

    by_rests : {v : List Track} (w : Usage) (first : ℕ) (s : MarksStore) (choice : Choice) → On k p None None b v s →
        Rests v (write_by by_plain w first q i e s choice)
    by_rests w first s Provisional x = firms_done (provisional_rest s x)
    by_rests w first s (Fast slot) x =
        let z = with_patch (with_frame s q (Some true)) q (patch_with by_plain e slot (patch_at s q)) in
        firms_told x.0 (firms_done (rest_from {h = None} (with_edit z q e) (edited_on {h = None} {b = b} None z q e i image x)))
    by_rests w first s Through x = through_rests s (is_bypass w.mode) (not (another_loose s first q)) x

  module _ (q : ℕ) (b : List Track) (e : Edit) (old : Image) (image : p → old.track ≡ track_in b q) where
    written_rests : {v : List Track} (w : Usage) (first : ℕ) (s : MarksStore) (choice : Choice) → On k p None None b v s →
        Rests v (written by_plain s w first q old e choice)
    written_rests w first s choice x =
        firms_then (λ z took. Done z (Some took))
        (by_rests q b e (edited_image e old) (λ here. ap (apply_edit e) (image here)) w first s choice x) (λ u z took y. firms_done y)

    chosen_rests : {v : List Track} (w : Usage) (first : ℕ) (s : MarksStore) (choice : Choice) → On k p None None b v s →
        Rests v (write_chosen by_plain w first q old e s choice)
    chosen_rests w first s choice x =
        firms_if (is_given by_plain s choice) (λ _. firms_named tt (written_rests w first s choice x)) (λ _. written_rests w first s choice x)

    pub write_rests : {v : List Track} (w : Usage) (first : ℕ) (s : MarksStore) → On k p None None b v s → Rests v (write by_plain s w first q old e)
    unfolding E.write
    write_rests {v = v} w first s x =
        firms_try (firms_then {p = λ u z _. On k p None None b u z} (write_chosen by_plain w first q old e)
        (asks_firms (choose_asks by_plain (λ z. On k p None None b v z) s w q x))
        (λ u z choice y. chosen_rests w first z choice y))
