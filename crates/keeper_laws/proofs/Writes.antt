-- A command's write of a track that is calm names its plain image first, and one of another track leaves it as it is.
use Rattle.std.proofs.Common.{◌≡◌, ◌==◌, ◌&&◌, ◌||◌, not, ℕ, Bool, true, false, Some, refl, sym, ap, subst, ◌∙◌}
use Rattle.std.proofs.lemmas.Bool.{cond_both}
use Rattle.ckd_types.specs.declared.record.Edit.{Edit}
use Rattle.ckd_types.specs.Parameters.{is_bypass}
use Rattle.track_image.specs.Image.{Image, edited_image}
use Rattle.device_outside.specs.Interaction.{Interaction, Done, and_then}
use Rattle.device_defs.specs.declared.answers.Choice.{Choice}
use Rattle.device_defs.specs.declared.answers.Choice.TheVariants.{Provisional, Fast, Through}
use Rattle.device_defs.specs.declared.answers.Took.{Took}
use Rattle.device_defs.specs.declared.answers.Took.TheVariants.{Whole, Unwritten}
use Rattle.device_defs.specs.declared.usage.Usage.{Usage}
use Rattle.device_defs.specs.Choosing.{provisionally_written, patch_with}
use Rattle.device_defs.specs.Contents.{by_plain}
use Rattle.device_defs.specs.Editing as E
use Rattle.device_defs.specs.Editing.{whole, through, through_by, written, write_by, write_chosen, write, is_given, another_loose}
use Rattle.device_defs.specs.Effects as F
use Rattle.device_defs.specs.Effects.{with_edit, with_loose_edit}
use Rattle.device_defs.specs.Marks.{MarksStore}
use Rattle.device_defs.specs.Store.{takes_b, patch_at, is_loose, with_frame, with_patch}
use Rattle.device_defs.specs.Writing as W
use Rattle.device_defs.specs.Writing.{firm_first, write_first}
use Rattle.device_laws.proofs.PlainStores.{core_of}
use Rattle.device_laws.proofs.PoolWalks.{choose_asks}
use Rattle.keeper_laws.proofs.Calm.{Watch, is_watched, watched_image, watched_so, edited_keeps, loosely_keeps, loosened_keeps, unwatched}
use Rattle.keeper_laws.proofs.Names.{Names, names_try, names_other, names_it, names_then, names_if, silent_names}
use Rattle.keeper_laws.proofs.FirmWalk.{through_goes}
use Rattle.keeper_laws.proofs.Firms.{silent_of, says_of}
use Rattle.keeper_laws.proofs.Parts.{On, Stays, calm, frames_on, settled_on, done_stays, opened_stays}
use Rattle.keeper_laws.proofs.Silent.{Silent, silent_done, silent_firm, silent_then, silent_if, asks_silent}

neither : (x y : Bool) → (x || y) ≡ false → (x ≡ false) × (y ≡ false)
neither true y e = absurd (cc)
neither false y e = (refl, e)

module _ (w : Watch) where
  -- What is named of the track is its plain image, and where nothing is named of it, it is kept
  abbrev pub Tells : {X : Type 0} → Interaction Bool Image MarksStore X → Type 0
  Tells i = Names w.number w.track (watched_image w) (λ z _. On w z) i

  -- Of another track

  module _ (q : ℕ) (off : is_watched w q ≡ false) (e : Edit) where
    whole_stays : (s : MarksStore) (i : Image) (bypass : Bool) → On w s → Stays w (whole by_plain s q i e bypass)
    whole_stays s i bypass k =
        silent_firm (silent_then (λ y _. Done y Whole) (done_stays w (with_edit s q e) q i bypass (edited_keeps w (core_of s) q k off e))
        (λ y _ x. silent_done x))

    through_stays : (s : MarksStore) (i : Image) (bypass opens : Bool) → On w s → Stays w (through by_plain s q i e bypass opens)
    through_stays s i bypass opens k =
        silent_of (through_goes (calm w) q e i (λ u z took. On w z) (λ u z through_it x. says_of (whole_stays z i through_it x) u)
        (λ u z origin was x. says_of (opened_stays w z q i origin was x (λ here. unwatched w q origin off here)) u) (λ u z x. x) {v = tt} s bypass opens k)

    provisional_on : (s : MarksStore) (i : Image) → On w s → On w (provisionally_written by_plain s q i e)
    provisional_on s i k =
        cond_both (is_loose s q) s (F.loosened s q) (λ (z : MarksStore). On w (with_loose_edit (with_frame z q (Some true)) q e))
        (λ _. edits s k) (λ _. edits (F.loosened s q) (loosened_keeps w (core_of s) q k off))
      where
        edits : (z : MarksStore) → On w z → On w (with_loose_edit (with_frame z q (Some true)) q e)
        edits z x = loosely_keeps w (core_of (with_frame z q (Some true))) q (frames_on w z q (Some true) x) off e

    by_stays : (v : Usage) (first : ℕ) (s : MarksStore) (i : Image) (choice : Choice) → On w s → Stays w (write_by by_plain v first q i e s choice)
    by_stays v first s i Provisional k = silent_done (provisional_on s i k)
    by_stays v first s i (Fast slot) k =
        let z = with_patch (with_frame s q (Some true)) q (patch_with by_plain e slot (patch_at s q)) in
        silent_firm (silent_done (edited_keeps w (core_of z) q (frames_on w s q (Some true) k) off e))
    by_stays v first s i Through k = through_stays s i (is_bypass v.mode) (not (another_loose s first q)) k

    written_stays : (v : Usage) (first : ℕ) (s : MarksStore) (old : Image) (choice : Choice) → On w s →
        Stays w (written by_plain s v first q old e choice)
    written_stays v first s old choice k =
        silent_then (λ z took. Done z (Some took)) (by_stays v first s (edited_image e old) choice k) (λ z took x. silent_done x)

  -- Of this one: a write that is given to nothing edits nothing

  module _ (q : ℕ) (on : is_watched w q ≡ true) (e : Edit) where
    firm_here : (s : MarksStore) → On w s → is_loose s q ≡ false
    firm_here s k = let two = watched_so w q on in ap (is_loose s) two.1 ∙ (k.calm two.0).loose

    record Nowhere (s z : MarksStore) : Type 0 where
      same : z ≡ s

    record NotTaken (z : MarksStore) (r : W.Wrote) : Type 0 where
      kept : On w z
      none : r.took ≡ Unwritten

    firm_first_idle : (s : MarksStore) → is_loose s q ≡ false → Silent (λ z (_ : Bool). Nowhere s z) (firm_first by_plain s q)
    firm_first_idle s firm =
        silent_if (is_loose s q) (λ is. absurd (let no : true ≡ false = sym is ∙ firm in cc)) (λ _. silent_done (record { same = refl }))

    first_idle : (s : MarksStore) → s.a.up ≡ false → takes_b s ≡ false → On w s → Silent (λ z r. NotTaken z r) (write_first by_plain s q true)
    unfolding W.write_first
    first_idle s down none k =
        silent_if s.a.up (λ is. absurd (let no : true ≡ false = sym is ∙ down in cc))
        (λ _. silent_if (takes_b s) (λ is. absurd (let no : true ≡ false = sym is ∙ none in cc))
        (λ _. silent_done (record { kept = settled_on w s q k; none = refl })))

    idle_stays : (s : MarksStore) (i : Image) (bypass opens : Bool) → s.a.up ≡ false → takes_b s ≡ false → On w s →
        Stays w (through by_plain s q i e bypass opens)
    unfolding E.through
    idle_stays s i bypass opens down none k =
        silent_then (λ z was. and_then (write_first by_plain z q true) (λ y r. through_by by_plain q i e bypass opens was y r.took))
        (firm_first_idle s (firm_here s k))
        (λ z was n.
        subst (λ (x : MarksStore). Stays w (and_then (write_first by_plain x q true) (λ y r. through_by by_plain q i e bypass opens was y r.took))) (sym n.same)
        (silent_then (λ y r. through_by by_plain q i e bypass opens was y r.took) (first_idle s down none k)
        (λ y r x.
        subst (λ (t : Took). Stays w (through_by by_plain q i e bypass opens was y t)) (sym x.none) (silent_done x.kept))))

    not_given : (v : Usage) (first : ℕ) (s : MarksStore) (i : Image) (choice : Choice) → is_given by_plain s choice ≡ false → On w s →
        Stays w (write_by by_plain v first q i e s choice)
    not_given v first s i Provisional none k = absurd (cc)
    not_given v first s i (Fast slot) none k = absurd (cc)
    not_given v first s i Through none k =
        let two = neither s.a.up (takes_b s) none in idle_stays s i (is_bypass v.mode) (not (another_loose s first q)) two.0 two.1 k

    not_written : (v : Usage) (first : ℕ) (s : MarksStore) (old : Image) (choice : Choice) → is_given by_plain s choice ≡ false → On w s →
        Stays w (written by_plain s v first q old e choice)
    not_written v first s old choice none k =
        silent_then (λ z took. Done z (Some took)) (not_given v first s (edited_image e old) choice none k) (λ z took x. silent_done x)

  -- Of any track, with its image

  module _ (v : Usage) (first q : ℕ) (old : Image) (e : Edit) where
    number_is : (s : MarksStore) (b : Bool) → On w s → is_watched w q ≡ b → ((s.device == w.number) && (q == w.track)) ≡ b
    number_is s b k is = ap (λ (d : ℕ). (d == w.number) && (q == w.track)) k.device ∙ is

    chosen_tells : (s : MarksStore) (choice : Choice) (b : Bool) → is_watched w q ≡ b → (is_watched w q ≡ true → old ≡ watched_image w) → On w s →
        Tells (write_chosen by_plain v first q old e s choice)
    chosen_tells s choice true on image k =
        names_if (is_given by_plain s choice) (λ _. names_it (number_is s true k on) (image on))
        (λ none. silent_names (not_written q on e v first s old choice none k))
    chosen_tells s choice false off image k =
        names_if (is_given by_plain s choice) (λ _. names_other (number_is s false k off) (silent_names (written_stays q off e v first s old choice k)))
        (λ _. silent_names (written_stays q off e v first s old choice k))

    pub write_tells : (s : MarksStore) → (is_watched w q ≡ true → old ≡ watched_image w) → On w s → Tells (write by_plain s v first q old e)
    unfolding E.write
    write_tells s image k =
        names_try (names_then (write_chosen by_plain v first q old e)
        (silent_names (asks_silent (choose_asks by_plain (λ (z : MarksStore). z ≡ s) s v q refl)))
        (λ z choice same. subst (λ (x : MarksStore). Tells (write_chosen by_plain v first q old e x choice)) (sym same)
        (chosen_tells s choice (is_watched w q) refl image k)))
