-- The other parts of a device's events tell what they note as firm, and the other part of a command's write tells its edit.
use Rattle.std.proofs.Common.{◌≡◌, ◌<◌, ◌≤◌, ℕ, zero, suc, Bool, true, false, List, [], Option, Some, None, is_some, length, set, get_or, refl, sym, ap, subst, ◌∙◌, arith, inl, inr}
use Rattle.std.specs.Prelude.{◌⊎◌}
use Rattle.std.proofs.lemmas.Bool.{cond_both, cases_lt}
use Rattle.std.proofs.lemmas.List.{length-set, get_or_past, get_or-set_same}
use Rattle.ckd_types.specs.declared.geometry.Geometry.{Geometry}
use Rattle.ckd_types.specs.declared.paths.Side.{Side}
use Rattle.ckd_types.specs.declared.record.Edit.{Edit}
use Rattle.ckd_types.specs.declared.record.Track.{Track}
use Rattle.ckd_types.specs.Edit.{apply_edit}
use Rattle.ckd_types.specs.Volume.{track_in}
use Rattle.loss_model.specs.declared.Loss.TheVariants as losses
use Rattle.track_image.specs.Image.{Image}
use Rattle.device_outside.specs.Interaction.{Interaction, Done}
use Rattle.device_defs.specs.Background.{work}
use Rattle.device_defs.specs.Contents.{by_plain}
use Rattle.device_defs.specs.Effects.{with_edit, loose_lost}
use Rattle.device_defs.specs.Events.{with_loss, lost_by, losing}
use Rattle.device_defs.specs.Image.{Imaged}
use Rattle.device_defs.specs.Losses as L
use Rattle.device_defs.specs.Losses.{settled, without_frame, without_patch, patch_lost, all_firm_told}
use Rattle.device_defs.specs.Marks.{MarksStore}
use Rattle.device_defs.specs.Memory.{had_by}
use Rattle.device_defs.specs.Peek.{peek_usage, peeked, peek_image, is_in_half, peek_half, peek_track}
use Rattle.device_defs.specs.Second as N
use Rattle.device_defs.specs.Second.{half_closed, finished, cut_kept, second_by, second_part}
use Rattle.device_defs.specs.Store.{Origin, OfCommand, OfCut, OfBackground, HalfWrite, tracks_of, has_level, has_loose, frame_at, is_lost, owed_at, with_frame}
use Rattle.device_laws.proofs.PlainStores.{core_of}
use Rattle.keeper_laws.proofs.FirmEvents.{half_image}
use Rattle.firm_laws.specs.FirmWrites.{FirmWrite}
use Rattle.keeper_laws.proofs.FirmWalk.{done_goes, here_settled, write_second_goes, work_rests, image_has}
use Rattle.firm_laws.proofs.SaidParts.{Imaging, on_by, on_framed, all_told_goes, saying}
use Rattle.firm_laws.proofs.SaidStores.{Same, same_then, same_unframed, same_unpatched, step_patch, calm_settled, over_same, On, on_same, owes_none, owes_over, owes_side}
use Rattle.firm_laws.proofs.SaidWrites.{Noted, Edits, noted, done_edits, edited_says, opened_says}
use Rattle.keeper_laws.proofs.Firms.{firms_done, firms_try, firms_told, firms_then, firms_weaker, firms_if}
use Rattle.firm_laws.proofs.Tells.{Tells}

module _ (b : List Track) (g : Geometry) where
  -- what was told is what was noted
  abbrev pub Notes : {X : Type 0} → List FirmWrite → Interaction Bool Image MarksStore X → Type 0
  Notes w i = Tells (λ u z _. Noted b u (core_of z)) w i

  abbrev Here : ℕ → List FirmWrite → MarksStore → Type 0
  Here q w s = On None (Some q) b g w s

  -- The other part of a write

  abbrev pub SecondSays : ℕ → Origin → List FirmWrite → MarksStore → Bool → Type 0
  SecondSays t (OfCommand bypass e) u z true = Edits b (record { track = t; edit = e }) u (core_of z)
  SecondSays t (OfCommand bypass e) u z false = Noted b u (core_of z)
  SecondSays t (OfCut bypass) u z done = Noted b u (core_of z)
  SecondSays t OfBackground u z done = Noted b u (core_of z)

  finished_notes : {w : List FirmWrite} (s : MarksStore) (q : ℕ) (i : Image) (bypass : Bool) → Here q w s → Notes w (finished by_plain s q i bypass)
  finished_notes s q i bypass x =
      firms_then (λ z _. Done z true) (done_goes (saying b g) None (Some q) s q i bypass x) (λ u z _ y. firms_done (noted b z y))

  absent_noted : {w : List FirmWrite} (s : MarksStore) (q : ℕ) → Here q w s → Noted b w (core_of (settled by_plain s q))
  absent_noted s q x = noted b (settled by_plain s q) (here_settled (saying b g) None q s x)

  kept_here : {w : List FirmWrite} (s : MarksStore) (q : ℕ) (i : Image) (f : Option Bool) → Here q w s → Here q w (cut_kept by_plain s q i f)
  kept_here s q i None x = x
  kept_here s q i (Some f) x =
      on_same None (Some q) b g (with_frame s q (Some f)) (without_patch by_plain (with_frame s q (Some f)) q) (same_unpatched (with_frame s q (Some f)) q)
      (on_framed None (Some q) b g s q (Some f) x)

  level_says : {w : List FirmWrite} (s : MarksStore) (q : ℕ) (i : Image) (origin : Origin) →
      ((e : Edit) (bypass : Bool) → origin ≡ OfCommand bypass e → i.track ≡ apply_edit e (track_in b q)) → Here q w (half_closed s) →
      Tells (λ u z done. SecondSays q origin u z done) w (second_by by_plain q i origin s)
  level_says s q i (OfCommand bypass e) image x =
      firms_if (has_level s q)
      (λ _. firms_told tt (firms_then (λ z _. Done z true)
      (done_edits b (record { track = q; edit = e }) (with_edit (half_closed s) q e) q i bypass (edited_says b (half_closed s) q e i (image e bypass refl) x.firm x))
      (λ u z _ y. firms_done y)))
      (λ _. firms_done (absent_noted (half_closed s) q x))
  level_says s q i (OfCut bypass) image x =
      firms_if (has_level s q) (λ _. finished_notes (half_closed s) q i bypass x)
      (λ _. firms_done (absent_noted (cut_kept by_plain (half_closed s) q i (frame_at (half_closed s) q)) q (kept_here (half_closed s) q i (frame_at (half_closed s) q) x)))
  level_says s q i OfBackground image x =
      firms_if (has_level s q) (λ _. finished_notes (half_closed s) q i false x) (λ _. firms_done (absent_noted (half_closed s) q x))

  closes : {w : List FirmWrite} (s : MarksStore) (h : HalfWrite (Unit {0})) → On (Some h) (Some h.track) b g w s → Here h.track w (half_closed s)
  closes s h x = record {
    said = x.said;
    takes = x.takes;
    free = x.free;
    half = refl;
    firm = x.firm;
    room = x.room;
    plain = x.plain;
    geometry = x.geometry;
  }

  pub part_says : {w : List FirmWrite} (s : MarksStore) (h : HalfWrite (Unit {0})) → On (Some h) (Some h.track) b g w s →
      Tells (λ u z done. SecondSays h.track h.origin u z done) w (second_part by_plain s h)
  unfolding N.second_part
  part_says s h x =
      firms_then (λ z _. second_by by_plain h.track (N.half_image_of by_plain s h) h.origin z) (write_second_goes (saying b g) (Some h) h.track s true x)
      (λ u z _ y. level_says z h.track (N.half_image_of by_plain s h) h.origin
      (λ e bypass is. half_image 0 ⊥ s h e bypass is ∙ ap (λ (l : List Track). apply_edit e (track_in l h.track)) x.plain) (closes z h y))

  -- Work in the background, while no half write is open

  abbrev Now : List FirmWrite → MarksStore → Type 0
  Now w s = On None None b g w s

  pub work_notes : {w : List FirmWrite} (s : MarksStore) → Now w s → Notes w (work by_plain s)
  work_notes s x =
      work_rests (saying b g) (λ u z. Noted b u (core_of z)) (λ o u z y. noted b z y) (λ q i u z was y. opened_says b g q z i OfBackground was y) s x

  module _ (h : Option (HalfWrite (Unit {0}))) (o : Option ℕ) where
    -- Losses of the store and of a side

    pub store_notes : {w : List FirmWrite} (s : MarksStore) → On h o b g w s → Notes w (losing by_plain s losses.Store)
    unfolding L.store_lost
    store_notes {w = w} s x =
        let z = with_loss s losses.Store in
        firms_weaker (all_told_goes h o b g w (tracks_of s) (lost_by by_plain z losses.Store)
        (owes_over h o b g (tracks_of s) w (tracks_of s) (patch_lost by_plain) (omega arith) step_patch z
        (owes_none h o b g (tracks_of s) w z refl (on_by h o b g s z refl refl x))))
        (λ u y _ k. noted b y k)

    pub side_notes : {w : List FirmWrite} (s : MarksStore) (side : Side) → On h o b g w s → Notes w (losing by_plain s (losses.Side side))
    side_notes {w = w} s side x =
        let z = with_loss s (losses.Side side) in
        firms_weaker (all_told_goes h o b g w (tracks_of s) (lost_by by_plain z (losses.Side side))
        (owes_side h o b g w z side None (on_by h o b g s z refl refl x)))
        (λ u y _ k. noted b y k)

    -- A look

    found_notes : {w : List FirmWrite} (s : MarksStore) (q : ℕ) (i : Option Imaged) → Imaging h o b g q w s i →
        Notes w (had_by (λ z k. Done z (Some (peeked k))) s i)
    found_notes s q None x = firms_done (noted b s x.on)
    found_notes s q (Some i) x = firms_done (noted b s x.on)

    peeked_notes : {w : List FirmWrite} (s : MarksStore) (q : ℕ) → On h o b g w s → Notes w (peek_image by_plain s q)
    peeked_notes s q x =
        firms_then (had_by (λ z i. Done z (Some (peeked i)))) (image_has (saying b g) h o q s peek_usage x) (λ u z i y. found_notes z q i y)

    in_half_notes : {w : List FirmWrite} (s : MarksStore) (q : ℕ) (k : Option (HalfWrite (Unit {0}))) → On h o b g w s → Notes w (peek_half by_plain s q k)
    in_half_notes s q None x = peeked_notes s q x
    in_half_notes s q (Some k) x = firms_if (is_in_half by_plain s q k) (λ _. firms_try (firms_done (noted b s x))) (λ _. peeked_notes s q x)

    pub track_notes : {w : List FirmWrite} (s : MarksStore) (q : ℕ) → On h o b g w s → Notes w (peek_track by_plain s q)
    track_notes s q x = firms_if (is_lost s q) (λ _. firms_done (noted b s x)) (λ _. in_half_notes s q s.half x)

-- The loss of the cache tells nothing

no_frame : (s : MarksStore) (q : ℕ) → frame_at (without_frame s q) q ≡ None
no_frame s q =
    cond_both (is_some (frame_at s q)) _ s (λ (z : MarksStore). frame_at z q ≡ None) (λ _. put_none s.frames q) (λ off. none_of (frame_at s q) off)
  where
    none_of : (f : Option Bool) → is_some f ≡ false → f ≡ None
    none_of None e = refl
    none_of (Some f) e = absurd (cc)

    put_none : (l : List (Option Bool)) (t : ℕ) → get_or (set l t None) t None ≡ None
    put_none l t = by_place (cases_lt t (length l)) where
      by_place : (t < length l) ⊎ (length l ≤ t) → get_or (set l t None) t None ≡ None
      by_place (inl lt) = get_or-set_same l t None None lt
      by_place (inr le) = let a = length-set l t None in get_or_past (set l t None) t None (omega (arith, a, le))

unframed_same : (q : ℕ) (z : MarksStore) → Same z (settled by_plain (without_frame z q) q)
unframed_same q z =
    same_then z (without_frame z q) (settled by_plain (without_frame z q) q) (same_unframed z q) (calm_settled (without_frame z q) q (inl (no_frame z q)))

-- nothing is owed
abbrev AreFree : MarksStore → Type 0
AreFree s = (t : ℕ) → (owed_at s t).firm ≡ false

none_told : (n : ℕ) (s : MarksStore) → AreFree s → Tells (λ u z (_ : Unit {0}). (u ≡ []) × (z ≡ s)) [] (all_firm_told by_plain n s)
unfolding L.all_firm_told
none_told zero s free = firms_done (refl, refl)
none_told (suc n) s free =
    firms_then (λ z _. L.firm_told by_plain n z) (none_told n s free)
    (λ u z _ y. subst (λ (l : List FirmWrite). Tells (λ v x (_ : Unit {0}). (v ≡ []) × (x ≡ s)) l (L.firm_told by_plain n z)) (sym y.0)
    (firms_if (owed_at z n).firm
    (λ owed. absurd (let no : true ≡ false = sym owed ∙ ap (λ (x : MarksStore). (owed_at x n).firm) y.1 ∙ free n in cc))
    (λ _. firms_done (refl, y.1))))

pub cache_tells : (s : MarksStore) → ((t : ℕ) → (owed_at s t).firm ≡ false) →
    Tells (λ u z (_ : Unit {0}). (u ≡ []) × (core_of z ≡ core_of (loose_lost (with_loss s losses.Cache)))) []
    (losing by_plain s losses.Cache)
unfolding L.cache_lost
cache_tells s free =
    let z = with_loss s losses.Cache in
    let first : MarksStore = record (loose_lost z) { queue = [] } in
    let same = over_same (tracks_of s) (λ q y. settled by_plain (without_frame y q) q) unframed_same first in
    let none : AreFree first = cond_both (has_loose s) _ z (λ (y : MarksStore). AreFree (record y { queue = [] })) (λ _. free) (λ _. free) in
    firms_weaker (none_told (tracks_of s) (lost_by by_plain z losses.Cache) (λ t. same.free t ∙ none t))
    (λ u y _ k. (k.0, ap core_of k.1 ∙ same.core))
