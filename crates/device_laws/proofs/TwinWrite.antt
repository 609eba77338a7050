-- A command's write leaves all right wherever its edit goes, and the plain volume has the edit where it is done; with its twin on marks.
use Rattle.std.proofs.Common.{◌≡◌, ◌<◌, not, ℕ, Bool, true, false, List, Option, Some, None, is_some, refl, ap, subst, ◌⊎◌, inl, inr}
use Rattle.std.specs.Prelude.{if◌then◌else◌}
use Rattle.ckd_types.specs.declared.record.Edit.{Edit}
use Rattle.ckd_types.specs.declared.record.Track.{Track}
use Rattle.ckd_types.specs.Parameters.{is_bypass}
use Rattle.ckd_types.specs.Volume.{track_in}
use Rattle.track_image.specs.Image.{Image, edited_image}
use Rattle.track_cache.specs.declared.frames.Frame.{Frame}
use Rattle.nv_store.specs.declared.patches.Stored.{Stored}
use Rattle.device_outside.specs.Both.{both_try, both_tell, both_free}
use Rattle.device_outside.specs.Interaction.{Done}
use Rattle.device_outside.specs.Pool.{FreeSlot}
use Rattle.device_outside.specs.Slots.{held_after}
use Rattle.device_outside.proofs.BothRules.{on_test, on_tests}
use Rattle.device_defs.specs.declared.answers.Choice.{Choice}
use Rattle.device_defs.specs.declared.answers.Choice.TheVariants.{Provisional, Fast, Through}
use Rattle.device_defs.specs.declared.answers.Took.{Took}
use Rattle.device_defs.specs.declared.usage.Usage.{Usage}
use Rattle.device_defs.specs.Contents.{contents, by_plain}
use Rattle.device_defs.specs.Editing as E
use Rattle.device_defs.specs.Editing.{another_loose, write_by, written, is_given, clean_again, unchosen, write_chosen, write}
use Rattle.device_defs.specs.Effects.{loosened}
use Rattle.device_defs.specs.Marks.{marks_of}
use Rattle.device_defs.specs.Owed.{is_clean}
use Rattle.device_defs.specs.Sound.{DeviceStore}
use Rattle.device_defs.specs.Store.{tracks_of, frame_at, patch_at, is_lost, is_loose, half_is}
use Rattle.device_laws.specs.Agrees.{Held, image_in}
use Rattle.device_laws.specs.PlainWrites.{SuitsTrack, plain_had}
use Rattle.device_laws.specs.Twin.{Twins}
use Rattle.device_laws.proofs.Bools.{no_some, not_true}
use Rattle.device_laws.proofs.Choices.{Fits, choice_fits}
use Rattle.device_laws.proofs.FailedCall.{IsWell}
use Rattle.device_laws.proofs.TrackMarks as M
use Rattle.device_laws.proofs.TrackMarks.{marks, is_good, track_at}
use Rattle.device_laws.proofs.TwinAsks.{ask_clean, Ordered, SameSize}
use Rattle.device_laws.proofs.TwinChoices.{Chooses, NewBy, choice_mark, choice_twin, clean_same, slots_order}
use Rattle.device_laws.proofs.TwinFast.{HasPlace, fast_order, fast_twin_is, provisional_order, provisional_twin_is}
use Rattle.device_laws.proofs.TwinSlots.{may_free_new, unused_slots}
use Rattle.device_laws.proofs.TwinThrough.{WroteTwin, none_off, through_twin}
use Rattle.device_laws.proofs.TwinWalks.{twin_done, twin_ends, twin_then, twin_always}

no_patch : (f : Option Bool) (p o v : Bool) → is_good (marks f p false o false v) ≡ true → ((o ≡ true) ⊎ (f ≡ Some false)) → p ≡ false
no_patch f false o v e c = refl
no_patch None true true true e c = absurd (cc)
no_patch None true true false e c = absurd (cc)
no_patch None true false v e (inl c) = absurd (cc)
no_patch None true false v e (inr c) = absurd (cc)
no_patch (Some true) true true true e c = absurd (cc)
no_patch (Some true) true true false e c = absurd (cc)
no_patch (Some true) true false v e (inl c) = absurd (cc)
no_patch (Some true) true false v e (inr c) = absurd (cc)
no_patch (Some false) true true true e c = absurd (cc)
no_patch (Some false) true true false e c = absurd (cc)
no_patch (Some false) true false true e c = absurd (cc)
no_patch (Some false) true false false e c = absurd (cc)

clean_mark : (f : Option Frame) → is_clean contents f ≡ true → M.frame_mark contents f ≡ Some false
clean_mark None e = absurd (cc)
clean_mark (Some f) e = ap Some (not_true f.modified e)

pub record HadTwin (u : List Track) (s : DeviceStore) (t : ℕ) (e : Edit) (v w : List Track) (z : DeviceStore) (a b : Option Took) (k : Held) : Type 0 where
  pub order : Ordered v w z k
  pub same : a ≡ b
  pub plain : v ≡ plain_had a u t e
  pub size : SameSize s z

module _ (v w : List Track) (s : DeviceStore) (t : ℕ) (e : Edit) (u : Usage) (first : ℕ) (lt : t < tracks_of s) (there : is_lost s t ≡ false)
    (none : s.half ≡ None)
    (suits : SuitsTrack s.geometry (track_in v t) e) (well : IsWell contents s) where
  abbrev old : Image
  old = image_in s v t

  abbrev i : Image
  i = edited_image e old

  off : half_is s.half t ≡ false
  off = none_off s.half t none

  clean_there : Fits contents s t Provisional → ((track_at contents s t).loose ≡ true) ⊎ ((track_at contents s t).frame ≡ Some false)
  unfolding M.track_at
  clean_there (inl loose) = inl loose
  clean_there (inr clean) = inr (clean_mark (frame_at s t) clean)

  -- a track that is loose, or has a clean frame, has no patch
  unpatched : Fits contents s t Provisional → patch_at s t ≡ None
  unfolding M.track_at
  unpatched fit =
      let x = track_at contents s t in
      no_some (patch_at s t) (no_patch x.frame x.patched x.loose x.level
      (subst (λ (b : Bool). is_good (marks x.frame x.patched b x.loose false x.level) ≡ true) there
      (subst (λ (b : Bool). is_good (marks x.frame x.patched x.lost x.loose b x.level) ≡ true) off (well.good t lt)))
      (clean_there fit))

  abbrev Wrotes : List Track → List Track → DeviceStore → Took → Took → Held → Type 0
  Wrotes v' w' z a b k = WroteTwin v s t e v' w' z a b k

  abbrev Ends : List Track → List Track → DeviceStore → Option Took → Option Took → Held → Type 0
  Ends v' w' z a b k = HadTwin v s t e v' w' z a b k

  place_by : (p : Option Stored) (slot : ℕ) → HasPlace p (Some slot)
  place_by None slot = tt
  place_by (Some p) slot = tt

  place_held : (p : Option Stored) → is_some p ≡ true → HasPlace p None
  place_held None e = absurd (cc)
  place_held (Some p) e = tt

  by_choice : (choice : Choice) (k : Held) → Ordered v w s k → NewBy s choice k.slots → Fits contents s t choice →
      Twins Wrotes (write_by contents u first t i e s choice) (write_by by_plain u first t i e (marks_of v w s) (choice_mark choice)) k
  by_choice Provisional k o new fit =
      twin_ends (provisional_twin_is v w s k t e lt there off suits o)
      (record {
        order = provisional_order v w s k t e lt there off suits o (unpatched fit);
        same = refl;
        plain = refl;
        size = size_by (is_loose s t);
      })
    where
      size_by : (b : Bool) → SameSize s (if b then s else loosened s t)
      size_by true = (refl, refl)
      size_by false = (refl, refl)
  by_choice (Fast (Some slot)) k o new fit =
      both_tell (λ _. twin_ends (fast_twin_is v w s k t e lt there off suits o (Some slot))
      (record {
        order = fast_order v w s k t e lt there off suits o (Some slot) fit.0 (place_by (patch_at s t) slot) new;
        same = refl;
        plain = refl;
        size = (refl, refl);
      }))
  by_choice (Fast None) k o new fit =
      both_tell (λ _. twin_ends (fast_twin_is v w s k t e lt there off suits o None)
      (record {
        order = fast_order v w s k t e lt there off suits o None fit.0 (place_held (patch_at s t) fit.2) new;
        same = refl;
        plain = refl;
        size = (refl, refl);
      }))
  by_choice Through k o new fit =
      through_twin v w s k t e (is_bypass u.mode) (not (another_loose s first t)) lt there none suits (record { sure = o.sure; told = o.told; well = well })

  written_twin : (choice : Choice) (k : Held) → Ordered v w s k → NewBy s choice k.slots → Fits contents s t choice →
      Twins Ends (written contents s u first t old e choice) (written by_plain (marks_of v w s) u first t old e (choice_mark choice)) k
  written_twin choice k o new fit =
      twin_then _ _ (by_choice choice k o new fit)
      (λ v' w' z a b l f. twin_done (record { order = f.order; same = ap Some f.same; plain = f.plain; size = f.size }))

  as_it_was : (k : Held) → Ordered v w s k → Twins Ends (Done s None) (Done (marks_of v w s) None) k
  as_it_was k o = twin_done (record { order = o; same = refl; plain = refl; size = (refl, refl) })

  again_twin : (k : Held) → Ordered v w s k → Twins Ends (clean_again contents s t) (clean_again by_plain (marks_of v w s) t) k
  again_twin k o =
      on_tests (is_clean contents (frame_at s t)) (is_clean by_plain (frame_at (marks_of v w s) t)) (clean_same v w s t)
      (λ _. ask_clean s.device t (as_it_was k o))
      (λ _. as_it_was k o)

  unchosen_twin : (choice : Choice) (k : Held) → Ordered v w s k → NewBy s choice k.slots →
      Twins Ends (unchosen contents s t choice) (unchosen by_plain (marks_of v w s) t (choice_mark choice)) k
  unchosen_twin Provisional k o new = again_twin k o
  unchosen_twin (Fast None) k o new = again_twin k o
  unchosen_twin (Fast (Some slot)) k o new =
      both_free (may_free_new s slot k.slots new)
      (again_twin (record k { slots = held_after k.slots (FreeSlot slot) (tt {0}) })
      (slots_order v w s k (held_after k.slots (FreeSlot slot) (tt {0})) o (unused_slots s slot k.slots new o.sure.ground.slots)))
  unchosen_twin Through k o new = as_it_was k o

  given_same : (choice : Choice) → is_given by_plain (marks_of v w s) (choice_mark choice) ≡ is_given contents s choice
  given_same Provisional = refl
  given_same (Fast slot) = refl
  given_same Through = refl

  chosen_twin : (choice : Choice) (k : Held) → Ordered v w s k → NewBy s choice k.slots → Fits contents s t choice →
      Twins Ends (write_chosen contents u first t old e s choice) (write_chosen by_plain u first t old e (marks_of v w s) (choice_mark choice)) k
  chosen_twin choice k o new fit =
      on_tests (is_given contents s choice) (is_given by_plain (marks_of v w s) (choice_mark choice)) (given_same choice)
      (λ _. both_tell (λ ok. on_test ok (λ _. written_twin choice k o new fit) (λ _. unchosen_twin choice k o new)))
      (λ _. written_twin choice k o new fit)

  pub write_twin : (h : Held) → Ordered v w s h → Twins Ends (write contents s u first t old e) (write by_plain (marks_of v w s) u first t old e) h
  unfolding E.write
  write_twin h o =
      both_try
      (twin_then _ _ (twin_always (choice_twin v w s u t h o) (choice_fits contents s u t))
      (λ v' w' z a b k f. at_store v' w' z a b k f.0 f.1.fit))
      (as_it_was h o)
    where
      at_store : (v' w' : List Track) (z : DeviceStore) (a b : Choice) (k : Held) → Chooses v w s v' w' z a b k → Fits contents s t a →
          Twins Ends (write_chosen contents u first t old e z a) (write_chosen by_plain u first t old e (marks_of v' w' z) b) k
      at_store v' w' z a b k f fit = rw f.store (rw f.plain (rw f.firm (rw f.same (chosen_twin a k f.order f.new fit))))
