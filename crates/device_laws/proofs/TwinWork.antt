-- What a device does by itself leaves all right, and its twin on marks finds the same to do.
use Rattle.std.proofs.Common.{◌≡◌, ◌<◌, ◌&&◌, ◌||◌, not, zero, suc, ℕ, Bool, true, false, List, [], ◌∷◌, Option, Some, None, is_some, refl, sym, ap, subst, ◌∙◌}
use Rattle.std.specs.Prelude.{option_map, if◌then◌else◌}
use Rattle.ckd_types.specs.declared.record.Track.{Track}
use Rattle.track_table.specs.Tracks as T
use Rattle.track_table.specs.Tracks.{least, or_else}
use Rattle.track_cache.specs.declared.frames.Frame.{Frame}
use Rattle.device_outside.specs.Interaction.{Done}
use Rattle.device_defs.specs.declared.answers.Did.{Did}
use Rattle.device_defs.specs.declared.answers.Did.TheVariants.{Nothing, Destaged}
use Rattle.device_defs.specs.Background as K
use Rattle.device_defs.specs.Background.{copies_to, to_copy, to_recover, is_destaged, to_destage, destage_first, stage_first, copy_first, recover_first, work}
use Rattle.device_defs.specs.Contents.{contents, by_plain}
use Rattle.device_defs.specs.Marks.{marks_of, frame_mark}
use Rattle.device_defs.specs.Owed as O
use Rattle.device_defs.specs.Owed.{is_modified, waits, waits_by}
use Rattle.device_defs.specs.Sound.{DeviceStore}
use Rattle.device_defs.specs.Store.{tracks_of, some_up, frame_at, patch_at, is_lost, is_loose}
use Rattle.device_laws.specs.Agrees.{Held}
use Rattle.device_laws.specs.InOrder.{AreBelow}
use Rattle.device_laws.specs.Twin.{Twins}
use Rattle.device_laws.proofs.TwinThrough.{mark_lost}
use Rattle.device_laws.proofs.Bools.{and_left}
use Rattle.device_laws.proofs.Sweeps.{all_queued}
use Rattle.device_laws.proofs.TrackMarks as M
use Rattle.device_laws.proofs.TrackMarks.{marks, is_good, track_at, device_is_faithful}
use Rattle.device_laws.proofs.TwinAsks.{InOrder, Ordered}
use Rattle.device_laws.proofs.TwinChanges.{frame_twin, has_patch_twin}
use Rattle.device_laws.proofs.TwinCopies.{copy_twin, stage_twin}
use Rattle.device_laws.proofs.TwinLooks.{queue_order}
use Rattle.device_laws.proofs.TwinOpened.{loose_good}
use Rattle.device_laws.proofs.TwinSaving.{Works, recover_twin, destage_twin}
use Rattle.device_laws.proofs.TwinWalks.{twin_done, twin_weaker}
use Rattle.device_laws.proofs.Working.{least_found, found_if, destaged_there, waits_there, queue_goes}

pub least_same : (n : ℕ) (p r : ℕ → Bool) → ((q : ℕ) → p q ≡ r q) → least n p ≡ least n r
unfolding T.least
least_same zero p r e = refl
least_same (suc n) p r e =
    ap (λ (o : Option ℕ). or_else o (if p n then Some n else None)) (least_same n p r e)
    ∙ ap (λ (b : Bool). or_else (least n r) (if b then Some n else None)) (e n)

-- the same track waits, and the same is destaged

waits_frame : (s : DeviceStore) (v w : List Track) (t : ℕ) (f : Option Frame) →
    waits_by by_plain (marks_of v w s) t (option_map frame_mark f) ≡ waits_by contents s t f
waits_frame s v w t None = has_patch_twin v w s t
waits_frame s v w t (Some f) = ap (λ (b : Bool). f.modified && not b && not (is_loose s t)) (has_patch_twin v w s t)

pub waits_same : (v w : List Track) (s : DeviceStore) (t : ℕ) → waits by_plain (marks_of v w s) t ≡ waits contents s t
unfolding O.waits
waits_same v w s t =
    ap (λ (f : Option Bool). not (is_lost s t) && waits_by by_plain (marks_of v w s) t f) (frame_twin v w s t)
    ∙ ap (λ (b : Bool). not (is_lost s t) && b) (waits_frame s v w t (frame_at s t))

pub modified_frame : (f : Option Frame) → is_modified by_plain (option_map frame_mark f) ≡ is_modified contents f
modified_frame None = refl
modified_frame (Some f) = refl

destaged_same : (v w : List Track) (s : DeviceStore) (t : ℕ) → is_destaged by_plain (marks_of v w s) t ≡ is_destaged contents s t
destaged_same v w s t =
    ap (λ (b : Bool). is_loose s t || (b && is_some (patch_at (marks_of v w s) t)))
    (ap (is_modified by_plain) (frame_twin v w s t) ∙ modified_frame (frame_at s t))
    ∙ ap (λ (b : Bool). is_loose s t || (is_modified contents (frame_at s t) && b)) (has_patch_twin v w s t)

-- what is destaged has a frame
or_parts : (x y : Bool) → (x || y) ≡ true → x ≡ false → y ≡ true
or_parts true y e f = absurd (cc)
or_parts false y e f = e

modified_some : (f : Option Frame) → is_modified contents f ≡ true → is_some f ≡ true
modified_some None e = absurd (cc)
modified_some (Some f) e = refl

some_mark : (f : Option Frame) → is_some (M.frame_mark contents f) ≡ true → is_some f ≡ true
some_mark None e = absurd (cc)
some_mark (Some f) e = refl

loose_framed : (s : DeviceStore) (t : ℕ) → is_loose s t ≡ true → is_good (track_at contents s t) ≡ true → is_some (frame_at s t) ≡ true
unfolding M.track_at
loose_framed s t loose good =
    let m = track_at contents s t in
    some_mark (frame_at s t)
    (loose_good m.frame m.patched m.lost m.half m.level (subst (λ (b : Bool). is_good (marks m.frame m.patched m.lost b m.half m.level) ≡ true) loose good)).0

destaged_framed : (s : DeviceStore) (t : ℕ) (b : Bool) → is_loose s t ≡ b → is_destaged contents s t ≡ true → is_good (track_at contents s t) ≡ true →
    is_some (frame_at s t) ≡ true
destaged_framed s t true e f good = loose_framed s t e good
destaged_framed s t false e f good = modified_some (frame_at s t) (and_left _ (is_some (patch_at s t)) (or_parts (is_loose s t) _ f e))

module _ (v w : List Track) (s : DeviceStore) (h : Held) (none : s.half ≡ None) (o : InOrder v w s h) where
  abbrev Ends : List Track → List Track → DeviceStore → Option Did → Option Did → Held → Type 0
  Ends v' w' z a b k = Works v s v' w' z a b k

  order : Ordered v w s h
  order = record { sure = o.sure; told = o.told }

  nothing : Twins Ends (Done s (Some Nothing)) (Done (marks_of v w s) (Some Nothing)) h
  nothing = twin_done (record { order = order; same = refl; plain = refl; size = (refl, refl) })

  destage_by : (t : Option ℕ) → ((q : ℕ) → t ≡ Some q → (q < tracks_of s) × (is_destaged contents s q ≡ true)) →
      Twins Ends (destage_first contents s t) (destage_first by_plain (marks_of v w s) t) h
  destage_by None found = nothing
  destage_by (Some t) found =
      let f = found t refl in
      destage_twin v w s h t (Destaged t) (destaged_framed s t (is_loose s t) refl f.1 (o.well.good t f.0)) f.0
      (sym (mark_lost s t) ∙ destaged_there contents device_is_faithful t s (is_loose s t) refl f.1 f.0 o.well) none o

  destages : Twins Ends (destage_first contents s (to_destage contents s)) (destage_first by_plain (marks_of v w s) (to_destage by_plain (marks_of v w s))) h
  destages =
      rw (← (ap (λ (l : Option ℕ). if some_up s then l else None) (least_same (tracks_of s) (is_destaged contents s) (is_destaged by_plain (marks_of v w s)) (λ q. sym (destaged_same v w s q)))))
      (destage_by (to_destage contents s) (λ q e. found_if (tracks_of s) (is_destaged contents s) (some_up s) q e))

  stage_or : (l : List ℕ) → AreBelow (tracks_of s) l →
      Twins Ends (stage_first contents s l) (stage_first by_plain (marks_of v w s) l) h
  stage_or [] below = destages
  stage_or (t ∷ ts) below =
      let z : DeviceStore = record s { queue = ts } in
      let i = queue_order v w s h ts order in
      twin_weaker (stage_twin v w z h t below.0 none (record {
        sure = i.sure;
        told = i.told;
        well =
            (queue_goes contents device_is_faithful s ts below.1 o.well).well;
      }))
      (λ v' w' y a b k f. record { order = f.order; same = f.same; plain = f.plain; size = f.size })

  copy_or : (t : Option ℕ) → ((q : ℕ) → t ≡ Some q → q < tracks_of s) →
      Twins Ends (copy_first contents s t) (copy_first by_plain (marks_of v w s) t) h
  copy_or None found = stage_or s.queue (all_queued s o.well.here)
  copy_or (Some t) found = copy_twin v w s h t (found t refl) none o

  recover_or : (t : Option ℕ) → ((q : ℕ) → t ≡ Some q → (q < tracks_of s) × (waits contents s q ≡ true)) →
      Twins Ends (recover_first contents s t) (recover_first by_plain (marks_of v w s) t) h
  recover_or None found = copy_or (to_copy s) (λ t e. (least_found (tracks_of s) (λ q. is_some (copies_to s q)) t e).0)
  recover_or (Some t) found =
      let f = found t refl in
      recover_twin v w s h t f.0 (waits_there contents device_is_faithful s t f.1) none o

  pub work_twin : Twins Ends (work contents s) (work by_plain (marks_of v w s)) h
  unfolding K.work
  work_twin =
      rw (← (ap (λ (l : Option ℕ). if some_up s then l else None) (least_same (tracks_of s) (waits contents s) (waits by_plain (marks_of v w s)) (λ q. sym (waits_same v w s q)))))
      (recover_or (to_recover contents s) (λ q e. found_if (tracks_of s) (waits contents s) (some_up s) q e))
