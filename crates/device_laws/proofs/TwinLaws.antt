-- The laws of a device that tells what it holds: its parts leave it in order, and do on marks what they do on contents.
use Rattle.std.proofs.Common.{◌≡◌, ◌<◌, ◌==◌, ℕ, Bool, true, false, List, Option, Some, None, refl, ap, subst, ◌∙◌, arith}
use Rattle.std.specs.Prelude.{IfSome}
use Rattle.ckd_chain.specs.State.{ChainState}
use Rattle.ckd_types.specs.declared.geometry.Geometry.{Geometry}
use Rattle.ckd_types.specs.declared.paths.Side.{Side}
use Rattle.ckd_types.specs.declared.record.Edit.{Edit}
use Rattle.ckd_types.specs.declared.record.Track.{Track}
use Rattle.ckd_types.specs.Volume.{track_in}
use Rattle.track_image.specs.Image.{Image}
use Rattle.device_defs.specs.declared.usage.Usage.{Usage}
use Rattle.device_defs.specs.Background.{work}
use Rattle.device_defs.specs.Command.{follow}
use Rattle.device_defs.specs.Contents.{contents, by_plain}
use Rattle.device_defs.specs.Cutting.{half_cut}
use Rattle.device_defs.specs.Editing.{write}
use Rattle.device_defs.specs.Events.{losing}
use Rattle.device_defs.specs.Image.{image}
use Rattle.device_defs.specs.Losses.{call_failed}
use Rattle.device_defs.specs.Marks.{marks_of, half_mark}
use Rattle.device_defs.specs.Owed.{hear, noted_end}
use Rattle.device_defs.specs.Second.{second_part}
use Rattle.device_defs.specs.Sound.{DeviceStore}
use Rattle.device_defs.specs.Store.{HalfWrite, tracks_of, patch_at, is_lost, half_is}
use Rattle.device_laws.specs.Agrees.{Held, image_in, PatchFits}
use Rattle.device_laws.specs.Feeding.{Feeds, FollowIs}
use Rattle.device_laws.specs.InOrder.{IsOpen, IsInOrder, StaysInOrder, ImageIs, WriteIs, SecondIs, plain_lost, plain_cut}
use Rattle.device_laws.specs.PlainWrites.{SuitsTrack, OriginSuits}
use Rattle.device_laws.specs.Twin.{Twins}
use Rattle.device_laws.proofs.TwinThrough.{mark_lost}
use Rattle.device_laws.proofs.Changes as C
use Rattle.device_laws.proofs.ContentChanges.{Sure, agrees_sure, sure_agrees}
use Rattle.device_laws.proofs.FailedCall.{IsWell, same_is_well, failed_call_keeps_good}
use Rattle.loss_model.specs.declared.Loss.TheVariants as losses
use Rattle.device_laws.proofs.LossEvents.{losing_goes}
use Rattle.device_laws.proofs.Notices.{hearing_keeps_good, ending_changes_no_mark}
use Rattle.device_laws.proofs.SecondPart.{second_part_keeps_good}
use Rattle.device_laws.proofs.Soundness.{good_is_sound, good_is_nowhere, sound_is_good}
use Rattle.device_laws.proofs.Sweeps.{is_free, is_alone, is_whole, half_within, all_queued}
use Rattle.device_laws.proofs.Through.{write_keeps_good}
use Rattle.device_laws.proofs.TrackContents as T
use Rattle.device_laws.proofs.TrackContents.{contents_at, Writes, HeldBy, held_of, writes_own}
use Rattle.device_laws.proofs.TrackMarks as M
use Rattle.device_laws.proofs.TrackMarks.{track_at, device_is_faithful}
use Rattle.device_laws.proofs.TwinAsks.{InOrder, Ordered, keeps_at, lost_is, beside_order}
use Rattle.device_laws.proofs.TwinCuts.{cut_by}
use Rattle.device_laws.proofs.TwinEvents.{hear_twin, ended_twin}
use Rattle.device_laws.proofs.TwinFailed.{failed_twin}
use Rattle.device_laws.proofs.TwinFollow.{follow_order}
use Rattle.device_laws.proofs.TwinLooks.{image_twin}
use Rattle.device_laws.proofs.TwinCacheLost.{cache_loss_twin}
use Rattle.device_laws.proofs.TwinLosses.{store_loss_twin, side_loss_twin}
use Rattle.device_laws.proofs.TwinSecond.{second_part_twin}
use Rattle.device_laws.proofs.TwinWalks.{twin_always, twin_weaker}
use Rattle.device_laws.proofs.TwinWrite.{write_twin}
use Rattle.device_laws.proofs.TwinWork.{work_twin}
use Rattle.device_laws.proofs.WholeEvents.{cutting_keeps_good}
use Rattle.device_laws.proofs.WholeImage.{image_keeps_good}
use Rattle.device_laws.proofs.Working.{work_keeps_good}

kept_by : (s : DeviceStore) (q : ℕ) (o : Option (HalfWrite Image)) → ((i : HalfWrite Image) → o ≡ Some i → is_lost s i.track ≡ false) →
    half_is o q ≡ true → is_lost s q ≡ false
kept_by s q None kept e = absurd (cc)
kept_by s q (Some i) kept e = let same : i.track ≡ q = grind arith in subst (λ (t : ℕ). is_lost s t ≡ false) same (kept i refl)

module _ (v w : List Track) (s : DeviceStore) (h : Held) where
  well : IsInOrder v w s h → IsWell contents s
  unfolding M.track_at C.rest_of
  well i = record {
    sizes = i.agrees.ground.sizes;
    here = record { free = i.free; alone = i.alone; whole = i.whole; within = i.within; queued = i.queued };
    good = λ q lt. sound_is_good contents s q (i.marks q lt) (i.nowhere q lt);
    kept = λ q lt e. kept_by s q s.half i.there e;
  }

  pub in_order : IsInOrder v w s h → InOrder v w s h
  unfolding T.contents_at
  in_order i = record { sure = agrees_sure v w s h i.agrees i.patched i.opened; told = i.told; well = well i }

  kept_is : (i : HalfWrite Image) → s.half ≡ Some i → IsWell contents s → is_lost s i.track ≡ false
  unfolding M.track_at
  kept_is i e w =
      let own : half_is s.half i.track ≡ true =
      ap (λ (o : Option (HalfWrite Image)). half_is o i.track) e ∙ (let same : (i.track == i.track) ≡ true = grind arith in same) in
      w.kept i.track (half_within s w.here i e) own

  patched_there : (q : ℕ) → patch_at s q ≡ (contents_at s h q).patch
  unfolding T.contents_at
  patched_there q = refl

  lost_there_is : (q : ℕ) → (contents_at s h q).lost ≡ is_lost s q
  unfolding T.contents_at
  lost_there_is q = refl

  patched_at : Sure v w s h → (q : ℕ) → q < tracks_of s → is_lost s q ≡ false → half_is s.half q ≡ false →
      PatchFits (patch_at s q) (image_in s v q) (image_in s w q)
  patched_at sure q lt there off = rw (patched_there q) (keeps_at v w s h q sure lt there off).patch

  opened_there : Sure v w s h → IsWell contents s → (i : HalfWrite Image) → s.half ≡ Some i → IsOpen v s i
  opened_there sure w' i e =
      let t = i.track in
      let own : (i.track == i.track) ≡ true = grind arith in
      let right = sure.right t (half_within s w'.here i e) (λ f. absurd (cc)) in
      let k : Writes (contents_at s h t) (image_in s v t) i =
      writes_own s.geometry t i (contents_at s h t) (image_in s v t) (image_in s w t) own
      (subst (λ (half : Option (HalfWrite Image)). HeldBy s.geometry t (contents_at s h t) (image_in s v t) (image_in s w t) half) e
      (held_of s.geometry t s.half (contents_at s h t) (image_in s v t) (image_in s w t) (lost_there_is t ∙ kept_is i e w') right)) in
      record {
        suits = k.suits;
        patch = rw (patched_there t) k.patch;
      }

  pub is_in_order : Ordered v w s h → IsWell contents s → IsInOrder v w s h
  unfolding T.contents_at
  is_in_order o w' = record {
    agrees = sure_agrees v w s h o.sure;
    told = o.told;
    free = is_free s w'.here;
    alone = is_alone s w'.here;
    whole = is_whole s w'.here;
    marks = λ t lt. good_is_sound contents s t (w'.good t lt);
    nowhere = λ t lt lost. good_is_nowhere contents s t (w'.good t lt) lost;
    within = half_within s w'.here;
    queued = all_queued s w'.here;
    there = λ i e. kept_is i e w';
    patched = patched_at o.sure;
    opened = opened_there o.sure w';
  }

-- a failed call that isn't a write's
pub failed_call_leaves_order : (v w : List Track) (s : DeviceStore) (h : Held) (side : Side) → IsInOrder v w s h →
    Twins (λ v' w' z a b k. StaysInOrder v v' w' z a b k) (call_failed contents s side None) (call_failed by_plain (marks_of v w s) side None) h
failed_call_leaves_order v w s h side i =
    let o = in_order v w s h i in
    twin_weaker (twin_always (failed_twin None h v w s side o.sure o.told) (failed_call_keeps_good contents device_is_faithful s side o.well))
    (λ v' w' z a b k f. record {
      order = is_in_order v' w' z k (record { sure = f.0.but; told = f.0.told }) f.1.well;
      plain = f.0.plain;
      same = refl;
    })

pub image_is_plain : (v w : List Track) (s : DeviceStore) (h : Held) (u : Usage) (t : ℕ) → IsInOrder v w s h →
    IfSome u.last (λ l. l < tracks_of s) → t < tracks_of s → is_lost s t ≡ false →
    half_is s.half t ≡ false → Twins (λ v' w' z a b k. ImageIs v s t v' w' z a b k) (image contents s u t) (image by_plain (marks_of v w s) u t) h
image_is_plain v w s h u t i reach lt there off =
    let o = in_order v w s h i in
    twin_weaker (twin_always (image_twin v w s h u t lt there off o) (image_keeps_good contents device_is_faithful s u t reach lt o.well))
    (λ v' w' z a b k f. record {
      left = record { order = is_in_order v' w' z k f.0.order f.1.goes.well; plain = f.0.plain; same = f.0.same };
      image = f.0.image;
      good = f.0.bad;
    })

pub write_is_plain : (v w : List Track) (s : DeviceStore) (h : Held) (u : Usage) (first t : ℕ) (e : Edit) → IsInOrder v w s h → t < tracks_of s →
    is_lost s t ≡ false → s.half ≡ None → SuitsTrack s.geometry (track_in v t) e →
    Twins (λ v' w' z a b k. WriteIs v t e v' w' z a b k) (write contents s u first t (image_in s v t) e)
    (write by_plain (marks_of v w s) u first t (image_in s v t) e) h
write_is_plain v w s h u first t e i lt there none suits =
    let o = in_order v w s h i in
    twin_weaker
    (twin_always (write_twin v w s t e u first lt there none suits o.well h (record { sure = o.sure; told = o.told }))
    (write_keeps_good contents device_is_faithful u first t s lt o.well none (mark_lost s t ∙ there) (image_in s v t) e))
    (λ v' w' z a b k f. record { order = is_in_order v' w' z k f.0.order f.1.well; plain = f.0.plain; same = f.0.same })

pub second_part_is_plain : (v w : List Track) (s : DeviceStore) (h : Held) (i : HalfWrite Image) → IsInOrder v w s h → s.half ≡ Some i →
    OriginSuits s.geometry (track_in v i.track) i.origin →
    Twins (λ v' w' z a b k. SecondIs v i.track i.origin v' w' z a b k) (second_part contents s i) (second_part by_plain (marks_of v w s) (half_mark i)) h
second_part_is_plain v w s h i order is suits =
    let o = in_order v w s h order in
    let lt = order.within i is in
    twin_weaker
    (twin_always (second_part_twin v w s h i is lt (lost_is s h i.track
    ∙ order.there i is) o suits) (second_part_keeps_good contents device_is_faithful s i lt o.well is))
    (λ v' w' z a b k f. record { order = is_in_order v' w' z k f.0.order f.1.well; plain = f.0.plain; same = f.0.same })

-- while no half write is open
pub work_is_plain : (v w : List Track) (s : DeviceStore) (h : Held) → IsInOrder v w s h → s.half ≡ None →
    Twins (λ v' w' z a b k. StaysInOrder v v' w' z a b k) (work contents s) (work by_plain (marks_of v w s)) h
work_is_plain v w s h i none =
    let o = in_order v w s h i in
    twin_weaker (twin_always (work_twin v w s h none o) (work_keeps_good contents device_is_faithful s o.well none))
    (λ v' w' z a b k f. record { order = is_in_order v' w' z k f.0.order f.1.well; plain = f.0.plain; same = f.0.same })

pub lost_store_leaves_order : (v w : List Track) (s : DeviceStore) (h : Held) → IsInOrder v w s h →
    Twins (λ v' w' z a b k. StaysInOrder v v' w' z a b k) (losing contents s losses.Store) (losing by_plain (marks_of v w s) losses.Store) h
lost_store_leaves_order v w s h i =
    let o = in_order v w s h i in
    twin_weaker (twin_always (store_loss_twin v w s h o) (losing_goes contents device_is_faithful s losses.Store o.well))
    (λ v' w' z a b k f. record { order = is_in_order v' w' z k f.0.order f.1.well; plain = f.0.plain; same = refl })

-- with data of cache fast write they go, and the plain volume is the firm one
pub lost_cache_leaves_order : (v w : List Track) (s : DeviceStore) (h : Held) → IsInOrder v w s h →
    Twins (λ v' w' z a b k. StaysInOrder (plain_lost s v w) v' w' z a b k) (losing contents s losses.Cache)
    (losing by_plain (marks_of v w s) losses.Cache) h
lost_cache_leaves_order v w s h i =
    let o = in_order v w s h i in
    twin_weaker (twin_always (cache_loss_twin v w s h o) (losing_goes contents device_is_faithful s losses.Cache o.well))
    (λ v' w' z a b k f. record { order = is_in_order v' w' z k f.0.order f.1.well; plain = f.0.plain; same = refl })

pub lost_side_leaves_order : (v w : List Track) (s : DeviceStore) (h : Held) (side : Side) → IsInOrder v w s h →
    Twins (λ v' w' z a b k. StaysInOrder v v' w' z a b k) (losing contents s (losses.Side side)) (losing by_plain (marks_of v w s) (losses.Side side)) h
lost_side_leaves_order v w s h side i =
    let o = in_order v w s h i in
    twin_weaker (twin_always (side_loss_twin v w s h side o) (losing_goes contents device_is_faithful s (losses.Side side) o.well))
    (λ v' w' z a b k f. record { order = is_in_order v' w' z k f.0.order f.1.well; plain = f.0.plain; same = refl })

-- a command goes from track to track, while no half write is open
pub command_goes_as_fed : (tracks : ℕ) (g : Geometry) (looks : ChainState → ℕ →
    Bool) (v w : List Track) (s : DeviceStore) (h : Held) (n first t : ℕ) (chain : ChainState) →
    Feeds tracks g (λ c q. looks c q ≡ true) → looks chain t ≡ true → tracks_of s ≡ tracks → s.geometry ≡ g → s.half ≡ None → IsInOrder v w s h →
    Twins (λ v' w' z a b k. FollowIs v n chain v' w' z a b k) (follow contents n first chain t s) (follow by_plain n first chain t (marks_of v w s)) h
command_goes_as_fed tracks g looks v w s h n first t chain feeds at same on none i =
    twin_weaker (follow_order tracks g (λ c q. looks c q ≡ true) feeds v n first chain t s w h at same on none (in_order v w s h i))
    (λ v' w' z a b k f. record { order = is_in_order v' w' z k f.0.order f.1; same = f.0.same; came = f.0.came })

-- side B is held, or not any more
module _ (v w : List Track) (s : DeviceStore) (h : Held) (b : Bool) where
  held_order : Ordered v w s h → Ordered v w (record s { held = b }) h
  held_order o = beside_order o

  held_well : IsWell contents s → IsWell contents (record s { held = b })
  unfolding M.track_at C.rest_of
  held_well y = record {
    sizes = record { are = y.sizes.are };
    here = record { free = y.here.free; alone = y.here.alone; whole = y.here.whole; within = y.here.within; queued = y.here.queued };
    good = y.good;
    kept = y.kept;
  }

  pub held_side_leaves_order : IsInOrder v w s h → IsInOrder v w (record s { held = b }) h
  held_side_leaves_order i =
      let o = in_order v w s h i in
      is_in_order v w (record s { held = b }) h (held_order (record { sure = o.sure; told = o.told })) (held_well o.well)

-- what cuts a running program
pub cut_leaves_order : (v w : List Track) (s : DeviceStore) (h : Held) → IsInOrder v w s h →
    ((i : HalfWrite Image) → s.half ≡ Some i → OriginSuits s.geometry (track_in v i.track) i.origin) →
    Twins (λ v' w' z a b k. StaysInOrder (plain_cut s.half v) v' w' z a b k) (half_cut contents s s.half)
    (half_cut by_plain (marks_of v w s) (marks_of v w s).half) h
cut_leaves_order v w s h i suits =
    let o = in_order v w s h i in
    twin_weaker
    (twin_always (cut_by v w s h o s.half refl i.within (λ hw is. lost_is s h hw.track ∙ i.there hw is) suits)
    (cutting_keeps_good contents device_is_faithful s o.well))
    (λ v' w' z a b k f. record { order = is_in_order v' w' z k f.0.order f.1.well; plain = f.0.plain; same = refl })

-- the notices that an event takes first
pub notices_leave_order : (n : ℕ) (v w : List Track) (s : DeviceStore) (h : Held) → IsInOrder v w s h →
    Twins (λ v' w' z a b k. StaysInOrder v v' w' z a b k) (hear contents n s) (hear by_plain n (marks_of v w s)) h
notices_leave_order n v w s h i =
    let o = in_order v w s h i in
    twin_weaker (twin_always (hear_twin n v w s h o) (hearing_keeps_good contents n s o.well))
    (λ v' w' z a b k f. record { order = is_in_order v' w' z k f.0.order f.1.well; plain = f.0.plain; same = refl })

-- what it tells at its end
pub end_leaves_order : (before : ℕ) (v w : List Track) (s : DeviceStore) (h : Held) → IsInOrder v w s h →
    Twins (λ v' w' z a b k. StaysInOrder v v' w' z a b k) (noted_end contents before s) (noted_end by_plain before (marks_of v w s)) h
end_leaves_order before v w s h i =
    let o = in_order v w s h i in
    twin_weaker
    (twin_always (ended_twin before v w s h (record { sure = o.sure; told = o.told })) (ending_changes_no_mark contents before s o.well.sizes))
    (λ v' w' z a b k f. record { order = is_in_order v' w' z k f.0.order (same_is_well contents s z o.well f.1); plain = f.0.plain; same = refl })
