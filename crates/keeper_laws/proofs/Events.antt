-- The other events of a device tell a keeper of no edit, and leave a track that is calm as it is.
use Rattle.std.proofs.Common.{◌≡◌, ◌==◌, ℕ, Bool, true, false, [], Option, Some, None, is_some, refl, ap}
use Rattle.std.proofs.lemmas.Bool.{cond_both}
use Rattle.ckd_chain.specs.State.{ChainState}
use Rattle.loss_model.specs.declared.Loss.{Loss}
use Rattle.loss_model.specs.declared.Loss.TheVariants as losses
use Rattle.plain_defs.specs.History.{OpenEntry, has_used}
use Rattle.plain_defs.specs.PlainState.{reset_path}
use Rattle.track_image.specs.Image.{Image}
use Rattle.device_outside.specs.Interaction.{Interaction, Done, and_then}
use Rattle.device_defs.specs.Background.{work}
use Rattle.device_defs.specs.Contents.{by_plain}
use Rattle.device_defs.specs.Cutting as K
use Rattle.device_defs.specs.Cutting.{origin_cut, half_cut, reset_noted, counts_one_by, path_cut, reset_by, reset, half_ended, half_lost, loose_gone, powerless, powered_off, power}
use Rattle.device_defs.specs.Device.{all_reset, with_store, event_begun, event_ended, event}
use Rattle.device_defs.specs.Effects.{with_edit, gone_back, loose_lost}
use Rattle.device_defs.specs.Events as V
use Rattle.device_defs.specs.Events.{with_loss, lost_by, losing, lose, second_turn, command_ended, second_ended, second_of, second, background}
use Rattle.device_defs.specs.Image.{Imaged}
use Rattle.device_defs.specs.Losses as L
use Rattle.device_defs.specs.Losses.{settled, patch_lost, without_frame, without_patch, slot_in, stale_everywhere}
use Rattle.device_defs.specs.Marks.{MarksDevice, MarksStore}
use Rattle.device_defs.specs.Memory.{had_by}
use Rattle.device_defs.specs.Orders as O
use Rattle.device_defs.specs.Orders.{given_up, lend}
use Rattle.device_defs.specs.Owed.{noted_begin}
use Rattle.device_defs.specs.Peek as P
use Rattle.device_defs.specs.Peek.{peek_usage, peeked, peek_image, is_in_half, peek_half, peek_track, peek}
use Rattle.device_defs.specs.Second as N
use Rattle.device_defs.specs.Second.{half_closed, finished, cut_kept, second_by, second_part}
use Rattle.device_defs.specs.Store.{Origin, OfCommand, OfCut, OfBackground, HalfWrite, tracks_of, has_level, has_loose, frame_at, patch_at, is_lost, half_is, with_frame}
use Rattle.device_laws.proofs.PlainStores.{core_of}
use Rattle.device_laws.proofs.PlainWalks.{patch_same, everywhere_same, over_holds, side_holds}
use Rattle.subsystem_laws.specs.Looking.{is_written}
use Rattle.keeper_laws.proofs.Calm.{Watch, is_watched, Keeps, hardened_keeps, edited_keeps, gone_keeps, acts_keep, half_keeps, lent_keeps, half_unwatched, unwritten, unwatched}
use Rattle.keeper_laws.proofs.Commands.{OnDevice, Kept, begun_on, end_kept, turned_has}
use Rattle.keeper_laws.proofs.FirmWalk.{work_rests}
use Rattle.keeper_laws.proofs.Firms.{silent_of, says_of}
use Rattle.keeper_laws.proofs.Parts.{On, on_core, Stays, Imaging, calm, frames_on, settled_on, hear_stays, told_stays, image_has, write_second_stays, done_stays, opened_stays}
use Rattle.keeper_laws.proofs.Silent.{silent_done, silent_try, silent_firm, silent_then, silent_if}

module _ (w : Watch) where
  -- The other part of a write

  closed_on : (s : MarksStore) → On w s → On w (half_closed s)
  closed_on s k = half_keeps w (core_of s) None k (λ _. refl)

  kept_on : (s : MarksStore) (q : ℕ) (i : Image) (o : Option Bool) → On w s → On w (cut_kept by_plain s q i o)
  kept_on s q i None k = k
  kept_on s q i (Some f) k =
      let z = with_frame s q (Some f) in
      on_core w z (without_patch by_plain z q) (patch_same z q (slot_in by_plain (patch_at z q))) (frames_on w s q (Some f) k)

  finished_stays : (s : MarksStore) (q : ℕ) (i : Image) (bypass : Bool) → On w s → Stays w (finished by_plain s q i bypass)
  finished_stays s q i bypass k = silent_then (λ z _. Done z true) (done_stays w s q i bypass k) (λ z _ x. silent_done x)

  level_stays : (s : MarksStore) (q : ℕ) (i : Image) (origin : Origin) → (is_written origin ≡ true → is_watched w q ≡ false) → On w s →
      Stays w (second_by by_plain q i origin s)
  level_stays s q i (OfCommand bypass e) off k =
      silent_if (has_level s q)
      (λ _. silent_firm (finished_stays (with_edit (half_closed s) q e) q i bypass (edited_keeps w (core_of (half_closed s)) q (closed_on s k) (off refl) e)))
      (λ _. silent_done (settled_on w (half_closed s) q (closed_on s k)))
  level_stays s q i (OfCut bypass) off k =
      silent_if (has_level s q) (λ _. finished_stays (half_closed s) q i bypass (closed_on s k))
      (λ _. silent_done (settled_on w (cut_kept by_plain (half_closed s) q i (frame_at (half_closed s) q)) q
      (kept_on (half_closed s) q i (frame_at (half_closed s) q) (closed_on s k))))
  level_stays s q i OfBackground off k =
      silent_if (has_level s q) (λ _. finished_stays (half_closed s) q i false (closed_on s k)) (λ _. silent_done (settled_on w (half_closed s) q (closed_on s k)))

  part_stays : (s : MarksStore) (h : HalfWrite (Unit {0})) → s.half ≡ Some h → On w s → Stays w (second_part by_plain s h)
  unfolding N.second_part
  part_stays s h is k =
      silent_then (λ z _. second_by by_plain h.track (N.half_image_of by_plain s h) h.origin z) (write_second_stays w h.track s true k)
      (λ z _ x. level_stays z h.track (N.half_image_of by_plain s h) h.origin (λ written. half_unwatched w (core_of s) h k is written) x)

  ended_kept : (d : MarksDevice) (t : ℕ) (o : Option OpenEntry) (chain : Option ChainState) (done : Bool) → OnDevice w d →
      Kept w (command_ended by_plain d t o chain done)
  ended_kept d t (Some o) (Some chain) done k = silent_done (turned_has w d o.path (second_turn by_plain chain done) k)
  ended_kept d t (Some o) None done k = silent_done k
  ended_kept d t None chain done k = silent_done k

  second_end : (d : MarksDevice) (t : ℕ) (origin : Origin) (done : Bool) → OnDevice w d → Kept w (second_ended by_plain d t origin done)
  second_end d t (OfCommand bypass e) done k = ended_kept d t d.history.running d.chain done k
  second_end d t (OfCut bypass) done k = silent_done k
  second_end d t OfBackground done k = silent_done k

  by_half : (d : MarksDevice) (o : Option (HalfWrite (Unit {0}))) → d.store.half ≡ o → OnDevice w d → Kept w (second_of by_plain d o)
  by_half d (Some h) is k =
      silent_then (λ s done. second_ended by_plain (with_store d s) h.track h.origin done) (part_stays d.store h is k)
      (λ z done x. second_end (with_store d z) h.track h.origin done x)
  by_half d None is k = silent_done k

  -- an event with notes
  noted_kept : {X : Type 0} (d : MarksDevice) (body : MarksDevice → Interaction Bool Image MarksDevice X) → OnDevice w d →
      ((s : MarksStore) → On w s → Kept w (body (record (event_begun d) { store = s }))) → Kept w (event by_plain d body)
  noted_kept d body k does =
      silent_then (event_ended by_plain d)
      (silent_then (λ s _. body (record (event_begun d) { store = s })) (hear_stays w 960 (noted_begin d.store) (begun_on w d.store k)) (λ s _ x. does s x))
      (λ e a x. end_kept w d e a x)

  pub second_kept : (d : MarksDevice) → OnDevice w d → Kept w (second by_plain d)
  unfolding V.second
  second_kept d k =
      noted_kept d (λ z. second_of by_plain z z.store.half) k (λ s x. by_half (record (event_begun d) { store = s }) s.half refl x)

  -- Work in the background

  work_stays : (s : MarksStore) → On w s → Stays w (work by_plain s)
  work_stays s k =
      silent_of (work_rests (calm w) (λ u z. On w z) (λ o u z x. x)
      (λ q i u z was x. says_of (opened_stays w z q i OfBackground was x (λ _. unwritten w q OfBackground refl)) u) {v = tt} s k)

  pub background_kept : (d : MarksDevice) → OnDevice w d → Kept w (background by_plain d)
  unfolding V.background
  background_kept d k =
      noted_kept d (λ z. and_then (work by_plain z.store) (λ s did. Done (with_store z s) did)) k
      (λ s x. silent_then (λ y did. Done (with_store (event_begun d) y) did) (work_stays s x) (λ y a v. silent_done v))

  -- Losses

  loose_on : (s : MarksStore) → On w s → On w (loose_lost s)
  loose_on s k = cond_both (has_loose s) _ s (On w) (λ _. acts_keep w (core_of (gone_back s)) _ (gone_keeps w (core_of s) k)) (λ _. k)

  unframed_on : (q : ℕ) (s : MarksStore) → On w s → On w (without_frame s q)
  unframed_on q s k = cond_both (is_some (frame_at s q)) _ s (On w) (λ _. frames_on w s q None k) (λ _. k)

  unframed_settles : (q : ℕ) (s : MarksStore) → On w s → On w (settled by_plain (without_frame s q) q)
  unframed_settles q s k = settled_on w (without_frame s q) q (unframed_on q s k)

  unpatched_on : (q : ℕ) (s : MarksStore) → On w s → On w (without_patch by_plain s q)
  unpatched_on q s k = on_core w s (without_patch by_plain s q) (patch_same s q (slot_in by_plain (patch_at s q))) k

  patch_on : (q : ℕ) (s : MarksStore) → On w s → On w (patch_lost by_plain q s)
  patch_on q s k =
      let z = without_patch by_plain s q in
      cond_both (is_some (patch_at s q)) _ s (On w)
      (λ _. cond_both (half_is s.half q) z (settled by_plain (stale_everywhere z q) q) (On w) (λ _. unpatched_on q s k)
      (λ _. settled_on w (stale_everywhere z q) q (on_core w z (stale_everywhere z q) (everywhere_same z q) (unpatched_on q s k))))
      (λ _. k)

  over_on : (n : ℕ) (f : ℕ → MarksStore → MarksStore) → ((q : ℕ) (z : MarksStore) → On w z → On w (f q z)) → (s : MarksStore) → On w s →
      On w (L.over n f s)
  over_on n f h s k = over_holds (Keeps w) (hardened_keeps w) n f h s k

  lost_on : (s : MarksStore) (loss : Loss) → On w s → On w (lost_by by_plain s loss)
  unfolding L.cache_lost L.store_lost
  lost_on s losses.Cache k =
      over_on (tracks_of s) (λ q z. settled by_plain (without_frame z q) q) unframed_settles (record (loose_lost s) { queue = [] }) (loose_on s k)
  lost_on s losses.Store k = over_on (tracks_of s) (patch_lost by_plain) patch_on s k
  lost_on s (losses.Side side) k = side_holds (Keeps w) (hardened_keeps w) s side None k

  losing_stays : (s : MarksStore) (loss : Loss) → On w s → Stays w (losing by_plain s loss)
  losing_stays s loss k = told_stays w (tracks_of s) (lost_by by_plain (with_loss s loss) loss) (lost_on (with_loss s loss) loss k)

  pub lose_kept : (d : MarksDevice) (loss : Loss) → OnDevice w d → Kept w (lose by_plain d loss)
  unfolding V.lose
  lose_kept d loss k =
      noted_kept d (λ z. and_then (losing by_plain z.store loss) (λ s _. Done (with_store z s) tt)) k
      (λ s x. silent_then (λ y _. Done (with_store (event_begun d) y) tt) (losing_stays s loss x) (λ y _ v. silent_done v))

  -- A cut

  origin_stays : (s : MarksStore) (h : HalfWrite (Unit {0})) (origin : Origin) → s.half ≡ Some h → h.origin ≡ origin → On w s →
      Stays w (origin_cut by_plain s h origin)
  origin_stays s h (OfCommand bypass e) is of k =
      let off = half_unwatched w (core_of s) h k is (ap is_written of) in
      silent_firm (silent_done (half_keeps w (core_of (with_edit s h.track e)) (Some (record h { origin = OfCut bypass }))
      (edited_keeps w (core_of s) h.track k off e) (λ here. unwatched w h.track (OfCut bypass) off here)))
  origin_stays s h (OfCut bypass) is of k = silent_done k
  origin_stays s h OfBackground is of k = silent_done k

  half_stays : (s : MarksStore) (o : Option (HalfWrite (Unit {0}))) → s.half ≡ o → On w s → Stays w (half_cut by_plain s o)
  half_stays s (Some h) is k = origin_stays s h h.origin is refl k
  half_stays s None is k = silent_done k

  cut_by : (d : MarksDevice) (path : ℕ) → OnDevice w d → Kept w (path_cut by_plain d path)
  cut_by d path k =
      silent_then
      (λ s _. Done (record (reset_noted by_plain d path (counts_one_by d.store.half)) {
        store = s;
        chain = None;
        paths = all_reset (reset_path d.paths path) d.history.waiting;
      }) tt)
      (half_stays d.store d.store.half refl k) (λ s _ x. silent_done x)

  by_running : (d : MarksDevice) (path : ℕ) (o : Option OpenEntry) → OnDevice w d → Kept w (reset_by by_plain d path o)
  by_running d path (Some o) k = silent_if (o.path == path) (λ _. cut_by d path k) (λ _. silent_done k)
  by_running d path None k = silent_if (has_used d.history path) (λ _. silent_done k) (λ _. silent_done k)

  pub reset_kept : (d : MarksDevice) (path : ℕ) → OnDevice w d → Kept w (reset by_plain d path)
  unfolding K.reset
  reset_kept d path k = by_running d path d.history.running k

  -- A loss of power

  half_ended_on : (s : MarksStore) (h : HalfWrite (Unit {0})) (origin : Origin) → On w s → On w (half_ended by_plain s h origin)
  half_ended_on s h (OfCommand bypass e) k = unpatched_on h.track (record s { half = None }) (closed_on s k)
  half_ended_on s h (OfCut bypass) k = unpatched_on h.track (record s { half = None }) (closed_on s k)
  half_ended_on s h OfBackground k = closed_on s k

  half_lost_on : (s : MarksStore) (o : Option (HalfWrite (Unit {0}))) → On w s → On w (half_lost by_plain s o)
  half_lost_on s (Some h) k = half_ended_on s h h.origin k
  half_lost_on s None k = k

  loose_gone_on : (s : MarksStore) → On w s → On w (loose_gone by_plain s)
  loose_gone_on s k = cond_both (has_loose s) (gone_back s) s (On w) (λ _. gone_keeps w (core_of s) k) (λ _. k)

  powerless_on : (s : MarksStore) → On w s → On w (powerless by_plain s)
  powerless_on s k =
      over_on (tracks_of s) (λ q z. settled by_plain (without_frame z q) q) unframed_settles
      (record (half_lost by_plain (loose_gone by_plain s) s.half) { queue = [] }) (half_lost_on (loose_gone by_plain s) s.half (loose_gone_on s k))

  pub power_kept : (d : MarksDevice) → OnDevice w d → Kept w (power by_plain d)
  unfolding K.power
  power_kept d k =
      silent_then (event_ended by_plain d)
      (silent_then (λ s _. Done (powered_off by_plain (event_begun d) s) tt) (half_stays (noted_begin d.store) d.store.half refl (begun_on w d.store k))
      (λ s _ x. silent_done (powerless_on (with_loss s losses.Cache) x)))
      (λ e a x. end_kept w d e a x)

  -- A volume that is lent

  given_on : (q : ℕ) (s : MarksStore) → On w s → On w (given_up by_plain q s)
  given_on q s k = unpatched_on q (without_frame s q) (unframed_on q s k)

  pub lend_kept : (d : MarksDevice) (to : ℕ) → OnDevice w d → Kept w (lend by_plain d to)
  unfolding O.lend
  lend_kept d to k =
      let s = L.over (tracks_of d.store) (given_up by_plain) (noted_begin d.store) in
      silent_then (event_ended by_plain d)
      (silent_done (lent_keeps w (core_of s) (Some to) (over_on (tracks_of d.store) (given_up by_plain) given_on (noted_begin d.store) (begun_on w d.store k))))
      (λ e a x. end_kept w d e a x)

  -- A look

  found_stays : (s : MarksStore) (q : ℕ) (o : Option Imaged) → Imaging w q s o → Stays w (had_by (λ z i. Done z (Some (peeked i))) s o)
  found_stays s q None x = silent_done x.on
  found_stays s q (Some i) x = silent_done x.on

  peeked_stays : (s : MarksStore) (q : ℕ) → On w s → Stays w (peek_image by_plain s q)
  peeked_stays s q k =
      silent_then (had_by (λ z i. Done z (Some (peeked i)))) (image_has w q s peek_usage k) (λ z o x. found_stays z q o x)

  in_half_stays : (s : MarksStore) (q : ℕ) (o : Option (HalfWrite (Unit {0}))) → On w s → Stays w (peek_half by_plain s q o)
  in_half_stays s q None k = peeked_stays s q k
  in_half_stays s q (Some h) k = silent_if (is_in_half by_plain s q h) (λ _. silent_try (silent_done k)) (λ _. peeked_stays s q k)

  track_stays : (s : MarksStore) (q : ℕ) → On w s → Stays w (peek_track by_plain s q)
  track_stays s q k = silent_if (is_lost s q) (λ _. silent_done k) (λ _. in_half_stays s q s.half k)

  pub peek_kept : (d : MarksDevice) (q : ℕ) → OnDevice w d → Kept w (peek by_plain d q)
  unfolding P.peek
  peek_kept d q k =
      silent_then (event_ended by_plain d)
      (silent_then (λ s found. Done (with_store (event_begun d) s) found) (track_stays (noted_begin d.store) q (begun_on w d.store k)) (λ s found x. silent_done x))
      (λ e a x. end_kept w d e a x)
