-- Losses, cuts, looks and the lending of a volume keep the firm volume as it was told.
use Rattle.std.proofs.Common.{◌≡◌, ◌<◌, ◌≤◌, ◌==◌, ℕ, zero, suc, Bool, false, List, Option, Some, None, is_some, length, replicate, [], set, get_or, refl, sym, ap, arith, inl, inr, ◌∙◌}
use Rattle.std.specs.Prelude.{◌⊎◌}
use Rattle.std.proofs.lemmas.Bool.{cond_both, cases_lt}
use Rattle.std.proofs.lemmas.List.{length-set, get_or_past, get_or-set_same}
use Rattle.ckd_types.specs.declared.record.Track.{Track}
use Rattle.ckd_types.specs.Edit.{apply_edit}
use Rattle.ckd_types.specs.Volume.{track_in}
use Rattle.loss_model.specs.declared.Loss.{Loss}
use Rattle.loss_model.specs.declared.Loss.TheVariants as losses
use Rattle.plain_defs.specs.History.{OpenEntry, has_used}
use Rattle.plain_defs.specs.PlainState.{reset_path}
use Rattle.device_outside.specs.Interaction.{Done, and_then}
use Rattle.device_defs.specs.Contents.{by_plain}
use Rattle.device_defs.specs.Cutting as K
use Rattle.device_defs.specs.Cutting.{origin_cut, half_cut, reset_noted, counts_one_by, path_cut, reset_by, reset, half_ended, half_lost, loose_gone, powerless, powered_off, power}
use Rattle.device_defs.specs.Device.{all_reset, with_store, event_begun, event_ended}
use Rattle.device_defs.specs.Effects.{gone_back, loose_lost}
use Rattle.device_defs.specs.Events as V
use Rattle.device_defs.specs.Events.{with_loss, lost_by, losing, lose}
use Rattle.device_defs.specs.Image.{Imaged}
use Rattle.device_defs.specs.Losses as L
use Rattle.device_defs.specs.Losses.{settled, all_firm_told, patch_lost, without_frame, without_patch, stale_everywhere}
use Rattle.device_defs.specs.Marks.{MarksDevice, MarksStore}
use Rattle.device_defs.specs.Memory.{had_by}
use Rattle.device_defs.specs.Owed.{noted_begin}
use Rattle.device_defs.specs.Peek as P
use Rattle.device_defs.specs.Peek.{peek_usage, peeked, peek_image, is_in_half, peek_half, peek_track, peek}
use Rattle.device_defs.specs.Store.{Origin, OfCommand, OfCut, OfBackground, HalfWrite, tracks_of, has_loose, frame_at, patch_at, is_lost, half_is}
use Rattle.device_laws.proofs.PlainEvents.{none_loose}
use Rattle.keeper_laws.proofs.FirmCommands.{Keeps, end_keeps}
use Rattle.keeper_laws.proofs.FirmEvents.{half_image, noted_keeps}
use Rattle.keeper_laws.proofs.FirmParts.{at_none, Imaging, all_told_goes, said}
use Rattle.keeper_laws.proofs.FirmStores.{NotLoose, half_track, On, on_like, calm_settled, Owes, owes_none, owes_like, owes_settled, owes_over, owes_side, like_everywhere, like_unframed, like_unpatched}
use Rattle.keeper_laws.proofs.FirmWalk.{image_has}
use Rattle.keeper_laws.proofs.FirmWrites.{Rest, rest_from, rest_at, Rests}
use Rattle.keeper_laws.proofs.Firms.{firms_done, firms_try, firms_told, firms_then, firms_weaker, firms_if}

none_firm : (o : Option ℕ) (n : ℕ) → NotLoose o (replicate n false)
none_firm None n = tt
none_firm (Some t) n = none_loose n t

no_frame : (s : MarksStore) (q : ℕ) → frame_at (without_frame s q) q ≡ None
no_frame s q =
    cond_both (is_some (frame_at s q)) _ s (λ (z : MarksStore). frame_at z q ≡ None) (λ _. put_none s.frames q) (λ off. none_of (frame_at s q) off)
  where
    none_of : (f : Option Bool) → is_some f ≡ false → f ≡ None
    none_of None e = refl
    none_of (Some f) e = absurd (cc)

    put_none : (l : List (Option Bool)) (t : ℕ) → get_or (set l t None) t None ≡ None
    put_none l t = by_place (cases_lt t (length l)) where
      by_place : (t < length l) ⊎ (length l ≤ t) → get_or (set l t None) t None ≡ None
      by_place (inl lt) = get_or-set_same l t None None lt
      by_place (inr le) = let a = length-set l t None in get_or_past (set l t None) t None (omega (arith, a, le))

module _ (k : ℕ) (p : Type 0) where
  -- A loss

  module _ (h : Option (HalfWrite (Unit {0}))) (o : Option ℕ) (b : List Track) where
    gone_on : {v : List Track} (s : MarksStore) → On k p h o b v s → On k p h o (gone_back s).plain v (gone_back s)
    gone_on s x = (x.0, λ here. let i = x.1 here in (i.0, i.1, i.2, none_firm o (tracks_of s), i.4, refl))

    -- the loss of the cache
    cache_owes : (v : List Track) (s : MarksStore) → On k p h o b v s →
        Owes k p h o (loose_lost s).plain (tracks_of s) v (record (loose_lost s) { queue = [] })
    cache_owes v s x =
        cond_both (has_loose s) _ s (λ (z : MarksStore). Owes k p h o z.plain (tracks_of s) v (record z { queue = [] }))
        (λ _. owes_none k p h o (gone_back s).plain (tracks_of s) v (gone_back s) refl (gone_on s x))
        (λ _. owes_none k p h o s.plain (tracks_of s) v s refl (x.0, λ here. let i = x.1 here in (i.0, i.1, i.2, i.3, i.4, refl)))

  module _ (h : Option (HalfWrite (Unit {0}))) (o : Option ℕ) (b : List Track) (m : ℕ) where
    unframed_owes : (v : List Track) (q : ℕ) (z : MarksStore) → q < m → Owes k p h o b m v z → Owes k p h o b m v (settled by_plain (without_frame z q) q)
    unframed_owes v q z lt x = owes_settled k p h o b m v (without_frame z q) q lt (owes_like k p h o b m v z (without_frame z q) (like_unframed z q) x)

    patch_owes : (v : List Track) (q : ℕ) (z : MarksStore) → q < m → Owes k p h o b m v z → Owes k p h o b m v (patch_lost by_plain q z)
    patch_owes v q z lt x =
        let y = without_patch by_plain z q in
        let on : Owes k p h o b m v y = owes_like k p h o b m v z y (like_unpatched z q) x in
        cond_both (is_some (patch_at z q)) _ z (Owes k p h o b m v)
        (λ _. cond_both (half_is z.half q) y (settled by_plain (stale_everywhere y q) q) (Owes k p h o b m v) (λ _. on)
        (λ _. owes_settled k p h o b m v (stale_everywhere y q) q lt (owes_like k p h o b m v y (stale_everywhere y q) (like_everywhere y q) on)))
        (λ _. x)

  -- then the keeper is told
  rests_all : (v : List Track) (h : Option (HalfWrite (Unit {0}))) (b : List Track) (m : ℕ) (s : MarksStore) → Owes k p h (half_track h) b m v s →
      Rests k p v (all_firm_told by_plain m s)
  rests_all v h b m s x =
      firms_weaker (all_told_goes k p h (half_track h) b v m s x) (λ u z _ y. rest_from k p {h = h} {b = b} z y)

  losing_goes : (v : List Track) (h : Option (HalfWrite (Unit {0}))) (b : List Track) (s : MarksStore) (loss : Loss) → On k p h (half_track h) b v s →
      Rests k p v (losing by_plain s loss)
  unfolding L.cache_lost L.store_lost
  losing_goes v h b s losses.Cache x =
      let z = with_loss s losses.Cache in
      rests_all v h (loose_lost z).plain (tracks_of s) (lost_by by_plain z losses.Cache)
      (owes_over k p h (half_track h) (loose_lost z).plain (tracks_of s) v (tracks_of s) (λ q y. settled by_plain (without_frame y q) q) (omega arith)
      (unframed_owes h (half_track h) (loose_lost z).plain (tracks_of s) v) (record (loose_lost z) { queue = [] })
      (cache_owes h (half_track h) b v z x))
  losing_goes v h b s losses.Store x =
      let z = with_loss s losses.Store in
      rests_all v h b (tracks_of s) (lost_by by_plain z losses.Store)
      (owes_over k p h (half_track h) b (tracks_of s) v (tracks_of s) (patch_lost by_plain) (omega arith)
      (patch_owes h (half_track h) b (tracks_of s) v) z
      (owes_none k p h (half_track h) b (tracks_of s) v z refl x))
  losing_goes v h b s (losses.Side side) x =
      let z = with_loss s (losses.Side side) in
      rests_all v h b (tracks_of s) (lost_by by_plain z (losses.Side side))
      (owes_side k p h (half_track h) b (tracks_of s) v z side None refl (owes_none k p h (half_track h) b (tracks_of s) v z refl x))

  pub lose_keeps : {v : List Track} (d : MarksDevice) (loss : Loss) → Rest k p v d.store → Keeps k p v (lose by_plain d loss)
  unfolding V.lose
  lose_keeps d loss x =
      noted_keeps k p d (λ z. and_then (losing by_plain z.store loss) (λ s _. Done (with_store z s) tt)) x
      (λ u s y. firms_then (λ z _. Done (with_store (record (event_begun d) { store = s }) z) tt)
      (losing_goes u d.store.half d.store.plain s loss y) (λ w z _ g. firms_done g))

  -- A cut

  cut_rests : {v : List Track} (s : MarksStore) (h : HalfWrite (Unit {0})) (origin : Origin) → s.half ≡ Some h → h.origin ≡ origin → Rest k p v s →
      Rests k p v (origin_cut by_plain s h origin)
  cut_rests {v = v} s h (OfCommand bypass e) is of x =
      firms_told x.0 (firms_done (
        x.0,
        λ here. let i = (rest_at k p (Some h) s is x).1 here in (
          ap (λ (l : List Track). set l h.track (apply_edit e (track_in s.plain h.track))) i.0
              ∙ ap (λ (t : Track). set v h.track t) (sym (half_image k p s h e bypass of)),
          i.1,
          refl,
          i.3,
          i.4,
          refl,
        ),
      ))
  cut_rests s h (OfCut bypass) is of x = firms_done x
  cut_rests s h OfBackground is of x = firms_done x

  half_rests : {v : List Track} (s : MarksStore) (o : Option (HalfWrite (Unit {0}))) → s.half ≡ o → Rest k p v s → Rests k p v (half_cut by_plain s o)
  half_rests s (Some h) is x = cut_rests s h h.origin is refl x
  half_rests s None is x = firms_done x

  path_keeps : {v : List Track} (d : MarksDevice) (path : ℕ) → Rest k p v d.store → Keeps k p v (path_cut by_plain d path)
  path_keeps d path x =
      firms_then
      (λ s _. Done (record (reset_noted by_plain d path (counts_one_by d.store.half)) {
        store = s;
        chain = None;
        paths = all_reset (reset_path d.paths path) d.history.waiting;
      }) tt)
      (half_rests d.store d.store.half refl x) (λ u s _ y. firms_done y)

  by_running : {v : List Track} (d : MarksDevice) (path : ℕ) (o : Option OpenEntry) → Rest k p v d.store → Keeps k p v (reset_by by_plain d path o)
  by_running d path (Some o) x = firms_if (o.path == path) (λ _. path_keeps d path x) (λ _. firms_done x)
  by_running d path None x = firms_if (has_used d.history path) (λ _. firms_done x) (λ _. firms_done x)

  pub reset_keeps : {v : List Track} (d : MarksDevice) (path : ℕ) → Rest k p v d.store → Keeps k p v (reset by_plain d path)
  unfolding K.reset
  reset_keeps d path x = by_running d path d.history.running x

  -- A loss of power

  none_half : {v : List Track} (h : Option (HalfWrite (Unit {0}))) (o : Option ℕ) (b : List Track) (s : MarksStore) → On k p h o b v s →
      On k p None None b v (record s { half = None })
  none_half h o b s x = (x.0, λ here. let i = x.1 here in (i.0, i.1, refl, tt, i.4, i.5))

  ended_on : {v : List Track} (h : Option (HalfWrite (Unit {0}))) (b : List Track) (s : MarksStore) (w : HalfWrite (Unit {0})) (origin : Origin) →
      On k p h None b v s → On k p None None b v (half_ended by_plain s w origin)
  ended_on h b s w (OfCommand bypass e) x =
      on_like k p None None b (record s { half = None }) (without_patch by_plain (record s { half = None }) w.track)
      (like_unpatched (record s { half = None }) w.track) (none_half h None b s x)
  ended_on h b s w (OfCut bypass) x =
      on_like k p None None b (record s { half = None }) (without_patch by_plain (record s { half = None }) w.track)
      (like_unpatched (record s { half = None }) w.track) (none_half h None b s x)
  ended_on h b s w OfBackground x = none_half h None b s x

  lost_on : {v : List Track} (b : List Track) (s : MarksStore) (o : Option (HalfWrite (Unit {0}))) → On k p o None b v s →
      On k p None None b v (half_lost by_plain s o)
  lost_on b s (Some w) x = ended_on (Some w) b s w w.origin x
  lost_on b s None x = x

  unframed_on : {v : List Track} (b : List Track) (q : ℕ) (z : MarksStore) → On k p None None b v z →
      On k p None None b v (settled by_plain (without_frame z q) q)
  unframed_on b q z x =
      calm_settled k p None None b (without_frame z q) q (inl (no_frame z q)) (on_like k p None None b z (without_frame z q) (like_unframed z q) x)

  over_on : {v : List Track} (b : List Track) (n : ℕ) (f : ℕ → MarksStore → MarksStore) →
      ((q : ℕ) (z : MarksStore) → On k p None None b v z → On k p None None b v (f q z)) → (s : MarksStore) → On k p None None b v s →
      On k p None None b v (L.over n f s)
  unfolding L.over
  over_on b zero f t s x = x
  over_on b (suc n) f t s x = t n (L.over n f s) (over_on b n f t s x)

  powerless_rest : {v : List Track} (s : MarksStore) → Rest k p v s → Rest k p v (powerless by_plain s)
  powerless_rest {v = v} s x =
      rest_from k p {h = None} {b = (loose_gone by_plain s).plain} (powerless by_plain s)
      (over_on (loose_gone by_plain s).plain (tracks_of s) (λ q z. settled by_plain (without_frame z q) q) (unframed_on (loose_gone by_plain s).plain)
      (record (half_lost by_plain (loose_gone by_plain s) s.half) { queue = [] })
      (lost_on (loose_gone by_plain s).plain (loose_gone by_plain s) s.half gone))
    where
      base : On k p s.half None s.plain v s
      base = at_none (half_track s.half) s x

      gone : On k p s.half None (loose_gone by_plain s).plain v (loose_gone by_plain s)
      gone =
          cond_both (has_loose s) (gone_back s) s (λ (z : MarksStore). On k p s.half None z.plain v z) (λ _. gone_on s.half None s.plain s base) (λ _. base)

  pub power_keeps : {v : List Track} (d : MarksDevice) → Rest k p v d.store → Keeps k p v (power by_plain d)
  unfolding K.power
  power_keeps d x =
      firms_then (event_ended by_plain d)
      (firms_then (λ s _. Done (powered_off by_plain (event_begun d) s) tt) (half_rests (noted_begin d.store) d.store.half refl x)
      (λ u s _ y. firms_done (powerless_rest (with_loss s losses.Cache) y)))
      (λ u e a y. end_keeps k p d e a y)

  -- A look

  found_rests : {v : List Track} (h : Option (HalfWrite (Unit {0}))) (b : List Track) (s : MarksStore) (q : ℕ) (o : Option Imaged) →
      Imaging k p h (half_track h) b q v s o → Rests k p v (had_by (λ z i. Done z (Some (peeked i))) s o)
  found_rests h b s q None x = firms_done (rest_from k p {h = h} {b = b} s x.on)
  found_rests h b s q (Some i) x = firms_done (rest_from k p {h = h} {b = b} s x.on)

  peeked_rests : {v : List Track} (s : MarksStore) (q : ℕ) → Rest k p v s → Rests k p v (peek_image by_plain s q)
  peeked_rests s q x =
      firms_then (had_by (λ z i. Done z (Some (peeked i)))) (image_has (said k p s.plain) s.half (half_track s.half) q s peek_usage x)
      (λ u z o y. found_rests s.half s.plain z q o y)

  in_half_rests : {v : List Track} (s : MarksStore) (q : ℕ) (o : Option (HalfWrite (Unit {0}))) → Rest k p v s → Rests k p v (peek_half by_plain s q o)
  in_half_rests s q None x = peeked_rests s q x
  in_half_rests s q (Some h) x = firms_if (is_in_half by_plain s q h) (λ _. firms_try (firms_done x)) (λ _. peeked_rests s q x)

  track_rests : {v : List Track} (s : MarksStore) (q : ℕ) → Rest k p v s → Rests k p v (peek_track by_plain s q)
  track_rests s q x = firms_if (is_lost s q) (λ _. firms_done x) (λ _. in_half_rests s q s.half x)

  pub peek_keeps : {v : List Track} (d : MarksDevice) (q : ℕ) → Rest k p v d.store → Keeps k p v (peek by_plain d q)
  unfolding P.peek
  peek_keeps d q x =
      firms_then (event_ended by_plain d)
      (firms_then (λ s found. Done (with_store (event_begun d) s) found) (track_rests (noted_begin d.store) q x) (λ u s found y. firms_done y))
      (λ u e a y. end_keeps k p d e a y)
