-- The other events of a device keep the firm volume as it was told.
use Rattle.std.proofs.Common.{◌≡◌, ℕ, Bool, true, false, List, [], Option, Some, None, refl, ap}
use Rattle.ckd_types.specs.declared.record.Edit.{Edit}
use Rattle.ckd_types.specs.declared.record.Track.{Track}
use Rattle.ckd_types.specs.Edit.{apply_edit}
use Rattle.ckd_types.specs.Volume.{track_in}
use Rattle.ckd_chain.specs.State.{ChainState}
use Rattle.plain_defs.specs.History.{OpenEntry}
use Rattle.track_image.specs.Image.{Image}
use Rattle.device_outside.specs.Interaction.{Interaction, Done, and_then}
use Rattle.device_defs.specs.Background.{work}
use Rattle.device_defs.specs.Contents.{by_plain}
use Rattle.device_defs.specs.Device.{with_store, event_begun, event_ended, event}
use Rattle.device_defs.specs.Effects.{with_edit}
use Rattle.device_defs.specs.Events as V
use Rattle.device_defs.specs.Events.{second_turn, command_ended, second_ended, second_of, second, background}
use Rattle.device_defs.specs.Losses.{settled, without_patch}
use Rattle.device_defs.specs.Marks.{MarksDevice, MarksStore}
use Rattle.device_defs.specs.Second as N
use Rattle.device_defs.specs.Second.{half_closed, finished, cut_kept, second_by, second_part}
use Rattle.device_defs.specs.Store.{Origin, OfCommand, OfCut, OfBackground, HalfWrite, has_level, frame_at, with_frame}
use Rattle.keeper_laws.proofs.FirmCommands.{Keeps, end_keeps, turned_rest}
use Rattle.keeper_laws.proofs.FirmParts.{at_none, said}
use Rattle.keeper_laws.proofs.FirmStores.{half_track, On, on_like, like_unpatched}
use Rattle.keeper_laws.proofs.FirmWrites.{Rest, rest_from, rest_at, rest_firm, Rests, edited_on, opened_rests}
use Rattle.keeper_laws.proofs.FirmWalk.{hear_goes, done_goes, here_settled, write_second_goes, work_rests}
use Rattle.keeper_laws.proofs.Firms.{firms_done, firms_told, firms_then, firms_if}

module _ (k : ℕ) (p : Type 0) where
  -- The other part of a write

  abbrev Here : ℕ → List Track → List Track → MarksStore → Type 0
  Here q b v s = On k p None (Some q) b v s

  finished_rests : {v : List Track} (b : List Track) (s : MarksStore) (q : ℕ) (i : Image) (bypass : Bool) → Here q b v s →
      Rests k p v (finished by_plain s q i bypass)
  finished_rests b s q i bypass x =
      firms_then (λ z _. Done z true) (done_goes (said k p b) None (Some q) s q i bypass x) (λ u z _ y. firms_done (rest_firm k p {b = b} q z y))

  absent_rest : {v : List Track} (b : List Track) (s : MarksStore) (q : ℕ) → Here q b v s → Rest k p v (settled by_plain s q)
  absent_rest b s q x = rest_firm k p {b = b} q (settled by_plain s q) (here_settled (said k p b) None q s x)

  kept_here : {v : List Track} (b : List Track) (s : MarksStore) (q : ℕ) (i : Image) (f : Option Bool) → Here q b v s → Here q b v (cut_kept by_plain s q i f)
  kept_here b s q i None x = x
  kept_here b s q i (Some f) x =
      on_like k p None (Some q) b (with_frame s q (Some f)) (without_patch by_plain (with_frame s q (Some f)) q)
      (like_unpatched (with_frame s q (Some f)) q) x

  level_rests : {v : List Track} (b : List Track) (s : MarksStore) (q : ℕ) (i : Image) (origin : Origin) →
      ((e : Edit) (bypass : Bool) → origin ≡ OfCommand bypass e → p → i.track ≡ apply_edit e (track_in b q)) → Here q b v (half_closed s) →
      Rests k p v (second_by by_plain q i origin s)
  level_rests b s q i (OfCommand bypass e) image x =
      firms_if (has_level s q)
      (λ _. firms_told x.0 (finished_rests (with_edit (half_closed s) q e).plain (with_edit (half_closed s) q e) q i bypass
      (edited_on k p {h = None} {b = b} (Some q) (half_closed s) q e i (image e bypass refl) x)))
      (λ _. firms_done (absent_rest b (half_closed s) q x))
  level_rests b s q i (OfCut bypass) image x =
      firms_if (has_level s q) (λ _. finished_rests b (half_closed s) q i bypass x)
      (λ _. firms_done (absent_rest b (cut_kept by_plain (half_closed s) q i (frame_at (half_closed s) q)) q (kept_here b (half_closed s) q i (frame_at (half_closed s) q) x)))
  level_rests b s q i OfBackground image x =
      firms_if (has_level s q) (λ _. finished_rests b (half_closed s) q i false x) (λ _. firms_done (absent_rest b (half_closed s) q x))

  pub half_image : (s : MarksStore) (h : HalfWrite (Unit {0})) (e : Edit) (bypass : Bool) → h.origin ≡ OfCommand bypass e →
      (N.half_image_of by_plain s h).track ≡ apply_edit e (track_in s.plain h.track)
  half_image s h e bypass is = ap (λ (origin : Origin). (N.plainly_written s h.track origin).track) is

  closes : {v : List Track} (b : List Track) (s : MarksStore) (h : HalfWrite (Unit {0})) → On k p (Some h) (Some h.track) b v s → Here h.track b v (half_closed s)
  closes b s h x = (x.0, λ here. let i = x.1 here in (i.0, i.1, refl, i.3, i.4, i.5))

  part_rests : {v : List Track} (s : MarksStore) (h : HalfWrite (Unit {0})) → On k p (Some h) (Some h.track) s.plain v s →
      Rests k p v (second_part by_plain s h)
  unfolding N.second_part
  part_rests s h x =
      firms_then (λ z _. second_by by_plain h.track (N.half_image_of by_plain s h) h.origin z)
      (write_second_goes (said k p s.plain) (Some h) h.track s true x)
      (λ u z _ y. level_rests s.plain z h.track (N.half_image_of by_plain s h) h.origin (λ e bypass is here. half_image s h e bypass is)
      (closes s.plain z h y))

  ended_by : {v : List Track} (d : MarksDevice) (t : ℕ) (o : Option OpenEntry) (chain : Option ChainState) (done : Bool) → Rest k p v d.store →
      Keeps k p v (command_ended by_plain d t o chain done)
  ended_by d t (Some o) (Some chain) done x = firms_done (turned_rest k p d o.path (second_turn by_plain chain done) x)
  ended_by d t (Some o) None done x = firms_done x
  ended_by d t None chain done x = firms_done x

  second_end : {v : List Track} (d : MarksDevice) (t : ℕ) (origin : Origin) (done : Bool) → Rest k p v d.store →
      Keeps k p v (second_ended by_plain d t origin done)
  second_end d t (OfCommand bypass e) done x = ended_by d t d.history.running d.chain done x
  second_end d t (OfCut bypass) done x = firms_done x
  second_end d t OfBackground done x = firms_done x

  by_half : {v : List Track} (d : MarksDevice) (o : Option (HalfWrite (Unit {0}))) → d.store.half ≡ o → Rest k p v d.store →
      Keeps k p v (second_of by_plain d o)
  by_half d (Some h) is x =
      firms_then (λ s done. second_ended by_plain (with_store d s) h.track h.origin done) (part_rests d.store h (rest_at k p (Some h) d.store is x))
      (λ u z done y. second_end (with_store d z) h.track h.origin done y)
  by_half d None is x = firms_done x

  -- an event with notes
  pub noted_keeps : {X : Type 0} {v : List Track} (d : MarksDevice) (body : MarksDevice → Interaction Bool Image MarksDevice X) → Rest k p v d.store →
      ((u : List Track) (s : MarksStore) → On k p d.store.half (half_track d.store.half) d.store.plain u s →
      Keeps k p u (body (record (event_begun d) { store = s }))) → Keeps k p v (event by_plain d body)
  noted_keeps d body x does =
      firms_then (event_ended by_plain d)
      (firms_then (λ s _. body (record (event_begun d) { store = s }))
      (hear_goes (said k p d.store.plain) d.store.half (half_track d.store.half) 960 (record d.store { acts = [] }) x) (λ u s _ y. does u s y))
      (λ u e a y. end_keeps k p d e a y)

  pub second_keeps : {v : List Track} (d : MarksDevice) → Rest k p v d.store → Keeps k p v (second by_plain d)
  unfolding V.second
  second_keeps d x =
      noted_keeps d (λ z. second_of by_plain z z.store.half) x
      (λ u s y. by_half (record (event_begun d) { store = s }) s.half refl (rest_from k p {h = d.store.half} {b = d.store.plain} s y))

  pub background_keeps : {v : List Track} (d : MarksDevice) → d.store.half ≡ None → Rest k p v d.store → Keeps k p v (background by_plain d)
  unfolding V.background
  background_keeps d none x =
      firms_then (event_ended by_plain d)
      (firms_then (λ s _. and_then (work by_plain s) (λ y did. Done (with_store (record (event_begun d) { store = s }) y) did))
      (hear_goes (said k p d.store.plain) None None 960 (record d.store { acts = [] }) (rest_at k p None d.store none x))
      (λ u s _ y. firms_then (λ z did. Done (with_store (record (event_begun d) { store = s }) z) did) (work_rests (said k p d.store.plain) (λ l x. Rest k p l x) (λ o l x m. rest_from k p {h = None} {b = d.store.plain} x (at_none o x m))
      (λ q i l x was m. opened_rests k p {b = d.store.plain} x q i OfBackground was m) s y)
      (λ u2 z a w. firms_done w)))
      (λ u e a y. end_keeps k p d e a y)
