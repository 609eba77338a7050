-- A command of a device keeps the firm volume as it was told.
use Rattle.std.proofs.Common.{◌≡◌, ℕ, zero, suc, Bool, List, Option, Some, None, sym, subst}
use Rattle.ckd_chain.specs.declared.progress.Progress.{Progress}
use Rattle.ckd_chain.specs.declared.progress.Progress.TheVariants as progresses
use Rattle.ckd_chain.specs.declared.progress.Settled.TheVariants.{Equipment}
use Rattle.ckd_chain.specs.State.{ChainState}
use Rattle.ckd_chain.specs.Steps.{need_of, stepped}
use Rattle.ckd_types.specs.declared.record.Track.{Track}
use Rattle.ckd_types.specs.Volume.{track_in}
use Rattle.plain_defs.specs.History.{OpenEntry}
use Rattle.plain_device.specs.Acted.{settled_act, paths_behind}
use Rattle.track_image.specs.Image.{Image}
use Rattle.device_outside.specs.Interaction.{Interaction, Done}
use Rattle.device_defs.specs.declared.answers.Took.{Took}
use Rattle.device_defs.specs.declared.usage.Usage.{Usage}
use Rattle.device_defs.specs.Command as N
use Rattle.device_defs.specs.Command.{Went, Over, On as Onward, has_loss, came_of_write, went_by, looked, look, goes_on, follow, came_out, on_tracks, answered_by, command_at, command_by, command}
use Rattle.device_defs.specs.Contents.{by_plain}
use Rattle.device_defs.specs.Device.{with_store, event_begun, event_ended}
use Rattle.device_defs.specs.Image.{Imaged, Has, NoBytes, BadTrack}
use Rattle.device_defs.specs.Marks.{MarksDevice, MarksStore}
use Rattle.device_defs.specs.Memory.{had_by}
use Rattle.device_defs.specs.Outcomes.{Turn, ends_with, settles, checks, usage_of, turned}
use Rattle.device_defs.specs.Owed.{noted_begin, waiting_count}
use Rattle.device_defs.specs.Store.{tracks_of, is_lost}
use Rattle.device_laws.proofs.walks.Events.{turned_same}
use Rattle.keeper_laws.proofs.FirmParts.{Imaging, ended_goes, said}
use Rattle.keeper_laws.proofs.FirmStores.{half_track, On}
use Rattle.keeper_laws.proofs.FirmWalk.{hear_goes, image_has}
use Rattle.keeper_laws.proofs.FirmWrites.{Rest, rest_from, rest_at, Rests, write_rests}
use Rattle.keeper_laws.proofs.Firms.{Firms, firms_done, firms_try, firms_then, firms_if}

module _ (k : ℕ) (p : Type 0) where
  module _ (b : List Track) where
    -- no half write is open
    abbrev Now : List Track → MarksStore → Type 0
    Now v s = On k p None None b v s

    now_rest : {v : List Track} (s : MarksStore) → Now v s → Rest k p v s
    now_rest s x = rest_from k p {h = None} {b = b} s x

    -- behind a look at a track nothing is written yet where it goes on
    abbrev After : List Track → MarksStore → Option Went → Type 0
    After u z (Some (Onward chain t)) = On k p None None b u z
    After u z (Some (Over turn)) = Rest k p u z
    After u z None = Rest k p u z

    abbrev Looks : List Track → Interaction Bool Image MarksStore (Option Went) → Type 0
    Looks v i = Firms k (λ u z a. After u z a) v i

    wrote_looks : {v : List Track} (chain : ChainState) (t : ℕ) (s : MarksStore) (o : Option Took) → Rest k p v s →
        Looks v (had_by (came_of_write by_plain chain t) s o)
    wrote_looks chain t s (Some took) x = firms_done x
    wrote_looks chain t s None x = firms_done x

    went_looks : {v : List Track} (w : Usage) (first t : ℕ) (s : MarksStore) (i : Image) (chain : ChainState) (g : Progress) →
        (p → i.track ≡ track_in b t) → Now v s → Looks v (went_by by_plain w first t s i chain g)
    went_looks w first t s i chain (progresses.Ended e) image x = firms_done (now_rest s x)
    went_looks w first t s i chain (progresses.Need q) image x = firms_done x
    went_looks w first t s i chain (progresses.Write q e) image x =
        firms_then (had_by (came_of_write by_plain chain t)) (write_rests k p t b e i image w first s x) (λ u z o y. wrote_looks chain t z o y)
    went_looks w first t s i chain (progresses.Local act) image x = firms_done (now_rest s x)

    looked_looks : {v : List Track} (chain : ChainState) (first t : ℕ) (s : MarksStore) (o : Option Imaged) → Imaging k p None None b t v s o →
        Looks v (had_by (looked by_plain chain first t) s o)
    looked_looks chain first t s None x = firms_done (now_rest s x.on)
    looked_looks chain first t s (Some (Has i)) x =
        firms_try (went_looks (usage_of chain) first t s i (stepped chain (Some i)).chain (stepped chain (Some i)).progress x.image x.on)
    looked_looks chain first t s (Some (NoBytes fault)) x = firms_done (now_rest s x.on)
    looked_looks chain first t s (Some (BadTrack side)) x = firms_done (now_rest s x.on)

    look_looks : {v : List Track} (chain : ChainState) (first t : ℕ) (s : MarksStore) → Now v s → Looks v (look by_plain chain first t s)
    unfolding N.look
    look_looks chain first t s x =
        firms_if (is_lost s t) (λ _. firms_done (now_rest s x))
        (λ _. firms_then (had_by (looked by_plain chain first t)) (image_has (said k p b) None None t s (usage_of chain) x)
        (λ u z o y. looked_looks chain first t z o y))

    by_went : {v : List Track} (n first : ℕ) (s : MarksStore) (o : Option Went) → After v s o →
        ((u : List Track) (chain : ChainState) (t : ℕ) (z : MarksStore) → Now u z → Rests k p u (follow by_plain n first chain t z)) →
        Rests k p v (had_by (goes_on by_plain (follow by_plain n first)) s o)
    by_went n first s None x rest = firms_done x
    by_went n first s (Some (Over turn)) x rest = firms_done x
    by_went {v = v} n first s (Some (Onward chain t)) x rest = rest v chain t s x

    follow_rests : (v : List Track) (n first : ℕ) (chain : ChainState) (t : ℕ) (s : MarksStore) → Now v s → Rests k p v (follow by_plain n first chain t s)
    unfolding N.follow
    follow_rests v zero first chain t s x = firms_done (now_rest s x)
    follow_rests v (suc n) first chain t s x =
        firms_then (had_by (goes_on by_plain (follow by_plain n first))) (look_looks chain first t s x)
        (λ u z o y. by_went n first z o y (λ w chain t g r. follow_rests w n first chain t g r))

  -- Devices

  abbrev pub Keeps : {X : Type 0} → List Track → Interaction Bool Image MarksDevice X → Type 0
  Keeps v i = Firms k (λ u d _. Rest k p u d.store) v i

  pub end_keeps : {X : Type 0} {v : List Track} (old d : MarksDevice) (a : X) → Rest k p v d.store → Keeps v (event_ended by_plain old d a)
  end_keeps old d a x =
      firms_then (λ z _. Done (record d { store = z }) a)
      (ended_goes k p d.store.half (half_track d.store.half) d.store.plain (waiting_count by_plain old.store) d.store x)
      (λ u z _ y. firms_done (rest_from k p {h = d.store.half} {b = d.store.plain} z y))

  pub turned_rest : {v : List Track} (d : MarksDevice) (path : ℕ) (turn : Turn) → Rest k p v d.store → Rest k p v (turned d path turn).store
  turned_rest {v = v} d path turn x = subst (λ (s : MarksStore). Rest k p v s) (sym (turned_same d path turn.chain turn.came)) x

  came_keeps : {v : List Track} (d : MarksDevice) (path : ℕ) (turn : Turn) → Rest k p v d.store → Keeps v (came_out by_plain d path turn)
  came_keeps d path turn x = firms_done (turned_rest d path turn x)

  on_tracks_keeps : {v : List Track} (d : MarksDevice) (path : ℕ) (chain : ChainState) (s : MarksStore) (o : Option Turn) → Rest k p v s →
      Keeps v (on_tracks by_plain d path chain s o)
  on_tracks_keeps d path chain s (Some turn) x = came_keeps (with_store d s) path turn x
  on_tracks_keeps d path chain s None x = firms_done x

  answered_keeps : {v : List Track} (d : MarksDevice) (path : ℕ) (chain : ChainState) (g : Progress) → Rest k p v d.store →
      Keeps v (answered_by by_plain d path chain g)
  answered_keeps d path chain (progresses.Ended e) x = came_keeps d path (ends_with chain e) x
  answered_keeps d path chain (progresses.Need q) x = came_keeps d path (checks chain Equipment) x
  answered_keeps d path chain (progresses.Write q e) x = came_keeps d path (checks chain Equipment) x
  answered_keeps d path chain (progresses.Local act) x =
      came_keeps (record d { paths = paths_behind d.paths path act }) path (settles chain (settled_act d.store.geometry d.paths path act)) x

  at_keeps : {v : List Track} (b : List Track) (d : MarksDevice) (path : ℕ) (chain : ChainState) (o : Option ℕ) → Now b v d.store →
      Keeps v (command_at by_plain d path chain o)
  at_keeps {v = v} b d path chain (Some t) x =
      firms_then (on_tracks by_plain d path chain) (follow_rests b v (tracks_of d.store) t chain t d.store x)
      (λ u z o y. on_tracks_keeps d path chain z o y)
  at_keeps b d path chain None x = firms_try (answered_keeps d path (stepped chain None).chain (stepped chain None).progress (now_rest b d.store x))

  by_keeps : {v : List Track} (b : List Track) (d : MarksDevice) (o : Option OpenEntry) (chain : Option ChainState) → Now b v d.store →
      Keeps v (command_by by_plain d o chain)
  by_keeps b d (Some o) (Some chain) x =
      firms_if (has_loss o.acts) (λ _. came_keeps d o.path (checks chain Equipment) (now_rest b d.store x)) (λ _. at_keeps b d o.path chain (need_of chain) x)
  by_keeps b d (Some o) None x = firms_done (now_rest b d.store x)
  by_keeps b d None chain x = firms_done (now_rest b d.store x)

  -- while no half write is open
  pub command_keeps : {v : List Track} (d : MarksDevice) → d.store.half ≡ None → Rest k p v d.store → Keeps v (command by_plain d)
  unfolding N.command
  command_keeps d none x =
      firms_try (firms_then (event_ended by_plain d)
      (firms_then (λ s _. command_by by_plain (record (event_begun d) { store = s }) d.history.running d.chain)
      (hear_goes (said k p d.store.plain) None None 960 (noted_begin d.store) (rest_at k p None d.store none x))
      (λ u s _ y. by_keeps d.store.plain (record (event_begun d) { store = s }) d.history.running d.chain y))
      (λ u e a y. end_keeps d e a y))
