-- A command of a device names the plain image of a track that is calm first, or leaves it as it is.
use Rattle.std.proofs.Common.{◌≡◌, ℕ, zero, suc, Bool, true, Option, Some, None, sym, subst}
use Rattle.ckd_chain.specs.declared.progress.Progress.{Progress}
use Rattle.ckd_chain.specs.declared.progress.Progress.TheVariants as progresses
use Rattle.ckd_chain.specs.declared.progress.Settled.TheVariants.{Equipment}
use Rattle.ckd_chain.specs.State.{ChainState}
use Rattle.ckd_chain.specs.Steps.{need_of, stepped}
use Rattle.plain_defs.specs.History.{OpenEntry}
use Rattle.plain_device.specs.Acted.{settled_act, paths_behind}
use Rattle.track_image.specs.Image.{Image}
use Rattle.device_outside.specs.Interaction.{Interaction, Done}
use Rattle.device_defs.specs.declared.answers.Took.{Took}
use Rattle.device_defs.specs.declared.usage.Usage.{Usage}
use Rattle.device_defs.specs.Command as N
use Rattle.device_defs.specs.Command.{
  Went,
  Over,
  On as Onward,
  has_loss,
  came_of_write,
  went_by,
  went_on,
  looked,
  look,
  goes_on,
  follow,
  came_out,
  on_tracks,
  answered_by,
  on_paths,
  command_at,
  command_by,
  command,
}
use Rattle.device_defs.specs.Contents.{by_plain}
use Rattle.device_defs.specs.Device.{with_store, event_begun, event_ended}
use Rattle.device_defs.specs.Image.{Imaged, Has, NoBytes, BadTrack}
use Rattle.device_defs.specs.Marks.{MarksDevice, MarksStore}
use Rattle.device_defs.specs.Memory.{had_by}
use Rattle.device_defs.specs.Outcomes.{Turn, ends_with, settles, checks, usage_of, turned}
use Rattle.device_defs.specs.Owed.{noted_begin, waiting_count}
use Rattle.device_defs.specs.Store.{tracks_of, is_lost}
use Rattle.device_laws.proofs.PlainStores.{core_of}
use Rattle.device_laws.proofs.walks.Events.{turned_same}
use Rattle.keeper_laws.proofs.Calm.{Watch, is_watched, watched_image, acts_keep}
use Rattle.keeper_laws.proofs.Names.{Names, names_done, names_try, names_then, names_if, silent_names}
use Rattle.keeper_laws.proofs.Parts.{On, Imaging, hear_stays, ended_stays, image_has}
use Rattle.keeper_laws.proofs.Silent.{Silent, silent_done, silent_then}
use Rattle.keeper_laws.proofs.Writes.{Tells, write_tells}

module _ (w : Watch) where
  -- From track to track

  wrote_tells : (chain : ChainState) (t : ℕ) (s : MarksStore) (o : Option Took) → On w s → Tells w (had_by (came_of_write by_plain chain t) s o)
  wrote_tells chain t s (Some took) k = names_done k
  wrote_tells chain t s None k = names_done k

  went_tells : (v : Usage) (first t : ℕ) (s : MarksStore) (i : Image) (chain : ChainState) (p : Progress) →
      (is_watched w t ≡ true → i ≡ watched_image w) → On w s → Tells w (went_by by_plain v first t s i chain p)
  went_tells v first t s i chain (progresses.Ended e) image k = names_done k
  went_tells v first t s i chain (progresses.Need q) image k = names_done k
  went_tells v first t s i chain (progresses.Write q e) image k =
      names_then (had_by (came_of_write by_plain chain t)) (write_tells w v first t i e s image k) (λ z o x. wrote_tells chain t z o x)
  went_tells v first t s i chain (progresses.Local act) image k = names_done k

  looked_tells : (chain : ChainState) (first t : ℕ) (s : MarksStore) (o : Option Imaged) → Imaging w t s o →
      Tells w (had_by (looked by_plain chain first t) s o)
  looked_tells chain first t s None x = names_done x.on
  looked_tells chain first t s (Some (Has i)) x =
      names_try (went_tells (usage_of chain) first t s i (stepped chain (Some i)).chain (stepped chain (Some i)).progress x.image x.on)
  looked_tells chain first t s (Some (NoBytes fault)) x = names_done x.on
  looked_tells chain first t s (Some (BadTrack side)) x = names_done x.on

  look_tells : (chain : ChainState) (first t : ℕ) (s : MarksStore) → On w s → Tells w (look by_plain chain first t s)
  unfolding N.look
  look_tells chain first t s k =
      names_if (is_lost s t) (λ _. names_done k)
      (λ _. names_then (had_by (looked by_plain chain first t)) (silent_names (image_has w t s (usage_of chain) k)) (λ z o x. looked_tells chain first t z o x))

  by_went : (n first : ℕ) (s : MarksStore) (o : Option Went) → On w s →
      ((chain : ChainState) (t : ℕ) (z : MarksStore) → On w z → Tells w (follow by_plain n first chain t z)) →
      Tells w (had_by (goes_on by_plain (follow by_plain n first)) s o)
  by_went n first s None k rest = names_done k
  by_went n first s (Some (Over turn)) k rest = names_done k
  by_went n first s (Some (Onward chain t)) k rest = rest chain t s k

  follow_tells : (n first : ℕ) (chain : ChainState) (t : ℕ) (s : MarksStore) → On w s → Tells w (follow by_plain n first chain t s)
  unfolding N.follow
  follow_tells zero first chain t s k = names_done k
  follow_tells (suc n) first chain t s k =
      names_then (had_by (goes_on by_plain (follow by_plain n first))) (look_tells chain first t s k)
      (λ z o x. by_went n first z o x (λ chain t y v. follow_tells n first chain t y v))

  -- Devices

  abbrev pub OnDevice : MarksDevice → Type 0
  OnDevice d = On w d.store

  -- as of its tracks
  abbrev pub Says : {X : Type 0} → Interaction Bool Image MarksDevice X → Type 0
  Says i = Names w.number w.track (watched_image w) (λ d _. OnDevice d) i

  abbrev pub Kept : {X : Type 0} → Interaction Bool Image MarksDevice X → Type 0
  Kept i = Silent (λ d _. OnDevice d) i

  -- an event begins
  pub begun_on : (s : MarksStore) → On w s → On w (noted_begin s)
  begun_on s k = acts_keep w (core_of s) _ k

  pub end_kept : {X : Type 0} (old d : MarksDevice) (a : X) → OnDevice d → Kept (event_ended by_plain old d a)
  end_kept old d a k =
      silent_then (λ z _. Done (record d { store = z }) a) (ended_stays w (waiting_count by_plain old.store) d.store k) (λ z _ x. silent_done x)

  pub turned_has : (d : MarksDevice) (path : ℕ) (turn : Turn) → OnDevice d → OnDevice (turned d path turn)
  turned_has d path turn k = subst (On w) (sym (turned_same d path turn.chain turn.came)) k

  came_says : (d : MarksDevice) (path : ℕ) (turn : Turn) → OnDevice d → Says (came_out by_plain d path turn)
  came_says d path turn k = names_done (turned_has d path turn k)

  on_tracks_says : (d : MarksDevice) (path : ℕ) (chain : ChainState) (s : MarksStore) (o : Option Turn) → On w s → Says (on_tracks by_plain d path chain s o)
  on_tracks_says d path chain s (Some turn) k = came_says (with_store d s) path turn k
  on_tracks_says d path chain s None k = names_done k

  answered_says : (d : MarksDevice) (path : ℕ) (chain : ChainState) (p : Progress) → OnDevice d → Says (answered_by by_plain d path chain p)
  answered_says d path chain (progresses.Ended e) k = came_says d path (ends_with chain e) k
  answered_says d path chain (progresses.Need q) k = came_says d path (checks chain Equipment) k
  answered_says d path chain (progresses.Write q e) k = came_says d path (checks chain Equipment) k
  answered_says d path chain (progresses.Local act) k =
      came_says (record d { paths = paths_behind d.paths path act }) path (settles chain (settled_act d.store.geometry d.paths path act)) k

  at_says : (d : MarksDevice) (path : ℕ) (chain : ChainState) (o : Option ℕ) → OnDevice d → Says (command_at by_plain d path chain o)
  at_says d path chain (Some t) k =
      names_then (on_tracks by_plain d path chain) (follow_tells (tracks_of d.store) t chain t d.store k) (λ z o x. on_tracks_says d path chain z o x)
  at_says d path chain None k = names_try (answered_says d path (stepped chain None).chain (stepped chain None).progress k)

  by_says : (d : MarksDevice) (o : Option OpenEntry) (chain : Option ChainState) → OnDevice d → Says (command_by by_plain d o chain)
  by_says d (Some o) (Some chain) k =
      names_if (has_loss o.acts) (λ _. came_says d o.path (checks chain Equipment) k) (λ _. at_says d o.path chain (need_of chain) k)
  by_says d (Some o) None k = names_done k
  by_says d None chain k = names_done k

  pub command_says : (d : MarksDevice) → OnDevice d → Says (command by_plain d)
  unfolding N.command
  command_says d k =
      names_try (names_then (event_ended by_plain d)
      (names_then (λ s _. command_by by_plain (record (event_begun d) { store = s }) d.history.running d.chain)
      (silent_names (hear_stays w 960 (noted_begin d.store) (begun_on d.store k)))
      (λ s _ x. by_says (record (event_begun d) { store = s }) d.history.running d.chain x))
      (λ e a x. silent_names (end_kept d e a x)))
