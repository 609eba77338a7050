-- The chain of a device's running program is on the device behind each of its events.
use Rattle.std.proofs.Common.{◌<◌, ◌==◌, zero, suc, ℕ, Bool, true, false, Option, Some, None}
use Rattle.std.specs.Prelude.{if◌then◌else◌}
use Rattle.ckd_chain.specs.declared.progress.Progress.{Progress}
use Rattle.ckd_chain.specs.declared.progress.Progress.TheVariants as progresses
use Rattle.ckd_chain.specs.declared.progress.Settled.TheVariants.{Equipment, DataCheck, Written}
use Rattle.ckd_chain.specs.State.{ChainState}
use Rattle.ckd_chain.specs.Steps.{need_of, stepped}
use Rattle.loss_model.specs.declared.Loss.{Loss}
use Rattle.plain_defs.specs.History.{OpenEntry, History, has_used, ended as history_ended}
use Rattle.plain_device.specs.Acted.{settled_act, paths_behind}
use Rattle.track_image.specs.Image.{Image}
use Rattle.device_outside.specs.Interaction.{Interaction, Done, and_then}
use Rattle.device_defs.specs.declared.answers.Came.{Came}
use Rattle.device_defs.specs.declared.answers.Came.TheVariants.{Ends, Checks, HalfOpen}
use Rattle.device_defs.specs.declared.answers.Did.{Did}
use Rattle.device_defs.specs.declared.answers.Took.{Took}
use Rattle.device_defs.specs.declared.answers.Took.TheVariants.{Whole, Opened, Unwritten}
use Rattle.device_defs.specs.declared.usage.Usage.{Usage}
use Rattle.device_defs.specs.Background.{work}
use Rattle.device_defs.specs.Command as N
use Rattle.device_defs.specs.Command.{
  Went,
  Over,
  On,
  has_loss,
  came_of_write,
  went_by,
  looked,
  look,
  goes_on,
  follow,
  came_out,
  on_tracks,
  answered_by,
  command_at,
  command_by,
  command,
}
use Rattle.device_defs.specs.Contents.{Contents}
use Rattle.device_defs.specs.Cutting as U
use Rattle.device_defs.specs.Cutting.{half_cut, path_cut, reset_noted, reset_by, reset, powered_off, power}
use Rattle.device_defs.specs.Device.{Device, with_store, event_begun, quiet_event, event}
use Rattle.device_defs.specs.Editing.{write}
use Rattle.device_defs.specs.Events as E
use Rattle.device_defs.specs.Events.{losing, lose, second_turn, command_ended, second_ended, second_of, second, background}
use Rattle.device_defs.specs.Image.{Imaged, Has, NoBytes, BadTrack, image}
use Rattle.device_defs.specs.Losses.{over}
use Rattle.device_defs.specs.Memory.{had_by}
use Rattle.device_defs.specs.Orders as O
use Rattle.device_defs.specs.Orders.{with_tracks, lent_to, given_up, lend}
use Rattle.device_defs.specs.Outcomes.{Turn, ends_with, settles, checks, wrote_turn, usage_of, sense_kept, program_over, turned_by}
use Rattle.device_defs.specs.Owed.{hear, waiting_count, noted_end}
use Rattle.device_defs.specs.Peek as Y
use Rattle.device_defs.specs.Peek.{Peeked, peek_track, peek}
use Rattle.device_defs.specs.Second.{second_part}
use Rattle.device_defs.specs.Store.{Origin, OfCommand, OfCut, OfBackground, HalfWrite, Store, tracks_of, is_lost}
use Rattle.device_laws.proofs.Always.{Always, always_done, always_try, always_then}
use Rattle.device_laws.proofs.KeptEvents.{always_any, always_if}
use Rattle.subsystem_laws.proofs.ChainPlaces.{ChainIsOn, settled_on, stepped_on, again_on}

abbrev pub HasChainOn : ℕ → Option ChainState → Type 0
HasChainOn k (Some chain) = ChainIsOn k chain
HasChainOn k None = Unit {0}

module _ {F P H R : Type 0} (c : Contents F P H R) (k : ℕ) (some : 0 < k) where
  abbrev WentOn : Option Went → Type 0
  WentOn None = Unit {0}
  WentOn (Some (Over turn)) = ChainIsOn k turn.chain
  WentOn (Some (On chain q)) = ChainIsOn k chain

  abbrev TurnOn : Option Turn → Type 0
  TurnOn None = Unit {0}
  TurnOn (Some turn) = ChainIsOn k turn.chain

  wrote_on : (chain : ChainState) (t : ℕ) (took : Took) → ChainIsOn k chain → ChainIsOn k (wrote_turn chain t took).chain
  wrote_on chain t Whole on = settled_on k some chain Written on
  wrote_on chain t Opened on = on
  wrote_on chain t Unwritten on = settled_on k some chain Equipment on

  came_on : (chain : ChainState) (t : ℕ) (s : Store F P H) (o : Option Took) → ChainIsOn k chain →
      Always (had_by (came_of_write c chain t) s o) (λ y b. WentOn b)
  came_on chain t s (Some took) on = always_done (wrote_on chain t took on)
  came_on chain t s None on = always_done tt

  went_on : (u : Usage) (first t : ℕ) (s : Store F P H) (i : Image) (chain : ChainState) (p : Progress) → ChainIsOn k chain →
      Always (went_by c u first t s i chain p) (λ y b. WentOn b)
  went_on u first t s i chain (progresses.Ended e) on = always_done on
  went_on u first t s i chain (progresses.Need q) on = always_done on
  went_on u first t s i chain (progresses.Write q e) on =
      always_then (always_any (write c s u first t i e)) (λ z o _. came_on chain t z o on)
  went_on u first t s i chain (progresses.Local act) on = always_done (settled_on k some chain Equipment on)

  looked_on : (chain : ChainState) (first t : ℕ) (s : Store F P H) (o : Option Imaged) → ChainIsOn k chain →
      Always (had_by (looked c chain first t) s o) (λ y b. WentOn b)
  looked_on chain first t s None on = always_done tt
  looked_on chain first t s (Some (Has i)) on =
      always_try (λ ok. always_if ok
      (went_on (usage_of chain) first t s i (stepped chain (Some i)).chain (stepped chain (Some i)).progress (stepped_on k some chain (Some i) on))
      (always_done tt))
  looked_on chain first t s (Some (NoBytes fault)) on = always_done (settled_on k some chain Equipment on)
  looked_on chain first t s (Some (BadTrack side)) on = always_done (settled_on k some chain DataCheck on)

  look_on : (chain : ChainState) (first t : ℕ) (s : Store F P H) → ChainIsOn k chain → Always (look c chain first t s) (λ y b. WentOn b)
  unfolding N.look
  look_on chain first t s on =
      always_if (is_lost s t) (always_done (settled_on k some chain Equipment on))
      (always_then (always_any (image c s (usage_of chain) t)) (λ z o _. looked_on chain first t z o on))

  next_on : (next : ChainState → ℕ → Store F P H → Interaction R Image (Store F P H) (Option Turn)) →
      ((chain : ChainState) (t : ℕ) (s : Store F P H) → ChainIsOn k chain → Always (next chain t s) (λ z a. TurnOn a)) → (s : Store F P H) (o : Option Went) →
      WentOn o → Always (had_by (goes_on c next) s o) (λ z a. TurnOn a)
  next_on next more s None on = always_done tt
  next_on next more s (Some (Over turn)) on = always_done on
  next_on next more s (Some (On chain t)) on = more chain t s on

  follow_on : (m first : ℕ) (chain : ChainState) (t : ℕ) (s : Store F P H) → ChainIsOn k chain → Always (follow c m first chain t s) (λ z a. TurnOn a)
  unfolding N.follow
  follow_on zero first chain t s on = always_done (settled_on k some chain Equipment on)
  follow_on (suc m) first chain t s on =
      always_then (look_on chain first t s on) (λ z o h. next_on (follow c m first) (λ x q y f. follow_on m first x q y f) z o h)

  -- The device

  abbrev Leaves : {A : Type 0} → Interaction R Image (Device F P H) A → Type 0
  Leaves i = Always i (λ y _. HasChainOn k y.chain)

  over_on : (d : Device F P H) (h : History) (chain : ChainState) (b : Bool) → ChainIsOn k chain →
      HasChainOn k (if b then program_over d h else record d { chain = Some chain; history = h }).chain
  over_on d h chain true on = tt
  over_on d h chain false on = on

  turned_on : (d : Device F P H) (path : ℕ) (chain : ChainState) (came : Came) → ChainIsOn k chain → HasChainOn k (turned_by d path chain came).chain
  turned_on d path chain (Ends e) on = over_on (sense_kept d path e) (history_ended d.history e) chain e.over on
  turned_on d path chain (Checks e) on = tt
  turned_on d path chain (HalfOpen t) on = on

  out_on : (d : Device F P H) (path : ℕ) (turn : Turn) → ChainIsOn k turn.chain → Leaves (came_out c d path turn)
  out_on d path turn on = always_done (turned_on d path turn.chain turn.came on)

  tracks_on : (d : Device F P H) (path : ℕ) (chain : ChainState) (s : Store F P H) (o : Option Turn) → ChainIsOn k chain → TurnOn o →
      Leaves (on_tracks c d path chain s o)
  tracks_on d path chain s (Some turn) on f = out_on (with_store d s) path turn f
  tracks_on d path chain s None on f = always_done (again_on k some chain on)

  answered_on : (d : Device F P H) (path : ℕ) (chain : ChainState) (p : Progress) → ChainIsOn k chain → Leaves (answered_by c d path chain p)
  answered_on d path chain (progresses.Ended e) on = out_on d path (ends_with chain e) on
  answered_on d path chain (progresses.Local act) on =
      let how = settled_act d.store.geometry d.paths path act in
      out_on (record d { paths = paths_behind d.paths path act }) path (settles chain how) (settled_on k some chain how on)
  answered_on d path chain (progresses.Need q) on = out_on d path (checks chain Equipment) (settled_on k some chain Equipment on)
  answered_on d path chain (progresses.Write q e) on = out_on d path (checks chain Equipment) (settled_on k some chain Equipment on)

  at_on : (d : Device F P H) (path : ℕ) (chain : ChainState) (o : Option ℕ) → ChainIsOn k chain → Leaves (command_at c d path chain o)
  at_on d path chain (Some t) on =
      always_then (follow_on (tracks_of d.store) t chain t d.store on) (λ s o f. tracks_on d path chain s o on f)
  at_on d path chain None on =
      always_try (λ ok. always_if ok
      (answered_on d path (stepped chain None).chain (stepped chain None).progress (stepped_on k some chain None on))
      (always_done (again_on k some chain on)))

  by_on : (d : Device F P H) (o : Option OpenEntry) (x : Option ChainState) → HasChainOn k x → HasChainOn k d.chain → Leaves (command_by c d o x)
  by_on d (Some o) (Some chain) on f =
      always_if (has_loss o.acts) (out_on d o.path (checks chain Equipment) (settled_on k some chain Equipment on))
      (at_on d o.path chain (need_of chain) on)
  by_on d (Some o) None on f = always_done f
  by_on d None x on f = always_done f

  quiet_on : {A : Type 0} (d : Device F P H) (body : Device F P H → Interaction R Image (Device F P H) A) → Leaves (body (event_begun d)) →
      Leaves (quiet_event c d body)
  quiet_on d body does =
      always_then does (λ y a g. always_then (always_any (noted_end c (waiting_count c d.store) y.store)) (λ z _ _. always_done g))

  event_on : {A : Type 0} (d : Device F P H) (body : Device F P H → Interaction R Image (Device F P H) A) →
      ((s : Store F P H) → Leaves (body (record (event_begun d) { store = s }))) → Leaves (event c d body)
  event_on d body does =
      quiet_on d (λ z. and_then (hear c 960 z.store) (λ s _. body (record z { store = s })))
      (always_then (always_any (hear c 960 (event_begun d).store)) (λ s _ _. does s))

  pub command_on : (d : Device F P H) → HasChainOn k d.chain → Leaves (command c d)
  unfolding N.command
  command_on d on =
      always_try (λ ok. always_if ok
      (event_on d (λ z. command_by c z z.history.running z.chain)
      (λ s. by_on (record (event_begun d) { store = s }) d.history.running d.chain on on))
      (always_done on))

  turn_on : (chain : ChainState) (done : Bool) → ChainIsOn k chain → ChainIsOn k (second_turn c chain done).chain
  turn_on chain true on = settled_on k some chain Written on
  turn_on chain false on = settled_on k some chain Equipment on

  ended_on : (d : Device F P H) (t : ℕ) (o : Option OpenEntry) (x : Option ChainState) (done : Bool) → HasChainOn k x → HasChainOn k d.chain →
      Leaves (command_ended c d t o x done)
  ended_on d t (Some o) (Some chain) done on f =
      let turn = second_turn c chain done in always_done (turned_on d o.path turn.chain turn.came (turn_on chain done on))
  ended_on d t (Some o) None done on f = always_done f
  ended_on d t None x done on f = always_done f

  second_end_on : (d : Device F P H) (t : ℕ) (origin : Origin) (done : Bool) → HasChainOn k d.chain → Leaves (second_ended c d t origin done)
  second_end_on d t (OfCommand bypass e) done on = ended_on d t d.history.running d.chain done on on
  second_end_on d t (OfCut bypass) done on = always_done on
  second_end_on d t OfBackground done on = always_done on

  of_half_on : (d : Device F P H) (o : Option (HalfWrite H)) → HasChainOn k d.chain → Leaves (second_of c d o)
  of_half_on d (Some h) on =
      always_then (always_any (second_part c d.store h)) (λ s done _. second_end_on (with_store d s) h.track h.origin done on)
  of_half_on d None on = always_done on

  pub second_on : (d : Device F P H) → HasChainOn k d.chain → Leaves (second c d)
  unfolding E.second
  second_on d on =
      event_on d (λ z. second_of c z z.store.half) (λ s. of_half_on (record (event_begun d) { store = s }) s.half on)

  pub background_on : (d : Device F P H) → HasChainOn k d.chain → Leaves (background c d)
  unfolding E.background
  background_on d on =
      event_on d (λ z. and_then (work c z.store) (λ s did. Done (with_store z s) did))
      (λ s. always_then (always_any (work c s)) (λ y (did : Option Did) _. always_done on))

  pub peek_on : (d : Device F P H) (t : ℕ) → HasChainOn k d.chain → Leaves (peek c d t)
  unfolding Y.peek
  peek_on d t on =
      quiet_on d (λ z. and_then (peek_track c z.store t) (λ s found. Done (with_store z s) found))
      (always_then (always_any (peek_track c (event_begun d).store t)) (λ s (found : Option Peeked) _. always_done on))

  pub lose_on : (d : Device F P H) (loss : Loss) → HasChainOn k d.chain → Leaves (lose c d loss)
  unfolding E.lose
  lose_on d loss on =
      event_on d (λ z. and_then (losing c z.store loss) (λ s _. Done (with_store z s) tt))
      (λ s. always_then (always_any (losing c s loss)) (λ y _ _. always_done on))

  pub power_on : (d : Device F P H) → Leaves (power c d)
  unfolding U.power
  power_on d =
      quiet_on d (λ z. and_then (half_cut c z.store z.store.half) (λ s _. Done (powered_off c z s) tt))
      (always_then (always_any (half_cut c (event_begun d).store (event_begun d).store.half)) (λ s _ _. always_done tt))

  reset_by_on : (d : Device F P H) (path : ℕ) (o : Option OpenEntry) → HasChainOn k d.chain → Leaves (reset_by c d path o)
  reset_by_on d path (Some o) on =
      always_if (o.path == path) (always_then (always_any (half_cut c d.store d.store.half)) (λ s _ _. always_done tt)) (always_done on)
  reset_by_on d path None on = always_if (has_used d.history path) (always_done on) (always_done on)

  pub reset_on : (d : Device F P H) (path : ℕ) → HasChainOn k d.chain → Leaves (reset c d path)
  unfolding U.reset
  reset_on d path on = reset_by_on d path d.history.running on

  pub lend_on : (d : Device F P H) (to : ℕ) → HasChainOn k d.chain → Leaves (lend c d to)
  unfolding O.lend
  lend_on d to on =
      quiet_on d (λ z. Done (with_tracks z (lent_to (over (tracks_of z.store) (given_up c) z.store) to)) tt) (always_done on)
