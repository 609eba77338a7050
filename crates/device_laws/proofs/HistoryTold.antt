-- What an event makes of a device's history, by what it answers.
use Rattle.std.proofs.Common.{◌≡◌, ℕ, Bool, true, false, List, [], Option, Some, None, refl, sym, subst}
use Rattle.std.specs.Prelude.{if◌then◌else◌}
use Rattle.std.proofs.lemmas.Bool.{cond_both}
use Rattle.ckd_types.specs.declared.channel.CommandEnd.{CommandEnd}
use Rattle.ckd_chain.specs.declared.progress.Progress.{Progress}
use Rattle.ckd_chain.specs.declared.progress.Progress.TheVariants as progresses
use Rattle.ckd_chain.specs.declared.progress.Settled.TheVariants.{Written, Equipment}
use Rattle.ckd_chain.specs.State.{ChainState}
use Rattle.ckd_chain.specs.Steps.{need_of, stepped}
use Rattle.loss_model.specs.declared.Loss.{Loss}
use Rattle.plain_defs.specs.declared.journal.Act.{Act}
use Rattle.plain_defs.specs.History.{OpenEntry, History, ended as history_ended, checked}
use Rattle.plain_device.specs.Acted.{settled_act, paths_behind}
use Rattle.track_image.specs.Image.{Image}
use Rattle.device_outside.specs.Interaction.{Interaction, Done, and_then}
use Rattle.device_defs.specs.declared.answers.Came.{Came}
use Rattle.device_defs.specs.declared.answers.Came.TheVariants as came
use Rattle.device_defs.specs.declared.answers.Did.{Did}
use Rattle.device_defs.specs.declared.answers.SecondEnd.{SecondEnd}
use Rattle.device_defs.specs.declared.answers.SecondEnd.TheVariants as seconds
use Rattle.device_defs.specs.declared.answers.Stepped.{Stepped}
use Rattle.device_defs.specs.declared.answers.Stepped.TheVariants as steps
use Rattle.device_defs.specs.Background.{work}
use Rattle.device_defs.specs.Command as N
use Rattle.device_defs.specs.Command.{has_loss, came_out, on_tracks, answered_by, command_at, command_by, command, follow}
use Rattle.device_defs.specs.Contents.{Contents}
use Rattle.device_defs.specs.Device.{Device, all_acted, with_store, event_begun, event_ended, event}
use Rattle.device_defs.specs.Events as V
use Rattle.device_defs.specs.Events.{losing, lose, background, second_told, second_turn, command_ended, second_ended, second_of, second}
use Rattle.device_defs.specs.Orders as O
use Rattle.device_defs.specs.Orders.{lend}
use Rattle.device_defs.specs.Outcomes.{Turn, settles, checks, ends_with, told_step, turned, turned_by, sense_kept, program_over, again}
use Rattle.device_defs.specs.Owed.{hear, noted_end, waiting_count}
use Rattle.device_defs.specs.Peek as Y
use Rattle.device_defs.specs.Peek.{Peeked, peek_track, peek}
use Rattle.device_defs.specs.Second.{second_part}
use Rattle.device_defs.specs.Store.{Origin, OfCommand, OfCut, OfBackground, HalfWrite, Store, tracks_of}
use Rattle.device_laws.proofs.Always.{Always, always_done, always_try, always_then}
use Rattle.device_laws.proofs.DeviceCuts.{always_any}

-- only acts came to it
pub data HasActed (h : History) : History → Type 0 where
  acted_so : (acts : List Act) → HasActed h (all_acted h acts)

-- behind these a command ended, or was checked
pub data HasEnded (h : History) (e : CommandEnd) : History → Type 0 where
  ended_so : (acts : List Act) → HasEnded h e (history_ended (all_acted h acts) e)
  checked_so : (acts : List Act) → HasEnded h e (checked (all_acted h acts) e)

abbrev pub StepTold : History → History → Option Stepped → Type 0
StepTold h k (Some (steps.Ended e)) = HasEnded h e k
StepTold h k (Some (steps.Half t)) = HasActed h k
StepTold h k None = HasActed h k

abbrev pub SecondTold : History → History → SecondEnd → Type 0
SecondTold h k (seconds.Ended e) = HasEnded h e k
SecondTold h k (seconds.Finished t) = HasActed h k
SecondTold h k (seconds.Unwritten t) = HasActed h k

module _ {F P H : Type 0} where
  abbrev TurnTold : History → Device F P H → Came → Type 0
  TurnTold h y (came.Ends e) = HasEnded h e y.history
  TurnTold h y (came.Checks e) = HasEnded h e y.history
  TurnTold h y (came.HalfOpen t) = HasActed h y.history

  by_came : (h : History) (acts : List Act) (d : Device F P H) → d.history ≡ all_acted h acts → (path : ℕ) (chain : ChainState) (k : Came) →
      TurnTold h (turned_by d path chain k) k
  by_came h acts d is path chain (came.Ends e) =
      cond_both e.over (program_over (sense_kept d path e) (history_ended d.history e))
      (record (sense_kept d path e) { chain = Some chain; history = history_ended d.history e }) (λ (y : Device F P H). HasEnded h e y.history)
      (λ _. subst (λ (k : History). HasEnded h e (history_ended k e)) (sym is) (ended_so acts))
      (λ _. subst (λ (k : History). HasEnded h e (history_ended k e)) (sym is) (ended_so acts))
  by_came h acts d is path chain (came.Checks e) = subst (λ (k : History). HasEnded h e (checked k e)) (sym is) (checked_so acts)
  by_came h acts d is path chain (came.HalfOpen t) = subst (HasActed h) (sym is) (acted_so acts)

  step_by : (h : History) (y : Device F P H) (k : Came) → TurnTold h y k → StepTold h y.history (Some (told_step k))
  step_by h y (came.Ends e) t = t
  step_by h y (came.Checks e) t = t
  step_by h y (came.HalfOpen q) t = t

  turn_told : (h : History) (acts : List Act) (d : Device F P H) → d.history ≡ all_acted h acts → (path : ℕ) (turn : Turn) →
      StepTold h (turned d path turn).history (Some (told_step turn.came))
  turn_told h acts d is path turn = step_by h (turned d path turn) turn.came (by_came h acts d is path turn.chain turn.came)

module _ {F P H R : Type 0} (c : Contents F P H R) where
  pub event_history : {A : Type 0} (d : Device F P H) (body : Device F P H → Interaction R Image (Device F P H) A) (q : History → A → Type 0) →
      ((s : Store F P H) → Always (body (record (event_begun d) { store = s })) (λ y a. q y.history a)) → Always (event c d body) (λ y a. q y.history a)
  event_history d body q h =
      always_then {p = λ y a. q y.history a} (always_then (always_any (hear c 960 (event_begun d).store)) (λ s _ _. h s))
      (λ y a g. always_then (always_any (noted_end c (waiting_count c d.store) y.store)) (λ z _ _. always_done g))

  pub loss_told : (d : Device F P H) (loss : Loss) → Always (lose c d loss) (λ y (_ : Unit {0}). HasActed d.history y.history)
  unfolding V.lose
  loss_told d loss =
      event_history d (λ z. and_then (losing c z.store loss) (λ s _. Done (with_store z s) tt)) (λ h _. HasActed d.history h)
      (λ s. always_then (always_any (losing c s loss)) (λ z _ _. always_done (acted_so z.acts)))

  pub background_told : (d : Device F P H) → Always (background c d) (λ y (_ : Option Did). HasActed d.history y.history)
  unfolding V.background
  background_told d =
      event_history d (λ z. and_then (work c z.store) (λ s did. Done (with_store z s) did)) (λ h _. HasActed d.history h)
      (λ s. always_then (always_any (work c s)) (λ z _ _. always_done (acted_so z.acts)))

  pub peek_told : (d : Device F P H) (t : ℕ) → Always (peek c d t) (λ y (_ : Option Peeked). HasActed d.history y.history)
  unfolding Y.peek
  peek_told d t =
      always_then
      (always_then (always_any (peek_track c (event_begun d).store t)) (λ z (found : Option Peeked) _. always_done (acted_so z.acts)))
      (λ y a g. always_then (always_any (noted_end c (waiting_count c d.store) y.store)) (λ z _ _. always_done g))

  pub lend_told : (d : Device F P H) (to : ℕ) → Always (lend c d to) (λ y (_ : Unit {0}). y.history ≡ d.history)
  unfolding O.lend
  lend_told d to =
      always_then {S = Device F P H} {A = Unit {0}} {f = event_ended c d} {p = λ y _. y.history ≡ d.history} (always_done refl)
      (λ y a g. always_then (always_any (noted_end c (waiting_count c d.store) y.store)) (λ z _ _. always_done g))

  -- A command

  module _ (d : Device F P H) where
    abbrev Told : Device F P H → Option Stepped → Type 0
    Told y a = StepTold d.history y.history a

    module _ (s : Store F P H) where
      abbrev here : Device F P H
      here = record (event_begun d) { store = s }

      out_told : (y : Device F P H) (acts : List Act) → y.history ≡ all_acted d.history acts → (path : ℕ) (turn : Turn) →
          Always (came_out c y path turn) Told
      out_told y acts is path turn = always_done (turn_told d.history acts y is path turn)

      tracks_told : (path : ℕ) (chain : ChainState) (z : Store F P H) (a : Option Turn) → Always (on_tracks c here path chain z a) Told
      tracks_told path chain z (Some turn) = out_told (with_store here z) z.acts refl path turn
      tracks_told path chain z None = always_done (acted_so z.acts)

      answer_told : (path : ℕ) (chain : ChainState) (k : Progress) → Always (answered_by c here path chain k) Told
      answer_told path chain (progresses.Ended e) = out_told here [] refl path (ends_with chain e)
      answer_told path chain (progresses.Local act) =
          out_told (record here { paths = paths_behind d.paths path act }) [] refl path (settles chain (settled_act s.geometry d.paths path act))
      answer_told path chain (progresses.Need t) = out_told here [] refl path (checks chain Equipment)
      answer_told path chain (progresses.Write t e) = out_told here [] refl path (checks chain Equipment)

      paths_by : (path : ℕ) (chain : ChainState) (ok : Bool) →
          Always (if ok then answered_by c here path (stepped chain None).chain (stepped chain None).progress else Done (again here chain) None) Told
      paths_by path chain true = answer_told path (stepped chain None).chain (stepped chain None).progress
      paths_by path chain false = always_done (acted_so [])

      at_told : (path : ℕ) (chain : ChainState) (t : Option ℕ) → Always (command_at c here path chain t) Told
      at_told path chain (Some t) =
          always_then (always_any (follow c (tracks_of s) t chain t s)) (λ z a _. tracks_told path chain z a)
      at_told path chain None = always_try (paths_by path chain)

      by_told : (r : Option OpenEntry) (k : Option ChainState) → Always (command_by c here r k) Told
      by_told (Some o) (Some chain) =
          cond_both (has_loss o.acts) (came_out c here o.path (checks chain Equipment)) (command_at c here o.path chain (need_of chain)) (λ i. Always i Told)
          (λ _. out_told here [] refl o.path (checks chain Equipment)) (λ _. at_told o.path chain (need_of chain))
      by_told (Some o) None = always_done (acted_so [])
      by_told None k = always_done (acted_so [])

    tried_told : (ok : Bool) →
        Always (if ok then event c d (λ z. command_by c z z.history.running z.chain) else Done d None) Told
    tried_told true = event_history d (λ z. command_by c z z.history.running z.chain) (StepTold d.history) (λ s. by_told s d.history.running d.chain)
    tried_told false = always_done (acted_so [])

    pub command_told : Always (command c d) Told
    unfolding N.command
    command_told = always_try tried_told

    -- The other part of a write

    abbrev Seconded : Device F P H → SecondEnd → Type 0
    Seconded y a = SecondTold d.history y.history a

    done_told : (s : Store F P H) (z : Store F P H) (t : ℕ) (o : OpenEntry) (chain : ChainState) (done : Bool) →
        Seconded (turned (with_store (here s) z) o.path (second_turn c chain done)) (second_told c t (second_turn c chain done).came)
    done_told s z t o chain true =
        by_came d.history z.acts (with_store (here s) z) refl o.path (settles chain Written).chain (settles chain Written).came
    done_told s z t o chain false =
        by_came d.history z.acts (with_store (here s) z) refl o.path (checks chain Equipment).chain (checks chain Equipment).came

    over_told : (s : Store F P H) (z : Store F P H) (t : ℕ) (r : Option OpenEntry) (k : Option ChainState) (done : Bool) →
        Always (command_ended c (with_store (here s) z) t r k done) Seconded
    over_told s z t (Some o) (Some chain) done = always_done (done_told s z t o chain done)
    over_told s z t (Some o) None done = always_done (acted_so z.acts)
    over_told s z t None k done = always_done (acted_so z.acts)

    plainly_told : (z : Store F P H) (t : ℕ) (done : Bool) → SecondTold d.history (all_acted d.history z.acts) (if done then seconds.Finished t
        else seconds.Unwritten t)
    plainly_told z t true = acted_so z.acts
    plainly_told z t false = acted_so z.acts

    origin_told : (s : Store F P H) (z : Store F P H) (t : ℕ) (origin : Origin) (done : Bool) →
        Always (second_ended c (with_store (here s) z) t origin done) Seconded
    origin_told s z t (OfCommand bypass e) done = over_told s z t (all_acted d.history z.acts).running d.chain done
    origin_told s z t (OfCut bypass) done = always_done (plainly_told z t done)
    origin_told s z t OfBackground done = always_done (plainly_told z t done)

    half_told : (s : Store F P H) (h : Option (HalfWrite H)) → Always (second_of c (here s) h) Seconded
    half_told s (Some h) = always_then (always_any (second_part c s h)) (λ z done _. origin_told s z h.track h.origin done)
    half_told s None = always_done (acted_so [])

    pub second_event_told : Always (second c d) Seconded
    unfolding V.second
    second_event_told = event_history d (λ z. second_of c z z.store.half) (SecondTold d.history) (λ s. half_told s s.half)
