-- A command leaves a device its plans, and the chain of the program that runs its words and what it goes by; and it answers where memory is had.
-- The acts that come to its history are those that its store has noted. So it is with the second part of a write, with work in the background and with
-- a loss; a reset brings none.
use Rattle.std.proofs.Common.{◌≡◌, ◌∙◌, [], ◌∷◌, ℕ, Bool, List, Option, Some, None, refl, sym, ap, subst}
use Rattle.std.specs.Prelude.{◌==◌, IfSome}
use Rattle.std.proofs.lemmas.Bool.{cond_both}
use Rattle.ckd_types.specs.declared.channel.Ccw.{Ccw}
use Rattle.ckd_types.specs.Fixed.{Fixed}
use Rattle.ckd_chain.specs.declared.mark.Stage.{Stage}
use Rattle.ckd_chain.specs.declared.mark.Stage.TheVariants as stages
use Rattle.ckd_chain.specs.declared.progress.Progress.{Progress}
use Rattle.ckd_chain.specs.declared.progress.Progress.TheVariants as progresses
use Rattle.ckd_chain.specs.declared.progress.Settled.TheVariants.{Equipment, Written}
use Rattle.ckd_chain.specs.State.{ChainState}
use Rattle.ckd_chain.specs.Steps.{opened_by, chain_opened, stage_of, need_of, stepped, stepped_by, step_turned as chain_turned, word_of}
use Rattle.ckd_rules.specs.declared.stance.Stance.{Stance}
use Rattle.ckd_rules.specs.declared.turned.Turned.{Turned}
use Rattle.ckd_rules.specs.declared.turned.Turned.TheVariants as turns
use Rattle.ckd_rules.specs.Look.{look_on}
use Rattle.ckd_rules.specs.Looked.{Looked}
use Rattle.loss_model.specs.declared.Loss.{Loss}
use Rattle.plain_defs.specs.declared.journal.Act.{Act}
use Rattle.plain_defs.specs.History.{History, OpenEntry, has_used}
use Rattle.plain_defs.specs.Journal.{Plans}
use Rattle.plain_device.specs.Acted.{settled_act, paths_behind}
use Rattle.track_image.specs.Image.{Image}
use Rattle.device_outside.specs.Interaction.{Interaction, Done, and_then}
use Rattle.device_defs.specs.declared.answers.Came.{Came}
use Rattle.device_defs.specs.declared.answers.Came.TheVariants.{Ends, Checks, HalfOpen}
use Rattle.device_defs.specs.declared.answers.Did.{Did}
use Rattle.device_defs.specs.declared.answers.Stepped.{Stepped}
use Rattle.device_defs.specs.declared.answers.Took.{Took}
use Rattle.device_defs.specs.declared.answers.Took.TheVariants.{Whole, Opened, Unwritten}
use Rattle.device_defs.specs.Background.{work}
use Rattle.device_defs.specs.Command as commands
use Rattle.device_defs.specs.Command.{came_out, on_tracks, answered_by, command_at, command_by, command, has_loss}
use Rattle.device_defs.specs.Contents.{Contents}
use Rattle.device_defs.specs.Cutting as cutting
use Rattle.device_defs.specs.Cutting.{half_cut, reset_by, reset}
use Rattle.device_defs.specs.Device.{Device, all_acted, event, event_begun, quiet_event, with_store}
use Rattle.device_defs.specs.Events as happened
use Rattle.device_defs.specs.Events.{background, command_ended, lose, losing, second, second_ended, second_of, second_turn}
use Rattle.device_defs.specs.Outcomes.{Turn, ends_with, settles, checks, wrote_turn, turned_by}
use Rattle.device_defs.specs.Owed.{hear, waiting_count}
use Rattle.device_defs.specs.Second.{second_part}
use Rattle.device_defs.specs.Store.{Origin, OfCommand, OfCut, OfBackground, HalfWrite, Store, tracks_of}
use Rattle.device_laws.proofs.Had.{Had, had_done, had_try, had_if, had_then}
use Rattle.device_laws.proofs.PoolWalks.{asks_had, hear_asks, ended_asks}
use Rattle.subsystem_laws.proofs.HadAnswers.{Answers, FirstIs, IsAlong, IsTold, Says, any_had, follow_says, work_says}
use Rattle.deck_run.proofs.Acting.{Brought, brought_none, all_brought, ended_brought, checked_brought, reset_brought}

-- Chains

module _ (Fits : List Ccw → Fixed → Type 0) where
  -- of its words and what it goes by this is so
  abbrev pub IsOf : ChainState → Type 0
  IsOf chain = Fits chain.ccws chain.fixed

  opened_of : (chain : ChainState) (o : Option Stage) → IsOf chain → IsOf (opened_by chain o)
  opened_of chain None k = k
  opened_of chain (Some stage) k = k

  turned_of : (chain : ChainState) (z : Stance) (t : Turned) → IsOf chain → IsOf (chain_turned chain z t).chain
  turned_of chain z (turns.Ended e) k = k
  turned_of chain z turns.Onward k = k
  turned_of chain z (turns.Edits edit e) k = k

  looked_of : (chain : ChainState) (l : Looked) → IsOf chain → IsOf (chain_turned chain l.stance l.turned).chain
  looked_of chain l k = turned_of chain l.stance l.turned k

  stepped_at : (chain : ChainState) (i : Image) (stage : Stage) → IsOf chain → IsOf (stepped_by chain (Some i) stage).chain
  stepped_at chain i stages.Over k = k
  stepped_at chain i (stages.Looks look) k = looked_of chain (look_on i.geometry i.track chain.at.stance (word_of chain) look) k
  stepped_at chain i (stages.Asks act) k = k

  stepped_off : (chain : ChainState) (stage : Stage) → IsOf chain → IsOf (stepped_by chain None stage).chain
  stepped_off chain stages.Over k = k
  stepped_off chain (stages.Looks look) k = k
  stepped_off chain (stages.Asks act) k = k

  stepped_of : (chain : ChainState) (i : Image) → IsOf chain → IsOf (stepped chain (Some i)).chain
  stepped_of chain i k = stepped_at (chain_opened chain) i (stage_of chain) (opened_of chain chain.stage k)

  stepped_alone : (chain : ChainState) → IsOf chain → IsOf (stepped chain None).chain
  stepped_alone chain k = stepped_off (chain_opened chain) (stage_of chain) (opened_of chain chain.stage k)

  wrote_of : (chain : ChainState) (t : ℕ) (took : Took) → IsOf chain → IsOf (wrote_turn chain t took).chain
  wrote_of chain t Whole k = k
  wrote_of chain t Opened k = k
  wrote_of chain t Unwritten k = k

  along : IsAlong (λ chain t. IsOf chain) (λ turn. IsOf turn.chain)
  along = record {
    checked = λ chain t fault k. k;
    ended = λ chain t i e k is. stepped_of chain i k;
    needs = λ chain t i q k is. stepped_of chain i k;
    wrote = λ chain t i took k. wrote_of (stepped chain (Some i)).chain t took (stepped_of chain i k);
    refused = λ chain t i k. stepped_of chain i k;
  }

  -- of a program that runs, if one does
  abbrev pub HasOf : Option ChainState → Type 0
  HasOf o = IfSome o (λ chain. IsOf chain)

-- Events: the notices bring no act, and neither does the end

module _ {F P H R X : Type 0} (c : Contents F P H R) (q : Device F P H → X → Type 0)
    (stays : (d : Device F P H) (z : Store F P H) (a : X) → z.acts ≡ d.store.acts → q d a → q (record d { store = z }) a) where
  pub quiet_had : (d : Device F P H) (body : Device F P H → Interaction R Image (Device F P H) X) → Had (body (event_begun d)) q → Had (quiet_event c d body) q
  quiet_had d body h =
      had_then h
      (λ y a k. had_then (asks_had (ended_asks c (λ z. z.acts ≡ y.store.acts) (λ z t e. e) (waiting_count c d.store) y.store refl))
      (λ z _ e. had_done (stays y z a e k)))

  event_had : (d : Device F P H) (body : Device F P H → Interaction R Image (Device F P H) X) →
      ((s : Store F P H) → s.acts ≡ [] → Had (body (record (event_begun d) { store = s })) q) → Had (event c d body) q
  event_had d body h =
      quiet_had d (λ z. and_then (hear c 960 z.store) (λ s _. body (record z { store = s })))
      (had_then (asks_had (hear_asks c (λ z. z.acts ≡ []) (λ z t clean e. e) 960 (event_begun d).store refl)) (λ s _ e. h s e))

-- Devices

module _ {F P H R : Type 0} (c : Contents F P H R) (Fits : List Ccw → Fixed → Type 0) (plans : Plans) (before : History) where
  -- and these acts came to its history
  pub record Stays (noted : List Act) (d : Device F P H) : Type 0 where
    pub plans_are : d.plans ≡ plans
    pub chain : HasOf Fits d.chain
    pub acts : Brought before d.history noted

  abbrev pub IsNoted : Device F P H → Type 0
  IsNoted d = Stays d.store.acts d

  abbrev Leaves : {X : Type 0} → Interaction R Image (Device F P H) (Option X) → Type 0
  Leaves i = Had i (λ d a. IsNoted d × Answers a)

  -- nothing came yet
  abbrev Begins : Device F P H → Type 0
  Begins d = (d.history ≡ before) × (d.store.acts ≡ [])

  turns_by : (d : Device F P H) (path : ℕ) (chain : ChainState) (came : Came) → d.plans ≡ plans → IsOf Fits chain → Brought before d.history d.store.acts →
      IsNoted (turned_by d path chain came)
  turns_by d path chain (Ends e) same of came =
      cond_both e.over _ _ IsNoted
      (λ _. record { plans_are = same; chain = tt; acts = ended_brought before d.history d.store.acts e came })
      (λ _. record { plans_are = same; chain = of; acts = ended_brought before d.history d.store.acts e came })
  turns_by d path chain (Checks e) same of came =
      record { plans_are = same; chain = tt; acts = checked_brought before d.history d.store.acts e came }
  turns_by d path chain (HalfOpen t) same of came = record { plans_are = same; chain = of; acts = came }

  outs : (d : Device F P H) (path : ℕ) (turn : Turn) → d.plans ≡ plans → IsOf Fits turn.chain → Brought before d.history d.store.acts →
      Leaves (came_out c d path turn)
  outs d path turn same of came = had_done (turns_by d path turn.chain turn.came same of came, tt)

  first_out : (d : Device F P H) (path : ℕ) (turn : Turn) → d.plans ≡ plans → IsOf Fits turn.chain → Begins d → Leaves (came_out c d path turn)
  first_out d path turn same of begins = outs d path turn same of (brought_none before d.history d.store.acts begins.0 begins.1)

  tracks : (d : Device F P H) (path : ℕ) (chain : ChainState) (s : Store F P H) (o : Option Turn) → d.plans ≡ plans → Says (λ turn. IsOf Fits turn.chain) o →
      Begins d → Leaves (on_tracks c d path chain s o)
  tracks d path chain s None same of begins = absurd of
  tracks d path chain s (Some turn) same of begins = outs (with_store d s) path turn same of (all_brought before d.history s.acts begins.0)

  answers : (d : Device F P H) (path : ℕ) (chain : ChainState) (p : Progress) → d.plans ≡ plans → IsOf Fits chain → Begins d →
      Leaves (answered_by c d path chain p)
  answers d path chain (progresses.Ended e) same of begins = first_out d path (ends_with chain e) same of begins
  answers d path chain (progresses.Local act) same of begins =
      first_out (record d { paths = paths_behind d.paths path act }) path (settles chain (settled_act d.store.geometry d.paths path act)) same of begins
  answers d path chain (progresses.Need q) same of begins = first_out d path (checks chain Equipment) same of begins
  answers d path chain (progresses.Write q e) same of begins = first_out d path (checks chain Equipment) same of begins

  at_need : (d : Device F P H) (path : ℕ) (chain : ChainState) (o : Option ℕ) → d.plans ≡ plans → IsOf Fits chain → Begins d →
      Leaves (command_at c d path chain o)
  at_need d path chain (Some t) same of begins =
      had_then (follow_says c (along Fits) (tracks_of d.store) t chain t d.store of) (λ s o l. tracks d path chain s o same l begins)
  at_need d path chain None same of begins =
      had_try (answers d path (stepped chain None).chain (stepped chain None).progress same (stepped_alone Fits chain of) begins)

  by_running : (d : Device F P H) (r : Option OpenEntry) (o : Option ChainState) → Answers r → Answers o → d.plans ≡ plans → HasOf Fits o → Begins d →
      Leaves (command_by c d r o)
  by_running d None o runs has same of begins = absurd runs
  by_running d (Some r) None runs has same of begins = absurd has
  by_running d (Some r) (Some chain) runs has same of begins =
      had_if (has_loss r.acts) (λ _. first_out d r.path (checks chain Equipment) same of begins)
      (λ _. at_need d r.path chain (need_of chain) same of begins)

  noted_on : (d : Device F P H) (z : Store F P H) → z.acts ≡ d.store.acts → IsNoted d → IsNoted (record d { store = z })
  noted_on d z e k =
      record { plans_are = k.plans_are; chain = k.chain; acts = subst (λ (acts : List Act). Brought before d.history acts) (sym e) k.acts }

  -- a command of the program that runs
  pub command_stays : (d : Device F P H) → Answers d.history.running → Answers d.chain → d.plans ≡ plans → HasOf Fits d.chain → d.history ≡ before →
      Leaves (command c d)
  unfolding commands.command
  command_stays d runs has same of at =
      had_try (event_had c (λ y (a : Option Stepped). IsNoted y × Answers a) (λ y z a e k. (noted_on y z e k.0, k.1)) d
      (λ z. command_by c z z.history.running z.chain)
      (λ s none. by_running (record (event_begun d) { store = s }) d.history.running d.chain runs has same of (at, none)))

  -- work in the background
  any_told : IsTold (λ (d : Did). Unit {0}) (λ t. Unit {0})
  any_told = record {
    nothing = tt;
    fault = λ side. tt;
    bad = λ side. tt;
    recovered = λ t at. tt;
    half = λ t at. tt;
    copied = λ t at. tt;
    staged = λ t at. tt;
    skipped = λ t at. tt;
    destaged = λ t at. tt;
  }

  any_first : (l : List ℕ) → FirstIs (λ t. Unit {0}) l
  any_first [] = tt
  any_first (t ∷ ts) = tt

  has_answer : (o : Option Did) → Says (λ (d : Did). Unit {0}) o → Answers o
  has_answer (Some d) h = h
  has_answer None h = h

  pub background_stays : (d : Device F P H) → d.plans ≡ plans → HasOf Fits d.chain → d.history ≡ before → Leaves (background c d)
  unfolding happened.background
  background_stays d same of at =
      event_had c (λ y (a : Option Did). IsNoted y × Answers a) (λ y z a e k. (noted_on y z e k.0, k.1)) d
      (λ z. and_then (work c z.store) (λ s did. Done (with_store z s) did))
      (λ s none. had_then (work_says c any_told s (λ t below. tt) (any_first s.queue))
      (λ z did h. had_done (record { plans_are = same; chain = of; acts = all_brought before d.history z.acts at }, has_answer did h)))

  -- a loss, which brings nothing but these acts
  abbrev pub HasNoted : Device F P H → Type 0
  HasNoted y = IsNoted y × (y.history ≡ all_acted before y.store.acts)

  pub lose_stays : (d : Device F P H) (loss : Loss) → d.plans ≡ plans → HasOf Fits d.chain → d.history ≡ before → Had (lose c d loss) (λ y _. HasNoted y)
  unfolding happened.lose
  lose_stays d loss same of at =
      event_had c (λ y (_ : Unit {0}). HasNoted y)
      (λ y z a e k. (noted_on y z e k.0, k.1 ∙ ap (λ (acts : List Act). all_acted before acts) (sym e))) d
      (λ z. and_then (losing c z.store loss) (λ s _. Done (with_store z s) (tt {0})))
      (λ s none. had_then (any_had (losing c s loss))
      (λ z _ _. had_done
      (record { plans_are = same; chain = of; acts = all_brought before d.history z.acts at }, ap (λ (h : History). all_acted h z.acts) at)))

  -- a reset
  resets_by : (d : Device F P H) (path : ℕ) (r : Option OpenEntry) → Stays [] d → Had (reset_by c d path r) (λ y _. Stays [] y)
  resets_by d path (Some o) k =
      had_if (o.path == path)
      (λ _. had_then (any_had (half_cut c d.store d.store.half))
      (λ s _ _. had_done (record { plans_are = k.plans_are; chain = tt; acts = reset_brought before d.history path _ k.acts })))
      (λ _. had_done (record { plans_are = k.plans_are; chain = k.chain; acts = reset_brought before d.history path 0 k.acts }))
  resets_by d path None k =
      had_if (has_used d.history path)
      (λ _. had_done (record { plans_are = k.plans_are; chain = k.chain; acts = reset_brought before d.history path 0 k.acts }))
      (λ _. had_done k)

  pub reset_stays : (d : Device F P H) (path : ℕ) → Stays [] d → Had (reset c d path) (λ y _. Stays [] y)
  unfolding cutting.reset
  reset_stays d path k = resets_by d path d.history.running k

  -- the second part of a write
  abbrev pub Notes : {X : Type 0} → Interaction R Image (Device F P H) X → Type 0
  Notes i = Had i (λ y _. IsNoted y)

  turn_of : (chain : ChainState) (done : Bool) → IsOf Fits chain → IsOf Fits (second_turn c chain done).chain
  turn_of chain done of =
      cond_both done (settles chain Written) (checks chain Equipment) (λ (turn : Turn). IsOf Fits turn.chain) (λ _. of) (λ _. of)

  command_over : (d : Device F P H) (t : ℕ) (r : Option OpenEntry) (o : Option ChainState) (done : Bool) → IsNoted d → d.chain ≡ o →
      Notes (command_ended c d t r o done)
  command_over d t None o done k at = had_done k
  command_over d t (Some r) None done k at = had_done k
  command_over d t (Some r) (Some chain) done k at =
      let turn = second_turn c chain done in
      had_done (turns_by d r.path turn.chain turn.came k.plans_are (turn_of chain done (subst (HasOf Fits) at k.chain)) k.acts)

  second_over : (d : Device F P H) (t : ℕ) (origin : Origin) (done : Bool) → IsNoted d → Notes (second_ended c d t origin done)
  second_over d t (OfCommand bypass e) done k = command_over d t d.history.running d.chain done k refl
  second_over d t (OfCut bypass) done k = had_done k
  second_over d t OfBackground done k = had_done k

  seconds_of : (d : Device F P H) (o : Option (HalfWrite H)) → d.plans ≡ plans → HasOf Fits d.chain → Begins d → Notes (second_of c d o)
  seconds_of d None same of begins =
      had_done (record { plans_are = same; chain = of; acts = brought_none before d.history d.store.acts begins.0 begins.1 })
  seconds_of d (Some h) same of begins =
      had_then (any_had (second_part c d.store h))
      (λ s done _. second_over (with_store d s) h.track h.origin done
      (record { plans_are = same; chain = of; acts = all_brought before d.history s.acts begins.0 }))

  pub second_stays : (d : Device F P H) → d.plans ≡ plans → HasOf Fits d.chain → d.history ≡ before → Notes (second c d)
  unfolding happened.second
  second_stays d same of at =
      event_had c (λ y _. IsNoted y) (λ y z a e k. noted_on y z e k) d (λ z. second_of c z z.store.half)
      (λ s none. seconds_of (record (event_begun d) { store = s }) s.half same of (at, none))
