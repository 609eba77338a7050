-- From what an event of the code came to, to what happens in a run.
use Rattle.std.proofs.Common.{◌≡◌, ◌≤◌, ◌∙◌, arith, ℕ, Bool, true, false, List, [], ◌∷◌, Option, Some, None, refl, sym, ap, subst}
use Rattle.std.specs.Prelude.{Result, Ok, Err, OnOk, option_map, is_some, IfSome, IsSome, ◌+◌, ◌==◌, if◌then◌else◌}
use Rattle.std.proofs.lemmas.Bool.{cond_both}
use Rattle.std.proofs.lemmas.Bool.Decides.{nat_tests}
use Rattle.ckd_types.specs.declared.channel.Ccw.{Ccw}
use Rattle.ckd_types.specs.Fixed.{Fixed}
use Rattle.ckd_types.specs.declared.geometry.Geometry.{Geometry}
use Rattle.ckd_types.specs.declared.paths.Side.{Side}
use Rattle.loss_model.specs.declared.Loss.{Loss}
use Rattle.loss_model.specs.declared.Loss.TheVariants as losses
use Rattle.ckd_chain.specs.State.{ChainState}
use Rattle.plain_defs.specs.History.{History, is_path_of}
use Rattle.track_image.specs.Image.{Image}
use Rattle.device_outside.specs.declared.keep.NoKeep.{NoKeep}
use Rattle.device_outside.specs.declared.volume.Volume.{Ghosts}
use Rattle.device_outside.specs.Lists as lists
use Rattle.device_outside.specs.Lists.{is_in}
use Rattle.device_outside.specs.Keeper.{Message, ReplyTo, reply}
use Rattle.device_outside.specs.Outside.{Ran}
use Rattle.device_outside.specs.Pool as pools
use Rattle.device_defs.specs.declared.answers.StartFault.{StartFault}
use Rattle.device_defs.specs.declared.answers.Stepped as defs
use Rattle.device_defs.specs.declared.counts.Counts.{Counts}
use Rattle.device_defs.specs.Command.{command}
use Rattle.device_defs.specs.declared.answers.Did.{Did}
use Rattle.device_defs.specs.Contents.{contents}
use Rattle.device_defs.specs.Events.{background, lose, second}
use Rattle.device_defs.specs.Cutting.{reset}
use Rattle.device_defs.specs.Orders.{hold_side, resume}
use Rattle.device_defs.specs.Start as starting
use Rattle.device_defs.specs.Start.{start_fault, start, started_count}
use Rattle.device_laws.proofs.BasedEvents.{background_based, command_based, lose_based, reset_body, second_based}
use Rattle.device_laws.proofs.Had.{Had, had_done, had_then, had_weaker}
use Rattle.device_laws.proofs.PlainEvents.{had_both}
use Rattle.subsystem_laws.proofs.HadAnswers.{Answers}
use Rattle.plain_defs.specs.declared.journal.Act.{Act}
use Rattle.device_core.specs.declared.device.Device.{Device}
use Rattle.device_core.specs.declared.history.Running.{Running}
use Rattle.device_core.specs.Kept.{open_of, chain_of}
use Rattle.device_core.specs.State.{DefinedDevice, device_of, last_end}
use Rattle.frame_pool.specs.Shared.{shared_view}
use Rattle.subsystem_defs.specs.declared.end.EventEnd as ends
use Rattle.subsystem_defs.specs.declared.end.EventEnd.TheVariants as answers
use Rattle.subsystem_defs.specs.declared.end.OrderFault.{OrderFault}
use Rattle.subsystem_defs.specs.declared.event.Event.{Event}
use Rattle.subsystem_defs.specs.declared.event.Event.TheVariants as events
use Rattle.subsystem_defs.specs.Deeds as deeds
use Rattle.subsystem_defs.specs.Deeds.{Ends, Becomes, Asks, Each, Repairs, Lends, ends_by, may_end_by, ends_done, end_of, start_by, starts, step, back, on_device, order, seconds, deed}
use Rattle.subsystem_defs.specs.Happening.{happens}
use Rattle.subsystem_defs.specs.Refusals.{fail_fault, resume_fault, suspend_fault}
use Rattle.subsystem_defs.specs.Subsystem as runs
use Rattle.subsystem_core.specs.declared.end.EventEnd.{EventEnd}
use Rattle.subsystem_core.specs.declared.subsystem.Subsystem.{Subsystem}
use Rattle.subsystem_core.specs.Comes.{OwnDeed, Talk, CameBy, Came}
use Rattle.subsystem_core.specs.Devices.{numbers_of, devices_of, device_at, put_at}
use Rattle.subsystem_core.specs.Ends.{end_seen}
use Rattle.subsystem_core.specs.Places.{may_come}
use Rattle.subsystem_core.proofs.Found.{number_found, found_in}
use Rattle.subsystem_laws.specs.WholeComes as laws
use Rattle.subsystem_laws.specs.WholeComes.{subsystem_of, IsWhatCame}
use Rattle.subsystem_laws.proofs.WholeHappens.{event_so}
use Rattle.plain_defs.specs.Whole.{GiveBytes, GivesAll}
use Rattle.deck_run.specs.Owning.{IsOwn, AreOwn, AllOwn, ChainsStand, IsOpenOn}
use Rattle.deck_run.specs.Standing.{StandsAs, stood_of, all_stood}
use Rattle.deck_run.specs.Counting.{more_calls}
use Rattle.deck_run.specs.Recording.{IsTold}
use Rattle.deck_run.proofs.Found.{devices_stood, stood_found, put_same, put_stood, again, own_put, own_at, chains_are}
use Rattle.deck_run.proofs.RunCounts.{event_counted}
use Rattle.deck_run.proofs.Telling.{AreKnown, all_known, known_at, one_tells, running_known}
use Rattle.subsystem_defs.specs.Beside.{new_acts}
use Rattle.deck_run.specs.Loosening.{acts_by}
use Rattle.deck_run.specs.Seen.{SeesEnd, ShowsEnd}
use Rattle.deck_run.proofs.Acting.{brought_none, new_are, none_new, started_new}
use Rattle.deck_run.proofs.Stays.{HasOf, Stays, background_stays, command_stays, lose_stays, reset_stays, second_stays}
use Rattle.deck_run.proofs.Surely.{had_still, ran_so}
use Rattle.device_defs.specs.Device.{all_acted}
use Rattle.run_report.proofs.ActsCome.{acts_come}
use Rattle.duplex_pair.specs.declared.pair.SideVolumes.{SideVolumes}
use Rattle.deck_run.specs.Sides.{AreAccounted, all_sides}
use Rattle.deck_run.proofs.Accounted.{asked_sides, put_sides, ran_there, same_sides}

some_same : {X : Type 0} {x y : X} → Some x ≡ Some y → x ≡ y
some_same e = cc

-- What each event leaves

-- a chain that goes by this geometry, and whose words give bytes
abbrev pub FitsOwn : Geometry → List Ccw → Fixed → Type 0
FitsOwn g ccws fixed = (fixed.geometry ≡ g) × GivesAll ccws

pub own_so : (d y : DefinedDevice) → GiveBytes d.plans → y.store.geometry ≡ d.store.geometry → y.plans ≡ d.plans →
    HasOf (FitsOwn d.store.geometry) y.chain → IsOwn y
own_so d y plans is same has = record {
  plans = subst GiveBytes (sym same) plans;
  chain = subst (λ (g : Geometry). IfSome y.chain (λ (c : ChainState). (c.fixed.geometry ≡ g) × GivesAll c.ccws)) (sym is) has;
}

-- its own, and lent to whom it was
abbrev pub KeptOwn : DefinedDevice → DefinedDevice → Type 0
KeptOwn d y = IsOwn y × (y.store.lent ≡ d.store.lent)

own_of : (d y : DefinedDevice) → IsOwn d → y.store.geometry ≡ d.store.geometry → y.store.lent ≡ d.store.lent → (acts : List Act) →
    Stays contents (FitsOwn d.store.geometry) d.plans d.history acts y → KeptOwn d y
own_of d y own is lent acts k = (own_so d y own.plans is k.plans_are k.chain, lent)

-- what is said of an end: it is told, and these acts came to the device
abbrev Brings : Event → DefinedDevice → DefinedDevice → Option ends.EventEnd → Type 0
Brings e d y None = ⊥
Brings e d y (Some end) = new_acts d.history y.history ≡ acts_by e end y

abbrev Leaves : Event → DefinedDevice → Talk (Option ends.EventEnd) → Type 0
Leaves e d talk = Had talk (λ y o. KeptOwn d y × Brings e d y o)

pub record Ending (e : Event) (d y : DefinedDevice) (o : Option ends.EventEnd) : Type 0 where
  pub end : ends.EventEnd
  pub is : o ≡ Some end
  pub brings : new_acts d.history y.history ≡ acts_by e end y

ending : (e : Event) (d y : DefinedDevice) (o : Option ends.EventEnd) → Brings e d y o → Ending e d y o
ending e d y None h = absurd h
ending e d y (Some end) h = record { end = end; is = refl; brings = h }

module _ (d : DefinedDevice) (own : IsOwn d) where
  abbrev mine : List Ccw → Fixed → Type 0
  mine = FitsOwn d.store.geometry

  step_brings : (e : Event) (y : DefinedDevice) (o : Option defs.Stepped) → new_acts d.history y.history ≡ y.store.acts → Answers o →
      Brings e d y (end_of answers.Stepped o)
  step_brings e y None came h = h
  step_brings e y (Some s) came h = came

  step_leaves : (e : Event) → Answers d.history.running → Answers d.chain → Leaves e d (may_end_by answers.Stepped (command contents d))
  step_leaves e runs has =
      had_then (had_both (command_stays contents mine d.plans d.history d runs has refl own.chain refl) (had_still (command_based contents d)))
      (λ y a l. had_done (
        own_of d y own l.1.4 l.1.2 y.store.acts l.0.0,
        step_brings e y a (new_are d.history y.history y.store.acts l.0.0.acts) l.0.1,
      ))

  back_brings : (e : Event) (y : DefinedDevice) (o : Option Did) → new_acts d.history y.history ≡ y.store.acts → Answers o →
      Brings e d y (end_of answers.Back o)
  back_brings e y None came h = h
  back_brings e y (Some did) came h = came

  back_leaves : (e : Event) → Leaves e d (may_end_by answers.Back (background contents d))
  back_leaves e =
      had_then (had_both (background_stays contents mine d.plans d.history d refl own.chain refl) (had_still (background_based contents d)))
      (λ y a l. had_done (
        own_of d y own l.1.4 l.1.2 y.store.acts l.0.0,
        back_brings e y a (new_are d.history y.history y.store.acts l.0.0.acts) l.0.1,
      ))

  second_leaves : (e : Event) → Leaves e d (ends_by answers.Second (second contents d))
  second_leaves e =
      had_then (had_both (second_stays contents mine d.plans d.history d refl own.chain refl) (had_still (second_based contents d)))
      (λ y a l. had_done (own_of d y own l.1.4 l.1.2 y.store.acts l.0, new_are d.history y.history y.store.acts l.0.acts))

  reset_leaves : (n path : ℕ) → Leaves (events.Reset path n) d (ends_by ends_done (reset contents d path))
  reset_leaves n path =
      had_then
      (had_both (reset_stays contents mine d.plans d.history d path
      (record { plans_are = refl; chain = own.chain; acts = brought_none d.history d.history [] refl refl })) (had_still (reset_body contents d path)))
      (λ y a l. had_done (own_of d y own l.1.4 l.1.2 [] l.0, new_are d.history y.history [] l.0.acts))

  -- a loss
  pub lose_owns : (loss : Loss) → Had (lose contents d loss) (λ y _. KeptOwn d y × (y.history ≡ all_acted d.history y.store.acts))
  lose_owns loss =
      had_weaker (had_both (lose_stays contents mine d.plans d.history d loss refl own.chain refl) (had_still (lose_based contents d loss)))
      (λ y a l. (own_of d y own l.1.4 l.1.2 y.store.acts l.0.0, l.0.1))

  lose_leaves : (e : Event) (loss : Loss) → ((y : DefinedDevice) → acts_by e answers.Done y ≡ y.store.acts) →
      Leaves e d (ends_by ends_done (lose contents d loss))
  lose_leaves e loss noted =
      had_then (lose_owns loss)
      (λ y a l. had_done (l.0, ap (λ (h : History). new_acts d.history h) l.1 ∙ acts_come d.history y.store.acts ∙ sym (noted y)))

start_own : (d : DefinedDevice) (path : ℕ) → 1 ≤ path → path ≤ 4 → IsOwn d → IsOwn (start d path)
unfolding starting.start
start_own d path least most own = record {
  plans = own.plans;
  chain = (refl, own.plans path (started_count d.history path + 1) least most);
}

start_number : (d : DefinedDevice) (path : ℕ) → (start d path).store.device ≡ d.store.device
unfolding starting.start
start_number d path = refl

start_lent : (d : DefinedDevice) (path : ℕ) → (start d path).store.lent ≡ d.store.lent
unfolding starting.start
start_lent d path = refl

start_new : (d : DefinedDevice) (path : ℕ) → new_acts d.history (start d path).history ≡ []
unfolding starting.start
start_new d path = started_new d.history path (started_count d.history path + 1)

-- Numbers that are there

other_way : (m n : ℕ) → (m == n) ≡ false → (n == m) ≡ false
other_way m n e = grind (arith, nat_tests)

not_first_by : (m n : ℕ) (ms : List ℕ) → (m == n) ≡ false → is_in n (m ∷ ms) ≡ true → is_in n ms ≡ true
unfolding lists.is_in
not_first_by m n ms e is = ap (λ (b : Bool). if b then true else is_in n ms) (sym (other_way m n e)) ∙ is

not_first : (m n : ℕ) (ms : List ℕ) → (m == n) ≡ false → is_in n (m ∷ ms) ≡ true → is_in n ms ≡ true
not_first = not_first_by

pub record HasOne {V : Type 0} {G : Ghosts V} (xs : List (Device V G)) (n : ℕ) : Type 0 where
  pub device : Device V G
  pub found : device_at xs n ≡ Some device

-- Deeds that leave each device its own

abbrev Good : Event → ℕ → DefinedDevice → OwnDeed → Type 0
Good e n x (Ends end) = (y : DefinedDevice) → acts_by e end y ≡ []
Good e n x (Becomes d end) = (d.store.device ≡ n) × (KeptOwn x d × (new_acts x.history d.history ≡ acts_by e end d))
Good e n x (Asks d talk) = (d.store.device ≡ n) × Leaves e x talk
Good e n x _ = ⊥

good_start : (e : Event) (n : ℕ) (d : DefinedDevice) (path : ℕ) (o : Option StartFault) → d.store.device ≡ n → 1 ≤ path → path ≤ 4 → IsOwn d →
    Good e n d (start_by d path o)
good_start e n d path (Some f) is least most own = λ y. refl
good_start e n d path None is least most own = (start_number d path ∙ is, ((start_own d path least most own, start_lent d path), start_new d path))

good_starts : (e : Event) (n : ℕ) (d : DefinedDevice) (path : ℕ) → d.store.device ≡ n → 1 ≤ path → path ≤ 4 → IsOwn d → Good e n d (starts path d)
good_starts e n d path is least most own =
    cond_both (is_path_of d.history.running path) (Ends answers.Running) (start_by d path (start_fault d path)) (Good e n d) (λ _. λ y. refl)
    (λ _. good_start e n d path (start_fault d path) is least most own)

good_hold : (n a : ℕ) (d : DefinedDevice) (o : Option OrderFault) → d.store.device ≡ n → IsOwn d →
    Good (events.Suspend a) n d (order o (Becomes (hold_side d) answers.Done))
good_hold n a d (Some f) is own = λ y. refl
good_hold n a d None is own = (is, ((record { plans = own.plans; chain = own.chain }, refl), none_new d.history d.history refl))

good_resume : (n a : ℕ) (d : DefinedDevice) (o : Option OrderFault) → d.store.device ≡ n → IsOwn d →
    Good (events.Resume a) n d (order o (Becomes (resume d) answers.Done))
good_resume n a d (Some f) is own = λ y. refl
good_resume n a d None is own = (is, ((record { plans = own.plans; chain = own.chain }, refl), none_new d.history d.history refl))

abbrev pub hears : NoKeep → (m : Message Image) → ReplyTo m → NoKeep → Type 0
hears k m r l = r ≡ reply m

module _ {V : Type 0} {G : Ghosts V} where
  good_second : (e : Event) (n : ℕ) (x : Device V G) → x.store.number ≡ n → IsOwn (device_of x) → Good e n (device_of x) (seconds contents (device_of x))
  good_second e n x is own = (is, second_leaves (device_of x) own e)

  good_command : (e : Event) (n : ℕ) (x : Device V G) (r : Option Running) → x.past.running ≡ r → x.store.number ≡ n → IsOwn (device_of x) →
      Good e n (device_of x)
      (if is_some (device_of x).history.running then Asks (device_of x) (may_end_by answers.Stepped (command contents (device_of x))) else Ends answers.Idle)
  good_command e n x None at is own =
      cond_both (is_some (device_of x).history.running) (Asks (device_of x) (may_end_by answers.Stepped (command contents (device_of x)))) (Ends answers.Idle)
      (Good e n (device_of x)) (λ e. absurd (let none : is_some (device_of x).history.running
      ≡ false = ap (λ (o : Option Running). is_some (option_map open_of o)) at in cc))
      (λ _. λ y. refl)
  good_command e n x (Some r) at is own =
      cond_both (is_some (device_of x).history.running) (Asks (device_of x) (may_end_by answers.Stepped (command contents (device_of x)))) (Ends answers.Idle)
      (Good e n (device_of x)) (λ _. (
        is,
        step_leaves (device_of x) own e (subst Answers (sym (ap (option_map open_of) at)) tt) (subst Answers (sym (ap (option_map chain_of) at)) tt),
      )) (λ _. λ y. refl)

  good_step : (e : Event) (n : ℕ) (x : Device V G) → x.store.number ≡ n → IsOwn (device_of x) → Good e n (device_of x) (step contents (device_of x))
  good_step e n x is own =
      cond_both (is_some (device_of x).store.half) (seconds contents (device_of x))
      (if is_some (device_of x).history.running then Asks (device_of x) (may_end_by answers.Stepped (command contents (device_of x))) else Ends answers.Idle)
      (Good e n (device_of x)) (λ _. good_second e n x is own) (λ _. good_command e n x x.past.running refl is own)

  good_back : (e : Event) (n : ℕ) (x : Device V G) → x.store.number ≡ n → IsOwn (device_of x) → Good e n (device_of x) (back contents (device_of x))
  good_back e n x is own =
      cond_both (is_some (device_of x).store.half) (seconds contents (device_of x))
      (Asks (device_of x) (may_end_by answers.Back (background contents (device_of x))))
      (Good e n (device_of x)) (λ _. good_second e n x is own) (λ _. (is, back_leaves (device_of x) own e))

  good_fail : (n d : ℕ) (side : Side) (x : Device V G) (o : Option OrderFault) → x.store.number ≡ n → IsOwn (device_of x) →
      Good (events.FailVolume d side) n (device_of x)
      (order o (Asks (device_of x) (ends_by ends_done (lose contents (device_of x) (losses.Side side)))))
  good_fail n d side x (Some f) is own = λ y. refl
  good_fail n d side x None is own =
      (is, lose_leaves (device_of x) own (events.FailVolume d side) (losses.Side side) (λ y. refl))

  good : (n : ℕ) (x : Device V G) (xs : List (Device V G)) (pool : pools.Pool) (e : Event) → device_at xs n ≡ Some x → IsOwn (device_of x) → IsOpenOn n e →
      Good e n (device_of x) (deed contents pool (devices_of xs) e)
  unfolding deeds.deed
  good n x xs pool (events.Start path d) at own on =
      let here = found_in xs d x (ap (device_at xs) on.0 ∙ at) in
      subst (λ (o : Option DefinedDevice). Good (events.Start path d) n (device_of x) (on_device o (starts path))) (sym here)
      (good_starts (events.Start path d) n (device_of x) path (number_found xs n x at) on.1.0 on.1.1 own)
  good n x xs pool (events.Step d) at own on =
      let here = found_in xs d x (ap (device_at xs) on ∙ at) in
      subst (λ (o : Option DefinedDevice). Good (events.Step d) n (device_of x) (on_device o (step contents))) (sym here)
      (good_step (events.Step d) n x (number_found xs n x at) own)
  good n x xs pool (events.Back d) at own on =
      let here = found_in xs d x (ap (device_at xs) on ∙ at) in
      subst (λ (o : Option DefinedDevice). Good (events.Back d) n (device_of x) (on_device o (back contents))) (sym here)
      (good_back (events.Back d) n x (number_found xs n x at) own)
  good n x xs pool (events.Reset path d) at own on =
      let here = found_in xs d x (ap (device_at xs) on ∙ at) in
      subst (λ (o : Option DefinedDevice). Good (events.Reset path d) n (device_of x)
      (on_device o (λ y. Asks y (ends_by ends_done (reset contents y path))))) (sym here)
      (number_found xs n x at, reset_leaves (device_of x) own d path)
  good n x xs pool events.Power at own on = absurd on
  good n x xs pool events.FailCache at own on = absurd on
  good n x xs pool events.FailStore at own on = absurd on
  good n x xs pool (events.FailVolume d side) at own on =
      let here = found_in xs d x (ap (device_at xs) on ∙ at) in
      subst (λ (o : Option DefinedDevice). Good (events.FailVolume d side) n (device_of x) (on_device o
      (λ y. order (fail_fault y side) (Asks y (ends_by ends_done (lose contents y (losses.Side side))))))) (sym here)
      (good_fail n d side x (fail_fault (device_of x) side) (number_found xs n x at) own)
  good n x xs pool events.RepairCache at own on = absurd on
  good n x xs pool events.RepairStore at own on = absurd on
  good n x xs pool (events.Pair a b) at own on = absurd on
  good n x xs pool (events.Suspend d) at own on =
      let here = found_in xs d x (ap (device_at xs) on ∙ at) in
      subst (λ (o : Option DefinedDevice). Good (events.Suspend d) n (device_of x) (on_device o (λ y. order (suspend_fault y) (Becomes (hold_side y) answers.Done))))
      (sym here) (good_hold n d (device_of x) (suspend_fault (device_of x)) (number_found xs n x at) own)
  good n x xs pool (events.Resume d) at own on =
      let here = found_in xs d x (ap (device_at xs) on ∙ at) in
      subst (λ (o : Option DefinedDevice). Good (events.Resume d) n (device_of x) (on_device o (λ y. order (resume_fault y) (Becomes (resume y) answers.Done))))
      (sym here) (good_resume n d (device_of x) (resume_fault (device_of x)) (number_found xs n x at) own)

  -- What came

  pub record Told (e : Event) (d : OwnDeed) (n : ℕ) (x : Device V G) (old new : Subsystem V G) (a : EventEnd) : Type 0 where
    pub behind : Device V G
    pub stands : device_at new.devices.items n ≡ Some behind
    pub put : new.devices.items ≡ put_at old.devices.items n behind
    pub end : ends.EventEnd
    pub seen : end_seen (last_end behind) a ≡ Some end
    pub comes : laws.CameBy hears d old.pool.pool (all_stood old.devices.items) end new.pool.pool (all_stood new.devices.items)
    pub own : AllOwn new.devices.items
    pub sides : all_sides new.devices.items ≡ all_sides old.devices.items
    pub acts : new_acts (device_of x).history (device_of behind).history ≡ acts_by e end (device_of behind)

  module _ (n : ℕ) (x : Device V G) (old new : Subsystem V G) (a : EventEnd) (at : device_at old.devices.items n ≡ Some x)
      (own : AllOwn old.devices.items) (numbers : numbers_of new.devices.items ≡ numbers_of old.devices.items) where
    put_there : (y : Device V G) → new.devices.items ≡ put_at old.devices.items n y → device_at new.devices.items n ≡ Some y
    put_there y is =
        subst (λ (l : List (Device V G)). device_at l n ≡ Some y) (sym is)
        (again old.devices.items n x y at (subst (λ (l : List (Device V G)). numbers_of l ≡ numbers_of old.devices.items) is numbers))

    told : (e : Event) (d : OwnDeed) → Good e n (device_of x) d → CameBy d old (Some a) new → Told e d n x old new a
    told e (Ends end) good came = record {
      behind = x;
      stands = ap (λ (l : List (Device V G)). device_at l n) came.1.1 ∙ at;
      put = came.1.1 ∙ sym (put_same old.devices.items n x at);
      end = end;
      seen = came.0 (last_end x);
      comes = (refl, ap (λ s. s.pool) came.1.0, ap all_stood came.1.1);
      own = subst AllOwn (sym came.1.1) own;
      sides = ap (λ (l : List (Device V G)). all_sides l) came.1.1;
      acts = none_new (device_of x).history (device_of x).history refl ∙ sym (good (device_of x));
    }
    told e (Becomes d end) good came =
        let ch = subst (λ (m : ℕ). Rattle.subsystem_core.specs.Comes.Changes m (Rattle.subsystem_core.specs.Comes.IsNow d) old.devices.items new.devices.items)
        good.0 came.2 in
        record {
          behind = ch.behind;
          stands = put_there ch.behind ch.stands;
          put = ch.stands;
          end = end;
          seen = came.0 (last_end ch.behind);
          comes = (
            refl,
            ap (λ s. s.pool) came.1,
            subst (λ (m : ℕ). laws.Changes m (laws.IsNow d) (all_stood old.devices.items) (all_stood new.devices.items))
                (sym good.0)
                (record {
                  before = stood_of ch.before;
                  behind = stood_of ch.behind;
                  stood = stood_found old.devices.items n ch.before ch.stood;
                  stands = ap all_stood ch.stands ∙ put_stood old.devices.items n ch.behind;
                  is_so = record {
                    device = ch.is_so.0;
                    a = ap (λ (v : SideVolumes V). option_map G.view v.a) ch.is_so.1;
                    b = ap (λ (v : SideVolumes V). option_map G.view v.b) ch.is_so.1;
                  };
                }),
          );
          own = subst AllOwn (sym ch.stands) (own_put old.devices.items n ch.behind own (subst IsOwn (sym ch.is_so.0) good.1.0.0));
          sides = ap (λ (l : List (Device V G)). all_sides l) ch.stands
              ∙ put_sides old.devices.items n ch.before ch.behind
              (same_sides ch.before ch.behind
              (ap (λ (y : DefinedDevice). y.store.device) ch.is_so.0 ∙ good.0 ∙ sym (number_found old.devices.items n ch.before ch.stood))
              (ap (λ (y : DefinedDevice). y.store.lent) ch.is_so.0 ∙ good.1.0.1 ∙ ap (λ (y : Device V G). y.store.pair.lent) (some_same (sym at ∙ ch.stood)))
              (ap (λ (v : SideVolumes V). is_some v.a) ch.is_so.1) (ap (λ (v : SideVolumes V). is_some v.b) ch.is_so.1)) ch.stood;
          acts = ap (λ (y : DefinedDevice). new_acts (device_of x).history y.history) ch.is_so.0 ∙ good.1.1 ∙ ap (acts_by e end) (sym ch.is_so.0);
        }
    told e (Asks d talk) good came =
        let ch = subst (λ (m : ℕ). Rattle.subsystem_core.specs.Comes.Changes m (Rattle.subsystem_core.specs.Comes.AskedBy talk old (Some a) new)
        old.devices.items new.devices.items) good.0 came in
        let k : NoKeep = record {} in
        let left : KeptOwn (device_of x) (device_of ch.behind) × Brings e (device_of x) (device_of ch.behind) (end_seen (last_end ch.behind) a) =
        ran_so (λ y o. KeptOwn (device_of x) y × Brings e (device_of x) y o) (ch.is_so k) good.1 in
        let f = ending e (device_of x) (device_of ch.behind) (end_seen (last_end ch.behind) a) left.1 in
        record {
          behind = ch.behind;
          stands = put_there ch.behind ch.stands;
          put = ch.stands;
          end = f.end;
          seen = f.is;
          comes = subst (λ (m : ℕ). laws.Changes m (λ u v. laws.Asked hears talk (Some f.end) old.pool.pool u v new.pool.pool) (all_stood old.devices.items)
              (all_stood new.devices.items)) (sym good.0)
              (record {
                before = stood_of ch.before;
                behind = stood_of ch.behind;
                stood = stood_found old.devices.items n ch.before ch.stood;
                stands = ap all_stood ch.stands ∙ put_stood old.devices.items n ch.behind;
                is_so = record {
                  port = shared_view old.pool;
                  after = shared_view new.pool;
                  keeper = k;
                  later = k;
                  pool_before = refl;
                  pool_behind = refl;
                  ran = subst (λ (o : Option ends.EventEnd). Ran (λ ok. ok ≡ true) hears talk
                      (laws.outside_at (shared_view old.pool) (stood_of ch.before) k) (device_of ch.behind) o
                      (laws.outside_at (shared_view new.pool) (stood_of ch.behind) k)) f.is (ch.is_so k);
                };
              });
          own = subst AllOwn (sym ch.stands) (own_put old.devices.items n ch.behind own left.0.0);
          sides = ap (λ (l : List (Device V G)). all_sides l) ch.stands
              ∙ put_sides old.devices.items n ch.before ch.behind
              (asked_sides ch.before ch.behind
              (number_found new.devices.items n ch.behind (put_there ch.behind ch.stands) ∙ sym (number_found old.devices.items n ch.before ch.stood))
              (left.0.1 ∙ ap (λ (y : Device V G). y.store.pair.lent) (some_same (sym at ∙ ch.stood))) (ran_there (ch.is_so k))) ch.stood;
          acts = f.brings;
        }
    told e (Each pool f) good came = absurd good
    told e (Repairs pool) good came = absurd good
    told e (Lends u v) good came = absurd good

    pub event_told : (e : Event) → IsOpenOn n e → Came e old (Some a) new → Told e (deed contents old.pool.pool (devices_of old.devices.items) e) n x old new a
    event_told e on came = told e _ (good n x old.devices.items old.pool.pool e at (own_at old.devices.items n x own at) on) came

  -- and what happens there
  pub event_happens : (e : Event) (n : ℕ) (x : Device V G) (old new : Subsystem V G) (a : EventEnd) (run : runs.Subsystem) →
      (t : Told e (deed contents old.pool.pool (devices_of old.devices.items) e) n x old new a) → AllOwn old.devices.items → ChainsStand old.devices.items →
      StandsAs old run → ((happens run e).end ≡ t.end) × StandsAs new (happens run e).behind
  event_happens e n x old new a run t own stand all =
      let comes : laws.Comes hears e old.pool.pool (all_stood old.devices.items) t.end new.pool.pool (all_stood new.devices.items) =
      subst (λ (l : List DefinedDevice). laws.CameBy hears (deed contents old.pool.pool l e) old.pool.pool (all_stood old.devices.items) t.end new.pool.pool
      (all_stood new.devices.items)) (sym (devices_stood old.devices.items)) t.comes in
      let is : run ≡ subsystem_of old.pool.pool run.mounted = ap (λ (p : pools.Pool). record { pool = p; mounted = run.mounted }) all.pool in
      let w = event_so hears old.pool.pool new.pool.pool (all_stood old.devices.items) (all_stood new.devices.items) run.mounted t.end all.mounted e
      (chains_are old.devices.items own stand) comes in
      let v : IsWhatCame (happens run e) t.end new.pool.pool (all_stood new.devices.items) =
      subst (λ (s : runs.Subsystem). IsWhatCame (happens s e) t.end new.pool.pool (all_stood new.devices.items)) (sym is) w in
      (v.ended, record { pool = v.left; mounted = v.mounted })

  -- The same, by the device that is read behind the event

  in_by : (d : Device V G) (ds : List (Device V G)) (n : ℕ) (b : Bool) → (d.store.number == n) ≡ b → ((is_in n (numbers_of ds) ≡ true) → HasOne ds n) →
      is_in n (numbers_of (d ∷ ds)) ≡ true → HasOne (d ∷ ds) n
  in_by d ds n true e rest is = record { device = d; found = ap (λ (b : Bool). if b then Some d else device_at ds n) e }
  in_by d ds n false e rest is =
      let more = rest (not_first d.store.number n (numbers_of ds) e is) in
      record { device = more.device; found = ap (λ (b : Bool). if b then Some d else device_at ds n) e ∙ more.found }

  pub has_one : (xs : List (Device V G)) (n : ℕ) → is_in n (numbers_of xs) ≡ true → HasOne xs n
  unfolding lists.is_in
  has_one [] n is = absurd (cc)
  has_one (d ∷ ds) n is = in_by d ds n (d.store.number == n) refl (has_one ds n) is

  module _ (n : ℕ) (old new : Subsystem V G) (a : EventEnd) (here : is_in n (numbers_of old.devices.items) ≡ true) (own : AreOwn old.devices.items)
      (numbers : numbers_of new.devices.items ≡ numbers_of old.devices.items) (e : Event) (on : IsOpenOn n e) (came : Came e old (Some a) new) where
    abbrev so : Told e (deed contents old.pool.pool (devices_of old.devices.items) e) n (has_one old.devices.items n here).device old new a
    so = event_told n (has_one old.devices.items n here).device old new a (has_one old.devices.items n here).found own.each numbers e on came

    pub own_behind : AreOwn new.devices.items
    own_behind = record { each = so.own; accounted = subst AreAccounted (sym so.sides) own.accounted }

    pub shows_end : ShowsEnd new n a
    shows_end =
        subst (λ (o : Option (Device V G)). IfSome o (λ y. IsSome (end_seen (last_end y) a))) (sym so.stands) (subst IsSome (sym so.seen) refl)

    pub happens_so : (run : runs.Subsystem) → ChainsStand old.devices.items → StandsAs old run →
        SeesEnd new n a (happens run e).end × StandsAs new (happens run e).behind
    happens_so run stand all =
        let h = event_happens e n (has_one old.devices.items n here).device old new a run so own.each stand all in (
          subst (λ (o : Option (Device V G)). IfSome o (λ y. end_seen (last_end y) a ≡ Some (happens run e).end)) (sym so.stands)
              (so.seen ∙ ap Some (sym h.0)),
          h.1,
        )

    -- what the event tells
    pub told_so : (run : runs.Subsystem) → ChainsStand old.devices.items → StandsAs old run → IsTold old new e n run
    told_so run stand all x y at now =
        let h = event_happens e n (has_one old.devices.items n here).device old new a run so own.each stand all in
        let ks = (happens run e).behind.mounted in
        let before = all_known (all_stood old.devices.items) run.mounted all.mounted in
        let behind = all_known (all_stood new.devices.items) ks h.1.mounted in
        let put : new.devices.items ≡ put_at old.devices.items n y =
        so.put ∙ ap (λ (z : Device V G). put_at old.devices.items n z) (some_same (sym so.stands ∙ now)) in
        let was = known_at old.devices.items run.mounted n x before at in
        let is = known_at new.devices.items ks n y behind now in
        let counted = event_counted run n was.mounted was.there e on in
        let mine : is.mounted ≡ counted.mounted = some_same (sym is.there ∙ counted.there) in
        record {
          running = running_known old.devices.items run.mounted n x before at;
          lines = λ happened.
              one_tells n x y old.devices.items run.mounted ks happened (happens run e).reads (happens run e).writes before at
              (subst (λ (l : List (Device V G)). AreKnown (all_stood l) ks) put behind);
          acts = ap (λ (z : Device V G). new_acts (device_of z).history (device_of y).history) (some_same (sym at ∙ (has_one old.devices.items n here).found))
              ∙ ap (λ (z : Device V G). new_acts (device_of (has_one old.devices.items n here).device).history (device_of z).history)
              (some_same (sym now ∙ so.stands))
              ∙ so.acts ∙ ap (λ (z : Device V G). acts_by e so.end (device_of z)) (some_same (sym so.stands ∙ now))
              ∙ ap (λ (end : ends.EventEnd). acts_by e end (device_of y)) (sym h.0);
          reads = ap (λ (k : Counts). k.reads) (sym is.is.counts) ∙ ap (λ (m : runs.Mounted). m.device.store.counts.reads) mine ∙ counted.reads
              ∙ ap (λ (k : Counts). more_calls (happens run e).reads k.reads) was.is.counts;
          writes = ap (λ (k : Counts). k.writes) (sym is.is.counts) ∙ ap (λ (m : runs.Mounted). m.device.store.counts.writes) mine ∙ counted.writes
              ∙ ap (λ (k : Counts). more_calls (happens run e).writes k.writes) was.is.counts;
        }

may_by : (ns : List ℕ) (n m : ℕ) → m ≡ n → is_in n ns ≡ true → is_in m ns ≡ true
may_by ns n m is here = ap (λ (k : ℕ). is_in k ns) is ∙ here

pub open_may_come : (ns : List ℕ) (n : ℕ) (e : Event) → IsOpenOn n e → is_in n ns ≡ true → may_come ns e ≡ true
open_may_come ns n (events.Start path d) on here = may_by ns n d on.0 here
open_may_come ns n (events.Step d) on here = may_by ns n d on here
open_may_come ns n (events.Back d) on here = may_by ns n d on here
open_may_come ns n (events.Reset path d) on here = may_by ns n d on here
open_may_come ns n events.Power on here = absurd on
open_may_come ns n events.FailCache on here = absurd on
open_may_come ns n events.FailStore on here = absurd on
open_may_come ns n (events.FailVolume d side) on here = may_by ns n d on here
open_may_come ns n events.RepairCache on here = absurd on
open_may_come ns n events.RepairStore on here = absurd on
open_may_come ns n (events.Pair a b) on here = absurd on
open_may_come ns n (events.Suspend d) on here = may_by ns n d on here
open_may_come ns n (events.Resume d) on here = may_by ns n d on here

pub ok_so : {X E : Type 0} (r : Result X E) (p q : Type 0) → (p → q) → OnOk r p → OnOk r q
ok_so (Ok x) p q f h = f h
ok_so (Err e) p q f h = tt
