-- In a run the counts of the one device that an event asks go on by the volume calls of the event.
use Rattle.std.proofs.Common.{◌≡◌, ◌∙◌, arith, ℕ, Bool, true, false, List, [], ◌∷◌, Option, Some, None, is_some, refl, sym, ap, subst}
use Rattle.std.specs.Prelude.{◌==◌, if◌then◌else◌, option_map}
use Rattle.std.proofs.lemmas.Bool.{cond_both, eqb-true}
use Rattle.std.proofs.lemmas.Bool.Decides.{nat_tests}
use Rattle.ckd_types.specs.declared.paths.Side.{Side}
use Rattle.loss_model.specs.declared.Loss.TheVariants as losses
use Rattle.plain_defs.specs.History.{is_path_of}
use Rattle.device_outside.specs.Interaction.{Done, and_then}
use Rattle.device_outside.specs.Told.{hold}
use Rattle.device_defs.specs.declared.answers.StartFault.{StartFault}
use Rattle.device_defs.specs.Command.{command}
use Rattle.device_defs.specs.Contents.{by_plain}
use Rattle.device_defs.specs.Cutting.{reset}
use Rattle.device_defs.specs.Events.{background, lose, second}
use Rattle.device_defs.specs.Marks.{MarksDevice}
use Rattle.device_defs.specs.Orders as orders
use Rattle.device_defs.specs.Orders.{resume}
use Rattle.device_defs.specs.Start as S
use Rattle.device_defs.specs.Start.{start, start_fault, next_ordinal}
use Rattle.device_laws.proofs.Based.{Base, Any, Based, kept, based_any, based_done, based_then}
use Rattle.device_laws.proofs.BasedEvents.{base_in, with_one_loss, background_based, command_based, lose_based, reset_body, second_based}
use Rattle.subsystem_defs.specs.declared.end.EventEnd.{EventEnd}
use Rattle.subsystem_defs.specs.declared.end.EventEnd.TheVariants as ends
use Rattle.subsystem_defs.specs.declared.end.OrderFault.{OrderFault}
use Rattle.subsystem_defs.specs.declared.event.Event.{Event}
use Rattle.subsystem_defs.specs.declared.event.Event.TheVariants as events
use Rattle.subsystem_defs.specs.Deeds as D
use Rattle.subsystem_defs.specs.Deeds.{Ends, Becomes, Asks, back, deed, device_in, end_of, ends_by, ends_done, may_end_by, on_device, order, seconds, start_by, starts, step}
use Rattle.subsystem_defs.specs.Happening as H
use Rattle.subsystem_defs.specs.Happening.{EventHappened, MarksDeed, Talk, asks, becomes, happens, happens_by, mounted_behind, quietly, told_to}
use Rattle.subsystem_defs.specs.Refusals.{fail_fault, resume_fault, suspend_fault}
use Rattle.subsystem_defs.specs.Subsystem.{Mounted, Subsystem, devices_of, mounted_in, number_of, put_in}
use Rattle.subsystem_laws.proofs.WholeFinding.{device_mounted}
use Rattle.deck_run.specs.Counting.{more_calls}
use Rattle.deck_run.specs.Owning.{IsOpenOn}
use Rattle.deck_run.proofs.Counts.{IsCountedTo, held_counts}

some_same : {X : Type 0} {x y : X} → Some x ≡ Some y → x ≡ y
some_same e = cc

same : (n : ℕ) → (n == n) ≡ true
same n = grind (arith, nat_tests)

number_by : (m k : Mounted) (n : ℕ) (b : Bool) (o : Option Mounted) → (number_of k == n) ≡ b → (o ≡ Some m → number_of m ≡ n) →
    (if b then Some k else o) ≡ Some m → number_of m ≡ n
number_by m k n true o e rest at = ap number_of (sym (some_same at)) ∙ eqb-true (number_of k) n e
number_by m k n false o e rest at = rest at

pub number_there : (ms : List Mounted) (n : ℕ) (m : Mounted) → mounted_in ms n ≡ Some m → number_of m ≡ n
number_there [] n m at = absurd (cc)
number_there (k ∷ ms) n m at = number_by m k n (number_of k == n) (mounted_in ms n) refl (number_there ms n m) at

-- another one in its place is found there
put_by : (ms : List Mounted) (k m x : Mounted) (n : ℕ) (b : Bool) → (number_of k == n) ≡ b →
    (mounted_in ms n ≡ Some m → mounted_in (put_in ms n x) n ≡ Some x) → (if b then Some k else mounted_in ms n) ≡ Some m → number_of x ≡ n →
    mounted_in (if b then x ∷ ms else k ∷ put_in ms n x) n ≡ Some x
put_by ms k m x n true e rest at is = ap (λ (b : Bool). if b then Some x else mounted_in ms n) (ap (λ (i : ℕ). i == n) is ∙ same n)
put_by ms k m x n false e rest at is = ap (λ (b : Bool). if b then Some k else mounted_in (put_in ms n x) n) e ∙ rest at

put_there : (ms : List Mounted) (n : ℕ) (m x : Mounted) → mounted_in ms n ≡ Some m → number_of x ≡ n → mounted_in (put_in ms n x) n ≡ Some x
put_there [] n m x at is = absurd (cc)
put_there (k ∷ ms) n m x at is = put_by ms k m x n (number_of k == n) refl (λ there. put_there ms n m x there is) at is

pub record IsCounted (n : ℕ) (m : Mounted) (o : EventHappened) : Type 0 where
  pub mounted : Mounted
  pub there : mounted_in o.behind.mounted n ≡ Some mounted
  pub reads : mounted.device.store.counts.reads ≡ more_calls o.reads m.device.store.counts.reads
  pub writes : mounted.device.store.counts.writes ≡ more_calls o.writes m.device.store.counts.writes

start_number : (d : MarksDevice) (path : ℕ) → (start d path).store.device ≡ d.store.device
unfolding S.start
start_number d path = refl

start_reads : (d : MarksDevice) (path : ℕ) → (start d path).store.counts.reads ≡ d.store.counts.reads
unfolding S.start
start_reads d path = refl

start_writes : (d : MarksDevice) (path : ℕ) → (start d path).store.counts.writes ≡ d.store.counts.writes
unfolding S.start
start_writes d path = refl

module _ (s : Subsystem) (n : ℕ) (m : Mounted) (at : mounted_in s.mounted n ≡ Some m) where
  abbrev Claim : MarksDeed → Type 0
  Claim d = IsCounted n m (happens_by s d)

  ends_counted : (end : EventEnd) → Claim (Ends end)
  ends_counted end = record { mounted = m; there = at; reads = refl; writes = refl }

  becomes_here : (d : MarksDevice) (end : EventEnd) → d.store.device ≡ n → d.store.counts.reads ≡ m.device.store.counts.reads →
      d.store.counts.writes ≡ m.device.store.counts.writes → IsCounted n m (quietly s (becomes s n (Some m) d) end)
  becomes_here d end is reads writes = record {
    mounted = record m { device = d };
    there = put_there s.mounted n m (record m { device = d }) at is;
    reads = reads;
    writes = writes;
  }

  becomes_counted : (d : MarksDevice) (end : EventEnd) → d.store.device ≡ n → d.store.counts.reads ≡ m.device.store.counts.reads →
      d.store.counts.writes ≡ m.device.store.counts.writes → Claim (Becomes d end)
  becomes_counted d end is reads writes =
      subst (λ (k : ℕ). IsCounted n m (quietly s (becomes s k (mounted_in s.mounted k) d) end)) (sym is)
      (subst (λ (o : Option Mounted). IsCounted n m (quietly s (becomes s n o d) end)) (sym at) (becomes_here d end is reads writes))

  -- an order that is refused, or asks nobody
  becomes_by : (d : MarksDevice) (o : Option OrderFault) → d.store.device ≡ n → d.store.counts.reads ≡ m.device.store.counts.reads →
      d.store.counts.writes ≡ m.device.store.counts.writes → Claim (order o (Becomes d ends.Done))
  becomes_by d (Some f) is reads writes = ends_counted (ends.Refused f)
  becomes_by d None is reads writes = becomes_counted d ends.Done is reads writes

  -- from here a talk counts its calls
  pub record Counts {A : Type 0} (talk : Talk A) : Type 0 where
    pub base : Base
    pub reads : base.counts.reads ≡ m.device.store.counts.reads
    pub writes : base.counts.writes ≡ m.device.store.counts.writes
    pub device : base.device ≡ m.device.store.device
    pub based : Based base_in Any base talk

  -- whatever it answers
  answered : {A B : Type 0} (talk : Talk A) (f : A → B) → Counts talk → Counts (and_then talk (λ y a. Done y (f a)))
  answered talk f k = record {
    base = k.base;
    reads = k.reads;
    writes = k.writes;
    device = k.device;
    based = based_then (λ y a. Done y (f a)) k.based (λ y a. based_done refl);
  }

  from_itself : {A : Type 0} (talk : Talk A) → Based base_in Any (kept m.device.store) talk → Counts talk
  from_itself talk x = record { base = kept m.device.store; reads = refl; writes = refl; device = refl; based = x }

  mine : m.device.store.device ≡ n
  mine = number_there s.mounted n m at

  asks_here : (talk : Talk (Option EventEnd)) → Counts talk → IsCounted n m (asks s n (Some m) talk)
  asks_here talk k =
      let o = hold true talk (told_to s.pool m) in
      let h : IsCountedTo n m.device.store.counts.reads m.device.store.counts.writes o.told (base_in o.state) =
      held_counts n m.device.store.counts.reads m.device.store.counts.writes true k.based (told_to s.pool m)
      (record { device = k.device ∙ mine; reads = k.reads; writes = k.writes }) in
      record { mounted = mounted_behind o; there = put_there s.mounted n m (mounted_behind o) at h.device; reads = h.reads; writes = h.writes }

  asks_counted : {A : Type 0} (talk : Talk A) (f : A → Option EventEnd) → Counts talk → Claim (Asks m.device (and_then talk (λ y a. Done y (f a))))
  asks_counted talk f k =
      let whole = and_then talk (λ y a. Done y (f a)) in
      subst (λ (k : ℕ). IsCounted n m (asks s k (mounted_in s.mounted k) whole)) (sym mine)
      (subst (λ (o : Option Mounted). IsCounted n m (asks s n o whole)) (sym at) (asks_here whole (answered talk f k)))

  -- Events of the device

  start_counted : (path : ℕ) (o : Option StartFault) → Claim (start_by m.device path o)
  start_counted path (Some f) = ends_counted (ends.NotStarted f)
  start_counted path None =
      becomes_counted (start m.device path) (ends.Started (next_ordinal m.device path)) (start_number m.device path ∙ mine)
      (start_reads m.device path) (start_writes m.device path)

  starts_counted : (path : ℕ) → Claim (starts path m.device)
  starts_counted path =
      cond_both (is_path_of m.device.history.running path) (Ends ends.Running) (start_by m.device path (start_fault m.device path)) Claim
      (λ _. ends_counted ends.Running) (λ _. start_counted path (start_fault m.device path))

  seconds_counted : Claim (seconds by_plain m.device)
  seconds_counted =
      asks_counted (second by_plain m.device) (λ a. Some (ends.Second a)) (from_itself (second by_plain m.device) (second_based by_plain m.device))

  step_counted : Claim (step by_plain m.device)
  step_counted =
      cond_both (is_some m.device.store.half) (seconds by_plain m.device)
      (if is_some m.device.history.running then Asks m.device (may_end_by ends.Stepped (command by_plain m.device)) else Ends ends.Idle) Claim
      (λ _. seconds_counted)
      (λ _. cond_both (is_some m.device.history.running) (Asks m.device (may_end_by ends.Stepped (command by_plain m.device))) (Ends ends.Idle) Claim
      (λ _. asks_counted (command by_plain m.device) (end_of ends.Stepped) (from_itself (command by_plain m.device) (command_based by_plain m.device)))
      (λ _. ends_counted ends.Idle))

  back_counted : Claim (back by_plain m.device)
  back_counted =
      cond_both (is_some m.device.store.half) (seconds by_plain m.device) (Asks m.device (may_end_by ends.Back (background by_plain m.device))) Claim
      (λ _. seconds_counted)
      (λ _. asks_counted (background by_plain m.device) (end_of ends.Back)
      (from_itself (background by_plain m.device) (background_based by_plain m.device)))

  reset_counted : (path : ℕ) → Claim (Asks m.device (ends_by ends_done (reset by_plain m.device path)))
  reset_counted path =
      asks_counted (reset by_plain m.device path) (λ a. Some (ends_done a))
      (from_itself (reset by_plain m.device path) (based_any (reset_body by_plain m.device path)))

  fail_by : (side : Side) (o : Option OrderFault) →
      Claim (order o (Asks m.device (ends_by ends_done (lose by_plain m.device (losses.Side side)))))
  fail_by side (Some f) = ends_counted (ends.Refused f)
  fail_by side None =
      asks_counted (lose by_plain m.device (losses.Side side)) (λ a. Some (ends_done a)) (record {
        base = with_one_loss (losses.Side side) (kept m.device.store);
        reads = refl;
        writes = refl;
        device = refl;
        based = lose_based by_plain m.device (losses.Side side);
      })

  found : (d : ℕ) → d ≡ n → device_in (devices_of s) d ≡ Some m.device
  found d is =
      ap (λ (k : ℕ). device_in (devices_of s) k) is ∙ device_mounted s.mounted n ∙ ap (λ (o : Option Mounted). option_map (λ (x : Mounted). x.device) o) at

  pub event_counted : (e : Event) → IsOpenOn n e → IsCounted n m (happens s e)
  unfolding D.deed H.happens
  event_counted (events.Start path d) on =
      subst (λ (o : Option MarksDevice). Claim (on_device o (starts path))) (sym (found d on.0)) (starts_counted path)
  event_counted (events.Step d) on = subst (λ (o : Option MarksDevice). Claim (on_device o (step by_plain))) (sym (found d on)) step_counted
  event_counted (events.Back d) on = subst (λ (o : Option MarksDevice). Claim (on_device o (back by_plain))) (sym (found d on)) back_counted
  event_counted (events.Reset path d) on =
      subst (λ (o : Option MarksDevice). Claim (on_device o (λ x. Asks x (ends_by ends_done (reset by_plain x path))))) (sym (found d on))
      (reset_counted path)
  event_counted events.Power on = absurd on
  event_counted events.FailCache on = absurd on
  event_counted events.FailStore on = absurd on
  event_counted (events.FailVolume d side) on =
      subst (λ (o : Option MarksDevice). Claim (on_device o
      (λ x. order (fail_fault x side) (Asks x (ends_by ends_done (lose by_plain x (losses.Side side))))))) (sym (found d on))
      (fail_by side (fail_fault m.device side))
  event_counted events.RepairCache on = absurd on
  event_counted events.RepairStore on = absurd on
  event_counted (events.Pair a b) on = absurd on
  event_counted (events.Suspend d) on =
      subst (λ (o : Option MarksDevice). Claim (on_device o (λ x. order (suspend_fault x) (Becomes (orders.hold_side x) ends.Done)))) (sym (found d on))
      (becomes_by (orders.hold_side m.device) (suspend_fault m.device) mine refl refl)
  event_counted (events.Resume d) on =
      subst (λ (o : Option MarksDevice). Claim (on_device o (λ x. order (resume_fault x) (Becomes (resume x) ends.Done)))) (sym (found d on))
      (becomes_by (resume m.device) (resume_fault m.device) mine refl refl)
