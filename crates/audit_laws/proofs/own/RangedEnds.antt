-- What a start and each order of a run answer is in its range.
use Rattle.std.proofs.Common.{◌≡◌, ◌≤◌, ◌<◌, ◌+◌, ◌-◌, ◌*◌, ◌==◌, ℕ, Bool, true, false, List, [], ◌∷◌, length, map, Option, Some, None, is_some, refl, if◌then◌else◌, arith}
use Rattle.std.specs.Prelude.{All, IfSome, not}
use Rattle.std.proofs.lemmas.Bool.{eqb-false}
use Rattle.std.proofs.lemmas.List.Elements.{All-head, All-tail}
use Rattle.ckd_types.specs.declared.paths.Owner.{Owner}
use Rattle.ckd_types.specs.declared.paths.Side.{Side}
use Rattle.loss_model.specs.declared.Loss.TheVariants as losses
use Rattle.plain_defs.specs.History.{OpenEntry}
use Rattle.plain_defs.specs.Journal.{planned}
use Rattle.track_table.proofs.Counts.{few_marked}
use Rattle.device_outside.specs.Interaction.{Done, and_then}
use Rattle.device_outside.specs.Pool.{Pool, cache_failed, store_failed}
use Rattle.device_outside.specs.Told as T
use Rattle.device_outside.specs.Told.{Told, calls_of, told_read, read_fails, told_write, write_fails}
use Rattle.device_defs.specs.declared.answers.StartFault.{StartFault}
use Rattle.device_defs.specs.Contents.{by_plain}
use Rattle.device_defs.specs.declared.answers.Did.{Did as BackDid}
use Rattle.device_defs.specs.Command.{command}
use Rattle.device_defs.specs.Events.{background, lose, second}
use Rattle.device_defs.specs.Marks.{MarksDevice}
use Rattle.device_defs.specs.Orders.{hold_side, resume}
use Rattle.device_defs.specs.Start as S
use Rattle.device_defs.specs.Start.{fault_by, idle_fault, is_shut, keeps_out, left, next_ordinal, reserved_fault, running_fault, start, start_fault, started_count}
use Rattle.device_defs.specs.Store.{HalfWrite}
use Rattle.device_laws.proofs.Had.{Had, had_done, had_then, held}
use Rattle.device_laws.proofs.HistoryTold.{background_told}
use Rattle.device_laws.proofs.PlainEvents.{had_always}
use Rattle.report_reading.specs.Ranges.{IsOwner, IsAnswer, IsFault, IsStart}
use Rattle.run_report.specs.Answers.{order_answer, refused_as, start_answer}
use Rattle.subsystem_defs.specs.declared.end.EventEnd.{EventEnd}
use Rattle.subsystem_defs.specs.declared.end.EventEnd.TheVariants as ends
use Rattle.subsystem_defs.specs.declared.end.OrderFault.{OrderFault}
use Rattle.subsystem_defs.specs.declared.end.OrderFault.TheVariants as faults
use Rattle.subsystem_defs.specs.declared.event.Event.{Event}
use Rattle.subsystem_defs.specs.declared.event.Event.TheVariants as events
use Rattle.subsystem_defs.specs.Deeds as E
use Rattle.subsystem_defs.specs.Deeds.{Asks, Becomes, Each as Sweeps, Ends, Lends, Repairs, device_in, ends_done, on_device, order, start_by, starts}
use Rattle.subsystem_defs.specs.Happening as H
use Rattle.subsystem_defs.specs.Happening.{MarksDeed, Talk, asks, happens, happens_by, replaced, replaced_at, replaced_by, unpaired, unpaired_at, unpaired_by}
use Rattle.subsystem_defs.specs.Happening.{told_end}
use Rattle.subsystem_defs.specs.Lines.{Asked, Logged, Once, Replace, Run, Settle, Unpair}
use Rattle.subsystem_defs.specs.Refusals as R
use Rattle.subsystem_defs.specs.Refusals.{active_by, fail_fault, first_cause, has_side, is_alike, lent_by, not_level_by, pair_fault, replace_fault, resume_fault, stale_count, suspend_fault, unpair_fault, where_so}
use Rattle.subsystem_defs.specs.Subsystem.{Mounted, Subsystem, devices_of, mounted_in, unfailing}
use Rattle.subsystem_laws.proofs.HadAnswers.{any_had}
use Rattle.subsystem_laws.proofs.RunLines.{AnyEvent, Goes}
use Rattle.audit_laws.proofs.own.RangedCommands.{EventIn, command_in, second_in}
use Rattle.audit_laws.proofs.own.RangedDevices.{Ranged, device_ranged, few_programs}
use Rattle.audit_laws.proofs.own.RangedSteps.{WorkIn, background_tells, command_tells, second_tells}

-- An event's end, by what happens to the devices

module _ (P : EventEnd → Type 0) (done : P ends.Done) (idle : P ends.Idle) where
  abbrev pub Fine : MarksDeed → Type 0
  Fine (Ends end) = P end
  Fine (Becomes d end) = P end
  Fine (Asks d talk) = (t : Told) → P (told_end (T.hold true talk t).answer)
  Fine (Sweeps pool f) = Unit {0}
  Fine (Repairs pool) = Unit {0}
  Fine (Lends x y) = Unit {0}

  pub fine_end : (s : Subsystem) (x : MarksDeed) → Fine x → P (happens_by s x).end
  fine_end s x h = grind arith

  pub on_fine : (o : Option MarksDevice) (f : MarksDevice → MarksDeed) → IfSome o Ranged → ((d : MarksDevice) → Ranged d → Fine (f d)) → Fine (on_device o f)
  on_fine o f r h = grind arith

-- Orders

abbrev pub OrderIn : EventEnd → Type 0
OrderIn end = IsAnswer (order_answer end)

abbrev FaultIn : OrderFault → Type 0
FaultIn f = IsFault (refused_as f)

abbrev CauseIn : Option OrderFault → Type 0
CauseIn o = IfSome o FaultIn

where_in : (b : Bool) (f : OrderFault) → FaultIn f → CauseIn (where_so b f)
where_in b f h = grind arith

-- the first of some causes
record FirstIn (l : List (Option OrderFault)) : Type 0 where
  first : CauseIn (first_cause l)

none_first : FirstIn []
none_first = record { first = tt }

first_then : {l : List (Option OrderFault)} (o : Option OrderFault) → CauseIn o → FirstIn l → FirstIn (o ∷ l)
first_then o h rest = search arith

where_first : {l : List (Option OrderFault)} (b : Bool) (f : OrderFault) → FaultIn f → FirstIn l → FirstIn (where_so b f ∷ l)
where_first b f h rest = first_then (where_so b f) (where_in b f h) rest

level_in : (n k : ℕ) → k ≤ 64 → n ≤ k * 15 → CauseIn (not_level_by n)
level_in n k most few = where_in (not (n == 0)) (faults.NotLevel n) (omega (arith, most, few))

pair_in : (x y : MarksDevice) → Ranged x → Ranged y → CauseIn (pair_fault x y)
unfolding R.pair_fault
pair_in x y r s = grind (arith, where_first, first_then, none_first)

unpair_in : (x : MarksDevice) → Ranged x → CauseIn (unpair_fault x)
unfolding R.unpair_fault
unpair_in x r = grind (arith, where_first, first_then, is_some, level_in, few_marked, none_first)

suspend_in : (x : MarksDevice) → CauseIn (suspend_fault x)
unfolding R.suspend_fault
suspend_in x = grind (arith, where_first, is_some, none_first)

resume_in : (x : MarksDevice) → CauseIn (resume_fault x)
unfolding R.resume_fault
resume_in x = (where_first (not x.store.paired) faults.Unpaired tt (where_first (not x.store.held) faults.NotHeld tt none_first)).first

fail_in : (x : MarksDevice) (side : Side) → Ranged x → CauseIn (fail_fault x side)
unfolding R.fail_fault
fail_in x side r = grind (arith, first_then, where_first, none_first)

replace_in : (x : MarksDevice) (side : Side) → Ranged x → CauseIn (replace_fault x side)
unfolding R.replace_fault
replace_in x side r = grind (arith, first_then, where_first, is_some, none_first)

abbrev FineOrder : MarksDeed → Type 0
FineOrder x = Fine OrderIn tt tt x

ordered : (o : Option OrderFault) (x : MarksDeed) → CauseIn o → FineOrder x → FineOrder (order o x)
ordered o x h k = grind arith

lost_in : (d : MarksDevice) (side : Side) (t : Told) →
    OrderIn (told_end (T.hold true (and_then (lose by_plain d (losses.Side side)) (λ z a. Done z (Some (ends_done a)))) t).answer)
lost_in d side t =
    let had : Had (and_then (lose by_plain d (losses.Side side)) (λ z a. Done z (Some (ends_done a)))) (λ (y : MarksDevice) o. OrderIn (told_end o))
    = had_then (any_had (lose by_plain d (losses.Side side))) (λ z a _. had_done tt)
    in
    held true had t

down_in : (b : Bool) (pool : Pool) (f : MarksDevice → Talk (Unit {0})) → FineOrder (E.order_if_not b faults.Down (Sweeps pool f))
down_in b pool f = grind arith

-- A start

abbrev pub StartIn : EventEnd → Type 0
StartIn end = IsStart (start_answer end)

abbrev FineStart : MarksDeed → Type 0
FineStart x = Fine StartIn tt tt x

module _ (d : MarksDevice) (k : Ranged d) (path : ℕ) where
  abbrev Refused : Option StartFault → Type 0
  Refused o = IfSome o (λ f. StartIn (ends.NotStarted f))

  reserved_in : (o : Option Owner) → IfSome o IsOwner → Refused (reserved_fault d o)
  reserved_in o h = grind arith

  lent_start : (o : Option ℕ) → IfSome o (λ n. n < 16) → Refused (fault_by d path o)
  lent_start o h = grind (arith, reserved_in)

  fault_in : Refused (start_fault d path)
  unfolding S.start_fault
  fault_in = lent_start d.store.lent k.sized.lent

  some_left : (n m : ℕ) → (n - m ≡ 0 → ⊥) → m + 1 ≤ n
  some_left n m apart = omega (arith, apart)

  lent_left : (o : Option ℕ) → fault_by d path o ≡ None → next_ordinal d path ≤ length (planned d.plans path)
  lent_left o none = grind (arith, some_left, eqb-false)

  planned_next : start_fault d path ≡ None → next_ordinal d path ≤ length (planned d.plans path)
  unfolding S.start_fault
  planned_next none = lent_left d.store.lent none

  starts_in : FineStart (starts path d)
  starts_in = grind (arith, few_programs, planned_next, fault_in)

-- A piece of work

-- how its command ends, and the tracks that it tells of
abbrev pub PieceIn : EventEnd → Type 0
PieceIn end = EventIn end × WorkIn end

nothing_in : PieceIn ends.Idle
nothing_in = (tt, tt)

abbrev FineWork : MarksDeed → Type 0
FineWork x = Fine PieceIn nothing_in nothing_in x

told_in : (o : Option EventEnd) → IfSome o EventIn → IfSome o WorkIn → PieceIn (told_end o)
told_in o h g = grind arith

never_ends : (o : Option BackDid) → IfSome (E.end_of ends.Back o) EventIn
never_ends o = grind arith

had_in : (d : MarksDevice) (talk : Talk (Option EventEnd)) → Had talk (λ y end. IfSome end EventIn) → Had talk (λ y end. IfSome end WorkIn) →
    FineWork (Asks d talk)
had_in d talk h g = λ t. told_in (T.hold true talk t).answer (held true h t) (held true g t)

module _ (d : MarksDevice) (k : Ranged d) where
  seconds_in : (h : HalfWrite (Unit {0})) → d.store.half ≡ Some h → FineWork (E.seconds by_plain d)
  seconds_in h there = had_in d (E.ends_by ends.Second (second by_plain d)) (second_in d k.follows k.sized.words h there) (second_tells d k.works)

  steps_in : FineWork (E.step by_plain d)
  steps_in = by_half d.store.half refl d.history.running refl where
    by_half : (h : Option (HalfWrite (Unit {0}))) → d.store.half ≡ h → (r : Option OpenEntry) → d.history.running ≡ r →
        FineWork (if is_some h then E.seconds by_plain d
        else if is_some r then Asks d (E.may_end_by ends.Stepped (command by_plain d)) else Ends ends.Idle)
    by_half (Some h) there r running = seconds_in h there
    by_half None whole (Some o) running =
        had_in d (E.may_end_by ends.Stepped (command by_plain d)) (command_in d k.follows k.sized.words o running whole) (command_tells d k.works)
    by_half None whole None running = nothing_in

  backs_in : FineWork (E.back by_plain d)
  backs_in = by_half d.store.half refl where
    by_half : (h : Option (HalfWrite (Unit {0}))) → d.store.half ≡ h →
        FineWork (if is_some h then E.seconds by_plain d else Asks d (E.may_end_by ends.Back (background by_plain d)))
    by_half (Some h) there = seconds_in h there
    by_half None whole =
        had_in d (E.may_end_by ends.Back (background by_plain d))
        (had_then (had_always (background_told by_plain d)) (λ y answer c. had_done (never_ends answer))) (background_tells d k.works)

-- All events: what a repair answers is shown elsewhere

abbrev pub AnswersOnce : Event → EventEnd → Type 0
AnswersOnce (events.Start path d) end = StartIn end
AnswersOnce (events.Step d) end = PieceIn end
AnswersOnce (events.Back d) end = PieceIn end
AnswersOnce (events.Reset path d) end = Unit {0}
AnswersOnce events.RepairCache end = Unit {0}
AnswersOnce events.RepairStore end = Unit {0}
AnswersOnce _ end = OrderIn end

abbrev pub Answers : Asked → EventEnd → Type 0
Answers (Once e) end = AnswersOnce e end
Answers (Replace d side) end = OrderIn end
Answers (Unpair a) end = OrderIn end
Answers (Run d) end = PieceIn end
Answers (Settle d) end = PieceIn end

module _ (s : Subsystem) (all : All Ranged (devices_of s)) where
  there : (n : ℕ) → IfSome (device_in (devices_of s) n) Ranged
  there n = device_ranged (devices_of s) n all

  at_device : (P : EventEnd → Type 0) (done : P ends.Done) (idle : P ends.Idle) (n : ℕ) (f : MarksDevice → MarksDeed) →
      ((x : MarksDevice) → Ranged x → Fine P done idle (f x)) → P (happens_by s (on_device (device_in (devices_of s) n) f)).end
  at_device P done idle n f h =
      fine_end P done idle s (on_device (device_in (devices_of s) n) f) (on_fine P done idle (device_in (devices_of s) n) f (there n) h)

  order_at : (n : ℕ) (fault : MarksDevice → Option OrderFault) (y : MarksDevice → MarksDeed) → ((x : MarksDevice) → Ranged x → CauseIn (fault x)) →
      ((x : MarksDevice) → Ranged x → FineOrder (y x)) → OrderIn (happens_by s (on_device (device_in (devices_of s) n) (λ x. order (fault x) (y x)))).end
  order_at n fault y causes fine = at_device OrderIn tt tt n (λ x. order (fault x) (y x)) (λ x k. ordered (fault x) (y x) (causes x k) (fine x k))

  once_answers : (e : Event) → AnswersOnce e (happens s e).end
  unfolding H.happens E.deed
  once_answers (events.Start path d) = at_device StartIn tt tt d (starts path) (λ x k. starts_in x k path)
  once_answers (events.Step d) = at_device PieceIn nothing_in nothing_in d (E.step by_plain) steps_in
  once_answers (events.Back d) = at_device PieceIn nothing_in nothing_in d (E.back by_plain) backs_in
  once_answers (events.Reset path d) = tt
  once_answers events.FailCache =
      fine_end OrderIn tt tt s (E.order_if_not (not s.pool.cache_up) faults.Down (Sweeps (cache_failed s.pool) (λ x. lose by_plain x losses.Cache)))
      (down_in (not s.pool.cache_up) (cache_failed s.pool) (λ x. lose by_plain x losses.Cache))
  once_answers events.FailStore =
      fine_end OrderIn tt tt s (E.order_if_not (not s.pool.store_up) faults.Down (Sweeps (store_failed s.pool) (λ x. lose by_plain x losses.Store)))
      (down_in (not s.pool.store_up) (store_failed s.pool) (λ x. lose by_plain x losses.Store))
  once_answers (events.FailVolume d side) =
      order_at d (λ x. fail_fault x side) (λ x. Asks x (E.ends_by ends_done (lose by_plain x (losses.Side side)))) (λ x k. fail_in x side k) (λ x k. lost_in x side)
  once_answers events.RepairCache = tt
  once_answers events.RepairStore = tt
  once_answers (events.Pair a b) =
      let g = λ (x y : MarksDevice). order (pair_fault x y) (Lends x y) in
      at_device OrderIn tt tt a (λ x. on_device (device_in (devices_of s) b) (g x))
      (λ x k. on_fine OrderIn tt tt (device_in (devices_of s) b) (g x) (there b) (λ y l. ordered (pair_fault x y) (Lends x y) (pair_in x y k l) tt))
  once_answers (events.Suspend a) = order_at a suspend_fault (λ x. Becomes (hold_side x) ends.Done) (λ x k. suspend_in x) (λ x k. tt)
  once_answers (events.Resume a) = order_at a resume_fault (λ x. Becomes (resume x) ends.Done) (λ x k. resume_in x) (λ x k. tt)
  once_answers events.Power = tt

  mounted_ranged : (ms : List Mounted) (n : ℕ) → All Ranged (map (λ (m : Mounted). m.device) ms) → IfSome (mounted_in ms n) (λ m. Ranged m.device)
  mounted_ranged [] n r = tt
  mounted_ranged (m ∷ ms) n r =
      by_test (m.device.store.device == n) (All-head Ranged m.device (map (λ (x : Mounted). x.device) ms) r)
      (mounted_ranged ms n (All-tail Ranged m.device (map (λ (x : Mounted). x.device) ms) r))
    where
      by_test : (b : Bool) → Ranged m.device → IfSome (mounted_in ms n) (λ x. Ranged x.device) →
          IfSome (if b then Some m else mounted_in ms n) (λ x. Ranged x.device)
      by_test true k rest = k
      by_test false k rest = rest

  replaced_end : (d : ℕ) (side : Side) (m : Mounted) (o : Option OrderFault) → CauseIn o → OrderIn (replaced_by s d side unfailing m o).end
  replaced_end d side m (Some f) h = h
  replaced_end d side m None h = tt

  replaced_found : (d : ℕ) (side : Side) (o : Option Mounted) → IfSome o (λ m. Ranged m.device) → OrderIn (replaced_at s d side unfailing o).end
  replaced_found d side (Some m) k = replaced_end d side m (replace_fault m.device side) (replace_in m.device side k)
  replaced_found d side None k = tt

  replaced_answers : (d : ℕ) (side : Side) → OrderIn (replaced s d side unfailing).end
  unfolding H.replaced
  replaced_answers d side = replaced_found d side (mounted_in s.mounted d) (mounted_ranged s.mounted d all)

  unpaired_end : (a : ℕ) (m : Mounted) (o : Option OrderFault) → CauseIn o → OrderIn (unpaired_by s a unfailing m o).end
  unpaired_end a m (Some f) h = h
  unpaired_end a m None h = tt

  unpaired_found : (a : ℕ) (o : Option Mounted) → IfSome o (λ m. Ranged m.device) → OrderIn (unpaired_at s a unfailing o).end
  unpaired_found a (Some m) k = unpaired_end a m (unpair_fault m.device) (unpair_in m.device k)
  unpaired_found a None k = tt

  unpaired_answers : (a : ℕ) → OrderIn (unpaired s a unfailing).end
  unfolding H.unpaired
  unpaired_answers a = unpaired_found a (mounted_in s.mounted a) (mounted_ranged s.mounted a all)

-- of devices in their ranges
abbrev pub AnswersSo : Subsystem → Logged → Type 0
AnswersSo s t = All Ranged (devices_of s) → Answers t.asked t.happened.end

pub answers_go : Goes (λ s. Unit {0}) AnswersSo AnyEvent
answers_go = record {
  once = λ s e may q. (tt, λ all. once_answers s all e);
  stepped = λ s d q. (tt, λ all. once_answers s all (events.Step d));
  idle = λ s d q. (tt, λ all. nothing_in);
  backed = λ s d q. (tt, λ all. once_answers s all (events.Back d));
  replaces = λ s d side q. (tt, λ all. replaced_answers s all d side);
  unpairs = λ s a q. (tt, λ all. unpaired_answers s all a);
}
