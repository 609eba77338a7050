-- The report of a run shows of each device's programs what its history has.
use Rattle.std.proofs.Common.{
  ◌≡◌,
  ◌==◌,
  ◌++◌,
  zero,
  suc,
  ℕ,
  Bool,
  true,
  false,
  List,
  [],
  ◌∷◌,
  map,
  Option,
  Some,
  None,
  not,
  refl,
  sym,
  ap,
  subst,
  ◌∙◌,
  if◌then◌else◌,
  length,
  arith,
}
use Rattle.std.specs.Prelude.{◌&&◌, ◌<◌, nat_lt, All, Ok, Err}
use Rattle.std.specs.List.{list_all}
use Rattle.std.proofs.lemmas.Bool.{cond_both, eqb-true, eqb-false, eq-eqb, ne_eqb, ltb-true}
use Rattle.std.proofs.lemmas.List.Elements.{All-nil, All-cons, All-head, All-tail}
use Rattle.ckd_types.specs.declared.paths.Side.{Side}
use Rattle.ckd_types.specs.declared.paths.Side.TheVariants.{A, B}
use Rattle.deck_plan.specs.declared.event.EventLine.{EventLine}
use Rattle.deck_text.specs.declared.line.DeviceLine.{DeviceLine}
use Rattle.deck_text.specs.declared.line.DeckWhy.TheVariants.{Words, Number}
use Rattle.deck_text.specs.DeckLines.{DeckLines}
use Rattle.deck_text.specs.Forms.{needed, then_read, device_line, rising, rises}
use Rattle.deck_text.specs.Numbers.{number_in, geometry_of}
use Rattle.deck_text.specs.Parse.{parsed}
use Rattle.deck_text.specs.Words.{three_words}
use Rattle.deck_text.proofs.DeckAgain.{device_words, AllDevices}
use Rattle.deck_text.proofs.FormsAgain.{went, if_ok}
use Rattle.deck_text.proofs.Reached.{parsed_good}
use Rattle.loss_model.specs.declared.Loss.TheVariants as losses
use Rattle.plain_defs.specs.History.{History}
use Rattle.device_outside.specs.Pool.{Pool, all_waiting, cache_failed, store_failed, power_lost, cache_repaired, store_repaired}
use Rattle.device_outside.specs.Told.{Calls}
use Rattle.device_defs.specs.Contents.{by_plain}
use Rattle.device_defs.specs.Cutting.{reset}
use Rattle.device_defs.specs.Events.{lose}
use Rattle.device_defs.specs.Marks.{MarksDevice}
use Rattle.device_defs.specs.Orders.{hold_side, resume, replace, split}
use Rattle.report_text.specs.declared.event.Happened as report
use Rattle.report_text.specs.declared.event.Happened.TheVariants as did
use Rattle.report_text.specs.declared.line.ReportLine.{ReportLine}
use Rattle.report_text.specs.declared.line.ReportLine.TheVariants as lines
use Rattle.report_text.specs.declared.order.Order.{Order}
use Rattle.report_text.specs.declared.order.Order.TheVariants as orders
use Rattle.report_text.specs.declared.answers.StartAnswer.TheVariants as answers
use Rattle.run_report.specs.Answers.{start_answer, order_answer}
use Rattle.run_report.specs.Events.{work_told, running_by, once_told, told, work_lines, event_lines}
use Rattle.run_report.specs.Report.{report_lines}
use Rattle.run_report.specs.Shown.{shown_from, shown_of, history_lines, ShowsHistory, DeckRunsPlainlyOn}
use Rattle.run_report.specs.Showing.{lines_by_history, lines_in, ShowsEvent, AreShown}
use Rattle.run_report.proofs.Showing.{report_shows}
use Rattle.run_report.proofs.shown.Histories.{HistoryShows, same_shows, emptied_shows}
use Rattle.run_report.proofs.shown.Lines.{IsOther, work_shows, power_shows}
use Rattle.run_report.proofs.shown.Places.{
  devices,
  Apart,
  apart_none,
  apart_more,
  At,
  here,
  there,
  One,
  one_here,
  one_there,
  Lone,
  lone_none,
  lone_more,
  at_same,
  at_then,
  at_weaker,
  one_behind,
  put_at,
  restored_at,
  at_shows,
}
use Rattle.run_report.proofs.shown.ShownDeeds.{start_shown, step_shown, back_shown, quiet_becomes, quiet_reset, quiet_loss, all_lose, all_power}
use Rattle.run_report.proofs.shown.ShownEvents.{says, Silent, Shows, kept, same_kept, ShowsDeed, happens_at, before_same}
use Rattle.subsystem_defs.specs.declared.end.EventEnd.{EventEnd}
use Rattle.subsystem_defs.specs.declared.end.EventEnd.TheVariants as ends
use Rattle.subsystem_defs.specs.declared.end.OrderFault.{OrderFault}
use Rattle.subsystem_defs.specs.declared.event.Event.{Event}
use Rattle.subsystem_defs.specs.declared.event.Event.TheVariants as events
use Rattle.subsystem_defs.specs.Decks as D
use Rattle.subsystem_defs.specs.Decks.{Firsts, AreWhole, opened_device_on, opened_on, run_on}
use Rattle.subsystem_defs.specs.Deeds as E
use Rattle.subsystem_defs.specs.Deeds.{Ends, Becomes, Asks, Repairs, Lends, on_device, order, repair, deed, device_in, ends_done, starts, step, back, ends_by}
use Rattle.subsystem_defs.specs.Happening as H
use Rattle.subsystem_defs.specs.Happening.{
  EventHappened,
  MarksDeed,
  happens,
  quietly,
  replaced,
  replaced_at,
  replaced_by,
  unpaired,
  unpaired_at,
  unpaired_by,
  restored_in,
}
use Rattle.subsystem_defs.specs.Lines as L
use Rattle.subsystem_defs.specs.Lines.{
  is_settled,
  most_backs,
  backs,
  Asked,
  Once,
  Replace,
  Unpair,
  Run,
  Settle,
  asked_by,
  Logged,
  logged,
  is_busy,
  step_logged,
  steps,
  most_steps,
  run_logged,
  line_logged,
  last_behind,
  run_lines,
}
use Rattle.subsystem_defs.specs.Refusals.{pair_fault, suspend_fault, resume_fault, fail_fault, replace_fault, unpair_fault}
use Rattle.subsystem_defs.specs.Subsystem.{Mounted, Subsystem, number_of, devices_of, mounted_in, put_in, with_calls, unfailing}
use Rattle.subsystem_laws.specs.Served.{IsServed, IsServedDeck}
use Rattle.subsystem_laws.proofs.ReadDecks.{read_served}
use Rattle.subsystem_laws.proofs.FoundDevices.{number_found, same_found}
use Rattle.subsystem_laws.proofs.PlainRuns.{ArePlainOn, event_plain_on, line_plain, opened_plain_on, run_plainly_on, lent_is_idle}

-- numbers that differ

abbrev is_none_of : ℕ → List ℕ → Bool
is_none_of n [] = true
is_none_of n (m ∷ ms) = not (m == n) && is_none_of n ms

abbrev are_distinct : List ℕ → Bool
are_distinct [] = true
are_distinct (n ∷ ns) = is_none_of n ns && are_distinct ns

abbrev numbers_of : List DeviceLine → List ℕ
numbers_of ds = map (λ (d : DeviceLine). d.number) ds

never : (b : Bool) (l : ReportLine) → (if b && false then l ∷ [] else []) ≡ []
never true l = refl
never false l = refl

abbrev Anything : MarksDevice → MarksDevice → Type 0
Anything b a = Unit {0}

module _ (n : ℕ) (firsts : Firsts) where
  -- Each event

  module _ (s : Subsystem) (plain : ArePlainOn firsts s.mounted) where
    either : (t : EventEnd → report.Happened) (b : Bool) (x y : MarksDeed) → ShowsDeed n s t x → ShowsDeed n s t y → ShowsDeed n s t (if b then x else y)
    either t true x y f g = f
    either t false x y f g = g

    on_found : (t : EventEnd → report.Happened) (k : ℕ) (o : Option MarksDevice) (f : MarksDevice → MarksDeed) → device_in (devices_of s) k ≡ o →
        Silent n (t ends.Done) → ((x : MarksDevice) → device_in (devices_of s) k ≡ Some x → ShowsDeed n s t (f x)) → ShowsDeed n s t (on_device o f)
    on_found t k None f at silent h = silent
    on_found t k (Some x) f at silent h = h x at

    ordered : (t : EventEnd → report.Happened) (silent : (end : EventEnd) → Silent n (t end)) (o : Option OrderFault) (x : MarksDeed) →
        (o ≡ None → ShowsDeed n s t x) → ShowsDeed n s t (order o x)
    ordered t silent (Some f) x h = silent (ends.Refused f)
    ordered t silent None x h = h refl

    order_silent : (o : Order) (end : EventEnd) → Silent n (did.Ordered o (order_answer end))
    order_silent o end own = refl

    order_told : Order → EventEnd → report.Happened
    order_told o end = did.Ordered o (order_answer end)

    repaired : (o : Order) (up : Bool) (pool later : Pool) → ShowsDeed n s (λ end. did.Ordered o (order_answer end)) (repair up pool later)
    repaired o up pool later =
        let t = λ (end : EventEnd). did.Ordered o (order_answer end) in
        either t up _ (if all_waiting pool == 0 then Repairs later else Ends (ends.Pending (all_waiting pool))) (λ own. refl)
        (either t (all_waiting pool == 0) (Repairs later) (Ends (ends.Pending (all_waiting pool))) (λ own. refl) (λ own. refl))

    steps_on : (idle : report.Happened) → Silent n idle → IsOther n idle → (k : ℕ) (o : Option MarksDevice) → device_in (devices_of s) k ≡ o →
        ShowsDeed n s (λ end. work_told k (running_by o) idle end) (on_device o (step by_plain))
    steps_on idle silent other k None at = silent
    steps_on idle silent other k (Some x) at = step_shown n firsts s plain k x at idle silent other

    backs_on : (idle : report.Happened) → Silent n idle → IsOther n idle → (k : ℕ) (o : Option MarksDevice) → device_in (devices_of s) k ≡ o →
        ShowsDeed n s (λ end. work_told k (running_by o) idle end) (on_device o (back by_plain))
    backs_on idle silent other k None at = silent
    backs_on idle silent other k (Some x) at = back_shown n firsts s plain k x at idle silent other

    lends_on : (a b : ℕ) (x : MarksDevice) (o : Option MarksDevice) → device_in (devices_of s) b ≡ o →
        ShowsDeed n s (λ end. did.Ordered (orders.Pair a b) (order_answer end)) (on_device o (λ y. order (pair_fault x y) (Lends x y)))
    lends_on a b x None at = λ own. refl
    lends_on a b x (Some y) at =
        ordered (λ end. did.Ordered (orders.Pair a b) (order_answer end)) (order_silent (orders.Pair a b)) (pair_fault x y) (Lends x y) (λ fault. (
          λ own. refl,
          λ m found. ap (λ (d : MarksDevice). d.history.running)
              (same_found s.mounted b y m at (ap (mounted_in s.mounted) (sym (number_found s.mounted b y at)) ∙ found))
              ∙ lent_is_idle x y fault,
        ))

    deed_shown : (e : Event) → ShowsDeed n s (λ end. once_told (devices_of s) end e) (deed by_plain s.pool (devices_of s) e)
    unfolding E.deed
    deed_shown (events.Start path d) =
        on_found (λ end. did.First (lines.Start path d (start_answer end))) d (device_in (devices_of s) d) (starts path) refl
        (λ own. never (d == n) (lines.Start path d answers.Running)) (λ x at. start_shown n firsts s plain d x at path)
    deed_shown (events.Step d) = steps_on _ (λ own. refl) (λ own. refl) d (device_in (devices_of s) d) refl
    deed_shown (events.Back d) = backs_on _ (λ own. refl) (λ own. refl) d (device_in (devices_of s) d) refl
    deed_shown (events.Reset path d) =
        on_found (λ end. did.Reset path d) d (device_in (devices_of s) d) (λ x. Asks x (ends_by ends_done (reset by_plain x path))) refl (λ own. refl)
        (λ x at. quiet_reset n firsts s plain d x at (λ end. did.Reset path d) (λ end own. refl) path)
    deed_shown events.FailCache =
        either (λ end. did.Ordered orders.FailCache (order_answer end)) (not s.pool.cache_up) _ _ (λ own. refl)
        (all_lose n firsts s plain (λ end. did.Ordered orders.FailCache (order_answer end)) (order_silent orders.FailCache) (cache_failed s.pool) losses.Cache)
    deed_shown events.FailStore =
        either (λ end. did.Ordered orders.FailStore (order_answer end)) (not s.pool.store_up) _ _ (λ own. refl)
        (all_lose n firsts s plain (λ end. did.Ordered orders.FailStore (order_answer end)) (order_silent orders.FailStore) (store_failed s.pool) losses.Store)
    deed_shown (events.FailVolume d side) =
        let t = λ (end : EventEnd). did.Ordered (orders.FailVolume d side) (order_answer end) in
        on_found t d (device_in (devices_of s) d) (λ x. order (fail_fault x side) (Asks x (ends_by ends_done (lose by_plain x (losses.Side side))))) refl
        (λ own. refl)
        (λ x at. ordered t (order_silent (orders.FailVolume d side)) (fail_fault x side) _
        (λ _. quiet_loss n firsts s plain d x at t (order_silent (orders.FailVolume d side)) (losses.Side side)))
    deed_shown events.RepairCache = repaired orders.RepairCache s.pool.cache_up s.pool (cache_repaired s.pool)
    deed_shown events.RepairStore = repaired orders.RepairStore s.pool.store_up s.pool (store_repaired s.pool)
    deed_shown (events.Pair a b) =
        on_found (λ end. did.Ordered (orders.Pair a b) (order_answer end)) a (device_in (devices_of s) a)
        (λ x. on_device (device_in (devices_of s) b) (λ y. order (pair_fault x y) (Lends x y))) refl (λ own. refl)
        (λ x at. lends_on a b x (device_in (devices_of s) b) refl)
    deed_shown (events.Suspend a) =
        let t = λ (end : EventEnd). did.Ordered (orders.Suspend a) (order_answer end) in
        on_found t a (device_in (devices_of s) a) (λ x. order (suspend_fault x) (Becomes (hold_side x) ends.Done)) refl (λ own. refl)
        (λ x at. ordered t (order_silent (orders.Suspend a)) (suspend_fault x) (Becomes (hold_side x) ends.Done)
        (λ _. quiet_becomes n firsts s plain a x at t (order_silent (orders.Suspend a)) (hold_side x) refl refl))
    deed_shown (events.Resume a) =
        let t = λ (end : EventEnd). did.Ordered (orders.Resume a) (order_answer end) in
        on_found t a (device_in (devices_of s) a) (λ x. order (resume_fault x) (Becomes (resume x) ends.Done)) refl (λ own. refl)
        (λ x at. ordered t (order_silent (orders.Resume a)) (resume_fault x) (Becomes (resume x) ends.Done)
        (λ _. quiet_becomes n firsts s plain a x at t (order_silent (orders.Resume a)) (resume x) refl refl))
    deed_shown events.Power =
        all_power n firsts s plain (λ end. did.Ordered orders.Power (order_answer end)) (order_silent orders.Power) (power_lost s.pool)

  -- What happened in an event, by the place of the device

  shows_event : (s : Subsystem) (asked : Asked) (h : EventHappened) → h.before ≡ s →
      (event_lines asked h.end h.reads h.writes (devices_of s) (devices_of h.behind)
      ≡ work_lines (told (devices_of s) h.end asked) h.reads h.writes (devices_of s) (devices_of h.behind)) →
      At n (Shows n (told (devices_of s) h.end asked)) (devices s.mounted) (devices h.behind.mounted) → ShowsEvent n s (logged asked h)
  shows_event s asked h before is at own =
      at_shows n (says n (told (devices_of s) h.end asked)) (devices s.mounted) (devices h.behind.mounted) at own
      ∙ ap (λ (l : List ReportLine). lines_in s n ++ l)
      (sym (ap (λ (t : Subsystem). shown_from n own (event_lines asked h.end h.reads h.writes (devices_of t) (devices_of h.behind))) before
      ∙ ap (shown_from n own) is ∙ work_shows n (told (devices_of s) h.end asked) h.reads h.writes (devices_of s) (devices_of h.behind) own))

  -- the event of a loss of power
  shows_power : (s : Subsystem) (h : EventHappened) → h.before ≡ s →
      At n (Shows n (told (devices_of s) h.end (Once events.Power))) (devices s.mounted) (devices h.behind.mounted) →
      ShowsEvent n s (logged (Once events.Power) h)
  shows_power s h before at own =
      at_shows n (says n (told (devices_of s) h.end (Once events.Power))) (devices s.mounted) (devices h.behind.mounted) at own
      ∙ ap (λ (l : List ReportLine). lines_in s n ++ l)
      (sym (ap (λ (t : Subsystem). shown_from n own (event_lines (Once events.Power) h.end h.reads h.writes (devices_of t) (devices_of h.behind))) before
      ∙ power_shows n h.end (devices_of s) (devices_of h.behind) own))

  -- what an event shows, and that the device stays in its place
  abbrev Seen : Subsystem → Logged → Type 0
  Seen s t = ShowsEvent n s t × At n Anything (devices s.mounted) (devices t.happened.behind.mounted)

  placed : {q : MarksDevice → MarksDevice → Type 0} (bs ks : List MarksDevice) → At n q bs ks → At n Anything bs ks
  placed bs ks at = at_weaker n bs ks at (λ b a x. tt)

  module _ (s : Subsystem) (plain : ArePlainOn firsts s.mounted) (one : One n (devices s.mounted)) where
    happened_at : (t : EventEnd → report.Happened) (e : Event) → ShowsDeed n s t (deed by_plain s.pool (devices_of s) e) →
        ((happens s e).before ≡ s) × At n (Shows n (t (happens s e).end)) (devices s.mounted) (devices (happens s e).behind.mounted)
    unfolding H.happens
    happened_at t e h = (
      before_same n s (deed by_plain s.pool (devices_of s) e),
      happens_at n s t firsts one plain (deed by_plain s.pool (devices_of s) e) h,
    )

    event_seen : (asked : Asked) (e : Event) → ShowsDeed n s (λ end. told (devices_of s) end asked) (deed by_plain s.pool (devices_of s) e) →
        (event_lines asked (happens s e).end (happens s e).reads (happens s e).writes (devices_of s) (devices_of (happens s e).behind)
        ≡ work_lines (told (devices_of s) (happens s e).end asked) (happens s e).reads (happens s e).writes (devices_of s) (devices_of (happens s e).behind)) →
        Seen s (logged asked (happens s e))
    event_seen asked e h is =
        let a = happened_at (λ end. told (devices_of s) end asked) e h in (
          shows_event s asked (happens s e) a.0 is a.1,
          placed (devices s.mounted) (devices (happens s e).behind.mounted) a.1,
        )

    once_seen : (e : Event) → Seen s (logged (Once e) (happens s e))
    once_seen events.Power =
        let a = happened_at (λ end. told (devices_of s) end (Once events.Power)) events.Power (deed_shown s plain events.Power) in (
          shows_power s (happens s events.Power) a.0 a.1,
          placed (devices s.mounted) (devices (happens s events.Power).behind.mounted) a.1,
        )
    once_seen (events.Start path d) = event_seen (Once (events.Start path d)) (events.Start path d) (deed_shown s plain (events.Start path d)) refl
    once_seen (events.Step d) = event_seen (Once (events.Step d)) (events.Step d) (deed_shown s plain (events.Step d)) refl
    once_seen (events.Back d) = event_seen (Once (events.Back d)) (events.Back d) (deed_shown s plain (events.Back d)) refl
    once_seen (events.Reset path d) = event_seen (Once (events.Reset path d)) (events.Reset path d) (deed_shown s plain (events.Reset path d)) refl
    once_seen events.FailCache = event_seen (Once events.FailCache) events.FailCache (deed_shown s plain events.FailCache) refl
    once_seen events.FailStore = event_seen (Once events.FailStore) events.FailStore (deed_shown s plain events.FailStore) refl
    once_seen (events.FailVolume d side) =
        event_seen (Once (events.FailVolume d side)) (events.FailVolume d side) (deed_shown s plain (events.FailVolume d side)) refl
    once_seen events.RepairCache = event_seen (Once events.RepairCache) events.RepairCache (deed_shown s plain events.RepairCache) refl
    once_seen events.RepairStore = event_seen (Once events.RepairStore) events.RepairStore (deed_shown s plain events.RepairStore) refl
    once_seen (events.Pair a b) = event_seen (Once (events.Pair a b)) (events.Pair a b) (deed_shown s plain (events.Pair a b)) refl
    once_seen (events.Suspend a) = event_seen (Once (events.Suspend a)) (events.Suspend a) (deed_shown s plain (events.Suspend a)) refl
    once_seen (events.Resume a) = event_seen (Once (events.Resume a)) (events.Resume a) (deed_shown s plain (events.Resume a)) refl

    step_seen : (d : ℕ) → Seen s (logged (Run d) (happens s (events.Step d)))
    unfolding E.deed
    step_seen d = event_seen (Run d) (events.Step d) (steps_on s plain _ (λ own. refl) (λ own. refl) d (device_in (devices_of s) d) refl) refl

    back_seen : (d : ℕ) → Seen s (logged (Settle d) (happens s (events.Back d)))
    unfolding E.deed
    back_seen d =
        event_seen (Settle d) (events.Back d) (backs_on s plain _ (λ own. refl) (λ own. refl) d (device_in (devices_of s) d) refl) refl

    idle_seen : (d : ℕ) → Seen s (logged (Run d) (quietly s s ends.Idle))
    idle_seen d = (
      shows_event s (Run d) (quietly s s ends.Idle) refl refl (at_same n (devices s.mounted) one (same_kept n (told (devices_of s) ends.Idle (Run d)) (λ own. refl))),
      at_same n (devices s.mounted) one (λ x. tt),
    )

    -- The two orders for which a volume is handed in

    order_seen : (asked : Asked) (o : Order) (h : EventHappened) → h.before ≡ s →
        (event_lines asked h.end h.reads h.writes (devices_of s) (devices_of h.behind)
        ≡ work_lines (did.Ordered o (order_answer h.end)) h.reads h.writes (devices_of s) (devices_of h.behind)) →
        (told (devices_of s) h.end asked ≡ did.Ordered o (order_answer h.end)) →
        At n (λ b a. HistoryShows n b.history a.history []) (devices s.mounted) (devices h.behind.mounted) → Seen s (logged asked h)
    order_seen asked o h before is tells at = (
      shows_event s asked h before
          (is ∙ ap (λ (x : report.Happened). work_lines x h.reads h.writes (devices_of s) (devices_of h.behind)) (sym tells))
          (at_weaker n (devices s.mounted) (devices h.behind.mounted) at (λ b a x. subst (λ (y : report.Happened). Shows n y b a) (sym tells)
          (kept n (did.Ordered o (order_answer h.end)) (λ own. refl) b a x))),
      placed (devices s.mounted) (devices h.behind.mounted) at,
    )

    stays_at : At n (λ b a. HistoryShows n b.history a.history []) (devices s.mounted) (devices s.mounted)
    stays_at = at_same n (devices s.mounted) one (λ d. same_shows n d.history d.history refl)

    number_if : (b : Bool) (k m : Mounted) (i : ℕ) (o : Option Mounted) → (number_of k == i) ≡ b → (if b then Some k else o) ≡ Some m →
        (o ≡ Some m → number_of m ≡ i) → number_of m ≡ i
    number_if true k m i o is at more = let same : k ≡ m = cc in subst (λ (x : Mounted). number_of x ≡ i) same (eqb-true (number_of k) i is)
    number_if false k m i o is at more = more at

    number_at : (ms : List Mounted) (i : ℕ) (m : Mounted) → mounted_in ms i ≡ Some m → number_of m ≡ i
    number_at [] i m at = absurd (cc)
    number_at (k ∷ ms) i m at = number_if (number_of k == i) k m i (mounted_in ms i) refl at (number_at ms i m)

    put_same : (k : ℕ) (m x : Mounted) → mounted_in s.mounted k ≡ Some m → number_of x ≡ number_of m → x.device.history ≡ m.device.history →
        At n (λ b a. a.history ≡ b.history) (devices s.mounted) (devices (put_in s.mounted k x))
    put_same k m x is number same =
        put_at n (λ b a. a.history ≡ b.history) s.mounted k x (number ∙ number_at s.mounted k m is) one
        (λ e i at. let both : Some m ≡ Some i = sym is ∙ ap (mounted_in s.mounted) e ∙ at in
        let it : m ≡ i = cc in subst (λ (j : Mounted). x.device.history ≡ j.device.history) it same)
        (λ other y. refl)

    with_number : (m : Mounted) (side : Side) (calls : Calls) → number_of (with_calls m side calls) ≡ number_of m
    with_number m A calls = refl
    with_number m B calls = refl

    with_history : (m : Mounted) (side : Side) (calls : Calls) → (with_calls m side calls).device.history ≡ m.device.history
    with_history m A calls = refl
    with_history m B calls = refl

    new_number : (d : MarksDevice) (side : Side) → (replace d side).store.device ≡ d.store.device
    new_number d A = refl
    new_number d B = refl

    replaced_at_shown : (d : ℕ) (side : Side) (o : Option Mounted) → mounted_in s.mounted d ≡ o →
        ((replaced_at s d side unfailing o).before ≡ s)
        × At n (λ b a. HistoryShows n b.history a.history []) (devices s.mounted) (devices (replaced_at s d side unfailing o).behind.mounted)
    replaced_at_shown d side None is = (refl, stays_at)
    replaced_at_shown d side (Some m) is = by_fault (replace_fault m.device side) where
      by_fault : (o : Option OrderFault) → ((replaced_by s d side unfailing m o).before ≡ s)
          × At n (λ b a. HistoryShows n b.history a.history []) (devices s.mounted) (devices (replaced_by s d side unfailing m o).behind.mounted)
      by_fault (Some fault) = (refl, stays_at)
      by_fault None =
          let k = record m { device = replace m.device side } in
          let x = with_calls k side unfailing in (
            refl,
            at_weaker n (devices s.mounted) (devices (put_in s.mounted d x))
                (put_same d m x is (with_number k side unfailing ∙ new_number m.device side) (with_history k side unfailing))
                (λ b a e. same_shows n b.history a.history e),
          )

    unpaired_at_shown : (a : ℕ) (o : Option Mounted) → mounted_in s.mounted a ≡ o →
        ((unpaired_at s a unfailing o).before ≡ s)
        × At n (λ b a. HistoryShows n b.history a.history []) (devices s.mounted) (devices (unpaired_at s a unfailing o).behind.mounted)
    unpaired_at_shown a None is = (refl, stays_at)
    unpaired_at_shown a (Some m) is = by_fault (unpair_fault m.device) where
      by_fault : (o : Option OrderFault) → ((unpaired_by s a unfailing m o).before ≡ s)
          × At n (λ b a. HistoryShows n b.history a.history []) (devices s.mounted) (devices (unpaired_by s a unfailing m o).behind.mounted)
      by_fault (Some fault) = (refl, stays_at)
      by_fault None =
          let x = record m { device = split m.device } in
          let ms = put_in s.mounted a x in
          let first = put_same a m x is refl refl in (
            refl,
            at_then n (devices s.mounted) (devices ms) (devices (restored_in ms a unfailing)) first
                (restored_at n (λ b a. HistoryShows n b.history a.history []) (λ d. same_shows n d.history d.history refl)
                (λ d. emptied_shows n d.history) ms a unfailing (one_behind n (devices s.mounted) (devices ms) first))
                (λ b c k e h. subst (λ (y : History). HistoryShows n y k.history []) e h),
          )

    replace_seen : (d : ℕ) (side : Side) → Seen s (logged (Replace d side) (replaced s d side unfailing))
    unfolding H.replaced
    replace_seen d side =
        let a = replaced_at_shown d side (mounted_in s.mounted d) refl in
        order_seen (Replace d side) (orders.Replace d side) (replaced s d side unfailing) a.0 refl refl a.1

    unpair_seen : (a : ℕ) → Seen s (logged (Unpair a) (unpaired s a unfailing))
    unfolding H.unpaired
    unpair_seen a =
        let k = unpaired_at_shown a (mounted_in s.mounted a) refl in
        order_seen (Unpair a) (orders.Unpair a) (unpaired s a unfailing) k.0 refl refl k.1

  -- Events one after another

  abbrev pub Along : Subsystem → List Logged → Type 0
  Along s [] = Unit {0}
  Along s (t ∷ ts) = Seen s t × Along t.happened.behind ts

  abbrev Has : Subsystem → Type 0
  Has s = One n (devices s.mounted)

  still : (s : Subsystem) (t : Logged) → Seen s t → Has t.happened.behind
  still s t seen = one_behind n (devices s.mounted) (devices t.happened.behind.mounted) seen.1

  along_shown : (s : Subsystem) (ts : List Logged) → Along s ts → AreShown n s ts
  along_shown s [] a = tt
  along_shown s (t ∷ ts) a = (a.0.0, along_shown t.happened.behind ts a.1)

  pub along_at : (s : Subsystem) (ts : List Logged) → Has s → Along s ts → At n Anything (devices s.mounted) (devices (last_behind s ts).mounted)
  along_at s [] one a = at_same n (devices s.mounted) one (λ d. tt)
  along_at s (t ∷ ts) one a =
      at_then n (devices s.mounted) (devices t.happened.behind.mounted) (devices (last_behind t.happened.behind ts).mounted) a.0.1
      (along_at t.happened.behind ts (still s t a.0) a.1) (λ b c k x y. tt)

  along_on : (s : Subsystem) (ts us : List Logged) → Along s ts → Along (last_behind s ts) us → Along s (ts ++ us)
  along_on s [] us a more = more
  along_on s (t ∷ ts) us a more = (a.0, along_on t.happened.behind ts us a.1 more)

  steps_along : (m d : ℕ) (s : Subsystem) → ArePlainOn firsts s.mounted → Has s → Along s (steps m d s)
  unfolding L.steps
  steps_along zero d s plain one = tt
  steps_along (suc m) d s plain one =
      let seen = step_seen s plain one d in
      cond_both (is_busy (mounted_in s.mounted d)) (step_logged s d (steps m d)) [] (Along s)
      (λ _. (
        seen,
        steps_along m d (happens s (events.Step d)).behind (event_plain_on firsts s plain (events.Step d) tt) (still s (logged (Run d) (happens s (events.Step d))) seen),
      ))
      (λ _. tt)

  run_along : (d : ℕ) (s : Subsystem) → ArePlainOn firsts s.mounted → Has s → Along s (run_logged s d)
  run_along d s plain one =
      cond_both (is_busy (mounted_in s.mounted d)) (steps most_steps d s) (logged (Run d) (quietly s s ends.Idle) ∷ []) (Along s)
      (λ _. steps_along most_steps d s plain one) (λ _. (idle_seen s plain one d, tt))

  backs_along : (m d : ℕ) (s : Subsystem) → ArePlainOn firsts s.mounted → Has s → Along s (backs m d s)
  unfolding L.backs
  backs_along zero d s plain one = tt
  backs_along (suc m) d s plain one =
      let h = happens s (events.Back d) in
      let seen = back_seen s plain one d in (
        seen,
        cond_both (is_settled h.end) [] (backs m d h.behind) (Along h.behind) (λ _. tt)
            (λ _. backs_along m d h.behind (event_plain_on firsts s plain (events.Back d) tt) (still s (logged (Settle d) h) seen)),
      )

  line_along : (x : Asked) (s : Subsystem) → ArePlainOn firsts s.mounted → Has s → Along s (line_logged s x)
  unfolding L.line_logged
  line_along (Once e) s plain one = (once_seen s plain one e, tt)
  line_along (Replace d side) s plain one = (replace_seen s plain one d side, tt)
  line_along (Unpair a) s plain one = (unpair_seen s plain one a, tt)
  line_along (Run d) s plain one = run_along d s plain one
  line_along (Settle d) s plain one = backs_along most_backs d s plain one

  lines_along : (events : List EventLine) (s : Subsystem) → All (λ (line : EventLine). IsServed (asked_by line)) events → ArePlainOn firsts s.mounted → Has s →
      Along s (run_lines (map asked_by events) s)
  unfolding L.run_lines
  lines_along [] s h plain one = tt
  lines_along (line ∷ events) s h plain one =
      let ts = line_logged s (asked_by line) in
      let here_along = line_along (asked_by line) s plain one in
      let served = All-head (λ (l : EventLine). IsServed (asked_by l)) line events h in
      along_on s ts (run_lines (map asked_by events) (last_behind s ts)) here_along
      (lines_along events (last_behind s ts) (All-tail (λ (l : EventLine). IsServed (asked_by l)) line events h)
      (line_plain firsts (asked_by line) s served plain)
      (one_behind n (devices s.mounted) (devices (last_behind s ts).mounted) (along_at s ts one here_along)))

  -- A deck

  module _ (deck : DeckLines) where
    nothing_yet : (ds : List DeviceLine) → lines_by_history n (device_in (devices (map (opened_device_on firsts deck) ds)) n) ≡ []
    nothing_yet [] = refl
    nothing_yet (d ∷ ds) =
        cond_both (d.number == n) (Some (opened_device_on firsts deck d).device) (device_in (devices (map (opened_device_on firsts deck) ds)) n)
        (λ (o : Option MarksDevice). lines_by_history n o ≡ []) (λ _. refl) (λ _. nothing_yet ds)

    pub deck_shown : AreWhole firsts → IsServedDeck deck → One n (devices (map (opened_device_on firsts deck) deck.devices)) →
        (shown_of n (report_lines (run_on firsts deck)) ≡ lines_by_history n (device_in (devices_of (run_on firsts deck).behind) n))
        × At n Anything (devices (map (opened_device_on firsts deck) deck.devices)) (devices (run_on firsts deck).behind.mounted)
    unfolding D.run_asked_on
    deck_shown whole h one =
        let s = opened_on firsts deck in
        let ts = run_lines (map asked_by deck.events) s in
        let a = lines_along deck.events s h.events (opened_plain_on firsts whole deck deck.devices h.devices) one in (
          report_shows n s ts (along_shown s ts a) (nothing_yet deck.devices),
          along_at s ts one a,
        )

-- All devices of a deck, where their numbers differ

both_true : (a b : Bool) → (a && b) ≡ true → (a ≡ true) × (b ≡ true)
both_true true true e = (refl, refl)
both_true true false e = absurd (cc)
both_true false b e = absurd (cc)

not_false : (a : Bool) → not a ≡ true → a ≡ false
not_false true e = absurd (cc)
not_false false e = refl

apart_length : (n : ℕ) (bs ks : List MarksDevice) → Apart n bs ks → length bs ≡ length ks
apart_length n [] [] apart_none = refl
apart_length n (b ∷ bs) (k ∷ ks) (apart_more x y more) = let e = apart_length n bs ks more in omega (arith, e)
apart_length n [] (k ∷ ks) x = elim x [ ]
apart_length n (b ∷ bs) [] x = elim x [ ]

at_length : (n : ℕ) (bs ks : List MarksDevice) → At n Anything bs ks → length bs ≡ length ks
at_length n (b ∷ bs) (k ∷ ks) (here x y z more) = let e = apart_length n bs ks more in omega (arith, e)
at_length n (b ∷ bs) (k ∷ ks) (there x y more) = let e = at_length n bs ks more in omega (arith, e)
at_length n [] ks x = elim x [ ]
at_length n (b ∷ bs) [] x = elim x [ ]

module _ (firsts : Firsts) (deck : DeckLines) where
  abbrev began : List DeviceLine → List MarksDevice
  began ds = devices (map (opened_device_on firsts deck) ds)

  lone_opened : (n : ℕ) (ds : List DeviceLine) → is_none_of n (numbers_of ds) ≡ true → Lone n (began ds)
  lone_opened n [] e = lone_none
  lone_opened n (d ∷ ds) e =
      let two = both_true (not (d.number == n)) (is_none_of n (numbers_of ds)) e in
      lone_more (not_false (d.number == n) two.0) (lone_opened n ds two.1)

  -- one of these has the number, so that another one has not
  one_is_other : (k n : ℕ) (ds : List DeviceLine) → is_none_of k (numbers_of ds) ≡ true → One n (began ds) → (k == n) ≡ false
  one_is_other k n [] e one = elim one [ ]
  one_is_other k n (d ∷ ds) e (one_here at more) =
      let two = both_true (not (d.number == k)) (is_none_of k (numbers_of ds)) e in
      ne_eqb k n (λ same. eqb-false d.number k (not_false (d.number == k) two.0) (eqb-true d.number n at ∙ sym same))
  one_is_other k n (d ∷ ds) e (one_there at more) =
      one_is_other k n ds (both_true (not (d.number == k)) (is_none_of k (numbers_of ds)) e).1 more

  abbrev Shown : List ReportLine → List DeviceLine → List MarksDevice → Type 0
  Shown ls ds ks =
      (n : ℕ) → One n (began ds) → (shown_of n ls ≡ lines_by_history n (device_in ks n)) × At n Anything (began ds) ks

  all_shown : (ls : List ReportLine) (ds : List DeviceLine) (ks : List MarksDevice) → length ds ≡ length ks →
      are_distinct (numbers_of ds) ≡ true → Shown ls ds ks → All (ShowsHistory ls) ks
  all_shown ls [] [] same e h = All-nil (ShowsHistory ls)
  all_shown ls [] (k ∷ ks) same e h = absurd (omega arith)
  all_shown ls (d ∷ ds) [] same e h = absurd (omega arith)
  all_shown ls (d ∷ ds) (k ∷ ks) same e h =
      let two = both_true (is_none_of d.number (numbers_of ds)) (are_distinct (numbers_of ds)) e in
      let first = h d.number (one_here (eq-eqb d.number d.number refl) (lone_opened d.number ds two.0)) in
      All-cons (ShowsHistory ls) k ks (head_shown d.number first.0 first.1 (eq-eqb d.number d.number refl))
      (all_shown ls ds ks (omega (arith, same)) two.1 (λ n one.
      let other = one_is_other d.number n ds two.0 one in
      let all = h n (one_there other one) in
      tail_shown n all.0 all.1 other)) where
        head_shown : (n : ℕ) → shown_of n ls ≡ lines_by_history n (device_in (k ∷ ks) n) → At n Anything (began (d ∷ ds)) (k ∷ ks) →
            (d.number == n) ≡ true → ShowsHistory ls k
        head_shown n shown (here x y z more) at =
            subst (λ (i : ℕ). shown_of i ls ≡ history_lines i k.history) (sym (eqb-true k.store.device n y))
            (shown ∙ ap (λ (b : Bool). lines_by_history n (if b then Some k else device_in ks n)) y)
        head_shown n shown (there x y more) at = absurd (let both : true ≡ false = sym at ∙ x in cc)

        tail_shown : (n : ℕ) → shown_of n ls ≡ lines_by_history n (device_in (k ∷ ks) n) → At n Anything (began (d ∷ ds)) (k ∷ ks) →
            (d.number == n) ≡ false → (shown_of n ls ≡ lines_by_history n (device_in ks n)) × At n Anything (began ds) ks
        tail_shown n shown (here x y z more) far = absurd (let both : true ≡ false = sym x ∙ far in cc)
        tail_shown n shown (there x y more) far =
            (shown ∙ ap (λ (b : Bool). lines_by_history n (if b then Some k else device_in ks n)) y, more)

  opened_length : (ds : List DeviceLine) → length (began ds) ≡ length ds
  opened_length [] = refl
  opened_length (d ∷ ds) = let e = opened_length ds in omega (arith, e)

  same_length : (ls : List ReportLine) (ds : List DeviceLine) (ks : List MarksDevice) → 0 < length ds → are_distinct (numbers_of ds) ≡ true →
      Shown ls ds ks → length ds ≡ length ks
  same_length ls [] ks some e h = absurd (omega arith)
  same_length ls (d ∷ ds) ks some e h =
      let two = both_true (is_none_of d.number (numbers_of ds)) (are_distinct (numbers_of ds)) e in
      let first = h d.number (one_here (eq-eqb d.number d.number refl) (lone_opened d.number ds two.0)) in
      sym (opened_length (d ∷ ds)) ∙ at_length d.number (began (d ∷ ds)) ks first.1

  pub runs_plainly : AreWhole firsts → IsServedDeck deck → 0 < length deck.devices → are_distinct (numbers_of deck.devices) ≡ true →
      DeckRunsPlainlyOn firsts deck
  runs_plainly whole h some e =
      let ls = report_lines (run_on firsts deck) in
      let ks = devices_of (run_on firsts deck).behind in
      let shown : Shown (report_lines (run_on firsts deck)) deck.devices (devices_of (run_on firsts deck).behind) =
      λ n one. deck_shown n firsts deck whole h one in
      record {
        plain = run_plainly_on firsts whole deck h;
        shown = all_shown ls deck.devices ks (same_length ls deck.devices ks some e shown) e shown;
      }

-- In every deck that was read the numbers rise

all_last : (f : DeviceLine → Bool) (xs : List DeviceLine) (x : DeviceLine) → list_all f (xs ++ x ∷ []) ≡ true → (list_all f xs ≡ true) × (f x ≡ true)
all_last f [] x e = (refl, (both_true (f x) true e).0)
all_last f (y ∷ xs) x e =
    let two = both_true (f y) (list_all f (xs ++ x ∷ [])) e in
    let more = all_last f xs x two.1 in
    (ap (λ (b : Bool). b && list_all f xs) two.0 ∙ more.0, more.1)

test_is : {X W : Type 0} (b : Bool) (x d : X) (w : W) → (if b then Ok x else Err w) ≡ Ok d → b ≡ true
test_is true x d w e = refl
test_is false x d w e = absurd (cc)

line_rises : (before : List DeviceLine) (words : List (List ℕ)) (d : DeviceLine) → device_line before words ≡ Ok d → rises before d.number ≡ true
line_rises before words d h =
    let a = went (needed Words (three_words words))
    (λ w. then_read (needed Number (number_in 0 15 w.0))
    (λ n. then_read (needed Number (geometry_of w.1))
    (λ g. then_read (needed Number (number_in 1 64 w.2)) (λ c. rising before (record { number = n; geometry = g; cylinders = c }))))) d h in
    let b = went (needed Number (number_in 0 15 a.value.0))
    (λ n. then_read (needed Number (geometry_of a.value.1))
    (λ g. then_read (needed Number (number_in 1 64 a.value.2)) (λ c. rising before (record { number = n; geometry = g; cylinders = c })))) d a.second in
    let e = went (needed Number (geometry_of a.value.1))
    (λ g. then_read (needed Number (number_in 1 64 a.value.2)) (λ c. rising before (record { number = b.value; geometry = g; cylinders = c }))) d b.second
    in
    let f = went (needed Number (number_in 1 64 a.value.2)) (λ c. rising before (record { number = b.value; geometry = e.value; cylinders = c })) d e.second in
    let line : DeviceLine = record { number = b.value; geometry = e.value; cylinders = f.value } in
    subst (λ (x : DeviceLine). rises before x.number ≡ true) (if_ok (rises before b.value) line d Number f.second)
    (test_is (rises before b.value) line d Number f.second)

-- of a device before these
none_behind : (k : ℕ) (before ds : List DeviceLine) → ((i : ℕ) → rises before i ≡ true → nat_lt k i ≡ true) → AllDevices before ds →
    is_none_of k (numbers_of ds) ≡ true
none_behind k before [] f h = refl
none_behind k before (d ∷ ds) f h =
    let less = f d.number (line_rises before (device_words d) d h.0.again) in
    let apart : (d.number == k) ≡ false = ne_eqb d.number k (λ same. let lt = ltb-true k d.number less in absurd (omega (arith, lt, same))) in
    ap (λ (b : Bool). not b && is_none_of k (numbers_of ds)) apart
    ∙ none_behind k (before ++ d ∷ []) ds (λ i e. f i (all_last (λ (line : DeviceLine). nat_lt line.number i) before d e).0) h.1

read_distinct : (before ds : List DeviceLine) → AllDevices before ds → are_distinct (numbers_of ds) ≡ true
read_distinct before [] h = refl
read_distinct before (d ∷ ds) h =
    ap (λ (b : Bool). b && are_distinct (numbers_of ds))
    (none_behind d.number (before ++ d ∷ []) ds (λ i e. (all_last (λ (line : DeviceLine). nat_lt line.number i) before d e).1) h.1)
    ∙ read_distinct (before ++ d ∷ []) ds h.1

pub read_runs_plainly : (firsts : Firsts) → AreWhole firsts → (text : List ℕ) (deck : DeckLines) → parsed text ≡ Ok deck →
    DeckRunsPlainlyOn firsts deck
read_runs_plainly firsts whole text deck read =
    let good = parsed_good text deck read in
    runs_plainly firsts deck whole (read_served text deck read) good.some (read_distinct [] deck.devices good.devices)
