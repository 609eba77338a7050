-- From what an event of all devices came to, to what happens in a run, and what it tells.
use Rattle.std.proofs.Common.{
  ◌≡◌,
  ◌<◌,
  ◌≤◌,
  ◌∙◌,
  ◌+◌,
  ◌++◌,
  add-one,
  ℕ,
  zero,
  suc,
  Bool,
  true,
  false,
  List,
  [],
  ◌∷◌,
  Option,
  Some,
  None,
  length,
  drop,
  get_or,
  map,
  refl,
  sym,
  ap,
  subst,
  append_assoc,
}
use Rattle.std.specs.Prelude.{IfSome, ◌==◌, not, if◌then◌else◌, slice_index_or}
use Rattle.std.proofs.lemmas.Bool.{cond_both}
use Rattle.std.proofs.lemmas.List.{append-nil, drop_all}
use Rattle.loss_model.specs.declared.Loss.{Loss}
use Rattle.loss_model.specs.declared.Loss.TheVariants as losses
use Rattle.plain_defs.specs.declared.journal.Act.{Act}
use Rattle.plain_defs.specs.declared.journal.Item.{Item}
use Rattle.plain_defs.specs.declared.journal.Item.TheVariants as items
use Rattle.plain_defs.specs.History.{History, OpenEntry, acted_in, lost_power}
use Rattle.ckd_chain.specs.State.{ChainState}
use Rattle.device_outside.specs.declared.keep.NoKeep.{NoKeep}
use Rattle.device_outside.specs.declared.volume.Volume.{Ghosts}
use Rattle.device_outside.specs.Pool as pools
use Rattle.device_defs.specs.Contents.{contents}
use Rattle.device_defs.specs.Cutting.{counts_one_by, power}
use Rattle.device_defs.specs.Marks.{MarksDevice}
use Rattle.device_defs.specs.Device.{all_acted}
use Rattle.device_defs.specs.Events.{lose}
use Rattle.device_defs.specs.declared.answers.Stepped as defs
use Rattle.device_defs.specs.declared.answers.SecondEnd.{SecondEnd}
use Rattle.device_core.specs.declared.device.Device.{Device}
use Rattle.ckd_types.specs.declared.channel.CommandEnd.{CommandEnd}
use Rattle.device_core.specs.State.{DefinedDevice, device_of}
use Rattle.frame_pool.specs.Shared.{Shared, shared_view}
use Rattle.report_text.specs.declared.line.ReportLine.{ReportLine}
use Rattle.report_text.specs.declared.line.ReportLine.TheVariants as told_lines
use Rattle.run_report.specs.Answers.{order_answer}
use Rattle.report_text.specs.declared.order.Order.{Order}
use Rattle.report_text.specs.declared.order.Order.TheVariants as orders
use Rattle.report_text.specs.Events.{loosed_line, program_over_lines}
use Rattle.run_report.proofs.Quiet.{behind_more}
use Rattle.run_report.proofs.ActsCome.{acts_come}
use Rattle.run_report.specs.Beside.{loose_lines, of_each, over_lines, over_of, power_lines}
use Rattle.run_report.specs.Events.{event_lines, lines_of}
use Rattle.run_report.specs.OneDevice.{power_lines_by}
use Rattle.subsystem_core.specs.declared.end.EventEnd.{EventEnd}
use Rattle.subsystem_core.specs.declared.end.EventEnd.TheVariants as seen
use Rattle.subsystem_core.specs.declared.subsystem.Subsystem.{Subsystem}
use Rattle.subsystem_core.specs.Comes.{OwnDeed, Talk, AskedWith, CameBy, Came, Swept, over, next}
use Rattle.subsystem_core.specs.Devices.{devices_of, numbers_of}
use Rattle.subsystem_core.specs.Ends.{end_seen}
use Rattle.subsystem_core.specs.Places.{may_come}
use Rattle.subsystem_core.proofs.Running.{at_hand}
use Rattle.subsystem_defs.specs.declared.end.EventEnd as ends
use Rattle.subsystem_defs.specs.declared.end.EventEnd.TheVariants as answers
use Rattle.subsystem_defs.specs.declared.end.OrderFault.TheVariants.{Down, Up}
use Rattle.subsystem_defs.specs.declared.event.Event.{Event}
use Rattle.subsystem_defs.specs.declared.event.Event.TheVariants as events
use Rattle.subsystem_defs.specs.Beside.{has_power, loose_count, new_acts, new_items}
use Rattle.subsystem_defs.specs.Deeds as D
use Rattle.subsystem_defs.specs.Deeds.{Ends, Each, Repairs, deed, end_of}
use Rattle.subsystem_defs.specs.Happening as H
use Rattle.subsystem_defs.specs.Happening.{MarksDeed, happens, happens_by}
use Rattle.subsystem_defs.specs.Lines.{Once, logged}
use Rattle.subsystem_defs.specs.Subsystem as runs
use Rattle.subsystem_defs.specs.Subsystem.{Mounted}
use Rattle.subsystem_laws.specs.WholeComes as laws
use Rattle.subsystem_laws.specs.WholeComes.{subsystem_of, IsWhatCame}
use Rattle.subsystem_laws.proofs.WholeHappens.{event_so}
use Rattle.plain_defs.specs.Whole.{GiveBytes, GivesAll}
use Rattle.deck_run.specs.Owning.{AllOwn, AreOwn, ChainsStand, IsOwn}
use Rattle.deck_run.specs.Standing.{StandsAs, stood_of, all_stood}
use Rattle.deck_run.specs.Loosening.{acts_when, all_loosed, is_quiet}
use Rattle.deck_run.specs.declared.orders_of_all.Stock.{Stock}
use Rattle.deck_run.specs.Sweeping.{IsOpenOfAll, TellsAll, gone_lines, gone_one, head_or, no_stock, order_end, order_of, stock_of, tail_of}
use Rattle.deck_run.proofs.Acting.{none_behind, power_new}
use Rattle.deck_run.proofs.Events.{KeptOwn, hears, lose_owns}
use Rattle.deck_run.proofs.Found.{chains_are, devices_stood}
use Rattle.deck_run.proofs.Powering.{IsPowered, power_so}
use Rattle.deck_run.proofs.Recorded.{before_is}
use Rattle.deck_run.proofs.Surely.{ran_so}
use Rattle.deck_run.proofs.Telling.{AreKnown, IsKnown, all_known, all_loose_none, all_over_none, loose_by, over_by, same_pasts}
use Rattle.deck_run.specs.Sides.{AreAccounted, Sides, all_sides, sides_of}
use Rattle.deck_run.proofs.Accounted.{asked_sides, ran_there}

some_same : {X : Type 0} {x y : X} → Some x ≡ Some y → x ≡ y
some_same e = cc

-- How an order ends

abbrev pub IsOrderEnd : ends.EventEnd → Type 0
IsOrderEnd answers.Done = Unit {0}
IsOrderEnd (answers.Pending n) = Unit {0}
IsOrderEnd (answers.Refused fault) = Unit {0}
IsOrderEnd _ = ⊥

pub blank : Option CommandEnd
blank = None

not_stepped : (o : Option defs.Stepped) (end : ends.EventEnd) → end_of answers.Stepped o ≡ Some end → IsOrderEnd end → ⊥
not_stepped None end is on = cc
not_stepped (Some s) end is on = subst IsOrderEnd (sym (some_same is)) on

not_second : (o : Option SecondEnd) (end : ends.EventEnd) → end_of answers.Second o ≡ Some end → IsOrderEnd end → ⊥
not_second None end is on = cc
not_second (Some s) end is on = subst IsOrderEnd (sym (some_same is)) on

pub order_seen : (a : EventEnd) (end : ends.EventEnd) → IsOrderEnd end → end_seen blank a ≡ Some end → order_end a ≡ end
order_seen seen.Done end on is = some_same is
order_seen (seen.Pending n) end on is = some_same is
order_seen (seen.Refused f) end on is = some_same is
order_seen (seen.Started n) end on is = absurd (subst IsOrderEnd (sym (some_same is)) on)
order_seen (seen.NotStarted f) end on is = absurd (subst IsOrderEnd (sym (some_same is)) on)
order_seen seen.Running end on is = absurd (subst IsOrderEnd (sym (some_same is)) on)
order_seen (seen.Stepped s) end on is = absurd (not_stepped _ end is on)
order_seen (seen.Second s) end on is = absurd (not_second _ end is on)
order_seen seen.Idle end on is = absurd (subst IsOrderEnd (sym (some_same is)) on)
order_seen (seen.Back d) end on is = absurd (subst IsOrderEnd (sym (some_same is)) on)

-- No volume is called

abbrev NoCalls : runs.Subsystem → MarksDeed → Type 0
NoCalls s d = ((happens_by s d).reads ≡ 0) × ((happens_by s d).writes ≡ 0)

quiet_calls : (s : runs.Subsystem) (e : Event) → IsOpenOfAll e → ((happens s e).reads ≡ 0) × ((happens s e).writes ≡ 0)
unfolding H.happens D.deed
quiet_calls s events.FailCache on = cond_both (not s.pool.cache_up) _ _ (NoCalls s) (λ _. (refl, refl)) (λ _. (refl, refl))
quiet_calls s events.FailStore on = cond_both (not s.pool.store_up) _ _ (NoCalls s) (λ _. (refl, refl)) (λ _. (refl, refl))
quiet_calls s events.RepairCache on =
    cond_both s.pool.cache_up _ _ (NoCalls s) (λ _. (refl, refl))
    (λ _. cond_both (pools.all_waiting s.pool == 0) _ _ (NoCalls s) (λ _. (refl, refl)) (λ _. (refl, refl)))
quiet_calls s events.RepairStore on =
    cond_both s.pool.store_up _ _ (NoCalls s) (λ _. (refl, refl))
    (λ _. cond_both (pools.all_waiting s.pool == 0) _ _ (NoCalls s) (λ _. (refl, refl)) (λ _. (refl, refl)))
quiet_calls s (events.Start path d) on = absurd on
quiet_calls s (events.Step d) on = absurd on
quiet_calls s (events.Back d) on = absurd on
quiet_calls s (events.Reset path d) on = absurd on
quiet_calls s (events.FailVolume d side) on = absurd on
quiet_calls s (events.Pair x y) on = absurd on
quiet_calls s (events.Suspend d) on = absurd on
quiet_calls s (events.Resume d) on = absurd on
quiet_calls s events.Power on = (refl, refl)

-- What is told of an event that tells of data of cache fast write alone

abbrev IsWork : Event → Type 0
IsWork events.FailCache = Unit {0}
IsWork events.FailStore = Unit {0}
IsWork events.RepairCache = Unit {0}
IsWork events.RepairStore = Unit {0}
IsWork _ = ⊥

module _ (end : ends.EventEnd) (ms ks : List MarksDevice) (gone : List ReportLine) (loose : of_each loose_lines ms ks ≡ gone)
    (none : of_each over_lines ms ks ≡ []) where
  work_line : (o : Order) → of_each loose_lines ms ks ++ (of_each over_lines ms ks ++ told_lines.Order o (order_answer end) ∷ [])
      ≡ gone ++ told_lines.Order o (order_answer end) ∷ []
  work_line o =
      ap (λ (l : List ReportLine). l ++ (of_each over_lines ms ks ++ told_lines.Order o (order_answer end) ∷ [])) loose
      ∙ ap (λ (l : List ReportLine). gone ++ (l ++ told_lines.Order o (order_answer end) ∷ [])) none

  work_tells : (e : Event) → IsWork e → event_lines (Once e) end 0 0 ms ks ≡ gone ++ told_lines.Order (order_of e) (order_answer end) ∷ []
  work_tells events.FailCache on = work_line orders.FailCache
  work_tells events.FailStore on = work_line orders.FailStore
  work_tells events.RepairCache on = work_line orders.RepairCache
  work_tells events.RepairStore on = work_line orders.RepairStore
  work_tells (events.Start path d) on = absurd on
  work_tells (events.Step d) on = absurd on
  work_tells (events.Back d) on = absurd on
  work_tells (events.Reset path d) on = absurd on
  work_tells (events.FailVolume d side) on = absurd on
  work_tells (events.Pair x y) on = absurd on
  work_tells (events.Suspend d) on = absurd on
  work_tells (events.Resume d) on = absurd on
  work_tells events.Power on = absurd on

-- What acts bring to a journal

data AreActs : List Item → Type 0 where
  no_acts : AreActs []
  one_act : {act : Act} {l : List Item} → AreActs l → AreActs (items.Act act ∷ l)

act_behind : (act : Act) (l : List Item) → AreActs l → AreActs (l ++ items.Act act ∷ [])
act_behind act [] no_acts = one_act no_acts
act_behind act (items.Act a ∷ l) (one_act are) = one_act (act_behind act l are)
act_behind act (items.Program e ∷ l) are = elim are [ ]
act_behind act (items.Reset path ∷ l) are = elim are [ ]
act_behind act (items.Fresh ∷ l) are = elim are [ ]
act_behind act (items.Power ∷ l) are = elim are [ ]

over_none : (n : ℕ) (l : List Item) → AreActs l → over_of n l ≡ None
over_none n [] no_acts = refl
over_none n (items.Act a ∷ l) (one_act are) = refl
over_none n (items.Program e ∷ l) are = elim are [ ]
over_none n (items.Reset path ∷ l) are = elim are [ ]
over_none n (items.Fresh ∷ l) are = elim are [ ]
over_none n (items.Power ∷ l) are = elim are [ ]

record HasGrown (before : List Item) (h : History) : Type 0 where
  pub more : List Item
  pub is : h.items ≡ before ++ more
  pub acts : AreActs more

grown_by : (before : List Item) (h : History) (act : Act) (o : Option OpenEntry) → HasGrown before h → HasGrown before (acted_in h act o)
grown_by before h act (Some o) g = record { more = g.more; is = g.is; acts = g.acts }
grown_by before h act None g = record {
  more = g.more ++ items.Act act ∷ [];
  is = ap (λ (l : List Item). l ++ items.Act act ∷ []) g.is ∙ append_assoc before g.more (items.Act act ∷ []);
  acts = act_behind act g.more g.acts;
}

all_grown : (before : List Item) (h : History) (acts : List Act) → HasGrown before h → HasGrown before (all_acted h acts)
all_grown before h [] g = g
all_grown before h (act ∷ acts) g = all_grown before (acted_in h act h.running) acts (grown_by before h act h.running g)

module _ (h k : History) (acts : List Act) (is : k ≡ all_acted h acts) where
  grown : HasGrown h.items k
  grown =
      subst (HasGrown h.items) (sym is) (all_grown h.items h acts (record { more = []; is = sym (append-nil h.items); acts = no_acts }))

  came_items : new_items h k ≡ grown.more
  came_items = ap (λ (l : List Item). Rattle.subsystem_defs.specs.Beside.behind_first (length h.items) l) grown.is ∙ behind_more h.items grown.more

  no_over : (n : ℕ) → over_of n (new_items h k) ≡ None
  no_over n = ap (over_of n) came_items ∙ over_none n grown.more grown.acts

  the_acts : new_acts h k ≡ acts
  the_acts = ap (new_acts h) is ∙ acts_come h acts

-- Numbers

head_same : (m n : ℕ) (ms ns : List ℕ) → m ∷ ms ≡ n ∷ ns → m ≡ n
head_same m n ms ns e = cc

rest_same : (m n : ℕ) (ms ns : List ℕ) → m ∷ ms ≡ n ∷ ns → ms ≡ ns
rest_same m n ms ns e = cc

head_drop : (ns : List Stock) (i : ℕ) → slice_index_or ns i no_stock ≡ head_or (drop i ns)
head_drop [] zero = refl
head_drop [] (suc i) = refl
head_drop (n ∷ ns) zero = refl
head_drop (n ∷ ns) (suc i) = head_drop ns i

tail_drop : (ns : List Stock) (i : ℕ) → tail_of (drop i ns) ≡ drop (suc i) ns
tail_drop [] zero = refl
tail_drop [] (suc i) = refl
tail_drop (n ∷ ns) zero = refl
tail_drop (n ∷ ns) (suc i) = tail_drop ns i

abbrev device : Mounted → MarksDevice
device m = m.device

cut_own : (d y : DefinedDevice) → IsPowered d y → IsOwn d → IsOwn y
cut_own d y l own = record {
  plans = subst GiveBytes (sym l.plans) own.plans;
  chain = subst (λ (o : Option ChainState). IfSome o (λ (c : ChainState). (c.fixed.geometry ≡ y.store.geometry) × GivesAll c.ccws)) (sym l.chain) tt;
}

-- Each device

module _ {V : Type 0} {G : Ghosts V} where
  record IsGained (x y : Device V G) : Type 0 where
    pub own : IsOwn (device_of y)
    pub number : y.store.number ≡ x.store.number
    pub sides : sides_of y ≡ sides_of x
    pub history : (device_of y).history ≡ all_acted (device_of x).history (device_of y).store.acts

  one_gained : (loss : Loss) (pool new : Shared) (x y : Device V G) → IsOwn (device_of x) → y.store.number ≡ x.store.number →
      AskedWith (λ ok. ok ≡ true) (lose contents (device_of x) loss) tt pool x y new → IsGained x y
  one_gained loss pool new x y own same asked =
      let k : NoKeep = record {} in
      let l : KeptOwn (device_of x) (device_of y) × ((device_of y).history ≡ all_acted (device_of x).history (device_of y).store.acts) =
      ran_so (λ z u. KeptOwn (device_of x) z × (z.history ≡ all_acted (device_of x).history z.store.acts)) (asked k)
      (lose_owns (device_of x) own loss) in
      record { own = l.0.0; number = same; sides = asked_sides x y same l.0.1 (ran_there (asked k)); history = l.1 }

  -- the power is lost
  record IsCut (x y : Device V G) : Type 0 where
    pub own : IsOwn (device_of y)
    pub number : y.store.number ≡ x.store.number
    pub sides : sides_of y ≡ sides_of x
    pub history : (device_of y).history ≡ lost_power (device_of x).history (counts_one_by (device_of x).store.half)

  one_cut : (pool new : Shared) (x y : Device V G) → IsOwn (device_of x) → y.store.number ≡ x.store.number →
      AskedWith (λ ok. ok ≡ true) (power contents (device_of x)) tt pool x y new → IsCut x y
  one_cut pool new x y own same asked =
      let k : NoKeep = record {} in
      let l : IsPowered (device_of x) (device_of y) = ran_so (λ z u. IsPowered (device_of x) z) (asked k) (power_so (device_of x)) in
      record { own = cut_own (device_of x) (device_of y) l own; number = same; sides = asked_sides x y same l.lent (ran_there (asked k)); history = l.history }

  -- each before and behind an event

  abbrev AreBoth : (Device V G → Device V G → Type 0) → List (Device V G) → List (Device V G) → Type 0
  AreBoth p [] [] = Unit {0}
  AreBoth p (x ∷ xs) (y ∷ ys) = p x y × AreBoth p xs ys
  AreBoth p _ _ = ⊥

  all_both : (f : DefinedDevice → Talk (Unit {0})) (p : Device V G → Device V G → Type 0) →
      ((pool new : Shared) (x y : Device V G) → IsOwn (device_of x) → y.store.number ≡ x.store.number →
      AskedWith (λ ok. ok ≡ true) (f (device_of x)) tt pool x y new → p x y) →
      {pool new : Shared} {xs ys : List (Device V G)} → AllOwn xs → numbers_of ys ≡ numbers_of xs → Swept f pool xs ys new → AreBoth p xs ys
  all_both f p one own same over = tt
  all_both f p one own same (next {pool = pool} {behind = behind} {x = x} {y = y} asked rest) =
      (one pool behind x y own.0 (head_same _ _ _ _ same) asked, all_both f p one own.1 (rest_same _ _ _ _ same) rest)

  both_own : (p : Device V G → Device V G → Type 0) → ((x y : Device V G) → p x y → IsOwn (device_of y)) → (xs ys : List (Device V G)) →
      AreBoth p xs ys → AllOwn ys
  both_own p one [] [] all = tt
  both_own p one [] (y ∷ ys) all = absurd all
  both_own p one (x ∷ xs) [] all = absurd all
  both_own p one (x ∷ xs) (y ∷ ys) all = (one x y all.0, both_own p one xs ys all.1)

  both_sides : (p : Device V G → Device V G → Type 0) → ((x y : Device V G) → p x y → sides_of y ≡ sides_of x) → (xs ys : List (Device V G)) →
      AreBoth p xs ys → all_sides ys ≡ all_sides xs
  both_sides p one [] [] all = refl
  both_sides p one [] (y ∷ ys) all = absurd all
  both_sides p one (x ∷ xs) [] all = absurd all
  both_sides p one (x ∷ xs) (y ∷ ys) all =
      ap (λ (s : Sides). s ∷ all_sides ys) (one x y all.0) ∙ ap (λ (l : List Sides). sides_of x ∷ l) (both_sides p one xs ys all.1)

  swept_so : (f : DefinedDevice → Talk (Unit {0})) {pool new : Shared} {xs ys : List (Device V G)} → Swept f pool xs ys new →
      laws.Swept hears f pool.pool (all_stood xs) (all_stood ys) new.pool
  swept_so f over = laws.all_swept
  swept_so f (next {pool = pool} {behind = behind} asked rest) =
      laws.one_swept (record {
        port = shared_view pool;
        after = shared_view behind;
        keeper = record {};
        later = record {};
        pool_before = refl;
        pool_behind = refl;
        ran = asked (record {});
      }) (swept_so f rest)

  -- What it tells

  loose_told : (x y : Device V G) (m k : Mounted) → IsKnown (stood_of x) m → IsKnown (stood_of y) k → IsGained x y →
      loose_lines m.device k.device ≡ gone_one false answers.Done (stock_of x) y
  loose_told x y m k is now g =
      let hx = (device_of x).history in
      let hy = (device_of y).history in
      let acts = (device_of y).store.acts in
      let n = y.store.number in
      let told : List Act → List ReportLine =
      λ (l : List Act). map loosed_line (all_loosed n (loose_count (device_of x).store) (device_of y).store.number l (has_power (new_items hx hy))) in
      loose_by n x y m k (sym g.number) is now
      ∙ ap told (the_acts hx hy acts g.history)
      ∙ ap (λ (l : List ReportLine). l ++ told acts) (sym (ap program_over_lines (no_over hx hy acts g.history n)))

  one_over : (x y : Device V G) (m k : Mounted) → IsKnown (stood_of x) m → IsKnown (stood_of y) k → IsGained x y → over_lines m.device k.device ≡ []
  one_over x y m k is now g =
      over_by x.store.number x y m k refl is now
      ∙ ap program_over_lines (no_over (device_of x).history (device_of y).history (device_of y).store.acts g.history x.store.number)

  cut_told : (x y : Device V G) (m k : Mounted) → IsKnown (stood_of x) m → IsKnown (stood_of y) k → IsCut x y →
      power_lines m.device k.device ≡ gone_one true answers.Done (stock_of x) y
  cut_told x y m k is now g =
      let hx = (device_of x).history in
      let hy = (device_of y).history in
      let n = y.store.number in
      let cut = program_over_lines (over_of n (new_items hx hy)) in
      ap (λ (l : List ReportLine). l ++ loose_lines m.device k.device) (over_by n x y m k (sym g.number) is now)
      ∙ ap (λ (l : List ReportLine). cut ++ l) (loose_by n x y m k (sym g.number) is now)
      ∙ ap (λ (l : List Act). cut ++ map loosed_line
      (all_loosed n (loose_count (device_of x).store) (device_of y).store.number l (has_power (new_items hx hy))))
      (power_new hx hy (counts_one_by (device_of x).store.half) g.history)

  module _ (p : Device V G → Device V G → Type 0) (f : MarksDevice → MarksDevice → List ReportLine) (quiet : Bool) (end : ends.EventEnd)
      (one : (x y : Device V G) (m k : Mounted) → IsKnown (stood_of x) m → IsKnown (stood_of y) k → p x y →
      f m.device k.device ≡ gone_one quiet end (stock_of x) y) where
    each_told : (xs ys : List (Device V G)) (ms ks : List Mounted) → AreKnown (all_stood xs) ms → AreKnown (all_stood ys) ks → AreBoth p xs ys →
        of_each f (map device ms) (map device ks) ≡ gone_lines quiet end (map stock_of xs) ys
    each_told [] [] [] [] all now g = refl
    each_told [] [] [] (k ∷ ks) all now g = absurd now
    each_told [] [] (m ∷ ms) ks all now g = absurd all
    each_told [] (y ∷ ys) ms ks all now g = absurd g
    each_told (x ∷ xs) [] ms ks all now g = absurd g
    each_told (x ∷ xs) (y ∷ ys) [] ks all now g = absurd all
    each_told (x ∷ xs) (y ∷ ys) (m ∷ ms) [] all now g = absurd now
    each_told (x ∷ xs) (y ∷ ys) (m ∷ ms) (k ∷ ks) all now g =
        ap (λ (l : List ReportLine). l ++ of_each f (map device ms) (map device ks)) (one x y m k all.0 now.0 g.0)
        ∙ ap (λ (l : List ReportLine). gone_one quiet end (stock_of x) y ++ l) (each_told xs ys ms ks all.1 now.1 g.1)

  all_over : (xs ys : List (Device V G)) (ms ks : List Mounted) → AreKnown (all_stood xs) ms → AreKnown (all_stood ys) ks → AreBoth IsGained xs ys →
      of_each over_lines (map device ms) (map device ks) ≡ []
  all_over [] [] [] [] all now g = refl
  all_over [] [] [] (k ∷ ks) all now g = absurd now
  all_over [] [] (m ∷ ms) ks all now g = absurd all
  all_over [] (y ∷ ys) ms ks all now g = absurd g
  all_over (x ∷ xs) [] ms ks all now g = absurd g
  all_over (x ∷ xs) (y ∷ ys) [] ks all now g = absurd all
  all_over (x ∷ xs) (y ∷ ys) (m ∷ ms) [] all now g = absurd now
  all_over (x ∷ xs) (y ∷ ys) (m ∷ ms) (k ∷ ks) all now g =
      ap (λ (l : List ReportLine). l ++ of_each over_lines (map device ms) (map device ks)) (one_over x y m k all.0 now.0 g.0)
      ∙ all_over xs ys ms ks all.1 now.1 g.1

  -- where nothing came
  gone_none : (quiet : Bool) (end : ends.EventEnd) (ys : List (Device V G)) → ((d : DefinedDevice) → acts_when quiet end d ≡ []) →
      gone_lines quiet end (map stock_of ys) ys ≡ []
  gone_none quiet end [] none = refl
  gone_none quiet end (y ∷ ys) none =
      let n = y.store.number in
      let count = loose_count (device_of y).store in
      let id = (device_of y).store.number in
      let rest = gone_lines quiet end (map stock_of ys) ys in
      ap (λ (l : List Item). power_lines_by n (all_loosed n count id (acts_when quiet end (device_of y)) (has_power l)) l ++ rest)
      (none_behind y.past.items.items)
      ∙ ap (λ (l : List Act). map loosed_line (all_loosed n count id l false) ++ rest) (none (device_of y))
      ∙ gone_none quiet end ys none

  -- The loop

  pub gone_more : (quiet : Bool) (end : ends.EventEnd) (ns : List Stock) (ys : List (Device V G)) (i : ℕ) (n : Stock) (y : Device V G)
      (told more : List ReportLine)
      (all : List ReportLine) → i < length ys → y ≡ get_or ys i y → n ≡ slice_index_or ns i no_stock → more ≡ told ++ gone_one quiet end n y →
      told ++ gone_lines quiet end (drop i ns) (drop i ys) ≡ all → more ++ gone_lines quiet end (drop (i + 1) ns) (drop (i + 1) ys) ≡ all
  gone_more quiet end ns ys i n y told more all within is count so left =
      let here : gone_lines quiet end (drop i ns) (drop i ys) ≡ gone_one quiet end n y ++ gone_lines quiet end (drop (suc i) ns) (drop (suc i) ys) =
      ap (λ (l : List (Device V G)). gone_lines quiet end (drop i ns) l) (at_hand ys y i within is)
      ∙ ap (λ (m : Stock). gone_one quiet end m y ++ gone_lines quiet end (tail_of (drop i ns)) (drop (suc i) ys)) (sym (count ∙ head_drop ns i))
      ∙ ap (λ (l : List Stock). gone_one quiet end n y ++ gone_lines quiet end l (drop (suc i) ys)) (tail_drop ns i) in
      let done : more ++ gone_lines quiet end (drop (suc i) ns) (drop (suc i) ys) ≡ all =
      ap (λ (l : List ReportLine). l ++ gone_lines quiet end (drop (suc i) ns) (drop (suc i) ys)) so
      ∙ append_assoc told (gone_one quiet end n y) (gone_lines quiet end (drop (suc i) ns) (drop (suc i) ys))
      ∙ ap (λ (l : List ReportLine). told ++ l) (sym here) ∙ left in
      rw add-one done

  pub gone_over : (quiet : Bool) (end : ends.EventEnd) (ns : List Stock) (ys : List (Device V G)) (i : ℕ) (told all : List ReportLine) → length ys ≤ i →
      told ++ gone_lines quiet end (drop i ns) (drop i ys) ≡ all → told ≡ all
  gone_over quiet end ns ys i told all past left =
      sym (append-nil told)
      ∙ ap (λ (l : List (Device V G)). told ++ gone_lines quiet end (drop i ns) l) (sym (drop_all i ys past)) ∙ left

  -- What came

  -- by what a run knows of the devices before and behind it
  abbrev Tells : Event → Subsystem V G → Subsystem V G → ends.EventEnd → Type 0
  Tells e old new end = (ms ks : List Mounted) → AreKnown (all_stood old.devices.items) ms → AreKnown (all_stood new.devices.items) ks →
      event_lines (Once e) end 0 0 (map device ms) (map device ks)
      ≡ gone_lines (is_quiet e) end (map stock_of old.devices.items) new.devices.items ++ told_lines.Order (order_of e) (order_answer end) ∷ []

  pub record Told (e : Event) (d : OwnDeed) (old new : Subsystem V G) (a : EventEnd) : Type 0 where
    pub end : ends.EventEnd
    pub seen : order_end a ≡ end
    pub comes : laws.CameBy hears d old.pool.pool (all_stood old.devices.items) end new.pool.pool (all_stood new.devices.items)
    pub own : AllOwn new.devices.items
    pub sides : all_sides new.devices.items ≡ all_sides old.devices.items
    pub tells : Tells e old new end

  powered : (old new : Subsystem V G) (a : EventEnd) (pool : pools.Pool) → AllOwn old.devices.items →
      numbers_of new.devices.items ≡ numbers_of old.devices.items → CameBy (Each pool (power contents)) old (Some a) new →
      Told events.Power (Each pool (power contents)) old new a
  powered old new a pool own numbers came =
      let cut : AreBoth IsCut old.devices.items new.devices.items = all_both (power contents) IsCut one_cut own numbers came.1 in
      record {
        end = answers.Done;
        seen = order_seen a answers.Done tt (came.0 blank);
        comes = (refl, swept_so (power contents) came.1);
        own = both_own IsCut (λ x y k. k.own) old.devices.items new.devices.items cut;
        sides = both_sides IsCut (λ x y k. k.sides) old.devices.items new.devices.items cut;
        tells = λ ms ks all now.
            ap (λ (l : List ReportLine). l ++ told_lines.Order orders.Power (order_answer answers.Done) ∷ [])
            (each_told IsCut power_lines true answers.Done cut_told old.devices.items new.devices.items ms ks all now cut);
      }

  module _ (e : Event) (work : IsWork e) (old new : Subsystem V G) (a : EventEnd) (own : AllOwn old.devices.items)
      (numbers : numbers_of new.devices.items ≡ numbers_of old.devices.items) where
    -- no device is another
    still : (end : ends.EventEnd) → ((d : DefinedDevice) → acts_when (is_quiet e) end d ≡ []) → new.devices.items ≡ old.devices.items → Tells e old new end
    still end none is ms ks all now =
        let same = subst (λ (l : List (Device V G)). AreKnown (all_stood l) ks) is now in
        work_tells end (map device ms) (map device ks) (gone_lines (is_quiet e) end (map stock_of old.devices.items) new.devices.items)
        (all_loose_none old.devices.items old.devices.items ms ks (same_pasts old.devices.items) all same ∙ sym
        (gone_none (is_quiet e) end old.devices.items none)
        ∙ ap (λ (l : List (Device V G)). gone_lines (is_quiet e) end (map stock_of old.devices.items) l) (sym is))
        (all_over_none old.devices.items old.devices.items ms ks (same_pasts old.devices.items) all same) e work

    refused : (end : ends.EventEnd) → IsOrderEnd end → ((d : DefinedDevice) → acts_when (is_quiet e) end d ≡ []) → CameBy (Ends end) old (Some a) new →
        Told e (Ends end) old new a
    refused end on none came = record {
      end = end;
      seen = order_seen a end on (came.0 blank);
      comes = (refl, ap (λ s. s.pool) came.1.0, ap all_stood came.1.1);
      own = subst AllOwn (sym came.1.1) own;
      sides = ap (λ (l : List (Device V G)). all_sides l) came.1.1;
      tells = still end none came.1.1;
    }

    repaired : (pool : pools.Pool) → is_quiet e ≡ true → CameBy (Repairs pool) old (Some a) new → Told e (Repairs pool) old new a
    repaired pool quiet came = record {
      end = answers.Done;
      seen = order_seen a answers.Done tt (came.0 blank);
      comes = (refl, ap (λ s. s.pool) came.1, ap all_stood came.2);
      own = subst AllOwn (sym came.2) own;
      sides = ap (λ (l : List (Device V G)). all_sides l) came.2;
      tells = still answers.Done (λ d. ap (λ (b : Bool). acts_when b answers.Done d) quiet) came.2;
    }

    lost : (pool : pools.Pool) (loss : Loss) → is_quiet e ≡ false → CameBy (Each pool (λ d. lose contents d loss)) old (Some a) new →
        Told e (Each pool (λ d. lose contents d loss)) old new a
    lost pool loss loud came =
        let f : DefinedDevice → Talk (Unit {0}) = λ d. lose contents d loss in
        let g : AreBoth IsGained old.devices.items new.devices.items = all_both f IsGained (one_gained loss) own numbers came.1 in
        record {
          end = answers.Done;
          seen = order_seen a answers.Done tt (came.0 blank);
          comes = (refl, swept_so f came.1);
          own = both_own IsGained (λ x y k. k.own) old.devices.items new.devices.items g;
          sides = both_sides IsGained (λ x y k. k.sides) old.devices.items new.devices.items g;
          tells = λ ms ks all now.
              work_tells answers.Done (map device ms) (map device ks)
              (gone_lines (is_quiet e) answers.Done (map stock_of old.devices.items) new.devices.items)
              (each_told IsGained loose_lines false answers.Done loose_told old.devices.items new.devices.items ms ks all now g
              ∙ ap (λ (b : Bool). gone_lines b answers.Done (map stock_of old.devices.items) new.devices.items) (sym loud))
              (all_over old.devices.items new.devices.items ms ks all now g) e work;
        }

    abbrev Claim : OwnDeed → Type 0
    Claim d = CameBy d old (Some a) new → Told e d old new a

    failed : (up : Bool) (pool : pools.Pool) (loss : Loss) → is_quiet e ≡ false →
        Claim (D.order_if_not (not up) Down (Each pool (λ d. lose contents d loss)))
    failed up pool loss loud =
        cond_both (not up) (Ends (answers.Refused Down)) (Each pool (λ d. lose contents d loss)) Claim
        (λ _. refused (answers.Refused Down) tt (λ d. refl)) (λ _. lost pool loss loud)

    mended : (up : Bool) (pool repair : pools.Pool) → is_quiet e ≡ true → Claim (D.repair up pool repair)
    mended up pool repair quiet =
        cond_both up (Ends (answers.Refused Up)) (if pools.all_waiting pool == 0 then Repairs repair else Ends (answers.Pending (pools.all_waiting pool))) Claim
        (λ _. refused (answers.Refused Up) tt (λ d. refl))
        (λ _. cond_both (pools.all_waiting pool == 0) (Repairs repair) (Ends (answers.Pending (pools.all_waiting pool))) Claim
        (λ _. repaired repair quiet) (λ _. refused (answers.Pending (pools.all_waiting pool)) tt (λ d. refl)))

  pub told_all : (e : Event) (old new : Subsystem V G) (a : EventEnd) → IsOpenOfAll e → AllOwn old.devices.items →
      numbers_of new.devices.items ≡ numbers_of old.devices.items → Came e old (Some a) new →
      Told e (deed contents old.pool.pool (devices_of old.devices.items) e) old new a
  unfolding D.deed
  told_all events.FailCache old new a on own numbers came =
      failed events.FailCache tt old new a own numbers old.pool.pool.cache_up (pools.cache_failed old.pool.pool) losses.Cache refl came
  told_all events.FailStore old new a on own numbers came =
      failed events.FailStore tt old new a own numbers old.pool.pool.store_up (pools.store_failed old.pool.pool) losses.Store refl came
  told_all events.RepairCache old new a on own numbers came =
      mended events.RepairCache tt old new a own numbers old.pool.pool.cache_up old.pool.pool (pools.cache_repaired old.pool.pool) refl came
  told_all events.RepairStore old new a on own numbers came =
      mended events.RepairStore tt old new a own numbers old.pool.pool.store_up old.pool.pool (pools.store_repaired old.pool.pool) refl came
  told_all events.Power old new a on own numbers came = powered old new a (pools.power_lost old.pool.pool) own numbers came
  told_all (events.Start path d) old new a on own numbers came = absurd on
  told_all (events.Step d) old new a on own numbers came = absurd on
  told_all (events.Back d) old new a on own numbers came = absurd on
  told_all (events.Reset path d) old new a on own numbers came = absurd on
  told_all (events.FailVolume d side) old new a on own numbers came = absurd on
  told_all (events.Pair x y) old new a on own numbers came = absurd on
  told_all (events.Suspend d) old new a on own numbers came = absurd on
  told_all (events.Resume d) old new a on own numbers came = absurd on

  module _ (e : Event) (old new : Subsystem V G) (a : EventEnd) (on : IsOpenOfAll e) (own : AreOwn old.devices.items)
      (numbers : numbers_of new.devices.items ≡ numbers_of old.devices.items) (came : Came e old (Some a) new) where
    abbrev so : Told e (deed contents old.pool.pool (devices_of old.devices.items) e) old new a
    so = told_all e old new a on own.each numbers came

    pub all_own : AreOwn new.devices.items
    all_own = record { each = so.own; accounted = subst AreAccounted (sym so.sides) own.accounted }

    pub all_happens : (run : runs.Subsystem) → ChainsStand old.devices.items → StandsAs old run →
        ((happens run e).end ≡ order_end a) × StandsAs new (happens run e).behind
    all_happens run stand all =
        let comes : laws.Comes hears e old.pool.pool (all_stood old.devices.items) so.end new.pool.pool (all_stood new.devices.items) =
        subst (λ (l : List DefinedDevice). laws.CameBy hears (deed contents old.pool.pool l e) old.pool.pool (all_stood old.devices.items) so.end new.pool.pool
        (all_stood new.devices.items)) (sym (devices_stood old.devices.items)) so.comes in
        let is : run ≡ subsystem_of old.pool.pool run.mounted = ap (λ (p : pools.Pool). record { pool = p; mounted = run.mounted }) all.pool in
        let w = event_so hears old.pool.pool new.pool.pool (all_stood old.devices.items) (all_stood new.devices.items) run.mounted so.end all.mounted e
        (chains_are old.devices.items own.each stand) comes in
        let v : IsWhatCame (happens run e) so.end new.pool.pool (all_stood new.devices.items) =
        subst (λ (s : runs.Subsystem). IsWhatCame (happens s e) so.end new.pool.pool (all_stood new.devices.items)) (sym is) w in
        (v.ended ∙ sym so.seen, record { pool = v.left; mounted = v.mounted })

    pub all_told : (run : runs.Subsystem) → ChainsStand old.devices.items → StandsAs old run → TellsAll old new e run (order_end a)
    all_told run stand all =
        let x = all_happens run stand all in
        let h = happens run e in
        let ms = runs.devices_of run in
        let ks = runs.devices_of h.behind in
        record {
          lines = ap (λ (z : runs.Subsystem). event_lines (Once e) h.end h.reads h.writes (runs.devices_of z) ks) (before_is run e)
              ∙ ap (λ (end : ends.EventEnd). event_lines (Once e) end h.reads h.writes ms ks) (x.0 ∙ so.seen)
              ∙ ap (λ (n : ℕ). event_lines (Once e) so.end n h.writes ms ks) (quiet_calls run e on).0
              ∙ ap (λ (n : ℕ). event_lines (Once e) so.end 0 n ms ks) (quiet_calls run e on).1
              ∙ so.tells run.mounted h.behind.mounted (all_known (all_stood old.devices.items) run.mounted all.mounted)
              (all_known (all_stood new.devices.items) h.behind.mounted x.1.mounted)
              ∙ ap (λ (end : ends.EventEnd). gone_lines (is_quiet e) end (map stock_of old.devices.items) new.devices.items
              ++ told_lines.Order (order_of e) (order_answer end) ∷ []) (sym so.seen);
        }

module _ {V : Type 0} {G : Ghosts V} where
  pub order_recorded : (old new : Subsystem V G) (e : Event) (run : runs.Subsystem) (order : Order) (counts : List Stock) (quiet : Bool) (end : ends.EventEnd)
      (ys : List (Device V G)) (told room gone more : List ReportLine) → counts ≡ map stock_of old.devices.items → quiet ≡ is_quiet e → order ≡ order_of e →
      TellsAll old new e run end → room ≡ told → ys ≡ new.devices.items → gone ≡ room ++ gone_lines quiet end counts ys →
      more ≡ gone ++ told_lines.Order order (order_answer end) ∷ [] → more ≡ told ++ lines_of (logged (Once e) (happens run e))
  order_recorded old new e run order counts quiet end ys told room gone more are so named tells roomy here went is =
      let o : List ReportLine = told_lines.Order order (order_answer end) ∷ [] in
      is ∙ ap (λ (l : List ReportLine). l ++ o) went
      ∙ ap (λ (l : List ReportLine). (l ++ gone_lines quiet end counts ys) ++ o) roomy
      ∙ append_assoc told (gone_lines quiet end counts ys) o
      ∙ ap (λ (b : Bool). told ++ (gone_lines b end counts ys ++ o)) so
      ∙ ap (λ (l : List Stock). told ++ (gone_lines (is_quiet e) end l ys ++ o)) are
      ∙ ap (λ (l : List (Device V G)). told ++ (gone_lines (is_quiet e) end (map stock_of old.devices.items) l ++ o)) here
      ∙ ap (λ (x : Order). told ++ (gone_lines (is_quiet e) end (map stock_of old.devices.items) new.devices.items
      ++ told_lines.Order x (order_answer end) ∷ [])) named
      ∙ ap (λ (l : List ReportLine). told ++ l) (sym tells.lines)

pub all_may_come : (ns : List ℕ) (e : Event) → IsOpenOfAll e → may_come ns e ≡ true
all_may_come ns events.FailCache on = refl
all_may_come ns events.FailStore on = refl
all_may_come ns events.RepairCache on = refl
all_may_come ns events.RepairStore on = refl
all_may_come ns (events.Start path d) on = absurd on
all_may_come ns (events.Step d) on = absurd on
all_may_come ns (events.Back d) on = absurd on
all_may_come ns (events.Reset path d) on = absurd on
all_may_come ns (events.FailVolume d side) on = absurd on
all_may_come ns (events.Pair x y) on = absurd on
all_may_come ns (events.Suspend d) on = absurd on
all_may_come ns (events.Resume d) on = absurd on
all_may_come ns events.Power on = refl
