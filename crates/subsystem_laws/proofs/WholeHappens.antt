-- What comes of each event is what happens in a run, and so it is for events one after another.
use Rattle.std.proofs.Common.{◌≡◌, ℕ, ◌==◌, ◌&&◌, Bool, true, false, List, [], ◌∷◌, Option, Some, None, is_some, refl, sym, ap, subst, ◌∙◌}
use Rattle.std.specs.Prelude.{if◌then◌else◌, not, option_map}
use Rattle.ckd_types.specs.declared.paths.Side.{Side}
use Rattle.ckd_types.specs.declared.paths.Side.TheVariants.{A, B}
use Rattle.ckd_types.specs.declared.record.Track.{Track}
use Rattle.loss_model.specs.declared.Loss.TheVariants as losses
use Rattle.track_image.specs.Image.{Image}
use Rattle.plain_defs.specs.History.{is_path_of}
use Rattle.device_outside.specs.Keeper.{Hearing}
use Rattle.device_outside.specs.Pool.{Pool, counted_slots, cache_failed, store_failed, power_lost, all_waiting, cache_repaired, store_repaired}
use Rattle.device_defs.specs.declared.answers.StartFault.{StartFault}
use Rattle.device_defs.specs.Command.{command}
use Rattle.device_defs.specs.Contents.{contents, by_plain}
use Rattle.device_defs.specs.Cutting.{reset, power}
use Rattle.device_defs.specs.Events.{second, background, lose}
use Rattle.device_defs.specs.Marks.{MarksDevice, half_mark}
use Rattle.device_defs.specs.Orders.{hold_side, resume}
use Rattle.device_defs.specs.Start as S
use Rattle.device_defs.specs.Start.{start_fault, start, next_ordinal}
use Rattle.device_defs.specs.Store.{HalfWrite, side_of}
use Rattle.device_laws.specs.Agrees.{Held as Holds}
use Rattle.device_laws.specs.InOrder.{IsInOrder}
use Rattle.device_laws.specs.Lent.{IsLent, Stands, in_order, is_away}
use Rattle.device_laws.specs.Whole.{WholeDevice, marks_device}
use Rattle.device_laws.proofs.Lent.{IsShared}
use Rattle.device_laws.proofs.TwinLaws.{held_side_leaves_order}
use Rattle.device_laws.proofs.WholeParts.{start_same, start_order}
use Rattle.subsystem_defs.specs.declared.end.EventEnd.{EventEnd}
use Rattle.subsystem_defs.specs.declared.end.EventEnd.TheVariants as ends
use Rattle.subsystem_defs.specs.declared.end.OrderFault.{OrderFault}
use Rattle.subsystem_defs.specs.declared.end.OrderFault.TheVariants.{Unpaired, NoSide, Down, Up, Half, Held, NotHeld}
use Rattle.subsystem_defs.specs.declared.event.Event.{Event}
use Rattle.subsystem_defs.specs.declared.event.Event.TheVariants as events
use Rattle.subsystem_defs.specs.Deeds as D
use Rattle.subsystem_defs.specs.Deeds.{Ends, Becomes, Asks, Each, Lends, end_of, ends_done, device_in, ends_by, may_end_by, on_device, order, start_by, starts, repair, seconds, step, back, deed}
use Rattle.subsystem_defs.specs.Happening as H
use Rattle.subsystem_defs.specs.Happening.{MarksDeed, lends, quietly, happens}
use Rattle.subsystem_defs.specs.Refusals as R
use Rattle.subsystem_defs.specs.Refusals.{pair_fault, suspend_fault, resume_fault, fail_fault}
use Rattle.subsystem_defs.specs.Subsystem.{Mounted, Subsystem, devices_of, mounted_in}
use Rattle.subsystem_laws.specs.WholeComes.{OwnDeed, subsystem_of, behind_all, ends_of_all, Comes, Runs, no_event, next_event, IsWhatCame, AreWhatCame}
use Rattle.subsystem_laws.specs.WholeStood.{Stood, devices_at, AreMounted, HaveChains}
use Rattle.subsystem_laws.proofs.WholeDeeds.{Seat, IsOfDeeds, Leads, ends_so, repairs_so, asks_so, becomes_so, by_device, each_so}
use Rattle.subsystem_defs.proofs.Unrefused.{may_pair}
use Rattle.subsystem_laws.proofs.WholeLends.{lends_so}
use Rattle.subsystem_laws.proofs.WholeTalks.{twins_then, command_twins, second_twins, background_twins, loss_twins, shared_loss_twins, reset_twins, power_twins}

-- Faults are known of both

some_marked : (o : Option (HalfWrite Image)) → is_some (option_map half_mark o) ≡ is_some o
some_marked None = refl
some_marked (Some hw) = refl

not_open : (o : Option (HalfWrite Image)) → is_some o ≡ false → o ≡ None
not_open None e = refl
not_open (Some hw) e = absurd (cc)

not_none : {X : Type 0} (o : Option X) → o ≡ None → is_some o ≡ true → ⊥
not_none o e f = cc

-- one that can't be lent is in order
unless_away : {v w : List Track} {d : WholeDevice} {h : Holds} → Stands v w d h → (IsLent v w d h → ⊥) → IsInOrder v w d.store h
unless_away (in_order i) f = i
unless_away (is_away i) f = absurd (f i)

-- a device that is lent starts nothing, and its sides and its pair are refused

module _ (d : WholeDevice) where
  by_lent : (path : ℕ) (o : Option ℕ) → is_some o ≡ true → S.fault_by d path o ≡ None → ⊥
  by_lent path (Some to) e f = absurd (cc)
  by_lent path None e f = absurd (cc)

  start_away : (path : ℕ) → is_some d.store.lent ≡ true → start_fault d path ≡ None → ⊥
  unfolding S.start_fault
  start_away path lent e = by_lent path d.store.lent lent e

  cause_lent : (o : Option ℕ) (more : List (Option OrderFault)) → is_some o ≡ true → R.first_cause (R.lent_by o ∷ more) ≡ None → ⊥
  cause_lent (Some to) more e f = absurd (cc)
  cause_lent None more e f = absurd (cc)

  fail_away : (side : Side) → is_some d.store.lent ≡ true → fail_fault d side ≡ None → ⊥
  unfolding R.fail_fault
  fail_away side lent e =
      cause_lent d.store.lent (R.where_so (not (R.has_side d.store side)) NoSide ∷ R.where_so (not (side_of d.store side).up) Down ∷ []) lent e

  cause_single : (b : Bool) (more : List (Option OrderFault)) → b ≡ false → R.first_cause (R.where_so (not b) Unpaired ∷ more) ≡ None → ⊥
  cause_single true more e f = absurd (cc)
  cause_single false more e f = absurd (cc)

  suspend_away : d.store.paired ≡ false → suspend_fault d ≡ None → ⊥
  unfolding R.suspend_fault
  suspend_away single e =
      cause_single d.store.paired (R.where_so (is_some d.store.half) Half ∷ R.where_so (not (d.store.a.up && d.store.b.up)) Down
      ∷ R.where_so d.store.held Held ∷ []) single e

  resume_away : d.store.paired ≡ false → resume_fault d ≡ None → ⊥
  unfolding R.resume_fault
  resume_away single e = cause_single d.store.paired (R.where_so (not d.store.held) NotHeld ∷ []) single e

module _ (v w : List Track) (d : WholeDevice) where
  start_fault_both : (path : ℕ) → start_fault (marks_device v w d) path ≡ start_fault d path
  unfolding S.start_fault
  start_fault_both path = refl

  fail_fault_both : (side : Side) → fail_fault (marks_device v w d) side ≡ fail_fault d side
  unfolding R.fail_fault
  fail_fault_both A = refl
  fail_fault_both B = refl

  pub suspend_fault_both : suspend_fault (marks_device v w d) ≡ suspend_fault d
  unfolding R.suspend_fault
  suspend_fault_both =
      ap (λ (b : Bool). R.first_cause (R.where_so (not d.store.paired) Unpaired ∷ R.where_so b Half
      ∷ R.where_so (not (d.store.a.up && d.store.b.up)) Down ∷ R.where_so d.store.held Held ∷ [])) (some_marked d.store.half)

  resume_fault_both : resume_fault (marks_device v w d) ≡ resume_fault d
  unfolding R.resume_fault
  resume_fault_both = refl

pair_fault_both : (v w v' w' : List Track) (d e : WholeDevice) → pair_fault (marks_device v w d) (marks_device v' w' e) ≡ pair_fault d e
unfolding R.pair_fault
pair_fault_both v w v' w' d e = refl

-- Pools

used_if : (c : Bool) (p : Pool) → (if c then record p { cache_up = true } else p).used ≡ p.used
used_if true p = refl
used_if false p = refl

used_store : (c : Bool) (p : Pool) → (if c then record p { store_up = true } else p).used ≡ p.used
used_store true p = refl
used_store false p = refl

counted_if : (c : Bool) (p q : Pool) → counted_slots (if c then p else q) ≡ (if c then counted_slots p else counted_slots q)
counted_if true p q = refl
counted_if false p q = refl

-- Whatever is so of each kind of deed, where they ask for the same, is so of those of each event

module _ (p : Pool) (xs : List Stood) (ms : List Mounted) (all : AreMounted p xs ms) (Rel : OwnDeed → MarksDeed → Type 0) (k : IsOfDeeds p xs ms Rel) where
  either : (b : Bool) {x y : OwnDeed} {u v : MarksDeed} → (b ≡ true → Rel x u) → (b ≡ false → Rel y v) → Rel (if b then x else y) (if b then u else v)
  either true f g = f refl
  either false f g = g refl

  by_order : (o : Option OrderFault) {x : OwnDeed} {u : MarksDeed} → (o ≡ None → Rel x u) → Rel (order o x) (order o u)
  by_order (Some f) w = k.ended (ends.Refused f)
  by_order None w = w refl

  module _ (n : ℕ) (x : Seat p xs ms n) where
    abbrev d : WholeDevice
    d = x.device

    abbrev m : MarksDevice
    m = marks_device x.plain x.firm x.device

    same_place : (path : ℕ) → (start d path).store.device ≡ n
    unfolding S.start
    same_place path = x.number

    start_so : (path : ℕ) (o : Option StartFault) → (o ≡ None → IsInOrder x.plain x.firm d.store x.held) → Rel (start_by d path o) (start_by m path o)
    start_so path (Some f) i = k.ended (ends.NotStarted f)
    start_so path None i =
        subst (λ (y : MarksDevice). Rel (Becomes (start d path) (ends.Started (next_ordinal d path))) (Becomes y (ends.Started (next_ordinal d path))))
        (start_same x.plain x.firm d path)
        (k.became n x (start d path) (ends.Started (next_ordinal d path))
        (in_order (start_order x.plain x.firm d x.held path (i refl)))
        (same_place path))

    starts_so : (path : ℕ) → Rel (starts path d) (starts path m)
    starts_so path =
        either (is_path_of d.history.running path) (λ _. k.ended ends.Running)
        (λ _. subst (λ (o : Option StartFault). Rel (start_by d path (start_fault d path)) (start_by m path o))
        (sym (start_fault_both x.plain x.firm d path)) (start_so path (start_fault d path) (λ e. unless_away x.stands (λ i. start_away d path i.store.lent e))))

    seconds_so : is_some d.store.half ≡ true → Rel (seconds contents d) (seconds by_plain m)
    seconds_so some =
        k.asked n x (ends_by ends.Second (second contents d)) (ends_by ends.Second (second by_plain m))
        (twins_then (λ a. Some (ends.Second a)) x.held (second contents d) (second by_plain m) (second_twins x.plain x.firm d x.held
        (unless_away x.stands (λ i. not_none d.store.half i.store.half some))))

    commands_so : is_some d.store.half ≡ false → is_some d.history.running ≡ true →
        Rel (Asks d (may_end_by ends.Stepped (command contents d))) (Asks m (may_end_by ends.Stepped (command by_plain m)))
    commands_so none runs =
        k.asked n x (may_end_by ends.Stepped (command contents d)) (may_end_by ends.Stepped (command by_plain m))
        (twins_then (end_of ends.Stepped) x.held (command contents d) (command by_plain m)
        (command_twins x.plain x.firm d x.held (unless_away x.stands (λ i. not_none d.history.running i.idle runs)) x.chains (not_open d.store.half none)))

    steps_so : Rel (step contents d) (step by_plain m)
    steps_so =
        subst (λ (b : Bool). Rel (step contents d)
        (if b then seconds by_plain m
        else if is_some d.history.running then Asks m (may_end_by ends.Stepped (command by_plain m)) else Ends ends.Idle)) (sym (some_marked d.store.half))
        (either (is_some d.store.half) (λ some. seconds_so some)
        (λ none. either (is_some d.history.running) (λ runs. commands_so none runs)
        (λ _. k.ended ends.Idle)))

    works_so : is_some d.store.half ≡ false →
        Rel (Asks d (may_end_by ends.Back (background contents d))) (Asks m (may_end_by ends.Back (background by_plain m)))
    works_so none =
        k.asked n x (may_end_by ends.Back (background contents d)) (may_end_by ends.Back (background by_plain m))
        (twins_then (end_of ends.Back) x.held (background contents d) (background by_plain m)
        (background_twins x.plain x.firm d x.held x.stands (not_open d.store.half none)))

    backs_so : Rel (back contents d) (back by_plain m)
    backs_so =
        subst (λ (b : Bool). Rel (back contents d) (if b then seconds by_plain m else Asks m (may_end_by ends.Back (background by_plain m))))
        (sym (some_marked d.store.half))
        (either (is_some d.store.half) (λ some. seconds_so some) (λ none. works_so none))

    resets_so : (path : ℕ) → Rel (Asks d (ends_by ends_done (reset contents d path))) (Asks m (ends_by ends_done (reset by_plain m path)))
    resets_so path =
        k.asked n x (ends_by ends_done (reset contents d path)) (ends_by ends_done (reset by_plain m path))
        (twins_then (λ u. Some (ends_done u)) x.held (reset contents d path) (reset by_plain m path) (reset_twins x.plain x.firm d x.held path x.stands))

    fails_so : (side : Side) → Rel
        (order (fail_fault d side) (Asks d (ends_by ends_done (lose contents d (losses.Side side)))))
        (order (fail_fault m side) (Asks m (ends_by ends_done (lose by_plain m (losses.Side side)))))
    fails_so side =
        subst (λ (o : Option OrderFault). Rel
        (order (fail_fault d side) (Asks d (ends_by ends_done (lose contents d (losses.Side side)))))
        (order o (Asks m (ends_by ends_done (lose by_plain m (losses.Side side)))))) (sym (fail_fault_both x.plain x.firm d side))
        (by_order (fail_fault d side)
        (λ free. k.asked n x (ends_by ends_done (lose contents d (losses.Side side)))
        (ends_by ends_done (lose by_plain m (losses.Side side)))
        (twins_then (λ u. Some (ends_done u)) x.held (lose contents d (losses.Side side)) (lose by_plain m (losses.Side side))
        (loss_twins x.plain x.firm d x.held (unless_away x.stands (λ i. fail_away d side i.store.lent free)) (losses.Side side)))))

    suspends_so : Rel (order (suspend_fault d) (Becomes (hold_side d) ends.Done)) (order (suspend_fault m) (Becomes (hold_side m) ends.Done))
    suspends_so =
        subst (λ (o : Option OrderFault). Rel (order (suspend_fault d) (Becomes (hold_side d) ends.Done)) (order o (Becomes (hold_side m) ends.Done)))
        (sym (suspend_fault_both x.plain x.firm d))
        (by_order (suspend_fault d)
        (λ free. k.became n x (hold_side d) ends.Done
        (in_order (held_side_leaves_order x.plain x.firm d.store x.held true (unless_away x.stands (λ i. suspend_away d i.store.single free)))) x.number))

    resumes_so : Rel (order (resume_fault d) (Becomes (resume d) ends.Done)) (order (resume_fault m) (Becomes (resume m) ends.Done))
    resumes_so =
        subst (λ (o : Option OrderFault). Rel (order (resume_fault d) (Becomes (resume d) ends.Done)) (order o (Becomes (resume m) ends.Done)))
        (sym (resume_fault_both x.plain x.firm d))
        (by_order (resume_fault d)
        (λ free. k.became n x (resume d) ends.Done
        (in_order (held_side_leaves_order x.plain x.firm d.store x.held false (unless_away x.stands (λ i. resume_away d i.store.single free)))) x.number))

  pairs_so : (a b : ℕ) (x : Seat p xs ms a) (y : Seat p xs ms b) → Rel (order (pair_fault x.device y.device) (Lends x.device y.device))
      (order (pair_fault (marks_device x.plain x.firm x.device) (marks_device y.plain y.firm y.device))
      (Lends (marks_device x.plain x.firm x.device) (marks_device y.plain y.firm y.device)))
  pairs_so a b x y =
      subst (λ (o : Option OrderFault). Rel (order (pair_fault x.device y.device) (Lends x.device y.device))
      (order o (Lends (marks_device x.plain x.firm x.device) (marks_device y.plain y.firm y.device))))
      (sym (pair_fault_both x.plain x.firm y.plain y.firm x.device y.device))
      (by_order (pair_fault x.device y.device)
      (λ free. k.lent a b x y free))

  -- Pools

  each_lost : (r : Pool) → r.used ≡ p.used → (loss : _) → IsShared loss → Rel (Each r (λ y. lose contents y loss)) (Each (counted_slots r)
      (λ y. lose by_plain y loss))
  each_lost r same loss shared =
      k.swept r same (λ y. lose contents y loss) (λ y. lose by_plain y loss) (λ v w d h i. shared_loss_twins v w d h loss shared i)

  repairs_to : (up : Bool) (r : Pool) → r.used ≡ p.used → Rel (repair up p r) (repair up (counted_slots p) (counted_slots r))
  repairs_to up r same =
      either up (λ _. k.ended (ends.Refused Up))
      (λ _. either (all_waiting p == 0) (λ _. k.repaired r same)
      (λ _. k.ended (ends.Pending (all_waiting p))))

  cache_so : Rel (repair p.cache_up p (cache_repaired p)) (repair p.cache_up (counted_slots p) (cache_repaired (counted_slots p)))
  cache_so =
      subst (λ (r : Pool). Rel (repair p.cache_up p (cache_repaired p)) (repair p.cache_up (counted_slots p) r))
      (counted_if (all_waiting p == 0) (record p { cache_up = true }) p)
      (repairs_to p.cache_up (cache_repaired p) (used_if (all_waiting p == 0) p))

  store_so : Rel (repair p.store_up p (store_repaired p)) (repair p.store_up (counted_slots p) (store_repaired (counted_slots p)))
  store_so =
      subst (λ (r : Pool). Rel (repair p.store_up p (store_repaired p)) (repair p.store_up (counted_slots p) r))
      (counted_if (all_waiting p == 0) (record p { store_up = true }) p)
      (repairs_to p.store_up (store_repaired p) (used_store (all_waiting p == 0) p))

  -- The whole

  pub deeds_related : (event : Event) → HaveChains xs →
      Rel (deed contents p (devices_at xs) event) (deed by_plain (counted_slots p) (devices_of (subsystem_of p ms)) event)
  unfolding D.deed
  deeds_related (events.Start path n) chains = by_device p xs ms Rel all k n (starts path) (starts path) chains (λ x. starts_so n x path)
  deeds_related (events.Step n) chains = by_device p xs ms Rel all k n (step contents) (step by_plain) chains (λ x. steps_so n x)
  deeds_related (events.Back n) chains = by_device p xs ms Rel all k n (back contents) (back by_plain) chains (λ x. backs_so n x)
  deeds_related (events.Reset path n) chains =
      by_device p xs ms Rel all k n (λ x. Asks x (ends_by ends_done (reset contents x path)))
      (λ x. Asks x (ends_by ends_done (reset by_plain x path))) chains (λ x. resets_so n x path)
  deeds_related events.FailCache chains =
      either (not p.cache_up) (λ _. k.ended (ends.Refused Down)) (λ _. each_lost (cache_failed p) refl losses.Cache tt)
  deeds_related events.FailStore chains =
      either (not p.store_up) (λ _. k.ended (ends.Refused Down)) (λ _. each_lost (store_failed p) refl losses.Store tt)
  deeds_related (events.FailVolume n side) chains =
      by_device p xs ms Rel all k n
      (λ x. order (fail_fault x side) (Asks x (ends_by ends_done (lose contents x (losses.Side side)))))
      (λ x. order (fail_fault x side) (Asks x (ends_by ends_done (lose by_plain x (losses.Side side))))) chains (λ x. fails_so n x side)
  deeds_related events.RepairCache chains = cache_so
  deeds_related events.RepairStore chains = store_so
  deeds_related (events.Pair a b) chains =
      by_device p xs ms Rel all k a
      (λ x. on_device (device_in (devices_at xs) b) (λ y. order (pair_fault x y) (Lends x y)))
      (λ x. on_device (device_in (devices_of (subsystem_of p ms)) b) (λ y. order (pair_fault x y) (Lends x y))) chains
      (λ x. by_device p xs ms Rel all k b (λ y. order (pair_fault x.device y) (Lends x.device y))
      (λ y. order (pair_fault (marks_device x.plain x.firm x.device) y) (Lends (marks_device x.plain x.firm x.device) y)) chains (λ y. pairs_so a b x y))
  deeds_related (events.Suspend n) chains =
      by_device p xs ms Rel all k n (λ x. order (suspend_fault x) (Becomes (hold_side x) ends.Done))
      (λ x. order (suspend_fault x) (Becomes (hold_side x) ends.Done)) chains (λ x. suspends_so n x)
  deeds_related (events.Resume n) chains =
      by_device p xs ms Rel all k n (λ x. order (resume_fault x) (Becomes (resume x) ends.Done))
      (λ x. order (resume_fault x) (Becomes (resume x) ends.Done)) chains (λ x. resumes_so n x)
  deeds_related events.Power chains =
      k.swept (power_lost p) refl (power contents) (power by_plain) (λ v w d h i. power_twins v w d h i)

module _ {K : Type 0} (hears : Hearing Image K) (p q : Pool) (xs ys : List Stood) (ms : List Mounted) (e : EventEnd) (all : AreMounted p xs ms) where
  lead_deeds : IsOfDeeds p xs ms (Leads hears p q xs ys ms e all)
  lead_deeds = record {
    ended = ends_so hears p q xs ys ms e all;
    repaired = repairs_so hears p q xs ys ms e all;
    asked = λ n x talk other twins. asks_so hears p q xs ys ms e all n x talk other twins;
    became = λ n x d end now is. becomes_so hears p q xs ys ms e all n x d end now is;
    swept = λ r same f g twins. record { leads = each_so hears f g twins p r q xs ys ms e all same };
    lent = λ a b x y free. record {
      leads = λ c.
          subst (λ (end : EventEnd). IsWhatCame (quietly (subsystem_of p ms) (lends (subsystem_of p ms) x.device.store.device y.device.store.device
          (mounted_in ms y.device.store.device)) ends.Done) end q ys) (sym c.0)
          (lends_so hears p q xs ys ms all a b x y (may_pair x.device y.device free) x.device.store.device y.device.store.device x.number y.number c.1);
    };
  }

  pub event_so : (event : Event) → HaveChains xs → Comes hears event p xs e q ys → IsWhatCame (happens (subsystem_of p ms) event) e q ys
  unfolding H.happens
  event_so event chains came =
      (deeds_related p xs ms all (Leads hears p q xs ys ms e all) lead_deeds event chains).leads came

-- One after another

pub events_so : {K : Type 0} (hears : Hearing Image K) (es : List Event) (p q : Pool) (xs ys : List Stood) (ms : List Mounted) (ends : List EventEnd) →
    AreMounted p xs ms → Runs hears es p xs ends q ys → AreWhatCame (subsystem_of p ms) es ends q ys
events_so hears [] p q xs ys ms ends all no_event = record { ended = refl; left = refl; mounted = all }
events_so hears (e ∷ es) p q xs ys ms ends all (next_event {end = end} {ends = more} {between = r} {ys = zs} chains came rest) =
    let one = event_so hears p r xs zs ms end all e chains came in
    let h = happens (subsystem_of p ms) e in
    let s : h.behind ≡ subsystem_of r h.behind.mounted = ap (λ (pool : Pool). record { pool = pool; mounted = h.behind.mounted }) one.left in
    let later = events_so hears es r q zs ys h.behind.mounted more one.mounted rest in
    record {
      ended =
          ap (λ (x : EventEnd). x ∷ ends_of_all h.behind es) one.ended
          ∙ ap (λ (x : Subsystem). end ∷ ends_of_all x es) s
          ∙ ap (λ (l : List EventEnd). end ∷ l) later.ended;
      left = ap (λ (x : Subsystem). (behind_all x es).pool) s ∙ later.left;
      mounted = subst (λ (x : Subsystem). AreMounted q ys (behind_all x es).mounted) (sym s) later.mounted;
    }
