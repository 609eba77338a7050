-- What a keeper heard in an event that came is what it is told in that of a run.
use Rattle.std.proofs.Common.{◌≡◌, ◌∙◌, ℕ, Bool, true, List, [], Option, Some, None, refl, sym, ap, subst}
use Rattle.std.specs.Prelude.{IfSome, not, ◌==◌, is_some, option_map, if◌then◌else◌}
use Rattle.std.proofs.lemmas.Bool.{cond_both}
use Rattle.loss_model.specs.declared.Loss.TheVariants as losses
use Rattle.track_image.specs.Image.{Image}
use Rattle.plain_defs.specs.History.{is_path_of}
use Rattle.device_outside.specs.declared.volume.Volume.{Ghosts}
use Rattle.device_outside.specs.Hears.{HeardAll, heard_none}
use Rattle.device_outside.specs.Keeper.{Hearing, Message}
use Rattle.device_outside.specs.Pool as pools
use Rattle.device_defs.specs.declared.answers.StartFault.{StartFault}
use Rattle.device_defs.specs.Contents.{contents}
use Rattle.device_defs.specs.Cutting.{reset}
use Rattle.device_defs.specs.Command.{command}
use Rattle.device_defs.specs.Device as defined
use Rattle.device_defs.specs.Events.{background, lose}
use Rattle.device_defs.specs.Orders.{hold_side, resume}
use Rattle.device_defs.specs.Start.{start_fault}
use Rattle.device_core.specs.declared.device.Device.{Device}
use Rattle.device_core.specs.State.{DefinedDevice, device_of, last_end}
use Rattle.duplex_pair.specs.declared.pair.SideVolumes.{SideVolumes}
use Rattle.frame_pool.specs.Shared.{Shared, shared_view}
use Rattle.subsystem_laws.specs.Looking.{AskedWith}
use Rattle.subsystem_core.specs.declared.end.EventEnd.{EventEnd}
use Rattle.subsystem_core.specs.declared.subsystem.Subsystem.{Subsystem}
use Rattle.subsystem_core.specs.Comes.{OwnDeed, Talk, CameKept, CameKeptBy, SweptBy, SweepsKept, over, next}
use Rattle.subsystem_core.specs.Devices.{device_at, devices_of, numbers_of}
use Rattle.subsystem_core.specs.Ends.{end_seen}
use Rattle.subsystem_core.specs.Places.{may_come}
use Rattle.subsystem_core.proofs.Found.{found_in, number_found}
use Rattle.subsystem_defs.specs.declared.end.EventEnd as ends
use Rattle.subsystem_defs.specs.declared.end.EventEnd.TheVariants as answers
use Rattle.subsystem_defs.specs.declared.end.OrderFault.{OrderFault}
use Rattle.subsystem_defs.specs.declared.end.OrderFault.TheVariants.{Down, Up}
use Rattle.subsystem_defs.specs.declared.event.Event.{Event}
use Rattle.subsystem_defs.specs.declared.event.Event.TheVariants as events
use Rattle.subsystem_defs.specs.Deeds as D
use Rattle.subsystem_defs.specs.Deeds.{
  Ends,
  Becomes,
  Asks,
  Each,
  Repairs,
  Lends,
  deed,
  device_in,
  ends_by,
  ends_done,
  may_end_by,
  on_device,
  order,
  seconds,
  start_by,
  starts,
  step,
  back,
}
use Rattle.subsystem_defs.specs.Happening.{MarksDeed}
use Rattle.subsystem_defs.specs.Refusals.{fail_fault, pair_fault, resume_fault, suspend_fault}
use Rattle.subsystem_defs.specs.Subsystem as runs
use Rattle.subsystem_laws.specs.WholeComes.{subsystem_of}
use Rattle.keeper_laws.specs.Keeping.{CameWith, ComesWith, SweptWith, all_swept, one_swept}
use Rattle.keeper_laws.specs.Messages as messages
use Rattle.keeper_laws.specs.Messages.{deed_messages, event_messages}
use Rattle.keeper_laws.proofs.Hears.{event_is_heard}
use Rattle.deck_run.specs.Owning.{AreOwn, ChainsStand}
use Rattle.deck_run.specs.Seen.{SeesEnd}
use Rattle.deck_run.specs.Standing.{StandsAs, all_stood, stood_of}
use Rattle.deck_run.specs.Sweeping.{IsOpenOfAll}
use Rattle.deck_run.proofs.Events.{has_one}
use Rattle.deck_run.proofs.Found.{again, chains_are, devices_stood, put_stood, stood_found}
use Rattle.line_drive.specs.Ending.{EndsAs, device_named}

-- A pair: no keeper hears of it

abbrev OfPair : {F P H R : Type 0} → D.Deed F P H R → Type 0
OfPair (Ends end) = Unit {0}
OfPair (Lends x y) = Unit {0}
OfPair _ = ⊥

module _ {F P H : Type 0} (R : Type 0) where
  pair_order : (x y : defined.Device F P H) (o : Option OrderFault) → OfPair {R = R} (order o (Lends x y))
  pair_order x y (Some f) = tt
  pair_order x y None = tt

  pair_second : (x : defined.Device F P H) (o : Option (defined.Device F P H)) → OfPair {R = R} (on_device o (λ y. order (pair_fault x y) (Lends x y)))
  pair_second x (Some y) = pair_order x y (pair_fault x y)
  pair_second x None = tt

  pair_first : (o p : Option (defined.Device F P H)) → OfPair {R = R} (on_device o (λ x. on_device p (λ y. order (pair_fault x y) (Lends x y))))
  pair_first (Some x) p = pair_second x p
  pair_first None p = tt

pair_told : (s : runs.Subsystem) (d : MarksDeed) → OfPair d → deed_messages s d ≡ []
pair_told s (Ends end) of = refl
pair_told s (Becomes d end) of = absurd of
pair_told s (Asks d talk) of = absurd of
pair_told s (Each pool f) of = absurd of
pair_told s (Repairs pool) of = absurd of
pair_told s (Lends x y) of = refl

pair_messages : (s : runs.Subsystem) (n m : ℕ) → event_messages s (events.Pair n m) ≡ []
unfolding messages.event_messages D.deed
pair_messages s n m =
    pair_told s (on_device (device_in (runs.devices_of s) n) (λ x. on_device (device_in (runs.devices_of s) m) (λ y. order (pair_fault x y) (Lends x y))))
    (pair_first _ (device_in (runs.devices_of s) n) (device_in (runs.devices_of s) m))

-- An event of all devices

abbrev OfAll : OwnDeed → Type 0
OfAll (Ends end) = Unit {0}
OfAll (Each pool f) = Unit {0}
OfAll (Repairs pool) = Unit {0}
OfAll _ = ⊥

all_loss : (up : Bool) (d : OwnDeed) → OfAll d → OfAll (D.order_if_not (not up) Down d)
all_loss up d of = cond_both (not up) (Ends (answers.Refused Down)) d OfAll (λ _. tt) (λ _. of)

all_repair : (up : Bool) (pool repaired : pools.Pool) → OfAll (D.repair up pool repaired)
all_repair up pool repaired =
    cond_both up (Ends (answers.Refused Up))
    (if pools.all_waiting pool == 0 then Repairs repaired else Ends (answers.Pending (pools.all_waiting pool))) OfAll (λ _. tt)
    (λ _. cond_both (pools.all_waiting pool == 0) (Repairs repaired) (Ends (answers.Pending (pools.all_waiting pool))) OfAll (λ _. tt) (λ _. tt))

all_deed : (e : Event) (pool : pools.Pool) (ds : List DefinedDevice) → IsOpenOfAll e → OfAll (deed contents pool ds e)
unfolding D.deed
all_deed events.FailCache pool ds on =
    all_loss pool.cache_up (Each (pools.cache_failed pool) (λ x. lose contents x losses.Cache)) tt
all_deed events.FailStore pool ds on =
    all_loss pool.store_up (Each (pools.store_failed pool) (λ x. lose contents x losses.Store)) tt
all_deed events.RepairCache pool ds on = all_repair pool.cache_up pool (pools.cache_repaired pool)
all_deed events.RepairStore pool ds on = all_repair pool.store_up pool (pools.store_repaired pool)
all_deed events.Power pool ds on = tt
all_deed (events.Start path d) pool ds on = absurd on
all_deed (events.Step d) pool ds on = absurd on
all_deed (events.Back d) pool ds on = absurd on
all_deed (events.Reset path d) pool ds on = absurd on
all_deed (events.FailVolume d side) pool ds on = absurd on
all_deed (events.Pair x y) pool ds on = absurd on
all_deed (events.Suspend d) pool ds on = absurd on
all_deed (events.Resume d) pool ds on = absurd on

-- The device that is asked in an event of one

abbrev AtOne : ℕ → OwnDeed → Type 0
AtOne n (Ends end) = Unit {0}
AtOne n (Becomes d end) = Unit {0}
AtOne n (Asks d talk) = d.store.device ≡ n
AtOne n _ = ⊥

one_start : (n : ℕ) (d : DefinedDevice) (path : ℕ) (o : Option StartFault) → AtOne n (start_by d path o)
one_start n d path (Some f) = tt
one_start n d path None = tt

one_starts : (n : ℕ) (d : DefinedDevice) (path : ℕ) → AtOne n (starts path d)
one_starts n d path =
    cond_both (is_path_of d.history.running path) (Ends answers.Running) (start_by d path (start_fault d path)) (AtOne n) (λ _. tt)
    (λ _. one_start n d path (start_fault d path))

one_order : (n : ℕ) (d : OwnDeed) (o : Option OrderFault) → AtOne n d → AtOne n (order o d)
one_order n d (Some f) at = tt
one_order n d None at = at

one_step : (n : ℕ) (d : DefinedDevice) → d.store.device ≡ n → AtOne n (step contents d)
one_step n d at =
    cond_both (is_some d.store.half) (seconds contents d)
    (if is_some d.history.running then Asks d (may_end_by answers.Stepped (command contents d)) else Ends answers.Idle) (AtOne n) (λ _. at)
    (λ _. cond_both (is_some d.history.running) (Asks d (may_end_by answers.Stepped (command contents d))) (Ends answers.Idle) (AtOne n) (λ _. at) (λ _. tt))

one_back : (n : ℕ) (d : DefinedDevice) → d.store.device ≡ n → AtOne n (back contents d)
one_back n d at =
    cond_both (is_some d.store.half) (seconds contents d) (Asks d (may_end_by answers.Back (background contents d))) (AtOne n) (λ _. at) (λ _. at)

abbrev OfOne : Option ℕ → OwnDeed → Type 0
OfOne (Some n) d = AtOne n d
OfOne None d = Unit {0}

-- the deed is of this device, where the device is there
abbrev One : ℕ → (DefinedDevice → OwnDeed) → Option DefinedDevice → Type 0
One n f o = AtOne n (on_device o f)

module _ {V : Type 0} {G : Ghosts V} where
  one_by : (n : ℕ) (xs : List (Device V G)) (f : DefinedDevice → OwnDeed) → ((d : DefinedDevice) → d.store.device ≡ n → AtOne n (f d)) → (x : Device V G) →
      device_at xs n ≡ Some x → AtOne n (on_device (device_in (devices_of xs) n) f)
  one_by n xs f one x at = subst (One n f) (sym (found_in xs n x at)) (one (device_of x) (number_found xs n x at))

  one_deed : (xs : List (Device V G)) (pool : pools.Pool) (e : Event) → may_come (numbers_of xs) e ≡ true →
      OfOne (device_named e) (deed contents pool (devices_of xs) e)
  unfolding D.deed
  one_deed xs pool (events.Start path d) may =
      let x = has_one xs d may in one_by d xs (starts path) (λ y at. one_starts d y path) x.device x.found
  one_deed xs pool (events.Step d) may =
      let x = has_one xs d may in one_by d xs (step contents) (λ y at. one_step d y at) x.device x.found
  one_deed xs pool (events.Back d) may =
      let x = has_one xs d may in one_by d xs (back contents) (λ y at. one_back d y at) x.device x.found
  one_deed xs pool (events.Reset path d) may =
      let x = has_one xs d may in
      one_by d xs (λ y. Asks y (ends_by ends_done (reset contents y path))) (λ y at. at) x.device x.found
  one_deed xs pool (events.FailVolume d side) may =
      let x = has_one xs d may in
      one_by d xs (λ y. order (fail_fault y side) (Asks y (ends_by ends_done (lose contents y (losses.Side side)))))
      (λ y at. one_order d (Asks y (ends_by ends_done (lose contents y (losses.Side side)))) (fail_fault y side) at) x.device x.found
  one_deed xs pool (events.Suspend d) may =
      let x = has_one xs d may in
      one_by d xs (λ y. order (suspend_fault y) (Becomes (hold_side y) answers.Done))
      (λ y at. one_order d (Becomes (hold_side y) answers.Done) (suspend_fault y) tt) x.device x.found
  one_deed xs pool (events.Resume d) may =
      let x = has_one xs d may in
      one_by d xs (λ y. order (resume_fault y) (Becomes (resume y) answers.Done))
      (λ y at. one_order d (Becomes (resume y) answers.Done) (resume_fault y) tt) x.device x.found
  one_deed xs pool events.FailCache may = tt
  one_deed xs pool events.FailStore may = tt
  one_deed xs pool events.RepairCache may = tt
  one_deed xs pool events.RepairStore may = tt
  one_deed xs pool events.Power may = tt
  one_deed xs pool (events.Pair n m) may = tt

  -- Each device in its turn

  swept_with : {K : Type 0} {hears : Hearing Image K} (f : DefinedDevice → Talk (Unit {0})) {old new : Shared × K} {xs ys : List (Device V G)} →
      SweptBy (SweepsKept hears f) old xs ys new → SweptWith hears f old.0.pool old.1 (all_stood xs) (all_stood ys) new.0.pool new.1
  swept_with f over = all_swept
  swept_with f (next {pool = p} {behind = q} ran rest) =
      one_swept (record { port = shared_view p.0; after = shared_view q.0; pool_before = refl; pool_behind = refl; ran = ran }) (swept_with f rest)

  module _ {K : Type 0} (hears : Hearing Image K) (old : Subsystem V G) (keep : K) (a : EventEnd) (new : Subsystem V G) (kept : K) where
    abbrev Kept : OwnDeed → Type 0
    Kept d = CameKeptBy hears d old keep (Some a) new kept

    -- it came, with an end, as the laws have it
    record With (d : OwnDeed) : Type 0 where
      pub end : ends.EventEnd
      pub comes : CameWith hears d old.pool.pool keep (all_stood old.devices.items) end new.pool.pool kept (all_stood new.devices.items)

    with_end : (end : ends.EventEnd) → Kept (Ends end) → With (Ends end)
    with_end end came = record { end = end; comes = ((refl, ap (λ s. s.pool) came.0.1.0, ap all_stood came.0.1.1), came.1) }

    with_becomes : (d : DefinedDevice) (end : ends.EventEnd) → Kept (Becomes d end) → With (Becomes d end)
    with_becomes d end came =
        let ch = came.0.2 in
        record {
          end = end;
          comes = (
            (
              refl,
              ap (λ s. s.pool) came.0.1,
              record {
                before = stood_of ch.before;
                behind = stood_of ch.behind;
                stood = stood_found old.devices.items d.store.device ch.before ch.stood;
                stands = ap all_stood ch.stands ∙ put_stood old.devices.items d.store.device ch.behind;
                is_so = record {
                  device = ch.is_so.0;
                  a = ap (λ (v : SideVolumes V). option_map G.view v.a) ch.is_so.1;
                  b = ap (λ (v : SideVolumes V). option_map G.view v.b) ch.is_so.1;
                };
              },
            ),
            came.1,
          );
        }

    -- the end that the device shows is this one
    module _ (n : ℕ) (end : ends.EventEnd) (numbers : numbers_of new.devices.items ≡ numbers_of old.devices.items) (sees : SeesEnd new n a end) where
      with_asks : (d : DefinedDevice) (talk : Talk (Option ends.EventEnd)) → d.store.device ≡ n → Kept (Asks d talk) → With (Asks d talk)
      with_asks d talk at came =
          let m = d.store.device in
          let there : device_at new.devices.items m ≡ Some came.behind =
          ap (λ (l : List (Device V G)). device_at l m) came.stands
          ∙ again old.devices.items m came.before came.behind came.stood (ap (λ (l : List (Device V G)). numbers_of l) (sym came.stands) ∙ numbers) in
          let seen : end_seen (last_end came.behind) a ≡ Some end =
          subst (λ (o : Option (Device V G)). IfSome o (λ y. end_seen (last_end y) a ≡ Some end))
          (ap (λ (k : ℕ). device_at new.devices.items k) (sym at) ∙ there) sees in
          record {
            end = end;
            comes = record {
              before = stood_of came.before;
              behind = stood_of came.behind;
              stood = stood_found old.devices.items m came.before came.stood;
              stands = ap all_stood came.stands ∙ put_stood old.devices.items m came.behind;
              is_so = subst (λ (o : Option ends.EventEnd). AskedWith hears keep kept talk o old.pool.pool (stood_of came.before) (stood_of came.behind)
                  new.pool.pool) seen
                  (record {
                    port = shared_view old.pool;
                    after = shared_view new.pool;
                    pool_before = refl;
                    pool_behind = refl;
                    ran = came.is_so;
                  });
            };
          }

      with_one : (d : OwnDeed) → AtOne n d → Kept d → With d
      with_one (Ends e) at came = with_end e came
      with_one (Becomes d e) at came = with_becomes d e came
      with_one (Asks d talk) at came = with_asks d talk at came
      with_one (Each pool f) at came = absurd at
      with_one (Repairs pool) at came = absurd at
      with_one (Lends x y) at came = absurd at

    with_all : (d : OwnDeed) → OfAll d → Kept d → With d
    with_all (Ends end) of came = with_end end came
    with_all (Becomes d end) of came = absurd of
    with_all (Asks d talk) of came = absurd of
    with_all (Each pool f) of came = record { end = answers.Done; comes = (refl, swept_with f came.1) }
    with_all (Repairs pool) of came =
        record { end = answers.Done; comes = ((refl, ap (λ s. s.pool) came.0.1, ap all_stood came.0.2), came.1) }
    with_all (Lends x y) of came = absurd of

    pair_keeps : (d : OwnDeed) → OfPair d → Kept d → kept ≡ keep
    pair_keeps (Ends end) of came = came.1
    pair_keeps (Becomes d end) of came = absurd of
    pair_keeps (Asks d talk) of came = absurd of
    pair_keeps (Each pool f) of came = absurd of
    pair_keeps (Repairs pool) of came = absurd of
    pair_keeps (Lends x y) of came = came.2

    -- The whole

    module _ (own : AreOwn old.devices.items) (stand : ChainsStand old.devices.items) (numbers : numbers_of new.devices.items ≡ numbers_of old.devices.items)
        (run : runs.Subsystem) (all : StandsAs old run) where
      abbrev Hears : Event → Type 0
      Hears e = HeardAll hears keep (event_messages run e) kept

      heard_of : (e : Event) → With (deed contents old.pool.pool (devices_of old.devices.items) e) → Hears e
      heard_of e w =
          let p = old.pool.pool in
          let comes : ComesWith hears e p keep (all_stood old.devices.items) w.end new.pool.pool kept (all_stood new.devices.items) =
          subst (λ (l : List DefinedDevice). CameWith hears (deed contents p l e) p keep (all_stood old.devices.items) w.end new.pool.pool kept
          (all_stood new.devices.items)) (sym (devices_stood old.devices.items)) w.comes in
          let is : run ≡ subsystem_of p run.mounted = ap (λ (q : pools.Pool). record { pool = q; mounted = run.mounted }) all.pool in
          subst (λ (s : runs.Subsystem). HeardAll hears keep (event_messages s e) kept) (sym is)
          (event_is_heard hears e p new.pool.pool keep kept (all_stood old.devices.items) (all_stood new.devices.items) run.mounted w.end all.mounted
          (chains_are old.devices.items own.each stand) comes)

      heard_pair : (n m : ℕ) → CameKept hears (events.Pair n m) old keep (Some a) new kept → Hears (events.Pair n m)
      unfolding D.deed
      heard_pair n m came =
          let ds = devices_of old.devices.items in
          let same : kept ≡ keep =
          pair_keeps (on_device (device_in ds n) (λ x. on_device (device_in ds m) (λ y. order (pair_fault x y) (Lends x y))))
          (pair_first _ (device_in ds n) (device_in ds m)) came in
          subst (λ (k : K). HeardAll hears keep (event_messages run (events.Pair n m)) k) (sym same)
          (subst (λ (l : List (Message Image)). HeardAll hears keep l keep) (sym (pair_messages run n m)) heard_none)

      heard_all : (e : Event) → IsOpenOfAll e → CameKept hears e old keep (Some a) new kept → Hears e
      heard_all e on came =
          let d = deed contents old.pool.pool (devices_of old.devices.items) e in
          heard_of e (with_all d (all_deed e old.pool.pool (devices_of old.devices.items) on) came)

      heard_one : (e : Event) (n : ℕ) (end : ends.EventEnd) → AtOne n (deed contents old.pool.pool (devices_of old.devices.items) e) → SeesEnd new n a end →
          CameKept hears e old keep (Some a) new kept → Hears e
      heard_one e n end at sees came =
          heard_of e (with_one n end numbers sees (deed contents old.pool.pool (devices_of old.devices.items) e) at came)

      pub heard_so : (e : Event) (end : ends.EventEnd) → may_come (numbers_of old.devices.items) e ≡ true → EndsAs e new a end →
          CameKept hears e old keep (Some a) new kept → Hears e
      heard_so (events.Start path d) end may so came =
          heard_one (events.Start path d) d end (one_deed old.devices.items old.pool.pool (events.Start path d) may) so came
      heard_so (events.Step d) end may so came = heard_one (events.Step d) d end (one_deed old.devices.items old.pool.pool (events.Step d) may) so came
      heard_so (events.Back d) end may so came = heard_one (events.Back d) d end (one_deed old.devices.items old.pool.pool (events.Back d) may) so came
      heard_so (events.Reset path d) end may so came =
          heard_one (events.Reset path d) d end (one_deed old.devices.items old.pool.pool (events.Reset path d) may) so came
      heard_so (events.FailVolume d side) end may so came =
          heard_one (events.FailVolume d side) d end (one_deed old.devices.items old.pool.pool (events.FailVolume d side) may) so came
      heard_so (events.Suspend d) end may so came =
          heard_one (events.Suspend d) d end (one_deed old.devices.items old.pool.pool (events.Suspend d) may) so came
      heard_so (events.Resume d) end may so came =
          heard_one (events.Resume d) d end (one_deed old.devices.items old.pool.pool (events.Resume d) may) so came
      heard_so events.FailCache end may so came = heard_all events.FailCache tt came
      heard_so events.FailStore end may so came = heard_all events.FailStore tt came
      heard_so events.RepairCache end may so came = heard_all events.RepairCache tt came
      heard_so events.RepairStore end may so came = heard_all events.RepairStore tt came
      heard_so events.Power end may so came = heard_all events.Power tt came
      heard_so (events.Pair n m) end may so came = heard_pair n m came
