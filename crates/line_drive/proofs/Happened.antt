-- An event of whichever devices, from what came of it to what happens in a run.
use Rattle.std.proofs.Common.{◌≡◌, ◌∙◌, ℕ, Bool, true, Option, Some, None, List, refl, sym, ap, subst}
use Rattle.std.specs.Prelude.{◌==◌, not, if◌then◌else◌}
use Rattle.std.proofs.lemmas.Bool.{cond_both}
use Rattle.device_outside.specs.declared.volume.Volume.{Ghosts}
use Rattle.device_outside.specs.Pool as pools
use Rattle.device_defs.specs.Contents.{contents}
use Rattle.device_defs.specs.Events.{lose}
use Rattle.device_core.specs.declared.device.Device.{Device}
use Rattle.device_core.specs.State.{DefinedDevice, device_of}
use Rattle.loss_model.specs.declared.Loss.TheVariants as losses
use Rattle.subsystem_core.specs.declared.end.EventEnd.{EventEnd}
use Rattle.subsystem_core.specs.declared.subsystem.Subsystem.{Subsystem}
use Rattle.subsystem_core.specs.Comes.{OwnDeed, CameBy, Came}
use Rattle.subsystem_core.specs.Devices.{device_at, devices_of, numbers_of}
use Rattle.subsystem_core.specs.Ends.{Answers}
use Rattle.subsystem_core.specs.Places.{may_come}
use Rattle.subsystem_core.proofs.Found.{found_in}
use Rattle.subsystem_defs.specs.declared.end.EventEnd as ends
use Rattle.subsystem_defs.specs.declared.end.EventEnd.TheVariants as answers
use Rattle.subsystem_defs.specs.declared.end.OrderFault.{OrderFault}
use Rattle.subsystem_defs.specs.declared.end.OrderFault.TheVariants.{Down, Up}
use Rattle.subsystem_defs.specs.declared.event.Event.{Event}
use Rattle.subsystem_defs.specs.declared.event.Event.TheVariants as events
use Rattle.subsystem_defs.specs.Deeds as D
use Rattle.subsystem_defs.specs.Deeds.{Ends, Becomes, Asks, Each, Repairs, Lends, deed, device_in, on_device, order}
use Rattle.subsystem_defs.specs.Happening.{happens}
use Rattle.subsystem_defs.specs.Refusals.{pair_fault}
use Rattle.subsystem_defs.specs.Subsystem as runs
use Rattle.subsystem_laws.specs.WholeComes as laws
use Rattle.subsystem_laws.specs.WholeComes.{subsystem_of, IsWhatCame}
use Rattle.subsystem_laws.proofs.WholeHappens.{event_so}
use Rattle.deck_run.specs.Owning.{AreOwn, ChainsStand}
use Rattle.deck_run.specs.Standing.{StandsAs, all_stood}
use Rattle.deck_run.specs.Sweeping.{IsOpenOfAll, order_end}
use Rattle.deck_run.proofs.Events.{happens_so, has_one, hears, own_behind}
use Rattle.deck_run.proofs.Found.{chains_are, devices_stood}
use Rattle.deck_run.proofs.Pairing.{first_so, pair_owns, second_so, told_so}
use Rattle.deck_run.proofs.Sweeping.{IsOrderEnd, all_happens, all_own, blank, order_seen}
use Rattle.line_drive.specs.Ending.{EndsAs}
use Rattle.line_drive.specs.Recalling.{IsPathIn}

-- Deeds whose end is known before they are done

abbrev Plain : OwnDeed → Type 0
Plain (Ends end) = IsOrderEnd end
Plain (Each pool f) = Unit {0}
Plain (Repairs pool) = Unit {0}
Plain (Lends x y) = Unit {0}
Plain _ = ⊥

plain_order : (x y : DefinedDevice) (o : Option OrderFault) → Plain (order o (Lends x y))
plain_order x y (Some f) = tt
plain_order x y None = tt

plain_loss : (up : Bool) (d : OwnDeed) → Plain d → Plain (D.order_if_not (not up) Down d)
plain_loss up d plain = cond_both (not up) (Ends (answers.Refused Down)) d Plain (λ _. tt) (λ _. plain)

plain_repair : (up : Bool) (pool repaired : pools.Pool) → Plain (D.repair up pool repaired)
plain_repair up pool repaired =
    cond_both up (Ends (answers.Refused Up))
    (if pools.all_waiting pool == 0 then Repairs repaired else Ends (answers.Pending (pools.all_waiting pool))) Plain (λ _. tt)
    (λ _. cond_both (pools.all_waiting pool == 0) (Repairs repaired) (Ends (answers.Pending (pools.all_waiting pool))) Plain (λ _. tt) (λ _. tt))

plain_all : (e : Event) (pool : pools.Pool) (ds : List DefinedDevice) → IsOpenOfAll e → Plain (deed contents pool ds e)
unfolding D.deed
plain_all events.FailCache pool ds on =
    plain_loss pool.cache_up (Each (pools.cache_failed pool) (λ x. lose contents x losses.Cache)) tt
plain_all events.FailStore pool ds on =
    plain_loss pool.store_up (Each (pools.store_failed pool) (λ x. lose contents x losses.Store)) tt
plain_all events.RepairCache pool ds on = plain_repair pool.cache_up pool (pools.cache_repaired pool)
plain_all events.RepairStore pool ds on = plain_repair pool.store_up pool (pools.store_repaired pool)
plain_all events.Power pool ds on = tt
plain_all (events.Start path d) pool ds on = absurd on
plain_all (events.Step d) pool ds on = absurd on
plain_all (events.Back d) pool ds on = absurd on
plain_all (events.Reset path d) pool ds on = absurd on
plain_all (events.FailVolume d side) pool ds on = absurd on
plain_all (events.Pair x y) pool ds on = absurd on
plain_all (events.Suspend d) pool ds on = absurd on
plain_all (events.Resume d) pool ds on = absurd on

record HasEnd (a : EventEnd) : Type 0 where
  pub end : ends.EventEnd
  pub is_order : IsOrderEnd end
  pub answers_it : Answers (Some a) end

-- it ends as the order does
ends_as : (a : EventEnd) (end : ends.EventEnd) → HasEnd a → order_end a ≡ end → Answers (Some a) end
ends_as a end h is = subst (λ (x : ends.EventEnd). Answers (Some a) x) (sym (order_seen a h.end h.is_order (h.answers_it blank)) ∙ is) h.answers_it

module _ {V : Type 0} {G : Ghosts V} where
  has_end : (d : OwnDeed) (old : Subsystem V G) (a : EventEnd) (new : Subsystem V G) → Plain d → CameBy d old (Some a) new → HasEnd a
  has_end (Ends end) old a new plain came = record { end = end; is_order = plain; answers_it = came.0 }
  has_end (Becomes d end) old a new plain came = absurd plain
  has_end (Asks d talk) old a new plain came = absurd plain
  has_end (Each pool f) old a new plain came = record { end = answers.Done; is_order = tt; answers_it = came.0 }
  has_end (Repairs pool) old a new plain came = record { end = answers.Done; is_order = tt; answers_it = came.0 }
  has_end (Lends x y) old a new plain came = record { end = answers.Done; is_order = tt; answers_it = came.0 }

  -- A pair

  plain_pair : (n m : ℕ) (old : Subsystem V G) (x z : Device V G) → device_at old.devices.items n ≡ Some x → device_at old.devices.items m ≡ Some z →
      Plain (deed contents old.pool.pool (devices_of old.devices.items) (events.Pair n m))
  unfolding D.deed
  plain_pair n m old x z at_x at_z =
      let ds = devices_of old.devices.items in
      let whole : on_device (device_in ds n) (λ u. on_device (device_in ds m) (λ v. order (pair_fault u v) (Lends u v)))
      ≡ order (pair_fault (device_of x) (device_of z)) (Lends (device_of x) (device_of z)) =
      ap (λ (o : Option DefinedDevice). on_device o (λ u. on_device (device_in ds m) (λ v. order (pair_fault u v) (Lends u v))))
      (found_in old.devices.items n x at_x)
      ∙ ap (λ (o : Option DefinedDevice). on_device o (λ v. order (pair_fault (device_of x) v) (Lends (device_of x) v)))
      (found_in old.devices.items m z at_z) in
      subst Plain (sym whole) (plain_order (device_of x) (device_of z) (pair_fault (device_of x) (device_of z)))

  module _ (n m : ℕ) (old new : Subsystem V G) (a : EventEnd) (x z : Device V G) (at_x : device_at old.devices.items n ≡ Some x)
      (at_z : device_at old.devices.items m ≡ Some z) (own : AreOwn old.devices.items) (came : Came (events.Pair n m) old (Some a) new) where
    pair_happens : (run : runs.Subsystem) → ChainsStand old.devices.items → StandsAs old run →
        Answers (Some a) (happens run (events.Pair n m)).end × StandsAs new (happens run (events.Pair n m)).behind
    pair_happens run stand all =
        let t = told_so n m old new a x z at_x at_z own came in
        let e = events.Pair n m in
        let comes : laws.Comes hears e old.pool.pool (all_stood old.devices.items) t.end new.pool.pool (all_stood new.devices.items) =
        subst (λ (l : List DefinedDevice). laws.CameBy hears (deed contents old.pool.pool l e) old.pool.pool (all_stood old.devices.items) t.end new.pool.pool
        (all_stood new.devices.items)) (sym (devices_stood old.devices.items)) t.comes in
        let is : run ≡ subsystem_of old.pool.pool run.mounted = ap (λ (p : pools.Pool). record { pool = p; mounted = run.mounted }) all.pool in
        let w = event_so hears old.pool.pool new.pool.pool (all_stood old.devices.items) (all_stood new.devices.items) run.mounted t.end all.mounted e
        (chains_are old.devices.items own.each stand) comes in
        let v : IsWhatCame (happens run e) t.end new.pool.pool (all_stood new.devices.items) =
        subst (λ (s : runs.Subsystem). IsWhatCame (happens s e) t.end new.pool.pool (all_stood new.devices.items)) (sym is) w in (
          ends_as a (happens run e).end
              (has_end (deed contents old.pool.pool (devices_of old.devices.items) e) old a new (plain_pair n m old x z at_x at_z) came)
              (t.seen ∙ sym v.ended),
          record { pool = v.left; mounted = v.mounted },
        )

  -- An event of all devices

  all_so : (e : Event) (old new : Subsystem V G) (a : EventEnd) → IsOpenOfAll e → AreOwn old.devices.items →
      numbers_of new.devices.items ≡ numbers_of old.devices.items → Came e old (Some a) new → (run : runs.Subsystem) → ChainsStand old.devices.items →
      StandsAs old run → Answers (Some a) (happens run e).end × StandsAs new (happens run e).behind
  all_so e old new a on own numbers came run stand all =
      let h = all_happens e old new a on own numbers came run stand all in (
        ends_as a (happens run e).end
            (has_end (deed contents old.pool.pool (devices_of old.devices.items) e) old a new
            (plain_all e old.pool.pool (devices_of old.devices.items) on) came)
            (sym h.0),
        h.1,
      )

  -- The whole

  module _ (old new : Subsystem V G) (a : EventEnd) (own : AreOwn old.devices.items)
      (numbers : numbers_of new.devices.items ≡ numbers_of old.devices.items) where
    pub event_owns : (e : Event) → IsPathIn e → may_come (numbers_of old.devices.items) e ≡ true → Came e old (Some a) new → AreOwn new.devices.items
    event_owns (events.Start path d) path_in may came = own_behind d old new a may own numbers (events.Start path d) (refl, path_in) came
    event_owns (events.Step d) path_in may came = own_behind d old new a may own numbers (events.Step d) refl came
    event_owns (events.Back d) path_in may came = own_behind d old new a may own numbers (events.Back d) refl came
    event_owns (events.Reset path d) path_in may came = own_behind d old new a may own numbers (events.Reset path d) refl came
    event_owns (events.FailVolume d side) path_in may came = own_behind d old new a may own numbers (events.FailVolume d side) refl came
    event_owns (events.Suspend d) path_in may came = own_behind d old new a may own numbers (events.Suspend d) refl came
    event_owns (events.Resume d) path_in may came = own_behind d old new a may own numbers (events.Resume d) refl came
    event_owns events.FailCache path_in may came = all_own events.FailCache old new a tt own numbers came
    event_owns events.FailStore path_in may came = all_own events.FailStore old new a tt own numbers came
    event_owns events.RepairCache path_in may came = all_own events.RepairCache old new a tt own numbers came
    event_owns events.RepairStore path_in may came = all_own events.RepairStore old new a tt own numbers came
    event_owns events.Power path_in may came = all_own events.Power old new a tt own numbers came
    event_owns (events.Pair n m) path_in may came =
        let x = has_one old.devices.items n (first_so _ _ may) in
        let z = has_one old.devices.items m (second_so _ _ may) in
        pair_owns n m old new a x.device z.device x.found z.found own came

    abbrev Happens : Event → runs.Subsystem → Type 0
    Happens e run = EndsAs e new a (happens run e).end × StandsAs new (happens run e).behind

    pub event_happens : (e : Event) → IsPathIn e → may_come (numbers_of old.devices.items) e ≡ true → Came e old (Some a) new → (run : runs.Subsystem) →
        ChainsStand old.devices.items → StandsAs old run → Happens e run
    event_happens (events.Start path d) path_in may came =
        happens_so d old new a may own numbers (events.Start path d) (refl, path_in) came
    event_happens (events.Step d) path_in may came = happens_so d old new a may own numbers (events.Step d) refl came
    event_happens (events.Back d) path_in may came = happens_so d old new a may own numbers (events.Back d) refl came
    event_happens (events.Reset path d) path_in may came = happens_so d old new a may own numbers (events.Reset path d) refl came
    event_happens (events.FailVolume d side) path_in may came = happens_so d old new a may own numbers (events.FailVolume d side) refl came
    event_happens (events.Suspend d) path_in may came = happens_so d old new a may own numbers (events.Suspend d) refl came
    event_happens (events.Resume d) path_in may came = happens_so d old new a may own numbers (events.Resume d) refl came
    event_happens events.FailCache path_in may came = all_so events.FailCache old new a tt own numbers came
    event_happens events.FailStore path_in may came = all_so events.FailStore old new a tt own numbers came
    event_happens events.RepairCache path_in may came = all_so events.RepairCache old new a tt own numbers came
    event_happens events.RepairStore path_in may came = all_so events.RepairStore old new a tt own numbers came
    event_happens events.Power path_in may came = all_so events.Power old new a tt own numbers came
    event_happens (events.Pair n m) path_in may came =
        let x = has_one old.devices.items n (first_so _ _ may) in
        let z = has_one old.devices.items m (second_so _ _ may) in
        pair_happens n m old new a x.device z.device x.found z.found own came
