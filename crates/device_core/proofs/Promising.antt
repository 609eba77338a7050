-- What a device promises by its calls follows from what each of them is.
use Rattle.std.proofs.Common.{◌≡◌, ◌<◌, ◌≤◌, ◌*◌, ℕ, Bool, true, false, List, [], Option, Some, None, Result, Ok, Err, is_some, refl, sym, ap, subst, ◌∙◌}
use Rattle.std.specs.Prelude.{IfOk, IfSome, IsSome, OnErr, OnOk, option_map}
use Rattle.ckd_types.specs.declared.channel.CommandEnd.{CommandEnd}
use Rattle.ckd_types.specs.declared.memory.NoMemory.{NoMemory}
use Rattle.ckd_types.specs.declared.record.Track.{Track}
use Rattle.ckd_types.specs.Volume.{empty_volume}
use Rattle.ckd_chain.specs.Facts.{IsChain}
use Rattle.ckd_chain.specs.State.{ChainState}
use Rattle.loss_model.specs.declared.Loss.{Loss}
use Rattle.ckd_types.specs.declared.geometry.Geometry.{Geometry}
use Rattle.plain_defs.specs.History.{History, OpenEntry, no_history}
use Rattle.plain_defs.specs.Journal.{Plans}
use Rattle.plain_defs.specs.PlainState.{PathsState, fresh_paths}
use Rattle.plain_defs.specs.Whole.{GiveBytes}
use Rattle.plain_device.proofs.Wholes.{volume_empty}
use Rattle.track_image.specs.Image.{Image}
use Rattle.device_outside.specs.declared.volume.Volume.{Ghosts}
use Rattle.device_outside.specs.After.{Tells}
use Rattle.device_outside.specs.Disk.{empty_contents}
use Rattle.device_outside.specs.Keeper.{Hearing}
use Rattle.device_outside.specs.Outside.{Outside, PortView, Ran, no_pool, where_ok}
use Rattle.device_outside.specs.Volume.{VolumeView}
use Rattle.device_defs.specs.declared.answers.Did.{Did}
use Rattle.device_defs.specs.declared.answers.SecondEnd.{SecondEnd}
use Rattle.device_defs.specs.declared.answers.Stepped as defs_steps
use Rattle.device_defs.specs.Command.{command}
use Rattle.device_defs.specs.Contents.{contents}
use Rattle.device_defs.specs.Cutting.{power, reset}
use Rattle.device_defs.specs.Events.{background, lose, second}
use Rattle.device_defs.specs.Peek as defs
use Rattle.device_defs.specs.Peek.{peek}
use Rattle.device_defs.specs.Start.{start, start_fault}
use Rattle.device_store.specs.declared.store.DeviceStore.{DeviceStore}
use Rattle.device_store.specs.declared.store.Peeked.{Peeked}
use Rattle.device_store.specs.Looks.{StoreOf, peeked_by}
use Rattle.device_store.specs.State.{had, on_a, on_b, opened_store, outside, surely}
use Rattle.past_laws.specs.PutAway.{PutAway, nothing_away, whole_entry, whole_plans}
use Rattle.past_laws.proofs.Events.{background_same, command_same, lose_same, peek_same, power_same, reset_same, second_same}
use Rattle.subsystem_laws.specs.Looking.{is_written_at}
use Rattle.subsystem_laws.specs.Found.{FoundPlain}
use Rattle.subsystem_laws.specs.Standing.{IsBesideOn, StandsOn}
use Rattle.subsystem_laws.proofs.turning.Beside.{
  background_beside,
  beside_there,
  command_beside,
  loss_beside,
  power_beside,
  reset_beside,
  runs_on,
  second_beside,
  start_beside,
}
use Rattle.subsystem_laws.proofs.looking.EitherWay.{look_had}
use Rattle.subsystem_laws.proofs.turning.Found.{peek_finds}
use Rattle.subsystem_laws.proofs.turning.NewDevice.{first_stands}
use Rattle.subsystem_laws.proofs.turning.SameAgain.{background_again, command_again, peek_again}
use Rattle.subsystem_laws.proofs.turning.Sound.{beside_plain, beside_sound, stands_excused}
use Rattle.subsystem_laws.proofs.turning.Standing.{
  background_stands,
  command_stands,
  loss_stands,
  peek_stands,
  power_stands,
  reset_stands,
  second_stands,
  stands_there,
  start_stands,
}
use Rattle.subsystem_laws.proofs.turning.Untold.{replied}
use Rattle.subsystem_laws.proofs.turning.Wanting.{background_lacked, command_lacked, peek_beside, same_volume}
use Rattle.device_core.specs.declared.device.Device.{Device}
use Rattle.device_core.specs.declared.history.Past.{Past}
use Rattle.device_core.specs.declared.history.Running.{Running}
use Rattle.device_core.specs.declared.history.Stepped.{Stepped}
use Rattle.device_laws.specs.NewDevice.{volume_contents}
use Rattle.device_laws.specs.Seen.{EndsAsSeen}
use Rattle.device_laws.proofs.NewDevices.{empty_is_contents}
use Rattle.device_core.specs.Promises.{EndsSeen, HoldsTracks, IsPromised, KeepsPlain, KeepsWhole, StandsPlain, StandsWhole, StaysExcused, StaysPlain, StaysSame, StaysSound, told_by, whole_of}
use Rattle.device_core.specs.WholePast.{SoWithPast}
use Rattle.device_core.specs.State.{DefinedDevice, chain_of, device_by, device_of, history_of, open_of, opened_device, step_had}
use Rattle.device_core.proofs.Halves.{none_by}
use Rattle.device_core.proofs.WholePasts.{none_gives, nothing_put_away, run_on, runs_whole, start_on, then_on, whole_by}
use Rattle.device_laws.specs.SoundOn.{plain_on}

-- the program that runs, and its chain
pub runs_there : (r : Option Running) → IsSome (option_map open_of r) → IsSome r
runs_there (Some r) is = refl
runs_there None is = absurd cc

running_there : (r : Option Running) → IsSome r → (o : Running) × (r ≡ Some o)
running_there (Some r) is = (r, refl)
running_there None is = absurd cc

some_same : {X : Type 0} (x y : X) → Some x ≡ Some y → x ≡ y
some_same x y e = cc

chain_told : (o : Option ChainState) → IfSome o IsChain → (chain : ChainState) → o ≡ Some chain → IsChain chain
chain_told (Some c) is chain e = subst IsChain (some_same c chain e) is
chain_told None is chain e = absurd cc

pub half_there : {X : Type 0} (o : Option X) → is_some o ≡ true → (x : X) × (o ≡ Some x)
half_there (Some x) is = (x, refl)
half_there None is = absurd cc

module _ {V : Type 0} {G : Ghosts V} (d e : Device V G) where
  -- What follows where it still stands so

  pub sound_by : KeepsPlain d e → StaysSound d e
  sound_by f = record {
    sound = λ past first s. let x = (f past first s).is in record {
      held = x.held;
      on_a = x.untold.a;
      on_b = x.untold.b;
      is = beside_sound (whole_of past e) (told_by e) x;
    };
  }

  pub plain_by : KeepsPlain d e → StaysPlain d e
  plain_by f = record { stands = f; history = λ past first s. beside_plain (whole_of past e) (told_by e) (f past first s).is }

  pub excused_by : KeepsWhole d e → StaysExcused d e
  excused_by f = record { stands = f; excused = λ past first s failed cache. stands_excused (whole_of past e) (told_by e) (f past first s).is failed cache }

  -- another device, over volumes that tell something else
  pub plain_over : {x : DefinedDevice} {w : Outside (List ℕ) (Unit {0})} → ((past : PutAway) (first : List Track) →
      SoWithPast (IsBesideOn (λ (_ : ℕ). first)) past (device_of d) (told_by d) → SoWithPast (IsBesideOn (λ (_ : ℕ). first)) past x w) → device_of e ≡ x → told_by e ≡ w → KeepsPlain d e
  plain_over {x = x} f is told past first s =
      subst (λ (y : DefinedDevice). SoWithPast (IsBesideOn (λ (_ : ℕ). first)) past y (told_by e)) (sym is)
      (subst (λ (w : Outside (List ℕ) (Unit {0})). SoWithPast (IsBesideOn (λ (_ : ℕ). first)) past x w) (sym told) (f past first s))

  pub whole_over : {x : DefinedDevice} {w : Outside (List ℕ) (Unit {0})} → ((past : PutAway) (first : List Track) →
      SoWithPast (StandsOn (λ (_ : ℕ). first)) past (device_of d) (told_by d) → SoWithPast (StandsOn (λ (_ : ℕ). first)) past x w) → device_of e ≡ x → told_by e ≡ w → KeepsWhole d e
  whole_over {x = x} f is told past first s =
      subst (λ (y : DefinedDevice). SoWithPast (StandsOn (λ (_ : ℕ). first)) past y (told_by e)) (sym is)
      (subst (λ (w : Outside (List ℕ) (Unit {0})). SoWithPast (StandsOn (λ (_ : ℕ). first)) past x w) (sym told) (f past first s))

  pub same_told : e.store ≡ d.store → told_by e ≡ told_by d
  same_told store = ap (λ (s : DeviceStore V G). outside (no_pool 0) s (tt {0})) store

  -- nothing changed
  module _ (is : device_of e ≡ device_of d) (store : e.store ≡ d.store) where
    still_plain : KeepsPlain d e
    still_plain = plain_over (λ past first s. s) is (same_told store)

    still_whole : KeepsWhole d e
    still_whole = whole_over (λ past first s. s) is (same_told store)

    pub still_sound : StaysSound d e
    still_sound = sound_by still_plain

    pub still_stays_plain : StaysPlain d e
    still_stays_plain = plain_by still_plain

    pub still_excused : StaysExcused d e
    still_excused = excused_by still_whole

  -- A start

  module _ (path : ℕ) (least : 1 ≤ path) (most : path ≤ 4) (fault : start_fault (device_of d) path ≡ None) (is : device_of e ≡ start (device_of d) path)
      (store : e.store ≡ d.store) where
    start_goes_plain : KeepsPlain d e
    start_goes_plain =
        plain_over (λ past first s. start_on s path least most fault (λ b f. start_beside (whole_of past d) (told_by d) path b least most f)) is (same_told store)

    start_goes_whole : KeepsWhole d e
    start_goes_whole =
        whole_over (λ past first s. start_on s path least most fault (λ b f. start_stands (whole_of past d) (told_by d) path b least most f)) is (same_told store)

    pub start_sound : StaysSound d e
    start_sound = sound_by start_goes_plain

    pub start_stays_plain : StaysPlain d e
    start_stays_plain = plain_by start_goes_plain

    pub start_excused : StaysExcused d e
    start_excused = excused_by start_goes_whole

  -- The program that runs, between two of its commands

  module _ (some : IsSome (device_of d).history.running) (whole : is_some (device_of d).store.half ≡ false) (chain : IfSome (device_of d).chain IsChain) where
    entry : (o : OpenEntry) × ((device_of d).history.running ≡ Some o)
    entry = let r = running_there d.past.running (runs_there d.past.running some) in (open_of r.0, ap (option_map open_of) r.1)

    none : (device_of d).store.half ≡ None
    none = none_by (device_of d).store.half whole

    chains : (chain : ChainState) → (device_of d).chain ≡ Some chain → IsChain chain
    chains = chain_told (device_of d).chain chain

    -- its chain runs on its device
    pub command_ends : {L : Type 0} {had : Bool → Type 0} {hears : Hearing Image L} {a : Option defs_steps.Stepped} {v w : Outside (List ℕ) L}
        {x : DefinedDevice} → EndsAsSeen had hears (device_of d) v x a w → (past : PutAway) (first : List Track) → StandsPlain past first d → EndsSeen had hears (device_of d) v x a w
    command_ends f past first s o hand x running now is =
        f o hand x running now (runs_on s.is none (whole_entry past o) (runs_whole past (device_of d) running) hand now (chains hand now)) is

  abbrev IsSameVolume : PutAway → List Track → DefinedDevice → Type 0
  IsSameVolume past first x = (plain_on (λ (_ : ℕ). first) x).volume ≡ (plain_on (λ (_ : ℕ). first) (whole_of past d)).volume

  -- What it ran between a port and a keeper, whatever they told

  module _ {L : Type 0} (old new : PortView) (j k : L) where
    abbrev u : Outside (List ℕ) L
    u = outside old d.store j

    abbrev z : Outside (List ℕ) L
    z = outside new e.store k

    -- over what the port and the keeper told before it
    there : {past : PutAway} {first : List Track} → StandsPlain past first d → SoWithPast (IsBesideOn (λ (_ : ℕ). first)) past (device_of d) u
    there {past = past} s = then_on s (beside_there (whole_of past d) (told_by d) u (λ h t. record { a = t.a; b = t.b; slots = t.slots }))

    plain_across : ((past : PutAway) (first : List Track) → SoWithPast (IsBesideOn (λ (_ : ℕ). first)) past (device_of d) u →
        SoWithPast (IsBesideOn (λ (_ : ℕ). first)) past (device_of e) z) → KeepsPlain d e
    plain_across f past first s =
        then_on (f past first (then_on s (beside_there (whole_of past d) (told_by d) u (λ h t. record { a = t.a; b = t.b; slots = t.slots }))))
        (beside_there (whole_of past e) z (told_by e) (λ h t. record { a = t.a; b = t.b; slots = t.slots }))

    whole_across : ((past : PutAway) (first : List Track) → SoWithPast (StandsOn (λ (_ : ℕ). first)) past (device_of d) u →
        SoWithPast (StandsOn (λ (_ : ℕ). first)) past (device_of e) z) → KeepsWhole d e
    whole_across f past first s =
        then_on (f past first (then_on s (stands_there (whole_of past d) (told_by d) u (λ h t. record { a = t.a; b = t.b; slots = t.slots }))))
        (stands_there (whole_of past e) z (told_by e) (λ h t. record { a = t.a; b = t.b; slots = t.slots }))

    -- A command

    module _ (some : IsSome (device_of d).history.running) (whole : is_some (device_of d).store.half ≡ false) (chain : IfSome (device_of d).chain IsChain)
        {hears : Hearing Image L} where
      command_plain : (last : Option CommandEnd) (r : Result Stepped NoMemory) → Ran (where_ok r) hears (command contents (device_of d)) u (device_of e) (step_had last r) z →
          KeepsPlain d e
      command_plain last (Ok x) run =
          plain_across (λ past first s. run_on s (command_same contents (λ ok. ok ≡ true) hears past (device_of d) s.away) run
          (λ y r. (command_beside s.is (λ m y q l h. h) (step_had {E = NoMemory} last (Ok x)) (whole_entry past (entry some whole chain).0) (none some whole chain)
          (runs_whole past (device_of d) (entry some whole chain).1) (chains some whole chain) (replied r)).beside))
      command_plain last (Err x) run =
          plain_across (λ past first s. run_on s (command_same contents (λ ok. Unit {0}) hears past (device_of d) s.away) run
          (λ y r. (command_lacked s.is (whole_entry past (entry some whole chain).0) (none some whole chain)
          (runs_whole past (device_of d) (entry some whole chain).1) (chains some whole chain) r).beside))

      pub command_sound : (last : Option CommandEnd) (r : Result Stepped NoMemory) →
          Ran (where_ok r) hears (command contents (device_of d)) u (device_of e) (step_had last r) z → StaysSound d e
      command_sound last r run = sound_by (command_plain last r run)

      pub command_stays_plain : (last : Option CommandEnd) (r : Result Stepped NoMemory) →
          Ran (where_ok r) hears (command contents (device_of d)) u (device_of e) (step_had last r) z → StaysPlain d e
      command_stays_plain last r run = plain_by (command_plain last r run)

      pub command_excused : (last : Option CommandEnd) (r : Result Stepped NoMemory) →
          Ran (where_ok r) hears (command contents (device_of d)) u (device_of e) (step_had last r) z → OnOk r (StaysExcused d e)
      command_excused last (Ok x) run =
          excused_by (whole_across (λ past first s. run_on s (command_same contents (λ ok. ok ≡ true) hears past (device_of d) s.away) run
          (λ y r. command_stands s.is (λ m y q l h. h) (step_had {E = NoMemory} last (Ok x)) (whole_entry past (entry some whole chain).0) (none some whole chain)
          (runs_whole past (device_of d) (entry some whole chain).1) (chains some whole chain) (replied r))))
      command_excused last (Err x) run = tt

      pub command_stays_same : (last : Option CommandEnd) (r : Result Stepped NoMemory) →
          Ran (where_ok r) hears (command contents (device_of d)) u (device_of e) (step_had last r) z → OnErr r (StaysSame d e)
      command_stays_same last (Ok x) run = tt
      command_stays_same last (Err x) run =
          let r = running_there d.past.running (runs_there d.past.running some) in
          record {
            again = command_again (device_of d) (open_of r.0) (chain_of r.0) (ap (option_map open_of) r.1) (ap (option_map chain_of) r.1) run;
            contents = λ past first s.
                let b = there s in
                whole_by b (command_same contents (λ ok. Unit {0}) hears past (device_of d) b.away) run (IsSameVolume past first)
                (λ y r. same_volume b.is (command_lacked b.is (whole_entry past (entry some whole chain).0) (none some whole chain)
                (runs_whole past (device_of d) (entry some whole chain).1) (chains some whole chain) r));
          }

    -- What it does by itself

    module _ (whole : is_some (device_of d).store.half ≡ false) {hears : Hearing Image L} where
      background_plain : (r : Result Did NoMemory) →
          Ran (where_ok r) hears (background contents (device_of d)) u (device_of e) (had (λ x. x) r) z → KeepsPlain d e
      background_plain (Ok x) run =
          plain_across (λ past first s. run_on s (background_same contents (λ ok. ok ≡ true) hears past (device_of d) s.away) run
          (λ y r. (background_beside s.is (λ m y q l h. h) (Some x) (none_by (device_of d).store.half whole) (replied r)).beside))
      background_plain (Err x) run =
          plain_across (λ past first s. run_on s (background_same contents (λ ok. Unit {0}) hears past (device_of d) s.away) run
          (λ y r. (background_lacked s.is (none_by (device_of d).store.half whole) r).beside))

      pub background_sound : (r : Result Did NoMemory) →
          Ran (where_ok r) hears (background contents (device_of d)) u (device_of e) (had (λ x. x) r) z → StaysSound d e
      background_sound r run = sound_by (background_plain r run)

      pub background_stays_plain : (r : Result Did NoMemory) →
          Ran (where_ok r) hears (background contents (device_of d)) u (device_of e) (had (λ x. x) r) z → StaysPlain d e
      background_stays_plain r run = plain_by (background_plain r run)

      pub background_excused : (r : Result Did NoMemory) →
          Ran (where_ok r) hears (background contents (device_of d)) u (device_of e) (had (λ x. x) r) z → OnOk r (StaysExcused d e)
      background_excused (Ok x) run =
          excused_by (whole_across (λ past first s. run_on s (background_same contents (λ ok. ok ≡ true) hears past (device_of d) s.away) run
          (λ y r. background_stands s.is (λ m y q l h. h) (Some x) (none_by (device_of d).store.half whole) (replied r))))
      background_excused (Err x) run = tt

      pub background_stays_same : (r : Result Did NoMemory) →
          Ran (where_ok r) hears (background contents (device_of d)) u (device_of e) (had (λ x. x) r) z → OnErr r (StaysSame d e)
      background_stays_same (Ok x) run = tt
      background_stays_same (Err x) run = record {
        again = background_again (device_of d) run;
        contents = λ past first s.
            let b = there s in
            whole_by b (background_same contents (λ ok. Unit {0}) hears past (device_of d) b.away) run (IsSameVolume past first)
            (λ y r. same_volume b.is (background_lacked b.is (none_by (device_of d).store.half whole) r));
      }

    -- The second part of a write

    module _ (open_is : is_some (device_of d).store.half ≡ true) {hears : Hearing Image L} {a : SecondEnd}
        (run : Ran surely hears (second contents (device_of d)) u (device_of e) a z) where
      second_plain : KeepsPlain d e
      second_plain =
          let h = half_there (device_of d).store.half open_is in
          plain_across (λ past first s. run_on s (second_same contents surely hears past (device_of d) s.away) run
          (λ y r. (second_beside s.is (λ m y q l h. h) a h.0 h.1 (replied r)).beside))

      pub second_sound : StaysSound d e
      second_sound = sound_by second_plain

      pub second_stays_plain : StaysPlain d e
      second_stays_plain = plain_by second_plain

      pub second_excused : StaysExcused d e
      second_excused =
          let h = half_there (device_of d).store.half open_is in
          excused_by (whole_across (λ past first s. run_on s (second_same contents surely hears past (device_of d) s.away) run
          (λ y r. second_stands s.is (λ m y q l h. h) a h.0 h.1 (replied r))))

    -- A loss, a reset, a loss of power

    module _ (loss : Loss) {hears : Hearing Image L} (run : Ran surely hears (lose contents (device_of d) loss) u (device_of e) tt z) where
      lose_plain : KeepsPlain d e
      lose_plain =
          plain_across (λ past first s. run_on s (lose_same contents surely hears past (device_of d) loss s.away) run
          (λ y r. (loss_beside s.is (λ m y q l h. h) loss tt (replied r)).beside))

      lose_whole : KeepsWhole d e
      lose_whole =
          whole_across (λ past first s. run_on s (lose_same contents surely hears past (device_of d) loss s.away) run
          (λ y r. loss_stands s.is (λ m y q l h. h) loss tt (replied r)))

      pub lose_sound : StaysSound d e
      lose_sound = sound_by lose_plain

      pub lose_stays_plain : StaysPlain d e
      lose_stays_plain = plain_by lose_plain

      pub lose_excused : StaysExcused d e
      lose_excused = excused_by lose_whole

    module _ (path : ℕ) (least : 1 ≤ path) (most : path ≤ 4) {hears : Hearing Image L} (run : Ran surely hears (reset contents (device_of d) path) u (device_of e) tt z) where
      reset_plain : KeepsPlain d e
      reset_plain =
          plain_across (λ past first s. run_on s (reset_same contents surely hears past (device_of d) path least most s.away) run
          (λ y r. (reset_beside s.is (λ m y q l h. h) path tt (replied r)).beside))

      reset_whole : KeepsWhole d e
      reset_whole =
          whole_across (λ past first s. run_on s (reset_same contents surely hears past (device_of d) path least most s.away) run
          (λ y r. reset_stands s.is (λ m y q l h. h) path tt (replied r)))

      pub reset_sound : StaysSound d e
      reset_sound = sound_by reset_plain

      pub reset_stays_plain : StaysPlain d e
      reset_stays_plain = plain_by reset_plain

      pub reset_excused : StaysExcused d e
      reset_excused = excused_by reset_whole

    module _ {hears : Hearing Image L} (run : Ran surely hears (power contents (device_of d)) u (device_of e) tt z) where
      power_plain : KeepsPlain d e
      power_plain =
          plain_across (λ past first s. run_on s (power_same contents surely hears past (device_of d) s.away) run
          (λ y r. (power_beside s.is (λ m y q l h. h) tt (replied r)).beside))

      power_whole : KeepsWhole d e
      power_whole =
          whole_across (λ past first s. run_on s (power_same contents surely hears past (device_of d) s.away) run
          (λ y r. power_stands s.is (λ m y q l h. h) tt (replied r)))

      pub power_sound : StaysSound d e
      power_sound = sound_by power_plain

      pub power_stays_plain : StaysPlain d e
      power_stays_plain = plain_by power_plain

      pub power_excused : StaysExcused d e
      power_excused = excused_by power_whole

    -- A look

    module _ (t : ℕ) (lt : t < d.store.cylinders * 15) (may : is_written_at (device_of d).store.half t ≡ false)
        {hears : Hearing Image L} where
      peek_goes : {had : Bool → Type 0} {a : Option defs.Peeked} → Ran had hears (peek contents (device_of d) t) u (device_of e) a z →
          KeepsPlain d e
      peek_goes {had = had} run =
          plain_across (λ past first s. run_on s (peek_same contents had hears past (device_of d) t s.away) run (λ y r. (peek_beside s.is t lt may r).beside))

      pub peek_sound : {had : Bool → Type 0} {a : Option defs.Peeked} → Ran had hears (peek contents (device_of d) t) u (device_of e) a z → StaysSound d e
      peek_sound run = sound_by (peek_goes run)

      pub peek_stays_plain : {had : Bool → Type 0} {a : Option defs.Peeked} → Ran had hears (peek contents (device_of d) t) u (device_of e) a z → StaysPlain d e
      peek_stays_plain run = plain_by (peek_goes run)

      -- also where memory was lacking
      pub peek_excused : {had : Bool → Type 0} {a : Option defs.Peeked} → Ran had hears (peek contents (device_of d) t) u (device_of e) a z →
          StaysExcused d e
      peek_excused run =
          let o = look_had contents (device_of d) t run in
          excused_by (whole_across (λ past first s. run_on s (peek_same contents surely hears past (device_of d) t s.away) o.1
          (λ y r. peek_stands s.is (λ m y q l h. h) o.0 t lt may (replied r))))

      pub peek_stays_same : {had : Bool → Type 0} {a : Option defs.Peeked} → Ran had hears (peek contents (device_of d) t) u (device_of e) a z → StaysSame d e
      peek_stays_same {had = had} run = record {
        again = peek_again (device_of d) t run;
        contents = λ past first s.
            let b = there s in
            whole_by b (peek_same contents had hears past (device_of d) t b.away) run (IsSameVolume past first)
            (λ y r. same_volume b.is (peek_beside b.is t lt may r));
      }

      pub peek_answers : (q : StoreOf) (r : Result Peeked NoMemory) →
          Ran (where_ok r) hears (peek contents (device_of d) t) u (device_of e) (had (peeked_by q t) r) z → (past : PutAway) (first : List Track) → StandsPlain past first d →
          IfOk r (λ p. FoundPlain (λ (_ : ℕ). first) (whole_of past d) t (Some (peeked_by q t p)))
      peek_answers q (Ok p) run past first s =
          let b = there s in
          let goes = peek_same contents (λ ok. ok ≡ true) hears past (device_of d) t b.away u z (device_of e) (Some (peeked_by q t p)) run in
          peek_finds b.is t lt may goes.ran
      peek_answers q (Err x) run past first s = tt

pub opened_is : (s : StoreOf) (paths : PathsState) (plans : Plans) (p : Past) (number : ℕ) (g : Geometry) (n : ℕ) → s ≡ opened_store number g n →
    paths ≡ fresh_paths → history_of p ≡ no_history → p.running ≡ None → device_by s paths plans p ≡ opened_device number g n plans
opened_is s paths plans p number g n store path history over =
    ap (λ (x : StoreOf). device_by x paths plans p) store
    ∙ ap (λ (x : PathsState). device_by (opened_store number g n) x plans p) path
    ∙ ap (λ (h : History). record {
      store = opened_store number g n;
      paths = fresh_paths;
      plans = plans;
      history = h;
      chain = option_map chain_of p.running;
    }) history
    ∙ ap (λ (r : Option Running). record {
      store = opened_store number g n;
      paths = fresh_paths;
      plans = plans;
      history = no_history;
      chain = option_map chain_of r;
    }) over

-- a new device on a volume that holds tracks
pub opened_promised : {V : Type 0} {G : Ghosts V} (d : Device V G) (number : ℕ) (g : Geometry) (n : ℕ) (plans : Plans) (v : V) →
    device_of d ≡ opened_device number g n plans → on_a d.store ≡ Some v → on_b d.store ≡ None → 1 ≤ n → GiveBytes plans →
    (first : List Track) → HoldsTracks g n first (G.view v) → IsPromised nothing_away first d
opened_promised {G = G} d number g n plans v is a b some gives first holds =
    let l = volume_contents first in
    let told_a : Tells (told_by d).a l = subst (λ (o : Option _). Tells (option_map G.view o) l) (sym a) holds.tells in
    let told_b : Tells (told_by d).b [] = subst (λ (o : Option _). Tells (option_map G.view o) []) (sym b) tt in
    let stands : StandsWhole nothing_away first d = subst (λ (x : DefinedDevice). SoWithPast (StandsOn (λ (_ : ℕ). first)) nothing_away x (told_by d)) (sym is)
    (record {
      away = nothing_put_away plans;
      is = first_stands (λ (_ : ℕ). first) number g n (whole_plans nothing_away plans) (told_by d) some holds.is told_a told_b (none_gives plans gives);
    }) in
    let whole = stands.is in
    record {
      stands = stands;
      sound = record {
        held = whole.beside.held;
        on_a = whole.beside.untold.a;
        on_b = whole.beside.untold.b;
        is = beside_sound (whole_of nothing_away d) (told_by d) whole.beside;
      };
      plain = beside_plain (whole_of nothing_away d) (told_by d) whole.beside;
      excused = λ failed cache. stands_excused (whole_of nothing_away d) (told_by d) whole failed cache;
    }

-- so does one that tells that its tracks are empty
pub empty_holds : (g : Geometry) (n : ℕ) (v : VolumeView (List ℕ)) → n ≤ 4369 → v.contents ≡ Some (empty_contents (n * 15)) →
    HoldsTracks g n (empty_volume n) v
empty_holds g n v most tells = record { is = volume_empty g n most; tells = tells ∙ ap (λ (l : List (List ℕ)). Some l) (empty_is_contents n) }

pub seen_there : {X : Type 0} (o : Option X) → IsSome o → (x : X) × (o ≡ Some x)
seen_there (Some x) is = (x, refl)
seen_there None is = absurd cc
