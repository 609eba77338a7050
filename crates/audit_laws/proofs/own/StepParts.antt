-- What a command, and the second part of a write, make of a device beside its history: it is the same device, with a half write or none.
use Rattle.std.proofs.Common.{◌≡◌, ℕ, Bool, List, Option, Some, None, refl, sym, ap, subst, ◌∙◌, arith, if◌then◌else◌}
use Rattle.ckd_chain.specs.declared.progress.Progress.{Progress}
use Rattle.ckd_chain.specs.Fed.{Fed}
use Rattle.ckd_chain.specs.State.{ChainState}
use Rattle.ckd_chain.specs.Steps.{need_of, stepped}
use Rattle.ckd_types.specs.declared.record.Track.{Track}
use Rattle.plain_defs.specs.History.{OpenEntry, plain_of}
use Rattle.plain_defs.specs.Legal.{AreActs}
use Rattle.plain_defs.specs.PlainState.{PlainState}
use Rattle.plain_device.specs.Acted.{settled_act}
use Rattle.track_image.specs.Image.{Image}
use Rattle.device_outside.specs.Interaction.{Interaction}
use Rattle.device_defs.specs.declared.answers.Came.{Came}
use Rattle.device_defs.specs.declared.answers.Came.TheVariants as came
use Rattle.device_defs.specs.declared.answers.SecondEnd.{SecondEnd}
use Rattle.device_defs.specs.declared.answers.SecondEnd.TheVariants as seconds
use Rattle.device_defs.specs.declared.answers.Stepped.{Stepped}
use Rattle.device_defs.specs.declared.answers.Stepped.TheVariants as steps
use Rattle.device_defs.specs.Command as N
use Rattle.device_defs.specs.Command.{answered_by, command, command_at, command_by, has_loss, on_tracks}
use Rattle.device_defs.specs.Contents.{by_plain}
use Rattle.device_defs.specs.Device.{all_acted, event, event_begun, with_store}
use Rattle.device_defs.specs.Events as V
use Rattle.device_defs.specs.Events.{command_ended, second, second_ended, second_of, second_turn}
use Rattle.device_defs.specs.Marks.{MarksDevice, MarksStore}
use Rattle.device_defs.specs.Outcomes.{Turn, turned}
use Rattle.device_defs.specs.Owed.{noted_begin, waiting_count}
use Rattle.device_defs.specs.Store as store
use Rattle.device_defs.specs.Store.{Origin, OfBackground, OfCommand, OfCut, tracks_of}
use Rattle.device_laws.proofs.Always.{Always}
use Rattle.device_laws.proofs.Based.{Any, Based, kept}
use Rattle.device_laws.proofs.BasedEvents.{base_in, command_based, second_based}
use Rattle.device_laws.proofs.Had.{Had, had_done, had_if, had_then, had_try, had_weaker}
use Rattle.device_laws.proofs.KeptEvents.{Continues, command_goes, second_goes}
use Rattle.device_laws.proofs.KeptHistories.{extends_itself}
use Rattle.device_laws.proofs.PlainCommand.{on, runs_on, walking_first}
use Rattle.device_laws.proofs.PlainEvents.{had_always, had_both}
use Rattle.device_laws.proofs.PlainLooks.{FollowSo, TurnIs, follow_so, from_itself}
use Rattle.device_laws.proofs.PlainSeconds.{SecondSo, holds_first, part_so}
use Rattle.device_laws.proofs.PlainStores.{Core, Open, Walks, core_of}
use Rattle.device_laws.proofs.PlainTurns.{Follows, Halfway, IsMid, IsMidOf, none_mid, some_none}
use Rattle.device_laws.proofs.PlainWalks.{ended_same, hear_same}
use Rattle.device_laws.proofs.walks.Events.{turned_same}
use Rattle.subsystem_defs.specs.Happening.{Talk}
use Rattle.subsystem_laws.proofs.LendBase.{IsStill, stays_still}
use Rattle.deck_audit.specs.declared.state.HalfWrite.{HalfWrite}
use Rattle.deck_audit.specs.declared.state.HalfWrite.TheVariants as half
use Rattle.audit_laws.specs.Standing.{half_by}
use Rattle.audit_laws.proofs.own.ResetDevices.{HasParts}

-- A device that is turned has the store that it had

abbrev pub half_after : Came → HalfWrite
half_after (came.Ends e) = half.Closed
half_after (came.Checks e) = half.Closed
half_after (came.HalfOpen t) = half.OfCommand

abbrev pub IsLeft : MarksDevice → MarksDevice → Option Stepped → Type 0
IsLeft x y (Some (steps.Ended e)) = HasParts x y half.Closed
IsLeft x y (Some (steps.Half t)) = HasParts x y half.OfCommand
IsLeft x y None = ⊥

-- the half write that it has
abbrev HasHalf : MarksDevice → HalfWrite → Type 0
HasHalf y h = half_by y.store.half ≡ h

abbrev HalfLeft : MarksDevice → Option Stepped → Type 0
HalfLeft y (Some (steps.Ended e)) = HasHalf y half.Closed
HalfLeft y (Some (steps.Half t)) = HasHalf y half.OfCommand
HalfLeft y None = ⊥

module _ (x : MarksDevice) where
  abbrev pub On : PlainState → Core → Type 0
  On p c = Walks p x.store.plain x.store.geometry x.store.cylinders (None, (x.store.lent, x.store.device)) c

  walked_half : (p : PlainState) (c : Core) → On p c → half_by c.half ≡ half.Closed
  walked_half p c w = ap (λ (k : Open). half_by k.0) w.rest

  -- all else of it stays
  abbrev pub Stays : {A : Type 0} → Talk A → Type 0
  Stays talk = Had talk (λ y _. IsStill (kept x.store) (base_in y) × (y.plans ≡ x.plans))

  pub stays_by : {A : Type 0} {talk : Talk A} → Based base_in Any (kept x.store) talk → Always talk (λ y _. Continues x.plans x.history y) → Stays talk
  stays_by based goes = had_weaker (had_both (had_always (stays_still based)) (had_always goes)) (λ y a k. (k.0, k.1.plans))

  pub begins : Continues x.plans x.history x
  begins = record { plans = refl; history = extends_itself x.history }

  pub parts_by : (y : MarksDevice) (h : HalfWrite) → IsStill (kept x.store) (base_in y) × (y.plans ≡ x.plans) → half_by y.store.half ≡ h → HasParts x y h
  parts_by y h k is = record { number = k.0.0; geometry = k.0.4; cylinders = k.0.1; plans = k.1; lent = k.0.2; half_is = is }

-- A command

module _ (num : ℕ) (empty : PlainState) (x : MarksDevice) (f : Follows num empty x) (o : OpenEntry) (running : x.history.running ≡ Some o) (chain : ChainState)
    (is : f.before ≡ Some chain) where
  module _ (now : x.chain ≡ Some chain) (whole : x.store.half ≡ None) (s : MarksStore) (e : core_of s ≡ core_of (noted_begin x.store)) where
    first_half : half_by s.half ≡ half.Closed
    first_half = walked_half x (plain_of x.plans empty x.history) (core_of s) (walking_first num empty x f o running chain is now whole s e)

    -- it looked at tracks
    turn_half : (first : ℕ) (k : List Track → Fed) (turn : Turn) (c : Core) →
        TurnIs (plain_of x.plans empty x.history) x.store.plain x.store.geometry x.store.cylinders (None, (x.store.lent, x.store.device))
        (settled_act chain.fixed.geometry x.paths o.path) chain (on num empty x f o running chain is).0 first k first turn c →
        half_by c.half ≡ half_after turn.came
    turn_half first k turn c x4 = grind (arith, walked_half)

    by_turn : (t : ℕ) (y : MarksStore) (a : Option Turn) →
        FollowSo (plain_of x.plans empty x.history) x.store.plain x.store.geometry x.store.cylinders (None, (x.store.lent, x.store.device))
        (settled_act chain.fixed.geometry x.paths o.path) chain (on num empty x f o running chain is).0 t (tracks_of s) chain t y a →
        Had (on_tracks by_plain (record (event_begun x) { store = s }) o.path chain y a) (λ z b. HalfLeft z b)
    by_turn t y a w = search (arith, had_done, turned_same, turn_half, core_of)

    -- or at none
    answered_left : (c : ChainState) (k : Progress) → Had (answered_by by_plain (record (event_begun x) { store = s }) o.path c k) (λ z b. HalfLeft z b)
    answered_left c k = search (arith, had_done, turned_same)

    by_need : (k : Option ℕ) → need_of chain ≡ k → Had (command_at by_plain (record (event_begun x) { store = s }) o.path chain k) (λ z b. HalfLeft z b)
    by_need (Some t) needs =
        had_then (follow_so (plain_of x.plans empty x.history) x.store.plain x.store.geometry x.store.cylinders (None, (x.store.lent, x.store.device))
        (settled_act chain.fixed.geometry x.paths o.path) chain (on num empty x f o running chain is).0 t (tracks_of s) chain t s (record {
          from = from_itself chain;
          needs = needs;
          above = omega arith;
        })
        (walking_first num empty x f o running chain is now whole s e)) (λ y a w. by_turn t y a w)
    by_need None needs = had_try (answered_left (stepped chain None).chain (stepped chain None).progress)

    command_by_left : Had (command_by by_plain (record (event_begun x) { store = s }) x.history.running x.chain) (λ z b. HalfLeft z b)
    command_by_left = search (arith, had_if, had_done, turned_same, first_half, by_need)

-- An event: its notes, its work, its end

module _ (x : MarksDevice) where
  half_ended : (y : MarksDevice) (a : Option Stepped) (z : MarksStore) → core_of z ≡ core_of y.store → HalfLeft y a → HalfLeft (record y { store = z }) a
  half_ended y a z is p = grind arith

  left_parts : (y : MarksDevice) (a : Option Stepped) → IsStill (kept x.store) (base_in y) × (y.plans ≡ x.plans) → HalfLeft y a → IsLeft x y a
  left_parts y a k p = grind (arith, parts_by)

  event_leaves : {A : Type 0} (q : MarksDevice → A → Type 0) →
      ((y : MarksDevice) (a : A) (z : MarksStore) → core_of z ≡ core_of y.store → q y a → q (record y { store = z }) a) →
      (body : MarksDevice → Interaction Bool Image MarksDevice A) →
      ((s : MarksStore) → core_of s ≡ core_of (noted_begin x.store) → Had (body (record (event_begun x) { store = s })) q) → Had (event by_plain x body) q
  event_leaves q stays body h =
      had_then {p = q} (had_then (hear_same 960 (noted_begin x.store)) (λ s _ e. h s e))
      (λ y a g. had_then (ended_same (waiting_count by_plain x.store) y.store) (λ z _ e. had_done (stays y a z e g)))

module _ (num : ℕ) (empty : PlainState) (x : MarksDevice) (f : Follows num empty x) where
  by_chain : (o : OpenEntry) → x.history.running ≡ Some o → x.store.half ≡ None → (k : Option ChainState) → f.before ≡ k →
      Had (command by_plain x) (λ y a. HalfLeft y a)
  unfolding N.command
  by_chain o running whole None is = search arith
  by_chain o running whole (Some chain) is =
      let now = none_mid (core_of x.store) x.store.half x.history.running f.before x.chain whole f.mid ∙ is in
      had_try (event_leaves x HalfLeft (half_ended x) (λ z. command_by by_plain z z.history.running z.chain)
      (λ s e. command_by_left num empty x f o running chain is now whole s e))

  -- a command of the running program
  pub command_left : (o : OpenEntry) → x.history.running ≡ Some o → x.store.half ≡ None → Had (command by_plain x) (λ y a. IsLeft x y a)
  command_left o running whole =
      had_weaker (had_both (by_chain o running whole f.before refl) (stays_by x (command_based by_plain x) (command_goes by_plain x.plans x.history x (begins x))))
      (λ y a k. left_parts x y a k.1 k.0)

-- The second part of a write

-- what is told of it: the command's end, or what the background says
abbrev pub IsToldBy : Origin → SecondEnd → Type 0
IsToldBy (OfCommand bypass e) (seconds.Ended end) = Unit {0}
IsToldBy (OfCommand bypass e) (seconds.Finished t) = ⊥
IsToldBy (OfCommand bypass e) (seconds.Unwritten t) = ⊥
IsToldBy (OfCut bypass) (seconds.Ended end) = ⊥
IsToldBy (OfCut bypass) (seconds.Finished t) = Unit {0}
IsToldBy (OfCut bypass) (seconds.Unwritten t) = Unit {0}
IsToldBy OfBackground (seconds.Ended end) = ⊥
IsToldBy OfBackground (seconds.Finished t) = Unit {0}
IsToldBy OfBackground (seconds.Unwritten t) = Unit {0}

pub record IsSecond (x y : MarksDevice) (origin : Origin) (a : SecondEnd) : Type 0 where
  pub parts : HasParts x y half.Closed
  pub told : IsToldBy origin a

abbrev HalfSecond : MarksDevice → Origin → SecondEnd → Type 0
HalfSecond y origin a = HasHalf y half.Closed × IsToldBy origin a

module _ (num : ℕ) (empty : PlainState) (x : MarksDevice) (f : Follows num empty x) where
  second_half : (t : ℕ) (origin : Origin) (z : MarksStore) (done : Bool) →
      SecondSo (plain_of x.plans empty x.history) x.store.plain x.store.geometry x.store.cylinders (x.store.lent, x.store.device) t origin z done →
      half_by z.half ≡ half.Closed
  second_half t origin z done k = grind (arith, walked_half, core_of)

  second_acts : (t : ℕ) (origin : Origin) (z : MarksStore) (done : Bool) →
      SecondSo (plain_of x.plans empty x.history) x.store.plain x.store.geometry x.store.cylinders (x.store.lent, x.store.device) t origin z done →
      AreActs (plain_of x.plans empty x.history) None z.acts
  second_acts t origin z done k = grind arith

  ended_second : (s z : MarksStore) (t : ℕ) (path : ℕ) (chain : ChainState) (bypass : Bool) (e : _) (done : Bool) → half_by z.half ≡ half.Closed →
      HalfSecond (turned (with_store (record (event_begun x) { store = s }) z) path (second_turn by_plain chain done)) (OfCommand bypass e)
      (V.second_told by_plain t (second_turn by_plain chain done).came)
  ended_second s z t path chain bypass e done is = grind (arith, turned_same)

  of_command : (s z : MarksStore) (t : ℕ) (bypass : Bool) (edit : _) (done : Bool) → Halfway (core_of x.store) t edit x.history.running f.before x.chain →
      half_by z.half ≡ half.Closed → AreActs (plain_of x.plans empty x.history) None z.acts → (o : OpenEntry) → x.history.running ≡ Some o →
      Had (command_ended by_plain (with_store (record (event_begun x) { store = s }) z) t (all_acted x.history z.acts).running x.chain done)
      (λ y a. HalfSecond y (OfCommand bypass edit) a)
  of_command s z t bypass edit done mid stored are o running =
      let r = runs_on num empty x f o running mid.origin mid.begins z.acts are in
      rw r.running (subst (λ (k : Option ChainState). Had (command_ended by_plain (with_store (record (event_begun x) { store = s }) z) t
      (Some r.entry) k done) (λ y a. HalfSecond y (OfCommand bypass edit) a)) (sym mid.is) (had_done
      (ended_second s z t r.entry.path mid.chain bypass edit done stored)))

  by_program : (s z : MarksStore) (t : ℕ) (bypass : Bool) (edit : _) (done : Bool) → Halfway (core_of x.store) t edit x.history.running f.before x.chain →
      half_by z.half ≡ half.Closed → AreActs (plain_of x.plans empty x.history) None z.acts → (r : Option OpenEntry) → x.history.running ≡ r →
      Had (command_ended by_plain (with_store (record (event_begun x) { store = s }) z) t (all_acted x.history z.acts).running x.chain done)
      (λ y a. HalfSecond y (OfCommand bypass edit) a)
  by_program s z t bypass edit done mid stored are (Some o) running = of_command s z t bypass edit done mid stored are o running
  by_program s z t bypass edit done mid stored are None none = absurd (some_none x.history.running mid.runs none)

  unwritten_or : (s z : MarksStore) (t : ℕ) (origin : Origin) (done : Bool) → IsToldBy origin (seconds.Finished t) → IsToldBy origin (seconds.Unwritten t) →
      half_by z.half ≡ half.Closed →
      HalfSecond (with_store (record (event_begun x) { store = s }) z) origin (if done then seconds.Finished t else seconds.Unwritten t)
  unwritten_or s z t origin done said other stored = grind arith

  by_origin : (s z : MarksStore) (t : ℕ) (origin : Origin) (done : Bool) → IsMidOf (core_of x.store) t origin x.history.running f.before x.chain →
      half_by z.half ≡ half.Closed → AreActs (plain_of x.plans empty x.history) None z.acts →
      Had (second_ended by_plain (with_store (record (event_begun x) { store = s }) z) t origin done) (λ y a. HalfSecond y origin a)
  by_origin s z t (OfCommand bypass e) done mid stored are = by_program s z t bypass e done mid stored are x.history.running refl
  by_origin s z t origin done mid stored are = had_done (unwritten_or s z t origin done tt tt stored)

  halves_second : (h : store.HalfWrite (Unit {0})) → x.store.half ≡ Some h → Had (second by_plain x) (λ y a. HalfSecond y h.origin a)
  unfolding V.second
  halves_second h there =
      let mid = subst (λ (k : Option (store.HalfWrite (Unit {0}))). IsMid (core_of x.store) k x.history.running f.before x.chain) there f.mid in
      event_leaves x (λ y a. HalfSecond y h.origin a) (λ y a z is q. (ap (λ (c : Core). half_by c.half) is ∙ q.0, q.1))
      (λ z. second_of by_plain z z.store.half)
      (λ s e. subst (λ (k : Option (store.HalfWrite (Unit {0}))). Had (second_of by_plain (record (event_begun x) { store = s }) k)
      (λ y a. HalfSecond y h.origin a))
      (sym (ap (λ (c : Core). c.half) e ∙ there))
      (had_then (part_so (plain_of x.plans empty x.history) x.store.plain x.store.geometry x.store.cylinders (x.store.lent, x.store.device) s h x.store.half
      (holds_first num empty x f h.track h.origin mid s e))
      (λ z done k. by_origin s z h.track h.origin done mid (second_half h.track h.origin z done k) (second_acts h.track h.origin z done k))))

  pub second_left : (h : store.HalfWrite (Unit {0})) → x.store.half ≡ Some h → Had (second by_plain x) (λ y a. IsSecond x y h.origin a)
  second_left h there =
      had_weaker (had_both (halves_second h there) (stays_by x (second_based by_plain x) (second_goes by_plain x.plans x.history x (begins x))))
      (λ y a k. record { parts = parts_by x y half.Closed k.1 k.0.0; told = k.0.1 })
