-- Each step of a run makes exactly the transfers of the rules.
use Rattle.std.proofs.Common.{◌≡◌, ◌==◌, ◌||◌, ℕ, Bool, true, false, List, [], ◌∷◌, map, Option, Some, None, is_some, refl, sym, ap, subst, arith}
use Rattle.std.specs.Prelude.{if◌then◌else◌}
use Rattle.ckd_chain.specs.State.{ChainState}
use Rattle.plain_defs.specs.History.{OpenEntry}
use Rattle.track_image.specs.Image.{Image}
use Rattle.device_outside.specs.Interaction.{Done}
use Rattle.device_outside.specs.Told as T
use Rattle.device_outside.specs.Told.{Told, RunOutcome, hold}
use Rattle.device_defs.specs.declared.answers.Stepped.{Stepped}
use Rattle.device_defs.specs.Command.{command}
use Rattle.device_defs.specs.Contents.{by_plain}
use Rattle.device_defs.specs.Device.{event_begun}
use Rattle.device_defs.specs.Events.{second, background}
use Rattle.device_defs.specs.Marks.{MarksDevice}
use Rattle.device_defs.specs.Owed.{hear}
use Rattle.device_laws.proofs.QuietParts.{quiet_done}
use Rattle.device_laws.specs.Moved.{second_writing, SecondTransfers}
use Rattle.device_laws.proofs.counted.Counting.{Counts, counts_done, counts_then, held_moved}
use Rattle.device_laws.proofs.counted.EventCounts.{second_counts}
use Rattle.subsystem_defs.specs.declared.end.EventEnd.{EventEnd}
use Rattle.subsystem_defs.specs.declared.end.EventEnd.TheVariants as ends
use Rattle.subsystem_defs.specs.declared.event.Event.TheVariants as events
use Rattle.subsystem_defs.specs.Deeds as E
use Rattle.subsystem_defs.specs.Deeds.{Ends, Asks, deed, device_in, on_device, seconds, step, back, ends_by, may_end_by, end_of}
use Rattle.subsystem_defs.specs.Happening as H
use Rattle.subsystem_defs.specs.Happening.{MarksDeed, Talk, told_to, told_end, with_outcome, held_with, asks, happens_by, happens, quietly}
use Rattle.subsystem_defs.specs.Lines.{is_busy}
use Rattle.subsystem_defs.specs.Subsystem.{Mounted, Subsystem, number_of, devices_of, mounted_in}
use Rattle.subsystem_laws.specs.Causes.{checks_of}
use Rattle.subsystem_laws.proofs.FoundDevices.{number_found}
use Rattle.move_laws.specs.Exactly.{
  Transfers,
  no_transfers,
  writes_alone,
  command_transfers,
  is_half_end,
  work_of,
  step_of,
  step_transfers,
  back_of,
  back_transfers,
  Makes,
}
use Rattle.move_laws.proofs.Holds.{Made, hold_then, made_past}
use Rattle.move_laws.proofs.Commands.{stepped_half, command_makes}
use Rattle.move_laws.proofs.Works.{background_does}

-- the device that is mounted is found

found_if : (b : Bool) (k m : Mounted) (o : Option MarksDevice) (p : Option Mounted) → (if b then Some k else p) ≡ Some m →
    (p ≡ Some m → o ≡ Some m.device) →
    (if b then Some k.device else o) ≡ Some m.device
found_if true k m o p at more = let same : k ≡ m = cc in ap (λ (x : Mounted). Some x.device) same
found_if false k m o p at more = more at

pub found : (ms : List Mounted) (n : ℕ) (m : Mounted) → mounted_in ms n ≡ Some m → device_in (map (λ (x : Mounted). x.device) ms) n ≡ Some m.device
found [] n m at = absurd (cc)
found (k ∷ ms) n m at =
    found_if (number_of k == n) k m (device_in (map (λ (x : Mounted). x.device) ms) n) (mounted_in ms n) at (found ms n m)

none_if : (b : Bool) (k : Mounted) (o : Option MarksDevice) (p : Option Mounted) → (if b then Some k else p) ≡ None → (p ≡ None → o ≡ None) →
    (if b then Some k.device else o) ≡ None
none_if true k o p at more = absurd (cc)
none_if false k o p at more = more at

none_found : (ms : List Mounted) (n : ℕ) → mounted_in ms n ≡ None → device_in (map (λ (x : Mounted). x.device) ms) n ≡ None
none_found [] n at = refl
none_found (k ∷ ms) n at =
    none_if (number_of k == n) k (device_in (map (λ (x : Mounted). x.device) ms) n) (mounted_in ms n) at (none_found ms n)

-- without a program none is made
none_runs : (d : MarksDevice) (w : Told) (half : Bool) (entry : Option OpenEntry) (chain : Option ChainState) → is_some entry ≡ false →
    command_transfers d w half entry chain ≡ no_transfers
none_runs d w half (Some entry) chain is = absurd (cc)
none_runs d w half None chain is = refl

end_half : (a : Option Stepped) → stepped_half a ≡ is_half_end (told_end (end_of ends.Stepped a))
end_half (Some x) = refl
end_half None = refl

module _ (s : Subsystem) (n : ℕ) (m : Mounted) where
  -- A command

  abbrev Command : EventEnd → Transfers
  Command end = command_transfers m.device (told_to s.pool m) (is_half_end end) m.device.history.running m.device.chain

  abbrev Exact : RunOutcome MarksDevice (Option EventEnd) → Type 0
  Exact o = Makes (Command (told_end o.answer)) (with_outcome s n o)

  from_none : (x : Transfers) (w z : Told) → w.reads ≡ 0 → w.writes ≡ 0 → Made x.reads x.writes w z → (z.reads ≡ x.reads) × (z.writes ≡ x.writes)
  from_none x w z a b k = let e = k.reads in let f = k.writes in (omega (arith, a, e), omega (arith, b, f))

  done_exact : (o : RunOutcome MarksDevice (Option Stepped)) →
      ((half : Bool) → stepped_half o.answer ≡ half →
      (o.told.reads ≡ (command_transfers m.device (told_to s.pool m) half m.device.history.running m.device.chain).reads)
      × (o.told.writes ≡ (command_transfers m.device (told_to s.pool m) half m.device.history.running m.device.chain).writes)) →
      Exact (hold {I = Image} true (Done o.state (end_of ends.Stepped o.answer)) o.told)
  unfolding T.hold
  done_exact o f =
      let k = f (is_half_end (told_end (end_of ends.Stepped o.answer))) (end_half o.answer) in record { reads = k.0; writes = k.1 }

  command_exact : Exact (held_with s.pool m (may_end_by ends.Stepped (command by_plain m.device)))
  command_exact =
      let w = told_to s.pool m in
      let talk = command by_plain m.device in
      let o = hold true talk w in
      subst Exact (sym (hold_then true talk (λ d a. Done d (end_of ends.Stepped a)) w))
      (done_exact o (λ half is.
      from_none (command_transfers m.device w half m.device.history.running m.device.chain) w o.told refl refl
      ((command_makes half (checks_of m.device) m.device w refl).made is)))

  -- The second part of a write

  second_end : Counts (λ r w z (a : Option EventEnd). SecondTransfers (second_writing m.device.store) r w) 0 0
      (ends_by ends.Second (second by_plain m.device))
  second_end = counts_then (λ z a. Done z (Some (ends.Second a))) (second_counts by_plain m.device) (λ r w z a k. counts_done k)

  second_exact : Makes (writes_alone (second_writing m.device.store))
      (with_outcome s n (held_with s.pool m (ends_by ends.Second (second by_plain m.device))))
  second_exact = let k = held_moved true second_end (told_to s.pool m) refl refl in record { reads = k.0; writes = k.1 }

  -- Work in the background

  back_exact : Makes (work_of (hold true (hear by_plain 960 (event_begun m.device).store) (told_to s.pool m)))
      (with_outcome s n (held_with s.pool m (may_end_by ends.Back (background by_plain m.device))))
  back_exact =
      let w = told_to s.pool m in
      let x = work_of (hold true (hear by_plain 960 (event_begun m.device).store) w) in
      let talk = background by_plain m.device in
      let k = made_past true talk (λ d a. Done d (end_of ends.Back a)) w (background_does m.device w) (λ d a. quiet_done) in
      let e = from_none x w (hold true (may_end_by ends.Back talk) w).told refl refl k in
      record { reads = e.0; writes = e.1 }

  -- An event of this device

  module _ (at : mounted_in s.mounted n ≡ Some m) where
    own : m.device.store.device ≡ n
    own = number_found s.mounted n m.device (found s.mounted n m at)

    abbrev Asked : (EventEnd → Transfers) → Talk (Option EventEnd) → ℕ → Option Mounted → Type 0
    Asked x talk k o = Makes (x (asks s k o talk).end) (asks s k o talk)

    asks_exact : (x : EventEnd → Transfers) (talk : Talk (Option EventEnd)) (k : ℕ) → k ≡ n → Asked x talk n (Some m) →
        Asked x talk k (mounted_in s.mounted k)
    asks_exact x talk k is h =
        subst (λ (j : ℕ). Asked x talk j (mounted_in s.mounted j)) (sym is) (subst (λ (o : Option Mounted). Asked x talk n o) (sym at) h)

    abbrev Runs : Bool → MarksDeed
    Runs b = if b then Asks m.device (may_end_by ends.Stepped (command by_plain m.device)) else Ends ends.Idle

    runs_exact : (b : Bool) → is_some m.device.history.running ≡ b → Makes (Command (happens_by s (Runs b)).end) (happens_by s (Runs b))
    runs_exact true is = asks_exact Command (may_end_by ends.Stepped (command by_plain m.device)) m.device.store.device own command_exact
    runs_exact false is =
        subst (λ (x : Transfers). Makes x (quietly s s ends.Idle))
        (sym (none_runs m.device (told_to s.pool m) false m.device.history.running m.device.chain is)) (record { reads = refl; writes = refl })

    abbrev Steps : Bool → MarksDeed
    Steps b = if b then seconds by_plain m.device else Runs (is_some m.device.history.running)

    steps_exact : (b : Bool) →
        Makes (if b then writes_alone (second_writing m.device.store) else Command (happens_by s (Steps b)).end) (happens_by s (Steps b))
    steps_exact true =
        asks_exact (λ end. writes_alone (second_writing m.device.store)) (ends_by ends.Second (second by_plain m.device)) m.device.store.device own
        second_exact
    steps_exact false = runs_exact (is_some m.device.history.running) refl

    abbrev Backs : Bool → MarksDeed
    Backs b = if b then seconds by_plain m.device else Asks m.device (may_end_by ends.Back (background by_plain m.device))

    backs_exact : (b : Bool) →
        Makes (if b then writes_alone (second_writing m.device.store)
        else work_of (hold true (hear by_plain 960 (event_begun m.device).store) (told_to s.pool m))) (happens_by s (Backs b))
    backs_exact true =
        asks_exact (λ end. writes_alone (second_writing m.device.store)) (ends_by ends.Second (second by_plain m.device)) m.device.store.device own
        second_exact
    backs_exact false =
        asks_exact (λ end. work_of (hold true (hear by_plain 960 (event_begun m.device).store) (told_to s.pool m)))
        (may_end_by ends.Back (background by_plain m.device)) m.device.store.device own back_exact

-- Any step, and any work in the background

module _ (s : Subsystem) (n : ℕ) where
  step_at : (o : Option Mounted) → mounted_in s.mounted n ≡ o → (p : Option MarksDevice) → device_in (devices_of s) n ≡ p →
      Makes (step_of s.pool (happens_by s (on_device p (step by_plain))).end o) (happens_by s (on_device p (step by_plain)))
  step_at (Some m) at (Some d) there =
      let same : d ≡ m.device = let e = found s.mounted n m at in cc in
      subst (λ (y : MarksDevice). Makes (step_of s.pool (happens_by s (step by_plain y)).end (Some m)) (happens_by s (step by_plain y))) (sym same)
      (steps_exact s n m at (is_some m.device.store.half))
  step_at (Some m) at None there = absurd (let e = found s.mounted n m at in cc)
  step_at None at (Some d) there = absurd (let e = none_found s.mounted n at in cc)
  step_at None at None there = record { reads = refl; writes = refl }

  pub step_exact : Makes (step_transfers s n (happens s (events.Step n)).end) (happens s (events.Step n))
  unfolding H.happens E.deed
  step_exact = step_at (mounted_in s.mounted n) refl (device_in (devices_of s) n) refl

  back_at : (o : Option Mounted) → mounted_in s.mounted n ≡ o → (p : Option MarksDevice) → device_in (devices_of s) n ≡ p →
      Makes (back_of s.pool o) (happens_by s (on_device p (back by_plain)))
  back_at (Some m) at (Some d) there =
      let same : d ≡ m.device = let e = found s.mounted n m at in cc in
      subst (λ (y : MarksDevice). Makes (back_of s.pool (Some m)) (happens_by s (back by_plain y))) (sym same)
      (backs_exact s n m at (is_some m.device.store.half))
  back_at (Some m) at None there = absurd (let e = found s.mounted n m at in cc)
  back_at None at (Some d) there = absurd (let e = none_found s.mounted n at in cc)
  back_at None at None there = record { reads = refl; writes = refl }

  pub background_exact : Makes (back_transfers s n) (happens s (events.Back n))
  unfolding H.happens E.deed
  background_exact = back_at (mounted_in s.mounted n) refl (device_in (devices_of s) n) refl

-- a device that isn't busy makes none
pub idle_makes : (s : Subsystem) (n : ℕ) (end : EventEnd) → is_busy (mounted_in s.mounted n) ≡ false → step_transfers s n end ≡ no_transfers
idle_makes s n end idle = by_mounted (mounted_in s.mounted n) idle
  where
    by_half : (m : Mounted) (b : Bool) → (b || is_some m.device.history.running) ≡ false →
        (if b then writes_alone (second_writing m.device.store)
        else command_transfers m.device (told_to s.pool m) (is_half_end end) m.device.history.running m.device.chain) ≡ no_transfers
    by_half m true is = absurd (cc)
    by_half m false is = none_runs m.device (told_to s.pool m) (is_half_end end) m.device.history.running m.device.chain is

    by_mounted : (o : Option Mounted) → is_busy o ≡ false → step_of s.pool end o ≡ no_transfers
    by_mounted (Some m) is = by_half m (is_some m.device.store.half) is
    by_mounted None is = refl
