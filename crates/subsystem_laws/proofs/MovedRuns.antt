-- Each event of a run makes the reads and writes of the table of events.
use Rattle.std.proofs.Common.{◌≡◌, ◌==◌, ℕ, Bool, true, false, not, List, [], ◌∷◌, map, Option, Some, None, is_some, refl, sym, ap, subst, ◌∙◌, inl, inr}
use Rattle.std.specs.Prelude.{All, ⊤, if◌then◌else◌}
use Rattle.ckd_types.specs.declared.paths.Side.{Side}
use Rattle.deck_text.specs.DeckLines.{DeckLines}
use Rattle.loss_model.specs.declared.Loss.TheVariants as losses
use Rattle.track_image.specs.Image.{Image}
use Rattle.plain_defs.specs.History.{is_path_of}
use Rattle.device_outside.specs.Interaction.{Done}
use Rattle.device_outside.specs.Pool.{all_waiting}
use Rattle.device_defs.specs.declared.answers.Did.{Did}
use Rattle.device_defs.specs.declared.answers.StartFault.{StartFault}
use Rattle.device_defs.specs.Command.{command}
use Rattle.device_defs.specs.Contents.{by_plain}
use Rattle.device_defs.specs.Cutting.{reset}
use Rattle.device_defs.specs.Events.{second, background, lose}
use Rattle.device_defs.specs.Marks.{MarksDevice}
use Rattle.device_defs.specs.Start.{start_fault}
use Rattle.device_defs.specs.Store.{tracks_of}
use Rattle.subsystem_defs.specs.declared.end.EventEnd.{EventEnd}
use Rattle.subsystem_defs.specs.declared.end.EventEnd.TheVariants as ends
use Rattle.subsystem_defs.specs.declared.end.OrderFault.{OrderFault}
use Rattle.subsystem_defs.specs.declared.event.Event.{Event}
use Rattle.subsystem_defs.specs.declared.event.Event.TheVariants as events
use Rattle.subsystem_defs.specs.Decks as D
use Rattle.subsystem_defs.specs.Decks.{Firsts, opened_on, run_on}
use Rattle.subsystem_defs.specs.Deeds as E
use Rattle.subsystem_defs.specs.Deeds.{
  Ends,
  Asks,
  deed,
  device_in,
  on_device,
  order,
  starts,
  start_by,
  step,
  back,
  ends_by,
  may_end_by,
  ends_done,
  end_of,
}
use Rattle.subsystem_defs.specs.Happening as H
use Rattle.subsystem_defs.specs.Happening.{
  EventHappened,
  MarksDeed,
  Talk,
  told_to,
  told_end,
  asks,
  happens_by,
  happens,
  quietly,
  replaced_by,
  replaced_at,
  replaced,
  unpaired_by,
  unpaired_at,
  unpaired,
}
use Rattle.subsystem_defs.specs.Lines.{asked_by}
use Rattle.subsystem_defs.specs.Refusals.{fail_fault, pair_fault, replace_fault, suspend_fault, resume_fault, unpair_fault}
use Rattle.subsystem_defs.specs.Subsystem.{Mounted, Subsystem, number_of, devices_of, mounted_in, unfailing}
use Rattle.device_laws.specs.Moved.{sides_up, sides_writing, second_writing, NoTransfers, CommandTransfers, SecondTransfers, WorkTransfers}
use Rattle.device_laws.proofs.counted.Counting.{Counts, counts_done, counts_then, held_moved}
use Rattle.device_laws.proofs.counted.EventCounts.{command_counts, second_counts, background_counts, lose_counts, reset_counts}
use Rattle.subsystem_laws.specs.Transfers.{did_of, RunningTransfers, StepBy, StepTransfers, BackBy, BackTransfers, EventTransfers, RunTransfers, MovesByTable}
use Rattle.subsystem_laws.proofs.FoundDevices.{number_found}
use Rattle.subsystem_laws.proofs.RunLines.{AnyEvent, Goes, run_shows}
use Rattle.subsystem_laws.proofs.RunLinks.{event_from}

-- a device that is found is mounted

there_if : (b : Bool) (k : Mounted) (o : Option MarksDevice) (d : MarksDevice) (p : Option Mounted) → (o ≡ Some d → p ≡ None → ⊥) →
    (if b then Some k.device else o) ≡ Some d → (if b then Some k else p) ≡ None → ⊥
there_if true k o d p more at none = cc
there_if false k o d p more at none = more at none

pub is_there : (ms : List Mounted) (n : ℕ) (d : MarksDevice) → device_in (map (λ (m : Mounted). m.device) ms) n ≡ Some d → mounted_in ms n ≡ None → ⊥
is_there [] n d at none = cc
is_there (k ∷ ms) n d at none =
    there_if (number_of k == n) k (device_in (map (λ (m : Mounted). m.device) ms) n) d (mounted_in ms n) (is_there ms n d) at none

module _ (s : Subsystem) where
  -- the end, the reads and the writes of a deed
  abbrev Shows : (EventEnd → ℕ → ℕ → Type 0) → MarksDeed → Type 0
  Shows q x = q (happens_by s x).end (happens_by s x).reads (happens_by s x).writes

  -- a record round it, so that the deed can be inferred
  record Still (x : MarksDeed) : Type 0 where
    is : NoTransfers (happens_by s x).reads (happens_by s x).writes

  -- A device's own event

  asks_so : (q : EventEnd → ℕ → ℕ → Type 0) (d : MarksDevice) (talk : Talk (Option EventEnd))
      → Counts (λ r w z (a : Option EventEnd). q (told_end a) r w) 0 0 talk →
      (o : Option Mounted) → (o ≡ None → ⊥) →
      q (asks s d.store.device o talk).end (asks s d.store.device o talk).reads (asks s d.store.device o talk).writes
  asks_so q d talk x None none = absurd (none refl)
  asks_so q d talk x (Some m) none = held_moved true x (told_to s.pool m) refl refl

  own_so : (q : EventEnd → ℕ → ℕ → Type 0) (n : ℕ) (d : MarksDevice) → device_in (devices_of s) n ≡ Some d → (talk : Talk (Option EventEnd)) →
      Counts (λ r w z (a : Option EventEnd). q (told_end a) r w) 0 0 talk → Shows q (Asks d talk)
  own_so q n d at talk x =
      asks_so q d talk x (mounted_in s.mounted d.store.device)
      (λ none. is_there s.mounted n d at (ap (mounted_in s.mounted) (sym (number_found s.mounted n d at)) ∙ none))

  still_own : (n : ℕ) (d : MarksDevice) → device_in (devices_of s) n ≡ Some d → (talk : Talk (Unit {0})) →
      Counts (λ r w z (a : Unit {0}). NoTransfers r w) 0 0 talk → Still (Asks d (ends_by ends_done talk))
  still_own n d at talk x = record {
    is = own_so (λ end r w. NoTransfers r w) n d at (ends_by ends_done talk) (counts_then (λ z a. Done z (Some (ends_done a))) x (λ r w z a k. counts_done k));
  }

  -- Deeds without a call

  still_found : (n : ℕ) (o : Option MarksDevice) → device_in (devices_of s) n ≡ o → (f : MarksDevice → MarksDeed) →
      ((d : MarksDevice) → device_in (devices_of s) n ≡ Some d → Still (f d)) → Still (on_device o f)
  still_found n None at f h = record { is = (refl, refl) }
  still_found n (Some d) at f h = h d at

  still_at : (n : ℕ) (f : MarksDevice → MarksDeed) → ((d : MarksDevice) → device_in (devices_of s) n ≡ Some d → Still (f d)) →
      Still (on_device (device_in (devices_of s) n) f)
  still_at n f h = still_found n (device_in (devices_of s) n) refl f h

  still_if : (b : Bool) {x y : MarksDeed} → Still x → Still y → Still (if b then x else y)
  still_if true f g = f
  still_if false f g = g

  still_order : (o : Option OrderFault) {x : MarksDeed} → Still x → Still (order o x)
  still_order (Some fault) h = record { is = (refl, refl) }
  still_order None h = h

  still_start : (d : MarksDevice) (path : ℕ) (o : Option StartFault) → Still (start_by d path o)
  still_start d path (Some fault) = record { is = (refl, refl) }
  still_start d path None = record { is = (refl, refl) }

  quiet : (x : MarksDeed) → NoTransfers (happens_by s x).reads (happens_by s x).writes → Still x
  quiet x h = record { is = h }

  -- A step and work in the background

  second_end : (d : MarksDevice) → Counts (λ r w z (a : Option EventEnd). SecondTransfers (second_writing d.store) r w) 0 0
      (ends_by ends.Second (second by_plain d))
  second_end d = counts_then (λ z a. Done z (Some (ends.Second a))) (second_counts by_plain d) (λ r w z a k. counts_done k)

  command_end : (d : MarksDevice) → Counts (λ r w z (a : Option EventEnd). CommandTransfers (tracks_of d.store) (sides_up d.store) r w) 0 0
      (may_end_by ends.Stepped (command by_plain d))
  command_end d = counts_then (λ z a. Done z (end_of ends.Stepped a)) (command_counts by_plain d) (λ r w z a k. counts_done k)

  back_end : (d : MarksDevice) →
      Counts (λ r w z (a : Option EventEnd). WorkTransfers (sides_up d.store) (sides_writing d.store) (did_of (told_end a)) r w) 0 0
      (may_end_by ends.Back (background by_plain d))
  back_end d = counts_then (λ z a. Done z (end_of ends.Back a)) (background_counts by_plain d) (λ r w z a k. by_did r w z a k)
    where
      by_did : (r w : ℕ) (z : MarksDevice) (a : Option Did) → WorkTransfers (sides_up d.store) (sides_writing d.store) a r w →
          Counts {R = Bool} {I = Image} (λ r w z (a : Option EventEnd). WorkTransfers (sides_up d.store) (sides_writing d.store) (did_of (told_end a)) r w) r w
          (Done z (end_of ends.Back a))
      by_did r w z (Some did) k = counts_done k
      by_did r w z None k = counts_done k

  running_so : (n : ℕ) (d : MarksDevice) → device_in (devices_of s) n ≡ Some d → (b : Bool) →
      Shows (λ end r w. RunningTransfers d b r w) (if b then Asks d (may_end_by ends.Stepped (command by_plain d)) else Ends ends.Idle)
  running_so n d at true =
      own_so (λ end r w. CommandTransfers (tracks_of d.store) (sides_up d.store) r w) n d at (may_end_by ends.Stepped (command by_plain d)) (command_end d)
  running_so n d at false = (refl, refl)

  stepped_so : (n : ℕ) (d : MarksDevice) → device_in (devices_of s) n ≡ Some d → (b : Bool) →
      Shows (λ end r w. StepBy d b r w) (if b then E.seconds by_plain d
      else if is_some d.history.running then Asks d (may_end_by ends.Stepped (command by_plain d)) else Ends ends.Idle)
  stepped_so n d at true =
      own_so (λ end r w. SecondTransfers (second_writing d.store) r w) n d at (ends_by ends.Second (second by_plain d)) (second_end d)
  stepped_so n d at false = running_so n d at (is_some d.history.running)

  step_so : (n : ℕ) (o : Option MarksDevice) → device_in (devices_of s) n ≡ o → Shows (λ end r w. StepTransfers o r w) (on_device o (step by_plain))
  step_so n None at = (refl, refl)
  step_so n (Some d) at = stepped_so n d at (is_some d.store.half)

  backed_so : (n : ℕ) (d : MarksDevice) → device_in (devices_of s) n ≡ Some d → (b : Bool) →
      Shows (λ end r w. BackBy d b end r w) (if b then E.seconds by_plain d else Asks d (may_end_by ends.Back (background by_plain d)))
  backed_so n d at true =
      own_so (λ end r w. SecondTransfers (second_writing d.store) r w) n d at (ends_by ends.Second (second by_plain d)) (second_end d)
  backed_so n d at false =
      own_so (λ end r w. WorkTransfers (sides_up d.store) (sides_writing d.store) (did_of end) r w) n d at (may_end_by ends.Back (background by_plain d))
      (back_end d)

  back_so : (n : ℕ) (o : Option MarksDevice) → device_in (devices_of s) n ≡ o → Shows (λ end r w. BackTransfers o end r w) (on_device o (back by_plain))
  back_so n None at = (refl, refl)
  back_so n (Some d) at = backed_so n d at (is_some d.store.half)

  step_happens : (d : ℕ) → StepTransfers (device_in (devices_of s) d) (happens s (events.Step d)).reads (happens s (events.Step d)).writes
  unfolding H.happens E.deed
  step_happens d = step_so d (device_in (devices_of s) d) refl

  back_happens : (d : ℕ) →
      BackTransfers (device_in (devices_of s) d) (happens s (events.Back d)).end (happens s (events.Back d)).reads (happens s (events.Back d)).writes
  unfolding H.happens E.deed
  back_happens d = back_so d (device_in (devices_of s) d) refl

  -- All events

  event_moves : (e : Event) → EventTransfers e s (happens s e).end (happens s e).reads (happens s e).writes
  unfolding H.happens E.deed
  event_moves (events.Start path d) =
      (still_at d (starts path) (λ x at. still_if (is_path_of x.history.running path) (quiet _ (refl, refl)) (still_start x path (start_fault x path)))).is
  event_moves (events.Step d) = step_happens d
  event_moves (events.Back d) = back_happens d
  event_moves (events.Reset path d) =
      (still_at d (λ x. Asks x (ends_by ends_done (reset by_plain x path)))
      (λ x at. still_own d x at (reset by_plain x path) (reset_counts by_plain x path))).is
  event_moves events.FailCache = (still_if (not s.pool.cache_up) (quiet _ (refl, refl)) (quiet _ (refl, refl))).is
  event_moves events.FailStore = (still_if (not s.pool.store_up) (quiet _ (refl, refl)) (quiet _ (refl, refl))).is
  event_moves (events.FailVolume d side) =
      (still_at d (λ x. order (fail_fault x side) (Asks x (ends_by ends_done (lose by_plain x (losses.Side side)))))
      (λ x at. still_order (fail_fault x side) (still_own d x at (lose by_plain x (losses.Side side)) (lose_counts by_plain x (losses.Side side))))).is
  event_moves events.RepairCache =
      (still_if s.pool.cache_up (quiet _ (refl, refl)) (still_if (all_waiting s.pool == 0) (quiet _ (refl, refl)) (quiet _ (refl, refl)))).is
  event_moves events.RepairStore =
      (still_if s.pool.store_up (quiet _ (refl, refl)) (still_if (all_waiting s.pool == 0) (quiet _ (refl, refl)) (quiet _ (refl, refl)))).is
  event_moves (events.Pair a b) =
      (still_at a (λ x. on_device (device_in (devices_of s) b) (λ y. order (pair_fault x y) (E.Lends x y)))
      (λ x at. still_at b (λ y. order (pair_fault x y) (E.Lends x y)) (λ y there. still_order (pair_fault x y) (quiet _ (refl, refl))))).is
  event_moves (events.Suspend a) = (still_at a _ (λ x at. still_order (suspend_fault x) (quiet _ (refl, refl)))).is
  event_moves (events.Resume a) = (still_at a _ (λ x at. still_order (resume_fault x) (quiet _ (refl, refl)))).is
  event_moves events.Power = (refl, refl)

  -- The two orders for which a volume is handed in

  replaced_moves : (d : ℕ) (side : Side) → NoTransfers (replaced s d side unfailing).reads (replaced s d side unfailing).writes
  unfolding H.replaced
  replaced_moves d side = by_found (mounted_in s.mounted d)
    where
      by_fault : (m : Mounted) (o : Option OrderFault) → NoTransfers (replaced_by s d side unfailing m o).reads (replaced_by s d side unfailing m o).writes
      by_fault m (Some fault) = (refl, refl)
      by_fault m None = (refl, refl)

      by_found : (o : Option Mounted) → NoTransfers (replaced_at s d side unfailing o).reads (replaced_at s d side unfailing o).writes
      by_found (Some m) = by_fault m (replace_fault m.device side)
      by_found None = (refl, refl)

  unpaired_moves : (a : ℕ) → NoTransfers (unpaired s a unfailing).reads (unpaired s a unfailing).writes
  unfolding H.unpaired
  unpaired_moves a = by_found (mounted_in s.mounted a)
    where
      by_fault : (m : Mounted) (o : Option OrderFault) → NoTransfers (unpaired_by s a unfailing m o).reads (unpaired_by s a unfailing m o).writes
      by_fault m (Some fault) = (refl, refl)
      by_fault m None = (refl, refl)

      by_found : (o : Option Mounted) → NoTransfers (unpaired_at s a unfailing o).reads (unpaired_at s a unfailing o).writes
      by_found (Some m) = by_fault m (unpair_fault m.device)
      by_found None = (refl, refl)

-- All lines

abbrev Nothing : Subsystem → Type 0
Nothing s = ⊤

lines_move : Goes Nothing (λ s. MovesByTable) AnyEvent
lines_move = record {
  once = λ s e may q. (
    tt,
    subst (λ (b : Subsystem). EventTransfers e b (happens s e).end (happens s e).reads (happens s e).writes)
        (sym (event_from s e)) (event_moves s e),
  );
  stepped = λ s d q. (
    tt,
    subst (λ (b : Subsystem). RunTransfers (device_in (devices_of b) d) (happens s (events.Step d)).end (happens s (events.Step d)).reads
        (happens s (events.Step d)).writes) (sym (event_from s (events.Step d))) (inr (step_happens s d)),
  );
  idle = λ s d q. (tt, inl (refl, (refl, refl)));
  backed = λ s d q. (
    tt,
    subst (λ (b : Subsystem). BackTransfers (device_in (devices_of b) d) (happens s (events.Back d)).end (happens s (events.Back d)).reads
        (happens s (events.Back d)).writes) (sym (event_from s (events.Back d))) (back_happens s d),
  );
  replaces = λ s d side q. (tt, replaced_moves s d side);
  unpairs = λ s a q. (tt, unpaired_moves s a);
}

pub run_moves : (firsts : Firsts) (deck : DeckLines) → All MovesByTable (run_on firsts deck).events
unfolding D.run_asked_on
run_moves firsts deck = run_shows Nothing MovesByTable lines_move (map asked_by deck.events) (opened_on firsts deck) tt
