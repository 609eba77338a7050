-- In the run of a deck each event brings into the journal of each device what an event of its kind may bring.
use Rattle.std.proofs.Common.{◌≡◌, ◌==◌, ℕ, Bool, true, false, List, [], ◌∷◌, map, Option, Some, None, is_some, refl, sym, ap, subst, ◌∙◌, ◌⊎◌, inl, inr}
use Rattle.std.specs.Prelude.{All, ⊤, IfSome, not, if◌then◌else◌}
use Rattle.ckd_types.specs.declared.paths.Side.{Side}
use Rattle.ckd_types.specs.declared.paths.Side.TheVariants as sides
use Rattle.deck_text.specs.DeckLines.{DeckLines}
use Rattle.loss_model.specs.declared.Loss.TheVariants as losses
use Rattle.plain_defs.specs.History.{OpenEntry, emptied, is_path_of}
use Rattle.device_outside.specs.Interaction.{Interaction, Done, Try, Ask, Read, Write, Tell, and_then}
use Rattle.device_outside.specs.Keeper.{reply}
use Rattle.device_outside.specs.Pool.{Pool, all_waiting}
use Rattle.device_outside.specs.Told as T
use Rattle.device_outside.specs.Told.{Calls}
use Rattle.device_defs.specs.declared.answers.Did.{Did}
use Rattle.device_defs.specs.declared.answers.StartFault.{StartFault}
use Rattle.device_defs.specs.declared.answers.Stepped.{Stepped}
use Rattle.device_defs.specs.Command.{command}
use Rattle.device_defs.specs.Contents.{by_plain}
use Rattle.device_defs.specs.Cutting.{reset}
use Rattle.device_defs.specs.Events.{second, lose, background}
use Rattle.device_defs.specs.Marks.{MarksDevice}
use Rattle.device_defs.specs.Orders.{lend, join, split, restore, replace, hold_side, resume}
use Rattle.device_defs.specs.Start.{start_fault, start, next_ordinal}
use Rattle.device_defs.specs.Store.{HalfWrite}
use Rattle.device_laws.proofs.HistoryTold.{lend_told}
use Rattle.subsystem_defs.specs.declared.end.EventEnd.{EventEnd}
use Rattle.subsystem_defs.specs.declared.end.EventEnd.TheVariants as ends
use Rattle.subsystem_defs.specs.declared.end.OrderFault.{OrderFault}
use Rattle.subsystem_defs.specs.declared.event.Event.{Event}
use Rattle.subsystem_defs.specs.declared.event.Event.TheVariants as events
use Rattle.subsystem_defs.specs.Decks as D
use Rattle.subsystem_defs.specs.Decks.{Firsts, AreWhole, empty_firsts, opened_on, run_of, run_on}
use Rattle.subsystem_defs.specs.Deeds as E
use Rattle.subsystem_defs.specs.Deeds.{back, order, Ends, Becomes, Asks, Each, Repairs, Lends, deed, device_in, on_device, starts, start_by, step, seconds, ends_by, may_end_by, ends_done, end_of}
use Rattle.subsystem_defs.specs.Happening as H
use Rattle.subsystem_defs.specs.Happening.{EventHappened, MarksDeed, Talk, held_with, told_to, told_end, mounted_behind, behind_outcome, joined, lends, is_lent_to, restored_in, asks, becomes, happens_by, happens, sweep, replaced_by, replaced_at, replaced, unpaired_by, unpaired_at, unpaired}
use Rattle.subsystem_defs.specs.Lines.{Asked, Once, Replace, Unpair, Run, Settle, logged, asked_by, run_lines}
use Rattle.subsystem_defs.specs.Refusals.{pair_fault, suspend_fault, resume_fault, fail_fault, replace_fault, unpair_fault}
use Rattle.subsystem_defs.specs.Subsystem.{Mounted, Subsystem, devices_of, mounted_in, put_in, with_calls, unfailing}
use Rattle.subsystem_laws.specs.Came as C
use Rattle.subsystem_laws.specs.Came.{Came, CameTo, delivered}
use Rattle.subsystem_laws.specs.Causes.{EachPair}
use Rattle.subsystem_laws.specs.Served.{IsServedEvent, IsServedDeck}
use Rattle.subsystem_laws.proofs.Came.{at, answered, told_came}
use Rattle.subsystem_laws.proofs.DeedWalk.{IsSeat, Stands, seat_of}
use Rattle.subsystem_laws.proofs.FoundDevices.{number_found}
use Rattle.subsystem_laws.proofs.Pairing.{Pairs, pairs_same, pairs_put, pairs_on, pairs_weaker, some_is, started_number}
use Rattle.subsystem_laws.proofs.PlainRuns.{PlainlyFrom, all_may, empty_whole, plain_kept_from, event_plain_on, opened_plain_on}
use Rattle.subsystem_laws.proofs.RunLines.{AnyEvent, logs_all, Goes, lines_go}
use Rattle.subsystem_laws.proofs.TracksKept.{Fair, fair_kept, opened_fair}
use Rattle.subsystem_laws.proofs.Walks.{AreSo, device_so, mounted_so, event_so, replaced_so, unpaired_so}
use Rattle.promise_laws.specs.Origins.{IsBy, event_of, is_refused, Brings, nothing, new_volume, HaveOrigins}
use Rattle.promise_laws.proofs.Bringing.{same_brings, start_brings, command_brings, step_second_brings, back_second_brings, background_brings, side_brings, reset_brings, power_brings, cache_brings, store_brings}

-- Devices before and behind, pair by pair

module _ (r : MarksDevice → MarksDevice → Type 0) (own : (d : MarksDevice) → r d d) where
  pairs_swept : (f : MarksDevice → Talk (Unit {0})) → ((d : MarksDevice) → Fair d → (t : CameTo (f d)) → r d t.state) → (ms : List Mounted) →
      AreSo Fair ms → (pool : Pool) → Pairs r ms (sweep f ms pool).mounted
  unfolding H.sweep
  pairs_swept f h [] p pool = tt
  pairs_swept f h (m ∷ ms) p pool = (
    h m.device p.0 (told_came (f m.device) (told_to pool m)),
    pairs_swept f h ms p.1 (held_with pool m (f m.device)).told.pool,
  )

-- an answer is the end that was made of one
answer_of : {I S X Y : Type 0} (i : Interaction Bool I S X) (f : X → Y) (y : S) (b : Y) → Came (and_then i (λ s a. Done s (f a))) y b → (a : X) × (b ≡ f a)
unfolding C.Came
answer_of (Done s a) f y b c = (a, c.1)
answer_of (Try k) f y b c = answer_of (k true) f y b c
answer_of (Ask call k) f y b c = answer_of (k c.0) f y b c.1
answer_of (Read side t k) f y b c = answer_of (k (delivered c.0)) f y b c.1
answer_of (Write side t r k) f y b c = answer_of (k c.0) f y b c.1
answer_of (Tell m k) f y b c = answer_of (k (reply m)) f y b c

-- the history stays, and to whom it is lent
abbrev Still : MarksDevice → MarksDevice → Type 0
Still x y = y.history ≡ x.history

module _ (asked : Asked) where
  abbrev Origin : EventEnd → MarksDevice → MarksDevice → Type 0
  Origin end x y = Brings asked end x y.history

  abbrev Keeps : Subsystem → MarksDeed → Type 0
  Keeps s (Ends end) = ⊤
  Keeps s (Becomes d end) = (m : Mounted) → mounted_in s.mounted d.store.device ≡ Some m → Origin end m.device d
  Keeps s (Asks d talk) = IsSeat s d × ((t : CameTo talk) → Origin (told_end t.answer) d t.state)
  Keeps s (Each pool f) = (d : MarksDevice) → Fair d → (t : CameTo (f d)) → Origin ends.Done d t.state
  Keeps s (Repairs pool) = ⊤
  Keeps s (Lends a b) = IsSeat s b × ((t : CameTo (lend by_plain b a.store.device)) → Still b t.state)

  abbrev Shows : EventHappened → Type 0
  Shows h = EachPair (Origin h.end) (devices_of h.before) (devices_of h.behind)

  -- What happens where a deed keeps so

  still_shows : (end : EventEnd) (s : Subsystem) (ms : List Mounted) → Pairs Still s.mounted ms → Pairs (Origin end) s.mounted ms
  still_shows end s ms p =
      pairs_weaker Still (Origin end) (λ x y e. same_brings asked end x y.history e) (devices_of s) (map (λ (m : Mounted). m.device) ms) p

  all_same : (end : EventEnd) (s : Subsystem) → Pairs (Origin end) s.mounted s.mounted
  all_same end s = pairs_same (Origin end) (λ d. nothing) s.mounted

  put_same : (s : Subsystem) (n : ℕ) (m y : Mounted) → mounted_in s.mounted n ≡ Some m → Still m.device y.device →
      Pairs Still s.mounted (put_in s.mounted n y)
  put_same s n m y there is =
      pairs_put Still (λ d. refl) n y s.mounted (λ x at. subst (λ (z : Mounted). Still z.device y.device) (some_is m x (sym there ∙ at)) is)

  becomes_shown : (s : Subsystem) (d : MarksDevice) (end : EventEnd) → ((m : Mounted) → mounted_in s.mounted d.store.device ≡ Some m → Origin end m.device d) →
      (o : Option Mounted) → Pairs (Origin end) s.mounted (becomes s d.store.device o d).mounted
  becomes_shown s d end h None = all_same end s
  becomes_shown s d end h (Some m) = pairs_put (Origin end) (λ x. nothing) d.store.device (record m { device = d }) s.mounted h

  asks_shown : (s : Subsystem) (d : MarksDevice) → IsSeat s d → (talk : Talk (Option EventEnd)) →
      ((t : CameTo talk) → Origin (told_end t.answer) d t.state) → (o : Option Mounted) → Shows (asks s d.store.device o talk)
  asks_shown s d seat talk h None = all_same ends.Idle s
  asks_shown s d seat talk h (Some m) =
      let o = held_with s.pool m talk in
      pairs_put (Origin (told_end o.answer)) (λ x. nothing) d.store.device (mounted_behind o) s.mounted
      (λ x there. subst (λ (z : MarksDevice). Origin (told_end o.answer) z o.state) (sym (seat x there)) (h (told_came talk (told_to s.pool m))))

  joined_shown : (z : Subsystem) (n : ℕ) (volume : Calls) (o : Option Mounted) → mounted_in z.mounted n ≡ o →
      Pairs Still z.mounted (joined z n volume o).mounted
  joined_shown z n volume None there = pairs_same Still (λ d. refl) z.mounted
  joined_shown z n volume (Some m) there = put_same z n m (record m { device = join m.device; b = volume }) there refl

  lends_shown : (s : Subsystem) (a : ℕ) (d : MarksDevice) → IsSeat s d → ((t : CameTo (lend by_plain d a)) → Still d t.state) →
      (o : Option Mounted) → mounted_in s.mounted d.store.device ≡ o → Pairs Still s.mounted (lends s a d.store.device o).mounted
  lends_shown s a d seat h None there = pairs_same Still (λ d. refl) s.mounted
  lends_shown s a d seat h (Some m) there =
      let o = held_with s.pool m (lend by_plain m.device a) in
      let z = behind_outcome s d.store.device o in
      pairs_on Still Still Still (λ x y w e f. f ∙ e) (devices_of s) (devices_of z) (devices_of (joined z a o.told.a (mounted_in z.mounted a)))
      (put_same s d.store.device m (mounted_behind o) there
      (subst (λ (x : MarksDevice). Still x (T.hold true (lend by_plain x a) (told_to s.pool m)).state) (sym (seat m there))
      (h (told_came (lend by_plain d a) (told_to s.pool m)))))
      (joined_shown z a o.told.a (mounted_in z.mounted a) refl)

  happens_shown : (s : Subsystem) → AreSo Fair s.mounted → (x : MarksDeed) → Keeps s x → Shows (happens_by s x)
  happens_shown s p (Ends end) h = all_same end s
  happens_shown s p (Becomes d end) h = becomes_shown s d end h (mounted_in s.mounted d.store.device)
  happens_shown s p (Asks d talk) h = asks_shown s d h.0 talk h.1 (mounted_in s.mounted d.store.device)
  happens_shown s p (Each pool f) h = pairs_swept (Origin ends.Done) (λ d. nothing) f h s.mounted p pool
  happens_shown s p (Repairs pool) h = all_same ends.Done s
  happens_shown s p (Lends a b) h =
      still_shows ends.Done s (lends s a.store.device b.store.device (mounted_in s.mounted b.store.device)).mounted
      (lends_shown s a.store.device b h.0 h.1 (mounted_in s.mounted b.store.device) refl)

  -- The deed of each event

  module _ (firsts : Firsts) (s : Subsystem) (p : AreSo Fair s.mounted) (q : AreSo (PlainlyFrom firsts) s.mounted) where
    -- a record round it, so that the deed can be inferred
    record Deeds (x : MarksDeed) : Type 0 where
      is : Keeps s x

    none : (end : EventEnd) → Deeds (Ends end)
    none end = record { is = tt }

    deed_if : (b : Bool) {x y : MarksDeed} → Deeds x → Deeds y → Deeds (if b then x else y)
    deed_if true f g = f
    deed_if false f g = g

    ordered : (o : Option OrderFault) {x : MarksDeed} → (o ≡ None → Deeds x) → Deeds (order o x)
    ordered (Some fault) h = none (ends.Refused fault)
    ordered None h = h refl

    -- the device that an event names
    record Named (n : ℕ) (d : MarksDevice) : Type 0 where
      stands : Stands s d
      number : d.store.device ≡ n

    on_found : (n : ℕ) (o : Option MarksDevice) → device_in (devices_of s) n ≡ o → (f : MarksDevice → MarksDeed) →
        ((d : MarksDevice) → Named n d → Deeds (f d)) → Deeds (on_device o f)
    on_found n None here f h = none ends.Done
    on_found n (Some d) here f h = h d (record { stands = record { number = n; found = here }; number = number_found s.mounted n d here })

    at_device : (n : ℕ) (f : MarksDevice → MarksDeed) → ((d : MarksDevice) → Named n d → Deeds (f d)) → Deeds (on_device (device_in (devices_of s) n) f)
    at_device n f h = on_found n (device_in (devices_of s) n) refl f h

    plainly_of : (d : MarksDevice) → Stands s d → PlainlyFrom firsts d
    plainly_of d x = subst (λ (o : Option MarksDevice). IfSome o (PlainlyFrom firsts)) x.found (device_so (PlainlyFrom firsts) s.mounted x.number q)

    asked_for : {X : Type 0} (d : MarksDevice) → Stands s d → (talk : Talk X) (f : X → Option EventEnd) →
        ((a : X) → is_refused (told_end (f a)) ≡ false) → ((end : EventEnd) → is_refused end ≡ false → (t : CameTo talk) → Origin end d t.state) →
        Deeds (Asks d (and_then talk (λ z a. Done z (f a))))
    asked_for d x talk f never h = record {
      is = (
        seat_of s d x,
        λ t.
            let a = answer_of talk f t.state t.answer t.is in
            h (told_end t.answer) (subst (λ (o : Option EventEnd). is_refused (told_end o) ≡ false) (sym a.1) (never a.0)) (answered talk f t),
      );
    }

    becomes_same : (d : MarksDevice) → Stands s d → (z : MarksDevice) → z.store.device ≡ d.store.device → Still d z → (end : EventEnd) → Deeds (Becomes z end)
    becomes_same d x z number is end = record {
      is = λ m there. same_brings asked end m.device z.history
          (is ∙ ap (λ (y : MarksDevice). y.history) (sym (seat_of s d x m (ap (mounted_in s.mounted) (sym number) ∙ there))));
    }

    module _ (e : Event) (is : event_of asked ≡ Some e) where
      by : (end : EventEnd) → is_refused end ≡ false → IsBy asked end e
      by end goes = record { event = is; goes = goes }

    never_stepped : (a : Option Stepped) → is_refused (told_end (end_of ends.Stepped a)) ≡ false
    never_stepped (Some a) = refl
    never_stepped None = refl

    never_back : (a : Option Did) → is_refused (told_end (end_of ends.Back a)) ≡ false
    never_back (Some a) = refl
    never_back None = refl

    starts_by : (path n : ℕ) → event_of asked ≡ Some (events.Start path n) → (d : MarksDevice) → Named n d → (o : Option StartFault) →
        Deeds (start_by {R = Bool} d path o)
    starts_by path n is d x (Some fault) = none (ends.NotStarted fault)
    starts_by path n is d x None = record {
      is = λ m there.
          let end = ends.Started (next_ordinal d path) in
          subst (λ (z : MarksDevice). Origin end z (start d path))
          (sym (seat_of s d x.stands m (ap (mounted_in s.mounted) (sym (started_number d path)) ∙ there)))
          (start_brings asked end d n x.number path (by (events.Start path n) is end refl));
    }

    steps_by : (n : ℕ) → event_of asked ≡ Some (events.Step n) → (d : MarksDevice) → Named n d → d.store.half ≡ None → (r : Option OpenEntry) →
        d.history.running ≡ r → Deeds (if is_some r then Asks d (may_end_by ends.Stepped (command by_plain d)) else Ends ends.Idle)
    steps_by n is d x whole None idle = none ends.Idle
    steps_by n is d x whole (Some o) running =
        asked_for d x.stands (command by_plain d) (end_of ends.Stepped) never_stepped
        (λ end goes t. command_brings asked end d n x.number (plainly_of d x.stands) o running whole (by (events.Step n) is end goes) t)

    step_by : (n : ℕ) → event_of asked ≡ Some (events.Step n) → (d : MarksDevice) → Named n d → (h : Option (HalfWrite (Unit {0}))) → d.store.half ≡ h →
        Deeds (if is_some h then seconds by_plain d
        else if is_some d.history.running then Asks d (may_end_by ends.Stepped (command by_plain d)) else Ends ends.Idle)
    step_by n is d x (Some h) half =
        asked_for d x.stands (second by_plain d) (λ a. Some (ends.Second a)) (λ a. refl)
        (λ end goes t. step_second_brings asked end d n x.number (by (events.Step n) is end goes) t)
    step_by n is d x None whole = steps_by n is d x whole d.history.running refl

    back_by : (n : ℕ) → event_of asked ≡ Some (events.Back n) → (d : MarksDevice) → Named n d → (h : Option (HalfWrite (Unit {0}))) → d.store.half ≡ h →
        Deeds (if is_some h then seconds by_plain d else Asks d (may_end_by ends.Back (background by_plain d)))
    back_by n is d x (Some h) half =
        asked_for d x.stands (second by_plain d) (λ a. Some (ends.Second a)) (λ a. refl)
        (λ end goes t. back_second_brings asked end d n x.number h half (by (events.Back n) is end goes) t)
    back_by n is d x None whole =
        asked_for d x.stands (background by_plain d) (end_of ends.Back) never_back
        (λ end goes t. background_brings asked end d n x.number (plainly_of d x.stands) whole (by (events.Back n) is end goes) t)

    deed_by : (e : Event) → event_of asked ≡ Some e → Deeds (deed by_plain s.pool (devices_of s) e)
    unfolding E.deed
    deed_by (events.Start path n) is =
        at_device n (starts path)
        (λ d x. deed_if (is_path_of d.history.running path) (none ends.Running) (starts_by path n is d x (start_fault d path)))
    deed_by (events.Step n) is = at_device n (step by_plain) (λ d x. step_by n is d x d.store.half refl)
    deed_by (events.Back n) is = at_device n (back by_plain) (λ d x. back_by n is d x d.store.half refl)
    deed_by (events.Reset path n) is =
        at_device n (λ d. Asks d (ends_by ends_done (reset by_plain d path)))
        (λ d x. asked_for d x.stands (reset by_plain d path) (λ a. Some (ends_done a)) (λ a. refl)
        (λ end goes t. reset_brings asked end d n x.number path (by (events.Reset path n) is end goes) t))
    deed_by events.FailCache is =
        deed_if (not s.pool.cache_up) (none _) (record { is = λ d fair t. cache_brings asked ends.Done d (by events.FailCache is ends.Done refl) t })
    deed_by events.FailStore is = deed_if (not s.pool.store_up) (none _) (record { is = λ d fair t. store_brings asked ends.Done d fair t })
    deed_by (events.FailVolume n side) is =
        at_device n (λ d. order (fail_fault d side) (Asks d (ends_by ends_done (lose by_plain d (losses.Side side)))))
        (λ d x. ordered (fail_fault d side) (λ fault. asked_for d x.stands (lose by_plain d (losses.Side side)) (λ a. Some (ends_done a)) (λ a. refl)
        (λ end goes t. side_brings asked end d n x.number side (by (events.FailVolume n side) is end goes) t)))
    deed_by events.RepairCache is =
        deed_if s.pool.cache_up (none _) (deed_if (all_waiting s.pool == 0) (record { is = tt }) (none _))
    deed_by events.RepairStore is =
        deed_if s.pool.store_up (none _) (deed_if (all_waiting s.pool == 0) (record { is = tt }) (none _))
    deed_by (events.Pair a b) is =
        at_device a (λ y. on_device (device_in (devices_of s) b) (λ z. order (pair_fault y z) (Lends y z)))
        (λ y at_y. at_device b (λ z. order (pair_fault y z) (Lends y z))
        (λ z at_z. ordered (pair_fault y z)
        (λ fault. record { is = (seat_of s z at_z.stands, λ t. at (lend_told by_plain z y.store.device) t) })))
    deed_by (events.Suspend n) is =
        at_device n (λ d. order (suspend_fault d) (Becomes (hold_side d) ends.Done))
        (λ d x. ordered (suspend_fault d) (λ fault. becomes_same d x.stands (hold_side d) refl refl ends.Done))
    deed_by (events.Resume n) is =
        at_device n (λ d. order (resume_fault d) (Becomes (resume d) ends.Done))
        (λ d x. ordered (resume_fault d) (λ fault. becomes_same d x.stands (resume d) refl refl ends.Done))
    deed_by events.Power is = record { is = λ d fair t. power_brings asked ends.Done d (by events.Power is ends.Done refl) t }

    event_shown : (e : Event) → event_of asked ≡ Some e → Shows (happens s e)
    unfolding H.happens
    event_shown e is = happens_shown s p (deed by_plain s.pool (devices_of s) e) (deed_by e is).is

-- The two orders for which a volume is handed in

with_still : (d : MarksDevice) (m : Mounted) (side : Side) (calls : Calls) → Still d m.device → Still d (with_calls m side calls).device
with_still d m sides.A calls is = is
with_still d m sides.B calls is = is

replace_still : (d : MarksDevice) (side : Side) → Still d (replace d side)
replace_still d sides.A = refl
replace_still d sides.B = refl

replaced_shown : (s : Subsystem) (n : ℕ) (side : Side) (calls : Calls) (o : Option Mounted) → mounted_in s.mounted n ≡ o →
    Shows (Replace n side) (replaced_at s n side calls o)
replaced_shown s n side calls None there = all_same (Replace n side) ends.Done s
replaced_shown s n side calls (Some m) there = by_fault (replace_fault m.device side) where
  by_fault : (o : Option OrderFault) → Shows (Replace n side) (replaced_by s n side calls m o)
  by_fault (Some fault) = all_same (Replace n side) (ends.Refused fault) s
  by_fault None =
      let y : Mounted = record m { device = replace m.device side } in
      still_shows (Replace n side) ends.Done s (put_in s.mounted n (with_calls y side calls))
      (put_same (Replace n side) s n m (with_calls y side calls) there (with_still m.device y side calls (replace_still m.device side)))

-- the device that was lent gets an empty volume

abbrev SameLent : MarksDevice → MarksDevice → Type 0
SameLent x y = (y.history ≡ x.history) × (y.store.lent ≡ x.store.lent)

abbrev Emptied : ℕ → MarksDevice → MarksDevice → Type 0
Emptied a y z = (z.history ≡ y.history) ⊎ ((is_lent_to y.store.lent a ≡ true) × (z.history ≡ emptied y.history))

restored_shown : (ms : List Mounted) (a : ℕ) (calls : Calls) → Pairs (Emptied a) ms (restored_in ms a calls)
restored_shown [] a calls = tt
restored_shown (m ∷ ms) a calls = by_lent (is_lent_to m.device.store.lent a) refl (restored_shown ms a calls) where
  by_lent : (b : Bool) → is_lent_to m.device.store.lent a ≡ b → Pairs (Emptied a) ms (restored_in ms a calls) →
      Pairs (Emptied a) (m ∷ ms) (if b then record m { device = restore m.device; a = calls } ∷ ms else m ∷ restored_in ms a calls)
  by_lent true is later = (inr (is, refl), pairs_same (Emptied a) (λ d. inl refl) ms)
  by_lent false is later = (inl refl, later)

emptied_brings : (a : ℕ) (x y z : MarksDevice) → SameLent x y → Emptied a y z → Brings (Unpair a) ends.Done x z.history
emptied_brings a x y z e (inl same) = same_brings (Unpair a) ends.Done x z.history (same ∙ e.0)
emptied_brings a x y z e (inr f) =
    subst (Brings (Unpair a) ends.Done x) (sym (f.1 ∙ ap emptied e.0))
    (new_volume a refl refl (ap (λ (o : Option ℕ). is_lent_to o a) (sym e.1) ∙ f.0))

unpaired_shown : (s : Subsystem) (a : ℕ) (calls : Calls) (o : Option Mounted) → mounted_in s.mounted a ≡ o → Shows (Unpair a) (unpaired_at s a calls o)
unpaired_shown s a calls None there = all_same (Unpair a) ends.Done s
unpaired_shown s a calls (Some m) there = by_fault (unpair_fault m.device) where
  by_fault : (o : Option OrderFault) → Shows (Unpair a) (unpaired_by s a calls m o)
  by_fault (Some fault) = all_same (Unpair a) (ends.Refused fault) s
  by_fault None =
      let x : Mounted = record m { device = split m.device } in
      let ms = put_in s.mounted a x in
      let ks = restored_in ms a calls in
      pairs_on SameLent (Emptied a) (λ x z. Brings (Unpair a) ends.Done x z.history) (emptied_brings a) (devices_of s)
      (map (λ (z : Mounted). z.device) ms) (map (λ (z : Mounted). z.device) ks)
      (pairs_put SameLent (λ d. (refl, refl)) a x s.mounted
      (λ k at. subst (λ (z : Mounted). SameLent z.device (split m.device)) (some_is m k (sym there ∙ at)) (refl, refl)))
      (restored_shown ms a calls)

-- All lines

abbrev Sound : Firsts → Subsystem → Type 0
Sound firsts s = AreSo Fair s.mounted × AreSo (PlainlyFrom firsts) s.mounted

event_sound : (firsts : Firsts) (s : Subsystem) (e : Event) → IsServedEvent e → Sound firsts s → Sound firsts (happens s e).behind
event_sound firsts s e may q = (event_so Fair AnyEvent fair_kept s q.0 e tt, event_plain_on firsts s q.1 e may)

replace_goes : (firsts : Firsts) (s : Subsystem) (d : ℕ) (side : Side) → Sound firsts s →
    Sound firsts (replaced s d side unfailing).behind × HaveOrigins (logged (Replace d side) (replaced s d side unfailing))
unfolding H.replaced
replace_goes firsts s d side q = (
  (
    replaced_so Fair AnyEvent fair_kept s d side unfailing q.0 (mounted_in s.mounted d) (mounted_so Fair s.mounted d q.0),
    replaced_so (PlainlyFrom firsts) IsServedEvent (plain_kept_from firsts) s d side unfailing q.1 (mounted_in s.mounted d) (mounted_so (PlainlyFrom firsts) s.mounted d q.1),
  ),
  replaced_shown s d side unfailing (mounted_in s.mounted d) refl,
)

unpair_goes : (firsts : Firsts) (s : Subsystem) (a : ℕ) → Sound firsts s →
    Sound firsts (unpaired s a unfailing).behind × HaveOrigins (logged (Unpair a) (unpaired s a unfailing))
unfolding H.unpaired
unpair_goes firsts s a q = (
  (
    unpaired_so Fair AnyEvent fair_kept s a unfailing q.0 (mounted_in s.mounted a) (mounted_so Fair s.mounted a q.0),
    unpaired_so (PlainlyFrom firsts) IsServedEvent (plain_kept_from firsts) s a unfailing q.1 (mounted_in s.mounted a) (mounted_so (PlainlyFrom firsts) s.mounted a q.1),
  ),
  unpaired_shown s a unfailing (mounted_in s.mounted a) refl,
)

origins_go : (firsts : Firsts) → Goes (Sound firsts) (λ s. HaveOrigins) IsServedEvent
origins_go firsts = record {
  once = λ s e may q. (event_sound firsts s e may q, event_shown (Once e) firsts s q.0 q.1 e refl);
  stepped = λ s d q. (event_sound firsts s (events.Step d) tt q, event_shown (Run d) firsts s q.0 q.1 (events.Step d) refl);
  idle = λ s d q. (q, all_same (Run d) ends.Idle s);
  backed = λ s d q. (event_sound firsts s (events.Back d) tt q, event_shown (Settle d) firsts s q.0 q.1 (events.Back d) refl);
  replaces = λ s d side q. replace_goes firsts s d side q;
  unpairs = λ s a q. unpair_goes firsts s a q;
}

pub run_has_origins_on : (firsts : Firsts) → AreWhole firsts → (deck : DeckLines) → IsServedDeck deck → All HaveOrigins (run_on firsts deck).events
unfolding D.run_asked_on
run_has_origins_on firsts whole deck h =
    let first = opened_on firsts deck in
    logs_all (Sound firsts) HaveOrigins first (run_lines (map asked_by deck.events) first)
    (lines_go (Sound firsts) (λ s. HaveOrigins) IsServedEvent (origins_go firsts) (map asked_by deck.events) first (all_may deck.events h.events)
    (opened_fair firsts deck deck.devices h.devices, opened_plain_on firsts whole deck deck.devices h.devices))

pub run_has_origins : (deck : DeckLines) → IsServedDeck deck → All HaveOrigins (run_of deck).events
run_has_origins = run_has_origins_on empty_firsts empty_whole
