-- In a run each recovery that is done lowers how many tracks of all devices wait by one.
use Rattle.std.proofs.Common.{
  ◌≡◌,
  ◌<◌,
  ◌+◌,
  ◌*◌,
  ◌==◌,
  ℕ,
  Bool,
  true,
  false,
  List,
  [],
  ◌∷◌,
  map,
  Option,
  Some,
  None,
  is_some,
  refl,
  sym,
  ap,
  subst,
  ◌∙◌,
  arith,
}
use Rattle.std.proofs.lemmas.List.Elements.{All-nil, All-cons, All-head, All-tail}
use Rattle.std.specs.Prelude.{All, IfSome, if◌then◌else◌}
use Rattle.ckd_types.specs.declared.paths.Side.{Side}
use Rattle.deck_text.specs.DeckLines.{DeckLines}
use Rattle.device_outside.specs.Interaction.{Done, Try, Ask, Read, Write, Tell, and_then}
use Rattle.device_outside.specs.Keeper.{reply}
use Rattle.device_outside.specs.Pool.{answer, after}
use Rattle.device_outside.specs.Told as T
use Rattle.device_outside.specs.Told.{Told, RunOutcome, calls_of, read_fails, write_fails, told_read, told_write}
use Rattle.device_defs.specs.declared.answers.Did.{Did}
use Rattle.device_defs.specs.declared.answers.Did.TheVariants as dids
use Rattle.device_defs.specs.declared.answers.SecondEnd.{SecondEnd}
use Rattle.device_defs.specs.declared.answers.SecondEnd.TheVariants as parts
use Rattle.device_defs.specs.declared.answers.Stepped.{Stepped}
use Rattle.device_defs.specs.Command.{command}
use Rattle.device_defs.specs.Contents.{by_plain}
use Rattle.device_defs.specs.Events.{second, background}
use Rattle.device_defs.specs.Marks.{MarksDevice}
use Rattle.device_defs.specs.Owed.{waits}
use Rattle.device_defs.specs.Store.{OfBackground, HalfWrite}
use Rattle.device_laws.proofs.BasedEvents.{command_based, second_based, background_based}
use Rattle.device_laws.proofs.Lucky.{where_none_failed}
use Rattle.device_laws.proofs.Recoveries.{shelf_of, waits_in, waits_is, DoneIn, DropsWell, WorkWaits, fewer_wait, as_many_wait}
use Rattle.device_laws.proofs.RecoveryEvents.{SecondWaits, well_drops, frameless_drops, background_waits, second_waits}
use Rattle.device_laws.proofs.TrackMarks.{marks_are_faithful}
use Rattle.subsystem_defs.specs.declared.end.EventEnd.{EventEnd}
use Rattle.subsystem_defs.specs.declared.end.EventEnd.TheVariants as ends
use Rattle.subsystem_defs.specs.declared.event.Event.{Event}
use Rattle.subsystem_defs.specs.declared.event.Event.TheVariants as events
use Rattle.subsystem_defs.specs.Decks as D
use Rattle.subsystem_defs.specs.Decks.{Firsts, opened_on, run_on}
use Rattle.subsystem_defs.specs.Deeds as E
use Rattle.subsystem_defs.specs.Deeds.{Ends, Asks, deed, device_in, on_device, step, back, ends_by, may_end_by, end_of}
use Rattle.subsystem_defs.specs.Happening as H
use Rattle.subsystem_defs.specs.Happening.{Talk, held_with, told_to, told_end, mounted_behind, asks, happens_by, happens, quietly, replaced, unpaired}
use Rattle.subsystem_defs.specs.Lines.{Once, Logged, asked_by}
use Rattle.subsystem_defs.specs.Subsystem.{Mounted, Subsystem, number_of, devices_of, mounted_in, put_in, unfailing}
use Rattle.subsystem_laws.specs.Causes.{CountsFailures, CountFailures}
use Rattle.subsystem_laws.specs.Recoveries.{Recovers, LowersBy, LowersAt, asks_device, LowersIn, LowersWaiting}
use Rattle.subsystem_laws.specs.Served.{IsServedDeck}
use Rattle.subsystem_laws.specs.Waits.{waiting_of, waiting_in}
use Rattle.subsystem_laws.proofs.FoundDevices.{number_found, same_found}
use Rattle.subsystem_laws.proofs.GoodMarks.{Good, by_lent, half_home, good_kept, opened_good}
use Rattle.subsystem_laws.proofs.LendBase.{at, stays_still}
use Rattle.subsystem_laws.proofs.MovedRuns.{is_there}
use Rattle.subsystem_laws.proofs.RunLines.{AnyEvent, Goes, run_shows}
use Rattle.subsystem_laws.proofs.RunLinks.{event_from}
use Rattle.subsystem_laws.proofs.Walks.{AreSo, device_so, mounted_so, event_so, replaced_so, unpaired_so}

-- An answer is an event's end

abbrev mapped : {S X Y : Type 0} → (X → Y) → RunOutcome S X → RunOutcome S Y
mapped f o = record { state = o.state; answer = f o.answer; told = o.told }

hold_mapped : {X Y : Type 0} (i : Talk X) (f : X → Y) (t : Told) → T.hold true (and_then i (λ z a. Done z (f a))) t ≡ mapped f (T.hold true i t)
unfolding T.hold
hold_mapped (Done s a) f t = refl
hold_mapped (Try k) f t = hold_mapped (k true) f t
hold_mapped (Ask call k) f t = hold_mapped (k (answer t.pool call)) f (record t { pool = after t.pool call (answer t.pool call) })
hold_mapped (Read side q k) f t = hold_mapped (k (if read_fails (calls_of t side) then None else Some true)) f (told_read t side)
hold_mapped (Write side q r k) f t = hold_mapped (k (if write_fails (calls_of t side) then false else true)) f (told_write t side)
hold_mapped (Tell m k) f t = hold_mapped (k (reply m)) f t

-- A device's own event

record Lowers (d : MarksDevice) (o : RunOutcome MarksDevice (Option EventEnd)) : Type 0 where
  number : o.state.store.device ≡ d.store.device
  lowers : LowersBy (told_end o.answer) d o.state (waiting_of d) (waiting_of o.state)

done_recovers : (d y : MarksDevice) (t : ℕ) → waits_in by_plain (shelf_of d.store) t ≡ true → DoneIn by_plain (shelf_of d.store) t (shelf_of y.store) →
    Recovers t d y
done_recovers d y t waited k = record {
  waited = waits_is by_plain d.store t ∙ waited;
  done = waits_is by_plain y.store t ∙ k.here;
  others = λ q ne. waits_is by_plain y.store q ∙ k.others q ne ∙ sym (waits_is by_plain d.store q);
}

work_lowers : (d y : MarksDevice) (a : Option Did) → WorkWaits by_plain (shelf_of d.store) (shelf_of y.store) a →
    LowersBy (told_end (end_of ends.Back a)) d y (waiting_of d) (waiting_of y)
work_lowers d y (Some (dids.Recovered t)) k = (fewer_wait by_plain d.store y.store t k.0 k.1 k.2, done_recovers d y t k.1 k.2)
work_lowers d y (Some (dids.Half t)) k =
    let h = k.1 in (
      as_many_wait by_plain d.store y.store h.cylinders h.all,
      λ q. waits_is by_plain y.store q ∙ h.all q ∙ sym (waits_is by_plain d.store q),
      λ waited. record {
        half = h.half;
        is = h.is;
        background = h.background;
        track = h.track;
        within = subst (λ (n : ℕ). t < n * 15) (sym h.cylinders) k.0;
        waiting = waits_is by_plain y.store t ∙ h.all t ∙ sym (waits_is by_plain d.store t) ∙ waited;
      },
    )
work_lowers d y (Some dids.Nothing) k = tt
work_lowers d y (Some (dids.Copied t)) k = tt
work_lowers d y (Some (dids.Staged t)) k = tt
work_lowers d y (Some (dids.Skipped t)) k = tt
work_lowers d y (Some (dids.Destaged t)) k = tt
work_lowers d y (Some (dids.Fault side)) k = tt
work_lowers d y (Some (dids.BadBytes side)) k = tt
work_lowers d y None k = tt

-- where its track waits and no call fails
abbrev SecondSo : MarksDevice → MarksDevice → SecondEnd → Type 0
SecondSo d y a =
    (h : HalfWrite (Unit {0})) → d.store.half ≡ Some h → h.origin ≡ OfBackground → waits by_plain d.store h.track ≡ true →
    y.store.counts.failed ≡ d.store.counts.failed → SecondWaits by_plain (shelf_of d.store) h.track (shelf_of y.store) a

part_lowers : (d y : MarksDevice) (a : SecondEnd) → SecondSo d y a → LowersBy (ends.Second a) d y (waiting_of d) (waiting_of y)
part_lowers d y (parts.Finished t) so = λ half same.
    let before : waits_in by_plain (shelf_of d.store) t ≡ true = sym (waits_is by_plain d.store t) ∙ half.waiting in
    let waited = subst (λ (q : ℕ). waits by_plain d.store q ≡ true) (sym half.track) half.waiting in
    let k : DoneIn by_plain (shelf_of d.store) t (shelf_of y.store) =
    subst (λ (q : ℕ). DoneIn by_plain (shelf_of d.store) q (shelf_of y.store)) half.track
    (so half.half half.is half.background waited same) in (
      fewer_wait by_plain d.store y.store t half.within before k,
      done_recovers d y t before k,
    )
part_lowers d y (parts.Ended e) so = tt
part_lowers d y (parts.Unwritten t) so = tt

step_lowers : (d y : MarksDevice) (a : Option Stepped) (before behind : ℕ) → LowersBy (told_end (end_of ends.Stepped a)) d y before behind
step_lowers d y (Some a) before behind = tt
step_lowers d y None before behind = tt

module _ (d : MarksDevice) where
  abbrev AlwaysLowers : Talk (Option EventEnd) → Type 0
  AlwaysLowers talk = (t : Told) → Lowers d (T.hold true talk t)

  none_drops : Good d → d.store.half ≡ None → DropsWell by_plain (shelf_of d.store)
  none_drops g none =
      by_lent d (λ home. well_drops by_plain d.store (g.well home) (λ h is. absurd (let both : None ≡ Some h = sym none ∙ is in cc)))
      (λ away. frameless_drops by_plain d.store (g.gone away).store.frame)

  worked : Good d → d.store.half ≡ None → AlwaysLowers (may_end_by ends.Back (background by_plain d))
  worked g none t =
      let o = T.hold true (background by_plain d) t in
      subst (Lowers d) (sym (hold_mapped (background by_plain d) (end_of ends.Back) t)) (record {
        number = (at (stays_still (background_based by_plain d)) t).0;
        lowers = work_lowers d o.state o.answer (at (background_waits by_plain marks_are_faithful d (none_drops g none)) t);
      })

  own_drops : Good d → (h : HalfWrite (Unit {0})) → d.store.half ≡ Some h → waits by_plain d.store h.track ≡ true → DropsWell by_plain (shelf_of d.store)
  own_drops g h is waited =
      well_drops by_plain d.store (g.well (half_home d g h is))
      (λ k other. subst (λ (x : HalfWrite (Unit {0})). waits by_plain d.store x.track ≡ true)
      (let both : Some h ≡ Some k = sym is ∙ other in let same : h ≡ k = cc in same) waited)

  second_so : Good d → CountsFailures d → (t : Told) → SecondSo d (T.hold true (second by_plain d) t).state (T.hold true (second by_plain d) t).answer
  second_so g counts t h is own waited same =
      at (where_none_failed (λ (y : MarksDevice) a. SecondWaits by_plain (shelf_of d.store) h.track (shelf_of y.store) a) (second_based by_plain d) counts
      (second_waits by_plain marks_are_faithful d h is own (own_drops g h is waited))) t same

  seconded : Good d → CountsFailures d → AlwaysLowers (ends_by ends.Second (second by_plain d))
  seconded g counts t =
      let o = T.hold true (second by_plain d) t in
      subst (Lowers d) (sym (hold_mapped (second by_plain d) (λ a. Some (ends.Second a)) t)) (record {
        number = (at (stays_still (second_based by_plain d)) t).0;
        lowers = part_lowers d o.state o.answer (second_so g counts t);
      })

  commanded : AlwaysLowers (may_end_by ends.Stepped (command by_plain d))
  commanded t =
      let o = T.hold true (command by_plain d) t in
      subst (Lowers d) (sym (hold_mapped (command by_plain d) (end_of ends.Stepped) t)) (record {
        number = (at (stays_still (command_based by_plain d)) t).0;
        lowers = step_lowers d o.state o.answer (waiting_of d) (waiting_of o.state);
      })

-- In its place among all devices

abbrev all_in : List Mounted → List MarksDevice
all_in ms = map (λ (m : Mounted). m.device) ms

first_sum : (k m y rest : ℕ) → k ≡ m → y + rest + m ≡ k + rest + y
first_sum k m y rest e = omega (arith, e)

more_sum : (k m y old new : ℕ) → new + m ≡ old + y → k + new + m ≡ k + old + y
more_sum k m y old new e = omega (arith, e)

sum_if : (b : Bool) (n : ℕ) (k m y : Mounted) (ms : List Mounted) → (if b then Some k else mounted_in ms n) ≡ Some m →
    (mounted_in ms n ≡ Some m → waiting_in (all_in (put_in ms n y)) + waiting_of m.device ≡ waiting_in (all_in ms) + waiting_of y.device) →
    waiting_in (all_in (if b then y ∷ ms else k ∷ put_in ms n y)) + waiting_of m.device ≡ waiting_in (all_in (k ∷ ms)) + waiting_of y.device
sum_if true n k m y ms there more =
    let same : k ≡ m = cc in
    first_sum (waiting_of k.device) (waiting_of m.device) (waiting_of y.device) (waiting_in (all_in ms)) (ap (λ (x : Mounted). waiting_of x.device) same)
sum_if false n k m y ms there more =
    more_sum (waiting_of k.device) (waiting_of m.device) (waiting_of y.device) (waiting_in (all_in ms)) (waiting_in (all_in (put_in ms n y))) (more there)

put_sum : (ms : List Mounted) (n : ℕ) (m y : Mounted) → mounted_in ms n ≡ Some m →
    waiting_in (all_in (put_in ms n y)) + waiting_of m.device ≡ waiting_in (all_in ms) + waiting_of y.device
put_sum [] n m y there = absurd (cc)
put_sum (k ∷ ms) n m y there = sum_if (number_of k == n) n k m y ms there (put_sum ms n m y)

is_own : (a n : ℕ) → a ≡ n → (a == n) ≡ true
is_own a n e = ap (λ (k : ℕ). k == n) e ∙ (let same : (n == n) ≡ true = grind arith in same)

found_if : (b : Bool) (n : ℕ) (k m y : Mounted) (ms : List Mounted) → (number_of k == n) ≡ b → number_of y ≡ n →
    (if b then Some k else mounted_in ms n) ≡ Some m →
    (mounted_in ms n ≡ Some m → device_in (all_in (put_in ms n y)) n ≡ Some y.device) →
    device_in (all_in (if b then y ∷ ms else k ∷ put_in ms n y)) n ≡ Some y.device
found_if true n k m y ms is own there more =
    ap (λ (b : Bool). if b then Some y.device else device_in (all_in ms) n) (is_own (number_of y) n own)
found_if false n k m y ms is own there more =
    ap (λ (b : Bool). if b then Some k.device else device_in (all_in (put_in ms n y)) n) is ∙ more there

put_found : (ms : List Mounted) (n : ℕ) (m y : Mounted) → mounted_in ms n ≡ Some m → number_of y ≡ n →
    device_in (all_in (put_in ms n y)) n ≡ Some y.device
put_found [] n m y there own = absurd (cc)
put_found (k ∷ ms) n m y there own = found_if (number_of k == n) n k m y ms refl own there (λ more. put_found ms n m y more own)

-- what an event lowers of one device, it lowers of all
lifted : (end : EventEnd) (d y : MarksDevice) (before behind mine now : ℕ) → behind + mine ≡ before + now → LowersBy end d y mine now →
    LowersBy end d y before behind
lifted (ends.Back (dids.Recovered t)) d y before behind mine now e k = (let less = k.0 in omega (arith, e, less), k.1)
lifted (ends.Back (dids.Half t)) d y before behind mine now e k = (let same = k.0 in omega (arith, e, same), k.1, k.2)
lifted (ends.Second (parts.Finished t)) d y before behind mine now e k = λ half same.
    let x = k half same in (let less = x.0 in omega (arith, e, less), x.1)
lifted (ends.Back dids.Nothing) d y before behind mine now e k = tt
lifted (ends.Back (dids.Copied t)) d y before behind mine now e k = tt
lifted (ends.Back (dids.Staged t)) d y before behind mine now e k = tt
lifted (ends.Back (dids.Skipped t)) d y before behind mine now e k = tt
lifted (ends.Back (dids.Destaged t)) d y before behind mine now e k = tt
lifted (ends.Back (dids.Fault side)) d y before behind mine now e k = tt
lifted (ends.Back (dids.BadBytes side)) d y before behind mine now e k = tt
lifted (ends.Second (parts.Ended c)) d y before behind mine now e k = tt
lifted (ends.Second (parts.Unwritten t)) d y before behind mine now e k = tt
lifted (ends.Started n) d y before behind mine now e k = tt
lifted (ends.NotStarted fault) d y before behind mine now e k = tt
lifted ends.Running d y before behind mine now e k = tt
lifted (ends.Stepped a) d y before behind mine now e k = tt
lifted ends.Idle d y before behind mine now e k = tt
lifted ends.Done d y before behind mine now e k = tt
lifted (ends.Pending n) d y before behind mine now e k = tt
lifted (ends.Refused fault) d y before behind mine now e k = tt

idle_at : (o : Option MarksDevice) (before behind : ℕ) → LowersAt ends.Idle o o before behind
idle_at (Some d) before behind = tt
idle_at None before behind = tt

done_at : (o : Option MarksDevice) (before behind : ℕ) → LowersAt ends.Done o o before behind
done_at (Some d) before behind = tt
done_at None before behind = tt

counted_if : (b : Bool) (x d : MarksDevice) (o : Option MarksDevice) → (if b then Some x else o) ≡ Some d → CountsFailures x →
    (o ≡ Some d → CountsFailures d) → CountsFailures d
counted_if true x d o here counts more = let same : x ≡ d = cc in subst CountsFailures same counts
counted_if false x d o here counts more = more here

counted_in : (ds : List MarksDevice) (n : ℕ) (d : MarksDevice) → device_in ds n ≡ Some d → All CountsFailures ds → CountsFailures d
counted_in [] n d here h = absurd (cc)
counted_in (x ∷ ds) n d here h =
    counted_if (x.store.device == n) x d (device_in ds n) here (All-head CountsFailures x ds h)
    (λ more. counted_in ds n d more (All-tail CountsFailures x ds h))

module _ (s : Subsystem) where
  own_by : (n : ℕ) (d : MarksDevice) → device_in (devices_of s) n ≡ Some d → (talk : Talk (Option EventEnd)) → AlwaysLowers d talk →
      (o : Option Mounted) → mounted_in s.mounted n ≡ o → LowersIn (Some n) (asks s n o talk)
  own_by n d here talk h None there = absurd (is_there s.mounted n d here there)
  own_by n d here talk h (Some m) there =
      let o = held_with s.pool m talk in
      let y = mounted_behind o in
      let e = h (told_to s.pool m) in
      let end = told_end o.answer in
      let before = waiting_in (devices_of s) in
      let behind = waiting_in (all_in (put_in s.mounted n y)) in
      let found : device_in (all_in (put_in s.mounted n y)) n ≡ Some o.state =
      put_found s.mounted n m y there (e.number ∙ number_found s.mounted n d here) in
      let sum : behind + waiting_of d ≡ before + waiting_of o.state =
      subst (λ (x : MarksDevice). behind + waiting_of x ≡ before + waiting_of o.state) (same_found s.mounted n d m here there)
      (put_sum s.mounted n m y there) in
      subst (λ (x : Option MarksDevice). LowersAt end x (device_in (all_in (put_in s.mounted n y)) n) before behind) (sym here)
      (subst (λ (x : Option MarksDevice). LowersAt end (Some d) x before behind) (sym found)
      (lifted end d o.state before behind (waiting_of d) (waiting_of o.state) sum e.lowers))

  own_lowers : (n : ℕ) (d : MarksDevice) → device_in (devices_of s) n ≡ Some d → (talk : Talk (Option EventEnd)) → AlwaysLowers d talk →
      LowersIn (Some n) (happens_by s (Asks d talk))
  own_lowers n d here talk h =
      subst (λ (k : ℕ). LowersIn (Some n) (asks s k (mounted_in s.mounted k) talk)) (sym (number_found s.mounted n d here))
      (own_by n d here talk h (mounted_in s.mounted n) refl)

  idle_lowers : (n : ℕ) → LowersIn (Some n) (quietly s s ends.Idle)
  idle_lowers n = idle_at (device_in (devices_of s) n) (waiting_in (devices_of s)) (waiting_in (devices_of s))

  done_lowers : (n : ℕ) → LowersIn (Some n) (quietly s s ends.Done)
  done_lowers n = done_at (device_in (devices_of s) n) (waiting_in (devices_of s)) (waiting_in (devices_of s))

  module _ (q : AreSo Good s.mounted) (counted : All CountsFailures (devices_of s)) where
    good_at : (n : ℕ) (d : MarksDevice) → device_in (devices_of s) n ≡ Some d → Good d
    good_at n d here = subst (λ (o : Option MarksDevice). IfSome o Good) here (device_so Good s.mounted n q)

    running_lowers : (n : ℕ) (d : MarksDevice) → device_in (devices_of s) n ≡ Some d → (b : Bool) →
        LowersIn (Some n) (happens_by s (if b then Asks d (may_end_by ends.Stepped (command by_plain d)) else Ends ends.Idle))
    running_lowers n d here true = own_lowers n d here (may_end_by ends.Stepped (command by_plain d)) (commanded d)
    running_lowers n d here false = idle_lowers n

    seconds_lower : (n : ℕ) (d : MarksDevice) → device_in (devices_of s) n ≡ Some d → LowersIn (Some n) (happens_by s (E.seconds by_plain d))
    seconds_lower n d here = own_lowers n d here (ends_by ends.Second (second by_plain d))
        (seconded d (good_at n d here) (counted_in (devices_of s) n d here counted))

    stepped_lowers : (n : ℕ) (d : MarksDevice) → device_in (devices_of s) n ≡ Some d → (b : Bool) →
        LowersIn (Some n) (happens_by s (if b then E.seconds by_plain d
        else if is_some d.history.running then Asks d (may_end_by ends.Stepped (command by_plain d)) else Ends ends.Idle))
    stepped_lowers n d here true = seconds_lower n d here
    stepped_lowers n d here false = running_lowers n d here (is_some d.history.running)

    step_on : (n : ℕ) (o : Option MarksDevice) → device_in (devices_of s) n ≡ o → LowersIn (Some n) (happens_by s (on_device o (step by_plain)))
    step_on n None here = done_lowers n
    step_on n (Some d) here = stepped_lowers n d here (is_some d.store.half)

    backed_lowers : (n : ℕ) (d : MarksDevice) → device_in (devices_of s) n ≡ Some d → (h : Option (HalfWrite (Unit {0}))) → d.store.half ≡ h →
        LowersIn (Some n) (happens_by s (if is_some h then E.seconds by_plain d else Asks d (may_end_by ends.Back (background by_plain d))))
    backed_lowers n d here (Some h) is = seconds_lower n d here
    backed_lowers n d here None none = own_lowers n d here (may_end_by ends.Back (background by_plain d)) (worked d (good_at n d here) none)

    back_on : (n : ℕ) (o : Option MarksDevice) → device_in (devices_of s) n ≡ o → LowersIn (Some n) (happens_by s (on_device o (back by_plain)))
    back_on n None here = done_lowers n
    back_on n (Some d) here = backed_lowers n d here d.store.half refl

    step_happens : (n : ℕ) → LowersIn (Some n) (happens s (events.Step n))
    unfolding H.happens E.deed
    step_happens n = step_on n (device_in (devices_of s) n) refl

    back_happens : (n : ℕ) → LowersIn (Some n) (happens s (events.Back n))
    unfolding H.happens E.deed
    back_happens n = back_on n (device_in (devices_of s) n) refl

    event_lowers : (e : Event) → LowersIn (asks_device (Once e)) (happens s e)
    event_lowers (events.Step n) = step_happens n
    event_lowers (events.Back n) = back_happens n
    event_lowers (events.Start path n) = tt
    event_lowers (events.Reset path n) = tt
    event_lowers events.FailCache = tt
    event_lowers events.FailStore = tt
    event_lowers (events.FailVolume n side) = tt
    event_lowers events.RepairCache = tt
    event_lowers events.RepairStore = tt
    event_lowers (events.Pair a b) = tt
    event_lowers (events.Suspend a) = tt
    event_lowers (events.Resume a) = tt
    event_lowers events.Power = tt

-- All lines

abbrev AreGood : Subsystem → Type 0
AreGood s = AreSo Good s.mounted

event_good : (s : Subsystem) → AreGood s → (e : Event) → AreGood (happens s e).behind
event_good s q e = event_so Good AnyEvent good_kept s q e tt

replaced_good : (s : Subsystem) → AreGood s → (d : ℕ) (side : Side) → AreGood (replaced s d side unfailing).behind
unfolding H.replaced
replaced_good s q d side = replaced_so Good AnyEvent good_kept s d side unfailing q (mounted_in s.mounted d) (mounted_so Good s.mounted d q)

unpaired_good : (s : Subsystem) → AreGood s → (a : ℕ) → AreGood (unpaired s a unfailing).behind
unfolding H.unpaired
unpaired_good s q a = unpaired_so Good AnyEvent good_kept s a unfailing q (mounted_in s.mounted a) (mounted_so Good s.mounted a q)

-- while failed calls are counted
abbrev LowersCounted : Logged → Type 0
LowersCounted x = CountFailures x → LowersWaiting x

counted_before : (s : Subsystem) (e : Event) → All CountsFailures (devices_of (happens s e).before) → All CountsFailures (devices_of s)
counted_before s e h = subst (λ (z : Subsystem). All CountsFailures (devices_of z)) (event_from s e) h

lines_lower : Goes AreGood (λ s. LowersCounted) AnyEvent
lines_lower = record {
  once = λ s e may q. (event_good s q e, λ h. event_lowers s q (counted_before s e h) e);
  stepped = λ s d q. (event_good s q (events.Step d), λ h. step_happens s q (counted_before s (events.Step d) h) d);
  idle = λ s d q. (q, λ h. idle_lowers s d);
  backed = λ s d q. (event_good s q (events.Back d), λ h. back_happens s q (counted_before s (events.Back d) h) d);
  replaces = λ s d side q. (replaced_good s q d side, λ h. tt);
  unpairs = λ s a q. (unpaired_good s q a, λ h. tt);
}

all_counted : (ts : List Logged) → All LowersCounted ts → All CountFailures ts → All LowersWaiting ts
all_counted [] h n = All-nil LowersWaiting
all_counted (t ∷ ts) h n =
    All-cons LowersWaiting t ts (All-head LowersCounted t ts h (All-head CountFailures t ts n))
    (all_counted ts (All-tail LowersCounted t ts h) (All-tail CountFailures t ts n))

run_counted : (firsts : Firsts) (deck : DeckLines) → IsServedDeck deck → All LowersCounted (run_on firsts deck).events
unfolding D.run_asked_on
run_counted firsts deck h = run_shows AreGood LowersCounted lines_lower (map asked_by deck.events) (opened_on firsts deck) (opened_good firsts deck deck.devices h.devices)

pub run_recovers : (firsts : Firsts) (deck : DeckLines) → IsServedDeck deck → All CountFailures (run_on firsts deck).events → All LowersWaiting (run_on firsts deck).events
run_recovers firsts deck h n = all_counted (run_on firsts deck).events (run_counted firsts deck h) n
