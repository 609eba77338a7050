-- What each event makes of each device, before it beside behind it, over all lines.
use Rattle.std.proofs.Common.{◌≡◌, ◌==◌, ℕ, Bool, true, false, List, [], ◌∷◌, map, Option, Some, None, refl, sym, ap, subst, ◌∙◌}
use Rattle.std.specs.Prelude.{All, ⊤, IfSome, if◌then◌else◌}
use Rattle.ckd_types.specs.declared.paths.Side.{Side}
use Rattle.ckd_types.specs.declared.paths.Side.TheVariants as sides
use Rattle.deck_text.specs.DeckLines.{DeckLines}
use Rattle.device_outside.specs.Interaction.{Done, and_then}
use Rattle.device_outside.specs.Pool.{Pool}
use Rattle.device_outside.specs.Told as T
use Rattle.device_outside.specs.Told.{Calls}
use Rattle.device_defs.specs.Contents.{by_plain}
use Rattle.device_defs.specs.Marks.{MarksDevice}
use Rattle.device_defs.specs.Orders.{lend, join, split, restore, replace}
use Rattle.device_defs.specs.Start as S
use Rattle.device_defs.specs.Start.{start}
use Rattle.subsystem_defs.specs.declared.end.EventEnd.{EventEnd}
use Rattle.subsystem_defs.specs.declared.end.OrderFault.{OrderFault}
use Rattle.subsystem_defs.specs.declared.event.Event.{Event}
use Rattle.subsystem_defs.specs.declared.event.Event.TheVariants as events
use Rattle.subsystem_defs.specs.Calm.{is_loss_event, asks_loss, fails_alone_by, fails_alone_of}
use Rattle.subsystem_defs.specs.Decks as D
use Rattle.subsystem_defs.specs.Decks.{Firsts, opened_on, run_on}
use Rattle.subsystem_defs.specs.Deeds.{Ends, Becomes, Asks, Each, Repairs, Lends, deed}
use Rattle.subsystem_defs.specs.Happening as H
use Rattle.subsystem_defs.specs.Happening.{EventHappened, MarksDeed, Talk, held_with, told_to, mounted_behind, behind_outcome, joined, lends, is_lent_to, restored_in, asks, becomes, happens_by, happens, sweep, replaced_by, replaced_at, replaced, unpaired_by, unpaired_at, unpaired}
use Rattle.subsystem_defs.specs.Lines.{Logged, Replace, Unpair, logged, asked_by}
use Rattle.subsystem_defs.specs.Refusals.{replace_fault, unpair_fault}
use Rattle.subsystem_defs.specs.Subsystem.{Mounted, Subsystem, number_of, devices_of, mounted_in, put_in, with_calls, unfailing}
use Rattle.subsystem_laws.specs.Causes.{EachPair}
use Rattle.subsystem_laws.specs.Served.{IsServedDeck}
use Rattle.subsystem_laws.specs.Came.{CameTo}
use Rattle.subsystem_laws.proofs.Came.{answered, told_came}
use Rattle.subsystem_laws.proofs.DeedWalk.{IsSeat, Stands, seat_of, IsEventwise, event_deed_is, IsDeedwise}
use Rattle.subsystem_laws.proofs.RunLines.{AnyEvent, Goes, run_shows}
use Rattle.subsystem_laws.proofs.RunLinks.{event_from}
use Rattle.subsystem_laws.proofs.TracksKept.{Fair, fair_kept, opened_fair}
use Rattle.subsystem_laws.proofs.Walks.{AreSo, device_so, mounted_so, event_so, replaced_so, unpaired_so}

-- Devices before and behind, pair by pair

abbrev pub Pairs : (MarksDevice → MarksDevice → Type 0) → List Mounted → List Mounted → Type 0
Pairs r ms ks = EachPair r (map (λ (m : Mounted). m.device) ms) (map (λ (m : Mounted). m.device) ks)

module _ (r : MarksDevice → MarksDevice → Type 0) (own : (d : MarksDevice) → r d d) where
  pub pairs_same : (ms : List Mounted) → Pairs r ms ms
  pairs_same [] = tt
  pairs_same (m ∷ ms) = (own m.device, pairs_same ms)

  put_if : (n : ℕ) (y m : Mounted) (ms : List Mounted) (b : Bool) →
      ((k : Mounted) → (if b then Some m else mounted_in ms n) ≡ Some k → r k.device y.device) →
      (((k : Mounted) → mounted_in ms n ≡ Some k → r k.device y.device) → Pairs r ms (put_in ms n y)) →
      Pairs r (m ∷ ms) (if b then y ∷ ms else m ∷ put_in ms n y)
  put_if n y m ms true h more = (h m refl, pairs_same ms)
  put_if n y m ms false h more = (own m.device, more h)

  -- another one in the place of a device
  pub pairs_put : (n : ℕ) (y : Mounted) (ms : List Mounted) → ((k : Mounted) → mounted_in ms n ≡ Some k → r k.device y.device) → Pairs r ms (put_in ms n y)
  pairs_put n y [] h = tt
  pairs_put n y (m ∷ ms) h = put_if n y m ms (number_of m == n) h (pairs_put n y ms)

  pairs_swept : (f : MarksDevice → Talk (Unit {0})) → ((d : MarksDevice) (t : CameTo (f d)) → r d t.state) → (ms : List Mounted) (pool : Pool) →
      Pairs r ms (sweep f ms pool).mounted
  unfolding H.sweep
  pairs_swept f h [] pool = tt
  pairs_swept f h (m ∷ ms) pool = (h m.device (told_came (f m.device) (told_to pool m)), pairs_swept f h ms (held_with pool m (f m.device)).told.pool)

pub pairs_on : (r q g : MarksDevice → MarksDevice → Type 0) → ((x y z : MarksDevice) → r x y → q y z → g x z) → (xs ys zs : List MarksDevice) →
    EachPair r xs ys → EachPair q ys zs → EachPair g xs zs
pairs_on r q g on [] [] [] p f = tt
pairs_on r q g on [] [] (z ∷ zs) p f = absurd f
pairs_on r q g on [] (y ∷ ys) zs p f = absurd p
pairs_on r q g on (x ∷ xs) [] zs p f = absurd p
pairs_on r q g on (x ∷ xs) (y ∷ ys) [] p f = absurd f
pairs_on r q g on (x ∷ xs) (y ∷ ys) (z ∷ zs) p f = (on x y z p.0 f.0, pairs_on r q g on xs ys zs p.1 f.1)

pub pairs_weaker : (r q : MarksDevice → MarksDevice → Type 0) → ((x y : MarksDevice) → r x y → q x y) → (xs ys : List MarksDevice) → EachPair r xs ys →
    EachPair q xs ys
pairs_weaker r q so [] [] p = tt
pairs_weaker r q so [] (y ∷ ys) p = absurd p
pairs_weaker r q so (x ∷ xs) [] p = absurd p
pairs_weaker r q so (x ∷ xs) (y ∷ ys) p = (so x y p.0, pairs_weaker r q so xs ys p.1)

pub some_is : (x y : Mounted) → Some x ≡ Some y → x ≡ y
some_is x y e = cc

-- What orders and what a device's own event make of it

-- an event is a loss, or one of a volume that is alone
module _ (Still : MarksDevice → MarksDevice → Type 0) (Made : Bool → Bool → MarksDevice → MarksDevice → Type 0) where
  abbrev pub MadeBy : Subsystem → Event → MarksDevice → MarksDevice → Type 0
  MadeBy s e = Made (is_loss_event e) (fails_alone_by s e)

  abbrev pub KeepsEvent : Subsystem → Event → MarksDeed → Type 0
  KeepsEvent s e (Ends end) = ⊤
  KeepsEvent s e (Becomes d end) = (m : Mounted) → mounted_in s.mounted d.store.device ≡ Some m → Still m.device d
  KeepsEvent s e (Asks d talk) = IsSeat s d × ((t : CameTo talk) → MadeBy s e d t.state)
  KeepsEvent s e (Each pool f) = (d : MarksDevice) (t : CameTo (f d)) → MadeBy s e d t.state
  KeepsEvent s e (Repairs pool) = ⊤
  KeepsEvent s e (Lends a b) = IsSeat s b × ((t : CameTo (lend by_plain b a.store.device)) → Still b t.state)

  pub record IsPairwise : Type 0 where
    pub own : (d : MarksDevice) → Still d d
    pub on : (x y z : MarksDevice) → Still x y → Still y z → Still x z
    pub made : (lossy alone : Bool) (x y : MarksDevice) → Still x y → Made lossy alone x y
    pub joins : (d : MarksDevice) → Still d (join d)
    pub splits : (d : MarksDevice) → unpair_fault d ≡ None → Still d (split d)
    pub replaces : (d : MarksDevice) (side : Side) → replace_fault d side ≡ None → Still d (replace d side)
    pub restores : (d : MarksDevice) (a : ℕ) → is_lent_to d.store.lent a ≡ true → Still d (restore d)
    pub deeds : (s : Subsystem) → AreSo Fair s.mounted → IsEventwise s (KeepsEvent s)

  module _ (k : IsPairwise) where
    made_own : (lossy alone : Bool) (d : MarksDevice) → Made lossy alone d d
    made_own lossy alone d = k.made lossy alone d d (k.own d)

    abbrev Shows : Bool → Bool → EventHappened → Type 0
    Shows lossy alone h = EachPair (Made lossy alone) (devices_of h.before) (devices_of h.behind)

    still_shows : (lossy alone : Bool) (s : Subsystem) (ms : List Mounted) → Pairs Still s.mounted ms → Pairs (Made lossy alone) s.mounted ms
    still_shows lossy alone s ms p = pairs_weaker Still (Made lossy alone) (k.made lossy alone) (devices_of s) (map (λ (m : Mounted). m.device) ms) p

    put_same : (s : Subsystem) (n : ℕ) (m y : Mounted) → mounted_in s.mounted n ≡ Some m → Still m.device y.device →
        Pairs Still s.mounted (put_in s.mounted n y)
    put_same s n m y there is =
        pairs_put Still k.own n y s.mounted (λ x at. subst (λ (z : Mounted). Still z.device y.device) (some_is m x (sym there ∙ at)) is)

    becomes_shown : (s : Subsystem) (d : MarksDevice) → ((m : Mounted) → mounted_in s.mounted d.store.device ≡ Some m → Still m.device d) →
        (o : Option Mounted) → Pairs Still s.mounted (becomes s d.store.device o d).mounted
    becomes_shown s d h None = pairs_same Still k.own s.mounted
    becomes_shown s d h (Some m) = pairs_put Still k.own d.store.device (record m { device = d }) s.mounted h

    asks_shown : (lossy alone : Bool) (s : Subsystem) (d : MarksDevice) → IsSeat s d → (talk : Talk (Option EventEnd)) →
        ((t : CameTo talk) → Made lossy alone d t.state) → (o : Option Mounted) → Shows lossy alone (asks s d.store.device o talk)
    asks_shown lossy alone s d seat talk h None = pairs_same (Made lossy alone) (made_own lossy alone) s.mounted
    asks_shown lossy alone s d seat talk h (Some m) =
        pairs_put (Made lossy alone) (made_own lossy alone) d.store.device (mounted_behind (held_with s.pool m talk)) s.mounted
        (λ x there. subst (λ (z : MarksDevice). Made lossy alone z (held_with s.pool m talk).state) (sym (seat x there))
        (h (told_came talk (told_to s.pool m))))

    joined_shown : (z : Subsystem) (n : ℕ) (volume : Calls) (o : Option Mounted) → mounted_in z.mounted n ≡ o →
        Pairs Still z.mounted (joined z n volume o).mounted
    joined_shown z n volume None there = pairs_same Still k.own z.mounted
    joined_shown z n volume (Some m) there = put_same z n m (record m { device = join m.device; b = volume }) there (k.joins m.device)

    lends_shown : (s : Subsystem) (a : ℕ) (d : MarksDevice) → IsSeat s d → ((t : CameTo (lend by_plain d a)) → Still d t.state) →
        (o : Option Mounted) →
        mounted_in s.mounted d.store.device ≡ o → Pairs Still s.mounted (lends s a d.store.device o).mounted
    lends_shown s a d seat h None there = pairs_same Still k.own s.mounted
    lends_shown s a d seat h (Some m) there =
        let o = held_with s.pool m (lend by_plain m.device a) in
        let z = behind_outcome s d.store.device o in
        pairs_on Still Still Still k.on (devices_of s) (devices_of z) (devices_of (joined z a o.told.a (mounted_in z.mounted a)))
        (put_same s d.store.device m (mounted_behind o) there
        (subst (λ (x : MarksDevice). Still x (T.hold true (lend by_plain x a) (told_to s.pool m)).state) (sym (seat m there))
        (h (told_came (lend by_plain d a) (told_to s.pool m)))))
        (joined_shown z a o.told.a (mounted_in z.mounted a) refl)

    happens_shown : (s : Subsystem) (e : Event) (x : MarksDeed) → KeepsEvent s e x → Shows (is_loss_event e) (fails_alone_by s e) (happens_by s x)
    happens_shown s e (Ends end) h = pairs_same (MadeBy s e) (made_own (is_loss_event e) (fails_alone_by s e)) s.mounted
    happens_shown s e (Becomes d end) h =
        still_shows (is_loss_event e) (fails_alone_by s e) s (becomes s d.store.device (mounted_in s.mounted d.store.device) d).mounted
        (becomes_shown s d h (mounted_in s.mounted d.store.device))
    happens_shown s e (Asks d talk) h = asks_shown (is_loss_event e) (fails_alone_by s e) s d h.0 talk h.1 (mounted_in s.mounted d.store.device)
    happens_shown s e (Each pool f) h = pairs_swept (MadeBy s e) (made_own (is_loss_event e) (fails_alone_by s e)) f h s.mounted pool
    happens_shown s e (Repairs pool) h = pairs_same (MadeBy s e) (made_own (is_loss_event e) (fails_alone_by s e)) s.mounted
    happens_shown s e (Lends a b) h =
        still_shows (is_loss_event e) (fails_alone_by s e) s (lends s a.store.device b.store.device (mounted_in s.mounted b.store.device)).mounted
        (lends_shown s a.store.device b h.0 h.1 (mounted_in s.mounted b.store.device) refl)

    event_shown : (s : Subsystem) → AreSo Fair s.mounted → (e : Event) → Shows (is_loss_event e) (fails_alone_by s e) (happens s e)
    unfolding H.happens
    event_shown s p e = happens_shown s e (deed by_plain s.pool (devices_of s) e) (event_deed_is s (KeepsEvent s) (k.deeds s p) e)

    -- The two orders for which a volume is handed in

    with_still : (d : MarksDevice) (m : Mounted) (side : Side) (calls : Calls) → Still d m.device → Still d (with_calls m side calls).device
    with_still d m sides.A calls is = is
    with_still d m sides.B calls is = is

    abbrev Orders : EventHappened → Type 0
    Orders h = Shows false false h

    unordered : (s : Subsystem) → Pairs (Made false false) s.mounted s.mounted
    unordered s = pairs_same (Made false false) (made_own false false) s.mounted

    replaced_shown : (s : Subsystem) (n : ℕ) (side : Side) (calls : Calls) (o : Option Mounted) → mounted_in s.mounted n ≡ o →
        Orders (replaced_at s n side calls o)
    replaced_shown s n side calls None there = unordered s
    replaced_shown s n side calls (Some m) there = by_fault (replace_fault m.device side) refl where
      by_fault : (o : Option OrderFault) → replace_fault m.device side ≡ o → Orders (replaced_by s n side calls m o)
      by_fault (Some fault) is = unordered s
      by_fault None is =
          let y : Mounted = record m { device = replace m.device side } in
          still_shows false false s (put_in s.mounted n (with_calls y side calls))
          (put_same s n m (with_calls y side calls) there (with_still m.device y side calls (k.replaces m.device side is)))

    restored_shown : (ms : List Mounted) (a : ℕ) (calls : Calls) → Pairs Still ms (restored_in ms a calls)
    restored_shown [] a calls = tt
    restored_shown (m ∷ ms) a calls = by_lent (is_lent_to m.device.store.lent a) refl (restored_shown ms a calls) where
      by_lent : (b : Bool) → is_lent_to m.device.store.lent a ≡ b → Pairs Still ms (restored_in ms a calls) →
          Pairs Still (m ∷ ms) (if b then record m { device = restore m.device; a = calls } ∷ ms else m ∷ restored_in ms a calls)
      by_lent true is later = (k.restores m.device a is, pairs_same Still k.own ms)
      by_lent false is later = (k.own m.device, later)

    unpaired_shown : (s : Subsystem) (n : ℕ) (calls : Calls) (o : Option Mounted) → mounted_in s.mounted n ≡ o → Orders (unpaired_at s n calls o)
    unpaired_shown s n calls None there = unordered s
    unpaired_shown s n calls (Some m) there = by_fault (unpair_fault m.device) refl where
      by_fault : (o : Option OrderFault) → unpair_fault m.device ≡ o → Orders (unpaired_by s n calls m o)
      by_fault (Some fault) is = unordered s
      by_fault None is =
          let x : Mounted = record m { device = split m.device } in
          let ms = put_in s.mounted n x in
          let ks = restored_in ms n calls in
          still_shows false false s ks
          (pairs_on Still Still Still k.on (devices_of s) (map (λ (z : Mounted). z.device) ms) (map (λ (z : Mounted). z.device) ks)
          (put_same s n m x there (k.splits m.device is)) (restored_shown ms n calls))

    -- All lines

    abbrev AreFair : Subsystem → Type 0
    AreFair s = AreSo Fair s.mounted

    abbrev pub ShowsAll : Logged → Type 0
    ShowsAll x = Shows (asks_loss x.asked) (fails_alone_of x.happened.before x.asked) x.happened

    replace_goes : (s : Subsystem) → AreFair s → (d : ℕ) (side : Side) →
        AreFair (replaced s d side unfailing).behind × ShowsAll (logged (Replace d side) (replaced s d side unfailing))
    unfolding H.replaced
    replace_goes s q d side = (
      replaced_so Fair AnyEvent fair_kept s d side unfailing q (mounted_in s.mounted d) (mounted_so Fair s.mounted d q),
      replaced_shown s d side unfailing (mounted_in s.mounted d) refl,
    )

    unpair_goes : (s : Subsystem) → AreFair s → (a : ℕ) → AreFair (unpaired s a unfailing).behind × ShowsAll (logged (Unpair a) (unpaired s a unfailing))
    unfolding H.unpaired
    unpair_goes s q a = (
      unpaired_so Fair AnyEvent fair_kept s a unfailing q (mounted_in s.mounted a) (mounted_so Fair s.mounted a q),
      unpaired_shown s a unfailing (mounted_in s.mounted a) refl,
    )

    pairs_go : Goes AreFair (λ s. ShowsAll) AnyEvent
    pairs_go = record {
      once = λ s e may q. (
        event_so Fair AnyEvent fair_kept s q e tt,
        subst (λ (z : Subsystem). Shows (is_loss_event e) (fails_alone_by z e) (happens s e)) (sym (event_from s e)) (event_shown s q e),
      );
      stepped = λ s d q. (event_so Fair AnyEvent fair_kept s q (events.Step d) tt, event_shown s q (events.Step d));
      idle = λ s d q. (q, unordered s);
      backed = λ s d q. (event_so Fair AnyEvent fair_kept s q (events.Back d) tt, event_shown s q (events.Back d));
      replaces = λ s d side q. replace_goes s q d side;
      unpairs = λ s a q. unpair_goes s q a;
    }

    pub run_pairs : (firsts : Firsts) (deck : DeckLines) → IsServedDeck deck → All ShowsAll (run_on firsts deck).events
    unfolding D.run_asked_on
    run_pairs firsts deck h = run_shows AreFair ShowsAll pairs_go (map asked_by deck.events) (opened_on firsts deck) (opened_fair firsts deck deck.devices h.devices)

-- whatever event it is of
module _ (Still Made : MarksDevice → MarksDevice → Type 0) where
  abbrev pub KeepsDeed : Subsystem → MarksDeed → Type 0
  KeepsDeed s x = KeepsEvent Still (λ lossy alone. Made) s events.Power x

  pub deeds_of : (s : Subsystem) → IsDeedwise s (KeepsDeed s) → IsEventwise s (KeepsEvent Still (λ lossy alone. Made) s)
  deeds_of s k = record {
    ended = λ e end. tt;
    started = λ path n d x fault. k.started d x path fault;
    seconded = λ e calm d x h is. k.seconded d x h is;
    commanded = λ n d x whole o running. k.commanded d x whole o running;
    worked = λ n d x whole. k.worked d x whole;
    cut = λ path n d x. k.cut d x path;
    lost_cache = k.lost_cache;
    lost_store = k.lost_store;
    lost_side = λ n d x here side fault. k.lost_side d x side fault;
    lost_power = k.lost_power;
    repaired_cache = tt;
    repaired_store = tt;
    lent = λ a b x y z w fault. k.lent x y z w fault;
    held = λ n d x fault. k.held d x fault;
    resumed = λ n d x fault. k.resumed d x fault;
  }

  -- an answer is an event's end
  pub ends_made : {X Y : Type 0} (d : MarksDevice) (talk : Talk X) (f : X → Y) → ((t : CameTo talk) → Made d t.state) →
      (t : CameTo (and_then talk (λ z a. Done z (f a)))) → Made d t.state
  ends_made d talk f h t = h (answered talk f t)

  pub becomes_so : (s : Subsystem) (d : MarksDevice) → Stands s d → (z : MarksDevice) → z.store.device ≡ d.store.device → Still d z → (end : EventEnd) →
      KeepsDeed s (Becomes z end)
  becomes_so s d x z number is end =
      λ m there. subst (λ (y : MarksDevice). Still y z) (sym (seat_of s d x m (ap (mounted_in s.mounted) (sym number) ∙ there))) is

pub fair_of : (s : Subsystem) → AreSo Fair s.mounted → (d : MarksDevice) → Stands s d → Fair d
fair_of s p d x = subst (λ (o : Option MarksDevice). IfSome o Fair) x.found (device_so Fair s.mounted x.number p)

pub started_number : (d : MarksDevice) (path : ℕ) → (start d path).store.device ≡ d.store.device
unfolding S.start
started_number d path = refl
