-- Over a calm run, in which each failure comes where the last one was repaired, no program misses its command and no track is lost.
use Rattle.std.proofs.Common.{
  ◌≡◌,
  ◌<◌,
  ◌≤◌,
  ◌+◌,
  ◌-◌,
  ◌==◌,
  zero,
  suc,
  ℕ,
  Bool,
  true,
  false,
  not,
  List,
  [],
  ◌∷◌,
  length,
  map,
  Option,
  Some,
  None,
  refl,
  sym,
  ap,
  subst,
  ◌∙◌,
  arith,
  ◌⊎◌,
  inl,
  inr,
}
use Rattle.std.proofs.lemmas.Bool.{eqb-true, leb-true}
use Rattle.std.proofs.lemmas.List.Elements.{All-head, All-tail}
use Rattle.std.specs.Prelude.{All, ◌*◌, if◌then◌else◌, ◌&&◌, ◌||◌, ◌^◌, nat_le}
use Rattle.ckd_types.specs.declared.paths.Side.{Side}
use Rattle.deck_text.specs.declared.line.DeviceLine.{DeviceLine}
use Rattle.deck_text.specs.DeckLines.{DeckLines}
use Rattle.loss_model.specs.declared.Loss.TheVariants as losses
use Rattle.plain_defs.specs.History.{OpenEntry}
use Rattle.plain_defs.specs.declared.journal.Item.{Item}
use Rattle.plain_defs.specs.declared.journal.Item.TheVariants as items
use Rattle.plain_defs.specs.Journal.{last_sense}
use Rattle.track_image.specs.Image.{Image}
use Rattle.device_outside.specs.Interaction.{Interaction, Done, Try, Ask, Read, Write, Tell, and_then}
use Rattle.device_outside.specs.Keeper.{reply}
use Rattle.device_outside.specs.Pool.{answer, after}
use Rattle.device_outside.specs.Told as T
use Rattle.device_outside.specs.Told.{Told, calls_of, read_fails, write_fails, told_read, told_write}
use Rattle.device_defs.specs.Command.{has_loss, command}
use Rattle.device_defs.specs.Contents.{by_plain}
use Rattle.device_defs.specs.Cutting.{reset, power}
use Rattle.device_defs.specs.Events.{second, lose, background}
use Rattle.device_defs.specs.Excused.{count_lost, is_checked, is_data_check, is_equipment_check}
use Rattle.device_defs.specs.Marks.{MarksDevice}
use Rattle.device_defs.specs.Orders.{hold_side, resume}
use Rattle.device_defs.specs.Pledge.{ends_with_data_check}
use Rattle.device_defs.specs.Start.{start, next_ordinal}
use Rattle.device_defs.specs.Store.{HalfWrite}
use Rattle.device_laws.proofs.Based.{kept, based_any}
use Rattle.device_laws.proofs.BasedEvents.{with_one_loss, command_based, second_based, background_based, lose_based, power_based, reset_body}
use Rattle.device_laws.proofs.KeptHistories.{AreNot, none_came}
use Rattle.device_laws.proofs.LossLaws.{kept_counts}
use Rattle.device_laws.proofs.Lucky.{top}
use Rattle.track_table.proofs.Places.{empty_places}
use Rattle.subsystem_defs.specs.Calm as C
use Rattle.subsystem_defs.specs.Calm.{
  are_whole,
  is_whole,
  is_whole_device,
  is_done,
  is_loss_event,
  asks_loss,
  ordered,
  failed_calls,
  failed_in,
  losses_in,
  is_alone,
  fails_alone_by,
  fails_alone_of,
  fails_alone,
  is_calm_event,
  is_calm,
}
use Rattle.subsystem_defs.specs.Decks as D
use Rattle.subsystem_defs.specs.Decks.{is_same, Firsts, opened_device_on, opened_on, run_on}
use Rattle.subsystem_defs.specs.declared.end.EventEnd.{EventEnd}
use Rattle.subsystem_defs.specs.declared.end.EventEnd.TheVariants as ends
use Rattle.subsystem_defs.specs.declared.end.OrderFault.{OrderFault}
use Rattle.subsystem_defs.specs.declared.event.Event.{Event}
use Rattle.subsystem_defs.specs.declared.event.Event.TheVariants as events
use Rattle.subsystem_defs.specs.Deeds as E
use Rattle.subsystem_defs.specs.Deeds.{Ends, Asks, Each, deed, device_in, on_device, order, ends_by, ends_done, end_of}
use Rattle.subsystem_defs.specs.Happening as H
use Rattle.subsystem_defs.specs.Happening.{EventHappened, MarksDeed, asks, happens_by, happens, told_end, held_with}
use Rattle.subsystem_defs.specs.Lines.{Asked, Once, Replace, Unpair, Run, Settle, Logged, asked_by}
use Rattle.subsystem_defs.specs.Promised as P
use Rattle.subsystem_defs.specs.Promised.{is_served, are_served, misses_nothing, all_miss_nothing, miss_nothing}
use Rattle.subsystem_defs.specs.Refusals.{fail_fault}
use Rattle.subsystem_defs.specs.Subsystem.{Mounted, Subsystem, devices_of, mounted_in}
use Rattle.subsystem_laws.specs.Causes.{HasNoDataCheck, HaveNoDataCheck, EachPair}
use Rattle.subsystem_laws.specs.Served.{IsServedDeck}
use Rattle.subsystem_laws.proofs.CalmDevices.{Calm, is_unserved}
use Rattle.subsystem_laws.specs.Came.{CameTo}
use Rattle.subsystem_laws.proofs.CalmEvents.{
  Losing,
  StillCalm,
  MadeCalm,
  rises,
  command_calm,
  second_calm,
  background_calm,
  reset_calm,
  cache_calm,
  store_calm,
  side_calm,
  power_calm,
  start_still,
  join_still,
  split_still,
  restore_still,
  hold_still,
  resume_still,
  replace_still,
  lend_still,
}
use Rattle.subsystem_laws.proofs.DataChecks.{run_has_no_data_check}
use Rattle.subsystem_laws.proofs.DeedWalk.{seat_of, IsEventwise}
use Rattle.subsystem_laws.proofs.Pairing.{KeepsEvent, IsPairwise, ShowsAll, run_pairs, ends_made, becomes_so, fair_of, started_number}
use Rattle.subsystem_laws.proofs.RunLines.{AnyEvent, Goes, run_shows}
use Rattle.subsystem_laws.proofs.RunLinks.{Linked, event_from, lines_linked}
use Rattle.subsystem_laws.proofs.TracksKept.{Fair, fair_kept, opened_fair}
use Rattle.subsystem_laws.proofs.Walks.{AreSo, run_keeps}

-- Events and orders, device by device

module _ (d : MarksDevice) where
  command_made : (o : OpenEntry) → d.history.running ≡ Some o → d.store.half ≡ None → (t : CameTo (command by_plain d)) →
      MadeCalm false false d t.state
  command_made o running whole t = record {
    more = λ f. rises d f (kept d.store) (command by_plain d) refl (command_based by_plain d) t;
    calm = λ how f lt x. command_calm d f lt x o running whole t how;
  }

  second_made : (lossy alone : Bool) → lossy ≡ false → (h : HalfWrite (Unit {0})) → d.store.half ≡ Some h → (t : CameTo (second by_plain d)) →
      MadeCalm lossy alone d t.state
  second_made false alone e h is t = record {
    more = λ f. rises d f (kept d.store) (second by_plain d) refl (second_based by_plain d) t;
    calm = λ how f lt x. second_calm d f lt x h is t how;
  }
  second_made true alone e h is t = absurd (cc)

  background_made : d.store.half ≡ None → (t : CameTo (background by_plain d)) → MadeCalm false false d t.state
  background_made whole t = record {
    more = λ f. rises d f (kept d.store) (background by_plain d) refl (background_based by_plain d) t;
    calm = λ how f lt x. background_calm d f lt x whole t how;
  }

  reset_made : (path : ℕ) (t : CameTo (reset by_plain d path)) → MadeCalm false false d t.state
  reset_made path t = record {
    more = λ f. rises d f (kept d.store) (reset by_plain d path) refl (based_any (reset_body by_plain d path)) t;
    calm = λ how f lt x. reset_calm d f lt x path t;
  }

  side_made : (alone : Bool) (side : Side) → fail_fault d side ≡ None → (alone ≡ false → d.store.paired ≡ true) →
      (t : CameTo (lose by_plain d (losses.Side side))) → MadeCalm true alone d t.state
  side_made alone side fault paired t = record {
    more = λ f. rises d f (with_one_loss (losses.Side side) (kept d.store)) (lose by_plain d (losses.Side side)) refl
        (lose_based by_plain d (losses.Side side)) t;
    calm = λ how f lt x. side_calm d f lt x how.1 side fault (paired how.0) t;
  }

cache_made : (d : MarksDevice) (t : CameTo (lose by_plain d losses.Cache)) → MadeCalm true false d t.state
cache_made d t = record {
  more = λ f. rises d f (with_one_loss losses.Cache (kept d.store)) (lose by_plain d losses.Cache) refl (lose_based by_plain d losses.Cache) t;
  calm = λ how f lt x. cache_calm d f lt x how.1 t;
}

store_made : (d : MarksDevice) (t : CameTo (lose by_plain d losses.Store)) → MadeCalm true false d t.state
store_made d t = record {
  more = λ f. rises d f (with_one_loss losses.Store (kept d.store)) (lose by_plain d losses.Store) refl (lose_based by_plain d losses.Store) t;
  calm = λ how f lt x. store_calm d f lt x how.1 t;
}

power_made : (d : MarksDevice) (t : CameTo (power by_plain d)) → MadeCalm true false d t.state
power_made d t = record {
  more = λ f. rises d f (with_one_loss losses.Cache (kept d.store)) (power by_plain d) refl (power_based by_plain d) t;
  calm = λ how f lt x. power_calm d f lt x how.1 t;
}

alone_not : (o : Option MarksDevice) (d : MarksDevice) → o ≡ Some d → is_alone o ≡ false → d.store.paired ≡ true
alone_not o d e alone = is_on d.store.paired (sym (ap is_alone e) ∙ alone) where
  is_on : (b : Bool) → not b ≡ false → b ≡ true
  is_on true e = refl
  is_on false e = absurd (cc)

calm_deeds : (s : Subsystem) → AreSo Fair s.mounted → IsEventwise s (KeepsEvent StillCalm MadeCalm s)
calm_deeds s p = record {
  ended = λ e end. tt;
  started = λ path n d x fault.
      becomes_so StillCalm StillCalm s d x (start d path) (started_number d path) (start_still d path) (ends.Started (next_ordinal d path));
  seconded = λ e calm d x h is. (
    seat_of s d x,
    ends_made StillCalm (MadeCalm (is_loss_event e) (fails_alone_by s e)) d (second by_plain d) (λ a. Some (ends.Second a))
        (second_made d (is_loss_event e) (fails_alone_by s e) calm h is),
  );
  commanded = λ n d x whole o running. (
    seat_of s d x,
    ends_made StillCalm (MadeCalm false false) d (command by_plain d) (end_of ends.Stepped) (command_made d o running whole),
  );
  worked = λ n d x whole. (
    seat_of s d x,
    ends_made StillCalm (MadeCalm false false) d (background by_plain d) (end_of ends.Back) (background_made d whole),
  );
  cut = λ path n d x. (
    seat_of s d x,
    ends_made StillCalm (MadeCalm false false) d (reset by_plain d path) (λ a. Some (ends_done a)) (reset_made d path),
  );
  lost_cache = cache_made;
  lost_store = store_made;
  lost_side = λ n d x here side fault. (
    seat_of s d x,
    ends_made StillCalm (MadeCalm true (is_alone (device_in (devices_of s) n))) d (lose by_plain d (losses.Side side)) (λ a. Some (ends_done a))
        (side_made d (is_alone (device_in (devices_of s) n)) side fault (alone_not (device_in (devices_of s) n) d here)),
  );
  lost_power = power_made;
  repaired_cache = tt;
  repaired_store = tt;
  lent = λ a b x y z w fault. (seat_of s y w, lend_still x y fault (fair_of s p x z) (fair_of s p y w));
  held = λ n d x fault. becomes_so StillCalm StillCalm s d x (hold_side d) refl (hold_still d fault) ends.Done;
  resumed = λ n d x fault. becomes_so StillCalm StillCalm s d x (resume d) refl (resume_still d) ends.Done;
}

least_on : (n m k : ℕ) → n ≤ m → m ≤ k → n ≤ k
least_on n m k p q = omega (arith, p, q)

calm_pairwise : IsPairwise StillCalm MadeCalm
calm_pairwise = record {
  own = λ d. record { more = omega arith; calm = λ x. x };
  on = λ x y z p q. record { more = least_on x.store.counts.failed y.store.counts.failed z.store.counts.failed p.more q.more; calm = λ c. q.calm (p.calm c) };
  made = λ lossy alone x y p. record { more = λ f. p.more; calm = λ how f lt c. p.calm c };
  joins = join_still;
  splits = split_still;
  replaces = replace_still;
  restores = λ d a is. restore_still d;
  deeds = calm_deeds;
}

-- A loss that was refused changes nothing

answer_done : {X : Type 0} (i : Interaction Bool Image MarksDevice X) (f : X → Option EventEnd) → ((a : X) → is_done (told_end (f a)) ≡ true) → (t : Told) →
    is_done (told_end (T.hold true (and_then i (λ z a. Done z (f a))) t).answer) ≡ true
unfolding T.hold
answer_done (Done s a) f h t = h a
answer_done (Try k) f h t = answer_done (k true) f h t
answer_done (Ask call k) f h t = answer_done (k (answer t.pool call)) f h (record t { pool = after t.pool call (answer t.pool call) })
answer_done (Read side q k) f h t = answer_done (k (if read_fails (calls_of t side) then None else Some true)) f h (told_read t side)
answer_done (Write side q r k) f h t = answer_done (k (if write_fails (calls_of t side) then false else true)) f h (told_write t side)
answer_done (Tell m k) f h t = answer_done (k (reply m)) f h t

both_ways : {X : Type 0} (b : Bool) → b ≡ true → b ≡ false → X
both_ways true e f = absurd (cc)
both_ways false e f = absurd (cc)

module _ (s : Subsystem) where
  abbrev IsSame : MarksDeed → Type 0
  IsSame x = is_done (happens_by s x).end ≡ false → (happens_by s x).behind ≡ s

  same_if : (b : Bool) (end : EventEnd) (x : MarksDeed) → is_done (happens_by s x).end ≡ true → IsSame (if b then Ends end else x)
  same_if true end x done = λ e. refl
  same_if false end x done = λ e. both_ways (is_done (happens_by s x).end) done e

  asks_same : (d : MarksDevice) (side : Side) (o : Option Mounted) →
      is_done (asks s d.store.device o (ends_by ends_done (lose by_plain d (losses.Side side)))).end ≡ false →
      (asks s d.store.device o (ends_by ends_done (lose by_plain d (losses.Side side)))).behind ≡ s
  asks_same d side None e = refl
  asks_same d side (Some m) e =
      both_ways _ (answer_done (lose by_plain d (losses.Side side)) (λ a. Some (ends_done a)) (λ a. refl) (H.told_to s.pool m)) e

  order_same : (d : MarksDevice) (side : Side) (o : Option OrderFault) → IsSame (order o (Asks d (ends_by ends_done (lose by_plain d (losses.Side side)))))
  order_same d side (Some fault) = λ e. refl
  order_same d side None = λ e. asks_same d side (mounted_in s.mounted d.store.device) e

  volume_same : (side : Side) (o : Option MarksDevice) →
      IsSame (on_device o (λ d. order (fail_fault d side) (Asks d (ends_by ends_done (lose by_plain d (losses.Side side))))))
  volume_same side None = λ e. refl
  volume_same side (Some d) = order_same d side (fail_fault d side)

  refused_same : (e : Event) → is_loss_event e ≡ true → is_done (happens s e).end ≡ false → (happens s e).behind ≡ s
  unfolding H.happens E.deed
  refused_same events.FailCache is done = same_if (not s.pool.cache_up) _ _ refl done
  refused_same events.FailStore is done = same_if (not s.pool.store_up) _ _ refl done
  refused_same (events.FailVolume n side) is done = volume_same side (device_in (devices_of s) n) done
  refused_same events.Power is done = absurd (cc)
  refused_same (events.Start path n) is done = absurd (cc)
  refused_same (events.Step n) is done = absurd (cc)
  refused_same (events.Back n) is done = absurd (cc)
  refused_same (events.Reset path n) is done = absurd (cc)
  refused_same events.RepairCache is done = absurd (cc)
  refused_same events.RepairStore is done = absurd (cc)
  refused_same (events.Pair a b) is done = absurd (cc)
  refused_same (events.Suspend n) is done = absurd (cc)
  refused_same (events.Resume n) is done = absurd (cc)

abbrev Refuses : Logged → Type 0
Refuses x = asks_loss x.asked ≡ true → is_done x.happened.end ≡ false → x.happened.behind ≡ x.happened.before

refuses_go : Goes (λ s. Unit {0}) (λ s. Refuses) AnyEvent
refuses_go = record {
  once = λ s e may q. (tt, λ is done. refused_same s e is done ∙ sym (event_from s e));
  stepped = λ s d q. (tt, λ is done. absurd (cc));
  idle = λ s d q. (tt, λ is done. absurd (cc));
  backed = λ s d q. (tt, λ is done. absurd (cc));
  replaces = λ s d side q. (tt, λ is done. absurd (cc));
  unpairs = λ s a q. (tt, λ is done. absurd (cc));
}

-- All devices

abbrev pub AllSo : (MarksDevice → Type 0) → List MarksDevice → Type 0
AllSo p [] = Unit {0}
AllSo p (d ∷ ds) = p d × AllSo p ds

pub all_so : (p : MarksDevice → Type 0) (ds : List MarksDevice) → All p ds → AllSo p ds
all_so p [] h = tt
all_so p (d ∷ ds) h = (All-head p d ds h, all_so p ds (All-tail p d ds h))

-- at most k calls of it failed
record Fits (k : ℕ) (d : MarksDevice) : Type 0 where
  fair : Fair d
  calm : Calm d
  most : d.store.counts.failed ≤ k

grown : (x y n : ℕ) → x ≤ y → y - x ≡ n → y ≡ x + n
grown x y n le e = omega (arith, le, e)

none_or : (n : ℕ) → (n ≡ 0) ⊎ (1 ≤ n)
none_or zero = inl refl
none_or (suc n) = inr (omega arith)

and_left : (x y : Bool) → (x && y) ≡ true → x ≡ true
and_left true y e = refl
and_left false y e = absurd (cc)

and_right : (x y : Bool) → (x && y) ≡ true → y ≡ true
and_right true y e = e
and_right false y e = absurd (cc)

below_top : (n k : ℕ) → n ≤ k → k + 1 < top → n + 1 < top
below_top n k le lt = omega (arith, le, lt)

one_more_at_most : (x y k : ℕ) → x ≤ k → y ≤ x + 1 → y ≤ k + 1
one_more_at_most x y k le lt = omega (arith, le, lt)

-- where at most one call failed, and that of a pair while everything was repaired
record Shares (x y : MarksDevice) (xs : List MarksDevice) (more alone : ℕ) : Type 0 where
  losing : Losing false false x y
  grows : y.store.counts.failed ≤ x.store.counts.failed + 1
  rest : more ≤ 1
  none : alone ≡ 0
  whole : (more ≡ 0) ⊎ (are_whole xs ≡ true)

module _ (x y : MarksDevice) (xs : List MarksDevice) (more alone : ℕ) (le : x.store.counts.failed ≤ y.store.counts.failed) where
  abbrev new : ℕ
  new = y.store.counts.failed - x.store.counts.failed

  whole_first : (are_whole (x ∷ xs) ≡ true) → (is_whole_device x ≡ true) × (are_whole xs ≡ true)
  whole_first e = (and_left (is_whole_device x) (are_whole xs) e, and_right (is_whole_device x) (are_whole xs) e)

  one_at_most : (n m : ℕ) → 1 ≤ n → n + m ≤ 1 → (n ≡ 1) × (m ≡ 0)
  one_at_most n m some most = (omega (arith, some, most), omega (arith, some, most))

  pair_none : new ≡ 0 → new + more ≤ 1 → alone ≡ 0 → ((new + more ≡ 0) ⊎ (are_whole (x ∷ xs) ≡ true)) → Shares x y xs more alone
  pair_none is most none whole =
      let same : y.store.counts.failed ≡ x.store.counts.failed + 0 = grown x.store.counts.failed y.store.counts.failed 0 le is in
      record {
        losing = inl (omega (arith, same));
        grows = omega (arith, same);
        rest = omega (arith, most, is);
        none = none;
        whole = by_whole whole;
      }
    where
      by_whole : ((new + more ≡ 0) ⊎ (are_whole (x ∷ xs) ≡ true)) → (more ≡ 0) ⊎ (are_whole xs ≡ true)
      by_whole (inl e) = inl (omega (arith, e))
      by_whole (inr e) = inr (whole_first e).1

  pair_one : x.store.paired ≡ true → 1 ≤ new → new + more ≤ 1 → alone ≡ 0 → ((new + more ≡ 0) ⊎ (are_whole (x ∷ xs) ≡ true)) → Shares x y xs more alone
  pair_one paired some most none (inl e) = absurd (omega (arith, some, e))
  pair_one paired some most none (inr e) =
      let one = one_at_most new more some most in
      let same : y.store.counts.failed ≡ x.store.counts.failed + 1 = grown x.store.counts.failed y.store.counts.failed 1 le one.0 in
      record {
        losing = inr (paired, (whole_first e).0, same);
        grows = omega (arith, same);
        rest = omega (arith, most);
        none = none;
        whole = inl one.1;
      }

  pair_by : x.store.paired ≡ true → ((new ≡ 0) ⊎ (1 ≤ new)) → new + more ≤ 1 → alone ≡ 0 → ((new + more ≡ 0) ⊎ (are_whole (x ∷ xs) ≡ true)) →
      Shares x y xs more alone
  pair_by paired (inl is) most none whole = pair_none is most none whole
  pair_by paired (inr some) most none whole = pair_one paired some most none whole

  shares : (b : Bool) → x.store.paired ≡ b → (if is_same b true then new else 0) + more ≤ 1 → (if is_same b false then new else 0) + alone ≡ 0 →
      (((if is_same b true then new else 0) + more ≡ 0) ⊎ (are_whole (x ∷ xs) ≡ true)) → Shares x y xs more alone
  shares true paired most none whole = pair_by paired (none_or new) most (omega (arith, none)) whole
  shares false single most none whole =
      let same : y.store.counts.failed ≡ x.store.counts.failed + 0 = grown x.store.counts.failed y.store.counts.failed 0 le (omega (arith, none)) in
      record {
        losing = inl (omega (arith, same));
        grows = omega (arith, same);
        rest = omega (arith, most);
        none = omega (arith, none);
        whole = by_whole whole;
      }
    where
      by_whole : ((0 + more ≡ 0) ⊎ (are_whole (x ∷ xs) ≡ true)) → (more ≡ 0) ⊎ (are_whole xs ≡ true)
      by_whole (inl e) = inl (omega (arith, e))
      by_whole (inr e) = inr (whole_first e).1

calls_step : (k : ℕ) → k + 1 < top → (xs ys : List MarksDevice) → EachPair (MadeCalm false false) xs ys → AllSo (Fits k) xs → AllSo Fair ys →
    failed_calls true xs ys ≤ 1 → failed_calls false xs ys ≡ 0 → ((failed_calls true xs ys ≡ 0) ⊎ (are_whole xs ≡ true)) → AllSo (Fits (k + 1)) ys
calls_step k lt [] [] p f g most none whole = tt
calls_step k lt [] (y ∷ ys) p f g most none whole = absurd p
calls_step k lt (x ∷ xs) [] p f g most none whole = absurd p
calls_step k lt (x ∷ xs) (y ∷ ys) p f g most none whole =
    let s = shares x y xs (failed_calls true xs ys) (failed_calls false xs ys) (p.0.more f.0.fair) x.store.paired refl most none whole in (
      record {
        fair = g.0;
        calm = p.0.calm s.losing f.0.fair (below_top x.store.counts.failed k f.0.most lt) f.0.calm;
        most = one_more_at_most x.store.counts.failed y.store.counts.failed k f.0.most s.grows;
      },
      calls_step k lt xs ys p.1 f.1 g.1 s.rest s.none s.whole,
    )

no_call : (b : Bool) (n more alone : ℕ) → (if is_same b true then n else 0) + more ≡ 0 → (if is_same b false then n else 0) + alone ≡ 0 →
    (n ≡ 0) × ((more ≡ 0) × (alone ≡ 0))
no_call true n more alone e g = (omega (arith, e), (omega (arith, e), omega (arith, g)))
no_call false n more alone e g = (omega (arith, g), (omega (arith, e), omega (arith, g)))

order_step : (k : ℕ) → k + 1 < top → (alone : Bool) → alone ≡ false → (xs ys : List MarksDevice) → EachPair (MadeCalm true alone) xs ys → AllSo (Fits k) xs →
    AllSo Fair ys → failed_calls true xs ys ≡ 0 → failed_calls false xs ys ≡ 0 → are_whole xs ≡ true → AllSo (Fits (k + 1)) ys
order_step k lt alone is [] [] p f g none other whole = tt
order_step k lt alone is [] (y ∷ ys) p f g none other whole = absurd p
order_step k lt alone is (x ∷ xs) [] p f g none other whole = absurd p
order_step k lt alone is (x ∷ xs) (y ∷ ys) p f g none other whole =
    let n = no_call x.store.paired (y.store.counts.failed - x.store.counts.failed) (failed_calls true xs ys) (failed_calls false xs ys) none other in
    let same = grown x.store.counts.failed y.store.counts.failed 0 (p.0.more f.0.fair) n.0 in (
      record {
        fair = g.0;
        calm = p.0.calm (is, and_left (is_whole_device x) (are_whole xs) whole) f.0.fair (below_top x.store.counts.failed k f.0.most lt) f.0.calm;
        most = one_more_at_most x.store.counts.failed y.store.counts.failed k f.0.most (omega (arith, same));
      },
      order_step k lt alone is xs ys p.1 f.1 g.1 n.1.0 n.1.1 (and_right (is_whole_device x) (are_whole xs) whole),
    )

fits_on : (k : ℕ) (ds : List MarksDevice) → AllSo (Fits k) ds → AllSo (Fits (k + 1)) ds
fits_on k [] f = tt
fits_on k (d ∷ ds) f = (record { fair = f.0.fair; calm = f.0.calm; most = let le = f.0.most in omega (arith, le) }, fits_on k ds f.1)

-- An event

at_most : (n : ℕ) → nat_le n 1 ≡ true → n ≤ 1
at_most n e = leb-true n 1 e

or_not : (x y : Bool) → (x || y) ≡ true → (x ≡ true) ⊎ (y ≡ true)
or_not true y e = inl refl
or_not false y e = inr e

neither : (x y : Bool) → not (x || y) ≡ true → (x ≡ false) × (y ≡ false)
neither true y e = absurd (cc)
neither false true e = absurd (cc)
neither false false e = (refl, refl)

zero_if : (n : ℕ) → not (n == 0) ≡ false → n ≡ 0
zero_if n e = eqb-true n 0 (is_on (n == 0) e) where
  is_on : (b : Bool) → not b ≡ false → b ≡ true
  is_on true e = refl
  is_on false e = absurd (cc)

whole_devices : (s : Subsystem) → is_whole s ≡ true → are_whole (devices_of s) ≡ true
whole_devices s e = and_right (s.pool.cache_up && s.pool.store_up) (are_whole (devices_of s)) e

-- it has at most one loss, and that where everything is repaired
record CalmEvent (x : Logged) : Type 0 where
  most : losses_in x ≤ 1
  whole : (losses_in x ≡ 0) ⊎ (are_whole (devices_of x.happened.before) ≡ true)
  alone : (fails_alone_of x.happened.before x.asked && is_done x.happened.end) ≡ false
  none : failed_in false x ≡ 0

calm_event : (x : Logged) → is_calm_event x ≡ true → CalmEvent x
calm_event x e =
    let front = and_left (nat_le (losses_in x) 1 && ((losses_in x == 0) || is_whole x.happened.before)) (not (fails_alone x)) e in
    let back = and_right (nat_le (losses_in x) 1 && ((losses_in x == 0) || is_whole x.happened.before)) (not (fails_alone x)) e in
    let alone = neither (fails_alone_of x.happened.before x.asked && is_done x.happened.end) (not (failed_in false x == 0)) back in
    record {
      most = at_most (losses_in x) (and_left (nat_le (losses_in x) 1) ((losses_in x == 0) || is_whole x.happened.before) front);
      whole = by_whole (or_not (losses_in x == 0) (is_whole x.happened.before)
          (and_right (nat_le (losses_in x) 1) ((losses_in x == 0) || is_whole x.happened.before) front));
      alone = alone.0;
      none = zero_if (failed_in false x) alone.1;
    }
  where
    by_whole : ((losses_in x == 0) ≡ true) ⊎ (is_whole x.happened.before ≡ true) → (losses_in x ≡ 0) ⊎ (are_whole (devices_of x.happened.before) ≡ true)
    by_whole (inl none) = inl (eqb-true (losses_in x) 0 none)
    by_whole (inr whole) = inr (whole_devices x.happened.before whole)

module _ (x : Logged) (c : CalmEvent x) (k : ℕ) (lt : k + 1 < top) where
  abbrev xs : List MarksDevice
  xs = devices_of x.happened.before

  abbrev ys : List MarksDevice
  ys = devices_of x.happened.behind

  losses_as : (b : Bool) → (asks_loss x.asked && is_done x.happened.end) ≡ b → losses_in x ≡ (if b then 1 else 0) + failed_calls true xs ys
  losses_as b e = ap (λ (y : Bool). (if y then 1 else 0) + failed_calls true xs ys) e

  as_is : (n m : ℕ) → n ≡ 0 + m → n ≤ 1 → m ≤ 1
  as_is n m e le = omega (arith, e, le)

  as_none : (n m : ℕ) → n ≡ 0 + m → (n ≡ 0) ⊎ (are_whole xs ≡ true) → (m ≡ 0) ⊎ (are_whole xs ≡ true)
  as_none n m e (inl none) = inl (omega (arith, e, none))
  as_none n m e (inr whole) = inr whole

  none_more : (n m : ℕ) → n ≡ 1 + m → n ≤ 1 → m ≡ 0
  none_more n m e le = omega (arith, e, le)

  must : (n m : ℕ) → n ≡ 1 + m → (n ≡ 0) ⊎ (are_whole xs ≡ true) → are_whole xs ≡ true
  must n m e (inl none) = absurd (omega (arith, e, none))
  must n m e (inr whole) = whole

  ordered_by : (lossy alone done : Bool) → asks_loss x.asked ≡ lossy → fails_alone_of x.happened.before x.asked ≡ alone → is_done x.happened.end ≡ done →
      EachPair (MadeCalm lossy alone) xs ys → Refuses x → AllSo (Fits k) xs → AllSo Fair ys → AllSo (Fits (k + 1)) ys
  ordered_by true alone true is single done p r f g =
      let n = losses_as true (ap (λ (b : Bool). b && is_done x.happened.end) is ∙ done) in
      order_step k lt alone
      (sym single ∙ and_true (fails_alone_of x.happened.before x.asked) ∙ ap (λ (b : Bool). fails_alone_of x.happened.before x.asked && b) (sym done) ∙ c.alone)
      xs ys p f g (none_more (losses_in x) (failed_calls true xs ys) n c.most) c.none (must (losses_in x) (failed_calls true xs ys) n c.whole)
    where
      and_true : (b : Bool) → b ≡ (b && true)
      and_true true = refl
      and_true false = refl
  ordered_by true alone false is single done p r f g =
      subst (λ (s : Subsystem). AllSo (Fits (k + 1)) (devices_of s)) (sym (r is done)) (fits_on k xs f)
  ordered_by false false done is single how p r f g =
      let n = losses_as false (ap (λ (b : Bool). b && is_done x.happened.end) is) in
      calls_step k lt xs ys p f g (as_is (losses_in x) (failed_calls true xs ys) n c.most) c.none (as_none (losses_in x) (failed_calls true xs ys) n c.whole)
  ordered_by false true done is single how p r f g = both_ways (fails_alone_of x.happened.before x.asked) single (never_alone x.asked is)
    where
      never_alone : (a : Asked) → asks_loss a ≡ false → fails_alone_of x.happened.before a ≡ false
      never_alone (Once (events.FailVolume d side)) e = absurd (cc)
      never_alone (Once events.FailCache) e = refl
      never_alone (Once events.FailStore) e = refl
      never_alone (Once events.Power) e = refl
      never_alone (Once (events.Start path n)) e = refl
      never_alone (Once (events.Step n)) e = refl
      never_alone (Once (events.Back n)) e = refl
      never_alone (Once (events.Reset path n)) e = refl
      never_alone (Once events.RepairCache) e = refl
      never_alone (Once events.RepairStore) e = refl
      never_alone (Once (events.Pair a b)) e = refl
      never_alone (Once (events.Suspend n)) e = refl
      never_alone (Once (events.Resume n)) e = refl
      never_alone (Replace d side) e = refl
      never_alone (Unpair a) e = refl
      never_alone (Run d) e = refl
      never_alone (Settle d) e = refl

-- What is missed

served_if : (c d q l : Bool) → (c && d) ≡ false → (c && q && not l) ≡ false → (not c || not (d || (q && not l))) ≡ true
served_if false d q l e f = refl
served_if true true q l e f = absurd (cc)
served_if true false true true e f = refl
served_if true false true false e f = absurd (cc)
served_if true false false l e f = refl

and_true : (x y : Bool) → x ≡ true → y ≡ true → (x && y) ≡ true
and_true true y e f = f
and_true false y e f = absurd (cc)

all_served : (xs : List Item) → AreNot ends_with_data_check xs → AreNot is_unserved xs → are_served xs ≡ true
all_served [] h k = refl
all_served (items.Program e ∷ xs) h k =
    and_true (is_served e) (are_served xs)
    (served_if (is_checked e.how) (is_data_check (last_sense e.ends)) (is_equipment_check (last_sense e.ends)) (has_loss e.acts) h.0 k.0)
    (all_served xs h.1 k.1)
all_served (items.Act act ∷ xs) h k = all_served xs h.1 k.1
all_served (items.Reset path ∷ xs) h k = all_served xs h.1 k.1
all_served (items.Fresh ∷ xs) h k = all_served xs h.1 k.1
all_served (items.Power ∷ xs) h k = all_served xs h.1 k.1

none_missed : (d : MarksDevice) → Calm d → HasNoDataCheck d → misses_nothing d ≡ true
none_missed d x none =
    and_true (are_served d.history.items) (count_lost d.store.lost == 0)
    (all_served d.history.items (none_came ends_with_data_check 0 0 d.history.items none (omega arith))
    (none_came is_unserved 0 0 d.history.items x.served (omega arith)))
    (ap (λ (n : ℕ). n == 0) (kept_counts d.store x.kept))

all_missed : (k : ℕ) (ds : List MarksDevice) → AllSo (Fits k) ds → AllSo HasNoDataCheck ds → all_miss_nothing ds ≡ true
all_missed k [] f h = refl
all_missed k (d ∷ ds) f h = and_true (misses_nothing d) (all_miss_nothing ds) (none_missed d f.0.calm h.0) (all_missed k ds f.1 h.1)

-- The run

abbrev AreFairBehind : Logged → Type 0
AreFairBehind x = All Fair (devices_of x.happened.behind)

abbrev Shown : Logged → Type 0
Shown x = ShowsAll StillCalm MadeCalm calm_pairwise x

pub one_event : (k n : ℕ) → k + suc n < top → (k + 1 < top) × (k + 1 + n < top)
one_event k n lt = (omega (arith, lt), omega (arith, lt))

calm_on : (ts : List Logged) (s : Subsystem) (k : ℕ) → Linked s ts → All Shown ts → All Refuses ts → All HaveNoDataCheck ts → All AreFairBehind ts →
    is_calm ts ≡ true → k + length ts < top → AllSo (Fits k) (devices_of s) → miss_nothing ts ≡ true
unfolding C.is_calm P.miss_nothing
calm_on [] s k l p r h g calm lt f = refl
calm_on (t ∷ ts) s k l p r h g calm lt f =
    let room = one_event k (length ts) lt in
    let behind = devices_of t.happened.behind in
    let fits = ordered_by t (calm_event t (and_left (is_calm_event t) (is_calm ts) calm)) k room.0 (asks_loss t.asked)
    (fails_alone_of t.happened.before t.asked)
    (is_done t.happened.end) refl refl refl (All-head Shown t ts p) (All-head Refuses t ts r)
    (subst (λ (x : Subsystem). AllSo (Fits k) (devices_of x)) (sym l.0) f) (all_so Fair behind (All-head AreFairBehind t ts g)) in
    and_true (all_miss_nothing behind) (miss_nothing ts)
    (all_missed (k + 1) behind fits (all_so HasNoDataCheck behind (All-head HaveNoDataCheck t ts h)))
    (calm_on ts t.happened.behind (k + 1) l.1 (All-tail Shown t ts p) (All-tail Refuses t ts r) (All-tail HaveNoDataCheck t ts h)
    (All-tail AreFairBehind t ts g) (and_right (is_calm_event t) (is_calm ts) calm) room.1 fits)

opened_fits : (firsts : Firsts) (deck : DeckLines) (ds : List DeviceLine) → AreSo Fair (map (opened_device_on firsts deck) ds) →
    AllSo (Fits 0) (map (λ (m : Mounted). m.device) (map (opened_device_on firsts deck) ds))
opened_fits firsts deck [] f = tt
opened_fits firsts deck (d ∷ ds) f = (
  record {
    fair = f.0;
    calm = record {
      steady = λ home. record { kept = λ t. empty_places (d.cylinders * 15) t false; takes = refl; half = λ t is up. absurd (cc) };
      kept = λ t. empty_places (d.cylinders * 15) t false;
      served = refl;
    };
    most = omega arith;
  },
  opened_fits firsts deck ds f.1,
)

pub from_none : (n : ℕ) → n < 2 ^ 64 - 1 → 0 + n < top
from_none n lt = omega (arith, lt)

pub calm_run_misses_nothing : (firsts : Firsts) (deck : DeckLines) → IsServedDeck deck → length (run_on firsts deck).events < 2 ^ 64 - 1 → is_calm (run_on firsts deck).events ≡ true →
    miss_nothing (run_on firsts deck).events ≡ true
unfolding D.run_asked_on
calm_run_misses_nothing firsts deck h few calm =
    let fair = opened_fair firsts deck deck.devices h.devices in
    let lines = map asked_by deck.events in
    calm_on (run_on firsts deck).events (opened_on firsts deck) 0 (lines_linked lines (opened_on firsts deck)) (run_pairs StillCalm MadeCalm calm_pairwise firsts deck h)
    (run_shows (λ s. Unit {0}) Refuses refuses_go lines (opened_on firsts deck) tt) (run_has_no_data_check firsts deck) (run_keeps Fair fair_kept lines (opened_on firsts deck) fair) calm
    (from_none (length (run_on firsts deck).events) few)
    (opened_fits firsts deck deck.devices fair)
