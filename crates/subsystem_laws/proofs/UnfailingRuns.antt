-- In the run of a deck without a FAULT line no call of a volume fails.
use Rattle.std.proofs.Common.{◌≡◌, ◌==◌, ℕ, Bool, true, false, List, [], ◌∷◌, map, Option, Some, None, refl, sym, ap, subst, ◌∙◌}
use Rattle.std.proofs.lemmas.Bool.{cond_both}
use Rattle.std.proofs.lemmas.List.Elements.{All-nil, All-cons}
use Rattle.std.specs.Prelude.{All, ⊤, IfSome, if◌then◌else◌}
use Rattle.ckd_types.specs.declared.paths.Side.{Side}
use Rattle.ckd_types.specs.declared.paths.Side.TheVariants as sides
use Rattle.deck_text.specs.declared.line.DeviceLine.{DeviceLine}
use Rattle.deck_text.specs.declared.line.FaultLine.{FaultLine}
use Rattle.deck_text.specs.DeckLines.{DeckLines}
use Rattle.loss_model.specs.declared.Loss.TheVariants as losses
use Rattle.track_image.specs.Image.{Image}
use Rattle.device_outside.specs.Interaction.{Interaction, Done, and_then}
use Rattle.device_outside.specs.Keeper.{reply}
use Rattle.device_outside.specs.Lists as I
use Rattle.device_outside.specs.Lists.{is_in}
use Rattle.device_outside.specs.Pool.{Call, Pool, answer, after}
use Rattle.device_outside.specs.Told as T
use Rattle.device_outside.specs.Told.{Calls, Told, RunOutcome, calls_of, read_fails, write_fails, told_read, told_write}
use Rattle.device_outside.specs.Volume.{Plan, counted}
use Rattle.device_defs.specs.declared.counts.Counts.{Counts}
use Rattle.device_defs.specs.declared.counts.Losses.{Losses}
use Rattle.device_defs.specs.Command.{command}
use Rattle.device_defs.specs.Contents.{by_plain}
use Rattle.device_defs.specs.Cutting.{reset}
use Rattle.device_defs.specs.Events.{one_loss_more, second, lose, background}
use Rattle.device_defs.specs.Marks.{MarksDevice, no_counts}
use Rattle.device_defs.specs.Orders.{join, split, restore, replace, lend}
use Rattle.device_defs.specs.Start as S
use Rattle.device_defs.specs.Start.{start}
use Rattle.device_laws.proofs.Based.{Base, Any, Based, based_any, based_done, based_try, based_ask, based_read, based_write, based_tell}
use Rattle.device_laws.proofs.BasedEvents.{base_in, command_based, second_based, background_based, lose_based, power_based, reset_body}
use Rattle.device_laws.proofs.Lucky.{failed_in}
use Rattle.subsystem_defs.specs.declared.end.EventEnd.{EventEnd}
use Rattle.subsystem_defs.specs.declared.end.EventEnd.TheVariants as ends
use Rattle.subsystem_defs.specs.declared.end.OrderFault.{OrderFault}
use Rattle.subsystem_defs.specs.declared.event.Event.{Event}
use Rattle.subsystem_defs.specs.declared.event.Event.TheVariants as events
use Rattle.subsystem_defs.specs.Decks as D
use Rattle.subsystem_defs.specs.Decks.{plan_for, Firsts, opened_device_on, opened_on, run_on}
use Rattle.subsystem_defs.specs.Deeds.{Ends, Becomes, Asks, Each, Repairs, Lends, deed, ends_done, end_of}
use Rattle.subsystem_defs.specs.Happening as H
use Rattle.subsystem_defs.specs.Happening.{
  MarksDeed,
  Talk,
  held_with,
  told_to,
  mounted_behind,
  behind_outcome,
  joined,
  lends,
  is_lent_to,
  restored_in,
  asks,
  becomes,
  happens_by,
  happens,
  sweep,
  replaced_by,
  replaced_at,
  replaced,
  unpaired_by,
  unpaired_at,
  unpaired,
}
use Rattle.subsystem_defs.specs.Lines.{Logged, asked_by, run_lines}
use Rattle.subsystem_defs.specs.Refusals.{replace_fault, unpair_fault}
use Rattle.subsystem_defs.specs.Subsystem.{Mounted, Subsystem, number_of, devices_of, mounted_in, put_in, with_calls, unfailing, no_failing}
use Rattle.subsystem_laws.proofs.DeedWalk.{Stands, IsEventwise, event_deed_is}
use Rattle.subsystem_laws.proofs.LendBase.{at, stays_still, lend_based, lent_counts}
use Rattle.subsystem_laws.proofs.RunLines.{MayAsk, Goes, logs_all, lines_go}
use Rattle.subsystem_laws.proofs.Walks.{HasOwn, AreSo, hold_answer, hold_told, device_so}

-- Volumes of which no call fails

none_in : (n : ℕ) (l : List ℕ) → l ≡ [] → is_in n l ≡ false
unfolding I.is_in
none_in n [] e = refl
none_in n (x ∷ xs) e = absurd (cc)

abbrev IsUnfailing : Calls → Type 0
IsUnfailing v = v.plan ≡ no_failing

abbrev AreUnfailing : Told → Type 0
AreUnfailing t = IsUnfailing t.a × IsUnfailing t.b

no_read : (t : Told) (side : Side) → AreUnfailing t → read_fails (calls_of t side) ≡ false
no_read t sides.A u = none_in (counted t.a.reads) t.a.plan.reads (ap (λ (p : Plan). p.reads) u.0)
no_read t sides.B u = none_in (counted t.b.reads) t.b.plan.reads (ap (λ (p : Plan). p.reads) u.1)

no_write : (t : Told) (side : Side) → AreUnfailing t → write_fails (calls_of t side) ≡ false
no_write t sides.A u = none_in (counted t.a.writes) t.a.plan.writes (ap (λ (p : Plan). p.writes) u.0)
no_write t sides.B u = none_in (counted t.b.writes) t.b.plan.writes (ap (λ (p : Plan). p.writes) u.1)

read_on : (t : Told) (side : Side) → AreUnfailing t → AreUnfailing (told_read t side)
read_on t sides.A u = u
read_on t sides.B u = u

write_on : (t : Told) (side : Side) → AreUnfailing t → AreUnfailing (told_write t side)
write_on t sides.A u = u
write_on t sides.B u = u

-- no more failed calls are counted
abbrev NoneFailed : {S X : Type 0} → (S → Base) → Base → RunOutcome S X → Type 0
NoneFailed base b o = (failed_in (base o.state) ≡ failed_in b) × AreUnfailing o.told

none_failed : {S X : Type 0} {base : S → Base} {may : Call → Type 0} {b : Base} {i : Interaction Bool Image S X} → Based base may b i → (t : Told) →
    AreUnfailing t → NoneFailed base b (T.hold true i t)
unfolding T.hold
none_failed (based_done e) t u = (ap failed_in e, u)
none_failed (based_try x) t u = none_failed (x true) t u
none_failed (based_ask {call = call} m x) t u =
    none_failed (x (answer t.pool call)) (record t { pool = after t.pool call (answer t.pool call) }) u
none_failed {base = base} {b = b} (based_read {side = side} {k = k} x) t u =
    subst (λ (f : Bool). NoneFailed base b (T.hold true (k (if f then None else Some true)) (told_read t side))) (sym (no_read t side u))
    (none_failed (x (Some true)) (told_read t side) (read_on t side u))
none_failed {base = base} {b = b} (based_write {side = side} {k = k} x) t u =
    subst (λ (f : Bool). NoneFailed base b (T.hold true (k (if f then false else true)) (told_write t side))) (sym (no_write t side u))
    (none_failed (x true) (told_write t side) (write_on t side u))
none_failed (based_tell {m = m} x) t u = none_failed (x (reply m)) t u

-- what is so of the losses that are counted, where these events may come
pub record Allows (May : Event → Type 0) (so : Losses → Type 0) : Type 0 where
  pub own : HasOwn May
  pub cache : May events.FailCache → (l : Losses) → so l → so (one_loss_more l losses.Cache)
  pub store : May events.FailStore → (l : Losses) → so l → so (one_loss_more l losses.Store)
  pub side : (n : ℕ) (side : Side) → May (events.FailVolume n side) → (l : Losses) → so l → so (one_loss_more l (losses.Side side))
  pub power : May events.Power → (l : Losses) → so l → so (one_loss_more l losses.Cache)

module _ (so : Losses → Type 0) where
  -- no call of it failed, and this is so of its losses
  abbrev CountsSo : Counts → Type 0
  CountsSo c = (c.failed ≡ 0) × so c.losses

  abbrev pub IsIntact : MarksDevice → Type 0
  IsIntact d = CountsSo d.store.counts

  -- with such volumes

  abbrev IsOnSound : Mounted → Type 0
  IsOnSound m = IsIntact m.device × (IsUnfailing m.a × IsUnfailing m.b)

  abbrev AreOnSound : List Mounted → Type 0
  AreOnSound [] = Unit {0}
  AreOnSound (m ∷ ms) = IsOnSound m × AreOnSound ms

  abbrev EndsSound : {X : Type 0} → RunOutcome MarksDevice X → Type 0
  EndsSound o = IsIntact o.state × AreUnfailing o.told

  abbrev LeavesSound : {X : Type 0} → Talk X → Type 0
  LeavesSound talk = (t : Told) → AreUnfailing t → EndsSound (T.hold true talk t)

  leaves_sound : {X : Type 0} {b : Base} {talk : Interaction Bool Image MarksDevice X} → Based base_in Any b talk → CountsSo b.counts → LeavesSound talk
  leaves_sound x none t u =
      let k = none_failed x t u in
      ((k.0 ∙ none.0, subst so (sym (at (stays_still x) t).3) none.1), k.1)

  lend_sound : (d : MarksDevice) (to : ℕ) → IsIntact d → LeavesSound (lend by_plain d to)
  lend_sound d to none = leaves_sound (lend_based d to) (subst CountsSo (sym (lent_counts d to)) none)

  -- an answer is an event's end
  answers : {X Y : Type 0} (talk : Talk X) (f : X → Y) → LeavesSound talk → LeavesSound (and_then talk (λ d a. Done d (f a)))
  answers talk f h t u =
      let o = h t u in (
        subst IsIntact (sym (hold_answer talk f t)) o.0,
        subst AreUnfailing (sym (hold_told talk f t)) o.1,
      )

  -- Devices by their numbers

  found_if : (b : Bool) (m : Mounted) (o : Option Mounted) → IsOnSound m → IfSome o IsOnSound → IfSome (if b then Some m else o) IsOnSound
  found_if true m o p rest = p
  found_if false m o p rest = rest

  found_sound : (ms : List Mounted) (n : ℕ) → AreOnSound ms → IfSome (mounted_in ms n) IsOnSound
  found_sound [] n p = tt
  found_sound (m ∷ ms) n p = found_if (number_of m == n) m (mounted_in ms n) p.0 (found_sound ms n p.1)

  put_sound : (ms : List Mounted) (n : ℕ) (x : Mounted) → AreOnSound ms → IsOnSound x → AreOnSound (put_in ms n x)
  put_sound [] n x p new = tt
  put_sound (m ∷ ms) n x p new =
      cond_both (number_of m == n) (x ∷ ms) (m ∷ put_in ms n x) AreOnSound (λ _. (new, p.1)) (λ _. (p.0, put_sound ms n x p.1 new))

  are_intact : (ms : List Mounted) → AreOnSound ms → AreSo IsIntact ms
  are_intact [] p = tt
  are_intact (m ∷ ms) p = (p.0.0, are_intact ms p.1)

  all_intact : (ms : List Mounted) → AreOnSound ms → All IsIntact (map (λ (m : Mounted). m.device) ms)
  all_intact [] p = All-nil IsIntact
  all_intact (m ∷ ms) p = All-cons IsIntact m.device (map (λ (x : Mounted). x.device) ms) p.0.0 (all_intact ms p.1)

  -- Deeds

  abbrev KeepsDeed : MarksDeed → Type 0
  KeepsDeed (Ends end) = ⊤
  KeepsDeed (Becomes d end) = IsIntact d
  KeepsDeed (Asks d talk) = LeavesSound talk
  KeepsDeed (Each pool f) = (d : MarksDevice) → IsIntact d → LeavesSound (f d)
  KeepsDeed (Repairs pool) = ⊤
  KeepsDeed (Lends a b) = ⊤

  swept_sound : (f : MarksDevice → Talk (Unit {0})) → ((d : MarksDevice) → IsIntact d → LeavesSound (f d)) → (ms : List Mounted) (pool : Pool) → AreOnSound ms →
      AreOnSound (sweep f ms pool).mounted
  unfolding H.sweep
  swept_sound f h [] pool p = tt
  swept_sound f h (m ∷ ms) pool p =
      (h m.device p.0.0 (told_to pool m) p.0.1, swept_sound f h ms (held_with pool m (f m.device)).told.pool p.1)

  asked_sound : (s : Subsystem) (n : ℕ) (talk : Talk (Option EventEnd)) → LeavesSound talk → AreOnSound s.mounted → (o : Option Mounted) → IfSome o IsOnSound →
      AreOnSound (asks s n o talk).behind.mounted
  asked_sound s n talk h p None q = p
  asked_sound s n talk h p (Some m) q = put_sound s.mounted n (mounted_behind (held_with s.pool m talk)) p (h (told_to s.pool m) q.1)

  becomes_sound : (s : Subsystem) (n : ℕ) (d : MarksDevice) → IsIntact d → AreOnSound s.mounted → (o : Option Mounted) → IfSome o IsOnSound →
      AreOnSound (becomes s n o d).mounted
  becomes_sound s n d new p None q = p
  becomes_sound s n d new p (Some m) q = put_sound s.mounted n (record m { device = d }) p (new, q.1)

  joined_sound : (s : Subsystem) (n : ℕ) (volume : Calls) → IsUnfailing volume → AreOnSound s.mounted → (o : Option Mounted) → IfSome o IsOnSound →
      AreOnSound (joined s n volume o).mounted
  joined_sound s n volume v p None q = p
  joined_sound s n volume v p (Some m) q = put_sound s.mounted n (record m { device = join m.device; b = volume }) p (q.0, (q.1.0, v))

  lends_sound : (s : Subsystem) (a b : ℕ) → AreOnSound s.mounted → (o : Option Mounted) → IfSome o IsOnSound → AreOnSound (lends s a b o).mounted
  lends_sound s a b p None q = p
  lends_sound s a b p (Some m) q =
      let o = held_with s.pool m (lend by_plain m.device a) in
      let z = behind_outcome s b o in
      let k = lend_sound m.device a q.0 (told_to s.pool m) q.1 in
      let pz = put_sound s.mounted b (mounted_behind o) p k in
      joined_sound z a o.told.a k.1.0 pz (mounted_in z.mounted a) (found_sound z.mounted a pz)

  happens_sound : (s : Subsystem) (x : MarksDeed) → AreOnSound s.mounted → KeepsDeed x → AreOnSound (happens_by s x).behind.mounted
  happens_sound s (Ends end) p h = p
  happens_sound s (Becomes d end) p h =
      becomes_sound s d.store.device d h p (mounted_in s.mounted d.store.device) (found_sound s.mounted d.store.device p)
  happens_sound s (Asks d talk) p h =
      asked_sound s d.store.device talk h p (mounted_in s.mounted d.store.device) (found_sound s.mounted d.store.device p)
  happens_sound s (Each pool f) p h = swept_sound f h s.mounted pool p
  happens_sound s (Repairs pool) p h = p
  happens_sound s (Lends a b) p h =
      lends_sound s a.store.device b.store.device p (mounted_in s.mounted b.store.device) (found_sound s.mounted b.store.device p)

  start_intact : (d : MarksDevice) (path : ℕ) → IsIntact d → IsIntact (start d path)
  unfolding S.start
  start_intact d path none = none

  -- The two orders for which a volume is handed in

  replaced_with : (m : Mounted) (side : Side) → IsOnSound m → IsOnSound (with_calls (record m { device = replace m.device side }) side unfailing)
  replaced_with m sides.A q = (q.0, (refl, q.1.1))
  replaced_with m sides.B q = (q.0, (q.1.0, refl))

  replaced_sound : (s : Subsystem) (n : ℕ) (side : Side) → AreOnSound s.mounted → (o : Option Mounted) → IfSome o IsOnSound →
      AreOnSound (replaced_at s n side unfailing o).behind.mounted
  replaced_sound s n side p None q = p
  replaced_sound s n side p (Some m) q = by_fault (replace_fault m.device side) where
    by_fault : (o : Option OrderFault) → AreOnSound (replaced_by s n side unfailing m o).behind.mounted
    by_fault (Some fault) = p
    by_fault None = put_sound s.mounted n (with_calls (record m { device = replace m.device side }) side unfailing) p (replaced_with m side q)

  restored_sound : (ms : List Mounted) (a : ℕ) → AreOnSound ms → AreOnSound (restored_in ms a unfailing)
  restored_sound [] a p = p
  restored_sound (m ∷ ms) a p =
      cond_both (is_lent_to m.device.store.lent a) (record m { device = restore m.device; a = unfailing } ∷ ms) (m ∷ restored_in ms a unfailing) AreOnSound
      (λ _. ((p.0.0, (refl, p.0.1.1)), p.1)) (λ _. (p.0, restored_sound ms a p.1))

  unpaired_sound : (s : Subsystem) (n : ℕ) → AreOnSound s.mounted → (o : Option Mounted) → IfSome o IsOnSound →
      AreOnSound (unpaired_at s n unfailing o).behind.mounted
  unpaired_sound s n p None q = p
  unpaired_sound s n p (Some m) q = by_fault (unpair_fault m.device) where
    by_fault : (o : Option OrderFault) → AreOnSound (unpaired_by s n unfailing m o).behind.mounted
    by_fault (Some fault) = p
    by_fault None =
        let x : Mounted = record m { device = split m.device } in
        restored_sound (put_in s.mounted n x) n (put_sound s.mounted n x p (q.0, q.1))

  -- Events

  abbrev pub AreIntact : Logged → Type 0
  AreIntact x = All IsIntact (devices_of x.happened.behind)

  module _ (May : Event → Type 0) (k : Allows May so) where
    module _ (s : Subsystem) (p : AreOnSound s.mounted) where
      intact_of : (d : MarksDevice) → Stands s d → IsIntact d
      intact_of d x = subst (λ (o : Option MarksDevice). IfSome o IsIntact) x.found (device_so IsIntact s.mounted x.number (are_intact s.mounted p))

      abbrev KeepsEvent : Event → MarksDeed → Type 0
      KeepsEvent e x = May e → KeepsDeed x

      deeds_keep : IsEventwise s KeepsEvent
      deeds_keep = record {
        ended = λ e end may. tt;
        started = λ path n d x fault may. start_intact d path (intact_of d x);
        seconded = λ e calm d x h is may. answers (second by_plain d) (λ a. Some (ends.Second a)) (leaves_sound (second_based by_plain d) (intact_of d x));
        commanded = λ n d x whole o running may.
            answers (command by_plain d) (end_of ends.Stepped) (leaves_sound (command_based by_plain d) (intact_of d x));
        worked = λ n d x whole may. answers (background by_plain d) (end_of ends.Back) (leaves_sound (background_based by_plain d) (intact_of d x));
        cut = λ path n d x may.
            answers (reset by_plain d path) (λ a. Some (ends_done a)) (leaves_sound (based_any (reset_body by_plain d path)) (intact_of d x));
        lost_cache = λ may d none. leaves_sound (lose_based by_plain d losses.Cache) (none.0, k.cache may d.store.counts.losses none.1);
        lost_store = λ may d none. leaves_sound (lose_based by_plain d losses.Store) (none.0, k.store may d.store.counts.losses none.1);
        lost_side = λ n d x here side fault may.
            let none = intact_of d x in
            answers (lose by_plain d (losses.Side side)) (λ a. Some (ends_done a))
            (leaves_sound (lose_based by_plain d (losses.Side side)) (none.0, k.side n side may d.store.counts.losses none.1));
        lost_power = λ may d none. leaves_sound (power_based by_plain d) (none.0, k.power may d.store.counts.losses none.1);
        repaired_cache = λ may. tt;
        repaired_store = λ may. tt;
        lent = λ a b x y z w fault may. tt;
        held = λ n d x fault may. intact_of d x;
        resumed = λ n d x fault may. intact_of d x;
      }

      event_sound : (e : Event) → May e → AreOnSound (happens s e).behind.mounted
      unfolding H.happens
      event_sound e may =
          let x = deed by_plain s.pool (devices_of s) e in
          happens_sound s x p (event_deed_is s KeepsEvent deeds_keep e may)

    -- All lines

    shown : (s : Subsystem) → AreOnSound s.mounted → AreOnSound s.mounted × All IsIntact (devices_of s)
    shown s p = (p, all_intact s.mounted p)

    lines_sound : Goes (λ s. AreOnSound s.mounted) (λ s. AreIntact) May
    unfolding H.replaced H.unpaired
    lines_sound = record {
      once = λ s e may p. shown (happens s e).behind (event_sound s p e may);
      stepped = λ s d p. shown (happens s (events.Step d)).behind (event_sound s p (events.Step d) (k.own.step d));
      idle = λ s d p. shown s p;
      backed = λ s d p. shown (happens s (events.Back d)).behind (event_sound s p (events.Back d) (k.own.back d));
      replaces = λ s d side p.
          shown (replaced s d side unfailing).behind (replaced_sound s d side p (mounted_in s.mounted d) (found_sound s.mounted d p));
      unpairs = λ s a p. shown (unpaired s a unfailing).behind (unpaired_sound s a p (mounted_in s.mounted a) (found_sound s.mounted a p));
    }

    -- The run of a deck

    opened_sound : (firsts : Firsts) (deck : DeckLines) → deck.faults ≡ [] → so no_counts.losses → (ds : List DeviceLine) → AreOnSound (map (opened_device_on firsts deck) ds)
    opened_sound firsts deck none first [] = tt
    opened_sound firsts deck none first (d ∷ ds) =
        (((refl, first), (ap (λ (fs : List FaultLine). plan_for fs d.number) none, refl)), opened_sound firsts deck none first ds)

    pub stays_intact : (firsts : Firsts) (deck : DeckLines) → deck.faults ≡ [] → so no_counts.losses → All (MayAsk May) (map asked_by deck.events) →
        All AreIntact (run_on firsts deck).events
    unfolding D.run_asked_on
    stays_intact firsts deck none first may =
        let lines = map asked_by deck.events in
        logs_all (λ s. AreOnSound s.mounted) AreIntact (opened_on firsts deck) (run_lines lines (opened_on firsts deck))
        (lines_go (λ s. AreOnSound s.mounted) (λ s. AreIntact) May lines_sound lines (opened_on firsts deck) may (opened_sound firsts deck none first deck.devices))
