-- In a run a quiet track of which nothing is told before an edit stays as it is, and what is told first of it is its plain image.
use Rattle.std.proofs.Common.{◌≡◌, ◌==◌, ◌&&◌, suc, ℕ, Bool, true, false, List, [], ◌∷◌, ◌++◌, Option, Some, None, refl, sym, ap, subst, ◌∙◌, arith, inl, inr}
use Rattle.std.specs.Prelude.{if◌then◌else◌}
use Rattle.ckd_types.specs.declared.paths.Side.{Side}
use Rattle.ckd_types.specs.declared.paths.Side.TheVariants.{A, B}
use Rattle.ckd_types.specs.Volume.{track_in}
use Rattle.loss_model.specs.declared.Loss.TheVariants as losses
use Rattle.track_image.specs.Image.{Image}
use Rattle.device_outside.specs.Hears.{messages}
use Rattle.device_outside.specs.Interaction.{Done, and_then}
use Rattle.device_outside.specs.Keeper.{Message, BeforeEdit, Firm}
use Rattle.device_outside.specs.Pool.{Pool, cache_failed, store_failed, power_lost}
use Rattle.device_outside.specs.Told.{Calls, Told, hold}
use Rattle.device_defs.specs.Command.{command}
use Rattle.device_defs.specs.Contents.{by_plain}
use Rattle.device_defs.specs.Cutting.{reset, power}
use Rattle.device_defs.specs.Events.{second, lose, background}
use Rattle.device_defs.specs.Marks.{MarksDevice}
use Rattle.device_defs.specs.Orders.{replace}
use Rattle.device_defs.specs.Start as S
use Rattle.device_defs.specs.Start.{start}
use Rattle.device_defs.specs.Store.{plain_at}
use Rattle.device_laws.proofs.PlainStores.{core_of}
use Rattle.subsystem_defs.specs.declared.end.EventEnd.{EventEnd}
use Rattle.subsystem_defs.specs.declared.end.EventEnd.TheVariants as ends
use Rattle.subsystem_defs.specs.declared.event.Event.{Event}
use Rattle.subsystem_defs.specs.Deeds.{Ends, Becomes, Asks, Each, Repairs, Lends, deed, end_of, ends_done}
use Rattle.subsystem_defs.specs.Happening as H
use Rattle.subsystem_defs.specs.Happening.{MarksDeed, Talk, told_to, held_with, is_lent_to, happens, replaced, unpaired}
use Rattle.subsystem_defs.specs.Looks.{looked}
use Rattle.subsystem_defs.specs.Subsystem.{Mounted, Subsystem, devices_of, mounted_in}
use Rattle.subsystem_laws.proofs.DeedWalk.{Stands, seat_of, IsDeedwise, deed_is}
use Rattle.subsystem_laws.proofs.Walks.{mounted_number}
use Rattle.keeper_laws.specs.Messages as M
use Rattle.keeper_laws.specs.Messages.{asked_messages, swept_messages, deed_messages, event_messages, first_named}
use Rattle.keeper_laws.specs.Quiet.{IsQuiet, StaysQuiet}
use Rattle.keeper_laws.proofs.Calm.{Watch, watched_image, IsCalm, Keeps}
use Rattle.keeper_laws.proofs.Commands.{OnDevice, Says, Kept, command_says}
use Rattle.keeper_laws.proofs.Events.{second_kept, background_kept, lose_kept, reset_kept, power_kept, lend_kept, peek_kept}
use Rattle.keeper_laws.proofs.Names.{names_done, names_then, Named, names_held}
use Rattle.keeper_laws.proofs.Places.{IsAt, Leaves, deed_at, looked_there, replaced_there, unpaired_there}
use Rattle.keeper_laws.proofs.Silent.{silent_done, silent_then, silent_held}
use Rattle.keeper_laws.proofs.Sizes.{
  IsSized,
  lose_sized,
  power_sized,
}

none_some : {X : Type 0} {x : X} → None ≡ Some x → ⊥
none_some e = absurd (cc)

some_is : {X : Type 0} {x y : X} → Some x ≡ Some y → x ≡ y
some_is e = cc

-- Where nothing is named

named_if : (b : Bool) (i : Image) (o p : Option Image) → (o ≡ None → p ≡ None) → (if b then Some i else o) ≡ None → (if b then Some i else p) ≡ None
named_if true i o p f e = absurd (cc)
named_if false i o p f e = f e

none_both : (n t : ℕ) (ms ns : List (Message Image)) → first_named n t ms ≡ None → first_named n t ns ≡ None → first_named n t (ms ++ ns) ≡ None
none_both n t [] ns e f = f
none_both n t (BeforeEdit d u i ∷ ms) ns e f =
    named_if ((d == n) && (u == t)) i (first_named n t ms) (first_named n t (ms ++ ns)) (λ x. none_both n t ms ns x f) e
none_both n t (Firm d u i ∷ ms) ns e f = none_both n t ms ns e f

-- a device whose tracks aren't watched
abbrev unseen : MarksDevice → Watch
unseen d = record {
  number = suc d.store.device;
  track = 0;
  geometry = d.store.geometry;
  cylinders = d.store.cylinders;
  holds = track_in d.store.plain 0;
  device = d.store.device;
}

unseen_on : (d : MarksDevice) → OnDevice (unseen d) d
unseen_on d = record { device = refl; calm = λ e. absurd (omega (arith, e)) }

module _ (n t : ℕ) (f : MarksDevice → Talk (Unit {0})) (kept : (w : Watch) (d : MarksDevice) → OnDevice w d → Kept w (f d)) where
  swept_none : (ms : List Mounted) (pool : Pool) → first_named n t (swept_messages f ms pool) ≡ None
  unfolding M.swept_messages
  swept_none [] pool = refl
  swept_none (m ∷ ms) pool =
      none_both n t (messages true (f m.device) (told_to pool m)) (swept_messages f ms (held_with pool m (f m.device)).told.pool)
      (silent_held (λ e _. OnDevice (unseen m.device) e) n t (kept (unseen m.device) m.device (unseen_on m.device)) (told_to pool m)).0
      (swept_none ms (held_with pool m (f m.device)).told.pool)

-- the track of the device that is watched, where this is the number of the device at hand
abbrev watch_at : ℕ → ℕ → Mounted → ℕ → Watch
watch_at n t m k = record {
  number = n;
  track = t;
  geometry = m.device.store.geometry;
  cylinders = m.device.store.cylinders;
  holds = track_in m.device.store.plain t;
  device = k;
}

module _ (n t : ℕ) (m : Mounted) where
  abbrev Quietly : MarksDevice → Type 0
  Quietly d = Keeps (watch_at n t m n) (core_of d.store)

  moved : (d : MarksDevice) (k : ℕ) → k ≡ n → OnDevice (watch_at n t m k) d → Quietly d
  moved d k same x = subst (λ (j : ℕ). Keeps (watch_at n t m j) (core_of d.store)) same x

  stays_so : (s : Subsystem) → IsAt n Quietly s.mounted → StaysQuiet m t s n
  stays_so s x =
      let i = x.is_so.calm refl in
      record {
        mounted = x.mounted;
        there = x.there;
        geometry = i.geometry;
        cylinders = i.cylinders;
        quiet = record { loose = i.loose; half = i.half; firm = i.firm ∙ sym i.plain };
        plain = i.plain;
      }

  module _ (s : Subsystem) (there : mounted_in s.mounted n ≡ Some m) (quiet : IsQuiet m t) where
    calm_at : (k : ℕ) → IsCalm (watch_at n t m k) (core_of m.device.store)
    calm_at k = record { geometry = refl; cylinders = refl; loose = quiet.loose; half = quiet.half; plain = refl; firm = quiet.firm }

    quietly : Quietly m.device
    quietly = record { device = mounted_number s.mounted n m there; calm = λ _. calm_at n }

    -- and so it is of each device, as far as it is that one
    starts_on : (d : MarksDevice) → Stands s d → OnDevice (watch_at n t m d.store.device) d
    starts_on d x = record {
      device = refl;
      calm = λ same.
          subst (λ (y : MarksDevice). IsCalm (watch_at n t m d.store.device) (core_of y.store))
          (seat_of s d x m (ap (mounted_in s.mounted) same ∙ there)) (calm_at d.store.device);
    }

    -- Deeds

    record Claim (x : MarksDeed) : Type 0 where
      leaves : first_named n t (deed_messages s x) ≡ None → Leaves n Quietly s m there quietly x
      names : (i : Image) → first_named n t (deed_messages s x) ≡ Some i → i ≡ plain_at m.device.store t

    ends_claim : (end : EventEnd) → Claim (Ends end)
    ends_claim end = record { leaves = λ _. tt; names = λ i e. absurd (none_some e) }

    repairs_claim : (pool : Pool) → Claim (Repairs pool)
    repairs_claim pool = record { leaves = λ _. tt; names = λ i e. absurd (none_some e) }

    becomes_claim : (d y : MarksDevice) (end : EventEnd) → Stands s d → core_of y.store ≡ core_of d.store → Claim (Becomes y end)
    becomes_claim d y end x same = record {
      leaves = λ _. λ is.
          let number : y.store.device ≡ d.store.device = ap (λ c. c.device) same in
          subst (Keeps (watch_at n t m n)) (sym same) (moved d d.store.device (sym number ∙ is) (starts_on d x));
      names = λ i e. absurd (none_some e);
    }

    -- one that tells of no edit

    silent_asked : (w : Watch) (talk : Talk (Option EventEnd)) (o : Option Mounted) → Kept w talk → first_named n t (asked_messages s o talk) ≡ None
    silent_asked w talk (Some k) x = (silent_held (λ e _. OnDevice w e) n t x (told_to s.pool k)).0
    silent_asked w talk None x = refl

    silent_claim : {X : Type 0} (d : MarksDevice) (talk : Talk X) (f : X → Option EventEnd) → Kept (watch_at n t m d.store.device) talk →
        Claim (Asks d (and_then talk (λ e a. Done e (f a))))
    silent_claim d talk f x =
        let w = watch_at n t m d.store.device in
        let all : Kept w (and_then talk (λ e a. Done e (f a))) = silent_then (λ e a. Done e (f a)) x (λ e a y. silent_done y) in
        record {
          leaves = λ _. λ k at.
              let o = held_with s.pool k (and_then talk (λ e a. Done e (f a))) in
              let y = (silent_held (λ e _. OnDevice w e) n t all (told_to s.pool k)).1 in
              (y.device, λ same. moved o.state d.store.device same y);
          names = λ i e.
              absurd (none_some (sym (silent_asked w (and_then talk (λ e a. Done e (f a))) (mounted_in s.mounted d.store.device) all) ∙ e));
        }

    -- a command

    left_by : (k : ℕ) (ms : List (Message Image)) (p : Type 0) → Named n t (watched_image (watch_at n t m k)) ms p → first_named n t ms ≡ None → p
    left_by k ms p (inl x) e = x.1
    left_by k ms p (inr x) e = absurd (none_some (sym e ∙ x))

    named_by : (k : ℕ) (ms : List (Message Image)) (p : Type 0) → Named n t (watched_image (watch_at n t m k)) ms p → (i : Image) →
        first_named n t ms ≡ Some i → i ≡ plain_at m.device.store t
    named_by k ms p (inl x) i e = absurd (none_some (sym x.0 ∙ e))
    named_by k ms p (inr x) i e = some_is (sym e ∙ x)

    said_asked : (k : ℕ) (talk : Talk (Option EventEnd)) (o : Option Mounted) → Says (watch_at n t m k) talk → (i : Image) →
        first_named n t (asked_messages s o talk) ≡ Some i → i ≡ plain_at m.device.store t
    said_asked k talk (Some y) x i e =
        named_by k (messages true talk (told_to s.pool y)) _
        (names_held (λ d _. OnDevice (watch_at n t m k) d) n t (watched_image (watch_at n t m k)) x (told_to s.pool y)) i e
    said_asked k talk None x i e = absurd (none_some e)

    says_claim : {X : Type 0} (d : MarksDevice) (talk : Talk X) (f : X → Option EventEnd) → Says (watch_at n t m d.store.device) talk →
        Claim (Asks d (and_then talk (λ e a. Done e (f a))))
    says_claim d talk f x =
        let w = watch_at n t m d.store.device in
        let all : Says w (and_then talk (λ e a. Done e (f a))) = names_then (λ e a. Done e (f a)) x (λ e a y. names_done y) in
        record {
          leaves = λ none. λ k at.
              let o = held_with s.pool k (and_then talk (λ e a. Done e (f a))) in
              let y : OnDevice w o.state =
              left_by d.store.device (messages true (and_then talk (λ e a. Done e (f a))) (told_to s.pool k)) (OnDevice w o.state)
              (names_held (λ e _. OnDevice w e) n t (watched_image w) all (told_to s.pool k))
              (sym (ap (λ (z : Option Mounted). first_named n t (asked_messages s z (and_then talk (λ e a. Done e (f a))))) at) ∙ none) in
              (y.device, λ same. moved o.state d.store.device same y);
          names = λ i e. said_asked d.store.device (and_then talk (λ e a. Done e (f a))) (mounted_in s.mounted d.store.device) all i e;
        }

    -- each device

    each_claim : (pool : Pool) (f : MarksDevice → Talk (Unit {0})) → ((w : Watch) (d : MarksDevice) → OnDevice w d → Kept w (f d)) →
        ((d : MarksDevice) (u : Told) → IsSized d (hold true (f d) u).state) → Claim (Each pool f)
    each_claim pool f kept sized = record {
      leaves = λ _. (
        sized,
        λ u. (silent_held (λ e _. Quietly e) n t (kept (watch_at n t m n) m.device quietly) u).1,
      );
      names = λ i e. absurd (none_some (sym (swept_none n t f kept s.mounted pool) ∙ e));
    }

    lends_claim : (x y : MarksDevice) → Claim (Lends x y)
    lends_claim x y = record {
      leaves = λ _. (
        (λ u. (silent_held (λ e _. Quietly e) n t (lend_kept (watch_at n t m n) m.device x.store.device quietly) u).1),
        λ d k. k,
      );
      names = λ i e. absurd (none_some e);
    }

    start_claim : (d : MarksDevice) (path : ℕ) (end : EventEnd) → Stands s d → Claim (Becomes (start d path) end)
    unfolding S.start
    start_claim d path end x = becomes_claim d (start d path) end x refl

    claims : IsDeedwise s Claim
    claims = record {
      ended = ends_claim;
      started = λ d x path fault. start_claim d path _ x;
      seconded = λ d x h is. silent_claim d (second by_plain d) (λ a. Some (ends.Second a)) (second_kept (watch_at n t m d.store.device) d (starts_on d x));
      commanded = λ d x whole o running.
          says_claim d (command by_plain d) (end_of ends.Stepped) (command_says (watch_at n t m d.store.device) d (starts_on d x));
      worked = λ d x whole.
          silent_claim d (background by_plain d) (end_of ends.Back) (background_kept (watch_at n t m d.store.device) d (starts_on d x));
      cut = λ d x path.
          silent_claim d (reset by_plain d path) (λ a. Some (ends_done a)) (reset_kept (watch_at n t m d.store.device) d path (starts_on d x));
      lost_cache = each_claim (cache_failed s.pool) (λ d. lose by_plain d losses.Cache) (λ w d k. lose_kept w d losses.Cache k)
          (λ d u. lose_sized d losses.Cache u);
      lost_store = each_claim (store_failed s.pool) (λ d. lose by_plain d losses.Store) (λ w d k. lose_kept w d losses.Store k)
          (λ d u. lose_sized d losses.Store u);
      lost_side = λ d x side fault.
          silent_claim d (lose by_plain d (losses.Side side)) (λ a. Some (ends_done a))
          (lose_kept (watch_at n t m d.store.device) d (losses.Side side) (starts_on d x));
      lost_power = each_claim (power_lost s.pool) (power by_plain) (λ w d k. power_kept w d k) (λ d u. power_sized d u);
      repaired_cache = repairs_claim _;
      repaired_store = repairs_claim _;
      lent = λ x y a b fault. lends_claim x y;
      held = λ d x fault. becomes_claim d _ ends.Done x refl;
      resumed = λ d x fault. becomes_claim d _ ends.Done x refl;
    }

    -- Events

    pub untold_event : (e : Event) → first_named n t (event_messages s e) ≡ None → StaysQuiet m t (happens s e).behind n
    unfolding H.happens M.event_messages
    untold_event e none =
        let x = deed by_plain s.pool (devices_of s) e in
        stays_so (happens s e).behind (deed_at n Quietly s m there quietly x ((deed_is s Claim claims e).leaves none))

    pub told_event : (e : Event) (i : Image) → first_named n t (event_messages s e) ≡ Some i → i ≡ plain_at m.device.store t
    unfolding M.event_messages
    told_event e i is = (deed_is s Claim claims e).names i is

    -- Looks and orders

    pub quiet_look : (d q : ℕ) → StaysQuiet m t (looked s d q).behind n
    quiet_look d q =
        stays_so (looked s d q).behind (looked_there n Quietly s m there quietly d q
        (λ u. (silent_held (λ e _. Quietly e) n t (peek_kept (watch_at n t m n) m.device q quietly) u).1))

    side_quiet : (side : Side) → Quietly (replace m.device side)
    side_quiet A = quietly
    side_quiet B = quietly

    pub quiet_replaced : (d : ℕ) (side : Side) (volume : Calls) → StaysQuiet m t (replaced s d side volume).behind n
    quiet_replaced d side volume =
        stays_so (replaced s d side volume).behind (replaced_there n Quietly s m there quietly d side volume (side_quiet side))

    -- a device that isn't lent gets no other volume where a pair is taken apart
    abbrev AtHome : MarksDevice → Type 0
    AtHome d = Quietly d × (d.store.lent ≡ None)

    lent_none : (o : Option ℕ) (k : ℕ) → o ≡ None → is_lent_to o k ≡ true → ⊥
    lent_none None k e lent = absurd (cc)
    lent_none (Some to) k e lent = absurd (cc)

    pub quiet_unpaired : m.device.store.lent ≡ None → (d : ℕ) (volume : Calls) → StaysQuiet m t (unpaired s d volume).behind n
    quiet_unpaired home d volume =
        let x = unpaired_there n AtHome s m there (quietly, home) (λ y k. k) d volume (λ y k lent. absurd (lent_none y.store.lent d k.1 lent)) in
        stays_so (unpaired s d volume).behind (record { mounted = x.mounted; there = x.there; is_so = x.is_so.0 })
