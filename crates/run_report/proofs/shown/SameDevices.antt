-- Behind every event each device is the one that it was: of the same number and size, with the same plans.
use Rattle.std.proofs.Common.{◌≡◌, ℕ, Bool, true, false, List, [], ◌∷◌, Option, Some, None, is_some, zero, suc, map, refl, ap, subst, ◌∙◌}
use Rattle.std.proofs.lemmas.List.Elements.{All-head, All-tail}
use Rattle.std.specs.Prelude.{All, if◌then◌else◌}
use Rattle.ckd_types.specs.declared.geometry.Geometry.{Geometry}
use Rattle.ckd_types.specs.declared.paths.Side.{Side}
use Rattle.ckd_types.specs.declared.paths.Side.TheVariants as sides
use Rattle.deck_text.specs.DeckLines.{DeckLines}
use Rattle.loss_model.specs.declared.Loss.{Loss}
use Rattle.loss_model.specs.declared.Loss.TheVariants as losses
use Rattle.track_image.specs.Image.{Image}
use Rattle.device_outside.specs.Interaction.{Interaction}
use Rattle.device_outside.specs.Pool.{Call}
use Rattle.device_defs.specs.Command.{command}
use Rattle.device_defs.specs.Contents.{by_plain}
use Rattle.device_defs.specs.Cutting.{reset, power}
use Rattle.device_defs.specs.Device.{event_begun}
use Rattle.device_defs.specs.Events.{second, lose, background}
use Rattle.device_defs.specs.Losses as L
use Rattle.device_defs.specs.Losses.{over, slot_in, gives_up, without_frame}
use Rattle.device_defs.specs.Marks.{MarksDevice, MarksStore}
use Rattle.device_defs.specs.Orders as Q
use Rattle.device_defs.specs.Orders.{hold_side, resume, replace, restore, join, split, lend, lent_to, given_up}
use Rattle.device_defs.specs.Owed as O
use Rattle.device_defs.specs.Start as S
use Rattle.device_defs.specs.Start.{start, next_ordinal}
use Rattle.device_defs.specs.Store.{tracks_of, frame_at, patch_at, owed_at, with_frame, with_owed}
use Rattle.device_laws.proofs.Always as A
use Rattle.device_laws.proofs.Always.{Behind, Always, always_done, always_then}
use Rattle.device_laws.proofs.Based.{Base, Any, Based, kept, based_any, based_done, based_try, based_ask, based_read, based_write, based_tell}
use Rattle.device_laws.proofs.BasedEvents.{base_in, with_one_loss, command_based, second_based, background_based, lose_based, power_based, reset_body}
use Rattle.device_laws.proofs.KeptEvents.{command_goes, second_goes, background_goes, lose_goes}
use Rattle.device_laws.proofs.PoolWalks.{asks_always, ended_asks}
use Rattle.subsystem_defs.specs.declared.end.EventEnd.TheVariants as ends
use Rattle.subsystem_defs.specs.Decks as D
use Rattle.subsystem_defs.specs.Decks.{Firsts, opened_on, run_on}
use Rattle.subsystem_defs.specs.Deeds.{ends_done, end_of}
use Rattle.subsystem_defs.specs.Lines.{Logged, asked_by, last_behind}
use Rattle.subsystem_defs.specs.Subsystem.{Subsystem, devices_of}
use Rattle.subsystem_laws.specs.Causes.{EachPair}
use Rattle.subsystem_laws.specs.Served.{IsServedDeck}
use Rattle.subsystem_laws.specs.Came.{CameTo}
use Rattle.subsystem_laws.proofs.Came.{at}
use Rattle.subsystem_laws.proofs.DeedWalk.{seat_of, IsDeedwise}
use Rattle.subsystem_laws.proofs.Explained.{its_own}
use Rattle.subsystem_laws.proofs.Pairing.{KeepsDeed, deeds_of, IsPairwise, run_pairs, ends_made, becomes_so, started_number}
use Rattle.subsystem_laws.proofs.RunLinks.{Linked, lines_linked}
use Rattle.subsystem_laws.proofs.Shapes.{reset_shape, power_shape}

pub record IsOne (x y : MarksDevice) : Type 0 where
  pub number : y.store.device ≡ x.store.device
  pub geometry : y.store.geometry ≡ x.store.geometry
  pub cylinders : y.store.cylinders ≡ x.store.cylinders
  pub plans : y.plans ≡ x.plans

pub itself : (d : MarksDevice) → IsOne d d
itself d = record { number = refl; geometry = refl; cylinders = refl; plans = refl }

pub one_on : (x y z : MarksDevice) → IsOne x y → IsOne y z → IsOne x z
one_on x y z f g = record {
  number = g.number ∙ f.number;
  geometry = g.geometry ∙ f.geometry;
  cylinders = g.cylinders ∙ f.cylinders;
  plans = g.plans ∙ f.plans;
}

-- An event

abbrev Size : Type 0
Size = ℕ × Geometry × ℕ

abbrev size_of : Base → Size
size_of b = (b.device, b.geometry, b.cylinders)

size_behind : {R S X : Type 0} {base : S → Base} {may : Call → Type 0} {b : Base} {i : Interaction R Image S X} → Based base may b i →
    Behind i (λ s a. size_of (base s) ≡ size_of b)
unfolding A.Behind
size_behind (based_done e) = ap size_of e
size_behind (based_try x) = λ ok. size_behind (x ok)
size_behind (based_ask m x) = λ a. size_behind (x a)
size_behind (based_read x) = λ got. size_behind (x got)
size_behind (based_write x) = λ ok. size_behind (x ok)
size_behind (based_tell x) = λ r. size_behind (x r)

one_by : {X : Type 0} (d : MarksDevice) {i : Interaction Bool Image MarksDevice X} (b : Base) → size_of b ≡ size_of (kept d.store) → Based base_in Any b i →
    (t : CameTo i) → t.state.plans ≡ d.plans → IsOne d t.state
one_by d {i} b is x t plans =
    let h : Always i (λ s a. size_of (base_in s) ≡ size_of b) = record { holds = size_behind x } in
    let e = at h t ∙ is in
    record {
      number = ap (λ (z : Size). z.0) e;
      geometry = ap (λ (z : Size). z.1) e;
      cylinders = ap (λ (z : Size). z.2) e;
      plans = plans;
    }

module _ (d : MarksDevice) where
  command_one : (t : CameTo (command by_plain d)) → IsOne d t.state
  command_one t = one_by d (kept d.store) refl (command_based by_plain d) t (at (command_goes by_plain d.plans d.history d (its_own d)) t).plans

  second_one : (t : CameTo (second by_plain d)) → IsOne d t.state
  second_one t = one_by d (kept d.store) refl (second_based by_plain d) t (at (second_goes by_plain d.plans d.history d (its_own d)) t).plans

  background_one : (t : CameTo (background by_plain d)) → IsOne d t.state
  background_one t =
      one_by d (kept d.store) refl (background_based by_plain d) t (at (background_goes by_plain d.plans d.history d (its_own d)) t).plans

  loss_size : (loss : Loss) → size_of (with_one_loss loss (kept d.store)) ≡ size_of (kept d.store)
  loss_size losses.Cache = refl
  loss_size losses.Store = refl
  loss_size (losses.Side side) = refl

  lose_one : (loss : Loss) (t : CameTo (lose by_plain d loss)) → IsOne d t.state
  lose_one loss t =
      one_by d (with_one_loss loss (kept d.store)) (loss_size loss) (lose_based by_plain d loss) t
      (at (lose_goes by_plain d.plans d.history d loss (its_own d)) t).plans

  reset_one : (path : ℕ) (t : CameTo (reset by_plain d path)) → IsOne d t.state
  reset_one path t = one_by d (kept d.store) refl (based_any (reset_body by_plain d path)) t (reset_shape d path t).1

  power_one : (t : CameTo (power by_plain d)) → IsOne d t.state
  power_one t =
      one_by d (with_one_loss losses.Cache (kept d.store)) (loss_size losses.Cache) (power_based by_plain d) t (power_shape d t).1

-- A device that is lent

abbrev size_in : MarksStore → Size
size_in s = (s.device, s.geometry, s.cylinders)

unframed_size : (s : MarksStore) (t : ℕ) (b : Bool) →
    size_in (if b then with_owed (with_frame s t None) t (record (owed_at s t) { dropped = true }) else s) ≡ size_in s
unframed_size s t true = refl
unframed_size s t false = refl

unpatched_size : (s : MarksStore) (t : ℕ) (o : Option ℕ) → size_in (gives_up s t o) ≡ size_in s
unpatched_size s t None = refl
unpatched_size s t (Some slot) = refl

given_size : (n : ℕ) (s : MarksStore) → size_in (over n (given_up by_plain) s) ≡ size_in s
unfolding L.over
given_size zero s = refl
given_size (suc n) s =
    let z = over n (given_up by_plain) s in
    unpatched_size (without_frame z n) n (slot_in by_plain (patch_at (without_frame z n) n))
    ∙ unframed_size z n (is_some (frame_at z n)) ∙ given_size n s

abbrev IsSame : MarksDevice → MarksDevice → Type 0
IsSame d y = (size_in y.store ≡ size_in d.store) × (y.plans ≡ d.plans)

lend_same : (d : MarksDevice) (to : ℕ) → Always (lend by_plain d to) (λ y _. IsSame d y)
unfolding Q.lend
lend_same d to =
    let s = (event_begun d).store in
    let z = lent_to (over (tracks_of s) (given_up by_plain) s) to in
    always_then (asks_always (ended_asks by_plain (λ y. size_in y ≡ size_in z) (λ y t e. e) (O.waiting_count by_plain d.store) z refl))
    (λ y _ e. always_done (e ∙ given_size (tracks_of s) s, refl))

lend_one : (d : MarksDevice) (to : ℕ) (t : CameTo (lend by_plain d to)) → IsOne d t.state
lend_one d to t =
    let e = at (lend_same d to) t in
    record {
      number = ap (λ (z : Size). z.0) e.0;
      geometry = ap (λ (z : Size). z.1) e.0;
      cylinders = ap (λ (z : Size). z.2) e.0;
      plans = e.1;
    }

-- All events

start_one : (d : MarksDevice) (path : ℕ) → IsOne d (start d path)
unfolding S.start
start_one d path = record { number = refl; geometry = refl; cylinders = refl; plans = refl }

replace_one : (d : MarksDevice) (side : Side) → IsOne d (replace d side)
replace_one d sides.A = record { number = refl; geometry = refl; cylinders = refl; plans = refl }
replace_one d sides.B = record { number = refl; geometry = refl; cylinders = refl; plans = refl }

one_deeds : (s : Subsystem) → IsDeedwise s (KeepsDeed IsOne IsOne s)
one_deeds s = record {
  ended = λ end. tt;
  started = λ d x path fault. becomes_so IsOne IsOne s d x (start d path) (started_number d path) (start_one d path) (ends.Started (next_ordinal d path));
  seconded = λ d x h is. (seat_of s d x, ends_made IsOne IsOne d (second by_plain d) (λ a. Some (ends.Second a)) (second_one d));
  commanded = λ d x whole o running. (seat_of s d x, ends_made IsOne IsOne d (command by_plain d) (end_of ends.Stepped) (command_one d));
  worked = λ d x whole. (seat_of s d x, ends_made IsOne IsOne d (background by_plain d) (end_of ends.Back) (background_one d));
  cut = λ d x path. (seat_of s d x, ends_made IsOne IsOne d (reset by_plain d path) (λ a. Some (ends_done a)) (reset_one d path));
  lost_cache = λ d t. lose_one d losses.Cache t;
  lost_store = λ d t. lose_one d losses.Store t;
  lost_side = λ d x side fault. (
    seat_of s d x,
    ends_made IsOne IsOne d (lose by_plain d (losses.Side side)) (λ a. Some (ends_done a)) (lose_one d (losses.Side side)),
  );
  lost_power = λ d t. power_one d t;
  repaired_cache = tt;
  repaired_store = tt;
  lent = λ x y z w fault. (seat_of s y w, lend_one y x.store.device);
  held = λ d x fault. becomes_so IsOne IsOne s d x (hold_side d) refl (record { number = refl; geometry = refl; cylinders = refl; plans = refl }) ends.Done;
  resumed = λ d x fault. becomes_so IsOne IsOne s d x (resume d) refl (record { number = refl; geometry = refl; cylinders = refl; plans = refl }) ends.Done;
}

one_pairwise : IsPairwise IsOne (λ lossy alone. IsOne)
one_pairwise = record {
  own = itself;
  on = one_on;
  made = λ lossy alone x y f. f;
  joins = λ d. record { number = refl; geometry = refl; cylinders = refl; plans = refl };
  splits = λ d fault. record { number = refl; geometry = refl; cylinders = refl; plans = refl };
  replaces = λ d side fault. replace_one d side;
  restores = λ d a is. record { number = refl; geometry = refl; cylinders = refl; plans = refl };
  deeds = λ s p. deeds_of IsOne IsOne s (one_deeds s);
}

-- All devices

abbrev AreOne : List MarksDevice → List MarksDevice → Type 0
AreOne xs ys = EachPair IsOne xs ys

all_same : (xs : List MarksDevice) → AreOne xs xs
all_same [] = tt
all_same (x ∷ xs) = (itself x, all_same xs)

all_on : (xs ys zs : List MarksDevice) → AreOne xs ys → AreOne ys zs → AreOne xs zs
all_on [] [] [] p q = tt
all_on [] [] (z ∷ zs) p q = absurd q
all_on [] (y ∷ ys) zs p q = absurd p
all_on (x ∷ xs) [] zs p q = absurd p
all_on (x ∷ xs) (y ∷ ys) [] p q = absurd q
all_on (x ∷ xs) (y ∷ ys) (z ∷ zs) p q = (one_on x y z p.0 q.0, all_on xs ys zs p.1 q.1)

abbrev Stay : Logged → Type 0
Stay x = AreOne (devices_of x.happened.before) (devices_of x.happened.behind)

stay_on : (ts : List Logged) (s : Subsystem) → Linked s ts → All Stay ts → AreOne (devices_of s) (devices_of (last_behind s ts))
stay_on [] s l p = all_same (devices_of s)
stay_on (t ∷ ts) s l p =
    all_on (devices_of s) (devices_of t.happened.behind) (devices_of (last_behind t.happened.behind ts))
    (subst (λ (z : Subsystem). AreOne (devices_of z) (devices_of t.happened.behind)) l.0 (All-head Stay t ts p))
    (stay_on ts t.happened.behind l.1 (All-tail Stay t ts p))

pub run_keeps_devices : (firsts : Firsts) (deck : DeckLines) → IsServedDeck deck →
    AreOne (devices_of (opened_on firsts deck)) (devices_of (run_on firsts deck).behind)
unfolding D.run_asked_on
run_keeps_devices firsts deck served =
    stay_on (run_on firsts deck).events (opened_on firsts deck) (lines_linked (map asked_by deck.events) (opened_on firsts deck))
    (run_pairs IsOne (λ lossy alone. IsOne) one_pairwise firsts deck served)
