-- Behind a run, calls that failed were taken from what the volumes still may fail, and the pool was told how many tracks wait.
use Rattle.std.proofs.Common.{◌≡◌, ◌≤◌, ◌+◌, ◌==◌, ℕ, Bool, true, false, List, Option, Some, None, is_some, not, set, refl, sym, ap, subst, ◌∙◌, arith, min}
use Rattle.std.proofs.lemmas.List.{set-get_or}
use Rattle.std.proofs.lemmas.Bool.{eqb-true}
use Rattle.std.specs.Prelude.{if◌then◌else◌}
use Rattle.ckd_types.specs.declared.paths.Side.{Side}
use Rattle.ckd_types.specs.declared.paths.Side.TheVariants as sides
use Rattle.track_image.specs.Image.{Image}
use Rattle.device_outside.specs.Interaction.{Interaction, Done, Try, Ask, Read, Write, Tell, and_then}
use Rattle.device_outside.specs.Keeper.{Hearing}
use Rattle.device_outside.specs.Outside.{ByPool, Outside, view_of, with_view, Ran, done, tried, asked, read, wrote, told}
use Rattle.device_outside.specs.Pool as P
use Rattle.device_outside.specs.Pool.{
  Pool,
  Call,
  NextNotice,
  Touch,
  WantFrame,
  SetModified,
  SetClean,
  DropFrame,
  WantSlot,
  FreeSlot,
  TellWaiting,
  AnswerTo,
  after,
}
use Rattle.device_outside.specs.Volume as V
use Rattle.device_outside.specs.Volume.{VolumeView, Spent, counted, counted_if}
use Rattle.device_defs.specs.Contents.{Contents}
use Rattle.device_defs.specs.Device.{Device, event_begun, event_ended, quiet_event}
use Rattle.device_defs.specs.Owed.{all_told, waiting_count, waiting_told, noted_end}
use Rattle.device_defs.specs.Pledge.{StaysWithin}
use Rattle.device_defs.specs.Store.{Store, tracks_of}
use Rattle.device_laws.specs.Handed.{allowance_of, in_all, allowance_in, waiting_of, waiting_in, HasWaiting, with_waiting}
use Rattle.device_laws.proofs.Based.{Base, Hushed, Based, based_done, based_try, based_ask, based_read, based_write, based_tell}
use Rattle.device_laws.proofs.BasedEvents.{base_in}
use Rattle.device_laws.proofs.invariants.CallCounts.{all_told_steady}

-- Calls that fail

counted_most : (n : ℕ) → counted n ≤ n + 1
unfolding V.counted
counted_most n = least_of (n + 1) _ where
  least_of : (x y : ℕ) → min x y ≤ x
  least_of x y = omega arith

in_turn : (x y : Option ℕ) → in_all x y ≡ in_all y x
in_turn (Some x) (Some y) = ap Some (omega arith)
in_turn (Some x) None = refl
in_turn None (Some y) = refl
in_turn None None = refl

call_within : (p : Option ℕ) (n : ℕ) (ok : Bool) (x new other : Option ℕ) → Spent ok x new → StaysWithin p n (in_all x other) →
    StaysWithin p (counted_if (not ok) n) (in_all new other)
call_within None n ok x new other s k = tt
call_within (Some m) n ok None new other s k = absurd k
call_within (Some m) n ok (Some x) new None s k = absurd k
call_within (Some m) n true (Some x) None (Some y) s k = absurd s
call_within (Some m) n true (Some x) (Some z) (Some y) s k = omega (arith, s, k)
call_within (Some m) n false (Some x) None (Some y) s k = absurd s
call_within (Some m) n false (Some x) (Some z) (Some y) s k = let c = counted_most n in omega (arith, s, k, c)

module _ {R K : Type 0} (p : Option ℕ) (n : ℕ) (ok : Bool) (w : Outside R K) (v u : VolumeView R) where
  side_within : (side : Side) → view_of w side ≡ Some v → Spent ok v.allowance u.allowance → StaysWithin p n (allowance_in w) →
      StaysWithin p (counted_if (not ok) n) (allowance_in (with_view w side u))
  side_within sides.A seen spent k =
      call_within p n ok v.allowance u.allowance (allowance_of w.b) spent
      (subst (λ (o : Option (VolumeView R)). StaysWithin p n (in_all (allowance_of o) (allowance_of w.b))) seen k)
  side_within sides.B seen spent k =
      rw (← (in_turn u.allowance (allowance_of w.a))) (call_within p n ok v.allowance u.allowance (allowance_of w.a) spent
      (subst (StaysWithin p n) (in_turn (allowance_of w.a) v.allowance)
      (subst (λ (o : Option (VolumeView R)). StaysWithin p n (in_all (allowance_of w.a) (allowance_of o))) seen k)))

pub ran_within : {R K S X : Type 0} {had : Bool → Type 0} {hears : Hearing Image K} {base : S → Base} {may : Call → Type 0} {b : Base}
    {i : Interaction R Image S X} {u z : Outside R K} {s : S} {a : X} (p : Option ℕ) → Based base may b i → Ran had hears i u s a z →
    StaysWithin p b.counts.failed (allowance_in u) → StaysWithin p (base s).counts.failed (allowance_in z)
ran_within {z = z} p (based_done e) done k = rw e k
ran_within p (based_try x) (tried ok m r) k = ran_within p (x ok) r k
ran_within p (based_ask m x) (asked {a = a} says r) k = ran_within p (x a) r k
ran_within {b = b} {u = w} p (based_read x) (read {side = side} {got = got} {v = v} {u = u} seen of r) k =
    ran_within p (x got) r (side_within p b.counts.failed (is_some got) w v u side seen of.spent k)
ran_within {b = b} {u = w} p (based_write x) (wrote {side = side} {ok = ok} {v = v} {u = u} seen of r) k =
    ran_within p (x ok) r (side_within p b.counts.failed ok w v u side seen of.spent k)
ran_within p (based_tell x) (told q hears had r) k = ran_within p (x q) r k

-- Tracks that wait

pub after_waits : (p : Pool) (c : Call) (a : AnswerTo c) → Hushed c → (after p c a).waiting ≡ p.waiting
unfolding P.after
after_waits p (NextNotice d) a h = refl
after_waits p (Touch d t) a h = refl
after_waits p (WantFrame d t) a h = refl
after_waits p (SetModified d t) a h = refl
after_waits p (SetClean d t) a h = refl
after_waits p (DropFrame d t) a h = refl
after_waits p WantSlot a h = refl
after_waits p (FreeSlot k) a h = refl
after_waits p (TellWaiting d n) a h = absurd h

call_waits : (old : Option Pool) (c : Call) (a : AnswerTo c) (new : Option Pool) → Hushed c → ByPool old c a new → waiting_of new ≡ waiting_of old
call_waits None c a new h is = ap waiting_of is
call_waits (Some p) c a new h is = ap waiting_of is.1 ∙ ap Some (after_waits p c a h)

told_waits : (old : Option Pool) (d n : ℕ) (a : Unit {0}) (new : Option Pool) → ByPool old (TellWaiting d n) a new →
    waiting_of new ≡ with_waiting (waiting_of old) d n
unfolding P.after
told_waits None d n a new is = ap waiting_of is
told_waits (Some p) d n a new is = ap waiting_of is.1

viewed : {R K : Type 0} (w : Outside R K) (side : Side) (u : VolumeView R) → waiting_in (with_view w side u) ≡ waiting_in w
viewed w sides.A u = refl
viewed w sides.B u = refl

-- what stands between an interaction that tells none, and the run of another behind it
pub record Split {R K S T X Y : Type 0} (had : Bool → Type 0) (hears : Hearing Image K) (base : S → Base) (b : Base) (f : S → X → Interaction R Image T Y)
    (u : Outside R K) (e : T) (o : Y) (z : Outside R K) : Type 0 where
  pub state : S
  pub answer : X
  pub outside : Outside R K
  pub device : (base state).device ≡ b.device
  pub waiting : waiting_in outside ≡ waiting_in u
  pub ran : Ran had hears (f state answer) outside e o z

pub split : {R K S T X Y : Type 0} {had : Bool → Type 0} {hears : Hearing Image K} {base : S → Base} {b : Base} {i : Interaction R Image S X}
    {u z : Outside R K} {e : T} {o : Y} (f : S → X → Interaction R Image T Y) → Based base Hushed b i → Ran had hears (and_then i f) u e o z →
    Split had hears base b f u e o z
split f (based_done x) r = record { state = _; answer = _; outside = _; device = ap (λ (y : Base). y.device) x; waiting = refl; ran = r }
split f (based_try x) (tried ok m r) = split f (x ok) r
split {u = w} f (based_ask {call = call} m x) (asked {a = a} {p = p} says r) =
    let y = split f (x a) r in
    record {
      state = y.state;
      answer = y.answer;
      outside = y.outside;
      device = y.device;
      waiting = y.waiting ∙ call_waits w.port.pool call a p.pool m says.by_pool;
      ran = y.ran;
    }
split {u = w} f (based_read x) (read {side = side} {got = got} {u = u} seen of r) =
    let y = split f (x got) r in
    record { state = y.state; answer = y.answer; outside = y.outside; device = y.device; waiting = y.waiting ∙ viewed w side u; ran = y.ran }
split {u = w} f (based_write x) (wrote {side = side} {ok = ok} {u = u} seen of r) =
    let y = split f (x ok) r in
    record { state = y.state; answer = y.answer; outside = y.outside; device = y.device; waiting = y.waiting ∙ viewed w side u; ran = y.ran }
split f (based_tell x) (told q hears had r) =
    let y = split f (x q) r in
    record { state = y.state; answer = y.answer; outside = y.outside; device = y.device; waiting = y.waiting; ran = y.ran }

ran_on : {R K S T U X Y Z : Type 0} {had : Bool → Type 0} {hears : Hearing Image K} (i : Interaction R Image S X) (f : S → X → Interaction R Image T Y)
    (g : T → Y → Interaction R Image U Z) {u z : Outside R K} {e : U} {o : Z} → Ran had hears (and_then (and_then i f) g) u e o z →
    Ran had hears (and_then i (λ s a. and_then (f s a) g)) u e o z
ran_on (Done s a) f g r = r
ran_on (Try k) f g (tried ok m r) = tried ok m (ran_on (k ok) f g r)
ran_on (Ask call k) f g (asked {a = a} says r) = asked says (ran_on (k a) f g r)
ran_on (Read side t k) f g (read {got = got} seen of r) = read seen of (ran_on (k got) f g r)
ran_on (Write side t b k) f g (wrote {ok = ok} seen of r) = wrote seen of (ran_on (k ok) f g r)
ran_on (Tell m k) f g (told q hears had r) = told q hears had (ran_on (k q) f g r)

pub own_waiting : (w : Option (List ℕ)) (d n : ℕ) → HasWaiting w d n → with_waiting w d n ≡ w
own_waiting None d n h = refl
own_waiting (Some ws) d n h = ap Some (ap (set ws d) (sym h) ∙ set-get_or ws d 0)

abbrev pub put_in : {F P H R X : Type 0} → Device F P H → X → Store F P H → Unit {0} → Interaction R Image (Device F P H) X
put_in y o z x = Done (record y { store = z }) o

module _ {F P H R K : Type 0} (c : Contents F P H R) {had : Bool → Type 0} {hears : Hearing Image K} where
  module _ {X : Type 0} (y : Device F P H) (o : X) (before d : ℕ) (w : Option (List ℕ)) (number : HasWaiting w d before) where
    count_told : (s : Store F P H) → s.device ≡ d → (b : Bool) → (waiting_count c s == before) ≡ b → {u z : Outside R K} {e : Device F P H} {a : X} →
        waiting_in u ≡ w →
        Ran had hears (and_then (if b then Done s tt else Ask (TellWaiting s.device (waiting_count c s)) (λ _. Done s tt)) (put_in y o)) u e a z →
        waiting_in z ≡ with_waiting w d (waiting_count c e.store)
    count_told s own true is same done =
        same ∙ sym (own_waiting w d before number)
        ∙ ap (with_waiting w d) (sym (eqb-true (waiting_count c s) before is))
    count_told s own false is {u = u} same (asked {a = a} {p = p} says done) =
        told_waits u.port.pool s.device (waiting_count c s) a p.pool says.by_pool
        ∙ ap (λ (n : ℕ). with_waiting (waiting_in u) n (waiting_count c s)) own
        ∙ ap (λ (x : Option (List ℕ)). with_waiting x d (waiting_count c s)) same

    end_told : y.store.device ≡ d → {u z : Outside R K} {e : Device F P H} {a : X} → waiting_in u ≡ w →
        Ran had hears (and_then (noted_end c before y.store) (put_in y o)) u e a z → waiting_in z ≡ with_waiting w d (waiting_count c e.store)
    end_told own same r =
        let x = split (λ z _. and_then (waiting_told c before z) (put_in y o)) (all_told_steady c (tracks_of y.store) y.store)
        (ran_on (all_told c (tracks_of y.store) y.store) (λ z _. waiting_told c before z) (put_in y o) r) in
        count_told x.state (x.device ∙ own) (waiting_count c x.state == before) refl (x.waiting ∙ same) x.ran

  -- behind an event the pool has been told how many of the device's tracks wait
  pub quiet_waits : {X : Type 0} (d : Device F P H) (b : Base) (body : Device F P H → Interaction R Image (Device F P H) X) →
      b.device ≡ d.store.device → Based base_in Hushed b (body (event_begun d)) → {u z : Outside R K} {e : Device F P H} {a : X} →
      HasWaiting (waiting_in u) d.store.device (waiting_count c d.store) → Ran had hears (quiet_event c d body) u e a z →
      waiting_in z ≡ with_waiting (waiting_in u) d.store.device (waiting_count c e.store)
  quiet_waits d b body own x {u = u} number r =
      let y = split (event_ended c d) x r in
      end_told y.state y.answer (waiting_count c d.store) d.store.device (waiting_in u) number (y.device ∙ own) y.waiting y.ran
