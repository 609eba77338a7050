-- In a run whose outside is told, too, the pool has been told behind each event how many tracks wait.
use Rattle.std.proofs.Common.{◌≡◌, ◌==◌, ℕ, Bool, true, false, List, Option, Some, None, set, get_or, refl, sym, ap, ◌∙◌}
use Rattle.std.proofs.lemmas.Bool.{eqb-true}
use Rattle.std.proofs.lemmas.List.{set-get_or}
use Rattle.std.specs.Prelude.{if◌then◌else◌}
use Rattle.ckd_types.specs.declared.paths.Side.{Side}
use Rattle.ckd_types.specs.declared.paths.Side.TheVariants as sides
use Rattle.loss_model.specs.declared.Loss.{Loss}
use Rattle.loss_model.specs.declared.Loss.TheVariants as losses
use Rattle.track_image.specs.Image.{Image}
use Rattle.device_outside.specs.Interaction.{Interaction, Done, Try, Ask, Read, Write, Tell, and_then}
use Rattle.device_outside.specs.Keeper.{reply}
use Rattle.device_outside.specs.Pool as O
use Rattle.device_outside.specs.Pool.{TellWaiting, answer, after}
use Rattle.device_outside.specs.Told as T
use Rattle.device_outside.specs.Told.{Told, RunOutcome, hold, calls_of, read_fails, write_fails, told_read, told_write}
use Rattle.device_defs.specs.declared.answers.Did.{Did}
use Rattle.device_defs.specs.Background.{work}
use Rattle.device_defs.specs.Command as N
use Rattle.device_defs.specs.Command.{command_by, command}
use Rattle.device_defs.specs.Contents.{Contents}
use Rattle.device_defs.specs.Cutting as U
use Rattle.device_defs.specs.Cutting.{half_cut, powered_off, power}
use Rattle.device_defs.specs.Device.{Device, with_store, event_begun, event_ended, quiet_event, event}
use Rattle.device_defs.specs.Events as E
use Rattle.device_defs.specs.Events.{losing, second_of, second, background, lose}
use Rattle.device_defs.specs.Owed.{all_told, waiting_count, waiting_told, noted_end}
use Rattle.device_defs.specs.Store.{Store, tracks_of}
use Rattle.device_laws.proofs.Based.{Base, kept, Hushed, Based, based_done, based_try, based_ask, based_read, based_write, based_tell}
use Rattle.device_laws.proofs.BasedEvents.{base_in, with_one_loss, fronted, front_based, command_body, second_body, work_body, lose_body, power_body}
use Rattle.device_laws.proofs.invariants.CallCounts.{all_told_steady}
use Rattle.device_laws.proofs.RanBased.{put_in, after_waits}

-- what stands between an interaction that tells none, and the run of another behind it
record Split {R S U X Y : Type 0} (base : S → Base) (b : Base) (r : R) (i : Interaction R Image S X) (f : S → X → Interaction R Image U Y)
    (w : Told) : Type 0 where
  state : S
  answer : X
  told : Told
  device : (base state).device ≡ b.device
  waiting : told.pool.waiting ≡ w.pool.waiting
  same : hold r (and_then i f) w ≡ hold r (f state answer) told

read_pool : (w : Told) (side : Side) → (told_read w side).pool ≡ w.pool
read_pool w sides.A = refl
read_pool w sides.B = refl

write_pool : (w : Told) (side : Side) → (told_write w side).pool ≡ w.pool
write_pool w sides.A = refl
write_pool w sides.B = refl

-- one more step
carried : {R S U X Y : Type 0} {base : S → Base} {b d : Base} {r : R} {i j : Interaction R Image S X} {f : S → X → Interaction R Image U Y} {w v : Told} →
    d.device ≡ b.device → v.pool.waiting ≡ w.pool.waiting → hold r (and_then i f) w ≡ hold r (and_then j f) v → Split base d r j f v → Split base b r i f w
carried own e same y = record {
  state = y.state;
  answer = y.answer;
  told = y.told;
  device = y.device ∙ own;
  waiting = y.waiting ∙ e;
  same = same ∙ y.same;
}

split : {R S U X Y : Type 0} {base : S → Base} {b : Base} {i : Interaction R Image S X} (r : R) (f : S → X → Interaction R Image U Y) → Based base Hushed b i →
    (w : Told) → Split base b r i f w
unfolding T.hold
split r f (based_done e) w = record { state = _; answer = _; told = w; device = ap (λ (x : Base). x.device) e; waiting = refl; same = refl }
split r f (based_try x) w = carried refl refl refl (split r f (x true) w)
split r f (based_ask {call = call} m x) w =
    let a = answer w.pool call in carried refl (after_waits w.pool call a m) refl (split r f (x a) (record w { pool = after w.pool call a }))
split r f (based_read {side = side} x) w =
    carried refl (ap (λ (p : O.Pool). p.waiting) (read_pool w side)) refl
    (split r f (x (if read_fails (calls_of w side) then None else Some r)) (told_read w side))
split r f (based_write {side = side} x) w =
    carried refl (ap (λ (p : O.Pool). p.waiting) (write_pool w side)) refl
    (split r f (x (if write_fails (calls_of w side) then false else true)) (told_write w side))
split r f (based_tell {m = m} x) w = carried refl refl refl (split r f (x (reply m)) w)

-- one that tells none leaves the numbers that the pool has
pub hushed_waits : {R S X : Type 0} {base : S → Base} {b : Base} {i : Interaction R Image S X} (r : R) → Based base Hushed b i → (w : Told) →
    (hold r i w).told.pool.waiting ≡ w.pool.waiting
unfolding T.hold
hushed_waits r (based_done e) w = refl
hushed_waits r (based_try x) w = hushed_waits r (x true) w
hushed_waits r (based_ask {call = call} m x) w =
    let a = answer w.pool call in hushed_waits r (x a) (record w { pool = after w.pool call a }) ∙ after_waits w.pool call a m
hushed_waits r (based_read {side = side} x) w =
    hushed_waits r (x (if read_fails (calls_of w side) then None else Some r)) (told_read w side) ∙ ap (λ (p : O.Pool). p.waiting) (read_pool w side)
hushed_waits r (based_write {side = side} x) w =
    hushed_waits r (x (if write_fails (calls_of w side) then false else true)) (told_write w side) ∙ ap (λ (p : O.Pool). p.waiting) (write_pool w side)
hushed_waits r (based_tell {m = m} x) w = hushed_waits r (x (reply m)) w

hold_on : {R S U V X Y Z : Type 0} (r : R) (i : Interaction R Image S X) (f : S → X → Interaction R Image U Y) (g : U → Y → Interaction R Image V Z)
    (w : Told) →
    hold r (and_then (and_then i f) g) w ≡ hold r (and_then i (λ s a. and_then (f s a) g)) w
unfolding T.hold
hold_on r (Done s a) f g w = refl
hold_on r (Try k) f g w = hold_on r (k true) f g w
hold_on r (Ask call k) f g w = hold_on r (k (answer w.pool call)) f g (record w { pool = after w.pool call (answer w.pool call) })
hold_on r (Read side t k) f g w = hold_on r (k (if read_fails (calls_of w side) then None else Some r)) f g (told_read w side)
hold_on r (Write side t x k) f g w = hold_on r (k (if write_fails (calls_of w side) then false else true)) f g (told_write w side)
hold_on r (Tell m k) f g w = hold_on r (k (reply m)) f g w

module _ {F P H R : Type 0} (c : Contents F P H R) (r : R) where
  -- the pool has device n's number as it is behind this outcome
  abbrev pub HasTold : {X : Type 0} → List ℕ → ℕ → RunOutcome (Device F P H) X → Type 0
  HasTold ws n o = o.told.pool.waiting ≡ set ws n (waiting_count c o.state.store)

  module _ {X : Type 0} (y : Device F P H) (o : X) (before d : ℕ) (ws : List ℕ) (number : get_or ws d 0 ≡ before) where
    count_told : (s : Store F P H) → s.device ≡ d → (b : Bool) → (waiting_count c s == before) ≡ b → (w : Told) → w.pool.waiting ≡ ws →
        HasTold ws d (hold r (and_then (if b then Done s tt else Ask (TellWaiting s.device (waiting_count c s)) (λ _. Done s tt)) (put_in y o)) w)
    unfolding T.hold O.after
    count_told s own true is w same =
        same ∙ sym (ap (set ws d) (sym number) ∙ set-get_or ws d 0) ∙ ap (set ws d) (sym (eqb-true (waiting_count c s) before is))
    count_told s own false is w same =
        ap (λ (l : List ℕ). set l s.device (waiting_count c s)) same ∙ ap (λ (n : ℕ). set ws n (waiting_count c s)) own

    end_told : y.store.device ≡ d → (w : Told) → w.pool.waiting ≡ ws → HasTold ws d (hold r (and_then (noted_end c before y.store) (put_in y o)) w)
    end_told own w same =
        let x = split r (λ z _. and_then (waiting_told c before z) (put_in y o)) (all_told_steady c (tracks_of y.store) y.store) w in
        rw (hold_on r (all_told c (tracks_of y.store) y.store) (λ z _. waiting_told c before z) (put_in y o) w ∙ x.same)
        (count_told x.state (x.device ∙ own) (waiting_count c x.state == before) refl x.told (x.waiting ∙ same))

  pub quiet_told : {X : Type 0} (d : Device F P H) (b : Base) (body : Device F P H → Interaction R Image (Device F P H) X) → b.device ≡ d.store.device →
      Based base_in Hushed b (body (event_begun d)) → (w : Told) → get_or w.pool.waiting d.store.device 0 ≡ waiting_count c d.store →
      HasTold w.pool.waiting d.store.device (hold r (quiet_event c d body) w)
  quiet_told d b body own x w number =
      let y = split r (event_ended c d) x w in
      rw y.same (end_told y.state y.answer (waiting_count c d.store) d.store.device w.pool.waiting number (y.device ∙ own) y.told y.waiting)

  module _ (d : Device F P H) (w : Told) (number : get_or w.pool.waiting d.store.device 0 ≡ waiting_count c d.store) where
    event_told : {X : Type 0} (body : Device F P H → Interaction R Image (Device F P H) X) (f : Base → Base) → (f (kept d.store)).device ≡ d.store.device →
        ((y : Device F P H) → Based base_in Hushed (f (kept y.store)) (body y)) → HasTold w.pool.waiting d.store.device (hold r (event c d body) w)
    event_told body f own x = quiet_told d (f (kept d.store)) (fronted c d body) own (front_based c d body f x) w number

    pub command_told : HasTold w.pool.waiting d.store.device (hold r (command c d) w)
    unfolding N.command T.hold
    command_told = event_told (λ y. command_by c y y.history.running y.chain) (λ (b : Base). b) refl (λ y. command_body c y)

    pub second_told : HasTold w.pool.waiting d.store.device (hold r (second c d) w)
    unfolding E.second
    second_told = event_told (λ y. second_of c y y.store.half) (λ (b : Base). b) refl (λ y. second_body c y)

    pub background_told : HasTold w.pool.waiting d.store.device (hold r (background c d) w)
    unfolding E.background
    background_told = event_told (λ y. and_then (work c y.store) (λ s (did : Option Did). Done (with_store y s) did)) (λ (b : Base). b) refl
        (λ y. work_body c y)

    pub loss_told : (loss : Loss) → HasTold w.pool.waiting d.store.device (hold r (lose c d loss) w)
    unfolding E.lose
    loss_told loss = event_told (λ y. and_then (losing c y.store loss) (λ s _. Done (with_store y s) tt)) (with_one_loss loss) refl (λ y. lose_body c loss y)

    pub power_told : HasTold w.pool.waiting d.store.device (hold r (power c d) w)
    unfolding U.power
    power_told =
        quiet_told d (with_one_loss losses.Cache (kept d.store)) (λ x. and_then (half_cut c x.store x.store.half) (λ s _. Done (powered_off c x s) tt)) refl
        (power_body c d) w number
