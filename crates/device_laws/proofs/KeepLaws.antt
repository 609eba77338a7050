-- What a turn keeps, what the pool is told, and that no bytes are bad, of each event's run.
use Rattle.plain_defs.specs.History.{History}
use Rattle.device_defs.specs.Store.{has_loose}
use Rattle.device_laws.proofs.LentLosses.{lent_loses}
use Rattle.std.proofs.Common.{◌≡◌, ◌≤◌, ◌==◌, ◌||◌, ℕ, Bool, true, false, not, List, [], Option, Some, None, is_some, refl, sym, ap, subst, ◌∙◌, length}
use Rattle.std.specs.Prelude.{if◌then◌else◌}
use Rattle.loss_model.specs.declared.Loss.{Loss}
use Rattle.loss_model.specs.declared.Loss.TheVariants as losses
use Rattle.track_image.specs.Image.{Image}
use Rattle.device_outside.specs.After.{Holdings, Has}
use Rattle.device_outside.specs.Both.{Both, both_done, both_try, both_ask, both_free, both_read, both_write, both_tell}
use Rattle.device_outside.specs.Interaction.{Interaction, Done, Try, Ask, Read, Write, Tell, and_then}
use Rattle.device_outside.specs.Keeper.{Hearing}
use Rattle.device_outside.specs.Outside.{Outside, Ran, done, tried, asked, read, wrote, told}
use Rattle.device_outside.specs.Pool.{unnumbered}
use Rattle.device_outside.proofs.BothRules.{surely_both}
use Rattle.device_outside.proofs.RanAfter.{ran_after}
use Rattle.device_defs.specs.declared.answers.Did.{Did}
use Rattle.device_defs.specs.declared.answers.SecondEnd.{SecondEnd}
use Rattle.device_defs.specs.declared.answers.Stepped.{Stepped}
use Rattle.device_defs.specs.declared.counts.Losses.{Losses}
use Rattle.device_defs.specs.Command as N
use Rattle.device_defs.specs.Command.{command_by, command}
use Rattle.device_defs.specs.Contents.{Contents}
use Rattle.device_defs.specs.Cutting as U
use Rattle.device_defs.specs.Cutting.{half_cut, powered_off, power, reset}
use Rattle.device_defs.specs.Device.{Device, with_store, event_begun, event}
use Rattle.device_defs.specs.Events as E
use Rattle.device_defs.specs.Events.{one_loss_more, second_of, second, background, losing, lose}
use Rattle.device_defs.specs.Owed.{waiting_count}
use Rattle.device_defs.specs.Peek as J
use Rattle.device_defs.specs.Peek.{Peeked, peek_track, peek}
use Rattle.device_defs.specs.Pledge.{Handed, Pledge, StaysWithin, fresh_count}
use Rattle.device_defs.specs.Start as S
use Rattle.device_defs.specs.Start.{start}
use Rattle.device_laws.specs.Agrees.{Held}
use Rattle.device_laws.specs.Handed.{allowance_in, waiting_in, HasWaiting, with_waiting, StaysInTurn, handed_then}
use Rattle.device_laws.specs.Whole.{WholeDevice, marks_device, WholeTwins, Leaves}
use Rattle.device_laws.proofs.Always as A
use Rattle.device_laws.proofs.Always.{Behind, Always}
use Rattle.device_laws.proofs.Based.{
  Base,
  kept,
  Hushed,
  Any,
  Based,
  based_done,
  based_try,
  based_ask,
  based_read,
  based_write,
  based_tell,
}
use Rattle.device_laws.proofs.BasedEvents.{
  base_in,
  with_one_loss,
  fronted,
  front_based,
  command_body,
  second_body,
  work_body,
  lose_body,
  peeked_body,
  power_body,
  command_based,
  second_based,
  background_based,
  lose_based,
}
use Rattle.device_laws.proofs.CleanParts.{Clean, clean_done, clean_try, clean_ask, clean_read, clean_write, clean_tell}
use Rattle.device_laws.proofs.KeptEvents.{Continues, command_goes, second_goes, background_goes, lose_goes, background_holds, lose_holds}
use Rattle.device_laws.proofs.KeptHistories.{extends_itself, data_checks}
use Rattle.device_laws.proofs.RanBased.{ran_within, quiet_waits, own_waiting}

-- What always holds holds behind a run

pub always_ran : {R K S X : Type 0} {had : Bool → Type 0} {hears : Hearing Image K} (i : Interaction R Image S X)
    (q : S → X → Type 0) {u z : Outside R K} {s : S}
    {a : X} → Behind i q → Ran had hears i u s a z → q s a
unfolding A.Behind
always_ran (Done s a) q h done = h
always_ran (Try k) q h (tried ok m r) = always_ran (k ok) q (h ok) r
always_ran (Ask call k) q h (asked {a = a} says r) = always_ran (k a) q (h a) r
always_ran (Read side t k) q h (read {got = got} seen of r) = always_ran (k got) q (h got) r
always_ran (Write side t b k) q h (wrote {ok = ok} seen of r) = always_ran (k ok) q (h ok) r
always_ran (Tell m k) q h (told p hears had r) = always_ran (k p) q (h p) r

-- but for its calls it is the same
pub record IsSameBase (b x : Base) : Type 0 where
  pub device : x.device ≡ b.device
  pub geometry : x.geometry ≡ b.geometry
  pub cylinders : x.cylinders ≡ b.cylinders
  pub lent : x.lent ≡ b.lent
  pub losses : x.counts.losses ≡ b.counts.losses

pub ran_same : {R K S X : Type 0} {had : Bool → Type 0} {hears : Hearing Image K} {base : S → Base} {may : _} {b : Base} {i : Interaction R Image S X}
    {u z : Outside R K} {s : S} {a : X} → Based base may b i → Ran had hears i u s a z → IsSameBase b (base s)
ran_same (based_done e) done = record {
  device = ap (λ (x : Base). x.device) e;
  geometry = ap (λ (x : Base). x.geometry) e;
  cylinders = ap (λ (x : Base). x.cylinders) e;
  lent = ap (λ (x : Base). x.lent) e;
  losses = ap (λ (x : Base). x.counts.losses) e;
}
ran_same (based_try x) (tried ok m r) = ran_same (x ok) r
ran_same (based_ask m x) (asked {a = a} says r) = ran_same (x a) r
ran_same (based_read x) (read {got = got} seen of r) =
    let y = ran_same (x got) r in record { device = y.device; geometry = y.geometry; cylinders = y.cylinders; lent = y.lent; losses = y.losses }
ran_same (based_write x) (wrote {ok = ok} seen of r) =
    let y = ran_same (x ok) r in record { device = y.device; geometry = y.geometry; cylinders = y.cylinders; lent = y.lent; losses = y.losses }
ran_same (based_tell x) (told q hears had r) = ran_same (x q) r

-- A pledge

-- each kind of loss came at most as often as these
abbrev pub AreWithin : Losses → Losses → Type 0
AreWithin l most = (l.cache ≤ most.cache) × (l.store ≤ most.store) × (l.sides ≤ most.sides)

no_lent : (x : Option ℕ) → x ≡ None → is_some x ≡ true → ⊥
no_lent None is e = cc
no_lent (Some n) is e = cc

module _ {F P H R K : Type 0} (p : Pledge) (v : Handed) (d e : Device F P H) (u z : Outside R K) where
  pub kept_by : StaysInTurn p d v u → (is_some p.lent ≡ true → length e.history.items ≡ p.fresh) → (b : Base) → b.device ≡ d.store.device →
      b.geometry ≡ d.store.geometry →
      b.cylinders ≡ d.store.cylinders → b.lent ≡ d.store.lent → AreWithin b.counts.losses p.losses → IsSameBase b (kept e.store) →
      StaysWithin p.failures e.store.counts.failed (allowance_in z) → Continues d.plans d.history e →
      (p.told ≡ true → data_checks e.history ≡ data_checks d.history) → StaysInTurn p e (handed_then v z) z
  kept_by k still b device geometry cylinders lent within same failures goes checks =
      let lent_is : e.store.lent ≡ d.store.lent = same.lent ∙ lent in
      record {
        keeps = record {
          number = same.device ∙ device ∙ k.keeps.number;
          geometry = same.geometry ∙ geometry ∙ k.keeps.geometry;
          cylinders = same.cylinders ∙ cylinders ∙ k.keeps.cylinders;
          plans = goes.plans ∙ k.keeps.plans;
          lent = lent_is ∙ k.keeps.lent;
          was_lent = ap (λ (x : Option ℕ). is_some x || not (fresh_count e.history.items == 0)) lent_is
              ∙ ap (λ (n : ℕ). is_some d.store.lent || not (n == 0)) goes.history.fresh
              ∙ k.keeps.was_lent;
          journal = goes.history.kept k.none p.fresh k.keeps.journal;
          still = still;
          cache = subst (λ (l : Losses). l.cache ≤ p.losses.cache) (sym same.losses) within.0;
          store = subst (λ (l : Losses). l.store ≤ p.losses.store) (sym same.losses) within.1;
          sides = subst (λ (l : Losses). l.sides ≤ p.losses.sides) (sym same.losses) within.2;
          failures = failures;
          tells = k.keeps.tells;
          told = k.keeps.told;
          checks = λ is. checks is ∙ k.keeps.checks is;
        };
        allowance = refl;
        none = goes.history.waiting k.none;
      }

itself : {F P H : Type 0} (d : Device F P H) → Continues d.plans d.history d
itself d = record { plans = refl; history = extends_itself d.history }

module _ {F P H R K : Type 0} (c : Contents F P H R) (hears : Hearing Image K) (p : Pledge) (v : Handed) (d e : Device F P H) (u z : Outside R K)
    (k : StaysInTurn p d v u) (free : d.store.lent ≡ None) (checks : p.told ≡ true → data_checks e.history ≡ data_checks d.history) where
  within_before : StaysWithin p.failures d.store.counts.failed (allowance_in u)
  within_before = subst (StaysWithin p.failures d.store.counts.failed) k.allowance k.keeps.failures

  event_kept : {X : Type 0} {a : X} (b : Base) → b.device ≡ d.store.device → b.geometry ≡ d.store.geometry → b.cylinders ≡ d.store.cylinders →
      b.lent ≡ d.store.lent → AreWithin b.counts.losses p.losses → b.counts.failed ≡ d.store.counts.failed → (i : Interaction R Image (Device F P H) X) →
      Based base_in Any b i → Always i (λ y _. Continues d.plans d.history y) → Ran (λ ok. Unit {0}) hears i u e a z → StaysInTurn p e (handed_then v z) z
  event_kept b device geometry cylinders lent within failed i x goes r =
      kept_by p v d e u z k (λ is. absurd (no_lent p.lent (sym k.keeps.lent ∙ free) is)) b device geometry cylinders lent within (ran_same x r)
      (ran_within p.failures x r (subst (λ (n : ℕ). StaysWithin p.failures n (allowance_in u)) (sym failed) within_before))
      (always_ran i (λ y _. Continues d.plans d.history y) goes.holds r) checks

  losses_before : AreWithin d.store.counts.losses p.losses
  losses_before = (k.keeps.cache, k.keeps.store, k.keeps.sides)

  pub command_kept : (a : Option Stepped) → Ran (λ ok. Unit {0}) hears (command c d) u e a z → StaysInTurn p e (handed_then v z) z
  command_kept a r =
      event_kept (kept d.store) refl refl refl refl losses_before refl (command c d) (command_based c d)
      (command_goes c d.plans d.history d (itself d)) r

  pub second_kept : (a : SecondEnd) → Ran (λ ok. Unit {0}) hears (second c d) u e a z → StaysInTurn p e (handed_then v z) z
  second_kept a r =
      event_kept (kept d.store) refl refl refl refl losses_before refl (second c d) (second_based c d) (second_goes c d.plans d.history d (itself d)) r

  pub background_kept : (a : Option Did) → Ran (λ ok. Unit {0}) hears (background c d) u e a z → StaysInTurn p e (handed_then v z) z
  background_kept a r =
      event_kept (kept d.store) refl refl refl refl losses_before refl (background c d) (background_based c d)
      (background_goes c d.plans d.history d (itself d)) r

  pub loss_kept : (loss : Loss) (a : Unit {0}) → AreWithin (one_loss_more d.store.counts.losses loss) p.losses → Ran (λ ok. Unit {0}) hears (lose c d loss) u e a z →
      StaysInTurn p e (handed_then v z) z
  loss_kept loss a within r =
      event_kept (with_one_loss loss (kept d.store)) refl refl refl refl within refl (lose c d loss) (lose_based c d loss)
      (lose_goes c d.plans d.history d loss (itself d)) r

-- a loss of a device that is lent and has no data of cache fast write
pub lent_kept : {F P H R K : Type 0} (c : Contents F P H R) {hears : Hearing Image K} (p : Pledge) (v : Handed) (d e : Device F P H) (u z : Outside R K)
    (loss : Loss) (a : Unit {0}) → StaysInTurn p d v u → is_some d.store.lent ≡ true → has_loose d.store ≡ false →
    AreWithin (one_loss_more d.store.counts.losses loss) p.losses → Ran (λ ok. Unit {0}) hears (lose c d loss) u e a z → StaysInTurn p e (handed_then v z) z
lent_kept c p v d e u z loss a k lent firm within r =
    let same : e.history ≡ d.history = always_ran (lose c d loss) (λ y _. y.history ≡ d.history) (lent_loses c d loss lent firm).holds r in
    kept_by p v d e u z k (λ is. ap (λ (h : History). length h.items) same ∙ k.keeps.still is) (with_one_loss loss (kept d.store)) refl refl refl refl within
    (ran_same (lose_based c d loss) r)
    (ran_within p.failures (lose_based c d loss) r (subst (StaysWithin p.failures d.store.counts.failed) k.allowance k.keeps.failures))
    (always_ran (lose c d loss) (λ y _. Continues d.plans d.history y) (lose_goes c d.plans d.history d loss (itself d)).holds r)
    (λ told. ap data_checks same)

-- a start
pub start_kept : {F P H R K : Type 0} (p : Pledge) (v : Handed) (d : Device F P H) (u : Outside R K) (path : ℕ) → StaysInTurn p d v u →
    StaysInTurn p (start d path) v u
unfolding S.start
start_kept p v d u path k = record {
  keeps = record {
    number = k.keeps.number;
    geometry = k.keeps.geometry;
    cylinders = k.keeps.cylinders;
    plans = k.keeps.plans;
    lent = k.keeps.lent;
    was_lent = k.keeps.was_lent;
    journal = k.keeps.journal;
    still = k.keeps.still;
    cache = k.keeps.cache;
    store = k.keeps.store;
    sides = k.keeps.sides;
    failures = k.keeps.failures;
    tells = k.keeps.tells;
    told = k.keeps.told;
    checks = k.keeps.checks;
  };
  allowance = k.allowance;
  none = k.none;
}

-- no data check comes of what a device does by itself, and of losses
module _ {F P H R K : Type 0} (c : Contents F P H R) {hears : Hearing Image K} (d : Device F P H) {e : Device F P H} {u z : Outside R K} where
  pub background_checks : {a : Option Did} → Ran (λ ok. Unit {0}) hears (background c d) u e a z → data_checks e.history ≡ data_checks d.history
  background_checks r =
      always_ran (background c d) (λ y _. data_checks y.history ≡ data_checks d.history) (background_holds c (data_checks d.history) d refl).holds r

  pub loss_checks : (loss : Loss) {a : Unit {0}} → Ran (λ ok. Unit {0}) hears (lose c d loss) u e a z → data_checks e.history ≡ data_checks d.history
  loss_checks loss r =
      always_ran (lose c d loss) (λ y _. data_checks y.history ≡ data_checks d.history) (lose_holds c (data_checks d.history) d loss refl).holds r

-- Tracks that wait

abbrev pub IsTold : {F P H R K : Type 0} → Contents F P H R → Hearing Image K → Device F P H → Device F P H → Outside R K → Outside R K → Type 0
IsTold c hears d e u z = waiting_in z ≡ with_waiting (waiting_in u) d.store.device (waiting_count c e.store)

module _ {F P H R K : Type 0} (c : Contents F P H R) (hears : Hearing Image K) (d e : Device F P H) (u z : Outside R K)
    (number : HasWaiting (waiting_in u) d.store.device (waiting_count c d.store)) where
  event_waits : {X : Type 0} {a : X} (body : Device F P H → Interaction R Image (Device F P H) X) (f : Base → Base) →
      (f (kept d.store)).device ≡ d.store.device → ((y : Device F P H) → Based base_in Hushed (f (kept y.store)) (body y)) →
      Ran (λ ok. Unit {0}) hears (event c d body) u e a z → IsTold c hears d e u z
  event_waits body f own x r = quiet_waits c d (f (kept d.store)) (fronted c d body) own (front_based c d body f x) number r

  pub second_waits : (a : SecondEnd) → Ran (λ ok. Unit {0}) hears (second c d) u e a z → IsTold c hears d e u z
  unfolding E.second
  second_waits a r = event_waits (λ y. second_of c y y.store.half) (λ (b : Base). b) refl (λ y. second_body c y) r

  pub background_waits : (a : Option Did) → Ran (λ ok. Unit {0}) hears (background c d) u e a z → IsTold c hears d e u z
  unfolding E.background
  background_waits a r = event_waits _ (λ (b : Base). b) refl (λ y. work_body c y) r

  pub loss_waits : (loss : Loss) (a : Unit {0}) → Ran (λ ok. Unit {0}) hears (lose c d loss) u e a z → IsTold c hears d e u z
  unfolding E.lose
  loss_waits loss a r = event_waits _ (with_one_loss loss) refl (λ y. lose_body c loss y) r

  pub peek_waits : (t : ℕ) (a : Option Peeked) → Ran (λ ok. Unit {0}) hears (peek c d t) u e a z → IsTold c hears d e u z
  unfolding J.peek
  peek_waits t a r = quiet_waits c d (kept d.store) (λ x. and_then (peek_track c x.store t) (λ s found. Done (with_store x s) found)) refl
      (peeked_body c t (event_begun d)) number r

  pub power_waits : (a : Unit {0}) → Ran (λ ok. Unit {0}) hears (power c d) u e a z → IsTold c hears d e u z
  unfolding U.power
  power_waits a r =
      quiet_waits c d (with_one_loss losses.Cache (kept d.store)) (λ x. and_then (half_cut c x.store x.store.half) (λ s _. Done (powered_off c x s) tt)) refl
      (power_body c d) number r

module _ {F P H R K : Type 0} (c : Contents F P H R) (hears : Hearing Image K) (d : Device F P H) where
  command_if : {e : Device F P H} {u z : Outside R K} {a : Option Stepped} (ok : Bool) → HasWaiting (waiting_in u) d.store.device (waiting_count c d.store) →
      Ran (λ ok. Unit {0}) hears (if ok then event c d (λ y. command_by c y y.history.running y.chain) else Done d None) u e a z → IsTold c hears d e u z
  command_if {e = e} {u = u} {z = z} true number r =
      event_waits c hears d e u z number (λ y. command_by c y y.history.running y.chain) (λ (b : Base). b) refl (λ y. command_body c y) r
  command_if {u = u} false number done = sym (own_waiting (waiting_in u) d.store.device (waiting_count c d.store) number)

  pub command_waits : {e : Device F P H} {u z : Outside R K} {a : Option Stepped} → HasWaiting (waiting_in u) d.store.device (waiting_count c d.store) →
      Ran (λ ok. Unit {0}) hears (command c d) u e a z → IsTold c hears d e u z
  unfolding N.command
  command_waits number (tried ok m r) = command_if ok number r

-- No bytes are bad

module _ {R S A T B : Type 0} {z : R} {q : S → A → T → B → Holdings R → Type 0} {p : T → B → Type 0} where
  pub clean_both : {i : Interaction R Image S A} {j : Interaction Bool Image T B} {h : Holdings R} → Both z true q i j h → Clean p j →
      Both z true (λ s a m b k. q s a m b k × p m b) i j h
  clean_both (both_done x) (clean_done y) = both_done (x, y)
  clean_both (both_try x y) (clean_try f) = both_try (clean_both x (f true)) (clean_both y (f false))
  clean_both (both_ask {call = call} e x) (clean_ask f) = both_ask e (λ a m. clean_both (x a m) (f (unnumbered call a)))
  clean_both (both_free o x) (clean_ask f) = both_free o (clean_both x (f tt))
  clean_both (both_read x y) (clean_read f g) = both_read (clean_both x f) (clean_both y g)
  clean_both (both_write x y) (clean_write f) = both_write (clean_both x (f true)) (λ r. clean_both (y r) (f false))
  clean_both (both_tell x) (clean_tell f) = both_tell (λ r. clean_both (x r) (f r))

-- behind the run of an event of a device whose volumes tell what they hold
pub clean_ran : {K X : Type 0} {hears : Hearing Image K} {p : List _ → Type 0} (q : WholeDevice → X → Type 0) (r : _ → X → Type 0) (others : List ℕ) (h : Held)
    {i : Interaction (List ℕ) Image WholeDevice X} {j : Interaction Bool Image _ X} {u z : Outside (List ℕ) K} {e : WholeDevice} {a : X} →
    WholeTwins (Leaves p) i j h → Clean r j → ((v w : _) → r (marks_device v w e) a → q e a) → Has others u h → Ran (λ ok. Unit {0}) hears i u e a z → q e a
clean_ran q r others h {i = i} {e = e} {a = a} both clean gives has ran =
    let o = ran_after others [] i _ h has ran (surely_both (clean_both both clean)).holds in
    gives o.is.is.0.plain o.is.is.0.firm
    (subst (λ (b : _). r (marks_device o.is.is.0.plain o.is.is.0.firm e) b) (sym o.is.is.0.is.same)
    (subst (λ (m : _). r m o.is.answer) (sym o.is.is.0.marks) o.is.is.1))
