-- The devices keep their numbers behind an event and a look, so exactly one has a number where one had it.
use Rattle.std.proofs.Common.{◌≡◌, ◌==◌, ℕ, Bool, true, false, List, [], ◌∷◌, Option, Some, None, not, is_some, refl, sym, ap, ◌∙◌}
use Rattle.std.specs.Prelude.{if◌then◌else◌}
use Rattle.std.proofs.lemmas.Bool.{eqb-true}
use Rattle.loss_model.specs.declared.Loss.TheVariants as losses
use Rattle.device_outside.specs.Interaction.{Done, and_then}
use Rattle.device_outside.specs.Pool.{Pool}
use Rattle.device_outside.specs.Told.{Calls, Told, hold}
use Rattle.device_defs.specs.Command.{command}
use Rattle.device_defs.specs.Contents.{by_plain}
use Rattle.device_defs.specs.Cutting.{reset, power}
use Rattle.device_defs.specs.Events.{second, lose, background}
use Rattle.device_defs.specs.Marks.{MarksDevice}
use Rattle.device_defs.specs.Orders.{join, lend}
use Rattle.device_defs.specs.Peek.{peek}
use Rattle.subsystem_defs.specs.declared.end.EventEnd.{EventEnd}
use Rattle.subsystem_defs.specs.declared.end.EventEnd.TheVariants as ends
use Rattle.subsystem_defs.specs.declared.event.Event.{Event}
use Rattle.subsystem_defs.specs.Deeds.{end_of, ends_done}
use Rattle.subsystem_defs.specs.Happening as H
use Rattle.subsystem_defs.specs.Happening.{
  MarksDeed,
  Talk,
  told_to,
  held_with,
  mounted_behind,
  behind_outcome,
  asks,
  becomes,
  sweep,
  joined,
  lends,
  happens_by,
  happens,
}
use Rattle.subsystem_defs.specs.Looks as L
use Rattle.subsystem_defs.specs.Looks.{looked_at, looked}
use Rattle.subsystem_defs.specs.Subsystem.{Mounted, Subsystem, number_of, mounted_in, put_in}
use Rattle.subsystem_laws.proofs.DeedWalk.{IsDeedwise, deed_is}
use Rattle.subsystem_laws.proofs.Walks.{mounted_number}
use Rattle.keeper_laws.specs.Firmness.{has_one}
use Rattle.keeper_laws.proofs.Sizes.{
  IsSized,
  answer_sized,
  command_sized,
  second_sized,
  background_sized,
  lose_sized,
  reset_sized,
  power_sized,
  peek_sized,
  lend_sized,
}

-- each has the number of the one in its place
pub data Alike : List Mounted → List Mounted → Type 0 where
  none_left : Alike [] []
  one_more : {x y : Mounted} {xs ys : List Mounted} → number_of y ≡ number_of x → Alike xs ys → Alike (x ∷ xs) (y ∷ ys)

pub alike_same : (ms : List Mounted) → Alike ms ms
alike_same [] = none_left
alike_same (x ∷ xs) = one_more refl (alike_same xs)

pub alike_then : {xs ys zs : List Mounted} → Alike xs ys → Alike ys zs → Alike xs zs
alike_then none_left none_left = none_left
alike_then (one_more e a) (one_more f b) = one_more (f ∙ e) (alike_then a b)

module _ (n : ℕ) where
  if_there : (b : Bool) (x y : Mounted) (o r : Option Mounted) → is_some r ≡ is_some o → is_some (if b then Some y else r) ≡ is_some (if b then Some x else o)
  if_there true x y o r e = refl
  if_there false x y o r e = e

  there_so : {xs ys : List Mounted} → Alike xs ys → is_some (mounted_in ys n) ≡ is_some (mounted_in xs n)
  there_so none_left = refl
  there_so (one_more {x = x} {y = y} {xs = xs} {ys = ys} e a) =
      ap (λ (k : ℕ). is_some (if k == n then Some y else mounted_in ys n)) e
      ∙ if_there (number_of x == n) x y (mounted_in xs n) (mounted_in ys n) (there_so a)

  if_one : (b c d f g : Bool) → d ≡ c → g ≡ f → (if b then not d else g) ≡ (if b then not c else f)
  if_one true c d f g e h = ap not e
  if_one false c d f g e h = h

  pub one_so : {xs ys : List Mounted} → Alike xs ys → has_one n ys ≡ has_one n xs
  one_so none_left = refl
  one_so (one_more {x = x} {y = y} {xs = xs} {ys = ys} e a) =
      ap (λ (k : ℕ). if k == n then not (is_some (mounted_in ys n)) else has_one n ys) e
      ∙ if_one (number_of x == n) (is_some (mounted_in xs n)) (is_some (mounted_in ys n)) (has_one n xs) (has_one n ys) (there_so a) (one_so a)

pub put_alike : (ms : List Mounted) (k : ℕ) (y : Mounted) → number_of y ≡ k → Alike ms (put_in ms k y)
put_alike [] k y is = none_left
put_alike (x ∷ ms) k y is = by_test (number_of x == k) refl (put_alike ms k y is) where
  by_test : (b : Bool) → (number_of x == k) ≡ b → Alike ms (put_in ms k y) → Alike (x ∷ ms) (if b then y ∷ ms else x ∷ put_in ms k y)
  by_test true e rest = one_more (is ∙ sym (eqb-true (number_of x) k e)) (alike_same ms)
  by_test false e rest = one_more refl rest

swept_alike : (f : MarksDevice → Talk (Unit {0})) → ((d : MarksDevice) (t : Told) → IsSized d (hold true (f d) t).state) → (ms : List Mounted) (pool : Pool) →
    Alike ms (sweep f ms pool).mounted
unfolding H.sweep
swept_alike f sized [] pool = none_left
swept_alike f sized (x ∷ ms) pool =
    one_more (sized x.device (told_to pool x)).device (swept_alike f sized ms (held_with pool x (f x.device)).told.pool)

module _ (s : Subsystem) where
  asked_alike : (k : ℕ) (talk : Talk (Option EventEnd)) (o : Option Mounted) → mounted_in s.mounted k ≡ o →
      ((y : Mounted) → mounted_in s.mounted k ≡ Some y → (held_with s.pool y talk).state.store.device ≡ k) → Alike s.mounted (asks s k o talk).behind.mounted
  asked_alike k talk None is h = alike_same s.mounted
  asked_alike k talk (Some y) is h = put_alike s.mounted k (mounted_behind (held_with s.pool y talk)) (h y is)

  becomes_alike : (d : MarksDevice) (o : Option Mounted) → Alike s.mounted (becomes s d.store.device o d).mounted
  becomes_alike d None = alike_same s.mounted
  becomes_alike d (Some y) = put_alike s.mounted d.store.device (record y { device = d }) refl

  joined_alike : (z : Subsystem) (k : ℕ) (volume : Calls) (o : Option Mounted) → mounted_in z.mounted k ≡ o → Alike z.mounted (joined z k volume o).mounted
  joined_alike z k volume None is = alike_same z.mounted
  joined_alike z k volume (Some y) is = put_alike z.mounted k (record y { device = join y.device; b = volume }) (mounted_number z.mounted k y is)

  lends_alike : (a b : ℕ) (o : Option Mounted) → mounted_in s.mounted b ≡ o → Alike s.mounted (lends s a b o).mounted
  lends_alike a b None is = alike_same s.mounted
  lends_alike a b (Some y) is =
      let o = held_with s.pool y (lend by_plain y.device a) in
      let z = behind_outcome s b o in
      alike_then
      (put_alike s.mounted b (mounted_behind o) ((lend_sized y.device a (told_to s.pool y)).device ∙ mounted_number s.mounted b y is))
      (joined_alike z a o.told.a (mounted_in z.mounted a) refl)

  abbrev Claim : MarksDeed → Type 0
  Claim x = Alike s.mounted (happens_by s x).behind.mounted

  asks_claim : {X : Type 0} (d : MarksDevice) (talk : Talk X) (f : X → Option EventEnd) → ((u : Told) → IsSized d (hold true talk u).state) →
      Alike s.mounted (asks s d.store.device (mounted_in s.mounted d.store.device) (and_then talk (λ e a. Done e (f a)))).behind.mounted
  asks_claim d talk f h =
      asked_alike d.store.device (and_then talk (λ e a. Done e (f a))) (mounted_in s.mounted d.store.device) refl
      (λ y is. (answer_sized d talk f h (told_to s.pool y)).device)

  claims : IsDeedwise s Claim
  claims = record {
    ended = λ end. alike_same s.mounted;
    started = λ d x path fault. becomes_alike _ _;
    seconded = λ d x h is. asks_claim d (second by_plain d) (λ a. Some (ends.Second a)) (second_sized d);
    commanded = λ d x whole o running. asks_claim d (command by_plain d) (end_of ends.Stepped) (command_sized d);
    worked = λ d x whole. asks_claim d (background by_plain d) (end_of ends.Back) (background_sized d);
    cut = λ d x path. asks_claim d (reset by_plain d path) (λ a. Some (ends_done a)) (reset_sized d path);
    lost_cache = swept_alike (λ d. lose by_plain d losses.Cache) (λ d u. lose_sized d losses.Cache u) s.mounted _;
    lost_store = swept_alike (λ d. lose by_plain d losses.Store) (λ d u. lose_sized d losses.Store u) s.mounted _;
    lost_side = λ d x side fault. asks_claim d (lose by_plain d (losses.Side side)) (λ a. Some (ends_done a)) (lose_sized d (losses.Side side));
    lost_power = swept_alike (power by_plain) (λ d u. power_sized d u) s.mounted _;
    repaired_cache = alike_same s.mounted;
    repaired_store = alike_same s.mounted;
    lent = λ x y a b fault. lends_alike x.store.device y.store.device (mounted_in s.mounted y.store.device) refl;
    held = λ d x fault. becomes_alike _ _;
    resumed = λ d x fault. becomes_alike _ _;
  }

  pub one_event : (n : ℕ) (e : Event) → has_one n s.mounted ≡ true → has_one n (happens s e).behind.mounted ≡ true
  unfolding H.happens
  one_event n e one = one_so n (deed_is s Claim claims e) ∙ one

  look_alike : (k q : ℕ) (o : Option Mounted) → mounted_in s.mounted k ≡ o → Alike s.mounted (looked_at s k q o).behind.mounted
  look_alike k q None is = alike_same s.mounted
  look_alike k q (Some y) is =
      put_alike s.mounted k (mounted_behind (held_with s.pool y (peek by_plain y.device q)))
      ((peek_sized y.device q (told_to s.pool y)).device ∙ mounted_number s.mounted k y is)

  pub one_look : (n k q : ℕ) → has_one n s.mounted ≡ true → has_one n (looked s k q).behind.mounted ≡ true
  unfolding L.looked
  one_look n k q one = one_so n (look_alike k q (mounted_in s.mounted k) refl) ∙ one
