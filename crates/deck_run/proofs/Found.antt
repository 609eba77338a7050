-- The devices of a subsystem by their numbers, as they stand.
use Rattle.std.proofs.Common.{
  ◌≡◌,
  ◌∙◌,
  ◌<◌,
  ◌+◌,
  ◌++◌,
  length,
  take,
  get_or,
  ℕ,
  Bool,
  true,
  false,
  List,
  [],
  ◌∷◌,
  Option,
  Some,
  None,
  refl,
  sym,
  ap,
  subst,
}
use Rattle.std.specs.Prelude.{◌==◌, if◌then◌else◌, option_map, IfSome}
use Rattle.std.proofs.lemmas.List.{take_more}
use Rattle.ckd_chain.specs.Facts.{IsChain}
use Rattle.ckd_chain.specs.State.{ChainState}
use Rattle.device_outside.specs.declared.volume.Volume.{Ghosts}
use Rattle.device_core.specs.declared.device.Device.{Device}
use Rattle.device_core.specs.declared.history.Running.{Running}
use Rattle.device_core.specs.Kept.{chain_of}
use Rattle.device_core.specs.State.{device_of}
use Rattle.device_core.specs.Words.{IsAtWord}
use Rattle.device_laws.specs.Standing.{RunsOn}
use Rattle.subsystem_core.specs.Devices.{numbers_of, devices_of, device_at, put_at}
use Rattle.subsystem_laws.specs.WholeStood as laws
use Rattle.subsystem_laws.specs.WholeStood.{Stood, devices_at, stood_in, HaveChains}
use Rattle.ckd_types.specs.declared.geometry.Geometry.{Geometry}
use Rattle.plain_defs.specs.Whole.{GivesAll}
use Rattle.deck_run.specs.Owning.{IsOwn, AllOwn, ChainsStand}
use Rattle.deck_run.specs.Standing.{stood_of, all_stood}

some_same : {X : Type 0} {x y : X} → Some x ≡ Some y → x ≡ y
some_same e = cc

head_same : (m n : ℕ) (ms ns : List ℕ) → m ∷ ms ≡ n ∷ ns → m ≡ n
head_same m n ms ns e = cc

rest_same : (m n : ℕ) (ms ns : List ℕ) → m ∷ ms ≡ n ∷ ns → ms ≡ ns
rest_same m n ms ns e = cc

runs_on : (n : ℕ) (g : Geometry) (r : Option Running) → IfSome r (λ r. IsAtWord n r.chain) → IfSome (option_map chain_of r) IsChain →
    IfSome (option_map chain_of r) (λ (c : ChainState). (c.fixed.geometry ≡ g) × GivesAll c.ccws) →
    (chain : ChainState) → option_map chain_of r ≡ Some chain → RunsOn n g chain
runs_on n g None word stands own chain is = absurd (cc)
runs_on n g (Some r) word stands own chain is =
    subst (λ (c : ChainState). RunsOn n g c) (some_same is)
    (record { is = record { is = stands; cylinders = word.cylinders_are }; geometry = own.0; gives = own.1 })

module _ {V : Type 0} {G : Ghosts V} where
  pub devices_stood : (xs : List (Device V G)) → devices_at (all_stood xs) ≡ devices_of xs
  devices_stood [] = refl
  devices_stood (x ∷ xs) = ap (λ l. device_of x ∷ l) (devices_stood xs)

  stood_by : (x : Device V G) (o : Option (Device V G)) (p : Option Stood) (b : Bool) → p ≡ option_map stood_of o →
      (if b then Some (stood_of x) else p) ≡ option_map stood_of (if b then Some x else o)
  stood_by x o p true e = refl
  stood_by x o p false e = e

  stood_at : (xs : List (Device V G)) (n : ℕ) → stood_in (all_stood xs) n ≡ option_map stood_of (device_at xs n)
  stood_at [] n = refl
  stood_at (x ∷ xs) n = stood_by x (device_at xs n) (stood_in (all_stood xs) n) (x.store.number == n) (stood_at xs n)

  pub stood_found : (xs : List (Device V G)) (n : ℕ) (x : Device V G) → device_at xs n ≡ Some x → stood_in (all_stood xs) n ≡ Some (stood_of x)
  stood_found xs n x is = stood_at xs n ∙ ap (option_map stood_of) is

  put_by : (b : Bool) (xs ys : List (Device V G)) → all_stood (if b then xs else ys) ≡ (if b then all_stood xs else all_stood ys)
  put_by true xs ys = refl
  put_by false xs ys = refl

  pub put_stood : (xs : List (Device V G)) (n : ℕ) (y : Device V G) → all_stood (put_at xs n y) ≡ laws.put_at (all_stood xs) n (stood_of y)
  put_stood [] n y = refl
  put_stood (x ∷ xs) n y =
      put_by (x.store.number == n) (y ∷ xs) (x ∷ put_at xs n y)
      ∙ ap (λ (l : List Stood). if x.store.number == n then stood_of y ∷ all_stood xs else stood_of x ∷ l) (put_stood xs n y)

  same_by : (d : Device V G) (ds : List (Device V G)) (n : ℕ) (x : Device V G) (b : Bool) → (device_at ds n ≡ Some x → put_at ds n x ≡ ds) →
      (if b then Some d else device_at ds n) ≡ Some x → (if b then x ∷ ds else d ∷ put_at ds n x) ≡ d ∷ ds
  same_by d ds n x true rest is = ap (λ (y : Device V G). y ∷ ds) (sym (some_same is))
  same_by d ds n x false rest is = ap (λ (l : List (Device V G)). d ∷ l) (rest is)

  -- in its own place
  pub put_same : (xs : List (Device V G)) (n : ℕ) (x : Device V G) → device_at xs n ≡ Some x → put_at xs n x ≡ xs
  put_same [] n x is = refl
  put_same (d ∷ ds) n x is = same_by d ds n x (d.store.number == n) (put_same ds n x) is

  -- the device that was put there is found there
  again_by : (d : Device V G) (ds : List (Device V G)) (n : ℕ) (x y : Device V G) (b : Bool) → (d.store.number == n) ≡ b →
      (device_at ds n ≡ Some x → numbers_of (put_at ds n y) ≡ numbers_of ds → device_at (put_at ds n y) n ≡ Some y) →
      device_at (d ∷ ds) n ≡ Some x → numbers_of (put_at (d ∷ ds) n y) ≡ numbers_of (d ∷ ds) → device_at (put_at (d ∷ ds) n y) n ≡ Some y
  again_by d ds n x y true e rest is same =
      let here : numbers_of (y ∷ ds) ≡ numbers_of (d ∷ ds) =
      ap (λ (b : Bool). numbers_of (if b then y ∷ ds else d ∷ put_at ds n y)) (sym e) ∙ same in
      let number : (y.store.number == n) ≡ true = ap (λ (m : ℕ). m == n) (head_same _ _ _ _ here) ∙ e in
      ap (λ (b : Bool). device_at (if b then y ∷ ds else d ∷ put_at ds n y) n) e ∙ ap (λ (b : Bool). if b then Some y else device_at ds n) number
  again_by d ds n x y false e rest is same =
      let here : numbers_of (d ∷ put_at ds n y) ≡ numbers_of (d ∷ ds) =
      ap (λ (b : Bool). numbers_of (if b then y ∷ ds else d ∷ put_at ds n y)) (sym e) ∙ same in
      let there : device_at ds n ≡ Some x = ap (λ (b : Bool). if b then Some d else device_at ds n) (sym e) ∙ is in
      ap (λ (b : Bool). device_at (if b then y ∷ ds else d ∷ put_at ds n y) n) e
      ∙ ap (λ (b : Bool). if b then Some d else device_at (put_at ds n y) n) e ∙ rest there (rest_same _ _ _ _ here)

  pub again : (xs : List (Device V G)) (n : ℕ) (x y : Device V G) → device_at xs n ≡ Some x → numbers_of (put_at xs n y) ≡ numbers_of xs →
      device_at (put_at xs n y) n ≡ Some y
  again [] n x y is same = absurd (cc)
  again (d ∷ ds) n x y is same = again_by d ds n x y (d.store.number == n) refl (again ds n x y) is same

  -- Devices whose chains are their own

  own_by : (b : Bool) (xs ys : List (Device V G)) → AllOwn xs → AllOwn ys → AllOwn (if b then xs else ys)
  own_by true xs ys k l = k
  own_by false xs ys k l = l

  pub own_put : (xs : List (Device V G)) (n : ℕ) (y : Device V G) → AllOwn xs → IsOwn (device_of y) → AllOwn (put_at xs n y)
  own_put [] n y all own = all
  own_put (x ∷ xs) n y all own = own_by (x.store.number == n) (y ∷ xs) (x ∷ put_at xs n y) (own, all.1) (all.0, own_put xs n y all.1 own)

  found_own : (d x : Device V G) (o : Option (Device V G)) (b : Bool) → IsOwn (device_of d) → (o ≡ Some x → IsOwn (device_of x)) →
      (if b then Some d else o) ≡ Some x → IsOwn (device_of x)
  found_own d x o true own rest is = subst (λ (y : Device V G). IsOwn (device_of y)) (some_same is) own
  found_own d x o false own rest is = rest is

  pub own_at : (xs : List (Device V G)) (n : ℕ) (x : Device V G) → AllOwn xs → device_at xs n ≡ Some x → IsOwn (device_of x)
  own_at [] n x all is = absurd (cc)
  own_at (d ∷ ds) n x all is = found_own d x (device_at ds n) (d.store.number == n) all.0 (own_at ds n x all.1) is

  pub chains_are : (xs : List (Device V G)) → AllOwn xs → ChainsStand xs → HaveChains (all_stood xs)
  chains_are [] own stand = tt
  chains_are (x ∷ xs) own stand =
      (runs_on x.store.cylinders x.store.geometry x.past.running x.at_word stand.0 own.0.chain, chains_are xs own.1 stand.1)

  stand_append : (xs : List (Device V G)) (x : Device V G) → ChainsStand xs → IfSome (device_of x).chain IsChain → ChainsStand (xs ++ x ∷ [])
  stand_append [] x all is = (is, tt)
  stand_append (y ∷ xs) x all is = (all.0, stand_append xs x all.1 is)

  pub stand_more : (xs : List (Device V G)) (i : ℕ) (x : Device V G) → i < length xs → x ≡ get_or xs i x → ChainsStand (take i xs) →
      IfSome (device_of x).chain IsChain → ChainsStand (take (i + 1) xs)
  stand_more xs i x within is all stands =
      subst ChainsStand (sym (take_more xs i x within ∙ ap (λ (y : Device V G). take i xs ++ y ∷ []) (sym is))) (stand_append (take i xs) x all stands)

  own_append : (xs : List (Device V G)) (x : Device V G) → AllOwn xs → IsOwn (device_of x) → AllOwn (xs ++ x ∷ [])
  own_append [] x all is = (is, tt)
  own_append (y ∷ xs) x all is = (all.0, own_append xs x all.1 is)

  pub own_more : (xs ys : List (Device V G)) (x : Device V G) → ys ≡ xs ++ x ∷ [] → AllOwn xs → IsOwn (device_of x) → AllOwn ys
  own_more xs ys x are all is = subst AllOwn (sym are) (own_append xs x all is)
