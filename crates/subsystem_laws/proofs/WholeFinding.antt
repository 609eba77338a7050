-- Devices by their numbers, among those that stand and among those that are mounted for them; and another one in the place of each.
use Rattle.std.proofs.Common.{◌≡◌, ℕ, ◌==◌, Bool, true, false, List, [], ◌∷◌, ◌++◌, Option, Some, None, map, refl, sym, ap, subst, ◌∙◌, eqb-true}
use Rattle.std.specs.Prelude.{if◌then◌else◌, option_map}
use Rattle.device_outside.specs.Lists.{is_in}
use Rattle.device_outside.specs.Slots.{AreShared}
use Rattle.device_defs.specs.Marks.{MarksDevice}
use Rattle.device_laws.specs.Whole.{WholeDevice}
use Rattle.subsystem_defs.specs.Deeds.{device_in}
use Rattle.subsystem_defs.specs.Subsystem.{Mounted, number_of, mounted_in, put_in}
use Rattle.subsystem_laws.specs.WholeStood.{HasChain, Stood, number_at, devices_at, stood_in, put_at, IsMounted, is_mounted, AreMountedBy, one_more, HaveChains}
use Rattle.subsystem_laws.proofs.WholeSlots.{slots_of, first_shared, still_apart, rest_now}

-- in both of a number, or in none
pub data Found (used taken : List ℕ) (xs : List Stood) (ms : List Mounted) (n : ℕ) : Type 0 where
  none_found : stood_in xs n ≡ None → mounted_in ms n ≡ None → Found used taken xs ms n
  both_found : (x : Stood) (m : Mounted) (mine others : List ℕ) → stood_in xs n ≡ Some x → mounted_in ms n ≡ Some m → IsMounted mine x m →
      AreShared used mine others → number_at x ≡ n →
      ((now own : List ℕ) (y : Stood) (k : Mounted) → IsMounted own y k → AreShared now own others → AreMountedBy now taken (put_at xs n y) (put_in ms n k)) →
      Found used taken xs ms n

pub same_number : {mine : List ℕ} {x : Stood} {m : Mounted} → IsMounted mine x m → number_of m ≡ number_at x
same_number (is_mounted d v w h on_a on_b a b order slots told_a told_b) = refl

module _ (used taken : List ℕ) (x : Stood) (m : Mounted) (xs : List Stood) (ms : List Mounted) (n : ℕ) (mine : List ℕ)
    (is : IsMounted mine x m) (rest : AreMountedBy used (mine ++ taken) xs ms) where
  found_if : ((k : ℕ) → is_in k mine ≡ true → is_in k taken ≡ false) →
      (b c : Bool) → (number_at x == n) ≡ b → (number_of m == n) ≡ c → c ≡ b → Found used (mine ++ taken) xs ms n → Found used taken (x ∷ xs) (m ∷ ms) n
  found_if apart true true e f g more =
      both_found x m mine (slots_of rest ++ taken) (ap (λ (b : Bool). if b then Some x else stood_in xs n) e)
      (ap (λ (b : Bool). if b then Some m else mounted_in ms n) f) is (first_shared taken mine apart rest) (eqb-true (number_at x) n e)
      (λ now own y k new shared.
      subst (λ (b : Bool). AreMountedBy now taken (if b then y ∷ xs else x ∷ put_at xs n y) (put_in (m ∷ ms) n k)) (sym e)
      (subst (λ (b : Bool). AreMountedBy now taken (y ∷ xs) (if b then k ∷ ms else m ∷ put_in ms n k)) (sym f)
      (one_more own new (still_apart taken mine apart rest now own shared) (rest_now taken mine apart rest now own shared))))
  found_if apart true false e f g more = absurd (cc)
  found_if apart false true e f g more = absurd (cc)
  found_if apart false false e f g (none_found s t) =
      none_found (ap (λ (b : Bool). if b then Some x else stood_in xs n) e ∙ s) (ap (λ (b : Bool). if b then Some m else mounted_in ms n) f ∙ t)
  found_if apart false false e f g (both_found y k own others s t there shared number put) =
      both_found y k own others (ap (λ (b : Bool). if b then Some x else stood_in xs n) e ∙ s)
      (ap (λ (b : Bool). if b then Some m else mounted_in ms n) f ∙ t) there shared number
      (λ now new z j is' shared'.
      subst (λ (b : Bool). AreMountedBy now taken (if b then z ∷ xs else x ∷ put_at xs n z) (put_in (m ∷ ms) n j)) (sym e)
      (subst (λ (b : Bool). AreMountedBy now taken (x ∷ put_at xs n z) (if b then j ∷ ms else m ∷ put_in ms n j)) (sym f)
      (one_more mine is apart (put now new z j is' shared'))))

pub find : (used taken : List ℕ) (xs : List Stood) (ms : List Mounted) (n : ℕ) → AreMountedBy used taken xs ms → Found used taken xs ms n
find used taken [] [] n all = none_found refl refl
find used taken [] (m ∷ ms) n all = elim all [ ]
find used taken (x ∷ xs) [] n all = elim all [ ]
find used taken (x ∷ xs) (m ∷ ms) n (one_more mine is apart rest) =
    found_if used taken x m xs ms n mine is rest apart (number_at x == n) (number_of m == n) refl refl
    (ap (λ (k : ℕ). k == n) (same_number is)) (find used (mine ++ taken) xs ms n rest)

-- the chain of one that stands

some_is : {X : Type 0} (x y : X) → Some x ≡ Some y → x ≡ y
some_is x y e = cc

chain_if : (b : Bool) (x y : Stood) (o : Option Stood) → HasChain x.device → (o ≡ Some y → HasChain y.device) → (if b then Some x else o) ≡ Some y →
    HasChain y.device
chain_if true x y o f g e = subst (λ (z : Stood). HasChain z.device) (some_is x y e) f
chain_if false x y o f g e = g e

pub chain_at : (xs : List Stood) (n : ℕ) (y : Stood) → HaveChains xs → stood_in xs n ≡ Some y → HasChain y.device
chain_at [] n y chains e = absurd (cc)
chain_at (x ∷ xs) n y chains e = chain_if (number_at x == n) x y (stood_in xs n) chains.0 (chain_at xs n y chains.1) e

-- where another one stands in its place, the others stand as before

pub stood_other : (xs : List Stood) (n m : ℕ) (y : Stood) → number_at y ≡ n → (n == m) ≡ false → stood_in (put_at xs n y) m ≡ stood_in xs m
stood_other [] n m y is off = refl
stood_other (x ∷ xs) n m y is off = by_place (number_at x == n) refl (stood_other xs n m y is off)
  where
    by_place : (b : Bool) → (number_at x == n) ≡ b → stood_in (put_at xs n y) m ≡ stood_in xs m →
        stood_in (if b then y ∷ xs else x ∷ put_at xs n y) m ≡ (if number_at x == m then Some x else stood_in xs m)
    by_place true e later =
        let same : number_at x ≡ n = eqb-true (number_at x) n e in
        ap (λ (k : ℕ). if k == m then Some y else stood_in xs m) is
        ∙ ap (λ (b : Bool). if b then Some y else stood_in xs m) off
        ∙ ap (λ (b : Bool). if b then Some x else stood_in xs m) (sym off)
        ∙ ap (λ (k : ℕ). if k == m then Some x else stood_in xs m) (sym same)
    by_place false e later = ap (λ (o : Option Stood). if number_at x == m then Some x else o) later

-- The definitions find the same devices

map_if : {X Y : Type 0} (f : X → Y) (b : Bool) (x : X) (o : Option X) → option_map f (if b then Some x else o) ≡ (if b then Some (f x) else option_map f o)
map_if f true x o = refl
map_if f false x o = refl

pub device_stood : (xs : List Stood) (n : ℕ) → device_in (devices_at xs) n ≡ option_map (λ (x : Stood). x.device) (stood_in xs n)
device_stood [] n = refl
device_stood (x ∷ xs) n =
    ap (λ (o : Option WholeDevice). if number_at x == n then Some x.device else o) (device_stood xs n)
    ∙ sym (map_if (λ (y : Stood). y.device) (number_at x == n) x (stood_in xs n))

pub device_mounted : (ms : List Mounted) (n : ℕ) → device_in (map (λ (m : Mounted). m.device) ms) n ≡ option_map (λ (m : Mounted). m.device) (mounted_in ms n)
device_mounted [] n = refl
device_mounted (m ∷ ms) n =
    ap (λ (o : Option MarksDevice). if number_of m == n then Some m.device else o) (device_mounted ms n)
    ∙ sym (map_if (λ (y : Mounted). y.device) (number_of m == n) m (mounted_in ms n))
