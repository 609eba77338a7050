-- So many losses as orders allow, as lines say them.
use Rattle.std.proofs.Common.{◌≡◌, ◌≤◌, ◌+◌, ◌==◌, ℕ, Bool, true, false, List, [], ◌∷◌, map, cond, Some, None, subst, arith}
use Rattle.std.specs.Prelude.{count_by, if◌then◌else◌}
use Rattle.std.specs.List.{filter}
use Rattle.std.proofs.lemmas.List.Sums.{sum_by-cons}
use Rattle.ckd_types.specs.declared.paths.Side.{Side}
use Rattle.deck_plan.specs.declared.event.EventLine.{EventLine}
use Rattle.device_defs.specs.declared.counts.Losses.{Losses}
use Rattle.loss_model.specs.declared.Loss.TheVariants as losses
use Rattle.path_threads.specs.declared.orders.Order.{Order}
use Rattle.path_threads.specs.declared.orders.Order.TheVariants.{Event, Replace}
use Rattle.path_threads.specs.Allowed.{allowed, loss_of, with_loss}
use Rattle.subsystem_defs.specs.declared.event.Event.TheVariants as events
use Rattle.subsystem_laws.proofs.CallCounts.{one_few}
use Rattle.path_top.specs.Excuses.{is_cache_loss, is_side_loss, is_store_loss}
use Rattle.path_top.specs.Orders.{is_order, line_of, orders_in}

pub counted_cons : {X : Type 0} (p : X → Bool) (x : X) (xs : List X) → count_by p (x ∷ xs) ≡ cond (p x) 1 0 + count_by p xs
counted_cons p x xs = sum_by-cons (λ y. cond (p y) 1 0) x xs

-- so many more of each kind at most
pub record IsMore (l more : Losses) (a b c : ℕ) : Type 0 where
  pub cache : more.cache ≤ l.cache + a
  pub store : more.store ≤ l.store + b
  pub sides : more.sides ≤ l.sides + c

none_more : (n : ℕ) → n ≤ n + 0
none_more n = omega arith

no_loss : (l : Losses) → IsMore l l 0 0 0
no_loss l = record { cache = none_more l.cache; store = none_more l.store; sides = none_more l.sides }

abbrev pub one_if : Bool → ℕ
one_if b = cond b 1 0

side_loss : (b : Bool) (side : Side) (l : Losses) → IsMore l (with_loss l (if b then Some (losses.Side side) else None)) 0 0 (one_if b)
side_loss true side l = record { cache = none_more l.cache; store = none_more l.store; sides = one_few l.sides }
side_loss false side l = no_loss l

added : (x y z a b c : ℕ) → y ≤ x + a → z ≤ y + b → c ≡ a + b → z ≤ x + c
added x y z a b c one more is = omega (arith, one, more, is)

abbrev IsMoreBy : ℕ → Losses → Losses → List EventLine → Type 0
IsMoreBy n l more es = IsMore l more (count_by is_cache_loss es) (count_by is_store_loss es) (count_by (is_side_loss n) es)

abbrev IsMoreFor : ℕ → Losses → Losses → EventLine → Type 0
IsMoreFor n l more e = IsMore l more (one_if (is_cache_loss e)) (one_if (is_store_loss e)) (one_if (is_side_loss n e))

module _ {M : Type 0} where
  one_order : (n : ℕ) (l : Losses) (o : Order M) → IsMoreFor n l (with_loss l (loss_of n o)) (line_of o)
  one_order n l (Event (events.Start path d)) = no_loss l
  one_order n l (Event (events.Step d)) = no_loss l
  one_order n l (Event (events.Back d)) = no_loss l
  one_order n l (Event (events.Reset path d)) = no_loss l
  one_order n l (Event events.FailCache) = record { cache = one_few l.cache; store = none_more l.store; sides = none_more l.sides }
  one_order n l (Event events.FailStore) = record { cache = none_more l.cache; store = one_few l.store; sides = none_more l.sides }
  one_order n l (Event (events.FailVolume d side)) = side_loss (d == n) side l
  one_order n l (Event events.RepairCache) = no_loss l
  one_order n l (Event events.RepairStore) = no_loss l
  one_order n l (Event (events.Pair a b)) = no_loss l
  one_order n l (Event (events.Suspend a)) = no_loss l
  one_order n l (Event (events.Resume a)) = no_loss l
  one_order n l (Event events.Power) = no_loss l
  one_order n l (Replace d side maker) = no_loss l

  all_orders : (n : ℕ) (l : Losses) (os : List (Order M)) → IsMoreBy n l (allowed l n os) (map line_of os)
  all_orders n l [] = no_loss l
  all_orders n l (o ∷ os) =
      let one = one_order n l o in
      let y = with_loss l (loss_of n o) in
      let z = allowed y n os in
      let more = all_orders n y os in
      let e = line_of o in
      let es = map line_of os in
      record {
        cache = added l.cache y.cache z.cache _ _ _ one.cache more.cache (counted_cons is_cache_loss e es);
        store = added l.store y.store z.store _ _ _ one.store more.store (counted_cons is_store_loss e es);
        sides = added l.sides y.sides z.sides _ _ _ one.sides more.sides (counted_cons (is_side_loss n) e es);
      }

-- Among all lines there are as many, and more

fewer : (p q : EventLine → Bool) (es : List EventLine) → count_by p (filter q es) ≤ count_by p es
fewer p q [] = omega arith
fewer p q (e ∷ es) = by_test (q e) (fewer p q es) where
  by_test : (b : Bool) → count_by p (filter q es) ≤ count_by p es → count_by p (cond b (e ∷ filter q es) (filter q es)) ≤ count_by p (e ∷ es)
  by_test true more =
      let all = counted_cons p e es in
      let some = counted_cons p e (filter q es) in
      omega (arith, all, some, more)
  by_test false more = let all = counted_cons p e es in omega (arith, all, more)

wider : (n : ℕ) (l more : Losses) (es fs : List EventLine) → ((p : EventLine → Bool) → count_by p es ≤ count_by p fs) → IsMoreBy n l more es → IsMoreBy n l more fs
wider n l more es fs h x = record {
  cache = further l.cache more.cache _ _ x.cache (h is_cache_loss);
  store = further l.store more.store _ _ x.store (h is_store_loss);
  sides = further l.sides more.sides _ _ x.sides (h (is_side_loss n));
}
  where
    further : (x y a b : ℕ) → y ≤ x + a → a ≤ b → y ≤ x + b
    further x y a b le more = omega (arith, le, more)

pub orders_allow : {M : Type 0} (n : ℕ) (l : Losses) (os : List (Order M)) (es : List EventLine) → map line_of os ≡ orders_in es →
    IsMore l (allowed l n os) (count_by is_cache_loss es) (count_by is_store_loss es) (count_by (is_side_loss n) es)
orders_allow n l os es is =
    wider n l (allowed l n os) (orders_in es) es (λ p. fewer p is_order es) (subst (IsMoreBy n l (allowed l n os)) is (all_orders n l os))
