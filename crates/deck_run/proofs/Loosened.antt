-- Items that came, one on.
use Rattle.std.proofs.Common.{◌≡◌, ◌<◌, ◌≤◌, ◌+◌, ◌∙◌, ℕ, false, List, length, drop, get_or, cond, true, ap, sym}
use Rattle.std.proofs.lemmas.List.{at_drop_more, at_drop_all}
use Rattle.plain_defs.specs.declared.journal.Item.{Item}
use Rattle.subsystem_defs.specs.Beside.{has_power, is_power}

module _ (xs : List Item) (i : ℕ) (x : Item) (inside : i < length xs) (is : x ≡ get_or xs i x) where
  pub power_more : has_power (drop i xs) ≡ cond (is_power x) true (has_power (drop (i + 1) xs))
  power_more =
      at_drop_more has_power xs i x inside ∙ ap (λ (y : Item). cond (is_power y) true (has_power (drop (i + 1) xs))) (sym is)

pub power_none : (xs : List Item) (i : ℕ) → length xs ≤ i → has_power (drop i xs) ≡ false
power_none xs i past = at_drop_all has_power xs i past
