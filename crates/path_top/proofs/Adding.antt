-- One line's order behind those before.
use Rattle.std.proofs.Common.{◌≡◌, ◌<◌, ◌+◌, ◌∙◌, ◌++◌, ℕ, Bool, true, false, List, [], ◌∷◌, length, get_or, map, take, cond, Option, Some, None, All, IfSome, option_map, option_to_list, refl, sym, ap, subst}
use Rattle.std.proofs.lemmas.Option.{same_Some}
use Rattle.std.specs.Prelude.{if◌then◌else◌}
use Rattle.std.proofs.lemmas.List.{map-append}
use Rattle.std.proofs.lemmas.List.Elements.{All-append, All-cons, All-nil, filter_more}
use Rattle.deck_plan.specs.declared.event.EventLine.{EventLine}
use Rattle.path_threads.specs.declared.orders.Order.{Order}
use Rattle.path_top.specs.Orders.{is_order, line_of, order_line, orders_in}

module _ {M : Type 0} where
  one_line : (o : Option (Order M)) (b : Bool) (e : EventLine) → option_map line_of o ≡ (if b then Some e else None) →
      map line_of (option_to_list o) ≡ cond b (e ∷ []) []
  one_line (Some x) true e is = ap (λ (y : EventLine). y ∷ []) (same_Some _ _ is)
  one_line (Some x) false e is = absurd (cc)
  one_line None true e is = absurd (cc)
  one_line None false e is = refl

  pub lines_on : (before now : List (Order M)) (o : Option (Order M)) (es : List EventLine) (i : ℕ) (e : EventLine) → i < length es →
      e ≡ get_or es i e → now ≡ before ++ option_to_list o → option_map line_of o ≡ order_line e → map line_of before ≡ orders_in (take i es) →
      map line_of now ≡ orders_in (take (i + 1) es)
  lines_on before now o es i e within is added line so =
      ap (map line_of) added ∙ map-append line_of before (option_to_list o) ∙ ap (λ (l : List EventLine). l ++ map line_of (option_to_list o)) so
      ∙ ap (λ (l : List EventLine). orders_in (take i es) ++ l) (one_line o (is_order e) e line)
      ∙ ap (λ (x : EventLine). orders_in (take i es) ++ cond (is_order x) (x ∷ []) []) is ∙ sym (filter_more is_order es i e within)

  pub spare_on : (P : Order M → Type 0) (before now : List (Order M)) (o : Option (Order M)) → now ≡ before ++ option_to_list o → All P before →
      IfSome o P → All P now
  spare_on P before now None added all one = subst (All P) (sym added) (All-append P before [] all (All-nil P))
  spare_on P before now (Some x) added all one = subst (All P) (sym added) (All-append P before (x ∷ []) all (All-cons P x [] one (All-nil P)))
