-- Each line says what is wanted of it where it is the very line.
use Rattle.std.proofs.Common.{arith, ◌≡◌, ◌==◌, ℕ, true, List, refl, rules}
use Rattle.std.specs.Str.{bytes_eq}
use Rattle.std.proofs.lemmas.Bool.{eq-eqb, and_from}
use Rattle.report_text.specs.declared.answers.LooseAnswer.{LooseAnswer}
use Rattle.report_text.specs.declared.answers.StartAnswer.{StartAnswer}
use Rattle.report_text.specs.declared.order.Order.{Order}
use Rattle.deck_audit.specs.Same.{is_same_start, is_same_loose, is_same_order}

pub same_number : (n : ℕ) → (n == n) ≡ true
same_number n = eq-eqb n n refl

pub same_bytes : (bytes : List ℕ) → bytes_eq bytes bytes ≡ true
same_bytes bytes = search rules

pub same_start : (a : StartAnswer) → is_same_start a a ≡ true
same_start a = grind (arith, same_number, same_bytes)

pub same_loose : (a : LooseAnswer) → is_same_loose a a ≡ true
same_loose a = grind (arith, same_number, and_from, same_bytes)

pub same_order : (o : Order) → is_same_order o o ≡ true
same_order o = grind (arith, and_from)
