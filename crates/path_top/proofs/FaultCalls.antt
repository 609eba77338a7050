-- The calls that FAULT lines name are such as come once.
use Rattle.std.proofs.Common.{◌≡◌, ◌≤◌, ◌∷◌, ◌-◌, ◌^◌, [], ℕ, Bool, true, false, List, Ok, refl, ap, subst, arith}
use Rattle.std.proofs.lemmas.Bool.{and_from}
use Rattle.std.proofs.lemmas.Bool.Decides.{nat_tests}
use Rattle.std.specs.Prelude.{◌==◌, ◌&&◌, nat_lt, if◌then◌else◌}
use Rattle.deck_text.specs.declared.line.DeckWhy.TheVariants.{Words, Number}
use Rattle.deck_text.specs.declared.line.DeviceLine.{DeviceLine}
use Rattle.deck_text.specs.declared.line.FaultLine.{FaultLine}
use Rattle.deck_text.specs.DeckLines.{DeckLines}
use Rattle.deck_text.specs.Forms.{device_of, fault_line, is_write_word, needed, then_read}
use Rattle.deck_text.specs.Numbers.{number_in}
use Rattle.deck_text.specs.Parse.{parsed}
use Rattle.deck_text.specs.Words.{three_words}
use Rattle.deck_text.proofs.DeckAgain.{Each, FaultOk, fault_words}
use Rattle.deck_text.proofs.FormsAgain.{if_ok, needed_is, number_range, went}
use Rattle.deck_text.proofs.Reached.{parsed_good}
use Rattle.path_workers.specs.Planned.{come_once}
use Rattle.subsystem_defs.specs.Decks.{failing_of, is_same, plan_for}

few_calls : (devices : List DeviceLine) (words : List (List ℕ)) (f : FaultLine) → fault_line devices words ≡ Ok f → f.call ≤ 4294967295
few_calls devices words f h =
    let a = went (needed Words (three_words words))
    (λ w. then_read (needed Words (is_write_word w.1))
    (λ write. then_read (device_of devices w.0)
    (λ d. then_read (needed Number (number_in 1 4294967295 w.2)) (λ n. Ok (record { device = d; write = write; call = n }))))) f h in
    let b = went (needed Words (is_write_word a.value.1))
    (λ write. then_read (device_of devices a.value.0)
    (λ d. then_read (needed Number (number_in 1 4294967295 a.value.2)) (λ n. Ok (record { device = d; write = write; call = n })))) f a.second in
    let c = went (device_of devices a.value.0)
    (λ d. then_read (needed Number (number_in 1 4294967295 a.value.2)) (λ n. Ok (record { device = d; write = b.value; call = n }))) f b.second in
    let e = went (needed Number (number_in 1 4294967295 a.value.2)) (λ n. Ok (record { device = c.value; write = b.value; call = n })) f c.second in
    let same = if_ok true (record { device = c.value; write = b.value; call = e.value }) f Number e.second in
    let range = number_range 1 4294967295 a.value.2 e.value (needed_is Number (number_in 1 4294967295 a.value.2) e.value e.first) in
    subst (λ (n : ℕ). n ≤ 4294967295) (ap (λ (x : FaultLine). x.call) same) range.high

below_end : (n : ℕ) → n ≤ 4294967295 → nat_lt n (2 ^ 64 - 1) ≡ true
below_end n le = grind (arith, nat_tests)

all_once : (write : Bool) (d : ℕ) (devices : List DeviceLine) (fs : List FaultLine) → Each (FaultOk devices) fs → come_once (failing_of write d fs) ≡ true
all_once write d devices [] each = refl
all_once write d devices (f ∷ fs) each = by_test ((f.device == d) && is_same f.write write) (all_once write d devices fs each.1) where
  by_test : (b : Bool) → come_once (failing_of write d fs) ≡ true →
      come_once (if b then f.call ∷ failing_of write d fs else failing_of write d fs) ≡ true
  by_test true more = and_from (nat_lt f.call (2 ^ 64 - 1)) (come_once (failing_of write d fs)) (below_end f.call (few_calls devices (fault_words f) f each.0.again)) more
  by_test false more = more

pub calls_once : (text : List ℕ) (deck : DeckLines) → parsed text ≡ Ok deck → (n : ℕ) →
    (come_once (plan_for deck.faults n).reads && come_once (plan_for deck.faults n).writes) ≡ true
calls_once text deck read n =
    let faults = (parsed_good text deck read).faults in
    and_from (come_once (failing_of false n deck.faults)) (come_once (failing_of true n deck.faults)) (all_once false n deck.devices deck.faults faults)
    (all_once true n deck.devices deck.faults faults)
