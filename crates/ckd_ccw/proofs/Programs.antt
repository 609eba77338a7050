-- What holds of the words of a program.
use Rattle.std.proofs.Common.{◌≡◌, ◌<◌, ℕ, ◌+◌, Bool, true, false, not, ◌&&◌, List, [], ◌∷◌, length, Option, Some, None, refl, ◌∙◌, sym, arith, zero, suc}
use Rattle.std.specs.Prelude.{if◌then◌else◌, nat_lt, nat_le, ◌==◌, slice_index_or}
use Rattle.std.specs.Int.RustNames.{bit_and}
use Rattle.std.proofs.lemmas.Option.{none-some}
use Rattle.std.proofs.lemmas.Bool.{true≢false, and_from, or_parts, not_from_false, leb-false, ltb-false, cond-false, both_ways}
use Rattle.ckd_types.specs.declared.channel.Ccw.{Ccw}
use Rattle.ckd_types.specs.declared.channel.Why.{Why}
use Rattle.ckd_types.specs.Ccw.{is_chained, is_transfer, no_ccw, ccw_at}
use Rattle.ckd_types.specs.Commands.{is_search}
use Rattle.ckd_ccw.specs.Words.{IsWord}
use Rattle.ckd_types.specs.Program.{fault_of, fault_from, or_later, IsProgram, is_bad_command, is_input, has_too_much, runs_past_end}

-- a test that answered nothing failed, and the rest answered nothing
failed : {A : Type 0} (b : Bool) (x : A) (rest : Option A) → (if b then Some x else rest) ≡ None → (b ≡ false) × (rest ≡ None)
failed true x rest h = absurd (none-some x (sym h))
failed false x rest h = (refl, h)

-- a conjunction failed by its second part, where its first part held
second_failed : (a b : Bool) → a ≡ true → (a && b) ≡ false → b ≡ false
second_failed true b held h = h
second_failed false b held h = absurd (both_ways false refl held)

positive : (n : ℕ) → (n == 0) ≡ false → 0 < n
positive zero h = absurd (true≢false h)
positive (suc n) h = omega arith

-- a word without a fault is one that the channel can use
pub word_of : (ccws : List Ccw) (i : ℕ) (c : Ccw) → fault_of ccws i c ≡ None → IsWord ccws i c
word_of ccws i c h =
    let command = failed (is_bad_command c.command) _ _ h in
    let flags = failed (not (bit_and c.flags 0x8f == 0)) _ _ command.1 in
    let first = failed (is_transfer c && (i == 0)) _ _ flags.1 in
    let target = failed (is_transfer c && nat_le (length ccws) c.count) _ _ first.1 in
    let transfer = failed (is_transfer c && is_transfer (ccw_at ccws c.count)) _ _ target.1 in
    let count = failed (not (is_transfer c) && (c.count == 0)) _ _ transfer.1 in
    let given = failed (has_too_much c) _ _ count.1 in
    let input = failed (nat_lt 0 (length c.given) && is_input c.command) _ _ given.1 in
    let end' = failed (runs_past_end ccws i c) _ _ input.1 in
    let behind =
    λ (t : is_transfer c ≡ false) (n : is_chained c ≡ true). or_parts (nat_le (length ccws) (i + 1)) (is_search c.command && nat_le (length ccws) (i + 2))
    (second_failed (is_chained c && not (is_transfer c)) _ (and_from _ _ n (not_from_false _ t)) end'.0) in
    record {
      first = λ t. positive i (second_failed (is_transfer c) (i == 0) t first.0);
      target = λ t. leb-false _ _ (second_failed (is_transfer c) (nat_le (length ccws) c.count) t target.0);
      command = λ t. second_failed (is_transfer c) (is_transfer (ccw_at ccws c.count)) t transfer.0;
      count = λ t. positive c.count (second_failed (not (is_transfer c)) (c.count == 0) (not_from_false _ t) count.0);
      given = λ t. ltb-false _ _ (sym (cond-false (is_transfer c) (nat_lt 0 (length c.given)) (nat_lt c.count (length c.given)) t) ∙ given.0);
      next = λ t n. leb-false _ _ (behind t n).0;
      skip = λ t n s. leb-false _ _ (second_failed (is_search c.command) (nat_le (length ccws) (i + 2)) s (behind t n).1);
    }

-- where neither a word nor those behind it have a fault
both_none : (i : ℕ) (here : Option Why) (later : Option (ℕ × Why)) → or_later i here later ≡ None → (here ≡ None) × (later ≡ None)
both_none i (Some why) later h = absurd (none-some (i, why) (sym h))
both_none i None later h = (refl, h)

-- the word at k of those from i on has no fault where none of them has
fault_at : (ccws : List Ccw) (i : ℕ) (cs : List Ccw) (k j : ℕ) → j ≡ i + k → fault_from ccws i cs ≡ None → k < length cs
    → fault_of ccws j (slice_index_or cs k no_ccw) ≡ None
fault_at ccws i [] k j e h lt = absurd (omega (arith, lt))
fault_at ccws i (c ∷ cs) zero j e h lt =
    let same : j ≡ i = omega arith in
    rw same (both_none i (fault_of ccws i c) (fault_from ccws (i + 1) cs) h).0
fault_at ccws i (c ∷ cs) (suc k) j e h lt =
    fault_at ccws (i + 1) cs k j (omega arith) (both_none i (fault_of ccws i c) (fault_from ccws (i + 1) cs) h).1 (omega (arith, lt))

-- no word of a program has a fault
pub faultless : (ccws : List Ccw) → IsProgram ccws → (i : ℕ) → i < length ccws → fault_of ccws i (ccw_at ccws i) ≡ None
faultless ccws h i lt =
    fault_at ccws 0 ccws i i (omega arith) (failed (nat_lt 256 (length ccws)) _ _ (failed (length ccws == 0) _ _ h).1).1 lt

-- each word of a program keeps to what the channel needs
pub word_at : (ccws : List Ccw) → IsProgram ccws → (i : ℕ) (c : Ccw) → i < length ccws → c ≡ ccw_at ccws i → IsWord ccws i c
word_at ccws h i c lt e = word_of ccws i c (rw e (faultless ccws h i lt))
