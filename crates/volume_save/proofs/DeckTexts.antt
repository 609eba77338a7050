-- A deck that parses was read whole.
use Rattle.std.proofs.Common.{◌≡◌, ◌∙◌, inl, inr, ◌≤◌, ◌++◌, ℕ, List, length, Option, Some, None, Result, Ok, Err, sym, ap, subst, arith}
use Rattle.std.proofs.lemmas.Bool.{cases_lt}
use Rattle.std.proofs.lemmas.Bool.Decides.{nat_tests}
use Rattle.std.proofs.lemmas.List.{append-nil, length-append}
use Rattle.deck_text.specs.declared.line.DeckFault.{DeckFault}
use Rattle.deck_text.specs.declared.line.DeckFault.TheVariants as faults
use Rattle.deck_text.specs.declared.line.Which.TheVariants.{Size}
use Rattle.deck_text.specs.DeckLines.{DeckLines}
use Rattle.deck_text.specs.Parse.{parsed}
use Rattle.volume_save.specs.DeckTexts.{Reads}

parse_long : (text : List ℕ) → 16777217 ≤ length text → parsed text ≡ Err (faults.Limit Size)
parse_long text long = grind (arith, nat_tests)

pub no_fault : (d : DeckLines) (f : DeckFault) (deck : Result DeckLines DeckFault) → deck ≡ Ok d → deck ≡ Err f → ⊥
no_fault d f deck p q = cc

pub same_deck : (d e : DeckLines) (deck : Result DeckLines DeckFault) → deck ≡ Ok d → deck ≡ Ok e → e ≡ d
same_deck d e deck p q = cc

-- a deck's text that was read is the whole one
same_text : (text read : List ℕ) (after : Option (List ℕ)) (d : DeckLines) → Reads (Some text) after read → parsed text ≡ Ok d → read ≡ text
same_text text read None d r p = absurd r.read
same_text text read (Some rest) d r p = elim (cases_lt (length read) 16777217) [
  | inl short ↦ sym (r.read ∙ ap (λ (l : List ℕ). read ++ l) (r.whole short) ∙ append-nil read)
  | inr long ↦ absurd (no_fault d (faults.Limit Size) (parsed text) p
      (parse_long text (omega (arith, ap length r.read, length-append read rest))))
]

pub parsed_so : (before after : Option (List ℕ)) (text read : List ℕ) (d : DeckLines) → before ≡ Some text → parsed text ≡ Ok d → Reads before after read
    → parsed read ≡ Ok d
parsed_so before after text read d is p r = ap parsed (same_text text read after d (subst (λ b. Reads b after read) is r) p) ∙ p
