-- Of every text that has a page the page is written, where nothing fails.
use Rattle.std.proofs.Common.{◌≡◌, ◌⊎◌, ◌∙◌, inl, inr, ◌≤◌, ◌++◌, ℕ, Bool, true, false, List, length, Option, Some, None, Result, Ok, Err, refl, sym, ap, subst, arith}
use Rattle.std.proofs.lemmas.Bool.{cases_lt}
use Rattle.std.proofs.lemmas.Bool.Decides.{nat_tests}
use Rattle.std.proofs.lemmas.List.{append-nil, length-append}
use Rattle.deck_text.specs.declared.line.DeckFault.{DeckFault}
use Rattle.deck_text.specs.declared.line.DeckFault.TheVariants as faults
use Rattle.deck_text.specs.declared.line.Which.TheVariants.{Size}
use Rattle.report_page.specs.declared.top.DrawStatus.{DrawStatus}
use Rattle.report_page.specs.declared.top.DrawStatus.TheVariants.{Done, DeckRefused, ReadFault, WriteFault, Limit, NoMemory, Usage}
use Rattle.report_page.specs.Answers.{ReadsFile, Tells, TellsDraw}
use Rattle.report_page.specs.Drawn.{drawn_from, drawn_of}

-- too long a text has none
too_long : (text : List ℕ) (wanted : Result (List ℕ) DeckFault) → wanted ≡ drawn_from text → 268435457 ≤ length text
    → (drawn_of text ≡ Err (faults.Limit Size))
too_long text wanted is long = grind (arith, nat_tests)

no_fault : (page : List ℕ) (f : DeckFault) (wanted : Result (List ℕ) DeckFault) → wanted ≡ Ok page → wanted ≡ Err f → ⊥
no_fault page f wanted p q = cc

-- a text that has a page was read whole
same_text : (text read : List ℕ) (after : Option (List ℕ)) (page : List ℕ) → ReadsFile (Some text) after read → drawn_of text ≡ Ok page → read ≡ text
same_text text read None page r p = absurd r.read
same_text text read (Some rest) page r p = elim (cases_lt (length read) 268435457) [
  | inl short ↦ sym (r.read ∙ ap (λ (l : List ℕ). read ++ l) (r.whole short) ∙ append-nil read)
  | inr long ↦ absurd (no_fault page (faults.Limit Size) (drawn_of text) p
      (too_long text (drawn_from text) refl (omega (arith, ap length r.read, length-append read rest))))
]

module _ (before after held holds : Option (List ℕ)) (text page : List ℕ) (is : before ≡ Some text) (p : drawn_of text ≡ Ok page) where
  read_so : (read : List ℕ) → ReadsFile before after read → drawn_of read ≡ Ok page
  read_so read r = ap drawn_of (same_text text read after page (subst (λ b. ReadsFile b after read) is r) p) ∙ p

  by_draw : (status : DrawStatus) → TellsDraw status before after held holds → (status ≡ ReadFault → ⊥) → (status ≡ WriteFault → ⊥)
      → (status ≡ Done) ⊎ (status ≡ NoMemory)
  by_draw Done t nr nw = inl refl
  by_draw NoMemory t nr nw = inr refl
  by_draw ReadFault t nr nw = absurd (nr refl)
  by_draw WriteFault t nr nw = absurd (nw refl)
  by_draw (DeckRefused line why) t nr nw = absurd (no_fault page (faults.Refused line why) (drawn_of t.text) (read_so t.text t.reads) t.told.0)
  by_draw (Limit which) t nr nw = absurd (no_fault page (faults.Limit which) (drawn_of t.text) (read_so t.text t.reads) t.told.0)
  by_draw Usage t nr nw = absurd t.told

pub draws : (status : DrawStatus) (named : Bool) (before after held holds : Option (List ℕ)) (text page : List ℕ)
    → before ≡ Some text → named ≡ true → drawn_of text ≡ Ok page → Tells status named before after held holds
    → (status ≡ ReadFault → ⊥) → (status ≡ WriteFault → ⊥) → (status ≡ Done) ⊎ (status ≡ NoMemory)
draws status true before after held holds text page is named p told nr nw = by_draw before after held holds text page is p status told nr nw
draws status false before after held holds text page is named p told nr nw = absurd (cc)
