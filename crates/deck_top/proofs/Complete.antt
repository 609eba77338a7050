-- A deck is reported where nothing fails.
use Rattle.std.proofs.Common.{◌≡◌, ◌⊎◌, inl, inr, ◌≤◌, ℕ, List, ◌++◌, length, Option, Some, None, Result, Ok, Err, refl, sym, ap, subst, ◌∙◌, arith}
use Rattle.std.proofs.Common.{length-append}
use Rattle.std.proofs.lemmas.Bool.{cases_lt}
use Rattle.std.proofs.lemmas.Bool.Decides.{nat_tests}
use Rattle.std.proofs.lemmas.List.{append-nil}
use Rattle.std.proofs.lemmas.Option.{none-some, same_Some}
use Rattle.deck_text.specs.DeckLines.{DeckLines}
use Rattle.deck_text.specs.declared.line.DeckFault.{DeckFault}
use Rattle.deck_text.specs.declared.line.DeckFault.TheVariants as faults
use Rattle.deck_text.specs.declared.line.Which.TheVariants.{Size}
use Rattle.deck_text.specs.Parse.{parsed}
use Rattle.deck_gen.specs.Generated.{deck_of_seed}
use Rattle.deck_top.specs.declared.task.Task.{Task}
use Rattle.deck_top.specs.declared.task.Task.TheVariants.{Run, Check, Generate}
use Rattle.deck_top.specs.declared.top.Status.{Status}
use Rattle.deck_top.specs.declared.top.Status.TheVariants.{Reported, DeckRefused, ReadFault, WriteFault, Limit, NoMemory, Usage}
use Rattle.deck_top.specs.Answers.{Reads, TellsBy, TellsReadBy, TellsTaskBy}

parse_long : (text : List ℕ) → 16777217 ≤ length text → parsed text ≡ Err (faults.Limit Size)
parse_long text long = grind (arith, nat_tests)

no_fault : (d : DeckLines) (f : DeckFault) (deck : Result DeckLines DeckFault) → deck ≡ Ok d → deck ≡ Err f → ⊥
no_fault d f deck p q = cc

-- a deck's text that was read is the whole one
same_text : (text read : List ℕ) (after : Option (List ℕ)) (d : DeckLines) → Reads (Some text) after read → parsed text ≡ Ok d → read ≡ text
same_text text read None d r p = absurd r.read
same_text text read (Some rest) d r p = elim (cases_lt (length read) 16777217) [
  | inl short ↦ sym (r.read ∙ ap (λ (l : List ℕ). read ++ l) (r.whole short) ∙ append-nil read)
  | inr long ↦ absurd (no_fault d (faults.Limit Size) (parsed text) p
      (parse_long text (omega (arith, ap length r.read, length-append read rest))))
]

pub refused : (text read : List ℕ) (before after : Option (List ℕ)) (d : DeckLines) (f : DeckFault) → before ≡ Some text → Reads before after read
    → parsed text ≡ Ok d → parsed read ≡ Err f → ⊥
refused text read before after d f is r p q =
    no_fault d f (parsed read) (ap parsed (same_text text read after d (subst (λ b. Reads b after read) is r) p) ∙ p) q

module _ (Output : Task → DeckLines → List ℕ → Type 0) (HasRun : DeckLines → Type 0) where
  by_read : (status : Status) (task : Task) (before after held holds : Option (List ℕ)) (text : List ℕ) (d : DeckLines)
      → before ≡ Some text → parsed text ≡ Ok d → TellsReadBy Output HasRun status task before after held holds → (status ≡ ReadFault → ⊥)
      → (status ≡ WriteFault → ⊥)
      → (status ≡ Reported) ⊎ (status ≡ NoMemory)
  by_read Reported task before after held holds text d is p told nr nw = inl refl
  by_read NoMemory task before after held holds text d is p told nr nw = inr refl
  by_read ReadFault task before after held holds text d is p told nr nw = absurd (nr refl)
  by_read WriteFault task before after held holds text d is p told nr nw = absurd (nw refl)
  by_read Usage task before after held holds text d is p told nr nw = absurd told.2
  by_read (DeckRefused line why) task before after held holds text d is p told nr nw =
      absurd (refused text told.0 before after d (faults.Refused line why) is told.1 p told.2.0)
  by_read (Limit which) task before after held holds text d is p told nr nw =
      absurd (refused text told.0 before after d (faults.Limit which) is told.1 p told.2.0)

  by_generated : (status : Status) (seed count : ℕ) (before after held holds : Option (List ℕ))
      → TellsTaskBy Output HasRun status (Generate seed count) before after held holds → (status ≡ WriteFault → ⊥) → (status ≡ Reported) ⊎ (status ≡ NoMemory)
  by_generated Reported seed count before after held holds told nw = inl refl
  by_generated NoMemory seed count before after held holds told nw = inr refl
  by_generated ReadFault seed count before after held holds told nw = absurd told.1
  by_generated WriteFault seed count before after held holds told nw = absurd (nw refl)
  by_generated Usage seed count before after held holds told nw = absurd told.1
  by_generated (DeckRefused line why) seed count before after held holds told nw =
      absurd (no_fault (deck_of_seed seed count) (faults.Refused line why) (Ok (deck_of_seed seed count)) refl told.1.0)
  by_generated (Limit which) seed count before after held holds told nw =
      absurd (no_fault (deck_of_seed seed count) (faults.Limit which) (Ok (deck_of_seed seed count)) refl told.1.0)

  by_task : (status : Status) (task : Task) (before after held holds : Option (List ℕ)) (text : List ℕ) (d : DeckLines)
      → before ≡ Some text → parsed text ≡ Ok d → TellsTaskBy Output HasRun status task before after held holds → (status ≡ ReadFault → ⊥)
      → (status ≡ WriteFault → ⊥)
      → (status ≡ Reported) ⊎ (status ≡ NoMemory)
  by_task status Run before after held holds text d is p told nr nw = by_read status Run before after held holds text d is p told nr nw
  by_task status Check before after held holds text d is p told nr nw = by_read status Check before after held holds text d is p told nr nw
  by_task status (Generate seed count) before after held holds text d is p told nr nw =
      by_generated status seed count before after held holds told nw

  pub complete : (status : Status) (task : Option Task) (wanted : Task) (before after held holds : Option (List ℕ)) (text : List ℕ)
      (d : DeckLines)
      → before ≡ Some text → task ≡ Some wanted → parsed text ≡ Ok d → TellsBy Output HasRun status task before after held holds
      → (status ≡ ReadFault → ⊥)
      → (status ≡ WriteFault → ⊥)
      → (status ≡ Reported) ⊎ (status ≡ NoMemory)
  complete status None wanted before after held holds text d is task_is p told nr nw = absurd (none-some wanted task_is)
  complete status (Some task) wanted before after held holds text d is task_is p told nr nw =
      by_task status wanted before after held holds text d is p
      (subst (λ (t : Task). TellsTaskBy Output HasRun status t before after held holds) (same_Some task wanted task_is) told) nr nw

  pub generated_complete : (status : Status) (task : Option Task) (seed count : ℕ) (before after held holds : Option (List ℕ))
      → task ≡ Some (Generate seed count) → TellsBy Output HasRun status task before after held holds → (status ≡ WriteFault → ⊥)
      → (status ≡ Reported) ⊎ (status ≡ NoMemory)
  generated_complete status task seed count before after held holds is told nw =
      by_generated status seed count before after held holds
      (subst (λ (o : Option Task). TellsBy Output HasRun status o before after held holds) is told) nw
