-- Of every deck the file is written, or why not, where nothing fails.
use Rattle.std.proofs.Common.{◌≡◌, ◌⊎◌, ◌∙◌, inl, inr, ℕ, List, Option, Some, None, Ok, refl, sym, ap, subst}
use Rattle.std.proofs.lemmas.Option.{none-some}
use Rattle.deck_text.specs.declared.line.DeckFault.TheVariants as faults
use Rattle.deck_text.specs.DeckLines.{DeckLines}
use Rattle.deck_text.specs.Parse.{parsed}
use Rattle.volume_save.specs.DeckTexts.{Reads}
use Rattle.volume_save.proofs.DeckTexts.{no_fault, parsed_so, same_deck}
use Rattle.copy_tool.specs.declared.task.Task.{Task}
use Rattle.copy_tool.specs.declared.top.CopyStatus.{CopyStatus}
use Rattle.copy_tool.specs.declared.top.CopyStatus.TheVariants.{
  Done,
  DeckRefused,
  ReadFault,
  WriteFault,
  Limit,
  NoMemory,
  Usage,
  NotMade,
}
use Rattle.copy_tool.specs.Answers.{Tells}
use Rattle.copy_tool.specs.Making.{TellsTask, made_for, status_for, status_of}

module _ (task : Task) (before after held holds : Option (List ℕ)) (text : List ℕ) (deck : DeckLines) (is : before ≡ Some text) (p : parsed text ≡ Ok deck) where
  read_so : (read : List ℕ) → Reads before after read → parsed read ≡ Ok deck
  read_so read r = parsed_so before after text read deck is p r

  -- the status of this deck
  status_so : (status : CopyStatus) (read : List ℕ) (e : DeckLines) → Reads before after read → parsed read ≡ Ok e → status_of (made_for e task) ≡ status
      → status ≡ status_for deck task
  status_so status read e r it so =
      sym so ∙ ap (λ (x : DeckLines). status_of (made_for x task)) (same_deck deck e (parsed read) (read_so read r) it)

  by_task : (status : CopyStatus) → TellsTask status task before after held holds → (status ≡ ReadFault → ⊥) → (status ≡ WriteFault → ⊥) →
      (status ≡ status_for deck task) ⊎ (status ≡ NoMemory)
  by_task Done t nr nw = inl (status_so Done t.text t.told.lines t.reads t.told.read (ap status_of t.told.made))
  by_task NoMemory t nr nw = inr refl
  by_task ReadFault t nr nw = absurd (nr refl)
  by_task WriteFault t nr nw = absurd (nw refl)
  by_task (DeckRefused line why) t nr nw = absurd (no_fault deck (faults.Refused line why) (parsed t.text) (read_so t.text t.reads) t.told.0)
  by_task (Limit which) t nr nw = absurd (no_fault deck (faults.Limit which) (parsed t.text) (read_so t.text t.reads) t.told.0)
  by_task Usage t nr nw = absurd t.told
  by_task (NotMade why) t nr nw = inl (status_so (NotMade why) t.text t.told.lines t.reads t.told.read (ap status_of t.told.why_is))

pub completes : (status : CopyStatus) (asked : Option Task) (task : Task) (before after held holds : Option (List ℕ)) (text : List ℕ) (deck : DeckLines) →
    before ≡ Some text → asked ≡ Some task → parsed text ≡ Ok deck → Tells status asked before after held holds →
    (status ≡ ReadFault → ⊥) → (status ≡ WriteFault → ⊥) → (status ≡ status_for deck task) ⊎ (status ≡ NoMemory)
completes status None task before after held holds text deck is named p told nr nw = absurd (none-some task named)
completes status (Some other) task before after held holds text deck is named p told nr nw =
    let same : other ≡ task = cc in
    by_task task before after held holds text deck is p status (subst (λ x. TellsTask status x before after held holds) same told) nr nw
