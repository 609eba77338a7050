-- Of every deck the file is written, or why not, where nothing fails.
use Rattle.std.proofs.Common.{◌≡◌, ◌⊎◌, ◌∙◌, inl, inr, ℕ, true, List, Option, Some, None, Ok, Err, refl, sym, ap, subst}
use Rattle.std.specs.Prelude.{if◌then◌else◌}
use Rattle.std.proofs.lemmas.Option.{none-some}
use Rattle.deck_text.specs.declared.line.DeckFault.TheVariants as faults
use Rattle.deck_text.specs.DeckLines.{DeckLines}
use Rattle.deck_text.specs.Parse.{parsed}
use Rattle.volume_save.specs.declared.unsaved.Unsaved.{Unsaved}
use Rattle.volume_save.specs.Devices.{is_declared}
use Rattle.volume_save.specs.DeckTexts.{Reads}
use Rattle.volume_save.specs.Saving.{saving_of}
use Rattle.volume_save.proofs.DeckTexts.{no_fault, parsed_so, same_deck}
use Rattle.volume_tool.specs.declared.task.Task.{Task}
use Rattle.volume_tool.specs.declared.task.Task.TheVariants as tasks
use Rattle.volume_tool.specs.declared.top.VolumeStatus.{VolumeStatus}
use Rattle.volume_tool.specs.declared.top.VolumeStatus.TheVariants.{
  Done,
  DeckRefused,
  ReadFault,
  WriteFault,
  Limit,
  NoMemory,
  Usage,
  Device,
  Lent,
  Half,
  Lost,
  Fault,
  BadHead,
  BadTrack,
  Trailing,
}
use Rattle.volume_tool.specs.Answers.{Tells}
use Rattle.volume_tool.specs.Save.{status_for, status_of, IsUnsaved, TellsSave}

module _ (n : ℕ) (before after held holds : Option (List ℕ)) (text : List ℕ) (d : DeckLines) (is : before ≡ Some text) (p : parsed text ≡ Ok d) where
  read_so : (read : List ℕ) → Reads before after read → parsed read ≡ Ok d
  read_so read r = parsed_so before after text read d is p r

  -- the status of this deck
  declared_so : (status : VolumeStatus) (e : DeckLines) → e ≡ d → is_declared e n ≡ true → status ≡ status_of (saving_of e n) → status ≡ status_for d n
  declared_so status e same here so =
      so ∙ ap (λ (x : DeckLines). status_of (saving_of x n)) same
      ∙ sym (ap (λ b. if b then status_of (saving_of d n) else Device) (ap (λ (x : DeckLines). is_declared x n) (sym same) ∙ here))

  unsaved_so : (read : List ℕ) (why : Unsaved) → Reads before after read → IsUnsaved (parsed read) n why → status_of (Err why) ≡ status_for d n
  unsaved_so read why r u =
      declared_so (status_of (Err why)) u.lines (same_deck d u.lines (parsed read) (read_so read r) u.read) u.declared (sym (ap status_of u.why_is))

  by_save : (status : VolumeStatus) → TellsSave status n before after held holds → (status ≡ ReadFault → ⊥) → (status ≡ WriteFault → ⊥) →
      (status ≡ status_for d n) ⊎ (status ≡ NoMemory)
  by_save Done t nr nw =
      inl (declared_so Done t.told.lines (same_deck d t.told.lines (parsed t.text) (read_so t.text t.reads) t.told.read) t.told.declared
      (sym (ap status_of t.told.saved.found)))
  by_save NoMemory t nr nw = inr refl
  by_save ReadFault t nr nw = absurd (nr refl)
  by_save WriteFault t nr nw = absurd (nw refl)
  by_save (DeckRefused line why) t nr nw = absurd (no_fault d (faults.Refused line why) (parsed t.text) (read_so t.text t.reads) t.told.0)
  by_save (Limit which) t nr nw = absurd (no_fault d (faults.Limit which) (parsed t.text) (read_so t.text t.reads) t.told.0)
  by_save Device t nr nw =
      let same : t.told.0 ≡ d = same_deck d t.told.0 (parsed t.text) (read_so t.text t.reads) t.told.1 in
      inl (sym (ap (λ b. if b then status_of (saving_of d n) else Device) (ap (λ (x : DeckLines). is_declared x n) (sym same) ∙ t.told.2)))
  by_save Lent t nr nw = inl (unsaved_so t.text _ t.reads t.told.0)
  by_save Half t nr nw = inl (unsaved_so t.text _ t.reads t.told.0)
  by_save (Lost q) t nr nw = inl (unsaved_so t.text _ t.reads t.told.0)
  by_save (Fault side) t nr nw = inl (unsaved_so t.text _ t.reads t.told.0)
  by_save Usage t nr nw = absurd t.told
  by_save (BadHead offset) t nr nw = absurd t.told
  by_save (BadTrack track offset) t nr nw = absurd t.told
  by_save (Trailing offset) t nr nw = absurd t.told

pub saves : (status : VolumeStatus) (task : Option Task) (n : ℕ) (before after held holds : Option (List ℕ)) (text : List ℕ) (d : DeckLines) →
    before ≡ Some text → task ≡ Some (tasks.Save n) → parsed text ≡ Ok d → Tells status task before after held holds →
    (status ≡ ReadFault → ⊥) → (status ≡ WriteFault → ⊥) → (status ≡ status_for d n) ⊎ (status ≡ NoMemory)
saves status None n before after held holds text d is named p told nr nw = absurd (none-some (tasks.Save n) named)
saves status (Some tasks.List) n before after held holds text d is named p told nr nw = absurd (cc)
saves status (Some (tasks.Save k)) n before after held holds text d is named p told nr nw =
    let same : k ≡ n = cc in
    by_save n before after held holds text d is p status (subst (λ j. TellsSave status j before after held holds) same told) nr nw
