-- A file that was written is told, or the reason why there is none.
use Rattle.std.proofs.Common.{◌≡◌, inl, inr, List, Option, Ok, refl, sym, subst, ℕ}
use Rattle.ckd_outside.specs.Texts.{AppendsFront}
use Rattle.deck_text.specs.DeckLines.{DeckLines}
use Rattle.volume_file.specs.File.{ImageVolume, IsWhole, file_of}
use Rattle.copy_tool.specs.declared.task.Task.{Task}
use Rattle.copy_tool.specs.declared.unmade.Unmade.{Unmade}
use Rattle.copy_tool.specs.declared.top.CopyStatus.{CopyStatus}
use Rattle.copy_tool.specs.declared.top.CopyStatus.TheVariants.{Done, NotMade, WriteFault}
use Rattle.copy_tool.specs.Copying.{Made, not_made}
use Rattle.copy_tool.specs.Making.{IsPlainFor, IsWritten, TellsDeck, made_for, made_text}
use Rattle.copy_tool.specs.Texts.{unmade_text}

module _ (task : Task) (deck : DeckLines) (held holds : Option (List ℕ)) where
  -- at a write fault a front of the deck's text is there
  front_told : (status : CopyStatus) (wanted : Made) → made_for deck task ≡ wanted → status ≡ WriteFault
      → AppendsFront held holds (made_text task wanted) → TellsDeck status task (Ok deck) held holds
  front_told status wanted so fault front =
      subst (λ x. TellsDeck x task (Ok deck) held holds) (sym fault) (subst (λ x. AppendsFront held holds (made_text task x)) (sym so) front)

  pub refusal_told : (status : CopyStatus) (why : Unmade) → not_made why ≡ made_for deck task
      → IsWritten status (NotMade why) held holds (unmade_text task why) → TellsDeck status task (Ok deck) held holds
  refusal_told status why so written = elim written [
    | inl w ↦ subst (λ x. TellsDeck x task (Ok deck) held holds) (sym w.0)
        (record { lines = deck; read = refl; why_is = sym so; written = w.1 })
    | inr f ↦ front_told status (not_made why) (sym so) f.0 f.1
  ]

  pub file_told : (status : CopyStatus) (v : ImageVolume) → Ok v ≡ made_for deck task → IsPlainFor deck task v × IsWhole v
      → IsWritten status Done held holds (file_of v) → TellsDeck status task (Ok deck) held holds
  file_told status v so made written = elim written [
    | inl w ↦ subst (λ x. TellsDeck x task (Ok deck) held holds) (sym w.0)
        (record { lines = deck; read = refl; volume = v; made = sym so; plain = made.0; whole = made.1; written = w.1 })
    | inr f ↦ front_told status (Ok v) (sym so) f.0 f.1
  ]
