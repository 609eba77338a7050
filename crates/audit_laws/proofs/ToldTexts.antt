-- Lines without a fault tell of the devices that the audit makes of them, and of no others.
use Rattle.std.proofs.Common.{◌≡◌, ◌↔◌, List, Ok, ℕ, false, refl, sym, ap, subst, ◌∙◌, inl, inr}
use Rattle.deck_text.specs.DeckLines.{DeckLines}
use Rattle.deck_text.specs.Parse.{parsed}
use Rattle.deck_audit.specs.State.{AuditState, first_state}
use Rattle.audit_laws.specs.FirstFault.{LeadsTo}
use Rattle.audit_laws.specs.Shown.{TellsOfPlain}
use Rattle.audit_laws.proofs.Decks.{first_sound}
use Rattle.audit_laws.proofs.GoodLines.{awaits_sense, near_same}
use Rattle.audit_laws.proofs.GoodTexts.{told_before}
use Rattle.audit_laws.proofs.ShownLines.{Beside}
use Rattle.audit_laws.proofs.Telling.{good_texts}

module _ (text : List ℕ) (deck : DeckLines) (parses : parsed text ≡ Ok deck) (lines : List (List ℕ)) (s : AuditState)
    (leads : LeadsTo (first_state deck) lines s) (none : awaits_sense s.due ≡ false) where
  beside_same : (t : AuditState) → Beside s t → t ≡ s
  beside_same t (inl is) = is
  beside_same t (inr waits) = absurd (let e = sym (ap awaits_sense waits.due) ∙ none in cc)

  no_others : (t : AuditState) → TellsOfPlain (first_state deck) lines t → t ≡ s
  no_others t tells = beside_same t
      (good_texts deck.programs deck.devices lines (first_state deck) (first_state deck) s t (first_sound text deck parses) (inl refl) leads tells)

  told : TellsOfPlain (first_state deck) lines s
  told =
      let all = told_before deck.programs deck.devices lines (first_state deck) s (first_sound text deck parses) leads in
      subst (λ (x : AuditState). TellsOfPlain (first_state deck) lines x) (near_same s all.3.0 all.3.2 none)
      (subst (λ (x : AuditState). TellsOfPlain x lines all.3.0) (near_same (first_state deck) all.0 all.1 refl) all.3.1)

  pub told_of : (t : AuditState) → TellsOfPlain (first_state deck) lines t ↔ (t ≡ s)
  told_of t = (no_others t, λ is. subst (λ (x : AuditState). TellsOfPlain (first_state deck) lines x) (sym is) told)
