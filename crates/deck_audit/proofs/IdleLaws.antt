-- What happens while no program runs keeps a device's history plain: a reset, a new volume, an act of cache fast write.
use Rattle.std.proofs.Common.{◌≡◌, ◌∷◌, ◌++◌, ℕ, [], Option, None, true, false, sym, ap, subst}
use Rattle.std.proofs.lemmas.Bool.{cond_both}
use Rattle.plain_defs.specs.declared.journal.Act.{Act}
use Rattle.plain_defs.specs.declared.journal.Item.{Item}
use Rattle.plain_defs.specs.declared.journal.Item.TheVariants as items
use Rattle.plain_defs.specs.History.{History, OpenEntry, acted, acted_in, emptied, reset_in_history, reset_in, state_by, IsPlain}
use Rattle.plain_defs.specs.Journal.{Plans, replay}
use Rattle.plain_defs.specs.Legal.{IsLegalItem, IsSomeLoose, is_used}
use Rattle.plain_defs.specs.Loose.{is_loose_there}
use Rattle.plain_defs.specs.PlainState.{PlainState}
use Rattle.plain_defs.proofs.JournalLaws.{legal_more}
use Rattle.deck_audit.specs.Device.{AuditedDevice, state_of}

module _ (plans : Plans) (empty : PlainState) (h : History) (plain : IsPlain plans empty h) (stands : h.running ≡ None) where
  -- with a legal item more
  one_more : (x : Item) → IsLegalItem plans (replay plans empty h.items) h.items x []
      → IsPlain plans empty (record h { items = h.items ++ x ∷ []; running = None })
  one_more x legal = record { legal = legal_more plans empty [] h.items x plain.legal legal; at = tt }

  with_none : (x : Item) → IsPlain plans empty (record h { items = h.items ++ x ∷ []; running = None })
      → IsPlain plans empty (record h { items = h.items ++ x ∷ [] })
  with_none x is = subst (λ (r : Option OpenEntry). IsPlain plans empty (record h { items = h.items ++ x ∷ []; running = r })) (sym stands) is

  pub emptied_plain : IsPlain plans empty (emptied h)
  emptied_plain = with_none items.Fresh (one_more items.Fresh tt)

  pub reset_plain : (path more : ℕ) → IsPlain plans empty (reset_in_history h path more)
  reset_plain path more =
      subst (λ (r : Option OpenEntry). IsPlain plans empty (reset_in h path more r)) (sym stands)
      (cond_both (is_used path false h.items) (record h { items = h.items ++ items.Reset path ∷ [] }) h
      (λ (k : History). IsPlain plans empty k)
      (λ used. with_none (items.Reset path) (one_more (items.Reset path) used)) (λ unused. plain))

  pub acted_plain : (act : Act) → IsLegalItem plans (replay plans empty h.items) h.items (items.Act act) []
      → IsPlain plans empty (acted h act)
  acted_plain act legal =
      subst (λ (r : Option OpenEntry). IsPlain plans empty (acted_in h act r)) (sym stands)
      (with_none (items.Act act) (one_more (items.Act act) legal))

state_when_idle : (a : AuditedDevice) → a.history.running ≡ None → state_of a ≡ replay a.plans a.empty a.history.items
state_when_idle a stands = ap (λ (r : Option OpenEntry). state_by a.plans (replay a.plans a.empty a.history.items) r) stands

pub loose_when_idle : (a : AuditedDevice) (t : ℕ) → a.history.running ≡ None → is_loose_there (state_of a) t ≡ true
    → is_loose_there (replay a.plans a.empty a.history.items) t ≡ true
loose_when_idle a t stands is = subst (λ (s : PlainState). is_loose_there s t ≡ true) (state_when_idle a stands) is

pub some_when_idle : (a : AuditedDevice) → a.history.running ≡ None → IsSomeLoose (state_of a).loose
    → IsSomeLoose (replay a.plans a.empty a.history.items).loose
some_when_idle a stands some = subst (λ (s : PlainState). IsSomeLoose s.loose) (state_when_idle a stands) some
