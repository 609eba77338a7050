-- An event line at which something is lost, or two devices become a pair or part, behind the run of a deck.
use Rattle.std.proofs.Common.{◌≡◌, ◌≤◌, ℕ, List, [], ◌∷◌, refl, arith}
use Rattle.std.specs.Prelude.{Ok}
use Rattle.deck_plan.specs.declared.event.EventLine.{EventLine}
use Rattle.deck_text.specs.DeckLines.{DeckLines}
use Rattle.deck_text.specs.Parse.{parsed}
use Rattle.subsystem_defs.specs.Decks.{opened, run_of}
use Rattle.subsystem_defs.specs.Happening as H
use Rattle.subsystem_defs.specs.Happening.{unpaired, unpaired_at, unpaired_by}
use Rattle.subsystem_defs.specs.Lines as L
use Rattle.subsystem_defs.specs.Lines.{Unpair, asked_by, last_behind, line_logged, logged}
use Rattle.subsystem_defs.specs.Subsystem.{Subsystem, unfailing}
use Rattle.audit_laws.specs.Ordered.{AllLead, IsLossOrPair, IsNoWork}
use Rattle.audit_laws.specs.Standing.{LineLeads}
use Rattle.audit_laws.proofs.own.Behind.{AllSo, IsBehind, deck_all_so, rising, run_is_behind}
use Rattle.audit_laws.proofs.own.CacheLines.{fail_cache_leads}
use Rattle.audit_laws.proofs.own.LossLines.{fail_store_leads, fail_volume_leads}
use Rattle.audit_laws.proofs.own.PairLines.{pair_leads, unpair_leads}
use Rattle.audit_laws.proofs.own.PowerLines.{power_leads}
use Rattle.audit_laws.proofs.own.StillLines.{once, one_line, some_device, still_leads}
use Rattle.audit_laws.proofs.own.Ties.{numbers_in, pair_most, lent_count, ties}

unpair_logged : (s : Subsystem) (a : ℕ) → line_logged s (Unpair a) ≡ logged (Unpair a) (unpaired s a unfailing) ∷ []
unfolding L.line_logged
unpair_logged s a = refl

unpaired_before : (s : Subsystem) (a : ℕ) → (unpaired s a unfailing).before ≡ s
unfolding H.unpaired
unpaired_before s a = grind arith

module _ (numbers : List ℕ) (s : Subsystem) (k : IsBehind numbers s) where
  few : (a : ℕ) → lent_count a (ties s.mounted) ≤ 1
  few a = let one = k.tied.single a in let most = pair_most a (ties s.mounted) in omega (arith, one, most)

  pub ordered_leads : (e : EventLine) → IsLossOrPair s e → LineLeads s e
  ordered_leads e has =
      grind (arith, once, fail_cache_leads, rising, fail_store_leads, some_device, fail_volume_leads, pair_leads, one_line, unpair_logged, unpaired_before, unpair_leads, few, power_leads)

-- Decks

pub ordered_line_leads : (text : List ℕ) (deck : DeckLines) → parsed text ≡ Ok deck → (e : EventLine) → IsLossOrPair (run_of deck).behind e →
    LineLeads (run_of deck).behind e
ordered_line_leads text deck read e has = grind (arith, ordered_leads, numbers_in, run_is_behind)

-- Along a whole deck

all_lead : (events : List EventLine) (s : Subsystem) → AllSo (λ (z : Subsystem) (e : EventLine). IsNoWork e → LineLeads z e) s events → AllLead s events
all_lead [] s so = tt
all_lead (e ∷ later) s so = (so.0, all_lead later (last_behind s (line_logged s (asked_by e))) so.1)

pub each_line_leads : (text : List ℕ) (deck : DeckLines) → parsed text ≡ Ok deck → AllLead (opened deck) deck.events
each_line_leads text deck read = grind (arith, all_lead, deck_all_so, numbers_in, still_leads, ordered_leads)
