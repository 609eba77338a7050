-- The chain of a running program is where its history goes on: from its start on, behind each act and each end.
use Rattle.std.proofs.Common.{◌≡◌, ℕ, List, [], Option, Some, None, refl, sym, ap, ◌∙◌}
use Rattle.ckd_types.specs.declared.channel.Ccw.{Ccw}
use Rattle.ckd_types.specs.declared.channel.CommandEnd.{CommandEnd}
use Rattle.ckd_types.specs.Fixed.{Fixed}
use Rattle.ckd_rules.specs.Ending.{Outcome}
use Rattle.ckd_rules.specs.Ends.{goes_to}
use Rattle.ckd_chain.specs.State.{ChainState}
use Rattle.ckd_chain.specs.Steps.{begun_chain, index_of, behind}
use Rattle.plain_defs.specs.declared.journal.Act.{Act}
use Rattle.plain_defs.specs.declared.journal.Item.{Item}
use Rattle.plain_defs.specs.History.{OpenEntry, with_end, IsOpen}
use Rattle.plain_defs.specs.Journal.{Plans, program_of}
use Rattle.plain_defs.specs.PlainState.{PlainState}
use Rattle.plain_defs.specs.Program.{Part, part_of}
use Rattle.plain_defs.proofs.PartLemmas.{first_next}
use Rattle.device_laws.proofs.DeviceHistory.{IsAtHand}
use Rattle.device_laws.proofs.HistoryEnds.{edited_next, effect_at, one_longer, part_with_one}
use Rattle.device_laws.proofs.OpenProgram.{IsGoing, with_one_act, going_of_open, part_with_act}

module _ (plans : Plans) (s : PlainState) where
  -- a program starts
  pub start_at_hand : (path ordinal : ℕ) (fixed : Fixed) → IsAtHand plans s
      (record { path = path; ordinal = ordinal; ends = []; acts = [] }) (begun_chain (program_of plans path ordinal) fixed)
  start_at_hand path ordinal fixed = record { words = refl; next = sym (first_next path (program_of plans path ordinal) [] s) }

  module _ (items : List Item) (o : OpenEntry) (chain : ChainState) (at_hand : IsAtHand plans s o chain) where
    -- an act
    pub act_at_hand : IsOpen plans s items o → (act : Act) → IsAtHand plans s (with_one_act o act) chain
    act_at_hand is_open act = record {
      words = at_hand.words;
      next = at_hand.next ∙ ap (λ (p : Part). p.next) (sym (part_with_act plans s items o (going_of_open plans s items o None is_open) act));
    }

    -- the command at hand ends as on the plain device
    pub end_at_hand : IsGoing plans s items o (edited_next plans s items o) → (i : ℕ) → chain.at.next ≡ Some i → (e : CommandEnd)
        → (outcome : Outcome) → outcome ≡ (effect_at plans s items o i).outcome → IsAtHand plans s (with_end o e) (behind chain outcome)
    end_at_hand going i next e outcome same = record {
      words = at_hand.words;
      next =
          ap (λ (l : List Ccw). goes_to l (index_of chain.at.next) outcome) at_hand.words
          ∙ ap (λ (n : Option ℕ). goes_to (program_of plans o.path o.ordinal) (index_of n) outcome) next
          ∙ ap (λ (x : Outcome). goes_to (program_of plans o.path o.ordinal) i x) same
          ∙ sym (ap (λ (k : ℕ). (part_of s o.path (program_of plans o.path o.ordinal) o.acts k).next) (one_longer o.ends e)
          ∙ ap (λ (p : Part). p.next) (part_with_one plans s items o going i (sym at_hand.next ∙ next)));
    }
