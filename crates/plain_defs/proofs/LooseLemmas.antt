-- A device without data of cache fast write.
use Rattle.std.proofs.Common.{◌≡◌, ℕ, zero, suc, List, [], Option, Some, None, refl, sym, ap, ◌∙◌}
use Rattle.std.proofs.lemmas.Bool.{true≢false}
use Rattle.ckd_types.specs.declared.channel.Ccw.{Ccw}
use Rattle.ckd_rules.specs.declared.stance.Stance.{Stance}
use Rattle.ckd_rules.specs.Walk.{TrackEdit}
use Rattle.plain_defs.specs.Legal.{MayEdit}
use Rattle.plain_defs.specs.Loose.{is_loose_in}
use Rattle.plain_defs.specs.PlainState.{LooseTrack, PlainState}
use Rattle.plain_defs.specs.Program.{Part, first_part, stepped_at, command_run, part_of}
use Rattle.plain_defs.proofs.PartLemmas.{acted_nothing}

-- nothing is loose there, so everything may be edited
pub may_edit : (s : PlainState) (z : Stance) (edit : Option TrackEdit) → s.loose ≡ [] → MayEdit s z edit
may_edit s z (Some e) none = λ loose. absurd (true≢false
    (sym loose ∙ ap (λ (l : List LooseTrack). is_loose_in l e.track) none))
may_edit s z None none = tt

module _ (path : ℕ) (ccws : List Ccw) where
  stepped_loose : (p : Part) (next : Option ℕ) → (stepped_at path ccws p next).state.loose ≡ p.state.loose
  stepped_loose p (Some i) = refl
  stepped_loose p None = refl

  -- a program without acts makes no track loose or firm
  pub part_loose : (state : PlainState) (k : ℕ) → (part_of state path ccws [] k).state.loose ≡ state.loose
  unfolding part_of
  part_loose state zero = ap (λ (p : Part). p.state.loose) (acted_nothing [] (first_part state path ccws) refl)
  part_loose state (suc k) =
      let p = part_of state path ccws [] k in
      ap (λ (q : Part). q.state.loose) (acted_nothing [] (command_run path ccws p) refl) ∙ stepped_loose p p.next
      ∙ part_loose state k
