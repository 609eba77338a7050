-- The words of each program of a deck that was read: at most 256 of them, with counts of 16 bits, that give bytes; so the words that end have indices
-- of 16 bits.
use Rattle.std.proofs.Common.{◌≡◌, ◌≤◌, ◌<◌, ◌-◌, ◌==◌, ◌++◌, ℕ, zero, suc, Bool, true, List, [], ◌∷◌, length, Option, Some, None, refl, sym, ap, subst, ◌∙◌, if◌then◌else◌, arith}
use Rattle.std.specs.Prelude.{slice_index_or, slice_set}
use Rattle.std.proofs.lemmas.Bool.{ltb-false}
use Rattle.ckd_types.specs.declared.channel.Ccw.{Ccw}
use Rattle.ckd_types.specs.Ccw.{ccw_at, is_chained}
use Rattle.ckd_types.specs.Program.{IsProgram}
use Rattle.ckd_rules.specs.Ending.{Outcome}
use Rattle.ckd_rules.specs.Ends.{goes_to}
use Rattle.deck_plan.specs.Plans.{no_plans, plan_of, with_program}
use Rattle.deck_text.specs.declared.line.DeviceLine.{DeviceLine}
use Rattle.deck_text.specs.declared.line.PlannedProgram.{PlannedProgram}
use Rattle.deck_text.specs.Plans.{plan_added, planned_all, plans_of}
use Rattle.deck_text.proofs.CcwAgain.{CcwFacts}
use Rattle.deck_text.proofs.DeckAgain.{Each, ProgramOk}
use Rattle.plain_defs.specs.declared.journal.Acted.{Acted}
use Rattle.plain_defs.specs.Effect.{effect_on}
use Rattle.plain_defs.specs.Journal.{Plans, program_of}
use Rattle.plain_defs.specs.PlainState.{PlainState}
use Rattle.plain_defs.specs.Program.{Part, first_part, one_more, part_of}
use Rattle.plain_defs.specs.Whole.{GivesBytes}
use Rattle.plain_defs.proofs.PartLemmas.{acted_beside, more_next, over_stays}
use Rattle.audit_laws.proofs.own.GivenBytes.{are_bytes, no_bytes}

pub record GoodWords (ccws : List Ccw) : Type 0 where
  pub words : length ccws ≤ 256
  pub counts : (i : ℕ) → (ccw_at ccws i).count < 65536
  pub gives : (i : ℕ) → GivesBytes (ccw_at ccws i)

-- A program that was read

each_fits : (ccws : List Ccw) → Each CcwFacts ccws → (i : ℕ) → ((ccw_at ccws i).count < 65536) × GivesBytes (ccw_at ccws i)
each_fits [] facts i = (omega arith, no_bytes)
each_fits (c ∷ ccws) facts zero = (facts.0.count, are_bytes c.given facts.0.given)
each_fits (c ∷ ccws) facts (suc i) = each_fits ccws facts.1 i

few_words : (ccws : List Ccw) → IsProgram ccws → length ccws ≤ 256
few_words ccws is = grind (arith, ltb-false)

no_words : GoodWords []
no_words = record { words = omega arith; counts = λ i. omega arith; gives = λ i. no_bytes }

-- The plans of a device

abbrev AreGood : List (List Ccw) → Type 0
AreGood plan = (n : ℕ) → GoodWords (slice_index_or plan n [])

abbrev AllGood : Plans → Type 0
AllGood plans = (j n : ℕ) → GoodWords (slice_index_or (slice_index_or plans j []) n [])

good_set : (plans : Plans) (i j : ℕ) (plan : List (List Ccw)) → AreGood plan → AreGood (slice_index_or plans j []) →
    AreGood (slice_index_or (slice_set plans i plan) j [])
good_set (p ∷ plans) zero zero plan one old = one
good_set (p ∷ plans) (suc i) (suc j) plan one old = good_set plans i j plan one old
good_set plans i j plan one old = old

good_more : (plan : List (List Ccw)) (program : List Ccw) → AreGood plan → GoodWords program → AreGood (plan ++ program ∷ [])
good_more [] program old one zero = one
good_more [] program old one (suc n) = no_words
good_more (p ∷ plan) program old one zero = old zero
good_more (p ∷ plan) program old one (suc n) = good_more plan program (λ m. old (suc m)) one n

good_if : (b : Bool) (plans more : Plans) → AllGood plans → AllGood more → AllGood (if b then more else plans)
good_if b plans more h g = grind arith

good_all : (devices : List DeviceLine) (d : ℕ) (plans : Plans) (ps : List PlannedProgram) → AllGood plans → Each (ProgramOk devices) ps →
    AllGood (planned_all d plans ps)
good_all devices d plans [] h ok = h
good_all devices d plans (p ∷ ps) h ok =
    let fits = each_fits p.program ok.0.ccws in
    let one : GoodWords p.program = record { words = few_words p.program ok.0.program; counts = λ i. (fits i).0; gives = λ i. (fits i).1 } in
    good_all devices d (plan_added d plans p) ps
    (good_if (p.device == d) plans (with_program plans p.path p.program) h
    (λ j. good_set plans (p.path - 1) j (plan_of plans p.path ++ p.program ∷ []) (good_more (plan_of plans p.path) p.program (h (p.path - 1)) one) (h j)))
    ok.1

good_none : AllGood no_plans
good_none = grind (arith, no_words)

pub planned_words : (devices : List DeviceLine) (programs : List PlannedProgram) (d : ℕ) → Each (ProgramOk devices) programs → (path ordinal : ℕ) →
    GoodWords (program_of (plans_of programs d) path ordinal)
planned_words devices programs d ok path ordinal = good_all devices d no_plans programs good_none ok (path - 1) (ordinal - 1)

-- The word of the next command

module _ (ccws : List Ccw) (good : GoodWords ccws) where
  -- no word behind the last one is chained
  among : (l : List Ccw) (i : ℕ) → is_chained (ccw_at l i) ≡ true → i < length l
  among [] i is = absurd (cc)
  among (c ∷ l) zero is = omega arith
  among (c ∷ l) (suc i) is = let less = among l i is in omega (arith, less)

  goes_small : (i : ℕ) (o : Outcome) (j : ℕ) → goes_to ccws i o ≡ Some j → j < 65536
  goes_small i o j x4 = grind (arith, among)

  module _ (path : ℕ) (acts : List Acted) (state : PlainState) where
    more_small : (p : Part) (n : Option ℕ) → p.next ≡ n → (j : ℕ) → (one_more path ccws acts p).next ≡ Some j → j < 65536
    more_small p (Some i) is j some =
        goes_small i (effect_on p.fixed p.state path p.stance (ccw_at ccws i)).outcome j (sym (more_next path ccws acts p i is) ∙ some)
    more_small p None is j some = let none : None ≡ Some j = sym (ap (λ (q : Part). q.next) (over_stays path ccws acts p is) ∙ is) ∙ some in absurd (cc)

    pub part_index : (k j : ℕ) → (part_of state path ccws acts k).next ≡ Some j → j < 65536
    unfolding part_of
    part_index zero j some =
        let first : Some 0 ≡ Some j = sym (acted_beside acts (first_part state path ccws)).next ∙ some in
        let same : 0 ≡ j = cc in
        subst (λ (n : ℕ). n < 65536) same (omega arith)
    part_index (suc k) j some = more_small (part_of state path ccws acts k) (part_of state path ccws acts k).next refl j some
