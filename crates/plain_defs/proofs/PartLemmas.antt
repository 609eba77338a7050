-- Laws of the parts of a program.
use Rattle.std.proofs.Common.{
  ◌≡◌,
  ◌≤◌,
  ◌<◌,
  ◌+◌,
  ℕ,
  zero,
  suc,
  List,
  [],
  ◌∷◌,
  ◌++◌,
  Option,
  Some,
  None,
  true,
  length,
  take,
  refl,
  arith,
  sym,
  ap,
  subst,
  ◌∙◌,
  inl,
  inr,
}
use Rattle.std.specs.Prelude.{◌⊎◌, IsSome, IfNone}
use Rattle.std.proofs.lemmas.Bool.{cases_lt}
use Rattle.std.proofs.lemmas.List.{length-append, take_all, take-append-le}
use Rattle.ckd_types.specs.declared.channel.Ccw.{Ccw}
use Rattle.ckd_types.specs.declared.channel.CommandEnd.{CommandEnd}
use Rattle.ckd_types.specs.Ccw.{ccw_at}
use Rattle.ckd_rules.specs.Ending.{Outcome}
use Rattle.ckd_rules.specs.Ends.{end_at_word, goes_to, is_over}
use Rattle.ckd_rules.proofs.Goes.{over_where_none}
use Rattle.plain_defs.specs.declared.journal.Act.{Act}
use Rattle.plain_defs.specs.declared.journal.Acted.{Acted}
use Rattle.plain_defs.specs.Effect.{effect_on}
use Rattle.plain_defs.specs.Ends.{LastIsOver}
use Rattle.plain_defs.specs.PlainState.{PlainState}
use Rattle.plain_defs.specs.Program.{Part, first_part, acts_at, with_act, with_acts, acted_at, acts_made, stepped_at, command_run, one_more, part_of}

-- the same place in the program, with the same ends
pub record IsBeside (p q : Part) : Type 0 where
  pub fixed : q.fixed ≡ p.fixed
  pub stance : q.stance ≡ p.stance
  pub next : q.next ≡ p.next
  pub ends : q.ends ≡ p.ends

with_acts_beside : (acts : List Act) (p : Part) → IsBeside p (with_acts acts p)
with_acts_beside [] p = record { fixed = refl; stance = refl; next = refl; ends = refl }
with_acts_beside (act ∷ acts) p = let rest = with_acts_beside acts (with_act p act) in
    record { fixed = rest.fixed; stance = rest.stance; next = rest.next; ends = rest.ends }

acted_at_beside : (acts : List Acted) (p : Part) (next : Option ℕ) → IsBeside p (acted_at acts p next)
acted_at_beside acts p (Some i) = with_acts_beside (acts_at acts (length p.ends)) p
acted_at_beside acts p None = record { fixed = refl; stance = refl; next = refl; ends = refl }

-- acts change neither the place nor the ends
pub acted_beside : (acts : List Acted) (p : Part) → IsBeside p (acts_made acts p)
acted_beside acts p = acted_at_beside acts p p.next

-- no act stands there
pub acted_nothing : (acts : List Acted) (p : Part) → acts_at acts (length p.ends) ≡ [] → acts_made acts p ≡ p
acted_nothing acts p none = by_next p.next where
  by_next : (next : Option ℕ) → acted_at acts p next ≡ p
  by_next (Some i) = ap (λ (l : List Act). with_acts l p) none
  by_next None = refl

module _ (path : ℕ) (ccws : List Ccw) (acts : List Acted) where
  -- a chain that is over stays as it is
  pub over_stays : (p : Part) → p.next ≡ None → one_more path ccws acts p ≡ p
  over_stays p none =
      let here : command_run path ccws p ≡ p = ap (λ (next : Option ℕ). stepped_at path ccws p next) none in
      ap (λ (q : Part). acts_made acts q) here ∙ ap (λ (next : Option ℕ). acted_at acts p next) none

  -- else there is one end more
  pub more_ends : (p : Part) (i : ℕ) → p.next ≡ Some i
      → (one_more path ccws acts p).ends ≡ p.ends ++ end_at_word i (ccw_at ccws i)
      (effect_on p.fixed p.state path p.stance (ccw_at ccws i)).outcome ∷ []
  more_ends p i is = (acted_beside acts (command_run path ccws p)).ends
      ∙ ap (λ (next : Option ℕ). (stepped_at path ccws p next).ends) is

  pub more_next : (p : Part) (i : ℕ) → p.next ≡ Some i
      → (one_more path ccws acts p).next ≡ goes_to ccws i
      (effect_on p.fixed p.state path p.stance (ccw_at ccws i)).outcome
  more_next p i is = (acted_beside acts (command_run path ccws p)).next
      ∙ ap (λ (next : Option ℕ). (stepped_at path ccws p next).next) is

  module _ (state : PlainState) where
    pub part_more : (k : ℕ) → part_of state path ccws acts (suc k)
        ≡ one_more path ccws acts (part_of state path ccws acts k)
    unfolding part_of
    part_more k = refl

    pub no_ends : (part_of state path ccws acts 0).ends ≡ []
    unfolding part_of
    no_ends = (acted_beside acts (first_part state path ccws)).ends

    pub first_next : (part_of state path ccws acts 0).next ≡ Some 0
    unfolding part_of
    first_next = (acted_beside acts (first_part state path ccws)).next

    -- so many ends, or the chain is over and there are fewer
    pub record Counts (k : ℕ) (p : Part) : Type 0 where
      pub most : length p.ends ≤ k
      pub all : IsSome p.next → length p.ends ≡ k

    counts_more : (k : ℕ) (p : Part) (next : Option ℕ) → p.next ≡ next → Counts k p
        → Counts (suc k) (one_more path ccws acts p)
    counts_more k p None is c =
        let same = over_stays p is in
        subst (λ (q : Part). Counts (suc k) q) (sym same)
        (record {
          most = omega (arith, c.most);
          all =
              λ some. absurd (subst (λ (n : Option ℕ). IsSome n → ⊥) (sym is) (λ none. (cc)) some);
        })
    counts_more k p (Some i) is c =
        let e = end_at_word i (ccw_at ccws i) (effect_on p.fixed p.state path p.stance (ccw_at ccws i)).outcome in
        let many : length (one_more path ccws acts p).ends ≡ length p.ends + 1 =
        ap length (more_ends p i is) ∙ length-append p.ends (e ∷ []) in
        let before : length p.ends ≡ k = c.all (subst (λ (n : Option ℕ). IsSome n) (sym is) refl) in
        record { most = omega (arith, many, before); all = λ some. omega (arith, many, before) }

    pub part_counts : (k : ℕ) → Counts k (part_of state path ccws acts k)
    part_counts zero = let none : length (part_of state path ccws acts 0).ends ≡ 0 =
        ap length no_ends in record { most = omega (arith, none); all = λ some. none }
    part_counts (suc k) = subst (λ (q : Part). Counts (suc k) q) (sym (part_more k))
        (counts_more k (part_of state path ccws acts k) (part_of state path ccws acts k).next refl (part_counts k))

    front_more : (k n : ℕ) → k ≤ n → (next : Option ℕ) → (part_of state path ccws acts n).next ≡ next
        → take k (part_of state path ccws acts (suc n)).ends ≡ take k (part_of state path ccws acts n).ends
    front_more k n le None is = ap (λ (q : Part). take k q.ends)
        (part_more n ∙ over_stays (part_of state path ccws acts n) is)
    front_more k n le (Some i) is =
        let p = part_of state path ccws acts n in
        let e = end_at_word i (ccw_at ccws i) (effect_on p.fixed p.state path p.stance (ccw_at ccws i)).outcome in
        let many : length p.ends ≡ n = (part_counts n).all (subst (λ (x : Option ℕ). IsSome x) (sym is) refl) in
        ap (λ (q : Part). take k q.ends) (part_more n) ∙ ap (λ (l : List CommandEnd). take k l) (more_ends p i is)
        ∙ take-append-le k p.ends (e ∷ []) (omega (arith, many, le))

    -- the ends of the first k commands are the first k ends
    pub part_front : (k n : ℕ) → k ≤ n → (part_of state path ccws acts k).ends
        ≡ take k (part_of state path ccws acts n).ends
    part_front k zero le = let none : k ≡ 0 = omega (arith, le) in
        subst (λ (j : ℕ). (part_of state path ccws acts j).ends ≡ take j (part_of state path ccws acts 0).ends)
        (sym none) no_ends
    part_front k (suc n) le = by_place (cases_lt k (suc n)) (part_front k n) where
      by_place : (k < suc n) ⊎ (suc n ≤ k) → (k ≤ n → (part_of state path ccws acts k).ends
          ≡ take k (part_of state path ccws acts n).ends)
          → (part_of state path ccws acts k).ends ≡ take k (part_of state path ccws acts (suc n)).ends
      by_place (inl below) front = front (omega (arith, below))
          ∙ sym (front_more k n (omega (arith, below)) (part_of state path ccws acts n).next refl)
      by_place (inr above) front = let same : k ≡ suc n = omega (arith, above, le) in
          ap (λ (j : ℕ). (part_of state path ccws acts j).ends) same
          ∙ sym (take_all k (part_of state path ccws acts (suc n)).ends
          (omega (arith, same, (part_counts (suc n)).most)))

    -- a chain that is over behind some commands is so behind more
    pub over_later : (k n : ℕ) → (part_of state path ccws acts k).next ≡ None
        → part_of state path ccws acts (n + k) ≡ part_of state path ccws acts k
    over_later k zero none = let same : 0 + k ≡ k = omega arith in ap (λ (n : ℕ). part_of state path ccws acts n) same
    over_later k (suc n) none =
        let same : suc n + k ≡ suc (n + k) = omega arith in
        ap (λ (m : ℕ). part_of state path ccws acts m) same
        ∙ part_more (n + k)
        ∙ ap (λ (q : Part). one_more path ccws acts q) (over_later k n none)
        ∙ over_stays (part_of state path ccws acts k) none

    -- where a chain is over its last end says so
    last_behind : (ends : List CommandEnd) (e : CommandEnd) → e.over ≡ true → LastIsOver (ends ++ e ∷ [])
    last_behind [] e is = is
    last_behind (x ∷ []) e is = is
    last_behind (x ∷ y ∷ ends) e is = last_behind (y ∷ ends) e is

    none_over : (i : ℕ) (o : Outcome) → goes_to ccws i o ≡ None → is_over (ccw_at ccws i) o ≡ true
    none_over i o none = subst (λ (next : Option ℕ). IfNone next (is_over (ccw_at ccws i) o ≡ true)) none
        (over_where_none ccws i o)

    over_more : (p : Part) (next : Option ℕ) → p.next ≡ next → (p.next ≡ None → LastIsOver p.ends)
        → (one_more path ccws acts p).next ≡ None → LastIsOver (one_more path ccws acts p).ends
    over_more p None is earlier none = subst (λ (q : Part). LastIsOver q.ends) (sym (over_stays p is)) (earlier is)
    over_more p (Some i) is earlier none =
        let o = (effect_on p.fixed p.state path p.stance (ccw_at ccws i)).outcome in
        subst LastIsOver (sym (more_ends p i is)) (last_behind p.ends (end_at_word i (ccw_at ccws i) o)
        (none_over i o (sym (more_next p i is) ∙ none)))

    pub part_over : (k : ℕ) → (part_of state path ccws acts k).next ≡ None
        → LastIsOver (part_of state path ccws acts k).ends
    part_over zero none = absurd (let is : Some 0 ≡ None = sym first_next ∙ none in cc)
    part_over (suc k) none =
        subst (λ (q : Part). LastIsOver q.ends) (sym (part_more k))
        (over_more (part_of state path ccws acts k) (part_of state path ccws acts k).next refl (part_over k)
        (ap (λ (q : Part). q.next) (sym (part_more k)) ∙ none))
