-- An act behind the ends that a running program has so far.
use Rattle.std.proofs.Common.{◌≡◌, ◌≤◌, ◌<◌, ◌+◌, ◌==◌, ℕ, zero, suc, List, [], ◌∷◌, ◌++◌, Option, Some}
use Rattle.std.proofs.Common.{None, Bool, false, length, cond, refl, arith, sym, ap, ◌∙◌}
use Rattle.std.proofs.lemmas.Bool.{ne_eqb, eq-eqb}
use Rattle.ckd_types.specs.declared.channel.Ccw.{Ccw}
use Rattle.plain_defs.specs.declared.journal.Act.{Act}
use Rattle.plain_defs.specs.declared.journal.Acted.{Acted}
use Rattle.plain_defs.specs.Legal.{AreInOrder, bare_part}
use Rattle.plain_defs.specs.PlainState.{PlainState}
use Rattle.plain_defs.specs.Program.{Part, first_part, acts_at, with_act, with_acts, acted_at, acts_made, command_run, part_of}
use Rattle.plain_defs.proofs.ActLists.{acts_elsewhere, acts_here, with_acts_one}
use Rattle.plain_defs.proofs.PartLemmas.{acted_beside, part_counts}

-- no act stands behind the last one
pub no_acts : (from stop n : ℕ) (acts : List Acted) → AreInOrder from stop acts → stop ≤ n → acts_at acts n ≡ []
no_acts from stop n [] order le = refl
no_acts from stop n (a ∷ acts) order le =
    let other : (a.after == n) ≡ false = ne_eqb a.after n (omega (arith, order.1, le)) in
    ap (λ (b : Bool). cond b (a.act ∷ acts_at acts n) (acts_at acts n)) other ∙ no_acts a.after stop n acts order.2 le

pub order_on : (from stop later : ℕ) (acts : List Acted) → AreInOrder from stop acts → stop ≤ later → AreInOrder from later acts
order_on from stop later [] order le = tt
order_on from stop later (a ∷ acts) order le = (
  order.0,
  omega (arith, order.1, le),
  order_on a.after stop later acts order.2 le,
)

-- one behind all the others
pub order_more : (from n : ℕ) (acts : List Acted) (act : Act) → AreInOrder from (n + 1) acts → from ≤ n
    → AreInOrder from (n + 1) (acts ++ record { after = n; act = act } ∷ [])
order_more from n [] act order le = (le, omega arith, tt)
order_more from n (x ∷ acts) act order le = (order.0, order.1, order_more x.after n acts act order.2 (omega (arith, order.1)))

module _ (path : ℕ) (ccws : List Ccw) where
  acted_same : (acts more : List Acted) (p : Part) → acts_at more (length p.ends) ≡ acts_at acts (length p.ends)
      → acts_made more p ≡ acts_made acts p
  acted_same acts more p same = by_next p.next where
    by_next : (next : Option ℕ) → acted_at more p next ≡ acted_at acts p next
    by_next (Some i) = ap (λ (l : List Act). with_acts l p) same
    by_next None = refl

  module _ (state : PlainState) where
    part_is_acted : (acts : List Acted) (k : ℕ) → part_of state path ccws acts k ≡ acts_made acts (bare_part state path ccws acts k)
    unfolding part_of
    part_is_acted acts zero = refl
    part_is_acted acts (suc k) = refl

    -- nothing changes before it
    part_before : (acts : List Acted) (a : Acted) (k : ℕ) → k < a.after
        → part_of state path ccws (acts ++ a ∷ []) k ≡ part_of state path ccws acts k
    unfolding part_of
    part_before acts a zero lt =
        acted_same acts (acts ++ a ∷ []) (first_part state path ccws) (acts_elsewhere acts a 0 (ne_eqb a.after 0 (omega (arith, lt))))
    part_before acts a (suc k) lt =
        let q = command_run path ccws (part_of state path ccws acts k) in
        let many : length q.ends ≡ length (part_of state path ccws acts (suc k)).ends =
        ap length (sym (acted_beside acts q).ends) in
        let most = (part_counts path ccws acts state (suc k)).most in
        ap (λ (p : Part). acts_made (acts ++ a ∷ []) (command_run path ccws p)) (part_before acts a k (omega (arith, lt)))
        ∙ acted_same acts (acts ++ a ∷ []) q (acts_elsewhere acts a (length q.ends)
        (ne_eqb a.after (length q.ends) (omega (arith, lt, many, most))))

    bare_before : (acts : List Acted) (a : Acted) (k : ℕ) → k ≤ a.after
        → bare_part state path ccws (acts ++ a ∷ []) k ≡ bare_part state path ccws acts k
    bare_before acts a zero le = refl
    bare_before acts a (suc k) le = ap (λ (p : Part). command_run path ccws p) (part_before acts a k (omega (arith, le)))

    module _ (acts : List Acted) (n i : ℕ) (many : length (part_of state path ccws acts n).ends ≡ n)
        (runs : (part_of state path ccws acts n).next ≡ Some i) where
      bare_ends : length (bare_part state path ccws acts n).ends ≡ n
      bare_ends =
          ap length (sym (acted_beside acts (bare_part state path ccws acts n)).ends)
          ∙ ap (λ (p : Part). length p.ends) (sym (part_is_acted acts n)) ∙ many

      bare_next : (bare_part state path ccws acts n).next ≡ Some i
      bare_next = sym (ap (λ (p : Part). p.next) (part_is_acted acts n) ∙ (acted_beside acts (bare_part state path ccws acts n)).next)
          ∙ runs

      bare_acted : (more : List Acted) → acts_made more (bare_part state path ccws acts n)
          ≡ with_acts (acts_at more n) (bare_part state path ccws acts n)
      bare_acted more =
          ap (λ (x : Option ℕ). acted_at more (bare_part state path ccws acts n) x) bare_next
          ∙ ap (λ (k : ℕ). with_acts (acts_at more k) (bare_part state path ccws acts n)) bare_ends

      -- behind it the act is done
      pub part_here : (act : Act) → part_of state path ccws (acts ++ record { after = n; act = act } ∷ []) n
          ≡ with_act (part_of state path ccws acts n) act
      part_here act =
          let a : Acted = record { after = n; act = act } in
          part_is_acted (acts ++ a ∷ []) n
          ∙ ap (λ (p : Part). acts_made (acts ++ a ∷ []) p) (bare_before acts a n (omega arith))
          ∙ bare_acted (acts ++ a ∷ [])
          ∙ ap (λ (l : List Act). with_acts l (bare_part state path ccws acts n)) (acts_here acts a n (eq-eqb n n refl))
          ∙ with_acts_one (acts_at acts n) act (bare_part state path ccws acts n)
          ∙ ap (λ (p : Part). with_act p act) (sym (part_is_acted acts n ∙ bare_acted acts))
