-- An act behind the ends that a running program has so far.
use Rattle.std.proofs.Common.{
  ◌≡◌,
  ◌≤◌,
  ◌<◌,
  ◌+◌,
  ◌==◌,
  ℕ,
  zero,
  suc,
  List,
  [],
  ◌∷◌,
  ◌++◌,
  Option,
  Some,
  None,
  Bool,
  false,
  length,
  cond,
  refl,
  arith,
  sym,
  ap,
  subst,
  ◌∙◌,
}
use Rattle.std.specs.Prelude.{IsSome}
use Rattle.std.proofs.lemmas.Bool.{ne_eqb, eq-eqb}
use Rattle.ckd_types.specs.declared.channel.Ccw.{Ccw}
use Rattle.plain_defs.specs.declared.journal.Act.{Act}
use Rattle.plain_defs.specs.declared.journal.Act.TheVariants.{Loosen, Harden, CfwLost}
use Rattle.plain_defs.specs.declared.journal.Acted.{Acted}
use Rattle.plain_defs.specs.declared.journal.Item.{Item}
use Rattle.plain_defs.specs.History.{OpenEntry, open_part, IsOpen}
use Rattle.plain_defs.specs.Journal.{Plans, program_of}
use Rattle.plain_defs.specs.Legal.{AreInOrder, AreActs, bare_part, IsPoint, MayStart}
use Rattle.plain_defs.specs.Loose.{act_done}
use Rattle.plain_defs.specs.PlainState.{PlainState}
use Rattle.plain_defs.specs.Program.{Part, first_part, acts_at, acts_done, with_act, with_acts, acted_at, acts_made, command_run, part_of}
use Rattle.plain_defs.proofs.ActLists.{acts_elsewhere, acts_here, with_acts_one}
use Rattle.plain_defs.proofs.PartLemmas.{acted_beside, part_counts}

-- The acts behind so many ends

pub with_acts_state : (acts : List Act) (p : Part) → (with_acts acts p).state ≡ acts_done p.state acts
with_acts_state [] p = refl
with_acts_state (x ∷ acts) p = with_acts_state acts (with_act p x)

-- where no edit was allowed any other is
pub acts_before : (s : PlainState) (edited : Option ℕ) (acts : List Act) → AreActs s None acts → AreActs s edited acts
acts_before s edited [] are = tt
acts_before s edited (Loosen t ∷ []) are = absurd (let none : None ≡ Some t = are.1 in cc)
acts_before s edited (Loosen t ∷ act ∷ acts) are = absurd are
acts_before s edited (Harden t ∷ acts) are = (are.0, acts_before (act_done s (Harden t)) edited acts are.1)
acts_before s edited (CfwLost ∷ acts) are = (are.0, acts_before (act_done s CfwLost) edited acts are.1)

-- one act more, which may be that a track becomes loose
pub acts_more : (s : PlainState) (edited : Option ℕ) (acts : List Act) (act : Act) → AreActs s None acts
    → AreActs (acts_done s acts) edited (act ∷ []) → AreActs s edited (acts ++ act ∷ [])
acts_more s edited [] act are more = more
acts_more s edited (Loosen t ∷ []) act are more = absurd (let none : None ≡ Some t = are.1 in cc)
acts_more s edited (Loosen t ∷ x ∷ acts) act are more = absurd are
acts_more s edited (Harden t ∷ acts) act are more = (are.0, acts_more (act_done s (Harden t)) edited acts act are.1 more)
acts_more s edited (CfwLost ∷ acts) act are more = (are.0, acts_more (act_done s CfwLost) edited acts act are.1 more)

-- no act stands behind the last one
pub no_acts : (from stop n : ℕ) (acts : List Acted) → AreInOrder from stop acts → stop ≤ n → acts_at acts n ≡ []
no_acts from stop n [] order le = refl
no_acts from stop n (a ∷ acts) order le =
    let other : (a.after == n) ≡ false = ne_eqb a.after n (omega (arith, order.1, le)) in
    ap (λ (b : Bool). cond b (a.act ∷ acts_at acts n) (acts_at acts n)) other ∙ no_acts a.after stop n acts order.2 le

pub order_on : (from stop later : ℕ) (acts : List Acted) → AreInOrder from stop acts → stop ≤ later → AreInOrder from later acts
order_on from stop later [] order le = tt
order_on from stop later (a ∷ acts) order le = (
  order.0,
  omega (arith, order.1, le),
  order_on a.after stop later acts order.2 le,
)

-- one behind all the others
pub order_more : (from n : ℕ) (acts : List Acted) (act : Act) → AreInOrder from (n + 1) acts → from ≤ n
    → AreInOrder from (n + 1) (acts ++ record { after = n; act = act } ∷ [])
order_more from n [] act order le = (le, omega arith, tt)
order_more from n (x ∷ acts) act order le = (order.0, order.1, order_more x.after n acts act order.2 (omega (arith, order.1)))

none_runs : (next : Option ℕ) → next ≡ None → IsSome next → ⊥
none_runs None is some = cc
none_runs (Some i) is some = cc

-- The parts of a program with an act more

module _ (path : ℕ) (ccws : List Ccw) where
  acted_same : (acts more : List Acted) (p : Part) → acts_at more (length p.ends) ≡ acts_at acts (length p.ends)
      → acts_made more p ≡ acts_made acts p
  acted_same acts more p same = by_next p.next where
    by_next : (next : Option ℕ) → acted_at more p next ≡ acted_at acts p next
    by_next (Some i) = ap (λ (l : List Act). with_acts l p) same
    by_next None = refl

  module _ (state : PlainState) where
    pub part_is_acted : (acts : List Acted) (k : ℕ) → part_of state path ccws acts k ≡ acts_made acts (bare_part state path ccws acts k)
    unfolding part_of
    part_is_acted acts zero = refl
    part_is_acted acts (suc k) = refl

    -- nothing changes before it
    pub part_before : (acts : List Acted) (a : Acted) (k : ℕ) → k < a.after
        → part_of state path ccws (acts ++ a ∷ []) k ≡ part_of state path ccws acts k
    unfolding part_of
    part_before acts a zero lt =
        acted_same acts (acts ++ a ∷ []) (first_part state path ccws) (acts_elsewhere acts a 0 (ne_eqb a.after 0 (omega (arith, lt))))
    part_before acts a (suc k) lt =
        let q = command_run path ccws (part_of state path ccws acts k) in
        let many : length q.ends ≡ length (part_of state path ccws acts (suc k)).ends =
        ap length (sym (acted_beside acts q).ends) in
        let most = (part_counts path ccws acts state (suc k)).most in
        ap (λ (p : Part). acts_made (acts ++ a ∷ []) (command_run path ccws p)) (part_before acts a k (omega (arith, lt)))
        ∙ acted_same acts (acts ++ a ∷ []) q (acts_elsewhere acts a (length q.ends)
        (ne_eqb a.after (length q.ends) (omega (arith, lt, many, most))))

    pub bare_before : (acts : List Acted) (a : Acted) (k : ℕ) → k ≤ a.after
        → bare_part state path ccws (acts ++ a ∷ []) k ≡ bare_part state path ccws acts k
    bare_before acts a zero le = refl
    bare_before acts a (suc k) le = ap (λ (p : Part). command_run path ccws p) (part_before acts a k (omega (arith, le)))

    module _ (acts : List Acted) (n : ℕ) (many : length (part_of state path ccws acts n).ends ≡ n)
        (runs : IsSome (part_of state path ccws acts n).next) where
      bare_ends : length (bare_part state path ccws acts n).ends ≡ n
      bare_ends =
          ap length (sym (acted_beside acts (bare_part state path ccws acts n)).ends)
          ∙ ap (λ (p : Part). length p.ends) (sym (part_is_acted acts n)) ∙ many

      bare_next : (bare_part state path ccws acts n).next ≡ (part_of state path ccws acts n).next
      bare_next = sym (ap (λ (p : Part). p.next) (part_is_acted acts n) ∙ (acted_beside acts (bare_part state path ccws acts n)).next)

      acted_bare : (more : List Acted) (next : Option ℕ) → (bare_part state path ccws acts n).next ≡ next → IsSome next
          → acts_made more (bare_part state path ccws acts n) ≡ with_acts (acts_at more n) (bare_part state path ccws acts n)
      acted_bare more None is some = absurd (none_runs None refl some)
      acted_bare more (Some i) is some =
          ap (λ (x : Option ℕ). acted_at more (bare_part state path ccws acts n) x) is
          ∙ ap (λ (k : ℕ). with_acts (acts_at more k) (bare_part state path ccws acts n)) bare_ends

      bare_acted : (more : List Acted) → acts_made more (bare_part state path ccws acts n)
          ≡ with_acts (acts_at more n) (bare_part state path ccws acts n)
      bare_acted more = acted_bare more (part_of state path ccws acts n).next bare_next runs

      -- behind it the act is done
      pub part_here : (act : Act) → part_of state path ccws (acts ++ record { after = n; act = act } ∷ []) n
          ≡ with_act (part_of state path ccws acts n) act
      part_here act =
          let a : Acted = record { after = n; act = act } in
          part_is_acted (acts ++ a ∷ []) n
          ∙ ap (λ (p : Part). acts_made (acts ++ a ∷ []) p) (bare_before acts a n (omega arith))
          ∙ bare_acted (acts ++ a ∷ [])
          ∙ ap (λ (l : List Act). with_acts l (bare_part state path ccws acts n)) (acts_here acts a n (eq-eqb n n refl))
          ∙ with_acts_one (acts_at acts n) act (bare_part state path ccws acts n)
          ∙ ap (λ (p : Part). with_act p act) (sym (part_is_acted acts n ∙ bare_acted acts))

      pub state_here : (part_of state path ccws acts n).state ≡ acts_done (bare_part state path ccws acts n).state (acts_at acts n)
      state_here =
          ap (λ (p : Part). p.state) (part_is_acted acts n ∙ bare_acted acts)
          ∙ with_acts_state (acts_at acts n) (bare_part state path ccws acts n)

    -- the acts before it stay as they are
    pub point_before : (acts : List Acted) (a : Acted) (k : ℕ) → k < a.after → IsPoint state path ccws acts k
        → IsPoint state path ccws (acts ++ a ∷ []) k
    point_before acts a k lt point =
        let later = acts ++ a ∷ [] in record {
          acts_are =
              rw (bare_before acts a k (omega (arith, lt))) (rw (part_before acts a k lt)
              (rw (acts_elsewhere acts a k (ne_eqb a.after k (omega (arith, lt)))) point.acts_are));
          edit_is = rw (part_before acts a k lt) point.edit_is;
        }

-- A running program that goes as on the plain device

-- behind its last end the acts are those before a command that edits such a track, or before none
pub record IsGoing (plans : Plans) (state : PlainState) (items : List Item) (o : OpenEntry) (edited : Option ℕ) : Type 0 where
  pub start : MayStart plans state items o.path o.ordinal
  pub ends : o.ends ≡ (open_part plans state o).ends
  pub runs : IsSome (open_part plans state o).next
  pub order : AreInOrder 0 (length o.ends + 1) o.acts
  pub points : (j : ℕ) → j < length o.ends → IsPoint state o.path (program_of plans o.path o.ordinal) o.acts j
  pub here : AreActs (bare_part state o.path (program_of plans o.path o.ordinal) o.acts (length o.ends)).state edited
      (acts_at o.acts (length o.ends))

abbrev pub with_one_act : OpenEntry → Act → OpenEntry
with_one_act o act = record o { acts = o.acts ++ record { after = length o.ends; act = act } ∷ [] }

module _ (plans : Plans) (state : PlainState) (items : List Item) (o : OpenEntry) where
  pub going_of_open : (edited : Option ℕ) → IsOpen plans state items o → IsGoing plans state items o edited
  going_of_open edited open_is = record {
    start = open_is.start;
    ends = open_is.ends;
    runs = open_is.runs;
    order = open_is.order;
    points = open_is.acts.points;
    here = acts_before (bare_part state o.path (program_of plans o.path o.ordinal) o.acts (length o.ends)).state edited
        (acts_at o.acts (length o.ends)) open_is.acts.last;
  }

  pub open_of_going : IsGoing plans state items o None → IsOpen plans state items o
  open_of_going going = record {
    start = going.start;
    ends = going.ends;
    runs = going.runs;
    order = going.order;
    acts = record { points = going.points; last = going.here };
  }

  module _ (going : IsGoing plans state items o None) (act : Act) where
    many : length (part_of state o.path (program_of plans o.path o.ordinal) o.acts (length o.ends)).ends ≡ length o.ends
    many = ap length (sym going.ends)

    -- the running program's part with the act
    pub part_with_act : open_part plans state (with_one_act o act) ≡ with_act (open_part plans state o) act
    part_with_act = part_here o.path (program_of plans o.path o.ordinal) state o.acts (length o.ends) many going.runs act

    pub going_with_act : (edited : Option ℕ) → AreActs (open_part plans state o).state edited (act ∷ [])
        → IsGoing plans state items (with_one_act o act) edited
    going_with_act edited may =
        let a : Acted = record { after = length o.ends; act = act } in
        let n = length o.ends in
        let bare = bare_part state o.path (program_of plans o.path o.ordinal) o.acts n in record {
          start = going.start;
          ends = going.ends ∙ ap (λ (p : Part). p.ends) (sym part_with_act);
          runs = subst (λ (p : Part). IsSome p.next) (sym part_with_act) going.runs;
          order = order_more 0 n o.acts act going.order (omega arith);
          points = λ j below. point_before o.path (program_of plans o.path o.ordinal) state o.acts a j below (going.points j below);
          here =
              rw (bare_before o.path (program_of plans o.path o.ordinal) state o.acts a n (omega arith)) (rw (acts_here o.acts a n (eq-eqb n n refl))
              (acts_more bare.state edited (acts_at o.acts n) act going.here
              (rw (← (state_here o.path (program_of plans o.path o.ordinal) state o.acts n many going.runs)) may)));
        }
