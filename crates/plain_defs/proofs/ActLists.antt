-- Acts of a program behind so many of its ends, as one stands behind others.
use Rattle.std.proofs.Common.{◌≡◌, ◌==◌, ◌++◌, ◌∷◌, [], ℕ, Bool, true, false, List, cond, refl, ap, ◌∙◌}
use Rattle.plain_defs.specs.declared.journal.Act.{Act}
use Rattle.plain_defs.specs.declared.journal.Acted.{Acted}
use Rattle.plain_defs.specs.Loose.{act_done}
use Rattle.plain_defs.specs.PlainState.{PlainState}
use Rattle.plain_defs.specs.Program.{Part, acts_at, acts_done, with_act, with_acts}

pub acts_elsewhere : (acts : List Acted) (a : Acted) (n : ℕ) → (a.after == n) ≡ false → acts_at (acts ++ a ∷ []) n ≡ acts_at acts n
acts_elsewhere [] a n other = ap (λ (b : Bool). cond b (a.act ∷ []) []) other
acts_elsewhere (x ∷ acts) a n other = ap (λ (l : List Act). cond (x.after == n) (x.act ∷ l) l) (acts_elsewhere acts a n other)

cond_front : (b : Bool) (x : Act) (xs ys : List Act) → cond b (x ∷ (xs ++ ys)) (xs ++ ys) ≡ cond b (x ∷ xs) xs ++ ys
cond_front true x xs ys = refl
cond_front false x xs ys = refl

pub acts_here : (acts : List Acted) (a : Acted) (n : ℕ) → (a.after == n) ≡ true
    → acts_at (acts ++ a ∷ []) n ≡ acts_at acts n ++ a.act ∷ []
acts_here [] a n here = ap (λ (b : Bool). cond b (a.act ∷ []) []) here
acts_here (x ∷ acts) a n here =
    ap (λ (l : List Act). cond (x.after == n) (x.act ∷ l) l) (acts_here acts a n here)
    ∙ cond_front (x.after == n) x.act (acts_at acts n) (a.act ∷ [])

pub with_acts_one : (acts : List Act) (act : Act) (p : Part) → with_acts (acts ++ act ∷ []) p ≡ with_act (with_acts acts p) act
with_acts_one [] act p = refl
with_acts_one (x ∷ acts) act p = with_acts_one acts act (with_act p x)

pub done_one_more : (acts : List Act) (act : Act) (s : PlainState) → acts_done s (acts ++ act ∷ []) ≡ act_done (acts_done s acts) act
done_one_more [] act s = refl
done_one_more (x ∷ acts) act s = done_one_more acts act (act_done s x)
