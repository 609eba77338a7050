-- The acts between two commands.
use Rattle.std.proofs.Common.{◌≡◌, ◌<◌, ◌==◌, ◌+◌, ◌∙◌, ◌++◌, ◌∷◌, [], ℕ, true, false, List, length, take, get_or, sym, ap, subst}
use Rattle.std.specs.Prelude.{All}
use Rattle.std.proofs.lemmas.List.{take_more}
use Rattle.std.proofs.lemmas.List.Elements.{All-get_or}
use Rattle.plain_defs.specs.declared.journal.Acted.{Acted}
use Rattle.plain_defs.specs.Loose.{act_done}
use Rattle.plain_defs.specs.PlainState.{PlainState}
use Rattle.plain_defs.specs.Program.{acts_at, acts_done}
use Rattle.plain_defs.proofs.ActLists.{acts_elsewhere, acts_here, done_one_more}
use Rattle.plain_device.specs.Volume.{IsActOn}

pub act_is_on : (acts : List Acted) (i : ℕ) (a : Acted) (tracks : ℕ) → i < length acts → a ≡ get_or acts i a
    → All (λ (x : Acted). IsActOn tracks x.act) acts → IsActOn tracks a.act
act_is_on acts i a tracks inside is all = subst (λ (x : Acted). IsActOn tracks x.act) (sym is)
    (All-get_or (λ (x : Acted). IsActOn tracks x.act) acts i a inside all)

module _ (acts : List Acted) (i n : ℕ) (a : Acted) (start now : PlainState)
    (inside : i < length acts) (is : a ≡ get_or acts i a)
    (before : now ≡ acts_done start (acts_at (take i acts) n)) where
  more : take (i + 1) acts ≡ take i acts ++ a ∷ []
  more = take_more acts i a inside ∙ ap (λ (x : Acted). take i acts ++ x ∷ []) (sym is)

  -- one of the acts is done, or passed over
  pub front_yes : (a.after == n) ≡ true → act_done now a.act ≡ acts_done start (acts_at (take (i + 1) acts) n)
  front_yes e =
      ap (λ (s : PlainState). act_done s a.act) before
      ∙ sym (done_one_more (acts_at (take i acts) n) a.act start)
      ∙ ap (acts_done start) (sym (ap (λ (z : List Acted). acts_at z n) more ∙ acts_here (take i acts) a n e))

  pub front_no : (a.after == n) ≡ false → now ≡ acts_done start (acts_at (take (i + 1) acts) n)
  front_no e = before ∙ ap (acts_done start) (sym (ap (λ (z : List Acted). acts_at z n) more ∙ acts_elsewhere (take i acts) a n e))
