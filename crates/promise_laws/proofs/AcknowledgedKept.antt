-- The edits that a plain history acknowledged are among those that took effect on its firm volume.
use Rattle.std.proofs.Common.{
  ◌≡◌,
  ◌<◌,
  ◌≤◌,
  ◌+◌,
  ◌==◌,
  ℕ,
  suc,
  Bool,
  true,
  false,
  List,
  [],
  ◌∷◌,
  ◌++◌,
  length,
  Option,
  Some,
  None,
  refl,
  sym,
  ap,
  subst,
  ◌∙◌,
  arith,
  ◌⊎◌,
  inl,
  inr,
}
use Rattle.std.specs.Prelude.{◌||◌, IsSome}
use Rattle.std.proofs.lemmas.Bool.{cases_lt}
use Rattle.std.proofs.lemmas.List.{append-nil, length-append}
use Rattle.ckd_types.specs.declared.channel.Ccw.{Ccw}
use Rattle.ckd_types.specs.Ccw.{ccw_at}
use Rattle.ckd_rules.specs.Ends.{end_at_word}
use Rattle.ckd_rules.specs.Walk.{TrackEdit}
use Rattle.plain_defs.specs.declared.journal.Acted.{Acted}
use Rattle.plain_defs.specs.declared.journal.How.{How}
use Rattle.plain_defs.specs.declared.journal.How.TheVariants.{Full, Cut, Checked}
use Rattle.plain_defs.specs.declared.journal.Item.{Item}
use Rattle.plain_defs.specs.declared.journal.Item.TheVariants as items
use Rattle.plain_defs.specs.Acknowledged.{EditTold, told_by_edit, becomes_firm, acknowledged_of, acknowledged_if}
use Rattle.plain_defs.specs.Acknowledged.EditTold.{Edited, Hardened, Lost}
use Rattle.plain_defs.specs.Effect.{effect_on}
use Rattle.plain_defs.specs.Entry.{ProgramEntry}
use Rattle.plain_defs.specs.History.{History, IsPlain}
use Rattle.plain_defs.specs.Journal.{Plans, program_of, entry_part, effects_of, told_of, replay, replay_item, item_told}
use Rattle.plain_defs.specs.Legal.{AreInOrder, acts_stop, EndsCut, HasEnds, IsLegalFrom}
use Rattle.plain_defs.specs.PlainState.{PlainState}
use Rattle.plain_defs.specs.Program.{Part, acts_at, ended_with, stepped_at, command_run, part_of}
use Rattle.plain_defs.proofs.PartLemmas.{acted_nothing, part_more}
use Rattle.device_laws.proofs.OpenProgram.{no_acts}
use Rattle.promise_laws.specs.Kept.{item_done, told_since, running_told, history_told, Among, none, one, another}

-- the others are these with some edits more
data Adds : List EditTold → List EditTold → Type 0 where
  adds_none : Adds [] []
  adds_same : (x : EditTold) (xs ys : List EditTold) → Adds xs ys → Adds (x ∷ xs) (x ∷ ys)
  adds_edit : (loose : Bool) (e : TrackEdit) (xs ys : List EditTold) → Adds xs ys → Adds xs (Edited loose e ∷ ys)

adds_own : (xs : List EditTold) → Adds xs xs
adds_own [] = adds_none
adds_own (x ∷ xs) = adds_same x xs xs (adds_own xs)

adds_on : (xs ys vs ws : List EditTold) → Adds xs ys → Adds vs ws → Adds (xs ++ vs) (ys ++ ws)
adds_on _ _ vs ws adds_none g = g
adds_on _ _ vs ws (adds_same x xs ys f) g = adds_same x (xs ++ vs) (ys ++ ws) (adds_on xs ys vs ws f g)
adds_on _ _ vs ws (adds_edit loose e xs ys f) g = adds_edit loose e (xs ++ vs) (ys ++ ws) (adds_on xs ys vs ws f g)

adds_last : (xs : List EditTold) (state : PlainState) (e : Option TrackEdit) → Adds xs (xs ++ told_by_edit state e)
adds_last xs state None = subst (Adds xs) (sym (append-nil xs)) (adds_own xs)
adds_last xs state (Some e) =
    subst (λ (l : List EditTold). Adds l (xs ++ told_by_edit state (Some e))) (append-nil xs)
    (adds_on xs xs [] (told_by_edit state (Some e)) (adds_own xs) (adds_edit _ e [] [] adds_none))

-- An edit makes no track firm

firm_by : (x : EditTold) (t : ℕ) (xs ys : List EditTold) → becomes_firm t xs ≡ becomes_firm t ys → becomes_firm t (x ∷ xs) ≡ becomes_firm t (x ∷ ys)
firm_by (Edited loose e) t xs ys same = same
firm_by (Hardened u) t xs ys same = ap (λ (b : Bool). (u == t) || b) same
firm_by Lost t xs ys same = refl

firm_same : (t : ℕ) (xs ys : List EditTold) → Adds xs ys → becomes_firm t xs ≡ becomes_firm t ys
firm_same t _ _ adds_none = refl
firm_same t _ _ (adds_same x xs ys f) = firm_by x t xs ys (firm_same t xs ys f)
firm_same t _ _ (adds_edit loose e xs ys f) = firm_same t xs ys f

among_if : (b : Bool) (e : TrackEdit) (es fs : List TrackEdit) → Among es fs → Among (acknowledged_if b e es) (acknowledged_if b e fs)
among_if true e es fs f = one e es fs f
among_if false e es fs f = f

among_more : (b : Bool) (e : TrackEdit) (es fs : List TrackEdit) → Among es fs → Among es (acknowledged_if b e fs)
among_more true e es fs f = another e es fs f
among_more false e es fs f = f

among_same : (x : EditTold) (xs ys : List EditTold) → Adds xs ys → Among (acknowledged_of xs) (acknowledged_of ys) →
    Among (acknowledged_of (x ∷ xs)) (acknowledged_of (x ∷ ys))
among_same (Edited true e) xs ys f g =
    subst (λ (b : Bool). Among (acknowledged_if (becomes_firm e.track xs) e (acknowledged_of xs)) (acknowledged_if b e (acknowledged_of ys)))
    (firm_same e.track xs ys f) (among_if (becomes_firm e.track xs) e (acknowledged_of xs) (acknowledged_of ys) g)
among_same (Edited false e) xs ys f g = one e (acknowledged_of xs) (acknowledged_of ys) g
among_same (Hardened t) xs ys f g = g
among_same Lost xs ys f g = g

among_edit : (loose : Bool) (e : TrackEdit) (xs ys : List EditTold) → Among (acknowledged_of xs) (acknowledged_of ys) →
    Among (acknowledged_of xs) (acknowledged_of (Edited loose e ∷ ys))
among_edit true e xs ys g = among_more (becomes_firm e.track ys) e (acknowledged_of xs) (acknowledged_of ys) g
among_edit false e xs ys g = another e (acknowledged_of xs) (acknowledged_of ys) g

among_of : (xs ys : List EditTold) → Adds xs ys → Among (acknowledged_of xs) (acknowledged_of ys)
among_of _ _ adds_none = none
among_of _ _ (adds_same x xs ys f) = among_same x xs ys f (among_of xs ys f)
among_of _ _ (adds_edit loose e xs ys f) = among_edit loose e xs ys (among_of xs ys f)

-- Programs

module _ (s : PlainState) (path : ℕ) (ccws : List Ccw) (acts : List Acted) where
  -- one command more behind the last act
  one_more_told : (n : ℕ) → AreInOrder 0 (n + 1) acts → length (part_of s path ccws acts n).ends ≡ n → (next : Option ℕ) →
      (part_of s path ccws acts n).next ≡ next → IsSome next → Adds (part_of s path ccws acts n).told (part_of s path ccws acts (suc n)).told
  one_more_told n order many None is some = absurd (cc)
  one_more_told n order many (Some i) is some =
      let p = part_of s path ccws acts n in
      let e = effect_on p.fixed p.state path p.stance (ccw_at ccws i) in
      let q = ended_with ccws p i e in
      let longer : length (p.ends ++ end_at_word i (ccw_at ccws i) e.outcome ∷ []) ≡ length p.ends + 1 =
      length-append p.ends (end_at_word i (ccw_at ccws i) e.outcome ∷ []) in
      let here : command_run path ccws p ≡ q = ap (λ (x : Option ℕ). stepped_at path ccws p x) is in
      let bare = no_acts 0 (n + 1) (length q.ends) acts order (omega (arith, longer, many)) in
      let same : (part_of s path ccws acts (suc n)).told ≡ p.told ++ told_by_edit p.state e.edit =
      ap (λ (x : Part). x.told)
      (part_more path ccws acts s n
      ∙ acted_nothing acts (command_run path ccws p) (subst (λ (x : Part). acts_at acts (length x.ends) ≡ []) (sym here) bare) ∙ here) in
      subst (Adds p.told) (sym same) (adds_last p.told p.state e.edit)

module _ (plans : Plans) where
  module _ (s : PlainState) (e : ProgramEntry) where
    cut_adds : (effect : ℕ) → EndsCut (entry_part plans s e (length e.ends)) effect e.ends → AreInOrder 0 (length e.ends + 1) e.acts →
        Adds (entry_part plans s e (length e.ends)).told (entry_part plans s e effect).told
    cut_adds effect ends order = by_count (cases_lt (length e.ends) effect) where
      told_at : ℕ → List EditTold
      told_at n = (entry_part plans s e n).told

      by_count : (length e.ends < effect) ⊎ (effect ≤ length e.ends) → Adds (told_at (length e.ends)) (told_at effect)
      by_count (inl more) =
          let most = ends.most in
          let count : suc (length e.ends) ≡ effect = omega (arith, more, most) in
          subst (λ (n : ℕ). Adds (told_at (length e.ends)) (told_at n)) count
          (one_more_told s e.path (program_of plans e.path e.ordinal) e.acts (length e.ends) order (sym (ap length ends.ends_are))
          (entry_part plans s e (length e.ends)).next refl ends.ran_on)
      by_count (inr few) =
          let least = ends.least in
          let count : length e.ends ≡ effect = omega (arith, few, least) in
          subst (λ (n : ℕ). Adds (told_at (length e.ends)) (told_at n)) count (adds_own (told_at (length e.ends)))

    entry_adds : (how : How) → HasEnds plans s e how → AreInOrder 0 (acts_stop how e.ends) e.acts →
        Adds (entry_part plans s e (told_of how e.ends)).told (entry_part plans s e (effects_of how e.ends)).told
    entry_adds Full ends order = adds_own (entry_part plans s e (length e.ends)).told
    entry_adds Checked ends order = adds_own (entry_part plans s e (told_of Checked e.ends)).told
    entry_adds (Cut effect) ends order = cut_adds effect ends order

  -- Journals

  items_add : (xs : List Item) (s : PlainState) (earlier : List Item) (told done : List EditTold) → IsLegalFrom plans s earlier xs → Adds told done →
      Adds (told_since (item_told plans) plans s told xs) (told_since (item_done plans) plans s done xs)
  items_add [] s earlier told done legal f = f
  items_add (items.Fresh ∷ xs) s earlier told done legal f =
      items_add xs (replay_item plans s items.Fresh) (earlier ++ items.Fresh ∷ []) [] [] legal.1 adds_none
  items_add (items.Program e ∷ xs) s earlier told done legal f =
      items_add xs (replay_item plans s (items.Program e)) (earlier ++ items.Program e ∷ []) _ _ legal.1
      (adds_on told done _ _ f (entry_adds s e e.how legal.0.0.ends legal.0.0.order))
  items_add (items.Reset path ∷ xs) s earlier told done legal f =
      items_add xs (replay_item plans s (items.Reset path)) (earlier ++ items.Reset path ∷ []) _ _ legal.1 (adds_on told done [] [] f adds_none)
  items_add (items.Act act ∷ xs) s earlier told done legal f =
      items_add xs (replay_item plans s (items.Act act)) (earlier ++ items.Act act ∷ []) _ _ legal.1
      (adds_on told done _ _ f (adds_own (item_told plans s (items.Act act))))
  items_add (items.Power ∷ xs) s earlier told done legal f =
      items_add xs (replay_item plans s items.Power) (earlier ++ items.Power ∷ []) _ _ legal.1
      (adds_on told done _ _ f (adds_own (item_told plans s items.Power)))

  pub history_among : (empty : PlainState) (h : History) → IsPlain plans empty h →
      Among (acknowledged_of (history_told (item_told plans) plans empty h)) (acknowledged_of (history_told (item_done plans) plans empty h))
  history_among empty h plain =
      let running = running_told plans (replay plans empty h.items) h.running in
      among_of (history_told (item_told plans) plans empty h) (history_told (item_done plans) plans empty h)
      (adds_on (told_since (item_told plans) plans empty [] h.items) (told_since (item_done plans) plans empty [] h.items) running running
      (items_add h.items empty [] [] [] plain.legal adds_none) (adds_own running))
