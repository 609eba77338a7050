-- What a past that a plain device could have shows of what came to it last: an end, a check, a cut, acts. The converse of what keeps a
-- past plain.
use Rattle.std.proofs.Common.{◌≡◌, ◌≤◌, ◌+◌, ◌-◌, ◌∷◌, ◌++◌, ℕ, suc, [], List, Option, Some, None, Bool, true, false, cond, length}
use Rattle.std.proofs.Common.{refl, arith, sym, ap, subst, ◌∙◌, append_assoc}
use Rattle.std.specs.Prelude.{IsSome}
use Rattle.std.proofs.lemmas.Bool.{eq-eqb}
use Rattle.std.proofs.lemmas.List.{append-nil}
use Rattle.ckd_types.specs.declared.channel.Ccw.{Ccw}
use Rattle.ckd_types.specs.declared.channel.CommandEnd.{CommandEnd}
use Rattle.ckd_types.specs.Ccw.{ccw_at}
use Rattle.ckd_rules.specs.Ends.{end_at_word}
use Rattle.plain_defs.specs.declared.journal.Act.{Act}
use Rattle.plain_defs.specs.declared.journal.Act.TheVariants.{Loosen, Harden, CfwLost}
use Rattle.plain_defs.specs.declared.journal.Acted.{Acted}
use Rattle.plain_defs.specs.declared.journal.How.{How}
use Rattle.plain_defs.specs.declared.journal.How.TheVariants.{Full, Cut, Checked}
use Rattle.plain_defs.specs.declared.journal.Item.{Item}
use Rattle.plain_defs.specs.declared.journal.Item.TheVariants as items
use Rattle.plain_defs.specs.Effect.{effect_on}
use Rattle.plain_defs.specs.History.{OpenEntry, History, checked, closed, ended, entry_of, open_part, resets_of, with_end, IsPlain}
use Rattle.plain_defs.specs.Journal.{Plans, program_of, replay, replay_item}
use Rattle.plain_defs.specs.Legal.{AreActs, EndsChecked, HasActs, IsCheck, IsLegal, IsLegalEntry, IsLegalFrom, IsLegalItem, MayEdit}
use Rattle.plain_defs.specs.Legal.{bare_part, next_edit}
use Rattle.plain_defs.specs.Loose.{act_done}
use Rattle.plain_defs.specs.PlainState.{PlainState}
use Rattle.plain_defs.specs.Program.{Part, acts_at, acts_done, part_of, with_act}
use Rattle.plain_defs.proofs.ActLists.{acts_here}
use Rattle.plain_defs.proofs.PartLemmas.{more_ends, part_more}
use Rattle.audit_laws.specs.Shown.{NoLoss, all_acted}
use Rattle.device_laws.proofs.HistoryEnds.{one_longer}
use Rattle.device_laws.proofs.OpenProgram.{bare_before, part_here, state_here, with_one_act}

-- An item of a legal journal is legal where it stands
pub item_at : (plans : Plans) (s : PlainState) (earlier xs : List Item) (y : Item) (ys : List Item) → IsLegalFrom plans s earlier (xs ++ y ∷ ys)
    → IsLegalItem plans (replay plans s xs) (earlier ++ xs) y ys
item_at plans s earlier [] y ys legal = subst (λ (l : List Item). IsLegalItem plans s l y ys) (sym (append-nil earlier)) legal.0
item_at plans s earlier (x ∷ xs) y ys legal = grind (arith, item_at plans (replay_item plans s x) (earlier ++ x ∷ []) xs y ys legal.1, append_assoc)

-- Lists of acts

-- acts that stand behind so many ends
abbrev pub stood : ℕ → List Act → List Acted
stood n [] = []
stood n (act ∷ acts) = record { after = n; act = act } ∷ stood n acts

pub acts_with : (acts : List Act) (xs : List Acted) (n : ℕ) → acts_at (xs ++ stood n acts) n ≡ acts_at xs n ++ acts
acts_with [] xs n = ap (λ (l : List Acted). acts_at l n) (append-nil xs) ∙ sym (append-nil (acts_at xs n))
acts_with (x ∷ acts) xs n =
    let a : Acted = record { after = n; act = x } in
    ap (λ (l : List Acted). acts_at l n) (sym (append_assoc xs (a ∷ []) (stood n acts)))
    ∙ acts_with acts (xs ++ a ∷ []) n
    ∙ ap (λ (l : List Act). l ++ acts) (acts_here xs a n (eq-eqb n n refl))
    ∙ append_assoc (acts_at xs n) (x ∷ []) acts

-- the later ones of acts that may come
pub acts_rest : (s : PlainState) (edited : Option ℕ) (xs : List Act) (y : Act) (ys : List Act) → AreActs s edited (xs ++ y ∷ ys)
    → AreActs (acts_done s xs) edited (y ∷ ys)
acts_rest s edited [] y ys are = are
acts_rest s edited (Loosen t ∷ []) y ys are = absurd are
acts_rest s edited (Loosen t ∷ x ∷ xs) y ys are = absurd are
acts_rest s edited (Harden t ∷ xs) y ys are = acts_rest (act_done s (Harden t)) edited xs y ys are.1
acts_rest s edited (CfwLost ∷ xs) y ys are = acts_rest (act_done s CfwLost) edited xs y ys are.1

last_same : (xs : List CommandEnd) (x y : CommandEnd) → xs ++ x ∷ [] ≡ xs ++ y ∷ [] → x ≡ y
last_same [] x y is = cc
last_same (z ∷ xs) x y is = last_same xs x y (cc)

-- A program that runs, with acts behind its last end

abbrev pub with_more : OpenEntry → List Act → OpenEntry
with_more o acts = record o { acts = o.acts ++ stood (length o.ends) acts }

abbrev with_list : OpenEntry → List Acted → OpenEntry
with_list o acts = record o { acts = acts }

module _ (plans : Plans) (s : PlainState) where
  abbrev words : OpenEntry → List Ccw
  words o = program_of plans o.path o.ordinal

  -- its ends are the plain device's, and it isn't over
  pub record Goes (o : OpenEntry) : Type 0 where
    pub ends : o.ends ≡ (open_part plans s o).ends
    pub runs : IsSome (open_part plans s o).next

  pub part_acted : (o : OpenEntry) → Goes o → (act : Act) → open_part plans s (with_one_act o act) ≡ with_act (open_part plans s o) act
  part_acted o goes act = part_here o.path (program_of plans o.path o.ordinal) s o.acts (length o.ends) (ap length (sym goes.ends)) goes.runs act

  goes_on : (o : OpenEntry) → Goes o → (act : Act) → Goes (with_one_act o act)
  goes_on o goes act = grind (arith, part_acted)

  pub goes_with : (acts : List Act) (o : OpenEntry) → Goes o → Goes (with_more o acts)
  goes_with [] o goes = subst (λ (l : List Acted). Goes (with_list o l)) (sym (append-nil o.acts)) goes
  goes_with (x ∷ acts) o goes = grind (arith, goes_with acts (with_one_act o x) (goes_on o goes x), append_assoc, goes_on)

  -- What acts behind its last end are

  bare_with : (path : ℕ) (ccws : List Ccw) (acts : List Act) (xs : List Acted) (n : ℕ)
      → bare_part s path ccws (xs ++ stood n acts) n ≡ bare_part s path ccws xs n
  bare_with path ccws [] xs n = ap (λ (l : List Acted). bare_part s path ccws l n) (append-nil xs)
  bare_with path ccws (x ∷ acts) xs n =
      let a : Acted = record { after = n; act = x } in
      ap (λ (l : List Acted). bare_part s path ccws l n) (sym (append_assoc xs (a ∷ []) (stood n acts)))
      ∙ bare_with path ccws acts (xs ++ a ∷ []) n
      ∙ bare_before path ccws s xs a n (omega arith)

  pub first_act : (o : OpenEntry) → Goes o → (edited : Option ℕ) (act : Act) (acts : List Act)
      → AreActs (bare_part s o.path (words o) (with_more o (act ∷ acts)).acts (length o.ends)).state edited
      (acts_at (with_more o (act ∷ acts)).acts (length o.ends)) → AreActs (open_part plans s o).state edited (act ∷ acts)
  first_act o goes edited act acts are =
      let n = length o.ends in
      subst (λ (z : PlainState). AreActs z edited (act ∷ acts))
      (sym (state_here o.path (words o) s o.acts n (ap length (sym goes.ends)) goes.runs))
      (acts_rest (bare_part s o.path (words o) o.acts n).state edited (acts_at o.acts n) act acts
      (subst (λ (l : List Act). AreActs (bare_part s o.path (words o) o.acts n).state edited l) (acts_with (act ∷ acts) o.acts n)
      (subst (λ (p : Part). AreActs p.state edited (acts_at (with_more o (act ∷ acts)).acts n))
      (bare_with o.path (words o) (act ∷ acts) o.acts n) are)))

  -- Its next command's end

  pub record EndsSo (o : OpenEntry) (e : CommandEnd) : Type 0 where
    pub word : ℕ
    pub next : (open_part plans s o).next ≡ Some word
    pub is : e ≡ end_at_word word (ccw_at (words o) word)
        (effect_on (open_part plans s o).fixed (open_part plans s o).state o.path (open_part plans s o).stance (ccw_at (words o) word)).outcome

  module _ (o : OpenEntry) (goes : Goes o) (e : CommandEnd) where
    firmer : (t : ℕ) → EndsSo (with_one_act o (Harden t)) e → EndsSo o e
    firmer t so = grind (arith, part_acted)

    looser : (t : ℕ) → EndsSo (with_one_act o (Loosen t)) e → EndsSo o e
    looser t so = grind (arith, part_acted)

  -- tracks that become firm or loose before it don't change it
  pub end_before : (acts : List Act) → NoLoss acts → (o : OpenEntry) → Goes o → (e : CommandEnd) → EndsSo (with_more o acts) e → EndsSo o e
  end_before [] none o goes e so = subst (λ (l : List Acted). EndsSo (with_list o l) e) (append-nil o.acts) so
  end_before (Harden t ∷ acts) none o goes e so =
      firmer o goes e t (end_before acts none (with_one_act o (Harden t)) (goes_on o goes (Harden t)) e
      (subst (λ (l : List Acted). EndsSo (with_list o l) e)
      (sym (append_assoc o.acts (record { after = length o.ends; act = Harden t } ∷ []) (stood (length o.ends) acts))) so))
  end_before (Loosen t ∷ acts) none o goes e so =
      looser o goes e t (end_before acts none (with_one_act o (Loosen t)) (goes_on o goes (Loosen t)) e
      (subst (λ (l : List Acted). EndsSo (with_list o l) e)
      (sym (append_assoc o.acts (record { after = length o.ends; act = Loosen t } ∷ []) (stood (length o.ends) acts))) so))
  end_before (CfwLost ∷ acts) none o goes e so = absurd none

  pub next_before : (acts : List Act) (o : OpenEntry) → Goes o → (open_part plans s (with_more o acts)).next ≡ (open_part plans s o).next
  next_before [] o goes = ap (λ (l : List Acted). (open_part plans s (with_list o l)).next) (append-nil o.acts)
  next_before (x ∷ acts) o goes = grind (arith, next_before acts (with_one_act o x) (goes_on o goes x), append_assoc, goes_on, part_acted)

  -- it is told, and took effect
  pub record TookEffect (o : OpenEntry) (e : CommandEnd) : Type 0 where
    pub ends : o.ends ++ e ∷ [] ≡ (part_of s o.path (words o) o.acts (suc (length o.ends))).ends
    pub acts : HasActs s o.path (words o) o.acts (suc (length o.ends))

  -- it is told, and is a check
  pub record WasChecked (o : OpenEntry) (e : CommandEnd) : Type 0 where
    pub ends : EndsChecked (open_part plans s o) (words o) (o.ends ++ e ∷ [])
    pub acts : HasActs s o.path (words o) o.acts (length o.ends)

  -- it was cut when so many took effect
  pub record WasCut (o : OpenEntry) (k : ℕ) : Type 0 where
    pub least : length o.ends ≤ k
    pub most : k ≤ length o.ends + 1
    pub acts : HasActs s o.path (words o) o.acts k

  module _ (o : OpenEntry) (goes : Goes o) (e : CommandEnd) where
    end_by : TookEffect o e → (next : Option ℕ) → (open_part plans s o).next ≡ next → IsSome next → EndsSo o e
    end_by took None is some = absurd (cc)
    end_by took (Some i) is some = grind (arith, last_same, part_more, more_ends)

    pub ends_so : TookEffect o e → EndsSo o e
    ends_so took = end_by took (open_part plans s o).next refl goes.runs

    pub checks_so : WasChecked o e → ((open_part plans s o).next ≡ Some e.index) × IsCheck (words o) e
    checks_so was = grind (arith, last_same)

  pub edits_so : (o : OpenEntry) (e : CommandEnd) → TookEffect o e
      → MayEdit (open_part plans s o).state (open_part plans s o).stance (next_edit o.path (words o) (open_part plans s o))
  edits_so o e took = (took.acts.points (length o.ends) (omega arith)).edit_is

-- What a legal journal says of it

-- a past in which a program runs
abbrev pub run : List Item → List ℕ → OpenEntry → History
run xs waiting o = record { items = xs; running = Some o; waiting = waiting }

module _ (plans : Plans) (empty : PlainState) (xs : List Item) (waiting : List ℕ) where
  abbrev s : PlainState
  s = replay plans empty xs

  entry_at : (o : OpenEntry) (how : How) (later : List Item) → IsLegal plans empty (xs ++ entry_of o how ∷ later)
      → IsLegalEntry plans (replay plans empty xs) xs (record { path = o.path; ordinal = o.ordinal; how = how; ends = o.ends; acts = o.acts })
  entry_at o how later legal = (item_at plans empty [] xs (entry_of o how) later legal).0

  took_by : (o : OpenEntry) (e : CommandEnd) (over : Bool)
      → IsPlain plans empty (cond over (closed (run xs waiting o) (with_end o e) Full) (record (run xs waiting o) { running = Some (with_end o e) }))
      → TookEffect plans s o e
  took_by o e true plain = grind (arith, entry_at (with_end o e) Full (resets_of waiting) plain.legal, one_longer o.ends e)
  took_by o e false plain = record {
    ends = subst (λ (k : ℕ). o.ends ++ e ∷ [] ≡ (part_of s o.path (words plans s o) o.acts k).ends) (one_longer o.ends e) plain.at.ends;
    acts = subst (λ (k : ℕ). HasActs s o.path (words plans s o) o.acts k) (one_longer o.ends e) plain.at.acts;
  }

  pub took_effect : (o : OpenEntry) (e : CommandEnd) → IsPlain plans empty (ended (run xs waiting o) e) → TookEffect plans s o e
  took_effect o e plain = took_by o e e.over plain

  one_less : (o : OpenEntry) (e : CommandEnd) → length (o.ends ++ e ∷ []) - 1 ≡ length o.ends
  one_less o e = let many = one_longer o.ends e in omega (arith, many)

  pub was_checked : (o : OpenEntry) (e : CommandEnd) → IsPlain plans empty (checked (run xs waiting o) e) → WasChecked plans s o e
  was_checked o e plain = grind (arith, entry_at (with_end o e) Checked (resets_of waiting) plain.legal, one_less o e)

  pub was_cut : (o : OpenEntry) (k : ℕ) (later : List Item) → IsLegal plans empty (xs ++ entry_of o (Cut k) ∷ later) → WasCut plans s o k
  was_cut o k later legal = grind (arith, entry_at)

  pub acted_all : (acts : List Act) (o : OpenEntry) → all_acted (run xs waiting o) acts ≡ run xs waiting (with_more o acts)
  acted_all [] o = ap (λ (l : List Acted). run xs waiting (with_list o l)) (sym (append-nil o.acts))
  acted_all (x ∷ acts) o = grind (arith, acted_all acts (with_one_act o x), append_assoc)

  pub idle_act : (act : Act) (later : List Item) → IsLegal plans empty (xs ++ items.Act act ∷ later) → AreActs s None (act ∷ [])
  idle_act act later legal = item_at plans empty [] xs (items.Act act) later legal
