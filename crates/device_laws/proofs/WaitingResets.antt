-- Resets that wait for the end of a running program: they are due, and behind its end they are legal in rising order.
use Rattle.std.proofs.Common.{
  ◌≡◌,
  ◌≤◌,
  ◌<◌,
  ◌==◌,
  ℕ,
  suc,
  List,
  [],
  ◌∷◌,
  ◌++◌,
  Option,
  Some,
  None,
  Bool,
  true,
  false,
  not,
  refl,
  arith,
  ap,
  subst,
  ◌∙◌,
  append_assoc,
}
use Rattle.std.specs.Prelude.{◌||◌, ◌&&◌, ⊤}
use Rattle.std.proofs.lemmas.Bool.{ne_eqb}
use Rattle.std.proofs.lemmas.List.{append-nil}
use Rattle.plain_defs.specs.declared.journal.Item.{Item}
use Rattle.plain_defs.specs.declared.journal.Item.TheVariants.{Program, Reset}
use Rattle.plain_defs.specs.Entry.{ProgramEntry}
use Rattle.plain_defs.specs.History.{History, OpenEntry, no_history, resets_of}
use Rattle.plain_defs.specs.Journal.{Plans, replay, replay_item}
use Rattle.plain_defs.specs.Legal.{IsLegalFrom, IsLegal, is_used, used_by, is_started, started_by}
use Rattle.plain_defs.specs.PlainState.{PlainState}
use Rattle.plain_defs.proofs.JournalLaws.{item_more}
use Rattle.device_defs.specs.Device.{all_reset}

-- Journals one behind the other

-- a legal journal goes on behind a legal one
pub legal-append : (plans : Plans) (s : PlainState) (earlier xs ys : List Item) → IsLegalFrom plans s earlier xs
    → IsLegalFrom plans (replay plans s xs) (earlier ++ xs) ys → IsLegalFrom plans s earlier (xs ++ ys)
legal-append plans s earlier [] ys h more = subst (λ (l : List Item). IsLegalFrom plans s l ys) (append-nil earlier) more
legal-append plans s earlier (x ∷ xs) ys h more = (
  item_more plans s earlier x xs ys h.0,
  legal-append plans (replay_item plans s x) (earlier ++ x ∷ []) xs ys h.1
      (rw (append_assoc earlier (x ∷ []) xs) more),
)

pub used-append : (path : ℕ) (used : Bool) (xs ys : List Item)
    → is_used path used (xs ++ ys) ≡ is_used path (is_used path used xs) ys
used-append path used [] ys = refl
used-append path used (x ∷ xs) ys = used-append path (used_by path used x) xs ys

pub started-append : (started : Bool) (xs ys : List Item) → is_started started (xs ++ ys) ≡ is_started (is_started started xs) ys
started-append started [] ys = refl
started-append started (x ∷ xs) ys = started-append (started_by started x) xs ys

-- Paths whose resets wait

-- in rising order from a number on, each once
abbrev pub AreRising : ℕ → List ℕ → Type 0
AreRising least [] = ⊤
AreRising least (p ∷ paths) = (least ≤ p) × AreRising (suc p) paths

-- each ran a program since its last reset
abbrev pub AreUsed : List Item → List ℕ → Type 0
AreUsed items [] = ⊤
AreUsed items (p ∷ paths) = (is_used p false items ≡ true) × AreUsed items paths

abbrev pub AreOthers : ℕ → List ℕ → Type 0
AreOthers path [] = ⊤
AreOthers path (p ∷ paths) = ((path == p) ≡ false) × AreOthers path paths

abbrev pub WaitFor : Option OpenEntry → List ℕ → Type 0
WaitFor (Some o) paths = AreOthers o.path paths
WaitFor None paths = paths ≡ []

-- other paths' resets wait for the running program, each of a path that used something; where none runs, no reset waits
pub record AreDue (h : History) : Type 0 where
  pub rising : AreRising 0 h.waiting
  pub used : AreUsed h.items h.waiting
  pub others : WaitFor h.running h.waiting

pub nothing_is_due : AreDue no_history
nothing_is_due = record { rising = tt; used = tt; others = refl }

or_true : (b : Bool) → (b || true) ≡ true
or_true true = refl
or_true false = refl

-- behind a program that ended they used something, too
pub used_behind_program : (items : List Item) (e : ProgramEntry) (paths : List ℕ) → AreUsed items paths
    → AreUsed (items ++ Program e ∷ []) paths
used_behind_program items e [] used = tt
used_behind_program items e (p ∷ paths) used = (
  used-append p false items (Program e ∷ []) ∙ ap (λ (b : Bool). (e.path == p) || b) used.0 ∙ or_true (e.path == p),
  used_behind_program items e paths used.1,
)

-- and behind the reset of another path
pub used_behind_reset : (items : List Item) (path : ℕ) (paths : List ℕ) → AreOthers path paths → AreUsed items paths
    → AreUsed (items ++ Reset path ∷ []) paths
used_behind_reset items path [] others used = tt
used_behind_reset items path (p ∷ paths) others used = (
  used-append p false items (Reset path ∷ []) ∙ ap (λ (b : Bool). not b && is_used p false items) others.0 ∙ used.0,
  used_behind_reset items path paths others.1 used.1,
)

pub above_are_others : (path least : ℕ) (paths : List ℕ) → path < least → AreRising least paths → AreOthers path paths
above_are_others path least [] lt rising = tt
above_are_others path least (p ∷ paths) lt rising = (
  ne_eqb path p (omega (arith, lt, rising.0)),
  above_are_others path (suc p) paths (omega (arith, lt, rising.0)) rising.1,
)

pub resets_are_legal : (plans : Plans) (s : PlainState) (earlier : List Item) (least : ℕ) (paths : List ℕ) → AreRising least paths
    → AreUsed earlier paths → IsLegalFrom plans s earlier (resets_of paths)
resets_are_legal plans s earlier least [] rising used = tt
resets_are_legal plans s earlier least (p ∷ paths) rising used = (
  used.0,
  resets_are_legal plans (replay_item plans s (Reset p)) (earlier ++ Reset p ∷ []) (suc p) paths rising.1
      (used_behind_reset earlier p paths (above_are_others p (suc p) paths (omega arith) rising.1) used.1),
)

-- the resets that waited behind a legal journal
pub resets_follow : (plans : Plans) (s : PlainState) (items : List Item) (paths : List ℕ) → IsLegal plans s items → AreRising 0 paths
    → AreUsed items paths → IsLegal plans s (items ++ resets_of paths)
resets_follow plans s items paths legal rising used =
    legal-append plans s [] items (resets_of paths) legal (resets_are_legal plans (replay plans s items) items 0 paths rising used)

-- they change what is kept of the paths, and nothing else
pub replay_resets : (plans : Plans) (s : PlainState) (paths : List ℕ)
    → replay plans s (resets_of paths) ≡ record s { paths = all_reset s.paths paths }
replay_resets plans s [] = refl
replay_resets plans s (p ∷ paths) = replay_resets plans (replay_item plans s (Reset p)) paths
