-- A journal with one item more, and its front.
use Rattle.std.proofs.Common.{◌≡◌, ℕ, List, [], ◌∷◌, ◌++◌, refl, sym, ap, subst, ◌∙◌, append_assoc}
use Rattle.std.proofs.lemmas.List.{append-nil}
use Rattle.plain_defs.specs.declared.journal.How.{How}
use Rattle.plain_defs.specs.declared.journal.How.TheVariants.{Full, Cut, Checked}
use Rattle.plain_defs.specs.declared.journal.Item.{Item}
use Rattle.plain_defs.specs.declared.journal.Item.TheVariants.{Program, Reset, Fresh, Act, Power}
use Rattle.plain_defs.specs.Acknowledged.{EditTold}
use Rattle.plain_defs.specs.PlainState.{PlainState}
use Rattle.plain_defs.specs.Journal.{Plans, replay, replay_item, item_told, journal_told}
use Rattle.plain_defs.specs.Legal.{FollowsCut, IsUncut, IsLegalItem, IsLegalFrom}

pub replay-append : (plans : Plans) (s : PlainState) (xs ys : List Item)
    → replay plans s (xs ++ ys) ≡ replay plans (replay plans s xs) ys
replay-append plans s [] ys = refl
replay-append plans s (x ∷ xs) ys = replay-append plans (replay_item plans s x) xs ys

pub told-append : (plans : Plans) (s : PlainState) (xs ys : List Item)
    → journal_told plans s (xs ++ ys) ≡ journal_told plans s xs ++ journal_told plans (replay plans s xs) ys
told-append plans s [] ys = refl
told-append plans s (x ∷ xs) ys =
    let behind = replay_item plans s x in
    ap (λ (l : List EditTold). item_told plans s x ++ l) (told-append plans behind xs ys)
    ∙ sym (append_assoc (item_told plans s x) (journal_told plans behind xs)
    (journal_told plans (replay plans behind xs) ys))

pub follows_more : (how : How) (path : ℕ) (xs ys : List Item) → FollowsCut how path xs → FollowsCut how path (xs ++ ys)
follows_more Full path xs ys h = tt
follows_more Checked path xs ys h = tt
follows_more (Cut effect) path [] ys h = absurd h
follows_more (Cut effect) path (Reset p ∷ xs) ys h = h
follows_more (Cut effect) path (Power ∷ xs) ys h = tt
follows_more (Cut effect) path (Program e ∷ xs) ys h = absurd h
follows_more (Cut effect) path (Fresh ∷ xs) ys h = absurd h
follows_more (Cut effect) path (Act act ∷ xs) ys h = absurd h

pub item_more : (plans : Plans) (s : PlainState) (earlier : List Item) (y : Item) (later more : List Item)
    → IsLegalItem plans s earlier y later → IsLegalItem plans s earlier y (later ++ more)
item_more plans s earlier (Program e) later more h = (h.0, follows_more e.how e.path later more h.1)
item_more plans s earlier (Reset p) later more h = h
item_more plans s earlier Fresh later more h = tt
item_more plans s earlier (Act act) later more h = h
item_more plans s earlier Power later more h = h

-- a legal item behind a legal journal
pub legal_more : (plans : Plans) (s : PlainState) (earlier xs : List Item) (x : Item) → IsLegalFrom plans s earlier xs
    → IsLegalItem plans (replay plans s xs) (earlier ++ xs) x [] → IsLegalFrom plans s earlier (xs ++ x ∷ [])
legal_more plans s earlier [] x h more = (
  subst (λ (l : List Item). IsLegalItem plans s l x []) (append-nil earlier)
      more,
  tt,
)
legal_more plans s earlier (y ∷ ys) x h more = (
  item_more plans s earlier y ys (x ∷ []) h.0,
  legal_more plans (replay_item plans s y) (earlier ++ y ∷ []) ys x h.1
      (subst (λ (l : List Item). IsLegalItem plans (replay plans (replay_item plans s y) ys) l x [])
      (sym (append_assoc earlier (y ∷ []) ys)) more),
)

follows_less : (how : How) (path : ℕ) (y : Item) (ys zs : List Item) → FollowsCut how path (y ∷ ys)
    → FollowsCut how path (y ∷ zs)
follows_less Full path y ys zs h = tt
follows_less Checked path y ys zs h = tt
follows_less (Cut effect) path (Reset p) ys zs h = h
follows_less (Cut effect) path Power ys zs h = tt
follows_less (Cut effect) path (Program e) ys zs h = absurd h
follows_less (Cut effect) path Fresh ys zs h = absurd h
follows_less (Cut effect) path (Act act) ys zs h = absurd h

item_less : (plans : Plans) (s : PlainState) (earlier : List Item) (x y : Item) (ys zs : List Item)
    → IsLegalItem plans s earlier x (y ∷ ys) → IsLegalItem plans s earlier x (y ∷ zs)
item_less plans s earlier (Program e) y ys zs h = (h.0, follows_less e.how e.path y ys zs h.1)
item_less plans s earlier (Reset p) y ys zs h = h
item_less plans s earlier Fresh y ys zs h = tt
item_less plans s earlier (Act act) y ys zs h = h
item_less plans s earlier Power y ys zs h = h

item_last : (plans : Plans) (s : PlainState) (earlier : List Item) (x : Item) (later : List Item)
    → IsLegalItem plans s earlier x later → IsUncut x → IsLegalItem plans s earlier x []
item_last plans s earlier (Program e) later h uncut = (h.0, uncut)
item_last plans s earlier (Reset p) later h uncut = h
item_last plans s earlier Fresh later h uncut = tt
item_last plans s earlier (Act act) later h uncut = h
item_last plans s earlier Power later h uncut = h

-- a front that ends with no program that was cut
pub legal_less : (plans : Plans) (s : PlainState) (earlier xs : List Item) (x : Item) (later : List Item)
    → IsLegalFrom plans s earlier (xs ++ x ∷ later) → IsUncut x → IsLegalFrom plans s earlier (xs ++ x ∷ [])
legal_less plans s earlier [] x later h uncut = (item_last plans s earlier x later h.0 uncut, tt)
legal_less plans s earlier (y ∷ []) x later h uncut = (
  item_less plans s earlier y x later [] h.0,
  legal_less plans
      (replay_item plans s y) (earlier ++ y ∷ []) [] x later h.1 uncut,
)
legal_less plans s earlier (y ∷ z ∷ xs) x later h uncut = (
  item_less plans s earlier y z (xs ++ x ∷ later) (xs ++ x ∷ []) h.0,
  legal_less plans (replay_item plans s y)
      (earlier ++ y ∷ []) (z ∷ xs) x later h.1 uncut,
)
