-- What ends, checks and acts make of a journal: it stays one that a turn keeps, and has no more data checks but where a command ended with one.
use Rattle.std.proofs.Common.{◌≡◌, ◌≤◌, ◌+◌, zero, suc, ℕ, Bool, true, false, List, [], ◌∷◌, ◌++◌, Option, Some, None, refl, sym, ap, ◌∙◌, append_assoc, arith}
use Rattle.std.proofs.lemmas.List.{append-nil}
use Rattle.std.specs.Prelude.{if◌then◌else◌, ◌&&◌, count_by}
use Rattle.std.specs.List.{fold}
use Rattle.ckd_types.specs.declared.channel.CommandEnd.{CommandEnd}
use Rattle.plain_defs.specs.declared.journal.Act.{Act}
use Rattle.plain_defs.specs.declared.journal.How.{How}
use Rattle.plain_defs.specs.declared.journal.How.TheVariants.{Full, Checked}
use Rattle.plain_defs.specs.declared.journal.Item.{Item}
use Rattle.plain_defs.specs.declared.journal.Item.TheVariants as items
use Rattle.plain_defs.specs.History.{OpenEntry, History, acted, acted_in, checked_in, closed, ended_in, entry_of, resets_of, with_end}
use Rattle.plain_defs.specs.Journal.{last_sense}
use Rattle.device_defs.specs.Device.{all_acted}
use Rattle.device_defs.specs.Excused.{is_data_check}
use Rattle.device_defs.specs.Pledge.{is_fresh, fresh_count, is_uncut, is_kept_item, are_kept, is_kept_journal, ends_with_data_check}
use Rattle.device_laws.proofs.Bools.{and_left, and_right}

-- Counts of items

abbrev count_from : (Item → Bool) → ℕ → List Item → ℕ
count_from p n xs = fold (λ a x. a + (if p x then 1 else 0)) n xs

abbrev pub AreNot : (Item → Bool) → List Item → Type 0
AreNot p [] = Unit {0}
AreNot p (x ∷ xs) = (p x ≡ false) × AreNot p xs

count_append : (p : Item → Bool) (n : ℕ) (xs ys : List Item) → count_from p n (xs ++ ys) ≡ count_from p (count_from p n xs) ys
count_append p n [] ys = refl
count_append p n (x ∷ xs) ys = count_append p (n + (if p x then 1 else 0)) xs ys

none_counted : (p : Item → Bool) (n : ℕ) (ys : List Item) → AreNot p ys → count_from p n ys ≡ n
none_counted p n [] h = refl
none_counted p n (y ∷ ys) h =
    let same : n + 0 ≡ n = omega arith in
    ap (λ (b : Bool). count_from p (n + (if b then 1 else 0)) ys) h.0 ∙ none_counted p (n + 0) ys h.1 ∙ same

-- where it stays, none that came is counted
counts_more : (p : Item → Bool) (n : ℕ) (xs : List Item) → n ≤ count_from p n xs
counts_more p n [] = omega arith
counts_more p n (x ∷ xs) = let more = counts_more p (n + (if p x then 1 else 0)) xs in by_test (p x) more where
  by_test : (b : Bool) → n + (if b then 1 else 0) ≤ count_from p (n + (if b then 1 else 0)) xs → n ≤ count_from p (n + (if b then 1 else 0)) xs
  by_test true le = omega (arith, le)
  by_test false le = omega (arith, le)

not_first : (p : Item → Bool) (n m : ℕ) (x : Item) (xs : List Item) (b : Bool) → p x ≡ b → count_from p (m + (if b then 1 else 0)) xs ≡ n → n ≤ m →
    ((k : ℕ) → count_from p k xs ≡ n → n ≤ k → AreNot p xs) → (p x ≡ false) × AreNot p xs
not_first p n m x xs true test is le more = absurd (let up = counts_more p (m + 1) xs in omega (arith, up, is, le))
not_first p n m x xs false test is le more = (test, more (m + 0) is (omega (arith, le)))

pub none_came : (p : Item → Bool) (n m : ℕ) (xs : List Item) → count_from p m xs ≡ n → n ≤ m → AreNot p xs
none_came p n m [] is le = tt
none_came p n m (x ∷ xs) is le = not_first p n m x xs (p x) refl is le (λ k e f. none_came p n k xs e f)

pub same_came : (p : Item → Bool) (xs ys : List Item) → count_by p (xs ++ ys) ≡ count_by p xs → AreNot p ys
same_came p xs ys same = none_came p (count_by p xs) (count_by p xs) ys (sym (count_append p 0 xs ys) ∙ same) (omega arith)

pub count_more : (p : Item → Bool) (xs ys : List Item) → AreNot p ys → count_by p (xs ++ ys) ≡ count_by p xs
count_more p xs ys h = count_append p 0 xs ys ∙ none_counted p (count_from p 0 xs) ys h

no_fresh_resets : (paths : List ℕ) → AreNot is_fresh (resets_of paths)
no_fresh_resets [] = tt
no_fresh_resets (path ∷ paths) = (refl, no_fresh_resets paths)

no_check_resets : (paths : List ℕ) → AreNot ends_with_data_check (resets_of paths)
no_check_resets [] = tt
no_check_resets (path ∷ paths) = (refl, no_check_resets paths)

-- Kept journals

and_both : (x y : Bool) → x ≡ true → y ≡ true → (x && y) ≡ true
and_both true y e f = f
and_both false y e f = absurd (cc)

are_more : (xs : List Item) (x : Item) → are_kept xs ≡ true → is_kept_item x ≡ true → are_kept (xs ++ x ∷ []) ≡ true
are_more [] x e k = and_both (is_kept_item x) true k refl
are_more (y ∷ ys) x e k =
    and_both (is_kept_item y) (are_kept (ys ++ x ∷ [])) (and_left (is_kept_item y) (are_kept ys) e)
    (are_more ys x (and_right (is_kept_item y) (are_kept ys) e) k)

kept_more : (n : ℕ) (xs : List Item) (x : Item) → is_kept_journal n xs ≡ true → is_kept_item x ≡ true → is_kept_journal n (xs ++ x ∷ []) ≡ true
kept_more zero xs x e k = are_more xs x e k
kept_more (suc n) [] x e k = absurd (cc)
kept_more (suc n) (y ∷ ys) x e k =
    and_both (is_fresh y) (is_kept_journal n (ys ++ x ∷ [])) (and_left (is_fresh y) (is_kept_journal n ys) e)
    (kept_more n ys x (and_right (is_fresh y) (is_kept_journal n ys) e) k)

-- a history goes on to another, where no reset waits
pub record Extends (h k : History) : Type 0 where
  pub waiting : h.waiting ≡ [] → k.waiting ≡ []
  pub kept : h.waiting ≡ [] → (n : ℕ) → is_kept_journal n h.items ≡ true → is_kept_journal n k.items ≡ true
  pub fresh : fresh_count k.items ≡ fresh_count h.items
  pub more : List Item
  pub grown : k.items ≡ h.items ++ more

pub extends_itself : (h : History) → Extends h h
extends_itself h = record { waiting = λ none. none; kept = λ none n e. e; fresh = refl; more = []; grown = sym (append-nil h.items) }

pub extends_on : (h k l : History) → Extends h k → Extends k l → Extends h l
extends_on h k l f g = record {
  waiting = λ none. g.waiting (f.waiting none);
  kept = λ none n e. g.kept (f.waiting none) n (f.kept none n e);
  fresh = g.fresh ∙ f.fresh;
  more = f.more ++ g.more;
  grown = g.grown ∙ ap (λ (xs : List Item). xs ++ g.more) f.grown ∙ append_assoc h.items f.more g.more;
}

closed_extends : (h : History) (o : OpenEntry) (how : How) → is_uncut how ≡ true → Extends h (closed h o how)
closed_extends h o how uncut = record {
  waiting = λ none. refl;
  kept = λ none n e. rw none (kept_more n h.items (entry_of o how) e uncut);
  fresh = count_more is_fresh h.items (entry_of o how ∷ resets_of h.waiting) (refl, no_fresh_resets h.waiting);
  more = entry_of o how ∷ resets_of h.waiting;
  grown = refl;
}

over_extends : (h : History) (o : OpenEntry) (b : Bool) → Extends h (if b then closed h o Full else record h { running = Some o })
over_extends h o true = closed_extends h o Full refl
over_extends h o false = record { waiting = λ none. none; kept = λ none n e. e; fresh = refl; more = []; grown = sym (append-nil h.items) }

pub ended_extends : (h : History) (e : CommandEnd) (r : Option OpenEntry) → Extends h (ended_in h e r)
ended_extends h e (Some o) = over_extends h (with_end o e) e.over
ended_extends h e None = extends_itself h

pub checked_extends : (h : History) (e : CommandEnd) (r : Option OpenEntry) → Extends h (checked_in h e r)
checked_extends h e (Some o) = closed_extends h (with_end o e) Checked refl
checked_extends h e None = extends_itself h

act_extends : (h : History) (act : Act) (r : Option OpenEntry) → Extends h (acted_in h act r)
act_extends h act (Some o) = record { waiting = λ none. none; kept = λ none n e. e; fresh = refl; more = []; grown = sym (append-nil h.items) }
act_extends h act None = record {
  waiting = λ none. none;
  kept = λ none n e. kept_more n h.items (items.Act act) e refl;
  fresh = count_more is_fresh h.items (items.Act act ∷ []) (refl, tt);
  more = items.Act act ∷ [];
  grown = refl;
}

pub acts_extend : (h : History) (acts : List Act) → Extends h (all_acted h acts)
acts_extend h [] = extends_itself h
acts_extend h (act ∷ acts) =
    extends_on h (acted h act) (all_acted (acted h act) acts) (act_extends h act h.running) (acts_extend (acted h act) acts)

-- Data checks

abbrev pub data_checks : History → ℕ
data_checks h = count_by ends_with_data_check h.items

pub last_is : (ends : List CommandEnd) (e : CommandEnd) → last_sense (ends ++ e ∷ []) ≡ e.sense
last_is [] e = refl
last_is (x ∷ []) e = refl
last_is (x ∷ y ∷ ends) e = last_is (y ∷ ends) e

closed_checks : (h : History) (o : OpenEntry) (how : How) → ends_with_data_check (entry_of o how) ≡ false → data_checks (closed h o how) ≡ data_checks h
closed_checks h o how none =
    count_more ends_with_data_check h.items (entry_of o how ∷ resets_of h.waiting) (none, no_check_resets h.waiting)

over_checks : (h : History) (o : OpenEntry) (b : Bool) → data_checks (if b then closed h o Full else record h { running = Some o }) ≡ data_checks h
over_checks h o true = closed_checks h o Full refl
over_checks h o false = refl

pub ended_checks : (h : History) (e : CommandEnd) (r : Option OpenEntry) → data_checks (ended_in h e r) ≡ data_checks h
ended_checks h e (Some o) = over_checks h (with_end o e) e.over
ended_checks h e None = refl

pub checked_checks : (h : History) (e : CommandEnd) (r : Option OpenEntry) → is_data_check e.sense ≡ false → data_checks (checked_in h e r) ≡ data_checks h
checked_checks h e (Some o) no_check = closed_checks h (with_end o e) Checked (ap is_data_check (last_is o.ends e) ∙ no_check)
checked_checks h e None no_check = refl

act_checks : (h : History) (act : Act) (r : Option OpenEntry) → data_checks (acted_in h act r) ≡ data_checks h
act_checks h act (Some o) = refl
act_checks h act None = count_more ends_with_data_check h.items (items.Act act ∷ []) (refl, tt)

pub acts_check : (h : History) (acts : List Act) → data_checks (all_acted h acts) ≡ data_checks h
acts_check h [] = refl
acts_check h (act ∷ acts) = acts_check (acted h act) acts ∙ act_checks h act h.running
