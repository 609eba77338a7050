-- How many checks are unexplained: fewer where more is lost and more failed, and of the items of one event those of the first alone.
use Rattle.std.proofs.Common.{
  ◌≡◌,
  ◌≤◌,
  ◌+◌,
  ◌-◌,
  ◌==◌,
  zero,
  suc,
  ℕ,
  Bool,
  true,
  false,
  List,
  [],
  ◌∷◌,
  ◌++◌,
  set,
  get_or,
  refl,
  ap,
  arith,
  leb-true,
  eqb-true,
  ◌⊎◌,
  inl,
  inr,
}
use Rattle.std.specs.Prelude.{◌&&◌, ◌||◌, not, nat_le, if◌then◌else◌}
use Rattle.plain_defs.specs.declared.journal.Item.{Item}
use Rattle.plain_defs.specs.declared.journal.Item.TheVariants as items
use Rattle.plain_defs.specs.Entry.{ProgramEntry}
use Rattle.plain_defs.specs.Journal.{Plans, replay, replay_item, last_sense}
use Rattle.plain_defs.specs.PlainState.{PlainState}
use Rattle.device_defs.specs.declared.counts.Counts.{Counts}
use Rattle.device_defs.specs.Command.{has_loss}
use Rattle.device_defs.specs.Excused.{
  LastCommand,
  has_lost,
  is_checked,
  is_equipment_check,
  last_command,
  is_unexplained_by,
  is_unexplained,
  unexplained_item,
  unexplained,
}
use Rattle.device_defs.specs.Marks.{MarksDevice}
use Rattle.device_defs.specs.Store.{some_up}
use Rattle.subsystem_defs.specs.Promised.{explains}

-- Truth of pairs

pub both_true : (a b : Bool) → (a && b) ≡ true → (a ≡ true) × (b ≡ true)
both_true true b e = (refl, e)
both_true false b e = absurd (cc)

pub true_both : (a b : Bool) → a ≡ true → b ≡ true → (a && b) ≡ true
true_both true b e f = f
true_both false b e f = absurd (cc)

or_true : (a b : Bool) → (a || b) ≡ true → (a ≡ true) ⊎ (b ≡ true)
or_true true b e = inl refl
or_true false b e = inr e

true_or : (a b : Bool) → (a ≡ true) ⊎ (b ≡ true) → (a || b) ≡ true
true_or true b e = refl
true_or false b (inl e) = absurd (cc)
true_or false b (inr e) = e

is_false : (a : Bool) → not a ≡ true → a ≡ false
is_false true e = absurd (cc)
is_false false e = refl

never : {X : Type 0} (a : Bool) → a ≡ true → a ≡ false → X
never true e f = absurd (cc)
never false e f = absurd (cc)

if_both : (a b : Bool) → (a ≡ true → b ≡ true) → (if a then 1 else 0) ≤ (if b then 1 else 0)
if_both true true h = omega arith
if_both true false h = absurd (let both : false ≡ true = h refl in cc)
if_both false b h = omega arith

-- Lost tracks

abbrev pub LosesMore : List Bool → List Bool → Type 0
LosesMore l m = (t : ℕ) → get_or l t false ≡ true → get_or m t false ≡ true

pub still_lost : (l : List Bool) (t q : ℕ) → get_or l q false ≡ true → get_or (set l t true) q false ≡ true
still_lost [] t q e = absurd (cc)
still_lost (x ∷ l) zero zero e = refl
still_lost (x ∷ l) zero (suc q) e = e
still_lost (x ∷ l) (suc t) zero e = e
still_lost (x ∷ l) (suc t) (suc q) e = still_lost l t q e

more_or : (a b c e : Bool) → (a ≡ true → c ≡ true) → (b ≡ true → e ≡ true) → (a || b) ≡ true → (c || e) ≡ true
more_or true b c e h g is = true_or c e (inl (h refl))
more_or false b c e h g is = true_or c e (inr (g is))

more_lost : (l m : List Bool) (ts : List ℕ) → LosesMore l m → has_lost l ts ≡ true → has_lost m ts ≡ true
more_lost l m [] h e = absurd (cc)
more_lost l m (t ∷ ts) h e = more_or (get_or l t false) (has_lost l ts) (get_or m t false) (has_lost m ts) (h t) (more_lost l m ts h) e

-- More was lost, and more calls failed
pub record Worse (l : List Bool) (n : Counts) (m : List Bool) (k : Counts) : Type 0 where
  pub lost : LosesMore l m
  pub failed : n.failed ≤ k.failed
  pub sides : k.losses.sides ≡ 0 → n.losses.sides ≡ 0

fewer_zero : (x y : ℕ) → (y ≡ 0 → x ≡ 0) → (y == 0) ≡ true → (x == 0) ≡ true
fewer_zero x y h e = ap (λ (n : ℕ). n == 0) (h (eqb-true y 0 e))

fewer_one : (x y : ℕ) → x ≤ y → nat_le y 1 ≡ true → nat_le x 1 ≡ true
fewer_one x y le e = let most : y ≤ 1 = leb-true y 1 e in at_most x (omega (arith, le, most)) where
  at_most : (x : ℕ) → x ≤ 1 → nat_le x 1 ≡ true
  at_most zero le = refl
  at_most (suc zero) le = refl
  at_most (suc (suc x)) le = absurd (omega (arith, le))

module _ (l : List Bool) (n : Counts) (m : List Bool) (k : Counts) (w : Worse l n m k) where
  calls_fewer : (writes : Bool) → (not writes || ((k.losses.sides == 0) && nat_le k.failed 1)) ≡ true →
      (not writes || ((n.losses.sides == 0) && nat_le n.failed 1)) ≡ true
  calls_fewer false e = refl
  calls_fewer true e =
      let b = both_true (k.losses.sides == 0) (nat_le k.failed 1) e in
      true_both (n.losses.sides == 0) (nat_le n.failed 1) (fewer_zero n.losses.sides k.losses.sides w.sides b.0)
      (fewer_one n.failed k.failed w.failed b.1)

  none_lost : (ts : List ℕ) → not (has_lost m ts) ≡ true → not (has_lost l ts) ≡ true
  none_lost ts e = by_test (has_lost l ts) refl where
    by_test : (b : Bool) → has_lost l ts ≡ b → not b ≡ true
    by_test true is = never (has_lost m ts) (more_lost l m ts w.lost is) (is_false (has_lost m ts) e)
    by_test false is = refl

  by_fewer : (c : LastCommand) → is_unexplained_by m k c ≡ true → is_unexplained_by l n c ≡ true
  by_fewer c e =
      let b = both_true (not (has_lost m c.touched)) (not c.writes || ((k.losses.sides == 0) && nat_le k.failed 1)) e in
      true_both (not (has_lost l c.touched)) (not c.writes || ((n.losses.sides == 0) && nat_le n.failed 1)) (none_lost c.touched b.0)
      (calls_fewer c.writes b.1)

  module _ (plans : Plans) where
    is_fewer : (state : PlainState) (e : ProgramEntry) → is_unexplained plans state m k e ≡ true → is_unexplained plans state l n e ≡ true
    is_fewer state e is =
        let c = last_command plans state e in
        let a = is_checked e.how && is_equipment_check (last_sense e.ends) && not (has_loss e.acts) in
        parts (is_checked e.how) (is_equipment_check (last_sense e.ends)) (not (has_loss e.acts)) (is_unexplained_by m k c) (is_unexplained_by l n c) is
        (by_fewer c)
      where
        parts : (a b c x y : Bool) → (a && b && c && x) ≡ true → (x ≡ true → y ≡ true) → (a && b && c && y) ≡ true
        parts true true true x y e h = h e
        parts true true false x y e h = absurd (cc)
        parts true false c x y e h = absurd (cc)
        parts false b c x y e h = absurd (cc)

    item_fewer : (state : PlainState) (x : Item) → unexplained_item plans state m k x ≤ unexplained_item plans state l n x
    item_fewer state (items.Program e) = if_both (is_unexplained plans state m k e) (is_unexplained plans state l n e) (is_fewer state e)
    item_fewer state (items.Act act) = omega arith
    item_fewer state (items.Reset path) = omega arith
    item_fewer state items.Fresh = omega arith
    item_fewer state items.Power = omega arith

    added : (a b c e : ℕ) → a ≤ b → c ≤ e → a + c ≤ b + e
    added a b c e f g = omega (arith, f, g)

    pub all_fewer : (state : PlainState) (xs : List Item) → unexplained plans state m k xs ≤ unexplained plans state l n xs
    all_fewer state [] = omega arith
    all_fewer state (x ∷ xs) =
        added (unexplained_item plans state m k x) (unexplained_item plans state l n x) (unexplained plans (replay_item plans state x) m k xs)
        (unexplained plans (replay_item plans state x) l n xs) (item_fewer state x) (all_fewer (replay_item plans state x) xs)

-- no program among them
abbrev pub NoProgram : List Item → Type 0
NoProgram [] = Unit {0}
NoProgram (items.Program e ∷ xs) = ⊥
NoProgram (x ∷ xs) = NoProgram xs

-- One list behind another

module _ (plans : Plans) (l : List Bool) (n : Counts) where
  added_three : (a b c e : ℕ) → e ≡ b + c → a + e ≡ a + b + c
  added_three a b c e is = omega (arith, is)

  none_before : (a : ℕ) → a ≡ 0 + a
  none_before a = omega arith

  pub unexplained_on : (state : PlainState) (xs ys : List Item) →
      unexplained plans state l n (xs ++ ys) ≡ unexplained plans state l n xs + unexplained plans (replay plans state xs) l n ys
  unexplained_on state [] ys = none_before (unexplained plans state l n ys)
  unexplained_on state (x ∷ xs) ys =
      let here = replay_item plans state x in
      added_three (unexplained_item plans state l n x) (unexplained plans here l n xs) (unexplained plans (replay plans here xs) l n ys)
      (unexplained plans here l n (xs ++ ys)) (unexplained_on here xs ys)

  zero_before : (a : ℕ) → a ≡ 0 → 0 + a ≡ 0
  zero_before a e = omega (arith, e)

  pub none_unexplained : (state : PlainState) (xs : List Item) → NoProgram xs → unexplained plans state l n xs ≡ 0
  none_unexplained state [] h = refl
  none_unexplained state (items.Program e ∷ xs) h = absurd h
  none_unexplained state (items.Act act ∷ xs) h = zero_before _ (none_unexplained (replay_item plans state (items.Act act)) xs h)
  none_unexplained state (items.Reset path ∷ xs) h = zero_before _ (none_unexplained (replay_item plans state (items.Reset path)) xs h)
  none_unexplained state (items.Fresh ∷ xs) h = zero_before _ (none_unexplained (replay_item plans state items.Fresh) xs h)
  none_unexplained state (items.Power ∷ xs) h = zero_before _ (none_unexplained (replay_item plans state items.Power) xs h)

-- An explained check counts only where a call failed

-- no side is up only where a side was lost, or two calls failed
abbrev pub IsPaid : MarksDevice → Type 0
IsPaid d = some_up d.store ≡ false → (1 ≤ d.store.counts.losses.sides) ⊎ (2 ≤ d.store.counts.failed)

module _ (x y : MarksDevice) (w : Worse x.store.lost x.store.counts y.store.lost y.store.counts) (paid : IsPaid x) where
  abbrev n : Counts
  n = y.store.counts

  rose : (a b : ℕ) → not (a - b == 0) ≡ true → 1 ≤ a - b
  rose a b e = by_value (a - b) e where
    by_value : (m : ℕ) → not (m == 0) ≡ true → 1 ≤ m
    by_value zero e = absurd (cc)
    by_value (suc m) e = omega arith

  none_left : (m : ℕ) → m ≡ 0 → 1 ≤ m → ⊥
  none_left m none le = omega (arith, none, le)

  not_one : (m : ℕ) → nat_le m 1 ≡ true → 2 ≤ m → ⊥
  not_one m e le = let most : m ≤ 1 = leb-true m 1 e in omega (arith, most, le)

  failed_on : (a b : ℕ) → a ≤ b → 2 ≤ a → 2 ≤ b
  failed_on a b le some = omega (arith, le, some)

  of_write : (writes : Bool) → (writes && not (some_up x.store)) ≡ true → (not writes || ((n.losses.sides == 0) && nat_le n.failed 1)) ≡ true → ⊥
  of_write false e f = cc
  of_write true e f =
      let b = both_true (n.losses.sides == 0) (nat_le n.failed 1) f in
      by_paid b.0 b.1 (paid (is_false (some_up x.store) e))
    where
      by_paid : (n.losses.sides == 0) ≡ true → nat_le n.failed 1 ≡ true → (1 ≤ x.store.counts.losses.sides) ⊎ (2 ≤ x.store.counts.failed) → ⊥
      by_paid none few (inl sides) = none_left x.store.counts.losses.sides (w.sides (eqb-true n.losses.sides 0 none)) sides
      by_paid none few (inr calls) = not_one n.failed few (failed_on x.store.counts.failed n.failed w.failed calls)

  abbrev rise : ℕ
  rise = y.store.counts.failed - x.store.counts.failed

  module _ (e : ProgramEntry) (c : LastCommand) where
    why : explains x y e c ≡ true → not (has_loss e.acts) ≡ true → is_unexplained_by y.store.lost n c ≡ true → 1 ≤ rise
    why explained firm is =
        let b = both_true (not (has_lost y.store.lost c.touched)) (not c.writes || ((n.losses.sides == 0) && nat_le n.failed 1)) is in
        by_gone b.0 b.1 (or_true (has_lost y.store.lost c.touched || not (rise == 0) || (c.writes && not (some_up x.store))) (has_loss e.acts) explained)
      where
        by_lost : not (has_lost y.store.lost c.touched) ≡ true → (has_lost y.store.lost c.touched ≡ true) ⊎ (not (rise == 0) ≡ true) → 1 ≤ rise
        by_lost kept (inl lost) = never (has_lost y.store.lost c.touched) lost (is_false (has_lost y.store.lost c.touched) kept)
        by_lost kept (inr failed) = rose y.store.counts.failed x.store.counts.failed failed

        by_write : not (has_lost y.store.lost c.touched) ≡ true → (not c.writes || ((n.losses.sides == 0) && nat_le n.failed 1)) ≡ true →
            ((has_lost y.store.lost c.touched || not (rise == 0)) ≡ true) ⊎ ((c.writes && not (some_up x.store)) ≡ true) → 1 ≤ rise
        by_write kept few (inl more) = by_lost kept (or_true (has_lost y.store.lost c.touched) (not (rise == 0)) more)
        by_write kept few (inr write) = absurd (of_write c.writes write few)

        by_gone : not (has_lost y.store.lost c.touched) ≡ true → (not c.writes || ((n.losses.sides == 0) && nat_le n.failed 1)) ≡ true →
            ((has_lost y.store.lost c.touched || not (rise == 0) || (c.writes && not (some_up x.store))) ≡ true) ⊎ (has_loss e.acts ≡ true) → 1 ≤ rise
        by_gone kept few (inl more) = by_write kept few (or_true (has_lost y.store.lost c.touched || not (rise == 0)) (c.writes && not (some_up x.store)) more)
        by_gone kept few (inr gone) = never (has_loss e.acts) gone (is_false (has_loss e.acts) firm)

  if_rose : (b : Bool) → (b ≡ true → 1 ≤ rise) → (if b then 1 else 0) ≤ rise
  if_rose true h = h refl
  if_rose false h = omega arith

  pub entry_paid : (plans : Plans) (state : PlainState) (e : ProgramEntry) →
      (not (is_checked e.how && is_equipment_check (last_sense e.ends)) || explains x y e (last_command plans state e)) ≡ true →
      unexplained_item plans state y.store.lost n (items.Program e) ≤ rise
  entry_paid plans state e is =
      let c = last_command plans state e in
      if_rose (is_unexplained plans state y.store.lost n e)
      (by_parts (is_checked e.how) (is_equipment_check (last_sense e.ends)) (not (has_loss e.acts)) (is_unexplained_by y.store.lost n c) (explains x y e c) is
      (why e c))
    where
      by_parts : (a b c u v : Bool) → (not (a && b) || v) ≡ true → (v ≡ true → c ≡ true → u ≡ true → 1 ≤ rise) → (a && b && c && u) ≡ true → 1 ≤ rise
      by_parts true true true u v e h f = h e refl f
      by_parts true true false u v e h f = absurd (cc)
      by_parts true false c u v e h f = absurd (cc)
      by_parts false b c u v e h f = absurd (cc)
