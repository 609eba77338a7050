-- Views of the seats of a turn, one of which changes.
use Rattle.std.proofs.Common.{
  ◌≡◌,
  ◌≢◌,
  ℕ,
  ◌+◌,
  ◌<◌,
  ◌==◌,
  ◌||◌,
  zero,
  suc,
  true,
  false,
  List,
  [],
  ◌∷◌,
  length,
  set,
  slice_index,
  Option,
  Some,
  None,
  arith,
  refl,
  sym,
  ap,
  ◌∙◌,
  subst,
  inl,
  inr,
  get_or-set_other,
  get_or-set_same,
  if◌then◌else◌,
}
use Rattle.std.proofs.lemmas.Bool.Decides.{nat_tests}
use mathlib.Core.Option.{some, some-injective, some-ne-none}
use mathlib.Core.Logic.{dite}
use native.Mathlib.Decide.{ℕ_discrete}
use lib.ListN.{get_elem?}
use Rattle.atomic_table.proofs.Lists.{at_set, set_else}
use Rattle.device_turn.specs.declared.view.Stage.{Stage}
use Rattle.device_turn.specs.declared.view.Stage.TheVariants.{Away, Turn, Out}
use Rattle.device_turn.specs.declared.view.View.{View}
use Rattle.device_turn.specs.Rule.{Mode, free, taken, out, stage_at, IsNamed, Still, Without, has, owned, KeptBy, Fits, staged, worded, noted, away}

pub set_there : {A : Type 0} (l : List A) (i : ℕ) (a b : A) → get_elem? l i ≡ some a → get_elem? (set l i b) i ≡ some b
set_there [] i a b e = absurd (some-ne-none a (sym e))
set_there (x ∷ xs) zero a b e = refl
set_there (x ∷ xs) (suc i) a b e = set_there xs i a b e

-- what holds of the one that changed and of the others holds of each
pub at_each : {A : Type 0} (F : ℕ → A → Type 0) (l : List A) (id : ℕ) (w : A) → F id w → ((i : ℕ) (a : A) → i ≢ id → get_elem? l i ≡ some a → F i a)
    → (i : ℕ) (a : A) → get_elem? (set l id w) i ≡ some a → F i a
at_each {A} F l id w here others i a now = elim (at_set l id i w a now) [
  | inl t ↦ let G : A → Type 0 = λ x. F i x in let H : ℕ → Type 0 = λ j. F j w in subst G t.1 (subst H (sym t.0) here)
  | inr t ↦ others i a t.0 t.1
]

pub others_stage : (h i : ℕ) (a b : Stage) → i ≢ h → (if i == h then a else b) ≡ b
others_stage h i a b other = let no : (i == h) ≡ false = grind (arith, nat_tests, other) in rw no refl

pub own_stage : (h : ℕ) (a b : Stage) → (if h == h then a else b) ≡ a
own_stage h a b = let yes : (h == h) ≡ true = grind (arith, nat_tests) in rw yes refl

pub is_taken : (m : Mode) (id : ℕ) → Turn ≡ stage_at m id → m ≡ taken id
is_taken free id e = cc
is_taken (taken h) id e = (elim (id == h) as (λ b. (id == h) ≡ b → Turn ≡ (if b then Turn else Away) → taken h ≡ taken id) [
  | true ↦ λ t f. let same : h ≡ id = grind (arith, nat_tests, t) in ap taken same
  | false ↦ λ t f. cc
]) refl e
is_taken (out h) id e = (elim (id == h) as (λ b. Turn ≡ (if b then Out else Away) → out h ≡ taken id) [ true ↦ λ f. cc | false ↦ λ f. cc ]) e

pub is_out : (m : Mode) (id : ℕ) → Out ≡ stage_at m id → m ≡ out id
is_out free id e = cc
is_out (taken h) id e = (elim (id == h) as (λ b. Out ≡ (if b then Turn else Away) → taken h ≡ out id) [ true ↦ λ f. cc | false ↦ λ f. cc ]) e
is_out (out h) id e = (elim (id == h) as (λ b. (id == h) ≡ b → Out ≡ (if b then Out else Away) → out h ≡ out id) [
  | true ↦ λ t f. let same : h ≡ id = grind (arith, nat_tests, t) in ap out same
  | false ↦ λ t f. cc
]) refl e

pub still_set : (ws : List ℕ) (k x : ℕ) (es : List (ℕ × ℕ)) → Without k es → Still ws es → Still (set ws k x) es
still_set ws k x [] h s = tt
still_set ws k x (e ∷ es) h s = let ne : e.0 ≢ k = h.0 in (rw get_or-set_other s.0, still_set ws k x es h.1 s.1)

pub without : (k : ℕ) (es : List (ℕ × ℕ)) → has k es ≡ false → Without k es
without k [] h = tt
without k (e ∷ es) h = (elim (e.0 == k) as (λ b. (e.0 == k) ≡ b → (b || has k es) ≡ false → (e.0 ≢ k) × Without k es) [
  | true ↦ λ t f. cc
  | false ↦ λ t f. ((λ same. let yes : (e.0 == k) ≡ true = grind (arith, nat_tests, same) in cc), without k es f)
]) refl h

-- what keeps each promise still keeps the one that was made
pub kept_through : {P H : Type 0} (keeps : P → H → Type 0) (o : Option P) (a b : H) → ((p : P) → keeps p a → keeps p b) → KeptBy keeps o a → KeptBy keeps o b
kept_through keeps None a b each h = h
kept_through keeps (Some p) a b each h = each p h

module _ {Q : Type 0} where
  -- the same numbers are owned
  abbrev pub Alike : View Q → View Q → Type 0
  Alike w v = (k : ℕ) → has k (owned w) ≡ has k (owned v)

  abbrev pub Apart : List (View Q) → Type 0
  Apart vs = (i j k : ℕ) (v u : View Q) → get_elem? vs i ≡ some v → get_elem? vs j ≡ some u → has k (owned v) ≡ true → has k (owned u) ≡ true → i ≡ j

  before : (vs : List (View Q)) (id : ℕ) (v w : View Q) → get_elem? vs id ≡ some v → Alike w v → (i : ℕ) (x : View Q) → get_elem? (set vs id w) i ≡ some x
      → (y : View Q) × (get_elem? vs i ≡ some y) × Alike x y
  before vs id v w at alike = at_each (λ i x. (y : View Q) × (get_elem? vs i ≡ some y) × Alike x y) vs id w
      (v, at, alike) (λ i x other now. (x, now, λ k. refl))

  pub apart_set : (vs : List (View Q)) (id : ℕ) (v w : View Q) → get_elem? vs id ≡ some v → Alike w v → Apart vs → Apart (set vs id w)
  apart_set vs id v w at alike apart i j k x y hx hy ox oy =
      let a = before vs id v w at alike i x hx in
      let b = before vs id v w at alike j y hy in
      apart i j k a.0 b.0 a.1 b.1 (sym (a.2 k) ∙ ox) (sym (b.2 k) ∙ oy)

  pub named : (vs : List (View Q)) (id n : ℕ) (u w : View Q) → get_elem? vs id ≡ some u → w.number ≡ u.number → IsNamed vs id n → IsNamed (set vs id w) id n
  named vs id n u w at same t =
      let e : t.0 ≡ u = some-injective t.0 u (sym t.1 ∙ at) in
      (w, set_there vs id u w at, t.2 ∙ ap (λ v. v.number + 1) e ∙ ap (λ k. k + 1) (sym same))

  -- the holder is named after another seat changed, or kept its number
  pub named_still : (vs : List (View Q)) (id h n : ℕ) (u w : View Q) → get_elem? vs id ≡ some u →
      w.number ≡ u.number → IsNamed vs h n → IsNamed (set vs id w) h n
  named_still vs id h n u w at same t =
      dite (ℕ_discrete h id)
      (λ e. subst (λ j. IsNamed (set vs id w) j n) (sym e) (named vs id n u w at same (subst (λ j. IsNamed vs j n) e t)))
      (λ ne. (t.0, set_else vs id h w ne ∙ t.1, t.2))

  -- a seat with another mode
  pub restage : (p : Q) (made : ℕ) (m m' : Mode) (ws : List ℕ) (i : ℕ) (v : View Q) → stage_at m' i ≡ stage_at m i →
      Fits p made m ws i v → Fits p made m' ws i v
  restage p made m m' ws i v same f = record {
    stage = f.stage ∙ sym same;
    pledged = f.pledged;
    words = f.words;
    loaded = f.loaded;
    fresh = f.fresh;
    alive = f.alive;
    below = f.below;
    apart = f.apart;
    first = f.first;
  }

  pub restaged : (p : Q) (made : ℕ) (m m' : Mode) (ws : List ℕ) (i : ℕ) (v : View Q) (st : Stage) → v.live ≡ true →
      st ≡ stage_at m' i → (st ≡ Away → v.loaded ≡ []) → Fits p made m ws i v
      → Fits p made m' ws i (staged st v)
  restaged p made m m' ws i v st live stage fresh f = record {
    stage = stage;
    pledged = f.pledged;
    words = f.words;
    loaded = f.loaded;
    fresh = fresh;
    alive = λ dead. cc;
    below = f.below;
    apart = f.apart;
    first = f.first;
  }

  pub away_fits : (p : Q) (made : ℕ) (m m' : Mode) (ws : List ℕ) (i : ℕ) (v : View Q) → Away ≡ stage_at m' i →
      Fits p made m ws i v → Fits p made m' ws i (away v)
  away_fits p made m m' ws i v stage f = record {
    stage = stage;
    pledged = f.pledged;
    words = f.words;
    loaded = tt;
    fresh = λ e. refl;
    alive = λ dead. refl;
    below = f.below;
    apart = (tt, f.apart.1);
    first = f.first;
  }

  pub noted_fits : (p : Q) (made : ℕ) (m : Mode) (ws : List ℕ) (i k n : ℕ) (v : View Q) → Turn ≡ v.stage →
      k ≢ v.number → slice_index ws k ≡ n → Fits p made m ws i v → Fits p made m ws i (noted k n v)
  noted_fits p made m ws i k n v turn other is f = record {
    stage = f.stage;
    pledged = f.pledged;
    words = f.words;
    loaded = (is, f.loaded);
    fresh = λ e. cc;
    alive = f.alive;
    below = f.below;
    apart = ((other, f.apart.0), f.apart.1);
    first = f.first;
  }

  -- the seat's own word becomes x
  pub worded_words : (ws : List ℕ) (v : View Q) (x : ℕ) → v.number < length ws → v.live ≡ true →
      Without v.number v.joined → Still ws (owned v) → Still (set ws v.number x) (owned (worded x v))
  worded_words ws v x room live apart s =
      let here : slice_index (set ws v.number x) v.number ≡ x = rw get_or-set_same refl in
      let s' : (slice_index ws v.number ≡ v.word) × Still ws v.joined = rw live at s in
      rw live (here, still_set ws v.number x v.joined apart s'.1)

  pub worded_alike : (v : View Q) (x : ℕ) → Alike (worded x v) v
  worded_alike v x k = elim v.live as (λ b. has k (if b then (v.number, x) ∷ v.joined else [])
      ≡ has k (if b then (v.number, v.word) ∷ v.joined else [])) [ true ↦ refl | false ↦ refl ]
