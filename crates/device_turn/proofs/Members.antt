-- Seats come and go.
use Rattle.std.proofs.Common.{
  ◌≡◌,
  ◌≢◌,
  ℕ,
  ◌+◌,
  ◌<◌,
  ◌≤◌,
  ◌==◌,
  ◌||◌,
  zero,
  suc,
  true,
  false,
  List,
  [],
  ◌∷◌,
  ◌++◌,
  ◌⊎◌,
  length,
  set,
  slice_index,
  Option,
  None,
  Box,
  Some,
  arith,
  refl,
  sym,
  ap,
  ◌∙◌,
  subst,
  inl,
  inr,
}
use Rattle.std.proofs.lemmas.Bool.Decides.{nat_tests}
use mathlib.Core.Option.{some, some-injective, some-ne-none}
use lib.ListN.{get_elem?}
use Rattle.atomic_table.specs.Table.{Splits, Joins, Final, Seen, opening}
use Rattle.atomic_table.proofs.Lists.{at_longer, set_else}
use Rattle.device_turn.specs.declared.view.Stage.{Stage}
use Rattle.device_turn.specs.declared.view.Stage.TheVariants.{Away, Turn, Out}
use Rattle.device_turn.specs.declared.view.View.{View}
use Rattle.device_turn.specs.Answers.{MayLeave}
use Rattle.device_turn.specs.Rule.{Mode, free, taken, out, stage_at, IsNamed, Names, Still, Without, has, owned, Fits, Kept, KeptBy, boxed, counted, counts_in, newcomer, both, spent, view, zeros}
use Rattle.device_turn.proofs.Views.{Apart, apart_set, at_each, named_still, others_stage, own_stage, without}
use Rattle.device_turn.proofs.Worlds.{Homes, World, kept, world, own_has}

at_end : {A : Type 0} (l : List A) (a b : A) (j : ℕ) → get_elem? (l ++ a ∷ []) j ≡ some b → (get_elem? l j ≡ some b) ⊎ ((j ≡ length l) × (a ≡ b))
at_end [] a b zero e = inr (refl, some-injective a b e)
at_end [] a b (suc j) e = absurd (some-ne-none b (sym e))
at_end (x ∷ xs) a b zero e = inl e
at_end (x ∷ xs) a b (suc j) e = elim (at_end xs a b j e) [ inl t ↦ inl t | inr t ↦ let i = t.0 in inr (omega arith, t.1) ]

at_below : {A : Type 0} (l : List A) (i : ℕ) (a : A) → get_elem? l i ≡ some a → i < length l
at_below [] i a e = absurd (some-ne-none a (sym e))
at_below (x ∷ xs) zero a e = omega arith
at_below (x ∷ xs) (suc i) a e = let h = at_below xs i a e in omega arith

-- what holds of each of a list and of one more
with_end : {A : Type 0} (F : ℕ → A → Type 0) (l : List A) (w : A) →
    ((i : ℕ) (a : A) → get_elem? l i ≡ some a → F i a) → F (length l) w → (i : ℕ) (a : A) →
    get_elem? (l ++ w ∷ []) i ≡ some a → F i a
with_end {A} F l w all last i a now = elim (at_end l w a i now) [
  | inl t ↦ all i a t
  | inr t ↦ let G : A → Type 0 = λ x. F i x in let H : ℕ → Type 0 = λ j. F j w in subst G t.1 (subst H (sym t.0) last)
]

length_set : {A : Type 0} (l : List A) (i : ℕ) (a : A) → length (set l i a) ≡ length l
length_set [] i a = refl
length_set (x ∷ xs) zero a = refl
length_set (x ∷ xs) (suc i) a = let h = length_set xs i a in omega arith

has_one : (k n x : ℕ) → has k ((n, x) ∷ []) ≡ true → k ≡ n
has_one k n x h = (elim (n == k) as (λ b. (n == k) ≡ b → (b || false) ≡ true → k ≡ n) [ true ↦ λ t f. grind (arith, nat_tests, t) | false ↦ λ t f. cc ]) refl h

still_append : (ws : List ℕ) (es fs : List (ℕ × ℕ)) → Still ws es → Still ws fs → Still ws (es ++ fs)
still_append ws [] fs s t = t
still_append ws (e ∷ es) fs s t = (s.0, still_append ws es fs s.1 t)

without_append : (k : ℕ) (es fs : List (ℕ × ℕ)) → Without k es → Without k fs → Without k (es ++ fs)
without_append k [] fs s t = t
without_append k (e ∷ es) fs s t = (s.0, without_append k es fs s.1 t)

has_append : (k : ℕ) (es fs : List (ℕ × ℕ)) → has k (es ++ fs) ≡ true → (has k es ≡ true) ⊎ (has k fs ≡ true)
has_append k [] fs h = inr h
has_append k (e ∷ es) fs h = (elim (e.0 == k) as (λ b. (b || has k (es ++ fs)) ≡ true → ((b || has k es) ≡ true) ⊎ (has k fs ≡ true)) [
  | true ↦ λ f. inl refl
  | false ↦ λ f. has_append k es fs f
]) h

has_either : (k : ℕ) (es fs : List (ℕ × ℕ)) → (has k es ≡ true) ⊎ (has k fs ≡ true) → has k (es ++ fs) ≡ true
has_either k [] fs (inl h) = cc
has_either k [] fs (inr h) = h
has_either k (e ∷ es) fs h = (elim (e.0 == k) as (λ b. ((b || has k es) ≡ true) ⊎ (has k fs ≡ true) → (b || has k (es ++ fs)) ≡ true) [
  | true ↦ λ f. refl
  | false ↦ λ f. has_either k es fs f
]) h

-- what a seat has taken in, where it takes in the next one
pub has_next : (k n : ℕ) (x : ℕ) (us vs : List (ℕ × ℕ)) → k < n + 1 → (k < n → has k vs ≡ true) → has k (((n, x) ∷ us) ++ vs) ≡ true
has_next k n x us vs low before = (elim (n == k) as (λ b. (n == k) ≡ b → (b || has k (us ++ vs)) ≡ true) [
  | true ↦ λ t. refl
  | false ↦ λ t. has_either k us vs (inr (before (let ne : n ≢ k = (λ e. let yes : (n == k) ≡ true = grind (arith, nat_tests, e) in cc) in omega arith)))
]) refl

-- what is kept of a holder in its room is kept of the holder
pub kept_value : {P H A : Type 0} (keeps : P → H → Type 0) (q : Option P) (b : Box H A) (h : H) → h ≡ b.value → KeptBy (boxed keeps) q b → KeptBy keeps q h
kept_value keeps None b h is kept = absurd kept
kept_value keeps (Some p) b h is kept = subst (keeps p) (sym is) kept

-- and the other way round; so it may go back
kept_boxed : {P H A : Type 0} (keeps : P → H → Type 0) (q : Option P) (b : Box H A) → KeptBy keeps q b.value → KeptBy (boxed keeps) q b
kept_boxed keeps None b kept = absurd kept
kept_boxed keeps (Some p) b kept = kept

pub may_boxed : {P H A : Type 0} (keeps : P → H → Type 0) (counts : H → List ℕ) (v : View (Option P)) (b : Box H A) →
    MayLeave (KeptBy keeps) counts v b.value → MayLeave (KeptBy (boxed keeps)) (counts_in counts) v b
may_boxed keeps counts v b may = (kept_boxed keeps v.pledge b may.0, may.1)

module _ {H Q : Type 0} (fit : Q → H → Type 0) (counts : H → List ℕ) where
  names_more : (m : Mode) (vs : List (View Q)) (n : ℕ) (id : ℕ) (v w x : View Q) → get_elem? vs id ≡ some v →
      w.number ≡ v.number → Names m vs n → Names m (set vs id w ++ x ∷ []) n
  names_more free vs n id v w x at same t = t
  names_more (taken h) vs n id v w x at same t = let s = named_still vs id h n v w at same t in (s.0, at_longer (set vs id w) (x ∷ []) h s.0 s.1, s.2)
  names_more (out h) vs n id v w x at same t = let s = named_still vs id h n v w at same t in (s.0, at_longer (set vs id w) (x ∷ []) h s.0 s.1, s.2)

  -- past the views nobody has the turn
  rests_past : (m : Mode) (vs : List (View Q)) (n j : ℕ) → length vs ≤ j → Names m vs n → Away ≡ stage_at m j
  rests_past free vs n j past t = refl
  rests_past (taken h) vs n j past t = let low = at_below vs h t.0 t.1 in sym (others_stage h j Turn Away (λ e. omega arith))
  rests_past (out h) vs n j past t = let low = at_below vs h t.0 t.1 in sym (others_stage h j Out Away (λ e. omega arith))

  module _ (p : Q) (made turn : ℕ) (ws : List ℕ) (hs : Homes H) (vs : List (View Q)) (m : Mode) (id : ℕ) (v : View Q) (at : get_elem? vs id ≡ some v) where
    -- split
    other_counted : World fit counts p m made turn ws hs vs → v.live ≡ true → v.number ≡ 0 → (i : ℕ) (u : View Q) →
        i ≢ id → get_elem? vs i ≡ some u → Fits p (v.made + 1) m ws i u
    other_counted w live zero_number i u other now =
        let f = w.fits i u now in
        let made_is = (w.fits id v at).first live zero_number in record {
          stage = f.stage;
          pledged = f.pledged;
          words = f.words;
          loaded = f.loaded;
          fresh = f.fresh;
          alive = f.alive;
          below = λ k h. let low = f.below k h in omega arith;
          apart = f.apart;
          first = λ l z.
              let one : has u.number (owned u) ≡ true = own_has fit counts p made turn ws hs vs i u now l in
              let two : has v.number (owned v) ≡ true = own_has fit counts p made turn ws hs vs id v at live in
              let same : u.number ≡ v.number = z ∙ sym zero_number in
              absurd (other (w.apart i id u.number u v now at one (subst (λ k. has k (owned v) ≡ true) (sym same) two)));
        }

    own_counted : World fit counts p m made turn ws hs vs → v.live ≡ true → v.number ≡ 0 → Fits p (v.made + 1) m ws id (counted v)
    own_counted w live zero_number =
        let f = w.fits id v at in
        let made_is = f.first live zero_number in record {
          stage = f.stage;
          pledged = f.pledged;
          words = f.words;
          loaded = f.loaded;
          fresh = f.fresh;
          alive = f.alive;
          below = λ k h. let low = f.below k h in omega arith;
          apart = f.apart;
          first = λ l z. refl;
        }

    new_fits : World fit counts p m made turn ws hs vs → v.live ≡ true → v.number ≡ 0 → (j : ℕ) → length vs ≤ j → Fits p (v.made + 1) m ws j (newcomer v)
    new_fits w live zero_number j past =
        let f = w.fits id v at in
        let made_is = f.first live zero_number in
        let low = f.below v.number (own_has fit counts p made turn ws hs vs id v at live) in record {
          stage = rests_past m vs turn j past w.names;
          pledged = λ l. f.pledged live;
          words = (w.unmade v.made (omega arith), tt);
          loaded = tt;
          fresh = λ e. refl;
          alive = λ e. refl;
          below = λ k h. let e = has_one k v.made 0 h in omega arith;
          apart = (tt, tt);
          first = λ l z. absurd (omega arith);
        }

    new_apart : World fit counts p m made turn ws hs vs → v.live ≡ true → v.number ≡ 0 → Apart (set vs id (counted v) ++ newcomer v ∷ [])
    new_apart w live zero_number i j k x y hx hy ox oy =
        let made_is = (w.fits id v at).first live zero_number in
        let l = set vs id (counted v) in
        let low : (i : ℕ) (u : View Q) → get_elem? l i ≡ some u → has k (owned u) ≡ true → k < made =
        at_each (λ i u. has k (owned u) ≡ true → k < made) vs id (counted v) ((w.fits id v at).below k) (λ i u other now. (w.fits i u now).below k) in
        elim (at_end l (newcomer v) x i hx) [
          | inl s ↦ elim (at_end l (newcomer v) y j hy) [
            | inl t ↦ apart_set vs id v (counted v) at (λ k. refl) w.apart i j k x y s t ox oy
            | inr t ↦
                let a = low i x s ox in
                let b = has_one k v.made 0 (subst (λ (u : View Q). has k (owned u) ≡ true) (sym t.1) oy) in absurd (omega arith)
          ]
          | inr s ↦
              let b = has_one k v.made 0 (subst (λ (u : View Q). has k (owned u) ≡ true) (sym s.1) ox) in
              elim (at_end l (newcomer v) y j hy) [
                | inl t ↦ let a = low j y t oy in absurd (omega arith)
                | inr t ↦ s.0 ∙ sym t.0
              ]
        ]

    pub splits_world : World fit counts p m made turn ws hs vs → v.live ≡ true → v.number ≡ 0 → v.made < 6 →
        World fit counts p m (v.made + 1) turn ws hs (set vs id (counted v) ++ newcomer v ∷ [])
    splits_world w live zero_number room =
        let made_is = (w.fits id v at).first live zero_number in record {
          six = w.six;
          few = omega arith;
          names = names_more m vs turn id v (counted v) (newcomer v) at refl w.names;
          slot = w.slot;
          fits = with_end (Fits p (v.made + 1) m ws) (set vs id (counted v)) (newcomer v)
              (at_each (Fits p (v.made + 1) m ws) vs id (counted v) (own_counted w live zero_number)
              (λ i u other now. other_counted w live zero_number i u other now))
              (new_fits w live zero_number (length (set vs id (counted v))) (let e = length_set vs id (counted v) in omega arith));
          apart = new_apart w live zero_number;
          unmade = λ k past. w.unmade k (omega arith);
        }

  pub splits_seat : (p : Q) (id : ℕ) (v : View Q) → v.live ≡ true → v.number ≡ 0 → v.made < 6 → Splits (Kept fit counts p) id v (counted v) (newcomer v)
  splits_seat p id v live zero_number room s k at =
      let P : List ℕ → Type 0 = λ ws. Kept fit counts p (record { words = ws; homes = s.homes; views = set s.views id (counted v) ++ newcomer v ∷ [] }) in
      subst P (sym k.words) (kept fit counts p k.mode (v.made + 1) k.turn k.ws s.homes (set s.views id (counted v) ++ newcomer v ∷ [])
      (splits_world p k.made k.turn k.ws s.homes s.views k.mode id v at (world fit counts p s k) live zero_number room))

  -- the device is at home where a seat that owns every number rests
  module _ (p : Q) (made turn : ℕ) (ws : List ℕ) (hs : Homes H) (vs : List (View Q)) (id : ℕ) (v : View Q)
      (at : get_elem? vs id ≡ some v) (live : v.live ≡ true) (zero_number : v.number ≡ 0) (rests : v.stage ≡ Away)
      (all : (k : ℕ) → k < v.made → has k (owned v) ≡ true) where
    nobody : (h : ℕ) (m : Mode) (st : Stage) → (Away ≡ st → ⊥) → st ≡ stage_at m h → (x : View Q) →
        get_elem? vs h ≡ some x → World fit counts p m made turn ws hs vs → ⊥
    nobody h m st busy is x now w =
        let f = w.fits h x now in
        let x_busy : x.stage ≡ st = f.stage ∙ sym is in
        let x_live : x.live ≡ true = (elim x.live as (λ b. x.live ≡ b →
        b ≡ true) [ true ↦ λ t. refl | false ↦ λ t. absurd (busy (sym (f.alive t) ∙ x_busy)) ]) refl in
        let low = f.below x.number (own_has fit counts p made turn ws hs vs h x now x_live) in
        let made_is = (w.fits id v at).first live zero_number in
        let mine = all x.number (omega arith) in
        let same : h ≡ id = w.apart h id x.number x v now at (own_has fit counts p made turn ws hs vs h x now x_live) mine in
        let one : x ≡ v = some-injective x v (sym now ∙ (ap (get_elem? vs) same ∙ at)) in
        busy (sym (ap (λ (u : View Q). u.stage) one ∙ rests) ∙ x_busy)

    abbrev pub AtHome : Type 0
    AtHome = (d : H) × (hs ≡ some (Some d) ∷ []) × fit v.pledge d × Still (counts d) (owned v)

    is_home : (m : Mode) → World fit counts p m made turn ws hs vs → AtHome
    is_home free w =
        let f = w.fits id v at in
        (w.slot.0, w.slot.1, subst (λ q. fit q w.slot.0) (sym (f.pledged live)) w.slot.2, subst (λ c. Still c (owned v)) (sym w.slot.3) f.words)
    is_home (taken h) w = absurd (nobody h (taken h) Turn (λ e. cc) (sym (own_stage h Turn Away)) w.names.0 w.names.1 w)
    is_home (out h) w = absurd (nobody h (out h) Out (λ e. cc) (sym (own_stage h Out Away)) w.names.0 w.names.1 w)

  -- the first seat alone
  first_fits : (p : Q) (i : ℕ) (v : View Q) → get_elem? (view 0 1 p ∷ []) i ≡ some v → Fits p 1 free zeros i v
  first_fits p zero v at = subst (Fits p 1 free zeros 0) (some-injective (view 0 1 p) v at) (record {
    stage = refl;
    pledged = λ _. refl;
    words = (refl, tt);
    loaded = tt;
    fresh = λ _. refl;
    alive = λ e. absurd (cc);
    below = λ k h. let e = has_one k 0 0 h in omega (arith, e);
    apart = (tt, tt);
    first = λ _ _. refl;
  })
  first_fits p (suc i) v at = absurd (some-ne-none v (sym at))

  first_apart : (p : Q) → Apart (view 0 1 p ∷ [])
  first_apart p zero zero k v u here there x y = refl
  first_apart p zero (suc j) k v u here there x y = absurd (some-ne-none u (sym there))
  first_apart p (suc i) j k v u here there x y = absurd (some-ne-none v (sym here))

  no_words : (k : ℕ) → slice_index zeros k ≡ 0
  no_words zero = refl
  no_words (suc zero) = refl
  no_words (suc (suc zero)) = refl
  no_words (suc (suc (suc zero))) = refl
  no_words (suc (suc (suc (suc zero)))) = refl
  no_words (suc (suc (suc (suc (suc zero))))) = refl
  no_words (suc (suc (suc (suc (suc (suc k)))))) = refl

  -- a holder that was never used is put into its place
  pub opens : (p : Q) (h : H) → fit p h → counts h ≡ zeros → Kept fit counts p (opening (0 ∷ 0 ∷ 0 ∷ 0 ∷ 0 ∷ 0 ∷ 0 ∷ []) (Some h ∷ []) (view 0 1 p))
  opens p h keeps unused = kept fit counts p free 1 0 zeros (some (Some h) ∷ []) (view 0 1 p ∷ []) (record {
    six = refl;
    few = omega arith;
    names = refl;
    slot = (h, refl, keeps, unused);
    fits = first_fits p;
    apart = first_apart p;
    unmade = λ k _. no_words k;
  })

  -- what is found at the end
  pub closes : (p : Q) (id : ℕ) (v : View Q) (xs : List (Option H)) (words : List ℕ) → v.live ≡ true →
      v.number ≡ 0 → v.stage ≡ Away → ((k : ℕ) → k < v.made → has k (owned v) ≡ true)
      → Final (Seen (Kept fit counts p) id v) words xs → (d : H) × (get_elem? xs 0 ≡ some (Some d)) × fit v.pledge d × Still (counts d) (owned v)
  closes p id v xs words live zero_number rests all final =
      let s = final.0 in
      let k = final.1.0 in
      let home = is_home p k.made k.turn k.ws s.homes s.views id v final.1.1 live zero_number rests all k.mode (world fit counts p s k) in
      (home.0, final.4 0 (Some home.0) (ap (λ (hs : Homes H). get_elem? hs 0) home.1), home.2, home.3)

  module _ (nothing p : Q) (made turn : ℕ) (ws : List ℕ) (hs : Homes H) (vs : List (View Q)) (m : Mode)
      (id other : ℕ) (v u : View Q) (at : get_elem? vs id ≡ some v) (there : get_elem? vs other ≡ some u)
      (differ : other ≢ id)
      (live : v.live ≡ true) (also : u.live ≡ true) (rests : u.stage ≡ Away) (w : World fit counts p m made turn ws hs vs) where
    -- which number is whose
    own_parts : (k : ℕ) → has k (owned (both v u)) ≡ true → (has k (owned v) ≡ true) ⊎ (has k (owned u) ≡ true)
    own_parts k h =
        let h' : ((v.number == k) || has k (((u.number, u.word) ∷ u.joined) ++ v.joined)) ≡ true = rw live at h in
        rw (live, also) ((elim (v.number == k) as (λ b. (b || has k (((u.number, u.word) ∷ u.joined) ++ v.joined))
        ≡ true → ((b || has k v.joined) ≡ true) ⊎ (has k ((u.number, u.word) ∷ u.joined) ≡ true)) [
          | true ↦ λ f. inl refl
          | false ↦ λ f. elim (has_append k ((u.number, u.word) ∷ u.joined) v.joined f) [ inl t ↦ inr t | inr t ↦ inl t ]
        ]) h')

    joined_fits : Fits p made m ws id (both v u)
    joined_fits =
        let f = w.fits id v at in
        let g = w.fits other u there in
        let f_words : Still ws ((v.number, v.word) ∷ v.joined) = rw live at f.words in
        let g_words : Still ws ((u.number, u.word) ∷ u.joined) = rw also at g.words in
        let mine : has v.number (owned v) ≡ true = own_has fit counts p made turn ws hs vs id v at live in
        let lacks : has v.number (owned u) ≡ false = (elim (has v.number (owned u)) as (λ b. has v.number (owned u) ≡ b → b ≡ false) [
          | true ↦ λ t. absurd (differ (w.apart other id v.number u v there at t mine))
          | false ↦ λ t. refl
        ]) refl in
        let lacks' : has v.number ((u.number, u.word) ∷ u.joined) ≡ false = rw also at lacks in record {
          stage = f.stage;
          pledged = f.pledged;
          words = rw live (f_words.0, still_append ws ((u.number, u.word) ∷ u.joined) v.joined g_words f_words.1);
          loaded = f.loaded;
          fresh = f.fresh;
          alive = f.alive;
          below = λ k h. elim (own_parts k h) [ inl t ↦ f.below k t | inr t ↦ g.below k t ];
          apart = (
            f.apart.0,
            without_append v.number ((u.number, u.word) ∷ u.joined) v.joined
                (without v.number ((u.number, u.word) ∷ u.joined) lacks') f.apart.1,
          );
          first = f.first;
        }

    spent_fits : Fits p made m ws other (spent nothing)
    spent_fits =
        let g = w.fits other u there in record {
          stage = sym rests ∙ g.stage;
          pledged = λ l. cc;
          words = tt;
          loaded = tt;
          fresh = λ e. refl;
          alive = λ e. refl;
          below = λ k h. cc;
          apart = (tt, tt);
          first = λ l. cc;
        }

    -- the view from which a number comes
    abbrev From : ℕ → ℕ → Type 0
    From i k = (i' : ℕ) × (y : View Q) × (get_elem? vs i' ≡ some y) × (has k (owned y) ≡ true) × (i ≢ other) × ((i' ≡ i) ⊎ ((i' ≡ other) × (i ≡ id)))

    comes : (i k : ℕ) (x : View Q) → get_elem? (set (set vs id (both v u)) other (spent nothing)) i ≡ some x → has k (owned x) ≡ true → From i k
    comes i k x now h =
        at_each (λ i x. has k (owned x) ≡ true → From i k) (set vs id (both v u)) other (spent nothing) (λ e. cc)
        (λ i x ne now'. at_each (λ i x. i ≢ other → has k (owned x) ≡ true → From i k) vs id (both v u)
        (λ ne e. elim (own_parts k e) [
          | inl t ↦ (id, v, at, t, ne, inl refl)
          | inr t ↦ (other, u, there, t, ne, inr (refl, refl))
        ])
        (λ i x far now ne e. (i, x, now, e, ne, inl refl)) i x now' ne)
        i x now h

    joined_apart : Apart (set (set vs id (both v u)) other (spent nothing))
    joined_apart i j k x y hx hy ox oy =
        let a = comes i k x hx ox in
        let b = comes j k y hy oy in
        let same : a.0 ≡ b.0 = w.apart a.0 b.0 k a.1 b.1 a.2 b.2 a.3 b.3 in
        elim a.5 [
          | inl s ↦ elim b.5 [
            | inl t ↦ sym s ∙ same ∙ t
            | inr t ↦ absurd (a.4 (sym s ∙ same ∙ t.0))
          ]
          | inr s ↦ elim b.5 [
            | inl t ↦ absurd (b.4 (sym t ∙ sym same ∙ s.0))
            | inr t ↦ s.1 ∙ sym t.1
          ]
        ]

    named_joined : (h : ℕ) → h ≢ other → IsNamed vs h turn → IsNamed (set (set vs id (both v u)) other (spent nothing)) h turn
    named_joined h far t =
        let s = named_still vs id h turn v (both v u) at refl t in
        (s.0, set_else (set vs id (both v u)) other h (spent nothing) far ∙ s.1, s.2)

    names_joined : (m' : Mode) → m ≡ m' → Names m' vs turn → Names m' (set (set vs id (both v u)) other (spent nothing)) turn
    names_joined free is t = t
    names_joined (taken h) is t =
        named_joined h (λ e. let clash : Away ≡ Turn = sym rests ∙ (w.fits other u there).stage ∙ ap
        (λ m. stage_at m other) is ∙ ap (λ j. stage_at (taken h) j) (sym e) ∙ own_stage h Turn Away in cc) t
    names_joined (out h) is t =
        named_joined h (λ e. let clash : Away ≡ Out = sym rests ∙ (w.fits other u there).stage ∙ ap
        (λ m. stage_at m other) is ∙ ap (λ j. stage_at (out h) j) (sym e) ∙ own_stage h Out Away in cc) t

    -- join
    pub joins_world : World fit counts p m made turn ws hs (set (set vs id (both v u)) other (spent nothing))
    joins_world = record {
      six = w.six;
      few = w.few;
      names = names_joined m refl w.names;
      slot = w.slot;
      fits = at_each (Fits p made m ws) (set vs id (both v u)) other (spent nothing) spent_fits
          (λ i x ne now. at_each (Fits p made m ws) vs id (both v u) joined_fits (λ i x far now. w.fits i x now) i x now);
      apart = joined_apart;
      unmade = w.unmade;
    }

  pub joins_seat : (nothing p : Q) (id other : ℕ) (v u : View Q) → v.live ≡ true → u.live ≡ true → u.stage ≡ Away →
      Joins (Kept fit counts p) id v other u (both v u) (spent nothing)
  joins_seat nothing p id other v u live also rests s k at differ now =
      let there : get_elem? s.views other ≡ some u = sym (set_else s.views id other (both v u) differ) ∙ now in
      let P : List ℕ → Type 0 = λ ws. Kept fit counts p (record {
        words = ws;
        homes = s.homes;
        views =
            set (set s.views id (both v u)) other (spent nothing);
      }) in
      subst P (sym k.words) (kept fit counts p k.mode k.made k.turn k.ws s.homes (set (set s.views id (both v u)) other (spent nothing))
      (joins_world nothing p k.made k.turn k.ws s.homes s.views k.mode id other v u at there differ live also rests (world fit counts p s k)))

-- seat 0 owns each number, where it has taken in each other one
pub owns_all : {Q : Type 0} (v : View Q) (n : ℕ) → v.live ≡ true → v.number ≡ 0 →
    ((k : ℕ) → 0 < k → k < n → has k v.joined ≡ true) → (k : ℕ) → k < n → has k (owned v) ≡ true
owns_all v n live number others zero low = rw (live, number) refl
owns_all v n live number others (suc k) low =
    let no : (0 == suc k) ≡ false = grind (arith, nat_tests) in
    rw (live, number, no) (others (suc k) (omega arith) low)
