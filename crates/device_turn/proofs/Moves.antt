-- Each step of a turn keeps the rule.
use Rattle.std.proofs.Common.{
  ◌≡◌,
  ◌≢◌,
  ℕ,
  ◌+◌,
  ◌<◌,
  ◌≤◌,
  ◌==◌,
  ◌||◌,
  true,
  false,
  List,
  [],
  ◌∷◌,
  length,
  set,
  slice_index,
  slice_set,
  Option,
  Some,
  arith,
  refl,
  sym,
  ap,
  ◌∙◌,
  subst,
}
use Rattle.std.proofs.Math.Numerals.{add-one}
use Rattle.std.proofs.lemmas.List.{set-get_or, same_lists, get_or_default}
use Rattle.std.proofs.lemmas.Bool.Decides.{nat_tests}
use mathlib.Core.Option.{some, none}
use mathlib.Core.Logic.{dite}
use native.Mathlib.Decide.{ℕ_discrete}
use prog.Atomic.{either}
use lib.ListN.{get_elem?}
use Rattle.atomic_table.specs.Table.{State, Me, Act, keeps, takes, gives, Valid, Step, Allows, carried_after, homes_after, rest}
use Rattle.atomic_table.proofs.Lists.{set_again}
use Rattle.device_turn.specs.declared.view.Stage.TheVariants.{Away, Turn, Out}
use Rattle.device_turn.specs.declared.view.View.{View}
use Rattle.device_turn.specs.Rule.{Mode, free, taken, out, Still, has, owned, Fits, Kept, staged, worded, noted, away}
use Rattle.device_turn.specs.Steps.{Agrees, Takes, Notes, Looks, Fetches, Words, Returns, Ends}
use Rattle.device_turn.specs.Answers.{IsComplete, MayLeave}
use Rattle.device_turn.proofs.Views.{is_taken, is_out, own_stage}
use Rattle.device_turn.proofs.Worlds.{
  Homes,
  World,
  state,
  kept,
  world,
  takes_world,
  notes_world,
  fetches_world,
  returns_world,
  ends_world,
  words_world,
  busy_seat,
  busy_other,
}

-- the word of a seat is the one that is known of it
agrees : (ws : List ℕ) (k : ℕ) (es : List (ℕ × ℕ)) → Still ws es → Agrees k (slice_index ws k) es
agrees ws k [] s = tt
agrees ws k (e ∷ es) s = ((λ same. sym s.0 ∙ ap (slice_index ws) same), agrees ws k es s.1)

still_same : (k : ℕ) (xs ys : List ℕ) (es : List (ℕ × ℕ)) → has k es ≡ true → Still xs es → Still ys es → slice_index xs k ≡ slice_index ys k
still_same k xs ys [] h a b = cc
still_same k xs ys (e ∷ es) h a b = (elim (e.0 == k) as (λ t. (e.0 == k) ≡ t → (t || has k es) ≡ true → slice_index xs k ≡ slice_index ys k) [
  | true ↦ λ t f. let same : e.0 ≡ k = grind (arith, nat_tests, t) in subst (λ i. slice_index xs i ≡ slice_index ys i) same (a.0 ∙ sym b.0)
  | false ↦ λ t f. still_same k xs ys es f a.1 b.1
]) refl h

module _ {H Q : Type 0} (fit : Q → H → Type 0) (counts : H → List ℕ) where
  -- what a step gives
  abbrev Gives : Q → List ℕ → Homes H → List (View Q) → ℕ → Me (Option H) (View Q) → ℕ → (ℕ → ℕ) → (ℕ → Me (Option H) (View Q) → Type 0) → Type 0
  Gives p ws hs vs id me i f tells =
      (w : View Q) × (a : Act (Option H)) × Valid hs me.1 a
      × Kept fit counts p (record { words = slice_set ws i (f (slice_index ws i)); homes = homes_after hs me.1 a; views = slice_set vs id w })
      × tells (slice_index ws i) (w, carried_after me.1 a)

  -- a seat keeps its view
  stays : (p : Q) (turn : ℕ) (ws : List ℕ) (hs : Homes H) (vs : List (View Q)) (id : ℕ) (v : View Q) →
      get_elem? vs id ≡ some v → Kept fit counts p (state turn ws hs vs) →
      Kept fit counts p (state turn ws hs (set vs id v))
  stays p turn ws hs vs id v at k = let P : List (View Q) → Type 0 = λ x. Kept fit counts p (state turn ws hs x) in subst P (sym (set_again vs id v at)) k

  finds : (p : Q) (st : Step (Option H)) (ws : List ℕ) (hs : Homes H) (vs : List (View Q)) (id : ℕ)
      (me : Me (Option H) (View Q)) (n new : ℕ) → n ≢ 0 → n ≢ me.0.number + 1 → n ≤ 6 → get_elem? vs id ≡ some me.0
      → Kept fit counts p (state n ws hs vs) → Gives p (n ∷ ws) hs vs id me 0 (λ k. either (k == 0) new k) (Takes st me)
  finds p st ws hs vs id me n new some_seat other few at k =
      let no : (n == 0) ≡ false = grind (arith, nat_tests, some_seat) in
      rw no (me.0, keeps, tt, stays p n ws hs vs id me.0 at k, (refl, other, few))

  takes_from : (p : Q) (st : Step (Option H)) (id : ℕ) (me : Me (Option H) (View Q)) (m : Mode) (made n : ℕ)
      (ws : List ℕ) (hs : Homes H) (vs : List (View Q)) → World fit counts p m made n ws hs vs →
      get_elem? vs id ≡ some me.0 → me.0.live ≡ true → me.0.stage ≡ Away
      → Gives p (n ∷ ws) hs vs id me 0 (λ k. either (k == 0) (me.0.number + 1) k) (Takes st me)
  takes_from p st id me free made n ws hs vs w at live rests =
      let zero_word = w.names in
      rw zero_word (
        staged Turn me.0,
        keeps,
        tt,
        kept fit counts p (taken id) made (me.0.number + 1) ws hs
            (set vs id (staged Turn me.0)) (takes_world fit counts p made n ws hs vs id me.0 at live rests w),
        refl,
      )
  takes_from p st id me (taken h) made n ws hs vs w at live rests =
      let is = sym (own_stage h Turn Away) in
      let busy = busy_seat fit counts p made n ws hs vs h w.names.0 w.names.1 (taken h) Turn (λ e. cc) is w in
      let other = busy_other fit counts p made n ws hs vs h w.names.0 w.names.1 (taken h) Turn (λ e. cc) is w id me.0 at live rests in
      let named = w.names.2 in
      finds p st ws hs vs id me n (me.0.number + 1) (λ z. omega arith) (λ e. other (omega arith))
      (omega (arith, named, busy.1, w.few)) at (kept fit counts p (taken h) made n ws hs vs w)
  takes_from p st id me (out h) made n ws hs vs w at live rests =
      let is = sym (own_stage h Out Away) in
      let busy = busy_seat fit counts p made n ws hs vs h w.names.0 w.names.1 (out h) Out (λ e. cc) is w in
      let other = busy_other fit counts p made n ws hs vs h w.names.0 w.names.1 (out h) Out (λ e. cc) is w id me.0 at live rests in
      let named = w.names.2 in
      finds p st ws hs vs id me n (me.0.number + 1) (λ z. omega arith) (λ e. other (omega arith))
      (omega (arith, named, busy.1, w.few)) at (kept fit counts p (out h) made n ws hs vs w)

  -- take, and found taken
  pub takes_turn : (p : Q) (slots : ℕ) (st : Step (Option H)) (id : ℕ) (me : Me (Option H) (View Q)) → me.0.live ≡ true → me.0.stage ≡ Away
      → Allows (Kept fit counts p) slots id me 0 (λ k. either (k == 0) (me.0.number + 1) k) (Takes st me)
  takes_turn p slots st id me live rests s k size at low =
      let P : List ℕ → Type 0 = λ ws. Gives p ws s.homes s.views id me 0 (λ k. either (k == 0) (me.0.number + 1) k) (Takes st me) in
      subst P (sym k.words) (takes_from p st id me k.mode k.made k.turn k.ws s.homes s.views (world fit counts p s k) at live rests)

  -- the world at a holder
  held : (p : Q) (s : State (Option H) (View Q)) (k : Kept fit counts p s) (id : ℕ) (v : View Q) →
      get_elem? s.views id ≡ some v → v.stage ≡ Turn → World fit counts p (taken id) k.made k.turn k.ws s.homes s.views
  held p s k id v at mine =
      let P : Mode → Type 0 = λ m. World fit counts p m k.made k.turn k.ws s.homes s.views in
      subst P (is_taken k.mode id (sym mine ∙ (k.fits id v at).stage)) (world fit counts p s k)

  held_out : (p : Q) (s : State (Option H) (View Q)) (k : Kept fit counts p s) (id : ℕ) (v : View Q) →
      get_elem? s.views id ≡ some v → v.stage ≡ Out → World fit counts p (out id) k.made k.turn k.ws s.homes s.views
  held_out p s k id v at mine =
      let P : Mode → Type 0 = λ m. World fit counts p m k.made k.turn k.ws s.homes s.views in
      subst P (is_out k.mode id (sym mine ∙ (k.fits id v at).stage)) (world fit counts p s k)

  -- load, by the seat whose turn it is
  pub notes_word : (p : Q) (slots : ℕ) (st : Step (Option H)) (id : ℕ) (me : Me (Option H) (View Q)) (j : ℕ) →
      st.word ≡ j + 1 → me.0.stage ≡ Turn → j ≢ me.0.number
      → Allows (Kept fit counts p) slots id me (j + 1) (λ k. k) (Notes st me)
  notes_word p slots st id me j word mine other s k size at low =
      let n = slice_index k.ws j in
      let w = notes_world fit counts p k.made k.turn k.ws s.homes s.views id me.0 at j n mine other refl (held p s k id me.0 at mine) in
      let done : Kept fit counts p (state k.turn (set k.ws j n) s.homes (set s.views id (noted j n me.0))) =
      (let P : List ℕ → Type 0 = λ ws. Kept fit counts p (state k.turn ws s.homes (set s.views id (noted j n me.0)))
      in subst P (sym (set-get_or k.ws j 0)) (kept fit counts p (taken id) k.made k.turn k.ws s.homes
      (set s.views id (noted j n me.0)) w)) in
      let tells : Notes st me n (noted j n me.0, me.1) = (λ i same. let e : j ≡ i = omega arith in ap (λ i. (noted i n me.0, me.1)) e) in
      let P : List ℕ → Type 0 = λ ws. Gives p ws s.homes s.views id me (j + 1) (λ k. k) (Notes st me) in
      let R : ℕ → Type 0 = λ i. Gives p (k.turn ∷ k.ws) s.homes s.views id me i (λ k. k) (Notes st me) in
      subst P (sym k.words) (subst R (sym (add-one j)) (noted j n me.0, keeps, tt, done, tells))

  -- load, by any seat
  pub looks : (p : Q) (slots : ℕ) (st : Step (Option H)) (id : ℕ) (me : Me (Option H) (View Q)) (j : ℕ) →
      st.word ≡ j + 1 → Allows (Kept fit counts p) slots id me (j + 1) (λ k. k) (Looks st me)
  looks p slots st id me j is s k size at low =
      let n = slice_index k.ws j in
      let done : Kept fit counts p (state k.turn (set k.ws j n) s.homes (set s.views id me.0)) =
      (let P : List ℕ → Type 0 = λ ws. Kept fit counts p (state k.turn ws s.homes (set s.views id me.0)) in
      subst P (sym (set-get_or k.ws j 0)) (stays p k.turn k.ws s.homes s.views id me.0 at
      (kept fit counts p k.mode k.made k.turn k.ws s.homes s.views (world fit counts p s k)))) in
      let f = k.fits id me.0 at in
      let tells : (i : ℕ) → st.word ≡ i + 1 → Agrees i n me.0.loaded × Agrees i n (owned me.0) =
      (λ i at_word. let e : j ≡ i = omega arith in subst (λ i. Agrees i n me.0.loaded × Agrees i n (owned me.0)) e
      (agrees k.ws j me.0.loaded f.loaded, agrees k.ws j (owned me.0) f.words)) in
      let P : List ℕ → Type 0 = λ ws. Gives p ws s.homes s.views id me (j + 1) (λ k. k) (Looks st me) in
      let R : ℕ → Type 0 = λ i. Gives p (k.turn ∷ k.ws) s.homes s.views id me i (λ k. k) (Looks st me) in
      subst P (sym k.words) (subst R (sym (add-one j)) (me.0, keeps, tt, done, (refl, tells)))

  -- the seat's own word
  own_word : (p : Q) (made : ℕ) (m : Mode) (ws : List ℕ) (i : ℕ) (v : View Q) → v.live ≡ true → Fits p made m ws i v → slice_index ws v.number ≡ v.word
  own_word p made m ws i v live f = let s : Still ws ((v.number, v.word) ∷ v.joined) = rw live at f.words in s.0

  -- slot out
  pub fetches_device : (p : Q) (slots : ℕ) (st : Step (Option H)) (id : ℕ) (me : Me (Option H) (View Q)) → me.0.live ≡ true → me.0.stage ≡ Turn
      → Allows (Kept fit counts p) slots id me 0 (λ k. k) (Fetches fit counts st me)
  fetches_device p slots st id me live mine s k size at low =
      let w = held p s k id me.0 at mine in
      let f = w.fits id me.0 at in
      let d = w.slot.0 in
      let home = w.slot.1 in
      let home_counts = w.slot.3 in
      let fetched = fetches_world fit counts p k.made k.turn k.ws s.homes s.views id me.0 at live w in
      let P : List ℕ → Type 0 = λ ws. Gives p ws s.homes s.views id me 0 (λ k. k) (Fetches fit counts st me) in
      subst P (sym k.words) (
        staged Out me.0,
        takes 0 (Some d),
        ap (λ (hs : Homes H). get_elem? hs 0) home,
        kept fit counts p (out id) k.made k.turn k.ws (slice_set s.homes 0 none) (set s.views id (staged Out me.0)) fetched,
        (
          d,
          refl,
          subst (λ q. fit q d) (sym (f.pledged live)) w.slot.2,
          subst (λ ws. Still ws me.0.loaded) (sym home_counts) f.loaded,
          subst (λ ws. slice_index ws me.0.number ≡ me.0.word) (sym home_counts) (own_word p k.made (taken id) k.ws id me.0 live f),
        ),
      )

  -- store
  pub stores_word : (p : Q) (slots : ℕ) (st : Step (Option H)) (id : ℕ) (me : Me (Option H) (View Q)) (x : ℕ) →
      me.0.live ≡ true → me.0.number < 6 → me.0.stage ≡ Out
      → Allows (Kept fit counts p) slots id me (me.0.number + 1) (λ k. x) (λ _. Words st me x)
  stores_word p slots st id me x live small mine s k size at low =
      let j = me.0.number in
      let w = words_world fit counts p k.made k.turn k.ws s.homes s.views id me.0 at x live small (held_out p s k id me.0 at mine) in
      let P : List ℕ → Type 0 = λ ws. Gives p ws s.homes s.views id me (j + 1) (λ k. x) (λ _. Words st me x) in
      let R : ℕ → Type 0 = λ i. Gives p (k.turn ∷ k.ws) s.homes s.views id me i (λ k. x) (λ _. Words st me x) in
      subst P (sym k.words) (subst R (sym (add-one j)) (
        worded x me.0,
        keeps,
        tt,
        kept fit counts p
            (out id) k.made k.turn (set k.ws j x) s.homes (set s.views id (worded x me.0)) w,
        refl,
      ))

  counts_are : (v : View Q) (xs ys : List ℕ) → length xs ≡ 6 → length ys ≡ 6 → IsComplete v → Still xs v.loaded →
      Still ys v.loaded → slice_index xs v.number ≡ slice_index ys v.number → xs ≡ ys
  counts_are v xs ys la lb whole a b own =
      same_lists xs ys (la ∙ sym lb) (λ k d h.
      let each : slice_index xs k ≡ slice_index ys k = dite (ℕ_discrete k v.number)
      (λ e. subst (λ i. slice_index xs i ≡ slice_index ys i) (sym e) own)
      (λ ne. still_same k xs ys v.loaded (whole k (omega arith) ne) a b) in
      get_or_default xs k d 0 h ∙ each ∙ get_or_default ys k 0 d (omega arith))

  -- slot in
  pub returns_device : (p : Q) (slots : ℕ) (st : Step (Option H)) (id : ℕ) (me : Me (Option H) (View Q)) (d : H) →
      me.0.live ≡ true → me.0.stage ≡ Out → me.1 ≡ (0, Some d) ∷ rest me.1 → length (counts d) ≡ 6 →
      IsComplete me.0 → MayLeave fit counts me.0 d → slice_index (counts d) me.0.number ≡ me.0.word
      → Allows (Kept fit counts p) slots id me 0 (λ k. k) (Returns st me)
  returns_device p slots st id me d live mine has_it six whole may own s k size at low =
      let w = held_out p s k id me.0 at mine in
      let f = w.fits id me.0 at in
      let same_counts : counts d ≡ k.ws = counts_are me.0 (counts d) k.ws six w.six whole may.1 f.loaded
      (own ∙ sym (own_word p k.made (out id) k.ws id me.0 live f)) in
      let returned = returns_world fit counts p k.made k.turn k.ws s.homes s.views id me.0 at d live
      (subst (λ q. fit q d) (f.pledged live) may.0) same_counts w in
      let P : List ℕ → Type 0 = λ ws. Gives p ws s.homes s.views id me 0 (λ k. k) (Returns st me) in
      let done : Kept fit counts p (state k.turn k.ws (homes_after s.homes me.1 gives) (set s.views id (staged Turn me.0))) =
      rw has_it (kept fit counts p (taken id) k.made k.turn k.ws (slice_set s.homes 0 (some (Some d))) (set s.views id (staged Turn me.0)) returned) in
      subst P (sym k.words) (staged Turn me.0, gives, tt, done, refl)

  -- give back
  pub ends_turn : (p : Q) (slots : ℕ) (st : Step (Option H)) (id : ℕ) (me : Me (Option H) (View Q)) → me.0.stage ≡ Turn
      → Allows (Kept fit counts p) slots id me 0 (λ k. 0) (λ _. Ends st me 0)
  ends_turn p slots st id me mine s k size at low =
      let w = ends_world fit counts p k.made k.turn k.ws s.homes s.views id me.0 at (held p s k id me.0 at mine) in
      let P : List ℕ → Type 0 = λ ws. Gives p ws s.homes s.views id me 0 (λ k. 0) (λ _. Ends st me 0) in
      subst P (sym k.words) (away me.0, keeps, tt, kept fit counts p free k.made 0 k.ws s.homes (set s.views id (away me.0)) w, refl)
