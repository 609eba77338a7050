-- The rule of a turn as its parts, and what each step makes of them.
use Rattle.std.proofs.Common.{
  ap,
  subst,
  ◌≡◌,
  ◌≢◌,
  ℕ,
  ◌+◌,
  ◌<◌,
  ◌≤◌,
  ◌==◌,
  true,
  false,
  List,
  ◌∷◌,
  length,
  set,
  slice_index,
  slice_set,
  Option,
  Some,
  arith,
  refl,
  sym,
  ◌∙◌,
  get_or-set_other,
  length-set,
}
use Rattle.std.proofs.lemmas.Bool.Decides.{nat_tests}
use mathlib.Core.Option.{some, none, some-injective}
use lib.ListN.{get_elem?}
use Rattle.atomic_table.specs.Table.{State}
use Rattle.device_turn.specs.declared.view.Stage.{Stage}
use Rattle.device_turn.specs.declared.view.Stage.TheVariants.{Away, Turn, Out}
use Rattle.device_turn.specs.declared.view.View.{View}
use Rattle.device_turn.specs.Rule.{Mode, free, taken, out, stage_at, Names, Slot, has, owned, Fits, Kept, staged, worded, noted, away}
use Rattle.device_turn.proofs.Views.{
  Apart,
  apart_set,
  at_each,
  set_there,
  others_stage,
  own_stage,
  named,
  still_set,
  without,
  restage,
  restaged,
  away_fits,
  noted_fits,
  worded_words,
  worded_alike,
}

abbrev pub Homes : Type 0 → Type 0
Homes H = List (mathlib.Core.Option.Option (Option H))

abbrev pub state : {H Q : Type 0} → ℕ → List ℕ → Homes H → List (View Q) → State (Option H) (View Q)
state turn ws hs vs = record { words = turn ∷ ws; homes = hs; views = vs }

module _ {H Q : Type 0} (fit : Q → H → Type 0) (counts : H → List ℕ) where
  pub record World (p : Q) (m : Mode) (made turn : ℕ) (ws : List ℕ) (hs : Homes H) (vs : List (View Q)) : Type 0 where
    pub six : length ws ≡ 6
    pub few : made ≤ 6
    pub names : Names m vs turn
    pub slot : Slot fit counts p m ws hs
    pub fits : (i : ℕ) (v : View Q) → get_elem? vs i ≡ some v → Fits p made m ws i v
    pub apart : Apart vs
    pub unmade : (k : ℕ) → made ≤ k → slice_index ws k ≡ 0

  pub kept : (p : Q) (m : Mode) (made turn : ℕ) (ws : List ℕ) (hs : Homes H) (vs : List (View Q)) →
      World p m made turn ws hs vs → Kept fit counts p (state turn ws hs vs)
  kept p m made turn ws hs vs w = record {
    mode = m;
    made = made;
    turn = turn;
    ws = ws;
    words = refl;
    six =
        w.six;
    few = w.few;
    names = w.names;
    slot = w.slot;
    fits = w.fits;
    apart = w.apart;
    unmade = w.unmade;
  }

  pub world : (p : Q) (s : State (Option H) (View Q)) (k : Kept fit counts p s) → World p k.mode k.made k.turn k.ws s.homes s.views
  world p s k = record { six = k.six; few = k.few; names = k.names; slot = k.slot; fits = k.fits; apart = k.apart; unmade = k.unmade }

  module _ (p : Q) (made turn : ℕ) (ws : List ℕ) (hs : Homes H) (vs : List (View Q)) (id : ℕ) (v : View Q) (at : get_elem? vs id ≡ some v) where
    -- take
    pub takes_world : v.live ≡ true → v.stage ≡ Away → World p free made turn ws hs vs →
        World p (taken id) made (v.number + 1) ws hs (set vs id (staged Turn v))
    takes_world live away_now w = record {
      six = w.six;
      few = w.few;
      names = (staged Turn v, set_there vs id v (staged Turn v) at, refl);
      slot = w.slot;
      fits = at_each (Fits p made (taken id) ws) vs id (staged Turn v)
          (restaged p made free (taken id) ws id v Turn live (sym (own_stage id Turn Away)) (λ e. cc) (w.fits id v at))
          (λ i u other now. restage p made free (taken id) ws i u (others_stage id i Turn Away other) (w.fits i u now));
      apart = apart_set vs id v (staged Turn v) at (λ k. refl) w.apart;
      unmade = w.unmade;
    }

    -- load
    pub notes_world : (k n : ℕ) → v.stage ≡ Turn → k ≢ v.number → slice_index ws k ≡ n →
        World p (taken id) made turn ws hs vs → World p (taken id) made turn ws hs (set vs id (noted k n v))
    notes_world k n mine other is w = record {
      six = w.six;
      few = w.few;
      names = named vs id turn v (noted k n v) at refl w.names;
      slot = w.slot;
      fits = at_each (Fits p made (taken id) ws) vs id (noted k n v)
          (noted_fits p made (taken id) ws id k n v (sym mine) other is (w.fits id v at)) (λ i u o now. w.fits i u now);
      apart = apart_set vs id v (noted k n v) at (λ j. refl) w.apart;
      unmade = w.unmade;
    }

    -- slot out
    pub fetches_world : v.live ≡ true → World p (taken id) made turn ws hs vs → World p (out id) made turn ws (slice_set hs 0 none) (set vs id (staged Out v))
    fetches_world live w = record {
      six = w.six;
      few = w.few;
      names = named vs id turn v (staged Out v) at refl w.names;
      slot = (let home = w.slot.1 in rw home refl);
      fits = at_each (Fits p made (out id) ws) vs id (staged Out v)
          (restaged p made (taken id) (out id) ws id v Out live (sym (own_stage id Out Away)) (λ e. cc)
          (w.fits id v at))
          (λ i u other now. restage p made (taken id) (out id) ws i u
          (others_stage id i Out Away other ∙ sym (others_stage id i Turn Away other)) (w.fits i u now));
      apart = apart_set vs id v (staged Out v) at (λ k. refl) w.apart;
      unmade = w.unmade;
    }

    -- slot in
    pub returns_world : (d : H) → v.live ≡ true → fit p d → counts d ≡ ws → World p (out id) made turn ws hs vs →
        World p (taken id) made turn ws (slice_set hs 0 (some (Some d))) (set vs id (staged Turn v))
    returns_world d live keeping same w = record {
      six = w.six;
      few = w.few;
      names = named vs id turn v (staged Turn v) at refl w.names;
      slot = (d, (let home = w.slot in rw home refl), keeping, same);
      fits = at_each (Fits p made (taken id) ws) vs id (staged Turn v)
          (restaged p made (out id) (taken id) ws id v Turn live (sym (own_stage id Turn Away)) (λ e. cc)
          (w.fits id v at))
          (λ i u other now. restage p made (out id) (taken id) ws i u
          (others_stage id i Turn Away other ∙ sym (others_stage id i Out Away other)) (w.fits i u now));
      apart = apart_set vs id v (staged Turn v) at (λ k. refl) w.apart;
      unmade = w.unmade;
    }

    -- give back
    pub ends_world : World p (taken id) made turn ws hs vs → World p free made 0 ws hs (set vs id (away v))
    ends_world w = record {
      six = w.six;
      few = w.few;
      names = refl;
      slot = w.slot;
      fits = at_each (Fits p made free ws) vs id (away v) (away_fits p made (taken id) free ws id v refl (w.fits id v at))
          (λ i u other now. restage p made (taken id) free ws i u (sym (others_stage id i Turn Away other)) (w.fits i u now));
      apart = apart_set vs id v (away v) at (λ k. refl) w.apart;
      unmade = w.unmade;
    }

    -- the seat's own number is its own, and was made
    pub own_has : v.live ≡ true → has v.number (owned v) ≡ true
    own_has live = let yes : (v.number == v.number) ≡ true = grind (arith, nat_tests) in rw live (rw yes refl)

    -- another seat doesn't own the seat's number
    other_lacks : v.live ≡ true → World p (out id) made turn ws hs vs → (i : ℕ) (u : View Q) → i ≢ id → get_elem? vs i ≡ some u → has v.number (owned u) ≡ false
    other_lacks live w i u other now = (elim (has v.number (owned u)) as (λ b. has v.number (owned u) ≡ b → b ≡ false) [
      | true ↦ λ t. absurd (other (w.apart i id v.number u v now at t (own_has live)))
      | false ↦ λ t. refl
    ]) refl

    -- store
    other_words : (x : ℕ) → v.live ≡ true → World p (out id) made turn ws hs vs → (i : ℕ) (u : View Q) → i ≢ id →
        get_elem? vs i ≡ some u → Fits p made (out id) (set ws v.number x) i u
    other_words x live w i u other now =
        let f = w.fits i u now in
        let rests : u.stage ≡ Away = f.stage ∙ others_stage id i Out Away other in
        let nothing = f.fresh rests in record {
          stage = f.stage;
          pledged = f.pledged;
          words = still_set ws v.number x (owned u) (without v.number (owned u) (other_lacks live w i u other now)) f.words;
          loaded = (rw nothing tt);
          fresh = f.fresh;
          alive = f.alive;
          below = f.below;
          apart = f.apart;
          first = f.first;
        }

    own_words : (x : ℕ) → v.live ≡ true → World p (out id) made turn ws hs vs → v.number < 6 → Fits p made (out id) (set ws v.number x) id (worded x v)
    own_words x live w small =
        let f = w.fits id v at in
        let six = w.six in record {
          stage = f.stage;
          pledged = f.pledged;
          words = worded_words ws v x (omega arith) live f.apart.1 f.words;
          loaded = still_set ws v.number x v.loaded f.apart.0 f.loaded;
          fresh = f.fresh;
          alive = f.alive;
          below = λ k h. f.below k (sym (worded_alike v x k) ∙ h);
          apart = f.apart;
          first = f.first;
        }

    pub words_world : (x : ℕ) → v.live ≡ true → v.number < 6 → World p (out id) made turn ws hs vs →
        World p (out id) made turn (set ws v.number x) hs (set vs id (worded x v))
    words_world x live small w = record {
      six = length-set ws v.number x ∙ w.six;
      few = w.few;
      names = named vs id turn v (worded x v) at refl w.names;
      slot = w.slot;
      fits = at_each (Fits p made (out id) (set ws v.number x)) vs id (worded x v) (own_words x live w small)
          (λ i u other now. other_words x live w i u other now);
      apart = apart_set vs id v (worded x v) at (worded_alike v x) w.apart;
      unmade = λ k past.
          let mine = (w.fits id v at).below v.number (own_has live) in
          let ne : k ≢ v.number = omega arith in rw get_or-set_other (w.unmade k past);
    }

    -- a seat that has the turn is one of those that were made
    pub busy_seat : (m : Mode) (st : Stage) → (Away ≡ st → ⊥) → st ≡ stage_at m id → World p m made turn ws hs vs → (v.live ≡ true) × (v.number < made)
    busy_seat m st busy is w =
        let f = w.fits id v at in
        let v_busy : v.stage ≡ st = f.stage ∙ sym is in
        let live : v.live ≡ true = (elim v.live as (λ b. v.live ≡ b →
        b ≡ true) [ true ↦ λ t. refl | false ↦ λ t. absurd (busy (sym (f.alive t) ∙ v_busy)) ]) refl in
        (live, f.below v.number (own_has live))

    -- it isn't the number of a seat that hasn't the turn
    pub busy_other : (m : Mode) (st : Stage) → (Away ≡ st → ⊥) → st ≡ stage_at m id → World p m made turn ws hs vs →
        (i : ℕ) (u : View Q) → get_elem? vs i ≡ some u → u.live ≡ true → u.stage ≡ Away → v.number ≢ u.number
    busy_other m st busy is w i u now u_live rests same =
        let mine = own_has (busy_seat m st busy is w).0 in
        let yes : (u.number == u.number) ≡ true = grind (arith, nat_tests) in
        let its : has u.number (owned u) ≡ true = rw u_live (rw yes refl) in
        let place : i ≡ id = w.apart i id u.number u v now at its (subst (λ k. has k (owned v) ≡ true) same mine) in
        let one : u ≡ v = some-injective u v (sym now ∙ (ap (get_elem? vs) place ∙ at)) in
        busy (sym rests ∙ ap (λ (x : View Q). x.stage) one ∙ ((w.fits id v at).stage ∙ sym is))
