-- The rule of a turn: what holds between any two steps of any seats.
-- There are seven words, of which the first names the seat whose turn it is and each other one is a seat's, and one slot for the holder.
use Rattle.std.specs.Prelude.{
  ◌≡◌,
  ◌≢◌,
  ℕ,
  ◌+◌,
  ◌<◌,
  ◌≤◌,
  ◌==◌,
  ◌||◌,
  Bool,
  true,
  false,
  List,
  [],
  ◌∷◌,
  ◌++◌,
  length,
  slice_index,
  Option,
  Some,
  None,
  if◌then◌else◌,
  Box,
}
use mathlib.Core.Option.{some, none}
use lib.ListN.{get_elem?}
use Rattle.atomic_table.specs.Table.{State}
use Rattle.device_turn.specs.declared.view.Stage.{Stage}
use Rattle.device_turn.specs.declared.view.Stage.TheVariants.{Away, Turn, Out}
use Rattle.device_turn.specs.declared.view.View.{View}

-- whose turn it is: nobody's, or that of the seat at a place among the views, with the holder at home or out with it
pub data Mode : Type 0 where
  free : Mode
  taken : ℕ → Mode
  out : ℕ → Mode

-- what the seat at place i knows of it
abbrev pub stage_at : Mode → ℕ → Stage
stage_at free i = Away
stage_at (taken h) i = if i == h then Turn else Away
stage_at (out h) i = if i == h then Out else Away

-- each pair is a seat's number and its word
abbrev pub Still : List ℕ → List (ℕ × ℕ) → Type 0
Still ws [] = Unit {0}
Still ws (e ∷ es) = (slice_index ws e.0 ≡ e.1) × Still ws es

-- no pair has the number k
abbrev pub Without : ℕ → List (ℕ × ℕ) → Type 0
Without k [] = Unit {0}
Without k (e ∷ es) = (e.0 ≢ k) × Without k es

-- some pair has the number k
abbrev pub has : ℕ → List (ℕ × ℕ) → Bool
has k [] = false
has k (e ∷ es) = (e.0 == k) || has k es

abbrev pub zeros : List ℕ
zeros = 0 ∷ 0 ∷ 0 ∷ 0 ∷ 0 ∷ 0 ∷ []

module _ {Q : Type 0} where
  -- the seat at a place is named by n
  abbrev pub IsNamed : List (View Q) → ℕ → ℕ → Type 0
  IsNamed vs h n = (v : View Q) × (get_elem? vs h ≡ some v) × (n ≡ v.number + 1)

  abbrev pub Names : Mode → List (View Q) → ℕ → Type 0
  Names free vs n = n ≡ 0
  Names (taken h) vs n = IsNamed vs h n
  Names (out h) vs n = IsNamed vs h n

  -- the numbers and words that are a seat's own, or were joined into it
  abbrev pub owned : View Q → List (ℕ × ℕ)
  owned v = if v.live then (v.number, v.word) ∷ v.joined else []

  -- what the seat at place i knows is so
  pub record Fits (pledge : Q) (made : ℕ) (m : Mode) (ws : List ℕ) (i : ℕ) (v : View Q) : Type 0 where
    pub stage : v.stage ≡ stage_at m i
    pub pledged : v.live ≡ true → v.pledge ≡ pledge
    pub words : Still ws (owned v)
    pub loaded : Still ws v.loaded
    pub fresh : v.stage ≡ Away → v.loaded ≡ []
    pub alive : v.live ≡ false → v.stage ≡ Away
    pub below : (k : ℕ) → has k (owned v) ≡ true → k < made
    pub apart : Without v.number v.loaded × Without v.number v.joined
    pub first : v.live ≡ true → v.number ≡ 0 → v.made ≡ made

  -- a seat that did nothing yet
  abbrev pub view : ℕ → ℕ → Q → View Q
  view number made pledge = record { number = number; word = 0; joined = []; made = made; stage = Away; loaded = []; live = true; pledge = pledge }

  abbrev pub staged : Stage → View Q → View Q
  staged stage v = record v { stage = stage }

  -- the seat remembers another's word
  abbrev pub noted : ℕ → ℕ → View Q → View Q
  noted k n v = record v { loaded = (k, n) ∷ v.loaded }

  -- the seat's own word is another
  abbrev pub worded : ℕ → View Q → View Q
  worded x v = record v { word = x }

  -- the turn is nobody's, and what was loaded is forgotten
  abbrev pub away : View Q → View Q
  away v = record v { stage = Away; loaded = [] }

  -- the first seat counts one seat more, and the new seat has the next number
  abbrev pub counted : View Q → View Q
  counted v = record v { made = v.made + 1 }

  abbrev pub newcomer : View Q → View Q
  newcomer v = view v.made 0 v.pledge

  -- the first seat takes over what the other owned, which is no seat any more
  abbrev pub both : View Q → View Q → View Q
  both v u = record v { joined = ((u.number, u.word) ∷ u.joined) ++ v.joined }

  abbrev pub spent : Q → View Q
  spent nothing = record { number = 0; word = 0; joined = []; made = 0; stage = Away; loaded = []; live = false; pledge = nothing }

-- what is kept and counted of a holder, of the room that it has
abbrev pub boxed : {P H A : Type 0} → (P → H → Type 0) → P → Box H A → Type 0
boxed keeps p b = keeps p b.value

abbrev pub counts_in : {H A : Type 0} → (H → List ℕ) → Box H A → List ℕ
counts_in counts b = counts b.value

-- a seat still knows what was promised, and the holder keeps it
abbrev pub KeptBy : {P H : Type 0} → (P → H → Type 0) → Option P → H → Type 0
KeptBy keeps None h = ⊥
KeptBy keeps (Some p) h = keeps p h

module _ {H Q : Type 0} (keeps : Q → H → Type 0) (counts : H → List ℕ) where
  -- a holder that keeps the pledge is at home, and its counts are the seats' words
  abbrev pub IsHome : Q → List ℕ → List (mathlib.Core.Option.Option (Option H)) → Type 0
  IsHome pledge ws hs = (h : H) × (hs ≡ some (Some h) ∷ []) × keeps pledge h × (counts h ≡ ws)

  abbrev pub Slot : Q → Mode → List ℕ → List (mathlib.Core.Option.Option (Option H)) → Type 0
  Slot pledge free ws hs = IsHome pledge ws hs
  Slot pledge (taken h) ws hs = IsHome pledge ws hs
  Slot pledge (out h) ws hs = hs ≡ none ∷ []

  pub record Kept (pledge : Q) (s : State (Option H) (View Q)) : Type 0 where
    pub mode : Mode
    pub made : ℕ
    pub turn : ℕ
    pub ws : List ℕ
    pub words : s.words ≡ turn ∷ ws
    pub six : length ws ≡ 6
    pub few : made ≤ 6
    pub names : Names mode s.views turn
    pub slot : Slot pledge mode ws s.homes
    pub fits : (i : ℕ) (v : View Q) → get_elem? s.views i ≡ some v → Fits pledge made mode ws i v
    pub apart : (i j k : ℕ) (v u : View Q) → get_elem? s.views i ≡ some v → get_elem? s.views j ≡ some u →
        has k (owned v) ≡ true → has k (owned u) ≡ true → i ≡ j
    pub unmade : (k : ℕ) → made ≤ k → slice_index ws k ≡ 0
