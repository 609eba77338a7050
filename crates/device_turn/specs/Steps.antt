-- What each step tells its seat: of the step, the seat before, the word that was found or stored, and the seat after.
use Rattle.std.specs.Prelude.{◌≡◌, ◌≢◌, ◌≤◌, ℕ, ◌+◌, ◌==◌, List, [], ◌∷◌, slice_index, Option, Some, MatchBool}
use Rattle.atomic_table.specs.Table.{Me, Step, rest}
use Rattle.device_turn.specs.declared.view.Stage.TheVariants.{Turn, Out}
use Rattle.device_turn.specs.declared.view.View.{View}
use Rattle.device_turn.specs.Rule.{Still, owned, staged, noted, worded, away}

-- each pair of the number k has the word n
abbrev pub Agrees : ℕ → ℕ → List (ℕ × ℕ) → Type 0
Agrees k n [] = Unit {0}
Agrees k n (e ∷ es) = (e.0 ≡ k → e.1 ≡ n) × Agrees k n es

module _ {H Q : Type 0} where
  -- take: the seat got the turn; or found taken: the word names another of the six seats
  abbrev pub Takes : Step (Option H) → Me (Option H) (View Q) → ℕ → Me (Option H) (View Q) → Type 0
  Takes s me n after = MatchBool (n == 0) (after ≡ (staged Turn me.0, me.1)) ((after ≡ me) × (n ≢ me.0.number + 1) × (n ≤ 6))

  -- load, by the seat whose turn it is: it remembers the word
  abbrev pub Notes : Step (Option H) → Me (Option H) (View Q) → ℕ → Me (Option H) (View Q) → Type 0
  Notes s me n after = (k : ℕ) → s.word ≡ k + 1 → after ≡ (noted k n me.0, me.1)

  -- load, by any seat: the word is the one that it remembers or owns
  abbrev pub Looks : Step (Option H) → Me (Option H) (View Q) → ℕ → Me (Option H) (View Q) → Type 0
  Looks s me n after = (after ≡ me) × ((k : ℕ) → s.word ≡ k + 1 → Agrees k n me.0.loaded × Agrees k n (owned me.0))

  -- store: the seat's own word
  abbrev pub Words : Step (Option H) → Me (Option H) (View Q) → ℕ → Me (Option H) (View Q) → Type 0
  Words s me n after = after ≡ (worded n me.0, me.1)

  -- slot in
  abbrev pub Returns : Step (Option H) → Me (Option H) (View Q) → ℕ → Me (Option H) (View Q) → Type 0
  Returns s me n after = after ≡ (staged Turn me.0, rest me.1)

  -- give back
  abbrev pub Ends : Step (Option H) → Me (Option H) (View Q) → ℕ → Me (Option H) (View Q) → Type 0
  Ends s me n after = after ≡ (away me.0, me.1)

  -- slot out: the holder keeps what was promised, and its counts are the words that the seat knows
  abbrev pub Fetches : (Q → H → Type 0) → (H → List ℕ) → Step (Option H) → Me (Option H) (View Q) → ℕ → Me (Option H) (View Q) → Type 0
  Fetches keeps counts s me n after =
      (h : H) × (after ≡ (staged Out me.0, (0, Some h) ∷ me.1)) × keeps me.0.pledge h × Still
      (counts h) me.0.loaded × (slice_index (counts h) me.0.number ≡ me.0.word)
