-- What the calls of a turn answer and ask for.
use Rattle.std.specs.Prelude.{◌≡◌, ◌≢◌, ◌<◌, ℕ, true, List, [], ◌∷◌, slice_index, Option, None}
use Rattle.atomic_table.specs.Table.{Me}
use Rattle.device_turn.specs.declared.enter.Enter.{Enter}
use Rattle.device_turn.specs.declared.enter.Enter.TheVariants.{Got, Taken}
use Rattle.device_turn.specs.declared.view.Stage.TheVariants.{Away, Out}
use Rattle.device_turn.specs.declared.view.View.{View}
use Rattle.device_turn.specs.Rule.{Still, Without, has, staged}

module _ {Q : Type 0} where
  -- of each other seat a word was loaded
  abbrev pub IsComplete : View Q → Type 0
  IsComplete v = (k : ℕ) → k < 6 → k ≢ v.number → has k v.loaded ≡ true

  abbrev pub with_loaded : List (ℕ × ℕ) → View Q → View Q
  with_loaded es v = record v { loaded = es }

module _ {H Q : Type 0} where
  -- the seat hasn't the turn
  abbrev pub IsAway : Me (Option H) (View Q) → Type 0
  IsAway me = (me.0.stage ≡ Away) × (me.0.loaded ≡ []) × (me.1 ≡ [])

  -- the holder is out with the seat
  abbrev pub IsOut : Me (Option H) (View Q) → Type 0
  IsOut me = (me.0.stage ≡ Out) × (me.1 ≡ (0, None) ∷ []) × IsComplete me.0

  module _ (keeps : Q → H → Type 0) (counts : H → List ℕ) where
    -- the holder may go back: it keeps what was promised, and the counts of the other seats are as they were
    abbrev pub MayLeave : View Q → H → Type 0
    MayLeave v h = keeps v.pledge h × Still (counts h) v.loaded

    -- what stood in the slot is out with the seat: a word of each other seat was loaded since, and it may go back
    pub record HasTurn (before after : Me (Option H) (View Q)) (h : H) : Type 0 where
      pub loaded : List (ℕ × ℕ)
      pub out : after ≡ (with_loaded loaded (staged Out before.0), (0, None) ∷ [])
      pub complete : IsComplete after.0
      pub others : Without after.0.number loaded
      pub kept : MayLeave after.0 h
      pub counted : slice_index (counts h) before.0.number ≡ before.0.word

    -- another seat has the turn
    pub record FindsTaken (before after : Me (Option H) (View Q)) (k : ℕ) : Type 0 where
      pub same : after ≡ before
      pub other : k ≢ before.0.number
      pub seat : k < 6

    abbrev pub Entered : Me (Option H) (View Q) → Me (Option H) (View Q) → Enter H → Type 0
    Entered before after (Got h) = HasTurn before after h
    Entered before after (Taken k) = FindsTaken before after k
