-- What the workers of paths and background leave.
use Rattle.std.specs.Prelude.{List, IfOk}
use Rattle.std.specs.List.{AllZip}
use Rattle.device_turn.specs.declared.holder.Holder.{Ghosts}
use Rattle.device_turn.specs.declared.place.Turn.{Turn}
use Rattle.device_turn.specs.Seating.{IsAt}
use Rattle.path_threads.specs.declared.rows.Walks.{Walks}

module _ {H P : Type 0} {G : Ghosts H P} where
  -- where they don't lack memory their seats rest at these turns
  pub record HaveWalked (ts : List (Turn H P)) (w : Walks H P G) : Type 0 where
    pub first : IfOk w.first (λ v. AllZip (IsAt 1) ts v.items)
    pub second : IfOk w.second (λ v. AllZip (IsAt 2) ts v.items)
    pub third : IfOk w.third (λ v. AllZip (IsAt 3) ts v.items)
    pub fourth : IfOk w.fourth (λ v. AllZip (IsAt 4) ts v.items)
    pub background : IfOk w.background (λ v. AllZip (IsAt 5) ts v.items)
