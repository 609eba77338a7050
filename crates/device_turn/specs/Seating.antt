-- Seats that rest at turns.
use Rattle.std.specs.Prelude.{◌≡◌, ◌<◌, ℕ, List, vec_len, vec_capacity}
use Rattle.std.specs.List.{AllZip}
use Rattle.device_turn.specs.Answers.{IsAway}
use Rattle.device_turn.specs.declared.holder.Holder.{Ghosts}
use Rattle.device_turn.specs.declared.place.Turn.{Turn}
use Rattle.device_turn.specs.declared.seat.TurnSeat.{TurnSeat}
use Rattle.device_turn.specs.declared.seating.Seats.{Seats}
use Rattle.device_turn.specs.declared.seating.Setting.{Setting}
use Rattle.device_turn.specs.declared.seating.Table.{Table}

module _ {H P : Type 0} {G : Ghosts H P} where
  -- a seat of this number rests at the turn
  pub record IsAt (n : ℕ) (t : Turn H P) (s : TurnSeat H P G) : Type 0 where
    pub own : s.seat.table_id ≡ t.table.shared.table_id
    pub number_is : s.number ≡ n
    pub away : IsAway s.seat.me

  -- behind its turn a seat is as it was but for its own word
  pub record Rests (s z : TurnSeat H P G) : Type 0 where
    pub own : z.seat.table_id ≡ s.seat.table_id
    pub number_is : z.number ≡ s.number
    pub made_is : z.made ≡ s.made
    pub away : IsAway z.seat.me
    pub joined : z.seat.me.0.joined ≡ s.seat.me.0.joined
    pub pledge : z.seat.me.0.pledge ≡ s.seat.me.0.pledge

  -- the operator's seat, which made all others
  pub record IsHome (t : Turn H P) (s : TurnSeat H P G) : Type 0 where
    pub at : IsAt 0 t s
    pub made_is : s.made ≡ 6

  -- all seats of a turn rest
  pub record IsSet (s : Setting H P G) : Type 0 where
    pub operator : IsHome s.turn s.operator
    pub first : IsAt 1 s.turn s.first
    pub second : IsAt 2 s.turn s.second
    pub third : IsAt 3 s.turn s.third
    pub fourth : IsAt 4 s.turn s.fourth
    pub background : IsAt 5 s.turn s.background

  -- and so do those of the paths and of the background at all turns
  pub record AreSeated (ts : List (Turn H P)) (s : Seats H P G) : Type 0 where
    pub first : AllZip (IsAt 1) ts s.first.items
    pub second : AllZip (IsAt 2) ts s.second.items
    pub third : AllZip (IsAt 3) ts s.third.items
    pub fourth : AllZip (IsAt 4) ts s.fourth.items
    pub background : AllZip (IsAt 5) ts s.background.items

  -- and those of all workers
  pub record AreSet (t : Table H P G) : Type 0 where
    pub operator : AllZip IsHome t.turns.items t.operator.items
    pub seats : AreSeated t.turns.items t.seats

  -- two tables have the same turns and seats
  abbrev pub IsSame : Table H P G → Table H P G → Type 0
  IsSame t u =
      (u.turns.items ≡ t.turns.items) × (u.operator.items ≡ t.operator.items) × (u.seats.first.items ≡ t.seats.first.items)
      × (u.seats.second.items ≡ t.seats.second.items) × (u.seats.third.items ≡ t.seats.third.items) × (u.seats.fourth.items ≡ t.seats.fourth.items)
      × (u.seats.background.items ≡ t.seats.background.items)

  -- a table has room for one turn more
  abbrev pub HasRoom : Table H P G → Type 0
  HasRoom t =
      (vec_len t.turns < vec_capacity t.turns) × (vec_len t.operator < vec_capacity t.operator) × (vec_len t.seats.first < vec_capacity t.seats.first)
      × (vec_len t.seats.second < vec_capacity t.seats.second) × (vec_len t.seats.third < vec_capacity t.seats.third)
      × (vec_len t.seats.fourth < vec_capacity t.seats.fourth) × (vec_len t.seats.background < vec_capacity t.seats.background)
