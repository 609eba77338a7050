-- A device that is out with the operator.
use Rattle.std.specs.Prelude.{◌≡◌}
use Rattle.device_turn.specs.Answers.{IsOut, MayLeave}
use Rattle.device_turn.specs.Rule.{KeptBy}
use Rattle.device_turn.specs.declared.holder.Holder.{Ghosts}
use Rattle.device_turn.specs.declared.seat.TurnSeat.{TurnSeat}

module _ {H P : Type 0} {G : Ghosts H P} where
  -- the seat, which was so before, has the turn, and this is what stood in the slot
  pub record IsHeld (s z : TurnSeat H P G) (h : H) : Type 0 where
    pub own : z.seat.table_id ≡ s.seat.table_id
    pub number_is : z.number ≡ s.number
    pub made_is : z.made ≡ s.made
    pub joined : z.seat.me.0.joined ≡ s.seat.me.0.joined
    pub pledge : z.seat.me.0.pledge ≡ s.seat.me.0.pledge
    pub out : IsOut z.seat.me
    pub may : MayLeave (KeptBy G.keeps) G.counts z.seat.me.0 h
