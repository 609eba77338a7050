use Rattle.std.proofs.Common.{◌≡◌, ◌-◌, ◌*◌, ◌<◌, None}
use Rattle.device_outside.specs.Keeper.{Heard}
use Rattle.event_notes.specs.Loose.{weight}
use Rattle.device_defs.specs.Command.{follow}
use Rattle.device_defs.specs.Contents.{contents}
use Rattle.device_store.specs.State.{state_of, outside, surely, Takes, Rest}
use Rattle.device_core.specs.TrackWalk.{IsAt, IsSameHand, maybe}
use Rattle.device_core.proofs.track_walk.follow.Given as goal

abbrev pub invariant-loop-turn : goal.invariant-loop-turn
invariant-loop-turn g l = record {
  number : l.store.number ≡ l.fn.store.number;
  cylinders : l.store.cylinders ≡ l.fn.store.cylinders;
  geometry : l.store.geometry ≡ l.fn.store.geometry;
  loose : weight l.store.loose ≡ weight l.fn.store.loose;
  none : l.store.half ≡ None;
  takes : Takes g.K.Keep.takes l.keep l.store.number l.store.geometry (l.store.cylinders * 15);
  at : IsAt l.fn.store.cylinders l.chain;
  hand : IsSameHand l.fn.chain l.chain;
  inside : l.t < l.fn.store.cylinders * 15;
  rest : Rest surely (Heard g.K.Keep.hears g.K.Keep.takes) (follow contents (l.fn.store.cylinders * 15 - l._turn) l.fn.first l.chain l.t (state_of l.store))
      (outside (g.P.Port.view l.port) l.store l.keep)
      (follow contents (l.fn.store.cylinders * 15) l.fn.first l.fn.chain l.fn.first (state_of l.fn.store))
      (outside (g.P.Port.view l.fn.port) l.fn.store l.fn.keep);
  lacks : Rest maybe (Heard g.K.Keep.hears g.K.Keep.takes) (follow contents (l.fn.store.cylinders * 15 - l._turn) l.fn.first l.chain l.t (state_of l.store))
      (outside (g.P.Port.view l.port) l.store l.keep)
      (follow contents (l.fn.store.cylinders * 15) l.fn.first l.fn.chain l.fn.first (state_of l.fn.store))
      (outside (g.P.Port.view l.fn.port) l.fn.store l.fn.keep);
}
