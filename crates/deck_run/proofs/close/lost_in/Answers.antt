use Rattle.std.proofs.Common.{◌≡◌, ℕ, false}
use Rattle.std.specs.Prelude.{slice_index_or}
use Rattle.deck_run.specs.Ending.{lost_in}
use Rattle.deck_run.proofs.Closing.{lost_more, lost_none}
use Rattle.deck_run.proofs.close.lost_in.Goals as goal

pub loop-t-preserved : goal.loop-t-preserved
loop-t-preserved g c =
    let number : c.unwrap.result ≡ c.loop-t.t = rw c.unwrap.ensures at c.new.ensures.value in (
      lost_more (λ (t : ℕ). slice_index_or c.args.device.now.store.lost t false) c.loop-t.lost.items c.add_lost.new.lost.items (lost_in c.args.device.now)
          c.loop-t.t _ c.unwrap.result c.loop-t-test.true number c.in_ok-add_lost.ensures c.loop-t.invariant.0,
      c.loop-t.invariant.1,
    )

pub returns : goal.returns
returns g c =
    lost_none (λ (t : ℕ). slice_index_or c.args.device.now.store.lost t false) c.loop-t.lost.items (lost_in c.args.device.now) c.loop-t.t _
    c.loop-t-test.false c.loop-t.invariant.0
