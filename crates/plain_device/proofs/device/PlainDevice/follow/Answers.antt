use Rattle.std.proofs.Common.{◌≡◌, ◌<◌, ◌≤◌, ◌*◌, sym, ap, subst, arith}
use Rattle.plain_defs.specs.PlainState.{PlainState}
use Rattle.plain_device.specs.declared.device.Went.{Went}
use Rattle.plain_device.specs.declared.done.Done.{Done}
use Rattle.plain_device.specs.Between.{IsEditOn}
use Rattle.plain_device.specs.Looking.{IsWent, FitsWent}
use Rattle.plain_device.proofs.Following.{following_over, following_none}
use Rattle.plain_device.proofs.device.PlainDevice.follow.Goals as goal

pub returns-in-Over : goal.returns-in-Over
returns-in-Over c =
    let many : c.self.inside.fixed.cylinders ≡ c.args.self.now.cylinders =
    ap (λ (x : PlainState). x.cylinders) c.self.view_is in
    let more : c.loop-turn._turn < c.args.self.now.cylinders * 15 =
    omega (arith, c.loop-turn-test.true, c.cylinders-tracks.ensures.value, many) in
    record {
      ends = following_over c.args.self.now c.args.chain.now c.loop-turn.chain c.loop-turn.track c.loop-turn._turn
          c.loop-turn.invariant c.args.path c.look.new.chain c.in-Over.done c.requires.looking.stage more
          (subst (λ (w : Went). IsWent c.args.self.now c.args.path c.loop-turn.chain c.look.new.chain w) c.in-Over.is
          c.in_ok-done.ensures.went);
      fits = subst (λ (w : Went). FitsWent c.args.self.now w) c.in-Over.is c.in_ok-done.ensures.fits;
    }

pub returns : goal.returns
returns c =
    let many : c.self.inside.fixed.cylinders ≡ c.args.self.now.cylinders =
    ap (λ (x : PlainState). x.cylinders) c.self.view_is in
    let past : c.args.self.now.cylinders * 15 ≤ c.loop-turn._turn =
    omega (arith, c.loop-turn-test.false, c.cylinders-tracks.ensures.value, many) in
    record {
      ends = following_none c.args.self.now c.args.chain.now c.loop-turn.chain c.loop-turn.track c.loop-turn._turn
          c.loop-turn.invariant c.args.path c.settle-end.new.self c.settle-end.result c.unwritten.result
          c.requires.looking.stage past
          c.settle-end.ensures.end
          c.settle-end.ensures.chain c.unwritten.ensures
          c.settle-end.ensures.counted;
      fits = subst (λ (x : Done). IsEditOn c.args.self.now x.edit) (sym c.unwritten.ensures) tt;
    }
