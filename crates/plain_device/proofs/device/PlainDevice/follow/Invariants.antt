use Rattle.plain_device.proofs.Following.{IsFollowing}
use Rattle.plain_device.proofs.device.PlainDevice.follow.Given as goal

abbrev pub invariant-loop-turn : goal.invariant-loop-turn
invariant-loop-turn l = IsFollowing l.fn.self l.fn.chain l.chain l.track l._turn
