use Rattle.path_workers.proofs.device_orders.may_lose.Goals as goal

pub returns-then-can_lose : goal.returns-then-can_lose
returns-then-can_lose g c may = (c.can_lose.ensures c.if-can_lose.true, c.may_at_home.ensures may)

pub returns : goal.returns
returns g c may = absurd (cc)
