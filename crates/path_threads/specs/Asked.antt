-- Which order an event is, and what an order of all devices does to the pool.
use Rattle.std.specs.Prelude.{ℕ, ◌==◌, Bool, false, Option, Some, None, if◌then◌else◌}
use Rattle.device_outside.specs.Pool.{Pool, all_waiting, cache_failed, cache_repaired, store_failed, store_repaired}
use Rattle.subsystem_defs.specs.declared.event.Event as events
use Rattle.subsystem_defs.specs.declared.event.Event.TheVariants as told
use Rattle.path_workers.specs.declared.device_orders.DeviceOrder.{DeviceOrder}
use Rattle.path_workers.specs.declared.device_orders.DeviceOrder.TheVariants as orders
use Rattle.path_threads.specs.declared.shared.PoolOrder.{PoolOrder}
use Rattle.path_threads.specs.declared.shared.PoolOrder.TheVariants.{FailCache, FailStore, RepairCache, RepairStore}

-- the order of one device that an event is, and of which
abbrev pub device_order : {V : Type 0} → events.Event → Option (ℕ × DeviceOrder V)
device_order (told.FailVolume d side) = Some (d, orders.Fail side)
device_order (told.Suspend d) = Some (d, orders.Suspend)
device_order (told.Resume d) = Some (d, orders.Resume)
device_order _ = None

-- the order of all devices that it is
abbrev pub pool_order : events.Event → Option PoolOrder
pool_order told.FailCache = Some FailCache
pool_order told.FailStore = Some FailStore
pool_order told.RepairCache = Some RepairCache
pool_order told.RepairStore = Some RepairStore
pool_order _ = None

-- whether the pool does it: what is down isn't lost, what is up isn't repaired, and a repair doesn't go before tracks that wait
abbrev pub obeys : PoolOrder → Pool → Bool
obeys FailCache p = p.cache_up
obeys FailStore p = p.store_up
obeys RepairCache p = if p.cache_up then false else (all_waiting p == 0)
obeys RepairStore p = if p.store_up then false else (all_waiting p == 0)

-- the pool behind it
abbrev pub obeyed : PoolOrder → Pool → Pool
obeyed FailCache p = if p.cache_up then cache_failed p else p
obeyed FailStore p = if p.store_up then store_failed p else p
obeyed RepairCache p = if p.cache_up then p else cache_repaired p
obeyed RepairStore p = if p.store_up then p else store_repaired p
