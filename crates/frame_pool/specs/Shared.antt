-- What is seen of the shared pool, and what a repair answers.
use Rattle.std.specs.Prelude.{◌≡◌, ◌<◌, ℕ, Some, Result, Ok, Err}
use Rattle.device_outside.specs.Pool as P
use Rattle.device_outside.specs.Pool.{all_waiting}
use Rattle.device_outside.specs.Outside.{PortView}
use Rattle.frame_pool.specs.declared.pool.Pending.{Pending}

pub record Shared : Type 0 where
  pub pool : P.Pool
  pub denials : ℕ

abbrev pub shared_view : Shared → PortView
shared_view s = record { pool = Some s.pool; denials = s.denials }

-- a repair is done where no track waits, else it tells how many do, and changes nothing
abbrev pub Repairs : Shared → Shared → Result (Unit {0}) Pending → Shared → Type 0
Repairs old done (Ok x) new = (all_waiting old.pool ≡ 0) × (new ≡ done)
Repairs old done (Err e) new = (e.n ≡ all_waiting old.pool) × (0 < e.n) × (new ≡ old)
