-- Where the pool and the calls that fail are told and memory is had, an interaction has one run.
use Rattle.std.specs.Prelude.{ℕ, ◌+◌, Bool, true, false, Some, None, if◌then◌else◌}
use Rattle.ckd_types.specs.declared.paths.Side.{Side}
use Rattle.ckd_types.specs.declared.paths.Side.TheVariants.{A, B}
use Rattle.device_outside.specs.Lists.{is_in}
use Rattle.device_outside.specs.Pool.{Pool, answer, after}
use Rattle.device_outside.specs.Volume.{Plan, counted}
use Rattle.device_outside.specs.Keeper.{reply}
use Rattle.device_outside.specs.Interaction.{Interaction, Done, Try, Ask, Read, Write, Tell}

-- the calls that a volume has had, and those that fail
pub record Calls : Type 0 where
  pub reads : ℕ
  pub writes : ℕ
  pub plan : Plan

-- the pool with counted slots, the calls of the two sides, and the reads and writes made in this event
pub record Told : Type 0 where
  pub pool : Pool
  pub a : Calls
  pub b : Calls
  pub reads : ℕ
  pub writes : ℕ

abbrev pub calls_of : Told → Side → Calls
calls_of w A = w.a
calls_of w B = w.b

abbrev pub told_calls : Told → Side → Calls → Told
told_calls w A v = record w { a = v }
told_calls w B v = record w { b = v }

abbrev pub told_read : Told → Side → Told
told_read w side = let v = calls_of w side in record (told_calls w side (record v { reads = counted v.reads })) { reads = w.reads + 1 }

abbrev pub told_write : Told → Side → Told
told_write w side = let v = calls_of w side in record (told_calls w side (record v { writes = counted v.writes })) { writes = w.writes + 1 }

abbrev pub read_fails : Calls → Bool
read_fails v = is_in (counted v.reads) v.plan.reads

abbrev pub write_fails : Calls → Bool
write_fails v = is_in (counted v.writes) v.plan.writes

pub record RunOutcome (S A : Type 0) : Type 0 where
  pub state : S
  pub answer : A
  pub told : Told

-- a read that doesn't fail hands over r
unfoldable pub hold : {R I S A : Type 0} → R → Interaction R I S A → Told → RunOutcome S A
hold r (Done s a) w = record { state = s; answer = a; told = w }
hold r (Try k) w = hold r (k true) w
hold r (Ask call k) w = hold r (k (answer w.pool call)) (record w { pool = after w.pool call (answer w.pool call) })
hold r (Read side t k) w = hold r (k (if read_fails (calls_of w side) then None else Some r)) (told_read w side)
hold r (Write side t x k) w = hold r (k (if write_fails (calls_of w side) then false else true)) (told_write w side)
hold r (Tell m k) w = hold r (k (reply m)) w
