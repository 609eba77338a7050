-- What a keeper is told in an event, in order.
use Rattle.std.specs.Prelude.{ℕ, Bool, true, false, List, [], ◌∷◌, Some, None, if◌then◌else◌}
use Rattle.device_outside.specs.Pool.{answer, after}
use Rattle.device_outside.specs.Keeper.{Message, reply, Hearing}
use Rattle.device_outside.specs.Interaction.{Interaction, Done, Try, Ask, Read, Write, Tell}
use Rattle.device_outside.specs.Told.{Told, calls_of, told_read, told_write, read_fails, write_fails}

-- the messages of the one run where the pool and the calls that fail are told and memory is had
unfoldable pub messages : {R I S A : Type 0} → R → Interaction R I S A → Told → List (Message I)
messages r (Done s a) w = []
messages r (Try k) w = messages r (k true) w
messages r (Ask call k) w = messages r (k (answer w.pool call)) (record w { pool = after w.pool call (answer w.pool call) })
messages r (Read side t k) w = messages r (k (if read_fails (calls_of w side) then None else Some r)) (told_read w side)
messages r (Write side t x k) w = messages r (k (if write_fails (calls_of w side) then false else true)) (told_write w side)
messages r (Tell m k) w = m ∷ messages r (k (reply m)) w

-- a keeper heard these one after another, and had memory
pub data HeardAll {I K : Type 0} (hears : Hearing I K) : K → List (Message I) → K → Type 0 where
  heard_none : {k : K} → HeardAll hears k [] k
  heard_next : {k l n : K} {m : Message I} {ms : List (Message I)} → hears k m (reply m) l → HeardAll hears l ms n → HeardAll hears k (m ∷ ms) n
