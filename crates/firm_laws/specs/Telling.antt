-- Who goes along with a run, and keeps what is told as firm of one of its devices.
use Rattle.std.specs.Prelude.{◌≡◌, ℕ, List, ◌++◌}
use Rattle.ckd_types.specs.declared.paths.Side.{Side}
use Rattle.subsystem_defs.specs.declared.event.Event.{Event}
use Rattle.keeper_laws.specs.Messages.{event_messages}
use Rattle.line_drive.specs.Driven.{Course, Occurred, Comes, Replaces, Unpairs, Goes, run_did}
use Rattle.firm_laws.specs.FirmWrites.{FirmWrite, firms_in}

-- its devices go as in the run, the Firm messages of the device of its number come to what it keeps, and nothing ends it
pub record IsTelling {G E : Type 0} (c : Course G E) (number : G → ℕ) (firms : G → List FirmWrite) : Type 0 where
  pub stays : (g : G) (o : Occurred) → number (c.did g o) ≡ number g
  pub sub : (g : G) (o : Occurred) → c.sub (c.did g o) ≡ run_did (c.sub g) o
  pub comes : (g : G) (e : Event) → firms (c.did g (Comes e)) ≡ firms g ++ firms_in (number g) (event_messages (c.sub g) e)
  pub replaces : (g : G) (d : ℕ) (side : Side) → firms (c.did g (Replaces d side)) ≡ firms g
  pub unpairs : (g : G) (a : ℕ) → firms (c.did g (Unpairs a)) ≡ firms g
  pub behind : (g : G) → c.behind g ≡ Goes g
