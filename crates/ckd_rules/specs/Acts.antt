-- How a command comes out that asked the device.
use Rattle.std.specs.Prelude.{ℕ, ◌∷◌, [], List, length, Bool, true, false}
use Rattle.ckd_types.specs.declared.channel.Ccw.{Ccw}
use Rattle.ckd_types.specs.declared.geometry.Geometry.{Geometry}
use Rattle.ckd_types.specs.declared.geometry.Geometry.TheVariants.{D3390, D3380}
use Rattle.ckd_rules.specs.declared.order.LocalAct.{LocalAct}
use Rattle.ckd_rules.specs.declared.order.LocalAct.TheVariants.{SetGroup}
use Rattle.ckd_rules.specs.declared.stance.Stance.{Stance}
use Rattle.ckd_rules.specs.Control.{controlled}
use Rattle.ckd_rules.specs.Ending.{Outcome, normal, outcome_with, sent_of}

-- a 3990 with model byte 03, and the device behind it with model byte 02
abbrev pub sense_id_bytes : Geometry → List ℕ
sense_id_bytes D3390 = 0xff ∷ 0x39 ∷ 0x90 ∷ 0x03 ∷ 0x33 ∷ 0x90 ∷ 0x02 ∷ []
sense_id_bytes D3380 = 0xff ∷ 0x39 ∷ 0x90 ∷ 0x03 ∷ 0x33 ∷ 0x80 ∷ 0x02 ∷ []

-- set path group ID gives bytes to the device; every other act answers some
abbrev pub is_given : LocalAct → Bool
is_given (SetGroup function id) = true
is_given _ = false

-- the command sends what the device answered
abbrev pub answered : Stance → Ccw → List ℕ → Outcome
answered s c bytes = outcome_with (controlled s) c (length bytes) normal (sent_of c bytes)

-- the device took twelve bytes
abbrev pub taken : Stance → Ccw → Outcome
taken s c = outcome_with (controlled s) c 12 normal []
