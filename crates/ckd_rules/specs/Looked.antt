-- What comes of a command's look at one track.
use Rattle.std.specs.Prelude.{ℕ}
use Rattle.ckd_types.specs.declared.record.Edit.{Edit}
use Rattle.ckd_rules.specs.declared.stance.Place.TheVariants.{Index}
use Rattle.ckd_rules.specs.declared.stance.Stance.{Stance}
use Rattle.ckd_rules.specs.declared.turned.Turned.{Turned}
use Rattle.ckd_rules.specs.declared.turned.Turned.TheVariants as turns
use Rattle.ckd_rules.specs.Ending.{Outcome}

-- the stance behind the look, and whether the command ended, goes on to the track of this stance, or edits the one that it looked at
pub record Looked : Type 0 where
  pub stance : Stance
  pub turned : Turned

abbrev pub ends : Outcome → Looked
ends o = record { stance = o.stance; turned = turns.Ended o.ending }

abbrev pub onward : Stance → ℕ → Looked
onward s t = record { stance = record s { track = t; place = Index }; turned = turns.Onward }

abbrev pub edits : Edit → Outcome → Looked
edits e o = record { stance = o.stance; turned = turns.Edits e o.ending }
