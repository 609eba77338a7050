-- The end of a command in its chain, and where the chain goes.
use Rattle.std.specs.Prelude.{ℕ, ◌&&◌, ◌||◌, not, nat_le, Bool, true, false, List, Option, None, if◌then◌else◌}
use Rattle.ckd_types.specs.declared.channel.Ccw.{Ccw}
use Rattle.ckd_types.specs.declared.channel.CommandEnd.{CommandEnd}
use Rattle.ckd_types.specs.declared.channel.Note.{Note}
use Rattle.ckd_types.specs.declared.channel.Note.TheVariants.{Plain, IncorrectLength, Limit}
use Rattle.ckd_types.specs.Ccw.{is_chained, ccw_at}
use Rattle.ckd_types.specs.Program.{next_ccw}
use Rattle.ckd_types.specs.Status.{has_unit_check, has_unit_exception, has_status_modifier}
use Rattle.ckd_rules.specs.declared.ending.Ending.{Ending}
use Rattle.ckd_rules.specs.declared.stance.Stance.{Stance}
use Rattle.ckd_rules.specs.Ending.{Outcome}

abbrev pub is_plain : Note → Bool
is_plain Plain = true
is_plain IncorrectLength = false
is_plain Limit = false

-- the chain would go on behind a command
abbrev pub would_go_on : Ccw → Ending → Bool
would_go_on c e = is_chained c && not (has_unit_check e.status) && not (has_unit_exception e.status) && is_plain e.note

-- as many commands have ended, or bytes were moved, as a chain may have
abbrev pub at_limit : Stance → Bool
at_limit s = nat_le 4096 s.commands || nat_le 1048576 s.moved

abbrev pub is_over : Ccw → Outcome → Bool
is_over c o = not (would_go_on c o.ending) || at_limit o.stance

abbrev pub note_of : Ccw → Outcome → Note
note_of c o = if would_go_on c o.ending && at_limit o.stance then Limit else o.ending.note

-- the end of the command of word i
abbrev pub end_at_word : ℕ → Ccw → Outcome → CommandEnd
end_at_word i c o = record {
  index = i;
  status = o.ending.status;
  residual = o.ending.residual;
  note = note_of c o;
  sent = o.ending.sent;
  sense = o.ending.sense;
  over = is_over c o;
}

-- where the chain goes, if it goes on
abbrev pub goes_to : List Ccw → ℕ → Outcome → Option ℕ
goes_to ccws i o = if is_over (ccw_at ccws i) o then None else next_ccw ccws i (has_status_modifier o.ending.status)
