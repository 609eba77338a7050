-- Whether a line says what is wanted of it.
use Rattle.std.specs.Prelude.{◌==◌, ◌&&◌, Bool, true, false}
use Rattle.std.specs.Str.{bytes_eq}
use Rattle.ckd_types.specs.declared.channel.Note.{Note}
use Rattle.ckd_types.specs.declared.channel.Note.TheVariants as notes
use Rattle.ckd_types.specs.declared.paths.Side.{Side}
use Rattle.ckd_types.specs.declared.paths.Side.TheVariants.{A, B}
use Rattle.ckd_rules.specs.Grouping.{is_same_owner}
use Rattle.report_text.specs.declared.answers.HowOver.{HowOver}
use Rattle.report_text.specs.declared.answers.HowOver.TheVariants as how
use Rattle.report_text.specs.declared.answers.LooseAnswer.{LooseAnswer}
use Rattle.report_text.specs.declared.answers.LooseAnswer.TheVariants as loose
use Rattle.report_text.specs.declared.answers.StartAnswer.{StartAnswer}
use Rattle.report_text.specs.declared.answers.StartAnswer.TheVariants as start
use Rattle.report_text.specs.declared.line.EndLine.{EndLine}
use Rattle.report_text.specs.declared.line.ReportLine.{ReportLine}
use Rattle.report_text.specs.declared.line.ReportLine.TheVariants as lines
use Rattle.report_text.specs.declared.order.Order.{Order}
use Rattle.report_text.specs.declared.order.Order.TheVariants as orders

abbrev pub is_same_note : Note → Note → Bool
is_same_note notes.Plain notes.Plain = true
is_same_note notes.IncorrectLength notes.IncorrectLength = true
is_same_note notes.Limit notes.Limit = true
is_same_note note other = false

abbrev pub is_same_side : Side → Side → Bool
is_same_side A A = true
is_same_side B B = true
is_same_side side other = false

abbrev pub is_same_start : StartAnswer → StartAnswer → Bool
is_same_start (start.Accepted n) (start.Accepted m) = n == m
is_same_start (start.Busy p) (start.Busy q) = p == q
is_same_start start.Done start.Done = true
is_same_start start.Running start.Running = true
is_same_start (start.Secondary d) (start.Secondary e) = d == e
is_same_start (start.Reserved o) (start.Reserved p) = is_same_owner o p
is_same_start (start.Shut o) (start.Shut p) = is_same_owner o p
is_same_start answer other = false

abbrev pub is_same_over : HowOver → HowOver → Bool
is_same_over how.Full how.Full = true
is_same_over how.Checked how.Checked = true
is_same_over (how.Cut n) (how.Cut m) = n == m
is_same_over ended other = false

abbrev pub is_same_loose : LooseAnswer → LooseAnswer → Bool
is_same_loose (loose.Harden t) (loose.Harden u) = t == u
is_same_loose (loose.Loosen t) (loose.Loosen u) = t == u
is_same_loose (loose.Lost n id) (loose.Lost m new) = (n == m) && bytes_eq id new
is_same_loose answer other = false

abbrev pub is_same_order : Order → Order → Bool
is_same_order orders.FailCache orders.FailCache = true
is_same_order orders.FailStore orders.FailStore = true
is_same_order (orders.FailVolume d side) (orders.FailVolume e other) = (d == e) && is_same_side side other
is_same_order orders.RepairCache orders.RepairCache = true
is_same_order orders.RepairStore orders.RepairStore = true
is_same_order (orders.Replace d side) (orders.Replace e other) = (d == e) && is_same_side side other
is_same_order (orders.Pair a b) (orders.Pair c d) = (a == c) && (b == d)
is_same_order (orders.Unpair a) (orders.Unpair b) = a == b
is_same_order (orders.Suspend a) (orders.Suspend b) = a == b
is_same_order (orders.Resume a) (orders.Resume b) = a == b
is_same_order orders.Power orders.Power = true
is_same_order order other = false

abbrev pub is_same_end : EndLine → EndLine → Bool
is_same_end e f =
    (e.path == f.path) && (e.device == f.device) && (e.ordinal == f.ordinal) && (e.index == f.index) && (e.status.0 == f.status.0)
    && (e.residual == f.residual) && is_same_note e.note f.note

-- of the lines of which a content is wanted
abbrev pub says : ReportLine → ReportLine → Bool
says (lines.Start p d answer) (lines.Start q e other) = (p == q) && (d == e) && is_same_start answer other
says (lines.End end) (lines.End other) = is_same_end end other
says (lines.Data bytes) (lines.Data other) = bytes_eq bytes other
says (lines.Sense sense) (lines.Sense other) = bytes_eq sense.bytes other.bytes
says (lines.StepIdle d) (lines.StepIdle e) = d == e
says (lines.RunIdle d) (lines.RunIdle e) = d == e
says (lines.Loose d answer) (lines.Loose e other) = (d == e) && is_same_loose answer other
says (lines.Over p d n ended) (lines.Over q e m other) = (p == q) && (d == e) && (n == m) && is_same_over ended other
says (lines.Reset p d) (lines.Reset q e) = (p == q) && (d == e)
says wanted line = false
