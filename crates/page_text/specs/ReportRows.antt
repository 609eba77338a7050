-- The rows of the report's table: a line's number, its text, and what it says.
use Rattle.std.specs.Prelude.{ℕ, ◌==◌, Bool, List, [], ◌∷◌, ◌++◌, codes, decimal, length, slice_index, Option, Some, None, if◌then◌else◌}
use Rattle.ckd_types.specs.declared.channel.Note.{Note}
use Rattle.ckd_types.specs.declared.channel.Note.TheVariants as notes
use Rattle.ckd_types.specs.declared.sense.Sense.{Sense}
use Rattle.report_text.specs.declared.line.EndLine.{EndLine}
use Rattle.report_text.specs.declared.line.ReportLine.{ReportLine}
use Rattle.report_text.specs.declared.line.ReportLine.TheVariants as lines
use Rattle.page_text.specs.Answers.{back_text, loose_text, order_answer_text, over_text, start_text, totals_text}
use Rattle.page_text.specs.Names.{name_of, repeat_name}
use Rattle.page_text.specs.Pieces.{joined, shown_text, track_text}
use Rattle.page_text.specs.declared.lines.ShownLine.{ShownLine}

-- the bits of a status that a run ends a command with
abbrev pub status_name : ℕ → List ℕ
status_name status =
    if status == 0x0c then codes "channel end, device end"
    else if status == 0x4c then codes "status modifier, channel end, device end: the search is satisfied"
    else if status == 0x0d then codes "channel end, device end, unit exception: end of file"
    else if status == 0x0e then codes "channel end, device end, unit check"
    else codes "another status"

abbrev pub note_name : Note → List ℕ
note_name notes.Plain = []
note_name notes.IncorrectLength = codes "; incorrect length"
note_name notes.Limit = codes "; the chain ends at its limit"

abbrev pub reject_name : ℕ → List ℕ
reject_name eighth =
    if eighth == 1 then codes "command reject: the code is no command's"
    else if eighth == 2 then codes "command reject: it may not stand here, or the mask forbids it"
    else if eighth == 3 then codes "command reject: the count is less than the least"
    else if eighth == 4 then codes "command reject: a parameter means nothing here"
    else codes "command reject"

-- what sense bytes 0, 1 and 7 say
abbrev pub sense_name : ℕ → ℕ → ℕ → List ℕ
sense_name first second eighth =
    if first == 0x80 then reject_name eighth
    else if first == 0x10 then codes "equipment check: the track can't be had"
    else if first == 0x08 then codes "data check: the volume gave bytes that are no track"
    else if second == 0x40 then codes "invalid track format: a record doesn't fit"
    else if second == 0x20 then codes "end of cylinder"
    else if second == 0x08 then codes "no record found"
    else if second == 0x04 then codes "file protected: the track is outside the extent, or the mask forbids the seek"
    else codes "no check"

abbrev pub frame_name : Bool → List ℕ
frame_name modified = if modified then codes "a modified frame: " else codes "a clean frame: "

-- the name of the command that ended, where the deck has it
abbrev pub code_text : Option ℕ → List ℕ
code_text (Some code) = joined (name_of code ∷ repeat_name code ∷ [])
code_text None = joined (codes "a command" ∷ [])

unfoldable pub link_text : EndLine → List ℕ
link_text end =
    joined (codes "<a href='#w" ∷ decimal end.device ∷ codes "-" ∷ decimal end.path ∷ codes "-" ∷ decimal end.ordinal
    ∷ codes "-" ∷ decimal end.index ∷ codes "'>" ∷ [])

unfoldable pub outcome_by : List ℕ → ℕ → List ℕ → List ℕ
outcome_by status residual note = joined (codes "</a>: " ∷ status ∷ codes "; residual count " ∷ decimal residual ∷ note ∷ [])

abbrev pub outcome_text : EndLine → List ℕ
outcome_text end = outcome_by (status_name end.status.0) end.residual (note_name end.note)

-- a command's end, with a link to its word
abbrev pub end_text : EndLine → Option ℕ → List ℕ
end_text end code = link_text end ++ (code_text code ++ outcome_text end)

abbrev pub sense_text : Sense → List ℕ
sense_text sense =
    joined (sense_name (slice_index sense.bytes 0) (slice_index sense.bytes 1) (slice_index sense.bytes 7) ∷ [])

abbrev pub left_text : ℕ → List ℕ
left_text n = joined (codes "programs that weren't started: " ∷ decimal n ∷ [])

abbrev pub unused_text : ℕ → List ℕ
unused_text n = joined (codes "event lines that weren't used: " ∷ decimal n ∷ [])

-- what a line says, in words
abbrev pub line_words : ReportLine → Option ℕ → List ℕ
line_words (lines.Start path device answer) code = start_text answer
line_words (lines.End end) code = end_text end code
line_words (lines.Data bytes) code = joined (codes "bytes that were sent: " ∷ decimal (length bytes) ∷ [])
line_words (lines.Sense sense) code = sense_text sense
line_words (lines.Half path device t) code = joined (codes "first part of a write done: " ∷ track_text t ∷ [])
line_words (lines.Back device answer) code = back_text answer
line_words (lines.StepIdle device) code = joined (codes "no program runs" ∷ [])
line_words (lines.RunIdle device) code = joined (codes "no program runs" ∷ [])
line_words (lines.Loose device answer) code = loose_text answer
line_words (lines.Io reads writes) code = joined (codes "reads of volumes: " ∷ decimal reads ∷ codes ", writes: " ∷ decimal writes ∷ [])
line_words (lines.Over path device ordinal how) code = over_text how
line_words (lines.Reset path device) code = joined (codes "reset of the path" ∷ [])
line_words (lines.Order order answer) code = order_answer_text order answer
line_words (lines.Device device totals) code = totals_text totals
line_words (lines.Lost device t) code = joined (codes "lost: " ∷ track_text t ∷ [])
line_words (lines.Frame device t modified) code = joined (frame_name modified ∷ track_text t ∷ [])
line_words (lines.Fresh device) code = joined (codes "the volume was made empty" ∷ [])
line_words (lines.Left path device n) code = left_text n
line_words (lines.Unused n) code = unused_text n
line_words lines.Finish code = joined (codes "the report is whole" ∷ [])
line_words (lines.Sum of n) code = joined (codes "sum: " ∷ decimal n ∷ [])

abbrev pub words_in : Option ReportLine → Option ℕ → List ℕ
words_in (Some line) code = line_words line code
words_in None code = []

abbrev pub words_of : ShownLine → List ℕ
words_of shown = words_in shown.line shown.code

unfoldable pub row_start : ℕ → List ℕ → List ℕ
row_start i text =
    joined (codes "<tr id='l" ∷ decimal i ∷ codes "'><th scope='row'><a href='#l" ∷ decimal i ∷ codes "'>" ∷ decimal i
    ∷ codes "</a></th><td class='t'>" ∷ shown_text text ∷ codes "</td><td>" ∷ [])

unfoldable pub row_end : List ℕ
row_end = joined (codes "</td></tr>\n" ∷ [])

abbrev pub row_text : ℕ → ShownLine → List ℕ
row_text i shown = row_start i shown.text ++ (words_of shown ++ row_end)
