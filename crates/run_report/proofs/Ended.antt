-- What was recorded of an event with which a command ended, piece by piece, is its lines.
use Rattle.std.proofs.Common.{◌≡◌, ◌∙◌, ◌++◌, [], ℕ, List, Option, Some, None, refl, sym, ap, append_assoc, map}
use Rattle.std.proofs.lemmas.List.{append-nil}
use Rattle.ckd_types.specs.declared.channel.CommandEnd.{CommandEnd}
use Rattle.plain_defs.specs.declared.journal.Item.{Item}
use Rattle.report_text.specs.declared.event.Loosed.{Loosed}
use Rattle.report_text.specs.declared.line.ReportLine.{ReportLine}
use Rattle.report_text.specs.Events.{first_lines, io_lines, last_line, line_if, loosed_line, program_over_lines}
use Rattle.run_report.specs.declared.told.RunningProgram.{RunningProgram}
use Rattle.run_report.specs.Beside.{over_of}
use Rattle.run_report.specs.Events.{end_told}
use Rattle.run_report.specs.OneDevice.{lines_by}

-- nothing is told last
none_last : (d : ℕ) (running : Option RunningProgram) (e : CommandEnd) → line_if (last_line (end_told d running e)) ≡ []
none_last d (Some r) e = refl
none_last d None e = refl

one_behind : (old xs ys a b : List ReportLine) → a ≡ old ++ xs → b ≡ a ++ ys → b ≡ old ++ (xs ++ ys)
one_behind old xs ys a b first then = then ∙ ap (λ (l : List ReportLine). l ++ ys) first ∙ append_assoc old xs ys

pub ended_told : (d : ℕ) (running : Option RunningProgram) (e : CommandEnd) (acts : List Loosed) (reads writes : ℕ) (items : List Item)
    (old a b c new : List ReportLine) → a ≡ old ++ first_lines (end_told d running e) → b ≡ a ++ map loosed_line acts → c ≡ b ++ io_lines reads writes →
    new ≡ c ++ program_over_lines (over_of d items) → new ≡ old ++ lines_by d (end_told d running e) acts reads writes items
ended_told d running e acts reads writes items old a b c new first loosed called over =
    let ends : List ReportLine = first_lines (end_told d running e) in
    let went : List ReportLine = map loosed_line acts in
    let calls : List ReportLine = io_lines reads writes in
    let program : List ReportLine = program_over_lines (over_of d items) in
    one_behind old (ends ++ went ++ calls) program c new (one_behind old (ends ++ went) calls b c (one_behind old ends went a b first loosed) called) over
    ∙ ap (λ (l : List ReportLine). old ++ l)
    (append_assoc (ends ++ went) calls program ∙ append_assoc ends went (calls ++ program)
    ∙ ap (λ (l : List ReportLine). ends ++ (went ++ (calls ++ l))) (sym (append-nil program) ∙ ap (λ (l : List ReportLine). program ++ l) (sym (none_last d running e))))
