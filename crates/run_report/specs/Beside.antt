-- What is told beside what an event did: what became of data of cache fast write, and which program is over. Every line is own.
use Rattle.std.specs.Prelude.{ℕ, ◌/◌, ◌%◌, List, [], ◌∷◌, ◌++◌, map, Option, Some, None}
use Rattle.plain_defs.specs.declared.journal.How.{How}
use Rattle.plain_defs.specs.declared.journal.How.TheVariants as hows
use Rattle.plain_defs.specs.declared.journal.Item.{Item}
use Rattle.plain_defs.specs.declared.journal.Item.TheVariants as items
use Rattle.plain_defs.specs.Entry.{ProgramEntry}
use Rattle.device_defs.specs.Device.{Device}
use Rattle.report_text.specs.declared.answers.HowOver.{HowOver}
use Rattle.report_text.specs.declared.answers.HowOver.TheVariants as over
use Rattle.report_text.specs.declared.answers.LooseAnswer.{LooseAnswer}
use Rattle.report_text.specs.declared.answers.LooseAnswer.TheVariants as loose
use Rattle.report_text.specs.declared.event.Loosed.{Loosed}
use Rattle.report_text.specs.declared.event.ProgramOver.{ProgramOver}
use Rattle.report_text.specs.declared.line.ReportLine.{ReportLine}
use Rattle.report_text.specs.Events.{loosed_line, program_over_lines}
use Rattle.subsystem_defs.specs.Beside.{LooseTold, Loosened, Hardened, WentBack, loose_told, new_items}

-- a number in its two bytes
abbrev pub id_of : ℕ → List ℕ
id_of number = number / 256 ∷ number % 256 ∷ []

abbrev pub loose_answer : LooseTold → LooseAnswer
loose_answer (Loosened t) = loose.Loosen t
loose_answer (Hardened t) = loose.Harden t
loose_answer (WentBack count number) = loose.Lost count (id_of number)

abbrev pub loosed : ℕ → LooseTold → Loosed
loosed d x = record { device = d; answer = loose_answer x }

abbrev pub how_over : How → HowOver
how_over hows.Full = over.Full
how_over hows.Checked = over.Checked
how_over (hows.Cut effect) = over.Cut effect

abbrev pub program_over_line : ℕ → ProgramEntry → ProgramOver
program_over_line d e = record { path = e.path; device = d; ordinal = e.ordinal; how = how_over e.how }

-- a program that is over is the first item that came to the journal. A reset that comes with it, or that waited for it, is no line
abbrev pub over_of : ℕ → List Item → Option ProgramOver
over_of d (items.Program e ∷ xs) = Some (program_over_line d e)
over_of d _ = None

module _ {F P H : Type 0} where
  -- of one device before and behind an event, in the order of its acts
  abbrev pub loose_lines : Device F P H → Device F P H → List ReportLine
  loose_lines before behind = map loosed_line (map (loosed before.store.device) (loose_told before behind))

  abbrev pub over_lines : Device F P H → Device F P H → List ReportLine
  over_lines before behind = program_over_lines (over_of before.store.device (new_items before.history behind.history))

  -- a loss of power tells of its program first
  abbrev pub power_lines : Device F P H → Device F P H → List ReportLine
  power_lines before behind = over_lines before behind ++ loose_lines before behind

  -- of each device in rising order
  abbrev pub of_each : (Device F P H → Device F P H → List ReportLine) → List (Device F P H) → List (Device F P H) → List ReportLine
  of_each f (before ∷ befores) (behind ∷ behinds) = f before behind ++ of_each f befores behinds
  of_each f _ _ = []
