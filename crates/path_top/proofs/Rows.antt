-- What is computed of histories, from the definitions alone.
use Rattle.std.proofs.Common.{◌≡◌, ◌∷◌, List, [], ℕ, Bool, true, false, Some, None, refl}
use Rattle.std.specs.Fmt.{digits}
use Rattle.std.specs.List.{range_with_len}
use Rattle.std.specs.Prelude.{codes, replicate}
use Rattle.ckd_types.specs.declared.channel.CommandEnd.{CommandEnd}
use Rattle.ckd_types.specs.declared.channel.Note.TheVariants.{Plain}
use Rattle.plain_defs.specs.declared.journal.Act.TheVariants.{CfwLost, Loosen}
use Rattle.plain_defs.specs.declared.journal.Acted.{Acted}
use Rattle.plain_defs.specs.declared.journal.How.TheVariants.{Full}
use Rattle.plain_defs.specs.declared.journal.Item.{Item}
use Rattle.plain_defs.specs.declared.journal.Item.TheVariants as items
use Rattle.deck_plan.specs.declared.event.EventLine.TheVariants as events
use Rattle.hex.specs.Hex.{encode_with}
use Rattle.report_text.specs.declared.answers.DeviceTotals.TheVariants as totals
use Rattle.report_text.specs.declared.answers.HowOver.TheVariants as over
use Rattle.report_text.specs.declared.answers.LooseAnswer.TheVariants as loose
use Rattle.report_text.specs.declared.line.ReportLine.TheVariants as lines
use Rattle.report_text.specs.Ends.{end_line, lines_text}
use Rattle.report_text.specs.Lines.{text_of}
use Rattle.path_top.specs.Journals.{journal_lines}
use Rattle.path_top.specs.Pairs.{unused_in}
use Rattle.path_top.specs.Told.{DeviceTold, device_lines, history_lines}

abbrev ended : ℕ → List ℕ → Bool → CommandEnd
ended i sent last = record { index = i; status = record { 0 = 12 }; residual = 0; note = Plain; sent = sent; sense = None; over = last }

-- a program of three commands, the last of which reads eight bytes
abbrev read_by : ℕ → List Acted → Item
read_by path acts = items.Program (record {
  path = path;
  ordinal = 1;
  how = Full;
  ends = ended 0 [] false ∷ ended 1 [] false ∷ ended 2 (replicate 8 0) true ∷ [];
  acts = acts;
})

abbrev told_alone : ℕ → ℕ → DeviceTold
told_alone d path =
    record { device = d; journal = read_by path [] ∷ []; left = 0 ∷ 0 ∷ 0 ∷ 0 ∷ []; lent = None; lost = [] }

-- two paths, each with a program on a device of its own
two_paths_row : lines_text (history_lines (told_alone 0 1 ∷ told_alone 1 2 ∷ []) 0)
    ≡ codes "END 1 0 1 0 0C 0 -\nEND 1 0 1 1 0C 0 -\nEND 1 0 1 2 0C 0 -\nDATA 0000000000000000\nOVER 1 0 1 FULL\nDEVICE 0 LOST 0\nEND 2 1 1 0 0C 0 -\nEND 2 1 1 1 0C 0 -\nEND 2 1 1 2 0C 0 -\nDATA 0000000000000000\nOVER 2 1 1 FULL\nDEVICE 1 LOST 0\nUNUSED 0\nFINISH\n"
unfolding text_of digits encode_with
two_paths_row = refl

-- the one volume of a device failed
lost_volume_row : history_lines (record { device = 0; journal = []; left = 0 ∷ 0 ∷ 0 ∷ 0 ∷ []; lent = None; lost = range_with_len 0 15 } ∷ []) 0
    ≡ lines.Device 0 (totals.Lost 15) ∷ lines.Lost 0 0 ∷ lines.Lost 0 1 ∷ lines.Lost 0 2 ∷ lines.Lost 0 3 ∷ lines.Lost 0 4 ∷ lines.Lost 0 5 ∷ lines.Lost 0 6
    ∷ lines.Lost 0 7 ∷ lines.Lost 0 8 ∷ lines.Lost 0 9 ∷ lines.Lost 0 10 ∷ lines.Lost 0 11 ∷ lines.Lost 0 12 ∷ lines.Lost 0 13 ∷ lines.Lost 0 14
    ∷ lines.Unused 0 ∷ lines.Finish ∷ []
lost_volume_row = refl

-- a device that is lent
lent_row : device_lines (record { device = 1; journal = []; left = 2 ∷ 0 ∷ 1 ∷ 0 ∷ []; lent = Some 0; lost = [] })
    ≡ lines.Left 1 1 2 ∷ lines.Left 3 1 1 ∷ lines.Device 1 (totals.Lent 0) ∷ []
lent_row = refl

-- what became of data of cache fast write stands where it came
acts_row : journal_lines 0 (read_by 1 (record { after = 2; act = Loosen 7 } ∷ []) ∷ items.Act CfwLost ∷ [])
    ≡ lines.End (end_line 1 0 1 (ended 0 [] false)) ∷ lines.End (end_line 1 0 1 (ended 1 [] false)) ∷ lines.Loose 0 (loose.Loosen 7)
    ∷ lines.End (end_line 1 0 1 (ended 2 [] true)) ∷ lines.Data (replicate 8 0) ∷ lines.Over 1 0 1 over.Full ∷ lines.Loose 0 (loose.Lost 1 (0 ∷ 1 ∷ [])) ∷ []
acts_row = refl

-- a pair behind the first START line is unused, an order anywhere is used
unused_row : unused_in (events.Pair 0 1 ∷ events.FailCache ∷ events.Start 1 0 ∷ events.Pair 2 3 ∷ events.Resume 0 ∷ []) ≡ 2
unused_row = refl
