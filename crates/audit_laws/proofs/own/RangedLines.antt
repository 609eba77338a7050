-- The paths and devices that the lines of an event name are in their ranges.
use Rattle.std.proofs.Common.{◌≤◌, ◌++◌, zero, suc, ℕ, List, [], ◌∷◌, length, map, Option, refl, arith}
use Rattle.std.specs.Prelude.{All, IfSome}
use Rattle.std.proofs.lemmas.List.Elements.{All-append, All-nil}
use Rattle.ckd_types.specs.declared.channel.CommandEnd.{CommandEnd}
use Rattle.ckd_types.specs.declared.sense.Sense.{Sense}
use Rattle.hex.specs.Hex.{IsBytes}
use Rattle.deck_text.proofs.DeckAgain.{Each}
use Rattle.plain_defs.specs.declared.journal.Act.{Act}
use Rattle.plain_defs.specs.declared.journal.Item.{Item}
use Rattle.plain_defs.specs.declared.journal.Item.TheVariants as items
use Rattle.plain_defs.specs.Journal.{Plans, planned, replay_item}
use Rattle.plain_defs.specs.Legal.{IsLegalFrom, IsLegalItem}
use Rattle.plain_defs.specs.PlainState.{PlainState}
use Rattle.device_defs.specs.Marks.{MarksDevice}
use Rattle.report_text.specs.declared.event.Happened as report
use Rattle.report_text.specs.declared.line.ReportLine.{ReportLine}
use Rattle.report_text.specs.declared.line.ReportLine.TheVariants as lines
use Rattle.report_text.specs.Ends.{data_lines, end_line, sense_lines}
use Rattle.report_text.specs.Events.{ended_lines, io_lines, loosed_line}
use Rattle.report_reading.specs.Ranges.{AreBytes, IsDevice, IsLine, IsLong, IsOver, IsPath, IsShort, IsTrack}
use Rattle.run_report.specs.declared.told.RunningProgram.{RunningProgram}
use Rattle.run_report.specs.Beside.{how_over, loose_lines, loosed, over_lines}
use Rattle.run_report.specs.Events.{event_lines, running_by, running_in, told, work_told}
use Rattle.subsystem_defs.specs.declared.end.EventEnd.{EventEnd}
use Rattle.subsystem_defs.specs.declared.event.Event.{Event}
use Rattle.subsystem_defs.specs.declared.event.Event.TheVariants as events
use Rattle.subsystem_defs.specs.Beside.{acts_in, Hardened, LooseTold, Loosened, WentBack, behind_first, new_acts, told_act}
use Rattle.subsystem_defs.specs.Deeds.{device_in}
use Rattle.subsystem_defs.specs.Lines.{Asked, Once}
use Rattle.subsystem_defs.specs.Promised.{empty_of}
use Rattle.audit_laws.proofs.own.EachLine.{Tells, event_all}
use Rattle.audit_laws.proofs.own.EachLine.{one as each_one}
use Rattle.audit_laws.proofs.own.NamedEvents.{Names}
use Rattle.audit_laws.proofs.own.RangedActs.{ActOn, each_behind, history_on}
use Rattle.audit_laws.proofs.own.RangedCommands.{EndIn, EventIn}
use Rattle.audit_laws.proofs.own.RangedDevices.{Ranged, device_ranged, few_programs}
use Rattle.audit_laws.proofs.own.RunEnds.{few_of}
use Rattle.audit_laws.proofs.own.RangedEnds.{Answers, OrderIn}
use Rattle.audit_laws.proofs.own.RangedSteps.{WorkIn}
use Rattle.audit_laws.proofs.own.RangedWork.{track_in_range}

pub one : (line : ReportLine) → IsLine line → All IsLine (line ∷ [])
one = each_one IsLine

abbrev HasPath : RunningProgram → Type 0
HasPath r = IsPath r.path × IsShort r.ordinal

-- What an event did

data_known : (bytes : List ℕ) → IsBytes bytes → All IsLine (data_lines bytes)
data_known [] i = All-nil IsLine
data_known (b ∷ bytes) i = one (lines.Data (b ∷ bytes)) i

sense_known : (o : Option Sense) → IfSome o (λ sense. AreBytes 32 sense.bytes) → All IsLine (sense_lines o)
sense_known o i = grind (arith, one)

end_known : (path d n : ℕ) (e : CommandEnd) → IsPath path → IsDevice d → IsShort n → EndIn e → IsLine (lines.End (end_line path d n e))
end_known path d n e p k o i = record { path = p; device = k; ordinal = o; index = i.index; status = i.status; residual = i.residual }

ended_known : (path d n : ℕ) (e : CommandEnd) → IsPath path → IsDevice d → IsShort n → EndIn e → All IsLine (ended_lines path d n e)
ended_known path d n e p k o i =
    All-append IsLine (lines.End (end_line path d n e) ∷ []) (data_lines e.sent ++ sense_lines e.sense)
    (one (lines.End (end_line path d n e)) (end_known path d n e p k o i))
    (All-append IsLine (data_lines e.sent) (sense_lines e.sense) (data_known e.sent i.sent) (sense_known e.sense i.sense))

module _ (d : ℕ) (k : IsDevice d) where
  work_names : (r : Option RunningProgram) → IfSome r HasPath → (idle : report.Happened) → Tells IsLine idle → (end : EventEnd) → EventIn end → WorkIn end →
      Tells IsLine (work_told d r idle end)
  work_names r p idle n end i o = grind (arith, ended_known)

running_path : (o : Option MarksDevice) → IfSome o Ranged → IfSome (running_by o) HasPath
running_path o r = grind (arith, few_programs)

abbrev Repairs : Event → EventEnd → Type 0
Repairs events.RepairCache end = OrderIn end
Repairs events.RepairStore end = OrderIn end
Repairs _ end = Unit {0}

-- what a repair answers
abbrev pub RepairsIn : Asked → EventEnd → Type 0
RepairsIn (Once e) end = Repairs e end
RepairsIn _ end = Unit {0}

module _ (xs : List MarksDevice) (all : All Ranged xs) where
  path_in : (d : ℕ) → IfSome (running_in xs d) HasPath
  path_in d = running_path (device_in xs d) (device_ranged xs d all)

  told_names : (end : EventEnd) (asked : Asked) → Names asked → Answers asked end → RepairsIn asked end → Tells IsLine (told xs end asked)
  told_names end asked n a w = grind (arith, work_names, path_in)

-- Beside it

-- its track; or how many went back, and the new number
abbrev TellsIn : LooseTold → Type 0
TellsIn (Loosened t) = IsTrack t
TellsIn (Hardened t) = IsTrack t
TellsIn (WentBack count number) = IsShort count × IsShort number

loosed_known : (d : ℕ) → IsDevice d → (ls : List LooseTold) → Each TellsIn ls → All IsLine (map loosed_line (map (loosed d) ls))
loosed_known d k [] i = All-nil IsLine
loosed_known d k (l ∷ ls) i = grind (arith, loosed_known d k ls i.1)

module _ (x y : MarksDevice) (r : Ranged x) (s : Ranged y) where
  abbrev OnDevice : Act → Type 0
  OnDevice act = ActOn y.store.cylinders s.some act

  act_in : (act : Act) → OnDevice act → TellsIn (told_act x.store y.store act)
  act_in act lt = grind (arith, track_in_range)

  acts_told : (acts : List Act) → Each OnDevice acts → (rest : List LooseTold) → Each TellsIn rest →
      Each TellsIn (map (told_act x.store y.store) acts ++ rest)
  acts_told [] on rest i = i
  acts_told (act ∷ acts) on rest i = (act_in act on.0, acts_told acts on.1 rest i)

  new_on : Each OnDevice (new_acts x.history y.history)
  new_on =
      each_behind OnDevice (length (acts_in x.history)) (acts_in y.history)
      (history_on y.store.cylinders s.some y.plans (empty_of y) y.history refl refl s.plain)

  loose_known : All IsLine (loose_lines x y)
  loose_known = grind (arith, loosed_known, acts_told, new_on)

abbrev ItemHasPath : Item → Type 0
ItemHasPath (items.Program e) = IsPath e.path × IsShort e.ordinal × IsOver (how_over e.how)
ItemHasPath _ = Unit {0}

module _ (plans : Plans) (few : (path : ℕ) → length (planned plans path) ≤ 512) where
  -- a program that ran on behind fewer than 4,096 ends may have the effect of one command more
  item_path : (state : PlainState) (earlier : List Item) (x : Item) (later : List Item) → IsLegalItem plans state earlier x later → ItemHasPath x
  item_path state earlier x later l = search (arith, few_programs, few_of)

  item_paths : (state : PlainState) (earlier xs : List Item) → IsLegalFrom plans state earlier xs → Each ItemHasPath xs
  item_paths state earlier [] l = tt
  item_paths state earlier (x ∷ xs) l = (item_path state earlier x xs l.0, item_paths (replay_item plans state x) (earlier ++ x ∷ []) xs l.1)

rest_paths : (n : ℕ) (xs : List Item) → Each ItemHasPath xs → Each ItemHasPath (behind_first n xs)
rest_paths zero xs p = p
rest_paths (suc n) [] p = tt
rest_paths (suc n) (x ∷ xs) p = rest_paths n xs p.1

overs_known : (x y : MarksDevice) → Ranged x → Ranged y → All IsLine (over_lines x y)
overs_known x y r s = grind (arith, one, rest_paths, item_paths)

-- An event

module _ (reads writes : ℕ) (few : IsLong reads × IsLong writes) (xs ys : List MarksDevice) (before : All Ranged xs) (behind : All Ranged ys) where
  io_known : All IsLine (io_lines reads writes)
  io_known = grind (arith, one)

  pub event_known : (end : EventEnd) (asked : Asked) → Names asked → Answers asked end → RepairsIn asked end →
      All IsLine (event_lines asked end reads writes xs ys)
  event_known end asked n a w =
      event_all IsLine Ranged loose_known overs_known xs ys before behind reads writes io_known end asked (told_names xs before end asked n a w)
