-- Audits of data of cache fast write, of a pair, and of paths beside each other, computed from the definitions alone.
use Rattle.std.proofs.Common.{◌≡◌, ℕ, List, [], ◌∷◌, ◌++◌, refl}
use Rattle.std.specs.Prelude.{replicate, map, slice_index}
use Rattle.std.specs.List.{flat_map}
use Rattle.ckd_types.specs.declared.channel.Ccw.{Ccw}
use Rattle.ckd_types.specs.declared.channel.Note.TheVariants.{Plain}
use Rattle.ckd_types.specs.declared.geometry.Geometry.TheVariants.{D3390}
use Rattle.ckd_types.specs.declared.paths.Owner.TheVariants as owners
use Rattle.ckd_types.specs.declared.paths.Side.TheVariants.{A, B}
use Rattle.ckd_types.specs.Commands.{command_of}
use Rattle.ckd_rules.specs.Walk.{walk}
use Rattle.deck_plan.specs.declared.event.EventLine.{EventLine}
use Rattle.deck_plan.specs.declared.event.EventLine.TheVariants as events
use Rattle.deck_text.specs.DeckLines.{DeckLines}
use Rattle.plain_defs.specs.Program.{part_of}
use Rattle.report_text.specs.declared.answers.BackAnswer.TheVariants as back
use Rattle.report_text.specs.declared.answers.DeviceTotals.TheVariants as totals
use Rattle.report_text.specs.declared.answers.HowOver.TheVariants.{Full}
use Rattle.report_text.specs.declared.answers.HowOver.TheVariants as how
use Rattle.report_text.specs.declared.answers.LooseAnswer.TheVariants as loose
use Rattle.report_text.specs.declared.answers.OrderAnswer.TheVariants as order_answers
use Rattle.report_text.specs.declared.answers.StartAnswer.{StartAnswer}
use Rattle.report_text.specs.declared.answers.StartAnswer.TheVariants as start
use Rattle.report_text.specs.declared.line.ReportLine.{ReportLine}
use Rattle.report_text.specs.declared.line.ReportLine.TheVariants as lines
use Rattle.report_text.specs.declared.order.Order.{Order}
use Rattle.report_text.specs.declared.order.Order.TheVariants as orders
use Rattle.deck_audit.specs.declared.status.AuditStatus.TheVariants.{Yes, No}
use Rattle.deck_audit.specs.declared.status.AuditWhy.TheVariants.{Place, History}
use Rattle.report_audit.proofs.Rows.{audit_all, deck_of, word, read_zero, ended, accepted, over, cut, io, tail, run_once}

-- an update of record 0 of track 0, under a mode byte
abbrev update : ℕ → List Ccw
update mode =
    word 0x63 0x40 16 (0x80 ∷ mode ∷ 0x10 ∷ 0 ∷ replicate 11 0 ++ 0x0e ∷ [])
    ∷ word 0x47 0x40 16 (1 ∷ 0 ∷ 0 ∷ 1 ∷ replicate 12 0)
    ∷ word 0x85 0 8 (1 ∷ 2 ∷ 3 ∷ 4 ∷ 5 ∷ 6 ∷ 7 ∷ 8 ∷ []) ∷ []

-- up to the END line of its third command
abbrev updates : ℕ → List ReportLine
updates n = accepted n ∷ ended n 0 0x0c 0 ∷ ended n 1 0x0c 0 ∷ ended n 2 0x0c 0 ∷ []

abbrev reads : ℕ → List ℕ → List ReportLine
reads n sent = accepted n ∷ ended n 0 0x0c 0 ∷ ended n 1 0x0c 0 ∷ ended n 2 0x0c 0 ∷ lines.Data sent ∷ over n ∷ []

abbrev new_data : List ℕ
new_data = 1 ∷ 2 ∷ 3 ∷ 4 ∷ 5 ∷ 6 ∷ 7 ∷ 8 ∷ []

abbrev loosen : ℕ → ReportLine
loosen t = lines.Loose 0 (loose.Loosen t)

abbrev harden : ℕ → ReportLine
harden t = lines.Loose 0 (loose.Harden t)

abbrev lost : ℕ → ℕ → ReportLine
lost count number = lines.Loose 0 (loose.Lost count (0 ∷ number ∷ []))

abbrev done : Order → ReportLine
done order = lines.Order order order_answers.Done

-- Data of cache fast write that are lost

abbrev fails_between : DeckLines
fails_between = deck_of (update 0xc2 ∷ read_zero ∷ []) (run_once ++ events.FailCache ∷ run_once)

lost_and_read : audit_all fails_between
    ((updates 1 ++ loosen 0 ∷ over 1 ∷ lost 1 1 ∷ done orders.FailCache ∷ reads 2 (replicate 8 0) ++ tail)
    ∷ (updates 1 ++ loosen 0 ∷ over 1 ∷ lost 1 1 ∷ done orders.FailCache ∷ reads 2 new_data ++ tail)
    ∷ (updates 1 ++ loosen 0 ∷ over 1 ∷ done orders.FailCache ∷ reads 2 new_data ++ tail)
    ∷ (updates 1 ++ over 1 ∷ done orders.FailCache ∷ reads 2 new_data ++ tail)
    ∷ (updates 1 ++ over 1 ∷ lost 1 1 ∷ done orders.FailCache ∷ reads 2 (replicate 8 0) ++ tail)
    ∷ (updates 1 ++ loosen 0 ∷ over 1 ∷ lost 2 1 ∷ done orders.FailCache ∷ reads 2 (replicate 8 0) ++ tail)
    ∷ (updates 1 ++ loosen 0 ∷ over 1 ∷ lost 1 2 ∷ done orders.FailCache ∷ reads 2 (replicate 8 0) ++ tail)
    ∷ (updates 1 ++ loosen 0 ∷ over 1 ∷ lost 1 1 ∷ lost 1 1 ∷ done orders.FailCache ∷ reads 2 (replicate 8 0) ++ tail) ∷ [])
    ≡ Yes ∷ No 13 History ∷ Yes ∷ Yes ∷ No 6 History ∷ No 7 History ∷ No 7 History ∷ No 8 Place ∷ []
unfolding part_of command_of walk
lost_and_read = refl

-- CFW lines without their condition: of another track, of a command that writes nothing, of a track that isn't loose,
-- twice, and behind an edit of another mode

acts_as_they_must : audit_all (deck_of (update 0xc2 ∷ []) run_once)
    ((updates 1 ++ loosen 1 ∷ over 1 ∷ tail)
    ∷ (accepted 1 ∷ ended 1 0 0x0c 0 ∷ ended 1 1 0x0c 0 ∷ loosen 0 ∷ ended 1 2 0x0c 0 ∷ over 1 ∷ tail)
    ∷ (updates 1 ++ harden 0 ∷ over 1 ∷ tail) ∷ (updates 1 ++ loosen 0 ∷ loosen 0 ∷ over 1 ∷ tail)
    ∷ (updates 1 ++ over 1 ∷ loosen 0 ∷ tail) ∷ [])
    ≡ No 5 History ∷ No 4 History ∷ No 5 History ∷ No 6 Place ∷ No 6 Place ∷ []
unfolding part_of command_of walk
acts_as_they_must = refl

-- a loose track is written as if it were firm: it becomes firm before, or the line behind the END shows it
firm_behind_loose : audit_all (deck_of (update 0xc2 ∷ update 0xc0 ∷ []) (run_once ++ run_once))
    ((updates 1 ++ loosen 0 ∷ over 1 ∷ updates 2 ++ harden 0 ∷ io 0 1 ∷ over 2 ∷ tail)
    ∷ (updates 1 ++ loosen 0 ∷ over 1 ∷ updates 2 ++ over 2 ∷ tail)
    ∷ (updates 1 ++ loosen 0 ∷ over 1 ∷ updates 2 ++ io 0 1 ∷ over 2 ∷ tail)
    ∷ (updates 1 ++ loosen 0 ∷ over 1 ∷ updates 2 ++ loosen 0 ∷ over 2 ∷ tail)
    ∷ (updates 1 ++ over 1 ∷ updates 2 ++ over 2 ∷ tail) ∷ [])
    ≡ Yes ∷ No 11 History ∷ No 11 History ∷ No 11 History ∷ Yes ∷ []
unfolding part_of command_of walk
firm_behind_loose = refl

-- A pair, of which a side fails between the two parts of a write

abbrev pair_devices : List EventLine → List (List Ccw) → DeckLines
pair_devices events programs = record (deck_of programs events) {
  devices = record { number = 0; geometry = D3390; cylinders = 1 } ∷ record { number = 1; geometry = D3390; cylinders = 1 } ∷ [];
}

abbrev half : ReportLine
half = lines.Half 1 0 0

abbrev copied : ℕ → List ReportLine
copied t = lines.Back 0 (back.Copied t) ∷ io 1 1 ∷ []

abbrev all_copied : List ReportLine
all_copied = flat_map copied (0 ∷ 1 ∷ 2 ∷ 3 ∷ 4 ∷ 5 ∷ 6 ∷ 7 ∷ 8 ∷ 9 ∷ 10 ∷ 11 ∷ 12 ∷ 13 ∷ 14 ∷ []) ++ lines.Back 0 back.Nothing ∷ []

abbrev pair_tail : List ReportLine
pair_tail = lines.Device 0 (totals.Calls 35 32 0) ∷ lines.Device 1 (totals.Lent 0) ∷ lines.Finish ∷ []

abbrev pair_run : List EventLine
pair_run =
    events.Pair 0 1 ∷ events.Settle 0 ∷ events.Start 1 0 ∷ events.Step 0 ∷ events.Step 0 ∷ events.Step 0 ∷ events.FailVolume 0 A
    ∷ events.Step 0 ∷ run_once ++ events.Replace 0 A ∷ events.Settle 0 ∷ events.FailVolume 0 B ∷ run_once

abbrev pair_report : ReportLine → List ℕ → List ReportLine → List ReportLine
pair_report second sent last =
    done (orders.Pair 0 1) ∷ all_copied
    ++ accepted 1 ∷ ended 1 0 0x0c 0 ∷ ended 1 1 0x0c 0 ∷ half ∷ io 0 1 ∷ done (orders.FailVolume 0 A) ∷ second ∷ io 0 1 ∷ over 1
    ∷ reads 2 new_data ++ done (orders.Replace 0 A) ∷ all_copied ++ done (orders.FailVolume 0 B) ∷ reads 3 sent ++ last

a_pair : audit_all (pair_devices pair_run (update 0xc1 ∷ read_zero ∷ read_zero ∷ []))
    (pair_report (ended 1 2 0x0c 0) new_data pair_tail ∷ pair_report (ended 1 2 0x0c 0) (replicate 8 0) pair_tail
    ∷ pair_report half new_data pair_tail ∷ pair_report (ended 1 2 0x0c 0) new_data tail ∷ [])
    ≡ Yes ∷ No 85 History ∷ No 39 Place ∷ No 88 Place ∷ []
unfolding part_of command_of walk
a_pair = refl

-- a program that is cut in such a half write counts its command; the second part is of the background then
half_cut : audit_all (pair_devices
    (events.Pair 0 1 ∷ events.Start 1 0 ∷ events.Step 0 ∷ events.Step 0 ∷ events.Step 0 ∷ events.Reset 1 0 ∷ events.Back 0 ∷ run_once)
    (update 0xc1 ∷ read_zero ∷ []))
    (map (λ (x : ℕ × List ReportLine × List ℕ). done (orders.Pair 0 1) ∷ accepted 1 ∷ ended 1 0 0x0c 0 ∷ ended 1 1 0x0c 0 ∷ half
    ∷ cut 1 x.0 ∷ lines.Reset 1 0 ∷ x.1 ++ reads 2 x.2 ++ pair_tail)
    ((3, lines.Back 0 (back.Finished 0) ∷ [], new_data) ∷ (2, lines.Back 0 (back.Finished 0) ∷ [], replicate 8 0)
    ∷ (3, lines.Back 0 (back.Finished 0) ∷ [], replicate 8 0) ∷ (3, lines.Back 0 back.Nothing ∷ [], new_data)
    ∷ (1, lines.Back 0 (back.Finished 0) ∷ [], new_data) ∷ []))
    ≡ Yes ∷ Yes ∷ No 13 History ∷ No 8 Place ∷ No 6 History ∷ []
unfolding part_of command_of walk
half_cut = refl

-- a lent device answers so, and comes back empty
lent : audit_all (record (pair_devices (events.Pair 0 1 ∷ events.Start 1 1 ∷ events.Unpair 0 ∷ events.Start 1 1 ∷ []) [])
    { programs = record { path = 1; device = 1; program = read_zero } ∷ [] })
    ((done (orders.Pair 0 1) ∷ lines.Start 1 1 (start.Secondary 0) ∷ done (orders.Unpair 0) ∷ lines.Start 1 1 (start.Accepted 1)
    ∷ lines.Device 0 (totals.Calls 0 0 0) ∷ lines.Device 1 (totals.Calls 0 0 0) ∷ lines.Finish ∷ [])
    ∷ (done (orders.Pair 0 1) ∷ lines.Start 1 1 (start.Accepted 1) ∷ []) ∷ (done (orders.Pair 0 1) ∷ lines.Start 1 1 (start.Secondary 1) ∷ [])
    ∷ (done (orders.Pair 0 1) ∷ lines.Start 1 1 (start.Secondary 0) ∷ done (orders.Unpair 0) ∷ lines.Start 1 1 (start.Secondary 0) ∷ [])
    ∷ (done (orders.Pair 1 0) ∷ []) ∷ [])
    ≡ Yes ∷ No 2 History ∷ No 2 History ∷ No 4 History ∷ No 1 Place ∷ []
unfolding part_of command_of walk
lent = refl

-- Two paths: path 2 holds the device, and its reset waits while path 1 asks for its group

abbrev asks : List Ccw
asks = word 0x34 0x40 12 [] ∷ word 0x34 0 12 [] ∷ []

abbrev two_paths : DeckLines
two_paths = record (deck_of []
    (events.Start 2 0 ∷ events.Run 0 ∷ events.Start 1 0 ∷ events.Step 0 ∷ events.Start 2 0 ∷ events.Reset 2 0 ∷ events.Run 0 ∷ run_once)) {
      programs = record { path = 2; device = 0; program = word 0xb4 0 32 [] ∷ [] } ∷ record { path = 1; device = 0; program = asks }
          ∷ record { path = 1; device = 0; program = word 0x34 0 12 [] ∷ [] } ∷ [];
    }

abbrev ended_on : ℕ → ℕ → ℕ → ReportLine
ended_on path ordinal index = lines.End (record {
  path = path;
  device = 0;
  ordinal = ordinal;
  index = index;
  status = record { 0 = 0x0c };
  residual = 0;
  note = Plain;
})

-- the device is held by another path, or by none
abbrev group_state : ℕ → ReportLine
group_state state = lines.Data (state ∷ replicate 11 0)

abbrev beside : ReportLine → List ℕ → List ReportLine
beside answer states =
    lines.Start 2 0 (start.Accepted 1) ∷ ended_on 2 1 0 ∷ lines.Data (replicate 32 0) ∷ lines.Over 2 0 1 Full ∷ accepted 1 ∷ ended_on 1 1 0
    ∷ group_state 0x20 ∷ answer ∷ lines.Reset 2 0 ∷ ended_on 1 1 1 ∷ group_state (slice_index states 0) ∷ over 1 ∷ accepted 2 ∷ ended_on 1 2 0
    ∷ group_state (slice_index states 1) ∷ over 2 ∷ tail

beside_each_other : audit_all two_paths
    (beside (lines.Start 2 0 (start.Busy 1)) (0x20 ∷ 0 ∷ []) ∷ beside (lines.Start 2 0 (start.Busy 1)) (0 ∷ 0 ∷ [])
    ∷ beside (lines.Start 2 0 (start.Busy 1)) (0x20 ∷ 0x20 ∷ []) ∷ beside (lines.Start 2 0 start.Done) (0x20 ∷ 0 ∷ []) ∷ [])
    ≡ Yes ∷ No 11 History ∷ No 15 History ∷ No 8 History ∷ []
unfolding part_of command_of walk
beside_each_other = refl

-- the device is held for path 2: path 1 is refused, and where path 2 has no program left, so is every path
abbrev held_deck : List (List Ccw) → DeckLines
held_deck more = record (deck_of [] (events.Start 2 0 ∷ events.Run 0 ∷ events.Start 1 0 ∷ [])) {
  programs = record { path = 2; device = 0; program = word 0xb4 0 32 [] ∷ [] }
      ∷ map (λ (p : List Ccw). record { path = 2; device = 0; program = p }) more ++ record { path = 1; device = 0; program = read_zero } ∷ [];
}

abbrev held_answer : StartAnswer → List ReportLine
held_answer answer =
    lines.Start 2 0 (start.Accepted 1) ∷ ended_on 2 1 0 ∷ lines.Data (replicate 32 0) ∷ lines.Over 2 0 1 Full ∷ lines.Start 1 0 answer ∷ tail

held : audit_all (held_deck []) (map held_answer (start.Shut (owners.Path 2) ∷ start.Reserved (owners.Path 2) ∷ start.Accepted 1 ∷ []))
    ++ audit_all (held_deck (read_zero ∷ []))
    (map held_answer (start.Reserved (owners.Path 2) ∷ start.Shut (owners.Path 2) ∷ start.Reserved (owners.Path 1) ∷ []))
    ≡ Yes ∷ No 5 History ∷ No 5 History ∷ Yes ∷ No 5 History ∷ No 5 History ∷ []
unfolding part_of command_of walk
held = refl

-- Loss of power: data of cache fast write go with it, and the line says so; a program that runs is cut; no path holds the device

power_of_loose : audit_all (deck_of (update 0xc2 ∷ read_zero ∷ []) (run_once ++ events.Power ∷ run_once))
    ((updates 1 ++ loosen 0 ∷ over 1 ∷ lost 1 1 ∷ done orders.Power ∷ reads 2 (replicate 8 0) ++ tail)
    ∷ (updates 1 ++ over 1 ∷ done orders.Power ∷ reads 2 new_data ++ tail)
    ∷ (updates 1 ++ loosen 0 ∷ over 1 ∷ done orders.Power ∷ reads 2 (replicate 8 0) ++ tail)
    ∷ (updates 1 ++ loosen 0 ∷ over 1 ∷ lost 1 2 ∷ done orders.Power ∷ reads 2 (replicate 8 0) ++ tail)
    ∷ (updates 1 ++ loosen 0 ∷ over 1 ∷ lost 1 1 ∷ lost 1 1 ∷ done orders.Power ∷ reads 2 (replicate 8 0) ++ tail)
    ∷ (updates 1 ++ loosen 0 ∷ over 1 ∷ lost 1 1 ∷ done orders.Power ∷ reads 2 new_data ++ tail)
    ∷ (updates 1 ++ loosen 0 ∷ over 1 ∷ lost 1 1 ∷ done orders.FailCache ∷ reads 2 (replicate 8 0) ++ tail)
    ∷ (updates 1 ++ over 1 ∷ lost 1 1 ∷ done orders.Power ∷ reads 2 new_data ++ tail) ∷ [])
    ≡ Yes ∷ Yes ∷ No 7 Place ∷ No 7 History ∷ No 8 Place ∷ No 13 History ∷ No 8 Place ∷ No 6 History ∷ []
unfolding part_of command_of walk
power_of_loose = refl

-- a command whose write is half done counts, and its second part isn't owed any more
power_cuts : audit_all (pair_devices
    (events.Pair 0 1 ∷ events.Start 1 0 ∷ events.Step 0 ∷ events.Step 0 ∷ events.Step 0 ∷ events.Power ∷ run_once)
    (update 0xc1 ∷ read_zero ∷ []))
    (map (λ (x : List ReportLine × List ℕ). done (orders.Pair 0 1) ∷ accepted 1 ∷ ended 1 0 0x0c 0 ∷ ended 1 1 0x0c 0 ∷ half
    ∷ x.0 ++ done orders.Power ∷ reads 2 x.1 ++ pair_tail)
    ((cut 1 3 ∷ [], new_data) ∷ (cut 1 2 ∷ [], replicate 8 0) ∷ (cut 1 3 ∷ [], replicate 8 0) ∷ (cut 1 1 ∷ [], new_data)
    ∷ ([], new_data) ∷ (cut 1 3 ∷ cut 1 3 ∷ [], new_data) ∷ (cut 1 3 ∷ lines.Reset 1 0 ∷ [], new_data) ∷ []))
    ≡ Yes ∷ Yes ∷ No 12 History ∷ No 6 History ∷ No 6 Place ∷ No 7 Place ∷ No 7 Place ∷ []
unfolding part_of command_of walk
power_cuts = refl

-- of two devices with data of cache fast write the lower one is told first
power_of_two : audit_all (record (pair_devices
    (events.Start 1 0 ∷ events.Run 0 ∷ events.Start 2 1 ∷ events.Step 1 ∷ events.Power ∷ []) [])
    { programs = record { path = 1; device = 0; program = update 0xc2 } ∷ record { path = 2; device = 1; program = asks } ∷ [] })
    (map (λ (told : List ReportLine). updates 1 ++ loosen 0 ∷ over 1 ∷ lines.Start 2 1 (start.Accepted 1)
    ∷ lines.End (record { path = 2; device = 1; ordinal = 1; index = 0; status = record { 0 = 0x0c }; residual = 0; note = Plain })
    ∷ lines.Data (replicate 12 0) ∷ told
    ++ done orders.Power ∷ lines.Device 0 (totals.Calls 0 0 0) ∷ lines.Device 1 (totals.Calls 0 0 0) ∷ lines.Finish ∷ [])
    ((lost 1 1 ∷ lines.Over 2 1 1 (how.Cut 1) ∷ []) ∷ (lines.Over 2 1 1 (how.Cut 1) ∷ lost 1 1 ∷ []) ∷ (lost 1 1 ∷ []) ∷ []))
    ≡ Yes ∷ No 10 Place ∷ No 11 Place ∷ []
unfolding part_of command_of walk
power_of_two = refl

power_frees : audit_all (record (held_deck []) { events = events.Start 2 0 ∷ events.Run 0 ∷ events.Power ∷ events.Start 1 0 ∷ [] })
    (map (λ (answer : StartAnswer). lines.Start 2 0 (start.Accepted 1) ∷ ended_on 2 1 0 ∷ lines.Data (replicate 32 0) ∷ lines.Over 2 0 1 Full
    ∷ done orders.Power ∷ lines.Start 1 0 answer ∷ tail) (start.Accepted 1 ∷ start.Shut (owners.Path 2) ∷ []))
    ≡ Yes ∷ No 6 History ∷ []
unfolding part_of command_of walk
power_frees = refl
