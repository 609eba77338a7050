-- How many tracks of a device are loose, and the number of the data of cache fast write, are numbers of 16 bits.
use Rattle.std.proofs.Common.{◌≤◌, ◌<◌, zero, suc, ℕ, List, [], ◌∷◌, Option, arith}
use Rattle.std.proofs.lemmas.Bool.{eqb-false}
use Rattle.std.proofs.lemmas.List.Sums.{count_by-le-length}
use Rattle.ckd_types.specs.declared.channel.Ccw.{Ccw}
use Rattle.plain_defs.specs.declared.journal.Act.{Act}
use Rattle.plain_defs.specs.declared.journal.Acted.{Acted}
use Rattle.plain_defs.specs.declared.journal.Item.{Item}
use Rattle.plain_defs.specs.Journal.{Plans, replay, replay_item}
use Rattle.plain_defs.specs.Loose.{act_done}
use Rattle.plain_defs.specs.PlainState.{PlainState}
use Rattle.plain_defs.specs.Program as G
use Rattle.plain_defs.specs.Program.{Part, acted_at, acts_at, first_part, part_of, command_run, stepped_at, with_act, with_acts}
use Rattle.device_defs.specs.Marks.{MarksDevice}
use Rattle.report_reading.specs.Ranges.{IsShort}
use Rattle.subsystem_defs.specs.Beside.{loose_count}
use Rattle.subsystem_laws.proofs.PlainRuns.{Plainly}
use Rattle.audit_laws.proofs.own.KnownDevices.{known}

abbrev Small : PlainState → Type 0
Small s = s.number < 65536

act_small : (s : PlainState) (act : Act) → Small s → Small (act_done s act)
act_small s act h = grind (arith, eqb-false)

with_small : (acts : List Act) (p : Part) → Small p.state → Small (with_acts acts p).state
with_small [] p h = h
with_small (act ∷ acts) p h = with_small acts (with_act p act) (act_small p.state act h)

acted_small : (acts : List Acted) (p : Part) (o : Option ℕ) → Small p.state → Small (acted_at acts p o).state
acted_small acts p o h = grind (arith, with_small)

part_small : (s : PlainState) (path : ℕ) (ccws : List Ccw) (acts : List Acted) (k : ℕ) → Small s → Small (part_of s path ccws acts k).state
unfolding G.part_of
part_small s path ccws acts zero h = acted_small acts (first_part s path ccws) (first_part s path ccws).next h
part_small s path ccws acts (suc k) h = grind (arith, part_small s path ccws acts k h, acted_small)

item_small : (plans : Plans) (s : PlainState) (x : Item) → Small s → Small (replay_item plans s x)
item_small plans s x h = grind (arith, part_small, act_small, eqb-false)

replay_small : (plans : Plans) (s : PlainState) (xs : List Item) → Small s → Small (replay plans s xs)
replay_small plans s [] h = h
replay_small plans s (x ∷ xs) h = replay_small plans (replay_item plans s x) xs (item_small plans s x h)

pub number_short : (d : MarksDevice) → Plainly d → IsShort d.store.number
number_short d p = grind (arith, known, replay_small, part_small)

pub count_short : (d : MarksDevice) → Plainly d → d.store.cylinders ≤ 64 → IsShort (loose_count d.store)
count_short d p small = grind (arith, count_by-le-length, known)
