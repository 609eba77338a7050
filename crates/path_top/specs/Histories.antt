-- What a history says of a deck.
use Rattle.std.specs.Prelude.{◌≡◌, ◌⊎◌, ◌≤◌, ℕ, ◌+◌, ◌*◌, true, false, List, [], length, map, count_by, None, is_some}
use Rattle.std.specs.List.{AllZip}
use Rattle.ckd_types.specs.declared.channel.Ccw.{Ccw}
use Rattle.plain_defs.specs.Journal.{Plans, planned, program_of, replay}
use Rattle.plain_defs.specs.Legal.{IsLegal, is_of_path}
use Rattle.plain_defs.specs.PlainState.{PlainState, is_admitted}
use Rattle.device_defs.specs.declared.counts.Counts.{Counts}
use Rattle.device_defs.specs.Excused.{IsExcused}
use Rattle.device_defs.specs.Pledge.{are_kept, ends_with_data_check}
use Rattle.device_laws.specs.NewDevice.{first_state}
use Rattle.device_laws.specs.Unharmed.{ends_with_equipment_check}
use Rattle.deck_text.specs.declared.line.DeviceLine.{DeviceLine}
use Rattle.deck_text.specs.DeckLines.{DeckLines}
use Rattle.deck_text.specs.Plans.{plans_of}
use Rattle.report_text.specs.declared.line.ReportLine.{ReportLine}
use Rattle.subsystem_defs.specs.Decks.{Firsts, empty_firsts}
use Rattle.path_top.specs.Excuses.{AreTracks, excuses_on, marks_by}
use Rattle.path_top.specs.Pairs.{all_lent, paired_on, unused_in}
use Rattle.path_top.specs.Told.{DeviceTold, history_lines, left_of}

-- the programs of a path that stand in a journal
abbrev pub ran : DeviceTold → ℕ → ℕ
ran x path = count_by (is_of_path path) x.journal

-- the path's next one
abbrev pub next_of : Plans → DeviceTold → ℕ → List Ccw
next_of plans x path = program_of plans path (ran x path + 1)

-- Of a device with these plans: the plain device that began so could have made its journal. No program of it was cut or ended with data check, no
-- path was reset, and the volume was never made empty. Each planned program ran or is left: then the volume is lent, and none ran, or whoever holds
-- the plain device at last keeps out the next program of every path
pub record IsToldBy (plans : Plans) (first : PlainState) (x : DeviceTold) : Type 0 where
  pub legal : IsLegal plans first x.journal
  pub kept : are_kept x.journal ≡ true
  pub good : count_by ends_with_data_check x.journal ≡ 0
  pub all_ran : (path : ℕ) → 1 ≤ path → path ≤ 4 → ran x path + left_of x path ≡ length (planned plans path)
  pub away : is_some x.lent ≡ true → x.journal ≡ []
  pub kept_out : (path : ℕ) → 1 ≤ path → path ≤ 4 → x.lent ≡ None →
      (left_of x path ≡ 0) ⊎ (is_admitted (replay plans first x.journal).paths path (next_of plans x path) ≡ false)

-- Of one with so many tracks: its lost tracks and its checks are excused by how often something failed
pub record IsExcusedBy (plans : Plans) (first : PlainState) (many : ℕ) (n : Counts) (x : DeviceTold) : Type 0 where
  pub tracks : AreTracks many x.lost
  pub is : IsExcused plans first x.journal (marks_by many x.lost) n

-- Of the device of a deck's line, on a volume that held these tracks first: the plain device began with them, and where it isn't lent what failed of it
-- is excused by what lines of the deck say
pub record IsToldOfOn (firsts : Firsts) (deck : DeckLines) (line : DeviceLine) (x : DeviceTold) : Type 0 where
  pub device : x.device ≡ line.number
  pub is : IsToldBy (plans_of deck.programs line.number) (first_state line.geometry line.cylinders (firsts line.number line.cylinders)) x
  pub excused : x.lent ≡ None →
      IsExcusedBy (plans_of deck.programs line.number) (first_state line.geometry line.cylinders (firsts line.number line.cylinders))
      (line.cylinders * 15) (excuses_on firsts deck line.number) x

-- of all its devices, which are lent as its first PAIR lines say
pub record AreToldOfOn (firsts : Firsts) (deck : DeckLines) (xs : List DeviceTold) : Type 0 where
  pub each : AllZip (IsToldOfOn firsts deck) deck.devices xs
  pub lent : map (λ (x : DeviceTold). x.lent) xs ≡ all_lent (paired_on firsts deck)

-- these lines tell it
pub record IsHistoryOn (firsts : Firsts) (deck : DeckLines) (ls : List ReportLine) : Type 0 where
  pub devices : List DeviceTold
  pub are : AreToldOfOn firsts deck devices
  pub lines_are : ls ≡ history_lines devices (unused_in deck.events)

-- on empty volumes

abbrev pub IsToldOf : DeckLines → DeviceLine → DeviceTold → Type 0
IsToldOf deck line x = IsToldOfOn empty_firsts deck line x

abbrev pub AreToldOf : DeckLines → List DeviceTold → Type 0
AreToldOf deck xs = AreToldOfOn empty_firsts deck xs

abbrev pub IsHistory : DeckLines → List ReportLine → Type 0
IsHistory deck ls = IsHistoryOn empty_firsts deck ls

-- what a history says of a device where nothing failed: no program ended with equipment check, and no track is lost
pub record HasNoFailure (x : DeviceTold) : Type 0 where
  pub checks : count_by ends_with_equipment_check x.journal ≡ 0
  pub lost : x.lent ≡ None → x.lost ≡ []
