-- The rows of the deck's text, and of the words of its programs.
use Rattle.std.specs.Prelude.{ℕ, ◌==◌, ◌+◌, ◌-◌, ◌/◌, ◌%◌, List, [], ◌∷◌, ◌++◌, codes, decimal, if◌then◌else◌}
use Rattle.std.specs.List.{flat_map}
use Rattle.hex.specs.Hex.{encode_upper}
use Rattle.ckd_types.specs.declared.channel.Ccw.{Ccw}
use Rattle.deck_plan.specs.Plans.{PlansByPath, plan_of}
use Rattle.deck_text.specs.declared.line.DeviceLine.{DeviceLine}
use Rattle.deck_text.specs.DeckLines.{DeckLines}
use Rattle.deck_text.specs.Plans.{plans_of}
use Rattle.page_text.specs.Drawing.{drawn}
use Rattle.page_text.specs.Names.{name_of, repeat_name}
use Rattle.page_text.specs.Parameters.{parameters_text}
use Rattle.page_text.specs.Pieces.{joined, shown_text}
use Rattle.page_text.specs.declared.deck_rows.ProgramWords.{ProgramWords}

unfoldable pub deck_row : ℕ → List ℕ → List ℕ
deck_row i text =
    joined (codes "<tr id='d" ∷ decimal i ∷ codes "'><th scope='row'><a href='#d" ∷ decimal i ∷ codes "'>" ∷ decimal i
    ∷ codes "</a></th><td class='t'>" ∷ shown_text text ∷ codes "</td></tr>\n" ∷ [])

abbrev pub chain_name : ℕ → List ℕ
chain_name flags = if flags / 64 % 2 == 1 then codes " chained" else []

abbrev pub length_name : ℕ → List ℕ
length_name flags = if flags / 32 % 2 == 1 then codes " suppress length" else []

abbrev pub skip_name : ℕ → List ℕ
skip_name flags = if flags / 16 % 2 == 1 then codes " skip" else []

-- a word's place in its program
unfoldable pub word_place : ProgramWords → ℕ → List ℕ
word_place of index =
    joined (codes "<tr id='w" ∷ decimal of.device ∷ codes "-" ∷ decimal of.path ∷ codes "-" ∷ decimal of.ordinal ∷ codes "-" ∷ decimal index
    ∷ codes "'><th scope='row'>" ∷ decimal index ∷ codes "</th><td class='t'>" ∷ [])

unfoldable pub code_by : ℕ → List ℕ → List ℕ → List ℕ
code_by code name more = joined (encode_upper (code ∷ []) ∷ codes "</td><td>" ∷ name ∷ more ∷ codes "</td><td>" ∷ [])

unfoldable pub flags_by : List ℕ → List ℕ → List ℕ → ℕ → List ℕ
flags_by chain length skip count =
    joined (chain ∷ length ∷ skip ∷ codes "</td><td class='n'>" ∷ decimal count ∷ codes "</td><td>" ∷ [])

-- its code and name
abbrev pub word_code_text : ℕ → List ℕ
word_code_text code = code_by code (name_of code) (repeat_name code)

-- its flags and count
abbrev pub flags_text : ℕ → ℕ → List ℕ
flags_text flags count = flags_by (chain_name flags) (length_name flags) (skip_name flags) count

-- the bytes that are given to it
unfoldable pub word_end : List ℕ → List ℕ
word_end given = joined (codes "</td><td class='t'>" ∷ encode_upper given ∷ codes "</td></tr>\n" ∷ [])

abbrev pub word_row : ProgramWords → ℕ → Ccw → List ℕ
word_row of i ccw =
    word_place of (i - 1) ++ (word_code_text ccw.command ++ (flags_text ccw.flags ccw.count ++ (parameters_text ccw ++ word_end ccw.given)))

unfoldable pub program_head : ProgramWords → List ℕ
program_head of =
    joined (codes "<tr><th colspan='7' class='h'>Program " ∷ decimal of.ordinal ∷ codes " of path " ∷ decimal of.path
    ∷ codes " on device " ∷ decimal of.device ∷ codes "</th></tr>\n" ∷ [])

-- a program, with its place before it
abbrev pub program_text : ProgramWords → List Ccw → List ℕ
program_text of program = program_head of ++ drawn word_row (λ s i it. s) of 1 program

-- programs of a path, numbered from n
abbrev pub numbered_programs : ℕ → ℕ → ℕ → List (List Ccw) → List ℕ
numbered_programs device path n [] = []
numbered_programs device path n (p ∷ ps) =
    program_text (record { device = device; path = path; ordinal = n }) p ++ numbered_programs device path (n + 1) ps

abbrev pub path_programs : ℕ → PlansByPath → ℕ → List ℕ
path_programs device plans path = numbered_programs device path 1 (plan_of plans path)

-- the programs of a device, path by path
abbrev pub device_programs : ℕ → PlansByPath → List ℕ
device_programs device plans =
    path_programs device plans 1 ++ (path_programs device plans 2 ++ (path_programs device plans 3 ++ path_programs device plans 4))

abbrev pub line_programs : DeckLines → DeviceLine → List ℕ
line_programs d line = device_programs line.number (plans_of d.programs line.number)

-- all programs of a deck, device by device
abbrev pub deck_programs : DeckLines → List ℕ
deck_programs d = flat_map (line_programs d) d.devices
