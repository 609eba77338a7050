-- A device whose past was put away, and the device that it is with all of its past.
use Rattle.std.specs.Prelude.{◌≡◌, ℕ, ◌+◌, ◌-◌, ◌≤◌, false, List, [], ◌∷◌, ◌++◌, drop, length, map, count_by, option_map}
use Rattle.ckd_types.specs.declared.channel.Ccw.{Ccw}
use Rattle.plain_defs.specs.declared.journal.Item.{Item}
use Rattle.plain_defs.specs.declared.journal.Item.TheVariants.{Program, Reset, Fresh, Act, Power}
use Rattle.plain_defs.specs.History.{History, OpenEntry}
use Rattle.plain_defs.specs.Journal.{Plans, planned}
use Rattle.plain_defs.specs.Legal.{is_of_path, is_started, is_used}

-- What was put away: what had happened, and of each path the programs that had been started. What the device keeps in the place of these: items by which it
-- knows which paths used something, and of each path that started some one program
pub record PutAway : Type 0 where
  pub items : List Item
  pub programs : Plans
  pub stubs : List Item
  pub kept : Plans

abbrev pub nothing_away : PutAway
nothing_away = record { items = []; programs = []; stubs = []; kept = [] }

-- the place of a program among all of its path
abbrev pub whole_ordinal : PutAway → ℕ → ℕ → ℕ
whole_ordinal w path ordinal = length (planned w.programs path) + (ordinal - length (planned w.kept path))

abbrev pub whole_item : PutAway → Item → Item
whole_item w (Program e) = Program (record e { ordinal = whole_ordinal w e.path e.ordinal })
whole_item w (Reset path) = Reset path
whole_item w Fresh = Fresh
whole_item w (Act act) = Act act
whole_item w Power = Power

abbrev pub whole_items : PutAway → List Item → List Item
whole_items w items = w.items ++ map (whole_item w) (drop (length w.stubs) items)

abbrev pub whole_entry : PutAway → OpenEntry → OpenEntry
whole_entry w o = record o { ordinal = whole_ordinal w o.path o.ordinal }

abbrev pub whole_history : PutAway → History → History
whole_history w h = record { items = whole_items w h.items; running = option_map (whole_entry w) h.running; waiting = h.waiting }

-- of a path the programs that were put away in the place of those that are kept for them, and those behind
abbrev pub whole_plan : PutAway → Plans → ℕ → List (List Ccw)
whole_plan w plans path = planned w.programs path ++ drop (length (planned w.kept path)) (planned plans path)

abbrev pub whole_plans : PutAway → Plans → Plans
whole_plans w plans = whole_plan w plans 1 ∷ whole_plan w plans 2 ∷ whole_plan w plans 3 ∷ whole_plan w plans 4 ∷ []

-- of a path: what is kept tells of its use what was put away told, counts the programs that are kept for it, and is some where programs were put away
pub record StandsFor (w : PutAway) (path : ℕ) : Type 0 where
  pub used : is_used path false w.stubs ≡ is_used path false w.items
  pub away : count_by (is_of_path path) w.items ≡ length (planned w.programs path)
  pub kept : count_by (is_of_path path) w.stubs ≡ length (planned w.kept path)
  pub some : length (planned w.kept path) ≡ 0 → length (planned w.programs path) ≡ 0

-- this is what was put away of a device with these plans, which begin with the programs that are kept, and with this history
pub record IsPutAway (w : PutAway) (plans : Plans) (h : History) : Type 0 where
  pub later : List Item
  pub items : h.items ≡ w.stubs ++ later
  pub paths : (path : ℕ) → 1 ≤ path → path ≤ 4 → StandsFor w path
  pub started : is_started false w.stubs ≡ is_started false w.items
  pub few : (path : ℕ) → 1 ≤ path → path ≤ 4 → length (planned w.kept path) ≤ length (planned plans path)
