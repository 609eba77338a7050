-- What a device's past is in the definitions, and what is kept of it beside the journal, so that no event walks that.
use Rattle.std.specs.Prelude.{
  ◌≡◌,
  ◌≤◌,
  ℕ,
  ◌+◌,
  ◌-◌,
  ◌&&◌,
  ◌||◌,
  not,
  Bool,
  true,
  false,
  List,
  [],
  ◌∷◌,
  ◌++◌,
  length,
  slice_index_or,
  slice_set,
  Option,
  None,
  Some,
  option_map,
  IfSome,
  is_some,
  if◌then◌else◌,
}
use Rattle.ckd_chain.specs.State.{ChainState}
use Rattle.plain_defs.specs.History.{OpenEntry, History, has_used}
use Rattle.plain_defs.specs.Legal.{is_started}
use Rattle.device_defs.specs.Start.{started_count}
use Rattle.device_core.specs.declared.history.KeptPath.{KeptPath}
use Rattle.device_core.specs.declared.history.Past.{Past}
use Rattle.device_core.specs.declared.history.Running.{Running}

abbrev pub open_of : Running → OpenEntry
open_of r = record { path = r.path; ordinal = r.ordinal; ends = r.ends.items; acts = r.acts.items }

abbrev pub chain_of : Running → ChainState
chain_of r = r.chain

abbrev pub waiting_one : Bool → ℕ → List ℕ
waiting_one waits path = if waits then path ∷ [] else []

-- the paths from this one on whose resets wait, in rising order
abbrev pub waiting_from : ℕ → List KeptPath → List ℕ
waiting_from path [] = []
waiting_from path (k ∷ ks) = waiting_one k.waits path ++ waiting_from (path + 1) ks

abbrev pub waiting_in : List KeptPath → List ℕ
waiting_in kept = waiting_from 1 kept

abbrev pub history_of : Past → History
history_of p = record { items = p.items.items; running = option_map open_of p.running; waiting = waiting_in p.kept }

abbrev pub fresh_path : KeptPath
fresh_path = record { started = 0; used = false; waits = false }

abbrev pub of_path : List KeptPath → ℕ → KeptPath
of_path kept path = slice_index_or kept (path - 1) fresh_path

-- a path was reset
abbrev pub unused : List KeptPath → ℕ → KeptPath
unused kept path = record (of_path kept path) { used = false }

abbrev pub with_unused : List KeptPath → ℕ → List KeptPath
with_unused kept path = slice_set kept (path - 1) (unused kept path)

-- its reset waits from now on
abbrev pub waiting : List KeptPath → ℕ → KeptPath
waiting kept path = record (of_path kept path) { waits = true }

abbrev pub with_waiting : List KeptPath → ℕ → List KeptPath
with_waiting kept path = slice_set kept (path - 1) (waiting kept path)

-- a program of it starts
abbrev pub one_more : List KeptPath → ℕ → KeptPath
one_more kept path = record (of_path kept path) { started = (of_path kept path).started + 1; used = true }

abbrev pub with_one_more : List KeptPath → ℕ → List KeptPath
with_one_more kept path = slice_set kept (path - 1) (one_more kept path)

-- behind the resets that waited
abbrev pub over_path : KeptPath → KeptPath
over_path k = record k { used = k.used && not k.waits; waits = false }

abbrev pub used_count : List KeptPath → ℕ
used_count [] = 0
used_count (k ∷ ks) = (if k.used then 1 else 0) + used_count ks

-- Room for what may come before the next start. While a program runs: its entry, the reset of its path, those of the paths that
-- wait, and the loss of power. Else the reset of each path that used something, and the loss of power.
abbrev pub needed : Option OpenEntry → List KeptPath → Bool → ℕ
needed (Some o) kept powered = 7
needed None kept powered = used_count kept + (if powered then 1 else 0)

-- what is kept of a path is what the history says
pub record KeepsPath (h : History) (path : ℕ) (k : KeptPath) : Type 0 where
  pub started_is : k.started ≡ started_count h path
  pub used_is : k.used ≡ has_used h path

-- of each path, and of the power; the running program's ends can be counted; and there is room in the journal
pub record KeepsAll (h : History) (kept : List KeptPath) (powered : Bool) (spare : ℕ) : Type 0 where
  pub four : length kept ≡ 4
  pub paths : (path : ℕ) → 1 ≤ path → path ≤ 4 → KeepsPath h path (of_path kept path)
  pub powered_is : powered ≡ (is_some h.running || is_started false h.items)
  pub ends : IfSome h.running (λ (o : OpenEntry). length o.ends ≤ 65534)
  pub room : needed h.running kept powered ≤ spare

abbrev pub Keeps : Past → Type 0
Keeps p = KeepsAll (history_of p) p.kept p.powered p.items.spare

abbrev pub HasRoomFor : ℕ → Running → Type 0
HasRoomFor n r = (n ≤ r.room) × (r.room ≤ r.acts.spare)

-- there is room for so many acts, while the program runs and behind it
abbrev pub ActRoom : ℕ → Past → Type 0
ActRoom n p = (n ≤ p.items.aside) × IfSome p.running (HasRoomFor n)
