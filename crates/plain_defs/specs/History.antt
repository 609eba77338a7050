-- What a device has of its past between two events, and what each event makes of it.
use Rattle.std.specs.Prelude.{◌≡◌, ℕ, ◌+◌, ◌==◌, ◌||◌, nat_lt, Bool, false, List, [], ◌∷◌, ◌++◌, length, IsSome, IfSome, Option, Some, None, if◌then◌else◌}
use Rattle.ckd_types.specs.declared.channel.CommandEnd.{CommandEnd}
use Rattle.plain_defs.specs.declared.journal.Act.{Act}
use Rattle.plain_defs.specs.declared.journal.Acted.{Acted}
use Rattle.plain_defs.specs.declared.journal.How.{How}
use Rattle.plain_defs.specs.declared.journal.How.TheVariants.{Full, Cut, Checked}
use Rattle.plain_defs.specs.declared.journal.Item.{Item}
use Rattle.plain_defs.specs.declared.journal.Item.TheVariants as items
use Rattle.plain_defs.specs.Journal.{Plans, program_of, replay}
use Rattle.plain_defs.specs.Legal.{AreInOrder, HasActs, MayStart, IsLegal, is_used, is_started}
use Rattle.plain_defs.specs.PlainState.{PlainState}
use Rattle.plain_defs.specs.Program.{Part, part_of}

-- a program that runs, with its ends and acts so far
pub record OpenEntry : Type 0 where
  pub path : ℕ
  pub ordinal : ℕ
  pub ends : List CommandEnd
  pub acts : List Acted

-- the journal, the program that runs, and the paths whose resets wait for its end, in rising order
pub record History : Type 0 where
  pub items : List Item
  pub running : Option OpenEntry
  pub waiting : List ℕ

abbrev pub no_history : History
no_history = record { items = []; running = None; waiting = [] }

abbrev pub entry_of : OpenEntry → How → Item
entry_of o how = items.Program (record { path = o.path; ordinal = o.ordinal; how = how; ends = o.ends; acts = o.acts })

abbrev pub is_path_of : Option OpenEntry → ℕ → Bool
is_path_of (Some o) path = o.path == path
is_path_of None path = false

-- a path used something since its last reset: it ran a program, or runs one
abbrev pub has_used : History → ℕ → Bool
has_used h path = is_path_of h.running path || is_used path false h.items

abbrev pub resets_of : List ℕ → List Item
resets_of [] = []
resets_of (path ∷ paths) = items.Reset path ∷ resets_of paths

-- a program of a path starts
abbrev pub started : History → ℕ → ℕ → History
started h path ordinal = record h { running = Some (record { path = path; ordinal = ordinal; ends = []; acts = [] }) }

-- the running program is over, and the resets that waited follow it
abbrev pub closed : History → OpenEntry → How → History
closed h o how = record { items = h.items ++ entry_of o how ∷ resets_of h.waiting; running = None; waiting = [] }

abbrev pub with_end : OpenEntry → CommandEnd → OpenEntry
with_end o e = record o { ends = o.ends ++ e ∷ [] }

abbrev pub ended_in : History → CommandEnd → Option OpenEntry → History
ended_in h e (Some o) = if e.over then closed h (with_end o e) Full else record h { running = Some (with_end o e) }
ended_in h e None = h

-- a command of the running program ended
abbrev pub ended : History → CommandEnd → History
ended h e = ended_in h e h.running

abbrev pub checked_in : History → CommandEnd → Option OpenEntry → History
checked_in h e (Some o) = closed h (with_end o e) Checked
checked_in h e None = h

-- it ended with equipment check or data check, without effect
abbrev pub checked : History → CommandEnd → History
checked h e = checked_in h e h.running

-- in rising order, each once
abbrev pub put : ℕ → List ℕ → List ℕ
put path [] = path ∷ []
put path (p ∷ paths) = if path == p then p ∷ paths else if nat_lt path p then path ∷ p ∷ paths else p ∷ put path paths

-- the reset of the running program's path cuts it; of so many commands more than ended it took the effect
abbrev pub cut_by : History → OpenEntry → ℕ → History
cut_by h o more = record {
  items = h.items ++ entry_of o (Cut (length o.ends + more)) ∷ items.Reset o.path
      ∷ resets_of h.waiting;
  running = None;
  waiting = [];
}

abbrev pub reset_in : History → ℕ → ℕ → Option OpenEntry → History
reset_in h path more (Some o) =
    if o.path == path then cut_by h o more
    else if is_used path false h.items then record h { waiting = put path h.waiting } else h
reset_in h path more None = if is_used path false h.items then record h { items = h.items ++ items.Reset path ∷ [] }
    else h

-- a path is reset. More: 1 where a half write of the running program's command is open, else 0
abbrev pub reset_in_history : History → ℕ → ℕ → History
reset_in_history h path more = reset_in h path more h.running

abbrev pub acted_in : History → Act → Option OpenEntry → History
acted_in h act (Some o) = record h {
  running = Some (record o
      { acts = o.acts ++ record { after = length o.ends; act = act } ∷ [] });
}
acted_in h act None = record h { items = h.items ++ items.Act act ∷ [] }

-- an act while a program runs stands in its entry; any other is an item
abbrev pub acted : History → Act → History
acted h act = acted_in h act h.running

abbrev pub lost_power_in : History → ℕ → Option OpenEntry → History
lost_power_in h more (Some o) = record {
  items = h.items ++ entry_of o (Cut (length o.ends + more)) ∷ items.Power
      ∷ [];
  running = None;
  waiting = [];
}
lost_power_in h more None = if is_started false h.items then
    record { items = h.items ++ items.Power ∷ []; running = None; waiting = [] } else h

-- the power is lost: the running program is cut, and the resets that waited are dropped
abbrev pub lost_power : History → ℕ → History
lost_power h more = lost_power_in h more h.running

-- the volume was made empty, while no program runs
abbrev pub emptied : History → History
emptied h = record h { items = h.items ++ items.Fresh ∷ [] }

-- What a history is of a plain device

abbrev pub open_part : Plans → PlainState → OpenEntry → Part
open_part plans state o = part_of state o.path (program_of plans o.path o.ordinal) o.acts (length o.ends)

abbrev pub state_by : Plans → PlainState → Option OpenEntry → PlainState
state_by plans state (Some o) = (open_part plans state o).state
state_by plans state None = state

-- the plain device of a history: that of its journal, and of the running program's commands that ended
abbrev pub plain_of : Plans → PlainState → History → PlainState
plain_of plans empty h = state_by plans (replay plans empty h.items) h.running

-- the running program's ends are its first ones, it isn't over, and its acts are legal
pub record IsOpen (plans : Plans) (state : PlainState) (items : List Item) (o : OpenEntry) : Type 0 where
  pub start : MayStart plans state items o.path o.ordinal
  pub ends : o.ends ≡ (open_part plans state o).ends
  pub runs : IsSome (open_part plans state o).next
  pub order : AreInOrder 0 (length o.ends + 1) o.acts
  pub acts : HasActs state o.path (program_of plans o.path o.ordinal) o.acts (length o.ends)

-- the history is one that a plain device could have: its journal is legal, and the running program goes as on the plain device
pub record IsPlain (plans : Plans) (empty : PlainState) (h : History) : Type 0 where
  pub legal : IsLegal plans empty h.items
  pub at : IfSome h.running (IsOpen plans (replay plans empty h.items) h.items)
