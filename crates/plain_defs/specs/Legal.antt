-- Which journals a plain device could have made.
use Rattle.std.specs.Prelude.{
  ◌≡◌,
  ◌⊎◌,
  ℕ,
  zero,
  suc,
  ◌+◌,
  ◌-◌,
  ◌==◌,
  ◌&&◌,
  ◌||◌,
  ◌<◌,
  ◌≤◌,
  not,
  Bool,
  true,
  false,
  List,
  [],
  ◌∷◌,
  ◌++◌,
  length,
  count_by,
  IsSome,
  Option,
  None,
  Some,
  ⊤,
}
use Rattle.ckd_types.specs.declared.channel.Ccw.{Ccw}
use Rattle.ckd_types.specs.declared.channel.CommandEnd.{CommandEnd}
use Rattle.ckd_types.specs.declared.channel.Note.TheVariants.{Plain}
use Rattle.ckd_types.specs.Ccw.{ccw_at}
use Rattle.ckd_types.specs.Parameters.{is_provisional}
use Rattle.ckd_types.specs.Sense.{equipment_sense, data_check_sense}
use Rattle.ckd_rules.specs.declared.stance.Stance.{Stance}
use Rattle.ckd_rules.specs.Ending.{check}
use Rattle.ckd_rules.specs.Walk.{TrackEdit}
use Rattle.plain_defs.specs.declared.journal.Act.{Act}
use Rattle.plain_defs.specs.declared.journal.Act.TheVariants.{Loosen, Harden, CfwLost}
use Rattle.plain_defs.specs.declared.journal.Acted.{Acted}
use Rattle.plain_defs.specs.declared.journal.How.{How}
use Rattle.plain_defs.specs.declared.journal.How.TheVariants.{Full, Cut, Checked}
use Rattle.plain_defs.specs.declared.journal.Item.{Item}
use Rattle.plain_defs.specs.declared.journal.Item.TheVariants as items
use Rattle.plain_defs.specs.Effect.{effect_on}
use Rattle.plain_defs.specs.Entry.{ProgramEntry}
use Rattle.plain_defs.specs.Journal.{Plans, planned, program_of, entry_part, effects_of, replay_item}
use Rattle.plain_defs.specs.Loose.{is_loose_there, act_done}
use Rattle.plain_defs.specs.PlainState.{LooseTrack, PlainState, is_admitted}
use Rattle.plain_defs.specs.Program.{Part, first_part, acts_at, command_run, part_of}

-- The acts of an entry

-- they stand in the order of the ends that they are behind, of fewer than so many
abbrev pub AreInOrder : ℕ → ℕ → List Acted → Type 0
AreInOrder from stop [] = ⊤
AreInOrder from stop (a ∷ acts) = (from ≤ a.after) × (a.after < stop) × AreInOrder a.after stop acts

abbrev pub IsSomeLoose : List LooseTrack → Type 0
IsSomeLoose [] = ⊥
IsSomeLoose (l ∷ loose) = ⊤

-- a track becomes loose once, and only directly before a command that edits it; a loose one becomes firm; data of
-- cache fast write are lost where there are some
abbrev pub AreActs : PlainState → Option ℕ → List Act → Type 0
AreActs state edited [] = ⊤
AreActs state edited (Loosen t ∷ []) = (is_loose_there state t ≡ false) × (edited ≡ Some t)
AreActs state edited (Loosen t ∷ act ∷ acts) = ⊥
AreActs state edited (Harden t ∷ acts) = (is_loose_there state t ≡ true) × AreActs (act_done state (Harden t)) edited acts
AreActs state edited (CfwLost ∷ acts) = IsSomeLoose state.loose × AreActs (act_done state CfwLost) edited acts

abbrev pub edit_at : ℕ → List Ccw → Part → Option ℕ → Option TrackEdit
edit_at path ccws p (Some i) = (effect_on p.fixed p.state path p.stance (ccw_at ccws i)).edit
edit_at path ccws p None = None

-- the edit of the next command
abbrev pub next_edit : ℕ → List Ccw → Part → Option TrackEdit
next_edit path ccws p = edit_at path ccws p p.next

abbrev pub track_of : Option TrackEdit → Option ℕ
track_of (Some e) = Some e.track
track_of None = None

-- a loose track is edited only as data of cache fast write
abbrev pub MayEdit : PlainState → Stance → Option TrackEdit → Type 0
MayEdit state s (Some e) = is_loose_there state e.track ≡ true → is_provisional s.extent ≡ true
MayEdit state s None = ⊤

-- the part behind k commands, before the acts there
abbrev pub bare_part : PlainState → ℕ → List Ccw → List Acted → ℕ → Part
bare_part state path ccws acts zero = first_part state path ccws
bare_part state path ccws acts (suc k) = command_run path ccws (part_of state path ccws acts k)

-- the acts behind k commands, of a program of which more commands took effect
pub record IsPoint (state : PlainState) (path : ℕ) (ccws : List Ccw) (acts : List Acted) (k : ℕ) : Type 0 where
  pub acts_are : AreActs (bare_part state path ccws acts k).state
      (track_of (next_edit path ccws (part_of state path ccws acts k))) (acts_at acts k)
  pub edit_is : MayEdit (part_of state path ccws acts k).state (part_of state path ccws acts k).stance
      (next_edit path ccws (part_of state path ccws acts k))

-- the acts of a program of which k commands took effect
pub record HasActs (state : PlainState) (path : ℕ) (ccws : List Ccw) (acts : List Acted) (k : ℕ) : Type 0 where
  pub points : (j : ℕ) → j < k → IsPoint state path ccws acts j
  pub last : AreActs (bare_part state path ccws acts k).state None (acts_at acts k)

-- behind how many ends no act stands any more: a program that was cut ran on behind its last end
abbrev pub acts_stop : How → List CommandEnd → ℕ
acts_stop Full ends = length ends
acts_stop (Cut effect) ends = length ends + 1
acts_stop Checked ends = length ends

-- The ends of an entry

-- an equipment check or a data check at word i: nothing was moved
pub record IsCheck (ccws : List Ccw) (e : CommandEnd) : Type 0 where
  pub status : e.status ≡ check
  pub residual : e.residual ≡ (ccw_at ccws e.index).count
  pub sent : e.sent ≡ []
  pub note : e.note ≡ Plain
  pub sense : (e.sense ≡ Some equipment_sense) ⊎ (e.sense ≡ Some data_check_sense)
  pub over : e.over ≡ true

-- behind the ends of a program stands such a check of its next command
pub record EndsChecked (p : Part) (ccws : List Ccw) (ends : List CommandEnd) : Type 0 where
  pub last : CommandEnd
  pub ends_are : ends ≡ p.ends ++ last ∷ []
  pub next_is : p.next ≡ Some last.index
  pub checked : IsCheck ccws last

-- the first ends of a program that ran on behind them, and of which one command more may have taken effect
pub record EndsCut (p : Part) (effect : ℕ) (ends : List CommandEnd) : Type 0 where
  pub ends_are : ends ≡ p.ends
  pub ran_on : IsSome p.next
  pub least : length ends ≤ effect
  pub most : effect ≤ length ends + 1

-- all ends of a program
pub record EndsFull (p : Part) (ends : List CommandEnd) : Type 0 where
  pub ends_are : ends ≡ p.ends
  pub over : p.next ≡ None

abbrev pub HasEnds : Plans → PlainState → ProgramEntry → How → Type 0
HasEnds plans state e Full = EndsFull (entry_part plans state e (length e.ends)) e.ends
HasEnds plans state e (Cut effect) = EndsCut (entry_part plans state e (length e.ends)) effect e.ends
HasEnds plans state e Checked = EndsChecked (entry_part plans state e (length e.ends - 1))
    (program_of plans e.path e.ordinal) e.ends

-- Items

abbrev pub is_of_path : ℕ → Item → Bool
is_of_path path (items.Program e) = e.path == path
is_of_path path _ = false

-- a program of the plan, the path's next one, that was admitted
pub record MayStart (plans : Plans) (state : PlainState) (earlier : List Item) (path ordinal : ℕ) : Type 0 where
  pub least : 1 ≤ path
  pub most : path ≤ 4
  pub in_plan : ordinal ≤ length (planned plans path)
  pub ordinal_is : ordinal ≡ count_by (is_of_path path) earlier + 1
  pub admitted : is_admitted state.paths path (program_of plans path ordinal) ≡ true

-- it has the ends of the plain device
pub record IsLegalEntry (plans : Plans) (state : PlainState) (earlier : List Item) (e : ProgramEntry) : Type 0 where
  pub started : MayStart plans state earlier e.path e.ordinal
  pub ends : HasEnds plans state e e.how
  pub order : AreInOrder 0 (acts_stop e.how e.ends) e.acts
  pub acts : HasActs state e.path (program_of plans e.path e.ordinal) e.acts (effects_of e.how e.ends)

-- directly behind a program that was cut stands the reset of its path, or the power loss
abbrev pub FollowsCut : How → ℕ → List Item → Type 0
FollowsCut (Cut effect) path (items.Reset p ∷ later) = p ≡ path
FollowsCut (Cut effect) path (items.Power ∷ later) = ⊤
FollowsCut (Cut effect) path _ = ⊥
FollowsCut Full path later = ⊤
FollowsCut Checked path later = ⊤

-- no program that was cut
abbrev pub IsUncut : Item → Type 0
IsUncut (items.Program e) = FollowsCut e.how e.path []
IsUncut _ = ⊤

-- whether a path ran a program since its last reset
abbrev pub used_by : ℕ → Bool → Item → Bool
used_by path used (items.Program e) = (e.path == path) || used
used_by path used (items.Reset p) = not (p == path) && used
used_by path used items.Power = false
used_by path used _ = used

abbrev pub is_used : ℕ → Bool → List Item → Bool
is_used path used [] = used
is_used path used (x ∷ xs) = is_used path (used_by path used x) xs

-- whether any path ran a program since the last power loss
abbrev pub started_by : Bool → Item → Bool
started_by started (items.Program e) = true
started_by started items.Power = false
started_by started _ = started

abbrev pub is_started : Bool → List Item → Bool
is_started started [] = started
is_started started (x ∷ xs) = is_started (started_by started x) xs

-- a reset of a path that wasn't used, and a power loss before the first start, are no items; a track becomes loose only within a program
abbrev pub IsLegalItem : Plans → PlainState → List Item → Item → List Item → Type 0
IsLegalItem plans state earlier (items.Program e) later =
    IsLegalEntry plans state earlier e × FollowsCut e.how e.path later
IsLegalItem plans state earlier (items.Reset path) later = is_used path false earlier ≡ true
IsLegalItem plans state earlier items.Fresh later = ⊤
IsLegalItem plans state earlier (items.Act act) later = AreActs state None (act ∷ [])
IsLegalItem plans state earlier items.Power later = is_started false earlier ≡ true

abbrev pub IsLegalFrom : Plans → PlainState → List Item → List Item → Type 0
IsLegalFrom plans state earlier [] = ⊤
IsLegalFrom plans state earlier (x ∷ xs) = IsLegalItem plans state earlier x xs
    × IsLegalFrom plans (replay_item plans state x) (earlier ++ x ∷ []) xs

-- the journal is one that the plain device could have made
abbrev pub IsLegal : Plans → PlainState → List Item → Type 0
IsLegal plans state items = IsLegalFrom plans state [] items
