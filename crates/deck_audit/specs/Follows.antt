-- A device that is replayed is the one that the lines of the report so far make.
use Rattle.std.specs.Prelude.{◌≡◌, ◌≤◌, ◌==◌, ◌||◌, ℕ, ◌+◌, Bool, true, false, List, [], ◌∷◌, length, map, count_by, Option, Some, None, if◌then◌else◌, ⊤}
use Rattle.ckd_types.specs.declared.channel.Ccw.{Ccw}
use Rattle.ckd_types.specs.declared.channel.CommandEnd.{CommandEnd}
use Rattle.ckd_types.specs.Parameters.{is_provisional}
use Rattle.ckd_chain.specs.State.{ChainState}
use Rattle.ckd_chain.specs.Steps.{behind}
use Rattle.plain_defs.specs.Effect.{Effect}
use Rattle.plain_defs.specs.History.{History, OpenEntry, has_used}
use Rattle.plain_defs.specs.Legal.{AreInOrder, is_of_path, is_started}
use Rattle.plain_defs.specs.PlainState.{PlainState}
use Rattle.plain_defs.specs.Program.{Part}
use Rattle.plain_device.specs.Between.{effect_of}
use Rattle.deck_audit.specs.declared.replayed.Running.{Running}
use Rattle.deck_audit.specs.Device.{AuditedDevice, four_paths, part_of_open, runs, state_of, words_of_open}
use Rattle.deck_audit.specs.Replay.{started_on}
use Rattle.deck_audit.specs.Replayed.{PendingState, ReplayedState}

-- a device and a chain are where the part of a program is that so many commands of it make
pub record IsAt (p : Part) (ccws : List Ccw) (device : PlainState) (chain : ChainState) (ends : List CommandEnd) : Type 0 where
  pub device_is : device ≡ p.state
  pub fixed_is : chain.fixed ≡ p.fixed
  pub stance_is : chain.at.stance ≡ p.stance
  pub next_is : chain.at.next ≡ p.next
  pub ends_are : ends ≡ p.ends
  pub words : chain.ccws ≡ ccws

-- the same program runs, with its chain behind the commands that ended, at a word of it
pub record RunsAs (a : AuditedDevice) (o : OpenEntry) (device : PlainState) (q : Running) (chain : ChainState) : Type 0 where
  pub path_is : q.path ≡ o.path
  pub ordinal_is : q.ordinal ≡ o.ordinal
  pub at : IsAt (part_of_open a o) (words_of_open a o) device chain o.ends
  pub order : AreInOrder 0 (length o.ends + 1) o.acts
  pub word : ℕ
  pub at_word : chain.at.next ≡ Some word

abbrev pub pending_by : Effect → ChainState → PendingState
pending_by e chain = record { edit = e.edit; paths = e.paths; provisional = is_provisional chain.at.stance.extent }

-- its next command has come to its end, and the device has nothing of it yet
pub record EndsAs (a : AuditedDevice) (o : OpenEntry) (device : PlainState) (q : Running) (p : PendingState) : Type 0 where
  pub before : ChainState
  pub runs : RunsAs a o device q before
  pub chain_is : q.chain ≡ behind before (effect_of device o.path before).outcome
  pub pending_is : p ≡ pending_by (effect_of device o.path before) before

abbrev pub FollowsProgram : AuditedDevice → PlainState → Option Running → Option PendingState → Option OpenEntry → Type 0
FollowsProgram a device None pending None = ⊤
FollowsProgram a device (Some q) None (Some o) = RunsAs a o device q q.chain
FollowsProgram a device (Some q) (Some p) (Some o) = EndsAs a o device q p
FollowsProgram a device running pending entry = ⊥

-- it is the plain device of the history, and runs its program
pub record Follows (r : ReplayedState) (a : AuditedDevice) : Type 0 where
  pub number_is : r.number ≡ a.number
  pub device_is : r.device ≡ state_of a
  pub half_is : r.half ≡ a.half
  pub lent_is : r.lent ≡ a.lent
  pub program : FollowsProgram a r.device r.running r.pending a.history.running

abbrev pub own_count : Option OpenEntry → ℕ → ℕ
own_count (Some o) path = if o.path == path then 1 else 0
own_count None path = 0

-- of each path as many programs were started as ran, and the one that runs
abbrev pub CountsAs : ReplayedState → AuditedDevice → Type 0
CountsAs r a = (path : ℕ) → 1 ≤ path → path ≤ 4
    → started_on r path ≡ count_by (is_of_path path) a.history.items + own_count a.history.running path

abbrev pub if_waits : Bool → ℕ → List ℕ → List ℕ
if_waits true path paths = path ∷ paths
if_waits false path paths = paths

-- the resets of the same paths wait
pub record WaitsAs (waits : List Bool) (waiting : List ℕ) : Type 0 where
  pub first : Bool
  pub second : Bool
  pub third : Bool
  pub fourth : Bool
  pub waits_are : waits ≡ first ∷ second ∷ third ∷ fourth ∷ []
  pub waiting_are : waiting ≡ if_waits first 1 (if_waits second 2 (if_waits third 3 (if_waits fourth 4 [])))

-- how many programs of a path the history started
abbrev pub count_of : History → ℕ → ℕ
count_of h path = count_by (is_of_path path) h.items + own_count h.running path

-- what is kept of each path is what the history says of it
pub record KeepsPaths (r : ReplayedState) (h : History) : Type 0 where
  pub started_are : r.started ≡ map (count_of h) four_paths
  pub used_are : r.used ≡ map (has_used h) four_paths
  pub waits : WaitsAs r.waits h.waiting
  pub powered_is : r.powered ≡ (runs h.running || is_started false h.items)
