-- Cache fast write on a plain device: tracks that become loose and firm again, and the loss of their data.
use Rattle.std.specs.Prelude.{ℕ, ◌+◌, ◌==◌, not, Bool, true, false, List, [], ◌∷◌, ◌++◌, slice_set, if◌then◌else◌}
use Rattle.std.specs.List.{filter}
use Rattle.ckd_types.specs.declared.record.Track.{Track}
use Rattle.ckd_types.specs.Volume.{track_in}
use Rattle.plain_defs.specs.declared.journal.Act.{Act}
use Rattle.plain_defs.specs.declared.journal.Act.TheVariants.{Loosen, Harden, CfwLost}
use Rattle.plain_defs.specs.PlainState.{LooseTrack, PlainState, fresh_paths}

abbrev pub is_loose_in : List LooseTrack → ℕ → Bool
is_loose_in [] t = false
is_loose_in (l ∷ loose) t = if l.track == t then true else is_loose_in loose t

abbrev pub is_loose_there : PlainState → ℕ → Bool
is_loose_there state t = is_loose_in state.loose t

abbrev pub firm_in : List LooseTrack → ℕ → Track → Track
firm_in [] t plain = plain
firm_in (l ∷ loose) t plain = if l.track == t then l.firm else firm_in loose t plain

-- what a track is without data of cache fast write
abbrev pub firm : PlainState → ℕ → Track
firm state t = firm_in state.loose t (track_in state.volume t)

-- the others
abbrev pub without : ℕ → List LooseTrack → List LooseTrack
without t loose = filter (λ (l : LooseTrack). not (l.track == t)) loose

-- each loose track is its firm one again
abbrev pub restored : List LooseTrack → List Track → List Track
restored [] v = v
restored (l ∷ loose) v = slice_set (restored loose v) l.track l.firm

-- the number goes from 65,535 to 0
abbrev pub next_number : ℕ → ℕ
next_number n = if n == 65535 then 0 else n + 1

abbrev pub cfw_lost : PlainState → PlainState
cfw_lost state = record state {
  volume = restored state.loose state.volume;
  loose = [];
  number =
      next_number state.number;
}

abbrev pub act_done : PlainState → Act → PlainState
act_done state (Loosen t) = record state {
  loose = state.loose ++ record { track = t; firm = track_in state.volume t }
      ∷ [];
}
act_done state (Harden t) = record state { loose = without t state.loose }
act_done state CfwLost = cfw_lost state

abbrev pub lost_by_power : PlainState → List LooseTrack → PlainState
lost_by_power state [] = state
lost_by_power state (l ∷ loose) = cfw_lost state

-- a power loss takes the data of cache fast write, and all that is kept of the paths
abbrev pub power_off : PlainState → PlainState
power_off state = record (lost_by_power state state.loose) { paths = fresh_paths }
