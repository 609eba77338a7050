-- A device is excused for what it loses, and one that was never lent for its checks too.
use Rattle.std.specs.Prelude.{◌≡◌, ◌≤◌, ℕ, Bool, true, false, List, [], ◌∷◌, All, is_some}
use Rattle.ckd_types.specs.declared.record.Track.{Track}
use Rattle.ckd_types.specs.Volume.{empty_volume}
use Rattle.plain_defs.specs.declared.journal.Item.{Item}
use Rattle.plain_defs.specs.declared.journal.Item.TheVariants as items
use Rattle.device_defs.specs.Excused.{IsExcused, count_lost, loose_losses, may_lose, unexplained}
use Rattle.device_defs.specs.Marks.{MarksDevice}
use Rattle.subsystem_defs.specs.Lines.{Logged}
use Rattle.subsystem_defs.specs.Promised.{empty_of, first_of}
use Rattle.subsystem_defs.specs.Subsystem.{devices_of}

abbrev pub has_fresh : List Item → Bool
has_fresh [] = false
has_fresh (items.Fresh ∷ xs) = true
has_fresh (x ∷ xs) = has_fresh xs

-- it isn't lent, and never got an empty volume behind that
pub record WasNeverLent (d : MarksDevice) : Type 0 where
  pub home : is_some d.store.lent ≡ false
  pub none : has_fresh d.history.items ≡ false

-- none of its tracks is lost unless by how often something failed it may
abbrev pub HasExcusedTracks : MarksDevice → Type 0
HasExcusedTracks d = may_lose d.store.counts ≡ false → count_lost d.store.lost ≡ 0

abbrev pub HaveExcusedTracks : Logged → Type 0
HaveExcusedTracks x = All HasExcusedTracks (devices_of x.happened.behind)

-- its data of cache fast write were lost no more often than losses of the cache were counted
abbrev pub HasCountedLosses : MarksDevice → Type 0
HasCountedLosses d = loose_losses d.history.items ≤ d.store.counts.losses.cache

abbrev pub HaveCountedLosses : Logged → Type 0
HaveCountedLosses x = All HasCountedLosses (devices_of x.happened.behind)

-- no more of its checks are unexplained than calls of it failed
abbrev pub HasExcusedChecksOn : (ℕ → List Track) → MarksDevice → Type 0
HasExcusedChecksOn first d =
    WasNeverLent d → unexplained d.plans (first_of first d) d.store.lost d.store.counts d.history.items ≤ d.store.counts.failed

abbrev pub HasExcusedChecks : MarksDevice → Type 0
HasExcusedChecks d = HasExcusedChecksOn empty_volume d

abbrev pub HaveExcusedChecks : Logged → Type 0
HaveExcusedChecks x = All HasExcusedChecks (devices_of x.happened.behind)

-- all three
abbrev pub HasExcuse : MarksDevice → Type 0
HasExcuse d = WasNeverLent d → IsExcused d.plans (empty_of d) d.history.items d.store.lost d.store.counts

abbrev pub HaveExcuses : Logged → Type 0
HaveExcuses x = All HasExcuse (devices_of x.happened.behind)
