-- What a device keeps while it stands in a turn, and what it counts for each seat of the turn.
use Rattle.std.specs.Prelude.{◌≡◌, ◌≤◌, ℕ, zero, suc, ◌+◌, ◌*◌, ◌==◌, ◌&&◌, ◌||◌, not, Bool, true, false}
use Rattle.std.specs.Prelude.{List, [], ◌∷◌, length, count_by, Option, Some, None, is_some, if◌then◌else◌}
use Rattle.ckd_types.specs.declared.geometry.Geometry.{Geometry}
use Rattle.plain_defs.specs.declared.journal.How.{How}
use Rattle.plain_defs.specs.declared.journal.How.TheVariants.{Full, Cut, Checked}
use Rattle.plain_defs.specs.declared.journal.Item.{Item}
use Rattle.plain_defs.specs.declared.journal.Item.TheVariants as items
use Rattle.plain_defs.specs.History.{is_path_of}
use Rattle.plain_defs.specs.Journal.{Plans, last_sense}
use Rattle.plain_defs.specs.Legal.{is_of_path}
use Rattle.device_defs.specs.declared.counts.Losses.{Losses}
use Rattle.device_defs.specs.Device.{Device}
use Rattle.device_defs.specs.Excused.{is_checked, is_data_check}

-- what is told of a device's volumes: how many calls of them may still fail; that they tell what they hold; and that every volume
-- that was ever handed to it did
pub record Handed : Type 0 where
  pub allowance : Option ℕ
  pub tells : Bool
  pub told : Bool

pub record Pledge : Type 0 where
  pub number : ℕ
  pub geometry : Geometry
  pub cylinders : ℕ
  pub plans : Plans
  pub lent : Option ℕ
  pub was_lent : Bool
  pub fresh : ℕ  -- how often its volume was made empty
  pub losses : Losses  -- how many it may have in all
  pub failures : Option ℕ  -- and how many failed calls, where that is told
  pub told : Bool

-- Counts

module _ {F P H : Type 0} where
  -- twice the programs of a path that are over, and one more while one runs
  abbrev pub command_count : Device F P H → ℕ → ℕ
  command_count d path = 2 * count_by (is_of_path path) d.history.items + (if is_path_of d.history.running path then 1 else 0)

  -- of the operator's seat, of the four paths', and of the background's
  abbrev pub seat_counts : Device F P H → List ℕ
  seat_counts d = 0 ∷ command_count d 1 ∷ command_count d 2 ∷ command_count d 3 ∷ command_count d 4 ∷ 0 ∷ []

-- The journal

abbrev pub is_fresh : Item → Bool
is_fresh items.Fresh = true
is_fresh _ = false

abbrev pub fresh_count : List Item → ℕ
fresh_count journal = count_by is_fresh journal

-- an entry that wasn't cut
abbrev pub is_uncut : How → Bool
is_uncut (Cut effect) = false
is_uncut Full = true
is_uncut Checked = true

abbrev pub is_kept_item : Item → Bool
is_kept_item (items.Program e) = is_uncut e.how
is_kept_item (items.Act act) = true
is_kept_item (items.Reset path) = false
is_kept_item items.Fresh = false
is_kept_item items.Power = false

abbrev pub are_kept : List Item → Bool
are_kept [] = true
are_kept (x ∷ xs) = is_kept_item x && are_kept xs

-- so many times an empty volume, and then no reset, no empty volume, no loss of power and no program that was cut
abbrev pub is_kept_journal : ℕ → List Item → Bool
is_kept_journal zero xs = are_kept xs
is_kept_journal (suc n) [] = false
is_kept_journal (suc n) (x ∷ xs) = is_fresh x && is_kept_journal n xs

abbrev pub ends_with_data_check : Item → Bool
ends_with_data_check (items.Program e) = is_checked e.how && is_data_check (last_sense e.ends)
ends_with_data_check _ = false

-- Failed calls and losses

abbrev pub failures_of : ℕ → Option ℕ → Option ℕ
failures_of failed (Some allowance) = Some (failed + allowance)
failures_of failed None = None

abbrev pub losses_with : Losses → Losses → Losses
losses_with l more = record { cache = l.cache + more.cache; store = l.store + more.store; sides = l.sides + more.sides }

abbrev pub StaysWithin : Option ℕ → ℕ → Option ℕ → Type 0
StaysWithin None failed allowance = Unit {0}
StaysWithin (Some n) failed None = ⊥
StaysWithin (Some n) failed (Some allowance) = failed + allowance ≤ n

module _ {F P H : Type 0} where
  -- a device that was lent and isn't any more was made empty then
  abbrev pub was_lent : Device F P H → Bool
  was_lent d = is_some d.store.lent || not (fresh_count d.history.items == 0)

  -- What is pledged of a device of which no program was started, with the losses that are still to come

  abbrev pub pledge : Device F P H → Handed → Losses → Pledge
  pledge d v more = record {
    number = d.store.device;
    geometry = d.store.geometry;
    cylinders = d.store.cylinders;
    plans = d.plans;
    lent = d.store.lent;
    was_lent = was_lent d;
    fresh = fresh_count d.history.items;
    losses = losses_with d.store.counts.losses more;
    failures = failures_of d.store.counts.failed v.allowance;
    told = v.told;
  }

  -- What it keeps

  pub record Keeps (p : Pledge) (d : Device F P H) (v : Handed) : Type 0 where
    pub number : d.store.device ≡ p.number
    pub geometry : d.store.geometry ≡ p.geometry
    pub cylinders : d.store.cylinders ≡ p.cylinders
    pub plans : d.plans ≡ p.plans
    pub lent : d.store.lent ≡ p.lent
    pub was_lent : was_lent d ≡ p.was_lent
    pub journal : is_kept_journal p.fresh d.history.items ≡ true
    pub still : is_some p.lent ≡ true → length d.history.items ≡ p.fresh
    pub cache : d.store.counts.losses.cache ≤ p.losses.cache
    pub store : d.store.counts.losses.store ≤ p.losses.store
    pub sides : d.store.counts.losses.sides ≤ p.losses.sides
    pub failures : StaysWithin p.failures d.store.counts.failed v.allowance
    pub tells : p.told ≡ true → v.tells ≡ true
    pub told : p.told ≡ true → v.told ≡ true
    pub checks : p.told ≡ true → count_by ends_with_data_check d.history.items ≡ 0
