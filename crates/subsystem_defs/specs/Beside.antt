-- What happened to a device beside an event's end: the items that came to its journal, and the acts of cache fast write.
use Rattle.std.specs.Prelude.{
  ℕ,
  zero,
  suc,
  ◌==◌,
  ◌&&◌,
  not,
  Bool,
  true,
  false,
  List,
  [],
  ◌∷◌,
  ◌++◌,
  Option,
  Some,
  None,
  length,
  map,
  count_by,
  if◌then◌else◌,
}
use Rattle.plain_defs.specs.declared.journal.Act.{Act}
use Rattle.plain_defs.specs.declared.journal.Act.TheVariants.{Loosen, Harden, CfwLost}
use Rattle.plain_defs.specs.declared.journal.Acted.{Acted}
use Rattle.plain_defs.specs.declared.journal.Item.{Item}
use Rattle.plain_defs.specs.declared.journal.Item.TheVariants as items
use Rattle.plain_defs.specs.History.{OpenEntry, History}
use Rattle.device_defs.specs.Device.{Device}
use Rattle.device_defs.specs.Marks.{MarksDevice}
use Rattle.device_defs.specs.Store.{Store}
use Rattle.subsystem_defs.specs.Happening.{EventHappened}
use Rattle.subsystem_defs.specs.Subsystem.{devices_of}

abbrev pub behind_first : {X : Type 0} → ℕ → List X → List X
behind_first zero xs = xs
behind_first (suc n) [] = []
behind_first (suc n) (x ∷ xs) = behind_first n xs

-- a journal only grows
abbrev pub new_items : History → History → List Item
new_items before behind = behind_first (length before.items) behind.items

abbrev pub acts_of_entry : List Acted → List Act
acts_of_entry acts = map (λ (a : Acted). a.act) acts

-- a loss of power takes data of cache fast write by itself
abbrev pub acts_of_item : Item → List Act
acts_of_item (items.Program e) = acts_of_entry e.acts
acts_of_item (items.Act act) = act ∷ []
acts_of_item (items.Reset path) = []
acts_of_item items.Fresh = []
acts_of_item items.Power = []

abbrev pub acts_of_items : List Item → List Act
acts_of_items [] = []
acts_of_items (x ∷ xs) = acts_of_item x ++ acts_of_items xs

abbrev pub acts_running : Option OpenEntry → List Act
acts_running (Some o) = acts_of_entry o.acts
acts_running None = []

abbrev pub acts_in : History → List Act
acts_in h = acts_of_items h.items ++ acts_running h.running

abbrev pub new_acts : History → History → List Act
new_acts before behind = behind_first (length (acts_in before)) (acts_in behind)

-- What is told of data of cache fast write: a track that became loose or firm; or how many went back, and the new number of the data

pub data LooseTold : Type 0 where
  Loosened : ℕ → LooseTold
  Hardened : ℕ → LooseTold
  WentBack : ℕ → ℕ → LooseTold

abbrev pub is_power : Item → Bool
is_power items.Power = true
is_power _ = false

abbrev pub has_power : List Item → Bool
has_power [] = false
has_power (x ∷ xs) = if is_power x then true else has_power xs

module _ {F P H : Type 0} where
  abbrev pub loose_count : Store F P H → ℕ
  loose_count s = count_by (λ (x : Bool). x) s.loose

  abbrev pub told_act : Store F P H → Store F P H → Act → LooseTold
  told_act before behind (Loosen t) = Loosened t
  told_act before behind (Harden t) = Hardened t
  told_act before behind CfwLost = WentBack (loose_count before) behind.number

  abbrev pub power_told : Store F P H → Store F P H → Bool → List LooseTold
  power_told before behind lost =
      if lost && not (loose_count before == 0) then WentBack (loose_count before) behind.number ∷ [] else []

  abbrev pub loose_told : Device F P H → Device F P H → List LooseTold
  loose_told before behind =
      map (told_act before.store behind.store) (new_acts before.history behind.history)
      ++ power_told before.store behind.store (has_power (new_items before.history behind.history))

-- of one device
pub record Beside : Type 0 where
  pub device : ℕ
  pub items : List Item
  pub loose : List LooseTold

abbrev pub beside_one : MarksDevice → MarksDevice → Beside
beside_one before behind = record {
  device = before.store.device;
  items = new_items before.history behind.history;
  loose = loose_told before behind;
}

-- of each device in rising order
abbrev pub beside_all : List MarksDevice → List MarksDevice → List Beside
beside_all (before ∷ befores) (behind ∷ behinds) = beside_one before behind ∷ beside_all befores behinds
beside_all _ _ = []

abbrev pub beside : EventHappened → List Beside
beside h = beside_all (devices_of h.before) (devices_of h.behind)
