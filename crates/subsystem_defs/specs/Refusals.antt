-- Why an order to devices is refused: the first of its causes, in the order in which they stand here. Every rule of this crate is own.
use Rattle.std.specs.Prelude.{ℕ, ◌==◌, ◌&&◌, not, Bool, true, false, List, [], ◌∷◌, Option, Some, None, is_some, if◌then◌else◌}
use Rattle.ckd_types.specs.declared.geometry.Geometry as geometries
use Rattle.ckd_types.specs.declared.geometry.Geometry.TheVariants.{D3390, D3380}
use Rattle.ckd_types.specs.declared.paths.Side.{Side}
use Rattle.ckd_types.specs.declared.paths.Side.TheVariants.{A, B}
use Rattle.track_table.specs.Tracks.{count_below}
use Rattle.plain_defs.specs.History.{OpenEntry}
use Rattle.device_defs.specs.Device.{Device}
use Rattle.device_defs.specs.Store.{Store, tracks_of, side_of, stale_at}
use Rattle.subsystem_defs.specs.declared.end.OrderFault.{OrderFault}
use Rattle.subsystem_defs.specs.declared.end.OrderFault.TheVariants.{
  Same,
  Lent,
  Paired,
  Unpaired,
  Active,
  Geometry,
  NoSide,
  Down,
  Up,
  NotLevel,
  Half,
  Held,
  NotHeld,
}

abbrev pub first_cause : List (Option OrderFault) → Option OrderFault
first_cause [] = None
first_cause (Some f ∷ causes) = Some f
first_cause (None ∷ causes) = first_cause causes

abbrev pub where_so : Bool → OrderFault → Option OrderFault
where_so b f = if b then Some f else None

abbrev pub is_same_kind : geometries.Geometry → geometries.Geometry → Bool
is_same_kind D3390 D3390 = true
is_same_kind D3390 D3380 = false
is_same_kind D3380 D3390 = false
is_same_kind D3380 D3380 = true

abbrev pub lent_by : Option ℕ → Option OrderFault
lent_by (Some to) = Some (Lent to)
lent_by None = None

abbrev pub active_by : Option OpenEntry → Option OrderFault
active_by (Some o) = Some (Active o.path)
active_by None = None

abbrev pub not_level_by : ℕ → Option OrderFault
not_level_by n = where_so (not (n == 0)) (NotLevel n)

module _ {F P H : Type 0} where
  abbrev pub is_alike : Store F P H → Store F P H → Bool
  is_alike a b = is_same_kind a.geometry b.geometry && (a.cylinders == b.cylinders)

  -- a device that isn't lent has side A, and side B while it is paired
  abbrev pub has_side : Store F P H → Side → Bool
  has_side s A = true
  has_side s B = s.paired

  abbrev pub stale_count : Store F P H → ℕ
  stale_count s = count_below (tracks_of s) (stale_at s.a)

  -- the second one's volume is to be side B of the first
  unfoldable pub pair_fault : Device F P H → Device F P H → Option OrderFault
  pair_fault a b =
      first_cause (where_so (a.store.device == b.store.device) Same
      ∷ lent_by a.store.lent ∷ lent_by b.store.lent
      ∷ where_so a.store.paired Paired ∷ where_so b.store.paired Paired
      ∷ active_by a.history.running ∷ active_by b.history.running
      ∷ where_so (not (is_alike a.store b.store)) Geometry
      ∷ where_so (not a.store.a.up) Down ∷ where_so (not b.store.a.up) Down
      ∷ [])

  unfoldable pub unpair_fault : Device F P H → Option OrderFault
  unpair_fault a =
      first_cause (where_so (not a.store.paired) Unpaired
      ∷ active_by a.history.running
      ∷ where_so (is_some a.store.half) Half
      ∷ where_so (not a.store.a.up) Down
      ∷ not_level_by (stale_count a.store)
      ∷ [])

  unfoldable pub suspend_fault : Device F P H → Option OrderFault
  suspend_fault a =
      first_cause (where_so (not a.store.paired) Unpaired
      ∷ where_so (is_some a.store.half) Half
      ∷ where_so (not (a.store.a.up && a.store.b.up)) Down
      ∷ where_so a.store.held Held
      ∷ [])

  unfoldable pub resume_fault : Device F P H → Option OrderFault
  resume_fault a = first_cause (where_so (not a.store.paired) Unpaired ∷ where_so (not a.store.held) NotHeld ∷ [])

  unfoldable pub fail_fault : Device F P H → Side → Option OrderFault
  fail_fault d side =
      first_cause (lent_by d.store.lent
      ∷ where_so (not (has_side d.store side)) NoSide
      ∷ where_so (not (side_of d.store side).up) Down
      ∷ [])

  unfoldable pub replace_fault : Device F P H → Side → Option OrderFault
  replace_fault d side =
      first_cause (lent_by d.store.lent
      ∷ where_so (not (has_side d.store side)) NoSide
      ∷ where_so (side_of d.store side).up Up
      ∷ where_so (is_some d.store.half) Half
      ∷ [])
