-- Behind every event of a run side B of a device is held only while side A is up, and while that is up it has the track of an open half write.
use Rattle.std.proofs.Common.{◌≡◌, ◌==◌, ℕ, Bool, true, false, List, [], ◌∷◌, map, Option, Some, None, is_some, option_map, refl}
use Rattle.std.specs.Prelude.{not, ◌&&◌}
use Rattle.ckd_types.specs.declared.paths.Side.{Side}
use Rattle.ckd_types.specs.declared.paths.Side.TheVariants as sides
use Rattle.ckd_types.specs.declared.geometry.Geometry.{Geometry}
use Rattle.ckd_types.specs.declared.record.Track.{Track}
use Rattle.loss_model.specs.declared.Loss.TheVariants as losses
use Rattle.plain_defs.specs.Journal.{Plans}
use Rattle.deck_text.specs.declared.line.DeviceLine.{DeviceLine}
use Rattle.deck_text.specs.DeckLines.{DeckLines}
use Rattle.track_table.proofs.Places.{empty_places}
use Rattle.device_defs.specs.Contents.{by_plain}
use Rattle.device_defs.specs.Marks.{MarksDevice}
use Rattle.device_defs.specs.Orders.{replace, hold_side}
use Rattle.device_defs.specs.Start as S
use Rattle.device_defs.specs.Start.{start}
use Rattle.device_defs.specs.Store.{HalfWrite, side_of, tracks_of}
use Rattle.device_laws.specs.NewDevice.{device_on}
use Rattle.device_laws.proofs.invariants.LedSides.{command_steers, second_steers, background_steers, lose_steers, power_steers, reset_steers, lend_steers}
use Rattle.device_laws.proofs.invariants.LedSides.{state_of, IsSteered}
use Rattle.subsystem_defs.specs.declared.end.OrderFault.TheVariants.{Same, Paired, Unpaired, Down, Up, NoSide, Half}
use Rattle.subsystem_defs.specs.Decks.{Firsts, opened_device_on}
use Rattle.subsystem_defs.specs.Refusals as R
use Rattle.subsystem_defs.specs.Refusals.{pair_fault, unpair_fault, suspend_fault, replace_fault}
use Rattle.subsystem_laws.proofs.Came.{at}
use Rattle.subsystem_laws.proofs.RunLines.{AnyEvent}
use Rattle.subsystem_laws.proofs.Walks.{AreSo, IsKept}
use Rattle.subsystem_defs.proofs.Unrefused.{first_none, where_none, is_not}
use Rattle.subsystem_laws.proofs.WholeUnpairs.{not_some}

abbrev pub Steered : MarksDevice → Type 0
Steered d = IsSteered (state_of d.store)

and_left : (x y : Bool) → (x && y) ≡ true → x ≡ true
and_left true y e = refl
and_left false y e = absurd (cc)

no_half : (h : Option (HalfWrite (Unit {0}))) → h ≡ None → (t : ℕ) → option_map (λ (k : HalfWrite (Unit {0})). k.track) h ≡ Some t → ⊥
no_half None e t is = cc
no_half (Some h) e t is = cc

module _ (d : MarksDevice) (f : Steered d) where
  start_steered : (path : ℕ) → Steered (start d path)
  unfolding S.start
  start_steered path = f

  hold_steered : suspend_fault d ≡ None → Steered (hold_side d)
  unfolding R.suspend_fault
  hold_steered e =
      let a = first_none (R.where_so (not d.store.paired) Unpaired) _ e in
      let b = first_none (R.where_so (is_some d.store.half) Half) _ a.1 in
      let c = first_none (R.where_so (not (d.store.a.up && d.store.b.up)) Down) _ b.1 in
      let up = and_left d.store.a.up d.store.b.up (is_not (d.store.a.up && d.store.b.up) (where_none (not (d.store.a.up && d.store.b.up)) Down c.0)) in
      record { led = λ _. (up, is_not d.store.paired (where_none (not d.store.paired) Unpaired a.0)); half = f.half }

  replace_steered : (side : Side) → d.store.half ≡ None → Steered (replace d side)
  replace_steered sides.A none = record { led = λ e. (refl, (f.led e).1); half = λ t is up. absurd (no_half d.store.half none t is) }
  replace_steered sides.B none = record { led = f.led; half = f.half }

  replaced_steered : (side : Side) → replace_fault d side ≡ None → Steered (replace d side)
  unfolding R.replace_fault
  replaced_steered side e =
      let a = first_none (R.lent_by d.store.lent) _ e in
      let b = first_none (R.where_so (not (R.has_side d.store side)) NoSide) _ a.1 in
      let c = first_none (R.where_so (side_of d.store side).up Up) _ b.1 in
      let h = first_none (R.where_so (is_some d.store.half) Half) _ c.1 in
      replace_steered side (not_some d.store.half (where_none (is_some d.store.half) Half h.0))

  alone_of : (x : MarksDevice) → pair_fault x d ≡ None → d.store.paired ≡ false
  unfolding R.pair_fault
  alone_of x fault =
      let a = first_none (R.where_so (x.store.device == d.store.device) Same) _ fault in
      let b = first_none (R.lent_by x.store.lent) _ a.1 in
      let c = first_none (R.lent_by d.store.lent) _ b.1 in
      let g = first_none (R.where_so x.store.paired Paired) _ c.1 in
      let h = first_none (R.where_so d.store.paired Paired) _ g.1 in
      where_none d.store.paired Paired h.0

pub steered_kept : IsKept Steered AnyEvent
steered_kept = record {
  started = λ d path n may fault f. start_steered d f path;
  commanded = λ d o running whole f. at (command_steers by_plain d whole f);
  seconded = λ d h is f. at (second_steers by_plain d f);
  worked = λ d whole f. at (background_steers by_plain d whole f);
  cut = λ d path f. at (reset_steers by_plain d path f);
  lost_cache = λ d f. at (lose_steers by_plain d losses.Cache f);
  lost_store = λ d f. at (lose_steers by_plain d losses.Store f);
  lost_side = λ d side home f. at (lose_steers by_plain d (losses.Side side) f);
  lost_power = λ d f. at (power_steers by_plain d f);
  held = λ d fault f. hold_steered d f fault;
  resumed = λ d pair f. record { led = λ e. absurd (cc); half = f.half };
  replaced = λ d side fault f. replaced_steered d f side fault;
  lent = λ x y fault e f. at (lend_steers by_plain y x.store.device (alone_of y f x fault) f);
  joins = λ d free f. record { led = λ e. ((f.led e).0, refl); half = f.half };
  splits = λ d fault f. record { led = λ e. absurd (cc); half = f.half };
  restored = λ d a is f. record { led = λ e. (refl, (f.led e).1); half = λ t e up. empty_places (tracks_of d.store) t false };
}

pub new_steered : (number : ℕ) (on : Geometry) (n : ℕ) (v : List Track) (plans : Plans) → Steered (device_on number on n v plans)
new_steered number on n v plans = record { led = λ e. absurd (cc); half = λ t e up. absurd (cc) }

pub opened_steered : (firsts : Firsts) (deck : DeckLines) (ds : List DeviceLine) → AreSo Steered (map (opened_device_on firsts deck) ds)
opened_steered firsts deck [] = tt
opened_steered firsts deck (d ∷ ds) = (new_steered d.number d.geometry d.cylinders (firsts d.number d.cylinders) (opened_device_on firsts deck d).device.plans, opened_steered firsts deck ds)
