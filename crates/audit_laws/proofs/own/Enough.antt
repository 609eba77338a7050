-- A command on a plain device stays on its tracks and edits one of them, and it ends before it has looked at more than there are: so never with
-- equipment check.
use Rattle.std.proofs.Common.{◌≡◌, ◌<◌, ◌≤◌, ◌+◌, ◌*◌, ℕ, zero, suc, List, Option, Some, ap, arith}
use Rattle.std.specs.Prelude.{IfSome}
use Rattle.ckd_types.specs.declared.channel.Ccw.{Ccw}
use Rattle.ckd_types.specs.declared.channel.CommandEnd.{CommandEnd}
use Rattle.ckd_types.specs.declared.geometry.Geometry.{Geometry}
use Rattle.ckd_types.specs.declared.record.Track.{Track}
use Rattle.ckd_types.specs.declared.sense.Sense.{Sense}
use Rattle.ckd_types.specs.Fixed.{Fixed}
use Rattle.ckd_types.specs.Sense.{equipment_sense}
use Rattle.ckd_rules.specs.declared.ending.Ending.{Ending}
use Rattle.ckd_rules.specs.declared.opening.Opening.{Opening}
use Rattle.ckd_rules.specs.declared.opening.Opening.TheVariants as openings
use Rattle.ckd_rules.specs.declared.order.Look.{Look}
use Rattle.ckd_rules.specs.declared.stance.Stance.{Stance}
use Rattle.ckd_rules.specs.declared.turned.Turned.{Turned}
use Rattle.ckd_rules.specs.Ending.{Outcome}
use Rattle.ckd_rules.specs.Look.{look_on}
use Rattle.ckd_rules.specs.Walk as W
use Rattle.ckd_rules.specs.Walk.{TrackEdit, Walked, walk, walked}
use Rattle.plain_defs.specs.Legal.{edit_at, next_edit}
use Rattle.plain_defs.specs.declared.journal.Acted.{Acted}
use Rattle.plain_defs.specs.Effect.{Effect, effect_by}
use Rattle.plain_defs.specs.PlainState.{PathsState, PlainState}
use Rattle.plain_defs.specs.Program as P
use Rattle.plain_defs.specs.Program.{Part, part_of, command_run, stepped_at}
use Rattle.plain_defs.proofs.PartLemmas.{acted_beside}
use Rattle.deck_audit.specs.Device.{plain_end_at}
use Rattle.device_laws.proofs.ChainTracks.{FurtherBy, look_further, whole_cylinders}
use Rattle.subsystem_laws.proofs.StancePlaces.{On, Opens, SeeksOn, look_leaves_on, opening_is_on}
use Rattle.audit_laws.proofs.own.Saying.{same_bytes}
use Rattle.audit_laws.proofs.own.Tidy.{FitsBy, OpeningFits, TurnFits, act_fits, look_fits, opening_fits}

abbrev IsOther : Option Sense → Type 0
IsOther sense = sense ≡ Some equipment_sense → ⊥

fits_by : (c : Ccw) (e : Ending) (o : Option Sense) → FitsBy c e o → IsOther o
fits_by c e o h = grind (arith, same_bytes)

-- a program goes by the device that began it
pub part_fixed : (path : ℕ) (ccws : List Ccw) (xs : List Acted) (state : PlainState) (k : ℕ) →
    (part_of state path ccws xs k).fixed.cylinders ≡ state.cylinders
unfolding P.part_of
part_fixed path ccws xs state zero = ap (λ (f : Fixed). f.cylinders) (acted_beside xs (P.first_part state path ccws)).fixed
part_fixed path ccws xs state (suc k) = grind (arith, part_fixed path ccws xs state k, acted_beside)

module _ (k : ℕ) (some : 0 < k) where
  abbrev n : ℕ
  n = k * 15

  record EditsOn (o : Outcome) (edit : Option TrackEdit) : Type 0 where
    other : IsOther o.ending.sense
    at : On n o.stance
    edited : IfSome edit (λ e. e.track < n)

  -- From track to track

  abbrev WalksOn : Walked → Type 0
  WalksOn w = EditsOn w.outcome w.edit

  module _ (g : Geometry) (tracks : ℕ → Track) (start : Stance) (starts : On n start) (c : Ccw) (look : Look) (seeks : SeeksOn n look) where
    turned_on : (s z : Stance) (x : Turned) (next : Stance → Walked) → TurnFits c x → s.track < n → On n z → FurtherBy n s z x →
        ((y : Stance) → On n y → y.track ≡ s.track + 1 → WalksOn (next y)) → WalksOn (walked s.track next z x)
    turned_on s z x next fits lt on further go = search (arith, fits_by)

    walk_on : (m : ℕ) (s : Stance) → On n s → n ≤ m + s.track → WalksOn (walk m g tracks start c look s)
    unfolding W.walk
    walk_on zero s on enough = let below = on.track in absurd (omega (arith, below, enough))
    walk_on (suc m) s on enough =
        let l = look_on g (tracks s.track) s c look in
        turned_on s l.stance l.turned (walk m g tracks start c look) (look_fits g (tracks s.track) s c look) on.track
        (look_leaves_on n s on (whole_cylinders k) g (tracks s.track) c look seeks)
        (look_further n s (whole_cylinders k) on.track on.extent g (tracks s.track) c look).on
        (λ y on_y is. walk_on m y on_y (omega (arith, enough, is)))

  -- A command

  abbrev HasEdit : Effect → Type 0
  HasEdit e = EditsOn e.outcome e.edit

  module _ (f : Fixed) (same : f.cylinders ≡ k) (paths : PathsState) (tracks : ℕ → Track) (path : ℕ) (start : Stance) (starts : On n start) (c : Ccw) where
    by_opening : (s : Stance) (o : Opening) → OpeningFits c o → Opens n s o → HasEdit (effect_by f paths tracks path start c s o)
    by_opening s (openings.Over e) fits on = record { other = fits_by c e e.sense fits; at = on; edited = tt }
    by_opening s (openings.Looks look) fits on =
        walk_on f.geometry tracks start starts c look on.1 (f.cylinders * 15) s on.0 (omega (arith, same))
    by_opening s (openings.Asks act) fits on = search (arith, fits_by, act_fits)

  -- A program's parts

  record PlaceOn (p : Part) : Type 0 where
    fixed : p.fixed.cylinders ≡ k
    at : On n p.stance

  module _ (state : PlainState) (same : state.cylinders ≡ k) (path : ℕ) (ccws : List Ccw) (acts : List Acted) where
    beside_place : (p : Part) → PlaceOn p → PlaceOn (P.acts_made acts p)
    beside_place p f = search (arith, acted_beside)

    part_place : (j : ℕ) → PlaceOn (part_of state path ccws acts j)
    unfolding P.part_of
    part_place zero = beside_place (P.first_part state path ccws) (search arith)
    part_place (suc j) = grind (arith, part_place j, beside_place, by_opening, opening_fits, opening_is_on)

    edit_at_on : (p : Part) (next : Option ℕ) → PlaceOn p → IfSome (edit_at path ccws p next) (λ e. e.track < n)
    edit_at_on p next f = grind (arith, by_opening, opening_fits, opening_is_on)

    pub edit_on : (j : ℕ) → IfSome (next_edit path ccws (part_of state path ccws acts j)) (λ e. e.track < n)
    edit_on j = let p = part_of state path ccws acts j in edit_at_on p p.next (part_place j)

    end_at : (p : Part) → PlaceOn p → (next : Option ℕ) (e : CommandEnd) → plain_end_at path ccws p next ≡ Some e → IsOther e.sense
    end_at p x2 next e x5 = grind (arith, by_opening, opening_fits, opening_is_on)

    pub end_is_other : (j : ℕ) (next : Option ℕ) (e : CommandEnd) → plain_end_at path ccws (part_of state path ccws acts j) next ≡ Some e →
        e.sense ≡ Some equipment_sense → ⊥
    end_is_other j next e is = end_at (part_of state path ccws acts j) (part_place j) next e is
