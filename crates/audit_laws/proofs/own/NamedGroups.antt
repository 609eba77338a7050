-- On a plain device whose programs give bytes each path group has a name of eleven bytes, and who holds the device is such a group or a path.
use Rattle.std.proofs.Common.{arith, ◌≡◌, ◌-◌, ℕ, Bool, true, false, List, [], ◌∷◌, map, Option, if◌then◌else◌}
use Rattle.std.specs.Prelude.{All, IfSome, slice_index_or, slice_set}
use Rattle.std.proofs.lemmas.List.Elements.{All-head, All-nil, All-set, All-tail}
use Rattle.ckd_types.specs.declared.channel.Ccw.{Ccw}
use Rattle.ckd_types.specs.declared.paths.GroupId.{GroupId}
use Rattle.ckd_types.specs.declared.paths.Owner.{Owner}
use Rattle.ckd_types.specs.declared.paths.PathState.{PathState}
use Rattle.ckd_types.specs.declared.paths.PathState.TheVariants.{Grouped, Reset, Ungrouped}
use Rattle.ckd_types.specs.Fixed.{Fixed}
use Rattle.ckd_types.specs.declared.record.Track.{Track}
use Rattle.ckd_rules.specs.declared.grouping.GroupFault.{GroupFault}
use Rattle.ckd_rules.specs.declared.opening.Opening.{Opening}
use Rattle.ckd_rules.specs.declared.opening.Opening.TheVariants as openings
use Rattle.ckd_rules.specs.declared.order.LocalAct.{LocalAct}
use Rattle.ckd_rules.specs.declared.order.LocalAct.TheVariants.{SetGroup}
use Rattle.ckd_rules.specs.declared.stance.Stance.{Stance}
use Rattle.ckd_rules.specs.Grouping.{disbanded, establishes, is_in_group, owner_after, owner_by, paths_set, resigns, asks_multipath}
use Rattle.plain_defs.specs.Acts.{act_fault, paths_after}
use Rattle.plain_defs.specs.Effect.{acted_by, effect_by}
use Rattle.plain_defs.specs.PlainState.{PathsState, reset_path}
use Rattle.report_reading.specs.Ranges.{AreBytes, IsOwner, IsPath}
use Rattle.audit_laws.proofs.own.GivenBytes.{at_or}

abbrev pub Named : PathState → Type 0
Named (Grouped id multipath) = AreBytes 11 id.bytes
Named Reset = Unit {0}
Named Ungrouped = Unit {0}

pub record AreNamed (p : PathsState) : Type 0 where
  pub states : All Named p.states
  pub owner : IfSome p.owner IsOwner

-- Paths

owner_named : (state : PathState) (path : ℕ) → IsPath path → Named state → IsOwner (owner_by state path)
owner_named state path p n = grind arith

after_named : (paths : List PathState) (path : ℕ) (o : Option Owner) → IfSome o IsOwner → IfSome (owner_after paths path o) IsOwner
after_named paths path o h = grind arith

pub reset_named : (p : PathsState) (path : ℕ) → AreNamed p → AreNamed (reset_path p path)
reset_named p path n = record {
  states = All-set Named p.states (path - 1) Reset tt n.states;
  owner = after_named (slice_set p.states (path - 1) Reset) path p.owner n.owner;
}

-- Groups

module _ (id : GroupId) (bytes : AreBytes 11 id.bytes) where
  left_if : (b : Bool) (state : PathState) → Named state → Named (if b then Ungrouped else state)
  left_if b state n = grind arith

  all_left : (xs : List PathState) → All Named xs → All Named (map (disbanded id) xs)
  all_left [] all = All-nil Named
  all_left (x ∷ xs) all = grind (arith, left_if (is_in_group id x) x (All-head Named x xs all), all_left xs (All-tail Named x xs all))

  states_set : (xs : List PathState) (path function : ℕ) → All Named xs → All Named (paths_set xs path function id)
  states_set xs path function all = by_tests (establishes function) (resigns function) where
    by_tests : (a b : Bool) → All Named (if a then slice_set xs (path - 1) (Grouped id (asks_multipath function))
        else if b then slice_set xs (path - 1) Ungrouped else map (disbanded id) xs)
    by_tests true b = All-set Named xs (path - 1) (Grouped id (asks_multipath function)) bytes all
    by_tests false true = All-set Named xs (path - 1) Ungrouped tt all
    by_tests false false = all_left xs all

-- Acts and effects

abbrev pub ActNamed : LocalAct → Type 0
ActNamed (SetGroup function id) = AreBytes 11 id.bytes
ActNamed _ = Unit {0}

abbrev pub OpeningIn : Opening → Type 0
OpeningIn (openings.Over e) = e.sent ≡ []
OpeningIn (openings.Looks look) = Unit {0}
OpeningIn (openings.Asks act) = ActNamed act

module _ (p : PathsState) (path : ℕ) (is : IsPath path) (n : AreNamed p) where
  reserved_named : IsOwner (owner_by (slice_index_or p.states (path - 1) Reset) path)
  reserved_named = owner_named (slice_index_or p.states (path - 1) Reset) path is (at_or Named Reset tt p.states (path - 1) n.states)

  pub act_named : (act : LocalAct) → ActNamed act → AreNamed (paths_after p path act)
  act_named act h = search (arith, reserved_named, states_set)

  acted_named : (device : Fixed) (s : Stance) (c : Ccw) (act : LocalAct) → ActNamed act → (o : Option GroupFault) →
      AreNamed (acted_by device p path s c act o).paths
  acted_named device s c act h o = search (arith, act_named)

  pub effect_named : (device : Fixed) (tracks : ℕ → Track) (start : Stance) (c : Ccw) (s : Stance) (o : Opening) → OpeningIn o →
      AreNamed (effect_by device p tracks path start c s o).paths
  effect_named device tracks start c s (openings.Asks act) h = acted_named device start c act h (act_fault p path act)
  effect_named device tracks start c s o h = record { states = n.states; owner = n.owner }
