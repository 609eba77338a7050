-- Each command of a program counts one more in its stance, so no more than 4,096 of them end.
use Rattle.std.proofs.Common.{arith, ◌≡◌, ◌+◌, ℕ, zero, suc, Bool, List, is_some, refl, ap}
use Rattle.ckd_types.specs.declared.channel.Ccw.{Ccw}
use Rattle.ckd_types.specs.declared.command.ReadArea.{ReadArea}
use Rattle.ckd_types.specs.declared.command.SearchArea.{SearchArea}
use Rattle.ckd_types.specs.declared.geometry.Geometry.{Geometry}
use Rattle.ckd_types.specs.declared.record.Record.{Record}
use Rattle.ckd_types.specs.declared.record.Track.{Track}
use Rattle.ckd_types.specs.Fixed.{Fixed}
use Rattle.ckd_rules.specs.declared.finding.Sought.{Sought}
use Rattle.ckd_rules.specs.declared.opening.Opening.{Opening}
use Rattle.ckd_rules.specs.declared.opening.Opening.TheVariants as openings
use Rattle.ckd_rules.specs.declared.order.Look.{Look}
use Rattle.ckd_rules.specs.declared.order.CommandOrder.{CommandOrder}
use Rattle.ckd_rules.specs.declared.stance.After.{After}
use Rattle.ckd_rules.specs.declared.stance.Place.{Place}
use Rattle.ckd_rules.specs.declared.stance.Stance.{Stance}
use Rattle.ckd_rules.specs.declared.turned.Turned.{Turned}
use Rattle.ckd_rules.specs.declared.turned.Turned.TheVariants as turns
use Rattle.ckd_rules.specs.Looked.{Looked}
use Rattle.ckd_rules.specs.Opening.{begun}
use Rattle.ckd_rules.specs.Reads.{read_sought}
use Rattle.ckd_rules.specs.Searches.{search_sought}
use Rattle.ckd_rules.specs.Stance.{one_less}
use Rattle.ckd_rules.specs.Updates.{update_sought}
use Rattle.ckd_rules.specs.Walk as W
use Rattle.ckd_rules.specs.Walk.{Walked, walk, walked}
use Rattle.plain_defs.specs.Effect.{effect_on}
use Rattle.plain_defs.specs.PlainState.{PlainState}

-- a command that ended counts one more, one that goes on doesn't
abbrev CountsBy : ℕ → Stance → Turned → Type 0
CountsBy k z (turns.Ended e) = z.commands ≡ k + 1
CountsBy k z turns.Onward = z.commands ≡ k
CountsBy k z (turns.Edits edit e) = z.commands ≡ k + 1

record Counts (k : ℕ) (l : Looked) : Type 0 where
  is : CountsBy k l.stance l.turned

less_same : (s : Stance) → (one_less s).commands ≡ s.commands
less_same s = grind arith

module _ (s : Stance) where
  abbrev k : ℕ
  k = s.commands

  placed_less : (place : Place) (passes : ℕ) (after : After) → (one_less (record s { place = place; passes = passes; after = after })).commands + 1 ≡ s.commands + 1
  placed_less place passes after = ap (λ (n : ℕ). n + 1) (less_same (record s { place = place; passes = passes; after = after }))

  read_counts : (t : Track) (area : ReadArea) (c : Ccw) (x : Sought) → Counts s.commands (read_sought t area s c x)
  read_counts t area c x = search (arith, placed_less)

  search_counts : (t : Track) (area : SearchArea) (c : Ccw) (x : Sought) → Counts s.commands (search_sought t area s c x)
  search_counts t area c x = search arith

  updated_counts : (with_key in_domain : Bool) (records : List Record) (c : Ccw) (x : Sought) →
      Counts s.commands (update_sought with_key in_domain records s c x)
  updated_counts with_key in_domain records c x = search (arith, placed_less)

-- From track to track

walk_counts : (n : ℕ) (g : Geometry) (tracks : ℕ → Track) (start : Stance) (c : Ccw) (look : Look) (s : Stance) → s.commands ≡ start.commands →
    (walk n g tracks start c look s).outcome.stance.commands ≡ start.commands + 1
unfolding W.walk
walk_counts zero g tracks start c look s same = refl
walk_counts (suc n) g tracks start c look s same = grind (arith, walk_counts n g tracks start c look, search_counts, read_counts, updated_counts, is_some, placed_less)

-- How a command begins

abbrev OpensBy : ℕ → Stance → Opening → Type 0
OpensBy k z (openings.Over e) = z.commands ≡ k + 1
OpensBy k z (openings.Looks look) = z.commands ≡ k
OpensBy k z (openings.Asks act) = Unit {0}

module _ (s : Stance) where
  begins : (c : Ccw) (order : CommandOrder) → OpensBy s.commands (begun s c order).stance (begun s c order).opening
  begins c order = grind arith

-- The whole effect

pub effect_counts : (f : Fixed) (state : PlainState) (path : ℕ) (s : Stance) (c : Ccw) →
    (effect_on f state path s c).outcome.stance.commands ≡ s.commands + 1
effect_counts f state path s c = grind (arith, walk_counts)
