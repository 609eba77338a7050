-- The form of an end on the plain device: with sense it has that of a check, and of another cause; without sense another status. Status, residual
-- and sense are in their ranges.
use Rattle.std.proofs.Common.{◌≡◌, ◌==◌, ℕ, zero, suc, Bool, true, false, List, Option, Some, None, refl, inr, arith}
use Rattle.std.specs.Prelude.{◌-◌, ◌≤◌, ◌<◌, [], ◌⊎◌, min, replicate, is_some, Result, Ok, Err, ⊤}
use Rattle.std.specs.Str.{bytes_eq}
use Rattle.std.proofs.lemmas.Bool.{cond_both}
use Rattle.std.proofs.lemmas.List.Elements.{All-replicate}
use Rattle.ckd_types.specs.declared.channel.Ccw.{Ccw}
use Rattle.ckd_types.specs.declared.channel.Note.TheVariants.{Plain}
use Rattle.ckd_types.specs.declared.command.Command.{Command}
use Rattle.ckd_types.specs.declared.command.Command.TheVariants as commands
use Rattle.ckd_types.specs.declared.command.ReadArea.{ReadArea}
use Rattle.ckd_types.specs.declared.command.SearchArea.{SearchArea}
use Rattle.ckd_types.specs.declared.command.Write.{Write}
use Rattle.ckd_types.specs.declared.command.Write.TheVariants.{Data, UpdateData, KeyData, UpdateKeyData, CountKeyData, NextTrack, Zero}
use Rattle.ckd_types.specs.declared.geometry.Geometry.{Geometry}
use Rattle.ckd_types.specs.declared.parameters.Domain.{Domain}
use Rattle.ckd_types.specs.declared.record.Record.{Record}
use Rattle.ckd_types.specs.declared.record.Track.{Track}
use Rattle.ckd_types.specs.declared.sense.Sense.{Sense}
use Rattle.ckd_types.specs.declared.status.UnitStatus.{UnitStatus}
use Rattle.ckd_types.specs.Sense.{
  reject_sense,
  track_format_sense,
  end_of_cylinder_sense,
  no_record_sense,
  file_protected_sense,
  equipment_sense,
  data_check_sense,
  sense_of,
}
use Rattle.ckd_rules.specs.declared.finding.Sought.{Sought}
use Rattle.ckd_rules.specs.declared.finding.Sought.TheVariants.{Here, Onward, Nowhere}
use Rattle.ckd_rules.specs.declared.opening.Opening.{Opening}
use Rattle.ckd_rules.specs.declared.opening.Opening.TheVariants as openings
use Rattle.ckd_rules.specs.declared.order.LocalAct.{LocalAct}
use Rattle.ckd_rules.specs.declared.order.Look.{Look}
use Rattle.ckd_rules.specs.declared.order.CommandOrder.{CommandOrder}
use Rattle.ckd_rules.specs.declared.ending.Ending.{Ending}
use Rattle.ckd_rules.specs.declared.grouping.GroupFault.{GroupFault}
use Rattle.ckd_types.specs.Fixed.{Fixed}
use Rattle.ckd_types.specs.Mask.{permits_write, permits_seek}
use Rattle.ckd_rules.specs.declared.stance.After.{After}
use Rattle.ckd_rules.specs.declared.stance.After.TheVariants.{Other, Wrote}
use Rattle.ckd_rules.specs.declared.stance.Stance.{Stance}
use Rattle.ckd_rules.specs.declared.turned.Turned.{Turned}
use Rattle.ckd_rules.specs.declared.turned.Turned.TheVariants as turns
use Rattle.ckd_rules.specs.Checks.{mask_fault, masked_order, order_by, order_of, permitted_order, placed_order, is_within, first_track, decoded_order}
use Rattle.ckd_rules.specs.Control.{located}
use Rattle.ckd_rules.specs.Ending.{Outcome, check, refused}
use Rattle.ckd_rules.specs.Ends.{end_at_word}
use Rattle.ckd_rules.specs.Finding.{find_from, search_missed}
use Rattle.ckd_rules.specs.Formats.{format_behind, zero_on}
use Rattle.ckd_rules.specs.Look.{look_on}
use Rattle.ckd_rules.specs.Looked.{Looked}
use Rattle.ckd_rules.specs.Opening.{look_from, opening_with, opening_of}
use Rattle.ckd_rules.specs.Reads.{read_sought, status_of}
use Rattle.ckd_rules.specs.Searches.{search_sought}
use Rattle.ckd_rules.specs.Updates.{update_data, update_record, update_sought}
use Rattle.ckd_rules.specs.Walk as W
use Rattle.ckd_rules.specs.Walk.{Walked, walk, walked}
use Rattle.ckd_rules.specs.Writes.{write_on}
use Rattle.hex.specs.Hex.{IsBytes}
use Rattle.plain_defs.specs.Acts.{act_outcome}
use Rattle.plain_defs.specs.Effect.{acted_by, effect_by, effect_on}
use Rattle.plain_defs.specs.PlainState.{PathsState, PlainState}
use Rattle.report_reading.specs.Ranges.{AreBytes}
use Rattle.audit_laws.proofs.own.EndLines.{TidyBy}
use Rattle.audit_laws.proofs.own.GivenBytes.{IsByte, as_bytes}

pub sense_bytes : (first second seventh : ℕ) → first < 256 → second < 256 → seventh < 256 → AreBytes 32 (sense_of first second seventh).bytes
sense_bytes first second seventh a b c = record { count = refl; each = each } where
  each : IsBytes (sense_of first second seventh).bytes
  each zero = a
  each (suc zero) = b
  each (suc (suc zero)) = omega arith
  each (suc (suc (suc zero))) = omega arith
  each (suc (suc (suc (suc zero)))) = omega arith
  each (suc (suc (suc (suc (suc zero))))) = omega arith
  each (suc (suc (suc (suc (suc (suc zero)))))) = omega arith
  each (suc (suc (suc (suc (suc (suc (suc zero))))))) = c
  each (suc (suc (suc (suc (suc (suc (suc (suc i)))))))) = as_bytes (replicate 24 0) (All-replicate IsByte 24 0 (omega arith)) i

-- a sense that a rule gives
abbrev pub IsRule : Sense → Type 0
IsRule sense = (bytes_eq sense.bytes equipment_sense.bytes ≡ false) × (bytes_eq sense.bytes data_check_sense.bytes ≡ false) × AreBytes 32 sense.bytes

abbrev pub IsGood : UnitStatus → Type 0
IsGood status = ((check.0 == status.0) ≡ false) × (status.0 < 256)

abbrev pub FitsBy : Ccw → Ending → Option Sense → Type 0
FitsBy c e (Some sense) = (e.status ≡ check) × (e.residual ≡ c.count) × (e.note ≡ Plain) × (e.sent ≡ []) × IsRule sense
FitsBy c e None = IsGood e.status × (e.residual ≤ c.count)

abbrev pub Fits : Ccw → Ending → Type 0
Fits c e = FitsBy c e e.sense

rejects : (n : ℕ) → n < 256 → IsRule (reject_sense n)
rejects n few = (refl, refl, sense_bytes 0x80 0 n (omega arith) (omega arith) few)

protected_rule : IsRule file_protected_sense
protected_rule = (refl, refl, sense_bytes 0 4 0 (omega arith) (omega arith) (omega arith))

cylinder_rule : IsRule end_of_cylinder_sense
cylinder_rule = (refl, refl, sense_bytes 0 0x20 0 (omega arith) (omega arith) (omega arith))

no_record_rule : IsRule no_record_sense
no_record_rule = (refl, refl, sense_bytes 0 8 0 (omega arith) (omega arith) (omega arith))

format_rule : IsRule track_format_sense
format_rule = (refl, refl, sense_bytes 0 0x40 0 (omega arith) (omega arith) (omega arith))

refused_fits : (s : Stance) (c : Ccw) (sense : Sense) → IsRule sense → Fits c (refused s c sense).ending
refused_fits s c sense rule = (refl, refl, refl, refl, rule)

status_good : (body : List ℕ) → IsGood (status_of body)
status_good body = grind arith

-- at most its count is left
ended_fits : (c : Ccw) (area : ℕ) (status : UnitStatus) → IsGood status → IsGood status × (c.count - min c.count area ≤ c.count)
ended_fits c area status is = grind arith

-- Where a record isn't found

abbrev SoughtFits : Sought → Type 0
SoughtFits (Nowhere sense) = IsRule sense
SoughtFits (Here i passes) = ⊤
SoughtFits (Onward t) = ⊤

abbrev MoveFits : Result ℕ Sense → Type 0
MoveFits (Ok t) = ⊤
MoveFits (Err sense) = IsRule sense

missed_fits : (b : Bool) (s : Stance) (again : Option ℕ) → SoughtFits (search_missed b s again)
missed_fits b s again = grind (arith, no_record_rule, protected_rule, cylinder_rule)

found_fits : (b : Bool) (s : Stance) (o again : Option ℕ) → SoughtFits (find_from b s o again)
found_fits b s o again = grind (arith, missed_fits)

-- A look at a track

abbrev pub TurnFits : Ccw → Turned → Type 0
TurnFits c (turns.Ended e) = Fits c e
TurnFits c turns.Onward = ⊤
TurnFits c (turns.Edits edit e) = Fits c e

abbrev pub LookFits : Ccw → Looked → Type 0
LookFits c l = TurnFits c l.turned

search_fits : (t : Track) (area : SearchArea) (s : Stance) (c : Ccw) (k : Sought) → SoughtFits k → LookFits c (search_sought t area s c k)
search_fits t area s c k h = grind (arith, ended_fits, refused_fits)

reads_fit : (t : Track) (area : ReadArea) (s : Stance) (c : Ccw) (k : Sought) → SoughtFits k → LookFits c (read_sought t area s c k)
reads_fit t area s c k h = grind (arith, ended_fits, refused_fits, status_good)

data_fits : (d : Bool) (s : Stance) (c : Ccw) (i : ℕ) (r : Record) → LookFits c (update_data d s c i r)
data_fits d s c i r = grind (arith, cond_both, ended_fits, status_good)

record_fits : (key d : Bool) (s : Stance) (c : Ccw) (i : ℕ) (r : Record) → LookFits c (update_record key d s c i r)
record_fits key d s c i r = grind (arith, ended_fits, status_good, data_fits)

updates_fit : (key d : Bool) (records : List Record) (s : Stance) (c : Ccw) (k : Sought) → SoughtFits k → LookFits c (update_sought key d records s c k)
updates_fit key d records s c k h = grind (arith, record_fits, refused_fits)

formats_fit : (g : Geometry) (records : List Record) (after : After) (s : Stance) (c : Ccw) (i : ℕ) → LookFits c (format_behind g records after s c i)
formats_fit g records after s c i = grind (arith, cond_both, ended_fits, refused_fits, format_rule)

zeros_fit : (s : Stance) (c : Ccw) → LookFits c (zero_on s c)
zeros_fit s c = grind (arith, cond_both, ended_fits, refused_fits, format_rule)

writes_fit : (g : Geometry) (t : Track) (s : Stance) (c : Ccw) (w : Write) → LookFits c (write_on g t s c w)
writes_fit g t s c Data = updates_fit false (is_some s.domain) t.records s c _ (found_fits (is_some s.domain) s _ _)
writes_fit g t s c UpdateData = updates_fit false true t.records s c _ (found_fits true s _ _)
writes_fit g t s c KeyData = updates_fit true (is_some s.domain) t.records s c _ (found_fits (is_some s.domain) s _ _)
writes_fit g t s c UpdateKeyData = updates_fit true true t.records s c _ (found_fits true s _ _)
writes_fit g t s c CountKeyData = formats_fit g t.records Wrote s c _
writes_fit g t s c NextTrack = formats_fit g t.records Other s c 0
writes_fit g t s c Zero = zeros_fit s c

found_record_fits : (s : Stance) (c : Ccw) (d : Domain) (o : Option ℕ) → Fits c (located s c d o).ending
found_record_fits s c d o = grind (arith, ended_fits, refused_fits, no_record_rule)

pub look_fits : (g : Geometry) (t : Track) (s : Stance) (c : Ccw) (look : Look) → LookFits c (look_on g t s c look)
look_fits g t s c look = grind (arith, found_record_fits, search_fits, found_fits, reads_fit, writes_fit)

-- From track to track: but for one that looks at more tracks than there are

abbrev pub WalkFits : Ccw → Outcome → Type 0
WalkFits c o = Fits c o.ending ⊎ ((o.ending.sense ≡ Some equipment_sense) × (o.ending.status ≡ check) × (o.ending.residual ≡ c.count))

walk_fits : (n : ℕ) (g : Geometry) (tracks : ℕ → Track) (start : Stance) (c : Ccw) (look : Look) (s : Stance) →
    WalkFits c (walk n g tracks start c look s).outcome
unfolding W.walk
walk_fits zero g tracks start c look s = inr (refl, refl, refl)
walk_fits (suc n) g tracks start c look s = grind (arith, walk_fits n g tracks start c look, look_fits)

-- How a command begins

abbrev OrderFits : Result CommandOrder Sense → Type 0
OrderFits (Ok order) = ⊤
OrderFits (Err sense) = IsRule sense

placed_fits : (s : Stance) (order : CommandOrder) → OrderFits (placed_order s order)
placed_fits s order = cond_both (is_within s.extent (first_track s order)) (Ok order) (Err file_protected_sense) OrderFits (λ _. tt) (λ _. protected_rule)

abbrev FaultFits : Option Sense → Type 0
FaultFits (Some sense) = IsRule sense
FaultFits None = ⊤

mask_fits : (mask : ℕ) (command : Command) → FaultFits (mask_fault mask command)
mask_fits mask (commands.Control k) = cond_both (permits_seek mask k) None (Some file_protected_sense) FaultFits (λ _. tt) (λ _. protected_rule)
mask_fits mask (commands.Write w) = cond_both (permits_write mask w) None (Some (reject_sense 2)) FaultFits (λ _. tt) (λ _. rejects 2 (omega arith))
mask_fits mask command = tt

masked_fits : (s : Stance) (order : CommandOrder) (o : Option Sense) → FaultFits o → OrderFits (masked_order s order o)
masked_fits s order o h = grind (arith, placed_fits)

permitted_fits : (s : Stance) (command : Command) (o : Option CommandOrder) → OrderFits (permitted_order s command o)
permitted_fits s command None = rejects 4 (omega arith)
permitted_fits s command (Some order) = masked_fits s order (mask_fault s.mask command) (mask_fits s.mask command)

order_fits : (f : Fixed) (s : Stance) (c : Ccw) (o : Option Command) → OrderFits (order_by f s c o)
order_fits f s c None = rejects 1 (omega arith)
order_fits f s c (Some command) =
    grind (arith, cond_both, rejects 2 (omega arith), rejects 3 (omega arith), permitted_fits s command (decoded_order f s c command))

abbrev pub OpeningFits : Ccw → Opening → Type 0
OpeningFits c (openings.Over e) = Fits c e
OpeningFits c (openings.Looks look) = ⊤
OpeningFits c (openings.Asks act) = ⊤

look_from_fits : (s : Stance) (c : Ccw) (look : Look) → OpeningFits c (look_from s c look).opening
look_from_fits s c look = grind (arith, refused_fits, cylinder_rule, protected_rule)

opened_fits : (s : Stance) (c : Ccw) (r : Result CommandOrder Sense) → OrderFits r → OpeningFits c (opening_with s c r).opening
opened_fits s c r h = grind (arith, refused_fits, ended_fits, look_from_fits)

pub opening_fits : (f : Fixed) (s : Stance) (c : Ccw) → OpeningFits c (opening_of f s c).opening
opening_fits f s c = opened_fits s c (order_of f s c) (order_fits f s c _)

-- The whole effect

done_fits : (s : Stance) (c : Ccw) (bytes : List ℕ) (act : LocalAct) → Fits c (act_outcome s c bytes act).ending
done_fits s c bytes act = grind (arith, ended_fits)

pub act_fits : (f : Fixed) (paths : PathsState) (path : ℕ) (s : Stance) (c : Ccw) (act : LocalAct) (o : Option GroupFault) →
    Fits c (acted_by f paths path s c act o).outcome.ending
act_fits f paths path s c act (Some fault) = refused_fits s c (reject_sense 4) (rejects 4 (omega arith))
act_fits f paths path s c act None = done_fits s c _ act

effect_fits : (f : Fixed) (paths : PathsState) (tracks : ℕ → Track) (path : ℕ) (start : Stance) (c : Ccw) (s : Stance) (o : Opening) → OpeningFits c o →
    WalkFits c (effect_by f paths tracks path start c s o).outcome
effect_fits f paths tracks path start c s o h = grind (arith, walk_fits, act_fits)

pub outcome_fits : (f : Fixed) (state : PlainState) (path : ℕ) (s : Stance) (c : Ccw) → WalkFits c (effect_on f state path s c).outcome
outcome_fits f state path s c = grind (arith, effect_fits, opening_fits)

-- Its end

-- an end of the plain device, of a command that ends before it has looked at more tracks than there are
pub end_is_tidy : (i : ℕ) (f : Fixed) (state : PlainState) (path : ℕ) (s : Stance) (c : Ccw) →
    ((end_at_word i c (effect_on f state path s c).outcome).sense ≡ Some equipment_sense → ⊥) →
    TidyBy c (end_at_word i c (effect_on f state path s c).outcome) (end_at_word i c (effect_on f state path s c).outcome).sense
end_is_tidy i f state path s c few = grind (arith, outcome_fits)
