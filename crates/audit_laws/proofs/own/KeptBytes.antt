-- A plain device whose programs give bytes keeps bytes: on its volume, on the tracks that loose ones go back to, and of its paths. So each of their
-- commands sends bytes.
use Rattle.std.proofs.Common.{get_or, arith, ◌≡◌, ◌-◌, ◌==◌, ◌++◌, ◌*◌, zero, suc, ℕ, Bool, true, false, List, [], ◌∷◌, length, Option, Some, None, refl, sym, subst, inl, inr, if◌then◌else◌}
use Rattle.std.specs.Prelude.{◌⊎◌, All, IfSome, not}
use Rattle.std.specs.List.{range_with_len}
use Rattle.std.proofs.lemmas.List.Elements.{All-map, All-filter, All-head, All-nil, All-push, All-set, All-tail}
use Rattle.hex.specs.Hex.{IsBytes}
use Rattle.ckd_types.specs.declared.channel.Ccw.{Ccw}
use Rattle.ckd_types.specs.declared.channel.CommandEnd.{CommandEnd}
use Rattle.ckd_types.specs.declared.geometry.Geometry.{Geometry}
use Rattle.ckd_types.specs.declared.record.Track.{Track}
use Rattle.ckd_types.specs.declared.sense.Sense.{Sense}
use Rattle.ckd_types.specs.Ccw.{ccw_at}
use Rattle.ckd_types.specs.Edit.{apply_edit}
use Rattle.ckd_types.specs.Fixed.{Fixed}
use Rattle.ckd_types.specs.Sense.{data_check_sense, equipment_sense, zero_sense}
use Rattle.ckd_types.specs.Track.{empty_track}
use Rattle.ckd_types.specs.Volume.{empty_volume, track_in}
use Rattle.ckd_rules.specs.declared.grouping.GroupFault.{GroupFault}
use Rattle.ckd_rules.specs.declared.opening.Opening.{Opening}
use Rattle.ckd_rules.specs.declared.opening.Opening.TheVariants as openings
use Rattle.ckd_rules.specs.declared.order.LocalAct.{LocalAct}
use Rattle.ckd_rules.specs.declared.stance.Stance.{Stance}
use Rattle.ckd_rules.specs.Opening.{opening_of}
use Rattle.ckd_rules.specs.Walk.{TrackEdit}
use Rattle.plain_defs.specs.declared.journal.Act.{Act}
use Rattle.plain_defs.specs.declared.journal.Act.TheVariants.{CfwLost, Harden, Loosen}
use Rattle.plain_defs.specs.declared.journal.Acted.{Acted}
use Rattle.plain_defs.specs.declared.journal.How.{How}
use Rattle.plain_defs.specs.declared.journal.How.TheVariants as hows
use Rattle.plain_defs.specs.declared.journal.Item.{Item}
use Rattle.plain_defs.specs.declared.journal.Item.TheVariants as items
use Rattle.plain_defs.specs.Acts.{act_fault}
use Rattle.plain_defs.specs.Effect.{Effect, acted_by, behind_effect, edited_volume, effect_by, effect_on}
use Rattle.plain_defs.specs.Entry.{ProgramEntry}
use Rattle.plain_defs.specs.History.{History, IsPlain, plain_of}
use Rattle.plain_defs.specs.Journal.{Plans, checked_paths, effects_of, entry_part, last_sense, program_of, replay, replay_item}
use Rattle.plain_defs.specs.Legal.{EndsChecked, HasEnds, IsLegalFrom, IsLegalItem}
use Rattle.plain_defs.specs.Loose.{act_done, lost_by_power, power_off, restored}
use Rattle.plain_defs.specs.PlainState.{LooseTrack, PathsState, PlainState, empty_state, fresh_paths, with_sense}
use Rattle.plain_defs.specs.Program as R
use Rattle.plain_defs.specs.Program.{Part, acted_at, acts_at, first_part, part_of, starts_with_sense, command_run, stepped_at, with_acts}
use Rattle.plain_defs.specs.Whole.{GivesBytes}
use Rattle.device_laws.proofs.KeptHistories.{last_is}
use Rattle.report_reading.specs.Ranges.{IsPath}
use Rattle.audit_laws.proofs.own.AnsweredBytes.{PathsKeep, act_sends, sensed_keeps}
use Rattle.audit_laws.proofs.own.EditedBytes.{walk_holds}
use Rattle.audit_laws.proofs.own.GivenBytes.{IsByte, as_bytes, at_or, no_bytes}
use Rattle.audit_laws.proofs.own.KeptSenses.{SenseIn, check_sense_in, effect_senses, walk_sense, zero_in}
use Rattle.audit_laws.proofs.own.NamedGroups.{OpeningIn, effect_named, reset_named}
use Rattle.audit_laws.proofs.own.NamedOpenings.{opening_named}
use Rattle.audit_laws.proofs.own.SentBytes.{TrackHolds, empty_holds}
use Rattle.audit_laws.proofs.own.Tidy.{outcome_fits}

abbrev pub FirmHolds : LooseTrack → Type 0
FirmHolds l = TrackHolds l.firm

pub record KeepsBytes (state : PlainState) : Type 0 where
  pub paths : PathsKeep state.paths
  pub volume : All TrackHolds state.volume
  pub loose : All FirmHolds state.loose

-- An empty device

fresh_keeps : PathsKeep fresh_paths
fresh_keeps = search (arith, zero_in)

volume_holds : (cylinders : ℕ) → All TrackHolds (empty_volume cylinders)
volume_holds cylinders =
    All-map TrackHolds empty_track (range_with_len 0 (cylinders * 15)) (λ k d lt. empty_holds (get_or (range_with_len 0 (cylinders * 15)) k d))

pub empty_keeps : (g : Geometry) (cylinders : ℕ) → KeepsBytes (empty_state g cylinders)
empty_keeps g cylinders = record { paths = fresh_keeps; volume = volume_holds cylinders; loose = All-nil FirmHolds }

track_holds : (v : List Track) → All TrackHolds v → (t : ℕ) → TrackHolds (track_in v t)
track_holds v all t = at_or TrackHolds (empty_track t) (empty_holds t) v t all

-- A command

abbrev EffectHolds : (ℕ → Track) → Effect → Type 0
EffectHolds tracks e = All IsByte e.outcome.ending.sent × IfSome e.edit (λ x. TrackHolds (apply_edit x.edit (tracks x.track)))

module _ (f : Fixed) (p : PathsState) (k : PathsKeep p) (tracks : ℕ → Track) (hold : (t : ℕ) → TrackHolds (tracks t)) (path : ℕ) (start : Stance) (c : Ccw)
    (gives : GivesBytes c) (s : Stance) where
  acted_holds : (act : LocalAct) (o : Option GroupFault) → EffectHolds tracks (acted_by f p path start c act o)
  acted_holds act o = grind (arith, no_bytes, act_sends)

  effect_holds : (o : Opening) → OpeningIn o → EffectHolds tracks (effect_by f p tracks path start c s o)
  effect_holds (openings.Over e) h = (subst (All IsByte) (sym h) no_bytes, tt)
  effect_holds (openings.Looks look) h = walk_holds tracks hold (f.cylinders * 15) f.geometry start c gives look s
  effect_holds (openings.Asks act) h = acted_holds act (act_fault p path act)

edit_holds : (v : List Track) (o : Option TrackEdit) → All TrackHolds v → IfSome o (λ x. TrackHolds (apply_edit x.edit (track_in v x.track))) →
    All TrackHolds (edited_volume v o)
edit_holds v (Some e) all h = All-set TrackHolds v e.track (apply_edit e.edit (track_in v e.track)) h all
edit_holds v None all h = all

module _ (f : Fixed) (state : PlainState) (path : ℕ) (s : Stance) (c : Ccw) (gives : GivesBytes c) (k : KeepsBytes state) where
  holds : EffectHolds (track_in state.volume) (effect_on f state path s c)
  holds =
      effect_holds f state.paths k.paths (track_in state.volume) (track_holds state.volume k.volume) path s c gives (opening_of f s c).stance
      (opening_of f s c).opening (opening_named f s c gives)

  pub command_sends : IsBytes (effect_on f state path s c).outcome.ending.sent
  command_sends = as_bytes (effect_on f state path s c).outcome.ending.sent holds.0

  pub command_keeps : IsPath path → KeepsBytes (behind_effect state (effect_on f state path s c))
  command_keeps is =
      let e = effect_on f state path s c in
      let o = opening_of f s c in
      let named = effect_named state.paths path is k.paths.named f (track_in state.volume) s c o.stance o.opening (opening_named f s c gives) in
      let sense = walk_sense c e.outcome (outcome_fits f state path s c) in
      let senses = effect_senses state.paths path k.paths.senses f (track_in state.volume) s c o.stance o.opening sense in
      record { paths = record { named = named; senses = senses }; volume = edit_holds state.volume e.edit k.volume holds.1; loose = k.loose }

-- Acts of cache fast write, and a loss of power

all_restored : (loose : List LooseTrack) (v : List Track) → All FirmHolds loose → All TrackHolds v → All TrackHolds (restored loose v)
all_restored [] v firm all = all
all_restored (l ∷ loose) v firm all =
    All-set TrackHolds (restored loose v) l.track l.firm (All-head FirmHolds l loose firm)
    (all_restored loose v (All-tail FirmHolds l loose firm) all)

act_keeps : (state : PlainState) (act : Act) → KeepsBytes state → KeepsBytes (act_done state act)
act_keeps state (Loosen t) k =
    let all = All-push FirmHolds state.loose (record { track = t; firm = track_in state.volume t }) k.loose (track_holds state.volume k.volume t) in
    record { paths = k.paths; volume = k.volume; loose = all }
act_keeps state (Harden t) k =
    let all = All-filter (λ (l : LooseTrack). not (l.track == t)) FirmHolds state.loose k.loose in
    record { paths = k.paths; volume = k.volume; loose = all }
act_keeps state CfwLost k = record { paths = k.paths; volume = all_restored state.loose state.volume k.loose k.volume; loose = All-nil FirmHolds }

acts_keep : (acts : List Act) (p : Part) → KeepsBytes p.state → KeepsBytes (with_acts acts p).state
acts_keep [] p k = k
acts_keep (act ∷ acts) p k = acts_keep acts _ (act_keeps p.state act k)

lost_keeps : (state : PlainState) (loose : List LooseTrack) → KeepsBytes state → KeepsBytes (lost_by_power state loose)
lost_keeps state [] k = k
lost_keeps state (l ∷ loose) k = act_keeps state CfwLost k

power_keeps : (state : PlainState) → KeepsBytes state → KeepsBytes (power_off state)
power_keeps state k = let lost = lost_keeps state state.loose k in (search (arith, fresh_keeps))

-- Programs

module _ (path : ℕ) (is : IsPath path) (ccws : List Ccw) (gives : (i : ℕ) → GivesBytes (ccw_at ccws i)) where
  begun_if : (b : Bool) (p : PathsState) → PathsKeep p → PathsKeep (if b then p else with_sense p path (Some zero_sense))
  begun_if true p k = k
  begun_if false p k = sensed_keeps p path (Some zero_sense) zero_in k

  at_acts : (acts : List Acted) (p : Part) (o : Option ℕ) → KeepsBytes p.state → KeepsBytes (acted_at acts p o).state
  at_acts acts p o k = grind (arith, acts_keep)

  stepped_keeps : (p : Part) (o : Option ℕ) → KeepsBytes p.state → KeepsBytes (stepped_at path ccws p o).state
  stepped_keeps p (Some i) k = command_keeps p.fixed p.state path p.stance (ccw_at ccws i) (gives i) k is
  stepped_keeps p None k = k

  part_keeps : (state : PlainState) (acts : List Acted) (n : ℕ) → KeepsBytes state → KeepsBytes (part_of state path ccws acts n).state
  unfolding R.part_of
  part_keeps state acts zero k = search (arith, at_acts, begun_if)
  part_keeps state acts (suc n) k =
      let p = part_of state path ccws acts n in
      at_acts acts (command_run path ccws p) (command_run path ccws p).next (stepped_keeps p p.next (part_keeps state acts n k))

-- Journals

module _ (plans : Plans) (gives : (path ordinal i : ℕ) → GivesBytes (ccw_at (program_of plans path ordinal) i)) where
  check_in : (o : Option Sense) → (o ≡ Some equipment_sense) ⊎ (o ≡ Some data_check_sense) → IfSome o SenseIn
  check_in o (inl is) = subst (λ (x : Option Sense). IfSome x SenseIn) (sym is) (check_sense_in equipment_sense (inl refl))
  check_in o (inr is) = subst (λ (x : Option Sense). IfSome x SenseIn) (sym is) (check_sense_in data_check_sense (inr refl))

  last_in : (p : Part) (ccws : List Ccw) (ends : List CommandEnd) → EndsChecked p ccws ends → IfSome (last_sense ends) SenseIn
  last_in p ccws ends h = grind (arith, last_is, check_in)

  checked_keeps : (state : PlainState) (p : PathsState) (e : ProgramEntry) (how : How) → HasEnds plans state e how → PathsKeep p →
      PathsKeep (checked_paths p e how)
  checked_keeps state p e hows.Checked h k =
      sensed_keeps p e.path (last_sense e.ends)
      (last_in (entry_part plans state e (length e.ends - 1)) (program_of plans e.path e.ordinal) e.ends h) k
  checked_keeps state p e how h k = k

  item_keeps : (state : PlainState) (earlier : List Item) (x : Item) (later : List Item) → IsLegalItem plans state earlier x later →
      KeepsBytes state → KeepsBytes (replay_item plans state x)
  item_keeps state earlier (items.Program e) later l k =
      let ran = part_keeps e.path (record { least = l.0.started.least; most = l.0.started.most }) (program_of plans e.path e.ordinal)
      (gives e.path e.ordinal) state e.acts (effects_of e.how e.ends) k
      in
      record { paths = checked_keeps state _ e e.how l.0.ends ran.paths; volume = ran.volume; loose = ran.loose }
  item_keeps state earlier (items.Reset path) later l k =
      let senses = All-set SenseIn state.paths.senses (path - 1) zero_sense zero_in k.paths.senses in
      record { paths = record { named = reset_named state.paths path k.paths.named; senses = senses }; volume = k.volume; loose = k.loose }
  item_keeps state earlier items.Fresh later l k = record { paths = k.paths; volume = volume_holds state.cylinders; loose = All-nil FirmHolds }
  item_keeps state earlier (items.Act act) later l k = act_keeps state act k
  item_keeps state earlier items.Power later l k = power_keeps state k

  items_keep : (state : PlainState) (earlier xs : List Item) → IsLegalFrom plans state earlier xs → KeepsBytes state → KeepsBytes (replay plans state xs)
  items_keep state earlier [] l k = k
  items_keep state earlier (x ∷ xs) l k = items_keep (replay_item plans state x) (earlier ++ x ∷ []) xs l.1 (item_keeps state earlier x xs l.0 k)

  pub history_keeps : (empty : PlainState) (h : History) → IsPlain plans empty h → KeepsBytes empty → KeepsBytes (plain_of plans empty h)
  history_keeps empty h plain k = grind (arith, part_keeps, items_keep)
