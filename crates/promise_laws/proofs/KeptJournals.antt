-- What the edits that a history tells of made of each firm track of its plain device.
use Rattle.std.proofs.Common.{◌≡◌, ◌<◌, ◌*◌, ◌==◌, ℕ, zero, suc, Bool, true, false, List, [], ◌∷◌, ◌++◌, length, Option, Some, None, refl, sym, ap, subst, ◌∙◌}
use Rattle.std.proofs.lemmas.List.{append-nil, length-set}
use Rattle.std.proofs.lemmas.List.FromFn.{length-map-range_with_len}
use Rattle.ckd_types.specs.declared.channel.Ccw.{Ccw}
use Rattle.ckd_types.specs.declared.record.Track.{Track}
use Rattle.ckd_types.specs.Ccw.{ccw_at}
use Rattle.ckd_types.specs.Edit.{apply_edit}
use Rattle.ckd_types.specs.Track.{empty_track}
use Rattle.ckd_types.specs.Volume.{track_in, empty_volume}
use Rattle.ckd_rules.specs.Walk.{TrackEdit}
use Rattle.plain_defs.specs.declared.journal.Act.{Act}
use Rattle.plain_defs.specs.declared.journal.Acted.{Acted}
use Rattle.plain_defs.specs.declared.journal.Item.{Item}
use Rattle.plain_defs.specs.declared.journal.Item.TheVariants as items
use Rattle.plain_defs.specs.Acknowledged.{EditTold, told_by_edit, told_by_act, becomes_firm, acknowledged_of}
use Rattle.plain_defs.specs.Effect.{Effect, effect_on, edited_volume, behind_effect}
use Rattle.plain_defs.specs.Entry.{ProgramEntry}
use Rattle.plain_defs.specs.History.{OpenEntry, History, plain_of, state_by}
use Rattle.plain_defs.specs.Journal.{Plans, program_of, effects_of, replay, replay_item}
use Rattle.plain_defs.specs.Loose.{firm, firm_in, act_done}
use Rattle.plain_defs.specs.PlainState.{LooseTrack, PlainState}
use Rattle.plain_defs.specs.Program.{Part, first_part, acts_at, with_act, with_acts, acted_at, ended_with, stepped_at, command_run, part_of}
use Rattle.promise_laws.specs.Kept.{item_done, told_since, running_told, history_told, held_since, edited_by}
use Rattle.promise_laws.proofs.KeptTracks.{Carries, carries_on, carries_none, act_carries, power_carries, effect_carries, edited_at, on_track, stood}

-- Programs

module _ (t : ℕ) (s : PlainState) where
  -- of a part of a program that began on this device
  abbrev Told_so : Part → Type 0
  Told_so p = Carries t s p.told p.state

  act_so : (p : Part) (act : Act) → Told_so p → Told_so (with_act p act)
  act_so p act f = carries_on t s p.state (act_done p.state act) p.told (told_by_act act) f (act_carries t p.state act)

  acts_so : (acts : List Act) (p : Part) → Told_so p → Told_so (with_acts acts p)
  acts_so [] p f = f
  acts_so (act ∷ acts) p f = acts_so acts (with_act p act) (act_so p act f)

  acted_so : (acts : List Acted) (p : Part) (next : Option ℕ) → Told_so p → Told_so (acted_at acts p next)
  acted_so acts p (Some i) f = acts_so (acts_at acts (length p.ends)) p f
  acted_so acts p None f = f

  effect_so : (ccws : List Ccw) (p : Part) (i : ℕ) (e : Effect) → Told_so p → Told_so (ended_with ccws p i e)
  effect_so ccws p i e f = carries_on t s p.state (behind_effect p.state e) p.told (told_by_edit p.state e.edit) f (effect_carries t p.state e)

  module _ (path : ℕ) (ccws : List Ccw) (acts : List Acted) where
    stepped_so : (p : Part) (next : Option ℕ) → Told_so p → Told_so (stepped_at path ccws p next)
    stepped_so p (Some i) f = effect_so ccws p i (effect_on p.fixed p.state path p.stance (ccw_at ccws i)) f
    stepped_so p None f = f

    pub part_so : (k : ℕ) → Carries t s (part_of s path ccws acts k).told (part_of s path ccws acts k).state
    unfolding part_of
    part_so zero =
        let p = first_part s path ccws in
        acted_so acts p p.next (carries_none t s p.state refl refl refl refl)
    part_so (suc k) =
        let p = part_of s path ccws acts k in
        let q = command_run path ccws p in
        acted_so acts q q.next (stepped_so p p.next (part_so k))

-- Items

module _ (plans : Plans) (t : ℕ) where
  program_so : (s : PlainState) (e : ProgramEntry) → Carries t s (item_done plans s (items.Program e)) (replay_item plans s (items.Program e))
  program_so s e =
      let f = part_so t s e.path (program_of plans e.path e.ordinal) e.acts (effects_of e.how e.ends) in
      record { size = f.size; cylinders = f.cylinders; track = f.track }

  -- since the last new volume
  pub record Since (many : ℕ) (v : List Track) (told : List EditTold) (s : PlainState) : Type 0 where
    pub first : PlainState
    pub volume : first.volume ≡ v
    pub loose : first.loose ≡ []
    pub tracks : first.cylinders ≡ many
    pub carried : Carries t first told s

  since_on : (many : ℕ) (v : List Track) (told more : List EditTold) (s z : PlainState) → Since many v told s → Carries t s more z →
      Since many v (told ++ more) z
  since_on many v told more s z f g = record {
    first = f.first;
    volume = f.volume;
    loose = f.loose;
    tracks = f.tracks;
    carried = carries_on t f.first s z told more f.carried g;
  }

  since_fresh : (many : ℕ) (v : List Track) (told : List EditTold) (s : PlainState) → Since many v told s →
      Since many (empty_volume many) [] (replay_item plans s items.Fresh)
  since_fresh many v told s f =
      let z = replay_item plans s items.Fresh in
      let size : s.cylinders ≡ many = f.carried.cylinders ∙ f.tracks in
      record { first = z; volume = ap empty_volume size; loose = refl; tracks = size; carried = carries_none t z z refl refl refl refl }

  pub items_so : (many : ℕ) (v : List Track) (told : List EditTold) (s : PlainState) (xs : List Item) → Since many v told s →
      Since many (held_since many v xs) (told_since (item_done plans) plans s told xs) (replay plans s xs)
  items_so many v told s [] f = f
  items_so many v told s (items.Fresh ∷ xs) f = items_so many (empty_volume many) [] (replay_item plans s items.Fresh) xs (since_fresh many v told s f)
  items_so many v told s (items.Program e ∷ xs) f =
      let z = replay_item plans s (items.Program e) in
      items_so many v _ z xs (since_on many v told (item_done plans s (items.Program e)) s z f (program_so s e))
  items_so many v told s (items.Reset path ∷ xs) f =
      let z = replay_item plans s (items.Reset path) in
      items_so many v _ z xs (since_on many v told [] s z f (carries_none t s z refl refl refl refl))
  items_so many v told s (items.Act act ∷ xs) f =
      let z = act_done s act in
      items_so many v _ z xs (since_on many v told (told_by_act act) s z f (act_carries t s act))
  items_so many v told s (items.Power ∷ xs) f =
      let z = replay_item plans s items.Power in
      items_so many v _ z xs (since_on many v told (item_done plans s items.Power) s z f (power_carries t s))

  running_so : (s : PlainState) (r : Option OpenEntry) → Carries t s (running_told plans s r) (state_by plans s r)
  running_so s (Some o) = part_so t s o.path (program_of plans o.path o.ordinal) o.acts (length o.ends)
  running_so s None = carries_none t s s refl refl refl refl

  pub history_so : (start : PlainState) → start.loose ≡ [] → (h : History) →
      Since start.cylinders (held_since start.cylinders start.volume h.items) (history_told (item_done plans) plans start h) (plain_of plans start h)
  history_so start none h =
      let many = start.cylinders in
      let first : Since many start.volume [] start = record {
        first = start;
        volume = refl;
        loose = none;
        tracks = refl;
        carried = carries_none t start start refl refl refl refl;
      } in
      since_on many (held_since many start.volume h.items) (told_since (item_done plans) plans start [] h.items)
      (running_told plans (replay plans start h.items) h.running) (replay plans start h.items) (plain_of plans start h)
      (items_so many start.volume [] start h.items first) (running_so (replay plans start h.items) h.running)

  -- What they made of the track

  bare_any : (s : PlainState) → s.loose ≡ [] → (b : Bool) → stood t s b ≡ track_in s.volume t
  bare_any s none true = refl
  bare_any s none false = ap (λ (l : List LooseTrack). firm_in l t (track_in s.volume t)) none

  pub track_so : (many : ℕ) (v : List Track) (told : List EditTold) (s : PlainState) → Since many v told s → t < length v →
      on_track t (acknowledged_of told) (track_in v t) ≡ firm s t
  track_so many v told s f lt =
      let x = f.first in
      let inside : t < length x.volume = subst (λ (v : List Track). t < length v) (sym f.volume) lt in
      ap (λ (v : List Track). on_track t (acknowledged_of told) (track_in v t)) (sym f.volume)
      ∙ ap (on_track t (acknowledged_of told)) (sym (bare_any x f.loose (becomes_firm t (told ++ []))))
      ∙ ap (λ (l : List EditTold). on_track t (acknowledged_of l) (stood t x (becomes_firm t (told ++ [])))) (sym (append-nil told))
      ∙ f.carried.track inside []

-- A volume with edits, one behind the other

pub length_edited : (edits : List TrackEdit) (v : List Track) → length (edited_by v edits) ≡ length v
length_edited [] v = refl
length_edited (e ∷ edits) v =
    length_edited edits (edited_volume v (Some e)) ∙ length-set v e.track (apply_edit e.edit (track_in v e.track))

module _ (t : ℕ) (s : PlainState) where
  pub edited_track : (edits : List TrackEdit) (v : List Track) → t < length v → track_in (edited_by v edits) t ≡ on_track t edits (track_in v t)
  edited_track [] v lt = refl
  edited_track (e ∷ edits) v lt =
      edited_track edits (edited_volume v (Some e))
      (subst (λ (n : ℕ). t < n) (sym (length-set v e.track (apply_edit e.edit (track_in v e.track)))) lt)
      ∙ ap (on_track t edits) (edited_at t (record s { volume = v }) e s.paths (e.track == t) refl lt)

-- What the last new volume held

module _ (n : ℕ) where
  pub held_long : (v : List Track) (xs : List Item) → length v ≡ n * 15 → length (held_since n v xs) ≡ n * 15
  held_long v [] many = many
  held_long v (items.Fresh ∷ xs) many = held_long (empty_volume n) xs (length-map-range_with_len empty_track 0 (n * 15))
  held_long v (items.Program e ∷ xs) many = held_long v xs many
  held_long v (items.Reset path ∷ xs) many = held_long v xs many
  held_long v (items.Act act ∷ xs) many = held_long v xs many
  held_long v (items.Power ∷ xs) many = held_long v xs many

  pub held_empty : (xs : List Item) → held_since n (empty_volume n) xs ≡ empty_volume n
  held_empty [] = refl
  held_empty (items.Fresh ∷ xs) = held_empty xs
  held_empty (items.Program e ∷ xs) = held_empty xs
  held_empty (items.Reset path ∷ xs) = held_empty xs
  held_empty (items.Act act ∷ xs) = held_empty xs
  held_empty (items.Power ∷ xs) = held_empty xs
