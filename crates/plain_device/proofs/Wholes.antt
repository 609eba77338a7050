-- Every step leaves a plain device whole.
use Rattle.std.proofs.Common.{
  ◌≡◌,
  ◌<◌,
  ◌≤◌,
  ◌-◌,
  ◌*◌,
  ◌==◌,
  ℕ,
  zero,
  suc,
  List,
  [],
  ◌∷◌,
  Option,
  Some,
  None,
  Bool,
  true,
  false,
  cond,
  length,
  get_or,
  set,
  map,
  refl,
  arith,
  sym,
  ap,
  subst,
  ◌∙◌,
  inl,
  inr,
}
use Rattle.std.specs.Prelude.{◌⊎◌, ⊤, All, not}
use Rattle.std.specs.List.{range_with_len}
use Rattle.std.proofs.lemmas.Bool.{cases_eq}
use Rattle.std.proofs.lemmas.List.{length-set, length-map, get_or-set_same, get_or-set_other}
use Rattle.std.proofs.lemmas.List.Elements.{All-nil, All-cons, All-head, All-tail, All-push, All-filter}
use Rattle.std.proofs.lemmas.List.FromFn.{get_or-map-range_with_len, length-range_with_len}
use Rattle.ckd_types.specs.declared.channel.Ccw.{Ccw}
use Rattle.ckd_types.specs.declared.geometry.Geometry.{Geometry}
use Rattle.ckd_types.specs.declared.record.Record.{Record}
use Rattle.ckd_types.specs.declared.record.Track.{Track}
use Rattle.ckd_types.specs.Edit.{apply_edit}
use Rattle.ckd_types.specs.Geometry.{cchh_of}
use Rattle.ckd_types.specs.Track.{IsRecord, HasZero, Fits, empty_track, empty_zero}
use Rattle.ckd_types.specs.Volume.{IsVolume, track_in, empty_volume}
use Rattle.ckd_rules.specs.declared.order.Look.{Look}
use Rattle.ckd_rules.specs.declared.stance.Stance.{Stance}
use Rattle.ckd_rules.specs.declared.turned.Turned.{Turned}
use Rattle.ckd_rules.specs.declared.turned.Turned.TheVariants.{Ended, Onward, Edits}
use Rattle.ckd_rules.specs.Facts.{Suits}
use Rattle.ckd_rules.specs.Look.{look_on}
use Rattle.ckd_rules.specs.Walk.{TrackEdit, walked, walk}
use Rattle.ckd_rules.specs.declared.grouping.GroupFault.{GroupFault}
use Rattle.ckd_rules.specs.declared.opening.Opening.{Opening}
use Rattle.ckd_rules.specs.declared.opening.Opening.TheVariants.{Over, Looks, Asks}
use Rattle.ckd_rules.specs.declared.order.LocalAct.{LocalAct}
use Rattle.ckd_rules.specs.declared.order.LocalAct.TheVariants as acts
use Rattle.ckd_rules.specs.Grouping.{establishes, resigns, asks_multipath, disbanded, paths_set}
use Rattle.ckd_rules.specs.Opening.{opening_of}
use Rattle.ckd_types.specs.declared.paths.GroupId.{GroupId}
use Rattle.ckd_types.specs.declared.paths.PathState.{PathState}
use Rattle.ckd_types.specs.declared.paths.PathState.TheVariants.{Reset, Ungrouped, Grouped}
use Rattle.ckd_types.specs.declared.sense.Sense.{Sense}
use Rattle.ckd_types.specs.Fixed.{Fixed}
use Rattle.ckd_types.specs.Sense.{zero_sense, reject_sense}
use Rattle.plain_defs.specs.declared.journal.Act.{Act}
use Rattle.plain_defs.specs.declared.journal.Act.TheVariants.{Loosen, Harden, CfwLost}
use Rattle.plain_defs.specs.Acts.{act_fault, reserved, paths_after}
use Rattle.plain_defs.specs.Effect.{walked_look, acted_by, effect_by, effect_on, edited_volume, behind_effect}
use Rattle.plain_defs.specs.Loose.{restored, act_done, lost_by_power, power_off}
use Rattle.plain_defs.specs.PlainState.{PathsState, LooseTrack, PlainState, empty_state, with_sense, reset_path}
use Rattle.plain_device.specs.Volume.{IsActOn}
use Rattle.plain_defs.specs.Whole.{IsFirm, IsWhole, GivesBytes}
use Rattle.plain_device.proofs.Suiting.{SuitsTurn, look_suits}
use Rattle.ckd_write.specs.Ranges.{HasRanges}
use Rattle.ckd_write.proofs.Fitting.{edited_fits}

-- The edit of a walk

some_records : (rs : List Record) → HasZero rs → 0 < length rs
some_records [] first = absurd first
some_records (r ∷ rs) first = omega arith

-- it suits the track that it is of, where that fits
abbrev pub IsSuiting : Geometry → (ℕ → Track) → Option TrackEdit → Type 0
IsSuiting g tracks None = ⊤
IsSuiting g tracks (Some e) = Fits g (tracks e.track) → Suits g (tracks e.track).records e.edit × HasRanges e.edit

module _ (g : Geometry) (tracks : ℕ → Track) (start : Stance) (c : Ccw) (bytes : GivesBytes c) (look : Look) where
  walked_suits : (n : ℕ) (s z : Stance) (turned : Turned)
      → (Fits g (tracks s.track) → SuitsTurn g (tracks s.track).records turned)
      → ((z : Stance) → IsSuiting g tracks (walk n g tracks start c look z).edit)
      → IsSuiting g tracks (walked s.track (walk n g tracks start c look) z turned).edit
  walked_suits n s z (Ended e) suits rest = tt
  walked_suits n s z Onward suits rest = rest z
  walked_suits n s z (Edits edit e) suits rest = suits

  pub walk_suits : (n : ℕ) (s : Stance) → IsSuiting g tracks (walk n g tracks start c look s).edit
  unfolding walk
  walk_suits zero s = tt
  walk_suits (suc n) s =
      walked_suits n s (look_on g (tracks s.track) s c look).stance (look_on g (tracks s.track) s c look).turned
      (λ fits. look_suits g s c bytes (tracks s.track) (some_records (tracks s.track).records fits.zero) look)
      (walk_suits n)

-- A volume

-- another track in a place, that fits there
volume_set : (g : Geometry) (cylinders : ℕ) (v : List Track) (t : ℕ) (x : Track)
    → (t < cylinders * 15 → (x.home ≡ cchh_of t) × Fits g x) → IsVolume g cylinders v → IsVolume g cylinders (set v t x)
volume_set g cylinders v t x good is = record { tracks = length-set v t x ∙ is.tracks; homes = homes; fits = fits }
  where
    at : (u : ℕ) → u < cylinders * 15 → (t ≡ u) ⊎ (t ≡ u → ⊥)
        → ((track_in (set v t x) u).home ≡ cchh_of u) × Fits g (track_in (set v t x) u)
    at u inside (inl same) =
        let many = is.tracks in
        let here : track_in (set v t x) u ≡ x = ap (λ (n : ℕ). get_or (set v t x) n (empty_track u)) (sym same)
        ∙ get_or-set_same v t x (empty_track u) (omega (arith, inside, many, same)) in
        let both = good (omega (arith, inside, same)) in
        (ap (λ (y : Track). y.home) here ∙ both.0 ∙ ap cchh_of same, subst (Fits g) (sym here) both.1)
    at u inside (inr other) =
        let here : track_in (set v t x) u ≡ track_in v u =
        get_or-set_other v t u x (empty_track u) (λ same. other (sym same)) in
        (ap (λ (y : Track). y.home) here ∙ is.homes u inside, subst (Fits g) (sym here) (is.fits u inside))

    homes : (u : ℕ) → u < cylinders * 15 → (track_in (set v t x) u).home ≡ cchh_of u
    homes u inside = (at u inside (cases_eq t u)).0

    fits : (u : ℕ) → u < cylinders * 15 → Fits g (track_in (set v t x) u)
    fits u inside = (at u inside (cases_eq t u)).1

volume_edited : (g : Geometry) (cylinders : ℕ) (v : List Track) (edit : Option TrackEdit) → IsVolume g cylinders v
    → IsSuiting g (track_in v) edit → IsVolume g cylinders (edited_volume v edit)
volume_edited g cylinders v None is suits = is
volume_edited g cylinders v (Some e) is suits =
    volume_set g cylinders v e.track (apply_edit e.edit (track_in v e.track))
    (λ inside. let both = suits (is.fits e.track inside) in
    (is.homes e.track inside, edited_fits g (track_in v e.track) e.edit (is.fits e.track inside) both.0 both.1)) is

pub volume_empty : (g : Geometry) (cylinders : ℕ) → cylinders ≤ 4369 → IsVolume g cylinders (empty_volume cylinders)
volume_empty g cylinders most = record {
  tracks = many;
  homes =
      λ t inside. ap (λ (x : Track). x.home) (here t inside);
  fits =
      λ t inside. subst (Fits g) (sym (here t inside)) (fits t inside);
} where
  many : length (empty_volume cylinders) ≡ cylinders * 15
  many = length-map (range_with_len 0 (cylinders * 15)) empty_track ∙ length-range_with_len 0 (cylinders * 15)

  here : (t : ℕ) → t < cylinders * 15 → track_in (empty_volume cylinders) t ≡ empty_track t
  here t inside = get_or-map-range_with_len empty_track 0 (cylinders * 15) t t (empty_track t) inside (omega arith)

  fits : (t : ℕ) → t < cylinders * 15 → Fits g (empty_track t)
  fits t inside = record {
    home = record { cc = omega (arith, inside, most); hh = omega arith };
    zero = (refl, refl);
    records = All-cons IsRecord (empty_zero t) [] (record {
      cchh = record { cc = omega (arith, inside, most); hh = omega arith };
      number = omega arith;
      key =
          omega arith;
      body = omega arith;
    }) (All-nil IsRecord);
    cost = omega arith;
  }

volume_restored : (g : Geometry) (cylinders : ℕ) (loose : List LooseTrack) (v : List Track)
    → All (IsFirm g cylinders) loose → IsVolume g cylinders v → IsVolume g cylinders (restored loose v)
volume_restored g cylinders [] v all is = is
volume_restored g cylinders (l ∷ loose) v all is =
    let head = All-head (IsFirm g cylinders) l loose all in
    volume_set g cylinders (restored loose v) l.track l.firm (λ inside. (head.home, head.fits))
    (volume_restored g cylinders loose v (All-tail (IsFirm g cylinders) l loose all) is)

-- The paths

abbrev pub AreFour : PathsState → Type 0
AreFour paths = (length paths.states ≡ 4) × (length paths.senses ≡ 4)

sense_four : (paths : PathsState) (path : ℕ) (sense : Option Sense) → AreFour paths
    → AreFour (with_sense paths path sense)
sense_four paths path (Some sense) four = (four.0, length-set paths.senses (path - 1) sense ∙ four.1)
sense_four paths path None four = four

set_four : (states : List PathState) (path function : ℕ) (id : GroupId) → length states ≡ 4
    → length (paths_set states path function id) ≡ 4
set_four states path function id four = by_function (establishes function) (resigns function) where
  by_function : (one two : Bool) → length (cond one (set states (path - 1) (Grouped id (asks_multipath function)))
      (cond two (set states (path - 1) Ungrouped) (map (disbanded id) states))) ≡ 4
  by_function true two = length-set states (path - 1) (Grouped id (asks_multipath function)) ∙ four
  by_function false true = length-set states (path - 1) Ungrouped ∙ four
  by_function false false = length-map states (disbanded id) ∙ four

act_four : (paths : PathsState) (path : ℕ) (act : LocalAct) → AreFour paths → AreFour (paths_after paths path act)
act_four paths path acts.Sense four = sense_four paths path (Some zero_sense) four
act_four paths path acts.Reserve four = sense_four (reserved paths path) path (Some zero_sense) four
act_four paths path acts.Release four = sense_four (record paths { owner = None }) path (Some zero_sense) four
act_four paths path acts.Steal four = sense_four (reserved paths path) path (Some zero_sense) four
act_four paths path acts.SenseId four = four
act_four paths path (acts.SetGroup function id) four = (set_four paths.states path function id four.0, four.1)
act_four paths path acts.SenseGroup four = four

acted_four : (f : Fixed) (paths : PathsState) (path : ℕ) (s : Stance) (c : Ccw) (act : LocalAct)
    (fault : Option GroupFault) → AreFour paths → AreFour (acted_by f paths path s c act fault).paths
acted_four f paths path s c act (Some fault) four = sense_four paths path (Some (reject_sense 4)) four
acted_four f paths path s c act None four = act_four paths path act four

acted_edit : (f : Fixed) (paths : PathsState) (path : ℕ) (s : Stance) (c : Ccw) (act : LocalAct)
    (fault : Option GroupFault) → (acted_by f paths path s c act fault).edit ≡ None
acted_edit f paths path s c act (Some fault) = refl
acted_edit f paths path s c act None = refl

effect_four : (f : Fixed) (paths : PathsState) (tracks : ℕ → Track) (path : ℕ) (start : Stance) (c : Ccw) (s : Stance)
    (how : Opening) → AreFour paths → AreFour (effect_by f paths tracks path start c s how).paths
effect_four f paths tracks path start c s (Over e) four = sense_four paths path e.sense four
effect_four f paths tracks path start c s (Looks look) four =
    sense_four paths path (walked_look f tracks start c look s).outcome.ending.sense four
effect_four f paths tracks path start c s (Asks act) four =
    acted_four f paths path start c act (act_fault paths path act) four

effect_suits : (f : Fixed) (paths : PathsState) (tracks : ℕ → Track) (path : ℕ) (start : Stance) (c : Ccw)
    → GivesBytes c → (s : Stance) (how : Opening) → IsSuiting f.geometry tracks
    (effect_by f paths tracks path start c s how).edit
effect_suits f paths tracks path start c bytes s (Over e) = tt
effect_suits f paths tracks path start c bytes s (Looks look) =
    walk_suits f.geometry tracks start c bytes look (f.cylinders * 15) s
effect_suits f paths tracks path start c bytes s (Asks act) =
    subst (IsSuiting f.geometry tracks) (sym (acted_edit f paths path start c act (act_fault paths path act))) tt

-- Every step

pub whole_empty : (g : Geometry) (cylinders : ℕ) → cylinders ≤ 4369 → IsWhole (empty_state g cylinders)
whole_empty g cylinders most = record {
  volume = volume_empty g cylinders most;
  states = refl;
  senses = refl;
  loose =
      All-nil (IsFirm g cylinders);
}

pub whole_command : (f : Fixed) (d : PlainState) (path : ℕ) (s : Stance) (c : Ccw) → f.geometry ≡ d.geometry
    → GivesBytes c → IsWhole d → IsWhole (behind_effect d (effect_on f d path s c))
whole_command f d path s c same bytes is =
    let o = opening_of f s c in
    let four = effect_four f d.paths (track_in d.volume) path s c o.stance o.opening (is.states, is.senses) in record {
      volume = volume_edited d.geometry d.cylinders d.volume (effect_on f d path s c).edit is.volume
          (subst (λ (g : Geometry). IsSuiting g (track_in d.volume) (effect_on f d path s c).edit) same
          (effect_suits f d.paths (track_in d.volume) path s c bytes o.stance o.opening));
      states = four.0;
      senses = four.1;
      loose = is.loose;
    }

pub whole_reset : (d : PlainState) (path : ℕ) → IsWhole d → IsWhole (record d { paths = reset_path d.paths path })
whole_reset d path is = record {
  volume = is.volume;
  states =
      length-set d.paths.states (path - 1) Reset ∙ is.states;
  senses =
      length-set d.paths.senses (path - 1) zero_sense ∙ is.senses;
  loose = is.loose;
}

pub whole_act : (d : PlainState) (act : Act) → IsActOn (d.cylinders * 15) act → IsWhole d → IsWhole (act_done d act)
whole_act d (Loosen t) on is =
    record {
      volume = is.volume;
      states = is.states;
      senses = is.senses;
      loose = All-push (IsFirm d.geometry d.cylinders) d.loose (record { track = t; firm = track_in d.volume t })
          is.loose (record { inside = on; home = is.volume.homes t on; fits = is.volume.fits t on });
    }
whole_act d (Harden t) on is =
    record {
      volume = is.volume;
      states = is.states;
      senses = is.senses;
      loose =
          All-filter (λ (l : LooseTrack). not (l.track == t)) (IsFirm d.geometry d.cylinders) d.loose is.loose;
    }
whole_act d CfwLost on is = record {
  volume = volume_restored d.geometry d.cylinders d.loose d.volume is.loose
      is.volume;
  states = is.states;
  senses = is.senses;
  loose = All-nil (IsFirm d.geometry d.cylinders);
}

pub whole_fresh : (d : PlainState) → d.cylinders ≤ 4369 → IsWhole d
    → IsWhole (record d { volume = empty_volume d.cylinders; loose = [] })
whole_fresh d most is = record {
  volume = volume_empty d.geometry d.cylinders most;
  states = is.states;
  senses =
      is.senses;
  loose = All-nil (IsFirm d.geometry d.cylinders);
}

lost_whole : (d : PlainState) (loose : List LooseTrack) → IsWhole d → IsWhole (lost_by_power d loose)
lost_whole d [] is = is
lost_whole d (l ∷ loose) is = whole_act d CfwLost tt is

pub whole_power : (d : PlainState) → IsWhole d → IsWhole (power_off d)
whole_power d is = let lost = lost_whole d d.loose is in
    record { volume = lost.volume; states = refl; senses = refl; loose = lost.loose }
