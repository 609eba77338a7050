-- From one track of the device a command goes on to another one of the device alone.
use Rattle.std.proofs.Common.{List, ◌≡◌, ◌<◌, ◌+◌, ◌*◌, ◌%◌, ℕ, Bool, true, false, Option, Some, None, Ok, Err, refl, sym, ap, subst, ◌∙◌, arith}
use Rattle.std.specs.Prelude.{if◌then◌else◌, IfSome, Result, ◌==◌, is_some, nat_le, length}
use Rattle.ckd_types.specs.declared.channel.Ccw.{Ccw}
use Rattle.ckd_types.specs.declared.command.ReadArea.{ReadArea}
use Rattle.ckd_types.specs.declared.command.SearchArea.{SearchArea}
use Rattle.ckd_types.specs.declared.command.Write.{Write}
use Rattle.ckd_types.specs.declared.command.Write.TheVariants as writes
use Rattle.ckd_types.specs.declared.geometry.Geometry.{Geometry}
use Rattle.ckd_types.specs.declared.parameters.Extent.{Extent}
use Rattle.ckd_types.specs.declared.record.Record.{Record}
use Rattle.ckd_types.specs.declared.record.Track.{Track}
use Rattle.ckd_types.specs.declared.sense.Sense.{Sense}
use Rattle.ckd_rules.specs.declared.finding.Sought.{Sought}
use Rattle.ckd_rules.specs.declared.finding.Sought.TheVariants as sought
use Rattle.ckd_rules.specs.declared.order.Look.{Look}
use Rattle.ckd_rules.specs.declared.order.Look.TheVariants as looks
use Rattle.ckd_rules.specs.declared.stance.After.{After}
use Rattle.ckd_rules.specs.declared.stance.Stance.{Stance}
use Rattle.ckd_rules.specs.declared.turned.Turned.{Turned}
use Rattle.ckd_rules.specs.declared.turned.Turned.TheVariants as turns
use Rattle.ckd_rules.specs.Formats.{key_given, body_given, has_room_behind, is_zero_given, format_behind, zero_on}
use Rattle.ckd_rules.specs.Finding.{track_after, next_track, moves_on, from_index, search_missed, find_from}
use Rattle.ckd_rules.specs.Look.{look_on}
use Rattle.ckd_rules.specs.Looked.{Looked}
use Rattle.ckd_rules.specs.Reads.{record_at, read_sought}
use Rattle.ckd_rules.specs.Searches.{search_sought}
use Rattle.ckd_rules.specs.Updates.{update_data, update_record, update_sought, update_on}
use Rattle.ckd_rules.specs.Writes.{write_on}
use Rattle.ckd_rules.proofs.NextTrack.{next_on_device}
use Rattle.ckd_chain.specs.declared.mark.Stage.{Stage}
use Rattle.ckd_chain.specs.declared.mark.Stage.TheVariants as stages
use Rattle.ckd_chain.specs.declared.progress.Progress.TheVariants as progresses
use Rattle.ckd_chain.specs.State.{ChainState}
use Rattle.ckd_chain.specs.Steps.{last_by, opened_by, chain_opened, stage_by, stage_of, need_of, track_needed, standing, stepped_by, step_turned, word_of}
use Rattle.track_image.specs.Image.{Image}
use Rattle.device_laws.specs.Standing.{IsWithin}
use Rattle.device_laws.proofs.Commands.{Stays}

abbrev pub FurtherBy : ℕ → Stance → Stance → Turned → Type 0
FurtherBy n s z (turns.Ended e) = Unit {0}
FurtherBy n s z turns.Onward = (z.track < n) × ((z.extent ≡ s.extent) × (z.track ≡ s.track + 1))
FurtherBy n s z (turns.Edits edit e) = Unit {0}

-- where it goes on, it is on the track behind, one of n tracks, and the extent stays
pub record Further (n : ℕ) (s : Stance) (l : Looked) : Type 0 where
  pub on : FurtherBy n s l.stance l.turned

abbrev SoughtFrom : ℕ → ℕ → Sought → Type 0
SoughtFrom n from (sought.Here i passes) = Unit {0}
SoughtFrom n from (sought.Onward t) = (t < n) × (t ≡ from + 1)
SoughtFrom n from (sought.Nowhere sense) = Unit {0}

either : (n : ℕ) (s : Stance) (b : Bool) (x y : Looked) → Further n s x → Further n s y → Further n s (if b then x else y)
either n s true x y f g = f
either n s false x y f g = g

masked : (b : Bool) (sense : Sense) (r : Result ℕ Sense) (t : ℕ) → (if b then Err sense else r) ≡ Ok t → r ≡ Ok t
masked true sense r t e = absurd (cc)
masked false sense r t e = e

module _ (n : ℕ) (s : Stance) (whole : n % 15 ≡ 0) (on : s.track < n) (within : IfSome s.extent (λ e. e.last < n)) where
  moved : (r : Result ℕ Sense) → next_track s ≡ r → SoughtFrom n s.track (moves_on r)
  moved (Ok t) e = let f = next_on_device n s.extent s.track t whole on within (masked _ _ (track_after s.extent s.track) t e) in (f.1, f.0)
  moved (Err sense) e = tt

  again : (passes : ℕ) (o : Option ℕ) → SoughtFrom n s.track (from_index passes o)
  again passes (Some i) = tt
  again passes None = tt

  by_passes : (b : Bool) (sense : Sense) (passes : ℕ) (o : Option ℕ) → SoughtFrom n s.track (if b then sought.Nowhere sense else from_index passes o)
  by_passes true sense passes o = tt
  by_passes false sense passes o = again passes o

  missed_on : (multitrack : Bool) (o : Option ℕ) → SoughtFrom n s.track (search_missed multitrack s o)
  missed_on true o = moved (next_track s) refl
  missed_on false o = by_passes (nat_le 1 s.passes) _ (s.passes + 1) o

  found_on : (multitrack : Bool) (o k : Option ℕ) → SoughtFrom n s.track (find_from multitrack s o k)
  found_on multitrack (Some i) k = tt
  found_on multitrack None k = missed_on multitrack k

  read_further : (t : Track) (area : ReadArea) (c : Ccw) (x : Sought) → SoughtFrom n s.track x → Further n s (read_sought t area s c x)
  read_further t area c (sought.Here i passes) f = record { on = tt }
  read_further t area c (sought.Onward u) f = record { on = (f.0, (refl, f.1)) }
  read_further t area c (sought.Nowhere sense) f = record { on = tt }

  search_further : (t : Track) (area : SearchArea) (c : Ccw) (x : Sought) → SoughtFrom n s.track x → Further n s (search_sought t area s c x)
  search_further t area c (sought.Here i passes) f = record { on = tt }
  search_further t area c (sought.Onward u) f = record { on = (f.0, (refl, f.1)) }
  search_further t area c (sought.Nowhere sense) f = record { on = tt }

  data_further : (in_domain : Bool) (c : Ccw) (i : ℕ) (r : Record) → Further n s (update_data in_domain s c i r)
  data_further in_domain c i r = either n s (length r.body == 0) _ _ (record { on = tt }) (record { on = tt })

  record_further : (with_key in_domain : Bool) (c : Ccw) (i : ℕ) (r : Record) → Further n s (update_record with_key in_domain s c i r)
  record_further true in_domain c i r = record { on = tt }
  record_further false in_domain c i r = data_further in_domain c i r

  updated_further : (with_key in_domain : Bool) (records : List Record) (c : Ccw) (x : Sought) → SoughtFrom n s.track x →
      Further n s (update_sought with_key in_domain records s c x)
  updated_further with_key in_domain records c (sought.Here i passes) f = record_further with_key in_domain c i (record_at records i)
  updated_further with_key in_domain records c (sought.Onward u) f = record { on = (f.0, (refl, f.1)) }
  updated_further with_key in_domain records c (sought.Nowhere sense) f = record { on = tt }

  update_further : (with_key in_domain : Bool) (t : Track) (c : Ccw) → Further n s (update_on with_key in_domain t s c)
  update_further with_key in_domain t c = updated_further with_key in_domain t.records c _ (found_on in_domain _ _)

  format_further : (g : Geometry) (records : List Record) (after : After) (c : Ccw) (i : ℕ) → Further n s (format_behind g records after s c i)
  format_further g records after c i =
      either n s (has_room_behind g records i (key_given c) (body_given c)) _ _ (record { on = tt }) (record { on = tt })

  zero_further : (c : Ccw) → Further n s (zero_on s c)
  zero_further c = either n s (is_zero_given c) _ _ (record { on = tt }) (record { on = tt })

  write_further : (g : Geometry) (t : Track) (c : Ccw) (w : Write) → Further n s (write_on g t s c w)
  write_further g t c writes.Data = update_further false (is_some s.domain) t c
  write_further g t c writes.UpdateData = update_further false true t c
  write_further g t c writes.KeyData = update_further true (is_some s.domain) t c
  write_further g t c writes.UpdateKeyData = update_further true true t c
  write_further g t c writes.CountKeyData = format_further g t.records _ c _
  write_further g t c writes.NextTrack = format_further g t.records _ c 0
  write_further g t c writes.Zero = zero_further c

  pub look_further : (g : Geometry) (t : Track) (c : Ccw) (look : Look) → Further n s (look_on g t s c look)
  look_further g t c (looks.Finds d) = record { on = tt }
  look_further g t c (looks.Searches x) = search_further t x.area c _ (found_on x.multitrack _ _)
  look_further g t c (looks.Reads r) = read_further t r.area c _ (found_on r.multitrack _ _)
  look_further g t c (looks.Writes w) = write_further g t c w

pub begun_stage : (chain : ChainState) (o : Option Stage) → chain.stage ≡ o → (opened_by chain o).stage ≡ Some (stage_by chain o)
begun_stage chain None e = refl
begun_stage chain (Some stage) e = e

pub need_at : (v : ChainState) (look : Look) → v.stage ≡ Some (stages.Looks look) → need_of v ≡ Some v.at.stance.track
need_at v look e =
    ap (λ (x : ChainState). track_needed x (stage_of v)) (ap (opened_by v) e) ∙ ap (λ (x : Stage). track_needed v x) (ap (stage_by v) e)

module _ (n : ℕ) (whole : n % 15 ≡ 0) where
  by_turned : (u : ChainState) (look : Look) (z : Stance) (t : Turned) (q : ℕ) → u.stage ≡ Some (stages.Looks look) →
      IfSome u.at.stance.extent (λ e. e.last < n) → FurtherBy n u.at.stance z t → (step_turned u z t).progress ≡ progresses.Need q →
      IsWithin n (step_turned u z t).chain × (q < n)
  by_turned u look z (turns.Ended e) q at within f is = absurd (cc)
  by_turned u look z (turns.Edits edit e) q at within f is = absurd (cc)
  by_turned u look z turns.Onward q at within f is =
      let v = standing u z in
      let same : z.track ≡ q = cc in
      let last : IfSome z.extent (λ e. e.last < n) = subst (λ (x : Option Extent). IfSome x (λ e. e.last < n)) (sym f.1.0) within in
      let below = f.0 in (
        record {
          needs = λ t e. let there = need_at v look at in let here : z.track ≡ t = cc in omega arith;
          used = last;
          extent = rw (ap (opened_by v) at) last;
        },
        omega arith,
      )

  by_stage : (chain : ChainState) (i : Image) (stage : Stage) (q : ℕ) → stage_of chain ≡ stage → IsWithin n chain →
      (stepped_by (chain_opened chain) (Some i) stage).progress ≡ progresses.Need q →
      IsWithin n (stepped_by (chain_opened chain) (Some i) stage).chain × (q < n)
  by_stage chain i stages.Over q at w is = absurd (cc)
  by_stage chain i (stages.Asks act) q at w is = absurd (cc)
  by_stage chain i (stages.Looks look) q at w is =
      let u = chain_opened chain in
      let on = w.needs u.at.stance.track (ap (λ (x : Stage). track_needed u x) at) in
      let l = look_on i.geometry i.track u.at.stance (word_of u) look in
      let f = look_further n u.at.stance whole on w.extent i.geometry i.track (word_of u) look in
      by_turned u look l.stance l.turned q (begun_stage chain chain.stage refl ∙ ap (λ (x : Stage). Some x) at) w.extent f.on is

  last_reaches : (o : Option Extent) → IfSome o (λ e. e.last < n) → IfSome (last_by o) (λ l. l < n)
  last_reaches (Some e) lt = lt
  last_reaches None lt = tt

  -- so each track that it comes to is one of the device's
  pub within_stays : Stays n (IsWithin n)
  within_stays = record {
    needs = λ chain t w e. w.needs t e;
    goes = λ chain i q w e. by_stage chain i (stage_of chain) q refl w e;
    reaches = λ chain w. last_reaches chain.at.stance.extent w.used;
  }

pub whole_cylinders : (k : ℕ) → (k * 15) % 15 ≡ 0
whole_cylinders k = grind arith
