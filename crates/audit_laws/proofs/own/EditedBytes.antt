-- A look at a track that holds bytes, of a command whose word gives bytes, sends bytes, and edits the track to one that holds bytes.
use Rattle.std.proofs.Common.{◌<◌, ◌==◌, ◌+◌, ℕ, zero, suc, Bool, true, false, List, length, arith}
use Rattle.std.specs.Prelude.{All, IfSome, is_some, take, ⊤}
use Rattle.std.proofs.lemmas.Bool.{cond_both}
use Rattle.std.proofs.lemmas.List.Elements.{All-push, All-set, All-take}
use Rattle.ckd_types.specs.declared.channel.Ccw.{Ccw}
use Rattle.ckd_types.specs.declared.command.ReadArea.{ReadArea}
use Rattle.ckd_types.specs.declared.command.SearchArea.{SearchArea}
use Rattle.ckd_types.specs.declared.command.Write.{Write}
use Rattle.ckd_types.specs.declared.command.Write.TheVariants.{Data, UpdateData, KeyData, UpdateKeyData, CountKeyData, NextTrack, Zero}
use Rattle.ckd_types.specs.declared.geometry.Geometry.{Geometry}
use Rattle.ckd_types.specs.declared.record.Edit.TheVariants.{Format, Update}
use Rattle.ckd_types.specs.declared.record.Track.{Track}
use Rattle.ckd_types.specs.Edit.{apply_edit}
use Rattle.ckd_types.specs.Sense.{track_format_sense}
use Rattle.ckd_rules.specs.declared.finding.Sought.{Sought}
use Rattle.ckd_rules.specs.declared.finding.Sought.TheVariants.{Here, Onward, Nowhere}
use Rattle.ckd_rules.specs.declared.order.Look.{Look}
use Rattle.ckd_rules.specs.declared.stance.After.{After}
use Rattle.ckd_rules.specs.declared.stance.After.TheVariants.{Other, Wrote}
use Rattle.ckd_rules.specs.declared.stance.Stance.{Stance}
use Rattle.ckd_rules.specs.declared.turned.Turned.{Turned}
use Rattle.ckd_rules.specs.declared.turned.Turned.TheVariants as turns
use Rattle.ckd_rules.specs.Area.{given_at}
use Rattle.ckd_rules.specs.Ending.{refused}
use Rattle.ckd_rules.specs.Formats.{body_given, format_behind, format_ended, has_room_behind, key_given, record_given, zero_on}
use Rattle.ckd_rules.specs.Looked.{Looked, edits, ends}
use Rattle.ckd_rules.specs.Reads.{read_bytes, read_sought, record_at}
use Rattle.ckd_rules.specs.Searches.{search_sought}
use Rattle.ckd_rules.specs.Updates.{update_data, update_ended, update_record, update_sought}
use Rattle.ckd_rules.specs.Walk as W
use Rattle.ckd_rules.specs.Walk.{Walked, walk, walked}
use Rattle.ckd_rules.specs.Writes.{write_on}
use Rattle.plain_defs.specs.Whole.{GivesBytes}
use Rattle.audit_laws.proofs.own.GivenBytes.{IsByte, as_bytes, given_are, no_bytes, given_length}
use Rattle.audit_laws.proofs.own.SentBytes.{HoldsBytes, TrackHolds, at_holds, read_are, sent_are}

abbrev TurnHolds : Track → Turned → Type 0
TurnHolds t (turns.Ended e) = All IsByte e.sent
TurnHolds t turns.Onward = ⊤
TurnHolds t (turns.Edits edit e) = TrackHolds (apply_edit edit t) × All IsByte e.sent

abbrev LookHolds : Track → Looked → Type 0
LookHolds t l = TurnHolds t l.turned

-- a new record
record_holds : (c : Ccw) → GivesBytes c → HoldsBytes (record_given c)
record_holds c gives = search (arith, as_bytes, given_are, given_length)

module _ (c : Ccw) (gives : GivesBytes c) (t : Track) (all : TrackHolds t) (s : Stance) where
  search_holds : (area : SearchArea) (k : Sought) → LookHolds t (search_sought t area s c k)
  search_holds area k = grind (arith, no_bytes)

  read_holds : (area : ReadArea) (k : Sought) → LookHolds t (read_sought t area s c k)
  read_holds area (Here i passes) = sent_are c (read_bytes t area i) (read_are t area i all)
  read_holds area (Onward u) = tt
  read_holds area (Nowhere sense) = no_bytes

  rewritten : (i : ℕ) (key body : List ℕ) → length key < 256 → All IsByte key → All IsByte body → TrackHolds (apply_edit (Update i key body) t)
  rewritten i key body few k b =
      All-set HoldsBytes t.records i (record (record_at t.records i) { key = key; body = body })
      (record { number = (at_holds t.records i all).number; few = few; key = k; body = b }) all

  data_holds : (d : Bool) (i : ℕ) → LookHolds t (update_data d s c i (record_at t.records i))
  data_holds d i =
      let r = record_at t.records i in
      let h = at_holds t.records i all in
      cond_both (length r.body == 0) (ends (update_ended d s c i r.body 0))
      (edits (Update i r.key (given_at 0 (length r.body) c)) (update_ended d s c i r.body (length r.body))) (LookHolds t) (λ _. no_bytes)
      (λ _. (rewritten i r.key (given_at 0 (length r.body) c) h.few h.key (given_are 0 (length r.body) c gives), no_bytes))

  update_holds : (key d : Bool) (i : ℕ) → LookHolds t (update_record key d s c i (record_at t.records i))
  update_holds true d i =
      let r = record_at t.records i in
      let few : length (given_at 0 (length r.key) c) < 256 = omega (arith, (at_holds t.records i all).few, (given_length 0 (length r.key) c)) in
      let key = given_are 0 (length r.key) c gives in
      (rewritten i (given_at 0 (length r.key) c) (given_at (length r.key) (length r.body) c) few key (given_are (length r.key) (length r.body) c gives), no_bytes)
  update_holds false d i = data_holds d i

  updates_hold : (key d : Bool) (k : Sought) → LookHolds t (update_sought key d t.records s c k)
  updates_hold key d k = grind (arith, update_holds, no_bytes)

  format_holds : (g : Geometry) (after : After) (i : ℕ) → LookHolds t (format_behind g t.records after s c i)
  format_holds g after i =
      cond_both (has_room_behind g t.records i (key_given c) (body_given c))
      (edits (Format i (record_given c)) (format_ended after s c (i + 1) (8 + key_given c + body_given c))) (ends (refused s c track_format_sense))
      (LookHolds t)
      (λ _. (
        All-push HoldsBytes (take (i + 1) t.records) (record_given c) (All-take HoldsBytes (i + 1) t.records all) (record_holds c gives),
        no_bytes,
      ))
      (λ _. no_bytes)

  zero_holds : LookHolds t (zero_on s c)
  zero_holds = grind (arith, cond_both, record_holds, no_bytes)

  write_holds : (g : Geometry) (w : Write) → LookHolds t (write_on g t s c w)
  write_holds g Data = updates_hold false (is_some s.domain) _
  write_holds g UpdateData = updates_hold false true _
  write_holds g KeyData = updates_hold true (is_some s.domain) _
  write_holds g UpdateKeyData = updates_hold true true _
  write_holds g CountKeyData = format_holds g Wrote _
  write_holds g NextTrack = format_holds g Other 0
  write_holds g Zero = zero_holds

-- From track to track

module _ (tracks : ℕ → Track) (hold : (t : ℕ) → TrackHolds (tracks t)) where
  abbrev pub WalkHolds : Walked → Type 0
  WalkHolds w = All IsByte w.outcome.ending.sent × IfSome w.edit (λ e. TrackHolds (apply_edit e.edit (tracks e.track)))

  pub walk_holds : (n : ℕ) (g : Geometry) (start : Stance) (c : Ccw) → GivesBytes c → (look : Look) (s : Stance) →
      WalkHolds (walk n g tracks start c look s)
  unfolding W.walk
  walk_holds zero g start c gives look s = (no_bytes, tt)
  walk_holds (suc n) g start c gives look s = grind (arith, walk_holds n g start c gives look, no_bytes, search_holds, read_holds, write_holds)
