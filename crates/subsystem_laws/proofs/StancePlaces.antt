-- A stance and its extent stay on a device with n tracks, whatever a command does.
use Rattle.std.proofs.Common.{◌≡◌, ◌<◌, ◌+◌, ◌*◌, ◌%◌, ◌==◌, ℕ, Bool, true, false, List, Option, Some, None, is_some, Ok, Err, refl, sym, subst, arith}
use Rattle.std.specs.Prelude.{if◌then◌else◌, IfSome, Result, length}
use Rattle.ckd_types.specs.declared.channel.Ccw.{Ccw}
use Rattle.ckd_types.specs.declared.command.Read.{Read}
use Rattle.ckd_types.specs.declared.command.ReadArea.{ReadArea}
use Rattle.ckd_types.specs.declared.command.ReadArea.TheVariants as reads
use Rattle.ckd_types.specs.declared.command.SearchArea.{SearchArea}
use Rattle.ckd_types.specs.declared.command.Write.{Write}
use Rattle.ckd_types.specs.declared.command.Write.TheVariants as writes
use Rattle.ckd_types.specs.declared.geometry.Geometry.{Geometry}
use Rattle.ckd_types.specs.declared.parameters.Domain.{Domain}
use Rattle.ckd_types.specs.declared.parameters.Extent.{Extent}
use Rattle.ckd_types.specs.declared.record.Record.{Record}
use Rattle.ckd_types.specs.declared.record.Track.{Track}
use Rattle.ckd_types.specs.declared.sense.Sense.{Sense}
use Rattle.ckd_types.specs.Fixed.{Fixed}
use Rattle.ckd_rules.specs.declared.finding.Sought.{Sought}
use Rattle.ckd_rules.specs.declared.finding.Sought.TheVariants as sought
use Rattle.ckd_rules.specs.declared.opening.Opening.{Opening}
use Rattle.ckd_rules.specs.declared.opening.Opening.TheVariants as openings
use Rattle.ckd_rules.specs.declared.order.Look.{Look}
use Rattle.ckd_rules.specs.declared.order.Look.TheVariants as looks
use Rattle.ckd_rules.specs.declared.order.CommandOrder.{CommandOrder}
use Rattle.ckd_rules.specs.declared.order.CommandOrder.TheVariants as orders
use Rattle.ckd_rules.specs.declared.stance.After.{After}
use Rattle.ckd_rules.specs.declared.stance.After.TheVariants as afters
use Rattle.ckd_rules.specs.declared.stance.Place.{Place}
use Rattle.ckd_rules.specs.declared.stance.Place.TheVariants as places
use Rattle.ckd_rules.specs.declared.stance.Stance.{Stance}
use Rattle.ckd_rules.specs.declared.turned.Turned.{Turned}
use Rattle.ckd_rules.specs.declared.turned.Turned.TheVariants as turns
use Rattle.ckd_rules.specs.Checks.{order_of}
use Rattle.ckd_rules.specs.Ending.{work_counted}
use Rattle.ckd_rules.specs.Facts.{IsOrder}
use Rattle.ckd_rules.specs.Finding.{track_after}
use Rattle.ckd_rules.specs.Formats.{key_given, body_given, has_room_behind, is_zero_given, format_behind, zero_on}
use Rattle.ckd_rules.specs.Control.{located, unseen_place}
use Rattle.ckd_rules.specs.Look.{look_on}
use Rattle.ckd_rules.specs.Looked.{Looked}
use Rattle.ckd_rules.specs.Opening.{moved, read_from, look_from, locating, begun, opening_with, opening_of}
use Rattle.ckd_rules.specs.Reads.{record_at, read_place, read_passes, read_after, read_sought}
use Rattle.ckd_rules.specs.Searches.{search_sought}
use Rattle.ckd_rules.specs.Stance.{one_less}
use Rattle.ckd_rules.specs.Updates.{after_update, update_data, update_record, update_sought}
use Rattle.ckd_rules.specs.Writes.{write_on}
use Rattle.ckd_rules.proofs.NextTrack.{next_on_device}
use Rattle.device_laws.proofs.ChainTracks.{FurtherBy, look_further, whole_cylinders}
use Rattle.device_laws.proofs.OrdersStand.{order_stands}

-- its track and its extent
pub record On (n : ℕ) (s : Stance) : Type 0 where
  pub track : s.track < n
  pub extent : IfSome s.extent (λ e. e.last < n)

abbrev pub SeeksOn : ℕ → Look → Type 0
SeeksOn n (looks.Finds d) = d.seek < n
SeeksOn n (looks.Searches x) = Unit {0}
SeeksOn n (looks.Reads r) = Unit {0}
SeeksOn n (looks.Writes w) = Unit {0}

abbrev EndsBy : ℕ → Stance → Turned → Type 0
EndsBy n z (turns.Ended e) = On n z
EndsBy n z turns.Onward = Unit {0}
EndsBy n z (turns.Edits edit e) = On n z

-- how a command begins
abbrev pub Opens : ℕ → Stance → Opening → Type 0
Opens n z (openings.Over e) = On n z
Opens n z (openings.Looks look) = On n z × SeeksOn n look
Opens n z (openings.Asks act) = On n z

record EndsOn (n : ℕ) (l : Looked) : Type 0 where
  on : EndsBy n l.stance l.turned

on_if : (n : ℕ) (b : Bool) (x y : Stance) → On n x → On n y → On n (if b then x else y)
on_if n true x y f g = f
on_if n false x y f g = g

either : (n : ℕ) (b : Bool) (x y : Looked) → EndsOn n x → EndsOn n y → EndsOn n (if b then x else y)
either n true x y f g = f
either n false x y f g = g

less_on : (n : ℕ) (s : Stance) → On n s → On n (one_less s)
less_on n s on = on_if n (is_some s.domain) _ s (record { track = on.track; extent = on.extent }) on

counted_on : (n : ℕ) (s : Stance) (m : ℕ) → On n s → On n (work_counted s m)
counted_on n s m on = record { track = on.track; extent = on.extent }

module _ (n : ℕ) (s : Stance) (on : On n s) where
  placed_less : (place : Place) (passes : ℕ) (after : After) (m : ℕ) →
      On n (work_counted (one_less (record s { place = place; passes = passes; after = after })) m)
  placed_less place passes after m =
      let z = record s { place = place; passes = passes; after = after } in
      counted_on n (one_less z) m (less_on n z (record { track = on.track; extent = on.extent }))

  read_ends : (t : Track) (area : ReadArea) (c : Ccw) (x : Sought) → EndsOn n (read_sought t area s c x)
  read_ends t area c (sought.Here i passes) =
      record { on = placed_less (read_place (length t.records) area i) (read_passes area passes) (read_after area s.after) _ }
  read_ends t area c (sought.Onward u) = record { on = tt }
  read_ends t area c (sought.Nowhere sense) = record { on = record { track = on.track; extent = on.extent } }

  search_ends : (t : Track) (area : SearchArea) (c : Ccw) (x : Sought) → EndsOn n (search_sought t area s c x)
  search_ends t area c (sought.Here i passes) = record { on = record { track = on.track; extent = on.extent } }
  search_ends t area c (sought.Onward u) = record { on = tt }
  search_ends t area c (sought.Nowhere sense) = record { on = record { track = on.track; extent = on.extent } }

  data_ends : (in_domain : Bool) (c : Ccw) (i : ℕ) (r : Record) → EndsOn n (update_data in_domain s c i r)
  data_ends in_domain c i r =
      either n (length r.body == 0) _ _ (record { on = placed_less (places.Body i) 0 (after_update in_domain) _ })
      (record { on = placed_less (places.Body i) 0 (after_update in_domain) _ })

  record_ends : (with_key in_domain : Bool) (c : Ccw) (i : ℕ) (r : Record) → EndsOn n (update_record with_key in_domain s c i r)
  record_ends true in_domain c i r = record { on = placed_less (places.Body i) 0 (after_update in_domain) _ }
  record_ends false in_domain c i r = data_ends in_domain c i r

  updated_ends : (with_key in_domain : Bool) (records : List Record) (c : Ccw) (x : Sought) → EndsOn n (update_sought with_key in_domain records s c x)
  updated_ends with_key in_domain records c (sought.Here i passes) = record_ends with_key in_domain c i (record_at records i)
  updated_ends with_key in_domain records c (sought.Onward u) = record { on = tt }
  updated_ends with_key in_domain records c (sought.Nowhere sense) = record { on = record { track = on.track; extent = on.extent } }

  format_ends : (g : Geometry) (records : List Record) (after : After) (c : Ccw) (i : ℕ) → EndsOn n (format_behind g records after s c i)
  format_ends g records after c i =
      either n (has_room_behind g records i (key_given c) (body_given c)) _ _ (record { on = placed_less (places.Body (i + 1)) 0 after _ })
      (record { on = record { track = on.track; extent = on.extent } })

  zero_ends : (c : Ccw) → EndsOn n (zero_on s c)
  zero_ends c =
      either n (is_zero_given c) _ _ (record { on = placed_less (places.Body 0) 0 afters.Wrote _ })
      (record { on = record { track = on.track; extent = on.extent } })

  write_ends : (g : Geometry) (t : Track) (c : Ccw) (w : Write) → EndsOn n (write_on g t s c w)
  write_ends g t c writes.Data = updated_ends false (is_some s.domain) t.records c _
  write_ends g t c writes.UpdateData = updated_ends false true t.records c _
  write_ends g t c writes.KeyData = updated_ends true (is_some s.domain) t.records c _
  write_ends g t c writes.UpdateKeyData = updated_ends true true t.records c _
  write_ends g t c writes.CountKeyData = format_ends g t.records _ c _
  write_ends g t c writes.NextTrack = format_ends g t.records _ c 0
  write_ends g t c writes.Zero = zero_ends c

  found_ends : (c : Ccw) (d : Domain) (found : Option ℕ) → d.seek < n → On n (located s c d found).stance
  found_ends c d (Some i) seek = record { track = seek; extent = on.extent }
  found_ends c d None seek = record { track = on.track; extent = on.extent }

  look_ends : (g : Geometry) (t : Track) (c : Ccw) (look : Look) → SeeksOn n look → EndsOn n (look_on g t s c look)
  look_ends g t c (looks.Finds d) seek = record { on = found_ends c d _ seek }
  look_ends g t c (looks.Searches x) seek = search_ends t x.area c _
  look_ends g t c (looks.Reads r) seek = read_ends t r.area c _
  look_ends g t c (looks.Writes w) seek = write_ends g t c w

  by_turned : (z : Stance) (t : Turned) → EndsBy n z t → FurtherBy n s z t → On n z
  by_turned z (turns.Ended e) ends further = ends
  by_turned z turns.Onward ends further = record {
    track = further.0;
    extent = subst (λ (x : Option Extent). IfSome x (λ e. e.last < n)) (sym further.1.0) on.extent;
  }
  by_turned z (turns.Edits edit e) ends further = ends

  -- behind a look
  pub look_leaves_on : n % 15 ≡ 0 → (g : Geometry) (t : Track) (c : Ccw) (look : Look) → SeeksOn n look → On n (look_on g t s c look).stance
  look_leaves_on whole g t c look seek =
      let l = look_on g t s c look in
      by_turned l.stance l.turned (look_ends g t c look seek).on (look_further n s whole on.track on.extent g t c look).on

  -- Openings

  module _ (whole : n % 15 ≡ 0) (some : 0 < n) where
    moves : (c : Ccw) (look : Look) (r : Result ℕ Sense) → SeeksOn n look → track_after s.extent s.track ≡ r →
        Opens n (moved s c look r).stance (moved s c look r).opening
    moves c look (Ok t) seek is =
        (record { track = (next_on_device n s.extent s.track t whole on.track on.extent is).1; extent = on.extent }, seek)
    moves c look (Err sense) seek is = record { track = on.track; extent = on.extent }

    reads_on : (c : Ccw) (r : Read) (area : ReadArea) (place : Place) → Opens n (read_from s c r area place).stance (read_from s c r area place).opening
    reads_on c r reads.Home place = (on, tt)
    reads_on c r reads.Zero place = (on, tt)
    reads_on c r reads.Count place = (on, tt)
    reads_on c r reads.Data place = (on, tt)
    reads_on c r reads.KeyData place = (on, tt)
    reads_on c r reads.CountKeyData place = (on, tt)
    reads_on c r reads.Multiple place = (on, tt)
    reads_on c r reads.Track places.Index = (on, tt)
    reads_on c r reads.Track places.Home = moves c (looks.Reads r) _ tt refl
    reads_on c r reads.Track (places.Count i) = moves c (looks.Reads r) _ tt refl
    reads_on c r reads.Track (places.Key i) = moves c (looks.Reads r) _ tt refl
    reads_on c r reads.Track (places.Body i) = moves c (looks.Reads r) _ tt refl

    looks_on : (c : Ccw) (look : Look) → SeeksOn n look → Opens n (look_from s c look).stance (look_from s c look).opening
    looks_on c (looks.Finds d) seek = (on, seek)
    looks_on c (looks.Searches x) seek = (on, tt)
    looks_on c (looks.Reads r) seek = reads_on c r r.area s.place
    looks_on c (looks.Writes writes.Data) seek = (on, tt)
    looks_on c (looks.Writes writes.UpdateData) seek = (on, tt)
    looks_on c (looks.Writes writes.KeyData) seek = (on, tt)
    looks_on c (looks.Writes writes.UpdateKeyData) seek = (on, tt)
    looks_on c (looks.Writes writes.CountKeyData) seek = (on, tt)
    looks_on c (looks.Writes writes.NextTrack) seek = moves c (looks.Writes writes.NextTrack) _ tt refl
    looks_on c (looks.Writes writes.Zero) seek = (on, tt)

    locates : (c : Ccw) (d : Domain) (place : Option Place) → d.seek < n → Opens n (locating s c d place).stance (locating s c d place).opening
    locates c d (Some place) seek = record { track = seek; extent = on.extent }
    locates c d None seek = (record { track = seek; extent = on.extent }, seek)

    seeks_by : (look : Look) → IsOrder n (orders.Looks look) → SeeksOn n look
    seeks_by (looks.Finds d) good = good.seek
    seeks_by (looks.Searches x) good = tt
    seeks_by (looks.Reads r) good = tt
    seeks_by (looks.Writes w) good = tt

    begins : (c : Ccw) (order : CommandOrder) → IsOrder n order → Opens n (begun s c order).stance (begun s c order).opening
    begins c orders.Nothing good = record { track = on.track; extent = on.extent }
    begins c (orders.Seeks t) good = record { track = good; extent = on.extent }
    begins c orders.Recalibrates good = record { track = some; extent = on.extent }
    begins c orders.SetsSector good = record { track = on.track; extent = on.extent }
    begins c (orders.SetsMask mask) good = record { track = on.track; extent = on.extent }
    begins c (orders.Defines e) good = record { track = on.track; extent = good }
    begins c (orders.Locates d) good = locates c d (unseen_place d.orientation) good.seek
    begins c (orders.Looks look) good = looks_on c look (seeks_by look good)
    begins c (orders.Asks act) good = on

    opens_by : (c : Ccw) (r : Result CommandOrder Sense) → ((o : CommandOrder) → r ≡ Ok o → IsOrder n o) → Opens n (opening_with s c r).stance (opening_with s c r).opening
    opens_by c (Ok order) good = begins c order (good order refl)
    opens_by c (Err sense) good = record { track = on.track; extent = on.extent }

-- how a command begins
pub opening_is_on : (f : Fixed) (s : Stance) (c : Ccw) (k : ℕ) → f.cylinders ≡ k → On (k * 15) s → 0 < k →
    Opens (k * 15) (opening_of f s c).stance (opening_of f s c).opening
opening_is_on f s c k same =
    subst (λ (m : ℕ). On (m * 15) s → 0 < m → Opens (m * 15) (opening_of f s c).stance (opening_of f s c).opening) same
    (λ on some. opens_by (f.cylinders * 15) s on (whole_cylinders f.cylinders) (omega (arith, some)) c (order_of f s c)
    (λ o e. order_stands f s on.track c o e))
