-- What a read of a track sends are bytes, where the track's records hold bytes.
use Rattle.std.proofs.Common.{◌<◌, ◌++◌, ℕ, Bool, true, false, List, [], ◌∷◌, length, if◌then◌else◌, arith}
use Rattle.std.specs.Prelude.{◌/◌, ◌%◌, All, drop, take}
use Rattle.std.specs.List.{flat_map}
use Rattle.std.proofs.lemmas.List.Elements.{All-append, All-cons, All-drop, All-head, All-nil, All-replicate, All-tail, All-take}
use Rattle.ckd_types.specs.declared.channel.Ccw.{Ccw}
use Rattle.ckd_types.specs.declared.command.ReadArea.{ReadArea}
use Rattle.ckd_types.specs.declared.command.ReadArea.TheVariants as areas
use Rattle.ckd_types.specs.declared.geometry.Cchh.{Cchh}
use Rattle.ckd_types.specs.declared.record.Record.{Record}
use Rattle.ckd_types.specs.declared.record.Track.{Track}
use Rattle.ckd_types.specs.Ccw.{skips}
use Rattle.ckd_types.specs.Track.{cchh_bytes, count_area, empty_track, empty_zero, end_mark, record_bytes, two_bytes}
use Rattle.ckd_rules.specs.Ending.{sent_of}
use Rattle.ckd_rules.specs.Reads.{read_bytes, record_at}
use Rattle.audit_laws.proofs.own.GivenBytes.{IsByte, at_or, no_bytes}

pub record HoldsBytes (r : Record) : Type 0 where
  pub number : r.id.r < 256
  pub few : length r.key < 256
  pub key : All (λ (b : ℕ). b < 256) r.key
  pub body : All (λ (b : ℕ). b < 256) r.body

abbrev pub TrackHolds : Track → Type 0
TrackHolds t = All HoldsBytes t.records

two_are : (n : ℕ) → All IsByte (two_bytes n)
two_are n = All-cons IsByte (n / 256 % 256) (n % 256 ∷ []) (omega arith) (All-cons IsByte (n % 256) [] (omega arith) no_bytes)

cchh_are : (p : Cchh) → All IsByte (cchh_bytes p)
cchh_are p = All-append IsByte (two_bytes p.cc) (two_bytes p.hh) (two_are p.cc) (two_are p.hh)

count_are : (r : Record) → HoldsBytes r → All IsByte (count_area r)
count_are r h = grind (arith, cchh_are, two_are)

record_are : (r : Record) → HoldsBytes r → All IsByte (record_bytes r)
record_are r h = All-append IsByte (count_area r) (r.key ++ r.body) (count_are r h) (All-append IsByte r.key r.body h.key h.body)

records_are : (rs : List Record) → All HoldsBytes rs → All IsByte (flat_map record_bytes rs)
records_are [] all = no_bytes
records_are (r ∷ rs) all =
    All-append IsByte (record_bytes r) (flat_map record_bytes rs) (record_are r (All-head HoldsBytes r rs all))
    (records_are rs (All-tail HoldsBytes r rs all))

zero_holds : (t : ℕ) → HoldsBytes (empty_zero t)
zero_holds t = record { number = omega arith; few = omega arith; key = no_bytes; body = All-replicate IsByte 8 0 (omega arith) }

pub empty_holds : (t : ℕ) → TrackHolds (empty_track t)
empty_holds t = All-cons HoldsBytes (empty_zero t) [] (zero_holds t) (All-nil HoldsBytes)

pub at_holds : (rs : List Record) (i : ℕ) → All HoldsBytes rs → HoldsBytes (record_at rs i)
at_holds rs i all = at_or HoldsBytes (empty_zero 0) (zero_holds 0) rs i all

pub read_are : (t : Track) (area : ReadArea) (i : ℕ) → TrackHolds t → All IsByte (read_bytes t area i)
read_are t areas.Home i all = All-cons IsByte 0 (cchh_bytes t.home) (omega arith) (cchh_are t.home)
read_are t areas.Zero i all = grind (arith, at_holds t.records i all, count_are (record_at t.records i) (at_holds t.records i all))
read_are t areas.Count i all = count_are (record_at t.records i) (at_holds t.records i all)
read_are t areas.Data i all = (at_holds t.records i all).body
read_are t areas.KeyData i all = let h = at_holds t.records i all in All-append IsByte (record_at t.records i).key (record_at t.records i).body h.key h.body
read_are t areas.CountKeyData i all = record_are (record_at t.records i) (at_holds t.records i all)
read_are t areas.Multiple i all = records_are (drop i t.records) (All-drop HoldsBytes i t.records all)
read_are t areas.Track i all =
    All-append IsByte (flat_map record_bytes t.records) end_mark (records_are t.records all) (All-replicate IsByte 8 0xff (omega arith))

pub sent_are : (c : Ccw) (area : List ℕ) → All IsByte area → All IsByte (sent_of c area)
sent_are c area all = by_test (skips c) where
  by_test : (b : Bool) → All IsByte (if b then [] else take c.count area)
  by_test true = no_bytes
  by_test false = All-take IsByte c.count area all
