use Rattle.std.proofs.Common.{◌≡◌, ◌+◌, ◌∷◌, List, ℕ, Some, Ok, length, take, drop, option_map, sym, ap, subst, ◌∙◌, arith}
use Rattle.std.proofs.lemmas.List.{take_more_set, length-set, length-take}
use Rattle.std.proofs.lemmas.Result.{err_from_is_err_and}
use Rattle.ckd_types.specs.declared.record.Record.{Record}
use Rattle.ckd_types.specs.Geometry.{cost}
use Rattle.track_image.specs.Packed.{record_from, unpacked}
use Rattle.track_image.specs.Reading.{map_ok, next_at, records_at}
use Rattle.track_image.proofs.Fields.{IsBytes}
use Rattle.track_image.proofs.Loop.{ReadSo, starts_so, reads_on, read_fails, read_done, found_all}
use Rattle.track_image.proofs.Sizes.{within}
use Rattle.track_image.proofs.reading.find_records.Goals as goal

pub records-init : goal.records-init
records-init c =
    let bytes = c.args.bytes.now in
    let total = map_ok (λ (others : List Record). record_from (drop 5 bytes) ∷ others)
    (records_at (length bytes) c.args.geometry 0 21 (drop 21 bytes)) in
    let first = take_more_set c.args.places.now 0 5 (omega (arith, c.requires.places)) in
    record {
      few = omega arith;
      all = omega (arith, length-set c.args.places.now 0 5, c.requires.places);
      read = subst (λ (ps : List ℕ). ReadSo c.args.geometry bytes ps (unpacked bytes ps) 21 0 total) (sym first)
          (starts_so c.args.geometry bytes (λ i. omega (arith, c.type_inv.bytes i)) c.requires.long c.requires.key
          c.requires.body);
    }

pub returns-in_err-area-clause-exact : goal.returns-in_err-area-clause-exact
returns-in_err-area-clause-exact c =
    let p = err_from_is_err_and c.from_residual.result c.from_residual.ensures.1 in
    let next = rw c.rest_of.ensures at c.in_err-area.ensures.exact in
    rw (p.1, p.2) (read_fails _ _ _ _ _ _ _ _ c.records.invariant.read next)

pub records-preserved : goal.records-preserved
records-preserved c =
    let g = c.args.geometry in
    let bytes = c.args.bytes.now in
    let at = c.records.at in
    let spent = c.records.spent in
    let places = take c.records.count c.records.places in
    let total = map_ok (λ (others : List Record). record_from (drop 5 bytes) ∷ others)
    (records_at (length bytes) g 0 21 (drop 21 bytes)) in
    let fits : IsBytes bytes = λ i. omega (arith, c.type_inv.bytes i) in
    let next = rw c.rest_of.ensures at c.in_ok-area.ensures.exact in
    let found : next_at g spent at (drop at bytes) ≡ Ok (Some (record_from (drop at bytes))) =
    next ∙ ap (λ o. Ok (option_map (λ _. record_from (drop at bytes)) o)) c.in-Some.is in
    let is = rw (c.in-Some.is, c.rest_of.ensures) at c.in_ok-area.ensures.next in
    let s = c.records.invariant.read in
    let more = reads_on g bytes places at spent c.in-Some.area total fits s.within s found is in
    let longer = take_more_set c.records.places c.records.count at
    (omega (
      arith,
      c.records.invariant.all,
      s.few,
      s.room,
      within g,
      length-take c.records.count
          c.records.places,
    )) in
    record {
      few = omega (
        arith,
        c.records.invariant.all,
        c.records.invariant.few,
        s.few,
        s.room,
        within g,
        length-take
            c.records.count c.records.places,
      );
      all = omega (arith, c.records.invariant.all, length-set c.records.places c.records.count at);
      read = rw (c.from.ensures, c.from-in-Some.ensures, c.cost-spent.ensures)
          (subst (λ (ps : List ℕ). ReadSo g bytes ps (unpacked bytes ps)
          (at + (8 + c.in-Some.area.key + c.in-Some.area.body)) (spent + cost g c.in-Some.area.key c.in-Some.area.body)
          total) (sym longer) more);
    }

pub returns-clause-exact : goal.returns-clause-exact
returns-clause-exact c =
    let next = rw (c.rest_of.ensures, c.in_default.is) at c.in_ok-area.ensures.exact in
    read_done _ _ _ _ _ _ _ c.records.invariant.read next

pub returns-clause-found : goal.returns-clause-found
returns-clause-found c =
    let next = rw (c.rest_of.ensures, c.in_default.is) at c.in_ok-area.ensures.exact in
    found_all _ _ _ _ _ _ c.records.invariant.read next
