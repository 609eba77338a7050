use Rattle.std.proofs.Common.{All, sym, subst, arith}
use Rattle.std.specs.Prelude.{IfOk}
use Rattle.std.specs.List.{AllZip}
use Rattle.device_turn.specs.Seating.{IsHome, Rests}
use Rattle.path_workers.specs.Keeping.{IsFinished, StaysKept}
use Rattle.path_workers.proofs.Keeping.{stays_within}
use Rattle.path_threads.specs.Allowed.{allowed_of}
use Rattle.path_threads.specs.Places.{IsPromisedFor, IsSpareAt, KeepsOrdered}
use Rattle.path_threads.proofs.Holding.{home_rests, promised_rests}
use Rattle.path_threads.proofs.Sparing.{all_spare, promised_same}
use Rattle.path_threads.proofs.Walking.{same_back, zip_long, zip_on}
use Rattle.path_threads.proofs.run.run_paths.Goals as goal

pub clear_all-requires : goal.clear_all-requires
clear_all-requires g c = record {
  operator = zip_on IsHome Rests IsHome home_rests _ _ _ c.in_ok-table.ensures.set.operator (subst
      (λ o. IfOk o (λ v. AllZip Rests c.in_ok-table.table.operator.items v.items)) c.in_ok-seats.ensures.operator c.walk_all-walks.ensures.operator);
  seats = c.in_ok-seats.ensures.seats;
}

pub walk_all-walks-requires-clause-spare : goal.walk_all-walks-requires-clause-spare
walk_all-walks-requires-clause-spare g c κs within =
    let table = c.in_ok-table.ensures in
    subst (λ ps. All (IsSpareAt g.M.MakeVolume.makes ps c.in_ok-table.table.operator.items) c.args.orders.items) (sym c.deref-2.ensures.value)
    (all_spare g.M.MakeVolume.makes c.deref.result.now c.args.devices.items c.in_ok-table.places.items c.in_ok-table.table.operator.items c.args.orders.items table.promised table.allows c.requires.spare)

pub returns-clause-kept : goal.returns-clause-kept
returns-clause-kept g c =
    let es = c.args.orders.items in
    let behind = c.in_ok-devices.devices in
    let new = c.finish_all.new.devices in
    let stay = subst (λ es. AllZip StaysKept es new) c.deref_mut.ensures.value c.in_ok-finish_all.ensures.stay in
    let first = promised_same _ _ c.args.devices.items c.in_ok-table.table.operator.items c.deref.ensures.value c.in_ok-table.ensures.promised in
    let rested = subst (λ o. IfOk o (λ v. AllZip Rests c.in_ok-table.table.operator.items v.items)) c.in_ok-seats.ensures.operator c.walk_all-walks.ensures.operator in
    let promised = zip_on (IsPromisedFor es) Rests (IsPromisedFor es) (λ d s z p r. promised_rests _ d s z p r) _ _ _ first rested in
    let kept = c.in_ok-devices.ensures (allowed_of es) c.args.devices.items promised in
    let k = behind.ok.0 in
    subst (λ es. AllZip (KeepsOrdered c.args.orders.items) c.args.devices.items es)
    (sym (same_back behind.len new behind.items (omega (arith, k)) (zip_long StaysKept behind.items new stay)))
    (zip_on (KeepsOrdered es) StaysKept (KeepsOrdered es) (λ d e z kept on. stays_within (allowed_of es d) d e z on kept) c.args.devices.items behind.items new kept stay)

pub returns-clause-finished : goal.returns-clause-finished
returns-clause-finished g c =
    let behind = c.in_ok-devices.devices in
    let new = c.finish_all.new.devices in
    let stay = subst (λ es. AllZip StaysKept es new) c.deref_mut.ensures.value c.in_ok-finish_all.ensures.stay in
    let k = behind.ok.0 in
    subst (λ es. All IsFinished es) (sym (same_back behind.len new behind.items (omega (arith, k)) (zip_long StaysKept behind.items new stay)))
    c.in_ok-finish_all.ensures.finished
