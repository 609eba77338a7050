use Rattle.std.proofs.Common.{IfErr, IfOk, ℕ, sym, subst}
use Rattle.std.specs.List.{AllZip}
use Rattle.device_turn.specs.Seating.{IsAt}
use Rattle.path_threads.proofs.run.all_walk.Goals as goal

pub begin_path-first-requires-after_bounds : goal.begin_path-first-requires-after_bounds
begin_path-first-requires-after_bounds g c κs within =
    subst (λ (n : ℕ). AllZip (IsAt n) c.args.turns.now.items c.args.seats.first.items) (sym c.of-path.ensures) c.requires.seats.first

pub begin_path-second-requires-after_bounds : goal.begin_path-second-requires-after_bounds
begin_path-second-requires-after_bounds g c κs within =
    subst (λ (n : ℕ). AllZip (IsAt n) c.args.turns.now.items c.args.seats.second.items) (sym c.of-path-2.ensures) c.requires.seats.second

pub begin_path-third-requires-after_bounds : goal.begin_path-third-requires-after_bounds
begin_path-third-requires-after_bounds g c κs within =
    subst (λ (n : ℕ). AllZip (IsAt n) c.args.turns.now.items c.args.seats.third.items) (sym c.of-path-3.ensures) c.requires.seats.third

pub begin_path-fourth-requires-after_bounds : goal.begin_path-fourth-requires-after_bounds
begin_path-fourth-requires-after_bounds g c κs within =
    subst (λ (n : ℕ). AllZip (IsAt n) c.args.turns.now.items c.args.seats.fourth.items) (sym c.of-path-4.ensures) c.requires.seats.fourth

pub gather-requires-clause-refused : goal.gather-requires-clause-refused
gather-requires-clause-refused g c =
    subst (λ (n : ℕ). IfErr c.begin_path-first.result (λ r. IfOk r (λ v. AllZip (IsAt n) c.args.turns.now.items v.items))) c.of-path.ensures
    c.begin_path-first.ensures.refused

pub gather-requires-2-clause-refused : goal.gather-requires-2-clause-refused
gather-requires-2-clause-refused g c =
    subst (λ (n : ℕ). IfErr c.begin_path-second.result (λ r. IfOk r (λ v. AllZip (IsAt n) c.args.turns.now.items v.items))) c.of-path-2.ensures
    c.begin_path-second.ensures.refused

pub gather-requires-3-clause-refused : goal.gather-requires-3-clause-refused
gather-requires-3-clause-refused g c =
    subst (λ (n : ℕ). IfErr c.begin_path-third.result (λ r. IfOk r (λ v. AllZip (IsAt n) c.args.turns.now.items v.items))) c.of-path-3.ensures
    c.begin_path-third.ensures.refused

pub gather-requires-4-clause-refused : goal.gather-requires-4-clause-refused
gather-requires-4-clause-refused g c =
    subst (λ (n : ℕ). IfErr c.begin_path-fourth.result (λ r. IfOk r (λ v. AllZip (IsAt n) c.args.turns.now.items v.items))) c.of-path-4.ensures
    c.begin_path-fourth.ensures.refused
