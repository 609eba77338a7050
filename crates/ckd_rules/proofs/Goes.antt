-- A chain is over exactly where it goes nowhere.
use Rattle.std.proofs.Common.{◌≡◌, ℕ, ◌+◌, List, Option, Some, None, Bool, true, false, refl, sym, ap, subst, ◌∙◌}
use Rattle.std.specs.Prelude.{IfNone, ◌&&◌, ◌||◌, not, if◌then◌else◌}
use Rattle.ckd_types.specs.declared.channel.Ccw.{Ccw}
use Rattle.ckd_types.specs.Ccw.{is_chained, ccw_at}
use Rattle.ckd_types.specs.Program.{target, next_ccw}
use Rattle.ckd_types.specs.Status.{has_status_modifier, has_unit_check, has_unit_exception}
use Rattle.ckd_rules.specs.Ending.{Outcome}
use Rattle.ckd_rules.specs.Ends.{is_plain, would_go_on, at_limit, is_over, goes_to}

first_true : (x y : Bool) → (x && y) ≡ true → x ≡ true
first_true true y is = refl
first_true false y is = is

not_or : (x y : Bool) → (not x || y) ≡ false → x ≡ true
not_or true y is = refl
not_or false y is = absurd (cc)

chained : (c : Ccw) (o : Outcome) → is_over c o ≡ false → is_chained c ≡ true
chained c o is =
    let goes : would_go_on c o.ending ≡ true = not_or (would_go_on c o.ending) (at_limit o.stance) is in
    first_true (is_chained c) (not (has_unit_check o.ending.status))
    (first_true (is_chained c && not (has_unit_check o.ending.status)) (not (has_unit_exception o.ending.status))
    (first_true (is_chained c && not (has_unit_check o.ending.status) && not (has_unit_exception o.ending.status)) (is_plain o.ending.note) goes))

pub over_stops : (ccws : List Ccw) (i : ℕ) (o : Outcome) → is_over (ccw_at ccws i) o ≡ true → goes_to ccws i o ≡ None
over_stops ccws i o is = ap (λ (b : Bool). if b then None else next_ccw ccws i (has_status_modifier o.ending.status)) is

pub more_goes : (ccws : List Ccw) (i : ℕ) (o : Outcome) → is_over (ccw_at ccws i) o ≡ false →
    goes_to ccws i o ≡ Some (target ccws (i + (if has_status_modifier o.ending.status then 2 else 1)))
more_goes ccws i o is =
    ap (λ (b : Bool). if b then None else next_ccw ccws i (has_status_modifier o.ending.status)) is
    ∙ ap (λ (b : Bool). if b then Some (target ccws (i + (if has_status_modifier o.ending.status then 2 else 1))) else None) (chained (ccw_at ccws i) o is)

none_over : (ccws : List Ccw) (i : ℕ) (o : Outcome) (over : Bool) → is_over (ccw_at ccws i) o ≡ over →
    IfNone (goes_to ccws i o) (is_over (ccw_at ccws i) o ≡ true)
none_over ccws i o true is = subst (λ (next : Option ℕ). IfNone next (is_over (ccw_at ccws i) o ≡ true)) (sym (over_stops ccws i o is)) is
none_over ccws i o false is = subst (λ (next : Option ℕ). IfNone next (is_over (ccw_at ccws i) o ≡ true)) (sym (more_goes ccws i o is)) tt

-- where the chain goes nowhere it is over
pub over_where_none : (ccws : List Ccw) (i : ℕ) (o : Outcome) → IfNone (goes_to ccws i o) (is_over (ccw_at ccws i) o ≡ true)
over_where_none ccws i o = none_over ccws i o (is_over (ccw_at ccws i) o) refl
