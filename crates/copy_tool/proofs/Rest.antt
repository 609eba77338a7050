-- The event lines behind the first ones may be done too.
use Rattle.std.proofs.Common.{◌≡◌, ℕ, zero, suc, Bool, true, false, List, [], ◌∷◌, drop}
use Rattle.std.specs.Prelude.{if◌then◌else◌}
use Rattle.deck_plan.specs.declared.event.EventLine.{EventLine}
use Rattle.deck_run.specs.Opening.{are_open_lines, is_open_line}

if_so : (a b : Bool) → (if a then b else false) ≡ true → b ≡ true
if_so true b e = e
if_so false b e = absurd (cc)

pub rest_open : (ns : List ℕ) (n : ℕ) (es : List EventLine) → are_open_lines ns es ≡ true → are_open_lines ns (drop n es) ≡ true
rest_open ns zero es all = all
rest_open ns (suc n) [] all = all
rest_open ns (suc n) (e ∷ es) all = rest_open ns n es (if_so (is_open_line ns e) (are_open_lines ns es) all)
