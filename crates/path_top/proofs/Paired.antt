-- The lines before the first START line, one by one.
use Rattle.std.proofs.Common.{◌≡◌, ◌<◌, ◌≤◌, ◌+◌, ◌∙◌, [], ◌∷◌, ℕ, zero, suc, Bool, true, false, List, length, take, get_or, arith, refl, sym, ap, subst}
use Rattle.std.proofs.lemmas.Bool.{and_parts}
use Rattle.std.specs.Prelude.{◌&&◌, fold, if◌then◌else◌}
use Rattle.std.proofs.lemmas.List.{take_all}
use Rattle.std.proofs.lemmas.List.Sums.{fold_more}
use Rattle.deck_plan.specs.declared.event.EventLine.{EventLine}
use Rattle.deck_plan.specs.declared.event.EventLine.TheVariants as lines
use Rattle.device_outside.specs.Lists.{is_in}
use Rattle.subsystem_defs.specs.declared.event.Event.TheVariants as events
use Rattle.subsystem_defs.specs.Happening.{happens}
use Rattle.subsystem_defs.specs.Subsystem as runs
use Rattle.deck_run.specs.Opening.{are_open_lines, is_open_line}
use Rattle.path_top.specs.Pairs.{before_start, behind_line, is_start}

-- They are the first ones

first_if : (b : Bool) (e : EventLine) (es fs : List EventLine) → take (length fs) es ≡ fs →
    take (length (if b then [] else e ∷ fs)) (e ∷ es) ≡ (if b then [] else e ∷ fs)
first_if true e es fs h = refl
first_if false e es fs h = ap (λ (l : List EventLine). e ∷ l) h

pub are_first : (es : List EventLine) → take (length (before_start es)) es ≡ before_start es
are_first [] = refl
are_first (e ∷ es) = first_if (is_start e) e es (before_start es) (are_first es)

few_if : (b : Bool) (e : EventLine) (n : ℕ) (fs : List EventLine) → length fs ≤ n → length (if b then [] else e ∷ fs) ≤ suc n
few_if true e n fs h = omega arith
few_if false e n fs h = omega (arith, h)

pub no_more : (es : List EventLine) → length (before_start es) ≤ length es
no_more [] = omega arith
no_more (e ∷ es) = few_if (is_start e) e (length es) (before_start es) (no_more es)

-- The devices that they name are there

if_so : (b c : Bool) → (if b then c else false) ≡ true → (b ≡ true) × (c ≡ true)
if_so true c e = (refl, e)
if_so false c e = absurd (cc)

so_if : (b c : Bool) → b ≡ true → c ≡ true → (if b then c else false) ≡ true
so_if true c e f = f
so_if false c e f = absurd (cc)

start_open : (b : Bool) (ns : List ℕ) (e : EventLine) (fs : List EventLine) → is_open_line ns e ≡ true → are_open_lines ns fs ≡ true →
    are_open_lines ns (if b then [] else e ∷ fs) ≡ true
start_open true ns e fs one all = refl
start_open false ns e fs one all = so_if (is_open_line ns e) (are_open_lines ns fs) one all

pub before_open : (ns : List ℕ) (es : List EventLine) → are_open_lines ns es ≡ true → are_open_lines ns (before_start es) ≡ true
before_open ns [] all = refl
before_open ns (e ∷ es) all =
    let both = if_so (is_open_line ns e) (are_open_lines ns es) all in
    start_open (is_start e) ns e (before_start es) both.0 (before_open ns es both.1)

pub pair_open : (ns : List ℕ) (a b : ℕ) → is_open_line ns (lines.Pair a b) ≡ true → (is_in a ns ≡ true) × (is_in b ns ≡ true)
pair_open ns a b e = and_parts (is_in a ns) (is_in b ns) e

-- What they leave, one line on

pub one_line_on : (run : runs.Subsystem) (es : List EventLine) (i : ℕ) (e : EventLine) → i < length es → e ≡ get_or es i e →
    behind_line (fold behind_line run (take i es)) e ≡ fold behind_line run (take (i + 1) es)
one_line_on run es i e inside is =
    ap (behind_line (fold behind_line run (take i es))) is ∙ sym (fold_more behind_line run es i e inside)

pub all_lines_on : (run : runs.Subsystem) (es : List EventLine) (i : ℕ) → length es ≤ i → fold behind_line run (take i es) ≡ fold behind_line run es
all_lines_on run es i past = ap (fold behind_line run) (take_all i es past)

-- What each pair keeps they all keep

module _ (P : runs.Subsystem → Type 0) (pair : (s : runs.Subsystem) (a b : ℕ) → P s → P (happens s (events.Pair a b)).behind) where
  line_keeps : (s : runs.Subsystem) (e : EventLine) → P s → P (behind_line s e)
  line_keeps s (lines.Start path d) p = p
  line_keeps s (lines.Step d) p = p
  line_keeps s (lines.Run d) p = p
  line_keeps s (lines.Back d) p = p
  line_keeps s (lines.Settle d) p = p
  line_keeps s (lines.Reset path d) p = p
  line_keeps s lines.FailCache p = p
  line_keeps s lines.FailStore p = p
  line_keeps s (lines.FailVolume d side) p = p
  line_keeps s lines.RepairCache p = p
  line_keeps s lines.RepairStore p = p
  line_keeps s (lines.Replace d side) p = p
  line_keeps s (lines.Pair a b) p = pair s a b p
  line_keeps s (lines.Unpair a) p = p
  line_keeps s (lines.Suspend d) p = p
  line_keeps s (lines.Resume d) p = p
  line_keeps s lines.Power p = p

  pub lines_keep : (s : runs.Subsystem) (es : List EventLine) → P s → P (fold behind_line s es)
  lines_keep s [] p = p
  lines_keep s (e ∷ es) p = lines_keep (behind_line s e) es (line_keeps s e p)
