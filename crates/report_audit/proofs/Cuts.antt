-- The lines of a text whose first line is known.
use Rattle.std.proofs.Common.{[], ◌≡◌, ◌≢◌, ◌<◌, ◌+◌, ◌∷◌, ◌++◌, ℕ, suc, List, Bool, true, false, cond, Some, length}
use Rattle.std.proofs.Common.{refl, ap, ◌∙◌, arith}
use Rattle.std.specs.Prelude.{codes, option_map}
use Rattle.std.specs.Str.{bytes_eq}
use Rattle.std.proofs.lemmas.Bool.Decides.{nat_tests}
use Rattle.deck_text.specs.Lines.{onto_first}
use Rattle.deck_audit.specs.Verdict.{cut_lines, report_from}
use Rattle.report_audit.proofs.LineLemmas.{no_split}
use Rattle.report_audit.specs.Lines.{IsOneLine}

goes_onto : (b : ℕ) (bytes : List ℕ) → b ≢ 10 → cut_lines (b ∷ bytes) ≡ onto_first b (cut_lines bytes)
goes_onto b bytes ne = grind (arith, nat_tests)

-- a line that a line feed ends
pub cut_ended : (line rest : List ℕ) → IsOneLine line → cut_lines (line ++ 10 ∷ rest) ≡ line ∷ cut_lines rest
cut_ended [] rest one = refl
cut_ended (b ∷ bytes) rest one =
    goes_onto b (bytes ++ 10 ∷ rest) (one 0 (omega arith))
    ∙ ap (λ (l : List (List ℕ)). onto_first b l) (cut_ended bytes rest (λ k h. one (suc k) (omega (arith, h))))

-- one that none ends
pub cut_last : (line : List ℕ) → IsOneLine line → 0 < length line → cut_lines line ≡ line ∷ []
cut_last line one some = no_split line one some

-- the first REPORT of lines behind one that isn't
abbrev pub next : ℕ → ℕ
next n = n + 1

shifted : (n : ℕ) (texts : List (List ℕ)) → report_from (n + 1) texts ≡ option_map next (report_from n texts)
shifted n [] = refl
shifted n (text ∷ texts) = grind (arith, shifted (n + 1) texts)

behind_first : (b : Bool) (texts : List (List ℕ)) → b ≡ false → cond b (Some 0) (report_from 1 texts) ≡ option_map next (report_from 0 texts)
behind_first false texts is = shifted 0 texts
behind_first true texts is = absurd (cc)

pub found_behind : (line : List ℕ) (texts : List (List ℕ)) → bytes_eq line (codes "REPORT") ≡ false
    → report_from 0 (line ∷ texts) ≡ option_map next (report_from 0 texts)
found_behind line texts other = behind_first (bytes_eq line (codes "REPORT")) texts other
