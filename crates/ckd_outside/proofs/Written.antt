-- How the parts of a text that were written come together.
use Rattle.std.proofs.Common.{[], ◌≡◌, ℕ, List, ◌++◌, take, drop, Option, refl, sym, ap, ◌∙◌, append_assoc, take-append-drop}
use Rattle.std.specs.Io.KnownBytes.{Appends}
use Rattle.std.proofs.KnownBytes.{Appends-trans, Appends-nil}

-- the text up to the rest was written
pub record Wrote (old new : Option (List ℕ)) (text rest : List ℕ) : Type 0 where
  pub front : List ℕ
  pub whole : text ≡ front ++ rest
  pub grew : Appends old new front

pub wrote_none : (a : Option (List ℕ)) (text : List ℕ) → Wrote a a text text
wrote_none a text = record { front = []; whole = refl; grew = Appends-nil a }

pub wrote_more : (a b c : Option (List ℕ)) (text rest tail : List ℕ) (n : ℕ) → Wrote a b text rest → Appends b c (take n rest) → tail ≡ drop n rest
    → Wrote a c text tail
wrote_more a b c text rest tail n w more is =
    let split : rest ≡ take n rest ++ tail = sym (take-append-drop n rest) ∙ ap (λ (l : List ℕ). take n rest ++ l) (sym is) in
    record {
      front = w.front ++ take n rest;
      whole = w.whole ∙ ap (λ (l : List ℕ). w.front ++ l) split ∙ sym (append_assoc w.front (take n rest) tail);
      grew = Appends-trans a b c w.front (take n rest) w.grew more;
    }
