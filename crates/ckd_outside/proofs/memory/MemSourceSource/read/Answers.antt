use Rattle.std.proofs.Common.{◌≡◌, ◌++◌, drop, take, length, ℕ, ◌+◌, List, arith, sym, ◌∙◌, ap, take-append-drop}
use Rattle.std.proofs.lemmas.List.{take_at, drop-drop, drop_all}
use Rattle.std.proofs.lemmas.Grind.{common_steps}
use Rattle.ckd_outside.proofs.memory.MemSourceSource.read.Goals as goal

served : (a n : ℕ) (xs cp tail : List ℕ) → cp ≡ take n (drop a xs) → length cp ≡ n → drop a xs ≡ take n (cp ++ tail) ++ drop (a + n) xs
served a n xs cp tail is len =
    sym (take-append-drop n (drop a xs))
    ∙ ap (λ (l : List ℕ). l ++ drop n (drop a xs)) (sym is ∙ sym (take_at cp tail n len))
    ∙ ap (λ (l : List ℕ). take n (cp ++ tail) ++ l) (drop-drop n a xs)

pub returns-clause-bytes : goal.returns-clause-bytes
returns-clause-bytes c = (
  ap (λ s. s.left) (sym c.self.view_is)
      ∙ served c.self.inside.at c.min-count.result c.self.inside.bytes.items c.copy_from_slice.new.self _ (grind (arith, common_steps))
      (grind (arith, common_steps)),
  λ zero some. drop_all (c.self.inside.at + c.min-count.result) c.self.inside.bytes.items (grind (arith, common_steps)),
)
