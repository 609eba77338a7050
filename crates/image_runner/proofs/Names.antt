-- The words of a run, one after another.
use Rattle.std.proofs.Common.{◌≡◌, ◌∙◌, ◌<◌, ◌≤◌, ◌+◌, ℕ, Bool, true, false, List, ◌∷◌, None, Bor, cond, length, drop, get_or, map, refl, ap}
use Rattle.std.proofs.lemmas.List.{at_drop_all, at_drop_more}
use Rattle.image_runner.specs.Words as words
use Rattle.image_runner.specs.Words.{device_in, is_for, path_for, path_in}

abbrev pub names : List (Bor (List ℕ)) → List (List ℕ)
names ws = map (λ w. w.now) ws

first_named : (w : Bor (List ℕ)) (ws : List (Bor (List ℕ))) (d : ℕ)
    → path_for (names (w ∷ ws)) d ≡ cond (is_for (device_in w.now) d) (path_in w.now) (path_for (names ws) d)
unfolding words.path_for
first_named w ws d = refl

module _ (ws : List (Bor (List ℕ))) (d i : ℕ) (z : Bor (List ℕ)) (inside : i < length ws) where
  one : path_for (names (drop i ws)) d
      ≡ cond (is_for (device_in (get_or ws i z).now) d) (path_in (get_or ws i z).now) (path_for (names (drop (i + 1) ws)) d)
  one =
      at_drop_more (λ (l : List (Bor (List ℕ))). path_for (names l) d) ws i z inside
      ∙ first_named (get_or ws i z) (drop (i + 1) ws) d

  pub named_here : is_for (device_in (get_or ws i z).now) d ≡ true → path_for (names (drop i ws)) d ≡ path_in (get_or ws i z).now
  named_here test = one ∙ ap (λ (b : Bool). cond b (path_in (get_or ws i z).now) (path_for (names (drop (i + 1) ws)) d)) test

  pub named_behind : is_for (device_in (get_or ws i z).now) d ≡ false → path_for (names (drop i ws)) d ≡ path_for (names (drop (i + 1) ws)) d
  named_behind test = one ∙ ap (λ (b : Bool). cond b (path_in (get_or ws i z).now) (path_for (names (drop (i + 1) ws)) d)) test

pub named_nowhere : (ws : List (Bor (List ℕ))) (d i : ℕ) → length ws ≤ i → path_for (names (drop i ws)) d ≡ None
unfolding words.path_for
named_nowhere ws d i past = at_drop_all (λ (l : List (Bor (List ℕ))). path_for (names l) d) ws i past
