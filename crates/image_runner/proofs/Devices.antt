-- The devices of a deck, one after another.
use Rattle.std.proofs.Common.{◌≡◌, ◌∙◌, ◌<◌, ◌≤◌, ◌+◌, ◌==◌, ℕ, Bool, true, false, List, ◌∷◌, length, drop, get_or, refl, sym, ap}
use Rattle.std.specs.Prelude.{if◌then◌else◌}
use Rattle.std.proofs.lemmas.List.{at_drop_all, at_drop_more}
use Rattle.deck_text.specs.declared.line.DeviceLine.{DeviceLine}
use Rattle.deck_run.specs.Opening.{numbers_in}
use Rattle.device_outside.specs.Lists as lists
use Rattle.device_outside.specs.Lists.{is_in}

-- the number is one of these
abbrev pub is_of : ℕ → List DeviceLine → Bool
is_of n ds = is_in n (numbers_in ds)

first_or : (n : ℕ) (d : DeviceLine) (ds : List DeviceLine) → is_of n (d ∷ ds) ≡ (if n == d.number then true else is_of n ds)
unfolding lists.is_in
first_or n d ds = refl

module _ (n i : ℕ) (ds : List DeviceLine) (d : DeviceLine) (inside : i < length ds) (here : d ≡ get_or ds i d) where
  one : is_of n (drop i ds) ≡ (if n == d.number then true else is_of n (drop (i + 1) ds))
  one =
      at_drop_more (is_of n) ds i d inside
      ∙ ap (λ (x : DeviceLine). is_of n (x ∷ drop (i + 1) ds)) (sym here)
      ∙ first_or n d (drop (i + 1) ds)

  pub is_there : (n == d.number) ≡ true → is_of n (drop i ds) ≡ true
  is_there is = one ∙ ap (λ (b : Bool). if b then true else is_of n (drop (i + 1) ds)) is

  pub goes_on : (n == d.number) ≡ false → is_of n (drop i ds) ≡ is_of n (drop (i + 1) ds)
  goes_on other = one ∙ ap (λ (b : Bool). if b then true else is_of n (drop (i + 1) ds)) other

pub none_left : (n i : ℕ) (ds : List DeviceLine) → length ds ≤ i → is_of n (drop i ds) ≡ false
unfolding lists.is_in
none_left n i ds past = at_drop_all (is_of n) ds i past
