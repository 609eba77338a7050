-- Workers go from turn to turn.
use Rattle.std.proofs.Common.{◌≡◌, ℕ, List, [], ◌∷◌, ◌++◌, length, take, drop, refl, ap, suc, ◌∙◌, arith, append-nil}
use Rattle.std.proofs.lemmas.List.{drop_all, take_all}
use Rattle.std.specs.List.{AllZip}
use Rattle.device_turn.specs.declared.holder.Holder.{Ghosts}
use Rattle.device_turn.specs.declared.place.Turn.{Turn}
use Rattle.device_turn.specs.declared.seat.TurnSeat.{TurnSeat}
use Rattle.device_turn.specs.Seating.{IsAt, Rests}

module _ {A B : Type 0} (R : A → B → Type 0) where
  pub zip_long : (xs : List A) (ys : List B) → AllZip R xs ys → length ys ≡ length xs
  zip_long [] [] h = refl
  zip_long [] (y ∷ ys) h = absurd h
  zip_long (x ∷ xs) [] h = absurd h
  zip_long (x ∷ xs) (y ∷ ys) h = ap suc (zip_long xs ys h.1)

  pub zip_none : (xs : List A) (ys : List B) → AllZip R xs ys → length xs ≡ 0 → ys ≡ []
  zip_none [] [] h none = refl
  zip_none [] (y ∷ ys) h none = absurd h
  zip_none (x ∷ xs) ys h none = absurd (omega (arith, none))

  pub zip_on : {C : Type 0} (S : B → C → Type 0) (T : A → C → Type 0) → ((x : A) (y : B) (z : C) → R x y → S y z → T x z) →
      (xs : List A) (ys : List B) (zs : List C) → AllZip R xs ys → AllZip S ys zs → AllZip T xs zs
  zip_on S T f [] [] [] h k = tt
  zip_on S T f [] [] (z ∷ zs) h k = absurd k
  zip_on S T f [] (y ∷ ys) zs h k = absurd h
  zip_on S T f (x ∷ xs) [] zs h k = absurd h
  zip_on S T f (x ∷ xs) (y ∷ ys) [] h k = absurd k
  zip_on S T f (x ∷ xs) (y ∷ ys) (z ∷ zs) h k = (f x y z h.0 k.0, zip_on S T f xs ys zs h.1 k.1)

-- a list that was changed as a slice
pub same_back : {A : Type 0} (n : ℕ) (xs ys : List A) → n ≡ length ys → length xs ≡ length ys → take n (xs ++ drop (length xs) ys) ≡ xs
same_back n xs ys all same =
    let none : drop (length xs) ys ≡ [] = drop_all (length xs) ys (omega (arith, same)) in
    ap (λ zs. take n (xs ++ zs)) none ∙ ap (λ zs. take n zs) (append-nil xs) ∙ take_all n xs (omega (arith, all, same))

module _ {H P : Type 0} {G : Ghosts H P} where
  -- behind its turns a seat rests at the turn
  pub rests_at : (n : ℕ) (t : Turn H P) (s z : TurnSeat H P G) → IsAt n t s → Rests s z → IsAt n t z
  rests_at n t s z at rests = record { own = rests.own ∙ at.own; number_is = rests.number_is ∙ at.number_is; away = rests.away }

  pub rests_same : (n : ℕ) (t : Turn H P) (s : TurnSeat H P G) → IsAt n t s → Rests s s
  rests_same n t s at = record { own = refl; number_is = refl; made_is = refl; away = at.away; joined = refl; pledge = refl }

  pub rests_on : (s y z : TurnSeat H P G) → Rests s y → Rests y z → Rests s z
  rests_on s y z a b = record {
    own = b.own ∙ a.own;
    number_is = b.number_is ∙ a.number_is;
    made_is = b.made_is ∙ a.made_is;
    away = b.away;
    joined = b.joined ∙ a.joined;
    pledge = b.pledge ∙ a.pledge;
  }
