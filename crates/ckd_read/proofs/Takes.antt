-- Pieces that come one after another come as one.
use Rattle.std.proofs.Common.{[], ◌≡◌, ℕ, zero, suc, ◌-◌, List, ◌∷◌, ◌++◌, length, take, refl, sym, ap, ◌∙◌, append_assoc, arith}
use Rattle.std.proofs.lemmas.List.{length-append}
use Rattle.ckd_read.specs.declared.sending.Sending.{Sending}
use Rattle.ckd_read.specs.Sending.{Takes}

take_both : (n : ℕ) (xs ys : List ℕ) → take n (xs ++ ys) ≡ take n xs ++ take (n - length xs) ys
take_both zero [] ys = refl
take_both (suc n) [] ys = let e : suc n ≡ suc n - length {A = ℕ} [] = omega arith in ap (λ (m : ℕ). take m ys) e
take_both zero (x ∷ xs) ys = let e : 0 ≡ 0 - length (x ∷ xs) = omega arith in ap (λ (m : ℕ). take m ys) e
take_both (suc n) (x ∷ xs) ys =
    let e : n - length xs ≡ suc n - length (x ∷ xs) = omega arith in
    ap (λ (zs : List ℕ). x ∷ zs) (take_both n xs ys ∙ ap (λ (m : ℕ). take n xs ++ take m ys) e)

pub takes_both : (a b c : Sending) (xs ys : List ℕ) → Takes a b xs → Takes b c ys → Takes a c (xs ++ ys)
takes_both a b c xs ys first then =
    record {
      bytes = then.bytes
          ∙ ap (λ (l : List ℕ). l ++ take b.left ys) first.bytes
          ∙ append_assoc a.bytes.items (take a.left xs) (take b.left ys)
          ∙ ap (λ (m : ℕ). a.bytes.items ++ (take a.left xs ++ take m ys)) first.left
          ∙ ap (λ (l : List ℕ). a.bytes.items ++ l) (sym (take_both a.left xs ys));
      left = omega (arith, first.left, then.left, length-append xs ys);
    }
