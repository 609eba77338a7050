-- How texts that are put behind one another in a buffer come together. A writer of lines cites these.
use Rattle.std.proofs.Common.{[], ◌≡◌, ◌<◌, ◌+◌, ℕ, List, ◌++◌, length, drop, get_or, Option, Result, Ok, Err, sym, ap, subst, ◌∙◌, append_assoc}
use Rattle.std.proofs.lemmas.List.{append-nil, at_drop_more}
use Rattle.std.proofs.lemmas.Result.{err_from_is_err_and}
use Rattle.std.specs.Prelude.{IsErrAnd}
use Rattle.std.specs.List.{flat_map}
use Rattle.std.proofs.KnownBytes.{Appends-trans, Appends-nil}
use Rattle.ckd_outside.specs.Texts.{AppendsFront, Writes, Moves, Stops, Puts}

-- what was put, and then a text: the part that went on
joined : (w a f x b g y : List ℕ) → w ++ a ≡ f ++ x → x ++ b ≡ g ++ y → w ++ (a ++ b) ≡ (f ++ g) ++ y
joined w a f x b g y first second =
    sym (append_assoc w a b)
    ∙ ap (λ (l : List ℕ). l ++ b) first
    ∙ append_assoc f x b
    ∙ ap (λ (l : List ℕ). f ++ l) second
    ∙ sym (append_assoc f g y)

-- a text that fits was put
pub moves_in : (o : Option (List ℕ)) (w y text : List ℕ) → y ≡ w ++ text → Moves o w o y text
moves_in o w y text is = record { front = []; whole = sym is; grew = Appends-nil o }

-- one text, and then another
pub moves_then : (o m n : Option (List ℕ)) (w x y a b : List ℕ) → Moves o w m x a → Moves m x n y b → Moves o w n y (a ++ b)
moves_then o m n w x y a b first second =
    record {
      front = first.front ++ second.front;
      whole = joined w a first.front x b second.front y first.whole second.whole;
      grew = Appends-trans o m n first.front second.front first.grew second.grew;
    }

-- one text, and then a fault in the next
pub stops_then : (o m n : Option (List ℕ)) (w x y a b : List ℕ) → Moves o w m x a → Stops m x n y b → Stops o w n y (a ++ b)
stops_then o m n w x y a b first second =
    record {
      none = second.none;
      grew = record {
        front = first.front ++ second.grew.front;
        rest = second.grew.rest;
        whole = joined w a first.front x b second.grew.front second.grew.rest first.whole second.grew.whole;
        grew = Appends-trans o m n first.front second.grew.front first.grew second.grew.grew;
      };
    }

-- a fault in a text is one in a longer text
pub stops_longer : (o n : Option (List ℕ)) (w y a b : List ℕ) → Stops o w n y a → Stops o w n y (a ++ b)
stops_longer o n w y a b s =
    record {
      none = s.none;
      grew = record {
        front = s.grew.front;
        rest = s.grew.rest ++ b;
        whole = sym (append_assoc w a b) ∙ ap (λ (l : List ℕ). l ++ b) s.grew.whole ∙ append_assoc s.grew.front s.grew.rest b;
        grew = s.grew.grew;
      };
    }

-- one text, and then a last call, which is answered as it is
pub puts_then : {T E : Type 0} (o m n : Option (List ℕ)) (w x y a b : List ℕ) (r : Result T E) → Moves o w m x a → Puts m x n y r b → Puts o w n y r (a ++ b)
puts_then o m n w x y a b (Ok v) first second = moves_then o m n w x y a b first second
puts_then o m n w x y a b (Err e) first second = stops_then o m n w x y a b first second

-- the exit of a `?`
pub puts_stopped : {T E : Type 0} (Q : E → Type 0) (o n : Option (List ℕ)) (w y text : List ℕ) (r : Result T E) → IsErrAnd r Q → Stops o w n y text
    → Puts o w n y r text
puts_stopped Q o n w y text r is s = let p = err_from_is_err_and r is in rw p.1 s

-- a flush at the end
pub flushed : {T E : Type 0} (o m n : Option (List ℕ)) (w x text : List ℕ) (r : Result T E) → Moves o w m x text → Writes m n r x → Writes o n r (w ++ text)
flushed o m n w x text (Ok v) first last = rw first.whole (Appends-trans o m n first.front x first.grew last)
flushed o m n w x text (Err e) first last =
    record {
      front = first.front ++ last.front;
      rest = last.rest;
      whole = first.whole ∙ ap (λ (l : List ℕ). first.front ++ l) last.whole ∙ sym (append_assoc first.front last.front last.rest);
      grew = Appends-trans o m n first.front last.front first.grew last.grew;
    }

-- a flush of what an empty buffer took
pub written_all : {T E : Type 0} (o m n : Option (List ℕ)) (w x text : List ℕ) (r : Result T E) → w ≡ [] → Moves o w m x text → Writes m n r x
    → Writes o n r text
written_all o m n w x text r empty first last = subst (λ (l : List ℕ). Writes o n r (l ++ text)) empty (flushed o m n w x text r first last)

-- the exit of a `?` behind an empty buffer
pub written_front : {T E : Type 0} (Q : E → Type 0) (o n : Option (List ℕ)) (w y text : List ℕ) (r : Result T E) → w ≡ [] → IsErrAnd r Q → Stops o w n y text
    → Writes o n r text
written_front Q o n w y text r empty is s =
    let p = err_from_is_err_and r is in
    rw p.1 (subst (λ (l : List ℕ). AppendsFront o n (l ++ text)) empty s.grew)

-- a loop's text was put up to the rest
pub record Put (old : Option (List ℕ)) (waited : List ℕ) (new : Option (List ℕ)) (waits text rest : List ℕ) : Type 0 where
  pub done : List ℕ
  pub whole : text ≡ done ++ rest
  pub moved : Moves old waited new waits done

-- the front of the rest was put too
pub put_more : (o m n : Option (List ℕ)) (w x y text rest piece tail : List ℕ) → Put o w m x text rest → rest ≡ piece ++ tail → Moves m x n y piece
    → Put o w n y text tail
put_more o m n w x y text rest piece tail p is more =
    record {
      done = p.done ++ piece;
      whole = p.whole ∙ ap (λ (l : List ℕ). p.done ++ l) is ∙ sym (append_assoc p.done piece tail);
      moved = moves_then o m n w x y p.done piece p.moved more;
    }

-- a fault in the front of the rest
pub put_stopped : (o m n : Option (List ℕ)) (w x y text rest piece tail : List ℕ) → Put o w m x text rest → rest ≡ piece ++ tail → Stops m x n y piece
    → Stops o w n y text
put_stopped o m n w x y text rest piece tail p is s =
    let e : text ≡ (p.done ++ piece) ++ tail = p.whole ∙ ap (λ (l : List ℕ). p.done ++ l) is ∙ sym (append_assoc p.done piece tail) in
    subst (λ (l : List ℕ). Stops o w n y l) (sym e) (stops_longer o n w y (p.done ++ piece) tail (stops_then o m n w x y p.done piece p.moved s))

-- nothing is left
pub put_all : (o n : Option (List ℕ)) (w y text rest : List ℕ) → Put o w n y text rest → rest ≡ [] → Moves o w n y text
put_all o n w y text rest p is =
    let e : text ≡ p.done = p.whole ∙ ap (λ (l : List ℕ). p.done ++ l) is ∙ append-nil p.done in
    subst (λ (l : List ℕ). Moves o w n y l) (sym e) p.moved

-- the texts of the items that are left, one item on
pub flat_step : {X : Type 0} (f : X → List ℕ) (xs : List X) (i : ℕ) (x : X) → i < length xs → x ≡ get_or xs i x
    → flat_map f (drop i xs) ≡ f x ++ flat_map f (drop (i + 1) xs)
flat_step f xs i x inside is = at_drop_more (flat_map f) xs i x inside ∙ ap (λ y. f y ++ flat_map f (drop (i + 1) xs)) (sym is)
