-- Lengths of a recency list, and its least recent clean frame.
use Rattle.std.proofs.Common.{
  ◌≡◌,
  ℕ,
  ◌+◌,
  ◌≤◌,
  Bool,
  true,
  false,
  cond,
  List,
  [],
  ◌∷◌,
  ◌++◌,
  ◌-◌,
  length,
  reverse,
  Option,
  Some,
  None,
  is_some,
  arith,
  refl,
  ap,
  subst,
}
use Rattle.std.specs.Option.{option_map_or}
use Rattle.std.specs.Map.{lookup, lookup_entry, remove_entry, set_value}
use Rattle.std.proofs.lemmas.Map.{length-set_value}
use Rattle.std.proofs.lemmas.Bool.Decides.{nat_tests}
use Rattle.std.proofs.lemmas.List.{take_all, reverse-append}
use Rattle.lru.specs.LruCache.{LruCache, put_entries}
use Rattle.device_outside.specs.Pool.{Frame, is_of, first_clean, victim}

module _ {K X : Type 0} (test : K → Bool) where
  pub length_remove_entry : (es : List (K × X)) → length (remove_entry test es) ≤ length es
  length_remove_entry [] = omega arith
  length_remove_entry (e ∷ es) =
      let h = length_remove_entry es in
      elim (test e.0) as (λ b. length (cond b es (e ∷ remove_entry test es)) ≤ length (e ∷ es)) [ true ↦ omega arith | false ↦ omega (arith, h) ]

  pub length_remove_found : (es : List (K × X)) (e : K × X) → lookup_entry test es ≡ Some e → length (remove_entry test es) + 1 ≡ length es
  length_remove_found [] e h = cc
  length_remove_found (f ∷ es) e h = (elim (test f.0) as (λ b. test f.0 ≡ b → length (cond b es (f ∷ remove_entry test es)) + 1 ≡ length (f ∷ es)) [
    | true ↦ λ t. omega arith
    | false ↦ λ t. let on = length_remove_found es e (rw t at h) in omega (arith, on)
  ]) refl

  front_of : (es : List (K × X)) (o : Option (K × X)) → lookup_entry test es ≡ o → length (option_map_or (λ e. e ∷ remove_entry test es) o es) ≡ length es
  front_of es None h = refl
  front_of es (Some e) h = let on = length_remove_found es e h in omega (arith, on)

  pub length_front : (es : List (K × X)) → length (option_map_or (λ e. e ∷ remove_entry test es) (lookup_entry test es) es) ≡ length es
  length_front es = front_of es (lookup_entry test es) refl

  pub set_value_none : (es : List (K × X)) (w : X) → lookup test es ≡ None → set_value test es w ≡ es
  set_value_none [] w h = refl
  set_value_none (f ∷ es) w h = (elim (test f.0) as (λ b. test f.0 ≡ b → cond b ((f.0, w) ∷ es) (f ∷ set_value test es w) ≡ f ∷ es) [
    | true ↦ λ t. let gone = rw t at h in cc
    | false ↦ λ t. ap (λ r. f ∷ r) (set_value_none es w (rw t at h))
  ]) refl

pub length_set_value : {K X : Type 0} (test : K → Bool) (es : List (K × X)) (w : X) → length (set_value test es w) ≡ length es
length_set_value = length-set_value

module _ {K X : Type 0} (test : K → Bool) where
  none_append : (xs ys : List (K × X)) → lookup test xs ≡ None → lookup test ys ≡ None → lookup test (xs ++ ys) ≡ None
  none_append [] ys g h = h
  none_append (f ∷ xs) ys g h = (elim (test f.0) as (λ b. test f.0 ≡ b → cond b (Some f.1) (lookup test (xs ++ ys)) ≡ None) [
    | true ↦ λ t. let gone = rw t at g in cc
    | false ↦ λ t. none_append xs ys (rw t at g) h
  ]) refl

  none_reverse : (es : List (K × X)) → lookup test es ≡ None → lookup test (reverse es) ≡ None
  none_reverse [] h = refl
  none_reverse (f ∷ es) h =
      let turned : reverse (f ∷ es) ≡ reverse es ++ f ∷ [] = reverse-append (f ∷ []) es in
      rw turned ((elim (test f.0) as (λ b. test f.0 ≡ b → lookup test (reverse es ++ f ∷ []) ≡ None) [
        | true ↦ λ t. let gone = rw t at h in cc
        | false ↦ λ t. none_append (reverse es) (f ∷ []) (none_reverse es (rw t at h)) (rw t refl)
      ]) refl)

  none_entry : (es : List (K × X)) → lookup test es ≡ None → lookup_entry test es ≡ None
  none_entry [] h = refl
  none_entry (f ∷ es) h = (elim (test f.0) as (λ b. test f.0 ≡ b → cond b (Some f) (lookup_entry test es) ≡ None) [
    | true ↦ λ t. let gone = rw t at h in cc
    | false ↦ λ t. none_entry es (rw t at h)
  ]) refl

abbrev pub same : ℕ × ℕ → ℕ × ℕ → Bool
same a = is_of a.0 a.1

-- what the first clean frame of a list passes, where no frame of the list passes
clean_fails : (test : (ℕ × ℕ) → Bool) (es : List Frame) (old : ℕ × ℕ) → lookup test es ≡ None → first_clean es ≡ Some old → test old ≡ false
clean_fails test [] old h g = cc
clean_fails test (f ∷ es) old h g = (elim (test f.0) as (λ b. test f.0 ≡ b → test old ≡ false) [
  | true ↦ λ t. let gone = rw t at h in cc
  | false ↦ λ t. (elim f.1 as (λ m. f.1 ≡ m → test old ≡ false) [
    | true ↦ λ m. clean_fails test es old (rw t at h) (rw m at g)
    | false ↦ λ m. let is : f.0 ≡ old = (let s = rw m at g in cc) in subst (λ k. test k ≡ false) is t
  ]) refl
]) refl

same_swapped : (a b : ℕ × ℕ) → same a b ≡ same b a
same_swapped a b = grind (arith, nat_tests)

-- the frame that is dropped for a new one is another
pub other_frame : (es : List Frame) (k old : ℕ × ℕ) → lookup (same k) es ≡ None → victim es ≡ Some old → same old k ≡ false
other_frame es k old h g =
    let t = clean_fails (same k) (reverse es) old (none_reverse (same k) es h) g in rw (same_swapped old k) t

-- a new frame goes in front, where there is room
pub put_new : (c : LruCache (ℕ × ℕ) Bool) (k : ℕ × ℕ) → lookup (same k) c.entries ≡ None →
    length c.entries + 1 ≤ c.cap → put_entries same c k false ≡ (k, false) ∷ c.entries
put_new c k g room =
    rw (none_entry (same k) c.entries g) (ap (λ r. (k, false) ∷ r) (take_all (c.cap - 1) c.entries (omega arith)))

pub unlisted : {X : Type 0} (o : Option X) → is_some o ≡ false → o ≡ None
unlisted None h = refl
unlisted (Some x) h = cc

none_lookup : {K X : Type 0} (test : K → Bool) (es : List (K × X)) → lookup_entry test es ≡ None → lookup test es ≡ None
none_lookup test [] h = refl
none_lookup test (f ∷ es) h = (elim (test f.0) as (λ b. test f.0 ≡ b → cond b (Some f.1) (lookup test es) ≡ None) [
  | true ↦ λ t. let gone = rw t at h in cc
  | false ↦ λ t. none_lookup test es (rw t at h)
]) refl

itself : (k : ℕ × ℕ) → same k k ≡ true
itself k = grind (arith, nat_tests)

-- the frame that is dropped was listed
pub length_dropped : (es : List Frame) (old : ℕ × ℕ) → victim es ≡ Some old → length (remove_entry (same old) es) + 1 ≡ length es
length_dropped es old o = (elim (lookup_entry (same old) es) as (λ f. lookup_entry (same old) es ≡ f → length (remove_entry (same old) es) + 1 ≡ length es) [
  | Some e ↦ λ h. length_remove_found (same old) es e h
  | None ↦ λ h.
      let fails : same old old ≡ false = clean_fails (same old) (reverse es) old (none_reverse (same old) es (none_lookup (same old) es h)) o in
      let passes : same old old ≡ true = itself old in cc
]) refl
