-- A field that is read is the field that was written, and what was written is read again.
use Rattle.std.proofs.Common.{
  ◌≡◌,
  ℕ,
  ◌+◌,
  ◌*◌,
  ◌/◌,
  ◌%◌,
  ◌^◌,
  ◌<◌,
  ◌≤◌,
  Bool,
  true,
  false,
  cond,
  ltb,
  leb,
  nat_eq,
  eq-eqb,
  ◌==◌,
  ◌&&◌,
  ◌⊎◌,
  inl,
  inr,
  List,
  [],
  ◌∷◌,
  ◌++◌,
  length,
  get_or,
  take,
  drop,
  Option,
  Some,
  None,
  Result,
  Ok,
  Err,
  refl,
  sym,
  ap,
  subst,
  ◌∙◌,
  append_assoc,
  arith,
}
use Rattle.std.specs.List.{starts_with}
use Rattle.std.proofs.lemmas.Bool.{ltb-false, le-ltb, le-leb, eqb-true}
use Rattle.std.proofs.lemmas.List.{take_at, take_all, drop_at, take-append-drop, length-append, length-take, length-drop, get_or-drop, drop-drop}
use Rattle.std.proofs.lemmas.Slice.Eq.{bytes_eq-Decides}
use Rattle.ckd_types.specs.declared.geometry.Cchh.{Cchh}
use Rattle.ckd_types.specs.declared.geometry.Geometry.{Geometry}
use Rattle.ckd_types.specs.declared.record.Record.{Record}
use Rattle.ckd_types.specs.Geometry.{cost, capacity}
use Rattle.ckd_types.specs.Track.{IsCchh, IsRecord, two_bytes, cchh_bytes, home_bytes, count_area, record_bytes, end_mark}
use Rattle.track_image.specs.declared.count.Count.{Count}
use Rattle.track_image.specs.Packed.{record_from}
use Rattle.track_image.specs.Reading.{◌>>=◌, count_at, areas_at, zero_at, next_at, size_of}

abbrev pub IsBytes : List ℕ → Type 0
IsBytes bytes = (i : ℕ) → get_or bytes i 0 < 256

pub IsBytes-drop : (n : ℕ) (bytes : List ℕ) → IsBytes bytes → IsBytes (drop n bytes)
IsBytes-drop n bytes h i = rw get_or-drop (h (n + i))

-- the value of a step that did not fail
pub bind_ok : {A B : Type 0} (r : Result A ℕ) (f : A → Result B ℕ) (y : B) → (r >>= f) ≡ Ok y
    → (x : A) × (r ≡ Ok x) × (f x ≡ Ok y)
bind_ok (Ok x) f y e = (x, refl, e)
bind_ok (Err at) f y e = absurd cc

-- a test that let a fault by
pub unless_ok : {A : Type 0} (b : Bool) (at : ℕ) (r : Result A ℕ) (y : A) → cond b (Err at) r ≡ Ok y
    → (b ≡ false) × (r ≡ Ok y)
unless_ok true at r y e = absurd cc
unless_ok false at r y e = (refl, e)

-- a test that had to pass
pub then_ok : {A : Type 0} (b : Bool) (r : Result A ℕ) (at : ℕ) (y : A) → cond b r (Err at) ≡ Ok y
    → (b ≡ true) × (r ≡ Ok y)
then_ok true r at y e = (refl, e)
then_ok false r at y e = absurd cc

abbrev done : {A : Type 0} → A → Result A ℕ
done x = Ok x

pub ok_is : {A : Type 0} (x y : A) → done x ≡ done y → x ≡ y
ok_is x y e = cc

not_true : (b : Bool) → (b ≡ true → ⊥) → b ≡ false
not_true true h = absurd (h refl)
not_true false h = refl

both_true : (a b : Bool) → (a && b) ≡ true → (a ≡ true) × (b ≡ true)
both_true true b e = (refl, e)
both_true false b e = absurd cc

either : {A : Type 0} (b : Bool) (x y : Result A ℕ) (z : A) → cond b x y ≡ Ok z
    → ((b ≡ true) × (x ≡ Ok z)) ⊎ ((b ≡ false) × (y ≡ Ok z))
either true x y z e = inl (refl, e)
either false x y z e = inr (refl, e)

-- ---- two bytes

two_written : (n x y : ℕ) → n ≡ x * 256 + (y * 1 + 0) → x < 256 → y < 256 → two_bytes n ≡ x ∷ y ∷ []
two_written n x y e hx hy =
    let high : n / 256 % 256 ≡ x = omega arith in
    let low : n % 256 ≡ y = omega arith in
    rw (high, low) refl

two_read : (n : ℕ) → n < 2 ^ 16 → n / 256 % 256 * 256 + (n % 256 * 1 + 0) ≡ n
two_read n h = omega arith

-- ---- a count area

abbrev pub spelled : Count → List ℕ
spelled c = cchh_bytes c.id.cchh ++ c.id.r ∷ c.key ∷ two_bytes c.body

pub count_takes : (bytes : List ℕ) → IsBytes bytes → 8 ≤ length bytes → bytes ≡ spelled (count_at bytes) ++ drop 8 bytes
count_takes [] fits long = absurd (omega arith)
count_takes (a ∷ []) fits long = absurd (omega arith)
count_takes (a ∷ b ∷ []) fits long = absurd (omega arith)
count_takes (a ∷ b ∷ c ∷ []) fits long = absurd (omega arith)
count_takes (a ∷ b ∷ c ∷ d ∷ []) fits long = absurd (omega arith)
count_takes (a ∷ b ∷ c ∷ d ∷ e ∷ []) fits long = absurd (omega arith)
count_takes (a ∷ b ∷ c ∷ d ∷ e ∷ f ∷ []) fits long = absurd (omega arith)
count_takes (a ∷ b ∷ c ∷ d ∷ e ∷ f ∷ g ∷ []) fits long = absurd (omega arith)
count_takes (a ∷ b ∷ c ∷ d ∷ e ∷ f ∷ g ∷ h ∷ rest) fits long =
    let cylinder = two_written _ a b refl (fits 0) (fits 1) in
    let head = two_written _ c d refl (fits 2) (fits 3) in
    let body = two_written _ g h refl (fits 6) (fits 7) in
    cc

pub count_again : (r : Record) (rest : List ℕ) → IsRecord r
    → count_at (count_area r ++ rest) ≡ record { id = r.id; key = length r.key; body = length r.body }
count_again r rest ranges =
    let small : length r.body < 2 ^ 16 = omega (arith, ranges.body) in
    rw (two_read r.id.cchh.cc ranges.cchh.cc, two_read r.id.cchh.hh ranges.cchh.hh, two_read (length r.body) small) refl

-- what stands in bytes has an id of two, two and one byte
pub ranges_from : (bytes : List ℕ) → IsBytes bytes → length (record_from bytes).key ≤ 255
    → length (record_from bytes).body ≤ 65534 → IsRecord (record_from bytes)
ranges_from bytes fits key body = record {
  cchh = record {
    cc = omega (arith, fits 0, fits 1);
    hh =
        omega (arith, fits 2, fits 3, get_or-drop 2 bytes 0 0, get_or-drop 2 bytes 1 0);
  };
  number = fits 4;
  key = key;
  body = body;
}

-- a home address
pub home_again : (a b : Cchh) → IsCchh a → IsCchh b → home_bytes a ≡ home_bytes b → a ≡ b
home_again a b a_is b_is e =
    let at = λ (i : ℕ). ap (λ (x : List ℕ). get_or x i 0) e in
    let cylinder : a.cc ≡ b.cc = omega (arith, at 1, at 2, a_is.cc, b_is.cc) in
    let head : a.hh ≡ b.hh = omega (arith, at 3, at 4, a_is.hh, b_is.hh) in
    rw (cylinder, head) refl

-- ---- key and data

pub record HasAreas (count : Count) (bytes : List ℕ) (r : Record) : Type 0 where
  pub id : r.id ≡ count.id
  pub key : length r.key ≡ count.key
  pub body : length r.body ≡ count.body
  pub parts : bytes ≡ (r.key ++ r.body) ++ drop (count.key + count.body) bytes

pub areas_take : (at : ℕ) (count : Count) (bytes : List ℕ) (r : Record) → areas_at at count bytes ≡ Ok r
    → HasAreas count bytes r
unfolding areas_at
areas_take at count bytes r e =
    let made : Record = record {
      id = count.id;
      key = take count.key bytes;
      body =
          take count.body (drop count.key bytes);
    } in
    let a = unless_ok (ltb (length bytes) count.key) at
    (cond (ltb (length bytes) (count.key + count.body)) (Err (at + count.key)) (Ok made)) r e in
    let b = unless_ok (ltb (length bytes) (count.key + count.body)) (at + count.key) (Ok made) r a.1 in
    let long : count.key + count.body ≤ length bytes = ltb-false _ _ b.0 in
    let parts : bytes ≡ (take count.key bytes ++ take count.body (drop count.key bytes))
    ++ drop (count.key + count.body) bytes =
    sym (append_assoc (take count.key bytes) (take count.body (drop count.key bytes))
    (drop (count.key + count.body) bytes)
    ∙ ap (λ (x : List ℕ). take count.key bytes ++ (take count.body (drop count.key bytes) ++ x))
    (sym (drop-drop count.body count.key bytes))
    ∙ ap (λ (x : List ℕ). take count.key bytes ++ x) (take-append-drop count.body (drop count.key bytes))
    ∙ take-append-drop count.key bytes) in
    subst (λ (x : Record). HasAreas count bytes x) (ok_is made r b.1) (record {
      id = refl;
      key = omega (arith, length-take count.key bytes);
      body = omega (arith, length-take count.body (drop count.key bytes), length-drop count.key bytes);
      parts = parts;
    })

pub areas_again : (at : ℕ) (r : Record) (rest : List ℕ)
    → areas_at at (record { id = r.id; key = length r.key; body = length r.body }) ((r.key ++ r.body) ++ rest) ≡ Ok r
unfolding areas_at
areas_again at r rest =
    let whole : ltb (length ((r.key ++ r.body) ++ rest)) (length r.key) ≡ false =
    le-ltb _ _ (omega (arith, length-append (r.key ++ r.body) rest, length-append r.key r.body)) in
    let both : ltb (length ((r.key ++ r.body) ++ rest)) (length r.key + length r.body) ≡ false =
    le-ltb _ _ (omega (arith, length-append (r.key ++ r.body) rest, length-append r.key r.body)) in
    let regrouped : (r.key ++ r.body) ++ rest ≡ r.key ++ (r.body ++ rest) = append_assoc r.key r.body rest in
    let key : take (length r.key) ((r.key ++ r.body) ++ rest) ≡ r.key =
    rw regrouped (take_at r.key (r.body ++ rest) (length r.key) refl) in
    let body : take (length r.body) (drop (length r.key) ((r.key ++ r.body) ++ rest)) ≡ r.body =
    rw (regrouped, drop_at r.key (r.body ++ rest) (length r.key) refl) (take_at r.body rest (length r.body) refl) in
    rw (whole, both, key, body) refl

-- the bytes of a record behind its count area
pub regroup : (r : Record) (rest : List ℕ) → record_bytes r ++ rest ≡ count_area r ++ ((r.key ++ r.body) ++ rest)
regroup r rest = ap (λ (x : List ℕ). x ++ rest) (append_assoc (count_area r) r.key r.body)
    ∙ append_assoc (count_area r) (r.key ++ r.body) rest

pub length-record_bytes : (r : Record) → length (record_bytes r) ≡ size_of r
length-record_bytes r = omega (arith, length-append (count_area r ++ r.key) r.body, length-append (count_area r) r.key)

-- what a count area and the areas behind it are together
whole_record : (at : ℕ) (bytes : List ℕ) (r : Record) → IsBytes bytes → 8 ≤ length bytes
    → areas_at at (count_at bytes) (drop 8 bytes) ≡ Ok r → bytes ≡ record_bytes r ++ drop (size_of r) bytes
whole_record at bytes r fits long e =
    let count = count_at bytes in
    let a = areas_take at count (drop 8 bytes) r e in
    let area : spelled count ≡ count_area r = rw (a.id, a.key, a.body) refl in
    let size : 8 + (count.key + count.body) ≡ size_of r = omega (arith, a.key, a.body) in
    let rest : drop (count.key + count.body) (drop 8 bytes) ≡ drop (size_of r) bytes =
    drop-drop (count.key + count.body) 8 bytes ∙ ap (λ (n : ℕ). drop n bytes) size in
    count_takes bytes fits long
    ∙ ap (λ (x : List ℕ). spelled count ++ x) (a.parts ∙ ap (λ (x : List ℕ). (r.key ++ r.body) ++ x) rest)
    ∙ ap (λ (x : List ℕ). x ++ ((r.key ++ r.body) ++ drop (size_of r) bytes)) area
    ∙ sym (regroup r (drop (size_of r) bytes))

pub zero_takes : (at : ℕ) (bytes : List ℕ) (r : Record) → IsBytes bytes → zero_at at bytes ≡ Ok r
    → (bytes ≡ record_bytes r ++ drop 16 bytes)
unfolding zero_at
zero_takes at bytes r fits e =
    let count = count_at bytes in
    let a = unless_ok (ltb (length bytes) 8) at (cond ((count.key == 0) && (count.body == 8))
    (areas_at (at + 8) count (drop 8 bytes)) (Err at)) r e in
    let b = then_ok ((count.key == 0) && (count.body == 8)) (areas_at (at + 8) count (drop 8 bytes)) at r a.1 in
    let tests = both_true (count.key == 0) (count.body == 8) b.0 in
    let areas = areas_take (at + 8) count (drop 8 bytes) r b.1 in
    let size : size_of r ≡ 16 = omega (
      arith,
      areas.key,
      areas.body,
      eqb-true count.key 0 tests.0,
      eqb-true count.body 8
          tests.1,
    ) in
    whole_record (at + 8) bytes r fits (ltb-false _ _ a.0) b.1 ∙ ap (λ (n : ℕ). record_bytes r ++ drop n bytes) size

-- a count area is no end mark
not_mark : (r : Record) (rest : List ℕ) → IsRecord r → starts_with nat_eq (count_area r ++ rest) end_mark ≡ false
not_mark r rest ranges = not_true _ (λ t.
    let same = (bytes_eq-Decides end_mark (take 8 (count_area r ++ rest))).0 t in
    let high : 255 ≡ length r.body / 256 % 256 = ap (λ (x : List ℕ). get_or x 6 0) same in
    let low : 255 ≡ length r.body % 256 = ap (λ (x : List ℕ). get_or x 7 0) same in
    omega (arith, ranges.body))

-- the end mark, with nothing behind it
abbrev at_mark : ℕ → List ℕ → Result (Option Record) ℕ
at_mark at bytes = cond (length bytes == 8) (Ok None) (Err (at + 8))

-- a record that fits
abbrev at_record : Geometry → ℕ → ℕ → List ℕ → Result (Option Record) ℕ
at_record g spent at bytes = cond (leb (spent + cost g (count_at bytes).key (count_at bytes).body) (capacity g))
    (areas_at (at + 8) (count_at bytes) (drop 8 bytes) >>= (λ r. Ok (Some r))) (Err at)

pub next_takes : (g : Geometry) (spent at : ℕ) (bytes : List ℕ) (r : Record) → IsBytes bytes
    → next_at g spent at bytes ≡ Ok (Some r) → bytes ≡ record_bytes r ++ drop (size_of r) bytes
unfolding next_at
next_takes g spent at bytes r fits e =
    let a = unless_ok (ltb (length bytes) 8) at (cond (starts_with nat_eq bytes end_mark) (at_mark at bytes)
    (at_record g spent at bytes)) (Some r) e in
    elim (either (starts_with nat_eq bytes end_mark) (at_mark at bytes) (at_record g spent at bytes) (Some r) a.1) [
      | inl m ↦ (let n = then_ok (length bytes == 8) (Ok None) (at + 8) (Some r) m.1 in absurd cc)
      | inr t ↦
          (let room = then_ok (leb (spent + cost g (count_at bytes).key (count_at bytes).body) (capacity g))
          (areas_at (at + 8) (count_at bytes) (drop 8 bytes) >>= (λ x. Ok (Some x))) at (Some r) t.1 in
          let found = bind_ok (areas_at (at + 8) (count_at bytes) (drop 8 bytes)) (λ x. Ok (Some x)) (Some r) room.1 in
          let same : found.0 ≡ r = cc (found.2) in
          whole_record (at + 8) bytes r fits (ltb-false _ _ a.0) (found.1 ∙ ap Ok same))
    ]

pub next_ends : (g : Geometry) (spent at : ℕ) (bytes : List ℕ) → next_at g spent at bytes ≡ Ok None → bytes ≡ end_mark
unfolding next_at
next_ends g spent at bytes e =
    let a = unless_ok (ltb (length bytes) 8) at (cond (starts_with nat_eq bytes end_mark) (at_mark at bytes)
    (at_record g spent at bytes)) None e in
    elim (either (starts_with nat_eq bytes end_mark) (at_mark at bytes) (at_record g spent at bytes) None a.1) [
      | inl m ↦
          (let n = then_ok (length bytes == 8) (Ok None) (at + 8) None m.1 in
          let all : take 8 bytes ≡ bytes = take_all 8 bytes (omega (arith, eqb-true (length bytes) 8 n.0)) in
          sym ((bytes_eq-Decides end_mark (take 8 bytes)).0 m.0 ∙ all))
      | inr t ↦
          (let room = then_ok (leb (spent + cost g (count_at bytes).key (count_at bytes).body) (capacity g))
          (areas_at (at + 8) (count_at bytes) (drop 8 bytes) >>= (λ x. Ok (Some x))) at None t.1 in
          let found = bind_ok (areas_at (at + 8) (count_at bytes) (drop 8 bytes)) (λ x. Ok (Some x)) None room.1 in
          absurd (cc (found.2)))
    ]

-- the next record by its count area
next_from : (g : Geometry) (spent at : ℕ) (bytes : List ℕ) (count : Count) → count_at bytes ≡ count → 8 ≤ length bytes
    → starts_with nat_eq bytes end_mark ≡ false → spent + cost g count.key count.body ≤ capacity g
    → next_at g spent at bytes ≡ (areas_at (at + 8) count (drop 8 bytes) >>= (λ r. Ok (Some r)))
unfolding next_at
next_from g spent at bytes count count_is long no_mark room =
    let full : ltb (length bytes) 8 ≡ false = le-ltb _ _ long in
    let family : Count → Type 0 = λ c. cond (leb (spent + cost g c.key c.body) (capacity g))
    (areas_at (at + 8) c (drop 8 bytes) >>= (λ r. Ok (Some r))) (Err at)
    ≡ (areas_at (at + 8) count (drop 8 bytes) >>= (λ r. Ok (Some r))) in
    let here : family count = rw (le-leb _ _ room) refl in
    rw (full, no_mark) (subst family (sym count_is) here)

-- record 0 by its count area
zero_from : (at : ℕ) (bytes : List ℕ) (count : Count) → count_at bytes ≡ count → 8 ≤ length bytes → count.key ≡ 0
    → count.body ≡ 8 → zero_at at bytes ≡ areas_at (at + 8) count (drop 8 bytes)
unfolding zero_at
zero_from at bytes count count_is long key body =
    let full : ltb (length bytes) 8 ≡ false = le-ltb _ _ long in
    let family : Count → Type 0 = λ c. cond ((c.key == 0) && (c.body == 8)) (areas_at (at + 8) c (drop 8 bytes))
    (Err at) ≡ areas_at (at + 8) count (drop 8 bytes) in
    let here : family count = rw (eq-eqb count.key 0 key, eq-eqb count.body 8 body) refl in
    rw full (subst family (sym count_is) here)

pub next_again : (g : Geometry) (spent at : ℕ) (r : Record) (rest : List ℕ) → IsRecord r
    → spent + cost g (length r.key) (length r.body) ≤ capacity g
    → next_at g spent at (record_bytes r ++ rest) ≡ Ok (Some r)
next_again g spent at r rest ranges room =
    let areas = (r.key ++ r.body) ++ rest in
    let count : Count = record { id = r.id; key = length r.key; body = length r.body } in
    ap (next_at g spent at) (regroup r rest)
    ∙ next_from g spent at (count_area r ++ areas) count (count_again r areas ranges) (omega arith)
    (not_mark r areas ranges) room
    ∙ ap (λ (x : Result Record ℕ). x >>= (λ y. Ok (Some y))) (areas_again (at + 8) r rest)

pub zero_again : (at : ℕ) (r : Record) (rest : List ℕ) → IsRecord r → length r.key ≡ 0 → length r.body ≡ 8
    → zero_at at (record_bytes r ++ rest) ≡ Ok r
zero_again at r rest ranges key body =
    let areas = (r.key ++ r.body) ++ rest in
    let count : Count = record { id = r.id; key = length r.key; body = length r.body } in
    ap (zero_at at) (regroup r rest)
    ∙ zero_from at (count_area r ++ areas) count (count_again r areas ranges) (omega arith) key body
    ∙ areas_again (at + 8) r rest
