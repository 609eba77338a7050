-- What a keeper of old tracks holds behind what it was told: of each track the first image with which it was named.
use Rattle.std.proofs.Common.{
  ◌≡◌,
  ◌≢◌,
  ◌∙◌,
  ◌≤◌,
  ◌<◌,
  ◌&&◌,
  not,
  ℕ,
  Bool,
  true,
  false,
  List,
  [],
  ◌∷◌,
  length,
  get_or,
  set,
  Option,
  Some,
  None,
  is_some,
  refl,
  sym,
  ap,
  arith,
}
use Rattle.std.specs.Prelude.{◌==◌, nat_le, if◌then◌else◌}
use Rattle.std.proofs.lemmas.Bool.{eqb-true, eqb-false, le-leb}
use Rattle.std.proofs.lemmas.List.{length-set, get_or-set_same, get_or-set_other, set-get_or}
use Rattle.track_image.specs.Image.{Image}
use Rattle.track_table.specs.Table.{entry_at, has_entry}
use Rattle.device_outside.specs.Hears.{HeardAll, heard_none, heard_next}
use Rattle.device_outside.specs.Keeper.{Message, BeforeEdit, Firm, Heard, reply}
use Rattle.keeper_laws.specs.Messages.{first_named}
use Rattle.point_copy.specs.Keeping.{OldView, is_wanted, with_image, heard, heard_all, hears_old, takes_all}

-- It goes on as it is told to

one_heard : (k l : OldView) (m : Message Image) → Heard hears_old takes_all k m (reply m) l → l ≡ heard k m
one_heard k l (BeforeEdit d t i) h = h.moves
one_heard k l (Firm d t i) h = h.moves

pub all_heard : {k l : OldView} {ms : List (Message Image)} → HeardAll (Heard hears_old takes_all) k ms l → l ≡ heard_all k ms
all_heard heard_none = refl
all_heard (heard_next {k = k} {l = l} {n = n} {m = m} {ms = ms} h rest) =
    all_heard rest ∙ ap (λ (z : OldView). heard_all z ms) (one_heard k l m h)

-- Its device, the next track and the places stay

pub record IsAlike (k l : OldView) : Type 0 where
  pub device : l.device ≡ k.device
  pub next : l.next ≡ k.next
  pub size : length l.images ≡ length k.images

pub same_alike : (k : OldView) → IsAlike k k
same_alike k = record { device = refl; next = refl; size = refl }

if_alike : (w : Bool) (k : OldView) (t : ℕ) (i : Image) → IsAlike k (if w then with_image k t (Some i) else k)
if_alike true k t i = record { device = refl; next = refl; size = length-set k.images t (Some i) }
if_alike false k t i = same_alike k

heard_alike : (k : OldView) (m : Message Image) → IsAlike k (heard k m)
heard_alike k (BeforeEdit d t i) = if_alike (is_wanted k d t) k t i
heard_alike k (Firm d t i) = same_alike k

pub all_alike : (k : OldView) (ms : List (Message Image)) → IsAlike k (heard_all k ms)
all_alike k [] = same_alike k
all_alike k (m ∷ ms) =
    let one = heard_alike k m in
    let rest = all_alike (heard k m) ms in
    record { device = rest.device ∙ one.device; next = rest.next ∙ one.next; size = rest.size ∙ one.size }

-- What it holds of a track

-- what is kept, or else this
abbrev pub or_else : Option Image → Option Image → Option Image
or_else (Some i) later = Some i
or_else None later = later

none_is : (o : Option Image) → is_some o ≡ false → o ≡ None
none_is None e = refl
none_is (Some i) e = absurd (cc)

some_stays : (o : Option Image) (x y : Option Image) → is_some o ≡ true → or_else o x ≡ or_else o y
some_stays (Some i) x y e = refl
some_stays None x y e = absurd (cc)

-- a track that is wanted
taken_by : (k : OldView) (u t : ℕ) (i : Image) (rest : Option Image) (here : Bool) → (u == t) ≡ here → has_entry k.images u ≡ false →
    t < length k.images → or_else (entry_at (with_image k u (Some i)).images t) rest ≡ or_else (entry_at k.images t) (if here then Some i else rest)
taken_by k u t i rest true is none lt =
    let same : u ≡ t = eqb-true u t is in
    let now : entry_at (set k.images u (Some i)) t ≡ Some i =
    ap (λ (q : ℕ). get_or (set k.images q (Some i)) t None) same ∙ get_or-set_same k.images t (Some i) None lt in
    let was : entry_at k.images t ≡ None = none_is (entry_at k.images t) (ap (λ (q : ℕ). has_entry k.images q) (sym same) ∙ none) in
    ap (λ (o : Option Image). or_else o rest) now ∙ sym (ap (λ (o : Option Image). or_else o (Some i)) was)
taken_by k u t i rest false is none lt =
    let other : t ≢ u = λ e. eqb-false u t is (sym e) in
    ap (λ (o : Option Image). or_else o rest) (get_or-set_other k.images u t (Some i) None other)

not_off : (p q : Bool) → p ≡ true → (p && not q) ≡ false → q ≡ true
not_off true true a b = refl
not_off true false a b = absurd (cc)
not_off false q a b = absurd (cc)

not_on : (p q : Bool) → (p && not q) ≡ true → q ≡ false
not_on true false e = refl
not_on true true e = absurd (cc)
not_on false q e = absurd (cc)

-- one that isn't: it is another one, or something is kept of it
passed_by : (k : OldView) (u t : ℕ) (i : Image) (rest : Option Image) (here : Bool) → (u == t) ≡ here → k.next ≤ t →
    (nat_le k.next u && not (has_entry k.images u)) ≡ false → or_else (entry_at k.images t) rest
    ≡ or_else (entry_at k.images t) (if here then Some i else rest)
passed_by k u t i rest false is le off = refl
passed_by k u t i rest true is le off =
    let same : u ≡ t = eqb-true u t is in
    let at : (nat_le k.next t && not (has_entry k.images t)) ≡ false = ap (λ (q : ℕ). nat_le k.next q && not (has_entry k.images q)) (sym same) ∙ off in
    let kept : has_entry k.images t ≡ true =
    not_off (nat_le k.next t) (has_entry k.images t) (le-leb k.next t le) at in
    some_stays (entry_at k.images t) rest (Some i) kept

inner_by : (k : OldView) (u t : ℕ) (i : Image) (rest : Option Image) (w : Bool) → k.next ≤ t → t < length k.images →
    (nat_le k.next u && not (has_entry k.images u)) ≡ w → or_else (entry_at (if w then with_image k u (Some i) else k).images t) rest
    ≡ or_else (entry_at k.images t) (if u == t then Some i else rest)
inner_by k u t i rest true le lt on =
    taken_by k u t i rest (u == t) refl (not_on (nat_le k.next u) (has_entry k.images u) on) lt
inner_by k u t i rest false le lt off = passed_by k u t i rest (u == t) refl le off

outer_by : (k : OldView) (d u t : ℕ) (i : Image) (rest : Option Image) (mine : Bool) → (d == k.device) ≡ mine → k.next ≤ t → t < length k.images →
    or_else (entry_at (if mine && (nat_le k.next u && not (has_entry k.images u)) then with_image k u (Some i) else k).images t) rest
    ≡ or_else (entry_at k.images t) (if mine && (u == t) then Some i else rest)
outer_by k d u t i rest true is le lt = inner_by k u t i rest (nat_le k.next u && not (has_entry k.images u)) le lt refl
outer_by k d u t i rest false is le lt = refl

-- behind one message
one_kept : (k : OldView) (m : Message Image) (ms : List (Message Image)) (t : ℕ) → k.next ≤ t → t < length k.images →
    or_else (entry_at (heard k m).images t) (first_named k.device t ms) ≡ or_else (entry_at k.images t) (first_named k.device t (m ∷ ms))
one_kept k (Firm d u i) ms t le lt = refl
one_kept k (BeforeEdit d u i) ms t le lt =
    outer_by k d u t i (first_named k.device t ms) (d == k.device) refl le lt

none_else : (o : Option Image) → o ≡ or_else o None
none_else None = refl
none_else (Some i) = refl

-- behind all: what was kept, or else the first image with which the track was named
pub kept_at : (k : OldView) (ms : List (Message Image)) (t : ℕ) → k.next ≤ t → t < length k.images →
    entry_at (heard_all k ms).images t ≡ or_else (entry_at k.images t) (first_named k.device t ms)
kept_at k [] t le lt = none_else (entry_at k.images t)
kept_at k (m ∷ ms) t le lt =
    let one = heard_alike k m in
    let later = kept_at (heard k m) ms t (omega (arith, le, one.next)) (omega (arith, lt, one.size)) in
    later
    ∙ ap (λ (d : ℕ). or_else (entry_at (heard k m).images t) (first_named d t ms)) one.device
    ∙ one_kept k m ms t le lt

-- of a track of which nothing is kept, nothing is given away
pub nothing_there : (k : OldView) (t : ℕ) → entry_at k.images t ≡ None → with_image k t None ≡ k
nothing_there k t none =
    ap (λ (l : List (Option Image)). record k { images = l })
    (ap (λ (o : Option Image). set k.images t o) (sym none) ∙ set-get_or k.images t None)

-- of another track it is kept still
pub kept_elsewhere : (k : OldView) (u t : ℕ) (o : Option Image) → u < t → entry_at (with_image k u o).images t ≡ entry_at k.images t
kept_elsewhere k u t o lt = get_or-set_other k.images u t o None (λ e. omega (arith, lt, e))
