-- What a device does by itself leaves less to do, unless its answer is one that stops.
use Rattle.std.proofs.Common.{◌≡◌, ◌≢◌, ◌<◌, ◌≤◌, ◌+◌, ◌*◌, ◌==◌, ℕ, zero, suc, Bool, true, false, List, [], ◌∷◌, Option, Some, None, is_some, length, get_or, set, refl, sym, ap, subst, ◌∙◌, arith}
use Rattle.std.proofs.lemmas.List.{get_or-set_other}
use Rattle.std.specs.Prelude.{◌&&◌, ◌||◌, if◌then◌else◌, not}
use Rattle.std.proofs.lemmas.Bool.{or_left, or_right, and_right, ne_eqb}
use Rattle.ckd_types.specs.declared.paths.Side.{Side}
use Rattle.ckd_types.specs.declared.paths.Side.TheVariants.{A, B}
use Rattle.track_image.specs.Image.{Image}
use Rattle.track_table.specs.Tracks.{least}
use Rattle.device_defs.specs.declared.answers.Did.{Did}
use Rattle.device_defs.specs.declared.answers.Did.TheVariants as dids
use Rattle.device_defs.specs.declared.answers.Took.{Took}
use Rattle.device_defs.specs.declared.answers.Took.TheVariants.{Opened, Unwritten, Whole}
use Rattle.device_defs.specs.Background.{copied, copies_to, copy_by, copy_read, did, other, recover, recovered_bytes, saved, saved_by}
use Rattle.device_defs.specs.Contents.{by_plain}
use Rattle.device_defs.specs.Effects.{hardened}
use Rattle.device_defs.specs.Image as I
use Rattle.device_defs.specs.Image.{Got, first_read, level_bytes, read_b, second_read}
use Rattle.device_defs.specs.Losses.{call_failed, slot_in, stale_everywhere}
use Rattle.device_defs.specs.Marks.{MarksStore}
use Rattle.device_defs.specs.Store as store
use Rattle.device_defs.specs.Store.{OfBackground, frame_at, half_is, is_lost, is_loose, level_at, patch_at, stale_at, takes_b, tracks_of, with_frame, with_patch, with_stale}
use Rattle.device_defs.specs.Writing as W
use Rattle.device_defs.specs.Writing.{alone_b, cleaned, firm_first, first_a, write_opened, slot_freed, taken_a, taken_b, write_done, write_first}
use Rattle.device_laws.proofs.HeldPlaces.{none_at}
use Rattle.device_laws.proofs.Had.{Had, had_ask, had_done, had_if, had_read, had_tell, had_then, had_try, had_weaker, had_write}
use Rattle.subsystem_defs.specs.Lines.{stops}
use Rattle.subsystem_laws.proofs.HadAnswers.{any_had}
use Rattle.audit_laws.proofs.own.Weights.{copies, due_by, left, modified_by, one, sides, spot_at, sum, sum_least, sum_less, weight, weight_at, whole_weight, works}
use Rattle.device_laws.proofs.Unlost.{clear}

-- Less is left

abbrev pub Lower : MarksStore → MarksStore → Type 0
Lower s z = left z + 1 ≤ left s

abbrev pub rest_of : MarksStore → ℕ
rest_of s = length s.queue + one (is_some s.half)

pub lower_all : (s z : MarksStore) → z.cylinders ≡ s.cylinders → ((q : ℕ) → q < tracks_of s → weight_at z q ≤ weight_at s q) → rest_of z + 1 ≤ rest_of s → Lower s z
lower_all s z same less rest = grind (arith, sum_least, weight_at, sum)

pub lower_at : (s z : MarksStore) (t : ℕ) → t < tracks_of s → z.cylinders ≡ s.cylinders →
    ((q : ℕ) → q ≢ t → weight_at z q ≤ weight_at s q) → weight_at z t + rest_of z + 1 ≤ weight_at s t + rest_of s → Lower s z
lower_at s z t lt same less here =
    omega (arith, sum_less (tracks_of s) (weight_at s) (weight_at z) t lt (λ q _. less q), here, (ap (λ (k : ℕ). sum (k * 15) (weight_at z)) same))

-- Nothing is changed that counts

pub record Same (s z : MarksStore) : Type 0 where
  pub cylinders : z.cylinders ≡ s.cylinders
  pub queue : z.queue ≡ s.queue
  pub half : z.half ≡ s.half
  pub spots : (q : ℕ) → spot_at z q ≡ spot_at s q

pub same_self : (s : MarksStore) → Same s s
same_self s = record { cylinders = refl; queue = refl; half = refl; spots = λ q. refl }

pub as_least : (m n : ℕ) → m ≡ n → m ≤ n
as_least m n is = omega (arith, is)

-- Only one track is changed

pub record Near (s z : MarksStore) (t : ℕ) : Type 0 where
  pub cylinders : z.cylinders ≡ s.cylinders
  pub queue : z.queue ≡ s.queue
  pub half : z.half ≡ s.half
  pub a : z.a.up ≡ s.a.up
  pub b : z.b.up ≡ s.b.up
  pub held : z.held ≡ s.held
  pub others : (q : ℕ) → q ≢ t → spot_at z q ≡ spot_at s q

abbrev Around : Type 0
Around = ℕ × (List ℕ × (Option (store.HalfWrite (Unit {0})) × (Bool × (Bool × Bool))))

abbrev around : MarksStore → Around
around s = (s.cylinders, (s.queue, (s.half, (s.a.up, (s.b.up, s.held)))))

-- nothing but tracks
pub near_by : {s z : MarksStore} {t : ℕ} → around z ≡ around s → ((q : ℕ) → q ≢ t → spot_at z q ≡ spot_at s q) → Near s z t
near_by same others = search arith

pub near_self : (s : MarksStore) (t : ℕ) → Near s s t
near_self s t = near_by refl (λ q ne. refl)

pub near_on : (s z y : MarksStore) (t : ℕ) → Near s z t → Near z y t → Near s y t
near_on s z y t f g = search arith

pub near_if : (s z y : MarksStore) (t : ℕ) (b : Bool) → Near s z t → Near s y t → Near s (if b then z else y) t
near_if s z y t b f g = grind arith

near_stale_a : (s : MarksStore) (t : ℕ) (v : Bool) → Near s (with_stale s A t v) t
near_stale_a s t v = near_by refl (λ q ne. ap (λ (x : Bool). record (spot_at s q) { a_stale = x }) (get_or-set_other s.a.stale t q v false ne))

pub near_stale_b : (s : MarksStore) (t : ℕ) (v : Bool) → Near s (with_stale s B t v) t
near_stale_b s t v = near_by refl (λ q ne. ap (λ (x : Bool). record (spot_at s q) { b_stale = x }) (get_or-set_other s.b.stale t q v false ne))

pub near_firm : (s : MarksStore) (t : ℕ) → Near s (hardened s t) t
near_firm s t = near_by refl (λ q ne. ap (λ (x : Bool). record (spot_at s q) { loose = x }) (get_or-set_other s.loose t q false false ne))

pub near_frame : (s : MarksStore) (t : ℕ) (f : Option Bool) → Near s (with_frame s t f) t
near_frame s t f = near_by refl (λ q ne. ap (λ (x : Option Bool). record (spot_at s q) { frame = x }) (get_or-set_other s.frames t q f None ne))

pub near_bare : (s : MarksStore) (t : ℕ) → Near s (with_patch s t None) t
near_bare s t = near_by refl (λ q ne. ap (λ (x : Option (Unit {0})). record (spot_at s q) { patched = is_some x }) (get_or-set_other s.patches t q None None ne))

pub near_everywhere : (s : MarksStore) (t : ℕ) → Near s (stale_everywhere s t) t
near_everywhere s t =
    let z = with_stale s A t true in
    near_if s (with_stale z B t true) z t s.paired (near_on s z (with_stale z B t true) t (near_stale_a s t true) (near_stale_b z t true)) (near_stale_a s t true)

pub near_taken : (s : MarksStore) (t : ℕ) → Near s (taken_a s t) t
near_taken s t =
    let z = with_stale s A t false in
    near_if s (with_stale z B t true) z t s.b.up (near_on s z (with_stale z B t true) t (near_stale_a s t false) (near_stale_b z t true)) (near_stale_a s t false)

pub some_at : (l : List (Option Bool)) (t : ℕ) (x : Bool) → is_some (get_or l t None) ≡ true → get_or (set l t (Some x)) t None ≡ Some x
some_at [] t x e = absurd (cc)
some_at (y ∷ l) zero x e = refl
some_at (y ∷ l) (suc t) x e = some_at l t x e

-- Tests

no_copies : (a stale c k d e : Bool) → stale ≡ false → k ≡ false → ((a && stale && c) || (k && d && e)) ≡ false
no_copies a stale c k d e is none = grind arith

no_copies_b : (a stale c k d e : Bool) → a ≡ false → d ≡ false → ((a && stale && c) || (k && d && e)) ≡ false
no_copies_b a stale c k d e is none = grind arith

pub idle : (lost : Bool) (f : Option Bool) (p l : Bool) → modified_by f ≡ false → p ≡ false → l ≡ false →
    ((not lost && due_by f p l) || (l || (modified_by f && p))) ≡ false
idle lost f p l clean bare firm = grind arith

pub only_copies : (y v : MarksStore) (t : ℕ) → v.a ≡ y.a → v.b ≡ y.b → v.held ≡ y.held → copies (spot_at v t) ≡ copies (spot_at y t)
only_copies y v t a b held = grind arith

-- A track is written

abbrev FirmSo : MarksStore → ℕ → MarksStore → Type 0
FirmSo s t z = Near s z t × (is_loose z t ≡ false)

everywhere_loose : (s : MarksStore) (t : ℕ) → (stale_everywhere s t).loose ≡ s.loose
everywhere_loose s t = grind arith

firm_so : (s : MarksStore) (t : ℕ) → Had (firm_first by_plain s t) (λ z (_ : Bool). FirmSo s t z)
firm_so s t =
    had_if (is_loose s t)
    (λ _. had_tell (had_done (
      near_on s (hardened s t) (stale_everywhere (hardened s t) t) t (near_firm s t) (near_everywhere (hardened s t) t),
      ap (λ (l : List Bool). get_or l t false) (everywhere_loose (hardened s t) t) ∙ clear s.loose t,
    )))
    (λ e. had_done (near_self s t, e))

record Took1 (s z : MarksStore) (t : ℕ) : Type 0 where
  near : Near s z t
  none : copies (spot_at z t) ≡ false
  some : 1 ≤ sides (spot_at s t)
  loose : z.loose ≡ s.loose

record Took2 (s z : MarksStore) (t : ℕ) : Type 0 where
  near : Near s z t
  level : (z.a.up && stale_at z.a t) ≡ false
  both : sides (spot_at s t) ≡ 2

abbrev TookSo : MarksStore → ℕ → MarksStore → Took → Option Side → Type 0
TookSo s t z Whole None = Took1 s z t
TookSo s t z Whole (Some side) = Unit {0}
TookSo s t z Opened fault = Took2 s z t
TookSo s t z Unwritten fault = Unit {0}

abbrev Takes : MarksStore → ℕ → MarksStore → W.Wrote → Type 0
Takes s t z w = TookSo s t z w.took w.fault

taken_level : (s : MarksStore) (t : ℕ) → stale_at (taken_a s t).a t ≡ false
taken_level s t = grind (arith, clear)

taken_loose : (s : MarksStore) (t : ℕ) → (taken_a s t).loose ≡ s.loose
taken_loose s t = grind arith

pub takes_same : (s z : MarksStore) (t : ℕ) → Near s z t → takes_b z ≡ takes_b s
takes_same s z t n = ap (λ (x : Bool). x && not z.held) n.b ∙ ap (λ (x : Bool). s.b.up && not x) n.held

-- the counts of calls count for nothing here
counted_near : (s z : MarksStore) (t : ℕ) → Near (W.write_counted s true) z t → Near s z t
counted_near s z t n = search arith

took_by : (s : MarksStore) (t : ℕ) (b : Bool) → takes_b s ≡ b → s.a.up ≡ true →
    Takes s t (taken_a (W.write_counted s true) t) (W.wrote (if b then Opened else Whole) None)
took_by s t true is up =
    let w = W.write_counted s true in
    let near = counted_near s (taken_a w t) t (near_taken w t) in
    record { near = near; level = and_right (taken_a w t).a.up (stale_at (taken_a w t).a t) (taken_level w t); both = (grind arith) }
took_by s t false is up =
    let w = W.write_counted s true in
    let z = taken_a w t in
    let none = no_copies z.a.up (stale_at z.a t) (z.b.up && not (stale_at z.b t)) (takes_b z) (stale_at z.b t) (z.a.up && not (stale_at z.a t))
    (taken_level w t) (takes_same w z t (near_taken w t) ∙ is)
    in
    record { near = counted_near s z t (near_taken w t); none = none; some = (grind arith); loose = taken_loose w t }

late_b : (s : MarksStore) (t : ℕ) (z : MarksStore) (ok : Bool) → Had (alone_b by_plain t (Some A) A z ok) (Takes s t)
late_b s t z true = had_done tt
late_b s t z false = had_then (any_had (call_failed by_plain z B (Some t))) (λ y _ _. had_done tt)

first_so : (s : MarksStore) (t : ℕ) → s.a.up ≡ true → (r ok : Bool) → Had (first_a by_plain t r (W.write_counted s ok) ok) (Takes s t)
first_so s t up r true = had_done (took_by s t (takes_b s) refl up)
first_so s t up r false =
    had_then (any_had (call_failed by_plain (W.write_counted s false) A (Some t)))
    (λ z _ _. had_if (takes_b (W.write_counted s false)) (λ _. had_write (λ ok. late_b s t (W.write_counted z ok) ok)) (λ _. had_done tt))

alone_so : (s : MarksStore) (t : ℕ) → s.a.up ≡ false → takes_b s ≡ true → (ok : Bool) → Had (alone_b by_plain t None B (W.write_counted s ok) ok) (Takes s t)
alone_so s t down is true =
    let z = taken_b (W.write_counted s true) t in
    let none = no_copies_b z.a.up (stale_at z.a t) (z.b.up && not (stale_at z.b t)) (takes_b z) (stale_at z.b t) (z.a.up && not (stale_at z.a t)) down
    (clear s.b.stale t)
    in
    had_done (record { near = near_by refl (near_stale_b s t false).others; none = none; some = (grind arith); loose = refl })
alone_so s t down is false = had_then (any_had (call_failed by_plain (W.write_counted s false) B (Some t))) (λ z _ _. had_done tt)

write_so : (s : MarksStore) (t : ℕ) (r : Bool) → Had (write_first by_plain s t r) (Takes s t)
unfolding W.write_first
write_so s t r = search (arith, had_if, had_write, first_so, alone_so, had_done)

-- The write is done

pub record Bared (s z : MarksStore) (t : ℕ) : Type 0 where
  pub near : Near s z t
  pub a : z.a ≡ s.a
  pub b : z.b ≡ s.b
  pub loose : z.loose ≡ s.loose
  pub frame : frame_at z t ≡ frame_at s t
  pub bare : is_some (patch_at z t) ≡ false

pub freed_so : (s : MarksStore) (t : ℕ) (o : Option (Unit {0})) → patch_at s t ≡ o →
    Had (slot_freed by_plain s t (slot_in by_plain o)) (λ z (_ : Unit {0}). Bared s z t)
freed_so s t None e = had_done (record { near = near_self s t; a = refl; b = refl; loose = refl; frame = refl; bare = ap (λ (x : Option (Unit {0})). is_some x) e })
freed_so s t (Some p) e = had_ask (λ _. had_done (search (arith, near_bare, none_at)))

pub record Written (s z : MarksStore) (t : ℕ) : Type 0 where
  pub near : Near s z t
  pub a : z.a ≡ s.a
  pub b : z.b ≡ s.b

-- of a store in which only tracks differ
pub written_by : {s z : MarksStore} {t : ℕ} → around z ≡ around s → z.a ≡ s.a → z.b ≡ s.b → ((q : ℕ) → q ≢ t → spot_at z q ≡ spot_at s q) → Written s z t
written_by same a b others = record { near = near_by same others; a = a; b = b }

abbrev pub IsDone : MarksStore → MarksStore → ℕ → Type 0
IsDone s z t = Written s z t × (works (spot_at z t) ≡ false)

clean_off : (o : Option Bool) → is_some o ≡ false → modified_by o ≡ false
clean_off o e = grind arith

written_bared : (s x z : MarksStore) (t : ℕ) → Near s x t → x.a ≡ s.a → x.b ≡ s.b → x.loose ≡ s.loose → modified_by (frame_at x t) ≡ false → is_loose s t ≡ false →
    Bared x z t → IsDone s z t
written_bared s x z t n a b loose clean firm k = grind (arith, near_on, idle)

pub write_is_done : (s : MarksStore) (t : ℕ) (i : Image) (bypass : Bool) → is_loose s t ≡ false →
    Had (write_done by_plain s t i bypass) (λ z (_ : Unit {0}). IsDone s z t)
unfolding W.write_done
write_is_done s t i bypass firm =
    had_if (is_some (frame_at s t))
    (λ there. had_if bypass (λ _. had_ask (λ _. framed None (ap modified_by (none_at s.frames t))))
    (λ _. had_ask (λ _. framed (Some false) (ap modified_by (some_at s.frames t false there)))))
    (λ none. had_weaker (freed_so s t (patch_at s t) refl)
    (λ z _ k. written_bared s s z t (near_self s t) refl refl refl (clean_off (frame_at s t) none) firm k))
  where
    framed : (f : Option Bool) → modified_by (frame_at (with_frame s t f) t) ≡ false →
        Had (slot_freed by_plain (with_frame s t f) t (slot_in by_plain (patch_at s t))) (λ z (_ : Unit {0}). IsDone s z t)
    framed f clean =
        had_weaker (freed_so (with_frame s t f) t (patch_at s t) refl)
        (λ z _ k. written_bared s (with_frame s t f) z t (near_frame s t f) refl refl refl clean firm k)

-- A half write is opened

record OpenSo (s z : MarksStore) (t : ℕ) : Type 0 where
  cylinders : z.cylinders ≡ s.cylinders
  queue : z.queue ≡ s.queue
  a : z.a ≡ s.a
  open_is : is_some z.half ≡ true
  mine : half_is z.half t ≡ true
  others : (q : ℕ) → q ≢ t → spot_at z q ≡ spot_at s q

pub own_is : (t : ℕ) → (t == t) ≡ true
own_is t = grind arith

pub not_own : (t q : ℕ) → q ≢ t → (t == q) ≡ false
not_own t q ne = ne_eqb t q (λ e. ne (sym e))

opened_spot : (s : MarksStore) (t q : ℕ) → s.half ≡ None → q ≢ t → record (spot_at s q) { half = t == q } ≡ spot_at s q
opened_spot s t q whole ne = grind (arith, not_own)

opened_so : (s : MarksStore) (t : ℕ) (i : Image) (was : Bool) → s.half ≡ None → Had (write_opened by_plain s t i OfBackground was) (λ z (_ : Unit {0}). OpenSo s z t)
opened_so s t i true whole =
    let z = with_frame s t (cleaned by_plain (frame_at s t)) in
    let others = λ (q : ℕ) (ne : q ≢ t). opened_spot z t q whole ne ∙ (near_frame s t (cleaned by_plain (frame_at s t))).others q ne in
    had_ask (λ _. had_done (record { cylinders = refl; queue = refl; a = refl; open_is = refl; mine = own_is t; others = others }))
opened_so s t i false whole = had_done (search (arith, own_is))

-- Answers

abbrev pub WorkSo : MarksStore → MarksStore → Option Did → Type 0
WorkSo s z (Some d) = stops d ≡ false → Lower s z
WorkSo s z None = ⊥

pub stopped : (s z : MarksStore) (f : Option Side) (d : Did) → stops d ≡ true → stops (did f d) ≡ false → Lower s z
stopped s z f d is e = grind arith

-- once a call failed
late_by : (s : MarksStore) (t : ℕ) (i : Image) (d : Did) (side : Side) (was : Bool) (failed : Option Side) (y : MarksStore) (took : Took) →
    Had (saved_by by_plain t i d (Some side) was failed y took) (λ z e. stops e ≡ false → Lower s z)
late_by s t i d side was failed y Whole = had_then (any_had (write_done by_plain y t i false)) (λ z _ _. had_done (stopped s z None (dids.Fault side) refl))
late_by s t i d side was failed y Opened =
    had_then (any_had (write_opened by_plain y t i OfBackground was)) (λ z _ _. had_done (stopped s z None (dids.Fault side) refl))
late_by s t i d side was failed y Unwritten = had_done (stopped s y None (dids.Fault side) refl)

late_saved : (s z : MarksStore) (t : ℕ) (i : Image) (d : Did) (side : Side) → Had (saved by_plain z t i d (Some side)) (WorkSo s)
late_saved s z t i d side =
    had_try (had_then {p = λ y e. stops e ≡ false → Lower s y}
    (had_then (any_had (firm_first by_plain z t))
    (λ x was _. had_then (any_had (write_first by_plain x t true)) (λ y w _. late_by s t i d side was w.fault y w.took)))
    (λ y e h. had_done h))

-- The weight of a track

pub half_off : (b : Bool) (n m : ℕ) → b ≡ false → (if b then n else m) ≡ m
half_off b n m e = grind arith

pub half_on : (b : Bool) (n m : ℕ) → b ≡ true → (if b then n else m) ≡ n
half_on b n m e = grind arith

pub spot_whole : (s : MarksStore) (q : ℕ) → s.half ≡ None → half_is s.half q ≡ false
spot_whole s q whole = ap (λ (h : Option (store.HalfWrite (Unit {0}))). half_is h q) whole

pub whole_at : (s : MarksStore) (q : ℕ) → s.half ≡ None → weight_at s q ≡ whole_weight (spot_at s q)
whole_at s q whole = half_off (half_is s.half q) (one (s.a.up && stale_at s.a q)) (whole_weight (spot_at s q)) (spot_whole s q whole)

works_weigh : (s : MarksStore) (q : ℕ) → s.half ≡ None → works (spot_at s q) ≡ true → sides (spot_at s q) ≤ weight_at s q
works_weigh s q whole is = grind (arith, whole_at, half_on)

pub light : (s : MarksStore) (q : ℕ) → s.half ≡ None → works (spot_at s q) ≡ false → copies (spot_at s q) ≡ false → weight_at s q ≡ 0
light s q whole off none = grind (arith, whole_at, half_off)

pub none_open : (s : MarksStore) → s.half ≡ None → one (is_some s.half) ≡ 0
none_open s whole = ap (λ (h : Option (store.HalfWrite (Unit {0}))). one (is_some h)) whole

pub sides_near : (s z : MarksStore) (t q : ℕ) → Near s z t → sides (spot_at z q) ≡ sides (spot_at s q)
sides_near s z t q n = ap (λ (x : Bool). one x + one (takes_b z)) n.a ∙ ap (λ (x : Bool). one s.a.up + one x) (takes_same s z t n)

pub same_weight : (s z : MarksStore) (q : ℕ) → spot_at z q ≡ spot_at s q → weight_at z q ≤ weight_at s q
same_weight s z q is = as_least (weight_at z q) (weight_at s q) (ap weight is)

module _ (s : MarksStore) (whole : s.half ≡ None) (t : ℕ) (lt : t < tracks_of s) (due : works (spot_at s t) ≡ true) where
  -- in one event
  written_lower : (x y z : MarksStore) → FirmSo s t x → Took1 x y t → IsDone y z t → Lower s z
  written_lower x y z f k g =
      let n = near_on s y z t (near_on s x y t f.0 k.near) g.0.near in
      let empty = light z t (n.half ∙ whole) g.1 (only_copies y z t g.0.a g.0.b g.0.near.held ∙ k.none) in
      let same = sides_near s x t t f.0 in
      lower_at s z t lt n.cylinders (λ q ne. same_weight s z q (n.others q ne))
      (omega (arith, empty, works_weigh s t whole due, k.some, same, none_open z (n.half ∙ whole), (ap length n.queue)))

  -- the first part of two
  opened_lower : (x y z : MarksStore) → FirmSo s t x → Took2 x y t → OpenSo y z t → Lower s z
  opened_lower x y z f k g =
      let n = near_on s x y t f.0 k.near in
      let level = ap one (ap (λ (m : store.SideMarks). m.up && stale_at m t) g.a ∙ k.level) in
      let open_is = half_on (half_is z.half t) (one (z.a.up && stale_at z.a t)) (whole_weight (spot_at z t)) g.mine in
      lower_at s z t lt (g.cylinders ∙ n.cylinders) (λ q ne. same_weight s z q (g.others q ne ∙ n.others q ne))
      (omega (arith, level, open_is, works_weigh s t whole due, k.both, sides_near s x t t f.0, (ap one g.open_is), (ap length (g.queue ∙ n.queue))))

  by_took : (i : Image) (d : Did) (x : MarksStore) (was : Bool) → FirmSo s t x → (failed : Option Side) (y : MarksStore) (took : Took) → TookSo x t y took failed →
      Had (saved_by by_plain t i d None was failed y took) (λ z e. stops e ≡ false → Lower s z)
  by_took i d x was f None y Whole k =
      had_then (write_is_done y t i false (ap (λ (l : List Bool). get_or l t false) k.loose ∙ f.1)) (λ z _ g. had_done (λ _. written_lower x y z f k g))
  by_took i d x was f (Some side) y Whole k =
      had_then (any_had (write_done by_plain y t i false)) (λ z _ _. had_done (stopped s z None (dids.Fault side) refl))
  by_took i d x was f failed y Opened k =
      had_then (opened_so y t i was ((near_on s x y t f.0 k.near).half ∙ whole)) (λ z _ g. had_done (λ _. opened_lower x y z f k g))
  by_took i d x was f failed y Unwritten k = had_done (stopped s y failed dids.Nothing refl)

  pub saved_so : (i : Image) (d : Did) (fault : Option Side) → Had (saved by_plain s t i d fault) (WorkSo s)
  saved_so i d (Some side) = late_saved s s t i d side
  saved_so i d None =
      had_try (had_then {p = λ z e. stops e ≡ false → Lower s z}
      (had_then (firm_so s t) (λ x was f. had_then (write_so x t true) (λ y w k. by_took i d x was f w.fault y w.took k)))
      (λ z e h. had_done h))

-- What a level side gives

abbrev pub GotSo : MarksStore → MarksStore → Option Side → Type 0
GotSo s z None = Same s z
GotSo s z (Some side) = Unit {0}

abbrev Gives : MarksStore → MarksStore → Got Bool → Type 0
Gives s z g = GotSo s z g.fault

late_read : (s z : MarksStore) (o : Option Bool) → Had (second_read by_plain (Some A) z o) (Gives s)
late_read s z (Some r) = had_done tt
late_read s z None = had_then (any_had (call_failed by_plain z B None)) (λ y _ _. had_done tt)

late_got : (s z : MarksStore) (t : ℕ) → Had (read_b by_plain z t (Some A)) (Gives s)
late_got s z t = had_if (level_at z.b t) (λ _. had_read (λ o. late_read s (I.read_counted z (is_some o)) o)) (λ _. had_done tt)

read_same : (s : MarksStore) (b : Bool) → Same s (I.read_counted s b)
read_same s b = record { cylinders = refl; queue = refl; half = refl; spots = λ q. refl }

first_got : (s : MarksStore) (t : ℕ) (o : Option Bool) → Had (first_read by_plain t (I.read_counted s (is_some o)) o) (Gives s)
first_got s t (Some r) = had_done (read_same s true)
first_got s t None = had_then (any_had (call_failed by_plain (I.read_counted s false) A None)) (λ z _ _. late_got s z t)

only_got : (s : MarksStore) (o : Option Bool) → Had (second_read by_plain None (I.read_counted s (is_some o)) o) (Gives s)
only_got s (Some r) = had_done (read_same s true)
only_got s None = had_then (any_had (call_failed by_plain (I.read_counted s false) B None)) (λ z _ _. had_done tt)

pub level_so : (s : MarksStore) (t : ℕ) → Had (level_bytes by_plain s t) (Gives s)
unfolding I.level_bytes
level_so s t =
    had_if (level_at s.a t) (λ _. had_read (λ o. first_got s t o))
    (λ _. had_if (level_at s.b t) (λ _. had_read (λ o. only_got s o)) (λ _. had_done (same_self s)))

-- what is the same has as much left
pub same_least : (s z : MarksStore) → Same s z → left z ≤ left s
same_least s z e = grind (arith, sum_least)

pub lower_on : (s z y : MarksStore) → left z ≤ left s → Lower z y → Lower s y
lower_on s z y least lower = omega (arith, least, lower)

pub work_on : (s z y : MarksStore) (a : Option Did) → left z ≤ left s → WorkSo z y a → WorkSo s y a
work_on s z y a least h = grind (arith, lower_on)

-- Recovery

recovered_so : (s z : MarksStore) (t : ℕ) → s.half ≡ None → t < tracks_of s → works (spot_at s t) ≡ true → (i : Image) (fault : Option Side) → GotSo s z fault →
    Had (saved by_plain z t i (dids.Recovered t) fault) (WorkSo s)
recovered_so s z t whole lt due i None e =
    had_weaker (saved_so z (e.half ∙ whole) t (subst (λ (n : ℕ). t < n * 15) (sym e.cylinders) lt) (ap works (e.spots t) ∙ due) i (dids.Recovered t) None)
    (λ y a h. work_on s z y a (same_least s z e) h)
recovered_so s z t whole lt due i (Some side) e = late_saved s z t i (dids.Recovered t) side

bytes_so : (s z : MarksStore) (t : ℕ) → s.half ≡ None → t < tracks_of s → works (spot_at s t) ≡ true → (g : Got Bool) → GotSo s z g.fault → (o : Option Bool) →
    Had (recovered_bytes by_plain t z g o) (WorkSo s)
bytes_so s z t whole lt due g e None = had_done (stopped s z g.fault dids.Nothing refl)
bytes_so s z t whole lt due g e (Some true) = had_try (recovered_so s z t whole lt due _ g.fault e)
bytes_so s z t whole lt due g e (Some false) = had_try (had_done (stopped s z g.fault (dids.BadBytes g.side) refl))

pub recover_so : (s : MarksStore) (t : ℕ) (f : Option Bool) → s.half ≡ None → t < tracks_of s → works (spot_at s t) ≡ true → Had (recover by_plain s t f) (WorkSo s)
recover_so s t (Some f) whole lt due = saved_so s whole t lt due _ (dids.Recovered t) None
recover_so s t None whole lt due = had_then (level_so s t) (λ z g e. bytes_so s z t whole lt due g e g.bytes)

-- Copying

copied_a : (a stale b b_stale held : Bool) → (a && stale && (b && not b_stale)) ≡ true →
    ((a && false && (b && not b_stale)) || ((b && not held) && b_stale && (a && true))) ≡ false
copied_a a stale b b_stale held e = grind arith

copied_b : (a stale b b_stale held : Bool) → ((b && not held) && b_stale && (a && not stale)) ≡ true →
    ((a && stale && (b && true)) || ((b && not held) && false && (a && not stale))) ≡ false
copied_b a stale b b_stale held e = grind arith

-- the track is as it was but for its copy
copy_lower : (s z : MarksStore) (t : ℕ) → s.half ≡ None → t < tracks_of s → Near s z t → works (spot_at z t) ≡ works (spot_at s t) → copies (spot_at s t) ≡ true →
    copies (spot_at z t) ≡ false → Lower s z
copy_lower s z t whole lt n same before behind =
    let work = ap (λ (b : Bool). if b then sides (spot_at z t) else 0) same
    ∙ ap (λ (k : ℕ). if works (spot_at s t) then k else 0) (sides_near s z t t n)
    in
    let opens = ap (λ (h : Option (store.HalfWrite (Unit {0}))). one (is_some h)) n.half in
    lower_at s z t lt n.cylinders (λ q ne. same_weight s z q (n.others q ne))
    (omega (arith, whole_at s t whole, whole_at z t (n.half ∙ whole), (ap one before), (ap one behind), work, opens, (ap length n.queue)))

abbrev IsCopied : MarksStore → ℕ → Side → Type 0
IsCopied s t A = (s.a.up && stale_at s.a t && level_at s.b t) ≡ true
IsCopied s t B = (takes_b s && stale_at s.b t && level_at s.a t) ≡ true

copied_lower : (s : MarksStore) (t : ℕ) (side : Side) → s.half ≡ None → t < tracks_of s → IsCopied s t side → Lower s (with_stale s side t false)
copied_lower s t A whole lt is =
    let z = with_stale s A t false in
    copy_lower s z t whole lt (near_stale_a s t false) refl (or_left (s.a.up && stale_at s.a t && level_at s.b t) _ is)
    (ap (λ (b : Bool). copies (record (spot_at z t) { a_stale = b })) (clear s.a.stale t)
    ∙ copied_a s.a.up (stale_at s.a t) s.b.up (stale_at s.b t) s.held is)
copied_lower s t B whole lt is =
    let z = with_stale s B t false in
    copy_lower s z t whole lt (near_stale_b s t false) refl (or_right _ (takes_b s && stale_at s.b t && level_at s.a t) is)
    (ap (λ (b : Bool). copies (record (spot_at z t) { b_stale = b })) (clear s.b.stale t)
    ∙ copied_b s.a.up (stale_at s.a t) s.b.up (stale_at s.b t) s.held is)

copied_so : (s : MarksStore) (t : ℕ) (side : Side) → s.half ≡ None → t < tracks_of s → IsCopied s t side → (ok : Bool) →
    Had (copied by_plain t side (W.write_counted (I.read_counted s true) ok) ok) (WorkSo s)
copied_so s t A whole lt is true = had_done (λ _. copied_lower s t A whole lt is)
copied_so s t B whole lt is true = had_done (λ _. copied_lower s t B whole lt is)
copied_so s t side whole lt is false = had_then (any_had (call_failed by_plain (W.write_counted (I.read_counted s true) false) side None)) (λ y _ _. had_done (λ e. absurd (cc)))

copy_read_so : (s : MarksStore) (t : ℕ) (side : Side) → s.half ≡ None → t < tracks_of s → IsCopied s t side → (r : Option Bool) →
    Had (copy_read by_plain t side (I.read_counted s (is_some r)) r) (WorkSo s)
copy_read_so s t side whole lt is None = had_then (any_had (call_failed by_plain (I.read_counted s false) (other side) None)) (λ y _ _. had_done (λ e. absurd (cc)))
copy_read_so s t side whole lt is (Some r) = had_write (λ ok. copied_so s t side whole lt is ok)

side_is : (s : MarksStore) (t : ℕ) (side : Side) → copies_to s t ≡ Some side → IsCopied s t side
side_is s t side e = grind arith

pub copy_so : (s : MarksStore) (t : ℕ) → s.half ≡ None → t < tracks_of s → (o : Option Side) → copies_to s t ≡ o → Had (copy_by by_plain s t o) (WorkSo s)
copy_so s t whole lt None is = had_done (λ e. absurd (cc))
copy_so s t whole lt (Some side) is = had_read (λ r. copy_read_so s t side whole lt (side_is s t side is) r)
