-- How much a device has to do by itself: of each track, once for each side that takes writes where it waits or is to be destaged, and once more
-- where it is to be copied; the tracks to stage; and an open half write.
use Rattle.std.proofs.Common.{◌≢◌, ◌<◌, ◌≤◌, ◌+◌, ◌*◌, ℕ, zero, suc, Bool, false, Option, Some, None, is_some, length, arith}
use Rattle.std.specs.Prelude.{◌&&◌, ◌||◌, if◌then◌else◌, not}
use Rattle.device_defs.specs.Marks.{MarksStore}
use Rattle.device_defs.specs.Store.{frame_at, half_is, is_lost, is_loose, patch_at, stale_at, tracks_of}

abbrev pub one : Bool → ℕ
one b = if b then 1 else 0

-- what the weight of a track goes by
pub record Spot : Type 0 where
  pub half : Bool  -- an open half write is of it
  pub a : Bool  -- side A is up
  pub a_stale : Bool
  pub b : Bool
  pub b_stale : Bool
  pub held : Bool
  pub frame : Option Bool  -- whether it is modified
  pub patched : Bool
  pub lost : Bool
  pub loose : Bool

abbrev pub spot_at : MarksStore → ℕ → Spot
spot_at s t = record {
  half = half_is s.half t;
  a = s.a.up;
  a_stale = stale_at s.a t;
  b = s.b.up;
  b_stale = stale_at s.b t;
  held = s.held;
  frame = frame_at s t;
  patched = is_some (patch_at s t);
  lost = is_lost s t;
  loose = is_loose s t;
}

abbrev pub due_by : Option Bool → Bool → Bool → Bool
due_by None patched loose = patched
due_by (Some m) patched loose = m && not patched && not loose

abbrev pub modified_by : Option Bool → Bool
modified_by None = false
modified_by (Some m) = m

-- it waits, or is to be destaged
abbrev pub works : Spot → Bool
works p = (not p.lost && due_by p.frame p.patched p.loose) || (p.loose || (modified_by p.frame && p.patched))

abbrev pub takes : Spot → Bool
takes p = p.b && not p.held

abbrev pub copies : Spot → Bool
copies p = (p.a && p.a_stale && (p.b && not p.b_stale)) || (takes p && p.b_stale && (p.a && not p.a_stale))

-- the sides that take writes
abbrev pub sides : Spot → ℕ
sides p = one p.a + one (takes p)

abbrev pub whole_weight : Spot → ℕ
whole_weight p = (if works p then sides p else 0) + one (copies p)

abbrev pub weight : Spot → ℕ
weight p = if p.half then one (p.a && p.a_stale) else whole_weight p

unfoldable pub sum : ℕ → (ℕ → ℕ) → ℕ
sum zero f = 0
sum (suc n) f = sum n f + f n

abbrev pub weight_at : MarksStore → ℕ → ℕ
weight_at s q = weight (spot_at s q)

-- what is left to do
abbrev pub left : MarksStore → ℕ
left s = sum (tracks_of s) (weight_at s) + length s.queue + one (is_some s.half)

-- Sums

pub sum_least : (n : ℕ) (f g : ℕ → ℕ) → ((q : ℕ) → q < n → g q ≤ f q) → sum n g ≤ sum n f
unfolding sum
sum_least zero f g less = omega arith
sum_least (suc n) f g less = grind (arith, sum_least n f g)

pub sum_less : (n : ℕ) (f g : ℕ → ℕ) (t : ℕ) → t < n → ((q : ℕ) → q < n → q ≢ t → g q ≤ f q) → sum n g + f t ≤ sum n f + g t
unfolding sum
sum_less zero f g t lt less = absurd (omega (arith, lt))
sum_less (suc n) f g t lt less = grind (arith, sum_less n f g t, sum_least)

pub sum_most : (n k : ℕ) (f : ℕ → ℕ) → ((q : ℕ) → f q ≤ k) → sum n f ≤ n * k
unfolding sum
sum_most zero k f most = omega arith
sum_most (suc n) k f most = grind (arith, sum_most n k f most)

one_most : (b : Bool) → one b ≤ 1
one_most b = grind arith

pub weight_most : (p : Spot) → weight p ≤ 3
weight_most p = grind (arith, one_most)

-- at most three times for each track, as many as are to be staged, and once
pub left_most : (s : MarksStore) → s.cylinders ≤ 64 → length s.queue ≤ 64 → left s ≤ 2945
left_most s small queued = omega (arith, sum_most (tracks_of s) 3 (weight_at s) (λ q. weight_most (spot_at s q)), small, queued, (one_most (is_some s.half)))
