-- What a volume tells, and what a read and a write of it do. R is what stands for the bytes of a track.
use Rattle.std.specs.Prelude.{
  ◌≡◌,
  ◌<◌,
  ℕ,
  ◌+◌,
  ◌-◌,
  ◌^◌,
  min,
  Bool,
  true,
  false,
  List,
  Option,
  Some,
  None,
  Result,
  Ok,
  Err,
  is_some,
  not,
  slice_index_or,
  slice_set,
  length,
  if◌then◌else◌,
}
use Rattle.ckd_outside.specs.Causes.{IsKept, IsLowered}
use Rattle.device_outside.specs.Lists.{is_in}

-- the numbers of the calls that fail: the first read is 1, the first write is 1
pub record Plan : Type 0 where
  pub reads : List ℕ
  pub writes : List ℕ

pub record VolumeView (R : Type 0) : Type 0 where
  pub contents : Option (List R)  -- where told
  pub tracks : ℕ  -- how many it has
  pub delivered : Option R  -- by the last read that didn't fail
  pub reads : ℕ  -- how many there were, the failed ones too
  pub writes : ℕ
  pub faults : ℕ  -- how many calls failed
  pub plan : Option Plan  -- which calls fail, where told
  pub allowance : Option ℕ  -- how many faults it may still give, where told

-- counts stop at the greatest of 64 bits
unfoldable pub counted : ℕ → ℕ
counted n = min (n + 1) (2 ^ 64 - 1)

abbrev pub counted_if : Bool → ℕ → ℕ
counted_if b n = if b then counted n else n

-- no call raises an allowance, and a call that fails lowers it
abbrev pub Spent : Bool → Option ℕ → Option ℕ → Type 0
Spent ok old new = elim ok [ true ↦ IsKept old new | false ↦ IsLowered old new ]

-- where contents are told, they are what is handed over
abbrev pub Delivers : {R : Type 0} → Option (List R) → ℕ → Option R → Type 0
Delivers (Some all) t (Some r) = (t < length all) × (r ≡ slice_index_or all t r)
Delivers (Some all) t None = Unit {0}
Delivers None t got = Unit {0}

-- a write that fails may leave anything in its track, and changes nothing else
abbrev pub Stores : {R : Type 0} → Option (List R) → ℕ → R → Bool → Option (List R) → Type 0
Stores None t r ok new = new ≡ None
Stores (Some all) t r true new = new ≡ Some (slice_set all t r)
Stores {R} (Some all) t r false new = (x : R) × (new ≡ Some (slice_set all t x))

-- where the plan is told, the call with this number fails exactly where it is listed
abbrev pub Planned : Option Plan → (Plan → List ℕ) → ℕ → Bool → Type 0
Planned None of n ok = Unit {0}
Planned (Some p) of n ok = ok ≡ (if is_in n (of p) then false else true)

abbrev pub or_last : {R : Type 0} → Option R → Option R → Option R
or_last (Some r) last = Some r
or_last None last = last

-- a read of track t that handed this over, or failed
pub record ReadOf {R : Type 0} (old : VolumeView R) (t : ℕ) (got : Option R) (new : VolumeView R) : Type 0 where
  pub delivers : Delivers old.contents t got
  pub planned : Planned old.plan (λ p. p.reads) (counted old.reads) (is_some got)
  pub spent : Spent (is_some got) old.allowance new.allowance
  pub after : new ≡ record old {
    delivered = or_last got old.delivered;
    reads = counted old.reads;
    faults =
        counted_if (not (is_some got)) old.faults;
    allowance = new.allowance;
  }

-- a write of r on track t, and whether it didn't fail
pub record WriteOf {R : Type 0} (old : VolumeView R) (t : ℕ) (r : R) (ok : Bool) (new : VolumeView R) : Type 0 where
  pub stores : Stores old.contents t r ok new.contents
  pub planned : Planned old.plan (λ p. p.writes) (counted old.writes) ok
  pub spent : Spent ok old.allowance new.allowance
  pub after : new ≡ record old { contents = new.contents; writes = counted old.writes; faults = counted_if (not ok) old.faults; allowance = new.allowance }

-- what a read into a buffer handed over, where the buffer then holds these bytes
abbrev pub delivery : {R T E : Type 0} → Result T E → R → Option R
delivery (Ok x) bytes = Some bytes
delivery (Err e) bytes = None
