-- What a link to a far volume tells, and what a put of a track does.
use Rattle.std.specs.Prelude.{
  ◌≡◌,
  ◌<◌,
  ◌⊎◌,
  ℕ,
  Bool,
  not,
  List,
  Option,
  Some,
  None,
  option_map,
  Result,
  Ok,
  Err,
  is_ok,
  OnErr,
  slice_set,
}
use Rattle.ckd_types.specs.declared.geometry.Geometry.{Geometry}
use Rattle.ckd_types.specs.declared.record.Track.{Track}
use Rattle.ckd_outside.specs.Causes.{HasCause}
use Rattle.track_image.specs.Image.{Image}
use Rattle.device_outside.specs.Lists.{is_in}
use Rattle.device_outside.specs.Volume.{counted}
use Rattle.device_store.specs.Images.{IsImageOf}

-- the puts that a link has had, the failed ones too, and the numbers of those that fail: the first put is 1
pub record PutCalls : Type 0 where
  pub done : ℕ
  pub failing : List ℕ

pub record LinkView : Type 0 where
  pub geometry : Geometry  -- of the far volume
  pub tracks : ℕ  -- how many it has
  pub far : Option (List Track)  -- what it holds, where told
  pub faults : ℕ  -- how many puts failed
  pub calls : Option PutCalls  -- which puts fail, where told

-- an image of this track of the far volume
pub record IsFarImage (v : LinkView) (t : ℕ) (i : Image) : Type 0 where
  pub below : t < v.tracks
  pub of : IsImageOf v.geometry t i

-- the far volume with this track put in
abbrev pub with_put : ℕ → Track → Option (List Track) → Option (List Track)
with_put t x far = option_map (λ (f : List Track). slice_set f t x) far

-- a put that fails leaves the far track old or new
abbrev pub IsPut : {T E : Type 0} → Result T E → ℕ → Track → Option (List Track) → Option (List Track) → Type 0
IsPut (Ok y) t x old new = new ≡ with_put t x old
IsPut (Err e) t x old new = (new ≡ old) ⊎ (new ≡ with_put t x old)

abbrev pub one_put : PutCalls → PutCalls
one_put c = record c { done = counted c.done }

abbrev pub next_fails : PutCalls → Bool
next_fails c = is_in (counted c.done) c.failing

-- it fails where its number is listed, and changes nothing then
pub record IsByPlan {T E : Type 0} (c : PutCalls) (old : Option (List Track)) (result : Result T E) (new : Option (List Track)) (calls : Option PutCalls) : Type 0 where
  pub calls_behind : calls ≡ Some (one_put c)
  pub fails : is_ok result ≡ not (next_fails c)
  pub kept : OnErr result (new ≡ old)

-- where it is told which puts fail
abbrev pub GoesByPlan : {T E : Type 0} → Option PutCalls → Option (List Track) → Result T E → Option (List Track) → Option PutCalls → Type 0
GoesByPlan None old result new calls = Unit {0}
GoesByPlan (Some c) old result new calls = IsByPlan c old result new calls

-- a put of a track, which this came of
pub record Puts {T E : Type 0} (old : LinkView) (t : ℕ) (x : Track) (result : Result T E) (new : LinkView) : Type 0 where
  pub geometry : new.geometry ≡ old.geometry
  pub tracks : new.tracks ≡ old.tracks
  pub far : IsPut result t x old.far new.far
  pub calls : GoesByPlan old.calls old.far result new.far new.calls
  pub cause : HasCause old.faults new.faults result
