-- Some firm writes and what is put of them, computed from the definitions alone.
use Rattle.std.proofs.Common.{◌≡◌, inl, inr, ℕ, true, false, List, [], ◌∷◌, refl, arith}
use Rattle.ckd_types.specs.declared.geometry.Geometry.TheVariants.{D3390}
use Rattle.ckd_types.specs.declared.record.Track.{Track}
use Rattle.ckd_types.specs.Geometry.{cchh_of}
use Rattle.ckd_types.specs.Track.{empty_track}
use Rattle.track_image.specs.Image.{Image}
use Rattle.device_outside.specs.Keeper.{BeforeEdit, Firm}
use Rattle.device_outside.specs.Lists.{is_in}
use Rattle.device_outside.specs.Volume.{counted}
use Rattle.remote_copy.specs.declared.state.MirrorState.TheVariants.{Level, Suspended, Copying}
use Rattle.remote_copy.specs.FarVolume.{FarVolume, new_far, put_on}
use Rattle.remote_copy.specs.Linking.{PutCalls}
use Rattle.firm_laws.specs.FirmWrites.{FirmWrite, firms_in}
use Rattle.remote_copy.specs.Sending.{IsFront, IsLevelled, all_put, are_reached, is_put, put_all, reached}

-- tracks without records
bare : ℕ → Track
bare n = record { home = cchh_of n; records = [] }

image : ℕ → Image
image n = record { geometry = D3390; track = bare n }

-- two empty tracks, and three firm writes: one on track 0, one on track 1 and another one on track 0
start : List Track
start = empty_track 0 ∷ empty_track 1 ∷ []

three : List FirmWrite
three = (0, bare 0) ∷ (1, bare 1) ∷ (0, bare 20) ∷ []

last_one_stays : put_all three start ≡ bare 20 ∷ bare 1 ∷ []
unfolding start three bare
last_one_stays = refl

-- of device 3, beside those of another one
of_one_device : firms_in 3 (BeforeEdit 3 0 (image 9) ∷ Firm 3 0 (image 0) ∷ Firm 4 1 (image 7) ∷ Firm 3 1 (image 1) ∷ Firm 3 0 (image 20) ∷ []) ≡ three
unfolding three image bare
of_one_device = refl

failing : ℕ → List ℕ → PutCalls
failing done numbers = record { done = done; failing = numbers }

second_fails : reached (failing 0 (2 ∷ [])) three ≡ (0, bare 0) ∷ []
unfolding failing three bare is_in counted
second_fails = refl

none_of_them : are_reached (failing 0 (4 ∷ 0 ∷ [])) three ≡ true
unfolding failing three is_in counted
none_of_them = refl

all_are_reached : reached (failing 0 (4 ∷ 0 ∷ [])) three ≡ three
unfolding failing three is_in counted
all_are_reached = refl

-- behind four puts the first of these is number 5
fifth_put : reached (failing 4 (5 ∷ [])) three ≡ []
unfolding failing three is_in counted
fifth_put = refl

seven_put : (all_put (failing 4 (5 ∷ [])) three).done ≡ 7
unfolding failing three counted
seven_put = refl

-- the put of the second one failed: the far track is old or new
front_old : IsFront 1 three start (bare 0 ∷ empty_track 1 ∷ [])
unfolding start three bare
front_old = record { count = 1; counted_as = refl; below = omega arith; is_put_in = inl refl }

front_new : IsFront 1 three start (bare 0 ∷ bare 1 ∷ [])
unfolding start three bare
front_new = record { count = 1; counted_as = refl; below = omega arith; is_put_in = inr refl }

is_levelled : IsLevelled three start Level 3 (bare 20 ∷ bare 1 ∷ [])
unfolding start three bare
is_levelled = (refl, refl)

-- tracks below the one that is copied next are put
put_below : is_put (Copying 7) 6 ≡ true
put_below = refl

not_from_there_on : is_put (Copying 7) 7 ≡ false
not_from_there_on = refl

not_suspended : is_put (Suspended 3) 0 ≡ false
not_suspended = refl

-- a link in memory whose first put fails
one_cylinder : FarVolume
one_cylinder = new_far D3390 1 (1 ∷ [])

first_put_fails : (put_on one_cylinder 0 (bare 0)).tracks ≡ one_cylinder.tracks
unfolding one_cylinder is_in counted
first_put_fails = refl

it_is_counted : (put_on one_cylinder 0 (bare 0)).faults ≡ 1
unfolding one_cylinder is_in counted
it_is_counted = refl

second_is_put : (put_on (put_on one_cylinder 0 (bare 0)) 0 (bare 0)).calls.done ≡ 2
unfolding one_cylinder is_in counted
second_is_put = refl
