-- What was found in a file is told.
use Rattle.std.proofs.Common.{◌≡◌, ℕ, ◌+◌, ◌*◌, ◌<◌, Bool, true, false, List, [], ◌∷◌, length, Option, Some, None, Result, Ok, Err, sym, ap, subst, ◌∙◌, arith}
use Rattle.std.specs.Prelude.{◌==◌}
use Rattle.std.specs.List.{flat_map}
use Rattle.std.proofs.lemmas.Bool.{eqb-true, false≢true}
use Rattle.std.proofs.lemmas.List.{nil_from_length}
use Rattle.ckd_types.specs.declared.geometry.Geometry.{Geometry}
use Rattle.disk_image.specs.declared.fault.ImageFault.{ImageFault}
use Rattle.disk_image.specs.declared.fault.ImageFault.TheVariants as faults
use Rattle.disk_image.specs.declared.layout.Layout.{Layout}
use Rattle.disk_image.specs.declared.volume.TrackFault.{TrackFault}
use Rattle.disk_image.specs.Opening.{◌>>=◌, opening}
use Rattle.disk_image.specs.Volume.{Holds, HasTracks, IsDiskVolume, TellsBad, TellsUnloaded, Told, faults_in, layout_of}
use Rattle.volume_file.specs.File.{ImageVolume, IsWhole, file_of}
use Rattle.volume_texts.specs.List.{list_text}
use Rattle.image_tool.specs.declared.status.ImageStatus.{ImageStatus}
use Rattle.image_tool.specs.declared.status.ImageStatus.TheVariants.{BadTracks, Done}
use Rattle.image_tool.specs.Reading.{Checks, Finds, HasMany, IsChecked, IsFiled, IsFirstBad, IsHeld, ShowsFile, ShowsList, checking, found_status, refused_by}
use Rattle.image_tool.specs.Texts.{fault_text, found_text, good_text, track_text}
use Rattle.image_tool.specs.Written.{IsWritten}

none_cons : (f : TrackFault) (found : List TrackFault) → f ∷ found ≡ [] → ⊥
none_cons f found is = cc

-- ---- a check

pub checked : (file now : Option (List ℕ)) (l : Layout) (found : List TrackFault) → Told file (λ all. opening all ≡ Ok l) → now ≡ file
    → Told now (λ all. found ≡ faults_in l.geometry (l.cylinders * 15) all) → Told file (λ all. checking all ≡ Ok found)
checked None now l found opens same so = tt
checked (Some all) now l found opens same so =
    let here : found ≡ faults_in l.geometry (l.cylinders * 15) all =
    subst (λ (h : Option (List ℕ)). Told h (λ x. found ≡ faults_in l.geometry (l.cylinders * 15) x)) same so in
    ap (λ (r : Result Layout ImageFault). r >>= (λ k. Ok (faults_in k.geometry (k.cylinders * 15) all))) opens ∙ ap Ok (sym here)

finds_checked : (file : Option (List ℕ)) (found : List TrackFault) → Told file (λ all. checking all ≡ Ok found) → Finds IsChecked file (Ok found)
finds_checked file found so = so

pub checks : (status : ImageStatus) (file held holds : Option (List ℕ)) (found : List TrackFault) → Told file (λ all. checking all ≡ Ok found)
    → IsWritten status (found_status found) held holds (found_text found) → Checks status file held holds
checks status file held holds found so written = record { found = Ok found; is = finds_checked file found so; written = written }

pub checks_not : (status : ImageStatus) (file held holds : Option (List ℕ)) (e : ImageFault) → Finds IsChecked file (Err e)
    → IsWritten status (refused_by e) held holds (fault_text e) → Checks status file held holds
checks_not status file held holds e so written = record { found = Err e; is = so; written = written }

-- ---- a volume

pub same_layout : (l : Layout) (v : ImageVolume) → v.geometry ≡ l.geometry → v.cylinders ≡ l.cylinders → l ≡ layout_of v
same_layout l v g c =
    sym (ap (λ (x : Geometry). (let k : Layout = record { geometry = x; cylinders = v.cylinders } in k)) g
    ∙ ap (λ (n : ℕ). (let k : Layout = record { geometry = l.geometry; cylinders = n } in k)) c)

pub holds_told : (file now : Option (List ℕ)) (l : Layout) (v : ImageVolume) → Told file (λ all. opening all ≡ Ok l) → now ≡ file
    → v.geometry ≡ l.geometry → v.cylinders ≡ l.cylinders → Told now (HasTracks v (l.cylinders * 15)) → Told file (Holds v)
holds_told None now l v opens same g c has = tt
holds_told (Some all) now l v opens same g c has =
    let here : HasTracks v (l.cylinders * 15) all = subst (λ (h : Option (List ℕ)). Told h (HasTracks v (l.cylinders * 15))) same has in
    record {
      opens = opens ∙ ap Ok (same_layout l v g c);
      tracks = subst (λ (n : ℕ). HasTracks v (n * 15) all) (sym c) here;
    }

first_bad : (file now : Option (List ℕ)) (l : Layout) (t offset : ℕ) → Told file (λ all. opening all ≡ Ok l) → now ≡ file → t < l.cylinders * 15
    → Told now (λ all. faults_in l.geometry (t + 1) all ≡ record { track = t; offset = offset } ∷ []) → Told file (λ all. IsFirstBad all t offset)
first_bad None now l t offset opens same within first = tt
first_bad (Some all) now l t offset opens same within first = record {
  layout = l;
  opens = opens;
  within = within;
  first = subst (λ (h : Option (List ℕ)). Told h (λ x. faults_in l.geometry (t + 1) x ≡ record { track = t; offset = offset } ∷ [])) same first;
}

-- no volume is held
pub bad_held : (file now : Option (List ℕ)) (l : Layout) (e : ImageFault) → Told file (λ all. opening all ≡ Ok l) → now ≡ file → TellsBad now l e
    → Finds IsHeld file (Err e)
bad_held file now l (faults.BadTrack t offset) opens same bad = first_bad file now l t offset opens same bad.0 bad.1
bad_held file now l faults.FileFault opens same bad = tt
bad_held file now l faults.NoMemory opens same bad = tt
bad_held file now l (faults.BadHead offset) opens same bad = absurd bad
bad_held file now l (faults.BadLength size) opens same bad = absurd bad
bad_held file now l faults.Compressed opens same bad = absurd bad
bad_held file now l faults.Parts opens same bad = absurd bad
bad_held file now l (faults.ManyCylinders n) opens same bad = absurd bad

many_held : (file : Option (List ℕ)) (l : Layout) (n : ℕ) → Told file (λ all. opening all ≡ Ok l) → n ≡ l.cylinders → 64 < l.cylinders
    → Told file (λ all. HasMany all n)
many_held None l n opens count many = tt
many_held (Some all) l n opens count many = record { layout = l; opens = opens; count = count; many = omega (arith, count, many) }

-- or none that may have a volume file
pub bad_filed : (file now : Option (List ℕ)) (l : Layout) (e : ImageFault) → Told file (λ all. opening all ≡ Ok l) → now ≡ file → TellsUnloaded now l e
    → Finds IsFiled file (Err e)
bad_filed file now l (faults.ManyCylinders n) opens same bad = many_held file l n opens bad.0 bad.1
bad_filed file now l (faults.BadTrack t offset) opens same bad = first_bad file now l t offset opens same bad.0 bad.1
bad_filed file now l faults.FileFault opens same bad = tt
bad_filed file now l faults.NoMemory opens same bad = tt
bad_filed file now l (faults.BadHead offset) opens same bad = absurd bad
bad_filed file now l (faults.BadLength size) opens same bad = absurd bad
bad_filed file now l faults.Compressed opens same bad = absurd bad
bad_filed file now l faults.Parts opens same bad = absurd bad

module _ (status : ImageStatus) (file held holds_now : Option (List ℕ)) where
  pub shows_file : (v : ImageVolume) → IsWhole v → Told file (Holds v) → IsWritten status Done held holds_now (file_of v)
      → ShowsFile status file held holds_now
  shows_file v whole so written = record { found = Ok v; whole = whole; is = so; written = written }

  pub no_file : (e : ImageFault) → Finds IsFiled file (Err e) → IsWritten status (refused_by e) held holds_now (fault_text e)
      → ShowsFile status file held holds_now
  no_file e so written = record { found = Err e; whole = tt; is = so; written = written }

  pub shows_list : (v : ImageVolume) → IsDiskVolume v → Told file (Holds v) → IsWritten status Done held holds_now (list_text v)
      → ShowsList status file held holds_now
  shows_list v whole so written = record { found = Ok v; whole = whole; is = so; written = written }

  pub no_list : (e : ImageFault) → Finds IsHeld file (Err e) → IsWritten status (refused_by e) held holds_now (fault_text e)
      → ShowsList status file held holds_now
  no_list e so written = record { found = Err e; whole = tt; is = so; written = written }

-- ---- bad tracks or none

pub none_written : (found : List TrackFault) (b : Bool) (status : ImageStatus) (held holds : Option (List ℕ)) → b ≡ (length found == 0) → b ≡ true
    → IsWritten status Done held holds good_text → IsWritten status (found_status found) held holds (found_text found)
none_written [] b status held holds is empty written = written
none_written (f ∷ found) b status held holds is empty written =
    absurd (none_cons f found (nil_from_length (f ∷ found) (eqb-true (length (f ∷ found)) 0 (sym is ∙ empty))))

pub some_written : (found : List TrackFault) (b : Bool) (status : ImageStatus) (held holds : Option (List ℕ)) → b ≡ (length found == 0) → b ≡ false
    → IsWritten status BadTracks held holds (flat_map track_text found) → IsWritten status (found_status found) held holds (found_text found)
some_written [] b status held holds is more written = absurd (false≢true (sym more ∙ is))
some_written (f ∷ found) b status held holds is more written = written
