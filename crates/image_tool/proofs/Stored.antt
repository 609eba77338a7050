-- What storing left is told.
use Rattle.std.proofs.Common.{◌≡◌, ◌≢◌, inl, ℕ, ◌*◌, ◌<◌, ◌&&◌, ◌==◌, Bool, true, false, eq-eqb, List, [], ◌∷◌, length, take, Option, Some, None, Result, Ok, Err, refl, sym, ap, subst, ◌∙◌, arith}
use Rattle.std.proofs.lemmas.Bool.{eqb-true, false≢true}
use Rattle.ckd_types.specs.declared.geometry.Geometry.{Geometry}
use Rattle.ckd_types.specs.declared.geometry.Geometry.TheVariants.{D3390, D3380}
use Rattle.disk_image.specs.declared.fault.ImageFault.{ImageFault}
use Rattle.disk_image.specs.declared.fault.ImageFault.TheVariants.{BadHead, BadLength, BadTrack, Compressed, FileFault, ManyCylinders, NoMemory, Parts}
use Rattle.disk_image.specs.declared.layout.Layout.{Layout}
use Rattle.disk_image.specs.Calls.{IsLong}
use Rattle.disk_image.specs.Image.{IsEmpty}
use Rattle.disk_image.specs.Opening.{◌>>=◌, head_in, layout_by, opening}
use Rattle.disk_image.specs.Storing.{PartlySo, StoredSo}
use Rattle.disk_image.specs.Volume.{Told, layout_of}
use Rattle.volume_file.specs.File.{ImageVolume}
use Rattle.image_tool.specs.declared.status.ImageStatus.{ImageStatus}
use Rattle.image_tool.specs.Reading.{refused_by}
use Rattle.image_tool.specs.Storing.{HasVolume, StoredBy, StoresWhole, TellsGiven, TellsNew, is_alike, is_same_model}
use Rattle.image_tool.specs.Written.{Outside}

-- ---- a new image

pub no_bytes : (file : Option (List ℕ)) (size : ℕ) → IsLong file size → size ≡ 0 → IsEmpty file
no_bytes None size long none = tt
no_bytes (Some []) size long none = refl
no_bytes (Some (b ∷ bytes)) size long none = absurd (omega (arith, long, none))

pub some_bytes : (file : Option (List ℕ)) (size : ℕ) → IsLong file size → 0 < size → Told file (λ all. all ≢ [])
some_bytes None size long some = tt
some_bytes (Some all) size long some = λ none. absurd (omega (arith, long, some, ap length none))

-- ---- a stored volume

-- a file with the head and length of an image is one
opens_too : (l : Layout) (old all : List ℕ) → take 512 all ≡ take 512 old → length all ≡ length old → opening old ≡ Ok l → opening all ≡ Ok l
opens_too l old all head size is =
    ap (λ (field : List ℕ). head_in field >>= (λ g. layout_by g (length all))) head
    ∙ ap (λ (n : ℕ). head_in (take 512 old) >>= (λ g. layout_by g n)) size
    ∙ is

pub has_volume : (v : ImageVolume) (file files now : Option (List ℕ)) → Told file (λ all. opening all ≡ Ok (layout_of v))
    → StoredSo v (v.cylinders * 15) file files → now ≡ files → HasVolume v file now
has_volume v None files now opens so same = same ∙ so
has_volume v (Some old) files now opens so same =
    (so.0, same ∙ so.1, record { opens = opens_too (layout_of v) old so.0 so.2.head so.2.size opens; tracks = so.2.tracks })

pub partly : (v : ImageVolume) (file files now : Option (List ℕ)) → StoredSo v (v.cylinders * 15) file files → now ≡ files → PartlySo v file now
partly v None files now so same = same ∙ so
partly v (Some old) files now so same = (
  so.0,
  same ∙ so.1,
  record { torn = v.cylinders * 15; size = so.2.size; head = so.2.head; each = λ t less other. inl (so.2.tracks t less) },
)

pub stored_by : (v : ImageVolume) (e : ImageFault) (file files : Option (List ℕ))
    → (let r : Result (Unit {0}) ImageFault = Err e in StoresWhole v file r files) → StoredBy (refused_by e) v file files
stored_by v FileFault file files so = so
stored_by v NoMemory file files so = so
stored_by v (BadHead offset) file files so = absurd so
stored_by v (BadLength size) file files so = absurd so
stored_by v (BadTrack t offset) file files so = absurd so
stored_by v Compressed file files so = absurd so
stored_by v Parts file files so = absurd so
stored_by v (ManyCylinders n) file files so = absurd so

-- ---- layouts

both : (a b : Bool) → (a && b) ≡ true → (a ≡ true) × (b ≡ true)
both true b e = (refl, e)
both false b e = absurd (false≢true e)

same_model : (a b : Geometry) → is_same_model a b ≡ true → a ≡ b
same_model D3390 D3390 is = refl
same_model D3380 D3380 is = refl
same_model D3390 D3380 is = absurd (false≢true is)
same_model D3380 D3390 is = absurd (false≢true is)

pub alike_same : (a b : Layout) → is_alike a b ≡ true → a ≡ b
alike_same a b is =
    let p = both (is_same_model a.geometry b.geometry) (a.cylinders == b.cylinders) is in
    ap (λ (g : Geometry). (let k : Layout = record { geometry = g; cylinders = a.cylinders } in k)) (same_model a.geometry b.geometry p.0)
    ∙ ap (λ (n : ℕ). (let k : Layout = record { geometry = b.geometry; cylinders = n } in k)) (eqb-true a.cylinders b.cylinders p.1)

self_model : (g : Geometry) → is_same_model g g ≡ true
self_model D3390 = refl
self_model D3380 = refl

pub self_alike : (a : Layout) → is_alike a a ≡ true
self_alike a = rw (self_model a.geometry) (eq-eqb a.cylinders a.cylinders refl)

-- the same file, as it was before it was opened
pub given_on : (status : ImageStatus) (l : Layout) (left held now file : Option (List ℕ)) (new : Outside) → now ≡ file
    → (let old : Outside = record { left = left; held = held; file = now } in TellsGiven status l old new)
    → (let old : Outside = record { left = left; held = held; file = file } in TellsGiven status l old new)
given_on status l left held now file new same told =
    subst (λ (h : Option (List ℕ)). (let old : Outside = record { left = left; held = held; file = h } in TellsGiven status l old new)) same told

pub opened_as : (file : Option (List ℕ)) (l k : Layout) → l ≡ k → Told file (λ all. opening all ≡ Ok l) → Told file (λ all. opening all ≡ Ok k)
opened_as file l k same opens = subst (λ (x : Layout). Told file (λ all. opening all ≡ Ok x)) same opens

pub opened_now : (file now : Option (List ℕ)) (l : Layout) → now ≡ file → Told file (λ all. opening all ≡ Ok l) → Told now (λ all. opening all ≡ Ok l)
opened_now file now l same opens = subst (λ (h : Option (List ℕ)). Told h (λ all. opening all ≡ Ok l)) (sym same) opens

pub long_now : (file now : Option (List ℕ)) (size : ℕ) → now ≡ file → IsLong file size → IsLong now size
long_now file now size same long = subst (λ (h : Option (List ℕ)). IsLong h size) (sym same) long

pub new_on : (status : ImageStatus) (g : Geometry) (cylinders : ℕ) (file now files held holds : Option (List ℕ)) → now ≡ file
    → TellsNew status g cylinders now files held holds → TellsNew status g cylinders file files held holds
new_on status g cylinders file now files held holds same told =
    subst (λ (h : Option (List ℕ)). TellsNew status g cylinders h files held holds) same told
