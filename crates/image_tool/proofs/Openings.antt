-- What opening a file told.
use Rattle.std.proofs.Common.{◌≡◌, ◌⊎◌, inl, inr, ℕ, ◌*◌, Bool, true, false, cond, nat_eq, List, length, take, drop, replicate, slice_index, Option, Some, None, Result, Ok, Err, sym, ap, subst}
use Rattle.std.specs.Prelude.{◌==◌, ◌&&◌, ◌||◌}
use Rattle.std.specs.List.{starts_with}
use Rattle.ckd_types.specs.declared.geometry.Geometry.{Geometry}
use Rattle.ckd_types.specs.declared.geometry.Geometry.TheVariants.{D3390, D3380}
use Rattle.disk_image.specs.declared.fault.ImageFault.{ImageFault}
use Rattle.disk_image.specs.declared.fault.ImageFault.TheVariants.{BadHead, BadLength, BadTrack, Compressed, FileFault, ManyCylinders, NoMemory, Parts}
use Rattle.disk_image.specs.declared.layout.Layout.{Layout}
use Rattle.disk_image.specs.File.{compressed, heads_bytes, shadow, signature, size_bytes, type_byte}
use Rattle.disk_image.specs.Image.{TellsOpening}
use Rattle.disk_image.specs.Opening.{◌>>=◌, head_in, layout_by, model_in, opening, rest_in}
use Rattle.disk_image.specs.Volume.{Told, faults_in}
use Rattle.image_tool.specs.Reading.{Finds, IsChecked, IsFiled, IsHeld, IsOpened}

-- ---- no opening names a track, or says that there are too many cylinders

record IsPlain {A : Type 0} (r : Result A ImageFault) : Type 0 where
  plain : (t offset : ℕ) → r ≡ Err (BadTrack t offset) → ⊥
  few : (n : ℕ) → r ≡ Err (ManyCylinders n) → ⊥

ok_plain : {A : Type 0} (x : A) → IsPlain (Ok x)
ok_plain x = record { plain = λ t offset is. cc; few = λ n is. cc }

err_plain : {A : Type 0} (e : ImageFault) → ((t offset : ℕ) → e ≡ BadTrack t offset → ⊥) → ((n : ℕ) → e ≡ ManyCylinders n → ⊥) → IsPlain {A = A} (Err e)
err_plain e other more = record { plain = λ t offset is. other t offset (cc); few = λ n is. more n (cc) }

head_fault : {A : Type 0} (n : ℕ) → IsPlain {A = A} (Err (BadHead n))
head_fault n = err_plain (BadHead n) (λ t offset is. cc) (λ n is. cc)

length_fault : {A : Type 0} (n : ℕ) → IsPlain {A = A} (Err (BadLength n))
length_fault n = err_plain (BadLength n) (λ t offset is. cc) (λ n is. cc)

packed_fault : {A : Type 0} → IsPlain {A = A} (Err Compressed)
packed_fault = err_plain Compressed (λ t offset is. cc) (λ n is. cc)

parts_fault : {A : Type 0} → IsPlain {A = A} (Err Parts)
parts_fault = err_plain Parts (λ t offset is. cc) (λ n is. cc)

plain_if : {A : Type 0} (b : Bool) (x y : Result A ImageFault) → IsPlain x → IsPlain y → IsPlain (cond b x y)
plain_if true x y p q = p
plain_if false x y p q = q

err_of : {B : Type 0} (e k : ImageFault) → ◌≡◌ {A = Result B ImageFault} (Err e) (Err k) → e ≡ k
err_of e k is = cc

err_same : {A B : Type 0} (e k : ImageFault) → ◌≡◌ {A = Result B ImageFault} (Err e) (Err k) → ◌≡◌ {A = Result A ImageFault} (Err e) (Err k)
err_same e k is = ap Err (err_of e k is)

plain_then : {A B : Type 0} (r : Result A ImageFault) (f : A → Result B ImageFault) → IsPlain r → ((x : A) → IsPlain (f x)) → IsPlain (r >>= f)
plain_then (Ok x) f p q = q x
plain_then (Err e) f p q = record {
  plain = λ t offset is. p.plain t offset (err_same e (BadTrack t offset) is);
  few = λ n is. p.few n (err_same e (ManyCylinders n) is);
}

model_plain : (field : List ℕ) → IsPlain (model_in field)
model_plain field =
    plain_if (starts_with nat_eq (drop 12 field) (size_bytes D3390)) _ _ (ok_plain D3390)
    (plain_if (starts_with nat_eq (drop 12 field) (size_bytes D3380)) _ _ (ok_plain D3380) (head_fault 12))

rest_plain : (g : Geometry) (field : List ℕ) → IsPlain (rest_in g field)
rest_plain g field =
    plain_if (slice_index field 16 == type_byte g) _ _
    (plain_if ((slice_index field 17 == 0) && ((slice_index field 18 == 0) && (slice_index field 19 == 0))) _ _
    (plain_if ((length field == 512) && starts_with nat_eq (drop 20 field) (replicate 492 0)) _ _ (ok_plain g) (head_fault 20)) parts_fault)
    (head_fault 16)

head_plain : (field : List ℕ) → IsPlain (head_in field)
unfolding head_in
head_plain field =
    plain_if (starts_with nat_eq field compressed || starts_with nat_eq field shadow) _ _ packed_fault
    (plain_if (starts_with nat_eq field signature) _ _
    (plain_if (starts_with nat_eq (drop 8 field) heads_bytes) _ _
    (plain_then (model_in field) (λ g. rest_in g field) (model_plain field) (λ g. rest_plain g field)) (head_fault 8)) (head_fault 0))

layout_plain : (g : Geometry) (size : ℕ) → IsPlain (layout_by g size)
unfolding layout_by
layout_plain g size = plain_if _ _ _ (ok_plain _) (length_fault size)

opening_plain : (all : List ℕ) → IsPlain (opening all)
opening_plain all = plain_then (head_in (take 512 all)) (λ g. layout_by g (length all)) (head_plain (take 512 all)) (λ g. layout_plain g (length all))

names_no_track : (all : List ℕ) (t offset : ℕ) → opening all ≡ Err (BadTrack t offset) → ⊥
names_no_track all t offset is = (opening_plain all).plain t offset is

-- ---- what was told is found

pub told_on : (file : Option (List ℕ)) (P Q : List ℕ → Type 0) → ((all : List ℕ) → P all → Q all) → Told file P → Told file Q
told_on None P Q on told = tt
told_on (Some all) P Q on told = on all told

pub opened : (file : Option (List ℕ)) (l : Layout) → (let r : Result Layout ImageFault = Ok l in TellsOpening file r)
    → Told file (λ all. opening all ≡ Ok l)
opened None l told = tt
opened (Some all) l told = sym told

-- a file that is refused
pub refused : {A : Type 0} (IsSo : List ℕ → Result A ImageFault → Type 0) (file : Option (List ℕ)) (e : ImageFault)
    → ((all : List ℕ) → opening all ≡ Err e → IsSo all (Err e)) → (let r : Result Layout ImageFault = Err e in TellsOpening file r)
    → Finds IsSo file (Err e)
refused IsSo file FileFault so told = tt
refused IsSo file NoMemory so told = tt
refused IsSo None (BadHead offset) so told = tt
refused IsSo None (BadLength size) so told = tt
refused IsSo None (BadTrack t offset) so told = tt
refused IsSo None Compressed so told = tt
refused IsSo None Parts so told = tt
refused IsSo None (ManyCylinders n) so told = tt
refused IsSo (Some all) (BadHead offset) so told = so all (sym told)
refused IsSo (Some all) (BadLength size) so told = so all (sym told)
refused IsSo (Some all) (BadTrack t offset) so told = so all (sym told)
refused IsSo (Some all) Compressed so told = so all (sym told)
refused IsSo (Some all) Parts so told = so all (sym told)
refused IsSo (Some all) (ManyCylinders n) so told = so all (sym told)

pub not_opened : (file : Option (List ℕ)) (e : ImageFault) → (let r : Result Layout ImageFault = Err e in TellsOpening file r) → Finds IsOpened file (Err e)
not_opened file e told = refused IsOpened file e (λ all is. is) told

pub not_checked : (file : Option (List ℕ)) (e : ImageFault) → (let r : Result Layout ImageFault = Err e in TellsOpening file r) → Finds IsChecked file (Err e)
not_checked file e told =
    refused IsChecked file e
    (λ all is. ap (λ (r : Result Layout ImageFault). r >>= (λ l. Ok (faults_in l.geometry (l.cylinders * 15) all))) is) told

held_not : (e : ImageFault) (all : List ℕ) → opening all ≡ Err e → IsHeld all (Err e)
held_not (BadTrack t offset) all is = absurd (names_no_track all t offset is)
held_not (BadHead offset) all is = is
held_not (BadLength size) all is = is
held_not Compressed all is = is
held_not Parts all is = is
held_not (ManyCylinders n) all is = is
held_not FileFault all is = is
held_not NoMemory all is = is

pub not_held : (file : Option (List ℕ)) (e : ImageFault) → (let r : Result Layout ImageFault = Err e in TellsOpening file r) → Finds IsHeld file (Err e)
not_held file e told = refused IsHeld file e (held_not e) told

filed_not : (e : ImageFault) (all : List ℕ) → opening all ≡ Err e → IsFiled all (Err e)
filed_not (ManyCylinders n) all is = absurd ((opening_plain all).few n is)
filed_not (BadTrack t offset) all is = held_not (BadTrack t offset) all is
filed_not (BadHead offset) all is = is
filed_not (BadLength size) all is = is
filed_not Compressed all is = is
filed_not Parts all is = is
filed_not FileFault all is = is
filed_not NoMemory all is = is

pub not_filed : (file : Option (List ℕ)) (e : ImageFault) → (let r : Result Layout ImageFault = Err e in TellsOpening file r) → Finds IsFiled file (Err e)
not_filed file e told = refused IsFiled file e (filed_not e) told

-- a call of the file failed, or memory ran out
pub early : {A : Type 0} (IsSo : List ℕ → Result A ImageFault → Type 0) (file : Option (List ℕ)) (e : ImageFault) → (e ≡ FileFault) ⊎ (e ≡ NoMemory)
    → Finds IsSo file (Err e)
early IsSo file e why = elim why [
  | inl is ↦ subst (λ (x : ImageFault). Finds IsSo file (Err x)) (sym is) tt
  | inr is ↦ subst (λ (x : ImageFault). Finds IsSo file (Err x)) (sym is) tt
]
