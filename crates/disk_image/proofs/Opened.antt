-- What a file that was opened tells.
use Rattle.std.proofs.Common.{
  ◌≡◌,
  ◌⊎◌,
  inl,
  inr,
  ℕ,
  ◌≤◌,
  ◌<◌,
  min,
  List,
  length,
  take,
  drop,
  Option,
  Some,
  None,
  Result,
  Ok,
  Err,
  IfOk,
  sym,
  ap,
  subst,
  ◌∙◌,
  arith,
}
use Rattle.std.proofs.lemmas.Bool.{cases_lt}
use Rattle.std.proofs.lemmas.List.{take_all}
use Rattle.ckd_types.specs.declared.geometry.Geometry.{Geometry}
use Rattle.disk_image.specs.declared.fault.ImageFault.{ImageFault}
use Rattle.disk_image.specs.declared.fault.ImageFault.TheVariants.{BadHead, BadLength, BadTrack, Compressed, FileFault, ManyCylinders, NoMemory, Parts}
use Rattle.disk_image.specs.declared.layout.Layout.{Layout}
use Rattle.disk_image.specs.Calls.{IsAt, IsLong}
use Rattle.disk_image.specs.File.{file_size}
use Rattle.disk_image.specs.Image.{IsLayoutOf, TellsOpening}
use Rattle.disk_image.specs.Opening.{◌>>=◌, head_in, layout_by, opening}

told : (all : List ℕ) (r : Result Layout ImageFault) → r ≡ opening all → TellsOpening (Some all) r
told all (Ok l) is = is
told all (Err (BadHead offset)) is = is
told all (Err (BadLength size)) is = is
told all (Err Compressed) is = is
told all (Err Parts) is = is
told all (Err (BadTrack t offset)) is = is
told all (Err (ManyCylinders n)) is = is
told all (Err FileFault) is = tt
told all (Err NoMemory) is = tt

pub early_told : (held : Option (List ℕ)) (e : ImageFault) → (e ≡ FileFault) ⊎ (e ≡ NoMemory) → TellsOpening held (Err e)
early_told None e why = tt
early_told (Some all) e (inl is) = subst (λ (x : ImageFault). TellsOpening (Some all) (Err x)) (sym is) tt
early_told (Some all) e (inr is) = subst (λ (x : ImageFault). TellsOpening (Some all) (Err x)) (sym is) tt

head_is : (all field : List ℕ) (size : ℕ) → length all ≡ size → IsAt (Some all) 0 field → length field ≡ min size 512 → field ≡ take 512 all
head_is all field size long here some =
    let front : field ≡ take (min size 512) all = sym here ∙ ap (λ (n : ℕ). take n all) some in
    elim (cases_lt 512 size) [
      | inl less ↦ (let full : min size 512 ≡ 512 = omega (arith, less) in front ∙ ap (λ (n : ℕ). take n all) full)
      | inr few ↦
          (let whole : min size 512 ≡ size = omega (arith, few) in
          front ∙ ap (λ (n : ℕ). take n all) whole
          ∙ take_all size all (omega (arith, long)) ∙ sym (take_all 512 all (omega (arith, long, few))))
    ]

pub head_told : (held now : Option (List ℕ)) (size : ℕ) (field : List ℕ) (e : ImageFault) → now ≡ held → IsLong held size → IsAt now 0 field
    → length field ≡ min size 512
    → Err e ≡ head_in field → TellsOpening held (Err e)
head_told None now size field e same long here some is = tt
head_told (Some all) now size field e same long here some is =
    let front = head_is all field size long (subst (λ (h : Option (List ℕ)). IsAt h 0 field) same here) some in
    told all (Err e) (ap (λ (r : Result Geometry ImageFault). r >>= (λ g. layout_by g (length all))) (is ∙ ap head_in front))

pub layout_told : (held now : Option (List ℕ)) (size : ℕ) (field : List ℕ) (g : Geometry) (r : Result Layout ImageFault) → now ≡ held
    → IsLong held size → IsAt now 0 field
    → length field ≡ min size 512
    → Ok g ≡ head_in field → r ≡ layout_by g size → TellsOpening held r
layout_told None now size field g r same long here some head is = tt
layout_told (Some all) now size field g r same long here some head is =
    let front = head_is all field size long (subst (λ (h : Option (List ℕ)). IsAt h 0 field) same here) some in
    told all r (
    is
    ∙ ap (layout_by g) (sym long)
    ∙ ap (λ (x : Result Geometry ImageFault). x >>= (λ y. layout_by y (length all))) (head ∙ ap head_in front)
    )

layout_is : (held : Option (List ℕ)) (size : ℕ) (l : Layout) → IsLong held size → (1 ≤ l.cylinders) × (l.cylinders ≤ 4369)
    → size ≡ file_size l.geometry l.cylinders → IsLayoutOf held l
layout_is None size l long range is = record { least = range.0; most = range.1; sized = tt }
layout_is (Some all) size l long range is = record { least = range.0; most = range.1; sized = long ∙ is }

-- the layout of a file that was opened
pub layout_opened : (held : Option (List ℕ)) (size : ℕ) (r : Result Layout ImageFault) → IsLong held size
    → IfOk r (λ l. (1 ≤ l.cylinders) × (l.cylinders ≤ 4369)) → IfOk r (λ l. size ≡ file_size l.geometry l.cylinders)
    → IfOk r (λ l. IsLayoutOf held l)
layout_opened held size (Ok l) long range is = layout_is held size l long range is
layout_opened held size (Err e) long range is = tt
