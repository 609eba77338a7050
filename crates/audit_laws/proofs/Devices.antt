-- Devices by their numbers: another one in the place of one, and something that is so of each of a deck, or of each but one.
use Rattle.std.proofs.Common.{◌≡◌, ℕ, List, [], ◌∷◌, map, Some, refl, arith, sym, subst, ◌∙◌}
use Rattle.std.specs.Prelude.{⊤}
use Rattle.std.proofs.lemmas.Bool.{eq-eqb, eqb-true}
use Rattle.deck_text.specs.declared.line.DeviceLine.{DeviceLine}
use Rattle.deck_text.specs.declared.line.PlannedProgram.{PlannedProgram}
use Rattle.deck_text.specs.Plans.{plans_of}
use Rattle.plain_defs.specs.PlainState.{empty_state}
use Rattle.deck_audit.specs.Device.{AuditedDevice, device_in, with_device}

-- Another device in the place of its number

pub found_put : (xs : List AuditedDevice) (n : ℕ) (b a : AuditedDevice) → device_in xs n ≡ Some b → a.number ≡ n → device_in (with_device xs a) n ≡ Some a
found_put [] n b a is same = absurd (cc)
found_put (x ∷ xs) n b a is same = grind (arith, found_put xs n b a, eq-eqb)

pub put_again : (xs : List AuditedDevice) (a b : AuditedDevice) → a.number ≡ b.number → with_device (with_device xs a) b ≡ with_device xs b
put_again [] a b same = refl
put_again (x ∷ xs) a b same = grind (arith, put_again xs a b same, eq-eqb)

-- a device in its own place
pub put_own : (xs : List AuditedDevice) (n : ℕ) (a : AuditedDevice) → device_in xs n ≡ Some a → (a.number ≡ n) × (with_device xs a ≡ xs)
put_own [] n a found = absurd (cc)
put_own (x ∷ xs) n a found = grind (arith, put_own xs n a, eqb-true, eq-eqb)

pub put_found : (ds : List AuditedDevice) (d : ℕ) (a b : AuditedDevice) → device_in ds d ≡ Some a → b.number ≡ a.number →
    device_in (with_device ds b) d ≡ Some b
put_found ds d a b found number = found_put ds d a b found (number ∙ (put_own ds d a found).0)

-- a device of that line
abbrev pub IsOf : List PlannedProgram → DeviceLine → AuditedDevice → Type 0
IsOf programs line a =
    (a.number ≡ line.number) × (a.empty ≡ empty_state line.geometry line.cylinders) × (a.plans ≡ plans_of programs line.number)

-- one of the same line
pub record Becomes (a b : AuditedDevice) : Type 0 where
  pub number : b.number ≡ a.number
  pub empty : b.empty ≡ a.empty
  pub plans : b.plans ≡ a.plans

module _ (programs : List PlannedProgram) where
  pub still_of : (line : DeviceLine) (a b : AuditedDevice) → Becomes a b → IsOf programs line a → IsOf programs line b
  still_of line a b same of = (same.number ∙ of.0, same.empty ∙ of.1, same.plans ∙ of.2)

  -- so of each
  abbrev pub Each : (AuditedDevice → Type 0) → List DeviceLine → List AuditedDevice → Type 0
  Each F [] [] = ⊤
  Each F (line ∷ lines) (a ∷ ds) = IsOf programs line a × F a × Each F lines ds
  Each F lines ds = ⊥

  -- something else is so of the one of that number, and all is as before once it has become one of which it is so
  pub record But (F G : AuditedDevice → Type 0) (d : ℕ) (lines : List DeviceLine) (ds : List AuditedDevice) : Type 0 where
    pub here : (a : AuditedDevice) → device_in ds d ≡ Some a → G a
    pub put : (a b : AuditedDevice) → device_in ds d ≡ Some a → Becomes a b → F b → Each F lines (with_device ds b)

  pub each_mapped : (F G : AuditedDevice → Type 0) (f : AuditedDevice → AuditedDevice) → ((a : AuditedDevice) → F a → Becomes a (f a) × G (f a)) →
      (lines : List DeviceLine) (ds : List AuditedDevice) → Each F lines ds → Each G lines (map f ds)
  each_mapped F G f go [] [] all = tt
  each_mapped F G f go (line ∷ lines) (a ∷ ds) all = grind (arith, each_mapped F G f go lines ds all.2, still_of)
  each_mapped F G f go lines ds all = absurd all

  pub each_so : (F G : AuditedDevice → Type 0) → ((a : AuditedDevice) → F a → G a) →
      (lines : List DeviceLine) (ds : List AuditedDevice) → Each F lines ds → Each G lines ds
  each_so F G go [] [] all = tt
  each_so F G go (line ∷ lines) (a ∷ ds) all = (all.0, go a all.1, each_so F G go lines ds all.2)
  each_so F G go lines ds all = absurd all

  module _ (F : AuditedDevice → Type 0) (d : ℕ) where
    pub each_found : (lines : List DeviceLine) (ds : List AuditedDevice) → Each F lines ds → (a : AuditedDevice) → device_in ds d ≡ Some a → F a
    each_found [] [] all a found = absurd (cc)
    each_found (line ∷ lines) (x ∷ ds) all a found = grind (arith, each_found lines ds all.2 a)
    each_found lines ds all a found = absurd all

    pub each_put : (lines : List DeviceLine) (ds : List AuditedDevice) → Each F lines ds → (a b : AuditedDevice) → device_in ds d ≡ Some a →
        Becomes a b → (F a → F b) → Each F lines (with_device ds b)
    each_put [] [] all a b found same go = absurd (cc)
    each_put (line ∷ lines) (x ∷ ds) all a b found same go = grind (arith, each_put lines ds all.2 a b, still_of line a b same, put_own (x ∷ ds) d a found, eqb-true, eq-eqb)
    each_put lines ds all a b found same go = absurd all

    pub but_of_each : (lines : List DeviceLine) (ds : List AuditedDevice) → Each F lines ds → But F F d lines ds
    but_of_each lines ds all = record { here = each_found lines ds all; put = λ a b found same so. each_put lines ds all a b found same (λ _. so) }

  module _ (F G H : AuditedDevice → Type 0) (d : ℕ) (lines : List DeviceLine) (ds : List AuditedDevice) (but : But F G d lines ds)
      (a b : AuditedDevice) (found : device_in ds d ≡ Some a) (same : Becomes a b) (go : G a → H b) where
    -- the device of a number becomes another
    pub but_put : But F H d lines (with_device ds b)
    but_put =
        let there = put_found ds d a b found same.number in
        record {
          here = λ x is. (let it : b ≡ x = (let e = sym there ∙ is in cc) in subst H it (go (but.here a found)));
          put = λ x y is next so.
              let it : b ≡ x = (let e = sym there ∙ is in cc) in
              rw (put_again ds b y (search (arith, it, next.number)))
              (but.put a y found (subst (λ (z : AuditedDevice). Becomes z y → Becomes a y) it (λ n. record {
                number = n.number ∙ same.number;
                empty = n.empty ∙ same.empty;
                plans = n.plans ∙ same.plans;
              }) next) so);
        }

  -- or something else is so of it
  pub but_told : (F G H : AuditedDevice → Type 0) (d : ℕ) (lines : List DeviceLine) (ds : List AuditedDevice) → But F G d lines ds →
      (a : AuditedDevice) → device_in ds d ≡ Some a → (G a → H a) → But F H d lines ds
  but_told F G H d lines ds but a found go = grind arith
