-- Of a device that tells what it holds nothing that is firm is still to be told.
use Rattle.std.proofs.Common.{◌≡◌, ℕ, Bool, true, false, List, [], Option, Some, None, get_or, option_map, refl, sym, ap, subst, ◌∙◌}
use Rattle.std.proofs.lemmas.Bool.{eq-eqb}
use Rattle.std.proofs.lemmas.List.{length-map}
use Rattle.ckd_types.specs.declared.record.Track.{Track}
use Rattle.track_image.specs.Image.{Image}
use Rattle.device_outside.specs.Pool.{Pool}
use Rattle.device_defs.specs.declared.owed.Owed.{Owed}
use Rattle.device_defs.specs.Marks.{marks_of, owed_mark, half_mark}
use Rattle.device_defs.specs.Sound.{DeviceStore}
use Rattle.device_defs.specs.Store.{HalfWrite, is_loose, half_is, owed_at}
use Rattle.device_laws.specs.Agrees.{Held, IsGround}
use Rattle.device_laws.specs.Lent.{Stands, in_order, is_away}
use Rattle.device_laws.specs.Whole.{WholeDevice}
use Rattle.device_laws.proofs.TwinChanges.{owed_twin}
use Rattle.subsystem_defs.specs.Subsystem.{Mounted, mounted_in}
use Rattle.subsystem_laws.specs.WholeStood.{Stood, is_mounted, AreMounted}
use Rattle.subsystem_laws.proofs.WholeFinding.{Found, none_found, both_found, find}
use Rattle.subsystem_laws.proofs.WholeTalks.{mounts}
use Rattle.keeper_laws.specs.Firmness.{is_half_loose, IsTold}

some_is : {X : Type 0} {x y : X} → Some x ≡ Some y → x ≡ y
some_is e = cc

module _ (v w : List Track) (s : DeviceStore) (h : Held) where
  half_apart : (i : Option (HalfWrite Image)) → s.half ≡ i → ((t : ℕ) → is_loose s t ≡ true → half_is s.half t ≡ false) →
      is_half_loose (option_map half_mark i) s.loose ≡ false
  half_apart None is apart = refl
  half_apart (Some i) is apart = by_test (is_loose s i.track) refl
    where
      by_test : (b : Bool) → is_loose s i.track ≡ b → is_loose s i.track ≡ false
      by_test false e = e
      by_test true e =
          absurd (let no : true ≡ false =
          sym (eq-eqb i.track i.track refl) ∙ sym (ap (λ (o : Option (HalfWrite Image)). half_is o i.track) is) ∙ apart i.track e in cc)

  ground_told : IsGround v w s h → ((t : ℕ) → (owed_at s t).firm ≡ false) → IsTold (marks_of v w s)
  ground_told g told = record {
    room = length-map s.owed owed_mark ∙ ap (λ (l : List ℕ). get_or l 6 0) g.sizes.are;
    free = λ t. ap (λ (o : Owed). o.firm) (owed_twin v w s t) ∙ told t;
    half = half_apart s.half refl g.apart;
  }

stands_told : (v w : List Track) (d : WholeDevice) (h : Held) → Stands v w d h → IsTold (marks_of v w d.store)
stands_told v w d h (in_order i) = ground_told v w d.store h i.agrees.ground i.told
stands_told v w d h (is_away i) = ground_told v w d.store h i.store.ground i.store.told

module _ (p : Pool) (xs : List Stood) (ms : List Mounted) (n : ℕ) (m : Mounted) (there : mounted_in ms n ≡ Some m) where
  by_found : Found p.used [] xs ms n → IsTold m.device.store
  by_found (none_found s e) = absurd (let no : None ≡ Some m = sym e ∙ there in cc)
  by_found (both_found x k mine others s e (is_mounted d v w h on_a on_b a b stands slots told_a told_b) shared number put) =
      let same : mounts v w d a b ≡ m = some_is (sym e ∙ there) in
      subst (λ (u : Mounted). IsTold u.device.store) same (stands_told v w d h stands)

pub mounted_is_told : (p : Pool) (xs : List Stood) (ms : List Mounted) (n : ℕ) (m : Mounted) → AreMounted p xs ms → mounted_in ms n ≡ Some m →
    IsTold m.device.store
mounted_is_told p xs ms n m all there = by_found p xs ms n m there (find p.used [] xs ms n all)
