-- The devices keep their numbers behind the orders for which a volume is handed in, and each device of a deck that was read has one of its own.
use Rattle.std.proofs.Common.{◌≡◌, ◌==◌, ℕ, Bool, true, false, List, [], ◌∷◌, map, Option, Some, None, not, is_some, refl, sym, ap, ◌∙◌}
use Rattle.std.specs.Prelude.{if◌then◌else◌}
use Rattle.std.proofs.lemmas.Bool.{eqb-true, eq-eqb}
use Rattle.ckd_types.specs.declared.paths.Side.{Side}
use Rattle.ckd_types.specs.declared.paths.Side.TheVariants.{A, B}
use Rattle.deck_text.specs.declared.line.DeviceLine.{DeviceLine}
use Rattle.deck_text.specs.DeckLines.{DeckLines}
use Rattle.device_outside.specs.Lists as I
use Rattle.device_outside.specs.Lists.{is_in}
use Rattle.device_outside.specs.Told.{Calls}
use Rattle.device_defs.specs.Orders.{split, restore, replace}
use Rattle.subsystem_defs.specs.declared.end.OrderFault.{OrderFault}
use Rattle.subsystem_defs.specs.Decks.{Firsts, opened_device_on}
use Rattle.subsystem_defs.specs.Happening as H
use Rattle.subsystem_defs.specs.Happening.{is_lent_to, restored_in, replaced_by, replaced_at, replaced, unpaired_by, unpaired_at, unpaired}
use Rattle.subsystem_defs.specs.Refusals.{replace_fault, unpair_fault}
use Rattle.subsystem_defs.specs.Subsystem.{Mounted, Subsystem, number_of, mounted_in, put_in, with_calls}
use Rattle.subsystem_laws.specs.Waits.{AreNumbered}
use Rattle.subsystem_laws.proofs.Walks.{mounted_number}
use Rattle.keeper_laws.specs.Firmness.{has_one}
use Rattle.keeper_laws.proofs.FirmNumbers.{Alike, none_left, one_more, alike_same, alike_then, one_so, put_alike}

restored_alike : (ms : List Mounted) (k : ℕ) (volume : Calls) → Alike ms (restored_in ms k volume)
restored_alike [] k volume = none_left
restored_alike (m ∷ ms) k volume = by_test (is_lent_to m.device.store.lent k) (restored_alike ms k volume) where
  by_test : (b : Bool) → Alike ms (restored_in ms k volume) →
      Alike (m ∷ ms) (if b then record m { device = restore m.device; a = volume } ∷ ms else m ∷ restored_in ms k volume)
  by_test true rest = one_more refl (alike_same ms)
  by_test false rest = one_more refl rest

module _ (s : Subsystem) where
  with_side : (side : Side) (volume : Calls) (m : Mounted) → number_of (with_calls (record m { device = replace m.device side }) side volume) ≡ number_of m
  with_side A volume m = refl
  with_side B volume m = refl

  replaces_alike : (k : ℕ) (side : Side) (volume : Calls) (m : Mounted) (f : Option OrderFault) → mounted_in s.mounted k ≡ Some m →
      Alike s.mounted (replaced_by s k side volume m f).behind.mounted
  replaces_alike k side volume m (Some f) is = alike_same s.mounted
  replaces_alike k side volume m None is =
      put_alike s.mounted k (with_calls (record m { device = replace m.device side }) side volume)
      (with_side side volume m ∙ mounted_number s.mounted k m is)

  replaced_alike : (k : ℕ) (side : Side) (volume : Calls) (o : Option Mounted) → mounted_in s.mounted k ≡ o →
      Alike s.mounted (replaced_at s k side volume o).behind.mounted
  replaced_alike k side volume None is = alike_same s.mounted
  replaced_alike k side volume (Some m) is = replaces_alike k side volume m (replace_fault m.device side) is

  pub one_replaced : (n k : ℕ) (side : Side) (volume : Calls) → has_one n s.mounted ≡ true → has_one n (replaced s k side volume).behind.mounted ≡ true
  unfolding H.replaced
  one_replaced n k side volume one = one_so n (replaced_alike k side volume (mounted_in s.mounted k) refl) ∙ one

  unpairs_alike : (k : ℕ) (volume : Calls) (m : Mounted) (f : Option OrderFault) → mounted_in s.mounted k ≡ Some m →
      Alike s.mounted (unpaired_by s k volume m f).behind.mounted
  unpairs_alike k volume m (Some f) is = alike_same s.mounted
  unpairs_alike k volume m None is =
      let x : Mounted = record m { device = split m.device } in
      alike_then (put_alike s.mounted k x (mounted_number s.mounted k m is)) (restored_alike (put_in s.mounted k x) k volume)

  unpaired_alike : (k : ℕ) (volume : Calls) (o : Option Mounted) → mounted_in s.mounted k ≡ o → Alike s.mounted (unpaired_at s k volume o).behind.mounted
  unpaired_alike k volume None is = alike_same s.mounted
  unpaired_alike k volume (Some m) is = unpairs_alike k volume m (unpair_fault m.device) is

  pub one_unpaired : (n k : ℕ) (volume : Calls) → has_one n s.mounted ≡ true → has_one n (unpaired s k volume).behind.mounted ≡ true
  unfolding H.unpaired
  one_unpaired n k volume one = one_so n (unpaired_alike k volume (mounted_in s.mounted k) refl) ∙ one

-- Where a deck is opened

module _ (firsts : Firsts) (deck : DeckLines) (n : ℕ) where
  not_seen : (seen : List ℕ) (ds : List DeviceLine) → AreNumbered seen ds → is_in n seen ≡ true → mounted_in (map (opened_device_on firsts deck) ds) n ≡ None
  unfolding I.is_in
  not_seen seen [] are is = refl
  not_seen seen (d ∷ ds) are is = by_test (d.number == n) refl (not_seen (d.number ∷ seen) ds are.2 (more (n == d.number) is))
    where
      more : (b : Bool) → is_in n seen ≡ true → (if b then true else is_in n seen) ≡ true
      more true e = refl
      more false e = e

      by_test : (b : Bool) → (d.number == n) ≡ b → mounted_in (map (opened_device_on firsts deck) ds) n ≡ None →
          (if b then Some (opened_device_on firsts deck d) else mounted_in (map (opened_device_on firsts deck) ds) n) ≡ None
      by_test true e rest = absurd (let no : true ≡ false = sym is ∙ ap (λ (k : ℕ). is_in k seen) (sym (eqb-true d.number n e)) ∙ are.0 in cc)
      by_test false e rest = rest

  pub one_opened : (seen : List ℕ) (ds : List DeviceLine) → AreNumbered seen ds → (m : Mounted) →
      mounted_in (map (opened_device_on firsts deck) ds) n ≡ Some m → has_one n (map (opened_device_on firsts deck) ds) ≡ true
  unfolding I.is_in
  one_opened seen [] are m there = absurd (cc)
  one_opened seen (d ∷ ds) are m there = by_test (d.number == n) refl there (one_opened (d.number ∷ seen) ds are.2 m)
    where
      here : (d.number == n) ≡ true → is_in n (d.number ∷ seen) ≡ true
      here e = ap (λ (b : Bool). if b then true else is_in n seen) (eq-eqb n d.number (sym (eqb-true d.number n e)))

      by_test : (b : Bool) → (d.number == n) ≡ b →
          (if b then Some (opened_device_on firsts deck d) else mounted_in (map (opened_device_on firsts deck) ds) n) ≡ Some m →
          (mounted_in (map (opened_device_on firsts deck) ds) n ≡ Some m → has_one n (map (opened_device_on firsts deck) ds) ≡ true) →
          (if b then not (is_some (mounted_in (map (opened_device_on firsts deck) ds) n)) else has_one n (map (opened_device_on firsts deck) ds)) ≡ true
      by_test true e at rest = ap (λ (o : Option Mounted). not (is_some o)) (not_seen (d.number ∷ seen) ds are.2 (here e))
      by_test false e at rest = rest at
