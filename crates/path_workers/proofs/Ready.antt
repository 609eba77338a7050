-- A device of which no program was started keeps what is pledged of it as it is, and has no counts.
use Rattle.std.proofs.Common.{◌≡◌, ◌≤◌, ◌+◌, ◌*◌, ℕ, Bool, true, false, List, [], ◌∷◌, Option, Some, None, length, refl, sym, ap, subst, ◌∙◌, arith}
use Rattle.std.specs.Prelude.{count_by, if◌then◌else◌}
use Rattle.std.specs.List.{fold}
use Rattle.ckd_types.specs.declared.geometry.Geometry.{Geometry}
use Rattle.plain_defs.specs.declared.journal.Item.{Item}
use Rattle.plain_defs.specs.declared.journal.Item.TheVariants as items
use Rattle.plain_defs.specs.History.{OpenEntry, is_path_of}
use Rattle.plain_defs.specs.Journal.{Plans}
use Rattle.plain_defs.specs.Legal.{is_of_path}
use Rattle.device_outside.specs.declared.volume.Volume.{Ghosts}
use Rattle.device_defs.specs.declared.counts.Losses.{Losses}
use Rattle.device_defs.specs.Pledge.{StaysWithin, ends_with_data_check, failures_of, fresh_count, is_fresh, is_kept_journal, seat_counts}
use Rattle.device_laws.specs.Handed.{allowance_in}
use Rattle.device_laws.specs.Whole.{WholeDevice}
use Rattle.device_laws.proofs.KeptHistories.{AreNot, count_more}
use Rattle.device_turn.specs.Rule.{zeros}
use Rattle.device_core.specs.declared.device.Device.{Device}
use Rattle.device_core.specs.State.{device_of, opened_device}
use Rattle.path_workers.specs.Keeping.{IsReady, IsWithin, KeepsWithin, are_fresh, told_of}

-- nothing but empty volumes came
module _ (p : Item → Bool) (fresh : p items.Fresh ≡ false) where
  are_not : (xs : List Item) → are_fresh xs ≡ true → AreNot p xs
  are_not [] e = tt
  are_not (items.Fresh ∷ xs) e = (fresh, are_not xs e)
  are_not (items.Program x ∷ xs) e = absurd (cc)
  are_not (items.Reset x ∷ xs) e = absurd (cc)
  are_not (items.Act x ∷ xs) e = absurd (cc)
  are_not (items.Power ∷ xs) e = absurd (cc)

  none_counted : (xs : List Item) → are_fresh xs ≡ true → count_by p xs ≡ 0
  none_counted xs e = count_more p [] xs (are_not xs e)

fresh_from : (n : ℕ) (xs : List Item) → are_fresh xs ≡ true → fold (λ a x. a + (if is_fresh x then 1 else 0)) n xs ≡ n + length xs
fresh_from n [] e = omega arith
fresh_from n (items.Fresh ∷ xs) e = let rest = fresh_from (n + 1) xs e in omega (arith, rest)
fresh_from n (items.Program x ∷ xs) e = absurd (cc)
fresh_from n (items.Reset x ∷ xs) e = absurd (cc)
fresh_from n (items.Act x ∷ xs) e = absurd (cc)
fresh_from n (items.Power ∷ xs) e = absurd (cc)

all_counted : (xs : List Item) → are_fresh xs ≡ true → fresh_count xs ≡ length xs
all_counted xs e = let all = fresh_from 0 xs e in omega (arith, all)

kept_long : (xs : List Item) → are_fresh xs ≡ true → is_kept_journal (length xs) xs ≡ true
kept_long [] e = refl
kept_long (items.Fresh ∷ xs) e = kept_long xs e
kept_long (items.Program x ∷ xs) e = absurd (cc)
kept_long (items.Reset x ∷ xs) e = absurd (cc)
kept_long (items.Act x ∷ xs) e = absurd (cc)
kept_long (items.Power ∷ xs) e = absurd (cc)

failed_within : (failed : ℕ) (o : Option ℕ) → StaysWithin (failures_of failed o) failed o
failed_within failed None = tt
failed_within failed (Some n) = omega arith

module _ {V : Type 0} {G : Ghosts V} (d : Device V G) (r : IsReady d) where
  pub ready_keeps : (most : Losses) → IsWithin d.store.counts.losses most → KeepsWithin most d d
  ready_keeps most within = λ first told began. record {
    keeps = record {
      keeps = record {
        number = refl;
        geometry = refl;
        cylinders = refl;
        plans = refl;
        lent = refl;
        was_lent = refl;
        journal = subst (λ (n : ℕ). is_kept_journal n (device_of d).history.items ≡ true) (sym (all_counted (device_of d).history.items r.journal))
            (kept_long (device_of d).history.items r.journal);
        still = λ lent. sym (all_counted (device_of d).history.items r.journal);
        cache = within.cache;
        store = within.store;
        sides = within.sides;
        failures = failed_within (device_of d).store.counts.failed (allowance_in (told_of d));
        tells = λ e. (began e).tells;
        told = λ e. e;
        checks = λ e. none_counted ends_with_data_check refl (device_of d).history.items r.journal;
      };
      allowance = refl;
      none = r.none;
    };
    stands = λ e home. (began e).stands home;
  }

  count_none : (path : ℕ) → 2 * count_by (is_of_path path) (device_of d).history.items + (if is_path_of (device_of d).history.running path then 1 else 0) ≡ 0
  count_none path =
      ap (λ (n : ℕ). 2 * n + (if is_path_of (device_of d).history.running path then 1 else 0))
      (none_counted (is_of_path path) refl (device_of d).history.items r.journal)
      ∙ ap (λ (o : Option OpenEntry). 2 * 0 + (if is_path_of o path then 1 else 0)) r.idle

  pub ready_zeros : seat_counts (device_of d) ≡ zeros
  ready_zeros = rw (count_none 1, count_none 2, count_none 3, count_none 4) refl

-- so is a device that was opened
pub opened_ready : {V : Type 0} {G : Ghosts V} (x : Device V G) (number : ℕ) (g : Geometry) (n : ℕ) (plans : Plans) →
    device_of x ≡ opened_device number g n plans → IsReady x
opened_ready x number g n plans is = record {
  idle = ap (λ (d : WholeDevice). d.history.running) is;
  none = ap (λ (d : WholeDevice). d.history.waiting) is;
  journal = ap (λ (d : WholeDevice). are_fresh d.history.items) is;
}
