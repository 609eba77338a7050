-- What is owed of each track, by the entries of those of which something is.
use Rattle.std.proofs.Common.{◌≡◌, ◌∙◌, ℕ, ◌<◌, ◌≤◌, inl, inr, List, length, get_or, sym, ap, arith}
use Rattle.std.specs.Prelude.{Option, None, min, replicate}
use Rattle.std.specs.Option.{unwrap_or}
use Rattle.std.proofs.Math.ListN.{set}
use Rattle.std.proofs.lemmas.Bool.{cases_eq, cases_lt}
use Rattle.std.proofs.lemmas.List.{length-replicate, length-set, get_or_past, get_or-set_other, get_or-set_same, ext_get_or, set_past}
use Rattle.std.proofs.lemmas.List.FromFn.{length-map-range_with_len, get_or-map-range_with_len}
use Rattle.device_defs.specs.declared.owed.Owed.{Owed}
use Rattle.device_defs.specs.Store.{no_debt}
use Rattle.track_table.proofs.Places.{empty_places}
use Rattle.event_notes.specs.Debts.{all_owed, owed_by, owed_in}

length_owed : (tracks : ℕ) (entries : List (Option Owed)) → length (all_owed tracks entries) ≡ tracks
unfolding all_owed
length_owed tracks entries = length-map-range_with_len (owed_by entries) 0 tracks

pub owed_is : (tracks : ℕ) (entries : List (Option Owed)) (t : ℕ) → length entries ≤ tracks → owed_in (all_owed tracks entries) t ≡ owed_by entries t
unfolding all_owed
owed_is tracks entries t few = elim (cases_lt t tracks) [
  | inl below ↦ get_or-map-range_with_len (owed_by entries) 0 tracks t t no_debt below (omega arith)
  | inr past ↦ get_or_past (all_owed tracks entries) t no_debt (omega (arith, past, length_owed tracks entries))
      ∙ ap (λ (o : Option Owed). unwrap_or o no_debt) (sym (get_or_past entries t None (omega (arith, past, few))))
]

same_owed : (xs ys : List Owed) → length xs ≡ length ys → ((t : ℕ) → owed_in xs t ≡ owed_in ys t) → xs ≡ ys
same_owed xs ys same each = ext_get_or no_debt xs ys same (λ t below. each t)

pub none_owed : (tracks n : ℕ) → n ≤ tracks → all_owed tracks (replicate n None) ≡ replicate tracks no_debt
none_owed tracks n few =
    same_owed _ _ (length_owed tracks (replicate n None) ∙ sym (length-replicate tracks no_debt))
    (λ t. owed_is tracks (replicate n None) t (omega (arith, few, length-replicate {A = Option Owed} n None))
    ∙ ap (λ (o : Option Owed). unwrap_or o no_debt) (empty_places n t None) ∙ sym (empty_places tracks t no_debt))

-- what holds of each entry, where one of them is another
pub each_entry : (P : Option Owed → Type 0) (entries : List (Option Owed)) (t : ℕ) (entry : Option Owed) → ((q : ℕ) → P (get_or entries q None)) → P entry
    → (q : ℕ) → P (get_or (set entries t entry) q None)
each_entry P entries t entry each here q = elim (cases_lt t (length entries)) [
  | inl inside ↦ elim (cases_eq q t) [
    | inl e ↦ rw (e, get_or-set_same entries t entry None inside) here
    | inr other ↦ rw (get_or-set_other entries t q entry None other) (each q)
  ]
  | inr past ↦ rw (set_past entries t entry past) (each q)
]

pub owed_set : (tracks : ℕ) (entries : List (Option Owed)) (t : ℕ) (entry : Option Owed) (o : Owed) → length entries ≡ min tracks 65535 → t < 65535
    → unwrap_or entry no_debt ≡ o → all_owed tracks (set entries t entry) ≡ set (all_owed tracks entries) t o
owed_set tracks entries t entry o whole below is = elim (cases_lt t (length entries)) [
  | inl inside ↦ same_owed _ _ (length_owed tracks _ ∙ sym (length_owed tracks entries) ∙ sym (length-set (all_owed tracks entries) t o)) (each inside)
  | inr past ↦ rw (set_past entries t entry past) (sym (set_past (all_owed tracks entries) t o (omega (arith, length_owed tracks entries, past, whole, below))))
]
  where
    each : t < length entries → (q : ℕ) → owed_in (all_owed tracks (set entries t entry)) q ≡ owed_in (set (all_owed tracks entries) t o) q
    each inside q = owed_is tracks (set entries t entry) q (omega (arith, whole, length-set entries t entry)) ∙ elim (cases_eq q t) [
      | inl e ↦ rw (e, get_or-set_same entries t entry None inside)
          (is ∙ sym (get_or-set_same (all_owed tracks entries) t o no_debt (omega (arith, inside, whole, length_owed tracks entries))))
      | inr other ↦ rw (get_or-set_other entries t q entry None other)
          (sym (owed_is tracks entries q (omega (arith, whole))) ∙ sym (get_or-set_other (all_owed tracks entries) t q o no_debt other))
    ]
