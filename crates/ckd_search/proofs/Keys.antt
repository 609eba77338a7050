-- The first record with a key, as a loop over the records finds it.
use Rattle.std.proofs.Common.{◌≡◌, ℕ, suc, ◌+◌, ◌<◌, ◌≤◌, Bool, true, false, cond, nat_lt, List, ◌∷◌, length, drop, Some, None, refl, ap, ◌∙◌, arith}
use Rattle.std.proofs.lemmas.Bool.Decides.{nat_tests}
use Rattle.std.proofs.lemmas.List.{at_drop_more, drop_all}
use Rattle.std.specs.Prelude.{position}
use Rattle.std.specs.List.{position_or_len}
use Rattle.ckd_types.specs.declared.record.Record.{Record}
use Rattle.ckd_types.specs.Track.{empty_zero}
use Rattle.ckd_rules.specs.Reads.{record_at}
use Rattle.ckd_rules.specs.Searches.{has_key, key_from, plus}

below_more : (q n : ℕ) → nat_lt (1 + q) (suc n) ≡ nat_lt q n
below_more q n = grind (arith, nat_tests)

plus_more : (i q : ℕ) (b : Bool) → plus i (cond b (Some (1 + q)) None) ≡ plus (i + 1) (cond b (Some q) None)
plus_more i q true = ap (λ (n : ℕ). Some n) (omega arith)
plus_more i q false = refl

first_passes : (r : Record) (records : List Record) (i : ℕ) → has_key r ≡ true → plus i (position has_key (r ∷ records)) ≡ Some i
first_passes r records i has = grind (arith, nat_tests)

first_fails : (r : Record) (records : List Record) (i : ℕ) → has_key r ≡ false →
    plus i (position has_key (r ∷ records)) ≡ plus (i + 1) (position has_key records)
first_fails r records i has =
    let len : position_or_len has_key (r ∷ records) ≡ 1 + position_or_len has_key records = rw has refl in
    rw len (ap (λ (b : Bool). plus i (cond b (Some (1 + position_or_len has_key records)) None))
    (below_more (position_or_len has_key records) (length records)) ∙ plus_more i
    (position_or_len has_key records) (nat_lt (position_or_len has_key records) (length records)))

split : (records : List Record) (i : ℕ) → i < length records → drop i records ≡ record_at records i ∷ drop (i + 1) records
split records i below = at_drop_more (λ (l : List Record). l) records i (empty_zero 0) below

pub key_here : (records : List Record) (i : ℕ) → i < length records → has_key (record_at records i) ≡ true → key_from records i ≡ Some i
key_here records i below has = ap (λ (l : List Record). plus i (position has_key l))
    (split records i below) ∙ first_passes (record_at records i) (drop (i + 1) records) i has

pub key_more : (records : List Record) (i : ℕ) → i < length records → has_key (record_at records i) ≡ false → key_from records i ≡ key_from records (i + 1)
key_more records i below has = ap (λ (l : List Record). plus i (position has_key l))
    (split records i below) ∙ first_fails (record_at records i) (drop (i + 1) records) i has

pub key_none : (records : List Record) (i : ℕ) → length records ≤ i → key_from records i ≡ None
key_none records i past = ap (λ (l : List Record). plus i (position has_key l)) (drop_all i records past)
