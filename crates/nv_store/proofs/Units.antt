-- Whether what comes of a patch fits, by lengths alone.
use Rattle.std.proofs.Common.{
  ◌≡◌,
  ℕ,
  zero,
  suc,
  ◌+◌,
  ◌<◌,
  Bool,
  true,
  ◌==◌,
  ◌&&◌,
  inl,
  inr,
  List,
  [],
  ◌∷◌,
  ◌++◌,
  length,
  get_or,
  take,
  refl,
  sym,
  ap,
  ◌∙◌,
  add-one,
  arith,
}
use Rattle.std.specs.Prelude.{sum_by}
use Rattle.std.specs.List.{list_all}
use Rattle.std.proofs.Math.ListN.{set}
use Rattle.std.proofs.lemmas.Bool.{and_parts, and_from, cases_lt}
use Rattle.std.proofs.lemmas.List.{append-nil, set_past}
use Rattle.std.proofs.lemmas.List.Folds.{list_all-append}
use Rattle.std.proofs.lemmas.List.Sums.{sum_by-append, sum_by-set}
use Rattle.ckd_types.specs.declared.geometry.Geometry.{Geometry}
use Rattle.ckd_types.specs.declared.record.Record.{Record}
use Rattle.ckd_types.specs.Geometry.{cost}
use Rattle.ckd_types.specs.Track.{Fits, cost_of, empty_zero}
use Rattle.track_image.specs.Image.{Image}
use Rattle.nv_store.specs.declared.patch.Replacement.{Replacement}
use Rattle.nv_store.specs.declared.patch.Kept.{Kept}
use Rattle.nv_store.specs.declared.patch.Kept.TheVariants.{Whole}
use Rattle.nv_store.specs.Fit.{is_record, is_zero, is_fit, fit_units}
use Rattle.nv_store.specs.Patch.{has_lengths, is_replaceable, revised, stay}
use Rattle.nv_store.proofs.Fits.{fit_test}
use Rattle.nv_store.proofs.Revisions.{key_there, body_there, all_kept}
use Rattle.nv_store.proofs.Again.{put, front_replaceable, nothing_behind}

abbrev pub units : Geometry → Record → ℕ
units g r = cost g (length r.key) (length r.body)

-- ---- replacements keep lengths

all_set : (p : Record → Bool) (xs : List Record) (j : ℕ) (new d : Record) → p new ≡ p (get_or xs j d)
    → list_all p (set xs j new) ≡ list_all p xs
all_set p [] j new d same = refl
all_set p (x ∷ xs) zero new d same = ap (λ (b : Bool). b && list_all p xs) same
all_set p (x ∷ xs) (suc j) new d same = ap (λ (b : Bool). p x && b) (all_set p xs j new d same)

sum_set : (f : Record → ℕ) (xs : List Record) (j : ℕ) (new d : Record) → f new ≡ f (get_or xs j d)
    → sum_by f (set xs j new) ≡ sum_by f xs
sum_set f xs j new d same = elim (cases_lt j (length xs)) [
  | inl there ↦ omega (arith, sum_by-set f xs j new d there, same)
  | inr past ↦ ap (sum_by f) (set_past xs j new past)
]

fit_set : (g : Geometry) (xs behind : List Record) (j : ℕ) (new d : Record) → is_zero new ≡ is_zero (get_or xs j d)
    → is_record new ≡ is_record (get_or xs j d) → units g new ≡ units g (get_or xs j d)
    → is_fit g (set xs j new ++ behind) ≡ is_fit g (xs ++ behind)
fit_set g [] behind j new d zero' record' units' = refl
fit_set g (x ∷ xs) behind zero new d zero' record' units' = rw (zero', record') refl
fit_set g (x ∷ xs) behind (suc j) new d zero' record' units' =
    rw (
      list_all-append is_record (set xs j new) behind,
      all_set is_record xs j new d record',
      sum_by-append (units g) (set xs j new) behind,
      sum_set (units g) xs j new d units',
      list_all-append is_record xs behind,
      sum_by-append (units g) xs behind,
    ) refl

fit_put : (g : Geometry) (r : Replacement) (xs behind : List Record)
    → has_lengths xs r.index (length r.key) (length r.body) ≡ true
    → is_fit g (put r xs ++ behind) ≡ is_fit g (xs ++ behind)
fit_put g r xs behind h =
    let key = key_there xs r.index _ _ h in
    let body = body_there xs r.index _ _ h in
    fit_set g xs behind r.index (record (get_or xs r.index (empty_zero 0)) { key = r.key; body = r.body })
    (empty_zero 0) (rw (key, body) refl) (rw (key, body) refl) (rw (key, body) refl)

fit_revised : (g : Geometry) (rs : List Replacement) (xs behind : List Record)
    → list_all (is_replaceable Whole xs) rs ≡ true → is_fit g (revised rs xs ++ behind) ≡ is_fit g (xs ++ behind)
fit_revised g [] xs behind all = refl
fit_revised g (r ∷ rs) xs behind all =
    let parts = and_parts (is_replaceable Whole xs r) (list_all (is_replaceable Whole xs) rs) all in
    fit_revised g rs (put r xs) behind (all_kept Whole xs r.index r.key r.body rs parts.0 ∙ parts.1)
    ∙ fit_put g r xs behind parts.0

pub fit_patched : (g : Geometry) (kept : Kept) (rs : List Replacement) (xs behind : List Record)
    → list_all (is_replaceable kept xs) rs ≡ true → is_fit g (revised rs (stay kept xs) ++ behind)
    ≡ is_fit g (stay kept xs ++ behind)
fit_patched g kept rs xs behind all = fit_revised g rs (stay kept xs) behind (front_replaceable kept xs rs all)

-- ---- the three ways in which a track is cut

all_take : (p : Record → Bool) (n : ℕ) (xs : List Record) → list_all p xs ≡ true → list_all p (take n xs) ≡ true
all_take p zero xs all = refl
all_take p (suc n) [] all = refl
all_take p (suc n) (x ∷ xs) all = let both = and_parts (p x) (list_all p xs) all in and_from _ _ both.0
    (all_take p n xs both.1)

front_fit : (g : Geometry) (last : ℕ) (records behind : List Record) → is_fit g records ≡ true → last < length records
    → fit_units g (cost_of g (take (last + 1) records)) behind ≡ is_fit g (take (last + 1) records ++ behind)
front_fit g last [] behind fit there = absurd (omega arith)
front_fit g last (x ∷ xs) behind fit there =
    let first = and_parts (is_zero x) _ fit in
    let rest = and_parts (list_all is_record (x ∷ xs)) _ first.1 in
    let all = and_parts (is_record x) (list_all is_record xs) rest.0 in
    rw (
      add-one,
      first.0,
      all.0,
      list_all-append is_record (take last xs) behind,
      all_take is_record last xs all.1,
      sum_by-append (units g) (take last xs) behind,
    ) refl

pub whole_fits : (i : Image) (behind : List Record) → Fits i.geometry i.track → true ≡ (length behind == 0)
    → true ≡ is_fit i.geometry (i.track.records ++ behind)
whole_fits i behind fits none = sym (rw (nothing_behind behind none, append-nil i.track.records) (fit_test i fits))

pub front_fits : (i : Image) (last : ℕ) (behind : List Record) → Fits i.geometry i.track → last < length i.track.records
    → fit_units i.geometry (cost_of i.geometry (take (last + 1) i.track.records)) behind
    ≡ is_fit i.geometry (take (last + 1) i.track.records ++ behind)
front_fits i last behind fits there = front_fit i.geometry last i.track.records behind (fit_test i fits) there
