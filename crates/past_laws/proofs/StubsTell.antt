-- What the stubs of a history tell of each path, and of the power, while no program runs.
use Rattle.std.proofs.Common.{◌≡◌, ℕ, zero, suc, ◌==◌, ◌||◌, ◌&&◌, ◌≤◌, not, inl, inr, min, Bool, true, false, List, [], ◌∷◌, ◌++◌, None, refl, sym, ◌∙◌, arith}
use Rattle.std.specs.Prelude.{count_by}
use Rattle.std.proofs.lemmas.Bool.{false≢true, ne_eqb}
use Rattle.plain_defs.specs.declared.journal.Item.{Item}
use Rattle.plain_defs.specs.declared.journal.Item.TheVariants.{Power}
use Rattle.plain_defs.specs.History.{History, has_used, is_path_of}
use Rattle.plain_defs.specs.Legal.{is_of_path, is_started, is_used}
use Rattle.device_defs.specs.Start.{started_count}
use Rattle.past_laws.specs.Forgotten.{power_by, stubs_of}
use Rattle.past_laws.proofs.Items.{started_behind}
use Rattle.past_laws.proofs.Plans.{path_is}
use Rattle.past_laws.proofs.Stubs.{Four, count_is, count_powered, four, one_by, started_four, used_counts, used_is, used_powered, used_started}

and_same : (none used : Bool) → (used ≡ true → none ≡ false) → (not none && used) ≡ used
and_same true true some = sym (some refl)
and_same true false some = refl
and_same false used some = refl

not_true : (b : Bool) → (b ≡ true → ⊥) → b ≡ false
not_true true never = absurd (never refl)
not_true false never = refl

one_of : (n : ℕ) → one_by (n == 0) ≡ min n 1
one_of zero = refl
one_of (suc n) = rw (ne_eqb (suc n) 0 (λ (e : suc n ≡ 0). omega (arith, e))) (omega arith)

powered_by : (xs : List Item) (ran some : Bool) → is_started false xs ≡ some → is_started false (xs ++ power_by ran) ≡ (ran && some)
powered_by xs true some is = started_behind false xs [] ∙ is
powered_by xs false some is = started_behind false xs (Power ∷ [])

module _ (h : History) (idle : h.running ≡ None) where
  abbrev pub paths : Four
  paths = record { none = λ path. started_count h path == 0; used = has_used h }

  pub no_path : (path : ℕ) → is_path_of h.running path ≡ false
  no_path path = rw idle refl

  pub started_is_count : (path : ℕ) → started_count h path ≡ count_by (is_of_path path) h.items
  started_is_count path = rw (no_path path) (omega arith)

  pub used_is_items : (path : ℕ) → has_used h path ≡ is_used path false h.items
  used_is_items path = rw (no_path path) refl

  -- a path that used something started a program, and none did where none was started since the power came
  none_used : (path : ℕ) → has_used h path ≡ true → (started_count h path == 0) ≡ false
  none_used path is = elim (used_counts path h.items false (sym (used_is_items path) ∙ is)) [
    | inl never ↦ absurd (false≢true never)
    | inr some ↦ ne_eqb (started_count h path) 0 (λ (e : started_count h path ≡ 0). omega (arith, e, some, started_is_count path))
  ]

  unused : (path : ℕ) → is_started false h.items ≡ false → has_used h path ≡ false
  unused path off = not_true (has_used h path) (λ is. false≢true (sym off ∙ used_started path h.items false false (λ e. e) (sym (used_is_items path) ∙ is)))

  pub used_told : (path : ℕ) → 1 ≤ path → path ≤ 4 → is_used path false (stubs_of h) ≡ has_used h path
  used_told path least most =
      used_powered path (four paths) (is_started false h.items) (has_used h path)
      (used_is paths (path_is path least most) ∙ and_same (started_count h path == 0) (has_used h path) (none_used path)) (unused path)

  pub count_told : (path : ℕ) → 1 ≤ path → path ≤ 4 → count_by (is_of_path path) (stubs_of h) ≡ min (started_count h path) 1
  count_told path least most =
      count_powered path (four paths) (is_started false h.items) ∙ count_is paths (path_is path least most) ∙ one_of (started_count h path)

  abbrev pub some_started : Bool
  some_started =
      not (started_count h 1 == 0) || not (started_count h 2 == 0) || not (started_count h 3 == 0) || not (started_count h 4 == 0)

  pub power_told : is_started false (stubs_of h) ≡ (is_started false h.items && some_started)
  power_told = powered_by (four paths) (is_started false h.items) some_started (started_four paths)
