-- One more edit of what a patch gave: the patch with that edit gives the image with it.
use Rattle.std.proofs.Common.{
  ◌≡◌,
  ℕ,
  ◌+◌,
  ◌<◌,
  Bool,
  true,
  false,
  cond,
  ◌==◌,
  not,
  inl,
  inr,
  List,
  [],
  ◌∷◌,
  ◌++◌,
  length,
  get_or,
  take,
  filter,
  refl,
  sym,
  ap,
  subst,
  ◌∙◌,
  arith,
}
use Rattle.std.specs.Prelude.{nat_le, Some, None}
use Rattle.std.specs.List.{list_all}
use Rattle.std.proofs.Math.ListN.{get_or-append}
use Rattle.std.proofs.lemmas.Bool.{and_parts, and_from, ltb-true, lt-ltb, leb-true, cases_Bool}
use Rattle.std.proofs.lemmas.List.{append-nil, length-take, get_or-take}
use Rattle.ckd_types.specs.declared.geometry.Geometry.{Geometry}
use Rattle.ckd_types.specs.declared.record.Record.{Record}
use Rattle.ckd_types.specs.declared.record.Track.{Track}
use Rattle.ckd_types.specs.declared.record.Edit.{Edit}
use Rattle.ckd_types.specs.declared.record.Edit.TheVariants.{Update, Format, Zero}
use Rattle.ckd_types.specs.Edit.{edited, apply_edit}
use Rattle.ckd_types.specs.Track.{Fits, empty_zero}
use Rattle.ckd_rules.specs.Facts.{IsUpdate, Suits}
use Rattle.ckd_write.specs.Ranges.{HasRanges}
use Rattle.ckd_write.proofs.Fitting.{edited_fits}
use Rattle.track_image.specs.Image.{Image, edited_image}
use Rattle.nv_store.specs.declared.patch.Replacement.{Replacement}
use Rattle.nv_store.specs.declared.patch.Kept.{Kept}
use Rattle.nv_store.specs.declared.patch.Kept.TheVariants.{Whole, UpTo, Nothing}
use Rattle.nv_store.specs.Fit.{is_fit}
use Rattle.nv_store.specs.Patch.{
  PatchView,
  IsPatch,
  is_whole,
  is_kept,
  with_replacement,
  added,
  reaches,
  has_lengths,
  is_replaceable,
  revised,
  stay,
  patched,
  patched_image,
  applies,
  applied,
}
use Rattle.nv_store.proofs.Fits.{fit_says}
use Rattle.nv_store.proofs.Revisions.{
  place_there,
  key_there,
  body_there,
  lengths_from,
  update_says,
  lengths_kept,
  all_kept,
  length_revised,
  revised_take,
  revised_nothing,
}
use Rattle.nv_store.proofs.Again.{put, nothing_behind, length_front, applied_is}
use Rattle.nv_store.proofs.InOrder.{FollowsBy, parts, up_to, follows_added, follows_reached}

take_lengths : (n : ℕ) (x : List Record) (i k b : ℕ) → has_lengths (take n x) i k b ≡ true → has_lengths x i k b ≡ true
take_lengths n x i k b h =
    let place : i < length (take n x) = place_there (take n x) i k b h in
    let same : get_or (take n x) i (empty_zero 0) ≡ get_or x i (empty_zero 0) =
    get_or-take n x i (empty_zero 0) (omega (arith, place, length-take n x)) in
    lengths_from x i k b (omega (arith, place, length-take n x))
    (ap (λ (r : Record). length r.key) (sym same) ∙ key_there (take n x) i k b h)
    (ap (λ (r : Record). length r.body) (sym same) ∙ body_there (take n x) i k b h)

left_lengths : (x behind : List Record) (i k b : ℕ) → i < length x → has_lengths (x ++ behind) i k b ≡ true
    → has_lengths x i k b ≡ true
left_lengths x behind i k b place h =
    let same : get_or (x ++ behind) i (empty_zero 0) ≡ get_or x i (empty_zero 0) =
    get_or-append x behind (empty_zero 0) i place in
    lengths_from x i k b place (ap (λ (r : Record). length r.key) (sym same) ∙ key_there (x ++ behind) i k b h)
    (ap (λ (r : Record). length r.body) (sym same) ∙ body_there (x ++ behind) i k b h)

unrevised : (kept : Kept) (rs : List Replacement) (x : List Record) (i k b : ℕ)
    → list_all (is_replaceable kept x) rs ≡ true → has_lengths (revised rs x) i k b ≡ true → has_lengths x i k b ≡ true
unrevised kept [] x i k b all h = h
unrevised kept (r ∷ rs) x i k b all h =
    let both = and_parts (is_replaceable kept x r) (list_all (is_replaceable kept x) rs) all in
    let one = and_parts (is_kept kept r.index) (has_lengths x r.index (length r.key) (length r.body)) both.0 in
    sym (lengths_kept x r.index r.key r.body i k b one.1)
    ∙ unrevised kept rs (put r x) i k b (all_kept kept x r.index r.key r.body rs one.1 ∙ both.1) h

-- a record that stays has the lengths that it has in what the patch gave
found : (kept : Kept) (rs : List Replacement) (behind x : List Record) (i k b : ℕ) → is_kept kept i ≡ true
    → is_whole kept ≡ (length behind == 0) → reaches kept x ≡ true → list_all (is_replaceable kept x) rs ≡ true
    → has_lengths (revised rs (stay kept x) ++ behind) i k b ≡ true → has_lengths x i k b ≡ true
found Whole rs behind x i k b here is reached all h =
    let g : has_lengths (revised rs x) i k b ≡ true = subst (λ (y : List Record). has_lengths y i k b ≡ true)
    (ap (λ (y : List Record). revised rs x ++ y) (nothing_behind behind is) ∙ append-nil (revised rs x)) h in
    unrevised Whole rs x i k b all g
found Nothing rs behind x i k b here is reached all h = absurd cc
found (UpTo last) rs behind x i k b here is reached all h =
    let front = left_lengths (revised rs (take (last + 1) x)) behind i k b
    (omega (arith, leb-true i last here, length_front last rs x reached)) h in
    unrevised (UpTo last) rs x i k b all (take_lengths (last + 1) (revised rs x) i k b
    (subst (λ (y : List Record). has_lengths y i k b ≡ true) (sym (revised_take (last + 1) rs x)) front))

step_filtered : (P q : Replacement → Bool) (r : Replacement) (rs : List Replacement) → P r ≡ true
    → list_all P (filter q rs) ≡ true → list_all P (filter q (r ∷ rs)) ≡ true
step_filtered P q r rs one rest = elim (cases_Bool (q r)) [ inl y ↦ here y | inr n ↦ there n ]
  where
    here : q r ≡ true → list_all P (filter q (r ∷ rs)) ≡ true
    here y = rw y (and_from _ _ one rest)

    there : q r ≡ false → list_all P (filter q (r ∷ rs)) ≡ true
    there n = rw n rest

pub filtered : (P q : Replacement → Bool) (rs : List Replacement) → list_all P rs ≡ true
    → list_all P (filter q rs) ≡ true
filtered P q [] all = refl
filtered P q (r ∷ rs) all = let both = and_parts (P r) (list_all P rs) all in step_filtered P q r rs both.0
    (filtered P q rs both.1)

step_narrowed : (a : ℕ) (x : List Record) (r : Replacement) (rs : List Replacement)
    → has_lengths x r.index (length r.key) (length r.body) ≡ true
    → list_all (is_replaceable (UpTo a) x) (up_to a rs) ≡ true
    → list_all (is_replaceable (UpTo a) x) (up_to a (r ∷ rs)) ≡ true
step_narrowed a x r rs one rest = elim (cases_Bool (nat_le r.index a)) [ inl y ↦ here y | inr n ↦ there n ]
  where
    here : nat_le r.index a ≡ true → list_all (is_replaceable (UpTo a) x) (up_to a (r ∷ rs)) ≡ true
    here y = subst (λ (b : Bool). list_all (is_replaceable (UpTo a) x) (cond b (r ∷ up_to a rs) (up_to a rs)) ≡ true)
        (sym y) (and_from _ _ (and_from _ _ y one) rest)

    there : nat_le r.index a ≡ false → list_all (is_replaceable (UpTo a) x) (up_to a (r ∷ rs)) ≡ true
    there n = rw n rest

narrowed : (kept : Kept) (a : ℕ) (x : List Record) (rs : List Replacement) → list_all (is_replaceable kept x) rs ≡ true
    → list_all (is_replaceable (UpTo a) x) (up_to a rs) ≡ true
narrowed kept a x [] all = refl
narrowed kept a x (r ∷ rs) all =
    let both = and_parts (is_replaceable kept x r) (list_all (is_replaceable kept x) rs) all in
    let one = and_parts (is_kept kept r.index) (has_lengths x r.index (length r.key) (length r.body)) both.0 in
    step_narrowed a x r rs one.1 (narrowed kept a x rs both.1)

reached_added : (g : Geometry) (e : Edit) (kept : Kept) (rs : List Replacement) (behind x : List Record)
    → is_whole kept ≡ (length behind == 0) → reaches kept x ≡ true → Suits g (revised rs (stay kept x) ++ behind) e
    → reaches (added (parts rs kept behind) e).kept x ≡ true
reached_added g (Update i key body) Whole rs behind x is reached suits = refl
reached_added g (Update i key body) Nothing rs behind x is reached suits = refl
reached_added g (Update i key body) (UpTo last) rs behind x is reached suits =
    elim (cases_Bool (nat_le i last)) [ inl y ↦ here y | inr n ↦ there n ]
  where
    here : nat_le i last ≡ true → reaches (added (parts rs (UpTo last) behind) (Update i key body)).kept x ≡ true
    here y = rw y reached

    there : nat_le i last ≡ false → reaches (added (parts rs (UpTo last) behind) (Update i key body)).kept x ≡ true
    there n = rw n reached
reached_added g (Format a new) Whole rs behind x is reached suits =
    let m : a < length (revised rs x) = subst (λ (y : List Record). a < length y)
    (ap (λ (y : List Record). revised rs x ++ y) (nothing_behind behind is) ∙ append-nil (revised rs x)) suits.place in
    lt-ltb a (length x) (omega (arith, m, length_revised rs x))
reached_added g (Format a new) Nothing rs behind x is reached suits = refl
reached_added g (Format a new) (UpTo last) rs behind x is reached suits =
    elim (cases_Bool (nat_le a last)) [ inl y ↦ here y | inr n ↦ there n ]
  where
    here : nat_le a last ≡ true → reaches (added (parts rs (UpTo last) behind) (Format a new)).kept x ≡ true
    here y = rw y (lt-ltb a (length x) (omega (arith, leb-true a last y, ltb-true last (length x) reached)))

    there : nat_le a last ≡ false → reaches (added (parts rs (UpTo last) behind) (Format a new)).kept x ≡ true
    there n = rw n reached
reached_added g (Zero new) kept rs behind x is reached suits = refl

pub all_replaced : (P : Replacement → Bool) (new : Replacement) (rs : List Replacement) → P new ≡ true → list_all P rs ≡ true
    → list_all P (with_replacement new rs) ≡ true
all_replaced P new [] one all = and_from _ _ one refl
all_replaced P new (r ∷ rs) one all =
    let both = and_parts (P r) (list_all P rs) all in
    elim (cases_Bool (r.index == new.index)) [
      | inl same ↦ rw same (and_from _ _ one (filtered P (λ (w : Replacement). not (w.index == new.index)) rs both.1))
      | inr other ↦ rw other (and_from _ _ both.0 (all_replaced P new rs one both.1))
    ]

-- an update of a record that stays
kept_update : (i : ℕ) (key body : List ℕ) (kept : Kept) (rs : List Replacement) (behind x : List Record)
    → is_kept kept i ≡ true → is_whole kept ≡ (length behind == 0) → reaches kept x ≡ true
    → list_all (is_replaceable kept x) rs ≡ true → IsUpdate (revised rs (stay kept x) ++ behind) i key body
    → list_all (is_replaceable kept x) (with_replacement (record { index = i; key = key; body = body }) rs) ≡ true
kept_update i key body kept rs behind x here is reached all suits =
    let r : Replacement = record { index = i; key = key; body = body } in
    all_replaced (is_replaceable kept x) r rs (and_from _ _ here (found kept rs behind x i (length key) (length body) here is reached all
    ((update_says (revised rs (stay kept x) ++ behind) i key body).1 suits))) all

replaceable_added : (g : Geometry) (e : Edit) (kept : Kept) (rs : List Replacement) (behind x : List Record)
    → is_whole kept ≡ (length behind == 0) → reaches kept x ≡ true → list_all (is_replaceable kept x) rs ≡ true
    → Suits g (revised rs (stay kept x) ++ behind) e
    → list_all (is_replaceable (added (parts rs kept behind) e).kept x) (added (parts rs kept behind) e).replaced ≡ true
replaceable_added g (Update i key body) Whole rs behind x is reached all suits =
    kept_update i key body Whole rs behind x refl is reached all suits
replaceable_added g (Update i key body) Nothing rs behind x is reached all suits = all
replaceable_added g (Update i key body) (UpTo last) rs behind x is reached all suits =
    elim (cases_Bool (nat_le i last)) [ inl y ↦ here y | inr n ↦ there n ]
  where
    here : nat_le i last ≡ true → list_all (is_replaceable
        (added (parts rs (UpTo last) behind) (Update i key body)).kept x)
        (added (parts rs (UpTo last) behind) (Update i key body)).replaced ≡ true
    here y = rw y (kept_update i key body (UpTo last) rs behind x y is reached all suits)

    there : nat_le i last ≡ false → list_all (is_replaceable
        (added (parts rs (UpTo last) behind) (Update i key body)).kept x)
        (added (parts rs (UpTo last) behind) (Update i key body)).replaced ≡ true
    there n = rw n all
replaceable_added g (Format a new) Whole rs behind x is reached all suits = narrowed Whole a x rs all
replaceable_added g (Format a new) Nothing rs behind x is reached all suits = all
replaceable_added g (Format a new) (UpTo last) rs behind x is reached all suits =
    elim (cases_Bool (nat_le a last)) [ inl y ↦ here y | inr n ↦ there n ]
  where
    here : nat_le a last ≡ true → list_all (is_replaceable (added (parts rs (UpTo last) behind) (Format a new)).kept x)
        (added (parts rs (UpTo last) behind) (Format a new)).replaced ≡ true
    here y = rw y (narrowed (UpTo last) a x rs all)

    there : nat_le a last ≡ false → list_all (is_replaceable (added (parts rs (UpTo last) behind) (Format a new)).kept
        x) (added (parts rs (UpTo last) behind) (Format a new)).replaced ≡ true
    there n = rw n all
replaceable_added g (Zero new) kept rs behind x is reached all suits = refl

follows_of : (kept : Kept) (rs : List Replacement) (behind x : List Record) → reaches kept x ≡ true
    → FollowsBy kept rs behind x (revised rs (stay kept x) ++ behind)
follows_of Whole rs behind x reached = refl
follows_of Nothing rs behind x reached = ap (λ (y : List Record). y ++ behind) (revised_nothing rs)
follows_of (UpTo last) rs behind x reached = inl (ltb-true last (length x) reached, refl)

-- the records of a track that fits still fit with an edit that suits them, wherever the track is
still_fit : (g : Geometry) (records : List Record) (e : Edit) → is_fit g records ≡ true → Suits g records e
    → HasRanges e → is_fit g (edited e records) ≡ true
still_fit g records e fit suits ranges =
    let t : Track = record { home = record { cc = 0; hh = 0 }; records = records } in
    let fits : Fits g t = (fit_says g t).0 (record { cc = omega arith; hh = omega arith }, fit) in
    ((fit_says g (apply_edit e t)).1 (edited_fits g t e fits suits ranges)).1

-- an edit that suits what a patch gave: the patch with it gives the edited image
pub one_more : (p : PatchView) (e : Edit) (i out : Image) → IsPatch p → applied p i ≡ Some out
    → Suits out.geometry out.track.records e → HasRanges e → applied (added p e) i ≡ Some (edited_image e out)
one_more p e i out is gave suits ranges =
    let x = i.track.records in
    let was = applied_is p i out gave in
    let t = and_parts (reaches p.kept x) _ was.0 in
    let u = and_parts (list_all (is_replaceable p.kept x) p.replaced) _ t.1 in
    let m : Suits i.geometry (patched p x) e = subst (λ (y : Image). Suits y.geometry y.track.records e)
    (sym was.1) suits in
    let reach = reached_added i.geometry e p.kept p.replaced p.behind x is.behind t.0 m in
    let repl = replaceable_added i.geometry e p.kept p.replaced p.behind x is.behind t.0 u.0 m in
    let now : edited e (patched p x) ≡ patched (added p e) x =
    follows_reached (added p e).kept (added p e).replaced (added p e).behind x (edited e (patched p x)) reach
    (follows_added e p.kept p.replaced p.behind x (patched p x) is.behind
    (follows_of p.kept p.replaced p.behind x t.0)) in
    let fit : is_fit i.geometry (patched (added p e) x) ≡ true =
    ap (is_fit i.geometry) (sym now) ∙ still_fit i.geometry (patched p x) e u.1 m ranges in
    let all : applies (added p e) i ≡ true = and_from _ _ reach (and_from _ _ repl fit) in
    ap (λ (b : Bool). cond b (Some (patched_image (added p e) i)) None) all
    ∙ ap Some (ap (λ (y : List Record). record i { track = record i.track { records = y } }) (sym now)
    ∙ ap (edited_image e) was.1)
