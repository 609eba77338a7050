-- A patch that is applied does what its edits do one after the other.
use Rattle.std.proofs.Common.{
  ◌≡◌,
  ℕ,
  ◌+◌,
  ◌-◌,
  ◌<◌,
  ◌≤◌,
  true,
  false,
  ◌==◌,
  not,
  ◌⊎◌,
  inl,
  inr,
  List,
  [],
  ◌∷◌,
  ◌++◌,
  length,
  get_or,
  take,
  filter,
  refl,
  sym,
  ap,
  subst,
  ◌∙◌,
  append_assoc,
  arith,
}
use Rattle.std.specs.Prelude.{nat_le, Some}
use Rattle.std.proofs.Math.ListN.{set, get_or-append}
use Rattle.std.proofs.Math.Seq.{take-append-add}
use Rattle.std.proofs.lemmas.Bool.{and_parts, ltb-true, lt-ltb, leb-true, leb-false, eqb-true, ne_eqb, cases_lt, cases_Bool, cases_eq, eq-eqb}
use Rattle.std.proofs.lemmas.List.{
  append-nil,
  take_all,
  take-take,
  take-append-le,
  length-append,
  length-take,
  length-set,
  get_or-append-add,
  set-append_left,
  set-append_right,
  set_past,
}
use Rattle.ckd_types.specs.declared.record.Record.{Record}
use Rattle.ckd_types.specs.declared.record.Edit.{Edit}
use Rattle.ckd_types.specs.declared.record.Edit.TheVariants.{Update, Format, Zero}
use Rattle.ckd_types.specs.Edit.{edited}
use Rattle.ckd_types.specs.Track.{empty_zero}
use Rattle.track_image.specs.Image.{Image}
use Rattle.nv_store.specs.declared.patch.Replacement.{Replacement}
use Rattle.nv_store.specs.declared.patch.Kept.{Kept}
use Rattle.nv_store.specs.declared.patch.Kept.TheVariants.{Whole, UpTo, Nothing}
use Rattle.nv_store.specs.Patch.{PatchView, IsPatch, no_edits, is_whole, with_replacement, added, reaches, revised, stay, applied}
use Rattle.nv_store.specs.Edits.{all_added, all_edited}
use Rattle.nv_store.proofs.Revisions.{update_take, length_revised, revised_take, revised_nothing}
use Rattle.nv_store.proofs.Again.{put, commuting, erased, nothing_behind, length_front, applied_is}

-- ---- the replacements of a patch after an edit

-- the replacements of other records
abbrev without : Replacement → List Replacement → List Replacement
without r rs = filter (λ (x : Replacement). not (x.index == r.index)) rs

without_erased : (r : Replacement) (rs : List Replacement) (x : List Record)
    → put r (revised (without r rs) x) ≡ put r (revised rs x)
without_erased r [] x = refl
without_erased r (w ∷ rs) x = elim (cases_Bool (w.index == r.index))
    [ inl same ↦ here same (without_erased r rs x) | inr other ↦ there other (without_erased r rs (put w x)) ]
  where
    here : (w.index == r.index) ≡ true → put r (revised (without r rs) x) ≡ put r (revised rs x)
        → put r (revised (without r (w ∷ rs)) x) ≡ put r (revised (w ∷ rs) x)
    here same rest = rw same (rest ∙ sym (erased r w (eqb-true _ _ same) rs x))

    there : (w.index == r.index) ≡ false → put r (revised (without r rs) (put w x)) ≡ put r (revised rs (put w x))
        → put r (revised (without r (w ∷ rs)) x) ≡ put r (revised (w ∷ rs) x)
    there other rest = rw other rest

-- one may go before those of other records
put_first : (r : Replacement) (rs : List Replacement) (x : List Record)
    → revised (without r rs) (put r x) ≡ put r (revised (without r rs) x)
put_first r [] x = refl
put_first r (w ∷ rs) x = elim (cases_eq w.index r.index) [
  | inl same ↦ rw (eq-eqb w.index r.index same) (put_first r rs x)
  | inr other ↦ rw (ne_eqb w.index r.index other)
      (ap (λ (y : List Record). revised (without r rs) y) (commuting w r other x) ∙ put_first r rs (put w x))
]

revised_with : (r : Replacement) (rs : List Replacement) (x : List Record)
    → revised (with_replacement r rs) x ≡ put r (revised rs x)
revised_with r [] x = refl
revised_with r (w ∷ rs) x = elim (cases_eq w.index r.index) [
  | inl same ↦ rw (eq-eqb w.index r.index same) (put_first r rs x ∙ without_erased r rs x ∙ sym (erased r w same rs x))
  | inr other ↦ rw (ne_eqb w.index r.index other) (revised_with r rs (put w x))
]

put_past : (r : Replacement) (x : List Record) → length x ≤ r.index → put r x ≡ x
put_past r x past = set_past x r.index (record (get_or x r.index (empty_zero 0)) { key = r.key; body = r.body }) past

-- the replacements up to one
abbrev pub up_to : ℕ → List Replacement → List Replacement
up_to a rs = filter (λ (x : Replacement). nat_le x.index a) rs

-- those behind it are of no record of a short track
up_to_short : (a : ℕ) (rs : List Replacement) (x : List Record) → length x ≤ a + 1
    → revised (up_to a rs) x ≡ revised rs x
up_to_short a [] x short = refl
up_to_short a (w ∷ rs) x short =
    let longer : length (put w x) ≤ a + 1 = omega (
      arith,
      short,
      length-set x w.index
          (record (get_or x w.index (empty_zero 0)) { key = w.key; body = w.body }),
    ) in
    elim (cases_Bool (nat_le w.index a)) [
      | inl before ↦ here before (up_to_short a rs (put w x) longer)
      | inr behind ↦
          there behind (up_to_short a rs x short)
    ]
  where
    here : nat_le w.index a ≡ true → revised (up_to a rs) (put w x) ≡ revised rs (put w x)
        → revised (up_to a (w ∷ rs)) x ≡ revised (w ∷ rs) x
    here before rest = rw before rest

    there : nat_le w.index a ≡ false → revised (up_to a rs) x ≡ revised rs x
        → revised (up_to a (w ∷ rs)) x ≡ revised (w ∷ rs) x
    there behind rest =
        let past : length x ≤ w.index = omega (arith, short, leb-false w.index a behind) in
        rw behind (rest ∙ ap (revised rs) (sym (put_past w x past)))

-- what stays, cut again
cut_front : (a : ℕ) (rs : List Replacement) (x : List Record)
    → take (a + 1) (revised rs x) ≡ revised (up_to a rs) (take (a + 1) x)
cut_front a rs x =
    let short : length (take (a + 1) x) ≤ a + 1 = omega (arith, length-take (a + 1) x) in
    revised_take (a + 1) rs x ∙ sym (up_to_short a rs (take (a + 1) x) short)

-- ---- a change among the front records, or among those behind

put_left : (r : Replacement) (front behind : List Record) → r.index < length front
    → put r (front ++ behind) ≡ put r front ++ behind
put_left r front behind before =
    let same : get_or (front ++ behind) r.index (empty_zero 0) ≡ get_or front r.index (empty_zero 0) =
    get_or-append front behind (empty_zero 0) r.index before in
    set-append_left front behind r.index (record (get_or (front ++ behind) r.index (empty_zero 0))
    { key = r.key; body = r.body }) before
    ∙ ap (λ (x : Record). set front r.index (record x { key = r.key; body = r.body }) ++ behind) same

put_right : (i n : ℕ) (key body : List ℕ) (front behind : List Record) → length front ≡ n → n ≤ i
    → edited (Update i key body) (front ++ behind) ≡ front ++ edited (Update (i - n) key body) behind
put_right i n key body front behind long past =
    let place : length front + (i - n) ≡ i = omega arith in
    let same : get_or (front ++ behind) i (empty_zero 0) ≡ get_or behind (i - n) (empty_zero 0) =
    subst (λ (j : ℕ). get_or (front ++ behind) j (empty_zero 0) ≡ get_or behind (i - n) (empty_zero 0)) place
    (get_or-append-add front behind (i - n) (empty_zero 0)) in
    set-append_right front behind n i (record (get_or (front ++ behind) i (empty_zero 0)) { key = key; body = body })
    long past
    ∙ ap (λ (x : Record). front ++ set behind (i - n) (record x { key = key; body = body })) same

take_right : (a n : ℕ) (front behind : List Record) (new : Record) → length front ≡ n → n ≤ a
    → take (a + 1) (front ++ behind) ++ new ∷ [] ≡ front ++ (take ((a - n) + 1) behind ++ new ∷ [])
take_right a n front behind new long past =
    let place : length front + ((a - n) + 1) ≡ a + 1 = omega arith in
    let part : take (a + 1) (front ++ behind) ≡ front ++ take ((a - n) + 1) behind =
    subst (λ (k : ℕ). take k (front ++ behind) ≡ front ++ take ((a - n) + 1) behind) place
    (take-append-add front behind ((a - n) + 1)) in
    ap (λ (y : List Record). y ++ new ∷ []) part ∙ append_assoc front (take ((a - n) + 1) behind) (new ∷ [])

-- a cut behind the end of a short track leaves that track
short_cut : (a n : ℕ) (s : List Record) (new : Record) → n ≤ length s → n ≤ a + 1
    → take n (take (a + 1) s ++ new ∷ []) ≡ take n s
short_cut a n s new long past = take-append-le n (take (a + 1) s) (new ∷ []) (omega (arith, length-take (a + 1) s))
    ∙ take-take n (a + 1) s past

length_cut : (a n : ℕ) (s : List Record) (new : Record) → n ≤ length s → n ≤ a + 1
    → n ≤ length (take (a + 1) s ++ new ∷ [])
length_cut a n s new long past = omega (arith, length-append (take (a + 1) s) (new ∷ []), length-take (a + 1) s)

length_put : (r : Replacement) (s : List Record) → length (put r s) ≡ length s
length_put r s = length-set s r.index (record (get_or s r.index (empty_zero 0)) { key = r.key; body = r.body })

-- ---- the records after the edits, by the patch

-- what a patch makes of records, and where it reaches behind their end, as far as they go
abbrev pub FollowsBy : Kept → List Replacement → List Record → List Record → List Record → Type 0
FollowsBy Whole rs behind x s = s ≡ revised rs x ++ behind
FollowsBy Nothing rs behind x s = s ≡ behind
FollowsBy (UpTo last) rs behind x s =
    ((last < length x) × (s ≡ revised rs (take (last + 1) x) ++ behind)) ⊎
    ((length x ≤ last) × ((take (length x) s ≡ revised rs x) × (length x ≤ length s)))

abbrev pub Follows : PatchView → List Record → List Record → Type 0
Follows p x s = FollowsBy p.kept p.replaced p.behind x s

abbrev pub parts : List Replacement → Kept → List Record → PatchView
parts rs kept behind = record { replaced = rs; kept = kept; behind = behind }

no_cut : (rs : List Replacement) (behind x s : List Record) → true ≡ (length behind == 0) → s ≡ revised rs x ++ behind
    → s ≡ revised rs x
no_cut rs behind x s whole h = h ∙ ap (λ (y : List Record). revised rs x ++ y) (nothing_behind behind whole)
    ∙ append-nil (revised rs x)

update_kept : (r : Replacement) (last : ℕ) (rs : List Replacement) (behind x s : List Record) → r.index ≤ last
    → FollowsBy (UpTo last) rs behind x s → FollowsBy (UpTo last) (with_replacement r rs) behind x (put r s)
update_kept r last rs behind x s before (inl h) =
    let front = revised rs (take (last + 1) x) in
    let place : r.index < length front = omega (arith, length_front last rs x (lt-ltb _ _ h.0)) in
    inl (
      h.0,
      ap (put r) h.1 ∙ put_left r front behind place
          ∙ ap (λ (y : List Record). y ++ behind) (sym (revised_with r rs (take (last + 1) x))),
    )
update_kept r last rs behind x s before (inr h) =
    let long : length x ≤ length (put r s) = omega (arith, h.1.1, length_put r s) in
    inr (h.0, (update_take (length x) r.index r.key r.body s ∙ ap (put r) h.1.0 ∙ sym (revised_with r rs x), long))

update_behind : (r : Replacement) (last : ℕ) (rs : List Replacement) (behind x s : List Record) → last < r.index
    → FollowsBy (UpTo last) rs behind x s
    → FollowsBy (UpTo last) rs (edited (Update (r.index - (last + 1)) r.key r.body) behind) x (put r s)
update_behind r last rs behind x s past (inl h) =
    let front = revised rs (take (last + 1) x) in
    inl (
      h.0,
      ap (put r) h.1 ∙ put_right r.index (last + 1) r.key r.body front behind
          (length_front last rs x (lt-ltb _ _ h.0)) (omega arith),
    )
update_behind r last rs behind x s past (inr h) =
    let long : length x ≤ length (put r s) = omega (arith, h.1.1, length_put r s) in
    let short : length (revised rs x) ≤ r.index = omega (arith, h.0, length_revised rs x) in
    inr (
      h.0,
      (
        update_take (length x) r.index r.key r.body s ∙ ap (put r) h.1.0
            ∙ put_past r (revised rs x) short,
        long,
      ),
    )

-- a cut behind the end
ends_short : (a : ℕ) (new : Record) (rs : List Replacement) (behind x s : List Record) → length x ≤ a
    → take (length x) s ≡ revised rs x → length x ≤ length s
    → FollowsBy (UpTo a) (up_to a rs) behind x (take (a + 1) s ++ new ∷ [])
ends_short a new rs behind x s past front long =
    let fits : length x ≤ a + 1 = omega arith in
    inr (
      past,
      (
        short_cut a (length x) s new long fits ∙ front
            ∙ sym (up_to_short a rs x fits),
        length_cut a (length x) s new long fits,
      ),
    )

cut_there : (a : ℕ) (new : Record) (rs : List Replacement) (x s : List Record) → a < length x
    → take (a + 1) s ≡ take (a + 1) (revised rs x) → FollowsBy (UpTo a) (up_to a rs) (new ∷ []) x
    (take (a + 1) s ++ new ∷ [])
cut_there a new rs x s there front = inl (there, ap (λ (y : List Record). y ++ new ∷ []) (front ∙ cut_front a rs x))

cut_whole : (a : ℕ) (new : Record) (rs : List Replacement) (x s : List Record) → s ≡ revised rs x
    → FollowsBy (UpTo a) (up_to a rs) (new ∷ []) x (take (a + 1) s ++ new ∷ [])
cut_whole a new rs x s plain = elim (cases_lt a (length x))
    [ inl there ↦ cut_there a new rs x s there (ap (take (a + 1)) plain) | inr past ↦ outside past ]
  where
    outside : length x ≤ a → FollowsBy (UpTo a) (up_to a rs) (new ∷ []) x (take (a + 1) s ++ new ∷ [])
    outside past =
        let size : length s ≡ length x = ap length plain ∙ length_revised rs x in
        ends_short a new rs (new ∷ []) x s past (ap (take (length x)) plain
        ∙ take_all (length x) (revised rs x) (omega (arith, length_revised rs x))) (omega arith)

cut_kept : (a last : ℕ) (new : Record) (rs : List Replacement) (behind x s : List Record) → a ≤ last
    → FollowsBy (UpTo last) rs behind x s → FollowsBy (UpTo a) (up_to a rs) (new ∷ []) x (take (a + 1) s ++ new ∷ [])
cut_kept a last new rs behind x s before (inl h) =
    let front = revised rs (take (last + 1) x) in
    let long : a + 1 ≤ length front = omega (arith, before, length_front last rs x (lt-ltb _ _ h.0)) in
    let there : a < length x = omega (arith, before, h.0) in
    let same : take (a + 1) front ≡ take (a + 1) (revised rs x) =
    ap (take (a + 1)) (sym (revised_take (last + 1) rs x))
    ∙ take-take (a + 1) (last + 1) (revised rs x) (omega (arith, before)) in
    cut_there a new rs x s there (ap (take (a + 1)) h.1 ∙ take-append-le (a + 1) front behind long ∙ same)
cut_kept a last new rs behind x s before (inr h) = elim (cases_lt a (length x))
    [ inl there ↦ inside there | inr past ↦ ends_short a new rs (new ∷ []) x s past h.1.0 h.1.1 ]
  where
    inside : a < length x → FollowsBy (UpTo a) (up_to a rs) (new ∷ []) x (take (a + 1) s ++ new ∷ [])
    inside there = cut_there a new rs x s there (sym (take-take (a + 1) (length x) s (omega arith))
        ∙ ap (take (a + 1)) h.1.0)

cut_behind : (a last : ℕ) (new : Record) (rs : List Replacement) (behind x s : List Record) → last < a
    → FollowsBy (UpTo last) rs behind x s
    → FollowsBy (UpTo last) rs (edited (Format (a - (last + 1)) new) behind) x (take (a + 1) s ++ new ∷ [])
cut_behind a last new rs behind x s past (inl h) =
    let front = revised rs (take (last + 1) x) in
    inl (
      h.0,
      ap (λ (y : List Record). take (a + 1) y ++ new ∷ []) h.1
          ∙ take_right a (last + 1) front behind new (length_front last rs x (lt-ltb _ _ h.0)) (omega arith),
    )
cut_behind a last new rs behind x s past (inr h) =
    let fits : length x ≤ a + 1 = omega (arith, h.0) in
    inr (h.0, (short_cut a (length x) s new h.1.1 fits ∙ h.1.0, length_cut a (length x) s new h.1.1 fits))

pub follows_added : (e : Edit) (kept : Kept) (rs : List Replacement) (behind x s : List Record)
    → is_whole kept ≡ (length behind == 0) → FollowsBy kept rs behind x s
    → Follows (added (parts rs kept behind) e) x (edited e s)
follows_added (Update i key body) Whole rs behind x s is h =
    let r : Replacement = record { index = i; key = key; body = body } in
    ap (put r) (no_cut rs behind x s is h) ∙ sym (revised_with r rs x)
    ∙ sym (append-nil (revised (with_replacement r rs) x))
    ∙ ap (λ (y : List Record). revised (with_replacement r rs) x ++ y) (sym (nothing_behind behind is))
follows_added (Update i key body) Nothing rs behind x s is h = ap (edited (Update i key body)) h
follows_added (Update i key body) (UpTo last) rs behind x s is h =
    elim (cases_Bool (nat_le i last)) [ inl before' ↦ here before' | inr past' ↦ there past' ]
  where
    here : nat_le i last ≡ true → Follows (added (parts rs (UpTo last) behind) (Update i key body)) x
        (edited (Update i key body) s)
    here is_before = rw is_before (update_kept (record { index = i; key = key; body = body }) last rs behind x s
        (leb-true i last is_before) h)

    there : nat_le i last ≡ false → Follows (added (parts rs (UpTo last) behind) (Update i key body)) x
        (edited (Update i key body) s)
    there is_past = rw is_past (update_behind (record { index = i; key = key; body = body }) last rs behind x s
        (leb-false i last is_past) h)
follows_added (Format a new) Whole rs behind x s is h = cut_whole a new rs x s (no_cut rs behind x s is h)
follows_added (Format a new) Nothing rs behind x s is h = ap (edited (Format a new)) h
follows_added (Format a new) (UpTo last) rs behind x s is h =
    elim (cases_Bool (nat_le a last)) [ inl before' ↦ here before' | inr past' ↦ there past' ]
  where
    here : nat_le a last ≡ true → Follows (added (parts rs (UpTo last) behind) (Format a new)) x
        (edited (Format a new) s)
    here is_before = rw is_before (cut_kept a last new rs behind x s (leb-true a last is_before) h)

    there : nat_le a last ≡ false → Follows (added (parts rs (UpTo last) behind) (Format a new)) x
        (edited (Format a new) s)
    there is_past = rw is_past (cut_behind a last new rs behind x s (leb-false a last is_past) h)
follows_added (Zero new) kept rs behind x s is h = refl

some_record : (ys : List Record) (new : Record) → false ≡ (length (ys ++ new ∷ []) == 0)
some_record ys new = sym (ne_eqb (length (ys ++ new ∷ [])) 0 (λ e. omega (arith, length-append ys (new ∷ []))))

pub added_is_patch : (e : Edit) (kept : Kept) (rs : List Replacement) (behind : List Record)
    → is_whole kept ≡ (length behind == 0) → IsPatch (added (parts rs kept behind) e)
added_is_patch (Update i key body) Whole rs behind is = record { behind = is }
added_is_patch (Update i key body) Nothing rs behind is =
    record {
      behind = is ∙ ap (λ (n : ℕ). n == 0) (sym
          (length_put (record { index = i; key = key; body = body }) behind));
    }
added_is_patch (Update i key body) (UpTo last) rs behind is =
    elim (cases_Bool (nat_le i last)) [ inl before' ↦ here before' | inr past' ↦ there past' ]
  where
    here : nat_le i last ≡ true → IsPatch (added (parts rs (UpTo last) behind) (Update i key body))
    here is_before = record { behind = rw is_before is }

    there : nat_le i last ≡ false → IsPatch (added (parts rs (UpTo last) behind) (Update i key body))
    there is_past = record {
      behind = rw is_past (is ∙ ap (λ (n : ℕ). n == 0)
          (sym (length_put (record { index = i - (last + 1); key = key; body = body }) behind)));
    }
added_is_patch (Format a new) Whole rs behind is = record { behind = refl }
added_is_patch (Format a new) Nothing rs behind is = record { behind = some_record (take (a + 1) behind) new }
added_is_patch (Format a new) (UpTo last) rs behind is =
    elim (cases_Bool (nat_le a last)) [ inl before' ↦ here before' | inr past' ↦ there past' ]
  where
    here : nat_le a last ≡ true → IsPatch (added (parts rs (UpTo last) behind) (Format a new))
    here is_before = record { behind = rw is_before refl }

    there : nat_le a last ≡ false → IsPatch (added (parts rs (UpTo last) behind) (Format a new))
    there is_past = record { behind = rw is_past (some_record (take (a - (last + 1) + 1) behind) new) }
added_is_patch (Zero new) kept rs behind is = record { behind = refl }

follows_all : (es : List Edit) (p : PatchView) (x s : List Record) → IsPatch p → Follows p x s
    → Follows (all_added p es) x (all_edited es s)
follows_all [] p x s is h = h
follows_all (e ∷ es) p x s is h = follows_all es (added p e) x (edited e s)
    (added_is_patch e p.kept p.replaced p.behind is.behind) (follows_added e p.kept p.replaced p.behind x s is.behind h)

pub follows_reached : (kept : Kept) (rs : List Replacement) (behind x s : List Record) → reaches kept x ≡ true
    → FollowsBy kept rs behind x s → s ≡ revised rs (stay kept x) ++ behind
follows_reached Whole rs behind x s reached h = h
follows_reached Nothing rs behind x s reached h = rw (revised_nothing rs) h
follows_reached (UpTo last) rs behind x s reached (inl h) = h.1
follows_reached (UpTo last) rs behind x s reached (inr h) = absurd (omega (arith, h.0, ltb-true _ _ reached))

pub in_order : (es : List Edit) (i out : Image) → applied (all_added no_edits es) i ≡ Some out
    → out ≡ record i { track = record i.track { records = all_edited es i.track.records } }
in_order es i out e =
    let p = all_added no_edits es in
    let x = i.track.records in
    let was = applied_is p i out e in
    let reached = and_parts (reaches p.kept x) _ was.0 in
    let start : Follows no_edits x x = sym (append-nil x) in
    let end = follows_all es no_edits x x (record { behind = refl }) start in
    sym was.1 ∙ ap (λ (y : List Record). record i { track = record i.track { records = y } })
    (sym (follows_reached p.kept p.replaced p.behind x (all_edited es x) reached.0 end))
