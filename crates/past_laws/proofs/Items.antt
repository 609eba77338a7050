-- What is kept in the place of items that were put away tells of each path what the whole journal tells.
use Rattle.std.proofs.Common.{◌≡◌, ℕ, ◌+◌, ◌≤◌, Bool, false, cond, List, [], ◌∷◌, ◌++◌, length, map, drop, refl, sym, ap, ◌∙◌}
use Rattle.std.specs.Prelude.{count_by}
use Rattle.std.proofs.Math.Seq.{drop-append_seam}
use Rattle.std.proofs.lemmas.List.{append_assoc, map-append}
use Rattle.std.proofs.lemmas.List.Sums.{sum_by-append, sum_by-cons}
use Rattle.plain_defs.specs.declared.journal.Item.{Item}
use Rattle.plain_defs.specs.declared.journal.Item.TheVariants.{Program, Reset, Fresh, Act, Power}
use Rattle.plain_defs.specs.History.{History, resets_of}
use Rattle.plain_defs.specs.Journal.{Plans}
use Rattle.plain_defs.specs.Legal.{is_of_path, is_started, is_used, started_by, used_by}
use Rattle.past_laws.specs.PutAway.{IsPutAway, PutAway, whole_item, whole_items}

-- ---- items whose programs have other places

used_same : (w : PutAway) (path : ℕ) (b : Bool) (x : Item) → used_by path b (whole_item w x) ≡ used_by path b x
used_same w path b (Program e) = refl
used_same w path b (Reset p) = refl
used_same w path b Fresh = refl
used_same w path b (Act act) = refl
used_same w path b Power = refl

all_used_same : (w : PutAway) (path : ℕ) (b : Bool) (xs : List Item) → is_used path b (map (whole_item w) xs) ≡ is_used path b xs
all_used_same w path b [] = refl
all_used_same w path b (x ∷ xs) = ap (λ (u : Bool). is_used path u (map (whole_item w) xs)) (used_same w path b x) ∙ all_used_same w path (used_by path b x) xs

started_same : (w : PutAway) (b : Bool) (x : Item) → started_by b (whole_item w x) ≡ started_by b x
started_same w b (Program e) = refl
started_same w b (Reset p) = refl
started_same w b Fresh = refl
started_same w b (Act act) = refl
started_same w b Power = refl

all_started_same : (w : PutAway) (b : Bool) (xs : List Item) → is_started b (map (whole_item w) xs) ≡ is_started b xs
all_started_same w b [] = refl
all_started_same w b (x ∷ xs) = ap (λ (u : Bool). is_started u (map (whole_item w) xs)) (started_same w b x) ∙ all_started_same w (started_by b x) xs

of_path_same : (w : PutAway) (path : ℕ) (x : Item) → is_of_path path (whole_item w x) ≡ is_of_path path x
of_path_same w path (Program e) = refl
of_path_same w path (Reset p) = refl
of_path_same w path Fresh = refl
of_path_same w path (Act act) = refl
of_path_same w path Power = refl

abbrev one : (Item → Bool) → Item → ℕ
one f x = cond (f x) 1 0

count_same : (w : PutAway) (path : ℕ) (xs : List Item) → count_by (is_of_path path) (map (whole_item w) xs) ≡ count_by (is_of_path path) xs
count_same w path [] = refl
count_same w path (x ∷ xs) =
    sum_by-cons (one (is_of_path path)) (whole_item w x) (map (whole_item w) xs)
    ∙ rw (of_path_same w path x, count_same w path xs) refl ∙ sym (sum_by-cons (one (is_of_path path)) x xs)

pub resets_same : (w : PutAway) (paths : List ℕ) → map (whole_item w) (resets_of paths) ≡ resets_of paths
resets_same w [] = refl
resets_same w (path ∷ paths) = ap (λ (xs : List Item). Reset path ∷ xs) (resets_same w paths)

-- ---- one list behind another

pub used_behind : (path : ℕ) (b : Bool) (xs ys : List Item) → is_used path b (xs ++ ys) ≡ is_used path (is_used path b xs) ys
used_behind path b [] ys = refl
used_behind path b (x ∷ xs) ys = used_behind path (used_by path b x) xs ys

pub started_behind : (b : Bool) (xs ys : List Item) → is_started b (xs ++ ys) ≡ is_started (is_started b xs) ys
started_behind b [] ys = refl
started_behind b (x ∷ xs) ys = started_behind (started_by b x) xs ys

pub count_behind : (f : Item → Bool) (xs ys : List Item) → count_by f (xs ++ ys) ≡ count_by f xs + count_by f ys
count_behind f xs ys = sum_by-append (one f) xs ys

-- ---- the whole journal

module _ (w : PutAway) (plans : Plans) (h : History) (away : IsPutAway w plans h) where
  pub items_are : whole_items w h.items ≡ w.items ++ map (whole_item w) away.later
  items_are = ap (λ (xs : List Item). w.items ++ map (whole_item w) (drop (length w.stubs) xs)) away.items
      ∙ ap (λ (xs : List Item). w.items ++ map (whole_item w) xs) (drop-append_seam w.stubs away.later)

  pub used_whole : (path : ℕ) → 1 ≤ path → path ≤ 4 → is_used path false (whole_items w h.items) ≡ is_used path false h.items
  used_whole path least most =
      ap (is_used path false) items_are ∙ used_behind path false w.items (map (whole_item w) away.later)
      ∙ all_used_same w path (is_used path false w.items) away.later
      ∙ ap (λ (b : Bool). is_used path b away.later) (sym (away.paths path least most).used)
      ∙ sym (ap (is_used path false) away.items ∙ used_behind path false w.stubs away.later)

  pub started_whole : is_started false (whole_items w h.items) ≡ is_started false h.items
  started_whole =
      ap (is_started false) items_are ∙ started_behind false w.items (map (whole_item w) away.later)
      ∙ all_started_same w (is_started false w.items) away.later
      ∙ ap (λ (b : Bool). is_started b away.later) (sym away.started)
      ∙ sym (ap (is_started false) away.items ∙ started_behind false w.stubs away.later)

  -- how many programs of a path are items, of those behind what is kept
  pub count_whole : (path : ℕ) → count_by (is_of_path path) (whole_items w h.items) ≡ count_by (is_of_path path) w.items + count_by (is_of_path path) away.later
  count_whole path =
      ap (count_by (is_of_path path)) items_are ∙ count_behind (is_of_path path) w.items (map (whole_item w) away.later)
      ∙ ap (λ (n : ℕ). count_by (is_of_path path) w.items + n) (count_same w path away.later)

  pub count_kept : (path : ℕ) → count_by (is_of_path path) h.items ≡ count_by (is_of_path path) w.stubs + count_by (is_of_path path) away.later
  count_kept path = ap (count_by (is_of_path path)) away.items ∙ count_behind (is_of_path path) w.stubs away.later

  -- with more items behind
  pub items_more : (xs : List Item) → whole_items w (h.items ++ xs) ≡ whole_items w h.items ++ map (whole_item w) xs
  items_more xs =
      let later = away.later in
      ap (λ (ys : List Item). w.items ++ map (whole_item w) (drop (length w.stubs) (ys ++ xs))) away.items
      ∙ ap (λ (ys : List Item). w.items ++ map (whole_item w) (drop (length w.stubs) ys)) (append_assoc w.stubs later xs)
      ∙ ap (λ (ys : List Item). w.items ++ map (whole_item w) ys) (drop-append_seam w.stubs (later ++ xs))
      ∙ ap (λ (ys : List Item). w.items ++ ys) (map-append (whole_item w) later xs)
      ∙ sym (append_assoc w.items (map (whole_item w) later) (map (whole_item w) xs))
      ∙ ap (λ (ys : List Item). ys ++ map (whole_item w) xs) (sym items_are)

  -- the same was put away of a history with more items
  pub away_more : (k : History) (xs : List Item) → k.items ≡ h.items ++ xs → IsPutAway w plans k
  away_more k xs is = record {
    later = away.later ++ xs;
    items = is ∙ ap (λ (ys : List Item). ys ++ xs) away.items ∙ append_assoc w.stubs away.later xs;
    paths = away.paths;
    started = away.started;
    few = away.few;
  }

  pub away_same : (k : History) → k.items ≡ h.items → IsPutAway w plans k
  away_same k is = record { later = away.later; items = is ∙ away.items; paths = away.paths; started = away.started; few = away.few }
