-- What is kept of a device's past, behind each event of it.
use Rattle.std.proofs.Common.{◌≡◌, ◌∙◌, ◌+◌, ◌-◌, ◌<◌, ◌≤◌, ◌≢◌, ◌==◌, ◌⊎◌, inl, inr, ℕ, Bool, true, false, not, ◌&&◌, ◌||◌, List, [], ◌∷◌, ◌++◌, length, map}
use Rattle.std.proofs.Common.{Option, Some, None, refl, sym, ap, subst, arith, length-append, length-set, lit≤}
use Rattle.std.specs.Prelude.{IfSome, count_by, is_some, slice_set, if◌then◌else◌}
use Rattle.std.specs.List.{fold}
use Rattle.std.proofs.lemmas.Bool.{eq-eqb, ne_eqb, eqb-true, eqb-false}
use Rattle.std.proofs.lemmas.List.{get_or-set_same, get_or-set_other, get_or-map, length-map}
use Rattle.ckd_types.specs.declared.channel.CommandEnd.{CommandEnd}
use Rattle.plain_defs.specs.declared.journal.Act.{Act}
use Rattle.plain_defs.specs.declared.journal.Acted.{Acted}
use Rattle.plain_defs.specs.declared.journal.How.{How}
use Rattle.plain_defs.specs.declared.journal.How.TheVariants.{Cut}
use Rattle.plain_defs.specs.declared.journal.Item.{Item}
use Rattle.plain_defs.specs.declared.journal.Item.TheVariants as items
use Rattle.plain_defs.specs.History.{History, OpenEntry, closed, cut_by, entry_of, has_used, is_path_of, put, resets_of, started, with_end}
use Rattle.plain_defs.specs.Legal.{is_of_path, is_started, is_used, started_by, used_by}
use Rattle.device_defs.specs.Start.{started_count}
use Rattle.device_core.specs.declared.history.KeptPath.{KeptPath}
use Rattle.device_core.specs.Kept.{fresh_path, needed, of_path, one_more, over_path, unused, used_count, waiting, waiting_in, with_one_more, with_unused}
use Rattle.device_core.specs.Kept.{with_waiting, KeepsPath, KeepsAll}
use Rattle.device_core.proofs.Waiting.{used_append, used_at, used_fewer, used_over, waiting_kept}

-- Journals that end with other items

abbrev pub count_from : (Item → Bool) → ℕ → List Item → ℕ
count_from p n xs = fold (λ (m : ℕ) (x : Item). m + (if p x then 1 else 0)) n xs

pub count_append : (p : Item → Bool) (n : ℕ) (xs ys : List Item) → count_from p n (xs ++ ys) ≡ count_from p (count_from p n xs) ys
count_append p n [] ys = refl
count_append p n (x ∷ xs) ys = count_append p (n + (if p x then 1 else 0)) xs ys

count_resets : (i n : ℕ) (paths : List ℕ) → count_from (is_of_path i) n (resets_of paths) ≡ n
count_resets i n [] = refl
count_resets i n (path ∷ paths) = let same : n + 0 ≡ n = omega arith in count_resets i (n + 0) paths ∙ same

pub started_append : (s : Bool) (xs ys : List Item) → is_started s (xs ++ ys) ≡ is_started (is_started s xs) ys
started_append s [] ys = refl
started_append s (x ∷ xs) ys = started_append (started_by s x) xs ys

started_resets : (s : Bool) (paths : List ℕ) → is_started s (resets_of paths) ≡ s
started_resets s [] = refl
started_resets s (path ∷ paths) = started_resets s paths

-- What is kept of one path among all

pub of_set : (kept : List KeptPath) (p : ℕ) (k : KeptPath) → length kept ≡ 4 → 1 ≤ p → p ≤ 4 → of_path (slice_set kept (p - 1) k) p ≡ k
of_set kept p k four least most = get_or-set_same kept (p - 1) k fresh_path (omega (arith, four, least, most))

pub of_other : (kept : List KeptPath) (p i : ℕ) (k : KeptPath) → 1 ≤ p → 1 ≤ i → p ≢ i → of_path (slice_set kept (p - 1) k) i ≡ of_path kept i
of_other kept p i k least some differ = get_or-set_other kept (p - 1) (i - 1) k fresh_path (λ e. differ (omega (arith, e, least, some)))

of_over : (kept : List KeptPath) (i : ℕ) → length kept ≡ 4 → 1 ≤ i → i ≤ 4 → of_path (map over_path kept) i ≡ over_path (of_path kept i)
of_over kept i four least most = get_or-map over_path kept (i - 1) fresh_path fresh_path (omega (arith, four, least, most))

same_or_not : (p i : ℕ) → (p ≡ i) ⊎ (p ≢ i)
same_or_not p i = by_test (p == i) refl where
  by_test : (b : Bool) → (p == i) ≡ b → (p ≡ i) ⊎ (p ≢ i)
  by_test true is = inl (eqb-true p i is)
  by_test false is = inr (eqb-false p i is)

-- The program that runs

module _ (h : History) (kept : List KeptPath) (powered : Bool) (spare : ℕ) (k : KeepsAll h kept powered spare) (o : OpenEntry) (is : h.running ≡ Some o) where
  pub running_path : (i : ℕ) (x : KeptPath) → KeepsPath h i x → x.started ≡ count_by (is_of_path i) h.items + (if o.path == i then 1 else 0)
  running_path i x kp = kp.started_is ∙ ap (λ (r : Option OpenEntry). count_by (is_of_path i) h.items + (if is_path_of r i then 1 else 0)) is

  running_used : (i : ℕ) (x : KeptPath) → KeepsPath h i x → x.used ≡ ((o.path == i) || is_used i false h.items)
  running_used i x kp = kp.used_is ∙ ap (λ (r : Option OpenEntry). is_path_of r i || is_used i false h.items) is

  running_powered : powered ≡ true
  running_powered = k.powered_is ∙ ap (λ (r : Option OpenEntry). is_some r || is_started false h.items) is

  running_room : 7 ≤ spare
  running_room = subst (λ (r : Option OpenEntry). needed r kept powered ≤ spare) is k.room

  pub room_of_running : 7 ≤ spare
  room_of_running = running_room

  pub ends_of_running : length o.ends ≤ 65534
  ends_of_running = subst (λ (r : Option OpenEntry). IfSome r (λ (x : OpenEntry). length x.ends ≤ 65534)) is k.ends

  -- a command of it ended
  pub end_keeps : (e : CommandEnd) → length o.ends < 65534 → KeepsAll (record h { running = Some (with_end o e) }) kept powered spare
  end_keeps e lt = record {
    four = k.four;
    paths = λ i least most. let kp = k.paths i least most in
        record { started_is = running_path i (of_path kept i) kp; used_is = running_used i (of_path kept i) kp };
    powered_is = running_powered;
    ends = let more = length-append o.ends (e ∷ []) in omega (arith, more, lt);
    room = running_room;
  }

  -- an act came to it
  pub act_keeps : (acts : List Acted) → KeepsAll (record h { running = Some (record o { acts = acts }) }) kept powered spare
  act_keeps acts = record {
    four = k.four;
    paths = λ i least most. let kp = k.paths i least most in
        record { started_is = running_path i (of_path kept i) kp; used_is = running_used i (of_path kept i) kp };
    powered_is = running_powered;
    ends = ends_of_running;
    room = running_room;
  }

  -- it is over, and the resets that waited followed
  pub closed_keeps : (how : How) (left : ℕ) → h.waiting ≡ waiting_in kept → left + length (waiting_in kept) + 1 ≡ spare →
      KeepsAll (closed h o how) (map over_path kept) powered left
  closed_keeps how left waits room = record {
    four = length-map kept over_path ∙ k.four;
    paths = λ i least most. let kp = k.paths i least most in record {
      started_is = ap (λ (x : KeptPath). x.started) (of_over kept i k.four least most) ∙ running_path i (of_path kept i) kp ∙ sym (counted i);
      used_is = ap (λ (x : KeptPath). x.used) (of_over kept i k.four least most)
          ∙ ap (λ (b : Bool). b && not (of_path kept i).waits) (running_used i (of_path kept i) kp)
          ∙ sym (uses i least most);
    };
    powered_is = running_powered ∙ sym (power);
    ends = tt;
    room = let over = used_over kept 1 in
        subst (λ (b : Bool). used_count (map over_path kept) + (if b then 1 else 0) ≤ left) (sym running_powered)
        (omega (arith, over, k.four, room, running_room));
  } where
    counted : (i : ℕ) → started_count (closed h o how) i ≡ count_by (is_of_path i) h.items + (if o.path == i then 1 else 0)
    counted i =
        let none : (n : ℕ) → n + 0 ≡ n = λ n. omega arith in
        none (count_by (is_of_path i) (closed h o how).items)
        ∙ count_append (is_of_path i) 0 h.items (entry_of o how ∷ resets_of h.waiting)
        ∙ count_resets i (count_by (is_of_path i) h.items + (if o.path == i then 1 else 0)) h.waiting

    uses : (i : ℕ) → 1 ≤ i → i ≤ 4 → has_used (closed h o how) i ≡ (((o.path == i) || is_used i false h.items) && not (of_path kept i).waits)
    uses i least most =
        used_append i false h.items (entry_of o how ∷ resets_of h.waiting)
        ∙ ap (λ (l : List ℕ). is_used i ((o.path == i) || is_used i false h.items) (resets_of l)) waits
        ∙ used_at kept 1 (i - 1) i ((o.path == i) || is_used i false h.items) (omega (arith, least)) (omega (arith, k.four, least, most))

    power : (is_some (closed h o how).running || is_started false (closed h o how).items) ≡ true
    power = started_append false h.items (entry_of o how ∷ resets_of h.waiting) ∙ started_resets true h.waiting

  -- the reset of its path cut it
  pub cut_keeps : (more left : ℕ) → 1 ≤ o.path → o.path ≤ 4 → h.waiting ≡ waiting_in kept → left + length (waiting_in kept) + 2 ≡ spare →
      KeepsAll (cut_by h o more) (map over_path (with_unused kept o.path)) powered left
  cut_keeps more left some all waits room = record {
    four = length-map (with_unused kept o.path) over_path ∙ four_own;
    paths = λ i least most. path_at i least most (same_or_not o.path i);
    powered_is = running_powered ∙ sym power;
    ends = tt;
    room = let over = used_over (with_unused kept o.path) 1 in
        let same : length (waiting_in (with_unused kept o.path)) ≡ length (waiting_in kept) =
        ap length (waiting_kept kept 1 (o.path - 1) (unused kept o.path) (omega (arith, k.four, some, all)) refl) in
        subst (λ (b : Bool). used_count (map over_path (with_unused kept o.path)) + (if b then 1 else 0) ≤ left) (sym running_powered)
        (omega (arith, over, four_own, same, room, running_room));
  } where
    four_own : length (with_unused kept o.path) ≡ 4
    four_own = length-set kept (o.path - 1) (unused kept o.path) ∙ k.four

    counted : (i : ℕ) → started_count (cut_by h o more) i ≡ count_by (is_of_path i) h.items + (if o.path == i then 1 else 0)
    counted i =
        let none : (n : ℕ) → n + 0 ≡ n = λ n. omega arith in
        none (count_by (is_of_path i) (cut_by h o more).items)
        ∙ count_append (is_of_path i) 0 h.items (entry_of o (Cut (length o.ends + more)) ∷ items.Reset o.path ∷ resets_of h.waiting)
        ∙ count_resets i (count_by (is_of_path i) h.items + (if o.path == i then 1 else 0) + 0) h.waiting
        ∙ none (count_by (is_of_path i) h.items + (if o.path == i then 1 else 0))

    uses : (i : ℕ) → 1 ≤ i → i ≤ 4 →
        has_used (cut_by h o more) i ≡ ((not (o.path == i) && ((o.path == i) || is_used i false h.items)) && not (of_path kept i).waits)
    uses i least most =
        used_append i false h.items (entry_of o (Cut (length o.ends + more)) ∷ items.Reset o.path ∷ resets_of h.waiting)
        ∙ ap (λ (l : List ℕ). is_used i (not (o.path == i) && ((o.path == i) || is_used i false h.items)) (resets_of l)) waits
        ∙ used_at kept 1 (i - 1) i (not (o.path == i) && ((o.path == i) || is_used i false h.items)) (omega (arith, least)) (omega (arith, k.four, least, most))

    power : (is_some (cut_by h o more).running || is_started false (cut_by h o more).items) ≡ true
    power = started_append false h.items (entry_of o (Cut (length o.ends + more)) ∷ items.Reset o.path ∷ resets_of h.waiting) ∙ started_resets true h.waiting

    of_own : of_path (map over_path (with_unused kept o.path)) o.path ≡ over_path (unused kept o.path)
    of_own = of_over (with_unused kept o.path) o.path four_own some all ∙ ap over_path (of_set kept o.path (unused kept o.path) k.four some all)

    of_another : (i : ℕ) → 1 ≤ i → i ≤ 4 → o.path ≢ i → of_path (map over_path (with_unused kept o.path)) i ≡ over_path (of_path kept i)
    of_another i least most differ =
        of_over (with_unused kept o.path) i four_own least most ∙ ap over_path (of_other kept o.path i (unused kept o.path) some least differ)

    path_at : (i : ℕ) → 1 ≤ i → i ≤ 4 → (o.path ≡ i) ⊎ (o.path ≢ i) → KeepsPath (cut_by h o more) i (of_path (map over_path (with_unused kept o.path)) i)
    path_at i least most (inl same) =
        subst (λ (j : ℕ). KeepsPath (cut_by h o more) j (of_path (map over_path (with_unused kept o.path)) j)) same (record {
          started_is = ap (λ (x : KeptPath). x.started) of_own ∙ running_path o.path (of_path kept o.path) (k.paths o.path some all) ∙ sym (counted o.path);
          used_is = ap (λ (x : KeptPath). x.used) of_own
              ∙ sym (uses o.path some all ∙ ap (λ (b : Bool). (not b && (b || is_used o.path false h.items)) && not (of_path kept o.path).waits)
              (eq-eqb o.path o.path refl));
        })
    path_at i least most (inr differ) = record {
      started_is = ap (λ (x : KeptPath). x.started) (of_another i least most differ) ∙ running_path i (of_path kept i) (k.paths i least most)
          ∙ sym (counted i);
      used_is = ap (λ (x : KeptPath). x.used) (of_another i least most differ)
          ∙ ap (λ (b : Bool). b && not (of_path kept i).waits) (running_used i (of_path kept i) (k.paths i least most)
          ∙ ap (λ (b : Bool). b || is_used i false h.items) (ne_eqb o.path i differ))
          ∙ sym (uses i least most ∙ ap (λ (b : Bool). (not b && (b || is_used i false h.items)) && not (of_path kept i).waits)
          (ne_eqb o.path i differ));
    }

  -- the reset of another path waits for its end
  pub wait_keeps : (p : ℕ) → 1 ≤ p → p ≤ 4 →
      KeepsAll (record h { waiting = put p h.waiting }) (with_waiting kept p) powered spare
  wait_keeps p some all = record {
    four = length-set kept (p - 1) (waiting kept p) ∙ k.four;
    paths = λ i least most. path_at i least most (same_or_not p i);
    powered_is = k.powered_is;
    ends = k.ends;
    room = subst (λ (r : Option OpenEntry). needed r (with_waiting kept p) powered ≤ spare) (sym is) running_room;
  } where
    path_at : (i : ℕ) → 1 ≤ i → i ≤ 4 → (p ≡ i) ⊎ (p ≢ i) → KeepsPath (record h { waiting = put p h.waiting }) i (of_path (with_waiting kept p) i)
    path_at i least most (inl same) =
        subst (λ (j : ℕ). KeepsPath (record h { waiting = put p h.waiting }) j (of_path (with_waiting kept p) j)) same (record {
          started_is = ap (λ (x : KeptPath). x.started) (of_set kept p (waiting kept p) k.four some all) ∙ (k.paths p some all).started_is;
          used_is = ap (λ (x : KeptPath). x.used) (of_set kept p (waiting kept p) k.four some all) ∙ (k.paths p some all).used_is;
        })
    path_at i least most (inr differ) = record {
      started_is = ap (λ (x : KeptPath). x.started) (of_other kept p i (waiting kept p) some least differ) ∙ (k.paths i least most).started_is;
      used_is = ap (λ (x : KeptPath). x.used) (of_other kept p i (waiting kept p) some least differ) ∙ (k.paths i least most).used_is;
    }

-- No program runs

module _ (h : History) (kept : List KeptPath) (powered : Bool) (spare : ℕ) (k : KeepsAll h kept powered spare) (idle : h.running ≡ None) where
  pub idle_path : (i : ℕ) (x : KeptPath) → KeepsPath h i x → x.started ≡ count_by (is_of_path i) h.items + 0
  idle_path i x kp = kp.started_is ∙ ap (λ (r : Option OpenEntry). count_by (is_of_path i) h.items + (if is_path_of r i then 1 else 0)) idle

  idle_used : (i : ℕ) (x : KeptPath) → KeepsPath h i x → x.used ≡ is_used i false h.items
  idle_used i x kp = kp.used_is ∙ ap (λ (r : Option OpenEntry). is_path_of r i || is_used i false h.items) idle

  pub idle_room : used_count kept + (if powered then 1 else 0) ≤ spare
  idle_room = subst (λ (r : Option OpenEntry). needed r kept powered ≤ spare) idle k.room

  -- a path that used something is reset
  pub reset_keeps : (p left : ℕ) → 1 ≤ p → p ≤ 4 → (of_path kept p).used ≡ true → left + 1 ≡ spare →
      KeepsAll (record h { items = h.items ++ items.Reset p ∷ [] }) (with_unused kept p) powered left
  reset_keeps p left some all used room = record {
    four = length-set kept (p - 1) (unused kept p) ∙ k.four;
    paths = λ i least most. path_at i least most (same_or_not p i);
    powered_is = k.powered_is ∙ ap (λ (b : Bool). is_some h.running || b) (sym (started_append false h.items (items.Reset p ∷ [])));
    ends = k.ends;
    room = subst (λ (r : Option OpenEntry). needed r (with_unused kept p) powered ≤ left) (sym idle)
        (let fewer = used_fewer kept (p - 1) (unused kept p) (omega (arith, k.four, some, all)) used refl in omega (arith, fewer, idle_room, room));
  } where
    counted : (i : ℕ) → started_count (record h { items = h.items ++ items.Reset p ∷ [] }) i ≡ count_by (is_of_path i) h.items + 0
    counted i =
        let none : (n : ℕ) → n + 0 ≡ n = λ n. omega arith in
        ap (λ (r : Option OpenEntry). count_by (is_of_path i) (h.items ++ items.Reset p ∷ []) + (if is_path_of r i then 1 else 0)) idle
        ∙ none (count_by (is_of_path i) (h.items ++ items.Reset p ∷ []))
        ∙ count_append (is_of_path i) 0 h.items (items.Reset p ∷ [])

    uses : (i : ℕ) → has_used (record h { items = h.items ++ items.Reset p ∷ [] }) i ≡ (not (p == i) && is_used i false h.items)
    uses i =
        ap (λ (r : Option OpenEntry). is_path_of r i || is_used i false (h.items ++ items.Reset p ∷ [])) idle
        ∙ used_append i false h.items (items.Reset p ∷ [])

    path_at : (i : ℕ) → 1 ≤ i → i ≤ 4 → (p ≡ i) ⊎ (p ≢ i) → KeepsPath (record h { items = h.items ++ items.Reset p ∷ [] }) i (of_path (with_unused kept p) i)
    path_at i least most (inl same) =
        subst (λ (j : ℕ). KeepsPath (record h { items = h.items ++ items.Reset p ∷ [] }) j (of_path (with_unused kept p) j)) same (record {
          started_is = ap (λ (x : KeptPath). x.started) (of_set kept p (unused kept p) k.four some all) ∙ idle_path p (of_path kept p) (k.paths p some all)
              ∙ sym (counted p);
          used_is = ap (λ (x : KeptPath). x.used) (of_set kept p (unused kept p) k.four some all)
              ∙ sym (uses p ∙ ap (λ (b : Bool). not b && is_used p false h.items) (eq-eqb p p refl));
        })
    path_at i least most (inr differ) = record {
      started_is = ap (λ (x : KeptPath). x.started) (of_other kept p i (unused kept p) some least differ) ∙ idle_path i (of_path kept i) (k.paths i least most)
          ∙ sym (counted i);
      used_is = ap (λ (x : KeptPath). x.used) (of_other kept p i (unused kept p) some least differ) ∙ idle_used i (of_path kept i) (k.paths i least most)
          ∙ sym (uses i ∙ ap (λ (b : Bool). not b && is_used i false h.items) (ne_eqb p i differ));
    }

  -- a program of a path starts
  pub start_keeps : (p n left : ℕ) → 1 ≤ p → p ≤ 4 → 7 ≤ left →
      KeepsAll (started h p n) (with_one_more kept p) true left
  start_keeps p n left some all room = record {
    four = length-set kept (p - 1) (one_more kept p) ∙ k.four;
    paths = λ i least most. path_at i least most (same_or_not p i);
    powered_is = refl;
    ends = lit≤ tt;
    room = room;
  } where
    path_at : (i : ℕ) → 1 ≤ i → i ≤ 4 → (p ≡ i) ⊎ (p ≢ i) → KeepsPath (started h p n) i (of_path (with_one_more kept p) i)
    path_at i least most (inl same) =
        let was = idle_path p (of_path kept p) (k.paths p some all) in
        let one : (of_path kept p).started + 1 ≡ count_by (is_of_path p) h.items + 1 = omega (arith, was) in
        subst (λ (j : ℕ). KeepsPath (started h p n) j (of_path (with_one_more kept p) j)) same (record {
          started_is = ap (λ (x : KeptPath). x.started) (of_set kept p (one_more kept p) k.four some all) ∙ one
              ∙ ap (λ (b : Bool). count_by (is_of_path p) h.items + (if b then 1 else 0)) (sym (eq-eqb p p refl));
          used_is = ap (λ (x : KeptPath). x.used) (of_set kept p (one_more kept p) k.four some all)
              ∙ ap (λ (b : Bool). b || is_used p false h.items) (sym (eq-eqb p p refl));
        })
    path_at i least most (inr differ) = record {
      started_is = ap (λ (x : KeptPath). x.started) (of_other kept p i (one_more kept p) some least differ)
          ∙ idle_path i (of_path kept i) (k.paths i least most)
          ∙ ap (λ (b : Bool). count_by (is_of_path i) h.items + (if b then 1 else 0)) (sym (ne_eqb p i differ));
      used_is = ap (λ (x : KeptPath). x.used) (of_other kept p i (one_more kept p) some least differ) ∙ idle_used i (of_path kept i) (k.paths i least most)
          ∙ ap (λ (b : Bool). b || is_used i false h.items) (sym (ne_eqb p i differ));
    }

-- an item that is no program, no reset and no loss of power
pub other_keeps : (h : History) (kept : List KeptPath) (powered : Bool) (spare : ℕ) → KeepsAll h kept powered spare → (x : Item) →
    ((i : ℕ) → is_of_path i x ≡ false) → ((i : ℕ) (u : Bool) → used_by i u x ≡ u) → ((s : Bool) → started_by s x ≡ s) →
    KeepsAll (record h { items = h.items ++ x ∷ [] }) kept powered spare
other_keeps h kept powered spare k x none used starts = record {
  four = k.four;
  paths = λ i least most. let kp = k.paths i least most in record {
    started_is = kp.started_is ∙ ap (λ (n : ℕ). n + (if is_path_of h.running i then 1 else 0)) (sym (counted i));
    used_is = kp.used_is ∙ ap (λ (b : Bool). is_path_of h.running i || b) (sym (used_append i false h.items (x ∷ []) ∙ used i (is_used i false h.items)));
  };
  powered_is = k.powered_is ∙ ap (λ (b : Bool). is_some h.running || b) (sym (started_append false h.items (x ∷ []) ∙ starts (is_started false h.items)));
  ends = k.ends;
  room = k.room;
} where
  counted : (i : ℕ) → count_by (is_of_path i) (h.items ++ x ∷ []) ≡ count_by (is_of_path i) h.items
  counted i =
      let same : (n : ℕ) → n + 0 ≡ n = λ n. omega arith in
      count_append (is_of_path i) 0 h.items (x ∷ [])
      ∙ ap (λ (b : Bool). count_by (is_of_path i) h.items + (if b then 1 else 0)) (none i) ∙ same (count_by (is_of_path i) h.items)

-- an act, while no program runs
pub idle_act_keeps : (h : History) (kept : List KeptPath) (powered : Bool) (spare : ℕ) → KeepsAll h kept powered spare → h.running ≡ None → (act : Act) →
    KeepsAll (record h { items = h.items ++ items.Act act ∷ [] }) kept powered spare
idle_act_keeps h kept powered spare k idle act = other_keeps h kept powered spare k (items.Act act) (λ i. refl) (λ i u. refl) (λ s. refl)
