-- A device's past, and what is kept of it, behind what happens to it.
use Rattle.std.proofs.Common.{◌≡◌, ◌∙◌, ◌+◌, ◌-◌, ◌<◌, ◌≤◌, ℕ, List, [], ◌∷◌, ◌++◌, length, map, Bool, true, false, Option, Some, None, refl, sym, ap, subst}
use Rattle.std.proofs.Common.{arith, append_assoc}
use Rattle.std.specs.Prelude.{IsSome, ◌==◌, option_map}
use Rattle.std.proofs.lemmas.Bool.{eqb-true}
use Rattle.ckd_types.specs.declared.channel.CommandEnd.{CommandEnd}
use Rattle.device_core.specs.Log.{LogView}
use Rattle.plain_defs.specs.declared.journal.How.{How}
use Rattle.plain_defs.specs.declared.journal.How.TheVariants.{Cut}
use Rattle.plain_defs.specs.declared.journal.Item.{Item}
use Rattle.plain_defs.specs.declared.journal.Item.TheVariants as items
use Rattle.plain_defs.specs.History.{OpenEntry, History, closed, cut_by, entry_of, is_path_of, put, resets_of, started, with_end}
use Rattle.device_defs.specs.Start.{started_count}
use Rattle.device_core.specs.declared.history.KeptPath.{KeptPath}
use Rattle.device_core.specs.declared.history.Past.{Past}
use Rattle.device_core.specs.declared.history.Running.{Running}
use Rattle.device_core.specs.Kept.{open_of, history_of, needed, of_path, one_more, over_path, unused, waiting_in, with_one_more, with_unused, with_waiting}
use Rattle.device_core.specs.Kept.{Keeps, KeepsAll}
use Rattle.device_core.proofs.Keeping.{closed_keeps, cut_keeps, end_keeps, reset_keeps, room_of_running, start_keeps, wait_keeps}
use Rattle.device_core.proofs.Waiting.{none_wait, put_waits, used_some, waiting_kept}

pub some_open : (x : Option Running) → IsSome x → (o : OpenEntry) × (option_map open_of x ≡ Some o)
some_open None is = absurd cc
some_open (Some r) is = (open_of r, refl)

pub some_path : (x : Option OpenEntry) (path : ℕ) → is_path_of x path ≡ true → (o : OpenEntry) × ((x ≡ Some o) × ((o.path == path) ≡ true))
some_path None path is = absurd cc
some_path (Some o) path is = (o, (refl, is))

pub own_path : (x : Option OpenEntry) (o : OpenEntry) (path : ℕ) → x ≡ Some o → is_path_of x path ≡ true → o.path ≡ path
own_path x o path is runs = eqb-true o.path path (subst (λ (y : Option OpenEntry). is_path_of y path ≡ true) is runs)

pub other_path : (x : Option OpenEntry) (o : OpenEntry) (path : ℕ) → x ≡ Some o → is_path_of x path ≡ false → (o.path == path) ≡ false
other_path x o path is other = subst (λ (y : Option OpenEntry). is_path_of y path ≡ false) is other

-- room for the entry, and all that may follow it
pub room_where : (p : Past) → Keeps p → IsSome p.running → 7 ≤ p.items.spare
room_where p k is =
    let it = some_open p.running is in room_of_running (history_of p) p.kept p.powered p.items.spare k it.0 it.1

-- what is kept is so of an equal past
pub keeps_as : (p : Past) (h : History) (kept : List KeptPath) (powered : Bool) → history_of p ≡ h → p.kept ≡ kept → p.powered ≡ powered →
    KeepsAll h kept powered p.items.spare → Keeps p
keeps_as p h kept powered history_is kept_is powered_is k =
    subst (λ (x : History). KeepsAll x p.kept p.powered p.items.spare) (sym history_is)
    (subst (λ (x : List KeptPath). KeepsAll h x p.powered p.items.spare) (sym kept_is)
    (subst (λ (x : Bool). KeepsAll h kept x p.items.spare) (sym powered_is) k))

abbrev made : List Item → Option OpenEntry → List ℕ → History
made l o w = record { items = l; running = o; waiting = w }

-- the program that runs is the same still
pub keeps_same : (p : Past) (y : Option Running) → option_map open_of y ≡ option_map open_of p.running → Keeps p → Keeps (record p { running = y })
keeps_same p y same k =
    subst (λ (x : Option OpenEntry). KeepsAll (made p.items.items x (waiting_in p.kept)) p.kept p.powered p.items.spare) (sym same) k

-- a command of it ended
pub keeps_ended : (p : Past) (y : Option Running) (e : CommandEnd) → Keeps p → IsSome p.running →
    ((o : OpenEntry) → option_map open_of p.running ≡ Some o → option_map open_of y ≡ Some (with_end o e)) →
    ((o : OpenEntry) → option_map open_of p.running ≡ Some o → length o.ends < 65534) → Keeps (record p { running = y })
keeps_ended p y e k is same counted =
    let it = some_open p.running is in
    subst (λ (x : Option OpenEntry). KeepsAll (made p.items.items x (waiting_in p.kept)) p.kept p.powered p.items.spare) (sym (same it.0 it.1))
    (end_keeps (history_of p) p.kept p.powered p.items.spare k it.0 it.1 e (counted it.0 it.1))

-- The program is over, and resets follow

module _ (p q z : Past) (o : OpenEntry) (how : How) (over : q.running ≡ None)
    (entry : q.items.items ≡ p.items.items ++ entry_of o how ∷ []) (kept : q.kept ≡ p.kept) where
  pub history_closed : z.items.items ≡ q.items.items ++ resets_of (waiting_in q.kept) → z.running ≡ q.running → z.kept ≡ map over_path q.kept →
      history_of z ≡ closed (history_of p) o how
  history_closed follow running_z kept_z =
      ap (λ (l : List Item). made l (option_map open_of z.running) (waiting_in z.kept))
      (follow ∙ ap (λ (l : List Item). l ++ resets_of (waiting_in q.kept)) entry
      ∙ ap (λ (ks : List KeptPath). (p.items.items ++ entry_of o how ∷ []) ++ resets_of (waiting_in ks)) kept
      ∙ append_assoc p.items.items (entry_of o how ∷ []) (resets_of (waiting_in p.kept)))
      ∙ ap (λ (r : Option Running). made (p.items.items ++ entry_of o how ∷ resets_of (waiting_in p.kept)) (option_map open_of r) (waiting_in z.kept))
      (running_z ∙ over)
      ∙ ap (λ (w : List ℕ). made (p.items.items ++ entry_of o how ∷ resets_of (waiting_in p.kept)) None w)
      (ap waiting_in kept_z ∙ none_wait q.kept 1)

  pub keeps_closed : Keeps p → option_map open_of p.running ≡ Some o → q.items.spare + 1 ≡ p.items.spare → q.powered ≡ p.powered →
      z.items.items ≡ q.items.items ++ resets_of (waiting_in q.kept) → z.running ≡ q.running → z.kept ≡ map over_path q.kept →
      z.items.spare + length (waiting_in q.kept) ≡ q.items.spare → z.powered ≡ q.powered → Keeps z
  keeps_closed k is spare_q powered_q follow running_z kept_z spare_z powered_z =
      let same : length (waiting_in q.kept) ≡ length (waiting_in p.kept) = ap (λ (ks : List KeptPath). length (waiting_in ks)) kept in
      keeps_as z (closed (history_of p) o how) (map over_path p.kept) p.powered (history_closed follow running_z kept_z)
      (kept_z ∙ ap (map over_path) kept) (powered_z ∙ powered_q)
      (closed_keeps (history_of p) p.kept p.powered p.items.spare k o is how z.items.spare refl (omega (arith, same, spare_q, spare_z)))

-- A reset that is noted

pub waits_noted : (p : Past) (path : ℕ) → Keeps p → 1 ≤ path → path ≤ 4 → waiting_in (with_waiting p.kept path) ≡ put path (waiting_in p.kept)
waits_noted p path k least most =
    put_waits p.kept 1 (path - 1) path (record (of_path p.kept path) { waits = true }) (omega (arith, least)) (omega (arith, k.four, least, most)) refl

pub history_waits : (p z : Past) (path : ℕ) → Keeps p → 1 ≤ path → path ≤ 4 → z.items ≡ p.items → z.running ≡ p.running →
    z.kept ≡ with_waiting p.kept path → history_of z ≡ record (history_of p) { waiting = put path (waiting_in p.kept) }
history_waits p z path k least most items_z running_z kept_z =
    ap (λ (l : LogView). made l.items (option_map open_of z.running) (waiting_in z.kept)) items_z
    ∙ ap (λ (r : Option Running). made p.items.items (option_map open_of r) (waiting_in z.kept)) running_z
    ∙ ap (λ (w : List ℕ). made p.items.items (option_map open_of p.running) w) (ap waiting_in kept_z ∙ waits_noted p path k least most)

pub keeps_waiting : (p z : Past) (path : ℕ) → Keeps p → IsSome p.running → 1 ≤ path → path ≤ 4 → z.items ≡ p.items → z.running ≡ p.running →
    z.kept ≡ with_waiting p.kept path → z.powered ≡ p.powered → Keeps z
keeps_waiting p z path k is least most items_z running_z kept_z powered_z =
    let it = some_open p.running is in
    keeps_as z (record (history_of p) { waiting = put path (waiting_in p.kept) }) (with_waiting p.kept path) p.powered
    (history_waits p z path k least most items_z running_z kept_z) kept_z powered_z
    (subst (λ (n : ℕ). KeepsAll (record (history_of p) { waiting = put path (waiting_in p.kept) }) (with_waiting p.kept path) p.powered n)
    (ap (λ (l : LogView). l.spare) (sym items_z))
    (wait_keeps (history_of p) p.kept p.powered p.items.spare k it.0 it.1 path least most))

pub history_unused : (p z : Past) (path : ℕ) → Keeps p → 1 ≤ path → path ≤ 4 →
    z.items.items ≡ p.items.items ++ items.Reset path ∷ [] → z.running ≡ p.running →
    z.kept ≡ with_unused p.kept path → history_of z ≡ record (history_of p) { items = p.items.items ++ items.Reset path ∷ [] }
history_unused p z path k least most items_z running_z kept_z =
    ap (λ (l : List Item). made l (option_map open_of z.running) (waiting_in z.kept)) items_z
    ∙ ap (λ (r : Option Running). made (p.items.items ++ items.Reset path ∷ []) (option_map open_of r) (waiting_in z.kept)) running_z
    ∙ ap (λ (w : List ℕ). made (p.items.items ++ items.Reset path ∷ []) (option_map open_of p.running) w)
    (ap waiting_in kept_z ∙ waiting_kept p.kept 1 (path - 1) (unused p.kept path) (omega (arith, k.four, least, most)) refl)

pub keeps_unused : (p z : Past) (path : ℕ) → Keeps p → p.running ≡ None → (of_path p.kept path).used ≡ true → 1 ≤ path → path ≤ 4 →
    z.items.items ≡ p.items.items ++ items.Reset path ∷ [] → z.items.spare + 1 ≡ p.items.spare → z.running ≡ p.running →
    z.kept ≡ with_unused p.kept path → z.powered ≡ p.powered → Keeps z
keeps_unused p z path k idle used least most items_z spare_z running_z kept_z powered_z =
    keeps_as z (record (history_of p) { items = p.items.items ++ items.Reset path ∷ [] }) (with_unused p.kept path) p.powered
    (history_unused p z path k least most items_z running_z kept_z) kept_z powered_z
    (reset_keeps (history_of p) p.kept p.powered p.items.spare k (ap (option_map open_of) idle) path z.items.spare least most used spare_z)

-- room for it
pub room_unused : (p : Past) (path : ℕ) → Keeps p → p.running ≡ None → (of_path p.kept path).used ≡ true → 1 ≤ path → path ≤ 4 → 0 < p.items.spare
room_unused p path k idle used least most =
    let some = used_some p.kept (path - 1) (omega (arith, k.four, least, most)) used in
    let room = subst (λ (r : Option Running). needed (option_map open_of r) p.kept p.powered ≤ p.items.spare) idle k.room in
    omega (arith, some, room)

-- its own path's reset cuts the program that runs
module _ (p q y z : Past) (o : OpenEntry) (more : ℕ) (k : Keeps p) (is : option_map open_of p.running ≡ Some o) (least : 1 ≤ o.path) (most : o.path ≤ 4)
    (over : q.running ≡ None) (entry : q.items.items ≡ p.items.items ++ entry_of o (Cut (length o.ends + more)) ∷ [])
    (spare_q : q.items.spare + 1 ≡ p.items.spare) (kept_q : q.kept ≡ p.kept) (powered_q : q.powered ≡ p.powered)
    (reset_y : y.items.items ≡ q.items.items ++ items.Reset o.path ∷ []) (spare_y : y.items.spare + 1 ≡ q.items.spare)
    (running_y : y.running ≡ q.running) (kept_y : y.kept ≡ with_unused q.kept o.path) (powered_y : y.powered ≡ q.powered)
    (follow : z.items.items ≡ y.items.items ++ resets_of (waiting_in y.kept)) (spare_z : z.items.spare + length (waiting_in y.kept) ≡ y.items.spare)
    (running_z : z.running ≡ y.running) (kept_z : z.kept ≡ map over_path y.kept) (powered_z : z.powered ≡ y.powered) where
  pub kept_cut : y.kept ≡ with_unused p.kept o.path
  kept_cut = kept_y ∙ ap (λ (ks : List KeptPath). with_unused ks o.path) kept_q

  pub waiting_cut : waiting_in y.kept ≡ waiting_in p.kept
  waiting_cut = ap waiting_in kept_cut ∙ waiting_kept p.kept 1 (o.path - 1) (unused p.kept o.path) (omega (arith, k.four, least, most)) refl

  pub history_cut : history_of z ≡ cut_by (history_of p) o more
  history_cut =
      ap (λ (l : List Item). made l (option_map open_of z.running) (waiting_in z.kept))
      (follow ∙ ap (λ (l : List Item). l ++ resets_of (waiting_in y.kept)) (reset_y ∙ ap (λ (l : List Item). l ++ items.Reset o.path ∷ []) entry)
      ∙ ap (λ (w : List ℕ). ((p.items.items ++ entry_of o (Cut (length o.ends + more)) ∷ []) ++ items.Reset o.path ∷ []) ++ resets_of w) waiting_cut
      ∙ append_assoc (p.items.items ++ entry_of o (Cut (length o.ends + more)) ∷ []) (items.Reset o.path ∷ []) (resets_of (waiting_in p.kept))
      ∙ append_assoc p.items.items (entry_of o (Cut (length o.ends + more)) ∷ []) (items.Reset o.path ∷ resets_of (waiting_in p.kept)))
      ∙ ap (λ (r : Option Running). made (p.items.items ++ entry_of o (Cut (length o.ends + more)) ∷ items.Reset o.path ∷ resets_of (waiting_in p.kept))
      (option_map open_of r) (waiting_in z.kept)) (running_z ∙ running_y ∙ over)
      ∙ ap (λ (w : List ℕ). made (p.items.items ++ entry_of o (Cut (length o.ends + more)) ∷ items.Reset o.path ∷ resets_of (waiting_in p.kept)) None w)
      (ap waiting_in kept_z ∙ none_wait y.kept 1)

  pub keeps_cut : Keeps z
  keeps_cut =
      let same : length (waiting_in y.kept) ≡ length (waiting_in p.kept) = ap length waiting_cut in
      keeps_as z (cut_by (history_of p) o more) (map over_path (with_unused p.kept o.path)) p.powered history_cut (kept_z ∙ ap (map over_path) kept_cut)
      (powered_z ∙ powered_y ∙ powered_q)
      (cut_keeps (history_of p) p.kept p.powered p.items.spare k o is more z.items.spare least most refl (omega (arith, same, spare_q, spare_y, spare_z)))

-- A start

module _ (p q : Past) (path : ℕ) (r : Running) (k : Keeps p) (idle : option_map open_of p.running ≡ None) (least : 1 ≤ path) (most : path ≤ 4)
    (n : ℕ) (n_is : n ≡ started_count (history_of p) path + 1)
    (begins : open_of r ≡ record { path = path; ordinal = n; ends = []; acts = [] }) (running_q : q.running ≡ Some r)
    (items_q : q.items ≡ p.items) (kept_q : q.kept ≡ with_one_more p.kept path) (powered_q : q.powered ≡ true) where
  pub history_started : history_of q ≡ started (history_of p) path (started_count (history_of p) path + 1)
  history_started =
      ap (λ (l : LogView). made l.items (option_map open_of q.running) (waiting_in q.kept)) items_q
      ∙ ap (λ (x : Option Running). made p.items.items (option_map open_of x) (waiting_in q.kept)) running_q
      ∙ ap (λ (o : OpenEntry). made p.items.items (Some o) (waiting_in q.kept)) begins
      ∙ ap (λ (m : ℕ). made p.items.items (Some (record { path = path; ordinal = m; ends = []; acts = [] })) (waiting_in q.kept)) n_is
      ∙ ap (λ (w : List ℕ). made p.items.items (Some (record { path = path; ordinal = started_count (history_of p) path + 1; ends = []; acts = [] })) w)
      (ap waiting_in kept_q ∙ waiting_kept p.kept 1 (path - 1) (one_more p.kept path) (omega (arith, k.four, least, most)) refl)

  pub keeps_started : 7 ≤ p.items.spare → Keeps q
  keeps_started room =
      keeps_as q (started (history_of p) path (started_count (history_of p) path + 1)) (with_one_more p.kept path) true history_started kept_q powered_q
      (subst (λ (m : ℕ). KeepsAll (started (history_of p) path (started_count (history_of p) path + 1)) (with_one_more p.kept path) true m)
      (ap (λ (l : LogView). l.spare) (sym items_q))
      (start_keeps (history_of p) p.kept p.powered p.items.spare k idle path (started_count (history_of p) path + 1) p.items.spare least most room))
