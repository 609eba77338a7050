-- What is kept of a device's paths is what the history says of them, behind each event of it.
use Rattle.std.proofs.Common.{[], ◌≡◌, ◌≤◌, ◌+◌, ◌-◌, ◌==◌, ◌∷◌, ◌++◌, ℕ, zero, suc, List, Option, Some, None, Bool, true, false, cond, not, map, length, refl, arith, sym, subst, ◌∙◌, append_assoc}
use Rattle.std.specs.Prelude.{◌&&◌, count_by, slice_index_or, slice_set}
use Rattle.std.proofs.lemmas.List.Sums.{fold-append}
use Rattle.ckd_types.specs.declared.channel.CommandEnd.{CommandEnd}
use Rattle.plain_defs.specs.declared.journal.How.{How}
use Rattle.plain_defs.specs.declared.journal.How.TheVariants.{Full, Cut, Checked}
use Rattle.plain_defs.specs.declared.journal.Act.{Act}
use Rattle.plain_defs.specs.declared.journal.Item.{Item}
use Rattle.plain_defs.specs.declared.journal.Item.TheVariants as items
use Rattle.plain_defs.specs.History.{History, OpenEntry, acted, acted_in, checked, closed, cut_by, emptied, ended, entry_of, has_used}
use Rattle.plain_defs.specs.History.{lost_power, lost_power_in, put, reset_in, reset_in_history, resets_of, started, with_end}
use Rattle.plain_defs.specs.Legal.{is_of_path, is_started, is_used, started_by, used_by}
use Rattle.deck_audit.specs.declared.state.HalfWrite.TheVariants.{Closed}
use Rattle.deck_audit.specs.declared.replayed.Running.{Running}
use Rattle.deck_audit.specs.Device.{AuditedDevice, four_paths}
use Rattle.deck_audit.specs.Follows.{CountsAs, KeepsPaths, WaitsAs, count_of, if_waits}
use Rattle.deck_audit.specs.History.{cut_open}
use Rattle.deck_audit.specs.Replay as replay
use Rattle.deck_audit.specs.Replayed.{PendingState, ReplayedState}
use Rattle.deck_audit.proofs.Closing.{ended_so, none_waits, resets_keep}

pub by_path : (P : ℕ → Type 0) → P 1 → P 2 → P 3 → P 4 → (p : ℕ) → 1 ≤ p → p ≤ 4 → P p
by_path P one two three four zero least most = absurd (omega (arith, least))
by_path P one two three four (suc zero) least most = one
by_path P one two three four (suc (suc zero)) least most = two
by_path P one two three four (suc (suc (suc zero))) least most = three
by_path P one two three four (suc (suc (suc (suc zero)))) least most = four
by_path P one two three four (suc (suc (suc (suc (suc n))))) least most = absurd (omega (arith, most))

module _ (r : ReplayedState) (a : AuditedDevice) (k : KeepsPaths r a.history) where
  pub counts_kept : CountsAs r a
  counts_kept path least most = rw k.started_are (by_path (λ p. slice_index_or (map (count_of a.history) four_paths) (p - 1) 0
      ≡ count_of a.history p) refl refl refl refl path least most)

  pub used_kept : (path : ℕ) → 1 ≤ path → path ≤ 4 → replay.is_used_on r path ≡ has_used a.history path
  used_kept path least most = rw k.used_are (by_path (λ p. slice_index_or (map (has_used a.history) four_paths) (p - 1) false
      ≡ has_used a.history p) refl refl refl refl path least most)

-- where nothing that is kept of the paths changed
pub keeps_same : (r s : ReplayedState) (h : History) → s.started ≡ r.started → s.used ≡ r.used → s.waits ≡ r.waits
    → s.powered ≡ r.powered → KeepsPaths r h → KeepsPaths s h
keeps_same r s h started_is used_is waits_are powered_is k = record {
  started_are = started_is ∙ k.started_are;
  used_are = used_is ∙ k.used_are;
  waits = rw waits_are k.waits;
  powered_is = powered_is ∙ k.powered_is;
}

-- What a journal with more items says of a path

count_append : (i : ℕ) (xs : List Item) (x : Item)
    → count_by (is_of_path i) (xs ++ x ∷ []) ≡ count_by (is_of_path i) xs + cond (is_of_path i x) 1 0
count_append i xs x = fold-append (λ (m : ℕ) (y : Item). m + cond (is_of_path i y) 1 0) 0 xs (x ∷ [])

used_append : (i : ℕ) (used : Bool) (xs ys : List Item) → is_used i used (xs ++ ys) ≡ is_used i (is_used i used xs) ys
used_append i used [] ys = refl
used_append i used (x ∷ xs) ys = used_append i (used_by i used x) xs ys

started_append : (s : Bool) (xs ys : List Item) → is_started s (xs ++ ys) ≡ is_started (is_started s xs) ys
started_append s [] ys = refl
started_append s (x ∷ xs) ys = started_append (started_by s x) xs ys

zero_more : (n : ℕ) → n + 0 ≡ n
zero_more n = omega arith

-- A program starts, and goes on

module _ (r : ReplayedState) (h : History) (k : KeepsPaths r h) where
  pub start_keeps : (s : ReplayedState) (p n : ℕ) → 1 ≤ p → p ≤ 4 → h.running ≡ None
      → s.started ≡ slice_set r.started (p - 1) (replay.started_on r p + 1) → s.used ≡ slice_set r.used (p - 1) true
      → s.waits ≡ r.waits → s.powered ≡ true → KeepsPaths s (started h p n)
  start_keeps s p n least most idle started_is used_is waits_are powered_is = record {
    started_are = started_is ∙ rw (k.started_are, idle) (by_path (λ q. slice_set (map (count_of (record h { running = None })) four_paths) (q - 1)
        (slice_index_or (map (count_of (record h { running = None })) four_paths) (q - 1) 0 + 1) ≡ map (count_of (started h q n)) four_paths)
        (simp zero_more) (simp zero_more) (simp zero_more) (simp zero_more) p least most);
    used_are = used_is ∙ rw (k.used_are, idle) (by_path (λ q. slice_set (map (has_used (record h { running = None })) four_paths) (q - 1) true
        ≡ map (has_used (started h q n)) four_paths) refl refl refl refl p least most);
    waits = rw waits_are k.waits;
    powered_is = powered_is;
  }

  program_keeps : (o q : OpenEntry) → h.running ≡ Some o → q.path ≡ o.path → KeepsPaths r (record h { running = Some q })
  program_keeps o q open_is same = record {
    started_are = rw same (rw open_is at k.started_are);
    used_are = rw same (rw open_is at k.used_are);
    waits = k.waits;
    powered_is = rw open_is at k.powered_is;
  }

  -- one item more, which no path uses
  item_keeps : (x : Item) → ((i : ℕ) → is_of_path i x ≡ false) → ((i : ℕ) (u : Bool) → used_by i u x ≡ u) → ((s : Bool) → started_by s x ≡ s)
      → KeepsPaths r (record h { items = h.items ++ x ∷ [] })
  item_keeps x of_none unused unstarted = record {
    started_are = simp (count_append, of_none, zero_more) k.started_are;
    used_are = simp (used_append, unused) k.used_are;
    waits = k.waits;
    powered_is = simp (started_append, unstarted) k.powered_is;
  }

  -- its program is over
  pub entry_keeps : (s : ReplayedState) (o e : OpenEntry) (how : How) (waiting : List ℕ) → h.running ≡ Some o → e.path ≡ o.path → s.started ≡ r.started
      → s.used ≡ r.used → WaitsAs s.waits waiting → s.powered ≡ r.powered
      → KeepsPaths s (record { items = h.items ++ entry_of e how ∷ []; running = None; waiting = waiting })
  entry_keeps s o e how waiting open_is same started_is used_is waits powered_is = record {
    started_are = started_is ∙ simp (count_append, zero_more, same) (rw open_is at k.started_are);
    used_are = used_is ∙ simp (used_append, same) (rw open_is at k.used_are);
    waits = waits;
    powered_is = powered_is ∙ rw started_append (rw open_is at k.powered_is);
  }

  -- a reset is done, while no program runs
  reset_done : h.running ≡ None → (p : ℕ) → 1 ≤ p → p ≤ 4 → KeepsPaths (replay.reset_on r p) (record h { items = h.items ++ items.Reset p ∷ [] })
  reset_done idle p least most = record {
    started_are = simp (count_append, zero_more) k.started_are;
    used_are = simp (used_append, idle) (rw (k.used_are, idle) (by_path (λ q. slice_set (map (λ i. is_used i false h.items) four_paths) (q - 1) false
        ≡ map (λ i. not (q == i) && is_used i false h.items) four_paths) refl refl refl refl p least most));
    waits = k.waits;
    powered_is = rw started_append k.powered_is;
  }

-- the resets that waited follow
module _ (r : ReplayedState) (l : List Item) (waiting : List ℕ) (k : KeepsPaths r (record { items = l; running = None; waiting = waiting })) where
  waited_keeps : KeepsPaths (replay.closed r) (record { items = l ++ resets_of waiting; running = None; waiting = [] })
  waited_keeps = resets_keep r waiting k.waits
      (λ s l. (w : List ℕ) → WaitsAs s.waits w → KeepsPaths s (record { items = l; running = None; waiting = w }))
      (λ s l p least most kept w so. reset_done s (record { items = l; running = None; waiting = w }) (kept w so) refl p least most)
      l (λ waits w so. record { started_are = k.started_are; used_are = k.used_are; waits = so; powered_is = k.powered_is })
      [] (none_waits r waiting k.waits)

module _ (r : ReplayedState) (h : History) (o : OpenEntry) (k : KeepsPaths r h) (open_is : h.running ≡ Some o) where
  closed_keeps : (how : How) (e : OpenEntry) → e.path ≡ o.path → KeepsPaths (replay.closed r) (closed h e how)
  closed_keeps how e same = rw (← append_assoc h.items (entry_of e how ∷ []) (resets_of h.waiting))
      (waited_keeps r (h.items ++ entry_of e how ∷ []) h.waiting (entry_keeps r h k r o e how h.waiting open_is same refl refl k.waits refl))

  -- a reset cuts it
  pub cut_reset_keeps : (more : ℕ) → 1 ≤ o.path → o.path ≤ 4 → KeepsPaths (replay.closed (replay.reset_on r o.path)) (cut_by h o more)
  cut_reset_keeps more least most =
      let e : Item = entry_of o (Cut (length o.ends + more)) in
      subst (λ (l : List Item). KeepsPaths (replay.closed (replay.reset_on r o.path)) (record { items = l; running = None; waiting = [] }))
      (append_assoc (h.items ++ e ∷ []) (items.Reset o.path ∷ []) (resets_of h.waiting)
      ∙ append_assoc h.items (e ∷ []) (items.Reset o.path ∷ resets_of h.waiting))
      (waited_keeps (replay.reset_on r o.path) ((h.items ++ e ∷ []) ++ items.Reset o.path ∷ []) h.waiting
      (reset_done r (record { items = h.items ++ e ∷ []; running = None; waiting = h.waiting })
      (entry_keeps r h k r o o (Cut (length o.ends + more)) h.waiting open_is refl refl refl k.waits refl) refl o.path least most))

  -- a loss of power does
  pub cut_keeps : (more : ℕ) → KeepsPaths (replay.cut r) (cut_open h o more)
  cut_keeps more = entry_keeps r h k (replay.cut r) o o (Cut (length o.ends + more)) [] open_is refl refl refl
      (record { first = false; second = false; third = false; fourth = false; waits_are = refl; waiting_are = refl }) refl

  -- a command ended, and the program goes on or is over
  pub end_keeps : (e : CommandEnd) → e.over ≡ false → KeepsPaths r (ended h e)
  end_keeps e more = rw (ended_so h o e open_is false more) (program_keeps r h k o (with_end o e) open_is refl)

  pub over_keeps : (e : CommandEnd) → e.over ≡ true → KeepsPaths (replay.closed r) (ended h e)
  over_keeps e over = rw (ended_so h o e open_is true over) (closed_keeps Full (with_end o e) refl)

  pub check_keeps : (e : CommandEnd) → KeepsPaths (replay.closed r) (checked h e)
  check_keeps e = rw open_is (closed_keeps Checked (with_end o e) refl)

module _ (r : ReplayedState) (h : History) (k : KeepsPaths r h) where
  -- an act of cache fast write
  pub act_keeps : (act : Act) → KeepsPaths (replay.acted r act) (acted h act)
  act_keeps act = keeps_same r (replay.acted r act) (acted h act) refl refl refl refl (by_running h.running refl) where
    by_running : (running : Option OpenEntry) → h.running ≡ running → KeepsPaths r (acted_in h act running)
    by_running (Some o) is = program_keeps r h k o (record o { acts = o.acts ++ record { after = length o.ends; act = act } ∷ [] }) is refl
    by_running None is = item_keeps r h k (items.Act act) (λ i. refl) (λ i u. refl) (λ s. refl)

  -- a new volume
  pub fresh_keeps : KeepsPaths (replay.given_back r) (emptied h)
  fresh_keeps = keeps_same r (replay.given_back r) (emptied h) refl refl refl refl
      (item_keeps r h k items.Fresh (λ i. refl) (λ i u. refl) (λ s. refl))

  -- what a command does to the device
  pub settled_keeps : KeepsPaths (replay.settled r) h
  settled_keeps = by_pending r.pending where
    by_pending : (p : Option PendingState) → KeepsPaths (replay.settled_by r p) h
    by_pending (Some p) = keeps_same r (replay.settled_by r (Some p)) h refl refl refl refl k
    by_pending None = k

  pub next_keeps : KeepsPaths (replay.ended_next r) h
  next_keeps = by_running r.running where
    by_next : (o : Running) (next : Option ℕ) → KeepsPaths (replay.ended_at r o next) h
    by_next o (Some i) = keeps_same r (replay.ended_of r o) h refl refl refl refl k
    by_next o None = k

    by_running : (running : Option Running) → KeepsPaths (replay.ended_by r running) h
    by_running (Some o) = by_next o o.chain.at.next
    by_running None = k

-- While no program runs

module _ (r : ReplayedState) (h : History) (k : KeepsPaths r h) (idle : h.running ≡ None) where
  pub reset_keeps : (p more : ℕ) → 1 ≤ p → p ≤ 4 → replay.is_used_on r p ≡ is_used p false h.items
      → KeepsPaths (replay.reset_used r p) (reset_in_history h p more)
  reset_keeps p more least most used =
      subst (λ (x : Option OpenEntry). KeepsPaths (replay.reset_used r p) (reset_in h p more x)) (sym idle)
      (rw used (by_use (is_used p false h.items))) where
        by_use : (b : Bool) → KeepsPaths (cond b (replay.reset_on r p) r) (cond b (record h { items = h.items ++ items.Reset p ∷ [] }) h)
        by_use true = reset_done r h k idle p least most
        by_use false = k

  -- a loss of power
  pub power_keeps : KeepsPaths (replay.without_power r) (lost_power h 0)
  power_keeps =
      let powered : r.powered ≡ is_started false h.items = rw idle at k.powered_is in
      subst (λ (x : Option OpenEntry). KeepsPaths (replay.without_power r) (lost_power_in h 0 x)) (sym idle)
      (rw (← powered) (by_started r.powered)) where
        by_started : (b : Bool) → KeepsPaths (cond b (replay.dark r) (record r { half = Closed }))
            (cond b (record { items = h.items ++ items.Power ∷ []; running = None; waiting = [] }) h)
        by_started false = keeps_same r (record r { half = Closed }) h refl refl refl refl k
        by_started true = record {
          started_are = simp (count_append, zero_more) (simp (idle, zero_more) at k.started_are);
          used_are = simp used_append;
          waits = record { first = false; second = false; third = false; fourth = false; waits_are = refl; waiting_are = refl };
          powered_is = rw started_append refl;
        }

-- A reset that waits

abbrev paths : Bool → Bool → Bool → Bool → List ℕ
paths a b c d = if_waits a 1 (if_waits b 2 (if_waits c 3 (if_waits d 4 [])))

put_1 : (a b c d : Bool) → put 1 (paths a b c d) ≡ paths true b c d
put_1 a b c d = grind arith

put_2 : (a b c d : Bool) → put 2 (paths a b c d) ≡ paths a true c d
put_2 a b c d = grind arith

put_3 : (a b c d : Bool) → put 3 (paths a b c d) ≡ paths a b true d
put_3 a b c d = grind arith

put_4 : (a b c d : Bool) → put 4 (paths a b c d) ≡ paths a b c true
put_4 a b c d = grind arith

waits_as : (a b c d : Bool) (l : List ℕ) → l ≡ paths a b c d → WaitsAs (a ∷ b ∷ c ∷ d ∷ []) l
waits_as a b c d l is = record { first = a; second = b; third = c; fourth = d; waits_are = refl; waiting_are = is }

put_waits : (waits : List Bool) (waiting : List ℕ) → WaitsAs waits waiting → (p : ℕ) → 1 ≤ p → p ≤ 4
    → WaitsAs (slice_set waits (p - 1) true) (put p waiting)
put_waits waits waiting w p least most = rw (w.waits_are, w.waiting_are) (by_path (λ q. WaitsAs
    (slice_set (w.first ∷ w.second ∷ w.third ∷ w.fourth ∷ []) (q - 1) true) (put q (paths w.first w.second w.third w.fourth)))
    (waits_as true w.second w.third w.fourth _ (put_1 w.first w.second w.third w.fourth))
    (waits_as w.first true w.third w.fourth _ (put_2 w.first w.second w.third w.fourth))
    (waits_as w.first w.second true w.fourth _ (put_3 w.first w.second w.third w.fourth))
    (waits_as w.first w.second w.third true _ (put_4 w.first w.second w.third w.fourth)) p least most)

pub wait_keeps : (r : ReplayedState) (h : History) (o : OpenEntry) (k : KeepsPaths r h) (open_is : h.running ≡ Some o) (p : ℕ)
    (least : 1 ≤ p) (most : p ≤ 4) (unlike : (o.path == p) ≡ false) (more : ℕ) → replay.is_used_on r p ≡ is_used p false h.items
    → KeepsPaths (replay.wait_used r p) (reset_in_history h p more)
wait_keeps r h o k open_is p least most unlike more used =
    subst (λ (x : Option OpenEntry). KeepsPaths (replay.wait_used r p) (reset_in h p more x)) (sym open_is)
    (rw (unlike, used) (wait_by (is_used p false h.items))) where
      wait_by : (b : Bool) → KeepsPaths (cond b (record r { waits = slice_set r.waits (p - 1) true }) r)
          (cond b (record h { waiting = put p h.waiting }) h)
      wait_by true = record {
        started_are = k.started_are;
        used_are = k.used_are;
        waits = put_waits r.waits h.waiting k.waits p least most;
        powered_is = k.powered_is;
      }
      wait_by false = k
