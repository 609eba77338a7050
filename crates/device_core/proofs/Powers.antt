-- A device's past behind a loss of power.
use Rattle.std.proofs.Common.{◌≡◌, ◌∙◌, ◌+◌, ◌-◌, ◌≤◌, ℕ, List, [], ◌∷◌, ◌++◌, length, map, Bool, true, false}
use Rattle.std.proofs.Common.{Option, Some, None, refl, sym, ap, arith, append_assoc, ◌||◌}
use Rattle.std.specs.Prelude.{count_by, is_some, option_map, if◌then◌else◌}
use Rattle.std.proofs.lemmas.List.{get_or-map, length-map}
use Rattle.loss_model.specs.declared.Loss.TheVariants.{Cache}
use Rattle.plain_defs.specs.declared.journal.How.TheVariants.{Cut}
use Rattle.plain_defs.specs.declared.journal.Item.{Item}
use Rattle.plain_defs.specs.declared.journal.Item.TheVariants as items
use Rattle.plain_defs.specs.History.{OpenEntry, History, entry_of, lost_power, lost_power_in}
use Rattle.plain_defs.specs.Journal.{Plans}
use Rattle.plain_defs.specs.Legal.{is_of_path, is_started}
use Rattle.plain_defs.specs.PlainState.{PathsState, fresh_paths}
use Rattle.nv_store.specs.declared.patches.Stored.{Stored}
use Rattle.track_cache.specs.declared.frames.Frame.{Frame}
use Rattle.track_image.specs.Image.{Image}
use Rattle.device_outside.specs.declared.volume.Volume.{Ghosts}
use Rattle.device_defs.specs.Contents.{contents}
use Rattle.device_defs.specs.Cutting.{counts_one_by, powerless, powered_off}
use Rattle.device_defs.specs.Events.{with_loss}
use Rattle.device_defs.specs.Start.{started_count}
use Rattle.device_defs.specs.Store.{Store}
use Rattle.device_store.specs.declared.store.DeviceStore.{DeviceStore}
use Rattle.device_store.specs.State.{state_of}
use Rattle.device_core.specs.declared.history.KeptPath.{KeptPath}
use Rattle.device_core.specs.declared.history.Past.{Past}
use Rattle.device_core.specs.declared.history.Running.{Running}
use Rattle.device_core.specs.Kept.{open_of, chain_of, history_of, fresh_path, of_path, used_count, waiting_from, waiting_in, Keeps, KeepsAll}
use Rattle.device_core.specs.Powered.{off_path}
use Rattle.device_core.specs.State.{DefinedDevice, device_by}
use Rattle.device_core.proofs.Keeping.{count_append, started_append, running_path, idle_path}
use Rattle.device_core.proofs.Pasts.{keeps_as}
use Rattle.device_core.proofs.Waiting.{used_append}

no_more : (n : ℕ) → n + 0 ≡ n
no_more n = omega arith

pub none_runs : (x : Option Running) → is_some x ≡ false → x ≡ None
none_runs None is = refl
none_runs (Some r) is = absurd cc

none_used : (ks : List KeptPath) → used_count (map off_path ks) ≡ 0
none_used [] = refl
none_used (k ∷ ks) = let before = none_used ks in omega (arith, before)

none_left : (ks : List KeptPath) (n : ℕ) → waiting_from n (map off_path ks) ≡ []
none_left [] n = refl
none_left (k ∷ ks) n = none_left ks (n + 1)

of_off : (kept : List KeptPath) (i : ℕ) → length kept ≡ 4 → 1 ≤ i → i ≤ 4 → of_path (map off_path kept) i ≡ off_path (of_path kept i)
of_off kept i four least most = get_or-map off_path kept (i - 1) fresh_path fresh_path (omega (arith, four, least, most))

abbrev off_with : List Item → History
off_with xs = record { items = xs ++ items.Power ∷ []; running = None; waiting = [] }

-- what is kept is so behind it, where the programs that were started are counted
off_keeps : (xs : List Item) (kept : List KeptPath) (left : ℕ) → length kept ≡ 4 →
    ((i : ℕ) → 1 ≤ i → i ≤ 4 → (of_path kept i).started ≡ count_by (is_of_path i) xs) → KeepsAll (off_with xs) (map off_path kept) false left
off_keeps xs kept left four counts = record {
  four = length-map kept off_path ∙ four;
  paths = λ i least most. record {
    started_is = ap (λ (k : KeptPath). k.started) (of_off kept i four least most) ∙ counts i least most ∙ sym (counted i);
    used_is = ap (λ (k : KeptPath). k.used) (of_off kept i four least most) ∙ sym (used_append i false xs (items.Power ∷ []));
  };
  powered_is = sym (started_append false xs (items.Power ∷ []));
  ends = tt;
  room = let none = none_used kept in omega (arith, none);
} where
  counted : (i : ℕ) → started_count (off_with xs) i ≡ count_by (is_of_path i) xs
  counted i =
      no_more (count_by (is_of_path i) (xs ++ items.Power ∷ [])) ∙ count_append (is_of_path i) 0 xs (items.Power ∷ [])
      ∙ no_more (count_by (is_of_path i) xs)

abbrev made : List Item → Option OpenEntry → List ℕ → History
made l o w = record { items = l; running = o; waiting = w }

-- A program ran, and was cut

module _ (p q z : Past) (o : OpenEntry) (more : ℕ) (is : option_map open_of p.running ≡ Some o) (over : q.running ≡ None)
    (entry : q.items.items ≡ p.items.items ++ entry_of o (Cut (length o.ends + more)) ∷ []) (kept_q : q.kept ≡ p.kept)
    (power : z.items.items ≡ q.items.items ++ items.Power ∷ []) (running_z : z.running ≡ q.running) (kept_z : z.kept ≡ map off_path q.kept)
    (powered_z : z.powered ≡ false) where
  abbrev cut_items : List Item
  cut_items = p.items.items ++ entry_of o (Cut (length o.ends + more)) ∷ []

  off_running : history_of z ≡ off_with cut_items
  off_running =
      ap (λ (l : List Item). made l (option_map open_of z.running) (waiting_in z.kept)) (power ∙ ap (λ (l : List Item). l ++ items.Power ∷ []) entry)
      ∙ ap (λ (r : Option Running). made (cut_items ++ items.Power ∷ []) (option_map open_of r) (waiting_in z.kept)) (running_z ∙ over)
      ∙ ap (λ (w : List ℕ). made (cut_items ++ items.Power ∷ []) None w) (ap waiting_in kept_z ∙ none_left q.kept 1)

  pub history_running : history_of z ≡ lost_power (history_of p) more
  history_running =
      off_running
      ∙ ap (λ (l : List Item). made l None []) (append_assoc p.items.items (entry_of o (Cut (length o.ends + more)) ∷ []) (items.Power ∷ []))
      ∙ sym (ap (lost_power_in (history_of p) more) is)

  pub keeps_running : Keeps p → Keeps z
  keeps_running k =
      keeps_as z (off_with cut_items) (map off_path p.kept) false off_running (kept_z ∙ ap (map off_path) kept_q) powered_z
      (off_keeps cut_items p.kept z.items.spare k.four (λ i least most.
      running_path (history_of p) p.kept p.powered p.items.spare k o is i (of_path p.kept i) (k.paths i least most)
      ∙ sym (count_append (is_of_path i) 0 p.items.items (entry_of o (Cut (length o.ends + more)) ∷ []))))

-- No program ran

started_of : (p : Past) → Keeps p → p.running ≡ None → p.powered ≡ is_started false p.items.items
started_of p k idle = k.powered_is ∙ ap (λ (r : Option Running). is_some (option_map open_of r) || is_started false p.items.items) idle

power_if : (h : History) (more : ℕ) (b : Bool) → is_started false h.items ≡ b → lost_power_in h more None ≡ (if b then off_with h.items else h)
power_if h more b is = ap (λ (x : Bool). if x then off_with h.items else h) is

module _ (p z : Past) (more : ℕ) (idle : p.running ≡ None) (k : Keeps p) (powered : p.powered ≡ true)
    (power : z.items.items ≡ p.items.items ++ items.Power ∷ []) (running_z : z.running ≡ p.running) (kept_z : z.kept ≡ map off_path p.kept)
    (powered_z : z.powered ≡ false) where
  off_idle : history_of z ≡ off_with p.items.items
  off_idle =
      ap (λ (l : List Item). made l (option_map open_of z.running) (waiting_in z.kept)) power
      ∙ ap (λ (r : Option Running). made (p.items.items ++ items.Power ∷ []) (option_map open_of r) (waiting_in z.kept)) (running_z ∙ idle)
      ∙ ap (λ (w : List ℕ). made (p.items.items ++ items.Power ∷ []) None w) (ap waiting_in kept_z ∙ none_left p.kept 1)

  pub history_idle : history_of z ≡ lost_power (history_of p) more
  history_idle =
      off_idle ∙ sym (ap (λ (r : Option Running). lost_power_in (history_of p) more (option_map open_of r)) idle
      ∙ power_if (history_of p) more true (sym (started_of p k idle) ∙ powered))

  pub keeps_idle : Keeps z
  keeps_idle =
      keeps_as z (off_with p.items.items) (map off_path p.kept) false off_idle kept_z powered_z
      (off_keeps p.items.items p.kept z.items.spare k.four (λ i least most.
      idle_path (history_of p) p.kept p.powered p.items.spare k (ap (option_map open_of) idle) i (of_path p.kept i) (k.paths i least most)
      ∙ no_more (count_by (is_of_path i) p.items.items)))

-- Room

-- the device behind it
pub off_is : {V : Type 0} {G : Ghosts V} (w : Store Frame Stored Image) (x y : DeviceStore V G) (p q : Past) (paths now : PathsState) (plans : Plans)
    (more : ℕ) → counts_one_by w.half ≡ more → state_of y ≡ powerless contents (with_loss (state_of x) Cache) → now ≡ fresh_paths →
    history_of q ≡ lost_power (history_of p) more → q.running ≡ None →
    powered_off contents (device_by w paths plans p) (state_of x) ≡ device_by (state_of y) now plans q
off_is w x y p q paths now plans more count store fresh history over =
    let off : Store Frame Stored Image → PathsState → History → Option Running → DefinedDevice = λ s ps h r.
    record { store = s; paths = ps; plans = plans; history = h; chain = option_map chain_of r } in
    ap (λ (n : ℕ). off (powerless contents (with_loss (state_of x) Cache)) fresh_paths (lost_power (history_of p) n) None) count
    ∙ ap (λ (s : Store Frame Stored Image). off s fresh_paths (lost_power (history_of p) more) None) (sym store)
    ∙ ap (λ (ps : PathsState). off (state_of y) ps (lost_power (history_of p) more) None) (sym fresh)
    ∙ ap (λ (h : History). off (state_of y) now h None) (sym history)
    ∙ ap (λ (r : Option Running). off (state_of y) now (history_of q) r) (sym over)
