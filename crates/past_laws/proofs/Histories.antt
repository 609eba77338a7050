-- What an event makes of a history whose past was put away is what it makes of the whole one.
use Rattle.std.proofs.Common.{◌≡◌, ℕ, ◌+◌, ◌==◌, ◌≤◌, Bool, true, false, List, [], ◌∷◌, ◌++◌, length, Option, Some, None, refl, ap, ◌∙◌}
use Rattle.std.specs.Prelude.{if◌then◌else◌, option_map}
use Rattle.ckd_types.specs.declared.channel.CommandEnd.{CommandEnd}
use Rattle.plain_defs.specs.declared.journal.Act.{Act}
use Rattle.plain_defs.specs.declared.journal.How.{How}
use Rattle.plain_defs.specs.declared.journal.How.TheVariants.{Full, Cut, Checked}
use Rattle.plain_defs.specs.declared.journal.Item.{Item}
use Rattle.plain_defs.specs.declared.journal.Item.TheVariants as items
use Rattle.plain_defs.specs.History.{
  History,
  OpenEntry,
  acted,
  acted_in,
  checked,
  checked_in,
  closed,
  cut_by,
  emptied,
  ended,
  ended_in,
  entry_of,
  has_used,
  is_path_of,
  lost_power,
  lost_power_in,
  put,
  reset_in,
  reset_in_history,
  resets_of,
  with_end,
}
use Rattle.plain_defs.specs.Journal.{Plans}
use Rattle.plain_defs.specs.Legal.{is_started, is_used}
use Rattle.past_laws.specs.PutAway.{IsPutAway, PutAway, whole_entry, whole_history, whole_item, whole_items}
use Rattle.past_laws.proofs.Items.{away_more, away_same, items_more, resets_same, started_whole, used_whole}

pub path_same : (w : PutAway) (r : Option OpenEntry) (path : ℕ) → is_path_of (option_map (whole_entry w) r) path ≡ is_path_of r path
path_same w (Some o) path = refl
path_same w None path = refl

module _ (w : PutAway) (plans : Plans) (h : History) (away : IsPutAway w plans h) where
  -- items and the resets that waited behind them
  behind : (x : Item) (paths : List ℕ) → whole_items w (h.items ++ x ∷ resets_of paths) ≡ whole_items w h.items ++ whole_item w x ∷ resets_of paths
  behind x paths =
      items_more w plans h away (x ∷ resets_of paths)
      ∙ ap (λ (xs : List Item). whole_items w h.items ++ whole_item w x ∷ xs) (resets_same w paths)

  abbrev idle_with : List Item → History
  idle_with xs = record { items = xs; running = None; waiting = [] }

  pub used_there : (path : ℕ) → 1 ≤ path → path ≤ 4 → has_used (whole_history w h) path ≡ has_used h path
  used_there path least most = rw (path_same w h.running path, used_whole w plans h away path least most) refl

  -- ---- it closes

  closed_whole : (o : OpenEntry) (how : How) → whole_history w (closed h o how) ≡ closed (whole_history w h) (whole_entry w o) how
  closed_whole o how = ap idle_with (behind (entry_of o how) h.waiting)

  closed_away : (o : OpenEntry) (how : How) → IsPutAway w plans (closed h o how)
  closed_away o how = away_more w plans h away (closed h o how) (entry_of o how ∷ resets_of h.waiting) refl

  -- ---- a command ended

  ended_in_whole : (e : CommandEnd) (r : Option OpenEntry) → whole_history w (ended_in h e r) ≡ ended_in (whole_history w h) e (option_map (whole_entry w) r)
  ended_in_whole e None = refl
  ended_in_whole e (Some o) = pick e.over
    where
      pick : (b : Bool) → whole_history w (if b then closed h (with_end o e) Full else record h { running = Some (with_end o e) })
          ≡ (if b then closed (whole_history w h) (with_end (whole_entry w o) e) Full else record (whole_history w h) { running = Some (with_end (whole_entry w o) e) })
      pick true = closed_whole (with_end o e) Full
      pick false = refl

  ended_in_away : (e : CommandEnd) (r : Option OpenEntry) → IsPutAway w plans (ended_in h e r)
  ended_in_away e None = away
  ended_in_away e (Some o) = pick e.over
    where
      pick : (b : Bool) → IsPutAway w plans (if b then closed h (with_end o e) Full else record h { running = Some (with_end o e) })
      pick true = closed_away (with_end o e) Full
      pick false = away_same w plans h away (record h { running = Some (with_end o e) }) refl

  pub ended_whole : (e : CommandEnd) → whole_history w (ended h e) ≡ ended (whole_history w h) e
  ended_whole e = ended_in_whole e h.running

  pub ended_away : (e : CommandEnd) → IsPutAway w plans (ended h e)
  ended_away e = ended_in_away e h.running

  checked_in_whole : (e : CommandEnd) (r : Option OpenEntry) → whole_history w (checked_in h e r) ≡ checked_in (whole_history w h) e (option_map (whole_entry w) r)
  checked_in_whole e None = refl
  checked_in_whole e (Some o) = closed_whole (with_end o e) Checked

  checked_in_away : (e : CommandEnd) (r : Option OpenEntry) → IsPutAway w plans (checked_in h e r)
  checked_in_away e None = away
  checked_in_away e (Some o) = closed_away (with_end o e) Checked

  pub checked_whole : (e : CommandEnd) → whole_history w (checked h e) ≡ checked (whole_history w h) e
  checked_whole e = checked_in_whole e h.running

  pub checked_away : (e : CommandEnd) → IsPutAway w plans (checked h e)
  checked_away e = checked_in_away e h.running

  -- ---- an act

  one_behind : (x : Item) → whole_items w (h.items ++ x ∷ []) ≡ whole_items w h.items ++ whole_item w x ∷ []
  one_behind x = items_more w plans h away (x ∷ [])

  acted_in_whole : (act : Act) (r : Option OpenEntry) → whole_history w (acted_in h act r) ≡ acted_in (whole_history w h) act (option_map (whole_entry w) r)
  acted_in_whole act (Some o) = refl
  acted_in_whole act None = ap (λ (xs : List Item). record (whole_history w h) { items = xs }) (one_behind (items.Act act))

  acted_in_away : (act : Act) (r : Option OpenEntry) → IsPutAway w plans (acted_in h act r)
  acted_in_away act (Some o) = away_same w plans h away (acted_in h act (Some o)) refl
  acted_in_away act None = away_more w plans h away (acted_in h act None) (items.Act act ∷ []) refl

  pub acted_whole : (act : Act) → whole_history w (acted h act) ≡ acted (whole_history w h) act
  acted_whole act = acted_in_whole act h.running

  pub acted_away : (act : Act) → IsPutAway w plans (acted h act)
  acted_away act = acted_in_away act h.running

  -- ---- an empty volume

  pub emptied_whole : whole_history w (emptied h) ≡ emptied (whole_history w h)
  emptied_whole = ap (λ (xs : List Item). record (whole_history w h) { items = xs }) (one_behind items.Fresh)

  pub emptied_away : IsPutAway w plans (emptied h)
  emptied_away = away_more w plans h away (emptied h) (items.Fresh ∷ []) refl

  -- ---- a reset

  cut_whole : (o : OpenEntry) (more : ℕ) → whole_history w (cut_by h o more) ≡ cut_by (whole_history w h) (whole_entry w o) more
  cut_whole o more =
      let cut = entry_of o (Cut (length o.ends + more)) in
      ap idle_with
      (items_more w plans h away (cut ∷ items.Reset o.path ∷ resets_of h.waiting)
      ∙ ap (λ (xs : List Item). whole_items w h.items ++ whole_item w cut ∷ items.Reset o.path ∷ xs) (resets_same w h.waiting))

  reset_in_whole : (path more : ℕ) (r : Option OpenEntry) (used : Bool) → used ≡ is_used path false h.items → is_used path false (whole_items w h.items) ≡ used →
      whole_history w (reset_in h path more r) ≡ reset_in (whole_history w h) path more (option_map (whole_entry w) r)
  reset_in_whole path more (Some o) used here there = rw (← here, there) (pick (o.path == path) used)
    where
      pick : (b u : Bool) → whole_history w (if b then cut_by h o more else if u then record h { waiting = put path h.waiting } else h)
          ≡ (if b then cut_by (whole_history w h) (whole_entry w o) more else if u then record (whole_history w h) { waiting = put path h.waiting } else whole_history w h)
      pick true u = cut_whole o more
      pick false true = refl
      pick false false = refl
  reset_in_whole path more None used here there = rw (← here, there) (pick used)
    where
      pick : (u : Bool) → whole_history w (if u then record h { items = h.items ++ items.Reset path ∷ [] } else h)
          ≡ (if u then record (whole_history w h) { items = whole_items w h.items ++ items.Reset path ∷ [] } else whole_history w h)
      pick true = ap (λ (xs : List Item). record (whole_history w h) { items = xs }) (one_behind (items.Reset path))
      pick false = refl

  reset_in_away : (path more : ℕ) (r : Option OpenEntry) → IsPutAway w plans (reset_in h path more r)
  reset_in_away path more (Some o) = pick (o.path == path) (is_used path false h.items)
    where
      pick : (b u : Bool) → IsPutAway w plans (if b then cut_by h o more else if u then record h { waiting = put path h.waiting } else h)
      pick true u = away_more w plans h away (cut_by h o more) (entry_of o (Cut (length o.ends + more)) ∷ items.Reset o.path ∷ resets_of h.waiting) refl
      pick false true = away_same w plans h away (record h { waiting = put path h.waiting }) refl
      pick false false = away
  reset_in_away path more None = pick (is_used path false h.items)
    where
      pick : (u : Bool) → IsPutAway w plans (if u then record h { items = h.items ++ items.Reset path ∷ [] } else h)
      pick true = away_more w plans h away (record h { items = h.items ++ items.Reset path ∷ [] }) (items.Reset path ∷ []) refl
      pick false = away

  pub reset_whole : (path more : ℕ) → 1 ≤ path → path ≤ 4 → whole_history w (reset_in_history h path more) ≡ reset_in_history (whole_history w h) path more
  reset_whole path more least most = reset_in_whole path more h.running (is_used path false h.items) refl (used_whole w plans h away path least most)

  pub reset_away : (path more : ℕ) → IsPutAway w plans (reset_in_history h path more)
  reset_away path more = reset_in_away path more h.running

  -- ---- a loss of power

  lost_in_whole : (more : ℕ) (r : Option OpenEntry) (ran : Bool) → ran ≡ is_started false h.items → is_started false (whole_items w h.items) ≡ ran →
      whole_history w (lost_power_in h more r) ≡ lost_power_in (whole_history w h) more (option_map (whole_entry w) r)
  lost_in_whole more (Some o) ran here there = ap idle_with (items_more w plans h away (entry_of o (Cut (length o.ends + more)) ∷ items.Power ∷ []))
  lost_in_whole more None ran here there = rw (← here, there) (pick ran)
    where
      pick : (u : Bool) → whole_history w (if u then record { items = h.items ++ items.Power ∷ []; running = None; waiting = [] } else h)
          ≡ (if u then record { items = whole_items w h.items ++ items.Power ∷ []; running = None; waiting = [] } else whole_history w h)
      pick true = ap idle_with (one_behind items.Power)
      pick false = refl

  lost_in_away : (more : ℕ) (r : Option OpenEntry) → IsPutAway w plans (lost_power_in h more r)
  lost_in_away more (Some o) = away_more w plans h away (lost_power_in h more (Some o)) (entry_of o (Cut (length o.ends + more)) ∷ items.Power ∷ []) refl
  lost_in_away more None = pick (is_started false h.items)
    where
      pick : (u : Bool) → IsPutAway w plans (if u then record { items = h.items ++ items.Power ∷ []; running = None; waiting = [] } else h)
      pick true = away_more w plans h away (record { items = h.items ++ items.Power ∷ []; running = None; waiting = [] }) (items.Power ∷ []) refl
      pick false = away

  pub power_whole : (more : ℕ) → whole_history w (lost_power h more) ≡ lost_power (whole_history w h) more
  power_whole more = lost_in_whole more h.running (is_started false h.items) refl (started_whole w plans h away)

  pub power_away : (more : ℕ) → IsPutAway w plans (lost_power h more)
  power_away more = lost_in_away more h.running
