-- Resets, losses of power and the order that lends a device add items of a few kinds alone to its journal.
use Rattle.std.proofs.Common.{◌≡◌, ◌==◌, ℕ, Bool, true, false, List, [], ◌∷◌, ◌++◌, Option, Some, None, length, refl, ◌∙◌}
use Rattle.std.specs.Prelude.{count_by, ◌+◌, if◌then◌else◌}
use Rattle.plain_defs.specs.declared.journal.How.TheVariants.{Cut}
use Rattle.plain_defs.specs.declared.journal.Item.{Item}
use Rattle.plain_defs.specs.declared.journal.Item.TheVariants as items
use Rattle.plain_defs.specs.History.{OpenEntry, History, entry_of, resets_of, put, cut_by, reset_in, lost_power_in, has_used}
use Rattle.plain_defs.specs.Legal.{is_used}
use Rattle.plain_defs.specs.Legal.{is_started}
use Rattle.device_defs.specs.Contents.{by_plain}
use Rattle.device_defs.specs.Cutting as U
use Rattle.device_defs.specs.Cutting.{half_cut, counts_one_by, path_cut, reset_noted, reset_by, reset, powered_off, power}
use Rattle.device_defs.specs.Device.{event_begun, quiet_event}
use Rattle.device_defs.specs.Losses.{over}
use Rattle.device_defs.specs.Store.{tracks_of}
use Rattle.track_image.specs.Image.{Image}
use Rattle.device_outside.specs.Interaction.{Interaction, Done, and_then}
use Rattle.device_defs.specs.Marks.{MarksDevice}
use Rattle.device_defs.specs.Orders as O
use Rattle.device_defs.specs.Orders.{with_tracks, lent_to, given_up, lend}
use Rattle.device_defs.specs.Owed.{waiting_count, noted_end}
use Rattle.device_laws.proofs.Always.{Always, always_done, always_then}
use Rattle.device_laws.proofs.KeptEvents.{always_any, always_if}
use Rattle.device_laws.proofs.KeptHistories.{AreNot, count_more}

-- of items that are no cut program, no reset and no loss of power
module _ (p : Item → Bool) (cut_not : (o : OpenEntry) (k : ℕ) → p (entry_of o (Cut k)) ≡ false) (reset_not : (path : ℕ) → p (items.Reset path) ≡ false)
    (power_not : p items.Power ≡ false) where
  abbrev counts : History → ℕ
  counts h = count_by p h.items

  resets_none : (paths : List ℕ) → AreNot p (resets_of paths)
  resets_none [] = tt
  resets_none (path ∷ paths) = (reset_not path, resets_none paths)

  if_same : (b : Bool) (x y : History) (n : ℕ) → counts x ≡ n → counts y ≡ n → counts (if b then x else y) ≡ n
  if_same true x y n e f = e
  if_same false x y n e f = f

  reset_past : (h : History) (path more : ℕ) (r : Option OpenEntry) → counts (reset_in h path more r) ≡ counts h
  reset_past h path more (Some o) =
      if_same (o.path == path) (cut_by h o more) (if is_used path false h.items then record h { waiting = put path h.waiting } else h) (counts h)
      (count_more p h.items (entry_of o (Cut (length o.ends + more)) ∷ items.Reset o.path ∷ resets_of h.waiting)
      (cut_not o (length o.ends + more), (reset_not o.path, resets_none h.waiting)))
      (if_same (is_used path false h.items) (record h { waiting = put path h.waiting }) h (counts h) refl refl)
  reset_past h path more None =
      if_same (is_used path false h.items) (record h { items = h.items ++ items.Reset path ∷ [] }) h (counts h)
      (count_more p h.items (items.Reset path ∷ []) (reset_not path, tt)) refl

  power_past : (h : History) (more : ℕ) (r : Option OpenEntry) → counts (lost_power_in h more r) ≡ counts h
  power_past h more (Some o) =
      count_more p h.items (entry_of o (Cut (length o.ends + more)) ∷ items.Power ∷ []) (cut_not o (length o.ends + more), (power_not, tt))
  power_past h more None =
      if_same (is_started false h.items) (record { items = h.items ++ items.Power ∷ []; running = None; waiting = [] }) h (counts h)
      (count_more p h.items (items.Power ∷ []) (power_not, tt)) refl

  module _ (n : ℕ) where
    reset_counts_by : (d : MarksDevice) (path : ℕ) (r : Option OpenEntry) → counts d.history ≡ n →
        Always (reset_by by_plain d path r) (λ y _. counts y.history ≡ n)
    reset_counts_by d path (Some o) p =
        always_if (o.path == path)
        (always_then (always_any (half_cut by_plain d.store d.store.half))
        (λ s _ _. always_done (reset_past d.history path (counts_one_by d.store.half) d.history.running ∙ p)))
        (always_done (reset_past d.history path 0 d.history.running ∙ p))
    reset_counts_by d path None p =
        always_if (has_used d.history path) (always_done (reset_past d.history path 0 d.history.running ∙ p)) (always_done p)

    pub reset_counts : (d : MarksDevice) (path : ℕ) → counts d.history ≡ n → Always (reset by_plain d path) (λ y _. counts y.history ≡ n)
    unfolding U.reset
    reset_counts d path p = reset_counts_by d path d.history.running p

    quiet_counts : {A : Type 0} (d : MarksDevice) (body : MarksDevice → Interaction Bool Image MarksDevice A) →
        Always (body (event_begun d)) (λ y _. counts y.history ≡ n) → Always (quiet_event by_plain d body) (λ y _. counts y.history ≡ n)
    quiet_counts d body does =
        always_then does (λ y a g. always_then (always_any (noted_end by_plain (waiting_count by_plain d.store) y.store)) (λ z _ _. always_done g))

    pub power_counts : (d : MarksDevice) → counts d.history ≡ n → Always (power by_plain d) (λ y _. counts y.history ≡ n)
    unfolding U.power
    power_counts d p =
        quiet_counts d (λ z. and_then (half_cut by_plain z.store z.store.half) (λ s _. Done (powered_off by_plain z s) tt))
        (always_then (always_any (half_cut by_plain (event_begun d).store (event_begun d).store.half))
        (λ s _ _. always_done (power_past d.history (counts_one_by d.store.half) d.history.running ∙ p)))

    pub lend_counts : (d : MarksDevice) (to : ℕ) → counts d.history ≡ n → Always (lend by_plain d to) (λ y _. counts y.history ≡ n)
    unfolding O.lend
    lend_counts d to p =
        quiet_counts d (λ z. Done (with_tracks z (lent_to (over (tracks_of z.store) (given_up by_plain) z.store) to)) tt) (always_done p)
