-- A device's history behind a reset and behind a loss of power, whatever is answered.
use Rattle.std.proofs.Common.{◌≡◌, ◌==◌, ℕ, [], ◌∷◌, ◌++◌, Option, Some, None, Bool, false, cond, refl, sym, ap, subst, ◌∙◌}
use Rattle.std.specs.Prelude.{◌||◌, ⊤, if◌then◌else◌}
use Rattle.std.proofs.lemmas.Bool.{cond_both}
use Rattle.plain_defs.specs.declared.journal.Item.TheVariants as items
use Rattle.plain_defs.specs.History.{OpenEntry, History, is_path_of, has_used, cut_by, put, reset_in_history as history_reset, reset_in, lost_power, IsPlain}
use Rattle.plain_defs.specs.Journal.{Plans, replay}
use Rattle.plain_defs.specs.Legal.{is_used}
use Rattle.plain_defs.specs.PlainState.{PlainState, reset_path}
use Rattle.device_outside.specs.Interaction.{Interaction, Done, Try, Ask, Read, Write, Tell}
use Rattle.device_defs.specs.Contents.{Contents}
use Rattle.device_defs.specs.Cutting as K
use Rattle.device_defs.specs.Cutting.{counts_one_by, half_cut, reset_noted, path_cut, reset_by}
use Rattle.device_defs.specs.Device.{Device, event_begun}
use Rattle.device_defs.specs.Orders.{restore}
use Rattle.device_defs.specs.Owed.{waiting_count, noted_end}
use Rattle.device_laws.proofs.Always as A
use Rattle.device_laws.proofs.Always.{Behind, Always, always_done, always_then, always_weaker}
use Rattle.device_laws.proofs.DueResets.{reset_due, lost_power_due, emptied_due}
use Rattle.device_laws.proofs.HistoryCuts.{MayTake, running_reset_plain, idle_reset_plain, power_cut_plain, idle_power_plain, emptied_plain}
use Rattle.device_laws.proofs.WaitingResets.{AreDue}

behind_any : {R I S A : Type 0} (i : Interaction R I S A) → Behind i (λ s a. ⊤)
unfolding A.Behind
behind_any (Done s a) = tt
behind_any (Try k) = λ ok. behind_any (k ok)
behind_any (Ask call k) = λ a. behind_any (k a)
behind_any (Read side t k) = λ got. behind_any (k got)
behind_any (Write side t r k) = λ ok. behind_any (k ok)
behind_any (Tell m k) = λ r. behind_any (k r)

pub always_any : {R I S A : Type 0} (i : Interaction R I S A) → Always i (λ s a. ⊤)
always_any i = record { holds = behind_any i }

module _ {F P H : Type 0} where
  -- the same plans, and such a history
  pub record HasHistory (d : Device F P H) (h : History) (y : Device F P H) : Type 0 where
    pub plans : y.plans ≡ d.plans
    pub history : y.history ≡ h

  -- one that a plain device could have, with its resets that wait
  pub record StandsPlainly (empty : PlainState) (y : Device F P H) : Type 0 where
    pub plain : IsPlain y.plans empty y.history
    pub due : AreDue y.history

  pub stands_by : (empty : PlainState) (d : Device F P H) (h : History) (y : Device F P H) → HasHistory d h y
      → IsPlain d.plans empty h → AreDue h → StandsPlainly empty y
  stands_by empty d h y has plain due = record {
    plain = rw has.history (subst (λ (p : Plans). IsPlain p empty h) (sym has.plans) plain);
    due = subst (λ (k : History). AreDue k) (sym has.history) due;
  }

  -- an order that gives it an empty volume, while nothing runs
  pub restore_stands : (empty : PlainState) (d : Device F P H) → StandsPlainly empty d → d.history.running ≡ None
      → StandsPlainly empty (restore d)
  restore_stands empty d stands none = record {
    plain = emptied_plain d.plans empty d.history stands.plain none;
    due = emptied_due d.history stands.due none;
  }

-- what a reset doesn't cut comes to the same, whatever it counts
other_same : (h : History) (o : OpenEntry) → h.running ≡ Some o → (path : ℕ) → (o.path == path) ≡ false → (m n : ℕ)
    → history_reset h path m ≡ history_reset h path n
other_same h o running path other m n =
    ap (λ (r : Option OpenEntry). reset_in h path m r) running ∙ waits m ∙ sym (waits n)
    ∙ sym (ap (λ (r : Option OpenEntry). reset_in h path n r) running) where
      waits : (k : ℕ) → reset_in h path k (Some o) ≡ (if is_used path false h.items then record h { waiting = put path h.waiting } else h)
      waits k = ap (λ (b : Bool). cond b (cut_by h o k) (if is_used path false h.items then record h { waiting = put path h.waiting } else h)) other

idle_same : (h : History) → h.running ≡ None → (path m n : ℕ) → history_reset h path m ≡ history_reset h path n
idle_same h stands path m n =
    ap (λ (r : Option OpenEntry). reset_in h path m r) stands ∙ sym (ap (λ (r : Option OpenEntry). reset_in h path n r) stands)

unused_same : (h : History) → h.running ≡ None → (path n : ℕ) → has_used h path ≡ false → h ≡ history_reset h path n
unused_same h stands path n unused = sym (
    ap (λ (r : Option OpenEntry). reset_in h path n r) stands
    ∙ ap (λ (b : Bool). cond b (record h { items = h.items ++ items.Reset path ∷ [] }) h)
    (sym (ap (λ (r : Option OpenEntry). is_path_of r path || is_used path false h.items) stands) ∙ unused)
    )

module _ {F P H R : Type 0} (c : Contents F P H R) where
  module _ (d : Device F P H) (path : ℕ) where
    abbrev behind : History
    behind = history_reset d.history path (counts_one_by d.store.half)

    by_running : (r : Option OpenEntry) → d.history.running ≡ r → Always (reset_by c d path r) (λ y _. HasHistory d behind y)
    by_running (Some o) running =
        cond_both (o.path == path) (path_cut c d path) (Done (reset_noted c d path 0) tt) (λ i. Always i (λ y _. HasHistory d behind y))
        (λ own. always_then (always_any (half_cut c d.store d.store.half)) (λ s _ _. always_done (record { plans = refl; history = refl })))
        (λ other. always_done (record {
          plans = refl;
          history = other_same d.history o running path other 0 (counts_one_by d.store.half);
        }))
    by_running None stands =
        cond_both (has_used d.history path) (Done (record (reset_noted c d path 0) { paths = reset_path d.paths path }) tt) (Done d tt)
        (λ i. Always i (λ y _. HasHistory d behind y))
        (λ used. always_done (record { plans = refl; history = idle_same d.history stands path 0 (counts_one_by d.store.half) }))
        (λ unused. always_done (record {
          plans = refl;
          history = unused_same d.history stands path (counts_one_by d.store.half) unused;
        }))

    -- a reset is one of the history. An open half write of the command at hand counts as done
    pub reset_tells : Always (K.reset c d path) (λ y _. HasHistory d behind y)
    unfolding K.reset
    reset_tells = by_running d.history.running refl

  -- so is a loss of power
  pub power_tells : (d : Device F P H) → Always (K.power c d) (λ y _. HasHistory d (lost_power d.history (counts_one_by d.store.half)) y)
  unfolding K.power
  power_tells d =
      always_then {p = λ y _. HasHistory d (lost_power d.history (counts_one_by d.store.half)) y}
      (always_then (always_any (half_cut c (event_begun d).store (event_begun d).store.half))
      (λ s _ _. always_done (record { plans = refl; history = refl })))
      (λ y a g. always_then (always_any (noted_end c (waiting_count c d.store) y.store))
      (λ z _ _. always_done (record { plans = g.plans; history = g.history })))

  module _ (empty : PlainState) (d : Device F P H) (stands : StandsPlainly empty d) where
    reset_keeps : (path : ℕ) (r : Option OpenEntry) → d.history.running ≡ r
        → ((o : OpenEntry) → d.history.running ≡ Some o
        → MayTake d.plans (replay d.plans empty d.history.items) o (counts_one_by d.store.half))
        → IsPlain d.plans empty (history_reset d.history path (counts_one_by d.store.half))
    reset_keeps path None none may = idle_reset_plain d.plans empty d.history stands.plain none path (counts_one_by d.store.half)
    reset_keeps path (Some o) running may = running_reset_plain d.plans empty d.history stands.plain stands.due o running path
        (counts_one_by d.store.half) (λ own. may o running)

    -- a reset keeps a device's history plain, where the edit of an open half write is one that its command may make
    pub reset_stands : (path : ℕ) → ((o : OpenEntry) → d.history.running ≡ Some o
        → MayTake d.plans (replay d.plans empty d.history.items) o (counts_one_by d.store.half))
        → Always (K.reset c d path) (λ y _. StandsPlainly empty y)
    reset_stands path may = always_weaker (reset_tells d path)
        (λ y _ has. stands_by empty d (history_reset d.history path (counts_one_by d.store.half)) y has
        (reset_keeps path d.history.running refl may) (reset_due d.history stands.due path (counts_one_by d.store.half)))

    power_keeps : (r : Option OpenEntry) → d.history.running ≡ r
        → ((o : OpenEntry) → d.history.running ≡ Some o
        → MayTake d.plans (replay d.plans empty d.history.items) o (counts_one_by d.store.half))
        → IsPlain d.plans empty (lost_power d.history (counts_one_by d.store.half))
    power_keeps None none may = idle_power_plain d.plans empty d.history stands.plain none (counts_one_by d.store.half)
    power_keeps (Some o) running may = power_cut_plain d.plans empty d.history stands.plain o running (counts_one_by d.store.half)
        (may o running)

    -- and so does a loss of power
    pub power_stands : ((o : OpenEntry) → d.history.running ≡ Some o
        → MayTake d.plans (replay d.plans empty d.history.items) o (counts_one_by d.store.half))
        → Always (K.power c d) (λ y _. StandsPlainly empty y)
    power_stands may = always_weaker (power_tells d)
        (λ y _ has. stands_by empty d (lost_power d.history (counts_one_by d.store.half)) y has
        (power_keeps d.history.running refl may) (lost_power_due d.history stands.due (counts_one_by d.store.half)))
