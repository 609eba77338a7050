-- What is told of devices to which only acts came, or nothing, or an empty volume.
use Rattle.std.proofs.Common.{arith, ◌≡◌, ◌⊎◌, ◌++◌, ℕ, true, false, List, [], ◌∷◌, map, Option, Some, None, refl, sym, ap, ◌∙◌, append_assoc, inl}
use Rattle.std.proofs.lemmas.List.{append-nil, map-append}
use Rattle.plain_defs.specs.declared.journal.Act.{Act}
use Rattle.plain_defs.specs.declared.journal.Act.TheVariants.{CfwLost}
use Rattle.plain_defs.specs.declared.journal.Item.{Item}
use Rattle.plain_defs.specs.declared.journal.Item.TheVariants as items
use Rattle.plain_defs.specs.History.{History, OpenEntry, acted, acted_in, emptied}
use Rattle.device_defs.specs.Device.{all_acted}
use Rattle.device_defs.specs.Marks.{MarksDevice, MarksStore}
use Rattle.report_text.specs.declared.line.ReportLine.{ReportLine}
use Rattle.report_text.specs.Events.{loosed_line}
use Rattle.run_report.specs.Beside.{loose_lines, loosed, of_each, over_lines, over_of}
use Rattle.run_report.proofs.ActsCome.{acts_both, acts_come}
use Rattle.run_report.proofs.OneDevice.{none_behind}
use Rattle.run_report.proofs.Quiet.{behind_more}
use Rattle.subsystem_defs.specs.Beside.{acts_in, has_power, new_items, told_act}
use Rattle.audit_laws.specs.Steps.{NoLoss, act_line}
use Rattle.audit_laws.proofs.own.Quiet.{none_loose}

-- Acts

-- only they are new
record AreActItems (h k : History) : Type 0 where
  acts : List Act
  are : k.items ≡ h.items ++ map (λ (a : Act). items.Act a) acts

one_item : (h : History) (act : Act) (r : Option OpenEntry) → AreActItems h (acted_in h act r)
one_item h act (Some o) = record { acts = []; are = sym (append-nil h.items) }
one_item h act None = record { acts = act ∷ []; are = refl }

act_items : (acts : List Act) (h : History) → AreActItems h (all_acted h acts)
act_items [] h = record { acts = []; are = sym (append-nil h.items) }
act_items (act ∷ acts) h =
    let one = one_item h act h.running in
    let more = act_items acts (acted h act) in
    record {
      acts = one.acts ++ more.acts;
      are = more.are
          ∙ ap (λ (l : List Item). l ++ map (λ (a : Act). items.Act a) more.acts) one.are
          ∙ append_assoc h.items (map (λ (a : Act). items.Act a) one.acts) (map (λ (a : Act). items.Act a) more.acts)
          ∙ ap (λ (l : List Item). h.items ++ l) (sym (map-append (λ (a : Act). items.Act a) one.acts more.acts));
    }

no_over : (n : ℕ) (acts : List Act) → over_of n (map (λ (a : Act). items.Act a) acts) ≡ None
no_over n [] = refl
no_over n (a ∷ acts) = refl

acts_no_power : (acts : List Act) → has_power (map (λ (act : Act). items.Act act) acts) ≡ false
acts_no_power [] = refl
acts_no_power (act ∷ acts) = acts_no_power acts

pub told_acts : (n : ℕ) (s z : MarksStore) (acts : List Act) → NoLoss acts →
    map loosed_line (map (loosed n) (map (told_act s z) acts)) ≡ map (act_line n) acts
told_acts n s z [] none = refl
told_acts n s z (CfwLost ∷ acts) none = absurd (let is : true ≡ false = none.0 in cc)
told_acts n s z (act ∷ acts) none = ap (λ (l : List ReportLine). act_line n act ∷ l) (told_acts n s z acts none.1)

module _ (x y : MarksDevice) (acts : List Act) (is : y.history ≡ all_acted x.history acts) where
  abbrev n : ℕ
  n = x.store.device

  items_are : new_items x.history y.history ≡ map (λ (a : Act). items.Act a) (act_items acts x.history).acts
  items_are = grind (arith, act_items, behind_more)

  pub acts_over : over_lines x y ≡ []
  acts_over = grind (arith, items_are, no_over, act_items)

  -- each act is told
  pub acts_told : loose_lines x y ≡ map loosed_line (map (loosed x.store.device) (map (told_act x.store y.store) acts))
  acts_told = grind (arith, items_are, acts_no_power, act_items, acts_come, append-nil)

  pub acts_lines : NoLoss acts → loose_lines x y ≡ map (act_line x.store.device) acts
  acts_lines none = acts_told ∙ told_acts x.store.device x.store y.store acts none

-- Devices to which nothing came, or an empty volume

abbrev pub Silent : History → History → Type 0
Silent h k = (k ≡ h) ⊎ (k ≡ emptied h)

silent_items : (h k : History) → Silent h k → (xs : List Item) × (new_items h k ≡ xs) × (has_power xs ≡ false) × ((n : ℕ) → over_of n xs ≡ None)
    × (acts_in k ≡ acts_in h)
silent_items h k x3 = grind (arith, none_behind, behind_more, acts_both, append-nil)

silent_loose : (x y : MarksDevice) → Silent x.history y.history → loose_lines x y ≡ []
silent_loose x y so = let s = silent_items x.history y.history so in none_loose x y s.0 s.1 s.2 s.4

silent_over : (x y : MarksDevice) → Silent x.history y.history → over_lines x y ≡ []
silent_over x y so = grind (arith, silent_items x.history y.history so)

abbrev pub history_of : MarksDevice → History
history_of d = d.history

abbrev pub AllSilent : List History → List History → Type 0
AllSilent [] [] = Unit {0}
AllSilent (h ∷ hs) (k ∷ ks) = Silent h k × AllSilent hs ks
AllSilent _ _ = ⊥

pub all_same : (hs : List History) → AllSilent hs hs
all_same [] = tt
all_same (h ∷ hs) = (inl refl, all_same hs)

pub nothing_loose : (xs ys : List MarksDevice) → AllSilent (map history_of xs) (map history_of ys) → of_each loose_lines xs ys ≡ []
nothing_loose (x ∷ xs) (y ∷ ys) so = grind (arith, nothing_loose xs ys so.1, silent_loose)
nothing_loose xs ys so = refl

pub nothing_over : (xs ys : List MarksDevice) → AllSilent (map history_of xs) (map history_of ys) → of_each over_lines xs ys ≡ []
nothing_over (x ∷ xs) (y ∷ ys) so = grind (arith, nothing_over xs ys so.1, silent_over)
nothing_over xs ys so = refl
