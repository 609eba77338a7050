-- A journal only grows, and a new volume comes to it by the order alone that gives it back.
use Rattle.std.proofs.Common.{
  ◌≡◌,
  ◌==◌,
  ◌+◌,
  ℕ,
  Bool,
  true,
  false,
  List,
  [],
  ◌∷◌,
  ◌++◌,
  length,
  Option,
  Some,
  None,
  refl,
  sym,
  ap,
  ◌∙◌,
  append_assoc,
  ◌⊎◌,
  inl,
  inr,
}
use Rattle.std.specs.Prelude.{if◌then◌else◌}
use Rattle.std.proofs.lemmas.List.{append-nil}
use Rattle.ckd_types.specs.declared.channel.CommandEnd.{CommandEnd}
use Rattle.plain_defs.specs.declared.journal.Act.{Act}
use Rattle.plain_defs.specs.declared.journal.How.{How}
use Rattle.plain_defs.specs.declared.journal.How.TheVariants.{Full, Cut, Checked}
use Rattle.plain_defs.specs.declared.journal.Item.{Item}
use Rattle.plain_defs.specs.declared.journal.Item.TheVariants as items
use Rattle.plain_defs.specs.History.{
  OpenEntry,
  History,
  entry_of,
  resets_of,
  put,
  started,
  closed,
  with_end,
  ended,
  ended_in,
  checked,
  checked_in,
  cut_by,
  reset_in,
  acted,
  acted_in,
  lost_power_in,
}
use Rattle.plain_defs.specs.Legal.{is_used, is_started}
use Rattle.device_defs.specs.Cutting.{counts_one_by}
use Rattle.device_defs.specs.Device.{all_acted}
use Rattle.device_defs.specs.Marks.{MarksDevice}
use Rattle.device_defs.specs.Pledge.{is_fresh, fresh_count}
use Rattle.device_defs.specs.Start.{next_ordinal}
use Rattle.device_laws.proofs.KeptHistories.{AreNot, count_more}
use Rattle.subsystem_defs.specs.declared.end.EventEnd.{EventEnd}
use Rattle.subsystem_defs.specs.Lines.{Asked}
use Rattle.promise_laws.specs.Origins.{
  Brings,
  nothing,
  acts_alone,
  start_of_program,
  end_of_command,
  check_of_command,
  reset_of_path,
  loss_of_power,
  new_volume,
  IsGivenBack,
}

-- items came behind the others, and no new volume among them
record Adds (h k : History) : Type 0 where
  more : List Item
  grown : k.items ≡ h.items ++ more
  bare : AreNot is_fresh more

adds_none : (h k : History) → k.items ≡ h.items → Adds h k
adds_none h k same = record { more = []; grown = same ∙ sym (append-nil h.items); bare = tt }

adds_some : (h k : History) (more : List Item) → k.items ≡ h.items ++ more → AreNot is_fresh more → Adds h k
adds_some h k more grown bare = record { more = more; grown = grown; bare = bare }

not_both : (xs ys : List Item) → AreNot is_fresh xs → AreNot is_fresh ys → AreNot is_fresh (xs ++ ys)
not_both [] ys f g = g
not_both (x ∷ xs) ys f g = (f.0, not_both xs ys f.1 g)

adds_on : (h k l : History) → Adds h k → Adds k l → Adds h l
adds_on h k l f g = record {
  more = f.more ++ g.more;
  grown = g.grown ∙ ap (λ (xs : List Item). xs ++ g.more) f.grown ∙ append_assoc h.items f.more g.more;
  bare = not_both f.more g.more f.bare g.bare;
}

adds_if : (h : History) (b : Bool) (x y : History) → Adds h x → Adds h y → Adds h (if b then x else y)
adds_if h true x y f g = f
adds_if h false x y f g = g

resets_bare : (paths : List ℕ) → AreNot is_fresh (resets_of paths)
resets_bare [] = tt
resets_bare (path ∷ paths) = (refl, resets_bare paths)

-- What each origin adds

act_adds : (h : History) (act : Act) (r : Option OpenEntry) → Adds h (acted_in h act r)
act_adds h act (Some o) = adds_none h (acted_in h act (Some o)) refl
act_adds h act None = adds_some h (acted_in h act None) (items.Act act ∷ []) refl (refl, tt)

acts_add : (acts : List Act) (h : History) → Adds h (all_acted h acts)
acts_add [] h = adds_none h h refl
acts_add (act ∷ acts) h = adds_on h (acted h act) (all_acted (acted h act) acts) (act_adds h act h.running) (acts_add acts (acted h act))

closed_adds : (h : History) (o : OpenEntry) (how : How) → Adds h (closed h o how)
closed_adds h o how = adds_some h (closed h o how) (entry_of o how ∷ resets_of h.waiting) refl (refl, resets_bare h.waiting)

ended_by : (h : History) (e : CommandEnd) (r : Option OpenEntry) → Adds h (ended_in h e r)
ended_by h e (Some o) =
    let k : History = record h { running = Some (with_end o e) } in
    adds_if h e.over (closed h (with_end o e) Full) k (closed_adds h (with_end o e) Full) (adds_none h k refl)
ended_by h e None = adds_none h h refl

checked_by : (h : History) (e : CommandEnd) (r : Option OpenEntry) → Adds h (checked_in h e r)
checked_by h e (Some o) = closed_adds h (with_end o e) Checked
checked_by h e None = adds_none h h refl

reset_by : (h : History) (path more : ℕ) (r : Option OpenEntry) → Adds h (reset_in h path more r)
reset_by h path more (Some o) =
    let waits : History = record h { waiting = put path h.waiting } in
    adds_if h (o.path == path) (cut_by h o more) (if is_used path false h.items then waits else h)
    (adds_some h (cut_by h o more) (entry_of o (Cut (length o.ends + more)) ∷ items.Reset o.path ∷ resets_of h.waiting) refl
    (refl, (refl, resets_bare h.waiting)))
    (adds_if h (is_used path false h.items) waits h (adds_none h waits refl) (adds_none h h refl))
reset_by h path more None =
    let k : History = record h { items = h.items ++ items.Reset path ∷ [] } in
    adds_if h (is_used path false h.items) k h (adds_some h k (items.Reset path ∷ []) refl (refl, tt)) (adds_none h h refl)

power_by : (h : History) (more : ℕ) (r : Option OpenEntry) → Adds h (lost_power_in h more r)
power_by h more (Some o) =
    adds_some h (lost_power_in h more (Some o)) (entry_of o (Cut (length o.ends + more)) ∷ items.Power ∷ []) refl (refl, (refl, tt))
power_by h more None =
    let k : History = record { items = h.items ++ items.Power ∷ []; running = None; waiting = [] } in
    adds_if h (is_started false h.items) k h (adds_some h k (items.Power ∷ []) refl (refl, tt)) (adds_none h h refl)

module _ (asked : Asked) (end : EventEnd) (d : MarksDevice) where
  adds_or_given : (k : History) → Brings asked end d k → Adds d.history k ⊎ IsGivenBack asked end d k
  adds_or_given _ nothing = inl (adds_none d.history d.history refl)
  adds_or_given _ (acts_alone e by acts may) = inl (acts_add acts d.history)
  adds_or_given _ (start_of_program path by) =
      inl (adds_none d.history (started d.history path (next_ordinal d path)) refl)
  adds_or_given _ (end_of_command e by ends acts may c) =
      let h = all_acted d.history acts in inl (adds_on d.history h (ended h c) (acts_add acts d.history) (ended_by h c h.running))
  adds_or_given _ (check_of_command e by ends acts may c) =
      let h = all_acted d.history acts in inl (adds_on d.history h (checked h c) (acts_add acts d.history) (checked_by h c h.running))
  adds_or_given _ (reset_of_path path by) = inl (reset_by d.history path (counts_one_by d.store.half) d.history.running)
  adds_or_given _ (loss_of_power by) = inl (power_by d.history (counts_one_by d.store.half) d.history.running)
  adds_or_given _ (new_volume a order goes lent) = inr (record { pair = a; order = order; goes = goes; lent = lent; is = refl })

  given_by : (k : History) → Adds d.history k ⊎ IsGivenBack asked end d k → (fresh_count k.items ≡ fresh_count d.history.items) ⊎ IsGivenBack asked end d k
  given_by k (inl f) = inl (ap fresh_count f.grown ∙ count_more is_fresh d.history.items f.more f.bare)
  given_by k (inr f) = inr f

  pub fresh_given_back : (k : History) → Brings asked end d k → (fresh_count k.items ≡ fresh_count d.history.items) ⊎ IsGivenBack asked end d k
  fresh_given_back k f = given_by k (adds_or_given k f)

  grown_by : (k : History) → Adds d.history k ⊎ IsGivenBack asked end d k → (more : List Item) × (k.items ≡ d.history.items ++ more)
  grown_by k (inl f) = (f.more, f.grown)
  grown_by k (inr f) = (items.Fresh ∷ [], ap (λ (h : History). h.items) f.is)

  pub journal_grows : (k : History) → Brings asked end d k → (more : List Item) × (k.items ≡ d.history.items ++ more)
  journal_grows k f = grown_by k (adds_or_given k f)
