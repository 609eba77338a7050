-- Acts that come to a device's past.
use Rattle.std.proofs.Common.{
  ◌≡◌,
  ◌∙◌,
  ◌+◌,
  ◌<◌,
  ◌≤◌,
  ℕ,
  suc,
  Bool,
  true,
  false,
  List,
  [],
  ◌∷◌,
  ◌++◌,
  length,
  drop,
  get_or,
  Option,
  Some,
  None,
  refl,
  sym,
  ap,
  subst,
  arith,
}
use Rattle.std.specs.Prelude.{IfSome, IsSome, is_some, option_map, if◌then◌else◌}
use Rattle.std.proofs.lemmas.List.{drop_more}
use Rattle.plain_defs.specs.declared.journal.Act.{Act}
use Rattle.plain_defs.specs.declared.journal.Item.{Item}
use Rattle.plain_defs.specs.declared.journal.Item.TheVariants as items
use Rattle.plain_defs.specs.History.{History, OpenEntry, acted, acted_in, emptied}
use Rattle.device_defs.specs.Device.{all_acted}
use Rattle.device_core.specs.Log.{LogView}
use Rattle.device_core.specs.declared.history.KeptPath.{KeptPath}
use Rattle.device_core.specs.declared.history.Past.{Past}
use Rattle.device_core.specs.declared.history.Running.{Running}
use Rattle.device_core.specs.Kept.{open_of, history_of, waiting_in, needed, used_count, ActRoom, HasRoomFor, Keeps, KeepsAll}
use Rattle.device_core.proofs.Keeping.{act_keeps, idle_act_keeps, other_keeps}
use Rattle.device_core.proofs.Pasts.{keeps_as, some_open}

abbrev made : List Item → Option OpenEntry → List ℕ → History
made l o w = record { items = l; running = o; waiting = w }

pub there : (x : Option Running) → is_some x ≡ true → IsSome x
there None e = absurd cc
there (Some r) e = refl

none_open : (x : Option Running) → is_some x ≡ false → option_map open_of x ≡ None
none_open None e = refl
none_open (Some r) e = absurd cc

-- the program that runs got one act more
module _ (p : Past) (y : Option Running) (act : Act) (is : IsSome p.running)
    (same : (o : OpenEntry) → option_map open_of p.running ≡ Some o → option_map open_of y
    ≡ Some (record o { acts = o.acts ++ record { after = length o.ends; act = act } ∷ [] })) where
  pub history_act : history_of (record p { running = y }) ≡ acted (history_of p) act
  history_act =
      let it = some_open p.running is in
      ap (λ (x : Option OpenEntry). made p.items.items x (waiting_in p.kept)) (same it.0 it.1)
      ∙ ap (acted_in (history_of p) act) (sym it.1)

  pub keeps_act : Keeps p → Keeps (record p { running = y })
  keeps_act k =
      let it = some_open p.running is in
      subst (λ (x : Option OpenEntry). KeepsAll (made p.items.items x (waiting_in p.kept)) p.kept p.powered p.items.spare) (sym (same it.0 it.1))
      (act_keeps (history_of p) p.kept p.powered p.items.spare k it.0 it.1 _)

-- no program runs
module _ (p z : Past) (act : Act) (idle : is_some p.running ≡ false) (items_z : z.items.items ≡ p.items.items ++ items.Act act ∷ [])
    (running_z : z.running ≡ p.running) (kept_z : z.kept ≡ p.kept) where
  pub history_item : history_of z ≡ acted (history_of p) act
  history_item =
      ap (λ (l : List Item). made l (option_map open_of z.running) (waiting_in z.kept)) items_z
      ∙ ap (λ (r : Option Running). made (p.items.items ++ items.Act act ∷ []) (option_map open_of r) (waiting_in z.kept)) running_z
      ∙ ap (λ ks. made (p.items.items ++ items.Act act ∷ []) (option_map open_of p.running) (waiting_in ks)) kept_z
      ∙ ap (acted_in (history_of p) act) (sym (none_open p.running idle))

  pub keeps_item : Keeps p → z.items.spare ≡ p.items.spare → z.powered ≡ p.powered → Keeps z
  keeps_item k spare_z powered_z =
      let none = none_open p.running idle in
      subst (λ (n : ℕ). KeepsAll (history_of z) z.kept z.powered n) (sym spare_z)
      (subst (λ (b : Bool). KeepsAll (history_of z) z.kept b p.items.spare) (sym powered_z)
      (subst (λ ks. KeepsAll (history_of z) ks p.powered p.items.spare) (sym kept_z)
      (subst (λ (h : History). KeepsAll h p.kept p.powered p.items.spare) (sym (history_item ∙ ap (acted_in (history_of p) act) none))
      (idle_act_keeps (history_of p) p.kept p.powered p.items.spare k none act))))

-- one act more of those that are left
pub acts_on : (h : History) (acts : List Act) (k : ℕ) (act : Act) → k < length acts → act ≡ get_or acts k act →
    all_acted (acted h act) (drop (k + 1) acts) ≡ all_acted h (drop k acts)
acts_on h acts k act lt is = ap (λ x. all_acted (acted h x) (drop (k + 1) acts)) is ∙ sym (ap (all_acted h) (drop_more acts k act lt))

pub used_most : (ks : List KeptPath) → used_count ks ≤ length ks
used_most [] = omega arith
used_most (k ∷ ks) = one_more k.used (used_count ks) (length ks) (used_most ks) where
  one_more : (b : Bool) (m n : ℕ) → m ≤ n → (if b then 1 else 0) + m ≤ suc n
  one_more true m n le = omega (arith, le)
  one_more false m n le = omega (arith, le)

needed_most : (o : Option OpenEntry) (kept : List KeptPath) (powered : Bool) → length kept ≡ 4 → needed o kept powered ≤ 7
needed_most (Some o) kept powered four = omega arith
needed_most None kept powered four = let most = used_most kept in let one = at_most powered in omega (arith, most, one, four) where
  at_most : (b : Bool) → (if b then 1 else 0) ≤ 1
  at_most true = omega arith
  at_most false = omega arith

-- there is room for all that may come before the next start
pub keeps_roomed : (h : History) (kept : List KeptPath) (powered : Bool) (less spare : ℕ) → 7 ≤ spare → KeepsAll h kept powered less
    → KeepsAll h kept powered spare
keeps_roomed h kept powered less spare le k = record {
  four = k.four;
  paths = k.paths;
  powered_is = k.powered_is;
  ends = k.ends;
  room = let most = needed_most h.running kept powered k.four in omega (arith, most, le);
}

-- the device was made empty, in room for that and for all that may come before the next start
module _ (p : Past) (q : LogView) (items_q : q.items ≡ p.items.items ++ items.Fresh ∷ []) where
  pub history_fresh : history_of (record p { items = q }) ≡ emptied (history_of p)
  history_fresh = ap (λ (l : List Item). made l (option_map open_of p.running) (waiting_in p.kept)) items_q

  pub keeps_fresh : Keeps p → q.spare + 1 ≡ p.items.spare → 8 ≤ p.items.spare → Keeps (record p { items = q })
  keeps_fresh k spare_q room =
      keeps_as (record p { items = q }) (emptied (history_of p)) p.kept p.powered history_fresh refl refl
      (keeps_roomed (emptied (history_of p)) p.kept p.powered p.items.spare q.spare (omega (arith, spare_q, room))
      (other_keeps (history_of p) p.kept p.powered p.items.spare k items.Fresh (λ i. refl) (λ i u. refl) (λ s. refl)))

pub less_room : (m n : ℕ) (p : Past) → m ≤ n → ActRoom n p → ActRoom m p
less_room m n p le room = (let a = room.0 in omega (arith, a, le), in_running p.running room.1) where
  in_running : (x : Option Running) → IfSome x (HasRoomFor n) → IfSome x (HasRoomFor m)
  in_running None r = tt
  in_running (Some r) has = (let a = has.0 in omega (arith, a, le), has.1)
