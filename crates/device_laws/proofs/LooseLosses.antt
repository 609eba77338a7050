-- Data of cache fast write are lost as often as the cache was, at most.
use Rattle.std.proofs.Common.{◌≡◌, ◌≤◌, ◌+◌, ◌==◌, ℕ, Bool, true, false, List, [], ◌∷◌, ◌++◌, Option, Some, None, length, refl, sym, ap, ◌∙◌, arith}
use Rattle.std.specs.Prelude.{if◌then◌else◌, count_by}
use Rattle.std.specs.List.{fold}
use Rattle.ckd_chain.specs.State.{ChainState}
use Rattle.ckd_types.specs.declared.channel.CommandEnd.{CommandEnd}
use Rattle.loss_model.specs.declared.Loss.{Loss}
use Rattle.loss_model.specs.declared.Loss.TheVariants as losses
use Rattle.plain_defs.specs.declared.journal.Act.{Act}
use Rattle.plain_defs.specs.declared.journal.Act.TheVariants.{CfwLost, Loosen, Harden}
use Rattle.plain_defs.specs.declared.journal.Acted.{Acted}
use Rattle.plain_defs.specs.declared.journal.How.{How}
use Rattle.plain_defs.specs.declared.journal.How.TheVariants.{Full, Checked, Cut}
use Rattle.plain_defs.specs.declared.journal.Item.{Item}
use Rattle.plain_defs.specs.declared.journal.Item.TheVariants as items
use Rattle.plain_defs.specs.History.{
  OpenEntry,
  History,
  acted,
  acted_in,
  checked_in,
  closed,
  cut_by,
  ended,
  ended_in,
  entry_of,
  has_used,
  lost_power_in,
  put,
  reset_in,
  resets_of,
  with_end,
}
use Rattle.plain_defs.specs.Legal.{is_used, is_started}
use Rattle.track_image.specs.Image.{Image}
use Rattle.device_outside.specs.Interaction.{Interaction, Done, and_then}
use Rattle.device_outside.specs.Pool.{Call}
use Rattle.device_defs.specs.declared.answers.Came.{Came}
use Rattle.device_defs.specs.declared.answers.Came.TheVariants.{Ends, Checks, HalfOpen}
use Rattle.device_defs.specs.Command.{is_loss, command}
use Rattle.device_defs.specs.Contents.{Contents}
use Rattle.device_defs.specs.Cutting as U
use Rattle.device_defs.specs.Cutting.{half_cut, counts_one_by, path_cut, reset_by, reset, powered_off, power}
use Rattle.device_defs.specs.Device.{Device, all_acted, with_store, event_begun, event}
use Rattle.device_defs.specs.Effects.{act_noted as store_acted, gone_back, loose_lost}
use Rattle.device_defs.specs.Events as E
use Rattle.device_defs.specs.Events.{with_loss, lost_by, losing, second_turn, command_ended, second_ended, second_of, second, background, lose}
use Rattle.device_defs.specs.Excused.{losses_of, loose_losses}
use Rattle.device_defs.specs.Losses as L
use Rattle.device_defs.specs.Losses.{over, without_frame, settled, cache_lost, all_firm_told}
use Rattle.device_defs.specs.Outcomes.{sense_kept, program_over, turned_by}
use Rattle.device_defs.specs.Owed.{noted_begin, waiting_count, noted_end as event_end}
use Rattle.device_defs.specs.Peek.{peek}
use Rattle.device_defs.specs.Store.{Store, tracks_of, has_loose}
use Rattle.device_laws.specs.Unharmed.{running_losses, all_losses}
use Rattle.device_laws.proofs.Always as A
use Rattle.device_laws.proofs.Always.{Behind, Always, always_done, always_try, always_then}
use Rattle.device_laws.proofs.Based.{Base, Based, based_done, based_try, based_ask, based_read, based_write, based_tell}
use Rattle.device_laws.proofs.invariants.CallCounts.{one_act, swept_base, store_base, side_base, hear_steady, firm_steady}
use Rattle.device_laws.proofs.KeptEvents.{always_any, always_if}
use Rattle.device_laws.proofs.walks.Within.{always, within_always}
use Rattle.device_laws.proofs.walks.Moves.{Kind, Shut, Half, Losing}
use Rattle.device_laws.proofs.walks.Shells.{IsOfShell, ends_shell}
use Rattle.device_laws.proofs.walks.Events.{
  IsCarried,
  made_carries,
  reaches_any,
  carries,
  command_leaves,
  second_leaves,
  background_leaves,
  peek_leaves,
}

-- Counts of acts and of items

abbrev pub loss_count : List Act → ℕ
loss_count acts = count_by is_loss acts

abbrev acts_from : ℕ → List Act → ℕ
acts_from n acts = fold (λ k act. k + (if is_loss act then 1 else 0)) n acts

abbrev acted_from : ℕ → List Acted → ℕ
acted_from n acts = fold (λ k a. k + (if is_loss a.act then 1 else 0)) n acts

acts_shift : (n : ℕ) (acts : List Act) → acts_from n acts ≡ n + acts_from 0 acts
acts_shift n [] = omega arith
acts_shift n (act ∷ acts) =
    let one : ℕ = if is_loss act then 1 else 0 in
    let a = acts_shift (n + one) acts in
    let b = acts_shift (0 + one) acts in
    omega (arith, a, b)

acted_more : (n : ℕ) (acts : List Acted) (a : Acted) → acted_from n (acts ++ a ∷ []) ≡ acted_from n acts + (if is_loss a.act then 1 else 0)
acted_more n [] a = refl
acted_more n (x ∷ acts) a = acted_more (n + (if is_loss x.act then 1 else 0)) acts a

loose_append : (xs ys : List Item) → loose_losses (xs ++ ys) ≡ loose_losses xs + loose_losses ys
loose_append [] ys = omega arith
loose_append (x ∷ xs) ys = let a = loose_append xs ys in omega (arith, a)

no_loose_resets : (paths : List ℕ) → loose_losses (resets_of paths) ≡ 0
no_loose_resets [] = refl
no_loose_resets (path ∷ paths) = let a = no_loose_resets paths in omega (arith, a)

-- What ends, checks, cuts and acts make of a history

abbrev all_of : History → Option OpenEntry → ℕ
all_of h r = loose_losses h.items + running_losses r

closed_losses : (h : History) (o : OpenEntry) (how : How) → all_losses (closed h o how) ≡ all_of h (Some o)
closed_losses h o how =
    let a = loose_append h.items (entry_of o how ∷ resets_of h.waiting) in
    let b = no_loose_resets h.waiting in
    omega (arith, a, b)

over_losses : (h : History) (o : OpenEntry) (b : Bool) → all_losses (if b then closed h o Full else record h { running = Some o }) ≡ all_of h (Some o)
over_losses h o true = closed_losses h o Full
over_losses h o false = refl

ended_losses : (h : History) (e : CommandEnd) (r : Option OpenEntry) → h.running ≡ r → all_losses (ended_in h e r) ≡ all_losses h
ended_losses h e (Some o) is = over_losses h (with_end o e) e.over ∙ ap (λ (r : Option OpenEntry). all_of h r) (sym is)
ended_losses h e None is = refl

checked_losses : (h : History) (e : CommandEnd) (r : Option OpenEntry) → h.running ≡ r → all_losses (checked_in h e r) ≡ all_losses h
checked_losses h e (Some o) is = closed_losses h (with_end o e) Checked ∙ ap (λ (r : Option OpenEntry). all_of h r) (sym is)
checked_losses h e None is = refl

act_losses : (h : History) (act : Act) (r : Option OpenEntry) → h.running ≡ r → all_losses (acted_in h act r) ≡ all_losses h + (if is_loss act then 1 else 0)
act_losses h act (Some o) is =
    let one : ℕ = if is_loss act then 1 else 0 in
    let a = acted_more 0 o.acts (record { after = length o.ends; act = act }) in
    let b : all_losses h ≡ all_of h (Some o) = ap (λ (r : Option OpenEntry). all_of h r) is in
    omega (arith, a, b)
act_losses h act None is =
    let one : ℕ = if is_loss act then 1 else 0 in
    let a = loose_append h.items (items.Act act ∷ []) in
    let b : all_losses h ≡ all_of h None = ap (λ (r : Option OpenEntry). all_of h r) is in
    let c : running_losses h.running ≡ 0 = ap running_losses is in
    omega (arith, a, b, c)

pub acts_losses : (h : History) (acts : List Act) → all_losses (all_acted h acts) ≡ acts_from (all_losses h) acts
acts_losses h [] = refl
acts_losses h (act ∷ acts) =
    acts_losses (acted h act) acts ∙ ap (λ (n : ℕ). acts_from n acts) (act_losses h act h.running refl)

cut_losses : (h : History) (o : OpenEntry) (more : ℕ) → all_losses (cut_by h o more) ≡ all_of h (Some o)
cut_losses h o more =
    let a = loose_append h.items (entry_of o (Cut (length o.ends + more)) ∷ items.Reset o.path ∷ resets_of h.waiting) in
    let b = no_loose_resets h.waiting in
    omega (arith, a, b)

one_more_item : (h : History) (x : Item) → losses_of x ≡ 0 → loose_losses (h.items ++ x ∷ []) ≡ loose_losses h.items
one_more_item h x none = let a = loose_append h.items (x ∷ []) in omega (arith, a, none)

used_losses : (h : History) (path : ℕ) (b : Bool) → all_losses (if b then record h { waiting = put path h.waiting } else h) ≡ all_losses h
used_losses h path true = refl
used_losses h path false = refl

idle_losses : (h : History) (path : ℕ) (b : Bool) → all_losses (if b then record h { items = h.items ++ items.Reset path ∷ [] } else h) ≡ all_losses h
idle_losses h path true = ap (λ (n : ℕ). n + running_losses h.running) (one_more_item h (items.Reset path) refl)
idle_losses h path false = refl

own_losses : (h : History) (path more : ℕ) (o : OpenEntry) (b : Bool) → h.running ≡ Some o →
    all_losses (if b then cut_by h o more else if is_used path false h.items then record h { waiting = put path h.waiting } else h) ≡ all_losses h
own_losses h path more o true is = cut_losses h o more ∙ ap (λ (r : Option OpenEntry). all_of h r) (sym is)
own_losses h path more o false is = used_losses h path (is_used path false h.items)

pub reset_losses : (h : History) (path more : ℕ) (r : Option OpenEntry) → h.running ≡ r → all_losses (reset_in h path more r) ≡ all_losses h
reset_losses h path more (Some o) is = own_losses h path more o (o.path == path) is
reset_losses h path more None is = idle_losses h path (is_used path false h.items)

idle_power : (h : History) (b : Bool) → h.running ≡ None →
    all_losses (if b then record { items = h.items ++ items.Power ∷ []; running = None; waiting = [] } else h) ≡ all_losses h
idle_power h true is =
    let a = one_more_item h items.Power refl in
    let c : running_losses h.running ≡ 0 = ap running_losses is in
    omega (arith, a, c)
idle_power h false is = refl

pub power_losses : (h : History) (more : ℕ) (r : Option OpenEntry) → h.running ≡ r → all_losses (lost_power_in h more r) ≡ all_losses h
power_losses h more (Some o) is =
    let a = loose_append h.items (entry_of o (Cut (length o.ends + more)) ∷ items.Power ∷ []) in
    let b : all_losses h ≡ all_of h (Some o) = ap (λ (r : Option OpenEntry). all_of h r) is in
    omega (arith, a, b)
power_losses h more None is = idle_power h (is_started false h.items) is

-- Acts of an event that loses none

gone_by : {R S A : Type 0} {base : S → Base} {may : Call → Type 0} {b : Base} {i : Interaction R Image S A} → Based base may b i →
    Behind i (λ s a. (base s).gone ≡ b.gone)
unfolding A.Behind
gone_by (based_done e) = ap (λ (x : Base). x.gone) e
gone_by (based_try x) = λ ok. gone_by (x ok)
gone_by (based_ask m x) = λ a. gone_by (x a)
gone_by (based_read x) = λ got. gone_by (x got)
gone_by (based_write x) = λ ok. gone_by (x ok)
gone_by (based_tell x) = λ r. gone_by (x r)

pub always_gone : {R S A : Type 0} {base : S → Base} {may : Call → Type 0} {b : Base} {i : Interaction R Image S A} → Based base may b i →
    Always i (λ s a. (base s).gone ≡ b.gone)
always_gone x = record { holds = gone_by x }

none_gone : (kind : Kind) → ((loss : Loss) → kind ≡ Losing loss → ⊥) → IsOfShell always kind (λ n x. loss_count x.acts ≡ 0)
none_gone kind none = record {
  reads = λ m n x ok is e. e;
  writes = λ m n x ok is e. e;
  falls_reading = λ m n x side pair is e. e;
  falls_writing = λ m n x side pair is e. e;
  falls = λ n x side lost e. e;
  hardens = λ n x t why e. one_act 0 x.acts (Harden t) refl ∙ e;
  loosens = λ n x t is e. one_act 0 x.acts (Loosen t) refl ∙ e;
  loses = λ n x t here e. e;
  goes_back = λ n x may some e. e;
  loses_loose = λ n x lossy some e. absurd (none losses.Cache lossy);
  queues = λ n x room e. e;
  dequeues = λ n x l less e. e;
  notes = λ n x loss lossy e. e;
}

module _ {F P H : Type 0} (n : ℕ) where
  -- so many losses in all
  abbrev pub Has : Device F P H → Type 0
  Has d = all_losses d.history ≡ n

  over_has : (d : Device F P H) (k : History) (chain : ChainState) (b : Bool) → all_losses k ≡ n →
      Has (if b then program_over d k else record d { chain = Some chain; history = k })
  over_has d k chain true e = e
  over_has d k chain false e = e

  turned_has : (d : Device F P H) (path : ℕ) (chain : ChainState) (came : Came) → Has d → Has (turned_by d path chain came)
  turned_has d path chain (Ends e) f =
      over_has (sense_kept d path e) (ended d.history e) chain e.over (ended_losses d.history e d.history.running refl ∙ f)
  turned_has d path chain (Checks e) f = checked_losses d.history e d.history.running refl ∙ f
  turned_has d path chain (HalfOpen t) f = f

  store_has : (d : Device F P H) (s : Store F P H) → loss_count s.acts ≡ 0 → Has d → Has (with_store d s)
  store_has d s none f =
      let a = acts_losses d.history s.acts in
      let b = acts_shift (all_losses d.history) s.acts in
      omega (arith, a, b, none, f)

module _ {F P H R : Type 0} (c : Contents F P H R) (n : ℕ) where
  abbrev Holds : {A : Type 0} → Interaction R Image (Device F P H) A → Type 0
  Holds i = Always i (λ e _. Has n e)

  event_has : {A : Type 0} (q : Device F P H → Type 0) → ((y : Device F P H) (s : Store F P H) → q y → q (record y { store = s })) → (d : Device F P H)
      (body : Device F P H → Interaction R Image (Device F P H) A) →
      ((s : Store F P H) → loss_count s.acts ≡ 0 → Always (body (record (event_begun d) { store = s })) (λ e _. q e)) → Always (event c d body) (λ e _. q e)
  event_has q stays d body x =
      always_then
      (always_then (always_gone (hear_steady c 960 (event_begun d).store)) (λ s _ e. x s e))
      (λ y a f. always_then (always_any (event_end c (waiting_count c d.store) y.store)) (λ z _ _. always_done (stays y z f)))

  carried : (kind : Kind) → ((loss : Loss) → kind ≡ Losing loss → ⊥) → (d : Device F P H) → IsCarried always kind c tt (noted_begin d.store) (λ (e : Device F P H). Has n e)
  carried kind none d = record {
    stores = λ m e z y f. store_has n e z (ends_shell c (none_gone kind none) refl y) f;
    turns = λ e path turn f. turned_has n e path turn.chain turn.came f;
    leads = λ e paths f. f;
    tries = λ e chain f. f;
    rests = λ e z f. f;
  }

  pub command_has : (d : Device F P H) → Has n d → Holds (command c d)
  command_has d f =
      within_always (command_leaves always c tt d (reaches_any (λ t. tt)) (λ chain t is e. tt) (λ m e. Has n e) f
      (λ m e y. made_carries (carried Shut (λ loss e. absurd (cc)) d) f y))

  pub second_has : (d : Device F P H) → Has n d → Holds (second c d)
  second_has d f =
      within_always (carries always c tt d (carried Half (λ loss e. absurd (cc)) d) f (second_leaves always c tt d Half (λ e. absurd (cc))))

  pub background_has : (d : Device F P H) → Has n d → Holds (background c d)
  background_has d f =
      within_always (carries always c tt d (carried Shut (λ loss e. absurd (cc)) d) f (background_leaves always c tt d (λ t ts is. tt)))

  pub peek_has : (d : Device F P H) (t : ℕ) → Has n d → Holds (peek c d t)
  peek_has d t f = within_always (carries always c tt d (carried Half (λ loss e. absurd (cc)) d) f (peek_leaves always c tt d Half t tt))

  -- losses

  abbrev pub most_lost : Loss → ℕ
  most_lost losses.Cache = 1
  most_lost losses.Store = 0
  most_lost (losses.Side side) = 0

  gone_if : (s : Store F P H) (b : Bool) → loss_count s.acts ≡ 0 →
      loss_count (record (if b then store_acted (gone_back s) CfwLost else s) { queue = [] }).acts ≤ 1
  gone_if s true none = let a = one_act 0 s.acts in omega (arith, a, none)
    where
      one_act : (n : ℕ) (acts : List Act) → acts_from n (acts ++ CfwLost ∷ []) ≡ acts_from n acts + 1
      one_act n [] = refl
      one_act n (x ∷ acts) = one_act (n + (if is_loss x then 1 else 0)) acts
  gone_if s false none = omega (arith, none)

  lost_gone : (s : Store F P H) (loss : Loss) → loss_count s.acts ≡ 0 → loss_count (lost_by c s loss).acts ≤ most_lost loss
  unfolding L.cache_lost
  lost_gone s losses.Cache none =
      let z : Store F P H = record (loose_lost s) { queue = [] } in
      let a = ap (λ (x : Base). x.gone) (swept_base c (tracks_of s) z) in
      let b = gone_if s (has_loose s) none in
      omega (arith, a, b)
  lost_gone s losses.Store none = let a = ap (λ (x : Base). x.gone) (store_base c s) in omega (arith, a, none)
  lost_gone s (losses.Side side) none = let a = ap (λ (x : Base). x.gone) (side_base c s side None) in omega (arith, a, none)

  pub lose_has : (d : Device F P H) (loss : Loss) → Has n d → Always (lose c d loss) (λ e _. all_losses e.history ≤ n + most_lost loss)
  unfolding E.lose
  lose_has d loss f =
      event_has (λ e. all_losses e.history ≤ n + most_lost loss) (λ y s g. g) d (λ z. and_then (losing c z.store loss) (λ s _. Done (with_store z s) tt))
      (λ s none.
      let z = lost_by c (with_loss s loss) loss in
      always_then (always_gone (firm_steady c (tracks_of s) z))
      (λ y _ e.
      let a = acts_losses d.history y.acts in
      let b = acts_shift (all_losses d.history) y.acts in
      let g = lost_gone (with_loss s loss) loss none in
      always_done (omega (arith, a, b, e, g, f))))

  -- cuts

  reset_by_has : (d : Device F P H) (path : ℕ) (o : Option OpenEntry) → d.history.running ≡ o → Has n d → Holds (reset_by c d path o)
  reset_by_has d path (Some o) is f =
      always_if (o.path == path)
      (always_then (always_any (half_cut c d.store d.store.half))
      (λ s _ _. always_done (reset_losses d.history path (counts_one_by d.store.half) d.history.running refl ∙ f)))
      (always_done (reset_losses d.history path 0 d.history.running refl ∙ f))
  reset_by_has d path None is f =
      always_if (has_used d.history path) (always_done (reset_losses d.history path 0 d.history.running refl ∙ f)) (always_done f)

  pub reset_has : (d : Device F P H) (path : ℕ) → Has n d → Holds (reset c d path)
  unfolding U.reset
  reset_has d path f = reset_by_has d path d.history.running refl f

  pub power_has : (d : Device F P H) → Has n d → Holds (power c d)
  unfolding U.power
  power_has d f =
      always_then
      (always_then (always_any (half_cut c (event_begun d).store (event_begun d).store.half))
      (λ s _ _. always_done {s = powered_off c (event_begun d) s} {a = tt} (power_losses d.history (counts_one_by d.store.half) d.history.running refl ∙ f)))
      (λ y a g. always_then (always_any (event_end c (waiting_count c d.store) y.store)) (λ z _ _. always_done g))
