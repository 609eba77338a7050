-- A device that is replayed, at resets, at a loss of power, and with a new volume.
use Rattle.std.proofs.Common.{[], ◌≡◌, ◌+◌, ◌∷◌, ◌++◌, ℕ, suc, List, Option, Some, None, Bool, true}
use Rattle.std.proofs.Common.{false, length, cond, refl, arith, sym, ap, subst, ◌∙◌, append_assoc}
use Rattle.std.proofs.lemmas.Bool.{eq-eqb}
use Rattle.ckd_types.specs.declared.channel.CommandEnd.{CommandEnd}
use Rattle.plain_defs.specs.declared.journal.How.TheVariants.{Cut}
use Rattle.plain_defs.specs.declared.journal.Item.{Item}
use Rattle.plain_defs.specs.declared.journal.Item.TheVariants as items
use Rattle.plain_defs.specs.History.{OpenEntry, cut_by, emptied, entry_of, lost_power_in, put, reset_in_history, reset_in, resets_of}
use Rattle.plain_defs.specs.Journal.{replay, replay_item}
use Rattle.plain_defs.specs.Legal.{is_started, is_used}
use Rattle.plain_defs.specs.PlainState.{PlainState, reset_path}
use Rattle.plain_defs.specs.Program.{Part, part_of}
use Rattle.plain_defs.proofs.JournalLaws.{replay-append}
use Rattle.plain_device.specs.Between.{behind_edit}
use Rattle.deck_audit.specs.declared.replayed.Running.{Running}
use Rattle.std.specs.Prelude.{◌==◌, ◌-◌, slice_set}
use Rattle.deck_audit.specs.declared.state.HalfWrite.{HalfWrite}
use Rattle.deck_audit.specs.declared.state.HalfWrite.TheVariants.{Closed}
use Rattle.deck_audit.specs.Device.{AuditedDevice, part_of_open, plain_end, words_of_open}
use Rattle.deck_audit.specs.Follows.{Follows, FollowsProgram, RunsAs, WaitsAs}
use Rattle.deck_audit.specs.History.{cut_by_power, without_power}
use Rattle.deck_audit.specs.Replay as replayed
use Rattle.deck_audit.specs.Replayed.{PendingState, ReplayedState}
use Rattle.deck_audit.proofs.ReplayedActs.{device_behind, item_more, part_next}
use Rattle.deck_audit.proofs.ReplayedCloses.{closed_follows}
use Rattle.deck_audit.proofs.ReplayedEnds.{ends_as, runs_as, runs_beside}

-- the part that a cut program has, and what it makes of the device
module _ (a : AuditedDevice) (o : OpenEntry) (more : ℕ) (p : Part)
    (part_is : part_of (replay a.plans a.empty a.history.items) o.path (words_of_open a o) o.acts (length o.ends + more) ≡ p) where
  cut_item : replay_item a.plans (replay a.plans a.empty a.history.items) (entry_of o (Cut (length o.ends + more))) ≡ p.state
  cut_item = ap (λ (x : Part). x.state) part_is

  -- the program's own reset cuts it
  module _ (r : ReplayedState) (resets : WaitsAs r.waits a.history.waiting) (number_is : r.number ≡ a.number)
      (half_is : r.half ≡ a.half) (lent_is : r.lent ≡ a.lent) (device_is : r.device ≡ p.state) where
    device_cut : record r.device { paths = reset_path r.device.paths o.path }
        ≡ replay a.plans a.empty (a.history.items ++ entry_of o (Cut (length o.ends + more)) ∷ items.Reset o.path ∷ [])
    device_cut =
        ap (λ (d : PlainState). record d { paths = reset_path d.paths o.path }) (device_is ∙ sym cut_item)
        ∙ sym (replay-append a.plans a.empty a.history.items (entry_of o (Cut (length o.ends + more)) ∷ items.Reset o.path ∷ []))

    cut_here : Follows (replayed.closed (replayed.reset_on r o.path)) (record a { history = cut_by a.history o more })
    cut_here =
        subst (λ (l : List Item). Follows (replayed.closed (replayed.reset_on r o.path))
        (record a { history = record { items = l; running = None; waiting = [] } }))
        (append_assoc a.history.items (entry_of o (Cut (length o.ends + more)) ∷ items.Reset o.path ∷ []) (resets_of a.history.waiting))
        (closed_follows (replayed.reset_on r o.path) a
        (a.history.items ++ entry_of o (Cut (length o.ends + more)) ∷ items.Reset o.path ∷ []) a.history.waiting resets number_is half_is
        lent_is device_cut)

    pub reset_cuts : (q : Running) → r.running ≡ Some q → q.path ≡ o.path → a.history.running ≡ Some o
        → Follows (replayed.reset r o.path) (record a { history = reset_in_history a.history o.path more })
    reset_cuts q runs path_is entry =
        subst (λ (x : Option Running). Follows (replayed.reset_by r o.path x) (record a { history = reset_in_history a.history o.path more })) (sym runs)
        (subst (λ (x : Option OpenEntry). Follows (replayed.reset_by r o.path (Some q)) (record a { history = reset_in a.history o.path more x }))
        (sym entry) (rw (eq-eqb q.path o.path path_is, eq-eqb o.path o.path refl) cut_here))

    -- or a loss of power does
    pub power_cuts : Follows (replayed.cut r) (cut_by_power a o more)
    power_cuts = record {
      number_is = number_is;
      device_is = device_is ∙ sym cut_item
          ∙ sym (replay-append a.plans a.empty a.history.items (entry_of o (Cut (length o.ends + more)) ∷ []));
      half_is = half_is;
      lent_is = lent_is;
      program = tt;
    }

-- behind the commands that ended
module _ (r : ReplayedState) (a : AuditedDevice) (o : OpenEntry) (q : Running) (f : Follows r a)
    (runs : r.running ≡ Some q) (waits_not : r.pending ≡ None) (entry : a.history.running ≡ Some o)
    (resets : WaitsAs r.waits a.history.waiting) where
  runs_here : RunsAs a o r.device q q.chain
  runs_here = runs_as r a o q f runs waits_not entry

  part_here : part_of (replay a.plans a.empty a.history.items) o.path (words_of_open a o) o.acts (length o.ends + 0) ≡ part_of_open a o
  part_here =
      let same : length o.ends + 0 ≡ length o.ends = omega arith in
      ap (λ (k : ℕ). part_of (replay a.plans a.empty a.history.items) o.path (words_of_open a o) o.acts k) same

  pub cut_follows : Follows (replayed.reset r o.path) (record a { history = reset_in_history a.history o.path 0 })
  cut_follows = reset_cuts a o 0 (part_of_open a o) part_here r resets f.number_is f.half_is f.lent_is runs_here.at.device_is q runs
      runs_here.path_is entry

  pub cut_by_power_follows : Follows (replayed.cut r) (cut_by_power a o 0)
  cut_by_power_follows = power_cuts a o 0 (part_of_open a o) part_here r resets f.number_is f.half_is f.lent_is runs_here.at.device_is

-- or with one command more, whose effect it then has
module _ (r : ReplayedState) (a : AuditedDevice) (o : OpenEntry) (q : Running) (w : PendingState) (f : Follows r a)
    (runs : r.running ≡ Some q) (waits : r.pending ≡ Some w) (entry : a.history.running ≡ Some o)
    (e : CommandEnd) (plain : plain_end a o ≡ Some e) (resets : WaitsAs r.waits a.history.waiting) where
  part_more : part_of (replay a.plans a.empty a.history.items) o.path (words_of_open a o) o.acts (length o.ends + 1)
      ≡ part_of (replay a.plans a.empty a.history.items) o.path (words_of_open a o) o.acts (suc (length o.ends))
  part_more =
      let same : length o.ends + 1 ≡ suc (length o.ends) = omega arith in
      ap (λ (k : ℕ). part_of (replay a.plans a.empty a.history.items) o.path (words_of_open a o) o.acts k) same

  device_more : behind_edit r.device w.edit w.paths
      ≡ (part_of (replay a.plans a.empty a.history.items) o.path (words_of_open a o) o.acts (suc (length o.ends))).state
  device_more = device_behind r a o q w f runs waits entry e plain
      ∙ ap (λ (x : Part). x.state) (sym (part_next r a o q w f runs waits entry e plain))

  pub cut_more_follows : Follows (replayed.reset (replayed.settled r) o.path) (record a { history = reset_in_history a.history o.path 1 })
  cut_more_follows = rw waits
      (reset_cuts a o 1 (part_of (replay a.plans a.empty a.history.items) o.path (words_of_open a o) o.acts (suc (length o.ends)))
      part_more (record r { device = behind_edit r.device w.edit w.paths; pending = None }) resets f.number_is f.half_is f.lent_is
      device_more q runs (ends_as r a o q w f runs waits entry).runs.path_is entry)

  pub cut_more_by_power_follows : Follows (replayed.cut (replayed.settled r)) (cut_by_power a o 1)
  cut_more_by_power_follows = rw waits
      (power_cuts a o 1 (part_of (replay a.plans a.empty a.history.items) o.path (words_of_open a o) o.acts (suc (length o.ends)))
      part_more (record r { device = behind_edit r.device w.edit w.paths; pending = None }) resets f.number_is f.half_is f.lent_is
      device_more)

-- What changes nothing of the device: a reset that waits, a half write, a loan

beside : (a : AuditedDevice) (waiting : List ℕ) (half : HalfWrite) (lent : Option ℕ) (d : PlainState) (running : Option Running)
    (pending : Option PendingState) (o : Option OpenEntry) → FollowsProgram a d running pending o
    → FollowsProgram (record a { history = record a.history { waiting = waiting }; half = half; lent = lent }) d running pending o
beside a waiting half lent d None pending None f = tt
beside a waiting half lent d None pending (Some o) f = absurd f
beside a waiting half lent d (Some q) None None f = absurd f
beside a waiting half lent d (Some q) (Some w) None f = absurd f
beside a waiting half lent d (Some q) None (Some o) f = runs_beside a o d q q.chain q.chain waiting half lent f
beside a waiting half lent d (Some q) (Some w) (Some o) f = record {
  before = f.before;
  runs = runs_beside a o d q f.before q.chain waiting half lent f.runs;
  chain_is = f.chain_is;
  pending_is = f.pending_is;
}

module _ (r : ReplayedState) (a : AuditedDevice) (f : Follows r a) where
  beside_follows : (s : ReplayedState) (waiting : List ℕ) (half : HalfWrite) (lent : Option ℕ) → s.number ≡ a.number → s.device ≡ r.device
      → s.half ≡ half → s.lent ≡ lent → s.running ≡ r.running → s.pending ≡ r.pending
      → Follows s (record a { history = record a.history { waiting = waiting }; half = half; lent = lent })
  beside_follows s waiting half lent number_is device_is half_is lent_is running_is pending_is = record {
    number_is = number_is;
    device_is = device_is ∙ f.device_is;
    half_is = half_is;
    lent_is = lent_is;
    program = rw (device_is, running_is, pending_is) (beside a waiting half lent r.device r.running r.pending a.history.running f.program);
  }

  pub half_is_followed : (half : HalfWrite) → Follows (record r { half = half }) (record a { half = half })
  half_is_followed half = beside_follows (record r { half = half }) a.history.waiting half a.lent f.number_is refl refl f.lent_is refl refl

  pub loan_is_followed : (of : ℕ) → Follows (replayed.lent_to r of) (record a { lent = Some of })
  loan_is_followed of = beside_follows (replayed.lent_to r of) a.history.waiting a.half (Some of) f.number_is refl f.half_is refl refl refl

  wait_by : (b : Bool) (p : ℕ) → Follows (cond b (record r { waits = slice_set r.waits (p - 1) true }) r)
      (record a { history = cond b (record a.history { waiting = put p a.history.waiting }) a.history })
  wait_by true p = beside_follows (record r { waits = slice_set r.waits (p - 1) true }) (put p a.history.waiting) a.half a.lent f.number_is refl
      f.half_is f.lent_is refl refl
  wait_by false p = f

  -- the reset of another path waits while a program runs
  pub wait_follows : (o : OpenEntry) (p more : ℕ) → a.history.running ≡ Some o → (o.path == p) ≡ false
      → replayed.is_used_on r p ≡ is_used p false a.history.items
      → Follows (replayed.wait_used r p) (record a { history = reset_in_history a.history p more })
  wait_follows o p more entry unlike used =
      subst (λ (x : Option OpenEntry). Follows (replayed.wait_used r p) (record a { history = reset_in a.history p more x })) (sym entry)
      (rw (unlike, used) (wait_by (is_used p false a.history.items) p))

-- While no program runs

module _ (r : ReplayedState) (a : AuditedDevice) (f : Follows r a) (idle : a.history.running ≡ None) where
  runs_not : (running : Option Running) (pending : Option PendingState) → FollowsProgram a r.device running pending None → running ≡ None
  runs_not None pending p = refl
  runs_not (Some q) None p = absurd p
  runs_not (Some q) (Some w) p = absurd p

  by_use : (path : ℕ) (b : Bool) → Follows (cond b (replayed.reset_on r path) r)
      (record a { history = cond b (record a.history { items = a.history.items ++ items.Reset path ∷ [] }) a.history })
  by_use path true = item_more r (replayed.reset_on r path) a
      (record a { history = record a.history { items = a.history.items ++ items.Reset path ∷ [] } }) (items.Reset path) f idle f.number_is f.half_is
      f.lent_is refl refl refl refl refl idle
  by_use path false = f

  -- a reset of a path that used something
  pub reset_follows : (path more : ℕ) → replayed.is_used_on r path ≡ is_used path false a.history.items
      → Follows (replayed.reset r path) (record a { history = reset_in_history a.history path more })
  reset_follows path more used =
      let none = runs_not r.running r.pending (subst (λ (x : Option OpenEntry). FollowsProgram a r.device r.running r.pending x) idle f.program) in
      subst (λ (x : Option OpenEntry). Follows (replayed.reset r path) (record a { history = reset_in a.history path more x })) (sym idle)
      (subst (λ (x : Option Running). Follows (replayed.reset_by r path x)
      (record a { history = reset_in a.history path more None })) (sym none) (rw used (by_use path (is_used path false a.history.items))))

  -- a new volume
  pub fresh_follows : Follows (replayed.given_back r) (record a { history = emptied a.history; lent = None })
  fresh_follows = item_more r (replayed.given_back r) a (record a { history = emptied a.history; lent = None }) items.Fresh f idle f.number_is
      f.half_is refl refl refl refl refl refl idle

  by_power : (b : Bool) → Follows (cond b (replayed.dark r) (record r { half = Closed }))
      (record a { history = cond b (record { items = a.history.items ++ items.Power ∷ []; running = None; waiting = [] }) a.history; half = Closed })
  by_power true = item_more r (replayed.dark r) a
      (record a { history = record { items = a.history.items ++ items.Power ∷ []; running = None; waiting = [] }; half = Closed }) items.Power f idle
      f.number_is refl f.lent_is refl refl refl refl refl refl
  by_power false = half_is_followed r a f Closed

  -- a loss of power, which before the first start changes nothing
  pub power_follows : r.powered ≡ is_started false a.history.items → Follows (replayed.without_power r) (without_power a)
  power_follows powered =
      subst (λ (x : Option OpenEntry). Follows (replayed.without_power r) (record a { history = lost_power_in a.history 0 x; half = Closed })) (sym idle)
      (rw (← powered) (by_power r.powered))
