-- A device that is replayed, once its program is over, at resets, at a loss of power, and with a new volume.
use Rattle.std.proofs.Common.{[], ◌≡◌, ◌-◌, ◌∷◌, ◌++◌, ℕ, suc, List, Option, Some, None, true}
use Rattle.std.proofs.Common.{length, refl, arith, sym, ap, subst, ◌∙◌, append_assoc}
use Rattle.std.proofs.lemmas.List.{length-append}
use Rattle.ckd_types.specs.declared.channel.CommandEnd.{CommandEnd}
use Rattle.ckd_types.specs.declared.sense.Sense.{Sense}
use Rattle.plain_defs.specs.declared.journal.How.TheVariants.{Full, Checked}
use Rattle.plain_defs.specs.declared.journal.Item.{Item}
use Rattle.plain_defs.specs.declared.journal.Item.TheVariants as items
use Rattle.plain_defs.specs.History.{OpenEntry, checked, checked_in, ended, entry_of, resets_of, with_end}
use Rattle.plain_defs.specs.Journal.{last_sense, replay, replay_item}
use Rattle.plain_defs.specs.PlainState.{PlainState, with_sense}
use Rattle.plain_defs.specs.Program.{Part, part_of}
use Rattle.plain_defs.proofs.JournalLaws.{replay-append}
use Rattle.plain_device.specs.Between.{behind_edit}
use Rattle.deck_audit.specs.declared.replayed.Running.{Running}
use Rattle.deck_audit.specs.Device.{AuditedDevice, part_of_open, plain_end, words_of_open}
use Rattle.deck_audit.specs.Follows.{EndsAs, Follows, WaitsAs}
use Rattle.deck_audit.specs.Replay as replayed
use Rattle.deck_audit.specs.Replayed.{PendingState, ReplayedState}
use Rattle.deck_audit.proofs.ReplayedActs.{device_behind, item_more, part_behind}
use Rattle.deck_audit.proofs.Closing.{ended_so, resets_keep}
use Rattle.deck_audit.proofs.ReplayedEnds.{ends_as}

-- a journal to which the resets that waited are added
module _ (r : ReplayedState) (a : AuditedDevice) (before : List Item) (waiting : List ℕ) (w : WaitsAs r.waits waiting)
    (number_is : r.number ≡ a.number) (half_is : r.half ≡ a.half) (lent_is : r.lent ≡ a.lent)
    (device_is : r.device ≡ replay a.plans a.empty before) where
  abbrev over : List Item → AuditedDevice
  over l = record a { history = record { items = l; running = None; waiting = [] } }

  pub closed_follows : Follows (replayed.closed r) (record a { history = record { items = before ++ resets_of waiting; running = None; waiting = [] } })
  closed_follows = resets_keep r waiting w (λ s l. Follows s (over l))
      (λ s l p least most f. item_more s (replayed.reset_on s p) (over l) (over (l ++ items.Reset p ∷ [])) (items.Reset p) f refl f.number_is f.half_is
      f.lent_is refl refl refl refl refl refl)
      before (λ waits. record { number_is = number_is; device_is = device_is; half_is = half_is; lent_is = lent_is; program = tt })

-- behind one more item
module _ (r : ReplayedState) (a : AuditedDevice) (x : Item) (w : WaitsAs r.waits a.history.waiting)
    (number_is : r.number ≡ a.number) (half_is : r.half ≡ a.half) (lent_is : r.lent ≡ a.lent)
    (device_is : r.device ≡ replay_item a.plans (replay a.plans a.empty a.history.items) x) where
  closed_behind : Follows (replayed.closed r) (record a {
    history = record
        { items = a.history.items ++ x ∷ resets_of a.history.waiting; running = None; waiting = [] };
  })
  closed_behind = rw (← append_assoc a.history.items (x ∷ []) (resets_of a.history.waiting))
      (closed_follows r a (a.history.items ++ x ∷ []) a.history.waiting w number_is half_is lent_is
      (device_is ∙ sym (replay-append a.plans a.empty a.history.items (x ∷ []))))

many_ends : (ends : List CommandEnd) (e : CommandEnd) → length (ends ++ e ∷ []) ≡ suc (length ends)
many_ends ends e = let sum = length-append ends (e ∷ []) in omega (arith, sum)

last_of : (ends : List CommandEnd) (e : CommandEnd) → last_sense (ends ++ e ∷ []) ≡ e.sense
last_of [] e = refl
last_of (x ∷ []) e = refl
last_of (x ∷ y ∷ ends) e = last_of (y ∷ ends) e

-- A program that is over

module _ (r : ReplayedState) (a : AuditedDevice) (o : OpenEntry) (q : Running) (w : PendingState) (f : Follows r a)
    (runs : r.running ≡ Some q) (waits : r.pending ≡ Some w) (entry : a.history.running ≡ Some o)
    (e : CommandEnd) (plain : plain_end a o ≡ Some e) (resets : WaitsAs r.waits a.history.waiting) where
  device_over : behind_edit r.device w.edit w.paths
      ≡ replay_item a.plans (replay a.plans a.empty a.history.items) (entry_of (with_end o e) Full)
  device_over =
      device_behind r a o q w f runs waits entry e plain
      ∙ ap (λ (x : Part). x.state) (sym (part_behind r a o q w f runs waits entry e plain))

  -- it has what its last command did, and then the resets that waited
  pub over_follows : e.over ≡ true → Follows (replayed.closed (replayed.settled r)) (record a { history = ended a.history e })
  over_follows over = rw (waits, ended_so a.history o e entry true over)
      (closed_behind (record r { device = behind_edit r.device w.edit w.paths; pending = None }) a (entry_of (with_end o e) Full)
      resets f.number_is f.half_is f.lent_is device_over)

-- or a command of it ended with a check
module _ (r : ReplayedState) (a : AuditedDevice) (o : OpenEntry) (q : Running) (w : PendingState) (f : Follows r a)
    (runs : r.running ≡ Some q) (waits : r.pending ≡ Some w) (entry : a.history.running ≡ Some o)
    (e : CommandEnd) (sense : Sense) (sense_is : e.sense ≡ Some sense) (resets : WaitsAs r.waits a.history.waiting) where
  abbrev with_check : ReplayedState
  with_check = record r { device = record r.device { paths = with_sense r.device.paths q.path (Some sense) }; pending = None }

  ends_here : EndsAs a o r.device q w
  ends_here = ends_as r a o q w f runs waits entry

  part_checked : part_of (replay a.plans a.empty a.history.items) o.path (words_of_open a o) o.acts (length (o.ends ++ e ∷ []) - 1)
      ≡ part_of_open a o
  part_checked =
      let much = many_ends o.ends e in
      let same : length (o.ends ++ e ∷ []) - 1 ≡ length o.ends = omega (arith, much) in
      ap (λ (k : ℕ). part_of (replay a.plans a.empty a.history.items) o.path (words_of_open a o) o.acts k) same

  device_checked : record r.device { paths = with_sense r.device.paths q.path (Some sense) }
      ≡ replay_item a.plans (replay a.plans a.empty a.history.items) (entry_of (with_end o e) Checked)
  device_checked =
      ap (λ (n : ℕ). record r.device { paths = with_sense r.device.paths n (Some sense) }) ends_here.runs.path_is
      ∙ ap (λ (d : PlainState). record d { paths = with_sense d.paths o.path (Some sense) }) ends_here.runs.at.device_is
      ∙ ap (λ (x : Option Sense). record (part_of_open a o).state { paths = with_sense (part_of_open a o).state.paths o.path x })
      (sym (last_of o.ends e ∙ sense_is))
      ∙ ap (λ (p : Part). record p.state { paths = with_sense p.state.paths o.path (last_sense (o.ends ++ e ∷ [])) }) (sym part_checked)

  -- it keeps only the sense, and then has the resets that waited
  pub check_follows : Follows (replayed.checked r sense) (record a { history = checked a.history e })
  check_follows =
      subst (λ (x : Option Running). Follows (replayed.checked_with r sense x) (record a { history = checked a.history e })) (sym runs)
      (subst (λ (x : Option OpenEntry). Follows (replayed.closed with_check) (record a { history = checked_in a.history e x })) (sym entry)
      (closed_behind with_check a (entry_of (with_end o e) Checked) resets f.number_is f.half_is f.lent_is device_checked))
