-- What is said of which sides are up, of failed calls and of lost tracks stays so behind each event, where it bears a lost track more, one failed call
-- more, and the fall of the side of a pair whose call failed.
use Rattle.std.proofs.Common.{◌≡◌, ◌<◌, ◌≤◌, ℕ, suc, Bool, true, false, List, length, subst}
use Rattle.std.proofs.lemmas.Bool.{ltb-true}
use Rattle.std.specs.Prelude.{slice_set, not}
use Rattle.ckd_types.specs.declared.paths.Side.{Side}
use Rattle.ckd_types.specs.declared.paths.Side.TheVariants as sides
use Rattle.loss_model.specs.declared.Loss.{Loss}
use Rattle.loss_model.specs.declared.Loss.TheVariants as losses
use Rattle.track_image.specs.Image.{Image}
use Rattle.device_outside.specs.Interaction.{Interaction, Done}
use Rattle.device_outside.specs.Volume.{counted, counted_if}
use Rattle.device_defs.specs.Command.{command}
use Rattle.device_defs.specs.Contents.{Contents}
use Rattle.device_defs.specs.Cutting.{reset, power}
use Rattle.device_defs.specs.Device.{Device, event_begun}
use Rattle.device_defs.specs.Events.{second, background, lose}
use Rattle.device_defs.specs.Losses.{over}
use Rattle.device_defs.specs.Orders as O
use Rattle.device_defs.specs.Orders.{given_up, lend, lent_to, with_tracks}
use Rattle.device_defs.specs.Peek.{peek}
use Rattle.device_defs.specs.Store.{Store, tracks_of}
use Rattle.device_laws.proofs.Always.{Always}
use Rattle.device_laws.proofs.walks.Within.{always, within_always, within_done, within_weaker}
use Rattle.device_laws.proofs.walks.Moves.{Kind, Shut, Half, Losing}
use Rattle.device_laws.proofs.walks.Shells.{Shell, shell_fallen, shell_read, shell_wrote, IsOfShell, moves_shell, ends_shell}
use Rattle.device_laws.proofs.walks.Events.{
  reaches_any,
  quiet_leaves,
  command_leads,
  second_leads,
  background_leads,
  lose_leads,
  peek_leads,
  power_leads,
  reset_leads,
}

-- what is said of a store
pub record Facts : Type 0 where
  pub a : Bool  -- side A is up
  pub b : Bool
  pub paired : Bool
  pub failed : ℕ
  pub lost : List Bool
  pub queued : ℕ

abbrev pub facts_of : {F P H : Type 0} → Store F P H → Facts
facts_of s = record { a = s.a.up; b = s.b.up; paired = s.paired; failed = s.counts.failed; lost = s.lost; queued = length s.queue }

abbrev lost_more : Facts → ℕ → Facts
lost_more x t = record x { lost = slice_set x.lost t true }

abbrev pub failed_more : Facts → Facts
failed_more x = record x { failed = counted x.failed }

abbrev pub fallen : Side → Facts → Facts
fallen sides.A x = record x { a = false }
fallen sides.B x = record x { b = false }

-- what it bears
pub record Bears (Q : Facts → Type 0) : Type 0 where
  pub loses : (x : Facts) (t : ℕ) → Q x → Q (lost_more x t)
  pub fails : (x : Facts) → Q x → Q (failed_more x)
  pub falls : (x : Facts) (side : Side) → x.paired ≡ true → Q x → Q (fallen side (failed_more x))
  pub queues : (x : Facts) → x.queued < 64 → Q x → Q (record x { queued = suc x.queued })
  pub dequeues : (x : Facts) (n : ℕ) → n ≤ x.queued → Q x → Q (record x { queued = n })

abbrev facts_at : Shell → Facts
facts_at x = record { a = x.up_a; b = x.up_b; paired = x.paired; failed = x.counts.failed; lost = x.lost; queued = x.queued }

module _ (Q : Facts → Type 0) (bears : Bears Q) where
  counts_so : (x : Facts) (ok : Bool) → Q x → Q (record x { failed = counted_if (not ok) x.failed })
  counts_so x true f = f
  counts_so x false f = bears.fails x f

  falls_so : (x : Shell) (side : Side) → Q (fallen side (facts_at x)) → Q (facts_at (shell_fallen side x))
  falls_so x sides.A f = f
  falls_so x sides.B f = f

  facts_kept : (kind : Kind) → ((x : Facts) (side : Side) → kind ≡ Losing (losses.Side side) → Q x → Q (fallen side x)) →
      IsOfShell always kind (λ n x. Q (facts_at x))
  facts_kept kind may_fall = record {
    reads = λ m n x ok is f. counts_so (facts_at x) ok f;
    writes = λ m n x ok is f. counts_so (facts_at x) ok f;
    falls_reading = λ m n x side pair is f. falls_so (shell_read x false) side (bears.falls (facts_at x) side pair f);
    falls_writing = λ m n x side pair is f. falls_so (shell_wrote x false) side (bears.falls (facts_at x) side pair f);
    falls = λ n x side lost f. falls_so x side (may_fall (facts_at x) side lost f);
    hardens = λ n x t why f. f;
    loosens = λ n x t is f. f;
    loses = λ n x t here f. bears.loses (facts_at x) t f;
    goes_back = λ n x may some f. f;
    loses_loose = λ n x lossy some f. f;
    queues = λ n x room f. bears.queues (facts_at x) (ltb-true x.queued 64 room) f;
    dequeues = λ n x l less f. bears.dequeues (facts_at x) l less f;
    notes = λ n x loss lossy f. f;
  }

module _ {F P H R : Type 0} (c : Contents F P H R) (Q : Facts → Type 0) (bears : Bears Q) where
  -- it is so of a store
  abbrev So : Store F P H → Type 0
  So s = Q (facts_of s)

  shut_kept : IsOfShell always Shut (λ n x. Q (facts_at x))
  shut_kept = facts_kept Q bears Shut (λ x side e f. absurd (cc))

  half_kept : IsOfShell always Half (λ n x. Q (facts_at x))
  half_kept = facts_kept Q bears Half (λ x side e f. absurd (cc))

  -- the loss of a side: also where that is down
  abbrev pub MayFall : Loss → Facts → Type 0
  MayFall losses.Cache x = Q x
  MayFall losses.Store x = Q x
  MayFall (losses.Side side) x = Q (fallen side x)

  falls_by : (loss : Loss) → ((x : Facts) → Q x → MayFall loss x) → (x : Facts) (side : Side) → Losing loss ≡ Losing (losses.Side side) → Q x →
      Q (fallen side x)
  falls_by losses.Cache falls x side e f = absurd (cc)
  falls_by losses.Store falls x side e f = absurd (cc)
  falls_by (losses.Side lost) falls x side e f = subst (λ (s : Side). Q (fallen s x)) (let same : lost ≡ side = cc in same) (falls x f)

  -- Behind whole events

  abbrev Leaves : {A : Type 0} → Interaction R Image (Device F P H) A → Type 0
  Leaves i = Always i (λ e _. Q (facts_of e.store))

  pub command_leaves : (d : Device F P H) → So d.store → Leaves (command c d)
  command_leaves d f =
      within_always (command_leads always c tt d (reaches_any (λ t. tt)) (λ chain t is e. tt) (λ n e. So e.store) f (λ n e m. ends_shell c shut_kept f m))

  pub background_leaves : (d : Device F P H) → So d.store → Leaves (background c d)
  background_leaves d f = within_always (within_weaker (background_leads always c tt d (λ t ts is. tt)) (λ n e a m. ends_shell c shut_kept f m))

  pub second_leaves : (d : Device F P H) → So d.store → Leaves (second c d)
  second_leaves d f = within_always (within_weaker (second_leads always c tt d Half (λ e. absurd (cc))) (λ n e a m. ends_shell c half_kept f m))

  pub peek_leaves : (d : Device F P H) (t : ℕ) → So d.store → Leaves (peek c d t)
  peek_leaves d t f = within_always (within_weaker (peek_leads always c tt d Half t tt) (λ n e a m. ends_shell c half_kept f m))

  pub lose_leaves : (d : Device F P H) (loss : Loss) → So d.store → ((x : Facts) → Q x → MayFall loss x) → Leaves (lose c d loss)
  lose_leaves d loss f falls =
      within_always (within_weaker (lose_leads always c tt d loss)
      (λ n e a m. ends_shell c (facts_kept Q bears (Losing loss) (falls_by loss falls)) f m))

  pub power_leaves : (d : Device F P H) → So d.store → Leaves (power c d)
  power_leaves d f =
      within_always (within_weaker (power_leads always c tt d)
      (λ n e a m. ends_shell c (facts_kept Q bears (Losing losses.Cache) (falls_by losses.Cache (λ x g. g))) f m))

  pub reset_leaves : (d : Device F P H) (path : ℕ) → So d.store → Leaves (reset c d path)
  reset_leaves d path f = within_always (within_weaker (reset_leads always Half c tt d path) (λ n e a m. moves_shell c half_kept f m))

  pub lend_leaves : (d : Device F P H) (to : ℕ) → So (lent_to (over (tracks_of d.store) (given_up c) (event_begun d).store) to) → Leaves (lend c d to)
  unfolding O.lend
  lend_leaves d to f =
      within_always (quiet_leaves {w = always} c {q = λ n e. So e.store} (λ n e t g. g) {n = tt} d
      (λ z. Done (with_tracks z (lent_to (over (tracks_of z.store) (given_up c) z.store) to)) tt) (within_done f))
