-- A loss leaves the journal of a device that is lent and has no data of cache fast write.
use Rattle.std.proofs.Common.{◌≡◌, ℕ, Bool, true, false, List, [], Option, is_some, refl, ap, ◌⊎◌, inl, inr}
use Rattle.loss_model.specs.declared.Loss.{Loss}
use Rattle.plain_defs.specs.declared.journal.Act.{Act}
use Rattle.track_image.specs.Image.{Image}
use Rattle.device_outside.specs.Interaction.{Interaction}
use Rattle.device_defs.specs.Contents.{Contents}
use Rattle.device_defs.specs.Device.{Device, all_acted}
use Rattle.device_defs.specs.Events as E
use Rattle.device_defs.specs.Events.{lose}
use Rattle.device_defs.specs.Owed.{noted_begin, waiting_count, noted_end}
use Rattle.device_defs.specs.Store.{Store, has_loose}
use Rattle.device_laws.proofs.Always.{Always, always_done, always_then}
use Rattle.device_laws.proofs.HeldPlaces.{never}
use Rattle.device_laws.proofs.KeptEvents.{always_any}
use Rattle.device_laws.proofs.walks.Within.{always, within_always, within_weaker}
use Rattle.device_laws.proofs.walks.Moves.{Shut, Losing, Goes, stays}
use Rattle.device_laws.proofs.walks.Shells.{Shell, shell_of, shell_loose, IsOfShell, moves_shell}
use Rattle.device_laws.proofs.walks.Reads.{hear_goes, losing_goes}

-- the acts, to whom it is lent, and which tracks are loose
record Away : Type 0 where
  acts : List Act
  lent : Option ℕ
  loose : Bool

abbrev away_at : Shell → Away
away_at x = record { acts = x.acts; lent = x.lent; loose = shell_loose x }

-- it is lent, none of its tracks is loose, and this event has no acts
record IsStill (x : Away) : Type 0 where
  lent : is_some x.lent ≡ true
  firm : x.loose ≡ false
  acts : x.acts ≡ []

module _ (loss : Loss) where
  -- none of its tracks is made firm
  hardens_none : {X : Type 0} (x : Shell) → (Losing loss ≡ Shut) ⊎ (is_some x.lent ≡ false) → IsStill (away_at x) → X
  hardens_none x (inl is) f = absurd (cc)
  hardens_none x (inr here) f = never (is_some x.lent) f.lent here

  still_kept : IsOfShell always (Losing loss) (λ n x. IsStill (away_at x))
  still_kept = record {
    reads = λ m n x ok is f. f;
    writes = λ m n x ok is f. f;
    falls_reading = λ m n x side pair is f. f;
    falls_writing = λ m n x side pair is f. f;
    falls = λ n x side lost f. f;
    hardens = λ n x t why f. hardens_none x why f;
    loosens = λ n x t is f. absurd (cc);
    loses = λ n x t here f. never (is_some x.lent) f.lent here;
    goes_back = λ n x may some f. never (shell_loose x) some f.firm;
    loses_loose = λ n x lossy some f. never (shell_loose x) some f.firm;
    queues = λ n x room f. f;
    dequeues = λ n x l less f. f;
    notes = λ n x noted lossy f. f;
  }

module _ {F P H R : Type 0} (c : Contents F P H R) where
  abbrev Stays : Store F P H → Type 0
  Stays z = IsStill (away_at (shell_of z))

  moves_still : {A : Type 0} (loss : Loss) (s : Store F P H) {i : Interaction R Image (Store F P H) A} → Stays s →
      Goes always (Losing loss) c tt s tt i → Always i (λ z _. Stays z)
  moves_still loss s f x = within_always (within_weaker x (λ n z a m. moves_shell c (still_kept loss) f m))

  acts_none : (d : Device F P H) (z : Store F P H) → z.acts ≡ [] → all_acted d.history z.acts ≡ d.history
  acts_none d z e = ap (λ (l : List Act). all_acted d.history l) e

  -- so the journal is the same
  pub lent_loses : (d : Device F P H) (loss : Loss) → is_some d.store.lent ≡ true → has_loose d.store ≡ false →
      Always (lose c d loss) (λ e _. e.history ≡ d.history)
  unfolding E.lose
  lent_loses d loss lent firm =
      always_then
      (always_then (moves_still loss (noted_begin d.store) (record { lent = lent; firm = firm; acts = refl }) (hear_goes 960 (noted_begin d.store) stays))
      (λ s _ f. always_then (moves_still loss s f (losing_goes s loss refl stays)) (λ y _ g. always_done (acts_none d y g.acts))))
      (λ y a h. always_then (always_any (noted_end c (waiting_count c d.store) y.store)) (λ z _ _. always_done h))
