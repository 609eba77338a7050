-- How the answer of a device that is kept comes to what the history makes of a line.
use Rattle.std.proofs.Common.{◌≡◌, Option, Some, None, Bool, true, false, cond, refl}
use Rattle.plain_defs.specs.History.{OpenEntry}
use Rattle.deck_audit.specs.declared.kept.Kept.{Kept}
use Rattle.deck_audit.specs.declared.kept.Then.{Then}
use Rattle.deck_audit.specs.declared.replayed.Running.{Running}
use Rattle.deck_audit.specs.Device.{AuditedDevice}
use Rattle.deck_audit.specs.Follows.{Follows, FollowsProgram}
use Rattle.deck_audit.specs.Keeping.{Goes, Judges}
use Rattle.deck_audit.specs.Kept.{then_if}
use Rattle.deck_audit.specs.Replayed.{PendingState, ReplayedState}
use Rattle.deck_audit.specs.State.{AuditState}

-- the same test decides both
pub judges_if : (s : AuditState) (a : AuditedDevice) (t : AuditState) (next : Then) (k : Kept) (b c : Bool) → c ≡ b
    → (b ≡ true → Goes s a (Some t) next k) → Judges s a (cond b (Some t) None) (then_if c next) k
judges_if s a t next k true true is go = go refl
judges_if s a t next k true false is go = absurd (cc)
judges_if s a t next k false true is go = absurd (cc)
judges_if s a t next k false false is go = refl

pub record Runs (r : ReplayedState) (a : AuditedDevice) : Type 0 where
  pub entry : OpenEntry
  pub run : Running
  pub entry_is : a.history.running ≡ Some entry
  pub run_is : r.running ≡ Some run

pub record Idle (r : ReplayedState) (a : AuditedDevice) : Type 0 where
  pub entry_is : a.history.running ≡ None
  pub run_is : r.running ≡ None

-- both run a program, or neither does
pub by_program : {T : Type 0} (r : ReplayedState) (a : AuditedDevice) → Follows r a → (Idle r a → T) → (Runs r a → T) → T
by_program {T = T} r a f idle runs = go r.running r.pending a.history.running refl refl f.program where
  go : (running : Option Running) (pending : Option PendingState) (entry : Option OpenEntry) → r.running ≡ running
      → a.history.running ≡ entry → FollowsProgram a r.device running pending entry → T
  go None pending None run_is entry_is p = idle (record { entry_is = entry_is; run_is = run_is })
  go None pending (Some o) run_is entry_is p = absurd p
  go (Some q) None None run_is entry_is p = absurd p
  go (Some q) (Some w) None run_is entry_is p = absurd p
  go (Some q) None (Some o) run_is entry_is p = runs (record { entry = o; run = q; entry_is = entry_is; run_is = run_is })
  go (Some q) (Some w) (Some o) run_is entry_is p = runs (record { entry = o; run = q; entry_is = entry_is; run_is = run_is })
