-- A device that is replayed answers a START as the history says, and starts the same program.
use Rattle.std.proofs.Common.{◌≡◌, ◌≤◌, ◌+◌, ◌-◌, [], ℕ, suc, Option, Some, None, Bool, false, length, refl, arith, ap}
use Rattle.std.specs.Prelude.{◌||◌, ◌==◌, nat_le, slice_index_or}
use Rattle.std.specs.List.{list_any}
use Rattle.ckd_types.specs.declared.paths.Owner.{Owner}
use Rattle.plain_defs.specs.History.{OpenEntry}
use Rattle.plain_defs.specs.Journal.{planned, program_of}
use Rattle.plain_defs.specs.PlainState.{PlainState}
use Rattle.report_text.specs.declared.answers.StartAnswer.TheVariants as start
use Rattle.deck_audit.specs.declared.replayed.Running.{Running}
use Rattle.deck_audit.specs.Device.{AuditedDevice, four_paths, free_answer, has_left, held_answer, lent_answer}
use Rattle.deck_audit.specs.Device.{may_start, next_ordinal, own_runs, running_answer, start_answer}
use Rattle.deck_audit.specs.Follows.{CountsAs, Follows, FollowsProgram}
use Rattle.deck_audit.specs.Replay as replayed
use Rattle.deck_audit.specs.Replayed.{PendingState, ReplayedState}

either_of : (a b c d : Bool) → (((a || b) || c) || d) ≡ (a || (b || (c || (d || false))))
either_of a b c d = grind arith

-- the same path runs, or none
runs_same : (a : AuditedDevice) (d : PlainState) (running : Option Running) (pending : Option PendingState) (entry : Option OpenEntry)
    → FollowsProgram a d running pending entry → (path : ℕ) → replayed.own_runs running path ≡ own_runs entry path
runs_same a d None pending None f path = refl
runs_same a d None pending (Some o) f path = absurd f
runs_same a d (Some q) None None f path = absurd f
runs_same a d (Some q) (Some w) None f path = absurd f
runs_same a d (Some q) None (Some o) f path = ap (λ (n : ℕ). n == path) f.path_is
runs_same a d (Some q) (Some w) (Some o) f path = ap (λ (n : ℕ). n == path) f.runs.path_is

module _ (r : ReplayedState) (a : AuditedDevice) (f : Follows r a) (c : CountsAs r a) where
  module _ (idle : a.history.running ≡ None) where
    pub count_is : (path : ℕ) → 1 ≤ path → path ≤ 4 → replayed.started_on r path + 1 ≡ next_ordinal a path
    count_is path least most =
        let is = rw idle at (c path least most) in
        omega (arith, is)

    pub left_is : (path : ℕ) → 1 ≤ path → path ≤ 4 → replayed.has_left a.plans r path ≡ has_left a path
    left_is path least most =
        let same : suc (replayed.started_on r path) ≡ next_ordinal a path = omega (arith, count_is path least most) in
        ap (λ (n : ℕ). nat_le n (length (planned a.plans path))) same

    pub program_is : (path : ℕ) → 1 ≤ path → path ≤ 4 → replayed.next_program a.plans r path ≡ program_of a.plans path (next_ordinal a path)
    program_is path least most =
        let same : replayed.started_on r path ≡ next_ordinal a path - 1 = omega (arith, count_is path least most) in
        ap (λ (n : ℕ). slice_index_or (planned a.plans path) n []) same

    may_is : (path : ℕ) → 1 ≤ path → path ≤ 4 → replayed.may_start a.plans r path ≡ may_start a path
    may_is path least most = rw (left_is path least most, program_is path least most, f.device_is)

    any_is : replayed.any_may_start a.plans r ≡ list_any (may_start a) four_paths
    any_is = rw (
      may_is 1 (omega arith) (omega arith),
      may_is 2 (omega arith) (omega arith),
      may_is 3 (omega arith) (omega arith),
      may_is 4 (omega arith) (omega arith),
    ) (either_of (may_start a 1) (may_start a 2) (may_start a 3) (may_start a 4))

    held_is : (owner : Option Owner) → replayed.held_answer a.plans r owner ≡ held_answer a owner
    held_is None = refl
    held_is (Some owner) = rw any_is

    free_is : (path : ℕ) → 1 ≤ path → path ≤ 4 → replayed.free_answer a.plans r path ≡ free_answer a path
    free_is path least most =
        rw (held_is r.device.paths.owner, may_is path least most, left_is path least most, count_is path least most, f.device_is)

  module _ (path : ℕ) (least : 1 ≤ path) (most : path ≤ 4) where
    running_is : (running : Option Running) (pending : Option PendingState) (entry : Option OpenEntry) → a.history.running ≡ entry
        → FollowsProgram a r.device running pending entry
        → replayed.running_answer a.plans r path running ≡ running_answer a path entry
    running_is None pending None idle p = free_is idle path least most
    running_is None pending (Some o) idle p = absurd p
    running_is (Some q) None None idle p = absurd p
    running_is (Some q) (Some w) None idle p = absurd p
    running_is (Some q) None (Some o) idle p = ap (λ (n : ℕ). start.Busy n) p.path_is
    running_is (Some q) (Some w) (Some o) idle p = ap (λ (n : ℕ). start.Busy n) p.runs.path_is

    lent_is : (lent : Option ℕ) → replayed.lent_answer a.plans r path lent ≡ lent_answer a path lent
    lent_is (Some of) = refl
    lent_is None = running_is r.running r.pending a.history.running refl f.program

    pub answer_follows : replayed.start_answer a.plans r path ≡ start_answer a path
    answer_follows = rw (runs_same a r.device r.running r.pending a.history.running f.program path, f.lent_is, lent_is a.lent)
