-- A device that is replayed ends the next command as the history says.
use Rattle.std.proofs.Common.{◌≡◌, ℕ, List, Option, Some, None, refl, sym, ap, subst, ◌∙◌}
use Rattle.std.specs.Prelude.{is_none, false, true}
use Rattle.ckd_types.specs.declared.channel.Ccw.{Ccw}
use Rattle.ckd_types.specs.declared.channel.CommandEnd.{CommandEnd}
use Rattle.ckd_types.specs.Ccw.{ccw_at}
use Rattle.ckd_types.specs.Parameters.{is_provisional}
use Rattle.ckd_chain.specs.State.{ChainState}
use Rattle.ckd_chain.specs.Steps.{behind, end_with, index_of}
use Rattle.ckd_rules.specs.declared.stance.Stance.{Stance}
use Rattle.ckd_rules.specs.Ends.{end_at_word}
use Rattle.ckd_rules.specs.Walk.{TrackEdit}
use Rattle.plain_defs.specs.Effect.{Effect, effect_on}
use Rattle.plain_defs.specs.History.{OpenEntry}
use Rattle.plain_defs.specs.Legal.{edit_at}
use Rattle.plain_defs.specs.PlainState.{PlainState}
use Rattle.plain_defs.specs.Program.{Part}
use Rattle.plain_device.specs.Between.{effect_of}
use Rattle.deck_audit.specs.declared.replayed.Pending.{Pending}
use Rattle.deck_audit.specs.declared.replayed.Running.{Running}
use Rattle.deck_audit.specs.declared.state.HalfWrite.{HalfWrite}
use Rattle.deck_audit.specs.Device.{AuditedDevice, edit_of, is_edit_legal, is_next_legal, loosens, may_loosen}
use Rattle.deck_audit.specs.Device.{part_of_open, plain_end, plain_end_at, words_of_open}
use Rattle.deck_audit.specs.Follows.{EndsAs, Follows, FollowsProgram, IsAt, RunsAs, pending_by}
use Rattle.deck_audit.specs.Replay as replay
use Rattle.deck_audit.specs.Replayed.{PendingState, ReplayedState, pending_of}

-- the effect of the command of a word, on the part that a device and a chain are at
module _ (p : Part) (ccws : List Ccw) (device : PlainState) (chain : ChainState) (ends : List CommandEnd) (path : ℕ)
    (at : IsAt p ccws device chain ends) where
  pub effect_is : (i : ℕ) → chain.at.next ≡ Some i
      → effect_of device path chain ≡ effect_on p.fixed p.state path p.stance (ccw_at ccws i)
  effect_is i is = rw (is, at.words, at.fixed_is, at.device_is, at.stance_is)

  -- its end
  pub end_is : (i : ℕ) → chain.at.next ≡ Some i → end_with chain (effect_of device path chain).outcome
      ≡ end_at_word i (ccw_at ccws i) (effect_on p.fixed p.state path p.stance (ccw_at ccws i)).outcome
  end_is i is =
      ap (λ (n : Option ℕ). end_at_word (index_of n) (ccw_at chain.ccws (index_of n)) (effect_of device path chain).outcome) is
      ∙ ap (λ (l : List Ccw). end_at_word i (ccw_at l i) (effect_of device path chain).outcome) at.words
      ∙ ap (λ (e : Effect). end_at_word i (ccw_at ccws i) e.outcome) (effect_is i is)

  -- the end of the next command, where there is one
  pub plain_is : (next : Option ℕ) → chain.at.next ≡ next → (q : Running) → q.chain ≡ chain → q.path ≡ path → (r : ReplayedState)
      → r.device ≡ device → replay.next_end_at r q next ≡ plain_end_at path ccws p next
  plain_is None is q chain_is path_is r device_is = refl
  plain_is (Some i) is q chain_is path_is r device_is = rw (chain_is, path_is, device_is) (ap Some (end_is i is))

  pub edit_is : (i : ℕ) → chain.at.next ≡ Some i → (effect_of device path chain).edit ≡ edit_at path ccws p p.next
  edit_is i is = ap (λ (e : Effect). e.edit) (effect_is i is)
      ∙ ap (λ (n : Option ℕ). edit_at path ccws p n) (sym is ∙ at.next_is)

-- the same program of a device whose waiting resets, half write or loan are others, with another chain
pub runs_beside : (a : AuditedDevice) (o : OpenEntry) (device : PlainState) (q : Running) (before chain : ChainState) (waiting : List ℕ) (half : HalfWrite)
    (lent : Option ℕ) → RunsAs a o device q before
    → RunsAs (record a { history = record a.history { waiting = waiting }; half = half; lent = lent }) o device (record q { chain = chain }) before
runs_beside a o device q before chain waiting half lent r = record {
  path_is = r.path_is;
  ordinal_is = r.ordinal_is;
  at = r.at;
  order = r.order;
  word = r.word;
  at_word = r.at_word;
}

some_end : (r : ReplayedState) (o : Running) (next : Option ℕ) → is_none next ≡ false
    → Some (end_with o.chain (replay.effect_at r o).outcome) ≡ replay.next_end_at r o next
some_end r o (Some i) more = refl
some_end r o None more = absurd (cc)

-- a program that isn't over has a next command, whose end is this
pub end_here : (v s : ReplayedState) (o : Running) (e : CommandEnd) → v ≡ s → v.running ≡ Some o
    → e ≡ end_with o.chain (replay.effect_at v o).outcome → is_none o.chain.at.next ≡ false → Some e ≡ replay.next_end s
end_here v s o e same runs is more =
    ap (λ (x : CommandEnd). Some x) is
    ∙ some_end v o o.chain.at.next more
    ∙ ap (λ (x : Option Running). replay.next_end_by v x) (sym runs)
    ∙ ap (λ (x : ReplayedState). replay.next_end x) same

-- no program runs, or it is over
pub next_of_none : (r : ReplayedState) (w : Option PendingState) → r.pending ≡ w → r.running ≡ None → replay.IsNext r None w None
next_of_none r w waits none = (
  ap (λ (x : Option Running). replay.next_end_by r x) (sym none),
  ap (λ (x : Option PendingState). record r { running = None; pending = x }) (sym waits)
      ∙ ap (λ (x : Option Running). record r { running = x }) (sym none) ∙ ap (λ (x : Option Running). replay.ended_by r x) (sym none),
)

pub next_of_over : (r : ReplayedState) (o : Running) (w : Option PendingState) → r.pending ≡ w → r.running ≡ Some o → is_none o.chain.at.next ≡ true →
    replay.IsNext r None w (Some o)
next_of_over r o w waits runs over = by_next o.chain.at.next refl over where
  by_next : (next : Option ℕ) → o.chain.at.next ≡ next → is_none next ≡ true → replay.IsNext r None w (Some o)
  by_next (Some i) is over = absurd (cc)
  by_next None is over = (
    sym (ap (λ (x : Option Running). replay.next_end_by r x) runs ∙ ap (λ (n : Option ℕ). replay.next_end_at r o n) is),
    ap (λ (x : Option PendingState). record r { running = Some o; pending = x }) (sym waits)
        ∙ ap (λ (x : Option Running). record r { running = x }) (sym runs)
        ∙ sym (ap (λ (x : Option Running). replay.ended_by r x) runs ∙ ap (λ (n : Option ℕ). replay.ended_at r o n) is),
  )

-- its next command
pub next_of_more : (r : ReplayedState) (o : Running) (e : CommandEnd) (p : Pending) (c : ChainState) → r.running ≡ Some o → is_none o.chain.at.next ≡ false →
    e ≡ end_with o.chain (replay.effect_at r o).outcome → c ≡ behind o.chain (replay.effect_at r o).outcome →
    pending_of p ≡ record { edit = (replay.effect_at r o).edit; paths = (replay.effect_at r o).paths; provisional = is_provisional o.chain.at.stance.extent } →
    replay.IsNext r (Some e) (Some (pending_of p)) (Some (record o { chain = c }))
next_of_more r o e p c runs more is goes pends = by_next o.chain.at.next refl more where
  by_next : (next : Option ℕ) → o.chain.at.next ≡ next → is_none next ≡ false →
      replay.IsNext r (Some e) (Some (pending_of p)) (Some (record o { chain = c }))
  by_next None at more = absurd (cc)
  by_next (Some i) at more = (
    ap (λ (x : CommandEnd). Some x) is ∙ sym (ap (λ (x : Option Running). replay.next_end_by r x) runs ∙ ap (λ (n : Option ℕ). replay.next_end_at r o n) at),
    ap (λ (x : ChainState). record r { running = Some (record o { chain = x }); pending = Some (pending_of p) }) goes
        ∙ ap (λ (w : PendingState). record r { running = Some (record o { chain = behind o.chain (replay.effect_at r o).outcome }); pending = Some w }) pends
        ∙ sym (ap (λ (x : Option Running). replay.ended_by r x) runs ∙ ap (λ (n : Option ℕ). replay.ended_at r o n) at),
  )

program_as : (r : ReplayedState) (a : AuditedDevice) (o : OpenEntry) (q : Running) (w : Option PendingState) → Follows r a → r.running ≡ Some q
    → r.pending ≡ w → a.history.running ≡ Some o → FollowsProgram a r.device (Some q) w (Some o)
program_as r a o q w f runs waits entry = subst (λ (x : Option OpenEntry). FollowsProgram a r.device (Some q) w x) entry
    (subst (λ (x : Option PendingState). FollowsProgram a r.device (Some q) x a.history.running) waits
    (subst (λ (x : Option Running). FollowsProgram a r.device x r.pending a.history.running) runs f.program))

module _ (r : ReplayedState) (a : AuditedDevice) (o : OpenEntry) (q : Running) (f : Follows r a)
    (runs : r.running ≡ Some q) (waits_not : r.pending ≡ None) (entry : a.history.running ≡ Some o) where
  pub runs_as : RunsAs a o r.device q q.chain
  runs_as = program_as r a o q None f runs waits_not entry

  -- the end of the running program's next command is that of the plain device
  pub end_follows : replay.next_end r ≡ plain_end a o
  end_follows = rw (runs, ← runs_as.at.next_is) (plain_is (part_of_open a o) (words_of_open a o) r.device q.chain o.ends o.path runs_as.at
      q.chain.at.next refl q refl runs_as.path_is r refl)

  pub ended_is : replay.ended_next r ≡ replay.ended_of r q
  ended_is = ap (λ (x : Option Running). replay.ended_by r x) runs ∙ ap (λ (n : Option ℕ). replay.ended_at r q n) runs_as.at_word

  -- it is had with nothing done to the device
  pub ended_follows : Follows (replay.ended_next r) a
  ended_follows = subst (λ (s : ReplayedState). Follows s a) (sym ended_is) (record {
    number_is = f.number_is;
    device_is = f.device_is;
    half_is = f.half_is;
    lent_is = f.lent_is;
    program = rw entry (record {
      before = q.chain;
      runs = runs_beside a o r.device q q.chain _ a.history.waiting a.half a.lent runs_as;
      chain_is = ap (λ (path : ℕ). behind q.chain (effect_of r.device path q.chain).outcome) runs_as.path_is;
      pending_is = ap (λ (path : ℕ). pending_by (effect_of r.device path q.chain) q.chain) runs_as.path_is;
    });
  })

-- What stands behind an end

module _ (r : ReplayedState) (a : AuditedDevice) (o : OpenEntry) (q : Running) (w : PendingState) (f : Follows r a)
    (runs : r.running ≡ Some q) (waits : r.pending ≡ Some w) (entry : a.history.running ≡ Some o) where
  pub ends_as : EndsAs a o r.device q w
  ends_as = program_as r a o q (Some w) f runs waits entry

  edits : w.edit ≡ edit_of a o
  edits = ap (λ (x : PendingState). x.edit) ends_as.pending_is
      ∙ edit_is (part_of_open a o) (words_of_open a o) r.device ends_as.before o.ends o.path ends_as.runs.at ends_as.runs.word
      ends_as.runs.at_word

  provisional : w.provisional ≡ is_provisional (part_of_open a o).stance.extent
  provisional = ap (λ (x : PendingState). x.provisional) ends_as.pending_is
      ∙ ap (λ (z : Stance). is_provisional z.extent) ends_as.runs.at.stance_is

  legal_by : (p : Part) (e : Option TrackEdit) → replay.is_edit_legal p.state (is_provisional p.stance.extent) e ≡ is_edit_legal p e
  legal_by p None = refl
  legal_by p (Some e) = refl

  loosens_by : (p : Part) (e : Option TrackEdit) (t : ℕ) → replay.loosens p.state (is_provisional p.stance.extent) e t ≡ loosens p e t
  loosens_by p None t = refl
  loosens_by p (Some e) t = refl

  -- whether the command may edit its track
  pub legal_follows : replay.is_legal r ≡ is_next_legal a a.history.running
  legal_follows = rw (waits, entry, edits, provisional, ends_as.runs.at.device_is) (legal_by (part_of_open a o) (edit_of a o))

  -- whether a track becomes loose with it
  pub loosens_follows : (t : ℕ) → replay.may_loosen r t ≡ may_loosen a a.history.running t
  loosens_follows t = rw (waits, entry, edits, provisional, ends_as.runs.at.device_is) (loosens_by (part_of_open a o) (edit_of a o) t)
