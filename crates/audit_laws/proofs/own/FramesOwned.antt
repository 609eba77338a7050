-- In a run each frame of the pool is of a device of the deck, and of a track that the devices come to.
use Rattle.std.proofs.Common.{arith, ◌≡◌, ◌==◌, ◌⊎◌, ℕ, Bool, true, false, List, [], ◌∷◌, map, Option, Some, None, refl, sym, subst, inl, inr}
use Rattle.std.specs.Prelude.{All, IfSome, if◌then◌else◌}
use Rattle.std.specs.Map.{lookup_entry, remove_entry, set_value}
use Rattle.std.specs.Option.{option_map_or}
use Rattle.std.proofs.lemmas.Bool.{cond_both, eq-eqb, eqb-true}
use Rattle.std.proofs.lemmas.List.Elements.{All-cons, All-nil}
use Rattle.ckd_types.specs.declared.paths.Side.{Side}
use Rattle.deck_text.specs.DeckLines.{DeckLines}
use Rattle.loss_model.specs.declared.Loss.{Loss}
use Rattle.loss_model.specs.declared.Loss.TheVariants as losses
use Rattle.track_image.specs.Image.{Image}
use Rattle.device_outside.specs.Interaction.{Interaction, Done, and_then}
use Rattle.device_outside.specs.Keeper.{reply}
use Rattle.device_outside.specs.Pool as O
use Rattle.device_outside.specs.Pool.{AnswerTo, Call, Frame, Pool, after, all_waiting, answer, evicted, frames_wanted, grants, in_front, is_listed, is_of, less_frame, frame_removed}
use Rattle.device_outside.specs.Told as Heard
use Rattle.device_outside.specs.Told.{Calls, Told, calls_of, hold, told_read, read_fails, told_write, write_fails}
use Rattle.device_defs.specs.Command.{command}
use Rattle.device_defs.specs.Contents.{by_plain}
use Rattle.device_defs.specs.Cutting.{power, reset}
use Rattle.device_defs.specs.Events.{background, lose, second}
use Rattle.device_defs.specs.Marks.{MarksDevice}
use Rattle.device_defs.specs.Losses.{over}
use Rattle.device_defs.specs.Orders as L
use Rattle.device_defs.specs.Orders.{given_up, lend, lent_to, with_tracks}
use Rattle.device_defs.specs.Store.{tracks_of}
use Rattle.device_laws.proofs.walks.Within.{Policy, always, Outer, Within, within_done, within_try, within_ask, within_read, within_write, within_tell, within_then, within_weaker, within_outer}
use Rattle.device_laws.proofs.walks.Moves.{Half}
use Rattle.device_laws.proofs.walks.Writes.{Stages}
use Rattle.device_laws.proofs.walks.Events.{Reaches, Begins, Anywhere, reaches_any, command_leads, second_leads, background_leads, lose_leads, power_leads, reset_leads, quiet_leaves}
use Rattle.deck_audit.specs.Device.{outline_of}
use Rattle.deck_audit.specs.State.{outlines}
use Rattle.deck_audit.specs.Place.{is_declared}
use Rattle.subsystem_defs.specs.declared.end.EventEnd.{EventEnd}
use Rattle.subsystem_defs.specs.declared.end.EventEnd.TheVariants as ends
use Rattle.subsystem_defs.specs.declared.event.Event.{Event}
use Rattle.subsystem_defs.specs.declared.event.Event.TheVariants as events
use Rattle.subsystem_defs.specs.Decks as D
use Rattle.subsystem_defs.specs.Decks.{opened, run_of}
use Rattle.subsystem_defs.specs.Deeds.{Asks, Becomes, Each, Ends, Lends, Repairs, deed, end_of, ends_done}
use Rattle.subsystem_defs.specs.Happening as H
use Rattle.subsystem_defs.specs.Happening.{MarksDeed, Talk, asks, becomes, behind_outcome, happens, happens_by, held_with, joined, lends, replaced, replaced_at, replaced_by, sweep, told_to, unpaired, unpaired_at, unpaired_by}
use Rattle.subsystem_defs.specs.Lines.{Logged, asked_by, run_lines}
use Rattle.subsystem_defs.specs.Subsystem.{Mounted, Subsystem, devices_of, mounted_in, number_of, unfailing}
use Rattle.subsystem_laws.proofs.DeedWalk.{IsDeedwise, Stands, deed_is}
use Rattle.subsystem_laws.proofs.RunLines.{AnyEvent, Goes, lines_keep, logs_end}
use Rattle.subsystem_laws.proofs.Walks.{AreSo, IsKept, device_so, event_so, mounted_so, replaced_so, unpaired_so}
use Rattle.ckd_chain.specs.State.{ChainState}
use Rattle.audit_laws.specs.Standing.{FramesAreDeclared, audited, stand}
use Rattle.audit_laws.proofs.own.Ties.{Tie, Tied, event_tied, numbers_in, opened_tied, replaced_tied, ties, unpaired_tied}

-- a device wants frames of its own tracks alone, and of these
abbrev pub own : (ℕ → Type 0) → ℕ → Policy (Unit {0})
own T n = record always { wants = λ device t. (device ≡ n) × T t }

abbrev pub Own : {R S A : Type 0} → (ℕ → Type 0) → ℕ → Interaction R Image S A → Type 0
Own T n i = Within (own T n) (Outer (own T n)) (λ k s a. Unit {0}) tt i

-- Frames of devices with a number of these

abbrev pub IsOneOf : List ℕ → ℕ → Type 0
IsOneOf [] n = ⊥
IsOneOf (k ∷ ks) n = (k ≡ n) ⊎ IsOneOf ks n

module _ (P T : ℕ → Type 0) where
  abbrev pub AllOf : List Frame → Type 0
  AllOf [] = Unit {0}
  AllOf (f ∷ fs) = (P f.0.0 × T f.0.1) × AllOf fs

  removed_of : (test : ℕ × ℕ → Bool) (fs : List Frame) → AllOf fs → AllOf (remove_entry test fs)
  removed_of test [] a = tt
  removed_of test (f ∷ fs) a = grind (arith, removed_of test fs a.1, cond_both)

  set_of : (test : ℕ × ℕ → Bool) (fs : List Frame) (m : Bool) → AllOf fs → AllOf (set_value test fs m)
  set_of test [] m a = tt
  set_of test (f ∷ fs) m a = grind (arith, set_of test fs m a.1, cond_both)

  abbrev IsOf : Frame → Type 0
  IsOf f = P f.0.0 × T f.0.1

  looked_of : (test : ℕ × ℕ → Bool) (fs : List Frame) → AllOf fs → IfSome (lookup_entry test fs) IsOf
  looked_of test [] a = tt
  looked_of test (f ∷ fs) a = grind (arith, looked_of test fs a.1, cond_both)

  front_by : (o : Option Frame) (fs rest : List Frame) → IfSome o IsOf → AllOf fs → AllOf rest → AllOf (option_map_or (λ f. f ∷ rest) o fs)
  front_by o fs rest p a b = grind arith

  front_of : (fs : List Frame) (d t : ℕ) → AllOf fs → AllOf (in_front fs d t)
  front_of fs d t a = front_by (lookup_entry (is_of d t) fs) fs (frame_removed fs d t) (looked_of (is_of d t) fs a) a (removed_of (is_of d t) fs a)

  module _ (n : ℕ) (has : P n) where
    after_of : (p : Pool) (call : Call) (a : AnswerTo call) → Outer (own T n) call → AllOf p.frames → AllOf (after p call a).frames
    unfolding O.after
    after_of p call a own all = grind (arith, front_of, cond_both, removed_of, set_of)

    read_of : (w : Told) (side : Side) → AllOf w.pool.frames → AllOf (told_read w side).pool.frames
    read_of w side all = grind arith

    write_of : (w : Told) (side : Side) → AllOf w.pool.frames → AllOf (told_write w side).pool.frames
    write_of w side all = grind arith

    -- behind a device's own event
    within_of : {S A : Type 0} {q : Unit {0} → S → A → Type 0} {k : Unit {0}} {i : Interaction Bool Image S A} →
        Within (own T n) (Outer (own T n)) q k i → (w : Told) → AllOf w.pool.frames → AllOf (hold true i w).told.pool.frames
    unfolding Heard.hold
    within_of (within_done x) w all = all
    within_of (within_try x) w all = within_of (x true refl) w all
    within_of (within_ask {call = call} m x) w all =
        let a = answer w.pool call in within_of (x a) (record w { pool = after w.pool call a }) (after_of w.pool call a m all)
    within_of {k = k} (within_read {side = side} x) w all =
        within_of (x (if read_fails (calls_of w side) then None else Some true) k refl) (told_read w side) (read_of w side all)
    within_of {k = k} (within_write {side = side} x) w all =
        within_of (x (if write_fails (calls_of w side) then false else true) k refl) (told_write w side) (write_of w side all)
    within_of (within_tell {m = m} x) w all = within_of (x (reply m) refl) w all

    held_of : {S A : Type 0} {i : Interaction Bool Image S A} → Own T n i → (w : Told) → AllOf w.pool.frames → AllOf (hold true i w).told.pool.frames
    held_of x w all = within_of x w all

-- Deeds

module _ (P T : ℕ → Type 0) where
  abbrev OwnTalk : {A : Type 0} → MarksDevice → Talk A → Type 0
  OwnTalk d talk = Own T d.store.device talk

  abbrev KeepsFrames : Subsystem → MarksDeed → Type 0
  KeepsFrames s (Ends end) = Unit {0}
  KeepsFrames s (Becomes d end) = Unit {0}
  KeepsFrames s (Asks d talk) = OwnTalk d talk
  KeepsFrames s (Each pool f) = (AllOf P T s.pool.frames → AllOf P T pool.frames) × ((d : MarksDevice) → OwnTalk d (f d))
  KeepsFrames s (Repairs pool) = AllOf P T s.pool.frames → AllOf P T pool.frames
  KeepsFrames s (Lends a b) = Unit {0}

  -- each device that is mounted has such a number
  abbrev AreSome : List Mounted → Type 0
  AreSome [] = Unit {0}
  AreSome (m ∷ ms) = P (number_of m) × AreSome ms

  swept_of : (f : MarksDevice → Talk (Unit {0})) → ((d : MarksDevice) → OwnTalk d (f d)) → (ms : List Mounted) → AreSome ms → (pool : Pool) →
      AllOf P T pool.frames → AllOf P T (sweep f ms pool).pool.frames
  unfolding H.sweep
  swept_of f own [] has pool all = all
  swept_of f own (m ∷ ms) has pool all =
      swept_of f own ms has.1 (held_with pool m (f m.device)).told.pool
      (held_of P T (number_of m) has.0 (own m.device) (told_to pool m) all)

  some_at : (ms : List Mounted) (n : ℕ) (m : Mounted) → mounted_in ms n ≡ Some m → AreSome ms → (P n) × (number_of m ≡ n)
  some_at [] n m is has = absurd (cc)
  some_at (k ∷ ms) n m is has = grind (arith, some_at ms n m, eqb-true)

  joined_of : (s : Subsystem) (n : ℕ) (volume : Calls) (o : Option Mounted) → (joined s n volume o).pool ≡ s.pool
  joined_of s n volume o = grind arith

  asks_of : (s : Subsystem) (d : MarksDevice) (talk : Talk (Option EventEnd)) → OwnTalk d talk → AreSome s.mounted → AllOf P T s.pool.frames →
      (o : Option Mounted) → mounted_in s.mounted d.store.device ≡ o → AllOf P T (asks s d.store.device o talk).behind.pool.frames
  asks_of s d talk own has all (Some m) there = held_of P T d.store.device (some_at s.mounted d.store.device m there has).0 own (told_to s.pool m) all
  asks_of s d talk own has all None there = all

  lend_own : (n : ℕ) (d : MarksDevice) (to : ℕ) → Own T n (lend by_plain d to)
  unfolding L.lend
  lend_own n d to =
      quiet_leaves {w = own T n} by_plain {q = λ k e. Unit {0}} (λ k e t m. tt) {n = tt} d
      (λ z. Done (with_tracks z (lent_to (over (tracks_of z.store) (given_up by_plain) z.store) to)) tt) (within_done tt)

  lends_of : (s : Subsystem) (a b : ℕ) → AreSome s.mounted → AllOf P T s.pool.frames → (o : Option Mounted) → mounted_in s.mounted b ≡ o →
      AllOf P T (lends s a b o).pool.frames
  lends_of s a b has all (Some m) there =
      let o = held_with s.pool m (lend by_plain m.device a) in
      let z = behind_outcome s b o in
      let found = some_at s.mounted b m there has in
      subst (λ (p : Pool). AllOf P T p.frames) (sym (joined_of z a o.told.a (mounted_in z.mounted a)))
      (held_of P T (number_of m) (subst P (sym found.1) found.0) (lend_own (number_of m) m.device a) (told_to s.pool m) all)
  lends_of s a b has all None there = all

  happens_of : (s : Subsystem) (x : MarksDeed) → KeepsFrames s x → AreSome s.mounted → AllOf P T s.pool.frames →
      AllOf P T (happens_by s x).behind.pool.frames
  happens_of s x h has all = grind (arith, asks_of, swept_of, lends_of)

  -- an answer asks nothing
  answered : {X Y : Type 0} (d : MarksDevice) (talk : Talk X) (f : X → Y) → OwnTalk d talk → OwnTalk d (and_then talk (λ z a. Done z (f a)))
  answered d talk f x = within_then (λ z a. Done z (f a)) x (λ k z a g. within_done tt)

  repaired_of : (p q : Pool) (b : Bool) → q.frames ≡ p.frames → AllOf P T p.frames → AllOf P T (if b then q else p).frames
  repaired_of p q b same all = grind arith

  -- of devices of which this is so, whose commands and queues come to these tracks
  module _ (on : ChainState → ℕ → Type 0) (reach : (n : ℕ) → Reaches (own T n) n on) (K L : MarksDevice → Type 0)
      (near : (d : MarksDevice) → K d → L d → Begins on d.chain × Stages (own T d.store.device) d.store.device d.store.queue) where
    of_one : (Q : MarksDevice → Type 0) (s : Subsystem) → AreSo Q s.mounted → (d : MarksDevice) → Stands s d → Q d
    of_one Q s all d x = subst (λ (o : Option MarksDevice). IfSome o Q) x.found (device_so Q s.mounted x.number all)

    command_own : (d : MarksDevice) → Begins on d.chain → OwnTalk d (command by_plain d)
    command_own d begins = command_leads (own T d.store.device) by_plain tt d (reach d.store.device) begins (λ k e. Unit {0}) tt (λ k e m. tt)

    background_own : (d : MarksDevice) → Stages (own T d.store.device) d.store.device d.store.queue → OwnTalk d (background by_plain d)
    background_own d first = within_weaker (background_leads (own T d.store.device) by_plain tt d first) (λ k e a m. tt)

    second_own : (d : MarksDevice) → OwnTalk d (second by_plain d)
    second_own d = within_weaker (second_leads (own T d.store.device) by_plain tt d Half (λ e. absurd (cc))) (λ k e a m. tt)

    lose_own : (d : MarksDevice) (loss : Loss) → OwnTalk d (lose by_plain d loss)
    lose_own d loss = within_weaker (lose_leads (own T d.store.device) by_plain tt d loss) (λ k e a m. tt)

    power_own : (d : MarksDevice) → OwnTalk d (power by_plain d)
    power_own d = within_weaker (power_leads (own T d.store.device) by_plain tt d) (λ k e a m. tt)

    reset_own : (d : MarksDevice) (path : ℕ) → OwnTalk d (reset by_plain d path)
    reset_own d path = within_outer (within_weaker (reset_leads (own T d.store.device) Half by_plain tt d path) (λ k e a m. tt))

    frames_keep : (s : Subsystem) → AreSo K s.mounted → AreSo L s.mounted → IsDeedwise s (KeepsFrames s)
    frames_keep s so more = record {
      ended = λ end. tt;
      started = λ d x path fault. tt;
      seconded = λ d x h is. answered d (second by_plain d) (λ a. Some (ends.Second a)) (second_own d);
      commanded = λ d x whole o running.
          answered d (command by_plain d) (end_of ends.Stepped) (command_own d (near d (of_one K s so d x) (of_one L s more d x)).0);
      worked = λ d x whole.
          answered d (background by_plain d) (end_of ends.Back) (background_own d (near d (of_one K s so d x) (of_one L s more d x)).1);
      cut = λ d x path. answered d (reset by_plain d path) (λ a. Some (ends_done a)) (reset_own d path);
      lost_cache = ((λ all. tt), λ d. lose_own d losses.Cache);
      lost_store = ((λ all. all), λ d. lose_own d losses.Store);
      lost_side = λ d x side fault.
          answered d (lose by_plain d (losses.Side side)) (λ a. Some (ends_done a)) (lose_own d (losses.Side side));
      lost_power = ((λ all. tt), λ d. power_own d);
      repaired_cache = λ all. repaired_of s.pool (record s.pool { cache_up = true }) (all_waiting s.pool == 0) refl all;
      repaired_store = λ all. repaired_of s.pool (record s.pool { store_up = true }) (all_waiting s.pool == 0) refl all;
      lent = λ x y z w fault. tt;
      held = λ d x fault. tt;
      resumed = λ d x fault. tt;
    }

-- Lines

all_some : (ns : List ℕ) (ms : List Mounted) (P T : ℕ → Type 0) → map (λ (t : Tie). t.number) (ties ms) ≡ ns → ((n : ℕ) → IsOneOf ns n → P n) →
    AreSome P T ms
all_some ns [] P T are has = tt
all_some [] (m ∷ ms) P T are has = absurd (cc)
all_some (n ∷ ns) (m ∷ ms) P T are has = grind (arith, all_some ns ms P T)

module _ (T : ℕ → Type 0) (on : ChainState → ℕ → Type 0) (reach : (n : ℕ) → Reaches (own T n) n on) (K L : MarksDevice → Type 0)
    (kept : IsKept K AnyEvent) (too : IsKept L AnyEvent)
    (near : (d : MarksDevice) → K d → L d → Begins on d.chain × Stages (own T d.store.device) d.store.device d.store.queue) where
  module _ (ns : List ℕ) where
    abbrev So : Subsystem → Type 0
    So s = Tied ns (ties s.mounted) × AreSo K s.mounted × AreSo L s.mounted × AllOf (IsOneOf ns) T s.pool.frames

    abbrev Shown : Subsystem → Logged → Type 0
    Shown s t = Unit {0}

    some_of : (s : Subsystem) → Tied ns (ties s.mounted) → AreSome (IsOneOf ns) T s.mounted
    some_of s t = all_some ns s.mounted (IsOneOf ns) T t.numbers_are (λ n is. is)

    event_framed : (s : Subsystem) (e : Event) → So s → So (happens s e).behind
    unfolding H.happens
    event_framed s e q =
        let keeps = deed_is s (KeepsFrames (IsOneOf ns) T s) (frames_keep (IsOneOf ns) T on reach K L near s q.1 q.2) e in
        let frames = happens_of (IsOneOf ns) T s (deed by_plain s.pool (devices_of s) e) keeps (some_of s q.0) q.3 in
        (event_tied ns s e q.0, event_so K AnyEvent kept s q.1 e tt, event_so L AnyEvent too s q.2 e tt, frames)

    replaced_pool : (s : Subsystem) (n : ℕ) (side : Side) (o : Option Mounted) → (replaced_at s n side unfailing o).behind.pool ≡ s.pool
    replaced_pool s n side o = grind arith

    unpaired_pool : (s : Subsystem) (n : ℕ) (o : Option Mounted) → (unpaired_at s n unfailing o).behind.pool ≡ s.pool
    unpaired_pool s n o = grind arith

    still : (s z : Subsystem) → z.pool ≡ s.pool → Tied ns (ties z.mounted) → AreSo K z.mounted → AreSo L z.mounted → So s → So z
    still s z same tied so more q = (tied, so, more, rw same q.3)

    frames_go : Goes So Shown AnyEvent
    unfolding H.replaced H.unpaired
    frames_go = record {
      once = λ s e may q. (event_framed s e q, tt);
      stepped = λ s d q. (event_framed s (events.Step d) q, tt);
      idle = λ s d q. (q, tt);
      backed = λ s d q. (event_framed s (events.Back d) q, tt);
      replaces = λ s d side q. let o = mounted_in s.mounted d in (
        still s (replaced_at s d side unfailing o).behind (replaced_pool s d side o) (replaced_tied ns s d side o refl q.0)
            (replaced_so K AnyEvent kept s d side unfailing q.1 o (mounted_so K s.mounted d q.1))
            (replaced_so L AnyEvent too s d side unfailing q.2 o (mounted_so L s.mounted d q.2)) q,
        tt,
      );
      unpairs = λ s a q. let o = mounted_in s.mounted a in (
        still s (unpaired_at s a unfailing o).behind (unpaired_pool s a o) (unpaired_tied ns s a o refl q.0)
            (unpaired_so K AnyEvent kept s a unfailing q.1 o (mounted_so K s.mounted a q.1))
            (unpaired_so L AnyEvent too s a unfailing q.2 o (mounted_so L s.mounted a q.2)) q,
        tt,
      );
    }

  pub run_so : (deck : DeckLines) → AreSo K (opened deck).mounted → AreSo L (opened deck).mounted → So (numbers_in deck) (run_of deck).behind
  unfolding D.run_asked_on
  run_so deck first second =
      let ns = numbers_in deck in
      let asked = map asked_by deck.events in
      logs_end (So ns) (Shown ns) (opened deck) (run_lines asked (opened deck))
      (lines_keep (So ns) (Shown ns) (frames_go ns) asked (opened deck) (opened_tied deck, first, second, tt))

-- Any tracks

abbrev Any : {X : Type 0} → X → Type 0
Any x = Unit {0}

any_are : (ms : List Mounted) → AreSo Any ms
any_are [] = tt
any_are (m ∷ ms) = (tt, any_are ms)

any_kept : IsKept Any AnyEvent
any_kept = search arith

-- They are declared

declared_at : (ms : List Mounted) (n : ℕ) → IsOneOf (map (λ (t : Tie). t.number) (ties ms)) n →
    is_declared (map outline_of (map audited (map (λ (m : Mounted). m.device) ms))) n ≡ true
declared_at [] n is = absurd is
declared_at (m ∷ ms) n (inl same) = grind (arith, eq-eqb)
declared_at (m ∷ ms) n (inr more) = grind (arith, declared_at ms n more)

all_declared : (s : Subsystem) (fs : List Frame) → AllOf (IsOneOf (map (λ (t : Tie). t.number) (ties s.mounted))) Any fs →
    All (λ (f : Frame). is_declared (outlines (stand s [])) f.0.0 ≡ true) fs
all_declared s [] all = All-nil (λ (f : Frame). is_declared (outlines (stand s [])) f.0.0 ≡ true)
all_declared s (f ∷ fs) all =
    All-cons (λ (x : Frame). is_declared (outlines (stand s [])) x.0.0 ≡ true) f fs (declared_at s.mounted f.0.0 all.0.0) (all_declared s fs all.1)

pub frames_are_declared : (deck : DeckLines) → FramesAreDeclared (run_of deck).behind
frames_are_declared deck =
    let s = (run_of deck).behind in
    let all = any_are (opened deck).mounted in
    let q = run_so Any Anywhere (λ n. reaches_any (λ t. (refl, tt))) Any Any any_kept any_kept (λ d k l. ((λ chain t is e. tt), (λ t ts is. (refl, tt))))
    deck all all
    in
    all_declared s s.pool.frames (subst (λ (ns : List ℕ). AllOf (IsOneOf ns) Any s.pool.frames) (sym q.0.numbers_are) q.3)
