-- The reads and writes of whole events: notices and what is told at the end make none.
use Rattle.std.proofs.Common.{◌≡◌, ◌≤◌, ◌==◌, ℕ, Bool, true, false, List, Option, Some, None, refl, sym, ap, subst, ◌∙◌, arith}
use Rattle.ckd_chain.specs.State.{ChainState}
use Rattle.ckd_chain.specs.Steps.{need_of}
use Rattle.loss_model.specs.declared.Loss.{Loss}
use Rattle.plain_defs.specs.History.{OpenEntry, has_used}
use Rattle.track_cache.specs.declared.frames.Frame.{Frame}
use Rattle.track_image.specs.Image.{Image}
use Rattle.device_outside.specs.Interaction.{Interaction, Done, and_then}
use Rattle.device_outside.specs.Keeper.{Hearing}
use Rattle.device_outside.specs.Outside.{Outside, Ran}
use Rattle.device_defs.specs.declared.answers.Did.{Did}
use Rattle.device_defs.specs.declared.answers.SecondEnd.{SecondEnd}
use Rattle.device_defs.specs.declared.answers.Stepped.{Stepped}
use Rattle.device_defs.specs.Background.{work}
use Rattle.device_defs.specs.Command as N
use Rattle.device_defs.specs.Command.{command_by, command}
use Rattle.device_defs.specs.Contents.{Contents, contents}
use Rattle.device_defs.specs.Cutting as U
use Rattle.device_defs.specs.Cutting.{half_cut, path_cut, reset_by, reset, powered_off, power}
use Rattle.device_defs.specs.Device.{Device, with_store, event_begun, event_ended, quiet_event, event}
use Rattle.device_defs.specs.Events as E
use Rattle.device_defs.specs.Events.{losing, lose, command_ended, second_ended, second_of, second, background}
use Rattle.device_defs.specs.Image.{Imaged}
use Rattle.device_defs.specs.Memory.{had_by}
use Rattle.device_defs.specs.Owed.{hear, waiting_count}
use Rattle.device_defs.specs.Peek as K
use Rattle.device_defs.specs.Peek.{Peeked, peek_usage, peeked, is_in_half, peek_image, peek_half, peek_track, peek}
use Rattle.device_defs.specs.Second.{second_part}
use Rattle.device_defs.specs.Store.{Origin, OfCommand, OfCut, OfBackground, HalfWrite, Store, tracks_of, takes_b, frame_at, is_lost}
use Rattle.device_defs.specs.Transfers.{SecondPart, Within, both}
use Rattle.device_laws.specs.Whole.{WholeDevice}
use Rattle.device_laws.proofs.BasedEvents.{command_based, second_based, background_based, lose_based, peek_based, power_based, reset_body}
use Rattle.device_laws.proofs.QuietParts.{hear_quiet, ended_quiet, losing_quiet, cut_quiet, second_moves}
use Rattle.device_laws.specs.Moved.{
  counted_by,
  sides_up,
  sides_writing,
  half_writing,
  second_writing,
  NoTransfers,
  CommandTransfers,
  LookTransfers,
  SecondTransfers,
  WorkTransfers,
  CommandMoves,
  SecondMoves,
  WorkMoves,
  LookMoves,
  MovesNothing,
  AsksNoMore,
  HitReadsNone,
}
use Rattle.device_laws.proofs.counted.Counting.{Counts, counts_done, counts_try, counts_then, counts_of, counts_first, counts_past, counts_if, ran_moved}
use Rattle.device_laws.proofs.counted.ReadCounts.{image_reads}
use Rattle.device_laws.proofs.counted.SidesLeft.{Same, same_up, same_takes, same_writing, hear_same}
use Rattle.device_laws.proofs.counted.WorkCounts.{work_counts}
use Rattle.device_laws.proofs.counted.CommandCounts.{command_so, hit_so, hear_keeps}

within_second : (n r w : ℕ) → r ≤ 0 → n ≤ w → w ≤ n → SecondTransfers n r w
within_second n r w none low high = (omega (arith, none), omega (arith, low, high))

module _ {F P H R : Type 0} (c : Contents F P H R) where
  module _ {A : Type 0} (q : ℕ → ℕ → A → Type 0) where
    abbrev By : ℕ → ℕ → Device F P H → A → Type 0
    By r w z a = q r w a

    over_counts : (d y : Device F P H) (a : A) (r w : ℕ) → q r w a → Counts By r w (event_ended c d y a)
    over_counts d y a r w h = counts_past _ (ended_quiet c (waiting_count c d.store) y.store) (λ z _. counts_done h)

    quiet_counts : (d : Device F P H) (body : Device F P H → Interaction R Image (Device F P H) A) → Counts By 0 0 (body (event_begun d)) →
        Counts By 0 0 (quiet_event c d body)
    quiet_counts d body h = counts_then (event_ended c d) h (λ r w y a k. over_counts d y a r w k)

    event_counts : (d : Device F P H) (body : Device F P H → Interaction R Image (Device F P H) A) →
        ((s : Store F P H) → Same d.store s → Counts By 0 0 (body (record (event_begun d) { store = s }))) → Counts By 0 0 (event c d body)
    event_counts d body h =
        quiet_counts d (λ z. and_then (hear c 960 z.store) (λ s _. body (record z { store = s })))
        (counts_first _ (hear_quiet c 960 (event_begun d).store)
        (hear_same c 960 (event_begun d).store).holds
        (λ s _ e. h s (record { a = e.a; b = e.b; held = e.held; half = e.half; cylinders = e.cylinders })))

  -- A command

  pub command_counts : (d : Device F P H) →
      Counts (λ r w z (a : Option Stepped). CommandTransfers (tracks_of d.store) (sides_up d.store) r w) 0 0 (command c d)
  unfolding N.command
  command_counts d =
      let n = tracks_of d.store in
      let up = sides_up d.store in
      counts_try (λ ok. counts_if ok
      (λ _. event_counts (λ r w (a : Option Stepped). CommandTransfers n up r w) d (λ z. command_by c z z.history.running z.chain)
      (λ s e.
      rw (← e.cylinders) (rw (← (same_up d.store s e)) (command_so c (record (event_begun d) { store = s }) d.history.running d.chain))))
      (λ _. counts_done (record { most_reads = omega arith; most_writes = omega arith })))

  -- The second part of a write

  module _ (q : ℕ → ℕ → Type 0) (r w : ℕ) (h : q r w) where
    abbrev Ends : ℕ → ℕ → Device F P H → SecondEnd → Type 0
    Ends m n z a = q m n

    command_over : (d : Device F P H) (t : ℕ) (o : Option OpenEntry) (k : Option ChainState) (done : Bool) → Counts Ends r w (command_ended c d t o k done)
    command_over d t (Some o) (Some chain) done = counts_done h
    command_over d t (Some o) None done = counts_done h
    command_over d t None k done = counts_done h

    origin_over : (d : Device F P H) (t : ℕ) (origin : Origin) (done : Bool) → Counts Ends r w (second_ended c d t origin done)
    origin_over d t (OfCommand bypass e) done = command_over d t d.history.running d.chain done
    origin_over d t (OfCut bypass) done = counts_done h
    origin_over d t OfBackground done = counts_done h

  second_so : (d : Device F P H) (o : Option (HalfWrite H)) →
      Counts (λ r w z (a : SecondEnd). SecondTransfers (half_writing d.store o) r w) 0 0 (second_of c d o)
  second_so d None = counts_done (refl, refl)
  second_so d (Some h) =
      let n = both (takes_b d.store) false in
      counts_then _ (counts_of (Within d.store SecondPart) 0 0 (second_part c d.store h) (second_moves c d.store h).moves)
      (λ r w s done k.
      origin_over (SecondTransfers n) r w (within_second n r w k.most_reads k.least_writes k.most_writes) (with_store d s) h.track h.origin done)

  half_same : (s z : Store F P H) → Same s z → second_writing z ≡ second_writing s
  half_same s z e = ap (half_writing z) e.half ∙ by_half s.half where
    by_half : (o : Option (HalfWrite H)) → half_writing z o ≡ half_writing s o
    by_half (Some h) = ap (λ (x : Bool). both x false) (same_takes s z e)
    by_half None = refl

  pub second_counts : (d : Device F P H) → Counts (λ r w z (a : SecondEnd). SecondTransfers (second_writing d.store) r w) 0 0 (second c d)
  unfolding E.second
  second_counts d =
      event_counts (λ r w (a : SecondEnd). SecondTransfers (second_writing d.store) r w) d (λ z. second_of c z z.store.half)
      (λ s e.
      rw (← (half_same d.store s e)) (second_so (record (event_begun d) { store = s }) s.half))

  -- What it does by itself

  pub background_counts : (d : Device F P H) →
      Counts (λ r w z (a : Option Did). WorkTransfers (sides_up d.store) (sides_writing d.store) a r w) 0 0 (background c d)
  unfolding E.background
  background_counts d =
      let up = sides_up d.store in
      let n = sides_writing d.store in
      event_counts (λ r w (a : Option Did). WorkTransfers up n a r w) d (λ z. and_then (work c z.store) (λ s did. Done (with_store z s) did))
      (λ s e.
      counts_then _ (work_counts c up n s (same_writing d.store s e) (same_up d.store s e)) (λ r w y a k. counts_done k))

  -- What moves nothing

  pub lose_counts : (d : Device F P H) (loss : Loss) → Counts (λ r w z (a : Unit {0}). NoTransfers r w) 0 0 (lose c d loss)
  unfolding E.lose
  lose_counts d loss =
      event_counts (λ r w (a : Unit {0}). NoTransfers r w) d (λ z. and_then (losing c z.store loss) (λ s _. Done (with_store z s) tt))
      (λ s e.
      counts_past _ (losing_quiet c s loss) (λ y _. counts_done (refl, refl)))

  pub power_counts : (d : Device F P H) → Counts (λ r w z (a : Unit {0}). NoTransfers r w) 0 0 (power c d)
  unfolding U.power
  power_counts d =
      quiet_counts (λ r w (a : Unit {0}). NoTransfers r w) d (λ z. and_then (half_cut c z.store z.store.half) (λ s _. Done (powered_off c z s) tt))
      (counts_past _ (cut_quiet c (event_begun d).store d.store.half) (λ s _. counts_done (refl, refl)))

  abbrev Still : ℕ → ℕ → Device F P H → Unit {0} → Type 0
  Still r w z a = NoTransfers r w

  pub reset_counts : (d : Device F P H) (path : ℕ) → Counts Still 0 0 (reset c d path)
  unfolding U.reset
  reset_counts d path = by_running d.history.running
    where
      cut : Counts Still 0 0 (path_cut c d path)
      cut = counts_past _ (cut_quiet c d.store d.store.half) (λ s _. counts_done (refl, refl))

      by_running : (o : Option OpenEntry) → Counts Still 0 0 (reset_by c d path o)
      by_running (Some o) = counts_if (o.path == path) (λ _. cut) (λ _. counts_done (refl, refl))
      by_running None = counts_if (has_used d.history path) (λ _. counts_done (refl, refl)) (λ _. counts_done (refl, refl))

  -- A look past the channel

  module _ (s : Store F P H) (t : ℕ) where
    abbrev Looks : ℕ → ℕ → Store F P H → Option Peeked → Type 0
    Looks r w z a = LookTransfers (sides_up s) r w

    seen_by : (r w : ℕ) (z : Store F P H) → LookTransfers (sides_up s) r w → (o : Option Imaged) →
        Counts {R = R} {I = Image} Looks r w (had_by (λ z i. Done z (Some (peeked i))) z o)
    seen_by r w z h (Some i) = counts_done h
    seen_by r w z h None = counts_done h

    imaged : Counts Looks 0 0 (peek_image c s t)
    imaged =
        counts_then _ (image_reads c peek_usage t (sides_up s) s (omega arith))
        (λ r w z o h. seen_by r w z (h.reads, h.writes) o)

    by_half : (o : Option (HalfWrite H)) → Counts Looks 0 0 (peek_half c s t o)
    by_half (Some h) =
        counts_if (is_in_half c s t h)
        (λ _. counts_try (λ ok. counts_if ok (λ _. counts_done (omega arith, refl)) (λ _. counts_done (omega arith, refl)))) (λ _. imaged)
    by_half None = imaged

    track_looks : Counts Looks 0 0 (peek_track c s t)
    track_looks = counts_if (is_lost s t) (λ _. counts_done (omega arith, refl)) (λ _. by_half s.half)

  pub peek_counts : (d : Device F P H) (t : ℕ) → Counts (λ r w z (a : Option Peeked). LookTransfers (sides_up d.store) r w) 0 0 (peek c d t)
  unfolding K.peek
  peek_counts d t =
      quiet_counts (λ r w (a : Option Peeked). LookTransfers (sides_up d.store) r w) d
      (λ z. and_then (peek_track c z.store t) (λ s found. Done (with_store z s) found))
      (counts_then _ (track_looks (event_begun d).store t) (λ r w s a h. counts_done h))

-- A hit

module _ (d : WholeDevice) where
  hit_event : (o : OpenEntry) (chain : ChainState) (t : ℕ) (f : Frame) → d.history.running ≡ Some o → d.chain ≡ Some chain → need_of chain ≡ Some t →
      frame_at d.store t ≡ Some f → f.modified ≡ true → AsksNoMore chain f.image →
      Counts (λ r w y (a : Option Stepped). r ≡ 0) 0 0 (event contents d (λ y. command_by contents y y.history.running y.chain))
  hit_event o chain t f running at needs is modified ends =
      let b = event_begun d in
      counts_then _ (counts_first _ (hear_quiet contents 960 b.store)
      (hear_keeps t f modified 960 b.store is).holds
      (λ s _ kept.
      subst (λ (l : Option ChainState). Counts (λ r w y (a : Option Stepped). r ≡ 0) 0 0 (command_by contents (record b { store = s }) d.history.running l))
      (sym at)
      (subst (λ (l : Option OpenEntry). Counts (λ r w y (a : Option Stepped). r ≡ 0) 0 0 (command_by contents (record b { store = s }) l (Some chain)))
      (sym running) (hit_so (record b { store = s }) o chain t f needs kept modified ends))))
      (λ r w y a k. over_counts contents (λ r w (a : Option Stepped). r ≡ 0) d y a r w k)

  hit_counts : (o : OpenEntry) (chain : ChainState) (t : ℕ) (f : Frame) → d.history.running ≡ Some o → d.chain ≡ Some chain → need_of chain ≡ Some t →
      frame_at d.store t ≡ Some f → f.modified ≡ true → AsksNoMore chain f.image →
      Counts (λ r w y (a : Option Stepped). r ≡ 0) 0 0 (command contents d)
  unfolding N.command
  hit_counts o chain t f running at needs is modified ends =
      counts_try (λ ok. counts_if ok (λ _. hit_event o chain t f running at needs is modified ends) (λ _. counts_done refl))

-- Behind runs

module _ {K : Type 0} (had : Bool → Type 0) (hears : Hearing Image K) (d : WholeDevice) {e : WholeDevice} {u z : Outside (List ℕ) K} where
  pub command_moved : {a : Option Stepped} → Ran had hears (command contents d) u e a z →
      CommandMoves d e
  command_moved r =
      let m = ran_moved (command_based contents d) (command_counts contents d) r in
      record { reads = m.reads; writes = m.writes; is = m.is; read_count = m.read_count; write_count = m.write_count }

  pub second_moved : {a : SecondEnd} → Ran had hears (second contents d) u e a z →
      SecondMoves d e
  second_moved r =
      let m = ran_moved (second_based contents d) (second_counts contents d) r in
      record { reads = m.reads; writes = m.writes; is = m.is; read_count = m.read_count; write_count = m.write_count }

  pub background_moved : {a : Option Did} → Ran had hears (background contents d) u e a z →
      WorkMoves d a e
  background_moved r =
      let m = ran_moved (background_based contents d) (background_counts contents d) r in
      record { reads = m.reads; writes = m.writes; is = m.is; read_count = m.read_count; write_count = m.write_count }

  pub lose_moved : (loss : Loss) {a : Unit {0}} → Ran had hears (lose contents d loss) u e a z → MovesNothing d e
  lose_moved loss r =
      let m = ran_moved (lose_based contents d loss) (lose_counts contents d loss) r in
      record { reads = m.reads; writes = m.writes; is = m.is; read_count = m.read_count; write_count = m.write_count }

  pub power_moved : {a : Unit {0}} → Ran had hears (power contents d) u e a z → MovesNothing d e
  power_moved r =
      let m = ran_moved (power_based contents d) (power_counts contents d) r in
      record { reads = m.reads; writes = m.writes; is = m.is; read_count = m.read_count; write_count = m.write_count }

  pub reset_moved : (path : ℕ) {a : Unit {0}} → Ran had hears (reset contents d path) u e a z → MovesNothing d e
  reset_moved path r =
      let m = ran_moved (reset_body contents d path) (reset_counts contents d path) r in
      record { reads = m.reads; writes = m.writes; is = m.is; read_count = m.read_count; write_count = m.write_count }

  pub peek_moved : (t : ℕ) {a : Option Peeked} → Ran had hears (peek contents d t) u e a z →
      LookMoves d e
  peek_moved t r =
      let m = ran_moved (peek_based contents d t) (peek_counts contents d t) r in
      record { reads = m.reads; writes = m.writes; is = m.is; read_count = m.read_count; write_count = m.write_count }

  pub hit_reads_none : {a : Option Stepped} → Ran had hears (command contents d) u e a z → HitReadsNone d e
  hit_reads_none r =
      λ o chain t f running at needs is modified ends.
      let m = ran_moved (command_based contents d) (hit_counts d o chain t f running at needs is modified ends) r in
      m.read_count ∙ ap (λ (n : ℕ). counted_by n d.store.counts.reads) m.is
