-- One walk of whole events, into moves of the device's tracks and sides.
use Rattle.std.proofs.Common.{◌≡◌, ◌==◌, zero, suc, ℕ, Bool, true, false, Option, Some, None, refl, sym, subst, ◌∙◌}
use Rattle.std.specs.Prelude.{if◌then◌else◌}
use Rattle.ckd_chain.specs.declared.progress.Progress.{Progress}
use Rattle.ckd_chain.specs.declared.progress.Progress.TheVariants as progresses
use Rattle.ckd_chain.specs.declared.progress.Settled.TheVariants.{Equipment}
use Rattle.ckd_chain.specs.State.{ChainState}
use Rattle.ckd_chain.specs.Steps.{need_of, stepped}
use Rattle.loss_model.specs.declared.Loss.{Loss}
use Rattle.loss_model.specs.declared.Loss.TheVariants as losses
use Rattle.plain_defs.specs.History.{History, OpenEntry, ended, has_used}
use Rattle.plain_defs.specs.PlainState.{PathsState}
use Rattle.plain_device.specs.Acted.{settled_act, paths_behind}
use Rattle.track_image.specs.Image.{Image}
use Rattle.device_outside.specs.Interaction.{Interaction, Done, and_then}
use Rattle.device_defs.specs.declared.answers.Came.{Came}
use Rattle.device_defs.specs.declared.answers.Came.TheVariants.{Ends as Finishes, Checks, HalfOpen}
use Rattle.device_defs.specs.declared.answers.Did.{Did}
use Rattle.device_defs.specs.declared.answers.Took.{Took}
use Rattle.device_defs.specs.declared.usage.Usage.{Usage}
use Rattle.device_defs.specs.Background.{work}
use Rattle.device_defs.specs.Command as N
use Rattle.device_defs.specs.Command.{
  Went,
  Over,
  On,
  has_loss,
  came_of_write,
  went_by,
  looked,
  look,
  goes_on,
  follow,
  came_out,
  on_tracks,
  answered_by,
  command_at,
  command_by,
  command,
}
use Rattle.device_defs.specs.Contents.{Contents}
use Rattle.device_defs.specs.Cutting as U
use Rattle.device_defs.specs.Cutting.{half_cut, powered_off, reset_by, reset, power}
use Rattle.device_defs.specs.Device.{Device, with_store, event_begun, event_ended, quiet_event, event}
use Rattle.device_defs.specs.Events as E
use Rattle.device_defs.specs.Events.{with_loss, losing, second_turn, command_ended, second_ended, second_of, second, background, lose}
use Rattle.device_defs.specs.Image.{Imaged, Has, NoBytes, BadTrack}
use Rattle.device_defs.specs.Memory.{had_by}
use Rattle.device_defs.specs.Outcomes.{Turn, ends_with, settles, checks, usage_of, sense_kept, program_over, turned_by, turned, again}
use Rattle.device_defs.specs.Owed.{noted_begin, noted_end, hear, waiting_told, waiting_count}
use Rattle.device_defs.specs.Peek as Y
use Rattle.device_defs.specs.Peek.{Peeked, peek_track, peek}
use Rattle.device_defs.specs.Store.{Origin, OfCommand, OfCut, OfBackground, HalfWrite, Store, no_debt, tracks_of, is_lost, with_owed}
use Rattle.device_laws.proofs.PoolWalks.{told_asks}
use Rattle.device_laws.proofs.walks.Within.{
  Policy,
  Inner,
  Outer,
  Within,
  within_done,
  within_try,
  within_ask,
  within_then,
  within_weaker,
  within_outer,
  within_if,
  within_tried,
  asks_within,
}
use Rattle.device_laws.proofs.walks.Moves.{Kind, Shut, Losing, Moves, stays, notes, Ends, moved, then_pays, Comes}
use Rattle.device_laws.proofs.walks.Reads.{heard_goes, losing_goes, half_cut_goes, powerless_moves, image_goes, track_goes}
use Rattle.device_laws.proofs.walks.Writes.{Stages, write_comes, second_part_goes, work_comes}

-- how a command comes out changes nothing of the tracks

module _ {F P H : Type 0} where
  over_by : (d : Device F P H) (h : History) (chain : ChainState) (b : Bool) →
      (if b then program_over d h else record d { chain = Some chain; history = h }).store ≡ d.store
  over_by d h chain true = refl
  over_by d h chain false = refl

  pub turned_same : (d : Device F P H) (path : ℕ) (chain : ChainState) (came : Came) → (turned_by d path chain came).store ≡ d.store
  turned_same d path chain (Finishes e) = let z = sense_kept d path e in over_by z (ended z.history e) chain e.over
  turned_same d path chain (Checks e) = refl
  turned_same d path chain (HalfOpen t) = refl

-- Of which tracks a command may want frames: where a chain stands on one of them, so it does where it goes on
pub record Reaches {K : Type 0} (w : Policy K) (device : ℕ) (on : ChainState → ℕ → Type 0) : Type 0 where
  pub wanted : (chain : ChainState) (t : ℕ) → on chain t → w.wants device t
  pub goes : (chain : ChainState) (t : ℕ) (i : Image) (q : ℕ) → on chain t → (stepped chain (Some i)).progress ≡ progresses.Need q →
      on (stepped chain (Some i)).chain q

-- a chain begins on one of them
abbrev pub Begins : (ChainState → ℕ → Type 0) → Option ChainState → Type 0
Begins on o = (chain : ChainState) (t : ℕ) → o ≡ Some chain → need_of chain ≡ Some t → on chain t

abbrev pub Anywhere : ChainState → ℕ → Type 0
Anywhere chain t = Unit {0}

-- where a frame of each track may be wanted
pub reaches_any : {K : Type 0} {w : Policy K} {device : ℕ} → ((t : ℕ) → w.wants device t) → Reaches w device Anywhere
reaches_any free = record { wanted = λ chain t is. free t; goes = λ chain t i q is e. tt }

module _ {K F P H R : Type 0} (w : Policy K) (kind : Kind) (c : Contents F P H R) (k : K) (s : Store F P H) where
  -- behind a look: where the command goes on, no half write was opened, and the chain looks at one of these tracks
  abbrev pub WentTo : (ChainState → ℕ → Type 0) → K → Store F P H → Option Went → Type 0
  WentTo on n z None = Ends w kind c k s n z
  WentTo on n z (Some (Over turn)) = Ends w kind c k s n z
  WentTo on n z (Some (On chain t)) = Moves w kind c k s n z × on chain t

  abbrev pub Looks : (ChainState → ℕ → Type 0) → K → Interaction R Image (Store F P H) (Option Went) → Type 0
  Looks on n i = Within w (Inner w) (WentTo on) n i

  abbrev pub Later : (ChainState → ℕ → Type 0) → ℕ → ℕ → Type 0
  Later on j first = (n : K) (chain : ChainState) (t : ℕ) (z : Store F P H) → on chain t → Moves w kind c k s n z →
      Comes w kind c k s n (follow c j first chain t z)

  -- What an event made of device d: its tracks moved, they were put back and what was noted came to the journal, a turn came out
  pub data Made (d : Device F P H) : K → Device F P H → Type 0 where
    as_it_was : {n : K} {z : Store F P H} → Moves w kind c k s n z → Made d n (record d { store = z })
    put_back : {m n : K} {e : Device F P H} {z : Store F P H} → Made d m e → Ends w kind c k s n z → Made d n (with_store e z)
    came_out_of : {n : K} {e : Device F P H} → Made d n e → (path : ℕ) (turn : Turn) → Made d n (turned e path turn)
    led_on : {n : K} {e : Device F P H} → Made d n e → (paths : PathsState) → Made d n (record e { paths = paths })
    tries_again : {n : K} {e : Device F P H} → Made d n e → (chain : ChainState) → Made d n (again e chain)
    paid : {n : K} {e : Device F P H} → Made d n e → (t : ℕ) → Made d n (record e { store = with_owed e.store t no_debt })

  -- behind an event's body
  abbrev pub Bodies : {A : Type 0} → Device F P H → K → Interaction R Image (Device F P H) A → Type 0
  Bodies d n i = Within w (Inner w) (λ m e a. Made d m e) n i

-- An invariant of the device, one field a change

pub record IsCarried {K F P H R : Type 0} (w : Policy K) (kind : Kind) (c : Contents F P H R) (k : K) (s : Store F P H) (q : Device F P H → Type 0) : Type 0 where
  pub stores : (n : K) (e : Device F P H) (z : Store F P H) → Ends w kind c k s n z → q e → q (with_store e z)
  pub turns : (e : Device F P H) (path : ℕ) (turn : Turn) → q e → q (turned e path turn)
  pub leads : (e : Device F P H) (paths : PathsState) → q e → q (record e { paths = paths })
  pub tries : (e : Device F P H) (chain : ChainState) → q e → q (again e chain)
  pub rests : (e : Device F P H) (z : Store F P H) → q e → q (record e { store = z })

module _ {K F P H R : Type 0} {w : Policy K} {kind : Kind} {c : Contents F P H R} {k : K} {s : Store F P H} {d : Device F P H} where
  pub made_carries : {q : Device F P H → Type 0} {n : K} {e : Device F P H} → IsCarried w kind c k s q → q d → Made w kind c k s d n e → q e
  made_carries f x (as_it_was {z = z} m) = f.rests d z x
  made_carries f x (put_back {e = e} {z = z} y m) = f.stores _ e z m (made_carries f x y)
  made_carries f x (came_out_of {e = e} y path turn) = f.turns e path turn (made_carries f x y)
  made_carries f x (led_on {e = e} y paths) = f.leads e paths (made_carries f x y)
  made_carries f x (tries_again {e = e} y chain) = f.tries e chain (made_carries f x y)
  made_carries f x (paid {e = e} y t) = f.rests e _ (made_carries f x y)

  pub made_store : {n : K} {e : Device F P H} → Made w kind c k s d n e → Ends w kind c k s n e.store
  made_store (as_it_was m) = moved m
  made_store (put_back y m) = m
  made_store (came_out_of {n = n} {e = e} y path turn) =
      subst (λ (x : Store F P H). Ends w kind c k s n x) (sym (turned_same e path turn.chain turn.came)) (made_store y)
  made_store (led_on y paths) = made_store y
  made_store (tries_again y chain) = made_store y
  made_store (paid y t) = then_pays (made_store y) t _

module _ {K F P H R : Type 0} {w : Policy K} {kind : Kind} {c : Contents F P H R} {k : K} {s : Store F P H} where
  -- A command from track to track

  came_looks : {on : ChainState → ℕ → Type 0} {n : K} (chain : ChainState) (t : ℕ) (z : Store F P H) (o : Option Took) → Ends w kind c k s n z →
      Looks w kind c k s on n (had_by (came_of_write c chain t) z o)
  came_looks chain t z (Some took) m = within_done m
  came_looks chain t z None m = within_done m

  module _ (is_shut : kind ≡ Shut) {on : ChainState → ℕ → Type 0} (reach : Reaches w s.device on) where
    went_looks : {n : K} (u : Usage) (first t : ℕ) (z : Store F P H) (i : Image) (chain : ChainState) (p : Progress) →
        ((q : ℕ) → p ≡ progresses.Need q → on chain q) → Moves w kind c k s n z → Looks w kind c k s on n (went_by c u first t z i chain p)
    went_looks u first t z i chain (progresses.Ended e) goes m = within_done (moved m)
    went_looks u first t z i chain (progresses.Need q) goes m = within_done (m, goes q refl)
    went_looks u first t z i chain (progresses.Write q e) goes m =
        within_then (had_by (came_of_write c chain t)) (write_comes is_shut z u first t i e m) (λ n y o g. came_looks chain t y o g)
    went_looks u first t z i chain (progresses.Local act) goes m = within_done (moved m)

    pub looked_looks : {n : K} (chain : ChainState) (first t : ℕ) (z : Store F P H) (o : Option Imaged) → on chain t → Moves w kind c k s n z →
        Looks w kind c k s on n (had_by (looked c chain first t) z o)
    looked_looks chain first t z None is m = within_done (moved m)
    looked_looks chain first t z (Some (Has i)) is m =
        let x = stepped chain (Some i) in
        within_tried z _ (moved m) (went_looks (usage_of chain) first t z i x.chain x.progress (λ q e. reach.goes chain t i q is e) m)
    looked_looks chain first t z (Some (NoBytes fault)) is m = within_done (moved m)
    looked_looks chain first t z (Some (BadTrack side)) is m = within_done (moved m)

    pub look_looks : {n : K} (chain : ChainState) (first t : ℕ) (z : Store F P H) → on chain t → Moves w kind c k s n z →
        Looks w kind c k s on n (look c chain first t z)
    unfolding N.look
    look_looks chain first t z is m =
        within_if (is_lost z t) (λ _. within_done (moved m))
        (λ _. within_then (had_by (looked c chain first t)) (image_goes z (usage_of chain) t (reach.wanted chain t is) m)
        (λ n y o g. looked_looks chain first t y o is g))

    goes_comes : {n : K} (j first : ℕ) (z : Store F P H) (o : Option Went) → Later w kind c k s on j first → WentTo w kind c k s on n z o →
        Comes w kind c k s n (had_by (goes_on c (follow c j first)) z o)
    goes_comes j first z None later m = within_done m
    goes_comes j first z (Some (Over turn)) later m = within_done m
    goes_comes j first z (Some (On chain q)) later m = later _ chain q z m.1 m.0

    pub follow_comes : (j first : ℕ) → Later w kind c k s on j first
    unfolding N.follow
    follow_comes zero first n chain t z is m = within_done (moved m)
    follow_comes (suc j) first n chain t z is m =
        within_then (had_by (goes_on c (follow c j first))) (look_looks chain first t z is m) (λ n y o g. goes_comes j first y o (follow_comes j first) g)

  -- Whole events

  module _ {d : Device F P H} where
    answered_bodies : {n : K} (e : Device F P H) (path : ℕ) (chain : ChainState) (p : Progress) → Made w kind c k s d n e →
        Bodies w kind c k s d n (answered_by c e path chain p)
    answered_bodies e path chain (progresses.Ended e_end) y = within_done (came_out_of y path (ends_with chain e_end))
    answered_bodies e path chain (progresses.Local act) y =
        within_done (came_out_of (led_on y (paths_behind e.paths path act)) path (settles chain (settled_act e.store.geometry e.paths path act)))
    answered_bodies e path chain (progresses.Need q) y = within_done (came_out_of y path (checks chain Equipment))
    answered_bodies e path chain (progresses.Write q edit) y = within_done (came_out_of y path (checks chain Equipment))

    on_bodies : {m n : K} (e : Device F P H) (path : ℕ) (chain : ChainState) (z : Store F P H) (o : Option Turn) → Made w kind c k s d m e →
        Ends w kind c k s n z → Bodies w kind c k s d n (on_tracks c e path chain z o)
    on_bodies e path chain z (Some turn) y m = within_done (came_out_of (put_back y m) path turn)
    on_bodies e path chain z None y m = within_done (tries_again (put_back y m) chain)

    module _ (is_shut : kind ≡ Shut) {on : ChainState → ℕ → Type 0} (reach : Reaches w s.device on) where
      at_bodies : {n : K} (e : Device F P H) (path : ℕ) (chain : ChainState) (o : Option ℕ) → ((t : ℕ) → o ≡ Some t → on chain t) → Made w kind c k s d n e →
          Moves w kind c k s n e.store → Bodies w kind c k s d n (command_at c e path chain o)
      at_bodies e path chain (Some t) is y m =
          within_then (on_tracks c e path chain) (follow_comes is_shut reach (tracks_of e.store) t _ chain t e.store (is t refl) m)
          (λ n z o g. on_bodies e path chain z o y g)
      at_bodies e path chain None is y m =
          within_try (λ ok _. within_if ok (λ _. answered_bodies e path (stepped chain None).chain (stepped chain None).progress y)
          (λ _. within_done (tries_again y chain)))

      pub by_bodies : {n : K} (e : Device F P H) (o : Option OpenEntry) (chain : Option ChainState) → Begins on chain → Made w kind c k s d n e →
          Moves w kind c k s n e.store → Bodies w kind c k s d n (command_by c e o chain)
      by_bodies e (Some o) (Some chain) begins y m =
          within_if (has_loss o.acts) (λ _. within_done (came_out_of y o.path (checks chain Equipment)))
          (λ _. at_bodies e o.path chain (need_of chain) (λ t is. begins chain t refl is) y m)
      by_bodies e (Some o) None begins y m = within_done y
      by_bodies e None chain begins y m = within_done y

    command_ended_bodies : {n : K} (e : Device F P H) (t : ℕ) (o : Option OpenEntry) (chain : Option ChainState) (done : Bool) → Made w kind c k s d n e →
        Bodies w kind c k s d n (command_ended c e t o chain done)
    command_ended_bodies e t (Some o) (Some chain) done y = within_done (came_out_of y o.path (second_turn c chain done))
    command_ended_bodies e t (Some o) None done y = within_done y
    command_ended_bodies e t None chain done y = within_done y

    second_ended_bodies : {n : K} (e : Device F P H) (t : ℕ) (origin : Origin) (done : Bool) → Made w kind c k s d n e →
        Bodies w kind c k s d n (second_ended c e t origin done)
    second_ended_bodies e t (OfCommand bypass edit) done y = command_ended_bodies e t e.history.running e.chain done y
    second_ended_bodies e t (OfCut bypass) done y = within_done y
    second_ended_bodies e t OfBackground done y = within_done y

    pub second_bodies : {n : K} → (kind ≡ Shut → ⊥) → (e : Device F P H) (o : Option (HalfWrite H)) → e.store.half ≡ o → Made w kind c k s d n e →
        Moves w kind c k s n e.store → Bodies w kind c k s d n (second_of c e o)
    second_bodies unshut e (Some h) is y m =
        within_then (λ z done. second_ended c (with_store e z) h.track h.origin done) (second_part_goes unshut e.store h is m)
        (λ n z done g. second_ended_bodies (with_store e z) h.track h.origin done (put_back y (moved g)))
    second_bodies unshut e None is y m = within_done y

-- An event's end, and its front, for whatever stays so of the device where a debt is paid

module _ {K F P H R : Type 0} {w : Policy K} (c : Contents F P H R) {q : K → Device F P H → Type 0}
    (pays : (n : K) (e : Device F P H) (t : ℕ) → q n e → q n (record e { store = with_owed e.store t no_debt })) where
  noted_leaves : {n : K} (before : ℕ) (e : Device F P H) → q n e →
      Within w (Outer w) (λ m z _. q m (record e { store = z })) n (noted_end c before e.store)
  noted_leaves before e x =
      within_then (λ z _. waiting_told c before z)
      (within_outer (asks_within (told_asks c (λ z. q _ (record e { store = z })) (λ z t y. pays _ (record e { store = z }) t y) (tracks_of e.store) e.store x)))
      (λ n z _ g. within_if (waiting_count c z == before) (λ _. within_done g) (λ _. within_ask tt (λ _. within_done g)))

  pub quiet_leaves : {A : Type 0} {n : K} (d : Device F P H) (body : Device F P H → Interaction R Image (Device F P H) A) →
      Within w (Inner w) (λ m e a. q m e) n (body (event_begun d)) → Within w (Outer w) (λ m e a. q m e) n (quiet_event c d body)
  quiet_leaves d body x =
      within_then (event_ended c d) (within_outer x)
      (λ n e a g. within_then (λ z _. Done (record e { store = z }) a) (noted_leaves (waiting_count c d.store) e g) (λ m z _ h. within_done h))

-- Each event begins with the device's tracks, and no acts

module _ {K F P H R : Type 0} (w : Policy K) (c : Contents F P H R) (k : K) (d : Device F P H) where
  abbrev pub Leaves : {A : Type 0} → Kind → Interaction R Image (Device F P H) A → Type 0
  Leaves kind i = Within w (Outer w) (λ m e a. Made w kind c k (noted_begin d.store) (event_begun d) m e) k i

  abbrev pub Leads : {A : Type 0} → Kind → Interaction R Image (Device F P H) A → Type 0
  Leads kind i = Within w (Outer w) (λ m e a. Ends w kind c k (noted_begin d.store) m e.store) k i

  pub carries : {A : Type 0} {kind : Kind} {q : Device F P H → Type 0} {i : Interaction R Image (Device F P H) A} →
      IsCarried w kind c k (noted_begin d.store) q → q d → Leaves kind i → Within w (Outer w) (λ n e a. q e) k i
  carries f x y = within_weaker y (λ n e a m. made_carries f (f.rests d (noted_begin d.store) x) m)

  leads_by : {A : Type 0} {kind : Kind} {i : Interaction R Image (Device F P H) A} → Leaves kind i → Leads kind i
  leads_by x = within_weaker x (λ n e a m. made_store m)

  module _ {A : Type 0} (kind : Kind) (body : Device F P H → Interaction R Image (Device F P H) A) where
    made_quiet : Bodies w kind c k (noted_begin d.store) (event_begun d) k (body (event_begun d)) → Leaves kind (quiet_event c d body)
    made_quiet x = quiet_leaves c {q = λ n e. Made w kind c k (noted_begin d.store) (event_begun d) n e} (λ n e t y. paid y t) d body x

    -- behind the notices it begins as it was, with its queue
    made_event : ((n : K) (z : Store F P H) → z.queue ≡ d.store.queue → Moves w kind c k (noted_begin d.store) n z →
        Bodies w kind c k (noted_begin d.store) (event_begun d) n (body (record (event_begun d) { store = z }))) →
        Leaves kind (event c d body)
    made_event x =
        quiet_leaves c {q = λ n e. Made w kind c k (noted_begin d.store) (event_begun d) n e} (λ n e t y. paid y t) d
        (λ y. and_then (hear c 960 y.store) (λ z _. body (record y { store = z })))
        (within_then (λ z _. body (record (event_begun d) { store = z })) (heard_goes 960 (noted_begin d.store) stays) (λ n z _ g. x n z g.1 g.0))

  pub background_leaves : Stages w d.store.device d.store.queue → Leaves Shut (background c d)
  unfolding E.background
  background_leaves on =
      made_event Shut (λ y. and_then (work c y.store) (λ z did. Done (with_store y z) did))
      (λ n z same m. within_then (λ y (did : Option Did). Done (with_store (record (event_begun d) { store = z }) y) did)
      (work_comes refl z (λ t ts is. on t ts (sym same ∙ is)) m)
      (λ n y did g. within_done (put_back (as_it_was m) g)))

  pub second_leaves : (kind : Kind) → (kind ≡ Shut → ⊥) → Leaves kind (second c d)
  unfolding E.second
  second_leaves kind unshut =
      made_event kind (λ y. second_of c y y.store.half)
      (λ n z same m. second_bodies unshut (record (event_begun d) { store = z }) z.half refl (as_it_was m) m)

  pub lose_leaves : (loss : Loss) → Leaves (Losing loss) (lose c d loss)
  unfolding E.lose
  lose_leaves loss =
      made_event (Losing loss) (λ y. and_then (losing c y.store loss) (λ z _. Done (with_store y z) (tt {0})))
      (λ n z same m. within_then (λ y _. Done (with_store (record (event_begun d) { store = z }) y) (tt {0})) (losing_goes z loss refl m)
      (λ n y _ g. within_done (put_back (as_it_was m) (moved g))))

  pub peek_leaves : (kind : Kind) (t : ℕ) → w.wants d.store.device t → Leaves kind (peek c d t)
  unfolding Y.peek
  peek_leaves kind t on =
      made_quiet kind (λ y. and_then (peek_track c y.store t) (λ z found. Done (with_store y z) found))
      (within_then (λ z (found : Option Peeked). Done (with_store (event_begun d) z) found) (track_goes (noted_begin d.store) t on stays)
      (λ n z found g. within_done (put_back (as_it_was {z = noted_begin d.store} stays) (moved g))))

  -- a command that lacks memory for its end leaves the device as it was
  pub command_leaves : {on : ChainState → ℕ → Type 0} → Reaches w d.store.device on → Begins on d.chain → (g : K → Device F P H → Type 0) → g k d →
      ((n : K) (e : Device F P H) → Made w Shut c k (noted_begin d.store) (event_begun d) n e → g n e) →
      Within w (Outer w) (λ n e a. g n e) k (command c d)
  unfolding N.command
  command_leaves reach begins g none f =
      within_tried d _ none
      (within_weaker (made_event Shut (λ y. command_by c y y.history.running y.chain)
      (λ n z same m. by_bodies refl reach (record (event_begun d) { store = z }) d.history.running d.chain begins (as_it_was m) m)) (λ n e a m. f n e m))

  -- so the tracks move

  pub background_leads : Stages w d.store.device d.store.queue → Leads Shut (background c d)
  background_leads on = leads_by (background_leaves on)

  pub second_leads : (kind : Kind) → (kind ≡ Shut → ⊥) → Leads kind (second c d)
  second_leads kind unshut = leads_by (second_leaves kind unshut)

  pub lose_leads : (loss : Loss) → Leads (Losing loss) (lose c d loss)
  lose_leads loss = leads_by (lose_leaves loss)

  pub peek_leads : (kind : Kind) (t : ℕ) → w.wants d.store.device t → Leads kind (peek c d t)
  peek_leads kind t on = leads_by (peek_leaves kind t on)

  pub command_leads : {on : ChainState → ℕ → Type 0} → Reaches w d.store.device on → Begins on d.chain → (g : K → Device F P H → Type 0) → g k d →
      ((n : K) (e : Device F P H) → Ends w Shut c k (noted_begin d.store) n e.store → g n e) →
      Within w (Outer w) (λ n e a. g n e) k (command c d)
  command_leads reach begins g none f = command_leaves reach begins g none (λ n e m. f n e (made_store m))

  pub power_leads : Leads (Losing losses.Cache) (power c d)
  unfolding U.power
  power_leads =
      quiet_leaves c {q = λ n e. Ends w (Losing losses.Cache) c k (noted_begin d.store) n e.store} (λ n e t m. then_pays m t _) d
      (λ y. and_then (half_cut c y.store y.store.half) (λ z _. Done (powered_off c y z) (tt {0})))
      (within_then (λ z _. Done (powered_off c (event_begun d) z) (tt {0})) (half_cut_goes (noted_begin d.store) stays)
      (λ n z _ g. within_done (moved (powerless_moves tt (with_loss z losses.Cache) (notes g losses.Cache refl)))))

-- a reset takes no notes, and begins with the device as it is
module _ {K F P H R : Type 0} (w : Policy K) (kind : Kind) (c : Contents F P H R) (k : K) (d : Device F P H) where
  abbrev Resets : {A : Type 0} → Interaction R Image (Device F P H) A → Type 0
  Resets i = Within w (Inner w) (λ m e a. Moves w kind c k d.store m e.store) k i

  reset_goes : (path : ℕ) (o : Option OpenEntry) → Resets (reset_by c d path o)
  reset_goes path (Some o) =
      within_if (o.path == path) (λ _. within_then _ (half_cut_goes d.store stays) (λ n z _ g. within_done g)) (λ _. within_done stays)
  reset_goes path None = within_if (has_used d.history path) (λ _. within_done stays) (λ _. within_done stays)

  pub reset_leads : (path : ℕ) → Resets (reset c d path)
  unfolding U.reset
  reset_leads path = reset_goes path d.history.running
