-- The other events of a whole device, and the device of a run: a second part, what it does by itself, losses and resets.
use Rattle.std.proofs.Common.{◌≡◌, ◌==◌, ℕ, Bool, false, List, Option, Some, None, refl, sym, subst, ◌∙◌, inl, inr}
use Rattle.std.specs.Prelude.{option_map}
use Rattle.ckd_types.specs.declared.record.Track.{Track}
use Rattle.ckd_types.specs.Volume.{track_in}
use Rattle.ckd_chain.specs.State.{ChainState}
use Rattle.loss_model.specs.declared.Loss.{Loss}
use Rattle.loss_model.specs.declared.Loss.TheVariants as losses
use Rattle.plain_defs.specs.History.{OpenEntry, has_used}
use Rattle.plain_defs.specs.PlainState.{reset_path}
use Rattle.track_image.specs.Image.{Image}
use Rattle.device_outside.specs.Interaction.{Done, and_then}
use Rattle.device_outside.proofs.BothRules.{on_test}
use Rattle.device_defs.specs.Background.{work}
use Rattle.device_defs.specs.Contents.{contents, by_plain}
use Rattle.device_defs.specs.Cutting as U
use Rattle.device_defs.specs.Cutting.{counts_one_by, reset_noted, path_cut, reset_by, reset}
use Rattle.device_defs.specs.Device.{all_reset, with_store, event_begun}
use Rattle.device_defs.specs.Events as E
use Rattle.device_defs.specs.Events.{second_turn, command_ended, second_ended, second_of, second, background, losing, lose}
use Rattle.device_defs.specs.Marks.{marks_of, half_mark}
use Rattle.device_defs.specs.Outcomes.{turned}
use Rattle.device_defs.specs.Sound.{DeviceStore}
use Rattle.device_defs.specs.Start as S
use Rattle.device_defs.specs.Start.{start_fault, start}
use Rattle.device_defs.specs.Store.{Origin, OfCommand, OfCut, OfBackground, HalfWrite}
use Rattle.device_laws.specs.Agrees.{Held}
use Rattle.device_laws.specs.InOrder.{IsInOrder}
use Rattle.device_laws.specs.PlainWrites.{OriginSuits}
use Rattle.device_laws.specs.Whole.{WholeDevice, marks_device, WholeTwins, Leaves, HalfSuits, BehindSecond, BehindLoss, BehindReset}
use Rattle.device_laws.proofs.TwinLaws.{
  second_part_is_plain,
  work_is_plain,
  lost_store_leaves_order,
  lost_cache_leaves_order,
  lost_side_leaves_order,
  cut_leaves_order,
}
use Rattle.device_laws.proofs.WholeCommand.{turned_marks}
use Rattle.device_laws.proofs.walks.Events.{turned_same}
use Rattle.device_laws.proofs.WholeTwins.{whole_done, whole_ends, store_then, event_twin}

-- The second part

module _ (v w : List Track) (d : WholeDevice) (h : Held) (p : List Track → Type 0) (i : IsInOrder v w d.store h) (x : p v) where
  over_by : (t : ℕ) (o : Option OpenEntry) (chain : Option ChainState) (done : Bool) →
      WholeTwins (Leaves p) (command_ended contents d t o chain done) (command_ended by_plain (marks_device v w d) t o chain done) h
  over_by t (Some o) (Some chain) done =
      let turn = second_turn contents chain done in
      whole_ends v w (turned d o.path turn) (turned_marks v w d o.path turn.chain turn.came)
      (record { order = subst (λ (s : DeviceStore). IsInOrder v w s h) (sym (turned_same d o.path turn.chain turn.came)) i; same = refl; is = x })
  over_by t (Some o) None done = whole_done v w d (record { order = i; same = refl; is = x })
  over_by t None chain done = whole_done v w d (record { order = i; same = refl; is = x })

  over : (t : ℕ) (origin : Origin) (done : Bool) →
      WholeTwins (Leaves p) (second_ended contents d t origin done) (second_ended by_plain (marks_device v w d) t origin done) h
  over t (OfCommand bypass e) done = over_by t d.history.running d.chain done
  over t (OfCut bypass) done = whole_done v w d (record { order = i; same = refl; is = x })
  over t OfBackground done = whole_done v w d (record { order = i; same = refl; is = x })

module _ (v w : List Track) (d : WholeDevice) (h : Held) (i : IsInOrder v w d.store h) where
  by_half : (o : Option (HalfWrite Image)) → d.store.half ≡ o → HalfSuits v d.store →
      WholeTwins (Leaves (BehindSecond v o)) (second_of contents d o) (second_of by_plain (marks_device v w d) (option_map half_mark o)) h
  by_half (Some hw) is suits =
      store_then _ _ (second_part_is_plain v w d.store h hw i is (suits hw is))
      (λ v' w' s a b k f.
      rw (← f.same) (over v' w' (with_store d s) k (BehindSecond v (Some hw)) f.order (a, f.plain) hw.track hw.origin a))
  by_half None is suits = whole_done v w d (record { order = i; same = refl; is = (false, refl) })

suits_on : (v : List Track) (s z : DeviceStore) → z.geometry ≡ s.geometry → z.half ≡ s.half → HalfSuits v s → HalfSuits v z
suits_on v s z geometry half suits i e =
    subst (λ (g : _). OriginSuits g (track_in v i.track) i.origin) (sym geometry) (suits i (sym half ∙ e))

pub second_whole : (v w : List Track) (d : WholeDevice) (h : Held) → IsInOrder v w d.store h → HalfSuits v d.store →
    WholeTwins (Leaves (BehindSecond v d.store.half)) (second contents d) (second by_plain (marks_device v w d)) h
unfolding E.second
second_whole v w d h i suits =
    event_twin v w d h (λ z. second_of contents z z.store.half) (λ z. second_of by_plain z z.store.half) i
    (λ w' s k o stays.
    let z : WholeDevice = record (event_begun d) { store = s } in
    rw (← stays.half) (by_half v w' z k o s.half refl (suits_on v d.store s stays.geometry stays.half suits)))

-- By itself

pub background_whole : (v w : List Track) (d : WholeDevice) (h : Held) → IsInOrder v w d.store h → d.store.half ≡ None →
    WholeTwins (Leaves (λ v2. v2 ≡ v)) (background contents d) (background by_plain (marks_device v w d)) h
unfolding E.background
background_whole v w d h i none =
    event_twin v w d h (λ z. and_then (work contents z.store) (λ s did. Done (with_store z s) did))
    (λ z. and_then (work by_plain z.store) (λ s did. Done (with_store z s) did)) i
    (λ w' s k o stays.
    let z : WholeDevice = record (event_begun d) { store = s } in
    store_then _ _ (work_is_plain v w' s k o (stays.half ∙ none))
    (λ v2 w2 y a b l f. whole_done v2 w2 (with_store z y) (record { order = f.order; same = f.same; is = f.plain })))

-- Losses

module _ (v w : List Track) (d : WholeDevice) (h : Held) (i : IsInOrder v w d.store h) where
  abbrev Lost : Loss → Type 0
  Lost loss =
      WholeTwins (Leaves (BehindLoss v loss)) (and_then (losing contents d.store loss) (λ s _. Done (with_store d s) (tt {0})))
      (and_then (losing by_plain (marks_of v w d.store) loss) (λ s _. Done (with_store (marks_device v w d) s) (tt {0}))) h

  by_loss : (loss : Loss) → Lost loss
  by_loss losses.Cache =
      store_then _ _ (lost_cache_leaves_order v w d.store h i)
      (λ v2 w2 y a b l f. whole_done v2 w2 (with_store d y) (record { order = f.order; same = refl; is = tt }))
  by_loss losses.Store =
      store_then _ _ (lost_store_leaves_order v w d.store h i)
      (λ v2 w2 y a b l f. whole_done v2 w2 (with_store d y) (record { order = f.order; same = refl; is = f.plain }))
  by_loss (losses.Side side) =
      store_then _ _ (lost_side_leaves_order v w d.store h side i)
      (λ v2 w2 y a b l f. whole_done v2 w2 (with_store d y) (record { order = f.order; same = refl; is = f.plain }))

pub loss_whole : (v w : List Track) (d : WholeDevice) (h : Held) (loss : Loss) → IsInOrder v w d.store h →
    WholeTwins (Leaves (BehindLoss v loss)) (lose contents d loss) (lose by_plain (marks_device v w d) loss) h
unfolding E.lose
loss_whole v w d h loss i =
    event_twin v w d h (λ z. and_then (losing contents z.store loss) (λ s _. Done (with_store z s) (tt {0})))
    (λ z. and_then (losing by_plain z.store loss) (λ s _. Done (with_store z s) (tt {0}))) i
    (λ w' s k o stays. by_loss v w' (record (event_begun d) { store = s }) k o loss)

-- Resets

pub counts_same : (o : Option (HalfWrite Image)) → counts_one_by (option_map half_mark o) ≡ counts_one_by o
counts_same (Some hw) = refl
counts_same None = refl

module _ (v w : List Track) (d : WholeDevice) (h : Held) (path : ℕ) (i : IsInOrder v w d.store h) (suits : HalfSuits v d.store) where
  abbrev cut_by : DeviceStore → WholeDevice
  cut_by s = record (reset_noted contents d path (counts_one_by d.store.half)) {
    store = s;
    chain = None;
    paths = all_reset (reset_path d.paths path) d.history.waiting;
  }

  cut : WholeTwins (Leaves (BehindReset v d.store.half)) (path_cut contents d path) (path_cut by_plain (marks_device v w d) path) h
  cut =
      rw (counts_same d.store.half) (store_then _ _ (cut_leaves_order v w d.store h i suits)
      (λ v2 w2 y a b l f. whole_done v2 w2 (cut_by y) (record { order = f.order; same = refl; is = inr f.plain })))

  by_running : (o : Option OpenEntry) → WholeTwins (Leaves (BehindReset v d.store.half)) (reset_by contents d path o) (reset_by by_plain
      (marks_device v w d) path o) h
  by_running (Some o) =
      on_test (o.path == path) (λ _. cut) (λ _. whole_done v w (reset_noted contents d path 0) (record { order = i; same = refl; is = inl refl }))
  by_running None =
      on_test (has_used d.history path)
      (λ _. whole_done v w (record (reset_noted contents d path 0) { paths = reset_path d.paths path }) (record { order = i; same = refl; is = inl refl }))
      (λ _. whole_done v w d (record { order = i; same = refl; is = inl refl }))

pub reset_whole : (v w : List Track) (d : WholeDevice) (h : Held) (path : ℕ) → IsInOrder v w d.store h → HalfSuits v d.store →
    WholeTwins (Leaves (BehindReset v d.store.half)) (reset contents d path) (reset by_plain (marks_device v w d) path) h
unfolding U.reset
reset_whole v w d h path i suits = by_running v w d h path i suits d.history.running

-- A start asks nothing

pub start_fault_same : (v w : List Track) (d : WholeDevice) (path : ℕ) → start_fault d path ≡ start_fault (marks_device v w d) path
unfolding S.start_fault
start_fault_same v w d path = refl

pub start_same : (v w : List Track) (d : WholeDevice) (path : ℕ) → marks_device v w (start d path) ≡ start (marks_device v w d) path
unfolding S.start
start_same v w d path = refl

pub start_order : (v w : List Track) (d : WholeDevice) (h : Held) (path : ℕ) → IsInOrder v w d.store h → IsInOrder v w (start d path).store h
unfolding S.start
start_order v w d h path i = i
