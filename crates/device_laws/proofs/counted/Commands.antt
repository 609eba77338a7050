-- A whole command: its notices and what it tells at its end call no volume, and what is kept behind it is what the command at hand makes of it.
use Rattle.std.proofs.Common.{◌≡◌, ◌*◌, ℕ, suc, Bool, true, false, List, [], ◌∷◌, Option, Some, None, refl, sym, ap, subst, ◌∙◌}
use Rattle.std.specs.Prelude.{if◌then◌else◌}
use Rattle.ckd_types.specs.declared.geometry.Geometry.{Geometry}
use Rattle.ckd_types.specs.declared.record.Track.{Track}
use Rattle.ckd_chain.specs.declared.progress.Progress.{Progress}
use Rattle.ckd_chain.specs.declared.progress.Progress.TheVariants as progresses
use Rattle.ckd_chain.specs.declared.progress.Settled.TheVariants.{Equipment}
use Rattle.ckd_chain.specs.Fed as F
use Rattle.ckd_chain.specs.Fed.{Fed, ended_by, fed_image, fed_by, fed}
use Rattle.ckd_chain.specs.State.{ChainState}
use Rattle.ckd_chain.specs.Steps.{need_of, stepped, settled_by}
use Rattle.plain_defs.specs.declared.journal.Act.{Act}
use Rattle.plain_defs.specs.History as H
use Rattle.plain_defs.specs.History.{History, OpenEntry, acted_in, acted}
use Rattle.plain_device.specs.Acted.{settled_act, paths_behind}
use Rattle.track_image.specs.Image.{Image}
use Rattle.device_outside.specs.Interaction.{Done, and_then}
use Rattle.device_outside.specs.Keeper.{Hearing}
use Rattle.device_outside.specs.Outside.{Outside, Ran, done, tried}
use Rattle.device_defs.specs.declared.answers.Came.{Came}
use Rattle.device_defs.specs.declared.answers.Came.TheVariants.{Ends, Checks, HalfOpen}
use Rattle.device_defs.specs.declared.answers.Stepped.{Stepped}
use Rattle.device_defs.specs.declared.counts.Counts.{Counts}
use Rattle.device_defs.specs.Command as N
use Rattle.device_defs.specs.Command.{has_loss, follow, came_out, on_tracks, answered_by, command_at, command_by, command}
use Rattle.device_defs.specs.Contents.{contents}
use Rattle.device_defs.specs.Device.{all_acted, with_store, event_begun, event_ended, event}
use Rattle.device_defs.specs.Outcomes.{Turn, ends_with, settles, checks, sense_kept, program_over, turned_by, again}
use Rattle.device_defs.specs.Owed.{hear, waiting_count, noted_end}
use Rattle.device_defs.specs.Sound.{DeviceStore}
use Rattle.device_defs.specs.Store.{tracks_of}
use Rattle.device_laws.specs.Standing.{RunsOn, LooksAt}
use Rattle.device_laws.specs.Whole.{WholeDevice}
use Rattle.device_laws.proofs.Based.{Base, kept, Any, Based, based_any}
use Rattle.device_laws.proofs.BasedEvents.{base_in, fronted, front_based, command_body, command_based}
use Rattle.device_laws.proofs.invariants.CallCounts.{hear_steady}
use Rattle.device_laws.proofs.ChainFeeds.{chain_feeds, runs_looks}
use Rattle.device_laws.proofs.QuietParts.{quiet_done, quiet_then, hear_quiet, ended_quiet}
use Rattle.device_laws.proofs.walks.Events.{turned_same}
use Rattle.device_laws.specs.Seen as seen
use Rattle.device_laws.specs.Seen.{NotCalled, EndsAs, IsKept, with_act, answered, CameAsSeen, Noticed, CommandCame}
use Rattle.device_laws.proofs.counted.RanCounts.{none_counted, counted_from, counted_to, try_based, based_rest, quiet_base}
use Rattle.device_laws.proofs.counted.RanParts.{split, quiet_ran, same_calls}
use Rattle.device_laws.proofs.counted.Walks.{follow_so}

-- What a turn makes of a device is by its paths, and by the resets that wait

pub record IsLike (x d : WholeDevice) : Type 0 where
  pub paths : x.paths ≡ d.paths
  pub waiting : x.history.waiting ≡ d.history.waiting

pub turned_paths : (x d : WholeDevice) (path : ℕ) (chain : ChainState) (came : Came) → IsLike x d →
    (turned_by x path chain came).paths ≡ (turned_by d path chain came).paths
turned_paths x d path chain (Ends e) like = by_over e.over
  where
    by_over : (b : Bool) →
        (if b then program_over (sense_kept x path e) (H.ended x.history e)
        else record (sense_kept x path e) { chain = Some chain; history = H.ended x.history e }).paths
        ≡ (if b then program_over (sense_kept d path e) (H.ended d.history e)
        else record (sense_kept d path e) { chain = Some chain; history = H.ended d.history e }).paths
    by_over true = rw (like.paths, like.waiting) refl
    by_over false = rw like.paths refl
turned_paths x d path chain (Checks e) like = rw (like.paths, like.waiting) refl
turned_paths x d path chain (HalfOpen t) like = like.paths

pub turned_chain : (x d : WholeDevice) (path : ℕ) (chain : ChainState) (came : Came) → (turned_by x path chain came).chain ≡ (turned_by d path chain came).chain
turned_chain x d path chain (Ends e) = by_over e.over
  where
    by_over : (b : Bool) →
        (if b then program_over (sense_kept x path e) (H.ended x.history e)
        else record (sense_kept x path e) { chain = Some chain; history = H.ended x.history e }).chain
        ≡ (if b then program_over (sense_kept d path e) (H.ended d.history e)
        else record (sense_kept d path e) { chain = Some chain; history = H.ended d.history e }).chain
    by_over true = refl
    by_over false = refl
turned_chain x d path chain (Checks e) = refl
turned_chain x d path chain (HalfOpen t) = refl

pub still_waiting : (acts : List Act) (h : History) → (all_acted h acts).waiting ≡ h.waiting
still_waiting [] h = refl
still_waiting (act ∷ acts) h = still_waiting acts (acted h act) ∙ by_running h.running
  where
    by_running : (o : Option OpenEntry) → (acted_in h act o).waiting ≡ h.waiting
    by_running (Some o) = refl
    by_running None = refl

like_kept : (x d : WholeDevice) (path : ℕ) (turn : Turn) (a : Stepped) (e : WholeDevice) → IsLike x d → IsKept x path turn a e → IsKept d path turn a e
like_kept x d path turn a e like k = record {
  answer = k.answer;
  paths = k.paths ∙ turned_paths x d path turn.chain turn.came like;
  chain = k.chain ∙ turned_chain x d path turn.chain turn.came;
}

module _ {K : Type 0} (had : Bool → Type 0) (hears : Hearing Image K) where
  abbrev Calls : Type 0
  Calls = Outside (List ℕ) K

  no_call : (u : Calls) → NotCalled u u
  no_call u = record { a = refl; b = refl }

  came_kept : (x : WholeDevice) (path : ℕ) (turn : Turn) {u z : Calls} {y : WholeDevice} {a : Stepped} →
      Ran had hears (came_out contents x path turn) u y (Some a) z → IsKept x path turn a y × NotCalled u z × (y.store.counts ≡ x.store.counts)
  came_kept x path turn {u = u} done =
      (record { answer = refl; paths = refl; chain = refl }, no_call u, ap (λ (s : DeviceStore). s.counts) (turned_same x path turn.chain turn.came))

  came_between : {n : ℕ} {g : Geometry} {chain : ChainState} {s : DeviceStore} {u z : Calls} {turn : Turn} {old new x y : Counts} → old ≡ x → y ≡ new →
      CameAsSeen had hears n g chain s u turn old new z → CameAsSeen had hears n g chain s u turn x y z
  came_between same is (seen.came looks final t i reads writes x y e v w all needs saw rest ends made) =
      seen.came looks final t i reads writes x y e v w all needs saw rest ends (counted_from (sym same) (counted_to made is))
  came_between same is (seen.unseen looks final t reads x y v checks all needs none made) =
      seen.unseen looks final t reads x y v checks all needs none (counted_from (sym same) (counted_to made is))
  came_between same is (seen.too_many looks final x count checks all made) =
      seen.too_many looks final x count checks all (counted_from (sym same) (counted_to made is))

  -- an event that ends keeps what it came to
  record Ended (y : WholeDevice) (o : Option Stepped) (w : Calls) (e : WholeDevice) (a : Option Stepped) (z : Calls) : Type 0 where
    same : o ≡ a
    paths : e.paths ≡ y.paths
    chain : e.chain ≡ y.chain
    quiet : NotCalled w z

  event_over : (old y : WholeDevice) (o : Option Stepped) {w z : Calls} {e : WholeDevice} {a : Option Stepped} →
      Ran had hears (event_ended contents old y o) w e a z → Ended y o w e a z
  event_over old y o r =
      let x = split (noted_end contents (waiting_count contents old.store) y.store) (λ s _. Done (record y { store = s }) o) r in
      last (quiet_ran (ended_quiet contents (waiting_count contents old.store) y.store) x.first) x.rest
    where
      last : {s : DeviceStore} {w v z : Calls} {e : WholeDevice} {a : Option Stepped} → NotCalled w v →
          Ran had hears (Done (record y { store = s }) o) v e a z → Ended y o w e a z
      last quiet done = record { same = refl; paths = refl; chain = refl; quiet = quiet }

  module _ (d : WholeDevice) (o : OpenEntry) (chain : ChainState) (runs : RunsOn d.store.cylinders d.store.geometry chain) where
    abbrev heard_by : DeviceStore → WholeDevice
    heard_by s = record (event_begun d) { store = s }

    is_like : (s : DeviceStore) → IsLike (heard_by s) d
    is_like s = record { paths = refl; waiting = refl }

    -- behind the look at its tracks
    module _ (s : DeviceStore) (cylinders : s.cylinders ≡ d.store.cylinders) (counts : s.counts ≡ d.store.counts) where
      on_tracks_came : (t : ℕ) → need_of chain ≡ Some t → {u v w z : Calls} {s2 : DeviceStore} {y : WholeDevice} {a : Stepped} → Noticed had hears d u s v →
          (turn : Option Turn) →
          Ran had hears (follow contents (tracks_of s) t chain t s) v s2 turn w →
          Ran had hears (on_tracks contents (heard_by s) o.path chain s2 turn) w y (Some a) z → CommandCame had hears d o chain u a y z
      on_tracks_came t needs quiet None first rest = elim rest [ ]
      on_tracks_came t needs {v = v} {w = w} {s2 = s2} {y = y} quiet (Some turn) first rest =
          let k = came_kept (with_store (heard_by s) s2) o.path turn rest in
          let n = d.store.cylinders in
          let g = d.store.geometry in
          seen.looked t s v w turn needs quiet (rw (← cylinders) (came_between counts k.2
          (follow_so had hears (n * 15) g (LooksAt n g) (chain_feeds n g) (tracks_of s) t chain t s (runs_looks n g chain t runs needs) s2 v w turn first)))
          k.1 (like_kept (with_store (heard_by s) s2) d o.path turn _ _ (record { paths = refl; waiting = still_waiting s2.acts d.history }) k.0)

      -- a command that looks at no track
      fed_none : (n : ℕ) (tracks : ℕ → Track) (need : Option ℕ) → need ≡ need_of chain → need ≡ None →
          fed (suc n) tracks (settled_act d.store.geometry d.paths o.path) chain
          ≡ fed_by (settled_act d.store.geometry d.paths o.path) (fed n tracks (settled_act d.store.geometry d.paths o.path)) (stepped chain None).chain
          (stepped chain None).progress
      unfolding F.fed
      fed_none n tracks need same none =
          ap (λ (x : Option Image). fed_by (settled_act d.store.geometry d.paths o.path) (fed n tracks (settled_act d.store.geometry d.paths o.path))
          (stepped chain x).chain (stepped chain x).progress) (ap (fed_image chain.fixed tracks) (sym same ∙ none))

      abbrev Fits : ChainState → Progress → Turn → Type 0
      Fits next p turn =
          (n : ℕ) (tracks : ℕ → Track) →
          EndsAs (fed_by (settled_act d.store.geometry d.paths o.path) (fed n tracks (settled_act d.store.geometry d.paths o.path)) next p) turn.chain turn.came

      record Answers (next : ChainState) (p : Progress) (u : Calls) (a : Stepped) (y : WholeDevice) (z : Calls) : Type 0 where
        turn : Turn
        quiet : NotCalled u z
        none : y.store.counts ≡ s.counts
        fits : Fits next p turn
        kept : IsKept (answered d o.path chain p) o.path turn a y

      answers : s.geometry ≡ d.store.geometry → (next : ChainState) (p : Progress) {u z : Calls} {y : WholeDevice} {a : Stepped} →
          Ran had hears (answered_by contents (heard_by s) o.path next p) u y (Some a) z → Answers next p u a y z
      answers same next (progresses.Ended e) r =
          let k = came_kept (heard_by s) o.path (ends_with next e) r in
          record {
            turn = ends_with next e;
            quiet = k.1;
            none = k.2;
            fits = λ n tracks. (refl, refl);
            kept = like_kept (heard_by s) d o.path (ends_with next e) _ _ (is_like s) k.0;
          }
      answers same next (progresses.Local act) r =
          let x = record (heard_by s) { paths = paths_behind d.paths o.path act } in
          let turn = settles next (settled_act s.geometry d.paths o.path act) in
          let k = came_kept x o.path turn r in
          record {
            turn = turn;
            quiet = k.1;
            none = k.2;
            fits = λ n tracks. by_geometry s.geometry (sym same);
            kept = like_kept x (with_act d o.path act) o.path turn _ _ (record { paths = refl; waiting = refl }) k.0;
          }
        where
          by_geometry : (g : Geometry) → d.store.geometry ≡ g →
              EndsAs (ended_by next (settled_by next (settled_act d.store.geometry d.paths o.path act)) None)
              (settles next (settled_act g d.paths o.path act)).chain (settles next (settled_act g d.paths o.path act)).came
          by_geometry g e = rw e (refl, refl)
      answers same next (progresses.Need q) r =
          let k = came_kept (heard_by s) o.path (checks next Equipment) r in
          record {
            turn = checks next Equipment;
            quiet = k.1;
            none = k.2;
            fits = λ n tracks. tt;
            kept = like_kept (heard_by s) d o.path (checks next Equipment) _ _ (is_like s) k.0;
          }
      answers same next (progresses.Write q e) r =
          let k = came_kept (heard_by s) o.path (checks next Equipment) r in
          record {
            turn = checks next Equipment;
            quiet = k.1;
            none = k.2;
            fits = λ n tracks. tt;
            kept = like_kept (heard_by s) d o.path (checks next Equipment) _ _ (is_like s) k.0;
          }

      by_memory : (same : s.geometry ≡ d.store.geometry) → need_of chain ≡ None → (ok : Bool) → {u v z : Calls} {y : WholeDevice} {a : Stepped} →
          NotCalled u v →
          Ran had hears (if ok then answered_by contents (heard_by s) o.path (stepped chain None).chain (stepped chain None).progress
          else Done (again (heard_by s) chain) None) v y (Some a) z → CommandCame had hears d o chain u a y z
      by_memory same none true quiet r =
          let x = answers same (stepped chain None).chain (stepped chain None).progress r in
          seen.asked x.turn none (same_calls quiet x.quiet)
          (λ n tracks. subst (λ (f : Fed). EndsAs f x.turn.chain x.turn.came) (sym (fed_none n tracks (need_of chain) refl none)) (x.fits n tracks)) x.kept
          (none_counted (x.none ∙ counts))
      by_memory same none false quiet r = elim r [ ]

      by_need : (same : s.geometry ≡ d.store.geometry) → (need : Option ℕ) → need_of chain ≡ need → {u v z : Calls} {y : WholeDevice} {a : Stepped} →
          Noticed had hears d u s v → Ran had hears (command_at contents (heard_by s) o.path chain need) v y (Some a) z →
          CommandCame had hears d o chain u a y z
      by_need same (Some t) needs quiet r =
          let x = split (follow contents (tracks_of s) t chain t s) (on_tracks contents (heard_by s) o.path chain) r in
          on_tracks_came t needs quiet x.answer x.first x.rest
      by_need same None needs quiet (tried ok m r) = by_memory same needs ok quiet.quiet r

      pub by_loss : (same : s.geometry ≡ d.store.geometry) → (lost : Bool) → has_loss o.acts ≡ lost → {u v z : Calls} {y : WholeDevice} {a : Stepped} →
          Noticed had hears d u s v →
          Ran had hears (if lost then came_out contents (heard_by s) o.path (checks chain Equipment)
          else command_at contents (heard_by s) o.path chain (need_of chain)) v y (Some a) z → CommandCame had hears d o chain u a y z
      by_loss same true lost quiet r =
          let k = came_kept (heard_by s) o.path (checks chain Equipment) r in
          seen.data_lost lost (like_kept (heard_by s) d o.path (checks chain Equipment) _ _ (is_like s) k.0) (same_calls quiet.quiet k.1)
          (none_counted (k.2 ∙ counts))
      by_loss same false lost quiet r = by_need same (need_of chain) refl quiet r

    -- behind the end of the event
    goes_on : {x : WholeDevice} {path : ℕ} {turn : Turn} {a : Stepped} {y e : WholeDevice} → e.paths ≡ y.paths → e.chain ≡ y.chain → IsKept x path turn a y →
        IsKept x path turn a e
    goes_on paths at k = record { answer = k.answer; paths = paths ∙ k.paths; chain = at ∙ k.chain }

    came_on : {u w z : Calls} {a : Stepped} {y e : WholeDevice} → CommandCame had hears d o chain u a y w → e.paths ≡ y.paths → e.chain ≡ y.chain →
        e.store.counts ≡ y.store.counts → NotCalled w z → CommandCame had hears d o chain u a e z
    came_on (seen.data_lost lost k quiet made) paths at same more =
        seen.data_lost lost (goes_on paths at k) (same_calls quiet more) (counted_to made same)
    came_on (seen.looked t s v w turn needs before saw behind k) paths at same more =
        seen.looked t s v w turn needs before (came_between refl same saw) (same_calls behind more) (goes_on paths at k)
    came_on (seen.asked turn needs quiet fits k made) paths at same more =
        seen.asked turn needs (same_calls quiet more) fits (goes_on paths at k) (counted_to made same)

    -- what the end of an event leaves of its counts
    over_counts : {u v z : Calls} {y e : WholeDevice} {x a : Option Stepped} →
        Based base_in Any (kept d.store) (event contents d (λ x. command_by contents x x.history.running x.chain)) →
        Ran had hears (fronted contents d (λ x. command_by contents x x.history.running x.chain) (event_begun d)) u y x v →
        Ran had hears (event_ended contents d y x) v e a z → e.store.counts ≡ y.store.counts
    over_counts {y = y} based first rest =
        let body = λ (x : WholeDevice). command_by contents x x.history.running x.chain in
        let front = based_any (front_based contents d body (λ (b : Base). b) (λ x. command_body contents x)) in
        let quiet = quiet_then _ (ended_quiet contents (waiting_count contents d.store) y.store) (λ z _. quiet_done) in
        ap (λ (b : Base). b.counts) (quiet_base quiet (based_rest (event_ended contents d) front based first) rest)

    by_room : d.history.running ≡ Some o → d.chain ≡ Some chain → (ok : Bool) → {u z : Calls} {e : WholeDevice} {a : Stepped} →
        Based base_in Any (kept d.store)
        (if ok then event contents d (λ x. command_by contents x x.history.running x.chain) else Done d None) →
        Ran had hears (if ok then event contents d (λ x. command_by contents x x.history.running x.chain) else Done d None) u e (Some a) z →
        CommandCame had hears d o chain u a e z
    by_room running at true {a = a} based r =
        let b = event_begun d in
        let x = split (and_then (hear contents 960 b.store) (λ s _. command_by contents (heard_by s) d.history.running d.chain)) (event_ended contents d) r in
        let over = event_over d x.state x.answer x.rest in
        let h = split (hear contents 960 b.store) (λ s _. command_by contents (heard_by s) d.history.running d.chain) x.first in
        let base = quiet_base (hear_quiet contents 960 b.store) (hear_steady contents 960 b.store) h.first in
        came_on
        (by_loss h.state (ap (λ (y : Base). y.cylinders) base) (ap (λ (y : Base). y.counts) base) (ap (λ (y : Base). y.geometry) base) (has_loss o.acts) refl
        (record { answer = h.answer; ran = h.first; quiet = quiet_ran (hear_quiet contents 960 b.store) h.first })
        (subst (λ (c : Option ChainState). Ran had hears (command_by contents (heard_by h.state) (Some o) c) h.outside x.state (Some a) x.outside) at
        (subst (λ (l : Option OpenEntry). Ran had hears (command_by contents (heard_by h.state) l d.chain) h.outside x.state (Some a) x.outside) running
        (subst (λ (l : Option Stepped). Ran had hears (command_by contents (heard_by h.state) d.history.running d.chain) h.outside x.state l x.outside)
        over.same h.rest))))
        over.paths over.chain (over_counts based x.first x.rest) over.quiet
    by_room running at false based r = elim r [ ]

    pub command_came : d.history.running ≡ Some o → d.chain ≡ Some chain → {u z : Calls} {e : WholeDevice} {a : Stepped} →
        Ran had hears (command contents d) u e (Some a) z → CommandCame had hears d o chain u a e z
    unfolding N.command
    command_came running at (tried ok m r) = by_room running at ok (try_based (command_based contents d) ok) r
