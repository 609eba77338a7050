-- A command of the running program, as an event of the whole device, is the command of a run's device.
use Rattle.std.proofs.Common.{◌≡◌, ℕ, Bool, true, false, List, Option, Some, None, refl, sym, ap, subst, ◌∙◌, inl, inr}
use Rattle.std.specs.Prelude.{if◌then◌else◌}
use Rattle.ckd_types.specs.declared.geometry.Geometry.{Geometry}
use Rattle.ckd_types.specs.declared.record.Track.{Track}
use Rattle.ckd_types.specs.Volume.{track_in}
use Rattle.ckd_rules.specs.declared.order.LocalAct.{LocalAct}
use Rattle.ckd_chain.specs.declared.progress.Progress.{Progress}
use Rattle.ckd_chain.specs.declared.progress.Progress.TheVariants as progresses
use Rattle.ckd_chain.specs.declared.progress.Settled.{Settled}
use Rattle.ckd_chain.specs.declared.progress.Settled.TheVariants.{Equipment}
use Rattle.ckd_chain.specs.Fed.{fed}
use Rattle.ckd_chain.specs.State.{ChainState}
use Rattle.ckd_chain.specs.Steps.{need_of, stepped}
use Rattle.plain_defs.specs.History.{OpenEntry, History, ended}
use Rattle.plain_device.specs.Acted.{settled_act, paths_behind}
use Rattle.device_outside.specs.Both.{both_try}
use Rattle.device_outside.proofs.BothRules.{on_test}
use Rattle.device_defs.specs.declared.answers.Came.{Came}
use Rattle.device_defs.specs.declared.answers.Came.TheVariants.{Ends, Checks, HalfOpen}
use Rattle.device_defs.specs.Command as N
use Rattle.device_defs.specs.Command.{has_loss, came_out, on_tracks, answered_by, on_paths, command_at, command_by, command}
use Rattle.device_defs.specs.Contents.{contents, by_plain}
use Rattle.device_defs.specs.Device.{with_store, event_begun}
use Rattle.device_defs.specs.Marks.{marks_of}
use Rattle.device_defs.specs.Outcomes.{Turn, ends_with, settles, checks, sense_kept, program_over, turned_by, turned, again}
use Rattle.device_defs.specs.Sound.{DeviceStore}
use Rattle.device_defs.specs.Store.{tracks_of}
use Rattle.device_laws.specs.Agrees.{Held}
use Rattle.device_laws.specs.Feeding.{Feeds, IsAsFed, ComesAsFed}
use Rattle.device_laws.specs.InOrder.{IsInOrder}
use Rattle.device_laws.specs.Whole.{WholeDevice, marks_device, WholeTwins, Leaves, BehindCommand}
use Rattle.device_laws.proofs.TwinFollow.{follow_order}
use Rattle.device_laws.proofs.TwinLaws.{in_order, is_in_order}
use Rattle.device_laws.proofs.walks.Events.{turned_same}
use Rattle.device_laws.proofs.WholeTwins.{whole_done, whole_ends, store_then, event_twin}

-- How a command comes out is known of the device of a run

gone_marks : (v w : List Track) (d : WholeDevice) (h : History) (chain : ChainState) (b : Bool) →
    marks_device v w (if b then program_over d h else record d { chain = Some chain; history = h })
    ≡ (if b then program_over (marks_device v w d) h else record (marks_device v w d) { chain = Some chain; history = h })
gone_marks v w d h chain true = refl
gone_marks v w d h chain false = refl

pub turned_marks : (v w : List Track) (d : WholeDevice) (path : ℕ) (chain : ChainState) (came : Came) →
    marks_device v w (turned_by d path chain came) ≡ turned_by (marks_device v w d) path chain came
turned_marks v w d path chain (Ends e) = let z = sense_kept d path e in gone_marks v w z (ended z.history e) chain e.over
turned_marks v w d path chain (Checks e) = refl
turned_marks v w d path chain (HalfOpen t) = refl

-- The plain volume

fed_behind : (u : List Track) (n : ℕ) (chain next : ChainState) (came : Came) (v : List Track) →
    ((answer : LocalAct → Settled) → IsAsFed u (fed n (track_in u) answer chain) next came v) → BehindCommand u n (Some chain) v
fed_behind u n chain next (Ends e) v f = inr (λ answer. (f answer).1.1)
fed_behind u n chain next (Checks e) v f = inl (f (λ act. Equipment))
fed_behind u n chain next (HalfOpen t) v f = inl (f (λ act. Equipment)).0

turn_behind : (u : List Track) (n : ℕ) (chain : ChainState) (a : Option Turn) (v : List Track) → ComesAsFed u n chain a v → BehindCommand u n (Some chain) v
turn_behind u n chain None v f = inl f
turn_behind u n chain (Some turn) v f = fed_behind u n chain turn.chain turn.came v f

stands : (u : List Track) (n : ℕ) (chain : Option ChainState) → BehindCommand u n chain u
stands u n None = refl
stands u n (Some chain) = inl refl

module _ (v w : List Track) (d : WholeDevice) (h : Held) (i : IsInOrder v w d.store h) where
  abbrev n : ℕ
  n = tracks_of d.store

  out : {p : List Track → Type 0} (path : ℕ) (turn : Turn) → p v →
      WholeTwins (Leaves p) (came_out contents d path turn) (came_out by_plain (marks_device v w d) path turn) h
  out path turn x =
      whole_ends v w (turned d path turn) (turned_marks v w d path turn.chain turn.came)
      (record { order = subst (λ (s : DeviceStore). IsInOrder v w s h) (sym (turned_same d path turn.chain turn.came)) i; same = refl; is = x })

module _ (v w : List Track) (d : WholeDevice) (h : Held) (i : IsInOrder v w d.store h) where
  answered : {p : List Track → Type 0} (path : ℕ) (chain : ChainState) (progress : Progress) → p v →
      WholeTwins (Leaves p) (answered_by contents d path chain progress) (answered_by by_plain (marks_device v w d) path chain progress) h
  answered path chain (progresses.Ended e) x = out v w d h i path (ends_with chain e) x
  answered path chain (progresses.Local act) x =
      out v w (record d { paths = paths_behind d.paths path act }) h i path (settles chain (settled_act d.store.geometry d.paths path act)) x
  answered path chain (progresses.Need q) x = out v w d h i path (checks chain Equipment) x
  answered path chain (progresses.Write q e) x = out v w d h i path (checks chain Equipment) x

  on_paths_twin : {p : List Track → Type 0} (path : ℕ) (chain : ChainState) → p v →
      WholeTwins (Leaves p) (on_paths contents d path chain) (on_paths by_plain (marks_device v w d) path chain) h
  on_paths_twin path chain x =
      both_try (answered path (stepped chain None).chain (stepped chain None).progress x)
      (whole_done v w (again d chain) (record { order = i; same = refl; is = x }))

  on_tracks_twin : {p : List Track → Type 0} (u y : List Track) (old : WholeDevice) (path : ℕ) (chain : ChainState) (a b : Option Turn) →
      with_store old d.store ≡ d → a ≡ b → p v →
      WholeTwins (Leaves p) (on_tracks contents old path chain d.store a) (on_tracks by_plain (marks_device u y old) path chain (marks_of v w d.store) b) h
  on_tracks_twin {p = p} u y old path chain a b e same x = rw (← same) (by_turn a)
    where
      by_turn : (a : Option Turn) → WholeTwins (Leaves p) (on_tracks contents old path chain d.store a)
          (on_tracks by_plain (marks_device u y old) path chain (marks_of v w d.store) a) h
      by_turn (Some turn) = out v w (with_store old d.store) h i path turn x
      by_turn None = whole_done v w (again (with_store old d.store) chain) (record { order = i; same = refl; is = x })

-- The command

module _ (tracks : ℕ) (g : Geometry) (looks : ChainState → ℕ → Type 0) (feeds : Feeds tracks g looks) where
  module _ (v w : List Track) (d : WholeDevice) (h : Held) (i : IsInOrder v w d.store h) (all : tracks_of d.store ≡ tracks) (on : d.store.geometry ≡ g)
      (none : d.store.half ≡ None) where
    by_need : (path : ℕ) (chain : ChainState) (o : Option ℕ) → ((t : ℕ) → o ≡ Some t → looks chain t) →
        WholeTwins (Leaves (BehindCommand v (tracks_of d.store) (Some chain))) (command_at contents d path chain o)
        (command_at by_plain (marks_device v w d) path chain o) h
    by_need path chain (Some t) at =
        store_then _ _
        (follow_order tracks g looks feeds v (tracks_of d.store) t chain t d.store w h (at t refl) all on none (in_order v w d.store h i))
        (λ v' w' z a b k f.
        on_tracks_twin v' w' (with_store d z) k (is_in_order v' w' z k f.0.order f.1) v w d path chain a b refl f.0.same
        (turn_behind v (tracks_of d.store) chain a v' f.0.came))
    by_need path chain None at = on_paths_twin v w d h i path chain (inl refl)

    by_chain : (o : Option OpenEntry) (k : Option ChainState) → ((chain : ChainState) (t : ℕ) → k ≡ Some chain → need_of chain ≡ Some t → looks chain t) →
        WholeTwins (Leaves (BehindCommand v (tracks_of d.store) k)) (command_by contents d o k) (command_by by_plain (marks_device v w d) o k) h
    by_chain (Some o) (Some chain) at =
        on_test (has_loss o.acts)
        (λ _. out v w d h i o.path (checks chain Equipment) (inl refl))
        (λ _. by_need o.path chain (need_of chain) (λ t e. at chain t refl e))
    by_chain (Some o) None at = whole_done v w d (record { order = i; same = refl; is = refl })
    by_chain None k at = whole_done v w d (record { order = i; same = refl; is = stands v (tracks_of d.store) k })

  -- of the running program, while no half write is open
  pub command_whole : (v w : List Track) (d : WholeDevice) (h : Held) → IsInOrder v w d.store h → tracks_of d.store ≡ tracks → d.store.geometry ≡ g →
      d.store.half ≡ None → ((chain : ChainState) (t : ℕ) → d.chain ≡ Some chain → need_of chain ≡ Some t → looks chain t) →
      WholeTwins (Leaves (BehindCommand v tracks d.chain)) (command contents d) (command by_plain (marks_device v w d)) h
  unfolding N.command
  command_whole v w d h i all on none at =
      both_try
      (event_twin v w d h (λ z. command_by contents z z.history.running z.chain) (λ z. command_by by_plain z z.history.running z.chain) i
      (λ w' s k o stays.
      let z : WholeDevice = record (event_begun d) { store = s } in
      let same : tracks_of s ≡ tracks = ap (λ (c : ℕ). tracks_of (record d.store { cylinders = c })) stays.cylinders ∙ all in
      rw (← same) (by_chain v w' z k o same (stays.geometry ∙ on) (stays.half ∙ none) d.history.running d.chain at)))
      (whole_done v w d (record { order = i; same = refl; is = stands v tracks d.chain }))
