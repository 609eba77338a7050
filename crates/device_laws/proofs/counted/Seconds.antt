-- The second part of a command's write ends the command as it was kept, and moves no more than that.
use Rattle.std.proofs.Common.{◌≡◌, ℕ, zero, suc, Bool, true, false, List, [], ◌∷◌, Option, Some, None, refl, ap, subst, ◌∙◌}
use Rattle.std.specs.Prelude.{if◌then◌else◌}
use Rattle.ckd_types.specs.declared.record.Edit.{Edit}
use Rattle.ckd_chain.specs.State.{ChainState}
use Rattle.plain_defs.specs.declared.journal.Act.{Act}
use Rattle.plain_defs.specs.History.{History, OpenEntry, acted_in, acted}
use Rattle.track_image.specs.Image.{Image}
use Rattle.device_outside.specs.Interaction.{Done, and_then}
use Rattle.device_outside.specs.Keeper.{Hearing}
use Rattle.device_outside.specs.Outside.{Outside, Ran, done}
use Rattle.device_defs.specs.declared.answers.SecondEnd.{SecondEnd}
use Rattle.device_defs.specs.Contents.{contents}
use Rattle.device_defs.specs.Device.{all_acted, with_store, event_begun, event_ended}
use Rattle.device_defs.specs.Events as V
use Rattle.device_defs.specs.Events.{second_told, second_turn, command_ended, second_ended, second_of, second}
use Rattle.device_defs.specs.Outcomes.{turned}
use Rattle.device_defs.specs.Owed as O
use Rattle.device_defs.specs.Owed.{is_clean, heard, hear, waiting_count, noted_end}
use Rattle.device_defs.specs.Second.{second_part}
use Rattle.device_defs.specs.Sound.{DeviceStore}
use Rattle.device_defs.specs.Store.{OfCommand, HalfWrite, frame_at, with_frame}
use Rattle.device_laws.specs.Whole.{WholeDevice}
use Rattle.device_laws.proofs.Always.{Always, always_done, always_ask}
use Rattle.device_laws.proofs.KeepLaws.{always_ran}
use Rattle.device_laws.specs.Seen.{SecondCame}
use Rattle.device_laws.proofs.counted.Commands.{IsLike, turned_paths, turned_chain, still_waiting}
use Rattle.device_laws.proofs.counted.RanParts.{split}

-- notices leave the half write

abbrev SameHalf : DeviceStore → DeviceStore → Unit {0} → Type 0
SameHalf s y a = y.half ≡ s.half

heard_half : (n : ℕ) (s : DeviceStore) (note : Option ℕ) → ((z : DeviceStore) → Always (hear contents n z) (λ y a. SameHalf z y a)) →
    Always (heard contents (hear contents n) s note) (λ y a. SameHalf s y a)
heard_half n s None more = always_done refl
heard_half n s (Some t) more = by_clean (is_clean contents (frame_at s t))
  where
    by_clean : (b : Bool) → Always (hear contents n (if b then with_frame s t None else s)) (λ y a. SameHalf s y a)
    by_clean true = more (with_frame s t None)
    by_clean false = more s

hear_half : (n : ℕ) (s : DeviceStore) → Always (hear contents n s) (λ y a. SameHalf s y a)
unfolding O.hear
hear_half zero s = always_done refl
hear_half (suc n) s = always_ask (λ note. heard_half n s note (hear_half n))

-- acts go into the running program's entry

acts_path : (acts : List Act) (h : History) (o : OpenEntry) → h.running ≡ Some o → (p : OpenEntry) × (((all_acted h acts).running ≡ Some p) × (p.path ≡ o.path))
acts_path [] h o is = (o, (is, refl))
acts_path (act ∷ acts) h o is =
    let more = acts_path acts (acted h act) _ (ap (λ (r : Option OpenEntry). (acted_in h act r).running) is) in more

module _ {K : Type 0} (had : Bool → Type 0) (hears : Hearing Image K) (d : WholeDevice) (o : OpenEntry) (chain : ChainState) where
  abbrev Calls : Type 0
  Calls = Outside (List ℕ) K

  abbrev heard_by : DeviceStore → WholeDevice
  heard_by s = record (event_begun d) { store = s }

  -- by the entry that runs
  by_entry : (x : WholeDevice) (t : ℕ) (p : OpenEntry) → p.path ≡ o.path → IsLike x d → (done : Bool) → {u z : Calls} {y : WholeDevice} {a : SecondEnd} →
      Ran had hears (Done (turned x p.path (second_turn contents chain done)) (second_told contents t (second_turn contents chain done).came)) u y a z →
      SecondCame d o chain t a y
  by_entry x t p same like ok done = record {
    done = ok;
    answer = refl;
    paths = ap (λ (path : ℕ). (turned x path (second_turn contents chain ok)).paths) same
        ∙ turned_paths x d o.path (second_turn contents chain ok).chain (second_turn contents chain ok).came like;
    chain = ap (λ (path : ℕ). (turned x path (second_turn contents chain ok)).chain) same
        ∙ turned_chain x d o.path (second_turn contents chain ok).chain (second_turn contents chain ok).came;
  }

  -- behind the second part
  by_part : (s z : DeviceStore) (t : ℕ) (bypass : Bool) (e : Edit) → d.history.running ≡ Some o → d.chain ≡ Some chain → (done : Bool) →
      {u v : Calls} {y : WholeDevice} {a : SecondEnd} →
      Ran had hears (second_ended contents (with_store (heard_by s) z) t (OfCommand bypass e) done) u y a v → SecondCame d o chain t a y
  by_part s z t bypass e running at ok {u = u} {v = v} {y = y} {a = a} r =
      let x = with_store (heard_by s) z in
      let f = acts_path z.acts d.history o running in
      by_entry x t f.0 f.1.1 (record { paths = refl; waiting = still_waiting z.acts d.history }) ok
      (subst (λ (k : Option ChainState). Ran had hears (command_ended contents x t (Some f.0) k ok) u y a v) at (rw (← f.1.0) r))

  by_half : (s : DeviceStore) (h : HalfWrite Image) (bypass : Bool) (e : Edit) → h.origin ≡ OfCommand bypass e → d.history.running ≡ Some o →
      d.chain ≡ Some chain → (l : Option (HalfWrite Image)) → l ≡ Some h → {u v : Calls} {y : WholeDevice} {a : SecondEnd} →
      Ran had hears (second_of contents (heard_by s) l) u y a v → SecondCame d o chain h.track a y
  by_half s h bypass e from running at None is r = absurd (cc)
  by_half s h bypass e from running at (Some k) is {v = v} {y = y} {a = a} r =
      let same : k ≡ h = cc in
      let x = split (second_part contents s k) (λ z ok. second_ended contents (with_store (heard_by s) z) k.track k.origin ok) r in
      subst (λ (i : HalfWrite Image). SecondCame d o chain i.track a y) same
      (by_part s x.state k.track bypass e running at x.answer
      (subst (λ (g : _). Ran had hears (second_ended contents (with_store (heard_by s) x.state) k.track g x.answer) x.outside y a v)
      (ap (λ (i : HalfWrite Image). i.origin) same ∙ from) x.rest))

  -- behind the end of the event
  last_kept : (y : WholeDevice) (t : ℕ) (b : SecondEnd) → SecondCame d o chain t b y → {w z : Calls} {e : WholeDevice} {a : SecondEnd} →
      Ran had hears (event_ended contents d y b) w e a z → SecondCame d o chain t a e
  last_kept y t b k r =
      let x = split (noted_end contents (waiting_count contents d.store) y.store) (λ s _. Done (record y { store = s }) b) r in last x.rest
    where
      last : {s : DeviceStore} {v z : Calls} {e : WholeDevice} {a : SecondEnd} → Ran had hears (Done (record y { store = s }) b) v e a z →
          SecondCame d o chain t a e
      last done = record { done = k.done; answer = k.answer; paths = k.paths; chain = k.chain }

  pub second_came : (h : HalfWrite Image) (bypass : Bool) (g : Edit) → d.store.half ≡ Some h → h.origin ≡ OfCommand bypass g → d.history.running ≡ Some o →
      d.chain ≡ Some chain → {u z : Calls} {e : WholeDevice} {a : SecondEnd} → Ran had hears (second contents d) u e a z → SecondCame d o chain h.track a e
  unfolding V.second
  second_came h bypass g half from running at r =
      let b = event_begun d in
      let x = split (and_then (hear contents 960 b.store) (λ s _. second_of contents (heard_by s) s.half)) (event_ended contents d) r in
      let n = split (hear contents 960 b.store) (λ s _. second_of contents (heard_by s) s.half) x.first in
      last_kept x.state h.track x.answer
      (by_half n.state h bypass g from running at n.state.half
      (always_ran (hear contents 960 b.store) (λ y a. SameHalf b.store y a) (hear_half 960 b.store).holds n.first ∙ half) n.rest) x.rest
