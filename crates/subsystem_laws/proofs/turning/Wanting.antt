-- A device still stands beside the plain device of its history behind want of memory, with the plain volume that it had; and behind a look.
use Rattle.std.proofs.Common.{◌≡◌, ◌<◌, zero, suc, ℕ, Bool, true, false, List, [], Option, Some, None, refl, sym, ap, subst, ◌∙◌}
use Rattle.std.specs.Prelude.{option_map}
use Rattle.ckd_types.specs.declared.record.Track.{Track}
use Rattle.ckd_types.specs.Fixed.{Fixed}
use Rattle.ckd_chain.specs.declared.mark.Stage.{Stage}
use Rattle.ckd_chain.specs.Facts.{IsChain}
use Rattle.ckd_chain.specs.State.{ChainState}
use Rattle.ckd_chain.specs.Steps.{again_from, chain_opened, opened_by}
use Rattle.plain_defs.specs.History.{OpenEntry, plain_of}
use Rattle.plain_defs.specs.Journal.{Plans, replay}
use Rattle.plain_defs.specs.PlainState.{PlainState}
use Rattle.plain_defs.specs.Whole.{GiveBytes}
use Rattle.track_image.specs.Image.{Image}
use Rattle.device_outside.specs.Interaction.{Interaction}
use Rattle.device_outside.specs.Keeper.{Hearing}
use Rattle.device_outside.specs.Outside.{Outside, Ran}
use Rattle.device_defs.specs.declared.answers.Did.{Did}
use Rattle.device_defs.specs.declared.answers.Stepped.{Stepped}
use Rattle.device_defs.specs.Command.{command}
use Rattle.device_defs.specs.Contents.{by_plain, contents}
use Rattle.device_defs.specs.Device.{with_store}
use Rattle.device_defs.specs.Events.{background}
use Rattle.device_defs.specs.Losses as L
use Rattle.device_defs.specs.Losses.{all_firm_told, side_lost}
use Rattle.device_defs.specs.Marks.{MarksDevice, MarksStore, half_mark}
use Rattle.device_defs.specs.Outcomes.{again}
use Rattle.device_defs.specs.Owed.{noted_begin, waiting_count}
use Rattle.device_defs.specs.Peek as P
use Rattle.device_defs.specs.Peek.{Peeked, peek}
use Rattle.device_defs.specs.Store.{owed_at, tracks_of}
use Rattle.device_laws.specs.SoundOn.{begun_as, plain_on}
use Rattle.device_laws.specs.Whole.{WholeDevice, WholeTwin, WholeTwins, Leaves, marks_device}
use Rattle.device_laws.proofs.Always.{Always, always_done, always_tell, always_then}
use Rattle.device_laws.proofs.KeepLaws.{always_ran}
use Rattle.device_laws.proofs.KeptEvents.{Continues, always_if, background_goes, command_goes}
use Rattle.device_laws.proofs.PlainCommand.{follows_store}
use Rattle.device_laws.proofs.PlainLosses.{Walked, walked_follow, walked_hardened, walks_first}
use Rattle.device_laws.proofs.PlainStores.{Core, Open, core_of, hardened_core, loose_at}
use Rattle.device_laws.proofs.PlainTurns.{AtPart, ChainOf, Follows, RunsAt, mid_none, none_mid}
use Rattle.device_laws.proofs.PlainWalks.{framed_same, side_holds}
use Rattle.device_laws.proofs.PoolWalks.{asks_always, ended_asks}
use Rattle.device_laws.proofs.WholeImage.{ahead_only}
use Rattle.device_laws.proofs.WholeParts.{background_whole}
use Rattle.subsystem_laws.specs.Looking.{is_written_at}
use Rattle.subsystem_laws.proofs.looking.Keeps.{peek_keeps_own}
use Rattle.subsystem_laws.proofs.looking.Talks.{by_background}
use Rattle.subsystem_laws.proofs.looking.TwinPeek.{peek_whole}
use Rattle.subsystem_laws.specs.Standing.{IsBesideOn}
use Rattle.subsystem_laws.proofs.turning.Again.{background_wants, command_wants}
use Rattle.subsystem_laws.proofs.turning.Beside.{itself, marks, own_follows, whole_of}
use Rattle.subsystem_laws.proofs.turning.Lacking.{Lacks, Quiet, track_keeps}
use Rattle.subsystem_laws.proofs.turning.Untold.{along}

-- Whatever a loose track that becomes firm leaves

module _ (W : Core → Type 0) (hard : (c : Core) (t : ℕ) → W c → loose_at c t ≡ true → W (hardened_core c t)) where
  abbrev Holds : MarksStore → Type 0
  Holds s = W (core_of s)

  told_always : (n : ℕ) (s : MarksStore) → Holds s → Always (all_firm_told by_plain n s) (λ z (_ : Unit {0}). Holds z)
  unfolding L.all_firm_told
  told_always zero s w = always_done w
  told_always (suc n) s w =
      always_then (told_always n s w) (λ z _ v. always_if (owed_at z n).firm (always_tell (λ _. always_done v)) (always_done v))

  pub quiet_core : Quiet by_plain Holds
  quiet_core = record {
    counts = λ z ok w. w;
    fails = λ z side w.
        always_if z.paired (told_always (tracks_of z) (side_lost by_plain z side None) (side_holds W hard z side None w)) (always_done w);
    frames = λ z t o w. subst W (sym (framed_same z t o)) w;
    queues = λ u z t w. subst W (sym (ap core_of (ahead_only u z t))) w;
    unqueues = λ z ts w. w;
  }

-- The chain is where it was before its command

again_at : (plans : Plans) (s : PlainState) (r : Option OpenEntry) (chain : ChainState) → RunsAt plans s r (Some chain) →
    RunsAt plans s r (Some (again_from (chain_opened chain)))
again_at plans s (Some o) chain at =
    subst (λ (stage : Option Stage). AtPart plans s o (again_from (opened_by chain stage))) (sym at.fresh)
    (record { hand = record { words = at.hand.words; next = at.hand.next }; stance = at.stance; fixed = at.fixed; fresh = refl })
again_at plans s None chain at = tt

again_fixed : (chain : ChainState) (stage : Option Stage) → (again_from (opened_by chain stage)).fixed ≡ chain.fixed
again_fixed chain None = refl
again_fixed chain (Some stage) = refl

module _ (num : ℕ) (empty : PlainState) where
  again_follows : (d : MarksDevice) → Follows num empty d → (chain : ChainState) → d.chain ≡ Some chain → d.store.half ≡ None →
      Follows num empty (again d chain)
  again_follows d f chain now half =
      let is : f.before ≡ Some chain = sym (none_mid (core_of d.store) d.store.half d.history.running f.before d.chain half f.mid) ∙ now in
      let on = subst (ChainOf d.store.geometry d.store.cylinders) is f.chain in
      let fixed = again_fixed chain chain.stage in
      record {
        number = f.number;
        base = f.base;
        some = f.some;
        stands = record { plain = f.stands.plain; due = f.stands.due };
        keeps = f.keeps;
        of = f.of;
        places = f.places;
        before = Some (again_from (chain_opened chain));
        runs = again_at d.plans (replay d.plans empty d.history.items) d.history.running chain
            (subst (RunsAt d.plans (replay d.plans empty d.history.items) d.history.running) is f.runs);
        chain = (ap (λ (x : Fixed). x.geometry) fixed ∙ on.0, ap (λ (x : Fixed). x.cylinders) fixed ∙ on.1);
        mid = mid_none (core_of d.store) d.store.half d.history.running (Some (again_from (chain_opened chain)))
            (Some (again_from (chain_opened chain))) half refl;
        home = f.home;
      }

  -- over marks, with the plain volume v
  pub record Stays (v : List Track) (y : MarksDevice) : Type 0 where
    pub follows : Follows num empty y
    pub plain : y.store.plain ≡ v

  module _ (d : MarksDevice) (f : Follows num empty d) where
    abbrev pub WalkedOn : Core → Type 0
    WalkedOn c = Walked (plain_of d.plans empty d.history) d.store.geometry d.store.cylinders (core_of d.store) c × (c.plain ≡ d.store.plain)

    pub along_quiet : Quiet by_plain (λ s. WalkedOn (core_of s))
    along_quiet =
        quiet_core WalkedOn
        (λ c t w is. (walked_hardened (plain_of d.plans empty d.history) d.store.geometry d.store.cylinders (core_of d.store) c t w.0 is, w.1))

    pub along_first : WalkedOn (core_of (noted_begin d.store))
    along_first = (
      record {
        plain = d.store.plain;
        walks = walks_first num empty d f (noted_begin d.store) refl;
        stays = record { loose = λ t firm. firm; plain = λ t firm. refl };
      },
      refl,
    )

    along_half : (y : MarksStore) → WalkedOn (core_of y) → d.store.half ≡ None → y.half ≡ None
    along_half y w none = ap (λ (x : Open). x.0) w.0.walks.rest ∙ none

    owed_stays : (y : MarksDevice) (z : MarksStore) → core_of z ≡ core_of y.store → Stays d.store.plain y → Stays d.store.plain (record y { store = z })
    owed_stays y z e x = record { follows = follows_store num empty y x.follows z e; plain = ap (λ (c : Core). c.plain) e ∙ x.plain }

    pub command_stays : (o : OpenEntry) (chain : ChainState) → d.history.running ≡ Some o → d.chain ≡ Some chain → d.store.half ≡ None →
        Always (command by_plain d) (λ y (a : Option Stepped). Lacks (Stays d.store.plain) y a)
    command_stays o chain running now none =
        command_wants by_plain (λ s. WalkedOn (core_of s)) along_quiet (Stays d.store.plain) (λ y t x. owed_stays y _ refl x) d along_first o chain running now
        (λ y w. record {
          follows = again_follows (with_store d y) (walked_follow num empty d f y w.0) chain now (along_half y w none);
          plain = w.1;
        })
        (record { follows = f; plain = refl })

    pub background_stays : Always (background by_plain d) (λ y (a : Option Did). Lacks (Stays d.store.plain) y a)
    background_stays =
        background_wants by_plain (λ s. WalkedOn (core_of s)) along_quiet (Stays d.store.plain) (λ y t x. owed_stays y _ refl x) d along_first
        (λ y w. record { follows = walked_follow num empty d f y w.0; plain = w.1 })

    -- a look, whether memory is had or not
    pub peek_stays : (t : ℕ) → Always (peek by_plain d t) (λ y (_ : Option Peeked). Stays d.store.plain y)
    unfolding P.peek
    peek_stays t =
        always_then
        (always_then (track_keeps by_plain (λ s. WalkedOn (core_of s)) along_quiet (noted_begin d.store) t along_first)
        (λ z found w. always_done (record { follows = walked_follow num empty d f z w.0; plain = w.1 })))
        (λ y a x. always_then
        (asks_always (ended_asks by_plain (λ z. core_of z ≡ core_of y.store) (λ z t e. e) (waiting_count by_plain d.store) y.store refl))
        (λ z _ e. always_done (owed_stays y z e x)))

-- Over contents

-- beside the plain device of its history, with the plain volume v
pub record StaysBeside (first : ℕ → List Track) {K : Type 0} (v : List Track) (e : WholeDevice) (z : Outside (List ℕ) K) : Type 0 where
  pub beside : IsBesideOn first e z
  pub plain : beside.plain ≡ v

there : (first : ℕ → List Track) (d : WholeDevice) (o : OpenEntry) (k : Option ChainState) → RunsAt d.plans (replay d.plans (begun_as first d) d.history.items) (Some o) k →
    (chain : ChainState) × (k ≡ Some chain)
there first d o (Some chain) at = (chain, refl)
there first d o None at = absurd at

module _ {first : ℕ → List Track} {K : Type 0} {d : WholeDevice} {u : Outside (List ℕ) K} (s : IsBesideOn first d u) {had : Bool → Type 0} {hears : Hearing Image K}
    {e : WholeDevice} {z : Outside (List ℕ) K} where
  -- its twin over marks leaves that plain volume
  stays_by : {X : Type 0} {a : X} {p : List Track → Type 0} {i : Interaction (List ℕ) Image WholeDevice X} {j : Interaction Bool Image MarksDevice X}
      (T : MarksDevice → X → Type 0) → WholeTwins (Leaves p) i j s.held → Always j (λ y b. T y b) →
      ((y : MarksDevice) → T y a → Stays d.store.device (begun_as first d) s.plain y) → e.plans ≡ d.plans → Ran had hears i u e a z → StaysBeside first s.plain e z
  stays_by {a = a} {p = p} T both always so plans r =
      let o = along [] (WholeTwin (Leaves p)) (λ y b. T y b) s.held both always.holds s.untold r in
      let x = so o.state (subst (λ (b : _). T o.state b) (sym o.is.is.same) o.so) in
      record {
        beside = record {
          plain = o.is.plain;
          firm = o.is.firm;
          held = o.holdings;
          untold = o.untold;
          order = o.is.is.order;
          follows = own_follows first d.store.device (begun_as first d) (marks_device o.is.plain o.is.firm e)
              (subst (λ (m : MarksDevice). Follows d.store.device (begun_as first d) m) (sym o.is.marks) x.follows) refl;
          gives = subst GiveBytes (sym plans) s.gives;
        };
        plain = ap (λ (m : MarksDevice). m.store.plain) o.is.marks ∙ x.plain;
      }

  -- behind want of memory
  pub command_lacked : (o : OpenEntry) → d.store.half ≡ None → d.history.running ≡ Some o →
      ((chain : ChainState) → d.chain ≡ Some chain → IsChain chain) → Ran had hears (command contents d) u e None z → StaysBeside first s.plain e z
  command_lacked o none runs chains r =
      let m = marks s in
      let f = s.follows in
      let half : m.store.half ≡ None = ap (option_map half_mark) none in
      let t = there first d o f.before (subst (λ (x : Option OpenEntry). RunsAt d.plans (replay d.plans (begun_as first d) d.history.items) x f.before) runs f.runs) in
      let now : d.chain ≡ Some t.0 = none_mid (core_of m.store) m.store.half d.history.running f.before d.chain half f.mid ∙ t.1 in
      stays_by (λ y (b : Option Stepped). Lacks (Stays d.store.device (begun_as first d) s.plain) y b) (whole_of s o none runs chains)
      (command_stays d.store.device (begun_as first d) m f o t.0 runs now half) (λ y x. x)
      (always_ran (command contents d) (λ y _. Continues d.plans d.history y) (command_goes contents d.plans d.history d (itself d)).holds r).plans r

  pub background_lacked : d.store.half ≡ None → Ran had hears (background contents d) u e None z → StaysBeside first s.plain e z
  background_lacked none r =
      stays_by (λ y (b : Option Did). Lacks (Stays d.store.device (begun_as first d) s.plain) y b) (background_whole s.plain s.firm d s.held s.order none)
      (background_stays d.store.device (begun_as first d) (marks s) s.follows) (λ y x. x)
      (always_ran (background contents d) (λ y _. Continues d.plans d.history y) (background_goes contents d.plans d.history d (itself d)).holds r).plans r

  -- behind a look at a track on which no half write of a command, or of one that was cut, is open
  pub peek_beside : {a : Option Peeked} (t : ℕ) → t < tracks_of d.store → is_written_at d.store.half t ≡ false →
      Ran had hears (peek contents d t) u e a z → StaysBeside first s.plain e z
  peek_beside t lt may r =
      stays_by (λ y (b : Option Peeked). Stays d.store.device (begun_as first d) s.plain y)
      (peek_whole s.plain s.firm d s.held t lt (by_background d.store.half t may) s.order) (peek_stays d.store.device (begun_as first d) (marks s) s.follows t) (λ y x. x)
      (peek_keeps_own d e t r).plans r

-- so its plain device has that volume
pub same_volume : {first : ℕ → List Track} {K L : Type 0} {d e : WholeDevice} {u : Outside (List ℕ) K} {z : Outside (List ℕ) L} (s : IsBesideOn first d u) → StaysBeside first s.plain e z →
    (plain_on first e).volume ≡ (plain_on first d).volume
same_volume s x = x.beside.follows.of.volume ∙ x.plain ∙ sym s.follows.of.volume
