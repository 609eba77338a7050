-- A device goes on beside the plain device of its history behind each event of a turn, where memory is had.
use Rattle.std.proofs.Common.{◌≡◌, ◌≤◌, ◌*◌, ℕ, Bool, true, List, [], Option, Some, None, refl, sym, ap, subst, ◌∙◌}
use Rattle.std.proofs.lemmas.Option.{same_Some}
use Rattle.std.specs.Prelude.{IfSome, option_map}
use Rattle.ckd_types.specs.Ccw.{ccw_at}
use Rattle.ckd_types.specs.declared.channel.Ccw.{Ccw}
use Rattle.ckd_types.specs.declared.geometry.Geometry.{Geometry}
use Rattle.ckd_types.specs.declared.record.Track.{Track}
use Rattle.ckd_chain.specs.Facts.{IsChain}
use Rattle.ckd_chain.specs.State.{ChainState}
use Rattle.plain_defs.specs.History.{OpenEntry, IsOpen}
use Rattle.plain_defs.specs.Journal.{Plans, replay}
use Rattle.plain_defs.specs.PlainState.{PlainState}
use Rattle.plain_defs.specs.Whole.{GiveBytes, GivesBytes}
use Rattle.track_image.specs.Image.{Image}
use Rattle.device_outside.specs.Interaction.{Interaction}
use Rattle.device_outside.specs.Keeper.{Hearing, Message, ReplyTo, reply}
use Rattle.device_outside.specs.After.{Has}
use Rattle.device_outside.specs.Outside.{Outside, Ran}
use Rattle.device_outside.specs.Slots.{SlotsTold}
use Rattle.device_outside.proofs.Runs.{ran_weaker}
use Rattle.device_defs.specs.declared.answers.Did.{Did}
use Rattle.device_defs.specs.declared.answers.SecondEnd.{SecondEnd}
use Rattle.device_defs.specs.declared.answers.Stepped.{Stepped}
use Rattle.device_defs.specs.Command.{command}
use Rattle.device_defs.specs.Contents.{contents, by_plain}
use Rattle.device_defs.specs.Cutting.{power, reset}
use Rattle.device_defs.specs.Events.{background, lose, second}
use Rattle.device_defs.specs.Marks.{MarksDevice, half_mark}
use Rattle.device_defs.specs.Start as S
use Rattle.device_defs.specs.Start.{start, start_fault}
use Rattle.device_defs.specs.Store.{HalfWrite}
use Rattle.loss_model.specs.declared.Loss.{Loss}
use Rattle.device_laws.specs.Agrees.{Held}
use Rattle.device_laws.specs.Standing.{LooksAt, RunsOn}
use Rattle.device_laws.specs.SoundOn.{begun_as}
use Rattle.device_laws.specs.Whole.{WholeDevice, WholeTwin, WholeTwins, Leaves, BehindCommand, marks_device}
use Rattle.device_laws.proofs.Always.{Always}
use Rattle.device_laws.proofs.ChainFeeds.{chain_feeds, runs_looks}
use Rattle.device_laws.proofs.Had.{Had}
use Rattle.device_laws.proofs.CleanParts.{Holds, command_clean, second_clean}
use Rattle.device_laws.proofs.KeepLaws.{always_ran, clean_ran}
use Rattle.device_laws.proofs.KeptEvents.{Continues, command_goes, second_goes, background_goes, lose_goes}
use Rattle.device_laws.proofs.KeptHistories.{data_checks, extends_itself}
use Rattle.device_laws.proofs.PlainCommand.{command_follows}
use Rattle.device_laws.proofs.PlainCuts.{reset_follows}
use Rattle.device_laws.proofs.PlainEvents.{start_follows}
use Rattle.device_laws.proofs.PlainLosses.{background_follows, loss_follows}
use Rattle.device_laws.proofs.PlainPower.{power_follows}
use Rattle.device_laws.proofs.PlainSeconds.{second_follows}
use Rattle.device_laws.proofs.PlainTurns.{Follows, RunsAt, ChainOf, none_mid}
use Rattle.device_laws.proofs.WholeCommand.{command_whole}
use Rattle.device_laws.proofs.WholeParts.{background_whole, loss_whole, reset_whole, second_whole, start_order, start_fault_same}
use Rattle.device_laws.proofs.WholePower.{power_whole}
use Rattle.subsystem_defs.specs.Promised.{first_of}
use Rattle.subsystem_laws.specs.Came.{CameTo}
use Rattle.subsystem_laws.proofs.Came.{came_had}
use Rattle.subsystem_laws.proofs.PlainRuns.{still_first}
use Rattle.subsystem_laws.proofs.Shapes.{power_shape, reset_shape}
use Rattle.subsystem_laws.specs.Standing.{IsBesideOn, Untold}
use Rattle.subsystem_laws.proofs.turning.Untold.{twinned}

pub itself : (d : WholeDevice) → Continues d.plans d.history d
itself d = record { plans = refl; history = extends_itself d.history }

pub own_follows : (first : ℕ → List Track) (num : ℕ) (empty : PlainState) (m : MarksDevice) → Follows num empty m →
    empty.volume ≡ first empty.cylinders → Follows m.store.device (first_of first m) m
own_follows first num empty m f held =
    subst (λ (x : PlainState). Follows m.store.device x m) (still_first first num empty m f held) (subst (λ (n : ℕ). Follows n empty m) (sym f.number) f)

-- the chain of the program that runs, while no write is half done
runs_by : (plans : Plans) (x : PlainState) (o : OpenEntry) (before : Option ChainState) (g : Geometry) (n : ℕ) (chain : ChainState) → before ≡ Some chain →
    GiveBytes plans → 1 ≤ o.path → o.path ≤ 4 → RunsAt plans x (Some o) before → ChainOf g n before → IsChain chain → RunsOn n g chain
runs_by plans x o None g n chain is gives least most at of c = absurd (cc)
runs_by plans x o (Some origin) g n chain is gives least most at of c =
    let same : origin ≡ chain = same_Some origin chain is in
    subst (λ (k : ChainState). IsChain k → RunsOn n g k) same
    (λ c. record {
      is = record { is = c; cylinders = of.1 };
      geometry = of.0;
      gives = λ i. subst (λ (l : List Ccw). GivesBytes (ccw_at l i)) (sym at.hand.words) (gives o.path o.ordinal least most i);
    }) c

-- a device beside the plain one again, which over marks is what the step came to
pub record BesideBy (first : ℕ → List Track) {K A : Type 0} (j : Interaction Bool Image MarksDevice A) (e : WholeDevice) (z : Outside (List ℕ) K) : Type 0 where
  pub beside : IsBesideOn first e z
  pub to : CameTo j
  pub is : marks_device beside.plain beside.firm e ≡ to.state

module _ {first : ℕ → List Track} {K : Type 0} {d : WholeDevice} {u : Outside (List ℕ) K} (s : IsBesideOn first d u) where
  abbrev pub num : ℕ
  num = d.store.device

  abbrev pub empty : PlainState
  empty = begun_as first d

  abbrev pub marks : MarksDevice
  marks = marks_device s.plain s.firm d

  pub runs_on : (none : d.store.half ≡ None) (o : OpenEntry) → d.history.running ≡ Some o → (chain : ChainState) → d.chain ≡ Some chain → IsChain chain →
      RunsOn d.store.cylinders d.store.geometry chain
  runs_on none o runs chain is c =
      let f = s.follows in
      let whole : marks.store.half ≡ None = ap (option_map half_mark) none in
      let start = (subst (λ (r : Option OpenEntry). IfSome r (IsOpen d.plans (replay d.plans empty d.history.items) d.history.items)) runs f.stands.plain.at).start in
      runs_by d.plans (replay d.plans empty d.history.items) o f.before d.store.geometry d.store.cylinders chain
      (sym (none_mid _ marks.store.half d.history.running f.before d.chain whole f.mid) ∙ is) s.gives start.least start.most
      (subst (λ (r : Option OpenEntry). RunsAt d.plans (replay d.plans empty d.history.items) r f.before) runs f.runs) f.chain c

  pub whole_of : (o : OpenEntry) (none : d.store.half ≡ None) → d.history.running ≡ Some o → ((chain : ChainState) → d.chain ≡ Some chain → IsChain chain) →
      WholeTwins (Leaves (BehindCommand s.plain (d.store.cylinders * 15) d.chain)) (command contents d) (command by_plain marks) s.held
  whole_of o none runs chains =
      let n = d.store.cylinders in
      let on = d.store.geometry in
      command_whole (n * 15) on (LooksAt n on) (chain_feeds n on) s.plain s.firm d s.held s.order refl refl none
      (λ chain q is needs. runs_looks n on chain q (runs_on none o runs chain is (chains chain is)) needs)

  pub has : Has [] u s.held
  has = record { a = s.untold.a; b = s.untold.b; slots = subst (λ (o : Option (List ℕ)). SlotsTold u.port.pool o []) (sym s.untold.slots) tt }

  module _ {hears : Hearing Image K} (heard : (k : K) (m : Message Image) (r : ReplyTo m) (l : K) → hears k m r l → r ≡ reply m)
      {e : WholeDevice} {z : Outside (List ℕ) K} where
    -- its plans are told by what the step over marks came to
    by_marks : {A : Type 0} {a : A} {p : List Track → Type 0} {i : Interaction (List ℕ) Image WholeDevice A} {j : Interaction Bool Image MarksDevice A} →
        WholeTwins (Leaves p) i j s.held → Had j (λ y _. Follows num empty y) →
        ((t : CameTo j) (v w : List Track) → marks_device v w e ≡ t.state → e.plans ≡ d.plans) → Ran (λ ok. ok ≡ true) hears i u e a z → BesideBy first j e z
    by_marks {a = a} {p = p} {i = i} {j = j} both had plans r =
        let o = twinned [] (WholeTwin (Leaves p)) heard s.held both s.untold r in
        let t : CameTo j = record { state = o.state; answer = o.answer; is = o.came } in
        record {
          beside = record {
            plain = o.is.plain;
            firm = o.is.firm;
            held = o.holdings;
            untold = o.untold;
            order = o.is.is.order;
            follows = own_follows first num empty (marks_device o.is.plain o.is.firm e)
                (subst (λ (m : MarksDevice). Follows num empty m) (sym o.is.marks) (came_had had t)) refl;
            gives = subst GiveBytes (sym (plans t o.is.plain o.is.firm o.is.marks)) s.gives;
          };
          to = t;
          is = o.is.marks;
        }

    pub behind : {A : Type 0} {a : A} {p : List Track → Type 0} {i : Interaction (List ℕ) Image WholeDevice A} {j : Interaction Bool Image MarksDevice A} →
        WholeTwins (Leaves p) i j s.held → Had j (λ y _. Follows num empty y) → Always i (λ y _. Continues d.plans d.history y) →
        Ran (λ ok. ok ≡ true) hears i u e a z → BesideBy first j e z
    behind {i = i} both had goes r =
        by_marks both had (λ t v w is. (always_ran i (λ y _. Continues d.plans d.history y) goes.holds r).plans) r

    pub command_beside : (a : Option Stepped) (o : OpenEntry) → d.store.half ≡ None → d.history.running ≡ Some o →
        ((chain : ChainState) → d.chain ≡ Some chain → IsChain chain) → Ran (λ ok. ok ≡ true) hears (command contents d) u e a z →
        BesideBy first (command by_plain marks) e z
    command_beside a o none runs chains r =
        behind (whole_of o none runs chains) (command_follows num empty marks s.follows o runs (ap (option_map half_mark) none))
        (command_goes contents d.plans d.history d (itself d)) r

    -- no data check comes of a command, nor of the other part of its write
    pub command_checks : (a : Option Stepped) (o : OpenEntry) → d.store.half ≡ None → d.history.running ≡ Some o →
        ((chain : ChainState) → d.chain ≡ Some chain → IsChain chain) → Ran (λ ok. ok ≡ true) hears (command contents d) u e a z →
        data_checks e.history ≡ data_checks d.history
    command_checks a o none runs chains r =
        clean_ran (λ y _. data_checks y.history ≡ data_checks d.history) (λ y _. Holds (data_checks d.history) y) [] s.held (whole_of o none runs chains)
        (command_clean marks) (λ x y f. f) has (ran_weaker (λ ok h. tt) r)

    pub second_checks : (a : SecondEnd) → Ran (λ ok. ok ≡ true) hears (second contents d) u e a z → data_checks e.history ≡ data_checks d.history
    second_checks a r =
        clean_ran (λ y _. data_checks y.history ≡ data_checks d.history) (λ y _. Holds (data_checks d.history) y) [] s.held
        (second_whole s.plain s.firm d s.held s.order (λ i is. (s.order.opened i is).suits))
        (second_clean marks) (λ x y f. f) has (ran_weaker (λ ok h. tt) r)

    pub second_beside : (a : SecondEnd) (h : HalfWrite Image) → d.store.half ≡ Some h → Ran (λ ok. ok ≡ true) hears (second contents d) u e a z →
        BesideBy first (second by_plain marks) e z
    second_beside a h half r =
        behind (second_whole s.plain s.firm d s.held s.order (λ i is. (s.order.opened i is).suits))
        (second_follows num empty marks s.follows (half_mark h) (ap (option_map half_mark) half)) (second_goes contents d.plans d.history d (itself d)) r

    pub background_beside : (a : Option Did) → d.store.half ≡ None → Ran (λ ok. ok ≡ true) hears (background contents d) u e a z →
        BesideBy first (background by_plain marks) e z
    background_beside a none r =
        behind (background_whole s.plain s.firm d s.held s.order none) (background_follows num empty marks s.follows (ap (option_map half_mark) none))
        (background_goes contents d.plans d.history d (itself d)) r

    pub reset_beside : (path : ℕ) (a : Unit {0}) → Ran (λ ok. ok ≡ true) hears (reset contents d path) u e a z → BesideBy first (reset by_plain marks path) e z
    reset_beside path a r =
        by_marks (reset_whole s.plain s.firm d s.held path s.order (λ i is. (s.order.opened i is).suits)) (reset_follows num empty marks s.follows path)
        (λ t v w is. ap (λ (m : MarksDevice). m.plans) is ∙ (reset_shape marks path t).1) r

    pub power_beside : (a : Unit {0}) → Ran (λ ok. ok ≡ true) hears (power contents d) u e a z → BesideBy first (power by_plain marks) e z
    power_beside a r =
        by_marks (power_whole s.plain s.firm d s.held s.order) (power_follows num empty marks s.follows)
        (λ t v w is. ap (λ (m : MarksDevice). m.plans) is ∙ (power_shape marks t).1) r

    pub loss_beside : (loss : Loss) (a : Unit {0}) → Ran (λ ok. ok ≡ true) hears (lose contents d loss) u e a z → BesideBy first (lose by_plain marks loss) e z
    loss_beside loss a r =
        behind (loss_whole s.plain s.firm d s.held loss s.order) (loss_follows num empty marks s.follows loss)
        (lose_goes contents d.plans d.history d loss (itself d)) r

-- the start of a program
unfoldable pub start_beside : {first : ℕ → List Track} {K : Type 0} (d : WholeDevice) (u : Outside (List ℕ) K) (path : ℕ) → IsBesideOn first d u → 1 ≤ path → path ≤ 4 → start_fault d path ≡ None →
    IsBesideOn first (start d path) u
unfolding S.start
start_beside {first = first} d u path s least most none = record {
  plain = s.plain;
  firm = s.firm;
  held = s.held;
  untold = s.untold;
  order = start_order s.plain s.firm d s.held path s.order;
  follows =
      start_follows d.store.device (begun_as first d) (marks_device s.plain s.firm d) s.follows path least most
      (sym (start_fault_same s.plain s.firm d path) ∙ none);
  gives = s.gives;
}

-- the same device beside another outside of the same volumes, of whose slots nothing is told either
unfoldable pub beside_there : {first : ℕ → List Track} {K L : Type 0} (d : WholeDevice) (u : Outside (List ℕ) K) (w : Outside (List ℕ) L) → ((h : Held) → Untold u h → Untold w h) →
    IsBesideOn first d u → IsBesideOn first d w
beside_there d u w same s = record {
  plain = s.plain;
  firm = s.firm;
  held = s.held;
  untold = same s.held s.untold;
  order = s.order;
  follows = s.follows;
  gives = s.gives;
}
