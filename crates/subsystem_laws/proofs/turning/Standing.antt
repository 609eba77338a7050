-- A device that came about by its events and orders goes on to stand so beside the plain device of its history behind each event of a turn.
use Rattle.std.proofs.Common.{◌≡◌, ◌<◌, ◌≤◌, ℕ, Bool, true, false, List, Option, Some, None, sym, ap, subst, ◌∙◌}
use Rattle.std.specs.Prelude.{option_map}
use Rattle.ckd_chain.specs.Facts.{IsChain}
use Rattle.ckd_chain.specs.State.{ChainState}
use Rattle.ckd_types.specs.declared.record.Track.{Track}
use Rattle.plain_defs.specs.History.{OpenEntry}
use Rattle.track_image.specs.Image.{Image}
use Rattle.device_outside.specs.Interaction.{Interaction}
use Rattle.device_outside.specs.Keeper.{Hearing, Message, ReplyTo, reply}
use Rattle.device_outside.specs.Outside.{Outside, Ran}
use Rattle.device_defs.specs.declared.answers.Did.{Did}
use Rattle.device_defs.specs.declared.answers.SecondEnd.{SecondEnd}
use Rattle.device_defs.specs.declared.answers.Stepped.{Stepped}
use Rattle.device_defs.specs.Command.{command}
use Rattle.device_defs.specs.Contents.{contents, by_plain}
use Rattle.device_defs.specs.Cutting.{power, reset}
use Rattle.device_defs.specs.Events.{background, lose, second}
use Rattle.device_defs.specs.Marks.{MarksDevice, half_mark}
use Rattle.device_defs.specs.Peek.{Peeked, peek}
use Rattle.device_defs.specs.Start as S
use Rattle.device_defs.specs.Start.{start, start_fault}
use Rattle.device_defs.specs.Store.{HalfWrite, tracks_of}
use Rattle.loss_model.specs.declared.Loss.{Loss}
use Rattle.loss_model.specs.declared.Loss.TheVariants as losses
use Rattle.device_laws.specs.Agrees.{Held}
use Rattle.device_laws.specs.Whole.{WholeDevice}
use Rattle.device_laws.proofs.Always.{always_weaker}
use Rattle.device_laws.proofs.KeptEvents.{peek_goes}
use Rattle.device_laws.proofs.PlainEvents.{had_always}
use Rattle.device_laws.proofs.WholeParts.{start_fault_same, start_same}
use Rattle.subsystem_laws.specs.Came.{CameTo}
use Rattle.subsystem_laws.specs.CameAbout as about
use Rattle.subsystem_laws.specs.CameAbout.{CameAboutOn}
use Rattle.subsystem_laws.specs.Excused.{has_fresh}
use Rattle.subsystem_laws.specs.Looking.{is_written_at}
use Rattle.subsystem_laws.proofs.AboutRuns.{about_kept_on}
use Rattle.subsystem_laws.proofs.looking.Talks.{by_background}
use Rattle.subsystem_laws.proofs.looking.TwinPeek.{peek_whole}
use Rattle.subsystem_laws.proofs.Shapes.{
  Shape,
  background_shape,
  command_shape,
  lose_shape,
  none_fresh,
  peek_shape,
  power_shape,
  reset_shape,
  second_shape,
}
use Rattle.subsystem_laws.proofs.Walks.{LeavesSo}
use Rattle.subsystem_laws.specs.Standing.{StandsOn, Untold}
use Rattle.subsystem_laws.proofs.turning.Beside as B
use Rattle.subsystem_laws.proofs.turning.Beside.{
  BesideBy,
  behind,
  empty,
  itself,
  marks,
  num,
  background_beside,
  beside_there,
  command_beside,
  loss_beside,
  power_beside,
  reset_beside,
  second_beside,
  start_beside,
}
use Rattle.subsystem_laws.proofs.turning.Wanting.{peek_stays}

module _ {first : ℕ → List Track} {K : Type 0} {d : WholeDevice} {u : Outside (List ℕ) K} (s : StandsOn first d u) where
  abbrev before : MarksDevice
  before = marks s.beside

  -- a loss of any kind
  loss_about : (loss : Loss) → LeavesSo (CameAboutOn first) (lose by_plain before loss)
  loss_about losses.Cache = (about_kept_on first).lost_cache before s.about
  loss_about losses.Store = (about_kept_on first).lost_store before s.about
  loss_about (losses.Side side) = (about_kept_on first).lost_side before side s.beside.order.free s.about

  module _ {hears : Hearing Image K} (heard : (k : K) (m : Message Image) (r : ReplyTo m) (l : K) → hears k m r l → r ≡ reply m)
      {e : WholeDevice} {z : Outside (List ℕ) K} where
    so_behind : {A : Type 0} {j : Interaction Bool Image MarksDevice A} → LeavesSo (CameAboutOn first) j →
        ((t : CameTo j) → Shape d.history t.state.history) → BesideBy first j e z → StandsOn first e z
    so_behind abouts shapes b = record {
      beside = b.beside;
      about = subst (CameAboutOn first) (sym b.is) (abouts b.to);
      never = subst (λ (m : MarksDevice). has_fresh m.history.items ≡ false) (sym b.is)
          (none_fresh d.history b.to.state.history (shapes b.to) s.never);
    }

    pub command_stands : (a : Option Stepped) (o : OpenEntry) → d.store.half ≡ None → d.history.running ≡ Some o →
        ((chain : ChainState) → d.chain ≡ Some chain → IsChain chain) → Ran (λ ok. ok ≡ true) hears (command contents d) u e a z → StandsOn first e z
    command_stands a o none runs chains r =
        so_behind ((about_kept_on first).commanded before o runs (ap (option_map half_mark) none) s.about) (command_shape before)
        (command_beside s.beside heard a o none runs chains r)

    pub second_stands : (a : SecondEnd) (h : HalfWrite Image) → d.store.half ≡ Some h → Ran (λ ok. ok ≡ true) hears (second contents d) u e a z → StandsOn first e z
    second_stands a h half r =
        so_behind ((about_kept_on first).seconded before (half_mark h) (ap (option_map half_mark) half) s.about) (second_shape before)
        (second_beside s.beside heard a h half r)

    pub background_stands : (a : Option Did) → d.store.half ≡ None → Ran (λ ok. ok ≡ true) hears (background contents d) u e a z → StandsOn first e z
    background_stands a none r =
        so_behind ((about_kept_on first).worked before (ap (option_map half_mark) none) s.about) (background_shape before)
        (background_beside s.beside heard a none r)

    pub reset_stands : (path : ℕ) (a : Unit {0}) → Ran (λ ok. ok ≡ true) hears (reset contents d path) u e a z → StandsOn first e z
    reset_stands path a r =
        so_behind ((about_kept_on first).cut before path s.about) (λ t. (reset_shape before path t).0) (reset_beside s.beside heard path a r)

    pub power_stands : (a : Unit {0}) → Ran (λ ok. ok ≡ true) hears (power contents d) u e a z → StandsOn first e z
    power_stands a r = so_behind ((about_kept_on first).lost_power before s.about) (λ t. (power_shape before t).0) (power_beside s.beside heard a r)

    -- a look at a track on which no half write of a command, or of one that was cut, is open
    peek_besides : (a : Option Peeked) (t : ℕ) → t < tracks_of d.store → is_written_at d.store.half t ≡ false →
        Ran (λ ok. ok ≡ true) hears (peek contents d t) u e a z → BesideBy first (peek by_plain before t) e z
    peek_besides a t lt may r =
        let b = s.beside in
        behind b heard (peek_whole b.plain b.firm d b.held t lt (by_background d.store.half t may) b.order)
        (had_always (always_weaker (peek_stays (num b) (empty b) before b.follows t) (λ y _ x. x.follows))) (peek_goes contents d.plans d.history d t (itself d)) r

    pub peek_stands : (a : Option Peeked) (t : ℕ) → t < tracks_of d.store → is_written_at d.store.half t ≡ false →
        Ran (λ ok. ok ≡ true) hears (peek contents d t) u e a z → StandsOn first e z
    peek_stands a t lt may r =
        so_behind (λ x. about.looked s.about s.beside.order.free t lt x) (peek_shape before t) (peek_besides a t lt may r)

    pub loss_stands : (loss : Loss) (a : Unit {0}) → Ran (λ ok. ok ≡ true) hears (lose contents d loss) u e a z → StandsOn first e z
    loss_stands loss a r = so_behind (loss_about loss) (lose_shape before loss) (loss_beside s.beside heard loss a r)

-- the start of a program
pub start_stands : {first : ℕ → List Track} {K : Type 0} (d : WholeDevice) (u : Outside (List ℕ) K) (path : ℕ) → StandsOn first d u → 1 ≤ path → path ≤ 4 → start_fault d path ≡ None →
    StandsOn first (start d path) u
unfolding S.start B.start_beside
start_stands {first = first} d u path s least most none = record {
  beside = start_beside d u path s.beside least most none;
  about =
      subst (CameAboutOn first) (sym (start_same s.beside.plain s.beside.firm d path))
      ((about_kept_on first).started (marks s.beside) path d.store.device (least, most) (sym (start_fault_same s.beside.plain s.beside.firm d path) ∙ none) s.about);
  never = s.never;
}

-- the same device over another outside of the same volumes, of whose slots nothing is told either
pub stands_there : {first : ℕ → List Track} {K L : Type 0} (d : WholeDevice) (u : Outside (List ℕ) K) (w : Outside (List ℕ) L) → ((h : Held) → Untold u h → Untold w h) →
    StandsOn first d u → StandsOn first d w
unfolding B.beside_there
stands_there d u w same s = record { beside = beside_there d u w same s.beside; about = s.about; never = s.never }
