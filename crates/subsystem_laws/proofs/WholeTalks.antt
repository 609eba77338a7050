-- What a device runs is what a run holds with what is mounted for it.
use Rattle.std.proofs.Common.{◌≡◌, ◌*◌, ℕ, true, List, [], Option, None, Some, refl, sym, ap, subst, ◌∙◌}
use Rattle.ckd_types.specs.declared.record.Track.{Track}
use Rattle.loss_model.specs.declared.Loss.{Loss}
use Rattle.track_image.specs.Image.{Image}
use Rattle.device_outside.specs.Both.{PoolTold, SideTold, TellsAll, Linked}
use Rattle.device_outside.specs.Interaction.{Done, and_then}
use Rattle.device_outside.specs.Keeper.{Hearing}
use Rattle.device_outside.specs.Outside.{PortView}
use Rattle.device_outside.specs.Pool.{Pool, counted_slots}
use Rattle.device_outside.specs.Slots.{AreShared, SlotsTold}
use Rattle.device_outside.specs.Told.{Calls, RunOutcome}
use Rattle.device_outside.specs.Volume.{VolumeView}
use Rattle.device_outside.proofs.Link.{linked}
use Rattle.device_defs.specs.Command.{command}
use Rattle.device_defs.specs.Contents.{contents, by_plain}
use Rattle.device_defs.specs.Cutting.{reset, power}
use Rattle.device_defs.specs.Events.{second, background, lose}
use Rattle.device_defs.specs.Marks.{MarksDevice}
use Rattle.device_laws.specs.Agrees.{Held}
use Rattle.device_laws.specs.InOrder.{IsInOrder}
use Rattle.device_laws.specs.Standing.{LooksAt}
use Rattle.device_laws.specs.Lent.{Stands, in_order, is_away}
use Rattle.device_laws.specs.Whole.{WholeDevice, marks_device, WholeTwin, WholeTwins, Leaves}
use Rattle.device_laws.proofs.ChainFeeds.{chain_feeds, runs_looks}
use Rattle.device_laws.proofs.WholeCommand.{command_whole}
use Rattle.device_laws.proofs.Lent.{LeavesLent, IsShared, background_lent, loss_lent, power_lent, reset_lent}
use Rattle.device_laws.proofs.TwinWalks.{both_weaker}
use Rattle.device_laws.proofs.WholeParts.{second_whole, background_whole, loss_whole, reset_whole}
use Rattle.device_laws.proofs.WholePower.{power_whole}
use Rattle.device_laws.proofs.WholeTwins.{whole_done, whole_then}
use Rattle.subsystem_defs.specs.Happening.{Talk, told_to, held_with, mounted_behind}
use Rattle.subsystem_defs.specs.Subsystem.{Mounted}
use Rattle.subsystem_laws.specs.WholeComes.{OwnTalk, outside_at, Asked}
use Rattle.subsystem_laws.specs.WholeStood.{HasChain, Stood, IsMounted, is_mounted}

-- the device is left in order, or lent, and both answer alike
pub record LeavesSo {A : Type 0} (v w : List Track) (d : WholeDevice) (a b : A) (k : Held) : Type 0 where
  pub stands : Stands v w d k
  pub same : a ≡ b

-- beside that of the run's. A record, so that both can be inferred
pub record AreTwins {A : Type 0} (h : Held) (talk : OwnTalk A) (other : Talk A) : Type 0 where
  pub twins : WholeTwins LeavesSo talk other h

twins_by : {A : Type 0} {p : List Track → Type 0} (h : Held) (talk : OwnTalk A) (other : Talk A) → WholeTwins (Leaves p) talk other h → AreTwins h talk other
twins_by h talk other x = record {
  twins = both_weaker talk other h
      (λ s a m b k e. record {
        plain = e.plain;
        firm = e.firm;
        marks = e.marks;
        is = record { stands = in_order e.is.order; same = e.is.same };
      }) x;
}

twins_away : {A : Type 0} (h : Held) (talk : OwnTalk A) (other : Talk A) → WholeTwins LeavesLent talk other h → AreTwins h talk other
twins_away h talk other x = record {
  twins = both_weaker talk other h
      (λ s a m b k e. record {
        plain = e.plain;
        firm = e.firm;
        marks = e.marks;
        is = record { stands = is_away e.is.lent; same = e.is.same };
      }) x;
}

-- an answer as an event's end
pub twins_then : {A B : Type 0} (f : A → B) (h : Held) (talk : OwnTalk A) (other : Talk A) → AreTwins h talk other →
    AreTwins h (and_then talk (λ d a. Done d (f a))) (and_then other (λ d a. Done d (f a)))
twins_then f h talk other x = record {
  twins = whole_then (λ d a. Done d (f a)) (λ d a. Done d (f a)) x.twins
      (λ v w d a b k o. whole_done v w d (record { stands = o.stands; same = ap f o.same }));
}

module _ (v w : List Track) (d : WholeDevice) (h : Held) (i : IsInOrder v w d.store h) where
  pub command_twins : HasChain d → d.store.half ≡ None → AreTwins h (command contents d) (command by_plain (marks_device v w d))
  command_twins chains none =
      let n = d.store.cylinders in
      let g = d.store.geometry in
      twins_by h (command contents d) (command by_plain (marks_device v w d))
      (command_whole (n * 15) g (LooksAt n g) (chain_feeds n g) v w d h i refl refl none (λ chain q is needs. runs_looks n g chain q (chains chain is) needs))

  pub second_twins : AreTwins h (second contents d) (second by_plain (marks_device v w d))
  second_twins = twins_by h (second contents d) (second by_plain (marks_device v w d)) (second_whole v w d h i (λ hw is. (i.opened hw is).suits))

  pub loss_twins : (loss : Loss) → AreTwins h (lose contents d loss) (lose by_plain (marks_device v w d) loss)
  loss_twins loss = twins_by h (lose contents d loss) (lose by_plain (marks_device v w d) loss) (loss_whole v w d h loss i)

-- of any device

module _ (v w : List Track) (d : WholeDevice) (h : Held) where
  pub background_twins : Stands v w d h → d.store.half ≡ None → AreTwins h (background contents d) (background by_plain (marks_device v w d))
  background_twins (in_order i) none = twins_by h (background contents d) (background by_plain (marks_device v w d)) (background_whole v w d h i none)
  background_twins (is_away i) none = twins_away h (background contents d) (background by_plain (marks_device v w d)) (background_lent v w d h i)

  pub shared_loss_twins : (loss : Loss) → IsShared loss → Stands v w d h → AreTwins h (lose contents d loss) (lose by_plain (marks_device v w d) loss)
  shared_loss_twins loss shared (in_order i) = loss_twins v w d h i loss
  shared_loss_twins loss shared (is_away i) = twins_away h (lose contents d loss) (lose by_plain (marks_device v w d) loss) (loss_lent v w d h loss shared i)

  pub reset_twins : (path : ℕ) → Stands v w d h → AreTwins h (reset contents d path) (reset by_plain (marks_device v w d) path)
  reset_twins path (in_order i) =
      twins_by h (reset contents d path) (reset by_plain (marks_device v w d) path) (reset_whole v w d h path i (λ hw is. (i.opened hw is).suits))
  reset_twins path (is_away i) = twins_away h (reset contents d path) (reset by_plain (marks_device v w d) path) (reset_lent v w d h path i)

  pub power_twins : Stands v w d h → AreTwins h (power contents d) (power by_plain (marks_device v w d))
  power_twins (in_order i) = twins_by h (power contents d) (power by_plain (marks_device v w d)) (power_whole v w d h i)
  power_twins (is_away i) = twins_away h (power contents d) (power by_plain (marks_device v w d)) (power_lent v w d h i)

-- What a run holds then

pub record IsHeldSo {A : Type 0} (pool : Pool) (others : List ℕ) (y : Stood) (answer : A) (o : RunOutcome MarksDevice A) : Type 0 where
  pub answered : o.answer ≡ answer
  pub left : o.told.pool ≡ counted_slots pool
  pub mine : List ℕ
  pub mounted : IsMounted mine y (mounted_behind o)
  pub shared : AreShared pool.used mine others

pub told_pool : (o : Option Pool) (p t : Pool) → o ≡ Some p → PoolTold o t → t ≡ counted_slots p
told_pool o p t e x = subst (λ (q : Option Pool). PoolTold q t) e x

pub shared_by : (o : Option Pool) (p : Pool) (mine others : List ℕ) → o ≡ Some p → SlotsTold o (Some mine) others → AreShared p.used mine others
shared_by o p mine others e x = subst (λ (q : Option Pool). SlotsTold q (Some mine) others) e x

abbrev pub stands : WholeDevice → Option (VolumeView (List ℕ)) → Option (VolumeView (List ℕ)) → Stood
stands d on_a on_b = record { device = d; a = on_a; b = on_b }

abbrev pub mounts : List Track → List Track → WholeDevice → Calls → Calls → Mounted
mounts v w d a b = record { device = marks_device v w d; a = a; b = b }

module _ {K : Type 0} (p : Pool) (d : WholeDevice) (v w : List Track) (h : Held) (mine others : List ℕ) (on_a on_b : Option (VolumeView (List ℕ)))
    (a b : Calls) (slots : h.slots ≡ Some mine) (shared : AreShared p.used mine others) (told_a : SideTold on_a h.a a) (told_b : SideTold on_b h.b b) where
  pub tells : (port : PortView) (keeper : K) → port.pool ≡ Some p →
      TellsAll others (outside_at port (stands d on_a on_b) keeper) h (told_to (counted_slots p) (mounts v w d a b))
  tells port keeper e = record {
    pool = subst (λ (o : Option Pool). PoolTold o (counted_slots p)) (sym e) refl;
    mine = mine;
    slots = slots;
    shared = subst (λ (o : Option Pool). SlotsTold o (Some mine) others) (sym e) shared;
    a = told_a;
    b = told_b;
  }

module _ {K A : Type 0} (hears : Hearing Image K) (p q : Pool) (d : WholeDevice) (v w : List Track) (h : Held) (mine others : List ℕ)
    (on_a on_b : Option (VolumeView (List ℕ))) (a b : Calls) (slots : h.slots ≡ Some mine)
    (shared : AreShared p.used mine others) (told_a : SideTold on_a h.a a) (told_b : SideTold on_b h.b b) where
  held_by : (talk : OwnTalk A) (other : Talk A) (answer : A) (y : Stood) (f : Asked hears talk answer p (stands d on_a on_b) y q) →
      Linked others true (WholeTwin LeavesSo) other (told_to (counted_slots p) (mounts v w d a b)) y.device answer (outside_at f.after y f.later) →
      IsHeldSo q others y answer (held_with (counted_slots p) (mounts v w d a b) other)
  held_by talk other answer y f t =
      let x = t.is in
      let o : RunOutcome MarksDevice A = record { state = marks_device x.plain x.firm y.device; answer = answer; told = t.told } in
      let ran = t.ran
      ∙ ap (λ (m : MarksDevice). record { state = m; answer = t.answer; told = t.told }) (sym x.marks)
      ∙ ap (λ (e : A). record { state = marks_device x.plain x.firm y.device; answer = e; told = t.told }) (sym x.is.same) in
      subst (λ (u : RunOutcome MarksDevice A). IsHeldSo q others y answer u) (sym ran)
      (record {
        answered = refl;
        left = told_pool f.after.pool q t.told.pool f.pool_behind t.tells.pool;
        mine = t.tells.mine;
        mounted = is_mounted y.device x.plain x.firm t.holdings y.a y.b t.told.a t.told.b x.is.stands t.tells.slots t.tells.a t.tells.b;
        shared = shared_by f.after.pool q t.tells.mine others f.pool_behind t.tells.shared;
      })

  pub held_so : (talk : OwnTalk A) (other : Talk A) (answer : A) (y : Stood) → AreTwins h talk other → Asked hears talk answer p (stands d on_a on_b) y q →
      IsHeldSo q others y answer (held_with (counted_slots p) (mounts v w d a b) other)
  held_so talk other answer y twins f =
      held_by talk other answer y f
      (linked others (λ ok e. e) [] true (WholeTwin LeavesSo) h (told_to (counted_slots p) (mounts v w d a b)) twins.twins f.ran
      (tells p d v w h mine others on_a on_b a b slots shared told_a told_b f.port f.keeper f.pool_before))
