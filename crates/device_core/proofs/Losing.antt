-- A command of a program that lost data of cache fast write.
use Rattle.std.proofs.Common.{◌≡◌, ◌∙◌, ◌||◌, ℕ, Bool, true, false, List, [], ◌∷◌, Some, refl, sym, ap}
use Rattle.std.specs.Prelude.{Ok, if◌then◌else◌}
use Rattle.std.specs.List.{list_any}
use Rattle.ckd_types.specs.declared.memory.NoMemory.{NoMemory}
use Rattle.ckd_chain.specs.declared.progress.Settled.TheVariants.{Equipment}
use Rattle.ckd_chain.specs.State.{ChainState}
use Rattle.ckd_chain.specs.Steps.{need_of}
use Rattle.plain_defs.specs.declared.journal.Act.{Act}
use Rattle.plain_defs.specs.declared.journal.Acted.{Acted}
use Rattle.plain_defs.specs.PlainState.{PathsState}
use Rattle.track_image.specs.Image.{Image}
use Rattle.device_outside.specs.Keeper.{Hearing}
use Rattle.device_outside.specs.Outside.{Outside, Ran, where_ok}
use Rattle.device_outside.proofs.Runs.{ended}
use Rattle.device_defs.specs.declared.answers.Came.{Came}
use Rattle.device_defs.specs.Command.{command_at, has_loss, is_loss}
use Rattle.device_defs.specs.Contents.{contents}
use Rattle.device_defs.specs.Device.{all_acted, with_store}
use Rattle.device_defs.specs.Outcomes.{Turn, checks, turned, told_step}
use Rattle.device_store.specs.Looks.{StoreOf}
use Rattle.device_core.specs.declared.history.Running.{Running}
use Rattle.device_core.specs.State.{DefinedDevice, commanded_by, came_to, told}
use Rattle.device_core.specs.TrackWalk.{turn_with}

by_loss_of : (b x y : Bool) → x ≡ y → (b || x) ≡ (if b then true else y)
by_loss_of true x y same = refl
by_loss_of false x y same = same

any_loss : (acts : List Acted) → list_any (λ a. is_loss a.act) acts ≡ has_loss acts
any_loss [] = refl
any_loss (a ∷ acts) = by_loss_of (is_loss a.act) _ _ (any_loss acts)

pub has_lost : (acts : List Acted) (x : Bool) {b : Bool} → x ≡ list_any (λ a. is_loss a.act) acts → x ≡ b → has_loss acts ≡ b
has_lost acts x any is = sym (any_loss acts) ∙ sym any ∙ is

pub by_loss : (d : DefinedDevice) (r : Running) → has_loss r.acts.items ≡ false →
    commanded_by d r ≡ command_at contents d r.path r.chain (need_of r.chain)
by_loss d r is = rw is refl

pub lost_ran : {K : Type 0} {hears : Hearing Image K} {w : Outside (List ℕ) K} (d : DefinedDevice) (r : Running) (s : StoreOf) (paths : PathsState)
    (chain : ChainState) (came : Came) → d.store ≡ s → d.paths ≡ paths → s.acts ≡ [] → has_loss r.acts.items ≡ true →
    turn_with chain came ≡ checks r.chain Equipment →
    Ran (where_ok {E = NoMemory} (Ok came)) hears (commanded_by d r) w
    (came_to {E = NoMemory} (record (with_store d s) { paths = paths }) r.path chain (Ok came)) (told {E = NoMemory} (Ok came)) w
lost_ran d r s paths chain came store same fresh lost turn =
    rw lost (ended
    (ap (λ (t : Turn). turned d r.path t) (sym turn)
    ∙ ap (λ (x : StoreOf). turned (record d { store = x }) r.path (turn_with chain came)) store
    ∙ ap (λ (p : PathsState). turned (record d { store = s; paths = p }) r.path (turn_with chain came)) same
    ∙ ap (λ (acts : List Act). turned (record d { store = s; paths = paths; history = all_acted d.history acts }) r.path (turn_with chain came)) (sym fresh))
    (ap (λ (t : Turn). Some (told_step t.came)) (sym turn)))
