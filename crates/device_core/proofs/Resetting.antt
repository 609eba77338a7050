-- A reset of a path: it asks nothing, and what it leaves.
use Rattle.std.proofs.Common.{◌≡◌, ◌∙◌, ℕ, Bool, true, false, List, [], ◌∷◌, ◌++◌, Option, Some, None, refl, sym, ap}
use Rattle.std.specs.Prelude.{◌==◌, ◌||◌, is_some, option_map, if◌then◌else◌}
use Rattle.ckd_chain.specs.State.{ChainState}
use Rattle.plain_defs.specs.Journal.{Plans}
use Rattle.track_cache.specs.declared.frames.Frame.{Frame}
use Rattle.nv_store.specs.declared.patches.Stored.{Stored}
use Rattle.device_outside.specs.declared.volume.Volume.{Ghosts}
use Rattle.device_outside.specs.Keeper.{Hearing}
use Rattle.device_outside.specs.Outside.{PortView, Ran, done}
use Rattle.device_store.specs.declared.store.DeviceStore.{DeviceStore}
use Rattle.device_store.specs.State.{outside}
use Rattle.device_store.proofs.Moves.{from_equal}
use Rattle.plain_defs.specs.declared.journal.Item.TheVariants as items
use Rattle.plain_defs.specs.History.{OpenEntry, History, cut_by, has_used, is_path_of, put, reset_in}
use Rattle.plain_defs.specs.Legal.{is_used}
use Rattle.plain_defs.specs.PlainState.{PathsState, reset_path}
use Rattle.track_image.specs.Image.{Image}
use Rattle.device_outside.specs.Interaction.{Interaction, Done, and_then}
use Rattle.device_defs.specs.Contents.{contents}
use Rattle.device_defs.specs.Cutting.{counts_one_by, half_cut, path_cut, reset, reset_by, reset_noted}
use Rattle.device_defs.specs.Device.{all_reset}
use Rattle.device_defs.specs.Store.{Store}
use Rattle.device_core.specs.declared.history.Past.{Past}
use Rattle.device_core.specs.Kept.{chain_of, history_of}
use Rattle.device_core.specs.State.{DefinedDevice, device_by}

abbrev built : Store Frame Stored Image → Plans → PathsState → History → Option ChainState → DefinedDevice
built s plans x y z = record { store = s; paths = x; plans = plans; history = y; chain = z }

-- the device of what is kept of a store, paths and a past
pub device_with : (s : Store Frame Stored Image) (plans : Plans) (paths ps : PathsState) (q : Past) (h : History) (chain : Option ChainState) →
    history_of q ≡ h → option_map chain_of q.running ≡ chain → paths ≡ ps →
    record { store = s; paths = ps; plans = plans; history = h; chain = chain } ≡ device_by s paths plans q
device_with s plans paths ps q h chain history_is chain_is paths_is =
    ap (λ (x : PathsState). built s plans x h chain) (sym paths_is) ∙ ap (λ (x : History). built s plans paths x chain) (sym history_is)
    ∙ ap (λ (x : Option ChainState). built s plans paths (history_of q) x) (sym chain_is)

pub none_of : {A : Type 0} (x : Option A) → is_some x ≡ false → x ≡ None
none_of None is = refl
none_of (Some a) is = absurd cc

-- it asks nothing, so the outside stays
pub asks_nothing : {V K : Type 0} {G : Ghosts V} {had : Bool → Type 0} {hears : Hearing Image K} {i : Interaction (List ℕ) Image DefinedDevice (Unit {0})}
    {z : DefinedDevice} (p : PortView) (k : K) (x y : DeviceStore V G) → i ≡ Done z tt → y ≡ x → Ran had hears i (outside p x k) z tt (outside p y k)
asks_nothing {V = V} {G = G} p k x y is same = from_equal (λ j. j) (sym is) (ap (λ (s : DeviceStore V G). outside p s k) same) done

abbrev Left : Type 0
Left = Interaction (List ℕ) Image DefinedDevice (Unit {0})

module _ (d : DefinedDevice) (path : ℕ) where
  abbrev noted : History → DefinedDevice
  noted h = record d { history = h }

  abbrev with_paths : History → Left
  with_paths h = Done (record d { history = h; paths = reset_path d.paths path }) tt

  abbrev by_path : OpenEntry → Bool → Left
  by_path o b = if b then path_cut contents d path else Done (reset_noted contents d path 0) tt

  abbrev in_path : OpenEntry → ℕ → Bool → History
  in_path o more b = if b then cut_by d.history o more
      else if is_used path false d.history.items then record d.history { waiting = put path d.history.waiting } else d.history

  used_is : (x : Option OpenEntry) → d.history.running ≡ x → is_path_of x path ≡ false → (b : Bool) → has_used d.history path ≡ b →
      is_used path false d.history.items ≡ b
  used_is x running other b used =
      ap (λ (t : Bool). t || is_used path false d.history.items) (sym other)
      ∙ ap (λ (y : Option OpenEntry). is_path_of y path || is_used path false d.history.items) (sym running) ∙ used

  -- its program is cut, and an open half write of its command counts as done
  abbrev cut_with : Store Frame Stored Image → History → DefinedDevice
  cut_with s h = record d { store = s; history = h; chain = None; paths = all_reset (reset_path d.paths path) d.history.waiting }

  abbrev pub cut_behind : Store Frame Stored Image → DefinedDevice
  cut_behind s = cut_with s (reset_in d.history path (counts_one_by d.store.half) d.history.running)

  pub reset_cut : (o : OpenEntry) → d.history.running ≡ Some o → (o.path == path) ≡ true →
      reset contents d path ≡ and_then (half_cut contents d.store d.store.half) (λ s _. Done (cut_behind s) tt)
  unfolding reset
  reset_cut o running same = ap (λ (x : Option OpenEntry). reset_by contents d path x) running ∙ ap (λ (b : Bool). by_path o b) same

  pub behind_cut : (s : Store Frame Stored Image) (o : OpenEntry) (more : ℕ) → more ≡ counts_one_by d.store.half → d.history.running ≡ Some o →
      (o.path == path) ≡ true → cut_behind s ≡ cut_with s (cut_by d.history o more)
  behind_cut s o more count running same =
      ap (λ (n : ℕ). cut_with s (reset_in d.history path n d.history.running)) (sym count)
      ∙ ap (λ (x : Option OpenEntry). cut_with s (reset_in d.history path more x)) running
      ∙ ap (λ (b : Bool). cut_with s (in_path o more b)) same

  noted_by : (x : Option OpenEntry) → d.history.running ≡ x → reset_noted contents d path 0 ≡ noted (reset_in d.history path 0 x)
  noted_by x running = ap (λ (y : Option OpenEntry). noted (reset_in d.history path 0 y)) running

  -- another path's program runs
  pub reset_waits : (o : OpenEntry) → d.history.running ≡ Some o → (o.path == path) ≡ false → has_used d.history path ≡ true →
      reset contents d path ≡ Done (record d { history = record d.history { waiting = put path d.history.waiting } }) tt
  unfolding reset
  reset_waits o running other used =
      ap (λ (x : Option OpenEntry). reset_by contents d path x) running
      ∙ ap (λ (b : Bool). by_path o b) other
      ∙ ap (λ (z : DefinedDevice). Done z tt) (noted_by (Some o) running
      ∙ ap (λ (b : Bool). noted (in_path o 0 b)) other
      ∙ ap (λ (b : Bool). noted (if b then record d.history { waiting = put path d.history.waiting } else d.history))
      (used_is (Some o) running other true used))

  -- no program runs
  pub reset_done : d.history.running ≡ None → has_used d.history path ≡ true →
      reset contents d path ≡ Done (record d {
        history = record d.history { items = d.history.items ++ items.Reset path ∷ [] };
        paths = reset_path d.paths path;
      }) tt
  unfolding reset
  reset_done running used =
      ap (λ (x : Option OpenEntry). reset_by contents d path x) running
      ∙ ap (λ (b : Bool). if b then with_paths (reset_in d.history path 0 d.history.running) else Done d tt) used
      ∙ ap (λ (x : Option OpenEntry). with_paths (reset_in d.history path 0 x)) running
      ∙ ap (λ (b : Bool). with_paths (if b then record d.history { items = d.history.items ++ items.Reset path ∷ [] } else d.history))
      (used_is None running refl true used)

  -- the path used nothing
  reset_none_by : (x : Option OpenEntry) → d.history.running ≡ x → is_path_of x path ≡ false → has_used d.history path ≡ false →
      reset_by contents d path x ≡ Done d tt
  reset_none_by (Some o) running other unused =
      ap (λ (b : Bool). by_path o b) other
      ∙ ap (λ (z : DefinedDevice). Done z tt) (noted_by (Some o) running
      ∙ ap (λ (b : Bool). noted (in_path o 0 b)) other
      ∙ ap (λ (b : Bool). noted (if b then record d.history { waiting = put path d.history.waiting } else d.history))
      (used_is (Some o) running other false unused))
  reset_none_by None running other unused =
      ap (λ (b : Bool). if b then Done (record (reset_noted contents d path 0) { paths = reset_path d.paths path }) tt else Done d tt) unused

  pub reset_none : is_path_of d.history.running path ≡ false → has_used d.history path ≡ false → reset contents d path ≡ Done d tt
  unfolding reset
  reset_none other unused = reset_none_by d.history.running refl other unused
