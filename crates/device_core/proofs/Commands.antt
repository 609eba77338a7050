-- A command of a program that runs, and the event that it is.
use Rattle.std.proofs.Common.{◌≡◌, ◌∙◌, ℕ, Bool, true, false, List, [], ◌∷◌, ◌++◌, length, Option, None, Some, refl, sym, ap, subst}
use Rattle.std.specs.Prelude.{IfSome, IsSome, option_map, Ok, Err}
use Rattle.ckd_types.specs.declared.channel.CommandEnd.{CommandEnd}
use Rattle.ckd_types.specs.declared.memory.NoMemory.{NoMemory}
use Rattle.ckd_chain.specs.State.{ChainState}
use Rattle.plain_defs.specs.declared.journal.Act.{Act}
use Rattle.plain_defs.specs.History.{OpenEntry, History, acted, acted_in}
use Rattle.plain_defs.specs.Journal.{Plans}
use Rattle.plain_defs.specs.PlainState.{PathsState, with_sense}
use Rattle.track_image.specs.Image.{Image}
use Rattle.track_cache.specs.declared.frames.Frame.{Frame}
use Rattle.nv_store.specs.declared.patches.Stored.{Stored}
use Rattle.device_outside.specs.Interaction.{Interaction}
use Rattle.device_outside.specs.Keeper.{Hearing}
use Rattle.device_outside.specs.Outside.{Outside, Ran}
use Rattle.device_defs.specs.declared.answers.Came.{Came}
use Rattle.device_defs.specs.declared.answers.Came.TheVariants.{Ends, Checks, HalfOpen}
use Rattle.device_defs.specs.Command.{command_by}
use Rattle.device_defs.specs.Contents.{contents}
use Rattle.device_defs.specs.Device.{all_acted, with_store}
use Rattle.device_defs.specs.Outcomes.{turned, gone_on}
use Rattle.device_defs.specs.Store.{Store}
use Rattle.device_core.specs.declared.history.Running.{Running}
use Rattle.device_core.specs.declared.history.Past.{Past}
use Rattle.device_core.specs.Kept.{open_of, chain_of, history_of, waiting_in}
use Rattle.device_core.specs.State.{DefinedDevice, device_by, commanded, came_from}
use Rattle.device_core.specs.TrackWalk.{turn_with}

by_over : (d : DefinedDevice) (x : Option ChainState) (chain : ChainState) (e : CommandEnd) (over : Bool) →
    gone_on (record d { chain = x }) chain (record e { over = over }) ≡ gone_on d chain (record e { over = over })
by_over d x chain e true = refl
by_over d x chain e false = refl

-- what came of a command doesn't ask the chain before it
pub turned_anew : (d : DefinedDevice) (x : Option ChainState) (path : ℕ) (chain : ChainState) (came : Came) →
    turned (record d { chain = x }) path (turn_with chain came) ≡ turned d path (turn_with chain came)
turned_anew d x path chain (Ends e) = by_over (record d { paths = with_sense d.paths path e.sense }) x chain e e.over
turned_anew d x path chain (Checks e) = refl
turned_anew d x path chain (HalfOpen t) = refl

pub by_command : (d : DefinedDevice) (x : Option Running) → IsSome x →
    command_by contents d (option_map open_of x) (option_map chain_of x) ≡ commanded d x
by_command d None is = absurd cc
by_command d (Some r) is = refl

-- acts leave the program that runs
open_acted : (h : History) (acts : List Act) (o : OpenEntry) → h.running ≡ Some o →
    (z : OpenEntry) × ((all_acted h acts).running ≡ Some z) × (z.path ≡ o.path)
open_acted h [] o is = (o, is, refl)
open_acted h (act ∷ acts) o is = open_acted (acted h act) acts (record o { acts = o.acts ++ record { after = length o.ends; act = act } ∷ [] })
    (ap (λ (x : Option OpenEntry). (acted_in h act x).running) is)

-- the same chain
pub same_chain : (P : ChainState → Type 0) (x y : Option Running) → option_map chain_of x ≡ option_map chain_of y → IfSome y (λ r. P r.chain)
    → IfSome x (λ r. P r.chain)
same_chain P None y same has = tt
same_chain P (Some r) None same has = absurd cc
same_chain P (Some r) (Some q) same has = let c : r.chain ≡ q.chain = cc in subst P (sym c) has

pub same_running : (x y : Option Running) → option_map chain_of x ≡ option_map chain_of y → IsSome y → IsSome x
same_running None None same is = absurd cc
same_running None (Some r) same is = absurd cc
same_running (Some q) y same is = refl

module _ (s : Store Frame Stored Image) (paths : PathsState) (plans : Plans) where
  abbrev with_past : History → Option ChainState → DefinedDevice
  with_past h chain = record { store = s; paths = paths; plans = plans; history = h; chain = chain }

  -- room is no part of a device
  pub same_device : (p q : Past) → history_of q ≡ history_of p → option_map chain_of q.running ≡ option_map chain_of p.running →
      device_by s paths plans p ≡ device_by s paths plans q
  same_device p q history chain = rw (history, chain) refl

  module _ (s0 : Store Frame Stored Image) (paths0 : PathsState) (p : Past) where
    abbrev with_open : Option OpenEntry → History
    with_open o = record { items = p.items.items; running = o; waiting = waiting_in p.kept }

    -- behind the acts that a command brought
    module _ (y : Option Running) (q : Past) (same : option_map open_of y ≡ option_map open_of p.running)
        (history : history_of q ≡ all_acted (history_of (record p { running = y })) s.acts)
        (chain : option_map chain_of q.running ≡ option_map chain_of y) where
      acted_as : all_acted (history_of p) s.acts ≡ history_of q
      acted_as = ap (λ (o : Option OpenEntry). all_acted (with_open o) s.acts) (sym same) ∙ sym history

      pub lacked_to : (e : NoMemory) → IsSome y →
          came_from (record (with_store (device_by s0 paths0 plans p) s) { paths = paths }) y (Err e) ≡ device_by s paths plans q
      lacked_to e is = by_case y is chain where
        by_case : (x : Option Running) → IsSome x → option_map chain_of q.running ≡ option_map chain_of x →
            came_from (record (with_store (device_by s0 paths0 plans p) s) { paths = paths }) x (Err e) ≡ device_by s paths plans q
        by_case None is same = absurd cc
        by_case (Some r) is same =
            ap (λ (h : History). with_past h (Some r.chain)) acted_as ∙ ap (with_past (history_of q)) (sym same)

      pub ended_to : (came : Came) (d : DefinedDevice) → IsSome y →
          ((o : OpenEntry) (chain : ChainState) → option_map open_of q.running ≡ Some o → option_map chain_of q.running ≡ Some chain →
          d ≡ turned (device_by s paths plans q) o.path (turn_with chain came)) →
          came_from {E = NoMemory} (record (with_store (device_by s0 paths0 plans p) s) { paths = paths }) y (Ok came) ≡ d
      ended_to came d is turn = by_case y is chain (ap (λ (h : History). h.running) history) where
        by_case : (x : Option Running) → IsSome x → option_map chain_of q.running ≡ option_map chain_of x →
            option_map open_of q.running ≡ (all_acted (with_open (option_map open_of x)) s.acts).running →
            came_from {E = NoMemory} (record (with_store (device_by s0 paths0 plans p) s) { paths = paths }) x (Ok came) ≡ d
        by_case None is same open_is = absurd cc
        by_case (Some r) is same open_is =
            let it = open_acted (with_open (Some (open_of r))) s.acts (open_of r) refl in
            ap (λ (h : History). turned (with_past h (option_map chain_of p.running)) r.path (turn_with r.chain came)) acted_as
            ∙ turned_anew (with_past (history_of q) (option_map chain_of q.running)) (option_map chain_of p.running) r.path r.chain came
            ∙ ap (λ (n : ℕ). turned (device_by s paths plans q) n (turn_with r.chain came)) (sym it.2)
            ∙ sym (turn it.0 r.chain (open_is ∙ it.1) same)

-- the same run, with an equal answer
pub to_answer : {R I K S A : Type 0} {had : Bool → Type 0} {hears : Hearing I K} {i : Interaction R I S A} {v w : Outside R K} {s : S} {a b : A} →
    a ≡ b → Ran had hears i v s a w → Ran had hears i v s b w
to_answer {had = had} {hears = hears} {i = i} {v = v} {w = w} {s = s} same ran = subst (λ x. Ran had hears i v s x w) same ran
