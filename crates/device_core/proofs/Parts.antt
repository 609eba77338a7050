-- The second part of a write, by whose write it is.
use Rattle.std.proofs.Common.{◌≡◌, ◌∙◌, ℕ, Bool, true, false, Option, Some, None, refl, sym, ap}
use Rattle.std.specs.Prelude.{IsSome, is_some, option_map, if◌then◌else◌}
use Rattle.ckd_chain.specs.State.{ChainState}
use Rattle.nv_store.specs.declared.patches.Stored.{Stored}
use Rattle.plain_defs.specs.History.{OpenEntry}
use Rattle.plain_defs.specs.Journal.{Plans}
use Rattle.plain_defs.specs.PlainState.{PathsState}
use Rattle.track_cache.specs.declared.frames.Frame.{Frame}
use Rattle.track_image.specs.Image.{Image}
use Rattle.device_outside.specs.Interaction.{Done}
use Rattle.device_defs.specs.declared.answers.Came.{Came}
use Rattle.device_defs.specs.declared.answers.SecondEnd.{SecondEnd}
use Rattle.device_defs.specs.declared.answers.SecondEnd.TheVariants.{Finished, Unwritten}
use Rattle.device_defs.specs.declared.answers.Took.{Took}
use Rattle.device_defs.specs.declared.answers.Took.TheVariants as tooks
use Rattle.device_defs.specs.Contents.{contents}
use Rattle.device_defs.specs.Cutting.{is_of_command}
use Rattle.device_defs.specs.Events.{command_ended, second_ended, second_told, second_turn}
use Rattle.device_defs.specs.Outcomes.{Turn, turned, wrote_turn}
use Rattle.device_defs.specs.Store.{Store, Origin, OfCommand, OfCut, OfBackground}
use Rattle.device_store.specs.declared.half.HalfWrite.{HalfWrite}
use Rattle.device_store.specs.State.{origin_of, is_opened}
use Rattle.device_core.specs.declared.history.Past.{Past}
use Rattle.device_core.specs.declared.history.Running.{Running}
use Rattle.device_core.specs.Kept.{open_of, chain_of, waiting_in}
use Rattle.device_core.specs.State.{DefinedDevice, device_by}
use Rattle.device_core.specs.TrackWalk.{turn_with}
use Rattle.device_core.proofs.Commands.{turned_anew}
use Rattle.device_core.proofs.Halves.{count_of}

pub no_part : (t : ℕ) (e : SecondEnd) → Some (Unwritten t) ≡ Some e → t ≡ 0 → Unwritten 0 ≡ e
no_part t e is none = let same : Unwritten t ≡ e = cc in ap Unwritten (sym none) ∙ same

pub some_half : (x : Option HalfWrite) → is_some x ≡ true → (h : HalfWrite) × (x ≡ Some h)
some_half None is = absurd (cc)
some_half (Some h) is = (h, refl)

pub some_mapped : {A B : Type 0} (f : A → B) (x : Option A) → is_some (option_map f x) ≡ true → is_some x ≡ true
some_mapped f None is = absurd (cc)
some_mapped f (Some a) is = refl

pub mapped_some : {A B : Type 0} (f : A → B) (x : Option A) → is_some (option_map f x) ≡ is_some x
mapped_some f None = refl
mapped_some f (Some a) = refl

pub none_unmapped : {A B : Type 0} (f : A → B) (x : Option A) → is_some (option_map f x) ≡ false → x ≡ None
none_unmapped f None is = refl
none_unmapped f (Some a) is = absurd (cc)

pub some_chain : (x : Option Running) → IsSome x → (z : ChainState) × (option_map chain_of x ≡ Some z)
some_chain None is = absurd (cc)
some_chain (Some r) is = (r.chain, refl)

-- the write of a command counts
pub commands_one : (x : Option HalfWrite) (h : HalfWrite) (b : Bool) → x ≡ Some h → b ≡ is_of_command (origin_of h.origin) → b ≡ true → count_of x ≡ 1
commands_one x h b is command so =
    ap count_of is ∙ ap (λ (y : Bool). if y then 1 else 0) (sym command ∙ so)

pub by_took : (chain : ChainState) (t : ℕ) (done : Bool) (took : Took) → took ≡ (if done then tooks.Whole else tooks.Unwritten) →
    wrote_turn chain t took ≡ second_turn contents chain done
by_took chain t true took is = ap (wrote_turn chain t) is
by_took chain t false took is = ap (wrote_turn chain t) is

pub not_opened : (done : Bool) (took : Took) → took ≡ (if done then tooks.Whole else tooks.Unwritten) → is_opened took ≡ false
not_opened true took is = ap is_opened is
not_opened false took is = ap is_opened is

-- no command waits for it
pub ended_other : (z : DefinedDevice) (t : ℕ) (origin : Origin) (done : Bool) → is_of_command origin ≡ false →
    second_ended contents z t origin done ≡ Done z (if done then Finished t else Unwritten t)
ended_other z t (OfCommand bypass e) done is = absurd (cc)
ended_other z t (OfCut bypass) done is = refl
ended_other z t OfBackground done is = refl

ended_for : (z : DefinedDevice) (t : ℕ) (done : Bool) (x : Option OpenEntry) (y : Option ChainState) (o : OpenEntry) (chain : ChainState) → x ≡ Some o →
    y ≡ Some chain → command_ended contents z t x y done ≡ Done (turned z o.path (second_turn contents chain done)) (second_told contents t
    (second_turn contents chain done).came)
ended_for z t done x y o chain runs at = rw (runs, at) refl

-- a command that waits for it ends
pub ended_command : (z : DefinedDevice) (t : ℕ) (origin : Origin) (done : Bool) (o : OpenEntry) (chain : ChainState) → is_of_command origin ≡ true →
    z.history.running ≡ Some o → z.chain ≡ Some chain → second_ended contents z t origin done ≡ Done (turned z o.path
    (second_turn contents chain done)) (second_told contents t (second_turn contents chain done).came)
ended_command z t (OfCommand bypass e) done o chain is runs at = ended_for z t done z.history.running z.chain o chain runs at
ended_command z t (OfCut bypass) done o chain is runs at = absurd (cc)
ended_command z t OfBackground done o chain is runs at = absurd (cc)

pub same_told : (x : Option SecondEnd) (a e : SecondEnd) → x ≡ Some a → x ≡ Some e → a ≡ e
same_told x a e is so = let both : Some a ≡ Some e = sym is ∙ so in cc

-- the chain of a device is no part of what an ended command makes of it
pub written_state : (s : Store Frame Stored Image) (plans : Plans) (paths after : PathsState) (p : Past) (y : Option Running) (q : Past)
    (o : OpenEntry) (w : ChainState) (came : Came) (turn : Turn) → option_map open_of y ≡ option_map open_of p.running → turn_with w came ≡ turn →
    device_by s after plans q ≡ turned (device_by s paths plans (record p { running = y })) o.path (turn_with w came) →
    device_by s after plans q ≡ turned (device_by s paths plans p) o.path turn
written_state s plans paths after p y q o w came turn same is h =
    h
    ∙ ap (λ (x : Option OpenEntry). turned (record {
      store = s;
      paths = paths;
      plans = plans;
      history = record { items = p.items.items; running = x; waiting = waiting_in p.kept };
      chain = option_map chain_of y;
    }) o.path (turn_with w came)) same
    ∙ turned_anew (device_by s paths plans p) (option_map chain_of y) o.path w came
    ∙ ap (λ (t : Turn). turned (device_by s paths plans p) o.path t) is
