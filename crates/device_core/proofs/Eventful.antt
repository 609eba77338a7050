-- Events of a device: how one begins, and how it ends.
use Rattle.std.proofs.Common.{◌≡◌, ◌∙◌, ℕ, Bool, List, [], ◌≤◌, length, arith, Option, Some, None, sym, ap, subst}
use Rattle.std.specs.Prelude.{IfSome, option_map}
use Rattle.track_image.specs.Image.{Image}
use Rattle.device_outside.specs.Keeper.{Hearing}
use Rattle.device_outside.specs.Interaction.{Interaction, Done, and_then}
use Rattle.device_outside.specs.Outside.{Outside, Ran, done}
use Rattle.device_outside.proofs.Runs.{joined}
use Rattle.device_defs.specs.Contents.{contents}
use Rattle.ckd_chain.specs.State.{ChainState}
use Rattle.device_defs.specs.Device.{all_acted, event_begun, event_ended, quiet_event, event}
use Rattle.device_defs.specs.Owed.{noted_begin, hear, waiting_count, noted_end}
use Rattle.plain_defs.specs.declared.journal.Act.{Act}
use Rattle.plain_defs.specs.Journal.{Plans}
use Rattle.plain_defs.specs.PlainState.{PathsState}
use Rattle.device_core.specs.declared.history.Past.{Past}
use Rattle.device_core.specs.declared.history.Running.{Running}
use Rattle.event_notes.specs.Loose.{LooseView, loose_count, weight}
use Rattle.device_core.specs.Kept.{ActRoom, chain_of, history_of}
use Rattle.device_core.proofs.Acting.{less_room}
use Rattle.device_core.specs.State.{DefinedDevice, device_by}
use Rattle.device_core.specs.Words.{IsAtWord}
use Rattle.device_store.specs.Looks.{StoreOf}

module _ {K A : Type 0} {had : Bool → Type 0} {hears : Hearing Image K} where
  -- an event that takes no notes
  pub quiet_run : (d : DefinedDevice) (body : DefinedDevice → Interaction (List ℕ) Image DefinedDevice A) {v w z : Outside (List ℕ) K}
      (x y : DefinedDevice) {a : A} {s : StoreOf} →
      Ran had hears (body (event_begun d)) v x a w → Ran had hears (noted_end contents (waiting_count contents d.store) x.store) w s tt z →
      y ≡ record x { store = s } → Ran had hears (quiet_event contents d body) v y a z
  quiet_run d body {v} {w} {z} x y {a} {s} runs ends is =
      subst (λ e. Ran had hears (quiet_event contents d body) v e a z) (sym is)
      (joined (event_ended contents d) runs (joined (λ u _. Done (record x { store = u }) a) ends done))

  -- one that takes the notes first
  pub event_run : (d : DefinedDevice) (body : DefinedDevice → Interaction (List ℕ) Image DefinedDevice A) {u v w z : Outside (List ℕ) K}
      (x y : DefinedDevice) {a : A} {r s : StoreOf} →
      Ran had hears (hear contents 960 (noted_begin d.store)) u r tt v → Ran had hears (body (record (event_begun d) { store = r })) v x a w →
      Ran had hears (noted_end contents (waiting_count contents d.store) x.store) w s tt z →
      y ≡ record x { store = s } → Ran had hears (event contents d body) u y a z
  event_run d body x y heard runs ends is =
      quiet_run d (λ e. and_then (hear contents 960 e.store) (λ r _. body (record e { store = r }))) x y
      (joined (λ r _. body (record (event_begun d) { store = r })) heard runs) ends is

-- a device to whose past acts came
pub acted_device : (s : StoreOf) (paths : PathsState) (plans : Plans) (p q : Past) (acts more : List Act) → history_of q
    ≡ all_acted (history_of p) more → more ≡ acts →
    option_map chain_of q.running ≡ option_map chain_of p.running →
    device_by s paths plans q ≡ record (device_by s paths plans p) { history = all_acted (history_of p) acts }
acted_device s paths plans p q acts more history same chain =
    ap (λ h. record { store = s; paths = paths; plans = plans; history = h; chain = option_map chain_of q.running })
    (history ∙ ap (all_acted (history_of p)) same)
    ∙ ap (λ x. record { store = s; paths = paths; plans = plans; history = all_acted (history_of p) acts; chain = x }) chain

pub at_word_same : (x y : Option Running) (m n : ℕ) → option_map chain_of x ≡ option_map chain_of y → m ≡ n → IfSome y (λ r. IsAtWord n r.chain) →
    IfSome x (λ r. IsAtWord m r.chain)
at_word_same None y m n chain same at = tt
at_word_same (Some r) None m n chain same at = absurd cc
at_word_same (Some r) (Some q) m n chain same at = let c : r.chain ≡ q.chain = cc in rw (c, same) at

-- how many cylinders its chain goes by
pub cylinders_held : (x y : Option Running) (m n : ℕ) → option_map chain_of x ≡ option_map chain_of y → m ≡ n → IfSome y (λ r. IsAtWord n r.chain) →
    IfSome x (λ r. r.chain.fixed.cylinders ≡ m)
cylinders_held None y m n chain same at = tt
cylinders_held (Some r) None m n chain same at = absurd cc
cylinders_held (Some r) (Some q) m n chain same at =
    let c : r.chain ≡ q.chain = cc in ap (λ (z : ChainState). z.fixed.cylinders) c ∙ at.cylinders_are ∙ sym same

-- an event begins without acts
pub begun_weight : (a b : LooseView) → b.loose ≡ a.loose → b.acts ≡ [] → weight b ≡ loose_count a.loose
begun_weight a b same none = let empty = ap length none in let count = ap loose_count same in omega (arith, empty, count)

-- no more than there is room for
pub fits_room : (a b : LooseView) (p : Past) → ActRoom (loose_count a.loose) p → weight b ≤ loose_count a.loose → ActRoom (weight b) p
fits_room a b p room le = less_room (weight b) (loose_count a.loose) p le room
