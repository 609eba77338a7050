-- Why a path's next program doesn't start, and that none of these reasons stands.
use Rattle.std.proofs.Common.{◌≡◌, ◌∙◌, ◌+◌, ◌&&◌, ℕ, Bool, true, false, List, Option, Some, None, refl, ap}
use Rattle.std.specs.Prelude.{◌==◌, option_map, if◌then◌else◌}
use Rattle.ckd_types.specs.declared.channel.Ccw.{Ccw}
use Rattle.ckd_types.specs.Fixed.{Fixed}
use Rattle.ckd_chain.specs.Steps.{begun_chain}
use Rattle.ckd_chain.specs.State.{ChainState}
use Rattle.plain_defs.specs.History.{OpenEntry, History, started}
use Rattle.plain_defs.specs.Journal.{Plans}
use Rattle.plain_defs.specs.PlainState.{PathsState}
use Rattle.plain_defs.specs.Program.{sense_begun}
use Rattle.track_image.specs.Image.{Image}
use Rattle.track_cache.specs.declared.frames.Frame.{Frame}
use Rattle.nv_store.specs.declared.patches.Stored.{Stored}
use Rattle.device_defs.specs.declared.answers.StartFault.{StartFault}
use Rattle.device_defs.specs.declared.answers.StartFault.TheVariants.{PlanDone}
use Rattle.device_defs.specs.Start.{fault_by, keeps_out, left, next_program, reserved_fault, running_fault, start, start_fault, started_count}
use Rattle.device_defs.specs.Store.{Store, store_fixed}
use Rattle.device_core.specs.declared.history.Past.{Past}
use Rattle.device_core.specs.Kept.{chain_of, history_of}
use Rattle.device_core.specs.State.{DefinedDevice, device_by}

-- nothing keeps a program out that starts
pub record MayStart (d : DefinedDevice) (path : ℕ) : Type 0 where
  pub idle : d.history.running ≡ None
  pub some_left : (left d path == 0) ≡ false

module _ (d : DefinedDevice) (path : ℕ) where
  not_done : (b : Bool) (x : Option StartFault) → (if b then Some PlanDone else x) ≡ None → b ≡ false
  not_done true x is = absurd cc
  not_done false x is = refl

  by_running : (x : Option OpenEntry) → d.history.running ≡ x → running_fault d path x ≡ None → MayStart d path
  by_running (Some o) here is = absurd cc
  by_running None here is = record {
    idle = here;
    some_left = not_done (left d path == 0) (if keeps_out d path then reserved_fault d d.paths.owner else None) is;
  }

  by_loan : (x : Option ℕ) → fault_by d path x ≡ None → MayStart d path
  by_loan (Some of) is = absurd cc
  by_loan None is = by_running d.history.running refl is

  pub may_start : start_fault d path ≡ None → MayStart d path
  unfolding start_fault
  may_start is = by_loan d.store.lent is

-- of four paths
pub same_four : (p : ℕ → Bool) (n1 n2 n3 n4 : ℕ) (b1 b2 b3 b4 : Bool) → n1 ≡ 1 → n2 ≡ 2 → n3 ≡ 3 → n4 ≡ 4 → b1 ≡ p n1 → b2 ≡ p n2 → b3 ≡ p n3 →
    b4 ≡ p n4 → (b1 && (b2 && (b3 && (b4 && true)))) ≡ (p 1 && (p 2 && (p 3 && (p 4 && true))))
same_four p n1 n2 n3 n4 b1 b2 b3 b4 e1 e2 e3 e4 is1 is2 is3 is4 =
    ap (λ (b : Bool). b && (b2 && (b3 && (b4 && true)))) (is1 ∙ ap p e1) ∙ ap (λ (b : Bool). p 1 && (b && (b3 && (b4 && true)))) (is2 ∙ ap p e2)
    ∙ ap (λ (b : Bool). p 1 && (p 2 && (b && (b4 && true)))) (is3 ∙ ap p e3) ∙ ap (λ (b : Bool). p 1 && (p 2 && (p 3 && (b && true)))) (is4 ∙ ap p e4)

-- the device with the program that starts
module _ (s : Store Frame Stored Image) (plans : Plans) where
  abbrev built : PathsState → History → Option ChainState → DefinedDevice
  built x y z = record { store = s; paths = x; plans = plans; history = y; chain = z }

  pub device_started : (paths behind : PathsState) (p m q : Past) (path : ℕ) (ccws : List Ccw) (fixed : Fixed) (chain : ChainState) →
      ccws ≡ next_program (device_by s paths plans p) path → behind ≡ sense_begun paths path ccws → history_of m ≡ history_of p →
      history_of q ≡ started (history_of m) path (started_count (history_of m) path + 1) → option_map chain_of q.running ≡ Some chain →
      chain ≡ begun_chain ccws fixed → fixed ≡ store_fixed s → device_by s behind plans q ≡ start (device_by s paths plans p) path
  unfolding start
  device_started paths behind p m q path ccws fixed chain ccws_is behind_is same history running chain_is fixed_is =
      ap (λ (x : PathsState). built x (history_of q) (option_map chain_of q.running)) behind_is
      ∙ ap (λ (x : History). built (sense_begun paths path ccws) x (option_map chain_of q.running))
      (history ∙ ap (λ (h : History). started h path (started_count h path + 1)) same)
      ∙ ap (λ (x : Option ChainState). built (sense_begun paths path ccws) (started (history_of p) path (started_count (history_of p) path + 1)) x)
      (running ∙ ap Some (chain_is ∙ ap (λ (f : Fixed). begun_chain ccws f) fixed_is))
      ∙ ap (λ (l : List Ccw). built (sense_begun paths path l) (started (history_of p) path (started_count (history_of p) path + 1))
      (Some (begun_chain l (store_fixed s)))) ccws_is
