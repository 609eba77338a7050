-- A command that goes from track to track, told from where it is.
use Rattle.std.proofs.Common.{◌≡◌, ◌-◌, ◌+◌, ◌<◌, ◌≤◌, ℕ, zero, suc, Bool, Option, Some, None, sym, subst, arith}
use Rattle.ckd_chain.specs.declared.progress.Settled.TheVariants.{Equipment}
use Rattle.ckd_chain.specs.State.{ChainState}
use Rattle.track_image.specs.Image.{Image}
use Rattle.device_outside.specs.Keeper.{Hearing}
use Rattle.device_outside.specs.Interaction.{Interaction}
use Rattle.device_outside.specs.Outside.{Outside, Ran, done}
use Rattle.device_outside.proofs.Runs.{joined}
use Rattle.device_defs.specs.Command.{Over, On, look, goes_on, follow}
use Rattle.device_defs.specs.Contents.{Contents}
use Rattle.device_defs.specs.Memory.{had_by}
use Rattle.device_defs.specs.Outcomes.{Turn, checks}
use Rattle.device_defs.specs.Store.{Store}
use Rattle.device_store.specs.State.{Rest}

one_less : (n k : ℕ) → k < n → n - k ≡ suc (n - (k + 1))
one_less n k lt = omega arith

none_left : (n k : ℕ) → n ≤ k → n - k ≡ zero
none_left n k le = omega arith

all_left : (n : ℕ) → n ≡ n - 0
all_left n = omega arith

module _ {F P H R K : Type 0} (c : Contents F P H R) {had : Bool → Type 0} {hears : Hearing Image K} where
  pub rest_first : (n first : ℕ) (chain : ChainState) (t : ℕ) (s : Store F P H) (w : Outside R K) →
      Rest had hears (follow c (n - 0) first chain t s) w (follow c n first chain t s) w
  rest_first n first chain t s w = record { ends = λ z turn v r. subst (λ m. Ran had hears (follow c m first chain t s) w z turn v) (sym (all_left n)) r }

  module _ (n k first : ℕ) (chain : ChainState) (t : ℕ) (s : Store F P H) {u w : Outside R K}
      {whole : Interaction R Image (Store F P H) (Option Turn)} (rest : Rest had hears (follow c (n - k) first chain t s) u whole w) where
    pub rest_on : {next : ChainState} {q : ℕ} {z : Store F P H} {v : Outside R K} → k < n → Ran had hears (look c chain first t s) u z (Some (On next q)) v →
        Rest had hears (follow c (n - (k + 1)) first next q z) v whole w
    unfolding follow
    rest_on {next} {q} {z} {v} lt ran = record {
      ends = λ x turn y r. rest.ends x turn y (subst (λ m. Ran had hears (follow c m first chain t s) u x turn y) (sym (one_less n k lt))
          (joined (had_by (goes_on c (follow c (n - (k + 1)) first))) ran r));
    }

    pub rest_over : {turn : Turn} {z : Store F P H} {v : Outside R K} → k < n → Ran had hears (look c chain first t s) u z (Some (Over turn)) v →
        Ran had hears whole w z (Some turn) v
    unfolding follow
    rest_over {turn} {z} {v} lt ran =
        rest.ends z (Some turn) v (subst (λ m. Ran had hears (follow c m first chain t s) u z (Some turn) v) (sym (one_less n k lt))
        (joined (had_by (goes_on c (follow c (n - (k + 1)) first))) ran done))

    pub rest_lacked : {z : Store F P H} {v : Outside R K} → k < n → Ran had hears (look c chain first t s) u z None v → Ran had hears whole w z None v
    unfolding follow
    rest_lacked {z} {v} lt ran =
        rest.ends z None v (subst (λ m. Ran had hears (follow c m first chain t s) u z None v) (sym (one_less n k lt))
        (joined (had_by (goes_on c (follow c (n - (k + 1)) first))) ran done))

    pub rest_none : n ≤ k → Ran had hears whole w s (Some (checks chain Equipment)) u
    unfolding follow
    rest_none le = rest.ends s (Some (checks chain Equipment)) u
        (subst (λ m. Ran had hears (follow c m first chain t s) u s (Some (checks chain Equipment)) u) (sym (none_left n k le)) done)
