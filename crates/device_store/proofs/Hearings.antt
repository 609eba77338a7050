-- The notes that are left to take.
use Rattle.std.proofs.Common.{◌≡◌, ◌-◌, ◌+◌, ◌<◌, ◌≤◌, ℕ, zero, suc, Bool, Some, None, sym, subst, arith}
use Rattle.track_image.specs.Image.{Image}
use Rattle.device_outside.specs.Keeper.{Hearing}
use Rattle.device_outside.specs.Interaction.{Interaction}
use Rattle.device_outside.specs.Outside.{PortView, Outside, Answered, Ran, done}
use Rattle.device_outside.specs.Pool.{NextNotice}
use Rattle.device_outside.proofs.Runs.{asks}
use Rattle.device_defs.specs.Contents.{Contents}
use Rattle.device_defs.specs.Owed.{dropped, hear}
use Rattle.device_defs.specs.Store.{Store}
use Rattle.device_store.specs.State.{Rest}
use Rattle.device_store.proofs.Moves.{from_equal}

one_less : (n k : ℕ) → k < n → n - k ≡ suc (n - (k + 1))
one_less n k lt = omega arith

none_left : (n k : ℕ) → n ≤ k → n - k ≡ zero
none_left n k le = omega arith

module _ {F P H R K : Type 0} (c : Contents F P H R) {had : Bool → Type 0} {hears : Hearing Image K} where
  pub hear_on : (n k t : ℕ) (s : Store F P H) {z : Store F P H} {p : PortView} {u v w : Outside R K}
      {whole : Interaction R Image (Store F P H) (Unit {0})} → k < n → Rest had hears (hear c (n - k) s) u whole w →
      Answered u.port (NextNotice s.device) (Some t) p → z ≡ dropped c s t → v ≡ record u { port = p } →
      Rest had hears (hear c (n - (k + 1)) z) v whole w
  unfolding hear
  hear_on n k t s {z} {p} {u} {v} lt rest says is there = record {
    ends = λ x a y ran. rest.ends x a y (subst (λ m. Ran had hears (hear c m s) u x a y) (sym (one_less n k lt))
        (asks says (from_equal (λ q. hear c (n - (k + 1)) q) is there ran)));
  }

  pub hear_over : (n k : ℕ) (s : Store F P H) {p : PortView} {u w : Outside R K} {whole : Interaction R Image (Store F P H) (Unit {0})} → k < n →
      Rest had hears (hear c (n - k) s) u whole w → Answered u.port (NextNotice s.device) None p →
      Ran had hears whole w s tt (record u { port = p })
  unfolding hear
  hear_over n k s {p} {u} lt rest says =
      rest.ends s tt _ (subst (λ m. Ran had hears (hear c m s) u s tt (record u { port = p })) (sym (one_less n k lt)) (asks says done))

  pub hear_end : (n k : ℕ) (s : Store F P H) {u w : Outside R K} {whole : Interaction R Image (Store F P H) (Unit {0})} → n ≤ k →
      Rest had hears (hear c (n - k) s) u whole w → Ran had hears whole w s tt u
  unfolding hear
  hear_end n k s {u} le rest =
      rest.ends s tt u (subst (λ m. Ran had hears (hear c m s) u s tt u) (sym (none_left n k le)) done)
