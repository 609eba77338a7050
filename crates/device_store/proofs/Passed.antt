-- Tracks that a loss passes over, as it takes nothing of them.
use Rattle.std.proofs.Common.{◌≡◌, ◌∙◌, ◌+◌, ◌≤◌, ℕ, Bool, true, false, Option, Some, None, refl, sym, ap}
use Rattle.std.specs.Prelude.{◌&&◌, not, is_some}
use Rattle.device_outside.specs.Interaction.{Done}
use Rattle.device_defs.specs.Contents.{contents}
use Rattle.device_defs.specs.Losses.{firm_told, over, patch_lost, settled, without_frame}
use Rattle.device_defs.specs.Store.{frame_at, owed_at, patch_at}
use Rattle.device_store.specs.Looks.{StoreOf}
use Rattle.device_store.specs.Settling.{NextOf, is_settled, stands_bare}
use Rattle.device_store.proofs.Firming.{not_firm}
use Rattle.device_store.proofs.Losing.{over_more}
use Rattle.device_store.proofs.Settling.{stands}
use Rattle.device_store.proofs.Skipping.{over_to}

-- ---- of a track without a patch the loss of the store takes nothing

pub untold : (q : ℕ) (z : StoreOf) → patch_at z q ≡ None → (owed_at z q).firm ≡ false → firm_told contents q (patch_lost contents q z) ≡ Done z tt
untold q z none firm = ap (firm_told contents q) (not_patched none) ∙ not_firm contents q z firm
  where
    not_patched : patch_at z q ≡ None → patch_lost contents q z ≡ z
    not_patched none = rw none refl

-- ---- the frames go

bare : (z : StoreOf) (q : ℕ) → frame_at z q ≡ None → without_frame z q ≡ z
bare z q none = rw none refl

bare_parts : {X : Type 0} (x : Option X) (b : Bool) → (not (is_some x) && b) ≡ true → (x ≡ None) × (b ≡ true)
bare_parts (Some x) b e = absurd cc
bare_parts None b e = (refl, e)

stands_still : (z : StoreOf) (q : ℕ) → stands_bare z q ≡ true → settled contents (without_frame z q) q ≡ z
stands_still z q is =
    let h = bare_parts (frame_at z q) (is_settled z q) is in
    ap (λ (x : StoreOf). settled contents x q) (bare z q h.0) ∙ stands z q h.1

abbrev pub gone : ℕ → StoreOf → StoreOf
gone t z = settled contents (without_frame z t) t

-- a track goes, and those before it stand
pub next_gone : (n from t : ℕ) (s z : StoreOf) → z ≡ over from gone s → NextOf n (stands_bare z) from (Some t) → gone t z ≡ over (t + 1) gone s
next_gone n from t s z is next =
    ap (gone t) (over_to gone s from t z next.0 is (λ q low high. stands_still z q (next.2 q low high))) ∙ sym (over_more gone t s)

pub all_gone : (n from : ℕ) (s z : StoreOf) → from ≤ n → z ≡ over from gone s → NextOf n (stands_bare z) from None → z ≡ over n gone s
all_gone n from s z le is none = over_to gone s from n z le is (λ q low high. stands_still z q (none q low high))
