-- What an audit knows of a run's device is what the device has marked: its loose tracks, and the number of their data.
use Rattle.std.proofs.Common.{◌≡◌, ◌==◌, ℕ, suc, Bool, true, false, List, [], ◌∷◌, length, Option, Some, None, is_some, cond, refl, sym, ap, ◌∙◌, arith}
use Rattle.std.specs.Prelude.{nat_lt}
use Rattle.std.proofs.lemmas.Bool.{eq-eqb, true≢false}
use Rattle.std.proofs.lemmas.Bool.Decides.{nat_tests}
use Rattle.plain_defs.specs.Loose.{is_loose_in}
use Rattle.plain_defs.specs.PlainState.{LooseTrack}
use Rattle.track_table.specs.Tracks.{least}
use Rattle.device_defs.specs.Marks.{MarksDevice, MarksStore}
use Rattle.device_defs.specs.Store.{has_loose, is_loose, tracks_of}
use Rattle.device_laws.proofs.PlainStores.{core_of}
use Rattle.device_laws.proofs.Working.{least_found}
use Rattle.deck_audit.specs.Device as A
use Rattle.deck_audit.specs.Device.{AuditedDevice, state_of}
use Rattle.subsystem_defs.specs.Beside.{loose_count}
use Rattle.subsystem_laws.proofs.PlainRuns.{Plainly}
use Rattle.audit_laws.specs.Standing.{audited}
use Rattle.audit_laws.proofs.own.LooseOnce.{StandOnce, marked_count, plain_once}
use Rattle.audit_laws.proofs.own.LossDevices.{none_at}

-- the audit has as many loose tracks as are marked, and the same number
pub record Marked (a : AuditedDevice) (s : MarksStore) : Type 0 where
  pub same : (t : ℕ) → is_loose_in (state_of a).loose t ≡ is_loose s t
  pub once : StandOnce (state_of a).loose
  pub number_is : (state_of a).number ≡ s.number
  pub many : length s.loose ≡ tracks_of s

pub known : (d : MarksDevice) → Plainly d → Marked (audited d) d.store
known d p = grind (arith, core_of, plain_once)

pub all_firm : (l : List LooseTrack) → ((t : ℕ) → is_loose_in l t ≡ false) → l ≡ []
all_firm [] h = refl
all_firm (x ∷ l) h = absurd (true≢false (sym (ap (λ (b : Bool). cond b true (is_loose_in l x.track)) (eq-eqb x.track x.track refl)) ∙ h x.track))

positive : (n : ℕ) → nat_lt 0 (suc n) ≡ true
positive n = grind (arith, nat_tests)

some_long : (l : List LooseTrack) (t : ℕ) → is_loose_in l t ≡ true → nat_lt 0 (length l) ≡ true
some_long [] t is = absurd (cc)
some_long (x ∷ l) t is = positive (length l)

long_count : (l : List LooseTrack) → nat_lt 0 (length l) ≡ true → (length l == 0) ≡ false
long_count l is = grind (arith, nat_tests)

no_count : (l : List LooseTrack) → nat_lt 0 (length l) ≡ false → (length l == 0) ≡ true
no_count l is = grind (arith, positive)

module _ (a : AuditedDevice) (s : MarksStore) (k : Marked a s) where
  pub count_is : loose_count s ≡ length (state_of a).loose
  count_is = marked_count (state_of a).loose s.loose k.once k.same

  has_by : (o : Option ℕ) → least (tracks_of s) (is_loose s) ≡ o → is_some o ≡ A.has_loose a
  has_by None is = sym (ap (λ (l : List LooseTrack). nat_lt 0 (length l)) (all_firm (state_of a).loose (λ t. k.same t ∙ none_at s k.many None is refl t)))
  has_by (Some t) is = sym (some_long (state_of a).loose t (k.same t ∙ (least_found (tracks_of s) (is_loose s) t is).1))

  pub has_is : has_loose s ≡ A.has_loose a
  has_is = has_by (least (tracks_of s) (is_loose s)) refl

  pub some_counted : has_loose s ≡ true → (loose_count s == 0) ≡ false
  some_counted some = ap (λ (n : ℕ). n == 0) count_is ∙ long_count (state_of a).loose (sym has_is ∙ some)

  pub none_counted : has_loose s ≡ false → (loose_count s == 0) ≡ true
  none_counted none = ap (λ (n : ℕ). n == 0) count_is ∙ no_count (state_of a).loose (sym has_is ∙ none)
