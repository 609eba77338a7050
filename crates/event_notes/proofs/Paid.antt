-- What is owed of a track of which nothing is.
use Rattle.std.proofs.Common.{◌≡◌, ℕ, Bool, true, false, Option, Some, None, refl}
use Rattle.std.specs.Prelude.{◌||◌, not, is_some}
use Rattle.device_defs.specs.declared.owed.Owed.{Owed}
use Rattle.device_defs.specs.Store.{no_debt}
use Rattle.event_notes.specs.Debts.{is_paid}

abbrev debt : Bool → Bool → Option ℕ → Bool → Owed
debt m d f b = record { modified = m; dropped = d; freed = f; firm = b }

none_of : (m d : Bool) (f : Option ℕ) (b : Bool) → not (m || d || is_some f || b) ≡ true → debt m d f b ≡ no_debt
none_of true d f b e = absurd cc
none_of false true f b e = absurd cc
none_of false false (Some s) b e = absurd cc
none_of false false None true e = absurd cc
none_of false false None false e = refl

pub paid_none : (o : Owed) → is_paid o ≡ true → o ≡ no_debt
paid_none o e = none_of o.modified o.dropped o.freed o.firm e

pub not_not : (b : Bool) → not b ≡ false → b ≡ true
not_not true e = refl
not_not false e = absurd cc
