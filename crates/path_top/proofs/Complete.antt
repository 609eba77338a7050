-- The usage is no read fault.
use Rattle.std.proofs.Common.{◌≡◌, ◌⊎◌, inl, inr, ℕ, List, Option}
use Rattle.path_top.specs.Answers.{TellsUsage}
use Rattle.deck_top.specs.declared.top.Status.{Status}
use Rattle.deck_top.specs.declared.top.Status.TheVariants.{ReadFault, WriteFault, Usage}

usage_read : (status : Status) {X Y Z : Type 0} → ((status ≡ Usage) × X) ⊎ ((status ≡ WriteFault) × Y) → status ≡ ReadFault → Z
usage_read status (inl u) is = absurd (let e = u.0 in cc)
usage_read status (inr w) is = absurd (let e = w.0 in cc)

pub usage_is_no_read : (status : Status) (before after held holds : Option (List ℕ)) {Z : Type 0} → TellsUsage status before after held holds →
    status ≡ ReadFault → Z
usage_is_no_read status before after held holds told is = usage_read status told.1 is
