-- What the top call answers, and what it then has written.
use Rattle.std.specs.Prelude.{◌≡◌, ◌⊎◌, ◌<◌, ◌≤◌, ℕ, List, [], ◌∷◌, length, codes, Bool, true, false, Option}
use Rattle.std.specs.Str.{bytes_eq}
use Rattle.std.specs.Io.KnownBytes.{Appends, Consumes, IsAtEnd}
use Rattle.ckd_outside.specs.Texts.{AppendsFront}
use Rattle.deck_text.specs.Texts.{limit_text, refused_text}
use Rattle.report_audit.specs.AuditTexts.{no_report_text, no_text, usage_text, yes_text}
use Rattle.deck_audit.specs.Verdict.{read_back}
use Rattle.deck_audit.specs.declared.status.AuditStatus.{AuditStatus}
use Rattle.deck_audit.specs.declared.status.AuditStatus.TheVariants.{Yes, No, NoReport, DeckRefused, ReadFault, WriteFault, Limit, NoMemory, Usage}

-- the one word `audit`
unfoldable pub is_audit : List (List ℕ) → Bool
is_audit (word ∷ []) = bytes_eq word (codes "audit")
is_audit words = false

-- memory ran out, or the source or the sink failed
abbrev pub HasFailed : AuditStatus → Type 0
HasFailed status = (status ≡ NoMemory) ⊎ ((status ≡ ReadFault) ⊎ (status ≡ WriteFault))

-- what is written
abbrev pub status_text : AuditStatus → List ℕ
status_text Yes = yes_text
status_text (No line why) = no_text line why
status_text NoReport = no_report_text
status_text (DeckRefused line why) = refused_text line why
status_text (Limit which) = limit_text which
status_text Usage = usage_text
status_text ReadFault = []
status_text WriteFault = []
status_text NoMemory = []

-- the source gave this text: all of it, or its first 268,435,457 bytes
pub record Reads (before after : Option (List ℕ)) (text : List ℕ) : Type 0 where
  pub read : Consumes before after text
  pub bound : length text ≤ 268435457
  pub whole : length text < 268435457 → IsAtEnd after

-- the status is what the text comes to that the source gave
pub record IsReadBack (before after : Option (List ℕ)) (status : AuditStatus) : Type 0 where
  pub text : List ℕ
  pub reads : Reads before after text
  pub comes : status ≡ read_back text

-- what an answer says of what was read, and of what the sink holds
pub record Told (status : AuditStatus) (before after held holds : Option (List ℕ)) : Type 0 where
  pub came : IsReadBack before after status
  pub wrote : Appends held holds (status_text status)

-- a front of the answer's text was written
pub record Stopped (before after held holds : Option (List ℕ)) : Type 0 where
  pub wanted : AuditStatus
  pub came : IsReadBack before after wanted
  pub wrote : AppendsFront held holds (status_text wanted)

abbrev pub TellsAudit : AuditStatus → Option (List ℕ) → Option (List ℕ) → Option (List ℕ) → Option (List ℕ) → Type 0
TellsAudit ReadFault before after held holds = holds ≡ held
TellsAudit NoMemory before after held holds = holds ≡ held
TellsAudit WriteFault before after held holds = Stopped before after held holds
TellsAudit Usage before after held holds = ⊥
TellsAudit status before after held holds = Told status before after held holds

-- other words get the usage
abbrev pub TellsUsage : AuditStatus → Option (List ℕ) → Option (List ℕ) → Option (List ℕ) → Option (List ℕ) → Type 0
TellsUsage status before after held holds =
    (after ≡ before) × (((status ≡ Usage) × Appends held holds usage_text) ⊎ ((status ≡ WriteFault) × AppendsFront held holds usage_text))

abbrev pub Tells : Bool → AuditStatus → Option (List ℕ) → Option (List ℕ) → Option (List ℕ) → Option (List ℕ) → Type 0
Tells true status before after held holds = TellsAudit status before after held holds
Tells false status before after held holds = TellsUsage status before after held holds
