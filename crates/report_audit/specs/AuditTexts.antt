-- The texts of what an audit found.
use Rattle.std.specs.Prelude.{ℕ, List, ◌++◌, codes, decimal}
use Rattle.deck_audit.specs.declared.status.AuditWhy.{AuditWhy}
use Rattle.deck_audit.specs.declared.status.AuditWhy.TheVariants.{Form, Place, History}

abbrev pub why_text : AuditWhy → List ℕ
why_text Form = codes "form"
why_text Place = codes "place"
why_text History = codes "history"

unfoldable pub yes_text : List ℕ
yes_text = codes "audit yes\n"

unfoldable pub no_text : ℕ → AuditWhy → List ℕ
no_text line why = codes "audit line " ++ (decimal line ++ (codes ": " ++ (why_text why ++ codes "\n")))

unfoldable pub no_report_text : List ℕ
no_report_text = codes "audit: no report\n"

unfoldable pub usage_text : List ℕ
usage_text = codes "usage: audit\n"
