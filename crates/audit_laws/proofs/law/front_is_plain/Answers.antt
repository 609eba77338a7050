use Rattle.audit_laws.proofs.Decks.{plain_at_next}
use Rattle.audit_laws.proofs.law.front_is_plain.Goals as goal

pub returns : goal.returns
returns c text deck lines s parses leads next = plain_at_next text deck parses s lines leads next
