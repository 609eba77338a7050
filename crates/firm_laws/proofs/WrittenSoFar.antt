-- So it is behind events that come one after another.
use Rattle.std.proofs.Common.{◌≡◌, ◌++◌, ℕ, true, List, [], ◌∷◌, Some, append_assoc, refl, sym, ap, ◌∙◌}
use Rattle.std.specs.Prelude.{All}
use Rattle.std.proofs.lemmas.List.{append-nil}
use Rattle.std.proofs.lemmas.List.Elements.{All-head, All-tail}
use Rattle.subsystem_defs.specs.declared.event.Event.{Event}
use Rattle.subsystem_defs.specs.Decks.{Firsts}
use Rattle.subsystem_defs.specs.Happening.{happens}
use Rattle.subsystem_defs.specs.Subsystem.{Mounted, Subsystem, mounted_in}
use Rattle.subsystem_laws.specs.Served.{IsServedEvent}
use Rattle.subsystem_laws.proofs.PlainRuns.{ArePlainOn, event_plain_on}
use Rattle.keeper_laws.specs.Firmness.{told_firm, IsTold, has_one, IsFirm}
use Rattle.keeper_laws.specs.Messages.{event_messages}
use Rattle.keeper_laws.proofs.FirmNumbers.{one_event}
use Rattle.keeper_laws.proofs.FirmRuns.{firm_event, told_both}
use Rattle.firm_laws.specs.FirmWrites.{FirmWrite, firm_writes_on, firms_in}
use Rattle.firm_laws.specs.Written.{HasWrittenOn, all_messages, behind_all}
use Rattle.firm_laws.proofs.StillPlain.{plain_there}
use Rattle.firm_laws.proofs.Tells.{firms_more}
use Rattle.firm_laws.proofs.WrittenRuns.{written_event}

some_is : {X : Type 0} {x y : X} → Some x ≡ Some y → x ≡ y
some_is e = cc

-- the firm volume is the one before with all Firm messages put in
pub firm_all : (n : ℕ) (es : List Event) (s : Subsystem) (m : Mounted) → mounted_in s.mounted n ≡ Some m → IsTold m.device.store →
    has_one n s.mounted ≡ true → IsFirm (told_firm n (all_messages s es) m.device.store.firm) (behind_all s es) n
firm_all n [] s m there told one = record { mounted = m; there = there; firm = refl; told = told }
firm_all n (e ∷ es) s m there told one =
    let z = (happens s e).behind in
    let f = firm_event n m s there told one e in
    let rest = firm_all n es z f.mounted f.there f.told (one_event s n e one) in
    record {
      mounted = rest.mounted;
      there = rest.there;
      firm =
          rest.firm
          ∙ ap (told_firm n (all_messages z es)) f.firm
          ∙ sym (told_both n (event_messages s e) (all_messages z es) m.device.store.firm);
      told = rest.told;
    }

-- and its firm writes are those before, and then these messages
pub written_all : (firsts : Firsts) (n : ℕ) (es : List Event) (s : Subsystem) (m : Mounted) → ArePlainOn firsts s.mounted → mounted_in s.mounted n ≡ Some m →
    IsTold m.device.store → has_one n s.mounted ≡ true → All IsServedEvent es →
    HasWrittenOn firsts (firm_writes_on firsts m.device ++ firms_in n (all_messages s es)) (behind_all s es) n
written_all firsts n [] s m p there told one all =
    record { mounted = m; there = there; writes = sym (append-nil (firm_writes_on firsts m.device)) }
written_all firsts n (e ∷ es) s m p there told one all =
    let z = (happens s e).behind in
    let f = firm_event n m s there told one e in
    let w = written_event firsts n m s there told (plain_there firsts s p n m there) one e in
    let same : w.mounted ≡ f.mounted = some_is (sym w.there ∙ f.there) in
    let rest = written_all firsts n es z f.mounted (event_plain_on firsts s p e (All-head IsServedEvent e es all)) f.there f.told (one_event s n e one)
    (All-tail IsServedEvent e es all) in
    let now : firm_writes_on firsts f.mounted.device ≡ firm_writes_on firsts m.device ++ firms_in n (event_messages s e) =
    ap (λ (x : Mounted). firm_writes_on firsts x.device) (sym same) ∙ w.writes in
    record {
      mounted = rest.mounted;
      there = rest.there;
      writes =
          rest.writes
          ∙ ap (λ (l : List FirmWrite). l ++ firms_in n (all_messages z es)) now
          ∙ append_assoc (firm_writes_on firsts m.device) (firms_in n (event_messages s e)) (firms_in n (all_messages z es))
          ∙ ap (λ (l : List FirmWrite). firm_writes_on firsts m.device ++ l) (sym (firms_more n (event_messages s e) (all_messages z es)));
    }
