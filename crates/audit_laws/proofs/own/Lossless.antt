-- No data of cache fast write are lost where the count of such losses in a history stays.
use Rattle.std.proofs.Common.{◌≡◌, ◌+◌, ◌++◌, ℕ, List, [], ◌∷◌, Option, Some, None, refl, arith, if◌then◌else◌}
use Rattle.std.specs.Prelude.{fold}
use Rattle.plain_defs.specs.declared.journal.Act.{Act}
use Rattle.plain_defs.specs.declared.journal.Act.TheVariants.{CfwLost, Harden, Loosen}
use Rattle.plain_defs.specs.declared.journal.Acted.{Acted}
use Rattle.plain_defs.specs.declared.journal.Item.{Item}
use Rattle.plain_defs.specs.declared.journal.Item.TheVariants as items
use Rattle.plain_defs.specs.History.{History, OpenEntry}
use Rattle.device_defs.specs.Command.{is_loss}
use Rattle.device_defs.specs.Excused.{loose_losses, losses_of}
use Rattle.device_laws.specs.Unharmed.{all_losses, running_losses}
use Rattle.subsystem_defs.specs.Beside.{acts_in, acts_of_entry, acts_of_item, acts_of_items, acts_running}
use Rattle.audit_laws.specs.Steps.{NoLoss}
use Rattle.audit_laws.proofs.own.Weights.{one}

losses : List Act → ℕ
losses [] = 0
losses (act ∷ acts) = one (is_loss act) + losses acts

both_losses : (xs ys : List Act) → losses (xs ++ ys) ≡ losses xs + losses ys
unfolding losses
both_losses [] ys = omega arith
both_losses (x ∷ xs) ys = let rest = both_losses xs ys in omega (arith, rest)

acted_losses : (n : ℕ) (xs : List Acted) → fold (λ (k : ℕ) (a : Acted). k + (if is_loss a.act then 1 else 0)) n xs ≡ n + losses (acts_of_entry xs)
unfolding losses
acted_losses n [] = omega arith
acted_losses n (x ∷ xs) = let rest = acted_losses (n + (if is_loss x.act then 1 else 0)) xs in omega (arith, rest)

item_losses : (x : Item) → losses_of x ≡ losses (acts_of_item x)
unfolding losses
item_losses (items.Program e) = let all = acted_losses 0 e.acts in omega (arith, all)
item_losses (items.Act act) = omega arith
item_losses x = refl

journal_losses : (xs : List Item) → loose_losses xs ≡ losses (acts_of_items xs)
unfolding losses
journal_losses [] = refl
journal_losses (x ∷ xs) = grind (arith, journal_losses xs, item_losses, both_losses)

open_losses : (r : Option OpenEntry) → running_losses r ≡ losses (acts_running r)
unfolding losses
open_losses (Some o) = let all = acted_losses 0 o.acts in omega (arith, all)
open_losses None = refl

history_losses : (h : History) → all_losses h ≡ losses (acts_in h)
history_losses h = grind (arith, journal_losses, open_losses, both_losses)

none_by : (acts : List Act) → losses acts ≡ 0 → NoLoss acts
unfolding losses
none_by [] is = tt
none_by (Loosen t ∷ acts) is = (refl, none_by acts (omega (arith, is)))
none_by (Harden t ∷ acts) is = (refl, none_by acts (omega (arith, is)))
none_by (CfwLost ∷ acts) is = absurd (omega (arith, is))

-- of the acts that came to it
pub none_lost : (h k : History) (acts : List Act) → acts_in k ≡ acts_in h ++ acts → all_losses k ≡ all_losses h → NoLoss acts
none_lost h k acts more same = grind (arith, history_losses, both_losses, none_by)
