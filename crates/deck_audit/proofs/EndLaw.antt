-- A command that ends as on the plain device keeps a device's history plain, where no reset waits.
use Rattle.std.proofs.Common.{◌≡◌, ℕ, [], Option, Some, None, Bool, true, false, not, refl, sym, ap, subst}
use Rattle.std.specs.Prelude.{◌||◌}
use Rattle.ckd_types.specs.declared.channel.CommandEnd.{CommandEnd}
use Rattle.ckd_types.specs.Ccw.{ccw_at}
use Rattle.ckd_types.specs.Parameters.{is_provisional}
use Rattle.ckd_rules.specs.Ends.{end_at_word}
use Rattle.ckd_rules.specs.Walk.{TrackEdit}
use Rattle.plain_defs.specs.Effect.{effect_on}
use Rattle.plain_defs.specs.History.{OpenEntry, ended, IsPlain}
use Rattle.plain_defs.specs.Legal.{MayEdit, edit_at}
use Rattle.plain_defs.specs.Loose.{is_loose_there}
use Rattle.plain_defs.specs.Program.{Part}
use Rattle.plain_defs.proofs.HistoryLaws.{ended_plain}
use Rattle.deck_audit.specs.Device.{AuditedDevice, edit_of, is_edit_legal, is_next_legal, part_of_open, plain_end, plain_end_at, words_of_open}

by_loose : (l provisional : Bool) → (not l || provisional) ≡ true → l ≡ true → provisional ≡ true
by_loose true provisional is loose = is
by_loose false provisional is loose = absurd cc

may_edit_of : (p : Part) (edit : Option TrackEdit) → is_edit_legal p edit ≡ true → MayEdit p.state p.stance edit
may_edit_of p None is = tt
may_edit_of p (Some e) is = λ loose. by_loose (is_loose_there p.state e.track) (is_provisional p.stance.extent) is loose

module _ (a : AuditedDevice) (o : OpenEntry) (plain : IsPlain a.plans a.empty a.history) (runs : a.history.running ≡ Some o)
    (none_waits : a.history.waiting ≡ []) (e : CommandEnd) (legal : is_next_legal a (Some o) ≡ true) where
  by_next : (next : Option ℕ) → (part_of_open a o).next ≡ next
      → plain_end_at o.path (words_of_open a o) (part_of_open a o) next ≡ Some e → IsPlain a.plans a.empty (ended a.history e)
  by_next None here is = absurd cc
  by_next (Some i) here is =
      let end_is : end_at_word i (ccw_at (words_of_open a o) i) (effect_on (part_of_open a o).fixed (part_of_open a o).state o.path
      (part_of_open a o).stance (ccw_at (words_of_open a o) i)).outcome ≡ e = cc in
      ended_plain a.plans a.empty a.history plain o runs none_waits i here e (sym end_is)
      (subst (λ (x : Option TrackEdit). MayEdit (part_of_open a o).state (part_of_open a o).stance x)
      (ap (λ (n : Option ℕ). edit_at o.path (words_of_open a o) (part_of_open a o) n) here)
      (may_edit_of (part_of_open a o) (edit_of a o) legal))

  pub end_plain : plain_end a o ≡ Some e → IsPlain a.plans a.empty (ended a.history e)
  end_plain is = by_next (part_of_open a o).next refl is
