use Rattle.std.proofs.Common.{◌∙◌, ◌≤◌, ◌++◌, ◌∷◌, [], ℕ, List, refl, sym, ap, subst}
use Rattle.plain_defs.specs.declared.journal.Item.TheVariants.{Reset}
use Rattle.plain_defs.specs.PlainState.{PathsState, reset_path}
use Rattle.device_defs.specs.Device.{all_reset}
use Rattle.device_core.specs.Kept.{waiting_in, with_unused}
use Rattle.device_core.proofs.Pasts.{history_cut, keeps_cut, own_path, some_path, waiting_cut}
use Rattle.device_core.proofs.history.Past.cut.Goals as goal

pub returns-clause-history : goal.returns-clause-history
returns-clause-history c =
    λ o is. let at = own_path _ o c.args.path is c.requires.runs in
    history_cut c.args.self.now c.note_cut.new.self (record c.note_cut.new.self { items = c.push.new.self; kept = c.set_unused.new.kept })
    c.follow_resets.new.self o c.args.more c.requires.keeps is (subst (λ (n : ℕ). 1 ≤ n) (sym at) c.set_unused.ensures.path.0)
    (subst (λ (n : ℕ). n ≤ 4) (sym at) c.set_unused.ensures.path.1) c.note_cut.ensures.over (c.note_cut.ensures.items o is) c.note_cut.ensures.spare
    c.note_cut.ensures.rest.0 c.note_cut.ensures.rest.1 (c.push.ensures.items ∙ ap (λ (n : ℕ). c.note_cut.new.self.items.items ++ Reset n ∷ []) (sym at))
    c.push.ensures.spare refl (c.set_unused.ensures.kept ∙ ap (λ (n : ℕ). with_unused c.note_cut.new.self.kept n) (sym at)) refl
    c.follow_resets.ensures.items c.follow_resets.ensures.spare c.follow_resets.ensures.running c.follow_resets.ensures.kept
    c.follow_resets.ensures.rest.0

pub returns-clause-keeps : goal.returns-clause-keeps
returns-clause-keeps c =
    let it = some_path _ c.args.path c.requires.runs in let at = own_path _ it.0 c.args.path it.1.0 c.requires.runs in
    keeps_cut c.args.self.now c.note_cut.new.self (record c.note_cut.new.self { items = c.push.new.self; kept = c.set_unused.new.kept })
    c.follow_resets.new.self it.0 c.args.more c.requires.keeps it.1.0 (subst (λ (n : ℕ). 1 ≤ n) (sym at) c.set_unused.ensures.path.0)
    (subst (λ (n : ℕ). n ≤ 4) (sym at) c.set_unused.ensures.path.1) c.note_cut.ensures.over (c.note_cut.ensures.items it.0 it.1.0) c.note_cut.ensures.spare
    c.note_cut.ensures.rest.0 c.note_cut.ensures.rest.1 (c.push.ensures.items ∙ ap (λ (n : ℕ). c.note_cut.new.self.items.items ++ Reset n ∷ []) (sym at))
    c.push.ensures.spare refl (c.set_unused.ensures.kept ∙ ap (λ (n : ℕ). with_unused c.note_cut.new.self.kept n) (sym at)) refl
    c.follow_resets.ensures.items c.follow_resets.ensures.spare c.follow_resets.ensures.running c.follow_resets.ensures.kept
    c.follow_resets.ensures.rest.0

pub returns-clause-paths : goal.returns-clause-paths
returns-clause-paths c =
    let it = some_path _ c.args.path c.requires.runs in let at = own_path _ it.0 c.args.path it.1.0 c.requires.runs in
    c.follow_resets.ensures.paths ∙ ap (λ (ps : PathsState). all_reset ps (waiting_in c.set_unused.new.kept)) c.reset.ensures
    ∙ ap (λ (l : List ℕ). all_reset (reset_path c.args.paths.now c.args.path) l)
    (waiting_cut c.args.self.now c.note_cut.new.self (record c.note_cut.new.self { items = c.push.new.self; kept = c.set_unused.new.kept })
    c.follow_resets.new.self it.0 c.args.more c.requires.keeps it.1.0 (subst (λ (n : ℕ). 1 ≤ n) (sym at) c.set_unused.ensures.path.0)
    (subst (λ (n : ℕ). n ≤ 4) (sym at) c.set_unused.ensures.path.1) c.note_cut.ensures.over (c.note_cut.ensures.items it.0 it.1.0) c.note_cut.ensures.spare
    c.note_cut.ensures.rest.0 c.note_cut.ensures.rest.1 (c.push.ensures.items ∙ ap (λ (n : ℕ). c.note_cut.new.self.items.items ++ Reset n ∷ []) (sym at))
    c.push.ensures.spare refl (c.set_unused.ensures.kept ∙ ap (λ (n : ℕ). with_unused c.note_cut.new.self.kept n) (sym at)) refl
    c.follow_resets.ensures.items c.follow_resets.ensures.spare c.follow_resets.ensures.running c.follow_resets.ensures.kept
    c.follow_resets.ensures.rest.0)
