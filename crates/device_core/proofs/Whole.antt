-- A command that looks at no track, from one of its ends to the other.
use Rattle.std.proofs.Common.{List, ◌≡◌, ◌∙◌, ℕ, Bool, true, false, None, Some, refl, sym, ap, subst}
use Rattle.std.specs.Prelude.{Result, Ok, Err, IfOk, OnErr}
use Rattle.ckd_types.specs.declared.geometry.Geometry.{Geometry}
use Rattle.ckd_chain.specs.declared.progress.Progress.TheVariants.{Local}
use Rattle.ckd_chain.specs.declared.progress.Settled.{Settled}
use Rattle.ckd_rules.specs.declared.order.LocalAct.{LocalAct}
use Rattle.ckd_types.specs.declared.channel.CommandEnd.{CommandEnd}
use Rattle.plain_device.specs.Acted.{settled_act, paths_behind}
use Rattle.ckd_chain.specs.State.{ChainState}
use Rattle.ckd_chain.specs.Steps as steps
use Rattle.ckd_chain.specs.Steps.{again_from, behind, end_with, chain_opened, settled_by, stepped}
use Rattle.plain_defs.specs.PlainState.{PathsState}
use Rattle.track_image.specs.Image.{Image}
use Rattle.device_outside.specs.Interaction.{Interaction}
use Rattle.device_outside.specs.Keeper.{Hearing}
use Rattle.device_outside.specs.Outside.{Outside, Ran, where_ok, done}
use Rattle.device_outside.proofs.Runs.{ended, tries}
use Rattle.device_defs.specs.declared.answers.Came.{Came}
use Rattle.device_defs.specs.declared.answers.Came.TheVariants.{Ends}
use Rattle.device_defs.specs.Command.{on_paths, came_out}
use Rattle.device_defs.specs.Outcomes.{Turn, settles}
use Rattle.device_core.specs.TrackWalk.{turn_with}
use Rattle.device_defs.specs.Contents.{contents}
use Rattle.device_store.proofs.Moves.{from_equal}
use Rattle.device_core.specs.State.{DefinedDevice, came_to, told, Answers}
use Rattle.ckd_types.specs.Fixed.{Fixed}
use Rattle.device_core.specs.Words.{IsAtWord}
use Rattle.device_core.proofs.Begun.{stepped_opened, same_fixed}

-- the same run, to an equal state
pub to_equal : {R I K S A : Type 0} {had : Bool → Type 0} {hears : Hearing I K} {i : Interaction R I S A} {v w : Outside R K} {s z : S} {a : A} →
    s ≡ z → Ran had hears i v s a w → Ran had hears i v z a w
to_equal {had = had} {hears = hears} {i = i} {v = v} {w = w} {a = a} same ran = subst (λ x. Ran had hears i v x a w) same ran

pub paths_ran : {K E : Type 0} {hears : Hearing Image K} {w : Outside (List ℕ) K} (d : DefinedDevice) (g : Geometry) (old new : PathsState) (path : ℕ)
    (chain at behind : ChainState) (r : Result Came E) → at ≡ chain_opened chain → d.store.geometry ≡ g → d.paths ≡ old →
    IfOk r (Answers g old new path (stepped at None).chain (stepped at None).progress behind) →
    OnErr r ((behind ≡ again_from at) × (new ≡ old)) →
    Ran (where_ok r) hears (on_paths contents d path chain) w (came_to (record d { paths = new }) path behind r) (told r) w
paths_ran d g old new path chain at behind (Ok came) is geometry same answers lacks =
    let e : stepped at None ≡ stepped chain None = ap (λ (x : ChainState). stepped x None) is ∙ stepped_opened chain None in
    let answered = subst (λ (x : steps.ChainStep). Answers g old new path x.chain x.progress behind came) e answers in
    tries true refl (from_equal (λ i. i) (sym (answered.is d geometry same)) refl done)
paths_ran d g old new path chain at behind (Err e) is geometry same answers lacks =
    tries false tt (ended (
    ap (λ (x : ChainState). record d { chain = Some x }) (sym (lacks.0 ∙ ap again_from is))
    ∙ ap (λ (p : PathsState). record d { paths = p; chain = Some behind }) (same ∙ sym lacks.1)
    ) refl)

-- an act that was done, or refused
pub answers_of : (g : Geometry) (old new : PathsState) (path : ℕ) (chain z : ChainState) (act : LocalAct) (how : Settled) (e : CommandEnd) →
    how ≡ settled_act g old path act → new ≡ paths_behind old path act → e ≡ end_with chain (settled_by chain how) →
    z ≡ behind chain (settled_by chain how) → Answers g old new path chain (Local act) z (Ends e)
answers_of g old new path chain z act how e how_is new_is e_is z_is =
    let turn : turn_with z (Ends e) ≡ settles chain how =
    ap (λ (x : ChainState). turn_with x (Ends e)) z_is ∙ ap (λ (x : CommandEnd). turn_with (behind chain (settled_by chain how)) (Ends x)) e_is in record {
      is = λ d geometry paths. ap (λ (q : PathsState). came_out contents (record d { paths = paths_behind q path act }) path
          (settles chain (settled_act d.store.geometry q path act))) paths
          ∙ ap (λ (x : Geometry). came_out contents (record d { paths = paths_behind old path act }) path (settles chain (settled_act x old path act))) geometry
          ∙ ap (λ (h : Settled). came_out contents (record d { paths = paths_behind old path act }) path (settles chain h)) (sym how_is)
          ∙ ap (λ (p : PathsState). came_out contents (record d { paths = p }) path (settles chain how)) (sym new_is)
          ∙ ap (λ (t : Turn). came_out contents (record d { paths = new }) path t) (sym turn);
    }

-- behind want of memory the chain is at the word again
pub word_again : (n : ℕ) (chain at new : ChainState) → IsAtWord n chain → at ≡ chain_opened chain → new ≡ again_from at → IsAtWord n new
word_again n chain at new word is again =
    let to : new ≡ again_from (chain_opened chain) = again ∙ ap again_from is in
    subst (λ (x : ChainState). IsAtWord n x) (sym to) (record {
      ready = record { running = word.ready.back; back = word.ready.back };
      cylinders_are = ap (λ (f : Fixed). f.cylinders) (same_fixed chain) ∙ word.cylinders_are;
    })
