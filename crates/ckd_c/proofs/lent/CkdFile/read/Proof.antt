-- `read` moves the file out of its place.
use Rattle.std.proofs.Common.{◌≡◌, List, [], ◌∷◌, ◌++◌, refl, sym, subst}
use lib.Dec.{T}
use base.Fraction.{full_share}
use base.Fml.{fat}
use mir.Syntax.{Ty}
use mir.Val.{Val, vptr, vstruct, vcons, vnil, of_list, has_ty, WT}
use base.Logic.{SProp, ent, emp, never, id⊢}
use prog.Wp.{WpFn}
use types.Kit.{‵, raw, ◌⊛◌, some, at_ret, ◌$◌, ◌∵◌, !, qed, by, move, keep, drop, split, fsplit, fpick, fjoin, feq_l, pick, suffices, use0, use1}
use types.Run.{stop, fld, load, look, of_opd, first, blocks, exec, returns, enter}
use types.ByLocal.{alloc_all, pass_all, free_all, look_at, get, get_in, through, sets, sets_last, env}
use types.Part.{sub, whole}
use contract.Monad.{fact, fact_i}
use contract.Running.{tables}
use denote.Exit.{yes}
use denote.Laws.{Is, shows}
use denote.RattleType.{RattleType, owns}
use denote.Param.{layout}
use denote.RawPtr.{Ptr, ptr_val, in_a_block}
use denote.Signature.{types_at, plain}
use denote.Steps.{nothing, peeks}
use denote.Triple.Entry.{alive}
use denote.Triple.Walked.{Stays, stay_dropped, walk_of, Goes-dropped}
use borrow.Table.OneValue.{part_out}
use Rattle.std.proofs.raw_atomic.Walks.{proved_at, leaves}
use Rattle.std.specs.contracts.fs.File as file
use Rattle.std.proofs.fs.File.TheLaws as file_laws
use Rattle.ckd_c.specs.Held.{lent}
use Rattle.ckd_c.specs.contracts.lent.CkdFile as place
use Rattle.ckd_c.specs.contracts.lent.CkdFile.read.{ended, clauses}
use Rattle.ckd_c.specs.contracts.lent.CkdFile.read.Key.{name as #self}
use Rattle.ckd_c.proofs.lent.CkdFile.read.Statement.{statement}
use Rattle.ckd_c.proofs.lent.CkdFile.read.Code as code

abbrev F : RattleType
F = file.the_row

abbrev word : Val → Val
word v = vstruct (vcons v vnil)

pub read_spec : {M : Type 1} → statement M
read_spec 𝓤 𝓛 𝓜 𝓡 wired =
    let H = 𝓛.H in let 𝓣 = tables 𝓤 H 𝓜 𝓡 𝓡.env in let c = clauses 𝓛 𝓜.mem 𝓡.returns in let fn = code.function in
    let hs : Stays ended.signature.params ended.kept = (stay_dropped (plain (λ _. place.the_row)) yes, tt) in
    proved_at 𝓛 ended hs c 𝓜 𝓡 (Goes-dropped 𝓛 0 (plain (λ _. place.the_row)) yes (λ κs x f. refl), tt) #self fn (code.unfolded 𝓤 H 𝓜 𝓡 wired) (λ z are.
    let κs = z.0.0 in let qs = z.0.1 in let v = z.0.3.0 in let Post : Val → SProp 𝓤 = (walk_of 𝓛 ended hs c).post z in let Run : List Val → SProp 𝓤 = λ ws. WpFn 𝓤 H 𝓣.C 𝓣.Λ fn ws Post in
    let τ : Ty = layout F in
    qed 𝓛 ((raw (alive 𝓛 ended.signature κs qs) ⊛ ‵ (owns (types_at ended.signature.params κs) z.0.3 z.0.4)) ∷ raw ((c κs z.0.3).requires z.1) ∷ []) ∵ split ! $ move ! (1 ∷ []) $ fsplit ! $
    fsplit ! $ fpick ! (λ vss. fsplit ! $ feq_l ! (λ ev. fsplit ! $ feq_l ! (λ ep. drop ! $
    in_a_block ! v.at (λ p. lent p v.file) (id⊢ 𝓤 (never 𝓤)) (λ b o e.
    use1 𝓛 (some (λ (u : Val). ‵ (fat full_share τ b o u) ⊛ ‵ (F.own_val v.file (u ∷ [])))) (part_out 𝓛 F refl full_share v.file b o) $ pick ! (λ u. split ! $ move ! (1 ∷ []) $
    peeks ! F (Is F) (shows 𝓛 F) v.file (u ∷ []) (λ is.
    let t : T (has_ty τ u) × WT u = ((file_laws.the_row_laws.lawful 𝓛).typed v.file (u ∷ []) is).0 in
    let ws : z.0.4.0 ≡ word (vptr b o) ∷ [] = subst (λ (p : Ptr). z.0.4.0 ≡ vstruct (of_list (ptr_val p ∷ [])) ∷ []) e (subst (λ (ps : List Val). z.0.4.0 ≡ vstruct (of_list (ps ++ [])) ∷ []) ep ev) in
    suffices ! (Run (word (vptr b o) ∷ [])) (subst (λ (us : List Val). ent 𝓤 (Run (word (vptr b o) ∷ [])) (Run us)) (sym (λ i. ws i ++ [])) (id⊢ 𝓤 (Run (word (vptr b o) ∷ [])))) $
    enter ! 𝓣.C 𝓣.Λ fn (word (vptr b o) ∷ []) Post $ alloc_all ! (λ l. pass_all ! refl ((tt, (tt, tt)), tt) $
    sets ! (of_opd ! (get_in ! (fld ! refl (stop !)) (sub ! 0 refl (whole !)))) refl (tt, tt) $ first ! $ blocks ! $
    sets_last ! (of_opd ! (load ! (through ! refl (stop !)) (look ! 1 refl))) refl t $
    exec ! 𝓣.C 𝓣.Λ (env fn.locals l) code.Mir.t-3 (at_ret (env fn.locals l) Post) $ sets ! (of_opd ! (get ! refl)) refl t $
    nothing ! $ nothing ! $ fjoin ! $ use0 𝓛 (raw (fact 𝓤 (v.file ≡ v.file))) (fact_i 𝓤 (v.file ≡ v.file) (emp 𝓤) refl) $
    returns ! (look_at ! 0 refl) $ free_all ! refl $ keep ! (5 ∷ 1 ∷ 2 ∷ 0 ∷ []) $ by ! (leaves 𝓛 ended hs c z u v.file (tt, tt) (tt, tt))))))))))
