-- Each loose track of a plain device stands once in its list, so they are as many as a run's device has marked.
use Rattle.std.proofs.Common.{◌≡◌, ◌<◌, ◌+◌, ◌==◌, ◌++◌, ℕ, zero, suc, Bool, true, false, List, [], ◌∷◌, length, Option, None, cond, set, get_or, refl, sym, ap, ◌∙◌, arith}
use Rattle.std.specs.Prelude.{count_by, fold}
use Rattle.std.proofs.lemmas.Bool.{eq-eqb, eqb-false, eqb-true, ne_eqb}
use Rattle.std.proofs.lemmas.List.{get_or-set_other, get_or-set_same, get_or_past}
use Rattle.std.proofs.lemmas.List.Sums.{sum_by-set}
use Rattle.ckd_types.specs.declared.channel.Ccw.{Ccw}
use Rattle.plain_defs.specs.declared.journal.Act.{Act}
use Rattle.plain_defs.specs.declared.journal.Act.TheVariants.{Loosen, Harden, CfwLost}
use Rattle.plain_defs.specs.declared.journal.Acted.{Acted}
use Rattle.plain_defs.specs.declared.journal.Item.{Item}
use Rattle.plain_defs.specs.declared.journal.Item.TheVariants as items
use Rattle.plain_defs.specs.History.{History, IsPlain, plain_of}
use Rattle.plain_defs.specs.Journal.{Plans, program_of, replay, replay_item, effects_of}
use Rattle.plain_defs.specs.Legal.{AreActs, HasActs, IsLegalFrom, bare_part, next_edit, track_of}
use Rattle.plain_defs.specs.Loose.{act_done, is_loose_in, lost_by_power, without}
use Rattle.plain_defs.specs.PlainState.{LooseTrack, PlainState}
use Rattle.plain_defs.specs.Program.{acts_at, acts_done, part_of}
use Rattle.plain_defs.proofs.PartLemmas.{acted_beside, part_counts}
use Rattle.device_laws.proofs.OpenProgram.{part_is_acted, with_acts_state}

abbrev pub StandOnce : List LooseTrack → Type 0
StandOnce [] = Unit {0}
StandOnce (x ∷ l) = (is_loose_in l x.track ≡ false) × StandOnce l

-- Acts

more_loose : (l : List LooseTrack) (x : LooseTrack) (q : ℕ) → is_loose_in l q ≡ false → (x.track == q) ≡ false → is_loose_in (l ++ x ∷ []) q ≡ false
more_loose [] x q none other = ap (λ (b : Bool). cond b true false) other
more_loose (y ∷ l) x q none other = grind (arith, more_loose l x q)

once_more : (l : List LooseTrack) (x : LooseTrack) → StandOnce l → is_loose_in l x.track ≡ false → StandOnce (l ++ x ∷ [])
once_more [] x o none = (refl, tt)
once_more (y ∷ l) x o none = grind (arith, once_more l x o.1, more_loose, ne_eqb, eqb-false)

pub fewer_loose : (t : ℕ) (l : List LooseTrack) (q : ℕ) → is_loose_in l q ≡ false → is_loose_in (without t l) q ≡ false
fewer_loose t [] q none = refl
fewer_loose t (y ∷ l) q none = grind (arith, fewer_loose t l q)

once_without : (t : ℕ) (l : List LooseTrack) → StandOnce l → StandOnce (without t l)
once_without t [] o = tt
once_without t (y ∷ l) o = grind (arith, once_without t l o.1, fewer_loose)

acts_once : (acts : List Act) (s : PlainState) (edited : Option ℕ) → StandOnce s.loose → AreActs s edited acts → StandOnce (acts_done s acts).loose
acts_once [] s edited o are = o
acts_once (Loosen t ∷ []) s edited o are = once_more s.loose _ o are.0
acts_once (Loosen t ∷ act ∷ acts) s edited o are = absurd are
acts_once (Harden t ∷ acts) s edited o are = acts_once acts (act_done s (Harden t)) edited (once_without t s.loose o) are.1
acts_once (CfwLost ∷ acts) s edited o are = acts_once acts (act_done s CfwLost) edited tt are.1

-- A program

module _ (state : PlainState) (path : ℕ) (ccws : List Ccw) (acts : List Acted) where
  -- those behind so many commands
  record ActsAt (k : ℕ) : Type 0 where
    edited : Option ℕ
    are : AreActs (bare_part state path ccws acts k).state edited (acts_at acts k)

  acted_once : (k : ℕ) → ActsAt k → StandOnce (bare_part state path ccws acts k).state.loose →
      StandOnce (part_of state path ccws acts k).state.loose
  acted_once k a o = grind (arith, part_is_acted, acted_beside, part_counts, with_acts_state, acts_once)

  bare_once : (k : ℕ) → ((j : ℕ) → j < k → ActsAt j) → StandOnce state.loose → StandOnce (bare_part state path ccws acts k).state.loose
  bare_once zero a o = o
  bare_once (suc k) a o = grind (arith, bare_once k, acted_once)

  pub part_once : (k : ℕ) → HasActs state path ccws acts k → StandOnce state.loose → StandOnce (part_of state path ccws acts k).state.loose
  part_once k h o =
      acted_once k (record { edited = None; are = h.last })
      (bare_once k (λ j lt. record {
        edited = track_of (next_edit path ccws (part_of state path ccws acts j));
        are = (h.points j lt).acts_are;
      }) o)

-- A history

module _ (plans : Plans) where
  power_once : (s : PlainState) (l : List LooseTrack) → s.loose ≡ l → StandOnce (lost_by_power s l).loose
  power_once s l is = grind arith

  pub items_once : (s : PlainState) (earlier xs : List Item) → StandOnce s.loose → IsLegalFrom plans s earlier xs → StandOnce (replay plans s xs).loose
  items_once s earlier [] o legal = o
  items_once s earlier (items.Program e ∷ xs) o legal =
      grind (arith, items_once (replay_item plans s (items.Program e)) (earlier ++ items.Program e ∷ []) xs (part_once s e.path (program_of plans e.path e.ordinal) e.acts (effects_of e.how e.ends) legal.0.0.acts o) legal.1, part_once)
  items_once s earlier (items.Reset p ∷ xs) o legal = items_once (replay_item plans s (items.Reset p)) (earlier ++ items.Reset p ∷ []) xs o legal.1
  items_once s earlier (items.Fresh ∷ xs) o legal = items_once (replay_item plans s items.Fresh) (earlier ++ items.Fresh ∷ []) xs tt legal.1
  items_once s earlier (items.Act act ∷ xs) o legal =
      grind (arith, items_once (replay_item plans s (items.Act act)) (earlier ++ items.Act act ∷ []) xs (acts_once (act ∷ []) s None o legal.0) legal.1, acts_once (act ∷ []) s None o legal.0)
  items_once s earlier (items.Power ∷ xs) o legal =
      grind (arith, items_once (replay_item plans s items.Power) (earlier ++ items.Power ∷ []) xs (power_once s s.loose refl) legal.1, power_once s s.loose refl)

  pub plain_once : (empty : PlainState) (h : History) → empty.loose ≡ [] → IsPlain plans empty h → StandOnce (plain_of plans empty h).loose
  plain_once empty h none plain = grind (arith, items_once, part_once)

-- Marks

abbrev counts : Bool → ℕ
counts b = cond b 1 0

none_counted : (n : ℕ) (l : List Bool) → ((q : ℕ) → get_or l q false ≡ false) → fold (λ (k : ℕ) (x : Bool). k + cond x 1 0) n l ≡ n
none_counted n [] h = refl
none_counted n (y ∷ l) h = omega (arith, ap counts (h 0), (none_counted (n + cond y 1 0) l (λ q. h (suc q))))

inside : (marks : List Bool) (t : ℕ) → get_or marks t false ≡ true → t < length marks
inside marks t is = grind (arith, get_or_past)

-- as many as are marked
pub marked_count : (l : List LooseTrack) (marks : List Bool) → StandOnce l → ((q : ℕ) → is_loose_in l q ≡ get_or marks q false) →
    count_by (λ (b : Bool). b) marks ≡ length l
marked_count [] marks o same = none_counted 0 marks (λ q. sym (same q))
marked_count (x ∷ l) marks o same =
    let is : get_or marks x.track false ≡ true =
    sym (same x.track) ∙ ap (λ (b : Bool). cond b true (is_loose_in l x.track)) (eq-eqb x.track x.track refl) in
    let lt = inside marks x.track is in
    let one = sum_by-set counts marks x.track false false lt in
    let was : counts (get_or marks x.track false) ≡ 1 = ap counts is in
    let rest = marked_count l (set marks x.track false) o.1 (λ q. others q lt) in
    omega (arith, one, was, rest)
  where
    others : (q : ℕ) → x.track < length marks → is_loose_in l q ≡ get_or (set marks x.track false) q false
    others q lt = by_test (x.track == q) refl where
      by_test : (b : Bool) → (x.track == q) ≡ b → is_loose_in l q ≡ get_or (set marks x.track false) q false
      by_test true test =
          rw (← (eqb-true x.track q test))
          (o.0 ∙ sym (get_or-set_same marks x.track false false lt))
      by_test false test =
          sym (ap (λ (b : Bool). cond b true (is_loose_in l q)) test) ∙ same q
          ∙ sym (get_or-set_other marks x.track q false false (λ e. eqb-false x.track q test (sym e)))
