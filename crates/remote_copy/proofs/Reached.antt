-- Where it is told which puts fail, the far volume has those firm writes that come before the first that does.
use Rattle.std.proofs.Common.{
  ◌≡◌,
  ◌≤◌,
  ◌<◌,
  ◌∙◌,
  ◌+◌,
  ◌-◌,
  ◌^◌,
  ◌==◌,
  ℕ,
  zero,
  suc,
  not,
  Bool,
  true,
  false,
  true≢false,
  List,
  [],
  ◌∷◌,
  ◌++◌,
  length,
  length-append,
  take,
  set,
  Option,
  Some,
  Result,
  Ok,
  Err,
  refl,
  sym,
  ap,
  subst,
  add-zero,
  arith,
}
use Rattle.std.specs.Prelude.{if◌then◌else◌}
use Rattle.std.proofs.lemmas.Bool.{eq-eqb, ne_eqb}
use Rattle.std.proofs.Math.Seq.{take-nil}
use Rattle.ckd_types.specs.declared.record.Track.{Track}
use Rattle.ckd_outside.specs.declared.faults.Failed.{Failed}
use Rattle.device_outside.specs.Lists as L
use Rattle.device_outside.specs.Lists.{is_in}
use Rattle.device_outside.specs.Volume as V
use Rattle.device_outside.specs.Volume.{counted}
use Rattle.remote_copy.specs.declared.state.MirrorState.{MirrorState}
use Rattle.remote_copy.specs.declared.state.MirrorState.TheVariants.{Level, Suspended}
use Rattle.remote_copy.specs.Linking.{GoesByPlan, IsByPlan, PutCalls, next_fails, one_put, with_put}
use Rattle.firm_laws.specs.FirmWrites.{FirmWrite}
use Rattle.remote_copy.specs.Sending.{IsReached, IsSent, IsStill, SenderView, Sends, SendsIf, all_put, are_reached, capped, counted_at, is_put, is_suspended, put_all, reached}
use Rattle.remote_copy.proofs.Puttings.{SendsAll, sends_none, sends_next, put_all_more}
use Rattle.remote_copy.proofs.Sent.{capped_more, plus_one, suspended_same}

-- With one more in front

reached_on : (c : PutCalls) (w : FirmWrite) (ws : List FirmWrite) → next_fails c ≡ false → reached c (w ∷ ws) ≡ w ∷ reached (one_put c) ws
reached_on c w ws e = ap (λ (b : Bool). if b then [] else w ∷ reached (one_put c) ws) e

reached_none : (c : PutCalls) (w : FirmWrite) (ws : List FirmWrite) → next_fails c ≡ true → reached c (w ∷ ws) ≡ []
reached_none c w ws e = ap (λ (b : Bool). if b then [] else w ∷ reached (one_put c) ws) e

are_on : (c : PutCalls) (w : FirmWrite) (ws : List FirmWrite) → next_fails c ≡ false → are_reached c (w ∷ ws) ≡ are_reached (one_put c) ws
are_on c w ws e = ap (λ (b : Bool). if b then false else are_reached (one_put c) ws) e

are_none : (c : PutCalls) (w : FirmWrite) (ws : List FirmWrite) → next_fails c ≡ true → are_reached c (w ∷ ws) ≡ false
are_none c w ws e = ap (λ (b : Bool). if b then false else are_reached (one_put c) ws) e

-- From a sender that is level

record Reaches (c : PutCalls) (ws : List FirmWrite) (f : List Track) (n : ℕ) (z : SenderView) : Type 0 where
  far : z.link.far ≡ Some (put_all (reached c ws) f)
  sent : z.sent ≡ capped (n + length (reached c ws))
  state : IsStill (are_reached c ws) (all_put c ws) z

module _ (c : PutCalls) (s l z : SenderView) (w : FirmWrite) (ws : List FirmWrite) (f : List Track) (n : ℕ) (is : s.state ≡ Level)
    (told : s.link.far ≡ Some f) (sent : s.sent ≡ capped n) where
  one_reached : next_fails c ≡ false → Reaches (one_put c) ws (set f w.0 w.1) (n + 1) z → Reaches c (w ∷ ws) f n z
  one_reached e go =
      let us : List FirmWrite = reached (one_put c) ws in
      record {
        far = go.far ∙ ap (λ (vs : List FirmWrite). Some (put_all vs f)) (sym (reached_on c w ws e));
        sent = go.sent ∙ ap capped (plus_one n (length us)) ∙ ap (λ (vs : List FirmWrite). capped (n + length vs)) (sym (reached_on c w ws e));
        state = subst (λ (b : Bool). IsStill b (all_put c (w ∷ ws)) z) (sym (are_on c w ws e)) go.state;
      }

  none_reached : next_fails c ≡ true → z ≡ l → l.link.far ≡ s.link.far → l.sent ≡ s.sent → l.state ≡ Suspended s.sent → Reaches c (w ∷ ws) f n z
  none_reached e same kept count state = record {
    far = ap (λ (k : SenderView). k.link.far) same
        ∙ kept
        ∙ told
        ∙ ap (λ (vs : List FirmWrite). Some (put_all vs f)) (sym (reached_none c w ws e));
    sent = ap (λ (k : SenderView). k.sent) same
        ∙ count
        ∙ sent
        ∙ ap capped (sym (add-zero n))
        ∙ ap (λ (vs : List FirmWrite). capped (n + length vs)) (sym (reached_none c w ws e));
    state = subst (λ (b : Bool). IsStill b (all_put c (w ∷ ws)) z) (sym (are_none c w ws e))
        (subst (λ (k : SenderView). k.state ≡ Suspended k.sent) (sym same) (state ∙ ap Suspended (sym count)));
  }

  reach_by : (r : Result (Unit {0}) Failed) (b : Bool) → next_fails c ≡ b → IsSent s w.0 w.1 r l →
      IsByPlan c s.link.far r l.link.far l.link.calls → SendsAll l ws z →
      (l.state ≡ Level → l.link.calls ≡ Some (one_put c) → l.link.far ≡ Some (set f w.0 w.1) → l.sent ≡ capped (n + 1) →
      Reaches (one_put c) ws (set f w.0 w.1) (n + 1) z) → Reaches c (w ∷ ws) f n z
  reach_by (Ok y) true e h plan rest more = absurd (true≢false (plan.fails ∙ ap not e))
  reach_by (Ok y) false e h plan rest more =
      one_reached e
      (more (h.state ∙ is) plan.calls_behind (h.put.far ∙ ap (with_put w.0 w.1) told)
      (h.sent ∙ ap (λ (m : MirrorState). counted_at m s.sent) is ∙ capped_more s.sent n sent))
  reach_by (Err x) true e h plan rest more =
      none_reached e (suspended_same rest (ap is_suspended h.state)) plan.kept h.sent h.state
  reach_by (Err x) false e h plan rest more = absurd (true≢false (sym (plan.fails ∙ ap not e)))

level_reaches : {s z : SenderView} {ws : List FirmWrite} (c : PutCalls) (f : List Track) (n : ℕ) → SendsAll s ws z → s.state ≡ Level →
    s.link.calls ≡ Some c → s.link.far ≡ Some f → s.sent ≡ capped n → Reaches c ws f n z
level_reaches c f n sends_none is calls told sent = record { far = told; sent = sent ∙ ap capped (sym (add-zero n)); state = (is, calls) }
level_reaches c f n (sends_next {s = s} {l = l} {z = z} {w = w} {ws = ws} h rest) is calls told sent =
    let sends : Sends s w.0 w.1 l = subst (λ (m : MirrorState). SendsIf (is_put m w.0) s w.0 w.1 l) is h in
    let plan : IsByPlan c s.link.far sends.result l.link.far l.link.calls =
    subst (λ (o : Option PutCalls). GoesByPlan o s.link.far sends.result l.link.far l.link.calls) calls sends.is.put.calls in
    reach_by c s l z w ws f n is told sent sends.result (next_fails c) refl sends.is plan rest
    (λ still behind far count. level_reaches (one_put c) (set f w.0 w.1) (n + 1) rest still behind far count)

-- Behind others

all_put_more : (c : PutCalls) (fs ws : List FirmWrite) → all_put c (fs ++ ws) ≡ all_put (all_put c fs) ws
all_put_more c [] ws = refl
all_put_more c (w ∷ fs) ws = all_put_more (one_put c) fs ws

-- no put of them fails
record GoesFurther (c : PutCalls) (fs ws : List FirmWrite) : Type 0 where
  front : reached c fs ≡ fs
  list : reached c (fs ++ ws) ≡ fs ++ reached (all_put c fs) ws
  all : are_reached c (fs ++ ws) ≡ are_reached (all_put c fs) ws

further_by : (b : Bool) (c : PutCalls) (w : FirmWrite) (fs ws : List FirmWrite) → next_fails c ≡ b →
    (if b then false else are_reached (one_put c) fs) ≡ true → (are_reached (one_put c) fs ≡ true → GoesFurther (one_put c) fs ws) →
    GoesFurther c (w ∷ fs) ws
further_by true c w fs ws fails e more = absurd (true≢false (sym e))
further_by false c w fs ws fails e more =
    let go = more e in
    record {
      front = reached_on c w fs fails ∙ ap (λ (us : List FirmWrite). w ∷ us) go.front;
      list = reached_on c w (fs ++ ws) fails ∙ ap (λ (us : List FirmWrite). w ∷ us) go.list;
      all = are_on c w (fs ++ ws) fails ∙ go.all;
    }

further : (c : PutCalls) (fs ws : List FirmWrite) → are_reached c fs ≡ true → GoesFurther c fs ws
further c [] ws e = record { front = refl; list = refl; all = refl }
further c (w ∷ fs) ws e = further_by (next_fails c) c w fs ws refl e (λ rest. further (one_put c) fs ws rest)

-- the put of one fails
record StaysThere (c : PutCalls) (fs ws : List FirmWrite) : Type 0 where
  list : reached c (fs ++ ws) ≡ reached c fs
  all : are_reached c (fs ++ ws) ≡ false

there_by : (b : Bool) (c : PutCalls) (w : FirmWrite) (fs ws : List FirmWrite) → next_fails c ≡ b →
    (if b then false else are_reached (one_put c) fs) ≡ false → (are_reached (one_put c) fs ≡ false → StaysThere (one_put c) fs ws) →
    StaysThere c (w ∷ fs) ws
there_by true c w fs ws fails e more =
    record { list = reached_none c w (fs ++ ws) fails ∙ sym (reached_none c w fs fails); all = are_none c w (fs ++ ws) fails }
there_by false c w fs ws fails e more =
    let stays = more e in
    record {
      list = reached_on c w (fs ++ ws) fails ∙ ap (λ (us : List FirmWrite). w ∷ us) stays.list ∙ sym (reached_on c w fs fails);
      all = are_on c w (fs ++ ws) fails ∙ stays.all;
    }

there : (c : PutCalls) (fs ws : List FirmWrite) → are_reached c fs ≡ false → StaysThere c fs ws
there c [] ws e = absurd (true≢false e)
there c (w ∷ fs) ws e = there_by (next_fails c) c w fs ws refl e (λ rest. there (one_put c) fs ws rest)

module _ (s z : SenderView) (c : PutCalls) (fs ws : List FirmWrite) (start : List Track) (rest : SendsAll s ws z) (h : IsReached c fs start s) where
  all_reached : are_reached c fs ≡ true → IsStill true (all_put c fs) s → IsReached c (fs ++ ws) start z
  all_reached e still =
      let d : PutCalls = all_put c fs in
      let f = further c fs ws e in
      let go = level_reaches d (put_all fs start) (length fs) rest still.0 still.1
      (h.far ∙ ap (λ (us : List FirmWrite). Some (put_all us start)) f.front) (h.sent ∙ ap (λ (us : List FirmWrite). capped (length us)) f.front) in
      record {
        far = go.far
            ∙ ap Some (sym (put_all_more fs (reached d ws) start))
            ∙ ap (λ (us : List FirmWrite). Some (put_all us start)) (sym f.list);
        sent = go.sent ∙ ap capped (sym (length-append fs (reached d ws))) ∙ ap (λ (us : List FirmWrite). capped (length us)) (sym f.list);
        state = subst (λ (b : Bool). IsStill b (all_put c (fs ++ ws)) z) (sym f.all)
            (subst (λ (k : PutCalls). IsStill (are_reached d ws) k z) (sym (all_put_more c fs ws)) go.state);
      }

  some_failed : are_reached c fs ≡ false → s.state ≡ Suspended s.sent → IsReached c (fs ++ ws) start z
  some_failed e off =
      let t = there c fs ws e in
      subst (λ (k : SenderView). IsReached c (fs ++ ws) start k) (sym (suspended_same rest (ap is_suspended off)))
      (record {
        far = h.far ∙ ap (λ (us : List FirmWrite). Some (put_all us start)) (sym t.list);
        sent = h.sent ∙ ap (λ (us : List FirmWrite). capped (length us)) (sym t.list);
        state = subst (λ (b : Bool). IsStill b (all_put c (fs ++ ws)) s) (sym t.all) off;
      })

  reaches_by : (b : Bool) → are_reached c fs ≡ b → IsStill b (all_put c fs) s → IsReached c (fs ++ ws) start z
  reaches_by true e still = all_reached e still
  reaches_by false e off = some_failed e off

-- those before the first that fails are on the far volume, exactly
pub reaches : {s z : SenderView} {ws : List FirmWrite} (c : PutCalls) (fs : List FirmWrite) (start : List Track) → SendsAll s ws z →
    IsReached c fs start s → IsReached c (fs ++ ws) start z
reaches {s} {z} {ws} c fs start rest h = reaches_by s z c fs ws start rest h (are_reached c fs) refl h.state

-- A link of which one put fails

abbrev pub one_fails : ℕ → ℕ → PutCalls
one_fails done n = record { done = done; failing = n ∷ [] }

as_test : (b : Bool) → (if b then true else false) ≡ b
as_test true = refl
as_test false = refl

fails_where : (d n : ℕ) → next_fails (one_fails d n) ≡ (counted d == n)
unfolding L.is_in
fails_where d n = as_test (counted d == n)

counted_is : (d n : ℕ) → d < n → n < 2 ^ 32 → counted d ≡ d + 1
unfolding V.counted
counted_is d n lt small = omega arith

counted_past : (d n : ℕ) → n ≤ d → n < 2 ^ 32 → n < counted d
unfolding V.counted
counted_past d n le small = omega arith

-- it is still to come
reached_next : (k d n : ℕ) (ws : List FirmWrite) → n ≡ d + 1 + k → n < 2 ^ 32 → reached (one_fails d n) ws ≡ take k ws
reached_next k d n [] e small = sym (take-nil k)
reached_next zero d n (w ∷ ws) e small =
    let one : counted d ≡ d + 1 = counted_is d n (omega (arith, e)) small in
    reached_none (one_fails d n) w ws (fails_where d n ∙ eq-eqb (counted d) n (omega (arith, e, one)))
reached_next (suc k) d n (w ∷ ws) e small =
    let one : counted d ≡ d + 1 = counted_is d n (omega (arith, e)) small in
    reached_on (one_fails d n) w ws (fails_where d n ∙ ne_eqb (counted d) n (λ is. omega (arith, e, one, is)))
    ∙ ap (λ (us : List FirmWrite). w ∷ us) (reached_next k (counted d) n ws (omega (arith, e, one)) small)

-- it is past, or it never comes
reached_past : (d n : ℕ) (ws : List FirmWrite) → n ≤ d → n < 2 ^ 32 → reached (one_fails d n) ws ≡ ws
reached_past d n [] le small = refl
reached_past d n (w ∷ ws) le small =
    let past : n < counted d = counted_past d n le small in
    reached_on (one_fails d n) w ws (fails_where d n ∙ ne_eqb (counted d) n (λ is. omega (arith, past, is)))
    ∙ ap (λ (us : List FirmWrite). w ∷ us) (reached_past (counted d) n ws (omega (arith, past)) small)

pub reached_first : (n : ℕ) (ws : List FirmWrite) → n < 2 ^ 32 → reached (one_fails 0 n) ws ≡ (if n == 0 then ws else take (n - 1) ws)
reached_first zero ws small = reached_past 0 0 ws (omega arith) small
reached_first (suc k) ws small =
    let less : k ≡ suc k - 1 = omega arith in
    let later : (suc k == 0) ≡ false = ne_eqb (suc k) 0 (λ e. omega (arith, e)) in
    reached_next k 0 (suc k) ws (omega arith) small
    ∙ ap (λ (j : ℕ). take j ws) less
    ∙ ap (λ (b : Bool). if b then ws else take (suc k - 1) ws) (sym later)

-- and of which none does
pub none_fails : (d : ℕ) (ws : List FirmWrite) → reached (record { done = d; failing = [] }) ws ≡ ws
unfolding L.is_in
none_fails d [] = refl
none_fails d (w ∷ ws) = ap (λ (us : List FirmWrite). w ∷ us) (none_fails (counted d) ws)
