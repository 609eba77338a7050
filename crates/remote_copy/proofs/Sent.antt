-- What the firm writes that a sender is told make of the far volume and of its state.
use Rattle.std.proofs.Common.{
  ◌≡◌,
  ◌≢◌,
  ◌≤◌,
  ◌<◌,
  ◌∙◌,
  ◌+◌,
  ◌⊎◌,
  inl,
  inr,
  ℕ,
  zero,
  suc,
  Bool,
  true,
  false,
  List,
  [],
  ◌∷◌,
  ◌++◌,
  length,
  length-append,
  length-set,
  take,
  get_or,
  set,
  get_or-set_same,
  get_or-set_other,
  Option,
  Some,
  None,
  IfSome,
  option_map,
  Result,
  Ok,
  Err,
  refl,
  sym,
  ap,
  subst,
  add-zero,
  arith,
}
use Rattle.std.specs.Prelude.{nat_lt}
use Rattle.std.proofs.lemmas.Bool.{cases_eq, cases_lt, ltb-false}
use Rattle.std.proofs.lemmas.List.{set_past, take-append-le}
use Rattle.std.proofs.Math.Seq.{take-append-add}
use Rattle.ckd_types.specs.declared.record.Track.{Track}
use Rattle.ckd_types.specs.Track.{empty_track}
use Rattle.ckd_types.specs.Volume.{track_in}
use Rattle.ckd_outside.specs.declared.faults.Failed.{Failed}
use Rattle.ckd_outside.specs.Causes.{Rose}
use Rattle.device_outside.specs.Volume as V
use Rattle.device_outside.specs.Volume.{counted}
use Rattle.remote_copy.specs.declared.state.MirrorState.{MirrorState}
use Rattle.remote_copy.specs.declared.state.MirrorState.TheVariants.{Level, Suspended, Copying}
use Rattle.remote_copy.specs.Linking.{with_put}
use Rattle.firm_laws.specs.FirmWrites.{FirmWrite}
use Rattle.remote_copy.specs.Sending.{IsFront, IsLevelled, IsSent, SenderView, Sends, SendsIf, capped, counted_at, is_put, is_suspended, put_all}
use Rattle.remote_copy.proofs.Puttings.{SendsAll, sends_none, sends_next, far_size, put_all_more, stays}

-- Suspended

puts_none : (m : MirrorState) (t : ℕ) → is_suspended m ≡ true → is_put m t ≡ false
puts_none Level t e = absurd (cc)
puts_none (Suspended k) t e = refl
puts_none (Copying b) t e = absurd (cc)

-- nothing is put from then on
pub suspended_same : {s z : SenderView} {ws : List FirmWrite} → SendsAll s ws z → is_suspended s.state ≡ true → z ≡ s
suspended_same sends_none e = refl
suspended_same (sends_next {s = s} {l = l} {z = z} {w = w} h rest) e =
    let same : l ≡ s = subst (λ (b : Bool). SendsIf b s w.0 w.1 l) (puts_none s.state w.0 e) h in
    suspended_same rest (ap (λ (k : SenderView). is_suspended k.state) same ∙ e) ∙ same

rise_by : (r : Result (Unit {0}) Failed) (s l z : SenderView) (t : ℕ) (x : Track) → IsSent s t x r l → l.link.faults ≤ z.link.faults →
    (is_suspended l.state ≡ false → Rose l.link.faults z.link.faults) → is_suspended s.state ≡ false → Rose s.link.faults z.link.faults
rise_by (Ok y) s l z t x h later rest off =
    let rose : Rose l.link.faults z.link.faults = rest (ap is_suspended h.state ∙ off) in
    let first : s.link.faults ≤ l.link.faults = h.put.cause.later in
    omega arith
rise_by (Err e) s l z t x h later rest off =
    let rose : Rose s.link.faults l.link.faults = h.put.cause.failed in
    omega arith

rise_if : (b : Bool) (s l z : SenderView) (t : ℕ) (x : Track) → SendsIf b s t x l → l.link.faults ≤ z.link.faults →
    (is_suspended l.state ≡ false → Rose l.link.faults z.link.faults) → is_suspended s.state ≡ false → Rose s.link.faults z.link.faults
rise_if true s l z t x h later rest off = rise_by h.result s l z t x h.is later rest off
rise_if false s l z t x same later rest off =
    subst (λ (k : SenderView). Rose k.link.faults z.link.faults) same (rest (ap (λ (k : SenderView). is_suspended k.state) same ∙ off))

-- it is suspended only where the link's count rose
pub rises : {s z : SenderView} {ws : List FirmWrite} → SendsAll s ws z → is_suspended s.state ≡ false → is_suspended z.state ≡ true →
    Rose s.link.faults z.link.faults
rises sends_none off on = absurd (cc)
rises (sends_next {s = s} {l = l} {z = z} {w = w} h rest) off on =
    rise_if (is_put s.state w.0) s l z w.0 w.1 h (stays rest).faults (λ still. rises rest still on) off

-- Counts

pub capped_more : (k n : ℕ) → k ≡ capped n → counted k ≡ capped (n + 1)
unfolding V.counted
capped_more k n e = omega arith

-- Level

-- the far volume, where told, with all of these put in
abbrev pub put_far : List FirmWrite → Option (List Track) → Option (List Track)
put_far ws far = option_map (λ (f : List Track). put_all ws f) far

no_put : (far : Option (List Track)) → far ≡ put_far [] far
no_put None = refl
no_put (Some f) = refl

first_put : (w : FirmWrite) (ws : List FirmWrite) (far : Option (List Track)) → put_far ws (with_put w.0 w.1 far) ≡ put_far (w ∷ ws) far
first_put w ws None = refl
first_put w ws (Some f) = refl

-- all of these were put
pub record PutsAll (ws : List FirmWrite) (s z : SenderView) : Type 0 where
  pub state : z.state ≡ Level
  pub far : z.link.far ≡ put_far ws s.link.far
  pub sent : (n : ℕ) → s.sent ≡ capped n → z.sent ≡ capped (n + length ws)

-- so many were put, and the put of the next one failed
pub record StopsAt (ws : List FirmWrite) (s z : SenderView) : Type 0 where
  pub count : ℕ
  pub below : count < length ws
  pub state : z.state ≡ Suspended z.sent
  pub sent : (n : ℕ) → s.sent ≡ capped n → z.sent ≡ capped (n + count)
  pub far : (z.link.far ≡ put_far (take count ws) s.link.far) ⊎ (z.link.far ≡ put_far (take (suc count) ws) s.link.far)

pub plus_one : (n m : ℕ) → n + 1 + m ≡ n + suc m
plus_one n m = omega arith

module _ (s l z : SenderView) (w : FirmWrite) (ws : List FirmWrite) where
  far_after : (c : ℕ) → l.link.far ≡ with_put w.0 w.1 s.link.far →
      (z.link.far ≡ put_far (take c ws) l.link.far) ⊎ (z.link.far ≡ put_far (take (suc c) ws) l.link.far) →
      (z.link.far ≡ put_far (take (suc c) (w ∷ ws)) s.link.far) ⊎ (z.link.far ≡ put_far (take (suc (suc c)) (w ∷ ws)) s.link.far)
  far_after c far (inl e) = inl (e ∙ ap (put_far (take c ws)) far ∙ first_put w (take c ws) s.link.far)
  far_after c far (inr e) = inr (e ∙ ap (put_far (take (suc c) ws)) far ∙ first_put w (take (suc c) ws) s.link.far)

  -- the first one was put
  one_more : l.link.far ≡ with_put w.0 w.1 s.link.far → ((n : ℕ) → s.sent ≡ capped n → l.sent ≡ capped (n + 1)) → PutsAll ws l z ⊎ StopsAt ws l z →
      PutsAll (w ∷ ws) s z ⊎ StopsAt (w ∷ ws) s z
  one_more far count (inl all) =
      inl (record {
        state = all.state;
        far = all.far ∙ ap (put_far ws) far ∙ first_put w ws s.link.far;
        sent = λ n e. all.sent (n + 1) (count n e) ∙ ap capped (plus_one n (length ws));
      })
  one_more far count (inr at) =
      inr (record {
        count = suc at.count;
        below = let lt : at.count < length ws = at.below in omega (arith, lt);
        state = at.state;
        sent = λ n e. at.sent (n + 1) (count n e) ∙ ap capped (plus_one n at.count);
        far = far_after at.count far at.far;
      })

  far_kept : z ≡ l → (l.link.far ≡ s.link.far) ⊎ (l.link.far ≡ with_put w.0 w.1 s.link.far) →
      (z.link.far ≡ put_far [] s.link.far) ⊎ (z.link.far ≡ put_far (w ∷ []) s.link.far)
  far_kept same (inl kept) = inl (ap (λ (k : SenderView). k.link.far) same ∙ kept ∙ no_put s.link.far)
  far_kept same (inr put) =
      inr (ap (λ (k : SenderView). k.link.far) same ∙ put ∙ no_put (with_put w.0 w.1 s.link.far) ∙ first_put w [] s.link.far)

  level_by : (r : Result (Unit {0}) Failed) → IsSent s w.0 w.1 r l → s.state ≡ Level → SendsAll l ws z →
      (l.state ≡ Level → PutsAll ws l z ⊎ StopsAt ws l z) → PutsAll (w ∷ ws) s z ⊎ StopsAt (w ∷ ws) s z
  level_by (Ok y) h is rest more =
      one_more h.put.far (λ n e. h.sent ∙ ap (λ (m : MirrorState). counted_at m s.sent) is ∙ capped_more s.sent n e) (more (h.state ∙ is))
  level_by (Err e) h is rest more =
      let same : z ≡ l = suspended_same rest (ap is_suspended h.state) in
      inr (record {
        count = zero;
        below = omega arith;
        state = subst (λ (k : SenderView). k.state ≡ Suspended k.sent) (sym same) (h.state ∙ ap Suspended (sym h.sent));
        sent = λ n was. ap (λ (k : SenderView). k.sent) same ∙ h.sent ∙ was ∙ ap capped (sym (add-zero n));
        far = far_kept same h.put.far;
      })

pub level : {s z : SenderView} {ws : List FirmWrite} → SendsAll s ws z → s.state ≡ Level → PutsAll ws s z ⊎ StopsAt ws s z
level (sends_none {s = s}) is = inl (record { state = is; far = no_put s.link.far; sent = λ n e. e ∙ ap capped (sym (add-zero n)) })
level (sends_next {s = s} {l = l} {z = z} {w = w} {ws = ws} h rest) is =
    let sends : Sends s w.0 w.1 l = subst (λ (m : MirrorState). SendsIf (is_put m w.0) s w.0 w.1 l) is h in
    level_by s l z w ws sends.result sends.is is rest (λ still. level rest still)

-- A front

-- with more firm writes
front_more : (k : ℕ) (fs ws : List FirmWrite) (start far : List Track) → IsFront k fs start far → IsFront k (fs ++ ws) start far
front_more k fs ws start far h =
    let lt : h.count < length fs = h.below in
    record {
      count = h.count;
      counted_as = h.counted_as;
      below = omega (arith, lt, length-append fs ws);
      is_put_in = front_put h.is_put_in (take-append-le h.count fs ws (omega (arith, lt))) (take-append-le (h.count + 1) fs ws (omega (arith, lt)));
    }
  where
    front_put : {xs ys us vs : List FirmWrite} → (far ≡ put_all xs start) ⊎ (far ≡ put_all ys start) → us ≡ xs → vs ≡ ys →
        (far ≡ put_all us start) ⊎ (far ≡ put_all vs start)
    front_put (inl e) first second = inl (e ∙ ap (λ (l : List FirmWrite). put_all l start) (sym first))
    front_put (inr e) first second = inr (e ∙ ap (λ (l : List FirmWrite). put_all l start) (sym second))

-- what is put of these is put behind those
put_behind : (fs ws : List FirmWrite) (start f far : List Track) (c d : ℕ) → f ≡ put_all fs start → far ≡ put_all (take c ws) f →
    d ≡ length fs + c → far ≡ put_all (take d (fs ++ ws)) start
put_behind fs ws start f far c d was now is =
    now
    ∙ ap (put_all (take c ws)) was
    ∙ sym (put_all_more fs (take c ws) start)
    ∙ ap (λ (us : List FirmWrite). put_all us start) (sym (take-append-add fs ws c))
    ∙ ap (λ (n : ℕ). put_all (take n (fs ++ ws)) start) (sym is)

-- The far volume, where told

abbrev pub LevelledAs : List FirmWrite → List Track → Option (List Track) → SenderView → Type 0
LevelledAs ws start far z = IfSome far (λ (f : List Track). IsLevelled ws start z.state z.sent f)

module _ (z : SenderView) (fs ws : List FirmWrite) (start f : List Track) where
  all_level : f ≡ put_all fs start → z.state ≡ Level → z.link.far ≡ Some (put_all ws f) → z.sent ≡ capped (length fs + length ws) →
      LevelledAs (fs ++ ws) start z.link.far z
  all_level was state far sent =
      let at : (put_all ws f ≡ put_all (fs ++ ws) start) × (z.sent ≡ capped (length (fs ++ ws))) =
      (ap (put_all ws) was ∙ sym (put_all_more fs ws start), sent ∙ ap capped (sym (length-append fs ws))) in
      subst (λ (o : Option (List Track)). LevelledAs (fs ++ ws) start o z) (sym far)
      (subst (λ (m : MirrorState). IsLevelled (fs ++ ws) start m z.sent (put_all ws f)) (sym state) at)

  front_level : (g : List Track) → z.state ≡ Suspended z.sent → z.link.far ≡ Some g → IsFront z.sent (fs ++ ws) start g →
      LevelledAs (fs ++ ws) start z.link.far z
  front_level g state far front =
      subst (λ (o : Option (List Track)). LevelledAs (fs ++ ws) start o z) (sym far)
      (subst (λ (m : MirrorState). IsLevelled (fs ++ ws) start m z.sent g) (sym state) front)

  stopped_level : (c : ℕ) → c < length ws → f ≡ put_all fs start → z.state ≡ Suspended z.sent → z.sent ≡ capped (length fs + c) →
      (z.link.far ≡ Some (put_all (take c ws) f)) ⊎ (z.link.far ≡ Some (put_all (take (suc c) ws) f)) → LevelledAs (fs ++ ws) start z.link.far z
  stopped_level c lt was state sent (inl far) =
      front_level (put_all (take c ws) f) state far (record {
        count = length fs + c;
        counted_as = sent;
        below = omega (arith, lt, length-append fs ws);
        is_put_in = inl (put_behind fs ws start f (put_all (take c ws) f) c (length fs + c) was refl refl);
      })
  stopped_level c lt was state sent (inr far) =
      front_level (put_all (take (suc c) ws) f) state far (record {
        count = length fs + c;
        counted_as = sent;
        below = omega (arith, lt, length-append fs ws);
        is_put_in = inr (put_behind fs ws start f (put_all (take (suc c) ws) f) (suc c) (length fs + c + 1) was refl (omega arith));
      })

pub none_stays : (far : Option (List Track)) → far_size far ≡ None → far ≡ None
none_stays None e = refl
none_stays (Some f) e = absurd (cc)

module _ (s z : SenderView) (fs ws : List FirmWrite) (start : List Track) (rest : SendsAll s ws z) where
  by_level : (f : List Track) → s.link.far ≡ Some f → s.state ≡ Level → f ≡ put_all fs start → s.sent ≡ capped (length fs) → PutsAll ws s z ⊎ StopsAt ws s z →
      LevelledAs (fs ++ ws) start z.link.far z
  by_level f told state was sent (inl all) =
      all_level z fs ws start f was all.state (all.far ∙ ap (put_far ws) told) (all.sent (length fs) sent)
  by_level f told state was sent (inr at) =
      stopped_level z fs ws start f at.count at.below was at.state (at.sent (length fs) sent) (told_so at.far)
    where
      told_so : (z.link.far ≡ put_far (take at.count ws) s.link.far) ⊎ (z.link.far ≡ put_far (take (suc at.count) ws) s.link.far) →
          (z.link.far ≡ Some (put_all (take at.count ws) f)) ⊎ (z.link.far ≡ Some (put_all (take (suc at.count) ws) f))
      told_so (inl e) = inl (e ∙ ap (put_far (take at.count ws)) told)
      told_so (inr e) = inr (e ∙ ap (put_far (take (suc at.count) ws)) told)

  by_state : (f : List Track) (m : MirrorState) → s.link.far ≡ Some f → s.state ≡ m → IsLevelled fs start m s.sent f → LevelledAs (fs ++ ws) start z.link.far z
  by_state f Level told state h = by_level f told state h.0 h.1 (level rest state)
  by_state f (Suspended k) told state h =
      subst (λ (y : SenderView). LevelledAs (fs ++ ws) start y.link.far y) (sym (suspended_same rest (ap is_suspended state)))
      (subst (λ (o : Option (List Track)). LevelledAs (fs ++ ws) start o s) (sym told)
      (subst (λ (m : MirrorState). IsLevelled (fs ++ ws) start m s.sent f) (sym state) (front_more k fs ws start f h)))
  by_state f (Copying b) told state h = absurd h

  by_far : (o : Option (List Track)) → s.link.far ≡ o → LevelledAs fs start o s → LevelledAs (fs ++ ws) start z.link.far z
  by_far None told h =
      subst (λ (o : Option (List Track)). LevelledAs (fs ++ ws) start o z)
      (sym (none_stays z.link.far ((stays rest).size ∙ ap far_size told))) tt
  by_far (Some f) told h = by_state f s.state told refl h

-- while level all firm writes since the beginning are on it, and suspended a front of them
pub levelled : {s z : SenderView} {ws : List FirmWrite} (fs : List FirmWrite) (start : List Track) → SendsAll s ws z → LevelledAs fs start s.link.far s →
    LevelledAs (fs ++ ws) start z.link.far z
levelled {s} {z} {ws} fs start rest h = by_far s z fs ws start rest s.link.far refl h

-- Copying

abbrev pub AreAlike : ℕ → List Track → List Track → Type 0
AreAlike b f g = (t : ℕ) → t < b → track_in f t ≡ track_in g t

set_alike_by : (f g : List Track) (t u : ℕ) (x d : Track) → length f ≡ length g → get_or f u d ≡ get_or g u d → (u ≡ t) ⊎ (u ≢ t) →
    (t < length f) ⊎ (length f ≤ t) → get_or (set f t x) u d ≡ get_or (set g t x) u d
set_alike_by f g t u x d size same (inr other) at = get_or-set_other f t u x d other ∙ same ∙ sym (get_or-set_other g t u x d other)
set_alike_by f g t u x d size same (inl is) (inl lt) =
    let there : t < length g = omega (arith, lt, size) in
    ap (λ (n : ℕ). get_or (set f t x) n d) is
    ∙ get_or-set_same f t x d lt
    ∙ sym (get_or-set_same g t x d there)
    ∙ ap (λ (n : ℕ). get_or (set g t x) n d) (sym is)
set_alike_by f g t u x d size same (inl is) (inr past) =
    let beyond : length g ≤ t = omega (arith, past, size) in
    ap (λ (v : List Track). get_or v u d) (set_past f t x past) ∙ same ∙ sym (ap (λ (v : List Track). get_or v u d) (set_past g t x beyond))

set_alike : (b : ℕ) (f g : List Track) (t : ℕ) (x : Track) → length f ≡ length g → AreAlike b f g → AreAlike b (set f t x) (set g t x)
set_alike b f g t x size alike u lt = set_alike_by f g t u x (empty_track u) size (alike u lt) (cases_eq u t) (cases_lt t (length f))

-- a track that isn't copied yet
above_alike : (b : ℕ) (f g : List Track) (t : ℕ) (x : Track) → b ≤ t → AreAlike b f g → AreAlike b f (set g t x)
above_alike b f g t x le alike u lt = alike u lt ∙ sym (get_or-set_other g t u x (empty_track u) (λ e. omega (arith, lt, le, e)))

-- the tracks below are still copied
pub record CopiesOn (b : ℕ) (ws : List FirmWrite) (g : List Track) (z : SenderView) : Type 0 where
  pub state : z.state ≡ Copying b
  pub far : List Track
  pub told : z.link.far ≡ Some far
  pub size : length far ≡ length g
  pub alike : AreAlike b far (put_all ws g)

module _ (b : ℕ) (s l z : SenderView) (w : FirmWrite) (ws : List FirmWrite) (f g : List Track) (is : s.state ≡ Copying b) (told : s.link.far ≡ Some f)
    (size : length f ≡ length g) (alike : AreAlike b f g) (rest : SendsAll l ws z)
    (more : (f' g' : List Track) → l.state ≡ Copying b → l.link.far ≡ Some f' → length f' ≡ length g' → AreAlike b f' g' →
    CopiesOn b ws g' z ⊎ (z.state ≡ Suspended l.sent)) where
  resized : (sent : ℕ) → l.sent ≡ sent → CopiesOn b ws (set g w.0 w.1) z ⊎ (z.state ≡ Suspended l.sent) → CopiesOn b (w ∷ ws) g z ⊎ (z.state ≡ Suspended sent)
  resized sent e (inl c) =
      inl (record { state = c.state; far = c.far; told = c.told; size = c.size ∙ length-set g w.0 w.1; alike = c.alike })
  resized sent e (inr state) = inr (state ∙ ap Suspended e)

  copy_by : (r : Result (Unit {0}) Failed) → IsSent s w.0 w.1 r l → CopiesOn b (w ∷ ws) g z ⊎ (z.state ≡ Suspended s.sent)
  copy_by (Ok y) h =
      resized s.sent (h.sent ∙ ap (λ (m : MirrorState). counted_at m s.sent) is)
      (more (set f w.0 w.1) (set g w.0 w.1) (h.state ∙ is) (h.put.far ∙ ap (with_put w.0 w.1) told)
      (length-set f w.0 w.1 ∙ size ∙ sym (length-set g w.0 w.1)) (set_alike b f g w.0 w.1 size alike))
  copy_by (Err e) h = inr (ap (λ (k : SenderView). k.state) (suspended_same rest (ap is_suspended h.state)) ∙ h.state)

  copy_if : (p : Bool) → nat_lt w.0 b ≡ p → SendsIf p s w.0 w.1 l → CopiesOn b (w ∷ ws) g z ⊎ (z.state ≡ Suspended s.sent)
  copy_if true below h = copy_by h.result h.is
  copy_if false above same =
      resized s.sent (ap (λ (k : SenderView). k.sent) same)
      (more f (set g w.0 w.1) (ap (λ (k : SenderView). k.state) same ∙ is) (ap (λ (k : SenderView). k.link.far) same ∙ told)
      (size ∙ sym (length-set g w.0 w.1)) (above_alike b f g w.0 w.1 (ltb-false w.0 b above) alike))

pub copying : {s z : SenderView} {ws : List FirmWrite} (b : ℕ) (f g : List Track) → SendsAll s ws z → s.state ≡ Copying b → s.link.far ≡ Some f →
    length f ≡ length g → AreAlike b f g → CopiesOn b ws g z ⊎ (z.state ≡ Suspended s.sent)
copying b f g sends_none is told size alike = inl (record { state = is; far = f; told = told; size = size; alike = alike })
copying b f g (sends_next {s = s} {l = l} {z = z} {w = w} {ws = ws} h rest) is told size alike =
    copy_if b s l z w ws f g is told size alike rest (λ f' g' still there long same. copying b f' g' rest still there long same) (nat_lt w.0 b) refl
    (subst (λ (m : MirrorState). SendsIf (is_put m w.0) s w.0 w.1 l) is h)

-- whether or not it is told
copying_by : (b : ℕ) (s l : SenderView) (t : ℕ) (x : Track) (r : Result (Unit {0}) Failed) → IsSent s t x r l → s.state ≡ Copying b →
    ((l.state ≡ Copying b) ⊎ (l.state ≡ Suspended s.sent)) × (l.sent ≡ s.sent)
copying_by b s l t x (Ok y) h is = (inl (h.state ∙ is), h.sent ∙ ap (λ (m : MirrorState). counted_at m s.sent) is)
copying_by b s l t x (Err e) h is = (inr h.state, h.sent)

copying_if : (b : ℕ) (s l : SenderView) (t : ℕ) (x : Track) (p : Bool) → SendsIf p s t x l → s.state ≡ Copying b →
    ((l.state ≡ Copying b) ⊎ (l.state ≡ Suspended s.sent)) × (l.sent ≡ s.sent)
copying_if b s l t x true h is = copying_by b s l t x h.result h.is is
copying_if b s l t x false same is = (inl (ap (λ (k : SenderView). k.state) same ∙ is), ap (λ (k : SenderView). k.sent) same)

module _ (b : ℕ) (s l z : SenderView) where
  still_copying : l.sent ≡ s.sent → (z.state ≡ Copying b) ⊎ (z.state ≡ Suspended l.sent) → (z.state ≡ Copying b) ⊎ (z.state ≡ Suspended s.sent)
  still_copying sent (inl e) = inl e
  still_copying sent (inr e) = inr (e ∙ ap Suspended sent)

  copying_more : (is_suspended l.state ≡ true → z ≡ l) → l.sent ≡ s.sent → (l.state ≡ Copying b) ⊎ (l.state ≡ Suspended s.sent) →
      (l.state ≡ Copying b → ((z.state ≡ Copying b) ⊎ (z.state ≡ Suspended l.sent)) × (z.sent ≡ l.sent)) →
      ((z.state ≡ Copying b) ⊎ (z.state ≡ Suspended s.sent)) × (z.sent ≡ s.sent)
  copying_more off sent (inl still) more =
      let go = more still in
      (still_copying sent go.0, go.1 ∙ sent)
  copying_more off sent (inr suspended) more =
      let same : z ≡ l = off (ap is_suspended suspended) in
      (inr (ap (λ (k : SenderView). k.state) same ∙ suspended), ap (λ (k : SenderView). k.sent) same ∙ sent)

pub copying_state : {s z : SenderView} {ws : List FirmWrite} (b : ℕ) → SendsAll s ws z → s.state ≡ Copying b →
    ((z.state ≡ Copying b) ⊎ (z.state ≡ Suspended s.sent)) × (z.sent ≡ s.sent)
copying_state b sends_none is = (inl is, refl)
copying_state b (sends_next {s = s} {l = l} {z = z} {w = w} {ws = ws} h rest) is =
    let one = copying_if b s l w.0 w.1 (is_put s.state w.0) h is in
    copying_more b s l z (λ off. suspended_same rest off) one.1 one.0 (λ still. copying_state b rest still)
