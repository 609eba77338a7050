-- A failed call leaves contents right, and does on marks what it does on contents.
use Rattle.std.proofs.Common.{
  ◌≡◌,
  ◌≢◌,
  ◌<◌,
  ◌≤◌,
  ◌==◌,
  zero,
  suc,
  ℕ,
  Bool,
  true,
  false,
  List,
  Option,
  Some,
  None,
  is_some,
  length,
  refl,
  sym,
  ap,
  subst,
  ◌∙◌,
  arith,
  ◌⊎◌,
  inl,
  inr,
}
use Rattle.std.proofs.lemmas.Bool.{cases_eq}
use Rattle.std.specs.Prelude.{option_map, if◌then◌else◌}
use Rattle.ckd_types.specs.declared.paths.Side.{Side}
use Rattle.ckd_types.specs.declared.paths.Side.TheVariants.{A, B}
use Rattle.ckd_types.specs.declared.record.Track.{Track}
use Rattle.track_cache.specs.declared.frames.Frame.{Frame}
use Rattle.device_outside.specs.After.{holds_of}
use Rattle.device_outside.specs.Both.{both_tell}
use Rattle.device_outside.specs.Interaction.{Done, Tell}
use Rattle.device_outside.specs.Keeper.{Firm}
use Rattle.device_outside.proofs.BothRules.{on_tests}
use Rattle.device_defs.specs.declared.owed.Owed.{Owed}
use Rattle.device_defs.specs.Contents.{contents, by_plain}
use Rattle.device_defs.specs.Losses as L
use Rattle.device_defs.specs.Losses.{down, settled, settled_but, side_lost, framed_image, firm_told, all_firm_told, call_failed}
use Rattle.device_defs.specs.Marks.{MarksStore, marks_of, frame_mark}
use Rattle.device_defs.specs.Sound.{DeviceStore}
use Rattle.device_defs.specs.Store.{tracks_of, side_of, frame_at, half_is, owed_at, with_owed}
use Rattle.device_laws.specs.Agrees.{Held, image_in, slot_at}
use Rattle.device_laws.specs.Twin.{Twins}
use Rattle.device_laws.proofs.ContentChanges.{base_of, Altered, altered_owed, same_tracks, same_slots, RightBut, similar_right}
use Rattle.device_laws.proofs.TrackContents as T
use Rattle.device_laws.proofs.TrackContents.{TrackContents, contents_at, HeldBy, right_fewer, held_of, keeps_other}
use Rattle.device_laws.proofs.TwinChanges.{down_twin, frame_twin, owed_twin, with_owed_twin}
use Rattle.device_laws.proofs.TwinSettled.{Owes, Debts, debts_altered, AllTold, Settles, settled_pair}
use Rattle.device_laws.proofs.TwinWalks.{Pair, pair_is, pair_over, pair_weaker, twin_done, twin_ends, twin_then, twin_weaker}

-- A side that is down

down_slots : (s : DeviceStore) (side : Side) (kept : Bool) (q : ℕ) → slot_at (down s side) kept q ≡ slot_at s kept q
down_slots s A true q = refl
down_slots s A false q = refl
down_slots s B true q = refl
down_slots s B false q = refl

down_right : (writing : Option ℕ) (v w : List Track) (s : DeviceStore) (h : Held) (side : Side) → RightBut writing v w s h →
    RightBut writing v w (down s side) h
unfolding T.contents_at
down_right writing v w s h A b = record {
  ground = record {
    sizes = record { are = b.ground.sizes.are };
    plain = b.ground.plain;
    firm = b.ground.firm;
    same = b.ground.same;
    apart = b.ground.apart;
    patches = b.ground.patches;
    long = long;
    slots = same_slots s (down s A) h.slots (down_slots s A) b.ground.slots;
  };
  right = λ q lt ne. right_fewer s.geometry q s.half (contents_at s h q) (contents_at (down s A) h q) (image_in s v q) (image_in s w q)
      (record { lost = λ l. l; frame = λ i k. k; patch = refl; a = λ l. absurd (cc); b = λ l. (l, refl) }) (b.right q lt ne);
}
  where
    long : (side : Side) → (side_of (down s A) side).up ≡ true → length (holds_of h side) ≡ tracks_of s
    long A up = absurd (cc)
    long B up = b.ground.long B up
down_right writing v w s h B b = record {
  ground = record {
    sizes = record { are = b.ground.sizes.are };
    plain = b.ground.plain;
    firm = b.ground.firm;
    same = b.ground.same;
    apart = b.ground.apart;
    patches = b.ground.patches;
    long = long;
    slots = same_slots s (down s B) h.slots (down_slots s B) b.ground.slots;
  };
  right = λ q lt ne. right_fewer s.geometry q s.half (contents_at s h q) (contents_at (down s B) h q) (image_in s v q) (image_in s w q)
      (record { lost = λ l. l; frame = λ i k. k; patch = refl; a = λ l. (l, refl); b = λ l. absurd (cc) }) (b.right q lt ne);
}
  where
    long : (side : Side) → (side_of (down s B) side).up ≡ true → length (holds_of h side) ≡ tracks_of s
    long A up = b.ground.long A up
    long B up = absurd (cc)

pub down_tracks : (s : DeviceStore) (side : Side) → tracks_of (down s side) ≡ tracks_of s
down_tracks s A = refl
down_tracks s B = refl

down_debt : (s : DeviceStore) (h : Held) (side : Side) (q : ℕ) → (contents_at (down s side) h q).debt ≡ (contents_at s h q).debt
unfolding T.contents_at
down_debt s h A q = refl
down_debt s h B q = refl

-- The loss of a side

pub settles_on : (writing : Option ℕ) (h : Held) (u v w v' w' : List Track) (s z y : DeviceStore) → Settles writing h u s v w z →
    Settles writing h v z v' w' y → Settles writing h u s v' w' y
settles_on writing h u v w v' w' s z y f g = record {
  but = g.but;
  debts = g.debts;
  base = g.base ∙ f.base;
  plain = g.plain ∙ f.plain;
  own = λ t e. g.own t e ∙ f.own t e;
}

module _ (h : Held) (u : List Track) (s : DeviceStore) where
  unless_pair : (t n : ℕ) (v w : List Track) (z : DeviceStore) (b : Bool) → (n == t) ≡ b → n < tracks_of s → Settles (Some t) h u s v w z →
      Pair (Settles (Some t) h u s) (if b then z else settled contents z n) (if b then marks_of v w z else settled by_plain (marks_of v w z) n)
  unless_pair t n v w z true e lt x = pair_is x
  unless_pair t n v w z false e lt x =
      pair_weaker
      (settled_pair (Some t) h v w z n (let same = same_tracks s h z h x.base in omega arith) x.but x.debts (differs e))
      (λ v' w' g. settles_on (Some t) h u v w v' w' s z (settled contents z n) x g)
    where
      differs : (n == t) ≡ false → Some t ≢ Some n
      differs e same = absurd (let is : t ≡ n = cc in grind arith)

  settled_step : (writing : Option ℕ) (v w : List Track) (z : DeviceStore) (n : ℕ) → n < tracks_of s → Settles writing h u s v w z →
      Pair (Settles writing h u s) (settled_but contents writing n z) (settled_but by_plain writing n (marks_of v w z))
  settled_step None v w z n lt x =
      pair_weaker
      (settled_pair None h v w z n (let same = same_tracks s h z h x.base in omega arith) x.but x.debts (λ e. absurd (cc)))
      (λ v' w' g. settles_on None h u v w v' w' s z (settled contents z n) x g)
  settled_step (Some t) v w z n lt x = unless_pair t n v w z (n == t) refl lt x

pub side_pair : (writing : Option ℕ) (h : Held) (v w : List Track) (s : DeviceStore) (side : Side) → RightBut writing v w s h → AllTold s h →
    Pair (Settles writing h v (down s side)) (side_lost contents s side writing) (side_lost by_plain (marks_of v w s) side writing)
unfolding L.side_lost
side_pair writing h v w s side b told =
    let z = down s side in
    rw (← (down_twin v w s side)) (pair_over (tracks_of s) (settled_but contents writing) (settled_but by_plain writing)
    (λ x y k n lt i. settled_step h v z writing x y k n (let same = down_tracks s side in omega arith) i) v w z (tracks_of s) (omega arith)
    (record {
      but = down_right writing v w s h side b;
      debts = record { owes = λ q e. absurd (let f = told q in let g = down_debt s h side q in cc) };
      base = refl;
      plain = refl;
      own = λ t e. refl;
    }))
  where
    over_tracks : DeviceStore → DeviceStore → DeviceStore
    over_tracks s z = L.over (tracks_of s) (settled_but contents writing) z

    marks_over : DeviceStore → MarksStore → MarksStore
    marks_over s m = L.over (tracks_of s) (settled_but by_plain writing) m

-- The keeper is told

-- behind the telling of the first n tracks
pub record Tells (writing : Option ℕ) (h : Held) (u : List Track) (s : DeviceStore) (n : ℕ) (v w : List Track) (z : DeviceStore) (k : Held) : Type 0 where
  pub but : RightBut writing v w z k
  pub debts : Debts writing z k
  pub base : base_of z k ≡ base_of s h
  pub plain : v ≡ u
  pub own : (t : ℕ) → writing ≡ Some t → contents_at z k t ≡ contents_at s h t
  pub told : (q : ℕ) → q < n → (contents_at z k q).debt ≡ false

-- one more
module _ (writing : Option ℕ) (h : Held) (u : List Track) (s : DeviceStore) (n : ℕ) (v w : List Track) (z : DeviceStore) (k : Held)
    (x : Tells writing h u s n v w z k) where
  abbrev y : TrackContents
  y = contents_at z k n

  abbrev paid : DeviceStore
  paid = with_owed z n (record (owed_at z n) { firm = false })

  told_more : (q : ℕ) → q < suc n → ((q ≡ n) ⊎ (q ≢ n)) → (contents_at z k n).debt ≡ false → (contents_at z k q).debt ≡ false
  told_more q lt (inl at) e = subst (λ (p : ℕ). (contents_at z k p).debt ≡ false) (sym at) e
  told_more q lt (inr ne) e = x.told q (omega arith)

  debt_is : (owed_at z n).firm ≡ y.debt
  unfolding T.contents_at
  debt_is = refl

  untold : (owed_at z n).firm ≡ false → Tells writing h u s (suc n) v w z k
  untold e = record {
    but = x.but;
    debts = x.debts;
    base = x.base;
    plain = x.plain;
    own = x.own;
    told = λ q lt. told_more q lt (cases_eq q n) (sym debt_is ∙ e);
  }

  module _ (owes : (owed_at z n).firm ≡ true) where
    debt : Owes writing z n y
    debt = x.debts.owes n (sym debt_is ∙ owes)

    paid_altered : Altered z k paid k n (record y { debt = false })
    unfolding T.contents_at
    paid_altered = altered_owed z k n debt.below x.but.ground.sizes (record (owed_at z n) { firm = false })

    paid_told : (q : ℕ) → q < suc n → ((q ≡ n) ⊎ (q ≢ n)) → (contents_at paid k q).debt ≡ false
    paid_told q lt (inl at) =
        subst (λ (p : ℕ). (contents_at paid k p).debt ≡ false) (sym at) (ap (λ (c : TrackContents). c.debt) paid_altered.here)
    paid_told q lt (inr ne) = ap (λ (c : TrackContents). c.debt) (paid_altered.elsewhere q ne) ∙ x.told q (omega arith)

    paid_tells : Tells writing h u s (suc n) v w paid k
    paid_tells = let e = paid_altered in record {
      but = similar_right x.but e debt.below (record { loose = refl; patch = refl; freed = refl }) refl
          (λ ne. right_fewer z.geometry n z.half y (record y { debt = false }) (image_in z v n) (image_in z w n)
          (record { lost = λ l. l; frame = λ i f. f; patch = refl; a = λ l. (l, refl); b = λ l. (l, refl) }));
      debts = debts_altered writing z k paid k n (record y { debt = false }) x.debts e (λ l. absurd (cc));
      base = e.base ∙ x.base;
      plain = x.plain;
      own = λ t f. e.elsewhere t (λ at. debt.still (f ∙ ap Some at)) ∙ x.own t f;
      told = λ q lt. paid_told q lt (cases_eq q n);
    }

    paid_twin : marks_of v w paid ≡ with_owed (marks_of v w z) n (record (owed_at (marks_of v w z) n) { firm = false })
    paid_twin =
        with_owed_twin v w z n (record (owed_at z n) { firm = false })
        ∙ ap (λ (o : Owed). with_owed (marks_of v w z) n (record o { firm = false })) (sym (owed_twin v w z n))

    -- what it is told is the plain track
    frame_said : (o : Option Frame) → (contents_at z k n).frame ≡ o → is_some o ≡ true → HeldBy z.geometry n y (image_in z v n) (image_in z w n) z.half →
        half_is z.half n ≡ false → framed_image contents z n o ≡ framed_image by_plain (marks_of v w z) n (option_map frame_mark o)
    frame_said None e some held off = absurd (cc)
    frame_said (Some f) e some held off = kept_frame z.half held off
      where
        kept_frame : (half : Option _) → HeldBy z.geometry n y (image_in z v n) (image_in z w n) half → half_is half n ≡ false → f.image ≡ image_in z v n
        kept_frame None held off = held.frame f e
        kept_frame (Some i) held off = (keeps_other z.geometry n i y (image_in z v n) (image_in z w n) off held).frame f e

    frame_here : frame_at z n ≡ y.frame
    unfolding T.contents_at
    frame_here = refl

    said : framed_image contents z n (frame_at z n) ≡ framed_image by_plain (marks_of v w z) n (frame_at (marks_of v w z) n)
    said =
        frame_said (frame_at z n) (sym frame_here) (ap is_some frame_here ∙ debt.frame)
        (held_of z.geometry n z.half y (image_in z v n) (image_in z w n) debt.lost (x.but.right n debt.below debt.still)) debt.half
        ∙ ap (framed_image by_plain (marks_of v w z) n) (sym (frame_twin v w z n))

    told_twins : Twins (λ v' w' a _ _ c. Tells writing h u s (suc n) v' w' a c)
        (Tell (Firm z.device n (framed_image contents z n (frame_at z n))) (λ _. Done paid (tt {0})))
        (Tell (Firm z.device n (framed_image by_plain (marks_of v w z) n (frame_at (marks_of v w z) n)))
        (λ _. Done (with_owed (marks_of v w z) n (record (owed_at (marks_of v w z) n) { firm = false })) (tt {0}))) k
    told_twins = rw (← said) (both_tell (λ r. twin_ends paid_twin paid_tells))

  one_told : Twins (λ v' w' a _ _ c. Tells writing h u s (suc n) v' w' a c) (firm_told contents n z) (firm_told by_plain n (marks_of v w z)) k
  one_told =
      on_tests (owed_at z n).firm (owed_at (marks_of v w z) n).firm (ap (λ (o : Owed). o.firm) (owed_twin v w z n))
      (λ e. told_twins e) (λ e. twin_done (untold e))

told_all : (writing : Option ℕ) (h : Held) (u w : List Track) (s : DeviceStore) (n : ℕ) → RightBut writing u w s h → Debts writing s h →
    Twins (λ v' w' a _ _ c. Tells writing h u s n v' w' a c) (all_firm_told contents n s) (all_firm_told by_plain n (marks_of u w s)) h
unfolding L.all_firm_told
told_all writing h u w s zero b d =
    twin_done (record { but = b; debts = d; base = refl; plain = refl; own = λ t e. refl; told = λ q lt. absurd (omega arith) })
told_all writing h u w s (suc n) b d =
    twin_then _ _ (told_all writing h u w s n b d)
    (λ v' w' z _ _ k x. one_told writing h u s n v' w' z k x)

-- A failed call

abbrev pub fell : Bool → DeviceStore → Side → DeviceStore
fell paired s side = if paired then down s side else s

-- what it leaves
pub record Failed (writing : Option ℕ) (h : Held) (u : List Track) (y : DeviceStore) (v w : List Track) (z : DeviceStore) (k : Held) : Type 0 where
  pub but : RightBut writing v w z k
  pub told : AllTold z k
  pub base : base_of z k ≡ base_of y h
  pub plain : v ≡ u
  pub own : (t : ℕ) → writing ≡ Some t → contents_at z k t ≡ contents_at y h t

all_told : (writing : Option ℕ) (z : DeviceStore) (k : Held) (n : ℕ) → tracks_of z ≤ n → Debts writing z k →
    ((q : ℕ) → q < n → (contents_at z k q).debt ≡ false) → AllTold z k
all_told writing z k n le d told q = by_debt (contents_at z k q).debt refl
  where
    by_debt : (b : Bool) → (contents_at z k q).debt ≡ b → b ≡ false
    by_debt true e = sym e ∙ told q (let lt = (d.owes q e).below in omega arith)
    by_debt false e = refl

pub told_twin : (writing : Option ℕ) (h : Held) (u v w : List Track) (s y : DeviceStore) (n : ℕ) → tracks_of s ≤ n → Settles writing h u y v w s →
    Twins (λ v' w' z _ _ k. Failed writing h u y v' w' z k) (all_firm_told contents n s) (all_firm_told by_plain n (marks_of v w s)) h
told_twin writing h u v w s y n le x =
    twin_weaker (told_all writing h v w s n x.but x.debts)
    (λ v' w' z _ _ k f. record {
      but = f.but;
      told = all_told writing z k n (let same = same_tracks s h z k f.base in omega arith) f.debts f.told;
      base = f.base ∙ x.base;
      plain = f.plain ∙ x.plain;
      own = λ t e. f.own t e ∙ x.own t e;
    })

failed_by : (writing : Option ℕ) (h : Held) (v w : List Track) (s : DeviceStore) (side : Side) (paired : Bool) → RightBut writing v w s h → AllTold s h →
    Twins (λ v' w' z _ _ k. Failed writing h v (fell paired s side) v' w' z k)
    (if paired then all_firm_told contents (tracks_of s) (side_lost contents s side writing) else Done s (tt {0}))
    (if paired then all_firm_told by_plain (tracks_of s) (side_lost by_plain (marks_of v w s) side writing) else Done (marks_of v w s) (tt {0})) h
failed_by writing h v w s side true b told =
    let x = side_pair writing h v w s side b told in
    let z = side_lost contents s side writing in
    rw (← x.marks) (told_twin writing h v x.plain x.firm z (down s side) (tracks_of s)
    (let same = same_tracks (down s side) h z h x.is.base in let still = down_tracks s side in omega arith) x.is)
failed_by writing h v w s side false b told =
    twin_done (record { but = b; told = told; base = refl; plain = refl; own = λ t e. refl })

-- all stays right behind it, and a track that is being written is as it was, but for the side that failed
pub failed_twin : (writing : Option ℕ) (h : Held) (v w : List Track) (s : DeviceStore) (side : Side) → RightBut writing v w s h → AllTold s h →
    Twins (λ v' w' z _ _ k. Failed writing h v (fell s.paired s side) v' w' z k)
    (call_failed contents s side writing) (call_failed by_plain (marks_of v w s) side writing) h
failed_twin writing h v w s side b told = failed_by writing h v w s side s.paired b told
