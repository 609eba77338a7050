-- What a run's device has of its plain volume, and what each change makes of it.
use Rattle.std.proofs.Common.{
  ◌≡◌,
  ◌*◌,
  ◌≢◌,
  ◌<◌,
  ◌≤◌,
  ◌==◌,
  ℕ,
  not,
  Bool,
  true,
  false,
  List,
  [],
  ◌∷◌,
  ◌++◌,
  Option,
  None,
  length,
  cond,
  set,
  get_or,
  refl,
  sym,
  ap,
  subst,
  ◌∙◌,
  arith,
  inl,
  inr,
}
use Rattle.std.specs.Prelude.{◌⊎◌}
use Rattle.std.proofs.lemmas.Bool.{cases_lt, eqb-true, eqb-false, eq-eqb, ne_eqb}
use Rattle.std.proofs.lemmas.List.{get_or-set_same, get_or-set_other, get_or_past, length-set}
use Rattle.ckd_types.specs.declared.geometry.Geometry.{Geometry}
use Rattle.ckd_types.specs.declared.record.Edit.{Edit}
use Rattle.ckd_types.specs.declared.record.Track.{Track}
use Rattle.ckd_types.specs.Edit.{apply_edit}
use Rattle.ckd_types.specs.Volume.{track_in}
use Rattle.plain_defs.specs.declared.journal.Act.{Act}
use Rattle.plain_defs.specs.declared.journal.Act.TheVariants.{Loosen, Harden}
use Rattle.plain_defs.specs.Legal.{AreActs}
use Rattle.plain_defs.specs.Loose.{is_loose_in, firm_in, without, act_done}
use Rattle.plain_defs.specs.PlainState.{LooseTrack, PlainState, PathsState}
use Rattle.plain_defs.specs.Program.{acts_done}
use Rattle.device_defs.specs.Marks.{MarksStore}
use Rattle.device_defs.specs.Store.{HalfWrite}
use Rattle.device_laws.proofs.OpenProgram.{acts_more}

-- what of a store is its plain device's, how many places it has, its open half write, to whom it is lent, and its number
pub record Core : Type 0 where
  pub geometry : Geometry
  pub cylinders : ℕ
  pub number : ℕ
  pub plain : List Track
  pub firm : List Track
  pub loose : List Bool
  pub acts : List Act
  pub frames : ℕ
  pub half : Option (HalfWrite (Unit {0}))
  pub lent : Option ℕ
  pub device : ℕ

abbrev pub core_of : MarksStore → Core
core_of s = record {
  geometry = s.geometry;
  cylinders = s.cylinders;
  number = s.number;
  plain = s.plain;
  firm = s.firm;
  loose = s.loose;
  acts = s.acts;
  frames = length s.frames;
  half = s.half;
  lent = s.lent;
  device = s.device;
}

abbrev pub loose_at : Core → ℕ → Bool
loose_at c t = get_or c.loose t false

-- a store of this plain device
pub record IsOf (p : PlainState) (c : Core) : Type 0 where
  pub geometry : p.geometry ≡ c.geometry
  pub cylinders : p.cylinders ≡ c.cylinders
  pub number : p.number ≡ c.number
  pub volume : p.volume ≡ c.plain
  pub loose : (t : ℕ) → is_loose_in p.loose t ≡ loose_at c t
  pub firm : (t : ℕ) → firm_in p.loose t (track_in p.volume t) ≡ track_in c.firm t
  pub firms : length c.firm ≡ length c.plain
  pub looses : length c.loose ≡ length c.plain
  pub tracks : length c.plain ≡ c.cylinders * 15

-- a place for each track
abbrev pub HasPlaces : Core → Type 0
HasPlaces c = c.frames ≡ length c.loose

-- the half write, the device that it is lent to, and its number
abbrev pub Open : Type 0
Open = Option (HalfWrite (Unit {0})) × (Option ℕ × ℕ)

abbrev pub open_of : Core → Open
open_of c = (c.half, (c.lent, c.device))

-- Loose tracks of the plain device

same_by : (b : Bool) (x : LooseTrack) (t : ℕ) (l : List LooseTrack) → (x.track == t) ≡ b → is_loose_in (without t l) t ≡ false
    → is_loose_in (cond (not b) (x ∷ without t l) (without t l)) t ≡ false
same_by true x t l e rest = rest
same_by false x t l e rest = ap (λ (b : Bool). cond b true (is_loose_in (without t l) t)) e ∙ rest

without_same : (t : ℕ) (l : List LooseTrack) → is_loose_in (without t l) t ≡ false
without_same t [] = refl
without_same t (x ∷ l) = same_by (x.track == t) x t l refl (without_same t l)

apart : (x t q : ℕ) → q ≢ t → (x == t) ≡ true → (x == q) ≡ false
apart x t q ne e = ne_eqb x q (λ s. ne (sym s ∙ eqb-true x t e))

other_by : (b : Bool) (x : LooseTrack) (t q : ℕ) (l : List LooseTrack) → q ≢ t → (x.track == t) ≡ b
    → is_loose_in (without t l) q ≡ is_loose_in l q
    → is_loose_in (cond (not b) (x ∷ without t l) (without t l)) q ≡ cond (x.track == q) true (is_loose_in l q)
other_by true x t q l ne e rest = rest ∙ sym (ap (λ (b : Bool). cond b true (is_loose_in l q)) (apart x.track t q ne e))
other_by false x t q l ne e rest = ap (λ (b : Bool). cond (x.track == q) true b) rest

without_other : (t q : ℕ) (l : List LooseTrack) → q ≢ t → is_loose_in (without t l) q ≡ is_loose_in l q
without_other t q [] ne = refl
without_other t q (x ∷ l) ne = other_by (x.track == t) x t q l ne refl (without_other t q l ne)

firm_by_test : (b : Bool) (x : LooseTrack) (t q : ℕ) (y : Track) (l : List LooseTrack) → q ≢ t → (x.track == t) ≡ b
    → firm_in (without t l) q y ≡ firm_in l q y
    → firm_in (cond (not b) (x ∷ without t l) (without t l)) q y ≡ cond (x.track == q) x.firm (firm_in l q y)
firm_by_test true x t q y l ne e rest = rest ∙ sym (ap (λ (b : Bool). cond b x.firm (firm_in l q y)) (apart x.track t q ne e))
firm_by_test false x t q y l ne e rest = ap (λ (z : Track). cond (x.track == q) x.firm z) rest

firm_other : (t q : ℕ) (y : Track) (l : List LooseTrack) → q ≢ t → firm_in (without t l) q y ≡ firm_in l q y
firm_other t q y [] ne = refl
firm_other t q y (x ∷ l) ne = firm_by_test (x.track == t) x t q y l ne refl (firm_other t q y l ne)

-- a track that isn't loose is firm as it is
not_by : (b : Bool) (x f y : Track) (r : Bool) → cond b true r ≡ false → (r ≡ false → f ≡ y) → cond b x f ≡ y
not_by true x f y r e rest = absurd (cc)
not_by false x f y r e rest = rest e

pub not_loose : (l : List LooseTrack) (t : ℕ) (y : Track) → is_loose_in l t ≡ false → firm_in l t y ≡ y
not_loose [] t y e = refl
not_loose (x ∷ l) t y e = not_by (x.track == t) x.firm (firm_in l t y) y (is_loose_in l t) e (not_loose l t y)

-- a loose one whatever it is
any_by : (b : Bool) (x f h : Track) (r : Bool) → cond b true r ≡ true → (r ≡ true → f ≡ h) → cond b x f ≡ cond b x h
any_by true x f h r e rest = refl
any_by false x f h r e rest = rest e

any_loose : (l : List LooseTrack) (t : ℕ) (y z : Track) → is_loose_in l t ≡ true → firm_in l t y ≡ firm_in l t z
any_loose [] t y z e = absurd (cc)
any_loose (x ∷ l) t y z e = any_by (x.track == t) x.firm (firm_in l t y) (firm_in l t z) (is_loose_in l t) e (any_loose l t y z)

as_is : (b : Bool) → cond b true false ≡ b
as_is true = refl
as_is false = refl

either_way : (b c d : Bool) → cond b true (cond c true d) ≡ cond (cond b true c) true d
either_way true c d = refl
either_way false c d = refl

loose_more : (l : List LooseTrack) (x : LooseTrack) (q : ℕ) → is_loose_in (l ++ x ∷ []) q ≡ cond (is_loose_in l q) true (x.track == q)
loose_more [] x q = as_is (x.track == q)
loose_more (y ∷ l) x q =
    ap (λ (b : Bool). cond (y.track == q) true b) (loose_more l x q) ∙ either_way (y.track == q) (is_loose_in l q) (x.track == q)

firm_more : (l : List LooseTrack) (x : LooseTrack) (q : ℕ) (z : Track) → is_loose_in l q ≡ true → firm_in (l ++ x ∷ []) q z ≡ firm_in l q z
firm_more [] x q z e = absurd (cc)
firm_more (y ∷ l) x q z e =
    any_by (y.track == q) y.firm (firm_in (l ++ x ∷ []) q z) (firm_in l q z) (is_loose_in l q) e (firm_more l x q z)

firm_last : (l : List LooseTrack) (x : LooseTrack) (q : ℕ) (z : Track) → is_loose_in l q ≡ false
    → firm_in (l ++ x ∷ []) q z ≡ cond (x.track == q) x.firm z
firm_last [] x q z e = refl
firm_last (y ∷ l) x q z e =
    not_by (y.track == q) y.firm (firm_in (l ++ x ∷ []) q z) (cond (x.track == q) x.firm z) (is_loose_in l q) e (firm_last l x q z)

-- Places of lists

same_or_other : (q t : ℕ) → (q ≡ t) ⊎ (q ≢ t)
same_or_other q t = by_test (q == t) refl where
  by_test : (b : Bool) → (q == t) ≡ b → (q ≡ t) ⊎ (q ≢ t)
  by_test true e = inl (eqb-true q t e)
  by_test false e = inr (eqb-false q t e)

-- of lists that are as long, the same is put in both
put_both : {X : Type 0} (l k : List X) (t : ℕ) (x d : X) → length l ≡ length k → get_or (set l t x) t d ≡ get_or (set k t x) t d
put_both l k t x d e = by_place (cases_lt t (length l)) where
  by_place : (t < length l) ⊎ (length l ≤ t) → get_or (set l t x) t d ≡ get_or (set k t x) t d
  by_place (inl lt) = get_or-set_same l t x d lt ∙ sym (get_or-set_same k t x d (omega (arith, lt, e)))
  by_place (inr le) =
      let a = length-set l t x in
      let b = length-set k t x in
      get_or_past (set l t x) t d (omega (arith, a, le)) ∙ sym (get_or_past (set k t x) t d (omega (arith, b, le, e)))

pub put_false : (l : List Bool) (t : ℕ) → get_or (set l t false) t false ≡ false
put_false l t = by_place (cases_lt t (length l)) where
  by_place : (t < length l) ⊎ (length l ≤ t) → get_or (set l t false) t false ≡ false
  by_place (inl lt) = get_or-set_same l t false false lt
  by_place (inr le) = let a = length-set l t false in get_or_past (set l t false) t false (omega (arith, a, le))

-- another one stays so
pub put_keeps : (l : List Bool) (t q : ℕ) → get_or l q false ≡ false → get_or (set l t false) q false ≡ false
put_keeps l t q e = by_same (same_or_other q t) where
  by_same : (q ≡ t) ⊎ (q ≢ t) → get_or (set l t false) q false ≡ false
  by_same (inl is) = subst (λ (k : ℕ). get_or (set l t false) k false ≡ false) (sym is) (put_false l t)
  by_same (inr ne) = get_or-set_other l t q false false ne ∙ e

true_inside : (l : List Bool) (t : ℕ) → get_or l t false ≡ true → t < length l
true_inside l t e = by_place (cases_lt t (length l)) where
  by_place : (t < length l) ⊎ (length l ≤ t) → t < length l
  by_place (inl lt) = lt
  by_place (inr le) = absurd (let f : false ≡ true = sym (get_or_past l t false le) ∙ e in cc)

-- Changes

abbrev pub put_track : List Track → ℕ → Edit → List Track
put_track v t e = set v t (apply_edit e (track_in v t))

abbrev pub edited : PlainState → ℕ → Edit → PlainState
edited p t e = record p { volume = put_track p.volume t e }

abbrev loose_now : PlainState → ℕ → LooseTrack
loose_now p t = record { track = t; firm = track_in p.volume t }

abbrev pub hardened_core : Core → ℕ → Core
hardened_core c t = record c {
  firm = set c.firm t (track_in c.plain t);
  loose = set c.loose t false;
  acts = c.acts ++ Harden t ∷ [];
}

abbrev pub loosened_core : Core → ℕ → Core
loosened_core c t = record c { loose = set c.loose t true; acts = c.acts ++ Loosen t ∷ [] }

abbrev pub edited_core : Core → ℕ → Edit → Core
edited_core c t e = record c { plain = put_track c.plain t e; firm = set c.firm t (apply_edit e (track_in c.plain t)) }

abbrev pub loosely_edited_core : Core → ℕ → Edit → Core
loosely_edited_core c t e = record c { plain = put_track c.plain t e }

module _ (p : PlainState) (c : Core) (of : IsOf p c) (t : ℕ) where
  inside : loose_at c t ≡ true → t < length c.firm
  inside is = let lt = true_inside c.loose t is in let a = of.firms in let b = of.looses in omega (arith, lt, a, b)

  -- it becomes firm
  pub of_hardened : loose_at c t ≡ true → IsOf (act_done p (Harden t)) (hardened_core c t)
  of_hardened is = record {
    geometry = of.geometry;
    cylinders = of.cylinders;
    number = of.number;
    volume = of.volume;
    loose = λ q. loose_by q (same_or_other q t);
    firm = λ q. firm_by q (same_or_other q t);
    firms = length-set c.firm t (track_in c.plain t) ∙ of.firms;
    looses = length-set c.loose t false ∙ of.looses;
    tracks = of.tracks;
  } where
    loose_by : (q : ℕ) → (q ≡ t) ⊎ (q ≢ t) → is_loose_in (without t p.loose) q ≡ get_or (set c.loose t false) q false
    loose_by q (inl e) = rw e (without_same t p.loose ∙ sym (put_false c.loose t))
    loose_by q (inr ne) = without_other t q p.loose ne ∙ of.loose q ∙ sym (get_or-set_other c.loose t q false false ne)

    firm_by : (q : ℕ) → (q ≡ t) ⊎ (q ≢ t)
        → firm_in (without t p.loose) q (track_in p.volume q) ≡ track_in (set c.firm t (track_in c.plain t)) q
    firm_by q (inl e) = rw e (not_loose (without t p.loose) t (track_in p.volume t) (without_same t p.loose)
        ∙ ap (λ (v : List Track). track_in v t) of.volume
        ∙ sym (get_or-set_same c.firm t (track_in c.plain t) _ (inside is)))
    firm_by q (inr ne) = firm_other t q (track_in p.volume q) p.loose ne ∙ of.firm q ∙ sym (get_or-set_other c.firm t q _ _ ne)

  -- it becomes loose
  pub of_loosened : loose_at c t ≡ false → t < length c.loose → IsOf (act_done p (Loosen t)) (loosened_core c t)
  of_loosened is lt = record {
    geometry = of.geometry;
    cylinders = of.cylinders;
    number = of.number;
    volume = of.volume;
    loose = λ q. loose_more p.loose (loose_now p t) q ∙ ap (λ (b : Bool). cond b true (t == q)) (of.loose q) ∙ loose_by q (same_or_other q t);
    firm = λ q. firm_by q (is_loose_in p.loose q) refl ∙ of.firm q;
    firms = of.firms;
    looses = length-set c.loose t true ∙ of.looses;
    tracks = of.tracks;
  } where
    loose_by : (q : ℕ) → (q ≡ t) ⊎ (q ≢ t) → cond (loose_at c q) true (t == q) ≡ get_or (set c.loose t true) q false
    loose_by q (inl e) = rw e (ap (λ (b : Bool). cond b true (t == t)) is ∙ eq-eqb t t refl ∙ sym (get_or-set_same c.loose t true false lt))
    loose_by q (inr ne) =
        ap (λ (b : Bool). cond (loose_at c q) true b) (ne_eqb t q (λ e. ne (sym e)))
        ∙ as_is (loose_at c q) ∙ sym (get_or-set_other c.loose t q true false ne)

    firm_by : (q : ℕ) (b : Bool) → is_loose_in p.loose q ≡ b
        → firm_in (p.loose ++ loose_now p t ∷ []) q (track_in p.volume q) ≡ firm_in p.loose q (track_in p.volume q)
    firm_by q true e = firm_more p.loose (loose_now p t) q (track_in p.volume q) e
    firm_by q false e = firm_last p.loose (loose_now p t) q (track_in p.volume q) e ∙ here (t == q) refl
        ∙ sym (not_loose p.loose q (track_in p.volume q) e) where
          here : (b : Bool) → (t == q) ≡ b → cond b (track_in p.volume t) (track_in p.volume q) ≡ track_in p.volume q
          here true same = ap (track_in p.volume) (eqb-true t q same)
          here false other = refl

  edited_volume : (e : Edit) → put_track p.volume t e ≡ put_track c.plain t e
  edited_volume e = ap (λ (v : List Track). put_track v t e) of.volume

  -- the edit of a track that isn't loose
  pub of_edited : loose_at c t ≡ false → (e : Edit) → IsOf (edited p t e) (edited_core c t e)
  of_edited is e = record {
    geometry = of.geometry;
    cylinders = of.cylinders;
    number = of.number;
    volume = edited_volume e;
    loose = of.loose;
    firm = λ q. firm_by q (same_or_other q t);
    firms =
        length-set c.firm t (apply_edit e (track_in c.plain t)) ∙ of.firms
        ∙ sym (length-set c.plain t (apply_edit e (track_in c.plain t)));
    looses = of.looses ∙ sym (length-set c.plain t (apply_edit e (track_in c.plain t)));
    tracks = length-set c.plain t (apply_edit e (track_in c.plain t)) ∙ of.tracks;
  } where
    firm_by : (q : ℕ) → (q ≡ t) ⊎ (q ≢ t) → firm_in p.loose q (track_in (put_track p.volume t e) q) ≡ track_in (set c.firm t (apply_edit e
        (track_in c.plain t))) q
    firm_by q (inl same) = rw same (not_loose p.loose t (track_in (put_track p.volume t e) t) (of.loose t ∙ is)
        ∙ ap (λ (v : List Track). track_in v t) (edited_volume e) ∙ put_both c.plain c.firm t (apply_edit e (track_in c.plain t)) _ (sym of.firms))
    firm_by q (inr ne) =
        ap (λ (z : Track). firm_in p.loose q z) (get_or-set_other p.volume t q _ _ ne) ∙ of.firm q ∙ sym (get_or-set_other c.firm t q _ _ ne)

  -- of a loose one
  pub of_loosely_edited : loose_at c t ≡ true → (e : Edit) → IsOf (edited p t e) (loosely_edited_core c t e)
  of_loosely_edited is e = record {
    geometry = of.geometry;
    cylinders = of.cylinders;
    number = of.number;
    volume = edited_volume e;
    loose = of.loose;
    firm = λ q. firm_by q (same_or_other q t);
    firms = of.firms ∙ sym (length-set c.plain t (apply_edit e (track_in c.plain t)));
    looses = of.looses ∙ sym (length-set c.plain t (apply_edit e (track_in c.plain t)));
    tracks = length-set c.plain t (apply_edit e (track_in c.plain t)) ∙ of.tracks;
  } where
    firm_by : (q : ℕ) → (q ≡ t) ⊎ (q ≢ t) → firm_in p.loose q (track_in (put_track p.volume t e) q) ≡ track_in c.firm q
    firm_by q (inl same) = rw same (any_loose p.loose t (track_in (put_track p.volume t e) t) (track_in p.volume t) (of.loose t ∙ is) ∙ of.firm t)
    firm_by q (inr ne) = ap (λ (z : Track). firm_in p.loose q z) (get_or-set_other p.volume t q _ _ ne) ∙ of.firm q

-- Along an event

-- the acts so far are legal, and the store is that of the plain device with them
pub record Walks (p : PlainState) (u : List Track) (g : Geometry) (n : ℕ) (m : Open) (c : Core) : Type 0 where
  pub of : IsOf (acts_done p c.acts) c
  pub are : AreActs p None c.acts
  pub places : HasPlaces c
  pub plain : c.plain ≡ u
  pub geometry : c.geometry ≡ g
  pub cylinders : c.cylinders ≡ n
  pub rest : open_of c ≡ m

pub acts_done_more : (p : PlainState) (acts : List Act) (act : Act) → acts_done p (acts ++ act ∷ []) ≡ act_done (acts_done p acts) act
acts_done_more p [] act = refl
acts_done_more p (x ∷ acts) act = acts_done_more (act_done p x) acts act

module _ (p : PlainState) (u : List Track) (g : Geometry) (n : ℕ) (m : Open) where
  -- a store of the same core
  pub walks_on : {c d : Core} → d ≡ c → Walks p u g n m c → Walks p u g n m d
  walks_on e w = subst (Walks p u g n m) (sym e) w

  pub walks_hardened : (c : Core) (t : ℕ) → Walks p u g n m c → loose_at c t ≡ true → Walks p u g n m (hardened_core c t)
  walks_hardened c t w is = record {
    of = rw (acts_done_more p c.acts (Harden t)) (of_hardened (acts_done p c.acts) c w.of t is);
    are = acts_more p None c.acts (Harden t) w.are (w.of.loose t ∙ is, tt);
    places = w.places ∙ sym (length-set c.loose t false);
    plain = w.plain;
    geometry = w.geometry;
    cylinders = w.cylinders;
    rest = w.rest;
  }

-- another half write, or none
abbrev pub with_half : Core → Option (HalfWrite (Unit {0})) → Core
with_half c h = record c { half = h }

-- neither the paths nor the acts, the half write or whom it is lent to are of its volumes
pub of_beside : {p : PlainState} {c : Core} → IsOf p c → (paths : PathsState) (acts : List Act) (half : Option (HalfWrite (Unit {0}))) (lent : Option ℕ) →
    IsOf (record p { paths = paths }) (record c { acts = acts; half = half; lent = lent })
of_beside of paths acts half lent = record {
  geometry = of.geometry;
  cylinders = of.cylinders;
  number = of.number;
  volume = of.volume;
  loose = of.loose;
  firm = of.firm;
  firms = of.firms;
  looses = of.looses;
  tracks = of.tracks;
}

pub of_half : (p : PlainState) (c : Core) → IsOf p c → (h : Option (HalfWrite (Unit {0}))) → IsOf p (with_half c h)
of_half p c of h = of_beside of p.paths c.acts h c.lent

pub walks_half : (p : PlainState) (u : List Track) (g : Geometry) (n : ℕ) (m : Open) (c : Core) → Walks p u g n m c →
    (h : Option (HalfWrite (Unit {0}))) → Walks p u g n (h, m.1) (with_half c h)
walks_half p u g n m c w h = record {
  of = of_half (acts_done p c.acts) c w.of h;
  are = w.are;
  places = w.places;
  plain = w.plain;
  geometry = w.geometry;
  cylinders = w.cylinders;
  rest = ap (λ (x : Open). (h, x.1)) w.rest;
}

-- What was firm stays so, and as it is

pub record Stays (c d : Core) : Type 0 where
  pub loose : (q : ℕ) → loose_at c q ≡ false → loose_at d q ≡ false
  pub plain : (q : ℕ) → loose_at c q ≡ false → track_in d.plain q ≡ track_in c.plain q

pub stays_itself : (c : Core) → Stays c c
stays_itself c = record { loose = λ q e. e; plain = λ q e. refl }

pub stays_hardened : (c d : Core) (t : ℕ) → Stays c d → Stays c (hardened_core d t)
stays_hardened c d t s = record { loose = λ q e. put_keeps d.loose t q (s.loose q e); plain = s.plain }
