-- What told edits, tracks that become loose or firm, and losses make of one track, step by step.
use Rattle.std.proofs.Common.{
  ◌≡◌,
  ◌<◌,
  ◌==◌,
  ℕ,
  Bool,
  true,
  false,
  List,
  [],
  ◌∷◌,
  ◌++◌,
  length,
  Option,
  Some,
  None,
  not,
  set,
  refl,
  sym,
  ap,
  subst,
  ◌∙◌,
  append_assoc,
}
use Rattle.std.specs.Prelude.{◌||◌, if◌then◌else◌}
use Rattle.std.proofs.lemmas.Bool.{eqb-true, eqb-false}
use Rattle.std.proofs.lemmas.List.{get_or-set_same, get_or-set_other, length-set}
use Rattle.ckd_types.specs.declared.record.Track.{Track}
use Rattle.ckd_types.specs.Edit.{apply_edit}
use Rattle.ckd_types.specs.Track.{empty_track}
use Rattle.ckd_types.specs.Volume.{track_in}
use Rattle.ckd_rules.specs.Walk.{TrackEdit}
use Rattle.plain_defs.specs.declared.journal.Act.{Act}
use Rattle.plain_defs.specs.declared.journal.Act.TheVariants.{Loosen, Harden, CfwLost}
use Rattle.plain_defs.specs.Acknowledged.{EditTold, told_by_edit, told_by_act, becomes_firm, acknowledged_of, acknowledged_if}
use Rattle.plain_defs.specs.Acknowledged.EditTold.{Edited, Hardened, Lost}
use Rattle.plain_defs.specs.Effect.{Effect, edited_volume, behind_effect}
use Rattle.plain_defs.specs.Loose.{is_loose_in, firm_in, without, restored, cfw_lost, act_done, lost_by_power, power_off}
use Rattle.plain_defs.specs.PlainState.{LooseTrack, PathsState, PlainState}
use Rattle.device_laws.proofs.PlainStores.{not_loose}

-- these edits of track t, one behind the other
abbrev pub on_track : ℕ → List TrackEdit → Track → Track
on_track t [] x = x
on_track t (e ∷ edits) x = on_track t edits (if e.track == t then apply_edit e.edit x else x)

-- a track as it is, or without data of cache fast write
abbrev pub stood : ℕ → PlainState → Bool → Track
stood t s true = track_in s.volume t
stood t s false = firm_in s.loose t (track_in s.volume t)

-- from one device to another this was told: whatever is told later, what is acknowledged makes the same of the track
pub record Carries (t : ℕ) (s : PlainState) (told : List EditTold) (z : PlainState) : Type 0 where
  pub size : length z.volume ≡ length s.volume
  pub cylinders : z.cylinders ≡ s.cylinders
  pub track : t < length s.volume → (later : List EditTold) →
      on_track t (acknowledged_of (told ++ later)) (stood t s (becomes_firm t (told ++ later)))
      ≡ on_track t (acknowledged_of later) (stood t z (becomes_firm t later))

pub carries_on : (t : ℕ) (s y z : PlainState) (told more : List EditTold) → Carries t s told y → Carries t y more z → Carries t s (told ++ more) z
carries_on t s y z told more f g = record {
  size = g.size ∙ f.size;
  cylinders = g.cylinders ∙ f.cylinders;
  track = λ lt later.
      ap (λ (l : List EditTold). on_track t (acknowledged_of l) (stood t s (becomes_firm t l))) (append_assoc told more later)
      ∙ f.track lt (more ++ later)
      ∙ g.track (subst (λ (n : ℕ). t < n) (sym f.size) lt) later;
}

-- where nothing was told
stood_same : (t : ℕ) (s z : PlainState) → track_in z.volume t ≡ track_in s.volume t →
    firm_in z.loose t (track_in z.volume t) ≡ firm_in s.loose t (track_in s.volume t) → (b : Bool) → stood t s b ≡ stood t z b
stood_same t s z plain firm true = sym plain
stood_same t s z plain firm false = sym firm

pub carries_none : (t : ℕ) (s z : PlainState) → length z.volume ≡ length s.volume → z.cylinders ≡ s.cylinders →
    track_in z.volume t ≡ track_in s.volume t → firm_in z.loose t (track_in z.volume t) ≡ firm_in s.loose t (track_in s.volume t) → Carries t s [] z
carries_none t s z size many plain firm = record {
  size = size;
  cylinders = many;
  track = λ lt later. ap (on_track t (acknowledged_of later)) (stood_same t s z plain firm (becomes_firm t later));
}

-- Loose tracks

any_by : (b : Bool) (x f h : Track) (r : Bool) → (if b then true else r) ≡ true → (r ≡ true → f ≡ h) → (if b then x else f) ≡ (if b then x else h)
any_by true x f h r e rest = refl
any_by false x f h r e rest = rest e

-- the firm track of a loose one is the same whatever it is
any_loose : (l : List LooseTrack) (t : ℕ) (y z : Track) → is_loose_in l t ≡ true → firm_in l t y ≡ firm_in l t z
any_loose [] t y z e = absurd (cc)
any_loose (x ∷ l) t y z e = any_by (x.track == t) x.firm (firm_in l t y) (firm_in l t z) (is_loose_in l t) e (any_loose l t y z)

by_test : (b : Bool) (x y : Track) → (b ≡ true → x ≡ y) → (if b then x else y) ≡ y
by_test true x y f = f refl
by_test false x y f = refl

-- one more behind them
firm_more : (l : List LooseTrack) (x : LooseTrack) (t : ℕ) (y : Track) → ((x.track == t) ≡ true → x.firm ≡ y) → firm_in (l ++ x ∷ []) t y ≡ firm_in l t y
firm_more [] x t y f = by_test (x.track == t) x.firm y f
firm_more (z ∷ l) x t y f = ap (λ (r : Track). if z.track == t then z.firm else r) (firm_more l x t y f)

-- without it
without_it : (b : Bool) (x : LooseTrack) (t : ℕ) (y : Track) (l : List LooseTrack) → (x.track == t) ≡ b → firm_in l t y ≡ y →
    firm_in (if not b then x ∷ l else l) t y ≡ y
without_it true x t y l is rest = rest
without_it false x t y l is rest = ap (λ (b : Bool). if b then x.firm else firm_in l t y) is ∙ rest

firm_without : (l : List LooseTrack) (t : ℕ) (y : Track) → firm_in (without t l) t y ≡ y
firm_without [] t y = refl
firm_without (x ∷ l) t y = without_it (x.track == t) x t y (without t l) refl (firm_without l t y)

other_test : (x t q : ℕ) → (x == t) ≡ true → (t == q) ≡ false → (x == q) ≡ false
other_test x t q is other = ap (λ (k : ℕ). k == q) (eqb-true x t is) ∙ other

without_other : (b : Bool) (x : LooseTrack) (t q : ℕ) (y : Track) (l : List LooseTrack) (r : Track) → (x.track == t) ≡ b → (t == q) ≡ false →
    firm_in l q y ≡ r → firm_in (if not b then x ∷ l else l) q y ≡ (if x.track == q then x.firm else r)
without_other true x t q y l r is other rest = rest ∙ sym (ap (λ (b : Bool). if b then x.firm else r) (other_test x.track t q is other))
without_other false x t q y l r is other rest = ap (λ (z : Track). if x.track == q then x.firm else z) rest

firm_other : (l : List LooseTrack) (t q : ℕ) (y : Track) → (t == q) ≡ false → firm_in (without t l) q y ≡ firm_in l q y
firm_other [] t q y other = refl
firm_other (x ∷ l) t q y other = without_other (x.track == t) x t q y (without t l) (firm_in l q y) refl other (firm_other l t q y other)

-- all go back
length_restored : (l : List LooseTrack) (v : List Track) → length (restored l v) ≡ length v
length_restored [] v = refl
length_restored (x ∷ l) v = length-set (restored l v) x.track x.firm ∙ length_restored l v

set_track : (v : List Track) (i t : ℕ) (x : Track) (b : Bool) → (i == t) ≡ b → t < length v → track_in (set v i x) t ≡ (if b then x else track_in v t)
set_track v i t x true is lt =
    subst (λ (k : ℕ). track_in (set v k x) t ≡ x) (sym (eqb-true i t is)) (get_or-set_same v t x (empty_track t) lt)
set_track v i t x false other lt = get_or-set_other v i t x (empty_track t) (λ same. eqb-false i t other (sym same))

restored_at : (l : List LooseTrack) (v : List Track) (t : ℕ) → t < length v → track_in (restored l v) t ≡ firm_in l t (track_in v t)
restored_at [] v t lt = refl
restored_at (x ∷ l) v t lt =
    set_track (restored l v) x.track t x.firm (x.track == t) refl (subst (λ (n : ℕ). t < n) (sym (length_restored l v)) lt)
    ∙ ap (λ (r : Track). if x.track == t then x.firm else r) (restored_at l v t lt)

-- Acts

module _ (t : ℕ) (s : PlainState) where
  loosened : (u : ℕ) → Carries t s [] (act_done s (Loosen u))
  loosened u =
      carries_none t s (act_done s (Loosen u)) refl refl refl
      (firm_more s.loose (record { track = u; firm = track_in s.volume u }) t (track_in s.volume t) (λ is. ap (track_in s.volume) (eqb-true u t is)))

  plain_any : (z : PlainState) → track_in z.volume t ≡ track_in s.volume t → firm_in z.loose t (track_in z.volume t) ≡ track_in z.volume t → (b : Bool) →
      track_in s.volume t ≡ stood t z b
  plain_any z plain firm true = sym plain
  plain_any z plain firm false = sym plain ∙ sym firm

  hardened_by : (u : ℕ) (later : List EditTold) (b : Bool) → (u == t) ≡ b →
      on_track t (acknowledged_of later) (stood t s (b || becomes_firm t later))
      ≡ on_track t (acknowledged_of later) (stood t (act_done s (Harden u)) (becomes_firm t later))
  hardened_by u later true is =
      ap (on_track t (acknowledged_of later))
      (plain_any (act_done s (Harden u)) refl
      (subst (λ (k : ℕ). firm_in (without k s.loose) t (track_in s.volume t) ≡ track_in s.volume t) (sym (eqb-true u t is))
      (firm_without s.loose t (track_in s.volume t))) (becomes_firm t later))
  hardened_by u later false other =
      ap (on_track t (acknowledged_of later))
      (stood_same t s (act_done s (Harden u)) refl (firm_other s.loose u t (track_in s.volume t) other) (becomes_firm t later))

  hardened : (u : ℕ) → Carries t s (Hardened u ∷ []) (act_done s (Harden u))
  hardened u = record { size = refl; cylinders = refl; track = λ lt later. hardened_by u later (u == t) refl }

  back_any : t < length s.volume → (b : Bool) → firm_in s.loose t (track_in s.volume t) ≡ stood t (cfw_lost s) b
  back_any lt true = sym (restored_at s.loose s.volume t lt)
  back_any lt false = sym (restored_at s.loose s.volume t lt)

  gone_back : Carries t s (Lost ∷ []) (cfw_lost s)
  gone_back = record {
    size = length_restored s.loose s.volume;
    cylinders = refl;
    track = λ lt later. ap (on_track t (acknowledged_of later)) (back_any lt (becomes_firm t later));
  }

  pub act_carries : (act : Act) → Carries t s (told_by_act act) (act_done s act)
  act_carries (Loosen u) = loosened u
  act_carries (Harden u) = hardened u
  act_carries CfwLost = gone_back

  -- a loss of power
  none_any : s.loose ≡ [] → (b : Bool) → firm_in s.loose t (track_in s.volume t) ≡ stood t s b
  none_any none true = ap (λ (l : List LooseTrack). firm_in l t (track_in s.volume t)) none
  none_any none false = refl

  lost_power : (l : List LooseTrack) → s.loose ≡ l → Carries t s (Lost ∷ []) (lost_by_power s l)
  lost_power [] none = record {
    size = refl;
    cylinders = refl;
    track = λ lt later. ap (on_track t (acknowledged_of later)) (none_any none (becomes_firm t later));
  }
  lost_power (x ∷ l) some = gone_back

  pub power_carries : Carries t s (Lost ∷ []) (power_off s)
  power_carries = let f = lost_power s.loose refl in record { size = f.size; cylinders = f.cylinders; track = f.track }

-- Edits

module _ (t : ℕ) (s : PlainState) (e : TrackEdit) (paths : PathsState) where
  abbrev behind : PlainState
  behind = record s { volume = edited_volume s.volume (Some e); paths = paths }

  pub edited_at : (q : Bool) → (e.track == t) ≡ q → t < length s.volume →
      track_in (edited_volume s.volume (Some e)) t ≡ (if q then apply_edit e.edit (track_in s.volume t) else track_in s.volume t)
  edited_at q is lt =
      set_track s.volume e.track t (apply_edit e.edit (track_in s.volume e.track)) q is lt ∙ here q is
    where
      here : (q : Bool) → (e.track == t) ≡ q → (if q then apply_edit e.edit (track_in s.volume e.track) else track_in s.volume t)
          ≡ (if q then apply_edit e.edit (track_in s.volume t) else track_in s.volume t)
      here true is = ap (λ (k : ℕ). apply_edit e.edit (track_in s.volume k)) (eqb-true e.track t is)
      here false is = refl

  loose_at : (k : Bool) → is_loose_in s.loose e.track ≡ k → (e.track == t) ≡ true → is_loose_in s.loose t ≡ k
  loose_at k is same = ap (is_loose_in s.loose) (sym (eqb-true e.track t same)) ∙ is

  module _ (lt : t < length s.volume) where
    -- of a track that isn't loose
    edited_firm : is_loose_in s.loose e.track ≡ false → (q : Bool) → (e.track == t) ≡ q → (b : Bool) →
        (if q then apply_edit e.edit (stood t s b) else stood t s b) ≡ stood t behind b
    edited_firm firm true same true = sym (edited_at true same lt)
    edited_firm firm true same false =
        let here = loose_at false firm same in
        ap (apply_edit e.edit) (not_loose s.loose t (track_in s.volume t) here) ∙ sym (edited_at true same lt)
        ∙ sym (not_loose s.loose t (track_in behind.volume t) here)
    edited_firm firm false other true = sym (edited_at false other lt)
    edited_firm firm false other false = ap (firm_in s.loose t) (sym (edited_at false other lt))

    -- of a loose one
    skipped : (edits : List TrackEdit) (x : Track) → (e.track == t) ≡ false → (c : Bool) →
        on_track t (acknowledged_if c e edits) x ≡ on_track t edits x
    skipped edits x other true = ap (λ (b : Bool). on_track t edits (if b then apply_edit e.edit x else x)) other
    skipped edits x other false = refl

    taken : (edits : List TrackEdit) → is_loose_in s.loose t ≡ true → (e.track == t) ≡ true → (b : Bool) →
        on_track t (acknowledged_if b e edits) (stood t s b) ≡ on_track t edits (stood t behind b)
    taken edits loose same true = ap (on_track t edits) (sym (edited_at (e.track == t) refl lt))
    taken edits loose same false = ap (on_track t edits) (any_loose s.loose t (track_in s.volume t) (track_in behind.volume t) loose)

    apart_same : (e.track == t) ≡ false → (b : Bool) → stood t s b ≡ stood t behind b
    apart_same other true = sym (edited_at false other lt)
    apart_same other false = ap (firm_in s.loose t) (sym (edited_at false other lt))

    edited_loose : (later : List EditTold) → is_loose_in s.loose e.track ≡ true → (q : Bool) → (e.track == t) ≡ q →
        on_track t (acknowledged_if (becomes_firm e.track later) e (acknowledged_of later)) (stood t s (becomes_firm t later))
        ≡ on_track t (acknowledged_of later) (stood t behind (becomes_firm t later))
    edited_loose later loose true same =
        ap (λ (k : ℕ). on_track t (acknowledged_if (becomes_firm k later) e (acknowledged_of later)) (stood t s (becomes_firm t later)))
        (eqb-true e.track t same)
        ∙ taken (acknowledged_of later) (loose_at true loose same) same (becomes_firm t later)
    edited_loose later loose false other =
        skipped (acknowledged_of later) (stood t s (becomes_firm t later)) other (becomes_firm e.track later)
        ∙ ap (on_track t (acknowledged_of later)) (apart_same other (becomes_firm t later))

    edited_by_loose : (later : List EditTold) (k : Bool) → is_loose_in s.loose e.track ≡ k →
        on_track t (acknowledged_of (Edited k e ∷ later)) (stood t s (becomes_firm t later))
        ≡ on_track t (acknowledged_of later) (stood t behind (becomes_firm t later))
    edited_by_loose later true is = edited_loose later is (e.track == t) refl
    edited_by_loose later false is = ap (on_track t (acknowledged_of later)) (edited_firm is (e.track == t) refl (becomes_firm t later))

  pub edit_carries : Carries t s (told_by_edit s (Some e)) (record s { volume = edited_volume s.volume (Some e); paths = paths })
  edit_carries = record {
    size = length-set s.volume e.track (apply_edit e.edit (track_in s.volume e.track));
    cylinders = refl;
    track = λ lt later. edited_by_loose lt later (is_loose_in s.loose e.track) refl;
  }

edit_by : (t : ℕ) (s : PlainState) (paths : PathsState) (e : Option TrackEdit) →
    Carries t s (told_by_edit s e) (record s { volume = edited_volume s.volume e; paths = paths })
edit_by t s paths None = carries_none t s (record s { paths = paths }) refl refl refl refl
edit_by t s paths (Some e) = edit_carries t s e paths

-- the effect of a command
pub effect_carries : (t : ℕ) (s : PlainState) (e : Effect) → Carries t s (told_by_edit s e.edit) (behind_effect s e)
effect_carries t s e = edit_by t s e.paths e.edit
