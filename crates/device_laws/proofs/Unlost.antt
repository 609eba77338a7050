-- Where no call fails, no part of an event loses a track, and each side stays as it is; and while side A is up, no track becomes stale there.
use Rattle.std.proofs.Common.{◌≡◌, ◌≢◌, ◌<◌, ◌≤◌, ℕ, Bool, true, false, List, Option, Some, None, length, set, get_or, option_map, refl, sym, ap, subst, ◌∙◌, arith, ◌⊎◌, inl, inr}
use Rattle.std.proofs.lemmas.Bool.{cases_eq, cases_lt}
use Rattle.std.proofs.lemmas.List.{get_or-set_same, get_or-set_other, get_or_past, length-set}
use Rattle.std.specs.Prelude.{if◌then◌else◌, ◌&&◌, ◌||◌, not}
use Rattle.ckd_types.specs.declared.paths.Side.{Side}
use Rattle.ckd_types.specs.declared.paths.Side.TheVariants as sides
use Rattle.device_defs.specs.Losses.{stale_everywhere}
use Rattle.device_defs.specs.Store.{HalfWrite, Store, stale_at, level_at, takes_b, has_level, with_stale}
use Rattle.device_defs.specs.Writing.{taken_a}

-- what is said of a store
pub record Core : Type 0 where
  pub lost : List Bool
  pub up : Bool
  pub takes : Bool  -- side B takes writes
  pub stale : List Bool
  pub half : Option ℕ  -- the track of an open half write

abbrev pub core_of : {F P H : Type 0} → Store F P H → Core
core_of s = record { lost = s.lost; up = s.a.up; takes = takes_b s; stale = s.a.stale; half = option_map (λ h. h.track) s.half }

-- a half write is open that was, or it was opened: side A is up and took its track, and side B takes writes
abbrev pub IsOpened : Core → Core → ℕ → Type 0
IsOpened x y t = (x.half ≡ Some t) ⊎ ((x.up ≡ true) × (x.takes ≡ true) × (get_or y.stale t false ≡ false))

pub record Fine (x y : Core) : Type 0 where
  pub lost : y.lost ≡ x.lost
  pub up : y.up ≡ x.up
  pub takes : y.takes ≡ x.takes
  pub level : x.up ≡ true → (q : ℕ) → get_or x.stale q false ≡ false → get_or y.stale q false ≡ false
  pub opens : (t : ℕ) → y.half ≡ Some t → IsOpened x y t

-- no track is lost, some side takes writes, and side A has the track of an open half write while it is up
pub record Steady (x : Core) : Type 0 where
  pub kept : (q : ℕ) → get_or x.lost q false ≡ false
  pub takes : (x.up || x.takes) ≡ true
  pub half : (t : ℕ) → x.half ≡ Some t → x.up ≡ true → get_or x.stale t false ≡ false

pub steady_on : (x y : Core) → Fine x y → Steady x → Steady y
steady_on x y f s = record {
  kept = λ q. ap (λ (l : List Bool). get_or l q false) f.lost ∙ s.kept q;
  takes = ap (λ (b : Bool). b || y.takes) f.up ∙ ap (λ (b : Bool). x.up || b) f.takes ∙ s.takes;
  half = λ t e up. by_opened t (sym f.up ∙ up) (f.opens t e);
} where
  by_opened : (t : ℕ) → x.up ≡ true → IsOpened x y t → get_or y.stale t false ≡ false
  by_opened t up (inl was) = f.level up t (s.half t was up)
  by_opened t up (inr new) = new.2

-- but for what side A has of track t
pub record Off (t : ℕ) (x y : Core) : Type 0 where
  pub lost : y.lost ≡ x.lost
  pub up : y.up ≡ x.up
  pub takes : y.takes ≡ x.takes
  pub level : x.up ≡ true → (q : ℕ) → q ≢ t → get_or x.stale q false ≡ false → get_or y.stale q false ≡ false
  pub opens : (t : ℕ) → y.half ≡ Some t → IsOpened x y t

opens_on : (x y z : Core) (t : ℕ) → y.up ≡ x.up → y.takes ≡ x.takes →
    (y.up ≡ true → (q : ℕ) → get_or y.stale q false ≡ false → get_or z.stale q false ≡ false) →
    (y.half ≡ Some t → IsOpened x y t) → IsOpened y z t → IsOpened x z t
opens_on x y z t up takes level f (inl half) = taken_on (f half) where
  taken_on : IsOpened x y t → IsOpened x z t
  taken_on (inl was) = inl was
  taken_on (inr new) = inr (new.0, new.1, level (up ∙ new.0) t new.2)
opens_on x y z t up takes level f (inr new) = inr (sym up ∙ new.0, sym takes ∙ new.1, new.2)

pub fine : (x : Core) → Fine x x
fine x = record { lost = refl; up = refl; takes = refl; level = λ up q e. e; opens = λ t e. inl e }

pub fine_on : (x y z : Core) → Fine x y → Fine y z → Fine x z
fine_on x y z f g = record {
  lost = g.lost ∙ f.lost;
  up = g.up ∙ f.up;
  takes = g.takes ∙ f.takes;
  level = λ up q e. g.level (f.up ∙ up) q (f.level up q e);
  opens = λ t e. opens_on x y z t f.up f.takes g.level (f.opens t) (g.opens t e);
}

pub fine_off : (t : ℕ) (x y : Core) → Fine x y → Off t x y
fine_off t x y f = record { lost = f.lost; up = f.up; takes = f.takes; level = λ up q ne e. f.level up q e; opens = f.opens }

pub off_down : (t : ℕ) (x y : Core) → Off t x y → y.up ≡ false → Fine x y
off_down t x y f down = record {
  lost = f.lost;
  up = f.up;
  takes = f.takes;
  level = λ up q e. absurd (let both : true ≡ false = sym up ∙ sym f.up ∙ down in cc);
  opens = f.opens;
}

pub has_a : (up stale b : Bool) → up ≡ true → stale ≡ false → ((up && not stale) || b) ≡ true
has_a true true b e f = absurd (cc)
has_a true false b e f = refl
has_a false stale b e f = absurd (cc)

-- a steady device tries the second part of its open half write
pub steady_tried : {F P H : Type 0} (s : Store F P H) → Steady (core_of s) → (h : HalfWrite H) → s.half ≡ Some h →
    (takes_b s ≡ true) ⊎ (has_level s h.track ≡ true)
steady_tried {H = H} s x h is = by_up s.a.up refl where
  by_up : (b : Bool) → s.a.up ≡ b → (takes_b s ≡ true) ⊎ (has_level s h.track ≡ true)
  by_up true up =
      inr (has_a s.a.up (stale_at s.a h.track) (level_at s.b h.track) up
      (x.half h.track (ap (option_map (λ (k : HalfWrite H). k.track)) is) up))
  by_up false down = inl (ap (λ (b : Bool). b || takes_b s) (sym down) ∙ x.takes)

-- Places

clear_by : (l : List Bool) (t : ℕ) → ((t < length l) ⊎ (length l ≤ t)) → get_or (set l t false) t false ≡ false
clear_by l t (inl lt) = get_or-set_same l t false false lt
clear_by l t (inr le) = let same : length (set l t false) ≡ length l = length-set l t false in get_or_past (set l t false) t false (omega (arith, same, le))

pub clear : (l : List Bool) (t : ℕ) → get_or (set l t false) t false ≡ false
clear l t = clear_by l t (cases_lt t (length l))

pub clear_at : (l : List Bool) (t q : ℕ) → ((q ≡ t) ⊎ (q ≢ t)) → (q ≢ t → get_or l q false ≡ false) → get_or (set l t false) q false ≡ false
clear_at l t q (inl is) e = subst (λ (p : ℕ). get_or (set l t false) p false ≡ false) (sym is) (clear l t)
clear_at l t q (inr ne) e = get_or-set_other l t q false false ne ∙ e ne

stale_other : (l : List Bool) (t q : ℕ) → q ≢ t → get_or l q false ≡ false → get_or (set l t true) q false ≡ false
stale_other l t q ne e = get_or-set_other l t q true false ne ∙ e

-- Changes of a store

still_clear : (x : Core) (l : List Bool) (t q : ℕ) → ((x.half ≡ Some q) ⊎ ((x.up ≡ true) × (x.takes ≡ true) × (get_or l q false ≡ false))) →
    (x.half ≡ Some q) ⊎ ((x.up ≡ true) × (x.takes ≡ true) × (get_or (set l t false) q false ≡ false))
still_clear x l t q (inl was) = inl was
still_clear x l t q (inr new) = inr (new.0, new.1, clear_at l t q (cases_eq q t) (λ ne. new.2))

module _ {F P H : Type 0} where
  -- a side takes a track
  took_a : (x : Core) (s : Store F P H) (t : ℕ) (b : Bool) → Off t x (core_of s) →
      Fine x (core_of (if b then with_stale (with_stale s sides.A t false) sides.B t true else with_stale s sides.A t false))
  took_a x s t true o = record {
    lost = o.lost;
    up = o.up;
    takes = o.takes;
    level = λ up q e. clear_at s.a.stale t q (cases_eq q t) (λ ne. o.level up q ne e);
    opens = λ q e. still_clear x s.a.stale t q (o.opens q e);
  }
  took_a x s t false o = record {
    lost = o.lost;
    up = o.up;
    takes = o.takes;
    level = λ up q e. clear_at s.a.stale t q (cases_eq q t) (λ ne. o.level up q ne e);
    opens = λ q e. still_clear x s.a.stale t q (o.opens q e);
  }

  pub taken_a_fine : (x : Core) (s : Store F P H) (t : ℕ) → Off t x (core_of s) → Fine x (core_of (taken_a s t))
  taken_a_fine x s t o = took_a x s t s.b.up o

  everywhere_by : (s : Store F P H) (t : ℕ) (b : Bool) →
      Off t (core_of s) (core_of (if b then with_stale (with_stale s sides.A t true) sides.B t true else with_stale s sides.A t true))
  everywhere_by s t true = record { lost = refl; up = refl; takes = refl; level = λ up q ne e. stale_other s.a.stale t q ne e; opens = λ q e. inl e }
  everywhere_by s t false = record { lost = refl; up = refl; takes = refl; level = λ up q ne e. stale_other s.a.stale t q ne e; opens = λ q e. inl e }

  pub everywhere_off : (s : Store F P H) (t : ℕ) → Off t (core_of s) (core_of (stale_everywhere s t))
  everywhere_off s t = everywhere_by s t s.paired

  pub side_fine : (s : Store F P H) (side : Side) (t : ℕ) → Fine (core_of s) (core_of (with_stale s side t false))
  side_fine s sides.A t = record {
    lost = refl;
    up = refl;
    takes = refl;
    level = λ up q e. clear_at s.a.stale t q (cases_eq q t) (λ ne. e);
    opens = λ q e. inl e;
  }
  side_fine s sides.B t = fine (core_of s)

  pub closed_fine : (s : Store F P H) → Fine (core_of s) (core_of (record s { half = None }))
  closed_fine s = record { lost = refl; up = refl; takes = refl; level = λ up q e. e; opens = λ t e. absurd (cc) }

  -- a half write is to be opened where side A took the track and side B takes writes
  pub opened_fine : (s : Store F P H) (t : ℕ) → (s.a.up ≡ true) × (takes_b s ≡ true) × (stale_at s.a t ≡ false) →
      Fine (core_of s) (record (core_of s) { half = Some t })
  opened_fine s t may = record {
    lost = refl;
    up = refl;
    takes = refl;
    level = λ up q e. e;
    opens = λ q e. inr (may.0, may.1, let same : t ≡ q = cc in subst (λ (p : ℕ). stale_at s.a p ≡ false) same may.2);
  }

  -- what is cut was open
  pub cut_fine : (s : Store F P H) (h : HalfWrite H) → s.half ≡ Some h → Fine (core_of s) (record (core_of s) { half = Some h.track })
  cut_fine s h is = record {
    lost = refl;
    up = refl;
    takes = refl;
    level = λ up q e. e;
    opens = λ q e. inl (ap (option_map (λ (x : HalfWrite H). x.track)) is ∙ e);
  }
