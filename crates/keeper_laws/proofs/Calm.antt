-- A track of a device of a run that nothing changes, and what keeps it so.
use Rattle.std.proofs.Common.{◌≡◌, ◌≢◌, ◌*◌, ◌==◌, ◌&&◌, ℕ, Bool, true, false, List, Option, Some, set, refl, sym, ap, subst, ◌∙◌, inl, inr}
use Rattle.std.specs.Prelude.{◌⊎◌}
use Rattle.std.proofs.lemmas.Bool.{eqb-true, eqb-false, eq-eqb}
use Rattle.std.proofs.lemmas.List.{get_or-set_other}
use Rattle.ckd_types.specs.declared.geometry.Geometry.{Geometry}
use Rattle.ckd_types.specs.declared.record.Edit.{Edit}
use Rattle.ckd_types.specs.declared.record.Track.{Track}
use Rattle.ckd_types.specs.Volume.{track_in}
use Rattle.plain_defs.specs.declared.journal.Act.{Act}
use Rattle.track_image.specs.Image.{Image}
use Rattle.device_defs.specs.Marks.{MarksStore}
use Rattle.device_defs.specs.Store.{Origin, HalfWrite, plain_at}
use Rattle.subsystem_laws.specs.Looking.{is_written, is_written_at}
use Rattle.device_laws.proofs.PlainEvents.{none_loose}
use Rattle.device_laws.proofs.PlainLosses.{gone_core}
use Rattle.device_laws.proofs.PlainStores.{
  Core,
  core_of,
  loose_at,
  hardened_core,
  loosened_core,
  edited_core,
  loosely_edited_core,
  with_half,
  put_keeps,
}

-- a track of the device of a number, its size and what the track holds, and the number of the device at hand
pub record Watch : Type 0 where
  pub number : ℕ
  pub track : ℕ
  pub geometry : Geometry
  pub cylinders : ℕ
  pub holds : Track
  pub device : ℕ

abbrev pub watched_image : Watch → Image
watched_image w = record { geometry = w.geometry; track = w.holds }

-- an edit of this track by the device at hand is one of it
abbrev pub is_watched : Watch → ℕ → Bool
is_watched w q = (w.device == w.number) && (q == w.track)

-- Of a device of that number: the track holds that, plainly and without data of cache fast write, isn't loose, and no half write of a command
-- or of a cut is open on it
pub record IsCalm (w : Watch) (c : Core) : Type 0 where
  pub geometry : c.geometry ≡ w.geometry
  pub cylinders : c.cylinders ≡ w.cylinders
  pub loose : loose_at c w.track ≡ false
  pub half : is_written_at c.half w.track ≡ false
  pub plain : track_in c.plain w.track ≡ w.holds
  pub firm : track_in c.firm w.track ≡ w.holds

pub record Keeps (w : Watch) (c : Core) : Type 0 where
  pub device : c.device ≡ w.device
  pub calm : w.device ≡ w.number → IsCalm w c

same_or_other : (q t : ℕ) → (q ≡ t) ⊎ (q ≢ t)
same_or_other q t = by_test (q == t) refl where
  by_test : (b : Bool) → (q == t) ≡ b → (q ≡ t) ⊎ (q ≢ t)
  by_test true e = inl (eqb-true q t e)
  by_test false e = inr (eqb-false q t e)

both_true : (a b : Bool) → a ≡ true → b ≡ true → (a && b) ≡ true
both_true true true e f = refl
both_true true false e f = absurd (cc)
both_true false b e f = absurd (cc)

pub parts_of : (a b : Bool) → (a && b) ≡ true → (a ≡ true) × (b ≡ true)
parts_of true true e = (refl, refl)
parts_of true false e = absurd (cc)
parts_of false b e = absurd (cc)

not_both : (a b : Bool) → (a && b) ≡ false → b ≡ true → a ≡ false
not_both true b e f = absurd (cc)
not_both false b e f = refl

and_false : (a b : Bool) → b ≡ false → (a && b) ≡ false
and_false true b e = e
and_false false b e = refl

module _ (w : Watch) where
  -- a track that isn't watched isn't the one
  apart : (q : ℕ) → w.device ≡ w.number → is_watched w q ≡ false → w.track ≢ q
  apart q here off same =
      let both : is_watched w q ≡ true = both_true (w.device == w.number) (q == w.track) (eq-eqb w.device w.number here) (eq-eqb q w.track (sym same)) in
      let no : true ≡ false = sym both ∙ off in cc

  pub watched_so : (q : ℕ) → is_watched w q ≡ true → (w.device ≡ w.number) × (q ≡ w.track)
  watched_so q on =
      let two = parts_of (w.device == w.number) (q == w.track) on in (eqb-true w.device w.number two.0, eqb-true q w.track two.1)

  -- it becomes firm, which it is already
  pub hardened_keeps : (c : Core) (q : ℕ) → Keeps w c → loose_at c q ≡ true → Keeps w (hardened_core c q)
  hardened_keeps c q k is = record {
    device = k.device;
    calm = λ here. let i = k.calm here in record {
      geometry = i.geometry;
      cylinders = i.cylinders;
      loose = put_keeps c.loose q w.track i.loose;
      half = i.half;
      plain = i.plain;
      firm = by_place i (same_or_other w.track q);
    };
  } where
    by_place : IsCalm w c → (w.track ≡ q) ⊎ (w.track ≢ q) → track_in (set c.firm q (track_in c.plain q)) w.track ≡ w.holds
    by_place i (inl same) =
        absurd (let no : true ≡ false = sym is ∙ ap (loose_at c) (sym same) ∙ i.loose in cc)
    by_place i (inr ne) = get_or-set_other c.firm q w.track _ _ ne ∙ i.firm

  module _ (c : Core) (q : ℕ) (k : Keeps w c) (off : is_watched w q ≡ false) where
    -- another track is edited
    pub edited_keeps : (e : Edit) → Keeps w (edited_core c q e)
    edited_keeps e = record {
      device = k.device;
      calm = λ here. let i = k.calm here in let ne = apart q here off in record {
        geometry = i.geometry;
        cylinders = i.cylinders;
        loose = i.loose;
        half = i.half;
        plain = get_or-set_other c.plain q w.track _ _ ne ∙ i.plain;
        firm = get_or-set_other c.firm q w.track _ _ ne ∙ i.firm;
      };
    }

    pub loosely_keeps : (e : Edit) → Keeps w (loosely_edited_core c q e)
    loosely_keeps e = record {
      device = k.device;
      calm = λ here. let i = k.calm here in let ne = apart q here off in record {
        geometry = i.geometry;
        cylinders = i.cylinders;
        loose = i.loose;
        half = i.half;
        plain = get_or-set_other c.plain q w.track _ _ ne ∙ i.plain;
        firm = i.firm;
      };
    }

    -- or becomes loose
    pub loosened_keeps : Keeps w (loosened_core c q)
    loosened_keeps = record {
      device = k.device;
      calm = λ here. let i = k.calm here in let ne = apart q here off in record {
        geometry = i.geometry;
        cylinders = i.cylinders;
        loose = get_or-set_other c.loose q w.track true false ne ∙ i.loose;
        half = i.half;
        plain = i.plain;
        firm = i.firm;
      };
    }

  -- all loose tracks go back
  pub gone_keeps : (c : Core) → Keeps w c → Keeps w (gone_core c)
  gone_keeps c k = record {
    device = k.device;
    calm = λ here. let i = k.calm here in record {
      geometry = i.geometry;
      cylinders = i.cylinders;
      loose = none_loose (c.cylinders * 15) w.track;
      half = i.half;
      plain = i.firm;
      firm = i.firm;
    };
  }

  -- other acts
  pub acts_keep : (c : Core) (acts : List Act) → Keeps w c → Keeps w (record c { acts = acts })
  acts_keep c acts k = record {
    device = k.device;
    calm = λ here. let i = k.calm here in record {
      geometry = i.geometry;
      cylinders = i.cylinders;
      loose = i.loose;
      half = i.half;
      plain = i.plain;
      firm = i.firm;
    };
  }

  -- another half write
  pub half_keeps : (c : Core) (h : Option (HalfWrite (Unit {0}))) → Keeps w c → (w.device ≡ w.number → is_written_at h w.track ≡ false) →
      Keeps w (with_half c h)
  half_keeps c h k off = record {
    device = k.device;
    calm = λ here. let i = k.calm here in record {
      geometry = i.geometry;
      cylinders = i.cylinders;
      loose = i.loose;
      half = off here;
      plain = i.plain;
      firm = i.firm;
    };
  }

  -- lent to another one
  pub lent_keeps : (c : Core) (lent : Option ℕ) → Keeps w c → Keeps w (record c { lent = lent })
  lent_keeps c lent k = record {
    device = k.device;
    calm = λ here. let i = k.calm here in record {
      geometry = i.geometry;
      cylinders = i.cylinders;
      loose = i.loose;
      half = i.half;
      plain = i.plain;
      firm = i.firm;
    };
  }

  -- Half writes

  -- one of the background
  pub unwritten : (q : ℕ) (origin : Origin) → is_written origin ≡ false →
      is_written_at (Some (record { track = q; origin = origin; image = tt {0} })) w.track ≡ false
  unwritten q origin off = and_false (q == w.track) (is_written origin) off

  -- one at a track that isn't watched
  pub unwatched : (q : ℕ) (origin : Origin) → is_watched w q ≡ false → w.device ≡ w.number →
      is_written_at (Some (record { track = q; origin = origin; image = tt {0} })) w.track ≡ false
  unwatched q origin off here = by_place (q == w.track) refl where
    by_place : (b : Bool) → (q == w.track) ≡ b → (b && is_written origin) ≡ false
    by_place true e = absurd (apart q here off (sym (eqb-true q w.track e)))
    by_place false e = refl

  -- that of a command is open at none that is watched
  pub half_unwatched : (c : Core) (h : HalfWrite (Unit {0})) → Keeps w c → c.half ≡ Some h → is_written h.origin ≡ true → is_watched w h.track ≡ false
  half_unwatched c h k is written = by_number (w.device == w.number) refl where
    by_number : (b : Bool) → (w.device == w.number) ≡ b → (b && (h.track == w.track)) ≡ false
    by_number true e =
        let i = k.calm (eqb-true w.device w.number e) in
        not_both (h.track == w.track) (is_written h.origin)
        (subst (λ (o : Option (HalfWrite (Unit {0}))). is_written_at o w.track ≡ false) is i.half) written
    by_number false e = refl

  -- The image of the track

  pub image_is : (s : MarksStore) (q : ℕ) → Keeps w (core_of s) → is_watched w q ≡ true → plain_at s q ≡ watched_image w
  image_is s q k on =
      let two = watched_so q on in
      let i = k.calm two.0 in
      ap (λ (x : ℕ). plain_at s x) two.1
      ∙ ap (λ (g : Geometry). record { geometry = g; track = track_in s.plain w.track }) i.geometry
      ∙ ap (λ (x : Track). record { geometry = w.geometry; track = x }) i.plain
