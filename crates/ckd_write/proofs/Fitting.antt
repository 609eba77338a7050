-- A track that fits still fits with an edit that suits it.
use Rattle.std.proofs.Common.{
  ◌≡◌,
  ◌<◌,
  ℕ,
  zero,
  suc,
  List,
  [],
  ◌∷◌,
  length,
  get_or,
  set,
  refl,
  arith,
  ap,
  ◌∙◌,
}
use Rattle.std.proofs.lemmas.Bool.{leb-true}
use Rattle.std.proofs.lemmas.List.{nil_from_length}
use Rattle.std.proofs.lemmas.List.Elements.{All-nil, All-cons, All-set, All-get_or}
use Rattle.std.proofs.lemmas.List.Sums.{sum_by-set}
use Rattle.ckd_types.specs.declared.geometry.Geometry.{Geometry}
use Rattle.ckd_types.specs.declared.record.Edit.{Edit}
use Rattle.ckd_types.specs.declared.record.Edit.TheVariants.{Update, Format, Zero}
use Rattle.ckd_types.specs.declared.record.Record.{Record}
use Rattle.ckd_types.specs.declared.record.Track.{Track}
use Rattle.ckd_types.specs.Edit.{apply_edit}
use Rattle.ckd_types.specs.Geometry.{cost}
use Rattle.ckd_types.specs.Track.{IsRecord, HasZero, Fits, cost_of, empty_zero}
use Rattle.ckd_rules.specs.Facts.{Suits}
use Rattle.track_image.proofs.Sizes.{formats}
use Rattle.ckd_write.specs.Ranges.{HasRanges}

cost_kept : (g : Geometry) (rs : List Record) (i : ℕ) (x d : Record) → i < length rs
    → length x.key ≡ length (get_or rs i d).key → length x.body ≡ length (get_or rs i d).body
    → cost_of g (set rs i x) ≡ cost_of g rs
cost_kept g [] i x d inside key body = absurd (omega (arith, inside))
cost_kept g (r ∷ rs) zero x d inside key body = refl
cost_kept g (r ∷ rs) (suc i) x d inside key body =
    let unit = λ (y : Record). cost g (length y.key) (length y.body) in
    let same : cost g (length x.key) (length x.body) ≡ cost g (length (get_or rs i d).key)
    (length (get_or rs i d).body) = ap (λ (n : ℕ). cost g n (length x.body)) key
    ∙ ap (λ (n : ℕ). cost g (length (get_or rs i d).key) n) body in
    let sum = sum_by-set unit rs i x d (omega (arith, inside)) in omega (arith, sum, same)

zero_kept : (rs : List Record) (i : ℕ) (x d : Record) → i < length rs → length x.key ≡ length (get_or rs i d).key
    → length x.body ≡ length (get_or rs i d).body → HasZero rs → HasZero (set rs i x)
zero_kept [] i x d inside key body first = absurd first
zero_kept (r ∷ rs) zero x d inside key body first = (nil_from_length x.key (key ∙ ap length first.0), body ∙ first.1)
zero_kept (r ∷ rs) (suc i) x d inside key body first = first

pub edited_fits : (g : Geometry) (t : Track) (e : Edit) → Fits g t → Suits g t.records e → HasRanges e
    → Fits g (apply_edit e t)
edited_fits g t (Update i key body) fits suits ranges =
    let old = get_or t.records i (empty_zero 0) in
    let is = All-get_or IsRecord t.records i (empty_zero 0) suits.place fits.records in
    let same = cost_kept g t.records i (record old { key = key; body = body }) (empty_zero 0) suits.place
    suits.key_length suits.body_length in
    let keyed = suits.key_length in
    let long = suits.body_length in
    let short_key = is.key in
    let short = is.body in record {
      home = fits.home;
      zero = zero_kept t.records i (record old { key = key; body = body }) (empty_zero 0) suits.place suits.key_length
          suits.body_length fits.zero;
      records = All-set IsRecord t.records i (record old { key = key; body = body })
          (record {
            cchh = is.cchh;
            number = is.number;
            key = omega (arith, keyed, short_key);
            body =
                omega (arith, long, short);
          }) fits.records;
      cost = let cost = fits.cost in omega (arith, same, cost);
    }
edited_fits g t (Format after added) fits suits ranges =
    (formats g t after added fits suits.ranges (leb-true _ _ suits.room)).0
edited_fits g t (Zero added) fits suits ranges = record {
  home = fits.home;
  zero = (nil_from_length added.key suits.key, suits.body);
  records = All-cons IsRecord added [] ranges (All-nil IsRecord);
  cost = omega arith;
}
