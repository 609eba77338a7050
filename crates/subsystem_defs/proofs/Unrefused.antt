-- What holds where an order isn't refused.
use Rattle.std.proofs.Common.{◌≡◌, ◌==◌, ◌&&◌, ℕ, Bool, true, false, List, ◌∷◌, Option, Some, None, is_some, not, refl}
use Rattle.std.proofs.lemmas.Bool.{eqb-true}
use Rattle.plain_defs.specs.History.{OpenEntry}
use Rattle.device_defs.specs.Device.{Device}
use Rattle.subsystem_defs.specs.declared.end.OrderFault.{OrderFault}
use Rattle.subsystem_defs.specs.declared.end.OrderFault.TheVariants.{Same, Paired, Unpaired, Geometry, Half, Down}
use Rattle.subsystem_defs.specs.Refusals as R
use Rattle.subsystem_defs.specs.Refusals.{pair_fault, unpair_fault}

pub first_none : (o : Option OrderFault) (more : List (Option OrderFault)) → R.first_cause (o ∷ more) ≡ None → (o ≡ None) × (R.first_cause more ≡ None)
first_none None more e = (refl, e)
first_none (Some f) more e = absurd (cc)

pub where_none : (b : Bool) (f : OrderFault) → R.where_so b f ≡ None → b ≡ false
where_none true f e = absurd (cc)
where_none false f e = refl

lent_none : (o : Option ℕ) → R.lent_by o ≡ None → is_some o ≡ false
lent_none None e = refl
lent_none (Some to) e = absurd (cc)

active_none : (o : Option OpenEntry) → R.active_by o ≡ None → o ≡ None
active_none None e = refl
active_none (Some o) e = absurd (cc)

pub is_not : (b : Bool) → not b ≡ false → b ≡ true
is_not true e = refl
is_not false e = absurd (cc)

both_are : (x y : Bool) → (x && y) ≡ true → y ≡ true
both_are true y e = e
both_are false y e = absurd (cc)

module _ {F P H : Type 0} where
  -- two devices that may become a pair
  pub record MayPair (x y : Device F P H) : Type 0 where
    pub other : (x.store.device == y.store.device) ≡ false
    pub free_x : is_some x.store.lent ≡ false
    pub free_y : is_some y.store.lent ≡ false
    pub single_x : x.store.paired ≡ false
    pub single_y : y.store.paired ≡ false
    pub idle : y.history.running ≡ None
    pub alike : x.store.cylinders ≡ y.store.cylinders
    pub up : y.store.a.up ≡ true

  pub may_pair : (x y : Device F P H) → pair_fault x y ≡ None → MayPair x y
  unfolding R.pair_fault
  may_pair x y e =
      let a = first_none (R.where_so (x.store.device == y.store.device) Same) _ e in
      let b = first_none (R.lent_by x.store.lent) _ a.1 in
      let c = first_none (R.lent_by y.store.lent) _ b.1 in
      let d = first_none (R.where_so x.store.paired Paired) _ c.1 in
      let f = first_none (R.where_so y.store.paired Paired) _ d.1 in
      let g = first_none (R.active_by x.history.running) _ f.1 in
      let h = first_none (R.active_by y.history.running) _ g.1 in
      let i = first_none (R.where_so (not (R.is_alike x.store y.store)) Geometry) _ h.1 in
      let j = first_none (R.where_so (not x.store.a.up) Down) _ i.1 in
      let k = first_none (R.where_so (not y.store.a.up) Down) _ j.1 in
      let alike = is_not (R.is_alike x.store y.store) (where_none (not (R.is_alike x.store y.store)) Geometry i.0) in
      record {
        other = where_none (x.store.device == y.store.device) Same a.0;
        free_x = lent_none x.store.lent b.0;
        free_y = lent_none y.store.lent c.0;
        single_x = where_none x.store.paired Paired d.0;
        single_y = where_none y.store.paired Paired f.0;
        idle = active_none y.history.running h.0;
        alike = eqb-true x.store.cylinders y.store.cylinders
            (both_are (R.is_same_kind x.store.geometry y.store.geometry) (x.store.cylinders == y.store.cylinders) alike);
        up = is_not y.store.a.up (where_none (not y.store.a.up) Down k.0);
      }

  -- side A of a pair that may be taken apart
  pub parts_up : (x : Device F P H) → unpair_fault x ≡ None → x.store.a.up ≡ true
  unfolding R.unpair_fault
  parts_up x e =
      let a = first_none (R.where_so (not x.store.paired) Unpaired) _ e in
      let b = first_none (R.active_by x.history.running) _ a.1 in
      let c = first_none (R.where_so (is_some x.store.half) Half) _ b.1 in
      let f = first_none (R.where_so (not x.store.a.up) Down) _ c.1 in
      is_not x.store.a.up (where_none (not x.store.a.up) Down f.0)
