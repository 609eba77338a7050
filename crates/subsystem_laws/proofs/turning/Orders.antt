-- A device goes on beside the plain device of its history, and to stand so, behind the orders that hold a side, resume it, put a volume of as many
-- tracks in place of a failed one, give it a side B, or take that away.
use Rattle.std.proofs.Common.{◌≡◌, ◌∙◌, ℕ, Bool, true, false, List, [], ◌∷◌, Option, Some, None, is_some, length, refl, sym, ap, subst}
use Rattle.std.specs.Prelude.{not, option_map}
use Rattle.ckd_types.specs.declared.paths.Side.{Side}
use Rattle.ckd_types.specs.declared.paths.Side.TheVariants.{A, B}
use Rattle.ckd_types.specs.declared.record.Track.{Track}
use Rattle.track_image.specs.Image.{Image}
use Rattle.device_outside.specs.Outside.{Outside, with_view}
use Rattle.device_outside.specs.Volume.{VolumeView}
use Rattle.device_defs.specs.Marks.{MarksDevice, half_mark}
use Rattle.device_defs.specs.Orders.{join, replace, split}
use Rattle.device_defs.specs.Store.{HalfWrite, side_of, tracks_of}
use Rattle.device_laws.specs.SoundOn.{begun_as}
use Rattle.device_laws.specs.Whole.{WholeDevice, holding, marks_device}
use Rattle.device_laws.proofs.OrdersInOrder.{join_order, replace_order, replace_same, split_order}
use Rattle.device_laws.proofs.PlainCommand.{follows_store}
use Rattle.device_laws.proofs.PlainTurns.{Follows}
use Rattle.device_laws.proofs.TwinLaws.{held_side_leaves_order}
use Rattle.subsystem_defs.specs.declared.end.OrderFault.TheVariants.{Unpaired, Down, Half}
use Rattle.subsystem_defs.specs.Refusals as R
use Rattle.subsystem_defs.specs.Refusals.{replace_fault, suspend_fault, unpair_fault}
use Rattle.subsystem_laws.specs.CameAbout.{CameAboutOn}
use Rattle.subsystem_laws.specs.Excused.{has_fresh}
use Rattle.subsystem_laws.proofs.AboutRuns.{about_kept_on}
use Rattle.subsystem_laws.proofs.WholeHappens.{suspend_fault_both}
use Rattle.subsystem_laws.proofs.WholeOrders.{down_by, fault_both, paired_by}
use Rattle.subsystem_laws.proofs.WholeUnpairs.{may_part}
use Rattle.subsystem_laws.specs.Standing.{IsBesideOn, StandsOn, Untold}
use Rattle.subsystem_laws.proofs.turning.Beside.{marks}

pub held_beside : {first : ℕ → List Track} {K : Type 0} (d : WholeDevice) (u : Outside (List ℕ) K) (held : Bool) → IsBesideOn first d u →
    IsBesideOn first (record d { store = record d.store { held = held } }) u
held_beside {first = first} d u held s = record {
  plain = s.plain;
  firm = s.firm;
  held = s.held;
  untold = s.untold;
  order = held_side_leaves_order s.plain s.firm d.store s.held held s.order;
  follows = follows_store d.store.device (begun_as first d) (marks_device s.plain s.firm d) s.follows
      (record (marks_device s.plain s.firm d).store { held = held }) refl;
  gives = s.gives;
}

-- held, where that isn't refused, or resumed
held_about : {first : ℕ → List Track} {K : Type 0} (d : WholeDevice) (u : Outside (List ℕ) K) (held : Bool) → (held ≡ true → suspend_fault d ≡ None) → (s : StandsOn first d u) →
    CameAboutOn first (record (marks s.beside) { store = record (marks s.beside).store { held = held } })
held_about {first = first} d u true fault s = (about_kept_on first).held (marks s.beside) (suspend_fault_both s.beside.plain s.beside.firm d ∙ fault refl) s.about
held_about {first = first} d u false fault s =
    (about_kept_on first).resumed (marks s.beside) (λ away. at_home (is_some d.store.lent) s.beside.order.free away) s.about
  where
    at_home : {X : Type 0} (b : Bool) → b ≡ false → b ≡ true → X
    at_home true e f = absurd (cc)
    at_home false e f = absurd (cc)

pub held_stands : {first : ℕ → List Track} {K : Type 0} (d : WholeDevice) (u : Outside (List ℕ) K) (held : Bool) → (held ≡ true → suspend_fault d ≡ None) → StandsOn first d u →
    StandsOn first (record d { store = record d.store { held = held } }) u
unfolding held_beside
held_stands d u held fault s = record { beside = held_beside d u held s.beside; about = held_about d u held fault s; never = s.never }

module _ {first : ℕ → List Track} {K : Type 0} (d : WholeDevice) (u : Outside (List ℕ) K) (v : VolumeView (List ℕ)) (l : List (List ℕ)) (tells : v.contents ≡ Some l)
    (long : length l ≡ tracks_of d.store) where
  replaced_untold : (side : Side) (s : IsBesideOn first d u) → Untold (with_view u side v) (holding s.held side l)
  replaced_untold A s = record { a = tells; b = s.untold.b; slots = s.untold.slots }
  replaced_untold B s = record { a = s.untold.a; b = tells; slots = s.untold.slots }

  replaced_follows : (side : Side) (s : IsBesideOn first d u) →
      Follows (replace d side).store.device (begun_as first (replace d side)) (replace (marks s) side)
  replaced_follows A s = follows_store d.store.device (begun_as first d) (marks s) s.follows (replace (marks s) A).store refl
  replaced_follows B s = follows_store d.store.device (begun_as first d) (marks s) s.follows (replace (marks s) B).store refl

  replaced_never : (side : Side) → StandsOn first d u → has_fresh (replace d side).history.items ≡ false
  replaced_never A s = s.never
  replaced_never B s = s.never

  pub replaced_beside : (side : Side) → IsBesideOn first d u → (side_of d.store side).up ≡ false → (side ≡ B → d.store.paired ≡ true) →
      IsBesideOn first (replace d side) (with_view u side v)
  replaced_beside side s down paired = record {
    plain = s.plain;
    firm = s.firm;
    held = holding s.held side l;
    untold = replaced_untold side s;
    order = replace_order s.plain s.firm d s.held side l s.order down paired long;
    follows = subst (λ (m : MarksDevice). Follows (replace d side).store.device (begun_as first (replace d side)) m)
        (sym (replace_same s.plain s.firm d s.held side)) (replaced_follows side s);
    gives = s.gives;
  }

  pub replaced_stands : (side : Side) → StandsOn first d u → replace_fault d side ≡ None → StandsOn first (replace d side) (with_view u side v)
  unfolding replaced_beside
  replaced_stands side s fault = let is = down_by d side fault in record {
    beside = replaced_beside side s.beside is.0 (paired_by d side is.1);
    never = replaced_never side s;
    about = subst (CameAboutOn first) (sym (replace_same s.beside.plain s.beside.firm d s.beside.held side))
        ((about_kept_on first).replaced (marks s.beside) side (fault_both s.beside.plain s.beside.firm d side ∙ fault) s.about);
  }

-- Another device's volume becomes side B

module _ {first : ℕ → List Track} {K : Type 0} (d : WholeDevice) (u : Outside (List ℕ) K) (v : VolumeView (List ℕ)) (l : List (List ℕ)) (tells : v.contents ≡ Some l)
    (long : length l ≡ tracks_of d.store) (single : d.store.paired ≡ false) where
  pub joined_beside : IsBesideOn first d u → IsBesideOn first (join d) (with_view u B v)
  joined_beside s = record {
    plain = s.plain;
    firm = s.firm;
    held = holding s.held B l;
    untold = record { a = s.untold.a; b = tells; slots = s.untold.slots };
    order = join_order s.plain s.firm d s.held l s.order single long;
    follows = follows_store d.store.device (begun_as first d) (marks s) s.follows (join (marks s)).store refl;
    gives = s.gives;
  }

  pub joined_stands : StandsOn first d u → StandsOn first (join d) (with_view u B v)
  unfolding joined_beside
  joined_stands s = record {
    beside = joined_beside s.beside;
    about = (about_kept_on first).joins (marks s.beside) (single, s.beside.order.free) s.about;
    never = s.never;
  }

-- Side B leaves, where that isn't refused

some_marked : (o : Option (HalfWrite Image)) → is_some (option_map half_mark o) ≡ is_some o
some_marked None = refl
some_marked (Some hw) = refl

unpair_both : (d : WholeDevice) (v w : List Track) → unpair_fault (marks_device v w d) ≡ unpair_fault d
unfolding R.unpair_fault
unpair_both d v w =
    ap (λ (b : Bool). R.first_cause (R.where_so (not d.store.paired) Unpaired ∷ R.active_by d.history.running ∷ R.where_so b Half
    ∷ R.where_so (not d.store.a.up) Down ∷ R.not_level_by (R.stale_count d.store) ∷ [])) (some_marked d.store.half)

module _ {first : ℕ → List Track} {K : Type 0} (d : WholeDevice) (u : Outside (List ℕ) K) (fault : unpair_fault d ≡ None) where
  pub split_beside : IsBesideOn first d u → IsBesideOn first (split d) (record u { b = None })
  split_beside s =
      let may = may_part d fault in
      record {
        plain = s.plain;
        firm = s.firm;
        held = s.held;
        untold = record { a = s.untold.a; b = tt; slots = s.untold.slots };
        order = split_order s.plain s.firm d s.held s.order may.none may.up may.level;
        follows = follows_store d.store.device (begun_as first d) (marks s) s.follows (split (marks s)).store refl;
        gives = s.gives;
      }

  pub split_stands : StandsOn first d u → StandsOn first (split d) (record u { b = None })
  unfolding split_beside
  split_stands s = record {
    beside = split_beside s.beside;
    about = (about_kept_on first).splits (marks s.beside) (unpair_both d s.beside.plain s.beside.firm ∙ fault) s.about;
    never = s.never;
  }
