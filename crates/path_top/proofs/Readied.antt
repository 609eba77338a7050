-- The devices of a deck behind its first pairs, as the run of their paths finds them.
use Rattle.std.proofs.Common.{◌≡◌, ◌∙◌, ℕ, true, List, [], ◌∷◌, map, Option, Some, None, is_some, refl, sym, ap, subst, le_of_eq}
use Rattle.std.proofs.lemmas.Bool.{and_from}
use Rattle.std.specs.Prelude.{◌&&◌, option_map}
use Rattle.std.specs.List.{AllZip}
use Rattle.deck_text.specs.declared.line.DeviceLine.{DeviceLine}
use Rattle.deck_text.specs.DeckLines.{DeckLines}
use Rattle.deck_text.specs.Plans.{plans_of}
use Rattle.plain_defs.specs.History.{History, no_history}
use Rattle.device_outside.specs.declared.volume.Volume.{Ghosts}
use Rattle.device_outside.specs.Both.{SideTold}
use Rattle.device_outside.specs.Outside.{Outside, no_pool}
use Rattle.device_outside.specs.Told.{Calls}
use Rattle.device_outside.specs.Volume.{Plan, VolumeView}
use Rattle.device_defs.specs.Marks.{no_counts}
use Rattle.device_laws.specs.Lent.{in_order, is_away}
use Rattle.device_laws.specs.SoundOn.{begun_as}
use Rattle.device_laws.specs.Lent as lent
use Rattle.device_laws.specs.Whole.{marks_device}
use Rattle.device_laws.proofs.PlainTurns.{Follows}
use Rattle.plain_defs.specs.Whole.{GiveBytes}
use Rattle.subsystem_laws.specs.Standing.{StandsOn}
use Rattle.device_core.specs.declared.device.Device.{Device}
use Rattle.device_core.specs.State.{device_of}
use Rattle.subsystem_core.specs.declared.subsystem.Subsystem.{Subsystem}
use Rattle.subsystem_defs.specs.Subsystem.{Mounted}
use Rattle.subsystem_laws.specs.Excused.{has_fresh}
use Rattle.subsystem_defs.specs.Decks.{Firsts, plan_for}
use Rattle.subsystem_defs.specs.Promised.{first_of}
use Rattle.subsystem_laws.specs.WholeStood.{Stood, IsMounted, is_mounted, AreMountedBy, one_more}
use Rattle.subsystem_laws.proofs.AllSound.{side_tells}
use Rattle.subsystem_laws.proofs.PlainRuns.{still_first}
use Rattle.subsystem_laws.proofs.turning.Beside.{own_follows}
use Rattle.deck_run.specs.Owning.{AllOwn}
use Rattle.deck_run.specs.Standing.{StandsAs, all_stood, stood_of}
use Rattle.path_workers.proofs.Planned.{tells_planned}
use Rattle.path_workers.proofs.Pooled.{untold_order}
use Rattle.path_workers.specs.Keeping.{tells}
use Rattle.path_workers.specs.Planned.{as_planned, come_once, told_planned}
use Rattle.path_top.specs.Pairs.{all_lent, lent_of, paired_on}
use Rattle.path_top.specs.Excuses.{faults_of, lent_faults}
use Rattle.path_top.proofs.Failing.{FailsFew, failing_in, planned}
use Rattle.path_top.proofs.NewDevices.{AreNew, AreNewWith, IsNew, begun}

-- A device that is mounted

some_so : {X : Type 0} (o : Option X) (x : X) → o ≡ Some x → is_some o ≡ true
some_so (Some y) x e = refl
some_so None x e = absurd (cc)

tells_so : (v : Option (VolumeView (List ℕ))) (l : List (List ℕ)) (u : Calls) → SideTold v l u → tells (option_map as_planned v) ≡ true
tells_so None l u told = refl
tells_so (Some v) l u told = some_so v.contents l told.contents

abbrev outside_of : Stood → Outside (List ℕ) (Unit {0})
outside_of x = told_planned (record { port = no_pool 0; a = x.a; b = x.b; keeper = tt {0} })

none_some : {X Y : Type 0} (o : Option X) → o ≡ None → is_some o ≡ true → Y
none_some (Some x) e f = absurd (cc)
none_some None e f = absurd (cc)

-- so many calls of a side's volume fail at most
abbrev pub FailsWithin : ℕ → Option (VolumeView (List ℕ)) → Type 0
FailsWithin n None = Unit {0}
FailsWithin n (Some v) = (p : Plan) × ((v.plan ≡ Some p) × FailsFew n p)

side_within : (v : Option (VolumeView (List ℕ))) (l : List (List ℕ)) (u : Calls) (n : ℕ) → SideTold v l u → FailsFew n u.plan → FailsWithin n v
side_within None l u n told few = tt
side_within (Some v) l u n told few = (u.plan, (told.plan, few))

-- what is so of the one that stands there
pub record IsUsable (firsts : Firsts) (deck : DeckLines) (line : DeviceLine) (to : Option ℕ) (x : Stood) : Type 0 where
  pub number : x.device.store.device ≡ line.number
  pub plans : x.device.plans ≡ plans_of deck.programs line.number
  pub none : x.device.history ≡ no_history
  pub base : begun firsts line ≡ begun_as (firsts line.number) x.device
  pub lent : x.device.store.lent ≡ to
  pub cylinders : x.device.store.cylinders ≡ line.cylinders
  pub counts : x.device.store.counts ≡ no_counts
  pub own : FailsWithin (faults_of deck line.number) x.a
  pub mate : x.device.store.lent ≡ None → x.device.store.paired ≡ true → FailsWithin (lent_faults deck line.number (paired_on firsts deck).mounted) x.b
  pub tells_it : (tells (outside_of x).a && tells (outside_of x).b) ≡ true
  pub stands : x.device.store.lent ≡ None → StandsOn (firsts line.number) x.device (outside_of x)

follows_so : (firsts : Firsts) (line : DeviceLine) (m : Mounted) → Follows line.number (begun firsts line) m.device →
    Follows m.device.store.device (first_of (firsts line.number) m.device) m.device
follows_so firsts line m f = own_follows (firsts line.number) line.number (begun firsts line) m.device f refl

one_usable : {mine : List ℕ} {x : Stood} {m : Mounted} (firsts : Firsts) (deck : DeckLines) (line : DeviceLine) → IsMounted mine x m →
    IsNew firsts deck (λ n. lent_faults deck n (paired_on firsts deck).mounted) line m → GiveBytes x.device.plans →
    (come_once (plan_for deck.faults line.number).reads && come_once (plan_for deck.faults line.number).writes) ≡ true →
    IsUsable firsts deck line (lent_of m) x
one_usable firsts deck line (is_mounted d v w h on_a on_b a b stands slots told_a told_b) p gives once = record {
  number = p.follows.number;
  plans = p.plans;
  none = p.none;
  base = still_first (firsts line.number) line.number (begun firsts line) (marks_device v w d) p.follows refl;
  lent = refl;
  cylinders = p.cylinders;
  counts = p.counts;
  own = side_within on_a h.a a (faults_of deck line.number) told_a (
    le_of_eq (ap failing_in p.own ∙ planned line.number deck.faults),
    subst (λ (q : Plan).
        (come_once q.reads && come_once q.writes) ≡ true) (sym p.own) once,
  );
  mate = λ free pair. side_within on_b h.b b (lent_faults deck line.number (paired_on firsts deck).mounted) told_b (p.mate free pair);
  tells_it = and_from (tells (option_map as_planned on_a)) (tells (option_map as_planned on_b)) (tells_so on_a h.a a told_a) (tells_so on_b h.b b told_b);
  stands = λ free. by_place free stands;
}
  where
    by_place : d.store.lent ≡ None → lent.Stands v w d h →
        StandsOn (firsts line.number) d (told_planned (record { port = no_pool 0; a = on_a; b = on_b; keeper = tt {0} }))
    by_place free (in_order i) = record {
      beside = record {
        plain = v;
        firm = w;
        held = record h { slots = None };
        untold = record {
          a = tells_planned on_a h.a (side_tells on_a h.a a told_a);
          b = tells_planned on_b h.b (side_tells on_b h.b b told_b);
          slots = refl;
        };
        order = untold_order d.store h v w i;
        follows = follows_so firsts line (record { device = marks_device v w d; a = a; b = b }) p.follows;
        gives = gives;
      };
      about = p.about free;
      never = ap (λ (h : History). has_fresh h.items) p.none;
    }
    by_place free (is_away l) = none_some d.store.lent free l.store.lent

module _ {V : Type 0} {G : Ghosts V} where
  -- a device in code, and to whom it is lent
  abbrev pub IsOpened : Firsts → DeckLines → DeviceLine → Device V G → Type 0
  IsOpened firsts deck line x = IsUsable firsts deck line (device_of x).store.lent (stood_of x)

  module _ (firsts : Firsts) (deck : DeckLines)
      (once : (n : ℕ) → (come_once (plan_for deck.faults n).reads && come_once (plan_for deck.faults n).writes) ≡ true) where
    all_opened : {used taken : List ℕ} (ls : List DeviceLine) (xs : List (Device V G)) (ms : List Mounted) →
        AreMountedBy used taken (all_stood xs) ms → AreNewWith firsts deck (λ n. lent_faults deck n (paired_on firsts deck).mounted) ls ms → AllOwn xs →
        AllZip (IsOpened firsts deck) ls xs × (map (λ (x : Device V G). (device_of x).store.lent) xs ≡ map lent_of ms)
    all_opened [] [] [] a n o = (tt, refl)
    all_opened [] [] (m ∷ ms) a n o = absurd n
    all_opened [] (x ∷ xs) [] a n o = elim a [ ]
    all_opened [] (x ∷ xs) (m ∷ ms) a n o = absurd n
    all_opened (line ∷ ls) [] [] a n o = absurd n
    all_opened (line ∷ ls) [] (m ∷ ms) a n o = elim a [ ]
    all_opened (line ∷ ls) (x ∷ xs) [] a n o = absurd n
    all_opened (line ∷ ls) (x ∷ xs) (m ∷ ms) (one_more mine is apart rest) n o =
        let u = one_usable firsts deck line is n.0 o.0.plans (once line.number) in
        let more = all_opened ls xs ms rest n.1 o.1 in (
          (
            record {
              number = u.number;
              plans = u.plans;
              none = u.none;
              base = u.base;
              lent = refl;
              cylinders = u.cylinders;
              counts = u.counts;
              own = u.own;
              mate = u.mate;
              tells_it = u.tells_it;
              stands = u.stands;
            },
            more.0,
          ),
          ap (λ (l : List (Option ℕ)). (device_of x).store.lent ∷ l) more.1 ∙ ap (λ (o : Option ℕ). o ∷ map lent_of ms) u.lent,
        )

    pub are_opened : (s : Subsystem V G) → StandsAs s (paired_on firsts deck) → AreNew firsts deck deck.devices (paired_on firsts deck).mounted →
        AllOwn s.devices.items →
        AllZip (IsOpened firsts deck) deck.devices s.devices.items
        × (map (λ (x : Device V G). (device_of x).store.lent) s.devices.items ≡ all_lent (paired_on firsts deck))
    are_opened s stands new own = all_opened deck.devices s.devices.items (paired_on firsts deck).mounted stands.mounted new own
