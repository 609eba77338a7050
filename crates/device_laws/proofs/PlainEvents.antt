-- A new device of a run and a start keep its history a plain device's.
use Rattle.std.proofs.Common.{◌≡◌, ◌<◌, ◌≤◌, ◌*◌, ℕ, true, false, List, [], length, Option, Some, None, get_or, refl, sym, ap, subst, ◌∙◌, arith, inl, inr}
use Rattle.std.specs.Prelude.{◌⊎◌, replicate}
use Rattle.std.proofs.lemmas.Bool.{cases_lt}
use Rattle.std.proofs.lemmas.List.{get_or-replicate, get_or_past, length-replicate}
use Rattle.ckd_types.specs.declared.geometry.Geometry.{Geometry}
use Rattle.ckd_types.specs.declared.record.Track.{Track}
use Rattle.ckd_chain.specs.State.{ChainState}
use Rattle.ckd_chain.specs.Steps.{begun_chain}
use Rattle.plain_defs.specs.History.{OpenEntry, open_part, state_by}
use Rattle.plain_defs.specs.Journal.{Plans, replay}
use Rattle.plain_defs.specs.PlainState.{PlainState, fixed_of as plain_fixed}
use Rattle.plain_defs.specs.Program.{Part, first_part, sense_begun}
use Rattle.plain_defs.proofs.PartLemmas.{acted_nothing}
use Rattle.device_outside.specs.Interaction.{Interaction, Done, Try, Ask, Read, Write, Tell}
use Rattle.device_outside.specs.Keeper.{reply}
use Rattle.device_defs.specs.Marks.{MarksDevice}
use Rattle.device_defs.specs.Start as S
use Rattle.device_defs.specs.Start.{start, start_fault, fault_by, next_program, next_ordinal}
use Rattle.device_defs.specs.Store.{store_fixed}
use Rattle.device_laws.specs.NewDevice.{device_on, first_state}
use Rattle.device_laws.proofs.Always as A
use Rattle.device_laws.proofs.Always.{Behind, Always}
use Rattle.device_laws.proofs.ChainAtHand.{start_at_hand}
use Rattle.device_laws.proofs.DeviceEnds.{new_stands, start_stands}
use Rattle.device_laws.proofs.DeviceHistory.{starts_where_idle}
use Rattle.device_laws.proofs.Had as H
use Rattle.device_laws.proofs.Had.{BehindHad, Had}
use Rattle.device_laws.proofs.OpenProgram.{part_is_acted}
use Rattle.device_laws.proofs.PathsAlong.{idle_paths, start_keeps}
use Rattle.device_laws.proofs.PlainStores.{core_of, IsOf}
use Rattle.device_laws.proofs.PlainTurns.{RunsAt, Follows, of_paths, mid_other, at_home}

-- What holds always holds where memory is had

had_by : {R I S A : Type 0} (i : Interaction R I S A) (q : S → A → Type 0) → Behind i q → BehindHad i q
unfolding A.Behind H.BehindHad
had_by (Done s a) q h = h
had_by (Try k) q h = had_by (k true) q (h true)
had_by (Ask call k) q h = λ a. had_by (k a) q (h a)
had_by (Read side t k) q h = λ got. had_by (k got) q (h got)
had_by (Write side t r k) q h = λ ok. had_by (k ok) q (h ok)
had_by (Tell m k) q h = had_by (k (reply m)) q (h (reply m))

pub had_always : {R I S A : Type 0} {i : Interaction R I S A} {q : S → A → Type 0} → Always i q → Had i q
had_always {i = i} {q = q} h = record { holds = had_by i q h.holds }

both_by : {R I S A : Type 0} (i : Interaction R I S A) (p q : S → A → Type 0) → BehindHad i p → BehindHad i q → BehindHad i (λ s a. p s a × q s a)
unfolding H.BehindHad
both_by (Done s a) p q h g = (h, g)
both_by (Try k) p q h g = both_by (k true) p q h g
both_by (Ask call k) p q h g = λ a. both_by (k a) p q (h a) (g a)
both_by (Read side t k) p q h g = λ got. both_by (k got) p q (h got) (g got)
both_by (Write side t r k) p q h g = λ ok. both_by (k ok) p q (h ok) (g ok)
both_by (Tell m k) p q h g = both_by (k (reply m)) p q h g

pub had_both : {R I S A : Type 0} {i : Interaction R I S A} {p q : S → A → Type 0} → Had i p → Had i q → Had i (λ s a. p s a × q s a)
had_both {i = i} {p = p} {q = q} h g = record { holds = both_by i p q h.holds g.holds }

-- A new device

pub none_loose : (n t : ℕ) → get_or (replicate n false) t false ≡ false
none_loose n t = by_place (cases_lt t n) where
  by_place : (t < n) ⊎ (n ≤ t) → get_or (replicate n false) t false ≡ false
  by_place (inl lt) = get_or-replicate n t false false lt
  by_place (inr le) = let many : length (replicate n false) ≡ n = length-replicate n false in get_or_past (replicate n false) t false (omega (arith, le, many))

pub first_follows : (d : ℕ) (g : Geometry) (n : ℕ) (v : List Track) (plans : Plans) → length v ≡ n * 15 → 0 < n →
    Follows d (first_state g n v) (device_on d g n v plans)
first_follows d g n v plans many some = record {
  number = refl;
  base = refl;
  some = some;
  stands = new_stands (first_state g n v) (device_on d g n v plans) refl;
  keeps = refl;
  of = record {
    geometry = refl;
    cylinders = refl;
    number = refl;
    volume = refl;
    loose = λ t. sym (none_loose (n * 15) t);
    firm = λ t. refl;
    firms = refl;
    looses = length-replicate (n * 15) false ∙ sym many;
    tracks = many;
  };
  places = length-replicate (n * 15) None ∙ sym (length-replicate (n * 15) false);
  before = None;
  runs = tt;
  chain = tt;
  mid = refl;
  home = tt;
}

pub runs_idle : (plans : Plans) (x : PlainState) (r : Option OpenEntry) (k : Option ChainState) → r ≡ None → RunsAt plans x r k
runs_idle plans x (Some o) k is = absurd (cc)
runs_idle plans x None k is = tt

-- A start

home_by : (d : MarksDevice) (path : ℕ) (lent : Option ℕ) → fault_by d path lent ≡ None → lent ≡ None
home_by d path (Some of) is = absurd (cc)
home_by d path None is = refl

-- a device that is lent starts none
starts_at_home : (d : MarksDevice) (path : ℕ) → start_fault d path ≡ None → d.store.lent ≡ None
unfolding S.start_fault
starts_at_home d path is = home_by d path d.store.lent is

module _ (num : ℕ) (empty : PlainState) (d : MarksDevice) (f : Follows num empty d) where
  abbrev s : PlainState
  s = replay d.plans empty d.history.items

  idle_of : d.history.running ≡ None → IsOf (replay d.plans empty d.history.items) (core_of d.store)
  idle_of none = subst (λ (x : PlainState). IsOf x (core_of d.store)) (ap (λ (r : Option OpenEntry). state_by d.plans s r) none) f.of

  module _ (path : ℕ) (least : 1 ≤ path) (most : path ≤ 4) where
    first_is : open_part d.plans s (record { path = path; ordinal = next_ordinal d path; ends = []; acts = [] }) ≡ first_part s path (next_program d path)
    first_is = part_is_acted path (next_program d path) s [] 0 ∙ acted_nothing [] (first_part s path (next_program d path)) refl

    fixed_is : d.history.running ≡ None → store_fixed d.store ≡ plain_fixed s
    fixed_is none =
        let of = idle_of none in
        ap (λ (g : Geometry). record { geometry = g; cylinders = d.store.cylinders; number = d.store.number }) (sym of.geometry)
        ∙ ap (λ (n : ℕ). record { geometry = s.geometry; cylinders = n; number = d.store.number }) (sym of.cylinders)
        ∙ ap (λ (n : ℕ). record { geometry = s.geometry; cylinders = s.cylinders; number = n }) (sym of.number)

    -- a path's next program
    pub start_follows : start_fault d path ≡ None → Follows num empty (start d path)
    unfolding S.start
    start_follows is =
        let none = starts_where_idle d path is in
        record {
          number = f.number;
          base = f.base;
          some = f.some;
          stands = start_stands empty d f.stands path least most (idle_paths empty d f.keeps none) is;
          keeps = start_keeps empty d f.keeps path none;
          of = rw (ap (λ (p : Part). p.state) first_is)
              (of_paths s (core_of d.store) (idle_of none) (sense_begun s.paths path (next_program d path)));
          places = f.places;
          before = Some (begun_chain (next_program d path) (store_fixed d.store));
          runs = record {
            hand = start_at_hand d.plans s path (next_ordinal d path) (store_fixed d.store);
            stance = sym (ap (λ (p : Part). p.stance) first_is);
            fixed = fixed_is none ∙ sym (ap (λ (p : Part). p.fixed) first_is);
            fresh = refl;
          };
          chain = (refl, refl);
          mid = mid_other (core_of d.store) (core_of d.store) d.store.half d.history.running (start d path).history.running f.before d.chain
              (Some (begun_chain (next_program d path) (store_fixed d.store))) (Some (begun_chain (next_program d path) (store_fixed d.store))) none f.mid refl;
          home = at_home d.store.lent (start d path).history.running (starts_at_home d path is);
        }
