-- A program of the plain device, one command on.
use Rattle.std.proofs.Common.{[], ◌≡◌, ◌+◌, ◌-◌, ◌<◌, ◌≤◌, ◌++◌, ◌∷◌, ℕ, suc, List, Some, None, Option, true, false, length, refl, sym, ap, subst, ◌∙◌, arith}
use Rattle.std.specs.Prelude.{IfSome, IsSome, is_none}
use Rattle.std.proofs.lemmas.List.{length-append}
use Rattle.ckd_types.specs.declared.channel.Ccw.{Ccw}
use Rattle.ckd_types.specs.declared.channel.CommandEnd.{CommandEnd}
use Rattle.ckd_types.specs.declared.geometry.Geometry.{Geometry}
use Rattle.ckd_types.specs.Ccw.{ccw_at}
use Rattle.ckd_types.specs.Fixed.{Fixed}
use Rattle.ckd_chain.specs.declared.mark.Mark.{Mark}
use Rattle.ckd_chain.specs.declared.mark.Stage.{Stage}
use Rattle.ckd_chain.specs.Facts.{IsChain, AtHand}
use Rattle.ckd_chain.specs.State.{ChainState}
use Rattle.ckd_chain.specs.Steps.{index_of, mark_by, start_of, begun_chain}
use Rattle.ckd_rules.specs.declared.stance.Stance.{Stance}
use Rattle.ckd_rules.specs.Facts.{HasRoom}
use Rattle.plain_defs.specs.Acknowledged.{EditTold}
use Rattle.ckd_rules.specs.Ends.{end_at_word, goes_to}
use Rattle.plain_defs.specs.Effect.{Effect, effect_on, behind_effect}
use Rattle.plain_defs.specs.Ends.{LastIsOver}
use Rattle.plain_defs.specs.PlainState.{PlainState, fixed_of}
use Rattle.plain_defs.specs.declared.journal.Act.{Act}
use Rattle.plain_defs.specs.declared.journal.Acted.{Acted}
use Rattle.plain_defs.specs.Program.{Part, first_part, sense_begun, acts_at, acts_done, with_act, with_acts, acted_at, acts_made, command_run, one_more, part_of, whole_run}
use Rattle.plain_defs.proofs.PartLemmas.{acted_beside, acted_nothing, over_stays, part_more, part_over, over_later}
use Rattle.plain_device.specs.Between.{IsBetween, Ends, fixed_with}
use Rattle.plain_device.specs.Parts.{IsAtPart}

start_is : (s : ChainState) → s.stage ≡ None → start_of s ≡ s.at
start_is s is = ap (λ (x : Option Stage). mark_by s x) is

some_of : (next : Option ℕ) → is_none next ≡ false → IsSome next
some_of (Some i) is = refl
some_of None is = absurd (cc)

none_of : (next : Option ℕ) → is_none next ≡ true → next ≡ None
none_of None is = refl
none_of (Some i) is = absurd (cc)

pub between_of : (p : Part) (ccws : List Ccw) (device : PlainState) (chain : ChainState) (ends : List CommandEnd)
    → IsAtPart p ccws device chain ends → is_none chain.at.next ≡ false → IsBetween device chain
between_of p ccws device chain ends at more = record {
  fixed = at.on;
  stage = at.stage;
  running =
      some_of chain.at.next more;
}

-- the chain of a program that has begun
pub at_first : (start : PlainState) (path : ℕ) (ccws : List Ccw) (device : PlainState) (chain : ChainState)
    → device ≡ record start { paths = sense_begun start.paths path ccws } → chain ≡ begun_chain ccws (fixed_of start)
    → IsAtPart (first_part start path ccws) ccws device chain []
at_first start path ccws device chain device_is chain_is =
    subst (λ (d : PlainState). IsAtPart (first_part start path ccws) ccws d chain []) (sym device_is)
    (subst (λ (s : ChainState). IsAtPart (first_part start path ccws) ccws
    (record start { paths = sense_begun start.paths path ccws }) s []) (sym chain_is)
    (record {
      device_is = refl;
      fixed_is = refl;
      stance_is = refl;
      next_is = refl;
      ends_are = refl;
      words =
          refl;
      stage = refl;
      on = refl;
      counted = refl;
    }))

abbrev part_with : PlainState → ChainState → ℕ → List CommandEnd → List EditTold → Part
part_with device chain i ends told = record {
  fixed = chain.fixed;
  state = device;
  stance = chain.at.stance;
  next =
      Some i;
  ends = ends;
  told = told;
}

module _ (p : Part) (path : ℕ) (ccws : List Ccw) (device after : PlainState) (chain then_chain : ChainState)
    (ends : List CommandEnd) (e : CommandEnd) (at : IsAtPart p ccws device chain ends)
    (done : Ends device path after chain then_chain e) where
  part_is : (i : ℕ) → chain.at.next ≡ Some i → part_with device chain i ends p.told ≡ p
  part_is i is =
      ap (λ (x : PlainState). part_with x chain i ends p.told) at.device_is
      ∙ ap (λ (x : Fixed). record (part_with p.state chain i ends p.told) { fixed = x }) at.fixed_is
      ∙ ap (λ (x : Stance). record (part_with p.state chain i ends p.told) { fixed = p.fixed; stance = x }) at.stance_is
      ∙ ap (λ (x : Option ℕ). record (part_with p.state chain i ends p.told)
      { fixed = p.fixed; stance = p.stance; next = x }) (sym is ∙ at.next_is)
      ∙ ap (λ (x : List CommandEnd). record p { ends = x }) at.ends_are

  abbrev effect_at : List Ccw → Option ℕ → Effect
  effect_at l n = effect_on chain.fixed device path chain.at.stance (ccw_at l (index_of n))

  -- the end of the command of a word of some program
  pub record EndsAt (l : List Ccw) (n : Option ℕ) : Type 0 where
    pub end_is : e ≡ end_at_word (index_of n) (ccw_at l (index_of n)) (effect_at l n).outcome
    pub device_is : after ≡ behind_effect device (effect_at l n)
    pub goes : then_chain.at.next ≡ goes_to l (index_of n) (effect_at l n).outcome
    pub stance : then_chain.at.stance ≡ (effect_at l n).outcome.stance

  ends_here : EndsAt chain.ccws chain.at.next
  ends_here = record {
    end_is = done.end_is;
    device_is = done.device_is;
    goes = ap (λ (s : ChainState). s.at.next) done.chain_is;
    stance = ap (λ (s : ChainState). s.at.stance) done.chain_is;
  }

  ends_at : (i : ℕ) → chain.at.next ≡ Some i → EndsAt ccws (Some i)
  ends_at i is = subst (λ (n : Option ℕ). EndsAt ccws n) is
      (subst (λ (l : List Ccw). EndsAt l chain.at.next) at.words ends_here)

  module _ (later : List CommandEnd) (later_is : later ≡ ends ++ e ∷ []) where
    at_word : (i : ℕ) → chain.at.next ≡ Some i → IsAtPart (command_run path ccws (part_with device chain i ends p.told))
        ccws after then_chain later
    at_word i is =
        let here = ends_at i is in
        let fixed : then_chain.fixed ≡ chain.fixed = ap (λ (s : ChainState). s.fixed) done.chain_is in
        let many : length later ≡ length ends + 1 = ap length later_is ∙ length-append ends (e ∷ []) in
        let ended : then_chain.at.stance.commands ≡ chain.at.stance.commands + 1 =
        done.counted ∙ ap (λ (m : Mark). m.stance.commands + 1) (start_is chain at.stage) in
        let before : chain.at.stance.commands ≡ length ends = at.counted in
        record {
          device_is = here.device_is;
          fixed_is = fixed;
          stance_is = here.stance;
          next_is = here.goes;
          ends_are = later_is ∙ ap (λ (x : CommandEnd). ends ++ x ∷ []) here.end_is;
          words = ap (λ (s : ChainState). s.ccws) done.chain_is ∙ at.words;
          stage = ap (λ (s : ChainState). s.stage) done.chain_is;
          on =
              fixed
              ∙ at.on
              ∙ ap (λ (f : Fixed). fixed_with device f.number) (sym fixed)
              ∙ ap (λ (x : PlainState). fixed_with x then_chain.fixed.number) (sym here.device_is);
          counted = omega (arith, many, ended, before);
        }

    -- one command more
    pub at_more : is_none chain.at.next ≡ false → IsAtPart (command_run path ccws p) ccws after then_chain later
    at_more more = by_next chain.at.next refl more where
      by_next : (next : Option ℕ) → chain.at.next ≡ next → is_none next ≡ false
          → IsAtPart (command_run path ccws p) ccws after then_chain later
      by_next (Some i) is some = subst (λ (q : Part). IsAtPart (command_run path ccws q) ccws after then_chain later)
          (part_is i is) (at_word i is)
      by_next None is some = absurd (cc)

with_acts_state : (acts : List Act) (p : Part) → (with_acts acts p).state ≡ acts_done p.state acts
with_acts_state [] p = refl
with_acts_state (act ∷ acts) p = with_acts_state acts (with_act p act)

-- and the acts behind its last end, while it runs
pub at_acted : (acts : List Acted) (p : Part) (ccws : List Ccw) (device after : PlainState) (chain : ChainState)
    (ends : List CommandEnd) → IsAtPart p ccws device chain ends → is_none chain.at.next ≡ false
    → after ≡ acts_done device (acts_at acts (length ends))
    → (after.geometry ≡ device.geometry) × (after.cylinders ≡ device.cylinders)
    → IsAtPart (acts_made acts p) ccws after chain ends
at_acted acts p ccws device after chain ends at more after_is same = by_next chain.at.next refl more where
  by_next : (next : Option ℕ) → chain.at.next ≡ next → is_none next ≡ false
      → IsAtPart (acts_made acts p) ccws after chain ends
  by_next None is some = absurd (cc)
  by_next (Some i) is some =
      let beside = acted_beside acts p in
      let here : acts_made acts p ≡ with_acts (acts_at acts (length p.ends)) p =
      ap (λ (next : Option ℕ). acted_at acts p next) (sym at.next_is ∙ is) in record {
        device_is =
            after_is
            ∙ ap (λ (l : List CommandEnd). acts_done device (acts_at acts (length l))) at.ends_are
            ∙ ap (λ (d : PlainState). acts_done d (acts_at acts (length p.ends))) at.device_is
            ∙ sym (with_acts_state (acts_at acts (length p.ends)) p)
            ∙ ap (λ (q : Part). q.state) (sym here);
        fixed_is = at.fixed_is ∙ sym beside.fixed;
        stance_is = at.stance_is ∙ sym beside.stance;
        next_is = at.next_is ∙ sym beside.next;
        ends_are = at.ends_are ∙ sym beside.ends;
        words = at.words;
        stage = at.stage;
        on = at.on ∙ ap (λ (g : Geometry). record {
          geometry = g;
          cylinders = device.cylinders;
          number =
              chain.fixed.number;
        }) (sym same.0) ∙ ap (λ (c : ℕ).
            record { geometry = after.geometry; cylinders = c; number = chain.fixed.number }) (sym same.1);
        counted = at.counted;
      }

-- a chain that is over has none
pub at_over : (acts : List Acted) (p : Part) (ccws : List Ccw) (device : PlainState) (chain : ChainState)
    (ends : List CommandEnd) → IsAtPart p ccws device chain ends → is_none chain.at.next ≡ true
    → IsAtPart (acts_made acts p) ccws device chain ends
at_over acts p ccws device chain ends at over =
    subst (λ (q : Part). IsAtPart q ccws device chain ends)
    (sym (ap (λ (next : Option ℕ). acted_at acts p next) (sym at.next_is ∙ none_of chain.at.next over))) at

-- and stays where it is
pub at_stays : (path : ℕ) (acts : List Acted) (p : Part) (ccws : List Ccw) (device : PlainState) (chain : ChainState)
    (ends : List CommandEnd) → IsAtPart p ccws device chain ends → is_none chain.at.next ≡ true
    → IsAtPart (one_more path ccws acts p) ccws device chain ends
at_stays path acts p ccws device chain ends at over = subst (λ (q : Part). IsAtPart q ccws device chain ends)
    (sym (over_stays path ccws acts p (sym at.next_is ∙ none_of chain.at.next over))) at

-- with no acts between its commands
abbrev pub IsRunningOn : PlainState → ℕ → List Ccw → PlainState → ChainState → List CommandEnd → Type 0
IsRunningOn start path ccws device chain ends = IsAtPart (part_of start path ccws [] (length ends)) ccws device chain
    ends

module _ (start : PlainState) (path : ℕ) (ccws : List Ccw) where
  pub running_first : (device : PlainState) (chain : ChainState)
      → device ≡ record start { paths = sense_begun start.paths path ccws } → chain ≡ begun_chain ccws (fixed_of start)
      → IsRunningOn start path ccws device chain []
  unfolding part_of
  running_first device chain device_is chain_is =
      subst (λ (p : Part). IsAtPart p ccws device chain []) (sym (acted_nothing [] (first_part start path ccws) refl))
      (at_first start path ccws device chain device_is chain_is)

  stepped_is : (k : ℕ) → command_run path ccws (part_of start path ccws [] k) ≡ part_of start path ccws [] (suc k)
  stepped_is k = sym (acted_nothing [] (command_run path ccws (part_of start path ccws [] k)) refl)
      ∙ sym (part_more path ccws [] start k)

  module _ (device : PlainState) (chain : ChainState) (ends : List CommandEnd)
      (r : IsRunningOn start path ccws device chain ends) where
    pub running_more : (after : PlainState) (then_chain : ChainState) (e : CommandEnd)
        → Ends device path after chain then_chain e → is_none chain.at.next ≡ false → (later : List CommandEnd)
        → later ≡ ends ++ e ∷ [] → IsRunningOn start path ccws after then_chain later
    running_more after then_chain e done more later later_is =
        let one : length later ≡ suc (length ends) = many (ap length later_is ∙ length-append ends (e ∷ [])) in
        subst (λ (k : ℕ). IsAtPart (part_of start path ccws [] k) ccws after then_chain later) (sym one)
        (subst (λ (p : Part). IsAtPart p ccws after then_chain later) (stepped_is (length ends))
        (at_more (part_of start path ccws [] (length ends)) path ccws device after chain then_chain ends e r done
        later later_is more)) where
          many : {n m : ℕ} → n ≡ m + 1 → n ≡ suc m
          many is = omega (arith, is)

    room_of : IsChain chain → is_none chain.at.next ≡ false → chain.at.stance.commands < 4096
    room_of stands more = by_next chain.at.next (subst (AtHand chain) r.stage stands.hand).room more where
      by_next : (next : Option ℕ) → IfSome next (λ i. HasRoom chain.at.stance) → is_none next ≡ false
          → chain.at.stance.commands < 4096
      by_next (Some i) room some = room.commands
      by_next None room some = absurd (cc)

    -- a program of so many ends isn't over only where it has fewer than 4,096
    pub few_ends : IsChain chain → is_none chain.at.next ≡ false → (later : List CommandEnd) (e : CommandEnd)
        → later ≡ ends ++ e ∷ [] → length later ≤ 4096
    few_ends stands more later e later_is =
        let room = room_of stands more in
        let counted = r.counted in
        let many : length later ≡ length ends + 1 = ap length later_is
        ∙ length-append ends (e ∷ []) in omega (arith, room, counted, many)

    pub fewer_left : (after : PlainState) (then_chain : ChainState) (e : CommandEnd)
        → Ends device path after chain then_chain e → IsChain chain → is_none chain.at.next ≡ false
        → 4096 - then_chain.at.stance.commands < 4096 - chain.at.stance.commands
    fewer_left after then_chain e done stands more =
        let counted : then_chain.at.stance.commands ≡ chain.at.stance.commands + 1 =
        done.counted ∙ ap (λ (m : Mark). m.stance.commands + 1) (start_is chain r.stage) in
        let room = room_of stands more in omega (arith, counted, room)

    module _ (most : length ends ≤ 4096) (over : is_none chain.at.next ≡ true) where
      is_over : (part_of start path ccws [] (length ends)).next ≡ None
      is_over = sym r.next_is ∙ none_of chain.at.next over

      all_is : part_of start path ccws [] (length ends) ≡ whole_run start path ccws []
      all_is =
          let all : (4096 - length ends) + length ends ≡ 4096 = omega (arith, most) in
          sym (over_later path ccws [] start (length ends) (4096 - length ends) is_over)
          ∙ ap (λ (k : ℕ). part_of start path ccws [] k) all

      pub all_ends : ends ≡ (whole_run start path ccws []).ends
      all_ends = r.ends_are ∙ ap (λ (p : Part). p.ends) all_is

      pub all_done : device ≡ (whole_run start path ccws []).state
      all_done = r.device_is ∙ ap (λ (p : Part). p.state) all_is

      pub all_over : LastIsOver ends
      all_over = subst LastIsOver (sym r.ends_are) (part_over path ccws [] start (length ends) is_over)

module _ (start : PlainState) (path : ℕ) (ccws : List Ccw) (acts : List Acted) where
  pub part_first : (device after : PlainState) (chain : ChainState)
      → device ≡ record start { paths = sense_begun start.paths path ccws } → chain ≡ begun_chain ccws (fixed_of start)
      → after ≡ acts_done device (acts_at acts 0)
      → (after.geometry ≡ device.geometry) × (after.cylinders ≡ device.cylinders) → (ends : List CommandEnd) → ends ≡ []
      → IsAtPart (part_of start path ccws acts 0) ccws after chain ends
  unfolding part_of
  part_first device after chain device_is chain_is after_is same ends none =
      subst (λ (l : List CommandEnd). IsAtPart (acts_made acts (first_part start path ccws)) ccws after chain l) (sym none)
      (at_acted acts (first_part start path ccws) ccws device after chain []
      (at_first start path ccws device chain device_is chain_is)
      (ap (λ (s : ChainState). is_none s.at.next) chain_is) after_is same)

  pub part_next : (k : ℕ) (device : PlainState) (chain : ChainState) (ends : List CommandEnd)
      → IsAtPart (one_more path ccws acts (part_of start path ccws acts k)) ccws device chain ends
      → IsAtPart (part_of start path ccws acts (k + 1)) ccws device chain ends
  part_next k device chain ends at =
      let same : suc k ≡ k + 1 = omega arith in
      subst (λ (n : ℕ). IsAtPart (part_of start path ccws acts n) ccws device chain ends) same
      (subst (λ (p : Part). IsAtPart p ccws device chain ends) (sym (part_more path ccws acts start k)) at)
