-- Acts of cache fast write on a device that is replayed, and a command that it then has.
use Rattle.std.proofs.Common.{◌≡◌, ◌+◌, ◌∷◌, ◌++◌, [], ℕ, suc, List, Option, Some, None, false, length, refl, arith, sym, ap, subst, ◌∙◌}
use Rattle.std.proofs.lemmas.List.{length-append}
use Rattle.ckd_types.specs.declared.channel.Ccw.{Ccw}
use Rattle.ckd_types.specs.declared.channel.CommandEnd.{CommandEnd}
use Rattle.ckd_types.specs.Ccw.{ccw_at}
use Rattle.ckd_chain.specs.State.{ChainState}
use Rattle.ckd_chain.specs.Steps.{behind, index_of}
use Rattle.ckd_rules.specs.Ends.{end_at_word, goes_to}
use Rattle.ckd_rules.proofs.Goes.{more_goes}
use Rattle.plain_defs.specs.declared.journal.Act.{Act}
use Rattle.plain_defs.specs.declared.journal.Item.{Item}
use Rattle.plain_defs.specs.declared.journal.Item.TheVariants as items
use Rattle.plain_defs.specs.Effect.{Effect, effect_on}
use Rattle.plain_defs.specs.History.{History, OpenEntry, acted, acted_in, ended, with_end}
use Rattle.plain_defs.specs.Journal.{replay, replay_item}
use Rattle.plain_defs.specs.Loose.{act_done}
use Rattle.plain_defs.specs.PlainState.{PlainState}
use Rattle.plain_defs.specs.Program.{Part, acts_made as acted_part, acts_at, ended_with, part_of, command_run, stepped_at, with_act}
use Rattle.plain_defs.proofs.JournalLaws.{replay-append}
use Rattle.plain_defs.proofs.PartLemmas.{acted_nothing, part_more}
use Rattle.plain_device.specs.Between.{behind_edit, effect_of}
use Rattle.deck_audit.specs.declared.replayed.Running.{Running}
use Rattle.deck_audit.specs.Device.{AuditedDevice, part_of_open, plain_end, plain_end_at, words_of_open}
use Rattle.deck_audit.specs.Follows.{EndsAs, Follows, FollowsProgram, IsAt, RunsAs, pending_by}
use Rattle.deck_audit.specs.Replay as replayed
use Rattle.deck_audit.specs.Replayed.{PendingState, ReplayedState}
use Rattle.deck_audit.proofs.Closing.{ended_so}
use Rattle.deck_audit.proofs.OpenActs.{no_acts, order_more, order_on, part_here}
use Rattle.deck_audit.proofs.ReplayedEnds.{ends_as, effect_is, runs_as}

-- An act of the running program

abbrev pub with_act_of : OpenEntry → Act → OpenEntry
with_act_of o act = record o { acts = o.acts ++ record { after = length o.ends; act = act } ∷ [] }

abbrev pub acted_device : AuditedDevice → OpenEntry → Act → AuditedDevice
acted_device a o act = record a { history = record a.history { running = Some (with_act_of o act) } }

module _ (a : AuditedDevice) (o : OpenEntry) (act : Act) where
  part_later : (device : PlainState) (chain : ChainState) → IsAt (part_of_open a o) (words_of_open a o) device chain o.ends
      → (i : ℕ) → chain.at.next ≡ Some i
      → part_of_open (acted_device a o act) (with_act_of o act) ≡ with_act (part_of_open a o) act
  part_later device chain at i is =
      part_here o.path (words_of_open a o) (replay a.plans a.empty a.history.items) o.acts (length o.ends) i
      (ap length (sym at.ends_are)) (sym at.next_is ∙ is) act

  pub runs_later : (device : PlainState) (q : Running) (chain : ChainState) → RunsAs a o device q chain
      → RunsAs (acted_device a o act) (with_act_of o act) (act_done device act) q chain
  runs_later device q chain r = record {
    path_is = r.path_is;
    ordinal_is = r.ordinal_is;
    at = subst (λ (p : Part). IsAt p (words_of_open a o) (act_done device act) chain o.ends)
        (sym (part_later device chain r.at r.word r.at_word))
        (record {
          device_is = ap (λ (d : PlainState). act_done d act) r.at.device_is;
          fixed_is = r.at.fixed_is;
          stance_is = r.at.stance_is;
          next_is = r.at.next_is;
          ends_are = r.at.ends_are;
          words = r.at.words;
        });
    order = order_more 0 (length o.ends) o.acts act r.order (omega arith);
    word = r.word;
    at_word = r.at_word;
  }

module _ (r : ReplayedState) (a : AuditedDevice) (o : OpenEntry) (q : Running) (act : Act) (f : Follows r a)
    (runs : r.running ≡ Some q) (entry : a.history.running ≡ Some o) where
  pub in_history : acted a.history act ≡ record a.history { running = Some (with_act_of o act) }
  in_history = ap (λ (x : Option OpenEntry). acted_in a.history act x) entry

  follows_with : (device_is : act_done r.device act ≡ (part_of_open (acted_device a o act) (with_act_of o act)).state)
      → FollowsProgram (acted_device a o act) (act_done r.device act) r.running r.pending (Some (with_act_of o act))
      → Follows (replayed.acted r act) (record a { history = acted a.history act })
  follows_with device_is program =
      subst (λ (h : History). Follows (replayed.acted r act) (record a { history = h })) (sym in_history)
      (record {
        number_is = f.number_is;
        device_is = device_is;
        half_is = f.half_is;
        lent_is = f.lent_is;
        program = program;
      })

  -- between two commands
  pub acted_runs : r.pending ≡ None → Follows (replayed.acted r act) (record a { history = acted a.history act })
  acted_runs waits_not =
      let later = runs_later a o act r.device q q.chain (runs_as r a o q f runs waits_not entry) in
      follows_with later.at.device_is
      (rw (runs, waits_not) later)

  -- behind the end of a command, which it comes before
  pub acted_ends : (w : PendingState) → r.pending ≡ Some w
      → ((path : ℕ) (s : ChainState) → effect_of (act_done r.device act) path s ≡ effect_of r.device path s)
      → Follows (replayed.acted r act) (record a { history = acted a.history act })
  acted_ends w waits keeps =
      let e = ends_as r a o q w f runs waits entry in
      let later = runs_later a o act r.device q e.before e.runs in
      follows_with later.at.device_is (rw (runs, waits) (record {
        before = e.before;
        runs = later;
        chain_is = e.chain_is ∙ ap (λ (x : Effect). behind e.before x.outcome) (sym (keeps o.path e.before));
        pending_is = e.pending_is ∙ ap (λ (x : Effect). pending_by x e.before) (sym (keeps o.path e.before));
      }))

-- An act while no program runs

pub idle_program : (a b : AuditedDevice) (d e : PlainState) (running : Option Running) (pending waits : Option PendingState)
    → FollowsProgram a d running pending None → FollowsProgram b e running waits None
idle_program a b d e None pending waits f = tt
idle_program a b d e (Some q) None waits f = absurd f
idle_program a b d e (Some q) (Some w) waits f = absurd f

-- with one item more
pub item_more : (r s : ReplayedState) (a b : AuditedDevice) (x : Item) → Follows r a → a.history.running ≡ None → s.number ≡ b.number → s.half ≡ b.half
    → s.lent ≡ b.lent → s.running ≡ r.running → s.device ≡ replay_item a.plans r.device x → b.plans ≡ a.plans → b.empty ≡ a.empty
    → b.history.items ≡ a.history.items ++ x ∷ [] → b.history.running ≡ None → Follows s b
item_more r s a b x f idle number_is half_is lent_is same device_is plans_are empty_is items_are none = record {
  number_is = number_is;
  device_is = device_is ∙ ap (λ (d : PlainState). replay_item a.plans d x) (rw idle at f.device_is)
      ∙ rw (none, items_are, plans_are, empty_is) (sym (replay-append a.plans a.empty a.history.items (x ∷ [])));
  half_is = half_is;
  lent_is = lent_is;
  program = subst (λ (x : Option OpenEntry). FollowsProgram b s.device s.running s.pending x) (sym none)
      (subst (λ (q : Option Running). FollowsProgram b s.device q s.pending None) (sym same)
      (idle_program a b r.device s.device r.running r.pending s.pending
      (subst (λ (x : Option OpenEntry). FollowsProgram a r.device r.running r.pending x) idle f.program)));
}

pub acted_idle : (r : ReplayedState) (a : AuditedDevice) (act : Act) → Follows r a → a.history.running ≡ None
    → Follows (replayed.acted r act) (record a { history = acted a.history act })
acted_idle r a act f idle =
    item_more r (replayed.acted r act) a (record a { history = acted a.history act }) (items.Act act) f idle f.number_is f.half_is f.lent_is
    refl refl refl refl (rw idle refl) (rw idle refl)

-- The device has what a command did, and its program goes on

module _ (r : ReplayedState) (a : AuditedDevice) (o : OpenEntry) (q : Running) (w : PendingState) (f : Follows r a)
    (runs : r.running ≡ Some q) (waits : r.pending ≡ Some w) (entry : a.history.running ≡ Some o)
    (e : CommandEnd) (plain : plain_end a o ≡ Some e) where
  abbrev p : Part
  p = part_of_open a o

  abbrev ccws : List Ccw
  ccws = words_of_open a o

  pub made_as : EndsAs a o r.device q w
  made_as = ends_as r a o q w f runs waits entry

  abbrev made : ℕ → Effect
  made i = effect_on (part_of_open a o).fixed (part_of_open a o).state o.path (part_of_open a o).stance (ccw_at (words_of_open a o) i)

  next_is : p.next ≡ Some made_as.runs.word
  next_is = sym made_as.runs.at.next_is ∙ made_as.runs.at_word

  effect_here : effect_of r.device o.path made_as.before ≡ made made_as.runs.word
  effect_here = effect_is p ccws r.device made_as.before o.ends o.path made_as.runs.at made_as.runs.word made_as.runs.at_word

  end_here : e ≡ end_at_word made_as.runs.word (ccw_at ccws made_as.runs.word) (made made_as.runs.word).outcome
  end_here =
      let same : Some (end_at_word made_as.runs.word (ccw_at ccws made_as.runs.word) (made made_as.runs.word).outcome) ≡ Some e =
      ap (λ (n : Option ℕ). plain_end_at o.path ccws p n) (sym next_is) ∙ plain in
      cc

  stepped_here : command_run o.path ccws p ≡ ended_with ccws p made_as.runs.word (made made_as.runs.word)
  stepped_here = ap (λ (n : Option ℕ). stepped_at o.path ccws p n) next_is

  many : length (o.ends ++ e ∷ []) ≡ suc (length o.ends)
  many = let sum = length-append o.ends (e ∷ []) in omega (arith, sum)

  ends_behind : o.ends ++ e ∷ [] ≡ (ended_with ccws p made_as.runs.word (made made_as.runs.word)).ends
  ends_behind = ap (λ (l : List CommandEnd). l ++ e ∷ []) made_as.runs.at.ends_are ∙ ap (λ (x : CommandEnd). p.ends ++ x ∷ []) end_here

  no_act : acts_at o.acts (length (ended_with ccws p made_as.runs.word (made made_as.runs.word)).ends) ≡ []
  no_act =
      let much = ap length (sym ends_behind) in
      no_acts 0 (length o.ends + 1) (length (ended_with ccws p made_as.runs.word (made made_as.runs.word)).ends) o.acts made_as.runs.order
      (omega (arith, much, many))

  -- the part with one command more
  pub part_next : part_of (replay a.plans a.empty a.history.items) o.path ccws o.acts (suc (length o.ends))
      ≡ ended_with ccws p made_as.runs.word (made made_as.runs.word)
  part_next =
      part_more o.path ccws o.acts (replay a.plans a.empty a.history.items) (length o.ends)
      ∙ ap (λ (x : Part). acted_part o.acts x) stepped_here
      ∙ acted_nothing o.acts (ended_with ccws p made_as.runs.word (made made_as.runs.word)) no_act

  pub part_behind : part_of (replay a.plans a.empty a.history.items) o.path ccws o.acts (length (o.ends ++ e ∷ []))
      ≡ ended_with ccws p made_as.runs.word (made made_as.runs.word)
  part_behind = ap (λ (k : ℕ). part_of (replay a.plans a.empty a.history.items) o.path ccws o.acts k) many ∙ part_next

  pub device_behind : behind_edit r.device w.edit w.paths ≡ (ended_with ccws p made_as.runs.word (made made_as.runs.word)).state
  device_behind =
      ap (λ (x : PendingState). behind_edit r.device x.edit x.paths) made_as.pending_is
      ∙ ap (λ (x : Effect). behind_edit r.device x.edit x.paths) effect_here
      ∙ ap (λ (d : PlainState). behind_edit d (made made_as.runs.word).edit (made made_as.runs.word).paths) made_as.runs.at.device_is

  at_behind : IsAt (ended_with ccws p made_as.runs.word (made made_as.runs.word)) ccws (behind_edit r.device w.edit w.paths) q.chain
      (o.ends ++ e ∷ [])
  at_behind = record {
    device_is = device_behind;
    fixed_is = ap (λ (s : ChainState). s.fixed) made_as.chain_is ∙ made_as.runs.at.fixed_is;
    stance_is = ap (λ (s : ChainState). s.at.stance) made_as.chain_is ∙ ap (λ (x : Effect). x.outcome.stance) effect_here;
    next_is =
        ap (λ (s : ChainState). s.at.next) made_as.chain_is
        ∙ ap (λ (x : Effect). goes_to made_as.before.ccws (index_of made_as.before.at.next) x.outcome) effect_here
        ∙ ap (λ (l : List Ccw). goes_to l (index_of made_as.before.at.next) (made made_as.runs.word).outcome) made_as.runs.at.words
        ∙ ap (λ (n : Option ℕ). goes_to ccws (index_of n) (made made_as.runs.word).outcome) made_as.runs.at_word;
    ends_are = ends_behind;
    words = ap (λ (s : ChainState). s.ccws) made_as.chain_is ∙ made_as.runs.at.words;
  }

  abbrev gone_on : AuditedDevice
  gone_on = record a { history = record a.history { running = Some (with_end o e) } }

  module _ (more : e.over ≡ false) where
    goes : (ended_with ccws p made_as.runs.word (made made_as.runs.word)).next
        ≡ goes_to ccws made_as.runs.word (made made_as.runs.word).outcome
    goes = refl

    runs_on : RunsAs gone_on (with_end o e) (behind_edit r.device w.edit w.paths) q q.chain
    runs_on =
        let on = more_goes ccws made_as.runs.word (made made_as.runs.word).outcome (sym (ap (λ (x : CommandEnd). x.over) end_here) ∙ more) in
        record {
          path_is = made_as.runs.path_is;
          ordinal_is = made_as.runs.ordinal_is;
          at = subst (λ (x : Part). IsAt x ccws (behind_edit r.device w.edit w.paths) q.chain (o.ends ++ e ∷ [])) (sym part_behind) at_behind;
          order = order_on 0 (length o.ends + 1) (length (o.ends ++ e ∷ []) + 1) o.acts made_as.runs.order (omega (arith, many));
          word = _;
          at_word = at_behind.next_is ∙ on;
        }

    -- it follows the history in which the command ended
    pub settled_goes_on : Follows (replayed.settled r) (record a { history = ended a.history e })
    settled_goes_on = rw (waits, ended_so a.history o e entry false more) (record {
      number_is = f.number_is;
      device_is = runs_on.at.device_is;
      half_is = f.half_is;
      lent_is = f.lent_is;
      program = rw runs runs_on;
    })
