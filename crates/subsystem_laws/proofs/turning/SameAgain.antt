-- Want of memory, and a look past the channel, leave a device's paths, its plans and where its program is as they were, and of a device that is no pair its
-- history and its marks too.
use Rattle.std.proofs.Common.{◌≡◌, ℕ, Bool, true, false, List, [], Option, Some, None, refl, sym, ap, subst, ◌∙◌}
use Rattle.std.specs.Prelude.{option_map, if◌then◌else◌}
use Rattle.ckd_types.specs.declared.paths.Side.{Side}
use Rattle.ckd_chain.specs.declared.mark.Stage.{Stage}
use Rattle.ckd_chain.specs.State.{ChainState}
use Rattle.ckd_chain.specs.Steps.{again_from, chain_opened, opened_by}
use Rattle.plain_defs.specs.declared.journal.Act.{Act}
use Rattle.plain_defs.specs.History.{OpenEntry}
use Rattle.track_image.specs.Image.{Image}
use Rattle.device_outside.specs.Interaction.{Done}
use Rattle.device_outside.specs.Keeper.{Hearing}
use Rattle.device_outside.specs.Outside.{Outside, Ran}
use Rattle.device_defs.specs.declared.answers.Did.{Did}
use Rattle.device_defs.specs.declared.answers.Stepped.{Stepped}
use Rattle.device_defs.specs.Command.{command}
use Rattle.device_defs.specs.Contents.{contents}
use Rattle.device_defs.specs.Device.{all_acted, with_store}
use Rattle.device_defs.specs.Events.{background}
use Rattle.device_defs.specs.Image.{ahead}
use Rattle.device_defs.specs.Losses.{all_firm_told, call_failed, side_lost}
use Rattle.device_defs.specs.Outcomes.{again}
use Rattle.device_defs.specs.Owed.{noted_begin, waiting_count}
use Rattle.device_defs.specs.Peek as Y
use Rattle.device_defs.specs.Peek.{Peeked, peek}
use Rattle.device_defs.specs.Sound.{DeviceStore}
use Rattle.device_defs.specs.Store.{tracks_of}
use Rattle.device_laws.specs.Whole.{WholeDevice}
use Rattle.device_laws.proofs.Always.{Always, always_done, always_then, always_weaker}
use Rattle.device_laws.proofs.KeepLaws.{always_ran}
use Rattle.device_laws.proofs.KeptEvents.{always_any}
use Rattle.device_laws.proofs.PoolWalks.{asks_always, ended_asks}
use Rattle.device_laws.proofs.WholeImage.{ahead_only}
use Rattle.subsystem_laws.specs.Again.{HasSameMarks, IsAgain, word_again}
use Rattle.subsystem_laws.proofs.turning.Again.{background_wants, command_wants}
use Rattle.subsystem_laws.proofs.turning.Lacking.{Lacks, Quiet, track_keeps}

-- Where it is no pair

record Alone (s z : DeviceStore) : Type 0 where
  single : z.paired ≡ false
  acts : z.acts ≡ []
  marks : HasSameMarks s z

abbrev WhileAlone : DeviceStore → DeviceStore → Type 0
WhileAlone s z = s.paired ≡ false → Alone s z

module _ (s : DeviceStore) where
  -- a call that fails leaves a volume that is alone
  fails_alone : (b : Bool) → s.paired ≡ b → (z : DeviceStore) (side : Side) → WhileAlone s z →
      Always (call_failed contents z side None) (λ y (_ : Unit {0}). WhileAlone s y)
  fails_alone true is z side f = always_weaker (always_any (call_failed contents z side None)) (λ y _ _ none. absurd (cc))
  fails_alone false is z side f =
      subst (λ (b : Bool). Always (if b then all_firm_told contents (tracks_of z) (side_lost contents z side None) else Done z (tt {0}))
      (λ y (_ : Unit {0}). WhileAlone s y)) (sym (f is).single) (always_done f)

  alone_by : (z y : DeviceStore) → y.paired ≡ z.paired → y.acts ≡ z.acts → HasSameMarks z y → WhileAlone s z → WhileAlone s y
  alone_by z y single acts m f none = let a = f none in record {
    single = single ∙ a.single;
    acts = acts ∙ a.acts;
    marks = record {
      lost = m.lost ∙ a.marks.lost;
      loose = m.loose ∙ a.marks.loose;
      sides = m.sides ∙ a.marks.sides;
      patches = m.patches ∙ a.marks.patches;
      half = m.half ∙ a.marks.half;
      number = m.number ∙ a.marks.number;
    };
  }

  alone_quiet : Quiet contents (WhileAlone s)
  alone_quiet = record {
    counts = λ z ok f. alone_by z _ refl refl (record { lost = refl; loose = refl; sides = refl; patches = refl; half = refl; number = refl }) f;
    fails = λ z side f. fails_alone s.paired refl z side f;
    frames = λ z t o f. alone_by z _ refl refl (record { lost = refl; loose = refl; sides = refl; patches = refl; half = refl; number = refl }) f;
    queues = λ u z t f. subst (WhileAlone s) (sym (ahead_only u z t))
        (alone_by z (record z { queue = (ahead u z t).queue }) refl refl
        (record { lost = refl; loose = refl; sides = refl; patches = refl; half = refl; number = refl }) f);
    unqueues = λ z ts f. alone_by z _ refl refl (record { lost = refl; loose = refl; sides = refl; patches = refl; half = refl; number = refl }) f;
  }

-- it goes back to the same place
twice : (chain : ChainState) (stage : Option Stage) → again_from (chain_opened (again_from (opened_by chain stage))) ≡ again_from (opened_by chain stage)
twice chain None = refl
twice chain (Some stage) = refl

module _ (d : WholeDevice) where
  first_alone : WhileAlone d.store (noted_begin d.store)
  first_alone none = record {
    single = none;
    acts = refl;
    marks = record { lost = refl; loose = refl; sides = refl; patches = refl; half = refl; number = refl };
  }

  owed_again : (y : WholeDevice) (z : DeviceStore) → HasSameMarks y.store z → IsAgain d y → IsAgain d (record y { store = z })
  owed_again y z m x = record {
    paths = x.paths;
    plans = x.plans;
    word = x.word;
    history = x.history;
    marks = λ none. let a = x.marks none in record {
      lost = m.lost ∙ a.lost;
      loose = m.loose ∙ a.loose;
      sides = m.sides ∙ a.sides;
      patches = m.patches ∙ a.patches;
      half = m.half ∙ a.half;
      number = m.number ∙ a.number;
    };
  }

  itself_again : IsAgain d d
  itself_again = record {
    paths = refl;
    plans = refl;
    word = refl;
    history = λ none. refl;
    marks = λ none. record { lost = refl; loose = refl; sides = refl; patches = refl; half = refl; number = refl };
  }

  tracks_again : (chain : ChainState) → d.chain ≡ Some chain → (y : DeviceStore) → WhileAlone d.store y → IsAgain d (again (with_store d y) chain)
  tracks_again chain now y f = record {
    paths = refl;
    plans = refl;
    word = ap (λ (k : ChainState). Some k) (twice chain chain.stage) ∙ sym (ap (option_map word_again) now);
    history = λ none. ap (λ (l : List Act). all_acted d.history l) (f none).acts;
    marks = λ none. (f none).marks;
  }

  worked_again : (y : DeviceStore) → WhileAlone d.store y → IsAgain d (with_store d y)
  worked_again y f = record {
    paths = refl;
    plans = refl;
    word = refl;
    history = λ none. ap (λ (l : List Act). all_acted d.history l) (f none).acts;
    marks = λ none. (f none).marks;
  }

  -- whether memory is had or not
  looked_again : (t : ℕ) → Always (peek contents d t) (λ y (_ : Option Peeked). IsAgain d y)
  unfolding Y.peek
  looked_again t =
      always_then
      (always_then (track_keeps contents (WhileAlone d.store) (alone_quiet d.store) (noted_begin d.store) t first_alone)
      (λ z found f. always_done (worked_again z f)))
      (λ y a x. always_then
      (asks_always (ended_asks contents (λ z. IsAgain d (record y { store = z }))
      (λ z q k. owed_again (record y { store = z }) _ (record { lost = refl; loose = refl; sides = refl; patches = refl; half = refl; number = refl }) k)
      (waiting_count contents d.store) y.store x))
      (λ z _ k. always_done k))

  module _ {K : Type 0} {had : Bool → Type 0} {hears : Hearing Image K} {e : WholeDevice} {u z : Outside (List ℕ) K} where
    pub command_again : (o : OpenEntry) (chain : ChainState) → d.history.running ≡ Some o → d.chain ≡ Some chain →
        Ran had hears (command contents d) u e None z → IsAgain d e
    command_again o chain running now r =
        always_ran (command contents d) (λ y (a : Option Stepped). Lacks (IsAgain d) y a)
        (command_wants contents (WhileAlone d.store) (alone_quiet d.store) (IsAgain d)
        (λ y t x. owed_again y _ (record { lost = refl; loose = refl; sides = refl; patches = refl; half = refl; number = refl }) x) d first_alone o chain running
        now (tracks_again chain now) itself_again).holds r

    pub background_again : Ran had hears (background contents d) u e None z → IsAgain d e
    background_again r =
        always_ran (background contents d) (λ y (a : Option Did). Lacks (IsAgain d) y a)
        (background_wants contents (WhileAlone d.store) (alone_quiet d.store) (IsAgain d)
        (λ y t x. owed_again y _ (record { lost = refl; loose = refl; sides = refl; patches = refl; half = refl; number = refl }) x) d first_alone
        worked_again).holds r

    pub peek_again : {a : Option Peeked} (t : ℕ) → Ran had hears (peek contents d t) u e a z → IsAgain d e
    peek_again t r = always_ran (peek contents d t) (λ y (_ : Option Peeked). IsAgain d y) (looked_again t).holds r
