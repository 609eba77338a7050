-- A command makes exactly the reads of its looks, track by track, and the writes of its write; behind a fast or a provisional one it isn't checked.
use Rattle.std.proofs.Common.{◌≡◌, zero, suc, ℕ, Bool, true, false, Option, Some, None, refl, sym, subst, ◌∙◌}
use Rattle.std.specs.Prelude.{if◌then◌else◌}
use Rattle.ckd_types.specs.declared.record.Edit.{Edit}
use Rattle.ckd_chain.specs.declared.progress.Progress.{Progress}
use Rattle.ckd_chain.specs.declared.progress.Progress.TheVariants as progresses
use Rattle.ckd_chain.specs.declared.progress.Settled.TheVariants.{Equipment, DataCheck}
use Rattle.ckd_chain.specs.State.{ChainState}
use Rattle.ckd_chain.specs.Steps.{stepped}
use Rattle.track_image.specs.Image.{Image}
use Rattle.device_outside.specs.Interaction.{Interaction, Done, and_then}
use Rattle.device_outside.specs.Told as T
use Rattle.device_outside.specs.Told.{Told, RunOutcome, hold}
use Rattle.device_defs.specs.declared.answers.Choice.{Choice}
use Rattle.device_defs.specs.declared.answers.Took.{Took}
use Rattle.device_defs.specs.declared.answers.Took.TheVariants.{Whole, Opened, Unwritten}
use Rattle.device_defs.specs.Choosing.{choose}
use Rattle.device_defs.specs.Command as N
use Rattle.device_defs.specs.Command.{Went, Over, came_of_write, went_by, looked, look, goes_on, follow}
use Rattle.device_defs.specs.Contents.{by_plain}
use Rattle.device_defs.specs.Editing.{write}
use Rattle.device_defs.specs.Image.{Imaged, Has, NoBytes, BadTrack, image}
use Rattle.device_defs.specs.Marks.{MarksStore}
use Rattle.device_defs.specs.Memory.{had_by}
use Rattle.device_defs.specs.Outcomes.{Turn, ends_with, checks, wrote_turn, usage_of}
use Rattle.device_defs.specs.Store.{is_lost}
use Rattle.device_laws.proofs.Unchecked.{NoCheck, TurnSo}
use Rattle.device_laws.specs.Moved.{choice_writes, sides_writing}
use Rattle.device_laws.specs.Seen.{is_in_cache, is_half, is_opened}
use Rattle.move_laws.specs.Chosen.{choice_at, writes_in_cache}
use Rattle.move_laws.specs.Exactly as X
use Rattle.move_laws.specs.Exactly.{
  CommandWalk,
  no_walk,
  write_alone,
  with_look,
  look_reads,
  write_writes,
  went_walk,
  seen_walk,
  behind_look,
  walk_tracks,
}
use Rattle.move_laws.proofs.FastWrites.{write_whole}
use Rattle.move_laws.proofs.Holds.{Made, made_none, made_then, hold_on}
use Rattle.move_laws.proofs.Looks.{look_made}
use Rattle.move_laws.proofs.Writes.{write_so}

-- it is half done
abbrev pub half_by : Option Turn → Bool
half_by (Some turn) = is_half turn.came
half_by None = false

wrote_half : (chain : ChainState) (t : ℕ) (took : Took) → is_half (wrote_turn chain t took).came ≡ is_opened took
wrote_half chain t Whole = refl
wrote_half chain t Opened = refl
wrote_half chain t Unwritten = refl

took_whole : (took : Took) → Some took ≡ Some Whole → took ≡ Whole
took_whole took e = cc

module _ (first : ℕ) (half : Bool) where
  -- if it comes out as half says, it made these; and behind a write in the cache alone it isn't checked
  pub record Walked (x : CommandWalk) (w : Told) (o : RunOutcome MarksStore (Option Turn)) : Type 0 where
    pub made : half_by o.answer ≡ half → Made x.reads (write_writes half x.write) w o.told
    pub ends : writes_in_cache (choice_at x.write) ≡ true → TurnSo o.answer

  none_walked : (w : Told) (s : MarksStore) (a : Option Turn) → Walked no_walk w (record { state = s; answer = a; told = w })
  none_walked w s a = record { made = λ is. made_none w; ends = λ fast. absurd (cc) }

  abbrev pub Follows : ℕ → Type 0
  Follows n =
      (chain : ChainState) (t : ℕ) (s : MarksStore) (w : Told) → Walked (walk_tracks n chain t s w) w (hold true (follow by_plain n first chain t s) w)

  -- Behind the image of a track

  module _ (n : ℕ) (more : Follows n) (chain : ChainState) (t : ℕ) where
    abbrev Goes : MarksStore → Option Went → Interaction Bool Image MarksStore (Option Turn)
    Goes s o = had_by (goes_on by_plain (follow by_plain n first)) s o

    -- its write

    abbrev Here : MarksStore → Told → CommandWalk
    Here s w = write_alone (record { usage = usage_of chain; track = t; store = s; told = w })

    abbrev Chosen : MarksStore → Told → Choice
    Chosen s w = (hold true (choose by_plain s (usage_of chain) t) w).answer

    wrote_walked : (next : ChainState) (s z : MarksStore) (w y : Told) (took : Took) →
        Made 0 (choice_writes (sides_writing s) (Chosen s w) (is_opened took)) w y → (is_in_cache (Chosen s w) ≡ true → took ≡ Whole) →
        Walked (Here s w) w (hold true (and_then (had_by (came_of_write by_plain next t) z (Some took)) Goes) y)
    unfolding T.hold
    wrote_walked next s z w y took x whole = record {
      made = λ is.
          subst (λ (b : Bool). Made 0 (choice_writes (sides_writing s) (Chosen s w) b) w y) (sym (wrote_half next t took) ∙ is) x;
      ends = λ fast. subst (λ (k : Took). NoCheck (wrote_turn next t k).came) (sym (whole fast)) tt;
    }

    write_walked : (next : ChainState) (s : MarksStore) (i : Image) (e : Edit) (w : Told) →
        Walked (Here s w) w
        (hold true (and_then (and_then (write by_plain s (usage_of chain) first t i e) (had_by (came_of_write by_plain next t))) Goes) w)
    write_walked next s i e w =
        let u = usage_of chain in
        let talk = write by_plain s u first t i e in
        let o = hold true talk w in
        let k = write_so u first t i e s w in
        subst (Walked (Here s w) w) (sym (hold_on true talk (had_by (came_of_write by_plain next t)) Goes w))
        (subst (λ (a : Option Took). Walked (Here s w) w (hold true (and_then (had_by (came_of_write by_plain next t) o.state a) Goes) o.told))
        (sym k.answer)
        (wrote_walked next s o.state w o.told k.took k.made
        (λ fast. took_whole k.took (sym k.answer ∙ write_whole u first t i e s w fast))))

    went_walked : (s : MarksStore) (i : Image) (w : Told) (next : ChainState) (p : Progress) →
        Walked (went_walk (walk_tracks n) (usage_of chain) t s w next p) w
        (hold true (and_then (went_by by_plain (usage_of chain) first t s i next p) Goes) w)
    unfolding T.hold
    went_walked s i w next (progresses.Ended e) = none_walked w s (Some (ends_with next e))
    went_walked s i w next (progresses.Need q) = more next q s w
    went_walked s i w next (progresses.Write q e) = write_walked next s i e w
    went_walked s i w next (progresses.Local act) = none_walked w s (Some (checks next Equipment))

    seen_walked : (s : MarksStore) (w : Told) (a : Option Imaged) →
        Walked (seen_walk (walk_tracks n) chain t s w a) w (hold true (and_then (had_by (looked by_plain chain first t) s a) Goes) w)
    unfolding T.hold
    seen_walked s w (Some (Has i)) = went_walked s i w (stepped chain (Some i)).chain (stepped chain (Some i)).progress
    seen_walked s w (Some (NoBytes fault)) = none_walked w s (Some (checks chain Equipment))
    seen_walked s w (Some (BadTrack side)) = none_walked w s (Some (checks chain DataCheck))
    seen_walked s w None = none_walked w s None

    -- A look

    read_walked : (s : MarksStore) (w : Told) (r : ℕ) (o : RunOutcome MarksStore (Option Imaged)) → Made r 0 w o.told →
        Walked (with_look r (behind_look (walk_tracks n) chain t o)) w
        (hold true (and_then (had_by (looked by_plain chain first t) o.state o.answer) Goes) o.told)
    read_walked s w r o x =
        let k = seen_walked o.state o.told o.answer in record { made = λ is. made_then x (k.made is); ends = k.ends }

    look_walked : (s : MarksStore) (w : Told) (lost : Bool) →
        Walked (if lost then no_walk
        else with_look (look_reads s (usage_of chain) t w)
        (behind_look (walk_tracks n) chain t (hold true (image by_plain s (usage_of chain) t) w))) w
        (hold true (and_then (if lost then Done s (Some (Over (checks chain Equipment)))
        else and_then (image by_plain s (usage_of chain) t) (had_by (looked by_plain chain first t))) Goes) w)
    unfolding T.hold
    look_walked s w true = none_walked w s (Some (checks chain Equipment))
    look_walked s w false =
        let talk = image by_plain s (usage_of chain) t in
        let o = hold true talk w in
        let r = look_reads s (usage_of chain) t w in
        subst (Walked (with_look r (behind_look (walk_tracks n) chain t o)) w)
        (sym (hold_on true talk (had_by (looked by_plain chain first t)) Goes w)) (read_walked s w r o (look_made t (usage_of chain) s w))

    one_walked : (s : MarksStore) (w : Told) →
        Walked (if is_lost s t then no_walk
        else with_look (look_reads s (usage_of chain) t w)
        (behind_look (walk_tracks n) chain t (hold true (image by_plain s (usage_of chain) t) w))) w
        (hold true (and_then (look by_plain chain first t s) Goes) w)
    unfolding N.look
    one_walked s w = look_walked s w (is_lost s t)

  pub follow_walked : (n : ℕ) → Follows n
  unfolding N.follow X.walk_tracks T.hold
  follow_walked zero chain t s w = none_walked w s (Some (checks chain Equipment))
  follow_walked (suc n) chain t s w = one_walked n (follow_walked n) chain t s w
