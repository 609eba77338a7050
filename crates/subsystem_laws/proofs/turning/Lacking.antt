-- Behind want of memory in a command, in work in the background, or in a look there is what looks at tracks leave: nothing was written.
use Rattle.std.proofs.Common.{zero, suc, ℕ, Bool, List, [], ◌∷◌, Option, Some, None, is_some}
use Rattle.std.specs.Prelude.{◌||◌}
use Rattle.ckd_types.specs.declared.paths.Side.{Side}
use Rattle.ckd_types.specs.declared.paths.Side.TheVariants.{A, B}
use Rattle.ckd_types.specs.declared.record.Edit.{Edit}
use Rattle.ckd_types.specs.Parameters.{is_bypass}
use Rattle.ckd_chain.specs.declared.progress.Progress.{Progress}
use Rattle.ckd_chain.specs.declared.progress.Progress.TheVariants as progresses
use Rattle.ckd_chain.specs.State.{ChainState}
use Rattle.ckd_chain.specs.Steps.{stepped}
use Rattle.track_image.specs.Image.{Image, edited_image}
use Rattle.device_outside.specs.Interaction.{Interaction, Done, and_then}
use Rattle.device_defs.specs.declared.answers.Choice.{Choice}
use Rattle.device_defs.specs.declared.answers.Choice.TheVariants.{Provisional, Fast, Through}
use Rattle.device_defs.specs.declared.answers.Did.{Did}
use Rattle.device_defs.specs.declared.answers.Did.TheVariants.{Recovered, Destaged}
use Rattle.device_defs.specs.declared.answers.Took.{Took}
use Rattle.device_defs.specs.declared.usage.Usage.{Usage}
use Rattle.device_defs.specs.Background as K
use Rattle.device_defs.specs.Background.{
  copied,
  copies_to,
  copy_by,
  copy_first,
  copy_read,
  destage_first,
  recover,
  recover_first,
  recovered_bytes,
  recovered_image,
  saved,
  stage,
  stage_first,
  staged_bytes,
  staged_image,
  staging_granted,
  to_copy,
  to_destage,
  to_recover,
  work,
}
use Rattle.device_defs.specs.Command as N
use Rattle.device_defs.specs.Command.{Went, Over, On, came_of_write, follow, goes_on, look, looked, went_by}
use Rattle.device_defs.specs.Contents.{Contents}
use Rattle.device_defs.specs.Editing as E
use Rattle.device_defs.specs.Editing.{is_given, unchosen, write, write_by, write_chosen}
use Rattle.device_defs.specs.Image as I
use Rattle.device_defs.specs.Image.{
  Got,
  Has,
  Imaged,
  NoBytes,
  BadTrack,
  ahead,
  filled,
  first_read,
  image,
  image_by,
  image_of,
  level_bytes,
  miss,
  read_b,
  read_counted,
  second_read,
}
use Rattle.device_defs.specs.Losses.{call_failed, framed_image}
use Rattle.device_defs.specs.Memory.{had_by, tried}
use Rattle.device_defs.specs.Outcomes.{Turn, usage_of}
use Rattle.device_defs.specs.Owed.{is_clean}
use Rattle.device_defs.specs.Peek.{Peeked, is_in_half, peek_half, peek_image, peek_track, peek_usage, peeked}
use Rattle.device_defs.specs.Store.{HalfWrite, Store, frame_at, is_lost, level_at, with_frame}
use Rattle.device_laws.proofs.Always.{Always, always_ask, always_done, always_read, always_tell, always_then, always_try, always_write}
use Rattle.device_laws.proofs.KeptEvents.{always_any, always_if}
use Rattle.device_laws.proofs.PoolWalks.{asks_always, choose_asks, missed_asks}

-- what is so of the tracks, and stays so where a volume is read, a frame comes or goes, and tracks are queued
pub record Quiet {F P H R : Type 0} (c : Contents F P H R) (Q : Store F P H → Type 0) : Type 0 where
  pub counts : (z : Store F P H) (ok : Bool) → Q z → Q (read_counted z ok)
  pub fails : (z : Store F P H) (side : Side) → Q z → Always (call_failed c z side None) (λ y (_ : Unit {0}). Q y)
  pub frames : (z : Store F P H) (t : ℕ) (o : Option F) → Q z → Q (with_frame z t o)
  pub queues : (u : Usage) (z : Store F P H) (t : ℕ) → Q z → Q (ahead u z t)
  pub unqueues : (z : Store F P H) (ts : List ℕ) → Q z → Q (record z { queue = ts })

-- of an answer that says that memory was lacking
abbrev pub Lacks : {S X : Type 0} → (S → Type 0) → S → Option X → Type 0
Lacks Q s None = Q s
Lacks Q s (Some x) = Unit {0}

module _ {F P H R : Type 0} (c : Contents F P H R) (Q : Store F P H → Type 0) (k : Quiet c Q) where
  -- A look at a track, whether memory is had or not

  second_keeps : (fault : Option Side) (z : Store F P H) (got : Option R) → Q z → Always (second_read c fault z got) (λ y (_ : Got R). Q y)
  second_keeps fault z (Some r) q = always_done q
  second_keeps fault z None q = always_then (k.fails z B q) (λ y _ x. always_done x)

  b_keeps : (z : Store F P H) (t : ℕ) (fault : Option Side) → Q z → Always (read_b c z t fault) (λ y (_ : Got R). Q y)
  b_keeps z t fault q =
      always_if (level_at z.b t)
      (always_read (λ got. second_keeps fault (read_counted z (is_some got)) got (k.counts z (is_some got) q))) (always_done q)

  first_keeps : (t : ℕ) (z : Store F P H) (got : Option R) → Q z → Always (first_read c t z got) (λ y (_ : Got R). Q y)
  first_keeps t z (Some r) q = always_done q
  first_keeps t z None q = always_then (k.fails z A q) (λ y _ x. b_keeps y t (Some A) x)

  pub bytes_keep : (z : Store F P H) (t : ℕ) → Q z → Always (level_bytes c z t) (λ y (_ : Got R). Q y)
  unfolding I.level_bytes
  bytes_keep z t q =
      always_if (level_at z.a t)
      (always_read (λ got. first_keeps t (read_counted z (is_some got)) got (k.counts z (is_some got) q))) (b_keeps z t None q)

  miss_keeps : (z : Store F P H) (u : Usage) (t : ℕ) → Q z → Always (miss c z u t) (λ y (_ : Option Imaged). Q y)
  miss_keeps z u t q =
      always_then (bytes_keep z t q)
      (λ y g x. asks_always (missed_asks c Q (λ v n i patched is r. k.frames v n (Some (c.frame i patched)) r) k.queues u t y g g.bytes x))

  frame_keeps : (z : Store F P H) (u : Usage) (t : ℕ) (o : Option F) → Q z → Always (image_by c z u t o) (λ y (_ : Option Imaged). Q y)
  frame_keeps z u t None q = miss_keeps z u t q
  frame_keeps z u t (Some f) q =
      always_if (c.modified f) (always_done q)
      (always_if (is_bypass u.mode) (miss_keeps z u t q)
      (always_ask (λ listed. always_if listed (always_done q) (miss_keeps (with_frame z t None) u t (k.frames z t None q)))))

  pub image_keeps : (z : Store F P H) (u : Usage) (t : ℕ) → Q z → Always (image c z u t) (λ y (_ : Option Imaged). Q y)
  unfolding I.image
  image_keeps z u t q = frame_keeps z u t (frame_at z t) q

  -- Past the channel

  found_keeps : (z : Store F P H) (o : Option Imaged) → Q z →
      Always {R = R} {I = Image} (had_by (λ y i. Done y (Some (peeked i))) z o) (λ y (_ : Option Peeked). Q y)
  found_keeps z None q = always_done q
  found_keeps z (Some i) q = always_done q

  peeked_keeps : (z : Store F P H) (t : ℕ) → Q z → Always (peek_image c z t) (λ y (_ : Option Peeked). Q y)
  peeked_keeps z t q = always_then (image_keeps z peek_usage t q) (λ y o x. found_keeps y o x)

  half_keeps : (z : Store F P H) (t : ℕ) (h : Option (HalfWrite H)) → Q z → Always (peek_half c z t h) (λ y (_ : Option Peeked). Q y)
  half_keeps z t None q = peeked_keeps z t q
  half_keeps z t (Some h) q =
      always_if (is_in_half c z t h) (always_try (λ ok. always_if ok (always_done q) (always_done q))) (peeked_keeps z t q)

  pub track_keeps : (z : Store F P H) (t : ℕ) → Q z → Always (peek_track c z t) (λ y (_ : Option Peeked). Q y)
  track_keeps z t q = always_if (is_lost z t) (always_done q) (half_keeps z t z.half q)

  -- Behind want of memory

  given_lacks : {X : Type 0} (i : Interaction R Image (Store F P H) X) → Always (and_then i (λ z x. Done z (Some x))) (λ z (o : Option X). Lacks Q z o)
  given_lacks i = always_then (always_any i) (λ z x _. always_done tt)

  tried_lacks : {X : Type 0} (z : Store F P H) {i : Interaction R Image (Store F P H) (Option X)} → Q z → Always i (λ y (o : Option X). Lacks Q y o) →
      Always (tried z i) (λ y (o : Option X). Lacks Q y o)
  tried_lacks z q x = always_try (λ ok. always_if ok x (always_done q))

  -- A command

  clean_lacks : (z : Store F P H) (t : ℕ) → Q z → Always (E.clean_again c z t) (λ y (o : Option Took). Lacks Q y o)
  clean_lacks z t q = always_if (is_clean c (frame_at z t)) (always_ask (λ _. always_done q)) (always_done q)

  unchosen_lacks : (z : Store F P H) (t : ℕ) (choice : Choice) → Q z → Always (unchosen c z t choice) (λ y (o : Option Took). Lacks Q y o)
  unchosen_lacks z t (Fast (Some slot)) q = always_ask (λ _. clean_lacks z t q)
  unchosen_lacks z t (Fast None) q = clean_lacks z t q
  unchosen_lacks z t Provisional q = clean_lacks z t q
  unchosen_lacks z t Through q = always_done q

  chosen_lacks : (u : Usage) (first t : ℕ) (old : Image) (e : Edit) (z : Store F P H) (choice : Choice) → Q z →
      Always (write_chosen c u first t old e z choice) (λ y (o : Option Took). Lacks Q y o)
  chosen_lacks u first t old e z choice q =
      always_if (is_given c z choice)
      (always_tell (λ ok. always_if ok (given_lacks (write_by c u first t (edited_image e old) e z choice)) (unchosen_lacks z t choice q)))
      (given_lacks (write_by c u first t (edited_image e old) e z choice))

  write_lacks : (z : Store F P H) (u : Usage) (first t : ℕ) (old : Image) (e : Edit) → Q z →
      Always (write c z u first t old e) (λ y (o : Option Took). Lacks Q y o)
  unfolding E.write
  write_lacks z u first t old e q =
      tried_lacks z q
      (always_then (asks_always (choose_asks c Q z u t q)) (λ y choice x. chosen_lacks u first t old e y choice x))

  abbrev WentLacks : Store F P H → Option Went → Type 0
  WentLacks z None = Q z
  WentLacks z (Some (Over turn)) = Unit {0}
  WentLacks z (Some (On chain t)) = Q z

  came_lacks : (chain : ChainState) (t : ℕ) (z : Store F P H) (o : Option Took) → Lacks Q z o →
      Always (had_by (came_of_write c chain t) z o) (λ y (a : Option Went). WentLacks y a)
  came_lacks chain t z None q = always_done q
  came_lacks chain t z (Some took) q = always_done tt

  went_lacks : (u : Usage) (first t : ℕ) (z : Store F P H) (i : Image) (chain : ChainState) (p : Progress) → Q z →
      Always (went_by c u first t z i chain p) (λ y (a : Option Went). WentLacks y a)
  went_lacks u first t z i chain (progresses.Ended e) q = always_done tt
  went_lacks u first t z i chain (progresses.Need n) q = always_done q
  went_lacks u first t z i chain (progresses.Write n e) q =
      always_then (write_lacks z u first t i e q) (λ y o x. came_lacks chain t y o x)
  went_lacks u first t z i chain (progresses.Local act) q = always_done tt

  looked_lacks : (chain : ChainState) (first t : ℕ) (z : Store F P H) (o : Option Imaged) → Q z →
      Always (had_by (looked c chain first t) z o) (λ y (a : Option Went). WentLacks y a)
  looked_lacks chain first t z None q = always_done q
  looked_lacks chain first t z (Some (Has i)) q =
      always_try (λ ok. always_if ok
      (went_lacks (usage_of chain) first t z i (stepped chain (Some i)).chain (stepped chain (Some i)).progress q) (always_done q))
  looked_lacks chain first t z (Some (NoBytes fault)) q = always_done tt
  looked_lacks chain first t z (Some (BadTrack side)) q = always_done tt

  look_lacks : (chain : ChainState) (first t : ℕ) (z : Store F P H) → Q z → Always (look c chain first t z) (λ y (a : Option Went). WentLacks y a)
  unfolding N.look
  look_lacks chain first t z q =
      always_if (is_lost z t) (always_done tt)
      (always_then (image_keeps z (usage_of chain) t q) (λ y o x. looked_lacks chain first t y o x))

  abbrev Later : ℕ → ℕ → Type 0
  Later n first = (chain : ChainState) (t : ℕ) (z : Store F P H) → Q z → Always (follow c n first chain t z) (λ y (o : Option Turn). Lacks Q y o)

  goes_lacks : (n first : ℕ) (z : Store F P H) (o : Option Went) → Later n first → WentLacks z o →
      Always (had_by (goes_on c (follow c n first)) z o) (λ y (a : Option Turn). Lacks Q y a)
  goes_lacks n first z None later q = always_done q
  goes_lacks n first z (Some (Over turn)) later q = always_done tt
  goes_lacks n first z (Some (On chain t)) later q = later chain t z q

  pub follow_lacks : (n first : ℕ) → Later n first
  unfolding N.follow
  follow_lacks zero first chain t z q = always_done tt
  follow_lacks (suc n) first chain t z q =
      always_then (look_lacks chain first t z q) (λ y o x. goes_lacks n first y o (follow_lacks n first) x)

  -- By itself

  abbrev Work : Interaction R Image (Store F P H) (Option Did) → Type 0
  Work i = Always i (λ y (o : Option Did). Lacks Q y o)

  saved_lacks : (z : Store F P H) (t : ℕ) (i : Image) (d : Did) (fault : Option Side) → Q z → Work (saved c z t i d fault)
  saved_lacks z t i d fault q = tried_lacks z q (given_lacks (K.saving c z t i d fault))

  recovered_lacks : (t : ℕ) (z : Store F P H) (g : Got R) (o : Option Image) → Q z → Work (recovered_image c t z g o)
  recovered_lacks t z g None q = always_done tt
  recovered_lacks t z g (Some i) q = saved_lacks z t i (Recovered t) g.fault q

  bytes_lack : (t : ℕ) (z : Store F P H) (g : Got R) (o : Option R) → Q z → Work (recovered_bytes c t z g o)
  bytes_lack t z g None q = always_done tt
  bytes_lack t z g (Some r) q = tried_lacks z q (recovered_lacks t z g (image_of c z t r) q)

  recover_lacks : (z : Store F P H) (t : ℕ) (o : Option F) → Q z → Work (recover c z t o)
  recover_lacks z t (Some f) q = saved_lacks z t (framed_image c z t (Some f)) (Recovered t) None q
  recover_lacks z t None q = always_then (bytes_keep z t q) (λ y g x. bytes_lack t y g g.bytes x)

  copied_lacks : (t : ℕ) (side : Side) (z : Store F P H) (ok : Bool) → Work (copied c t side z ok)
  copied_lacks t side z ok =
      always_if ok (always_done tt) (always_then (always_any (call_failed c z side None)) (λ y _ _. always_done tt))

  read_lacks : (t : ℕ) (side : Side) (z : Store F P H) (o : Option R) → Work (copy_read c t side z o)
  read_lacks t side z None = always_then (always_any (call_failed c z (K.other side) None)) (λ y _ _. always_done tt)
  read_lacks t side z (Some r) = always_write (λ ok. copied_lacks t side _ ok)

  copy_lacks : (z : Store F P H) (t : ℕ) (o : Option Side) → Work (copy_by c z t o)
  copy_lacks z t None = always_done tt
  copy_lacks z t (Some side) = always_read (λ got. read_lacks t side (read_counted z (is_some got)) got)

  image_lacks : (t : ℕ) (z : Store F P H) (g : Got R) (o : Option Image) → Work (staged_image c t z g o)
  image_lacks t z g None = always_ask (λ _. always_done tt)
  image_lacks t z g (Some i) = always_then (always_any (filled c z t i)) (λ y _ _. always_done tt)

  staged_lacks : (t : ℕ) (z : Store F P H) (g : Got R) (o : Option R) → Q z → Work (staged_bytes c t z g o)
  staged_lacks t z g None q = always_ask (λ _. always_done tt)
  staged_lacks t z g (Some r) q =
      always_try (λ ok. always_if ok (image_lacks t z g (image_of c z t r)) (always_ask (λ _. always_done q)))

  granted_lacks : (z : Store F P H) (t : ℕ) (given : Bool) → Q z → Work (staging_granted c z t given)
  granted_lacks z t given q =
      always_if given (always_then (bytes_keep z t q) (λ y g x. staged_lacks t y g g.bytes x)) (always_done tt)

  stage_lacks : (z : Store F P H) (t : ℕ) → Q z → Work (stage c z t)
  stage_lacks z t q =
      always_if (is_some (frame_at z t) || is_lost z t) (always_done tt)
      (tried_lacks z q (always_ask (λ given. granted_lacks z t given q)))

  destage_lacks : (z : Store F P H) (o : Option ℕ) → Q z → Work (destage_first c z o)
  destage_lacks z None q = always_done tt
  destage_lacks z (Some t) q = saved_lacks z t (framed_image c z t (frame_at z t)) (Destaged t) None q

  stages_lack : (z : Store F P H) (ts : List ℕ) → Q z → Work (stage_first c z ts)
  stages_lack z [] q = destage_lacks z (to_destage c z) q
  stages_lack z (t ∷ ts) q = stage_lacks (record z { queue = ts }) t (k.unqueues z ts q)

  copies_lack : (z : Store F P H) (o : Option ℕ) → Q z → Work (copy_first c z o)
  copies_lack z None q = stages_lack z z.queue q
  copies_lack z (Some t) q = copy_lacks z t (copies_to z t)

  first_lacks : (z : Store F P H) (o : Option ℕ) → Q z → Work (recover_first c z o)
  first_lacks z None q = copies_lack z (to_copy z) q
  first_lacks z (Some t) q = recover_lacks z t (frame_at z t) q

  pub work_lacks : (z : Store F P H) → Q z → Work (work c z)
  unfolding K.work
  work_lacks z q = first_lacks z (to_recover c z) q
