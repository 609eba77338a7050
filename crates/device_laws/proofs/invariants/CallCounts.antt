-- The parts of an event on its tracks change nothing of what a device is, and count their calls.
use Rattle.std.proofs.Common.{[], ◌≡◌, ◌+◌, ℕ, Bool, true, false, List, ◌∷◌, ◌++◌, Option, Some, None, is_some, refl, ap, subst, ◌∙◌, arith}
use Rattle.std.specs.Prelude.{if◌then◌else◌, count_by}
use Rattle.std.specs.List.{fold}
use Rattle.ckd_types.specs.declared.paths.Side.{Side}
use Rattle.ckd_types.specs.declared.paths.Side.TheVariants.{A, B}
use Rattle.ckd_types.specs.declared.record.Edit.{Edit}
use Rattle.loss_model.specs.declared.Loss.{Loss}
use Rattle.loss_model.specs.declared.Loss.TheVariants as losses
use Rattle.plain_defs.specs.declared.journal.Act.{Act}
use Rattle.plain_defs.specs.declared.journal.Act.TheVariants.{CfwLost, Loosen, Harden}
use Rattle.device_defs.specs.Command.{is_loss}
use Rattle.track_image.specs.Image.{Image}
use Rattle.device_outside.specs.Interaction.{Interaction}
use Rattle.device_defs.specs.declared.usage.Usage.{Usage}
use Rattle.device_defs.specs.Background.{work}
use Rattle.device_defs.specs.Contents.{Contents}
use Rattle.device_defs.specs.Editing.{write}
use Rattle.device_defs.specs.Effects.{act_noted, gone_back, loose_lost}
use Rattle.device_defs.specs.Events.{with_loss, lost_by, losing}
use Rattle.device_defs.specs.Image.{level_bytes, image}
use Rattle.device_defs.specs.Losses as L
use Rattle.device_defs.specs.Losses.{over, down, settled, without_frame, side_lost, store_lost, all_firm_told}
use Rattle.device_defs.specs.Owed.{hear, all_told}
use Rattle.device_defs.specs.Peek.{peek_track}
use Rattle.device_defs.specs.Second.{second_part}
use Rattle.device_defs.specs.Store.{HalfWrite, Store, tracks_of, has_loose}
use Rattle.device_laws.proofs.Based.{
  Base,
  base_of,
  Hushed,
  Based,
  based_done,
  based_try,
  based_ask,
  based_read,
  based_write,
  based_tell,
  read_base,
  write_base,
  forget,
  kept,
  based_forget,
}
use Rattle.device_laws.proofs.walks.Within.{Policy, Inner, inner_hushed, Within, within_done, within_try, within_ask, within_read, within_write, within_tell, within_weaker}
use Rattle.device_laws.proofs.walks.Moves.{Kind, Shut, Half, Emptied, Losing, Moves, stays, Ends, Goes, Comes}
use Rattle.device_laws.proofs.walks.Shells.{Shell, shell_acted, IsOfShell, moves_shell, ends_shell}
use Rattle.device_laws.proofs.walks.Reads.{
  over_moves,
  side_moves,
  swept_moves,
  store_moves,
  hear_goes,
  all_told_goes,
  firm_told_goes,
  level_goes,
  image_goes,
  track_goes,
}
use Rattle.device_laws.proofs.walks.Writes.{write_comes, second_part_goes, work_comes}

-- what a device is goes along, with the calls that it counts
abbrev pub calls : Policy Base
calls = record {
  had = λ ok. true;
  read = λ b ok. Some (read_base b ok);
  wrote = λ b ok. Some (write_base b ok);
  wants = λ device t. Unit {0};
}

pub within_based : {R S A : Type 0} {base : S → Base} {b : Base} {i : Interaction R Image S A} →
    Within calls (Inner calls) (λ n s a. base s ≡ n) b i → Based base Hushed b i
within_based (within_done e) = based_done e
within_based (within_try x) = based_try (λ ok. within_based (x ok refl))
within_based (within_ask {call = call} m x) = based_ask (inner_hushed calls call m) (λ a. within_based (x a))
within_based {b = b} (within_read x) = based_read (λ got. within_based (x got (read_base b (is_some got)) refl))
within_based {b = b} (within_write x) = based_write (λ ok. within_based (x ok (write_base b ok) refl))
within_based (within_tell x) = based_tell (λ r. within_based (x r refl))

-- what it is by its shell
abbrev base_at : Shell → Base
base_at x = record {
  device = x.device;
  geometry = x.geometry;
  cylinders = x.cylinders;
  lent = x.lent;
  counts = x.counts;
  gone = count_by is_loss x.acts;
}

read_same : (b x n : Base) (ok : Bool) → Some (read_base b ok) ≡ Some n → x ≡ b → read_base x ok ≡ n
read_same b x n ok is e = ap (λ (y : Base). read_base y ok) e ∙ (let same : read_base b ok ≡ n = cc in same)

write_same : (b x n : Base) (ok : Bool) → Some (write_base b ok) ≡ Some n → x ≡ b → write_base x ok ≡ n
write_same b x n ok is e = ap (λ (y : Base). write_base y ok) e ∙ (let same : write_base b ok ≡ n = cc in same)

abbrev count_from : ℕ → List Act → ℕ
count_from n acts = fold (λ k act. k + (if is_loss act then 1 else 0)) n acts

-- an act that is no loss
pub one_act : (n : ℕ) (acts : List Act) (act : Act) → is_loss act ≡ false → count_from n (acts ++ act ∷ []) ≡ count_from n acts
one_act n [] act e = ap (λ (b : Bool). n + (if b then 1 else 0)) e ∙ (let same : n + 0 ≡ n = omega arith in same)
one_act n (x ∷ acts) act e = one_act (n + (if is_loss x then 1 else 0)) acts act e

acted_base : (x : Shell) (act : Act) → is_loss act ≡ false → base_at (shell_acted x act) ≡ base_at x
acted_base x act e = ap (λ (n : ℕ). record (base_at x) { gone = n }) (one_act 0 x.acts act e)

-- where nothing is noted as lost
calls_kept : (kind : Kind) → ((loss : Loss) → kind ≡ Losing loss → ⊥) → IsOfShell calls kind (λ b x. base_at x ≡ b)
calls_kept kind none = record {
  reads = λ m n x ok is e. read_same m (base_at x) n ok is e;
  writes = λ m n x ok is e. write_same m (base_at x) n ok is e;
  falls_reading = λ m n x side pair is e. read_same m (base_at x) n false is e;
  falls_writing = λ m n x side pair is e. write_same m (base_at x) n false is e;
  falls = λ n x side lost e. e;
  hardens = λ n x t why e. acted_base x (Harden t) refl ∙ e;
  loosens = λ n x t is e. acted_base x (Loosen t) refl ∙ e;
  loses = λ n x t here e. e;
  goes_back = λ n x may some e. e;
  loses_loose = λ n x lossy some e. absurd (none losses.Cache lossy);
  queues = λ n x room e. e;
  dequeues = λ n x l less e. e;
  notes = λ n x loss lossy e. absurd (none loss lossy);
}

module _ {F P H R : Type 0} (c : Contents F P H R) where
  abbrev pub Steady : {A : Type 0} → Store F P H → Interaction R Image (Store F P H) A → Type 0
  Steady s i = Based base_of Hushed (base_of s) i

  pub moves_count : (s : Store F P H) {n : Base} {z : Store F P H} → Moves calls Shut c (base_of s) s n z → base_of z ≡ n
  moves_count s m = moves_shell c (calls_kept Shut (λ loss e. absurd (cc))) refl m

  half_moves_count : (s : Store F P H) {n : Base} {z : Store F P H} → Moves calls Half c (base_of s) s n z → base_of z ≡ n
  half_moves_count s m = moves_shell c (calls_kept Half (λ loss e. absurd (cc))) refl m

  pub parts_count : (s : Store F P H) {n : Base} {z : Store F P H} → Moves calls Emptied c (base_of s) s n z → base_of z ≡ n
  parts_count s m = moves_shell c (calls_kept Emptied (λ loss e. absurd (cc))) refl m

  pub ends_count : (s : Store F P H) {n : Base} {z : Store F P H} → Ends calls Shut c (base_of s) s n z → base_of z ≡ n
  ends_count s m = ends_shell c (calls_kept Shut (λ loss e. absurd (cc))) refl m

  pub half_ends_count : (s : Store F P H) {n : Base} {z : Store F P H} → Ends calls Half c (base_of s) s n z → base_of z ≡ n
  half_ends_count s m = ends_shell c (calls_kept Half (λ loss e. absurd (cc))) refl m

  moves_steady : {A : Type 0} (s : Store F P H) {i : Interaction R Image (Store F P H) A} → Goes calls Shut c (base_of s) s (base_of s) i → Steady s i
  moves_steady s x = within_based (within_weaker x (λ n z a m. moves_count s m))

  pub ends_steady : {A : Type 0} (s : Store F P H) {i : Interaction R Image (Store F P H) A} → Comes calls Shut c (base_of s) s (base_of s) i → Steady s i
  ends_steady s x = within_based (within_weaker x (λ n z a m. ends_count s m))

  -- Notices, what is told, losses and cuts

  pub hear_steady : (n : ℕ) (s : Store F P H) → Steady s (hear c n s)
  hear_steady n s = moves_steady s (hear_goes n s stays)

  pub all_told_steady : (n : ℕ) (s : Store F P H) → Steady s (all_told c n s)
  all_told_steady n s = moves_steady s (all_told_goes n s stays)

  pub firm_steady : (n : ℕ) (s : Store F P H) → Steady s (all_firm_told c n s)
  firm_steady n s = moves_steady s (firm_told_goes n s stays)

  down_base : (s : Store F P H) (side : Side) → base_of (down s side) ≡ base_of s
  down_base s A = refl
  down_base s B = refl

  pub side_base : (s : Store F P H) (side : Side) (writing : Option ℕ) → base_of (side_lost c s side writing) ≡ base_of s
  side_base s side writing = moves_count (down s side) (side_moves s side writing stays) ∙ down_base s side

  pub store_base : (s : Store F P H) → base_of (store_lost c s) ≡ base_of s
  store_base s = parts_count s (store_moves s tt stays)

  pub swept_base : (n : ℕ) (s : Store F P H) → base_of (over n (λ t z. settled c (without_frame z t) t) s) ≡ base_of s
  swept_base n s = parts_count s (over_moves (λ t z. settled c (without_frame z t) t) (swept_moves tt) n s stays)

  loose_by : (s : Store F P H) (x : Bool) → kept (record (if x then act_noted (gone_back s) CfwLost else s) { queue = [] }) ≡ kept s
  loose_by s true = refl
  loose_by s false = refl

  lost_base : (s : Store F P H) (loss : Loss) → kept (lost_by c s loss) ≡ kept s
  unfolding L.cache_lost
  lost_base s losses.Cache = ap forget (swept_base (tracks_of s) (record (loose_lost s) { queue = [] })) ∙ loose_by s (has_loose s)
  lost_base s losses.Store = ap forget (store_base s)
  lost_base s (losses.Side side) = ap forget (side_base s side None)

  -- a loss may be one of data of cache fast write
  pub losing_steady : (s : Store F P H) (loss : Loss) → Based kept Hushed (kept (with_loss s loss)) (losing c s loss)
  losing_steady s loss =
      let z = lost_by c (with_loss s loss) loss in
      subst (λ (x : Base). Based kept Hushed x (losing c s loss)) (lost_base (with_loss s loss) loss) (based_forget (firm_steady (tracks_of s) z))

  -- Images, writes, and work

  pub level_steady : (s : Store F P H) (t : ℕ) → Steady s (level_bytes c s t)
  level_steady s t = moves_steady s (within_weaker (level_goes s t stays) (λ n z g x. x.0))

  pub image_steady : (s : Store F P H) (u : Usage) (t : ℕ) → Steady s (image c s u t)
  image_steady s u t = moves_steady s (image_goes s u t tt stays)

  pub track_steady : (s : Store F P H) (t : ℕ) → Steady s (peek_track c s t)
  track_steady s t = moves_steady s (track_goes s t tt stays)

  pub write_steady : (s : Store F P H) (u : Usage) (first t : ℕ) (old : Image) (e : Edit) → Steady s (write c s u first t old e)
  write_steady s u first t old e = ends_steady s (write_comes refl s u first t old e stays)

  pub second_steady : (s : Store F P H) (h : HalfWrite H) → s.half ≡ Some h → Steady s (second_part c s h)
  second_steady s h is =
      within_based (within_weaker (second_part_goes (λ e. absurd (cc)) s h is stays)
      (λ n z a m. half_moves_count s m))

  pub work_steady : (s : Store F P H) → Steady s (work c s)
  work_steady s = ends_steady s (work_comes refl s (λ t ts is. tt) stays)
