-- A device behind the end of a command, and where the end stands.
use Rattle.std.proofs.Common.{◌≡◌, ◌∙◌, ◌-◌, ℕ, true, List, [], ◌∷◌, ◌++◌, length, Option, Some, None, refl, sym, ap, subst, arith, append_assoc, length-append}
use Rattle.std.specs.Prelude.{slice_get, option_map}
use Rattle.ckd_types.specs.declared.channel.CommandEnd.{CommandEnd}
use Rattle.ckd_chain.specs.State.{ChainState}
use Rattle.plain_defs.specs.declared.journal.How.{How}
use Rattle.plain_defs.specs.declared.journal.How.TheVariants.{Full, Checked}
use Rattle.plain_defs.specs.declared.journal.Item.{Item}
use Rattle.plain_defs.specs.History.{OpenEntry, History, closed, entry_of, resets_of, with_end}
use Rattle.plain_defs.specs.Journal.{Plans}
use Rattle.plain_defs.specs.PlainState.{PathsState, with_sense}
use Rattle.track_image.specs.Image.{Image}
use Rattle.track_cache.specs.declared.frames.Frame.{Frame}
use Rattle.nv_store.specs.declared.patches.Stored.{Stored}
use Rattle.device_defs.specs.declared.answers.Came.TheVariants.{Ends, Checks}
use Rattle.device_defs.specs.Device.{Device, all_reset}
use Rattle.device_defs.specs.Outcomes.{turned}
use Rattle.device_defs.specs.Store.{Store}
use Rattle.device_core.specs.declared.history.Past.{Past}
use Rattle.device_core.specs.declared.history.Running.{Running}
use Rattle.device_core.specs.Kept.{open_of, chain_of, history_of, waiting_in}
use Rattle.device_core.specs.State.{device_by, last_of, last_of_item, last_by, last_end_of}
use Rattle.device_core.specs.TrackWalk.{turn_with}

there : {A : Type 0} (xs ys : List A) (x : A) → slice_get (xs ++ x ∷ ys) (length xs) ≡ Some x
there [] ys x = refl
there (z ∷ zs) ys x = there zs ys x

pub last_is : (ends : List CommandEnd) (e : CommandEnd) → last_of (ends ++ e ∷ []) ≡ Some e
last_is ends e =
    let at : length (ends ++ e ∷ []) - 1 ≡ length ends = omega (arith, length-append ends (e ∷ [])) in
    subst (λ (n : ℕ). slice_get (ends ++ e ∷ []) n ≡ Some e) (sym at) (there ends [] e)

-- the last end of a program that is over is where its entry is
pub last_over : (p q z : Past) (o : OpenEntry) (how : How) → q.running ≡ None → q.items.items ≡ p.items.items ++ entry_of o how ∷ [] →
    q.last ≡ length p.items.items → z.items.items ≡ q.items.items ++ resets_of (waiting_in q.kept) → z.running ≡ q.running → z.last ≡ q.last →
    last_end_of z ≡ last_of o.ends
last_over p q z o how over entry last_q follow running_z last_z =
    ap (λ (r : Option Running). last_by z r) (running_z ∙ over)
    ∙ ap (λ (l : List Item). last_of_item (slice_get l z.last)) (follow ∙ ap (λ (l : List Item). l ++ resets_of (waiting_in q.kept)) entry)
    ∙ ap (λ (n : ℕ). last_of_item (slice_get ((p.items.items ++ entry_of o how ∷ []) ++ resets_of (waiting_in q.kept)) n)) (last_z ∙ last_q)
    ∙ ap (λ (l : List Item). last_of_item (slice_get l (length p.items.items)))
    (append_assoc p.items.items (entry_of o how ∷ []) (resets_of (waiting_in q.kept)))
    ∙ ap last_of_item (there p.items.items (resets_of (waiting_in q.kept)) (entry_of o how))

last_at : (p : Past) (x : Option Running) (o : OpenEntry) → option_map open_of x ≡ Some o → last_by p x ≡ last_of o.ends
last_at p None o is = absurd cc
last_at p (Some r) o is = let same : open_of r ≡ o = cc in ap (λ (z : OpenEntry). last_of z.ends) same

pub last_running : (p : Past) (o : OpenEntry) → option_map open_of p.running ≡ Some o → last_end_of p ≡ last_of o.ends
last_running p o is = last_at p p.running o is

module _ (s : Store Frame Stored Image) (plans : Plans) where
  built : PathsState → History → Option ChainState → Device Frame Stored Image
  built paths h chain = record { store = s; paths = paths; plans = plans; history = h; chain = chain }

  pub turned_over : (p q z : Past) (paths mid after : PathsState) (o : OpenEntry) (chain : ChainState) (e : CommandEnd) →
      option_map open_of p.running ≡ Some o → e.over ≡ true → z.running ≡ None → history_of z ≡ closed (history_of q) (with_end o e) Full →
      q.items ≡ p.items → q.kept ≡ p.kept → mid ≡ with_sense paths o.path e.sense → after ≡ all_reset mid (waiting_in q.kept) →
      device_by s after plans z ≡ turned (device_by s paths plans p) o.path (turn_with chain (Ends e))
  unfolding built
  turned_over p q z paths mid after o chain e is over none history items kept sense reset =
      ap (λ (h : History). built after h (option_map chain_of z.running)) history ∙ (rw (none, reset, sense, items, kept, over, is) refl)

  pub turned_checked : (p q z : Past) (paths mid after : PathsState) (o : OpenEntry) (chain : ChainState) (e : CommandEnd) →
      option_map open_of p.running ≡ Some o → z.running ≡ None → history_of z ≡ closed (history_of q) (with_end o e) Checked →
      q.items ≡ p.items → q.kept ≡ p.kept → mid ≡ with_sense paths o.path e.sense → after ≡ all_reset mid (waiting_in q.kept) →
      device_by s after plans z ≡ turned (device_by s paths plans p) o.path (turn_with chain (Checks e))
  unfolding built
  turned_checked p q z paths mid after o chain e is none history items kept sense reset =
      ap (λ (h : History). built after h (option_map chain_of z.running)) history ∙ (rw (none, reset, sense, items, kept, is) refl)
