-- Whatever the reset of a path keeps, the resets that waited keep, once the program is over.
use Rattle.std.proofs.Common.{[], ◌≡◌, ◌≤◌, ◌∷◌, ◌++◌, ℕ, List, Option, Some, None, Bool, true, false, cond, refl, arith, ap, ◌∙◌, append_assoc}
use Rattle.std.proofs.lemmas.List.{append-nil}
use Rattle.plain_defs.specs.declared.journal.Item.{Item}
use Rattle.plain_defs.specs.declared.journal.Item.TheVariants as items
use Rattle.plain_defs.specs.History.{History, OpenEntry, closed, ended, ended_in, resets_of, with_end}
use Rattle.plain_defs.specs.declared.journal.How.TheVariants.{Full}
use Rattle.ckd_types.specs.declared.channel.CommandEnd.{CommandEnd}
use Rattle.deck_audit.specs.Follows.{WaitsAs, if_waits}
use Rattle.deck_audit.specs.Replay as replay
use Rattle.deck_audit.specs.Replayed.{ReplayedState}

pub ended_so : (h : History) (o : OpenEntry) (e : CommandEnd) → h.running ≡ Some o → (over : Bool) → e.over ≡ over
    → ended h e ≡ cond over (closed h (with_end o e) Full) (record h { running = Some (with_end o e) })
ended_so h o e open_is over is = ap (λ (x : Option OpenEntry). ended_in h e x) open_is
    ∙ ap (λ (b : Bool). cond b (closed h (with_end o e) Full) (record h { running = Some (with_end o e) })) is

abbrev reset_if : Bool → ReplayedState → ℕ → ReplayedState
reset_if b r p = cond b (replay.reset_on r p) r

abbrev reset_all : ReplayedState → Bool → Bool → Bool → Bool → ReplayedState
reset_all r a b c d = reset_if d (reset_if c (reset_if b (reset_if a (record r { running = None }) 1) 2) 3) 4

closed_is : (r : ReplayedState) (a b c d : Bool)
    → replay.closed (record r { waits = a ∷ b ∷ c ∷ d ∷ [] }) ≡ record (reset_all r a b c d) { waits = false ∷ false ∷ false ∷ false ∷ [] }
unfolding replay.closed
closed_is r a b c d = grind arith

resets_in_order : (l : List Item) (a b c d : Bool)
    → (((l ++ resets_of (if_waits a 1 [])) ++ resets_of (if_waits b 2 [])) ++ resets_of (if_waits c 3 [])) ++ resets_of (if_waits d 4 [])
    ≡ l ++ resets_of (if_waits a 1 (if_waits b 2 (if_waits c 3 (if_waits d 4 []))))
resets_in_order l a b c d = grind (arith, append_assoc {A = Item})

module _ (r : ReplayedState) (waiting : List ℕ) (w : WaitsAs r.waits waiting) where
  closed_all : replay.closed r ≡ record (reset_all r w.first w.second w.third w.fourth) { waits = false ∷ false ∷ false ∷ false ∷ [] }
  closed_all = ap (λ (l : List Bool). replay.closed (record r { waits = l })) w.waits_are ∙ closed_is r w.first w.second w.third w.fourth

  pub none_waits : WaitsAs (replay.closed r).waits []
  none_waits = record {
    first = false;
    second = false;
    third = false;
    fourth = false;
    waits_are = ap (λ (s : ReplayedState). s.waits) closed_all;
    waiting_are = refl;
  }

  module _ (P : ReplayedState → List Item → Type 0)
      (each : (s : ReplayedState) (l : List Item) (p : ℕ) → 1 ≤ p → p ≤ 4 → P s l → P (replay.reset_on s p) (l ++ items.Reset p ∷ [])) where
    abbrev Any : ReplayedState → List Item → Type 0
    Any s l = (waits : List Bool) → P (record s { waits = waits }) l

    one : (b : Bool) (p : ℕ) → 1 ≤ p → p ≤ 4 → (s : ReplayedState) (l : List Item) → Any s l
        → Any (reset_if b s p) (l ++ resets_of (if_waits b p []))
    one true p least most s l any = λ waits. each (record s { waits = waits }) l p least most (any waits)
    one false p least most s l any = λ waits. rw append-nil (any waits)

    pub resets_keep : (l : List Item) → Any (record r { running = None }) l → P (replay.closed r) (l ++ resets_of waiting)
    resets_keep l start =
        let first : ReplayedState = reset_if w.first (record r { running = None }) 1 in
        let second : ReplayedState = reset_if w.second first 2 in
        let third : ReplayedState = reset_if w.third second 3 in
        let one_path : List Item = l ++ resets_of (if_waits w.first 1 []) in
        let two_paths : List Item = one_path ++ resets_of (if_waits w.second 2 []) in
        let three_paths : List Item = two_paths ++ resets_of (if_waits w.third 3 []) in
        rw (closed_all, w.waiting_are, ← resets_in_order l w.first w.second w.third w.fourth)
        (one w.fourth 4 (omega arith) (omega arith) third three_paths (one w.third 3 (omega arith) (omega arith) second two_paths
        (one w.second 2 (omega arith) (omega arith) first one_path
        (one w.first 1 (omega arith) (omega arith) (record r { running = None }) l start))) (false ∷ false ∷ false ∷ false ∷ []))
