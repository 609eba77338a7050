-- Which tracks are to be copied: none but where both sides are up.
use Rattle.std.proofs.Common.{◌≡◌, ◌≤◌, ℕ, Bool, true, false, List, length, refl, ap, sym, ◌∙◌, arith}
use Rattle.std.specs.Prelude.{◌&&◌, ◌||◌, not, is_some, Some, None, slice_index_or, if◌then◌else◌}
use Rattle.std.proofs.lemmas.List.{get_or_past}
use Rattle.ckd_types.specs.declared.paths.Side.TheVariants.{A, B}
use Rattle.device_defs.specs.Store.{SideMarks, stale_at}
use Rattle.duplex_pair.specs.Sides.{copies_in}

abbrev copied : Bool → Bool → Bool → Bool → Bool → Bool
copied au bu sa sb held =
    is_some (if au && sa && (bu && not sb) then Some A else if (bu && not held) && sb && (au && not sa) then Some B else None)

-- stale on one and not on the other
abbrev either_stale : Bool → Bool → Bool → Bool
either_stale held sa sb = (sa && not sb) || (not held && (sb && not sa))

when_up : (au bu sa sb held : Bool) → (au && bu) ≡ true → copied au bu sa sb held ≡ either_stale held sa sb
when_up false bu sa sb held e = absurd cc
when_up true false sa sb held e = absurd cc
when_up true true true true true e = refl
when_up true true true true false e = refl
when_up true true true false held e = refl
when_up true true false true true e = refl
when_up true true false true false e = refl
when_up true true false false true e = refl
when_up true true false false false e = refl

when_down : (au bu sa sb held : Bool) → (au && bu) ≡ false → copied au bu sa sb held ≡ false
when_down true true sa sb held e = absurd cc
when_down true false true sb held e = refl
when_down true false false sb held e = refl
when_down false true sa true true e = refl
when_down false true sa true false e = refl
when_down false true sa false true e = refl
when_down false true sa false false e = refl
when_down false false sa sb held e = refl

is_copied : (a b : SideMarks) (held : Bool) (t : ℕ) → (a.up && b.up) ≡ true →
    is_some (copies_in a b held t) ≡ either_stale held (stale_at a t) (stale_at b t)
is_copied a b held t up = when_up a.up b.up (stale_at a t) (stale_at b t) held up

pub none_copied : (a b : SideMarks) (held : Bool) (t : ℕ) → (a.up && b.up) ≡ false → is_some (copies_in a b held t) ≡ false
none_copied a b held t down = when_down a.up b.up (stale_at a t) (stale_at b t) held down

neither : (held : Bool) → either_stale held false false ≡ false
neither true = refl
neither false = refl

-- none is copied that is no track of the device
pub none_past : (a b : SideMarks) (held : Bool) (n t : ℕ) → length a.stale ≡ n → length b.stale ≡ n → (a.up && b.up) ≡ true → n ≤ t →
    is_some (copies_in a b held t) ≡ false
none_past a b held n t la lb up le =
    is_copied a b held t up
    ∙ ap (λ (x : Bool). either_stale held x (stale_at b t)) (get_or_past a.stale t false (omega (arith, la, le)))
    ∙ ap (λ (x : Bool). either_stale held false x) (get_or_past b.stale t false (omega (arith, lb, le))) ∙ neither held

held_stale : (sa sb : Bool) → (sa && not sb) ≡ either_stale true sa sb
held_stale true true = refl
held_stale true false = refl
held_stale false sb = refl

free_stale : (sa sb : Bool) → ((sa && not sb) || (sb && not sa)) ≡ either_stale false sa sb
free_stale true true = refl
free_stale true false = refl
free_stale false true = refl
free_stale false false = refl

pub held_copied : (a b : SideMarks) (held : Bool) (t : ℕ) → (a.up && b.up) ≡ true → held ≡ true →
    (stale_at a t && not (stale_at b t)) ≡ is_some (copies_in a b held t)
held_copied a b true t up is = held_stale (stale_at a t) (stale_at b t) ∙ sym (is_copied a b true t up)
held_copied a b false t up is = absurd cc

pub free_copied : (a b : SideMarks) (held : Bool) (t : ℕ) → (a.up && b.up) ≡ true → held ≡ false →
    ((stale_at a t && not (stale_at b t)) || (stale_at b t && not (stale_at a t))) ≡ is_some (copies_in a b held t)
free_copied a b false t up is = free_stale (stale_at a t) (stale_at b t) ∙ sym (is_copied a b false t up)
free_copied a b true t up is = absurd cc
