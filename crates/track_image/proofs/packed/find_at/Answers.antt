use Rattle.std.proofs.Common.{ℕ, ◌≡◌, List, true, get_or, drop, sym, ap, ◌∙◌, arith}
use Rattle.ckd_types.specs.declared.record.RecId.{RecId}
use Rattle.ckd_types.specs.Track.{is_same_id}
use Rattle.track_image.specs.Reading.{count_at}
use Rattle.track_image.proofs.Packs.{found_at, found_none}
use Rattle.track_image.proofs.packed.find_at.Goals as goal

pub returns-then-eq : goal.returns-then-eq
returns-then-eq c =
    let test = λ (n : ℕ). is_same_id (count_at (drop n c.args.bytes.now)).id c.args.id in
    let passes : test (get_or c.args.places.now c.loop-i.i 0) ≡ true =
    ap (λ (x : RecId). is_same_id x c.args.id) (sym (c.id_at.ensures
    ∙ ap (λ (b : List ℕ). (count_at b).id) (c.rest_of.ensures
    ∙ ap (λ (n : ℕ). drop n c.args.bytes.now) c.from.ensures)))
    ∙ sym c.eq.ensures ∙ c.if-eq.true in
    found_at test c.args.places.now c.loop-i.i 0 (omega arith) c.loop-i.invariant passes

pub returns : goal.returns
returns c =
    let test = λ (n : ℕ). is_same_id (count_at (drop n c.args.bytes.now)).id c.args.id in
    found_none test c.args.places.now 0 (λ k h. c.loop-i.invariant k (omega (arith, h)))
