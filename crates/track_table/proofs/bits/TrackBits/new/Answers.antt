use Rattle.std.proofs.Common.{◌≡◌, ℕ, length, get_or, ap, ◌∙◌, rules}
use Rattle.std.specs.Prelude.{replicate}
use Rattle.std.proofs.lemmas.List.{length-replicate}
use Rattle.track_table.proofs.MarkLists.{no_bits, no_marks}
use Rattle.track_table.proofs.Places.{empty_places}
use Rattle.track_table.proofs.bits.TrackBits.new.Goals as goal

words_are : (c : goal.In_ok-vec) → c.in_ok-vec.field-0.items ≡ replicate 1024 0
words_are c = search rules

whole : (c : goal.In_ok-vec) → length c.in_ok-vec.field-0.items ≡ 1024
whole c = ap length (words_are c) ∙ (let none : ℕ = 0 in length-replicate 1024 none)

zeros : (c : goal.In_ok-vec) (k : ℕ) → get_or c.in_ok-vec.field-0.items k 0 ≡ 0
zeros c k = rw (words_are c) (empty_places 1024 k 0)

pub invariant_of-result : goal.invariant_of-result
invariant_of-result c = (whole c, no_bits c.in_ok-vec.field-0.items (zeros c) 65535, λ k below unused. zeros c k, λ j below none. empty_places 16 j 0)

pub returns : goal.returns
returns c = no_marks c.in_ok-vec.field-0.items (whole c) (zeros c)
