-- A deck's devices have 1 to 64 cylinders.
use Rattle.std.proofs.Common.{◌≡◌, ◌∷◌, [], ◌++◌, ℕ, List, Ok, subst}
use Rattle.std.specs.Prelude.{All}
use Rattle.std.proofs.lemmas.List.Elements.{All-nil, All-cons}
use Rattle.deck_text.specs.declared.line.DeckWhy.TheVariants.{Words, Number}
use Rattle.deck_text.specs.declared.line.DeviceLine.{DeviceLine}
use Rattle.deck_text.specs.DeckLines.{DeckLines}
use Rattle.deck_text.specs.Numbers.{number_in, geometry_of}
use Rattle.deck_text.specs.Words.{three_words}
use Rattle.deck_text.specs.Forms.{needed, then_read, rises, rising, device_line}
use Rattle.deck_text.specs.Parse.{parsed}
use Rattle.deck_text.proofs.FormsAgain.{went, needed_is, if_ok, number_range}
use Rattle.deck_text.proofs.DeckAgain.{AllDevices, device_words}
use Rattle.deck_text.proofs.Reached.{parsed_good}
use Rattle.report_audit.specs.Auditor.{IsSized}

line_sized : (devices : List DeviceLine) (words : List (List ℕ)) (d : DeviceLine) → device_line devices words ≡ Ok d → IsSized d
line_sized devices words d h =
    let go0 =
    λ (w : List ℕ × List ℕ
    × List ℕ). then_read (needed Number (number_in 0 15 w.0))
    (λ n. then_read (needed Number (geometry_of w.1))
    (λ g. then_read (needed Number (number_in 1 64 w.2)) (λ c. rising devices (record { number = n; geometry = g; cylinders = c })))) in
    let a = went (needed Words (three_words words)) go0 d h in
    let b = went (needed Number (number_in 0 15 a.value.0))
    (λ n. then_read (needed Number (geometry_of a.value.1))
    (λ g. then_read (needed Number (number_in 1 64 a.value.2)) (λ c. rising devices (record { number = n; geometry = g; cylinders = c })))) d a.second in
    let e = went (needed Number (geometry_of a.value.1))
    (λ g. then_read (needed Number (number_in 1 64 a.value.2)) (λ c. rising devices (record { number = b.value; geometry = g; cylinders = c }))) d b.second
    in
    let f = went (needed Number (number_in 1 64 a.value.2)) (λ c. rising devices (record { number = b.value; geometry = e.value; cylinders = c })) d e.second in
    let same = if_ok (rises devices b.value) (record { number = b.value; geometry = e.value; cylinders = f.value }) d Number f.second in
    let r = number_range 1 64 a.value.2 f.value (needed_is Number (number_in 1 64 a.value.2) f.value f.first) in
    subst (λ (line : DeviceLine). IsSized line) same (r.low, r.high)

all_sized : (before ds : List DeviceLine) → AllDevices before ds → All IsSized ds
all_sized before [] h = All-nil IsSized
all_sized before (d ∷ ds) h = All-cons IsSized d ds (line_sized before (device_words d) d h.0.again) (all_sized (before ++ d ∷ []) ds h.1)

pub deck_sized : (text : List ℕ) (d : DeckLines) → parsed text ≡ Ok d → All IsSized d.devices
deck_sized text d parses = all_sized [] d.devices (parsed_good text d parses).devices
