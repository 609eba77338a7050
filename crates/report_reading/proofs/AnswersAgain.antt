-- The words that an answer is written with say the answer again, and have no space.
use Rattle.std.proofs.Common.{◌≡◌, refl, true, Some, Ok, ap, arith}
use Rattle.ckd_types.specs.declared.channel.Note.{Note}
use Rattle.ckd_types.specs.declared.paths.Owner.{Owner}
use Rattle.ckd_types.specs.declared.paths.Owner.TheVariants as owners
use Rattle.ckd_types.specs.declared.paths.Side.{Side}
use Rattle.report_text.specs.declared.answers.BackAnswer.{BackAnswer}
use Rattle.report_text.specs.declared.answers.DeviceTotals.{DeviceTotals}
use Rattle.report_text.specs.declared.answers.DeviceTotals.TheVariants as totals
use Rattle.report_text.specs.declared.answers.HowOver.{HowOver}
use Rattle.report_text.specs.declared.answers.HowOver.TheVariants as how
use Rattle.report_text.specs.declared.answers.LooseAnswer.{LooseAnswer}
use Rattle.report_text.specs.declared.answers.LooseAnswer.TheVariants as loose
use Rattle.report_text.specs.declared.answers.OrderAnswer.{OrderAnswer}
use Rattle.report_text.specs.declared.answers.OrderAnswer.TheVariants as order_answers
use Rattle.report_text.specs.declared.answers.OrderRefusal.{OrderRefusal}
use Rattle.report_text.specs.declared.answers.StartAnswer.{StartAnswer}
use Rattle.report_text.specs.declared.answers.StartAnswer.TheVariants as start
use Rattle.report_reading.specs.Answers.{answer_at, back_at, fault_at, loose_at, over_at, owner_at, start_at, totals_at}
use Rattle.report_text.specs.Keywords.{keyword_text}
use Rattle.report_reading.specs.Places.{◌>>=◌, is_key, note_of, side_of}
use Rattle.report_reading.specs.Ranges.{IsAnswer, IsBack, IsFault, IsLoose, IsOver, IsOwner, IsStart, IsTotals}
use Rattle.report_text.specs.Words.{answer_words, back_words, fault_words, loose_words, note_key, over_words, owner_words, side_key}
use Rattle.report_text.specs.Words.{start_words, totals_words}
use Rattle.report_reading.proofs.Cut.{are_solid, is_solid, hex_solid}
use Rattle.report_reading.proofs.NumberAgain.{count_read, count_solid, device_read, device_solid, long_read, long_solid, path_read, path_solid}
use Rattle.report_reading.proofs.NumberAgain.{short_read, short_solid, sized_read, track_read, track_solid}

pub side_read : (side : Side) → side_of (keyword_text (side_key side)) ≡ Some side
unfolding is_key
side_read side = grind arith

pub side_solid : (side : Side) → is_solid (keyword_text (side_key side)) ≡ true
side_solid side = grind arith

pub note_read : (note : Note) → note_of (keyword_text (note_key note)) ≡ Some note
unfolding is_key
note_read note = grind arith

pub note_solid : (note : Note) → is_solid (keyword_text (note_key note)) ≡ true
note_solid note = grind arith

pub owner_read : (x : Owner) → IsOwner x → owner_at (owner_words x) 0 ≡ Ok x
unfolding is_key
owner_read (owners.Group id) h = rw (sized_read 11 id.bytes h) refl
owner_read (owners.Path n) h = rw (path_read n h) refl

pub owner_solid : (x : Owner) → IsOwner x → are_solid (owner_words x) ≡ true
owner_solid (owners.Group id) h = rw (hex_solid id.bytes) refl
owner_solid (owners.Path n) h = rw (path_solid n h) refl

pub start_read : (x : StartAnswer) → IsStart x → start_at (start_words x) 0 ≡ Ok x
unfolding is_key
start_read (start.Accepted n) h = rw (short_read n h) refl
start_read (start.Busy n) h = rw (path_read n h) refl
start_read start.Done h = refl
start_read start.Running h = refl
start_read (start.Secondary n) h = rw (device_read n h) refl
start_read (start.Reserved owner) h = ap (λ r. r >>= (λ x. Ok (start.Reserved x))) (owner_read owner h)
start_read (start.Shut owner) h = ap (λ r. r >>= (λ x. Ok (start.Shut x))) (owner_read owner h)

pub start_solid : (x : StartAnswer) → IsStart x → are_solid (start_words x) ≡ true
start_solid x h = grind (arith, short_solid, path_solid, device_solid, owner_solid)

pub back_read : (x : BackAnswer) → IsBack x → back_at (back_words x) 0 ≡ Ok x
unfolding is_key
back_read x h = grind (arith, track_read, side_read)

pub back_solid : (x : BackAnswer) → IsBack x → are_solid (back_words x) ≡ true
back_solid x h = grind (arith, track_solid, side_solid)

pub loose_read : (x : LooseAnswer) → IsLoose x → loose_at (loose_words x) 0 ≡ Ok x
unfolding is_key
loose_read (loose.Harden n) h = rw (track_read n h) refl
loose_read (loose.Loosen n) h = rw (track_read n h) refl
loose_read (loose.Lost n id) h = rw (short_read n h.0, sized_read 2 id h.1) refl

pub loose_solid : (x : LooseAnswer) → IsLoose x → are_solid (loose_words x) ≡ true
loose_solid (loose.Harden n) h = rw (track_solid n h) refl
loose_solid (loose.Loosen n) h = rw (track_solid n h) refl
loose_solid (loose.Lost n id) h = rw (short_solid n h.0, hex_solid id) refl

pub over_read : (x : HowOver) → IsOver x → over_at (over_words x) 0 ≡ Ok x
unfolding is_key
over_read how.Full h = refl
over_read how.Checked h = refl
over_read (how.Cut n) h = rw (short_read n h) refl

pub over_solid : (x : HowOver) → IsOver x → are_solid (over_words x) ≡ true
over_solid x h = grind (arith, short_solid)

pub fault_read : (x : OrderRefusal) → IsFault x → fault_at (fault_words x) 0 ≡ Ok x
unfolding is_key
fault_read x h = grind (arith, device_read, path_read, short_read)

pub fault_solid : (x : OrderRefusal) → IsFault x → are_solid (fault_words x) ≡ true
fault_solid x h = grind (arith, device_solid, path_solid, short_solid)

pub answer_read : (x : OrderAnswer) → IsAnswer x → answer_at (answer_words x) 0 ≡ Ok x
unfolding is_key
answer_read order_answers.Done h = refl
answer_read (order_answers.Pending n) h = rw (count_read n h) refl
answer_read (order_answers.Refused fault) h = ap (λ r. r >>= (λ x. Ok (order_answers.Refused x))) (fault_read fault h)

pub answer_solid : (x : OrderAnswer) → IsAnswer x → are_solid (answer_words x) ≡ true
answer_solid x h = grind (arith, count_solid, fault_solid)

pub totals_read : (x : DeviceTotals) → IsTotals x → totals_at (totals_words x) 0 ≡ Ok x
unfolding is_key
totals_read (totals.Calls reads writes lost) h = rw (long_read reads h.0, long_read writes h.1, long_read lost h.2) refl
totals_read (totals.Lost n) h = rw (long_read n h) refl
totals_read (totals.Lent n) h = rw (device_read n h) refl

pub totals_solid : (x : DeviceTotals) → IsTotals x → are_solid (totals_words x) ≡ true
totals_solid x h = grind (arith, long_solid, device_solid)
