-- The words behind the first one of a line, in the parts that several lines have.
use Rattle.std.specs.Prelude.{ℕ, List, [], ◌∷◌, decimal, Bool, if◌then◌else◌}
use Rattle.std.specs.List.{flat_map}
use Rattle.hex.specs.Hex.{encode_upper}
use Rattle.ckd_types.specs.declared.channel.Note.{Note}
use Rattle.ckd_types.specs.declared.channel.Note.TheVariants.{Plain, IncorrectLength, Limit}
use Rattle.ckd_types.specs.declared.paths.Owner.{Owner}
use Rattle.ckd_types.specs.declared.paths.Owner.TheVariants as owners
use Rattle.ckd_types.specs.declared.paths.Side.{Side}
use Rattle.ckd_types.specs.declared.paths.Side.TheVariants.{A, B}
use Rattle.report_text.specs.declared.answers.BackAnswer.{BackAnswer}
use Rattle.report_text.specs.declared.answers.BackAnswer.TheVariants as back
use Rattle.report_text.specs.declared.answers.DeviceTotals.{DeviceTotals}
use Rattle.report_text.specs.declared.answers.DeviceTotals.TheVariants as totals
use Rattle.report_text.specs.declared.answers.HowOver.{HowOver}
use Rattle.report_text.specs.declared.answers.HowOver.TheVariants as how
use Rattle.report_text.specs.declared.answers.LooseAnswer.{LooseAnswer}
use Rattle.report_text.specs.declared.answers.LooseAnswer.TheVariants as loose
use Rattle.report_text.specs.declared.answers.OrderAnswer.{OrderAnswer}
use Rattle.report_text.specs.declared.answers.OrderAnswer.TheVariants as order_answers
use Rattle.report_text.specs.declared.answers.OrderRefusal.{OrderRefusal}
use Rattle.report_text.specs.declared.answers.OrderRefusal.TheVariants as faults
use Rattle.report_text.specs.declared.answers.StartAnswer.{StartAnswer}
use Rattle.report_text.specs.declared.answers.StartAnswer.TheVariants as start
use Rattle.report_text.specs.declared.order.Order.{Order}
use Rattle.report_text.specs.declared.order.Order.TheVariants as orders
use Rattle.report_text.specs.declared.keyword.Keyword.{Keyword}
use Rattle.report_text.specs.declared.keyword.Keyword.TheVariants as words
use Rattle.report_text.specs.Keywords.{keyword_text}

-- a space and a word
abbrev pub spaced : List ℕ → List ℕ
spaced word = 32 ∷ word

abbrev pub all_spaced : List (List ℕ) → List ℕ
all_spaced ws = flat_map spaced ws

abbrev pub note_key : Note → Keyword
note_key Plain = words.Plain
note_key IncorrectLength = words.Incorrect
note_key Limit = words.Limit

abbrev pub side_key : Side → Keyword
side_key A = words.SideA
side_key B = words.SideB

abbrev pub owner_words : Owner → List (List ℕ)
owner_words (owners.Group id) = keyword_text words.Group ∷ encode_upper id.bytes ∷ []
owner_words (owners.Path path) = keyword_text words.Path ∷ decimal path ∷ []

abbrev pub start_words : StartAnswer → List (List ℕ)
start_words (start.Accepted n) = keyword_text words.Accepted ∷ decimal n ∷ []
start_words (start.Busy path) = keyword_text words.Busy ∷ decimal path ∷ []
start_words start.Done = keyword_text words.Done ∷ []
start_words start.Running = keyword_text words.Running ∷ []
start_words (start.Secondary device) = keyword_text words.Secondary ∷ decimal device ∷ []
start_words (start.Reserved owner) = keyword_text words.Reserved ∷ owner_words owner
start_words (start.Shut owner) = keyword_text words.Shut ∷ owner_words owner

abbrev pub back_words : BackAnswer → List (List ℕ)
back_words back.Nothing = keyword_text words.Nothing ∷ []
back_words (back.Recovered track) = keyword_text words.Recovered ∷ decimal track ∷ []
back_words (back.Copied track) = keyword_text words.Copied ∷ decimal track ∷ []
back_words (back.Staged track) = keyword_text words.Staged ∷ decimal track ∷ []
back_words (back.Skipped track) = keyword_text words.Skipped ∷ decimal track ∷ []
back_words (back.Destaged track) = keyword_text words.Destaged ∷ decimal track ∷ []
back_words (back.Half track) = keyword_text words.Half ∷ decimal track ∷ []
back_words (back.Finished track) = keyword_text words.Finished ∷ decimal track ∷ []
back_words (back.Unwritten track) = keyword_text words.Unwritten ∷ decimal track ∷ []
back_words (back.Fault side) = keyword_text words.Fault ∷ keyword_text (side_key side) ∷ []
back_words (back.BadBytes side) = keyword_text words.BadBytes ∷ keyword_text (side_key side) ∷ []

abbrev pub loose_words : LooseAnswer → List (List ℕ)
loose_words (loose.Harden track) = keyword_text words.Harden ∷ decimal track ∷ []
loose_words (loose.Loosen track) = keyword_text words.Loosen ∷ decimal track ∷ []
loose_words (loose.Lost count id) = keyword_text words.Lost ∷ decimal count ∷ encode_upper id ∷ []

abbrev pub over_words : HowOver → List (List ℕ)
over_words how.Full = keyword_text words.Full ∷ []
over_words how.Checked = keyword_text words.Checked ∷ []
over_words (how.Cut commands) = keyword_text words.Cut ∷ decimal commands ∷ []

abbrev pub fault_words : OrderRefusal → List (List ℕ)
fault_words faults.Same = keyword_text words.Same ∷ []
fault_words (faults.Lent device) = keyword_text words.Lent ∷ decimal device ∷ []
fault_words faults.Paired = keyword_text words.Paired ∷ []
fault_words faults.Unpaired = keyword_text words.Unpaired ∷ []
fault_words (faults.Active path) = keyword_text words.Active ∷ decimal path ∷ []
fault_words faults.Geometry = keyword_text words.Geometry ∷ []
fault_words faults.NoSide = keyword_text words.NoSide ∷ []
fault_words faults.Down = keyword_text words.Down ∷ []
fault_words faults.Up = keyword_text words.Up ∷ []
fault_words (faults.NotLevel tracks) = keyword_text words.NotLevel ∷ decimal tracks ∷ []
fault_words faults.Half = keyword_text words.Half ∷ []
fault_words faults.Held = keyword_text words.Held ∷ []
fault_words faults.NotHeld = keyword_text words.NotHeld ∷ []

abbrev pub answer_words : OrderAnswer → List (List ℕ)
answer_words order_answers.Done = keyword_text words.Done ∷ []
answer_words (order_answers.Pending tracks) = keyword_text words.Pending ∷ decimal tracks ∷ []
answer_words (order_answers.Refused fault) = keyword_text words.Refused ∷ fault_words fault

-- behind the first word of an order
abbrev pub order_words : Order → List (List ℕ)
order_words orders.FailCache = keyword_text words.Cache ∷ []
order_words orders.FailStore = keyword_text words.Store ∷ []
order_words (orders.FailVolume device side) = keyword_text words.Volume ∷ decimal device ∷ keyword_text (side_key side) ∷ []
order_words orders.RepairCache = keyword_text words.Cache ∷ []
order_words orders.RepairStore = keyword_text words.Store ∷ []
order_words (orders.Replace device side) = decimal device ∷ keyword_text (side_key side) ∷ []
order_words (orders.Pair first second) = decimal first ∷ decimal second ∷ []
order_words (orders.Unpair device) = decimal device ∷ []
order_words (orders.Suspend device) = decimal device ∷ []
order_words (orders.Resume device) = decimal device ∷ []
order_words orders.Power = []

abbrev pub writes_words : ℕ → ℕ → List (List ℕ)
writes_words writes lost = keyword_text words.Writes ∷ decimal writes ∷ keyword_text words.Lost ∷ decimal lost ∷ []

abbrev pub totals_words : DeviceTotals → List (List ℕ)
totals_words (totals.Calls reads writes lost) = keyword_text words.Reads ∷ decimal reads ∷ writes_words writes lost
totals_words (totals.Lost lost) = keyword_text words.Lost ∷ decimal lost ∷ []
totals_words (totals.Lent device) = keyword_text words.Lent ∷ decimal device ∷ []

abbrev pub mark_key : Bool → Keyword
mark_key modified = if modified then words.Modified else words.Clean
