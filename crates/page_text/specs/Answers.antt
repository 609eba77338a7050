-- The answers of a report in words.
use Rattle.std.specs.Prelude.{ℕ, List, [], ◌∷◌, codes, decimal}
use Rattle.hex.specs.Hex.{encode_upper}
use Rattle.ckd_types.specs.declared.paths.Owner.{Owner}
use Rattle.ckd_types.specs.declared.paths.Owner.TheVariants as owners
use Rattle.ckd_types.specs.declared.paths.Side.{Side}
use Rattle.ckd_types.specs.declared.paths.Side.TheVariants.{A, B}
use Rattle.report_text.specs.declared.answers.BackAnswer.{BackAnswer}
use Rattle.report_text.specs.declared.answers.BackAnswer.TheVariants as backs
use Rattle.report_text.specs.declared.answers.DeviceTotals.{DeviceTotals}
use Rattle.report_text.specs.declared.answers.DeviceTotals.TheVariants as totals
use Rattle.report_text.specs.declared.answers.HowOver.{HowOver}
use Rattle.report_text.specs.declared.answers.HowOver.TheVariants as hows
use Rattle.report_text.specs.declared.answers.LooseAnswer.{LooseAnswer}
use Rattle.report_text.specs.declared.answers.LooseAnswer.TheVariants as looses
use Rattle.report_text.specs.declared.answers.OrderAnswer.{OrderAnswer}
use Rattle.report_text.specs.declared.answers.OrderAnswer.TheVariants as answers
use Rattle.report_text.specs.declared.answers.OrderRefusal.{OrderRefusal}
use Rattle.report_text.specs.declared.answers.OrderRefusal.TheVariants as faults
use Rattle.report_text.specs.declared.answers.StartAnswer.{StartAnswer}
use Rattle.report_text.specs.declared.answers.StartAnswer.TheVariants as starts
use Rattle.report_text.specs.declared.order.Order.{Order}
use Rattle.report_text.specs.declared.order.Order.TheVariants as orders
use Rattle.page_text.specs.Pieces.{joined, track_text}

abbrev pub side_name : Side → List ℕ
side_name A = codes "side A"
side_name B = codes "side B"

abbrev pub owner_text : List ℕ → Owner → List ℕ
owner_text before (owners.Group id) = joined (before ∷ codes " path group " ∷ encode_upper id.bytes ∷ [])
owner_text before (owners.Path path) = joined (before ∷ codes " path " ∷ decimal path ∷ [])

-- what became of a start
abbrev pub start_text : StartAnswer → List ℕ
start_text (starts.Accepted n) = joined (codes "accepted as program " ∷ decimal n ∷ [])
start_text (starts.Busy path) = joined (codes "busy with a program of path " ∷ decimal path ∷ [])
start_text starts.Done = joined (codes "the path has no program left" ∷ [])
start_text starts.Running = joined (codes "its program runs already" ∷ [])
start_text (starts.Secondary device) = joined (codes "the device is lent to device " ∷ decimal device ∷ [])
start_text (starts.Reserved owner) = owner_text (codes "reserved by") owner
start_text (starts.Shut owner) = owner_text (codes "every path with a program is shut out by") owner

abbrev pub side_text : List ℕ → Side → List ℕ
side_text before side = joined (before ∷ side_name side ∷ [])

-- what the device's own work did
abbrev pub back_text : BackAnswer → List ℕ
back_text backs.Nothing = joined (codes "nothing to do" ∷ [])
back_text (backs.Recovered t) = joined (codes "recovered " ∷ track_text t ∷ [])
back_text (backs.Copied t) = joined (codes "copied " ∷ track_text t ∷ [])
back_text (backs.Staged t) = joined (codes "staged " ∷ track_text t ∷ [])
back_text (backs.Skipped t) = joined (codes "not staged: " ∷ track_text t ∷ [])
back_text (backs.Destaged t) = joined (codes "destaged " ∷ track_text t ∷ [])
back_text (backs.Half t) = joined (codes "first part done: " ∷ track_text t ∷ [])
back_text (backs.Finished t) = joined (codes "second part done: " ∷ track_text t ∷ [])
back_text (backs.Unwritten t) = joined (codes "second part not done: " ∷ track_text t ∷ [])
back_text (backs.Fault side) = side_text (codes "a call failed of ") side
back_text (backs.BadBytes side) = side_text (codes "bytes that are no track came from ") side

abbrev pub lost_text : ℕ → List ℕ → List ℕ
lost_text count id =
    joined (codes "tracks that went back to what they were: " ∷ decimal count ∷ codes "; the number of such data is now " ∷ encode_upper id ∷ [])

-- what became of data of cache fast write
abbrev pub loose_text : LooseAnswer → List ℕ
loose_text (looses.Harden t) = joined (codes "no longer lost with the cache: " ∷ track_text t ∷ [])
loose_text (looses.Loosen t) = joined (codes "may be lost with the cache: " ∷ track_text t ∷ [])
loose_text (looses.Lost count id) = lost_text count id

-- how a program is over
abbrev pub over_text : HowOver → List ℕ
over_text hows.Full = joined (codes "the program ended by itself" ∷ [])
over_text hows.Checked = joined (codes "the program ended at a check of equipment or data" ∷ [])
over_text (hows.Cut k) = joined (codes "the program was cut; commands that took effect: " ∷ decimal k ∷ [])

abbrev pub order_name : Order → List ℕ
order_name orders.FailCache = codes "loss of the cache: "
order_name orders.FailStore = codes "loss of the store: "
order_name (orders.FailVolume device side) = codes "loss of a volume: "
order_name orders.RepairCache = codes "repair of the cache: "
order_name orders.RepairStore = codes "repair of the store: "
order_name (orders.Replace device side) = codes "a new volume: "
order_name (orders.Pair device other) = codes "pair: "
order_name (orders.Unpair device) = codes "end of the pair: "
order_name (orders.Suspend device) = codes "hold of side B: "
order_name (orders.Resume device) = codes "end of the hold: "
order_name orders.Power = codes "loss of power: "

abbrev pub fault_name : OrderRefusal → List ℕ
fault_name faults.Same = codes "both devices are one"
fault_name (faults.Lent device) = codes "the device is lent to device "
fault_name faults.Paired = codes "the device is in a pair"
fault_name faults.Unpaired = codes "the device is in no pair"
fault_name (faults.Active path) = codes "a program runs of path "
fault_name faults.Geometry = codes "the devices differ in model or size"
fault_name faults.NoSide = codes "there is no side B"
fault_name faults.Down = codes "it is down"
fault_name faults.Up = codes "it is up"
fault_name (faults.NotLevel n) = codes "stale tracks on side A: "
fault_name faults.Half = codes "a write is half done"
fault_name faults.Held = codes "side B is held"
fault_name faults.NotHeld = codes "side B isn't held"

abbrev pub fault_text : List ℕ → OrderRefusal → List ℕ
fault_text before (faults.Lent device) =
    joined (before ∷ codes "refused: " ∷ fault_name (faults.Lent device) ∷ decimal device ∷ [])
fault_text before (faults.Active path) = joined (before ∷ codes "refused: " ∷ fault_name (faults.Active path) ∷ decimal path ∷ [])
fault_text before (faults.NotLevel n) = joined (before ∷ codes "refused: " ∷ fault_name (faults.NotLevel n) ∷ decimal n ∷ [])
fault_text before fault = joined (before ∷ codes "refused: " ∷ fault_name fault ∷ [])

abbrev pub pending_text : List ℕ → ℕ → List ℕ
pending_text name n = joined (name ∷ codes "not yet; tracks that wait: " ∷ decimal n ∷ [])

-- what an order was answered
abbrev pub order_answer_text : Order → OrderAnswer → List ℕ
order_answer_text order answers.Done = joined (order_name order ∷ codes "done" ∷ [])
order_answer_text order (answers.Pending n) = pending_text (order_name order) n
order_answer_text order (answers.Refused fault) = fault_text (order_name order) fault

abbrev pub calls_text : ℕ → ℕ → ℕ → List ℕ
calls_text reads writes lost =
    joined (codes "all reads of volumes: " ∷ decimal reads ∷ codes ", writes: " ∷ decimal writes ∷ codes ", lost tracks: " ∷ decimal lost ∷ [])

abbrev pub lent_text : ℕ → List ℕ
lent_text device = joined (codes "lent to device " ∷ decimal device ∷ [])

-- what is said of a device at the end
abbrev pub totals_text : DeviceTotals → List ℕ
totals_text (totals.Calls reads writes lost) = calls_text reads writes lost
totals_text (totals.Lost lost) = joined (codes "lost tracks: " ∷ decimal lost ∷ [])
totals_text (totals.Lent device) = lent_text device
