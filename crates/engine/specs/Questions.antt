-- What is asked of a door and of a budget: the first no decides.
use Rattle.std.specs.Prelude.{ℕ, not, ◌&&◌, ◌==◌, nat_le, nat_lt}
use Rattle.refusals.specs.declared.study_fault.StudyFault.{StudyFault}
use Rattle.refusals.specs.declared.study_fault.StudyFault.TheVariants.{Door, DoorIsHead, Unjoined, Inseparable, Budget}
use Rattle.network.specs.Meaning.{Net}
use Rattle.network.specs.Questions.{Answer, asked, and_then}
use Rattle.search.specs.Cuts.{present, sure}
use Rattle.search.specs.Search.{linked}

-- is the door joined to the head, and would it be unjoined if every branch able to fail had failed?
abbrev pub chain_asked : Net → ℕ → ℕ → Answer StudyFault
chain_asked net head door = and_then (asked (linked net (present net) head door) Unjoined) (asked (not (linked net (sure net) head door)) Inseparable)

-- is the door a node, and another than the head?
abbrev pub door_asked : Net → ℕ → ℕ → Answer StudyFault
door_asked net head door = and_then (asked (nat_lt door net.nodes) Door) (and_then (asked (not (door == head)) DoorIsHead) (chain_asked net head door))

abbrev pub budget_asked : ℕ → Answer StudyFault
budget_asked budget = asked (nat_le 1 budget && nat_le budget 10000) Budget
