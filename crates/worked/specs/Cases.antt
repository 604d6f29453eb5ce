-- Cases worked by hand: what the definitions give for ten small studies, each with node 0 as its head.
use Rattle.std.specs.Prelude.{◌≡◌, ℕ, ◌*◌, Bool, true, false, not, List, [], ◌∷◌, map, Ok, Err}
use Rattle.std.proofs.Common.{arith}
use Rattle.refusals.specs.declared.study_fault.StudyFault.TheVariants.{Door, DoorIsHead, Unjoined, Inseparable}
use Rattle.network.specs.declared.branch.Branch.{Branch}
use Rattle.network.specs.declared.branch.Condition.{Condition}
use Rattle.network.specs.declared.branch.Condition.TheVariants.{Able, Failed, Working}
use Rattle.network.specs.declared.rating.Rating.{Rating}
use Rattle.network.specs.Meaning.{Net, RatedNet}
use Rattle.search.specs.Cuts.{without}
use Rattle.search.specs.Search.{linked}
use Rattle.search.specs.Cases.{joining, network, bridge, shown, finds, set_of, SixNetworksSearched}
use Rattle.scale.specs.Billionths.{held, billionths}
use Rattle.scale.specs.NineFigures.{unit, nine, nine_figures}
use Rattle.chance.specs.Bounds.{low, high}
use Rattle.chance.specs.CutOff.{cut_off_chance}
use Rattle.engine.specs.Questions.{door_asked}

-- one chance in ten, and none
abbrev pub tenth : Rating
tenth = record { mantissa = 100000000; exponent = 9; small = omega arith; least = omega arith; most = omega arith }

abbrev pub never : Rating
never = record { mantissa = 0; exponent = 9; small = omega arith; least = omega arith; most = omega arith }

-- the bridge with each branch rated one in ten
abbrev pub rated_bridge : RatedNet
rated_bridge = record { plain = bridge Able; ratings = tenth ∷ tenth ∷ tenth ∷ tenth ∷ tenth ∷ [] }

-- its four minimal cuts in listing order
abbrev pub bridge_cuts : List ℕ
bridge_cuts = map set_of ((0 ∷ 1 ∷ []) ∷ (1 ∷ 2 ∷ 3 ∷ []) ∷ (0 ∷ 2 ∷ 4 ∷ []) ∷ (3 ∷ 4 ∷ []) ∷ [])

-- whether head and door of the bridge are unjoined once all of Z count as failed
abbrev pub parts : ℕ → Bool
parts Z = not (linked (bridge Able) (without (bridge Able) Z) 0 3)

-- the bridge with two of its branches in another condition
abbrev told : Condition → ℕ → ℕ → Branch
told c u v = record { from = u; to = v; condition = c }

-- both branches to the door failed
abbrev pub door_lost : Net
door_lost = network 4 (joining 0 1 ∷ joining 0 2 ∷ joining 1 2 ∷ told Failed 1 3 ∷ told Failed 2 3 ∷ [])

-- a way of working branches from the head to the door
abbrev pub door_held : Net
door_held = network 4 (told Working 0 1 ∷ joining 0 2 ∷ joining 1 2 ∷ told Working 1 3 ∷ joining 2 3 ∷ [])

pub record WorkedByHand : Type 0 where
  -- rows, vectors, tries and status of six searches
  pub six_searches : SixNetworksSearched
  -- the bridge: exact chance 0.02152, and its bounds in both scales
  pub exact_chance_of_the_bridge : (cut_off_chance rated_bridge parts).top * 100000 ≡ 2152 * (cut_off_chance rated_bridge parts).under
  pub low_of_the_bridge : low billionths rated_bridge.ratings bridge_cuts ≡ held 21490000
  pub high_of_the_bridge : high billionths rated_bridge.ratings true bridge_cuts ≡ held 22000000
  pub fine_low_of_the_bridge : low nine_figures rated_bridge.ratings bridge_cuts ≡ nine 214900000 10
  pub fine_high_of_the_bridge : high nine_figures rated_bridge.ratings true bridge_cuts ≡ nine 220000000 10
  pub high_before_the_end : high billionths rated_bridge.ratings false bridge_cuts ≡ held 1000000000
  -- two nodes and one branch that never fails
  pub one_branch : shown (network 2 (joining 0 1 ∷ [])) 1 ≡ finds ((0 ∷ []) ∷ []) ((1 ∷ []) ∷ []) 0
  pub never_low : low billionths (never ∷ []) (1 ∷ []) ≡ held 0
  pub never_high : high billionths (never ∷ []) true (1 ∷ []) ≡ held 0
  -- refused doors
  pub no_such_door : door_asked (bridge Able) 0 4 ≡ Err Door
  pub door_at_the_head : door_asked (bridge Able) 0 0 ≡ Err DoorIsHead
  pub door_not_joined : door_asked door_lost 0 3 ≡ Err Unjoined
  pub door_never_parted : door_asked door_held 0 3 ≡ Err Inseparable
  pub door_taken : door_asked (bridge Able) 0 3 ≡ Ok tt
  -- 1 / 10^9 times 0.1, and 1 less 10^-20
  pub billionth_down : billionths.times_down (held 1) tenth ≡ held 0
  pub billionth_up : billionths.times_up (held 1) tenth ≡ held 1
  pub fine_product_down : nine_figures.times_down (nine 100000000 17) tenth ≡ nine 100000000 18
  pub fine_product_up : nine_figures.times_up (nine 100000000 17) tenth ≡ nine 100000000 18
  pub fine_difference : nine_figures.less_down unit (nine 100000000 28) ≡ nine 999999999 9
