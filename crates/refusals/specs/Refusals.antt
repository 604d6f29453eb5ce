-- The number, layer and place of every refusal, and the text of a refused deck.
use Rattle.std.specs.Prelude.{ℕ, List, [], ◌∷◌, ◌++◌, codes, decimal}
use Rattle.refusals.specs.declared.layer.Layer.{Layer}
use Rattle.refusals.specs.declared.layer.Layer.TheVariants as layers
use Rattle.refusals.specs.declared.layer.Refusal.{Refusal}
use Rattle.refusals.specs.declared.network_fault.NetworkFault.{NetworkFault}
use Rattle.refusals.specs.declared.network_fault.NetworkFault.TheVariants.{NodeCount, BranchCount, BadEnd, BadRating}
use Rattle.refusals.specs.declared.study_fault.StudyFault.{StudyFault}
use Rattle.refusals.specs.declared.study_fault.StudyFault.TheVariants.{Network, Head, Door, DoorIsHead, Unjoined, Inseparable, NoAim, Budget, NoRow, Buffer}
use Rattle.refusals.specs.declared.deck_fault.DeckFault.{DeckFault}
use Rattle.refusals.specs.declared.deck_fault.DeckFault.TheVariants.{Study, Table, Bytes, Word, Turn, Numbers, Mark}
use Rattle.refusals.specs.declared.deck_fault.DeckRefusal.{DeckRefusal}

-- a network's faults: layer N, and the branch as place where one branch is at fault
abbrev pub network_refusal : NetworkFault → Refusal
network_refusal NodeCount = record { number = 1; layer = layers.Network; place = 0 }
network_refusal BranchCount = record { number = 2; layer = layers.Network; place = 0 }
network_refusal (BadEnd k) = record { number = 3; layer = layers.Network; place = k }
network_refusal (BadRating k) = record { number = 4; layer = layers.Network; place = k }

-- a refusal of the study's own, which is about no branch
abbrev pub own_refusal : ℕ → Refusal
own_refusal n = record { number = n; layer = layers.Study; place = 0 }

-- a study's faults: layer S; a fault from below keeps what it says
abbrev pub study_refusal : StudyFault → Refusal
study_refusal (Network f) = network_refusal f
study_refusal Head = own_refusal 5
study_refusal Door = own_refusal 6
study_refusal DoorIsHead = own_refusal 7
study_refusal Unjoined = own_refusal 8
study_refusal Inseparable = own_refusal 9
study_refusal NoAim = own_refusal 10
study_refusal Budget = own_refusal 11
study_refusal NoRow = own_refusal 12
study_refusal Buffer = own_refusal 13

-- a deck's faults: layer D; a fault from below keeps what it says
abbrev pub deck_refusal : DeckFault → Refusal
deck_refusal (Study f) = study_refusal f
deck_refusal Table = record { number = 14; layer = layers.Deck; place = 0 }
deck_refusal Bytes = record { number = 15; layer = layers.Deck; place = 0 }
deck_refusal Word = record { number = 16; layer = layers.Deck; place = 0 }
deck_refusal Turn = record { number = 17; layer = layers.Deck; place = 0 }
deck_refusal Numbers = record { number = 18; layer = layers.Deck; place = 0 }
deck_refusal Mark = record { number = 19; layer = layers.Deck; place = 0 }

-- N, S or D
abbrev pub letter : Layer → ℕ
letter layers.Network = 78
letter layers.Study = 83
letter layers.Deck = 68

-- DECK REFUSED 3 LAYER N PLACE 5 LINE 7, with the figures of the refusal
abbrev pub refusal_text : DeckRefusal → List ℕ
refusal_text r =
    let told = deck_refusal r.fault in
    codes "DECK REFUSED " ++ (decimal told.number ++ (codes " LAYER " ++ ((letter told.layer ∷ []) ++ (codes " PLACE " ++ (decimal told.place ++ (codes " LINE " ++ decimal r.line))))))
