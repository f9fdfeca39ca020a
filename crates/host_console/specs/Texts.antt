-- What is printed for a look at a group or an entity. Numbers are in decimal.
use Rattle.std.specs.Prelude.{ℕ, List, ◌∷◌, ◌++◌, codes, Option, None, Some}
use Rattle.std.specs.Fmt.{decimal}
use Rattle.sector_core.specs.declared.class.Class.{Class}
use Rattle.sector_core.specs.declared.class.Class.TheVariants as class
use Rattle.plain.specs.declared.member.State.{State}
use Rattle.plain.specs.declared.member.State.TheVariants.{Idle, Active, Serving}
use Rattle.plain.specs.declared.view.EntityView.{EntityView}

-- the name of a class (our profile)
abbrev pub class_text : Class → List ℕ
class_text class.RealTime = codes "rt"
class_text class.BestEffort = codes "be"
class_text class.Idle = codes "idle"

-- the best effort time of a group, or that no such group stands (our profile)
abbrev pub vtime_text : ℕ → Option ℕ → List ℕ
vtime_text group None = codes "vtime " ++ (decimal group ++ codes " none")
vtime_text group (Some vtime) = codes "vtime " ++ (decimal group ++ 32 ∷ decimal vtime)

-- the virtual time of a class of a group, or that no such group stands (our profile)
abbrev pub class_vtime_text : ℕ → Class → Option ℕ → List ℕ
class_vtime_text group class None = codes "vtime " ++ (decimal group ++ 32 ∷ (class_text class ++ codes " none"))
class_vtime_text group class (Some vtime) = codes "vtime " ++ (decimal group ++ 32 ∷ (class_text class ++ 32 ∷ decimal vtime))

-- whether an entity waits for service, is served, or neither (our profile)
abbrev pub state_text : State → List ℕ
state_text Idle = codes "idle"
state_text Active = codes "active"
state_text Serving = codes "serving"

-- what is known of an entity: its state, start and finish, its weight in effect, its budget, and the sectors sent for it (our profile)
abbrev pub view_text : EntityView → List ℕ
view_text view =
    state_text view.state
    ++ 32 ∷ (decimal view.start ++ 32 ∷ (decimal view.finish ++ 32 ∷ (decimal view.weight ++ 32 ∷ (decimal view.budget ++ 32 ∷ decimal view.service))))

-- an entity, or that it is in no group (our profile)
abbrev pub entity_text : ℕ → Option EntityView → List ℕ
entity_text number None = codes "entity " ++ (decimal number ++ codes " none")
entity_text number (Some view) = codes "entity " ++ (decimal number ++ 32 ∷ view_text view)

-- the class of an entity, or that it is in no group (our profile)
abbrev pub entity_class_text : ℕ → Option EntityView → List ℕ
entity_class_text number None = codes "class " ++ (decimal number ++ codes " none")
entity_class_text number (Some view) = codes "class " ++ (decimal number ++ 32 ∷ class_text view.class)
