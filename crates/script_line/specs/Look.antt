-- What a query `show` can ask for, as it is spelled: a word, and at most one number.
use Rattle.std.specs.Prelude.{◌≡◌, ℕ, ◌<◌, ◌^◌, List, [], ◌∷◌, ◌++◌, codes, Option, MatchOption}
use Rattle.script_line.specs.Words.{numbers}
use Rattle.script_line.specs.declared.look.Look.{Look}
use Rattle.script_line.specs.declared.look.Look.TheVariants.{Seat, Outbox, Queue, Requeued, Flight, Service, Tree, Host, State, Stored, Step}

-- what stands after the word `show` (our profile)
abbrev pub shown : Look → List ℕ
shown (Seat seat) = codes " seat" ++ numbers (seat ∷ [])
shown (Outbox seat) = codes " outbox" ++ numbers (seat ∷ [])
shown (Queue seat) = codes " queue" ++ numbers (seat ∷ [])
shown Requeued = codes " requeued"
shown Flight = codes " flight"
shown Service = codes " service"
shown (Tree group) = codes " tree" ++ numbers (group ∷ [])
shown Host = codes " host"
shown State = codes " state"
shown (Stored from) = codes " stored" ++ numbers (from ∷ [])
shown (Step k) = codes " step" ++ numbers (k ∷ [])

-- each number of what is to be shown is within its type (our profile)
abbrev pub LookFits : Look → Type 0
LookFits (Seat seat) = seat < 2 ^ 8
LookFits (Outbox seat) = seat < 2 ^ 8
LookFits (Queue seat) = seat < 2 ^ 8
LookFits Requeued = Unit {0}
LookFits Flight = Unit {0}
LookFits Service = Unit {0}
LookFits (Tree group) = group < 2 ^ 8
LookFits Host = Unit {0}
LookFits State = Unit {0}
LookFits (Stored from) = from < 2 ^ 64
LookFits (Step k) = k < 2 ^ 32

-- after the word `show` come this word and then these numbers (our profile)
abbrev pub IsLook : List ℕ → List ℕ → Look → Type 0
IsLook word given (Seat seat) = (word ≡ codes "seat") × (given ≡ seat ∷ [])
IsLook word given (Outbox seat) = (word ≡ codes "outbox") × (given ≡ seat ∷ [])
IsLook word given (Queue seat) = (word ≡ codes "queue") × (given ≡ seat ∷ [])
IsLook word given Requeued = (word ≡ codes "requeued") × (given ≡ [])
IsLook word given Flight = (word ≡ codes "flight") × (given ≡ [])
IsLook word given Service = (word ≡ codes "service") × (given ≡ [])
IsLook word given (Tree group) = (word ≡ codes "tree") × (given ≡ group ∷ [])
IsLook word given Host = (word ≡ codes "host") × (given ≡ [])
IsLook word given State = (word ≡ codes "state") × (given ≡ [])
IsLook word given (Stored from) = (word ≡ codes "stored") × (given ≡ from ∷ [])
IsLook word given (Step k) = (word ≡ codes "step") × (given ≡ k ∷ [])

-- what a word and numbers after the word `show` are read to: what they show, or none where they show nothing (our profile)
abbrev pub ReadsLook : List ℕ → List ℕ → Option Look → Type 0
ReadsLook word given found = MatchOption found
    ((l : Look) → LookFits l → IsLook word given l → ⊥)
    (λ l. LookFits l × IsLook word given l)

-- what is to be shown where its numbers are within their types, else none (our profile)
abbrev pub LookFitsOrNone : Look → Option Look → Type 0
LookFitsOrNone look found = MatchOption found (LookFits look → ⊥) (λ l. LookFits look × (l ≡ look))
