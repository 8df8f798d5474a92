-- What single steps of the code do: its list has the next symbol last.
use Rattle.std.specs.Prelude.{ℕ, ◌≡◌, fold, Bool, true, false, List, [], ◌∷◌, Option, Some, None}
use Rattle.porch_tree.specs.declared.word.Word.{Word}
use Rattle.porch_walk.specs.declared.symbol.Symbol.{Symbol}
use Rattle.porch_walk.specs.declared.step.Turn.{Turn}
use Rattle.porch_walk.specs.declared.step.Turn.TheVariants as turn
use Rattle.porch_walk.specs.Walk.{Stage, Heard, goes, names_type, behind}

abbrev pub upward : List Symbol → List Symbol
upward = fold (λ above s. s ∷ above) []

-- what a step gives in a stage
abbrev pub Given : Type 0
Given = List (List ℕ) → List ℕ → Bool → Option Stage

-- a step that takes the word or not, and leaves this pending
abbrev pub TookAt : Bool → Option Stage → Option Stage → Type 0
TookAt true o p = o ≡ p
TookAt false o p = o ≡ None

abbrev pub Took : Given → Bool → List Symbol → Type 0
Took o b ss = (types : List (List ℕ)) (fresh : List ℕ) (i : Bool) → TookAt b (o types fresh i) (goes types fresh i ss)

-- a step that doesn't take the word leaves all as it was
abbrev pub Same : Bool → List Symbol → List Symbol → Type 0
Same true old ss = Unit {0}
Same false old ss = ss ≡ old

-- a symbol that is pushed, if there is one
abbrev pub pushed : List (List ℕ) → List ℕ → Bool → List Symbol → Option Symbol → Option Stage
pushed types fresh i ss None = None
pushed types fresh i ss (Some s) = goes types fresh i (s ∷ ss)

abbrev pub heard_as : Word → List ℕ → Heard
heard_as w bs = record { word = w; bytes = bs }

-- What a symbol in front of others did with a word: it left this pending.
abbrev pub TurnedAt : Turn → List (List ℕ) → List ℕ → Bool → List ℕ → Option Stage → Option Stage → List Symbol → Type 0
TurnedAt turn.Took types fresh i bs o left ss = o ≡ goes types fresh i ss
TurnedAt turn.Refused types fresh i bs o left ss = o ≡ None
TurnedAt turn.LeftOut types fresh i bs o left ss = o ≡ left
TurnedAt turn.Named types fresh i bs o left ss = o ≡ Some (record { types = types; fresh = bs; inside = i; pending = ss })
TurnedAt turn.Declared types fresh i bs o left ss = o ≡ Some (record { types = fresh ∷ types; fresh = fresh; inside = i; pending = ss })
TurnedAt turn.Entered types fresh i bs o left ss = o ≡ Some (record { types = types; fresh = fresh; inside = true; pending = ss })
TurnedAt turn.Left types fresh i bs o left ss =
    o ≡ Some (record { types = types; fresh = fresh; inside = false; pending = ss })

-- for each name that is a typedef name, or for each that isn't
abbrev pub Turned : Bool → List Symbol → Turn → Word → List Symbol → List Symbol → Type 0
Turned known all t w old ss =
    (types : List (List ℕ)) (fresh : List ℕ) (i : Bool) (bs : List ℕ) → names_type types bs ≡ known
    → TurnedAt t types fresh i bs (behind types fresh i all (heard_as w bs)) (behind types fresh i old (heard_as w bs)) ss

abbrev pub Untouched : Turn → List Symbol → List Symbol → Type 0
Untouched turn.LeftOut old ss = ss ≡ old
Untouched t old ss = Unit {0}

-- What is pending did with a word. Where all of it was left out, an item or the end of a block may come.
abbrev pub Advanced : Bool → Turn → Word → List Symbol → List Symbol → Type 0
Advanced known t w old ss =
    (types : List (List ℕ)) (fresh : List ℕ) (i : Bool) (bs : List ℕ) → names_type types bs ≡ known
    → TurnedAt t types fresh i bs (behind types fresh i old (heard_as w bs)) (behind types fresh i [] (heard_as w bs)) ss

-- An item began with a word, or can't, outside of every block.
abbrev pub Begun : Bool → Bool → Word → List Symbol → Type 0
Begun known b w ss =
    (types : List (List ℕ)) (fresh : List ℕ) (bs : List ℕ) → names_type types bs ≡ known
    → TookAt b (behind types fresh false [] (heard_as w bs)) (goes types fresh false ss)

-- nothing is pending where all of it was left out
abbrev pub EmptyIf : Turn → List Symbol → Type 0
EmptyIf turn.LeftOut ss = ss ≡ []
EmptyIf t ss = Unit {0}

-- The walk did with a word what it does in a block, or outside of every block.
abbrev pub Moved : Bool → Bool → Turn → Word → List Symbol → List Symbol → Type 0
Moved inside known t w old ss =
    (types : List (List ℕ)) (fresh : List ℕ) (bs : List ℕ) → names_type types bs ≡ known
    → TurnedAt t types fresh inside bs (behind types fresh inside old (heard_as w bs)) None ss
