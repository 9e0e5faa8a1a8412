-- Document 02, item 2: DBSTREAM's connectivity at the present moment. Definitions only.
use Rattle.std.specs.Prelude.{Bool, not, ◌&&◌, cond, List, [], ◌∷◌, eqb, Float}
use Rattle.std.specs.Float.Ieee.{eq}
use Rattle.float.specs.Rounded.{◌⊕◌, ◌⊘◌, nought, two}
use Rattle.lists.specs.Search.{first_of}
use Rattle.model.specs.declared.micro.MicroId.{MicroId}
use Rattle.model.specs.declared.micro.DbMicro.{DbMicro}
use Rattle.model.specs.declared.link.Link.{Link}
use Rattle.model.specs.Answers.{Said, gives, refuses}
use Rattle.model.specs.Questions.{first_no}
use Rattle.model.specs.Body.{faded_weight}
use Rattle.model.specs.DbState.{State}
use Rattle.model.specs.DbInsert.{faded_link, same_ends, is_held}
use Rattle.db_link.specs.Order.{key_of}

-- "are both creation numbers live and different?"
abbrev pub are_live : List DbMicro → (a b : MicroId) → Bool
are_live ms a b = is_held ms a && is_held ms b && not (eqb a.0 b.0)

-- whether it is the micro-cluster of this creation number
abbrev pub is_of : MicroId → DbMicro → Bool
is_of id m = eqb m.id.0 id.0

-- its weight, "faded to the present"
abbrev pub weighs : (lambda t : Float) → DbMicro → Float
weighs lambda t m = faded_weight lambda t m.body

abbrev pub weight_now : (lambda t : Float) → List DbMicro → MicroId → Float
weight_now lambda t ms id = first_of (is_of id) (weighs lambda t) nought ms

-- "(wa + wb)/2": "both weights are faded to the present as the link is"
abbrev pub mean_now : (lambda t : Float) → List DbMicro → (a b : MicroId) → Float
mean_now lambda t ms a b = (weight_now lambda t ms a ⊕ weight_now lambda t ms b) ⊘ two

-- whether it is the link of these ends
abbrev pub has_ends : Link → Link → Bool
has_ends key l = same_ends l key

-- "faded link / ((wa + wb)/2)"
abbrev pub over : (lambda t mean : Float) → Link → Float
over lambda t mean l = faded_link lambda t l ⊘ mean

-- "A pair whose mean faded weight is 0 reads 0."; "0 without a link"
abbrev pub density_over : (lambda t mean : Float) → List Link → (a b : MicroId) → Float
density_over lambda t mean ls a b = cond (eq mean nought) nought (first_of (has_ends (key_of a b t)) (over lambda t mean) nought ls)

-- "Connectivity: are both creation numbers live and different? No: 12."
unfoldable pub connectivity_of : State → (a b : MicroId) → Said Float
unfolding first_of
connectivity_of s a b =
    let lambda = s.params.settings.lambda in
    first_no ((are_live s.held.micros a b, refuses 12 []) ∷ [])
    (gives (density_over lambda s.t (mean_now lambda s.t s.held.micros a b) s.held.links a b))
