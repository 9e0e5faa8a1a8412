-- The opening of a stream: the law of any kind, of this one. Assumes nothing.
use Prim.Native.Nat.{min}
use mathlib.Core.Path.{◌≡◌, refl}
use mathlib.Core.Bool.{Bool, cond}
use Rattle.feature.specs.Feature.{max_dim}
use Rattle.model.specs.Answers.{opening_number, is_open, Opening}
use Rattle.model.specs.Numbers.{db_opening_no}
use Rattle.model.proofs.Laws.Numbers.{db_opening_said}
use Rattle.model.specs.Laws.Open.{opened_as}
use Rattle.model.specs.DbState.{Settings, State}
use Rattle.model.specs.Dbstream.{dbstream, asked, fresh, open_of}
use Rattle.dbstream.specs.View.{with_dim}

-- both clauses: a is the answer, v the stream beside it
pub opened :
    (p : Settings) (a : Opening) (b : Bool) (v : State) → a ≡ asked p → is_open a ≡ b →
    v ≡ cond b (fresh (with_dim p (min p.dim max_dim))) (fresh dbstream.zeros) →
    (record { answer = a; stream = v } ≡ open_of p) × (opening_number a ≡ db_opening_no p)
opened p =
    opened_as dbstream p p.dim (with_dim p) refl (refl, (refl, (refl, (refl, (refl, tt))))) (λ y. y.0) (db_opening_no p) (db_opening_said p)
