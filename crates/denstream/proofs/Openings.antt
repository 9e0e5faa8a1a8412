-- The opening of a stream: the law of any kind, of this one. Assumes nothing.
use Prim.Native.Nat.{ℕ, min}
use mathlib.Core.Path.{◌≡◌, refl}
use mathlib.Core.Bool.{Bool, cond}
use lib.Ieee.{Float, lt}
use Rattle.std.specs.Prelude.{Ok, Err}
use Rattle.float.specs.Rounded.{nought, one}
use Rattle.feature.specs.Feature.{max_dim}
use Rattle.model.specs.declared.answers.OpenError.TheVariants.{BetaMu}
use Rattle.model.specs.Answers.{opening_number, is_open, Opening}
use Rattle.model.specs.Numbers.{den_opening_no}
use Rattle.model.specs.Questions.{first_no, questions}
use Rattle.model.specs.Periods.{bm_of}
use Rattle.model.specs.Stream as stream
use Rattle.model.proofs.Laws.Numbers.{den_opening_said}
use Rattle.model.specs.Laws.Open.{one_more, opened_as}
use Rattle.model.specs.DenState.{Settings, State}
use Rattle.model.specs.Denstream.{denstream, asked, fresh, open_of}
use Rattle.den_pool.specs.Held.{with_dim}

-- a answers what both streams ask; above says whether beta * mu is above 1
pub asked_of :
    (p : Settings) (a : Opening) (others above : Bool) →
    a ≡ first_no (questions p.dim p.eps p.lambda p.beta p.mu) (Ok tt) →
    is_open a ≡ others →
    lt one (bm_of p.beta p.mu) ≡ above →
    cond others (cond above (Ok tt) (Err BetaMu)) a ≡ asked p
unfolding stream.asked
asked_of p =
    one_more (lt one (bm_of p.beta p.mu), Err BetaMu) (questions p.dim p.eps p.lambda p.beta p.mu)
    (refl, (refl, (refl, (refl, (refl, tt)))))

-- the default of settings: all of them are 0
pub zeros_are :
    (dim : ℕ) (eps lambda beta mu : Float) → (dim ≡ 0) × ((eps ≡ nought) × ((lambda ≡ nought) × ((beta ≡ nought) × (mu ≡ nought)))) →
    ◌≡◌ {A = Settings} (record { dim = dim; eps = eps; lambda = lambda; beta = beta; mu = mu }) denstream.zeros
zeros_are dim eps lambda beta mu e = rw (e.0, e.1.0, e.1.1.0, e.1.1.1.0, e.1.1.1.1)

-- both clauses: a is the answer, v the stream beside it
pub opened :
    (p : Settings) (a : Opening) (b : Bool) (v : State) → a ≡ asked p → is_open a ≡ b →
    v ≡ cond b (fresh (with_dim p (min p.dim max_dim))) (fresh denstream.zeros) →
    (record { answer = a; stream = v } ≡ open_of p) × (opening_number a ≡ den_opening_no p)
opened p =
    opened_as denstream p p.dim (with_dim p) refl (refl, (refl, (refl, (refl, (refl, (refl, tt)))))) (λ y. y.0) (den_opening_no p) (den_opening_said p)
