-- The fade kept for the next link, and a gain by it. Definitions only.
use Rattle.std.specs.Prelude.{◌≡◌, Bool, not, ◌&&◌, cond, List, [], ◌∷◌, eqb, Float}
use Rattle.std.specs.Float.{binary64}
use Rattle.std.specs.Float.Ieee.{is_nan, fits, to_bits}
use Rattle.float.specs.Rounded.{◌⊕◌, ◌⊗◌, one}
use Rattle.feature.specs.Fade.{fade_of}
use Rattle.model.specs.declared.link.Link.{Link}
use Rattle.model.specs.DbInsert.{before, same_ends}
use Rattle.db_gains.specs.declared.factor.Factor.{Factor}

-- the fade from last to t, and last beside it
abbrev pub factor_of : (lambda t last : Float) → Factor
factor_of lambda t last = record { last = last; fade = fade_of lambda t last }

-- a double, and no NaN
abbrev pub is_number : Float → Bool
is_number a = fits binary64 a && not (is_nan a)

-- one double, bit for bit; a NaN is like none
abbrev pub same_bits : (a b : Float) → Bool
same_bits a b = is_number a && is_number b && eqb (to_bits binary64 a) (to_bits binary64 b)

-- the factor from last: f, where it is from there too
abbrev pub since_of : (lambda t : Float) → Factor → (last : Float) → Factor
since_of lambda t f last = cond (same_bits f.last last) f (factor_of lambda t last)

-- "the fade of the last link is kept for the next": after a gain at k's place, f or, where the list has a link of k's ends, the factor from its last
unfoldable pub factor_after : (lambda t : Float) → (k : Link) → List Link → Factor → Factor
factor_after lambda t k [] f = f
factor_after lambda t k (l ∷ rest) f =
    cond (before l k) (factor_after lambda t k rest f)
    (cond (same_ends l k) (since_of lambda t f l.last) f)

-- "fades to t and gains 1", by the fade
abbrev pub gains_by : (fade t : Float) → Link → Link
gains_by fade t l = record { lo = l.lo; hi = l.hi; value = l.value ⊗ fade ⊕ one; last = t }

-- its fade is the one from its last
abbrev pub Right : (lambda t : Float) → Factor → Type 0
Right lambda t f = f ≡ factor_of lambda t f.last
