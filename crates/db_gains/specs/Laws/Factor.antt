-- The fade kept for the next link is the one from its last gain; which factor a gain leaves. Assumes nothing.
use Rattle.std.specs.Prelude.{◌≡◌, refl, Bool, true, false, not, ◌&&◌, cond, T, List, [], ◌∷◌, ◌++◌, eqb, Float}
use Rattle.std.proofs.Common.{sym, ap, subst, ◌∙◌, eqb→eq}
use Rattle.std.specs.Float.{binary64}
use Rattle.std.specs.Float.Ieee.{is_nan, fits, to_bits, of_bits}
use Rattle.std.specs.Float.Ieee.Bits.{of_bits-to_bits}
use Rattle.std.specs.Float.Ieee.Fits.{and_l, and_r}
use Rattle.feature.specs.Fade.{fade_of}
use Rattle.model.specs.declared.link.Link.{Link}
use Rattle.model.specs.DbInsert.{before, same_ends, gains}
use Rattle.db_gains.specs.declared.factor.Factor.{Factor}
use Rattle.db_gains.specs.Factor.{Right, factor_after, factor_of, gains_by, is_number, same_bits, since_of}
use Rattle.db_gains.specs.Laws.Passed.{Passed, Absent}

-- a gain by the right fade is document 01's
pub gain_by : (lambda t fade : Float) (l : Link) → fade ≡ fade_of lambda t l.last → gains_by fade t l ≡ gains lambda t l
gain_by lambda t fade l e = ap (λ (f : Float). gains_by f t l) e

-- doubles of the same bits are the same
same_double : (a b : Float) → same_bits a b ≡ true → a ≡ b
same_double a b e =
    let h : T (same_bits a b) = subst T (sym e) tt in
    let both : T (is_number a && is_number b) = and_l (is_number a && is_number b) (eqb (to_bits binary64 a) (to_bits binary64 b)) h in
    sym (of_bits-to_bits binary64 a (and_l (fits binary64 a) (not (is_nan a)) (and_l (is_number a) (is_number b) both)))
    ∙ ap (of_bits binary64) (eqb→eq (to_bits binary64 a) (to_bits binary64 b) (and_r (is_number a && is_number b) (eqb (to_bits binary64 a) (to_bits binary64 b)) h))
    ∙ of_bits-to_bits binary64 b (and_l (fits binary64 b) (not (is_nan b)) (and_r (is_number a) (is_number b) both))

-- a right factor, kept or not, is the one from last
pub since_right : (lambda t : Float) (f : Factor) (last : Float) → Right lambda t f → since_of lambda t f last ≡ factor_of lambda t last
since_right lambda t f last right = go (same_bits f.last last) refl
  where
    go : (b : Bool) → same_bits f.last last ≡ b → cond b f (factor_of lambda t last) ≡ factor_of lambda t last
    go true e = right ∙ ap (factor_of lambda t) (same_double f.last last e)
    go false e = refl

-- ---- the factor that a gain leaves, by the links from a place on
module _ (lambda t : Float) (k : Link) (f : Factor) where
  pub factor_passed : (ls rest : List Link) → Passed k ls → factor_after lambda t k (ls ++ rest) f ≡ factor_after lambda t k rest f
  unfolding factor_after
  factor_passed [] rest h = refl
  factor_passed (l ∷ ls) rest h = rw h.0 (factor_passed ls rest h.1)

  -- the link with the key's ends gains
  pub factor_same :
      (l : Link) (rest : List Link) → before l k ≡ false → same_ends l k ≡ true → factor_after lambda t k (l ∷ rest) f ≡ since_of lambda t f l.last
  unfolding factor_after
  factor_same l rest e g = rw (e, g)

  -- the key has no link
  pub factor_kept : (rest : List Link) → Absent k rest → factor_after lambda t k rest f ≡ f
  unfolding factor_after
  factor_kept [] h = refl
  factor_kept (l ∷ rest) h = rw (h.0, h.1)
