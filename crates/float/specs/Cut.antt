-- A double cut towards zero: it keeps its sign. Defined by its value; what that is by the exponent, and in plain arithmetic. Definitions only.
use Rattle.std.specs.Prelude.{◌≡◌, ℕ, ◌+◌, ◌-◌, ◌*◌, ◌/◌, ◌^◌, ◌<◌, ◌≤◌, true, cond, Float}
use Rattle.std.specs.Float.{nan, inf, fin}
use Rattle.std.specs.Float.Ieee.{up, down, neg}
use Rattle.std.specs.Float.Ieee.Exact.{HasValue}
use Rattle.float.specs.Rounded.{nought, whole}
use Rattle.float.specs.Binary64.{bias, digits, biased, significand}

-- how many whole ones the size of a finite double has
abbrev pub wholes : Float → ℕ
wholes nan = 0
wholes (inf s) = 0
wholes (fin s m e) = m * up e / down e

-- "y cut towards zero": the whole ones with the sign; infinity and NaN stay themselves
unfoldable pub cut_of : Float → Float
cut_of nan = nan
cut_of (inf s) = inf s
cut_of (fin s m e) = cond s (neg (whole (wholes (fin s m e)))) (whole (wholes (fin s m e)))

-- document 02: "by the exponent's cases: below 0, 0 to 51, 52 and above", for a y below 0, whose size is neg y; e is the exponent
pub record ByExponent (y : Float) : Type 0 where
  pub below_0 : biased (neg y) < bias → cut_of y ≡ neg nought
  pub from_0_to_51 :
      (e : ℕ) →
      biased (neg y) ≡ e + bias →
      e < digits →
      cut_of y ≡ neg (whole (significand (neg y) / 2 ^ (digits - e)))
  pub from_52 :
      (e : ℕ) →
      biased (neg y) ≡ e + bias →
      digits ≤ e →
      cut_of y ≡ y

-- "y cut towards zero" in plain arithmetic: y = −a / c is cut to −n, with n × c ≤ a < (n + 1) × c
pub record TowardsZero (y : Float) (a c : ℕ) : Type 0 where
  pub n : ℕ
  pub is : HasValue (cut_of y) true n 1
  pub at_least : n * c ≤ a
  pub below_next : a < (n + 1) * c
