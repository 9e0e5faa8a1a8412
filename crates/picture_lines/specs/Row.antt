-- A micro-cluster's row: its centre's figures, its weight and its family. Definitions only.
use Rattle.std.specs.Prelude.{ℕ, ◌+◌, ◌*◌, cond, List, ltb, ℤ, pos, negsuc, get_or, Float}
use Rattle.std.specs.Float.{nan}
use Rattle.picture_lines.specs.declared.row.Row.{Row}

-- A to Z, then a to z; the families past them share the sign #
abbrev pub letter_of : ℕ → ℕ
letter_of family = cond (ltb family 26) (65 + family) (cond (ltb family 52) (71 + family) 35)

-- a label's mark, a dot for none
abbrev pub mark_of : ℤ → ℕ
mark_of (pos family) = letter_of family
mark_of (negsuc n) = 46

-- the micro-cluster at a place: the centres' figures stand one after another, rate, amplitude, beat error
abbrev pub row_at : (centres weights : List Float) → (labels : List ℤ) → ℕ → Row
row_at centres weights labels i =
    record {
      rate = get_or centres (i * 3) nan;
      amplitude = get_or centres (i * 3 + 1) nan;
      beat_error = get_or centres (i * 3 + 2) nan;
      weight = get_or weights i nan;
      mark = mark_of (get_or labels i (pos 0));
    }

-- the row at a place among rows
abbrev pub row_in : List Row → ℕ → Row
row_in rows i = get_or rows i (record { rate = nan; amplitude = nan; beat_error = nan; weight = nan; mark = 0 })
