-- The input of `families`: the settings and the points in its bytes, and question 11. Definitions only.
use Rattle.std.specs.Prelude.{ℕ, zero, suc, ◌+◌, ◌-◌, ◌*◌, ◌/◌, ◌%◌, Bool, true, ◌&&◌, cond, List, [], ◌∷◌, eqb, leb, length, Float}
use Rattle.std.specs.Float.{binary64}
use Rattle.std.specs.Float.Ieee.{of_bits}
use Rattle.words.specs.Word.{word_at}
use Rattle.model.specs.Questions.{dim_in_range}
use Rattle.model.specs.DbState.{Settings}

-- "is the input at most 65,536 bytes", and how many bytes the settings take
abbrev pub input_most : ℕ
input_most = 65536

abbrev pub head_size : ℕ
head_size = 40

-- "all little-endian": a word's number, and the double of its bits
abbrev pub double_at : List ℕ → ℕ → Float
double_at bytes at = of_bits binary64 (word_at bytes at)

-- "dim (u64), r, lambda, alpha, min_weight (f64)"
abbrev pub settings_in : List ℕ → Settings
settings_in bytes =
    record {
      dim = word_at bytes 0;
      r = double_at bytes 8;
      lambda = double_at bytes 16;
      alpha = double_at bytes 24;
      min_weight = double_at bytes 32;
    }

-- "then points": n doubles from a place on, and k points of dim doubles
unfoldable pub doubles_from : (n : ℕ) → List ℕ → (at : ℕ) → List Float
doubles_from zero bytes at = []
doubles_from (suc n) bytes at = double_at bytes at ∷ doubles_from n bytes (at + 8)

unfoldable pub points_from : (k dim : ℕ) → List ℕ → (at : ℕ) → List (List Float)
unfolding doubles_from
points_from zero dim bytes at = []
points_from (suc k) dim bytes at = doubles_from dim bytes at ∷ points_from k dim bytes (at + dim * 8)

abbrev pub point_size : List ℕ → ℕ
point_size bytes = word_at bytes 0 * 8

abbrev pub points_in : List ℕ → List (List Float)
points_in bytes = points_from ((length bytes - head_size) / point_size bytes) (word_at bytes 0) bytes head_size

-- "at most 65,536 bytes, at least 40, a multiple of 8, and, after 40 bytes, whole points if dim is in range"
abbrev pub is_whole : List ℕ → Bool
is_whole bytes =
    leb (length bytes) input_most
    && leb head_size (length bytes)
    && eqb (length bytes % 8) 0
    && cond (dim_in_range (word_at bytes 0)) (eqb ((length bytes - head_size) % point_size bytes) 0) true
