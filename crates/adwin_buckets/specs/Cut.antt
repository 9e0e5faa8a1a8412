-- The test of a cut, and of every cut between buckets. Definitions only.
use Rattle.std.specs.Prelude.{Bool, true, false, cond, ◌||◌, List, [], ◌∷◌, Float}
use Rattle.std.specs.Float.{binary64}
use Rattle.std.specs.Float.Ieee.{neg, lt, of_bits}
use Rattle.float.specs.Rounded.{◌⊕◌, ◌⊖◌, ◌⊗◌, ◌⊘◌, one, nought, two}
use Rattle.sqrt.specs.Root.{sqrt_of}
use Rattle.adwin_buckets.specs.declared.bucket.Bucket.{Bucket}
use Rattle.adwin_buckets.specs.declared.cut.CutTest.{CutTest}

-- Document 01, Drift: "a = 1/(n0−5+1) + 1/(n1−5+1)", 5 being the smallest side
abbrev pub aOf : Float → Float → Float → Float
aOf side n0 n1 = one ⊘ (n0 ⊖ side ⊕ one) ⊕ one ⊘ (n1 ⊖ side ⊕ one)

-- 3, by the bits that the code's literal has
abbrev three : Float
three = of_bits binary64 0x4008_0000_0000_0000

-- "sqrt(2×a×v×g) + 2/3×a×g"
abbrev pub bound_of : Float → Float → Float → Float
bound_of a v g = sqrt_of (two ⊗ a ⊗ v ⊗ g) ⊕ two ⊘ three ⊗ a ⊗ g

-- by how much two doubles differ
abbrev pub apart : Float → Float → Float
apart x y = cond (lt (x ⊖ y) nought) (neg (x ⊖ y)) (x ⊖ y)

-- "A cut with n0 older and n1 newer values, both at least 5, fails if its two means differ by more than" that. t0 is the total of the older ones.
unfoldable pub cut_fails : CutTest → Float → Float → Bool
cut_fails c n0 t0 =
    let n1 = c.width ⊖ n0 in
    cond (lt n0 c.side || lt n1 c.side) false (lt (bound_of (aOf c.side n0 n1) c.v c.g) (apart (t0 ⊘ n0) ((c.total ⊖ t0) ⊘ n1)))

-- "the cut search walks the buckets oldest first": n0 values with the total t0 are older than those that follow
unfoldable pub some_fails : CutTest → Float → Float → List Bucket → Bool
unfolding cut_fails
some_fails c n0 t0 [] = false
some_fails c n0 t0 (b ∷ newer) = cond (cut_fails c (n0 ⊕ b.size) (t0 ⊕ b.total)) true (some_fails c (n0 ⊕ b.size) (t0 ⊕ b.total) newer)
