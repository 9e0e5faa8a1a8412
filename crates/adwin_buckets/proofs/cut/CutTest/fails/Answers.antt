-- `CutTest::fails` meets its contract. Assumes nothing.
use Rattle.adwin_buckets.specs.Cut.{cut_fails}
use mathlib.Core.Path.{sym}
use lib.Ieee.{binary64}
use lib.Ieee.Fits.{mul-fits}
use lib.Ieee.Bits.{is_false}
use Rattle.sqrt.specs.Laws.Squares.{not_above_root}
use denote.Floats.{passes}
use Rattle.adwin_buckets.proofs.cut.CutTest.fails.Goals.{then-n0-self-via-then-n0-self, then-n0-self-via-else-n0-self+then-n1-self}
use Rattle.adwin_buckets.proofs.cut.CutTest.fails.Goals as goal

pub returns-then-n0-self : goal.returns-then-n0-self
unfolding cut_fails
returns-then-n0-self c =
    elim c.then-n0-self.branch [
      | then-n0-self-via-then-n0-self w ↦ rw w.if-n0-self.true
      | then-n0-self-via-else-n0-self+then-n1-self w ↦ rw (w.if-n0-self.false, w.if-n1-self.true)
    ]

pub returns-then-gap-square : goal.returns-then-gap-square
unfolding cut_fails
returns-then-gap-square c =
    rw (c.if-n0-self.false, c.if-n1-self.false, sym c.apart-gap.ensures)
    (sym (is_false _ (not_above_root _ _ _ (passes _ c.apart-gap.type_inv) (mul-fits binary64 _ _) (passes _ c.if-rest.true) (passes _ c.if-gap-square.true))))

pub returns : goal.returns
unfolding cut_fails
returns c =
    rw (c.if-n0-self.false, c.if-n1-self.false, c.apart-gap.ensures, c.sqrt.ensures)
