-- `is_multiple` meets its contract. Assumes nothing.
use Rattle.std.proofs.Common.{◌≡◌, ℕ, zero, suc, ◌%◌, false, cond, eqb, ◌≢◌, refl, arith, ne_eqb}
use mathlib.Core.Bool.{not}
use Rattle.model.specs.Fading.{ticks_of}
use Rattle.model.proofs.clock.is_multiple.Goals as goal

none : (n k : ℕ) → n ≡ 0 → not (eqb n 0) ≡ cond (eqb n 0) false (eqb (k % n) 0)
none zero k h = refl
none (suc n) k h = absurd (omega (arith, h))

some : (n k : ℕ) → n ≢ 0 → eqb (k % n) 0 ≡ cond (eqb n 0) false (eqb (k % n) 0)
some n k h = rw (ne_eqb n 0 h)

pub returns-else-p-ne0 : goal.returns-else-p-ne0
returns-else-p-ne0 c =
    let period = c.ticks-p in
    rw (← period.ensures) (none period.result (ticks_of c.args.t) c.if-p-ne0.false)

pub returns-then-p-ne0 : goal.returns-then-p-ne0
returns-then-p-ne0 c =
    let period = c.ticks-p in
    rw (← c.ticks.ensures, ← period.ensures) (some period.result c.ticks.result c.if-p-ne0.true)
