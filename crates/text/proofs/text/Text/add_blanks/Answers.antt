-- `add_blanks` meets its contract. Assumes nothing.
use Rattle.std.proofs.Common.{ℕ, arith}
use Rattle.text.specs.Ascii.{ascii}
use Rattle.text.specs.Laws.Pieces.{first, more, ended}
use Rattle.text.proofs.text.Text.add_blanks.Goals as goal

pub loop-i-init : goal.loop-i-init
loop-i-init c = first (λ (i : ℕ). ascii " ") c.args.self.now

pub loop-i-preserved : goal.loop-i-preserved
loop-i-preserved c = more (λ (i : ℕ). ascii " ") c.loop-i._i c.loop-i.invariant c.add_byte.ensures

pub returns : goal.returns
returns c = ended (λ (i : ℕ). ascii " ") (omega arith) c.loop-i.invariant
