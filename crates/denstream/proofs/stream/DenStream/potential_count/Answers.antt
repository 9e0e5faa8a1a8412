-- `DenStream::potential_count` meets its contract. Assumes nothing.
use mathlib.Core.Path.{sym, ap, ◌∙◌}
use lib.ListN.{length, length-map}
use Rattle.den_pool.specs.Held.{micro_in}
use Rattle.denstream.specs.View.{dim_of, held_in}
use Rattle.denstream.proofs.stream.DenStream.potential_count.Goals as goal

pub returns : goal.returns
unfolding held_in
returns c = ap length c.potential.ensures ∙ sym (length-map _ (micro_in (dim_of c.args.self.now)))
