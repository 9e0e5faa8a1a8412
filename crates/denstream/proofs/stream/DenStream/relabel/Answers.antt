-- `DenStream::relabel` meets its contract. Assumes nothing.
use mathlib.Core.Path.{◌≡◌}
use lib.ListN.{length}
use borrow.Author.Rules.{rules}
use Rattle.model.specs.Limits.{micros_most}
use Rattle.denstream.proofs.Labels.{clustered, worked}
use Rattle.denstream.specs.View.{held_in}
use Rattle.denstream.proofs.stream.DenStream.relabel.Goals as goal

pub returns : goal.returns
unfolding held_in
returns c =
    let s = c.args.self.now in
    let room : length s.potential ≡ micros_most = search rules in
    let told = c.group_labels in
    let pool = c.potential-potential in
    record {
      stream_after = clustered s room pool.result.now pool.ensures told.result.labels told.ensures.labels_value;
      work = worked s room pool.result.now pool.ensures told.result.work told.ensures.work;
    }
