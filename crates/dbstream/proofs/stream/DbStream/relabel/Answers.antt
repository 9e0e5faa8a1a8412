-- `DbStream::relabel` meets its contract. Assumes nothing.
use mathlib.Core.Path.{◌≡◌}
use lib.ListN.{length}
use borrow.Author.Rules.{rules}
use Rattle.model.specs.Limits.{micros_most, links_most}
use Rattle.dbstream.proofs.Labels.{clustered, worked}
use Rattle.dbstream.proofs.stream.DbStream.relabel.Goals as goal

pub returns : goal.returns
returns c =
    let s = c.args.self.now in
    let lm : length s.micros ≡ micros_most = search rules in
    let ll : length s.links ≡ links_most = search rules in
    let micros = c.held-micros in
    let links = c.held_links in
    let strong = c.strong_ones-strong in
    let size : length strong.result ≡ micros_most = search rules in
    let told = c.labels_of in
    record {
      stream_after = clustered s lm ll micros.result.now micros.ensures.value links.result.now links.ensures strong.result size strong.ensures told.result.labels
          told.ensures.labels_value;
      work = worked s lm ll micros.result.now micros.ensures.value links.result.now links.ensures strong.result size strong.ensures told.result.work
          told.ensures.work;
    }
