-- `drawn` meets its contract. Assumes nothing.
use Rattle.std.specs.Prelude.{ℕ, ◌≡◌, ◌≤◌, List, ◌++◌, length, take}
use Rattle.std.proofs.Common.{ap, ◌∙◌, arith, length-take, rules}
use Rattle.std.proofs.lemmas.List.{length-map}
use Rattle.model.specs.Limits.{micros_most}
use Rattle.dbstream.specs.View.{view}
use Rattle.readout.specs.Told.{statistics_told}
use Rattle.text.specs.Text.{room}
use Rattle.text.specs.Laws.Pieces.{worded}
use Rattle.picture_text.specs.Picture.{drawn_of}
use Rattle.picture_text.proofs.Drawings.{drawing}
use Rattle.picture_text.proofs.drawn.Goals as goal

pub returns : goal.returns
returns c =
    let s = c.args.stream in
    let u = c.cluster.result.stream in
    let f = c.micro_stats-stats in
    let labels = c.labels_told-labels in
    let d = c.drift in
    let figures = statistics_told f.result f.new.centres f.new.weights f.new.radii in
    let places : length u.micros ≡ micros_most = search rules in
    let few : length (view u).held.micros ≤ micros_most = simp (length-map, length-take) (omega (arith, places)) in
    let page = drawing (view s) (view u) figures labels.result.now d.result few c.cluster.ensures.stream_value f.ensures labels.ensures d.ensures in
    (worded page c.drawn.ensures).is
    ∙ ap (λ (t : List ℕ). take room (t ++ drawn_of (view s))) c.new-text.ensures.empty
