-- `clustered_text` meets its contract. Assumes nothing.
use Rattle.std.specs.Prelude.{◌≡◌, ◌≤◌, length, take}
use Rattle.std.proofs.Common.{◌∙◌, arith, length-take, rules}
use Rattle.model.specs.Limits.{micros_most}
use Rattle.dbstream.specs.View.{view}
use Rattle.families_text.proofs.Clustered.{ids_are, text_is}
use Rattle.families_text.proofs.clustered_text.Goals as goal

pub returns : goal.returns
returns c =
    let s = c.args in
    let u = c.cluster.result.stream in
    let n = c.micro_count-n in
    let ids = c.ids_of-ids in
    let held = c.held in
    let named : length ids.result ≡ micros_most = search rules in
    let few : length (take n.result ids.result) ≤ micros_most = omega (arith, named, length-take n.result ids.result) in
    c.listing.ensures.whole few
    ∙ text_is (view s.stream) (view u) n.result ids.result c.labels_told.result.now c.drift.result c.cluster.ensures.stream_value
    n.ensures (ids_are u held.result.now ids.result held.ensures.value held.ensures.few ids.ensures) c.labels_told.ensures
    c.drift.ensures
