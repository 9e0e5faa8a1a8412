-- `Adwin::held` meets its contract. Assumes nothing.
use Rattle.std.proofs.Common.{◌≡◌, length, sym, ◌∙◌, arith}
use Rattle.lists.specs.Laws.Rest.{take_min}
use Rattle.adwin.specs.Settings.{places}
use Rattle.adwin.proofs.Classes.{buckets_are}
use Rattle.adwin.proofs.Adwin.held.Goals as goal

pub returns : goal.returns
returns c =
    let a = c.args.self.now in
    let b : length a.buckets ≡ places = omega arith in
    let e : length a.classes ≡ length a.buckets = omega arith in
    rw c.min.ensures (take_min a.count places a.buckets b ∙ sym (buckets_are a.count a.classes a.buckets e))
