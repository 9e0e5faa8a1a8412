-- `DbStream::new` meets its contract. Assumes nothing.
use Rattle.std.proofs.Common.{◌≡◌, ℕ, Float, min, sym, ap, ◌∙◌, true, false}
use Rattle.float.specs.Rounded.{nought}
use Rattle.feature.specs.Feature.{max_dim}
use Rattle.model.specs.Stream.{asked}
use Rattle.model.specs.DbState.{Settings, State, zeros}
use Rattle.model.specs.Dbstream.{fresh}
use Rattle.dbstream.specs.View.{view, with_dim}
use Rattle.model.proofs.Laws.Numbers.{open_ok}
use Rattle.dbstream.proofs.Openings.{opened}
use Rattle.dbstream.proofs.stream.DbStream.new.Goals.{then-is_ok, else-is_ok}
use Rattle.dbstream.proofs.stream.DbStream.new.Goals as goal

all_zero :
    (dim : ℕ) (r lambda alpha min_weight : Float) → dim ≡ 0 → r ≡ nought → lambda ≡ nought → alpha ≡ nought → min_weight ≡ nought →
    record { dim = dim; r = r; lambda = lambda; alpha = alpha; min_weight = min_weight } ≡ zeros
all_zero dim r lambda alpha min_weight d e f g h = rw (d, e, f, g, h)

pub returns : goal.returns
unfolding asked
returns c =
    let p = c.args.settings in
    let answer = c.asked-answer in
    let seen : Settings → State = λ (k : Settings). fresh (with_dim k (min k.dim max_dim)) in
    elim c.if-is_ok.branch [
      | then-is_ok w ↦
          let all = opened p answer.result true (view c.fresh-stream.result) answer.ensures (open_ok answer.result ∙ sym c.is_ok.ensures.value ∙ w.if-is_ok.true)
          (c.fresh-stream.ensures ∙ ap seen w.kept-is) in
          record { result_value = all.0; said = all.1 }
      | else-is_ok w ↦
          let d = w.default-kept.ensures in
          let all = opened p answer.result false (view c.fresh-stream.result) answer.ensures (open_ok answer.result ∙ sym c.is_ok.ensures.value ∙ w.if-is_ok.false)
          (c.fresh-stream.ensures ∙ ap seen (w.kept-is ∙ all_zero _ _ _ _ _ d.0 d.1.0 d.1.1.0 d.1.1.1.0 d.1.1.1.1)) in
          record { result_value = all.0; said = all.1 }
    ]
