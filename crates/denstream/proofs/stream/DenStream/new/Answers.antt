-- `DenStream::new` meets its contract. Assumes nothing.
use Prim.Native.Nat.{min}
use mathlib.Core.Path.{◌≡◌, sym, ap, ◌∙◌}
use mathlib.Core.Bool.{true, false}
use Rattle.feature.specs.Feature.{max_dim}
use Rattle.model.specs.Answers.{opening_number}
use Rattle.model.specs.Numbers.{den_opening_no}
use Rattle.model.specs.DenState.{Settings}
use Rattle.model.specs.Denstream.{fresh, open_of}
use Rattle.model.proofs.Laws.Numbers.{open_ok}
use Rattle.den_pool.specs.Held.{with_dim}
use Rattle.denstream.specs.View.{view}
use Rattle.denstream.proofs.Openings.{zeros_are, opened}
use Rattle.denstream.proofs.stream.DenStream.new.Goals.{then-is_ok, else-is_ok}
use Rattle.denstream.proofs.stream.DenStream.new.Goals as goal

pub returns : goal.returns
returns c =
    let p = c.args.settings in
    let answer = c.asked-answer in
    let opens = open_ok answer.result ∙ sym c.is_ok.ensures.value in
    let of = λ (g : Settings). fresh (with_dim g (min g.dim max_dim)) in
    let v = view c.fresh-stream.result in
    let all : (record { answer = answer.result; stream = v } ≡ open_of p) × (opening_number answer.result ≡ den_opening_no p) =
    elim c.if-is_ok.branch [
      | then-is_ok w ↦ opened p answer.result true v answer.ensures (opens ∙ w.if-is_ok.true) (c.fresh-stream.ensures ∙ ap of w.kept-is)
      | else-is_ok w ↦
          let g = w.default-kept.result in
          let none = zeros_are g.dim g.eps g.lambda g.beta g.mu w.default-kept.ensures in
          opened p answer.result false v answer.ensures (opens ∙ w.if-is_ok.false) (c.fresh-stream.ensures ∙ ap of (w.kept-is ∙ none))
    ] in
    record { result_value = all.0; said = all.1 }
