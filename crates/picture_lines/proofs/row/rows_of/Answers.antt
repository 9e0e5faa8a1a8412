-- `rows_of` meets its contract. Assumes nothing.
use Rattle.std.proofs.Common.{◌≡◌, ℕ, ◌+◌, ◌<◌, [], set, refl, sym, subst, arith, rules}
use Rattle.std.proofs.lemmas.List.FromFn.{fill_by_all}
use Rattle.std.proofs.lemmas.List.Edits.{fill_by_more}
use Rattle.model.specs.Limits.{micros_most}
use Rattle.picture_lines.specs.declared.row.Row.{Row}
use Rattle.picture_lines.specs.Row.{row_at, row_in}
use Rattle.picture_lines.proofs.row.rows_of.Goals as goal

pub loop-i-init : goal.loop-i-init
loop-i-init c = record { long = refl; below = λ k h. absurd (omega arith) }

pub loop-i-preserved : goal.loop-i-preserved
loop-i-preserved c =
    let l = c.loop-i in
    let f = row_at c.args.centres.now c.args.weights.now c.args.labels.now in
    let more = fill_by_more f l.rows l.i (row_in [] 0) (omega arith) l.invariant.below in
    record {
      long = search rules;
      below = subst (λ (r : Row). (k : ℕ) → k < l.i + 1 → row_in (set l.rows l.i r) k ≡ f k) (sym c.row_at.ensures) more;
    }

pub returns : goal.returns
returns c =
    fill_by_all (row_at c.args.centres.now c.args.weights.now c.args.labels.now) c.loop-i.rows micros_most (row_in [] 0) c.loop-i.invariant.long
    (λ (k : ℕ) (h : k < micros_most). c.loop-i.invariant.below k (omega arith))
