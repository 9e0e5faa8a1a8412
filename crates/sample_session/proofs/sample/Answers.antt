-- `sample` meets its contract. Assumes nothing.
use Rattle.std.proofs.Common.{◌≡◌, List, ℕ, ◌++◌, take, sym, ap, arith}
use Rattle.std.proofs.lemmas.List.Sums.{fold_more}
use Rattle.text.specs.Laws.Pieces.{both, worded, from_blank}
use Rattle.sample_session.specs.declared.Phase.{Phase}
use Rattle.sample_session.specs.declared.TheConstants.{PHASES}
use Rattle.sample_session.specs.Sample.{phase_bytes, settings_bytes, sample_bytes}
use Rattle.sample_session.proofs.Sizes.{size, through}
use Rattle.sample_session.proofs.sample.Goals as goal

pub loop-phase-init : goal.loop-phase-init
loop-phase-init c = λ t a. a

pub loop-phase-preserved : goal.loop-phase-preserved
loop-phase-preserved c = λ t a.
    worded (sym (fold_more (λ (l : List ℕ) (p : Phase). l ++ phase_bytes p) settings_bytes _ c.loop-phase.phase-index _ c.loop-phase-test.true))
    (both (c.loop-phase.invariant t a) c.add_phase.ensures)

pub returns : goal.returns
unfolding sample_bytes
returns c =
    let i : c.loop-phase.phase-index ≡ 8 = omega arith in
    from_blank {p = sample_bytes} c.new-text.ensures.empty
    (worded (ap (λ (n : ℕ). through (take n PHASES)) i) (c.loop-phase.invariant c.new-text.result c.add_settings.ensures)) (omega (arith, size.is))
