-- `add_reading` meets its contract. Assumes nothing.
use mathlib.Core.Path.{ap}
use lib.Ieee.{Float}
use Rattle.float.specs.Rounded.{◌⊕◌, ◌⊖◌, ◌⊗◌, whole}
use Rattle.text.specs.Laws.Pieces.{both, worded}
use Rattle.sample_session.specs.Sample.{double_bytes, walked}
use Rattle.sample_session.proofs.add_reading.Goals as goal

pub returns : goal.returns
returns c =
    let i = c.args.i in
    let p = c.args.p.now in
    let gain = ap (λ (u : Float). double_bytes (whole p.gain ⊖ whole p.loss ⊕ whole p.spread ⊗ u ⊕ walked p i))
    c.unit.ensures
    in
    let swing = ap (λ (u : Float). double_bytes (whole p.amplitude ⊕ whole p.spread ⊗ u ⊖ walked p i))
    c.unit-2.ensures
    in
    let error = ap (λ (u : Float). double_bytes (whole p.beat_error ⊕ whole p.spread ⊗ u)) c.unit-3.ensures in
    both (both (worded gain c.add_double.ensures) (worded swing c.add_double-2.ensures))
    (worded error c.add_double-3.ensures)
