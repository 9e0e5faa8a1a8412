-- `plotted` meets its contract. Assumes nothing.
use Rattle.std.proofs.Common.{refl, arith}
use Rattle.picture_lines.specs.Row.{row_in}
use Rattle.picture_lines.specs.Plot.{plot_of}
use Rattle.picture_lines.proofs.Plotting.{mark_more}
use Rattle.picture_lines.proofs.plot.plotted.Goals as goal

pub loop-row-init : goal.loop-row-init
unfolding plot_of
loop-row-init c = record { hidden = omega arith; is = refl }

pub loop-row-preserved : goal.loop-row-preserved
loop-row-preserved c =
    let l = c.loop-row in
    record {
      hidden = omega (arith, c.add_mark.ensures.hidden_bound);
      is = mark_more c.args.up (row_in c.args.rows.now) l.row-index l.plot c.add_mark.new.plot _ l.invariant.is refl c.add_mark.ensures.value;
    }
