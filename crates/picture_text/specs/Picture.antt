-- The text that `picture` prints for an input. Definitions only.
use Rattle.std.specs.Prelude.{ℕ, min, cond, List, eqb, negsuc, length, replicate}
use Rattle.float.specs.Rounded.{nought}
use Rattle.drift.specs.Monitor.{report_of}
use Rattle.model.specs.Limits.{micros_most}
use Rattle.model.specs.ReadOut.{Statistics}
use Rattle.model.specs.DbState.{State}
use Rattle.model.specs.Dbstream.{cluster_of, labels_read_of, statistics_of}
use Rattle.text.specs.Ascii.{ascii}
use Rattle.text.specs.Refusal.{refused_line}
use Rattle.input_session.specs.Session.{Ran, ran_of}
use Rattle.picture_lines.specs.Picture.{page_of}

-- the statistics, read into as many places as micro-clusters can be held, three for each centre
abbrev pub figures_of : State → Statistics
figures_of s = statistics_of s (replicate 192 nought) (replicate micros_most nought) (replicate micros_most nought)

-- the families after cluster, their figures, and the alarms
unfoldable pub drawn_of : State → List ℕ
drawn_of s =
    page_of (min (length s.held.micros) micros_most) (figures_of (cluster_of s)).centres (figures_of (cluster_of s)).weights
    (labels_read_of (cluster_of s) (replicate micros_most (negsuc 0))).labels
    (report_of s.drift).alarms

-- three figures a reading, or no picture
abbrev pub dim_text : State → List ℕ
dim_text s = cond (eqb s.params.settings.dim 3) (drawn_of s) (ascii "a picture needs dim 3\n")

abbrev pub ran_text : Ran → List ℕ
ran_text r = cond (eqb r.number 0) (dim_text r.stream) (refused_line r.number)

unfoldable pub picture_text : List ℕ → List ℕ
unfolding ran_of drawn_of
picture_text bytes = ran_text (ran_of bytes)
