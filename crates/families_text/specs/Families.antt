-- Document 01, `families`: the text that an input gives. Definitions only.
use Rattle.std.specs.Prelude.{ℕ, cond, List, ◌++◌, map, eqb}
use Rattle.drift.specs.Monitor.{report_of}
use Rattle.model.specs.DbState.{State}
use Rattle.model.specs.DbInsert.{id_of}
use Rattle.model.specs.DbCluster.{labels_of}
use Rattle.model.specs.Dbstream.{cluster_of}
use Rattle.text.specs.Refusal.{refused_line}
use Rattle.families_lines.specs.Lines.{lines_of, last_line}
use Rattle.input_session.specs.Session.{ran_of}

-- "after cluster it prints one line per micro-cluster in list order .. then a last line"
abbrev pub cluster_text : State → List ℕ
cluster_text s = lines_of (map id_of s.held.micros) (cluster_of s).labels ++ last_line (report_of s.drift)

-- "and then prints only the line `refused`, a space and the number"
unfoldable pub families_text : List ℕ → List ℕ
unfolding ran_of lines_of labels_of
families_text bytes = cond (eqb (ran_of bytes).number 0) (cluster_text (ran_of bytes).stream) (refused_line (ran_of bytes).number)
