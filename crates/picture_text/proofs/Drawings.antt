-- What a clustered stream's read-outs give is its drawing. Assumes nothing.
use Rattle.std.specs.Prelude.{ℕ, ◌≡◌, ◌≤◌, refl, min, List, ℤ, negsuc, length, replicate, take, drop}
use Rattle.std.proofs.Common.{arith, sym, ap, ap₂, ◌∙◌, le-leb}
use Rattle.std.proofs.lemmas.List.{length-map, length-take, length-replicate}
use Rattle.std.proofs.Math.Seq.{take-append_seam}
use Rattle.labels.proofs.Laws.Label.{labels_tell}
use Rattle.drift.specs.declared.DriftReport.{DriftReport}
use Rattle.drift.specs.Monitor.{report_of}
use Rattle.model.specs.Limits.{micros_most}
use Rattle.model.specs.Families.{labels_by}
use Rattle.model.specs.ReadOut.{Statistics, labels_read}
use Rattle.model.specs.DbState.{State}
use Rattle.model.specs.DbCluster.{is_strong, strong_ones, joins_of, labels_of}
use Rattle.model.specs.Dbstream.{cluster_of}
use Rattle.picture_lines.specs.Picture.{page_of}
use Rattle.picture_lines.specs.Laws.Rows.{page_first}
use Rattle.picture_text.specs.Picture.{figures_of, drawn_of}

abbrev blank : List ℤ
blank = replicate micros_most (negsuc 0)

-- one label for each
label_count : (s : State) → length s.held.micros ≤ micros_most → length (labels_of s) ≡ length s.held.micros
unfolding labels_of labels_by
label_count s h =
    let e : length (strong_ones s) ≡ length s.held.micros = length-map s.held.micros (is_strong s) in
    let k : length (strong_ones s) ≤ micros_most = omega arith in
    (labels_tell (length (strong_ones s)) k (joins_of s s.held.links) (strong_ones s) refl).count ∙ e

-- read into 64 places, the labels stand first
read_first : (labels : List ℤ) → length labels ≤ micros_most → take (length labels) (labels_read labels blank).labels ≡ labels
read_first labels h =
    rw (le-leb (length labels) (length blank) (omega (arith, length-replicate micros_most (negsuc 0)))) (take-append_seam labels (drop (length labels) blank))

abbrev page : ℕ → Statistics → List ℤ → DriftReport → List ℕ
page n figures labels report = page_of (min n micros_most) figures.centres figures.weights labels report.alarms

pub drawing :
    (s u : State) (figures : Statistics) (labels : List ℤ) (report : DriftReport) →
    length u.held.micros ≤ micros_most →
    u ≡ cluster_of s →
    figures ≡ figures_of u →
    labels ≡ u.labels →
    report ≡ report_of u.drift →
    page_of (min (length labels) micros_most) figures.centres figures.weights labels report.alarms ≡ drawn_of s
unfolding drawn_of
drawing s u figures labels report few e stats told drift =
    let held : length u.held.micros ≡ length s.held.micros = ap (λ (v : State). length v.held.micros) e in
    let is : labels ≡ labels_of s = told ∙ ap (λ (v : State). v.labels) e in
    let n : length labels ≡ length s.held.micros = ap length is ∙ label_count s (omega arith) in
    let read = (labels_read labels blank).labels in
    let first : take (length labels) read ≡ labels = read_first labels (omega arith) in
    sym (ap (λ (l : List ℤ). page (length l) figures l report) first)
    ∙ page_first figures.centres figures.weights read (length labels) report.alarms (omega (arith, ap length first, length-take (length labels) read))
    ∙ ap₂ (λ (k : ℕ) (f : Statistics). page k f read report) n (stats ∙ ap figures_of e)
    ∙ ap₂ (λ (l : List ℤ). page (length s.held.micros) (figures_of (cluster_of s)) (labels_read l blank).labels) is (drift ∙ ap (λ (v : State). report_of v.drift) e)
