-- What a clustered stream's read-outs give is its text. Assumes nothing.
use Rattle.std.specs.Prelude.{ℕ, ◌≡◌, ◌≤◌, List, ◌++◌, map, ℤ, length, take}
use Rattle.std.proofs.Common.{sym, ap, ap₂, ◌∙◌}
use mathlib.Core.List.{map-map}
use Rattle.lists.specs.Laws.Maps.{map_length}
use Rattle.std.proofs.lemmas.List.{take_all}
use Rattle.model.specs.declared.micro.DbMicro.{DbMicro}
use Rattle.db_micro.specs.Held.{cut_to}
use Rattle.dbstream.specs.declared.stream.DbStream.{DbStream}
use Rattle.dbstream.specs.View.{view, dim_of}
use Rattle.drift.specs.declared.DriftReport.{DriftReport}
use Rattle.drift.specs.Monitor.{report_of}
use Rattle.model.specs.declared.micro.MicroId.{MicroId}
use Rattle.model.specs.Limits.{micros_most}
use Rattle.model.specs.DbState.{State}
use Rattle.model.specs.DbInsert.{id_of}
use Rattle.model.specs.Dbstream.{cluster_of}
use Rattle.families_lines.specs.Lines.{lines_of, last_line}
use Rattle.families_text.specs.Families.{cluster_text}

-- the creation numbers of those held are the view's
pub ids_are :
    (s : DbStream) (held : List DbMicro) (ids : List MicroId) →
    held ≡ take s.count s.micros →
    length held ≤ micros_most →
    take (length held) ids ≡ map id_of (take micros_most held) →
    take (length (view s).held.micros) ids ≡ map id_of (view s).held.micros
ids_are s held ids e few h =
    ap (λ (i : ℕ). take i ids) (map_length (cut_to (dim_of s)) (take s.count s.micros) ∙ ap length (sym e))
    ∙ h
    ∙ ap (map id_of) (take_all micros_most held few ∙ e)
    ∙ sym (map-map id_of (cut_to (dim_of s)) (take s.count s.micros))

pub text_is :
    (s u : State) (n : ℕ) (ids : List MicroId) (labels : List ℤ) (report : DriftReport) →
    u ≡ cluster_of s →
    n ≡ length u.held.micros →
    take (length u.held.micros) ids ≡ map id_of u.held.micros →
    labels ≡ u.labels →
    report ≡ report_of u.drift →
    lines_of (take n ids) labels ++ last_line report ≡ cluster_text s
text_is s u n ids labels report e count names told drift =
    let a : take n ids ≡ map id_of s.held.micros =
    ap (λ (i : ℕ). take i ids) count ∙ names ∙ ap (λ (v : State). map id_of v.held.micros) e
    in
    ap₂ ◌++◌ (ap₂ lines_of a (told ∙ ap (λ (v : State). v.labels) e)) (ap last_line (drift ∙ ap (λ (v : State). report_of v.drift) e))
