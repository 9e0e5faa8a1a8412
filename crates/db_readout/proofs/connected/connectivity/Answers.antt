-- `connectivity` meets its contract. Assumes nothing.
use Rattle.std.proofs.Common.{sym, ap, ap₂, ◌∙◌, Bool, List, [], ◌∷◌}
use lib.Ieee.{Float}
use Rattle.model.specs.Answers.{gives, refuses}
use Rattle.model.specs.Questions.{first_no}
use Rattle.model.specs.declared.micro.DbMicro.{DbMicro}
use Rattle.model.specs.declared.link.Link.{Link}
use Rattle.dbstream.specs.View.{view, dim_of}
use Rattle.db_readout.specs.Connectivity.{are_live, mean_now, density_over, connectivity_of}
use Rattle.db_readout.specs.Laws.Connectivity.{live_view, mean_view}
use Rattle.db_readout.proofs.connected.connectivity.Goals as goal

pub returns-then-not-are_live : goal.returns-then-not-are_live
unfolding connectivity_of
returns-then-not-are_live c =
    let a = c.args in
    let s = a.stream.now in
    let held = ap (λ (ms : List DbMicro). are_live ms a.a a.b) c.held-micros.ensures.value ∙ live_view (dim_of s) _ a.a a.b in
    rw (sym (sym c.if-not-are_live.true ∙ c.are_live.ensures ∙ held))

pub returns : goal.returns
unfolding connectivity_of
returns c =
    let a = c.args in
    let s = a.stream.now in
    let p = s.params.settings in
    let micros = c.held-micros.ensures.value in
    ap gives (c.density.ensures ∙ ap (λ (ls : List Link). density_over p.lambda s.t c.mean_weight-mean.result ls a.a a.b) c.held_links.ensures)
    ∙ ap₂ (λ (live : Bool) (mean : Float). first_no ((live, refuses 12 []) ∷ []) (gives (density_over p.lambda s.t mean (view s).held.links a.a a.b)))
    (sym c.if-not-are_live.false ∙ c.are_live.ensures ∙ ap (λ (ms : List DbMicro). are_live ms a.a a.b) micros ∙ live_view (dim_of s) _ a.a a.b)
    (c.mean_weight-mean.ensures ∙ ap (λ (ms : List DbMicro). mean_now p.lambda s.t ms a.a a.b) micros ∙ mean_view (dim_of s) _ p.lambda s.t a.a a.b)
