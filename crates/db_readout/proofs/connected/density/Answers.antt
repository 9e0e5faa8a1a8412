-- `density` meets its contract. Assumes nothing.
use Rattle.std.proofs.Common.{rules, ◌≡◌, ap, ◌∙◌, find}
use Rattle.std.specs.Option.{option_map_or}
use Rattle.float.specs.Rounded.{nought}
use Rattle.lists.specs.Search.{first_of}
use Rattle.model.specs.declared.link.Link.{Link}
use Rattle.db_readout.specs.Connectivity.{has_ends, over}
use Rattle.db_readout.proofs.Found.{first_found}
use Rattle.db_readout.proofs.connected.density.Goals as goal

pub returns : goal.returns
returns c =
    let a = c.args in
    let ls = a.links.now in
    let f = over a.lambda a.t a.mean in
    let told : c.map_or.result ≡ option_map_or f (find (has_ends c.key_of-key.result) ls) nought = search rules in
    rw c.if-mean.false
    (told ∙ first_found (has_ends c.key_of-key.result) f nought ls ∙ ap (λ (k : Link). first_of (has_ends k) f nought ls) c.key_of-key.ensures)
