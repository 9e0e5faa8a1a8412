-- `weight_now` meets its contract. Assumes nothing.
use Rattle.std.proofs.Common.{rules, ◌≡◌, ◌∙◌, find}
use Rattle.std.specs.Option.{option_map_or}
use Rattle.float.specs.Rounded.{nought}
use Rattle.db_readout.specs.Connectivity.{is_of, weighs}
use Rattle.db_readout.proofs.Found.{first_found}
use Rattle.db_readout.proofs.connected.weight_now.Goals as goal

pub returns : goal.returns
returns c =
    let a = c.args in
    let told : c.map_or.result ≡ option_map_or (weighs a.lambda a.t) (find (is_of a.id) a.micros.now) nought = search rules in
    told ∙ first_found (is_of a.id) (weighs a.lambda a.t) nought a.micros.now
