-- A point in the places of an array. Definition only.
use Rattle.std.specs.Prelude.{◌-◌, List, ◌++◌, length, take, replicate, Float}
use Rattle.float.specs.Rounded.{nought}
use Rattle.feature.specs.Feature.{max_dim}

-- the first 15 coordinates, with zeros behind them
abbrev pub padded_of : List Float → List Float
padded_of x = take max_dim x ++ replicate (max_dim - length x) nought
