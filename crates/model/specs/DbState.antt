-- What a DBSTREAM keeps, and its opening's questions. Definitions only.
use Rattle.std.specs.Prelude.{ℕ, Bool, List}
use Rattle.float.specs.Rounded.{nought}
use Rattle.model.specs.declared.micro.DbMicro.{DbMicro}
use Rattle.model.specs.declared.link.Link.{Link}
use Rattle.model.specs.declared.settings.DbSettings.{DbSettings}
use Rattle.model.specs.declared.params.DbParams.{DbParams}
use Rattle.model.specs.Questions as asks
use Rattle.model.specs.Periods.{t_gap_of, floor_of}
use Rattle.model.specs.Stream as stream
use Rattle.model.specs.Answers.{Opening}

abbrev pub Settings : Type 0
Settings = DbSettings

abbrev pub Params : Type 0
Params = DbParams

-- next is the next creation number; micro-clusters in list order, links ascending by (lo, hi)
pub record Holdings : Type 0 where
  pub next : ℕ
  pub micros : List DbMicro
  pub links : List Link

abbrev pub State : Type 0
State = stream.State Params Holdings

abbrev pub params_of : Settings → Params
params_of p = record { settings = p; t_gap = t_gap_of p.lambda; floor = floor_of p.lambda }

-- the settings beside a refusal
abbrev pub zeros : Settings
zeros = record { dim = 0; r = nought; lambda = nought; alpha = nought; min_weight = nought }

-- "Opening a stream", its questions in order
abbrev pub questions : Settings → List (Bool × Opening)
questions p = asks.questions p.dim p.r p.lambda p.alpha p.min_weight
