-- What a DenStream keeps, and its opening's questions. Definitions only.
use Rattle.std.specs.Prelude.{Bool, List, [], ◌∷◌, ◌++◌, Err}
use Rattle.std.specs.Float.Ieee.{lt}
use Rattle.float.specs.Rounded.{◌⊗◌, nought, one}
use Rattle.model.specs.declared.micro.DenMicro.{DenMicro}
use Rattle.model.specs.declared.settings.DenSettings.{DenSettings}
use Rattle.model.specs.declared.params.DenParams.{DenParams}
use Rattle.model.specs.Questions as asks
use Rattle.model.specs.Periods.{bm_of, tp_of}
use Rattle.model.specs.Stream as stream
use Rattle.model.specs.declared.answers.OpenError.TheVariants.{BetaMu}
use Rattle.model.specs.Answers.{Opening}

abbrev pub Settings : Type 0
Settings = DenSettings

abbrev pub Params : Type 0
Params = DenParams

-- both pools in list order with all that is kept of each
pub record Holdings : Type 0 where
  pub potential : List DenMicro
  pub outliers : List DenMicro

abbrev pub pooled : (potential outliers : List DenMicro) → Holdings
pooled potential outliers = record { potential = potential; outliers = outliers }

abbrev pub State : Type 0
State = stream.State Params Holdings

abbrev pub params_of : Settings → Params
params_of p =
    record {
      settings = p;
      eps2 = p.eps ⊗ p.eps;
      bm = bm_of p.beta p.mu;
      tp = tp_of p.lambda (bm_of p.beta p.mu);
    }

-- the settings beside a refusal
abbrev pub zeros : Settings
zeros = record { dim = 0; eps = nought; lambda = nought; beta = nought; mu = nought }

-- "Opening a stream", its questions in order; "DenStream: is beta × mu above 1? No: 6."
abbrev pub questions : Settings → List (Bool × Opening)
questions p = asks.questions p.dim p.eps p.lambda p.beta p.mu ++ (lt one (bm_of p.beta p.mu), Err BetaMu) ∷ []
