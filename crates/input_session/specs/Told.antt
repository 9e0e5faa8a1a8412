-- What the code's session tells. Definition only.
use Rattle.dbstream.specs.View.{view}
use Rattle.input_session.specs.declared.Session.{Session}
use Rattle.input_session.specs.Refused.{run_number}
use Rattle.input_session.specs.Session as defined

abbrev pub ran_told : Session → defined.Ran
ran_told r = defined.ran (run_number r.answer) (view r.stream)
