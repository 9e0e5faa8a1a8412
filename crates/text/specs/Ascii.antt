-- A text as its ASCII codes. Definition only.
use Rattle.std.specs.Prelude.{ℕ, List, [], ◌∷◌}
use Prim.Native.Char.{code}
use Prim.Native.String.{String, [] as none, ◌∷◌ as ◌then◌}

abbrev pub ascii : String → List ℕ
ascii none = []
ascii (c then text) = code c ∷ ascii text
