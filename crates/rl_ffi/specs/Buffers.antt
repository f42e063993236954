-- What a buffer of C holds after values were written to its start.
use Rattle.std.specs.Prelude.{List, ◌++◌, length, drop}

-- all of them, which fit, and after them what was there before
abbrev pub put : {A : Type 0} → List A → List A → List A
put values out = values ++ drop (length values) out
