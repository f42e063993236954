-- How far the running of a script has come.
use Rattle.std.specs.Prelude.{◌≡◌, ◌≢◌, ℕ, List, [], ◌∷◌, ◌++◌, Option, Some, None, MatchOption}
use Rattle.std.specs.Io.KnownBytes.{Consumes, Appends}
use Rattle.rl_session.specs.Grammar.{Means, MeansNothing}
use Rattle.rl_session.specs.Lines.{lines_of, whole_lines}
use Rattle.rl_session.specs.Print.{bad_line}
use Rattle.rl_session.specs.Parsing.{meaning_of}
use Rattle.rl_session.specs.Script.{MeaningOut, Outputs, IsCut, started}
use Rattle.rl_session.specs.declared.grammar.ScriptLine.{ScriptLine}
use Rattle.rl_session.specs.declared.script.Interpreter.{Interpreter}
use Rattle.rl_session.specs.declared.script.ScriptFault.{ScriptFault}
use Rattle.rl_session.specs.declared.script.ScriptFault.TheVariants as why

-- there is no newline in it
abbrev pub HasNoNewline : List ℕ → Type 0
HasNoNewline [] = Unit {0}
HasNoNewline (b ∷ bs) = (b ≢ 10) × HasNoNewline bs

-- this was read of a line
abbrev pub IsSaid : List ℕ → Option ScriptLine → Type 0
IsSaid line said = MatchOption said (MeansNothing line) (λ s. Means line (meaning_of s))

-- what was read of a line may lead from old to new, and this is printed for it
abbrev pub SaidOut : Interpreter → Option ScriptLine → List ℕ → Interpreter → Type 0
SaidOut old None out new = (new ≡ old) × (out ≡ bad_line)
SaidOut old (Some said) out new = MeaningOut old (meaning_of said) out new

-- After `part`, the beginning of a line, came `bytes`. The lines that they end were run and printed, and `part'` is left.
pub record Took (old : Interpreter) (part bytes : List ℕ) (held holds : Option (List ℕ)) (new : Interpreter) (part' : List ℕ) : Type 0 where
  pub lines : List (List ℕ)
  pub out : List ℕ
  pub split : (more : List ℕ) → lines_of (part ++ (bytes ++ more)) ≡ lines ++ lines_of (part' ++ more)
  pub ended : (more : List ℕ) → whole_lines (part ++ (bytes ++ more)) ≡ lines ++ whole_lines (part' ++ more)
  pub outputs : Outputs old lines out new
  pub written : Appends held holds out

-- for this fault, a line's output may stay unwritten, or be cut
abbrev pub Cuts : ScriptFault → Interpreter → List ℕ → List ℕ → Type 0
Cuts why.Read now line cut = ⊥
Cuts why.Write now line cut = IsCut now line cut
Cuts why.NoMemory now line cut = cut ≡ []

-- After `part` came `bytes`. Some lines from the front were run and printed. Then a fault came at the next line, and `cut` was
-- written of its output.
pub record Halts (fault : ScriptFault) (old : Interpreter) (part bytes : List ℕ) (held holds : Option (List ℕ)) : Type 0 where
  pub lines : List (List ℕ)
  pub out : List ℕ
  pub now : Interpreter
  pub line : List ℕ → List ℕ
  pub others : List ℕ → List (List ℕ)
  pub cut : List ℕ
  pub split : (more : List ℕ) → lines_of (part ++ (bytes ++ more)) ≡ lines ++ line more ∷ others more
  pub outputs : Outputs old lines out now
  pub written : Appends held holds (out ++ cut)
  pub cuts : (more : List ℕ) → Cuts fault now (line more) cut

-- So far this was read, and its lines were run and printed.
pub record Runs (left leaves held holds : Option (List ℕ)) (now : Interpreter) (part : List ℕ) : Type 0 where
  pub input : List ℕ
  pub read : Consumes left leaves input
  pub took : Took started [] input held holds now part
