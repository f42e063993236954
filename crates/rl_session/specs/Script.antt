-- What a script does, and what is printed for it.
use Rattle.std.specs.Prelude.{◌≡◌, ◌⊎◌, ℕ, ◌<◌, ◌≤◌, max, List, [], ◌∷◌, ◌++◌, length, take, Option, IfSome}
use Rattle.std.specs.Io.KnownBytes.{Consumes, IsAtEnd, Appends}
use Rattle.rl_session.specs.State.{State, fresh}
use Rattle.rl_session.specs.Commands.{Step}
use Rattle.rl_session.specs.Grammar.{Meaning, NewText, Set, Do, Means, MeansNothing}
use Rattle.rl_session.specs.Lines.{lines_of, whole_lines}
use Rattle.rl_session.specs.Print.{printed, bad_line}
use Rattle.rl_session.specs.Settings.{as_new, usual, with_setting}
use Rattle.rl_session.specs.declared.script.Interpreter.{Interpreter}
use Rattle.rl_session.specs.declared.script.ScriptFault.{ScriptFault}
use Rattle.rl_session.specs.declared.script.ScriptFault.TheVariants as why
use Rattle.rl_session.specs.declared.session.Fault.TheVariants.{NoMemory}
use Rattle.rl_session.specs.declared.session.Reply.{Reply}
use Rattle.rl_session.specs.declared.session.Reply.TheVariants.{Done, Refused}
use Rattle.rl_session.specs.declared.settings.Settings.{Settings}

-- the session that begins with a text: the cursor is at its end
abbrev pub begun : Settings → List ℕ → State
begun settings text = fresh text (length text) (as_new settings.limit settings.ring_size settings.options.mode)

-- before the first line: the usual settings, and the session of the empty text
abbrev pub started : Interpreter
started = record { settings = usual; session = begun usual [] }

-- What a line means may lead from old to new, and this is printed for it. Memory is out for no text that needs none: one that is
-- empty, if its limit is 0.
abbrev pub MeaningOut : Interpreter → Meaning → List ℕ → Interpreter → Type 0
MeaningOut old (NewText t) out new =
    ((new ≡ record old { session = begun old.settings t }) × (out ≡ printed Done new.session))
    ⊎ ((0 < max old.settings.limit (length t)) × (new ≡ old) × (out ≡ printed (Refused NoMemory) old.session))
MeaningOut old (Set setting) out new = (new ≡ record old { settings = with_setting setting old.settings }) × (out ≡ printed Done old.session)
MeaningOut old (Do command) out new =
    (reply : Reply) × (session : State) × Step old.session command reply session × (new ≡ record old { session = session }) × (out ≡ printed reply session)

-- the same of a line; a line that means nothing changes nothing
unfoldable pub LineOut : Interpreter → List ℕ → List ℕ → Interpreter → Type 0
LineOut old line out new =
    ((m : Meaning) × Means line m × MeaningOut old m out new) ⊎ (MeansNothing line × (new ≡ old) × (out ≡ bad_line))

-- the lines, one after another, may lead from old to new, and this is printed for them
abbrev pub Outputs : Interpreter → List (List ℕ) → List ℕ → Interpreter → Type 0
Outputs old [] out new = (out ≡ []) × (new ≡ old)
Outputs old (line ∷ lines) out new =
    (mid : Interpreter) × (first : List ℕ) × (others : List ℕ) × (out ≡ first ++ others) × LineOut old line first mid × Outputs mid lines others new

-- the same of lines whose last output may be cut: this is printed for them, of the last one perhaps only the front
abbrev pub CutOutputs : Interpreter → List (List ℕ) → List ℕ → Type 0
CutOutputs old [] out = out ≡ []
CutOutputs old (line ∷ []) out = (new : Interpreter) × (whole : List ℕ) × (k : ℕ) × LineOut old line whole new × (out ≡ take k whole)
CutOutputs old (line ∷ next ∷ lines) out =
    (mid : Interpreter) × (first : List ℕ) × (others : List ℕ) × (out ≡ first ++ others) × LineOut old line first mid × CutOutputs mid (next ∷ lines) others

-- The input was read to its end, and what was written is an output of its lines, from the usual settings and the empty text on.
pub record Ran (left leaves held holds : Option (List ℕ)) : Type 0 where
  pub input : List ℕ
  pub output : List ℕ
  pub last : Interpreter
  pub read : Consumes left leaves input
  pub ended : IsAtEnd leaves
  pub written : Appends held holds output
  pub outputs : Outputs started (lines_of input) output last

-- What was written is an output of some lines from the front of the input, the last one's perhaps cut.
pub record Stopped (left held holds : Option (List ℕ)) : Type 0 where
  pub lines : List (List ℕ)
  pub out : List ℕ
  pub front : IfSome left (λ input. (others : List (List ℕ)) × (lines_of input ≡ lines ++ others))
  pub written : Appends held holds out
  pub outputs : CutOutputs started lines out

-- the script has this line after those
abbrev pub HasNext : Option (List ℕ) → List (List ℕ) → List ℕ → Type 0
HasNext script lines line = IfSome script (λ bytes. (others : List (List ℕ)) × (lines_of bytes ≡ lines ++ line ∷ others))

-- the line was run, and of its output this front was written, which is not all of it
pub record IsCut (old : Interpreter) (line written : List ℕ) : Type 0 where
  pub whole : List ℕ
  pub new : Interpreter
  pub k : ℕ
  pub output : LineOut old line whole new
  pub part : k < length whole
  pub is : written ≡ take k whole

-- What each fault leaves, if `read` was read of a script, `lines` of it were run and printed, and then `cut` was written.
-- A failed read: each line that was read whole was run. A failed write: the next line was run, and its output was cut. No
-- memory: there was a next line, or nothing was read yet.
abbrev pub Leaves : ScriptFault → Option (List ℕ) → List ℕ → List (List ℕ) → Interpreter → List ℕ → Type 0
Leaves why.Read script read lines now cut = (lines ≡ whole_lines read) × (cut ≡ [])
Leaves why.Write script read lines now cut = (line : List ℕ) × HasNext script lines line × IsCut now line cut
Leaves why.NoMemory script read lines now cut = (((line : List ℕ) × HasNext script lines line) ⊎ ((read ≡ []) × (lines ≡ []))) × (cut ≡ [])

-- A fault stopped the script after these lines, whose output was written whole. They include each line that was read whole
-- before the last block, which has at most 4096 bytes.
pub record StoppedBy (fault : ScriptFault) (left leaves held holds : Option (List ℕ)) : Type 0 where
  pub before : List ℕ
  pub block : List ℕ
  pub lines : List (List ℕ)
  pub out : List ℕ
  pub now : Interpreter
  pub cut : List ℕ
  pub read : Consumes left leaves (before ++ block)
  pub small : length block ≤ 4096
  pub in_time : (more : List (List ℕ)) × (lines ≡ whole_lines before ++ more)
  pub outputs : Outputs started lines out now
  pub written : Appends held holds (out ++ cut)
  pub at_fault : Leaves fault left (before ++ block) lines now cut
