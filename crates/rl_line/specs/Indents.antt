-- The plans of indenting and dedenting the lines of a range.
use Rattle.rl_base.specs.Event.{Delete, InsertStr}
use Rattle.rl_base.specs.Lines.{line_number, lines, start_of_line, text_of_line}
use Rattle.rl_base.specs.Text.{greatest_boundary}
use Rattle.rl_base.specs.declared.listeners.Direction.TheVariants.{Forward}
use Rattle.rl_base.specs.declared.motion.Movement.{Movement}
use Rattle.rl_line.specs.Line.{Line, between}
use Rattle.rl_line.specs.Plan.{Plan, Step, after_steps, bytes_of, single}
use Rattle.rl_line.specs.Ranges.{indented}
use Rattle.std.specs.List.{repeat}
use Rattle.std.specs.Prelude.{Bool, List, [], drop, false, if◌then◌else◌, length, max, min, nat_lt, slice_range, take, true, ℕ, ◌%◌, ◌++◌, ◌+◌, ◌-◌, ◌/◌, ◌==◌, ◌∷◌}
use Rattle.std.specs.Str.{trim_start}
use Rattle.std.specs.declared.ops.Range.{Range}

-- the first line that holds a byte of a range, and the last; an empty range counts as a byte of the line that it lies in
abbrev pub first_line : List ℕ → Range ℕ → ℕ
first_line text r = line_number text r.start

abbrev pub final_line : List ℕ → Range ℕ → ℕ
final_line text r = line_number text (max r.start (r.end - 1))

-- a cursor after n bytes went in at i, or n bytes from i on went out: one before i stays, others go along, to i at least
abbrev pub pushed : ℕ → ℕ → ℕ → ℕ
pushed i n cursor = if nat_lt cursor i then cursor else cursor + n

abbrev pub pulled : ℕ → ℕ → ℕ → ℕ
pulled i n cursor = if nat_lt cursor i then cursor else max i (cursor - n)

abbrev pub spaces : ℕ → List ℕ
spaces n = repeat n (32 ∷ [])

-- n in parts of at most 32
abbrev pub parts : ℕ → List ℕ
parts n = repeat (n / 32) (32 ∷ []) ++ (if n % 32 == 0 then [] else n % 32 ∷ [])

-- as many spaces as the parts say go in at i, part after part
abbrev pub put_spaces : List ℕ → ℕ → ℕ → List Step
put_spaces [] i cursor = []
put_spaces (n ∷ more) i cursor = (InsertStr i (spaces n), pushed i n cursor) ∷ put_spaces more i (pushed i n cursor)

-- what a dedent takes from the start of a line's text: up to n bytes of its leading blanks, up to a boundary
abbrev pub blanks : ℕ → List ℕ → List ℕ
blanks n text = take (greatest_boundary text (min n (length text - length (trim_start text)))) text

-- the steps for the line with that text at i; the answer is the place where its text ends then
abbrev pub line_plan : Bool → ℕ → List ℕ → ℕ → ℕ → Plan ℕ
line_plan false n text i cursor = record { steps = put_spaces (parts n) i cursor; cursor = pushed i n cursor; answer = i + length text + n }
line_plan true n text i cursor =
    let gone = blanks n text in
    single (Delete i gone Forward) (pulled i (length gone) cursor) (i + length text - length gone)

-- the steps for the lines with those texts, the first at i
abbrev pub lines_plan : Bool → ℕ → List (List ℕ) → ℕ → ℕ → Plan Bool
lines_plan dedent n [] i cursor = record { steps = []; cursor = cursor; answer = true }
lines_plan dedent n (text ∷ more) i cursor =
    let one = line_plan dedent n text i cursor in
    after_steps one.steps (lines_plan dedent n more (one.answer + 1) one.cursor)

-- the same for the line that begins at i
abbrev pub shift_plan : Line → ℕ → Bool → ℕ → Plan ℕ
shift_plan line i dedent n = line_plan dedent n (text_of_line (drop i line.text) 0) i line.cursor

-- how many spaces go in at the start of each line
abbrev pub spaces_each : Bool → ℕ → ℕ
spaces_each dedent n = if dedent then 0 else n

-- the lines that hold a byte of what the movement covers, by their numbers
abbrev pub indented_lines : Line → Movement → Range ℕ
indented_lines line mvt = let r = indented line mvt in between (first_line line.text r) (final_line line.text r + 1)

-- the steps for the lines with those numbers
abbrev pub shift_lines_plan : Line → Range ℕ → Bool → ℕ → Plan Bool
shift_lines_plan line ks dedent n = lines_plan dedent n (slice_range (lines line.text) ks.start ks.end) (start_of_line line.text ks.start) line.cursor

-- the lines that hold a byte of what the movement covers are indented, or dedented
abbrev pub indent_plan : Line → Movement → ℕ → Bool → Plan Bool
indent_plan line mvt n dedent = shift_lines_plan line (indented_lines line mvt) dedent n

-- whether a byte goes in or out then
abbrev pub indent_changes : Line → Movement → ℕ → Bool → Bool
indent_changes line mvt n dedent = nat_lt 0 (bytes_of (indent_plan line mvt n dedent).steps)
