-- Where the motions over lines go.
use Rattle.rl_base.specs.Blanks.{without_leading_blanks}
use Rattle.rl_base.specs.Lines.{end_of_line, is_newline, last_line, line_number, place_of_column, start_of_line, text_of_line}
use Rattle.rl_base.specs.Widths.{width}
use Rattle.rl_base.specs.declared.layout.Layout.{Layout}
use Rattle.rl_line.specs.Line.{Line}
use Rattle.std.specs.Option.{option_map}
use Rattle.std.specs.Prelude.{List, None, Option, Some, count_by, drop, if◌then◌else◌, length, max, min, slice_range, ℕ, ◌+◌, ◌-◌, ◌==◌}

-- the start and the end of the cursor's line
abbrev pub home : Line → ℕ
home line = start_of_line line.text (line_number line.text line.cursor)

abbrev pub line_end : Line → ℕ
line_end line = end_of_line line.text (line_number line.text line.cursor)

-- the first character of the cursor's line that is no blank, or the line's end if there is none
abbrev pub first_nonblank : Line → ℕ
first_nonblank line =
    let text = text_of_line line.text (line_number line.text line.cursor) in
    home line + (length text - length (without_leading_blanks text))

-- the n-th line above that of the place, at least one, or the first; none on the first
abbrev pub line_above : List ℕ → ℕ → ℕ → Option ℕ
line_above text pos n = if line_number text pos == 0 then None else Some (line_number text pos - max n 1)

-- the n-th line below, at least one, or the last; none without a newline from the place on
abbrev pub line_below : List ℕ → ℕ → ℕ → Option ℕ
line_below text pos n =
    if count_by is_newline (drop pos text) == 0 then None else Some (min (last_line text) (line_number text pos + max n 1))

-- the columns from the start of the line to the place
abbrev pub columns_before : Layout → List ℕ → ℕ → ℕ
columns_before layout text pos = width layout.grapheme_cluster_mode (slice_range text (start_of_line text (line_number text pos)) pos)

-- the column to go to in a line above: the prompt stands before the first line
abbrev pub column_above : Layout → ℕ → ℕ → ℕ
column_above layout target columns = if target == 0 then columns - layout.prompt_size.col else columns

-- the column to go to in a line below, from line k
abbrev pub column_below : Layout → ℕ → ℕ → ℕ
column_below layout k columns = if k == 0 then min (columns + layout.prompt_size.col) 65535 else columns

-- the place before the cluster of line k whose number is the column, or the line's end
abbrev pub place_in_line : List ℕ → ℕ → ℕ → ℕ
place_in_line text k column = start_of_line text k + place_of_column (text_of_line text k) column

-- where the motion up by n lines goes
abbrev pub place_above : Layout → List ℕ → ℕ → ℕ → Option ℕ
place_above layout text pos n =
    option_map (λ target. place_in_line text target (column_above layout target (columns_before layout text pos))) (line_above text pos n)

-- where the motion down by n lines goes
abbrev pub place_below : Layout → List ℕ → ℕ → ℕ → Option ℕ
place_below layout text pos n =
    option_map (λ target. place_in_line text target (column_below layout (line_number text pos) (columns_before layout text pos))) (line_below text pos n)
