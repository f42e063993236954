-- The columns that a text takes, and places on a terminal.
use Rattle.std.specs.Prelude.{ℕ, Bool, false, ◌==◌, List, min, unwrap_or, sum_by}
use Rattle.std.specs.List.{slice_split}
use Rattle.std.specs.Ordering.{nat_cmp, on, then_cmp}
use Rattle.std.specs.Str.{chars}
use Rattle.std.specs.declared.cmp.Ordering.{Ordering}
use Rattle.unicode_width.specs.Width.{char_width, str_width}
use Rattle.rl_base.specs.declared.layout.GraphemeClusterMode.{GraphemeClusterMode}
use Rattle.rl_base.specs.declared.layout.GraphemeClusterMode.TheVariants.{Unicode, WcWidth, NoZwj}
use Rattle.rl_base.specs.declared.layout.Layout.{Layout}
use Rattle.rl_base.specs.declared.layout.Position.{Position}

-- a character without a width takes none
abbrev pub char_columns : ℕ → ℕ
char_columns c = unwrap_or (char_width false c) 0

-- U+200D
abbrev pub is_joiner : ℕ → Bool
is_joiner c = c == 0x200D

-- how many columns a text takes, however many those are
abbrev pub columns : GraphemeClusterMode → List ℕ → ℕ
columns Unicode text = str_width false (chars text)
columns WcWidth text = sum_by char_columns (chars text)
columns NoZwj text = sum_by (str_width false) (slice_split is_joiner (chars text))

-- the same, cut at the largest `u16`
abbrev pub width : GraphemeClusterMode → List ℕ → ℕ
width mode text = min (columns mode text) 65535

-- the order of places: by row, then by column
abbrev pub by_row : Position → Position → Ordering
by_row = then_cmp (on (λ p. p.row) nat_cmp) (on (λ p. p.col) nat_cmp)

abbrev pub origin : Position
origin = record { col = 0; row = 0 }

abbrev pub blank_layout : GraphemeClusterMode → Layout
blank_layout mode =
    record {
      grapheme_cluster_mode = mode;
      prompt_size = origin;
      default_prompt = false;
      cursor = origin;
      end = origin;
      has_info = false;
    }
