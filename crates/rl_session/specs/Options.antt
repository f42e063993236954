-- How a session measures columns, and how much its record and its ring may hold.
use Rattle.std.specs.Prelude.{◌^◌, ◌-◌, false}
use Rattle.rl_base.specs.Widths.{blank_layout, origin}
use Rattle.rl_base.specs.declared.layout.GraphemeClusterMode.{GraphemeClusterMode}
use Rattle.rl_base.specs.declared.layout.Layout.{Layout}
use Rattle.rl_session.specs.declared.options.Bound.{Bound}
use Rattle.rl_session.specs.declared.options.Options.{Options}

-- no bound: the greatest `usize` stands for each
abbrev pub no_bound : Bound
no_bound = record { entries = 2 ^ 64 - 1; bytes = 2 ^ 64 - 1; ring_bytes = 2 ^ 64 - 1 }

-- the options of a new session: a prompt that ends at column 0, no bound, and an edit drops what was undone
abbrev pub plain : GraphemeClusterMode → Options
plain mode = record { mode = mode; prompt = 0; bound = no_bound; keeps = false }

-- the layout by which motions over lines go: the prompt ends at its column
abbrev pub layout_of : Options → Layout
layout_of options = record (blank_layout options.mode) { prompt_size = record origin { col = options.prompt } }
