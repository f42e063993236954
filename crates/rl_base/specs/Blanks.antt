-- Blanks at the ends of a text: characters that are White_Space.
use Rattle.std.specs.Prelude.{ℕ, List, [], ◌∷◌, reverse, if◌then◌else◌}
use Rattle.std.specs.Str.{chars, encode_utf8_all}
use Rattle.ucd_props.specs.Binary.{is_white_space}

-- the characters from the first one on that is not a blank
abbrev pub past_blanks : List ℕ → List ℕ
past_blanks [] = []
past_blanks (c ∷ cs) = if is_white_space c then past_blanks cs else c ∷ cs

-- the text without its leading blanks
abbrev pub without_leading_blanks : List ℕ → List ℕ
without_leading_blanks text = encode_utf8_all (past_blanks (chars text))

-- the text without its trailing blanks
abbrev pub without_trailing_blanks : List ℕ → List ℕ
without_trailing_blanks text = encode_utf8_all (reverse (past_blanks (reverse (chars text))))
