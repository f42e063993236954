-- Editing the letters of a word.
use Rattle.rl_base.specs.Words.{first_word_cluster}
use Rattle.rl_base.specs.declared.motion.WordAction.{WordAction}
use Rattle.rl_base.specs.declared.motion.WordAction.TheVariants.{Capitalize, Lowercase, Uppercase}
use Rattle.rl_line.specs.Edits.{exchange_plan}
use Rattle.rl_line.specs.Line.{Line, between}
use Rattle.rl_line.specs.Plan.{Plan, answering, nothing}
use Rattle.rl_line.specs.Ranges.{text_in}
use Rattle.rl_line.specs.Transpositions.{end_of_cluster, word_end}
use Rattle.std.specs.Char.{is_ascii, to_ascii_lowercase, to_ascii_uppercase}
use Rattle.std.specs.List.{list_all}
use Rattle.std.specs.Option.{option_map}
use Rattle.std.specs.Prelude.{Bool, List, None, Option, Some, drop, false, if◌then◌else◌, length, map, take, true, ℕ, ◌++◌, ◌+◌}
use Rattle.std.specs.StrCase.Lower.{str_to_lowercase}
use Rattle.std.specs.StrCase.Upper.{str_to_uppercase}
use Rattle.std.specs.declared.ops.Range.{Range}

-- the word that is edited: from the first cluster of an Emacs word, at the cursor or ahead, to the word's end
abbrev pub word_ahead : Line → Option (Range ℕ)
word_ahead line = option_map (λ start. between start (word_end line.text start 1)) (first_word_cluster line.text line.cursor)

-- an ASCII word in the case that is asked for
abbrev pub recased : WordAction → List ℕ → List ℕ
recased Uppercase word = map to_ascii_uppercase word
recased Lowercase word = map to_ascii_lowercase word
recased Capitalize word = map to_ascii_uppercase (take 1 word) ++ map to_ascii_lowercase (drop 1 word)

-- any other word in that case, by the standard library's mappings of characters; a capitalized one begins with its first cluster
abbrev pub mapped : WordAction → List ℕ → List ℕ
mapped Uppercase word = str_to_uppercase word
mapped Lowercase word = str_to_lowercase word
mapped Capitalize word = let first = end_of_cluster word 0 in str_to_uppercase (take first word) ++ str_to_lowercase (drop first word)

-- what stands for a word then
abbrev pub respelled : WordAction → List ℕ → List ℕ
respelled action word = if list_all is_ascii word then recased action word else mapped action word

-- that replaces the word, if there is one, and the cursor goes past it. The answer: was there one?
abbrev pub respell : Line → WordAction → Option (Range ℕ) → Plan Bool
respell line action None = nothing line false
respell line action (Some word) =
    let made = respelled action (text_in line word) in answering true (exchange_plan line word line.cursor made (word.start + length made))

abbrev pub edit_word_plan : Line → WordAction → Plan Bool
edit_word_plan line action = respell line action (word_ahead line)
