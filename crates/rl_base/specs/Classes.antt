-- What a grapheme cluster is to each sense of a word.
use Rattle.std.specs.Prelude.{ℕ, length, Bool, true, false, not, ◌&&◌, ◌||◌, ◌==◌, List, [], ◌∷◌}
use Rattle.std.specs.List.{list_all, list_any}
use Rattle.std.specs.Str.{chars}
use Rattle.ucd_derived.specs.Binary.{is_alphabetic}
use Rattle.ucd_props.specs.Binary.{is_white_space}
use Rattle.ucd_category.specs.GeneralCategory.{general_category}
use Rattle.ucd_category.specs.declared.GeneralCategory.{GeneralCategory}
use Rattle.ucd_category.specs.declared.GeneralCategory.TheVariants.{DecimalNumber, LetterNumber, OtherNumber}
use Rattle.rl_base.specs.Clusters.{clusters}
use Rattle.rl_base.specs.declared.motion.Word.{Word}
use Rattle.rl_base.specs.declared.motion.Word.TheVariants.{Big, Emacs, Vi}

-- a number, by its general category
abbrev pub is_number : GeneralCategory → Bool
is_number DecimalNumber = true
is_number LetterNumber = true
is_number OtherNumber = true
is_number _ = false

-- Alphabetic, or a number
abbrev pub is_alphanumeric : ℕ → Bool
is_alphanumeric c = is_alphabetic c || is_number (general_category c)

-- every character of the cluster is alphanumeric
abbrev pub all_alphanumeric : List ℕ → Bool
all_alphanumeric cluster = list_all is_alphanumeric (chars cluster)

-- one cluster, all of whose characters are alphanumeric
abbrev pub is_word_cluster : List ℕ → Bool
is_word_cluster text = length (clusters text) == 1 && all_alphanumeric text

-- a character of the cluster is White_Space
abbrev pub has_blank : List ℕ → Bool
has_blank cluster = list_any is_white_space (chars cluster)

-- the cluster "_"
abbrev pub is_underscore : List ℕ → Bool
is_underscore (b ∷ []) = b == 95
is_underscore _ = false

-- the cluster belongs to words of the sense
abbrev pub is_word : Word → List ℕ → Bool
is_word Big cluster = not (has_blank cluster)
is_word Emacs cluster = all_alphanumeric cluster
is_word Vi cluster = is_underscore cluster || all_alphanumeric cluster

-- the cluster neither belongs to a Vi word nor holds a blank
abbrev pub is_other : List ℕ → Bool
is_other cluster = not (is_word Vi cluster) && not (has_blank cluster)

-- a word starts at y, which follows x
abbrev pub starts : Word → List ℕ → List ℕ → Bool
starts Vi x y = (not (is_word Vi x) && is_word Vi y) || (not (is_other x) && is_other y)
starts sense x y = not (is_word sense x) && is_word sense y

-- a word ends with x, which y follows
abbrev pub ends : Word → List ℕ → List ℕ → Bool
ends Vi x y = (is_word Vi x && not (is_word Vi y)) || (is_other x && not (is_other y))
ends sense x y = is_word sense x && not (is_word sense y)
