-- Exchanging two clusters, and two words.
use Rattle.rl_base.specs.Clusters.{clusters, next_pos, prev_pos}
use Rattle.rl_base.specs.Event.{Delete, InsertStr}
use Rattle.rl_base.specs.Words.{next_word, prev_word}
use Rattle.rl_base.specs.declared.listeners.Direction.TheVariants.{Forward}
use Rattle.rl_base.specs.declared.motion.At.TheVariants.{AfterEnd}
use Rattle.rl_base.specs.declared.motion.Word.TheVariants.{Emacs}
use Rattle.rl_line.specs.Line.{Line, between}
use Rattle.rl_line.specs.Plan.{Plan, answering, followed_by, nothing, single}
use Rattle.rl_line.specs.Ranges.{text_in}
use Rattle.std.specs.List.{remove_range}
use Rattle.std.specs.Option.{option_map}
use Rattle.std.specs.Prelude.{Bool, List, None, Option, Some, [], drop, false, if◌then◌else◌, length, nat_le, nat_lt, not, option_and_then, slice_range, take, true, unwrap_or, ℕ, ◌&&◌, ◌++◌, ◌+◌, ◌==◌, ◌∷◌, ◌≡◌}
use Rattle.std.specs.declared.ops.Range.{Range}

-- where two clusters meet: at the cursor, or at the end of the text before the last cluster; none in a text of fewer than two
abbrev pub meeting_place : Line → Option ℕ
meeting_place line =
    if nat_lt (length (clusters line.text)) 2 then None
    else if line.cursor == length line.text then prev_pos line.text line.cursor 1 else Some line.cursor

-- the place of the cluster before it, and the range of the one after it, if there are both
abbrev pub clusters_around : List ℕ → ℕ → Option (ℕ × Range ℕ)
clusters_around text q =
    option_and_then (λ front. option_map (λ stop. (front, between q stop)) (next_pos text q 1)) (prev_pos text q 1)

-- the end of the cluster at a place, or the place itself at the end of the text
abbrev pub end_of_cluster : List ℕ → ℕ → ℕ
end_of_cluster text pos = unwrap_or (next_pos text pos 1) pos

-- a range goes, and comes in at a place in front of it, and the cursor goes past the cluster that follows it there
abbrev pub pull_back_plan : Line → ℕ → Range ℕ → Plan (Unit {0})
pull_back_plan line front after =
    let moved = text_in line after in
    let stop = length moved + end_of_cluster (remove_range line.text after.start after.end) front in
    followed_by (Delete after.start moved Forward) after.start (single (InsertStr front moved) stop tt)

-- that, if there are two clusters. The answer: were there two?
abbrev pub pulled_back : Line → Option (ℕ × Range ℕ) → Plan Bool
pulled_back line None = nothing line false
pulled_back line (Some (front, after)) = answering true (pull_back_plan line front after)

-- the second of two clusters that meet is pulled back in front of the first
abbrev pub transpose_chars_plan : Line → Plan Bool
transpose_chars_plan line = pulled_back line (option_and_then (clusters_around line.text) (meeting_place line))

-- the text in which a range and what stands between a place and it are exchanged
abbrev pub exchanged_text : Line → ℕ → Range ℕ → List ℕ
exchanged_text line front after =
    take front line.text ++ (text_in line after ++ (slice_range line.text front after.start ++ drop after.end line.text))

-- two clusters that met were exchanged, and nothing else changed in the text
pub record SwapsClusters (old new : Line) : Type 0 where
  pub front : ℕ
  pub after : Range ℕ
  pub met : option_and_then (clusters_around old.text) (meeting_place old) ≡ Some (front, after)
  pub text : new.text ≡ exchanged_text old front after
  pub len : length new.text ≡ length old.text

-- n Emacs words ahead or back, or the place itself if no motion leads on
abbrev pub word_end : List ℕ → ℕ → ℕ → ℕ
word_end text pos n = unwrap_or (next_word text pos AfterEnd Emacs n) pos

abbrev pub word_start : List ℕ → ℕ → ℕ → ℕ
word_start text pos n = unwrap_or (prev_word text pos Emacs n) pos

-- the second word ends n words ahead of the cursor, and the first begins n words before it
abbrev pub second_word : Line → ℕ → Range ℕ
second_word line n =
    let stop = word_end line.text line.cursor n in between (word_start line.text stop 1) stop

abbrev pub first_word : Line → ℕ → Range ℕ
first_word line n =
    let start = word_start line.text (second_word line n).start n in between start (word_end line.text start 1)

-- they are two words, and do not overlap
abbrev pub are_two : Range ℕ → Range ℕ → Bool
are_two first second = not (first.start == second.start) && nat_le first.end second.start

-- the second of two ranges is replaced by the first's text, and then the first by the second's
abbrev pub swap_plan : Line → Range ℕ → Range ℕ → Plan (Unit {0})
swap_plan line first second =
    record {
      steps = (Delete second.start (text_in line second) Forward, first.end) ∷ (InsertStr second.start (text_in line first), first.end)
          ∷ (Delete first.start (text_in line first) Forward, first.start) ∷ (InsertStr first.start (text_in line second), second.end) ∷ [];
      cursor = second.end;
      answer = tt;
    }

-- no step, but the cursor at a place
abbrev pub only_move : ℕ → Plan Bool
only_move cursor = record { steps = []; cursor = cursor; answer = false }

-- the two words are exchanged, if they are two, else the cursor goes past the first
abbrev pub transpose_words_plan : Line → ℕ → Plan Bool
transpose_words_plan line n =
    let first = first_word line n in
    let second = second_word line n in
    if are_two first second then answering true (swap_plan line first second) else only_move first.end
