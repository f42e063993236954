-- Where words start and end in a text, and where word motions stop.
use Rattle.std.specs.Prelude.{ℕ, ◌+◌, length, zero, suc, ◌==◌, List, map, take, drop, reverse, slice_get, Option, Some, None, unwrap_or, if◌then◌else◌}
use Rattle.std.specs.List.{find, zip, filter_map, last_or}
use Rattle.std.specs.Option.{option_map, option_or}
use Rattle.unicode_segmentation.specs.Segments.{with_offsets}
use Rattle.rl_base.specs.Classes.{is_word, starts, ends}
use Rattle.rl_base.specs.Clusters.{clusters}
use Rattle.rl_base.specs.declared.motion.At.{At}
use Rattle.rl_base.specs.declared.motion.At.TheVariants.{Start, BeforeEnd, AfterEnd}
use Rattle.rl_base.specs.declared.motion.Word.{Word}
use Rattle.rl_base.specs.declared.motion.Word.TheVariants.{Emacs}

-- a cluster, with its place
abbrev pub PlacedCluster : Type 0
PlacedCluster = ℕ × List ℕ

-- the clusters of a text, each with its place
abbrev pub placed_clusters : List ℕ → List PlacedCluster
placed_clusters text = with_offsets 0 (clusters text)

-- each element with the one after it
abbrev pub neighbours : {X : Type 0} → List X → List (X × X)
neighbours xs = zip xs (drop 1 xs)

-- where a motion stops between x and y, the cluster after it, if it does
abbrev pub stop_between : At → Word → PlacedCluster × PlacedCluster → Option ℕ
stop_between Start sense (x, y) = if starts sense x.1 y.1 then Some y.0 else None
stop_between AfterEnd sense (x, y) = if ends sense x.1 y.1 then Some y.0 else None
stop_between BeforeEnd Emacs (x, y) = if ends Emacs x.1 y.1 then Some y.0 else None
stop_between BeforeEnd sense (x, y) = if ends sense x.1 y.1 then Some x.0 else None

-- all places where a motion over the clusters stops
abbrev pub stops : At → Word → List PlacedCluster → List ℕ
stops at sense pieces = filter_map (stop_between at sense) (neighbours pieces)

-- the n-th element, counted from 1
abbrev pub nth : ℕ → List ℕ → Option ℕ
nth zero xs = None
nth (suc n) xs = slice_get xs n

-- the n-th start of a word from the back, or 0; none at the start of the text
abbrev pub prev_word : List ℕ → ℕ → Word → ℕ → Option ℕ
prev_word text pos sense n =
    if pos == 0 then None
    else Some (unwrap_or (nth n (reverse (stops Start sense (placed_clusters (take pos text))))) 0)

-- the place of the last cluster, if it is not the first
abbrev pub last_place : List ℕ → Option ℕ
last_place text = last_or None (map (λ piece. piece.0) (drop 1 (placed_clusters text)))

-- where a motion ends if it finds fewer stops than were asked for
abbrev pub last_stop : At → Word → ℕ → List ℕ → Option ℕ
last_stop AfterEnd sense n text = Some (length text)
last_stop at Emacs n text = Some (length text)
last_stop at sense zero text = None
last_stop at sense (suc n) text = last_place text

-- the clusters that a motion looks at: a motion to a word's last cluster skips the first one
abbrev pub looked_at : At → List PlacedCluster → List PlacedCluster
looked_at BeforeEnd pieces = drop 1 pieces
looked_at at pieces = pieces

-- the n-th stop in the text, or where the motion ends instead
abbrev pub next_stop : At → Word → ℕ → List ℕ → Option ℕ
next_stop at sense n text = option_or (nth n (stops at sense (looked_at at (placed_clusters text)))) (last_stop at sense n text)

-- the same from the place on; none at the end of the text
abbrev pub next_word : List ℕ → ℕ → At → Word → ℕ → Option ℕ
next_word text pos at sense n = if pos == length text then None else option_map (λ stop. pos + stop) (next_stop at sense n (drop pos text))

-- the place of the first cluster that belongs to Emacs words
abbrev pub first_member : List PlacedCluster → Option ℕ
first_member pieces = option_map (λ piece. piece.0) (find (λ piece. is_word Emacs piece.1) pieces)

-- the same from the place on
abbrev pub first_word_cluster : List ℕ → ℕ → Option ℕ
first_word_cluster text pos = option_map (λ i. pos + i) (first_member (placed_clusters (drop pos text)))
