-- What the calls tell that change nothing.
use Rattle.std.specs.Prelude.{◌≡◌, ◌⊎◌, ℕ, ◌+◌, ◌-◌, ◌<◌, ◌≤◌, List, [], ◌∷◌, ◌++◌, drop, take, reverse, length, slice_get, slice_range, Option, Some, None, option_map, Result}
use Rattle.std.specs.Str.{IsCharBoundary}
use Rattle.std.specs.declared.ops.Range.{Range}
use Rattle.rl_base.specs.Clusters.{clusters}
use Rattle.rl_base.specs.Lines.{line_number}
use Rattle.rl_base.specs.Search.{find_text}
use Rattle.rl_base.specs.Widths.{width}
use Rattle.rl_base.specs.declared.layout.GraphemeClusterMode.{GraphemeClusterMode}
use Rattle.rl_base.specs.declared.listeners.Direction.{Direction}
use Rattle.rl_line.specs.LineRanges.{IsRange}
use Rattle.rl_session.specs.Commands.{line_place, with_cursor}
use Rattle.rl_session.specs.State.{State}
use Rattle.rl_ffi.specs.Buffers.{put}
use Rattle.rl_ffi.specs.Calls.{FillsFront, Tale, Telling, Writes, of_bytes, told_where, where_named}
use Rattle.rl_ffi.specs.Numbers.{direction_of, mode_of}
use Rattle.rl_ffi.specs.Reach.{Covers, Leads}
use Rattle.rl_ffi.specs.Texts.{measured}
use Rattle.rl_ffi.specs.declared.answers.Answer.{Answer}
use Rattle.rl_ffi.specs.declared.answers.Answer.TheVariants.{BadOffset, Done, Nothing, TooSmall}
use Rattle.rl_ffi.specs.declared.shapes.CCluster.{CCluster}
use Rattle.rl_ffi.specs.declared.shapes.CMovement.{CMovement}
use Rattle.rl_ffi.specs.declared.shapes.CPosition.{CPosition}
use Rattle.rl_ffi.specs.declared.shapes.CRange.{CRange}
use Rattle.rl_ffi.specs.declared.view.View.{View}

-- a view of a text has its length
abbrev pub IsViewOf : List ℕ → View → Type 0
IsViewOf text view = view.len ≡ length text

-- a text is lent, if there is one
abbrev pub Lends : Option (List ℕ) → Tale View
Lends None n out out' = (n ≡ Nothing) × (out' ≡ out)
Lends (Some text) n out out' = (n ≡ Done) × IsViewOf text out'

-- what stands in a range of the text is lent
abbrev pub TellsSlice : CRange → Telling View
TellsSlice r s = told_where (IsRange s.line.text r.from r.to) BadOffset (Lends (Some (slice_range s.line.text r.from r.to)))

abbrev pub range_shape : Range ℕ → CRange
range_shape r = record { from = r.start; to = r.end }

-- where the cursor stands
abbrev pub cursor_position : State → CPosition
cursor_position s = record { line = (line_place s).0; column = (line_place s).1 }

-- the text is written to a buffer with a NUL after it, and its length; if that does not fit, only its length
abbrev pub CopiesText : List ℕ → Tale (List ℕ × ℕ)
CopiesText text n out out' =
    ((length text < length out.0) × (n ≡ Done) × (out' ≡ (put (text ++ 0 ∷ []) out.0, length text)))
    ⊎ ((length out.0 ≤ length text) × (n ≡ TooSmall) × (out' ≡ (out.0, length text)))

-- what is told with the cursor at a place, which must be a boundary
abbrev pub TellsFrom : {A : Type 0} → ℕ → Telling A → Telling A
TellsFrom place Does s = told_where (IsCharBoundary s.line.text place) BadOffset (Does (with_cursor place s))

-- where a text is found from a place
abbrev pub TellsFound : ℕ → List ℕ → ℕ → Telling CRange
TellsFound place text direction s = of_bytes text (where_named (direction_of direction) (λ (d : Direction).
    TellsFrom place (λ (s : State). Writes (option_map range_shape (find_text s.line.text s.line.cursor text d))) s))

-- what a movement covers from a place, and where it leads from there
abbrev pub TellsCovers : ℕ → CMovement → Telling CRange
TellsCovers place movement s n out out' =
    (range : Result (Option (Range ℕ)) Answer) × Covers place movement s range
    × where_named range (λ (r : Option (Range ℕ)). Writes (option_map range_shape r)) n out out'

abbrev pub TellsTarget : ℕ → CMovement → Telling ℕ
TellsTarget place movement s n out out' =
    (target : Result (Option ℕ) Answer) × Leads place movement s target × where_named target Writes n out out'

-- the line in which a place stands. No abbreviation, so that it is one fact for the search, as are the clusters at and before a
-- place
unfoldable pub TellsLineAt : ℕ → Telling ℕ
TellsLineAt place = TellsFrom place (λ (s : State). Writes (Some (line_number s.line.text s.line.cursor)))

-- the first of some clusters, which begins at a place, with its columns
abbrev pub first_cluster : GraphemeClusterMode → ℕ → List (List ℕ) → Option CCluster
first_cluster mode place [] = None
first_cluster mode place (cluster ∷ more) = Some (record { from = place; to = place + length cluster; columns = width mode cluster })

-- the first of some clusters in turned order, which ends at a place, with its columns
abbrev pub last_cluster : GraphemeClusterMode → ℕ → List (List ℕ) → Option CCluster
last_cluster mode place [] = None
last_cluster mode place (cluster ∷ more) = Some (record { from = place - length cluster; to = place; columns = width mode cluster })

-- the first cluster of a text from a place on; the last one before a place
unfoldable pub TellsCluster : List ℕ → GraphemeClusterMode → ℕ → Tale CCluster
TellsCluster text mode place = told_where (IsCharBoundary text place) BadOffset (Writes (first_cluster mode place (clusters (drop place text))))

unfoldable pub TellsClusterBefore : List ℕ → GraphemeClusterMode → ℕ → Tale CCluster
TellsClusterBefore text mode place =
    told_where (IsCharBoundary text place) BadOffset (Writes (last_cluster mode place (reverse (clusters (take place text)))))

-- where one of some clusters begins
abbrev pub begin_of : List CCluster → ℕ → Option ℕ
begin_of cs k = option_map (λ (c : CCluster). c.from) (slice_get cs k)

-- the clusters of a text from a place on
unfoldable pub FillsClusters : GraphemeClusterMode → List ℕ → ℕ → Tale (List CCluster × (ℕ × ℕ))
FillsClusters mode text from = told_where (IsCharBoundary text from) BadOffset
    (FillsFront (measured mode from (clusters (drop from text))) (begin_of (measured mode from (clusters (drop from text)))))

abbrev pub TellsClustersFrom : ℕ → ℕ → Telling (List CCluster × (ℕ × ℕ))
TellsClustersFrom mode from s = where_named (mode_of mode) (λ (m : GraphemeClusterMode). FillsClusters m s.line.text from)
