-- What the calls that need no session answer.
use Rattle.std.specs.Prelude.{◌⊎◌, ℕ, ◌+◌, ◌*◌, ◌^◌, ◌<◌, ◌≤◌, List, [], ◌∷◌, length, reverse, Option, Some, None}
use Rattle.rl_base.specs.Clusters.{clusters}
use Rattle.rl_base.specs.Splice.{moved}
use Rattle.rl_base.specs.Widths.{width}
use Rattle.rl_base.specs.declared.layout.GraphemeClusterMode.{GraphemeClusterMode}
use Rattle.rl_base.specs.declared.splice.Side.{Side}
use Rattle.rl_base.specs.declared.splice.Splice.{Splice}
use Rattle.rl_session.specs.Script.{Ran, StoppedBy}
use Rattle.rl_session.specs.declared.script.ScriptFault.{ScriptFault}
use Rattle.rl_ffi.specs.Calls.{Fills, Tale, Writes, of_bytes, refuses, told_where, where_named}
use Rattle.rl_ffi.specs.Numbers.{mode_of, side_of}
use Rattle.rl_ffi.specs.declared.shapes.CCluster.{CCluster}
use Rattle.rl_ffi.specs.declared.shapes.CSplice.{CSplice}
use Rattle.rl_ffi.specs.declared.answers.Answer.TheVariants.{BadOffset, NoMemory}

abbrev pub TellsWidth : ℕ → List ℕ → Tale ℕ
TellsWidth mode text = where_named (mode_of mode) (λ (m : GraphemeClusterMode). of_bytes text (Writes (Some (width m text))))

-- how many bytes the first cluster of a list has
abbrev pub first_length : List (List ℕ) → Option ℕ
first_length [] = None
first_length (cluster ∷ more) = Some (length cluster)

abbrev pub TellsFirst : List ℕ → Tale ℕ
TellsFirst text = of_bytes text (Writes (first_length (clusters text)))

abbrev pub TellsLast : List ℕ → Tale ℕ
TellsLast text = of_bytes text (Writes (first_length (reverse (clusters text))))

-- clusters one after another, the first of which begins at a place, each with its columns
abbrev pub measured : GraphemeClusterMode → ℕ → List (List ℕ) → List CCluster
measured mode place [] = []
measured mode place (cluster ∷ more) =
    record { from = place; to = place + length cluster; columns = width mode cluster } ∷ measured mode (place + length cluster) more

-- the clusters of a text
abbrev pub TellsClusters : ℕ → List ℕ → Tale (List CCluster × ℕ)
TellsClusters mode text = where_named (mode_of mode) (λ (m : GraphemeClusterMode). of_bytes text (Fills (measured m 0 (clusters text))))

-- a change of C
abbrev pub splice_by : CSplice → Splice
splice_by c = record { from = c.from; old_end = c.old_to; new_end = c.new_to }

-- a change has its ends in order, and leads a place to one that C has a number for
abbrev pub Moves : Splice → Side → ℕ → Type 0
Moves s side place = (s.from ≤ s.old_end) × (s.from ≤ s.new_end) × (moved s side place < 2 ^ 64)

-- where a place stands after a change
abbrev pub TellsMoved : CSplice → ℕ → ℕ → Tale ℕ
TellsMoved change place side = where_named (side_of side) (λ (on : Side).
    told_where (Moves (splice_by change) on place) BadOffset (Writes (Some (moved (splice_by change) on place))))

-- the version 0.1.0 in one number
abbrev pub version : ℕ
version = 0 * 65536 + 1 * 256 + 0

-- what a script prints is written if it was read to its end; a fault that stops it says that memory is out. Only slices say that
-- their reads do not fail.
abbrev pub Prints : List ℕ → Tale (List ℕ × ℕ)
Prints script n out out' =
    ((left whole : List ℕ) × Ran (Some script) (Some left) (Some []) (Some whole) × Fills whole n out out')
    ⊎ ((fault : ScriptFault) × (left whole : List ℕ) × StoppedBy fault (Some script) (Some left) (Some []) (Some whole) × refuses NoMemory n out out')
