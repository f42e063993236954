use Rattle.std.proofs.Common.{◌≡◌, ℕ, ◌≤◌, Some, slice_get, subst}
use Rattle.rl_base.proofs.Clusters.CellLemmas.{cell-of_place, found-from}
use Rattle.rl_base.specs.Clusters.{clusters}
use Rattle.rl_base.specs.Screen.{cells_of, place_at}
use Rattle.rl_base.proofs.screen.cells_are_found.Goals as goal

pub returns-clause-each : goal.returns-clause-each
returns-clause-each c screen text k place at e = cell-of_place screen text k place at e

pub returns-clause-found : goal.returns-clause-found
returns-clause-found c screen text k place at e =
    subst (λ (x : ℕ × ℕ). (j : ℕ) × (k ≤ j) × (slice_get (cells_of screen text) j ≡ Some (place_at screen text x, x))) (cell-of_place screen text k place at e)
    (found-from screen at 0 (0, screen.prompt) (clusters text) 0 k place e)
