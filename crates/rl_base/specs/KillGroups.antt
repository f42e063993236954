-- The groups of consecutive kills, which the slots of a ring stand for.
use Rattle.std.specs.Prelude.{ℕ, ⊤, Bool, true, false, List, [], ◌∷◌}
use Rattle.rl_base.specs.declared.kill_ring.Mode.{Mode}
use Rattle.rl_base.specs.declared.listeners.Direction.{Direction}
use Rattle.rl_base.specs.Event.{Event, InsertChar, InsertStr, Delete, Replace, Start, Stop, Cursors}
use Rattle.rl_base.specs.KillRing.{Ring, joined, side_mode, killed, reset, yanked, yank_popped, cleared, ring_step}

-- what is done with a ring
pub data Doing : Type 0 where
  Kills : (text : List ℕ) (mode : Mode) → Doing
  Resets : Doing
  Yanks : Doing
  Pops : Doing
  Clears : Doing
  Hears : (event : Event) → Doing

-- the ring after one of these
abbrev pub ring_do : Doing → Ring → Ring
ring_do (Kills text mode) r = killed text mode r
ring_do Resets r = reset r
ring_do Yanks r = yanked r
ring_do Pops r = yank_popped r
ring_do Clears r = cleared r
ring_do (Hears event) r = ring_step r event

-- the ring after all of them, in order
abbrev pub ring_done : List Doing → Ring → Ring
ring_done [] r = r
ring_done (d ∷ ds) r = ring_done ds (ring_do d r)

-- every group there was since the ring was cleared last, the newest first; whether the next kill still belongs to the newest; and whether a kill is on
pub record Groups : Type 0 where
  pub groups : List (List ℕ)
  pub growing : Bool
  pub killing : Bool

-- before any kill
abbrev pub no_groups : Groups
no_groups = record { groups = []; growing = false; killing = false }

-- the groups after a kill, by whether the newest still grows
abbrev pub grown : Bool → List ℕ → Mode → List (List ℕ) → List (List ℕ)
grown false text mode gs = text ∷ gs
grown true text mode [] = text ∷ []
grown true text mode (g ∷ gs) = joined mode g text ∷ gs

-- the groups after a kill; the next kill belongs to the newest
abbrev pub with_kill : List ℕ → Mode → Groups → Groups
with_kill text mode g = record g { groups = grown g.growing text mode g.groups; growing = true }

-- the groups after a deletion, by whether a kill is on
abbrev pub with_deletion : Bool → List ℕ → Direction → Groups → Groups
with_deletion false text side g = g
with_deletion true text side g = with_kill text (side_mode side) g

-- the groups after an event
abbrev pub group_step : Groups → Event → Groups
group_step g (Delete _ text side) = with_deletion g.killing text side g
group_step g Start = record g { killing = true }
group_step g Stop = record g { killing = false }
group_step g (InsertChar _ _) = g
group_step g (InsertStr _ _) = g
group_step g (Replace _ _ _) = g
group_step g (Cursors _ _) = g

-- the groups after one doing: a reset or a yank closes the newest, and a yank_pop finds it closed
abbrev pub group_do : Doing → Groups → Groups
group_do (Kills text mode) g = with_kill text mode g
group_do Resets g = record g { growing = false }
group_do Yanks g = record g { growing = false }
group_do Pops g = g
group_do Clears g = record g { groups = []; growing = false }
group_do (Hears event) g = group_step g event

-- the groups after all doings, in order
abbrev pub group_done : List Doing → Groups → Groups
group_done [] g = g
group_done (d ∷ ds) g = group_done ds (group_do d g)

-- the groups of a list of doings, the newest first
abbrev pub groups_of : List Doing → List (List ℕ)
groups_of ds = (group_done ds no_groups).groups

-- no yank_pop
abbrev pub NoPops : List Doing → Type 0
NoPops [] = ⊤
NoPops (Pops ∷ ds) = ⊥
NoPops (Kills text mode ∷ ds) = NoPops ds
NoPops (Resets ∷ ds) = NoPops ds
NoPops (Yanks ∷ ds) = NoPops ds
NoPops (Clears ∷ ds) = NoPops ds
NoPops (Hears event ∷ ds) = NoPops ds

-- kills and nothing else
abbrev pub AllKills : List Doing → Type 0
AllKills [] = ⊤
AllKills (Kills text mode ∷ ds) = AllKills ds
AllKills (Resets ∷ ds) = ⊥
AllKills (Yanks ∷ ds) = ⊥
AllKills (Pops ∷ ds) = ⊥
AllKills (Clears ∷ ds) = ⊥
AllKills (Hears event ∷ ds) = ⊥

-- the texts of kills, joined to a first one
abbrev pub all_joined : List ℕ → List Doing → List ℕ
all_joined text [] = text
all_joined text (Kills more mode ∷ ds) = all_joined (joined mode text more) ds
all_joined text (_ ∷ ds) = all_joined text ds
