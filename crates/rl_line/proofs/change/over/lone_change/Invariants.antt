use Rattle.rl_line.proofs.Common.{drop, entry_of, map, option_copied, option_map, option_to_list, ◌++◌, ◌≡◌}
use Rattle.rl_line.specs.Entry.{changes_of}
use Rattle.rl_line.proofs.change.over.lone_change.Given as goal

-- the one that was found, and the changes that are left, are all
abbrev pub invariant-loop-entry : goal.invariant-loop-entry
invariant-loop-entry l = option_to_list (option_map entry_of (option_copied l.lone)) ++ changes_of (map entry_of (drop l.entry-index l.entries)) ≡ changes_of (map entry_of l.entries)
