use Rattle.rl_base.proofs.Common.{rules, ◌≡◌, Some, first_member, placed_clusters}
use Rattle.rl_base.proofs.Clusters.WordLemmas.{IsCharBoundary-member}
use Rattle.rl_base.proofs.places.words.first_member.Goals as goal

pub returns-then-eq-clause-boundary : goal.returns-then-eq-clause-boundary
returns-then-eq-clause-boundary c =
    let value : Some c.in-Some.place ≡ first_member (placed_clusters c.args.text.now) = search rules in
    IsCharBoundary-member c.args.text.now c.in-Some.place c.utf8.text value
