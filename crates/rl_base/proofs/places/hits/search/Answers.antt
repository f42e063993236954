use Rattle.rl_base.proofs.Common.{◌≡◌, rules, chosen_hit}
use Rattle.rl_base.proofs.Clusters.SearchLemmas.{IsFound-chosen}
use Rattle.rl_base.proofs.places.hits.search.Goals as goal

pub returns-in-Forward : goal.returns-in-Forward
returns-in-Forward c =
    let value : c.search_ahead.result ≡ chosen_hit c.args.text.now c.args.pos c.args.cs c.args.n = search rules in
    let found = IsFound-chosen c.args.text.now c.args.pos c.args.cs c.args.n _ c.utf8.text c.requires value in
    record { value = value; boundary = found.boundary; stands = found.stands; past = found.past; side = found.side }

pub returns-in-Backward : goal.returns-in-Backward
returns-in-Backward c =
    let value : c.nth_hit_back.result ≡ chosen_hit c.args.text.now c.args.pos c.args.cs c.args.n = search rules in
    let found = IsFound-chosen c.args.text.now c.args.pos c.args.cs c.args.n _ c.utf8.text c.requires value in
    record { value = value; boundary = found.boundary; stands = found.stands; past = found.past; side = found.side }
