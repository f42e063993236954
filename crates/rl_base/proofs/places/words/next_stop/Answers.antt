use Rattle.rl_base.proofs.Common.{◌≡◌, ℕ, List, Option, Some, sym, ap, ◌∙◌, option_or, At, Word, PlacedCluster, nth, stops, looked_at, placed_clusters, last_stop}
use Rattle.rl_base.proofs.Clusters.WordLemmas.{IsCharBoundary-stop}
use Rattle.rl_base.proofs.places.words.next_stop.Goals as goal

-- the stop among the clusters looked at
asked : (text : List ℕ) (at : At) (word : Word) (n : ℕ) (left : List PlacedCluster) (stop : Option ℕ) → left ≡ looked_at at (placed_clusters text) → stop ≡ nth n (stops at word left)
    → stop ≡ nth n (stops at word (looked_at at (placed_clusters text)))
asked text at word n left stop e f = f ∙ ap (λ l. nth n (stops at word l)) e

pub returns-in-Some : goal.returns-in-Some
returns-in-Some c =
    let found : Some c.in-Some.stop ≡ nth c.args.n (stops c.args.at c.args.word (looked_at c.args.at (placed_clusters c.args.text.now))) =
    asked c.args.text.now c.args.at c.args.word c.args.n _ _ c.looked_at.ensures (sym c.in-Some.is ∙ c.nth_stop.ensures) in
    record {
      value = ap (λ o. option_or o (last_stop c.args.at c.args.word c.args.n c.args.text.now)) found;
      boundary = IsCharBoundary-stop c.args.text.now c.args.at c.args.word c.args.n c.in-Some.stop c.utf8.text found;
    }

pub returns-clause-value : goal.returns-clause-value
returns-clause-value c =
    let none = asked c.args.text.now c.args.at c.args.word c.args.n _ _ c.looked_at.ensures (sym c.in_default.is ∙ c.nth_stop.ensures) in
    c.last_stop.ensures.value ∙ ap (λ o. option_or o (last_stop c.args.at c.args.word c.args.n c.args.text.now)) none
