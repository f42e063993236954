use Rattle.rl_line.proofs.Common.{ap, ap₂, entry_to_undo, leb, length, new_text, old_text, ◌-◌, ◌∙◌}
use Rattle.rl_line.proofs.Changes.RoomLemmas.{within-one}
use Rattle.rl_line.proofs.change.Change.keeps_to.Goals as goal

pub returns : goal.returns
returns c =
    let e = entry_to_undo c.args.way c.args.self.now in
    ap₂ (λ coming left. leb coming (c.args.limit - left)) (ap length c.texts.ensures.coming)
    (c.saturating_sub.ensures ∙ ap (λ going. c.args.len - going) (ap length c.texts.ensures.going))
    ∙ within-one c.args.len (length (new_text e)) (length (old_text e)) c.args.limit c.requires
