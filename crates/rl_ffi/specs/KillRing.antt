-- What the calls do that kill, yank and copy.
use Rattle.std.specs.Prelude.{◌≡◌, ◌⊎◌, ℕ, ◌<◌, ◌≤◌, nat_lt, length, List, Option, Some, None, option_map, unwrap_or, Result, Ok, Err, is_some, if◌then◌else◌}
use Rattle.std.specs.declared.ops.Range.{Range}
use Rattle.rl_base.specs.KillRing.{yank_size}
use Rattle.rl_base.specs.declared.listeners.Direction.TheVariants.{Forward, Backward}
use Rattle.rl_line.specs.Ranges.{text_in}
use Rattle.rl_session.specs.declared.session.Command.{Command}
use Rattle.rl_session.specs.declared.session.Command.TheVariants.{Kill, KillRange, YankPop}
use Rattle.rl_ffi.specs.Answers.{told_or, truth}
use Rattle.rl_ffi.specs.Buffers.{put}
use Rattle.rl_ffi.specs.Calls.{Effect, EffectOut, leaves}
use Rattle.rl_ffi.specs.Commands.{ends_kills, performs, performs_as}
use Rattle.rl_ffi.specs.Reach.{Covers}
use Rattle.rl_ffi.specs.declared.answers.Answer.{Answer}
use Rattle.rl_ffi.specs.declared.answers.Answer.TheVariants.{Done, Nothing, TooSmall}
use Rattle.rl_ffi.specs.declared.reach.Reach.{Reach}
use Rattle.rl_ffi.specs.declared.reach.Reach.TheVariants.{By, To}
use Rattle.rl_ffi.specs.declared.shapes.CMovement.{CMovement}

-- a yank-pop; if it put in nothing, it took the yanked text out, if there was one
abbrev pub pops : Effect
pops s = performs_as (told_or (truth (is_some (yank_size s.pair.ring)))) YankPop s

-- a kill: by a movement, or of what lies between the cursor and where a text was found, which is nothing if it was not
abbrev pub kill_to : ℕ → ℕ → Command
kill_to at cursor = if nat_lt at cursor then KillRange at cursor Backward else KillRange cursor at Forward

abbrev pub kills : Reach → Effect
kills (By m) s = performs (Kill m) s
kills (To found) s = performs (kill_to (unwrap_or found s.line.cursor) s.line.cursor) s

-- a text is handed out, if there is one, and a run of kills ends; of one that does not fit only the length is told
abbrev pub hands_out : Option (List ℕ) → EffectOut (List ℕ × ℕ)
hands_out None s n new outs outs' = (n ≡ Nothing) × ends_kills s new × (outs' ≡ outs)
hands_out (Some text) s n new outs outs' =
    ((length text ≤ length outs.0) × (n ≡ Done) × ends_kills s new × (outs' ≡ (put text outs.0, length text)))
    ⊎ ((length outs.0 < length text) × (n ≡ TooSmall) × (new ≡ s) × (outs' ≡ (outs.0, length text)))

-- what a movement covers is copied
abbrev pub copies_by : Result (Option (Range ℕ)) Answer → EffectOut (List ℕ × ℕ)
copies_by (Err why) s n new outs outs' = leaves why s n new × (outs' ≡ outs)
copies_by (Ok range) s n new outs outs' = hands_out (option_map (text_in s.line) range) s n new outs outs'

abbrev pub copies : CMovement → EffectOut (List ℕ × ℕ)
copies movement s n new outs outs' =
    (range : Result (Option (Range ℕ)) Answer) × Covers s.line.cursor movement s range × copies_by range s n new outs outs'
