-- Runs of directed kills, and what one yank gives back of them.
use Rattle.std.specs.Prelude.{◌≡◌, ℕ, ◌+◌, true, List, [], ◌∷◌, ◌++◌, length, Some}
use Rattle.rl_base.specs.KillRing.{yank}
use Rattle.rl_base.specs.declared.kill_ring.Action.{Action}
use Rattle.rl_base.specs.declared.kill_ring.Action.TheVariants.{Kill}
use Rattle.rl_base.specs.declared.listeners.Direction.TheVariants.{Forward, Backward}
use Rattle.rl_base.specs.declared.motion.Movement.{Movement}
use Rattle.rl_base.specs.declared.motion.Movement.TheVariants.{BeginningOfLine, EndOfLine, FirstNonBlank, BackwardWord, ForwardWord, ViCharSearch, BeginningOfBuffer, EndOfBuffer}
use Rattle.rl_line.specs.Line.{Line}
use Rattle.rl_session.specs.Run.{Row}
use Rattle.rl_session.specs.declared.session.Command.{Command}
use Rattle.rl_session.specs.declared.session.Command.TheVariants as asks
use Rattle.rl_session.specs.declared.session.Reply.{Reply}
use Rattle.rl_session.specs.declared.session.Reply.TheVariants as says
use Rattle.rl_session.specs.State.{State}

-- the movements whose kills take text that touches the cursor, on the side of their direction
abbrev pub IsDirected : Movement → Type 0
IsDirected BeginningOfLine = Unit {0}
IsDirected EndOfLine = Unit {0}
IsDirected FirstNonBlank = Unit {0}
IsDirected (BackwardWord _ _) = Unit {0}
IsDirected (ForwardWord _ _ _) = Unit {0}
IsDirected (ViCharSearch _ _) = Unit {0}
IsDirected BeginningOfBuffer = Unit {0}
IsDirected EndOfBuffer = Unit {0}
IsDirected _ = ⊥

abbrev pub AllDirected : List Movement → Type 0
AllDirected [] = Unit {0}
AllDirected (m ∷ ms) = IsDirected m × AllDirected ms

-- a kill that takes text which touches the cursor, on the side of its direction: by a directed movement, or of a range that
-- begins at the cursor, or ends there
abbrev pub IsDirectedKill : Line → Command → Type 0
IsDirectedKill line (asks.Kill m) = IsDirected m
IsDirectedKill line (asks.KillRange i j Forward) = i ≡ line.cursor
IsDirectedKill line (asks.KillRange i j Backward) = j ≡ line.cursor
IsDirectedKill line _ = ⊥

-- all rows are of such kills
abbrev pub AllKill : List Row → Type 0
AllKill [] = Unit {0}
AllKill (row ∷ rows) = IsDirectedKill row.before.line row.command × AllKill rows

-- the ring's last action is no kill
abbrev pub IsNoKill : Action → Type 0
IsNoKill Kill = ⊥
IsNoKill _ = Unit {0}

-- a command did something
abbrev pub AnyTook : List Reply → Type 0
AnyTook [] = ⊥
AnyTook (says.Answer true ∷ replies) = Unit {0}
AnyTook (_ ∷ replies) = AnyTook replies

-- no command was refused
abbrev pub NoneRefused : List Reply → Type 0
NoneRefused [] = Unit {0}
NoneRefused (says.Refused _ ∷ replies) = ⊥
NoneRefused (_ ∷ replies) = NoneRefused replies

-- new has the text of old; what was yanked went in where the cursor was in mid, and the cursor stands at its end
pub record GivenBack (old mid new : State) : Type 0 where
  pub text_is : new.line.text ≡ old.line.text
  pub yanked : List ℕ
  pub slot_is : yank new.pair.ring ≡ Some yanked
  pub front : List ℕ
  pub after : List ℕ
  pub left : mid.line.text ≡ front ++ after
  pub place : mid.line.cursor ≡ length front
  pub stands : new.line.text ≡ front ++ (yanked ++ after)
  pub cursor_is : new.line.cursor ≡ length front + length yanked
