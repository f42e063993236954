-- The history of a session: where its record stands among the texts that it held, and the rows of which its laws speak.
use Rattle.std.specs.Prelude.{◌≡◌, ◌⊎◌, ◌<◌, ℕ, suc, List, [], ◌∷◌, ◌++◌, reverse, Some}
use Rattle.std.specs.Str.{IsUtf8}
use Rattle.rl_line.specs.Line.{Line}
use Rattle.rl_line.specs.Entry.{Entry, replay_entries}
use Rattle.rl_record.specs.Record.{Record}
use Rattle.rl_record.specs.Units.{BothMatched, level}
use Rattle.rl_session.specs.declared.session.Command.{Command}
use Rattle.rl_session.specs.declared.session.Command.TheVariants.{Abandon, End, EndOne, Kill, Redo, Truncate, Undo, Yank, YankPop, KillRange}
use Rattle.rl_session.specs.declared.session.Reply.{Reply}
use Rattle.rl_session.specs.declared.session.Reply.TheVariants as says
use Rattle.rl_session.specs.Commands.{Asked, asked, edit, other}
use Rattle.rl_session.specs.Run.{Row}
use Rattle.rl_session.specs.State.{State}

-- a text stands in a list of texts, right after these
pub record StandsAfter (before : List (List ℕ)) (text : List ℕ) (held : List (List ℕ)) : Type 0 where
  pub rest : List (List ℕ)
  pub is : held ≡ before ++ text ∷ rest

-- a text is one of those that were held
abbrev pub WasHeld : List ℕ → List (List ℕ) → Type 0
WasHeld text held = (before : List (List ℕ)) × StandsAfter before text held

-- entries, the last first: a prefix of the held texts ends with the text to which they lead, and the entries before the
-- last one are placed in that prefix
abbrev pub PlacedBack : List ℕ → List Entry → List (List ℕ) → Type 0
PlacedBack start [] held = WasHeld start held
PlacedBack start (e ∷ es) held =
    (before : List (List ℕ)) × (text : List ℕ) × StandsAfter before text held
    × (replay_entries (reverse (e ∷ es)) start ≡ Some text) × PlacedBack start es (before ++ text ∷ [])

-- each prefix of the entries leads from the start to a held text, and no place goes back
abbrev pub Placed : List ℕ → List Entry → List (List ℕ) → Type 0
Placed start es held = PlacedBack start (reverse es) held

-- the history of a text: the record leads from the start to it, through texts that were held
pub record History (start : List ℕ) (held : List (List ℕ)) (text : List ℕ) (r : Record) : Type 0 where
  pub is_text : IsUtf8 start
  pub leads : replay_entries r.recorded start ≡ Some text
  pub placed : Placed start (r.recorded ++ r.pending) held
  pub matched : BothMatched r

-- the same of a state, if these texts were held by then
abbrev pub Holds : List ℕ → List (List ℕ) → State → Type 0
Holds start held s = History start held s.line.text s.pair.changes

-- a command was refused
abbrev pub WasRefused : Reply → Type 0
WasRefused (says.Refused _) = Unit {0}
WasRefused _ = ⊥

-- the command is in the table of the edits
abbrev pub IsAsked : Asked → Type 0
IsAsked (edit _ _ _ _) = Unit {0}
IsAsked other = ⊥

-- an edit: one of the table, a kill or a yank
abbrev pub IsEdit : Line → Command → Type 0
IsEdit line (Kill _) = Unit {0}
IsEdit line (KillRange _ _ _) = Unit {0}
IsEdit line (Yank _) = Unit {0}
IsEdit line YankPop = Unit {0}
IsEdit line command = IsAsked (asked line command)

-- what may happen inside a group: an end or a truncation only if it was refused, and an undo, or the end or the abandon of one
-- group, if it was or if the group itself stays open. Before its begin `below` groups were open, and `now` are after the row.
abbrev pub MayStandInGroup : (below now : ℕ) → Command → Reply → Type 0
MayStandInGroup below now End reply = WasRefused reply
MayStandInGroup below now EndOne reply = WasRefused reply ⊎ (below < now)
MayStandInGroup below now (Undo _) reply = WasRefused reply ⊎ (below < now)
MayStandInGroup below now Abandon reply = WasRefused reply ⊎ (below < now)
MayStandInGroup below now (Truncate _) reply = WasRefused reply
MayStandInGroup below now _ _ = Unit {0}

-- all rows may stand in such a group
abbrev pub AllStandInGroup : ℕ → List Row → Type 0
AllStandInGroup below [] = Unit {0}
AllStandInGroup below (row ∷ rows) =
    MayStandInGroup below (level row.after.pair.changes.recorded) row.command row.reply × AllStandInGroup below rows

-- what closes such a group, if `now` groups are open: the end of all if none was open before its begin, or the end of one
-- if all that were begun inside are closed
abbrev pub ClosesGroup : (below now : ℕ) → Command → Type 0
ClosesGroup below now End = below ≡ 0
ClosesGroup below now EndOne = now ≡ suc below
ClosesGroup below now _ = ⊥

-- all rows are of redos, and none was refused
abbrev pub AllRedone : List Row → Type 0
AllRedone [] = Unit {0}
AllRedone (row ∷ rows) = (row.command ≡ Redo) × (¬ (WasRefused row.reply)) × AllRedone rows
