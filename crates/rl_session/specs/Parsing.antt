-- What the readers of parts of a line find.
use Rattle.std.specs.Prelude.{◌≡◌, ℕ, ◌-◌, ◌^◌, ◌<◌, Bool, true, false, List, ◌++◌, length, Option, Some, None, codes, encode_utf8}
use Rattle.std.specs.Char.{IsScalar}
use Rattle.std.specs.Str.{IsUtf8}
use Rattle.std.specs.String.{string_bytes}
use Rattle.rl_session.specs.declared.grammar.ScriptLine.{ScriptLine}
use Rattle.rl_session.specs.declared.grammar.ScriptLine.TheVariants as made
use Rattle.rl_session.specs.Grammar.{Meaning, NewText, Set, Do, RangeText, CountWord, CountAtWord, CountSearch, RangeDirection, Names, NamesMovement, AmountMovement, Says}
use Rattle.rl_session.specs.Spelling.{Escapes, Spells, SpellsChar, word, rest, Numbered, NumberedText}
use Rattle.rl_session.specs.declared.settings.Setting.{Setting}
use Rattle.rl_base.specs.declared.listeners.Direction.{Direction}
use Rattle.rl_base.specs.declared.motion.At.{At}
use Rattle.rl_base.specs.declared.motion.CharSearch.{CharSearch}
use Rattle.rl_base.specs.declared.motion.Movement.{Movement}
use Rattle.rl_base.specs.declared.motion.Word.{Word}
use Rattle.rl_session.specs.declared.session.Command.{Command}
use Rattle.rl_session.specs.declared.session.Command.TheVariants.{Paste, Update, InsertStr, Replace, DeleteRange, Delete, Backspace, DeletePrevWord, DeleteWord, DeleteTo, KillRange, Keep}

-- what a line of the program means
abbrev pub meaning_of : ScriptLine → Meaning
meaning_of (made.NewText text) = NewText (string_bytes text)
meaning_of (made.Set setting) = Set setting
meaning_of (made.Do command) = Do command

-- the bytes begin with the rest of an escape, after its backslash, for the character, and the others follow it
pub record BeginsEscape (bytes : List ℕ) (c : ℕ) (others : List ℕ) : Type 0 where
  pub code : List ℕ
  pub stands : Escapes code c
  pub is : bytes ≡ code ++ others

-- the bytes begin with no escape
abbrev pub BeginsNoEscape : List ℕ → Type 0
BeginsNoEscape bytes = (c : ℕ) (others : List ℕ) → BeginsEscape bytes c others → ⊥

-- the bytes stand for no text
abbrev pub SpellsNothing : List ℕ → Type 0
SpellsNothing bytes = (text : List ℕ) → Spells bytes text → ⊥

-- the bytes stand for a text
abbrev pub SpellsSome : List ℕ → Type 0
SpellsSome bytes = (text : List ℕ) × Spells bytes text

-- the bytes stand for a text that is not empty
abbrev pub SpellsSomeText : List ℕ → Type 0
SpellsSomeText bytes = (text : List ℕ) × Spells bytes text × (0 < length text)

-- the bytes begin with what stands for the text, and the others stand for what follows it
pub record Begins (bytes text others : List ℕ) : Type 0 where
  pub on : (more : List ℕ) → Spells others more → Spells bytes (text ++ more)
  pub only : (whole : List ℕ) → Spells bytes whole → (more : List ℕ) × Spells others more × (whole ≡ text ++ more)

-- the bytes begin with what stands for the character
abbrev pub BeginsChar : List ℕ → ℕ → List ℕ → Type 0
BeginsChar bytes c others = IsScalar c × Begins bytes (encode_utf8 c) others

-- the bytes stand for no single character
abbrev pub SpellsNoChar : List ℕ → Type 0
SpellsNoChar bytes = (c : ℕ) → SpellsChar bytes c → ⊥

-- no number up to the greatest stands before a first space
abbrev pub HasNoNumber : ℕ → List ℕ → Type 0
HasNoNumber greatest given = (n : ℕ) (after : List ℕ) → Numbered greatest given n after → ⊥

-- the bytes begin with no number up to the greatest, or no text follows it
abbrev pub HasNoText : ℕ → List ℕ → Type 0
HasNoText greatest given = (n : ℕ) (text : List ℕ) → NumberedText greatest given n text → ⊥

-- the bytes begin with a number up to the greatest, and a text that is not empty follows it
abbrev pub HasSomeText : ℕ → List ℕ → Type 0
HasSomeText greatest given = (n : ℕ) × (text : List ℕ) × NumberedText greatest given n text × (0 < length text)

-- the bytes are no count and kind of word
abbrev pub HasNoWord : List ℕ → Type 0
HasNoWord given = (n : ℕ) (w : Word) → CountWord given n w → ⊥

-- the bytes are no count, place at a word and kind of word
abbrev pub HasNoAt : List ℕ → Type 0
HasNoAt given = (n : ℕ) (a : At) (w : Word) → CountAtWord given n a w → ⊥

-- the bytes are no count, kind of search and character
abbrev pub HasNoSearch : List ℕ → Type 0
HasNoSearch given = (n : ℕ) (cs : CharSearch) → CountSearch given n cs → ⊥

-- the bytes are no ends of a range and direction
abbrev pub HasNoDirection : List ℕ → Type 0
HasNoDirection given = (a b : ℕ) (side : Direction) → RangeDirection given a b side → ⊥

-- the bytes are no amount to indent by and movement
abbrev pub HasNoMovement : List ℕ → Type 0
HasNoMovement given = (amount : ℕ) (movement : Movement) → AmountMovement given amount movement → ⊥

-- the word names no movement with what stands after it
abbrev pub NamesNothing : List ℕ → Option (List ℕ) → Type 0
NamesNothing word given = (movement : Movement) → Names word given movement → ⊥

-- the bytes name no movement
abbrev pub NamesNoMovement : List ℕ → Type 0
NamesNoMovement bytes = (movement : Movement) → NamesMovement bytes movement → ⊥

-- the word says nothing with what stands after it
abbrev pub SaysNothing : List ℕ → Option (List ℕ) → Type 0
SaysNothing word given = (meaning : Meaning) → Says word given meaning → ⊥

-- the word, with what stands after its space, says a new text or a command that holds a text, and this is the text
pub data SaysText : List ℕ → List ℕ → List ℕ → Type 0 where
  new_text : {bytes text : List ℕ} → Spells bytes text → SaysText (codes "text") bytes text
  pasted : {given text : List ℕ} {n : ℕ} → NumberedText 65535 given n text → SaysText (codes "paste") given text
  updated : {given text : List ℕ} {place : ℕ} → NumberedText (2 ^ 64 - 1) given place text → SaysText (codes "update") given text
  put_in : {given text : List ℕ} {place : ℕ} → NumberedText (2 ^ 64 - 1) given place text → SaysText (codes "str") given text
  kept : {bytes text : List ℕ} → Spells bytes text → SaysText (codes "keep") bytes text
  replaced : {given text : List ℕ} {a b : ℕ} → RangeText given a b text → SaysText (codes "rep") given text

-- the same of a text that is not empty: only this takes memory
abbrev pub HoldsText : List ℕ → List ℕ → Type 0
HoldsText word given = (text : List ℕ) × SaysText word given text × (0 < length text)

-- the same of a line
abbrev pub LineHoldsText : List ℕ → Type 0
LineHoldsText line = IsUtf8 line × (given : List ℕ) × (rest line ≡ Some given) × HoldsText (word line) given

-- whether a command holds a text
abbrev pub holds_text : Command → Bool
holds_text (Paste _ _) = true
holds_text (Update _ _) = true
holds_text (InsertStr _ _) = true
holds_text (Replace _ _ _) = true
holds_text (Keep _) = true
holds_text _ = false

-- the word says no command that holds a text, with what stands after its space
abbrev pub SaysNoTextCommand : List ℕ → List ℕ → Type 0
SaysNoTextCommand word given = (command : Command) → holds_text command ≡ true → Says word (Some given) (Do command) → ⊥

-- whether a command is a deletion by a count or a range, or a kill of a range
abbrev pub deletes : Command → Bool
deletes (DeleteRange _ _) = true
deletes (Delete _) = true
deletes (Backspace _) = true
deletes (DeletePrevWord _ _) = true
deletes (DeleteWord _ _ _) = true
deletes (DeleteTo _ _) = true
deletes (KillRange _ _ _) = true
deletes _ = false

-- the word says no such deletion, with what stands after its space
abbrev pub SaysNoDeletion : List ℕ → List ℕ → Type 0
SaysNoDeletion word given = (command : Command) → deletes command ≡ true → Says word (Some given) (Do command) → ⊥

-- the word says no command without a text, with what stands after its space
abbrev pub SaysNoCommand : List ℕ → List ℕ → Type 0
SaysNoCommand word given = (command : Command) → holds_text command ≡ false → Says word (Some given) (Do command) → ⊥

-- the word says no setting with what stands after its space
abbrev pub SaysNoSetting : List ℕ → List ℕ → Type 0
SaysNoSetting word given = (setting : Setting) → Says word (Some given) (Set setting) → ⊥

-- the word says no command without a text and no setting
abbrev pub SaysNoneWithoutText : List ℕ → List ℕ → Type 0
SaysNoneWithoutText word given = SaysNoCommand word given × SaysNoSetting word given

-- the word says no command if no space follows it
abbrev pub SaysNoLoneCommand : List ℕ → Type 0
SaysNoLoneCommand word = (command : Command) → Says word None (Do command) → ⊥
