-- What a line of a script means.
use Rattle.std.specs.Prelude.{◌≡◌, ℕ, ◌-◌, ◌^◌, true, false, List, [], Option, Some, None, codes, String}
use Rattle.std.specs.Str.{IsUtf8}
use Rattle.std.specs.String.{string_bytes}
use Rattle.std.specs.declared.alloc.Global.{Global}
use Rattle.rl_session.specs.Spelling.{number_of, Spells, SpellsChar, SpellsRest, word, rest, Numbered, NumberedText}
use Rattle.rl_session.specs.declared.session.Command.{Command}
use Rattle.rl_session.specs.declared.session.Command.TheVariants.{SetPos, Move, Insert, Paste, Yank, YankPop, Update, InsertStr, Replace, DeleteRange, Delete, Backspace, KillLine, KillBuffer, DiscardLine, DiscardBuffer, DeletePrevWord, DeleteWord, DeleteTo, TransposeChars, TransposeWords, EditWord, Kill, Copy, Indent, Begin, End, EndOne, Undo, Redo, Truncate, LinePlace, KillRange, Keep, Part, Reopen, Abandon, KeepUndone}
use Rattle.rl_session.specs.declared.settings.Setting.{Setting}
use Rattle.rl_session.specs.declared.settings.Setting.TheVariants.{Limit, RingSize, Mode}
use Rattle.rl_base.specs.declared.layout.GraphemeClusterMode.{GraphemeClusterMode}
use Rattle.rl_base.specs.declared.layout.GraphemeClusterMode.TheVariants.{Unicode, WcWidth, NoZwj}
use Rattle.rl_base.specs.declared.listeners.Direction.{Direction}
use Rattle.rl_base.specs.declared.listeners.Direction.TheVariants as told
use Rattle.rl_base.specs.declared.motion.At.{At}
use Rattle.rl_base.specs.declared.motion.At.TheVariants.{Start, BeforeEnd, AfterEnd}
use Rattle.rl_base.specs.declared.motion.CharSearch.{CharSearch}
use Rattle.rl_base.specs.declared.motion.CharSearch.TheVariants.{Forward, ForwardBefore, Backward, BackwardAfter}
use Rattle.rl_base.specs.declared.motion.Movement.{Movement}
use Rattle.rl_base.specs.declared.motion.Movement.TheVariants.{WholeLine, BeginningOfLine, EndOfLine, BackwardWord, ForwardWord, ViCharSearch, ViFirstPrint, FirstNonBlank, BackwardChar, ForwardChar, LineUp, LineDown, WholeLinesUp, WholeLinesDown, WholeBuffer, BeginningOfBuffer, EndOfBuffer}
use Rattle.rl_base.specs.declared.motion.Word.{Word}
use Rattle.rl_base.specs.declared.motion.Word.TheVariants.{Big, Emacs, Vi}
use Rattle.rl_base.specs.declared.motion.WordAction.{WordAction}
use Rattle.rl_base.specs.declared.motion.WordAction.TheVariants.{Capitalize, Lowercase, Uppercase}

-- a line gives a new text, a setting, or a command
pub data Meaning : Type 0 where
  NewText : (text : List ℕ) → Meaning
  Set : (setting : Setting) → Meaning
  Do : (command : Command) → Meaning

-- the words for kinds of word
pub data NamesWord : List ℕ → Word → Type 0 where
  big : NamesWord (codes "big") Big
  emacs : NamesWord (codes "emacs") Emacs
  vi : NamesWord (codes "vi") Vi

-- the words for where a motion to the next word stops
pub data NamesAt : List ℕ → At → Type 0 where
  start : NamesAt (codes "start") Start
  before : NamesAt (codes "before") BeforeEnd
  after : NamesAt (codes "after") AfterEnd

-- the letters for searches for a character
pub data NamesSearch : List ℕ → ℕ → CharSearch → Type 0 where
  onto : {c : ℕ} → NamesSearch (codes "f") c (Forward c)
  till : {c : ℕ} → NamesSearch (codes "t") c (ForwardBefore c)
  back_onto : {c : ℕ} → NamesSearch (codes "F") c (Backward c)
  back_till : {c : ℕ} → NamesSearch (codes "T") c (BackwardAfter c)

-- the letters for the direction of a kill
pub data NamesDirection : List ℕ → Direction → Type 0 where
  ahead : NamesDirection (codes "f") told.Forward
  backward : NamesDirection (codes "b") told.Backward

-- the words for changes of the letter case
pub data NamesAction : List ℕ → WordAction → Type 0 where
  cap : NamesAction (codes "cap") Capitalize
  low : NamesAction (codes "low") Lowercase
  upper : NamesAction (codes "up") Uppercase

-- the words for how columns are measured
pub data NamesMode : List ℕ → GraphemeClusterMode → Type 0 where
  unicode : NamesMode (codes "unicode") Unicode
  wcwidth : NamesMode (codes "wcwidth") WcWidth
  nozwj : NamesMode (codes "nozwj") NoZwj

-- a count and a kind of word
pub record CountWord (given : List ℕ) (n : ℕ) (w : Word) : Type 0 where
  pub kind : List ℕ
  pub counted : Numbered 65535 given n kind
  pub named : NamesWord kind w

-- a count, a place at a word and a kind of word
pub record CountAtWord (given : List ℕ) (n : ℕ) (a : At) (w : Word) : Type 0 where
  pub after : List ℕ
  pub kind : List ℕ
  pub counted : Numbered 65535 given n after
  pub placed : NamesAt (word after) a
  pub on : rest after ≡ Some kind
  pub named : NamesWord kind w

-- a count, a kind of search and a character
pub record CountSearch (given : List ℕ) (n : ℕ) (cs : CharSearch) : Type 0 where
  pub after : List ℕ
  pub bytes : List ℕ
  pub c : ℕ
  pub counted : Numbered 65535 given n after
  pub on : rest after ≡ Some bytes
  pub char : SpellsChar bytes c
  pub named : NamesSearch (word after) c cs

-- the words for movements, each with its argument: None if no space follows, or Some of what stands after the space
pub data Names : List ℕ → Option (List ℕ) → Movement → Type 0 where
  whole : Names (codes "line") None WholeLine
  home : Names (codes "home") None BeginningOfLine
  eol : Names (codes "eol") None EndOfLine
  bword : {given : List ℕ} {n : ℕ} {w : Word} → CountWord given n w → Names (codes "bword") (Some given) (BackwardWord n w)
  fword : {given : List ℕ} {n : ℕ} {a : At} {w : Word} → CountAtWord given n a w → Names (codes "fword") (Some given) (ForwardWord n a w)
  find : {given : List ℕ} {n : ℕ} {cs : CharSearch} → CountSearch given n cs → Names (codes "find") (Some given) (ViCharSearch n cs)
  first : Names (codes "first") None ViFirstPrint
  nonblank : Names (codes "nonblank") None FirstNonBlank
  bchar : {digits : List ℕ} {n : ℕ} → number_of 65535 digits ≡ Some n → Names (codes "bchar") (Some digits) (BackwardChar n)
  fchar : {digits : List ℕ} {n : ℕ} → number_of 65535 digits ≡ Some n → Names (codes "fchar") (Some digits) (ForwardChar n)
  up : {digits : List ℕ} {n : ℕ} → number_of 65535 digits ≡ Some n → Names (codes "up") (Some digits) (LineUp n)
  down : {digits : List ℕ} {n : ℕ} → number_of 65535 digits ≡ Some n → Names (codes "down") (Some digits) (LineDown n)
  linesup : {digits : List ℕ} {n : ℕ} → number_of 65535 digits ≡ Some n → Names (codes "linesup") (Some digits) (WholeLinesUp n)
  linesdown : {digits : List ℕ} {n : ℕ} → number_of 65535 digits ≡ Some n → Names (codes "lines") (Some digits) (WholeLinesDown n)
  buf : Names (codes "buf") None WholeBuffer
  bob : Names (codes "bob") None BeginningOfBuffer
  eob : Names (codes "eob") None EndOfBuffer

-- the movement that the bytes name, by a word and its argument
abbrev pub NamesMovement : List ℕ → Movement → Type 0
NamesMovement bytes movement = Names (word bytes) (rest bytes) movement

-- an amount to indent by and a movement
pub record AmountMovement (given : List ℕ) (amount : ℕ) (movement : Movement) : Type 0 where
  pub after : List ℕ
  pub amounts : Numbered 255 given amount after
  pub named : NamesMovement after movement

-- the ends of a range and a text
pub record RangeText (given : List ℕ) (a b : ℕ) (text : List ℕ) : Type 0 where
  pub after : List ℕ
  pub starts : Numbered (2 ^ 64 - 1) given a after
  pub ends : NumberedText (2 ^ 64 - 1) after b text

-- the ends of a range and the direction of a kill
pub record RangeDirection (given : List ℕ) (a b : ℕ) (side : Direction) : Type 0 where
  pub after : List ℕ
  pub letter : List ℕ
  pub starts : Numbered (2 ^ 64 - 1) given a after
  pub ends : Numbered (2 ^ 64 - 1) after b letter
  pub named : NamesDirection letter side

-- the words that begin a line, each with its argument
pub data Says : List ℕ → Option (List ℕ) → Meaning → Type 0 where
  no_text : Says (codes "text") None (NewText [])
  text : {bytes text : List ℕ} → Spells bytes text → Says (codes "text") (Some bytes) (NewText text)
  pos : {digits : List ℕ} {place : ℕ} → number_of (2 ^ 64 - 1) digits ≡ Some place → Says (codes "pos") (Some digits) (Do (SetPos place))
  move : {bytes : List ℕ} {movement : Movement} → NamesMovement bytes movement → Says (codes "move") (Some bytes) (Do (Move movement))
  ins : {given bytes : List ℕ} {c n : ℕ} → Numbered 65535 given n bytes → SpellsChar bytes c → Says (codes "ins") (Some given) (Do (Insert c n))
  paste : {given : List ℕ} {n : ℕ} {t : String Global} → NumberedText 65535 given n (string_bytes t) → Says (codes "paste") (Some given) (Do (Paste t n))
  yank : {digits : List ℕ} {n : ℕ} → number_of 65535 digits ≡ Some n → Says (codes "yank") (Some digits) (Do (Yank n))
  yankpop : Says (codes "yankpop") None (Do YankPop)
  update : {given : List ℕ} {place : ℕ} {t : String Global} → NumberedText (2 ^ 64 - 1) given place (string_bytes t)
      → Says (codes "update") (Some given) (Do (Update t place))
  str : {given : List ℕ} {place : ℕ} {t : String Global} → NumberedText (2 ^ 64 - 1) given place (string_bytes t)
      → Says (codes "str") (Some given) (Do (InsertStr place t))
  rep : {given : List ℕ} {a b : ℕ} {t : String Global} → RangeText given a b (string_bytes t) → Says (codes "rep") (Some given) (Do (Replace a b t))
  range : {given digits : List ℕ} {a b : ℕ} → Numbered (2 ^ 64 - 1) given a digits → number_of (2 ^ 64 - 1) digits ≡ Some b
      → Says (codes "range") (Some given) (Do (DeleteRange a b))
  del : {digits : List ℕ} {n : ℕ} → number_of 65535 digits ≡ Some n → Says (codes "del") (Some digits) (Do (Delete n))
  back : {digits : List ℕ} {n : ℕ} → number_of 65535 digits ≡ Some n → Says (codes "back") (Some digits) (Do (Backspace n))
  killline : Says (codes "killline") None (Do KillLine)
  killbuf : Says (codes "killbuf") None (Do KillBuffer)
  discline : Says (codes "discline") None (Do DiscardLine)
  discbuf : Says (codes "discbuf") None (Do DiscardBuffer)
  prevword : {given : List ℕ} {n : ℕ} {w : Word} → CountWord given n w → Says (codes "prevword") (Some given) (Do (DeletePrevWord w n))
  nextword : {given : List ℕ} {n : ℕ} {a : At} {w : Word} → CountAtWord given n a w → Says (codes "nextword") (Some given) (Do (DeleteWord a w n))
  to : {given : List ℕ} {n : ℕ} {cs : CharSearch} → CountSearch given n cs → Says (codes "to") (Some given) (Do (DeleteTo cs n))
  tchars : Says (codes "tchars") None (Do TransposeChars)
  twords : {digits : List ℕ} {n : ℕ} → number_of 65535 digits ≡ Some n → Says (codes "twords") (Some digits) (Do (TransposeWords n))
  cased : {bytes : List ℕ} {action : WordAction} → NamesAction bytes action → Says (codes "case") (Some bytes) (Do (EditWord action))
  kill : {bytes : List ℕ} {movement : Movement} → NamesMovement bytes movement → Says (codes "kill") (Some bytes) (Do (Kill movement))
  killrange : {given : List ℕ} {a b : ℕ} {side : Direction} → RangeDirection given a b side → Says (codes "killrange") (Some given) (Do (KillRange a b side))
  keep : {given : Option (List ℕ)} {t : String Global} → SpellsRest given (string_bytes t) → Says (codes "keep") given (Do (Keep t))
  copy : {bytes : List ℕ} {movement : Movement} → NamesMovement bytes movement → Says (codes "copy") (Some bytes) (Do (Copy movement))
  indent : {given : List ℕ} {amount : ℕ} {movement : Movement} → AmountMovement given amount movement
      → Says (codes "indent") (Some given) (Do (Indent movement amount false))
  dedent : {given : List ℕ} {amount : ℕ} {movement : Movement} → AmountMovement given amount movement
      → Says (codes "dedent") (Some given) (Do (Indent movement amount true))
  part : Says (codes "part") None (Do Part)
  begin : Says (codes "begin") None (Do Begin)
  end : Says (codes "end") None (Do End)
  endone : Says (codes "endone") None (Do EndOne)
  reopen : Says (codes "reopen") None (Do Reopen)
  abandon : Says (codes "abandon") None (Do Abandon)
  keepundone : Says (codes "keepundone") None (Do KeepUndone)
  undo : {digits : List ℕ} {n : ℕ} → number_of 65535 digits ≡ Some n → Says (codes "undo") (Some digits) (Do (Undo n))
  redo : Says (codes "redo") None (Do Redo)
  trunc : {digits : List ℕ} {len : ℕ} → number_of (2 ^ 64 - 1) digits ≡ Some len → Says (codes "trunc") (Some digits) (Do (Truncate len))
  line_place : Says (codes "where") None (Do LinePlace)
  limit : {digits : List ℕ} {size : ℕ} → number_of (2 ^ 64 - 1) digits ≡ Some size → Says (codes "limit") (Some digits) (Set (Limit size))
  ring : {digits : List ℕ} {size : ℕ} → number_of (2 ^ 64 - 1) digits ≡ Some size → Says (codes "ring") (Some digits) (Set (RingSize size))
  mode : {bytes : List ℕ} {m : GraphemeClusterMode} → NamesMode bytes m → Says (codes "mode") (Some bytes) (Set (Mode m))

-- what a line, without its newline, means
abbrev pub Means : List ℕ → Meaning → Type 0
Means line meaning = IsUtf8 line × Says (word line) (rest line) meaning

-- the line means nothing
abbrev pub MeansNothing : List ℕ → Type 0
MeansNothing line = (meaning : Meaning) → Means line meaning → ⊥

-- Two meanings are the same. Texts that commands hold are compared by their bytes, not by the room that they have in memory.
pub data Same : Meaning → Meaning → Type 0 where
  same : {m n : Meaning} → m ≡ n → Same m n
  pastes : {s t : String Global} {n : ℕ} → string_bytes s ≡ string_bytes t → Same (Do (Paste s n)) (Do (Paste t n))
  updates : {s t : String Global} {place : ℕ} → string_bytes s ≡ string_bytes t → Same (Do (Update s place)) (Do (Update t place))
  puts_in : {s t : String Global} {place : ℕ} → string_bytes s ≡ string_bytes t → Same (Do (InsertStr place s)) (Do (InsertStr place t))
  keeps : {s t : String Global} → string_bytes s ≡ string_bytes t → Same (Do (Keep s)) (Do (Keep t))
  replaces : {s t : String Global} {a b : ℕ} → string_bytes s ≡ string_bytes t → Same (Do (Replace a b s)) (Do (Replace a b t))
