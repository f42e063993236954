-- What the numbers of the calls stand for.
use Rattle.std.specs.Prelude.{ℕ, ◌-◌, ◌^◌, unwrap_or, ◌==◌, ◌||◌, nat_le, nat_lt, Bool, true, false, Option, Some, None, Result, Ok, Err, if◌then◌else◌}
use Rattle.std.specs.Int.{is_in_range}
use Rattle.std.specs.Option.{option_map}
use Rattle.rl_base.specs.declared.layout.GraphemeClusterMode.{GraphemeClusterMode}
use Rattle.rl_base.specs.declared.layout.GraphemeClusterMode.TheVariants.{Unicode, WcWidth, NoZwj}
use Rattle.rl_base.specs.declared.listeners.Direction.{Direction}
use Rattle.rl_base.specs.declared.listeners.Direction.TheVariants as told
use Rattle.rl_base.specs.declared.motion.At.TheVariants.{Start, BeforeEnd, AfterEnd}
use Rattle.rl_base.specs.declared.motion.CharSearch.TheVariants.{Forward, ForwardBefore, Backward, BackwardAfter}
use Rattle.rl_base.specs.declared.motion.Movement.{Movement}
use Rattle.rl_base.specs.declared.motion.Movement.TheVariants.{WholeLine, BeginningOfLine, EndOfLine, BackwardWord, ForwardWord, ViCharSearch, FirstNonBlank, BackwardChar, ForwardChar, LineUp, LineDown, WholeLinesUp, WholeLinesDown, WholeBuffer, BeginningOfBuffer, EndOfBuffer}
use Rattle.rl_base.specs.declared.motion.Word.TheVariants.{Big, Emacs, Vi}
use Rattle.rl_base.specs.declared.motion.WordAction.{WordAction}
use Rattle.rl_base.specs.declared.motion.WordAction.TheVariants.{Capitalize, Lowercase, Uppercase}
use Rattle.rl_base.specs.declared.reports.ReportKind.{ReportKind}
use Rattle.rl_base.specs.declared.reports.ReportKind.TheVariants as kind
use Rattle.rl_base.specs.declared.splice.Side.{Side}
use Rattle.rl_base.specs.declared.splice.Side.TheVariants as side
use Rattle.rl_ffi.specs.declared.answers.Answer.{Answer}
use Rattle.rl_ffi.specs.declared.answers.Answer.TheVariants.{NoSuchNumber, Nothing}
use Rattle.rl_ffi.specs.declared.shapes.CMovement.{CMovement}

abbrev pub kind_number : ReportKind → ℕ
kind_number kind.CharInserted = 1
kind_number kind.TextInserted = 2
kind_number kind.DeletedForward = 3
kind_number kind.DeletedBackward = 4
kind_number kind.Replaced = 5
kind_number kind.KillStarted = 6
kind_number kind.KillStopped = 7
kind_number kind.Folded = 8

-- what a number names, if it names something
abbrev pub named : {A : Type 0} → Option A → Result A Answer
named None = Err NoSuchNumber
named (Some x) = Ok x

-- a place or a column that may be left out: the greatest number stands for none; and the number of one
abbrev pub given_of : ℕ → Option ℕ
given_of number = if number == 2 ^ 64 - 1 then None else Some number

abbrev pub number_of_given : Option ℕ → ℕ
number_of_given given = unwrap_or given (2 ^ 64 - 1)

-- a number of columns, which has 16 bits; how much an indent inserts or deletes, which has 8
abbrev pub unit_of : ℕ → Result ℕ Answer
unit_of n = if nat_le n 65535 then Ok n else Err NoSuchNumber

abbrev pub amount_of : ℕ → Result ℕ Answer
amount_of n = if nat_le n 255 then Ok n else Err NoSuchNumber

-- a count, which has 16 bits. No times is nothing to do
abbrev pub count_of : ℕ → Result ℕ Answer
count_of n = if n == 0 then Err Nothing else if nat_le n 65535 then Ok n else Err NoSuchNumber

-- a character's number: a Unicode scalar value
abbrev pub scalar : ℕ → Option ℕ
scalar c = if nat_lt c 0xD800 || is_in_range 0xE000 0x10_FFFF c then Some c else None

abbrev pub char_of : ℕ → Result ℕ Answer
char_of c = named (scalar c)

abbrev pub case_of : ℕ → Result WordAction Answer
case_of k = if k == 60 then Ok Capitalize else if k == 61 then Ok Lowercase else if k == 62 then Ok Uppercase else Err NoSuchNumber

abbrev pub mode_number : GraphemeClusterMode → ℕ
mode_number Unicode = 0
mode_number WcWidth = 11
mode_number NoZwj = 12

abbrev pub mode_of : ℕ → Result GraphemeClusterMode Answer
mode_of k = if k == 0 then Ok Unicode else if k == 11 then Ok WcWidth else if k == 12 then Ok NoZwj else Err NoSuchNumber

-- whether the direction of an indent means dedent
abbrev pub dedents_of : ℕ → Result Bool Answer
dedents_of k = if k == 70 then Ok false else if k == 71 then Ok true else Err NoSuchNumber

-- the direction of a kill
abbrev pub direction_of : ℕ → Result Direction Answer
direction_of k = if k == 50 then Ok told.Forward else if k == 51 then Ok told.Backward else Err NoSuchNumber

-- the side on which a place stays
abbrev pub side_of : ℕ → Result Side Answer
side_of k = if k == 80 then Ok side.Before else if k == 81 then Ok side.After else Err NoSuchNumber

-- a movement, by the number of its kind, how often it is repeated, and the number of a search's character
abbrev pub movement_by : ℕ → ℕ → ℕ → Option Movement
movement_by k n c =
    if k == 100 then Some WholeLine else
    if k == 101 then Some BeginningOfLine else
    if k == 102 then Some EndOfLine else
    if k == 103 then Some FirstNonBlank else
    if k == 104 then Some WholeBuffer else
    if k == 105 then Some BeginningOfBuffer else
    if k == 106 then Some EndOfBuffer else
    if k == 110 then Some (BackwardChar n) else
    if k == 111 then Some (ForwardChar n) else
    if k == 112 then Some (LineUp n) else
    if k == 113 then Some (LineDown n) else
    if k == 114 then Some (WholeLinesUp n) else
    if k == 115 then Some (WholeLinesDown n) else
    if k == 116 then Some (BackwardWord n Big) else
    if k == 117 then Some (BackwardWord n Emacs) else
    if k == 118 then Some (BackwardWord n Vi) else
    if k == 119 then Some (ForwardWord n Start Big) else
    if k == 120 then Some (ForwardWord n BeforeEnd Big) else
    if k == 121 then Some (ForwardWord n AfterEnd Big) else
    if k == 122 then Some (ForwardWord n Start Emacs) else
    if k == 123 then Some (ForwardWord n BeforeEnd Emacs) else
    if k == 124 then Some (ForwardWord n AfterEnd Emacs) else
    if k == 125 then Some (ForwardWord n Start Vi) else
    if k == 126 then Some (ForwardWord n BeforeEnd Vi) else
    if k == 127 then Some (ForwardWord n AfterEnd Vi) else
    if k == 128 then option_map (λ x. ViCharSearch n (Forward x)) (scalar c) else
    if k == 129 then option_map (λ x. ViCharSearch n (ForwardBefore x)) (scalar c) else
    if k == 130 then option_map (λ x. ViCharSearch n (Backward x)) (scalar c) else
    if k == 131 then option_map (λ x. ViCharSearch n (BackwardAfter x)) (scalar c) else
    None

-- whether a kind of movements has a count
abbrev pub has_count : ℕ → Bool
has_count k = is_in_range 110 131 k

-- a movement of C, by its count
abbrev pub counted : CMovement → Result ℕ Answer → Result Movement Answer
counted m (Err why) = Err why
counted m (Ok n) = named (movement_by m.kind n m.c)

-- a movement of C, whose count is read only if its kind has one. One to a text is none of these
abbrev pub movement_of : CMovement → Result Movement Answer
movement_of m = counted m (if has_count m.kind then count_of m.n else Ok 0)
