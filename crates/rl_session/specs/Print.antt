-- What is printed for a reply.
use Rattle.std.specs.Prelude.{ℕ, ◌==◌, Bool, ◌&&◌, true, false, List, [], ◌∷◌, ◌++◌, Some, None, codes, if◌then◌else◌}
use Rattle.std.specs.Fmt.{decimal}
use Rattle.std.specs.String.{string_bytes}
use Rattle.rl_session.specs.State.{State}
use Rattle.rl_session.specs.declared.session.Fault.{Fault}
use Rattle.rl_session.specs.declared.session.Fault.TheVariants.{NoMemory, BadPlace, BadYankSize, NotReplaying, TooLong}
use Rattle.rl_session.specs.declared.session.Reply.{Reply}
use Rattle.rl_session.specs.declared.session.Reply.TheVariants.{Done, Answer, Inserted, Text, Mark, At, Refused}

-- the word for a reply
abbrev pub reply_word : Reply → List ℕ
reply_word Done = codes "ok"
reply_word (Answer true) = codes "true"
reply_word (Answer false) = codes "false"
reply_word (Inserted (Some true)) = codes "true"
reply_word (Inserted (Some false)) = codes "false"
reply_word (Inserted None) = codes "none"
reply_word (Text (Some _)) = codes "text:"
reply_word (Text None) = codes "none"
reply_word (Mark _) = codes "mark:"
reply_word (At _ _) = codes "at:"
reply_word (Refused _) = codes "refused:"

-- the number of a fault
abbrev pub number_of_fault : Fault → ℕ
number_of_fault NoMemory = 1
number_of_fault BadPlace = 2
number_of_fault BadYankSize = 3
number_of_fault NotReplaying = 4
number_of_fault TooLong = 5

-- backslash, newline, carriage return and tab, and in a text among words also the space, are printed by two bytes each,
-- any other byte as it is
abbrev pub escape : Bool → ℕ → List ℕ
escape spaces b =
    if b == 92 then 92 ∷ 92 ∷ []
    else if b == 10 then 92 ∷ 110 ∷ []
    else if b == 13 then 92 ∷ 114 ∷ []
    else if b == 9 then 92 ∷ 116 ∷ []
    else if spaces && (b == 32) then 92 ∷ 115 ∷ []
    else b ∷ []

abbrev pub escaped : Bool → List ℕ → List ℕ
escaped spaces [] = []
escaped spaces (b ∷ bs) = escape spaces b ++ escaped spaces bs

-- what a reply hands out: a text, printed as one word; a number; a line and a column with a colon between; or the number of its
-- fault
abbrev pub handed : Reply → List ℕ
handed (Text (Some t)) = escaped true (string_bytes t)
handed (Mark n) = decimal n
handed (At k column) = decimal k ++ (58 ∷ decimal column)
handed (Refused fault) = decimal (number_of_fault fault)
handed _ = []

-- the reply, the cursor and the text, separated by spaces, in one line
abbrev pub printed : Reply → State → List ℕ
printed reply s = reply_word reply ++ (handed reply ++ (32 ∷ (decimal s.line.cursor ++ (32 ∷ (escaped false s.line.text ++ 10 ∷ [])))))

-- what is printed for a line that means nothing
abbrev pub bad_line : List ℕ
bad_line = codes "bad" ++ 10 ∷ []
