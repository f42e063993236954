-- What a call answers, and its number.
use Rattle.std.specs.Prelude.{Bool, true, false, ℤ, pos, negsuc, Some, None, Result, Ok, Err, is_some}
use Rattle.rl_base.specs.declared.watch.WatchFault.{WatchFault}
use Rattle.rl_base.specs.declared.watch.WatchFault.TheVariants as unwatched
use Rattle.rl_session.specs.declared.session.Fault.{Fault}
use Rattle.rl_session.specs.declared.session.Fault.TheVariants as fault
use Rattle.rl_session.specs.declared.session.Reply.{Reply}
use Rattle.rl_session.specs.declared.session.Reply.TheVariants as says
use Rattle.rl_ffi.specs.declared.answers.Answer.{Answer}
use Rattle.rl_ffi.specs.declared.answers.Answer.TheVariants.{BadOffset, BadSize, BadYankSize, Closed, Damaged, Done, DoneAtEnd, IsWatched, NoMemory, NoRoom, NoSuchNumber, NotReplaying, NotUtf8, Nothing, TooSmall, UnknownFormat}

-- 0 if there was nothing to do, from 1 on if it is done, and below 0 if it was refused
abbrev pub number : Answer → ℤ
number Nothing = pos 0
number Done = pos 1
number DoneAtEnd = pos 2
number NoMemory = negsuc 0
number BadOffset = negsuc 1
number BadYankSize = negsuc 2
number NotReplaying = negsuc 3
number NoRoom = negsuc 4
number NotUtf8 = negsuc 5
number NoSuchNumber = negsuc 6
number TooSmall = negsuc 7
number IsWatched = negsuc 8
number Closed = negsuc 9
number UnknownFormat = negsuc 10
number Damaged = negsuc 11
number BadSize = negsuc 12

-- the answer of a call that was done, or refused
abbrev pub merged : Result Answer Answer → Answer
merged (Ok answer) = answer
merged (Err answer) = answer

-- was there something to do?
abbrev pub truth : Bool → Answer
truth true = Done
truth false = Nothing

-- an insertion is done: was it at the end?
abbrev pub placed : Bool → Answer
placed true = DoneAtEnd
placed false = Done

abbrev pub of_fault : Fault → Answer
of_fault fault.NoMemory = NoMemory
of_fault fault.BadPlace = BadOffset
of_fault fault.BadYankSize = BadYankSize
of_fault fault.NotReplaying = NotReplaying
of_fault fault.TooLong = NoRoom

abbrev pub of_watch_fault : WatchFault → Answer
of_watch_fault unwatched.NoMemory = NoMemory
of_watch_fault unwatched.NoRoom = NoSuchNumber
of_watch_fault unwatched.IsWatched = IsWatched

-- what the reply to a command tells; the first argument if nothing was inserted
abbrev pub told_or : Answer → Reply → Answer
told_or without says.Done = Done
told_or without (says.Answer a) = truth a
told_or without (says.Inserted None) = without
told_or without (says.Inserted (Some at_end)) = placed at_end
told_or without (says.Text text) = truth (is_some text)
told_or without (says.Mark entries) = Done
told_or without (says.At line column) = Done
told_or without (says.Refused why) = of_fault why

abbrev pub told : Reply → Answer
told = told_or Nothing

-- the same of an insertion at a place, whose reply says whether that was the end
abbrev pub told_place : Reply → Answer
told_place (says.Answer at_end) = placed at_end
told_place reply = told reply
