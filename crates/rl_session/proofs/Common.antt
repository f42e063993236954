-- What the proofs take of std, of the crates below and of the definitions: a proof imports it from here.
pub use Rattle.std.proofs.Common.{Err, Fits, Ok, Result, eq-eqb, false-eqb, leb-true, length-take, slice_index, w8}
pub use Rattle.std.proofs.Common.{◌||◌, ◌≢◌}
pub use Rattle.std.proofs.KnownBytes.{Appends-nil, Appends-trans, Consumes-kept, Consumes-nil, Consumes-trans}
pub use Rattle.std.proofs.KnownBytes.{Keeps-refl}
pub use Rattle.std.proofs.Math.Seq.{take-add}
pub use Rattle.std.proofs.lemmas.Bool.{agree_below, agree_below_at, ne_eqb}
pub use Rattle.std.proofs.lemmas.Bool.Decides.{eqb_tells}
pub use Rattle.std.proofs.lemmas.List.{append_cancel_left, at_drop_all, at_drop_more}
pub use Rattle.std.proofs.lemmas.Result.{on_ok_weaker}
pub use Rattle.std.proofs.lemmas.Simd.{length-chunk, mask_l-mod, none_from_empty_mask, run_in_chunk_fails}
pub use Rattle.std.proofs.lemmas.Simd.{run_in_chunk_le, run_in_chunk_stops, trailing_mask_l, zip2_of_maps, zip2_splat}
pub use Rattle.std.proofs.lemmas.Str.{IsCharBoundary-from_rest, IsUtf8-nil, cons_from_encodes, encode_same}
pub use Rattle.std.proofs.lemmas.Str.{len_utf8_bounds, length-encode}
pub use Rattle.std.proofs.lemmas.Str.Pattern.{split_parts, strip_prefix_char}
pub use Rattle.std.specs.Borrow.{Bor}
pub use Rattle.std.specs.Char.{IsScalar}
pub use Rattle.std.specs.Io.KnownBytes.{Appends, Consumes, IsAtEnd, Keeps}
pub use Rattle.std.specs.List.{All, AllByRecursion, prefix_len}
pub use Rattle.std.specs.Prelude.{MatchOption, OnErr, codes, is_ok, slice_set}
pub use Rattle.std.specs.declared.ops.Range.{Range}
pub use Rattle.rl_line.proofs.Common.{ap, ap₂, arith, inl, inr, refl, rules, subst, sym, ◌∙◌, ◌≡◌, ◌⊎◌, Bool}
pub use Rattle.rl_line.proofs.Common.{and_parts, bytes_eq-Decides, cases_lt, cond, cond_both, eqb, eqb-false}
pub use Rattle.rl_line.proofs.Common.{eqb-true, false, if◌then◌else◌, le-ltb, nat_tests, not, or-false, true, ◌&&◌}
pub use Rattle.rl_line.proofs.Common.{◌==◌, add-one, max, min, nat_le, nat_lt, suc, sum, sum_by-cons, zero, ℕ, ◌%◌}
pub use Rattle.rl_line.proofs.Common.{◌*◌, ◌+◌, ◌-◌, ◌<◌, ◌^◌, ◌≤◌, IfOk, IfSome, IsSome, None, Option, Some}
pub use Rattle.rl_line.proofs.Common.{err_from_is_err_and, get_or, option_and_then, option_map, option_map_or}
pub use Rattle.rl_line.proofs.Common.{same_Some, unwrap_or, All-head, All-weaker, List, [], append-nil, append_assoc}
pub use Rattle.rl_line.proofs.Common.{between, drop, insert_slice, length, length-append, length-between, length-drop}
pub use Rattle.rl_line.proofs.Common.{length-map, length-take-le, length_push, map, map-append, nil_from_length}
pub use Rattle.rl_line.proofs.Common.{remove_range, repeat, reverse, reverse-append, slice_get, slice_range, take}
pub use Rattle.rl_line.proofs.Common.{take-append-drop, take_all, take_at, take_rest, vec_len, ◌++◌, ◌∷◌}
pub use Rattle.rl_line.proofs.Common.{IsCharBoundary, IsCharBoundary-end, IsCharBoundary-start, IsUtf8, IsUtf8-drop}
pub use Rattle.rl_line.proofs.Common.{IsUtf8-take, bytes_in, clusters, clusters_around, encode_ascii, encode_utf8}
pub use Rattle.rl_line.proofs.Common.{first_word, is_byte, meeting_place, put_spaces, second_word, spaces}
pub use Rattle.rl_line.proofs.Common.{string_bytes, text_in, word_ahead, Changed, Cursors, Deletion, Event}
pub use Rattle.rl_line.proofs.Common.{InsertChar, InsertStr, Insertion, IsChange, Replace, Replacement, Start, Stop}
pub use Rattle.rl_line.proofs.Common.{Told, cursor_after, cursor_told, event_of, events_ahead, events_of, has_change}
pub use Rattle.rl_line.proofs.Common.{insert_event, inverse, is_change, line_after, listener_after}
pub use Rattle.rl_line.proofs.Common.{listener_after_step, removal, stepped, Done, Halted, Line, NeedsRoom, Plan}
pub use Rattle.rl_line.proofs.Common.{Taken, answering, apply, delete_plan, edit_word_plan, indent_plan, insert_plan}
pub use Rattle.rl_line.proofs.Common.{line_plan, lines_plan, pulled, pulled_back, pushed, single, swap_plan, to_place}
pub use Rattle.rl_line.proofs.Common.{too_long, transpose_chars_plan, transpose_words_plan, update_plan, yank_plan}
pub use Rattle.rl_line.proofs.Common.{yank_pop_plan, Begin, End, Entry, are_two, inside_one, line_ahead, line_back}
pub use Rattle.rl_line.proofs.Common.{parts, replay, replay_entries, respell, respelled, steps_ahead, steps_back}
pub use Rattle.rl_line.proofs.Common.{unwind}
pub use Rattle.std.proofs.Math.Bool.{and-false}
pub use Rattle.std.proofs.lemmas.Result.{IfErr-weaker}
pub use Rattle.std.specs.Prelude.{IfErr, OnOk}
pub use Rattle.rl_base.proofs.Common.{option_or, prev_pos}
pub use Rattle.rl_record.proofs.Common.{reverse-reverse, take_at_read, vec_capacity, cursors_of, agree, opens}
pub use Rattle.rl_record.proofs.Common.{with_cursors, IsMatched, Record, Redone, Redos, Swap, Undone, Walks, begun}
pub use Rattle.rl_record.proofs.Common.{end_one, end_times, ended, ended_one, entries_after, entries_of, entries_told}
pub use Rattle.rl_record.proofs.Common.{freshness_added, freshness_joined, freshness_of, kept_of, kept_within}
pub use Rattle.rl_record.proofs.Common.{last_of, last_told, last_units, level, record_step, redo_of, redone}
pub use Rattle.rl_record.proofs.Common.{replays_to, truncated, undone, with_closed}
pub use Rattle.rl_line.specs.Deletions.{side_of, Between, CanDeleteBy, ToldOutcome, is_by_characters, kill_plan}
pub use Rattle.rl_line.specs.Deletions.{kill_range_plan, texts_of}
pub use Rattle.rl_line.specs.Edits.{insert_str_plan, replace_plan}
pub use Rattle.rl_line.specs.Ranges.{unless_empty}
pub use Rattle.rl_record.specs.Calls.{RecordCall, MayCome, after_call, keeps_undone, parts_next, puts_begin, puts_end}
pub use Rattle.rl_record.specs.Calls.{puts_ends, reopens, shortens, texts_of_call}
pub use Rattle.memchr.specs.Find.{Nowhere, Passes}
pub use Rattle.rl_base.specs.Clusters.{next_pos}
pub use Rattle.rl_base.specs.KillRing.{IsRing, Ring, after_deletion, in_new_slot, join_at, killed_as, popped_ring}
pub use Rattle.rl_base.specs.KillRing.{put_at}
pub use Rattle.rl_base.specs.KillRing.{reset, ring_step, side_mode, turned, yank_pop, yank_popped, yank_size, yanked}
pub use Rattle.rl_base.specs.Reports.{HasTexts, IsLineText, LacksTexts, Noted, Queue, Stand, TellsByTexts}
pub use Rattle.rl_base.specs.Reports.{after_numbers, after_texts, oldest, queue_step}
pub use Rattle.rl_base.specs.Splice.{Covers, spliced}
pub use Rattle.rl_base.specs.Watch.{ReportsLead, Watched, next_note, past_next, text_room, watch_step}
pub use Rattle.rl_base.specs.Words.{PlacedCluster, first_member, next_stop, nth, placed_clusters}
pub use Rattle.rl_base.specs.declared.kill_ring.Action.{Action}
pub use Rattle.rl_base.specs.declared.kill_ring.Mode.TheVariants.{Append}
pub use Rattle.rl_base.specs.declared.layout.GraphemeClusterMode.{GraphemeClusterMode}
pub use Rattle.rl_base.specs.declared.listeners.Direction.{Direction}
pub use Rattle.rl_base.specs.declared.listeners.Direction.TheVariants.{Backward, Forward}
pub use Rattle.rl_base.specs.declared.listeners.Refusal.{Refusal}
pub use Rattle.rl_base.specs.declared.motion.At.{At}
pub use Rattle.rl_base.specs.declared.motion.CharSearch.{CharSearch}
pub use Rattle.rl_base.specs.declared.motion.Movement.{Movement}
pub use Rattle.rl_base.specs.declared.motion.Movement.TheVariants.{BackwardChar, BackwardWord, BeginningOfBuffer}
pub use Rattle.rl_base.specs.declared.motion.Movement.TheVariants.{BeginningOfLine, EndOfBuffer, EndOfLine}
pub use Rattle.rl_base.specs.declared.motion.Movement.TheVariants.{FirstNonBlank}
pub use Rattle.rl_base.specs.declared.motion.Movement.TheVariants.{ForwardChar, ForwardWord, LineDown, LineUp}
pub use Rattle.rl_base.specs.declared.motion.Movement.TheVariants.{ViCharSearch, WholeLinesDown, WholeLinesUp}
pub use Rattle.rl_base.specs.declared.motion.Word.{Word}
pub use Rattle.rl_base.specs.declared.motion.Word.TheVariants.{Emacs}
pub use Rattle.rl_base.specs.declared.motion.WordAction.{WordAction}
pub use Rattle.rl_line.specs.Motions.{Moved}
pub use Rattle.rl_line.specs.Plan.{Cut, Grows, Outcome, Takes, a_copy, nothing_more, or_no_memory, refusal_of}
pub use Rattle.rl_line.specs.Plan.{room_by_step}
pub use Rattle.rl_line.specs.Transpositions.{word_end, word_start}
pub use Rattle.rl_record.specs.declared.joining.Freshness.{Freshness}
pub use Rattle.rl_session.specs.Commands.{Asked, Came, Course, Does, Edited, Telling, answers, asked, by_steps}
pub use Rattle.rl_session.specs.Commands.{course_of, deletion_of, edit, edit_course, edits, goes}
pub use Rattle.rl_session.specs.Commands.{hands_out, inserts, is_done, is_vain_yank, lends, lent_plan, never, other}
pub use Rattle.rl_session.specs.Commands.{other_course, popped, popped_plan, tells, told_as, when}
pub use Rattle.rl_session.specs.Commands.{Became, Effect, WatchHears, effect, pops, puts_again, readied, settled}
pub use Rattle.rl_session.specs.Commands.{stays, takes_back, with_changes}
pub use Rattle.rl_session.specs.Forgetting.{HoldsOn, gone, within_bound}
pub use Rattle.rl_session.specs.Grammar.{Do, Meaning, Means, NewText, Same, Says, Set, pastes, puts_in, replaces}
pub use Rattle.rl_session.specs.Grammar.{same, updates}
pub use Rattle.rl_session.specs.Grammar.{AmountMovement, CountAtWord, CountSearch, CountWord, Names, NamesAction}
pub use Rattle.rl_session.specs.Grammar.{NamesAt, NamesDirection, NamesMode, NamesSearch, NamesWord, RangeDirection}
pub use Rattle.rl_session.specs.Grammar.{RangeText}
pub use Rattle.rl_session.specs.Grammar.{ahead, back_onto, back_till, backward, before, big, cap, emacs, low, nozwj}
pub use Rattle.rl_session.specs.Grammar.{start, till, unicode, upper, vi, wcwidth}
pub use Rattle.rl_session.specs.Grammar.{bchar, bob, buf, bword, down, eob, eol, fchar, find, first, fword, home}
pub use Rattle.rl_session.specs.Grammar.{nonblank, up, whole, linesdown, linesup}
pub use Rattle.rl_session.specs.Grammar.{back, cased, dedent, del, discbuf, discline, indent, ins, killbuf, killline}
pub use Rattle.rl_session.specs.Grammar.{nextword, paste, prevword, range, rep, str, tchars, to, twords, update}
pub use Rattle.rl_session.specs.Grammar.{copy, keep, kill, killrange, yankpop}
pub use Rattle.rl_session.specs.Grammar.{begin, end, endone, part, redo, reopen, abandon, keepundone, trunc, undo}
pub use Rattle.rl_session.specs.Grammar.{limit, line_place, mode, move, no_text, pos, ring, text}
pub use Rattle.rl_session.specs.History.{AllRedone, AllStandInGroup, ClosesGroup, History, Holds, IsEdit}
pub use Rattle.rl_session.specs.History.{MayStandInGroup, Placed, PlacedBack, StandsAfter, WasHeld, WasRefused}
pub use Rattle.rl_session.specs.KillRuns.{AllDirected, AllKill, AnyTook, GivenBack, IsDirected, IsDirectedKill}
pub use Rattle.rl_session.specs.KillRuns.{IsNoKill, NoneRefused}
pub use Rattle.rl_session.specs.Lines.{lines_of, onto_some, whole_lines}
pub use Rattle.rl_session.specs.Options.{no_bound}
pub use Rattle.rl_session.specs.Pair.{pair_refused, pair_step}
pub use Rattle.rl_session.specs.Parsing.{BeginsChar, BeginsEscape, BeginsNoEscape, HasNoAt, HasNoDirection}
pub use Rattle.rl_session.specs.Parsing.{HasNoMovement, HasNoNumber, HasNoSearch, HasNoWord}
pub use Rattle.rl_session.specs.Parsing.{NamesNoMovement, NamesNothing, SaysNoCommand, SaysNoDeletion, SpellsNoChar}
pub use Rattle.rl_session.specs.Parsing.{SpellsNothing, deletes, holds_text, meaning_of, replaced}
pub use Rattle.rl_session.specs.Print.{escaped}
pub use Rattle.rl_session.specs.Progress.{Cuts, Halts, HasNoNewline, IsSaid, Runs, SaidOut, Took}
pub use Rattle.rl_session.specs.Replies.{replied}
pub use Rattle.rl_session.specs.Run.{AfterEach, Leads, Row, Run, before_last, commands_of, held, held_by, held_of}
pub use Rattle.rl_session.specs.Run.{replies_of, reports, reports_of, steps_done, steps_in, texts_of_steps}
pub use Rattle.rl_session.specs.Script.{CutOutputs, HasNext, IsCut, Leaves, LineOut, Outputs, Ran, Stopped, StoppedBy}
pub use Rattle.rl_session.specs.Script.{started}
pub use Rattle.rl_session.specs.Spelling.{Escapes, NamesChar, Numbered, NumberedText, Spells, SpellsChar, SpellsRest}
pub use Rattle.rl_session.specs.Spelling.{are_digits}
pub use Rattle.rl_session.specs.Spelling.{braced, hex_digit, hex_from, letter, letter_of, number_of, plain, rest}
pub use Rattle.rl_session.specs.Spelling.{value_from, word}
pub use Rattle.rl_session.specs.State.{AtRest, ChangedFrom, Ends, Follows, IsBounded, Replays, ReportedFrom, Stands}
pub use Rattle.rl_session.specs.State.{State, origin, restarted, with_ring, with_watch}
pub use Rattle.rl_session.specs.Writes.{ArePlain, is_special}
pub use Rattle.rl_session.specs.declared.grammar.ScriptLine.{ScriptLine}
pub use Rattle.rl_session.specs.declared.pair.Pair.{Pair}
pub use Rattle.rl_session.specs.declared.script.Interpreter.{Interpreter}
pub use Rattle.rl_session.specs.declared.script.ScriptFault.{ScriptFault}
pub use Rattle.rl_session.specs.declared.script.ScriptFault.TheVariants.{Read, Write}
pub use Rattle.rl_session.specs.declared.session.Command.{Command}
pub use Rattle.rl_session.specs.declared.session.Command.TheVariants.{Backspace, Copy, DeletePrevWord, DeleteTo}
pub use Rattle.rl_session.specs.declared.session.Command.TheVariants.{DeleteWord, DiscardBuffer, DiscardLine}
pub use Rattle.rl_session.specs.declared.session.Command.TheVariants.{EditWord, Kill}
pub use Rattle.rl_session.specs.declared.session.Command.TheVariants.{KillBuffer, KillLine, KillRange, Move, Redo}
pub use Rattle.rl_session.specs.declared.session.Command.TheVariants.{SetPos, TransposeWords, Truncate, Undo, Yank}
pub use Rattle.rl_session.specs.declared.session.Command.TheVariants.{YankPop}
pub use Rattle.rl_session.specs.declared.session.Fault.TheVariants.{BadPlace}
pub use Rattle.rl_session.specs.declared.session.Reply.{Reply}
pub use Rattle.rl_session.specs.declared.settings.Setting.TheVariants.{Limit, RingSize}
