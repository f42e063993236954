-- What the proofs take of std, of the crates below and of the definitions: a proof imports it from here.
pub use Rattle.std.proofs.Common.{All, Decides, add-one, bytes_eq, drop-cons, encode_utf8_all, flat_map, le_refl, leb}
pub use Rattle.std.proofs.Common.{leb-false, lt-ltb, ltb, ltb-false, sum, vec_len, ⊎_elim, ◌%◌, ◌*◌, ◌/◌}
pub use Rattle.std.proofs.Math.Bool.{or-true, or_assoc}
pub use Rattle.std.proofs.lemmas.Bool.{both_ways, le-leb, le-ltb, lt-leb}
pub use Rattle.std.proofs.lemmas.Grind.{common_steps}
pub use Rattle.std.proofs.lemmas.Iterator.Consumers.{nth_from_yields_List}
pub use Rattle.std.proofs.lemmas.List.{drop-map, drop-set-lt, drop_more, get_or-append_right, get_or-map}
pub use Rattle.std.proofs.lemmas.List.{get_or_append_left, get_or_default, get_or_read, map_push, set_at, take-map}
pub use Rattle.std.proofs.lemmas.List.{take_more_set, take_rest}
pub use Rattle.std.proofs.lemmas.List.Edits.{get_or-between, map_over_more}
pub use Rattle.std.proofs.lemmas.List.Elements.{All-append, All-get_or}
pub use Rattle.std.proofs.lemmas.List.Quantifiers.{Any-push}
pub use Rattle.std.proofs.lemmas.List.Sorted.{IsPartitionPoint-from_clause}
pub use Rattle.std.proofs.lemmas.Simd.{map-map}
pub use Rattle.std.proofs.lemmas.Slice.{between_is, drop-put_mid, take-put_mid, take-put_mid_below}
pub use Rattle.std.proofs.lemmas.Slice.Eq.{bytes_eq-Decides}
pub use Rattle.std.proofs.lemmas.Str.{IsCharBoundary-before_ascii, IsCharBoundary-end, IsCharBoundary-from_ascii}
pub use Rattle.std.proofs.lemmas.Str.{encode_ascii, inside_one, length-le-encodes}
pub use Rattle.std.specs.Char.{is_ascii, to_ascii_lowercase, to_ascii_uppercase}
pub use Rattle.std.specs.Char.Unicode.Rows.{Row, by_runs}
pub use Rattle.std.specs.Char.Unicode.ToLowercase.{lowercase_runs, lowercase_strings}
pub use Rattle.std.specs.Char.Unicode.ToUppercase.{uppercase_runs, uppercase_strings}
pub use Rattle.std.specs.List.{copy_within, enumerate_from, insert, remove}
pub use Rattle.std.specs.List.Sorted.{IsPartitionPoint, IsPartitionedBy}
pub use Rattle.std.specs.Option.{option_copied, option_map_or, option_to_list}
pub use Rattle.std.specs.Prelude.{Any, IfOk, IfSome, if◌then◌else◌, is_some, not, option_and_then, ◌||◌, ◌↔◌}
pub use Rattle.std.specs.Str.{IsAscii, trim_start}
pub use Rattle.std.specs.StrCase.Lower.{is_in_word_after, lowercase_before, lowercase_chars, starts_with_cased}
pub use Rattle.std.specs.declared.ops.Range.{Range}
pub use Rattle.memchr.specs.Find.{is_byte, places}
pub use Rattle.rl_base.proofs.Common.{All-cons, All-drop, All-head, All-map, All-nil, All-tail, All-take, All-weaker}
pub use Rattle.rl_base.proofs.Common.{Bool, Cursors, Delete, Err, Event, HitLies, InsertChar, InsertStr, IsAscii-cons}
pub use Rattle.rl_base.proofs.Common.{IsAscii-nil, IsChange, IsCharBoundary, IsCharBoundary-after_ascii}
pub use Rattle.rl_base.proofs.Common.{IsCharBoundary-at_seam, IsCharBoundary-from_drop, IsCharBoundary-start, IsSome}
pub use Rattle.rl_base.proofs.Common.{IsUtf8, IsUtf8-append, IsUtf8-drop, IsUtf8-string_bytes, IsUtf8-take, List}
pub use Rattle.rl_base.proofs.Common.{None, Ok, Option, Replace, Result, Some, Stop, [], and_parts, ap, append-nil}
pub use Rattle.rl_base.proofs.Common.{append_assoc, ap₂, arith, bytes_in, cases_lt, chars, chosen_hit, clusters, cond}
pub use Rattle.rl_base.proofs.Common.{cond_both, count_by, drop, drop-append-add, drop-append-le, drop-drop}
pub use Rattle.rl_base.proofs.Common.{drop-take, drop_all, drop_at, drop_split, encode_utf8, encodes-chars}
pub use Rattle.rl_base.proofs.Common.{end_of_line, eqb, eqb-false, eqb-true, err_from_is_err_and, false, filter}
pub use Rattle.rl_base.proofs.Common.{get_or, get_or-append, get_or-drop, get_or-take, get_or_at, greatest_boundary}
pub use Rattle.rl_base.proofs.Common.{inl, inr, insert_slice, is_grapheme_break, is_newline, is_utf8}
pub use Rattle.rl_base.proofs.Common.{is_utf8-from_IsUtf8, last_line, leb-true, length, length-append, length-between}
pub use Rattle.rl_base.proofs.Common.{length-drop, length-map, length-replicate, length-reverse, length-take}
pub use Rattle.rl_base.proofs.Common.{length-take-le, length_push, line_number, lines, list_all, ltb-true, map}
pub use Rattle.rl_base.proofs.Common.{map-append, max, min, nat_le, nat_lt, nat_tests, ne_eqb, nil_from_length}
pub use Rattle.rl_base.proofs.Common.{onto_first, option_map, or-false, prev_word, refl, remove_range, repeat}
pub use Rattle.rl_base.proofs.Common.{replace_range, replicate, reverse, reverse-append, rules, same_Some, set}
pub use Rattle.rl_base.proofs.Common.{slice_get, slice_get-get_or, slice_get_past, slice_range, stands_at}
pub use Rattle.rl_base.proofs.Common.{start_of_line, string_bytes, subst, suc, sum_by-append, sum_by-cons, sym, take}
pub use Rattle.rl_base.proofs.Common.{take-add, take-append-add, take-append-drop, take-append-le, take-take}
pub use Rattle.rl_base.proofs.Common.{take_all, take_at, text_of_line, true, unwrap_or, zero, ℕ, ◌&&◌, ◌++◌, ◌+◌, ◌-◌}
pub use Rattle.rl_base.proofs.Common.{◌<◌, ◌==◌, ◌^◌, ◌∙◌, ◌∷◌, ◌≡◌, ◌≤◌, ◌⊎◌}
pub use Rattle.rl_base.specs.Event.{Start, apply, replay}
pub use Rattle.rl_base.specs.Text.{is_boundary}
pub use Rattle.rl_base.specs.declared.listeners.Direction.{Direction}
pub use Rattle.rl_base.specs.declared.listeners.Direction.TheVariants.{Backward, Forward}
pub use Rattle.rl_base.specs.declared.listeners.Refusal.{Refusal}
pub use Rattle.rl_base.specs.declared.listeners.Refusal.TheVariants.{NoMemory}
pub use Rattle.rl_base.specs.declared.motion.At.{At}
pub use Rattle.rl_base.specs.declared.motion.CharSearch.{CharSearch}
pub use Rattle.rl_base.specs.declared.motion.Movement.{Movement}
pub use Rattle.rl_base.specs.declared.motion.Movement.TheVariants.{BackwardChar, BackwardWord, BeginningOfBuffer}
pub use Rattle.rl_base.specs.declared.motion.Movement.TheVariants.{BeginningOfLine, EndOfBuffer, EndOfLine}
pub use Rattle.rl_base.specs.declared.motion.Movement.TheVariants.{FirstNonBlank, ForwardChar, ForwardWord, LineDown}
pub use Rattle.rl_base.specs.declared.motion.Movement.TheVariants.{LineUp, ViCharSearch, ViFirstPrint, WholeBuffer}
pub use Rattle.rl_base.specs.declared.motion.Movement.TheVariants.{WholeLine, WholeLinesDown, WholeLinesUp}
pub use Rattle.rl_base.specs.declared.motion.Word.{Word}
pub use Rattle.rl_base.specs.declared.motion.WordAction.{WordAction}
pub use Rattle.rl_base.specs.declared.motion.WordAction.TheVariants.{Capitalize, Lowercase, Uppercase}
pub use Rattle.rl_line.specs.Change.{entries_to_undo, entry_to_undo, greatest_back_over, length_back}
pub use Rattle.rl_line.specs.Change.{length_back_over, order, place, text_after, text_back}
pub use Rattle.rl_line.specs.Deletions.{Told, ToldOutcome, delete_plan, is_exact, removal, side_of_place}
pub use Rattle.rl_line.specs.Deletions.{side_of_search}
pub use Rattle.rl_line.specs.Edits.{cut_to_limit, exchange_plan, insert_event, insert_plan, too_long, update_plan}
pub use Rattle.rl_line.specs.Edits.{yank_plan, yank_pop_plan}
pub use Rattle.rl_line.specs.Entry.{Begin, Changed, Deletion, End, Entry, Insertion, Kind, Replacement, bytes_ahead}
pub use Rattle.rl_line.specs.Entry.{bytes_back, entry_of, event_of, events_ahead, has_change, inverse, is_change}
pub use Rattle.rl_line.specs.Entry.{new_text, old_text, opposite, replay_entries, swapped, unwind}
pub use Rattle.rl_line.specs.Gapped.{IsAround, IsGapped, IsTableAround}
pub use Rattle.rl_line.specs.Going.{cursor_after, cursor_stands, cursor_told, line_after, line_ahead, line_back}
pub use Rattle.rl_line.specs.Going.{place_after, steps_ahead, steps_back, texts_after, texts_ahead, texts_back}
pub use Rattle.rl_line.specs.Indents.{blanks, indent_plan, line_plan, lines_plan, parts, pulled, pushed, put_spaces}
pub use Rattle.rl_line.specs.Indents.{spaces}
pub use Rattle.rl_line.specs.LetterCase.{edit_word_plan, mapped, recased, respell, respelled, word_ahead}
pub use Rattle.rl_line.specs.Line.{Line, NeedsRoom, after_step, between, if_standing, line_of, stepped}
pub use Rattle.rl_line.specs.LineMotions.{first_nonblank}
pub use Rattle.rl_line.specs.LineRanges.{range_of_line}
pub use Rattle.rl_line.specs.LineStarts.{IsTable, after_newlines, from_end, kept_starts, line_starts, starts_from_end}
pub use Rattle.rl_line.specs.Plan.{Completed, Done, Halted, Outcome, Plan, Step, StepOutcome, Taken, Takes, Uncopied}
pub use Rattle.rl_line.specs.Plan.{a_copy, after, after_steps, answering, events_of, followed_by, listener_after}
pub use Rattle.rl_line.specs.Plan.{listener_after_step, nothing, nothing_more, or_no_memory, room_by_step, single}
pub use Rattle.rl_line.specs.Ranges.{covered, either_way, from_place, killed, text_in, to_hit, to_place}
pub use Rattle.rl_line.specs.RoomyLine.{HasRoom, RoomyLine}
pub use Rattle.rl_line.specs.Transpositions.{are_two, clusters_around, end_of_cluster, exchanged_text, first_word}
pub use Rattle.rl_line.specs.Transpositions.{meeting_place, only_move, pull_back_plan, pulled_back, second_word}
pub use Rattle.rl_line.specs.Transpositions.{swap_plan, transpose_chars_plan, transpose_words_plan}
pub use Rattle.rl_line.specs.Walk.{LeadsTo, Walk}
pub use Rattle.rl_line.specs.declared.change.Change.{Change}
pub use Rattle.rl_line.specs.declared.change.Way.{Way}
pub use Rattle.rl_line.specs.declared.change.Way.TheVariants.{Ahead, Back}
