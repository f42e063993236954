-- What the proofs take of std, of the crates below and of the definitions: a proof imports it from here.
pub use Rattle.std.proofs.Common.{ap, ap₂, arith, inl, inr, refl, rules, subst, sym, ◌∙◌, ◌≡◌, ◌⊎◌}
pub use Rattle.std.proofs.Common.{Bool, cond, eq-eqb, eqb, false, if◌then◌else◌, ltb-true, min, ne_eqb, suc, true, zero, ℕ, ◌+◌, ◌-◌, ◌<◌, ◌^◌, ◌||◌, ◌≤◌}
pub use Rattle.std.proofs.Common.{IfErr, MatchOption, None, OnOk, Option, Some, get_or, option_map}
pub use Rattle.std.proofs.Common.{Global, List, String, [], append-nil, append_assoc, count_by, drop, drop_at, filter, fold, length}
pub use Rattle.std.proofs.Common.{length-append, map, replicate, reverse, set, slice_range, slice_set, sum_by, take, take-add, take_at, ◌++◌, ◌∷◌}
pub use Rattle.std.proofs.Math.Bool.{and-true, or-false}
pub use Rattle.std.proofs.Math.ListN.{get_or-append}
pub use Rattle.std.proofs.Math.Nat.{eq-or-lt_of_le}
pub use Rattle.std.proofs.Math.Seq.{drop-append-add, drop-append_seam, set-append_seam, take-append-add, take-append_seam, take-nil}
pub use Rattle.std.proofs.lemmas.Bool.{OnTrue_at, OnTrue_from, and_parts, cases_lt, cond-false, cond-true, cond_both, eqb-false, eqb-true, false_from_ne_true, leb-true, leb-false, ltb-false}
pub use Rattle.std.proofs.lemmas.Bool.Decides.{nat_tests}
pub use Rattle.std.proofs.lemmas.Cmp.{nat_list_eq_equiv}
pub use Rattle.std.proofs.lemmas.List.{drop-append-le, drop-drop, drop-take, drop_all, take-append-drop, take-append-le}
pub use Rattle.std.proofs.lemmas.List.{take-take, take_all, take-set, drop-set-lt, take_more, drop_more, take-replicate}
pub use Rattle.std.proofs.lemmas.List.{get_or-append-add, get_or-drop, get_or-reverse, get_or-take, get_or_at, set-get_or, get_or-set_same, get_or_append_left, get_or-map, set_past, get_or-replicate}
pub use Rattle.std.proofs.lemmas.List.{length-drop, length-map, length-replicate, length-reverse, length-set, length-take, length-take-le, length_push, nil_from_length}
pub use Rattle.std.proofs.lemmas.List.{map-append, map-set, replicate-append-replicate, reverse-append, reverse-reverse}
pub use Rattle.std.proofs.lemmas.List.Edits.{length-between}
pub use Rattle.std.proofs.lemmas.List.Elements.{All-cons, All-drop, All-head, All-map, All-nil, All-tail, All-take, All-weaker}
pub use Rattle.std.proofs.lemmas.List.Elements.{filter-append, filter_map-append, recursion_from_All, filter_passes, All-filter}
pub use Rattle.std.proofs.lemmas.List.Folds.{concat-append, drop_split}
pub use Rattle.std.proofs.lemmas.List.Splits.{length-slice_split, slice_split-cons_no, slice_split-cons_yes, slice_split_at, slice_split_none}
pub use Rattle.std.proofs.lemmas.List.Sums.{fold-append, sum_by-append, sum_by-cons}
pub use Rattle.std.proofs.lemmas.Option.{IfSome_then, get_or_from_slice_get, same_Some, slice_get-get_or, slice_get_cases, slice_get_past, slice_get_within}
pub use Rattle.std.proofs.lemmas.Result.{err_from_is_err_and}
pub use Rattle.std.proofs.lemmas.Str.{IsCharBoundary-after_ascii, IsCharBoundary-at_seam, IsCharBoundary-from_drop, IsCharBoundary-from_rest, IsCharBoundary-from_take, IsCharBoundary-start}
pub use Rattle.std.proofs.lemmas.Str.{IsUtf8-append, IsUtf8-between, IsUtf8-drop, IsUtf8-encode, IsUtf8-from_is_utf8}
pub use Rattle.std.proofs.lemmas.Str.{IsUtf8-nil, IsUtf8-past_char, IsUtf8-string_bytes, IsUtf8-take, is_utf8-from_IsUtf8}
pub use Rattle.std.proofs.lemmas.Str.{chars-IsAscii, chars-append, chars-nil, chars_from_encodes, chars_past_char, encodes-chars, length-encode}
pub use Rattle.std.proofs.lemmas.Str.Ascii.{IsAscii-cons, IsAscii-nil}
pub use Rattle.std.specs.Bool.{IsTrue, OnFalse, OnTrue, beq, then_some}
pub use Rattle.std.specs.Char.{IsScalar, is_ascii_alphanumeric, len_utf8}
pub use Rattle.std.specs.Cmp.Lexicographic.{same_text}
pub use Rattle.std.specs.Iterator.{SkipsThenYields, Yields, YieldsFirstBy}
pub use Rattle.std.specs.Iterator.Adapters.{rev_source}
pub use Rattle.std.specs.List.{All, AllByRecursion, concat, cons_option, filter_map, find, insert_slice, last_or, list_all, list_any, onto_first, remove_range, repeat, replace_range, slice_split}
pub use Rattle.std.specs.Option.{IfSome, option_and_then, option_or}
pub use Rattle.std.specs.Prelude.{Err, IsSome, Ok, Result, encode_utf8, encode_utf8_all, is_err, is_ok, max, nat_le, nat_lt, slice_get, unwrap_or, ◌&&◌, ◌==◌}
pub use Rattle.std.specs.Str.{IsCharBoundary, IsUtf8, NoCharPasses, NonePass, chars, drop_trailing_whitespace, is_utf8, skip_leading_whitespace}
pub use Rattle.std.specs.Str.Iter.{char_indices_offset, char_indices_rest, chars_rest}
pub use Rattle.std.specs.Str.Pattern.{FindsChar, SplitsAroundMatch}
pub use Rattle.std.specs.String.{string_bytes, string_capacity}
pub use Rattle.std.specs.VecDeque.{deque_capacity}
pub use Rattle.rl_base.specs.Blanks.{past_blanks, without_leading_blanks, without_trailing_blanks}
pub use Rattle.rl_base.specs.Classes.{all_alphanumeric, ends, has_blank, is_alphanumeric, is_number, is_word, starts}
pub use Rattle.rl_base.specs.ClusterClass.{class_of}
pub use Rattle.rl_base.specs.Clusters.{bytes_in, clusters, next_pos, prev_pos}
pub use Rattle.rl_base.specs.Event.{Cursors, Delete, Event, InsertChar, InsertStr, Replace, Stop}
pub use Rattle.rl_base.specs.Gathered.{BeginsBlank, Gathering, IsPackedAt, texts}
pub use Rattle.rl_base.specs.KillGroups.{AllKills, Clears, Doing, Groups, Hears, Kills, NoPops, Pops, Resets, Yanks, all_joined, group_do}
pub use Rattle.rl_base.specs.KillGroups.{group_done, group_step, groups_of, grown, no_groups, ring_do, ring_done, with_deletion, with_kill}
pub use Rattle.rl_base.specs.KillRing.{FitsLast, IsRing, Ring, after_deletion, back_from, behind, cleared, cut_to, fitting, goes_after, in_new_slot, index_before}
pub use Rattle.rl_base.specs.KillRing.{join_at, killed, killed_as, left_with, lent, new_index, new_ring, newest_first, next_index, popped_ring, put_at, raised, resized}
pub use Rattle.rl_base.specs.KillRing.{ring_step, ruled, side_mode, size_of, text_back, turned, with_newest, within_bytes, yank, yank_popped, yank_size, yanked}
pub use Rattle.rl_base.specs.Lines.{bytes_of, end_of_line, is_newline, last_line, line_number, lines, start_of_line, text_of_line}
pub use Rattle.rl_base.specs.Notes.{Cuts, KeepsRoom, Notes, bytes_kept, notes}
pub use Rattle.rl_base.specs.Reports.{AsOne, HasTexts, IsChange, IsLineText, IsQueue, LacksTexts, Leads, LeadsBy, Noted, Queue, ReadsTexts, ReadsWhole, Stand, Tells, WaitLeads, Waiting}
pub use Rattle.rl_base.specs.Reports.{Whole, after_texts, apart, as_one, has_room_in, is_change, joined_cursors, kept, new_queue, noted, nothing_joined, noting, oldest, on_last, past_oldest}
pub use Rattle.rl_base.specs.Reports.{queue_step, reports_of, splice_of, taken_in, text_bytes, texts_of, told_cursors, told_note, told_whole, waiting_of, with_cursors, with_note}
pub use Rattle.rl_base.specs.Search.{HitLies, char_places, chosen_hit, hit_ahead, hit_back, hits, nth_or_last, place_of_last, places_of, sought}
pub use Rattle.rl_base.specs.Splice.{Covers, Outlasts, Splices, capped, folded, inverse, moved, spliced, told, untouched}
pub use Rattle.rl_base.specs.Text.{fits_at, greatest_boundary, stands_at}
pub use Rattle.rl_base.specs.Widths.{char_columns, is_joiner, width}
pub use Rattle.rl_base.specs.Words.{PlacedCluster, first_member, last_place, last_stop, looked_at, neighbours, nth, placed_clusters, prev_word, stop_between, stops}
pub use Rattle.rl_base.specs.declared.kill_ring.Action.{Action}
pub use Rattle.rl_base.specs.declared.kill_ring.Action.TheVariants.{Kill, Other, Yank}
pub use Rattle.rl_base.specs.declared.kill_ring.Mode.{Mode}
pub use Rattle.rl_base.specs.declared.kill_ring.NewKill.{NewKill}
pub use Rattle.rl_base.specs.declared.kill_ring.NewKill.TheVariants.{AfterCurrent, AfterNewest}
pub use Rattle.rl_base.specs.declared.layout.GraphemeClusterMode.TheVariants.{NoZwj, WcWidth}
pub use Rattle.rl_base.specs.declared.listeners.Direction.{Direction}
pub use Rattle.rl_base.specs.declared.listeners.Refusal.{Refusal}
pub use Rattle.rl_base.specs.declared.listeners.Refusal.TheVariants.{NoMemory}
pub use Rattle.rl_base.specs.declared.motion.At.{At}
pub use Rattle.rl_base.specs.declared.motion.At.TheVariants.{AfterEnd, BeforeEnd}
pub use Rattle.rl_base.specs.declared.motion.CharSearch.{CharSearch}
pub use Rattle.rl_base.specs.declared.motion.CharSearch.TheVariants.{BackwardAfter, ForwardBefore}
pub use Rattle.rl_base.specs.declared.motion.Word.{Word}
pub use Rattle.rl_base.specs.declared.motion.Word.TheVariants.{Big, Emacs, Vi}
pub use Rattle.rl_base.specs.declared.reports.Joined.{Joined}
pub use Rattle.rl_base.specs.declared.reports.Report.{Report}
pub use Rattle.rl_base.specs.declared.reports.ReportKind.{ReportKind}
pub use Rattle.rl_base.specs.declared.splice.Side.{Side}
pub use Rattle.rl_base.specs.declared.splice.Splice.{Splice}
pub use Rattle.ucd_category.specs.GeneralCategory.{general_category}
pub use Rattle.ucd_derived.specs.Binary.{is_alphabetic}
pub use Rattle.ucd_props.specs.Binary.{is_white_space}
pub use Rattle.unicode_segmentation.specs.Grapheme.{is_grapheme_break}
pub use Rattle.unicode_segmentation.specs.Iter.{grapheme_indices_left, graphemes_left}
pub use Rattle.unicode_segmentation.specs.Segments.{GivesLast}
pub use Rattle.unicode_width.specs.Width.{str_width}
