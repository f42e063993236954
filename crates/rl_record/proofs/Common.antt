-- What the proofs take of std, of the crates below and of the definitions: a proof imports it from here.
pub use Rattle.std.proofs.Common.{add-zero, vec_capacity}
pub use Rattle.std.proofs.Math.Seq.{map-set_same}
pub use Rattle.std.proofs.lemmas.Grind.{take_at_read}
pub use Rattle.std.proofs.lemmas.List.{take_min}
pub use Rattle.rl_base.proofs.Common.{is_alphanumeric, reverse-reverse, same_text}
pub use Rattle.rl_base.specs.Classes.{is_word_cluster}
pub use Rattle.rl_line.proofs.Common.{All, All-drop, All-map, All-take, Any, Begin, Bool, Changed, Cursors, Delete}
pub use Rattle.rl_line.proofs.Common.{Deletion, Direction, Done, End, Entry, Err, Event, Forward, Halted, IfOk}
pub use Rattle.rl_line.proofs.Common.{IfSome, InsertChar, InsertStr, Insertion, IsCharBoundary, IsSome, IsUtf8, Kind}
pub use Rattle.rl_line.proofs.Common.{LeadsTo, Line, List, NeedsRoom, None, Ok, Option, Plan, Refusal, Replace}
pub use Rattle.rl_line.proofs.Common.{Replacement, Result, Some, Start, Step, Stop, Taken, Walk, [], after, ap}
pub use Rattle.rl_line.proofs.Common.{append-nil, append_assoc, apply, ap₂, arith, both_ways, bytes_back}
pub use Rattle.rl_line.proofs.Common.{bytes_eq-Decides, cases_lt, common_steps, cond, cond_both, cursor_after}
pub use Rattle.rl_line.proofs.Common.{cursor_stands, cursor_told, drop, drop-append-add, drop-append-le, drop-cons}
pub use Rattle.rl_line.proofs.Common.{drop-drop, drop-map, drop-set-lt, drop-take, drop_all, drop_at, encode_utf8}
pub use Rattle.rl_line.proofs.Common.{entries_to_undo, entry_of, entry_to_undo, eqb-true, err_from_is_err_and}
pub use Rattle.rl_line.proofs.Common.{event_of, false, get_or, get_or-map, greatest_back_over, has_change}
pub use Rattle.rl_line.proofs.Common.{if◌then◌else◌, inl, inr, insert, inverse, is_boundary, is_change, is_some}
pub use Rattle.rl_line.proofs.Common.{le-leb, leb, leb-false, leb-true, length, length-append, length-drop}
pub use Rattle.rl_line.proofs.Common.{length-map, length-replicate, length-reverse, length-take, length-take-le}
pub use Rattle.rl_line.proofs.Common.{line_after, line_ahead, line_back, listener_after, listener_after_step, lt-leb}
pub use Rattle.rl_line.proofs.Common.{lt-ltb, ltb, map, map-append, max, min, nat_le, ne_eqb, new_text}
pub use Rattle.rl_line.proofs.Common.{nil_from_length, not, old_text, option_and_then, option_map, option_map_or}
pub use Rattle.rl_line.proofs.Common.{option_to_list, or-true, place_after, refl, remove_range, replay_entries}
pub use Rattle.rl_line.proofs.Common.{replicate, reverse, reverse-append, rules, same_Some, set, slice_get, stepped}
pub use Rattle.rl_line.proofs.Common.{steps_back, subst, suc, sym, take, take-append-add, take-append-drop}
pub use Rattle.rl_line.proofs.Common.{take-append-le, take-map, take-take, take_all, take_at, take_more_set}
pub use Rattle.rl_line.proofs.Common.{take_rest, text_after, text_back, texts_back, true, unwind, unwrap_or, vec_len}
pub use Rattle.rl_line.proofs.Common.{zero, ℕ, ◌&&◌, ◌*◌, ◌++◌, ◌+◌, ◌-◌, ◌<◌, ◌==◌, ◌^◌, ◌||◌, ◌↔◌, ◌∙◌, ◌∷◌, ◌≡◌}
pub use Rattle.rl_line.proofs.Common.{◌≤◌, ◌⊎◌}
pub use Rattle.rl_line.specs.Entry.{IsOfKind, Swap, change_count, changes_of, cursors_of, flipped, is_begin, is_end}
pub use Rattle.rl_line.specs.Entry.{past, with_cursors}
pub use Rattle.rl_line.specs.Going.{StandAfter, StandBefore, line_over, steps_over, texts_over}
pub use Rattle.rl_line.specs.declared.change.Change.{Change}
pub use Rattle.rl_line.specs.declared.change.Way.{Way}
pub use Rattle.rl_line.specs.declared.change.Way.TheVariants.{Ahead, Back}
pub use Rattle.rl_record.specs.Entries.{Joins, StandsAt, TakesIn, added, cut_at, cut_to, deep, settled}
pub use Rattle.rl_record.specs.Forgetting.{Counts, FrontGone, blanked, bytes_held, fits, forgotten, gone_within}
pub use Rattle.rl_record.specs.Forgetting.{is_within, kept_within, past_front, unbounded, units_kept, without_first}
pub use Rattle.rl_record.specs.Record.{IsApart, Record, SavedAt, StaysSaved, agree, arrived, entries_after}
pub use Rattle.rl_record.specs.Record.{entries_of, entries_told, followed, freshness_added, freshness_at}
pub use Rattle.rl_record.specs.Record.{freshness_joined, freshness_of, freshness_told, gone_on, is_at, is_parted}
pub use Rattle.rl_record.specs.Record.{is_saved, joined, joined_in, kept_point, last_insert, last_told, parted}
pub use Rattle.rl_record.specs.Record.{pending_after, point_kept, point_past, put_in_first, record_step}
pub use Rattle.rl_record.specs.Record.{recorded_after, replays_to, saved_here, turned_all, untold}
pub use Rattle.rl_record.specs.Undo.{Abandoned, GoesOver, Reaches, Redone, Redos, StandsStill, Tries, Undone, Walks}
pub use Rattle.rl_record.specs.Undo.{count_over, moved, unit_of}
pub use Rattle.rl_record.specs.Units.{AtLevel, Begins, BothMatched, GroupAt, Hears, InGroup, IsMatched, Open}
pub use Rattle.rl_record.specs.Units.{UndoUnit, Whole, abandoned, add_entry, adds_end, after_in_group, begun, close}
pub use Rattle.rl_record.specs.Units.{closed_all, cut_more, end_one, end_times, ended, ended_one, ends_in_begin}
pub use Rattle.rl_record.specs.Units.{ends_in_end, entries, in_group, is_open, kept_of, kept_undone, last_of}
pub use Rattle.rl_record.specs.Units.{last_units, level, mark, marks, next_of, oldest_is_open, open_group, open_size}
pub use Rattle.rl_record.specs.Units.{opens, redo_dropped, redo_from, redo_of, redone, reopened, size_to_open}
pub use Rattle.rl_record.specs.Units.{there_and_back, together, touched, truncated, undone, units, waits, with_closed}
pub use Rattle.rl_record.specs.declared.joining.Freshness.{Freshness}
pub use Rattle.rl_record.specs.declared.joining.Freshness.TheVariants.{Added, Joined, Parted, Stale}
