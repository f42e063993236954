-- Texts for which a line has room: one where a part of it gives way, goes in, or moves.
use Rattle.rl_line.proofs.Common.{HasRoom, Line, List, RoomyLine, [], ap, append-nil, arith, common_steps, insert_slice, length, length-append, length-drop, length-take-le, remove_range, replace_range, slice_range, ℕ, ◌+◌, ◌-◌, ◌≡◌, ◌≤◌}
use Rattle.rl_base.proofs.Texts.TextLemmas.{removed-is_replaced}

pub length-swapped : (text part : List ℕ) (i j : ℕ) → i ≤ j → j ≤ length text → length (replace_range text i j part) ≡ length text - (j - i) + length part
length-swapped text part i j order within = grind (arith, length-append, length-take-le, length-drop)

pub length-inserted : (text part : List ℕ) (i : ℕ) → length (insert_slice text i part) ≡ length text + length part
length-inserted text part i = grind (arith, common_steps)

pub HasRoom-inserted : (text part : List ℕ) (i : ℕ) (r : RoomyLine) → length text + length part ≤ r.bytes → HasRoom (insert_slice text i part) r
HasRoom-inserted text part i r bytes = omega (arith, bytes, length-inserted text part i)

-- the text of which a table is made
pub all-replaced : (text : List ℕ) → replace_range [] 0 0 text ≡ text
all-replaced text = append-nil text

-- a part of the text that moves
pub HasRoom-moved : (text left part : List ℕ) (i j front : ℕ) (r : RoomyLine) → i ≤ j → j ≤ length text → left ≡ remove_range text i j → part ≡ slice_range text i j → HasRoom text r
    → HasRoom (insert_slice left front part) r
HasRoom-moved text left part i j front r order within gone moved h = grind (arith, common_steps, removed-is_replaced)

-- ---- a part of a line, through the two values that a method opens
pub same-line : (r s : RoomyLine) → r ≡ s → r.line ≡ s.line
same-line r s e = ap (λ (x : RoomyLine). x.line) e

pub same-text : (l m : Line) → l ≡ m → l.text ≡ m.text
same-text l m e = ap (λ (x : Line). x.text) e

pub same-cursor : (l m : Line) → l ≡ m → l.cursor ≡ m.cursor
same-cursor l m e = ap (λ (x : Line). x.cursor) e

pub same-limit : (l m : Line) → l ≡ m → l.limit ≡ m.limit
same-limit l m e = ap (λ (x : Line). x.limit) e

pub moved-cursor : (l m : Line) (place : ℕ) → l ≡ m → record l { cursor = place } ≡ record m { cursor = place }
moved-cursor l m place e = ap (λ (x : Line). record x { cursor = place }) e

pub ruleset rooms = (all-replaced, length-inserted, length-swapped)

pub ruleset views = (same-line, same-text, same-cursor, same-limit, moved-cursor)
