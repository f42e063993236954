-- The parts of a line, its one meaning, and where it says nothing.
use Rattle.rl_session.proofs.Common.{◌≡◌, ℕ, ◌-◌, ◌^◌, List, [], ◌∷◌, ◌++◌, Option, Some, None, refl, sym, ap, subst, ◌∙◌, codes, string_bytes, ne_eqb, WordAction, SetPos, Move, Yank, Backspace, TransposeWords, EditWord, Kill, Copy, Undo, Truncate, Limit, RingSize, NamesAction, Meaning, NewText, Set, Do, RangeText, Says, no_text, part, text, pos, move, ins, part, paste, yankpop, update, str, rep, range, del, back, killline, killbuf, discline, discbuf, prevword, nextword, to, tchars, twords, cased, kill, copy, indent, dedent, begin, end, endone, reopen, abandon, keepundone, undo, redo, trunc, limit, ring, mode, Means, Same, same, pastes, updates, puts_in, replaces, line_place, killrange, keep, number_of, word, rest, SpellsChar, Numbered, SpellsRest, NumberedText, SpellsNoChar, HasNoNumber, HasNoWord, HasNoAt, HasNoSearch, HasNoDirection, HasNoMovement, NamesNoMovement, SaysNoDeletion, SaysNoCommand}
use Rattle.rl_session.specs.declared.session.Command.TheVariants.{Delete}
use Rattle.rl_session.specs.declared.settings.Setting.TheVariants.{Mode}
use Rattle.rl_session.specs.Grammar.{yank, keeps}
use Rattle.rl_session.specs.Parsing.{new_text, pasted, updated, put_in, replaced, kept}
use Rattle.rl_session.proofs.Scripts.NumberLemmas.{some_same, none_holds}
use Rattle.rl_session.proofs.Scripts.SplitLemmas.{Lacks}
use Rattle.rl_session.proofs.Scripts.SpellingLemmas.{Spells-one, SpellsChar-one}
use Rattle.rl_session.proofs.Scripts.MovementLemmas.{NamesAction-one, NamesMode-one, Numbered-one, CountWord-one, CountAtWord-one, CountSearch-one, RangeDirection-one, Names-one, AmountMovement-one}

-- the parts of a line

pub word-before : (xs ys : List ℕ) → Lacks 32 xs → word (xs ++ 32 ∷ ys) ≡ xs
word-before [] ys h = refl
word-before (x ∷ xs) ys h = rw (ne_eqb x 32 h.0) (ap (λ l. x ∷ l) (word-before xs ys h.1))

pub rest-after : (xs ys : List ℕ) → Lacks 32 xs → rest (xs ++ 32 ∷ ys) ≡ Some ys
rest-after [] ys h = refl
rest-after (x ∷ xs) ys h = rw (ne_eqb x 32 h.0) (rest-after xs ys h.1)

pub word-whole : (xs : List ℕ) → Lacks 32 xs → word xs ≡ xs
word-whole [] h = refl
word-whole (x ∷ xs) h = rw (ne_eqb x 32 h.0) (ap (λ l. x ∷ l) (word-whole xs h.1))

pub rest-none : (xs : List ℕ) → Lacks 32 xs → rest xs ≡ None
rest-none [] h = refl
rest-none (x ∷ xs) h = rw (ne_eqb x 32 h.0) (rest-none xs h.1)

-- one text at most stands after a number

SpellsRest-one : (given : Option (List ℕ)) (s t : List ℕ) → SpellsRest given s → SpellsRest given t → s ≡ t
SpellsRest-one None s t p q = p ∙ sym q
SpellsRest-one (Some bytes) s t p q = Spells-one bytes s t p q

NumberedText-one : {g : ℕ} {given s t : List ℕ} {m n : ℕ} → NumberedText g given m s → NumberedText g given n t → (m ≡ n) × (s ≡ t)
NumberedText-one {given = given} {s = s} {t = t} p q = (some_same _ p.number q.number, SpellsRest-one (rest given) s t p.spells q.spells)

RangeText-one : {given s t : List ℕ} {a b c d : ℕ} → RangeText given a b s → RangeText given c d t → (a ≡ c) × (b ≡ d) × (s ≡ t)
RangeText-one {t = t} {d = d} p q =
    let same = Numbered-one p.starts q.starts in
    let ends = NumberedText-one p.ends (subst (λ l. NumberedText (2 ^ 64 - 1) l d t) (sym same.1) q.ends) in (same.0, ends.0, ends.1)

-- the words by the function that reads them
pub ruleset lone_words = (no_text, yankpop, keep, killline, killbuf, discline, discbuf, tchars, part, begin, end, endone, reopen, abandon, keepundone, redo, line_place)

pub ruleset texts = (text, paste, update, str, rep, keep, new_text, pasted, updated, put_in, replaced, kept)

pub ruleset settings = (limit, ring, mode)

-- one meaning at most

Says-one : {word : List ℕ} {given : Option (List ℕ)} {m n : Meaning} → Says word given m → Says word given n → Same m n
Says-one no_text no_text = same refl
Says-one (text {bytes = bytes} {text = t} p) (text {text = u} q) = same (ap (λ x. NewText x) (Spells-one bytes t u p q))
Says-one (pos p) (pos q) = same (ap (λ x. Do (SetPos x)) (some_same _ p q))
Says-one (move p) (move q) = same (ap (λ x. Do (Move x)) (Names-one p q))
Says-one (ins {bytes = bytes} {c = c} p s) (ins {c = d} q t) =
    let both = Numbered-one p q in
    let char : c ≡ d = SpellsChar-one s (subst (λ l. SpellsChar l d) (sym both.1) t) in same (rw (both.0, char) refl)
Says-one (paste p) (paste q) = let both = NumberedText-one p q in rw both.0 (pastes both.1)
Says-one (yank p) (yank q) = same (ap (λ x. Do (Yank x)) (some_same _ p q))
Says-one yankpop yankpop = same refl
Says-one (update p) (update q) = let both = NumberedText-one p q in rw both.0 (updates both.1)
Says-one (str p) (str q) = let both = NumberedText-one p q in rw both.0 (puts_in both.1)
Says-one (rep p) (rep q) = let both = RangeText-one p q in rw (both.0, both.1) (replaces both.2)
Says-one (range {digits = digits} {b = b} p s) (range {b = d} q t) =
    let both = Numbered-one p q in
    let ends : b ≡ d = some_same _ s (ap (number_of (2 ^ 64 - 1)) both.1 ∙ t) in same (rw (both.0, ends) refl)
Says-one (del p) (del q) = same (ap (λ x. Do (Delete x)) (some_same _ p q))
Says-one (back p) (back q) = same (ap (λ x. Do (Backspace x)) (some_same _ p q))
Says-one killline killline = same refl
Says-one killbuf killbuf = same refl
Says-one discline discline = same refl
Says-one discbuf discbuf = same refl
Says-one (prevword p) (prevword q) = let both = CountWord-one p q in same (rw (both.0, both.1) refl)
Says-one (nextword p) (nextword q) = let both = CountAtWord-one p q in same (rw (both.0, both.1, both.2) refl)
Says-one (to p) (to q) = let both = CountSearch-one p q in same (rw (both.0, both.1) refl)
Says-one tchars tchars = same refl
Says-one (twords p) (twords q) = same (ap (λ x. Do (TransposeWords x)) (some_same _ p q))
Says-one (cased p) (cased q) = same (ap (λ x. Do (EditWord x)) (NamesAction-one p q))
Says-one (kill p) (kill q) = same (ap (λ x. Do (Kill x)) (Names-one p q))
Says-one (killrange p) (killrange q) = let both = RangeDirection-one p q in same (rw (both.0, both.1, both.2) refl)
Says-one (keep {given = given} {t = t} p) (keep {t = u} q) = keeps (SpellsRest-one given (string_bytes t) (string_bytes u) p q)
Says-one (copy p) (copy q) = same (ap (λ x. Do (Copy x)) (Names-one p q))
Says-one (indent p) (indent q) = let both = AmountMovement-one p q in same (rw (both.0, both.1) refl)
Says-one (dedent p) (dedent q) = let both = AmountMovement-one p q in same (rw (both.0, both.1) refl)
Says-one part part = same refl
Says-one begin begin = same refl
Says-one end end = same refl
Says-one endone endone = same refl
Says-one reopen reopen = same refl
Says-one abandon abandon = same refl
Says-one keepundone keepundone = same refl
Says-one (undo p) (undo q) = same (ap (λ x. Do (Undo x)) (some_same _ p q))
Says-one redo redo = same refl
Says-one (trunc p) (trunc q) = same (ap (λ x. Do (Truncate x)) (some_same _ p q))
Says-one line_place line_place = same refl
Says-one (limit p) (limit q) = same (ap (λ x. Set (Limit x)) (some_same _ p q))
Says-one (ring p) (ring q) = same (ap (λ x. Set (RingSize x)) (some_same _ p q))
Says-one (mode p) (mode q) = same (ap (λ x. Set (Mode x)) (NamesMode-one p q))

pub means_one : (line : List ℕ) (m n : Meaning) → Means line m → Means line n → Same m n
means_one line m n p q = Says-one p.1 q.1

-- no command is said

pub no-pos : (given : List ℕ) → None ≡ number_of (2 ^ 64 - 1) given → SaysNoCommand (codes "pos") given
no-pos given none command even (pos p) = none_holds _ none p

pub no-trunc : (given : List ℕ) → None ≡ number_of (2 ^ 64 - 1) given → SaysNoCommand (codes "trunc") given
no-trunc given none command even (trunc p) = none_holds _ none p

pub no-yank : (given : List ℕ) → None ≡ number_of 65535 given → SaysNoCommand (codes "yank") given
no-yank given none command even (yank p) = none_holds _ none p

pub no-del : (given : List ℕ) → None ≡ number_of 65535 given → SaysNoDeletion (codes "del") given
no-del given none command even (del p) = none_holds _ none p

pub no-back : (given : List ℕ) → None ≡ number_of 65535 given → SaysNoDeletion (codes "back") given
no-back given none command even (back p) = none_holds _ none p

pub no-twords : (given : List ℕ) → None ≡ number_of 65535 given → SaysNoCommand (codes "twords") given
no-twords given none command even (twords p) = none_holds _ none p

pub no-undo : (given : List ℕ) → None ≡ number_of 65535 given → SaysNoCommand (codes "undo") given
no-undo given none command even (undo p) = none_holds _ none p

pub no-move : (given : List ℕ) → NamesNoMovement given → SaysNoCommand (codes "move") given
no-move given none command even (move p) = none _ p

pub no-kill : (given : List ℕ) → NamesNoMovement given → SaysNoCommand (codes "kill") given
no-kill given none command even (kill p) = none _ p

pub no-copy : (given : List ℕ) → NamesNoMovement given → SaysNoCommand (codes "copy") given
no-copy given none command even (copy p) = none _ p

pub no-indent : (given : List ℕ) → HasNoMovement given → SaysNoCommand (codes "indent") given
no-indent given none command even (indent p) = none _ _ p

pub no-dedent : (given : List ℕ) → HasNoMovement given → SaysNoCommand (codes "dedent") given
no-dedent given none command even (dedent p) = none _ _ p

pub no-prevword : (given : List ℕ) → HasNoWord given → SaysNoDeletion (codes "prevword") given
no-prevword given none command even (prevword p) = none _ _ p

pub no-nextword : (given : List ℕ) → HasNoAt given → SaysNoDeletion (codes "nextword") given
no-nextword given none command even (nextword p) = none _ _ _ p

pub no-to : (given : List ℕ) → HasNoSearch given → SaysNoDeletion (codes "to") given
no-to given none command even (to p) = none _ _ p

pub no-killrange : (given : List ℕ) → HasNoDirection given → SaysNoDeletion (codes "killrange") given
no-killrange given none command even (killrange p) = none _ _ _ p

pub no-case : (given : List ℕ) → ((action : WordAction) → NamesAction given action → ⊥) → SaysNoCommand (codes "case") given
no-case given none command even (cased p) = none _ p

pub ins-no_count : (given : List ℕ) → HasNoNumber 65535 given → SaysNoCommand (codes "ins") given
ins-no_count given none command even (ins p s) = none _ _ p

pub ins-no_char : (given bytes : List ℕ) (n : ℕ) → Numbered 65535 given n bytes → SpellsNoChar bytes → SaysNoCommand (codes "ins") given
ins-no_char given bytes n h none command even (ins {c = c} p s) = none c (subst (λ l. SpellsChar l c) (sym (Numbered-one h p).1) s)

pub range-no_start : (given : List ℕ) → HasNoNumber (2 ^ 64 - 1) given → SaysNoDeletion (codes "range") given
range-no_start given none command even (range p s) = none _ _ p

pub range-no_end : (given digits : List ℕ) (a : ℕ) → Numbered (2 ^ 64 - 1) given a digits → None ≡ number_of (2 ^ 64 - 1) digits → SaysNoDeletion (codes "range") given
range-no_end given digits a h none command even (range p s) = none_holds _ (none ∙ ap (number_of (2 ^ 64 - 1)) (Numbered-one h p).1) s

pub ruleset no_deletions = (no-del, no-back, no-prevword, no-nextword, no-to, no-killrange, range-no_start, range-no_end)

pub ruleset deletions = (range, del, back, prevword, nextword, to, killrange, no_deletions)

pub ruleset no_commands = (no-pos, no-trunc, no-yank, no-twords, no-undo, no-move, no-kill, no-copy, no-indent, no-dedent, no-case, ins-no_count, ins-no_char)

pub ruleset commands = (pos, move, ins, yank, twords, cased, kill, copy, indent, dedent, undo, trunc, no_commands)
