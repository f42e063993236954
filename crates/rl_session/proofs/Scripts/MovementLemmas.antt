-- One movement at most is named, by what stands after its word.
use Rattle.rl_session.proofs.Common.{arith, ◌≡◌, ℕ, ◌-◌, ◌^◌, List, Option, Some, refl, sym, ap, subst, ◌∙◌, codes, GraphemeClusterMode, Direction, At, CharSearch, Movement, BackwardChar, ForwardChar, LineUp, LineDown, WholeLinesUp, WholeLinesDown, Word, WordAction, NamesWord, big, emacs, vi, NamesAt, start, before, NamesSearch, till, back_onto, back_till, NamesAction, cap, low, upper, NamesMode, unicode, wcwidth, nozwj, CountWord, CountAtWord, CountSearch, Names, whole, home, eol, bword, fword, find, first, nonblank, bchar, fchar, up, down, linesup, linesdown, buf, bob, eob, AmountMovement, NamesDirection, ahead, backward, RangeDirection, word, rest, SpellsChar, Numbered, HasNoWord, HasNoAt, HasNoSearch, NamesNothing}
use Rattle.rl_session.specs.Grammar.{after, onto}
use Rattle.rl_session.proofs.Scripts.NumberLemmas.{some_same}
use Rattle.rl_session.proofs.Scripts.SpellingLemmas.{SpellsChar-one}

-- small words
pub ruleset kinds = (big, emacs, vi, start, before, after, onto, till, back_onto, back_till, cap, low, upper, ahead, backward, unicode, wcwidth, nozwj)

NamesWord-one : {bytes : List ℕ} {v w : Word} → NamesWord bytes v → NamesWord bytes w → v ≡ w
NamesWord-one big big = refl
NamesWord-one emacs emacs = refl
NamesWord-one vi vi = refl

NamesAt-one : {bytes : List ℕ} {a b : At} → NamesAt bytes a → NamesAt bytes b → a ≡ b
NamesAt-one start start = refl
NamesAt-one before before = refl
NamesAt-one after after = refl

NamesSearch-one : {bytes : List ℕ} {c : ℕ} {s t : CharSearch} → NamesSearch bytes c s → NamesSearch bytes c t → s ≡ t
NamesSearch-one onto onto = refl
NamesSearch-one till till = refl
NamesSearch-one back_onto back_onto = refl
NamesSearch-one back_till back_till = refl

pub NamesAction-one : {bytes : List ℕ} {a b : WordAction} → NamesAction bytes a → NamesAction bytes b → a ≡ b
NamesAction-one cap cap = refl
NamesAction-one low low = refl
NamesAction-one upper upper = refl

NamesDirection-one : {bytes : List ℕ} {d e : Direction} → NamesDirection bytes d → NamesDirection bytes e → d ≡ e
NamesDirection-one ahead ahead = refl
NamesDirection-one backward backward = refl

pub NamesMode-one : {bytes : List ℕ} {m n : GraphemeClusterMode} → NamesMode bytes m → NamesMode bytes n → m ≡ n
NamesMode-one unicode unicode = refl
NamesMode-one wcwidth wcwidth = refl
NamesMode-one nozwj nozwj = refl

-- what stands after a word

pub Numbered-one : {g : ℕ} {given xs ys : List ℕ} {m n : ℕ} → Numbered g given m xs → Numbered g given n ys → (m ≡ n) × (xs ≡ ys)
Numbered-one p q = (some_same _ p.number q.number, some_same _ p.on q.on)

pub CountWord-one : {given : List ℕ} {m n : ℕ} {v w : Word} → CountWord given m v → CountWord given n w → (m ≡ n) × (v ≡ w)
CountWord-one {w = w} p q =
    let same = Numbered-one p.counted q.counted in (same.0, NamesWord-one p.named (subst (λ l. NamesWord l w) (sym same.1) q.named))

pub CountAtWord-one : {given : List ℕ} {m n : ℕ} {a b : At} {v w : Word} → CountAtWord given m a v → CountAtWord given n b w → (m ≡ n) × (a ≡ b) × (v ≡ w)
CountAtWord-one {b = b} {w = w} p q = grind (arith, Numbered-one, some_same, NamesAt-one, NamesWord-one)

pub CountSearch-one : {given : List ℕ} {m n : ℕ} {s t : CharSearch} → CountSearch given m s → CountSearch given n t → (m ≡ n) × (s ≡ t)
CountSearch-one {t = t} p q = grind (arith, Numbered-one, some_same, SpellsChar-one, NamesSearch-one)

pub RangeDirection-one : {given : List ℕ} {i j k l : ℕ} {d e : Direction} → RangeDirection given i j d → RangeDirection given k l e → (i ≡ k) × (j ≡ l) × (d ≡ e)
RangeDirection-one {l = l} {e = e} p q = grind (arith, Numbered-one, NamesDirection-one)

-- one movement at most

pub Names-one : {word : List ℕ} {given : Option (List ℕ)} {m n : Movement} → Names word given m → Names word given n → m ≡ n
Names-one whole whole = refl
Names-one home home = refl
Names-one eol eol = refl
Names-one (bword p) (bword q) = let same = CountWord-one p q in rw (same.0, same.1) refl
Names-one (fword p) (fword q) = let same = CountAtWord-one p q in rw (same.0, same.1, same.2) refl
Names-one (find p) (find q) = let same = CountSearch-one p q in rw (same.0, same.1) refl
Names-one first first = refl
Names-one nonblank nonblank = refl
Names-one (bchar p) (bchar q) = ap (λ x. BackwardChar x) (some_same _ p q)
Names-one (fchar p) (fchar q) = ap (λ x. ForwardChar x) (some_same _ p q)
Names-one (up p) (up q) = ap (λ x. LineUp x) (some_same _ p q)
Names-one (down p) (down q) = ap (λ x. LineDown x) (some_same _ p q)
Names-one (linesup p) (linesup q) = ap (λ x. WholeLinesUp x) (some_same _ p q)
Names-one (linesdown p) (linesdown q) = ap (λ x. WholeLinesDown x) (some_same _ p q)
Names-one buf buf = refl
Names-one bob bob = refl
Names-one eob eob = refl

pub AmountMovement-one : {given : List ℕ} {j k : ℕ} {l m : Movement} → AmountMovement given j l → AmountMovement given k m → (j ≡ k) × (l ≡ m)
AmountMovement-one {m = m} p q =
    let same = Numbered-one p.amounts q.amounts in (same.0, Names-one p.named (subst (λ b. Names (word b) (rest b) m) (sym same.1) q.named))

-- no movement is named

pub no-bword : (given : List ℕ) → HasNoWord given → NamesNothing (codes "bword") (Some given)
no-bword given none movement (bword p) = none _ _ p

pub no-fword : (given : List ℕ) → HasNoAt given → NamesNothing (codes "fword") (Some given)
no-fword given none movement (fword p) = none _ _ _ p

pub no-find : (given : List ℕ) → HasNoSearch given → NamesNothing (codes "find") (Some given)
no-find given none movement (find p) = none _ _ p

-- the characters, then the kind of search, are what they are
pub no_kind : {given after bytes : List ℕ} {n c : ℕ} → Numbered 65535 given n after → rest after ≡ Some bytes → SpellsChar bytes c
    → ((cs : CharSearch) → NamesSearch (word after) c cs → ⊥) → HasNoSearch given
no_kind {c = c} h on char none m cs p = grind (arith, Numbered-one, some_same, SpellsChar-one)

pub ruleset movements = (whole, home, eol, bword, fword, find, first, nonblank, bchar, fchar, up, down, linesup, linesdown, buf, bob, eob, no-bword, no-fword, no-find)
