-- What is left where a script stops at a fault.
use Rattle.rl_session.proofs.Common.{arith, ◌≡◌, ◌≤◌, ◌<◌, ℕ, length, List, [], ◌∷◌, ◌++◌, Option, Some, None, Result, Ok, Err, refl, sym, ap, subst, ◌∙◌, append_assoc, append-nil, inl, inr, Bool, false, true, take_all, Appends-trans, Appends-nil, Consumes-trans, Consumes-nil, Consumes-kept, Appends, Consumes, Keeps, IsAtEnd, IfSome, IfErr, OnErr, ◌==◌, lines_of, whole_lines, onto_some, LineOut, IsCut, HasNext, Leaves, started, Outputs, CutOutputs, Stopped, StoppedBy, HasNoNewline, Cuts, Took, Halts, Runs, Interpreter, ScriptFault, Read, Write}
use Rattle.std.proofs.lemmas.Option.{IfSome_then}
use Rattle.rl_session.specs.Lines.{onto}
use Rattle.rl_session.specs.declared.script.ScriptFault.TheVariants.{NoMemory}
use Rattle.rl_session.proofs.Scripts.LineLemmas.{cut_on, lines_of-ended, lines_of-last, whole_lines-part, HasNoNewline-append, Outputs-append, Took-part}

Cut-whole : (lines : List (List ℕ)) (old new : Interpreter) (out : List ℕ) → Outputs old lines out new → CutOutputs old lines out
Cut-whole [] old new out h = h.0
Cut-whole (x ∷ []) old new out h =
    (h.0, h.1, length h.1, h.4, h.3 ∙ ap (λ l. h.1 ++ l) h.5.0 ∙ append-nil h.1 ∙ sym (take_all (length h.1) h.1 (omega arith)))
Cut-whole (x ∷ y ∷ ys) old new out h = (h.0, h.1, h.2, h.3, h.4, Cut-whole (y ∷ ys) h.0 new h.2 h.5)

-- the output of the last line was cut
Cut-last : (xs : List (List ℕ)) (line : List ℕ) (old mid : Interpreter) (first cut : List ℕ)
    → Outputs old xs first mid → IsCut mid line cut → CutOutputs old (xs ++ line ∷ []) (first ++ cut)
Cut-last [] line old mid first cut h k =
    (k.new, k.whole, k.k, subst (λ s. LineOut s line k.whole k.new) h.1 k.output, ap (λ l. l ++ cut) h.0 ∙ k.is)
Cut-last (x ∷ []) line old mid first cut h k =
    (h.0, h.1, h.2 ++ cut, ap (λ l. l ++ cut) h.3 ∙ append_assoc h.1 h.2 cut, h.4, Cut-last [] line h.0 mid h.2 cut h.5 k)
Cut-last (x ∷ y ∷ ys) line old mid first cut h k =
    (h.0, h.1, h.2 ++ cut, ap (λ l. l ++ cut) h.3 ∙ append_assoc h.1 h.2 cut, h.4, Cut-last (y ∷ ys) line h.0 mid h.2 cut h.5 k)

-- there is a line where there is a byte
onto-line : (b : ℕ) (ls : List (List ℕ)) → (line : List ℕ) × (lines : List (List ℕ)) × (onto b ls ≡ line ∷ lines)
onto-line b [] = (b ∷ [], [], refl)
onto-line b (line ∷ lines) = (b ∷ line, lines, refl)

some_line : (b : ℕ) (bs : List ℕ) → (line : List ℕ) × (lines : List (List ℕ)) × (lines_of (b ∷ bs) ≡ line ∷ lines)
some_line b bs = by_test (b == 10) refl where
  by_test : (t : Bool) → (b == 10) ≡ t → (line : List ℕ) × (lines : List (List ℕ)) × (lines_of (b ∷ bs) ≡ line ∷ lines)
  by_test true e = ([], lines_of bs, rw e refl)
  by_test false e = let found = onto-line b (lines_of bs) in (found.0, found.1, rw e found.2)

line_with : (part : List ℕ) (b : ℕ) (bs : List ℕ) → (line : List ℕ) × (lines : List (List ℕ)) × (lines_of (part ++ b ∷ bs) ≡ line ∷ lines)
line_with [] b bs = some_line b bs
line_with (c ∷ cs) b bs = some_line c (cs ++ b ∷ bs)

-- nothing of the line was written
pub Halts-none : (old : Interpreter) (part bytes : List ℕ) (held : Option (List ℕ)) → 0 < length bytes → Halts NoMemory old part bytes held held
Halts-none old part [] held some = absurd (omega arith)
Halts-none old part (b ∷ bytes) held some = record {
  lines = [];
  out = [];
  now = old;
  line = λ more. (line_with part b (bytes ++ more)).0;
  others = λ more. (line_with part b (bytes ++ more)).1;
  cut = [];
  split = λ more. (line_with part b (bytes ++ more)).2;
  outputs = (refl, refl);
  written = Appends-nil held;
  cuts = λ more. refl;
}

-- a part of a line's output was written
pub Halts-line : (old : Interpreter) (line written : List ℕ) (a b : Option (List ℕ)) → HasNoNewline line → IsCut old line written
    → Appends a b written → Halts Write old line (10 ∷ []) a b
Halts-line old line written a b h cut w = record {
  lines = [];
  out = [];
  now = old;
  line = λ more. line;
  others = lines_of;
  cut = written;
  split = λ more. lines_of-ended line more h;
  outputs = (refl, refl);
  written = w;
  cuts = λ more. cut;
}

pub Halts-after : (fault : ScriptFault) (old mid : Interpreter) (part part' bytes bytes' : List ℕ) (a b c : Option (List ℕ))
    → Took old part bytes a b mid part' → Halts fault mid part' bytes' b c → Halts fault old part (bytes ++ bytes') a c
Halts-after fault old mid part part' bytes bytes' a b c h k = record {
  lines = h.lines ++ k.lines;
  out = h.out ++ k.out;
  now = k.now;
  line = k.line;
  others = k.others;
  cut = k.cut;
  split = λ more. cut_on lines_of part bytes bytes' more h.lines k.lines _ _ (h.split (bytes' ++ more)) (k.split more);
  outputs = Outputs-append h.lines k.lines old mid k.now h.out k.out h.outputs k.outputs;
  written = subst (λ l. Appends a c l) (sym (append_assoc h.out k.out k.cut)) (Appends-trans a b c h.out (k.out ++ k.cut) h.written k.written);
  cuts = k.cuts;
}

-- the same of a line that begins with a part
pub Halts-ended : (old : Interpreter) (part end written : List ℕ) (a b : Option (List ℕ)) → HasNoNewline part → HasNoNewline end → IsCut old (part ++ end) written
    → Appends a b written → Halts Write old part (end ++ 10 ∷ []) a b
Halts-ended old part end written a b h k cut w =
    Halts-after Write old old part (part ++ end) end (10 ∷ []) a a b (Took-part old part end a) (Halts-line old (part ++ end) written a b (HasNoNewline-append part end h k) cut w)

-- whatever comes after it
pub Halts-longer : (fault : ScriptFault) (old : Interpreter) (part bytes further : List ℕ) (a c : Option (List ℕ))
    → Halts fault old part bytes a c → Halts fault old part (bytes ++ further) a c
Halts-longer fault old part bytes further a c h = record {
  lines = h.lines;
  out = h.out;
  now = h.now;
  line = λ more. h.line (further ++ more);
  others = λ more. h.others (further ++ more);
  cut = h.cut;
  split = λ more. ap (λ l. lines_of (part ++ l)) (append_assoc bytes further more) ∙ h.split (further ++ more);
  outputs = h.outputs;
  written = h.written;
  cuts = λ more. h.cuts (further ++ more);
}

-- what is left of a script
known : Option (List ℕ) → List ℕ
known None = []
known (Some bytes) = bytes

-- the reader had what was read, and something after it
next_after : (left leaves : Option (List ℕ)) (input : List ℕ) (lines : List (List ℕ)) (line : List ℕ → List ℕ) (others : List ℕ → List (List ℕ))
    → Consumes left leaves input → ((more : List ℕ) → lines_of (input ++ more) ≡ lines ++ line more ∷ others more) → HasNext left lines (line (known leaves))
unfolding known
next_after None leaves input lines line others r h = tt
next_after (Some script) None input lines line others r h = absurd r
next_after (Some script) (Some more) input lines line others r h = (others more, ap lines_of r ∙ h more)

-- the reader had what was read and no more
next_at_end : (left leaves : Option (List ℕ)) (input : List ℕ) (lines : List (List ℕ)) (line : List ℕ) (others : List (List ℕ))
    → Consumes left leaves input → IsAtEnd leaves → lines_of input ≡ lines ++ line ∷ others → HasNext left lines line
next_at_end None leaves input lines line others r e h = tt
next_at_end (Some script) None input lines line others r e h = absurd r
next_at_end (Some script) (Some more) input lines line others r e h = (others, ap lines_of (r ∙ ap (λ l. input ++ l) e ∙ append-nil input) ∙ h)

Leaves-next : (fault : ScriptFault) (left : Option (List ℕ)) (read : List ℕ) (lines : List (List ℕ)) (line : List ℕ) (now : Interpreter) (cut : List ℕ)
    → HasNext left lines line → Cuts fault now line cut → Leaves fault left read lines now cut
Leaves-next Read left read lines line now cut h c = absurd c
Leaves-next Write left read lines line now cut h c = (line, h, c)
Leaves-next NoMemory left read lines line now cut h c = (inl (line, h), c)

-- the lines that were run before a part of one are those that were read whole
run_whole : (left mid held holds : Option (List ℕ)) (now : Interpreter) (part : List ℕ) (h : Runs left mid held holds now part) → HasNoNewline part
    → h.took.lines ≡ whole_lines h.input
run_whole left mid held holds now part h n =
    sym (
    ap whole_lines (sym (append-nil h.input))
    ∙ h.took.ended []
    ∙ ap (λ l. h.took.lines ++ l) (ap whole_lines (append-nil part) ∙ whole_lines-part part n)
    ∙ append-nil h.took.lines
    )

-- a fault at the line after those
StoppedBy-next : (fault : ScriptFault) (left mid leaves held holds now_holds : Option (List ℕ)) (now : Interpreter) (part bytes block line : List ℕ)
    → (h : Runs left mid held holds now part) → HasNoNewline part → (k : Halts fault now part bytes holds now_holds) → Consumes left leaves (h.input ++ block) → length block ≤ 4096
    → HasNext left (h.took.lines ++ k.lines) line → Cuts fault k.now line k.cut → StoppedBy fault left leaves held now_holds
StoppedBy-next fault left mid leaves held holds now_holds now part bytes block line h n k read small next cuts = record {
  before = h.input;
  block = block;
  lines = h.took.lines ++ k.lines;
  out = h.took.out ++ k.out;
  now = k.now;
  cut = k.cut;
  read = read;
  small = small;
  in_time = (k.lines, ap (λ l. l ++ k.lines) (run_whole left mid held holds now part h n));
  outputs = Outputs-append h.took.lines k.lines started now k.now h.took.out k.out h.took.outputs k.outputs;
  written = subst (λ l. Appends held now_holds l) (sym (append_assoc h.took.out k.out k.cut))
      (Appends-trans held holds now_holds h.took.out (k.out ++ k.cut) h.took.written k.written);
  at_fault = Leaves-next fault left (h.input ++ block) (h.took.lines ++ k.lines) line k.now k.cut next cuts;
}

pub StoppedBy-halts : (fault : ScriptFault) (left mid leaves held holds now_holds : Option (List ℕ)) (now : Interpreter) (part bytes : List ℕ)
    → Runs left mid held holds now part → HasNoNewline part → Consumes mid leaves bytes → length bytes ≤ 4096 → Halts fault now part bytes holds now_holds
    → StoppedBy fault left leaves held now_holds
unfolding Halts-after
StoppedBy-halts fault left mid leaves held holds now_holds now part bytes h n r few k =
    let all = Halts-after fault started now [] part h.input bytes held holds now_holds h.took k in
    let read = Consumes-trans left mid leaves h.input bytes h.read r in
    StoppedBy-next fault left mid leaves held holds now_holds now part bytes bytes (all.line (known leaves)) h n k read few
    (next_after left leaves (h.input ++ bytes) all.lines all.line all.others read all.split) (all.cuts (known leaves))

-- the last line of a script that ends within it
pub StoppedBy-last : (fault : ScriptFault) (left mid leaves held holds now_holds : Option (List ℕ)) (now : Interpreter) (part : List ℕ)
    → Runs left mid held holds now part → HasNoNewline part → (part ≡ [] → ⊥) → Consumes mid leaves [] → IsAtEnd leaves
    → Halts fault now part (10 ∷ []) holds now_holds → StoppedBy fault left leaves held now_holds
StoppedBy-last fault left mid leaves held holds now_holds now [] h n e r end k = absurd (e refl)
StoppedBy-last fault left mid leaves held holds now_holds now (b ∷ bs) h n e r end k =
    let part = b ∷ bs in
    let read = Consumes-trans left mid leaves h.input [] h.read r in
    let lines = h.took.lines ++ k.lines in
    let whole : lines_of (h.input ++ []) ≡ lines ++ k.line [] ∷ k.others [] =
    h.took.split []
    ∙ ap (λ l. h.took.lines ++ lines_of l) (append-nil part)
    ∙ ap (λ ls. h.took.lines ++ ls) (lines_of-last b bs n ∙ sym (lines_of-ended part [] n) ∙ k.split [])
    ∙ sym (append_assoc h.took.lines k.lines (k.line [] ∷ k.others [])) in
    StoppedBy-next fault left mid leaves held holds now_holds now part (10 ∷ []) [] (k.line []) h n k read (omega arith)
    (next_at_end left leaves (h.input ++ []) lines (k.line []) (k.others []) read end whole) (k.cuts [])

-- before the first line
pub StoppedBy-first : (left held : Option (List ℕ)) → StoppedBy NoMemory left left held held
StoppedBy-first left held = record {
  before = [];
  block = [];
  lines = [];
  out = [];
  now = started;
  cut = [];
  read = Consumes-nil left;
  small = omega arith;
  in_time = ([], refl);
  outputs = (refl, refl);
  written = Appends-nil held;
  at_fault = (inr (refl, refl), refl);
}

-- where a read fails
pub StoppedBy-read : (left mid leaves held holds : Option (List ℕ)) (now : Interpreter) (part : List ℕ)
    → Runs left mid held holds now part → HasNoNewline part → Keeps mid leaves → StoppedBy Read left leaves held holds
StoppedBy-read left mid leaves held holds now part h n k =
    let whole = run_whole left mid held holds now part h n in
    record {
      before = h.input;
      block = [];
      lines = h.took.lines;
      out = h.took.out;
      now = now;
      cut = [];
      read = subst (λ l. Consumes left leaves l) (sym (append-nil h.input)) (Consumes-kept left mid leaves h.input h.read k);
      small = omega arith;
      in_time = ([], whole ∙ sym (append-nil (whole_lines h.input)));
      outputs = h.took.outputs;
      written = subst (λ l. Appends held holds l) (sym (append-nil h.took.out)) h.took.written;
      at_fault = (whole ∙ ap whole_lines (sym (append-nil h.input)), refl);
    }

-- Each fault leaves an output that is perhaps cut.

onto-front : (b : ℕ) (ls ws others : List (List ℕ)) → ls ≡ ws ++ others → (others' : List (List ℕ)) × (onto b ls ≡ onto_some b ws ++ others')
onto-front b ls [] others e = (onto b ls, refl)
onto-front b ls (w ∷ ws) others e = (others, ap (onto b) e)

byte_front : (b : ℕ) (bs more : List ℕ) (t : Bool) → (b == 10) ≡ t → (others : List (List ℕ)) × (lines_of (bs ++ more) ≡ whole_lines bs ++ others)
    → (others : List (List ℕ)) × (lines_of ((b ∷ bs) ++ more) ≡ whole_lines (b ∷ bs) ++ others)
byte_front b bs more true e rest = (rest.0, rw e (ap (λ l. [] ∷ l) rest.1))
byte_front b bs more false e rest = let found = onto-front b (lines_of (bs ++ more)) (whole_lines bs) rest.0 rest.1 in (found.0, rw e found.1)

whole_lines-front : (read more : List ℕ) → (others : List (List ℕ)) × (lines_of (read ++ more) ≡ whole_lines read ++ others)
whole_lines-front [] more = (lines_of more, refl)
whole_lines-front (b ∷ bs) more = byte_front b bs more (b == 10) refl (whole_lines-front bs more)

read_front : (left leaves : Option (List ℕ)) (read : List ℕ) (lines : List (List ℕ)) → Consumes left leaves read → lines ≡ whole_lines read
    → IfSome left (λ script. (others : List (List ℕ)) × (lines_of script ≡ lines ++ others))
read_front None leaves read lines r e = tt
read_front (Some script) None read lines r e = absurd r
read_front (Some script) (Some more) read lines r e =
    let found = whole_lines-front read more in (found.0, ap lines_of r ∙ found.1 ∙ ap (λ l. l ++ found.0) (sym e))

none_of : (left : Option (List ℕ)) (lines : List (List ℕ)) → lines ≡ []
    → IfSome left (λ script. (others : List (List ℕ)) × (lines_of script ≡ lines ++ others))
none_of None lines e = tt
none_of (Some script) lines e = (lines_of script, ap (λ l. l ++ lines_of script) (sym e))

-- where nothing of the next line was written
stopped_whole : (fault : ScriptFault) (left leaves held holds : Option (List ℕ)) (h : StoppedBy fault left leaves held holds) → h.cut ≡ []
    → IfSome left (λ script. (others : List (List ℕ)) × (lines_of script ≡ h.lines ++ others)) → Stopped left held holds
stopped_whole fault left leaves held holds h none front = grind (arith, append-nil, Cut-whole)

pub Stopped-by : (fault : ScriptFault) (left leaves held holds : Option (List ℕ)) → StoppedBy fault left leaves held holds → Stopped left held holds
Stopped-by Read left leaves held holds h =
    stopped_whole Read left leaves held holds h h.at_fault.1 (read_front left leaves (h.before ++ h.block) h.lines h.read h.at_fault.0)
Stopped-by Write left leaves held holds h = record {
  lines = h.lines ++ h.at_fault.0 ∷ [];
  out = h.out ++ h.cut;
  front = IfSome_then left h.at_fault.1 (λ script next. (next.0, next.1 ∙ sym (append_assoc h.lines (h.at_fault.0 ∷ []) next.0)));
  written = h.written;
  outputs = Cut-last h.lines h.at_fault.0 started h.now h.out h.cut h.outputs h.at_fault.2;
}
Stopped-by NoMemory left leaves held holds h =
    stopped_whole NoMemory left leaves held holds h h.at_fault.1
    (elim h.at_fault.0 [ inl next ↦ IfSome_then left next.1 (λ script n. (next.0 ∷ n.0, n.1)) | inr none ↦ none_of left h.lines none.1 ])

pub Stopped-at : (left leaves held holds : Option (List ℕ)) (r : Result Unit ScriptFault) → IfErr r (λ fault. StoppedBy fault left leaves held holds)
    → OnErr r (Stopped left held holds)
Stopped-at left leaves held holds (Ok _) h = tt
Stopped-at left leaves held holds (Err fault) h = Stopped-by fault left leaves held holds h

-- what a call that answers one fault alone leaves
pub IfErr-only : {A E X : Type 0} (P : E → Type 0) (r : Result A E) (only : E) → IfErr r (λ f. f ≡ only) → OnErr r X → (X → P only) → IfErr r P
IfErr-only P (Ok a) only e h f = tt
IfErr-only P (Err x) only e h f = subst P (sym e) (f h)
