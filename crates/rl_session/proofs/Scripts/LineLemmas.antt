-- How the lines of a script part it, and how what is written for them joins.
use Rattle.rl_session.proofs.Common.{◌≡◌, ℕ, zero, suc, length, take, drop, List, [], ◌∷◌, ◌++◌, Option, Some, None, ◌<◌, arith, refl, sym, ap, subst, ◌∙◌, append_assoc, append-nil, inl, inr, eq-eqb, ne_eqb, Nowhere, Passes, is_byte, Appends-trans, Appends-nil, Consumes-trans, Appends, Consumes, IsAtEnd, lines_of, whole_lines, onto_some, started, Outputs, Ran, HasNoNewline, IsSaid, SaidOut, Took, Runs, meaning_of, ScriptLine, Interpreter, add-one, take_rest}
use borrow.Author.Tests.{eqb-true}
use Rattle.rl_session.specs.Lines.{onto}
use Rattle.rl_session.specs.Script.{LineOut}
use Rattle.std.proofs.lemmas.Grind.{common_steps}

-- a line that a newline ends
pub lines_of-ended : (line rest : List ℕ) → HasNoNewline line → lines_of (line ++ 10 ∷ rest) ≡ line ∷ lines_of rest
lines_of-ended [] rest h = refl
lines_of-ended (b ∷ bs) rest h = rw (ne_eqb b 10 h.0) (ap (onto b) (lines_of-ended bs rest h.1))

-- a line that the end of the script ends
pub lines_of-last : (b : ℕ) (bs : List ℕ) → HasNoNewline (b ∷ bs) → lines_of (b ∷ bs) ≡ (b ∷ bs) ∷ []
lines_of-last b [] h = rw (ne_eqb b 10 h.0) refl
lines_of-last b (c ∷ cs) h = rw (ne_eqb b 10 h.0) (ap (onto b) (lines_of-last c cs h.1))

pub whole_lines-ended : (line rest : List ℕ) → HasNoNewline line → whole_lines (line ++ 10 ∷ rest) ≡ line ∷ whole_lines rest
whole_lines-ended [] rest h = refl
whole_lines-ended (b ∷ bs) rest h = rw (ne_eqb b 10 h.0) (ap (onto_some b) (whole_lines-ended bs rest h.1))

-- a part of a line is none
pub whole_lines-part : (part : List ℕ) → HasNoNewline part → whole_lines part ≡ []
whole_lines-part [] h = refl
whole_lines-part (b ∷ bs) h = rw (ne_eqb b 10 h.0) (ap (onto_some b) (whole_lines-part bs h.1))

pub HasNoNewline-append : (xs ys : List ℕ) → HasNoNewline xs → HasNoNewline ys → HasNoNewline (xs ++ ys)
HasNoNewline-append [] ys h k = k
HasNoNewline-append (x ∷ xs) ys h k = (h.0, HasNoNewline-append xs ys h.1 k)

-- what a search for a newline passed by
pub HasNoNewline-nowhere : (bytes : List ℕ) → Nowhere (Passes (is_byte 10) bytes) 0 (length bytes) → HasNoNewline bytes
HasNoNewline-nowhere [] h = tt
HasNoNewline-nowhere (b ∷ bs) h =
    (λ e. h 0 (omega arith) (omega arith) (eq-eqb b 10 e), HasNoNewline-nowhere bs (λ k from to. h (suc k) (omega arith) (omega arith)))

-- and what it found
pub parted : (bytes : List ℕ) (n : ℕ) → n < length bytes → Nowhere (Passes (is_byte 10) bytes) 0 n → Passes (is_byte 10) bytes n
    → HasNoNewline (take n bytes) × (bytes ≡ take n bytes ++ 10 ∷ drop (suc n) bytes)
parted [] n l h p = absurd (omega arith)
parted (b ∷ bs) zero l h p = (tt, ap (λ x. x ∷ bs) (eqb-true b 10 p))
parted (b ∷ bs) (suc n) l h p =
    let rest = parted bs n (omega arith) (λ k from to. h (suc k) (omega arith) (omega arith)) p in (
      (λ e. h 0 (omega arith) (omega arith) (eq-eqb b 10 e), rest.0),
      ap (λ l. b ∷ l) rest.1,
    )

-- a front of some bytes, with one line more
pub longer_front : (bytes front rest end after : List ℕ) → bytes ≡ front ++ rest → rest ≡ end ++ 10 ∷ after → bytes ≡ (front ++ (end ++ 10 ∷ [])) ++ after
longer_front bytes front rest end after e f =
    e ∙ ap (λ l. front ++ l) (f ∙ sym (append_assoc end (10 ∷ []) after)) ∙ sym (append_assoc front (end ++ 10 ∷ []) after)

-- what was read of a line was done
pub LineOut-said : (old new : Interpreter) (line : List ℕ) (said : Option ScriptLine) (out : List ℕ) → IsSaid line said → SaidOut old said out new → LineOut old line out new
unfolding LineOut
LineOut-said old new line None out h k = inr (h, k.0, k.1)
LineOut-said old new line (Some s) out h k = inl (meaning_of s, h, k)

pub Outputs-append : (xs ys : List (List ℕ)) (old mid new : Interpreter) (first others : List ℕ)
    → Outputs old xs first mid → Outputs mid ys others new → Outputs old (xs ++ ys) (first ++ others) new
Outputs-append [] ys old mid new first others h k = grind (arith)
Outputs-append (x ∷ xs) ys old mid new first others h k = grind (arith, append_assoc, (Outputs-append xs ys h.0 mid new h.2 others h.5 k))

-- some bytes more of a line
pub Took-part : (old : Interpreter) (part bytes : List ℕ) (held : Option (List ℕ)) → Took old part bytes held held old (part ++ bytes)
Took-part old part bytes held = grind (arith, append_assoc, Appends-nil)

-- what some bytes are cut into, and then more
pub cut_on : (cut : List ℕ → List (List ℕ)) (part bytes bytes' more : List ℕ) (xs ys mid rest : List (List ℕ)) → cut (part ++ (bytes ++ (bytes' ++ more))) ≡ xs ++ mid → mid ≡ ys ++ rest
    → cut (part ++ ((bytes ++ bytes') ++ more)) ≡ (xs ++ ys) ++ rest
cut_on cut part bytes bytes' more xs ys mid rest p q =
    ap (λ l. cut (part ++ l)) (append_assoc bytes bytes' more) ∙ p ∙ ap (λ l. xs ++ l) q ∙ sym (append_assoc xs ys rest)

pub Took-trans : (old mid new : Interpreter) (part part' part'' bytes bytes' : List ℕ) (a b c : Option (List ℕ))
    → Took old part bytes a b mid part' → Took mid part' bytes' b c new part'' → Took old part (bytes ++ bytes') a c new part''
Took-trans old mid new part part' part'' bytes bytes' a b c h k = grind (arith, common_steps, cut_on, Outputs-append, Appends-trans)

-- a line that a newline ended was run and written
pub Took-line : (old new : Interpreter) (line out : List ℕ) (a b : Option (List ℕ)) → HasNoNewline line → LineOut old line out new → Appends a b out
    → Took old line (10 ∷ []) a b new []
Took-line old new line out a b h k w = record {
  lines = line ∷ [];
  out = out;
  split = λ more. lines_of-ended line more h;
  ended = λ more. whole_lines-ended line more h;
  outputs = (new, out, [], sym (append-nil out), k, (refl, refl));
  written = w;
}

-- the same of a line that begins with a part
pub Took-ended : (old new : Interpreter) (part end out : List ℕ) (a b : Option (List ℕ)) → HasNoNewline part → HasNoNewline end
    → LineOut old (part ++ end) out new → Appends a b out → Took old part (end ++ 10 ∷ []) a b new []
Took-ended old new part end out a b h k l w =
    Took-trans old old new part (part ++ end) [] end (10 ∷ []) a a b (Took-part old part end a) (Took-line old new (part ++ end) out a b (HasNoNewline-append part end h k) l w)

-- nothing was read yet
Consumes-nothing : (left : Option (List ℕ)) → Consumes left left []
Consumes-nothing None = tt
Consumes-nothing (Some bytes) = refl

pub Runs-nothing : (left held : Option (List ℕ)) (now : Interpreter) (part : List ℕ) → now ≡ started → part ≡ [] → Runs left left held held now part
Runs-nothing left held now part e none = record {
  input = [];
  read = Consumes-nothing left;
  took = record {
    lines = [];
    out = [];
    split = λ more. ap (λ p. lines_of (p ++ more)) (sym none);
    ended = λ more. ap (λ p. whole_lines (p ++ more)) (sym none);
    outputs = (refl, e);
    written = Appends-nil held;
  };
}

-- more was read, and taken
pub Runs-more : (left mid leaves held holds now_holds : Option (List ℕ)) (now new : Interpreter) (part part' bytes : List ℕ)
    → Runs left mid held holds now part → Consumes mid leaves bytes → Took now part bytes holds now_holds new part' → Runs left leaves held now_holds new part'
Runs-more left mid leaves held holds now_holds now new part part' bytes h r k = record {
  input = h.input ++ bytes;
  read = Consumes-trans left mid leaves h.input bytes h.read r;
  took = Took-trans started now new [] part part' h.input bytes held holds now_holds h.took k;
}

-- the script ended after a newline, or was empty
pub Ran-end : (left mid leaves held holds : Option (List ℕ)) (now : Interpreter) (part : List ℕ)
    → Runs left mid held holds now part → part ≡ [] → Consumes mid leaves [] → IsAtEnd leaves → Ran left leaves held holds
Ran-end left mid leaves held holds now part h e r end = grind (arith, append-nil, Consumes-trans)

-- the script ended within a line, which was then run
pub Ran-last : (left mid leaves held holds now_holds : Option (List ℕ)) (now new : Interpreter) (part : List ℕ)
    → Runs left mid held holds now part → HasNoNewline part → (part ≡ [] → ⊥) → Consumes mid leaves [] → IsAtEnd leaves
    → Took now part (10 ∷ []) holds now_holds new [] → Ran left leaves held now_holds
Ran-last left mid leaves held holds now_holds now new [] h n e r end k = absurd (e refl)
Ran-last left mid leaves held holds now_holds now new (b ∷ bs) h n e r end k =
    let part = b ∷ bs in
    let whole : h.took.lines ++ k.lines ≡ lines_of h.input =
    sym (
    ap lines_of (sym (append-nil h.input))
    ∙ h.took.split []
    ∙ ap (λ l. h.took.lines ++ lines_of l) (append-nil part)
    ∙ ap (λ ls. h.took.lines ++ ls) (lines_of-last b bs n ∙ sym (lines_of-ended part [] n) ∙ k.split [] ∙ append-nil k.lines)
    ) in
    record {
      input = h.input;
      output = h.took.out ++ k.out;
      last = new;
      read = subst (λ l. Consumes left leaves l) (append-nil h.input) (Consumes-trans left mid leaves h.input [] h.read r);
      ended = end;
      written = Appends-trans held holds now_holds h.took.out k.out h.took.written k.written;
      outputs = subst (λ ls. Outputs started ls (h.took.out ++ k.out) new) whole
          (Outputs-append h.took.lines k.lines started now new h.took.out k.out h.took.outputs k.outputs);
    }

pub ruleset lines = (HasNoNewline-nowhere, parted, add-one, take_rest)
