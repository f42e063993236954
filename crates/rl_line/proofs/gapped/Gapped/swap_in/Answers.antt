use Rattle.rl_line.proofs.Common.{IsAround, List, ap, ap₂, arith, drop, length, line_of, max, remove_range, replace_range, subst, sym, take, take_at, ℕ, ◌++◌, ◌+◌, ◌-◌, ◌∙◌, ◌≡◌, ◌≤◌}
use Rattle.rl_line.proofs.Lines.GapLemmas.{IsAround-stepped, length-gapped}
use Rattle.rl_line.proofs.Lines.RoomyLemmas.{length-swapped}
use Rattle.rl_line.proofs.gapped.Gapped.swap_in.Goals.{After-max-limit}
use Rattle.rl_line.specs.Gapped.{Gapped}
use Rattle.rl_line.proofs.gapped.Gapped.swap_in.Goals as goal

-- the bytes after the part went in
abbrev bytes : After-max-limit → List ℕ
bytes c = take c.self.inside.bytes.len (c.put_in.new.bytes ++ drop (length c.put_in.new.bytes) c.self.inside.bytes.items)

abbrev text : After-max-limit → List ℕ
text c = replace_range c.args.self.now.roomy.line.text c.args.from c.args.to c.args.part.now

gap-is : (c : After-max-limit) → c.self.inside.gap ≡ c.args.from
gap-is c = ap (λ (g : Gapped). g.gap) (c.self.view_is ∙ c.move_gap.ensures)

text-was : (c : After-max-limit) → remove_range c.self.inside.bytes.items c.self.inside.gap c.self.inside.rest ≡ c.args.self.now.roomy.line.text
text-was c = ap (λ (g : Gapped). g.roomy.line.text) (c.self.view_is ∙ c.move_gap.ensures)

size : (c : After-max-limit) → length c.put_in.new.bytes ≡ length c.self.inside.bytes.items
size c = c.put_in.auto.bytes ∙ ap length c.as_mut_slice.ensures.value

bytes-are : (c : After-max-limit) → bytes c ≡ c.put_in.new.bytes
bytes-are c = take_at c.put_in.new.bytes _ c.self.inside.bytes.len (omega (arith, size c, c.self.inside.bytes.ok.0))

text-is : (c : After-max-limit) → remove_range (bytes c) (c.args.from + length c.args.part.now) (c.self.inside.rest + (c.args.to - c.args.from)) ≡ text c
text-is c =
    let rest = c.self.inside.rest in
    let from = c.args.from in
    let going = c.args.to - from in
    let until : from + going ≡ c.args.to = omega (arith, c.requires.range.0) in
    let was : remove_range c.as_mut_slice.result.now from rest ≡ c.args.self.now.roomy.line.text =
    ap (λ l. remove_range l from rest) c.as_mut_slice.ensures.value ∙ ap (λ g. remove_range c.self.inside.bytes.items g rest) (sym (gap-is c)) ∙ text-was c in
    ap₂ (λ l (p : List ℕ). remove_range l (from + length p) (rest + going)) (bytes-are c) (sym c.as_bytes.ensures.value) ∙ c.put_in.ensures
    ∙ ap₂ (λ t p. replace_range t from (from + going) p) was c.as_bytes.ensures.value ∙ ap (λ e. replace_range c.args.self.now.roomy.line.text from e c.args.part.now) until

left : (c : After-max-limit) → c.len.result ≡ length c.args.self.now.roomy.line.text
left c = c.len.ensures.len ∙ ap (λ (g : Gapped). length g.roomy.line.text) c.move_gap.ensures

length-is : (c : After-max-limit) → length (text c) ≡ length c.args.self.now.roomy.line.text - (c.args.to - c.args.from) + length c.args.part.now
length-is c = length-swapped c.args.self.now.roomy.line.text c.args.part.now c.args.from c.args.to c.requires.range.0 c.requires.range.2.0

limit-is : (c : After-max-limit) → c.max-limit.result ≡ max c.self.inside.limit (length (text c))
limit-is c = c.max-limit.ensures ∙ ap (max c.self.inside.limit) (omega (arith, left c, length-is c, c.requires.range.0, c.requires.range.2.0))

fits : (c : After-max-limit) → (c.args.from + length c.args.part.now ≤ c.self.inside.rest + (c.args.to - c.args.from)) × (c.self.inside.rest + (c.args.to - c.args.from) ≤ length (bytes c))
fits c =
    let items = c.self.inside.bytes.items in
    let room = ap (λ (g : Gapped). g.roomy.bytes) (c.self.view_is ∙ c.move_gap.ensures) in
    let was = length-gapped items c.self.inside.gap c.self.inside.rest c.self.invariant.order c.self.invariant.inside in
    let same = ap length (text-was c) in
    let now = ap length (bytes-are c) in (
      omega (arith, c.requires.room, length-is c, room, was, same, gap-is c, c.requires.range.0, c.requires.range.2.0, c.self.invariant.order, c.self.invariant.inside),
      omega (arith, now, size c, was, same, gap-is c, c.requires.range.0, c.requires.range.2.0, c.self.invariant.order, c.self.invariant.inside),
    )

pub invariant_of-self : goal.invariant_of-self
invariant_of-self c =
    let d = (goal.at.invariant_of-self c).After-max-limit in
    let inside = c.self.inside in
    let starts = inside.starts.places.items in
    let around = subst (λ t. IsAround t starts inside.starts.border inside.front inside.back inside.has_starts inside.pos inside.limit) (text-was d) c.self.invariant.around in
    let stepped = IsAround-stepped c.args.self.now.roomy.line.text c.args.part.now starts c.args.from c.args.to inside.starts.border inside.front inside.back inside.has_starts c.is_around-has_starts.result inside.pos c.args.cursor inside.limit
    around c.utf8.part c.requires.range.0 c.requires.range.1 c.requires.range.2 c.requires.cursor
    (λ yes. let k = c.is_around-has_starts.ensures yes in (k.0, k.1, omega (arith, k.2, left d))) in
    record {
      order = (fits d).0;
      inside = (fits d).1;
      around = subst (λ t. IsAround t starts inside.starts.border inside.front inside.back c.is_around-has_starts.result c.args.cursor c.max-limit.result) (sym (text-is d))
          (subst (λ l. IsAround (text d) starts inside.starts.border inside.front inside.back c.is_around-has_starts.result c.args.cursor l) (sym (limit-is d)) stepped);
    }

pub returns-clause-line : goal.returns-clause-line
returns-clause-line c =
    let d = (goal.at.returns-clause-line c).After-max-limit in
    let grow = ap (λ (g : Gapped). g.roomy.line.grow) (c.self.view_is ∙ c.move_gap.ensures) in
    let limit = limit-is d ∙ ap (λ (g : Gapped). max g.roomy.line.limit (length (text d))) (c.self.view_is ∙ c.move_gap.ensures) in
    ap₂ (λ t l. line_of t c.args.cursor l c.self.inside.can_growth) (text-is d) limit
    ∙ ap (λ g. line_of (text d) c.args.cursor (max c.args.self.now.roomy.line.limit (length (text d))) g) grow
