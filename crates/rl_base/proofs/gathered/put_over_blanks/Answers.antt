use Rattle.rl_base.proofs.Common.{arith, length, ◌-◌, subst, sym, string_bytes, BeginsBlank}
use Rattle.rl_base.proofs.Texts.GatheredLemmas.{fronted, may_cut}
use Rattle.rl_base.proofs.gathered.put_over_blanks.Goals as goal

pub replace_range-requires-clause-start_boundary : goal.replace_range-requires-clause-start_boundary
replace_range-requires-clause-start_boundary c =
    let at = may_cut c.args.buf.now c.args.blanks (c.args.blanks - length c.args.part.now) c.requires.begins (omega arith) in (at.0, λ _. at.1)

pub replace_range-requires-clause-end_boundary : goal.replace_range-requires-clause-end_boundary
replace_range-requires-clause-end_boundary c =
    let at = may_cut c.args.buf.now c.args.blanks c.args.blanks c.requires.begins (omega arith) in (at.0, λ _. at.1)

pub returns-in_default-clause-blanks : goal.returns-in_default-clause-blanks
returns-in_default-clause-blanks c =
    let put = fronted (string_bytes c.args.buf.now) c.args.part.now c.args.blanks (c.args.blanks - length c.args.part.now) c.requires.begins (omega arith) in
    subst (BeginsBlank (c.args.blanks - length c.args.part.now)) (sym c.in_default.ensures.bytes) put.blanks

pub replace_range-requires-2-clause-end_boundary : goal.replace_range-requires-2-clause-end_boundary
replace_range-requires-2-clause-end_boundary c =
    let at = may_cut c.replace_range.new.self c.args.blanks c.args.blanks (rw c.in-Err.ensures.err.0 c.requires.begins) (omega arith) in (at.0, λ _. at.1)
