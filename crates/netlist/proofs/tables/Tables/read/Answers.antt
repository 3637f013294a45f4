use Rattle.std.proofs.Common.{◌≡◌, ℕ, ◌+◌, false, eqb, Ok, Err, refl, ap, ◌∙◌, sym, subst, rules}
use Rattle.std.proofs.lemmas.Fn.{always_returns_same}
use Rattle.netlist_text.specs.Netlists.{blank}
use Rattle.netlist_text.specs.Meaning.{read_line, read_lines}
use Rattle.netlist_text.proofs.Drawn.{Drawn, blank_drawn, line_drawn}
use Rattle.netlist.specs.Drafts.{draft_of}
use Rattle.netlist.specs.declared.fault.ReadFault.TheVariants.{Line}
use Rattle.netlist.specs.Faults.{answered, refusal_of}
use Rattle.netlist.proofs.LineByLine.{parts_left, read_parts, part_taken, line_taken, line_refused, told_taken, told_refused, short_text}
use Rattle.netlist.proofs.tables.Tables.read.Goals as goal

pub loop-i-init : goal.loop-i-init
loop-i-init c =
    let it = c.into_iter-i-iterator.result in
    let begun : it.count ≡ 0 = search rules in
    let more : it.iter.done ≡ false = search rules in
    let all : it.iter.rest.now ≡ c.args.text.now = search rules in (
      (λ i. read_lines (begun i + 1) (c.requires i) (parts_left (more i) (all i))) ∙ read_parts 1 blank c.args.text.now,
      subst Drawn (sym c.requires) blank_drawn,
    )

pub loop-i-preserved : goal.loop-i-preserved
loop-i-preserved c =
    let s = c.loop-i.i-iterator in
    let t = c.next.new.self in
    let d = draft_of c.loop-i.self in
    let e = draft_of c.read_line.new.self in
    let l = c.in-Some.line.now in
    let steps = c.in-Some.ensures.steps in
    let first = part_taken s.iter.done t.iter.done s.iter.rest.now l t.iter.rest.now steps.0.0 steps.0.1 (steps.0.2 (λ b. eqb b 10) (always_returns_same _ _ _ (λ a r q k. (search rules, refl)))).1 in
    let taken : read_line d (s.count + 1) l ≡ Ok e = ap (λ (k : ℕ). read_line d (k + 1) l) (sym steps.1) ∙ told_taken (c.in-Some.i + 1) c.read_line.result e _ c.in_ok-map_err.ensures.variant c.read_line.ensures in (
      ap (λ (k : ℕ). read_lines (k + 1) e (parts_left t.iter.done t.iter.rest.now)) steps.2
          ∙ line_taken (s.count + 1) d (parts_left s.iter.done s.iter.rest.now) (parts_left t.iter.done t.iter.rest.now) l first e taken
          ∙ c.loop-i.invariant.0,
      line_drawn d (s.count + 1) l e c.loop-i.invariant.1 taken,
    )

pub returns-in_err-map_err : goal.returns-in_err-map_err
returns-in_err-map_err c =
    let s = c.loop-i.i-iterator in
    let t = c.next.new.self in
    let d = draft_of c.loop-i.self in
    let e = draft_of c.read_line.new.self in
    let l = c.in-Some.line.now in
    let q = c.in_err-map_err.field-0.0 in
    let steps = c.in-Some.ensures.steps in
    let first = part_taken s.iter.done t.iter.done s.iter.rest.now l t.iter.rest.now steps.0.0 steps.0.1 (steps.0.2 (λ b. eqb b 10) (always_returns_same _ _ _ (λ a r q k. (search rules, refl)))).1 in
    let given = told_refused (c.in-Some.i + 1) c.read_line.result e (read_line d (c.in-Some.i + 1) l) q _ c.in_err-map_err.ensures.cases in
    let refused : read_line d (s.count + 1) l ≡ Err (refusal_of (Line q.0 q.1)) = ap (λ (k : ℕ). read_line d (k + 1) l) (sym steps.1) ∙ given (λ f k. search rules) c.read_line.ensures in
    let result : c.from_residual.result ≡ Err (Line q.0 q.1) = search rules in
    ap (λ r. answered r e.netlist) result
    ∙ line_refused (s.count + 1) d (parts_left s.iter.done s.iter.rest.now) (parts_left t.iter.done t.iter.rest.now) l first (refusal_of (Line q.0 q.1)) refused
    ∙ c.loop-i.invariant.0
    ∙ sym (short_text c.args.text.now c.if-text-gt-TEXT_BYTES.false)
