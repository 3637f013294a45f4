-- What the walk found is the answer.
use Rattle.std.proofs.Common.{is_some, sym, refl, ap, ◌∙◌, subst}
use Rattle.std.specs.Option.{option_map}
use Rattle.solver.specs.Rows.{Row}
use Rattle.solver.specs.Meaning.{Answered}
use Rattle.inline_list.specs.Listed.{listed}
use Rattle.std.specs.List.{list_all}
use Rattle.row_walker.specs.Masks.{row_of, clause_true, Found}
use Rattle.row_walker.specs.Stands.{stands}
use Rattle.row_walker.proofs.Rows.{found_answers}
use Rattle.row_walker.proofs.calls.RowWalkerSolver.solve.Goals as goal

pub returns-clause-cases : goal.returns-clause-cases
returns-clause-cases c =
    let w = c.args.self.now in
    let a = c.args.assumed.now in
    let found = c.first_row-found.result in
    let walked = subst (λ cs. Found w.vars cs a found) c.as_slice.ensures c.first_row-found.ensures in
    let answer = found_answers (stands w) w.vars (listed w.clauses) a (λ _ h. h) (λ _ h. h) w.inside (sym c.if-not-all_named.ensures) found walked in
    let same = λ (row : Row). ap (λ cs. list_all (clause_true row) (listed cs)) c.show.ensures.clauses in
    record {
      kept = record { sizes = refl; vars = c.show.ensures.vars; only = λ row h. sym (same row) ∙ h; each = λ row h. same row ∙ h; room = c.show.ensures.room };
      answered = subst (λ b. Answered (stands w) a b (option_map row_of c.show.new.self.shown)) (sym c.show.ensures.answer) (subst (λ o. Answered (stands w) a (is_some found) (option_map row_of o)) (sym c.show.ensures.shown) answer);
    }
