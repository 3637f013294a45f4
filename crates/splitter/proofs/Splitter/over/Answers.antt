-- The solver below takes the begin, and the splitter stands for what it then is.
use Rattle.std.proofs.Common.{◌≡◌, ℕ, sym, refl, ap, ◌∙◌, subst, arith}
use Rattle.solver.specs.Meaning.{Begun}
use Rattle.splitter.specs.Sizes.{full_over, sizes_over}
use Rattle.splitter.proofs.Splitter.over.Goals as goal

pub returns : goal.returns
returns g c =
    let b = g.S.Solver.meaning c.args.below in
    let n = g.S.Solver.meaning c.begin_taken.new.below in
    let full = c.full_over-full.result in
    let e : full ≡ full_over b.sizes = c.full_over-full.ensures in
    let h : Begun b full n = c.begin_taken.ensures.begun in
    let same : full_over b.sizes ≡ full_over n.sizes = ap full_over (sym h.sizes) in
    let none = c.of.ensures.fresh in
    let all = c.of.ensures.room in
    record {
      new = record { sizes = refl; vars = refl; every = λ row. (row, (λ v _ _. refl), h.every row); room = all ∙ e ∙ same; shown = h.shown };
      sizes = ap sizes_over h.sizes;
      begun = subst (λ (v : ℕ). Begun b v n) e h;
      sound = (
        c.begin_taken.ensures.sound,
        record {
          in_use = omega (arith, h.vars, e, same);
          roomy = omega (arith, h.room, e, all);
          enough = omega (arith, e, same, none, all);
          free = λ x y _ _. h.every y;
        },
      );
    }
