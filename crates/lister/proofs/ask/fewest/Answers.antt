-- One count after another: no row has fewer marks than those asked for before.
use Rattle.std.proofs.Common.{◌≡◌, ℕ, suc, subst, arith}
use Rattle.answers.specs.Loaded.{SomeOff}
use Rattle.answers.proofs.Answering.{kept_both, some_kept}
use Rattle.lister.proofs.ask.fewest.Goals as goal

pub returns-then-ask_off : goal.returns-then-ask_off
returns-then-ask_off g c =
    let e = c.last_count.ensures.value in
    let a = c.if-ask_off.ensures in
    record {
      sound = a.sound;
      kept = kept_both _ _ _ c.loop-k.invariant.1 a.kept;
      fewest = record { within = omega arith; some = subst (λ (v : ℕ). SomeOff (g.S.Solver.meaning c.args.solver.now) v) e (some_kept _ _ _ c.loop-k.invariant.1 a.answer); fewer = λ j q. (c.loop-k.invariant.2 j q).0 };
    }

pub returns : goal.returns
returns g c =
    let e : suc c.args.bound ≡ c.loop-k.k = omega arith in
    record { sound = c.loop-k.invariant.0; kept = c.loop-k.invariant.1; fewest = ((c.loop-k.invariant.2 c.args.bound e).0, (c.loop-k.invariant.2 c.args.bound e).1) }
