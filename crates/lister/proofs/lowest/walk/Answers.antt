-- One gate after another is decided; the gates marked are the set.
use Rattle.std.proofs.Common.{◌≡◌, ℕ, ◌+◌, ◌<◌, ◌≤◌, Bool, true, is_ok, List, length, take, set, ℤ, sym, ap, ◌∙◌, subst, arith, length-set}
use Rattle.std.proofs.lemmas.Bool.{leb-true}
use Rattle.diagnosis.specs.Marked.{marked}
use Rattle.cnf_theory.specs.Literals.{integer, signed}
use Rattle.answers.specs.Assumed.{decided, Tried, Assumed}
use Rattle.answers.proofs.Answering.{kept_both, assumed_named, assumed_more, tried_kept, untried_kept, room_left, full_tried, found_all}
use Rattle.gate_set.specs.Held.{set_of}
use Rattle.lister.proofs.SetMore.{set_joined, set_stays}
use Rattle.lister.proofs.lowest.walk.Goals as goal
use Rattle.lister.proofs.lowest.walk.Goals.{then-decide, else-decide}

pub decide-requires : goal.decide-requires
decide-requires g c =
    let same : length c.loop-g.assumed ≡ length c.args.assumed.now = c.loop-g.auto.assumed ∙ simp length-set in
    let m = g.S.Solver.meaning c.args.solver.now in
    let n = c.loop-g.g in
    let xs = c.loop-g.assumed in
    let v = c.loop-g.invariant.1.vars in
    let lv = c.requires.vars.0 in
    let lg = c.requires.vars.1 in
    let one = c.requires.sizes.1.1.0 in
    record {
      sound = c.loop-g.invariant.0;
      sizes = (omega arith, (omega arith, (omega arith, omega (arith, v, lg))));
      named = assumed_named m c.args.count one n _ xs c.loop-g.invariant.2 (omega arith) (omega (arith, v, lv)) (omega (arith, v, lg));
      full = λ f.
          let most : c.args.most ≤ length (marked (decided xs) n) = let t = leb-true _ _ f in let l = c.len.ensures in let e = ap length c.loop-g.invariant.3 in omega arith in
          untried_kept m _ (take (n + 1) xs) (n + 1) c.loop-g.invariant.1 (full_tried m c.args.count c.args.gates c.args.most c.requires.few one n (n + 1) xs (omega arith) (omega arith) (omega arith) c.loop-g.invariant.2 most);
    }

pub ask-requires : goal.ask-requires
ask-requires g c =
    let same : length c.loop-g.assumed ≡ length c.args.assumed.now = c.loop-g.auto.assumed ∙ simp length-set in
    let m = g.S.Solver.meaning c.args.solver.now in
    let v = c.loop-g.invariant.1.vars in
    let lv = c.requires.vars.0 in
    let lg = c.requires.vars.1 in
    let e : c.loop-g.g ≡ c.args.gates = omega arith in
    let st : Assumed m c.args.count c.args.gates c.loop-g.assumed = subst (λ (n : ℕ). Assumed m c.args.count n c.loop-g.assumed) e c.loop-g.invariant.2 in
    record { sound = c.loop-g.invariant.0; named = assumed_named m c.args.count c.requires.sizes.1.1.0 c.args.gates _ c.loop-g.assumed st (omega arith) (omega (arith, v, lv)) (omega (arith, v, lg)) }

pub loop-g-preserved : goal.loop-g-preserved
loop-g-preserved g c =
    let same : length c.loop-g.assumed ≡ length c.args.assumed.now = c.loop-g.auto.assumed ∙ simp length-set in
    let m = g.S.Solver.meaning c.args.solver.now in
    let n = c.loop-g.g in
    let xs = c.loop-g.assumed in
    let r = c.decide.result in
    let ys = set xs (n + 1) (integer (signed r (n + 1))) in
    let one = c.requires.sizes.1.1.0 in
    let l : n + 1 < length xs = omega arith in
    let t : Tried m (take (n + 1) xs) (n + 1) r = tried_kept m _ (take (n + 1) xs) (n + 1) r c.loop-g.invariant.1 c.decide.ensures.tried in
    let st : Assumed m c.args.count (n + 1) ys = assumed_more m c.args.count one n (n + 1) xs r (omega arith) l c.loop-g.invariant.2 t in
    let is = c.decide.ensures.assumed in
    let joined : set_of c.if-decide.set ≡ marked (decided c.decide.new.assumed) (n + 1) =
    elim c.if-decide.branch [
      | then-decide w ↦
          let marked-too : Assumed m c.args.count (n + 1) (set xs (n + 1) (integer (signed true (n + 1)))) = subst (λ (b : Bool). Assumed m c.args.count (n + 1) (set xs (n + 1) (integer (signed b (n + 1))))) w.if-decide.true st in
          let room = room_left m c.args.count c.args.gates c.args.most c.requires.few n (n + 1) xs (omega arith) (omega arith) l marked-too in
          let len = ap length c.loop-g.invariant.3 in
          let six = c.requires.sizes.1.1.1.1 in
          set_joined n xs _ (set_of c.loop-g.set) (set_of c.if-decide.set) r (is_ok w.push.result) w.if-decide.true l is c.loop-g.invariant.3 (omega arith) w.push.ensures.room (ap set_of w.set-is ∙ w.push.ensures.after)
      | else-decide w ↦ set_stays n xs _ (set_of c.loop-g.set) (set_of c.if-decide.set) r w.if-decide.false l is c.loop-g.invariant.3 (ap set_of w.set-is)
    ] in
    (c.decide.ensures.sound, kept_both m _ _ c.loop-g.invariant.1 c.decide.ensures.kept, subst (λ (zs : List ℤ). Assumed m c.args.count (n + 1) zs) (sym is) st, joined)

pub returns : goal.returns
returns g c =
    let same : length c.loop-g.assumed ≡ length c.args.assumed.now = c.loop-g.auto.assumed ∙ simp length-set in
    let m = g.S.Solver.meaning c.args.solver.now in
    let e : c.loop-g.g ≡ c.args.gates = omega arith in
    let st : Assumed m c.args.count c.args.gates c.loop-g.assumed = subst (λ (n : ℕ). Assumed m c.args.count n c.loop-g.assumed) e c.loop-g.invariant.2 in
    record {
      sound = c.ask.ensures.sound;
      kept = kept_both _ _ _ c.loop-g.invariant.1 c.ask.ensures.solved.kept;
      found = found_all m _ _ c.args.count c.args.gates c.loop-g.assumed _ _ c.requires.sizes.1.1.0 c.loop-g.invariant.1 st (omega arith) (c.loop-g.invariant.3 ∙ ap (marked (decided c.loop-g.assumed)) e) c.ask.ensures.solved;
    }
