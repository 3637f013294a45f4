use Rattle.std.proofs.Common.{◌≡◌, ◌-◌, ◌<◌, ◌≤◌, [], length, sym, refl, ap, ◌∙◌, arith, length-set, rules}
use Rattle.std.proofs.lemmas.List.{length-take-le}
use Rattle.circuit.specs.Held.{circuit_of}
use Rattle.evaluation.specs.Evaluated.{evaluate_from}
use Rattle.evaluate.specs.Forced.{in_lane, lane_forcing}
use Rattle.evaluate.proofs.GateCount.{gates_listed, few_gates}
use Rattle.evaluate.proofs.GateByGate.{gate_more, gates_all}
use Rattle.evaluate.proofs.walk.evaluate.Goals as goal

pub loop-i-init : goal.loop-i-init
loop-i-init g c =
    let few : length c.gates-gates.result.now ≤ 256 = omega (arith, gates_listed c.args.circuit.now c.gates-gates.result.now c.gates-gates.ensures, few_gates c.args.circuit.now) in
    (few, search rules, λ k h. refl)

pub loop-i-preserved : goal.loop-i-preserved
loop-i-preserved g c =
    let room : c.loop-i.i < length c.loop-i.values = omega arith in (
      c.loop-i.invariant.0,
      simp length-set c.loop-i.invariant.1,
      λ k h.
          gate_more (λ v. g.L.Logic.stands v k) (lane_forcing g.L.Logic.stands k c.args.forced.now) (in_lane g.L.Logic.stands k c.args.inputs.now) c.loop-i.values c.gates-gates.result.now c.loop-i.i c.gate_value-value.result c.index-gates-i.result c.loop-i-test.true room c.index-gates-i.is (c.loop-i.i - 0) (omega arith) (c.gate_value-value.ensures k h)
          ∙ c.loop-i.invariant.2 k h,
    )

pub returns : goal.returns
returns g c =
    let n = length c.gates-gates.result.now in
    let all : n ≡ length (circuit_of c.args.circuit.now).gates = gates_listed c.args.circuit.now c.gates-gates.result.now c.gates-gates.ensures in
    record {
      table = c.first.result.whole;
      len = ap length c.first.ensures ∙ length-take-le n c.loop-i.values (omega (arith, c.loop-i.invariant.0, c.loop-i.invariant.1)) ∙ all;
      lanes = λ k h.
          ap (in_lane g.L.Logic.stands k) c.first.ensures
          ∙ sym (gates_all (λ v. g.L.Logic.stands v k) (lane_forcing g.L.Logic.stands k c.args.forced.now) (in_lane g.L.Logic.stands k c.args.inputs.now) c.loop-i.values c.gates-gates.result.now c.loop-i.i n c.loop-i-test.false (omega arith))
          ∙ c.loop-i.invariant.2 k h
          ∙ ap (λ gs. evaluate_from (lane_forcing g.L.Logic.stands k c.args.forced.now) (in_lane g.L.Logic.stands k c.args.inputs.now) 1 [] gs) c.gates-gates.ensures;
    }
