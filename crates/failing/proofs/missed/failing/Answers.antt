use Rattle.std.proofs.Common.{◌≡◌, ℕ, ◌-◌, ◌<◌, ◌≤◌, Bool, false, not, List, [], ◌∷◌, ◌++◌, map, length, take, sym, ap, ◌∙◌, arith, length-append}
use Rattle.std.proofs.lemmas.List.{get_or-map, length-map}
use Rattle.circuit.specs.Circuits.{Circuit}
use Rattle.circuit.specs.Held.{circuit_of}
use Rattle.diagnosis.specs.Sets.{member}
use Rattle.diagnosis.specs.Explains.{values}
use Rattle.signal_value.specs.declared.word.Word.{Word}
use Rattle.testlog.specs.declared.test.Test.{Test as HeldTest}
use Rattle.inline_list.specs.Listed.{listed}
use Rattle.inline_list.proofs.Few.{pushed}
use Rattle.testlog.specs.Held.{test_of}
use Rattle.failing.specs.Missed.{missed, word_of}
use Rattle.failing.specs.Columns.{in_test}
use Rattle.failing.proofs.Filling.{fill_more, fill_all, map_test_of}
use Rattle.failing.proofs.InLanes.{lane_of, few_tests, inputs_in_lane, gates_in_lane, shown_brings}
use Rattle.failing.proofs.missed.failing.Goals as goal

pub input_words-applied-requires : goal.input_words-applied-requires
input_words-applied-requires c = few_tests c.args.tests.now c.tests-held.result.now c.tests-held.ensures

pub loop-t-init : goal.loop-t-init
loop-t-init c = record {
  one_each = ap length c.none-missed.ensures;
  few = few_tests c.args.tests.now c.tests-held.result.now c.tests-held.ensures;
  filled = ap (λ (l : List Bool). l ++ map (λ x. missed (circuit_of c.args.circuit.now) (test_of x)) c.tests-held.result.now) c.none-missed.ensures;
}

-- the lane of the test holds its inputs and its simulated values, if it has as many inputs as the circuit
lane_holds :
    (c : goal.After-push) → length (test_of c.index-held-t.result).inputs ≡ (circuit_of c.args.circuit.now).inputs
    → (in_test c.loop-t.t (take (c.inputs.result - 0) c.input_words-applied.result) ≡ (test_of c.index-held-t.result).inputs)
    × (in_test c.loop-t.t c.as_slice.result.now ≡ values (circuit_of c.args.circuit.now) (member []) (λ _. false) (test_of c.index-held-t.result).inputs)
lane_holds c many =
    let C : Circuit = circuit_of c.args.circuit.now in
    let held : List HeldTest = c.tests-held.result.now in
    let t : ℕ = c.loop-t.t in
    let taken : t < length held = c.loop-t-test.true in
    let few : length held ≤ 32 = few_tests c.args.tests.now held c.tests-held.ensures in
    let within : t < length (map test_of held) = omega (arith, length-map held test_of, taken) in
    let inputs : List Word = take (c.inputs.result - 0) c.input_words-applied.result in
    let room : c.inputs.result - 0 ≤ length c.input_words-applied.result = omega (arith, c.inputs.ensures, c.input_words-applied.ensures.len, c.args.circuit.now.few_inputs) in
    let as_many : length (test_of c.index-held-t.result).inputs ≡ c.inputs.result - 0 = omega (arith, many, c.inputs.ensures) in
    let ins : in_test t inputs ≡ (test_of c.index-held-t.result).inputs =
    inputs_in_lane (map test_of held) (test_of c.index-held-t.result) t (c.inputs.result - 0) c.input_words-applied.result within
    (λ d. get_or-map test_of held t c.index-held-t.result d taken ∙ ap test_of (sym c.index-held-t.is)) room c.input_words-applied.ensures.len as_many c.input_words-applied.ensures.each in
    let lane_below : t < 32 = omega (arith, taken, few) in
    (ins, gates_in_lane C t (test_of c.index-held-t.result).inputs inputs c.as_slice.result.now ins (ap (lane_of t) c.as_slice.ensures ∙ c.evaluate-values.ensures.lanes t lane_below))

pub loop-t-preserved : goal.loop-t-preserved
loop-t-preserved c =
    let C : Circuit = circuit_of c.args.circuit.now in
    let f : HeldTest → Bool = λ x. missed C (test_of x) in
    let bits = listed c.loop-t.missed in
    let test = test_of c.index-held-t.result in
    let room : length bits < 32 = omega (arith, c.loop-t.invariant.one_each, c.loop-t.invariant.few, c.loop-t-test.true) in
    let now = pushed 32 bits (listed c.push.new.self) (not c.is_shown.result) _ c.push.ensures.room c.push.ensures.after room in
    record {
      one_each = ap length now ∙ length-append bits (not c.is_shown.result ∷ []) ∙ omega (arith, c.loop-t.invariant.one_each);
      few = c.loop-t.invariant.few;
      filled =
          fill_more f c.tests-held.result.now bits (listed c.push.new.self) c.loop-t.t c.index-held-t.result (not c.is_shown.result) c.loop-t-test.true now
          (shown_brings C test (in_test c.loop-t.t (take (c.inputs.result - 0) c.input_words-applied.result)) (in_test c.loop-t.t c.as_slice.result.now) c.is_shown.result c.is_shown.ensures (lane_holds c)
          ∙ ap f c.index-held-t.is)
          ∙ c.loop-t.invariant.filled;
    }

pub returns : goal.returns
returns c =
    let C : Circuit = circuit_of c.args.circuit.now in
    c.pack.ensures
    ∙ ap word_of
    (c.as_slice-2.ensures
    ∙ fill_all (λ x. missed C (test_of x)) c.tests-held.result.now (listed c.loop-t.missed) c.loop-t.t c.loop-t-test.false c.loop-t.invariant.filled
    ∙ map_test_of (missed C) c.tests-held.result.now
    ∙ ap (map (missed C)) c.tests-held.ensures)
