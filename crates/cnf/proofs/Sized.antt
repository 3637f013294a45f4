-- The tally of a formula that is written counts all of it: no number is too large.
use Rattle.std.proofs.Common.{◌≡◌, ℕ, ◌+◌, ◌^◌, ◌<◌, ◌≤◌, List, [], ◌∷◌, map, length, vec_items, vec_len, sym, ◌∙◌, arith}
use Rattle.std.specs.List.{AllByRecursion}
use Rattle.std.proofs.lemmas.List.{length-map}
use Rattle.circuit.specs.Circuits.{Circuit, Sound}
use Rattle.testlog.specs.declared.test.Test.{Test as HeldTest}
use Rattle.testlog.specs.declared.table.TestTable.{TestTable}
use Rattle.testlog.specs.Held.{test_of, tests_of}
use Rattle.cnf_theory.specs.Literals.{integers}
use Rattle.cnf_theory.specs.Formula.{formula}
use Rattle.cnf_theory.specs.Sizes.{prices}
use Rattle.answers.proofs.Filling.{prices_handed, longest_handed}
use Rattle.cnf_theory.proofs.Lengths.{FewInputs, few_clauses, prices_few, nine_at_most}
use Rattle.cnf.specs.Tallied.{Tallied, TallyOf}
use Rattle.cnf.specs.declared.tally.Tally.{Tally}
use Rattle.cnf.proofs.Pieces.{integers_length}
use Rattle.cnf.proofs.Held.{inputs_few}

pub tests_held : (t : TestTable) → length (tests_of t) ≡ vec_len t.tests
tests_held t = length-map (vec_items t.tests) test_of ∙ sym t.tests.ok.0

all_few : (ts : List HeldTest) → AllByRecursion FewInputs (map test_of ts)
all_few [] = tt
all_few (t ∷ ts) = (inputs_few t, all_few ts)

pub sized : (c : Circuit) (t : TestTable) (N : ℕ) (before after : Tally) → Sound c → N ≤ 6 → before.count ≡ 0 → before.longest ≡ 0 → before.prices ≡ 0 → Tallied before (integers (formula c (tests_of t) N)) after → TallyOf (formula c (tests_of t) N) after
sized c t N before after sound n x y z h =
    let cs = formula c (tests_of t) N in
    let many : length (tests_of t) ≤ 32 = let e = tests_held t in let f = t.few in omega arith in
    let few = few_clauses c (tests_of t) N sound (all_few (vec_items t.tests)) many n in
    let cost = prices_few cs (nine_at_most c (tests_of t) N sound) in
    let a = integers_length cs in
    let b = prices_handed cs in
    let d = longest_handed cs in
    let l = h.longest in
    record {
      count = (let q = h.count (under (before.count + length (integers cs)) (omega arith)) in omega arith);
      longest = omega arith;
      prices = (let q = h.prices (under (before.prices + prices (integers cs)) (omega arith)) in omega arith);
    }
  where
    under : (n : ℕ) → n ≤ 1000000 → n < 2 ^ 64
    under n l = omega arith
