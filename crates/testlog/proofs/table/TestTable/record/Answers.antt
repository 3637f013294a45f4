use Rattle.std.proofs.Common.{◌≡◌, map, length, vec_items, sym, ap, ◌∙◌, arith}
use Rattle.std.specs.Result.{result_err}
use Rattle.std.proofs.lemmas.List.{length-map, map_push}
use Rattle.circuit.specs.Held.{circuit_of}
use Rattle.test_format.proofs.Packed.{all_bytes}
use Rattle.test_format.proofs.Taken.{taken_is_written}
use Rattle.test_format.proofs.Holding.{recorded_joined}
use Rattle.testlog.specs.Held.{test_of, tests_of}
use Rattle.testlog.specs.Faults.{kept}
use Rattle.testlog.proofs.table.TestTable.record.Goals as goal

pub returns : goal.returns
returns c =
    let v = c.args.self.now.tests in
    let ts = tests_of c.args.self.now in
    let many : c.len.result ≡ length ts = c.len.ensures ∙ v.ok.0 ∙ sym (length-map (vec_items v) test_of) in
    let good = recorded_joined (circuit_of c.args.circuit.now) ts c.args.bytes.now c.len.result _ many (omega (arith, c.if-len-ge-MOST_TESTS.false)) c.in_ok-test.ensures in
    let last = ap (map test_of) c.push_reserved.ensures.items ∙ map_push test_of (vec_items v) c.in_ok-test.test in
    let law = taken_is_written (circuit_of c.args.circuit.now) c.args.bytes.now (test_of c.in_ok-test.test) (all_bytes c.args.bytes.now (λ i. (c.type_inv.bytes i).fits)) (sym c.in_ok-test.ensures) in
    record {
      refused = sym (ap result_err good);
      after = last ∙ sym (ap (kept ts) good);
      change = record { test = test_of c.in_ok-test.test; last = last; fits = law.0; as_written = law.1 };
    }
