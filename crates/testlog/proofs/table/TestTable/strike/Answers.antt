use Rattle.std.proofs.Common.{◌≡◌, ◌-◌, ◌<◌, List, map, length, take, Ok, vec_items, sym, ap, ◌∙◌, subst, arith}
use Rattle.std.specs.Result.{result_err}
use Rattle.std.proofs.lemmas.List.{length-map, take-map}
use Rattle.circuit.specs.Tests.{Test}
use Rattle.test_format.specs.Amending.{struck, Struck}
use Rattle.test_format.proofs.Holding.{struck_to, struck_one}
use Rattle.testlog.specs.Held.{test_of, tests_of}
use Rattle.testlog.specs.Faults.{kept}
use Rattle.testlog.proofs.table.TestTable.strike.Goals as goal

pub returns : goal.returns
returns c =
    let v = c.args.self.now.tests in
    let ts = tests_of c.args.self.now in
    let n = c.len-held.result in
    let many : n ≡ length ts = c.len-held.ensures ∙ v.ok.0 ∙ sym (length-map (vec_items v) test_of) in
    let some : 0 < n = let none = c.if-held-eq0.false in grind arith in
    let left : map test_of (vec_items c.truncate.new.self) ≡ take (n - 1) ts = ap (map test_of) c.truncate.ensures.items ∙ sym (take-map test_of (n - 1) (vec_items v)) in
    let struck-is : struck ts ≡ Ok (take (n - 1) ts) = struck_to ts n many some in
    record {
      refused = sym (ap result_err struck-is);
      after = left ∙ sym (ap (kept ts) struck-is);
      change = subst (λ (l : List Test). Struck ts l) (sym left) (struck_one ts n many some);
    }
