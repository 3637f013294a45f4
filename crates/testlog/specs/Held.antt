-- What the code's tests and its table of tests stand for.
--   test_of    the test that a test's lists hold
--   tests_of   the tests that a table holds, in order
use Rattle.std.specs.Prelude.{List, map, vec_items}
use Rattle.inline_list.specs.Listed.{listed}
use Rattle.circuit.specs.Tests.{Test}
use Rattle.testlog.specs.declared.test.Test.{Test as HeldTest}
use Rattle.testlog.specs.declared.table.TestTable.{TestTable}

abbrev pub test_of : HeldTest → Test
test_of t = record { inputs = listed t.inputs; outputs = listed t.outputs }

abbrev pub tests_of : TestTable → List Test
tests_of t = map test_of (vec_items t.tests)
