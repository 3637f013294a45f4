use Rattle.std.proofs.Common.{◌≡◌, map, set, Ok, vec_items, vec_len, sym, refl, ap, ◌∙◌}
use Rattle.std.specs.Result.{result_err}
use Rattle.std.proofs.lemmas.List.{map-set}
use Rattle.test_format.specs.Amending.{with_reading}
use Rattle.test_format.proofs.Holding.{set_nth, amended_no_output, amended_to}
use Rattle.test_format.proofs.OneOutput.{amends_one}
use Rattle.testlog.specs.Held.{test_of, tests_of}
use Rattle.testlog.specs.Faults.{kept}
use Rattle.testlog.proofs.TableItems.{held_at}
use Rattle.testlog.proofs.table.TestTable.amend.Goals as goal

pub returns-in_err-amend-clause-after : goal.returns-in_err-amend-clause-after
returns-in_err-amend-clause-after c =
    let v = c.args.self.now.tests in
    let ts = tests_of c.args.self.now in
    let k = c.args.test in
    let t = c.in-Some.held.now in
    let here = held_at (vec_items v) k (vec_len v) t v.ok.0 (c.in-Some.ensures.variant.0 refl) c.in-Some.ensures.value in
    let no_such = amended_no_output ts k c.args.output c.args.value c.in_ok-reading.reading (test_of t) (sym c.in_ok-reading.ensures.ok_part ∙ c.reading.ensures) here c.in_err-amend.ensures.taken in
    map-set test_of (vec_items v) k c.amend.new.self
    ∙ ap (set ts k) c.in_err-amend.ensures.after
    ∙ set_nth ts k (test_of t) here
    ∙ sym (ap (kept ts) no_such)

pub returns : goal.returns
returns c =
    let v = c.args.self.now.tests in
    let ts = tests_of c.args.self.now in
    let k = c.args.test in
    let t = c.in-Some.held.now in
    let here = held_at (vec_items v) k (vec_len v) t v.ok.0 (c.in-Some.ensures.variant.0 refl) c.in-Some.ensures.value in
    let changed = amended_to ts k c.args.output c.args.value c.in_ok-reading.reading (test_of t) (sym c.in_ok-reading.ensures.ok_part ∙ c.reading.ensures) here c.in_ok-amend.ensures.taken in
    let held : map test_of (set (vec_items v) k c.amend.new.self) ≡ set ts k (with_reading (test_of t) c.args.output c.in_ok-reading.reading) =
    map-set test_of (vec_items v) k c.amend.new.self ∙ ap (set ts k) c.in_ok-amend.ensures.after in
    record {
      refused = sym (ap result_err changed);
      after = held ∙ sym (ap (kept ts) changed);
      change = amends_one ts (map test_of (set (vec_items v) k c.amend.new.self)) k c.args.output c.args.value (changed ∙ ap Ok (sym held));
    }
