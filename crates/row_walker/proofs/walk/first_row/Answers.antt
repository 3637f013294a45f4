-- The row found passes both tests, and no row before it does.
use Rattle.std.proofs.Common.{◌≡◌, ◌*◌, ◌-◌, ◌%◌, ◌^◌, ◌<◌, true, false, refl, arith, rules, tests}
use Rattle.std.proofs.lemmas.Nat.{one_shl}
use Rattle.std.proofs.lemmas.Iterator.{first_from_find, YieldsList-from_range}
use Rattle.solver.proofs.Rows.{all_named_up}
use Rattle.row_walker.proofs.Rows.{passes, found_first}
use Rattle.row_walker.proofs.walk.first_row.Goals as goal

pub of-wanted-requires : goal.of-wanted-requires
of-wanted-requires c = all_named_up c.args.vars 32 (omega (arith, c.requires.vars)) c.args.assumed.now c.requires.assumed

pub returns : goal.returns
returns c =
    let vars = c.args.vars in
    let cs = c.args.clauses.now in
    let a = c.args.assumed.now in
    let w = c.of-wanted.result in
    let small : vars < 32 = omega (arith, c.requires.vars) in
    let whole : (1 * 2 ^ vars) % 4294967296 - 0 ≡ 2 ^ vars = omega (arith, one_shl vars 32 small) in
    let h = first_from_find _ _ c.find.result (λ n. passes cs w n ≡ true) (λ n. passes cs w n ≡ false) c.find.ensures.ran (YieldsList-from_range 0 ((1 * 2 ^ vars) % 4294967296) (2 ^ vars) refl whole) (λ x q k. search (rules, tests)) (λ x q k. search (rules, tests)) in
    found_first vars cs a w (c.of-wanted.ensures vars c.requires.assumed) c.find.result h
