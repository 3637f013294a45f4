-- Each three takes one literal more off the chain.
use Rattle.std.proofs.Common.{◌≡◌, ℕ, zero, suc, leb, negsuc, ◌-ℤ◌, neg_ℤ, to_z, of_z, ◌+◌, ◌-◌, ◌<◌, ◌≤◌, List, ℤ, length, get_or, take, drop, pos, sym, refl, ap, ◌∙◌, arith, lit≤, w32, SFits, rules}
use Rattle.std.proofs.lemmas.List.{get_or-take, length-take, length-drop}
use Rattle.std.proofs.lemmas.Grind.{get_or_after_one}
use Rattle.std.proofs.lemmas.Int.{to_z-of_z}
use Rattle.std.proofs.lemmas.Bool.{cond-true, cond-false, le-leb, lt-leb}
use Rattle.solver.specs.Rows.{named}
use Rattle.splitter.proofs.Chaining.{partly_more, partly_all, chain_step, chain_last, named_negation}
use Rattle.splitter.proofs.threes.add_chain.Goals as goal

from_zero : (n : ℕ) → pos 0 -ℤ pos n ≡ neg_ℤ (pos n)
from_zero zero = refl
from_zero (suc n) = let e : suc n - 1 ≡ n = omega arith in cond-true (leb 1 (suc n)) (negsuc (suc n - 1)) (pos (0 - suc n)) (le-leb 1 (suc n) (omega arith)) ∙ ap negsuc e

-- the literals between the first and the last two
module _ (xs : List ℤ) (long : 4 ≤ length xs) where
  abbrev between : List ℤ
  between = take (length xs - 2 - 1) (drop 1 xs)

  between_len : length between ≡ length xs - 3
  between_len = simp (length-take, length-drop) (omega (arith, long))

  between_at : (k : ℕ) → k < length between → get_or between k (pos 0) ≡ get_or xs (k + 1) (pos 0)
  between_at k l =
      let e : 1 + k ≡ k + 1 = omega arith in
      get_or-take (length xs - 2 - 1) (drop 1 xs) k (pos 0) (let n = between_len in omega (arith, l, n)) ∙ get_or_after_one xs k (pos 0) ∙ ap (λ j. get_or xs j (pos 0)) e

pub loop-next-preserved : goal.loop-next-preserved
loop-next-preserved g c =
    let xs = c.args.clause.now in
    let k = c.loop-next.next-index in
    let x = get_or (between xs c.requires.long) k (pos 0) in
    let m = g.S.Solver.meaning c.args.below.now in
    let h = c.loop-next.invariant in
    let next = h.1 in
    let fresh = c.requires.fresh in
    let inside = between_len xs c.requires.long in
    let before = c.loop-next-test.true in
    let fits : SFits w32 (get_or (between xs c.requires.long) k (pos 0)) = search rules in
    let link : SFits w32 c.literal-link.result = search rules in
    let n = g.S.Solver.meaning c.add_three.new.below in
    let now-vars = c.add_three.ensures.added.vars in
    let were-vars = h.3.vars in
    let is = to_z-of_z w32 c.literal-link.result link ∙ c.literal-link.ensures in
    let turned : SFits w32 (pos 0 -ℤ to_z w32 (of_z w32 c.literal-link.result)) = search rules in
    let back = to_z-of_z w32 (pos 0 -ℤ to_z w32 (of_z w32 c.literal-link.result)) turned ∙ ap (λ z. pos 0 -ℤ z) is ∙ from_zero (c.loop-next.fresh + 1) in (
      c.add_three.ensures.sound,
      omega arith,
      ap (named n.vars) back ∙ named_negation n.vars (c.loop-next.fresh + 1) (omega arith) (omega arith),
      partly_more m _ _ _ k h.3 _ (lit≤ tt) _ c.add_three.ensures.added _
          (chain_step xs (k + 1) c.loop-next.fresh _ _ _ _ (omega arith) (to_z-of_z w32 x fits ∙ between_at xs c.requires.long k before) is back)
          (k + 1) (omega arith),
    )

pub returns : goal.returns
returns g c =
    let xs = c.args.clause.now in
    let len = length xs in
    let k = c.loop-next.next-index in
    let x = get_or xs (len - 2) (pos 0) in
    let y = get_or xs (len - 1) (pos 0) in
    let m = g.S.Solver.meaning c.args.below.now in
    let h = c.loop-next.invariant in
    let long = c.requires.long in
    let inside = between_len xs long in
    let end : k + 1 ≡ len - 2 = omega (arith, long, inside, c.loop-next-test.false, c.loop-next.auto.next-index-end) in
    let fits-x : SFits w32 x = search rules in
    let fits-y : SFits w32 y = search rules in
    record {
      sound = c.add_three-2.ensures.sound;
      split = partly_all m _ _ _ k h.3 _ (lit≤ tt) _ c.add_three-2.ensures.added
          (chain_last xs (k + 1) c.loop-next.fresh _ _ _ (omega arith) (to_z-of_z w32 x fits-x ∙ ap (λ j. get_or xs j (pos 0)) (sym end)) (to_z-of_z w32 y fits-y ∙ ap (λ j. get_or xs j (pos 0)) (omega arith)))
          xs c.args.last (λ row. refl) (cond-false _ _ _ (lt-leb len 3 (omega arith)) ∙ omega arith);
    }
