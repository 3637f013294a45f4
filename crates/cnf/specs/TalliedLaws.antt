-- Tallies of no clause, and of some clauses after others: what a sink owes.
use Rattle.std.specs.Prelude.{◌≡◌, max, List, [], ◌∷◌, ◌++◌, ℤ}
use Rattle.std.proofs.Common.{arith, length-append}
use Rattle.cnf_theory.specs.Sizes.{longest}
use Rattle.answers.specs.FedLaws.{prices_append}
use Rattle.cnf.specs.Tallied.{Tallied}
use Rattle.cnf.specs.declared.tally.Tally.{Tally}

pub longest_append : (a b : List (List ℤ)) → longest (a ++ b) ≡ max (longest a) (longest b)
longest_append [] b = omega arith
longest_append (x ∷ a) b = let e = longest_append a b in omega arith

pub tallied_none : (s : Tally) → Tallied s [] s
tallied_none s = record { count = λ h. omega arith; longest = omega arith; prices = λ h. omega arith }

pub tallied_both : (s t u : Tally) (a b : List (List ℤ)) → Tallied s a t → Tallied t b u → Tallied s (a ++ b) u
tallied_both s t u a b x y =
    let n = length-append a b in
    let p = prices_append a b in
    let l = longest_append a b in
    let w = x.longest in
    let v = y.longest in
    record {
      count = λ h. let e = x.count (omega arith) in let f = y.count (omega arith) in omega arith;
      longest = omega arith;
      prices = λ h. let e = x.prices (omega arith) in let f = y.prices (omega arith) in omega arith;
    }
