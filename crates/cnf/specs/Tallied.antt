-- What a tally says of the clauses that it took.
--   Tallied   a tally after these clauses, from what it was before; as far as its numbers go
--   TallyOf   the tally of a list of clauses: how many, the longest, and their prices
use Rattle.std.specs.Prelude.{◌≡◌, ◌+◌, ◌^◌, ◌<◌, max, List, length, ℤ}
use Rattle.cnf_theory.specs.Sizes.{prices, longest}
use Rattle.cnf.specs.declared.tally.Tally.{Tally}

pub record Tallied (s : Tally) (cs : List (List ℤ)) (t : Tally) : Type 0 where
  pub count : s.count + length cs < 2 ^ 64 → t.count ≡ s.count + length cs
  pub longest : t.longest ≡ max s.longest (longest cs)
  pub prices : s.prices + prices cs < 2 ^ 64 → t.prices ≡ s.prices + prices cs

pub record TallyOf {X : Type 0} (cs : List (List X)) (t : Tally) : Type 0 where
  pub count : t.count ≡ length cs
  pub longest : t.longest ≡ longest cs
  pub prices : t.prices ≡ prices cs
