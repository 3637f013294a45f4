-- Lists of clauses, and what adding them one by one does.
--   Clauses        the clauses of a lent slice, in their order
--   every_true     whether each clause is true in a row
--   prices         what they take of the room together
--   adds_refusal   the first question that one of them is answered with a no, if any, the room falling clause by clause
--   Narrowed       what adding them all makes of a meaning
--   Partly         what a refusal in between leaves: the clauses before the refused one are added
use Rattle.std.specs.Prelude.{◌≡◌, ℕ, ◌+◌, ◌-◌, ◌<◌, Bool, true, List, [], ◌∷◌, length, take, ℤ, None, Option, nat_le}
use Rattle.std.specs.Borrow.{Bor}
use Rattle.std.specs.List.{list_all}
use Rattle.solver.specs.Rows.{Row, some_true, all_named, price}
use Rattle.solver.specs.Meaning.{Meaning, Sizes}
use Rattle.solver.specs.Refusals.{asked}

abbrev pub Clauses : Type 0
Clauses = List (Bor (List ℤ))

abbrev pub every_true : Row → Clauses → Bool
every_true row = list_all (λ c. some_true row c.now)

abbrev pub prices : Clauses → ℕ
prices [] = 0
prices (c ∷ cs) = price (length c.now) + prices cs

abbrev pub adds_refusal : Sizes → ℕ → ℕ → Clauses → Option ℕ
adds_refusal z vars room [] = None
adds_refusal z vars room (c ∷ cs) = asked 22 (nat_le (length c.now) z.width) (asked 21 (all_named vars c.now) (asked 23 (nat_le (price (length c.now)) room) (adds_refusal z vars (room - price (length c.now)) cs)))

pub record Narrowed (m : Meaning) (cs : Clauses) (n : Meaning) : Type 0 where
  pub sizes : n.sizes ≡ m.sizes
  pub vars : n.vars ≡ m.vars
  pub only : (row : Row) → n.allowed row → m.allowed row × (every_true row cs ≡ true)
  pub each : (row : Row) → m.allowed row → every_true row cs ≡ true → n.allowed row
  pub room : n.room + prices cs ≡ m.room

abbrev pub Partly : Meaning → Clauses → Meaning → Type 0
Partly m cs n = (k : ℕ) × (k < length cs) × Narrowed m (take k cs) n
