-- What a splitter stands for, over what the solver below stands for.
--   over    its meaning: a row is allowed if some row allowed below continues it past the first variables
--   Sound   the solver below has the splitter's variables and all fresh ones in use and room for what the splitter may still take,
--             and its rows do not depend on fresh variables that are not used yet
--   bounded   a sound splitter is within its sizes
use Rattle.std.specs.Prelude.{◌≡◌, ℕ, ◌+◌, ◌≤◌}
use Rattle.std.proofs.Common.{arith, lit≤}
use Rattle.solver.specs.Rows.{Row, Agree}
use Rattle.solver.specs.Meaning.{Meaning, Bounded}
use Rattle.splitter.specs.Sizes.{full_over, sizes_over}

abbrev pub over : Meaning → ℕ → ℕ → Meaning
over b vars room = record {
  sizes = sizes_over b.sizes;
  vars = vars;
  allowed = λ row. ((r : Row) × Agree vars row r × b.allowed r);
  room = room;
  shown = b.shown;
}

pub record Sound (b : Meaning) (vars fresh room : ℕ) : Type 0 where
  pub in_use : b.vars ≡ vars + full_over b.sizes
  pub roomy : room ≤ b.room
  pub enough : fresh + room ≤ full_over b.sizes
  pub free : (x y : Row) → Agree (vars + fresh) x y → b.allowed x → b.allowed y

pub bounded : (b : Meaning) (vars fresh room : ℕ) → Bounded b → Sound b vars fresh room → Bounded (over b vars room)
bounded b vars fresh room h s =
    let c = h.capacity in
    let v = h.vars in
    let u = s.in_use in
    let e = s.enough in
    record { wide = lit≤ tt; capacity = omega arith; vars = omega arith; room = omega arith }
