-- Questions that are put in an order, and what a no answers.
--   numbered   the refusal by a question that has no place in a text
--   ask        a question, why it refuses, and the questions after it: the first that is answered with a no refuses
use Rattle.std.specs.Prelude.{ℕ, Bool, cond, Err, Result}
use Rattle.refusal.specs.declared.Refusal.{Refusal}

abbrev pub numbered : ℕ → Refusal
numbered q = record { number = q; line = 0; column = 0 }

abbrev pub ask : {X E : Type 0} → E → Bool → Result X E → Result X E
ask why so rest = cond so rest (Err why)
