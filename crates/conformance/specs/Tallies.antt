-- What a tally counts.
--   up            one more, up to the most that 32 bits hold
--   code          the number of an answer: 0 no, 1 yes, 2 done, 3 and 4 a value, or the number of a refusal
--   refused_of    the count of refusals with this number, from 20 on
--   CountsAnswer  an answer is counted once, by its code: 0 no, 1 yes, 20 to 24 a refusal, any other done; and as a mismatch if another was expected
use Rattle.std.specs.Prelude.{◌≡◌, ℕ, ◌+◌, ◌-◌, ◌<◌, min, cond, ◌&&◌, not, ◌==◌, nat_le, slice_index}
use Rattle.solver.specs.Refusals.{number}
use Rattle.conformance.specs.declared.answer.Answer.{Answer}
use Rattle.conformance.specs.declared.answer.Answer.TheVariants.{No, Yes, Done, Zero, One, Refused}
use Rattle.conformance.specs.declared.tally.Tally.{Tally}

abbrev pub up : ℕ → ℕ
up n = min (n + 1) 4294967295

abbrev pub code : Answer → ℕ
code No = 0
code Yes = 1
code Done = 2
code Zero = 3
code One = 4
code (Refused fault) = number fault

abbrev pub refused_of : Tally → ℕ → ℕ
refused_of t number = slice_index t.refused (number - 20)

pub record CountsAnswer (old new : Tally) (told expected : ℕ) : Type 0 where
  pub calls : new.calls ≡ up old.calls
  pub mismatches : new.mismatches ≡ cond (told == expected) old.mismatches (up old.mismatches)
  pub no : new.no ≡ cond (told == 0) (up old.no) old.no
  pub yes : new.yes ≡ cond (told == 1) (up old.yes) old.yes
  pub accepted : new.accepted ≡ cond (nat_le 2 told && not (nat_le 20 told && nat_le told 24)) (up old.accepted) old.accepted
  pub refused : (number : ℕ) → number < 25 → 20 < number + 1 → refused_of new number ≡ cond (told == number) (up (refused_of old number)) (refused_of old number)
  pub digest : new.digest ≡ old.digest
