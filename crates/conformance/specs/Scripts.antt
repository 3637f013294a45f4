-- What a script of calls keeps to.
--   KeepsTo        a clause that is added has at most so many literals, and at most three are assumed
--   SameSettings   the most variables, how often a begin comes, and the longest clause are the same
--   Starts         no variable is in use, and the settings are within what the calls can hold
use Rattle.std.specs.Prelude.{◌≡◌, ℕ, ◌≤◌, length, min, max}
use Rattle.inline_list.specs.Listed.{listed}
use Rattle.conformance.specs.declared.script.Call.{Call}
use Rattle.conformance.specs.declared.script.Call.TheVariants.{Begin, Add, Solve, Value}
use Rattle.conformance.specs.declared.script.Script.{Script}

abbrev pub KeepsTo : ℕ → Call → Type 0
KeepsTo longest (Begin vars) = Unit {0}
KeepsTo longest (Add clause) = length (listed clause) ≤ longest
KeepsTo longest (Solve assumed) = length (listed assumed) ≤ 3
KeepsTo longest (Value variable) = Unit {0}

pub record SameSettings (old new : Script) : Type 0 where
  pub most : new.most ≡ old.most
  pub every : new.every ≡ old.every
  pub longest : new.longest ≡ old.longest

pub record Starts (seed most every longest : ℕ) (s : Script) : Type 0 where
  pub from : s.draws.seed ≡ seed
  pub vars : s.vars ≡ 0
  pub variables : s.most ≡ min most 10
  pub begins : s.every ≡ max every 1
  pub length : s.longest ≡ longest
