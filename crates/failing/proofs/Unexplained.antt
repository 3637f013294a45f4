-- A test is missed exactly if the empty set does not explain it: where nothing is marked, forced values have no effect.
use Rattle.std.proofs.Common.{false, []}
use mathlib.Core.Bool.{false≢true}
use Rattle.std.proofs.lemmas.Bool.{not-false, not_from_true}
use Rattle.diagnosis.specs.Sets.{member}
use Rattle.diagnosis.specs.Explains.{brings_out}
use Rattle.diagnosis.proofs.Simulated.{brings_forced}
use Rattle.failing.specs.Missed.{MissedUnexplained}

pub missed_unexplained : MissedUnexplained
missed_unexplained c t = (
  λ e. (λ _. false, not-false (brings_out c (member []) (λ _. false) t) e),
  λ x. let (w, e) = x in not_from_true (brings_out c (member []) (λ _. false) t) (brings_forced c (member []) w (λ _. false) t (λ g m. absurd (false≢true m)) e),
)
