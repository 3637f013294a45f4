-- What is asked of a gate, question by question.
use Rattle.std.proofs.Common.{◌≡◌, ℕ, Bool, true, false, not, List, length, is_some, Err, Option, Result, ap, ◌∙◌}
use Rattle.std.proofs.lemmas.Bool.{cond-false}
use Rattle.circuit.specs.declared.kind.Kind.{Kind}
use Rattle.circuit.specs.declared.gate.Signal.{Signal}
use Rattle.circuit.specs.Kinds.{takes}
use Rattle.netlist_text.specs.Statements.{Name, gate}
use Rattle.netlist_text.specs.Netlists.{Draft, signal, signals}
use Rattle.refusal.specs.Asking.{ask}
use Rattle.netlist_text.specs.Meaning.{new, connected, admitted}
use Rattle.netlist_text.proofs.AdmittedStatements.{asked}

pub no : {X : Type 0} (q : ℕ) (so : Bool) (r : Result X ℕ) → so ≡ false → ask q so r ≡ Err q
no q so r e = cond-false so r (Err q) e

module _ (d : Draft) (n : Name) (k : Kind) (ns : List Name) where
  pub gate_asked : (o : Option (List Signal)) → takes k (length ns) ≡ true → is_some (signal d.netlist n) ≡ false → signals d.netlist ns ≡ o → admitted d 0 (gate n k ns) ≡ connected d n k o
  gate_asked o e f s = asked 5 (takes k (length ns)) _ e ∙ asked 6 (new d n) _ (ap not f) ∙ ap (connected d n k) s
