-- What it says that tests and sets fit a circuit.
use Rattle.std.proofs.Common.{◌≡◌, ℕ, ◌<◌, true, false, ◌&&◌, eqb, ltb, List, [], ◌∷◌, length, sym, ap, ◌∙◌}
use Rattle.std.specs.List.{AllByRecursion}
use Rattle.std.proofs.lemmas.Bool.{and_parts, and_left, and_right, lt-ltb, ltb-true, eqb-true}
use Rattle.std.specs.List.{list_all}
use Rattle.circuit.specs.Circuits.{Circuit, Sound}
use Rattle.circuit.specs.Tests.{Test, FitsTest}
use Rattle.diagnosis.specs.Sets.{IsSet}
use Rattle.gate_set.specs.Ascending.{above}
use Rattle.gate_set.proofs.AscendingNumbers.{ascending_numbers_sets}
use Rattle.candidates.specs.CandidateLaws.{Given}
use Rattle.lister.specs.Asked.{fits_test, fitting}

pub fitting_no_test : (c : Circuit) (ts : List Test) (given : List (List ℕ)) → list_all (fits_test c) ts ≡ false → false ≡ fitting c ts given
fitting_no_test c ts given e = sym (and_right (ltb 0 (length c.gates)) _ (and_left (list_all (fits_test c) ts) _ e))

pub fitting_sets : (c : Circuit) (ts : List Test) (given : List (List ℕ)) → 0 < length c.gates → list_all (fits_test c) ts ≡ true → list_all (above 0 (length c.gates)) given ≡ fitting c ts given
fitting_sets c ts given l e =
    let sets = list_all (above 0 (length c.gates)) given in
    ap (λ b. b && sets) (sym e) ∙ ap (λ b. b && (list_all (fits_test c) ts && sets)) (sym (lt-ltb 0 (length c.gates) l))

tests_fit : (c : Circuit) (ts : List Test) → list_all (fits_test c) ts ≡ true → AllByRecursion (FitsTest c) ts
tests_fit c [] e = tt
tests_fit c (t ∷ ts) e =
    let (here, later) = and_parts (fits_test c t) _ e in
    let (inputs, outputs) = and_parts (eqb (length t.inputs) c.inputs) _ here in
    (record { inputs = eqb-true _ _ inputs; outputs = eqb-true _ _ outputs }, tests_fit c ts later)

sets_fit : (n : ℕ) (given : List (List ℕ)) → list_all (above 0 n) given ≡ true → AllByRecursion (IsSet n) given
sets_fit n [] e = tt
sets_fit n (S ∷ given) e = let (here, later) = and_parts (above 0 n S) _ e in ((ascending_numbers_sets n S).0 here, sets_fit n given later)

pub fitting_gate : (c : Circuit) (ts : List Test) (given : List (List ℕ)) → fitting c ts given ≡ true → 0 < length c.gates
fitting_gate c ts given e = ltb-true 0 _ (and_parts (ltb 0 (length c.gates)) _ e).0

pub fitting_given : (c : Circuit) (ts : List Test) (given : List (List ℕ)) → Sound c → fitting c ts given ≡ true → Given c ts given
fitting_given c ts given sound e =
    let (tests, sets) = and_parts (list_all (fits_test c) ts) _ (and_parts (ltb 0 (length c.gates)) _ e).1 in
    record { circuit = sound; tests = tests_fit c ts tests; sets = sets_fit (length c.gates) given sets }
