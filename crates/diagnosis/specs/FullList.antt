-- The full list as it computes: a search over all sets, and over all values forced on each.
--   force            forced values with one of them changed
--   choices          every choice of forced values on a set
--   explains         whether some choice brings out a test
--   explains_case    whether each test has such a choice
--   subsets          every subset of a set
--   proper_subsets   every subset but the whole
--   minimal          whether a set explains and no proper subset does
--   choose           the sets of k out of m numbers from a on, in order
--   sizes            the sets of 1 to n of d sizes from k on, in order
--   minimal_sets     the minimal ones of at most N
--   full_list        the full list of a case
use Rattle.std.specs.Prelude.{ℕ, zero, suc, Bool, true, false, cond, not, ◌&&◌, List, [], ◌∷◌, ◌++◌, map, length, filter, ◌==◌}
use Rattle.std.specs.List.{list_all, list_any}
use Rattle.circuit.specs.Circuits.{Circuit}
use Rattle.circuit.specs.Tests.{Test}
use Rattle.diagnosis.specs.Sets.{member}
use Rattle.diagnosis.specs.Explains.{Values, brings_out}

abbrev pub force : ℕ → Bool → Values → Values
force x b w g = cond (g == x) b (w g)

abbrev pub choices : List ℕ → List Values
choices [] = (λ _. false) ∷ []
choices (x ∷ S) = map (force x false) (choices S) ++ map (force x true) (choices S)

abbrev pub explains : Circuit → List ℕ → Test → Bool
explains c S t = list_any (λ w. brings_out c (member S) w t) (choices S)

abbrev pub explains_case : Circuit → List Test → List ℕ → Bool
explains_case c ts S = list_all (explains c S) ts

abbrev pub subsets : List ℕ → List (List ℕ)
subsets [] = [] ∷ []
subsets (x ∷ S) = map (λ T. x ∷ T) (subsets S) ++ subsets S

abbrev pub proper_subsets : List ℕ → List (List ℕ)
proper_subsets [] = []
proper_subsets (x ∷ S) = map (λ T. x ∷ T) (proper_subsets S) ++ subsets S

abbrev pub minimal : (List ℕ → Bool) → List ℕ → Bool
minimal explaining S = explaining S && list_all (λ T. not (explaining T)) (proper_subsets S)

abbrev pub choose : ℕ → ℕ → ℕ → List (List ℕ)
choose a m zero = [] ∷ []
choose a zero (suc k) = []
choose a (suc m) (suc k) = map (λ T. a ∷ T) (choose (suc a) m k) ++ choose (suc a) m (suc k)

abbrev pub sizes : ℕ → ℕ → ℕ → List (List ℕ)
sizes n k zero = []
sizes n k (suc d) = choose 1 n k ++ sizes n (suc k) d

abbrev pub minimal_sets : ℕ → (List ℕ → Bool) → ℕ → List (List ℕ)
minimal_sets n explaining N = filter (minimal explaining) (sizes n 0 (suc N))

abbrev pub full_list : Circuit → List Test → ℕ → List (List ℕ)
full_list c ts N = minimal_sets (length c.gates) (explains_case c ts) N
