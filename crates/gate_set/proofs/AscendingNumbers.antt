-- Numbers that ascend up to a limit are sets; and the loop that tells, at place k.
use Rattle.std.proofs.Common.{◌≡◌, ℕ, suc, ◌+◌, ◌<◌, ◌≤◌, true, false, ◌&&◌, ltb, leb, List, [], ◌∷◌, length, get_or, drop, refl, ap, ◌∙◌}
use Rattle.std.proofs.lemmas.List.{at_drop_more, at_drop_all}
use Rattle.std.proofs.lemmas.Bool.{and_parts, and_from, and_left, and_right, leb-true, le-leb, lt-leb, lt-ltb, le-ltb, ltb-true}
use Rattle.diagnosis.specs.Sets.{Ascends}
use Rattle.gate_set.specs.Ascending.{above, AscendingNumbersSets}

above_ascends : (a n : ℕ) (S : List ℕ) → above a n S ≡ true → Ascends (suc a) n S
above_ascends a n [] e = tt
above_ascends a n (x ∷ S) e =
    let (low, rest) = and_parts (ltb a x) (leb x n && above x n S) e in
    let (high, later) = and_parts (leb x n) (above x n S) rest in
    (ltb-true a x low, leb-true x n high, above_ascends x n S later)

ascends_above : (a n : ℕ) (S : List ℕ) → Ascends (suc a) n S → above a n S ≡ true
ascends_above a n [] s = refl
ascends_above a n (x ∷ S) s = and_from (ltb a x) (leb x n && above x n S) (lt-ltb a x s.0) (and_from (leb x n) (above x n S) (le-leb x n s.1) (ascends_above x n S s.2))

pub ascending_numbers_sets : AscendingNumbersSets
ascending_numbers_sets n S = (above_ascends 0 n S, ascends_above 0 n S)

above_next : (n last : ℕ) (S : List ℕ) (k d : ℕ) → k < length S → above last n (drop k S) ≡ (ltb last (get_or S k d) && (leb (get_or S k d) n && above (get_or S k d) n (drop (k + 1) S)))
above_next n last S k d lt = at_drop_more (above last n) S k d lt

pub above_low : (n last : ℕ) (S : List ℕ) (k d : ℕ) → k < length S → get_or S k d ≤ last → above last n (drop k S) ≡ false
above_low n last S k d lt h = above_next n last S k d lt ∙ and_left (ltb last (get_or S k d)) (leb (get_or S k d) n && above (get_or S k d) n (drop (k + 1) S)) (le-ltb last (get_or S k d) h)

pub above_high : (n last : ℕ) (S : List ℕ) (k d : ℕ) → k < length S → n < get_or S k d → above last n (drop k S) ≡ false
above_high n last S k d lt h =
    above_next n last S k d lt
    ∙ and_right (ltb last (get_or S k d)) (leb (get_or S k d) n && above (get_or S k d) n (drop (k + 1) S)) (and_left (leb (get_or S k d) n) (above (get_or S k d) n (drop (k + 1) S)) (lt-leb (get_or S k d) n h))

pub above_more : (n last : ℕ) (S : List ℕ) (k d : ℕ) → k < length S → last < get_or S k d → get_or S k d ≤ n → above last n (drop k S) ≡ above (get_or S k d) n (drop (k + 1) S)
above_more n last S k d lt low high =
    above_next n last S k d lt
    ∙ ap (λ t. t && (leb (get_or S k d) n && above (get_or S k d) n (drop (k + 1) S))) (lt-ltb last (get_or S k d) low)
    ∙ ap (λ t. t && above (get_or S k d) n (drop (k + 1) S)) (le-leb (get_or S k d) n high)

pub above_all : (n last : ℕ) (S : List ℕ) (k : ℕ) → length S ≤ k → above last n (drop k S) ≡ true
above_all n last S k h = at_drop_all (above last n) S k h
