-- The first piece of a log, and what follows it.
use Rattle.std.proofs.Common.{◌≡◌, ℕ, ◌+◌, ◌*◌, ◌<◌, ◌≤◌, Bool, true, false, cond, eqb, ◌⊎◌, List, [], ◌∷◌, ◌++◌, length, take, drop, sym, refl, ap, ◌∙◌, subst, inl, inr, arith, length-drop, length-take}
use Rattle.std.proofs.lemmas.List.{take_at, drop_at, take_all, drop_all, take-append-drop, append-nil}
use Rattle.std.proofs.lemmas.Bool.{eqb-false, eqb-true, eq-eqb, ne_eqb, cond-true, cond-false}
use Rattle.circuit.specs.Circuits.{Circuit}
use Rattle.test_format.specs.Packing.{bytes_for}
use Rattle.test_format.specs.Records.{ones}
use Rattle.test_format.specs.Logs.{required, first_record, after_first}
use Rattle.test_format.specs.Law.{HasSignals}
use Rattle.test_format.proofs.Grouped.{front_bits}

-- what comes behind its map does not change what a record requires
pub required_front : (c : Circuit) (p rest : List ℕ) → length c.outputs ≤ 8 * length p → required c (p ++ rest) ≡ required c p
required_front c p rest h = ap (λ (l : List Bool). bytes_for (length c.outputs) + bytes_for c.inputs + bytes_for (ones l)) (front_bits (length c.outputs) p rest h)

pub required_some : (c : Circuit) (log : List ℕ) → HasSignals c → 0 < required c log
required_some c log h = omega arith

-- ── cut after n bytes, or not at all ──
pub record CutOff (log p rest : List ℕ) (n : ℕ) : Type 0 where
  pub joined : p ++ rest ≡ log
  pub some : 0 < length p
  pub shorter : length rest < length log
  pub exact : 0 < length rest → length p ≡ n
  pub short : 0 < n → length p ≤ n

cut_off : (n : ℕ) (z : Bool) (log : List ℕ) → eqb n 0 ≡ z → 0 < length log → CutOff log (cond z log (take n log)) (cond z [] (drop n log)) n
cut_off n true log e h = record {
  joined = append-nil log;
  some = h;
  shorter = h;
  exact = λ l. absurd (omega arith);
  short = λ l. absurd (omega (arith, eqb-true n 0 e));
}
cut_off n false log e h =
    let pos : 0 < n = let no = eqb-false n 0 e in grind arith in
    let lt = length-take n log in
    let ld = length-drop n log in
    record {
      joined = take-append-drop n log;
      some = omega arith;
      shorter = omega arith;
      exact = λ l. omega arith;
      short = λ l. omega arith;
    }

pub first_cut_off : (c : Circuit) (log : List ℕ) → 0 < length log → CutOff log (first_record c log) (after_first c log) (required c log)
first_cut_off c log h = cut_off (required c log) (eqb (required c log) 0) log refl h

-- the first piece requires as much as the log at whose front it stands
pub required_first : (c : Circuit) (log p rest : List ℕ) → CutOff log p rest (required c log) → required c p ≡ required c log
required_first c log p [] k = ap (required c) (sym (append-nil p) ∙ k.joined)
required_first c log p (x ∷ rest) k =
    let long : length p ≡ required c log = k.exact (omega arith) in
    sym (required_front c p (x ∷ rest) (omega arith)) ∙ ap (required c) k.joined

-- ── a piece at the front of a log is the first piece ──
pub first_is : (c : Circuit) (p rest : List ℕ) → HasSignals c → (length p ≡ required c p) ⊎ ((rest ≡ []) × (length p ≤ required c p)) → (first_record c (p ++ rest) ≡ p) × (after_first c (p ++ rest) ≡ rest)
first_is c p rest sig (inl e) =
    let pos = required_some c p sig in
    let same : required c (p ++ rest) ≡ length p = required_front c p rest (omega arith) ∙ sym e in
    let no : eqb (required c (p ++ rest)) 0 ≡ false = ne_eqb (required c (p ++ rest)) 0 (λ z. omega arith) in (
      cond-false _ (p ++ rest) (take (required c (p ++ rest)) (p ++ rest)) no ∙ take_at p rest (required c (p ++ rest)) (sym same),
      cond-false _ [] (drop (required c (p ++ rest)) (p ++ rest)) no ∙ drop_at p rest (required c (p ++ rest)) (sym same),
    )
first_is c p rest sig (inr e) =
    let pos = required_some c (p ++ rest) sig in
    let no : eqb (required c (p ++ rest)) 0 ≡ false = ne_eqb (required c (p ++ rest)) 0 (λ z. omega arith) in
    let whole : p ++ rest ≡ p = ap (λ (l : List ℕ). p ++ l) e.0 ∙ append-nil p in
    let n : length (p ++ rest) ≤ required c (p ++ rest) = subst (λ (l : List ℕ). length l ≤ required c l) (sym whole) e.1 in (
      cond-false _ (p ++ rest) (take (required c (p ++ rest)) (p ++ rest)) no ∙ take_all (required c (p ++ rest)) (p ++ rest) n ∙ whole,
      cond-false _ [] (drop (required c (p ++ rest)) (p ++ rest)) no ∙ drop_all (required c (p ++ rest)) (p ++ rest) n ∙ sym e.0,
    )

-- ── cut off by what the map requires, or not cut ──
pub first_part : (c : Circuit) (log : List ℕ) (n : ℕ) → n ≡ required c log → (n ≡ 0 → ⊥) → (take n log ≡ first_record c log) × (drop n log ≡ after_first c log)
first_part c log n e some_byte =
    let some : eqb (required c log) 0 ≡ false = ne_eqb (required c log) 0 (λ z. some_byte (e ∙ z)) in
    (ap (λ k. take k log) e ∙ sym (cond-false _ log (take (required c log) log) some), ap (λ k. drop k log) e ∙ sym (cond-false _ [] (drop (required c log) log) some))

pub first_whole : (c : Circuit) (log : List ℕ) (n : ℕ) → n ≡ required c log → (n ≡ 0) ⊎ (length log < n) → (take (length log) log ≡ first_record c log) × (drop (length log) log ≡ after_first c log)
first_whole c log n e (inl z) =
    let none : eqb (required c log) 0 ≡ true = eq-eqb (required c log) 0 (sym e ∙ z) in
    (take_all (length log) log (omega arith) ∙ sym (cond-true _ log (take (required c log) log) none), drop_all (length log) log (omega arith) ∙ sym (cond-true _ [] (drop (required c log) log) none))
first_whole c log n e (inr l) =
    let part = first_part c log n e (λ z. omega arith) in
    (take_all (length log) log (omega arith) ∙ sym (take_all n log (omega arith)) ∙ part.0, drop_all (length log) log (omega arith) ∙ sym (drop_all n log (omega arith)) ∙ part.1)
