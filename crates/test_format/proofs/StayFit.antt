-- Tests of a circuit stay tests of it, whatever is recorded, amended or struck.
use Rattle.std.proofs.Common.{◌≡◌, ℕ, zero, suc, ◌-◌, Bool, eqb, ltb, List, [], ◌∷◌, ◌++◌, length, take, is_some, Some, None, Ok, Err, Option, Result, refl, ◌∙◌, subst, arith, length-set}
use Rattle.std.specs.List.{AllByRecursion}
use Rattle.std.proofs.ByRecursion.{All-push, All-take}
use Rattle.std.proofs.lemmas.Bool.{eqb-true}
use Rattle.refusal.specs.declared.Refusal.{Refusal}
use Rattle.refusal.specs.Asking.{numbered, ask}
use Rattle.circuit.specs.Circuits.{Circuit}
use Rattle.circuit.specs.Tests.{Test, FitsTest}
use Rattle.test_format.specs.Records.{record_length, all_clear, given, decoded, joined_by}
use Rattle.test_format.specs.Amending.{reading, output_at, with_reading, replaced, amended_by}
use Rattle.test_format.specs.Law.{TestsStayFit}
use Rattle.test_format.proofs.Taken.{ask_taken, given_fits}

pub decoded_fits : (c : Circuit) (bytes : List ℕ) (t : Test) → decoded c bytes ≡ Ok t → FitsTest c t
decoded_fits c bytes t e =
    let I = c.inputs in
    let O = length c.outputs in
    let p = ask_taken 12 (eqb (length bytes) (record_length I O bytes)) (ask (numbered 13) (all_clear I O bytes) (Ok (given I O bytes))) t e in
    let q = ask_taken 13 (all_clear I O bytes) (Ok (given I O bytes)) t p.1 in
    let long = eqb-true (length bytes) (record_length I O bytes) p.0 in
    let same : given I O bytes ≡ t = cc q.1 in
    subst (λ (u : Test). FitsTest c u) same (record { inputs = (given_fits I O bytes long).0; outputs = (given_fits I O bytes long).1 })

joined_fits : (c : Circuit) (ts us : List Test) (r : Result Test Refusal) → ((t : Test) → r ≡ Ok t → FitsTest c t) → AllByRecursion (FitsTest c) ts → joined_by ts r ≡ Ok us → AllByRecursion (FitsTest c) us
joined_fits c ts us (Ok t) f all_fit e = let same : ts ++ t ∷ [] ≡ us = cc in subst (λ (l : List Test). AllByRecursion (FitsTest c) l) same (All-push (FitsTest c) ts t all_fit (f t refl))
joined_fits c ts us (Err r) f all_fit e = let z : ◌≡◌ {A = ℕ} 0 1 = cc in absurd (omega arith)

reading_fits : (c : Circuit) (t : Test) (o : ℕ) (v : Option Bool) → FitsTest c t → FitsTest c (with_reading t o v)
reading_fits c t zero v f = f
reading_fits c t (suc o) v f = record { inputs = f.inputs; outputs = length-set t.outputs o v ∙ f.outputs }

replaced_fits : (c : Circuit) (ts : List Test) (k o : ℕ) (v : Option Bool) → AllByRecursion (FitsTest c) ts → AllByRecursion (FitsTest c) (replaced ts k o v)
unfolding replaced
replaced_fits c [] k o v f = f
replaced_fits c (t ∷ ts) zero o v f = (reading_fits c t o v f.0, f.1)
replaced_fits c (t ∷ ts) (suc k) o v f = (f.0, replaced_fits c ts k o v f.1)

amended_fits : (c : Circuit) (ts us : List Test) (k o : ℕ) (r : Option (Option Bool)) → AllByRecursion (FitsTest c) ts → amended_by ts k o r ≡ Ok us → AllByRecursion (FitsTest c) us
amended_fits c ts us k o None f e = let z : ◌≡◌ {A = ℕ} 0 1 = cc in absurd (omega arith)
amended_fits c ts us k o (Some v) f e =
    let p = ask_taken 14 (is_some (output_at ts k o)) (Ok (replaced ts k o v)) us e in
    let same : replaced ts k o v ≡ us = cc p.1 in
    subst (λ (l : List Test). AllByRecursion (FitsTest c) l) same (replaced_fits c ts k o v f)

pub tests_stay_fit : TestsStayFit
tests_stay_fit c ts us f = record {
  after_record = λ bytes e. joined_fits c ts us (decoded c bytes) (decoded_fits c bytes) f (ask_taken 11 (ltb (length ts) 32) (joined_by ts (decoded c bytes)) us e).1;
  after_amend = λ k o n e. amended_fits c ts us k o (reading n) f e;
  after_strike = λ e.
      let p = ask_taken 15 (ltb 0 (length ts)) (Ok (take (length ts - 1) ts)) us e in
      let same : take (length ts - 1) ts ≡ us = cc p.1 in
      subst (λ (l : List Test). AllByRecursion (FitsTest c) l) same (All-take (FitsTest c) (length ts - 1) ts f);
}
