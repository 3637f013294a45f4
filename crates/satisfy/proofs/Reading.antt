-- What the answer for a variable says of its place.
use Rattle.std.proofs.Common.{◌≡◌, ℕ, suc, ◌+◌, ◌≤◌, Bool, true, false, ◌&&◌, ltb, leb, is_some, Some, None, Option, Ok, Err, Result, sym, refl, ap, ◌∙◌, ⊎_elim, add-one, arith}
use Rattle.std.proofs.lemmas.Bool.{and_parts, and_cases, cond-true, cond-false, lt-ltb, le-ltb, leb-true, leb-false, ltb-false, true≢false, false≢true}
use Rattle.solver.specs.Rows.{Row}
use Rattle.std.specs.Result.{IfOk, result_unwrap_or}
use Rattle.solver.specs.declared.fault.SolverFault.{SolverFault}
use Rattle.solver.specs.Refusals.{refusal, asked, Shows}
use Rattle.satisfy.specs.Questions.{read_at}

taken : (b : Bool) → None ≡ asked 24 b None → b ≡ true
taken true h = refl
taken false h = absurd (false≢true (ap is_some h))

untaken : (b : Bool) (k : ℕ) → Some k ≡ asked 24 b None → b ≡ false
untaken true k h = absurd (true≢false (ap is_some h))
untaken false k h = refl

read_shown : (vars : ℕ) (shown : Option Row) (i : ℕ) (v old : Bool) → None ≡ asked 24 (is_some shown && (ltb 0 (i + 1) && leb (i + 1) vars)) None → Shows shown (i + 1) v → v ≡ read_at vars shown i old
read_shown vars None i v old h s = absurd s
read_shown vars (Some row) i v old h s =
    let within = leb-true (i + 1) vars (and_parts (ltb 0 (i + 1)) _ (taken (ltb 0 (i + 1) && leb (i + 1) vars) h)).1 in
    s ∙ ap row (add-one i) ∙ sym (cond-true (ltb i vars) (row (suc i)) old (lt-ltb i vars (omega arith)))

read_old : (vars : ℕ) (shown : Option Row) (i : ℕ) (old : Bool) (k : ℕ) → Some k ≡ asked 24 (is_some shown && (ltb 0 (i + 1) && leb (i + 1) vars)) None → old ≡ read_at vars shown i old
read_old vars None i old k h = refl
read_old vars (Some row) i old k h =
    let beyond : vars ≤ i = ⊎_elim (λ e. absurd (omega (arith, ltb-false 0 (i + 1) e))) (λ e. let l = leb-false (i + 1) vars e in omega arith) (and_cases (ltb 0 (i + 1)) (leb (i + 1) vars) (untaken (ltb 0 (i + 1) && leb (i + 1) vars) k h)) in
    sym (cond-false (ltb i vars) (row (suc i)) old (le-ltb i vars beyond))

-- the value told, or what was there
pub read_back : (vars : ℕ) (shown : Option Row) (i : ℕ) (old : Bool) (told : Result Bool SolverFault) → refusal told ≡ asked 24 (is_some shown && (ltb 0 (i + 1) && leb (i + 1) vars)) None → IfOk told (Shows shown (i + 1)) → result_unwrap_or told old ≡ read_at vars shown i old
read_back vars shown i old (Ok v) h s = read_shown vars shown i v old h s
read_back vars shown i old (Err e) h s = read_old vars shown i old _ h
