-- What an assignment says of one literal more, of clauses in parts, and of two properties at once.
use Rattle.std.proofs.Common.{◌≡◌, ℕ, ◌+◌, ◌<◌, ◌≤◌, Bool, true, false, ◌||◌, eqb, ltb, leb, List, ℤ, nat_abs, Option, Some, None, sym, refl, ap, ◌∙◌, ⊎_elim, arith}
use Rattle.std.proofs.lemmas.Bool.{or_left, or_cases, false≢true, cond-false, ne_eqb, ltb-true, leb-true, and_parts, cases_eq, cases_lt}
use Rattle.std.specs.Option.{MatchOption, option_or}
use Rattle.solver.specs.Rows.{Row, holds, named}
use Rattle.assignment.specs.declared.Status.{Status}
use Rattle.assignment.specs.declared.Status.TheVariants.{Satisfied, Conflict, Forced, Open}
use Rattle.assignment.specs.Stored.{place_true, stored_true, StoredTrue, Between}
use Rattle.assignment.specs.Assignment.{row_of, Extends, Free}
use Rattle.assignment.specs.Statuses.{Tells, Hinted, first_unless_satisfied, first_finding}
use Rattle.assignment.specs.declared.Finding.{Finding}

-- a literal in a place that is not empty
pub place_some : (row : Row) (x : ℤ) → 1 ≤ nat_abs x → place_true row x ≡ holds row x
place_some row x l = cond-false (eqb (nat_abs x) 0) false (holds row x) (ne_eqb (nat_abs x) 0 (λ e. omega (arith, e)))

or_rest : (a b : Bool) → b ≡ false → (a || b) ≡ true → a ≡ true
or_rest a b e h = ⊎_elim (λ (t : a ≡ true). t) (λ (t : b ≡ true). absurd (false≢true (sym e ∙ t))) (or_cases a b h)

module _ (vs : List ℤ) (f : Row → Bool) (x : ℤ) where
  pub with_false : ((row : Row) → Extends row vs → place_true row x ≡ false) → (s : Status) → Tells vs (λ row. f row ≡ true) s → Tells vs (λ row. (f row || place_true row x) ≡ true) s
  with_false n Satisfied t = or_left _ _ t
  with_false n Conflict t = λ row e h. t row e (or_rest (f row) (place_true row x) (n row e) h)
  with_false n (Forced y) t = (t.0, λ row e h. t.1 row e (or_rest (f row) (place_true row x) (n row e) h))
  with_false n (Open y) t = t

pub named_some : (vars : ℕ) (x : ℤ) → named vars x ≡ true → 1 ≤ nat_abs x
named_some vars x h = ltb-true 0 (nat_abs x) (and_parts (ltb 0 (nat_abs x)) (leb (nat_abs x) vars) h).0

pub named_within : (vars : ℕ) (x : ℤ) → named vars x ≡ true → nat_abs x ≤ vars
named_within vars x h = leb-true (nat_abs x) vars (and_parts (ltb 0 (nat_abs x)) (leb (nat_abs x) vars) h).1

-- what is told of two properties, the second of which the row of the values has
pub tells_first_of_two : (vs : List ℤ) (P Q : Row → Type 0) → Q (row_of vs) → (s : Status) → Tells vs P s → Tells vs (λ row. P row × Q row) s
tells_first_of_two vs P Q q Satisfied t = (t, q)
tells_first_of_two vs P Q q Conflict t = λ row e h. t row e h.0
tells_first_of_two vs P Q q (Forced x) t = (t.0, λ row e h. t.1 row e h.0)
tells_first_of_two vs P Q q (Open x) t = t

-- what is told of the second, unless the row of the values has it
pub tells_second_of_two : (vs : List ℤ) (P Q : Row → Type 0) (s : Status) → (s ≡ Satisfied → ⊥) → Tells vs Q s → Tells vs (λ row. P row × Q row) s
tells_second_of_two vs P Q Satisfied n t = absurd (n refl)
tells_second_of_two vs P Q Conflict n t = λ row e h. t row e h.1
tells_second_of_two vs P Q (Forced x) n t = (t.0, λ row e h. t.1 row e h.1)
tells_second_of_two vs P Q (Open x) n t = t

-- what one of the clauses tells, unless that it is true, they all tell
pub tells_of_one : (vs xs : List ℤ) (from to k : ℕ) → from ≤ k → k < to → (s : Status) → (s ≡ Satisfied → ⊥) → Tells vs (λ row. stored_true row xs k ≡ true) s → Tells vs (λ row. Between row xs from to) s
tells_of_one vs xs from to k l h Satisfied n t = absurd (n refl)
tells_of_one vs xs from to k l h Conflict n t = λ row e b. t row e (b k l h)
tells_of_one vs xs from to k l h (Forced x) n t = (t.0, λ row e b. t.1 row e (b k l h))
tells_of_one vs xs from to k l h (Open x) n t = t

-- What a scan from a clause on knows at clause k: all clauses so far are true, or a literal is open.
abbrev pub Scanned : List ℤ → List ℤ → ℕ → ℕ → Option ℤ → Type 0
Scanned vs xs from k open' = MatchOption open' (Between (row_of vs) xs from k) (Free vs)

pub scanned_satisfied : (vs xs : List ℤ) (from k : ℕ) (open' : Option ℤ) → Scanned vs xs from k open' → stored_true (row_of vs) xs k ≡ true → Scanned vs xs from (k + 1) open'
scanned_satisfied vs xs from k None h t = λ j a b. ⊎_elim (λ (e : j ≡ k). ap (stored_true (row_of vs) xs) e ∙ t) (λ (ne : j ≡ k → ⊥). h j a (omega (arith, ne))) (cases_eq j k)
scanned_satisfied vs xs from k (Some x) h t = h

pub scanned_open : (vs xs : List ℤ) (from k : ℕ) (open' : Option ℤ) (x : ℤ) → Scanned vs xs from k open' → Free vs x → Scanned vs xs from (k + 1) (option_or open' (Some x))
scanned_open vs xs from k None x h f = f
scanned_open vs xs from k (Some y) x h f = h

-- a scan in two parts
module _ (vs xs : List ℤ) (mid count : ℕ) where
  pub tells_late_part : mid ≤ count → (s : Status) → (s ≡ Satisfied → ⊥) → Tells vs (λ row. Between row xs mid count) s → Tells vs (λ row. StoredTrue row xs count) s
  tells_late_part l Satisfied n t = absurd (n refl)
  tells_late_part l Conflict n t = λ row e h. t row e (λ k a b. h k b)
  tells_late_part l (Forced x) n t = (t.0, λ row e h. t.1 row e (λ k a b. h k b))
  tells_late_part l (Open x) n t = t

  tells_late_part_too : (r : Status) → Between (row_of vs) xs 0 mid → Tells vs (λ row. Between row xs mid count) r → Tells vs (λ row. StoredTrue row xs count) r
  tells_late_part_too Satisfied t u = λ k b. ⊎_elim (λ (a : k < mid). t k (omega arith) a) (λ (a : mid ≤ k). u k a b) (cases_lt k mid)
  tells_late_part_too Conflict t u = λ row e h. u row e (λ k a b. h k b)
  tells_late_part_too (Forced x) t u = (u.0, λ row e h. u.1 row e (λ k a b. h k b))
  tells_late_part_too (Open x) t u = u

  tells_early_part : mid ≤ count → (s : Status) (early late : Finding) → early.status ≡ s → Tells vs (λ row. Between row xs 0 mid) s → Tells vs (λ row. Between row xs mid count) late.status → Tells vs (λ row. StoredTrue row xs count) (first_unless_satisfied s early late).status
  tells_early_part l Satisfied early late q t u = tells_late_part_too late.status t u
  tells_early_part l Conflict early late q t u = rw q (λ row e h. t row e (λ k a b. h k (omega arith)))
  tells_early_part l (Forced x) early late q t u = rw q (t.0, λ row e h. t.1 row e (λ k a b. h k (omega arith)))
  tells_early_part l (Open x) early late q t u = rw q t

  pub tells_both_parts : mid ≤ count → (early late : Finding) → Tells vs (λ row. Between row xs 0 mid) early.status → Tells vs (λ row. Between row xs mid count) late.status → Tells vs (λ row. StoredTrue row xs count) (first_finding early late).status
  tells_both_parts l early late t u = tells_early_part l early.status early late refl t u

-- what a hint says of the first of two properties, it says of both
pub hinted_tells : (vs : List ℤ) (P Q : Row → Type 0) (s : Status) → Hinted vs P s → Tells vs (λ row. P row × Q row) s
hinted_tells vs P Q Satisfied h = absurd h
hinted_tells vs P Q Conflict h = λ row e b. h row e b.0
hinted_tells vs P Q (Forced x) h = (h.0, λ row e b. h.1 row e b.0)
hinted_tells vs P Q (Open x) h = absurd h
